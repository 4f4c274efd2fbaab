-- The answer of the tests of writing.
use Rattle.std.specs.Prelude.{ℕ, Result, Ok, Err}
use Rattle.rules.specs.declared.Refusal.{Refusal}

-- with the size alone, and without the list
abbrev pub size_told : {C : Type 0} → Result (C × ℕ) Refusal → Result ℕ Refusal
size_told (Ok accepted) = Ok accepted.1
size_told (Err why) = Err why
