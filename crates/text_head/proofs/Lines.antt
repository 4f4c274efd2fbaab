-- A line that is passed, by what the code's tests say of it.
use mathlib.Core.Bool.{Bool, true, false}
use mathlib.Core.List.{List}
use mathlib.Core.Path.{◌≡◌, sym, ap, ◌∙◌}
use Prim.Native.Nat.{ℕ, ◌+◌, ◌-◌}
use lib.ListN.{length, take, drop}
use Rattle.std.proofs.Common.{Ok, Err}
use Rattle.lines.specs.Lines.{ended, first_line, next_at}
use Rattle.lines.proofs.Laws.{first-length}
use Rattle.text_rules.specs.Reading.{line_stands}
use Rattle.std.proofs.lemmas.List.{take_rest}
use Rattle.text_lines.proofs.Standing.{stands_none, stands_some}
use Rattle.text_head.specs.Head.{line_passed}

module _ (test : List ℕ → Bool) (text : List ℕ) (k at : ℕ) where
  passed_not : false ≡ line_stands test text at → Err (record { line = k; place = at }) ≡ line_passed test text k at
  unfolding line_passed
  passed_not h = rw (← h)

  pub passed_open : ended (take (length text - at) (drop at text)) ≡ false → Err (record { line = k; place = at }) ≡ line_passed test text k at
  passed_open h = passed_not (stands_none test text at h)

  module _ (h : ended (take (length text - at) (drop at text)) ≡ true) (line : List ℕ) (is : line ≡ first_line (take (length text - at) (drop at text)))
      (b : Bool) (said : b ≡ test line) where
    pub passed_other : b ≡ false → Err (record { line = k; place = at }) ≡ line_passed test text k at
    passed_other f = passed_not (sym f ∙ stands_some test text at h is said)

    pub passed_on : b ≡ true → Ok (at + (length line + 2)) ≡ line_passed test text k at
    unfolding line_passed next_at
    passed_on f =
        rw (← stands_some test text at h is said, f)
        (ap (λ (n : ℕ). Ok (at + (n + 2))) (ap length (is ∙ ap first_line (take_rest text at)) ∙ first-length (drop at text)))
