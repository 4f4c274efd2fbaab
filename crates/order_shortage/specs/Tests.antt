-- The tests of stock, of cash and of room.
use Rattle.std.specs.Prelude.{ℕ, true, false, List, [], ◌∷◌, Option, Some, None, ltb}
use Rattle.sequences.specs.Checks.{Check, check}
use Rattle.rules.specs.declared.Kind.{Kind}
use Rattle.rules.specs.declared.Rooms.{Rooms}
use Rattle.rules.specs.declared.Counts.{Counts}
use Rattle.rules.specs.Lent.{too_short}
use Rattle.rules.specs.Kinds.{by_kind}

-- a test that fails at a place, with a refusal's number
abbrev pub fails_at : ℕ → Option ℕ → Check
fails_at number (Some place) = check true number place
fails_at number None = check false number 0

-- 9 of a creation, at the first component that is short; 9 of a redemption with so many units available, and 17
unfoldable pub stock_tests : Kind → ℕ → ℕ → Option ℕ → List Check
stock_tests kind available units short =
    by_kind kind
    (fails_at 9 short ∷ [])
    (check (ltb available units) 9 0 ∷ fails_at 17 short ∷ [])

-- cash that must be there, with a refusal's number and place, and 16: the room for the records and the reports
unfoldable pub last_tests : ℕ → ℕ → ℕ → ℕ → Rooms → Counts → List Check
last_tests number place held due rooms counts =
    check (ltb held due) number place
    ∷ check (too_short rooms counts) 16 0
    ∷ []

-- 10 where the account lacks cash, 17 and the unit's line n where the fund does
unfoldable pub cash_number : Kind → ℕ
cash_number kind = by_kind kind 10 17

unfoldable pub cash_place : Kind → ℕ → ℕ
cash_place kind n = by_kind kind 0 n
