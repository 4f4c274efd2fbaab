-- The tests of refusal 4 on the totals of the holdings as far as 2^62.
use mathlib.Core.Path.{◌≡◌, refl, sym, ap, ◌∙◌}
use mathlib.Core.List.{List}
use Prim.Native.Nat.{ℕ, suc, ◌+◌, ◌*◌, ◌<◌, min}
use native.Mathlib.Decide.{dec_lt}
use native.Mathlib.Omega.{arith}
use native.Mathlib.Numerals.{add-one}
use mathlib.Core.Bool.{Bool, true, false, cond, ◌||◌}
use lib.Dec.{ltb}
use lib.ListN.{get_or}
use borrow.Author.Tests.{lt-ltb, le-ltb, ltb-true}
use Rattle.std.proofs.lemmas.Bool.Decides.{nat_tests}
use Rattle.sequences.specs.Stretch.{over, stretch_of}
use Rattle.std.specs.Prelude.{Option, Some, None}
use Rattle.std.specs.Bool.{then_some}
use Rattle.std.specs.Option.{option_or}
use Rattle.sequences.specs.Below.{below, first_below}
use Rattle.sequences.proofs.Below.{first_same, sum_same, below-some, below-none}
use Rattle.sequences.proofs.Stretch.{stretch_at}
use Rattle.totals.specs.Totals.{top, place_at, total, capped_total}
use Rattle.totals.proofs.Sums.{capped_is}
use Rattle.rules.specs.Opening.{cash_opened, held_opened, most_of_line, most_cash, over_at, total_fault}
use Rattle.rules.proofs.SoundDay.{over_units, over_cash}
use Rattle.opening.specs.Given.{totals_in, totals_of}

-- a total as far as 2^62 is above a limit where the total is
capped_test : (most t : ℕ) → most < top → ltb most (min t top) ≡ ltb most t
capped_test most t l = grind (arith, nat_tests)

-- a total of the holdings is that of a place of their rows
row_total : (w accounts k : ℕ) (holdings : List ℕ) → k < w → over w accounts (λ h. get_or h k 0) holdings ≡ total holdings w accounts k
unfolding over total place_at
row_total w accounts k holdings h = sum_same _ _ accounts (λ a _. stretch_at w holdings a k h)

module _ (accounts n : ℕ) (holdings t : List ℕ) (sums : (k : ℕ) → k < n + 2 → get_or t k 0 ≡ capped_total holdings (n + 2) accounts k) where
  -- a test on a place of t is that on the holdings' total
  place_test : (most k : ℕ) → most < top → k < n + 2 → ltb most (get_or t k 0) ≡ ltb most (over (n + 2) accounts (λ h. get_or h k 0) holdings)
  place_test most k l h =
      ap (λ (x : ℕ). ltb most x) (sums k h ∙ capped_is holdings (n + 2) accounts k)
      ∙ capped_test most (total holdings (n + 2) accounts k) l
      ∙ ap (λ (x : ℕ). ltb most x) (sym (row_total (n + 2) accounts k holdings h))

  fund_units_lem : get_or holdings (n + 1) 0 ≡ held_opened n (stretch_of (n + 2) holdings 0)
  unfolding held_opened
  fund_units_lem =
      let e : n + 1 ≡ 0 * (n + 2) + (1 + n) = omega arith in
      ap (λ (i : ℕ). get_or holdings i 0) e ∙ sym (stretch_at (n + 2) holdings 0 (1 + n) (omega arith))

  over_same : (i : ℕ) → i < n + 2 → over_at n (totals_in t (get_or holdings (n + 1) 0)) i ≡ over_at n (totals_of accounts n holdings) i
  unfolding over_at held_opened cash_opened
  over_same i h = case (dec_lt i n)
    where
      case : Dec (i < n) → over_at n (totals_in t (get_or holdings (n + 1) 0)) i ≡ over_at n (totals_of accounts n holdings) i
      case (yes l) = rw (lt-ltb i n l) (place_test most_of_line (1 + i) (omega arith) (omega arith))
      case (no l) = rw (le-ltb i n (omega arith), place_test most_of_line (1 + n) (omega arith) (omega arith), fund_units_lem, place_test most_cash 0 (omega arith) (omega arith))

  pub fault_same : total_fault n (totals_in t (get_or holdings (n + 1) 0)) ≡ total_fault n (totals_of accounts n holdings)
  unfolding total_fault
  fault_same = first_same _ _ (n + 2) over_same

-- Searches that go on: of what is found below n and of the place n.

go_on : (n k : ℕ) (p q : Bool) → ltb k n ≡ p → option_or (cond p (Some k) None) (then_some q n) ≡ below (suc n) (cond p k (cond q n (suc n)))
go_on n k true q e = sym (below-some (suc n) k (omega (arith, ltb-true k n e)))
go_on n k false true e = sym (below-some (suc n) n (omega arith))
go_on n k false false e = sym (below-none (suc n) (suc n) (omega arith))

below_on : (f : ℕ → Bool) (n : ℕ) → option_or (below n (first_below f n)) (then_some (f n) n) ≡ below (n + 1) (first_below f (n + 1))
unfolding first_below
below_on f n = rw (add-one, first_below) (go_on n (first_below f n) _ (f n) refl)

-- the lines, then the unit and cash
module _ (n : ℕ) (t : List ℕ) (units : ℕ) where
  abbrev pub is_over : ℕ → Bool
  is_over = over_at n (totals_in t units)

  pub over_unit : is_over n ≡ (ltb most_of_line (get_or t (n + 1) 0) || ltb 0 units)
  over_unit =
      let e : 1 + n ≡ n + 1 = omega arith in
      over_units n (totals_in t units) ∙ rw e

  pub first_of_all : (line : Option ℕ) (unit : Bool) → line ≡ below n (first_below is_over n) → unit ≡ is_over n
      → option_or (option_or line (then_some unit n)) (then_some (ltb most_cash (get_or t 0 0)) (n + 1)) ≡ below (n + 2) (total_fault n (totals_in t units))
  unfolding total_fault
  first_of_all line unit e f =
      let two : n + 1 + 1 ≡ n + 2 = omega arith in
      rw (e, f, ← over_cash n (totals_in t units), below_on is_over n) (below_on is_over (n + 1) ∙ ap (λ (m : ℕ). below m (first_below is_over m)) two)
