-- A list's fields as they are stored, and read back.
use mathlib.Core.Path.{◌≡◌, refl, ap, ap₂, ◌∙◌}
use mathlib.Core.List.{List, [], ◌∷◌, ◌++◌, append-nil}
use Prim.Native.Nat.{ℕ, ◌+◌, ◌-◌, ◌≤◌}
use native.Mathlib.Omega.{arith}
use lib.IntN.{nat_abs}
use lib.ListN.{length, length-append, drop_of_length-le}
use lib.Seq.{sets, length-sets, drop_at}
use borrow.Rule.Slice.PartMut.{put_mid}
use Rattle.sequences.proofs.Runs.{sets_append, sets_front}
use Rattle.digits.specs.Digits.{cap}
use Rattle.layout.specs.Places.{limit_count, fund_width}
use Rattle.layout.specs.Fund.{signed_numbers, fund_numbers}
use Rattle.layout.proofs.Stored.{fund-length, numbers_stored}
use Rattle.layout.proofs.Day.{number_at, signed_back, fund_back}
use Rattle.list_rules.specs.declared.ListFields.{ListFields}
use Rattle.list_layout.specs.Run.{fields_width, fields_at, fields_numbers}

-- a run stored in all of a run
all_stored : (vs run : List ℕ) → length vs ≡ length run → sets run 0 vs ≡ vs
all_stored vs run e =
    sets_front vs run (omega arith)
    ∙ ap (λ (r : List ℕ). vs ++ r) (drop_of_length-le run {i = length vs} (omega arith))
    ∙ append-nil vs

-- the fields behind the fund
abbrev rest_numbers : ListFields → List ℕ
rest_numbers l = l.publish ∷ l.trading_day ∷ l.pre_trading_day ∷ (signed_numbers l.cash_component ++ (l.nav_per_cu ∷ l.nav ∷ l.count ∷ []))

module _ (l : ListFields) (run : List ℕ) (full : length run ≡ fields_width) where
  pub fields_stored : (fund rest : List ℕ) → fund ≡ sets run 0 (fund_numbers l.fund) → rest ≡ rest_numbers l
      → put_mid fund_width (fields_width - fund_width) fund rest ≡ fields_numbers l
  unfolding fields_numbers signed_numbers
  fields_stored fund rest p q =
      let long : length fund ≡ fields_width = ap length p ∙ length-sets run 0 (fund_numbers l.fund) ∙ full in
      numbers_stored fund fund_width (fields_width - fund_width) rest (rest_numbers l) (omega arith) (omega (arith, long)) q
      ∙ ap₂ (λ (f : List ℕ) (n : ℕ). sets f n (rest_numbers l)) p (omega (arith, fund-length l.fund))
      ∙ sets_append (fund_numbers l.fund) (rest_numbers l) run 0
      ∙ all_stored (fund_numbers l.fund ++ rest_numbers l) run (rw length-append (omega (arith, fund-length l.fund)))

-- what is read from the numbers of a list's fields is the fields
module _ (l : ListFields) where
  pub fields_flat : length l.fund.limits ≡ limit_count → nat_abs l.fund.estimated_cash ≤ cap
      → nat_abs l.cash_component ≤ cap → fields_at (fields_numbers l) ≡ l
  unfolding fields_at fields_numbers signed_numbers
  fields_flat limits small cash =
      let rest = rest_numbers l in
      let there = number_at (fields_numbers l) fund_width rest (drop_at (fund_numbers l.fund) rest fund_width (fund-length l.fund)) in
      rw (
        fund_back (fields_numbers l) 0 l.fund rest refl limits small,
        there 0,
        there 1,
        there 2,
        there 5,
        there 6,
        there 7,
        signed_back (fields_numbers l) (fund_width + 3) l.cash_component cash (there 3) (there 4),
      )
