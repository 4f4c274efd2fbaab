-- The sum of the components' worth, the answer from it, and that a sound day is priceable.
use mathlib.Core.Path.{◌≡◌, refl, sym, ◌∙◌}
use mathlib.Core.Bool.{Bool, true, false, cond, not}
use mathlib.Core.List.{List, [], ◌∷◌}
use Prim.Native.Nat.{ℕ, ◌+◌, ◌≤◌, ◌<◌}
use native.Mathlib.Nat.{le_trans}
use native.Mathlib.Omega.{arith}
use lib.Dec.{leb, lit≤}
use lib.IntN.{ℤ}
use Rattle.sequences.specs.Below.{sum_below, any_below}
use Rattle.sequences.specs.Every.{every}
use Rattle.sequences.specs.Checks.{reply, answering, answered}
use Rattle.sequences.proofs.Below.{sum_le, sum_more, any_more, any_here, cond_le}
use Rattle.units.proofs.Laws.{under}
use Rattle.flags.specs.Table.{FlagTable, entry, priced}
use Rattle.layout.specs.declared.Component.{Component}
use Rattle.fund.proofs.Laws.{fund_sound, components_fine}
use Rattle.layout.specs.Day.{Day}
use Rattle.rules.specs.Lines.{component_of, column, quantity, creation_amount, price_of}
use Rattle.rules.specs.Value.{worth_at, lacks_price, cash_added, cash_taken, worth_before, reference_value, has_value, value_checks}
use Rattle.rules.proofs.SoundDay.{SoundDay}
use Rattle.value.specs.Worth.{worth, lacks, value_from, Countable, Priceable}

-- a sound day's components, prices and fund are in their ranges
pub priceable : (d : Day) (b ps : List ℕ) → SoundDay d b ps → Priceable d ps
priceable d b ps s =
    let fund = fund_sound d.fund s.own.fund_fields in
    record {
      count = s.own.count_high;
      prices_size = s.prices.prices_size;
      size_low = fund.size_low;
      size_high = fund.size_high;
      cash = fund.cash;
      countable = λ k h.
          let c = components_fine d.table d.fund.first_code d.components d.count s.own.components k h in
          record { used = c.flag; quantity = c.quantity; amount = c.amount; cost = s.prices.prices_most k h };
    }

-- The sum.

worth_small : (t : FlagTable) (c : Component) (price : ℕ) → Countable t c price → worth t c price ≤ 1_000_000_000_000_000
unfolding worth
worth_small t c price r =
    let high = under 99_999_999 9_999_999 r.quantity r.cost in
    cond_le (entry t c.flag priced) (le_trans high (lit≤ tt)) (omega (arith, r.amount))

module _ (d : Day) (ps : List ℕ) where
  -- one component more
  pub sum_next : (i : ℕ) → sum_below (worth_at d ps) i + worth d.table (component_of d i) (price_of ps i) ≡ sum_below (worth_at d ps) (i + 1)
  unfolding worth_at worth column quantity creation_amount
  sum_next i = sym (sum_more (worth_at d ps) i)

  pub priced_next : (i : ℕ) → any_below (lacks_price d ps) i ≡ false → lacks d.table (component_of d i) (price_of ps i) ≡ false → any_below (lacks_price d ps) (i + 1) ≡ false
  unfolding lacks_price lacks column quantity
  priced_next i none here = any_more (lacks_price d ps) i ∙ simp (none, here)

  pub sum_small : Priceable d ps → (i : ℕ) → i ≤ d.count → sum_below (worth_at d ps) i ≤ 300_000_000_000_000_000
  unfolding worth_at worth column quantity creation_amount
  sum_small p i h =
      let each = sum_le (worth_at d ps) i 1_000_000_000_000_000 (λ k l. worth_small d.table (component_of d k) (price_of ps k) (p.countable k (omega arith))) in
      omega (arith, p.count)

  -- The answer.

  -- where a price is missing there is no value
  pub unpriced : (i v : ℕ) → i < d.count → lacks d.table (component_of d i) (price_of ps i) ≡ true → reply 14 0 0 ≡ answered (value_checks d ps) v
  unfolding value_checks has_value answering every lacks_price lacks column quantity
  unpriced i v h e = simp (any_here (lacks_price d ps) d.count i h e)

  chosen : (b : Bool) (x : ℕ) → cond b (reply 0 0 x) (reply 14 0 0) ≡ cond (not b) (reply 14 0 0) (reply 0 0 x)
  chosen true x = refl
  chosen false x = refl

  -- where none is, the sum decides
  pub priced_all : (i sum size : ℕ) (cash : ℤ) → i ≡ d.count → any_below (lacks_price d ps) i ≡ false → sum ≡ sum_below (worth_at d ps) i
      → cash ≡ d.fund.estimated_cash → size ≡ d.fund.basket_size
      → value_from (sum + cash_added cash) (cash_taken cash) size ≡ answered (value_checks d ps) (reference_value d ps)
  unfolding value_from value_checks has_value reference_value worth_before answering every
  priced_all i sum size cash all none is same basket =
      rw (is, same, basket, all, rw all at none)
      (chosen
      (every (leb (cash_taken d.fund.estimated_cash) (worth_before d ps) ∷ leb (reference_value d ps) 9_999_999 ∷ []))
      (reference_value d ps))
