-- One component in an order: its numbers are small, and the parts that the code finds make its line.
use mathlib.Core.Path.{◌≡◌, refl, sym, ap}
use mathlib.Core.Bool.{Bool, true, false, cond, not}
use mathlib.Core.List.{[], ◌∷◌}
use Rattle.std.specs.Prelude.{Some, None}
use Rattle.std.specs.Bool.{then_some}
use Prim.Native.Nat.{ℕ, ◌-◌, ◌*◌, ◌≤◌, ◌<◌, min, zero-le}
use native.Mathlib.Nat.{le_trans, sub-le, zero-mul}
use native.Mathlib.Omega.{arith}
use lib.Dec.{ltb, lit≤}
use borrow.Author.Tests.{lt-ltb, le-ltb}
use Rattle.sequences.specs.Every.{every}
use Rattle.sequences.proofs.Below.{cond_le}
use Rattle.units.specs.declared.Money.{Money}
use Rattle.units.specs.Units.{rounded, premium, discount}
use Rattle.units.proofs.Laws.{under, premium-le, discount-le}
use Rattle.flags.specs.Table.{FlagTable, flag_count, table_fault, entry, stock_moves, shortage_in_cash, shanghai}
use Rattle.flags.proofs.Laws.{shortage_rule}
use Rattle.layout.specs.declared.Component.{Component}
use Rattle.fund.proofs.Laws.{ComponentRanges}
use Rattle.rules.specs.Sound.{most_price}
use Rattle.rules.specs.declared.Kind.{Kind}
use Rattle.rules.specs.declared.Kind.TheVariants.{Creation, Redemption}
use Rattle.rules.specs.Orders.{most_baskets}
use Rattle.rules.specs.Kinds.{no_cash}
use Rattle.rules.proofs.Asked.{either_kind}
use Rattle.order_lines.specs.Lines.{money, worth_in, Effect, in_market, missing_of, worth_of, creation_line, redemption_line, amount_due, amount_line, order_line}
use Rattle.order_lines.specs.Ready.{Ranged}

-- Bounds.

-- what a line adds to the sums at most
pub record Small (x : Effect) : Type 0 where
  pub worth : worth_in x.worth ≤ 20_000_000_000_000_000
  pub other : x.cash.other.0 ≤ 40_000_000_000_000_000
  pub shanghai : x.cash.shanghai.0 ≤ 40_000_000_000_000_000

pub worth_in-le : (b : Bool) (w n : ℕ) → w ≤ n → worth_in (then_some b (money w)) ≤ n
worth_in-le true w n h = h
worth_in-le false w n h = zero-le

missing-le : (b : Bool) (need have : ℕ) → cond b (need - have) 0 ≤ need
missing-le b need have = cond_le b (sub-le need have) zero-le

-- a component that passes the tests of refusal 3
pub ranged : (t : FlagTable) (g : ℕ) (c : Component) → ComponentRanges t g c → Ranged t c
ranged t g c r = record { used = r.flag; quantity = r.quantity; premium = r.premium; discount = r.discount; amount = r.amount }

module _ (t : FlagTable) (c : Component) (m : ℕ) (r : Ranged t c) (few : m ≤ most_baskets) where
  pub need-le : m * c.quantity ≤ 1_999_999_980
  need-le = under 20 99_999_999 few r.quantity

  pub amount-le : m * c.amount.0 ≤ 1_999_999_999_980
  amount-le = under 20 99_999_999_999 few r.amount

  -- the worth of what is missing of the need
  pub worth-le : (x price : ℕ) → x ≤ m * c.quantity → price ≤ most_price → x * price ≤ 20_000_000_000_000_000
  worth-le x price h p = le_trans (under 1_999_999_980 9_999_999 (le_trans h need-le) p) (lit≤ tt)

  creation_worth-le : (have price : ℕ) → price ≤ most_price → worth_of t c have price m ≤ 20_000_000_000_000_000
  unfolding worth_of missing_of
  creation_worth-le have price p = worth-le (missing_of t c have m) price (missing-le _ (m * c.quantity) have) p

  -- its cash
  pub creation_cash-le : (have price : ℕ) → price ≤ most_price
      → premium (cond (entry t c.flag stock_moves) (worth_of t c have price m) (m * c.amount.0)) c.premium.0 ≤ 40_000_000_000_000_000
  creation_cash-le have price p =
      let base : cond (entry t c.flag stock_moves) (worth_of t c have price m) (m * c.amount.0) ≤ 20_000_000_000_000_000 =
      cond_le (entry t c.flag stock_moves) (creation_worth-le have price p) (le_trans amount-le (lit≤ tt)) in
      omega (arith, premium-le (cond (entry t c.flag stock_moves) (worth_of t c have price m) (m * c.amount.0)) c.premium.0 r.premium)

  pub redemption_cash-le : cond (entry t c.flag stock_moves) 0 (discount (m * c.amount.0) c.discount.0) ≤ 40_000_000_000_000_000
  redemption_cash-le = cond_le (entry t c.flag stock_moves) zero-le (omega (arith, amount-le, discount-le (m * c.amount.0) c.discount.0))

  creation_small : (have price : ℕ) → price ≤ most_price → Small (creation_line t c have price m)
  unfolding creation_line
  creation_small have price p =
      record {
        worth = worth_in-le (ltb 0 (missing_of t c have m)) _ _ (creation_worth-le have price p);
        other = cond_le (entry t c.flag shanghai) zero-le (creation_cash-le have price p);
        shanghai = cond_le (entry t c.flag shanghai) (creation_cash-le have price p) zero-le;
      }

  redemption_small : (have : ℕ) → Small (redemption_line t c have m)
  unfolding redemption_line
  redemption_small have =
      record {
        worth = zero-le;
        other = cond_le (entry t c.flag shanghai) zero-le redemption_cash-le;
        shanghai = cond_le (entry t c.flag shanghai) redemption_cash-le zero-le;
      }

  pub order_small : (kind : Kind) (have price : ℕ) → price ≤ most_price → Small (order_line kind t c have price m)
  unfolding order_line
  order_small kind have price p = either_kind Small _ _ (creation_small have price p) (redemption_small have) kind

-- Lines.

-- no cash goes to no market
pub none_in : (t : FlagTable) (c : Component) → no_cash ≡ in_market t c 0
none_in t c = go (entry t c.flag shanghai)
  where
    go : (b : Bool) → no_cash ≡ record { shanghai = money (cond b 0 0); other = money (cond b 0 0) }
    go true = refl
    go false = refl

premium-zero : (r : ℕ) → premium 0 r ≡ 0
unfolding premium rounded
premium-zero r = rw zero-mul

-- nothing is short of what is there
covered_short : (b : Bool) → every (true ∷ not b ∷ false ∷ []) ≡ false
unfolding every
covered_short true = refl
covered_short false = refl

cond_same : (b : Bool) (x : ℕ) → cond b x x ≡ x
cond_same true x = refl
cond_same false x = refl

-- a component of which stock moves
module _ (t : FlagTable) (c : Component) (have m : ℕ) (moves : entry t c.flag stock_moves ≡ true) where
  missing_is : entry t c.flag shortage_in_cash ≡ true → missing_of t c have m ≡ m * c.quantity - have
  unfolding missing_of
  missing_is in-cash = ap (λ (b : Bool). cond b (m * c.quantity - have) 0) in-cash

  -- cash stands for what is missing
  pub missing_line : (price : ℕ) (worth cash : Money) → have < m * c.quantity → entry t c.flag shortage_in_cash ≡ true
      → worth.0 ≡ (m * c.quantity - have) * price → cash.0 ≡ premium worth.0 c.premium.0
      → record { short = false; missing = m * c.quantity - have; worth = Some worth; cash = in_market t c cash.0; moved = min (m * c.quantity) have } ≡ creation_line t c have price m
  unfolding creation_line worth_of every
  missing_line price worth cash lacks in-cash is_worth is_cash =
      rw (moves, in-cash, missing_is in-cash, is_cash, ← is_worth, lt-ltb 0 (m * c.quantity - have) (omega (arith, lacks)))

  -- it is short, or is there in full
  pub short_line : (price : ℕ) → have < m * c.quantity → entry t c.flag shortage_in_cash ≡ false
      → record { short = ltb have (m * c.quantity); missing = 0; worth = None; cash = no_cash; moved = min (m * c.quantity) have } ≡ creation_line t c have price m
  unfolding creation_line worth_of missing_of every
  short_line price lacks none = rw (moves, none, lt-ltb have (m * c.quantity) lacks, zero-mul price, premium-zero c.premium.0, ← none_in t c)

  pub full_line : (price : ℕ) → m * c.quantity ≤ have
      → record { short = ltb have (m * c.quantity); missing = 0; worth = None; cash = no_cash; moved = min (m * c.quantity) have } ≡ creation_line t c have price m
  unfolding creation_line worth_of missing_of
  full_line price enough =
      let none : m * c.quantity - have ≡ 0 = omega arith in
      rw (moves, le-ltb have (m * c.quantity) enough, none, cond_same (entry t c.flag shortage_in_cash) 0, zero-mul price, premium-zero c.premium.0, ← none_in t c)
      (rw (covered_short (entry t c.flag shortage_in_cash)))

  pub delivered_line : record { short = ltb have (m * c.quantity); missing = 0; worth = None; cash = no_cash; moved = m * c.quantity } ≡ redemption_line t c have m
  unfolding redemption_line
  delivered_line = rw (moves, ← none_in t c)

-- a component of which no stock moves, in an order
module _ (t : FlagTable) (loads : table_fault t ≡ flag_count) (c : Component) (have price m : ℕ) (stays : entry t c.flag stock_moves ≡ false) where
  abbrev paid : ℕ → Effect
  paid cash = record { short = false; missing = 0; worth = None; cash = in_market t c cash; moved = 0 }

  amount_creation : creation_line t c have price m ≡ paid (premium (m * c.amount.0) c.premium.0)
  unfolding creation_line worth_of missing_of every
  amount_creation = rw (stays, shortage_rule t loads c.flag stays)

  amount_redemption : redemption_line t c have m ≡ paid (discount (m * c.amount.0) c.discount.0)
  unfolding redemption_line
  amount_redemption = rw (stays, le-ltb have 0 zero-le)

  pub amount_is : (kind : Kind) → amount_line kind t c m ≡ order_line kind t c have price m
  unfolding order_line amount_line amount_due
  amount_is Creation = sym amount_creation
  amount_is Redemption = sym amount_redemption
