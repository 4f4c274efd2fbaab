-- One component in an order, on a day with the flag table t.
use Rattle.std.specs.Prelude.{Bool, false, cond, not, [], ◌∷◌, ℕ, ◌-◌, ◌*◌, min, ltb, Option, Some, None}
use Rattle.std.specs.Bool.{then_some}
use Rattle.sequences.specs.Every.{every}
use Rattle.units.specs.declared.Money.{Money}
use Rattle.units.specs.Units.{premium, discount}
use Rattle.flags.specs.Table.{FlagTable, entry, stock_moves, shortage_in_cash, shanghai}
use Rattle.layout.specs.declared.Component.{Component}
use Rattle.rules.specs.declared.Kind.{Kind}
use Rattle.rules.specs.declared.CashByMarket.{CashByMarket}
use Rattle.rules.specs.Kinds.{by_kind, no_cash}
use Rattle.order_lines.specs.declared.Line.{Line}
use Rattle.order_lines.specs.declared.Line.TheVariants.{Stock, InCash, Amount}

abbrev pub money : ℕ → Money
money x = record { 0 = x }

-- a worth as a number, 0 where there is none
abbrev pub worth_in : Option Money → ℕ
worth_in None = 0
worth_in (Some worth) = worth.0

-- what a component comes to in an order: whether there is not enough of it; where cash stands for a shortage, what is missing and its
-- worth without the premium; its cash, and how much of its stock moves
pub record Effect : Type 0 where
  pub short : Bool
  pub missing : ℕ
  pub worth : Option Money
  pub cash : CashByMarket
  pub moved : ℕ

-- what a line of the code says
abbrev pub effect_of : Line → Effect
effect_of (Stock short moved) = record { short = short; missing = 0; worth = None; cash = no_cash; moved = moved }
effect_of (InCash missing worth cash moved) = record { short = false; missing = missing; worth = Some worth; cash = cash; moved = moved }
effect_of (Amount cash) = record { short = false; missing = 0; worth = None; cash = cash; moved = 0 }

-- cash for a component, which goes to its market
abbrev pub in_market : FlagTable → Component → ℕ → CashByMarket
in_market t c cash = record { shanghai = money (cond (entry t c.flag shanghai) cash 0); other = money (cond (entry t c.flag shanghai) 0 cash) }

-- what an order of m baskets needs of a component
abbrev pub need_of : Component → ℕ → ℕ
need_of c m = m * c.quantity

-- where cash stands for a shortage: what is missing, and its worth without the premium
unfoldable pub missing_of : FlagTable → Component → ℕ → ℕ → ℕ
missing_of t c have m = cond (entry t c.flag shortage_in_cash) (need_of c m - have) 0

unfoldable pub worth_of : FlagTable → Component → ℕ → ℕ → ℕ → ℕ
worth_of t c have price m = missing_of t c have m * price

-- a component in a creation of m baskets, for an account that has so much of it to hand in
unfoldable pub creation_line : FlagTable → Component → ℕ → ℕ → ℕ → Effect
creation_line t c have price m =
    record {
      short = every (entry t c.flag stock_moves ∷ not (entry t c.flag shortage_in_cash) ∷ ltb have (need_of c m) ∷ []);
      missing = missing_of t c have m;
      worth = then_some (ltb 0 (missing_of t c have m)) (money (worth_of t c have price m));
      cash = in_market t c (premium (cond (entry t c.flag stock_moves) (worth_of t c have price m) (m * c.amount.0)) c.premium.0);
      moved = cond (entry t c.flag stock_moves) (min (need_of c m) have) 0;
    }

-- a component in a redemption of m baskets, of which the fund has so much
unfoldable pub redemption_line : FlagTable → Component → ℕ → ℕ → Effect
redemption_line t c have m =
    record {
      short = ltb have (cond (entry t c.flag stock_moves) (need_of c m) 0);
      missing = 0;
      worth = None;
      cash = in_market t c (cond (entry t c.flag stock_moves) 0 (discount (m * c.amount.0) c.discount.0));
      moved = cond (entry t c.flag stock_moves) (need_of c m) 0;
    }

-- a component in an order of either kind
unfoldable pub order_line : Kind → FlagTable → Component → ℕ → ℕ → ℕ → Effect
order_line kind t c have price m = by_kind kind (creation_line t c have price m) (redemption_line t c have m)

-- an amount that stands for a component: with the premium on creation, less the discount on redemption
unfoldable pub amount_due : Kind → Component → ℕ → ℕ
amount_due kind c amount = by_kind kind (premium amount c.premium.0) (discount amount c.discount.0)

-- a component of which no stock moves: its amount in so many baskets
unfoldable pub amount_line : Kind → FlagTable → Component → ℕ → Effect
amount_line kind t c m =
    record {
      short = false;
      missing = 0;
      worth = None;
      cash = in_market t c (amount_due kind c (m * c.amount.0));
      moved = 0;
    }
