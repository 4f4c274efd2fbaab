-- The bounds of what an order of either kind moves.
use mathlib.Core.Path.{◌≡◌, refl}
use Prim.Native.Nat.{ℕ, ◌*◌, ◌≤◌}
use native.Mathlib.Omega.{arith}
use Rattle.sequences.proofs.Below.{cond_le}
use Rattle.lots.specs.declared.Lots.{Lots}
use Rattle.lots.specs.Lots.{handable}
use Rattle.lots.proofs.Laws.{lots-eq}
use Rattle.flags.specs.Table
use Rattle.layout.specs.declared.Component.{Component}
use Rattle.rules.specs.declared.Kind.{Kind}
use Rattle.rules.specs.declared.Kind.TheVariants.{Creation, Redemption}
use Rattle.rules.specs.Kinds.{stock_lots, fund_lots, unit_lots, account_cash, fund_cash}
use Rattle.rules.specs.Orders.{opposite_kind}
use Rattle.book.specs.Moved.{moved_of}

module _ (t : Table.FlagTable) (c : Component) (m : ℕ) (x : Lots) where
  -- at most what the baskets need
  pub moved-le : (kind : Kind) → moved_of kind t c m x ≤ m * c.quantity
  unfolding moved_of
  moved-le Creation = cond_le (Table.entry t c.flag Table.stock_moves) (omega arith) (omega arith)
  moved-le Redemption = cond_le (Table.entry t c.flag Table.stock_moves) (omega arith) (omega arith)

  -- and on a creation at most what is there
  pub moved_there : moved_of Creation t c m x ≤ handable x
  unfolding moved_of
  moved_there = cond_le (Table.entry t c.flag Table.stock_moves) (omega arith) (omega arith)

-- Lots of which nothing moves.

pub stock-zero : (kind : Kind) (x : Lots) → stock_lots kind x 0 ≡ x
unfolding stock_lots
stock-zero Creation x = lots-eq (omega arith) (omega arith) refl
stock-zero Redemption x = lots-eq refl refl (omega arith)

pub fund-zero : (kind : Kind) (x : Lots) → fund_lots kind x 0 ≡ x
unfolding fund_lots
fund-zero Creation x = lots-eq (omega arith) refl refl
fund-zero Redemption x = lots-eq (omega arith) refl refl

-- Units go the opposite way to stock, and the fund's cash the opposite way to the account's.

pub units_opposite : (kind : Kind) (x : Lots) (q : ℕ) → stock_lots (opposite_kind kind) x q ≡ unit_lots kind x q
unfolding stock_lots unit_lots
units_opposite Creation x q = refl
units_opposite Redemption x q = refl

pub cash_opposite : (kind : Kind) (held c : ℕ) → account_cash (opposite_kind kind) held c ≡ fund_cash kind held c
unfolding account_cash fund_cash
cash_opposite Creation held c = refl
cash_opposite Redemption held c = refl
