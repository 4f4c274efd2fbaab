-- On a sound day the basket can be scanned for each account, and the cash that the scan finds fits.
use mathlib.Core.Path.{◌≡◌}
use mathlib.Core.Bool.{Bool, true, false, cond}
use mathlib.Core.List.{List}
use Prim.Native.Nat.{ℕ, zero, suc, ◌+◌, ◌≤◌, ◌<◌}
use native.Mathlib.Omega.{arith}
use lib.ListN.{length}
use Rattle.sequences.specs.Below.{sum_below}
use Rattle.sequences.specs.Stretch.{stretch_of, over}
use Rattle.sequences.proofs.Below.{sum_part, sum_le}
use Rattle.sequences.proofs.Stretch.{within, stretch-length}
use Rattle.lots.specs.Lots.{lots_total}
use Rattle.fund.proofs.Laws.{components_fine}
use Rattle.layout.specs.Places.{most_components}
use Rattle.layout.specs.Day.{Day}
use Rattle.layout.specs.Book.{lots_at, width, account, line_total}
use Rattle.flags.specs.Table.{shanghai}
use Rattle.rules.specs.Lines.{component_of, price_of, column, quantity, creation_rate, redemption_rate, creation_amount, redemption_amount}
use Rattle.rules.specs.Orders.{most_baskets, need, other_cash, shanghai_cash}
use Rattle.rules.specs.Creation.{available, missing, missing_worth, creation_cash}
use Rattle.rules.specs.Redemption.{redemption_cash}
use Rattle.rules.specs.Kinds.{all_cash, cash_by}
use Rattle.rules.proofs.SoundDay.{SoundDay}
use Rattle.rules.proofs.Asked.{either_kind}
use Rattle.rules.specs.declared.Kind.{Kind}
use Rattle.order_lines.specs.Lines.{missing_of, worth_of}
use Rattle.order_lines.specs.Ready.{Ranged}
use Rattle.order_scan.specs.Ready.{Scannable}
use Rattle.order_lines.proofs.Laws.{ranged, creation_cash-le, redemption_cash-le}

module _ (d : Day) (b ps : List ℕ) (s : SoundDay d b ps) (m : ℕ) (few : m ≤ most_baskets) where
  all_ranged : (k : ℕ) → k < d.count → Ranged d.table (component_of d k)
  all_ranged k h = ranged _ _ _ (components_fine d.table d.fund.first_code d.components d.count s.own.components k h)

  wide : (a : ℕ) → a < d.accounts → length (account d b a) ≡ width d
  wide a h = stretch-length (width d) b a (omega (arith, within (width d) a d.accounts h, s.book.book_size))

  -- an account's lots of a line are at most the line's total
  lots_fit : (a : ℕ) → a < d.accounts → (k : ℕ) → k < d.count → available (account d b a) k ≤ 2_000_000_000_000_000_000
  unfolding available line_total over
  lots_fit a h k l =
      omega (arith, sum_part (λ i. lots_total (lots_at (stretch_of (width d) b i) k)) d.accounts a h, s.book.lines k l)

  pub scannable : (a : ℕ) → a < d.accounts → Scannable d (account d b a) (account d b 0) ps m
  scannable a h =
      record {
        count = s.own.count_high;
        baskets = few;
        loads = s.own.loads;
        stretch = wide a h;
        fund_stretch = wide 0 (omega (arith, s.own.accounts_low));
        prices_size = s.prices.prices_size;
        ranges = all_ranged;
        prices = s.prices.prices_most;
        lots = lots_fit a h;
      }

-- each component's cash goes to one market
both_markets : (shanghai : ℕ → Bool) (f : ℕ → ℕ) (n : ℕ) → sum_below (λ i. cond (shanghai i) 0 (f i)) n + sum_below (λ i. cond (shanghai i) (f i) 0) n ≡ sum_below f n
unfolding sum_below
both_markets shanghai f zero = omega arith
both_markets shanghai f (suc n) = omega (arith, both_markets shanghai f n, one (shanghai n) (f n))
  where
    one : (b : Bool) (x : ℕ) → cond b 0 x + cond b x 0 ≡ x
    one true x = omega arith
    one false x = omega arith

cash-le : (d : Day) (f : ℕ → ℕ) → d.count ≤ most_components → ((k : ℕ) → k < d.count → f k ≤ 40_000_000_000_000_000) → other_cash d f + shanghai_cash d f ≤ 12_000_000_000_000_000_000
unfolding other_cash shanghai_cash
cash-le d f h all = omega (arith, both_markets (column d shanghai) f d.count, sum_le f d.count 40_000_000_000_000_000 all)

module _ (kind : Kind) (d : Day) (s f ps : List ℕ) (m : ℕ) (r : Scannable d s f ps m) where
  created-le : (k : ℕ) → k < d.count → creation_cash d s ps m k ≤ 40_000_000_000_000_000
  unfolding creation_cash missing_worth missing need column quantity creation_rate creation_amount worth_of missing_of
  created-le k l = creation_cash-le d.table (component_of d k) m (r.ranges k l) r.baskets (available s k) (price_of ps k) (r.prices k l)

  redeemed-le : (k : ℕ) → k < d.count → redemption_cash d m k ≤ 40_000_000_000_000_000
  unfolding redemption_cash need column quantity redemption_rate redemption_amount
  redeemed-le k l = redemption_cash-le d.table (component_of d k) m (r.ranges k l) r.baskets

  -- the cash fits
  pub cash_fits : all_cash (cash_by kind d s ps m) ≤ 12_000_000_000_000_000_000
  unfolding cash_by
  cash_fits =
      cash-le d _ r.count
      (either_kind (λ (g : ℕ → ℕ). (k : ℕ) → k < d.count → g k ≤ 40_000_000_000_000_000) (creation_cash d s ps m) (redemption_cash d m) created-le redeemed-le kind)
