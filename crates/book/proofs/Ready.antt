-- An accepted creation or redemption has what its move asks: each number of an account is at most the day's total.
use mathlib.Core.Path.{◌≡◌}
use mathlib.Core.List.{List}
use Prim.Native.Nat.{ℕ, ◌+◌, ◌^◌, ◌≤◌, ◌<◌}
use native.Mathlib.Omega.{arith}
use Rattle.sequences.proofs.Stretch.{stretch-length}
use Rattle.units.proofs.Laws.{under}
use Rattle.fund.proofs.Laws.{ComponentRanges, components_fine}
use Rattle.layout.specs.Day.{Day}
use Rattle.layout.specs.Book.{cash, head_at, lots_at, width, account, counter}
use Rattle.rules.specs.declared.Kind.{Kind}
use Rattle.rules.specs.declared.Kind.TheVariants.{Creation, Redemption}
use Rattle.rules.specs.declared.Rooms.{Rooms}
use Rattle.rules.specs.Opening.{most_cash}
use Rattle.rules.specs.Orders.{number_of, opposite_kind, baskets, fund_count}
use Rattle.rules.specs.Lines.{component_of}
use Rattle.rules.specs.Creation.{creation_due}
use Rattle.rules.specs.Redemption.{redemption_paid}
use Rattle.rules.specs.Kinds.{moved_by}
use Rattle.rules.proofs.SoundDay.{SoundDay}
use Rattle.rules.proofs.SoundAccount.{head_part, account_within, account_line_most}
use Rattle.rules.proofs.Accepted.{Orders, Creates, Redeems}
use Rattle.book.specs.Ready.{StockReady, LotsReady, OrderReady}

-- what both kinds of order have, with the cash c
module _ {d : Day} {b ps : List ℕ} {kind : Kind} {a units : ℕ} (c : ℕ) (s : SoundDay d b ps) (o : Orders d b kind a units) (most : c ≤ most_cash) where
  fine : (i : ℕ) → i < d.count → ComponentRanges d.table d.fund.first_code (component_of d i)
  fine i l = components_fine d.table d.fund.first_code d.components d.count s.own.components i l

  stock_ready : StockReady d (account d b a) (baskets d units)
  stock_ready =
      record {
        count_high = s.own.count_high;
        wide = omega (arith, stretch-length (width d) b a (account_within s a o.account_in));
        used = λ i l. (fine i l).flag;
        needs = λ i l. omega (arith, under 20 99_999_999 o.baskets_high (fine i l).quantity);
        held = λ i l. omega (arith, account_line_most s a o.account_in i (omega arith));
      }

  order_ready : LotsReady (opposite_kind kind) (lots_at (account d b a) d.count) units
      → (kind ≡ Creation → c ≤ head_at (account d b a) cash)
      → (kind ≡ Redemption → (i : ℕ) → i < d.count → moved_by kind d (account d b a) (baskets d units) i ≤ (lots_at (account d b 0) i).old)
      → (opposite_kind kind ≡ Creation → c ≤ head_at (account d b 0) cash)
      → OrderReady kind d b a units (baskets d units) c
  unfolding fund_count
  order_ready lots pays delivers fund_pays =
      let zero_in : 0 < d.accounts = omega (arith, s.own.accounts_low) in
      record {
        account_low = o.account_low;
        account_in = account_within s a o.account_in;
        stock = stock_ready;
        rest =
            record {
              line_in_lem = omega (arith, stretch-length (width d) b a (account_within s a o.account_in));
              lots = lots;
              money = record { there = pays; fits = omega (arith, head_part d b a o.account_in cash, s.book.money) };
              count_fits = omega (arith, head_part d b a o.account_in (counter (number_of kind)), o.below_ceiling);
            };
        fund = record { room = λ i l. omega (arith, account_line_most s 0 zero_in i (omega arith)); delivers = delivers };
        fund_money = record { there = fund_pays; fits = omega (arith, head_part d b 0 zero_in cash, s.book.money) };
      }

  units_fit : (lots_at (account d b a) d.count).got + units < 2 ^ 64
  unfolding fund_count
  units_fit = omega (arith, account_line_most s a o.account_in d.count (omega arith), o.below_ceiling)

pub creation_ready : {d : Day} {b ps : List ℕ} {a units : ℕ} {rooms : Rooms} → Creates d b ps a units rooms
    → OrderReady Creation d b a units (baskets d units) (creation_due d (account d b a) ps (baskets d units))
creation_ready {d} {b} {ps} {a} {units} {rooms} r =
    let s = r.sound in
    let o = r.order in
    let most : creation_due d (account d b a) ps (baskets d units) ≤ most_cash = omega (arith, r.money, head_part d b a o.account_in cash, s.book.money) in
    order_ready _ s o most
    (record { there = λ e. absurd (cc e); fits = units_fit _ s o most })
    (λ _. r.money)
    (λ e. absurd (cc e))
    (λ e. absurd (cc e))

pub redemption_ready : {d : Day} {b ps : List ℕ} {a units : ℕ} {rooms : Rooms} → Redeems d b ps a units rooms
    → OrderReady Redemption d b a units (baskets d units) (redemption_paid d (baskets d units))
unfolding moved_by
redemption_ready {d} {b} {ps} {a} {units} {rooms} r =
    let s = r.sound in
    let o = r.order in
    let most : redemption_paid d (baskets d units) ≤ most_cash = omega (arith, r.money, head_part d b 0 (omega (arith, s.own.accounts_low)) cash, s.book.money) in
    order_ready _ s o most
    (record { there = λ _. r.handed; fits = units_fit _ s o most })
    (λ e. absurd (cc e))
    (λ _. r.stocked)
    (λ _. r.money)
