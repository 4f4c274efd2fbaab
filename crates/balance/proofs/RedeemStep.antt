-- A redemption: the fund delivers stock and cash, and the units cease.
use mathlib.Core.Path.{◌≡◌, refl, ap}
use mathlib.Core.Bool.{Bool, cond}
use mathlib.Core.List.{List}
use Prim.Native.Nat.{ℕ, ◌+◌, ◌-◌, ◌<◌}
use native.Mathlib.Omega.{arith}
use lib.Dec.{ltb}
use borrow.Author.Tests.{lt-ltb, le-ltb}
use Rattle.sequences.specs.Same.{when_same}
use Rattle.sequences.proofs.Same.{when_same_lem, when_other}
use Rattle.lots.specs.Lots.{hand_in_of, get_of, pay_out_of}
use Rattle.layout.specs.Day.{Day}
use Rattle.layout.specs.Book.{cash, head_at, lots_at, account}
use Rattle.rules.specs.declared.Kind.TheVariants.{Redemption}
use Rattle.rules.specs.Orders.{baskets, need, fund_count}
use Rattle.rules.specs.declared.Rooms.{Rooms}
use Rattle.rules.specs.Lent.{Lent}
use Rattle.rules.specs.Redemption.{delivered, redemption_paid, redemption_moves, redeemed_book, redeemed_lists}
use Rattle.rules.proofs.SoundDay.{Kept}
use Rattle.rules.proofs.Accepted.{Redeems, redemption_facts}
use Rattle.balance.specs.Calls.{State, redeem, step}
use Rattle.balance.specs.Counts.{call_sold, call_bought, call_got, call_handed_in, call_created, call_redeemed, call_created_by_all, call_redeemed_by_all}
use Rattle.balance.proofs.Relation.{Keeps, call_tally, AcceptedKeeps, drawn_get, drawn_hand, drawn_eq}
use Rattle.balance.proofs.OrderMove.{Move, Settles, own_rises, other_stays, order_keeps}

module _ (d : Day) (b ps : List ℕ) (a units : ℕ) (rooms : Rooms) (t : Redeems d b ps a units rooms) where
  abbrev m : ℕ
  m = baskets d units

  abbrev move : Move
  move =
      record {
        component = λ l x. get_of x (delivered d m l);
        unit = λ x. hand_in_of x units;
        cash_after = λ s. head_at s cash + redemption_paid d m;
        fund_component = λ l x. pay_out_of x (delivered d m l);
        fund_cash_after = λ s. head_at s cash - redemption_paid d m;
      }

  abbrev got : ℕ → ℕ
  got l = cond (ltb l d.count) (delivered d m l) 0

  abbrev handed : ℕ → ℕ
  handed l = when_same d.count l units

  got_line : (l : ℕ) → l < d.count → got l ≡ delivered d m l
  got_line l i = ap (λ (z : Bool). cond z (delivered d m l) 0) (lt-ltb l d.count i)

  none_handed : (l : ℕ) → l < d.count → handed l ≡ 0
  none_handed l i = when_other d.count l units (λ q. omega arith)

  settles : Settles d.count (account d b a) (account d b 0) move 0 units got handed
  settles =
      record {
        money = omega (arith, t.money);
        lines = λ l i. drawn_eq refl refl refl (got_line l i) (none_handed l i) (drawn_get (lots_at (account d b a) l) (delivered d m l));
        units = drawn_eq refl refl refl none_got handed_units (drawn_hand (lots_at (account d b a) d.count) units t.handed);
        got_units = none_got;
        handed_units = handed_units;
        fund_lines = λ l i. omega (arith, got_line l i, none_handed l i, t.stocked l i);
        fund_bought = λ l x. refl;
        fund_got = λ l x. refl;
      }
    where
      none_got : got d.count ≡ 0
      none_got = ap (λ (z : Bool). cond z (delivered d m d.count) 0) (le-ltb d.count d.count (omega arith))

      handed_units : handed d.count ≡ units
      handed_units = when_same_lem d.count d.count units refl

  moves_keep : Kept d b ps → (made : Lent) (n : ℕ)
      → Keeps (record { day = d; book = b; prices = ps }) (record { day = d; book = redemption_moves d a units b; prices = ps }) (call_tally d (redeem a units) made n)
  unfolding redemption_moves fund_count delivered need call_sold call_bought call_got call_handed_in call_created call_redeemed call_created_by_all call_redeemed_by_all
  moves_keep k made n =
      order_keeps d b ps Redemption a units move t.sound t.order settles
      (other_stays d b ps Redemption a units move t.sound t.order)
      (own_rises d b ps Redemption a units move t.sound t.order)
      (omega (arith, t.sound.book.created_most))
      t.order.below_ceiling
      k

pub redeem_keeps : (s : State) (a units : ℕ) (lent : Lent) → AcceptedKeeps s (redeem a units) lent
unfolding step redeemed_book redeemed_lists
redeem_keeps s a units lent k e = rw e (moves_keep s.day s.book s.prices a units _ (redemption_facts _ _ _ _ _ _ e) k _ _)
