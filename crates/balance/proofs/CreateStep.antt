-- A creation: stock and cash go to the fund, units are new, and what was handed in is what the records say.
use mathlib.Core.Path.{◌≡◌, refl, ap, ◌∙◌}
use mathlib.Core.Bool.{Bool, cond}
use mathlib.Core.List.{List}
use Prim.Native.Nat.{ℕ, ◌+◌, ◌-◌, ◌≤◌, ◌<◌}
use native.Mathlib.Omega.{arith}
use lib.Dec.{ltb}
use lib.ListN.{length}
use borrow.Author.Tests.{lt-ltb, le-ltb}
use Rattle.sequences.specs.Same.{when_same}
use Rattle.sequences.proofs.Below.{cond_le}
use Rattle.sequences.proofs.Same.{when_same_lem, when_other}
use Rattle.lots.specs.Lots.{hand_in_of, get_of, take_in_of, handable}
use Rattle.layout.specs.Day.{Day}
use Rattle.layout.specs.Book.{cash, head_at, lots_at, account}
use Rattle.rules.specs.Lines.{code_of, moves_stock}
use Rattle.rules.specs.declared.Kind.TheVariants.{Creation}
use Rattle.rules.specs.Orders.{baskets, fund_count, shanghai_cash, other_cash}
use Rattle.rules.specs.Records.{side_b, side_s}
use Rattle.layout.specs.Records.{with_records}
use Rattle.rules.specs.declared.Rooms.{Rooms}
use Rattle.rules.specs.Lent.{Lent, rooms_in, with_order}
use Rattle.rules.specs.Creation.{available, handed_in, creation_cash, creation_due, creation_records, creation_reports, creation_moves, created_book, created_lists}
use Rattle.rules.proofs.SoundDay.{Kept}
use Rattle.rules.proofs.Accepted.{Creates, creation_facts, creation_made}
use Rattle.balance.specs.Calls.{State, create, step}
use Rattle.balance.specs.Counts.{stock_quantity, call_sold, call_bought, call_got, call_handed_in, call_created, call_redeemed, call_created_by_all, call_redeemed_by_all}
use Rattle.balance.proofs.Relation.{Keeps, call_tally, AcceptedKeeps, drawn_get, drawn_hand, drawn_eq}
use Rattle.balance.proofs.OrderMove.{Move, Settles, own_rises, other_stays, order_keeps}
use Rattle.balance.proofs.StockCount.{quantity_is}

-- what is handed in is there
handed_there : (d : Day) (s : List ℕ) (m i : ℕ) → handed_in d s m i ≤ handable (lots_at s i)
unfolding handed_in available
handed_there d s m i = cond_le (moves_stock d i) (omega arith) (omega arith)

module _ (d : Day) (b ps : List ℕ) (a units : ℕ) (rooms : Rooms) (t : Creates d b ps a units rooms) (lent : Lent) where
  abbrev m : ℕ
  m = baskets d units

  abbrev hands : ℕ → ℕ
  hands l = handed_in d (account d b a) m l

  abbrev move : Move
  move =
      record {
        component = λ l x. hand_in_of x (hands l);
        unit = λ x. get_of x units;
        cash_after = λ s. head_at s cash - creation_due d (account d b a) ps m;
        fund_component = λ l x. take_in_of x (hands l);
        fund_cash_after = λ s. head_at s cash + creation_due d (account d b a) ps m;
      }

  -- what the account handed in, as its records have it
  abbrev made : List ℕ
  made = with_records (creation_records d (account d b a) ps units) lent.records

  abbrev lists : Lent
  lists = with_order (creation_records d (account d b a) ps units) (creation_reports d (account d b a) ps units) lent

  abbrev n : ℕ
  n = length (creation_records d (account d b a) ps units)

  abbrev got : ℕ → ℕ
  got l = when_same d.count l units

  abbrev handed : ℕ → ℕ
  handed l = cond (ltb l d.count) (stock_quantity (code_of d l) made n) 0

  recorded : (l : ℕ) → l < d.count → handed l ≡ hands l
  unfolding creation_records
  recorded l i =
      ap (λ (z : Bool). cond z (stock_quantity (code_of d l) made n) 0) (lt-ltb l d.count i)
      ∙ quantity_is d b ps t.sound l i side_s side_b units hands (other_cash d (creation_cash d (account d b a) ps m)) (shanghai_cash d (creation_cash d (account d b a) ps m)) lent.records

  none_got : (l : ℕ) → l < d.count → got l ≡ 0
  none_got l i = when_other d.count l units (λ q. omega arith)

  settles : Settles d.count (account d b a) (account d b 0) move units 0 got handed
  settles =
      record {
        money = omega (arith, t.money);
        lines = λ l i. drawn_eq refl refl refl (none_got l i) (recorded l i) (drawn_hand (lots_at (account d b a) l) (hands l) (handed_there d (account d b a) m l));
        units = drawn_eq refl refl refl got_units none_handed (drawn_get (lots_at (account d b a) d.count) units);
        got_units = got_units;
        handed_units = none_handed;
        fund_lines = λ l i. omega (arith, none_got l i, recorded l i);
        fund_bought = λ l x. refl;
        fund_got = λ l x. refl;
      }
    where
      got_units : got d.count ≡ units
      got_units = when_same_lem d.count d.count units refl

      none_handed : handed d.count ≡ 0
      none_handed = ap (λ (z : Bool). cond z (stock_quantity (code_of d d.count) made n) 0) (le-ltb d.count d.count (omega arith))

  moves_keep : Kept d b ps
      → Keeps (record { day = d; book = b; prices = ps }) (record { day = d; book = creation_moves d ps a units b; prices = ps }) (call_tally d (create a units) lists n)
  unfolding with_order creation_moves fund_count call_sold call_bought call_got call_handed_in call_created call_redeemed call_created_by_all call_redeemed_by_all
  moves_keep k =
      order_keeps d b ps Creation a units move t.sound t.order settles
      (own_rises d b ps Creation a units move t.sound t.order)
      (other_stays d b ps Creation a units move t.sound t.order)
      t.order.below_ceiling
      (omega (arith, t.sound.book.redeemed_most))
      k

pub create_keeps : (s : State) (a units : ℕ) (lent : Lent) → AcceptedKeeps s (create a units) lent
unfolding step created_book created_lists
create_keeps s a units lent k e =
    rw (e, creation_made s.day s.book s.prices a units (rooms_in lent) e)
    (moves_keep s.day s.book s.prices a units (rooms_in lent) (creation_facts _ _ _ _ _ _ e) lent k)
