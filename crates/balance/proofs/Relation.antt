-- What a list of events keeps from one state to another, from any state with the kept property on. The list's theorem is
-- this relation, shown for each kind of call and put together.
use mathlib.Core.Path.{◌≡◌, refl, ap, ◌∙◌}
use mathlib.Core.Bool.{Bool, true, cond}
use mathlib.Core.List.{List}
use Prim.Native.Nat.{ℕ, ◌+◌, ◌≤◌, ◌<◌}
use native.Mathlib.Omega.{arith}
use Rattle.lots.specs.declared.Lots.{Lots}
use Rattle.lots.specs.Lots.{sell_of, buy_of, get_of, hand_in_of, sellable, handable}
use Rattle.layout.specs.Day.{Day}
use Rattle.layout.specs.Book.{cash, account, lots_at, head_total, line_total}
use Rattle.rules.specs.declared.Kind.{Kind}
use Rattle.rules.specs.declared.Kind.TheVariants.{Creation, Redemption}
use Rattle.rules.specs.Orders.{count_of, fund_count}
use Rattle.rules.proofs.SoundDay.{Kept}
use Rattle.sequences.specs.Checks.{is_accepted}
use Rattle.rules.specs.Lent.{Lent}
use Rattle.balance.specs.Calls.{State, Call, Result, step}
use Rattle.balance.specs.Counts.{call_sold, call_bought, call_got, call_handed_in, call_created, call_redeemed, call_created_by_all, call_redeemed_by_all}

-- what a state holds, by its own day
abbrev pub KeptState : State → Type 0
KeptState s = Kept s.day s.book s.prices

abbrev pub cash_in : State → ℕ
cash_in s = head_total s.day s.book cash

abbrev pub line_in : State → ℕ → ℕ
line_in s l = line_total s.day s.book l

abbrev pub lots_in : State → ℕ → ℕ → Lots
lots_in s a l = lots_at (account s.day s.book a) l

abbrev pub count_in : State → Kind → ℕ → ℕ
count_in s kind a = count_of s.day s.book kind a

abbrev pub fund_count_in : State → Kind → ℕ
fund_count_in s kind = fund_count s.day s.book kind

-- counts of a list of events: quantities by account and line, units by account, and units of all accounts
pub record Tally : Type 0 where
  pub sold : ℕ → ℕ → ℕ
  pub bought : ℕ → ℕ → ℕ
  pub got : ℕ → ℕ → ℕ
  pub handed : ℕ → ℕ → ℕ
  pub created : ℕ → ℕ
  pub redeemed : ℕ → ℕ
  pub all_created : ℕ
  pub all_redeemed : ℕ

-- nothing where the call was refused
abbrev pub tally_if : Bool → Tally → Tally
tally_if z n =
    record {
      sold = λ a l. cond z (n.sold a l) 0;
      bought = λ a l. cond z (n.bought a l) 0;
      got = λ a l. cond z (n.got a l) 0;
      handed = λ a l. cond z (n.handed a l) 0;
      created = λ a. cond z (n.created a) 0;
      redeemed = λ a. cond z (n.redeemed a) 0;
      all_created = cond z n.all_created 0;
      all_redeemed = cond z n.all_redeemed 0;
    }

abbrev pub plus : Tally → Tally → Tally
plus n m =
    record {
      sold = λ a l. n.sold a l + m.sold a l;
      bought = λ a l. n.bought a l + m.bought a l;
      got = λ a l. n.got a l + m.got a l;
      handed = λ a l. n.handed a l + m.handed a l;
      created = λ a. n.created a + m.created a;
      redeemed = λ a. n.redeemed a + m.redeemed a;
      all_created = n.all_created + m.all_created;
      all_redeemed = n.all_redeemed + m.all_redeemed;
    }

abbrev pub none : Tally
none =
    record {
      sold = λ a l. 0;
      bought = λ a l. 0;
      got = λ a l. 0;
      handed = λ a l. 0;
      created = λ a. 0;
      redeemed = λ a. 0;
      all_created = 0;
      all_redeemed = 0;
    }

-- from the lots x to the lots y: sales were drawn on got and old, handing in on bought and old, and all that went
-- otherwise came out of old
pub record Drawn (x y : Lots) (sold bought got handed : ℕ) : Type 0 where
  pub by_sales : x.got + got ≤ sold + y.got
  pub by_handing_in : x.bought + bought ≤ handed + y.bought
  pub by_both : y.old + (sold + y.got) + (handed + y.bought) ≡ x.old + (x.got + got) + (x.bought + bought)

pub drawn_same : (x : Lots) → Drawn x x 0 0 0 0
drawn_same x = omega arith

pub drawn_sell : (x : Lots) (q : ℕ) → q ≤ sellable x → Drawn x (sell_of x q) q 0 0 0
drawn_sell x q h = omega arith

pub drawn_buy : (x : Lots) (q : ℕ) → Drawn x (buy_of x q) 0 q 0 0
drawn_buy x q = omega arith

pub drawn_get : (x : Lots) (q : ℕ) → Drawn x (get_of x q) 0 0 q 0
drawn_get x q = omega arith

pub drawn_hand : (x : Lots) (q : ℕ) → q ≤ handable x → Drawn x (hand_in_of x q) 0 0 0 q
drawn_hand x q h = omega arith

pub drawn_eq : {x y y' : Lots} {s s' t t' g g' h h' : ℕ} → y ≡ y' → s ≡ s' → t ≡ t' → g ≡ g' → h ≡ h' → Drawn x y' s' t' g' h' → Drawn x y s t g h
drawn_eq {x} {y} {y'} e p q r u d =
    let o : y.old ≡ y'.old = ap (λ (z : Lots). z.old) e in
    let b : y.bought ≡ y'.bought = ap (λ (z : Lots). z.bought) e in
    let c : y.got ≡ y'.got = ap (λ (z : Lots). z.got) e in
    omega arith

pub drawn_then : {x y z : Lots} {s t g h s' t' g' h' : ℕ} → Drawn x y s t g h → Drawn y z s' t' g' h' → Drawn x z (s + s') (t + t') (g + g') (h + h')
drawn_then d e = omega arith

-- the day's fields that stay
pub record Stays (d d' : Day) : Type 0 where
  pub accounts : d'.accounts ≡ d.accounts
  pub count : d'.count ≡ d.count
  pub fund : d'.fund ≡ d.fund
  pub table : d'.table ≡ d.table
  pub components : d'.components ≡ d.components

pub stays_same : {d : Day} → Stays d d
stays_same = record { accounts = refl; count = refl; fund = refl; table = refl; components = refl }

pub stays_then : {d d' d'' : Day} → Stays d d' → Stays d' d'' → Stays d d''
stays_then k j =
    record {
      accounts = j.accounts ∙ k.accounts;
      count = j.count ∙ k.count;
      fund = j.fund ∙ k.fund;
      table = j.table ∙ k.table;
      components = j.components ∙ k.components;
    }

-- the counters of a kind of order rose by so many units, each account's and the fund's
pub record Rises (s t : State) (kind : Kind) (each : ℕ → ℕ) (all : ℕ) : Type 0 where
  pub counts : (a : ℕ) → a < s.day.accounts → count_in t kind a ≡ count_in s kind a + each a
  pub fund_count_lem : fund_count_in t kind ≡ fund_count_in s kind + all

-- from the state s to the state t, by events that tally to n
pub record Keeps (s t : State) (n : Tally) : Type 0 where
  pub kept : KeptState t
  pub stays : Stays s.day t.day
  pub money : cash_in t ≡ cash_in s
  pub stock : (l : ℕ) → l < s.day.count → line_in t l ≡ line_in s l
  pub units : line_in t t.day.count + n.all_redeemed ≡ line_in s s.day.count + n.all_created
  pub lots : (a l : ℕ) → 0 < a → a < s.day.accounts → l ≤ s.day.count → Drawn (lots_in s a l) (lots_in t a l) (n.sold a l) (n.bought a l) (n.got a l) (n.handed a l)
  pub fund_sold : (l : ℕ) → n.sold 0 l ≡ 0
  pub fund_handed : (l : ℕ) → n.handed 0 l ≡ 0
  pub created : Rises s t Creation n.created n.all_created
  pub redeemed : Rises s t Redemption n.redeemed n.all_redeemed

-- the day and the book are the same
pub keeps_same : {s : State} {ps : List ℕ} → Kept s.day s.book ps → Keeps s (record { day = s.day; book = s.book; prices = ps }) none
keeps_same {s} k =
    record {
      kept = k;
      stays = stays_same;
      money = refl;
      stock = λ l h. refl;
      units = refl;
      lots = λ a l p h i. drawn_same (lots_in s a l);
      fund_sold = λ l. refl;
      fund_handed = λ l. refl;
      created = record { counts = λ a h. omega arith; fund_count_lem = omega arith };
      redeemed = record { counts = λ a h. omega arith; fund_count_lem = omega arith };
    }

-- one after another
module _ {s t u : State} {n m : Tally} (k : Keeps s t n) (j : Keeps t u m) where
  accounts_stay : t.day.accounts ≡ s.day.accounts
  accounts_stay = k.stays.accounts

  count_stays : t.day.count ≡ s.day.count
  count_stays = k.stays.count

  rises_then : {kind : Kind} {all all' : ℕ} {each each' : ℕ → ℕ} → Rises s t kind each all → Rises t u kind each' all' → Rises s u kind (λ a. each a + each' a) (all + all')
  rises_then r q =
      record {
        counts = λ a h. omega (arith, r.counts a h, q.counts a (omega (arith, accounts_stay)));
        fund_count_lem = omega (arith, r.fund_count_lem, q.fund_count_lem);
      }

  pub keeps_then : Keeps s u (plus n m)
  keeps_then =
      record {
        kept = j.kept;
        stays = stays_then k.stays j.stays;
        money = j.money ∙ k.money;
        stock = λ l h. j.stock l (omega (arith, count_stays)) ∙ k.stock l h;
        units = omega (arith, k.units, j.units);
        lots = λ a l p h i. drawn_then (k.lots a l p h i) (j.lots a l p (omega (arith, accounts_stay)) (omega (arith, count_stays)));
        fund_sold = λ l. omega (arith, k.fund_sold l, j.fund_sold l);
        fund_handed = λ l. omega (arith, k.fund_handed l, j.fund_handed l);
        created = rises_then k.created j.created;
        redeemed = rises_then k.redeemed j.redeemed;
      }

-- the counts of one accepted call: its day, the lists that it made, and its value
abbrev pub call_tally : Day → Call → Lent → ℕ → Tally
call_tally d c made n =
    record {
      sold = λ a l. call_sold a l c;
      bought = λ a l. call_bought a l c;
      got = λ a l. call_got a l d c;
      handed = λ a l. call_handed_in a l d c made n;
      created = λ a. call_created a c;
      redeemed = λ a. call_redeemed a c;
      all_created = call_created_by_all c;
      all_redeemed = call_redeemed_by_all c;
    }

abbrev pub result_tally : Day → Call → Result → Tally
result_tally d c r = tally_if (is_accepted r.reply) (call_tally d c r.lent r.reply.value)

-- what is to be shown of each kind of call: of one that is accepted
abbrev pub AcceptedKeeps : State → Call → Lent → Type 0
AcceptedKeeps s c lent =
    let r = step s c lent in
    KeptState s → is_accepted r.reply ≡ true → Keeps s r.after (call_tally s.day c r.lent r.reply.value)
