-- Counters and their sums as the code reads them, what a sound day gives, and the answers test by test.
use mathlib.Core.Path.{◌≡◌, sym, ap}
use mathlib.Core.Bool.{Bool, true, ◌&&◌}
use mathlib.Core.List.{List, [], ◌∷◌}
use Prim.Native.Nat.{ℕ, ◌+◌, ◌*◌, ◌/◌, ◌%◌, ◌≤◌, ◌<◌, ◌^◌}
use native.Mathlib.Nat.{div-add-mod, mul-le-mul}
use native.Mathlib.Omega.{arith}
use lib.Dec.{leb, eqb}
use lib.ListN.{length}
use borrow.Author.Tests.{eqb-true}
use Rattle.std.proofs.lemmas.Grind.{common_steps}
use Rattle.sequences.specs.Every.{every, inside}
use Rattle.sequences.specs.Stretch.{over}
use Rattle.sequences.proofs.Below.{sum_none, sum_more, sum_grows}
use Rattle.sequences.proofs.Every.{every_at, inside_facts}
use Rattle.sequences.proofs.Stretch.{within}
use Rattle.fund.specs.Fund.{ceiling, cumulative_limit, cumulative_limit_each, net_limit, net_limit_each}
use Rattle.fund.proofs.Laws.{fund_sound}
use Rattle.layout.specs.declared.DayHead.{DayHead}
use Rattle.layout.specs.Day.{Day, day_of}
use Rattle.layout.specs.Book.{width, account, head_at, head_total, counter}
use Rattle.rules.specs.declared.Kind.{Kind}
use Rattle.rules.specs.declared.Kind.TheVariants.{Creation, Redemption}
use Rattle.rules.specs.declared.Ask.{Ask}
use Rattle.rules.specs.Orders.{opposite_kind, most_baskets, baskets, whole_baskets, form_checks, switch_allows, number_of, count_of, fund_count, within_limits, permission_checks}
use Rattle.rules.proofs.SoundDay.{SoundDay}
use Rattle.rules.proofs.SoundAccount.{head_part}
use Rattle.order_form.specs.declared.Units.{Units}
use Rattle.order_form.specs.Form.{all_units, own_units, within_both, order_form, Countable}

-- a number of the head of the accounts below an index, summed
unfoldable pub heads_below : Day → List ℕ → ℕ → ℕ → ℕ
heads_below d b place a = over (width d) a (λ s. head_at s place) b

module _ (d : Day) (b : List ℕ) (place : ℕ) where
  pub heads_none : heads_below d b place 0 ≡ 0
  unfolding heads_below over
  heads_none = sum_none _

  pub heads_more : (a : ℕ) → heads_below d b place (a + 1) ≡ heads_below d b place a + head_at (account d b a) place
  unfolding heads_below over
  heads_more a = sum_more _ a

  pub heads_grow : (a : ℕ) → a ≤ d.accounts → heads_below d b place a ≤ head_total d b place
  unfolding heads_below over head_total
  heads_grow a h = sum_grows _ a d.accounts h

-- an account's place in the book
pub slot : (accounts v a w : ℕ) (b : List ℕ) → length b ≡ accounts * v → w ≡ v → a < accounts → a * w + w ≤ length b
slot accounts v a w b size e h = rw (e, size) (within v a accounts h)

-- an order that passes 11 is small
pub units_small : (size units : ℕ) → every (eqb (units % size) 0 ∷ inside 1 most_baskets (units / size) ∷ []) ≡ true → size ≤ 99_999_999 → units ≤ 1_999_999_980
units_small size units e high =
    let at = every_at (eqb (units % size) 0 ∷ inside 1 most_baskets (units / size) ∷ []) e in
    let r = eqb-true (units % size) 0 (at 0) in
    let q = inside_facts 1 most_baskets (units / size) (at 1) in
    let p : size * (units / size) ≤ 99_999_999 * 20 = mul-le-mul high q.1 in
    omega (arith, div-add-mod units size)

pub sound_countable : (d : Day) (b ps : List ℕ) → SoundDay d b ps → Countable d b
sound_countable d b ps s =
    let f = fund_sound d.fund s.own.fund_fields in
    record {
      accounts_low = s.own.accounts_low;
      accounts_high = s.own.accounts_high;
      count_high = s.own.count_high;
      size = s.book.book_size;
      basket_low = f.size_low;
      basket_high = f.size_high;
      created_most = s.book.created_most;
      redeemed_most = s.book.redeemed_most;
    }

-- a counter of all accounts is at most the ceiling, and so is each account's
module _ (d : Day) (b : List ℕ) (q : Countable d b) where
  pub sum_most : (kind : Kind) → head_total d b (counter (number_of kind)) ≤ ceiling
  sum_most Creation = q.created_most
  sum_most Redemption = q.redeemed_most

  pub all_most : (kind : Kind) (all : Units) → all ≡ all_units d b kind → all.made ≤ ceiling
  unfolding all_units fund_count
  all_most kind all e = omega (arith, ap (λ (x : Units). x.made) e, sum_most kind)

  pub own_most : (kind : Kind) (a : ℕ) (own : Units) → own ≡ own_units d b a kind → a < d.accounts → own.made ≤ ceiling
  unfolding own_units count_of
  own_most kind a own e h = omega (arith, ap (λ (x : Units). x.made) e, head_part d b a h (counter (number_of kind)), sum_most kind)

-- with an order's units they fit
pub all_fits : (d : Day) (b : List ℕ) (kind : Kind) (units : ℕ) (all : Units) → all ≡ all_units d b kind → Countable d b → units ≤ 1_999_999_980 → all.made + units < 2 ^ 64
all_fits d b kind units all e q h = omega (arith, all_most d b q kind all e)

pub own_fits : (d : Day) (b : List ℕ) (kind : Kind) (a units : ℕ) (own : Units) → own ≡ own_units d b a kind → Countable d b → a < d.accounts → units ≤ 1_999_999_980
    → own.made + units < 2 ^ 64
own_fits d b kind a units own e q l h = omega (arith, own_most d b q kind a own e l)

-- the units of one account more
module _ (d : Day) (b : List ℕ) (kind : Kind) (a : ℕ) (own : Units) (is : own ≡ own_units d b a kind) where
  pub counted : (x y : ℕ) → x ≡ heads_below d b (counter (number_of kind)) a → y ≡ heads_below d b (counter (number_of (opposite_kind kind))) a
      → (x + own.made ≡ heads_below d b (counter (number_of kind)) (a + 1)) × (y + own.reverse ≡ heads_below d b (counter (number_of (opposite_kind kind))) (a + 1))
  unfolding own_units count_of
  counted x y e f = (
    rw (e, ap (λ (c : Units). c.made) is) (sym (heads_more d b (counter (number_of kind)) a)),
    rw (f, ap (λ (c : Units). c.reverse) is) (sym (heads_more d b (counter (number_of (opposite_kind kind))) a)),
  )

  -- they fit, as the sums over all do
  pub counted_fits : (x y : ℕ) → x ≡ heads_below d b (counter (number_of kind)) a → y ≡ heads_below d b (counter (number_of (opposite_kind kind))) a
      → Countable d b → a < d.accounts → (x + own.made ≤ ceiling) × (y + own.reverse ≤ ceiling)
  counted_fits x y e f q h =
      let more = counted x y e f in (
        omega (arith, more.0, heads_grow d b (counter (number_of kind)) (a + 1) (omega arith), sum_most d b q kind),
        omega (arith, more.1, heads_grow d b (counter (number_of (opposite_kind kind))) (a + 1) (omega arith), sum_most d b q (opposite_kind kind)),
      )

-- past the last account they are the units of all
pub counted_all : (d : Day) (b : List ℕ) (kind : Kind) (a : ℕ) (all : Units) → a ≡ d.accounts → all.made ≡ heads_below d b (counter (number_of kind)) a
    → all.reverse ≡ heads_below d b (counter (number_of (opposite_kind kind))) a → all ≡ all_units d b kind
unfolding all_units fund_count heads_below head_total
counted_all d b kind a all e p q = let m = rw e at p in let r = rw e at q in λ j. record { made = m j; reverse = r j }

-- five tests all pass, in the code's order
sorted : (a b c d e : Bool) → (((a && c) && e) && (b && d)) ≡ every (a ∷ b ∷ c ∷ d ∷ e ∷ [])
unfolding every
sorted a b c d e = grind (arith, common_steps)

-- the limits are those of all accounts, with the ceiling, and of the account
pub limits_are : (d : Day) (b : List ℕ) (ask : Ask) (all own : Units) → all ≡ all_units d b ask.kind → own ≡ own_units d b ask.account ask.kind
    → (wide under : Bool) → wide ≡ within_both d all ask cumulative_limit net_limit → under ≡ leb (all.made + ask.units) ceiling
    → ((wide && under) && within_both d own ask cumulative_limit_each net_limit_each) ≡ within_limits d b ask.kind ask.account ask.units
unfolding within_limits within_both all_units own_units
limits_are d b ask all own ea eo wide under ew eu = rw (ew, eu, ea, eo) (sorted _ _ _ _ _)

-- the tests look at no component, and not at the flag table
pub form_of_day : (d : Day) (h : DayHead) (b : List ℕ) (ask : Ask) → h ≡ record { accounts = d.accounts; count = d.count; fund = d.fund }
    → order_form (day_of h [] []) b ask ≡ order_form d b ask
unfolding order_form form_checks permission_checks switch_allows whole_baskets baskets within_limits fund_count count_of head_total
form_of_day d h b ask e = rw e

pub countable_head : (d : Day) (h : DayHead) (b : List ℕ) → h ≡ record { accounts = d.accounts; count = d.count; fund = d.fund } → Countable d b → Countable (day_of h [] []) b
unfolding head_total
countable_head d h b e r =
    rw e
    (record {
      accounts_low = r.accounts_low;
      accounts_high = r.accounts_high;
      count_high = r.count_high;
      size = r.size;
      basket_low = r.basket_low;
      basket_high = r.basket_high;
      created_most = r.created_most;
      redeemed_most = r.redeemed_most;
    })
