-- What refusal 5 says of a day, fact by fact.
use mathlib.Core.Path.{◌≡◌, refl, sym, ap, subst⁻¹, ◌∙◌}
use mathlib.Core.Bool.{Bool, true, false, not, ◌||◌}
use mathlib.Core.List.{List, [], ◌∷◌, ◌++◌}
use Prim.Native.Nat.{ℕ, ◌+◌, ◌-◌, ◌*◌, ◌≤◌, ◌<◌}
use native.Mathlib.Decide.{dec_lt, ℕ_discrete}
use native.Mathlib.Omega.{arith}
use lib.Dec.{leb, ltb, eqb}
use lib.ListN.{length}
use borrow.Author.Tests.{le-leb, leb-true, lt-ltb, le-ltb, ltb-false, eq-eqb, ne_eqb, eqb-true, not-false}
use Rattle.std.proofs.lemmas.Bool.{or_parts}
use Rattle.std.proofs.lemmas.Bool.Decides.{nat_tests}
use Rattle.sequences.specs.Every.{every, inside}
use Rattle.sequences.specs.Below.{all_below}
use Rattle.sequences.proofs.Below.{all_at, all_true, first_all, first_end, first_stops}
use Rattle.sequences.proofs.Every.{every_at, every_more, every_none}
use Rattle.sequences.proofs.Checks.{Passed, passed_all, passes_all, passed_each, passed_both}
use Rattle.flags.specs.Table.{FlagTable, flag_count, row_of, row_fits, table_fault}
use Rattle.layout.specs.Places.{most_components, lines_from}
use Rattle.layout.specs.declared.Fund.{Fund}
use Rattle.layout.specs.declared.Component.{Component}
use Rattle.fund.specs.Fund.{ceiling, fund_in_range}
use Rattle.fund.specs.Components.{fault_at, component_fault}
use Rattle.layout.specs.Day.{Day}
use Rattle.layout.specs.Book.{width_of, cash, created, redeemed, head_at, lots_at, width, account, head_total, line_total}
use Rattle.rules.specs.Lines.{price_of}
use Rattle.rules.specs.Opening.{most_of_line, most_cash, day_sizes_fit, size_checks, table_checks, fund_checks, DayTotals, over_at, total_fault, total_checks, day_checks}
use Rattle.rules.specs.Sound.{most_units, most_price, day_totals, opens, fund_still, is_sound, is_kept}

-- Refusal 1: a day's sizes.

pub record DaySizes (accounts n book prices : ℕ) : Type 0 where
  pub accounts_low : 2 ≤ accounts
  pub accounts_high : accounts ≤ 64
  pub count_low : 1 ≤ n
  pub count_high : n ≤ most_components
  pub book_size : book ≡ accounts * width_of n
  pub prices_size : prices ≡ n

module _ (accounts n book prices : ℕ) where
  pub sizes_true : DaySizes accounts n book prices → day_sizes_fit accounts n book prices ≡ true
  unfolding day_sizes_fit every inside
  sizes_true s = grind (arith, nat_tests)

  pub sizes_facts : day_sizes_fit accounts n book prices ≡ true → DaySizes accounts n book prices
  unfolding day_sizes_fit every inside
  sizes_facts e = grind (arith, nat_tests)

-- Refusal 21: the flag table.

module _ (t : FlagTable) where
  pub table_facts : Passed (table_checks t) → table_fault t ≡ flag_count
  unfolding table_checks table_fault
  table_facts p = first_stops (λ f. not (row_fits (row_of t f))) flag_count p.0

  pub table_passed : table_fault t ≡ flag_count → Passed (table_checks t)
  unfolding table_checks
  table_passed e = (le-ltb _ flag_count (omega (arith, e)), tt)

-- Refusals 2 and 3: the fund's fields and its components.

module _ (t : FlagTable) (fund : Fund) (cs : List Component) (n : ℕ) where
  component_end : ltb (component_fault t fund.first_code cs n) n ≡ false → component_fault t fund.first_code cs n ≡ n
  unfolding component_fault
  component_end e = first_stops (fault_at t fund.first_code cs) n e

  pub fund_facts : Passed (fund_checks t fund cs n) → (fund_in_range fund ≡ true) × (component_fault t fund.first_code cs n ≡ n)
  unfolding fund_checks
  fund_facts p = (not-false _ p.0, component_end p.1.0)

  pub fund_passed : fund_in_range fund ≡ true → component_fault t fund.first_code cs n ≡ n → Passed (fund_checks t fund cs n)
  unfolding fund_checks
  fund_passed e f = (ap not e, (le-ltb _ n (omega (arith, f)), tt))

-- Refusal 4: totals.

module _ (n : ℕ) (t : DayTotals) where
  pub over_line : (l : ℕ) → l < n → over_at n t l ≡ ltb most_of_line (t.line l)
  unfolding over_at
  over_line l h = rw (lt-ltb l n h)

  pub over_units : over_at n t n ≡ (ltb t.units_most (t.line n) || ltb 0 t.fund_units)
  unfolding over_at
  over_units = rw (le-ltb n n (omega arith), eq-eqb n n refl)

  pub over_cash : over_at n t (n + 1) ≡ ltb most_cash t.cash_total
  unfolding over_at
  over_cash = rw (le-ltb (n + 1) n (omega arith), ne_eqb (n + 1) n (λ e. omega arith))

  -- no place is at fault
  pub totals_facts : Passed (total_checks n t)
      → ((l : ℕ) → l < n → t.line l ≤ most_of_line) × (t.line n ≤ t.units_most) × (t.fund_units ≡ 0) × (t.cash_total ≤ most_cash)
  unfolding total_checks total_fault
  totals_facts p =
      let all = first_all (over_at n t) (n + 2) (first_stops (over_at n t) (n + 2) p.0) in
      let at_n = or_parts _ _ (sym over_units ∙ all n (omega arith)) in
      let none : t.fund_units ≤ 0 = ltb-false 0 t.fund_units at_n.1 in (
        (λ l h. ltb-false most_of_line (t.line l) (sym (over_line l h) ∙ all l (omega arith))),
        ltb-false t.units_most (t.line n) at_n.0,
        omega arith,
        ltb-false most_cash t.cash_total (sym over_cash ∙ all (n + 1) (omega arith)),
      )

  pub totals_passed : ((l : ℕ) → l < n → t.line l ≤ most_of_line) → t.line n ≤ t.units_most → t.fund_units ≡ 0 → t.cash_total ≤ most_cash
      → Passed (total_checks n t)
  unfolding total_checks total_fault
  totals_passed lines units none money = (le-ltb _ (n + 2) (omega (arith, first_end (over_at n t) (n + 2) at)), tt)
    where
      at_n : (ltb t.units_most (t.line n) || ltb 0 t.fund_units) ≡ false
      at_n = rw (le-ltb t.units_most (t.line n) units, none)

      place : (k : ℕ) → k < n + 2 → Dec (k < n) → Dec (k ≡ n) → over_at n t k ≡ false
      place k h (yes l) e = over_line k l ∙ le-ltb most_of_line (t.line k) (lines k l)
      place k h (no l) (yes e) = subst⁻¹ (λ (i : ℕ). over_at n t i ≡ false) e (over_units ∙ at_n)
      place k h (no l) (no e) =
          let f : k ≡ n + 1 = omega arith in
          subst⁻¹ (λ (i : ℕ). over_at n t i ≡ false) f (over_cash ∙ le-ltb most_cash t.cash_total money)

      at : (k : ℕ) → k < n + 2 → over_at n t k ≡ false
      at k h = place k h (dec_lt k n) (ℕ_discrete k n)

-- the tests of opening, each as a fact
pub record Opens (fit : Bool) (table : FlagTable) (fund : Fund) (cs : List Component) (n : ℕ) (t : DayTotals) : Type 0 where
  pub sizes : fit ≡ true
  pub loads : table_fault table ≡ flag_count
  pub fund_fields : fund_in_range fund ≡ true
  pub components : component_fault table fund.first_code cs n ≡ n
  pub lines : (l : ℕ) → l < n → t.line l ≤ most_of_line
  pub units : t.line n ≤ t.units_most
  pub fund_units_lem : t.fund_units ≡ 0
  pub money : t.cash_total ≤ most_cash

module _ (fit : Bool) (table : FlagTable) (fund : Fund) (cs : List Component) (n : ℕ) (t : DayTotals) where
  pub opens_facts : Passed (day_checks fit table fund cs n t) → Opens fit table fund cs n t
  unfolding day_checks size_checks
  opens_facts p =
      let behind = passed_each (table_checks table) (fund_checks table fund cs n ++ total_checks n t) p.1 in
      let stages = passed_each (fund_checks table fund cs n) (total_checks n t) behind.1 in
      let f = fund_facts table fund cs n stages.0 in
      let q = totals_facts n t stages.1 in
      record {
        sizes = not-false fit p.0;
        loads = table_facts table behind.0;
        fund_fields = f.0;
        components = f.1;
        lines = q.0;
        units = q.1;
        fund_units_lem = q.2;
        money = q.3;
      }

  pub opens_passed : Opens fit table fund cs n t → Passed (day_checks fit table fund cs n t)
  unfolding day_checks size_checks
  opens_passed o = (
    ap not o.sizes,
    passed_both (table_checks table) (fund_checks table fund cs n ++ total_checks n t) (table_passed table o.loads)
        (passed_both (fund_checks table fund cs n) (total_checks n t) (fund_passed table fund cs n o.fund_fields o.components)
        (totals_passed n t o.lines o.units o.fund_units_lem o.money)),
  )

-- A day that is sound, fact by fact, in the parts that a call changes: the day's own, its book and its prices.

pub record OwnSound (d : Day) : Type 0 where
  pub accounts_low : 2 ≤ d.accounts
  pub accounts_high : d.accounts ≤ 64
  pub count_low : 1 ≤ d.count
  pub count_high : d.count ≤ most_components
  pub loads : table_fault d.table ≡ flag_count
  pub fund_fields : fund_in_range d.fund ≡ true
  pub components : component_fault d.table d.fund.first_code d.components d.count ≡ d.count

pub record BookSound (d : Day) (b : List ℕ) : Type 0 where
  pub book_size : length b ≡ d.accounts * width d
  pub lines : (l : ℕ) → l < d.count → line_total d b l ≤ most_of_line
  pub units : line_total d b d.count ≤ most_units
  pub money : head_total d b cash ≤ most_cash
  pub created_most : head_total d b created ≤ ceiling
  pub redeemed_most : head_total d b redeemed ≤ ceiling
  pub fund_units_lem : (lots_at (account d b 0) d.count).old ≡ 0
  pub fund_created : head_at (account d b 0) created ≡ 0
  pub fund_redeemed : head_at (account d b 0) redeemed ≡ 0
  pub fund_bought : (l : ℕ) → l < d.count + 1 → (lots_at (account d b 0) l).bought ≡ 0
  pub fund_got : (l : ℕ) → l < d.count + 1 → (lots_at (account d b 0) l).got ≡ 0

pub record PricesSound (d : Day) (ps : List ℕ) : Type 0 where
  pub prices_size : length ps ≡ d.count
  pub prices_most : (i : ℕ) → i < d.count → price_of ps i ≤ most_price

pub record SoundDay (d : Day) (b ps : List ℕ) : Type 0 where
  pub own : OwnSound d
  pub book : BookSound d b
  pub prices : PricesSound d ps

-- its sizes
pub sound_sizes : {d : Day} {b ps : List ℕ} → SoundDay d b ps → DaySizes d.accounts d.count (length b) (length ps)
sound_sizes s =
    record {
      accounts_low = s.own.accounts_low;
      accounts_high = s.own.accounts_high;
      count_low = s.own.count_low;
      count_high = s.own.count_high;
      book_size = s.book.book_size;
      prices_size = s.prices.prices_size;
    }

module _ (d : Day) (b ps : List ℕ) where
  opens_at : opens d b ps ≡ true → Opens (day_sizes_fit d.accounts d.count (length b) (length ps)) d.table d.fund d.components d.count (day_totals d b)
  unfolding opens
  opens_at e = opens_facts _ _ _ _ _ _ (passed_all _ e)

  at_opens : Opens (day_sizes_fit d.accounts d.count (length b) (length ps)) d.table d.fund d.components d.count (day_totals d b) → opens d b ps ≡ true
  unfolding opens
  at_opens o = passes_all _ (opens_passed _ _ _ _ _ _ o)

  abbrev still_tests : List Bool
  still_tests =
      eqb (head_at (account d b 0) created) 0
      ∷ eqb (head_at (account d b 0) redeemed) 0
      ∷ all_below (λ l. eqb (lots_at (account d b 0) l).bought 0) (d.count + 1)
      ∷ all_below (λ l. eqb (lots_at (account d b 0) l).got 0) (d.count + 1)
      ∷ []

  abbrev sound_tests : List Bool
  sound_tests =
      opens d b ps
      ∷ all_below (λ i. leb (price_of ps i) most_price) d.count
      ∷ leb (head_total d b created) ceiling
      ∷ leb (head_total d b redeemed) ceiling
      ∷ fund_still d b
      ∷ []

  pub sound_facts : is_sound d b ps ≡ true → SoundDay d b ps
  unfolding is_sound fund_still
  sound_facts e =
      let at = every_at sound_tests e in
      let o = opens_at (at 0) in
      let sizes = sizes_facts _ _ _ _ o.sizes in
      let still = every_at still_tests (at 4) in
      record {
        own =
            record {
              accounts_low = sizes.accounts_low;
              accounts_high = sizes.accounts_high;
              count_low = sizes.count_low;
              count_high = sizes.count_high;
              loads = o.loads;
              fund_fields = o.fund_fields;
              components = o.components;
            };
        book =
            record {
              book_size = sizes.book_size;
              lines = o.lines;
              units = o.units;
              money = o.money;
              created_most = leb-true _ _ (at 2);
              redeemed_most = leb-true _ _ (at 3);
              fund_units_lem = o.fund_units_lem;
              fund_created = eqb-true _ _ (still 0);
              fund_redeemed = eqb-true _ _ (still 1);
              fund_bought = λ l h. eqb-true _ _ (all_at (λ l. eqb (lots_at (account d b 0) l).bought 0) (d.count + 1) (still 2) l h);
              fund_got = λ l h. eqb-true _ _ (all_at (λ l. eqb (lots_at (account d b 0) l).got 0) (d.count + 1) (still 3) l h);
            };
        prices =
            record {
              prices_size = sizes.prices_size;
              prices_most = λ i h. leb-true _ _ (all_at (λ i. leb (price_of ps i) most_price) d.count (at 1) i h);
            };
      }

  pub sound-true : SoundDay d b ps → is_sound d b ps ≡ true
  unfolding is_sound fund_still
  sound-true f =
      every_more _ _
      (at_opens
      (record {
        sizes = sizes_true _ _ _ _ (sound_sizes f);
        loads = f.own.loads;
        fund_fields = f.own.fund_fields;
        components = f.own.components;
        lines = f.book.lines;
        units = f.book.units;
        fund_units_lem = f.book.fund_units_lem;
        money = f.book.money;
      }))
      (every_more _ _ (all_true _ d.count (λ i h. le-leb _ _ (f.prices.prices_most i h)))
      (every_more _ _ (le-leb _ _ f.book.created_most)
      (every_more _ _ (le-leb _ _ f.book.redeemed_most)
      (every_more _ _
      (every_more _ _ (eq-eqb _ _ f.book.fund_created)
      (every_more _ _ (eq-eqb _ _ f.book.fund_redeemed)
      (every_more _ _ (all_true _ (d.count + 1) (λ l h. eq-eqb _ _ (f.book.fund_bought l h)))
      (every_more _ _ (all_true _ (d.count + 1) (λ l h. eq-eqb _ _ (f.book.fund_got l h))) every_none))))
      every_none))))

-- the kept property, fact by fact
pub record Kept (d : Day) (b ps : List ℕ) : Type 0 where
  pub sound : SoundDay d b ps
  pub room : line_total d b d.count + (ceiling - head_total d b created) ≤ most_units

module _ (d : Day) (b ps : List ℕ) where
  pub kept_facts : is_kept d b ps ≡ true → Kept d b ps
  unfolding is_kept
  kept_facts e =
      let at = every_at (is_sound d b ps ∷ leb (line_total d b d.count + (ceiling - head_total d b created)) most_units ∷ []) e in
      record { sound = sound_facts d b ps (at 0); room = leb-true _ _ (at 1) }

  pub kept_true : Kept d b ps → is_kept d b ps ≡ true
  unfolding is_kept every
  kept_true k =
      let sound = sound-true d b ps k.sound in
      grind (arith, nat_tests)

-- other prices on a sound day, and on a kept one
pub sound_priced : {d : Day} {b ps qs : List ℕ} → SoundDay d b ps → PricesSound d qs → SoundDay d b qs
sound_priced s p = record { own = s.own; book = s.book; prices = p }

pub kept_priced : {d : Day} {b ps qs : List ℕ} → Kept d b ps → PricesSound d qs → Kept d b qs
kept_priced k p = record { sound = sound_priced k.sound p; room = k.room }

-- another book on a sound day
pub sound_booked : {d : Day} {b c ps : List ℕ} → SoundDay d b ps → BookSound d c → SoundDay d c ps
sound_booked s p = record { own = s.own; book = p; prices = s.prices }

-- a book that moved is sound where its totals are, and the fund's counters, bought and got lots and units are as they were
pub sound_moved : {d : Day} {b b' ps : List ℕ} → SoundDay d b ps
    → length b' ≡ length b
    → ((l : ℕ) → l < d.count → line_total d b' l ≡ line_total d b l)
    → line_total d b' d.count ≤ most_units
    → head_total d b' cash ≡ head_total d b cash
    → head_total d b' created ≤ ceiling
    → head_total d b' redeemed ≤ ceiling
    → ((k : ℕ) → 0 < k → k < lines_from → head_at (account d b' 0) k ≡ head_at (account d b 0) k)
    → (lots_at (account d b' 0) d.count).old ≡ (lots_at (account d b 0) d.count).old
    → ((l : ℕ) → l < d.count + 1 → (lots_at (account d b' 0) l).bought ≡ (lots_at (account d b 0) l).bought)
    → ((l : ℕ) → l < d.count + 1 → (lots_at (account d b' 0) l).got ≡ (lots_at (account d b 0) l).got)
    → SoundDay d b' ps
sound_moved {d} {b} {b'} {ps} s size lines units money created_most redeemed_most heads old bought got =
    let k = s.book in
    sound_booked s
    (record {
      book_size = size ∙ k.book_size;
      lines = λ l h. omega (arith, lines l h, k.lines l h);
      units = units;
      money = omega (arith, money, k.money);
      created_most = created_most;
      redeemed_most = redeemed_most;
      fund_units_lem = old ∙ k.fund_units_lem;
      fund_created = heads created (omega arith) (omega arith) ∙ k.fund_created;
      fund_redeemed = heads redeemed (omega arith) (omega arith) ∙ k.fund_redeemed;
      fund_bought = λ l h. bought l h ∙ k.fund_bought l h;
      fund_got = λ l h. got l h ∙ k.fund_got l h;
    })
