-- A sound day by the tests that the code makes: the totals over accounts are those of the book's places, and the fund's stretch is the book's first.
use mathlib.Core.Path.{◌≡◌, refl, sym, ap, ◌∙◌}
use mathlib.Core.Bool.{Bool, true, false, not, true≢false}
use mathlib.Core.List.{List, [], ◌∷◌}
use Prim.Native.Nat.{ℕ, zero, suc, ◌+◌, ◌-◌, ◌≤◌, ◌<◌}
use native.Mathlib.Nat.{zero-mul, zero-add, le_antisymm, le_of_eq}
use native.Mathlib.Decide.{dec_lt}
use native.Mathlib.Omega.{arith}
use lib.Dec.{leb}
use lib.ListN.{length, get_or}
use borrow.Author.Tests.{le-leb, leb-true}
use Rattle.std.specs.Prelude.{Option, Some, None, is_none}
use Rattle.sequences.specs.Every.{every}
use Rattle.sequences.specs.Below.{sum_below, all_below, below, first_below}
use Rattle.sequences.specs.Stretch.{over}
use Rattle.sequences.proofs.Below.{first_same, first-le, sum_same, all_at, all_true, below-none, below_none_fact}
use Rattle.sequences.proofs.Every.{every_none, every_more, every_at, false_of, same_test}
use Rattle.sequences.proofs.Stretch.{stretch_at}
use Rattle.fund.specs.Fund.{ceiling, fund_in_range}
use Rattle.layout.specs.Places.{most_components}
use Rattle.layout.specs.declared.Component.{Component}
use Rattle.layout.specs.Components.{blank, places_of, component_at}
use Rattle.layout.specs.declared.Fund.{Fund}
use Rattle.flags.specs.Table.{FlagTable, flag_count, row_of, row_fits, table_fault}
use Rattle.fund.specs.Components.{code_before, fault_at, component_fault}
use Rattle.layout.proofs.Components.{places_at}
use Rattle.layout.specs.Day.{Day}
use Rattle.layout.specs.Book.{cash, created, redeemed, head_at, lots_at, width, width_of, account, head_total, line_total, line_from}
use Rattle.rules.specs.Opening.{day_sizes_fit}
use Rattle.rules.specs.Sound.{is_sound, is_kept, most_units}
use Rattle.rules.proofs.SoundDay.{DaySizes, SoundDay, sizes_facts, sizes_true, sound_sizes, sound_facts, sound-true, Kept, kept_facts, kept_true}
use Rattle.totals.specs.Totals.{place_at, total}
use Rattle.sound.specs.Parts.{most_of, line_of, price_fits, room_left, stretch_still, totals_fit}
use Rattle.sound.proofs.Limits.{Fits, Still, still_true, still_facts, fits_true, fits_facts, most_line_lem, most_unit, line-true, line_facts, line_still_lem, still_line}

-- the search for a fault in a day's places looks at the first n only
pub fault_places : (t : FlagTable) (g : ℕ) (f : ℕ → Component) (n : ℕ) → n ≤ most_components
    → component_fault t g (places_of f n) n ≡ component_fault t g (places_of f most_components) n
unfolding component_fault fault_at code_before
fault_places t g f n most = first_same _ _ n agree
  where
    same : (k : ℕ) → k < n → get_or (places_of f n) k blank ≡ get_or (places_of f most_components) k blank
    same k h = places_at f n k h most ∙ sym (places_at f most_components k (omega arith) (omega arith))

    agree : (k : ℕ) → k < n → fault_at t g (places_of f n) k ≡ fault_at t g (places_of f most_components) k
    agree zero h = rw (same zero h)
    agree (suc k) h = rw (same (suc k) h, same k (omega arith))

-- a search that found none has passed all
none_is : (r : Option ℕ) → is_none r ≡ true → None ≡ r
none_is (Some k) e = absurd (true≢false (sym e))
none_is None e = refl

no_place : (f : ℕ → Bool) (n : ℕ) → is_none (below n (first_below f n)) ≡ true → first_below f n ≡ n
no_place f n e = le_antisymm (first-le f n) (below_none_fact n _ (none_is _ e))

-- the same of the searches of a table and of components
no_flag : (t : FlagTable) → is_none (below flag_count (table_fault t)) ≡ true → table_fault t ≡ flag_count
unfolding table_fault
no_flag t e = no_place (λ flag. not (row_fits (row_of t flag))) flag_count e

no_fault : (t : FlagTable) (g : ℕ) (cs : List Component) (n : ℕ) → is_none (below n (component_fault t g cs n)) ≡ true → component_fault t g cs n ≡ n
unfolding component_fault
no_fault t g cs n e = no_place (fault_at t g cs) n e

-- a sum of three
sum_three : (f g h : ℕ → ℕ) (n : ℕ) → sum_below (λ k. f k + g k + h k) n ≡ sum_below f n + sum_below g n + sum_below h n
unfolding sum_below
sum_three f g h zero = refl
sum_three f g h (suc n) = omega (arith, sum_three f g h n)

module _ (d : Day) (b : List ℕ) where
  -- the total at each place
  abbrev pub totals : ℕ → ℕ
  totals = total b (width d) d.accounts

  pub head_total_lem : (k : ℕ) → k < width d → head_total d b k ≡ totals k
  unfolding head_total over head_at total place_at
  head_total_lem k h = sum_same _ _ d.accounts (λ a _. stretch_at (width d) b a k h)

  pub line_total_lem : (l : ℕ) → l < d.count + 1 → line_total d b l ≡ line_of totals l
  unfolding line_total over lots_at total place_at
  line_total_lem l h =
      sum_same _ (λ a. place_at b (width d) (line_from l) a + place_at b (width d) (line_from l + 1) a + place_at b (width d) (line_from l + 2) a) d.accounts
      (λ a _. omega (arith, stretch_at (width d) b a (line_from l) (omega arith), stretch_at (width d) b a (line_from l + 1) (omega arith), stretch_at (width d) b a (line_from l + 2) (omega arith)))
      ∙ sum_three (place_at b (width d) (line_from l)) (place_at b (width d) (line_from l + 1)) (place_at b (width d) (line_from l + 2)) d.accounts

  -- the fund's stretch is the first
  pub fund_place : (k : ℕ) → k < width d → get_or (account d b 0) k 0 ≡ get_or b k 0
  fund_place k h = stretch_at (width d) b 0 k h ∙ rw (zero-mul, zero-add)

module _ {d : Day} {b ps : List ℕ} (s : SoundDay d b ps) where
  pub day_prices : all_below (price_fits ps) d.count ≡ true
  unfolding price_fits
  day_prices = all_true _ d.count (λ i h. le-leb _ _ (s.prices.prices_most i h))

  pub day_still : Still d.count b
  unfolding head_at lots_at
  day_still =
      record {
        created_none = sym (fund_place d b created (omega arith)) ∙ s.book.fund_created;
        redeemed_none = sym (fund_place d b redeemed (omega arith)) ∙ s.book.fund_redeemed;
        no_units = sym (fund_place d b (line_from d.count) (omega arith)) ∙ s.book.fund_units_lem;
        lines = λ l h. line_still_lem b l (sym (fund_place d b (line_from l + 1) (omega arith)) ∙ s.book.fund_bought l h) (sym (fund_place d b (line_from l + 2) (omega arith)) ∙ s.book.fund_got l h);
      }

  line_most : (l : ℕ) → l < d.count + 1 → Dec (l < d.count) → line_total d b l ≤ most_of d.count l
  line_most l h (yes i) = omega (arith, s.book.lines l i, most_line_lem d.count l i)
  line_most l h (no i) =
      let e : d.count ≡ l = omega arith in
      omega (arith, s.book.units, ap (line_total d b) e, most_unit d.count l (omega arith))

  pub day_fits : Fits d.count (totals d b)
  day_fits =
      record {
        money = omega (arith, s.book.money, head_total_lem d b cash (omega arith));
        created_most = omega (arith, s.book.created_most, head_total_lem d b created (omega arith));
        redeemed_most = omega (arith, s.book.redeemed_most, head_total_lem d b redeemed (omega arith));
        lines = λ l h. line-true _ _ l (omega (arith, line_total_lem d b l h, line_most l h (dec_lt l d.count)));
      }

-- the other way round
pub day_sound : {d : Day} {b ps : List ℕ} → DaySizes d.accounts d.count (length b) (length ps)
    → table_fault d.table ≡ flag_count
    → fund_in_range d.fund ≡ true
    → component_fault d.table d.fund.first_code d.components d.count ≡ d.count
    → all_below (price_fits ps) d.count ≡ true
    → Still d.count b
    → Fits d.count (totals d b)
    → SoundDay d b ps
unfolding head_at lots_at price_fits
day_sound {d} {b} {ps} sizes loads fund components prices still fits =
    record {
      own =
          record {
            accounts_low = sizes.accounts_low;
            accounts_high = sizes.accounts_high;
            count_low = sizes.count_low;
            count_high = sizes.count_high;
            loads = loads;
            fund_fields = fund;
            components = components;
          };
      book =
          record {
            book_size = sizes.book_size;
            lines = λ l h. omega (arith, line_total_lem d b l (omega arith), line_facts _ _ l (fits.lines l (omega arith)), most_line_lem d.count l h);
            units = omega (arith, line_total_lem d b d.count (omega arith), line_facts _ _ d.count (fits.lines d.count (omega arith)), most_unit d.count d.count (omega arith));
            money = omega (arith, fits.money, head_total_lem d b cash (omega arith));
            created_most = omega (arith, fits.created_most, head_total_lem d b created (omega arith));
            redeemed_most = omega (arith, fits.redeemed_most, head_total_lem d b redeemed (omega arith));
            fund_units_lem = fund_place d b (line_from d.count) (omega arith) ∙ still.no_units;
            fund_created = fund_place d b created (omega arith) ∙ still.created_none;
            fund_redeemed = fund_place d b redeemed (omega arith) ∙ still.redeemed_none;
            fund_bought = λ l h. fund_place d b (line_from l + 1) (omega arith) ∙ (still_line b l (still.lines l h)).0;
            fund_got = λ l h. fund_place d b (line_from l + 2) (omega arith) ∙ (still_line b l (still.lines l h)).1;
          };
      prices =
          record {
            prices_size = sizes.prices_size;
            prices_most = λ i h. leb-true _ _ (all_at (price_fits ps) d.count prices i h);
          };
    }

module _ (d : Day) (b ps : List ℕ) where
  pub unkept : (Kept d b ps → ⊥) → is_kept d b ps ≡ false
  unkept h = false_of (is_kept d b ps) (λ e. h (kept_facts d b ps e))

  -- the room, by the totals
  pub room_same : room_left d.count (totals d b) ≡ leb (line_total d b d.count + (ceiling - head_total d b created)) most_units
  unfolding room_left
  room_same = rw (line_total_lem d b d.count (omega arith), head_total_lem d b created (omega arith))

-- the tests decide, in the order in which the code makes them
module _ (d : Day) (b ps basket : List ℕ) {t : FlagTable} {f : Fund} {accounts n : ℕ}
    (r : t ≡ d.table) (a : accounts ≡ d.accounts) (e : n ≡ d.count) (g : f ≡ d.fund) (c : places_of (component_at basket) most_components ≡ d.components) where
  abbrev fault : ℕ
  fault = component_fault t f.first_code (places_of (component_at basket) n) n

  -- the search in the basket is the search in the day's components
  fault_same : n ≤ most_components → fault ≡ component_fault d.table d.fund.first_code d.components d.count
  fault_same most = fault_places t f.first_code (component_at basket) n most ∙ rw (r, c, e, g)

  none_true : n ≤ most_components → component_fault d.table d.fund.first_code d.components d.count ≡ d.count → is_none (below n fault) ≡ true
  none_true most q = ap is_none (below-none n fault (le_of_eq (e ∙ sym (fault_same most ∙ q))))

  none_fact : n ≤ most_components → is_none (below n fault) ≡ true → component_fault d.table d.fund.first_code d.components d.count ≡ d.count
  none_fact most q = sym (fault_same most) ∙ no_fault t f.first_code (places_of (component_at basket) n) n q ∙ e

  loads_true : table_fault d.table ≡ flag_count → is_none (below flag_count (table_fault t)) ≡ true
  loads_true q = ap is_none (below-none flag_count (table_fault t) (rw r (le_of_eq (sym q))))

  pub sound_tests :
      is_sound d b ps ≡
      every
      (day_sizes_fit accounts n (length b) (length ps)
      ∷ is_none (below flag_count (table_fault t))
      ∷ fund_in_range f
      ∷ is_none (below n fault)
      ∷ all_below (price_fits ps) (length ps)
      ∷ stretch_still n b
      ∷ totals_fit n (total b (width_of n) accounts)
      ∷ [])
  sound_tests =
      same_test _ _
      (λ q.
      let s = sound_facts d b ps q in
      let own = sound_sizes s in
      let fit : DaySizes accounts n (length b) (length ps) = rw (a, e) own in
      every_more _ _ (sizes_true _ _ _ _ fit)
      (every_more _ _ (loads_true s.own.loads)
      (every_more _ _ (rw g s.own.fund_fields)
      (every_more _ _ (none_true fit.count_high s.own.components)
      (every_more _ _ (rw own.prices_size (day_prices s))
      (every_more _ _ (rw e (still_true _ _ (day_still s)))
      (every_more _ _ (rw (a, e) (fits_true _ _ (day_fits s))) every_none)))))))
      (λ q.
      let at = every_at _ q in
      let fit = sizes_facts _ _ _ _ (at 0) in
      let own : DaySizes d.accounts d.count (length b) (length ps) = rw (a, e) at fit in
      sound-true d b ps
      (day_sound own (rw r at (no_flag t (at 1))) (rw g at (at 2)) (none_fact fit.count_high (at 3)) (rw own.prices_size at (at 4)) (still_facts d.count b (rw e at (at 5)))
      (fits_facts d.count (totals d b) (rw (a, e) at (at 6)))))

-- a sound day is kept where there is room, and no other is
pub kept_room : {d : Day} {b ps : List ℕ} → SoundDay d b ps → room_left d.count (totals d b) ≡ is_kept d b ps
kept_room {d} {b} {ps} s =
    let e = room_same d b ps in
    same_test _ _
    (λ t. kept_true d b ps (record { sound = s; room = leb-true _ _ (sym e ∙ t) }))
    (λ t. e ∙ le-leb _ _ (kept_facts d b ps t).room)

pub unkept_unsound : (d : Day) (b ps : List ℕ) → is_sound d b ps ≡ false → false ≡ is_kept d b ps
unkept_unsound d b ps e = sym (unkept d b ps (λ k. true≢false (sym (sound-true d b ps k.sound) ∙ e)))
