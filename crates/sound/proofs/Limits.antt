-- What the tests on totals, on the fund's stretch and on sizes say, fact by fact.
use mathlib.Core.Path.{◌≡◌, sym, ap, ◌∙◌}
use mathlib.Core.Bool.{Bool, true, false, ◌&&◌}
use mathlib.Core.List.{List}
use Prim.Native.Nat.{ℕ, ◌+◌, ◌≤◌, ◌<◌, min}
use native.Mathlib.Omega.{arith}
use lib.Dec.{ltb, leb}
use lib.ListN.{get_or}
use borrow.Author.Tests.{le-leb, leb-true, lt-ltb, le-ltb, eqb-true}
use Rattle.totals.specs.Totals.{top, total, capped_total}
use Rattle.totals.proofs.Sums.{capped_is}
use Rattle.std.proofs.lemmas.Bool.Decides.{nat_tests}
use Rattle.sequences.specs.Every.{every}
use Rattle.sequences.specs.Below.{all_below}
use Rattle.sequences.proofs.Below.{all_at, all_true, all_more, cond_le}
use Rattle.sequences.proofs.Every.{every_at, false_of, same_test}
use Rattle.sequences.proofs.Stretch.{within}
use Rattle.fund.specs.Fund.{ceiling}
use Rattle.layout.specs.Book.{cash, created, redeemed, width_of, line_from}
use Rattle.rules.specs.Opening.{most_of_line, most_cash}
use Rattle.rules.specs.Sound.{most_units}
use Rattle.rules.proofs.SoundDay.{DaySizes}
use Rattle.sound.specs.Parts.{most_of, line_of, line_fits, totals_fit, line_still, stretch_still}

-- Sizes.

-- the first stretch lies in the book
pub sizes_first : {accounts n book prices : ℕ} → DaySizes accounts n book prices → width_of n ≤ book
sizes_first {accounts} {n} s = omega (arith, within (width_of n) 0 accounts (omega arith), s.book_size)

-- Totals.

pub most_line_lem : (n l : ℕ) → l < n → most_of n l ≡ most_of_line
unfolding most_of
most_line_lem n l h = rw (lt-ltb l n h)

pub most_unit : (n l : ℕ) → n ≤ l → most_of n l ≡ most_units
unfolding most_of
most_unit n l h = rw (le-ltb l n h)

most_le : (n l : ℕ) → most_of n l ≤ most_units
unfolding most_of
most_le n l = cond_le (ltb l n) (omega arith) (omega arith)

pub record Fits (n : ℕ) (t : ℕ → ℕ) : Type 0 where
  pub money : t cash ≤ most_cash
  pub created_most : t created ≤ ceiling
  pub redeemed_most : t redeemed ≤ ceiling
  pub lines : (l : ℕ) → l < n + 1 → line_fits n t l ≡ true

module _ (n : ℕ) (t : ℕ → ℕ) where
  pub line-true : (l : ℕ) → line_of t l ≤ most_of n l → line_fits n t l ≡ true
  unfolding line_fits
  line-true l h = le-leb _ _ h

  pub line_facts : (l : ℕ) → line_fits n t l ≡ true → line_of t l ≤ most_of n l
  unfolding line_fits
  line_facts l e = leb-true _ _ e

  pub fits_true : Fits n t → totals_fit n t ≡ true
  unfolding totals_fit every
  fits_true f =
      let lines = all_true (line_fits n t) (n + 1) f.lines in
      grind (arith, nat_tests)

  pub fits_facts : totals_fit n t ≡ true → Fits n t
  unfolding totals_fit
  fits_facts e =
      let at = every_at _ e in
      record {
        money = leb-true _ _ (at 0);
        created_most = leb-true _ _ (at 1);
        redeemed_most = leb-true _ _ (at 2);
        lines = all_at (line_fits n t) (n + 1) (at 3);
      }

  pub fits-false : (Fits n t → ⊥) → totals_fit n t ≡ false
  fits-false h = false_of (totals_fit n t) (λ e. h (fits_facts e))

-- every line of a component within its limit, and the unit within its own
pub lines_apart : (n : ℕ) (t : ℕ → ℕ) → (all_below (λ l. leb (line_of t l) most_of_line) n && leb (line_of t n) most_units) ≡ all_below (line_fits n t) (n + 1)
unfolding line_fits
lines_apart n t =
    let fits : ℕ → Bool = λ l. leb (line_of t l) most_of_line in
    let same : (l : ℕ) → l < n → line_fits n t l ≡ fits l = λ l h. ap (leb (line_of t l)) (most_line_lem n l h) in
    let lines : all_below fits n ≡ all_below (line_fits n t) n =
    same_test _ _ (λ e. all_true (line_fits n t) n (λ l h. same l h ∙ all_at fits n e l h)) (λ e. all_true fits n (λ l h. sym (same l h) ∙ all_at (line_fits n t) n e l h))
    in
    ap (λ (b : Bool). b && leb (line_of t n) most_units) lines
    ∙ ap (λ (b : Bool). all_below (line_fits n t) n && b) (sym (ap (leb (line_of t n)) (most_unit n n (omega arith))))
    ∙ sym (all_more (line_fits n t) n)

-- Two families of totals: u is t as far as 2^62. As each limit is below that, both fit or neither does.
module _ (n : ℕ) (t u : ℕ → ℕ) (capped : (k : ℕ) → k < width_of n → u k ≡ min (t k) top) where
  pub capped_fits : Fits n t → Fits n u
  capped_fits f =
      record {
        money = omega (arith, f.money, capped cash (omega arith));
        created_most = omega (arith, f.created_most, capped created (omega arith));
        redeemed_most = omega (arith, f.redeemed_most, capped redeemed (omega arith));
        lines =
            λ l h. line-true n u l (omega (
              arith,
              line_facts n t l (f.lines l h),
              capped (line_from l) (omega arith),
              capped (line_from l + 1) (omega arith),
              capped (line_from l + 2) (omega arith),
            ));
      }

  pub fits_capped : Fits n u → Fits n t
  fits_capped f =
      record {
        money = omega (arith, f.money, capped cash (omega arith));
        created_most = omega (arith, f.created_most, capped created (omega arith));
        redeemed_most = omega (arith, f.redeemed_most, capped redeemed (omega arith));
        lines = λ l h.
            line-true n t l (omega (
              arith,
              line_facts n u l (f.lines l h),
              most_le n l,
              capped (line_from l) (omega arith),
              capped (line_from l + 1) (omega arith),
              capped (line_from l + 2) (omega arith),
            ));
      }

  -- of totals that fit, those of the units and of `created` are not capped
  pub units_capped : Fits n t → (line_of u n ≡ line_of t n) × (u created ≡ t created)
  units_capped f = (
    omega (arith, line_facts n t n (f.lines n (omega arith)), most_le n n, capped (line_from n) (omega arith), capped (line_from n + 1) (omega arith), capped (line_from n + 2) (omega arith)),
    omega (arith, f.created_most, capped created (omega arith)),
  )

-- what the room is reckoned with: the totals of the units and of `created` of a book that fits are not capped; the width w is that of n components
pub room_totals : (b : List ℕ) (accounts n w : ℕ) → w ≡ width_of n → totals_fit n (total b (width_of n) accounts) ≡ true
    → (line_of (capped_total b w accounts) n ≡ line_of (total b (width_of n) accounts) n)
    × (capped_total b w accounts created ≡ total b (width_of n) accounts created)
    × (total b (width_of n) accounts created ≤ ceiling)
room_totals b accounts n w e fits =
    let f = fits_facts n (total b (width_of n) accounts) fits in
    let u = units_capped n _ _ (λ k h. capped_is b (width_of n) accounts k) f in
    rw e (u.0, u.1, f.created_most)

-- The fund's stretch.

pub record Still (n : ℕ) (b : List ℕ) : Type 0 where
  pub created_none : get_or b created 0 ≡ 0
  pub redeemed_none : get_or b redeemed 0 ≡ 0
  pub no_units : get_or b (line_from n) 0 ≡ 0
  pub lines : (l : ℕ) → l < n + 1 → line_still b l ≡ true

pub line_still_lem : (b : List ℕ) (l : ℕ) → get_or b (line_from l + 1) 0 ≡ 0 → get_or b (line_from l + 2) 0 ≡ 0 → line_still b l ≡ true
unfolding line_still every
line_still_lem b l p q = grind (arith, nat_tests)

pub still_line : (b : List ℕ) (l : ℕ) → line_still b l ≡ true → (get_or b (line_from l + 1) 0 ≡ 0) × (get_or b (line_from l + 2) 0 ≡ 0)
unfolding line_still every
still_line b l e = grind (arith, nat_tests)

module _ (n : ℕ) (b : List ℕ) where
  pub still_true : Still n b → stretch_still n b ≡ true
  unfolding stretch_still every
  still_true s =
      let lines = all_true (line_still b) (n + 1) s.lines in
      grind (arith, nat_tests)

  pub still_facts : stretch_still n b ≡ true → Still n b
  unfolding stretch_still
  still_facts e =
      let at = every_at _ e in
      record {
        created_none = eqb-true _ _ (at 0);
        redeemed_none = eqb-true _ _ (at 1);
        no_units = eqb-true _ _ (at 2);
        lines = all_at (line_still b) (n + 1) (at 3);
      }
