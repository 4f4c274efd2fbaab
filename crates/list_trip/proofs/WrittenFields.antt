-- The fields of a list that passes: the figure of each fits its field in the head.
use mathlib.Core.Path.{◌≡◌, refl}
use mathlib.Core.Bool.{true, false}
use mathlib.Core.List.{List}
use Prim.Native.Nat.{ℕ, ◌+◌, ◌-◌, ◌/◌, ◌^◌, ◌≤◌, ◌<◌}
use native.Mathlib.Nat.{div-one, div-lt_iff_lt-mul, le_of_lt}
use native.Mathlib.Omega.{arith}
use lib.IntN.{ℤ, pos, negsuc}
use lib.ListN.{length, get_or}
use borrow.Author.Tests.{le-leb, ltb-true, leb-true}
use Rattle.std.specs.Prelude.{Option, Some, None}
use Rattle.layout.specs.Places.{most_components}
use Rattle.fund.specs.Fund.{cash_in_range}
use Rattle.fund.proofs.Laws.{fund_sound, fund_limits}
use Rattle.digits.specs.declared.Figure.{Figure}
use Rattle.digits.specs.Digits.{plain, cap}
use Rattle.digits.specs.Signed.{figure_signed}
use Rattle.digits.specs.Fits.{Fits}
use Rattle.text_rules.specs.declared.ValueKind.{ValueKind}
use Rattle.text_rules.specs.declared.ValueKind.TheVariants.{Any, Date, ZeroOrOne}
use Rattle.text_rules.specs.Tables.{Field, field_at, no_field}
use Rattle.text_rules.specs.Dates.{date_digits, is_date}
use Rattle.text_rules.specs.Head.{is_kind}
use Rattle.text_rules.proofs.Dates.{date_sound}
use Rattle.list_rules.specs.declared.ListFields.{ListFields}
use Rattle.list_rules.specs.Shanghai.{shanghai_fields, field_count, limits_field}
use Rattle.list_rules.specs.Fields.{figure_at, fields_in_range}
use Rattle.list_rules.proofs.Ranges.{fields_sound}
use Rattle.list_trip.proofs.Tables.{none, both, behind, paired_at}
use Rattle.list_trip.proofs.WrittenForms.{some_holds, none_holds, plain_fits}

-- a figure is as a field wants it, and below the cap
record Says (f : Field) (z : Figure) : Type 0 where
  fits : Fits f.form z
  kind : is_kind f.kind z.size ≡ true
  small : z.size < cap

-- a field of no width, with no sign
abbrev unsigned : List ℕ → Option ℕ → ℕ → ValueKind → Field
unsigned name digits decimals kind =
    record {
      name = name;
      form = record { digits = digits; decimals = decimals; signed = false; width = None };
      kind = kind;
    }

-- a number that is not below zero, with as many digits as it has, and with so many
free_says : {name : List ℕ} (decimals : ℕ) (kind : ValueKind) (n : ℕ) → n < cap → is_kind kind n ≡ true → Says (unsigned name None decimals kind) (plain n)
free_says decimals kind n h e =
    record { fits = plain_fits _ n (le_of_lt h) (none_holds _) (none_holds _); kind = e; small = h }

fixed_says : {name : List ℕ} (digits : ℕ) (kind : ValueKind) (n : ℕ) → n < cap → n < 10 ^ digits → is_kind kind n ≡ true
    → Says (unsigned name (Some digits) 0 kind) (plain n)
fixed_says digits kind n h l e =
    record { fits = plain_fits _ n (le_of_lt h) (some_holds (λ (m : ℕ). n / 1 < 10 ^ m) digits (rw (div-one n) l)) (none_holds _); kind = e; small = h }

-- a number that may be anything
any_says : {name : List ℕ} (decimals n : ℕ) → n < cap → Says (unsigned name None decimals Any) (plain n)
unfolding is_kind
any_says decimals n h = free_says decimals Any n h refl

-- a signed amount in its range
cash_says : {name : List ℕ} (e : ℤ) → cash_in_range e ≡ true
    → Says (record { name = name; form = record { digits = None; decimals = 2; signed = true; width = None }; kind = Any }) (figure_signed e)
unfolding cash_in_range figure_signed is_kind
cash_says (pos n) t =
    let low = leb-true n 9_999_999_999 t in
    record {
      fits = plain_fits _ n (omega arith) (none_holds _) (none_holds _);
      kind = refl;
      small = omega arith;
    }
cash_says (negsuc n) t =
    let low = ltb-true n 999_999_999 t in
    record {
      fits =
          record {
            within = omega arith;
            sign = λ e. (refl, omega arith);
            digits = none_holds _;
            width = none_holds _;
          };
      kind = refl;
      small = omega arith;
    }

-- a date has no more digits than its field
date_low : (d : ℕ) → is_date d ≡ true → d < 10 ^ date_digits
date_low d e =
    (div-lt_iff_lt-mul {k = 10_000} {x = d} {y = 10_000} (omega arith)).0 (omega (arith, (date_sound d e).year_high))

date_says : {name : List ℕ} (d : ℕ) → is_date d ≡ true → Says (unsigned name (Some date_digits) 0 Date) (plain d)
unfolding is_kind
date_says d e = fixed_says date_digits Date d (omega (arith, date_low d e)) (date_low d e) e

-- The fields of a list in their ranges.

module _ (l : ListFields) (fit : fields_in_range l ≡ true) (few : l.count ≤ most_components) where
  -- a limit, for the fields from the first of them on
  limit_says : {name : List ℕ} (k : ℕ) → k < field_count → Says (unsigned name None 0 Any) (plain (get_or l.fund.limits (k - limits_field) 0))
  limit_says k h =
      any_says 0 (get_or l.fund.limits (k - limits_field) 0)
      (omega (arith, (fund_limits l.fund (fund_sound l.fund (fields_sound l fit).fund) (k - limits_field) (omega arith)).0))

  -- every field of the table
  figures_say : (k : ℕ) → k < length shanghai_fields → Says (field_at shanghai_fields k) (figure_at l k)
  unfolding shanghai_fields field_at figure_at is_kind
  figures_say k h =
      let s = fields_sound l fit in
      let r = fund_sound l.fund s.fund in
      paired_at Says (plain (get_or l.fund.limits (k - limits_field) 0)) {rs = shanghai_fields}
      (both (fixed_says _ Any (l.fund.first_code + 1) (omega (arith, r.first_code)) (omega (arith, r.first_code)) refl)
      (both (any_says _ l.fund.basket_size (omega (arith, r.size_high)))
      (both (any_says _ l.fund.max_cash_ratio.0 (omega (arith, r.ratio)))
      (both (free_says _ ZeroOrOne l.publish (omega (arith, s.publish)) (le-leb _ _ s.publish))
      (both (any_says _ l.fund.switch (omega (arith, r.switch)))
      (both (any_says _ l.count (omega arith))
      (both (cash_says l.fund.estimated_cash r.cash)
      (both (date_says l.trading_day s.trading_day)
      (both (date_says l.pre_trading_day s.pre_trading_day)
      (both (cash_says l.cash_component s.cash)
      (both (any_says _ l.nav_per_cu (omega (arith, s.nav_per_cu)))
      (both (any_says _ l.nav (omega (arith, s.nav)))
      (behind (limit_says k h)
      (behind (limit_says k h)
      (behind (limit_says k h)
      (behind (limit_says k h)
      (behind (limit_says k h)
      (behind (limit_says k h)
      (behind (limit_says k h)
      (behind (limit_says k h)
      none))))))))))))))))))))
      no_field k h

  -- each figure fits the form of its field, is of its kind, and is below the cap
  pub figure_fits : (k : ℕ) → k < length shanghai_fields → Fits (field_at shanghai_fields k).form (figure_at l k)
  figure_fits k h = (figures_say k h).fits

  pub figure_kind : (k : ℕ) → k < length shanghai_fields → is_kind (field_at shanghai_fields k).kind (figure_at l k).size ≡ true
  figure_kind k h = (figures_say k h).kind

  pub figure_small : (k : ℕ) → k < length shanghai_fields → (figure_at l k).size < cap
  figure_small k h = (figures_say k h).small
