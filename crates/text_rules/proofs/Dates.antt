-- What the test of a date says.
use mathlib.Core.Path.{◌≡◌}
use mathlib.Core.Bool.{true}
use Prim.Native.Nat.{ℕ, ◌/◌, ◌%◌, ◌≤◌}
use Rattle.sequences.proofs.Every.{every_at, inside_facts}
use Rattle.text_rules.specs.Dates.{days_in, is_date}

pub record DateRanges (d : ℕ) : Type 0 where
  pub year_low : 1 ≤ d / 10_000
  pub year_high : d / 10_000 ≤ 9_999
  pub month_low : 1 ≤ d / 100 % 100
  pub month_high : d / 100 % 100 ≤ 12
  pub day_low : 1 ≤ d % 100
  pub day_high : d % 100 ≤ days_in (d / 10_000) (d / 100 % 100)

module _ (d : ℕ) where
  pub date_sound : is_date d ≡ true → DateRanges d
  unfolding is_date
  date_sound e =
      let at = every_at _ e in
      let year = inside_facts 1 9_999 (d / 10_000) (at 0) in
      let month = inside_facts 1 12 (d / 100 % 100) (at 1) in
      let day = inside_facts 1 (days_in (d / 10_000) (d / 100 % 100)) (d % 100) (at 2) in
      record {
        year_low = year.0;
        year_high = year.1;
        month_low = month.0;
        month_high = month.1;
        day_low = day.0;
        day_high = day.1;
      }
