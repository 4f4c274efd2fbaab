-- Dates: eight digits, year, month and day, in the Gregorian calendar from year 0001.
use Rattle.std.specs.Prelude.{ℕ, ◌/◌, ◌%◌, Bool, cond, not, ◌&&◌, ◌||◌, [], ◌∷◌, eqb}
use Rattle.sequences.specs.Every.{every, inside}

abbrev pub date_digits : ℕ
date_digits = 8

unfoldable pub is_leap : ℕ → Bool
is_leap year = eqb (year % 4) 0 && (not (eqb (year % 100) 0) || eqb (year % 400) 0)

unfoldable pub days_in : ℕ → ℕ → ℕ
days_in year month =
    cond (eqb month 2) (cond (is_leap year) 29 28)
    (cond (eqb month 4 || (eqb month 6 || (eqb month 9 || eqb month 11))) 30 31)

unfoldable pub is_date : ℕ → Bool
is_date d =
    every
    (inside 1 9_999 (d / 10_000)
    ∷ inside 1 12 (d / 100 % 100)
    ∷ inside 1 (days_in (d / 10_000) (d / 100 % 100)) (d % 100)
    ∷ [])
