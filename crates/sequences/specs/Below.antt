-- Sums, tests, searches, joins and tables over the indices below a number.
use Rattle.std.specs.Prelude.{Bool, true, false, ◌||◌, ◌&&◌, cond, List, [], ◌∷◌, ◌++◌, Option, Some, None, ℕ, zero, suc, ◌+◌, ltb}

-- f 0 + f 1 + .. + f (n - 1)
unfoldable pub sum_below : (ℕ → ℕ) → ℕ → ℕ
sum_below f zero = 0
sum_below f (suc n) = sum_below f n + f n

-- some index below n passes
unfoldable pub any_below : (ℕ → Bool) → ℕ → Bool
any_below f zero = false
any_below f (suc n) = any_below f n || f n

-- every index below n passes
unfoldable pub all_below : (ℕ → Bool) → ℕ → Bool
all_below f zero = true
all_below f (suc n) = all_below f n && f n

-- the first index below n that passes, and n where none does
unfoldable pub first_below : (ℕ → Bool) → ℕ → ℕ
first_below f zero = 0
first_below f (suc n) = cond (ltb (first_below f n) n) (first_below f n) (cond (f n) n (suc n))

-- the place k where it is below n, and None where it is not: what a search of n places answers
abbrev pub below : ℕ → ℕ → Option ℕ
below n k = cond (ltb k n) (Some k) None

module _ {A : Type 0} where
  -- f 0 ++ f 1 ++ .. ++ f (n - 1)
  unfoldable pub join_below : (ℕ → List A) → ℕ → List A
  join_below f zero = []
  join_below f (suc n) = join_below f n ++ f n

  -- f 0, f 1, .., f (n - 1)
  unfoldable pub tabulate : (ℕ → A) → ℕ → List A
  tabulate f zero = []
  tabulate f (suc n) = tabulate f n ++ (f n ∷ [])
