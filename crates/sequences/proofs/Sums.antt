-- The sum of a number of each element of a list.
use mathlib.Core.Path.{◌≡◌, refl, ap, ◌∙◌}
use mathlib.Core.List.{List, [], ◌∷◌, ◌++◌, map}
use Prim.Native.Nat.{ℕ, zero, suc, ◌+◌, ◌<◌}
use native.Mathlib.Nat.{not-suc-le-zero, le_of_suc-le-suc}
use native.Mathlib.Omega.{arith}
use lib.ListN.{length, get_or}
use Rattle.sequences.specs.Below.{sum_below, join_below}
use Rattle.sequences.proofs.Below.{sum_none, sum_head, sum_same}

module _ {A : Type 0} where
  unfoldable pub sum_of : (A → ℕ) → List A → ℕ
  sum_of f [] = 0
  sum_of f (x ∷ xs) = f x + sum_of f xs

  pub sum_one_of : (f : A → ℕ) (x : A) → sum_of f (x ∷ []) ≡ f x
  unfolding sum_of
  sum_one_of f x = omega arith

  pub sum_append : (f : A → ℕ) (xs ys : List A) → sum_of f (xs ++ ys) ≡ sum_of f xs + sum_of f ys
  unfolding sum_of
  sum_append f [] ys = omega arith
  sum_append f (x ∷ xs) ys = omega (arith, sum_append f xs ys)

  pub sum_join : (f : A → ℕ) (g : ℕ → List A) (n : ℕ) → sum_of f (join_below g n) ≡ sum_below (λ i. sum_of f (g i)) n
  unfolding sum_of join_below sum_below
  sum_join f g zero = refl
  sum_join f g (suc n) = sum_append f (join_below g n) (g n) ∙ omega (arith, sum_join f g n)

  -- as the elements are read, one by one
  sum_get_d : (f : A → ℕ) (xs : List A) (x : A) → sum_below (λ k. f (get_or xs k x)) (length xs) ≡ sum_of f xs
  unfolding sum_of
  sum_get_d f [] x = sum_none _
  sum_get_d f (y ∷ xs) x = sum_head (λ k. f (get_or (y ∷ xs) k x)) (length xs) ∙ ap (λ (n : ℕ). f y + n) (sum_get_d f xs x)

  pub read_total : (f : A → ℕ) (at : ℕ → A) (xs : List A) (x : A) → ((k : ℕ) → k < length xs → at k ≡ get_or xs k x) → sum_below (λ k. f (at k)) (length xs) ≡ sum_of f xs
  read_total f at xs x read = sum_same _ (λ k. f (get_or xs k x)) (length xs) (λ k h. ap f (read k h)) ∙ sum_get_d f xs x

  -- what holds of each
  unfoldable pub Each : (A → Type 0) → List A → Type 0
  Each P [] = Unit {0}
  Each P (x ∷ xs) = P x × Each P xs

  pub each_append : (P : A → Type 0) (xs ys : List A) → Each P xs → Each P ys → Each P (xs ++ ys)
  unfolding Each
  each_append P [] ys p q = q
  each_append P (x ∷ xs) ys p q = (p.0, each_append P xs ys p.1 q)

  pub each_at : (P : A → Type 0) (xs : List A) (k : ℕ) (x : A) → k < length xs → Each P xs → P (get_or xs k x)
  unfolding Each
  each_at P [] k x h p = absurd (not-suc-le-zero h)
  each_at P (y ∷ xs) zero x h p = p.0
  each_at P (y ∷ xs) (suc k) x h p = each_at P xs k x (le_of_suc-le-suc h) p.1

pub sum_map : {A B : Type 0} (f : B → ℕ) (g : A → B) (xs : List A) → sum_of f (map g xs) ≡ sum_of (λ x. f (g x)) xs
unfolding sum_of
sum_map f g [] = refl
sum_map f g (x ∷ xs) = ap (λ (n : ℕ). f (g x) + n) (sum_map f g xs)
