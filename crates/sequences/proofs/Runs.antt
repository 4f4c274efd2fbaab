-- A run of elements stored in a list, and joins that are stored part by part.
use mathlib.Core.Path.{◌≡◌, sym, ap, ◌∙◌}
use mathlib.Core.List.{List, [], ◌∷◌, ◌++◌}
use Prim.Native.Nat.{ℕ, zero, suc, ◌+◌, ◌≤◌, ◌<◌, zero-le}
use native.Mathlib.Nat.{add-zero, add-suc, suc-add, zero-add, not-suc-le-zero, eq-or-lt_of_le, le_of_suc-le-suc, le_of_eq}
use native.Mathlib.Omega.{arith}
use mathlib.Core.Logic.{⊎_elim}
use lib.ListN.{length, drop, set, length-append}
use lib.Seq.{sets, sets-eq}
use Rattle.sequences.specs.Below.{join_below}

module _ {A : Type 0} where
  -- a run stored behind a run
  pub sets_append : (us vs l : List A) (i : ℕ) → sets (sets l i us) (i + length us) vs ≡ sets l i (us ++ vs)
  sets_append [] vs l i = ap (λ (k : ℕ). sets l k vs) (add-zero i)
  sets_append (u ∷ us) vs l i =
      ap (λ (k : ℕ). sets (sets (set l i u) (suc i) us) k vs) (add-suc i (length us) ∙ sym (suc-add i (length us)))
      ∙ sets_append us vs (set l i u) (suc i)

  -- a run stored at the front
  pub sets_front : (vs l : List A) → length vs ≤ length l → sets l 0 vs ≡ vs ++ drop (length vs) l
  sets_front vs l h = sets-eq vs l 0 (omega arith) ∙ ap (λ (k : ℕ). vs ++ drop k l) (zero-add (length vs))

  -- a join of fewer parts is no longer
  pub join_grows : (f : ℕ → List A) (n i : ℕ) → i ≤ n → length (join_below f i) ≤ length (join_below f n)
  unfolding join_below
  join_grows f zero zero h = zero-le
  join_grows f zero (suc i) h = absurd (not-suc-le-zero h)
  join_grows f (suc n) i h =
      ⊎_elim
      (λ e. le_of_eq (ap (λ (k : ℕ). length (join_below f k)) e))
      (λ (l : i < suc n). rw length-append (omega (arith, join_grows f n i (le_of_suc-le-suc l))))
      (eq-or-lt_of_le h)
