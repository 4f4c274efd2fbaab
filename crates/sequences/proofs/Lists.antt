-- Tests of a list's elements, by their places, and searches of a list and of numbers.
use mathlib.Core.Path.{◌≡◌, refl, ap, ap₂, sym, ◌∙◌}
use mathlib.Core.Bool.{Bool, true, false, not, ◌&&◌}
use mathlib.Core.List.{List}
use mathlib.Core.Logic.{⊎_elim}
use Prim.Native.Nat.{ℕ, zero, suc, ◌≤◌, ◌<◌}
use native.Mathlib.Nat.{eq-or-lt_of_le, le_of_eq, le_step, lt-suc_self, zero-add}
use native.Mathlib.Numerals.{add-one}
use native.Mathlib.Omega.{arith}
use lib.ListN.{length, get_or, take}
use borrow.Author.Tests.{not-true, not-false}
use Rattle.std.specs.List.{list_all, position_or_len, range_with_len}
use Rattle.std.proofs.lemmas.List.{take_all}
use Rattle.std.proofs.lemmas.List.Folds.{list_all_more}
use Rattle.std.proofs.lemmas.List.FromFn.{length-range_with_len, get_or-range_with_len}
use Rattle.std.proofs.lemmas.List.Sums.{prefix_len-le-length, prefix_len_passes, prefix_len_stops}
use Rattle.sequences.specs.Below.{below, all_below, first_below}
use Rattle.sequences.proofs.Below.{first_end, first_here}

module _ {A : Type 0} (p : A → Bool) (l : List A) (d : A) where
  all_front : (n : ℕ) → n ≤ length l → list_all p (take n l) ≡ all_below (λ k. p (get_or l k d)) n
  unfolding all_below
  all_front zero h = refl
  all_front (suc n) h =
      rw add-one at (list_all_more p l n d h)
      ∙ ap (λ (b : Bool). b && p (get_or l n d)) (all_front n (omega arith))

  -- every element of a list of n passes where every place below n does
  pub all_list : (n : ℕ) → length l ≡ n → list_all p l ≡ all_below (λ k. p (get_or l k d)) n
  all_list n e = ap (list_all p) (sym (take_all n l (le_of_eq e))) ∙ all_front n (omega arith)

  abbrev at : ℕ → Bool
  at k = p (get_or l k d)

  abbrev found : ℕ
  found = position_or_len p l

  before_found : (k : ℕ) → k < found → at k ≡ false
  before_found k h = not-true _ (prefix_len_passes (λ x. not (p x)) l k d h)

  at_found : found < length l → at found ≡ true
  at_found h = not-false _ (prefix_len_stops (λ x. not (p x)) l d h)

  -- what a search of a list finds is the first place that passes
  pub position_first : found ≡ first_below at (length l)
  position_first =
      sym (⊎_elim
      (λ e. first_end at (length l) (rw e at before_found) ∙ sym e)
      (λ h. first_here at (length l) found h (first_end at found before_found) (at_found h))
      (eq-or-lt_of_le (prefix_len-le-length (λ x. not (p x)) l)))

  pub position_below : (n : ℕ) → length l ≡ n → below (length l) found ≡ below n (first_below at n)
  position_below n e = ap (below (length l)) position_first ∙ ap (λ (k : ℕ). below k (first_below at k)) e

-- two tests that agree below n
all_same : (f g : ℕ → Bool) (n : ℕ) → ((k : ℕ) → k < n → f k ≡ g k) → all_below f n ≡ all_below g n
unfolding all_below
all_same f g zero e = refl
all_same f g (suc n) e = ap₂ (λ (a b : Bool). a && b) (all_same f g n (λ k h. e k (le_step h))) (e n (lt-suc_self n))

-- every number below n passes
pub all_range : (p : ℕ → Bool) (n : ℕ) → list_all p (range_with_len 0 n) ≡ all_below p n
all_range p n =
    all_list p (range_with_len 0 n) 0 n (length-range_with_len 0 n)
    ∙ all_same _ p n (λ k h. ap p (get_or-range_with_len 0 n k 0 h ∙ zero-add k))
