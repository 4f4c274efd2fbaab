-- Things one behind another in a flat run: stored one by one, and read back.
use mathlib.Core.Path.{◌≡◌, refl, sym, ap, ◌∙◌}
use mathlib.Core.List.{List, [], ◌∷◌, ◌++◌, append_assoc, append-nil}
use Prim.Native.Nat.{ℕ, zero, suc, ◌+◌, ◌*◌, ◌≤◌, ◌<◌}
use native.Mathlib.Nat.{add-zero, mul-zero, mul-suc, not-suc-le-zero, le_of_suc-le-suc}
use native.Mathlib.Numerals.{add-one}
use native.Mathlib.Omega.{arith}
use lib.ListN.{length, get_or, drop, length-append, length-drop, get_or-append}
use lib.Seq.{sets, drop_at, get_or-drop}
use Rattle.sequences.specs.Below.{tabulate}
use Rattle.sequences.proofs.Below.{table_length}
use Rattle.sequences.proofs.Runs.{sets_append, sets_front}
use Rattle.layout.specs.Laid.{laid, with_laid}

module _ {A : Type 0} (numbers : A → List ℕ) where
  pub laid-append : (xs ys : List A) → laid numbers (xs ++ ys) ≡ laid numbers xs ++ laid numbers ys
  unfolding laid
  laid-append [] ys = refl
  laid-append (x ∷ xs) ys = ap (λ (t : List ℕ). numbers x ++ t) (laid-append xs ys) ∙ sym (append_assoc (numbers x) (laid numbers xs) (laid numbers ys))

  pub laid_one : (x : A) → laid numbers (x ∷ []) ≡ numbers x
  unfolding laid
  laid_one x = append-nil (numbers x)

  module _ (width : ℕ) (each : (x : A) → length (numbers x) ≡ width) where
    pub laid-length : (xs : List A) → length (laid numbers xs) ≡ width * length xs
    unfolding laid
    laid-length [] = sym (mul-zero width)
    laid-length (x ∷ xs) = length-append (numbers x) (laid numbers xs) ∙ omega (arith, each x, laid-length xs, mul-suc width (length xs))

    -- stored behind those that stand from a place on
    pub laid_then : (xs ys : List A) (list : List ℕ) (p next : ℕ) → next ≡ p + width * length xs
        → sets (sets list p (laid numbers xs)) next (laid numbers ys) ≡ sets list p (laid numbers (xs ++ ys))
    laid_then xs ys list p next e =
        ap (λ (k : ℕ). sets (sets list p (laid numbers xs)) k (laid numbers ys)) (e ∙ ap (λ (k : ℕ). p + k) (sym (laid-length xs)))
        ∙ sets_append (laid numbers xs) (laid numbers ys) list p
        ∙ ap (sets list p) (sym (laid-append xs ys))

    -- one more of a table
    pub laid_more : (f : ℕ → A) (k : ℕ) (list : List ℕ) (p next : ℕ) → next ≡ p + width * k
        → sets (sets list p (laid numbers (tabulate f k))) next (numbers (f k)) ≡ sets list p (laid numbers (tabulate f (k + 1)))
    unfolding tabulate
    laid_more f k list p next e =
        ap (sets (sets list p (laid numbers (tabulate f k))) next) (sym (laid_one (f k)))
        ∙ laid_then (tabulate f k) (f k ∷ []) list p next (e ∙ ap (λ (n : ℕ). p + width * n) (sym (table_length f k)))
        ∙ rw (add-one k)

    -- from the first place on, where there is room
    pub laid_front : (xs : List A) (list : List ℕ) → width * length xs ≤ length list → sets list 0 (laid numbers xs) ≡ with_laid numbers width xs list
    unfolding with_laid
    laid_front xs list h =
        sets_front (laid numbers xs) list (omega (arith, laid-length xs))
        ∙ ap (λ (k : ℕ). laid numbers xs ++ drop k list) (laid-length xs)

    pub with_length : (xs : List A) (list : List ℕ) → width * length xs ≤ length list → length (with_laid numbers width xs list) ≡ length list
    unfolding with_laid
    with_length xs list h = rw (length-append, length-drop) (omega (arith, laid-length xs))

    -- the j-th number of the k-th is read
    laid_at : (xs : List A) (ys : List ℕ) (k j : ℕ) (x : A) → k < length xs → j < width → get_or (laid numbers xs ++ ys) (width * k + j) 0 ≡ get_or (numbers (get_or xs k x)) j 0
    unfolding laid
    laid_at [] ys k j x h i = absurd (not-suc-le-zero h)
    laid_at (y ∷ xs) ys zero j x h i =
        ap (λ (n : ℕ). get_or ((numbers y ++ laid numbers xs) ++ ys) n 0) (omega (arith, mul-zero width))
        ∙ ap (λ (l : List ℕ). get_or l j 0) (append_assoc (numbers y) (laid numbers xs) ys)
        ∙ get_or-append (numbers y) (laid numbers xs ++ ys) 0 j (omega (arith, each y))
    laid_at (y ∷ xs) ys (suc k) j x h i =
        let place : width * suc k + j ≡ width + (width * k + j) = omega (arith, mul-suc width k) in
        let rest : drop width ((numbers y ++ laid numbers xs) ++ ys) ≡ laid numbers xs ++ ys =
        ap (drop width) (append_assoc (numbers y) (laid numbers xs) ys) ∙ drop_at (numbers y) (laid numbers xs ++ ys) width (each y) in
        ap (λ (n : ℕ). get_or ((numbers y ++ laid numbers xs) ++ ys) n 0) place
        ∙ sym (get_or-drop width ((numbers y ++ laid numbers xs) ++ ys) (width * k + j) 0)
        ∙ ap (λ (l : List ℕ). get_or l (width * k + j) 0) rest
        ∙ laid_at xs ys k j x (le_of_suc-le-suc h) i

    module _ (xs : List A) (list : List ℕ) (k : ℕ) (x : A) (h : k < length xs) where
      pub laid_read : (j : ℕ) → j < width → get_or (with_laid numbers width xs list) (width * k + j) 0 ≡ get_or (numbers (get_or xs k x)) j 0
      unfolding with_laid
      laid_read j i = laid_at xs (drop (width * length xs) list) k j x h i

      pub laid_first : 0 < width → get_or (with_laid numbers width xs list) (width * k) 0 ≡ get_or (numbers (get_or xs k x)) 0 0
      laid_first i = ap (λ (n : ℕ). get_or (with_laid numbers width xs list) n 0) (sym (add-zero (width * k))) ∙ laid_read 0 i
