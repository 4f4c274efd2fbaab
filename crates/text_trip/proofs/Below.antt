-- Searches and joins by what is below their count, and parts of given sizes one behind the other.
use mathlib.Core.Path.{◌≡◌, refl, sym, ap, ap₂, ◌∙◌}
use mathlib.Core.Bool.{Bool, true, false, cond}
use mathlib.Core.List.{List, [], ◌++◌, append_assoc, append-nil}
use mathlib.Core.Logic.{⊎_elim}
use Prim.Native.Nat.{ℕ, zero, suc, ◌+◌, ◌*◌, ◌<◌}
use native.Mathlib.Nat.{not-suc-le-zero, eq-or-lt_of_le, le_of_suc-le-suc, le_step, lt-suc_self, zero-mul, suc-mul}
use native.Mathlib.Omega.{arith}
use lib.Dec.{ltb}
use lib.ListN.{length, take, drop, length-append}
use lib.Seq.{take_at, drop_at, take-add}
use Rattle.sequences.specs.Below.{sum_below, first_below, join_below}
use Rattle.sequences.specs.Stretch.{stretch_of}
use Rattle.sequences.proofs.Below.{first_all, first_stops}

-- a search by what it found below n, and by the test of n
before_cases : (f : ℕ → Bool) (n k : ℕ) (t b : Bool) → ltb (first_below f n) n ≡ t → f n ≡ b → (k < first_below f n → f k ≡ false)
    → k < cond t (first_below f n) (cond b n (suc n)) → f k ≡ false
before_cases f n k true b p q rest h = rest h
before_cases f n k false true p q rest h = first_all f n (first_stops f n p) k h
before_cases f n k false false p q rest h =
    ⊎_elim (λ e. ap f e ∙ q) (first_all f n (first_stops f n p) k) (eq-or-lt_of_le (le_of_suc-le-suc h))

-- before the first that passes none passes
pub first_before : (f : ℕ → Bool) (n k : ℕ) → k < first_below f n → f k ≡ false
unfolding first_below
first_before f zero k h = absurd (not-suc-le-zero h)
first_before f (suc n) k h = before_cases f n k (ltb (first_below f n) n) (f n) refl refl (first_before f n k) h

-- Joins.

module _ {A : Type 0} where
  -- parts that agree below n
  pub join-same : (f g : ℕ → List A) (n : ℕ) → ((k : ℕ) → k < n → f k ≡ g k) → join_below f n ≡ join_below g n
  unfolding join_below
  join-same f g zero e = refl
  join-same f g (suc n) e = ap₂ ◌++◌ (join-same f g n (λ k h. e k (le_step h))) (e n (lt-suc_self n))

  -- the parts before the k-th, the k-th, and what stands behind it
  pub parts_at : (g : ℕ → List A) (n k : ℕ) (rest : List A) → k < n → (t : List A) × (join_below g n ++ rest ≡ join_below g k ++ (g k ++ t))
  unfolding join_below
  parts_at g zero k rest l = absurd (not-suc-le-zero l)
  parts_at g (suc n) k rest l =
      ⊎_elim
      (λ e. (rest, append_assoc (join_below g n) (g n) rest ∙ ap (λ (i : ℕ). join_below g i ++ (g i ++ rest)) (sym e)))
      (λ h.
      let p = parts_at g n k (g n ++ rest) h in
      (p.0, append_assoc (join_below g n) (g n) rest ∙ p.1))
      (eq-or-lt_of_le (le_of_suc-le-suc l))

-- the parts of a list that have these sizes, one behind the other
pub parts-take : (size : ℕ → ℕ) (n : ℕ) (b : List ℕ)
    → take (sum_below size n) b ≡ join_below (λ k. take (size k) (drop (sum_below size k) b)) n
unfolding sum_below join_below
parts-take size zero b = refl
parts-take size (suc n) b =
    take-add (sum_below size n) (size n) b
    ∙ ap (λ (s : List ℕ). s ++ take (size n) (drop (sum_below size n) b)) (parts-take size n b)

-- as many elements as their sizes say
pub parts-length : (size : ℕ → ℕ) (f : ℕ → List ℕ) (n : ℕ) → ((k : ℕ) → k < n → length (f k) ≡ size k)
    → length (join_below f n) ≡ sum_below size n
unfolding sum_below join_below
parts-length size f zero all = refl
parts-length size f (suc n) all =
    length-append (join_below f n) (f n)
    ∙ ap₂ ◌+◌ (parts-length size f n (λ k h. all k (le_step h))) (all n (lt-suc_self n))

-- Parts of given sizes.
module _ (size : ℕ → ℕ) (f : ℕ → List ℕ) (n : ℕ) (all : (k : ℕ) → k < n → length (f k) ≡ size k) where
  -- the k-th stands behind those before it, and what is behind all of them behind all
  pub part-drop : (rest : List ℕ) (k : ℕ) → k < n → (t : List ℕ) × (drop (sum_below size k) (join_below f n ++ rest) ≡ f k ++ t)
  part-drop rest k l =
      let p = parts_at f n k rest l in
      let e = parts-length size f k (λ i h. all i (omega arith)) in
      (p.0, ap (drop (sum_below size k)) p.1 ∙ drop_at (join_below f k) (f k ++ p.0) (sum_below size k) e)

  pub part_end : (rest : List ℕ) → drop (sum_below size n) (join_below f n ++ rest) ≡ rest
  part_end rest = drop_at (join_below f n) rest (sum_below size n) (parts-length size f n all)

  pub part-take : (k : ℕ) → k < n → take (size k) (drop (sum_below size k) (join_below f n)) ≡ f k
  part-take k l =
      let d = part-drop [] k l in
      ap (λ (s : List ℕ). take (size k) (drop (sum_below size k) s)) (sym (append-nil (join_below f n)))
      ∙ ap (take (size k)) d.1
      ∙ take_at (f k) d.0 (size k) (all k l)

-- parts of one size
pub sum_const : (w n : ℕ) → sum_below (λ _. w) n ≡ n * w
unfolding sum_below
sum_const w zero = sym (zero-mul w)
sum_const w (suc n) = omega (arith, sum_const w n, suc-mul n w)

module _ (w : ℕ) (f : ℕ → List ℕ) (n : ℕ) (all : (k : ℕ) → k < n → length (f k) ≡ w) where
  pub length_below : length (join_below f n) ≡ n * w
  length_below = parts-length (λ _. w) f n all ∙ sum_const w n

  -- the a-th stretch of their join is the a-th part
  pub stretch_below : (a : ℕ) → a < n → stretch_of w (join_below f n) a ≡ f a
  unfolding stretch_of
  stretch_below a h =
      ap (λ (i : ℕ). take w (drop i (join_below f n))) (sym (sum_const w a)) ∙ part-take (λ _. w) f n all a h
