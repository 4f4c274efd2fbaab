-- Laws of sums, tests, searches, joins and tables over the indices below a number.
use mathlib.Core.Path.{◌≡◌, refl, sym, ap, ◌∙◌, subst}
use mathlib.Core.Bool.{Bool, true, false, ◌||◌, ◌&&◌, cond, false≢true, or-true}
use mathlib.Core.List.{List, [], ◌∷◌, ◌++◌}
use mathlib.Core.Logic.{⊎_elim}
use Rattle.std.specs.Prelude.{Some, None}
use Prim.Native.Nat.{ℕ, zero, suc, ◌+◌, ◌*◌, ◌≤◌, ◌<◌, zero-le}
use native.Mathlib.Nat.{suc-mul, lt-suc_self, le_step, zero-mul, not-suc-le-zero, eq-or-lt_of_le, le_of_suc-le-suc, le_refl, le-suc, le_of_eq, le_antisymm, not-suc-le_self}
use native.Mathlib.Numerals.{add-one}
use native.Mathlib.Decide.{ℕ_discrete}
use native.Mathlib.Omega.{arith}
use lib.Dec.{ltb, eqb}
use lib.ListN.{length, get_or, length-append, get_or-append}
use lib.Seq.{get_or_at, ext_get_or}
use borrow.Author.Tests.{lt-ltb, le-ltb, ltb-true, ltb-false, eq-eqb, ne_eqb}
use Rattle.sequences.specs.Below.{sum_below, any_below, all_below, first_below, below, join_below, tabulate}

-- Sums.

pub sum_none : (f : ℕ → ℕ) → sum_below f 0 ≡ 0
unfolding sum_below
sum_none f = refl

pub sum_more : (f : ℕ → ℕ) (n : ℕ) → sum_below f (n + 1) ≡ sum_below f n + f n
unfolding sum_below
sum_more f n = rw (add-one, sum_below)

-- the first summand apart
pub sum_head : (f : ℕ → ℕ) (n : ℕ) → sum_below f (suc n) ≡ f 0 + sum_below (λ k. f (suc k)) n
unfolding sum_below
sum_head f zero = omega arith
sum_head f (suc n) = omega (arith, sum_head f n)

-- each summand is at most b
pub sum_le : (f : ℕ → ℕ) (n b : ℕ) → ((k : ℕ) → k < n → f k ≤ b) → sum_below f n ≤ n * b
unfolding sum_below
sum_le f zero b all = omega (arith, zero-mul b)
sum_le f (suc n) b all =
    omega (arith, suc-mul n b, sum_le f n b (λ k h. all k (le_step h)), all n (lt-suc_self n))

-- one summand is at most the sum
pub sum_part : (f : ℕ → ℕ) (n i : ℕ) → i < n → f i ≤ sum_below f n
unfolding sum_below
sum_part f zero i h = absurd (not-suc-le-zero h)
sum_part f (suc n) i h =
    ⊎_elim
    (λ e. subst (λ (k : ℕ). f k ≤ sum_below f n + f n) (sym e) (omega arith))
    (λ l. omega (arith, sum_part f n i l))
    (eq-or-lt_of_le (le_of_suc-le-suc h))

-- a sum grows with its count
pub sum_grows : (f : ℕ → ℕ) (i n : ℕ) → i ≤ n → sum_below f i ≤ sum_below f n
unfolding sum_below
sum_grows f i zero h = let e : i ≡ 0 = omega arith in rw e (le_refl _)
sum_grows f i (suc n) h =
    ⊎_elim
    (λ e. le_of_eq (ap (sum_below f) e))
    (λ l. omega (arith, sum_grows f i n (le_of_suc-le-suc l)))
    (eq-or-lt_of_le h)

-- two functions that agree below n
pub sum_same : (f g : ℕ → ℕ) (n : ℕ) → ((k : ℕ) → k < n → f k ≡ g k) → sum_below f n ≡ sum_below g n
unfolding sum_below
sum_same f g zero e = refl
sum_same f g (suc n) e = omega (arith, sum_same f g n (λ k h. e k (le_step h)), e n (lt-suc_self n))

-- nothing but zeros
pub sum_zero : (f : ℕ → ℕ) (n : ℕ) → ((k : ℕ) → k < n → f k ≡ 0) → sum_below f n ≡ 0
unfolding sum_below
sum_zero f zero e = refl
sum_zero f (suc n) e = omega (arith, sum_zero f n (λ k h. e k (le_step h)), e n (lt-suc_self n))

-- two functions that agree but at j: the sums differ as the functions do at j
pub sum_one : (f g : ℕ → ℕ) (n j : ℕ) → j < n → ((k : ℕ) → k < n → (k ≡ j → ⊥) → f k ≡ g k) → sum_below f n + g j ≡ sum_below g n + f j
unfolding sum_below
sum_one f g zero j l h = absurd (not-suc-le-zero l)
sum_one f g (suc n) j l h =
    ⊎_elim
    (λ e. rw e (omega (arith, sum_same f g n (λ k m. h k (omega arith) (λ q. omega arith)))))
    (λ m. omega (arith, sum_one f g n j m (λ k i. h k (omega arith)), h n (omega arith) (λ q. omega arith)))
    (eq-or-lt_of_le (le_of_suc-le-suc l))

-- two functions that agree but at i and j
pub sum_two : (f g : ℕ → ℕ) (n i j : ℕ) → i < n → j < n → (j ≡ i → ⊥) → ((k : ℕ) → (k ≡ i → ⊥) → (k ≡ j → ⊥) → f k ≡ g k)
    → sum_below f n + (g i + g j) ≡ sum_below g n + (f i + f j)
sum_two f g n i j li lj two h =
    let one = sum_one mid g n i li (λ k _ p. rw (ne_eqb k i p)) in
    let other = sum_one f mid n j lj (λ k _ p. agrees k p (ℕ_discrete k i)) in
    omega (arith, one, other, at_i, at_j)
  where
    mid : ℕ → ℕ
    mid k = cond (eqb k i) (f i) (g k)

    at_i : mid i ≡ f i
    at_i = rw (eq-eqb i i refl)

    at_j : mid j ≡ g j
    at_j = rw (ne_eqb j i two)

    agrees : (k : ℕ) → (k ≡ j → ⊥) → Dec (k ≡ i) → f k ≡ mid k
    agrees k p (yes e) = rw (eq-eqb k i e) (ap f e)
    agrees k p (no q) = rw (ne_eqb k i q) (h k q p)

-- only f j is above 0
pub sum_only : (f : ℕ → ℕ) (n j : ℕ) → j < n → ((k : ℕ) → k < n → (k ≡ j → ⊥) → f k ≡ 0) → sum_below f n ≡ f j
sum_only f n j l h =
    let e = sum_one f (λ _. 0) n j l h in
    omega (arith, sum_zero (λ _. 0) n (λ k _. refl))

-- Tests.

pub any_none : (f : ℕ → Bool) → any_below f 0 ≡ false
unfolding any_below
any_none f = refl

pub any_more : (f : ℕ → Bool) (n : ℕ) → any_below f (n + 1) ≡ any_below f n || f n
unfolding any_below
any_more f n = rw (add-one, any_below)

any_last : (f : ℕ → Bool) (n i : ℕ) → f i ≡ true → i ≡ n → (any_below f n || f n) ≡ true
any_last f n i e q = ap (λ (b : Bool). any_below f n || b) (ap f (sym q) ∙ e) ∙ or-true (any_below f n)

-- one that passes
pub any_here : (f : ℕ → Bool) (n i : ℕ) → i < n → f i ≡ true → any_below f n ≡ true
unfolding any_below
any_here f zero i h e = absurd (not-suc-le-zero h)
any_here f (suc n) i h e =
    ⊎_elim
    (any_last f n i e)
    (λ l. ap (λ (b : Bool). b || f n) (any_here f n i l e))
    (eq-or-lt_of_le (le_of_suc-le-suc h))

pub all_none : (f : ℕ → Bool) → all_below f 0 ≡ true
unfolding all_below
all_none f = refl

pub all_more : (f : ℕ → Bool) (n : ℕ) → all_below f (n + 1) ≡ all_below f n && f n
unfolding all_below
all_more f n = rw (add-one, all_below)

and_split : (a b : Bool) → (a && b) ≡ true → (a ≡ true) × (b ≡ true)
and_split true b e = (refl, e)
and_split false b e = absurd (false≢true e)

-- each index, where all pass
pub all_at : (f : ℕ → Bool) (n : ℕ) → all_below f n ≡ true → (k : ℕ) → k < n → f k ≡ true
unfolding all_below
all_at f zero e k l = absurd (not-suc-le-zero l)
all_at f (suc n) e k l =
    let p = and_split (all_below f n) (f n) e in
    ⊎_elim (λ q. ap f q ∙ p.1) (λ h. all_at f n p.0 k h) (eq-or-lt_of_le (le_of_suc-le-suc l))

pub all_true : (f : ℕ → Bool) (n : ℕ) → ((k : ℕ) → k < n → f k ≡ true) → all_below f n ≡ true
unfolding all_below
all_true f zero h = refl
all_true f (suc n) h = simp (all_true f n (λ k l. h k (le_step l)), h n (lt-suc_self n))

-- one that fails
pub all-false : (f : ℕ → Bool) (n i : ℕ) → i < n → f i ≡ false → all_below f n ≡ false
all-false f n i l e = go (all_below f n) refl
  where
    go : (b : Bool) → all_below f n ≡ b → all_below f n ≡ false
    go true p = absurd (false≢true (sym e ∙ all_at f n p i l))
    go false p = p

-- Searches.

pub cond_le : (b : Bool) {x y m : ℕ} → x ≤ m → y ≤ m → cond b x y ≤ m
cond_le true p q = p
cond_le false p q = q

pub first_none : (f : ℕ → Bool) → first_below f 0 ≡ 0
unfolding first_below
first_none f = refl

-- none below i, and not i
pub first_more : (f : ℕ → Bool) (i : ℕ) → first_below f i ≡ i → f i ≡ false → first_below f (i + 1) ≡ i + 1
unfolding first_below
first_more f i e t = rw (add-one, first_below) (simp (e, le-ltb i i (le_refl i), t))

first_this : (f : ℕ → Bool) (i : ℕ) → first_below f i ≡ i → f i ≡ true → first_below f (suc i) ≡ i
unfolding first_below
first_this f i e t = simp (e, le-ltb i i (le_refl i), t)

first_later : (f : ℕ → Bool) (n i : ℕ) → i < n → first_below f n ≡ i → first_below f (suc n) ≡ i
unfolding first_below
first_later f n i l e = simp (e, lt-ltb i n l)

-- none below i, and i
pub first_here : (f : ℕ → Bool) (n i : ℕ) → i < n → first_below f i ≡ i → f i ≡ true → first_below f n ≡ i
first_here f zero i l e t = absurd (not-suc-le-zero l)
first_here f (suc n) i l e t =
    ⊎_elim
    (λ q. ap (λ (k : ℕ). first_below f (suc k)) (sym q) ∙ first_this f i e t)
    (λ h. first_later f n i h (first_here f n i h e t))
    (eq-or-lt_of_le (le_of_suc-le-suc l))

pub first-le : (f : ℕ → Bool) (n : ℕ) → first_below f n ≤ n
unfolding first_below
first-le f zero = zero-le
first-le f (suc n) = cond_le (ltb (first_below f n) n) (le_step (first-le f n)) (cond_le (f n) (le-suc n) (le_refl (suc n)))

first_last : (f : ℕ → Bool) (n : ℕ) (t b : Bool) → ltb (first_below f n) n ≡ t → f n ≡ b → first_below f (suc n) ≡ suc n → (first_below f n ≡ n) × (f n ≡ false)
unfolding first_below
first_last f n true b q p e = absurd (not-suc-le_self n (subst (λ (k : ℕ). k ≤ n) (simp q at e) (first-le f n)))
first_last f n false true q p e = absurd (not-suc-le_self n (le_of_eq (sym (simp (q, p) at e))))
first_last f n false false q p e = (le_antisymm (first-le f n) (ltb-false _ _ q), p)

-- none passes
pub first_all : (f : ℕ → Bool) (n : ℕ) → first_below f n ≡ n → (k : ℕ) → k < n → f k ≡ false
first_all f zero e k l = absurd (not-suc-le-zero l)
first_all f (suc n) e k l =
    let p = first_last f n _ _ refl refl e in
    ⊎_elim (λ q. ap f q ∙ p.1) (λ h. first_all f n p.0 k h) (eq-or-lt_of_le (le_of_suc-le-suc l))

pub first_end : (f : ℕ → Bool) (n : ℕ) → ((k : ℕ) → k < n → f k ≡ false) → first_below f n ≡ n
unfolding first_below
first_end f zero h = refl
first_end f (suc n) h = simp (first_end f n (λ k l. h k (le_step l)), le-ltb n n (le_refl n), h n (lt-suc_self n))

-- two tests that agree below n
pub first_same : (f g : ℕ → Bool) (n : ℕ) → ((k : ℕ) → k < n → f k ≡ g k) → first_below f n ≡ first_below g n
unfolding first_below
first_same f g zero e = refl
first_same f g (suc n) e = rw (first_same f g n (λ k h. e k (le_step h)), e n (lt-suc_self n))

-- a search that stops below n has not passed all
pub first_stops : (f : ℕ → Bool) (n : ℕ) → ltb (first_below f n) n ≡ false → first_below f n ≡ n
first_stops f n e = le_antisymm (first-le f n) (ltb-false _ _ e)

-- What a search answers.

pub below-some : (n k : ℕ) → k < n → below n k ≡ Some k
below-some n k l = rw (lt-ltb k n l)

pub below-none : (n k : ℕ) → n ≤ k → below n k ≡ None
below-none n k l = rw (le-ltb k n l)

-- a place that it gives, and that there is none
pub below_some_facts : (n k i : ℕ) → Some i ≡ below n k → (k ≡ i) × (k < n)
below_some_facts n k i e = go (ltb k n) refl
  where
    go : (b : Bool) → ltb k n ≡ b → (k ≡ i) × (k < n)
    go true q = (cc (simp q at e), ltb-true k n q)
    go false q = absurd (cc (simp q at e))

pub below_none_fact : (n k : ℕ) → None ≡ below n k → n ≤ k
below_none_fact n k e = go (ltb k n) refl
  where
    go : (b : Bool) → ltb k n ≡ b → n ≤ k
    go true q = absurd (cc (simp q at e))
    go false q = ltb-false k n q

-- a search of n places that finds none, one that goes on past a place, and one that ends at a place
pub first_none_below : (f : ℕ → Bool) (n : ℕ) → first_below f n ≡ n → None ≡ below n (first_below f n)
first_none_below f n e = sym (below-none n (first_below f n) (le_of_eq (sym e)))

pub first_some_below : (f : ℕ → Bool) (n i : ℕ) → i < n → first_below f i ≡ i → f i ≡ true → Some i ≡ below n (first_below f n)
first_some_below f n i l e t = rw (first_here f n i l e t, lt-ltb i n l)

-- Joins and tables.

module _ {A : Type 0} where
  pub join-none : (f : ℕ → List A) → join_below f 0 ≡ []
  unfolding join_below
  join-none f = refl

  pub join_more : (f : ℕ → List A) (n : ℕ) → join_below f (n + 1) ≡ join_below f n ++ f n
  unfolding join_below
  join_more f n = rw (add-one, join_below)

  -- each part has w elements
  pub join-length : (f : ℕ → List A) (n w : ℕ) → ((k : ℕ) → length (f k) ≡ w) → length (join_below f n) ≡ n * w
  unfolding join_below
  join-length f zero w all = sym (zero-mul w)
  join-length f (suc n) w all = length-append (join_below f n) (f n) ∙ omega (arith, suc-mul n w, join-length f n w all, all n)

  -- each part has at most b elements
  pub join-le : (f : ℕ → List A) (n b : ℕ) → ((k : ℕ) → k < n → length (f k) ≤ b) → length (join_below f n) ≤ n * b
  unfolding join_below
  join-le f zero b all = zero-le
  join-le f (suc n) b all =
      rw length-append
      (omega (arith, suc-mul n b, join-le f n b (λ k h. all k (le_step h)), all n (lt-suc_self n)))

  pub table_length : (f : ℕ → A) (n : ℕ) → length (tabulate f n) ≡ n
  unfolding tabulate
  table_length f zero = refl
  table_length f (suc n) = length-append (tabulate f n) (f n ∷ []) ∙ omega (arith, table_length f n)

  pub table_at : (f : ℕ → A) (n k : ℕ) (d : A) → k < n → get_or (tabulate f n) k d ≡ f k
  unfolding tabulate
  table_at f zero k d l = absurd (not-suc-le-zero l)
  table_at f (suc n) k d l =
      ⊎_elim
      (λ e. subst (λ (i : ℕ). get_or (tabulate f n ++ (f n ∷ [])) i d ≡ f i) (sym e) (get_or_at (tabulate f n) (f n) [] d n (table_length f n)))
      (λ h. get_or-append (tabulate f n) (f n ∷ []) d k (rw table_length h) ∙ table_at f n k d h)
      (eq-or-lt_of_le (le_of_suc-le-suc l))

  -- a list of n elements whose k-th is f k
  pub table_ext : (f : ℕ → A) (n : ℕ) (d : A) (l : List A) → length l ≡ n → ((k : ℕ) → k < n → get_or l k d ≡ f k) → l ≡ tabulate f n
  table_ext f n d l e all =
      ext_get_or d l (tabulate f n) (e ∙ sym (table_length f n))
      (λ k h. let below : k < n = omega arith in all k below ∙ sym (table_at f n k d below))
