-- Laws of stretches: what is read back, lengths, joins, and sums over the stretches where some change.
use mathlib.Core.Path.{◌≡◌, refl, sym, ap, ◌∙◌, subst⁻¹}
use mathlib.Core.List.{List, [], ◌∷◌, ◌++◌, append_assoc}
use mathlib.Core.Logic.{⊎_elim}
use Prim.Native.Nat.{ℕ, zero, suc, ◌+◌, ◌-◌, ◌*◌, ◌≤◌, ◌<◌}
use native.Mathlib.Nat.{zero-mul, suc-mul, le_step, lt-suc_self, add-sub_cancel_left, mul-le-mul_right, not-suc-le-zero, eq-or-lt_of_le, le_of_suc-le-suc}
use native.Mathlib.Decide.{dec_lt}
use native.Mathlib.Omega.{arith}
use lib.ListN.{length, get_or, take, drop, length-append, length-drop, take-append-drop}
use lib.Seq.{length-take-le, take-take, take_all, take_at, drop_at, take-append-le, drop-append-le, drop-drop, take-add, get_or-take, get_or-drop}
use borrow.Rule.Slice.PartMut.{same_len_mid, put_same}
use Rattle.sequences.specs.Below.{join_below}
use Rattle.sequences.specs.Stretch.{stretch_of, put_stretch, on_stretch, over}
use Rattle.sequences.proofs.Below.{sum_two, join-length}

-- a part of a part
pub part_within : (a w n : ℕ) (l : List ℕ) → a + w ≤ n → take w (drop a (take n l)) ≡ take w (drop a l)
part_within zero w n l h = take-take w n l (omega arith)
part_within (suc a) w zero l h = absurd (omega arith)
part_within (suc a) w (suc n) [] h = refl
part_within (suc a) w (suc n) (x ∷ l) h = part_within a w n l (omega arith)

-- a stretch lies within the first n of them
pub within : (w a n : ℕ) → a < n → a * w + w ≤ n * w
within w a n h = rw (← suc-mul) (mul-le-mul_right w h)

pub stretch-length : (w : ℕ) (b : List ℕ) (a : ℕ) → a * w + w ≤ length b → length (stretch_of w b a) ≡ w
unfolding stretch_of
stretch-length w b a h = length-take-le w (drop (a * w) b) (rw length-drop (omega arith))

pub put-length : (w : ℕ) (b : List ℕ) (a : ℕ) (s : List ℕ) → a * w + w ≤ length b → length s ≡ w → length (put_stretch w b a s) ≡ length b
unfolding put_stretch stretch_of
put-length w b a s h e = same_len_mid (a * w) w b s (e ∙ sym (stretch-length w b a h))

pub stretch-put-same : (w : ℕ) (b : List ℕ) (a : ℕ) (s : List ℕ) → a * w + w ≤ length b → length s ≡ w → stretch_of w (put_stretch w b a s) a ≡ s
unfolding put_stretch stretch_of
stretch-put-same w b a s h e =
    rw (drop_at (take (a * w) b) _ (a * w) (length-take-le (a * w) b (omega arith))) (take_at s _ w e)

-- a stretch put back as it was, and one put twice
pub put_back : (w : ℕ) (b : List ℕ) (a : ℕ) → put_stretch w b a (stretch_of w b a) ≡ b
unfolding put_stretch stretch_of
put_back w b a = put_same (a * w) w b

pub put-again : (w : ℕ) (b : List ℕ) (a : ℕ) (s t : List ℕ) → a * w + w ≤ length b → length s ≡ w → put_stretch w (put_stretch w b a s) a t ≡ put_stretch w b a t
unfolding put_stretch
put-again w b a s t h e =
    let front : length (take (a * w) b) ≡ a * w = length-take-le (a * w) b (omega arith) in
    rw (take_at (take (a * w) b) _ (a * w) front, drop_at (take (a * w) b) _ (a * w) front, drop_at s _ w e)

-- the k elements from p on, where they lie before the part that changed
before_mid : (p k a : ℕ) (b s : List ℕ) → p + k ≤ a → a ≤ length b → take k (drop p (take a b ++ s)) ≡ take k (drop p b)
before_mid p k a b s h g =
    let la : length (take a b) ≡ a = length-take-le a b g in
    let front : (t : List ℕ) → take k (drop p (take a b ++ t)) ≡ take k (drop p (take a b)) =
    λ t. rw (drop-append-le p (take a b) t (omega arith)) (take-append-le k _ t (rw length-drop (omega arith))) in
    front s ∙ sym (front (drop a b)) ∙ rw take-append-drop

-- from d after the part that changed on
after_mid : (d a w : ℕ) (b s : List ℕ) → a + w ≤ length b → length s ≡ w → drop (a + w + d) (take a b ++ (s ++ drop w (drop a b))) ≡ drop (a + w + d) b
after_mid d a w b s g e =
    let la : length (take a b) ≡ a = length-take-le a b (omega arith) in
    let at-end : drop (a + w) (take a b ++ (s ++ drop w (drop a b))) ≡ drop (a + w) b = rw (← append_assoc) (drop_at (take a b ++ s) _ (a + w) (rw length-append (omega arith)) ∙ drop-drop w a b) in
    sym (drop-drop d (a + w) _) ∙ ap (drop d) at-end ∙ drop-drop d (a + w) b

pub stretch-put-other : (w : ℕ) (b : List ℕ) (a j : ℕ) (s : List ℕ) → (j ≡ a → ⊥) → a * w + w ≤ length b → length s ≡ w → stretch_of w (put_stretch w b a s) j ≡ stretch_of w b j
unfolding put_stretch stretch_of
stretch-put-other w b a j s n h e = case (dec_lt j a)
  where
    case : Dec (j < a) → take w (drop (j * w) (take (a * w) b ++ (s ++ drop w (drop (a * w) b)))) ≡ take w (drop (j * w) b)
    case (yes l) = before_mid (j * w) w (a * w) b _ (within w j a l) (omega arith)
    case (no l) =
        let f : a * w + w ≤ j * w = within w a j (omega arith) in
        let q : j * w ≡ a * w + w + (j * w - (a * w + w)) = omega arith in
        ap (take w) (subst⁻¹ (λ (p : ℕ). drop p (take (a * w) b ++ (s ++ drop w (drop (a * w) b))) ≡ drop p b) q (after_mid (j * w - (a * w + w)) (a * w) w b s h e))

-- what the borrow checker calls a lent stretch
pub part_is : (w : ℕ) (b : List ℕ) (a : ℕ) → take (a * w + w - a * w) (drop (a * w) b) ≡ stretch_of w b a
unfolding stretch_of
part_is w b a = rw add-sub_cancel_left

-- an element of a stretch, in the whole
pub stretch_at : (w : ℕ) (b : List ℕ) (a i : ℕ) → i < w → get_or (stretch_of w b a) i 0 ≡ get_or b (a * w + i) 0
unfolding stretch_of
stretch_at w b a i h = rw (get_or-take {A = ℕ} w (drop (a * w) b) i 0 h, get_or-drop)

-- the stretches before the last part of a join
join_front : (j s : List ℕ) (n w a : ℕ) → length j ≡ n * w → a < n → stretch_of w (j ++ s) a ≡ stretch_of w j a
unfolding stretch_of
join_front j s n w a e l =
    let h : a * w + w ≤ length j = rw e (within w a n l) in
    rw (drop-append-le (a * w) j s (omega arith)) (take-append-le w _ s (rw length-drop (omega arith)))

join_last : (j s : List ℕ) (n w : ℕ) → length j ≡ n * w → length s ≡ w → stretch_of w (j ++ s) n ≡ s
unfolding stretch_of
join_last j s n w e l = rw (drop_at j s (n * w) e) (take_all w s (omega arith))

-- a stretch of a join of parts of one width is that part
pub stretch-join : (f : ℕ → List ℕ) (n w a : ℕ) → ((k : ℕ) → length (f k) ≡ w) → a < n → stretch_of w (join_below f n) a ≡ f a
unfolding join_below
stretch-join f zero w a all l = absurd (not-suc-le-zero l)
stretch-join f (suc n) w a all l =
    ⊎_elim
    (λ e. subst⁻¹ (λ (i : ℕ). stretch_of w (join_below f n ++ f n) i ≡ f i) e (join_last (join_below f n) (f n) n w (join-length f n w all) (all n)))
    (λ h. join_front (join_below f n) (f n) n w a (join-length f n w all) h ∙ stretch-join f n w a all h)
    (eq-or-lt_of_le (le_of_suc-le-suc l))

-- the first n stretches, where the a-th is f a
take-join : (f : ℕ → List ℕ) (n w : ℕ) (b : List ℕ) → ((a : ℕ) → a < n → stretch_of w b a ≡ f a) → take (n * w) b ≡ join_below f n
unfolding join_below stretch_of
take-join f zero w b all = rw zero-mul
take-join f (suc n) w b all =
    rw (suc-mul, take-add (n * w) w b, take-join f n w b (λ a h. all a (le_step h)), all n (lt-suc_self n))

-- a list of n stretches whose a-th is f a
pub join_ext : (f : ℕ → List ℕ) (n w : ℕ) (b : List ℕ) → length b ≡ n * w → ((a : ℕ) → a < n → stretch_of w b a ≡ f a) → b ≡ join_below f n
join_ext f n w b e all = sym (take_all (n * w) b (omega arith)) ∙ take-join f n w b all

-- Two stretches s and t changed, to x and y, and nothing else.
pub record Changed (w : ℕ) (b b' : List ℕ) (s t : ℕ) (x y : List ℕ) : Type 0 where
  pub size : length b' ≡ length b
  pub first : stretch_of w b' s ≡ x
  pub second : stretch_of w b' t ≡ y
  pub others : (a : ℕ) → (a ≡ s → ⊥) → (a ≡ t → ⊥) → stretch_of w b' a ≡ stretch_of w b a

-- f done to one stretch and then h to another, each keeping the width
pub changed_both : (w : ℕ) (b : List ℕ) (s t : ℕ) (f h : List ℕ → List ℕ) → (t ≡ s → ⊥) → s * w + w ≤ length b → t * w + w ≤ length b
    → ((x : List ℕ) → length (f x) ≡ length x) → ((x : List ℕ) → length (h x) ≡ length x)
    → Changed w b (on_stretch w t h (on_stretch w s f b)) s t (f (stretch_of w b s)) (h (stretch_of w b t))
changed_both w b s t f h two is it lf lh =
    let mid = put_stretch w b s (f (stretch_of w b s)) in
    let long : length (f (stretch_of w b s)) ≡ w = lf (stretch_of w b s) ∙ stretch-length w b s is in
    let same_size : length (put_stretch w b s (f (stretch_of w b s))) ≡ length b = put-length w b s (f (stretch_of w b s)) is long in
    let inside : t * w + w ≤ length (put_stretch w b s (f (stretch_of w b s))) = omega arith in
    let kept : stretch_of w (put_stretch w b s (f (stretch_of w b s))) t ≡ stretch_of w b t = stretch-put-other w b s t (f (stretch_of w b s)) two is long in
    let long2 : length (h (stretch_of w mid t)) ≡ w = lh (stretch_of w mid t) ∙ stretch-length w mid t inside in
    record {
      size = put-length w mid t (h (stretch_of w mid t)) inside long2 ∙ same_size;
      first = stretch-put-other w mid t s (h (stretch_of w mid t)) (λ e. two (sym e)) inside long2 ∙ stretch-put-same w b s (f (stretch_of w b s)) is long;
      second = stretch-put-same w mid t (h (stretch_of w mid t)) inside long2 ∙ ap h kept;
      others = λ a p u. stretch-put-other w mid t a (h (stretch_of w mid t)) u inside long2 ∙ stretch-put-other w b s a (f (stretch_of w b s)) p is long;
    }

-- the sum changes by what the two stretches change
pub changed_over : {w : ℕ} {b b' : List ℕ} {s t : ℕ} {x y : List ℕ} (k : ℕ) (g : List ℕ → ℕ) → Changed w b b' s t x y → s < k → t < k → (t ≡ s → ⊥)
    → over w k g b' + (g (stretch_of w b s) + g (stretch_of w b t)) ≡ over w k g b + (g x + g y)
unfolding over
changed_over {w} {b} {b'} {s} {t} {x} {y} k g c ls lt two =
    let e = sum_two (λ a. g (stretch_of w b' a)) (λ a. g (stretch_of w b a)) k s t ls lt two (λ a p u. ap g (c.others a p u)) in
    omega (arith, e, ap g c.first, ap g c.second)
