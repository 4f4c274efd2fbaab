-- A list gone through in stretches of one width: what is left behind those that were given.
use mathlib.Core.Path.{◌≡◌, sym, ap, ◌∙◌}
use mathlib.Core.List.{List, ◌++◌}
use Prim.Native.Nat.{ℕ, ◌+◌, ◌*◌, ◌/◌, ◌≤◌, ◌<◌}
use native.Mathlib.Nat.{suc-mul, zero-mul, le-div_iff_mul-le, div-lt_iff_lt-mul}
use native.Mathlib.Numerals.{add-one}
use native.Mathlib.Omega.{arith}
use lib.ListN.{length, take, drop, length-append, length-drop}
use lib.Seq.{take_at, drop_at, drop-drop}

-- `count` stretches are given of l, w wide, and so much is left
pub record ChunksFrom {A : Type 0} (l : List A) (w size : ℕ) (rest : List A) (count : ℕ) : Type 0 where
  pub wide : size ≡ w
  pub left : rest ≡ drop (count * w) l
  pub within : count * w ≤ length l

next_chunk : (n w : ℕ) → (n + 1) * w ≡ n * w + w
next_chunk n w = rw add-one (suc-mul n w)

module _ {A : Type 0} (l : List A) (w : ℕ) where
  pub chunks_start : {size : ℕ} {rest : List A} {count : ℕ} → size ≡ w → rest ≡ l → count ≡ 0 → ChunksFrom l w size rest count
  chunks_start {size} {rest} {count} e f g =
      let none : count * w ≡ 0 = ap (λ (n : ℕ). n * w) g ∙ zero-mul w in
      record { wide = e; left = f ∙ sym (ap (λ (n : ℕ). drop n l) none); within = omega (arith, none) }

  module _ {size : ℕ} {rest : List A} {count : ℕ} (v : ChunksFrom l w size rest count) where
    -- a step gives the next stretch, which lies within the list
    pub chunk_room : (x rest' : List A) → (rest ≡ x ++ rest') × (length x ≡ size) → count * w + w ≤ length l
    chunk_room x rest' p =
        omega (arith, v.wide, v.within, ap length v.left, ap length p.0, length-append x rest', length-drop (count * w) l, p.1)

    pub chunk_is : (x rest' : List A) → (rest ≡ x ++ rest') × (length x ≡ size) → x ≡ take w (drop (count * w) l)
    chunk_is x rest' p = sym (ap (take w) (sym v.left ∙ p.0) ∙ take_at x rest' w (p.1 ∙ v.wide))

    pub chunks_again : (x rest' : List A) → (rest ≡ x ++ rest') × (length x ≡ size) → {size' : ℕ} → size' ≡ size → {count' : ℕ} → count' ≡ count + 1
        → ChunksFrom l w size' rest' count'
    chunks_again x rest' p e {count'} f =
        let next : count' * w ≡ count * w + w = ap (λ (n : ℕ). n * w) f ∙ next_chunk count w in
        record {
          wide = e ∙ v.wide;
          left =
              sym (drop_at x rest' w (p.1 ∙ v.wide))
              ∙ ap (drop w) (sym p.0 ∙ v.left)
              ∙ drop-drop w (count * w) l
              ∙ sym (ap (λ (n : ℕ). drop n l) next);
          within = omega (arith, next, chunk_room x rest' p);
        }

    -- where it gives none, all are given
    pub chunks_end : length rest < size → count ≡ length l / w
    chunks_end h =
        let some : 0 < w = omega (arith, v.wide) in
        let less : length l < (count + 1) * w = omega (arith, next_chunk count w, v.wide, v.within, ap length v.left, length-drop (count * w) l) in
        let low : count ≤ length l / w = (le-div_iff_mul-le {k = w} {x = count} {y = length l} some).1 v.within in
        let high : length l / w < count + 1 = (div-lt_iff_lt-mul {k = w} {x = length l} {y = count + 1} some).1 less in
        omega (arith, low, high)

    -- as long as one is given, not all are
    pub chunk_some : count * w + w ≤ length l → 0 < w → count < length l / w
    chunk_some h some =
        let low : count + 1 ≤ length l / w = (le-div_iff_mul-le {k = w} {x = count + 1} {y = length l} some).1 (omega (arith, next_chunk count w)) in
        omega (arith, low)
