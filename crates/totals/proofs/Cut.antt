-- Rows of a run, given one behind another: which numbers a row has, and how many there are.
use Rattle.std.proofs.Common.{◌≡◌, ℕ, ◌+◌, ◌*◌, ◌/◌, ◌<◌, ◌≤◌, List, ◌++◌, length, get_or, drop, ap, ◌∙◌, get_or-take, arith}
use Rattle.std.proofs.Math.Nat.{mul-le-mul_right, le_of_mul-le-mul_right, lt_of_mul-lt-mul_right}
use Rattle.std.proofs.lemmas.List.{get_or-drop, length-drop}
use Rattle.sequences.proofs.Chunks.{ChunksFrom, chunk_room, chunk_is}

-- a whole row in a run of n is one of them
pub row_below : (w n i : ℕ) → 0 < w → i * w + w ≤ n * w → i < n
row_below w n i some l = lt_of_mul-lt-mul_right w (omega (arith, some, l))

-- so many whole rows are in a run of n
all_counted : (w n i : ℕ) → i * w ≤ n * w → n * w < i * w + w → i ≡ n
all_counted w n i h l =
    let some : 0 < w = omega arith in
    let low : i ≤ n = le_of_mul-le-mul_right h some in
    let high : n < i + 1 = lt_of_mul-lt-mul_right w (let e : i * w + w ≡ (i + 1) * w = omega arith in rw (← e) l) in
    omega arith

module _ {run : List ℕ} {w size : ℕ} {rest : List ℕ} {count : ℕ} (v : ChunksFrom run w size rest count) where
  -- a row's numbers
  pub chunk_at : (x rest' : List ℕ) → (rest ≡ x ++ rest') × (length x ≡ size) → (k : ℕ) → k < w → get_or x k 0 ≡ get_or run (count * w + k) 0
  chunk_at x rest' p k h =
      ap (λ (l : List ℕ). get_or l k 0) (chunk_is _ _ v x rest' p) ∙ get_or-take w (drop (count * w) run) k 0 h ∙ get_or-drop (count * w) run k 0

  past : length rest < size → length run < count * w + w
  past l = omega (arith, v.wide, v.within, ap length v.left, length-drop (count * w) run)

  -- all rows of n
  pub all_rows : (n : ℕ) → length run ≡ n * w → length rest < size → count ≡ n
  all_rows n whole l = all_counted w n count (omega (arith, v.within, whole)) (omega (arith, past l, whole))

-- and all whole blocks of eight
pub all_blocks : (w n : ℕ) {run rest : List ℕ} {size count : ℕ} → ChunksFrom run (8 * w) size rest count → length run ≡ n * w → length rest < size → count * 8 ≡ n / 8 * 8
all_blocks w n {count = count} v whole l =
    let some : 0 < w = omega (arith, past v l, v.within) in
    let e : count * (8 * w) ≡ (count * 8) * w = omega arith in
    let f : (count * 8) * w + 8 * w ≡ (count * 8 + 8) * w = omega arith in
    let low : count * 8 ≤ n = le_of_mul-le-mul_right {k = w} (omega (arith, e, v.within, whole)) some in
    let high : n < count * 8 + 8 = lt_of_mul-lt-mul_right w (omega (arith, e, f, past v l, whole)) in
    omega arith

-- rows from row a on, of n
module _ (run : List ℕ) (w n a : ℕ) (whole : length run ≡ n * w) (some : 0 < w) (first : a ≤ n) {size count : ℕ} {rest : List ℕ}
    (v : ChunksFrom (drop (a * w) run) w size rest count) where
  left : length (drop (a * w) run) + a * w ≡ n * w
  left = let l : a * w ≤ n * w = mul-le-mul_right w first in omega (arith, length-drop (a * w) run, whole)

  -- one more is the row behind those that are given
  module _ (x rest' : List ℕ) (p : (rest ≡ x ++ rest') × (length x ≡ size)) where
    pub row_from : (k : ℕ) → k < w → get_or x k 0 ≡ get_or run ((a + count) * w + k) 0
    row_from k h =
        let at : a * w + (count * w + k) ≡ (a + count) * w + k = omega arith in
        chunk_at v x rest' p k h ∙ get_or-drop (a * w) run (count * w + k) 0 ∙ ap (λ (n : ℕ). get_or run n 0) at

    pub row_among : a + count + 1 ≤ n
    row_among =
        let e : (a + count + 1) * w ≡ a * w + (count * w + w) = omega arith in
        le_of_mul-le-mul_right {k = w} (omega (arith, e, left, chunk_room _ _ v x rest' p)) some

  pub rows_end : length rest < size → a + count ≡ n
  rows_end l =
      let e : (a + count) * w ≡ a * w + count * w = omega arith in
      all_counted w n (a + count) (omega (arith, e, left, v.within)) (omega (arith, e, left, past v l))
