-- A text written into each line of a run: only that line changes, so a line has its own text and keeps the rest.
use mathlib.Core.Path.{◌≡◌, refl, sym, ap, ◌∙◌}
use mathlib.Core.List.{List, ◌++◌, append_assoc}
use mathlib.Core.Logic.{⊎_elim}
use Prim.Native.Nat.{ℕ, zero, suc, ◌+◌, ◌*◌, ◌/◌, ◌≤◌, ◌<◌}
use native.Mathlib.Nat.{add_assoc, eq-or-lt_of_le, le_of_suc-le-suc, le_step, lt-suc_self, not-suc-le-zero, lt_of_mul-lt-mul_right, mul-div_cancel}
use native.Mathlib.Numerals.{add-one}
use native.Mathlib.Omega.{arith}
use lib.ListN.{length, take, drop, length-drop, take-append-drop}
use lib.Seq.{length-take-le, take-take, take-add, drop-append-le, drop-drop}
use Rattle.sequences.specs.Stretch.{stretch_of, put_stretch, on_stretch}
use Rattle.sequences.proofs.Stretch.{within, part_within, stretch-length, put-length, stretch-put-same, stretch-put-other}
use Rattle.digits.specs.Written.{put}
use Rattle.digits.proofs.Put.{put-length as text-length}
use Rattle.text_rows_writing.specs.Lines.{lines_put}

-- a part of a line, in the run
pub part_stretch : (w : ℕ) (b : List ℕ) (i p k : ℕ) → p + k ≤ w → take k (drop (i * w + p) b) ≡ take k (drop p (stretch_of w b i))
unfolding stretch_of
part_stretch w b i p k h = ap (take k) (sym (drop-drop p (i * w) b)) ∙ sym (part_within p k w (drop (i * w) b) h)

-- a text that is written into a line is written into the run
line-put : (w i at : ℕ) (b xs : List ℕ) → i * w + w ≤ length b → at + length xs ≤ w → on_stretch w i (λ s. put s at xs) b ≡ put b (i * w + at) xs
unfolding put put_stretch stretch_of
line-put w i at b xs h r =
    let rest : List ℕ = drop (i * w) b in
    let long : length (take w rest) ≡ w = length-take-le w rest (rw length-drop (omega arith)) in
    let behind : drop (at + length xs) (take w rest) ++ drop w rest ≡ drop (i * w + at + length xs) b =
    sym (drop-append-le (at + length xs) (take w rest) (drop w rest) (omega arith))
    ∙ ap (drop (at + length xs)) (take-append-drop w rest)
    ∙ drop-drop (at + length xs) (i * w) b
    ∙ ap (λ (k : ℕ). drop k b) (sym (add_assoc (i * w) at (length xs)))
    in
    rw (take-take at w rest (omega arith), take-add (i * w) at b) (simp (append_assoc, behind))

-- two texts that agree in each line
pub lines_same : (w at : ℕ) (f g : ℕ → List ℕ) (n : ℕ) (b : List ℕ) → ((i : ℕ) → i < n → f i ≡ g i) → lines_put w at f n b ≡ lines_put w at g n b
unfolding lines_put
lines_same w at f g zero b e = refl
lines_same w at f g (suc n) b e = rw (lines_same w at f g n b (λ i h. e i (le_step h)), e n (lt-suc_self n))

module _ (w at : ℕ) (text : ℕ → List ℕ) (b : List ℕ) (count : ℕ) (long : length b ≡ count * w) where
  line_inside : (i : ℕ) → i < count → i * w + w ≤ length b
  line_inside i h = rw long (within w i count h)

  module _ (room : (i : ℕ) → i < count → at + length (text i) ≤ w) where
    pub lines_long : (n : ℕ) → n ≤ count → length (lines_put w at text n b) ≡ length b
    unfolding lines_put
    lines_long zero h = refl
    lines_long (suc n) h =
        let same = lines_long n (omega arith) in
        let place : n * w + w ≤ length (lines_put w at text n b) = omega (arith, line_inside n h) in
        let line = stretch-length w (lines_put w at text n b) n place in
        put-length w (lines_put w at text n b) n _ place
        (text-length (stretch_of w (lines_put w at text n b) n) at (text n) (omega (arith, room n h)) ∙ line)
        ∙ same

    -- line n and what is written into it
    module _ (n : ℕ) (h : n < count) where
      place : n * w + w ≤ length (lines_put w at text n b)
      place = omega (arith, lines_long n (omega arith), line_inside n h)

      put-long : length (put (stretch_of w (lines_put w at text n b) n) at (text n)) ≡ w
      put-long =
          let line = stretch-length w (lines_put w at text n b) n place in
          text-length (stretch_of w (lines_put w at text n b) n) at (text n) (omega (arith, room n h)) ∙ line

    -- a line from n on is as it was
    pub lines_later : (n j : ℕ) → n ≤ j → j < count → stretch_of w (lines_put w at text n b) j ≡ stretch_of w b j
    unfolding lines_put
    lines_later zero j h l = refl
    lines_later (suc n) j h l =
        stretch-put-other w (lines_put w at text n b) n j _ (λ e. omega arith) (place n (omega arith)) (put-long n (omega arith))
        ∙ lines_later n j (omega arith) l

    pub lines_here : (n j : ℕ) → n ≤ count → j < n → stretch_of w (lines_put w at text n b) j ≡ put (stretch_of w b j) at (text j)
    unfolding lines_put
    lines_here zero j k h = absurd (not-suc-le-zero h)
    lines_here (suc n) j k h =
        ⊎_elim
        (λ e. rw e
        (stretch-put-same w (lines_put w at text n b) n _ (place n k) (put-long n k)
        ∙ ap (λ (s : List ℕ). put s at (text n)) (lines_later n n (omega arith) k)))
        (λ l.
        stretch-put-other w (lines_put w at text n b) n j _ (λ e. omega arith) (place n k) (put-long n k)
        ∙ lines_here n j (omega arith) l)
        (eq-or-lt_of_le (le_of_suc-le-suc h))

-- ---- the loop over the lines: those below j have their text
pub record PutBelow (w at : ℕ) (text : ℕ → List ℕ) (b : List ℕ) (count : ℕ) (b' : List ℕ) (j : ℕ) : Type 0 where
  pub room : (i : ℕ) → i < count → at + length (text i) ≤ w
  pub before : length b ≡ count * w
  pub bytes : b' ≡ lines_put w at text j b
  pub long : length b' ≡ count * w

pub put-start : (w at : ℕ) (text : ℕ → List ℕ) (b : List ℕ) (count : ℕ) → length b ≡ count * w → ((i : ℕ) → i < count → at + length (text i) ≤ w) → PutBelow w at text b count b 0
unfolding lines_put
put-start w at text b count long room = record { room = room; before = long; bytes = refl; long = long }

module _ {w at : ℕ} {text : ℕ → List ℕ} {b : List ℕ} {count : ℕ} {b' : List ℕ} {j : ℕ} (v : PutBelow w at text b count b' j) where
  pub put_end : j ≡ count → b' ≡ lines_put w at text count b
  put_end e = v.bytes ∙ ap (λ (n : ℕ). lines_put w at text n b) e

  module _ (below : j < count) where
    pub put_here : j * w + w ≤ length b'
    put_here = rw v.long (within w j count below)

    -- what stands there is as it was
    pub put_later : (k : ℕ) → at + k < w → take k (drop (j * w + at) b') ≡ take k (drop at (stretch_of w b j))
    put_later k h =
        part_stretch w b' j at k (omega arith)
        ∙ ap (λ (s : List ℕ). take k (drop at s)) (ap (λ (s : List ℕ). stretch_of w s j) v.bytes ∙ lines_later w at text b count v.before v.room j j (omega arith) below)

    pub put-again : {b'' xs : List ℕ} → b'' ≡ put b' (j * w + at) xs → xs ≡ text j → PutBelow w at text b count b'' (j + 1)
    unfolding lines_put
    put-again {b''} {xs} e t =
        let same : b'' ≡ lines_put w at text (j + 1) b =
        e ∙ ap (put b' (j * w + at)) t ∙ sym (line-put w j at b' (text j) put_here (v.room j below)) ∙ rw (v.bytes, add-one j, lines_put)
        in
        let long : length b'' ≡ count * w = ap length same ∙ lines_long w at text b count v.before v.room (j + 1) (omega arith) ∙ v.before in
        record { room = v.room; before = v.before; bytes = same; long = long }

-- ---- a run of so many lines in pieces of a line each: the place of a piece is a line's, and behind the last piece all lines are done
module _ {n w count i : ℕ} (whole : n ≡ count * w) (some : 0 < w) where
  pub piece_below : i * w + w ≤ n → i < count
  piece_below h = lt_of_mul-lt-mul_right w (omega (arith, whole, some, h))

  pub pieces_all : i ≡ n / w → i ≡ count
  pieces_all e = e ∙ ap (λ (m : ℕ). m / w) whole ∙ mul-div_cancel count some

-- how many lines, each with its two bytes behind the others, are in so many bytes
pub rows_count : (bytes : ℕ) {n count : ℕ} → n ≡ count * (bytes + 2) → n / (bytes + 2) ≡ count
rows_count bytes {n} {count} whole = ap (λ (m : ℕ). m / (bytes + 2)) whole ∙ mul-div_cancel count (omega arith)

-- what the search goes by where the lines get their end
pub ruleset end_laws = (put-start, put_end, put-again, rows_count)
