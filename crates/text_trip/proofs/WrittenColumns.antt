-- Columns written one behind the other, each followed by a bar, and where they stand in the line.
use mathlib.Core.Path.{◌≡◌, sym, ap, ◌∙◌}
use mathlib.Core.List.{List, [], ◌∷◌, ◌++◌, append_assoc, append-nil}
use Prim.Native.Nat.{ℕ, ◌+◌, ◌<◌}
use native.Mathlib.Nat.{add-zero}
use lib.ListN.{length, get_or, take, drop, length-append}
use lib.Seq.{take_at, get_or_at, get_or-take, get_or-drop}
use Rattle.sequences.specs.Below.{sum_below, join_below}
use Rattle.text_trip.proofs.Below.{parts-length, part-drop}

-- n columns, each with its bar
abbrev pub barred : (ℕ → List ℕ) → ℕ → List ℕ
barred g n = join_below (λ k. g k ++ 124 ∷ []) n

-- where the k-th of columns of these widths starts
abbrev pub start_by : (ℕ → ℕ) → ℕ → ℕ
start_by width = sum_below (λ i. width i + 1)

-- columns of these widths
module _ (g : ℕ → List ℕ) (width : ℕ → ℕ) (n : ℕ) (wide : (k : ℕ) → k < n → length (g k) ≡ width k) where
  barred_wide : (k : ℕ) → k < n → length (g k ++ 124 ∷ []) ≡ width k + 1
  barred_wide k h = length-append (g k) (124 ∷ []) ∙ ap (λ (w : ℕ). w + 1) (wide k h)

  -- so many bytes with the bars
  pub barred-length : length (barred g n) ≡ start_by width n
  barred-length = parts-length (λ k. width k + 1) (λ k. g k ++ 124 ∷ []) n barred_wide

  -- from the k-th on: it, its bar, and what stands behind it
  cut : (k : ℕ) → k < n → (t : List ℕ) × (drop (start_by width k) (barred g n) ≡ g k ++ 124 ∷ t)
  cut k h =
      let d = part-drop (λ i. width i + 1) (λ i. g i ++ 124 ∷ []) n barred_wide [] k h in
      (d.0, ap (drop (start_by width k)) (sym (append-nil (barred g n))) ∙ d.1 ∙ append_assoc (g k) (124 ∷ []) d.0)

  -- the k-th column, and its bar
  pub column_there : (k : ℕ) → k < n → take (width k) (drop (start_by width k) (barred g n)) ≡ g k
  column_there k h =
      let c = cut k h in
      ap (take (width k)) c.1 ∙ take_at (g k) (124 ∷ c.0) (width k) (wide k h)

  pub bar_there : (k : ℕ) → k < n → get_or (barred g n) (start_by width k + width k) 0 ≡ 124
  bar_there k h =
      let c = cut k h in
      sym (get_or-drop (start_by width k) (barred g n) (width k) 0)
      ∙ ap (λ (s : List ℕ). get_or s (width k) 0) c.1
      ∙ get_or_at (g k) 124 c.0 0 (width k) (wide k h)

-- the first byte of a part of a line, in the line
pub byte_there : (l : List ℕ) (at width : ℕ) → 0 < width → get_or (take width (drop at l)) 0 0 ≡ get_or l at 0
byte_there l at width h =
    get_or-take width (drop at l) 0 0 h ∙ get_or-drop at l 0 0 ∙ ap (λ (i : ℕ). get_or l i 0) (add-zero at)
