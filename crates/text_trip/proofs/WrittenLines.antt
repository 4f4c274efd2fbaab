-- Lines written one behind the other, and where they stand in the text.
use mathlib.Core.Path.{◌≡◌, refl, ap, ap₂, ◌∙◌}
use mathlib.Core.Bool.{Bool, true, ◌&&◌}
use mathlib.Core.List.{List, ◌++◌}
use Prim.Native.Nat.{ℕ, zero, suc, ◌+◌, ◌≤◌, ◌<◌}
use native.Mathlib.Nat.{le_step, lt-suc_self}
use native.Mathlib.Omega.{arith}
use lib.ListN.{length, drop, length-append}
use lib.Seq.{drop-append_seam}
use Rattle.sequences.specs.Below.{join_below}
use Rattle.lines.specs.Lines.{other_byte, all_bytes, line_len, ended, first_line, next_at, line_text}
use Rattle.lines.proofs.Laws.{no_cr, all_append, length-line_text, line_written, ended_written, first_written}
use Rattle.text_rules.specs.Reading.{start_of, line_of, line_stands}
use Rattle.text_trip.proofs.Below.{parts_at}

-- no byte of the parts is 0D
pub parts-no_cr : (g : ℕ → List ℕ) (n : ℕ) → ((k : ℕ) → k < n → no_cr (g k) ≡ true) → no_cr (join_below g n) ≡ true
unfolding join_below all_bytes
parts-no_cr g zero all = refl
parts-no_cr g (suc n) all = all_append other_byte (join_below g n) (g n) (parts-no_cr g n (λ k h. all k (le_step h))) (all n (lt-suc_self n))

-- the line l stands at a place of the text
module _ (text : List ℕ) (at : ℕ) (l t : List ℕ) (clean : no_cr l ≡ true) (e : drop at text ≡ line_text l ++ t) where
  pub line_there : line_of text at ≡ l
  unfolding line_of
  line_there = ap first_line e ∙ first_written l t clean

  pub stands_there : (test : List ℕ → Bool) → line_stands test text at ≡ test l
  unfolding line_stands
  stands_there test = ap₂ (λ (a : Bool) (x : List ℕ). a && test x) (ap ended e ∙ ended_written l t clean) line_there

  pub next_there : next_at text at ≡ at + (length l + 2)
  unfolding next_at
  next_there = ap (λ (s : List ℕ). at + (line_len s + 2)) e ∙ ap (λ (k : ℕ). at + (k + 2)) (line_written l t clean)

-- n lines and then the rest
abbrev pub lines_of : (ℕ → List ℕ) → ℕ → List ℕ
lines_of f n = join_below (λ k. line_text (f k)) n

module _ (f : ℕ → List ℕ) (n : ℕ) (rest : List ℕ) (clean : (k : ℕ) → k < n → no_cr (f k) ≡ true) where
  -- line k starts behind the lines before it
  pub start_lines : (k : ℕ) → k ≤ n → start_of (lines_of f n ++ rest) k ≡ length (lines_of f k)
  unfolding start_of join_below
  start_lines zero h = refl
  start_lines (suc k) h =
      let p = parts_at (λ i. line_text (f i)) n k rest h in
      let s = start_lines k (omega arith) in
      let d = ap₂ drop s p.1 ∙ drop-append_seam (lines_of f k) (line_text (f k) ++ p.0) in
      next_there (lines_of f n ++ rest) (start_of (lines_of f n ++ rest) k) (f k) p.0 (clean k h) d
      ∙ (omega (arith, s, length-append (lines_of f k) (line_text (f k)), length-line_text (f k)))

  -- and is the one that was written
  drop-lines : (k : ℕ) → k < n → (t : List ℕ) × (drop (start_of (lines_of f n ++ rest) k) (lines_of f n ++ rest) ≡ line_text (f k) ++ t)
  drop-lines k h =
      let p = parts_at (λ i. line_text (f i)) n k rest h in
      (p.0, ap₂ drop (start_lines k (omega arith)) p.1 ∙ drop-append_seam (lines_of f k) (line_text (f k) ++ p.0))

  pub line_at : (k : ℕ) → k < n → line_of (lines_of f n ++ rest) (start_of (lines_of f n ++ rest) k) ≡ f k
  line_at k h = let d = drop-lines k h in line_there _ _ (f k) d.0 (clean k h) d.1

  pub stands_at : (test : List ℕ → Bool) (k : ℕ) → k < n
      → line_stands test (lines_of f n ++ rest) (start_of (lines_of f n ++ rest) k) ≡ test (f k)
  stands_at test k h = let d = drop-lines k h in stands_there _ _ (f k) d.0 (clean k h) d.1 test
