-- A search through the pieces of one width that a list is cut into.
use mathlib.Core.Path.{◌≡◌, refl, sym, ap, ap₂, ◌∙◌, subst}
use mathlib.Core.Bool.{Bool}
use mathlib.Core.List.{List, [], ◌∷◌, ◌++◌}
use Prim.Native.Nat.{ℕ, zero, suc, ◌+◌, ◌*◌, ◌/◌, ◌<◌}
use native.Mathlib.Nat.{suc-mul, zero-mul, le_of_suc-le-suc, not-suc-le-zero}
use native.Mathlib.Numerals.{add-one}
use native.Mathlib.Omega.{arith}
use lib.ListN.{length, get_or, take, drop, length-append}
use lib.Seq.{take_at, drop_at, drop-drop}
use Rattle.std.proofs.Math.Nat.{div-eq_of_lt, add-div_right}
use Rattle.std.specs.List.{position_or_len}
use Rattle.std.specs.Slice.Iter.{chunks_exact_rest, chunks_exact_size, chunks_exact_steps}
use Rattle.std.proofs.lemmas.Iterator.{YieldsList}
use Rattle.std.proofs.lemmas.Iterator.Splits.{YieldsList-from_shown_while}
use Rattle.std.proofs.lemmas.List.Sums.{position_or_len_is}
use Rattle.sequences.specs.Below.{first_below}
use Rattle.text_rows.proofs.First.{found}

module _ {A : Type 0} where
  pub pieces : ℕ → ℕ → List A → List (List A)
  pieces w zero l = []
  pieces w (suc n) l = take w l ∷ pieces w n (drop w l)

  pub pieces_length : (w n : ℕ) (l : List A) → length (pieces w n l) ≡ n
  unfolding pieces
  pieces_length w zero l = refl
  pieces_length w (suc n) l = ap suc (pieces_length w n (drop w l))

  piece_at : (w n : ℕ) (l : List A) (k : ℕ) → k < n → get_or (pieces w n l) k [] ≡ take w (drop (k * w) l)
  unfolding pieces
  piece_at w zero l k h = absurd (not-suc-le-zero h)
  piece_at w (suc n) l zero h = ap (λ (m : ℕ). take w (drop m l)) (sym (zero-mul w))
  piece_at w (suc n) l (suc k) h =
      piece_at w n (drop w l) k (le_of_suc-le-suc h)
      ∙ ap (take w) (drop-drop (k * w) w l)
      ∙ ap (λ (m : ℕ). take w (drop m l)) (omega (arith, suc-mul k w))

  -- the first piece that passes
  pub first_piece : (test : List A → Bool) (w n : ℕ) (l : List A) → position_or_len test (pieces w n l) ≡ first_below (λ k. test (take w (drop (k * w) l))) n
  first_piece test w n l =
      let v = found (λ k. test (take w (drop (k * w) l))) n in
      position_or_len_is test (pieces w n l) (first_below (λ k. test (take w (drop (k * w) l))) n) []
      (omega (arith, v.within, pieces_length w n l))
      (λ k h. ap test (piece_at w n l k (omega (arith, h, v.within))) ∙ v.before k h)
      (λ h.
      let less : first_below (λ k. test (take w (drop (k * w) l))) n < n = omega (arith, h, pieces_length w n l) in
      ap test (piece_at w n l _ less) ∙ v.passes less)

  -- a piece more
  pieces_more : (w : ℕ) (l x rest : List A) → 0 < w → (l ≡ x ++ rest) × (length x ≡ w) → pieces w (length l / w) l ≡ x ∷ pieces w (length rest / w) rest
  unfolding pieces
  pieces_more w l x rest some p =
      let long : length l ≡ length rest + w = omega (arith, ap length p.0, length-append x rest, p.1) in
      let count : length l / w ≡ suc (length rest / w) = ap (λ (n : ℕ). n / w) long ∙ add-div_right (length rest) some ∙ add-one _ in
      ap (λ (n : ℕ). pieces w n l) count
      ∙ ap₂ ◌∷◌ (ap (take w) p.0 ∙ take_at x rest w p.1) (ap (pieces w (length rest / w)) (ap (drop w) p.0 ∙ drop_at x rest w p.1))

  -- what `chunks_exact` gives
  pub pieces_given : {s : _} (w : ℕ) (l : List A) → chunks_exact_rest s ≡ l → chunks_exact_size s ≡ w → 0 < w
      → YieldsList (chunks_exact_steps {A = A}) (λ x. x.now) s (pieces w (length l / w) l)
  pieces_given {s} w l rest size some =
      subst (λ (l : List A). YieldsList (chunks_exact_steps {A = A}) (λ x. x.now) s (pieces w (length l / w) l)) rest
      (YieldsList-from_shown_while (chunks_exact_steps {A = A}) (λ x. x.now) (λ t. pieces w (length (chunks_exact_rest t) / w) (chunks_exact_rest t))
      (λ t. chunks_exact_size t ≡ w)
      (λ t u h k. pieces_length w _ _ ∙ div-eq_of_lt (omega (arith, h, k.1.0)))
      (λ t x u h k. (k.0 ∙ h, pieces_more w _ _ _ some (k.1.0, k.1.1 ∙ h))) s size)
