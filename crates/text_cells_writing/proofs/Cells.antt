-- Texts written into a line or a cell: a number among blanks, and a cell with its bar.
use mathlib.Core.Path.{◌≡◌, refl, sym, ap, ◌∙◌}
use mathlib.Core.Bool.{Bool, true, false}
use mathlib.Core.List.{List, [], ◌∷◌, ◌++◌}
use Prim.Native.Nat.{ℕ, ◌+◌, ◌-◌, ◌≤◌, ◌<◌}
use native.Mathlib.Omega.{arith}
use lib.ListN.{length, set, take, drop, replicate, length-append, length-replicate, take-append-drop}
use lib.Seq.{drop-drop}
use borrow.Rule.Slice.PartMut.{put_mid}
use Rattle.std.specs.Prelude.{Some}
use Rattle.digits.specs.declared.Figure.{Figure}
use Rattle.digits.specs.declared.Form.{Form}
use Rattle.digits.specs.Digits.{plain, signed_text, blanks_left, number_text}
use Rattle.digits.specs.Fits.{Fits}
use Rattle.digits.specs.Written.{put}
use Rattle.digits.proofs.Put.{put-length, growing_again}
use Rattle.digits.proofs.Trip.{number_width}
use Rattle.digits.proofs.Write.{blanks-put}
use Rattle.text_rules.specs.declared.Column.{Column}
use Rattle.text_rules.specs.Columns.{number_form, column_form}
use Rattle.text_cells_writing.specs.Cells.{used_text}

-- a cell of a line with its bar
module _ (d : List ℕ) (at : ℕ) (xs : List ℕ) (room : at + length xs < length d) where
  pub bar_put : {e : ℕ} → e ≡ at + length xs → set (put d at xs) e 124 ≡ put d at (xs ++ 124 ∷ [])
  bar_put {e} h =
      rw h
      (growing_again d at xs (xs ++ 124 ∷ []) (put d at xs) (length xs) 124
      (record { bytes = refl; count = refl; long = put-length d at xs (omega arith) }) room refl).bytes

  -- as the borrow checker has a part that is lent
  pub part-put : {k : ℕ} → k ≡ length xs → put_mid at k d xs ≡ put d at xs
  unfolding put
  part-put {k} h = rw (h, drop-drop)

  -- a part that holds them already
  pub put-there : take (length xs) (drop at d) ≡ xs → put d at xs ≡ d
  unfolding put
  put-there h =
      ap (λ (s : List ℕ). take at d ++ (s ++ drop (at + length xs) d)) (sym h)
      ∙ ap (λ (s : List ℕ). take at d ++ (take (length xs) (drop at d) ++ s)) (sym (drop-drop (length xs) at d))
      ∙ rw (take-append-drop, take-append-drop)

-- a number fills its cell
pub number-length : (c : Column) (n : ℕ) → Fits (number_form c) (plain n) → length (number_text (number_form c) (plain n)) ≡ c.width
unfolding number_form
number-length c n fits = number_width (number_form c) (plain n) fits c.width refl

-- it has room at the end of its cell d, which holds only blanks, and is right in it
module _ (c : Column) (n : ℕ) (fits : Fits (number_form c) (plain n)) {d : List ℕ} (blank : d ≡ replicate c.width 32) where
  module _ {f : Form} (form : f ≡ column_form c (Some c.width)) {z : Figure} (is : z ≡ plain n) where
    pub number_room : length (signed_text f z) ≤ length d
    unfolding number_form
    number_room = rw (form, is) (omega (arith, fits.width c.width refl, ap length blank, length-replicate {A = ℕ} c.width 32))

    pub number_put : {d' : List ℕ} → d' ≡ put d (length d - length (signed_text f z)) (signed_text f z) → d' ≡ number_text (number_form c) (plain n)
    unfolding number_form number_text blanks_left
    number_put e =
        let wide : length d ≡ c.width = ap length blank ∙ length-replicate {A = ℕ} c.width 32 in
        e ∙ rw (form, is, wide, blank) (blanks-put c.width (signed_text (number_form c) (plain n)) (fits.width c.width refl))

-- with its bar
pub used-length : (c : Column) (n : ℕ) → (used : Bool) → (used ≡ true → Fits (number_form c) (plain n)) → length (used_text used c n) ≡ c.width + 1
unfolding used_text
used-length c n true f = length-append (number_text (number_form c) (plain n)) (124 ∷ []) ∙ omega (arith, number-length c n (f refl))
used-length c n false f = length-append (replicate c.width 32) (124 ∷ []) ∙ omega (arith, length-replicate {A = ℕ} c.width 32)

-- ---- a cell in its line d, with its bar
module _ (c : Column) (n : ℕ) (d : List ℕ) (at : ℕ) (room : at + c.width < length d) where
  -- blanks that are there already
  pub unused_put : take c.width (drop at d) ≡ replicate c.width 32 → (used : Bool) → used ≡ false
      → set d (at + c.width) 124 ≡ put d at (used_text used c n)
  unfolding used_text
  unused_put blank used e =
      let xs : List ℕ = replicate c.width 32 in
      let long : length xs ≡ c.width = length-replicate {A = ℕ} c.width 32 in
      rw e
      (ap (λ (s : List ℕ). set s (at + c.width) 124) (sym (put-there d at xs (omega arith) (rw long blank)))
      ∙ bar_put d at xs (omega arith) (omega arith))

  -- a number that came back in its part
  module _ (fits : Fits (number_form c) (plain n)) {s : List ℕ} (number : s ≡ number_text (number_form c) (plain n)) where
    part_long : length s ≡ c.width
    part_long = ap length number ∙ number-length c n fits

    pub used_put : (used : Bool) → used ≡ true → set (put_mid at (at + c.width - at) d s) (at + c.width) 124 ≡ put d at (used_text used c n)
    unfolding used_text
    used_put used u =
        rw u
        (ap (λ (x : List ℕ). set x (at + c.width) 124) (part-put d at s (omega (arith, part_long)) {k = at + c.width - at} (omega (arith, part_long)))
        ∙ bar_put d at s (omega (arith, part_long)) (omega (arith, part_long))
        ∙ ap (λ (x : List ℕ). put d at (x ++ 124 ∷ [])) number)

-- words with their bar
pub ruleset words_put = (put-length, bar_put)
