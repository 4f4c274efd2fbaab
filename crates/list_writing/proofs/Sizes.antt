-- The head, the component lines and the last line of a list, written one behind the other.
use mathlib.Core.Path.{◌≡◌, ap, ◌∙◌}
use mathlib.Core.List.{List, [], ◌∷◌, append_assoc}
use Prim.Native.Nat.{ℕ, ◌+◌, ◌-◌, ◌≤◌}
use native.Mathlib.Nat.{add-sub_cancel_left}
use native.Mathlib.Omega.{arith}
use lib.ListN.{length, take, drop, length-append, length-drop}
use lib.Seq.{drop-drop, length-take-le}
use borrow.Rule.Slice.PartMut.{put_mid}
use Rattle.flags.specs.Table.{FlagTable}
use Rattle.digits.specs.Written.{Written, put}
use Rattle.digits.proofs.Put.{written_then, written-length}
use Rattle.lines.specs.Lines.{line_text}
use Rattle.lines.proofs.Laws.{length-line_text}
use Rattle.text_rules.specs.Head.{end_word, end_size}
use Rattle.text_rules.specs.Writing.{sheet_text}
use Rattle.list_rules.specs.Writing.{Listing, sheet_of, text_of}
use Rattle.list_writing_tests.specs.Parts.{head_of, lines_of}
use Rattle.list_writing_tests.proofs.Sizes.{parts}

-- The component lines in their part of an output.
module _ (t : FlagTable) (l : Listing) (d : List ℕ) (a n : ℕ) (e : n ≡ length (lines_of t l)) (room : a + length (lines_of t l) ≤ length d) where
  pub part_long : length (take (a + n - a) (drop a d)) ≡ length (lines_of t l)
  part_long =
      rw (add-sub_cancel_left a n, e)
      (length-take-le (length (lines_of t l)) (drop a d) (omega (arith, room, length-drop a d)))

  pub lines-put : (xs : List ℕ) → xs ≡ lines_of t l → Written d a (lines_of t l) (put_mid a (a + n - a) d xs) (a + n)
  unfolding put
  lines-put xs g = record { bytes = rw (g, add-sub_cancel_left a n, e, drop-drop); next = ap (λ (m : ℕ). a + m) e }

-- The whole text in an output that it fits.
module _ (t : FlagTable) (l : Listing) (d : List ℕ) (room : length (text_of t l) ≤ length d) where
  pub head_room : length (head_of l) ≤ length d
  head_room = omega (arith, parts t l, room)

  module _ {d₁ : List ℕ} {a : ℕ} (u : Written d 0 (head_of l) d₁ a) where
    pub lines_room : a + length (lines_of t l) ≤ length d₁
    lines_room = omega (arith, room, parts t l, u.next, written-length u (omega (arith, head_room)))

    module _ {d₂ : List ℕ} {b : ℕ} (v : Written d₁ a (lines_of t l) d₂ b) where
      last_room : b + end_size ≤ length d₂
      last_room = omega (arith, room, parts t l, u.next, v.next, written-length u (omega (arith, head_room)), written-length v lines_room)

      pub end_room : b + length end_word ≤ length d₂
      end_room = omega (arith, last_room)

      module _ {d₃ : List ℕ} {c : ℕ} (w : Written d₂ b end_word d₃ c) where
        pub line_end_room : c + 2 ≤ length d₃
        line_end_room = omega (arith, last_room, w.next, written-length w end_room)

        pub text-put : {d₄ : List ℕ} {e : ℕ} → Written d₃ c (13 ∷ 10 ∷ []) d₄ e → d₄ ≡ put d 0 (text_of t l)
        unfolding text_of sheet_of sheet_text line_text
        text-put z =
            let n = length-append (head_of l) (lines_of t l) in
            let s = length-line_text end_word in
            (written_then (written_then u v (omega (arith, parts t l, room))) (written_then w z (omega (arith, last_room))) (omega (arith, parts t l, room))).bytes ∙ rw append_assoc
