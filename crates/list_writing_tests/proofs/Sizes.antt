-- How long the text of a list is.
use mathlib.Core.Path.{◌≡◌, ap, ◌∙◌}
use mathlib.Core.List.{◌++◌}
use mathlib.Core.Bool.{true, and-eq-true_iff}
use Prim.Native.Nat.{ℕ, ◌+◌, ◌*◌, ◌≤◌}
use native.Mathlib.Nat.{mul-le-mul}
use native.Mathlib.Omega.{arith}
use lib.ListN.{length, length-append}
use Rattle.sequences.specs.Checks.{passes}
use Rattle.sequences.proofs.Every.{inside_facts}
use Rattle.flags.specs.Table.{FlagTable}
use Rattle.layout.specs.Places.{most_components}
use Rattle.lines.specs.Lines.{line_text}
use Rattle.lines.proofs.Laws.{length-line_text}
use Rattle.text_rules.specs.Head.{is_letters, end_word, most_letters, end_size}
use Rattle.text_rules.specs.Columns.{line_width, line_pitch}
use Rattle.text_rules.specs.Well.{most_line}
use Rattle.text_rules.proofs.Well.{line_short}
use Rattle.text_rules.specs.Writing.{sheet_text}
use Rattle.list_rules.specs.Shanghai.{shanghai_columns}
use Rattle.list_rules.specs.Writing.{Listing, sheet_of, text_of, list_checks}
use Rattle.list_rules.proofs.Lent.{shanghai_columns_well}
use Rattle.list_trip.proofs.WrittenPassing.{Passing}
use Rattle.list_trip.proofs.WrittenSheet.{text-length}
use Rattle.list_writing_tests.specs.Parts.{head_of, lines_of}

-- the letters are at most eight
pub letters_few : {t : FlagTable} (l : Listing) → Passing t l → length l.letters ≤ most_letters
unfolding is_letters
letters_few l p = (inside_facts 1 most_letters (length l.letters) ((and-eq-true_iff _ _).0 p.letters).0).1

-- the component lines are not too long
pub lines_low : (count : ℕ) → count ≤ most_components → count * line_pitch shanghai_columns ≤ most_components * (most_line + 2)
unfolding line_pitch
lines_low count h =
    let wide : line_width shanghai_columns + 2 ≤ most_line + 2 = omega (arith, line_short shanghai_columns shanghai_columns_well) in
    mul-le-mul h wide

-- a text is its head, its component lines and its last line
pub parts : (t : FlagTable) (l : Listing) → length (text_of t l) ≡ length (head_of l) + (length (lines_of t l) + end_size)
unfolding text_of sheet_of sheet_text
parts t l =
    let a = length-append (head_of l) (lines_of t l ++ line_text end_word) in
    let b = length-append (lines_of t l) (line_text end_word) in
    omega (arith, a, b, length-line_text end_word)

-- the component lines of a list that passes, with the length of one as the code computes it
pub lines_long : (t : FlagTable) (l : Listing) → passes (list_checks t l) ≡ true → (pitch : ℕ) → pitch ≡ line_pitch shanghai_columns
    → l.fields.count * pitch ≡ length (lines_of t l)
lines_long t l e pitch f = ap (λ (n : ℕ). l.fields.count * n) f ∙ omega (arith, parts t l, text-length t l e, length-line_text end_word)
