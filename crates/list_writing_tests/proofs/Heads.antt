-- The head that is written by the code's table is the list's.
use mathlib.Core.Path.{◌≡◌, ap₂, ◌∙◌}
use mathlib.Core.List.{List}
use Prim.Native.Nat.{ℕ, ◌<◌}
use native.Mathlib.Omega.{arith}
use lib.ListN.{length}
use borrow.Author.Tests.{lt-ltb}
use Rattle.sequences.proofs.Below.{table_at}
use Rattle.digits.specs.declared.Figure.{Figure}
use Rattle.digits.specs.Digits.{plain}
use Rattle.text_rules.specs.Tables.{Field}
use Rattle.text_rules.specs.Head.{head_lines}
use Rattle.text_rules.specs.Well.{most_fields}
use Rattle.text_head_writing.specs.Lines.{array_figure, whole_head}
use Rattle.list_rules.specs.declared.ListFields.{ListFields}
use Rattle.list_rules.specs.Shanghai.{shanghai_fields, field_count}
use Rattle.list_rules.specs.Fields.{figure_at, figures_of}
use Rattle.list_rules.specs.Writing.{Listing}
use Rattle.list_rules.proofs.Lent.{fields_count}
use Rattle.list_trip.proofs.ReadFigures.{head_same}
use Rattle.list_writing_tests.specs.Parts.{head_of}

-- an array has the figures of the fields
figure_same : (fields : ListFields) (k : ℕ) → k < length shanghai_fields → array_figure (figures_of fields) k ≡ figure_at fields k
unfolding figures_of
figure_same fields k h =
    let low : k < field_count = omega (arith, fields_count) in
    table_at _ most_fields k (plain 0) (omega arith) ∙ rw (lt-ltb k field_count low)

-- the head by the code's table and its array
pub head_lent : (fs : List Field) → fs ≡ shanghai_fields → (l : Listing) (figures : List Figure) → figures ≡ figures_of l.fields
    → whole_head fs l.letters figures ≡ head_of l
head_lent fs ours l figures e =
    ap₂ (λ (t : List Field) (z : List Figure). whole_head t l.letters z) ours e
    ∙ head_same shanghai_fields l.letters _ (figure_at l.fields) (figure_same l.fields) (head_lines shanghai_fields)
