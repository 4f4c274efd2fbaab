-- The components stored, one by one.
use Prim.Native.Nat.{ℕ, ◌+◌, ◌*◌, ◌≤◌, ◌<◌}
use mathlib.Core.Path.{◌≡◌, sym, ap, ◌∙◌}
use mathlib.Core.List.{List, ◌++◌}
use native.Mathlib.Nat.{le_antisymm}
use native.Mathlib.Omega.{arith}
use lib.ListN.{length, drop}
use lib.Seq.{sets, length-sets}
use borrow.Author.Tests.{ltb-false}
use Rattle.sequences.specs.Below.{join_below}
use Rattle.sequences.proofs.Below.{join-none, join_more, join-length, first_all, first-le}
use Rattle.sequences.proofs.Runs.{sets_append, sets_front}
use Rattle.flags.specs.Table.{FlagTable}
use Rattle.layout.specs.Places.{component_width}
use Rattle.layout.specs.Components.{component_numbers}
use Rattle.text_rules.specs.Columns.{column_fault, numbers_read}
use Rattle.text_rules.specs.Reading.{body_start, row_start, row_count, row_of, wrong_row, run_read}
use Rattle.list_rules.specs.Shanghai.{shanghai, shanghai_shape, shanghai_columns}
use Rattle.list_rules.specs.Reading.{line_component, components_run}
use Rattle.list_rows.proofs.Lines.{numbers_of_component}

-- where no line is at fault, none of its columns is
pub row_right : (t : FlagTable) (text : List ℕ) → wrong_row (shanghai t) text ≡ row_count shanghai_shape text → (j : ℕ) → j < row_count shanghai_shape text
    → column_fault (shanghai t) (row_of shanghai_shape text j) ≡ length shanghai_columns
unfolding wrong_row column_fault row_of row_start row_count body_start
row_right t text right j h = le_antisymm (first-le _ _) (ltb-false _ _ (first_all _ (row_count shanghai_shape text) right j h))

numbers_long : (t : FlagTable) (l : List ℕ) → length (numbers_read (shanghai t) l) ≡ component_width
unfolding component_numbers
numbers_long t l = ap length (numbers_of_component t l)

module _ (t : FlagTable) (text run : List ℕ) where
  abbrev numbers : ℕ → List ℕ
  numbers j = numbers_read (shanghai t) (row_of shanghai_shape text j)

  many : (j : ℕ) → length (join_below numbers j) ≡ j * component_width
  many j = join-length numbers j component_width (λ k. numbers_long t (row_of shanghai_shape text k))

  -- the run with the components of the lines below j
  abbrev pub stored : ℕ → List ℕ
  stored j = sets run 0 (join_below numbers j)

  pub stored_start : run ≡ stored 0
  stored_start = ap (sets run 0) (sym (join-none numbers))

  pub stored_room : (j : ℕ) {run' : List ℕ} → run' ≡ stored j → length run' ≡ length run
  stored_room j e = ap length e ∙ length-sets run 0 (join_below numbers j)

  pub stored_again : (j : ℕ) {run' : List ℕ} → run' ≡ stored j → (l : List ℕ) → line_component t l ≡ line_component t (row_of shanghai_shape text j)
      → {xs : List ℕ} → xs ≡ component_numbers (line_component t l) → sets run' (component_width * j) xs ≡ stored (j + 1)
  stored_again j e l same {xs} x =
      let is : xs ≡ numbers j = x ∙ ap component_numbers same ∙ sym (numbers_of_component t _) in
      let at : component_width * j ≡ 0 + length (join_below numbers j) = omega (arith, many j) in
      rw (e, is, at) (sets_append (join_below numbers j) (numbers j) run 0) ∙ ap (sets run 0) (sym (join_more numbers j))

  pub stored_end : (count : ℕ) → count ≡ row_count shanghai_shape text → component_width * count ≤ length run → {run' : List ℕ} → run' ≡ stored count
      → run' ≡ components_run t text ++ drop (component_width * count) run
  unfolding components_run run_read row_of row_start row_count body_start
  stored_end count c room e =
      let size : length (join_below numbers count) ≡ component_width * count = omega (arith, many count) in
      e ∙ sets_front (join_below numbers count) run (omega (arith, size)) ∙ rw (size, c)
