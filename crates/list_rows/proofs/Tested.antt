-- The test of the component lines, one by one.
use Prim.Native.Nat.{ℕ, suc, ◌+◌, ◌*◌, ◌<◌}
use mathlib.Core.Path.{◌≡◌, refl, sym, ap, ◌∙◌}
use mathlib.Core.Bool.{Bool, true, false, cond, not}
use mathlib.Core.List.{List}
use native.Mathlib.Nat.{le_refl, lt-suc_self, le_step}
use native.Mathlib.Numerals.{add-one}
use native.Mathlib.Omega.{arith}
use lib.Dec.{ltb}
use lib.ListN.{length}
use borrow.Author.Tests.{lt-ltb, le-ltb, ltb-true}
use Rattle.std.specs.Prelude.{Option, Some, None, Ok, Err}
use Rattle.std.specs.Option.{option_or}
use Rattle.sequences.specs.Below.{first_below, below}
use Rattle.sequences.proofs.Below.{first_more, first_here}
use Rattle.layout.specs.declared.Component.{Component}
use Rattle.flags.specs.Table.{FlagTable}
use Rattle.fund.specs.Components.{fits}
use Rattle.text_rules.specs.Columns.{column_start, line_pitch, column_fault}
use Rattle.text_rules.specs.Reading.{body_start, row_start, row_count, row_of, wrong_row, column_place}
use Rattle.list_rules.specs.declared.ListColumn.{ListColumn}
use Rattle.list_rules.specs.Places as places
use Rattle.list_rules.specs.Shanghai.{shanghai, shanghai_shape, shanghai_columns}
use Rattle.list_rules.specs.Reading.{line_component}
use Rattle.list_rows.specs.Rows.{line_code_before, line_fault, lines_fault, rows_tested}
use Rattle.list_rows.proofs.Rows.{column_there}

-- what a search of j places found, and with the next place
found_next : (f : ℕ → Bool) (j : ℕ) (t b : Bool) → ltb (first_below f j) j ≡ t → f j ≡ not b
    → option_or (below j (first_below f j)) (cond b None (Some j)) ≡ below (suc j) (first_below f (suc j))
unfolding first_below
found_next f j true b e g = rw (e, lt-ltb (first_below f j) (suc j) (le_step (ltb-true _ _ e)))
found_next f j false true e g = rw (e, g, le-ltb (suc j) (suc j) (le_refl (suc j)))
found_next f j false false e g = rw (e, g, lt-ltb j (suc j) (lt-suc_self j))

module _ (t : FlagTable) (g : ℕ) (text : List ℕ) where
  -- a line with a column at fault
  abbrev wrong_line : ℕ → Bool
  wrong_line j = ltb (column_fault (shanghai t) (row_of shanghai_shape text j)) (length shanghai_columns)

  -- the lines below j have no column at fault, the last of them has that code, and refusal 3 has found so much in them
  pub record Tested (previous fault : Option ℕ) (j : ℕ) : Type 0 where
    pub right : first_below wrong_line j ≡ j
    pub last : previous ≡ line_code_before t text j
    pub said : fault ≡ below j (first_below (line_fault t g text) j)

  pub tested_start : Tested None None 0
  unfolding line_code_before first_below
  tested_start = record { right = refl; last = refl; said = refl }

  module _ {previous fault : Option ℕ} {j : ℕ} (v : Tested previous fault j) where
    module _ (l : List ℕ) (here : column_fault (shanghai t) l ≡ column_fault (shanghai t) (row_of shanghai_shape text j)) where
      pub tested_again : column_fault (shanghai t) l ≡ length shanghai_columns → line_component t l ≡ line_component t (row_of shanghai_shape text j)
          → {c : Component} → c ≡ line_component t l → {fit : Bool} → fit ≡ fits t g previous c → {fault' : Option ℕ} → fault' ≡ option_or fault (cond fit None (Some j))
          → Tested (Some c.code) fault' (j + 1)
      unfolding line_code_before line_fault
      tested_again none same {c} e {fit} f q =
          let line : c ≡ line_component t (row_of shanghai_shape text j) = e ∙ same in
          let bad : line_fault t g text j ≡ not fit = ap not (sym (f ∙ rw (v.last, line))) in
          record {
            right = first_more wrong_line j v.right (le-ltb _ _ (omega (arith, here, none)));
            last = rw (add-one, line);
            said = q ∙ rw (v.said, add-one) (found_next (line_fault t g text) j (ltb (first_below (line_fault t g text) j) j) fit refl bad);
          }

      pub tested_wrong : j < row_count shanghai_shape text → (column : ListColumn) → places.column_place column ≡ column_fault (shanghai t) l
          → {start pitch at : ℕ} → start ≡ body_start shanghai_shape text → pitch ≡ line_pitch shanghai_columns → at ≡ column_start shanghai_columns (places.column_place column)
          → Err (start + j * pitch + at) ≡ rows_tested t g text
      unfolding rows_tested wrong_row column_place row_of row_start row_count body_start
      tested_wrong low column e s p a =
          let stops : wrong_line j ≡ true = lt-ltb _ _ (omega (arith, here, e, column_there column)) in
          let first : wrong_row (shanghai t) text ≡ j = first_here wrong_line (row_count shanghai_shape text) j low v.right stops in
          rw (first, lt-ltb j (row_count shanghai_shape text) low, s, p, a, e, here)

    pub tested_end : j ≡ row_count shanghai_shape text → Ok fault ≡ rows_tested t g text
    unfolding rows_tested wrong_row lines_fault row_of row_start row_count body_start
    tested_end e =
        let all : first_below wrong_line (row_count shanghai_shape text) ≡ row_count shanghai_shape text = rw e at v.right in
        rw (all, le-ltb (row_count shanghai_shape text) (row_count shanghai_shape text) (le_refl _), v.said, e)
