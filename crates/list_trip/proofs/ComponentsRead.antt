-- The components that a text says: the j-th is what its j-th component line says in the columns of their names.
use mathlib.Core.Path.{◌≡◌, sym, ap, ◌∙◌}
use mathlib.Core.List.{List}
use Prim.Native.Nat.{ℕ, ◌+◌, ◌*◌, ◌<◌}
use native.Mathlib.Nat.{mul_comm, add-zero}
use native.Mathlib.Omega.{arith}
use lib.ListN.{get_or}
use Rattle.sequences.specs.Stretch.{stretch_of}
use Rattle.sequences.proofs.Stretch.{stretch_at}
use Rattle.layout.specs.Places.{component_width}
use Rattle.layout.specs.Components.{component_at}
use Rattle.text_rules.specs.Columns.{line_numbers, numbers_read}
use Rattle.text_rules.specs.Reading.{body_start, row_start, row_count, row_of, run_read}
use Rattle.text_trip.proofs.Below.{stretch_below}
use Rattle.text_trip.proofs.ReadColumns.{read_numbers}
use Rattle.list_rules.specs.Shanghai.{shanghai, shanghai_shape, shanghai_columns}
use Rattle.list_rules.specs.Reading.{components_run}
use Rattle.list_rules.proofs.ComponentLine.{line_component_lem}
use Rattle.list_trip.specs.Trips.{ComponentsRead}
use Rattle.list_trip.proofs.Form.{line_numbers_lem}

-- a component of a run is that of its own stretch
module _ (run : List ℕ) (j : ℕ) where
  there : (k : ℕ) → k < component_width → get_or run (component_width * j + k) 0 ≡ get_or (stretch_of component_width run j) k 0
  there k h = ap (λ (i : ℕ). get_or run (i + k) 0) (mul_comm component_width j) ∙ sym (stretch_at component_width run j k h)

  of_stretch : component_at run j ≡ component_at (stretch_of component_width run j) 0
  unfolding component_at
  of_stretch =
      let code = ap (λ (i : ℕ). get_or run i 0) (sym (add-zero (component_width * j))) ∙ there 0 (omega arith) in
      rw (code, there 1 (omega arith), there 2 (omega arith), there 3 (omega arith), there 4 (omega arith), there 5 (omega arith))

pub components_read : ComponentsRead
unfolding components_run run_read row_count row_of row_start body_start
components_read t text j h =
    let line : ℕ → List ℕ = row_of shanghai_shape text in
    let numbers : stretch_of (line_numbers shanghai_columns) (components_run t text) j ≡ numbers_read (shanghai t) (line j) =
    stretch_below _ (λ i. numbers_read (shanghai t) (line i)) (row_count shanghai_shape text) (λ i _. read_numbers (shanghai t) (line i)) j h in
    of_stretch (components_run t text) j
    ∙ ap (λ (s : List ℕ). component_at s 0) (ap (λ (w : ℕ). stretch_of w (components_run t text) j) (sym line_numbers_lem) ∙ numbers)
    ∙ line_component_lem t (line j)
