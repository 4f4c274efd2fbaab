-- A table in a run of its numbers.
use mathlib.Core.Path.{◌≡◌, refl, sym, ap, ap₂, subst, ◌∙◌}
use mathlib.Core.List.{List, [], ◌∷◌}
use Prim.Native.Nat.{ℕ, suc, ◌/◌, ◌<◌}
use native.Mathlib.Omega.{arith}
use lib.ListN.{length, get_or}
use lib.Seq.{take_at, drop_at}
use denote.Bor.{Bor}
use Rattle.std.specs.Prelude.{Option, Some, MatchOption, ◌≢◌}
use Rattle.std.specs.Array.{IsWholeChunk}
use Rattle.std.specs.Simd.{first_chunks}
use Rattle.std.specs.List.{flat_map}
use Rattle.flags.specs.Table.{FlagTable, flag_count, flag_columns, table_width, table_numbers, table_of, row_of, flag_table}

module _ (numbers : List ℕ) (whole : length numbers ≡ table_width) where
  pub rows_count : length numbers / flag_columns ≡ flag_count
  rows_count = ap (λ (n : ℕ). n / flag_columns) whole

  -- the rows of a run as one array are the table that it says
  pub whole_table : (rows : List (List ℕ)) (found : Option (Bor FlagTable)) (table : Bor FlagTable) → rows ≡ first_chunks flag_columns (length numbers / flag_columns) numbers
      → found ≡ Some table → MatchOption found (length rows ≢ flag_count) (λ y. IsWholeChunk rows y.now flag_count) → table.now ≡ table_of numbers
  unfolding table_of
  whole_table rows found table e f m =
      (subst (λ (o : Option (Bor FlagTable)). MatchOption o (length rows ≢ flag_count) (λ y. IsWholeChunk rows y.now flag_count)) f m).same
      ∙ e
      ∙ ap (λ (n : ℕ). first_chunks flag_columns n numbers) rows_count

-- rows of one width, one behind another, are read back
rows_back : (w : ℕ) (rows : List (List ℕ)) → ((k : ℕ) → k < length rows → length (get_or rows k []) ≡ w)
    → first_chunks w (length rows) (flat_map (λ row. row) rows) ≡ rows
rows_back w [] each = refl
rows_back w (row ∷ rows) each =
    let rest : List ℕ = flat_map (λ (r : List ℕ). r) rows in
    ap₂ (λ (x : List ℕ) (xs : List (List ℕ)). x ∷ xs) (take_at row rest w (each 0 (omega arith)))
    (ap (first_chunks w (length rows)) (drop_at row rest w (each 0 (omega arith))) ∙ rows_back w rows (λ k h. each (suc k) (omega (arith, h))))

-- a table's numbers say the table
pub table_back : (t : FlagTable) → length t ≡ flag_count → ((flag : ℕ) → flag < flag_count → length (row_of t flag) ≡ flag_columns) → table_of (table_numbers t) ≡ t
unfolding table_of
table_back t rows each =
    ap (λ (n : ℕ). first_chunks flag_columns n (table_numbers t)) (sym rows)
    ∙ rows_back flag_columns t (λ k h. each k (rw rows at h))

-- and ours say ours
pub ours_back : table_of (table_numbers flag_table) ≡ flag_table
unfolding table_of flag_table
ours_back = refl

pub ours_width : length (table_numbers flag_table) ≡ table_width
unfolding flag_table
ours_width = refl
