-- A component line as the code is given it, with its end, says the same as the line of the text.
use Prim.Native.Nat.{ℕ, ◌+◌, ◌-◌, ◌*◌, ◌/◌, ◌≤◌, ◌<◌}
use mathlib.Core.Path.{◌≡◌, refl, sym, ap, ap₂, ◌∙◌}
use mathlib.Core.Bool.{not}
use mathlib.Core.List.{List, ◌++◌}
use native.Mathlib.Nat.{add-sub_cancel_left, mul-div_cancel}
use native.Mathlib.Omega.{arith}
use lib.ListN.{length, take, drop, length-drop}
use lib.Seq.{length-take-le, get_or-take, take-take, drop-drop}
use Rattle.sequences.proofs.Below.{first_same}
use Rattle.sequences.proofs.Stretch.{part_within, within}
use Rattle.sequences.proofs.Chunks.{ChunksFrom, chunk_room, chunk_is, chunk_some, chunks_end}
use Rattle.flags.specs.Table.{FlagTable}
use Rattle.layout.specs.Components.{component_numbers}
use Rattle.text_rules.specs.declared.Column.{Column}
use Rattle.text_rules.specs.Tables.{TextForm, column_at}
use Rattle.text_rules.specs.Columns.{Content, column_start, column_width, line_width, line_pitch, holds_text, is_text, is_cell, cell_of, part_of}
use Rattle.text_rules.specs.Columns.{flag_of, content_of, content_by, wrong_cell, column_fault, cell_read, numbers_read}
use Rattle.sequences.specs.Below.{join_below}
use Rattle.text_rules.specs.Reading.{body_start, row_start, row_count, row_of}
use Rattle.text_rules.proofs.Tables.{end_line}
use Rattle.text_lines.proofs.Standing.{pitch_line}
use Rattle.list_rules.specs.declared.ListColumn.{ListColumn}
use Rattle.list_rules.specs.declared.ListColumn.TheVariants as columns
use Rattle.list_rules.specs.Places.{column_place}
use Rattle.list_rules.specs.Shanghai.{shanghai, shanghai_shape, shanghai_columns, shanghai_lines, flag_column}
use Rattle.list_rules.specs.Reading.{line_component}
use Rattle.list_rows.specs.Rows.{rows_of}
use Rattle.list_rows.proofs.Rows.{column_there}

-- Of a line only the bytes of its width count.

module _ (t : TextForm) (there : t.flag_at < length t.columns) (l : List ℕ) where
  abbrev line : List ℕ
  line = take (line_width t.columns) l

  flag_taken : flag_of t line ≡ flag_of t l
  unfolding flag_of
  flag_taken = ap (λ (n : ℕ). n - 48) (get_or-take (line_width t.columns) l (column_start t.columns t.flag_at) 0 (omega (arith, end_line t.columns t.flag_at there)))

  module _ (k : ℕ) (h : k < length t.columns) where
    part_taken : part_of t.columns k line ≡ part_of t.columns k l
    unfolding part_of
    part_taken = part_within (column_start t.columns k) (column_width t.columns k) (line_width t.columns) l (omega (arith, end_line t.columns k h))

    content_taken : content_of t line k ≡ content_of t l k
    unfolding content_of
    content_taken = ap (λ (flag : ℕ). content_by t.flags flag (column_at t.columns k).used) flag_taken

    wrong_taken : wrong_cell t line k ≡ wrong_cell t l k
    unfolding wrong_cell
    wrong_taken = ap₂ (λ (x : Content) (s : List ℕ). not (is_cell x (column_at t.columns k) s)) content_taken part_taken

    read_taken : cell_read t line k ≡ cell_read t l k
    unfolding cell_read
    read_taken = ap₂ (λ (x : Content) (s : List ℕ). cell_of x (column_at t.columns k) s) content_taken part_taken

  fault_taken : column_fault t line ≡ column_fault t l
  unfolding column_fault
  fault_taken = first_same _ _ (length t.columns) wrong_taken

-- The numbers of a line are those of its component.

pub numbers_of_component : (t : FlagTable) (l : List ℕ) → numbers_read (shanghai t) l ≡ component_numbers (line_component t l)
unfolding shanghai_columns numbers_read holds_text is_text column_at join_below component_numbers line_component
numbers_of_component t l = refl

flag_there : flag_column < length shanghai_columns
flag_there = column_there columns.Flag

module _ (t : FlagTable) (l : List ℕ) where
  abbrev ours : List ℕ
  ours = take (line_width shanghai_columns) l

  same_number : (column : ListColumn) → cell_read (shanghai t) ours (column_place column) ≡ cell_read (shanghai t) l (column_place column)
  same_number column = read_taken (shanghai t) flag_there l (column_place column) (column_there column)

  same_component : line_component t ours ≡ line_component t l
  unfolding line_component
  same_component =
      rw (same_number columns.Code, same_number columns.Quantity, same_number columns.Flag, same_number columns.Premium, same_number columns.Discount, same_number columns.Amount)

-- The j-th line.

module _ (t : FlagTable) (text : List ℕ) (j : ℕ) (h : j < row_count shanghai_shape text) {row : List ℕ}
    (is : row ≡ take (line_pitch shanghai_columns) (drop (j * line_pitch shanghai_columns) (rows_of text))) where
  row_is : take (line_width shanghai_columns) row ≡ row_of shanghai_shape text j
  unfolding rows_of row_of row_start
  row_is =
      let pitch : ℕ = line_pitch shanghai_columns in
      let width : ℕ = line_width shanghai_columns in
      let less : width ≤ pitch = omega (arith, pitch_line shanghai_columns) in
      ap (take width) is
      ∙ take-take width pitch (drop (j * pitch) _) less
      ∙ part_within (j * pitch) width (row_count shanghai_shape text * pitch) _ (omega (arith, within pitch j (row_count shanghai_shape text) h, pitch_line shanghai_columns))
      ∙ ap (take width) (drop-drop (j * pitch) (body_start shanghai_shape text) text)

  pub row_fault : column_fault (shanghai t) row ≡ column_fault (shanghai t) (row_of shanghai_shape text j)
  row_fault = sym (fault_taken (shanghai t) flag_there row) ∙ ap (column_fault (shanghai t)) row_is

  pub row_component : line_component t row ≡ line_component t (row_of shanghai_shape text j)
  row_component = sym (same_component t row) ∙ ap (line_component t) row_is

-- a line has bytes
pub pitch_some : (cs : List Column) {pitch : ℕ} → pitch ≡ line_pitch cs → 0 < pitch
pitch_some cs e = omega (arith, e, pitch_line cs)

-- all of them, as the code cuts them off
pub lines_cut : {cs : List Column} {pitch start count : ℕ} (text : List ℕ) → cs ≡ shanghai_columns → pitch ≡ line_pitch cs
    → (start ≡ body_start shanghai_shape text) × (count ≡ row_count shanghai_shape text) → take (start + count * pitch - start) (drop start text) ≡ rows_of text
unfolding rows_of
lines_cut {pitch = pitch} {start = start} {count = count} text ours p s = rw (add-sub_cancel_left start (count * pitch), p, ours, s.0, s.1)

-- What is known of a line that the code is given, the j-th.

pub record LineGiven (t : FlagTable) (text row : List ℕ) (j : ℕ) : Type 0 where
  pub low : j < row_count shanghai_shape text
  pub long : line_width shanghai_columns ≤ length row
  pub fault : column_fault (shanghai t) row ≡ column_fault (shanghai t) (row_of shanghai_shape text j)
  pub component : line_component t row ≡ line_component t (row_of shanghai_shape text j)

pub columns_ours : {t : FlagTable} {form : TextForm} {cs : List Column} → form ≡ shanghai_lines t → cs ≡ form.columns → cs ≡ shanghai_columns
columns_ours f m = m ∙ ap (λ (t : TextForm). t.columns) f

pub flags_ours : {t : FlagTable} {form : TextForm} → form ≡ shanghai_lines t → form.flags ≡ t
flags_ours f = ap (λ (t : TextForm). t.flags) f

pub pitch_ours : {t : FlagTable} {form : TextForm} {cs : List Column} {pitch : ℕ} → form ≡ shanghai_lines t → cs ≡ form.columns → pitch ≡ line_pitch cs
    → pitch ≡ line_pitch shanghai_columns
pitch_ours f m p = p ∙ ap line_pitch (columns_ours f m)

module _ (text : List ℕ) {start count : ℕ} (at : (start ≡ body_start shanghai_shape text) × (count ≡ row_count shanghai_shape text))
    (room : start + count * line_pitch shanghai_columns ≤ length text) where
  abbrev pitch : ℕ
  pitch = line_pitch shanghai_columns

  -- how many they are
  lines_many : length (rows_of text) / pitch ≡ count
  unfolding rows_of
  lines_many =
      let long : length (take (row_count shanghai_shape text * pitch) (drop (body_start shanghai_shape text) text)) ≡ row_count shanghai_shape text * pitch =
      length-take-le (row_count shanghai_shape text * pitch) (drop (body_start shanghai_shape text) text) (rw (← at.0, ← at.1) (omega (arith, room, length-drop start text)))
      in
      ap (λ (n : ℕ). n / pitch) long ∙ mul-div_cancel (row_count shanghai_shape text) (omega (arith, pitch_line shanghai_columns)) ∙ sym at.1

  -- the start of a line's part is within the text
  pub line_room : (j : ℕ) → j < row_count shanghai_shape text → start + j * pitch + line_width shanghai_columns ≤ length text
  line_room j h = omega (arith, room, within pitch j count (omega (arith, h, at.1)), pitch_line shanghai_columns)

  module _ {size : ℕ} {rest : List ℕ} {n : ℕ} (v : ChunksFrom (rows_of text) pitch size rest n) where
    pub line_given : (t : FlagTable) (row rest' : List ℕ) → (rest ≡ row ++ rest') × (length row ≡ size) → {j : ℕ} → j ≡ n → LineGiven t text row j
    line_given t row rest' p e =
        let low : n < row_count shanghai_shape text = omega (arith, lines_many, at.1, chunk_some _ _ v (chunk_room _ _ v row rest' p) (pitch_some shanghai_columns refl)) in
        let is = chunk_is _ _ v row rest' p in
        rw e
        (record {
          low = low;
          long = omega (arith, p.1, v.wide, pitch_line shanghai_columns);
          fault = row_fault t text n low is;
          component = row_component t text n low is;
        })

    pub lines_given : length rest < size → n ≡ row_count shanghai_shape text
    lines_given h = omega (arith, chunks_end _ _ v h, lines_many, at.1)
