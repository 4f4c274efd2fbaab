-- The reply of reading, test by test: where a test fails its refusal is the answer, if all before it passed.
use Prim.Native.Nat.{ℕ, ◌*◌}
use mathlib.Core.Path.{◌≡◌, sym, ◌∙◌}
use mathlib.Core.Bool.{Bool, true, false, not, ◌&&◌}
use mathlib.Core.List.{List, [], ◌∷◌, ◌++◌}
use lib.Dec.{leb, ltb}
use lib.ListN.{length}
use Rattle.sequences.specs.Checks.{Check, check, reply, answering, answered, passes}
use Rattle.sequences.proofs.Checks.{passed_all, passes_all, answered_next, answered_stop}
use Rattle.flags.specs.Table.{FlagTable, flag_count, table_fault}
use Rattle.layout.specs.Places.{component_width}
use Rattle.rules.specs.Opening.{table_checks}
use Rattle.rules.proofs.SoundDay.{table_passed}
use Rattle.text_rules.specs.Reading.{body_start, row_count, shape_checks, wrong_field, field_start, wrong_row, column_place, field_checks, figure_read}
use Rattle.list_rules.specs.Shanghai.{shanghai, shanghai_shape, shanghai_fields, creation_code_field}
use Rattle.list_rules.specs.Fields.{fields_in_range}
use Rattle.list_rules.specs.Reading.{fields_read, is_counted, read_fault, range_checks, read_checks, read_reply}

-- the tests of 19, of the head and of the component lines
abbrev pub field_wrong : List ℕ → Bool
field_wrong text = ltb (wrong_field shanghai_fields text) (length shanghai_fields)

module _ (t : FlagTable) (text : List ℕ) where
  abbrev pub row_wrong : Bool
  row_wrong = ltb (wrong_row (shanghai t) text) (row_count shanghai_shape text)

  pub field_facts : passes (field_checks (shanghai t) text) ≡ true → (field_wrong text ≡ false) × (row_wrong ≡ false)
  unfolding field_checks row_count body_start
  field_facts e = let p = passed_all (field_checks (shanghai t) text) e in (p.0, p.1.0)

  pub fields_pass : field_wrong text ≡ false → row_wrong ≡ false → passes (field_checks (shanghai t) text) ≡ true
  unfolding field_checks row_count body_start
  fields_pass a b = passes_all (field_checks (shanghai t) text) (a, (b, tt))

  -- the tests of 20 and 2
  abbrev count_wrong : Bool
  count_wrong = not (is_counted (fields_read text).count (row_count shanghai_shape text))

  abbrev range_wrong : Bool
  range_wrong = not (leb 1 (figure_read shanghai_fields text creation_code_field).size && fields_in_range (fields_read text))

  -- the test of 3
  abbrev fault_below : Bool
  fault_below = ltb (read_fault t text) (row_count shanghai_shape text)

  module _ (room : ℕ) where
    -- the test of 16
    abbrev room_wrong : Bool
    room_wrong = ltb room (component_width * row_count shanghai_shape text)

    abbrev room_checks : List Check
    room_checks = check room_wrong 16 0 ∷ []

    pub reply_21 : ltb (table_fault t) flag_count ≡ true → reply 21 (table_fault t) 0 ≡ read_reply t text room
    unfolding read_reply read_checks table_checks answering
    reply_21 e = rw e

    module _ (loads : table_fault t ≡ flag_count) where
      -- past 21
      past_table : read_reply t text room
          ≡ answered (shape_checks shanghai_shape text ++ (field_checks (shanghai t) text ++ (range_checks t text ++ room_checks))) (row_count shanghai_shape text)
      unfolding read_reply read_checks
      past_table = answered_next (table_checks t) _ _ (passes_all (table_checks t) (table_passed t loads))

      pub reply_18 : passes (shape_checks shanghai_shape text) ≡ false → read_reply t text room ≡ answered (shape_checks shanghai_shape text) 0
      reply_18 e = past_table ∙ answered_stop (shape_checks shanghai_shape text) _ _ _ e

      module _ (s : passes (shape_checks shanghai_shape text) ≡ true) where
        -- past 18
        past_shape : read_reply t text room ≡ answered (field_checks (shanghai t) text ++ (range_checks t text ++ room_checks)) (row_count shanghai_shape text)
        past_shape = past_table ∙ answered_next (shape_checks shanghai_shape text) _ _ s

        pub reply_19_field : field_wrong text ≡ true → reply 19 (field_start shanghai_fields text (wrong_field shanghai_fields text)) 0 ≡ read_reply t text room
        unfolding field_checks answering
        reply_19_field e = sym (past_shape ∙ rw e)

        pub reply_19_row : field_wrong text ≡ false → row_wrong ≡ true → reply 19 (column_place (shanghai t) text (wrong_row (shanghai t) text)) 0 ≡ read_reply t text room
        unfolding field_checks answering row_count body_start
        reply_19_row a e = sym (past_shape ∙ rw (a, e))

        module _ (f : passes (field_checks (shanghai t) text) ≡ true) where
          -- past 19
          past_fields : read_reply t text room ≡ answered (range_checks t text ++ room_checks) (row_count shanghai_shape text)
          past_fields = past_shape ∙ answered_next (field_checks (shanghai t) text) _ _ f

          pub reply_20 : count_wrong ≡ true → reply 20 0 0 ≡ read_reply t text room
          unfolding range_checks answering
          reply_20 e = sym (past_fields ∙ rw e)

          pub reply_2 : count_wrong ≡ false → range_wrong ≡ true → reply 2 0 0 ≡ read_reply t text room
          unfolding range_checks answering
          reply_2 a e = sym (past_fields ∙ rw (a, e))

          module _ (a : count_wrong ≡ false) (b : range_wrong ≡ false) where
            pub reply_3 : fault_below ≡ true → reply 3 (read_fault t text) 0 ≡ read_reply t text room
            unfolding range_checks answering
            reply_3 e = sym (past_fields ∙ rw (a, b, e))

            module _ (c : fault_below ≡ false) where
              pub reply_16 : room_wrong ≡ true → reply 16 0 0 ≡ read_reply t text room
              unfolding range_checks answering
              reply_16 e = sym (past_fields ∙ rw (a, b, c, e))

              pub reply_0 : room_wrong ≡ false → reply 0 0 (row_count shanghai_shape text) ≡ read_reply t text room
              unfolding range_checks answering
              reply_0 e = sym (past_fields ∙ rw (a, b, c, e))
