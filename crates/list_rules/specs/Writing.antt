-- "Writing" in the Shanghai form, under a flag table: a list, its text as one list of bytes, and the tests 21, 1, 2, 3 and 16 in this order.
use Rattle.std.specs.Prelude.{ℕ, ◌*◌, min, Bool, not, ◌&&◌, List, [], ◌∷◌, ◌++◌, ltb, eqb, length}
use Rattle.sequences.specs.Below.{first_below}
use Rattle.sequences.specs.Every.{every, inside}
use Rattle.sequences.specs.Checks.{Check, check, Reply, answered}
use Rattle.sequences.specs.Stretch.{stretch_of}
use Rattle.flags.specs.Table.{FlagTable}
use Rattle.layout.specs.Components.{component_at, places_of}
use Rattle.fund.specs.Components.{component_fault}
use Rattle.layout.specs.Places.{component_width, most_components}
use Rattle.rules.specs.Opening.{table_checks}
use Rattle.rules.specs.Replies.{if_accepted}
use Rattle.digits.specs.Written.{put}
use Rattle.lines.specs.Lines.{name_byte, all_bytes}
use Rattle.text_rules.specs.Head.{is_letters}
use Rattle.text_rules.specs.Writing.{Sheet, sheet_text}
use Rattle.list_rules.specs.declared.ListFields.{ListFields}
use Rattle.list_rules.specs.declared.Listing.{Listing as LentListing}
use Rattle.list_rules.specs.Shanghai.{shanghai, name_width}
use Rattle.list_rules.specs.Fields.{figure_at, fields_in_range}

-- a list: its fields, its run of components, its names, eight bytes each, and the letters of its first line
pub record Listing : Type 0 where
  pub fields : ListFields
  pub run : List ℕ
  pub names : List ℕ
  pub letters : List ℕ

abbrev pub listing : ListFields → List ℕ → List ℕ → List ℕ → Listing
listing fields run names letters = record { fields = fields; run = run; names = names; letters = letters }

-- a list that the code is lent has its run, its names and its letters by reference
abbrev pub listed : LentListing → Listing
listed l = listing l.fields l.run.now l.names.now l.letters.now

unfoldable pub name_at : List ℕ → ℕ → List ℕ
name_at names j = stretch_of name_width names j

-- ---- the text
unfoldable pub sheet_of : Listing → Sheet
sheet_of l =
    record {
      letters = l.letters;
      figure = figure_at l.fields;
      count = l.fields.count;
      run = l.run;
      texts = l.names;
    }

unfoldable pub text_of : FlagTable → Listing → List ℕ
text_of t l = sheet_text (shanghai t) (sheet_of l)

-- ---- the tests
unfoldable pub sizes_fit : Listing → Bool
sizes_fit l =
    every
    (inside 1 most_components l.fields.count
    ∷ eqb (length l.run) (component_width * l.fields.count)
    ∷ eqb (length l.names) (name_width * l.fields.count)
    ∷ [])

-- the first name with a byte that no name has, their count where there is none
unfoldable pub name_fault : List ℕ → ℕ → ℕ
name_fault names n = first_below (λ j. not (all_bytes name_byte (name_at names j))) n

-- the first component at fault, by its numbers or by its name
unfoldable pub write_fault : FlagTable → Listing → ℕ
write_fault t l =
    min
    (component_fault t l.fields.fund.first_code (places_of (component_at l.run) l.fields.count) l.fields.count)
    (name_fault l.names l.fields.count)

unfoldable pub list_checks : FlagTable → Listing → List Check
list_checks t l =
    table_checks t
    ++ (check (not (sizes_fit l)) 1 0
    ∷ check (not (fields_in_range l.fields && is_letters l.letters)) 2 0
    ∷ check (ltb (write_fault t l) l.fields.count) 3 (write_fault t l)
    ∷ [])

-- into a lent output of so many bytes
unfoldable pub write_checks : FlagTable → Listing → ℕ → List Check
write_checks t l room = list_checks t l ++ (check (ltb room (length (text_of t l))) 16 0 ∷ [])

unfoldable pub write_reply : FlagTable → Listing → ℕ → Reply
write_reply t l room = answered (write_checks t l room) (length (text_of t l))

-- the output after: the text from its first byte on, and what is past it stays
unfoldable pub output_after : FlagTable → Listing → List ℕ → List ℕ
output_after t l output = if_accepted (write_reply t l (length output)) (put output 0 (text_of t l)) output
