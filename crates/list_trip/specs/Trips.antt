-- The round trips of the list text under one flag table, whichever it is: a list that is written reads back as itself, and a text that
-- is read is written again but for the case of the names of its fields.
use Rattle.std.specs.Prelude.{ℕ, ◌*◌, ◌≤◌, ◌<◌, ◌≡◌, true, List, length, take}
use Rattle.sequences.specs.Below.{join_below}
use Rattle.sequences.specs.Checks.{reply, is_accepted, passes}
use Rattle.flags.specs.Table.{FlagTable}
use Rattle.layout.specs.Places.{component_width, limit_count}
use Rattle.layout.specs.Components.{component_at}
use Rattle.text_rules.specs.Reading.{row_count, row_of, letters_read}
use Rattle.text_trip.specs.Trips.{renamed}
use Rattle.list_rules.specs.Shanghai.{shanghai_shape}
use Rattle.list_rules.specs.Reading.{fields_read, components_run, line_component, read_reply, first_handed, name_read, name_from}
use Rattle.list_rules.specs.Writing.{Listing, listing, list_checks, text_of, write_reply, output_after}

-- the names of a text's components, joined from the parts that are handed back
unfoldable pub names_read : List ℕ → List ℕ
names_read text = join_below (name_read text) (row_count shanghai_shape text)

-- the list that a text says
unfoldable pub list_read : FlagTable → List ℕ → Listing
list_read t text = listing (fields_read text) (components_run t text) (names_read text) (letters_read text)

-- each component that is read is what its line says, column by column
abbrev pub ComponentsRead : Type 0
ComponentsRead =
    (t : FlagTable) (text : List ℕ) (j : ℕ) → j < row_count shanghai_shape text
    → component_at (components_run t text) j ≡ line_component t (row_of shanghai_shape text j)

-- a list that no test of writing refuses (its fund has all its limits) reads back as itself, where there is room for its run
abbrev pub WrittenReads : Type 0
WrittenReads =
    (t : FlagTable) (l : Listing) (room : ℕ) → length l.fields.fund.limits ≡ limit_count → passes (list_checks t l) ≡ true → component_width * l.fields.count ≤ room
    → (read_reply t (text_of t l) room ≡ reply 0 0 l.fields.count) × (list_read t (text_of t l) ≡ l)

-- a text that is read: no test of writing refuses its list, what is written is the text but for the case of the names of
-- its fields, and reads back as the same list
abbrev pub ReadWrites : Type 0
ReadWrites =
    (t : FlagTable) (text : List ℕ) (room : ℕ) → is_accepted (read_reply t text room) ≡ true
    → (passes (list_checks t (list_read t text)) ≡ true)
    × (text_of t (list_read t text) ≡ renamed shanghai_shape text)
    × (list_read t (text_of t (list_read t text)) ≡ list_read t text)

-- ---- as users see them

-- the list of a text that is read is written into every output of at least the text's length, as many bytes as the text has
abbrev pub Rewritten : Type 0
Rewritten =
    (t : FlagTable) (text : List ℕ) (room n : ℕ) → is_accepted (read_reply t text room) ≡ true → length text ≤ n
    → write_reply t (list_read t text) n ≡ reply 0 0 (length text)

-- of an output, the bytes that writing answers to have written
unfoldable pub written_in : FlagTable → Listing → List ℕ → List ℕ
written_in t l output = take (write_reply t l (length output)).value (output_after t l output)

-- what writing left in an output reads back as the list that was written
abbrev pub OutputReads : Type 0
OutputReads =
    (t : FlagTable) (l : Listing) (output : List ℕ) (room : ℕ) → length l.fields.fund.limits ≡ limit_count
    → is_accepted (write_reply t l (length output)) ≡ true → component_width * l.fields.count ≤ room
    → (read_reply t (written_in t l output) room ≡ reply 0 0 l.fields.count) × (list_read t (written_in t l output) ≡ l)

-- the names found from where reading says that the component lines start are those of the text, and none past the last
abbrev pub NamesHanded : Type 0
NamesHanded =
    (t : FlagTable) (text : List ℕ) (room j : ℕ) → is_accepted (read_reply t text room) ≡ true
    → name_from text (first_handed t text room) j ≡ name_read text j
