-- "Our five rows are the table when none is given": under our table opening, refusal 5, the reference value and orders are as they
-- were before a day held a table, with document 01's five rows.
use Rattle.std.specs.Prelude.{ℕ, ◌≡◌, ◌<◌, List, ltb}
use Rattle.flags.specs.Table.{flag_table, table_numbers, entry, in_use}
use Rattle.fund.specs.Components.{component_fault}
use Rattle.layout.specs.declared.Component.{Component}
use Rattle.layout.specs.Day.{Day}
use Rattle.rules.specs.Lent.{Lent, rooms_in}
use Rattle.rules.specs.Opening.{Opening, opening_reply, opened_day}
use Rattle.rules.specs.Sound.{is_sound}
use Rattle.rules.specs.Value.{value_reply}
use Rattle.rules.specs.Creation.{creation_reply, created_book, created_lists}
use Rattle.rules.specs.Redemption.{redemption_reply, redeemed_book, redeemed_lists}
use Rattle.five_flags.specs.Rows.{five_flags, six_columns, five_entry}
use Rattle.five_flags.specs.Columns.{table_columns, five_columns}
use Rattle.five_flags.specs.Orders.{Outcome, value, creation, redemption}
use Rattle.five_flags.specs.Sound as before

-- the outcomes of the two orders, by the definitions of crate rules
abbrev pub created : Day → List ℕ → List ℕ → ℕ → ℕ → Lent → Outcome
created d b ps a units lent =
    record {
      answer = creation_reply d b ps a units (rooms_in lent);
      book = created_book d b ps a units (rooms_in lent);
      lists = created_lists d b ps a units lent;
    }

abbrev pub redeemed : Day → List ℕ → List ℕ → ℕ → ℕ → Lent → Outcome
redeemed d b ps a units lent =
    record {
      answer = redemption_reply d b ps a units (rooms_in lent);
      book = redeemed_book d b ps a units (rooms_in lent);
      lists = redeemed_lists d b ps a units lent;
    }

-- ---- under any table: value and orders follow the columns
abbrev pub ValueFollows : Type 0
ValueFollows = (d : Day) (b ps : List ℕ) → value_reply d b ps ≡ value d (table_columns d) (is_sound d b ps) ps

abbrev pub CreationFollows : Type 0
CreationFollows =
    (d : Day) (b ps : List ℕ) (a units : ℕ) (lent : Lent)
    → created d b ps a units lent ≡ creation d (table_columns d) (is_sound d b ps) b ps a units lent

abbrev pub RedemptionFollows : Type 0
RedemptionFollows =
    (d : Day) (b ps : List ℕ) (a units : ℕ) (lent : Lent)
    → redeemed d b ps a units lent ≡ redemption d (table_columns d) (is_sound d b ps) b a units lent

-- ---- our table: its columns are document 01's, of every flag, and just the flags 0 to 4 are in use
abbrev pub OurColumns : Type 0
OurColumns = (flag column : ℕ) → column < six_columns → entry flag_table flag column ≡ five_entry flag column

abbrev pub OurFlags : Type 0
OurFlags = (flag : ℕ) → entry flag_table flag in_use ≡ ltb flag five_flags

-- ---- our table at opening: the day holds it, and the answer is as before, so never 21
abbrev pub OpeningAsBefore : Type 0
OpeningAsBefore =
    (o : Opening) → o.table ≡ table_numbers flag_table
    → ((opened_day o).table ≡ flag_table) × (opening_reply o ≡ before.opening_reply o)

-- ---- under our table: refusals 3 and 5, the reference value, creation and redemption
abbrev pub ComponentsAsBefore : Type 0
ComponentsAsBefore =
    (g : ℕ) (cs : List Component) (n : ℕ) → component_fault flag_table g cs n ≡ before.component_fault g cs n

abbrev pub SoundAsBefore : Type 0
SoundAsBefore = (d : Day) → d.table ≡ flag_table → (b ps : List ℕ) → is_sound d b ps ≡ before.is_sound d b ps

abbrev pub ValueAsBefore : Type 0
ValueAsBefore =
    (d : Day) → d.table ≡ flag_table
    → (b ps : List ℕ) → value_reply d b ps ≡ value d (five_columns d) (before.is_sound d b ps) ps

abbrev pub CreationAsBefore : Type 0
CreationAsBefore =
    (d : Day) → d.table ≡ flag_table → (b ps : List ℕ) (a units : ℕ) (lent : Lent)
    → created d b ps a units lent ≡ creation d (five_columns d) (before.is_sound d b ps) b ps a units lent

abbrev pub RedemptionAsBefore : Type 0
RedemptionAsBefore =
    (d : Day) → d.table ≡ flag_table → (b ps : List ℕ) (a units : ℕ) (lent : Lent)
    → redeemed d b ps a units lent ≡ redemption d (five_columns d) (before.is_sound d b ps) b a units lent
