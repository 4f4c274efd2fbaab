-- What is lent to an order: three runs of numbers, and how many records and reports they take.
use Rattle.std.specs.Prelude.{ℕ, Bool, not, List, [], ◌∷◌, map, leb, length}
use Rattle.sequences.specs.Every.{every}
use Rattle.layout.specs.Places.{record_width, report_width}
use Rattle.layout.specs.Laid.{room_of}
use Rattle.layout.specs.declared.Record.{Record}
use Rattle.layout.specs.declared.Report.{Report}
use Rattle.layout.specs.Records.{with_records}
use Rattle.layout.specs.Reports.{with_reports}
use Rattle.rules.specs.declared.Rooms.{Rooms}
use Rattle.rules.specs.declared.Counts.{Counts}
use Rattle.rules.specs.Reports.{opposite}

-- the records, the investor's reports and the fund's
pub record Lent : Type 0 where
  pub records : List ℕ
  pub investor : List ℕ
  pub fund : List ℕ

abbrev pub lent_of : List ℕ → List ℕ → List ℕ → Lent
lent_of records investor fund = record { records = records; investor = investor; fund = fund }

-- the rooms of runs of such lengths, and of those lent
abbrev pub rooms_of : ℕ → ℕ → ℕ → Rooms
rooms_of records investor fund =
    record { records = room_of record_width records; investor = room_of report_width investor; fund = room_of report_width fund }

unfoldable pub rooms_in : Lent → Rooms
rooms_in lent = rooms_of (length lent.records) (length lent.investor) (length lent.fund)

-- how many records and reports an order makes of each list
abbrev pub counts_of : List Record → List Report → Counts
counts_of records reports = record { records = length records; reports = length reports }

-- any of the three lists is too short
unfoldable pub too_short : Rooms → Counts → Bool
too_short rooms counts =
    not
    (every (leb counts.records rooms.records ∷ leb counts.reports rooms.investor ∷ leb counts.reports rooms.fund ∷ []))

-- the lists with an order's records and the investor's reports written; the fund's reports are these with all sides opposite
unfoldable pub with_order : List Record → List Report → Lent → Lent
with_order records reports lent =
    lent_of (with_records records lent.records) (with_reports reports lent.investor) (with_reports (map opposite reports) lent.fund)
