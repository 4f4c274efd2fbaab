-- The lists of records and reports that an order leaves.
use Rattle.std.specs.Prelude.{ℕ, List, map}
use Rattle.layout.specs.Day.{Day}
use Rattle.layout.specs.declared.Record.{Record}
use Rattle.layout.specs.Records.{at_front}
use Rattle.layout.specs.Reports.{with_reports}
use Rattle.rules.specs.declared.Ask.{Ask}
use Rattle.rules.specs.declared.Rooms.{Rooms}
use Rattle.rules.specs.Replies.{if_accepted}
use Rattle.rules.specs.Reports.{opposite}
use Rattle.rules.specs.Kinds.{asked_reply, records_of, reports_of}

-- where accepted, the records at its front; places past the last stay
unfoldable pub made_records : Day → List ℕ → List ℕ → Ask → Rooms → List Record → List Record
made_records d b ps ask rooms list = if_accepted (asked_reply d b ps ask rooms) (at_front (records_of d b ps ask) list) list

-- and the reports to the investor and to the fund, at the front of theirs
unfoldable pub made_reports : Day → List ℕ → List ℕ → Ask → Rooms → List ℕ → List ℕ → List ℕ × List ℕ
made_reports d b ps ask rooms investor fund =
    if_accepted (asked_reply d b ps ask rooms) (with_reports (reports_of d b ps ask) investor, with_reports (map opposite (reports_of d b ps ask)) fund)
    (investor, fund)
