-- What the contract of reading says.
use Rattle.std.specs.Prelude.{◌≡◌, List, ℕ, length, Result, IfOk}
use Rattle.flags.specs.Table.{FlagTable}
use Rattle.rules.specs.declared.Refusal.{Refusal}
use Rattle.text_rules.specs.Reading.{body_start}
use Rattle.list_rules.specs.declared.ListRead.{ListRead}
use Rattle.list_rules.specs.Shanghai.{shanghai_shape}
use Rattle.list_rules.specs.Replies.{read_answer_reply}
use Rattle.list_rules.specs.Reading.{fields_read, read_reply, fields_handed, first_handed, run_after}

-- what an accepted reading into a run of so many numbers hands back: the text's fields, and where its component lines start. Both again by
-- the words of what is handed back: `NamesHanded` and the vectors speak by these
pub record Handed (t : FlagTable) (text : List ℕ) (room : ℕ) (read : ListRead) : Type 0 where
  pub fields_is : read.fields ≡ fields_read text
  pub first_is : read.first_row ≡ body_start shanghai_shape text
  pub fields_handed_is : read.fields ≡ fields_handed t text room
  pub first_handed_is : read.first_row ≡ first_handed t text room

-- what reading a text into a lent run answers under a flag table, and what it leaves of the run
pub record ReadOutcome (t : FlagTable) (text run : List ℕ) (r : Result ListRead Refusal) (run' : List ℕ) : Type 0 where
  pub answer_is : read_answer_reply r ≡ read_reply t text (length run)
  pub handed : IfOk r (Handed t text (length run))
  pub run_is : run' ≡ run_after t text run
