-- What the contract of writing says.
use Rattle.std.specs.Prelude.{ℕ, ◌≡◌, List, length, Result}
use Rattle.flags.specs.Table.{FlagTable}
use Rattle.rules.specs.declared.Refusal.{Refusal}
use Rattle.rules.specs.Replies.{count_answer_reply}
use Rattle.list_rules.specs.Writing.{Listing, write_reply, output_after}

-- what writing a list into a lent output answers under a flag table, and what it leaves of the output
pub record WriteOutcome (t : FlagTable) (l : Listing) (output : List ℕ) (r : Result ℕ Refusal) (output' : List ℕ) : Type 0 where
  pub answer_is : count_answer_reply r ≡ write_reply t l (length output)
  pub output_is : output' ≡ output_after t l output
