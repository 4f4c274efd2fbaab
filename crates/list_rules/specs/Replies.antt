-- The paper's number, place and value for the answer of reading, with the count of components.
use Rattle.std.specs.Prelude.{Result, Ok, Err}
use Rattle.sequences.specs.Checks.{Reply, reply}
use Rattle.rules.specs.declared.Refusal.{Refusal}
use Rattle.rules.specs.Replies.{refusal_reply}
use Rattle.list_rules.specs.declared.ListRead.{ListRead}

abbrev pub read_answer_reply : Result ListRead Refusal → Reply
read_answer_reply (Ok read) = reply 0 0 read.fields.count
read_answer_reply (Err why) = refusal_reply why
