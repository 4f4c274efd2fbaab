-- Bytes written to a run behind what was written before.
use Rattle.std.specs.Prelude.{ℕ, ◌+◌, ◌≤◌, List, length}
use Rattle.digits.specs.Written.{put}
use Rattle.text_head_writing.specs.declared.Out.{Out}

-- they have room in the run from its next free place on
pub record Fits (xs : List ℕ) (o : Out) : Type 0 where
  pub room : o.at + length xs ≤ length o.run.now

-- the run with them there, and the next free place behind them
abbrev pub wrote : List ℕ → Out → Out
wrote xs o = record o { run = record o.run { now = put o.run.now o.at xs }; at = o.at + length xs }
