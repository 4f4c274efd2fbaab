-- `lines::is_named` meets its contract: the library's test of the name is of its letters in lower case.
use Rattle.std.proofs.Common.{rules}
use Rattle.sequences.specs.Every.{every}
use Rattle.lines.specs.Lines.{is_named}
use Rattle.lines.proofs.Turns.{same_letters}
use Rattle.lines.proofs.is_named.Goals as goal

pub returns-then-line-n-eq61 : goal.returns-then-line-n-eq61
unfolding is_named every
returns-then-line-n-eq61 c = let letters = same_letters _ _ _ c.eq_ignore_ascii_case.ensures.test in search rules
