-- `lines::has_no_return` meets its contract: the search finds no 0D.
use Rattle.std.proofs.Common.{◌∙◌, not, ap}
use Rattle.lines.proofs.Turns.{none_found}
use Rattle.lines.proofs.has_no_return.Goals as goal

pub returns : goal.returns
returns c = ap not c.contains.ensures.value ∙ none_found c.args.s.now
