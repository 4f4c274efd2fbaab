-- `lines::is_letters` meets its contract: the test holds at each byte.
use Rattle.std.proofs.Common.{◌∙◌, rules, tests}
use Rattle.std.proofs.lemmas.Iterator.{YieldsList-from_slice}
use Rattle.std.proofs.lemmas.Iterator.Search.{all_from_yields_List}
use Rattle.lines.specs.Lines.{letter_byte}
use Rattle.lines.proofs.Turns.{all_is}
use Rattle.lines.proofs.is_letters.Goals as goal

pub returns : goal.returns
returns c =
    all_from_yields_List letter_byte _ _ c.all.result c.all.ensures.ran (YieldsList-from_slice c.args.s.now cc) (λ x b q k. search (rules, tests))
    ∙ all_is letter_byte c.args.s.now
