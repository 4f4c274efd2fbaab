-- `sound::lines_still` meets its contract: every line is asked in order.
use mathlib.Core.Path.{refl, ◌∙◌}
use native.Mathlib.Omega.{arith}
use Rattle.std.proofs.Common.{◌+◌, rules, tests}
use Rattle.std.proofs.lemmas.Iterator.{YieldsList-from_range}
use Rattle.std.proofs.lemmas.Iterator.Search.{all_from_yields_List}
use Rattle.sequences.proofs.Lists.{all_range}
use Rattle.sound.specs.Parts.{line_still}
use Rattle.sound.proofs.lines_still.Goals as goal

pub returns : goal.returns
returns c =
    all_from_yields_List (line_still c.args.book.now) _ _ c.all.result c.all.ensures.ran (YieldsList-from_range 0 (c.args.n + 1) (c.args.n + 1) refl (omega arith)) (λ x b q k. search (rules, tests))
    ∙ all_range (line_still c.args.book.now) (c.args.n + 1)
