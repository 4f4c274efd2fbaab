-- `opening::line_over` meets its contract: the place that the search finds is the first that passes.
use mathlib.Core.Path.{refl}
use lib.ListN.{length}
use Rattle.std.proofs.Common.{ℕ, ltb, ◌∙◌, rules, tests}
use Rattle.std.proofs.lemmas.Iterator.{YieldsList-from_slice}
use Rattle.std.proofs.lemmas.Iterator.Search.{position_from_yields_List}
use Rattle.rules.specs.Opening.{most_of_line}
use Rattle.sequences.proofs.Lists.{position_below}
use Rattle.opening.proofs.line_over.Goals as goal

pub returns : goal.returns
returns c =
    let lines = c.args.lines.now in
    position_from_yields_List (λ (x : ℕ). ltb most_of_line x) _ _ c.position.result c.position.ensures.ran (YieldsList-from_slice lines cc) (λ x b q k. search (rules, tests))
    ∙ position_below (λ x. ltb most_of_line x) lines 0 (length lines) refl
