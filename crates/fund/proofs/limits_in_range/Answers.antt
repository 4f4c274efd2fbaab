-- `fund::limits_in_range` meets its contract: every limit passes where the limit at each of their places does.
use mathlib.Core.Path.{◌∙◌}
use Rattle.std.proofs.Common.{rules, tests}
use Rattle.std.proofs.lemmas.Iterator.{YieldsList-from_slice}
use Rattle.std.proofs.lemmas.Iterator.Search.{all_from_yields_List}
use Rattle.sequences.proofs.Lists.{all_list}
use Rattle.layout.specs.Places.{limit_count}
use Rattle.fund.specs.Fund.{limit_in_range, limits_in_range}
use Rattle.fund.proofs.limits_in_range.Goals as goal

pub returns : goal.returns
unfolding limits_in_range
returns c =
    let a = c.args in
    all_from_yields_List (limit_in_range a.size) _ _ c.all.result c.all.ensures.ran (YieldsList-from_slice a.limits cc) (λ x b q k. search (rules, tests))
    ∙ all_list (limit_in_range a.size) a.limits 0 limit_count (search rules)
