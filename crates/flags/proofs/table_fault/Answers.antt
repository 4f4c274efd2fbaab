-- `flags::table_fault` meets its contract: the row that the search finds is the first that does not fit.
use mathlib.Core.Path.{◌∙◌}
use mathlib.Core.Bool.{not}
use mathlib.Core.List.{List, []}
use Prim.Native.Nat.{ℕ}
use Rattle.std.proofs.Common.{rules, tests}
use Rattle.std.proofs.lemmas.Iterator.{YieldsList-from_slice}
use Rattle.std.proofs.lemmas.Iterator.Search.{position_from_yields_List}
use Rattle.sequences.proofs.Lists.{position_below}
use Rattle.flags.specs.Table.{flag_count, row_fits, table_fault}
use Rattle.flags.proofs.table_fault.Goals as goal

pub returns : goal.returns
unfolding table_fault
returns c =
    let rows = c.args.table.now in
    let wrong = λ (row : List ℕ). not (row_fits row) in
    position_from_yields_List wrong _ _ c.position.result c.position.ensures.ran (YieldsList-from_slice rows cc) (λ x b q k. search (rules, tests))
    ∙ position_below wrong rows [] flag_count c.told-table
