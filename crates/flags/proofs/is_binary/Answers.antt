-- `flags::is_binary` meets its contract: every number passes where the number of each column does.
use mathlib.Core.Path.{◌∙◌}
use Prim.Native.Nat.{ℕ}
use lib.Dec.{leb}
use Rattle.std.proofs.Common.{rules, tests}
use Rattle.std.proofs.lemmas.Iterator.{YieldsList-from_slice}
use Rattle.std.proofs.lemmas.Iterator.Search.{all_from_yields_List}
use Rattle.sequences.proofs.Lists.{all_list}
use Rattle.flags.specs.Table.{flag_columns, is_binary}
use Rattle.flags.proofs.is_binary.Goals as goal

pub returns : goal.returns
unfolding is_binary
returns c =
    let row = c.args.row.now in
    all_from_yields_List (λ (x : ℕ). leb x 1) _ _ c.all.result c.all.ensures.ran (YieldsList-from_slice row cc) (λ x b q k. search (rules, tests))
    ∙ all_list (λ (x : ℕ). leb x 1) row 0 flag_columns c.told-row
