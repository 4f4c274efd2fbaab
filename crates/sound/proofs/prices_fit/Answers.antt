-- `sound::prices_fit` meets its contract: every price passes where the price at each place does.
use mathlib.Core.Path.{refl, ◌∙◌}
use Prim.Native.Nat.{ℕ}
use lib.Dec.{leb}
use lib.ListN.{length}
use Rattle.std.proofs.Common.{rules, tests}
use Rattle.std.proofs.lemmas.Iterator.{YieldsList-from_slice}
use Rattle.std.proofs.lemmas.Iterator.Search.{all_from_yields_List}
use Rattle.sequences.proofs.Lists.{all_list}
use Rattle.rules.specs.Lines.{price_of}
use Rattle.rules.specs.Sound.{most_price}
use Rattle.sound.specs.Parts.{price_fits}
use Rattle.sound.proofs.prices_fit.Goals as goal

pub returns : goal.returns
unfolding price_fits price_of
returns c =
    let prices = c.args.prices.now in
    all_from_yields_List (λ (x : ℕ). leb x most_price) _ _ c.all.result c.all.ensures.ran (YieldsList-from_slice prices cc) (λ x b q k. search (rules, tests))
    ∙ all_list (λ (x : ℕ). leb x most_price) prices 0 (length prices) refl
