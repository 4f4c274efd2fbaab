-- `order_form::limits_held` meets its contract: the ceiling bounds the sums, and what both `&&` say is the definition's.
use mathlib.Core.Path.{◌≡◌, refl, sym, ◌∙◌}
use mathlib.Core.Bool.{true, false}
use Prim.Native.Nat.{◌+◌}
use native.Mathlib.Omega.{arith}
use lib.Dec.{leb}
use borrow.Author.Tests.{le-leb}
use Rattle.std.proofs.lemmas.Bool.Decides.{nat_tests}
use Rattle.fund.specs.Fund.{ceiling}
use Rattle.order_form.proofs.Laws.{all_fits, own_fits, limits_are}
use Rattle.order_form.proofs.limits_held.Goals.{then-within_both, else-within_both}
use Rattle.order_form.proofs.limits_held.Goals as goal

pub within_both-requires : goal.within_both-requires
within_both-requires c = all_fits _ _ _ _ _ c.units_of_all-all.ensures c.requires.countable c.requires.units_bound.1

pub overflow_add-under_ceiling : goal.overflow_add-under_ceiling
overflow_add-under_ceiling c = omega (arith, all_fits _ _ _ _ _ c.units_of_all-all.ensures c.requires.countable c.requires.units_bound.1)

pub within_both-requires-then-under_ceiling : goal.within_both-requires-then-under_ceiling
within_both-requires-then-under_ceiling c =
    own_fits _ _ _ _ _ _ c.units_of-own.ensures c.requires.countable c.requires.units_bound.0 c.requires.units_bound.1

pub returns-then-under_ceiling : goal.returns-then-under_ceiling
returns-then-under_ceiling c =
    let limits = limits_are _ _ c.args.ask _ _ c.units_of_all-all.ensures c.units_of-own.ensures in
    c.within_both-then-under_ceiling.ensures
    ∙ limits true true (sym c.if-under_ceiling.true.0 ∙ c.within_both.ensures) (sym (le-leb _ _ (omega (arith, c.if-under_ceiling.true.1))))

pub returns-else-under_ceiling : goal.returns-else-under_ceiling
returns-else-under_ceiling c =
    let limits = limits_are _ _ c.args.ask _ _ c.units_of_all-all.ensures c.units_of-own.ensures in
    elim c.if-within_both.branch [
      | then-within_both w ↦
          let past : leb (c.units_of_all-all.result.made + c.args.ask.units) ceiling ≡ false =
          grind (arith, nat_tests, c.if-under_ceiling.either, w.if-within_both.true) in
          w.t-11-is ∙ grind (arith, nat_tests, past) ∙ limits true false (sym w.if-within_both.true ∙ c.within_both.ensures) (sym past)
      | else-within_both w ↦ w.t-11-is ∙ w.if-within_both.false ∙ limits false _ (sym w.if-within_both.false ∙ c.within_both.ensures) refl
    ]
