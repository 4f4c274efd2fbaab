-- `units::ReferenceValue::ratio_bound` meets its contract: `split` joins the two halves.
use Prim.Native.Nat.{◌*◌}
use native.Mathlib.Nat.{add-zero}
use lib.Dec.{lit<}
use Rattle.units.specs.Units.{ratio_bound}
use Rattle.units.proofs.Laws.{split}
use Rattle.units.proofs.ReferenceValue.ratio_bound.Goals as goal

pub returns : goal.returns
unfolding ratio_bound
returns c =
    simp add-zero
    at (split 1_000_000 (c.args.baskets * c.args.size * c.args.self.0) c.args.ratio.0 0 (lit< tt))
