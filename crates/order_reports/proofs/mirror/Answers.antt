use mathlib.Core.Path.{refl}
use Rattle.sequences.specs.Below.{tabulate}
use Rattle.layout.specs.Laid.{laid}
use Rattle.order_reports.proofs.Laws.{mirrored_more}
use Rattle.order_reports.proofs.mirror.Goals as goal

pub loop-k-init : goal.loop-k-init
unfolding tabulate laid
loop-k-init c = refl

pub loop-k-preserved : goal.loop-k-preserved
loop-k-preserved c = mirrored_more _ _ _ _ _ _ _ c.loop-k.invariant c.report_at-r.ensures c.opposite.ensures c.put_report.ensures
