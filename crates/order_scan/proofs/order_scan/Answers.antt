use mathlib.Core.Path.{◌≡◌, ◌∙◌}
use mathlib.Core.List.{List}
use lib.ListN.{get_or}
use Prim.Native.Nat.{ℕ, ◌<◌}
use native.Mathlib.Omega.{arith}
use Rattle.flags.specs.Table.{FlagTable}
use Rattle.layout.specs.Components.{blank}
use Rattle.layout.specs.declared.Component.{Component}
use Rattle.layout.specs.Day.{Day}
use Rattle.rules.specs.declared.Kind.{Kind}
use Rattle.rules.specs.Lines.{price_of}
use Rattle.order_lines.specs.Lines.{Effect, order_line}
use Rattle.order_lines.proofs.Laws.{Small, order_small}
use Rattle.order_scan.specs.Lines.{held_of}
use Rattle.order_scan.specs.Ready.{Scannable}
use Rattle.order_scan.proofs.Lines.{order_lines, scan_more, scan_room, scan_is}
use Rattle.order_scan.proofs.order_scan.Goals as goal

pub order_line-requires : goal.order_line-requires
unfolding price_of
order_line-requires c = c.requires.prices c.loop-i.i (omega (arith, c.requires.prices_size))

-- the line of what the turn reads is that of the component at the loop's index
found : (kind : Kind) (i have m : ℕ) (table t : FlagTable) (c : Component) (cs : List Component) (s f ps : List ℕ) (x : Effect) → table ≡ t → c ≡ get_or cs i blank → have ≡ held_of kind s f i
    → x ≡ order_line kind table c have (price_of ps i) m → x ≡ order_lines kind t cs s f ps m i
unfolding order_lines
found kind i have m table t c cs s f ps x lent e h l = rw (l, h, e, lent)

small : (kind : Kind) (d : Day) (s f ps : List ℕ) (m : ℕ) → Scannable d s f ps m → (k : ℕ) → k < d.count → Small (order_lines kind d.table d.components s f ps m k)
unfolding order_lines
small kind d s f ps m r k l = order_small _ _ _ (r.ranges k l) r.baskets _ _ _ (r.prices k l)

pub with_line-t-requires : goal.with_line-t-requires
unfolding price_of
with_line-t-requires c =
    let r = c.requires in
    let here = found _ _ _ _ _ _ _ _ _ _ _ _ c.table-table.ensures c.component.ensures c.held_at.ensures c.order_line.ensures in
    scan_room _ c.args.day.now.count _ _ _ r.count (small _ _ _ _ _ _ r) (omega (arith, r.prices_size)) c.loop-i.invariant here

pub loop-i-preserved : goal.loop-i-preserved
unfolding price_of
loop-i-preserved c =
    c.with_line-t.ensures
    ∙ scan_more _ _ _ _ c.loop-i.invariant (found _ _ _ _ _ _ _ _ _ _ _ _ c.table-table.ensures c.component.ensures c.held_at.ensures c.order_line.ensures)

pub returns : goal.returns
returns c =
    let e : c.loop-i.i ≡ c.args.day.now.count = omega (arith, c.requires.prices_size) in
    c.loop-i.invariant ∙ rw e (scan_is c.args.day.now _ _ _ _ c.args.kind)
