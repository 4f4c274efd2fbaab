use mathlib.Core.Path.{◌≡◌, sym, ap, ◌∙◌}
use mathlib.Core.Bool.{Bool, not}
use mathlib.Core.List.{List}
use Prim.Native.Nat.{ℕ, ◌≤◌, ◌<◌}
use native.Mathlib.Omega.{arith}
use lib.ListN.{get_or}
use Rattle.std.specs.Prelude.{Option, Some}
use Rattle.sequences.proofs.Below.{first_none}
use Rattle.flags.specs.Table.{FlagTable}
use Rattle.layout.specs.Places.{most_components}
use Rattle.layout.specs.declared.Component.{Component}
use Rattle.layout.specs.Components.{blank, component_at, places_of}
use Rattle.fund.specs.Components.{fits}
use Rattle.fund.proofs.Laws.{before_none, before_more}
use Rattle.layout.proofs.Components.{places_at}
use Rattle.fund.proofs.Search.{stops, goes_on, ends}
use Rattle.fund.proofs.run_fault.Goals as goal

-- the places of a run
abbrev places : List ℕ → ℕ → List Component
places run n = places_of (component_at run) n

-- the component read is the one at its place, and so is the answer of its test
module _ (run : List ℕ) (n i : ℕ) (low : i < n) (most : n ≤ most_components) (c : Component) (e : c ≡ component_at run i) where
  placed : c ≡ get_or (places run n) i blank
  placed = e ∙ sym (places_at (component_at run) n i low most)

  tested : (t : FlagTable) (g : ℕ) (previous : Option ℕ) (r : Bool) → r ≡ fits t g previous c → not (fits t g previous (get_or (places run n) i blank)) ≡ not r
  tested t g previous r a = ap not (ap (fits t g previous) (sym placed) ∙ sym a)

pub loop-i-init : goal.loop-i-init
loop-i-init c = (first_none _, sym (before_none _))

pub returns-then-not-component_fits : goal.returns-then-not-component_fits
returns-then-not-component_fits c =
    let inv = c.loop-i.invariant in
    let read = c.component_at-c in
    let low : c.loop-i.i < c.args.count = omega arith in
    stops _ _ _ c.args.count _ _ inv.0 inv.1 low (tested _ _ _ low (omega arith) read.result read.ensures _ _ _ _ c.component_fits.ensures ∙ ap not c.if-not-component_fits.true)

pub loop-i-preserved : goal.loop-i-preserved
loop-i-preserved c =
    let inv = c.loop-i.invariant in
    let read = c.component_at-c in
    let count = c.args.count in
    let low : c.loop-i.i < count = omega arith in (
      goes_on _ _ _ count _ _ inv.0 inv.1 (tested _ _ _ low (omega arith) read.result read.ensures _ _ _ _ c.component_fits.ensures ∙ ap not c.if-not-component_fits.false),
      ap (λ (x : Component). Some x.code) (placed _ _ _ low (omega arith) read.result read.ensures) ∙ sym (before_more _ _),
    )

pub returns : goal.returns
returns c =
    let e : c.loop-i.i ≡ c.args.count = omega arith in
    ends _ _ _ _ (rw e at c.loop-i.invariant.0)
