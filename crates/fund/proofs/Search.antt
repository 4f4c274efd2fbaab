-- The search for the first component at fault, one component at a time.
use mathlib.Core.Path.{◌≡◌, sym, ap, ◌∙◌}
use mathlib.Core.Bool.{true, false, not}
use mathlib.Core.List.{List}
use Prim.Native.Nat.{ℕ, ◌+◌, ◌<◌}
use lib.ListN.{get_or}
use Rattle.std.specs.Prelude.{Option, Some, None}
use Rattle.sequences.specs.Below.{first_below, below}
use Rattle.sequences.proofs.Below.{first_more, first_some_below, first_none_below}
use Rattle.flags.specs.Table.{FlagTable}
use Rattle.layout.specs.declared.Component.{Component}
use Rattle.layout.specs.Components.{blank}
use Rattle.fund.specs.Components.{fits, code_before, fault_at, component_fault}

module _ (t : FlagTable) (g : ℕ) (cs : List Component) (n i : ℕ) (previous : Option ℕ) (none : first_below (fault_at t g cs) i ≡ i) (last : previous ≡ code_before cs i) where
  fault_here : not (fits t g previous (get_or cs i blank)) ≡ fault_at t g cs i
  unfolding fault_at
  fault_here = ap (λ (p : Option ℕ). not (fits t g p (get_or cs i blank))) last

  pub stops : i < n → not (fits t g previous (get_or cs i blank)) ≡ true → Some i ≡ below n (component_fault t g cs n)
  unfolding component_fault
  stops l e = first_some_below (fault_at t g cs) n i l none (sym fault_here ∙ e)

  pub goes_on : not (fits t g previous (get_or cs i blank)) ≡ false → first_below (fault_at t g cs) (i + 1) ≡ i + 1
  goes_on e = first_more (fault_at t g cs) i none (sym fault_here ∙ e)

-- no component is at fault
pub ends : (t : FlagTable) (g : ℕ) (cs : List Component) (n : ℕ) → first_below (fault_at t g cs) n ≡ n → None ≡ below n (component_fault t g cs n)
unfolding component_fault
ends t g cs n e = first_none_below (fault_at t g cs) n e
