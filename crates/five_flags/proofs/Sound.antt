-- Under our table refusal 3, opening's answer and 5 are as before: our table passes 21, and has document 01's columns.
use mathlib.Core.Path.{◌≡◌, refl, ap, fun_ext, ◌∙◌}
use mathlib.Core.Bool.{Bool}
use mathlib.Core.List.{List}
use Prim.Native.Nat.{ℕ}
use native.Mathlib.Omega.{arith}
use Rattle.sequences.specs.Below.{first_below}
use Rattle.sequences.specs.Every.{every}
use Rattle.sequences.specs.Checks.{answering, passes}
use Rattle.flags.specs.Table.{flag_table, table_numbers, table_of, rate_used, amount_used}
use Rattle.flags.proofs.Laws.{ours_loads}
use Rattle.flags.proofs.Run.{ours_back}
use Rattle.layout.specs.declared.Component.{Component}
use Rattle.layout.specs.declared.Fund.{Fund}
use Rattle.fund.specs.Components.{component_in_range, fits, fault_at, component_fault}
use Rattle.rules.specs.Opening.{Opening, DayTotals, lent_sizes_fit, opening_sizes_fit, size_checks, table_checks, fund_checks, day_checks, components_opened, opening_reply, opened_day}
use Rattle.rules.specs.Sound.{opens, is_sound}
use Rattle.five_flags.specs.AsBefore.{ComponentsAsBefore, OpeningAsBefore, SoundAsBefore}
use Rattle.five_flags.specs.Sound as before
use Rattle.five_flags.proofs.Table.{our_columns, our_flags}

same_range : (g : ℕ) (c : Component) → component_in_range flag_table g c ≡ before.component_in_range g c
unfolding component_in_range before.component_in_range
same_range g c = rw (our_flags c.flag, our_columns c.flag rate_used (omega arith), our_columns c.flag amount_used (omega arith)) refl

pub components_as_before : ComponentsAsBefore
unfolding component_fault fault_at fits before.component_fault before.fault_at
components_as_before g cs n = ap (λ (f : ℕ → Bool). first_below f n) (fun_ext (λ i. rw (same_range g _)))

-- the answer of opening
module _ (o : Opening) (ours : o.table ≡ table_numbers flag_table) where
  ours_given : table_of o.table ≡ flag_table
  ours_given = ap table_of ours ∙ ours_back

  same_sizes : opening_sizes_fit o ≡ before.sizes_fit o
  unfolding lent_sizes_fit every flag_table before.sizes_fit
  same_sizes = rw ours refl

  same_opening : opening_reply o ≡ before.opening_reply o
  unfolding opening_reply day_checks table_checks fund_checks size_checks answering before.opening_reply before.day_checks
  same_opening = rw (ours_given, ours_loads, same_sizes, components_as_before o.fund.first_code (components_opened o) o.count) refl

pub opening_as_before : OpeningAsBefore
unfolding opened_day
opening_as_before o ours = (ours_given o ours, same_opening o ours)

-- the tests that 5 makes
same_passes : (fit : Bool) (fund : Fund) (cs : List Component) (n : ℕ) (totals : DayTotals)
    → passes (day_checks fit flag_table fund cs n totals) ≡ passes (before.day_checks fit fund cs n totals)
unfolding day_checks table_checks fund_checks size_checks passes before.day_checks
same_passes fit fund cs n totals = rw (ours_loads, components_as_before fund.first_code cs n) refl

pub sound_as_before : SoundAsBefore
unfolding is_sound opens before.is_sound before.opens
sound_as_before d ours b ps = rw (ours, same_passes _ _ _ _ _) refl
