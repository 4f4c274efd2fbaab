-- What refusal 1's test says.
use mathlib.Core.Path.{◌≡◌}
use mathlib.Core.Bool.{true}
use Prim.Native.Nat.{ℕ, ◌+◌, ◌*◌}
use native.Mathlib.Omega.{arith}
use Rattle.std.proofs.lemmas.Bool.Decides.{nat_tests}
use Rattle.sequences.specs.Every.{every}
use Rattle.flags.specs.Table.{table_width}
use Rattle.layout.specs.Places.{component_width, day_width}
use Rattle.rules.specs.Opening.{lent_sizes_fit}
use Rattle.rules.proofs.SoundDay.{DaySizes, sizes_facts}

pub record LentSizes (accounts count table components holdings book prices day : ℕ) : Type 0 where
  pub own : DaySizes accounts count book prices
  pub table_size : table ≡ table_width
  pub components_size : components ≡ component_width * count
  pub holdings_size : holdings ≡ accounts * (count + 2)
  pub day_size : day ≡ day_width

module _ (accounts count table components holdings book prices day : ℕ) where
  pub lent_facts : lent_sizes_fit accounts count table components holdings book prices day ≡ true → LentSizes accounts count table components holdings book prices day
  unfolding lent_sizes_fit every
  lent_facts e = grind (arith, nat_tests, sizes_facts)
