-- The blank day, which a run of another length than a day's says, is not sound.
use mathlib.Core.Path.{◌≡◌, refl}
use mathlib.Core.Bool.{false}
use mathlib.Core.List.{List}
use Prim.Native.Nat.{ℕ}
use Rattle.sequences.specs.Checks.{passes}
use Rattle.sequences.specs.Every.{every, inside}
use Rattle.layout.specs.Day.{blank_day}
use Rattle.rules.specs.Opening.{day_sizes_fit, size_checks, day_checks}
use Rattle.rules.specs.Sound.{opens, is_sound, is_kept}

module _ (b ps : List ℕ) where
  pub blank_unsound : is_sound blank_day b ps ≡ false
  unfolding is_sound opens day_sizes_fit size_checks day_checks passes every inside
  blank_unsound = refl

  pub blank_not_kept : is_kept blank_day b ps ≡ false
  unfolding is_kept every
  blank_not_kept = rw blank_unsound
