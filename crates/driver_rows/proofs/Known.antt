-- Which of two days is at hand.
use mathlib.Core.Path.{◌≡◌, refl}
use mathlib.Core.Bool.{false}
use Rattle.std.specs.Prelude.{Option, Some, None, is_some, MatchOption}
use Rattle.std.specs.Option.{option_or}

module _ {A : Type 0} where
  -- where neither of two stands, the first does not, and the second does not
  pub not_first : (o p : Option A) (x : A) → option_or o p ≡ None → o ≡ Some x → ⊥
  not_first None p x e f = absurd (cc)
  not_first (Some y) p x e f = absurd (cc)

  pub not_second : (o p : Option A) → option_or o p ≡ None → is_some p ≡ false
  not_second None None e = refl
  not_second None (Some y) e = absurd (cc)
  not_second (Some x) p e = absurd (cc)

  -- what is said where there is none
  pub none_told : (o : Option A) (P : Type 0) (Q : A → Type 0) → is_some o ≡ false → MatchOption o P Q → P
  none_told None P Q e told = told
  none_told (Some x) P Q e told = absurd (cc)
