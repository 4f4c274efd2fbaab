-- A search below a number: what the index found says.
use Prim.Native.Nat.{ℕ, zero, suc, ◌≤◌, ◌<◌}
use mathlib.Core.Path.{◌≡◌, refl, ap, ◌∙◌}
use mathlib.Core.Bool.{Bool, true, false}
use mathlib.Core.Logic.{⊎_elim}
use native.Mathlib.Nat.{le_refl, eq-or-lt_of_le, not-suc-le-zero}
use native.Mathlib.Omega.{arith}
use lib.Dec.{ltb}
use borrow.Author.Tests.{ltb-true}
use Rattle.sequences.specs.Below.{first_below}
use Rattle.sequences.proofs.Below.{first_all, first_stops}

-- r is the first index below n that passes, n where none does
pub record First (f : ℕ → Bool) (n r : ℕ) : Type 0 where
  pub within : r ≤ n
  pub before : (i : ℕ) → i < r → f i ≡ false
  pub passes : r < n → f r ≡ true

found_more : (f : ℕ → Bool) (n : ℕ) → First f n (first_below f n) → (b d : Bool) → ltb (first_below f n) n ≡ b → f n ≡ d → First f (suc n) (first_below f (suc n))
unfolding first_below
found_more f n v true d e g =
    rw e (record { within = omega (arith, v.within); before = v.before; passes = λ _. v.passes (ltb-true (first_below f n) n e) })
found_more f n v false true e g =
    rw (e, g) (record { within = omega arith; before = first_all f n (first_stops f n e); passes = λ _. g })
found_more f n v false false e g =
    rw (e, g)
    (record {
      within = le_refl (suc n);
      before = λ i h. ⊎_elim (λ q. ap f q ∙ g) (λ l. first_all f n (first_stops f n e) i l) (eq-or-lt_of_le (omega (arith, h)));
      passes = λ h. absurd (omega (arith, h));
    })

pub found : (f : ℕ → Bool) (n : ℕ) → First f n (first_below f n)
unfolding first_below
found f zero = record { within = le_refl 0; before = λ i h. absurd (not-suc-le-zero h); passes = λ h. absurd (not-suc-le-zero h) }
found f (suc n) = found_more f n (found f n) (ltb (first_below f n) n) (f n) refl refl
