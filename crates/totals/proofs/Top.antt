-- 2^62 and `|`: an or reaches 2^62 just where a side does. Of a total below 2^62 and the numbers added to it, one of the numbers or
-- the wrapped sum reaches 2^62 just where the sum does. And no side is above an or.
use Rattle.std.proofs.Common.{◌≡◌, ℕ, ◌+◌, ◌%◌, ◌^◌, ◌<◌, ◌≤◌, Bool, ◌||◌, leb, sym, ap, ◌∙◌, subst, le_trans, le_of_eq, le_refl, add-le-add, arith}
use native.Mathlib.Nat.{add-le-add_iff_right}
use lib.Bits.{bit_or, or_lt, or_add_and, and_le_r, or_comm}
use Rattle.std.proofs.lemmas.Bool.Decides.{nat_tests}
use Rattle.totals.specs.Totals.{top}

le_or_left : (a b : ℕ) → a ≤ bit_or a b
le_or_left a b = (add-le-add_iff_right b).0 (le_trans (le_of_eq (sym (or_add_and a b))) (add-le-add (le_refl (bit_or a b)) (and_le_r a b)))

le_or_right : (a b : ℕ) → b ≤ bit_or a b
le_or_right a b = subst (λ (x : ℕ). b ≤ x) (or_comm b a) (le_or_left b a)

or_top : (u v : ℕ) → leb top (bit_or u v) ≡ (leb top u || leb top v)
or_top u v =
    let left = le_or_left u v in
    let right = le_or_right u v in
    let low : u < top → v < top → bit_or u v < top = or_lt 62 u v in
    grind (arith, nat_tests)

carry : (a x : ℕ) → a < top → (leb top x || leb top ((a + x) % 2 ^ 64)) ≡ leb top (a + x)
carry a x s = grind (arith, nat_tests)

-- the or of h, of the number x that is added to the total a, and of the wrapped sum t
pub or_one : (h a x t : ℕ) → a < top → t ≡ (a + x) % 2 ^ 64 → leb top (bit_or h (bit_or x t)) ≡ (leb top h || leb top (a + x))
or_one h a x t s q =
    or_top h (bit_or x t)
    ∙ ap (λ (c : Bool). leb top h || c) (or_top x t ∙ ap (λ (n : ℕ). leb top x || leb top n) q ∙ carry a x s)

-- a sum that wrapped before it was added
pub add_wrapped : (a x s : ℕ) → s ≡ x % 2 ^ 64 → (a + s) % 2 ^ 64 ≡ (a + x) % 2 ^ 64
add_wrapped a x s e = omega (arith, e)

-- an or that is at most m has no side above m
pub or_sides : (u v m : ℕ) → bit_or u v ≤ m → (u ≤ m) × (v ≤ m)
or_sides u v m l = (le_trans (le_or_left u v) l, le_trans (le_or_right u v) l)
