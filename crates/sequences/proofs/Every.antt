-- What a list of tests that all pass says of each, and tests by their meaning.
use mathlib.Core.Path.{◌≡◌, refl, sym, ap, ◌∙◌}
use mathlib.Core.Bool.{Bool, true, false, ◌&&◌, false≢true}
use mathlib.Core.List.{List, [], ◌∷◌}
use Prim.Native.Nat.{ℕ, zero, suc, ◌≤◌}
use lib.Dec.{leb}
use lib.ListN.{get_or}
use borrow.Author.Tests.{le-leb, leb-true}
use Rattle.sequences.specs.Every.{every, inside}

pub every_none : every [] ≡ true
unfolding every
every_none = refl

pub every_more : (b : Bool) (bs : List Bool) → b ≡ true → every bs ≡ true → every (b ∷ bs) ≡ true
unfolding every
every_more b bs p q = ap (λ (x : Bool). x && every bs) p ∙ q

-- the k-th test, where every test passes
pub every_at : (bs : List Bool) → every bs ≡ true → (k : ℕ) → get_or bs k true ≡ true
unfolding every
every_at [] e k = refl
every_at (true ∷ bs) e zero = refl
every_at (true ∷ bs) e (suc k) = every_at bs e k
every_at (false ∷ bs) e k = absurd (false≢true e)

-- a test that cannot pass fails
pub false_of : (b : Bool) → (b ≡ true → ⊥) → b ≡ false
false_of true h = absurd (h refl)
false_of false h = refl

-- two tests with the same meaning are equal
pub same_test : (a b : Bool) → (a ≡ true → b ≡ true) → (b ≡ true → a ≡ true) → a ≡ b
same_test true b f g = sym (f refl)
same_test false true f g = g refl
same_test false false f g = refl

pub inside-true : (lo hi x : ℕ) → lo ≤ x → x ≤ hi → inside lo hi x ≡ true
unfolding inside
inside-true lo hi x p q = simp (le-leb lo x p, le-leb x hi q)

pub inside_facts : (lo hi x : ℕ) → inside lo hi x ≡ true → (lo ≤ x) × (x ≤ hi)
unfolding inside
inside_facts lo hi x e = split (leb lo x) (leb x hi) refl refl e
  where
    split : (a b : Bool) → leb lo x ≡ a → leb x hi ≡ b → (a && b) ≡ true → (lo ≤ x) × (x ≤ hi)
    split true true p q e = (leb-true lo x p, leb-true x hi q)
    split true false p q e = absurd (false≢true e)
    split false b p q e = absurd (false≢true e)
