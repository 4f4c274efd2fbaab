-- The book as it fills, account by account.
use mathlib.Core.Path.{◌≡◌, ◌∙◌, subst⁻¹}
use mathlib.Core.List.{List}
use Prim.Native.Nat.{ℕ, ◌+◌, ◌*◌, ◌≤◌, ◌<◌}
use native.Mathlib.Nat.{not-suc-le-zero}
use native.Mathlib.Decide.{ℕ_discrete}
use native.Mathlib.Omega.{arith}
use lib.ListN.{length}
use Rattle.sequences.specs.Below.{join_below}
use Rattle.sequences.specs.Stretch.{stretch_of, put_stretch}
use Rattle.sequences.proofs.Stretch.{within, put-length, stretch-put-same, stretch-put-other, join_ext}
use Rattle.layout.specs.Book.{width_of}
use Rattle.rules.specs.Opening.{opened_stretch}
use Rattle.rules.proofs.OpenedDay.{opened-length}

-- what account a opens with
abbrev opening : ℕ → List ℕ → ℕ → List ℕ
opening n holdings a = opened_stretch n (stretch_of (n + 2) holdings a)

-- a book of so many accounts, of which the first a are opened
pub record Filled (n : ℕ) (holdings : List ℕ) (accounts a : ℕ) (b : List ℕ) : Type 0 where
  pub size : length b ≡ accounts * width_of n
  pub at : (j : ℕ) → j < a → stretch_of (width_of n) b j ≡ opened_stretch n (stretch_of (n + 2) holdings j)

module _ (n : ℕ) (holdings : List ℕ) (accounts : ℕ) where
  pub filled_none : (b : List ℕ) → length b ≡ accounts * width_of n → Filled n holdings accounts 0 b
  filled_none b e = record { size = e; at = λ j h. absurd (not-suc-le-zero h) }

  -- an account's stretch lies in the book
  pub filled_in : (a : ℕ) (b : List ℕ) → a < accounts → Filled n holdings accounts a b → a * width_of n + width_of n ≤ length b
  filled_in a b l f = omega (arith, within (width_of n) a accounts l, f.size)

  pub filled_more : (a : ℕ) (b t : List ℕ) → a < accounts → t ≡ put_stretch (width_of n) b a (opened_stretch n (stretch_of (n + 2) holdings a))
      → Filled n holdings accounts a b → Filled n holdings accounts (a + 1) t
  filled_more a b t l e f =
      rw e
      (record {
        size = put-length (width_of n) b a (opening n holdings a) inside long ∙ f.size;
        at = λ j h. place j h (ℕ_discrete j a);
      })
    where
      inside : a * width_of n + width_of n ≤ length b
      inside = filled_in a b l f

      long : length (opening n holdings a) ≡ width_of n
      long = opened-length n (stretch_of (n + 2) holdings a)

      place : (j : ℕ) → j < a + 1 → Dec (j ≡ a) → stretch_of (width_of n) (put_stretch (width_of n) b a (opening n holdings a)) j ≡ opening n holdings j
      place j h (yes q) =
          subst⁻¹ (λ (i : ℕ). stretch_of (width_of n) (put_stretch (width_of n) b a (opening n holdings a)) i ≡ opening n holdings i) q
          (stretch-put-same (width_of n) b a (opening n holdings a) inside long)
      place j h (no q) = stretch-put-other (width_of n) b a j (opening n holdings a) q inside long ∙ f.at j (omega arith)

  pub filled_all : (a : ℕ) (b : List ℕ) → a ≡ accounts → Filled n holdings accounts a b → b ≡ join_below (λ a. opened_stretch n (stretch_of (n + 2) holdings a)) accounts
  filled_all a b e f = join_ext (λ a. opened_stretch n (stretch_of (n + 2) holdings a)) accounts (width_of n) b f.size (λ j h. f.at j (omega arith))
