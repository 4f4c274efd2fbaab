-- The rows of a table and the values of a list, one by one.
use mathlib.Core.List.{List, [], ◌∷◌}
use Prim.Native.Nat.{ℕ, zero, suc, ◌<◌}
use native.Mathlib.Nat.{le_of_suc-le-suc, not-suc-le-zero}
use lib.ListN.{length, get_or}

-- each value is as its row wants it, and d as the rows behind them want it
pub data Paired {A B : Type 0} (P : A → B → Type 0) (d : B) : List A → List B → Type 0 where
  none : Paired P d [] []
  both : {r : A} {x : B} {rs : List A} {xs : List B} → P r x → Paired P d rs xs → Paired P d (r ∷ rs) (x ∷ xs)
  behind : {r : A} {rs : List A} → P r d → Paired P d rs [] → Paired P d (r ∷ rs) []

pub paired_at : {A B : Type 0} (P : A → B → Type 0) (d : B) {rs : List A} {xs : List B} → Paired P d rs xs → (a : A) (k : ℕ) → k < length rs
    → P (get_or rs k a) (get_or xs k d)
paired_at P d none a k h = absurd (not-suc-le-zero h)
paired_at P d (both p q) a zero h = p
paired_at P d (both p q) a (suc k) h = paired_at P d q a k (le_of_suc-le-suc h)
paired_at P d (behind p q) a zero h = p
paired_at P d (behind p q) a (suc k) h = paired_at P d q a k (le_of_suc-le-suc h)
