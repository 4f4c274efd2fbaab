-- Bytes written into a lent output.
use Rattle.std.specs.Prelude.{ℕ, ◌+◌, ◌≡◌, List, ◌++◌, length, take, drop}

-- d with xs written from at on
unfoldable pub put : List ℕ → ℕ → List ℕ → List ℕ
put d at xs = take at d ++ (xs ++ drop (at + length xs) d)

-- xs is written into d from at on, which leaves d' and answers the place behind it
pub record Written (d : List ℕ) (at : ℕ) (xs : List ℕ) (d' : List ℕ) (next_place : ℕ) : Type 0 where
  pub bytes : d' ≡ put d at xs
  pub next : next_place ≡ at + length xs
