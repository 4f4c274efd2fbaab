-- Things that lie one behind another in a flat run, each with so many numbers.
use Rattle.std.specs.Prelude.{ℕ, ◌*◌, ◌/◌, List, [], ◌∷◌, ◌++◌, length, drop}

-- the numbers of all of them
unfoldable pub laid : {A : Type 0} → (A → List ℕ) → List A → List ℕ
laid numbers [] = []
laid numbers (x ∷ xs) = numbers x ++ laid numbers xs

-- a lent run with them at its front: places past the last stay
unfoldable pub with_laid : {A : Type 0} → (A → List ℕ) → ℕ → List A → List ℕ → List ℕ
with_laid numbers width xs list = laid numbers xs ++ drop (width * length xs) list

-- how many a run of so many numbers takes
abbrev pub room_of : ℕ → ℕ → ℕ
room_of width n = n / width
