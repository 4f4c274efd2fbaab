-- A list of tests that all pass.
use Rattle.std.specs.Prelude.{Bool, true, ◌&&◌, List, [], ◌∷◌, ℕ, leb}

-- every test of the list passes
unfoldable pub every : List Bool → Bool
every [] = true
every (b ∷ bs) = b && every bs

-- x is lo to hi
unfoldable pub inside : ℕ → ℕ → ℕ → Bool
inside lo hi x = leb lo x && leb x hi
