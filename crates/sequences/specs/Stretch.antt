-- A list cut into stretches of one width: one stretch, the list with another in its place, and sums over the stretches.
use Rattle.std.specs.Prelude.{List, ◌++◌, ℕ, ◌*◌, take, drop}
use Rattle.sequences.specs.Below.{sum_below}

-- the a-th stretch of w elements of b
unfoldable pub stretch_of : ℕ → List ℕ → ℕ → List ℕ
stretch_of w b a = take w (drop (a * w) b)

-- b with s in the place of its a-th stretch
unfoldable pub put_stretch : ℕ → List ℕ → ℕ → List ℕ → List ℕ
put_stretch w b a s = take (a * w) b ++ (s ++ drop w (drop (a * w) b))

-- b in which f was done to the a-th stretch
abbrev pub on_stretch : ℕ → ℕ → (List ℕ → List ℕ) → List ℕ → List ℕ
on_stretch w a f b = put_stretch w b a (f (stretch_of w b a))

-- the sum over the first k stretches of a number g that is read off a stretch
unfoldable pub over : ℕ → ℕ → (List ℕ → ℕ) → List ℕ → ℕ
over w k g b = sum_below (λ a. g (stretch_of w b a)) k
