-- Lines of a text, words compared in any case, and bytes that a name may have.
use Rattle.std.specs.Prelude.{ℕ, ◌+◌, Bool, true, false, cond, not, ◌&&◌, ◌||◌, List, [], ◌∷◌, ◌++◌, ltb, eqb, length, get_or, take, drop}
use Rattle.sequences.specs.Every.{every, inside}

-- 0D 0A stands at i
unfoldable pub end_at : List ℕ → ℕ → Bool
end_at s i = eqb (get_or s i 0) 13 && eqb (get_or s (i + 1) 0) 10

-- how many bytes stand before the first 0D 0A; all of them where there is none
abbrev pub len_after : Bool → ℕ → ℕ
len_after true n = 0
len_after false n = n + 1

unfoldable pub line_len : List ℕ → ℕ
line_len [] = 0
line_len (b ∷ r) = len_after (eqb b 13 && eqb (get_or r 0 0) 10) (line_len r)

-- the first line of s has its end; the line without it; the place of the next line, for a line that starts at `at`
unfoldable pub ended : List ℕ → Bool
ended s = ltb (line_len s) (length s)

unfoldable pub first_line : List ℕ → List ℕ
first_line s = take (line_len s) s

unfoldable pub next_at : List ℕ → ℕ → ℕ
next_at text at = at + (line_len (drop at text) + 2)

-- a byte that starts no line's end
unfoldable pub other_byte : ℕ → Bool
other_byte b = not (eqb b 13)

-- a line as it is written
unfoldable pub line_text : List ℕ → List ℕ
line_text l = l ++ 13 ∷ 10 ∷ []

-- a letter in lower case
unfoldable pub lower : ℕ → ℕ
lower b = cond (inside 65 90 b) (b + 32) b

-- the two lists are the same after f
unfoldable pub same_by : (ℕ → ℕ) → List ℕ → List ℕ → Bool
same_by f [] [] = true
same_by f [] (y ∷ t) = false
same_by f (x ∷ s) [] = false
same_by f (x ∷ s) (y ∷ t) = eqb (f x) (f y) && same_by f s t

-- the same bytes; the same but for the case of letters
unfoldable pub same : List ℕ → List ℕ → Bool
same a b = same_by (λ x. x) a b

unfoldable pub same_in_any_case : List ℕ → List ℕ → Bool
same_in_any_case a b = same_by lower a b

-- the line is this name in any case, "=" and a value
unfoldable pub is_named : List ℕ → List ℕ → Bool
is_named name l =
    every
    (ltb (length name) (length l)
    ∷ eqb (get_or l (length name) 0) 61
    ∷ same_in_any_case name (take (length name) l)
    ∷ [])

-- a component's name has no "|", 0D or 0A
unfoldable pub name_byte : ℕ → Bool
name_byte b = not (eqb b 124 || (eqb b 13 || eqb b 10))

-- a letter or a digit
unfoldable pub letter_byte : ℕ → Bool
letter_byte b = inside 48 57 b || (inside 65 90 b || inside 97 122 b)

-- every byte passes
unfoldable pub all_bytes : (ℕ → Bool) → List ℕ → Bool
all_bytes p [] = true
all_bytes p (b ∷ r) = p b && all_bytes p r
