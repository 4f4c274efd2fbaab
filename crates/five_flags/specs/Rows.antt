-- Document 01's flag table: six columns for each of the flags 0 to 4, all of which are in use.
use Rattle.std.specs.Prelude.{ℕ, Bool, true, false, List, [], ◌∷◌, get_or}

-- columns: stock moves, shortage in cash, r used, P used, Shanghai, priced
unfoldable pub five_rows : List (List Bool)
five_rows =
    (true ∷ false ∷ false ∷ false ∷ true ∷ true ∷ [])
    ∷ (true ∷ true ∷ true ∷ false ∷ true ∷ true ∷ [])
    ∷ (false ∷ false ∷ false ∷ true ∷ true ∷ false ∷ [])
    ∷ (false ∷ false ∷ true ∷ true ∷ false ∷ true ∷ [])
    ∷ (false ∷ false ∷ false ∷ true ∷ false ∷ false ∷ [])
    ∷ []

-- how many flags and columns it has
abbrev pub five_flags : ℕ
five_flags = 5

abbrev pub six_columns : ℕ
six_columns = 6

-- what it has for a flag in a column; false past either end
unfoldable pub five_entry : ℕ → ℕ → Bool
five_entry flag column = get_or (get_or five_rows flag []) column false
