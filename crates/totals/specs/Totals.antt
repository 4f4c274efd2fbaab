-- The totals of a run of rows of one width: for each place the sum over the rows, whether one reaches 2^62, and as far as 2^62.
use Rattle.std.specs.Prelude.{ℕ, ◌+◌, ◌*◌, ◌<◌, ◌≤◌, min, Bool, List, length, nat_le, slice_index}
use Rattle.sequences.specs.Below.{sum_below}

-- the most rows: so many accounts has a day
abbrev pub most_rows : ℕ
most_rows = 64

-- 2^62: above every limit of a day, and four numbers below it add up without wrapping
abbrev pub top : ℕ
top = 4_611_686_018_427_387_904

-- the most below 2^56: 64 numbers of at most that add up to less than 2^62
abbrev pub quick_most : ℕ
quick_most = 72_057_594_037_927_935

-- the number at a place of a list
unfoldable pub number_at : List ℕ → ℕ → ℕ
number_at s k = slice_index s k

-- the number at place k of row a, w wide
unfoldable pub place_at : List ℕ → ℕ → ℕ → ℕ → ℕ
place_at b w k a = slice_index b (a * w + k)

-- the total at place k over the first n rows
unfoldable pub total : List ℕ → ℕ → ℕ → ℕ → ℕ
total b w n k = sum_below (place_at b w k) n

-- the same as far as 2^62
unfoldable pub capped_total : List ℕ → ℕ → ℕ → ℕ → ℕ
capped_total b w n k = min (total b w n k) top

-- the total at place k once a row is added to the totals t
unfoldable pub plus_row : List ℕ → List ℕ → ℕ → ℕ
plus_row t row k = slice_index t k + slice_index row k

-- the total at place k once the eight rows of a block are
unfoldable pub plus_block : List ℕ → List ℕ → ℕ → ℕ
plus_block t block k = slice_index t k + total block (length t) 8 k

unfoldable pub reaches : (ℕ → ℕ) → ℕ → Bool
reaches f k = nat_le top (f k)

-- the first w of these numbers are below 2^62
abbrev pub Low : ℕ → List ℕ → Type 0
Low w t = (k : ℕ) → k < w → slice_index t k < top

-- they are at most that
abbrev pub Capped : ℕ → List ℕ → Type 0
Capped w t = (k : ℕ) → k < w → slice_index t k ≤ top
