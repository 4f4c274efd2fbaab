-- The columns of a line as code goes through them.
use mathlib.Core.Path.{◌≡◌, refl, sym, ap, ◌∙◌}
use mathlib.Core.Bool.{true, false, cond}
use mathlib.Core.List.{List}
use Prim.Native.Nat.{ℕ, zero, suc, ◌+◌, ◌≤◌, ◌<◌}
use native.Mathlib.Nat.{add-zero}
use native.Mathlib.Numerals.{add-one}
use native.Mathlib.Omega.{arith}
use lib.ListN.{length, get_or}
use Rattle.sequences.specs.Below.{sum_below}
use Rattle.sequences.proofs.Below.{cond_le}
use Rattle.text_rules.specs.declared.Column.{Column}
use Rattle.text_rules.specs.declared.Taken.{Taken}
use Rattle.text_rules.specs.Tables.{no_column, column_at}
use Rattle.text_rules.specs.Columns.{column_width, column_start, line_end, line_width, line_pitch, is_text, holds_text, numbers_before, words_before, taken_before, taken_pitch}
use Rattle.text_rules.specs.Well.{most_line, columns_well}
use Rattle.text_rules.proofs.Tables.{start_next, start_line}
use Rattle.text_rules.proofs.Well.{line_short}

-- a column starts, ends and has its successor within the line, which is not long
pub record Placed (cs : List Column) (k : ℕ) : Type 0 where
  pub next : column_start cs (k + 1) ≡ column_start cs k + (column_width cs k + 1)
  pub within : column_start cs (k + 1) ≤ line_width cs
  pub short : line_width cs ≤ most_line

pub column_placed : (cs : List Column) (k : ℕ) → columns_well cs ≡ true → k < length cs → Placed cs k
column_placed cs k well h =
    record {
      next = ap (column_start cs) (add-one k) ∙ start_next cs k;
      within = start_line cs (k + 1) (omega arith);
      short = line_short cs well;
    }

-- ---- a line has more bytes than numbers, and than bytes of text
pub taken_eq : {a a' b b' c c' : ℕ} → a ≡ a' → b ≡ b' → c ≡ c'
    → ◌≡◌ {A = Taken} (record { bytes = a; numbers = b; words = c }) (record { bytes = a'; numbers = b'; words = c' })
taken_eq p q r = cc

module _ (cs : List Column) where
  numbers_low : (k : ℕ) → numbers_before cs k ≤ column_start cs k
  unfolding numbers_before column_start sum_below
  numbers_low zero = omega arith
  numbers_low (suc k) =
      let h : cond (holds_text cs k) 0 1 ≤ column_width cs k + 1 = cond_le (holds_text cs k) (omega arith) (omega arith) in
      omega (arith, numbers_low k)

  words_low : (k : ℕ) → words_before cs k ≤ column_start cs k
  unfolding words_before column_start sum_below
  words_low zero = omega arith
  words_low (suc k) =
      let h : cond (holds_text cs k) (column_width cs k) 0 ≤ column_width cs k + 1 = cond_le (holds_text cs k) (omega arith) (omega arith) in
      omega (arith, words_low k)

  -- each part of what some columns take
  module _ (k : ℕ) {taken : Taken} (before : taken ≡ taken_before cs k) where
    pub bytes_of : taken.bytes ≡ column_start cs k
    unfolding taken_before
    bytes_of = ap (λ (x : Taken). x.bytes) before

    pub numbers_of : taken.numbers ≡ numbers_before cs k
    unfolding taken_before
    numbers_of = ap (λ (x : Taken). x.numbers) before

    pub words_of : taken.words ≡ words_before cs k
    unfolding taken_before
    words_of = ap (λ (x : Taken). x.words) before

  pub before_first : record { bytes = 0; numbers = 0; words = 0 } ≡ taken_before cs 0
  unfolding taken_before column_start numbers_before words_before sum_below
  before_first = refl

  -- the k-th column's own
  before_text : (k : ℕ) → holds_text cs k ≡ true
      → record { bytes = column_start cs k + (column_width cs k + 1); numbers = numbers_before cs k; words = words_before cs k + column_width cs k } ≡ taken_before cs (k + 1)
  unfolding taken_before column_start numbers_before words_before sum_below
  before_text k e = rw (add-one k, e) (taken_eq refl (sym (add-zero _)) refl)

  before_number : (k : ℕ) → holds_text cs k ≡ false
      → record { bytes = column_start cs k + (column_width cs k + 1); numbers = numbers_before cs k + 1; words = words_before cs k } ≡ taken_before cs (k + 1)
  unfolding taken_before column_start numbers_before words_before sum_below
  before_number k e = rw (add-one k, e) (taken_eq refl refl (sym (add-zero _)))

-- what the k-th column adds to what those before it take, as the code adds it, and that all of it is small
module _ (cs : List Column) (k : ℕ) {taken : Taken} (before : taken ≡ taken_before cs k) where
  pub past_text : is_text (get_or cs k no_column).used ≡ true
      → record { bytes = taken.bytes + ((get_or cs k no_column).width + 1); numbers = taken.numbers; words = taken.words + (get_or cs k no_column).width }
      ≡ taken_before cs (k + 1)
  unfolding holds_text column_width column_at
  past_text e = rw (bytes_of cs k before, numbers_of cs k before, words_of cs k before) (before_text cs k e)

  pub past_number : is_text (get_or cs k no_column).used ≡ false
      → record { bytes = taken.bytes + ((get_or cs k no_column).width + 1); numbers = taken.numbers + 1; words = taken.words } ≡ taken_before cs (k + 1)
  unfolding holds_text column_width column_at
  past_number e = rw (bytes_of cs k before, numbers_of cs k before, words_of cs k before) (before_number cs k e)

  pub past_low : columns_well cs ≡ true → k < length cs
      → (taken.bytes + ((get_or cs k no_column).width + 1) ≤ most_line)
      × (taken.numbers + 1 ≤ most_line)
      × (taken.words + (get_or cs k no_column).width ≤ most_line)
  unfolding column_width column_at
  past_low well h =
      let p = column_placed cs k well h in
      let bytes = bytes_of cs k before in
      let numbers = numbers_of cs k before in
      let words = words_of cs k before in (
        omega (arith, bytes, p.next, p.within, p.short),
        omega (arith, numbers, numbers_low cs k, p.next, p.within, p.short),
        omega (arith, words, words_low cs k, p.next, p.within, p.short),
      )

-- the bytes of a whole line, without and with its end
module _ (cs : List Column) {line : Taken} (whole : line ≡ taken_before cs (length cs)) where
  pub whole_bytes : line.bytes ≡ line_width cs
  unfolding line_width
  whole_bytes = bytes_of cs (length cs) whole

  pub whole_low : columns_well cs ≡ true → line.bytes ≤ most_line
  whole_low well = omega (arith, whole_bytes, line_short cs well)

  pub whole_pitch : taken_pitch line ≡ line_pitch cs
  unfolding line_pitch
  whole_pitch = ap (λ (n : ℕ). n + line_end) whole_bytes
