-- What a sound day says of one account: it lies in the book, and each of its numbers is at most the day's total.
use mathlib.Core.Path.{ap}
use mathlib.Core.Logic.{⊎_elim}
use mathlib.Core.List.{List}
use Prim.Native.Nat.{ℕ, ◌+◌, ◌*◌, ◌≤◌, ◌<◌}
use native.Mathlib.Nat.{eq-or-lt_of_le}
use native.Mathlib.Omega.{arith}
use lib.ListN.{length}
use Rattle.sequences.specs.Stretch.{over}
use Rattle.sequences.proofs.Below.{sum_part}
use Rattle.sequences.proofs.Stretch.{within}
use Rattle.lots.specs.Lots.{lots_total}
use Rattle.layout.specs.Day.{Day}
use Rattle.layout.specs.Book.{head_at, lots_at, width, account, head_total, line_total}
use Rattle.rules.specs.Sound.{most_units}
use Rattle.rules.proofs.SoundDay.{SoundDay}

module _ (d : Day) (b : List ℕ) (a : ℕ) (a_in : a < d.accounts) where
  pub head_part : (k : ℕ) → head_at (account d b a) k ≤ head_total d b k
  unfolding head_total over
  head_part k = sum_part (λ i. head_at (account d b i) k) d.accounts a a_in

  pub line_part : (l : ℕ) → lots_total (lots_at (account d b a) l) ≤ line_total d b l
  unfolding line_total over
  line_part l = sum_part (λ i. lots_total (lots_at (account d b i) l)) d.accounts a a_in

module _ {d : Day} {b ps : List ℕ} (s : SoundDay d b ps) where
  -- every line, the unit too, totals at most what units may
  pub line_most : (l : ℕ) → l ≤ d.count → line_total d b l ≤ most_units
  line_most l h = ⊎_elim (λ e. omega (arith, ap (line_total d b) e, s.book.units)) (λ q. omega (arith, s.book.lines l q)) (eq-or-lt_of_le h)

  module _ (a : ℕ) (a_in : a < d.accounts) where
    pub account_within : a * width d + width d ≤ length b
    account_within = rw s.book.book_size (within (width d) a d.accounts a_in)

    pub account_line_most : (l : ℕ) → l ≤ d.count → lots_total (lots_at (account d b a) l) ≤ most_units
    account_line_most l h = omega (arith, line_part d b a a_in l, line_most l h)
