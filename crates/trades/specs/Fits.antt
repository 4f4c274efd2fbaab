-- What a trade asks of the day and its book: the book's length, and that no sum passes 64 bits. A sound day gives it.
use Rattle.std.specs.Prelude.{ℕ, ◌*◌, ◌≤◌, ◌<◌, ◌≡◌, List, length}
use Rattle.sequences.specs.Stretch.{stretch_of}
use Rattle.lots.specs.Lots.{lots_total}
use Rattle.layout.specs.Places.{most_components}
use Rattle.layout.specs.Day.{Day}
use Rattle.layout.specs.Book.{cash, width_of, head_at, lots_at}
use Rattle.rules.specs.Opening.{most_cash}
use Rattle.rules.specs.Sound.{most_units}

pub record BookFits (d : Day) (b : List ℕ) : Type 0 where
  pub accounts_low : 2 ≤ d.accounts
  pub accounts_high : d.accounts ≤ 64
  pub count_high : d.count ≤ most_components
  pub size : length b ≡ d.accounts * width_of d.count
  pub lots : (a l : ℕ) → a < d.accounts → l ≤ d.count → lots_total (lots_at (stretch_of (width_of d.count) b a) l) ≤ most_units
  pub money : (a : ℕ) → a < d.accounts → head_at (stretch_of (width_of d.count) b a) cash ≤ most_cash
