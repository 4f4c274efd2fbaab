-- What an order's units leave of an account's head.
use mathlib.Core.Path.{◌≡◌}
use mathlib.Core.List.{List}
use Prim.Native.Nat.{ℕ, ◌<◌}
use lib.ListN.{get_or}
use Rattle.lots.specs.declared.Lots.{Lots}
use Rattle.layout.specs.Places.{lines_from}
use Rattle.layout.specs.Book.{head_at, put_lots, on_line}
use Rattle.layout.proofs.Account.{head_on}
use Rattle.book.proofs.Stock.{units_opposite}

-- lots stored on a line leave the head as it was
pub head_beside : (s : List ℕ) (n k : ℕ) (x : Lots) → k < lines_from → get_or (put_lots s n x) k 0 ≡ get_or s k 0
unfolding head_at on_line
head_beside s n k x h = head_on (λ _. x) n s k h

-- what an account's part of an order beside stock is found by
pub ruleset rest_laws = (head_beside, units_opposite)
