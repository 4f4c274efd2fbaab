-- `order_units::move_rest` meets its contract: the parts lent are the fund's stretch and the account's, and the fund's cash leaves the account's
-- as it was.
use mathlib.Core.Path.{ap}
use mathlib.Core.List.{List, ◌++◌}
use Prim.Native.Nat.{ℕ}
use lib.ListN.{drop}
use Rattle.sequences.specs.Stretch.{put_stretch}
use Rattle.sequences.proofs.Stretch.{part_is}
use Rattle.book.proofs.Sides.{middle_put}
use Rattle.book.proofs.Whole.{account_rest_ready, rest_moved}
use Rattle.order_units.proofs.move_rest.Goals as goal

pub account_rest-requires : goal.account_rest-requires
account_rest-requires c =
    let r = c.stretch_at.ensures in
    rw (r.start_value, r.end, part_is) (account_rest_ready _ _ _ _ _ _ _ _ c.requires c.width_of-w.ensures (ap (λ (s : List ℕ). s ++ drop c.width_of-w.result c.args.book.now) c.fund_head.ensures)).1

pub returns : goal.returns
returns c =
    let r = c.stretch_at.ensures in
    let part = rw (r.start_value, r.end, part_is) at c.account_rest.ensures in
    rw (r.start_value, r.end, middle_put)
    (rest_moved _ _ _ _ _ _ _ _ c.requires c.width_of-w.ensures (ap (λ (s : List ℕ). s ++ drop c.width_of-w.result c.args.book.now) c.fund_head.ensures) _
    (ap (put_stretch _ _ _) part))
