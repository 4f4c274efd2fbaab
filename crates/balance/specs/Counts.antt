-- What is counted from the observed events. Only accepted calls count.
use Rattle.std.specs.Prelude.{ℕ, ◌+◌, ◌*◌, cond, List, [], ◌∷◌, ltb}
use Rattle.sequences.specs.Below.{sum_below}
use Rattle.sequences.specs.Checks.{is_accepted}
use Rattle.sequences.specs.Same.{when_same}
use Rattle.layout.specs.Day.{Day}
use Rattle.rules.specs.Lines.{code_of, quantity, moves_stock}
use Rattle.rules.specs.Orders.{baskets}
use Rattle.layout.specs.Records.{record_at}
use Rattle.rules.specs.Lent.{Lent}
use Rattle.balance.specs.Calls.{State, Call, Event, price, trade, create, redeem, value}

-- the quantity of the stock record with a component's code, among the first n records of a list
unfoldable pub stock_quantity : ℕ → List ℕ → ℕ → ℕ
stock_quantity code list n =
    sum_below (λ k. when_same (record_at list k).code code (record_at list k).quantity) n

-- counts of one call (call..): the quantity of line l that account a sold by it
unfoldable pub call_sold : ℕ → ℕ → Call → ℕ
call_sold a l (price line p) = 0
call_sold a l (trade line q p seller buyer) = when_same seller a (when_same line l q)
call_sold a l (create account units) = 0
call_sold a l (redeem account units) = 0
call_sold a l value = 0

unfoldable pub call_bought : ℕ → ℕ → Call → ℕ
call_bought a l (price line p) = 0
call_bought a l (trade line q p seller buyer) = when_same buyer a (when_same line l q)
call_bought a l (create account units) = 0
call_bought a l (redeem account units) = 0
call_bought a l value = 0

-- got: units of its creations, and M times Q of each component whose stock its redemptions move
unfoldable pub call_got : ℕ → ℕ → Day → Call → ℕ
call_got a l d (price line p) = 0
call_got a l d (trade line q p seller buyer) = 0
call_got a l d (create account units) = when_same account a (when_same d.count l units)
call_got a l d (redeem account units) =
    when_same account a (cond (ltb l d.count) (cond (moves_stock d l) (baskets d units * quantity d l) 0) 0)
call_got a l d value = 0

-- handed in: units of its redemptions, and the quantity of the stock record that a creation made among its n records
unfoldable pub call_handed_in : ℕ → ℕ → Day → Call → Lent → ℕ → ℕ
call_handed_in a l d (price line p) made n = 0
call_handed_in a l d (trade line q p seller buyer) made n = 0
call_handed_in a l d (create account units) made n =
    when_same account a (cond (ltb l d.count) (stock_quantity (code_of d l) made.records n) 0)
call_handed_in a l d (redeem account units) made n = when_same account a (when_same d.count l units)
call_handed_in a l d value made n = 0

-- units created and redeemed: by account a, and by all
unfoldable pub call_created : ℕ → Call → ℕ
call_created a (price line p) = 0
call_created a (trade line q p seller buyer) = 0
call_created a (create account units) = when_same account a units
call_created a (redeem account units) = 0
call_created a value = 0

unfoldable pub call_redeemed : ℕ → Call → ℕ
call_redeemed a (price line p) = 0
call_redeemed a (trade line q p seller buyer) = 0
call_redeemed a (create account units) = 0
call_redeemed a (redeem account units) = when_same account a units
call_redeemed a value = 0

unfoldable pub call_created_by_all : Call → ℕ
call_created_by_all (price line p) = 0
call_created_by_all (trade line q p seller buyer) = 0
call_created_by_all (create account units) = units
call_created_by_all (redeem account units) = 0
call_created_by_all value = 0

unfoldable pub call_redeemed_by_all : Call → ℕ
call_redeemed_by_all (price line p) = 0
call_redeemed_by_all (trade line q p seller buyer) = 0
call_redeemed_by_all (create account units) = 0
call_redeemed_by_all (redeem account units) = units
call_redeemed_by_all value = 0

-- counts over the events (..By), with the day in force at each
unfoldable pub counted : (Day → Event → ℕ) → State → List Event → ℕ
counted f s [] = 0
counted f s (e ∷ es) = cond (is_accepted e.result.reply) (f s.day e) 0 + counted f e.result.after es

abbrev pub sold_by : ℕ → ℕ → State → List Event → ℕ
sold_by a l = counted (λ d e. call_sold a l e.call)

abbrev pub bought_by : ℕ → ℕ → State → List Event → ℕ
bought_by a l = counted (λ d e. call_bought a l e.call)

abbrev pub got_by : ℕ → ℕ → State → List Event → ℕ
got_by a l = counted (λ d e. call_got a l d e.call)

abbrev pub handed_in_by : ℕ → ℕ → State → List Event → ℕ
handed_in_by a l = counted (λ d e. call_handed_in a l d e.call e.result.lent e.result.reply.value)

abbrev pub created_by : ℕ → State → List Event → ℕ
created_by a = counted (λ d e. call_created a e.call)

abbrev pub redeemed_by : ℕ → State → List Event → ℕ
redeemed_by a = counted (λ d e. call_redeemed a e.call)

abbrev pub created_by_all : State → List Event → ℕ
created_by_all = counted (λ d e. call_created_by_all e.call)

abbrev pub redeemed_by_all : State → List Event → ℕ
redeemed_by_all = counted (λ d e. call_redeemed_by_all e.call)
