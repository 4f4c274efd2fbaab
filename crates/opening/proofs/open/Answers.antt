-- `opening::open` meets its contract: where the answer is done, the book, the prices and the day are what the accepted opening leaves;
-- where it is a refusal, nothing changes.
use mathlib.Core.Path.{◌≡◌}
use native.Mathlib.Omega.{arith}
use lib.ListN.{length}
use borrow.Author.Rules.{rules}
use Rattle.std.proofs.lemmas.Result.{err_from_is_err_and}
use Rattle.layout.specs.Places.{limit_count}
use Rattle.rules.specs.Opening.{Opening}
use Rattle.opening.specs.Given.{given_in}
use Rattle.opening.proofs.Answer.{done_sizes, outcome_done, outcome_refused}
use Rattle.opening.proofs.open.Goals.{Start}
use Rattle.opening.proofs.open.Goals as goal

-- what is opened
abbrev opening : Start → Opening
opening c = given_in c.args.given c.args.book.now c.args.prices.now c.args.day.now

-- the fund has all its limits
limits : (c : Start) → length c.args.given.head.fund.limits ≡ limit_count
limits c = search rules

pub open_book-requires : goal.open_book-requires
open_book-requires c =
    let s = done_sizes (opening (goal.at.open_book-requires c).Start) c.in_ok-opening_answer.ensures in
    record { count_le_most_components = (s.own.count_high, s.own.book_size); holdings_len = s.holdings_size }

pub put_day-requires : goal.put_day-requires
put_day-requires c =
    let s = done_sizes (opening (goal.at.put_day-requires c).Start) c.in_ok-opening_answer.ensures in
    record { day_len = s.day_size; table_len = s.table_size; components_len_bound = omega (arith, s.components_size, s.own.count_high) }

pub returns : goal.returns
returns c =
    let start = (goal.at.returns c).Start in
    outcome_done (opening start) c.in_ok-opening_answer.ensures _ _ _ (limits start) c.open_book.ensures (c.fill.ensures.after (λ y e. search rules)) c.put_day.ensures

pub returns-in_err-opening_answer : goal.returns-in_err-opening_answer
returns-in_err-opening_answer c =
    let p = err_from_is_err_and c.from_residual.result c.from_residual.ensures.1 in
    rw (p.1, p.2) (outcome_refused (opening (goal.at.returns-in_err-opening_answer c).Start) c.in_err-opening_answer.field-0.0 c.in_err-opening_answer.ensures)
