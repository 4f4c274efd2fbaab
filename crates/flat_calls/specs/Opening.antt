-- Opening with the fund and the flag table as runs of numbers: refusal 1 where the fund has not its width, else as opening.
use Rattle.std.specs.Prelude.{ℕ, ◌≡◌, true, cond, List, eqb, length}
use Rattle.sequences.specs.Checks.{Reply, reply, is_accepted}
use Rattle.layout.specs.Places.{fund_width}
use Rattle.layout.specs.Fund.{fund_at}
use Rattle.layout.specs.Day.{day_at}
use Rattle.rules.specs.Replies.{if_accepted}
use Rattle.rules.specs.Opening.{Opening, opening_reply, opened_day, opened_run, opened_book, opened_prices}
use Rattle.opening.specs.Given.{given}
use Rattle.answers.specs.Numbers.{Told}
use Rattle.flat_calls.specs.Table.{numbers_given}

-- opening's arguments, with the fund that its numbers say; a table of another length than a table's is refused by opening itself
abbrev pub flat_given : ℕ → ℕ → List ℕ → List ℕ → List ℕ → List ℕ → List ℕ → List ℕ → List ℕ → Opening
flat_given accounts count fund table components holdings book prices day =
    given accounts count (fund_at fund 0) (numbers_given table) components holdings book prices day

unfoldable pub flat_reply : List ℕ → Opening → Reply
flat_reply fund o = cond (eqb (length fund) fund_width) (opening_reply o) (reply 1 0 0)

-- an accepted opening leaves its book, prices and day, and the run of the day says it; a refused one leaves all as it was lent
pub record FlatOutcome (fund : List ℕ) (o : Opening) (number place value : ℕ) (book prices day : List ℕ) : Type 0 where
  pub told : Told (flat_reply fund o) number place value
  pub book_is : book ≡ if_accepted (flat_reply fund o) (opened_book o) o.book
  pub prices_is : prices ≡ if_accepted (flat_reply fund o) (opened_prices o) o.prices
  pub day_is : day ≡ if_accepted (flat_reply fund o) (opened_run o) o.day
  pub day_says : is_accepted (flat_reply fund o) ≡ true → day_at day ≡ opened_day o
