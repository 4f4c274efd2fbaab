-- What the code of opening is given, and the parts of its work.
use Rattle.std.specs.Prelude.{ℕ, ◌+◌, ◌≡◌, ⊤, true, List, Result, get_or}
use Rattle.sequences.specs.Checks.{is_accepted}
use Rattle.sequences.specs.Stretch.{stretch_of, over}
use Rattle.layout.specs.declared.Fund.{Fund}
use Rattle.layout.specs.Day.{day_at}
use Rattle.opening.specs.declared.Given.{Given}
use Rattle.rules.specs.declared.Refusal.{Refusal}
use Rattle.rules.specs.Replies.{answer_reply}
use Rattle.rules.specs.Opening.{Opening, cash_opened, held_opened, most_of_line, DayTotals, opening_reply, opened_day, opened_run, opened_book, opened_prices}

-- opening's arguments as one
abbrev pub given : ℕ → ℕ → Fund → List ℕ → List ℕ → List ℕ → List ℕ → List ℕ → List ℕ → Opening
given accounts count fund table components holdings book prices day =
    record {
      accounts = accounts;
      count = count;
      fund = fund;
      table = table;
      components = components;
      holdings = holdings;
      book = book;
      prices = prices;
      day = day;
    }

-- the same of the code's
abbrev pub given_in : Given → List ℕ → List ℕ → List ℕ → Opening
given_in g = given g.head.accounts g.head.count g.head.fund g.table.now g.components.now g.holdings.now

-- opening's answer, and what it leaves of the book, the prices and the day
pub record Outcome (o : Opening) (answer : Result ⊤ Refusal) (book prices day : List ℕ) : Type 0 where
  pub answer_is : answer_reply answer ≡ opening_reply o
  pub book_is : book ≡ opened_book o
  pub prices_is : prices ≡ opened_prices o
  pub day_is : day ≡ opened_run o
  -- the run that an accepted opening leaves says the opened day
  pub day_says : is_accepted (opening_reply o) ≡ true → day_at day ≡ opened_day o

-- the totals that refusal 4 looks at: as they stand in a list, cash first, and of the holdings of so many accounts
abbrev pub totals_in : List ℕ → ℕ → DayTotals
totals_in t fund_units =
    record { line = λ l. get_or t (1 + l) 0; units_most = most_of_line; fund_units = fund_units; cash_total = get_or t 0 0 }

abbrev pub totals_of : ℕ → ℕ → List ℕ → DayTotals
totals_of accounts n holdings =
    record {
      line = λ l. over (n + 2) accounts (held_opened l) holdings;
      units_most = most_of_line;
      fund_units = held_opened n (stretch_of (n + 2) holdings 0);
      cash_total = over (n + 2) accounts cash_opened holdings;
    }
