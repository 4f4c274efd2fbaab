-- `trades::set_price` meets its contract: the tests have the answer, and only an accepted price is written.
use mathlib.Core.Path.{sym, ap, ◌∙◌}
use Rattle.rules.specs.Replies.{answer_reply}
use Rattle.rules.proofs.Replies.{leaves_before}
use Rattle.trades.proofs.set_price.Goals as goal

pub returns-in_err-price_answer-clause-prices : goal.returns-in_err-price_answer-clause-prices
returns-in_err-price_answer-clause-prices c = leaves_before _ _ _ _ (ap answer_reply (sym c.in_err-price_answer.was) ∙ rw c.count.ensures at c.price_answer.ensures)
