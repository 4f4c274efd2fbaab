-- `trades::trade` meets its contract: the tests have the answer, and only an accepted trade is moved.
use mathlib.Core.Path.{sym, ap, ◌∙◌}
use Rattle.rules.specs.Replies.{answer_reply}
use Rattle.rules.proofs.Replies.{leaves_before}
use Rattle.trades.proofs.trade.Goals as goal

pub returns-in_err-trade_answer-clause-book : goal.returns-in_err-trade_answer-clause-book
returns-in_err-trade_answer-clause-book c = leaves_before _ _ _ _ (ap answer_reply (sym c.in_err-trade_answer.was) ∙ c.trade_answer.ensures)
