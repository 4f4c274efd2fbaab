-- `digits_reading::read_whole` meets its contract: the shape is tested first, then each digit.
use Rattle.std.proofs.Common.{sym, ◌∙◌}
use Rattle.digits.proofs.Read.{whole_ill, whole_known}
use Rattle.digits_reading.proofs.read_whole.Goals as goal

pub returns-then-not-is_shaped : goal.returns-then-not-is_shaped
returns-then-not-is_shaped g c = whole_ill _ _ _ (sym c.is_shaped.ensures ∙ c.if-not-is_shaped.true)

pub returns : goal.returns
returns g c = c.read_digits.ensures ∙ whole_known _ _ (sym c.is_shaped.ensures ∙ c.if-not-is_shaped.false)
