-- `digits_reading::read_number` meets its contract: where the form has a width, the blanks are passed first.
use Rattle.std.proofs.Common.{◌∙◌, rules}
use Rattle.digits.proofs.Sign.{number_plain, number_right}
use Rattle.digits_reading.proofs.read_number.Goals as goal

pub returns-then-is_none : goal.returns-then-is_none
returns-then-is_none c = c.read_signed.ensures ∙ number_plain _ _ (search rules)

pub returns : goal.returns
returns c = c.read_signed-2.ensures ∙ rw c.trimmed.ensures (number_right _ _ (search rules))
