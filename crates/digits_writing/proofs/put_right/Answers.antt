-- `digits_writing::put_right` meets its contract: the blanks, and the number at their end.
use Rattle.std.proofs.Common.{rules}
use Rattle.digits_writing.proofs.Ending.{right_put}
use Rattle.digits_writing.proofs.put_right.Goals as goal

pub returns : goal.returns
returns c = right_put _ _ (c.fill.ensures.after (λ y e. search rules)) c.requires c.put_signed.ensures
