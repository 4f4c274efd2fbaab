-- `text_head::pass_line` meets its contract: the line has its end, and the test says of it what it says.
use mathlib.Core.Path.{refl}
use Rattle.text_head.proofs.Lines.{passed_other, passed_on}
use Rattle.text_head.proofs.pass_line.Goals as goal

pub returns-then-test : goal.returns-then-test
returns-then-test g c =
    let line = (rw c.in_ok-line.ensures.ok_part at c.first_line.ensures).line in
    λ said f. passed_on said _ _ _ line.0 _ line.1 _ (f _ _ (_, c.test.ensures, refl)) c.if-test.true

pub returns-else-test : goal.returns-else-test
returns-else-test g c =
    let line = (rw c.in_ok-line.ensures.ok_part at c.first_line.ensures).line in
    λ said f. passed_other said _ _ _ line.0 _ line.1 _ (f _ _ (_, c.test.ensures, refl)) c.if-test.false
