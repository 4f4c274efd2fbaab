-- `driver::run` meets its contract: the rows with what the test of the day says, and demand 3 of what they leave.
use Rattle.driver.proofs.Whole.{run_meets}
use Rattle.driver.proofs.run.Goals as goal

pub returns-clause-demand : goal.returns-clause-demand
returns-clause-demand c = run_meets _ _ _ _ _ c.run_rows.ensures.work
