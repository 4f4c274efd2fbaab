-- `sound::is_sound` meets its contract: its tests are those that make a day sound.
use native.Mathlib.Omega.{arith}
use Rattle.std.proofs.lemmas.Grind.{common_steps}
use Rattle.sequences.specs.Every.{every}
use Rattle.sound.proofs.Day.{sound_tests}
use Rattle.sound.proofs.is_sound.Goals as goal

pub returns-then-fund_still : goal.returns-then-fund_still
unfolding every
returns-then-fund_still c =
    let a = c.args in
    let basket = c.basket-basket in
    let tests = sound_tests a.day.now a.book.now a.prices.now basket.result.now c.table-table.ensures c.accounts-accounts.ensures c.count-n.ensures c.fund-fund.ensures basket.ensures.components in
    rw tests (grind (arith, common_steps))

pub returns-else-fund_still : goal.returns-else-fund_still
unfolding every
returns-else-fund_still c =
    let a = c.args in
    let basket = c.basket-basket in
    let tests = sound_tests a.day.now a.book.now a.prices.now basket.result.now c.table-table.ensures c.accounts-accounts.ensures c.count-n.ensures c.fund-fund.ensures basket.ensures.components in
    rw tests (grind (arith, common_steps))
