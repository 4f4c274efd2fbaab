-- `list_writing::write` meets its contract: an accepted list fits, so it can be written.
use Rattle.std.proofs.Common.{length}
use Rattle.sequences.specs.Checks.{is_accepted}
use Rattle.list_rules.specs.Writing.{listed}
use Rattle.list_trip.proofs.Users.{accepted_fits}
use Rattle.list_writing.proofs.write.Goals as goal

pub put_list-requires : goal.put_list-requires
unfolding is_accepted
put_list-requires c =
    let told = c.in_ok-checked.ensures in
    rw (told.checked.0, told.checked.1) (accepted_fits c.args.table.now (listed c.args.list.now) (length c.args.output.now) (rw (← told.answer))).1
