-- The reference value: nothing changes.
use Rattle.rules.specs.Lent.{Lent}
use Rattle.balance.specs.Calls.{State, value, step}
use Rattle.balance.specs.Counts.{call_sold, call_bought, call_got, call_handed_in, call_created, call_redeemed, call_created_by_all, call_redeemed_by_all}
use Rattle.balance.proofs.Relation.{keeps_same, AcceptedKeeps}

pub value_keeps : (s : State) (lent : Lent) → AcceptedKeeps s value lent
unfolding step call_sold call_bought call_got call_handed_in call_created call_redeemed call_created_by_all call_redeemed_by_all
value_keeps s lent k e = keeps_same k
