-- One call of any kind, accepted or refused.
use mathlib.Core.Path.{◌≡◌, refl}
use mathlib.Core.Bool.{Bool, true, false}
use Rattle.sequences.specs.Checks.{is_accepted}
use Rattle.rules.specs.Price.{priced_prices}
use Rattle.rules.specs.Trade.{traded_book}
use Rattle.rules.specs.Creation.{created_book, created_lists}
use Rattle.rules.specs.Redemption.{redeemed_book, redeemed_lists}
use Rattle.rules.specs.Lent.{Lent}
use Rattle.balance.specs.Calls.{State, Call, price, trade, create, redeem, value, step}
use Rattle.balance.proofs.Relation.{KeptState, Keeps, keeps_same, tally_if, call_tally, result_tally, AcceptedKeeps}
use Rattle.balance.proofs.PriceStep.{price_keeps}
use Rattle.balance.proofs.TradeStep.{trade_keeps}
use Rattle.balance.proofs.CreateStep.{create_keeps}
use Rattle.balance.proofs.RedeemStep.{redeem_keeps}
use Rattle.balance.proofs.ValueStep.{value_keeps}

-- a refused call changes nothing, of the state and of what is lent
pub refusal_changes_nothing : (s : State) (c : Call) (lent : Lent) → is_accepted (step s c lent).reply ≡ false → ((step s c lent).after ≡ s) × ((step s c lent).lent ≡ lent)
unfolding step priced_prices traded_book created_book created_lists redeemed_book redeemed_lists
refusal_changes_nothing s (price line p) lent e = rw e (refl, refl)
refusal_changes_nothing s (trade line n p seller buyer) lent e = rw e (refl, refl)
refusal_changes_nothing s (create a units) lent e = rw e (refl, refl)
refusal_changes_nothing s (redeem a units) lent e = rw e (refl, refl)
refusal_changes_nothing s value lent e = (refl, refl)

pub accepted_keeps : (s : State) (c : Call) (lent : Lent) → AcceptedKeeps s c lent
accepted_keeps s (price line p) lent = price_keeps s line p lent
accepted_keeps s (trade line q p seller buyer) lent = trade_keeps s line q p seller buyer lent
accepted_keeps s (create a units) lent = create_keeps s a units lent
accepted_keeps s (redeem a units) lent = redeem_keeps s a units lent
accepted_keeps s value lent = value_keeps s lent

pub step_keeps : (s : State) (c : Call) (lent : Lent) → KeptState s → Keeps s (step s c lent).after (result_tally s.day c (step s c lent))
step_keeps s c lent k = go (is_accepted (step s c lent).reply) refl
  where
    go : (z : Bool) → is_accepted (step s c lent).reply ≡ z → Keeps s (step s c lent).after (tally_if z (call_tally s.day c (step s c lent).lent (step s c lent).reply.value))
    go true e = accepted_keeps s c lent k e
    go false e = rw (refusal_changes_nothing s c lent e).0 (keeps_same k)

-- every call keeps the kept property, accepted or refused
pub kept_step : (s : State) (c : Call) (lent : Lent) → KeptState s → KeptState (step s c lent).after
kept_step s c lent k = (step_keeps s c lent k).kept
