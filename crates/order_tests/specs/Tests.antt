-- The third stage of an order as the code runs it: from a scan of the basket.
use Rattle.std.specs.Prelude.{ℕ, not, List, [], ◌∷◌, Option, Some, None, Result, Ok, Err, ltb}
use Rattle.sequences.specs.Checks.{Check, check, Reply, answering}
use Rattle.units.specs.declared.Money.{Money}
use Rattle.units.specs.Units.{ratio_bound}
use Rattle.layout.specs.Day.{Day}
use Rattle.rules.specs.declared.Refusal.{Refusal}
use Rattle.rules.specs.declared.Ask.{Ask}
use Rattle.rules.specs.declared.Rooms.{Rooms}
use Rattle.rules.specs.Replies.{refusal_reply, made_reply}
use Rattle.rules.specs.Value.{reference_value, has_value}
use Rattle.rules.specs.Kinds.{counts_by, asked_means}
use Rattle.order_tests.specs.declared.Accepted.{Accepted}

-- 14 and 15, where stock is missing for which cash stands
unfoldable pub ratio_tests : Day → List ℕ → ℕ → Option Money → List Check
ratio_tests d ps m None = []
ratio_tests d ps m (Some worth) =
    check (not (has_value d ps)) 14 0
    ∷ check (ltb (ratio_bound m d.fund.basket_size (reference_value d ps) d.fund.max_cash_ratio.0) worth.0) 15 0
    ∷ []

-- the answer of the tests as a reply
abbrev pub accepted_reply : Result Accepted Refusal → Reply
accepted_reply (Ok accepted) = made_reply accepted.counts
accepted_reply (Err why) = refusal_reply why

-- the answer of the third stage, for an account with the stretch s and a fund with the stretch f
unfoldable pub means_answer : Day → List ℕ → List ℕ → List ℕ → Ask → Rooms → Reply
means_answer d s f ps ask rooms = answering (asked_means d s f ps ask rooms) (made_reply (counts_by d s ps ask))
