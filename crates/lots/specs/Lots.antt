-- Lots: the three lots of one line of one account, and what each kind of move makes of them.
use Rattle.std.specs.Prelude.{ℕ, ◌+◌, ◌-◌}
use Rattle.lots.specs.declared.Lots.{Lots}

-- a sale takes the got lot first, then old
abbrev pub sell_of : Lots → ℕ → Lots
sell_of l q = record { old = l.old - (q - l.got); bought = l.bought; got = l.got - q }

-- handing in takes the bought lot first, then old
abbrev pub hand_in_of : Lots → ℕ → Lots
hand_in_of l q = record { old = l.old - (q - l.bought); bought = l.bought - q; got = l.got }

-- a purchase goes to bought
abbrev pub buy_of : Lots → ℕ → Lots
buy_of l q = record { old = l.old; bought = l.bought + q; got = l.got }

-- units created and stock redeemed go to got
abbrev pub get_of : Lots → ℕ → Lots
get_of l q = record { old = l.old; bought = l.bought; got = l.got + q }

-- the fund takes in by its old lot
abbrev pub take_in_of : Lots → ℕ → Lots
take_in_of l q = record { old = l.old + q; bought = l.bought; got = l.got }

-- the fund pays out by its old lot
abbrev pub pay_out_of : Lots → ℕ → Lots
pay_out_of l q = record { old = l.old - q; bought = l.bought; got = l.got }

-- what can be sold: bought shares can't be sold that day
abbrev pub sellable : Lots → ℕ
sellable l = l.got + l.old

-- what can be handed in: got shares can't be handed in that day
abbrev pub handable : Lots → ℕ
handable l = l.bought + l.old

-- all three lots together
abbrev pub lots_total : Lots → ℕ
lots_total l = l.old + l.bought + l.got
