-- The price call: it sets its component's price and nothing else.
use Rattle.std.specs.Prelude.{ℕ, not, List, [], ◌∷◌, leb, set}
use Rattle.sequences.specs.Every.{inside}
use Rattle.sequences.specs.Checks.{Check, check, Reply, answered}
use Rattle.layout.specs.Day.{Day}
use Rattle.rules.specs.Replies.{if_accepted}
use Rattle.rules.specs.Sound.{on_sound_day, most_price}

-- in a fund of n components
unfoldable pub price_checks : ℕ → ℕ → ℕ → List Check
price_checks n line price =
    check (leb n line) 6 0
    ∷ check (not (inside 1 most_price price)) 7 0
    ∷ []

unfoldable pub price_reply : Day → List ℕ → List ℕ → ℕ → ℕ → Reply
price_reply d b ps line price = answered (on_sound_day d b ps (price_checks d.count line price)) 0

unfoldable pub priced_prices : Day → List ℕ → List ℕ → ℕ → ℕ → List ℕ
priced_prices d b ps line price = if_accepted (price_reply d b ps line price) (set ps line price) ps
