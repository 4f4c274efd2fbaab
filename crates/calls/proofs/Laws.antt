-- From the core's answer to the call's: on a day that is not sound the answer is 5 and everything stays, and else they are the same.
-- And what a core asks is so on a sound day.
use mathlib.Core.Path.{◌≡◌, sym, ap}
use mathlib.Core.Bool.{true, false}
use mathlib.Core.List.{List}
use Prim.Native.Nat.{ℕ}
use lib.ListN.{length, set}
use Rattle.sequences.specs.Checks.{Check, Reply, reply, answering, answered}
use Rattle.layout.specs.Day.{Day}
use Rattle.rules.specs.declared.Refusal.TheVariants.{UnsoundDay}
use Rattle.rules.specs.Replies.{if_accepted}
use Rattle.rules.specs.Sound.{is_sound, on_sound_day}
use Rattle.rules.specs.Price.{price_checks, price_reply, priced_prices}
use Rattle.rules.specs.Trade.{trade_checks, trade_reply, trade_moves, traded_book}
use Rattle.rules.specs.Value.{reference_value, value_checks, value_reply}
use Rattle.rules.proofs.SoundDay.{sound_facts}
use Rattle.rules.proofs.Replies.{on_sound, on_unsound, leaves_before}
use Rattle.trades.specs.Fits.{BookFits}
use Rattle.trades.proofs.Laws.{sound_fits}
use Rattle.value.specs.Worth.{Priceable}
use Rattle.value.proofs.Laws as value

module _ (d : Day) (b ps : List ℕ) (unsound : is_sound d b ps ≡ false) where
  pub five : (cs : List Check) (r : Reply) → reply 5 0 0 ≡ answering (on_sound_day d b ps cs) r
  five cs r = sym (on_unsound d b ps cs r unsound)

  pub price_five : (line p : ℕ) → reply 5 0 0 ≡ price_reply d b ps line p
  unfolding price_reply
  price_five line p = five (price_checks d.count line p) _

  pub prices_five : (line p : ℕ) → ps ≡ priced_prices d b ps line p
  unfolding priced_prices
  prices_five line p = leaves_before _ _ UnsoundDay _ (price_five line p)

  pub trade_five : (line q p seller buyer : ℕ) → reply 5 0 0 ≡ trade_reply d b ps line q p seller buyer
  unfolding trade_reply
  trade_five line q p seller buyer = five (trade_checks d.accounts d.count b line q p seller buyer) _

  pub traded_five : (line q p seller buyer : ℕ) → b ≡ traded_book d b ps line q p seller buyer
  unfolding traded_book
  traded_five line q p seller buyer = leaves_before _ _ UnsoundDay _ (trade_five line q p seller buyer)

  pub value_five : reply 5 0 0 ≡ value_reply d b ps
  unfolding value_reply
  value_five = five (value_checks d ps) _

module _ (d : Day) (b ps : List ℕ) (sound : is_sound d b ps ≡ true) where
  pub own : (cs : List Check) (r : Reply) → answering cs r ≡ answering (on_sound_day d b ps cs) r
  own cs r = sym (on_sound d b ps cs r sound)

  pub price_own : (line p : ℕ) → answered (price_checks d.count line p) 0 ≡ price_reply d b ps line p
  unfolding price_reply
  price_own line p = own (price_checks d.count line p) _

  pub prices_own : (line p : ℕ) → if_accepted (answered (price_checks d.count line p) 0) (set ps line p) ps ≡ priced_prices d b ps line p
  unfolding priced_prices
  prices_own line p = ap (λ (r : Reply). if_accepted r (set ps line p) ps) (price_own line p)

  pub trade_own : (line q p seller buyer : ℕ)
      → answered (trade_checks d.accounts d.count b line q p seller buyer) 0 ≡ trade_reply d b ps line q p seller buyer
  unfolding trade_reply
  trade_own line q p seller buyer = own (trade_checks d.accounts d.count b line q p seller buyer) _

  pub traded_own : (line q p seller buyer : ℕ)
      → if_accepted (answered (trade_checks d.accounts d.count b line q p seller buyer) 0) (trade_moves d.count line q p seller buyer b) b
      ≡ traded_book d b ps line q p seller buyer
  unfolding traded_book
  traded_own line q p seller buyer =
      ap (λ (r : Reply). if_accepted r (trade_moves d.count line q p seller buyer b) b) (trade_own line q p seller buyer)

  pub value_own : answered (value_checks d ps) (reference_value d ps) ≡ value_reply d b ps
  unfolding value_reply
  value_own = own (value_checks d ps) _

  -- what the cores ask
  pub prices_long : length ps ≡ d.count
  prices_long = (sound_facts d b ps sound).prices.prices_size

  pub book_fits : BookFits d b
  book_fits = sound_fits d b ps (sound_facts d b ps sound)

  pub priceable : Priceable d ps
  priceable = value.priceable d b ps (sound_facts d b ps sound)
