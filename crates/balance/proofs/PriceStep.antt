-- A price call: the book stays, and the prices stay in their range.
use mathlib.Core.Path.{◌≡◌, subst⁻¹, ◌∙◌}
use mathlib.Core.List.{List}
use Prim.Native.Nat.{ℕ, ◌≤◌, ◌<◌}
use native.Mathlib.Decide.{ℕ_discrete}
use native.Mathlib.Omega.{arith}
use lib.ListN.{length, set, length-set}
use lib.Seq.{get_or-set_same, get_or-set_other}
use Rattle.layout.specs.Day.{Day}
use Rattle.rules.specs.Lines.{price_of}
use Rattle.rules.specs.Sound.{most_price}
use Rattle.rules.specs.Price.{priced_prices}
use Rattle.rules.proofs.SoundDay.{PricesSound, kept_priced}
use Rattle.rules.proofs.Accepted.{Prices, price_facts}
use Rattle.rules.specs.Lent.{Lent}
use Rattle.balance.specs.Calls.{State, price, step}
use Rattle.balance.specs.Counts.{call_sold, call_bought, call_got, call_handed_in, call_created, call_redeemed, call_created_by_all, call_redeemed_by_all}
use Rattle.balance.proofs.Relation.{keeps_same, AcceptedKeeps}

module _ (d : Day) (b ps : List ℕ) (line p : ℕ) (h : Prices d b ps line p) where
  price_in : (i : ℕ) → i < d.count → Dec (i ≡ line) → price_of (set ps line p) i ≤ most_price
  unfolding price_of
  price_in i l (yes e) =
      let size = h.sound.prices.prices_size in
      let inside : line < length ps = omega (arith, h.line_in_lem) in
      subst⁻¹ (λ (k : ℕ). price_of (set ps line p) k ≤ most_price) e (omega (arith, get_or-set_same ps line p 0 inside, h.price_high))
  price_in i l (no n) = omega (arith, get_or-set_other ps line i p 0 n, h.sound.prices.prices_most i l)

  priced : PricesSound d (set ps line p)
  priced =
      record {
        prices_size = length-set ps line p ∙ h.sound.prices.prices_size;
        prices_most = λ i l. price_in i l (ℕ_discrete i line);
      }

pub price_keeps : (s : State) (line p : ℕ) (lent : Lent) → AcceptedKeeps s (price line p) lent
unfolding step priced_prices call_sold call_bought call_got call_handed_in call_created call_redeemed call_created_by_all call_redeemed_by_all
price_keeps s line p lent k e = rw e (keeps_same (kept_priced k (priced s.day s.book s.prices line p (price_facts _ _ _ _ _ e))))
