-- What an accepted call has passed, fact by fact.
use mathlib.Core.Path.{◌≡◌, sym}
use mathlib.Core.Bool.{true, false}
use mathlib.Core.List.{List, [], ◌∷◌}
use Prim.Native.Nat.{ℕ, ◌+◌, ◌-◌, ◌*◌, ◌%◌, ◌≤◌, ◌<◌}
use native.Mathlib.Omega.{arith}
use lib.Dec.{leb, eqb}
use borrow.Author.Tests.{leb-true, ltb-false, leb-false, eqb-true, eqb-false, not-false}
use Rattle.std.proofs.lemmas.Bool.Decides.{nat_tests}
use Rattle.sequences.specs.Every.{every, inside}
use Rattle.sequences.specs.Checks.{is_accepted}
use Rattle.sequences.proofs.Below.{first_all, first_stops}
use Rattle.sequences.proofs.Every.{every_at, inside_facts}
use Rattle.sequences.proofs.Checks.{all_passed, accepted_reply}
use Rattle.lots.specs.Lots.{sellable}
use Rattle.fund.specs.Fund.{ceiling, cumulative_limit, cumulative_limit_each, net_limit, net_limit_each}
use Rattle.layout.specs.Day.{Day}
use Rattle.layout.specs.Book.{cash, head_at, lots_at, account}
use Rattle.rules.specs.declared.Kind.{Kind}
use Rattle.rules.specs.declared.Kind.TheVariants.{Creation, Redemption}
use Rattle.rules.specs.declared.Rooms.{Rooms}
use Rattle.rules.specs.declared.Counts.{Counts}
use Rattle.rules.specs.Replies.{made_reply}
use Rattle.rules.specs.Lent.{too_short}
use Rattle.rules.specs.Sound.{on_sound_day, most_price}
use Rattle.rules.specs.Price.{price_checks, price_reply}
use Rattle.rules.specs.Trade.{is_investor, trade_means, trade_checks, trade_reply}
use Rattle.rules.specs.Orders.{limit_for, opposite_kind, baskets, most_baskets, whole_baskets, form_checks, switch_allows, within_limit, count_of, fund_count, within_limits, permission_checks}
use Rattle.rules.specs.Creation.{first_short, is_short, creation_due, creation_counts, creation_means, creation_checks, creation_reply}
use Rattle.rules.specs.Redemption.{delivered, fund_lacks, first_lacking, units_available, redemption_paid, redemption_counts, redemption_means, redemption_checks, redemption_reply}
use Rattle.rules.proofs.SoundDay.{SoundDay, sound_facts}

-- an account other than the fund
pub investor_facts : (accounts a : ℕ) → 2 ≤ accounts → is_investor accounts a ≡ true → (0 < a) × (a < accounts)
unfolding is_investor
investor_facts accounts a two e = let p = inside_facts 1 (accounts - 1) a e in (p.0, omega arith)

pub record Prices (d : Day) (b ps : List ℕ) (line price : ℕ) : Type 0 where
  pub sound : SoundDay d b ps
  pub line_in_lem : line < d.count
  pub price_low : 1 ≤ price
  pub price_high : price ≤ most_price

pub price_facts : (d : Day) (b ps : List ℕ) (line price : ℕ) → is_accepted (price_reply d b ps line price) ≡ true → Prices d b ps line price
unfolding price_reply price_checks
price_facts d b ps line price e =
    let p = all_passed (on_sound_day d b ps (price_checks d.count line price)) _ tt e in
    let r = inside_facts 1 most_price price (not-false _ p.1.1.0) in
    record {
      sound = sound_facts d b ps (not-false _ p.0);
      line_in_lem = leb-false _ _ p.1.0;
      price_low = r.0;
      price_high = r.1;
    }

pub record Trades (d : Day) (b ps : List ℕ) (line q price seller buyer : ℕ) : Type 0 where
  pub sound : SoundDay d b ps
  pub line_in_lem : line ≤ d.count
  pub quantity_low : 1 ≤ q
  pub quantity_high : q ≤ 999_999_999
  pub price_low : 1 ≤ price
  pub price_high : price ≤ most_price
  pub seller_low : 0 < seller
  pub seller_in : seller < d.accounts
  pub buyer_low : 0 < buyer
  pub buyer_in : buyer < d.accounts
  pub two : buyer ≡ seller → ⊥
  pub stock : q ≤ sellable (lots_at (account d b seller) line)
  pub money : q * price ≤ head_at (account d b buyer) cash

pub trade_facts : (d : Day) (b ps : List ℕ) (line q price seller buyer : ℕ) → is_accepted (trade_reply d b ps line q price seller buyer) ≡ true → Trades d b ps line q price seller buyer
unfolding trade_reply trade_checks trade_means
trade_facts d b ps line q price seller buyer e =
    let p = all_passed (on_sound_day d b ps (trade_checks d.accounts d.count b line q price seller buyer)) _ tt e in
    let sound = sound_facts d b ps (not-false _ p.0) in
    let qs = inside_facts 1 999_999_999 q (not-false _ p.1.1.0) in
    let prices = inside_facts 1 most_price price (not-false _ p.1.1.1.0) in
    let sells = investor_facts d.accounts seller sound.own.accounts_low (not-false _ p.1.1.1.1.0) in
    let buys = investor_facts d.accounts buyer sound.own.accounts_low (not-false _ p.1.1.1.1.1.0) in
    record {
      sound = sound;
      line_in_lem = ltb-false _ _ p.1.0;
      quantity_low = qs.0;
      quantity_high = qs.1;
      price_low = prices.0;
      price_high = prices.1;
      seller_low = sells.0;
      seller_in = sells.1;
      buyer_low = buys.0;
      buyer_in = buys.1;
      two = λ h. eqb-false seller buyer p.1.1.1.1.1.1.0 (sym h);
      stock = ltb-false _ _ p.1.1.1.1.1.1.1.0;
      money = ltb-false _ _ p.1.1.1.1.1.1.1.1.0;
    }

-- a limit is within where it is 0 or at least the units
pub limit_fact : (limit units : ℕ) → within_limit limit units ≡ true → 0 < limit → units ≤ limit
unfolding within_limit
limit_fact limit units e pos = grind (arith, nat_tests)

-- what the first two stages of an order say, for a kind of order
pub record Orders (d : Day) (b : List ℕ) (kind : Kind) (a units : ℕ) : Type 0 where
  pub account_low : 0 < a
  pub account_in : a < d.accounts
  pub whole : units % d.fund.basket_size ≡ 0
  pub baskets_low : 1 ≤ baskets d units
  pub baskets_high : baskets d units ≤ most_baskets
  pub limit : 0 < limit_for d cumulative_limit kind → fund_count d b kind + units ≤ limit_for d cumulative_limit kind
  pub limit_each : 0 < limit_for d cumulative_limit_each kind → count_of d b kind a + units ≤ limit_for d cumulative_limit_each kind
  pub net_limit_lem : 0 < limit_for d net_limit kind → fund_count d b kind + units - fund_count d b (opposite_kind kind) ≤ limit_for d net_limit kind
  pub net_limit_each_lem : 0 < limit_for d net_limit_each kind → count_of d b kind a + units - count_of d b (opposite_kind kind) a ≤ limit_for d net_limit_each kind
  pub below_ceiling : fund_count d b kind + units ≤ ceiling

pub order_facts : (d : Day) (b : List ℕ) (kind : Kind) (a units : ℕ) → 2 ≤ d.accounts → is_investor d.accounts a ≡ true → whole_baskets most_baskets d units ≡ true
    → within_limits d b kind a units ≡ true → Orders d b kind a units
unfolding whole_baskets within_limits
order_facts d b kind a units two i w l =
    let who = investor_facts d.accounts a two i in
    let whole = every_at (eqb (units % d.fund.basket_size) 0 ∷ inside 1 most_baskets (baskets d units) ∷ []) w in
    let count = inside_facts 1 most_baskets (baskets d units) (whole 1) in
    let at =
    every_at
    (within_limit (limit_for d cumulative_limit kind) (fund_count d b kind + units)
    ∷ within_limit (limit_for d cumulative_limit_each kind) (count_of d b kind a + units)
    ∷ within_limit (limit_for d net_limit kind) (fund_count d b kind + units - fund_count d b (opposite_kind kind))
    ∷ within_limit (limit_for d net_limit_each kind) (count_of d b kind a + units - count_of d b (opposite_kind kind) a)
    ∷ leb (fund_count d b kind + units) ceiling
    ∷ []) l in
    record {
      account_low = who.0;
      account_in = who.1;
      whole = eqb-true _ _ (whole 0);
      baskets_low = count.0;
      baskets_high = count.1;
      limit = limit_fact _ _ (at 0);
      limit_each = limit_fact _ _ (at 1);
      net_limit_lem = limit_fact _ _ (at 2);
      net_limit_each_lem = limit_fact _ _ (at 3);
      below_ceiling = leb-true _ _ (at 4);
    }

-- the three lists have room
pub record Listed (rooms : Rooms) (counts : Counts) : Type 0 where
  pub records : counts.records ≤ rooms.records
  pub investor : counts.reports ≤ rooms.investor
  pub fund : counts.reports ≤ rooms.fund

listed_facts : (rooms : Rooms) (counts : Counts) → too_short rooms counts ≡ false → Listed rooms counts
unfolding too_short every
listed_facts rooms counts e = grind (arith, nat_tests)

-- an accepted creation
pub record Creates (d : Day) (b ps : List ℕ) (a units : ℕ) (rooms : Rooms) : Type 0 where
  pub sound : SoundDay d b ps
  pub order : Orders d b Creation a units
  pub allowed : switch_allows d Creation ≡ true
  pub stocked : (i : ℕ) → i < d.count → is_short d (account d b a) (baskets d units) i ≡ false
  pub money : creation_due d (account d b a) ps (baskets d units) ≤ head_at (account d b a) cash
  pub listed : Listed rooms (creation_counts d (account d b a) ps units)

pub creation_facts : (d : Day) (b ps : List ℕ) (a units : ℕ) (rooms : Rooms) → is_accepted (creation_reply d b ps a units rooms) ≡ true → Creates d b ps a units rooms
unfolding creation_reply creation_checks form_checks permission_checks creation_means first_short
creation_facts d b ps a units rooms e =
    let p = all_passed (on_sound_day d b ps (creation_checks d b ps a units rooms)) _ tt e in
    let sound = sound_facts d b ps (not-false _ p.0) in
    let short = first_stops (is_short d (account d b a) (baskets d units)) d.count p.1.1.1.1.1.0 in
    record {
      sound = sound;
      order = order_facts d b Creation a units sound.own.accounts_low (not-false _ p.1.0) (not-false _ p.1.1.0) (not-false _ p.1.1.1.1.0);
      allowed = not-false _ p.1.1.1.0;
      stocked = first_all (is_short d (account d b a) (baskets d units)) d.count short;
      money = ltb-false _ _ p.1.1.1.1.1.1.1.1.0;
      listed = listed_facts rooms _ p.1.1.1.1.1.1.1.1.1.0;
    }

-- its reply has the counts of records and reports
pub creation_made : (d : Day) (b ps : List ℕ) (a units : ℕ) (rooms : Rooms) → is_accepted (creation_reply d b ps a units rooms) ≡ true
    → creation_reply d b ps a units rooms ≡ made_reply (creation_counts d (account d b a) ps units)
unfolding creation_reply creation_checks form_checks permission_checks creation_means
creation_made d b ps a units rooms e = accepted_reply (on_sound_day d b ps (creation_checks d b ps a units rooms)) _ tt e

-- an accepted redemption
pub record Redeems (d : Day) (b ps : List ℕ) (a units : ℕ) (rooms : Rooms) : Type 0 where
  pub sound : SoundDay d b ps
  pub order : Orders d b Redemption a units
  pub allowed : switch_allows d Redemption ≡ true
  -- units created today, which are got, are not among them
  pub handed : units ≤ (lots_at (account d b a) d.count).bought + (lots_at (account d b a) d.count).old
  pub stocked : (i : ℕ) → i < d.count → delivered d (baskets d units) i ≤ (lots_at (account d b 0) i).old
  pub money : redemption_paid d (baskets d units) ≤ head_at (account d b 0) cash
  pub listed : Listed rooms (redemption_counts d units)

pub redemption_facts : (d : Day) (b ps : List ℕ) (a units : ℕ) (rooms : Rooms) → is_accepted (redemption_reply d b ps a units rooms) ≡ true → Redeems d b ps a units rooms
unfolding redemption_reply redemption_checks form_checks permission_checks redemption_means units_available first_lacking fund_lacks
redemption_facts d b ps a units rooms e =
    let p = all_passed (on_sound_day d b ps (redemption_checks d b a units rooms)) _ tt e in
    let sound = sound_facts d b ps (not-false _ p.0) in
    let lacks = first_stops (fund_lacks d (account d b 0) (baskets d units)) d.count p.1.1.1.1.1.1.0 in
    record {
      sound = sound;
      order = order_facts d b Redemption a units sound.own.accounts_low (not-false _ p.1.0) (not-false _ p.1.1.0) (not-false _ p.1.1.1.1.0);
      allowed = not-false _ p.1.1.1.0;
      handed = omega (arith, ltb-false (units_available d (account d b a)) units p.1.1.1.1.1.0);
      stocked = λ i h. ltb-false _ _ (first_all (fund_lacks d (account d b 0) (baskets d units)) d.count lacks i h);
      money = ltb-false _ _ p.1.1.1.1.1.1.1.0;
      listed = listed_facts rooms _ p.1.1.1.1.1.1.1.1.0;
    }

pub redemption_made : (d : Day) (b ps : List ℕ) (a units : ℕ) (rooms : Rooms) → is_accepted (redemption_reply d b ps a units rooms) ≡ true
    → redemption_reply d b ps a units rooms ≡ made_reply (redemption_counts d units)
unfolding redemption_reply redemption_checks form_checks permission_checks redemption_means
redemption_made d b ps a units rooms e = accepted_reply (on_sound_day d b ps (redemption_checks d b a units rooms)) _ tt e
