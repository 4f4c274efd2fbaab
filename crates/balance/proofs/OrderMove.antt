-- An order of either kind: its account's side and the fund's, and that they keep what a list of events keeps.
use mathlib.Core.Path.{◌≡◌, refl, sym, ap, subst, ◌∙◌}
use mathlib.Core.List.{List}
use Prim.Native.Nat.{ℕ, ◌+◌, ◌≤◌, ◌<◌}
use native.Mathlib.Decide.{ℕ_discrete, dec_lt}
use native.Mathlib.Omega.{arith}
use lib.ListN.{length}
use Rattle.sequences.specs.Same.{when_same}
use Rattle.sequences.specs.Stretch.{over, on_stretch}
use Rattle.sequences.proofs.Same.{when_same_lem, when_other}
use Rattle.sequences.proofs.Stretch.{stretch-length, Changed, changed_both, changed_over}
use Rattle.lots.specs.declared.Lots.{Lots}
use Rattle.lots.specs.Lots.{lots_total}
use Rattle.fund.specs.Fund.{ceiling}
use Rattle.layout.specs.Places.{lines_from}
use Rattle.layout.specs.Day.{Day}
use Rattle.layout.specs.Book.{cash, head_at, lots_at, width, account, head_total, line_total, behind_line, counter}
use Rattle.rules.specs.declared.Kind.{Kind}
use Rattle.rules.specs.declared.Kind.TheVariants.{Creation, Redemption}
use Rattle.rules.specs.Orders.{number_of, opposite_kind, count_of, fund_count, account_side, fund_side}
use Rattle.rules.proofs.SoundDay.{SoundDay, Kept, sound_moved}
use Rattle.rules.proofs.SoundAccount.{account_within}
use Rattle.rules.proofs.Sides.{number-below, account-length, account_cash_lem, account_count, account_head, account_line, account_unit, fund-length, fund_cash_lem, fund_head, fund_line, fund_unit}
use Rattle.rules.proofs.Accepted.{Orders}
use Rattle.balance.specs.Calls.{State}
use Rattle.balance.proofs.Relation.{lots_in, fund_count_in, Tally, Drawn, drawn_same, drawn_eq, stays_same, Rises, Keeps}

-- what an order makes of its account's components, units and cash, and of the fund's components and cash
pub record Move : Type 0 where
  pub component : ℕ → Lots → Lots
  pub unit : Lots → Lots
  pub cash_after : List ℕ → ℕ
  pub fund_component : ℕ → Lots → Lots
  pub fund_cash_after : List ℕ → ℕ

-- what a move does to the stretches s of its account and f of the fund, with n components: cash and stock only change hands, so
-- many units are made or go, and the account gets and hands in so much of each line
pub record Settles (n : ℕ) (s f : List ℕ) (m : Move) (made gone : ℕ) (got handed : ℕ → ℕ) : Type 0 where
  pub money : m.cash_after s + m.fund_cash_after f ≡ head_at s cash + head_at f cash
  pub lines : (l : ℕ) → l < n → Drawn (lots_at s l) (m.component l (lots_at s l)) 0 0 (got l) (handed l)
  pub units : Drawn (lots_at s n) (m.unit (lots_at s n)) 0 0 (got n) (handed n)
  pub got_units : got n ≡ made
  pub handed_units : handed n ≡ gone
  pub fund_lines : (l : ℕ) → l < n → lots_total (m.fund_component l (lots_at f l)) + got l ≡ lots_total (lots_at f l) + handed l
  pub fund_bought : (l : ℕ) (x : Lots) → (m.fund_component l x).bought ≡ x.bought
  pub fund_got : (l : ℕ) (x : Lots) → (m.fund_component l x).got ≡ x.got

module _ (d : Day) (b ps : List ℕ) (kind : Kind) (a units : ℕ) (m : Move) (sound : SoundDay d b ps) (order : Orders d b kind a units) where
  abbrev investor : List ℕ
  investor = account d b a

  abbrev fund : List ℕ
  fund = account d b 0

  abbrev investor_side : List ℕ → List ℕ
  investor_side s = account_side d.count kind units m.component m.unit (m.cash_after s) s

  abbrev fund_side_lem : List ℕ → List ℕ
  fund_side_lem s = fund_side d.count m.fund_component (m.fund_cash_after s) s

  abbrev investor_after : List ℕ
  investor_after = investor_side investor

  abbrev fund_after : List ℕ
  fund_after = fund_side_lem fund

  abbrev moved : List ℕ
  moved = on_stretch (width d) a investor_side (on_stretch (width d) 0 fund_side_lem b)

  abbrev before : State
  before = record { day = d; book = b; prices = ps }

  abbrev after : State
  after = record { day = d; book = moved; prices = ps }

  first-in : 0 < d.accounts
  first-in = omega (arith, sound.own.accounts_low)

  wide : behind_line d.count ≤ length investor
  wide = omega (arith, stretch-length (width d) b a (account_within sound a order.account_in))

  fund_wide : behind_line d.count ≤ length fund
  fund_wide = omega (arith, stretch-length (width d) b 0 (account_within sound 0 first-in))

  not_fund : a ≡ 0 → ⊥
  not_fund q = omega (arith, order.account_low)

  changed : Changed (width d) b moved 0 a fund_after investor_after
  changed =
      changed_both (width d) b 0 a fund_side_lem investor_side not_fund (account_within sound 0 first-in) (account_within sound a order.account_in)
      (λ s. fund-length d.count m.fund_component (m.fund_cash_after s) s)
      (λ s. account-length d.count kind units m.component m.unit (m.cash_after s) s)

  sums : (v : List ℕ → ℕ) → over (width d) d.accounts v moved + (v fund + v investor) ≡ over (width d) d.accounts v b + (v fund_after + v investor_after)
  sums v = changed_over d.accounts v changed first-in order.account_in not_fund

  -- the account's lots after, and the fund's
  line_after : (l : ℕ) → l < d.count → lots_at investor_after l ≡ m.component l (lots_at investor l)
  line_after l i = account_line d.count kind units m.component m.unit (m.cash_after investor) investor wide l i

  unit_after : lots_at investor_after d.count ≡ m.unit (lots_at investor d.count)
  unit_after = account_unit d.count kind units m.component m.unit (m.cash_after investor) investor wide

  fund_line_after : (l : ℕ) → l < d.count → lots_at fund_after l ≡ m.fund_component l (lots_at fund l)
  fund_line_after l i = fund_line d.count m.fund_component (m.fund_cash_after fund) fund (omega (arith, fund_wide)) l i

  fund_unit_after : lots_at fund_after d.count ≡ lots_at fund d.count
  fund_unit_after = fund_unit d.count m.fund_component (m.fund_cash_after fund) fund

  fund_heads : (k : ℕ) → 0 < k → k < lines_from → head_at (account d moved 0) k ≡ head_at fund k
  fund_heads k p q = ap (λ (x : List ℕ). head_at x k) changed.first ∙ fund_head d.count m.fund_component (m.fund_cash_after fund) fund k p q

  -- counters: the order's own kind rises for its account and fund-wide, the other kind stays
  own_count : head_at investor_after (counter (number_of kind)) ≡ head_at investor (counter (number_of kind)) + units
  own_count = account_count d.count kind units m.component m.unit (m.cash_after investor) investor wide

  numbers_differ : (k : Kind) → counter (number_of (opposite_kind k)) ≡ counter (number_of k) → ⊥
  numbers_differ Creation q = omega arith
  numbers_differ Redemption q = omega arith

  other_count : head_at investor_after (counter (number_of (opposite_kind kind))) ≡ head_at investor (counter (number_of (opposite_kind kind)))
  other_count =
      account_head d.count kind units m.component m.unit (m.cash_after investor) investor (counter (number_of (opposite_kind kind)))
      (omega arith) (omega (arith, number-below (opposite_kind kind))) (numbers_differ kind)

  other_account : (j : Kind) (i : ℕ) → (i ≡ a → ⊥) → Dec (i ≡ 0) → count_of d moved j i ≡ count_of d b j i
  unfolding count_of
  other_account j i n (yes q) =
      subst (λ (k : ℕ). head_at (account d moved k) (counter (number_of j)) ≡ head_at (account d b k) (counter (number_of j))) (sym q)
      (fund_heads (counter (number_of j)) (omega arith) (omega (arith, number-below j)))
  other_account j i n (no p) = ap (λ (x : List ℕ). head_at x (counter (number_of j))) (changed.others i p n)

  rises : (j : Kind) (all : ℕ) (more : ℕ → ℕ) → head_at investor_after (counter (number_of j)) ≡ head_at investor (counter (number_of j)) + all → more a ≡ all
      → ((i : ℕ) → (a ≡ i → ⊥) → more i ≡ 0) → Rises before after j more all
  unfolding count_of fund_count head_total
  rises j all more e own none =
      let here = fund_head d.count m.fund_component (m.fund_cash_after fund) fund (counter (number_of j)) (omega arith) (omega (arith, number-below j)) in
      record {
        counts = λ i h. case i (ℕ_discrete a i);
        fund_count_lem = omega (arith, sums (λ x. head_at x (counter (number_of j))), here);
      }
    where
      case : (i : ℕ) → Dec (a ≡ i) → count_of d moved j i ≡ count_of d b j i + more i
      case i (yes q) =
          subst (λ (k : ℕ). count_of d moved j k ≡ count_of d b j k + more k) q (omega (arith, ap (λ (x : List ℕ). head_at x (counter (number_of j))) changed.second))
      case i (no n) = omega (arith, other_account j i (λ q. n (sym q)) (ℕ_discrete i 0), none i n)

  pub own_rises : Rises before after kind (λ i. when_same a i units) units
  own_rises = rises kind units (λ i. when_same a i units) own_count (when_same_lem a a units refl) (λ i n. when_other a i units n)

  pub other_stays : Rises before after (opposite_kind kind) (λ i. 0) 0
  other_stays = rises (opposite_kind kind) 0 (λ i. 0) (omega (arith, other_count)) refl (λ i n. refl)

  -- what it keeps where the move settles so, with the counters' rise and the ceiling
  module _ {made gone : ℕ} {got handed each-made each-gone : ℕ → ℕ} (x : Settles d.count investor fund m made gone got handed)
      (created : Rises before after Creation each-made made) (redeemed : Rises before after Redemption each-gone gone)
      (below : fund_count_in before Creation + made ≤ ceiling) (redeemed-below : fund_count_in before Redemption + gone ≤ ceiling) where
    money_kept : head_total d moved cash ≡ head_total d b cash
    unfolding head_total
    money_kept =
        omega (
          arith,
          sums (λ s. head_at s cash),
          x.money,
          account_cash_lem d.count kind units m.component m.unit (m.cash_after investor) investor wide,
          fund_cash_lem d.count m.fund_component (m.fund_cash_after fund) fund (omega (arith, fund_wide)),
        )

    stock_kept : (l : ℕ) → l < d.count → line_total d moved l ≡ line_total d b l
    unfolding line_total
    stock_kept l i =
        omega (
          arith,
          sums (λ s. lots_total (lots_at s l)),
          ap lots_total (line_after l i),
          ap lots_total (fund_line_after l i),
          x.lines l i,
          x.fund_lines l i,
        )

    units_kept : line_total d moved d.count + gone ≡ line_total d b d.count + made
    unfolding line_total
    units_kept =
        omega (
          arith,
          sums (λ s. lots_total (lots_at s d.count)),
          ap lots_total unit_after,
          ap lots_total fund_unit_after,
          x.units,
          x.got_units,
          x.handed_units,
        )

    -- what the fund's move leaves of a lot, the fund keeps on every line
    fund_keeps : (v : Lots → ℕ) → ((l : ℕ) (y : Lots) → v (m.fund_component l y) ≡ v y) → (l : ℕ) → l < d.count + 1 → v (lots_at (account d moved 0) l) ≡ v (lots_at fund l)
    fund_keeps v same l i = ap (λ (s : List ℕ). v (lots_at s l)) changed.first ∙ case (dec_lt l d.count)
      where
        case : Dec (l < d.count) → v (lots_at fund_after l) ≡ v (lots_at fund l)
        case (yes p) = ap v (fund_line_after l p) ∙ same l (lots_at fund l)
        case (no p) =
            let q : d.count ≡ l = omega arith in
            subst (λ (j : ℕ). v (lots_at fund_after j) ≡ v (lots_at fund j)) q (ap v fund_unit_after)

    kept : Kept d b ps → Kept d moved ps
    unfolding fund_count
    kept k =
        record {
          sound =
              sound_moved sound changed.size stock_kept (omega (arith, units_kept, k.room, below)) money_kept
              (omega (arith, created.fund_count_lem, below))
              (omega (arith, redeemed.fund_count_lem, redeemed-below))
              fund_heads
              (ap (λ (s : List ℕ). (lots_at s d.count).old) changed.first ∙ ap (λ (y : Lots). y.old) fund_unit_after)
              (fund_keeps (λ y. y.bought) x.fund_bought)
              (fund_keeps (λ y. y.got) x.fund_got);
          room = omega (arith, k.room, units_kept, created.fund_count_lem, below);
        }

    -- each account's lots
    abbrev Goal : ℕ → ℕ → Type 0
    Goal i l = Drawn (lots_in before i l) (lots_in after i l) 0 0 (when_same a i (got l)) (when_same a i (handed l))

    at_account : (l : ℕ) → l ≤ d.count → Dec (l < d.count) → Goal a l
    at_account l i (yes j) =
        drawn_eq (ap (λ (s : List ℕ). lots_at s l) changed.second ∙ line_after l j) refl refl (when_same_lem a a _ refl) (when_same_lem a a _ refl) (x.lines l j)
    at_account l i (no j) =
        let q : d.count ≡ l = omega arith in
        subst (λ (k : ℕ). Goal a k) q
        (drawn_eq (ap (λ (s : List ℕ). lots_at s d.count) changed.second ∙ unit_after) refl refl (when_same_lem a a _ refl) (when_same_lem a a _ refl) x.units)

    lots : (i l : ℕ) → 0 < i → l ≤ d.count → Dec (a ≡ i) → Goal i l
    lots i l pos j (yes q) = subst (λ (k : ℕ). Goal k l) q (at_account l j (dec_lt l d.count))
    lots i l pos j (no r) =
        drawn_eq (ap (λ (s : List ℕ). lots_at s l) (changed.others i (λ q. omega arith) (λ q. r (sym q)))) refl refl
        (when_other a i _ r) (when_other a i _ r)
        (drawn_same (lots_in before i l))

    abbrev tally : Tally
    tally =
        record {
          sold = λ i l. 0;
          bought = λ i l. 0;
          got = λ i l. when_same a i (got l);
          handed = λ i l. when_same a i (handed l);
          created = each-made;
          redeemed = each-gone;
          all_created = made;
          all_redeemed = gone;
        }

    pub order_keeps : Kept d b ps → Keeps before after tally
    order_keeps k =
        record {
          kept = kept k;
          stays = stays_same;
          money = money_kept;
          stock = stock_kept;
          units = units_kept;
          lots = λ i l pos j r. lots i l pos r (ℕ_discrete a i);
          fund_sold = λ l. refl;
          fund_handed = λ l. when_other a 0 _ not_fund;
          created = created;
          redeemed = redeemed;
        }
