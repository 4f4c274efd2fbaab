-- A trade: what the seller gives the buyer takes, in stock and in cash.
use mathlib.Core.Path.{◌≡◌, refl, sym, ap, subst, ◌∙◌}
use mathlib.Core.List.{List}
use Prim.Native.Nat.{ℕ, ◌+◌, ◌-◌, ◌*◌, ◌≤◌, ◌<◌}
use native.Mathlib.Decide.{ℕ_discrete}
use native.Mathlib.Omega.{arith}
use lib.ListN.{length}
use Rattle.sequences.specs.Same.{when_same}
use Rattle.sequences.specs.Stretch.{over}
use Rattle.sequences.proofs.Same.{when_same_lem, when_other}
use Rattle.sequences.proofs.Stretch.{stretch-length, Changed, changed_both, changed_over}
use Rattle.lots.specs.declared.Lots.{Lots}
use Rattle.lots.specs.Lots.{sell_of, buy_of, lots_total}
use Rattle.layout.specs.Places.{lines_from}
use Rattle.layout.specs.Day.{Day}
use Rattle.layout.specs.Book.{cash, created, redeemed, head_at, put_head, lots_at, on_line, width, account, head_total, line_total, behind_line, counter}
use Rattle.rules.specs.declared.Kind.{Kind}
use Rattle.rules.specs.declared.Kind.TheVariants.{Creation, Redemption}
use Rattle.rules.specs.Orders.{number_of, count_of, fund_count}
use Rattle.rules.specs.Trade.{sell_side, buy_side, trade_moves, traded_book}
use Rattle.rules.proofs.SoundDay.{Kept, sound_moved}
use Rattle.rules.proofs.SoundAccount.{account_within}
use Rattle.rules.proofs.Sides.{number-below, side-length, side_cash, side_counter, side_line, side_other}
use Rattle.rules.proofs.Accepted.{Trades, trade_facts}
use Rattle.rules.specs.Lent.{Lent}
use Rattle.balance.specs.Calls.{State, trade, step}
use Rattle.balance.specs.Counts.{call_sold, call_bought, call_got, call_handed_in, call_created, call_redeemed, call_created_by_all, call_redeemed_by_all}
use Rattle.balance.proofs.Relation.{Drawn, drawn_same, drawn_sell, drawn_buy, drawn_eq, stays_same, Rises, Keeps, call_tally, AcceptedKeeps}

-- a side of a trade: an account's stretch s became s', with f of the line's lots and with cash c
record Side (line c : ℕ) (f : Lots → Lots) (s s' : List ℕ) : Type 0 where
  money : head_at s' cash ≡ c
  counters : (k : ℕ) → 0 < k → k < lines_from → head_at s' k ≡ head_at s k
  here : lots_at s' line ≡ f (lots_at s line)
  elsewhere : (l : ℕ) → (line ≡ l → ⊥) → lots_at s' l ≡ lots_at s l

side_is : (line c : ℕ) (f : Lots → Lots) (s s' : List ℕ) → s' ≡ put_head cash c (on_line f line s) → behind_line line ≤ length s → Side line c f s s'
side_is line c f s s' e h =
    rw e
    (record {
      money = side_cash f line c s h;
      counters = side_counter f line c s;
      here = side_line f line c s h;
      elsewhere = λ l n. side_other f line c s l (λ q. n (sym q));
    })

-- on each line it is drawn so much, and nothing but on the trade's line
side_drawn : {line c : ℕ} {f : Lots → Lots} {s s' : List ℕ} (sold bought : ℕ → ℕ) → Side line c f s s' → Drawn (lots_at s line) (f (lots_at s line)) (sold line) (bought line) 0 0
    → ((l : ℕ) → (line ≡ l → ⊥) → (sold l ≡ 0) × (bought l ≡ 0)) → (l : ℕ) → Dec (line ≡ l) → Drawn (lots_at s l) (lots_at s' l) (sold l) (bought l) 0 0
side_drawn {line} {c} {f} {s} {s'} sold bought x d none l (yes q) =
    subst (λ (i : ℕ). Drawn (lots_at s i) (lots_at s' i) (sold i) (bought i) 0 0) q (drawn_eq x.here refl refl refl refl d)
side_drawn {s = s} sold bought x d none l (no n) = drawn_eq (x.elsewhere l n) (none l n).0 (none l n).1 refl refl (drawn_same (lots_at s l))

module _ (d : Day) (b ps : List ℕ) (line q p seller buyer : ℕ) (t : Trades d b ps line q p seller buyer) where
  abbrev after : List ℕ
  after = trade_moves d.count line q p seller buyer b

  abbrev from : State
  from = record { day = d; book = b; prices = ps }

  abbrev to : State
  to = record { day = d; book = after; prices = ps }

  -- an account's stretch has its width
  long : (a : ℕ) → a < d.accounts → behind_line line ≤ length (account d b a)
  long a h = omega (arith, stretch-length (width d) b a (account_within t.sound a h), t.line_in_lem)

  changed : Changed (width d) b after seller buyer (sell_side line q (q * p) (account d b seller)) (buy_side line q (q * p) (account d b buyer))
  unfolding trade_moves sell_side buy_side
  changed =
      changed_both (width d) b seller buyer (sell_side line q (q * p)) (buy_side line q (q * p)) t.two (account_within t.sound seller t.seller_in) (account_within t.sound buyer t.buyer_in)
      (λ s. side-length (λ x. sell_of x q) line (head_at s cash + q * p) s)
      (λ s. side-length (λ x. buy_of x q) line (head_at s cash - q * p) s)

  sums : (g : List ℕ → ℕ) → over (width d) d.accounts g after + (g (account d b seller) + g (account d b buyer))
      ≡ over (width d) d.accounts g b + (g (account d after seller) + g (account d after buyer))
  sums g = omega (arith, changed_over d.accounts g changed t.seller_in t.buyer_in t.two, ap g changed.first, ap g changed.second)

  sells : Side line (head_at (account d b seller) cash + q * p) (λ x. sell_of x q) (account d b seller) (account d after seller)
  unfolding sell_side
  sells = side_is line _ _ _ _ changed.first (long seller t.seller_in)

  buys : Side line (head_at (account d b buyer) cash - q * p) (λ x. buy_of x q) (account d b buyer) (account d after buyer)
  unfolding buy_side
  buys = side_is line _ _ _ _ changed.second (long buyer t.buyer_in)

  money : head_total d after cash ≡ head_total d b cash
  unfolding head_total
  money = omega (arith, sums (λ x. head_at x cash), t.money, sells.money, buys.money)

  counter_total : (k : ℕ) → 0 < k → k < lines_from → head_total d after k ≡ head_total d b k
  unfolding head_total
  counter_total k h i = omega (arith, sums (λ x. head_at x k), sells.counters k h i, buys.counters k h i)

  -- what seller and buyer have of a line together
  abbrev both : List ℕ → ℕ → ℕ
  both book l = lots_total (lots_at (account d book seller) l) + lots_total (lots_at (account d book buyer) l)

  stock : (l : ℕ) → line_total d after l ≡ line_total d b l
  unfolding line_total
  stock l = omega (arith, sums (λ s. lots_total (lots_at s l)), cancels (ℕ_discrete line l))
    where
      cancels : Dec (line ≡ l) → both after l ≡ both b l
      cancels (yes e) = subst (λ (i : ℕ). both after i ≡ both b i) e (omega (arith, ap lots_total sells.here, ap lots_total buys.here, t.stock))
      cancels (no n) = omega (arith, ap lots_total (sells.elsewhere l n), ap lots_total (buys.elsewhere l n))

  -- each account's counters
  count_same : (k a : ℕ) → 0 < k → k < lines_from → Dec (seller ≡ a) → Dec (buyer ≡ a) → head_at (account d after a) k ≡ head_at (account d b a) k
  count_same k a h i (yes e) f = subst (λ (j : ℕ). head_at (account d after j) k ≡ head_at (account d b j) k) e (sells.counters k h i)
  count_same k a h i (no m) (yes e) = subst (λ (j : ℕ). head_at (account d after j) k ≡ head_at (account d b j) k) e (buys.counters k h i)
  count_same k a h i (no m) (no n) = ap (λ (x : List ℕ). head_at x k) (changed.others a (λ e. m (sym e)) (λ e. n (sym e)))

  rises : (kind : Kind) → Rises from to kind (λ a. 0) 0
  unfolding count_of fund_count
  rises kind =
      record {
        counts = λ a i. omega (arith, count_same (counter (number_of kind)) a (omega arith) (omega (arith, number-below kind)) (ℕ_discrete seller a) (ℕ_discrete buyer a));
        fund_count_lem = omega (arith, counter_total (counter (number_of kind)) (omega arith) (omega (arith, number-below kind)));
      }

  -- each account's lots
  abbrev sold : ℕ → ℕ → ℕ
  sold a l = when_same seller a (when_same line l q)

  abbrev bought : ℕ → ℕ → ℕ
  bought a l = when_same buyer a (when_same line l q)

  abbrev Goal : ℕ → ℕ → Type 0
  Goal a l = Drawn (lots_at (account d b a) l) (lots_at (account d after a) l) (sold a l) (bought a l) 0 0

  at_seller : (l : ℕ) → Goal seller l
  at_seller l =
      side_drawn (sold seller) (bought seller) sells
      (drawn_eq refl (when_same_lem seller seller _ refl ∙ when_same_lem line line q refl) (when_other buyer seller _ t.two) refl refl (drawn_sell (lots_at (account d b seller) line) q t.stock))
      (λ i n. (when_same_lem seller seller _ refl ∙ when_other line i q n, when_other buyer seller _ t.two))
      l (ℕ_discrete line l)

  at_buyer : (l : ℕ) → Goal buyer l
  at_buyer l =
      side_drawn (sold buyer) (bought buyer) buys
      (drawn_eq refl (when_other seller buyer _ (λ e. t.two (sym e))) (when_same_lem buyer buyer _ refl ∙ when_same_lem line line q refl) refl refl (drawn_buy (lots_at (account d b buyer) line) q))
      (λ i n. (when_other seller buyer _ (λ e. t.two (sym e)), when_same_lem buyer buyer _ refl ∙ when_other line i q n))
      l (ℕ_discrete line l)

  lots : (a l : ℕ) → Dec (seller ≡ a) → Dec (buyer ≡ a) → Goal a l
  lots a l (yes e) f = subst (λ (i : ℕ). Goal i l) e (at_seller l)
  lots a l (no m) (yes e) = subst (λ (i : ℕ). Goal i l) e (at_buyer l)
  lots a l (no m) (no n) =
      drawn_eq (ap (λ (s : List ℕ). lots_at s l) (changed.others a (λ e. m (sym e)) (λ e. n (sym e))))
      (when_other seller a _ m) (when_other buyer a _ n) refl refl
      (drawn_same (lots_at (account d b a) l))

  -- the fund does not trade
  fund_same : account d after 0 ≡ account d b 0
  fund_same = changed.others 0 (λ e. omega (arith, t.seller_low)) (λ e. omega (arith, t.buyer_low))

  kept : Kept d b ps → Kept d after ps
  kept k =
      let s = k.sound in
      record {
        sound =
            sound_moved s changed.size (λ l h. stock l) (omega (arith, stock d.count, s.book.units)) money
            (omega (arith, counter_total created (omega arith) (omega arith), s.book.created_most))
            (omega (arith, counter_total redeemed (omega arith) (omega arith), s.book.redeemed_most))
            (λ j h i. ap (λ (x : List ℕ). head_at x j) fund_same)
            (ap (λ (x : List ℕ). (lots_at x d.count).old) fund_same)
            (λ l h. ap (λ (x : List ℕ). (lots_at x l).bought) fund_same)
            (λ l h. ap (λ (x : List ℕ). (lots_at x l).got) fund_same);
        room = omega (arith, k.room, stock d.count, counter_total created (omega arith) (omega arith));
      }

  moves_keep : Kept d b ps → (made : Lent) (n : ℕ) → Keeps from to (call_tally d (trade line q p seller buyer) made n)
  unfolding call_sold call_bought call_got call_handed_in call_created call_redeemed call_created_by_all call_redeemed_by_all
  moves_keep k made n =
      record {
        kept = kept k;
        stays = stays_same;
        money = money;
        stock = λ l h. stock l;
        units = omega (arith, stock d.count);
        lots = λ a l pos h i. lots a l (ℕ_discrete seller a) (ℕ_discrete buyer a);
        fund_sold = λ l. when_other seller 0 (when_same line l q) (λ e. omega (arith, t.seller_low));
        fund_handed = λ l. refl;
        created = rises Creation;
        redeemed = rises Redemption;
      }

pub trade_keeps : (s : State) (line q p seller buyer : ℕ) (lent : Lent) → AcceptedKeeps s (trade line q p seller buyer) lent
unfolding step traded_book
trade_keeps s line q p seller buyer lent k e = rw e (moves_keep s.day s.book s.prices line q p seller buyer (trade_facts _ _ _ _ _ _ _ _ e) k _ _)
