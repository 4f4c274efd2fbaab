-- Demand 3: the whole list of calls, from an accepted opening on.
use mathlib.Core.Path.{◌≡◌, sym, ap, subst, ◌∙◌}
use mathlib.Core.Bool.{true}
use mathlib.Core.List.{List, [], ◌∷◌}
use Prim.Native.Nat.{ℕ, ◌+◌, ◌-◌, ◌≤◌, ◌<◌}
use native.Mathlib.Decide.{ℕ_discrete}
use native.Mathlib.Omega.{arith}
use lib.ListN.{get_or}
use Rattle.sequences.specs.Checks.{is_accepted}
use Rattle.sequences.specs.Stretch.{stretch_of}
use Rattle.lots.specs.declared.Lots.{Lots}
use Rattle.lots.proofs.Laws.{lots}
use Rattle.layout.specs.declared.Fund.{Fund}
use Rattle.layout.specs.declared.Component.{Component}
use Rattle.flags.specs.Table.{table_of}
use Rattle.fund.specs.Fund.{limit_of, cumulative_limit, cumulative_limit_each, net_limit, net_limit_each}
use Rattle.layout.specs.Components.{blank}
use Rattle.layout.specs.Day.{Day}
use Rattle.layout.specs.Book.{width_of, head_at, lots_at, account, counter}
use Rattle.rules.specs.Opening.{Opening, holdings_of, held_opened, opening_reply, opened_day, opened_stretch, opened_book}
use Rattle.rules.specs.declared.Kind.{Kind}
use Rattle.rules.specs.declared.Kind.TheVariants.{Creation, Redemption}
use Rattle.rules.specs.Orders.{number_of, opposite_kind, count_of, fund_count}
use Rattle.rules.proofs.OpenedDay.{opened_day_lem, opened_kept, opened_money, opened_line, opened_component, opened_account, opened_lots, opened_created, opened_redeemed, opened_counter}
use Rattle.balance.specs.Calls.{State, Event, step, Happened}
use Rattle.balance.specs.Counts.{counted, sold_by, bought_by, got_by, handed_in_by, created_by, redeemed_by, created_by_all, redeemed_by_all}
use Rattle.balance.specs.Balanced.{opened, Within, Balanced}
use Rattle.balance.proofs.Relation.{KeptState, line_in, count_in, fund_count_in, Tally, Rises, Keeps, keeps_same, keeps_then, result_tally}
use Rattle.balance.proofs.Steps.{step_keeps}
use Rattle.balance.proofs.Reported.{all_reported}
use Rattle.balance.proofs.Limits.{KindLimits, Limits, within_less, list_limits}

-- the counts of a list of events from the state s on
abbrev pub list_tally : State → List Event → Tally
list_tally s es =
    record {
      sold = λ a l. sold_by a l s es;
      bought = λ a l. bought_by a l s es;
      got = λ a l. got_by a l s es;
      handed = λ a l. handed_in_by a l s es;
      created = λ a. created_by a s es;
      redeemed = λ a. redeemed_by a s es;
      all_created = created_by_all s es;
      all_redeemed = redeemed_by_all s es;
    }

event_keeps : (s : State) (e : Event) → e.result ≡ step s e.call e.lent → KeptState s → Keeps s e.result.after (result_tally s.day e.call e.result)
event_keeps s e q k = rw q (step_keeps s e.call e.lent k)

pub list_keeps : (s : State) (es : List Event) (t : State) → Happened s es t → KeptState s → Keeps s t (list_tally s es)
unfolding Happened counted
list_keeps s [] t h k = subst (λ (u : State). Keeps s u (list_tally s [])) h (keeps_same k)
list_keeps s (e ∷ es) t h k =
    let first = event_keeps s e h.0 k in
    keeps_then first (list_keeps e.result.after es t h.1 first.kept)

-- in the opened book nothing is counted yet, and account a holds of line l what it opened with
module _ (o : Opening) (accepted : is_accepted (opening_reply o) ≡ true) where
  count_is : (opened_day o).count ≡ o.count
  count_is = ap (λ (d : Day). d.count) (opened_day_lem o accepted)

  accounts_is : (opened_day o).accounts ≡ o.accounts
  accounts_is = ap (λ (d : Day). d.accounts) (opened_day_lem o accepted)

  fund_is : (opened_day o).fund ≡ o.fund
  fund_is = ap (λ (d : Day). d.fund) (opened_day_lem o accepted)

  table_is : (opened_day o).table ≡ table_of o.table
  table_is = ap (λ (d : Day). d.table) (opened_day_lem o accepted)

  account_is : (a : ℕ) → a < (opened_day o).accounts → account (opened_day o) (opened_book o) a ≡ opened_stretch o.count (holdings_of o a)
  account_is a h = ap (λ (n : ℕ). stretch_of (width_of n) (opened_book o) a) count_is ∙ opened_account o accepted a (rw accounts_is at h)

  lots_are : (a l : ℕ) → a < (opened_day o).accounts → l ≤ (opened_day o).count → lots_at (account (opened_day o) (opened_book o) a) l ≡ lots (held_opened l (holdings_of o a)) 0 0
  lots_are a l h i = ap (λ (s : List ℕ). lots_at s l) (account_is a h) ∙ opened_lots o.count (holdings_of o a) l (omega (arith, count_is))

  head_none : (kind : Kind) → (h : List ℕ) → head_at (opened_stretch o.count h) (counter (number_of kind)) ≡ 0
  head_none Creation h = opened_created o.count h
  head_none Redemption h = opened_redeemed o.count h

  none_counted : (kind : Kind) (a : ℕ) → a < (opened_day o).accounts → count_in (opened o) kind a ≡ 0
  unfolding count_of
  none_counted kind a h = ap (λ (s : List ℕ). head_at s (counter (number_of kind))) (account_is a h) ∙ head_none kind (holdings_of o a)

  none_counted_all : (kind : Kind) → fund_count_in (opened o) kind ≡ 0
  unfolding fund_count
  none_counted_all kind = opened_counter o accepted (counter (number_of kind)) (head_none kind)

  opened_limits : (kind : Kind) → KindLimits (opened o) kind
  opened_limits kind =
      record {
        all = λ p. omega (arith, none_counted_all kind);
        each = λ a i p. omega (arith, none_counted kind a i);
        net = λ p. omega (arith, none_counted_all kind);
        net_each = λ a i p. omega (arith, none_counted kind a i);
      }

  -- the statement, for every list of events
  module _ (es : List Event) (t : State) (h : Happened (opened o) es t) where
    keeps : Keeps (opened o) t (list_tally (opened o) es)
    keeps = list_keeps (opened o) es t h (opened_kept o accepted)

    limits : Limits t
    limits = list_limits (opened o) es t h (opened_kept o accepted) (record { created = opened_limits Creation; redeemed = opened_limits Redemption })

    count_kept : t.day.count ≡ o.count
    count_kept = keeps.stays.count ∙ count_is

    accounts_kept : t.day.accounts ≡ o.accounts
    accounts_kept = keeps.stays.accounts ∙ accounts_is

    fund_kept : t.day.fund ≡ o.fund
    fund_kept = keeps.stays.fund ∙ fund_is

    -- sales and handing in are bounded by what was opened with and came in, by the drawing on the three lots
    bounds : (a l : ℕ) → a < o.accounts → l ≤ o.count → Dec (a ≡ 0)
        → (sold_by a l (opened o) es ≤ held_opened l (holdings_of o a) + got_by a l (opened o) es) × (handed_in_by a l (opened o) es ≤ held_opened l (holdings_of o a) + bought_by a l (opened o) es)
    bounds a l i j (yes q) =
        omega (arith, keeps.fund_sold l, keeps.fund_handed l, ap (λ (k : ℕ). sold_by k l (opened o) es) q, ap (λ (k : ℕ). handed_in_by k l (opened o) es) q)
    bounds a l i j (no n) =
        let a_in : a < (opened_day o).accounts = omega (arith, accounts_is) in
        let l-in : l ≤ (opened_day o).count = omega (arith, count_is) in
        let x = lots_are a l a_in l-in in
        omega (arith, keeps.lots a l (omega arith) a_in l-in, ap (λ (x : Lots). x.old) x, ap (λ (x : Lots). x.bought) x, ap (λ (x : Lots). x.got) x)

    -- the counters of the book are the counts from events
    module _ {kind : Kind} {each : ℕ → ℕ} {all : ℕ} (rises : Rises (opened o) t kind each all) where
      all_counted : fund_count_in t kind ≡ all
      all_counted = omega (arith, rises.fund_count_lem, none_counted_all kind)

      each_counted : (a : ℕ) → a < o.accounts → count_in t kind a ≡ each a
      each_counted a i = let a_in : a < (opened_day o).accounts = omega (arith, accounts_is) in omega (arith, rises.counts a a_in, none_counted kind a a_in)

    limit_is : (limit : ℕ) (kind : Kind) → limit_of o.fund limit (number_of kind) ≡ limit_of t.day.fund limit (number_of kind)
    limit_is limit kind = ap (λ (f : Fund). limit_of f limit (number_of kind)) (sym fund_kept)

    in_day : (a : ℕ) → a < o.accounts → a < t.day.accounts
    in_day a i = omega (arith, accounts_kept)

    -- so what was counted passes no limit on a kind of order
    module _ {kind : Kind} {each other_each : ℕ → ℕ} {all other_all : ℕ} (own : Rises (opened o) t kind each all) (other : Rises (opened o) t (opposite_kind kind) other_each other_all)
        (l : KindLimits t kind) where
      limit_held : Within (limit_of o.fund cumulative_limit (number_of kind)) all
      limit_held = within_less (limit_is cumulative_limit kind) (omega (arith, all_counted own)) l.all

      limit_each_held : (a : ℕ) → a < o.accounts → Within (limit_of o.fund cumulative_limit_each (number_of kind)) (each a)
      limit_each_held a i = within_less (limit_is cumulative_limit_each kind) (omega (arith, each_counted own a i)) (l.each a (in_day a i))

      net_held : Within (limit_of o.fund net_limit (number_of kind)) (all - other_all)
      net_held = within_less (limit_is net_limit kind) (omega (arith, all_counted own, all_counted other)) l.net

      net_each_held : (a : ℕ) → a < o.accounts → Within (limit_of o.fund net_limit_each (number_of kind)) (each a - other_each a)
      net_each_held a i = within_less (limit_is net_limit_each kind) (omega (arith, each_counted own a i, each_counted other a i)) (l.net_each a (in_day a i))

    pub demand_3 : Balanced o es t
    demand_3 =
        record {
          defined = h;
          reported = rw (ap (λ (f : Fund). f.first_code) fund_is) at (all_reported (opened o) es t h (opened_kept o accepted));
          accounts = accounts_kept;
          count = count_kept;
          fund = fund_kept;
          table = keeps.stays.table ∙ table_is;
          components = λ i l. ap (λ (cs : List Component). get_or cs i blank) keeps.stays.components ∙ opened_component o accepted i l;
          stock = λ l i. keeps.stock l (omega (arith, count_is)) ∙ opened_line o accepted l (omega arith);
          money = keeps.money ∙ opened_money o accepted;
          units = omega (arith, keeps.units, opened_line o accepted o.count (omega arith), ap (line_in t) count_kept, ap (line_in (opened o)) count_is);
          sales = λ a l i j. (bounds a l i j (ℕ_discrete a 0)).0;
          handing_in = λ a l i j. (bounds a l i j (ℕ_discrete a 0)).1;
          creation_limit = limit_held keeps.created keeps.redeemed limits.created;
          redemption_limit = limit_held keeps.redeemed keeps.created limits.redeemed;
          creation_limit_each = limit_each_held keeps.created keeps.redeemed limits.created;
          redemption_limit_each = limit_each_held keeps.redeemed keeps.created limits.redeemed;
          net_creation_limit = net_held keeps.created keeps.redeemed limits.created;
          net_redemption_limit = net_held keeps.redeemed keeps.created limits.redeemed;
          net_creation_limit_each = net_each_held keeps.created keeps.redeemed limits.created;
          net_redemption_limit_each = net_each_held keeps.redeemed keeps.created limits.redeemed;
        }
