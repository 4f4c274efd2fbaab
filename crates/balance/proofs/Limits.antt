-- No limit is passed: an invariant of the states, by the counters of the book, with an induction of its own.
use mathlib.Core.Path.{◌≡◌, refl, sym, ap, subst}
use mathlib.Core.Bool.{Bool, true, false}
use mathlib.Core.List.{List, [], ◌∷◌}
use Prim.Native.Nat.{ℕ, ◌-◌, ◌≤◌, ◌<◌}
use native.Mathlib.Decide.{ℕ_discrete}
use native.Mathlib.Omega.{arith}
use Rattle.sequences.specs.Checks.{is_accepted}
use Rattle.sequences.specs.Same.{when_same}
use Rattle.sequences.proofs.Same.{when_same_lem, when_other}
use Rattle.layout.specs.declared.Fund.{Fund}
use Rattle.fund.specs.Fund.{limit_of, cumulative_limit, cumulative_limit_each, net_limit, net_limit_each}
use Rattle.rules.specs.declared.Kind.{Kind}
use Rattle.rules.specs.declared.Kind.TheVariants.{Creation, Redemption}
use Rattle.rules.specs.Orders.{number_of, opposite_kind, limit_for}
use Rattle.rules.proofs.Accepted.{Orders, creation_facts, redemption_facts}
use Rattle.rules.specs.Lent.{Lent}
use Rattle.balance.specs.Calls.{State, Call, Event, price, trade, create, redeem, value, step, Happened}
use Rattle.balance.specs.Counts.{call_created, call_redeemed, call_created_by_all, call_redeemed_by_all}
use Rattle.balance.specs.Balanced.{Within}
use Rattle.balance.proofs.Relation.{KeptState, count_in, fund_count_in, Tally, Stays, Rises, Keeps, call_tally}
use Rattle.balance.proofs.Steps.{refusal_changes_nothing, accepted_keeps, kept_step}

-- the limits on one kind of order, cumulative and net
pub record KindLimits (s : State) (kind : Kind) : Type 0 where
  pub all : Within (limit_for s.day cumulative_limit kind) (fund_count_in s kind)
  pub each : (a : ℕ) → a < s.day.accounts → Within (limit_for s.day cumulative_limit_each kind) (count_in s kind a)
  pub net : Within (limit_for s.day net_limit kind) (fund_count_in s kind - fund_count_in s (opposite_kind kind))
  pub net_each : (a : ℕ) → a < s.day.accounts → Within (limit_for s.day net_limit_each kind) (count_in s kind a - count_in s (opposite_kind kind) a)

pub record Limits (s : State) : Type 0 where
  pub created : KindLimits s Creation
  pub redeemed : KindLimits s Redemption

pub within_less : {limit limit' units units' : ℕ} → limit' ≡ limit → units' ≤ units → Within limit units → Within limit' units'
within_less e h w p = omega (arith, w (omega arith))

module _ {s t : State} {kind : Kind} {all other-all : ℕ} {each other-each : ℕ → ℕ} (stays : Stays s.day t.day)
    (own : Rises s t kind each all) (other : Rises s t (opposite_kind kind) other-each other-all) where
  limit_stays : (limit : ℕ) → limit_for t.day limit kind ≡ limit_for s.day limit kind
  limit_stays limit = ap (λ (f : Fund). limit_of f limit (number_of kind)) stays.fund

  in_day : (a : ℕ) → a < t.day.accounts → a < s.day.accounts
  in_day a i = omega (arith, stays.accounts)

  -- no order of the kind: its limits do not come nearer
  pub limits_stay : all ≡ 0 → ((a : ℕ) → each a ≡ 0) → KindLimits s kind → KindLimits t kind
  limits_stay none none_Each l =
      record {
        all = within_less (limit_stays cumulative_limit) (omega (arith, own.fund_count_lem)) l.all;
        each = λ a i. within_less (limit_stays cumulative_limit_each) (omega (arith, own.counts a (in_day a i), none_Each a)) (l.each a (in_day a i));
        net = within_less (limit_stays net_limit) (omega (arith, own.fund_count_lem, other.fund_count_lem)) l.net;
        net_each = λ a i. within_less (limit_stays net_limit_each) (omega (arith, own.counts a (in_day a i), none_Each a, other.counts a (in_day a i))) (l.net_each a (in_day a i));
      }

  -- an order of the kind: its limits were tested
  module _ {account : ℕ} (order : Orders s.day s.book kind account all) (by : (a : ℕ) → each a ≡ when_same account a all)
      (none : other-all ≡ 0) (none_Each : (a : ℕ) → other-each a ≡ 0) (l : KindLimits s kind) where
    each_held : (a : ℕ) → a < s.day.accounts → Dec (account ≡ a) → Within (limit_for s.day cumulative_limit_each kind) (count_in t kind a)
    each_held a i (yes q) = within_less refl (omega (arith, own.counts a i, by a, when_same_lem account a all q, ap (count_in s kind) q)) order.limit_each
    each_held a i (no n) = within_less refl (omega (arith, own.counts a i, by a, when_other account a all n)) (l.each a i)

    net_each_held : (a : ℕ) → a < s.day.accounts → Dec (account ≡ a) → Within (limit_for s.day net_limit_each kind) (count_in t kind a - count_in t (opposite_kind kind) a)
    net_each_held a i (yes q) =
        within_less refl
        (omega (arith, own.counts a i, by a, when_same_lem account a all q, ap (count_in s kind) q, other.counts a i, none_Each a, ap (count_in s (opposite_kind kind)) q))
        order.net_limit_each_lem
    net_each_held a i (no n) = within_less refl (omega (arith, own.counts a i, by a, when_other account a all n, other.counts a i)) (l.net_each a i)

    pub limits_tested : KindLimits t kind
    limits_tested =
        record {
          all = within_less (limit_stays cumulative_limit) (omega (arith, own.fund_count_lem)) order.limit;
          each = λ a i. within_less (limit_stays cumulative_limit_each) (omega arith) (each_held a (in_day a i) (ℕ_discrete account a));
          net = within_less (limit_stays net_limit) (omega (arith, own.fund_count_lem, other.fund_count_lem)) order.net_limit_lem;
          net_each = λ a i. within_less (limit_stays net_limit_each) (omega arith) (net_each_held a (in_day a i) (ℕ_discrete account a));
        }

-- a call that is no order
no_order : {s t : State} {n : Tally} → Keeps s t n → n.all_created ≡ 0 → ((a : ℕ) → n.created a ≡ 0) → n.all_redeemed ≡ 0 → ((a : ℕ) → n.redeemed a ≡ 0) → Limits s → Limits t
no_order k p q r u l =
    record {
      created = limits_stay k.stays k.created k.redeemed p q l.created;
      redeemed = limits_stay k.stays k.redeemed k.created r u l.redeemed;
    }

accepted_limits : (s : State) (c : Call) (lent : Lent) → is_accepted (step s c lent).reply ≡ true
    → Keeps s (step s c lent).after (call_tally s.day c (step s c lent).lent (step s c lent).reply.value) → Limits s → Limits (step s c lent).after
unfolding step call_created call_redeemed call_created_by_all call_redeemed_by_all
accepted_limits s (price line p) lent e k l = no_order k refl (λ a. refl) refl (λ a. refl) l
accepted_limits s (trade line q p seller buyer) lent e k l = no_order k refl (λ a. refl) refl (λ a. refl) l
accepted_limits s (create a units) lent e k l =
    record {
      created = limits_tested k.stays k.created k.redeemed (creation_facts _ _ _ _ _ _ e).order (λ i. refl) refl (λ i. refl) l.created;
      redeemed = limits_stay k.stays k.redeemed k.created refl (λ i. refl) l.redeemed;
    }
accepted_limits s (redeem a units) lent e k l =
    record {
      created = limits_stay k.stays k.created k.redeemed refl (λ i. refl) l.created;
      redeemed = limits_tested k.stays k.redeemed k.created (redemption_facts _ _ _ _ _ _ e).order (λ i. refl) refl (λ i. refl) l.redeemed;
    }
accepted_limits s value lent e k l = no_order k refl (λ a. refl) refl (λ a. refl) l

pub step_limits : (s : State) (c : Call) (lent : Lent) → KeptState s → Limits s → Limits (step s c lent).after
step_limits s c lent k l = go (is_accepted (step s c lent).reply) refl
  where
    go : (z : Bool) → is_accepted (step s c lent).reply ≡ z → Limits (step s c lent).after
    go true e = accepted_limits s c lent e (accepted_keeps s c lent k e) l
    go false e = subst Limits (sym (refusal_changes_nothing s c lent e).0) l

pub list_limits : (s : State) (es : List Event) (t : State) → Happened s es t → KeptState s → Limits s → Limits t
unfolding Happened
list_limits s [] t h k l = subst Limits h l
list_limits s (e ∷ es) t h k l = list_limits e.result.after es t h.1 (rw h.0 (kept_step s e.call e.lent k)) (rw h.0 (step_limits s e.call e.lent k l))
