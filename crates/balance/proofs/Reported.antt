-- The reports of every accepted order tell both parties its records' cash and stock.
use mathlib.Core.Path.{◌≡◌, refl, sym, ap, subst, ◌∙◌}
use mathlib.Core.Bool.{true, false≢true}
use mathlib.Core.List.{List, [], ◌∷◌, map}
use Prim.Native.Nat.{ℕ, ◌<◌}
use native.Mathlib.Omega.{arith}
use lib.ListN.{length, length-map, get_or-map}
use Rattle.sequences.specs.Checks.{is_accepted}
use Rattle.sequences.proofs.Sums.{sum_map}
use Rattle.fund.specs.Components.{component_fault}
use Rattle.layout.specs.Day.{Day}
use Rattle.layout.specs.declared.Fund.{Fund}
use Rattle.layout.specs.declared.Report.{Report}
use Rattle.layout.specs.Reports.{report_at, with_reports}
use Rattle.layout.proofs.Reports.{report_read}
use Rattle.rules.specs.Records.{order_records}
use Rattle.rules.specs.Reports.{move_report, order_reports, opposite}
use Rattle.rules.specs.Replies.{made_reply}
use Rattle.rules.specs.Lent.{Lent, rooms_in, counts_of, with_order}
use Rattle.rules.specs.Creation.{creation_records, creation_reports, created_lists}
use Rattle.rules.specs.Redemption.{redemption_records, redemption_reports, redeemed_lists}
use Rattle.rules.proofs.Accepted.{creation_facts, creation_made, redemption_facts, redemption_made}
use Rattle.balance.specs.Calls.{State, Call, Event, Result, price, trade, create, redeem, value, step, Happened}
use Rattle.balance.specs.Reported.{CashTold, Reported, is_order, AllReported}
use Rattle.balance.proofs.ReportedCash.{cash_told_lem}
use Rattle.balance.proofs.ReportedStock.{stock_told_lem}
use Rattle.balance.proofs.Relation.{KeptState}
use Rattle.balance.proofs.Steps.{step_keeps}

-- the lists with an order written, whatever stood in them before
module _ (d : Day) (sound : component_fault d.table d.fund.first_code d.components d.count ≡ d.count) (stock rest units : ℕ) (moved : ℕ → ℕ) (other shanghai : ℕ)
    (after : State) (lent : Lent) where
  abbrev reports : List Report
  reports = order_reports d stock rest units moved other shanghai

  abbrev result : Result
  result =
      record {
        reply = made_reply (counts_of (order_records d stock rest units moved other shanghai) reports);
        after = after;
        lent = with_order (order_records d stock rest units moved other shanghai) reports lent;
      }

  fund-length : length (map opposite reports) ≡ length reports
  fund-length = length-map reports opposite

  blank : Report
  blank = move_report 0 0 0 0

  mirrored : (k : ℕ) → k < length reports → report_at (with_reports (map opposite reports) lent.fund) k ≡ opposite (report_at (with_reports reports lent.investor) k)
  mirrored k h =
      report_read (map opposite reports) lent.fund k (opposite blank) (omega (arith, h, fund-length))
      ∙ get_or-map opposite reports k blank
      ∙ sym (ap opposite (report_read reports lent.investor k blank h))

  pub order_reported : Reported d.fund.first_code result
  unfolding with_order
  order_reported =
      record {
        investor_cash = cash_told_lem d stock rest units moved other shanghai lent.records reports (λ f. refl) lent.investor;
        fund_cash_lem =
            subst (CashTold _ _ _ _) fund-length
            (cash_told_lem d stock rest units moved other shanghai lent.records (map opposite reports) (λ f. sum_map _ opposite reports) lent.fund);
        stock = stock_told_lem d sound stock rest units moved other shanghai lent.records lent.investor;
        mirrored = mirrored;
      }

-- of an accepted order's step
pub step_reported : (s : State) (c : Call) (lent : Lent) → is_order c ≡ true → is_accepted (step s c lent).reply ≡ true → Reported s.day.fund.first_code (step s c lent)
unfolding step created_lists redeemed_lists creation_records creation_reports redemption_records redemption_reports
step_reported s (price line p) lent o e = absurd (false≢true o)
step_reported s (trade line q p seller buyer) lent o e = absurd (false≢true o)
step_reported s (create a units) lent o e =
    rw (e, creation_made s.day s.book s.prices a units (rooms_in lent) e)
    (order_reported s.day (creation_facts _ _ _ _ _ _ e).sound.own.components _ _ units _ _ _ _ lent)
step_reported s (redeem a units) lent o e =
    rw (e, redemption_made s.day s.book s.prices a units (rooms_in lent) e)
    (order_reported s.day (redemption_facts _ _ _ _ _ _ e).sound.own.components _ _ units _ _ _ _ lent)
step_reported s value lent o e = absurd (false≢true o)

-- and so of every event, while the first code stays
pub all_reported : (s : State) (es : List Event) (t : State) → Happened s es t → KeptState s → AllReported s.day.fund.first_code es
unfolding Happened AllReported
all_reported s [] t h k = tt
all_reported s (e ∷ es) t h k =
    let keeps = step_keeps s e.call e.lent k in
    let first : e.result.after.day.fund.first_code ≡ s.day.fund.first_code =
    ap (λ (r : Result). r.after.day.fund.first_code) h.0 ∙ ap (λ (f : Fund). f.first_code) keeps.stays.fund in (
      (λ o a. rw h.0 (step_reported s e.call e.lent o (rw h.0 at a))),
      rw first at (all_reported e.result.after es t h.1 (rw h.0 keeps.kept)),
    )
