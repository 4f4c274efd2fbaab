-- How many records and reports an order makes.
use mathlib.Core.Path.{◌≡◌, refl, sym, ap, ◌∙◌}
use mathlib.Core.Bool.{Bool, true, false, cond}
use mathlib.Core.List.{List, [], ◌∷◌}
use Prim.Native.Nat.{ℕ, zero, suc, ◌+◌, ◌≤◌}
use native.Mathlib.Omega.{arith}
use lib.Dec.{ltb, eqb, lit≤}
use lib.ListN.{length, length-append, length-map}
use Rattle.sequences.specs.Below.{sum_below, join_below}
use Rattle.sequences.proofs.Below.{sum_le, cond_le}
use Rattle.units.specs.Units.{split_size}
use Rattle.layout.specs.Places.{most_components}
use Rattle.layout.specs.Day.{Day}
use Rattle.rules.specs.declared.Kind.{Kind}
use Rattle.rules.specs.declared.Ask.{Ask}
use Rattle.rules.specs.declared.CashByMarket.{CashByMarket}
use Rattle.rules.specs.Orders.{baskets}
use Rattle.rules.specs.Records.{record_of, cash_parts, cash_records, stock_record, order_records, shanghai_step, other_step}
use Rattle.rules.specs.Kinds.{all_cash, stock_side, moved_by, records_by, reports_by, cash_report_count, asked_cash, counts_by}
use Rattle.rules.proofs.Asked.{asked_records_lem, asked_reports_lem}
use Rattle.rules.proofs.Reports.{report_count}
use Rattle.order_scan.specs.Lines.{stock_count, cash_count, scan_counts}
use Rattle.order_scan.specs.Scans.{order_scan}

module _ {A : Type 0} where
  by_cases : (a b : Bool) (x y z : A) → length (cond a [] (cond b (x ∷ []) (y ∷ z ∷ []))) ≡ cond a 0 (cond b 1 2)
  by_cases true b x y z = refl
  by_cases false true x y z = refl
  by_cases false false x y z = refl

  one_or_none : (b : Bool) (x : A) → length (cond b (x ∷ []) []) ≡ cond b 1 0
  one_or_none true x = refl
  one_or_none false x = refl

  join-count : (f : ℕ → List A) (g : ℕ → ℕ) (n : ℕ) → ((k : ℕ) → length (f k) ≡ g k) → length (join_below f n) ≡ sum_below g n
  unfolding join_below sum_below
  join-count f g zero e = refl
  join-count f g (suc n) e = length-append (join_below f n) (f n) ∙ omega (arith, join-count f g n e, e n)

cash_records_lem : (code side c : ℕ) → length (cash_records code side c) ≡ cash_count c
unfolding cash_records cash_parts cash_count
cash_records_lem code side c = length-map (cash_parts c) (λ part. record_of code side part.0 part.1) ∙ by_cases (eqb c 0) (ltb c split_size) _ _ _

stock_records_lem : (d : Day) (side : ℕ) (moved : ℕ → ℕ) (i : ℕ) → length (stock_record d side moved i) ≡ stock_count (moved i)
unfolding stock_record
stock_records_lem d side moved i = one_or_none (ltb 0 (moved i)) _

-- the two of the unit, one for each component with stock moved, and those of the cash
pub order_count : (d : Day) (ss rs units : ℕ) (moved : ℕ → ℕ) (other shanghai : ℕ)
    → length (order_records d ss rs units moved other shanghai) ≡ 2 + sum_below (λ i. stock_count (moved i)) d.count + cash_count other + cash_count shanghai
unfolding order_records
order_count d ss rs units moved other shanghai =
    simp length-append
    (omega (
      arith,
      join-count (stock_record d ss moved) (λ i. stock_count (moved i)) d.count (stock_records_lem d ss moved),
      cash_records_lem (d.fund.first_code + other_step) rs other,
      cash_records_lem (d.fund.first_code + shanghai_step) rs shanghai,
    ))

-- the reports of stock are as many as its records
reports_count : (kind : Kind) (d : Day) (s : List ℕ) (units m : ℕ) (c : CashByMarket)
    → length (reports_by kind d s units m c) ≡ 1 + sum_below (λ i. stock_count (moved_by kind d s m i)) d.count + cash_report_count c
reports_count kind d s units m c =
    let moved = moved_by kind d s m in
    omega (
      arith,
      report_count kind d s units m c,
      join-count (stock_record d (stock_side kind) moved) (λ i. stock_count (moved i)) d.count (stock_records_lem d (stock_side kind) moved),
    )

-- so the scan counts them
pub scan_counts_lem : (d : Day) (s f ps : List ℕ) (k : Ask) → scan_counts (order_scan k.kind d s f ps (baskets d k.units)) ≡ counts_by d s ps k
unfolding scan_counts order_scan records_by asked_cash counts_by
scan_counts_lem d s f ps k =
    let records = sym (order_count d _ _ k.units (moved_by k.kind d s (baskets d k.units)) _ _) ∙ ap length (asked_records_lem d s ps k) in
    let reports = sym (reports_count k.kind d s k.units (baskets d k.units) (asked_cash d s ps k)) ∙ ap length (asked_reports_lem d s ps k) in
    λ i. record { records = records i; reports = reports i }

-- at most two for an amount of cash, and one for a component
pub cash_count-le : (c : ℕ) → cash_count c ≤ 2
unfolding cash_count
cash_count-le c = cond_le (eqb c 0) (lit≤ tt) (cond_le (ltb c split_size) (lit≤ tt) (lit≤ tt))

pub cash_reports-le : (c : CashByMarket) → cash_report_count c ≤ 1
unfolding cash_report_count
cash_reports-le c = cond_le (eqb (all_cash c) 0) (lit≤ tt) (lit≤ tt)

pub stock_count-le : (moved : ℕ) → stock_count moved ≤ 1
stock_count-le moved = cond_le (ltb 0 moved) (lit≤ tt) (lit≤ tt)

-- no more stock records than components
pub scan_records-le : (kind : Kind) (d : Day) (s f ps : List ℕ) (m : ℕ) → d.count ≤ most_components → (order_scan kind d s f ps m).stock_records ≤ most_components
unfolding order_scan
scan_records-le kind d s f ps m h =
    omega (arith, sum_le (λ i. stock_count (moved_by kind d s m i)) d.count 1 (λ k q. stock_count-le (moved_by kind d s m k)))
