-- The stock of an order, in its reports and in its records.
use mathlib.Core.Path.{◌≡◌, refl, sym, ap, ◌∙◌}
use mathlib.Core.Bool.{Bool, true, false, cond}
use mathlib.Core.List.{List, [], ◌∷◌, ◌++◌, map}
use Prim.Native.Nat.{ℕ, zero, suc, ◌+◌, ◌≤◌, ◌<◌}
use native.Mathlib.Omega.{arith}
use lib.Dec.{ltb, eqb}
use lib.ListN.{length, get_or, length-append, length-map, get_or-append, get_or-map}
use borrow.Author.Tests.{le-ltb}
use Rattle.std.proofs.lemmas.Bool.{cond_both}
use Rattle.sequences.specs.Below.{join_below}
use Rattle.sequences.proofs.Sums.{sum_of, sum_append, Each, each_append, each_at}
use Rattle.fund.specs.Components.{outside_group, component_fault}
use Rattle.fund.proofs.Laws.{components_fine}
use Rattle.layout.specs.Day.{Day}
use Rattle.layout.specs.declared.Group.{Group}
use Rattle.layout.specs.declared.Record.{Record}
use Rattle.layout.specs.declared.Report.{Report}
use Rattle.layout.specs.Records.{record_at, with_records}
use Rattle.layout.specs.Reports.{report_at, with_reports}
use Rattle.layout.proofs.Records.{records_total}
use Rattle.layout.proofs.Reports.{report_read, reports_total}
use Rattle.rules.specs.Lines.{code_of}
use Rattle.rules.specs.Records.{record_of, cash_records, stock_record, second_unit, shanghai_step, other_step, order_records}
use Rattle.rules.specs.Reports.{stock_type, cash_groups, cash_reports, stock_report, order_reports}
use Rattle.rules.proofs.Reports.{stock_of, stock_reports, no_record, line_read_lem}
use Rattle.balance.specs.Reported.{count_below, is_stock_report, is_stock_record, SameStock, StockTold}
use Rattle.balance.proofs.ReportedCash.{cash_sum}

-- counted as 1
abbrev one : Bool → ℕ
one b = cond b 1 0

module _ (d : Day) (sound : component_fault d.table d.fund.first_code d.components d.count ≡ d.count) (stock rest units : ℕ) (moved : ℕ → ℕ) (other shanghai : ℕ) where
  abbrev g : ℕ
  g = d.fund.first_code

  abbrev records : List Record
  records = order_records d stock rest units moved other shanghai

  abbrev reports : List Report
  reports = order_reports d stock rest units moved other shanghai

  abbrev lines : List Record
  lines = join_below (stock_record d stock moved) d.count

  abbrev told : List Report
  told = join_below (stock_report d stock moved) d.count

  told_lines : told ≡ map (stock_of stock) lines
  told_lines = stock_reports d stock stock moved d.count

  -- the reports of type 2
  abbrev counted : Report → ℕ
  counted r = one (eqb r.report_type stock_type)

  none_in_cash : (gs : List Group) → sum_of counted (cash_reports rest gs) ≡ 0
  unfolding sum_of
  none_in_cash [] = refl
  none_in_cash (x ∷ gs) = refl

  all_told : (rs : List Record) → sum_of counted (map (stock_of stock) rs) ≡ length rs
  unfolding sum_of
  all_told [] = refl
  all_told (r ∷ rs) = omega (arith, all_told rs)

  reports_counted : sum_of counted reports ≡ length lines
  unfolding order_reports sum_of
  reports_counted =
      omega (
        arith,
        sum_append counted told (cash_reports rest (cash_groups other shanghai)),
        ap (sum_of counted) told_lines ∙ all_told lines,
        none_in_cash (cash_groups other shanghai),
      )

  -- the records under a code that is none of the group's
  abbrev own : Record → ℕ
  own r = one (outside_group g r.code)

  group_inside : (k : ℕ) → k ≤ 5 → outside_group g (g + k) ≡ false
  unfolding outside_group
  group_inside k h = simp (le-ltb (g + k) g (omega arith), le-ltb (g + 5) (g + k) (omega arith))

  none_of_group : (k : ℕ) → k ≤ 5 → one (outside_group g (g + k)) ≡ 0
  none_of_group k h = ap one (group_inside k h)

  first_inside : one (outside_group g g) ≡ 0
  first_inside =
      let e : g + 0 ≡ g = omega arith in
      ap (λ (code : ℕ). one (outside_group g code)) (sym e) ∙ none_of_group 0 (omega arith)

  cash_none : (k side c : ℕ) → k ≤ 5 → sum_of own (cash_records (g + k) side c) ≡ 0
  cash_none k side c h = cash_sum (g + k) side own (λ n. 0) (λ q p. none_of_group k h) refl (λ x y. refl) c

  Outside : Record → Type 0
  Outside r = outside_group g r.code ≡ true

  line_outside : (i : ℕ) → i < d.count → Each Outside (stock_record d stock moved i)
  unfolding stock_record Each code_of Outside
  line_outside i h = cond_both (ltb 0 (moved i)) _ [] (Each Outside) (λ _. ((components_fine _ _ _ _ sound i h).outside, tt)) (λ _. tt)

  below_outside : (n : ℕ) → n ≤ d.count → Each Outside (join_below (stock_record d stock moved) n)
  unfolding join_below Each
  below_outside zero h = tt
  below_outside (suc n) h = each_append Outside (join_below (stock_record d stock moved) n) (stock_record d stock moved n) (below_outside n (omega arith)) (line_outside n h)

  outside : Each Outside lines
  outside = below_outside d.count (omega arith)

  all_own : (rs : List Record) → Each Outside rs → sum_of own rs ≡ length rs
  unfolding sum_of Each Outside
  all_own [] p = refl
  all_own (r ∷ rs) p = omega (arith, ap one p.0, all_own rs p.1)

  records_counted : sum_of own records ≡ length lines
  unfolding order_records sum_of
  records_counted =
      let last = record_of (g + second_unit) rest units 0 ∷ [] in
      let sh = cash_records (g + shanghai_step) rest shanghai in
      let ot = cash_records (g + other_step) rest other in
      omega (
        arith,
        first_inside,
        none_of_group second_unit (omega arith),
        sum_append own lines (ot ++ (sh ++ last)),
        sum_append own ot (sh ++ last),
        sum_append own sh last,
        all_own lines outside,
        cash_none other_step rest other (omega arith),
        cash_none shanghai_step rest shanghai (omega arith),
      )

  -- in the lent lists
  module _ (list lent : List ℕ) where
    many : count_below (is_stock_report (with_reports reports lent)) (length reports) ≡ length lines
    unfolding count_below
    many = reports_total counted reports lent ∙ reports_counted

    many_records : count_below (is_stock_record g (with_records records list)) (length records) ≡ length lines
    unfolding count_below
    many_records = records_total own records list ∙ records_counted

    record_is : (k : ℕ) → k < length lines → record_at (with_records records list) (suc k) ≡ get_or lines k no_record
    record_is k h = line_read_lem d stock rest units moved other shanghai list k h

    report_is : (k : ℕ) → k < length lines → report_at (with_reports reports lent) (suc k) ≡ stock_of stock (get_or lines k no_record)
    unfolding order_reports
    report_is k h =
        let size : length told ≡ length lines = ap length told_lines ∙ length-map lines (stock_of stock) in
        report_read reports lent (suc k) (stock_of stock no_record) (simp length-append (omega (arith, h, size)))
        ∙ get_or-append told _ (stock_of stock no_record) k (omega (arith, h, size))
        ∙ ap (λ (rs : List Report). get_or rs k (stock_of stock no_record)) told_lines
        ∙ get_or-map (stock_of stock) lines k no_record

    each : (k : ℕ) → k < length lines → SameStock g (with_records records list) (with_reports reports lent) (suc k)
    unfolding Outside
    each k h =
        record {
          of_stock = rw (report_is k h);
          recorded = rw (record_is k h) (each_at Outside lines k no_record h outside);
          code = rw (report_is k h, record_is k h);
          quantity = rw (report_is k h, record_is k h);
        }

    pub stock_told_lem : StockTold g (with_records records list) (length records) (with_reports reports lent) (length reports)
    stock_told_lem = record { many = many ∙ sym many_records; each = λ k h. each k (omega (arith, h, many)) }
