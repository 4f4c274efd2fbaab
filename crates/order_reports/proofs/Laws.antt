-- Reports put one behind another, and the parts of an order's reports.
use mathlib.Core.Path.{◌≡◌, refl, sym, ap, ◌∙◌}
use mathlib.Core.List.{List, [], ◌∷◌, ◌++◌, map}
use Prim.Native.Nat.{ℕ, ◌+◌, ◌-◌, ◌*◌, ◌≤◌, ◌<◌}
use native.Mathlib.Omega.{arith}
use lib.ListN.{length, length-map, get_or-map}
use lib.Seq.{sets, length-sets}
use borrow.Author.Tests.{lt-ltb}
use Rattle.sequences.specs.Below.{join_below, tabulate}
use Rattle.sequences.proofs.Below.{join-none, join_more, table_ext}
use Rattle.sequences.proofs.Runs.{join_grows, sets_append}
use Rattle.layout.specs.Places.{report_width}
use Rattle.layout.specs.Laid.{laid}
use Rattle.layout.specs.Day.{Day}
use Rattle.layout.specs.declared.Report.{Report}
use Rattle.layout.specs.Reports.{report_at, report_numbers, with_reports}
use Rattle.layout.proofs.Laid.{laid_more, laid_front}
use Rattle.layout.proofs.Reports.{report_read}
use Rattle.rules.specs.declared.Kind.{Kind}
use Rattle.rules.specs.declared.Ask.{Ask}
use Rattle.rules.specs.declared.CashByMarket.{CashByMarket}
use Rattle.rules.specs.Lines.{component_of, code_of}
use Rattle.rules.specs.Reports.{unit_type, stock_type, move_report, stock_report, order_reports, opposite}
use Rattle.rules.specs.Kinds.{moved_by, stock_side, rest_side, reports_by}
use Rattle.order_records.specs.Put.{put_all}
use Rattle.order_reports.specs.declared.Reports.{Reports}
use Rattle.order_reports.specs.Put.{reports_left, with_report, line_report, stock_reports, told_cash, mirrored}

-- a report takes one place
pub left_less : (o : Reports) (r : Report) → reports_left (with_report o r) ≡ reports_left o - 1
unfolding reports_left
left_less o r = omega (arith, length-sets o.run.now o.at (report_numbers r))

-- the run with the reports, and the next free place behind them
abbrev wrote : List Report → Reports → Reports
wrote rs o = record o { run = record o.run { now = sets o.run.now o.at (laid report_numbers rs) }; at = o.at + report_width * length rs }

put_wrote : (rs : List Report) (o : Reports) → put_all with_report o rs ≡ wrote rs o
unfolding put_all laid
put_wrote [] o = ap (λ (next : ℕ). record o { at = next }) (omega arith)
put_wrote (r ∷ rs) o =
    let next : o.at + report_width + report_width * length rs ≡ o.at + report_width * length (r ∷ rs) = omega arith in
    put_wrote rs (with_report o r)
    ∙ rw (sets_append (report_numbers r) (laid report_numbers rs) o.run.now o.at, next)

-- a run has room for reports of which it takes the numbers
pub fits_here : (o : Reports) {rs all : List Report} → rs ≡ all → o.at ≡ 0 → report_width * length all ≤ length o.run.now → length rs ≤ reports_left o
unfolding reports_left
fits_here o {rs} {all} same e h = omega (arith, ap length same, e, h)

pub first_fits : (o : Reports) {r : Report} {rs all : List Report} → r ∷ rs ≡ all → o.at ≡ 0 → report_width * length all ≤ length o.run.now → 0 < reports_left o
first_fits o {r} {rs} {all} same e h = omega (arith, fits_here o same e h)

-- it is the run that it was
pub same_run : (rs : List Report) (o : Reports) → (put_all with_report o rs).run.ghost_name ≡ o.run.ghost_name
same_run rs o = ap (λ (o : Reports). o.run.ghost_name) (put_wrote rs o)

-- at the front of a run of so many numbers
front : (rs : List Report) (list : List ℕ) → report_width * length rs ≤ length list → sets list 0 (laid report_numbers rs) ≡ with_reports rs list
unfolding with_reports
front = laid_front report_numbers report_width (λ r. refl)

-- from the first place on they stand at the front
pub put_first : (rs : List Report) (o : Reports) → o.at ≡ 0 → length rs ≤ reports_left o → (put_all with_report o rs).run.now ≡ with_reports rs o.run.now
unfolding reports_left
put_first rs o e h = ap (λ (o : Reports). o.run.now) (put_wrote rs o) ∙ rw e (front rs o.run.now (omega (arith, e, h)))

-- of reports that stand at the front of the investor's run, the fund's are the opposite ones
pub mirrored_all : (rs : List Report) (list fund : List ℕ) (n : ℕ) → n ≡ length rs → report_width * n ≤ length fund
    → sets fund 0 (laid report_numbers (tabulate (mirrored (with_reports rs list)) n)) ≡ with_reports (map opposite rs) fund
mirrored_all rs list fund n e h =
    let none = move_report 0 0 0 0 in
    let size : length (map opposite rs) ≡ n = length-map rs opposite ∙ sym e in
    let turned_all : tabulate (mirrored (with_reports rs list)) n ≡ map opposite rs =
    sym (table_ext (mirrored (with_reports rs list)) n (opposite none) (map opposite rs) size
    (λ k low. get_or-map opposite rs k none ∙ sym (ap opposite (report_read rs list k none (omega (arith, low, e)))))) in
    ap (λ (ts : List Report). sets fund 0 (laid report_numbers ts)) turned_all ∙ front (map opposite rs) fund (omega (arith, h, size))

-- one more in the fund's run
pub mirrored_more : (investor list before after : List ℕ) (k : ℕ) (r t : Report) → before ≡ sets list 0 (laid report_numbers (tabulate (mirrored investor) k))
    → r ≡ report_at investor k → t ≡ opposite r → after ≡ sets before (report_width * k) (report_numbers t)
    → after ≡ sets list 0 (laid report_numbers (tabulate (mirrored investor) (k + 1)))
mirrored_more investor list before after k r t stands read is stored =
    stored
    ∙ rw (stands, is, read) (laid_more report_numbers report_width (λ x. refl) (mirrored investor) k list 0 (report_width * k) (omega arith))

-- stock that moves takes one, and what does not move none
pub line_none : (code side q : ℕ) → q ≡ 0 → line_report code side q ≡ []
unfolding line_report
line_none code side q e = rw e refl

pub line_some : (code side q : ℕ) → 0 < q → line_report code side q ≡ move_report stock_type side code q ∷ []
unfolding line_report
line_some code side q l = rw (lt-ltb 0 q l)

module _ (kind : Kind) (d : Day) (s : List ℕ) (m : ℕ) where
  -- the reports of the components below i
  unfoldable pub told_below : ℕ → List Report
  told_below i = join_below (stock_report d (stock_side kind) (moved_by kind d s m)) i

  pub told_none : told_below 0 ≡ []
  unfolding told_below
  told_none = join-none _

  abbrev pub told_line : ℕ → List Report
  told_line i = line_report (component_of d i).code (stock_side kind) (moved_by kind d s m i)

  pub told_more : (i : ℕ) → told_below (i + 1) ≡ told_below i ++ told_line i
  unfolding told_below stock_report code_of line_report
  told_more i = join_more _ i

  pub told_all : told_below d.count ≡ stock_reports kind d s m
  unfolding told_below stock_reports
  told_all = refl

  -- the i-th line's are among them, behind those below it
  pub told_grows : {i : ℕ} → i < d.count → length (told_below i ++ told_line i) ≤ length (stock_reports kind d s m)
  unfolding told_below stock_reports
  told_grows {i} l =
      let grows = join_grows (stock_report d (stock_side kind) (moved_by kind d s m)) d.count (i + 1) (omega arith) in
      omega (arith, grows, ap length (told_more i))

-- an order's reports: the unit, stock, and cash
pub reports_are : (d : Day) (s : List ℕ) (ask : Ask) (m : ℕ) (c : CashByMarket) {g side : ℕ} → g ≡ d.fund.first_code → side ≡ rest_side ask.kind
    → (move_report unit_type side g ask.units ∷ []) ++ (stock_reports ask.kind d s m ++ told_cash side c) ≡ reports_by ask.kind d s ask.units m c
unfolding reports_by order_reports stock_reports
reports_are d s ask m c first rest = rw (rest, first)
