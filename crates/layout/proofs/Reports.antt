-- Reports in a flat run: their numbers, stored and read back.
use mathlib.Core.Path.{◌≡◌, refl}
use mathlib.Core.List.{List}
use Prim.Native.Nat.{ℕ, suc, ◌+◌, ◌<◌}
use native.Mathlib.Numerals.{add-one}
use native.Mathlib.Omega.{arith}
use lib.ListN.{length, get_or, set}
use lib.Seq.{sets}
use Rattle.layout.specs.declared.Group.{Group}
use Rattle.layout.specs.declared.Report.{Report}
use Rattle.layout.specs.Places.{report_width}
use Rattle.layout.specs.Reports.{report_at, report_numbers, with_reports}
use Rattle.sequences.specs.Below.{sum_below}
use Rattle.sequences.proofs.Sums.{sum_of, read_total}
use Rattle.layout.proofs.Laid.{laid_first, laid_read}

-- a report's numbers stored one by one
pub report_stored : (list : List ℕ) (p : ℕ) (r : Report)
    → set (set (set (set (set (set (set (set (set (set list p r.report_type) (p + 1) r.side) (p + 2) r.code) (p + 3) r.quantity)
    (p + 4) r.first.kind) (p + 5) r.first.amount.0) (p + 6) r.second.kind) (p + 7) r.second.amount.0)
    (p + 8) r.third.kind) (p + 9) r.third.amount.0
    ≡ sets list p (report_numbers r)
report_stored list p r =
    let two : p + 2 ≡ suc (suc p) = omega arith in
    let three : p + 3 ≡ suc (suc (suc p)) = omega arith in
    let four : p + 4 ≡ suc (suc (suc (suc p))) = omega arith in
    let five : p + 5 ≡ suc (suc (suc (suc (suc p)))) = omega arith in
    let six : p + 6 ≡ suc (suc (suc (suc (suc (suc p))))) = omega arith in
    let seven : p + 7 ≡ suc (suc (suc (suc (suc (suc (suc p)))))) = omega arith in
    let eight : p + 8 ≡ suc (suc (suc (suc (suc (suc (suc (suc p))))))) = omega arith in
    let nine : p + 9 ≡ suc (suc (suc (suc (suc (suc (suc (suc (suc p)))))))) = omega arith in
    rw (add-one p, two, three, four, five, six, seven, eight, nine)

-- what was written is read
pub report_read : (rs : List Report) (list : List ℕ) (k : ℕ) (r : Report) → k < length rs → report_at (with_reports rs list) k ≡ get_or rs k r
unfolding report_at with_reports
report_read rs list k r h =
    let at = laid_read report_numbers report_width (λ q. refl) rs list k r h in
    let first = laid_first report_numbers report_width (λ q. refl) rs list k r h (omega arith) in
    rw (
      first,
      at 1 (omega arith),
      at 2 (omega arith),
      at 3 (omega arith),
      at 4 (omega arith),
      at 5 (omega arith),
      at 6 (omega arith),
      at 7 (omega arith),
      at 8 (omega arith),
      at 9 (omega arith),
    )

-- a number of each report, summed
none : Group
none = record { kind = 0; amount = record { 0 = 0 } }

blank : Report
blank = record { report_type = 0; side = 0; code = 0; quantity = 0; first = none; second = none; third = none }

pub reports_total : (f : Report → ℕ) (rs : List Report) (list : List ℕ) → sum_below (λ k. f (report_at (with_reports rs list) k)) (length rs) ≡ sum_of f rs
reports_total f rs list = read_total f (report_at (with_reports rs list)) rs blank (λ k h. report_read rs list k blank h)
