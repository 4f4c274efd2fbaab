-- Reports in a flat run.
use Rattle.std.specs.Prelude.{ℕ, ◌+◌, ◌*◌, List, [], ◌∷◌, get_or}
use Rattle.layout.specs.declared.Group.{Group}
use Rattle.layout.specs.declared.Report.{Report}
use Rattle.layout.specs.Places.{report_width}
use Rattle.layout.specs.Laid.{with_laid}

abbrev pub group_of : ℕ → ℕ → Group
group_of kind amount = record { kind = kind; amount = record { 0 = amount } }

-- the k-th report of a run, and a report's numbers in this order
unfoldable pub report_at : List ℕ → ℕ → Report
report_at list k =
    record {
      report_type = get_or list (report_width * k) 0;
      side = get_or list (report_width * k + 1) 0;
      code = get_or list (report_width * k + 2) 0;
      quantity = get_or list (report_width * k + 3) 0;
      first = group_of (get_or list (report_width * k + 4) 0) (get_or list (report_width * k + 5) 0);
      second = group_of (get_or list (report_width * k + 6) 0) (get_or list (report_width * k + 7) 0);
      third = group_of (get_or list (report_width * k + 8) 0) (get_or list (report_width * k + 9) 0);
    }

abbrev pub report_numbers : Report → List ℕ
report_numbers r =
    r.report_type ∷ r.side ∷ r.code ∷ r.quantity
    ∷ r.first.kind ∷ r.first.amount.0 ∷ r.second.kind ∷ r.second.amount.0 ∷ r.third.kind ∷ r.third.amount.0
    ∷ []

-- the lent run with the reports written: places past the last stay
unfoldable pub with_reports : List Report → List ℕ → List ℕ
with_reports rs list = with_laid report_numbers report_width rs list
