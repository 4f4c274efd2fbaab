-- The execution reports of an order, to the investor and to the fund's manager.
use Rattle.std.specs.Prelude.{ℕ, cond, List, [], ◌∷◌, ◌++◌, ltb, eqb, get_or}
use Rattle.sequences.specs.Below.{join_below}
use Rattle.layout.specs.Day.{Day}
use Rattle.layout.specs.declared.Group.{Group}
use Rattle.layout.specs.declared.Report.{Report}
use Rattle.layout.specs.Reports.{group_of}
use Rattle.rules.specs.declared.ReportType.{ReportType}
use Rattle.rules.specs.declared.ReportType.TheVariants.{Unit, Stock, Cash}
use Rattle.rules.specs.declared.CashKind.{CashKind}
use Rattle.rules.specs.declared.CashKind.TheVariants.{Shanghai, Other}
use Rattle.rules.specs.Lines.{code_of}
use Rattle.rules.specs.Records.{side_b, side_s}

-- the types: of the unit, of a component moved, and of all cash
abbrev pub unit_type : ℕ
unit_type = 1

abbrev pub stock_type : ℕ
stock_type = 2

abbrev pub cash_type : ℕ
cash_type = 3

abbrev pub type_number : ReportType → ℕ
type_number Unit = unit_type
type_number Stock = stock_type
type_number Cash = cash_type

-- the kinds of cash: Shanghai, and other
abbrev pub shanghai_kind : ℕ
shanghai_kind = 1

abbrev pub other_kind : ℕ
other_kind = 2

abbrev pub cash_number : CashKind → ℕ
cash_number Shanghai = shanghai_kind
cash_number Other = other_kind

abbrev pub no_group : Group
no_group = group_of 0 0

-- types 1 and 2 use code and quantity
abbrev pub move_report : ℕ → ℕ → ℕ → ℕ → Report
move_report type side code q =
    record { report_type = type; side = side; code = code; quantity = q; first = no_group; second = no_group; third = no_group }

-- type 3 uses the groups
abbrev pub cash_report : ℕ → List Group → Report
cash_report side gs =
    record {
      report_type = cash_type;
      side = side;
      code = 0;
      quantity = 0;
      first = get_or gs 0 no_group;
      second = get_or gs 1 no_group;
      third = get_or gs 2 no_group;
    }

-- groups of amount 0 are left out, and the next moves up
unfoldable pub present : List Group → List Group
present [] = []
present (g ∷ gs) = cond (eqb g.amount.0 0) (present gs) (g ∷ present gs)

-- the groups of an order's cash: Shanghai, then other
unfoldable pub cash_groups : ℕ → ℕ → List Group
cash_groups other shanghai = present (group_of shanghai_kind shanghai ∷ group_of other_kind other ∷ [])

-- one report for all cash, none where there is none
abbrev pub cash_reports : ℕ → List Group → List Report
cash_reports side [] = []
cash_reports side (g ∷ gs) = cash_report side (g ∷ gs) ∷ []

-- a component of which stock moved
unfoldable pub stock_report : Day → ℕ → (ℕ → ℕ) → ℕ → List Report
stock_report d side moved i = cond (ltb 0 (moved i)) (move_report stock_type side (code_of d i) (moved i) ∷ []) []

-- the investor's, in order: the unit, each component with stock moved, and all cash. Stock is on one side and the rest on the other.
unfoldable pub order_reports : Day → ℕ → ℕ → ℕ → (ℕ → ℕ) → ℕ → ℕ → List Report
order_reports d stock_side rest_side units moved other shanghai =
    move_report unit_type rest_side d.fund.first_code units
    ∷ (join_below (stock_report d stock_side moved) d.count
    ++ cash_reports rest_side (cash_groups other shanghai))

-- the fund's have all sides opposite
unfoldable pub turned : ℕ → ℕ
turned side = cond (eqb side side_b) side_s side_b

abbrev pub opposite : Report → Report
opposite r =
    record {
      report_type = r.report_type;
      side = turned r.side;
      code = r.code;
      quantity = r.quantity;
      first = r.first;
      second = r.second;
      third = r.third;
    }
