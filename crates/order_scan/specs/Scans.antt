-- What a scan finds, in the rules' own terms.
use Rattle.std.specs.Prelude.{None, List, ℕ}
use Rattle.std.specs.Bool.{then_some}
use Rattle.sequences.specs.Below.{sum_below, below}
use Rattle.layout.specs.Day.{Day}
use Rattle.rules.specs.declared.Kind.{Kind}
use Rattle.rules.specs.Creation.{first_short, is_missing, missing_worth}
use Rattle.rules.specs.Redemption.{first_lacking}
use Rattle.rules.specs.Kinds.{by_kind, moved_by, cash_by}
use Rattle.order_scan.specs.declared.Scan.{Scan}
use Rattle.order_lines.specs.Lines.{money}
use Rattle.order_scan.specs.Lines.{stock_count}

-- an order of m baskets by an account with the stretch s, from or to the fund with the stretch f; only on creation is stock missing
unfoldable pub order_scan : Kind → Day → List ℕ → List ℕ → List ℕ → ℕ → Scan
order_scan kind d s f ps m =
    record {
      short = below d.count (by_kind kind (first_short d s m) (first_lacking d f m));
      missing = by_kind kind (then_some (is_missing d s m) (money (sum_below (missing_worth d s ps m) d.count))) None;
      cash = cash_by kind d s ps m;
      stock_records = sum_below (λ i. stock_count (moved_by kind d s m i)) d.count;
    }
