-- The reports of an order: those of stock tell what the records of stock do, those to the fund have the sides turned, and cash has at
-- most one.
use mathlib.Core.Path.{◌≡◌, refl, ap, ◌∙◌}
use mathlib.Core.Bool.{Bool, true, false, cond}
use mathlib.Core.List.{List, [], ◌∷◌, ◌++◌, map}
use Prim.Native.Nat.{ℕ, zero, suc, ◌+◌, ◌<◌}
use native.Mathlib.Omega.{arith}
use lib.Dec.{ltb, eqb}
use lib.ListN.{length, get_or, length-append, length-map, get_or-append}
use borrow.Author.Tests.{eqb-true, eqb-false, eq-eqb, ne_eqb}
use Rattle.sequences.specs.Below.{join_below}
use Rattle.layout.specs.Day.{Day}
use Rattle.layout.specs.declared.Group.{Group}
use Rattle.layout.specs.declared.Record.{Record}
use Rattle.layout.specs.declared.Report.{Report}
use Rattle.layout.specs.Records.{record_at, with_records}
use Rattle.layout.specs.Reports.{group_of}
use Rattle.layout.proofs.Records.{record_read}
use Rattle.rules.specs.declared.Kind.{Kind}
use Rattle.rules.specs.declared.Kind.TheVariants.{Creation, Redemption}
use Rattle.rules.specs.declared.CashByMarket.{CashByMarket}
use Rattle.rules.specs.Records.{record_of, stock_record, order_records}
use Rattle.rules.specs.Reports.{stock_type, shanghai_kind, other_kind, move_report, present, cash_groups, cash_reports, stock_report, order_reports, turned, opposite}
use Rattle.rules.specs.Kinds.{all_cash, stock_side, rest_side, moved_by, reports_by, cash_report_count}

-- what a record of stock tells
abbrev pub stock_of : ℕ → Record → Report
stock_of side r = move_report stock_type side r.code r.quantity

module _ {A B : Type 0} (f : A → B) where
  pub map-append : (xs ys : List A) → map f (xs ++ ys) ≡ map f xs ++ map f ys
  map-append [] ys = refl
  map-append (x ∷ xs) ys = ap (λ (t : List B). f x ∷ t) (map-append xs ys)

  pub map-join : (g : ℕ → List A) (h : ℕ → List B) → ((i : ℕ) → h i ≡ map f (g i)) → (n : ℕ) → join_below h n ≡ map f (join_below g n)
  unfolding join_below
  map-join g h e zero = refl
  map-join g h e (suc n) = rw (map-join g h e n, e n, map-append (join_below g n) (g n))

  one_map : (b : Bool) (x : A) (y : B) → y ≡ f x → cond b (y ∷ []) [] ≡ map f (cond b (x ∷ []) [])
  one_map true x y e = ap (λ (z : B). z ∷ []) e
  one_map false x y e = refl

-- the reports of stock are what its records tell
pub stock_reports : (d : Day) (side other : ℕ) (moved : ℕ → ℕ) (n : ℕ)
    → join_below (stock_report d side moved) n ≡ map (stock_of side) (join_below (stock_record d other moved) n)
unfolding stock_report stock_record
stock_reports d side other moved n = map-join (stock_of side) (stock_record d other moved) (stock_report d side moved) (λ i. one_map (stock_of side) (ltb 0 (moved i)) _ _ refl) n

-- the records of stock stand behind the unit's
pub no_record : Record
no_record = record_of 0 0 0 0

pub line_read_lem : (d : Day) (stock rest units : ℕ) (moved : ℕ → ℕ) (other shanghai : ℕ) (list : List ℕ) (k : ℕ) → k < length (join_below (stock_record d stock moved) d.count)
    → record_at (with_records (order_records d stock rest units moved other shanghai) list) (suc k) ≡ get_or (join_below (stock_record d stock moved) d.count) k no_record
unfolding order_records
line_read_lem d stock rest units moved other shanghai list k h =
    record_read (order_records d stock rest units moved other shanghai) list (suc k) no_record (simp length-append (omega (arith, h)))
    ∙ get_or-append (join_below (stock_record d stock moved) d.count) _ no_record k h

-- with the sides turned
pub turned_stock : (kind : Kind) → turned (stock_side kind) ≡ rest_side kind
unfolding turned
turned_stock Creation = refl
turned_stock Redemption = refl

pub turned_rest : (kind : Kind) → turned (rest_side kind) ≡ stock_side kind
unfolding turned
turned_rest Creation = refl
turned_rest Redemption = refl

opposite_cash : (side : ℕ) (gs : List Group) → map opposite (cash_reports side gs) ≡ cash_reports (turned side) gs
opposite_cash side [] = refl
opposite_cash side (g ∷ gs) = refl

opposite_stock : (d : Day) (side : ℕ) (moved : ℕ → ℕ) (i : ℕ) → stock_report d (turned side) moved i ≡ map opposite (stock_report d side moved i)
unfolding stock_report
opposite_stock d side moved i = one_map opposite (ltb 0 (moved i)) _ _ refl

pub opposite_order : (d : Day) (stock rest units : ℕ) (moved : ℕ → ℕ) (other shanghai : ℕ)
    → map opposite (order_reports d stock rest units moved other shanghai) ≡ order_reports d (turned stock) (turned rest) units moved other shanghai
unfolding order_reports
opposite_order d stock rest units moved other shanghai =
    ap (λ (t : List Report). move_report 1 (turned rest) d.fund.first_code units ∷ t)
    (map-append opposite (join_below (stock_report d stock moved) d.count) (cash_reports rest (cash_groups other shanghai))
    ∙ rw (
      ← map-join opposite (stock_report d stock moved) (stock_report d (turned stock) moved) (opposite_stock d stock moved) d.count,
      opposite_cash rest (cash_groups other shanghai),
    ))

-- so the fund's of an order of either kind are the investor's with stock and the rest on each other's side
pub fund_reports : (kind : Kind) (d : Day) (s : List ℕ) (units m : ℕ) (c : CashByMarket)
    → map opposite (reports_by kind d s units m c) ≡ order_reports d (rest_side kind) (stock_side kind) units (moved_by kind d s m) c.other.0 c.shanghai.0
unfolding reports_by
fund_reports kind d s units m c =
    opposite_order d (stock_side kind) (rest_side kind) units (moved_by kind d s m) c.other.0 c.shanghai.0
    ∙ rw (turned_stock kind, turned_rest kind)

-- one report of cash, or none
pub cash_count_lem : (side : ℕ) (c : CashByMarket) → length (cash_reports side (cash_groups c.other.0 c.shanghai.0)) ≡ cash_report_count c
unfolding cash_groups present cash_report_count
cash_count_lem side c = go (eqb c.shanghai.0 0) refl (eqb c.other.0 0) refl
  where
    go : (a : Bool) → eqb c.shanghai.0 0 ≡ a → (b : Bool) → eqb c.other.0 0 ≡ b
        → length (cash_reports side (cond a (cond b [] (group_of other_kind c.other.0 ∷ [])) (group_of shanghai_kind c.shanghai.0 ∷ cond b [] (group_of other_kind c.other.0 ∷ []))))
        ≡ cond (eqb (all_cash c) 0) 0 1
    go true p true q = rw (eq-eqb (all_cash c) 0 (omega (arith, eqb-true c.shanghai.0 0 p, eqb-true c.other.0 0 q)))
    go true p false q = rw (ne_eqb (all_cash c) 0 (λ e. eqb-false c.other.0 0 q (omega arith)))
    go false p b q = rw (ne_eqb (all_cash c) 0 (λ e. eqb-false c.shanghai.0 0 p (omega arith)))

-- all reports to a party: the unit's, one for each record of stock, and that of cash
pub report_count : (kind : Kind) (d : Day) (s : List ℕ) (units m : ℕ) (c : CashByMarket)
    → length (reports_by kind d s units m c) ≡ 1 + length (join_below (stock_record d (stock_side kind) (moved_by kind d s m)) d.count) + cash_report_count c
unfolding reports_by order_reports
report_count kind d s units m c =
    let moves = join_below (stock_record d (stock_side kind) (moved_by kind d s m)) d.count in
    simp length-append
    (omega (
      arith,
      ap length (stock_reports d (stock_side kind) (stock_side kind) (moved_by kind d s m) d.count) ∙ length-map moves (stock_of (stock_side kind)),
      cash_count_lem (rest_side kind) c,
    ))
