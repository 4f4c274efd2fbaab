-- The cash of an order, in its reports and in its records.
use mathlib.Core.Path.{◌≡◌, refl, sym, ap, ◌∙◌}
use mathlib.Core.Bool.{Bool, true, false, cond}
use mathlib.Core.List.{List, [], ◌∷◌, ◌++◌, map}
use Prim.Native.Nat.{ℕ, ◌+◌, ◌*◌, ◌/◌, ◌%◌}
use native.Mathlib.Nat.{mul-zero}
use native.Mathlib.Omega.{arith}
use lib.Dec.{ltb, eqb}
use lib.ListN.{length}
use borrow.Author.Tests.{eqb-true}
use Rattle.std.proofs.lemmas.Bool.{cond_both}
use Rattle.std.proofs.lemmas.Bool.Decides.{nat_tests}
use Rattle.sequences.specs.Below.{join_below}
use Rattle.sequences.specs.Same.{when_same}
use Rattle.sequences.proofs.Below.{sum_zero}
use Rattle.sequences.proofs.Same.{when_same_lem, when_other}
use Rattle.sequences.proofs.Sums.{sum_of, sum_append, sum_join}
use Rattle.units.specs.Units.{split_size}
use Rattle.layout.specs.Day.{Day}
use Rattle.layout.specs.declared.Group.{Group}
use Rattle.layout.specs.declared.Record.{Record}
use Rattle.layout.specs.declared.Report.{Report}
use Rattle.layout.specs.Records.{with_records}
use Rattle.layout.specs.Reports.{group_of, with_reports}
use Rattle.layout.proofs.Records.{records_total}
use Rattle.layout.proofs.Reports.{reports_total}
use Rattle.rules.specs.Lines.{code_of}
use Rattle.rules.specs.Records.{record_of, cash_parts, cash_records, stock_record, second_unit, shanghai_step, other_step, order_records}
use Rattle.rules.specs.Reports.{no_group, shanghai_kind, other_kind, present, cash_groups, cash_reports, stock_report, order_reports}
use Rattle.balance.specs.Reported.{amounts, amounts_under, amount_of, of_kind, other_than, over_groups, group_total, CashTold}

-- a number that adds up, over the records of an amount of cash
pub cash_sum : (code side : ℕ) (f : Record → ℕ) (u : ℕ → ℕ) → ((q p : ℕ) → f (record_of code side q p) ≡ u (q * p)) → u 0 ≡ 0 → ((x y : ℕ) → u (x + y) ≡ u x + u y)
    → (c : ℕ) → sum_of f (cash_records code side c) ≡ u c
unfolding cash_records cash_parts sum_of
cash_sum code side f u each none adds c = go (eqb c 0) refl (ltb c split_size)
  where
    go : (a : Bool) → eqb c 0 ≡ a → (b : Bool)
        → sum_of f (map (λ (part : ℕ × ℕ). record_of code side part.0 part.1) (cond a [] (cond b ((1, c) ∷ []) ((split_size, c / split_size) ∷ (1, c % split_size) ∷ [])))) ≡ u c
    go true p b = sym (ap u (eqb-true c 0 p) ∙ none)
    go false p true =
        let whole : 1 * c ≡ c = omega arith in
        omega (arith, each 1 c, ap u whole)
    go false p false =
        let whole : split_size * (c / split_size) + 1 * (c % split_size) ≡ c = omega arith in
        omega (arith, each split_size (c / split_size), each 1 (c % split_size), adds (split_size * (c / split_size)) (1 * (c % split_size)), ap u whole)

module _ (d : Day) (stock rest units : ℕ) (moved : ℕ → ℕ) (other shanghai : ℕ) where
  abbrev g : ℕ
  g = d.fund.first_code

  abbrev records : List Record
  records = order_records d stock rest units moved other shanghai

  abbrev reports : List Report
  reports = order_reports d stock rest units moved other shanghai

  -- of a number that units and stock have not, the records of cash have all
  module _ (f : Record → ℕ) (none : (code side q : ℕ) → f (record_of code side q 0) ≡ 0) where
    stock_none : (i : ℕ) → sum_of f (stock_record d stock moved i) ≡ 0
    unfolding stock_record sum_of
    stock_none i = cond_both (ltb 0 (moved i)) _ [] (λ rs. sum_of f rs ≡ 0) (λ _. omega (arith, none (code_of d i) stock (moved i))) (λ _. refl)

    pub records_sum : sum_of f records ≡ sum_of f (cash_records (g + other_step) rest other) + sum_of f (cash_records (g + shanghai_step) rest shanghai)
    unfolding order_records sum_of
    records_sum =
        let lines = join_below (stock_record d stock moved) d.count in
        let last = record_of (g + second_unit) rest units 0 ∷ [] in
        let sh = cash_records (g + shanghai_step) rest shanghai in
        let ot = cash_records (g + other_step) rest other in
        omega (
          arith,
          none g rest units,
          none (g + second_unit) rest units,
          sum_append f lines (ot ++ (sh ++ last)),
          sum_append f ot (sh ++ last),
          sum_append f sh last,
          sum_join f (stock_record d stock moved) d.count ∙ sum_zero _ d.count (λ i h. stock_none i),
        )

  -- and so the report of cash, group by group
  module _ (f : Group → ℕ) (none : f no_group ≡ 0) (empty : (kind : ℕ) → f (group_of kind 0) ≡ 0) where
    lines_none : (i : ℕ) → sum_of (over_groups f) (stock_report d stock moved i) ≡ 0
    unfolding stock_report sum_of
    lines_none i = cond_both (ltb 0 (moved i)) _ [] (λ rs. sum_of (over_groups f) rs ≡ 0) (λ _. omega (arith, none)) (λ _. refl)

    groups_sum : sum_of (over_groups f) (cash_reports rest (cash_groups other shanghai)) ≡ f (group_of shanghai_kind shanghai) + f (group_of other_kind other)
    unfolding cash_groups present sum_of
    groups_sum = go (eqb shanghai 0) refl (eqb other 0) refl
      where
        zero_of : (kind x : ℕ) → eqb x 0 ≡ true → f (group_of kind x) ≡ 0
        zero_of kind x e = ap (λ (n : ℕ). f (group_of kind n)) (eqb-true x 0 e) ∙ empty kind

        go : (a : Bool) → eqb shanghai 0 ≡ a → (b : Bool) → eqb other 0 ≡ b
            → sum_of (over_groups f) (cash_reports rest (cond a (cond b [] (group_of other_kind other ∷ [])) (group_of shanghai_kind shanghai ∷ cond b [] (group_of other_kind other ∷ []))))
            ≡ f (group_of shanghai_kind shanghai) + f (group_of other_kind other)
        go true p true q = omega (arith, zero_of shanghai_kind shanghai p, zero_of other_kind other q)
        go true p false q = omega (arith, none, zero_of shanghai_kind shanghai p)
        go false p true q = omega (arith, none, zero_of other_kind other q)
        go false p false q = omega (arith, none)

    pub reports_sum : sum_of (over_groups f) reports ≡ f (group_of shanghai_kind shanghai) + f (group_of other_kind other)
    unfolding order_reports sum_of
    reports_sum =
        omega (
          arith,
          none,
          sum_append (over_groups f) (join_below (stock_report d stock moved) d.count) (cash_reports rest (cash_groups other shanghai)),
          sum_join (over_groups f) (stock_report d stock moved) d.count ∙ sum_zero _ d.count (λ i h. lines_none i),
          groups_sum,
        )

  -- the records' amounts, all and under a code
  abbrev amount : Record → ℕ
  amount r = r.amount.0

  abbrev under : ℕ → Record → ℕ
  under code r = when_same r.code code r.amount.0

  neither : (b : Bool) → cond {A = ℕ} b 0 0 ≡ 0
  neither b = cond_both b 0 0 (λ n. n ≡ 0) (λ _. refl) (λ _. refl)

  no_amount : (q : ℕ) → q * 0 ≡ 0
  no_amount q = mul-zero q

  when_zero : (x y : ℕ) → when_same x y 0 ≡ 0
  unfolding when_same
  when_zero x y = neither (eqb x y)

  when_adds : (x y m n : ℕ) → when_same x y (m + n) ≡ when_same x y m + when_same x y n
  unfolding when_same
  when_adds x y m n = grind (arith, nat_tests)

  all_amounts : sum_of amount records ≡ other + shanghai
  all_amounts =
      let cash : (code c : ℕ) → sum_of amount (cash_records code rest c) ≡ c = λ code c. cash_sum code rest amount (λ n. n) (λ q p. refl) refl (λ x y. refl) c in
      omega (arith, records_sum amount (λ code side q. no_amount q), cash (g + other_step) other, cash (g + shanghai_step) shanghai)

  under_sum : (code : ℕ) → sum_of (under code) records ≡ when_same (g + other_step) code other + when_same (g + shanghai_step) code shanghai
  under_sum code =
      let cash : (own c : ℕ) → sum_of (under code) (cash_records own rest c) ≡ when_same own code c =
      λ own c. cash_sum own rest (under code) (when_same own code) (λ q p. refl) (when_zero own code) (when_adds own code) c in
      omega (
        arith,
        records_sum (under code) (λ own side q. ap (when_same own code) (no_amount q) ∙ when_zero own code),
        cash (g + other_step) other,
        cash (g + shanghai_step) shanghai,
      )

  -- what reports with the same groups say in a lent list
  module _ (list : List ℕ) (told : List Report) (same : (f : Group → ℕ) → sum_of (over_groups f) told ≡ sum_of (over_groups f) reports) (lent : List ℕ) where
    total : (f : Group → ℕ) → f no_group ≡ 0 → ((kind : ℕ) → f (group_of kind 0) ≡ 0)
        → group_total f (with_reports told lent) (length told) ≡ f (group_of shanghai_kind shanghai) + f (group_of other_kind other)
    unfolding group_total
    total f none empty = reports_total (over_groups f) told lent ∙ same f ∙ reports_sum f none empty

    pub cash_told_lem : CashTold g (with_records records list) (length records) (with_reports told lent) (length told)
    unfolding amounts amounts_under
    cash_told_lem =
        record {
          shanghai =
              omega (
                arith,
                total (of_kind shanghai_kind) (when_zero 0 shanghai_kind) (λ kind. when_zero kind shanghai_kind),
                when_same_lem shanghai_kind shanghai_kind shanghai refl,
                when_other other_kind shanghai_kind other (λ e. omega arith),
                records_total (under (g + shanghai_step)) records list,
                under_sum (g + shanghai_step),
                when_other (g + other_step) (g + shanghai_step) other (λ e. omega arith),
                when_same_lem (g + shanghai_step) (g + shanghai_step) shanghai refl,
              );
          other =
              omega (
                arith,
                total (other_than shanghai_kind) refl (λ kind. neither (eqb kind shanghai_kind)),
                records_total (under (g + other_step)) records list,
                under_sum (g + other_step),
                when_same_lem (g + other_step) (g + other_step) other refl,
                when_other (g + shanghai_step) (g + other_step) shanghai (λ e. omega arith),
              );
          all = omega (arith, total amount_of refl (λ kind. refl), records_total amount records list, all_amounts);
        }
