-- The reference value and both orders by columns, whatever says them. With the columns of the day's table these are the definitions
-- of crate rules, and with those of document 01's five rows they are what they were before a day held a table.
use Rattle.std.specs.Prelude.{ℕ, ◌+◌, ◌-◌, ◌*◌, min, Bool, cond, not, ◌&&◌, List, [], ◌∷◌, ◌++◌, leb, ltb, eqb}
use Rattle.sequences.specs.Below.{sum_below, any_below, first_below}
use Rattle.sequences.specs.Every.{every}
use Rattle.sequences.specs.Checks.{Check, check, Reply, answering, answered}
use Rattle.sequences.specs.Stretch.{on_stretch}
use Rattle.units.specs.Units.{rounded, premium, discount, ratio_bound}
use Rattle.layout.specs.Day.{Day}
use Rattle.layout.specs.declared.Record.{Record}
use Rattle.layout.specs.declared.Report.{Report}
use Rattle.layout.specs.Book.{cash, head_at, lots_at, width, account}
use Rattle.rules.specs.declared.Kind.{Kind}
use Rattle.rules.specs.declared.Kind.TheVariants.{Creation, Redemption}
use Rattle.rules.specs.Lines.{quantity, creation_rate, redemption_rate, creation_amount, redemption_amount, price_of}
use Rattle.rules.specs.Replies.{made_reply, if_accepted}
use Rattle.rules.specs.Value.{cash_added, cash_taken}
use Rattle.rules.specs.Orders.{baskets, form_checks, permission_checks, need, account_side, fund_side}
use Rattle.rules.specs.Records.{order_records}
use Rattle.rules.specs.Reports.{order_reports}
use Rattle.rules.specs.Lent.{Lent, rooms_in, counts_of, too_short, with_order}
use Rattle.rules.specs.Creation.{available}
use Rattle.rules.specs.Redemption.{units_available}
use Rattle.rules.specs.Kinds.{stock_lots, fund_lots, unit_lots, account_cash, fund_cash, stock_side, rest_side}
use Rattle.five_flags.specs.Columns.{Columns}

-- what an order gives: its answer, and the book and the lent lists after it
pub record Outcome : Type 0 where
  pub answer : Reply
  pub book : List ℕ
  pub lists : Lent

module _ (d : Day) (c : Columns) where
  -- ---- the reference value; `sound` says that the day passes 5
  unfoldable pub worth_before : List ℕ → ℕ
  worth_before ps =
      sum_below (λ i. cond (c.is_priced i) (quantity d i * price_of ps i) (creation_amount d i)) d.count
      + cash_added d.fund.estimated_cash

  unfoldable pub reference_value : List ℕ → ℕ
  reference_value ps = rounded (10 * (worth_before ps - cash_taken d.fund.estimated_cash)) d.fund.basket_size

  unfoldable pub has_value : List ℕ → Bool
  has_value ps =
      every
      (not (any_below (λ i. every (c.is_priced i ∷ ltb 0 (quantity d i) ∷ eqb (price_of ps i) 0 ∷ [])) d.count)
      ∷ leb (cash_taken d.fund.estimated_cash) (worth_before ps)
      ∷ leb (reference_value ps) 9_999_999
      ∷ [])

  unfoldable pub value : Bool → List ℕ → Reply
  value sound ps = answered (check (not sound) 5 0 ∷ check (not (has_value ps)) 14 0 ∷ []) (reference_value ps)

  -- ---- an order of a kind for so many units, in which component i moves `moved i` and pays `pays i`
  unfoldable pub other_cash : (ℕ → ℕ) → ℕ
  other_cash pays = sum_below (λ i. cond (c.is_shanghai i) 0 (pays i)) d.count

  unfoldable pub shanghai_cash : (ℕ → ℕ) → ℕ
  shanghai_cash pays = sum_below (λ i. cond (c.is_shanghai i) (pays i) 0) d.count

  unfoldable pub all_cash : (ℕ → ℕ) → ℕ
  all_cash pays = other_cash pays + shanghai_cash pays

  unfoldable pub records : Kind → ℕ → (ℕ → ℕ) → (ℕ → ℕ) → List Record
  records kind units moved pays =
      order_records d (stock_side kind) (rest_side kind) units moved (other_cash pays) (shanghai_cash pays)

  unfoldable pub reports : Kind → ℕ → (ℕ → ℕ) → (ℕ → ℕ) → List Report
  reports kind units moved pays =
      order_reports d (stock_side kind) (rest_side kind) units moved (other_cash pays) (shanghai_cash pays)

  -- the book with its moves
  unfoldable pub moves : Kind → ℕ → ℕ → (ℕ → ℕ) → (ℕ → ℕ) → List ℕ → List ℕ
  moves kind a units moved pays b =
      on_stretch (width d) a
      (λ s. account_side d.count kind units (λ i x. stock_lots kind x (moved i)) (λ x. unit_lots kind x units) (account_cash kind (head_at s cash) (all_cash pays)) s)
      (on_stretch (width d) 0
      (λ f. fund_side d.count (λ i x. fund_lots kind x (moved i)) (fund_cash kind (head_at f cash) (all_cash pays)) f)
      b)

  -- its outcome, where `means` are the third stage's tests before 16
  unfoldable pub order : Kind → Bool → List ℕ → ℕ → ℕ → (ℕ → ℕ) → (ℕ → ℕ) → List Check → Lent → Outcome
  order kind sound b a units moved pays means lent =
      let counts = counts_of (records kind units moved pays) (reports kind units moved pays) in
      let last = means ++ (check (too_short (rooms_in lent) counts) 16 0 ∷ []) in
      let checks = check (not sound) 5 0 ∷ (form_checks d a units ++ (permission_checks d b kind a units ++ last)) in
      let answer = answering checks (made_reply counts) in
      record {
        answer = answer;
        book = if_accepted answer (moves kind a units moved pays b) b;
        lists = if_accepted answer (with_order (records kind units moved pays) (reports kind units moved pays) lent) lent;
      }

  -- ---- creation of m baskets, for an account with the stretch s
  unfoldable pub handed_in : List ℕ → ℕ → ℕ → ℕ
  handed_in s m i = cond (c.moves_stock i) (min (need d m i) (available s i)) 0

  unfoldable pub first_short : List ℕ → ℕ → ℕ
  first_short s m =
      first_below (λ i. every (c.moves_stock i ∷ not (c.cash_for_shortage i) ∷ ltb (available s i) (need d m i) ∷ [])) d.count

  unfoldable pub missing : List ℕ → ℕ → ℕ → ℕ
  missing s m i = cond (c.cash_for_shortage i) (need d m i - available s i) 0

  unfoldable pub is_missing : List ℕ → ℕ → Bool
  is_missing s m = any_below (λ i. ltb 0 (missing s m i)) d.count

  unfoldable pub missing_worth : List ℕ → List ℕ → ℕ → ℕ → ℕ
  missing_worth s ps m i = missing s m i * price_of ps i

  unfoldable pub ratio_passed : List ℕ → List ℕ → ℕ → Bool
  ratio_passed s ps m =
      ltb (ratio_bound m d.fund.basket_size (reference_value ps) d.fund.max_cash_ratio.0)
      (sum_below (missing_worth s ps m) d.count)

  unfoldable pub creation_cash : List ℕ → List ℕ → ℕ → ℕ → ℕ
  creation_cash s ps m i = premium (cond (c.moves_stock i) (missing_worth s ps m i) (m * creation_amount d i)) (creation_rate d i)

  unfoldable pub creation_means : List ℕ → List ℕ → ℕ → List Check
  creation_means s ps m =
      check (ltb (first_short s m) d.count) 9 (first_short s m)
      ∷ check (is_missing s m && not (has_value ps)) 14 0
      ∷ check (is_missing s m && ratio_passed s ps m) 15 0
      ∷ check (ltb (head_at s cash) (all_cash (creation_cash s ps m))) 10 0
      ∷ []

  unfoldable pub creation : Bool → List ℕ → List ℕ → ℕ → ℕ → Lent → Outcome
  creation sound b ps a units lent =
      let s = account d b a in
      let m = baskets d units in
      order Creation sound b a units (handed_in s m) (creation_cash s ps m) (creation_means s ps m) lent

  -- ---- redemption of m baskets, by a fund with the stretch f
  unfoldable pub delivered : ℕ → ℕ → ℕ
  delivered m i = cond (c.moves_stock i) (need d m i) 0

  unfoldable pub redemption_cash : ℕ → ℕ → ℕ
  redemption_cash m i = cond (c.moves_stock i) 0 (discount (m * redemption_amount d i) (redemption_rate d i))

  unfoldable pub first_lacking : List ℕ → ℕ → ℕ
  first_lacking f m = first_below (λ i. ltb (lots_at f i).old (delivered m i)) d.count

  unfoldable pub redemption_means : List ℕ → List ℕ → ℕ → ℕ → List Check
  redemption_means s f units m =
      check (ltb (units_available d s) units) 9 0
      ∷ check (ltb (first_lacking f m) d.count) 17 (first_lacking f m)
      ∷ check (ltb (head_at f cash) (all_cash (redemption_cash m))) 17 d.count
      ∷ []

  unfoldable pub redemption : Bool → List ℕ → ℕ → ℕ → Lent → Outcome
  redemption sound b a units lent =
      let m = baskets d units in
      order Redemption sound b a units (delivered m) (redemption_cash m) (redemption_means (account d b a) (account d b 0) units m) lent
