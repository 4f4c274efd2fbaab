-- The answers of the third stage, test by test.
use mathlib.Core.Path.{◌≡◌, refl, sym, ap, ◌∙◌}
use mathlib.Core.Bool.{Bool, true, false, cond, not, ◌&&◌}
use Rattle.rules.specs.declared.Kind.{Kind}
use mathlib.Core.List.{List, [], ◌∷◌, ◌++◌}
use Rattle.std.specs.Prelude.{Option}
use Rattle.std.proofs.lemmas.List.{append-nil}
use Rattle.std.specs.Bool.{then_some}
use Prim.Native.Nat.{ℕ, ◌≤◌}
use lib.Dec.{T, ltb}
use Rattle.sequences.specs.Checks.{Check, Reply, check, reply, answering, answered, is_accepted}
use Rattle.sequences.specs.Below.{sum_below, below}
use Rattle.sequences.proofs.Checks.{numbered, answered_next, answered_stop, accepted_passes, refused_stops}
use Rattle.units.specs.declared.Money.{Money}
use Rattle.units.specs.Units.{ratio_bound}
use Rattle.layout.specs.Places.{most_components}
use Rattle.layout.specs.Day.{Day}
use Rattle.rules.specs.declared.Ask.{Ask}
use Rattle.layout.specs.Book.{cash, head_at}
use Rattle.rules.specs.declared.Rooms.{Rooms}
use Rattle.rules.specs.declared.Counts.{Counts}
use Rattle.rules.specs.Replies.{made_reply, if_accepted}
use Rattle.rules.specs.Orders.{baskets}
use Rattle.rules.specs.Creation.{available, first_short, missing_worth, is_missing, creation_due, ratio_passed, creation_means}
use Rattle.rules.specs.Redemption.{first_lacking, units_available, redemption_paid, redemption_means}
use Rattle.rules.specs.Value.{reference_value, has_value}
use Rattle.rules.specs.Kinds.{creation_of, redemption_of, by_kind, all_cash, cash_by, asked_cash, asked_records, asked_reports, counts_by, asked_means}
use Rattle.rules.proofs.Asked.{by_ask}
use Rattle.rules.proofs.Replies.{refused}
use Rattle.value.proofs.Answers.{value_range}
use Rattle.std.proofs.lemmas.Bool.Decides.{nat_tests}
use native.Mathlib.Omega.{arith}
use Rattle.order_scan.specs.declared.Scan.{Scan}
use Rattle.order_scan.specs.Lines.{scan_counts}
use Rattle.order_scan.specs.Scans.{order_scan}
use Rattle.order_scan.specs.Ready.{Scannable}
use Rattle.order_scan.proofs.Ready.{cash_fits}
use Rattle.order_scan.proofs.Counts.{scan_counts_lem, scan_records-le}
use Rattle.order_shortage.specs.Tests.{fails_at, stock_tests, last_tests, cash_number, cash_place}
use Rattle.order_shortage.proofs.Laws.{stock_numbered, last_numbered}
use Rattle.order_tests.specs.Tests.{ratio_tests, means_answer}

ratio_numbered : (d : Day) (ps : List ℕ) (m : ℕ) (missing : Option Money) → T (numbered (ratio_tests d ps m missing))
unfolding ratio_tests
ratio_numbered d ps m missing = grind arith

-- the answer of two stages, by what the first answers
pub staged : (cs ds : List Check) (r : Reply) → T (numbered cs) → answering (cs ++ ds) r ≡ if_accepted (answered cs 0) (answering ds r) (answered cs 0)
staged cs ds r n = go (is_accepted (answered cs 0)) refl
  where
    go : (b : Bool) → is_accepted (answered cs 0) ≡ b → answering (cs ++ ds) r ≡ if_accepted (answered cs 0) (answering ds r) (answered cs 0)
    go true e = rw e (answered_next cs ds r (accepted_passes cs _ n e))
    go false e = rw e (answered_stop cs ds r _ (refused_stops cs 0 e))

-- and of one
alone : (cs : List Check) (r : Reply) → T (numbered cs) → answering cs r ≡ if_accepted (answered cs 0) r (answered cs 0)
unfolding answering
alone cs r n = ap (λ (ds : List Check). answering ds r) (sym (append-nil cs)) ∙ staged cs [] r n

-- a test at the first place below n, and the tests of what is missing, as the rules write them
module _ (cs : List Check) (r : Reply) where
  at_first : (n k number : ℕ) → answering (fails_at number (below n k) ∷ cs) r ≡ answering (check (ltb k n) number k ∷ cs) r
  unfolding answering
  at_first n k number = grind arith

  of_missing : (d : Day) (ps : List ℕ) (m : ℕ) (b : Bool) (worth : Money)
      → answering (ratio_tests d ps m (then_some b worth) ++ cs) r
      ≡ answering
      (check (b && not (has_value d ps)) 14 0
      ∷ check (b && ltb (ratio_bound m d.fund.basket_size (reference_value d ps) d.fund.max_cash_ratio.0) worth.0) 15 0
      ∷ cs)
      r
  unfolding answering ratio_tests
  of_missing d ps m b worth = grind arith

-- the tests of an ask, from a scan of it, are the rules' third stage
module _ (d : Day) (s f ps : List ℕ) where
  abbrev scan : Ask → Scan
  scan ask = order_scan ask.kind d s f ps (baskets d ask.units)

  abbrev stock_of : Ask → List Check
  stock_of ask = stock_tests ask.kind (available s d.count) ask.units (scan ask).short

  abbrev ratio_of : Ask → List Check
  ratio_of ask = ratio_tests d ps (baskets d ask.units) (scan ask).missing

  abbrev last_of : Ask → Rooms → Counts → List Check
  last_of ask rooms counts = last_tests (cash_number ask.kind) (cash_place ask.kind d.count) (head_at (by_kind ask.kind s f) cash) (all_cash (scan ask).cash) rooms counts

  abbrev rest_answer : Ask → Rooms → Reply
  rest_answer ask rooms =
      let tested = answered (last_of ask rooms (scan_counts (scan ask))) 0 in
      if_accepted tested (made_reply (scan_counts (scan ask))) tested

module _ (d : Day) (s f ps : List ℕ) (rooms : Rooms) where
  abbrev last : Ask → List Check
  last ask = last_of d s f ps ask rooms (counts_by d s ps ask)

  abbrev tests : Ask → List Check
  tests ask = stock_of d s f ps ask ++ (ratio_of d s f ps ask ++ last ask)

  tests_are : (r : Reply) (ask : Ask) → answering (tests ask) r ≡ answering (asked_means d s f ps ask rooms) r
  unfolding answering stock_tests ratio_tests last_tests cash_number cash_place order_scan cash_by available units_available asked_records asked_reports counts_by asked_means
      creation_means ratio_passed creation_due redemption_means redemption_paid
  tests_are r =
      by_ask (λ ask. answering (tests ask) r ≡ answering (asked_means d s f ps ask rooms) r)
      (λ a units.
      let ask = creation_of a units in
      let m = baskets d units in
      let first = first_short d s m in
      let missing = of_missing (last ask) r d ps m (is_missing d s m) (record { 0 = sum_below (missing_worth d s ps m) d.count }) in
      at_first (ratio_tests d ps m (scan d s f ps ask).missing ++ last ask) r d.count first 9 ∙ ap (λ (x : Reply). cond (ltb first d.count) (reply 9 first 0) x) missing)
      (λ a units.
      let first = first_lacking d f (baskets d units) in
      ap (λ (x : Reply). cond (ltb (available s d.count) units) (reply 9 0 0) x) (at_first (last (redemption_of a units)) r d.count first 17))

-- the answer of the third stage: of its tests of stock, then of the ratio, and then of the rest
pub means_staged : (d : Day) (s f ps : List ℕ) (ask : Ask) (rooms : Rooms)
    → means_answer d s f ps ask rooms
    ≡ if_accepted (answered (stock_of d s f ps ask) 0) (if_accepted (answered (ratio_of d s f ps ask) 0) (rest_answer d s f ps ask rooms) (answered (ratio_of d s f ps ask) 0))
    (answered (stock_of d s f ps ask) 0)
unfolding means_answer
means_staged d s f ps ask rooms =
    let stock = stock_of d s f ps ask in
    let ratio = ratio_of d s f ps ask in
    let rest = last d s f ps rooms ask in
    let r = made_reply (counts_by d s ps ask) in
    let named = last_numbered ask.kind (cash_place ask.kind d.count) (head_at (by_kind ask.kind s f) cash) (all_cash (scan d s f ps ask).cash) rooms (counts_by d s ps ask) in
    rw (scan_counts_lem d s f ps ask)
    (sym (tests_are d s f ps rooms r ask)
    ∙ staged stock (ratio ++ rest) r (stock_numbered ask.kind (available s d.count) ask.units (scan d s f ps ask).short)
    ∙ ap (λ (x : Reply). if_accepted (answered stock 0) x (answered stock 0))
    (staged ratio rest r (ratio_numbered d ps (baskets d ask.units) (scan d s f ps ask).missing)
    ∙ ap (λ (x : Reply). if_accepted (answered ratio 0) x (answered ratio 0)) (alone rest r named)))

-- the cash of an order is its scan's, and a scan's sums fit
pub scan_cash : (d : Day) (s f ps : List ℕ) (ask : Ask) → (order_scan ask.kind d s f ps (baskets d ask.units)).cash ≡ asked_cash d s ps ask
unfolding order_scan asked_cash
scan_cash d s f ps ask = refl

pub scan_fits : (kind : Kind) (d : Day) (s f ps : List ℕ) (m : ℕ) → Scannable d s f ps m
    → ((order_scan kind d s f ps m).stock_records ≤ most_components) × (all_cash (order_scan kind d s f ps m).cash ≤ 12_000_000_000_000_000_000)
unfolding order_scan
scan_fits kind d s f ps m r = (scan_records-le kind d s f ps m r.count, cash_fits kind d s f ps m r)

-- what the tests of the ratio, and of the third stage, are found by
pub ruleset ratio_laws = (value_range, refused, nat_tests)

pub ruleset means_laws = (means_staged, scan_cash, scan_fits, refused)
