-- A creation on two days whose components agree on all but the discount.
use Prim.Native.Nat.{ℕ}
use mathlib.Core.Path.{◌≡◌, ap, fun_ext}
use mathlib.Core.Bool.{true}
use mathlib.Core.List.{List}
use lib.Dec.{ltb}
use Rattle.sequences.specs.Below.{any_below}
use Rattle.flags.specs.Table.{stock_moves, shortage_in_cash, priced}
use Rattle.layout.specs.Book.{head_total, account}
use Rattle.rules.specs.declared.Rooms.{Rooms}
use Rattle.rules.specs.Lent.{Lent, rooms_in}
use Rattle.rules.specs.Lines.{creation_rate, creation_amount}
use Rattle.rules.specs.Sound.{is_sound}
use Rattle.rules.specs.Value.{worth_at, lacks_price, worth_before, reference_value, has_value}
use Rattle.rules.specs.Records.{side_b, side_s}
use Rattle.rules.specs.Orders.{baskets, whole_baskets, form_checks, switch_allows, count_of, fund_count, within_limits, permission_checks}
use Rattle.rules.specs.Creation.{handed_in, is_short, first_short, missing, missing_worth, is_missing, creation_cash, creation_due}
use Rattle.rules.specs.Creation.{ratio_passed, creation_records, creation_reports, creation_means, creation_checks, creation_reply, creation_moves, created_book, created_lists}
use Rattle.order_rates.proofs.Shared.{DayPair, one, other, Shared, same_need, same_shanghai, same_other, same_lists}

-- what a creation takes besides
pub record ForCreation (t : DayPair) : Type 0 where
  pub shared : Shared t
  pub rates : (i : ℕ) → creation_rate (one t) i ≡ creation_rate (other t) i
  pub amounts : (i : ℕ) → creation_amount (one t) i ≡ creation_amount (other t) i

module _ (t : DayPair) (c : ForCreation t) where
  -- the reference value
  same_worth : (ps : List ℕ) → worth_before (one t) ps ≡ worth_before (other t) ps
  unfolding worth_before worth_at
  same_worth ps =
      let worth : worth_at (one t) ps ≡ worth_at (other t) ps = fun_ext (λ i. rw (c.shared.columns priced i, c.shared.quantities i, c.amounts i)) in
      rw worth

  same_value : (ps : List ℕ) → reference_value (one t) ps ≡ reference_value (other t) ps
  unfolding reference_value
  same_value ps = rw (same_worth ps)

  same_exists : (ps : List ℕ) → has_value (one t) ps ≡ has_value (other t) ps
  unfolding has_value lacks_price
  same_exists ps =
      let lacking : lacks_price (one t) ps ≡ lacks_price (other t) ps = fun_ext (λ i. rw (c.shared.columns priced i, c.shared.quantities i)) in
      rw (lacking, same_worth ps, same_value ps)

  -- for an account with the stretch x, in m baskets
  module _ (x ps : List ℕ) (m : ℕ) where
    same_handed : handed_in (one t) x m ≡ handed_in (other t) x m
    unfolding handed_in
    same_handed = fun_ext (λ i. rw (c.shared.columns stock_moves i, same_need t c.shared m i))

    same_first : first_short (one t) x m ≡ first_short (other t) x m
    unfolding first_short is_short
    same_first =
        let short : is_short (one t) x m ≡ is_short (other t) x m =
        fun_ext (λ i. rw (c.shared.columns stock_moves i, c.shared.columns shortage_in_cash i, same_need t c.shared m i)) in
        rw short

    same_missing : missing (one t) x m ≡ missing (other t) x m
    unfolding missing
    same_missing = fun_ext (λ i. rw (c.shared.columns shortage_in_cash i, same_need t c.shared m i))

    same_any : is_missing (one t) x m ≡ is_missing (other t) x m
    unfolding is_missing
    same_any = ap (λ (f : ℕ → ℕ). any_below (λ i. ltb 0 (f i)) t.count) same_missing

    same_missing_worth : missing_worth (one t) x ps m ≡ missing_worth (other t) x ps m
    unfolding missing_worth
    same_missing_worth = fun_ext (λ i. rw (ap (λ (f : ℕ → ℕ). f i) same_missing))

    same_ratio : ratio_passed (one t) x ps m ≡ ratio_passed (other t) x ps m
    unfolding ratio_passed
    same_ratio = rw (same_value ps, same_missing_worth)

    same_cash : creation_cash (one t) x ps m ≡ creation_cash (other t) x ps m
    unfolding creation_cash
    same_cash = fun_ext (λ i. rw (c.shared.columns stock_moves i, ap (λ (f : ℕ → ℕ). f i) same_missing_worth, c.amounts i, c.rates i))

    same_due : creation_due (one t) x ps m ≡ creation_due (other t) x ps m
    unfolding creation_due
    same_due = rw (same_other t c.shared same_cash, same_shanghai t c.shared same_cash)

  module _ (x ps : List ℕ) (units : ℕ) where
    same_made : (creation_records (one t) x ps units ≡ creation_records (other t) x ps units) × (creation_reports (one t) x ps units ≡ creation_reports (other t) x ps units)
    unfolding creation_records creation_reports baskets
    same_made =
        let m = baskets (one t) units in
        same_lists t c.shared side_s side_b units (same_handed x ps m) (same_cash x ps m)

    same_means : (rooms : Rooms) → creation_means (one t) x ps units rooms ≡ creation_means (other t) x ps units rooms
    unfolding creation_means baskets
    same_means rooms =
        let m = baskets (one t) units in
        rw (same_first x ps m, same_any x ps m, same_exists ps, same_ratio x ps m, same_due x ps m, same_made.0, same_made.1)

  module _ (b ps : List ℕ) (first : is_sound (one t) b ps ≡ true) (second : is_sound (other t) b ps ≡ true) (a units : ℕ) where
    pub same_answer : (rooms : Rooms) → creation_reply (one t) b ps a units rooms ≡ creation_reply (other t) b ps a units rooms
    unfolding creation_reply creation_checks form_checks whole_baskets baskets permission_checks switch_allows within_limits fund_count count_of head_total
    same_answer rooms =
        let made = same_made (account (one t) b a) ps units in
        rw (first, second, same_means (account (one t) b a) ps units rooms, made.0, made.1)

    pub same_left : (lent : Lent) → created_lists (one t) b ps a units lent ≡ created_lists (other t) b ps a units lent
    unfolding created_lists
    same_left lent =
        let made = same_made (account (one t) b a) ps units in
        rw (same_answer (rooms_in lent), made.0, made.1)

    same_moves : creation_moves (one t) ps a units b ≡ creation_moves (other t) ps a units b
    unfolding creation_moves baskets
    same_moves =
        let m = baskets (one t) units in
        rw (same_handed (account (one t) b a) ps m, same_due (account (one t) b a) ps m)

    pub same_book : (rooms : Rooms) → created_book (one t) b ps a units rooms ≡ created_book (other t) b ps a units rooms
    unfolding created_book
    same_book rooms = rw (same_answer rooms, same_moves)
