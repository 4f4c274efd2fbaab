-- A redemption on two days whose components agree on all but the premium.
use Prim.Native.Nat.{ℕ}
use mathlib.Core.Path.{◌≡◌, ap, fun_ext}
use mathlib.Core.Bool.{true}
use mathlib.Core.List.{List}
use Rattle.flags.specs.Table.{stock_moves}
use Rattle.layout.specs.Book.{head_total}
use Rattle.rules.specs.declared.Rooms.{Rooms}
use Rattle.rules.specs.Lent.{Lent, rooms_in}
use Rattle.rules.specs.Lines.{redemption_rate, redemption_amount}
use Rattle.rules.specs.Sound.{is_sound}
use Rattle.rules.specs.Records.{side_b, side_s}
use Rattle.rules.specs.Orders.{baskets, whole_baskets, form_checks, switch_allows, count_of, fund_count, within_limits, permission_checks}
use Rattle.rules.specs.Redemption.{delivered, redemption_cash, redemption_paid, units_available, fund_lacks, first_lacking}
use Rattle.rules.specs.Redemption.{redemption_records, redemption_reports, redemption_means, redemption_checks, redemption_reply, redemption_moves, redeemed_book, redeemed_lists}
use Rattle.order_rates.proofs.Shared.{DayPair, one, other, Shared, same_need, same_shanghai, same_other, same_lists}

-- what a redemption takes besides
pub record ForRedemption (t : DayPair) : Type 0 where
  pub shared : Shared t
  pub rates : (i : ℕ) → redemption_rate (one t) i ≡ redemption_rate (other t) i
  pub amounts : (i : ℕ) → redemption_amount (one t) i ≡ redemption_amount (other t) i

module _ (t : DayPair) (c : ForRedemption t) where
  -- in m baskets
  module _ (m : ℕ) where
    same_delivered : delivered (one t) m ≡ delivered (other t) m
    unfolding delivered
    same_delivered = fun_ext (λ i. rw (c.shared.columns stock_moves i, same_need t c.shared m i))

    same_lacking : (f : List ℕ) → first_lacking (one t) f m ≡ first_lacking (other t) f m
    unfolding first_lacking fund_lacks
    same_lacking f =
        let lacks : fund_lacks (one t) f m ≡ fund_lacks (other t) f m = fun_ext (λ i. rw (ap (λ (g : ℕ → ℕ). g i) same_delivered)) in
        rw lacks

    same_cash : redemption_cash (one t) m ≡ redemption_cash (other t) m
    unfolding redemption_cash
    same_cash = fun_ext (λ i. rw (c.shared.columns stock_moves i, c.amounts i, c.rates i))

    same_paid : redemption_paid (one t) m ≡ redemption_paid (other t) m
    unfolding redemption_paid
    same_paid = rw (same_other t c.shared same_cash, same_shanghai t c.shared same_cash)

  module _ (units : ℕ) where
    same_made : (redemption_records (one t) units ≡ redemption_records (other t) units) × (redemption_reports (one t) units ≡ redemption_reports (other t) units)
    unfolding redemption_records redemption_reports baskets
    same_made =
        let m = baskets (one t) units in
        same_lists t c.shared side_b side_s units (same_delivered m) (same_cash m)

    same_means : (x f : List ℕ) (rooms : Rooms) → redemption_means (one t) x f units rooms ≡ redemption_means (other t) x f units rooms
    unfolding redemption_means units_available baskets
    same_means x f rooms =
        let m = baskets (one t) units in
        rw (same_lacking m f, same_paid m, same_made.0, same_made.1)

  module _ (b ps : List ℕ) (first : is_sound (one t) b ps ≡ true) (second : is_sound (other t) b ps ≡ true) (a units : ℕ) where
    pub same_answer : (rooms : Rooms) → redemption_reply (one t) b ps a units rooms ≡ redemption_reply (other t) b ps a units rooms
    unfolding redemption_reply redemption_checks form_checks whole_baskets baskets permission_checks switch_allows within_limits fund_count count_of head_total
    same_answer rooms =
        let made = same_made units in
        rw (first, second, same_means units _ _ rooms, made.0, made.1)

    pub same_left : (lent : Lent) → redeemed_lists (one t) b ps a units lent ≡ redeemed_lists (other t) b ps a units lent
    unfolding redeemed_lists
    same_left lent =
        let made = same_made units in
        rw (same_answer (rooms_in lent), made.0, made.1)

    same_moves : redemption_moves (one t) a units b ≡ redemption_moves (other t) a units b
    unfolding redemption_moves baskets
    same_moves =
        let m = baskets (one t) units in
        rw (same_delivered m, same_paid m)

    pub same_book : (rooms : Rooms) → redeemed_book (one t) b ps a units rooms ≡ redeemed_book (other t) b ps a units rooms
    unfolding redeemed_book
    same_book rooms = rw (same_answer rooms, same_moves)
