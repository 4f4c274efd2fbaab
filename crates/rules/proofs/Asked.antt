-- An ask comes to what the rules of its kind say, and the code's text for both kinds says the same.
use mathlib.Core.Path.{◌≡◌, refl}
use mathlib.Core.List.{List}
use Prim.Native.Nat.{ℕ}
use Rattle.layout.specs.Day.{Day}
use Rattle.rules.specs.declared.Kind.{Kind}
use Rattle.rules.specs.declared.Kind.TheVariants.{Creation, Redemption}
use Rattle.rules.specs.declared.Ask.{Ask}
use Rattle.rules.specs.declared.Rooms.{Rooms}
use Rattle.rules.specs.Lent.{Lent}
use Rattle.layout.specs.Book.{account}
use Rattle.rules.specs.Orders.{baskets}
use Rattle.rules.specs.Creation.{creation_due, creation_records, creation_reports, creation_reply, creation_moves, created_book, created_lists}
use Rattle.rules.specs.Redemption.{redemption_paid, redemption_records, redemption_reports, redemption_reply, redemption_moves, redeemed_book, redeemed_lists}
use Rattle.rules.specs.Kinds.{by_kind, creation_of, redemption_of, all_cash, moved_by, stock_lots, fund_lots, unit_lots, account_cash, fund_cash}
use Rattle.rules.specs.Kinds.{order_moves, records_by, reports_by, cash_by, asked_cash, asked_records, asked_reports, counts_by, asked_checks, asked_reply, asked_moves, asked_book, asked_lists}

-- what holds of creation and of redemption holds of a kind
pub by_kind_lem : (P : Kind → Type 0) → P Creation → P Redemption → (kind : Kind) → P kind
by_kind_lem P x y Creation = x
by_kind_lem P x y Redemption = y

-- what is chosen by a kind has what both have
pub either_kind : {A : Type 0} (P : A → Type 0) (x y : A) → P x → P y → (kind : Kind) → P (by_kind kind x y)
either_kind P x y p q Creation = p
either_kind P x y p q Redemption = q

-- and so of an ask
pub by_ask : (P : Ask → Type 0) → ((a units : ℕ) → P (creation_of a units)) → ((a units : ℕ) → P (redemption_of a units)) → (k : Ask) → P k
by_ask P x y k = by_kind_lem (λ kind. P (record { kind = kind; account = k.account; units = k.units })) (x k.account k.units) (y k.account k.units) k.kind

module _ (d : Day) (b ps : List ℕ) (a units : ℕ) where
  pub creation_asked : (rooms : Rooms) → asked_reply d b ps (creation_of a units) rooms ≡ creation_reply d b ps a units rooms
  unfolding asked_reply asked_checks asked_records asked_reports counts_by creation_reply
  creation_asked rooms = refl

  pub redemption_asked : (rooms : Rooms) → asked_reply d b ps (redemption_of a units) rooms ≡ redemption_reply d b ps a units rooms
  unfolding asked_reply asked_checks asked_records asked_reports counts_by redemption_reply
  redemption_asked rooms = refl

  pub created_book_lem : (rooms : Rooms) → asked_book d b ps (creation_of a units) rooms ≡ created_book d b ps a units rooms
  unfolding asked_book asked_moves asked_reply asked_checks asked_records asked_reports counts_by created_book creation_reply
  created_book_lem rooms = refl

  pub redeemed_book_lem : (rooms : Rooms) → asked_book d b ps (redemption_of a units) rooms ≡ redeemed_book d b ps a units rooms
  unfolding asked_book asked_moves asked_reply asked_checks asked_records asked_reports counts_by redeemed_book redemption_reply
  redeemed_book_lem rooms = refl

  pub created_lists_lem : (lent : Lent) → asked_lists d b ps (creation_of a units) lent ≡ created_lists d b ps a units lent
  unfolding asked_lists asked_reply asked_checks asked_records asked_reports counts_by created_lists creation_reply
  created_lists_lem lent = refl

  pub redeemed_lists_lem : (lent : Lent) → asked_lists d b ps (redemption_of a units) lent ≡ redeemed_lists d b ps a units lent
  unfolding asked_lists asked_reply asked_checks asked_records asked_reports counts_by redeemed_lists redemption_reply
  redeemed_lists_lem lent = refl

-- the records, the reports and the moves of an ask, by the text for both kinds
pub asked_records_lem : (d : Day) (s ps : List ℕ) (k : Ask)
    → records_by k.kind d s k.units (baskets d k.units) (asked_cash d s ps k) ≡ asked_records d s ps k
unfolding records_by creation_records redemption_records moved_by asked_cash cash_by asked_records
asked_records_lem d s ps =
    by_ask (λ k. records_by k.kind d s k.units (baskets d k.units) (asked_cash d s ps k) ≡ asked_records d s ps k)
    (λ a units. refl)
    (λ a units. refl)

pub asked_reports_lem : (d : Day) (s ps : List ℕ) (k : Ask)
    → reports_by k.kind d s k.units (baskets d k.units) (asked_cash d s ps k) ≡ asked_reports d s ps k
unfolding reports_by creation_reports redemption_reports moved_by asked_cash cash_by asked_reports
asked_reports_lem d s ps =
    by_ask (λ k. reports_by k.kind d s k.units (baskets d k.units) (asked_cash d s ps k) ≡ asked_reports d s ps k)
    (λ a units. refl)
    (λ a units. refl)

pub asked_moves_lem : (d : Day) (b ps : List ℕ) (k : Ask)
    → order_moves k.kind d k.account k.units (baskets d k.units) (all_cash (asked_cash d (account d b k.account) ps k)) b ≡ asked_moves d ps k b
unfolding order_moves creation_moves redemption_moves moved_by stock_lots fund_lots unit_lots account_cash fund_cash asked_cash cash_by creation_due redemption_paid asked_moves
asked_moves_lem d b ps =
    by_ask (λ k. order_moves k.kind d k.account k.units (baskets d k.units) (all_cash (asked_cash d (account d b k.account) ps k)) b ≡ asked_moves d ps k b)
    (λ a units. refl)
    (λ a units. refl)
