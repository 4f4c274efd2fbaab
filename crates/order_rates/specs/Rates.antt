-- Which rate an order takes: creation the premium and redemption the discount. Two sound days that differ in the other rate alone
-- give it the same answer, records, reports and book.
use Rattle.std.specs.Prelude.{ℕ, ◌≡◌, true, List}
use Rattle.layout.specs.declared.Component.{Component}
use Rattle.layout.specs.Day.{Day}
use Rattle.rules.specs.Lines.{component_of}
use Rattle.rules.specs.Sound.{is_sound}
use Rattle.rules.specs.Lent.{Lent}
use Rattle.balance.specs.Calls.{State, Call, create, redeem, step}

-- the component c with the premium of x, and with its discount
abbrev pub with_premium_of : Component → Component → Component
with_premium_of x c = record { code = c.code; quantity = c.quantity; flag = c.flag; premium = x.premium; discount = c.discount; amount = c.amount }

abbrev pub with_discount_of : Component → Component → Component
with_discount_of x c = record { code = c.code; quantity = c.quantity; flag = c.flag; premium = c.premium; discount = x.discount; amount = c.amount }

-- the days d and e are the same once each component of d is given what is changed of e's
pub record SameBut (changed : Component → Component → Component) (d e : Day) : Type 0 where
  pub accounts : d.accounts ≡ e.accounts
  pub count : d.count ≡ e.count
  pub fund : d.fund ≡ e.fund
  pub table : d.table ≡ e.table
  pub components : (i : ℕ) → changed (component_of e i) (component_of d i) ≡ component_of e i

abbrev pub state : Day → List ℕ → List ℕ → State
state d b ps = record { day = d; book = b; prices = ps }

-- a call on either day, with the same book, prices and lent lists, has the same answer and leaves the same lists and book
pub record SameResult (d e : Day) (b ps : List ℕ) (call : Call) (lent : Lent) : Type 0 where
  pub answer : (step (state d b ps) call lent).reply ≡ (step (state e b ps) call lent).reply
  pub lists : (step (state d b ps) call lent).lent ≡ (step (state e b ps) call lent).lent
  pub book : (step (state d b ps) call lent).after.book ≡ (step (state e b ps) call lent).after.book

abbrev pub DiscountsLeaveCreations : Type 0
DiscountsLeaveCreations =
    (d e : Day) (b ps : List ℕ) → is_sound d b ps ≡ true → is_sound e b ps ≡ true → SameBut with_discount_of d e
    → (account units : ℕ) (lent : Lent) → SameResult d e b ps (create account units) lent

abbrev pub PremiumsLeaveRedemptions : Type 0
PremiumsLeaveRedemptions =
    (d e : Day) (b ps : List ℕ) → is_sound d b ps ≡ true → is_sound e b ps ≡ true → SameBut with_premium_of d e
    → (account units : ℕ) (lent : Lent) → SameResult d e b ps (redeem account units) lent
