-- Discounts leave creations, and premiums redemptions, as they are.
use Prim.Native.Nat.{ℕ}
use mathlib.Core.Path.{◌≡◌, refl, sym, ap, subst, ◌∙◌}
use mathlib.Core.Bool.{true}
use mathlib.Core.List.{List}
use Rattle.flags.specs.Table.{entry}
use Rattle.layout.specs.declared.Component.{Component}
use Rattle.layout.specs.Day.{Day}
use Rattle.rules.specs.Lines.{code_of, quantity, column, creation_rate, redemption_rate, creation_amount, redemption_amount}
use Rattle.rules.specs.Sound.{is_sound}
use Rattle.rules.specs.Lent.{Lent, rooms_in}
use Rattle.balance.specs.Calls.{Call, step}
use Rattle.order_rates.specs.Rates.{SameBut, SameResult, DiscountsLeaveCreations, PremiumsLeaveRedemptions}
use Rattle.order_rates.proofs.Shared.{DayPair, other, Shared}
use Rattle.order_rates.proofs.Creation as creation
use Rattle.order_rates.proofs.Redemption as redemption

-- the day d, and the day e with the head and the table of d
abbrev pair_of : Day → Day → DayPair
pair_of d e = record { accounts = d.accounts; count = d.count; fund = d.fund; table = d.table; components = d.components; others = e.components }

-- a change of components that keeps code, quantity and flag
abbrev Keeping : (Component → Component → Component) → Type 0
Keeping changed = (x c : Component) → ((changed x c).code ≡ c.code) × ((changed x c).quantity ≡ c.quantity) × ((changed x c).flag ≡ c.flag)

module _ (changed : Component → Component → Component) (d e : Day) (s : SameBut changed d e) where
  head_same : other (pair_of d e) ≡ e
  head_same = λ i. record { accounts = s.accounts i; count = s.count i; fund = s.fund i; table = s.table i; components = e.components }

  sound_other : (b ps : List ℕ) → is_sound e b ps ≡ true → is_sound (other (pair_of d e)) b ps ≡ true
  sound_other b ps h = ap (λ (x : Day). is_sound x b ps) head_same ∙ h

  shared : Keeping changed → Shared (pair_of d e)
  unfolding code_of quantity column
  shared keeps =
      record {
        codes = λ i. sym (keeps _ _).0 ∙ ap (λ (c : Component). c.code) (s.components i);
        quantities = λ i. sym (keeps _ _).1 ∙ ap (λ (c : Component). c.quantity) (s.components i);
        columns = λ k i. ap (λ (flag : ℕ). entry d.table flag k) (sym (keeps _ _).2 ∙ ap (λ (c : Component). c.flag) (s.components i));
      }

  -- what holds of d and of that day holds of d and e
  carried : (b ps : List ℕ) (call : Call) (lent : Lent) → SameResult d (other (pair_of d e)) b ps call lent → SameResult d e b ps call lent
  carried b ps call lent h = subst (λ (x : Day). SameResult d x b ps call lent) head_same h

pub discounts_leave_creations : DiscountsLeaveCreations
unfolding step creation_rate creation_amount
discounts_leave_creations d e b ps first second s account units lent =
    let takes : creation.ForCreation (pair_of d e) =
    record {
      shared = shared _ d e s (λ x c. (refl, refl, refl));
      rates = λ i. ap (λ (c : Component). c.premium.0) (s.components i);
      amounts = λ i. ap (λ (c : Component). c.amount.0) (s.components i);
    } in
    let sound = sound_other _ d e s b ps second in
    carried _ d e s b ps _ lent
    (record {
      answer = creation.same_answer _ takes b ps first sound account units (rooms_in lent);
      lists = creation.same_left _ takes b ps first sound account units lent;
      book = creation.same_book _ takes b ps first sound account units (rooms_in lent);
    })

pub premiums_leave_redemptions : PremiumsLeaveRedemptions
unfolding step redemption_rate redemption_amount
premiums_leave_redemptions d e b ps first second s account units lent =
    let takes : redemption.ForRedemption (pair_of d e) =
    record {
      shared = shared _ d e s (λ x c. (refl, refl, refl));
      rates = λ i. ap (λ (c : Component). c.discount.0) (s.components i);
      amounts = λ i. ap (λ (c : Component). c.amount.0) (s.components i);
    } in
    let sound = sound_other _ d e s b ps second in
    carried _ d e s b ps _ lent
    (record {
      answer = redemption.same_answer _ takes b ps first sound account units (rooms_in lent);
      lists = redemption.same_left _ takes b ps first sound account units lent;
      book = redemption.same_book _ takes b ps first sound account units (rooms_in lent);
    })
