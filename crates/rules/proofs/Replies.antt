-- Answers and replies: Done is accepted and every refusal is not, so what a call leaves follows from its answer.
use mathlib.Core.Path.{◌≡◌, refl, sym, ap, ◌∙◌}
use mathlib.Core.Bool.{true, false}
use mathlib.Core.List.{List}
use Prim.Native.Nat.{ℕ}
use lib.Dec.{eqb}
use Rattle.sequences.specs.Checks.{Check, Reply, reply, is_accepted, answering}
use Rattle.layout.specs.Day.{Day}
use Rattle.rules.specs.declared.Refusal.{Refusal}
use Rattle.rules.specs.declared.Refusal.TheVariants.{Sizes, FundField, Component, Total, UnsoundDay, NoSuchLine, QuantityOrPrice, Account, ShortOfStock, ShortOfCash}
use Rattle.rules.specs.declared.Refusal.TheVariants.{NotWholeBaskets, Switch, Limit, NoReferenceValue, CashRatio, ListTooShort, FundShort, TextLine, TextField, RecordCount, FlagTable}
use Rattle.rules.specs.Replies.{refusal_reply, if_accepted}
use Rattle.rules.specs.Sound.{is_sound, on_sound_day}

pub refused : (why : Refusal) → is_accepted (refusal_reply why) ≡ false
unfolding is_accepted
refused Sizes = refl
refused FundField = refl
refused (Component place) = refl
refused (Total place) = refl
refused UnsoundDay = refl
refused NoSuchLine = refl
refused QuantityOrPrice = refl
refused Account = refl
refused (ShortOfStock place) = refl
refused ShortOfCash = refl
refused NotWholeBaskets = refl
refused Switch = refl
refused Limit = refl
refused NoReferenceValue = refl
refused CashRatio = refl
refused ListTooShort = refl
refused (FundShort place) = refl
refused (TextLine place) = refl
refused (TextField place) = refl
refused RecordCount = refl
refused (FlagTable place) = refl

accepted : (a : Reply) → a.number ≡ 0 → is_accepted a ≡ true
unfolding is_accepted
accepted a z = ap (λ (n : ℕ). eqb n 0) z

-- a reply that is an accepted one, or a refusal's
pub is_accepted_lem : (a r : Reply) → a.number ≡ 0 → a ≡ r → is_accepted r ≡ true
is_accepted_lem a r z e = ap is_accepted (sym e) ∙ accepted a z

pub is_refused : (why : Refusal) (r : Reply) → refusal_reply why ≡ r → is_accepted r ≡ false
is_refused why r e = ap is_accepted (sym e) ∙ refused why

-- what the call leaves
module _ {A : Type 0} (after before : A) where
  pub leaves_after : (a r : Reply) → a.number ≡ 0 → a ≡ r → after ≡ if_accepted r after before
  leaves_after a r z e = rw (is_accepted_lem a r z e)

  pub leaves_before : (why : Refusal) (r : Reply) → refusal_reply why ≡ r → before ≡ if_accepted r after before
  leaves_before why r e = rw (is_refused why r e)

-- refusal 5, and the call's own tests where the day is sound
module _ (d : Day) (b ps : List ℕ) (cs : List Check) (r : Reply) where
  pub on_sound : is_sound d b ps ≡ true → answering (on_sound_day d b ps cs) r ≡ answering cs r
  unfolding answering
  on_sound e = rw e

  pub on_unsound : is_sound d b ps ≡ false → answering (on_sound_day d b ps cs) r ≡ reply 5 0 0
  unfolding answering
  on_unsound e = rw e
