-- Two answers of an order with the same number, place and counts are one: the answer is read back from its reply.
use mathlib.Core.Path.{◌≡◌, sym, ap, ◌∙◌}
use mathlib.Core.Bool.{cond}
use native.Mathlib.Omega.{arith}
use Prim.Native.Nat.{ℕ}
use lib.Dec.{eqb}
use Rattle.sequences.specs.Checks.{Reply}
use Rattle.rules.specs.declared.Refusal.{Refusal}
use Rattle.rules.specs.declared.Refusal.TheVariants.{Sizes, FundField, Component, Total, UnsoundDay, NoSuchLine, QuantityOrPrice, Account, ShortOfStock, ShortOfCash}
use Rattle.rules.specs.declared.Refusal.TheVariants.{NotWholeBaskets, Switch, Limit, NoReferenceValue, CashRatio, ListTooShort, FundShort, TextLine, TextField, RecordCount, FlagTable}
use Rattle.rules.specs.declared.Counts.{Counts}
use Rattle.std.specs.Prelude.{Result, Ok, Err}
use Rattle.rules.specs.Replies.{order_answer_reply}

-- the refusal of a number and a place
abbrev refusal_of : ℕ → ℕ → Refusal
refusal_of number place =
    cond (eqb number 1) Sizes
    (cond (eqb number 2) FundField
    (cond (eqb number 3) (Component place)
    (cond (eqb number 4) (Total place)
    (cond (eqb number 5) UnsoundDay
    (cond (eqb number 6) NoSuchLine
    (cond (eqb number 7) QuantityOrPrice
    (cond (eqb number 8) Account
    (cond (eqb number 9) (ShortOfStock place)
    (cond (eqb number 10) ShortOfCash
    (cond (eqb number 11) NotWholeBaskets
    (cond (eqb number 12) Switch
    (cond (eqb number 13) Limit
    (cond (eqb number 14) NoReferenceValue
    (cond (eqb number 15) CashRatio
    (cond (eqb number 16) ListTooShort
    (cond (eqb number 17) (FundShort place)
    (cond (eqb number 18) (TextLine place)
    (cond (eqb number 19) (TextField place)
    (cond (eqb number 20) RecordCount
    (FlagTable place))))))))))))))))))))

abbrev answer_of : Reply → Result Counts Refusal
answer_of r = cond (eqb r.number 0) (Ok (record { records = r.value; reports = r.reports })) (Err (refusal_of r.number r.place))

answer_back : (x : Result Counts Refusal) → answer_of (order_answer_reply x) ≡ x
answer_back x = grind arith

pub same_answer : (x y : Result Counts Refusal) → order_answer_reply x ≡ order_answer_reply y → x ≡ y
same_answer x y e = sym (answer_back x) ∙ ap answer_of e ∙ answer_back y
