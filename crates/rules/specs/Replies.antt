-- "Calls and what turns them back": the paper's number, place, value and count of reports for every answer.
use Rattle.std.specs.Prelude.{ℕ, cond, ⊤, Result, Ok, Err}
use Rattle.units.specs.declared.ReferenceValue.{ReferenceValue}
use Rattle.sequences.specs.Checks.{Reply, reply, is_accepted}
use Rattle.rules.specs.declared.Refusal.{Refusal}
use Rattle.rules.specs.declared.Refusal.TheVariants.{Sizes, FundField, Component, Total, UnsoundDay, NoSuchLine, QuantityOrPrice, Account, ShortOfStock, ShortOfCash}
use Rattle.rules.specs.declared.Refusal.TheVariants.{NotWholeBaskets, Switch, Limit, NoReferenceValue, CashRatio, ListTooShort, FundShort, TextLine, TextField, RecordCount, FlagTable}
use Rattle.rules.specs.declared.Counts.{Counts}

-- a refusal's number and place
abbrev pub refusal_reply : Refusal → Reply
refusal_reply Sizes = reply 1 0 0
refusal_reply FundField = reply 2 0 0
refusal_reply (Component place) = reply 3 place 0
refusal_reply (Total place) = reply 4 place 0
refusal_reply UnsoundDay = reply 5 0 0
refusal_reply NoSuchLine = reply 6 0 0
refusal_reply QuantityOrPrice = reply 7 0 0
refusal_reply Account = reply 8 0 0
refusal_reply (ShortOfStock place) = reply 9 place 0
refusal_reply ShortOfCash = reply 10 0 0
refusal_reply NotWholeBaskets = reply 11 0 0
refusal_reply Switch = reply 12 0 0
refusal_reply Limit = reply 13 0 0
refusal_reply NoReferenceValue = reply 14 0 0
refusal_reply CashRatio = reply 15 0 0
refusal_reply ListTooShort = reply 16 0 0
refusal_reply (FundShort place) = reply 17 place 0
refusal_reply (TextLine place) = reply 18 place 0
refusal_reply (TextField place) = reply 19 place 0
refusal_reply RecordCount = reply 20 0 0
refusal_reply (FlagTable place) = reply 21 place 0

-- the answer of opening, price and trade
abbrev pub answer_reply : Result ⊤ Refusal → Reply
answer_reply (Ok done) = reply 0 0 0
answer_reply (Err why) = refusal_reply why

-- an order that is made
abbrev pub made_reply : Counts → Reply
made_reply made = record { number = 0; place = 0; value = made.records; reports = made.reports }

-- the answer of creation and redemption
abbrev pub order_answer_reply : Result Counts Refusal → Reply
order_answer_reply (Ok counts) = made_reply counts
order_answer_reply (Err why) = refusal_reply why

-- the answer of the reference value
abbrev pub value_answer_reply : Result ReferenceValue Refusal → Reply
value_answer_reply (Ok v) = reply 0 0 v.0
value_answer_reply (Err why) = refusal_reply why

-- the answer of a call that tells a count: of components that are read, or of bytes that are written
abbrev pub count_answer_reply : Result ℕ Refusal → Reply
count_answer_reply (Ok count) = reply 0 0 count
count_answer_reply (Err why) = refusal_reply why

-- what an accepted call leaves, and what was there where it is refused
abbrev pub if_accepted : {A : Type 0} → Reply → A → A → A
if_accepted r after before = cond (is_accepted r) after before
