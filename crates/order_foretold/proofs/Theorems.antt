-- The tests alone of every order, in every form, foretell it.
use mathlib.Core.Path.{◌≡◌, sym, ap, ◌∙◌}
use mathlib.Core.List.{List}
use Prim.Native.Nat.{ℕ, ◌*◌}
use native.Mathlib.Omega.{arith}
use lib.ListN.{length}
use Rattle.sequences.specs.Checks.{Reply}
use Rattle.layout.specs.Places.{record_width}
use Rattle.layout.specs.Laid.{room_of}
use Rattle.layout.specs.Day.{Day}
use Rattle.layout.specs.declared.Record.{Record}
use Rattle.rules.specs.declared.Ask.{Ask}
use Rattle.rules.specs.declared.Rooms.{Rooms}
use Rattle.rules.specs.Lent.{Lent, rooms_of, rooms_in}
use Rattle.rules.specs.Creation.{creation_reply}
use Rattle.rules.specs.Redemption.{redemption_reply}
use Rattle.rules.specs.Kinds.{rooms_beside, asked_reply}
use Rattle.balance.specs.Calls.{State, step, create, redeem}
use Rattle.order_foretold.specs.Foretold.{Lengths, Foretells}
use Rattle.order_foretold.proofs.Answers.{same_answer}

-- three lengths give the rooms of lists of those lengths
rooms_told : (r i f : ℕ) (lent : Lent) → Lengths lent r i f → rooms_of r i f ≡ rooms_in lent
unfolding rooms_in
rooms_told r i f lent l = rw (l.records, l.investor, l.fund)

foretold : (reply : Rooms → Reply) → Foretells reply
unfolding Foretells
foretold reply r i f lent l test order t o = same_answer test order (t ∙ ap reply (rooms_told r i f lent l) ∙ sym o)

-- for all days, books, prices and arguments: `creation_test` answers what `create` does, and `redemption_test` what `redeem` does
module _ (d : Day) (b ps : List ℕ) (a units : ℕ) where
  pub creation_foretold : Foretells (creation_reply d b ps a units)
  creation_foretold = foretold (creation_reply d b ps a units)

  pub redemption_foretold : Foretells (redemption_reply d b ps a units)
  redemption_foretold = foretold (redemption_reply d b ps a units)

-- in the struct form: a list of n records counts as so many numbers
pub listed_foretold : (d : Day) (b ps : List ℕ) (ask : Ask) (list : List Record) (investor fund : List ℕ)
    → asked_reply d b ps ask (rooms_of (record_width * length list) (length investor) (length fund))
    ≡ asked_reply d b ps ask (rooms_beside (length list) investor fund)
listed_foretold d b ps ask list investor fund =
    let agree : room_of record_width (record_width * length list) ≡ length list = omega arith in
    ap (λ (k : ℕ). asked_reply d b ps ask (rooms_beside k investor fund)) agree

-- in a list of calls, and so in the driver: each order is answered as its tests alone are on the state that it is made on
module _ (s : State) (a units r i f : ℕ) (lent : Lent) (l : Lengths lent r i f) where
  pub step_creation_foretold : (step s (create a units) lent).reply ≡ creation_reply s.day s.book s.prices a units (rooms_of r i f)
  unfolding step
  step_creation_foretold = ap (creation_reply s.day s.book s.prices a units) (sym (rooms_told r i f lent l))

  pub step_redemption_foretold : (step s (redeem a units) lent).reply ≡ redemption_reply s.day s.book s.prices a units (rooms_of r i f)
  unfolding step
  step_redemption_foretold = ap (redemption_reply s.day s.book s.prices a units) (sym (rooms_told r i f lent l))
