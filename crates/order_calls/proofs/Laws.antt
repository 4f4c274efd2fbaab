-- From the core's answer to the call's, for an order: on a day that is not sound 5, and everything stays; else they are the same.
use mathlib.Core.Path.{◌≡◌, refl}
use mathlib.Core.Bool.{true, false}
use mathlib.Core.List.{List}
use Prim.Native.Nat.{ℕ}
use Rattle.sequences.specs.Checks.{reply}
use Rattle.layout.specs.Day.{Day}
use Rattle.rules.specs.declared.Rooms.{Rooms}
use Rattle.rules.specs.Lent.{Lent, rooms_in}
use Rattle.rules.specs.declared.Ask.{Ask}
use Rattle.rules.specs.declared.Refusal.TheVariants.{UnsoundDay}
use Rattle.rules.specs.Replies.{if_accepted}
use Rattle.rules.specs.Sound.{is_sound}
use Rattle.rules.specs.Kinds.{asked_checks, asked_reply, asked_moves, asked_book, with_asked, asked_lists}
use Rattle.rules.proofs.Replies.{leaves_before}
use Rattle.orders.specs.Orders.{asked_answer}
use Rattle.calls.proofs.Laws.{five, own}

module _ (d : Day) (b ps : List ℕ) (unsound : is_sound d b ps ≡ false) where
  pub order_five : (ask : Ask) (rooms : Rooms) → reply 5 0 0 ≡ asked_reply d b ps ask rooms
  unfolding asked_reply
  order_five ask rooms = five d b ps unsound (asked_checks d b ps ask rooms) _

  pub book_five : (ask : Ask) (rooms : Rooms) → b ≡ asked_book d b ps ask rooms
  unfolding asked_book
  book_five ask rooms = leaves_before _ _ UnsoundDay _ (order_five ask rooms)

  pub lists_five : (ask : Ask) (lent : Lent) → lent ≡ asked_lists d b ps ask lent
  unfolding asked_lists
  lists_five ask lent = leaves_before _ _ UnsoundDay _ (order_five ask (rooms_in lent))

module _ (d : Day) (b ps : List ℕ) (sound : is_sound d b ps ≡ true) where
  pub order_own : (ask : Ask) (rooms : Rooms) → asked_answer d b ps ask rooms ≡ asked_reply d b ps ask rooms
  unfolding asked_answer asked_reply
  order_own ask rooms = own d b ps sound (asked_checks d b ps ask rooms) _

  -- what an order leaves, by the core's answer and by the call's
  pub leaves_own : (ask : Ask) (lent : Lent)
      → (if_accepted (asked_answer d b ps ask (rooms_in lent)) (asked_moves d ps ask b) b ≡ asked_book d b ps ask (rooms_in lent))
      × (if_accepted (asked_answer d b ps ask (rooms_in lent)) (with_asked d b ps ask lent) lent ≡ asked_lists d b ps ask lent)
  unfolding asked_book asked_lists
  leaves_own ask lent = rw (order_own ask (rooms_in lent)) (refl, refl)
