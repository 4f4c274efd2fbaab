-- The answer of an order on a sound day, and an order that has passed its form.
use Rattle.std.specs.Prelude.{ℕ, ◌≡◌, true, List}
use Rattle.sequences.specs.Checks.{Reply, reply, answering, answered}
use Rattle.layout.specs.Day.{Day}
use Rattle.rules.specs.declared.Ask.{Ask}
use Rattle.rules.specs.declared.Rooms.{Rooms}
use Rattle.rules.specs.Lent.{Lent, rooms_in}
use Rattle.rules.specs.Replies.{made_reply, if_accepted}
use Rattle.rules.specs.Sound.{is_sound}
use Rattle.rules.specs.Kinds.{asked_checks, asked_counts, with_asked}
use Rattle.order_form.specs.Form.{order_form}

-- the answer, after 5
unfoldable pub asked_answer : Day → List ℕ → List ℕ → Ask → Rooms → Reply
asked_answer d b ps ask rooms = answering (asked_checks d b ps ask rooms) (made_reply (asked_counts d b ps ask))

-- the lists that an order leaves
abbrev pub answered_lists : Day → List ℕ → List ℕ → Ask → Lent → Lent
answered_lists d b ps ask lent = if_accepted (asked_answer d b ps ask (rooms_in lent)) (with_asked d b ps ask lent) lent

-- a sound day, on which an order has passed its first two stages
pub record Formed (d : Day) (b ps : List ℕ) (ask : Ask) : Type 0 where
  pub sound : is_sound d b ps ≡ true
  pub formed : reply 0 0 0 ≡ answered (order_form d b ask) 0
