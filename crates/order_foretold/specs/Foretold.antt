-- The tests of an order alone foretell it: what they answer for three lengths is what the order answers on lists of those lengths.
use Rattle.std.specs.Prelude.{ℕ, ◌≡◌, length, Result}
use Rattle.sequences.specs.Checks.{Reply}
use Rattle.rules.specs.declared.Rooms.{Rooms}
use Rattle.rules.specs.declared.Counts.{Counts}
use Rattle.rules.specs.declared.Refusal.{Refusal}
use Rattle.rules.specs.Replies.{order_answer_reply}
use Rattle.rules.specs.Lent.{Lent, rooms_of, rooms_in}

-- lists of r, i and f numbers: the records', the investor's and the fund's
pub record Lengths (lent : Lent) (r i f : ℕ) : Type 0 where
  pub records : length lent.records ≡ r
  pub investor : length lent.investor ≡ i
  pub fund : length lent.fund ≡ f

-- of an order that replies so to the rooms of its lists: the answer of the tests with three lengths, as they are promised, is the
-- answer of the order on any lists of those lengths, as it is promised
unfoldable pub Foretells : (Rooms → Reply) → Type 0
Foretells reply =
    (r i f : ℕ) (lent : Lent) → Lengths lent r i f → (test order : Result Counts Refusal)
    → order_answer_reply test ≡ reply (rooms_of r i f) → order_answer_reply order ≡ reply (rooms_in lent) → test ≡ order
