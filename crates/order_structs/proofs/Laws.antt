-- From an order of which a writer is a sink to the order in the struct form: the list of structs is the writer's, and on a day that is not
-- sound everything stays.
use mathlib.Core.Path.{◌≡◌, refl, ap, ◌∙◌}
use mathlib.Core.Bool.{Bool, true, false, cond}
use mathlib.Core.List.{List, map}
use Prim.Native.Nat.{ℕ, ◌-◌, ◌<◌}
use native.Mathlib.Omega.{arith}
use lib.ListN.{length}
use Rattle.sequences.specs.Checks.{Reply, is_accepted}
use Rattle.layout.specs.Day.{Day}
use Rattle.layout.specs.declared.Record.{Record}
use Rattle.layout.specs.Records.{at_front}
use Rattle.layout.specs.Reports.{with_reports}
use Rattle.rules.specs.declared.Ask.{Ask}
use Rattle.rules.specs.declared.Kind.{Kind}
use Rattle.rules.specs.declared.Rooms.{Rooms}
use Rattle.rules.specs.declared.Refusal.TheVariants.{UnsoundDay}
use Rattle.rules.specs.Replies.{if_accepted}
use Rattle.rules.specs.Reports.{opposite}
use Rattle.rules.specs.Sound.{is_sound}
use Rattle.rules.specs.Lent.{Lent}
use Rattle.rules.specs.Orders.{number_of, kind_at}
use Rattle.rules.specs.Kinds.{ask_of, records_of, reports_of, rooms_beside, asked_reply, asked_moves, asked_book, asked_lists}
use Rattle.rules.proofs.Sides.{number-below, kind_back}
use Rattle.rules.proofs.Replies.{leaves_before}
use Rattle.order_records.specs.Put.{put_all}
use Rattle.record_writer.specs.declared.Writer.{Writer}
use Rattle.record_writer.specs.Stored.{room_left, pushed}
use Rattle.record_writer.proofs.Front.{put_first, same_list}
use Rattle.orders.proofs.Laws.{left_part, left_same, records_fit}
use Rattle.orders.specs.Orders.{asked_answer}
use Rattle.order_calls.proofs.Laws.{order_five, order_own}
use Rattle.order_structs.specs.Made.{made_records, made_reports}

-- The kind of an ask that is given as a number: it is taken for 0 or 1.
pub known : (number : ℕ) → number_of (kind_at number) < 2
known number = number-below (kind_at number)

-- and the ask comes to what it does with that number
module _ (d : Day) (b ps : List ℕ) (number a units : ℕ) where
  same_ask : ask_of (kind_at (number_of (kind_at number))) a units ≡ ask_of (kind_at number) a units
  same_ask = ap (λ (kind : Kind). ask_of kind a units) (kind_back (kind_at number))

  pub known_reply : (rooms : Rooms)
      → asked_reply d b ps (ask_of (kind_at (number_of (kind_at number))) a units) rooms ≡ asked_reply d b ps (ask_of (kind_at number) a units) rooms
  known_reply rooms = ap (λ (ask : Ask). asked_reply d b ps ask rooms) same_ask

  pub known_book : (rooms : Rooms)
      → asked_book d b ps (ask_of (kind_at (number_of (kind_at number))) a units) rooms ≡ asked_book d b ps (ask_of (kind_at number) a units) rooms
  known_book rooms = ap (λ (ask : Ask). asked_book d b ps ask rooms) same_ask

  pub known_lists : (lent : Lent)
      → asked_lists d b ps (ask_of (kind_at (number_of (kind_at number))) a units) lent ≡ asked_lists d b ps (ask_of (kind_at number) a units) lent
  known_lists lent = ap (λ (ask : Ask). asked_lists d b ps ask lent) same_ask

module _ (d : Day) (b ps : List ℕ) (unsound : is_sound d b ps ≡ false) (ask : Ask) (rooms : Rooms) where
  pub list_five : (list : List Record) → list ≡ made_records d b ps ask rooms list
  unfolding made_records
  list_five list = leaves_before _ _ UnsoundDay _ (order_five d b ps unsound ask rooms)

  pub reports_five : (investor fund : List ℕ) → (investor, fund) ≡ made_reports d b ps ask rooms investor fund
  unfolding made_reports
  reports_five investor fund = leaves_before {A = List ℕ × List ℕ} _ _ UnsoundDay _ (order_five d b ps unsound ask rooms)

-- an order whose records go to a writer at the first place of a list
module _ (d : Day) (b ps : List ℕ) (sound : is_sound d b ps ≡ true) (ask : Ask) (w : Writer) (list : List Record) (stands : w.list.now ≡ list) (z : w.at ≡ 0)
    (investor fund : List ℕ) where
  abbrev answer : Reply
  answer = asked_answer d b ps ask (rooms_beside (room_left w) investor fund)

  abbrev listed : Reply
  listed = asked_reply d b ps ask (rooms_beside (length list) investor fund)

  -- it has the list's room
  pub writer_answer : answer ≡ listed
  unfolding room_left
  writer_answer =
      let all : length w.list.now - w.at ≡ length list = omega (arith, z, ap length stands) in
      ap (λ (k : ℕ). asked_answer d b ps ask (rooms_beside k investor fund)) all ∙ order_own d b ps sound ask (rooms_beside (length list) investor fund)

  pub writer_book : if_accepted answer (asked_moves d ps ask b) b ≡ asked_book d b ps ask (rooms_beside (length list) investor fund)
  unfolding asked_book
  writer_book = ap (λ (r : Reply). if_accepted r (asked_moves d ps ask b) b) writer_answer

  -- and leaves the list's records
  module _ {left : Writer} (e : left ≡ if_accepted answer (put_all pushed w (records_of d b ps ask)) w) where
    pub list_same : left.list.ghost_name ≡ w.list.ghost_name
    list_same = left_same (λ (w : Writer). w.list.ghost_name) answer _ _ e (same_list w (records_of d b ps ask))

    pub list_left : left.list.now ≡ made_records d b ps ask (rooms_beside (length list) investor fund) list
    unfolding made_records
    list_left =
        left_part (λ (w : Writer). w.list.now) answer _ _ e (λ good. put_first w (records_of d b ps ask) z (records_fit d b ps ask _ sound good))
        ∙ (λ i. if_accepted (writer_answer i) (at_front (records_of d b ps ask) (stands i)) (stands i))

  -- and the reports
  pub told_left : {own other : List ℕ} → own ≡ if_accepted answer (with_reports (reports_of d b ps ask) investor) investor
      → other ≡ if_accepted answer (with_reports (map opposite (reports_of d b ps ask)) fund) fund
      → (own, other) ≡ made_reports d b ps ask (rooms_beside (length list) investor fund) investor fund
  unfolding made_reports
  told_left {own} {other} i f = rw (i, f, writer_answer) (go (is_accepted listed))
    where
      told : List ℕ × List ℕ
      told = (with_reports (reports_of d b ps ask) investor, with_reports (map opposite (reports_of d b ps ask)) fund)

      as_lent : List ℕ × List ℕ
      as_lent = (investor, fund)

      go : (x : Bool) → ◌≡◌ {A = List ℕ × List ℕ} (cond x told.0 investor, cond x told.1 fund) (cond x told as_lent)
      go true = refl
      go false = refl
