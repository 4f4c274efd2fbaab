-- Records put to a writer at the first place of a list stand at the list's front.
use mathlib.Core.Path.{◌≡◌, refl, sym, ap, ◌∙◌}
use mathlib.Core.List.{List, [], ◌∷◌, ◌++◌, append_assoc}
use Prim.Native.Nat.{ℕ, ◌+◌, ◌≤◌}
use native.Mathlib.Omega.{arith}
use lib.ListN.{length, set, length-append}
use lib.Seq.{set_at}
use Rattle.layout.specs.declared.Record.{Record}
use Rattle.layout.specs.Records.{at_front}
use Rattle.order_records.specs.Put.{put_all}
use Rattle.record_writer.specs.declared.Writer.{Writer}
use Rattle.record_writer.specs.Stored.{room_left, pushed}

-- a writer of the same borrow behind the records that stand in front of the rest of its list
abbrev between : Writer → List Record → List Record → Writer
between w front rest = record w { list = record w.list { now = front ++ rest }; at = length front }

put_between : (w : Writer) (rs front rest : List Record) → length rs ≤ length rest
    → put_all pushed (between w front rest) rs ≡ record w { list = record w.list { now = front ++ at_front rs rest }; at = length front + length rs }
unfolding put_all
put_between w [] front rest h = ap (λ (k : ℕ). record w { list = record w.list { now = front ++ rest }; at = k }) (omega arith)
put_between w (r ∷ rs) front [] h = absurd (omega (arith, h))
put_between w (r ∷ rs) front (x ∷ rest) h =
    let more : length (front ++ r ∷ []) ≡ length front + 1 = length-append front (r ∷ []) in
    let stands : set (front ++ x ∷ rest) (length front) r ≡ (front ++ r ∷ []) ++ rest = set_at front x rest r (length front) refl ∙ sym (append_assoc front (r ∷ []) rest) in
    let next : pushed (between w front (x ∷ rest)) r ≡ between w (front ++ r ∷ []) rest =
    λ i. record w { list = record w.list { now = stands i }; at = sym more i } in
    let behind : length (front ++ r ∷ []) + length rs ≡ length front + length (r ∷ rs) = omega (arith, more) in
    ap (λ (u : Writer). put_all pushed u rs) next
    ∙ put_between w rs (front ++ r ∷ []) rest (omega (arith, h))
    ∙ (λ i. record w { list = record w.list { now = append_assoc front (r ∷ []) (at_front rs rest) i }; at = behind i })

module _ (w : Writer) (rs : List Record) (first : w.at ≡ 0) (fits : length rs ≤ room_left w) where
  all : put_all pushed w rs ≡ record w { list = record w.list { now = at_front rs w.list.now }; at = length rs }
  unfolding room_left
  all =
      ap (λ (k : ℕ). put_all pushed (record w { at = k }) rs) first
      ∙ put_between w rs [] w.list.now (omega (arith, fits, first))
      ∙ ap (λ (k : ℕ). record w { list = record w.list { now = at_front rs w.list.now }; at = k }) (omega arith)

  pub put_first : (put_all pushed w rs).list.now ≡ at_front rs w.list.now
  put_first = ap (λ (w : Writer). w.list.now) all

-- it is the list that it was
pub same_list : (w : Writer) (rs : List Record) → (put_all pushed w rs).list.ghost_name ≡ w.list.ghost_name
unfolding put_all
same_list w [] = refl
same_list w (r ∷ rs) = same_list (pushed w r) rs
