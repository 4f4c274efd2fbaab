-- `order_records::put_cash` meets its contract: each branch puts the records that the definition has there, the second behind the first.
use mathlib.Core.Path.{◌≡◌, ◌∙◌}
use mathlib.Core.List.{[], ◌∷◌}
use Prim.Native.Nat.{◌<◌, ◌≤◌}
use native.Mathlib.Omega.{arith}
use Rattle.std.proofs.Common.{rules}
use Rattle.units.specs.Units.{split_size}
use Rattle.order_records.proofs.Laws.{put_none, put_one, put_then, cash_none, cash_one, cash_two}
use Rattle.order_records.proofs.put_cash.Goals as goal

pub returns-then-eq : goal.returns-then-eq
returns-then-eq g c = let none : c.args.c.0 ≡ 0 = search rules in rw (cash_none _ _ _ none) (put_none _ _)

pub push-requires : goal.push-requires
push-requires g c =
    let some : c.args.c.0 ≡ 0 → ⊥ = search rules in
    let few : c.args.c.0 < split_size = search rules in
    rw (cash_one _ _ _ some few) at c.requires

pub returns-then-lt : goal.returns-then-lt
returns-then-lt g c =
    let some : c.args.c.0 ≡ 0 → ⊥ = search rules in
    let few : c.args.c.0 < split_size = search rules in
    rw (cash_one _ _ _ some few, ← c.record_of.ensures) (c.push.ensures ∙ put_one _ _ _)

pub push-requires-2 : goal.push-requires-2
push-requires-2 g c =
    let some : c.args.c.0 ≡ 0 → ⊥ = search rules in
    let many : split_size ≤ c.args.c.0 = search rules in
    let two = rw (cash_two _ _ _ some many) at c.requires in
    omega (arith, two)

pub push-requires-3 : goal.push-requires-3
push-requires-3 g c =
    let some : c.args.c.0 ≡ 0 → ⊥ = search rules in
    let many : split_size ≤ c.args.c.0 = search rules in
    let two = rw (cash_two _ _ _ some many) at c.requires in
    rw c.push-2.ensures (omega (arith, two, g.met.S.RecordSink.room_less c.args.out.now c.record_of-whole.result))

pub returns : goal.returns
returns g c =
    let some : c.args.c.0 ≡ 0 → ⊥ = search rules in
    let many : split_size ≤ c.args.c.0 = search rules in
    rw (cash_two _ _ _ some many, ← c.record_of-whole.ensures, ← c.record_of-remainder.ensures)
    (put_then _ (_ ∷ []) (_ ∷ []) _ (c.push-2.ensures ∙ put_one _ _ _) (c.push-3.ensures ∙ put_one _ _ _))
