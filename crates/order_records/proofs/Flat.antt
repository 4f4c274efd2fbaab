-- Records put to a flat run of numbers from its first place on are the run with the records at its front.
use mathlib.Core.Path.{◌≡◌, refl, ap, ◌∙◌}
use mathlib.Core.List.{List, [], ◌∷◌}
use Prim.Native.Nat.{ℕ, ◌+◌, ◌*◌, ◌/◌, ◌≤◌}
use native.Mathlib.Omega.{arith}
use lib.ListN.{length}
use lib.Seq.{sets}
use Rattle.sequences.proofs.Runs.{sets_append}
use Rattle.layout.specs.Places.{record_width}
use Rattle.layout.specs.Laid.{laid}
use Rattle.layout.specs.declared.Record.{Record}
use Rattle.layout.specs.Records.{record_numbers, flatten, with_records}
use Rattle.layout.proofs.Laid.{laid_front}
use Rattle.order_records.specs.declared.Out.{Out}
use Rattle.order_records.specs.Put.{put_all}
use Rattle.order_records.specs.Flat.{room_left, with_record}

-- the run with the records, and the next free place behind them
abbrev wrote : List Record → Out → Out
wrote rs o = record o { run = record o.run { now = sets o.run.now o.at (flatten rs) }; at = o.at + record_width * length rs }

put_wrote : (rs : List Record) (o : Out) → put_all with_record o rs ≡ wrote rs o
unfolding put_all flatten laid
put_wrote [] o = ap (λ (next : ℕ). record o { at = next }) (omega arith)
put_wrote (r ∷ rs) o =
    let next : o.at + record_width + record_width * length rs ≡ o.at + record_width * length (r ∷ rs) = omega arith in
    put_wrote rs (with_record o r)
    ∙ rw (sets_append (record_numbers r) (flatten rs) o.run.now o.at, next)

-- it is the run that it was
pub same_run : (rs : List Record) (o : Out) → (put_all with_record o rs).run.ghost_name ≡ o.run.ghost_name
same_run rs o = ap (λ (o : Out). o.run.ghost_name) (put_wrote rs o)

-- a run of so many numbers has room for so many records
pub room_first : (o : Out) → o.at ≡ 0 → room_left o ≡ length o.run.now / record_width
unfolding room_left
room_first o e = omega (arith, e)

pub put_first : (rs : List Record) (o : Out) → o.at ≡ 0 → length rs ≤ room_left o → (put_all with_record o rs).run.now ≡ with_records rs o.run.now
unfolding flatten with_records room_left
put_first rs o e h =
    ap (λ (o : Out). o.run.now) (put_wrote rs o)
    ∙ rw e (laid_front record_numbers record_width (λ r. refl) rs o.run.now (omega (arith, e, h)))
