-- `text_head_writing::put_head` meets its contract: each line is written behind the one before it.
use mathlib.Core.Path.{refl}
use native.Mathlib.Omega.{arith}
use lib.ListN.{length-append}
use Rattle.std.proofs.Common.{rules}
use Rattle.std.proofs.lemmas.Slice.Zip.{zip_turn, zip_end}
use Rattle.text_head_writing.proofs.Sizes.{reached, all_reached}
use Rattle.text_head_writing.proofs.Write.{first_room, lined_start, lined_room, lined_again, tag_room, lined_end}
use Rattle.text_head_writing.proofs.put_head.Goals as goal

pub put_opening-requires : goal.put_opening-requires
put_opening-requires c = record { room = omega (arith, first_room _ _ _ _ c.requires) }

pub loop-field-init : goal.loop-field-init
loop-field-init c = record { lined = lined_start _ _ _ _ c.requires refl refl c.put_opening.ensures; same_borrow = refl }

pub put_field-requires : goal.put_field-requires
put_field-requires c =
    let t = zip_turn c.table-table.result.now c.args.figures.now c.loop-field.yielded _ _ c.next.new.self _ (search rules) (search rules) c.loop-field.yielded_by _ c.in-Some.is c.next.ensures.steps in
    let r = reached _ _ c.table-table.ensures.value c.table-table.ensures.well _ _ _ _ t in
    record { well = r.well; room = lined_room _ _ _ _ c.requires c.loop-field.invariant.lined r }

pub loop-field-preserved : goal.loop-field-preserved
loop-field-preserved c =
    let t = zip_turn c.table-table.result.now c.args.figures.now c.loop-field.yielded _ _ c.next.new.self _ (search rules) (search rules) c.loop-field.yielded_by _ c.in-Some.is c.next.ensures.steps in
    let r = reached _ _ c.table-table.ensures.value c.table-table.ensures.well _ _ _ _ t in
    record {
      lined = lined_again _ _ _ _ c.requires c.loop-field.invariant.lined r c.put_field.ensures (length-append c.loop-field.yielded _);
      same_borrow = search rules;
    }

pub put_line-requires : goal.put_line-requires
put_line-requires c =
    let t = zip_end c.table-table.result.now c.args.figures.now c.loop-field.yielded _ _ c.next.new.self _ (search rules) (search rules) c.loop-field.yielded_by c.in-None.is c.next.ensures.steps in
    let all = all_reached _ _ c.table-table.ensures.value c.table-table.ensures.well _ _ t (omega (arith, c.well_formed)) in
    tag_room _ _ _ _ c.requires c.loop-field.invariant.lined all

pub returns : goal.returns
returns c =
    let t = zip_end c.table-table.result.now c.args.figures.now c.loop-field.yielded _ _ c.next.new.self _ (search rules) (search rules) c.loop-field.yielded_by c.in-None.is c.next.ensures.steps in
    let all = all_reached _ _ c.table-table.ensures.value c.table-table.ensures.well _ _ t (omega (arith, c.well_formed)) in
    let written = lined_end _ _ _ _ c.requires c.loop-field.invariant.lined all c.put_line.ensures in
    search rules
