-- `text_head_writing::head_size` meets its contract: a line more takes its bytes more.
use native.Mathlib.Omega.{arith}
use lib.ListN.{length-append}
use Rattle.std.proofs.Common.{rules}
use Rattle.std.proofs.lemmas.Slice.Zip.{zip_turn, zip_end}
use Rattle.text_head_writing.proofs.Sizes.{reached, all_reached, sized_start, sized_again, sized_end}
use Rattle.text_head_writing.proofs.head_size.Goals as goal

pub loop-field-init : goal.loop-field-init
loop-field-init c = sized_start _ _ _ c.requires

pub field_size-n-requires : goal.field_size-n-requires
field_size-n-requires c =
    let t = zip_turn c.table-table.result.now c.args.figures.now c.loop-field.yielded _ _ c.next.new.self _ (search rules) (search rules) c.loop-field.yielded_by _ c.in-Some.is c.next.ensures.steps in
    let r = reached _ _ c.table-table.ensures.value c.table-table.ensures.well _ _ _ _ t in
    r.well

pub loop-field-preserved : goal.loop-field-preserved
loop-field-preserved c =
    let t = zip_turn c.table-table.result.now c.args.figures.now c.loop-field.yielded _ _ c.next.new.self _ (search rules) (search rules) c.loop-field.yielded_by _ c.in-Some.is c.next.ensures.steps in
    let r = reached _ _ c.table-table.ensures.value c.table-table.ensures.well _ _ _ _ t in
    sized_again _ _ _ c.loop-field.invariant r c.field_size-n.ensures.0 c.field_size-n.ensures.1 (length-append c.loop-field.yielded _)

pub returns : goal.returns
returns c =
    let t = zip_end c.table-table.result.now c.args.figures.now c.loop-field.yielded _ _ c.next.new.self _ (search rules) (search rules) c.loop-field.yielded_by c.in-None.is c.next.ensures.steps in
    let all = all_reached _ _ c.table-table.ensures.value c.table-table.ensures.well _ _ t (omega (arith, c.well_formed)) in
    let h = sized_end _ _ _ c.table-table.ensures.well c.loop-field.invariant all in
    record { value = h.0; upper_bound = h.1 }
