-- `list_writing::put_lines` meets its contract: the component lines fill their part of the output.
use Rattle.std.proofs.Common.{◌∙◌}
use Rattle.list_rules.specs.Writing.{listed}
use Rattle.list_rules.proofs.Lent.{shanghai_flag_well}
use Rattle.list_writing.proofs.Lines.{lines_lent, rows_counted, rows_ask}
use Rattle.list_writing.proofs.Sizes.{part_long, lines-put}
use Rattle.list_writing.proofs.put_lines.Goals as goal

pub put_rows-requires : goal.put_rows-requires
put_rows-requires c =
    let l = listed c.args.checked.now.list in
    let e = c.line_form-form.ensures in
    let long = part_long _ l _ _ _ c.lines_size.ensures.value c.requires in
    (rw e shanghai_flag_well, rows_ask _ e l c.args.checked.now.passing long (rows_counted _ e l c.args.checked.now.passing long))

pub returns : goal.returns
returns c =
    let l = listed c.args.checked.now.list in
    let e = c.line_form-form.ensures in
    let long = part_long _ l _ _ _ c.lines_size.ensures.value c.requires in
    lines-put _ l _ _ _ c.lines_size.ensures.value c.requires _
    (c.put_rows.ensures ∙ lines_lent _ e l (rows_counted _ e l c.args.checked.now.passing long))
