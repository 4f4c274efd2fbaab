-- `text_head_writing::Out::put_line` meets its contract: the line, and 0D 0A behind it.
use Rattle.lines.specs.Lines.{line_text}
use Rattle.text_head_writing.proofs.Write.{fits_first, fits_next, wrote_then}
use Rattle.text_head_writing.proofs.Out.put_line.Goals as goal

pub put-requires : goal.put-requires
unfolding line_text
put-requires c = fits_first _ c.requires

pub put-requires-2 : goal.put-requires-2
unfolding line_text
put-requires-2 c = fits_next _ c.put.ensures c.requires

pub returns : goal.returns
unfolding line_text
returns c = wrote_then _ _ c.requires c.put.ensures c.put-2.ensures
