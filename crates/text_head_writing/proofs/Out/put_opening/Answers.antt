-- `text_head_writing::Out::put_opening` meets its contract: "[ETF", the letters, and "]" with the end, one behind the other.
use Rattle.text_head_writing.proofs.Write.{fits_next, fits_as, wrote_as, wrote_then, opening_parts}
use Rattle.text_head_writing.proofs.Out.put_opening.Goals as goal

pub put_line-requires : goal.put_line-requires
put_line-requires c = fits_next _ c.put-2.ensures (fits_next _ c.put.ensures (fits_as (opening_parts c.args.letters.now) c.requires))

pub returns : goal.returns
returns c =
    let fits = fits_as (opening_parts c.args.letters.now) c.requires in
    wrote_as _ (opening_parts c.args.letters.now) (wrote_then _ _ fits c.put.ensures (wrote_then _ _ (fits_next _ c.put.ensures fits) c.put-2.ensures c.put_line.ensures))
