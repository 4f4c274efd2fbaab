-- `text_head_writing::Out::put_field` meets its contract: the name, "=", the number and the end, one behind the other.
use Rattle.text_head_writing.proofs.Sizes.{number_made}
use Rattle.text_head_writing.proofs.Write.{fits_first, fits_next, fits_as, wrote_as, wrote_then, field_parts}
use Rattle.text_head_writing.proofs.Out.put_field.Goals as goal

pub put-requires-2 : goal.put-requires-2
put-requires-2 c = fits_first _ (fits_next _ c.put.ensures (fits_as (field_parts _ c.args.z) c.requires.room))

pub put_number-requires : goal.put_number-requires
put_number-requires c =
    let equals = fits_next _ c.put.ensures (fits_as (field_parts _ c.args.z) c.requires.room) in
    record { writable = number_made _ c.args.z c.requires.well; room = fits_first _ (fits_next _ c.put-2.ensures equals) }

pub put-requires-3 : goal.put-requires-3
put-requires-3 c =
    let equals = fits_next _ c.put.ensures (fits_as (field_parts _ c.args.z) c.requires.room) in
    fits_next _ c.put_number.ensures (fits_next _ c.put-2.ensures equals)

pub returns : goal.returns
returns c =
    let fits = fits_as (field_parts _ c.args.z) c.requires.room in
    let equals = fits_next _ c.put.ensures fits in
    let number = fits_next _ c.put-2.ensures equals in
    wrote_as _ (field_parts _ c.args.z)
    (wrote_then _ _ fits c.put.ensures (wrote_then _ _ equals c.put-2.ensures (wrote_then _ _ number c.put_number.ensures c.put-3.ensures)))
