-- `text_head_writing::field_size` meets its contract: the name, "=", the number and the end.
use native.Mathlib.Omega.{arith}
use Rattle.text_head_writing.proofs.Sizes.{number_made, field_size, field_short}
use Rattle.text_head_writing.proofs.field_size.Goals as goal

pub number_size-requires : goal.number_size-requires
number_size-requires c = number_made _ c.args.z c.requires

pub overflow_add-result-2 : goal.overflow_add-result-2
overflow_add-result-2 c = record { fits = omega (arith, field_size _ c.args.z c.requires, field_short _ c.args.z c.requires, c.number_size.ensures) }

pub overflow_add-result-3 : goal.overflow_add-result-3
overflow_add-result-3 c = record { fits = omega (arith, field_size _ c.args.z c.requires, field_short _ c.args.z c.requires, c.number_size.ensures) }

pub returns : goal.returns
returns c =
    let size = field_size _ c.args.z c.requires in
    (omega (arith, size, c.number_size.ensures), omega (arith, size, field_short _ c.args.z c.requires, c.number_size.ensures))
