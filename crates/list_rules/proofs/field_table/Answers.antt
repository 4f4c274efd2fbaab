-- `list_rules::field_table` meets its contract: the table is the definition's, field by field, and that one is well made.
use Rattle.text_rules.specs.Tables.{fields_of, field_of}
use Rattle.list_rules.specs.Shanghai.{shanghai_fields}
use Rattle.list_rules.proofs.Lent.{shanghai_fields_well}
use Rattle.list_rules.proofs.field_table.Goals as goal

pub new-requires : goal.new-requires
unfolding fields_of field_of shanghai_fields
new-requires c = shanghai_fields_well

pub returns : goal.returns
unfolding fields_of field_of shanghai_fields
returns c = c.new.ensures
