-- `list_fields::figures_of` meets its contract: it makes the figures in the order of the definition.
use native.Mathlib.Omega.{arith}
use Rattle.fund.proofs.Laws.{fund_sound}
use Rattle.list_rules.proofs.Ranges.{fields_sound}
use Rattle.list_fields.proofs.figures_of.Goals as goal

pub overflow_add-fund : goal.overflow_add-fund
overflow_add-fund c = record { fits = omega (arith, (fund_sound _ (fields_sound _ c.requires).fund).first_code) }
