-- `list_reading::read_fields` meets its contract: past refusal 19 all fields are well written, and the first code is that of the head's figures.
use Rattle.std.proofs.Common.{rules, ◌≡◌, ◌∙◌, ◌-◌, ap, Ok}
use Rattle.text_head.specs.Head.{fields_found}
use Rattle.list_rules.specs.Shanghai.{shanghai_fields}
use Rattle.list_reading.proofs.Handed.{fields_right, tested_right, tested_wrong, spelled, first_found}
use Rattle.list_reading.proofs.Outcomes.{row_outcome}
use Rattle.list_reading.proofs.read_fields.Goals as goal

pub read_values-requires-clause-spelled : goal.read_values-requires-clause-spelled
read_values-requires-clause-spelled c =
    let head : Ok c.in_ok-head.head ≡ fields_found shanghai_fields c.args.text.now = search rules in
    spelled _ _ c.requires.stand _ _ head (tested_right _ _ _ c.in-Ok.ensures).0 c.requires.loads

pub read_values-requires-clause-found : goal.read_values-requires-clause-found
read_values-requires-clause-found c =
    first_found _ _ c.requires.stand _ c.in_ok-head.head.figures (c.saturating_sub-first_code.ensures ∙ ap (λ z. z.size - 1) c.of.ensures) (tested_right _ _ _ c.in-Ok.ensures).1

pub returns-in-Err : goal.returns-in-Err
returns-in-Err c =
    let head : Ok c.in_ok-head.head ≡ fields_found shanghai_fields c.args.text.now = search rules in
    row_outcome _ _ _ c.requires.loads c.requires.stand.lines_stand (fields_right _ _ head) (tested_wrong _ _ _ c.in-Err.ensures)
