-- `list_writing_tests::Checked::lines_size` meets its contract: a pitch for each component line.
use Rattle.std.proofs.Common.{◌≡◌, ◌+◌, ◌*◌, ◌≤◌, ◌∙◌, ap, arith}
use Rattle.layout.specs.Places.{most_components}
use Rattle.text_rules.specs.Columns.{line_pitch}
use Rattle.text_rules.specs.Well.{most_line}
use Rattle.list_rules.specs.Shanghai.{shanghai_columns}
use Rattle.list_trip.proofs.WrittenPassing.{passing}
use Rattle.list_writing_tests.proofs.Sizes.{lines_low, lines_long}
use Rattle.list_writing_tests.proofs.Checked.lines_size.Goals.{After-pitch}
use Rattle.list_writing_tests.proofs.Checked.lines_size.Goals as goal

pitched : (c : After-pitch) → c.pitch.result ≡ line_pitch shanghai_columns
pitched c = c.pitch.ensures ∙ ap line_pitch c.columns.ensures

low : (c : After-pitch) → c.args.self.now.list.fields.count * c.pitch.result ≤ most_components * (most_line + 2)
low c = rw (pitched c) (lines_low _ (passing _ _ c.args.self.now.passing).few)

pub overflow_mul-result : goal.overflow_mul-result
overflow_mul-result c = omega (arith, low (goal.at.overflow_mul-result c).After-pitch)

pub returns : goal.returns
returns c =
    let at = (goal.at.returns c).After-pitch in
    record { value = lines_long _ _ c.args.self.now.passing _ (pitched at); upper_bound = low at }
