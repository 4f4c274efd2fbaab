-- `text_rows::words_fault` meets its contract: the first of the lines whose words are none is the definition's.
use Rattle.std.proofs.Common.{◌∙◌, rules, tests}
use Rattle.std.proofs.lemmas.Iterator.Search.{position_from_yields_List}
use Rattle.text_rows.proofs.Pieces.{pieces_given}
use Rattle.text_rows.proofs.Words.{words_wrong_in, words_first}
use Rattle.text_rows.proofs.words_fault.Goals as goal

pub returns : goal.returns
returns c =
    let cut = c.chunks_exact.ensures in
    position_from_yields_List (words_wrong_in c.args.from c.args.width) _ _ c.position.result c.position.ensures.ran
    (pieces_given c.args.pitch c.args.rows.now cut.rest cut.size c.requires.0) (λ x b q k. search (rules, tests))
    ∙ words_first c.args.rows.now c.args.pitch c.args.from c.args.width c.requires.1
