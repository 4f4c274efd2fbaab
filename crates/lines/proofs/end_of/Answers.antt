-- `lines::end_of` meets its contract: the search goes by the places of the text.
use Rattle.std.proofs.Common.{◌≡◌, true, false, rules, tests}
use Rattle.std.proofs.lemmas.Iterator.{first_from_Range}
use Rattle.lines.specs.Lines.{end_at}
use Rattle.lines.proofs.Turns.{end_found}
use Rattle.lines.proofs.end_of.Goals as goal

pub returns : goal.returns
returns c =
    let s = c.args.s.now in
    end_found s c.find.result
    (first_from_Range _ _ _ c.find.result (λ k. end_at s k ≡ true) (λ k. end_at s k ≡ false) c.find.ensures.ran (λ x q k. search (rules, tests)) (λ x q k. search (rules, tests)))
