-- `text_lines::row_count` meets its contract: the search goes by the lines that have room.
use Rattle.std.proofs.Common.{◌≡◌, true, false, rules, tests}
use native.Mathlib.Omega.{arith}
use Rattle.std.proofs.lemmas.Iterator.{first_from_Range, serves_from_Range}
use Rattle.text_lines.proofs.Standing.{stands_at, row_place, rows_counted}
use Rattle.text_lines.proofs.row_count.Goals as goal

pub find-requires-clause-callable : goal.find-requires-clause-callable
find-requires-clause-callable c =
    serves_from_Range (λ x q k. search (rules, tests))
    (λ x l h y e. let place = row_place c.args.columns.now c.args.text.now c.args.start c.requires c.pitch-pitch.ensures y.now (omega (arith, e, h)) in search (rules, place))

pub returns : goal.returns
returns c =
    let stands = stands_at c.args.columns.now c.args.text.now c.args.start in
    let found = first_from_Range _ _ _ c.find.result (λ k. stands k ≡ false) (λ k. stands k ≡ true) c.find.ensures.ran (λ x q k. search (rules, tests)) (λ x q k. search (rules, tests)) in
    let h = rows_counted c.args.columns.now c.args.text.now c.args.start c.requires c.pitch-pitch.ensures c.find.result found c.unwrap_or.ensures in
    record { value = h.0; columns_in_bounds = h.1 }
