-- `digits_scan::trimmed` meets its contract: what stands before the first other byte, or the whole field, is blanks.
use Rattle.std.proofs.Common.{not, eqb, rules, tests, arith}
use Rattle.std.proofs.lemmas.List.{take_rest}
use Rattle.std.proofs.lemmas.Iterator.{YieldsList-from_slice}
use Rattle.std.proofs.lemmas.Iterator.Search.{position_from_yields_List}
use Rattle.std.proofs.lemmas.Bool.Decides.{nat_tests}
use Rattle.digits_scan.proofs.Blank.{blanks_are, blanks_within}
use Rattle.digits_scan.proofs.trimmed.Goals as goal

pub returns : goal.returns
returns c =
    let found = position_from_yields_List (λ b. not (eqb b 32)) _ _ c.position.result c.position.ensures.ran (YieldsList-from_slice c.args.s.now cc) (λ x b q k. search (rules, tests)) in
    let are = blanks_are c.args.s.now in
    let within = blanks_within c.args.s.now in
    grind (arith, nat_tests, take_rest)
