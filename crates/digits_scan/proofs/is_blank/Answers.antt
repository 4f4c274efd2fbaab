-- `digits_scan::is_blank` meets its contract: after each byte the fold holds whether the bytes so far are blanks.
use Rattle.std.proofs.Common.{◌≡◌, true, [], subst, rules, tests, refl}
use Rattle.std.proofs.lemmas.Fn.{fold_over, slice_gives, fronts}
use Rattle.digits.specs.Digits.{blanks, all_blank}
use Rattle.digits_scan.proofs.Blank.{blank_more}
use Rattle.digits_scan.proofs.is_blank.Goals as goal

empty : true ≡ all_blank []
unfolding all_blank blanks
empty = refl

pub returns : goal.returns
returns c =
    subst (λ s. c.fold.result ≡ all_blank s) c.iter.ensures.rest
    (fold_over fronts (λ y. y.now) _ (λ ys good. good ≡ all_blank ys) _ (λ ys a x b f' j k. let more = blank_more ys x.now in search (rules, tests))
    _ _ _ _ (slice_gives c.iter.result) empty c.fold.ensures.ran)
