-- `lines::is_name` meets its contract: after each byte the fold holds whether the bytes so far may stand in a name.
use Rattle.std.proofs.Common.{◌≡◌, subst, rules, tests, refl}
use Rattle.std.proofs.lemmas.Fn.{fold_over, slice_gives, fronts}
use Rattle.lines.specs.Lines.{name_byte, all_bytes}
use Rattle.lines.proofs.Turns.{all_more}
use Rattle.lines.proofs.is_name.Goals as goal

pub returns : goal.returns
unfolding name_byte all_bytes
returns c =
    subst (λ s. c.fold.result ≡ all_bytes name_byte s) c.iter.ensures.rest
    (fold_over fronts (λ y. y.now) _ (λ ys good. good ≡ all_bytes name_byte ys) _
    (λ ys a x b f' j k. let more = all_more name_byte ys x.now in search (rules, tests))
    _ _ _ _ (slice_gives c.iter.result) refl c.fold.ensures.ran)
