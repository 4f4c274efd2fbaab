use Rattle.std.proofs.Common.{◌≡◌, refl, ap, ◌+◌, ◌∙◌, length, set, get_or, arith}
use lib.Seq.{paste}
use Rattle.std.proofs.lemmas.List.Edits.{paste_more, paste_all}
use Rattle.digits.specs.Written.{put}
use Rattle.digits_put.proofs.put_bytes.Goals as goal

pub loop-i-preserved : goal.loop-i-preserved
loop-i-preserved c =
    let a = c.args in
    let i = c.loop-i.i in
    ap (λ d. set d (a.at + i) (get_or a.src.now i 0)) c.loop-i.invariant ∙ paste_more a.dst.now a.at a.src.now i 0 (omega arith) (omega arith)

pub returns : goal.returns
unfolding put
returns c =
    let a = c.args in
    let n = length a.src.now in
    let done : c.loop-i.i ≡ n = omega arith in
    record { bytes = c.loop-i.invariant ∙ ap (paste a.dst.now a.at a.src.now) done ∙ paste_all a.dst.now a.at a.src.now n refl; next = refl }
