use Rattle.std.proofs.Common.{◌≡◌, ℕ, ◌+◌, ◌-◌, length, get_or, take, drop, refl, ap, ◌∙◌, get_or-take, arith}
use Rattle.std.proofs.lemmas.List.{get_or-drop, length-drop, length-take-le}
use Rattle.lots.proofs.Laws.{lots-eq}
use Rattle.layout.specs.Book.{put_lots}
use Rattle.opening.proofs.Front.{fronted_none, fronted_more, fronted_all}
use Rattle.opening.proofs.open_account.Goals as goal

pub loop-line-init : goal.loop-line-init
loop-line-init c = fronted_none _ _ _ _ c.requires.stretch refl

pub loop-line-preserved : goal.loop-line-preserved
loop-line-preserved c =
    let h = c.args.held.now in
    let lines : ℕ = length h - 1 in
    let at : get_or (take lines (drop 1 h)) c.loop-line.line 0 ≡ get_or h (1 + c.loop-line.line) 0 =
    get_or-take lines (drop 1 h) c.loop-line.line 0 (omega (arith, length-take-le lines (drop 1 h))) ∙ get_or-drop 1 h c.loop-line.line 0 in
    let none = c.default.ensures.1 in
    let put = rw at at c.put_lots.ensures ∙ ap (put_lots c.loop-line.stretch c.loop-line.line) (lots-eq refl none.0 none.1) in
    fronted_more _ _ _ _ _ (omega (arith, length-take-le lines (drop 1 h), length-drop 1 h)) put c.loop-line.invariant

pub returns : goal.returns
returns c = fronted_all _ _ _ _ (omega arith) c.loop-line.invariant
