-- `opening::first_over` meets its contract: the first line that is over, or else the unit, or else cash.
use Rattle.std.proofs.Common.{◌≡◌, ℕ, ◌+◌, ◌-◌, ◌<◌, ltb, List, length, get_or, take, drop, sym, ap, ◌∙◌, get_or-take, lt-ltb, le-ltb, arith}
use Rattle.std.proofs.lemmas.List.{get_or-drop, length-drop, length-take-le}
use Rattle.sequences.specs.Below.{below, first_below}
use Rattle.sequences.proofs.Below.{first_same}
use Rattle.rules.specs.Opening.{most_of_line}
use Rattle.rules.proofs.SoundDay.{over_line}
use Rattle.opening.specs.Given.{totals_in}
use Rattle.opening.proofs.Totals.{is_over, over_unit, first_of_all}
use Rattle.opening.proofs.first_over.Goals.{then-totals-count-gt-MOST_OF_LINE, else-totals-count-gt-MOST_OF_LINE}
use Rattle.opening.proofs.first_over.Goals as goal

pub returns : goal.returns
returns c =
    let n : ℕ = c.args.count in
    let t : List ℕ = c.args.totals.now in
    let u : ℕ = c.args.units in
    let m : ℕ = n + 1 - 1 in
    let long : length (take m (drop 1 t)) ≡ n = length-take-le m (drop 1 t) (omega (arith, length-drop 1 t, c.requires.1)) ∙ omega arith in
    let same : (k : ℕ) → k < n → ltb most_of_line (get_or (take m (drop 1 t)) k 0) ≡ is_over n t u k =
    λ k h. ap (ltb most_of_line) (get_or-take m (drop 1 t) k 0 (omega (arith, h)) ∙ get_or-drop 1 t k 0) ∙ sym (over_line n (totals_in t u) k h) in
    let line : c.line_over-line.result ≡ below n (first_below (is_over n t u) n) =
    c.line_over-line.ensures ∙ rw long (ap (below n) (first_same _ _ n same)) in
    let unit : c.if-totals-count-gt-MOST_OF_LINE.unit ≡ is_over n t u n =
    elim c.if-totals-count-gt-MOST_OF_LINE.branch [
      | then-totals-count-gt-MOST_OF_LINE w ↦ w.unit-is ∙ sym (over_unit n t u ∙ rw (lt-ltb _ _ w.if-totals-count-gt-MOST_OF_LINE.true))
      | else-totals-count-gt-MOST_OF_LINE w ↦ w.unit-is ∙ sym (over_unit n t u ∙ rw (le-ltb _ _ w.if-totals-count-gt-MOST_OF_LINE.false))
    ] in
    c.or-2.ensures ∙ rw (c.or.ensures, c.then_some.ensures, c.then_some-2.ensures) (first_of_all n t u _ _ line unit)
