-- `sound::lines_fit` meets its contract: every line is asked in order, and then the unit.
use Rattle.std.proofs.Common.{◌≡◌, ℕ, ◌&&◌, Bool, leb, refl, sym, ap, ◌∙◌, rules, tests, arith}
use Rattle.std.proofs.lemmas.Iterator.{YieldsList-from_range}
use Rattle.std.proofs.lemmas.Iterator.Search.{all_from_yields_List}
use Rattle.sequences.specs.Below.{all_below}
use Rattle.sequences.proofs.Lists.{all_range}
use Rattle.totals.specs.Totals.{number_at}
use Rattle.rules.specs.Opening.{most_of_line}
use Rattle.rules.specs.Sound.{most_units}
use Rattle.sound.specs.Parts.{line_of}
use Rattle.sound.proofs.Limits.{lines_apart}
use Rattle.sound.proofs.lines_fit.Goals.{After-all}
use Rattle.sound.proofs.lines_fit.Goals as goal

-- the lines of the components
lines : (c : After-all) → c.all.result ≡ all_below (λ l. leb (line_of (number_at c.args.totals.now) l) most_of_line) c.args.n
lines c =
    let fits : ℕ → Bool = λ l. leb (line_of (number_at c.args.totals.now) l) most_of_line in
    all_from_yields_List fits _ _ c.all.result c.all.ensures.ran (YieldsList-from_range 0 c.args.n c.args.n refl (omega arith)) (λ x b q k. search (rules, tests))
    ∙ all_range fits c.args.n

pub returns-then-all : goal.returns-then-all
returns-then-all c =
    let t : ℕ → ℕ = number_at c.args.totals.now in
    c.line_fits.ensures
    ∙ ap (λ (b : Bool). b && leb (line_of t c.args.n) most_units) (sym c.if-all.true ∙ lines (goal.at.returns-then-all c).After-all)
    ∙ lines_apart c.args.n t

pub returns-else-all : goal.returns-else-all
returns-else-all c =
    let t : ℕ → ℕ = number_at c.args.totals.now in
    c.if-all.false
    ∙ ap (λ (b : Bool). b && leb (line_of t c.args.n) most_units) (sym c.if-all.false ∙ lines (goal.at.returns-else-all c).After-all)
    ∙ lines_apart c.args.n t
