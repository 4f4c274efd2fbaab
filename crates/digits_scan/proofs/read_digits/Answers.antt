use Rattle.std.proofs.Common.{◌∙◌, not, ne_eqb, eq-eqb, ap, arith}
use Rattle.digits.proofs.Read.{read_ill, read_end}
use Rattle.digits_scan.proofs.Few.{digit_there, no_digit, reads_start, reads_capped, reads_few}
use Rattle.digits_scan.proofs.read_digits.Goals as goal
use Rattle.digits_scan.proofs.read_digits.Goals.{then-this-ne0, else-this-ne0}

pub loop-b-init : goal.loop-b-init
loop-b-init g c = reads_start _ _ _ c.requires.low c.requires.few

pub returns-in_err-digit : goal.returns-in_err-digit
returns-in_err-digit g c =
    c.from_residual.ensures ∙ read_ill _ _ _ _ c.loop-b.invariant.read c.loop-b-test.true (no_digit _ (c.in_err-digit.ensures))

pub next_size-a-requires : goal.next_size-a-requires
next_size-a-requires g c = (c.loop-b.invariant.read.within, (digit_there _ _ (c.in_ok-digit.ensures)).2)

pub loop-b-preserved : goal.loop-b-preserved
loop-b-preserved g c =
    let d = digit_there _ _ (c.in_ok-digit.ensures) in
    elim c.if-this-ne0.branch [
      | then-this-ne0 w ↦ reads_capped _ _ _ _ _ c.loop-b.invariant c.loop-b-test.true _ d.2 d.0 d.1 (ap not (ne_eqb _ _ w.if-this-ne0.true)) _ (w.a-is ∙ w.next_size-a.ensures)
      | else-this-ne0 w ↦ rw w.a-is (reads_few _ _ _ _ _ c.loop-b.invariant c.loop-b-test.true _ d.2 d.0 d.1 (ap not (eq-eqb _ _ w.if-this-ne0.false)))
    ]

pub returns : goal.returns
returns g c = read_end _ _ _ _ c.loop-b.invariant.read (omega arith)
