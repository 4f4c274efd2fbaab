-- `digits_reading::read_signed` meets its contract: a "-" that the form allows is passed, and the number behind it is above 0.
use Rattle.std.proofs.Common.{◌≡◌, ap, ◌∙◌, true, false, rules, arith}
use Rattle.digits.specs.Digits.{below_zero, above_zero, has_minus}
use Rattle.std.proofs.lemmas.List.{take_rest}
use Rattle.digits.proofs.Sign.{minus_first, minus_unsigned, minus_other, minus_empty, signed_minus, signed_plus}
use Rattle.digits_reading.proofs.read_signed.Goals as goal

pub returns-in-45 : goal.returns-in-45
returns-in-45 c =
    let minus : has_minus c.args.form c.args.s.now ≡ true = minus_first _ _ (search rules) (search rules) in
    let done : c.and_then.result ≡ below_zero c.read_plain.result = search rules in
    done ∙ ap below_zero c.read_plain.ensures ∙ (simp take_rest) ∙ signed_minus _ _ minus

pub returns-in_default : goal.returns-in_default
returns-in_default c =
    let plain : has_minus c.args.form c.args.s.now ≡ false = grind (arith, minus_other, minus_empty, minus_unsigned) in
    let done : c.map.result ≡ above_zero c.read_plain-in_default.result = search rules in
    done ∙ ap above_zero c.read_plain-in_default.ensures ∙ signed_plus _ _ plain
