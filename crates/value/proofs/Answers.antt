-- What a caller learns from the answer: whether there is a value, and where there is one, that it is the day's and in its range.
use mathlib.Core.Path.{◌≡◌, refl, sym, ap, ◌∙◌}
use mathlib.Core.Bool.{Bool, true, false, cond, not, false≢true}
use mathlib.Core.List.{List}
use Prim.Native.Nat.{ℕ, ◌≤◌}
use native.Mathlib.Omega.{arith}
use Rattle.std.specs.Prelude.{Ok, Err}
use Rattle.std.proofs.lemmas.Bool.Decides.{nat_tests}
use Rattle.sequences.specs.Every.{every}
use Rattle.sequences.specs.Checks.{Reply, reply, answering, answered, is_accepted}
use Rattle.units.specs.declared.ReferenceValue.{ReferenceValue}
use Rattle.layout.specs.Day.{Day}
use Rattle.rules.specs.declared.Refusal.{Refusal}
use Rattle.rules.specs.Replies.{refusal_reply, value_answer_reply}
use Rattle.rules.proofs.Replies.{refused}
use Rattle.rules.specs.Value.{reference_value, has_value, value_checks}

-- a value that exists is in its range
pub value_range : (d : Day) (ps : List ℕ) → has_value d ps ≡ true → reference_value d ps ≤ 9_999_999
unfolding has_value every
value_range d ps e = grind (arith, nat_tests)

-- the answer's reply where it has a value and where not
stands : (b : Bool) (v x : ℕ) → reply 0 0 v ≡ cond (not b) (reply 14 0 0) (reply 0 0 x) → (b ≡ true) × (v ≡ x)
stands true v x e = (refl, ap (λ (r : Reply). r.value) e)
stands false v x e = absurd (omega (arith, ap (λ (r : Reply). r.number) e))

falls : (b : Bool) (x : ℕ) (r : Reply) → is_accepted r ≡ false → r ≡ cond (not b) (reply 14 0 0) (reply 0 0 x) → b ≡ false
unfolding is_accepted
falls true x r n e = absurd (false≢true (sym n ∙ ap is_accepted e))
falls false x r n e = refl

module _ (d : Day) (ps : List ℕ) where
  pub worth_facts : (v : ReferenceValue) → value_answer_reply (Ok v) ≡ answered (value_checks d ps) (reference_value d ps)
      → (has_value d ps ≡ true) × (v.0 ≡ reference_value d ps) × (v.0 ≤ 9_999_999)
  unfolding value_checks answering
  worth_facts v e =
      let s = stands (has_value d ps) v.0 (reference_value d ps) e in
      (s.0, s.1, omega (arith, s.1, value_range d ps s.0))

  pub refused_facts : (why : Refusal) → value_answer_reply (Err why) ≡ answered (value_checks d ps) (reference_value d ps) → has_value d ps ≡ false
  unfolding value_checks answering
  refused_facts why e = falls (has_value d ps) (reference_value d ps) (refusal_reply why) (refused why) e
