-- Refusal 18's tests: where one fails its place is the answer, if all before it passed.
use Prim.Native.Nat.{ℕ}
use mathlib.Core.Path.{◌≡◌}
use mathlib.Core.Bool.{Bool, true, false, not}
use mathlib.Core.List.{List}
use lib.Dec.{ltb}
use lib.ListN.{length}
use Rattle.sequences.specs.Checks.{reply, answering, answered, passes}
use Rattle.sequences.proofs.Checks.{passes_all}
use Rattle.lines.specs.Lines.{same, next_at}
use Rattle.text_rules.specs.Head.{head_lines, end_word}
use Rattle.text_rules.specs.Reading.{start_of, line_stands, wrong_line, end_start, shape_checks}
use Rattle.list_rules.specs.Shanghai.{shanghai_shape, shanghai_fields}

module _ (text : List ℕ) where
  -- the tests
  abbrev pub line_wrong : Bool
  line_wrong = ltb (wrong_line shanghai_fields text) (head_lines shanghai_fields)

  abbrev pub end_missing : Bool
  end_missing = not (line_stands (λ l. same l end_word) text (end_start shanghai_shape text))

  abbrev pub more_behind : Bool
  more_behind = ltb (next_at text (end_start shanghai_shape text)) (length text)

  pub shape_passes : line_wrong ≡ false → end_missing ≡ false → more_behind ≡ false → passes (shape_checks shanghai_shape text) ≡ true
  unfolding shape_checks
  shape_passes a b c = passes_all (shape_checks shanghai_shape text) (a, (b, (c, tt)))

  pub line_stops : line_wrong ≡ true
      → (passes (shape_checks shanghai_shape text) ≡ false) × (answered (shape_checks shanghai_shape text) 0 ≡ reply 18 (start_of text (wrong_line shanghai_fields text)) 0)
  unfolding shape_checks passes answering
  line_stops e = (rw e, rw e)

  pub end_stops : line_wrong ≡ false → end_missing ≡ true
      → (passes (shape_checks shanghai_shape text) ≡ false) × (answered (shape_checks shanghai_shape text) 0 ≡ reply 18 (end_start shanghai_shape text) 0)
  unfolding shape_checks passes answering
  end_stops a e = (rw (a, e), rw (a, e))

  pub more_stops : line_wrong ≡ false → end_missing ≡ false → more_behind ≡ true
      → (passes (shape_checks shanghai_shape text) ≡ false) × (answered (shape_checks shanghai_shape text) 0 ≡ reply 18 (next_at text (end_start shanghai_shape text)) 0)
  unfolding shape_checks passes answering
  more_stops a b e = (rw (a, b, e), rw (a, b, e))
