-- The bars of a line as the code goes through its columns.
use Rattle.std.proofs.lemmas.Grind.{common_steps}
use Prim.Native.Nat.{ℕ, ◌+◌, ◌≤◌, ◌<◌, zero-le}
use mathlib.Core.Path.{◌≡◌, sym, ◌∙◌}
use mathlib.Core.Bool.{Bool, true, false, and-false}
use mathlib.Core.List.{List}
use native.Mathlib.Omega.{arith}
use lib.Dec.{eqb}
use lib.ListN.{length, get_or}
use borrow.Author.Tests.{eq-eqb, ne_eqb}
use Rattle.sequences.specs.Below.{all_below}
use Rattle.sequences.proofs.Below.{all_none, all_more, all-false}
use Rattle.text_rules.specs.declared.Column.{Column}
use Rattle.text_rules.specs.Tables.{no_column, column_at}
use Rattle.text_rules.specs.Columns.{column_width, column_start, line_width, is_row}
use Rattle.text_rules.proofs.Tables.{start_first}
use Rattle.text_rules.proofs.Placed.{Placed, column_placed}

-- `is_row`: the bars before column k stand, and it starts at `at`.

pub bar_at : List Column → List ℕ → ℕ → Bool
bar_at cs l k = eqb (get_or l (column_start cs k + column_width cs k) 0) 124

pub record Bars (cs : List Column) (l : List ℕ) (at k : ℕ) : Type 0 where
  pub turns : k ≤ length cs
  pub long : length l ≡ line_width cs
  pub place : at ≡ column_start cs k
  pub stand : all_below (bar_at cs l) k ≡ true

module _ (cs : List Column) (l : List ℕ) where
  pub row_other : (length l ≡ line_width cs → ⊥) → false ≡ is_row cs l
  unfolding is_row
  row_other h = rw (ne_eqb (length l) (line_width cs) h)

  pub bars_start : length l ≡ line_width cs → Bars cs l 0 0
  bars_start h = record { turns = zero-le; long = h; place = sym (start_first cs); stand = all_none (bar_at cs l) }

  module _ (at k : ℕ) (v : Bars cs l at k) where
    module _ (h : k < length cs) where
      bar_here : at + (get_or cs k no_column).width ≡ column_start cs k + column_width cs k
      unfolding column_width column_at
      bar_here = omega (arith, v.place)

      pub bar_within : Placed cs k → (at + (get_or cs k no_column).width + 1 ≡ column_start cs (k + 1)) × (at + (get_or cs k no_column).width < length l)
      bar_within p = (omega (arith, bar_here, p.next), omega (arith, bar_here, p.next, p.within, v.long))

      pub bars_again : Placed cs k → get_or l (at + (get_or cs k no_column).width) 0 ≡ 124 → Bars cs l (at + (get_or cs k no_column).width + 1) (k + 1)
      unfolding bar_at
      bars_again p e =
          record {
            turns = omega arith;
            long = v.long;
            place = omega (arith, p.next, bar_here);
            stand = all_more (bar_at cs l) k ∙ rw (v.stand, ← bar_here) (eq-eqb _ _ e);
          }

      pub bars_missing : (get_or l (at + (get_or cs k no_column).width) 0 ≡ 124 → ⊥) → false ≡ is_row cs l
      unfolding is_row bar_at
      bars_missing e = rw (all-false (bar_at cs l) (length cs) k h (rw (← bar_here) (ne_eqb _ _ e)), and-false)

    pub bars_end : length cs ≤ k → true ≡ is_row cs l
    unfolding is_row bar_at
    bars_end h = grind (arith, common_steps)

pub ruleset bars = (column_placed, row_other, bars_start, bar_within, bars_again, bars_missing, bars_end)
