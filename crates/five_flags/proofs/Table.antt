-- Our table has document 01's columns: all its entries are computed once, and a flag past its rows says no to both.
use mathlib.Core.Path.{◌≡◌, refl, sym, ◌∙◌}
use mathlib.Core.Bool.{Bool, true, false, not, cond, false≢true}
use mathlib.Core.List.{[]}
use Prim.Native.Nat.{ℕ, ◌≤◌}
use native.Mathlib.Omega.{arith}
use lib.Dec.{ltb}
use lib.ListN.{get_or-eq_default}
use borrow.Author.Tests.{le-ltb, ltb-true, ltb-false}
use Rattle.sequences.specs.Below.{all_below}
use Rattle.sequences.proofs.Below.{all_at}
use Rattle.flags.specs.Table.{flag_count, says, entry, flag_table, in_use}
use Rattle.five_flags.specs.Rows.{five_rows, five_entry, five_flags, six_columns}
use Rattle.five_flags.specs.AsBefore.{OurColumns, OurFlags}

-- two answers are the same
abbrev agree : Bool → Bool → Bool
agree a b = cond a b (not b)

agree_same : (a b : Bool) → agree a b ≡ true → a ≡ b
agree_same true b e = sym e
agree_same false true e = absurd (false≢true e)
agree_same false false e = refl

-- of all flags of a table, in all columns but the last
columns_agree : all_below (λ flag. all_below (λ column. agree (entry flag_table flag column) (five_entry flag column)) six_columns) flag_count ≡ true
unfolding all_below entry says flag_table five_entry five_rows
columns_agree = refl

flags_agree : all_below (λ flag. agree (entry flag_table flag in_use) (ltb flag five_flags)) flag_count ≡ true
unfolding all_below entry says flag_table
flags_agree = refl

-- a flag past the rows
module _ (flag : ℕ) (h : flag_count ≤ flag) where
  no_entry : (column : ℕ) → entry flag_table flag column ≡ false
  unfolding entry
  no_entry column = rw (le-ltb flag flag_count h) refl

  no_five : (column : ℕ) → five_entry flag column ≡ false
  unfolding five_entry five_rows
  no_five column = rw (get_or-eq_default five_rows [] {n = flag} (omega arith)) refl

pub our_columns : OurColumns
our_columns flag column h = go (ltb flag flag_count) refl
  where
    go : (b : Bool) → ltb flag flag_count ≡ b → entry flag_table flag column ≡ five_entry flag column
    go true e = agree_same _ _ (all_at _ six_columns (all_at _ flag_count columns_agree flag (ltb-true _ _ e)) column h)
    go false e = let past = ltb-false _ _ e in no_entry flag past column ∙ sym (no_five flag past column)

pub our_flags : OurFlags
our_flags flag = go (ltb flag flag_count) refl
  where
    go : (b : Bool) → ltb flag flag_count ≡ b → entry flag_table flag in_use ≡ ltb flag five_flags
    go true e = agree_same _ _ (all_at _ flag_count flags_agree flag (ltb-true _ _ e))
    go false e =
        let past = ltb-false _ _ e in
        no_entry flag past in_use ∙ sym (le-ltb flag five_flags (omega arith))
