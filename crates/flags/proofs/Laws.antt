-- What callers need of a flag table: that ours obeys its rules, and what the rules say of the columns of any that does.
use mathlib.Core.Path.{◌≡◌, refl, sym, ◌∙◌}
use mathlib.Core.Bool.{Bool, true, false, cond, not, ◌||◌, ◌&&◌, and-false, false≢true}
use mathlib.Core.List.{List, [], ◌∷◌}
use Prim.Native.Nat.{ℕ, ◌≤◌, ◌<◌}
use native.Mathlib.Nat.{le_trans}
use native.Mathlib.Omega.{arith}
use lib.Dec.{leb, ltb}
use lib.ListN.{length, get_or-eq_default}
use borrow.Author.Tests.{lt-ltb, le-ltb, ltb-true, ltb-false, leb-true, not-false, not-true}
use Rattle.sequences.specs.Below.{all_below, first_below}
use Rattle.sequences.specs.Every.{every}
use Rattle.sequences.proofs.Below.{all_at, first_all}
use Rattle.sequences.proofs.Every.{every_at, false_of}
use Rattle.flags.specs.Table.{FlagTable, flag_count, flag_columns, row_of, says, entry, is_binary, use_fits, shortage_fits, row_fits, table_fault, flag_table}
use Rattle.flags.specs.Table.{stock_moves, shortage_in_cash, rate_used, amount_used, shanghai, priced, in_use}

-- past either end a table has no entry
pub past_flags : (t : FlagTable) (flag column : ℕ) → flag_count ≤ flag → entry t flag column ≡ false
unfolding entry
past_flags t flag column h = rw (le-ltb flag flag_count h) refl

pub past_columns : (t : FlagTable) (flag column : ℕ) → flag_columns ≤ column → entry t flag column ≡ false
unfolding entry
past_columns t flag column h = rw (le-ltb column flag_columns h, and-false) refl

-- our table loads
pub ours_loads : table_fault flag_table ≡ flag_count
unfolding table_fault first_below row_fits is_binary use_fits shortage_fits says all_below every flag_table
ours_loads = refl

-- two answers are the same
abbrev agree : Bool → Bool → Bool
agree a b = cond a b (not b)

agree_same : (a b : Bool) → agree a b ≡ true → a ≡ b
agree_same true b e = sym e
agree_same false true e = absurd (false≢true e)
agree_same false false e = refl

-- within its ends our table's rows say yes only where their flag is in use
rows_agree : all_below (λ flag. all_below (λ column. agree (entry flag_table flag column) (says (row_of flag_table flag) column)) flag_columns) flag_count ≡ true
unfolding all_below entry says flag_table
rows_agree = refl

rows_width : all_below (λ flag. leb (length (row_of flag_table flag)) flag_columns) flag_count ≡ true
unfolding all_below flag_table
rows_width = refl

-- and past them they say nothing
row_past : (row : List ℕ) (column : ℕ) → length row ≤ column → says row column ≡ false
unfolding says
row_past row column h = rw (get_or-eq_default row 0 {n = column} h) refl

flag_past : (flag column : ℕ) → flag_count ≤ flag → says (row_of flag_table flag) column ≡ false
unfolding flag_table
flag_past flag column h = row_past (row_of flag_table flag) column (rw (get_or-eq_default flag_table [] {n = flag} h) (omega arith))

-- so an entry of ours is what its row says
pub entry_ours : (flag column : ℕ) → entry flag_table flag column ≡ says (row_of flag_table flag) column
entry_ours flag column = go (ltb flag flag_count) refl (ltb column flag_columns) refl
  where
    go : (a : Bool) → ltb flag flag_count ≡ a → (b : Bool) → ltb column flag_columns ≡ b → entry flag_table flag column ≡ says (row_of flag_table flag) column
    go true e true f = agree_same _ _ (all_at _ flag_columns (all_at _ flag_count rows_agree flag (ltb-true _ _ e)) column (ltb-true _ _ f))
    go true e false f =
        let past = ltb-false _ _ f in
        let wide = leb-true _ _ (all_at _ flag_count rows_width flag (ltb-true _ _ e)) in
        past_columns flag_table flag column past ∙ sym (row_past _ column (le_trans wide past))
    go false e b f = let past = ltb-false _ _ e in past_flags flag_table flag column past ∙ sym (flag_past flag column past)

-- a and b, taken apart
parts : (a b : Bool) → (a && b) ≡ true → (a ≡ true) × (b ≡ true)
parts true b e = (refl, e)
parts false b e = absurd (false≢true e)

-- what an entry that is true says: the flag is one of the table's and in use, and its column says yes
pub record Said (t : FlagTable) (flag column : ℕ) : Type 0 where
  pub flag_low : flag < flag_count
  pub column_low : column < flag_columns
  pub used : says (row_of t flag) in_use ≡ true
  pub said : says (row_of t flag) column ≡ true

pub entry_says : (t : FlagTable) (flag column : ℕ) → entry t flag column ≡ true → Said t flag column
unfolding entry
entry_says t flag column e =
    let halves = parts _ _ e in
    let ends = parts _ _ halves.0 in
    let row = parts _ _ halves.1 in
    record { flag_low = ltb-true _ _ ends.0; column_low = ltb-true _ _ ends.1; used = row.0; said = row.1 }

-- a true entry of the column in use says the same of the flag
pub used_entry : (t : FlagTable) (flag column : ℕ) → entry t flag column ≡ true → entry t flag in_use ≡ true
unfolding entry
used_entry t flag column e =
    let s = entry_says t flag column e in
    rw (lt-ltb flag flag_count s.flag_low, s.used) refl

-- an entry of a flag that is in use is what its row says
pub entry_row : (t : FlagTable) (flag column : ℕ) → entry t flag in_use ≡ true → column < flag_columns → entry t flag column ≡ says (row_of t flag) column
unfolding entry
entry_row t flag column e h =
    let s = entry_says t flag in_use e in
    rw (lt-ltb flag flag_count s.flag_low, lt-ltb column flag_columns h, s.used) refl

-- a or b, where a is not
other : (a b : Bool) → a ≡ true → (not a || b) ≡ true → b ≡ true
other true b p e = e
other false b p e = absurd (false≢true p)

-- the tests that a row passes
abbrev row_tests : List ℕ → List Bool
row_tests row = is_binary row ∷ (not (says row in_use) || every (use_fits row ∷ shortage_fits row ∷ [])) ∷ []

abbrev stock_tests : List ℕ → List Bool
stock_tests row = says row shanghai ∷ says row priced ∷ not (says row amount_used) ∷ []

abbrev shortage_tests : List ℕ → List Bool
shortage_tests row = says row stock_moves ∷ says row rate_used ∷ []

-- What the rules say of the columns of a flag, in any table that loads.
module _ (t : FlagTable) (loads : table_fault t ≡ flag_count) (flag : ℕ) where
  row_fine : flag < flag_count → every (row_tests (row_of t flag)) ≡ true
  unfolding table_fault row_fits
  row_fine h = not-false _ (first_all (λ f. not (row_fits (row_of t f))) flag_count loads flag h)

  -- the two rules of a flag in use
  rules : entry t flag in_use ≡ true → (use_fits (row_of t flag) ≡ true) × (shortage_fits (row_of t flag) ≡ true)
  rules e =
      let s = entry_says t flag in_use e in
      let both = every_at _ (other _ _ s.used (every_at _ (row_fine s.flag_low) 1)) in
      (both 0, both 1)

  -- it moves stock: so it is Shanghai, is priced and uses no amount
  module _ (moves : entry t flag stock_moves ≡ true) where
    used : entry t flag in_use ≡ true
    used = used_entry t flag stock_moves moves

    stock_fine : every (stock_tests (row_of t flag)) ≡ true
    unfolding use_fits
    stock_fine = rw (entry_says t flag stock_moves moves).said at ((rules used).0)

    pub stock_is_shanghai : entry t flag shanghai ≡ true
    stock_is_shanghai = entry_row t flag shanghai used (omega arith) ∙ every_at _ stock_fine 0

    pub stock_is_priced : entry t flag priced ≡ true
    stock_is_priced = entry_row t flag priced used (omega arith) ∙ every_at _ stock_fine 1

    pub stock_uses_no_amount : entry t flag amount_used ≡ false
    stock_uses_no_amount = entry_row t flag amount_used used (omega arith) ∙ not-true _ (every_at _ stock_fine 2)

  -- it is in use and moves none: so it uses an amount
  pub pays_amount : entry t flag in_use ≡ true → entry t flag stock_moves ≡ false → entry t flag amount_used ≡ true
  unfolding use_fits
  pays_amount e stays =
      let row = sym (entry_row t flag stock_moves e (omega arith)) ∙ stays in
      entry_row t flag amount_used e (omega arith) ∙ rw row at ((rules e).0)

  -- cash stands for a shortage: so stock moves and the rate is used
  module _ (cash : entry t flag shortage_in_cash ≡ true) where
    short_used : entry t flag in_use ≡ true
    short_used = used_entry t flag shortage_in_cash cash

    shortage_fine : every (shortage_tests (row_of t flag)) ≡ true
    unfolding shortage_fits
    shortage_fine = other _ _ (entry_says t flag shortage_in_cash cash).said ((rules short_used).1)

    pub shortage_moves_stock : entry t flag stock_moves ≡ true
    shortage_moves_stock = entry_row t flag stock_moves short_used (omega arith) ∙ every_at _ shortage_fine 0

    pub shortage_uses_rate : entry t flag rate_used ≡ true
    shortage_uses_rate = entry_row t flag rate_used short_used (omega arith) ∙ every_at _ shortage_fine 1

  -- so where no stock moves, no cash stands for a shortage
  pub shortage_rule : entry t flag stock_moves ≡ false → entry t flag shortage_in_cash ≡ false
  shortage_rule stays = false_of _ (λ cash. false≢true (sym stays ∙ shortage_moves_stock cash))
