-- The stock record of a component among an order's records: there is at most one with its code, and it has what moved.
use mathlib.Core.Path.{◌≡◌, refl, sym, ◌∙◌}
use mathlib.Core.Bool.{Bool, true, false, cond}
use mathlib.Core.List.{List, [], ◌∷◌, ◌++◌, map}
use Prim.Native.Nat.{ℕ, ◌+◌, ◌≤◌, ◌<◌}
use native.Mathlib.Omega.{arith}
use lib.Dec.{ltb}
use lib.ListN.{length}
use borrow.Author.Tests.{ltb-false}
use Rattle.std.proofs.lemmas.Bool.{cond_both}
use Rattle.sequences.specs.Below.{sum_below, join_below}
use Rattle.sequences.specs.Same.{when_same}
use Rattle.sequences.proofs.Below.{sum_only, cond_le}
use Rattle.sequences.proofs.Same.{when_same_lem, when_other}
use Rattle.sequences.proofs.Sums.{sum_of, sum_one_of, sum_append, sum_join}
use Rattle.fund.specs.Components.{component_fault}
use Rattle.fund.proofs.Laws.{components_fine, outside_codes, codes_differ}
use Rattle.layout.specs.Day.{Day}
use Rattle.layout.specs.declared.Record.{Record}
use Rattle.rules.specs.Lines.{code_of}
use Rattle.rules.specs.Records.{record_of, cash_parts, cash_records, stock_record, second_unit, shanghai_step, other_step, order_records}
use Rattle.layout.specs.Records.{record_at, with_records}
use Rattle.layout.proofs.Records.{records_total}

-- a number v of each record that has the code
abbrev pub tally : (Record → ℕ) → ℕ → List Record → ℕ
tally v code rs = sum_of (λ r. when_same r.code code (v r)) rs

module _ (v : Record → ℕ) (code : ℕ) where
  tally_one : (r : Record) → (r.code ≡ code → ⊥) → tally v code (r ∷ []) ≡ 0
  tally_one r n = sum_one_of _ r ∙ when_other r.code code (v r) n

  -- cash records have another code
  tally_parts : (other side : ℕ) (parts : List (ℕ × ℕ)) → (other ≡ code → ⊥) → tally v code (map (λ part. record_of other side part.0 part.1) parts) ≡ 0
  unfolding sum_of
  tally_parts other side [] n = refl
  tally_parts other side (part ∷ parts) n =
      omega (arith, when_other other code (v (record_of other side part.0 part.1)) n, tally_parts other side parts n)

  tally_cash : (other side c : ℕ) → (other ≡ code → ⊥) → tally v code (cash_records other side c) ≡ 0
  unfolding cash_records
  tally_cash other side c n = tally_parts other side (cash_parts c) n

module _ (d : Day) (v : Record → ℕ) (sound : component_fault d.table d.fund.first_code d.components d.count ≡ d.count) (l : ℕ) (inside : l < d.count) where
  -- a component's code is none of the fund's group
  group : (k : ℕ) → k ≤ 5 → d.fund.first_code + k ≡ code_of d l → ⊥
  unfolding code_of
  group k h e = outside_codes d.fund.first_code _ (components_fine _ _ _ _ sound l inside).outside k h (sym e)

  stock_here : (side : ℕ) (moved : ℕ → ℕ) → tally v (code_of d l) (stock_record d side moved l) ≡ cond (ltb 0 (moved l)) (v (record_of (code_of d l) side (moved l) 0)) 0
  unfolding stock_record sum_of
  stock_here side moved = go (ltb 0 (moved l))
    where
      go : (b : Bool) → tally v (code_of d l) (cond b (record_of (code_of d l) side (moved l) 0 ∷ []) []) ≡ cond b (v (record_of (code_of d l) side (moved l) 0)) 0
      go true = omega (arith, when_same_lem (code_of d l) (code_of d l) (v (record_of (code_of d l) side (moved l) 0)) refl)
      go false = refl

  stock_elsewhere : (side : ℕ) (moved : ℕ → ℕ) (i : ℕ) → i < d.count → (i ≡ l → ⊥) → tally v (code_of d l) (stock_record d side moved i) ≡ 0
  unfolding stock_record sum_of code_of
  stock_elsewhere side moved i h n =
      cond_both (ltb 0 (moved i)) (record_of (code_of d i) side (moved i) 0 ∷ []) [] (λ rs. tally v (code_of d l) rs ≡ 0)
      (λ _. tally_one v (code_of d l) (record_of (code_of d i) side (moved i) 0) (codes_differ _ _ _ _ sound i l h inside n))
      (λ _. refl)

  -- of all the records of an order only the component's own counts
  pub tally_order : (side rest units : ℕ) (moved : ℕ → ℕ) (other shanghai : ℕ)
      → tally v (code_of d l) (order_records d side rest units moved other shanghai) ≡ cond (ltb 0 (moved l)) (v (record_of (code_of d l) side (moved l) 0)) 0
  unfolding order_records sum_of
  tally_order side rest units moved other shanghai =
      let g = d.fund.first_code in
      let code = code_of d l in
      let stock = join_below (stock_record d side moved) d.count in
      let last = record_of (g + second_unit) rest units 0 ∷ [] in
      let sh = cash_records (g + shanghai_step) rest shanghai in
      let ot = cash_records (g + other_step) rest other in
      let first_none = when_other g code (v (record_of g rest units 0)) (λ e. group 0 (omega arith) (omega arith)) in
      let stock-sum =
      sum_join _ (stock_record d side moved) d.count ∙ sum_only (λ i. tally v code (stock_record d side moved i)) d.count l inside (stock_elsewhere side moved)
      ∙ stock_here side moved in
      omega (
        arith,
        first_none,
        stock-sum,
        sum_append (λ r. when_same r.code code (v r)) stock (ot ++ (sh ++ last)),
        sum_append (λ r. when_same r.code code (v r)) ot (sh ++ last),
        sum_append (λ r. when_same r.code code (v r)) sh last,
        tally_cash v code (g + other_step) rest other (group other_step (omega arith)),
        tally_cash v code (g + shanghai_step) rest shanghai (group shanghai_step (omega arith)),
        tally_one v code (record_of (g + second_unit) rest units 0) (group second_unit (omega arith)),
      )

-- so its quantity is what moved, and there is at most one
module _ (d : Day) (sound : component_fault d.table d.fund.first_code d.components d.count ≡ d.count) (l : ℕ) (inside : l < d.count) (side rest units : ℕ)
    (moved : ℕ → ℕ) (other shanghai : ℕ) where
  pub stock_moved : tally (λ r. r.quantity) (code_of d l) (order_records d side rest units moved other shanghai) ≡ moved l
  stock_moved =
      tally_order d (λ r. r.quantity) sound l inside side rest units moved other shanghai
      ∙ cond_both (ltb 0 (moved l)) (moved l) 0 (λ n. n ≡ moved l) (λ _. refl) (λ e. omega (arith, ltb-false 0 (moved l) e))

  pub stock_once : tally (λ r. 1) (code_of d l) (order_records d side rest units moved other shanghai) ≤ 1
  stock_once = rw (tally_order d (λ r. 1) sound l inside side rest units moved other shanghai) (cond_le (ltb 0 (moved l)) (omega arith) (omega arith))

-- the same read off the lent run
pub list_tally_lem : (v : Record → ℕ) (code : ℕ) (rs : List Record) (list : List ℕ)
    → sum_below (λ k. when_same (record_at (with_records rs list) k).code code (v (record_at (with_records rs list) k))) (length rs) ≡ tally v code rs
list_tally_lem v code rs list = records_total (λ r. when_same r.code code (v r)) rs list
