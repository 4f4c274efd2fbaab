-- What is put one behind another, and the parts of an order's records.
use Rattle.std.specs.Prelude.{ℕ, cond, ltb, ◌+◌, List, [], ◌∷◌, ◌++◌, Option, Some, None, fold}
use Rattle.sequences.specs.Below.{join_below}
use Rattle.layout.specs.Day.{Day}
use Rattle.layout.specs.declared.Record.{Record}
use Rattle.rules.specs.declared.Kind.{Kind}
use Rattle.rules.specs.declared.CashByMarket.{CashByMarket}
use Rattle.rules.specs.Kinds.{moved_by, stock_side}
use Rattle.rules.specs.Records.{record_of, cash_records, stock_record, second_unit, shanghai_step, other_step}

-- things put one behind another
unfoldable pub put_all : {S A : Type 0} → (S → A → S) → S → List A → S
put_all push s xs = fold push s xs

-- a quantity that moves, as a number: 0 where none does
abbrev pub quantity_in : {Q : Type 0} → (Q → ℕ) → Option Q → ℕ
quantity_in number None = 0
quantity_in number (Some q) = number q

-- the record of a component of whose stock so much moves, if any
unfoldable pub line_record : ℕ → ℕ → ℕ → List Record
line_record code side q = cond (ltb 0 q) (record_of code side q 0 ∷ []) []

-- an order's records of stock
unfoldable pub stock_records : Kind → Day → List ℕ → ℕ → List Record
stock_records kind d s m = join_below (stock_record d (stock_side kind) (moved_by kind d s m)) d.count

-- its records behind those of stock: other cash, Shanghai cash and the second unit, in a fund with the first code g
unfoldable pub records_after_stock : ℕ → ℕ → ℕ → CashByMarket → List Record
records_after_stock g side units c =
    cash_records (g + other_step) side c.other.0 ++ (cash_records (g + shanghai_step) side c.shanghai.0 ++ (record_of (g + second_unit) side units 0 ∷ []))
