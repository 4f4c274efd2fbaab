-- The stock record of a component among the records that an order wrote: its quantity, and that there is at most one.
use mathlib.Core.Path.{◌≡◌, ◌∙◌}
use mathlib.Core.List.{List}
use Prim.Native.Nat.{ℕ, ◌≤◌, ◌<◌}
use lib.ListN.{length}
use Rattle.sequences.specs.Below.{sum_below}
use Rattle.sequences.specs.Same.{when_same}
use Rattle.layout.specs.Day.{Day}
use Rattle.layout.specs.declared.Record.{Record}
use Rattle.layout.specs.Records.{record_at, with_records}
use Rattle.rules.specs.Lines.{code_of}
use Rattle.rules.specs.Records.{order_records}
use Rattle.rules.proofs.SoundDay.{SoundDay}
use Rattle.rules.proofs.Stock.{list_tally_lem, stock_moved, stock_once}
use Rattle.balance.specs.Counts.{stock_quantity}

-- how many of the first n records of a list have a component's code
unfoldable pub stock_records : ℕ → List ℕ → ℕ → ℕ
stock_records code list n = sum_below (λ k. when_same (record_at list k).code code 1) n

module _ (d : Day) (b ps : List ℕ) (sound : SoundDay d b ps) (l : ℕ) (inside : l < d.count) (side rest units : ℕ) (moved : ℕ → ℕ) (other shanghai : ℕ) (list : List ℕ) where
  abbrev records : List Record
  records = order_records d side rest units moved other shanghai

  pub quantity_is : stock_quantity (code_of d l) (with_records records list) (length records) ≡ moved l
  unfolding stock_quantity
  quantity_is = list_tally_lem (λ r. r.quantity) (code_of d l) records list ∙ stock_moved d sound.own.components l inside side rest units moved other shanghai

  pub record_unique : stock_records (code_of d l) (with_records records list) (length records) ≤ 1
  unfolding stock_records
  record_unique =
      rw (list_tally_lem (λ r. 1) (code_of d l) records list)
      (stock_once d sound.own.components l inside side rest units moved other shanghai)
