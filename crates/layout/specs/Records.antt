-- Records in a flat run, and in a list of structs.
use Rattle.std.specs.Prelude.{ℕ, ◌+◌, ◌*◌, List, [], ◌∷◌, ◌++◌, length, drop, get_or}
use Rattle.layout.specs.declared.Record.{Record}
use Rattle.layout.specs.Places.{record_width}
use Rattle.layout.specs.Laid.{laid, with_laid}

-- the k-th record of a run, and a record's numbers in this order
unfoldable pub record_at : List ℕ → ℕ → Record
record_at list k =
    record {
      code = get_or list (record_width * k) 0;
      side = get_or list (record_width * k + 1) 0;
      quantity = get_or list (record_width * k + 2) 0;
      price = record { 0 = get_or list (record_width * k + 3) 0 };
      amount = record { 0 = get_or list (record_width * k + 4) 0 };
    }

abbrev pub record_numbers : Record → List ℕ
record_numbers r = r.code ∷ r.side ∷ r.quantity ∷ r.price.0 ∷ r.amount.0 ∷ []

-- all their numbers, and the lent run with the records written: places past the last stay
unfoldable pub flatten : List Record → List ℕ
flatten rs = laid record_numbers rs

unfoldable pub with_records : List Record → List ℕ → List ℕ
with_records rs list = with_laid record_numbers record_width rs list

-- the list with records at its front: places past the last stay
abbrev pub at_front : List Record → List Record → List Record
at_front rs list = rs ++ drop (length rs) list
