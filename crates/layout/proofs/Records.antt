-- Records in a flat run: their numbers, stored and read back.
use mathlib.Core.Path.{◌≡◌, refl}
use mathlib.Core.List.{List, ◌++◌}
use Prim.Native.Nat.{ℕ, ◌*◌, ◌<◌}
use native.Mathlib.Omega.{arith}
use lib.ListN.{length, get_or}
use Rattle.layout.specs.declared.Record.{Record}
use Rattle.layout.specs.Places.{record_width}
use Rattle.layout.specs.Records.{record_at, record_numbers, flatten, with_records}
use Rattle.sequences.specs.Below.{sum_below}
use Rattle.sequences.proofs.Sums.{sum_of, read_total}
use Rattle.layout.proofs.Laid.{laid-append, laid-length, laid_first, laid_read}

pub flatten-append : (rs qs : List Record) → flatten (rs ++ qs) ≡ flatten rs ++ flatten qs
unfolding flatten
flatten-append rs qs = laid-append record_numbers rs qs

pub flatten-length : (rs : List Record) → length (flatten rs) ≡ record_width * length rs
unfolding flatten
flatten-length rs = laid-length record_numbers record_width (λ r. refl) rs

-- what was written is read
pub record_read : (rs : List Record) (list : List ℕ) (k : ℕ) (r : Record) → k < length rs → record_at (with_records rs list) k ≡ get_or rs k r
unfolding record_at with_records
record_read rs list k r h =
    let at = laid_read record_numbers record_width (λ q. refl) rs list k r h in
    rw (laid_first record_numbers record_width (λ q. refl) rs list k r h (omega arith), at 1 (omega arith), at 2 (omega arith), at 3 (omega arith), at 4 (omega arith))

-- a number of each record, summed
blank : Record
blank = record { code = 0; side = 0; quantity = 0; price = record { 0 = 0 }; amount = record { 0 = 0 } }

pub records_total : (f : Record → ℕ) (rs : List Record) (list : List ℕ) → sum_below (λ k. f (record_at (with_records rs list) k)) (length rs) ≡ sum_of f rs
records_total f rs list = read_total f (record_at (with_records rs list)) rs blank (λ k h. record_read rs list k blank h)
