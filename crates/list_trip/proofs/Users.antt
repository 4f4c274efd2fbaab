-- The round trips as users see them: every output of a text's length takes its list again, and what writing left in an output
-- reads back.
use mathlib.Core.Path.{◌≡◌, sym, ap, ◌∙◌}
use mathlib.Core.Bool.{true}
use mathlib.Core.List.{List, [], ◌∷◌}
use Prim.Native.Nat.{ℕ, ◌≤◌}
use native.Mathlib.Omega.{arith}
use lib.Dec.{ltb}
use lib.ListN.{length}
use lib.Seq.{take-append_seam}
use borrow.Author.Tests.{le-ltb, ltb-false}
use Rattle.sequences.specs.Checks.{Reply, check, reply, is_accepted, passes}
use Rattle.sequences.proofs.Checks.{all_passed, accepted_reply, passes_all, answered_next, answered_passed}
use Rattle.flags.specs.Table.{FlagTable}
use Rattle.rules.specs.Opening.{table_checks}
use Rattle.digits.specs.Written.{put}
use Rattle.list_rules.specs.Writing.{Listing, text_of, list_checks, write_checks, write_reply, output_after}
use Rattle.list_trip.specs.Trips.{list_read, written_in, Rewritten, OutputReads}
use Rattle.list_trip.proofs.Written.{written_reads}
use Rattle.list_trip.proofs.ReadTests.{reads}
use Rattle.list_trip.proofs.Read.{text_again, renamed_same, read_writes}

-- a list that passes is taken by every output that its text fits
pub taken : (t : FlagTable) (l : Listing) (n : ℕ) → passes (list_checks t l) ≡ true → length (text_of t l) ≤ n → write_reply t l n ≡ reply 0 0 (length (text_of t l))
unfolding write_reply write_checks
taken t l n e h =
    answered_next (list_checks t l) _ _ e
    ∙ answered_passed (check (ltb n (length (text_of t l))) 16 0 ∷ []) _ (passes_all _ (le-ltb n (length (text_of t l)) h, tt))

pub rewritten : Rewritten
rewritten t text room n e h =
    let p = read_writes t text room e in
    let same : length (text_of t (list_read t text)) ≡ length text = ap length (p.1 ∙ sym (renamed_same t text)) ∙ (text_again t text (reads t text room e)).same_length in
    taken t (list_read t text) n p.0 (omega arith) ∙ ap (λ (v : ℕ). reply 0 0 v) same

-- an accepted list passes, and its text fits
pub accepted_fits : (t : FlagTable) (l : Listing) (n : ℕ) → is_accepted (write_reply t l n) ≡ true → (passes (list_checks t l) ≡ true) × (length (text_of t l) ≤ n)
unfolding write_reply write_checks list_checks table_checks
accepted_fits t l n e =
    let p = all_passed (write_checks t l n) _ tt e in
    (passes_all (list_checks t l) (p.0, (p.1.0, (p.1.1.0, (p.1.1.1.0, tt)))), ltb-false _ _ p.1.1.1.1.0)

-- and its bytes in the output are its text
module _ (t : FlagTable) (l : Listing) (output : List ℕ) (e : is_accepted (write_reply t l (length output)) ≡ true) where
  value_is : (write_reply t l (length output)).value ≡ length (text_of t l)
  unfolding write_reply write_checks list_checks table_checks
  value_is = ap (λ (r : Reply). r.value) (accepted_reply (write_checks t l (length output)) _ tt e)

  text_in : written_in t l output ≡ text_of t l
  unfolding written_in output_after put
  text_in = rw (e, value_is) (take-append_seam (text_of t l) _)

pub output_reads : OutputReads
output_reads t l output room full e h =
    rw (text_in t l output e) (written_reads t l room full (accepted_fits t l (length output) e).0 h)
