-- Reading and writing the list text through the flat layout: 21 comes first, then refusal 1 where the fields have not their width, else
-- as reading and writing. A part of a text goes through it as two numbers.
use Rattle.std.specs.Prelude.{ℕ, ◌≡◌, cond, List, ◌∷◌, leb, eqb, length, drop}
use Rattle.sequences.specs.Checks.{Reply, reply}
use Rattle.rules.specs.Replies.{if_accepted}
use Rattle.list_rules.specs.declared.TextPart.{TextPart}
use Rattle.text_rules.specs.Reading.{body_start}
use Rattle.list_rules.specs.Shanghai.{shanghai_shape}
use Rattle.list_rules.specs.Reading.{fields_read, read_reply, fields_handed, first_handed, run_after}
use Rattle.list_rules.specs.Writing.{Listing, write_reply, output_after}
use Rattle.list_layout.specs.Run.{fields_width, fields_numbers}
use Rattle.answers.specs.Numbers.{Told}
use Rattle.flat_calls.specs.Table.{table_given, under_table}

-- what reading is lent besides the text: the component run, the run that takes the fields, and the number that takes the place of
-- the first component line
pub record Taking : Type 0 where
  pub run : List ℕ
  pub fields : List ℕ
  pub first : ℕ

abbrev pub taking : List ℕ → List ℕ → ℕ → Taking
taking run fields first = record { run = run; fields = fields; first = first }

-- the answer r of a call whose fields are so many numbers
unfoldable pub of_width : ℕ → Reply → Reply
of_width fields r = cond (eqb fields fields_width) r (reply 1 0 0)

unfoldable pub taking_reply : List ℕ → List ℕ → Taking → Reply
taking_reply table text t = under_table table (of_width (length t.fields) (read_reply (table_given table) text (length t.run)))

-- an accepted reading fills all three; a refused one leaves them as they were lent. What is handed back is said twice, as `ReadOutcome` does
pub record TextRead (table text : List ℕ) (t : Taking) (number place value : ℕ) (after : Taking) : Type 0 where
  pub told : Told (taking_reply table text t) number place value
  pub run_is : after.run ≡ if_accepted (taking_reply table text t) (run_after (table_given table) text t.run) t.run
  pub fields_is : after.fields ≡ if_accepted (taking_reply table text t) (fields_numbers (fields_read text)) t.fields
  pub first_is : after.first ≡ if_accepted (taking_reply table text t) (body_start shanghai_shape text) t.first
  pub fields_handed_is : after.fields ≡ if_accepted (taking_reply table text t) (fields_numbers (fields_handed (table_given table) text (length t.run))) t.fields
  pub first_handed_is : after.first ≡ if_accepted (taking_reply table text t) (first_handed (table_given table) text (length t.run)) t.first

-- a part of a text as two numbers, its place and its length: they are stored at the front of a run that has room for both, and a
-- shorter run is left as it was lent
abbrev pub part_width : ℕ
part_width = 2

unfoldable pub part_kept : TextPart → List ℕ → List ℕ
part_kept p run = cond (leb part_width (length run)) (p.place ∷ p.length ∷ drop part_width run) run

-- the answer of a writing through the flat layout
unfoldable pub writing_reply : List ℕ → ℕ → Listing → ℕ → Reply
writing_reply table fields l room = under_table table (of_width fields (write_reply (table_given table) l room))

-- an accepted writing leaves the text at the front of the output; a refused one leaves the output as it was lent
pub record TextWritten (table fields : List ℕ) (l : Listing) (output : List ℕ) (number place value : ℕ) (output' : List ℕ) : Type 0 where
  pub told : Told (writing_reply table (length fields) l (length output)) number place value
  pub output_is : output' ≡ if_accepted (writing_reply table (length fields) l (length output)) (output_after (table_given table) l output) output
