-- An answer as the paper's four numbers.
use Rattle.std.specs.Prelude.{ℕ, ◌≡◌}
use Rattle.sequences.specs.Checks.{Reply}
use Rattle.answers.specs.declared.Numbers.{Numbers}

abbrev pub reply_of : Numbers → Reply
reply_of n = record { number = n.number; place = n.place; value = n.value; reports = n.reports }

-- three numbers are those of a reply
pub record Told (r : Reply) (number place value : ℕ) : Type 0 where
  pub number_is : number ≡ r.number
  pub place_is : place ≡ r.place
  pub value_is : value ≡ r.value

-- and four are those of an order's
pub record ToldOrder (r : Reply) (number place value reports : ℕ) : Type 0 where
  pub told : Told r number place value
  pub reports_are : reports ≡ r.reports
