-- The tests of a call in order, and the answer that the first failing one gives.
use Rattle.std.specs.Prelude.{Bool, true, cond, not, ◌&&◌, List, [], ◌∷◌, ℕ, eqb}

-- a test: whether it fails, and the refusal's number and place where it does
pub record Check : Type 0 where
  pub fails : Bool
  pub number : ℕ
  pub place : ℕ

abbrev pub check : Bool → ℕ → ℕ → Check
check f n p = record { fails = f; number = n; place = p }

-- An answer as four numbers: the refusal's number (0 accepted), its place, the value of an accepted call, and of an accepted order
-- how many reports it makes; its value is how many records.
pub record Reply : Type 0 where
  pub number : ℕ
  pub place : ℕ
  pub value : ℕ
  pub reports : ℕ

abbrev pub reply : ℕ → ℕ → ℕ → Reply
reply n p v = record { number = n; place = p; value = v; reports = 0 }

-- the refusal of the first test that fails; where none does, the accepted reply r
unfoldable pub answering : List Check → Reply → Reply
answering [] r = r
answering (c ∷ cs) r = cond c.fails (reply c.number c.place 0) (answering cs r)

-- and with the value v
abbrev pub answered : List Check → ℕ → Reply
answered cs v = answering cs (reply 0 0 v)

-- no test fails
unfoldable pub passes : List Check → Bool
passes [] = true
passes (c ∷ cs) = not c.fails && passes cs

unfoldable pub is_accepted : Reply → Bool
is_accepted r = eqb r.number 0
