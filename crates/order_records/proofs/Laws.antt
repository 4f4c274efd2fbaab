-- Laws of what is put one behind another, and of the parts of an order's records.
use mathlib.Core.Path.{◌≡◌, refl, sym, ap, ◌∙◌}
use mathlib.Core.List.{List, [], ◌∷◌, ◌++◌}
use Prim.Native.Nat.{ℕ, ◌+◌, ◌-◌, ◌/◌, ◌%◌, ◌≤◌, ◌<◌}
use native.Mathlib.Omega.{arith}
use lib.ListN.{length, length-append}
use borrow.Author.Tests.{lt-ltb, le-ltb, eq-eqb, ne_eqb}
use Rattle.std.specs.Prelude.{Option, Some, None, MatchOption, fold}
use Rattle.std.proofs.lemmas.List.Sums.{fold-append}
use Rattle.sequences.specs.Below.{join_below}
use Rattle.sequences.proofs.Below.{join-none, join_more}
use Rattle.sequences.proofs.Runs.{join_grows}
use Rattle.units.specs.Units.{split_size}
use Rattle.layout.specs.Day.{Day}
use Rattle.rules.specs.declared.Ask.{Ask}
use Rattle.rules.specs.declared.Kind.{Kind}
use Rattle.rules.specs.declared.CashByMarket.{CashByMarket}
use Rattle.layout.specs.declared.Record.{Record}
use Rattle.rules.specs.Lines.{component_of, code_of}
use Rattle.rules.specs.Records.{record_of, cash_parts, cash_records, stock_record, order_records}
use Rattle.rules.specs.Kinds.{moved_by, stock_side, rest_side, records_by}
use Rattle.order_records.specs.Put.{put_all, quantity_in, line_record, stock_records, records_after_stock}

-- Things put one behind another.
module _ {S A : Type 0} (push : S → A → S) where
  pub put_none : (s : S) → s ≡ put_all push s []
  unfolding put_all
  put_none s = refl

  pub put_one : (s : S) (x : A) → push s x ≡ put_all push s (x ∷ [])
  unfolding put_all
  put_one s x = refl

  -- some, and others behind them
  pub put_then : (xs ys : List A) (s : S) {t u : S} → t ≡ put_all push s xs → u ≡ put_all push t ys → u ≡ put_all push s (xs ++ ys)
  unfolding put_all
  put_then xs ys s first next = next ∙ ap (λ t. fold push t ys) first ∙ sym (fold-append push s xs ys)

  -- where each takes one of so many places
  module _ (room : S → ℕ) (less : (s : S) (x : A) → room (push s x) ≡ room s - 1) where
    pub room_after : (s : S) (xs : List A) → room (put_all push s xs) ≡ room s - length xs
    unfolding put_all
    room_after s [] = omega arith
    room_after s (x ∷ xs) = room_after (push s x) xs ∙ omega (arith, less s x)

    -- of those that have room, the first have, and those behind have once these are put
    pub fits_first : (xs ys : List A) (s : S) → length (xs ++ ys) ≤ room s → length xs ≤ room s
    fits_first xs ys s h = omega (arith, h, length-append xs ys)

    pub fits_next : (xs ys : List A) (s : S) {t : S} → t ≡ put_all push s xs → length (xs ++ ys) ≤ room s → length ys ≤ room t
    fits_next xs ys s e h = rw e (omega (arith, h, length-append xs ys, room_after s xs))

-- The records of cash.

pub cash_none : (code side c : ℕ) → c ≡ 0 → cash_records code side c ≡ []
unfolding cash_records cash_parts
cash_none code side c e = rw (eq-eqb c 0 e)

pub cash_one : (code side c : ℕ) → (c ≡ 0 → ⊥) → c < split_size → cash_records code side c ≡ record_of code side 1 c ∷ []
unfolding cash_records cash_parts
cash_one code side c n l = rw (ne_eqb c 0 n, lt-ltb c split_size l)

pub cash_two : (code side c : ℕ) → (c ≡ 0 → ⊥) → split_size ≤ c
    → cash_records code side c ≡ record_of code side split_size (c / split_size) ∷ record_of code side 1 (c % split_size) ∷ []
unfolding cash_records cash_parts
cash_two code side c n l = rw (ne_eqb c 0 n, le-ltb c split_size l)

-- The records of stock.

-- stock that moves takes one, and what does not move none
pub line_none : (code side q : ℕ) → q ≡ 0 → line_record code side q ≡ []
unfolding line_record
line_none code side q e = rw e refl

pub line_some : (code side q : ℕ) → 0 < q → line_record code side q ≡ record_of code side q 0 ∷ []
unfolding line_record
line_some code side q l = rw (lt-ltb 0 q l)

-- a quantity that is told as a number above 0 or none
pub quantity_told : {Q : Type 0} (number : Q → ℕ) (o : Option Q) (n : ℕ) → MatchOption o (n ≡ 0) (λ q. number q ≡ n) → quantity_in number o ≡ n
quantity_told number None n told = sym told
quantity_told number (Some q) n told = told

module _ (kind : Kind) (d : Day) (s : List ℕ) (m : ℕ) where
  -- the records of the components below i
  unfoldable pub stock_below : ℕ → List Record
  stock_below i = join_below (stock_record d (stock_side kind) (moved_by kind d s m)) i

  pub stock_none : stock_below 0 ≡ []
  unfolding stock_below
  stock_none = join-none _

  abbrev pub line : ℕ → List Record
  line i = line_record (component_of d i).code (stock_side kind) (moved_by kind d s m i)

  pub stock_more : (i : ℕ) → stock_below (i + 1) ≡ stock_below i ++ line i
  unfolding stock_below stock_record code_of line_record
  stock_more i = join_more _ i

  pub stock_all : stock_below d.count ≡ stock_records kind d s m
  unfolding stock_below stock_records
  stock_all = refl

  -- the i-th line's are among them, behind those below it
  pub stock_grows : {i : ℕ} → i < d.count → length (stock_below i ++ line i) ≤ length (stock_records kind d s m)
  unfolding stock_below stock_records
  stock_grows {i} l =
      let grows = join_grows (stock_record d (stock_side kind) (moved_by kind d s m)) d.count (i + 1) (omega arith) in
      omega (arith, grows, ap length (stock_more i))

-- An order's records: the unit, stock, and what is behind it, in a fund with the first code g; `side` is that of what is not stock.
pub records_are : (d : Day) (s : List ℕ) (ask : Ask) (m : ℕ) (c : CashByMarket) {g side : ℕ} {unit : Record} → g ≡ d.fund.first_code
    → side ≡ rest_side ask.kind
    → unit ≡ record_of g side ask.units 0
    → (unit ∷ []) ++ (stock_records ask.kind d s m ++ records_after_stock g side ask.units c) ≡ records_by ask.kind d s ask.units m c
unfolding records_by order_records stock_records records_after_stock
records_are d s ask m c first rest made = rw (made, rest, first)
