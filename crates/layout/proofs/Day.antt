-- What is read from the run of a day is the day, so that a chain of calls through runs is a chain of the definitions.
use mathlib.Core.Path.{◌≡◌, refl, sym, ap, ◌∙◌}
use mathlib.Core.Bool.{Bool, true, false, cond}
use mathlib.Core.List.{List, [], ◌∷◌, ◌++◌}
use Prim.Native.Nat.{ℕ, zero, suc, ◌+◌, ◌-◌, ◌*◌, ◌≤◌, ◌<◌}
use native.Mathlib.Nat.{add_assoc, add-zero}
use native.Mathlib.Decide.{dec_lt}
use native.Mathlib.Omega.{arith}
use lib.Dec.{ltb, eqb}
use lib.IntN.{ℤ, nat_abs, pos, negsuc}
use lib.ListN.{length, get_or, take, drop, replicate, get_or-append, get_or-eq_default, length-append}
use Rattle.std.proofs.Common.{append_assoc}
use lib.Seq.{get_or-drop, get_or-append-add, drop_at, take_at}
use borrow.Author.Tests.{eq-eqb, ne_eqb, lt-ltb, le-ltb}
use Rattle.std.proofs.lemmas.List.{take_rest}
use Rattle.sequences.specs.Below.{tabulate}
use Rattle.sequences.proofs.Below.{table_length, table_at, table_ext}
use Rattle.digits.specs.Digits.{cap}
use Rattle.digits.specs.Signed.{figure_signed}
use Rattle.digits.proofs.Read.{capped_small}
use Rattle.digits.proofs.Signed.{signed_figure_lem}
use Rattle.layout.specs.declared.Fund.{Fund}
use Rattle.flags.specs.Table.{table_width, table_of}
use Rattle.layout.specs.Places.{most_components, component_width, basket_width, limit_count, cash_place, limits_from, fund_from, table_from, basket_from, day_width}
use Rattle.layout.specs.Components.{blank, component_at, places_of}
use Rattle.layout.specs.Fund.{signed_at, signed_numbers, fund_at, fund_numbers}
use Rattle.layout.specs.Day.{Day, day_of, day_head_at, table_numbers_at, basket_at, blank_day, day_at, day_numbers}
use Rattle.layout.proofs.Stored.{fund-length, day-length}

-- The parts of a run.

module _ (run : List ℕ) where
  -- a run of another length than a day's
  pub day_none : (length run ≡ day_width → ⊥) → day_at run ≡ blank_day
  unfolding day_at
  day_none other = rw (ne_eqb (length run) day_width other)

  module _ (full : length run ≡ day_width) where
    pub day_parts : day_of (day_head_at run) (table_numbers_at run) (basket_at run) ≡ day_at run
    unfolding day_at
    day_parts = rw (eq-eqb (length run) day_width full)

    -- a part of a run that has a day's length is that of the day
    pub accounts_in : get_or run 0 0 ≡ (day_at run).accounts
    unfolding day_head_at
    accounts_in = ap (λ (d : Day). d.accounts) day_parts

    pub count_in : get_or run 1 0 ≡ (day_at run).count
    unfolding day_head_at
    count_in = ap (λ (d : Day). d.count) day_parts

    pub fund_in : fund_at run fund_from ≡ (day_at run).fund
    unfolding day_head_at
    fund_in = ap (λ (d : Day). d.fund) day_parts

    pub table_in : table_of (take (basket_from - table_from) (drop table_from run)) ≡ (day_at run).table
    unfolding table_numbers_at
    table_in = ap (λ (d : Day). d.table) day_parts

    pub components_in : places_of (component_at (take (length run - basket_from) (drop basket_from run))) most_components ≡ (day_at run).components
    unfolding basket_at
    components_in = rw (take_rest run basket_from) (ap (λ (d : Day). d.components) day_parts)

-- A signed number.

sign_back : (b : Bool) → eqb (cond b 1 0) 1 ≡ b
sign_back true = refl
sign_back false = refl

size_small : (e : ℤ) → nat_abs e ≤ cap → (figure_signed e).size ≤ cap
unfolding figure_signed
size_small (pos n) h = h
size_small (negsuc n) h = h

-- a number of a run, where the run goes on with a list from a place on
pub number_at : (run : List ℕ) (at : ℕ) (l : List ℕ) → drop at run ≡ l → (k : ℕ) → get_or run (at + k) 0 ≡ get_or l k 0
number_at run at l e k = sym (get_or-drop at run k 0) ∙ ap (λ (s : List ℕ). get_or s k 0) e

-- a number and its sign, one after the other
pub signed_back : (run : List ℕ) (at : ℕ) (e : ℤ) → nat_abs e ≤ cap
    → get_or run at 0 ≡ cond (figure_signed e).negative 1 0 → get_or run (at + 1) 0 ≡ (figure_signed e).size → signed_at run at ≡ e
unfolding signed_at
signed_back run at e h p q =
    rw (p, q, sign_back (figure_signed e).negative, capped_small (figure_signed e).size (size_small e h)) (signed_figure_lem e)

-- A fund, where the run goes on with its numbers from a place on.
module _ (run : List ℕ) (at : ℕ) (f : Fund) (ys : List ℕ) (e : drop at run ≡ fund_numbers f ++ ys) (full : length f.limits ≡ limit_count)
    (small : nat_abs f.estimated_cash ≤ cap) where
  there : (k : ℕ) → get_or run (at + k) 0 ≡ get_or (fund_numbers f ++ ys) k 0
  there k = number_at run at (fund_numbers f ++ ys) e k

  first : get_or run at 0 ≡ f.first_code
  unfolding fund_numbers
  first = ap (λ (k : ℕ). get_or run k 0) (sym (add-zero at)) ∙ there 0

  cash_back : signed_at run (at + cash_place) ≡ f.estimated_cash
  unfolding fund_numbers signed_numbers
  cash_back =
      signed_back run (at + cash_place) f.estimated_cash small (there cash_place)
      (ap (λ (k : ℕ). get_or run k 0) (add_assoc at cash_place 1) ∙ there (cash_place + 1))

  limit_back : (k : ℕ) → k < limit_count → get_or f.limits k 0 ≡ get_or run (at + limits_from + k) 0
  unfolding fund_numbers signed_numbers
  limit_back k h =
      let limits : List ℕ = tabulate (λ i. get_or f.limits i 0) limit_count in
      let head = f.first_code ∷ f.basket_size ∷ f.max_cash_ratio.0 ∷ f.switch ∷ signed_numbers f.estimated_cash in
      sym (ap (λ (i : ℕ). get_or run i 0) (add_assoc at limits_from k) ∙ there (limits_from + k)
      ∙ get_or-append-add head (limits ++ ys) k 0
      ∙ get_or-append limits ys 0 k (rw table_length h)
      ∙ table_at (λ i. get_or f.limits i 0) limit_count k 0 h)

  limits_back : tabulate (λ k. get_or run (at + limits_from + k) 0) limit_count ≡ f.limits
  limits_back = sym (table_ext (λ k. get_or run (at + limits_from + k) 0) limit_count 0 f.limits full limit_back)

  pub fund_back : fund_at run at ≡ f
  unfolding fund_at fund_numbers
  fund_back = rw (first, there 1, there 2, there 3, cash_back, limits_back)

-- Components, and zeros behind them.

zero_at : (n k : ℕ) → ◌≡◌ {A = ℕ} (get_or (replicate n 0) k 0) 0
zero_at zero k = refl
zero_at (suc n) zero = refl
zero_at (suc n) (suc k) = zero_at n k

padded_at : (xs : List ℕ) (n k : ℕ) → ◌≡◌ {A = ℕ} (get_or (xs ++ replicate n 0) k 0) (get_or xs k 0)
padded_at [] n k = zero_at n k
padded_at (x ∷ xs) n zero = refl
padded_at (x ∷ xs) n (suc k) = padded_at xs n k

-- a component of the padded run
pub padded_component : (xs : List ℕ) (n i : ℕ) → component_at (xs ++ replicate n 0) i ≡ component_at xs i
unfolding component_at
padded_component xs n i =
    let at = padded_at xs n in
    rw (at (component_width * i), at (component_width * i + 1), at (component_width * i + 2), at (component_width * i + 3), at (component_width * i + 4), at (component_width * i + 5))

-- a component behind the last is blank
past_component : (xs : List ℕ) (i : ℕ) → length xs ≤ component_width * i → component_at xs i ≡ blank
unfolding component_at
past_component xs i h =
    let none : (k : ℕ) → get_or xs (component_width * i + k) 0 ≡ 0 = λ k. get_or-eq_default xs 0 (omega arith) in
    let code = ap (λ (k : ℕ). get_or xs k 0) (sym (add-zero (component_width * i))) ∙ none 0 in
    rw (code, none 1, none 2, none 3, none 4, none 5)

-- The day.

module _ (accounts count : ℕ) (f : Fund) (numbers components : List ℕ) (most : count ≤ most_components) (table : length numbers ≡ table_width)
    (size : length components ≡ component_width * count) where
  abbrev run : List ℕ
  run = day_numbers accounts count f numbers components

  abbrev padded : List ℕ
  padded = components ++ replicate (basket_width - length components) 0

  abbrev head : List ℕ
  head = accounts ∷ count ∷ fund_numbers f

  numbers_are : table_numbers_at run ≡ numbers
  unfolding table_numbers_at day_numbers
  numbers_are =
      ap (take table_width) (drop_at head (numbers ++ padded) table_from (omega (arith, fund-length f)))
      ∙ take_at numbers padded table_width table

  basket_is : basket_at run ≡ padded
  unfolding basket_at day_numbers
  basket_is = ap (drop basket_from) (sym (append_assoc head numbers padded)) ∙ drop_at (head ++ numbers) padded basket_from (rw length-append (omega (arith, fund-length f, table)))

  place_is : (i : ℕ) → Dec (i < count) → cond (ltb i most_components) (component_at padded i) blank ≡ cond (ltb i count) (component_at components i) blank
  place_is i (yes l) = rw (lt-ltb i most_components (omega arith), lt-ltb i count l) (padded_component components (basket_width - length components) i)
  place_is i (no l) = rw (le-ltb i count (omega arith)) (go (ltb i most_components))
    where
      go : (b : Bool) → cond b (component_at padded i) blank ≡ blank
      go true = padded_component components (basket_width - length components) i ∙ past_component components i (omega arith)
      go false = refl

  places_are : places_of (component_at padded) most_components ≡ places_of (component_at components) count
  unfolding places_of
  places_are =
      table_ext _ most_components blank _ (table_length _ most_components)
      (λ i h. table_at _ most_components i blank h ∙ place_is i (dec_lt i count))

  -- the day that an opening stores is read back
  pub day_back : length f.limits ≡ limit_count → nat_abs f.estimated_cash ≤ cap
      → day_at run ≡ record { accounts = accounts; count = count; fund = f; table = table_of numbers; components = places_of (component_at components) count }
  unfolding day_head_at day_numbers
  day_back limits small =
      sym (day_parts run (day-length accounts count f numbers components (omega arith) table))
      ∙ rw (numbers_are, basket_is, places_are, fund_back run fund_from f (numbers ++ padded) refl limits small)
