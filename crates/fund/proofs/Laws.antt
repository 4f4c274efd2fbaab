-- What the tests of refusals 2 and 3 say of a fund and of its components.
use mathlib.Core.Path.{◌≡◌, refl, sym, ap, ◌∙◌, subst}
use mathlib.Core.Bool.{Bool, true, false, not, ◌||◌, false≢true, true≢false}
use mathlib.Core.List.{List, [], ◌∷◌}
use mathlib.Core.Logic.{◌⊎◌, ⊎_elim, inl, inr}
use Rattle.std.specs.Prelude.{Some, None}
use Prim.Native.Nat.{ℕ, zero, suc, ◌+◌, ◌%◌, ◌≤◌, ◌<◌}
use native.Mathlib.Nat.{not-suc-le-zero, eq-or-lt_of_le, le_of_suc-le-suc}
use native.Mathlib.Numerals.{add-one}
use native.Mathlib.Decide.{dec_lt}
use native.Mathlib.Omega.{arith}
use lib.Dec.{ltb}
use lib.IntN.{ℤ, pos, negsuc, nat_abs}
use lib.Signed.{mag}
use lib.ListN.{length, get_or, get_or-eq_default}
use borrow.Author.Tests.{le-ltb, leb-true, ltb-true, eqb-true, not-false}
use Rattle.sequences.specs.Every.{every}
use Rattle.sequences.proofs.Below.{all_at, first_all}
use Rattle.sequences.proofs.Every.{every_at, false_of, inside_facts}
use Rattle.flags.specs.Table.{FlagTable, entry, rate_used, amount_used, in_use}
use Rattle.digits.specs.Digits.{cap}
use Rattle.layout.specs.Places.{limit_count}
use Rattle.layout.specs.declared.Fund.{Fund}
use Rattle.layout.specs.declared.Component.{Component}
use Rattle.fund.specs.Fund.{ceiling, cash_in_range, limit_in_range, limits_in_range, fund_in_range}
use Rattle.layout.specs.Components.{blank}
use Rattle.fund.specs.Components.{outside_group, zero_unless, used_within, most_rate, most_amount, component_in_range, above_code, fits, code_before, fault_at, component_fault}

-- Estimated cash.

-- estimated cash in its range has at most ten digits
pub cash_small : (e : ℤ) → cash_in_range e ≡ true → mag e ≤ 9_999_999_999
unfolding cash_in_range
cash_small (pos n) t = leb-true n 9_999_999_999 t
cash_small (negsuc n) t = omega (arith, ltb-true n 999_999_999 t)

-- so it is stored in a run as it is
pub cash_size : (e : ℤ) → cash_in_range e ≡ true → nat_abs e ≤ cap
cash_size (pos n) h = omega (arith, cash_small (pos n) h)
cash_size (negsuc n) h = omega (arith, cash_small (negsuc n) h)

-- The fund.

pub record FundRanges (f : Fund) : Type 0 where
  pub first_code : f.first_code ≤ 999_994
  pub size_low : 1 ≤ f.basket_size
  pub size_high : f.basket_size ≤ 99_999_999
  pub ratio : f.max_cash_ratio.0 ≤ 100_000
  pub switch : f.switch ≤ 3
  pub cash : cash_in_range f.estimated_cash ≡ true
  pub limits : limits_in_range f.basket_size f.limits ≡ true

module _ (f : Fund) where
  pub fund_sound : fund_in_range f ≡ true → FundRanges f
  unfolding fund_in_range
  fund_sound e =
      let at = every_at _ e in
      let size = inside_facts 1 99_999_999 f.basket_size (at 1) in
      record {
        first_code = leb-true _ _ (at 0);
        size_low = size.0;
        size_high = size.1;
        ratio = leb-true _ _ (at 2);
        switch = leb-true _ _ (at 3);
        cash = at 4;
        limits = at 5;
      }

-- a limit is at most the ceiling and a multiple of the basket size
pub limit_facts : (size limit : ℕ) → limit_in_range size limit ≡ true → (limit ≤ ceiling) × (limit % size ≡ 0)
unfolding limit_in_range
limit_facts size limit e =
    let at = every_at _ e in
    (leb-true _ _ (at 0), eqb-true _ _ (at 1))

pub fund_limits : (f : Fund) → FundRanges f → (k : ℕ) → k < limit_count → (get_or f.limits k 0 ≤ ceiling) × (get_or f.limits k 0 % f.basket_size ≡ 0)
unfolding limits_in_range
fund_limits f r k l = limit_facts f.basket_size (get_or f.limits k 0) (all_at (λ i. limit_in_range f.basket_size (get_or f.limits i 0)) limit_count r.limits k l)

-- One component.

pub outside_facts : (g code : ℕ) → outside_group g code ≡ true → (code < g) ⊎ (g + 5 < code)
unfolding outside_group
outside_facts g code e = case (ltb code g) refl e
  where
    case : (b : Bool) → ltb code g ≡ b → (b || ltb (g + 5) code) ≡ true → (code < g) ⊎ (g + 5 < code)
    case true p e = inl (ltb-true _ _ p)
    case false p e = inr (ltb-true _ _ e)

-- no code of the fund's group
pub outside_codes : (g code : ℕ) → outside_group g code ≡ true → (k : ℕ) → k ≤ 5 → code ≡ g + k → ⊥
outside_codes g code e k h q = ⊎_elim (λ l. omega arith) (λ l. omega arith) (outside_facts g code e)

-- what is not used is 0
pub unused_zero : (used : Bool) (x : ℕ) → zero_unless used x ≡ true → used ≡ false → x ≡ 0
unfolding zero_unless
unused_zero true x e u = absurd (true≢false u)
unused_zero false x e u = eqb-true x 0 e

-- a rate or an amount: at most so much, and its use
pub within_facts : (most : ℕ) (used : Bool) (x : ℕ) → used_within most used x ≡ true → (x ≤ most) × (zero_unless used x ≡ true)
unfolding used_within
within_facts most used x e =
    let at = every_at _ e in
    (leb-true _ _ (at 0), at 1)

pub record ComponentRanges (t : FlagTable) (g : ℕ) (c : Component) : Type 0 where
  pub code : c.code ≤ 999_999
  pub outside : outside_group g c.code ≡ true
  pub quantity : c.quantity ≤ 99_999_999
  pub flag : entry t c.flag in_use ≡ true
  pub premium : c.premium.0 ≤ most_rate
  pub discount : c.discount.0 ≤ most_rate
  pub amount : c.amount.0 ≤ most_amount
  pub premium_use : zero_unless (entry t c.flag rate_used) c.premium.0 ≡ true
  pub discount_use : zero_unless (entry t c.flag rate_used) c.discount.0 ≡ true
  pub amount_use : zero_unless (entry t c.flag amount_used) c.amount.0 ≡ true

module _ (t : FlagTable) (g : ℕ) (c : Component) where
  pub component_sound : component_in_range t g c ≡ true → ComponentRanges t g c
  unfolding component_in_range
  component_sound e =
      let at = every_at _ e in
      let premium = within_facts most_rate _ _ (at 4) in
      let discount = within_facts most_rate _ _ (at 5) in
      let amount = within_facts most_amount _ _ (at 6) in
      record {
        code = leb-true _ _ (at 0);
        outside = at 1;
        quantity = leb-true _ _ (at 2);
        flag = at 3;
        premium = premium.0;
        discount = discount.0;
        amount = amount.0;
        premium_use = premium.1;
        discount_use = discount.1;
        amount_use = amount.1;
      }

-- The components.

pub before_none : (cs : List Component) → code_before cs 0 ≡ None
unfolding code_before
before_none cs = refl

pub before_more : (cs : List Component) (i : ℕ) → code_before cs (i + 1) ≡ Some (get_or cs i blank).code
unfolding code_before
before_more cs i = rw (add-one, code_before)

-- the two tests of the i-th component
abbrev place : FlagTable → ℕ → List Component → ℕ → List Bool
place t g cs i = component_in_range t g (get_or cs i blank) ∷ above_code (code_before cs i) (get_or cs i blank).code ∷ []

-- behind the last place the components are at fault: the code there is above none
pub fault_past : (t : FlagTable) (g : ℕ) (cs : List Component) (i : ℕ) → 0 < i → length cs ≤ i → fault_at t g cs i ≡ true
unfolding fault_at fits above_code code_before
fault_past t g cs zero later past = absurd (omega arith)
fault_past t g cs (suc i) later past =
    let end : get_or cs (suc i) blank ≡ blank = get_or-eq_default cs blank past in
    let low : ltb (get_or cs i blank).code (get_or cs (suc i) blank).code ≡ false = simp (end, le-ltb (get_or cs i blank).code 0 (omega arith)) in
    ap not (false_of (every (place t g cs (suc i))) (λ e. false≢true (sym low ∙ every_at (place t g cs (suc i)) e 1)))

module _ (t : FlagTable) (g : ℕ) (cs : List Component) (n : ℕ) (none : component_fault t g cs n ≡ n) where
  fine : (k : ℕ) → k < n → every (place t g cs k) ≡ true
  unfolding component_fault fault_at fits
  fine k l = not-false _ (first_all (fault_at t g cs) n none k l)

  -- where no component is at fault, each is in its ranges
  pub components_fine : (k : ℕ) → k < n → ComponentRanges t g (get_or cs k blank)
  components_fine k l = component_sound t g (get_or cs k blank) (every_at _ (fine k l) 0)

  -- no more components than there is room for
  pub count_fits : 0 < length cs → n ≤ length cs
  unfolding component_fault
  count_fits some = case (dec_lt (length cs) n)
    where
      case : Dec (length cs < n) → n ≤ length cs
      case (yes l) = absurd (false≢true (sym (first_all (fault_at t g cs) n none (length cs) l) ∙ fault_past t g cs (length cs) some (omega arith)))
      case (no l) = omega arith

  next_above : (j : ℕ) → suc j < n → (get_or cs j blank).code < (get_or cs (suc j) blank).code
  unfolding above_code code_before
  next_above j l = ltb-true _ _ (every_at _ (fine (suc j) l) 1)

  -- and the codes rise strictly
  pub codes_rise : (i j : ℕ) → i < j → j < n → (get_or cs i blank).code < (get_or cs j blank).code
  codes_rise i zero h l = absurd (not-suc-le-zero h)
  codes_rise i (suc j) h l =
      ⊎_elim
      (λ e. subst (λ (k : ℕ). (get_or cs k blank).code < (get_or cs (suc j) blank).code) (sym e) (next_above j l))
      (λ m. omega (arith, codes_rise i j m (omega arith), next_above j l))
      (eq-or-lt_of_le (le_of_suc-le-suc h))

  -- so no two components have one code
  pub codes_differ : (i j : ℕ) → i < n → j < n → (i ≡ j → ⊥) → (get_or cs i blank).code ≡ (get_or cs j blank).code → ⊥
  codes_differ i j hi hj two same = case (dec_lt i j)
    where
      case : Dec (i < j) → ⊥
      case (yes l) = omega (arith, codes_rise i j l hj)
      case (no l) = omega (arith, codes_rise j i (omega arith) hi)
