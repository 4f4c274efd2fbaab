-- A fund in a run.
use Rattle.std.specs.Prelude.{ℕ, ◌+◌, cond, List, [], ◌∷◌, ◌++◌, eqb, ℤ, pos, get_or, replicate}
use Rattle.sequences.specs.Below.{tabulate}
use Rattle.digits.specs.Digits.{capped}
use Rattle.digits.specs.Signed.{signed_of, figure_signed}
use Rattle.layout.specs.declared.Fund.{Fund}
use Rattle.layout.specs.Places.{limit_count, cash_place, limits_from}

-- a signed number is two: 1 where it is below zero, and its size, of which no more than 10^18 is read
unfoldable pub signed_at : List ℕ → ℕ → ℤ
signed_at run at = signed_of (record { negative = eqb (get_or run at 0) 1; size = capped (get_or run (at + 1) 0) })

unfoldable pub signed_numbers : ℤ → List ℕ
signed_numbers e = cond (figure_signed e).negative 1 0 ∷ (figure_signed e).size ∷ []

-- the fund whose numbers start at a place, and a fund's numbers
unfoldable pub fund_at : List ℕ → ℕ → Fund
fund_at run at =
    record {
      first_code = get_or run at 0;
      basket_size = get_or run (at + 1) 0;
      max_cash_ratio = record { 0 = get_or run (at + 2) 0 };
      switch = get_or run (at + 3) 0;
      estimated_cash = signed_at run (at + cash_place);
      limits = tabulate (λ k. get_or run (at + limits_from + k) 0) limit_count;
    }

unfoldable pub fund_numbers : Fund → List ℕ
fund_numbers f =
    f.first_code ∷ f.basket_size ∷ f.max_cash_ratio.0 ∷ f.switch ∷ (signed_numbers f.estimated_cash ++ tabulate (λ k. get_or f.limits k 0) limit_count)

abbrev pub blank_fund : Fund
blank_fund =
    record {
      first_code = 0;
      basket_size = 0;
      max_cash_ratio = record { 0 = 0 };
      switch = 0;
      estimated_cash = pos 0;
      limits = replicate limit_count 0;
    }
