-- `sound::book_fits` meets its contract: the book's totals fit just where they do as far as 2^62.
use Rattle.std.proofs.Common.{◌≡◌, ℕ, ◌<◌, min, List, get_or, ◌∙◌}
use Rattle.sequences.proofs.Every.{same_test}
use Rattle.totals.specs.Totals.{top, number_at, total, capped_total}
use Rattle.totals.proofs.Sums.{capped_is}
use Rattle.layout.specs.Book.{width_of}
use Rattle.sound.specs.Parts.{totals_fit}
use Rattle.sound.proofs.Limits.{fits_true, fits_facts, capped_fits, fits_capped}
use Rattle.sound.proofs.book_fits.Goals as goal

-- t holds the totals of a book of n components as far as 2^62
module _ (b : List ℕ) (accounts n : ℕ) (t : List ℕ) (sums : (k : ℕ) → k < width_of n → get_or t k 0 ≡ capped_total b (width_of n) accounts k) where
  capped : (k : ℕ) → k < width_of n → get_or t k 0 ≡ min (total b (width_of n) accounts k) top
  capped k h = sums k h ∙ capped_is b (width_of n) accounts k

  same-fit : totals_fit n (number_at t) ≡ totals_fit n (total b (width_of n) accounts)
  unfolding number_at
  same-fit =
      same_test _ _
      (λ f. fits_true _ _ (fits_capped n _ (number_at t) capped (fits_facts n (number_at t) f)))
      (λ f. fits_true n (number_at t) (capped_fits n _ _ capped (fits_facts _ _ f)))

pub returns : goal.returns
returns c = c.totals_fit.ensures ∙ same-fit _ _ _ c.fill.new.totals (rw c.requires.2 at c.fill.ensures)
