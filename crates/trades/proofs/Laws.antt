-- What an accepted price and an accepted trade have passed, and what a sound day gives them.
use mathlib.Core.Path.{◌≡◌, refl, sym}
use mathlib.Core.Bool.{true}
use mathlib.Core.List.{List}
use Prim.Native.Nat.{ℕ, ◌+◌, ◌*◌, ◌≤◌, ◌<◌}
use native.Mathlib.Nat.{mul-le-mul}
use native.Mathlib.Omega.{arith}
use lib.ListN.{length}
use borrow.Author.Tests.{leb-false, ltb-false, eqb-false, not-false}
use Rattle.sequences.specs.Every.{inside}
use Rattle.sequences.specs.Checks.{reply, answered}
use Rattle.sequences.proofs.Every.{inside_facts}
use Rattle.sequences.proofs.Checks.{all_passed}
use Rattle.sequences.proofs.Stretch.{within}
use Rattle.layout.specs.Day.{Day}
use Rattle.layout.specs.Book.{cash, width_of}
use Rattle.rules.specs.Sound.{most_price}
use Rattle.rules.specs.Price.{price_checks}
use Rattle.rules.specs.Trade.{trade_checks, trade_means}
use Rattle.rules.proofs.Accepted.{investor_facts}
use Rattle.rules.proofs.SoundDay.{SoundDay}
use Rattle.rules.proofs.SoundAccount.{head_part, account_line_most}
use Rattle.rules.proofs.Replies.{is_accepted_lem}
use Rattle.book.specs.Ready.{Tradable}
use Rattle.trades.specs.Fits.{BookFits}

-- an accepted price has its component
pub priced_line : (n line p : ℕ) → reply 0 0 0 ≡ answered (price_checks n line p) 0 → line < n
unfolding price_checks
priced_line n line p e = leb-false _ _ (all_passed (price_checks n line p) _ tt (is_accepted_lem _ _ refl e)).0

-- an account's place in a book that fits
pub in_book : {d : Day} {b : List ℕ} → BookFits d b → (a : ℕ) → a < d.accounts → a * width_of d.count + width_of d.count ≤ length b
in_book {d} f a h = rw f.size (within (width_of d.count) a d.accounts h)

-- the amount of a trade fits 64 bits
pub amount_fits : (q p : ℕ) → inside 1 999_999_999 q ≡ true → inside 1 most_price p ≡ true → q * p ≤ 9_999_998_990_000_001
amount_fits q p e f = mul-le-mul {m₂ = 9_999_999} (inside_facts 1 999_999_999 q e).1 (inside_facts 1 most_price p f).1

-- an accepted trade can be moved
pub tradable : (d : Day) (b : List ℕ) (line q p seller buyer : ℕ) → BookFits d b → reply 0 0 0 ≡ answered (trade_checks d.accounts d.count b line q p seller buyer) 0
    → Tradable d.count b line q p seller buyer
unfolding trade_checks trade_means
tradable d b line q p seller buyer f e =
    let t = all_passed (trade_checks d.accounts d.count b line q p seller buyer) _ tt (is_accepted_lem _ _ refl e) in
    let line_in_lem : line ≤ d.count = ltb-false _ _ t.0 in
    let qs = inside_facts 1 999_999_999 q (not-false _ t.1.0) in
    let amount = amount_fits q p (not-false _ t.1.0) (not-false _ t.1.1.0) in
    let sells = investor_facts d.accounts seller f.accounts_low (not-false _ t.1.1.1.0) in
    let buys = investor_facts d.accounts buyer f.accounts_low (not-false _ t.1.1.1.1.0) in
    record {
      count_high = f.count_high;
      line_in_lem = line_in_lem;
      seller_in = in_book f seller sells.1;
      buyer_in = in_book f buyer buys.1;
      two = λ h. eqb-false seller buyer t.1.1.1.1.1.0 (sym h);
      stock = ltb-false _ _ t.1.1.1.1.1.1.0;
      lots_fit = omega (arith, f.lots buyer line buys.1 line_in_lem);
      money = ltb-false _ _ t.1.1.1.1.1.1.1.0;
      cash_fits = omega (arith, f.money seller sells.1);
    }

-- a sound day gives the fits: what one account has is at most the total
pub sound_fits : (d : Day) (b ps : List ℕ) → SoundDay d b ps → BookFits d b
sound_fits d b ps s =
    record {
      accounts_low = s.own.accounts_low;
      accounts_high = s.own.accounts_high;
      count_high = s.own.count_high;
      size = s.book.book_size;
      lots = λ a l h i. account_line_most s a h l i;
      money = λ a h. omega (arith, s.book.money, head_part d b a h cash);
    }
