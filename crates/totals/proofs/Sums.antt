-- The totals over the rows: those of the first a rows, each below 2^62, and what one or eight rows more make of them.
use Rattle.std.proofs.Common.{◌≡◌, ℕ, zero, suc, ◌+◌, ◌*◌, ◌%◌, ◌^◌, ◌<◌, ◌≤◌, min, Bool, true, false, List, length, get_or, sym, refl, ap, ◌∙◌}
use Rattle.std.proofs.Common.{add-zero, lt-suc_self, arith, leb-false}
use mathlib.Core.Bool.{false≢true}
use native.Mathlib.Nat.{le_step}
use borrow.Author.Tests.{lt-leb}
use Rattle.sequences.specs.Below.{sum_below, any_below}
use Rattle.std.proofs.lemmas.Bool.{or_from, false_from_ne_true, true_from_ne_false}
use Rattle.sequences.proofs.Below.{sum_none, sum_more, sum_same, sum_grows, any_here}
use Rattle.sequences.proofs.Stretch.{within}
use Rattle.totals.specs.Totals.{top, quick_most, plus_row, plus_block, reaches, place_at, total, capped_total, Low}

-- none passes
any_off : (f : ℕ → Bool) (n : ℕ) → any_below f n ≡ false → (k : ℕ) → k < n → f k ≡ false
any_off f n e k l = false_from_ne_true _ (λ q. false≢true (sym e ∙ any_here f n k l q))

off_any : (f : ℕ → Bool) (n : ℕ) → ((k : ℕ) → k < n → f k ≡ false) → any_below f n ≡ false
unfolding any_below
off_any f zero e = refl
off_any f (suc n) e = or_from _ _ (off_any f n (λ k h. e k (le_step h))) (e n (lt-suc_self n))

-- no total reaches 2^62
module _ (f : ℕ → ℕ) (w : ℕ) where
  pub none_reaches : any_below (reaches f) w ≡ false → (k : ℕ) → k < w → f k < top
  unfolding reaches
  none_reaches e k h = leb-false top (f k) (any_off (reaches f) w e k h)

  pub reaches_none : ((k : ℕ) → k < w → f k < top) → any_below (reaches f) w ≡ false
  unfolding reaches
  reaches_none low = off_any (reaches f) w (λ k h. lt-leb top (f k) (low k h))

  -- where one does, not all are below
  pub some_reaches : any_below (reaches f) w ≡ true → ((k : ℕ) → k < w → f k < top) → ⊥
  some_reaches e low = false≢true (sym (reaches_none low) ∙ e)

-- Sums over more rows.

pub total_none : (b : List ℕ) (w k : ℕ) → total b w 0 k ≡ 0
unfolding total
total_none b w k = sum_none (place_at b w k)

pub total_more : (b : List ℕ) (w a k : ℕ) → total b w (a + 1) k ≡ total b w a k + get_or b (a * w + k) 0
unfolding total place_at
total_more b w a k = sum_more _ a

pub total_grows : (b : List ℕ) (w a n k : ℕ) → a ≤ n → total b w a k ≤ total b w n k
unfolding total
total_grows b w a n k h = sum_grows (place_at b w k) a n h

-- a row more: x has its numbers
pub total_row : (b x : List ℕ) (w a : ℕ) → ((k : ℕ) → k < w → get_or x k 0 ≡ get_or b (a * w + k) 0) → (k : ℕ) → k < w
    → total b w (a + 1) k ≡ total b w a k + get_or x k 0
total_row b x w a same k h = omega (arith, total_more b w a k, same k h)

-- the summands of a sum from the m-th on
sum_on : (f : ℕ → ℕ) (m d : ℕ) → sum_below f (m + d) ≡ sum_below f m + sum_below (λ i. f (m + i)) d
sum_on f m zero = rw (add-zero, sum_none) (sym (add-zero _))
sum_on f m (suc d) =
    let e : m + suc d ≡ m + d + 1 = omega arith in
    let g : suc d ≡ d + 1 = omega arith in
    omega (arith, sum_on f m d, ap (sum_below f) e, sum_more f (m + d), ap (sum_below (λ i. f (m + i))) g, sum_more (λ i. f (m + i)) d)

-- eight rows more: the block x has their numbers
pub total_block : (b x : List ℕ) (w i : ℕ) → ((k : ℕ) → k < 8 * w → get_or x k 0 ≡ get_or b (i * (8 * w) + k) 0) → (k : ℕ) → k < w
    → total b w (i * 8 + 8) k ≡ total b w (i * 8) k + total x w 8 k
unfolding total place_at
total_block b x w i same k h =
    sum_on (λ a. get_or b (a * w + k) 0) (i * 8) 8
    ∙ ap (λ (n : ℕ). sum_below (λ a. get_or b (a * w + k) 0) (i * 8) + n)
    (sum_same (λ a. get_or b ((i * 8 + a) * w + k) 0) (λ a. get_or x (a * w + k) 0) 8
    (λ a l.
    let at : (i * 8 + a) * w + k ≡ i * (8 * w) + (a * w + k) = omega arith in
    ap (λ (n : ℕ). get_or b n 0) at ∙ sym (same (a * w + k) (omega (arith, within w a 8 l)))))

-- t holds the totals of the first a rows, each below 2^62
pub record Counted (t b : List ℕ) (w a : ℕ) : Type 0 where
  pub same : (k : ℕ) → k < w → get_or t k 0 ≡ total b w a k
  pub low : (k : ℕ) → k < w → total b w a k < top

pub counted_none : (t b : List ℕ) (w : ℕ) → ((k : ℕ) → k < w → get_or t k 0 ≡ 0) → Counted t b w 0
counted_none t b w z =
    record {
      same = λ k h. z k h ∙ sym (total_none b w k);
      low = λ k h. omega (arith, total_none b w k);
    }

pub counted_low : {t b : List ℕ} {w a : ℕ} → Counted t b w a → Low w t
counted_low q k h = omega (arith, q.same k h, q.low k h)

-- no total reaches 2^62
pub counted_fine : {t b : List ℕ} {w a : ℕ} → Counted t b w a → any_below (reaches (total b w a)) w ≡ false
counted_fine {t} {b} {w} {a} q = reaches_none (total b w a) w q.low

-- F are the totals of the first c rows
module _ (b : List ℕ) (w c : ℕ) (F : ℕ → ℕ) (same : (k : ℕ) → k < w → F k ≡ total b w c k) where
  -- t became F, wrapped
  counted_next : (t : List ℕ) → any_below (reaches F) w ≡ false → ((k : ℕ) → k < w → get_or t k 0 ≡ F k % 2 ^ 64) → Counted t b w c
  counted_next t off got =
      let low = none_reaches F w off in
      record {
        same = λ k h. omega (arith, low k h, got k h, same k h);
        low = λ k h. omega (arith, low k h, same k h);
      }

  -- one reaches 2^62: so does one of more rows
  reached : (n : ℕ) → c ≤ n → any_below (reaches F) w ≡ true → any_below (reaches (total b w n)) w ≡ true
  reached n le on =
      true_from_ne_false _ (λ q. some_reaches F w on (λ k h. omega (arith, same k h, total_grows b w c n k le, none_reaches (total b w n) w q k h)))

-- one row more, x, of n numbers
module _ {t b : List ℕ} {w a : ℕ} (q : Counted t b w a) (x : List ℕ) (n : ℕ) (long : n ≡ w) (row : (k : ℕ) → k < w → get_or x k 0 ≡ get_or b (a * w + k) 0) where
  plus : (k : ℕ) → k < w → plus_row t x k ≡ total b w (a + 1) k
  unfolding plus_row
  plus k h = omega (arith, q.same k h, total_row b x w a row k h)

  pub counted_row : (t' : List ℕ) → any_below (reaches (plus_row t x)) n ≡ false
      → ((k : ℕ) → k < n → get_or t' k 0 ≡ plus_row t x k % 2 ^ 64) → Counted t' b w (a + 1)
  counted_row t' off got = counted_next b w (a + 1) (plus_row t x) plus t' (rw long at off) (rw long at got)

  pub reached_row : (m : ℕ) → a + 1 ≤ m → any_below (reaches (plus_row t x)) n ≡ true → any_below (reaches (total b w m)) w ≡ true
  reached_row m le on = reached b w (a + 1) (plus_row t x) plus m le (rw long at on)

-- t holds the totals of the first a rows, wrapped, each at most that of a numbers below 2^56
pub record Quick (t b : List ℕ) (w a : ℕ) : Type 0 where
  pub same : (k : ℕ) → k < w → get_or t k 0 ≡ total b w a k % 2 ^ 64
  pub small : (k : ℕ) → k < w → total b w a k ≤ a * quick_most

pub quick_none : (t b : List ℕ) (w : ℕ) → ((k : ℕ) → k < w → get_or t k 0 ≡ 0) → Quick t b w 0
quick_none t b w z =
    record {
      same = λ k h. omega (arith, z k h, total_none b w k);
      small = λ k h. omega (arith, total_none b w k);
    }

module _ (i : ℕ) {t b : List ℕ} {w : ℕ} (q : Quick t b w (i * 8)) where
  -- eight rows more, the block x
  pub quick_block : (x t' : List ℕ) → length t ≡ w → ((k : ℕ) → k < 8 * w → get_or x k 0 ≡ get_or b (i * (8 * w) + k) 0)
      → ((k : ℕ) → k < length t → total x (length t) 8 k ≤ 8 * quick_most)
      → ((k : ℕ) → k < length t → get_or t' k 0 ≡ plus_block t x k % 2 ^ 64) → Quick t' b w ((i + 1) * 8)
  unfolding plus_block
  quick_block x t' long block low got =
      let low' = rw long at low in
      let got' = rw long at got in
      let more : (i + 1) * 8 ≡ i * 8 + 8 = omega arith in
      record {
        same = λ k l. rw more (omega (arith, got' k l, q.same k l, total_block b x w i block k l));
        small = λ k l. rw more (omega (arith, q.small k l, low' k l, total_block b x w i block k l));
      }

-- of at most 64 rows: no total reached 2^62, so none wrapped
pub quick_end : {t b : List ℕ} {w a : ℕ} → Quick t b w a → a ≤ 64 → Counted t b w a
quick_end {t} {b} {w} {a} q l =
    let low : (k : ℕ) → k < w → total b w a k < top = λ k i. omega (arith, q.small k i, l) in
    record {
      same = λ k i. omega (arith, q.same k i, low k i);
      low = low;
    }

-- Totals as far as 2^62.

-- where none reaches it
pub counted_all : (t b : List ℕ) (w n : ℕ) → any_below (reaches (total b w n)) w ≡ false → ((k : ℕ) → k < w → get_or t k 0 ≡ total b w n k) → Counted t b w n
counted_all t b w n off same = record { same = same; low = none_reaches (total b w n) w off }

pub capped_none : (b : List ℕ) (w k : ℕ) → capped_total b w 0 k ≡ 0
unfolding capped_total
capped_none b w k = omega (arith, total_none b w k)

pub capped_more : (b : List ℕ) (w a k : ℕ) → capped_total b w (a + 1) k ≡ min (capped_total b w a k + get_or b (a * w + k) 0) top
unfolding capped_total
capped_more b w a k = omega (arith, total_more b w a k)

pub capped_le : (b : List ℕ) (w a k : ℕ) → capped_total b w a k ≤ top
unfolding capped_total
capped_le b w a k = omega arith

pub capped_whole : (b : List ℕ) (w a k : ℕ) → capped_total b w a k ≡ capped_total b w a k % 2 ^ 64
capped_whole b w a k = omega (arith, capped_le b w a k)

pub capped_is : (b : List ℕ) (w a k : ℕ) → capped_total b w a k ≡ min (total b w a k) top
unfolding capped_total
capped_is b w a k = refl

-- totals that do not reach 2^62 are what they are as far as that
pub counted_capped : {t b : List ℕ} {w a : ℕ} → Counted t b w a → (k : ℕ) → k < w → get_or t k 0 ≡ capped_total b w a k
unfolding capped_total
counted_capped q k h = omega (arith, q.same k h, q.low k h)
