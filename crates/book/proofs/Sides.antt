-- A book with the fund's stretch and an account's put in: each is read back, and the two are put in anew in either order.
use mathlib.Core.Path.{◌≡◌, sym, ap, ◌∙◌}
use mathlib.Core.List.{List, ◌++◌, append_assoc}
use Prim.Native.Nat.{ℕ, ◌+◌, ◌-◌, ◌*◌, ◌≤◌, ◌<◌}
use native.Mathlib.Nat.{zero-mul, add-sub_cancel_left}
use borrow.Rule.Slice.PartMut.{put_mid}
use native.Mathlib.Omega.{arith}
use lib.ListN.{length, length-set, take, drop, length-append, length-drop, take-append-drop}
use lib.Seq.{length-take-le, take_at, drop_at, drop-append-le}
use Rattle.sequences.specs.Stretch.{stretch_of, put_stretch, on_stretch}
use Rattle.sequences.proofs.Stretch.{within, put-length, put_back, put-again, stretch-put-same, stretch-put-other}
use Rattle.lots.specs.declared.Lots.{Lots}
use Rattle.layout.specs.Book.{put_lots}
use Rattle.book.specs.Moved.{with_sides}

-- g in the place of the first w of p, and s in the place of the first w of r, which stands behind p: in either order
parts_swap : (w k : ℕ) (p r g s : List ℕ) → w ≤ length p → length p ≡ k → length g ≡ w
    → g ++ drop w (p ++ (s ++ drop w r)) ≡ take k (g ++ drop w (p ++ r)) ++ (s ++ drop w (drop k (g ++ drop w (p ++ r))))
parts_swap w k p r g s h lp lg =
    let long : length (g ++ drop w p) ≡ k = rw (length-append, length-drop) (omega arith) in
    rw (drop-append-le w p (s ++ drop w r) h, drop-append-le w p r h, ← append_assoc g (drop w p) r, take_at (g ++ drop w p) r k long, drop_at (g ++ drop w p) r k long)
    (sym (append_assoc g (drop w p) (s ++ drop w r)))

-- the fund's stretch and account a's, put in in either order
pub sides_swap : (w a : ℕ) (b g s : List ℕ) → 0 < a → a * w + w ≤ length b → length g ≡ w
    → put_stretch w (put_stretch w b a s) 0 g ≡ with_sides w a g s b
unfolding put_stretch
sides_swap w a b g s low fits lg =
    let long : length (take (a * w) b) ≡ a * w = length-take-le (a * w) b (omega arith) in
    let wide : w ≤ length (take (a * w) b) = rw long (omega (arith, within w 0 a low)) in
    rw zero-mul (rw (take-append-drop (a * w) b) at (parts_swap w (a * w) (take (a * w) b) (drop (a * w) b) g s wide long lg))

module _ (w a : ℕ) (b : List ℕ) (low : 0 < a) (fits : a * w + w ≤ length b) where
  fund_in : 0 * w + w ≤ length b
  fund_in = omega arith

  module _ (f s : List ℕ) (lf : length f ≡ w) where
    mid_length : length (put_stretch w b 0 f) ≡ length b
    mid_length = put-length w b 0 f fund_in lf

    mid_in : a * w + w ≤ length (put_stretch w b 0 f)
    mid_in = rw mid_length fits

    module _ (ls : length s ≡ w) where
      pub sides_length : length (with_sides w a f s b) ≡ length b
      sides_length = put-length w (put_stretch w b 0 f) a s mid_in ls ∙ mid_length

      pub sides_account : stretch_of w (with_sides w a f s b) a ≡ s
      sides_account = stretch-put-same w (put_stretch w b 0 f) a s mid_in ls

      pub sides_fund : stretch_of w (with_sides w a f s b) 0 ≡ f
      sides_fund = stretch-put-other w (put_stretch w b 0 f) a 0 s (λ z. omega arith) mid_in ls ∙ stretch-put-same w b 0 f fund_in lf

      -- both put in twice
      pub sides_again : (g t : List ℕ) → length g ≡ w → with_sides w a g t (with_sides w a f s b) ≡ with_sides w a g t b
      sides_again g t lg =
          ap (λ (x : List ℕ). put_stretch w x a t) (sides_swap w a (put_stretch w b 0 f) g s low mid_in lg ∙ ap (λ (x : List ℕ). put_stretch w x a s) (put-again w b 0 f g fund_in lf))
          ∙ put-again w (put_stretch w b 0 g) a s t (rw (put-length w b 0 g fund_in lg) fits) ls

  pub sides_back : with_sides w a (stretch_of w b 0) (stretch_of w b a) b ≡ b
  sides_back = rw (put_back w b 0) (put_back w b a)

  -- a change of the fund's stretch leaves the account's as it is
  pub account_kept : (f : List ℕ) → length f ≡ w → stretch_of w (put_stretch w b 0 f) a ≡ stretch_of w b a
  account_kept f lf = stretch-put-other w b 0 a f (λ z. omega arith) fund_in lf

  -- the fund's stretch changed, and then the account's
  pub sides_by : (g h : List ℕ → List ℕ) → length (g (stretch_of w b 0)) ≡ w
      → on_stretch w a h (on_stretch w 0 g b) ≡ with_sides w a (g (stretch_of w b 0)) (h (stretch_of w b a)) b
  sides_by g h lg = ap (λ (s : List ℕ). with_sides w a (g (stretch_of w b 0)) (h s) b) (account_kept (g (stretch_of w b 0)) lg)

  -- a change of the account's stretch leaves the fund's as it is
  pub fund_kept : (s : List ℕ) → length s ≡ w → stretch_of w (put_stretch w b a s) 0 ≡ stretch_of w b 0
  fund_kept s ls = stretch-put-other w b a 0 s (λ z. omega arith) fits ls

-- The fund's stretch is the book's first, and an account's starts in the middle: the parts of the book as they are lent.

pub first_is : (w : ℕ) (b : List ℕ) → take w b ≡ stretch_of w b 0
unfolding stretch_of
first_is w b = rw zero-mul

pub first_put : (w : ℕ) (b s : List ℕ) → s ++ drop w b ≡ put_stretch w b 0 s
unfolding put_stretch
first_put w b s = rw zero-mul

pub middle_put : (w : ℕ) (b : List ℕ) (a : ℕ) (s : List ℕ) → put_mid (a * w) (a * w + w - a * w) b s ≡ put_stretch w b a s
unfolding put_stretch
middle_put w b a s = rw add-sub_cancel_left

-- lots stored leave a stretch as long as it was
pub put-lots-length : (s : List ℕ) (l : ℕ) (x : Lots) → length (put_lots s l x) ≡ length s
unfolding put_lots
put-lots-length s l x = simp length-set
