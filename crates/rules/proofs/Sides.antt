-- What the two sides of a trade and of an order make of an account's stretch.
use mathlib.Core.Path.{◌≡◌, refl, ap, ◌∙◌}
use mathlib.Core.Logic.{◌≢◌}
use mathlib.Core.List.{List}
use Prim.Native.Nat.{ℕ, ◌+◌, ◌≤◌, ◌<◌}
use native.Mathlib.Omega.{arith}
use Rattle.std.proofs.Common.{lit<}
use lib.ListN.{length}
use Rattle.lots.specs.declared.Lots.{Lots}
use Rattle.layout.specs.Places.{lines_from}
use Rattle.layout.specs.Book.{cash, head_at, put_head, lots_at, on_line, each_line, line_from, behind_line, counter}
use Rattle.rules.specs.declared.Kind.{Kind}
use Rattle.rules.specs.declared.Kind.TheVariants.{Creation, Redemption}
use Rattle.rules.specs.Orders.{number_of, kind_at, account_side, fund_side}
use Rattle.layout.proofs.Account.{put-head-length, head-put-same, head-put-other, lots-put-head, on_length, head_on, on_other, on_same, each-length, head_each, each_later, each_at}

-- one line changed by f, and cash set to c: a side of a trade
module _ (f : Lots → Lots) (line c : ℕ) (s : List ℕ) where
  abbrev side : List ℕ
  side = put_head cash c (on_line f line s)

  pub side-length : length side ≡ length s
  side-length = put-head-length cash c (on_line f line s) ∙ on_length f line s

  pub side_cash : behind_line line ≤ length s → head_at side cash ≡ c
  side_cash h = head-put-same cash c (on_line f line s) (omega (arith, on_length f line s))

  pub side_counter : (k : ℕ) → 0 < k → k < lines_from → head_at side k ≡ head_at s k
  side_counter k h g = head-put-other cash c (on_line f line s) k (omega arith) ∙ head_on f line s k g

  pub side_line : behind_line line ≤ length s → lots_at side line ≡ f (lots_at s line)
  side_line h = lots-put-head cash c (on_line f line s) (omega arith) line ∙ on_same f line s h

  pub side_other : (l : ℕ) → l ≢ line → lots_at side l ≡ lots_at s l
  side_other l n = lots-put-head cash c (on_line f line s) (omega arith) l ∙ on_other f line s l n

-- a kind's number is 0 or 1
pub number-below : (kind : Kind) → number_of kind < 2
number-below Creation = lit< tt
number-below Redemption = lit< tt

-- and that number gives the kind again
pub kind_back : (kind : Kind) → kind_at (number_of kind) ≡ kind
kind_back Creation = refl
kind_back Redemption = refl

-- the account's side of an order of n components
module _ (n : ℕ) (kind : Kind) (units : ℕ) (f : ℕ → Lots → Lots) (g : Lots → Lots) (c : ℕ) (s : List ℕ) where
  abbrev lined : List ℕ
  lined = on_line g n (each_line f n s)

  lined-length : length lined ≡ length s
  lined-length = on_length g n (each_line f n s) ∙ each-length f n s

  lined_head : (k : ℕ) → k < lines_from → head_at lined k ≡ head_at s k
  lined_head k h = head_on g n (each_line f n s) k h ∙ head_each f n s k h

  pub account-length : length (account_side n kind units f g c s) ≡ length s
  unfolding account_side
  account-length =
      put-head-length (counter (number_of kind)) (head_at s (counter (number_of kind)) + units) (put_head cash c lined)
      ∙ put-head-length cash c lined
      ∙ lined-length

  pub account_cash_lem : behind_line n ≤ length s → head_at (account_side n kind units f g c s) cash ≡ c
  unfolding account_side
  account_cash_lem h =
      head-put-other (counter (number_of kind)) (head_at s (counter (number_of kind)) + units) (put_head cash c lined) cash (omega arith)
      ∙ head-put-same cash c lined (omega (arith, lined-length))

  pub account_count : behind_line n ≤ length s → head_at (account_side n kind units f g c s) (counter (number_of kind)) ≡ head_at s (counter (number_of kind)) + units
  unfolding account_side
  account_count h =
      head-put-same (counter (number_of kind)) (head_at s (counter (number_of kind)) + units) (put_head cash c lined) (omega (arith, number-below kind, put-head-length cash c lined, lined-length))

  pub account_head : (k : ℕ) → 0 < k → k < lines_from → k ≢ counter (number_of kind) → head_at (account_side n kind units f g c s) k ≡ head_at s k
  unfolding account_side
  account_head k p q r =
      head-put-other (counter (number_of kind)) (head_at s (counter (number_of kind)) + units) (put_head cash c lined) k r
      ∙ head-put-other cash c lined k (omega arith)
      ∙ lined_head k q

  account_lots : (l : ℕ) → lots_at (account_side n kind units f g c s) l ≡ lots_at lined l
  unfolding account_side
  account_lots l =
      lots-put-head (counter (number_of kind)) (head_at s (counter (number_of kind)) + units) (put_head cash c lined) (omega (arith, number-below kind)) l
      ∙ lots-put-head cash c lined (omega arith) l

  pub account_line : behind_line n ≤ length s → (l : ℕ) → l < n → lots_at (account_side n kind units f g c s) l ≡ f l (lots_at s l)
  account_line h l q =
      account_lots l
      ∙ on_other g n (each_line f n s) l (omega arith)
      ∙ each_at f n s l (omega arith) q

  pub account_unit : behind_line n ≤ length s → lots_at (account_side n kind units f g c s) n ≡ g (lots_at s n)
  account_unit h =
      account_lots n
      ∙ on_same g n (each_line f n s) (omega (arith, each-length f n s))
      ∙ ap g (each_later f n s n (omega arith))

-- the fund's side of an order of n components
module _ (n : ℕ) (f : ℕ → Lots → Lots) (c : ℕ) (s : List ℕ) where
  pub fund-length : length (fund_side n f c s) ≡ length s
  unfolding fund_side
  fund-length = put-head-length cash c (each_line f n s) ∙ each-length f n s

  pub fund_cash_lem : 0 < length s → head_at (fund_side n f c s) cash ≡ c
  unfolding fund_side
  fund_cash_lem h = head-put-same cash c (each_line f n s) (omega (arith, each-length f n s))

  pub fund_head : (k : ℕ) → 0 < k → k < lines_from → head_at (fund_side n f c s) k ≡ head_at s k
  unfolding fund_side
  fund_head k p q = head-put-other cash c (each_line f n s) k (omega arith) ∙ head_each f n s k q

  pub fund_line : line_from n ≤ length s → (l : ℕ) → l < n → lots_at (fund_side n f c s) l ≡ f l (lots_at s l)
  unfolding fund_side
  fund_line h l q = lots-put-head cash c (each_line f n s) (omega arith) l ∙ each_at f n s l h q

  pub fund_unit : lots_at (fund_side n f c s) n ≡ lots_at s n
  unfolding fund_side
  fund_unit = lots-put-head cash c (each_line f n s) (omega arith) n ∙ each_later f n s n (omega arith)
