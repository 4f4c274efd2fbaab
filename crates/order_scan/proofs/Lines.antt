-- The scan of the lines below an index: none, one more, and the room for one more; and that it is what the rules say.
use mathlib.Core.Path.{◌≡◌, refl, sym}
use mathlib.Core.Bool.{Bool, true, false, ◌||◌, cond}
use mathlib.Core.List.{List}
use Prim.Native.Nat.{ℕ, zero, suc, ◌+◌, ◌*◌, ◌≤◌, ◌<◌}
use native.Mathlib.Nat.{le_refl, le_step, lt-suc_self, add-zero, zero-add, zero-mul}
use native.Mathlib.Numerals.{add-one}
use native.Mathlib.Omega.{arith}
use lib.Dec.{ltb, lit≤}
use borrow.Author.Tests.{lt-ltb, le-ltb, ltb-true, ltb-false}
use Rattle.std.specs.Prelude.{Option, Some, None, is_some}
use Rattle.std.specs.Bool.{then_some}
use Rattle.std.specs.Option.{option_or}
use lib.ListN.{get_or}
use Rattle.sequences.specs.Below.{sum_below, any_below, first_below, below}
use Rattle.sequences.proofs.Below.{sum_none, sum_more, sum_le, sum_zero, any_none, any_more, any_here, first_none, cond_le}
use Rattle.flags.specs.Table.{FlagTable}
use Rattle.layout.specs.Places.{most_components}
use Rattle.layout.specs.declared.Component.{Component}
use Rattle.layout.specs.Components.{blank}
use Rattle.layout.specs.Day.{Day}
use Rattle.rules.specs.Lines.{column, quantity, creation_rate, redemption_rate, creation_amount, redemption_amount, price_of}
use Rattle.rules.specs.Orders.{need, other_cash, shanghai_cash}
use Rattle.rules.specs.Creation.{handed_in, is_short, first_short, missing, missing_worth, is_missing, creation_cash}
use Rattle.rules.specs.Redemption.{delivered, redemption_cash, fund_lacks, first_lacking}
use Rattle.rules.specs.Kinds.{no_cash, moved_by, cash_by}
use Rattle.rules.specs.declared.CashByMarket.{CashByMarket}
use Rattle.rules.specs.declared.Kind.{Kind}
use Rattle.rules.specs.declared.Kind.TheVariants.{Creation, Redemption}
use Rattle.units.specs.declared.Money.{Money}
use Rattle.order_scan.specs.declared.Scan.{Scan}
use Rattle.order_lines.specs.Lines.{missing_of, worth_of, creation_line, redemption_line, order_line, money, worth_in, Effect}
use Rattle.order_scan.specs.Lines.{held_of, stock_count, with_missing, with_cash, with_line, no_lines}
use Rattle.order_scan.specs.Scans.{order_scan}
use Rattle.order_scan.specs.Ready.{Room}
use Rattle.order_lines.proofs.Laws.{Small, worth_in-le}

-- what is missing of the lines below an index is worth
abbrev missing_below : (ℕ → Option Money) → ℕ → Option Money
missing_below g n = then_some (any_below (λ i. is_some (g i)) n) (money (sum_below (λ i. worth_in (g i)) n))

-- no more cash
pub no_more : (c : CashByMarket) → c ≡ with_cash c no_cash
unfolding with_cash
no_more c = rw (add-zero c.shanghai.0, add-zero c.other.0)

-- the scan of the lines below an index
unfoldable pub scan_below : (ℕ → Effect) → ℕ → Scan
scan_below f n =
    record {
      short = below n (first_below (λ i. (f i).short) n);
      missing = missing_below (λ i. (f i).worth) n;
      cash = record { shanghai = money (sum_below (λ i. (f i).cash.shanghai.0) n); other = money (sum_below (λ i. (f i).cash.other.0) n) };
      stock_records = sum_below (λ i. stock_count (f i).moved) n;
    }

-- the first that passes of i + 1
first_next : (f : ℕ → Bool) (i : ℕ) → option_or (below i (first_below f i)) (then_some (f i) i) ≡ below (i + 1) (first_below f (i + 1))
unfolding first_below
first_next f i = rw (add-one, first_below) (go (ltb (first_below f i) i) refl (f i))
  where
    go : (b : Bool) → ltb (first_below f i) i ≡ b → (t : Bool)
        → option_or (cond b (Some (first_below f i)) None) (then_some t i) ≡ below (suc i) (cond b (first_below f i) (cond t i (suc i)))
    go true e t = rw (lt-ltb (first_below f i) (suc i) (le_step (ltb-true _ _ e)))
    go false e true = rw (lt-ltb i (suc i) (lt-suc_self i))
    go false e false = rw (le-ltb (suc i) (suc i) (le_refl _))

-- where nothing is missing it is worth nothing
not_any : (f : ℕ → Bool) (n : ℕ) → any_below f n ≡ false → (k : ℕ) → k < n → f k ≡ false
not_any f n e k l = go (f k) refl
  where
    go : (b : Bool) → f k ≡ b → b ≡ false
    go true q = absurd (cc (any_here f n k l q))
    go false q = refl

worth_none : (o : Option Money) → is_some o ≡ false → worth_in o ≡ 0
worth_none None e = refl
worth_none (Some x) e = absurd (cc)

-- what is missing of i + 1
missing_next : (g : ℕ → Option Money) (i : ℕ) → with_missing (missing_below g i) (g i) ≡ missing_below g (i + 1)
missing_next g i = rw (any_more (λ k. is_some (g k)) i, sum_more (λ k. worth_in (g k)) i) (go (any_below (λ k. is_some (g k)) i) refl (g i))
  where
    worth : ℕ
    worth = sum_below (λ k. worth_in (g k)) i

    go : (b : Bool) → any_below (λ k. is_some (g k)) i ≡ b → (o : Option Money)
        → with_missing (then_some b (money worth)) o ≡ then_some (b || is_some o) (money (worth + worth_in o))
    go true e None = rw (add-zero worth)
    go true e (Some x) = refl
    go false e None = refl
    go false e (Some x) =
        let none : worth ≡ 0 = sum_zero _ i (λ k l. worth_none (g k) (not_any _ i e k l)) in
        rw (none, zero-add x.0)

module _ (f : ℕ → Effect) where
  pub scan_none : no_lines ≡ scan_below f 0
  unfolding scan_below
  scan_none =
      rw (
        first_none (λ i. (f i).short),
        any_none (λ i. is_some (f i).worth),
        sum_none (λ i. (f i).cash.other.0),
        sum_none (λ i. (f i).cash.shanghai.0),
        sum_none (λ i. stock_count (f i).moved),
      )

  next : (i : ℕ) → with_line (scan_below f i) i (f i) ≡ scan_below f (i + 1)
  unfolding scan_below with_line with_cash
  next i =
      let short = first_next (λ k. (f k).short) i in
      let missing = missing_next (λ k. (f k).worth) i in
      let other = sum_more (λ k. (f k).cash.other.0) i in
      let shanghai = sum_more (λ k. (f k).cash.shanghai.0) i in
      let records = sum_more (λ k. stock_count (f k).moved) i in
      λ j. record {
        short = short j;
        missing = missing j;
        cash = record { shanghai = money (sym shanghai j); other = money (sym other j) };
        stock_records = sym records j;
      }

  pub scan_more : (i : ℕ) (t : Scan) (x : Effect) → t ≡ scan_below f i → x ≡ f i → with_line t i x ≡ scan_below f (i + 1)
  scan_more i t x e g = rw (e, g) (next i)

  room : (n i : ℕ) → n ≤ most_components → ((k : ℕ) → k < n → Small (f k)) → i < n → Room (scan_below f i) i (f i)
  unfolding scan_below
  room n i h all l =
      let here = all i l in
      let found = worth_in-le (any_below (λ k. is_some (f k).worth) i) _ _ (le_refl (sum_below (λ k. worth_in (f k).worth) i)) in
      let worth = sum_le (λ k. worth_in (f k).worth) i 20_000_000_000_000_000 (λ k q. (all k (omega arith)).worth) in
      let other = sum_le (λ k. (f k).cash.other.0) i 40_000_000_000_000_000 (λ k q. (all k (omega arith)).other) in
      let inside = sum_le (λ k. (f k).cash.shanghai.0) i 40_000_000_000_000_000 (λ k q. (all k (omega arith)).shanghai) in
      let records = sum_le (λ k. stock_count (f k).moved) i 1 (λ k q. cond_le (ltb 0 (f k).moved) (lit≤ tt) (lit≤ tt)) in
      record {
        index = omega arith;
        worth = omega (arith, found, here.worth);
        other = omega (arith, here.other);
        shanghai = omega (arith, here.shanghai);
        records = omega arith;
      }

  pub scan_room : (n i : ℕ) (t : Scan) (x : Effect) → n ≤ most_components → ((k : ℕ) → k < n → Small (f k)) → i < n → t ≡ scan_below f i → x ≡ f i → Room t i x
  scan_room n i t x h all l e g = rw (e, g) (room n i h all l)

-- the lines of a day's components
unfoldable pub order_lines : Kind → FlagTable → List Component → List ℕ → List ℕ → List ℕ → ℕ → ℕ → Effect
order_lines kind t cs s f ps m i = order_line kind t (get_or cs i blank) (held_of kind s f i) (price_of ps i) m

none_missing : (n : ℕ) → any_below (λ _. false) n ≡ false
unfolding any_below
none_missing zero = refl
none_missing (suc n) = rw (none_missing n)

-- a component has missing stock where some is missing, and it is worth what it counts
some_is : (b : Bool) (x : Money) → is_some (then_some b x) ≡ b
some_is true x = refl
some_is false x = refl

worth_is : (missing price : ℕ) → worth_in (then_some (ltb 0 missing) (money (missing * price))) ≡ missing * price
worth_is missing price = go (ltb 0 missing) refl
  where
    go : (b : Bool) → ltb 0 missing ≡ b → worth_in (then_some b (money (missing * price))) ≡ missing * price
    go true e = refl
    go false e =
        let none : missing ≡ 0 = omega (arith, ltb-false _ _ e) in
        rw (none, zero-mul price)

-- all of them make the scan
pub scan_is : (d : Day) (s f ps : List ℕ) (m : ℕ) (kind : Kind) → scan_below (order_lines kind d.table d.components s f ps m) d.count ≡ order_scan kind d s f ps m
unfolding scan_below order_lines order_line held_of order_scan cash_by moved_by need column quantity other_cash shanghai_cash
    creation_line missing_of worth_of first_short is_short is_missing missing missing_worth creation_cash handed_in creation_rate creation_amount
    redemption_line first_lacking fund_lacks redemption_cash delivered redemption_rate redemption_amount
scan_is d s f ps m Creation = simp (some_is, worth_is)
scan_is d s f ps m Redemption = rw (none_missing d.count)
