-- What an accepted opening leaves, account by account, and that it has the kept property.
use mathlib.Core.Path.{◌≡◌, refl, sym, ap, ◌∙◌}
use mathlib.Core.Bool.{true}
use mathlib.Core.List.{List, [], ◌∷◌}
use Prim.Native.Nat.{ℕ, suc, ◌+◌, ◌*◌, ◌<◌}
use native.Mathlib.Nat.{add-zero}
use native.Mathlib.Omega.{arith}
use lib.ListN.{length, get_or, replicate, length-replicate, get_or-replicate}
use Rattle.sequences.specs.Below.{join_below}
use Rattle.sequences.specs.Checks.{is_accepted}
use borrow.Author.Tests.{eqb-true}
use Rattle.sequences.specs.Stretch.{stretch_of, over}
use Rattle.sequences.proofs.Below.{join-length, sum_same, sum_zero}
use Rattle.sequences.proofs.Every.{every_at}
use Rattle.sequences.proofs.Checks.{all_passed}
use Rattle.sequences.proofs.Stretch.{stretch-join, stretch_at}
use Rattle.lots.specs.declared.Lots.{Lots}
use Rattle.lots.specs.Lots.{lots_total}
use Rattle.lots.proofs.Laws.{lots, lots-eq}
use Rattle.flags.specs.Table.{table_of}
use Rattle.layout.specs.Places.{limit_count, line_width}
use Rattle.layout.specs.Components.{blank, component_at}
use Rattle.layout.proofs.Components.{places_at}
use Rattle.layout.specs.Day.{day_at}
use Rattle.layout.proofs.Day.{day_back}
use Rattle.fund.proofs.Laws.{fund_sound, cash_size}
use Rattle.layout.specs.Book.{width_of, cash, created, redeemed, head_at, lots_at, head_total, line_total, line_from}
use Rattle.rules.specs.Lines.{component_of, price_of}
use Rattle.rules.specs.Opening.{Opening, holdings_of, cash_opened, held_opened, opened_total, opened_cash, size_checks, table_checks, fund_checks, total_checks, day_checks}
use Rattle.rules.specs.Opening.{components_opened, lent_sizes_fit, opening_sizes_fit, opened_totals, opening_reply, opened_day, opened_run, opened_stretch, opened_book, opened_prices}
use Rattle.rules.proofs.SoundDay.{DaySizes, sizes_facts, Opens, opens_facts, Kept}

-- one account's stretch
module _ (n : ℕ) (h : List ℕ) where
  abbrev lines : List ℕ
  lines = join_below (λ l. held_opened l h ∷ 0 ∷ 0 ∷ []) (n + 1)

  pub opened-length : length (opened_stretch n h) ≡ width_of n
  unfolding opened_stretch
  opened-length = omega (arith, join-length (λ l. held_opened l h ∷ 0 ∷ 0 ∷ []) (n + 1) line_width (λ k. refl))

  pub opened_cash_lem : head_at (opened_stretch n h) cash ≡ cash_opened h
  unfolding opened_stretch head_at
  opened_cash_lem = refl

  pub opened_created : head_at (opened_stretch n h) created ≡ 0
  unfolding opened_stretch head_at
  opened_created = refl

  pub opened_redeemed : head_at (opened_stretch n h) redeemed ≡ 0
  unfolding opened_stretch head_at
  opened_redeemed = refl

  -- the i-th of the three numbers of line l
  at_line : (l i : ℕ) → l < n + 1 → i < line_width → get_or lines (l * line_width + i) 0 ≡ get_or (held_opened l h ∷ 0 ∷ 0 ∷ []) i 0
  at_line l i hl hi =
      sym (stretch_at line_width lines l i hi)
      ∙ ap (λ (s : List ℕ). get_or s i 0) (stretch-join (λ l. held_opened l h ∷ 0 ∷ 0 ∷ []) (n + 1) line_width l (λ k. refl) hl)

  past_head : (l i : ℕ) → get_or (opened_stretch n h) (line_from l + i) 0 ≡ get_or lines (l * line_width + i) 0
  unfolding opened_stretch
  past_head l i =
      let e : line_from l + i ≡ suc (suc (suc (l * line_width + i))) = omega arith in
      rw e

  pub opened_lots : (l : ℕ) → l < n + 1 → lots_at (opened_stretch n h) l ≡ lots (held_opened l h) 0 0
  unfolding lots_at
  opened_lots l hl =
      lots-eq
      (rw (← add-zero (line_from l)) (past_head l 0 ∙ at_line l 0 hl (omega arith)))
      (past_head l 1 ∙ at_line l 1 hl (omega arith))
      (past_head l 2 ∙ at_line l 2 hl (omega arith))

module _ (o : Opening) (accepted : is_accepted (opening_reply o) ≡ true) where
  pub opened_day_lem : opened_day o ≡ record { accounts = o.accounts; count = o.count; fund = o.fund; table = table_of o.table; components = components_opened o }
  unfolding opened_day
  opened_day_lem = refl

  pub opened_book_lem : opened_book o ≡ join_below (λ a. opened_stretch o.count (holdings_of o a)) o.accounts
  unfolding opened_book
  opened_book_lem = rw accepted

  pub opened_prices_lem : opened_prices o ≡ replicate o.count 0
  unfolding opened_prices
  opened_prices_lem = rw accepted

  pub opened_opens : Opens (opening_sizes_fit o) (table_of o.table) o.fund (components_opened o) o.count (opened_totals o)
  unfolding opening_reply day_checks size_checks table_checks fund_checks total_checks
  opened_opens = opens_facts _ _ _ _ _ _ (all_passed _ _ tt accepted)

  pub opened_sizes : DaySizes o.accounts o.count (length o.book) (length o.prices)
  unfolding lent_sizes_fit
  opened_sizes = sizes_facts _ _ _ _ (every_at _ opened_opens.sizes 0)

  -- an account's stretch of the opened book
  pub opened_account : (a : ℕ) → a < o.accounts → stretch_of (width_of o.count) (opened_book o) a ≡ opened_stretch o.count (holdings_of o a)
  opened_account a h = rw opened_book_lem (stretch-join (λ a. opened_stretch o.count (holdings_of o a)) o.accounts (width_of o.count) a (λ k. opened-length o.count (holdings_of o k)) h)

  -- a component's place in the opened day
  component_is : (i : ℕ) → i < o.count → get_or (components_opened o) i blank ≡ component_at o.components i
  unfolding components_opened
  component_is i h = places_at (component_at o.components) o.count i h opened_sizes.count_high

  pub opened_component : (i : ℕ) → i < o.count → component_of (opened_day o) i ≡ component_at o.components i
  opened_component i h = rw opened_day_lem (component_is i h)

  -- totals of the opened book are those of the holdings
  pub opened_money : head_total (opened_day o) (opened_book o) cash ≡ opened_cash o
  unfolding head_total opened_cash over
  opened_money =
      rw opened_day_lem
      (sum_same _ _ o.accounts (λ a h. ap (λ (s : List ℕ). head_at s cash) (opened_account a h) ∙ opened_cash_lem o.count (holdings_of o a)))

  pub opened_counter : (k : ℕ) → ((h : List ℕ) → head_at (opened_stretch o.count h) k ≡ 0) → head_total (opened_day o) (opened_book o) k ≡ 0
  unfolding head_total over
  opened_counter k none =
      rw opened_day_lem
      (sum_zero _ o.accounts (λ a h. ap (λ (s : List ℕ). head_at s k) (opened_account a h) ∙ none (holdings_of o a)))

  pub opened_line : (l : ℕ) → l < o.count + 1 → line_total (opened_day o) (opened_book o) l ≡ opened_total o l
  unfolding line_total opened_total over
  opened_line l hl =
      rw opened_day_lem
      (sum_same _ _ o.accounts (λ a h.
      ap (λ (s : List ℕ). lots_total (lots_at s l)) (opened_account a h)
      ∙ ap lots_total (opened_lots o.count (holdings_of o a) l hl)
      ∙ omega arith))

  -- the fund's stretch
  fund_account : stretch_of (width_of o.count) (opened_book o) 0 ≡ opened_stretch o.count (holdings_of o 0)
  fund_account = opened_account 0 (omega (arith, opened_sizes.accounts_low))

  fund_lots_lem : (l : ℕ) → l < o.count + 1 → lots_at (stretch_of (width_of o.count) (opened_book o) 0) l ≡ lots (held_opened l (holdings_of o 0)) 0 0
  fund_lots_lem l h = ap (λ (s : List ℕ). lots_at s l) fund_account ∙ opened_lots o.count (holdings_of o 0) l h

  opened_price : (i : ℕ) → i < o.count → price_of (opened_prices o) i ≡ 0
  unfolding price_of
  opened_price i h = rw opened_prices_lem (get_or-replicate o.count i 0 0 h)

  -- an accepted opening leaves a day with the kept property
  pub opened_kept : Kept (opened_day o) (opened_book o) (opened_prices o)
  opened_kept =
      rw opened_day_lem
      (record {
        sound =
            record {
              own =
                  record {
                    accounts_low = opened_sizes.accounts_low;
                    accounts_high = opened_sizes.accounts_high;
                    count_low = opened_sizes.count_low;
                    count_high = opened_sizes.count_high;
                    loads = p.loads;
                    fund_fields = p.fund_fields;
                    components = p.components;
                  };
              book =
                  record {
                    book_size = rw opened_book_lem (join-length _ o.accounts (width_of o.count) (λ k. opened-length o.count (holdings_of o k)));
                    lines = λ l h. omega (arith, p.lines l h, rw opened_day_lem at (opened_line l (omega arith)));
                    units = omega (arith, p.units, rw opened_day_lem at (opened_line o.count (omega arith)));
                    money = omega (arith, p.money, rw opened_day_lem at opened_money);
                    created_most = omega (arith, rw opened_day_lem at (opened_counter created (opened_created o.count)));
                    redeemed_most = omega (arith, rw opened_day_lem at (opened_counter redeemed (opened_redeemed o.count)));
                    fund_units_lem = ap (λ (x : Lots). x.old) (fund_lots_lem o.count (omega arith)) ∙ p.fund_units_lem;
                    fund_created = ap (λ (s : List ℕ). head_at s created) fund_account ∙ opened_created o.count (holdings_of o 0);
                    fund_redeemed = ap (λ (s : List ℕ). head_at s redeemed) fund_account ∙ opened_redeemed o.count (holdings_of o 0);
                    fund_bought = λ l h. ap (λ (x : Lots). x.bought) (fund_lots_lem l h);
                    fund_got = λ l h. ap (λ (x : Lots). x.got) (fund_lots_lem l h);
                  };
              prices =
                  record {
                    prices_size = rw opened_prices_lem (length-replicate o.count 0);
                    prices_most = λ i h. omega (arith, opened_price i h);
                  };
            };
        room =
            omega (arith, p.units, rw opened_day_lem at (opened_line o.count (omega arith)), rw opened_day_lem at (opened_counter created (opened_created o.count)));
      })
    where
      p : Opens (opening_sizes_fit o) (table_of o.table) o.fund (components_opened o) o.count (opened_totals o)
      p = opened_opens

  -- the run that an accepted opening leaves says the opened day
  pub opened_run_lem : length o.fund.limits ≡ limit_count → day_at (opened_run o) ≡ opened_day o
  unfolding opened_run opened_day components_opened lent_sizes_fit
  opened_run_lem limits =
      let p = opened_opens in
      rw accepted
      (day_back o.accounts o.count o.fund o.table o.components opened_sizes.count_high (eqb-true _ _ (every_at _ p.sizes 1)) (eqb-true _ _ (every_at _ p.sizes 2)) limits
      (cash_size o.fund.estimated_cash (fund_sound o.fund p.fund_fields).cash))
