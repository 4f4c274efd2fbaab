-- Opening's answer, stage by stage.
use mathlib.Core.Path.{◌≡◌, sym, ap, ◌∙◌}
use mathlib.Core.Bool.{true, false, not, false≢true}
use mathlib.Core.List.{List, [], ◌∷◌}
use Prim.Native.Nat.{ℕ, ◌+◌}
use lib.Dec.{ltb}
use lib.ListN.{length, replicate}
use borrow.Author.Tests.{lt-ltb, le-ltb}
use Rattle.std.specs.Prelude.{Option, Some, None, Ok, Err}
use Rattle.sequences.specs.Below.{join_below, below}
use Rattle.sequences.proofs.Below.{below_some_facts, below_none_fact}
use Rattle.sequences.specs.Checks.{Check, check, reply, answering, answered, is_accepted}
use Rattle.flags.specs.Table.{flag_count, table_of, table_fault}
use Rattle.fund.specs.Fund.{fund_in_range}
use Rattle.fund.specs.Components.{component_fault}
use Rattle.layout.specs.Places.{limit_count}
use Rattle.layout.specs.Day.{day_at, day_numbers}
use Rattle.rules.specs.declared.Refusal.{Refusal}
use Rattle.rules.specs.Replies.{answer_reply}
use Rattle.rules.specs.Opening.{Opening, holdings_of, opened_total, opened_cash, size_checks, table_checks, fund_checks, total_fault, total_checks}
use Rattle.rules.specs.Opening.{day_checks, components_opened, opening_sizes_fit, opening_reply, opened_run, opened_stretch, opened_book, opened_prices}
use Rattle.rules.proofs.Replies.{refused}
use Rattle.rules.proofs.OpenedDay.{opened_opens, opened_book_lem, opened_prices_lem, opened_run_lem}
use Rattle.opening.specs.Given.{Outcome, totals_of}
use Rattle.opening.proofs.Sizes.{LentSizes, lent_facts}

module _ (o : Opening) where
  -- refusal 1's facts, and the places that refusals 21, 3 and 4 name
  abbrev pub Sizes : Type 0
  Sizes = LentSizes o.accounts o.count (length o.table) (length o.components) (length o.holdings) (length o.book) (length o.prices) (length o.day)

  abbrev pub flag_place : ℕ
  flag_place = table_fault (table_of o.table)

  abbrev pub component_place : ℕ
  component_place = component_fault (table_of o.table) o.fund.first_code (components_opened o) o.count

  abbrev pub line_place : ℕ
  line_place = total_fault o.count (totals_of o.accounts o.count o.holdings)

  -- the tests after refusal 1's
  abbrev later_checks : List Check
  later_checks =
      check (ltb flag_place flag_count) 21 flag_place
      ∷ check (not (fund_in_range o.fund)) 2 0
      ∷ check (ltb component_place o.count) 3 component_place
      ∷ check (ltb line_place (o.count + 2)) 4 line_place
      ∷ []

  pub answer_sizes : opening_sizes_fit o ≡ false → reply 1 0 0 ≡ opening_reply o
  unfolding opening_reply day_checks size_checks answering
  answer_sizes e = rw e

  later : opening_sizes_fit o ≡ true → answered later_checks 0 ≡ opening_reply o
  unfolding opening_reply day_checks size_checks table_checks fund_checks total_checks opened_total opened_cash answering
  later e = rw e

  pub answer_table : (place : ℕ) (fault : Option ℕ) → opening_sizes_fit o ≡ true → fault ≡ below flag_count flag_place → fault ≡ Some place → reply 21 place 0 ≡ opening_reply o
  unfolding answering
  answer_table place fault e r s =
      let at = below_some_facts flag_count flag_place place (sym s ∙ r) in
      rw (← later e, lt-ltb flag_place flag_count at.1, at.0)

  -- behind 1 and 21
  module _ (e : opening_sizes_fit o ≡ true) (r : None ≡ below flag_count flag_place) where
    loads : ltb flag_place flag_count ≡ false
    loads = le-ltb flag_place flag_count (below_none_fact flag_count flag_place r)

    pub answer_fund : fund_in_range o.fund ≡ false → reply 2 0 0 ≡ opening_reply o
    unfolding answering
    answer_fund f = rw (← later e, loads, f)

    pub answer_component : (place : ℕ) (fault : Option ℕ) → fund_in_range o.fund ≡ true → fault ≡ below o.count component_place → fault ≡ Some place → reply 3 place 0 ≡ opening_reply o
    unfolding answering
    answer_component place fault f p s =
        let at = below_some_facts o.count component_place place (sym s ∙ p) in
        rw (← later e, loads, f, lt-ltb component_place o.count at.1, at.0)

    pub answer_total : (place : ℕ) (fault : Option ℕ) → fund_in_range o.fund ≡ true → None ≡ below o.count component_place → fault ≡ below (o.count + 2) line_place
        → fault ≡ Some place → reply 4 place 0 ≡ opening_reply o
    unfolding answering
    answer_total place fault f p q s =
        let past = below_none_fact o.count component_place p in
        let at = below_some_facts (o.count + 2) line_place place (sym s ∙ q) in
        rw (← later e, loads, f, le-ltb component_place o.count past, lt-ltb line_place (o.count + 2) at.1, at.0)

    pub answer_done : fund_in_range o.fund ≡ true → None ≡ below o.count component_place → None ≡ below (o.count + 2) line_place → reply 0 0 0 ≡ opening_reply o
    unfolding answering
    answer_done f p q =
        let past = below_none_fact o.count component_place p in
        let end = below_none_fact (o.count + 2) line_place q in
        rw (← later e, loads, f, le-ltb component_place o.count past, le-ltb line_place (o.count + 2) end)

  -- what an accepted opening says of the lent lengths
  accepted_sizes : is_accepted (opening_reply o) ≡ true → Sizes
  accepted_sizes e = lent_facts _ _ _ _ _ _ _ _ (opened_opens o e).sizes

  module _ (said : answer_reply (Ok tt) ≡ opening_reply o) where
    done : is_accepted (opening_reply o) ≡ true
    unfolding is_accepted
    done = rw (← said)

    pub done_sizes : Sizes
    done_sizes = accepted_sizes done

    -- an accepted opening
    pub outcome_done : (book prices day : List ℕ) → length o.fund.limits ≡ limit_count
        → book ≡ join_below (λ a. opened_stretch o.count (holdings_of o a)) o.accounts → prices ≡ replicate (length o.prices) 0
        → day ≡ day_numbers o.accounts o.count o.fund o.table o.components → Outcome o (Ok tt) book prices day
    unfolding opened_run
    outcome_done book prices day limits b q d =
        let run : day ≡ opened_run o = d ∙ rw done in
        record {
          answer_is = said;
          book_is = b ∙ sym (opened_book_lem o done);
          prices_is = q ∙ ap (λ (n : ℕ). replicate n 0) done_sizes.own.prices_size ∙ sym (opened_prices_lem o done);
          day_is = run;
          day_says = λ _. ap day_at run ∙ opened_run_lem o done limits;
        }

  -- a refused one
  pub outcome_refused : (why : Refusal) → answer_reply (Err why) ≡ opening_reply o → Outcome o (Err why) o.book o.prices o.day
  unfolding opened_run opened_book opened_prices
  outcome_refused why said =
      let no : is_accepted (opening_reply o) ≡ false = rw (← said) (refused why) in
      record {
        answer_is = said;
        book_is = rw no;
        prices_is = rw no;
        day_is = rw no;
        day_says = λ yes. absurd (false≢true (sym no ∙ yes));
      }
