-- The theorems beside demand 3: it holds under any flag table that loads, the kept property holds from an accepted opening on, 5 never
-- comes, and (of `Steps`) every call keeps the property and a refused one changes nothing.
use mathlib.Core.Path.{◌≡◌, refl, sym, ap, ◌∙◌}
use mathlib.Core.Bool.{true}
use mathlib.Core.List.{List, [], ◌∷◌, ◌++◌}
use Prim.Native.Nat.{ℕ}
use lib.Dec.{T}
use Rattle.sequences.specs.Checks.{Check, Reply, is_accepted, answering, answered}
use Rattle.sequences.proofs.Checks.{avoids, never_answered, answered_insert, passes_all}
use Rattle.flags.specs.Table.{flag_count, table_of, table_fault}
use Rattle.layout.specs.Day.{Day}
use Rattle.rules.specs.Sound.{is_sound, on_sound_day}
use Rattle.rules.specs.Opening.{Opening, size_checks, table_checks, fund_checks, total_checks, day_checks, components_opened, opening_sizes_fit, opened_totals, opening_reply}
use Rattle.rules.specs.Price.{price_checks, price_reply}
use Rattle.rules.specs.Trade.{trade_means, trade_checks, trade_reply}
use Rattle.rules.specs.Value.{value_checks, value_reply}
use Rattle.rules.specs.Orders.{form_checks, permission_checks}
use Rattle.rules.specs.Creation.{creation_means, creation_checks, creation_reply}
use Rattle.rules.specs.Redemption.{redemption_means, redemption_checks, redemption_reply}
use Rattle.rules.proofs.SoundDay.{sound-true, table_passed}
use Rattle.rules.proofs.OpenedDay.{opened_opens, opened_kept}
use Rattle.rules.specs.Lent.{Lent}
use Rattle.balance.specs.Calls.{State, Call, Result, Event, price, trade, create, redeem, value, step, Happened}
use Rattle.balance.specs.Balanced.{opened, Balanced}
use Rattle.balance.proofs.Whole.{demand_3}
pub use Rattle.balance.proofs.Relation.{KeptState}
pub use Rattle.balance.proofs.Steps.{kept_step}

-- an accepted opening's flag table loads
pub opened_table : (o : Opening) → is_accepted (opening_reply o) ≡ true → table_fault (table_of o.table) ≡ flag_count
opened_table o accepted = (opened_opens o accepted).loads

-- opening's tests but for the table's own
abbrev pub other_checks : Opening → List Check
other_checks o =
    size_checks (opening_sizes_fit o)
    ++ (fund_checks (table_of o.table) o.fund (components_opened o) o.count ++ total_checks o.count (opened_totals o))

-- under any table that loads these decide
pub opened_under : (o : Opening) → table_fault (table_of o.table) ≡ flag_count → opening_reply o ≡ answered (other_checks o) 0
unfolding opening_reply day_checks
opened_under o loads = answered_insert (size_checks (opening_sizes_fit o)) (table_checks (table_of o.table)) _ _ (λ _. passes_all _ (table_passed (table_of o.table) loads))

-- so demand 3 holds of openings under any table that loads
pub demand_3_under : (o : Opening) → table_fault (table_of o.table) ≡ flag_count → is_accepted (answered (other_checks o) 0) ≡ true
    → (es : List Event) (t : State) → Happened (opened o) es t → Balanced o es t
demand_3_under o loads accepted es t h = demand_3 o (rw (opened_under o loads) accepted) es t h

-- an accepted opening leaves the kept property
pub kept_opened : (o : Opening) → is_accepted (opening_reply o) ≡ true → KeptState (opened o)
kept_opened o accepted = opened_kept o accepted

-- on a sound day no call answers 5
sound_answer : (d : Day) (b ps : List ℕ) (cs : List Check) (r : Reply) → r.number ≡ 0 → is_sound d b ps ≡ true → T (avoids 5 cs)
    → (answering (on_sound_day d b ps cs) r).number ≡ 5 → ⊥
unfolding answering
sound_answer d b ps cs r z e t q = never_answered 5 cs r z tt t (rw e at q)

pub never_five : (s : State) (c : Call) (lent : Lent) → KeptState s → (step s c lent).reply.number ≡ 5 → ⊥
unfolding step price_reply price_checks trade_reply trade_checks trade_means value_reply value_checks
    creation_reply creation_checks redemption_reply redemption_checks form_checks permission_checks creation_means redemption_means
never_five s (price line p) lent k q = sound_answer _ _ _ (price_checks s.day.count line p) _ refl (sound-true _ _ _ k.sound) tt q
never_five s (trade line n p seller buyer) lent k q = sound_answer _ _ _ (trade_checks s.day.accounts s.day.count s.book line n p seller buyer) _ refl (sound-true _ _ _ k.sound) tt q
never_five s (create a units) lent k q = sound_answer _ _ _ (creation_checks s.day s.book s.prices a units _) _ refl (sound-true _ _ _ k.sound) tt q
never_five s (redeem a units) lent k q = sound_answer _ _ _ (redemption_checks s.day s.book a units _) _ refl (sound-true _ _ _ k.sound) tt q
never_five s value lent k q = sound_answer _ _ _ (value_checks s.day s.prices) _ refl (sound-true _ _ _ k.sound) tt q

-- so 5 never comes from an accepted opening on
unfoldable pub NoneFive : List Event → Type 0
NoneFive [] = Unit {0}
NoneFive (e ∷ es) = (e.result.reply.number ≡ 5 → ⊥) × NoneFive es

none_five : (s : State) (es : List Event) (t : State) → KeptState s → Happened s es t → NoneFive es
unfolding Happened NoneFive
none_five s [] t k h = tt
none_five s (e ∷ es) t k h = (
  (λ q. never_five s e.call e.lent k (ap (λ (r : Result). r.reply.number) (sym h.0) ∙ q)),
  none_five e.result.after es t (rw h.0 (kept_step s e.call e.lent k)) h.1,
)

pub five_never_comes : (o : Opening) (es : List Event) (t : State) → is_accepted (opening_reply o) ≡ true → Happened (opened o) es t → NoneFive es
five_never_comes o es t accepted h = none_five (opened o) es t (kept_opened o accepted) h
