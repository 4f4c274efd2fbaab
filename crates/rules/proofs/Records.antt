-- An order on a sound day has no more records than the most, and the number in code is that.
use mathlib.Core.Path.{◌≡◌, refl}
use mathlib.Core.Bool.{true}
use mathlib.Core.List.{List, [], ◌∷◌, ◌++◌}
use Prim.Native.Nat.{ℕ, ◌+◌, ◌≤◌}
use native.Mathlib.Omega.{arith}
use Rattle.std.proofs.lemmas.Grind.{common_steps}
use lib.ListN.{length, length-append, length-map}
use Rattle.sequences.specs.Below.{join_below}
use Rattle.sequences.proofs.Below.{join-le}
use Rattle.layout.specs.Places.{most_components}
use Rattle.layout.specs.Day.{Day}
use Rattle.layout.specs.Book.{account}
use Rattle.rules.specs.declared.Ask.{Ask}
use Rattle.rules.specs.declared.TheConstants.{MOST_RECORDS}
use Rattle.rules.specs.Records.{second_unit, shanghai_step, other_step, most_records, record_of, cash_parts, cash_records, stock_record, order_records}
use Rattle.rules.specs.Sound.{is_sound}
use Rattle.rules.specs.Creation.{creation_records}
use Rattle.rules.specs.Redemption.{redemption_records}
use Rattle.rules.specs.Kinds.{asked_records, records_of}
use Rattle.rules.proofs.SoundDay.{sound_facts}
use Rattle.rules.proofs.Asked.{by_ask}

parts_few : (c : ℕ) → length (cash_parts c) ≤ 2
unfolding cash_parts
parts_few c = grind (arith, common_steps)

cash_few : (code side c : ℕ) → length (cash_records code side c) ≤ 2
unfolding cash_records
cash_few code side c = omega (arith, length-map (cash_parts c) (λ part. record_of code side part.0 part.1), parts_few c)

line_few : (d : Day) (side : ℕ) (moved : ℕ → ℕ) (i : ℕ) → length (stock_record d side moved i) ≤ 1
unfolding stock_record
line_few d side moved i = grind (arith, common_steps)

records_few : (d : Day) (side rest units : ℕ) (moved : ℕ → ℕ) (other shanghai : ℕ) → d.count ≤ most_components
    → length (order_records d side rest units moved other shanghai) ≤ most_records
unfolding order_records
records_few d side rest units moved other shanghai h =
    let unit = record_of (d.fund.first_code + second_unit) rest units 0 ∷ [] in
    let stock = join_below (stock_record d side moved) d.count in
    let others = cash_records (d.fund.first_code + other_step) rest other in
    let shanghais = cash_records (d.fund.first_code + shanghai_step) rest shanghai in
    omega (
      arith,
      join-le (stock_record d side moved) d.count 1 (λ k _. line_few d side moved k),
      cash_few (d.fund.first_code + other_step) rest other,
      cash_few (d.fund.first_code + shanghai_step) rest shanghai,
      length-append stock (others ++ (shanghais ++ unit)),
      length-append others (shanghais ++ unit),
      length-append shanghais unit,
    )

most_created : (d : Day) (s ps : List ℕ) (units : ℕ) → d.count ≤ most_components → length (creation_records d s ps units) ≤ most_records
unfolding creation_records
most_created d s ps units h = records_few d _ _ units _ _ _ h

most_redeemed : (d : Day) (units : ℕ) → d.count ≤ most_components → length (redemption_records d units) ≤ most_records
unfolding redemption_records
most_redeemed d units h = records_few d _ _ units _ _ _ h

-- the number in code
most_is : MOST_RECORDS ≡ most_records
most_is = refl

-- so a list with room for so many takes every order's records
pub most_asked : (d : Day) (b ps : List ℕ) → is_sound d b ps ≡ true → (ask : Ask) → length (records_of d b ps ask) ≤ MOST_RECORDS
unfolding records_of asked_records
most_asked d b ps sound =
    let few : d.count ≤ most_components = (sound_facts d b ps sound).own.count_high in
    by_ask (λ ask. length (records_of d b ps ask) ≤ MOST_RECORDS)
    (λ a units. most_created d (account d b a) ps units few)
    (λ a units. most_redeemed d units few)
