-- A fund and a day as they are stored, part by part.
use mathlib.Core.Path.{◌≡◌, refl, sym, ap, ◌∙◌}
use mathlib.Core.Bool.{Bool, true, false, cond}
use mathlib.Core.List.{List, [], ◌∷◌, ◌++◌, append-nil}
use Prim.Native.Nat.{ℕ, suc, ◌+◌, ◌-◌, ◌*◌, ◌≤◌}
use native.Mathlib.Nat.{le_of_eq}
use native.Mathlib.Numerals.{add-one}
use native.Mathlib.Omega.{arith}
use lib.IntN.{ℤ}
use lib.ListN.{length, get_or, drop, take, set, replicate, length-append, length-set, length-take, length-drop, length-replicate, drop_of_length-le}
use lib.Seq.{sets, sets-eq, length-sets, take_at}
use borrow.Rule.Slice.PartMut.{put_mid}
use Rattle.std.proofs.lemmas.List.{drop-drop}
use Rattle.std.proofs.Common.{append_assoc}
use mir.Val.{bool_byte}
use Rattle.sequences.specs.Below.{tabulate}
use Rattle.sequences.proofs.Below.{table_length, table_ext}
use Rattle.sequences.proofs.Runs.{sets_append, sets_front}
use Rattle.layout.specs.declared.Fund.{Fund}
use Rattle.flags.specs.Table.{table_width}
use Rattle.layout.specs.Places.{basket_width, limit_count, cash_place, limits_from, fund_width, fund_from, table_from, basket_from, day_width, answer_width}
use Rattle.layout.specs.Answers.{put_reply, reply_in}
use Rattle.layout.specs.Fund.{signed_numbers, fund_numbers}
use Rattle.layout.specs.Day.{day_numbers}

-- Numbers in the place of a part of a run.
pub numbers_stored : (run : List ℕ) (at n : ℕ) (part numbers : List ℕ) → n ≡ length numbers → at + length numbers ≤ length run
    → part ≡ numbers → put_mid at n run part ≡ sets run at numbers
numbers_stored run at n part numbers size h e = rw (e, size, drop-drop) (sym (sets-eq numbers run at h ∙ rw append_assoc))

-- The numbers of a day's flag table.
pub table_stored : (run numbers : List ℕ) (n : ℕ) (part : List ℕ) → length run ≡ day_width → length numbers ≡ table_width → n ≡ table_width
    → part ≡ numbers → put_mid table_from n run part ≡ sets run table_from numbers
table_stored run numbers n part full table size e = numbers_stored run table_from n part numbers (size ∙ sym table) (omega (arith, full, table)) e

-- The same where they are put at the front of the table's place.
pub table_put : (run numbers : List ℕ) (n : ℕ) (part : List ℕ) → length run ≡ day_width → length numbers ≡ table_width → n ≡ table_width
    → part ≡ numbers ++ drop (length numbers) (take n (drop table_from run)) → put_mid table_from n run part ≡ sets run table_from numbers
table_put run numbers n part full table size e =
    let none : drop (length numbers) (take n (drop table_from run)) ≡ [] = drop_of_length-le (take n (drop table_from run)) (rw length-take (omega (arith, table, size))) in
    table_stored run numbers n part full table size (e ∙ rw none (append-nil numbers))

-- The limits.
pub limits_stored : (run limits : List ℕ) (at n : ℕ) (part : List ℕ) → length limits ≡ limit_count → n ≡ limit_count → at + limit_count ≤ length run
    → part ≡ limits → put_mid at n run part ≡ sets run at (tabulate (λ k. get_or limits k 0) limit_count)
limits_stored run limits at n part long size h e =
    let same : limits ≡ tabulate (λ k. get_or limits k 0) limit_count = table_ext (λ k. get_or limits k 0) limit_count 0 limits long (λ k l. refl) in
    numbers_stored run at n part limits (omega arith) (omega arith) e ∙ ap (sets run at) same

-- A signed number.

pub signed_length : (e : ℤ) → length (signed_numbers e) ≡ limits_from - cash_place
unfolding signed_numbers
signed_length e = refl

pub as_number : (t : Bool) → bool_byte t ≡ cond t 1 0
as_number true = refl
as_number false = refl

pub signed_stored : (run : List ℕ) (at n : ℕ) (e : ℤ) (part : List ℕ) → n ≡ 2 → at + 2 ≤ length run → part ≡ signed_numbers e
    → put_mid at n run part ≡ sets run at (signed_numbers e)
signed_stored run at n e part size h p =
    let long = signed_length e in
    numbers_stored run at n part (signed_numbers e) (omega (arith, size, long)) (omega (arith, h, long)) p

-- A fund.

module _ (f : Fund) where
  abbrev limit_numbers : List ℕ
  limit_numbers = tabulate (λ k. get_or f.limits k 0) limit_count

  pub fund-length : length (fund_numbers f) ≡ fund_width
  unfolding fund_numbers
  fund-length = rw length-append (omega (arith, signed_length f.estimated_cash, table_length (λ k. get_or f.limits k 0) limit_count))

  module _ (run : List ℕ) (at : ℕ) where
    -- the four numbers before the cash
    abbrev front_stored : List ℕ
    front_stored =
        set (set (set (set run at f.first_code) (at + 1) f.basket_size) (at + 2) f.max_cash_ratio.0) (at + 3) f.switch

    pub fund_stored : (e : ℤ) (signed whole : List ℕ) → e ≡ f.estimated_cash → signed ≡ sets front_stored (at + cash_place) (signed_numbers e)
        → whole ≡ sets signed (at + limits_from) limit_numbers → whole ≡ sets run at (fund_numbers f)
    unfolding fund_numbers
    fund_stored e signed whole p q r =
        let two : at + 2 ≡ suc (suc at) = omega arith in
        let three : at + 3 ≡ suc (suc (suc at)) = omega arith in
        let four : at + cash_place ≡ suc (suc (suc (suc at))) = omega arith in
        let six : at + limits_from ≡ suc (suc (suc (suc at))) + length (signed_numbers e) = omega (arith, signed_length e) in
        r ∙ rw (q, six, four, three, two, add-one at, p) (sets_append (signed_numbers f.estimated_cash) limit_numbers _ _)

-- A day, whose components are stored through the rest of the run.

module _ (accounts count : ℕ) (f : Fund) (numbers components : List ℕ) (small : length components ≤ basket_width) (table : length numbers ≡ table_width) where
  abbrev head : List ℕ
  head = accounts ∷ count ∷ (fund_numbers f ++ numbers)

  abbrev padded : List ℕ
  padded = components ++ replicate (basket_width - length components) 0

  head-length : length head ≡ basket_from
  head-length = rw length-append (omega (arith, fund-length f, table))

  whole : day_numbers accounts count f numbers components ≡ head ++ padded
  unfolding day_numbers
  whole = ap (λ (l : List ℕ). accounts ∷ count ∷ l) (sym (append_assoc (fund_numbers f) numbers padded))

  padded-length : length padded ≡ basket_width
  padded-length = rw (length-append, length-replicate) (omega (arith, small))

  pub day-length : length (day_numbers accounts count f numbers components) ≡ day_width
  day-length = ap length whole ∙ length-append head padded ∙ omega (arith, head-length, padded-length)

  -- the fund and the table, one behind the other
  head_stored : (run : List ℕ) → sets (sets (set (set run 0 accounts) 1 count) fund_from (fund_numbers f)) table_from numbers ≡ sets run 0 head
  head_stored run =
      ap (λ (k : ℕ). sets (sets (set (set run 0 accounts) 1 count) fund_from (fund_numbers f)) k numbers) (omega (arith, fund-length f))
      ∙ sets_append (fund_numbers f) numbers (set (set run 0 accounts) 1 count) fund_from

  pub day_stored : (run r cs : List ℕ) → length run ≡ day_width
      → r ≡ sets (sets (set (set run 0 accounts) 1 count) fund_from (fund_numbers f)) table_from numbers
      → cs ≡ components ++ replicate (length (take (length r - basket_from) (drop basket_from r)) - length components) 0
      → take basket_from r ++ (cs ++ drop (length r - basket_from) (drop basket_from r)) ≡ day_numbers accounts count f numbers components
  day_stored run r cs full e q =
      let front : r ≡ head ++ drop (length head) run = e ∙ head_stored run ∙ sets_front head run (omega (arith, head-length)) in
      let long : length r ≡ day_width = ap length e ∙ simp (length-sets, length-set) full in
      let rest : length (take (length r - basket_from) (drop basket_from r)) ≡ basket_width = simp (length-take, length-drop) (omega arith) in
      let past : drop (length r - basket_from) (drop basket_from r) ≡ [] = drop_of_length-le (drop basket_from r) (le_of_eq (length-drop basket_from r)) in
      rw (past, append-nil cs, q, rest)
      (ap (λ (t : List ℕ). t ++ padded) (ap (take basket_from) front ∙ take_at head (drop (length head) run) basket_from head-length))
      ∙ sym whole

-- An answer.

four_are : (l : List ℕ) → length l ≡ 4 → l ≡ get_or l 0 0 ∷ get_or l 1 0 ∷ get_or l 2 0 ∷ get_or l 3 0 ∷ []
unfolding tabulate
four_are l e = table_ext (λ k. get_or l k 0) answer_width 0 l e (λ k h. refl)

-- its four numbers are what it says
pub reply_stored : (answers : List ℕ) (i : ℕ) (numbers : List ℕ) → length numbers ≡ answer_width
    → sets answers (answer_width * i) numbers ≡ put_reply answers i (reply_in numbers)
unfolding put_reply
reply_stored answers i numbers e =
    let at = answer_width * i in
    let two : at + 2 ≡ suc (suc at) = omega arith in
    let three : at + 3 ≡ suc (suc (suc at)) = omega arith in
    ap (sets answers at) (four_are numbers e) ∙ rw (two, three, add-one at)
