-- From a sound day and an order's form to what its third stage, its records and its move ask.
use mathlib.Core.Path.{◌≡◌, refl, sym, ap, ◌∙◌}
use mathlib.Core.Bool.{Bool, true, false, cond}
use mathlib.Core.List.{List, [], ◌++◌, map, append_assoc}
use Prim.Native.Nat.{ℕ, ◌+◌, ◌*◌, ◌≤◌, ◌<◌}
use native.Mathlib.Omega.{arith}
use lib.ListN.{length}
use lib.Seq.{sets}
use Rattle.sequences.specs.Below.{tabulate}
use borrow.Author.Tests.{not-false}
use Rattle.sequences.specs.Checks.{Check, Reply, answered, is_accepted}
use Rattle.sequences.proofs.Checks.{all_passed}
use Rattle.sequences.proofs.Stretch.{within}
use Rattle.fund.proofs.Laws.{FundRanges, fund_sound}
use Rattle.layout.specs.Day.{Day, day_of}
use Rattle.rules.specs.declared.Ask.{Ask}
use Rattle.rules.specs.declared.CashByMarket.{CashByMarket}
use Rattle.rules.specs.declared.Rooms.{Rooms}
use Rattle.rules.specs.declared.Counts.{Counts}
use Rattle.rules.specs.Lent.{Lent, lent_of, rooms_in, with_order}
use Rattle.rules.specs.Reports.{opposite}
use Rattle.layout.specs.declared.Record.{Record}
use Rattle.layout.specs.declared.Report.{Report}
use Rattle.layout.specs.Places.{most_components, report_width}
use Rattle.layout.specs.Records.{with_records}
use Rattle.layout.specs.Laid.{laid}
use Rattle.layout.proofs.Laid.{with_length}
use Rattle.layout.specs.Reports.{report_numbers, with_reports}
use Rattle.layout.specs.Book.{width_of, account}
use Rattle.rules.specs.Replies.{made_reply, if_accepted}
use Rattle.rules.specs.Sound.{is_sound}
use Rattle.rules.specs.Orders.{baskets, form_checks, permission_checks}
use Rattle.rules.specs.Creation.{available, creation_due, creation_checks, creation_reply}
use Rattle.rules.specs.Redemption.{redemption_paid, redemption_checks, redemption_reply}
use Rattle.rules.specs.Kinds.{all_cash, cash_by, records_by, reports_by}
use Rattle.rules.specs.Kinds.{asked_cash, asked_records, asked_reports, records_of, reports_of, rooms_beside, counts_by, asked_counts, asked_means, asked_checks, asked_reply, with_asked}
use Rattle.rules.proofs.SoundDay.{SoundDay, sound_facts}
use Rattle.rules.proofs.Accepted.{Orders, Listed, order_facts, creation_facts, creation_made, redemption_facts, redemption_made}
use Rattle.rules.proofs.Replies.{refused, is_accepted_lem, on_sound}
use Rattle.rules.proofs.Asked.{by_ask, asked_records_lem, asked_reports_lem}
use Rattle.book.specs.Ready.{OrderReady}
use Rattle.book.proofs.Ready.{creation_ready, redemption_ready}
use Rattle.order_records.specs.Ready.{Writable}
use Rattle.order_records.proofs.Sound.{sound_writable}
use Rattle.order_records.specs.declared.Out.{Out}
use Rattle.order_records.specs.Put.{put_all}
use Rattle.order_records.specs.Flat.{room_left, with_record}
use Rattle.order_records.proofs.Flat.{room_first, put_first, same_run}
use Rattle.order_reports.specs.Put.{mirrored}
use Rattle.order_reports.proofs.Laws.{mirrored_all}
use Rattle.order_tests.specs.Tests.{means_answer}
use Rattle.order_form.specs.Form.{order_form, Countable}
use Rattle.order_form.proofs.Laws.{form_of_day, sound_countable, countable_head}
use Rattle.order_tests.proofs.Laws.{staged}
use Rattle.value.specs.Worth.{Priceable}
use Rattle.value.proofs.Laws.{priceable}
use Rattle.order_scan.specs.Ready.{Scannable}
use Rattle.order_scan.proofs.Ready.{scannable}
use Rattle.trades.proofs.Laws.{sound_fits}
use Rattle.orders.specs.Orders.{asked_answer, answered_lists, Formed}

module _ (d : Day) (b ps : List ℕ) (ask : Ask) (f : Formed d b ps ask) where
  sound : SoundDay d b ps
  sound = sound_facts d b ps f.sound

  order : Orders d b ask.kind ask.account ask.units
  unfolding order_form form_checks permission_checks
  order =
      let p = all_passed (order_form d b ask) _ tt (is_accepted_lem _ _ refl f.formed) in
      order_facts d b ask.kind ask.account ask.units sound.own.accounts_low (not-false _ p.0) (not-false _ p.1.0) (not-false _ p.1.1.1.0)

  fund : FundRanges d.fund
  fund = fund_sound d.fund sound.own.fund_fields

  inside : (i : ℕ) → i < d.accounts → i * width_of d.count + width_of d.count ≤ length b
  inside i h = rw sound.book.book_size (within (width_of d.count) i d.accounts h)

  -- what the third stage asks, of the account's stretch and the fund's
  pub stage_ready : (d.count ≤ most_components) × (ask.account * width_of d.count + width_of d.count ≤ length b) × (0 * width_of d.count + width_of d.count ≤ length b)
      × Scannable d (account d b ask.account) (account d b 0) ps (baskets d ask.units) × Priceable d ps × (d.fund.max_cash_ratio.0 ≤ 100_000)
      × (available (account d b ask.account) d.count ≤ 2_000_000_000_000_000_000)
  unfolding available
  stage_ready = (
    sound.own.count_high,
    inside ask.account order.account_in,
    inside 0 (omega (arith, sound.own.accounts_low)),
    scannable d b ps sound (baskets d ask.units) order.baskets_high ask.account order.account_in,
    priceable d b ps sound,
    fund.ratio,
    omega (arith, (sound_fits d b ps sound).lots ask.account d.count order.account_in (omega arith)),
  )

-- what a sound day gives an order's form, which looks at the day's head alone, and its count of baskets
module _ (d : Day) (b ps : List ℕ) (whole : is_sound d b ps ≡ true) where
  pub form_ready : Countable (day_of (record { accounts = d.accounts; count = d.count; fund = d.fund }) [] []) b
  form_ready = countable_head d _ b refl (sound_countable d b ps (sound_facts d b ps whole))

  pub basket_low : 0 < d.fund.basket_size
  basket_low = (fund_sound d.fund (sound_facts d b ps whole).own.fund_fields).size_low

-- the answer from the stages
module _ (d : Day) (b ps : List ℕ) (rooms : Rooms) where
  abbrev form : Ask → List Check
  form ask = order_form d b ask

  abbrev means : Ask → List Check
  means ask = asked_means d (account d b ask.account) (account d b 0) ps ask rooms

  stages : (ask : Ask) → asked_checks d b ps ask rooms ≡ form ask ++ means ask
  unfolding asked_checks asked_means creation_checks redemption_checks order_form
  stages =
      by_ask (λ ask. asked_checks d b ps ask rooms ≡ form ask ++ means ask)
      (λ a units. simp append_assoc)
      (λ a units. simp append_assoc)

  pub asked_staged : (ask : Ask)
      → asked_answer d b ps ask rooms ≡ if_accepted (answered (form ask) 0) (means_answer d (account d b ask.account) (account d b 0) ps ask rooms) (answered (form ask) 0)
  unfolding asked_answer means_answer order_form form_checks permission_checks
  asked_staged ask = rw (stages ask) (staged (form ask) (means ask) _ tt)

-- the form of an order looks at the day's head alone
pub form_is : (d : Day) (b : List ℕ) (ask : Ask) → order_form d b ask ≡ order_form (day_of (record { accounts = d.accounts; count = d.count; fund = d.fund }) [] []) b ask
form_is d b ask = sym (form_of_day d _ b ask refl)

-- what an accepted order has
record Accepted (d : Day) (b ps : List ℕ) (rooms : Rooms) (ask : Ask) : Type 0 where
  pub sound : SoundDay d b ps
  pub movable : OrderReady ask.kind d b ask.account ask.units (baskets d ask.units) (all_cash (asked_cash d (account d b ask.account) ps ask))
  pub listed : Listed rooms (asked_counts d b ps ask)

accepted : (d : Day) (b ps : List ℕ) (rooms : Rooms) (ask : Ask) → is_accepted (asked_reply d b ps ask rooms) ≡ true → Accepted d b ps rooms ask
unfolding asked_reply asked_checks asked_records asked_reports counts_by asked_cash cash_by creation_reply creation_due redemption_reply redemption_paid
accepted d b ps rooms =
    by_ask (λ ask. is_accepted (asked_reply d b ps ask rooms) ≡ true → Accepted d b ps rooms ask)
    (λ a units e. let t = creation_facts d b ps a units rooms e in record { sound = t.sound; movable = creation_ready t; listed = t.listed })
    (λ a units e. let t = redemption_facts d b ps a units rooms e in record { sound = t.sound; movable = redemption_ready t; listed = t.listed })

-- and its reply has its counts
reply_made : (d : Day) (b ps : List ℕ) (rooms : Rooms) (ask : Ask) → is_accepted (asked_reply d b ps ask rooms) ≡ true
    → asked_reply d b ps ask rooms ≡ made_reply (asked_counts d b ps ask)
unfolding asked_reply asked_checks asked_records asked_reports counts_by creation_reply redemption_reply
reply_made d b ps rooms =
    by_ask (λ ask. is_accepted (asked_reply d b ps ask rooms) ≡ true → asked_reply d b ps ask rooms ≡ made_reply (asked_counts d b ps ask))
    (λ a units e. creation_made d b ps a units rooms e)
    (λ a units e. redemption_made d b ps a units rooms e)

sound_reply : (d : Day) (b ps : List ℕ) (ask : Ask) (rooms : Rooms) → is_sound d b ps ≡ true → asked_reply d b ps ask rooms ≡ asked_answer d b ps ask rooms
unfolding asked_answer asked_reply
sound_reply d b ps ask rooms whole = on_sound d b ps (asked_checks d b ps ask rooms) _ whole

-- the answer, by the room that the records' sink tells
pub answer_by_room : (d : Day) (b ps : List ℕ) (ask : Ask) (investor fund : List ℕ) {told room : ℕ} {r : Reply} → r ≡ asked_answer d b ps ask (rooms_beside told investor fund)
    → told ≡ room → r ≡ asked_answer d b ps ask (rooms_beside room investor fund)
answer_by_room d b ps ask investor fund r tells = r ∙ ap (λ (k : ℕ). asked_answer d b ps ask (rooms_beside k investor fund)) tells

-- where so many records have room, and the runs of both parties their reports: it can be moved and put, and leaves the rules' records and
-- reports; m is its count of baskets, and c its cash
module _ (d : Day) (b ps : List ℕ) (ask : Ask) (room : ℕ) (investor fund : List ℕ) (whole : is_sound d b ps ≡ true) (counts : Counts)
    (made : made_reply counts ≡ asked_answer d b ps ask (rooms_beside room investor fund)) (m : ℕ) (in-baskets : m ≡ baskets d ask.units) (c : CashByMarket)
    (paid : c ≡ asked_cash d (account d b ask.account) ps ask) where
  abbrev s : List ℕ
  s = account d b ask.account

  abbrev rooms : Rooms
  rooms = rooms_beside room investor fund

  taken : is_accepted (asked_reply d b ps ask rooms) ≡ true
  taken = ap is_accepted (sound_reply d b ps ask rooms whole) ∙ is_accepted_lem _ _ refl made

  facts : Accepted d b ps rooms ask
  facts = accepted d b ps rooms ask taken

  pub order_ready : OrderReady ask.kind d b ask.account ask.units m (all_cash c)
  order_ready = rw (in-baskets, paid) facts.movable

  records : records_by ask.kind d s ask.units m c ≡ asked_records d s ps ask
  records = rw (in-baskets, paid) (asked_records_lem d s ps ask)

  reports : reports_by ask.kind d s ask.units m c ≡ asked_reports d s ps ask
  reports = rw (in-baskets, paid) (asked_reports_lem d s ps ask)

  pub order_writable : Writable d s ask m c room
  unfolding counts_by
  order_writable = sound_writable d b ps facts.sound _ ask m c room (rw records facts.listed.records)

  -- how many reports there are, and that they fit both runs
  counted : counts.reports ≡ length (reports_by ask.kind d s ask.units m c)
  unfolding counts_by
  counted =
      ap (λ (r : Reply). r.reports) (made ∙ sym (sound_reply d b ps ask rooms whole) ∙ reply_made d b ps rooms ask taken)
      ∙ sym (ap length reports)

  order_fits : (report_width * counts.reports ≤ length investor) × (report_width * counts.reports ≤ length fund)
  unfolding counts_by
  order_fits = (omega (arith, counted, ap length reports, facts.listed.investor), omega (arith, counted, ap length reports, facts.listed.fund))

  pub order_told : report_width * length (reports_by ask.kind d s ask.units m c) ≤ length investor
  unfolding counts_by
  order_told = omega (arith, ap length reports, facts.listed.investor)

  pub records_left : {S : Type 0} (push : S → Record → S) (old : S) {new : S} → new ≡ put_all push old (records_by ask.kind d s ask.units m c)
      → new ≡ put_all push old (records_of d b ps ask)
  unfolding records_of
  records_left push old e = e ∙ ap (put_all push old) records

  pub investor_told : {told : List ℕ} → told ≡ with_reports (reports_by ask.kind d s ask.units m c) investor → told ≡ with_reports (reports_of d b ps ask) investor
  investor_told e = e ∙ ap (λ (rs : List Report). with_reports rs investor) reports

  pub mirrorable : {told : List ℕ} → told ≡ with_reports (reports_by ask.kind d s ask.units m c) investor
      → (report_width * counts.reports ≤ length told) × (report_width * counts.reports ≤ length fund)
  unfolding with_reports
  mirrorable e =
      let long = ap length e ∙ with_length report_numbers report_width (λ r. refl) (reports_by ask.kind d s ask.units m c) investor order_told in
      (omega (arith, order_fits.0, long), order_fits.1)

  pub fund_told : {told other : List ℕ} → told ≡ with_reports (reports_of d b ps ask) investor
      → other ≡ sets fund 0 (laid report_numbers (tabulate (mirrored told) counts.reports)) → other ≡ with_reports (map opposite (reports_of d b ps ask)) fund
  fund_told {told} i f =
      f
      ∙ ap (λ (l : List ℕ). sets fund 0 (laid report_numbers (tabulate (mirrored l) counts.reports))) i
      ∙ mirrored_all (reports_of d b ps ask) investor fund counts.reports (counted ∙ ap length reports) order_fits.1

-- of what an order leaves: a part is that of what it makes, or that of what was there; and one that it leaves as it was stays in both
module _ {S X : Type 0} (f : S → X) (r : Reply) (after before : S) {left : S} (e : left ≡ if_accepted r after before) where
  pub left_part : {x : X} → (is_accepted r ≡ true → f after ≡ x) → f left ≡ if_accepted r x (f before)
  left_part {x} made = go (is_accepted r) refl
    where
      go : (b : Bool) → is_accepted r ≡ b → f left ≡ if_accepted r x (f before)
      go true good = rw (e, good) (made good)
      go false bad = rw (e, bad) refl

  pub left_same : f after ≡ f before → f left ≡ f before
  left_same same = go (is_accepted r) refl
    where
      go : (b : Bool) → is_accepted r ≡ b → f left ≡ f before
      go true good = rw (e, good) same
      go false bad = rw (e, bad) refl

-- an accepted order's records have room
pub records_fit : (d : Day) (b ps : List ℕ) (ask : Ask) (rooms : Rooms) → is_sound d b ps ≡ true → is_accepted (asked_answer d b ps ask rooms) ≡ true
    → length (records_of d b ps ask) ≤ rooms.records
unfolding counts_by records_of
records_fit d b ps ask rooms whole taken = (accepted d b ps rooms ask (ap is_accepted (sound_reply d b ps ask rooms whole) ∙ taken)).listed.records

-- an order whose records go to a flat run, from its first place on
module _ (d : Day) (b ps : List ℕ) (ask : Ask) (whole : is_sound d b ps ≡ true) (o : Out) (z : o.at ≡ 0) (investor fund : List ℕ) where
  abbrev lent : Lent
  lent = lent_of o.run.now investor fund

  abbrev answer : Reply
  answer = asked_answer d b ps ask (rooms_beside (room_left o) investor fund)

  -- its answer
  pub flat_answer : answer ≡ asked_answer d b ps ask (rooms_in lent)
  unfolding rooms_in
  flat_answer = ap (λ (k : ℕ). asked_answer d b ps ask (rooms_beside k investor fund)) (room_first o z)

  -- and its lists
  module _ {left : Out} (e : left ≡ if_accepted answer (put_all with_record o (records_of d b ps ask)) o) where
    pub flat_same : left.run.ghost_name ≡ o.run.ghost_name
    flat_same = left_same (λ (o : Out). o.run.ghost_name) answer _ _ e (same_run (records_of d b ps ask) o)

    pub flat_left : {own other : List ℕ} → own ≡ if_accepted answer (with_reports (reports_of d b ps ask) investor) investor
        → other ≡ if_accepted answer (with_reports (map opposite (reports_of d b ps ask)) fund) fund
        → lent_of left.run.now own other ≡ answered_lists d b ps ask lent
    unfolding records_of with_order
    flat_left {own} {other} i f =
        let records : left.run.now ≡ if_accepted answer (with_records (records_of d b ps ask) o.run.now) o.run.now =
        left_part (λ (o : Out). o.run.now) answer _ _ e (λ good. put_first (records_of d b ps ask) o z (records_fit d b ps ask _ whole good)) in
        rw (records, i, f, flat_answer) (go (is_accepted (asked_answer d b ps ask (rooms_in lent))))
      where
        go : (x : Bool)
            → lent_of (cond x (with_records (records_of d b ps ask) o.run.now) o.run.now) (cond x (with_reports (reports_of d b ps ask) investor) investor)
            (cond x (with_reports (map opposite (reports_of d b ps ask)) fund) fund)
            ≡ cond x (with_asked d b ps ask lent) lent
        go true = refl
        go false = refl

-- what the tests of an order are found by
pub ruleset tested_laws = (form_ready, asked_staged, form_is, refused)
