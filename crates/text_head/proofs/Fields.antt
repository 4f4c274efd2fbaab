-- The fields of the head: the first at fault as the code goes from line to line, and the figures before it.
use mathlib.Core.Bool.{Bool, true, false, cond, not, true≢false}
use mathlib.Core.List.{List}
use mathlib.Core.Path.{◌≡◌, refl, sym, ap, subst, subst⁻¹, ◌∙◌}
use Prim.Native.Nat.{ℕ, suc, ◌+◌, ◌-◌, ◌≤◌, ◌<◌}
use native.Mathlib.Decide.{ℕ_discrete, dec_lt}
use native.Mathlib.Numerals.{add-one}
use native.Mathlib.Omega.{arith}
use lib.Dec.{ltb}
use lib.ListN.{length, get_or, take, drop, set, replicate, length-drop, length-set, length-replicate, get_or-replicate}
use lib.Seq.{get_or-set_same, get_or-set_other}
use borrow.Author.Tests.{ne_eqb, not-false, lt-ltb, le-ltb, le-leb}
use Rattle.std.proofs.Common.{Option, Some, None, Ok, Err}
use Rattle.std.specs.Prelude.{MatchOption, ⊤}
use Rattle.std.specs.Option.{IsSome}
use Rattle.sequences.specs.Below.{first_below}
use Rattle.sequences.proofs.Below.{first_none, first_more, first_here, first_all, table_ext}
use Rattle.digits.specs.Digits.{figure_of, plain}
use Rattle.digits.specs.declared.Figure.{Figure}
use Rattle.lines.proofs.Laws.{first-length, named_long}
use Rattle.lines.specs.Lines.{is_named, ended, first_line, next_at}
use Rattle.text_rules.specs.declared.Field.{Field as LentField}
use Rattle.text_rules.specs.Tables.{Field, field_of, fields_of, field_at}
use Rattle.text_rules.specs.Head.{head_lines, field_name, is_field, is_head_line}
use Rattle.text_rules.specs.Reading.{start_of, line_of, line_stands, wrong_line, field_start, word_of, figure_read, wrong_field}
use Rattle.text_rules.specs.Well.{most_fields, fields_well}
use Rattle.text_rules.proofs.Well.{fields_few}
use Rattle.std.proofs.lemmas.List.{take_rest}
use Rattle.text_lines.proofs.Standing.{stands_facts}
use Rattle.text_head.specs.declared.WrongField.{WrongField}
use Rattle.text_head.specs.Head.{field_reading, figures_found, fields_found}
use Rattle.text_head.proofs.Shape.{past, lent_is, fields_many, wrong_at}

-- ---- a field that says something, and one that does not
module _ (f : Field) (s : List ℕ) where
  says_none : field_reading f s ≡ None → is_field f s ≡ false
  unfolding field_reading
  says_none e = case (is_field f s) refl e
    where
      case : (b : Bool) → is_field f s ≡ b → cond b (Some (figure_of f.form s)) None ≡ None → is_field f s ≡ false
      case false h g = h
      case true h g = absurd (subst (λ (x : Option Figure). MatchOption x ⊥ (λ _. ⊤)) g tt)

  says_some : (z : Figure) → field_reading f s ≡ Some z → (is_field f s ≡ true) × (figure_of f.form s ≡ z)
  unfolding field_reading
  says_some z e = case (is_field f s) refl e
    where
      case : (b : Bool) → is_field f s ≡ b → cond b (Some (figure_of f.form s)) None ≡ Some z → (is_field f s ≡ true) × (figure_of f.form s ≡ z)
      case true h g = (h, cc)
      case false h g = absurd (subst (λ (x : Option Figure). MatchOption x ⊤ (λ _. ⊥)) g tt)

module _ (fs : List Field) (text : List ℕ) where
  -- field k is at fault
  unfoldable pub fault_at : ℕ → Bool
  fault_at k = not (is_field (field_at fs k) (word_of fs text k))

  -- no field before k is at fault, their figures are kept, and field k's line starts at `at`
  pub record Fielded (figures : List Figure) (at k : ℕ) : Type 0 where
    pub place : at ≡ start_of text (suc k)
    pub within : at ≤ length text
    pub none : first_below fault_at k ≡ k
    pub size : length figures ≡ most_fields
    pub said : (i : ℕ) → i < most_fields → get_or figures i (plain 0) ≡ cond (ltb i k) (figure_read fs text i) (plain 0)

-- ---- a well-made table as it is lent, and a text in whose head no line is at fault
pub record HeadStands (table : List LentField) (fs : List Field) (text : List ℕ) : Type 0 where
  pub lent : fields_of table ≡ fs
  pub made : fields_well fs ≡ true
  pub stands : wrong_line fs text ≡ head_lines fs

pub head_stands : (table : List LentField) (fs : List Field) (text : List ℕ) → fields_of table ≡ fs → fields_well fs ≡ true → wrong_line fs text ≡ head_lines fs
    → HeadStands table fs text
head_stands table fs text lent made stands = record { lent = lent; made = made; stands = stands }

module _ {table : List LentField} {fs : List Field} {text : List ℕ} (head : HeadStands table fs text) where
  all_stand : (k : ℕ) → k < head_lines fs → line_stands (is_head_line fs k) text (start_of text k) ≡ true
  unfolding wrong_line wrong_at
  all_stand k l = not-false _ (first_all (wrong_at fs text) (head_lines fs) head.stands k l)

  line_named : (k : ℕ) → k < length fs → is_named (field_name fs k) (line_of text (start_of text (suc k))) ≡ true
  unfolding is_head_line head_lines
  line_named k l =
      let back : suc k - 1 ≡ k = omega arith in
      rw (ne_eqb (suc k) 0 (λ z. omega arith), le-leb (suc k) (length fs) (omega arith), back) at
      (stands_facts (is_head_line fs (suc k)) text (start_of text (suc k)) (all_stand (suc k) (omega arith))).1

  -- the first line has its end, and so have those of the fields
  line_ended : (k : ℕ) → k < head_lines fs → ended (drop (start_of text k) text) ≡ true
  line_ended k l = (stands_facts (is_head_line fs k) text (start_of text k) (all_stand k l)).0

  -- so none is missing, as the code looks for them
  pub first_there : {A : Type 0} (P : A → Type 0) (r : Option A) → MatchOption r (ended text ≡ false) P → IsSome r
  unfolding start_of head_lines
  first_there P None f = absurd (true≢false (sym (line_ended 0 (omega arith)) ∙ f))
  first_there P (Some x) h = refl

  pub next_there : {figures : List Figure} {at k : ℕ} → Fielded fs text figures at k → k < length table
      → {A : Type 0} (P : A → Type 0) (r : Option A) → MatchOption r (ended (take (length text - at) (drop at text)) ≡ false) P → IsSome r
  unfolding head_lines
  next_there {figures} {at} {k} v l P None f =
      absurd
      (true≢false
      (sym (line_ended (suc k) (omega (arith, fields_many table fs head.lent)))
      ∙ ap (λ (i : ℕ). ended (drop i text)) (sym v.place)
      ∙ ap ended (sym (take_rest text at))
      ∙ f))
  next_there v l P (Some x) h = refl

  pub fielded_start : {line : List ℕ} → line ≡ first_line text → length line + 2 ≤ length text → Fielded fs text (replicate most_fields (plain 0)) (length line + 2) 0
  unfolding start_of next_at head_lines
  fielded_start e r =
      record {
        place = omega (arith, ap length e, first-length text);
        within = r;
        none = first_none (fault_at fs text);
        size = length-replicate most_fields (plain 0);
        said = λ i h. get_or-replicate most_fields i (plain 0) (plain 0) h ∙ ap (λ (b : Bool). cond b (figure_read fs text i) (plain 0)) (sym (le-ltb i 0 (omega arith)));
      }

-- the figures where so many fields are read
kept_are : {fs : List Field} {text : List ℕ} {figures : List Figure} {at k : ℕ} → Fielded fs text figures at k → wrong_field fs text ≡ k → figures ≡ figures_found fs text
unfolding figures_found
kept_are {fs} {text} {figures} v e =
    table_ext (λ i. cond (ltb i (wrong_field fs text)) (figure_read fs text i) (plain 0)) most_fields (plain 0) figures v.size
    (λ i l. v.said i l ∙ ap (λ (n : ℕ). cond (ltb i n) (figure_read fs text i) (plain 0)) (sym e))

-- ---- the fields as the code goes through them
module _ {table : List LentField} {fs : List Field} {text : List ℕ} (head : HeadStands table fs text) {figures : List Figure} {at k : ℕ} (v : Fielded fs text figures at k) where
  -- the loop is done
  pub fielded_end : length table ≤ k → k ≤ length table → Ok (record { place = at; figures = figures }) ≡ fields_found fs text
  unfolding wrong_field fault_at fields_found
  fielded_end h l =
      let all : k ≡ length fs = omega (arith, fields_many table fs head.lent) in
      let e : wrong_field fs text ≡ k = ap (first_below (fault_at fs text)) (sym all) ∙ v.none in
      rw (e, le-ltb k (length fs) (omega arith), kept_are v e, v.place, all)

  -- the loop goes on with field k
  module _ (low : k < length table) where
    abbrev field : LentField
    field = get_or table k past

    inside : k < length fs
    inside = omega (arith, fields_many table fs head.lent)

    is : field_of field ≡ field_at fs k
    is = lent_is table fs head.lent k past low

    name_is : length (field_name fs k) ≡ length field.name.now
    unfolding field_name field_of
    name_is = ap (λ (x : Field). length x.name) (sym is)

    pub fielded_place : k < most_fields
    fielded_place = omega (arith, inside, fields_few fs head.made)

    module _ {line : List ℕ} (here : line ≡ first_line (take (length text - at) (drop at text))) where
      line_here : line ≡ first_line (drop at text)
      line_here = here ∙ ap first_line (take_rest text at)

      line_is : line ≡ line_of text (start_of text (suc k))
      unfolding line_of
      line_is = line_here ∙ ap (λ (i : ℕ). first_line (drop i text)) v.place

      -- the line is longer than its name
      pub fielded_room : length field.name.now + 1 ≤ length line
      fielded_room = omega (arith, named_long (field_name fs k) (line_of text (start_of text (suc k))) (line_named head k inside), ap length line_is, name_is)

      abbrev start : ℕ
      start = length field.name.now + 1

      abbrev stops : WrongField
      stops = record { field = k; place = at + start; figures = figures }

      -- the part that the code reads is the field's word
      abbrev part : List ℕ
      part = take (length line - start) (drop start line)

      word_is : part ≡ word_of fs text k
      unfolding word_of
      word_is = take_rest line start ∙ ap (λ (n : ℕ). drop (n + 1) line) (sym name_is) ∙ ap (drop (length (field_name fs k) + 1)) line_is

      fault_is : (b : Bool) → is_field (field_at fs k) part ≡ b → fault_at fs text k ≡ not b
      unfolding fault_at
      fault_is b e = ap not (ap (is_field (field_at fs k)) (sym word_is) ∙ e)

      figure_is : figure_read fs text k ≡ figure_of (field_at fs k).form part
      unfolding figure_read
      figure_is = ap (figure_of (field_at fs k).form) (sym word_is)

      -- by what the code makes of it
      module _ {x : Option Figure} (h : x ≡ field_reading (field_of field) part) where
        says : x ≡ field_reading (field_at fs k) part
        says = h ∙ ap (λ (y : Field). field_reading y part) is

        pub fielded_off : x ≡ None → Err stops ≡ fields_found fs text
        unfolding wrong_field fault_at field_start fields_found
        fielded_off i =
            let w : fault_at fs text k ≡ true = fault_is false (says_none (field_at fs k) part (sym says ∙ i)) in
            let e : wrong_field fs text ≡ k = first_here (fault_at fs text) (length fs) k inside v.none w in
            rw (← kept_are v e, e, lt-ltb k (length fs) inside, name_is, ← v.place)

        pub fielded_on : {z : Figure} → x ≡ Some z → length line + 2 ≤ length (take (length text - at) (drop at text)) → Fielded fs text (set figures k z) (at + (length line + 2)) (k + 1)
        unfolding start_of next_at
        fielded_on {z} i room =
            let p = says_some (field_at fs k) part z (sym says ∙ i) in
            let w : fault_at fs text k ≡ false = fault_is true p.0 in
            let next : at + (length line + 2) ≡ next_at text at = ap (λ (n : ℕ). at + (n + 2)) (ap length line_here ∙ first-length (drop at text)) in
            record {
              place = next ∙ rw (add-one, ← v.place);
              within = omega (arith, room, ap length (take_rest text at), length-drop at text, v.within);
              none = first_more (fault_at fs text) k v.none w;
              size = length-set figures k z ∙ v.size;
              said = more (figure_is ∙ p.1);
            }
          where
            more : figure_read fs text k ≡ z → (i : ℕ) → i < most_fields
                → get_or (set figures k z) i (plain 0) ≡ cond (ltb i (k + 1)) (figure_read fs text i) (plain 0)
            more e i g =
                elim (ℕ_discrete i k) [
                  | yes q ↦ subst⁻¹ (λ (j : ℕ). get_or (set figures k z) j (plain 0) ≡ cond (ltb j (k + 1)) (figure_read fs text j) (plain 0)) q
                      (get_or-set_same figures k z (plain 0) (omega (arith, v.size, fielded_place)) ∙ rw (lt-ltb k (k + 1) (omega arith)) (sym e))
                  | no q ↦ get_or-set_other figures k i z (plain 0) q ∙ v.said i g
                      ∙ elim (dec_lt i k) [
                        | yes l ↦ rw (lt-ltb i k l, lt-ltb i (k + 1) (omega arith))
                        | no l ↦ rw (le-ltb i k (omega arith), le-ltb i (k + 1) (omega arith))
                      ]
                ]

-- what the search goes by where the fields are gone through
pub ruleset fields_laws = (head_stands, first_there, next_there, fielded_room, fielded_place, fielded_off, fielded_end)
