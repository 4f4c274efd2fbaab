-- What the code's loops and chains of tests say: of a line's length byte by byte, and of two words and of a test at each byte.
use Rattle.std.proofs.lemmas.Grind.{common_steps}
use Rattle.std.proofs.Common.{◌≡◌, refl, sym, ap, ap₂, ◌∙◌, ℕ, zero, suc, ◌+◌, ◌≤◌, ◌<◌, zero-le, zero-add, Bool, true, false, not, ◌&&◌, ◌||◌, eqb}
use Rattle.std.proofs.Common.{eq-eqb, eqb-true, lt-ltb, le-ltb, List, [], ◌∷◌, ◌++◌, map, length, length-take, get_or, take, drop, drop_of_length-le}
use Rattle.std.proofs.Common.{add-one, arith, drop-cons, Option, Some, None, MatchOption, ◌↔◌}
use Rattle.std.proofs.lemmas.Bool.{and_parts, and_from}
use Rattle.std.proofs.lemmas.Bool.Decides.{nat_tests, same_from_decides}
use Rattle.std.specs.Char.{to_ascii_lowercase}
use Rattle.std.specs.List.{list_all, list_any}
use Rattle.std.specs.Cmp.Lexicographic.{pointwise}
use mathlib.Core.Bool.{and-true, and_assoc, false≢true}
use Rattle.sequences.specs.Every.{inside}
use Rattle.lines.specs.Lines.{end_at, len_after, line_len, ended, lower, same_by, same, same_in_any_case, other_byte, all_bytes}
use Rattle.lines.proofs.Laws.{line_room}

-- A search for a line's end: no 0D 0A stands before i.

module _ (s : List ℕ) (i : ℕ) (h : i < length s) where
  line_at : line_len (drop i s) ≡ len_after (end_at s i) (line_len (drop (i + 1) s))
  unfolding line_len end_at
  line_at = grind (arith, common_steps)

  line_ends : end_at s i ≡ true → line_len (drop i s) ≡ 0
  line_ends e = line_at ∙ rw e

  line_goes_on : end_at s i ≡ false → line_len (drop i s) ≡ line_len (drop (i + 1) s) + 1
  line_goes_on e = line_at ∙ rw e

no_line : (s : List ℕ) (i : ℕ) → length s ≤ i → line_len (drop i s) ≡ 0
unfolding line_len
no_line s i h = rw (drop_of_length-le s h)

passed : (s : List ℕ) (i : ℕ) → i ≤ length s → ((k : ℕ) → k < i → end_at s k ≡ false) → line_len s ≡ i + line_len (drop i s)
passed s zero h none = sym (zero-add (line_len s))
passed s (suc i) h none =
    let before = passed s i (omega arith) (λ k l. none k (omega arith)) in
    let here : line_len (drop i s) ≡ line_len (drop (suc i) s) + 1 =
    line_goes_on s i h (none i (omega arith)) ∙ ap (λ (k : ℕ). line_len (drop k s) + 1) (add-one i)
    in
    omega (arith, before, here)

-- what the search finds is the line's length, and where it finds none no line ends
pub end_found : (s : List ℕ) (r : Option ℕ)
    → MatchOption r ((k : ℕ) → 0 ≤ k → k < length s → end_at s k ≡ false)
    (λ i. (0 ≤ i) × (i < length s) × (end_at s i ≡ true) × ((k : ℕ) → 0 ≤ k → k < i → end_at s k ≡ false))
    → MatchOption r (ended s ≡ false) (λ n. (n ≡ line_len s) × (n < length s))
unfolding ended
end_found s None h =
    let all = passed s (length s) (omega arith) (λ k l. h k zero-le l) in
    le-ltb (line_len s) (length s) (omega (arith, all))
end_found s (Some i) h =
    let before = passed s i (omega (arith, h.1)) (λ k l. h.3 k zero-le l) in
    (omega (arith, before, line_ends s i h.1 h.2), h.1)

-- what the search is to know of a line that ends, as a part of its text
pub ruleset line_parts = (nat_tests, line_room, length-take)

-- Two words.

-- byte by byte
pub same_points : (a b : List ℕ) → pointwise eqb a b ≡ same a b
unfolding same same_by
same_points [] [] = refl
same_points [] (y ∷ b) = refl
same_points (x ∷ a) [] = refl
same_points (x ∷ a) (y ∷ b) = rw (same_points a b)

module _ (f : ℕ → ℕ) where
  -- they are the same after f where they have the same letters after f
  same_mapped : (a b : List ℕ) → (same_by f a b ≡ true) ↔ (map f a ≡ map f b)
  unfolding same_by
  same_mapped [] [] = (λ e. refl, λ e. refl)
  same_mapped [] (y ∷ b) = (λ e. absurd (false≢true e), λ e. absurd (omega (arith, ap length e)))
  same_mapped (x ∷ a) [] = (λ e. absurd (false≢true e), λ e. absurd (omega (arith, ap length e)))
  same_mapped (x ∷ a) (y ∷ b) =
      let more = same_mapped a b in (
        λ e. let p = and_parts (eqb (f x) (f y)) (same_by f a b) e in
            ap₂ (λ (h : ℕ) (t : List ℕ). h ∷ t) (eqb-true (f x) (f y) p.0) (more.0 p.1),
        λ e. and_from _ _ (eq-eqb (f x) (f y) (ap (λ (l : List ℕ). get_or l 0 0) e)) (more.1 (ap (drop 1) e)),
      )

-- lower case as the library has it
lower_is : (b : ℕ) → to_ascii_lowercase b ≡ lower b
unfolding lower inside
lower_is b = grind (arith, nat_tests)

pub same_letters : (a b : List ℕ) (t : Bool) → ((t ≡ true) ↔ (map to_ascii_lowercase a ≡ map to_ascii_lowercase b)) → t ≡ same_in_any_case a b
unfolding same_in_any_case
same_letters a b t h =
    same_from_decides t (same_by to_ascii_lowercase a b) h (same_mapped to_ascii_lowercase a b)
    ∙ ap (λ (f : ℕ → ℕ). same_by f a b) (λ i b. lower_is b i)

-- A test at each byte.

module _ (p : ℕ → Bool) where
  pub all_is : (s : List ℕ) → list_all p s ≡ all_bytes p s
  unfolding all_bytes
  all_is [] = refl
  all_is (b ∷ r) = rw (all_is r)

  pub all_more : (s : List ℕ) (b : ℕ) → all_bytes p (s ++ b ∷ []) ≡ all_bytes p s && p b
  unfolding all_bytes
  all_more [] b = and-true (p b)
  all_more (x ∷ s) b = rw (all_more s b) (sym (and_assoc (p x) _ _))

-- a search for 0D finds none where every byte is another
pub none_found : (s : List ℕ) → not (list_any (λ b. eqb b 13) s) ≡ all_bytes other_byte s
unfolding all_bytes other_byte
none_found [] = refl
none_found (b ∷ r) = by_byte _ _ (eqb b 13) (none_found r)
  where
    by_byte : (more rest t : Bool) → not more ≡ rest → not (t || more) ≡ not t && rest
    by_byte more rest true e = refl
    by_byte more rest false e = e
