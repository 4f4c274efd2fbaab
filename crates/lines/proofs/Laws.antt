-- Laws of specs/Lines.antt: a line in a text and as it is written, words, field lines and bytes.
use Rattle.std.proofs.lemmas.Grind.{common_steps}
use mathlib.Core.Path.{◌≡◌, refl, sym, ap, ap₂, ◌∙◌}
use mathlib.Core.Bool.{Bool, true, false, not, ◌&&◌, true≢false, false≢true}
use Rattle.std.proofs.lemmas.Bool.{and_parts}
use mathlib.Core.List.{List, [], ◌∷◌, ◌++◌}
use Prim.Native.Nat.{ℕ, zero, suc, ◌+◌, ◌≤◌, ◌<◌, zero-le}
use native.Mathlib.Numerals.{add-one}
use native.Mathlib.Omega.{arith}
use lib.Dec.{eqb}
use lib.ListN.{length, get_or, take, drop, length-append, length-take, take-append-drop}
use lib.Seq.{length-take-le, take-append_seam, get_or-append_seam, drop-append-add, split_at}
use borrow.Author.Tests.{lt-ltb, ltb-true, eq-eqb, ne_eqb, eqb-true, not-true}
use Rattle.sequences.specs.Every.{inside}
use Rattle.sequences.proofs.Every.{every_none, every_more, every_at}
use Rattle.lines.specs.Lines.{end_at, len_after, line_len, other_byte, ended, first_line, line_text, same_by, same, same_in_any_case, is_named, name_byte, letter_byte, all_bytes}

-- A line of a text.

-- the length of a line by whether it ends at once
len_le : (t : Bool) (n m : ℕ) → n ≤ m → len_after t n ≤ suc m
len_le true n m h = zero-le
len_le false n m h = omega arith

-- a line lies within its text
pub line-le : (s : List ℕ) → line_len s ≤ length s
unfolding line_len
line-le [] = zero-le
line-le (b ∷ r) = len_le (eqb b 13 && eqb (get_or r 0 0) 10) (line_len r) (length r) (line-le r)

-- the line's bytes are as many as its length says
pub first-length : (s : List ℕ) → length (first_line s) ≡ line_len s
unfolding first_line
first-length s = length-take-le (line_len s) s (line-le s)

-- the bytes of the first line and its end, where the text is b and then r
first_bytes : (b : ℕ) (r : List ℕ) (t : Bool) → (eqb b 13 && eqb (get_or r 0 0) 10) ≡ t
    → (line_len r < length r → take (line_len r + 2) r ≡ take (line_len r) r ++ 13 ∷ 10 ∷ [])
    → len_after t (line_len r) < suc (length r)
    → take (len_after t (line_len r) + 2) (b ∷ r) ≡ take (len_after t (line_len r)) (b ∷ r) ++ 13 ∷ 10 ∷ []
first_bytes b [] true e f h = absurd (false≢true (and_parts (eqb b 13) false e).1)
first_bytes b (c ∷ r) true e f h = grind (arith, common_steps)
first_bytes b r false e f h = grind (arith, common_steps)

-- the same of any text
end_bytes : (s : List ℕ) → line_len s < length s → take (line_len s + 2) s ≡ take (line_len s) s ++ 13 ∷ 10 ∷ []
unfolding line_len
end_bytes [] h = absurd (omega arith)
end_bytes (b ∷ r) h = first_bytes b r (eqb b 13 && eqb (get_or r 0 0) 10) refl (end_bytes r) h

-- a line that has its end: its bytes, 0D 0A, and the rest
pub line_bytes : (s : List ℕ) → ended s ≡ true → take (line_len s + 2) s ≡ line_text (first_line s)
unfolding ended first_line line_text
line_bytes s e = end_bytes s (ltb-true _ _ e)

pub ended_split : (s : List ℕ) → ended s ≡ true → s ≡ line_text (first_line s) ++ drop (line_len s + 2) s
ended_split s e =
    sym (take-append-drop (line_len s + 2) s) ∙ ap (λ (l : List ℕ). l ++ drop (line_len s + 2) s) (line_bytes s e)

-- the end of a line adds two bytes
pub length-line_text : (l : List ℕ) → length (line_text l) ≡ length l + 2
unfolding line_text
length-line_text l = length-append l (13 ∷ 10 ∷ [])

-- 0D 0A has room
pub line_room : (s : List ℕ) → line_len s < length s → line_len s + 2 ≤ length s
line_room s h =
    let front = length-take-le (line_len s) s (line-le s) in
    omega (arith, ap length (end_bytes s h), length-take (line_len s + 2) s, length-append (take (line_len s) s) (13 ∷ 10 ∷ []))

-- 0D 0A behind n bytes, none of which is 0D, ends the first line
pub plain_len : (s : List ℕ) (n : ℕ) → n < length s → end_at s n ≡ true → all_bytes other_byte (take n s) ≡ true → line_len s ≡ n
unfolding line_len end_at all_bytes other_byte
plain_len [] n h e p = absurd (omega arith)
plain_len (b ∷ r) zero h e p = rw e
plain_len (b ∷ r) (suc n) h e p =
    let i = and_parts (not (eqb b 13)) (all_bytes other_byte (take n r)) p in
    let rest : line_len r ≡ n = plain_len r n (omega arith) (rw (add-one n) (rw (add-one (suc n)) at e)) i.1 in
    rw (not-true (eqb b 13) i.0, rest, add-one)

-- A line as it is written, where no byte of it is 0D.

-- no byte is 0D
abbrev pub no_cr : List ℕ → Bool
no_cr l = all_bytes other_byte l

-- reading what is written: the length, the end and the bytes of the line
pub line_written : (l t : List ℕ) → no_cr l ≡ true → line_len (line_text l ++ t) ≡ length l
unfolding line_len all_bytes other_byte line_text
line_written [] t e = refl
line_written (b ∷ l) t e =
    let p = and_parts (not (eqb b 13)) (no_cr l) e in
    rw (not-true (eqb b 13) p.0) (omega (arith, line_written l t p.1))

pub ended_written : (l t : List ℕ) → no_cr l ≡ true → ended (line_text l ++ t) ≡ true
unfolding ended
ended_written l t e = grind (arith, common_steps, line_written, length-line_text)

pub first_written : (l t : List ℕ) → no_cr l ≡ true → first_line (line_text l ++ t) ≡ l
unfolding first_line line_text
first_written l t e = grind (arith, common_steps, line_written)

-- Words.

module _ (f : ℕ → ℕ) where
  -- a word is the same as itself
  pub same_refl : (l : List ℕ) → same_by f l l ≡ true
  unfolding same_by
  same_refl [] = refl
  same_refl (x ∷ l) = rw (eq-eqb (f x) (f x) refl, same_refl l)

  -- words that are the same have one length
  pub same_length : (a b : List ℕ) → same_by f a b ≡ true → length a ≡ length b
  unfolding same_by
  same_length [] [] e = refl
  same_length [] (y ∷ b) e = absurd (false≢true e)
  same_length (x ∷ a) [] e = absurd (false≢true e)
  same_length (x ∷ a) (y ∷ b) e = ap suc (same_length a b (and_parts (eqb (f x) (f y)) (same_by f a b) e).1)

-- the same bytes are one list
pub same_is : (a b : List ℕ) → same a b ≡ true → a ≡ b
unfolding same same_by
same_is [] [] e = refl
same_is [] (y ∷ b) e = absurd (false≢true e)
same_is (x ∷ a) [] e = absurd (false≢true e)
same_is (x ∷ a) (y ∷ b) e =
    let p = and_parts (eqb x y) (same a b) e in
    ap₂ (λ (h : ℕ) (t : List ℕ). h ∷ t) (eqb-true x y p.0) (same_is a b p.1)

-- A field line: a name, "=" and a value.

-- a line of a name, "=" and a value is named so, and its value is the one written
pub named_written : (n v : List ℕ) → is_named n (n ++ 61 ∷ v) ≡ true
unfolding is_named same_in_any_case
named_written n v =
    grind (arith, common_steps, every_more, lt-ltb, length-append, eq-eqb, get_or-append_seam, take-append_seam, same_refl, every_none)

pub value_written : (n v : List ℕ) → drop (length n + 1) (n ++ 61 ∷ v) ≡ v
value_written n v = drop-append-add n (61 ∷ v) 1

-- a named line is longer than its name
pub named_long : (n l : List ℕ) → is_named n l ≡ true → length n < length l
unfolding is_named
named_long n l e = ltb-true _ _ (every_at _ e 0)

-- a named line is a name of the same length, "=" and its value
pub named_split : (n l : List ℕ) → is_named n l ≡ true → l ≡ take (length n) l ++ 61 ∷ drop (length n + 1) l
unfolding is_named
named_split n l e =
    split_at l (length n) 0 (named_long n l e)
    ∙ ap₂ (λ (b k : ℕ). take (length n) l ++ b ∷ drop k l) (eqb-true _ _ (every_at _ e 1)) (sym (add-one (length n)))

-- Bytes.

-- bytes that pass, one list behind the other
pub all_append : (p : ℕ → Bool) (a b : List ℕ) → all_bytes p a ≡ true → all_bytes p b ≡ true → all_bytes p (a ++ b) ≡ true
unfolding all_bytes
all_append p [] b e f = f
all_append p (x ∷ a) b e f = grind (arith, common_steps)

-- bytes that pass a test pass a weaker one
pub all_imply : (p q : ℕ → Bool) → ((b : ℕ) → p b ≡ true → q b ≡ true)
    → (l : List ℕ) → all_bytes p l ≡ true → all_bytes q l ≡ true
unfolding all_bytes
all_imply p q f [] e = refl
all_imply p q f (b ∷ l) e =
    let i = and_parts (p b) (all_bytes p l) e in
    rw (f b i.0, all_imply p q f l i.1)

-- bytes that pass a test which 0D does not
pub bytes-no_cr : (p : ℕ → Bool) → p 13 ≡ false → (l : List ℕ) → all_bytes p l ≡ true → no_cr l ≡ true
unfolding other_byte
bytes-no_cr p f = all_imply p other_byte (λ b e. rw (ne_eqb b 13 (λ z. true≢false (sym e ∙ ap p z ∙ f))))

-- no byte of a name is 0D
pub names-no_cr : (l : List ℕ) → all_bytes name_byte l ≡ true → no_cr l ≡ true
unfolding name_byte
names-no_cr = bytes-no_cr name_byte refl

-- no letter and no digit is 0D
pub letters-no_cr : (l : List ℕ) → all_bytes letter_byte l ≡ true → no_cr l ≡ true
unfolding letter_byte inside
letters-no_cr = bytes-no_cr letter_byte refl
