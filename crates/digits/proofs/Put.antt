-- Bytes written into a lent output, one write after another.
use Rattle.std.proofs.lemmas.Grind.{common_steps}
use mathlib.Core.Path.{◌≡◌, sym, ap, ap₂, ◌∙◌}
use mathlib.Core.List.{List, [], ◌∷◌, ◌++◌, append_assoc}
use Prim.Native.Nat.{ℕ, ◌+◌, ◌≤◌, ◌<◌}
use native.Mathlib.Omega.{arith}
use native.Mathlib.Numerals.{add-one}
use native.Mathlib.Nat.{add_assoc, add-zero}
use lib.ListN.{length, take, drop, set, length-set, length-append, length-take, length-drop, take-append-drop}
use lib.Seq.{set_split, take_at, drop_at, drop-drop}
use borrow.Rule.Slice.PartMut.{put_mid}
use Rattle.digits.specs.Written.{put, Written}

-- nothing written
pub put-nil : (d : List ℕ) (at : ℕ) → put d at [] ≡ d
unfolding put
put-nil d at = rw (add-zero, take-append-drop)

module _ (d : List ℕ) (at : ℕ) (xs : List ℕ) (fits : at + length xs ≤ length d) where
  front_length : length (take at d ++ xs) ≡ at + length xs
  front_length = simp (length-append, length-take) (omega arith)

  pub put-length : length (put d at xs) ≡ length d
  unfolding put
  put-length = simp (length-append, length-take, length-drop) (omega arith)

  take_put : take (at + length xs) (put d at xs) ≡ take at d ++ xs
  unfolding put
  take_put = rw (← append_assoc) (take_at (take at d ++ xs) (drop (at + length xs) d) (at + length xs) front_length)

  drop-put : drop (at + length xs) (put d at xs) ≡ drop (at + length xs) d
  unfolding put
  drop-put = rw (← append_assoc) (drop_at (take at d ++ xs) (drop (at + length xs) d) (at + length xs) front_length)

-- what is written behind what was written
put-put : (d : List ℕ) (at : ℕ) (xs ys : List ℕ) → at + length xs + length ys ≤ length d
    → put (put d at xs) (at + length xs) ys ≡ put d at (xs ++ ys)
unfolding put
put-put d at xs ys h =
    let f : at + length xs ≤ length d = omega arith in
    let e : drop (at + length xs + length ys) (put d at xs) ≡ drop (at + length xs + length ys) d =
    sym (drop-drop (length ys) (at + length xs) (put d at xs))
    ∙ ap (drop (length ys)) (drop-put d at xs f)
    ∙ drop-drop (length ys) (at + length xs) d
    in
    ap₂ (λ (a b : List ℕ). a ++ (ys ++ b)) (take_put d at xs f) e ∙ simp (append_assoc, length-append, add_assoc)

-- what is written in front of what was written
pub put_front : (d : List ℕ) (at : ℕ) (xs ys : List ℕ) → at + length xs + length ys ≤ length d
    → put (put d (at + length xs) ys) at xs ≡ put d at (xs ++ ys)
unfolding put
put_front d at xs ys h = grind (arith, common_steps)

-- a store is a `put` of one byte
pub set-put : (d : List ℕ) (p b : ℕ) → p < length d → set d p b ≡ put d p (b ∷ [])
unfolding put
set-put d p b h = set_split d p b h ∙ ap (λ (k : ℕ). take p d ++ b ∷ drop k d) (sym (add-one p))

-- one byte more, in front of what was written
pub put-before : (d : List ℕ) (p b : ℕ) (xs : List ℕ) → p + 1 + length xs ≤ length d → set (put d (p + 1) xs) p b ≡ put d p (b ∷ xs)
put-before d p b xs h = set-put (put d (p + 1) xs) p b (omega (arith, put-length d (p + 1) xs h)) ∙ put_front d p (b ∷ []) xs h

-- two writes, one behind the other
pub written_then : {d d₁ d₂ : List ℕ} {at p q : ℕ} {xs ys : List ℕ} → Written d at xs d₁ p → Written d₁ p ys d₂ q
    → at + length xs + length ys ≤ length d → Written d at (xs ++ ys) d₂ q
written_then {d} {d₁} {d₂} {at} {p} {q} {xs} {ys} u v h =
    record {
      bytes = v.bytes ∙ rw (u.bytes, u.next) (put-put d at xs ys h);
      next = v.next ∙ rw (u.next, length-append) (omega arith);
    }

pub written-length : {d d₁ : List ℕ} {at p : ℕ} {xs : List ℕ} → Written d at xs d₁ p → at + length xs ≤ length d → length d₁ ≡ length d
written-length {d} {d₁} {at} {p} {xs} u h = rw u.bytes (put-length d at xs h)

-- what is written into a part, as the borrow checker has it
pub written_part : (d : List ℕ) (at k : ℕ) (xs ys : List ℕ) (next : ℕ) → ys ≡ xs → k ≡ length xs → next ≡ at + k → Written d at xs (put_mid at k d ys) next
unfolding put
written_part d at k xs ys next e l n = record { bytes = rw (e, ← l) (ap (λ (z : List ℕ). take at d ++ (xs ++ z)) (drop-drop k at d)); next = n ∙ rw l }

-- ---- a loop that writes one byte a turn: after i turns xs is written
pub record Growing (d : List ℕ) (at : ℕ) (xs : List ℕ) (d' : List ℕ) (i : ℕ) : Type 0 where
  pub bytes : d' ≡ put d at xs
  pub count : length xs ≡ i
  pub long : length d' ≡ length d

put-snoc : (d : List ℕ) (at : ℕ) (xs : List ℕ) (b : ℕ) → at + length xs < length d → set (put d at xs) (at + length xs) b ≡ put d at (xs ++ b ∷ [])
put-snoc d at xs b h = grind (arith, common_steps, set-put, put-length, put-put)

pub growing_again : (d : List ℕ) (at : ℕ) (xs ys d' : List ℕ) (i b : ℕ) → Growing d at xs d' i → at + i < length d → ys ≡ xs ++ b ∷ []
    → Growing d at ys (set d' (at + i) b) (i + 1)
growing_again d at xs ys d' i b g h e =
    record {
      bytes = ap (λ (x : List ℕ). set x (at + i) b) g.bytes ∙ rw (← g.count, e) (put-snoc d at xs b (omega (arith, g.count)));
      count = rw e (length-append xs (b ∷ []) ∙ omega (arith, g.count));
      long = length-set d' (at + i) b ∙ g.long;
    }
