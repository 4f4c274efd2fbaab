-- An account's stretch as it fills from the front, three numbers at a time.
use mathlib.Core.Path.{◌≡◌, sym, ◌∙◌}
use mathlib.Core.List.{List, [], ◌∷◌, ◌++◌}
use Prim.Native.Nat.{ℕ, suc, ◌+◌, ◌≤◌, ◌<◌}
use native.Mathlib.Omega.{arith}
use lib.ListN.{length, get_or, take, drop, set, length-set, length-append}
use lib.Seq.{sets-eq, take_at, take_all, length-take-le}
use Rattle.sequences.specs.Below.{join_below}
use Rattle.sequences.proofs.Below.{join-none, join_more}
use Rattle.layout.specs.Places.{line_width}
use Rattle.layout.specs.Book.{width_of, line_from, put_lots}
use Rattle.rules.specs.Opening.{cash_opened, held_opened, opened_stretch}

-- three numbers from a place on
unfoldable pub put_three : ℕ → ℕ → ℕ → ℕ → List ℕ → List ℕ
put_three at a b c s = set (set (set s at a) (at + 1) b) (at + 2) c

pub three-length : (at a b c : ℕ) (s : List ℕ) → length (put_three at a b c s) ≡ length s
unfolding put_three
three-length at a b c s = simp length-set

-- what stands as far as the three numbers
three_front : (at a b c : ℕ) (s : List ℕ) → at + line_width ≤ length s → take (at + line_width) (put_three at a b c s) ≡ take at s ++ (a ∷ b ∷ c ∷ [])
unfolding put_three
three_front at a b c s h =
    let one : at + 1 ≡ suc at = omega arith in
    let two : at + 2 ≡ suc (suc at) = omega arith in
    let front : length (take at s) ≡ at = length-take-le at s (omega arith) in
    let cut : (t : List ℕ) → take (at + line_width) ((take at s ++ (a ∷ b ∷ c ∷ [])) ++ t) ≡ take at s ++ (a ∷ b ∷ c ∷ []) =
    λ t. take_at (take at s ++ (a ∷ b ∷ c ∷ [])) t (at + line_width) (rw length-append (omega arith)) in
    rw (one, two, sets-eq (a ∷ b ∷ c ∷ []) s at h) (cut (drop (at + line_width) s))

-- a stretch that is opened as far as line l
pub record Fronted (n : ℕ) (h : List ℕ) (l : ℕ) (s : List ℕ) : Type 0 where
  pub size : length s ≡ width_of n
  pub front : take (line_from l) s ≡ cash_opened h ∷ 0 ∷ 0 ∷ join_below (λ l. held_opened l h ∷ 0 ∷ 0 ∷ []) l

module _ (n : ℕ) (h s t : List ℕ) where
  pub fronted_none : length s ≡ width_of n → t ≡ set (set (set s 0 (get_or h 0 0)) 1 0) 2 0 → Fronted n h 0 t
  unfolding cash_opened put_three
  fronted_none k e =
      record {
        size = rw e (three-length 0 (get_or h 0 0) 0 0 s ∙ k);
        front = rw e (three_front 0 (get_or h 0 0) 0 0 s (omega arith) ∙ rw join-none);
      }

  pub fronted_more : (l : ℕ) → l < n + 1 → t ≡ put_lots s l (record { old = get_or h (1 + l) 0; bought = 0; got = 0 }) → Fronted n h l s → Fronted n h (l + 1) t
  unfolding held_opened put_three put_lots
  fronted_more l k e f =
      let next : line_from (l + 1) ≡ line_from l + line_width = omega arith in
      record {
        size = rw e (three-length (line_from l) (get_or h (1 + l) 0) 0 0 s ∙ f.size);
        front = rw (e, next, three_front (line_from l) (get_or h (1 + l) 0) 0 0 s (omega (arith, f.size)), f.front, join_more);
      }

pub fronted_all : (n : ℕ) (h s : List ℕ) (l : ℕ) → l ≡ n + 1 → Fronted n h l s → s ≡ opened_stretch n h
unfolding opened_stretch
fronted_all n h s l e f = sym (take_all (line_from l) s (omega (arith, f.size))) ∙ f.front ∙ rw e
