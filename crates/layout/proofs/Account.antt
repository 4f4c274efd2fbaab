-- Laws of an account's stretch: what a change of a head number, of one line or of each line leaves of the others.
use mathlib.Core.Path.{◌≡◌, refl, sym, ap, subst, ◌∙◌}
use mathlib.Core.Logic.{◌≢◌, ⊎_elim}
use mathlib.Core.List.{List, []}
use Prim.Native.Nat.{ℕ, zero, suc, ◌+◌, ◌-◌, ◌*◌, ◌≤◌, ◌<◌}
use native.Mathlib.Nat.{eq-or-lt_of_le, le_of_suc-le-suc, not-suc-le-zero, mul-suc}
use native.Mathlib.Numerals.{add-one}
use native.Mathlib.Omega.{arith}
use lib.ListN.{length, get_or, take, drop, set, length-set}
use lib.Seq.{get_or-set_other, get_or-set_same, get_or-take, get_or-drop}
use Rattle.std.proofs.lemmas.List.{take_rest}
use Rattle.std.specs.Simd.{first_chunks}
use Rattle.lots.specs.declared.Lots.{Lots}
use Rattle.lots.proofs.Laws.{lots-eq}
use Rattle.layout.specs.Places.{lines_from, line_width}
use Rattle.layout.specs.Book.{head_at, put_head, lots_at, put_lots, on_line, each_line, line_from, behind_line}

-- a number of a part of w numbers
pub part_at : (w n : ℕ) (xs : List ℕ) (i k : ℕ) → i < n → k < w → get_or (get_or (first_chunks w n xs) i []) k 0 ≡ get_or xs (w * i + k) 0
part_at w zero xs i k h l = absurd (omega arith)
part_at w (suc n) xs zero k h l = get_or-take w xs k 0 l ∙ ap (λ (j : ℕ). get_or xs j 0) (omega arith)
part_at w (suc n) xs (suc i) k h l = part_at w n (drop w xs) i k (omega arith) l ∙ get_or-drop w xs (w * i + k) 0 ∙ ap (λ (j : ℕ). get_or xs j 0) (rw mul-suc (omega arith))

-- the lots of a line are the parts of three numbers behind the head
pub line_at : (s : List ℕ) (n l : ℕ) (lines : List (List ℕ)) → lines ≡ first_chunks line_width n (take (length s - lines_from) (drop lines_from s)) → l < n
    → record { old = get_or (get_or lines l []) 0 0; bought = get_or (get_or lines l []) 1 0; got = get_or (get_or lines l []) 2 0 } ≡ lots_at s l
unfolding lots_at
line_at s n l lines e h =
    let read : (k : ℕ) → k < line_width → get_or (get_or lines l []) k 0 ≡ get_or s (line_from l + k) 0 =
    λ k m. rw (e, take_rest s lines_from) (part_at line_width n (drop lines_from s) l k h m) ∙ get_or-drop lines_from s (line_width * l + k) 0 ∙ ap (λ (j : ℕ). get_or s j 0) (omega arith) in
    lots-eq (read 0 (omega arith) ∙ ap (λ (j : ℕ). get_or s j 0) (omega arith)) (read 1 (omega arith)) (read 2 (omega arith))

-- three stores from place i on
module _ (s : List ℕ) (i a b c : ℕ) where
  abbrev three : List ℕ
  three = set (set (set s i a) (i + 1) b) (i + 2) c

  three_other : (j : ℕ) → j ≢ i → j ≢ i + 1 → j ≢ i + 2 → get_or three j 0 ≡ get_or s j 0
  three_other j p q r = simp get_or-set_other

  three_old : i + 2 < length s → get_or three i 0 ≡ a
  three_old h =
      let q : i ≢ i + 1 = omega arith in
      let r : i ≢ i + 2 = omega arith in
      let l : i < length s = omega arith in
      simp (get_or-set_other, get_or-set_same)

  three_bought : i + 2 < length s → get_or three (i + 1) 0 ≡ b
  three_bought h =
      let q : i + 1 ≢ i + 2 = omega arith in
      let l : i + 1 < length (set s i a) = simp length-set (omega arith) in
      simp (get_or-set_other, get_or-set_same)

  three_got : i + 2 < length s → get_or three (i + 2) 0 ≡ c
  three_got h =
      let l : i + 2 < length (set (set s i a) (i + 1) b) = simp length-set (omega arith) in
      simp get_or-set_same

-- a head number changed: 0 cash, 1 created, 2 redeemed
module _ (k v : ℕ) (s : List ℕ) where
  pub put-head-length : length (put_head k v s) ≡ length s
  unfolding put_head
  put-head-length = length-set s k v

  pub head-put-same : k < length s → head_at (put_head k v s) k ≡ v
  unfolding put_head head_at
  head-put-same h = get_or-set_same s k v 0 h

  pub head-put-other : (j : ℕ) → j ≢ k → head_at (put_head k v s) j ≡ head_at s j
  unfolding put_head head_at
  head-put-other j n = get_or-set_other s k j v 0 n

  pub lots-put-head : k < lines_from → (l : ℕ) → lots_at (put_head k v s) l ≡ lots_at s l
  unfolding put_head lots_at
  lots-put-head h l =
      lots-eq
      (get_or-set_other s k (line_from l) v 0 (omega arith))
      (get_or-set_other s k (line_from l + 1) v 0 (omega arith))
      (get_or-set_other s k (line_from l + 2) v 0 (omega arith))

-- one line changed
module _ (f : Lots → Lots) (i : ℕ) (s : List ℕ) where
  pub on_length : length (on_line f i s) ≡ length s
  unfolding on_line put_lots
  on_length = simp length-set

  pub head_on : (k : ℕ) → k < lines_from → head_at (on_line f i s) k ≡ head_at s k
  unfolding on_line put_lots head_at
  head_on k h =
      let y = f (lots_at s i) in
      three_other s (line_from i) y.old y.bought y.got k (omega arith) (omega arith) (omega arith)

  pub on_other : (j : ℕ) → j ≢ i → lots_at (on_line f i s) j ≡ lots_at s j
  unfolding on_line lots_at put_lots
  on_other j n =
      let y = f (lots_at s i) in
      let o = three_other s (line_from i) y.old y.bought y.got in
      lots-eq
      (o (line_from j) (omega arith) (omega arith) (omega arith))
      (o (line_from j + 1) (omega arith) (omega arith) (omega arith))
      (o (line_from j + 2) (omega arith) (omega arith) (omega arith))

  pub on_same : behind_line i ≤ length s → lots_at (on_line f i s) i ≡ f (lots_at s i)
  unfolding on_line lots_at put_lots
  on_same h =
      let y = f (lots_at s i) in
      lots-eq
      (three_old s (line_from i) y.old y.bought y.got (omega arith))
      (three_bought s (line_from i) y.old y.bought y.got (omega arith))
      (three_got s (line_from i) y.old y.bought y.got (omega arith))

-- each line below i changed
module _ (f : ℕ → Lots → Lots) where
  pub each-length : (i : ℕ) (s : List ℕ) → length (each_line f i s) ≡ length s
  unfolding each_line
  each-length zero s = refl
  each-length (suc i) s = on_length (f i) i (each_line f i s) ∙ each-length i s

  pub head_each : (i : ℕ) (s : List ℕ) (k : ℕ) → k < lines_from → head_at (each_line f i s) k ≡ head_at s k
  unfolding each_line
  head_each zero s k h = refl
  head_each (suc i) s k h = head_on (f i) i (each_line f i s) k h ∙ head_each i s k h

  -- a line not yet reached
  pub each_later : (i : ℕ) (s : List ℕ) (j : ℕ) → i ≤ j → lots_at (each_line f i s) j ≡ lots_at s j
  unfolding each_line
  each_later zero s j h = refl
  each_later (suc i) s j h = on_other (f i) i (each_line f i s) j (omega arith) ∙ each_later i s j (omega arith)

  -- a line that was reached
  pub each_at : (i : ℕ) (s : List ℕ) (j : ℕ) → line_from i ≤ length s → j < i → lots_at (each_line f i s) j ≡ f j (lots_at s j)
  unfolding each_line
  each_at zero s j h l = absurd (not-suc-le-zero l)
  each_at (suc i) s j h l =
      ⊎_elim
      (λ e. subst (λ (k : ℕ). lots_at (on_line (f i) i (each_line f i s)) k ≡ f k (lots_at s k)) (sym e)
      (on_same (f i) i (each_line f i s) (omega (arith, each-length i s)) ∙ ap (f i) (each_later i s i (omega arith))))
      (λ b. on_other (f i) i (each_line f i s) j (omega arith) ∙ each_at i s j (omega arith) b)
      (eq-or-lt_of_le (le_of_suc-le-suc l))

  pub each_more : (i : ℕ) (s : List ℕ) → each_line f (i + 1) s ≡ on_line (f i) i (each_line f i s)
  unfolding each_line
  each_more i s = rw (add-one i)
