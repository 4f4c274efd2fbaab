-- What an accepted and a refused list of tests say of each test, and lists of tests run one behind another.
use mathlib.Core.Path.{◌≡◌, refl, sym, ap, subst, ◌∙◌}
use mathlib.Core.Bool.{Bool, true, false, cond, not, ◌&&◌, false≢true}
use mathlib.Core.List.{List, [], ◌∷◌, ◌++◌}
use Prim.Native.Nat.{ℕ}
use native.Mathlib.Omega.{arith}
use lib.Dec.{T, T_not, ltb, eqb, ltb→lt}
use borrow.Author.Tests.{eqb-true, eq-eqb}
use Rattle.sequences.specs.Checks.{Check, Reply, reply, answering, answered, passes, is_accepted}

-- what each test says where none fails
abbrev pub Passed : List Check → Type 0
Passed [] = Unit {0}
Passed (c ∷ cs) = (c.fails ≡ false) × Passed cs

-- no refusal has the number 0
abbrev pub numbered : List Check → Bool
numbered [] = true
numbered (c ∷ cs) = ltb 0 c.number && numbered cs

and_left : (a b : Bool) → T (a && b) → T a
and_left true b t = tt
and_left false b t = t

and_right : (a b : Bool) → T (a && b) → T b
and_right true b t = t
and_right false b t = absurd t

pass : (t : Bool) (n p : ℕ) (r : Reply) → T (ltb 0 n) → eqb (cond t (reply n p 0) r).number 0 ≡ true → (t ≡ false) × (eqb r.number 0 ≡ true)
pass true n p r h e = absurd (omega (arith, ltb→lt 0 n h, eqb-true n 0 e))
pass false n p r h e = (refl, e)

-- an accepted call has passed each test
pub all_passed : (cs : List Check) (r : Reply) → T (numbered cs) → is_accepted (answering cs r) ≡ true → Passed cs
unfolding answering is_accepted
all_passed [] r t e = tt
all_passed (c ∷ cs) r t e =
    let p = pass c.fails c.number c.place (answering cs r) (and_left (ltb 0 c.number) (numbered cs) t) e in
    (p.0, all_passed cs r (and_right (ltb 0 c.number) (numbered cs) t) p.1)

-- and its reply is the accepted one
pub accepted_reply : (cs : List Check) (r : Reply) → T (numbered cs) → is_accepted (answering cs r) ≡ true → answering cs r ≡ r
unfolding answering is_accepted
accepted_reply [] r t e = refl
accepted_reply (c ∷ cs) r t e =
    let p = pass c.fails c.number c.place (answering cs r) (and_left (ltb 0 c.number) (numbered cs) t) e in
    simp p.0 (accepted_reply cs r (and_right (ltb 0 c.number) (numbered cs) t) p.1)

-- no test of the list gives the number n
abbrev pub avoids : ℕ → List Check → Bool
avoids n [] = true
avoids n (c ∷ cs) = not (eqb c.number n) && avoids n cs

-- where no test gives a number above 0, the answer has not that number
pub never_answered : (n : ℕ) (cs : List Check) (r : Reply) → r.number ≡ 0 → T (ltb 0 n) → T (avoids n cs) → (answering cs r).number ≡ n → ⊥
unfolding answering
never_answered n [] r z p t e = omega (arith, ltb→lt 0 n p)
never_answered n (c ∷ cs) r z p t e = go c.fails e (never_answered n cs r z p (and_right (not (eqb c.number n)) (avoids n cs) t))
  where
    other : c.number ≡ n → ⊥
    other q = T_not (eqb c.number n) (and_left (not (eqb c.number n)) (avoids n cs) t) (subst (λ (b : Bool). T b) (sym (eq-eqb c.number n q)) tt)

    go : (f : Bool) → (cond f (reply c.number c.place 0) (answering cs r)).number ≡ n → ((answering cs r).number ≡ n → ⊥) → ⊥
    go true q rest = other q
    go false q rest = rest q

pub passed_all : (cs : List Check) → passes cs ≡ true → Passed cs
unfolding passes
passed_all [] e = tt
passed_all (c ∷ cs) e = go c.fails refl e (passed_all cs)
  where
    go : (f : Bool) → c.fails ≡ f → (not f && passes cs) ≡ true → (passes cs ≡ true → Passed cs) → (c.fails ≡ false) × Passed cs
    go true p e rest = absurd (false≢true e)
    go false p e rest = (p, rest e)

pub passes_all : (cs : List Check) → Passed cs → passes cs ≡ true
unfolding passes
passes_all [] p = refl
passes_all (c ∷ cs) p = simp (p.0, passes_all cs p.1)

-- a list that passes is accepted
pub answered_passed : (cs : List Check) (r : Reply) → passes cs ≡ true → answering cs r ≡ r
unfolding answering
answered_passed [] r e = refl
answered_passed (c ∷ cs) r e =
    let p = passed_all (c ∷ cs) e in
    simp (p.0, answered_passed cs r (passes_all cs p.1))

-- stages: where the first passes, the answer is the second's; where it fails, its own
pub answered_next : (cs ds : List Check) (r : Reply) → passes cs ≡ true → answering (cs ++ ds) r ≡ answering ds r
unfolding answering
answered_next [] ds r e = refl
answered_next (c ∷ cs) ds r e =
    let p = passed_all (c ∷ cs) e in
    simp (p.0, answered_next cs ds r (passes_all cs p.1))

pub answered_stop : (cs ds : List Check) (r q : Reply) → passes cs ≡ false → answering (cs ++ ds) r ≡ answering cs q
unfolding answering passes
answered_stop [] ds r q e = absurd (false≢true (sym e))
answered_stop (c ∷ cs) ds r q e = go c.fails e (answered_stop cs ds r q)
  where
    go : (f : Bool) → (not f && passes cs) ≡ false → (passes cs ≡ false → answering (cs ++ ds) r ≡ answering cs q)
        → cond f (reply c.number c.place 0) (answering (cs ++ ds) r) ≡ cond f (reply c.number c.place 0) (answering cs q)
    go true e rest = refl
    go false e rest = rest e

-- stages that pass together pass each, and the other way round
pub passed_each : (cs ds : List Check) → Passed (cs ++ ds) → Passed cs × Passed ds
passed_each [] ds p = (tt, p)
passed_each (c ∷ cs) ds p =
    let q = passed_each cs ds p.1 in
    ((p.0, q.0), q.1)

pub passed_both : (cs ds : List Check) → Passed cs → Passed ds → Passed (cs ++ ds)
passed_both [] ds p q = q
passed_both (c ∷ cs) ds p q = (p.0, passed_both cs ds p.1 q)

-- Tests es inserted behind cs. They are not seen where they pass, nor where cs fails. So the answer of the list with them is the answer
-- of the list without them but where cs passes and one of them fails, and then it is theirs.
pub answered_insert : (cs es ds : List Check) (r : Reply) → (passes cs ≡ true → passes es ≡ true) → answering (cs ++ (es ++ ds)) r ≡ answering (cs ++ ds) r
answered_insert cs es ds r pass = go (passes cs) refl
  where
    go : (b : Bool) → passes cs ≡ b → answering (cs ++ (es ++ ds)) r ≡ answering (cs ++ ds) r
    go true e = answered_next cs (es ++ ds) r e ∙ answered_next es ds r (pass e) ∙ sym (answered_next cs ds r e)
    go false e = answered_stop cs (es ++ ds) r r e ∙ sym (answered_stop cs ds r r e)

pub inserted_refuses : (cs es ds : List Check) (r q : Reply) → passes cs ≡ true → passes es ≡ false → answering (cs ++ (es ++ ds)) r ≡ answering es q
inserted_refuses cs es ds r q e f = answered_next cs (es ++ ds) r e ∙ answered_stop es ds r q f

-- an accepted list has passed, and a refused one has not
pub accepted_passes : (cs : List Check) (r : Reply) → T (numbered cs) → is_accepted (answering cs r) ≡ true → passes cs ≡ true
accepted_passes cs r t e = passes_all cs (all_passed cs r t e)

pub refused_stops : (cs : List Check) (v : ℕ) → is_accepted (answered cs v) ≡ false → passes cs ≡ false
unfolding is_accepted
refused_stops cs v e = go (passes cs) refl
  where
    go : (b : Bool) → passes cs ≡ b → passes cs ≡ false
    go true q = absurd (false≢true (sym e ∙ ap (λ (r : Reply). eqb r.number 0) (answered_passed cs (reply 0 0 v) q)))
    go false q = q
