-- One pass over the totals, place by place: what stands when the places below j are done.
use Rattle.std.proofs.Common.{◌≡◌, ℕ, ◌+◌, ◌*◌, ◌%◌, ◌^◌, ◌<◌, ◌≤◌, Bool, ◌||◌, leb, List, length, get_or, set, sym, ap, ◌∙◌, arith}
use Rattle.std.proofs.Common.{length-set, get_or-set_other, get_or-set_same, below_more}
use lib.Bits.{bit_or}
use Rattle.sequences.specs.Below.{any_below}
use Rattle.sequences.proofs.Below.{any_more}
use Rattle.totals.specs.Totals.{top, reaches}
use Rattle.totals.proofs.Top.{or_sides}

-- the totals t₀ became t: those below j are F, wrapped, and the others as they were
pub record Pass (t₀ : List ℕ) (F : ℕ → ℕ) (j : ℕ) (t : List ℕ) : Type 0 where
  pub done : (k : ℕ) → k < j → get_or t k 0 ≡ F k % 2 ^ 64
  pub rest : (k : ℕ) → j ≤ k → get_or t k 0 ≡ get_or t₀ k 0
  pub size : length t ≡ length t₀

-- one place more: x is written
pub pass_more : {t₀ : List ℕ} {F : ℕ → ℕ} {j : ℕ} {t : List ℕ} → Pass t₀ F j t → (x : ℕ) → j < length t₀ → x ≡ F j % 2 ^ 64 → Pass t₀ F (j + 1) (set t j x)
pass_more {t₀} {F} {j} {t} p x l e =
    record {
      done = below_more (λ (k : ℕ). get_or (set t j x) k 0 ≡ F k % 2 ^ 64) j
          (λ k i. get_or-set_other t j k x 0 (λ q. omega (arith, q, i)) ∙ p.done k i)
          (get_or-set_same t j x 0 (omega (arith, p.size)) ∙ e);
      rest = λ k i. get_or-set_other t j k x 0 (λ q. omega (arith, q, i)) ∙ p.rest k (omega arith);
      size = length-set t j x ∙ p.size;
    }

-- The or h of a pass that looks at every total: it reaches 2^62 just where one of F does.
abbrev pub Seen : (F : ℕ → ℕ) (j h : ℕ) → Type 0
Seen F j h = leb top h ≡ any_below (reaches F) j

pub seen_more : (F : ℕ → ℕ) (j h g : ℕ) → Seen F j h → leb top g ≡ (leb top h || leb top (F j)) → Seen F (j + 1) g
unfolding reaches
seen_more F j h g s f = f ∙ ap (λ (b : Bool). b || leb top (F j)) s ∙ sym (any_more (reaches F) j)

-- The or h of a pass that adds blocks of eight rows, whose sums are T: where it is at most m, so is each number, and each of the sums
-- below j is at most that of eight such numbers.
abbrev pub Small : (T : ℕ → ℕ) (j h : ℕ) → Type 0
Small T j h = (m : ℕ) → h ≤ m → (k : ℕ) → k < j → T k ≤ 8 * m

pub small_more : (T : ℕ → ℕ) (j h g : ℕ) → Small T j h → ((m : ℕ) → g ≤ m → T j ≤ 8 * m) → Small T (j + 1) (bit_or h g)
small_more T j h g s l m e =
    let o = or_sides h g m e in
    below_more (λ (k : ℕ). T k ≤ 8 * m) j (s m o.0) (l m o.1)
