-- Walks over numbers. A loop that walks i up to e keeps `whole ≡ first_from f (e - i) i`, or the like of `all_from`: the laws
-- `_go`, `_stop` and `_done` take that to the next turn or to the answer. Assumes nothing.
use mathlib.Core.Path.{◌≡◌, refl, sym, ◌∙◌}
use mathlib.Core.Logic.{⊎_elim}
use mathlib.Core.Bool.{Bool, true, false, ◌&&◌, cond, and-eq-true_iff, and_assoc, and-true}
use Prim.Native.Nat.{ℕ, zero, suc, ◌+◌, ◌-◌, ◌≤◌, ◌<◌}
use native.Mathlib.Nat.{eq-or-lt_of_le}
use native.Mathlib.Numerals.{add-one}
use native.Mathlib.Omega.{arith}
use Rattle.words.specs.Search.{first_from, all_from}

turn : {e i : ℕ} → i < e → e - i ≡ suc (e - (i + 1))
turn l = omega arith

over : {e i : ℕ} → e ≤ i → e - i ≡ 0
over l = omega arith

module _ (f : ℕ → Bool) (e i : ℕ) where
  pub first_from_go : {whole : ℕ} → whole ≡ first_from f (e - i) i → i < e → f i ≡ false → whole ≡ first_from f (e - (i + 1)) (i + 1)
  unfolding first_from
  first_from_go w l h = w ∙ rw (turn l, h, add-one)

  pub first_from_stop : {whole : ℕ} → whole ≡ first_from f (e - i) i → i < e → f i ≡ true → i ≡ whole
  unfolding first_from
  first_from_stop w l h = sym (w ∙ rw (turn l, h))

  pub first_from_done : {whole : ℕ} → whole ≡ first_from f (e - i) i → e ≤ i → i ≡ whole
  unfolding first_from
  first_from_done w l = sym (w ∙ rw (over l))

  -- a loop that tests them all and keeps in `passed` whether each has passed
  pub all_from_go : {whole : Bool} (passed : Bool) → whole ≡ (passed && all_from f (e - i) i) → i < e
      → whole ≡ ((passed && f i) && all_from f (e - (i + 1)) (i + 1))
  unfolding all_from
  all_from_go passed w l = w ∙ rw (turn l, add-one, and_assoc passed (f i) (all_from f (e - suc i) (suc i)))

  pub all_from_done : {whole : Bool} (passed : Bool) → whole ≡ (passed && all_from f (e - i) i) → e ≤ i → passed ≡ whole
  unfolding all_from
  all_from_done passed w l = sym (w ∙ rw (over l, and-true passed))

-- every number before it fails
pub first_from_none : (f : ℕ → Bool) (n i k : ℕ) → i ≤ k → k < first_from f n i → f k ≡ false
unfolding first_from
first_from_none f zero i k a l = absurd (omega arith)
first_from_none f (suc n) i k a l = go (f i) (first_from f n (suc i)) refl (first_from_none f n (suc i) k) l
  where
    go : (b : Bool) (x : ℕ) → f i ≡ b → (i < k → k < x → f k ≡ false) → k < cond b i x → f k ≡ false
    go true x e r l = absurd (omega arith)
    go false x e r l = ⊎_elim (λ q. rw (← q) e) (λ m. r m l) (eq-or-lt_of_le a)

-- it passes, where it is one of them
pub first_from_passes : (f : ℕ → Bool) (n i : ℕ) → first_from f n i < i + n → f (first_from f n i) ≡ true
unfolding first_from
first_from_passes f zero i l = absurd (omega arith)
first_from_passes f (suc n) i l = go (f i) refl l (first_from_passes f n (suc i))
  where
    go : (b : Bool) → f i ≡ b → cond b i (first_from f n (suc i)) < i + suc n
        → (first_from f n (suc i) < suc i + n → f (first_from f n (suc i)) ≡ true) → f (cond b i (first_from f n (suc i))) ≡ true
    go true e l r = e
    go false e l r = r (omega arith)

pub all_from_all : (f : ℕ → Bool) (n i : ℕ) → ((k : ℕ) → i ≤ k → k < i + n → f k ≡ true) → all_from f n i ≡ true
unfolding all_from
all_from_all f zero i h = refl
all_from_all f (suc n) i h = rw (h i (omega arith) (omega arith)) (all_from_all f n (suc i) (λ k a b. h k (omega arith) (omega arith)))

pub all_from_at : (f : ℕ → Bool) (n i : ℕ) → all_from f n i ≡ true → (k : ℕ) → i ≤ k → k < i + n → f k ≡ true
unfolding all_from
all_from_at f zero i h k a b = absurd (omega arith)
all_from_at f (suc n) i h k a b =
    let (here, rest) = (and-eq-true_iff (f i) (all_from f n (suc i))).0 h in
    ⊎_elim (λ q. rw (← q) here) (λ m. all_from_at f n (suc i) rest k m (omega arith)) (eq-or-lt_of_le a)
