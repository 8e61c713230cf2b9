-- The rows of a policy: from the bits of its cells to the sets of the four classes, and the row of a domain. Assumes nothing.
use mathlib.Core.Path.{◌≡◌, refl, ap, sym, ◌∙◌}
use mathlib.Core.Bool.{Bool, true, ◌&&◌, ◌||◌}
use mathlib.Core.List.{List, ◌∷◌}
use Prim.Native.Nat.{ℕ, zero, suc, ◌+◌, ◌-◌, ◌*◌, ◌^◌, ◌/◌, ◌%◌, ◌≤◌, ◌<◌}
use native.Mathlib.Nat.{lt_of_lt_of_le, zero-add, pow-succ', mul_assoc}
use native.Mathlib.Numerals.{add-one}
use native.Mathlib.Omega.{arith}
use lib.Bits.{bit_and, bit_or, or_lt, and_lt}
use lib.Dec.{eqb, leb}
use lib.ListN.{length, get_or, drop, drop_of_length-le}
use lib.Pow.{pow_mono}
use Rattle.std.proofs.Math.Seq.{drop-cons}
use Rattle.std.proofs.Common.{inl, inr}
use Rattle.std.proofs.lemmas.Bool.{cases_lt}
use Rattle.std.proofs.lemmas.List.{get_or_past}
use Rattle.std.specs.Fn.{Mut, Called}
use Rattle.std.specs.Array.{IsFromFnResultFrom}
use borrow.Author.Tests.{eqb-true, leb-true, ltb-true}
use Rattle.words.specs.Search.{all_from}
use Rattle.words.specs.Sets.{bit, member}
use Rattle.words.proofs.Search.{all_from_at}
use Rattle.words.proofs.Sets.{bit_member, member_or, member_and, extensional}
use Rattle.device.specs.declared.Domain.{Domain}
use Rattle.device.specs.declared.Mode.TheVariants.{Oneshot, Session, Blanket}
use Rattle.model.specs.Policy.{Fixed, fixed_by, policy_valid}
use Rattle.device.specs.Device.{mode_of}
use Rattle.device.specs.Cells.{highest, offered, admits}
use Rattle.model.proofs.Tests.{both}
use Rattle.checks.specs.declared.Row.{Row}
use Rattle.words.specs.Numbers.{le_at}
use Rattle.checks.specs.Rows.{set_from, low_bits, those, admitting, row_of, rows_from, rows_of, RowIs}
use Rattle.checks.proofs.Sets.{set_from-lt, set_member, those_lt, those_has}

-- ---- the three bits of the cells

-- of at most 60, a set can be had sixteen times
pub set_from_small : (f : ℕ → Bool) (n i : ℕ) → n ≤ 60 → set_from f n i < 2 ^ 60
set_from_small f n i l = lt_of_lt_of_le (set_from-lt f n i) (pow_mono {j = 60} l)

module _ (b : List ℕ) (start k : ℕ) where
  -- the permissions from p on whose cell has bit k
  abbrev pub plane_from : ℕ → ℕ
  plane_from p = set_from (λ n. member (get_or b (start + n) 0) k) (64 - p) p

  -- d is worth 2 ^ k: what a word of cells, and one of its bytes, leave over
  abbrev Splits : ℕ → Type 0
  Splits d = (c w : ℕ) → c < 256 → ((c + 256 * w) / d % 2 ≡ bit c k) × ((c + 256 * w) / d / 256 ≡ w / d)

  gathered : (d : ℕ) → Splits d → ((i : ℕ) → get_or b i 0 < 256) → (n m p : ℕ)
      → low_bits n (le_at n b (start + p) / d) + 2 ^ n * set_from (λ i. member (get_or b (start + i) 0) k) m (p + n)
      ≡ set_from (λ i. member (get_or b (start + i) 0) k) (n + m) p
  unfolding low_bits le_at set_from
  gathered d h bytes zero m p =
      let e : p + 0 ≡ p = omega arith in
      let z : 0 + m ≡ m = omega arith in
      rw (e, z) (omega arith)
  gathered d h bytes (suc n) m p =
      let c = get_or b (start + p) 0 in
      let e : start + p + 1 ≡ start + suc p = omega arith in
      let q : p + suc n ≡ suc p + n = omega arith in
      let z : suc n + m ≡ suc (n + m) = omega arith in
      let (low, rest) = h c (le_at n b (start + suc p)) (bytes (start + p)) in
      rw (e, q, z, low, rest, bit_member c k, pow-succ', mul_assoc) (omega (arith, gathered d h bytes n m (suc p)))

  -- w: the four cells before p; r: their bits
  pub four_more : (d : ℕ) → Splits d → ((i : ℕ) → get_or b i 0 < 256) → {s w r : ℕ} (p : ℕ) → s ≡ plane_from p → 4 ≤ p → p ≤ 64
      → w ≡ le_at 4 b (start + (p - 4)) → r ≡ low_bits 4 (w / d) → 16 * s + r ≡ plane_from (p - 4)
  four_more d h bytes p e l m cells bits =
      let q : p - 4 + 4 ≡ p = omega arith in
      let z : 4 + (64 - p) ≡ 64 - (p - 4) = omega arith in
      let g = rw (q, z) at (gathered d h bytes 4 (64 - p) (p - 4)) in
      rw (bits, cells, e) (omega (arith, g))

  -- the same, where p counts in fours
  pub four_before : (d : ℕ) → Splits d → ((i : ℕ) → get_or b i 0 < 256) → {s w r : ℕ} (i : ℕ) → s ≡ plane_from (4 * i) → 0 < i → i ≤ 16
      → w ≡ le_at 4 b (start + 4 * (i - 1)) → r ≡ low_bits 4 (w / d) → 16 * s + r ≡ plane_from (4 * (i - 1))
  four_before d h bytes i e l m cells bits =
      let q : 4 * i - 4 ≡ 4 * (i - 1) = omega arith in
      rw q at (four_more d h bytes (4 * i) e (omega arith) (omega arith) (rw q cells) bits)

  -- it can be had sixteen times
  pub plane_small : {s p : ℕ} → s ≡ plane_from p → p % 4 ≡ 0 → 0 < p → s < 2 ^ 60
  plane_small {p = p} h n l = rw h (set_from_small _ (64 - p) p (omega arith))

pub splits_1 : (b : List ℕ) (start : ℕ) → Splits b start 0 1
unfolding bit
splits_1 b start c w l = (omega arith, omega arith)

pub splits_2 : (b : List ℕ) (start : ℕ) → Splits b start 1 2
unfolding bit
splits_2 b start c w l = (omega arith, omega arith)

pub splits_4 : (b : List ℕ) (start : ℕ) → Splits b start 2 4
unfolding bit
splits_4 b start c w l = (omega arith, omega arith)

pub low_bits_small : (w : ℕ) → low_bits 4 w < 16
unfolding low_bits
low_bits_small w = omega arith

pub low_bits-lt : {r : ℕ} (w : ℕ) → r ≡ low_bits 4 w → r < 16
low_bits-lt w e = rw e (low_bits_small w)

-- ---- four lowest bits by one product

abbrev spread : ℕ → ℕ
spread n = n % 2 + 256 * (n / 2 % 2) + 65536 * (n / 2 / 2 % 2) + 16777216 * (n / 2 / 2 / 2 % 2)

-- at all sixteen
gathers : all_from (λ n. eqb (spread n * 2113665 / 2097152 % 16) n) 16 0 ≡ true
unfolding all_from
gathers = refl

of_bits : (x y z t : ℕ) → x < 2 → y < 2 → z < 2 → t < 2
    → (x + 256 * y + 65536 * z + 16777216 * t) * 2113665 / 2097152 % 16 ≡ x + 2 * (y + 2 * (z + 2 * (t + 2 * 0)))
of_bits x y z t a b c d =
    let n = x + 2 * (y + 2 * (z + 2 * (t + 2 * 0))) in
    let (e, p) = halved x (y + 2 * (z + 2 * (t + 2 * 0))) a in
    let (f, q) = halved y (z + 2 * (t + 2 * 0)) b in
    let (g, r) = halved z (t + 2 * 0) c in
    let (h, _) = halved t 0 d in
    rw (p, q, r, e, f, g, h) at (eqb-true (spread n * 2113665 / 2097152 % 16) n
    (all_from_at (λ n. eqb (spread n * 2113665 / 2097152 % 16) n) 16 0 gathers n (omega arith) (omega arith)))
  where
    halved : (x m : ℕ) → x < 2 → ((x + 2 * m) % 2 ≡ x) × ((x + 2 * m) / 2 ≡ m)
    halved x m l = (omega arith, omega arith)

pub by_product : (w : ℕ)
    → (w % 2 + 256 * (w / 256 % 2) + 65536 * (w / 65536 % 2) + 16777216 * (w / 16777216 % 2)) * 2113665 / 2097152 % 16
    ≡ low_bits 4 w
unfolding low_bits
by_product w =
    let e : w / 65536 ≡ w / 256 / 256 = omega arith in
    let f : w / 16777216 ≡ w / 256 / 256 / 256 = omega arith in
    rw (e, f) (of_bits (w % 2) (w / 256 % 2) (w / 256 / 256 % 2) (w / 256 / 256 / 256 % 2)
    (omega arith) (omega arith) (omega arith) (omega arith))

pub policy_size_lem : (b : List ℕ) → policy_valid b ≡ true → length b ≡ 512
unfolding policy_valid
policy_size_lem b v = eqb-true _ 512 (both (eqb (length b) 512) _ v).0

-- no cell is above 4, and behind them there is none
pub cell_small : (b : List ℕ) → policy_valid b ≡ true → (i : ℕ) → get_or b i 0 ≤ 4
unfolding policy_valid
cell_small b v i =
    let size = policy_size_lem b v in
    let cells = (both (eqb (length b) 512) (all_from (λ k. leb (get_or b k 0) 4) 512 0) v).1 in
    elim (cases_lt i 512) [
      | inl l ↦ leb-true _ 4 (all_from_at (λ k. leb (get_or b k 0) 4) 512 0 cells i (omega arith) (omega arith))
      | inr l ↦ let none : get_or b i 0 ≡ 0 = get_or_past b i 0 (omega arith) in omega arith
    ]

-- what keeps the numbers of a row's walk in their types
pub ruleset row_sizes = (set_from_small, low_bits_small, policy_size_lem)

-- ---- the four classes, by those bits

abbrev Classes : ℕ → Type 0
Classes c =
    (((member c 0 || member c 1) || member c 2) ≡ offered c) × ((member c 0 || member c 1) ≡ admits c Oneshot)
    × (member c 1 ≡ admits c Session) × ((member c 0 && member c 1) ≡ admits c Blanket)

classes : (c : ℕ) → c ≤ 4 → Classes c
unfolding member bit highest mode_of
classes zero l = (refl, refl, refl, refl)
classes (suc zero) l = (refl, refl, refl, refl)
classes (suc (suc zero)) l = (refl, refl, refl, refl)
classes (suc (suc (suc zero))) l = (refl, refl, refl, refl)
classes (suc (suc (suc (suc zero)))) l = (refl, refl, refl, refl)
classes (suc (suc (suc (suc (suc c))))) l = absurd (omega arith)

module _ (b : List ℕ) (v : policy_valid b ≡ true) (d : ℕ) (l : d < 8) where
  abbrev plane : ℕ → ℕ
  plane k = plane_from b (64 * d) k 0

  plane_lt : (k : ℕ) → plane k < 2 ^ 64
  plane_lt k = set_from-lt _ 64 0

  plane_at : (k n : ℕ) → n < 64 → member (plane k) n ≡ member (get_or b (64 * d + n) 0) k
  plane_at k n m = set_member _ 64 n m

  -- a set made of the planes is that of the permissions whose cell passes t
  made : (t : ℕ → Bool) (s : ℕ) → s < 2 ^ 64 → ((n : ℕ) → n < 64 → member s n ≡ t (get_or b (64 * d + n) 0))
      → s ≡ those (λ p. t ((fixed_by b).cell (record { 0 = d }) p))
  unfolding fixed_by
  made t s small h =
      extensional 64 s _ small (those_lt (λ p. t ((fixed_by b).cell (record { 0 = d }) p)))
      (λ n m. h n m ∙ sym (those_has (λ p. t ((fixed_by b).cell (record { 0 = d }) p)) (record { 0 = n }) m))

  pub row_made : record {
    offered = bit_or (bit_or (plane 0) (plane 1)) (plane 2);
    asked = bit_or (plane 0) (plane 1);
    session = plane 1;
    blanket = bit_and (plane 0) (plane 1);
  } ≡ row_of (fixed_by b) (record { 0 = d })
  unfolding row_of admitting
  row_made = λ i. record {
    offered = made offered _ (or_lt 64 _ _ asked_lt (plane_lt 2))
        (λ n m. rw (member_or, member_or, plane_at 0 n m, plane_at 1 n m, plane_at 2 n m) (classes (get_or b (64 * d + n) 0)
        (cell_small b v (64 * d + n))).0) i;
    asked = made (λ c. admits c Oneshot) _ asked_lt
        (λ n m. rw (member_or, plane_at 0 n m, plane_at 1 n m) (classes (get_or b (64 * d + n) 0) (cell_small b v (64 * d + n))).1) i;
    session = made (λ c. admits c Session) _ (plane_lt 1)
        (λ n m. plane_at 1 n m ∙ (classes (get_or b (64 * d + n) 0) (cell_small b v (64 * d + n))).2) i;
    blanket = made (λ c. admits c Blanket) _ (and_lt 64 _ _ (plane_lt 0) (plane_lt 1))
        (λ n m. rw (member_and, plane_at 0 n m, plane_at 1 n m) (classes (get_or b (64 * d + n) 0) (cell_small b v (64 * d + n))).3) i;
  }
    where
      asked_lt : bit_or (plane 0) (plane 1) < 2 ^ 64
      asked_lt = or_lt 64 _ _ (plane_lt 0) (plane_lt 1)

-- ---- the row of a domain

rows_get : (f : Fixed) (n d k : ℕ) (none : Row) → k < n → get_or (rows_from f n d) k none ≡ row_of f (record { 0 = d + k })
unfolding rows_from
rows_get f zero d k none l = absurd (omega arith)
rows_get f (suc n) d zero none l = ap (λ m. row_of f (record { 0 = m })) (omega arith)
rows_get f (suc n) d (suc k) none l =
    rows_get f n (suc d) k none (omega arith) ∙ ap (λ m. row_of f (record { 0 = m })) (omega arith)

pub row_is : (f : Fixed) (d : Domain) (none : Row) {rows : List Row} → rows ≡ rows_of f → RowIs f d (get_or rows (d.0 % 8) none)
row_is f d none e h =
    let l = ltb-true d.0 8 h in
    let m : d.0 % 8 ≡ d.0 = omega arith in
    rw (e, m) (rows_get f 8 0 d.0 none l ∙ ap (λ n. row_of f (record { 0 = n })) (zero-add d.0))

-- ---- the rows

-- made by a call for each domain from d on
pub rows_made : {F : Type 0} (g : Mut F (ℕ × Unit {0}) Row) (fn : F) (f : Fixed)
    → ((k : ℕ) (row : Row) (left : F) → k < 8 → Called g fn (k, tt) row left → (left ≡ fn) × (row ≡ row_of f (record { 0 = k })))
    → (rows : List Row) → length rows ≡ 8 → (n d : ℕ) → d + n ≡ 8 → IsFromFnResultFrom g fn rows d n → drop d rows ≡ rows_from f n d
unfolding rows_from
rows_made g fn f call rows long zero d e calls = drop_of_length-le rows (omega arith)
rows_made g fn f call rows long (suc n) d e calls =
    let (left, row, at, called, rest) = calls in
    let (same, is) = call d row left (omega arith) called in
    drop-cons rows d row (omega arith)
    ∙ ap (λ r. r ∷ drop (suc d) rows) (at.0 ∙ is)
    ∙ ap (λ rs. row_of f (record { 0 = d }) ∷ rs) (rows_made g fn f call rows long n (suc d) (omega arith) (rw (same, add-one) at rest))
