-- A slot and a session against the sets of their domain's row, and the walk over the slots. Assumes nothing.
use mathlib.Core.Path.{◌≡◌, refl, ap, sym, ◌∙◌}
use mathlib.Core.Bool.{Bool, true, false, not, ◌&&◌, ◌||◌, cond, and-false, and_assoc, or-false, or_assoc, or_comm}
use mathlib.Core.List.{List, [], ◌∷◌}
use Prim.Native.Nat.{ℕ, zero, suc, ◌+◌, ◌-◌, ◌*◌, ◌^◌, ◌≤◌, ◌<◌}
use native.Mathlib.Numerals.{add-one}
use native.Mathlib.Omega.{arith}
use lib.Bits.{bit_and, bit_or}
use lib.Dec.{eqb}
use lib.ListN.{length}
use borrow.Author.Tests.{lt-ltb, le-ltb, eq-eqb, ne_eqb, eqb-true, eqb-false}
use Rattle.words.specs.Numbers.{le_at}
use Rattle.words.proofs.Sets.{member_or, member_and}
use Rattle.device.specs.declared.Permission.{Permission}
use Rattle.device.specs.declared.Suite.{Suite}
use Rattle.device.specs.declared.Mode.{Mode}
use Rattle.device.specs.declared.Mode.TheVariants.{Oneshot}
use Rattle.device.specs.declared.Decisions.{Decisions}
use Rattle.device.specs.declared.Slot.{Slot}
use Rattle.device.specs.Device.{has, every, is_suite, is_domain, no_suite, same_suite, slot_count}
use Rattle.model.specs.Policy.{Fixed}
use Rattle.device.specs.Cells.{offered, admits}
use Rattle.model.specs.State.{record_size, state_size, slot_at, slot_zeros, session_zeros, slots_from, read_state}
use Rattle.model.specs.Valid.{◌⇒◌, declared, fits, all_fit, blank, among, own_number}
use Rattle.model.specs.Valid.{slot_sound, installable, slot_decided, slot_valid, slots_valid, slots_zeros, zero_bytes, session_valid}
use Rattle.model.specs.Valid.{valid, state_valid}
use Rattle.model.proofs.Tests.{both}
use Rattle.model.proofs.Bytes.{length-slots}
use Rattle.checks.specs.Rows.{those, admitting, row_of}
use Rattle.checks.specs.Walk.{lower_of, slot_record_valid, slot_records_valid}
use Rattle.checks.proofs.Sets.{every_same, every_both, those_has}

-- ---- decisions by words

abbrev declared_set : Slot → ℕ
declared_set x = bit_or x.descriptor.required x.descriptor.optional

-- of a declared permission whose cell admits a mode
declared_has : (f : Fixed) (x : Slot) (m : Mode) (p : Permission) → p.0 < 64
    → has (bit_and (declared_set x) (admitting f x.domain m)) p ≡ (declared x p && admits (f.cell x.domain p) m)
unfolding declared admitting
declared_has f x m p l = rw (member_and, member_or, those_has (λ q. admits (f.cell x.domain q) m) p l)

-- two words
abbrev pub Small : Decisions → Type 0
Small d = (d.granted < 2 ^ 64) × (d.revoked < 2 ^ 64)

pub words_fit : (d : Decisions) → Small d → (t : Permission → Bool) → every t ≡ all_fit d t
words_fit d small t = rw (lt-ltb d.granted (2 ^ 64) small.0, lt-ltb d.revoked (2 ^ 64) small.1)

module _ (f : Fixed) (x : Slot) (m : Mode) (d : Decisions) (small : Small d) where
  pub fits_words :
      (every (λ p. has d.granted p ⇒ has (bit_and (declared_set x) (admitting f x.domain m)) p)
      && (every (λ p. has d.revoked p ⇒ has (bit_and (declared_set x) (admitting f x.domain Oneshot)) p)
      && every (λ p. not (has d.granted p && has d.revoked p)))) ≡ all_fit d (fits f x m d)
  fits_words =
      let granted : Permission → Bool = λ p. has d.granted p ⇒ has (bit_and (declared_set x) (admitting f x.domain m)) p in
      let revoked : Permission → Bool = λ p. has d.revoked p ⇒ has (bit_and (declared_set x) (admitting f x.domain Oneshot)) p in
      let one : Permission → Bool = λ p. not (has d.granted p && has d.revoked p) in
      ap (λ b. every granted && b) (every_both revoked one) ∙ every_both granted (λ p. revoked p && one p)
      ∙ every_same (λ p. granted p && (revoked p && one p)) (fits f x m d)
      (λ p l. rw (declared_has f x m p l, declared_has f x Oneshot p l)) ∙ words_fit d small (fits f x m d)

-- ---- the numbers of the lower slots

eqb_sym : (a b : ℕ) → eqb a b ≡ eqb b a
eqb_sym a b = go (eqb b a) refl
  where
    go : (t : Bool) → eqb b a ≡ t → eqb a b ≡ t
    go true e = eq-eqb a b (sym (eqb-true b a e))
    go false e = ne_eqb a b (λ k. eqb-false b a e (sym k))

-- below the lowest there is none
pub lower_none : (b : List ℕ) (i : Suite) {whole : Bool} (seen : Bool) (j : ℕ) → j ≡ 0 → whole ≡ (seen || among i (lower_of b j))
    → whole ≡ seen
unfolding lower_of among
lower_none b i seen j e w = (rw e at w) ∙ or-false seen

module _ (b : List ℕ) (i : Suite) (j : ℕ) (l : 0 < j) where
  lower_turn : among i (lower_of b j) ≡ (eqb i.0 (le_at 2 b (40 + 40 * (j - 1))) || among i (lower_of b (j - 1)))
  unfolding lower_of among slot_at
  lower_turn = let e : j ≡ suc (j - 1) = omega arith in ap (λ n. among i (lower_of b n)) e

  -- x: the number of the highest of them; `seen`: among those above
  pub lower_more : {whole : Bool} {x : ℕ} (seen : Bool) → whole ≡ (seen || among i (lower_of b j)) → x ≡ le_at 2 b (40 + 40 * (j - 1))
      → whole ≡ ((seen || eqb x i.0) || among i (lower_of b (j - 1)))
  lower_more {x = x} seen w e =
      w ∙ ap (λ t. seen || t) lower_turn
      ∙ rw (or_assoc seen (eqb x i.0) (among i (lower_of b (j - 1))), ← e, eqb_sym i.0 x)

-- upwards, x: the number of one more of them
pub lower_next : (b : List ℕ) (i : Suite) (j : ℕ) {seen : Bool} {x : ℕ} → seen ≡ among i (lower_of b j) → x ≡ le_at 2 b (40 + 40 * j)
    → (seen || eqb x i.0) ≡ among i (lower_of b (j + 1))
lower_next b i j e r =
    let back : j + 1 - 1 ≡ j = omega arith in
    rw (lower_turn b i (j + 1) (omega arith), back, e, r, or_comm (among i (lower_of b j)), eqb_sym (le_at 2 b (40 + 40 * j)))

-- ---- a slot in itself

module _ (f : Fixed) (x : Slot) where
  pub sound_free : x.suite.0 ≡ 0 → slot_sound f x ≡ blank x
  unfolding slot_sound
  sound_free e = rw (eq-eqb _ _ e)

  pub sound_astray : (x.suite.0 ≡ 0 → ⊥) → 8 ≤ x.domain.0 → slot_sound f x ≡ false
  unfolding slot_sound installable
  sound_astray n h = rw (ne_eqb _ _ n, le-ltb x.domain.0 8 h) (and-false (is_suite x.suite))

  pub sound_words : (x.suite.0 ≡ 0 → ⊥) → x.domain.0 < 8 → x.suite.0 < 65536 → x.descriptor.required < 2 ^ 64
      → x.descriptor.optional < 2 ^ 64
      → every (λ p. has x.descriptor.required p ⇒ has (row_of f x.domain).offered p) ≡ slot_sound f x
  unfolding slot_sound installable row_of
  sound_words n h s r o =
      let t : Permission → Bool = λ p. offered (f.cell x.domain p) in
      let q = x.descriptor.required in
      rw (ne_eqb _ _ n, lt-ltb 0 x.suite.0 (omega arith), lt-ltb _ _ s, lt-ltb _ _ h, lt-ltb _ _ r, lt-ltb _ _ o)
      (every_same (λ p. has q p ⇒ has (those t) p) (λ p. has q p ⇒ t p) (λ p l. ap (λ b. has q p ⇒ b) (those_has t p l)))

  -- its domain has a row
  pub sound_domain : slot_sound f x ≡ true → is_domain x.domain ≡ true
  unfolding slot_sound installable
  sound_domain h = go (same_suite x.suite no_suite) h
    where
      go : (b : Bool) → cond b (blank x) (installable f x) ≡ true → is_domain x.domain ≡ true
      go true e = rw (eqb-true x.domain.0 0 (both (eqb x.domain.0 0) _ e).0)
      go false e = (both (is_domain x.domain) _ (both (is_suite x.suite) _ e).1).0

-- ---- slot k of the bytes

module _ (f : Fixed) (b : List ℕ) (k : ℕ) where
  pub slot_nonzero : slot_zeros b (40 + 40 * k) ≡ false → false ≡ slot_record_valid f b k
  unfolding slot_record_valid
  slot_nonzero e = sym (rw e)

  module _ (x : Slot) (e : x ≡ slot_at b (40 + 40 * k)) (zeros : slot_zeros b (40 + 40 * k) ≡ true) where
    pub slot_unsound : slot_sound f x ≡ false → false ≡ slot_record_valid f b k
    unfolding slot_record_valid slot_valid
    slot_unsound h = sym (rw (zeros, ← e, h))

    pub slot_again : slot_sound f x ≡ true → own_number (lower_of b k) x.suite ≡ false → false ≡ slot_record_valid f b k
    unfolding slot_record_valid slot_valid
    slot_again s h = sym (rw (zeros, ← e, s, h))

    pub slot_last : slot_sound f x ≡ true → own_number (lower_of b k) x.suite ≡ true → slot_decided f x ≡ slot_record_valid f b k
    unfolding slot_record_valid slot_valid
    slot_last s h = sym (rw (zeros, ← e, s, h))

-- ---- the walk

module _ (f : Fixed) (b : List ℕ) (k : ℕ) where
  -- the slots from k on
  abbrev pub rest : Bool
  rest = slot_records_valid f b (lower_of b k) (32 - k) (40 + 40 * k)

  pub turn : k < 32 → rest ≡ (slot_record_valid f b k && slot_records_valid f b (lower_of b (k + 1)) (32 - (k + 1)) (40 + 40 * (k + 1)))
  unfolding slot_records_valid slot_record_valid lower_of
  turn l =
      let n : 32 - k ≡ suc (32 - (k + 1)) = omega arith in
      let p : 40 + 40 * k + 40 ≡ 40 + 40 * (k + 1) = omega arith in
      rw (n, p, add-one) (sym (and_assoc (slot_zeros b (40 + 40 * k)) (slot_valid f (lower_of b k) (slot_at b (40 + 40 * k))) _))

  pub walk_go : {whole : Bool} → whole ≡ rest → k < 32 → slot_record_valid f b k ≡ true
      → whole ≡ slot_records_valid f b (lower_of b (k + 1)) (32 - (k + 1)) (40 + 40 * (k + 1))
  walk_go w l h = w ∙ turn l ∙ rw h

  pub walk_stop : {whole : Bool} → whole ≡ rest → k < 32 → slot_record_valid f b k ≡ false → false ≡ whole
  walk_stop w l h = sym (w ∙ turn l ∙ rw h)

  pub walk_done : {whole : Bool} → whole ≡ rest → 32 ≤ k → true ≡ whole
  unfolding slot_records_valid
  walk_done w l = let n : 32 - k ≡ 0 = omega arith in sym (w ∙ rw n)

pub rest_end : (f : Fixed) (b : List ℕ) (k : ℕ) → 32 ≤ k → rest f b k ≡ true
rest_end f b k l = sym (walk_done f b k refl l)

pub ruleset walk = (turn, rest_end)

-- ---- the walk, and the validity of the bytes

pub records_valid : (f : Fixed) (b : List ℕ) (lower : List Suite) (n a : ℕ)
    → slot_records_valid f b lower n a ≡ (slots_zeros b n a && slots_valid f lower (slots_from b n a))
unfolding slot_records_valid slots_zeros slots_valid slots_from
records_valid f b lower zero a = refl
records_valid f b lower (suc n) a =
    ap (λ t. slot_zeros b a && (slot_valid f lower (slot_at b a) && t))
    (records_valid f b ((slot_at b a).suite ∷ lower) n (a + record_size))
    ∙ crossed (slot_zeros b a) (slot_valid f lower (slot_at b a)) (slots_zeros b n (a + record_size)) _
  where
    crossed : (z v zs vs : Bool) → (z && (v && (zs && vs))) ≡ ((z && zs) && (v && vs))
    crossed true true zs vs = refl
    crossed true false zs vs = sym (and-false zs)
    crossed false v zs vs = refl

pub walk_valid : (f : Fixed) (b : List ℕ)
    → (eqb (length b) state_size && (slot_records_valid f b [] slot_count record_size && (session_zeros b && session_valid f (read_state b))))
    ≡ state_valid f b
unfolding state_valid zero_bytes valid read_state
walk_valid f b =
    rw (length-slots b slot_count record_size, records_valid f b [] slot_count record_size)
    (ap (λ t. eqb (length b) state_size && t)
    (crossed (slots_zeros b slot_count record_size) (slots_valid f [] (slots_from b slot_count record_size)) (session_zeros b) _))
  where
    crossed : (zs vs z v : Bool) → ((zs && vs) && (z && v)) ≡ ((zs && z) && (vs && v))
    crossed true true z v = refl
    crossed true false true v = refl
    crossed true false false v = refl
    crossed false vs z v = refl

pub state_records : (f : Fixed) (b : List ℕ) → length b ≡ state_size
    → state_valid f b ≡ (slot_records_valid f b [] slot_count record_size && (session_zeros b && session_valid f (read_state b)))
state_records f b size = sym (walk_valid f b) ∙ rw (eq-eqb _ _ size)
