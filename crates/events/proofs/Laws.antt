-- A record compared byte by byte is a record compared number by number. Assumes nothing.
use Prim.Native.Nat.{ℕ, zero, suc, ◌+◌, ◌/◌, ◌%◌, ◌^◌, ◌≤◌, ◌<◌}
use native.Mathlib.Nat.{add-zero, pow-zero, pow-succ'}
use native.Mathlib.Numerals.{add-one}
use native.Mathlib.Omega.{arith}
use mathlib.Core.Path.{◌≡◌, refl, sym, ap, ◌∙◌}
use mathlib.Core.Bool.{Bool, true, false, ◌&&◌, cond, false≢true, and_assoc, and-true}
use mathlib.Core.List.{List, [], ◌∷◌, ◌++◌, append-nil}
use lib.ListN.{length, get_or, drop, drop_of_length-le}
use lib.Seq.{drop-cons}
use lib.Dec.{eqb, lit<}
use borrow.Author.Tests.{eq-eqb, ltb-true}
use Rattle.words.specs.Numbers.{le_at, bytes_of}
use Rattle.words.proofs.Numbers.{eqb_split}
use Rattle.device.specs.declared.Fields.{Fields}
use Rattle.device.specs.declared.Event.{Event}
use Rattle.device.specs.declared.Event.TheVariants.{Unreadable, Install, Remove, Start, Terminate, Request}
use Rattle.device.specs.Device.{is_suite, is_domain, is_set}
use Rattle.device.specs.UserAnswers.{answer_no}
use Rattle.model.specs.Events.{event_size, fields_at, field_bytes, numbers, fields_of, event_of, carried, write_event, event_in, same_bytes}
use Rattle.model.specs.Events.{read_event}
use Rattle.model.proofs.Tests.{both, all_three}
use Rattle.model.proofs.RoundTrip.{number, same_bytes_lem}
use Rattle.events.specs.Fields.{same_fields}

same_end : same_bytes [] [] ≡ true
unfolding same_bytes
same_end = refl

length-event : (e : Event) → length (write_event e) ≡ event_size
unfolding field_bytes bytes_of
length-event e = refl

module _ (l : List ℕ) (bytes : (k : ℕ) → get_or l k 0 < 256) where
  -- one byte at place i, and what follows
  same_byte : (x : ℕ) (vs : List ℕ) (i : ℕ) → i < length l
      → same_bytes (x ∷ vs) (drop i l) ≡ (eqb x (get_or l i 0) && same_bytes vs (drop (suc i) l))
  unfolding same_bytes
  same_byte x vs i h = rw (drop-cons l i 0)

  -- a number of w bytes at place i, and what follows
  same_number : (w x : ℕ) (vs : List ℕ) (i : ℕ) → x < 256 ^ w → i + w ≤ length l
      → same_bytes (bytes_of w x ++ vs) (drop i l) ≡ (eqb x (le_at w l i) && same_bytes vs (drop (i + w) l))
  unfolding bytes_of le_at
  same_number zero x vs i b h =
      let z : x ≡ 0 = omega (arith, pow-zero 256) in
      rw (add-zero, eq-eqb x 0 z)
  same_number (suc w) x vs i b h =
      let e : i + suc w ≡ i + 1 + w = omega arith in
      let r = same_number w (x / 256) vs (i + 1) (omega (arith, pow-succ' 256 w)) (omega arith) in
      same_byte (x % 256) (bytes_of w (x / 256) ++ vs) i (omega arith)
      ∙ rw (← add-one i, r, eqb_split x (get_or l i 0) (le_at w l (i + 1)) (bytes i), e, and_assoc)

  module _ (size : length l ≡ event_size) where
    same_numbers : (k d i p u r o : ℕ) → i < 256 ^ 2 → r < 256 ^ 8 → o < 256 ^ 8
        → same_bytes (field_bytes (numbers k d i p u r o)) l ≡ same_fields (numbers k d i p u r o) (fields_at l)
    unfolding field_bytes same_fields fields_at
    same_numbers k d i p u r o a b c =
        rw (
          same_byte k _ 0 (omega arith),
          same_byte d _ 1 (omega arith),
          same_number 2 i _ 2 a (omega arith),
          same_byte p _ 4 (omega arith),
          same_byte u _ 5 (omega arith),
          same_number 2 0 _ 6 (lit< tt) (omega arith),
          same_number 8 r _ 8 b (omega arith),
          ← append-nil (bytes_of 8 o),
          same_number 8 o [] 16 c (omega arith),
          drop_of_length-le l {i = 24} (omega arith),
          same_end,
          and-true,
        )

    same_event : (e : Event) → carried e ≡ true → same_bytes (write_event e) l ≡ same_fields (fields_of e) (fields_at l)
    same_event Unreadable h = absurd (false≢true h)
    same_event (Install i x d) h =
        let (is, r, rest) = all_three (is_suite i) (is_set x.required) _ h in
        let (o, _) = both (is_set x.optional) (is_domain d) rest in
        same_numbers 1 d.0 i.0 0 0 x.required x.optional (number i is)
        (ltb-true x.required (2 ^ 64) r) (ltb-true x.optional (2 ^ 64) o)
    same_event (Remove i) h = same_numbers 2 0 i.0 0 0 0 0 (number i h) (lit< tt) (lit< tt)
    same_event (Start i) h = same_numbers 3 0 i.0 0 0 0 0 (number i h) (lit< tt) (lit< tt)
    same_event Terminate h = same_numbers 4 0 0 0 0 0 0 (lit< tt) (lit< tt) (lit< tt)
    same_event (Request p u) h = same_numbers 5 0 0 p.0 (answer_no u) 0 0 (lit< tt) (lit< tt) (lit< tt)

    by_numbers : read_event l
        ≡ (let e = event_of (fields_at l) in cond (carried e && same_fields (fields_of e) (fields_at l)) e Unreadable)
    unfolding read_event event_in
    by_numbers = go (carried (event_in l)) refl
      where
        go : (c : Bool) → carried (event_in l) ≡ c → cond (c && same_bytes (write_event (event_in l)) l) (event_in l) Unreadable
            ≡ cond (c && same_fields (fields_of (event_in l)) (fields_at l)) (event_in l) Unreadable
        go true h = rw (same_event (event_in l) h)
        go false h = refl

    -- 24 bytes are read by their numbers: f, of which e may be the event, g the numbers of e's record
    pub read_numbers : {f g : Fields} {e : Event} {fit alike : Bool} → f ≡ fields_at l → e ≡ event_of f → fit ≡ carried e
        → g ≡ fields_of e → alike ≡ same_fields g f → cond (fit && alike) e Unreadable ≡ read_event l
    read_numbers p q r s t = sym (by_numbers ∙ rw (← p, ← q, ← r, ← s, ← t))

-- any other number of bytes is no event
pub read_other : (l : List ℕ) → (length l ≡ event_size → ⊥) → read_event l ≡ Unreadable
unfolding read_event
read_other l n = go (carried (event_in l)) (same_bytes (write_event (event_in l)) l) refl refl
  where
    go : (c t : Bool) → carried (event_in l) ≡ c → same_bytes (write_event (event_in l)) l ≡ t
        → cond (c && t) (event_in l) Unreadable ≡ Unreadable
    go true true h e = absurd (n (ap length (sym (same_bytes_lem (write_event (event_in l)) l e)) ∙ length-event (event_in l)))
    go true false h e = refl
    go false t h e = refl
