-- Event records: what is read and written back is the same record, what is written and read back is the same event. Assumes nothing.
use Prim.Native.Nat.{ℕ, ◌<◌, ◌^◌}
use native.Mathlib.Nat.{mod-eq_of_lt}
use mathlib.Core.Path.{◌≡◌, refl, ap, ap₂, ◌∙◌}
use mathlib.Core.Bool.{Bool, true, false, ◌&&◌, cond, false≢true}
use mathlib.Core.List.{List, [], ◌∷◌, ◌++◌}
use lib.Dec.{eqb, ltb}
use borrow.Author.Tests.{eqb-true, eq-eqb, ltb-true}
use Rattle.words.specs.Numbers.{le_at, bytes_of}
use Rattle.words.proofs.Numbers.{le_at-bytes}
use Rattle.device.specs.declared.Suite.{Suite}
use Rattle.device.specs.declared.Event.{Event}
use Rattle.device.specs.declared.Event.TheVariants.{Unreadable, Install, Remove, Start, Terminate, Request}
use Rattle.device.proofs.Modes.{answer_back}
use Rattle.device.specs.Device.{is_suite, is_domain, is_set}
use Rattle.model.specs.Events.{fields_at, field_bytes, numbers, event_of, write_event, carried, event_in, same_bytes, read_event}
use Rattle.model.proofs.Tests.{both, all_three}

-- ---- lists

bytes_same : (l : List ℕ) → same_bytes l l ≡ true
unfolding same_bytes
bytes_same [] = refl
bytes_same (x ∷ xs) = rw (eq-eqb x x refl) (bytes_same xs)

pub same_bytes_lem : (l m : List ℕ) → same_bytes l m ≡ true → l ≡ m
unfolding same_bytes
same_bytes_lem [] [] h = refl
same_bytes_lem [] (y ∷ m) h = absurd (false≢true h)
same_bytes_lem (x ∷ l) [] h = absurd (false≢true h)
same_bytes_lem (x ∷ l) (y ∷ m) h =
    let (here, more) = both (eqb x y) (same_bytes l m) h in
    ap₂ ◌∷◌ (eqb-true x y here) (same_bytes_lem l m more)

-- ---- a record that is read is an event that a record carries, or none

pub read_event_lem {ℓ} : (P : Event → Type ℓ) (b : List ℕ) → P Unreadable → ((e : Event) → carried e ≡ true → P e) → P (read_event b)
unfolding read_event
read_event_lem P b none some = go (carried (event_in b)) (same_bytes (write_event (event_in b)) b) refl
  where
    go : (c t : Bool) → carried (event_in b) ≡ c → P (cond (c && t) (event_in b) Unreadable)
    go true true h = some (event_in b) h
    go true false h = none
    go false t h = none

-- ---- a record that is read and written back

pub written_back : (b : List ℕ) → carried (read_event b) ≡ true → write_event (read_event b) ≡ b
unfolding read_event
written_back b = go (carried (event_in b)) (same_bytes (write_event (event_in b)) b) refl
  where
    go : (c t : Bool) → same_bytes (write_event (event_in b)) b ≡ t → carried (cond (c && t) (event_in b) Unreadable) ≡ true
        → write_event (cond (c && t) (event_in b) Unreadable) ≡ b
    go true true e h = same_bytes_lem (write_event (event_in b)) b e
    go true false e h = absurd (false≢true h)
    go false t e h = absurd (false≢true h)

-- ---- an event that is written and read back

pub number : (i : Suite) → is_suite i ≡ true → i.0 < 256 ^ 2
number i h = ltb-true i.0 65536 (both (ltb 0 i.0) (ltb i.0 65536) h).1

-- the fields of a record
module _ (k d i p u r o : ℕ) where
  suite_back : i < 256 ^ 2 → le_at 2 (field_bytes (numbers k d i p u r o)) 2 ≡ i
  unfolding field_bytes
  suite_back h = le_at-bytes 2 (k ∷ d ∷ []) _ i ∙ mod-eq_of_lt h

  required_back : r < 256 ^ 8 → le_at 8 (field_bytes (numbers k d i p u r o)) 8 ≡ r
  unfolding field_bytes bytes_of
  required_back h = le_at-bytes 8 (k ∷ d ∷ (bytes_of 2 i ++ (p ∷ u ∷ bytes_of 2 0))) _ r ∙ mod-eq_of_lt h

  optional_back : o < 256 ^ 8 → le_at 8 (field_bytes (numbers k d i p u r o)) 16 ≡ o
  unfolding field_bytes bytes_of
  optional_back h = le_at-bytes 8 (k ∷ d ∷ (bytes_of 2 i ++ (p ∷ u ∷ (bytes_of 2 0 ++ bytes_of 8 r)))) [] o ∙ mod-eq_of_lt h

event_back : (e : Event) → carried e ≡ true → event_in (write_event e) ≡ e
unfolding event_in event_of fields_at field_bytes bytes_of
event_back Unreadable h = absurd (false≢true h)
event_back (Install i x d) h =
    let (is, r, rest) = all_three (is_suite i) (is_set x.required) _ h in
    let (o, _) = both (is_set x.optional) (is_domain d) rest in
    λ k. Install (record { 0 = suite_back 1 d.0 i.0 0 0 x.required x.optional (number i is) k }) (record {
      required = required_back 1 d.0 i.0 0 0 x.required x.optional (ltb-true x.required (2 ^ 64) r) k;
      optional = optional_back 1 d.0 i.0 0 0 x.required x.optional (ltb-true x.optional (2 ^ 64) o) k;
    }) d
event_back (Remove i) h = λ k. Remove (record { 0 = suite_back 2 0 i.0 0 0 0 0 (number i h) k })
event_back (Start i) h = λ k. Start (record { 0 = suite_back 3 0 i.0 0 0 0 0 (number i h) k })
event_back Terminate h = refl
event_back (Request p u) h = ap (Request p) (answer_back u)

pub read_back : (e : Event) → carried e ≡ true → read_event (write_event e) ≡ e
unfolding read_event
read_back e h = rw (event_back e h, h, bytes_same (write_event e))
