-- The session against the sets of its suite's row. Assumes nothing.
use mathlib.Core.Path.{◌≡◌, refl, ap, sym, ◌∙◌}
use mathlib.Core.Bool.{Bool, true, false, not, ◌&&◌}
use mathlib.Core.List.{List, []}
use Prim.Native.Nat.{ℕ, ◌≤◌, ◌<◌}
use lib.Bits.{bit_or}
use lib.ListN.{get_or}
use borrow.Author.Tests.{lt-ltb, le-ltb, eq-eqb, ne_eqb}
use Rattle.words.proofs.Sets.{member_or}
use Rattle.device.specs.declared.Permission.{Permission}
use Rattle.device.specs.declared.Mode.TheVariants.{Session as session}
use Rattle.device.specs.declared.Decisions.{Decisions}
use Rattle.device.specs.declared.Slot.{Slot}
use Rattle.device.specs.declared.Session.{Session}
use Rattle.device.specs.Device.{has, every, is_domain, slot_count}
use Rattle.model.specs.Policy.{Fixed}
use Rattle.device.specs.Empty.{free}
use Rattle.model.specs.State.{record_size, find, place, session_zeros, slots_from, read_state}
use Rattle.model.specs.Valid.{clear, decides, fits, fits_beside, all_fit, session_sound, session_decided, session_valid, slots_valid}
use Rattle.model.specs.Valid.{slots_zeros}
use Rattle.model.proofs.Tests.{both}
use Rattle.model.proofs.Slots.{find_place}
use Rattle.model.proofs.ValidSlots.{find_sound}
use Rattle.model.proofs.Kept.{clear_decided}
use Rattle.store.proofs.Places.{carries_below}
use Rattle.checks.specs.Walk.{slot_records_valid}
use Rattle.checks.proofs.Sets.{every_same, every_both}
use Rattle.checks.proofs.Slots.{Small, words_fit, sound_domain, records_valid}

-- the session's decisions beside the slot's, by words
pub beside_words : (f : Fixed) (x : Slot) (d : Decisions) → Small d
    → (all_fit d (fits f x session d) && every (λ p. not (has (bit_or d.granted d.revoked) p
    && has (bit_or x.decisions.granted x.decisions.revoked) p))) ≡ all_fit d (fits_beside f x d)
beside_words f x d small =
    let two : Permission → Bool = λ p. not (decides d p && decides x.decisions p) in
    let both : Permission → Bool = λ p. not (has (bit_or d.granted d.revoked) p
    && has (bit_or x.decisions.granted x.decisions.revoked) p) in
    ap (λ b. b && every both) (sym (words_fit d small (fits f x session d)))
    ∙ ap (λ b. every (fits f x session d) && b) (every_same both two (λ p l. rw (member_or, member_or)))
    ∙ every_both (fits f x session d) two ∙ words_fit d small (fits_beside f x d)

module _ (f : Fixed) (b : List ℕ) where
  abbrev pub SessionRecordValid : Bool
  SessionRecordValid = session_zeros b && session_valid f (read_state b)

  pub session_nonzero : session_zeros b ≡ false → false ≡ SessionRecordValid
  session_nonzero e = sym (rw e)

  module _ (r : Session) (e : r ≡ (read_state b).session) (zeros : session_zeros b ≡ true) where
    pub session_idle : r.suite.0 ≡ 0 → clear r.decisions ≡ SessionRecordValid
    unfolding session_valid session_sound
    session_idle n =
        absorbs (clear r.decisions) _ (clear_decided f r (find r.suite (read_state b).slots))
        ∙ sym (rw (zeros, ← e, eq-eqb _ _ n))
      where
        absorbs : (t u : Bool) → (t ≡ true → u ≡ true) → t ≡ (t && u)
        absorbs true u h = sym (h refl)
        absorbs false u h = refl

    module _ (n : r.suite.0 ≡ 0 → ⊥) (k : ℕ) (at : k ≡ place r.suite (read_state b).slots) where
      pub session_unknown : 32 ≤ k → false ≡ SessionRecordValid
      unfolding session_valid session_sound
      session_unknown h = sym (rw (zeros, ← e, ne_eqb _ _ n, carries_below b r.suite, ← at, le-ltb k 32 h))

      module _ (x : Slot) (slot : x ≡ get_or (read_state b).slots k free) where
        its_slot : x ≡ find r.suite (read_state b).slots
        its_slot = slot ∙ ap (λ m. get_or (read_state b).slots m free) at ∙ sym (find_place r.suite (read_state b).slots)

        pub session_known_lem : k < 32 → session_decided f r x ≡ SessionRecordValid
        unfolding session_valid session_sound
        session_known_lem h =
            sym (rw (zeros, ← e, ne_eqb _ _ n, carries_below b r.suite, ← at, lt-ltb k 32 h, ← its_slot))

        -- the slots are valid: its domain has a row
        pub session_domain : slot_records_valid f b [] slot_count record_size ≡ true → is_domain x.domain ≡ true
        unfolding read_state
        session_domain h =
            let l = slots_from b slot_count record_size in
            let (_, slots) = both (slots_zeros b slot_count record_size) (slots_valid f [] l)
            (sym (records_valid f b [] slot_count record_size) ∙ h) in
            sound_domain f x (rw its_slot (find_sound f r.suite [] l slots))
