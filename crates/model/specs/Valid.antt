-- 01, When a state is valid (000, 3.2; 004, 2.3), record by record in the order and by the names of request 1 of 02: the size; then
-- each slot, and after them the session, whether it is wrong in itself (`Sound`), has a number that a lower slot has (`own_number`),
-- has a decision wrong (`Decided`). 004's conditions on methods and functions are none of 01's. What the papers have as sets is
-- bounded here by the device's numbers.
use Rattle.std.specs.Prelude.{ℕ, zero, suc, ◌+◌, Bool, true, false, not, ◌&&◌, ◌||◌, cond, List, [], ◌∷◌, length, eqb}
use Rattle.device.specs.declared.Suite.{Suite}
use Rattle.device.specs.declared.Permission.{Permission}
use Rattle.device.specs.declared.Mode.{Mode}
use Rattle.device.specs.declared.Mode.TheVariants.{Oneshot, Session as ForSession, Blanket}
use Rattle.device.specs.declared.Decisions.{Decisions}
use Rattle.device.specs.declared.Slot.{Slot}
use Rattle.device.specs.declared.Session.{Session}
use Rattle.device.specs.Device.{is_suite, is_domain, is_set, no_suite, same_suite, slot_count, has, every}
use Rattle.device.specs.Cells.{offered, admits}
use Rattle.model.specs.Policy.{Fixed}
use Rattle.model.specs.State.{State, carries, find, record_size, state_size, slot_zeros, session_zeros, read_state}

infixr 25 ◌⇒◌
abbrev pub ◌⇒◌ : Bool → Bool → Bool
◌⇒◌ true b = b
◌⇒◌ false b = true

-- required or optional, or both
unfoldable pub declared : Slot → Permission → Bool
declared slot permission = has slot.descriptor.required permission || has slot.descriptor.optional permission

-- ---- decisions

abbrev pub clear : Decisions → Bool
clear decisions = eqb decisions.granted 0 && eqb decisions.revoked 0

abbrev pub decides : Decisions → Permission → Bool
decides decisions permission = has decisions.granted permission || has decisions.revoked permission

-- two sets of permissions, and every permission passes the test
abbrev pub all_fit : Decisions → (Permission → Bool) → Bool
all_fit decisions test = is_set decisions.granted && (is_set decisions.revoked && every test)

-- Decisions that hold as long as the mode says, at one permission. A grant needs a declared permission, and a cell that lets the user
-- consent in that mode: 3 for good (004 2.15), 2 or 3 for a session (000 (16)). A revocation of either kind needs a declared
-- permission that the user is asked about: cell 1, 2 or 3 (004's policyCompatible wants only a cell other than 0). None is both
-- (000, 3.2, 6).
abbrev pub fitting : Mode → (declared : Bool) → (cell : ℕ) → (granted revoked : Bool) → Bool
fitting mode declared cell granted revoked =
    (granted ⇒ (declared && admits cell mode)) && ((revoked ⇒ (declared && admits cell Oneshot)) && not (granted && revoked))

abbrev pub fits : Fixed → Slot → Mode → Decisions → Permission → Bool
fits fixed slot mode decisions permission =
    fitting mode (declared slot permission) (fixed.cell slot.domain permission)
    (has decisions.granted permission) (has decisions.revoked permission)

-- ---- a slot

-- all zero besides its number, as a free slot is
abbrev pub blank : Slot → Bool
blank slot =
    eqb slot.domain.0 0
    && (eqb slot.descriptor.required 0 && (eqb slot.descriptor.optional 0 && clear slot.decisions))

-- the numbers are the device's, and the domain offers every required permission (000 (13), (14))
unfoldable pub installable : Fixed → Slot → Bool
installable fixed slot =
    is_suite slot.suite && (is_domain slot.domain
    && (is_set slot.descriptor.required && (is_set slot.descriptor.optional
    && every (λ permission. has slot.descriptor.required permission ⇒ offered (fixed.cell slot.domain permission)))))

-- not wrong in itself, but for the zero bytes
unfoldable pub slot_sound : Fixed → Slot → Bool
slot_sound fixed slot = cond (same_suite slot.suite no_suite) (blank slot) (installable fixed slot)

-- no lower slot has its number (000 (17))
unfoldable pub among : Suite → List Suite → Bool
among suite [] = false
among suite (other ∷ others) = same_suite suite other || among suite others

abbrev pub own_number : List Suite → Suite → Bool
own_number lower suite = same_suite suite no_suite || not (among suite lower)

-- its decisions, which hold for good
unfoldable pub slot_decided : Fixed → Slot → Bool
slot_decided fixed slot = all_fit slot.decisions (fits fixed slot Blanket slot.decisions)

unfoldable pub slot_valid : Fixed → List Suite → Slot → Bool
slot_valid fixed lower slot = slot_sound fixed slot && (own_number lower slot.suite && slot_decided fixed slot)

unfoldable pub slots_valid : Fixed → List Suite → List Slot → Bool
slots_valid fixed lower [] = true
slots_valid fixed lower (slot ∷ slots) = slot_valid fixed lower slot && slots_valid fixed (slot.suite ∷ lower) slots

-- ---- the session

-- with nothing running no decision is left; a running suite is installed (000 (15))
unfoldable pub session_sound : State → Bool
session_sound state =
    cond (same_suite state.session.suite no_suite) (clear state.session.decisions) (carries state.session.suite state.slots)

-- its decisions, which hold for the session, on permissions that its slot leaves undecided (004's permStateCoherence)
abbrev pub fits_beside : Fixed → Slot → Decisions → Permission → Bool
fits_beside fixed slot decisions permission =
    fits fixed slot ForSession decisions permission && not (decides decisions permission && decides slot.decisions permission)

unfoldable pub session_decided : Fixed → Session → Slot → Bool
session_decided fixed session slot = all_fit session.decisions (fits_beside fixed slot session.decisions)

unfoldable pub session_valid : Fixed → State → Bool
session_valid fixed state =
    session_sound state && session_decided fixed state.session (find state.session.suite state.slots)

-- ---- the state

unfoldable pub valid : Fixed → State → Bool
valid fixed state =
    eqb (length state.slots) slot_count && (slots_valid fixed [] state.slots && session_valid fixed state)

-- ---- the bytes

-- the zero bytes of n slot records, the first at this start
unfoldable pub slots_zeros : List ℕ → ℕ → ℕ → Bool
slots_zeros bytes zero start = true
slots_zeros bytes (suc n) start = slot_zeros bytes start && slots_zeros bytes n (start + record_size)

unfoldable pub zero_bytes : List ℕ → Bool
zero_bytes bytes = slots_zeros bytes slot_count record_size && session_zeros bytes

-- the size, the zero bytes, and a valid state
unfoldable pub state_valid : Fixed → List ℕ → Bool
state_valid fixed bytes = eqb (length bytes) state_size && (zero_bytes bytes && valid fixed (read_state bytes))
