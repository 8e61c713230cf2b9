-- Isolation is not empty: two states and two lists of records that differ meet its premises; and the old monitor, which looked a
-- decision up by permission in whichever slot came first, breaks it: the coach's yes to one suite is taken by another. Each claim
-- holds by computation. Assumes nothing.
use Prim.Native.Nat.{ℕ}
use mathlib.Core.Path.{◌≡◌, refl}
use mathlib.Core.Bool.{true, cond}
use mathlib.Core.Logic.{inl, inr}
use mathlib.Core.List.{List, [], ◌∷◌}
use Rattle.device.specs.declared.Suite.{Suite}
use Rattle.device.specs.declared.Permission.{Permission}
use Rattle.device.specs.declared.Mode.TheVariants.{Session, Blanket}
use Rattle.device.specs.declared.UserAnswer.{UserAnswer}
use Rattle.device.specs.declared.UserAnswer.TheVariants.{None, Allow, Deny}
use Rattle.device.specs.declared.Decisions.{Decisions}
use Rattle.device.specs.declared.Slot.{Slot}
use Rattle.device.specs.declared.Event.TheVariants.{Terminate}
use Rattle.model.specs.Policy.{Fixed, fixed_by}
use Rattle.model.specs.State.{State, find}
use Rattle.device.specs.Empty.{undecided}
use Rattle.model.specs.Valid.{declared, decides}
use Rattle.model.specs.Events.{write_event}
use Rattle.device.specs.Answers.{ALLOWED, ASK}
use Rattle.model.specs.Decision.{standing, decision}
use Rattle.model.specs.Step.{Outcome, running_slot, request}
use Rattle.model.specs.Run.{after}
use Rattle.model.specs.Isolation.{known, Alike, is_running, Replaced}
use Rattle.model.proofs.Worked.{policy, install, start, ask, left, computed}

abbrev pub f : Fixed
f = fixed_by policy

-- suites 10 and 11 of two clubs, both with permission 2, which has cell 3
abbrev pub ten : Suite
ten = record { 0 = 10 }

abbrev pub w : Suite
w = record { 0 = 11 }

-- suite 10 runs; the coach has said yes to it, for good and for the session, or nothing
abbrev pub asked : State
asked = left (install 10 0 0b110 2 ∷ install 11 0 0b100 2 ∷ start 10 ∷ ask 2 (Allow Blanket) ∷ ask 1 (Allow Session) ∷ [])

abbrev pub unasked : State
unasked = left (install 10 0 0b110 2 ∷ install 11 0 0b100 2 ∷ start 10 ∷ [])

-- ---- the premises can be met

pub alike : Alike f w asked unasked
unfolding computed known
alike = record { one_valid = refl; other_valid = refl; equal_but = refl }

pub differ : (asked.session.decisions.granted ≡ 2) × (unasked.session.decisions.granted ≡ 0)
    × ((find ten asked.slots).decisions.granted ≡ 4) × ((find ten unasked.slots).decisions.granted ≡ 0)
unfolding computed
differ = (refl, refl, refl, refl)

-- a record of a request's kind, and no more
abbrev pub damaged : List ℕ
damaged = 5 ∷ []

-- suite 10 asks, and is asked for, something else in each list; then suite 11 runs
pub replaced : Replaced f w asked
    (write_event (ask 2 None) ∷ damaged ∷ write_event Terminate ∷ write_event (start 11) ∷ write_event (ask 2 None) ∷ [])
    (write_event (ask 2 (Deny Blanket)) ∷ write_event (ask 1 None) ∷ write_event Terminate ∷ write_event (start 11)
    ∷ write_event (ask 2 None) ∷ [])
unfolding computed Replaced
replaced = (inr (refl, refl, refl), (inr (refl, refl, refl), (inl refl, (inl refl, (inl refl, tt)))))

-- ---- the old monitor

-- the decisions of the first slot that has one on the permission, whosever it is
unfoldable pub first_decided : Permission → List Slot → Decisions
first_decided p [] = undecided
first_decided p (x ∷ xs) = cond (decides x.decisions p) x.decisions (first_decided p xs)

-- a request as the old monitor took it
unfoldable pub old_request : State → Permission → UserAnswer → Outcome
old_request s p u =
    let x = running_slot s in
    request s p u (decision (declared x p) (f.cell x.domain p) (standing p s.session.decisions
    (first_decided p s.slots)) u)

-- suite 11 is started after suite 10
abbrev pub next_run : State → State
next_run s = after f s (Terminate ∷ start 11 ∷ [])

-- it runs in two states that are alike for it: the old monitor answers by the coach's yes to suite 10, and asks without it
pub old_monitor_tells : Alike f w (next_run asked) (next_run unasked)
    × (is_running w (next_run asked) ≡ true)
    × ((old_request (next_run asked) (record { 0 = 2 }) None).response ≡ ALLOWED)
    × ((old_request (next_run unasked) (record { 0 = 2 }) None).response ≡ ASK 3)
unfolding computed known first_decided old_request
old_monitor_tells = (record { one_valid = refl; other_valid = refl; equal_but = refl }, refl, refl, refl)
