-- What each clause of the definitions of isolation takes in, and what it shuts out. Each claim holds by computation. Assumes
-- nothing.
use Prim.Native.Nat.{ℕ}
use mathlib.Core.Path.{◌≡◌, refl, ap}
use mathlib.Core.Bool.{true, false, true≢false, false≢true}
use mathlib.Core.Logic.{inl, inr}
use mathlib.Core.List.{List, [], ◌∷◌, map}
use borrow.Author.Tests.{eqb-false}
use lib.ListN.{get_or}
use Rattle.device.specs.declared.Mode.TheVariants.{Blanket}
use Rattle.device.specs.declared.UserAnswer.TheVariants.{None, Allow}
use Rattle.device.specs.declared.Slot.{Slot}
use Rattle.device.specs.declared.Event.TheVariants.{Unreadable, Terminate}
use Rattle.model.specs.State.{State, with_slots, amend}
use Rattle.model.specs.Events.{write_event}
use Rattle.device.specs.Answers.{DONE, ALLOWED}
use Rattle.model.specs.Step.{answer, slot_deciding}
use Rattle.model.specs.Isolation.{known, Alike, is_running, is_request_kind, is_request, MayReplace, Replaced, Agree, excused}
use Rattle.model.specs.Isolation.{Place, Isolated}
use Rattle.model.proofs.Worked.{install, remove, start, ask, computed}
use Rattle.model.proofs.Cases.{short}
use Rattle.model.proofs.Edges.{slot}
use Rattle.model.proofs.Faulty.{f, ten, w, asked, unasked, damaged}

-- ---- the states

-- a session with these decisions, over these slots
abbrev pub during : (suite granted revoked : ℕ) → List Slot → State
during i g v l = record {
  session = record { suite = record { 0 = i }; decisions = record { granted = g; revoked = v } };
  slots = l;
}

-- suite 10 runs, and no two numbers are the same
abbrev pub busy : State
busy = during 10 1 2 (slot 10 3 4 5 6 7 ∷ slot 11 8 9 12 13 14 ∷ [])

-- suite 10 may know its session and its slot, and of the other slot all but the decisions
pub known_running : known ten busy ≡ during 10 1 2 (slot 10 3 4 5 6 7 ∷ slot 11 8 9 12 0 0 ∷ [])
unfolding known
known_running = refl

-- suite 11 may know its slot and which suite runs, and of the other slot all but the decisions
pub known_idle : known w busy ≡ during 10 0 0 (slot 10 3 4 5 0 0 ∷ slot 11 8 9 12 13 14 ∷ [])
unfolding known
known_idle = refl

pub running : is_running ten busy ∷ is_running w busy ∷ is_running w (during 0 0 0 []) ∷ [] ≡ true ∷ false ∷ false ∷ []
running = refl

-- a decision of suite 10 that is not valid
abbrev pub invalid : State
invalid = with_slots (amend ten (slot_deciding (λ _. record { granted = 1; revoked = 1 })) asked.slots) asked

pub one_invalid : Alike f w invalid asked → ⊥
unfolding computed
one_invalid k = false≢true k.one_valid

pub other_invalid : Alike f w asked invalid → ⊥
unfolding computed
other_invalid k = false≢true k.other_valid

-- suite 10's own decisions differ
pub own_differ : Alike f ten asked unasked → ⊥
unfolding computed known
own_differ k = eqb-false 2 0 refl (ap (λ s. s.session.decisions.granted) k.equal_but)

-- ---- the records

abbrev pub terminate : List ℕ
terminate = write_event Terminate

abbrev pub start_10 : List ℕ
start_10 = write_event (start 10)

abbrev pub start_11 : List ℕ
start_11 = write_event (start 11)

abbrev pub ask_2 : List ℕ
ask_2 = write_event (ask 2 None)

abbrev pub allow_2 : List ℕ
allow_2 = write_event (ask 2 (Allow Blanket))

-- a request of a permission that there is not
abbrev pub ask_64 : List ℕ
ask_64 = write_event (ask 64 None)

pub request_kinds : map is_request_kind (ask_2 ∷ ask_64 ∷ damaged ∷ [] ∷ map (λ k. short k 0 10 0 0 0) (0 ∷ 1 ∷ 2 ∷ 3 ∷ 4 ∷ 6 ∷ []))
    ≡ true ∷ true ∷ true ∷ false ∷ false ∷ false ∷ false ∷ false ∷ false ∷ false ∷ []
unfolding computed
request_kinds = refl

pub requests : map is_request (Unreadable ∷ install 10 0 0 0 ∷ remove 10 ∷ start 10 ∷ Terminate ∷ ask 2 None ∷ [])
    ≡ false ∷ false ∷ false ∷ false ∷ false ∷ true ∷ []
requests = refl

-- the same record always; one request for another, readable or not, while the suite is not running
pub may_replace : MayReplace true start_10 start_10 × MayReplace false ask_2 allow_2 × MayReplace false ask_2 damaged
    × MayReplace false ask_64 damaged
unfolding computed
may_replace = (inl refl, inr (refl, refl, refl), inr (refl, refl, refl), inr (refl, refl, refl))

-- not while it is running; no start for another; neither for a request, either way
pub not_running : MayReplace true ask_2 allow_2 → ⊥
unfolding computed
not_running (inl eq) = eqb-false 0 3 refl (ap (λ e. get_or e 5 0) eq)
not_running (inr (runs, _, _)) = true≢false runs

pub no_start : MayReplace false start_10 start_11 → ⊥
unfolding computed
no_start (inl eq) = eqb-false 10 11 refl (ap (λ e. get_or e 2 0) eq)
no_start (inr (_, kind, _)) = false≢true kind

pub no_start_first : MayReplace false start_11 ask_2 → ⊥
unfolding computed
no_start_first (inl eq) = eqb-false 3 5 refl (ap (λ e. get_or e 0 0) eq)
no_start_first (inr (_, kind, _)) = false≢true kind

pub no_start_second : MayReplace false ask_2 start_11 → ⊥
unfolding computed
no_start_second (inl eq) = eqb-false 5 3 refl (ap (λ e. get_or e 0 0) eq)
no_start_second (inr (_, _, kind)) = false≢true kind

-- the lists are of one length, and at the third place suite 11 is running
pub shorter : Replaced f w asked [] (ask_2 ∷ []) → ⊥
unfolding Replaced
shorter h = h

pub longer : Replaced f w asked (ask_2 ∷ []) [] → ⊥
unfolding Replaced
longer h = h

abbrev pub then_11 : List ℕ → List (List ℕ)
then_11 e = terminate ∷ start_11 ∷ e ∷ []

pub not_its_own : Replaced f w asked (then_11 ask_2) (then_11 allow_2) → ⊥
unfolding computed Replaced
not_its_own h = not_running h.1.1.0

-- ---- what follows

pub another_runs : Agree w (during 10 0 0 []) (during 0 0 0 []) → ⊥
another_runs a = eqb-false 10 0 refl (ap (λ i. i.0) a.running)

pub not_installed : Agree w (during 0 0 0 (slot 11 2 0 0 0 0 ∷ [])) (during 0 0 0 []) → ⊥
unfolding computed
not_installed a = true≢false a.installed

pub stored_differs : Agree w (during 0 0 0 (slot 11 2 0 4 4 0 ∷ [])) (during 0 0 0 (slot 11 2 0 4 0 0 ∷ [])) → ⊥
unfolding computed
stored_differs a = eqb-false 4 0 refl (ap (λ x. x.decisions.granted) a.stored)

pub session_differs : Agree w (during 11 4 0 []) (during 11 0 0 []) → ⊥
session_differs a = eqb-false 4 0 refl (ap (λ q. q.decisions.granted) (a.session refl))

-- no request while the suite is running; a request on either side or both while it is not; two that cannot be read; no start
pub excuses : excused true ask_2 allow_2
    ∷ excused false ask_2 allow_2 ∷ excused false ask_2 damaged ∷ excused false damaged ask_2
    ∷ excused false ask_64 damaged ∷ excused false start_10 start_10 ∷ []
    ≡ false ∷ true ∷ true ∷ true ∷ false ∷ false ∷ []
unfolding computed
excuses = refl

pub answers_differ : Place f w false (answer DONE asked) (answer ALLOWED asked) → ⊥
answers_differ p = eqb-false 0 1 refl (ap (λ r. r.number) (p.answer refl))

pub not_alike : Place f ten true (answer DONE asked) (answer DONE unasked) → ⊥
not_alike p = own_differ p.alike

pub disagree : Place f w true (answer DONE (during 10 0 0 [])) (answer DONE (during 0 0 0 [])) → ⊥
disagree p = another_runs p.agree

-- at the third place suite 11 is running, and is answered
pub third_place : Isolated f w asked unasked (then_11 ask_2) (then_11 allow_2) → ⊥
unfolding computed Isolated
third_place h = eqb-false 3 1 refl (ap (λ r. r.number) (h.1.1.0.answer refl))
