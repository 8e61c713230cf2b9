-- A request by what the code tests, and that the running suite's slot keeps its place. Assumes nothing.
use Rattle.std.specs.Prelude.{Option}
use Rattle.std.proofs.Common.{◌≡◌, refl, ap, sym, ◌∙◌, ℕ, Bool, true, false, not, ◌||◌, cond, List, arith, Some, None, Ok, Err}
use lib.ListN.{get_or, get_or-eq_default}
use mathlib.Core.Bool.{false≢true}
use lib.Dec.{ltb}
use borrow.Author.Tests.{eq-eqb, ne_eqb, ltb-true}
use Rattle.words.proofs.Sets.{member_none}
use Rattle.device.specs.declared.Permission.{Permission}
use Rattle.device.specs.declared.Mode.{Mode}
use Rattle.device.specs.declared.Mode.TheVariants.{Oneshot, Session as ForSession, Blanket}
use Rattle.device.specs.declared.UserAnswer.{UserAnswer}
use Rattle.device.specs.declared.UserAnswer.TheVariants.{None as Unasked, Allow, Deny}
use Rattle.device.specs.declared.Standing.{Standing}
use Rattle.device.specs.declared.Decisions.{Decisions}
use Rattle.device.specs.declared.Slot.{Slot}
use Rattle.device.specs.declared.Session.{Session}
use Rattle.device.specs.declared.Event.{Event}
use Rattle.device.specs.declared.Event.TheVariants.{Unreadable, Install, Remove, Start, Terminate, Request}
use Rattle.device.specs.declared.Refusal.{Refusal}
use Rattle.device.specs.declared.Refusal.TheVariants.{NoSession}
use Rattle.device.specs.declared.Response.{Response}
use Rattle.device.specs.Device.{no_suite, same_suite}
use Rattle.device.specs.Empty.{undecided, free}
use Rattle.device.specs.Answers.{refused, refusing, DONE, NO_SESSION, BUSY, NOT_INSTALLED, NOT_DECLARED}
use Rattle.device.proofs.Responses.{answer_taken, refusal_refused}
use Rattle.model.specs.Policy.{Fixed}
use Rattle.model.specs.State.{State, with_session, carries, place, read_state}
use Rattle.model.specs.Valid.{declared}
use Rattle.model.specs.Decision.{standing, decision, grant, revoke}
use Rattle.model.specs.Step.{Outcome, answer, in_session, running_slot, slot_deciding, judged, request, keep, enter, step}
use Rattle.model.proofs.Bytes.{length-slots}
use Rattle.model.proofs.Slots.{find_place, amend_place, place_deciding}
use Rattle.store.specs.Holds.{with_slot, found}
use Rattle.store.proofs.Places.{found_some, found_none}
use Rattle.steps.specs.Did.{Did, Running, running_place, Knows, place_after}

-- ---- the answer

module _ (f : Fixed) (s : State) (p : Permission) (u : UserAnswer) (r : Session) (read : r ≡ s.session) where
  pub request_idle : r.suite.0 ≡ 0 → step f s (Request p u) ≡ answer NO_SESSION s
  unfolding step
  request_idle e = rw (← read, eq-eqb _ _ e)

  pub asked_nowhere : r.suite.0 ≡ 0 → None ≡ place_after s (Request p u)
  asked_nowhere e = rw (← read, eq-eqb _ _ e)

  pub asked_there : (r.suite.0 ≡ 0 → ⊥) → found (running_place s) ≡ place_after s (Request p u)
  asked_there n =
      let e : same_suite s.session.suite no_suite ≡ false = rw (← read) (ne_eqb _ _ n) in
      rw e

  module _ (n : r.suite.0 ≡ 0 → ⊥) (k : ℕ) (at : k ≡ running_place s) (x : Slot) (slot : x ≡ get_or s.slots k free) where
    pub its_slot : x ≡ running_slot s
    its_slot = slot ∙ ap (λ m. get_or s.slots m free) at ∙ sym (find_place s.session.suite s.slots)

    module _ (d : Bool) (says : d ≡ declared x p) (c : ℕ) (cell : c ≡ f.cell x.domain p)
        (w : Standing) (stands : w ≡ standing p r.decisions x.decisions) (a : Response) (decided : a ≡ decision d c w u) where
      judged_so : judged f s.session (running_slot s) p u ≡ a
      unfolding judged
      judged_so = rw (← its_slot, ← read, ← says, ← cell, ← stands, decided)

      pub request_refused : refused a ≡ true → step f s (Request p u) ≡ answer a s
      unfolding step request
      request_refused h = rw (judged_so, ← read, ne_eqb _ _ n, h)

      pub request_taken : refused a ≡ false → step f s (Request p u) ≡ answer a (enter u p s)
      unfolding step request
      request_taken h = rw (judged_so, ← read, ne_eqb _ _ n, h)

-- ---- the answer by what the code has in hand: the running session, and the place of its slot, if there is one

runs : {session got : Session} → Running session (Ok got) → (same_suite session.suite no_suite ≡ false) × (got ≡ session)
runs {session} {got} = go (same_suite session.suite no_suite) refl
  where
    go : (t : Bool) → same_suite session.suite no_suite ≡ t → Ok got ≡ cond t (Err NoSession) (Ok session)
        → (same_suite session.suite no_suite ≡ false) × (got ≡ session)
    go true e h = absurd (cc)
    go false e h = (e, cc)

module _ (f : Fixed) (b : List ℕ) (p : Permission) (u : UserAnswer) {r : Session} (running : Running (read_state b).session (Ok r)) where
  abbrev s : State
  s = read_state b

  -- the running suite has no slot, so it declares nothing
  pub request_nowhere : None ≡ found (running_place s) → step f s (Request p u) ≡ answer NOT_DECLARED s
  unfolding step request judged decision declared read_state
  request_nowhere n =
      let none : running_slot s ≡ free =
      find_place s.session.suite s.slots ∙ get_or-eq_default s.slots free (omega (arith, found_none n, length-slots b 32 40)) in
      rw ((runs running).0, none, member_none p.0)

  pub asked_for : found (running_place s) ≡ place_after s (Request p u)
  asked_for = rw (runs running).0

  pub request_fails : {k : ℕ} → Some k ≡ found (running_place s) → {x : Slot} → x ≡ get_or s.slots k free → (refusal : Refusal)
      → refusing refusal ≡ decision (declared x p) (f.cell x.domain p) (standing p r.decisions x.decisions) u
      → step f s (Request p u) ≡ answer (refusing refusal) s
  request_fails {k} at {x} slot refusal decided =
      let (busy, is) = runs running in
      request_refused f s p u r is (λ z. false≢true (sym busy ∙ eq-eqb _ _ (rw is at z))) k (found_some at).0 x slot
      _ refl _ refl _ refl (refusing refusal) decided (refusal_refused refusal)

-- ---- what is entered

-- in the slot, which is the first with the running suite's number
pub keep_slot : (s : State) (g : Decisions → Decisions) (k : ℕ) → k ≡ running_place s
    → with_slot k (slot_deciding g (running_slot s)) s ≡ keep Blanket g s
keep_slot s g k at = rw (at, amend_place s.session.suite (slot_deciding g) s.slots)

pub ruleset answers = (found_some, found_none, find_place, answer_taken, refusal_refused)

-- ---- the place that an event hands on is known in the state that it leaves

keep_place : (s : State) (m : Mode) (g : Decisions → Decisions) → running_place (keep m g s) ≡ running_place s
keep_place s Oneshot g = refl
keep_place s ForSession g = refl
keep_place s Blanket g = place_deciding g s.session.suite s.session.suite s.slots

pub enter_place : (s : State) (u : UserAnswer) (p : Permission) → running_place (enter u p s) ≡ running_place s
enter_place s Unasked p = refl
enter_place s (Allow m) p = keep_place s m (grant p)
enter_place s (Deny m) p = keep_place s m (revoke p)

knows_found : (s : State) {k : ℕ} → k ≡ running_place s → Knows s (found k)
knows_found s {k} e = go (ltb k 32) refl
  where
    go : (t : Bool) → ltb k 32 ≡ t → Knows s (cond t (Some k) None)
    go true l = (e, ltb-true k 32 l)
    go false l = tt

-- another state in which the running suite's slot has the same place
knows_still : (s s' : State) (at : Option ℕ) → running_place s' ≡ running_place s → Knows s at → Knows s' at
knows_still s s' None e h = tt
knows_still s s' (Some k) e h = (h.0 ∙ sym e, h.1)

pub knows_decided : (s s' : State) (at : Option ℕ) {k : ℕ} (x : Slot) (d : Decisions) → k ≡ running_place s → x ≡ running_slot s
    → s' ≡ with_slot k (slot_deciding (λ _. d) x) s → Knows s at → Knows s' at
knows_decided s s' at {k} x d place slot moved =
    knows_still s s' at
    (ap running_place (moved ∙ ap (λ y. with_slot k (slot_deciding (λ _. d) y) s) slot ∙ keep_slot s (λ _. d) k place)
    ∙ keep_place s Blanket (λ _. d))

pub place_known : (f : Fixed) (s : State) (e : Event) → Knows (step f s e).state (place_after s e)
unfolding step request
place_known f s Unreadable = tt
place_known f s (Install i x d) = tt
place_known f s (Remove i) = tt
place_known f s Terminate = tt
place_known f s (Start i) = go (in_session s) (carries i s.slots)
  where
    go : (a c : Bool) → Knows (cond a (answer BUSY s) (cond (not c) (answer NOT_INSTALLED s)
        (answer DONE (with_session (record { suite = i; decisions = undecided }) s)))).state
        (cond (a || not c) None (found (place i s.slots)))
    go true c = tt
    go false false = tt
    go false true = knows_found (with_session (record { suite = i; decisions = undecided }) s) refl
place_known f s (Request p u) = go (in_session s) (refused j)
  where
    j : Response
    j = judged f s.session (running_slot s) p u

    go : (a b : Bool) → Knows (cond (not a) (answer NO_SESSION s) (cond b (answer j s) (answer j (enter u p s)))).state
        (cond a (found (running_place s)) None)
    go false b = tt
    go true true = knows_found s refl
    go true false = knows_found (enter u p s) (sym (enter_place s u p))

-- it is none after an event that hands on none
pub unknown_yet : {o : Outcome} {b : List ℕ} {r : Response} {d : Response × Option ℕ} → d ≡ (r, None) → Did o b r
    → Did o b d.0 × (d.1 ≡ None)
unknown_yet e h = rw e (h, refl)
