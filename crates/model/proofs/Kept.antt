-- 000, Theorem 1: an event leaves a valid state valid, whatever the policy. Assumes nothing.
use Prim.Native.Nat.{ℕ, zero, suc, ◌<◌}
use native.Mathlib.Omega.{arith}
use mathlib.Core.Path.{◌≡◌, refl, sym, ap, ◌∙◌}
use mathlib.Core.Bool.{Bool, true, false, not, ◌&&◌, cond, false≢true, true≢false, or-true}
use mathlib.Core.List.{List, [], ◌∷◌}
use lib.ListN.{length, replicate}
use lib.Dec.{eqb}
use borrow.Author.Tests.{eqb-true, ne_eqb, ltb-true, ltb-false, not-true, not-false}
use Rattle.words.proofs.Sets.{member_none}
use Rattle.words.proofs.Search.{first_from_none}
use Rattle.device.specs.declared.Suite.{Suite}
use Rattle.device.specs.declared.Permission.{Permission}
use Rattle.device.specs.declared.Domain.{Domain}
use Rattle.device.specs.declared.Mode.{Mode}
use Rattle.device.specs.declared.Mode.TheVariants.{Oneshot as oneshot, Session as session, Blanket as blanket}
use Rattle.device.specs.declared.UserAnswer.{UserAnswer}
use Rattle.device.specs.declared.UserAnswer.TheVariants.{None, Allow, Deny}
use Rattle.device.specs.declared.Descriptor.{Descriptor}
use Rattle.device.specs.declared.Decisions.{Decisions}
use Rattle.device.specs.declared.Slot.{Slot}
use Rattle.device.specs.declared.Session.{Session}
use Rattle.device.specs.declared.Event.{Event}
use Rattle.device.specs.declared.Event.TheVariants.{Unreadable, Install, Remove, Start, Terminate, Request}
use Rattle.device.specs.declared.Response.{Response}
use Rattle.device.specs.Device.{is_permission, is_domain, is_suite, is_set, no_suite, same_suite, has, lowest, slot_count}
use Rattle.model.specs.Policy.{Fixed}
use Rattle.device.specs.Cells.{offered}
use Rattle.model.specs.State.{State, new, with_session, with_slots, carries, find, amend}
use Rattle.device.specs.Empty.{undecided, free, idle}
use Rattle.model.specs.Valid.{◌⇒◌, declared, clear, fits, installable, slot_sound, among, slot_decided}
use Rattle.model.specs.Valid.{slot_valid, slots_valid, session_sound, fits_beside, session_decided, session_valid, valid}
use Rattle.model.specs.Events.{carried, read_event}
use Rattle.device.specs.Answers.{refused}
use Rattle.model.specs.Decision.{standing, given, grant, revoke}
use Rattle.model.specs.Step.{Outcome, answer, in_session, lacking, installed, running_slot, judged, session_deciding}
use Rattle.model.specs.Step.{slot_deciding, keep, enter, request, step}
use Rattle.model.specs.Run.{after}
use Rattle.model.specs.Calls.{record_at, records_from, events_from}
use Rattle.model.proofs.Tests.{both, all_three, cases, same_sym, every_all}
use Rattle.model.proofs.Slots.{same_suite_lem, find_suite, length-amend, carries_deciding, find_deciding, carries_put}
use Rattle.model.proofs.Slots.{find_put}
use Rattle.model.proofs.Entering.{Taken, taken, Undecided, none_stands, Enters, grant_enters, revoke_enters}
use Rattle.model.proofs.Entering.{session_enters, slot_enters, slot_enters_beside}
use Rattle.model.proofs.ValidSlots.{decide_slot, put_slot}
use Rattle.model.proofs.RoundTrip.{read_event_lem}

-- ---- nothing is decided yet

pub slot_undecided : (f : Fixed) (x : Slot) → x.decisions ≡ undecided → slot_decided f x ≡ true
unfolding slot_decided declared
slot_undecided f x e = rw e (every_all (fits f x blanket undecided) (λ p l. rw (member_none p.0)))

session_undecided : (f : Fixed) (i : Suite) (x : Slot) → session_decided f (record { suite = i; decisions = undecided }) x ≡ true
unfolding session_decided
session_undecided f i x = every_all (fits_beside f x undecided) (λ p l. rw (member_none p.0))

pub clear_decided : (f : Fixed) (r : Session) (x : Slot) → clear r.decisions ≡ true → session_decided f r x ≡ true
clear_decided f r x h =
    let (g, v) = both (eqb r.decisions.granted 0) (eqb r.decisions.revoked 0) h in
    let none : r.decisions ≡ undecided =
    λ i. record { granted = eqb-true r.decisions.granted 0 g i; revoked = eqb-true r.decisions.revoked 0 v i } in
    ap (λ d. session_decided f (record { suite = r.suite; decisions = d }) x) none ∙ session_undecided f r.suite x

-- ---- an installed suite is sound

sound_deciding : (f : Fixed) (g : Decisions → Decisions) (x : Slot) → same_suite x.suite no_suite ≡ false
    → slot_sound f x ≡ true → slot_sound f (slot_deciding g x) ≡ true
unfolding slot_sound installable
sound_deciding f g x n h = rw n (rw (n, slot_sound) at h)

pub none_lacking : (f : Fixed) (x : Descriptor) (d : Domain) → is_permission (lacking f x d) ≡ false → (p : Permission) → p.0 < 64
    → (has x.required p ⇒ offered (f.cell d p)) ≡ true
unfolding lacking lowest
none_lacking f x d n p l =
    let t : Permission → Bool = λ q. has x.required q && not (offered (f.cell d q)) in
    let above = ltb-false (lacking f x d).0 64 n in
    let e = first_from_none (λ q. t (record { 0 = q })) 64 0 p.0 (omega arith) (omega arith) in
    go (has x.required p) (offered (f.cell d p)) e
  where
    go : (a b : Bool) → (a && not b) ≡ false → (a ⇒ b) ≡ true
    go true true e = refl
    go true false e = absurd (true≢false e)
    go false b e = refl

install_sound : (f : Fixed) (i : Suite) (x : Descriptor) (d : Domain) → carried (Install i x d) ≡ true
    → is_permission (lacking f x d) ≡ false → slot_sound f (installed i x d) ≡ true
unfolding slot_sound installable
install_sound f i x d h n =
    let (a, b, c) = all_three (is_suite i) (is_set x.required) _ h in
    let (c, e) = both (is_set x.optional) (is_domain d) c in
    let z = ltb-true 0 i.0 (both _ _ a).0 in
    rw (ne_eqb i.0 0 (λ k. omega arith), a, e, b, c) (every_all _ (none_lacking f x d n))

-- ---- the theorem

module _ (f : Fixed) (s : State) (v : valid f s ≡ true) where
  pub record Holds : Type 0 where
    pub count : eqb (length s.slots) slot_count ≡ true
    pub slots : slots_valid f [] s.slots ≡ true
    pub sound : session_sound s ≡ true
    pub decided : session_decided f s.session (running_slot s) ≡ true

  pub holds : Holds
  unfolding valid session_valid
  holds =
      let (count, slots, rest) = all_three _ _ _ v in
      let (sound, decided) = both (session_sound s) (session_decided f s.session (running_slot s)) rest in
      record { count = count; slots = slots; sound = sound; decided = decided }

  pub is_installed : in_session s ≡ true → carries s.session.suite s.slots ≡ true
  unfolding session_sound
  is_installed run = rw (not-true (same_suite s.session.suite no_suite) run, session_sound) at holds.sound

  another_session : (r : Session) → session_valid f (with_session r s) ≡ true → valid f (with_session r s) ≡ true
  unfolding valid
  another_session r h = rw (holds.count, holds.slots, h)

  -- other slots, in which the running suite has a slot as good as its own
  other_slots : (l : List Slot) → length l ≡ length s.slots → slots_valid f [] l ≡ true
      → (in_session s ≡ true
      → (carries s.session.suite l ≡ true) × (session_decided f s.session (find s.session.suite l) ≡ true))
      → valid f (with_slots l s) ≡ true
  unfolding valid session_valid session_sound
  other_slots l e h k = rw (e, holds.count, h) (go (same_suite s.session.suite no_suite) refl)
    where
      go : (b : Bool) → same_suite s.session.suite no_suite ≡ b
          → (cond b (clear s.session.decisions) (carries s.session.suite l)
          && session_decided f s.session (find s.session.suite l)) ≡ true
      go true t =
          let none = rw (t, session_sound) at holds.sound in
          rw (none, clear_decided f s.session (find s.session.suite l) none)
      go false t = rw ((k (rw t)).0, (k (rw t)).1)

  -- slot y, with nothing decided, in place of the first slot with number i, which does not run
  another_slot : (i : Suite) (y : Slot) → slot_sound f y ≡ true → y.decisions ≡ undecided
      → ((j : Suite) → carries j s.slots ≡ true → same_suite j y.suite ≡ true → same_suite j no_suite ≡ true)
      → (in_session s ≡ true → (same_suite i s.session.suite ≡ false) × (same_suite y.suite s.session.suite ≡ false))
      → valid f (with_slots (amend i (λ _. y) s.slots) s) ≡ true
  unfolding among
  another_slot i y a d n m =
      other_slots (amend i (λ _. y) s.slots) (length-amend i (λ _. y) s.slots)
      (put_slot f i y a (slot_undecided f y d) [] s.slots holds.slots (or-true (same_suite y.suite no_suite)) n)
      (λ t. (
        carries_put i s.session.suite y (m t).0 (m t).1 s.slots ∙ is_installed t,
        rw (find_put i s.session.suite y (m t).0 (m t).1 s.slots) holds.decided,
      ))

  started : (i : Suite) → carries i s.slots ≡ true
      → session_valid f (with_session (record { suite = i; decisions = undecided }) s) ≡ true
  unfolding session_valid session_sound
  started i h = rw (session_undecided f i (find i s.slots)) (go (same_suite i no_suite))
    where
      go : (b : Bool) → (cond b true (carries i s.slots) && true) ≡ true
      go true = refl
      go false = rw h

  stopped : session_valid f (with_session idle s) ≡ true
  unfolding session_valid session_sound
  stopped = session_undecided f no_suite (find no_suite s.slots)

  goes_on : in_session s ≡ true → (g : Decisions → Decisions)
      → session_decided f (session_deciding g s.session) (running_slot s) ≡ true
      → session_valid f (with_session (session_deciding g s.session) s) ≡ true
  unfolding session_valid session_sound
  goes_on run g h = rw (not-true (same_suite s.session.suite no_suite) run, is_installed run, h)

  -- ---- a request

  module _ (run : in_session s ≡ true) (p : Permission) (u : UserAnswer) (is : is_permission p ≡ true)
      (accepted : refused (judged f s.session (running_slot s) p u) ≡ false) (answered : given u ≡ true) where
    abbrev me : Slot
    me = running_slot s

    facts : Taken (declared me p) (f.cell me.domain p) (standing p s.session.decisions me.decisions) u
    unfolding judged
    facts =
        taken (declared me p) (f.cell me.domain p) (standing p s.session.decisions me.decisions) u answered accepted

    undecided_yet : Undecided p s.session.decisions me.decisions
    undecided_yet = none_stands p s.session.decisions me.decisions facts.nothing

    -- the answer is kept as long as m says
    kept_as : (m : Mode) (g : Decisions → Decisions) → Enters p m (declared me p) (f.cell me.domain p) g
        → valid f (keep m g s) ≡ true
    kept_as oneshot g e = v
    kept_as session g e =
        another_session (session_deciding g s.session)
        (goes_on run g (session_enters f s.session me p g undecided_yet e holds.decided))
    kept_as blanket g e =
        let there = is_installed run in
        let number : same_suite me.suite no_suite ≡ false = rw (find_suite s.session.suite s.slots there) (not-true _ run) in
        other_slots (amend s.session.suite (slot_deciding g) s.slots)
        (length-amend s.session.suite (slot_deciding g) s.slots)
        (decide_slot f s.session.suite g [] s.slots holds.slots
        (record { sound = sound_deciding f g me number; decided = slot_enters f s.session me p g undecided_yet e }))
        (λ t. (
          carries_deciding g s.session.suite s.session.suite s.slots ∙ there,
          rw (find_deciding g s.session.suite s.slots there)
              (slot_enters_beside f s.session me p g undecided_yet e holds.decided),
        ))

  entered : (run : in_session s ≡ true) (p : Permission) (u : UserAnswer) → is_permission p ≡ true
      → refused (judged f s.session (running_slot s) p u) ≡ false → valid f (enter u p s) ≡ true
  entered run p None is h = v
  entered run p (Allow m) is h =
      let k = facts run p (Allow m) is h refl in
      kept_as run p (Allow m) is h refl m (grant p) (grant_enters p m _ _ is k.declared (not-false _ k.fits))
  entered run p (Deny m) is h =
      let k = facts run p (Deny m) is h refl in
      kept_as run p (Deny m) is h refl m (revoke p) (revoke_enters p m _ _ is k.declared k.asked)

  record Valid (o : Outcome) : Type 0 where
    ok : valid f o.state ≡ true

  stays : {r : Response} → Valid (answer r s)
  stays = record { ok = v }

  event_kept : (e : Event) → carried e ≡ true → Valid (step f s e)
  unfolding step request
  event_kept Unreadable h = stays
  event_kept (Install i x d) h =
      cases Valid (carries i s.slots) (λ _. stays)
      (λ new. cases Valid (is_permission (lacking f x d)) (λ _. stays)
      (λ offers. cases Valid (not (carries no_suite s.slots)) (λ _. stays)
      (λ room. record {
        ok = another_slot no_suite (installed i x d) (install_sound f i x d h offers) refl
            (λ j t e. absurd (false≢true (sym new ∙ (rw (same_suite_lem j i e) at t))))
            (λ t. (
              same_sym s.session.suite no_suite (not-true _ t),
              ne_eqb i.0 s.session.suite.0
                  (λ e. false≢true (sym new ∙ ap (λ k. carries (record { 0 = k }) s.slots) e ∙ is_installed t)),
            ));
      })))
  event_kept (Remove i) h =
      cases Valid (not (carries i s.slots)) (λ _. stays)
      (λ there. cases Valid (same_suite s.session.suite i) (λ _. stays)
      (λ other. record {
        ok = another_slot i free (unfold slot_sound in refl) refl (λ j t e. e)
            (λ t. (same_sym s.session.suite i other, same_sym s.session.suite no_suite (not-true _ t)));
      }))
  event_kept (Start i) h =
      cases Valid (in_session s) (λ _. stays)
      (λ idle. cases Valid (not (carries i s.slots)) (λ _. stays)
      (λ there. record { ok = another_session (record { suite = i; decisions = undecided }) (started i (not-false _ there)) }))
  event_kept Terminate h =
      cases Valid (not (in_session s)) (λ _. stays)
      (λ run. record { ok = another_session idle stopped })
  event_kept (Request p u) h =
      cases Valid (not (in_session s)) (λ _. stays)
      (λ run. cases Valid (refused (judged f s.session (running_slot s) p u)) (λ _. stays)
      (λ accepted. record { ok = entered (not-false _ run) p u h accepted }))

-- ---- every event, every record of bytes, every run

pub kept : (f : Fixed) (s : State) → valid f s ≡ true → (e : Event) → carried e ≡ true → valid f (step f s e).state ≡ true
kept f s v e c = (event_kept f s v e c).ok

pub record_kept : (f : Fixed) (s : State) → valid f s ≡ true → (b : List ℕ) → valid f (step f s (read_event b)).state ≡ true
unfolding step
record_kept f s v b = read_event_lem (λ e. valid f (step f s e).state ≡ true) b v (kept f s v)

pub run_kept : (f : Fixed) (s : State) → valid f s ≡ true → (b : List ℕ) (n i : ℕ) → valid f (after f s (events_from b n i)) ≡ true
unfolding after records_from
run_kept f s v b zero i = v
run_kept f s v b (suc n) i =
    let e = record_at b i in
    run_kept f (step f s (read_event e)).state (record_kept f s v e) b n (suc i)

-- a new state is valid under every policy
free_slots : (f : Fixed) (lower : List Suite) (n : ℕ) → slots_valid f lower (replicate n free) ≡ true
unfolding slots_valid slot_valid slot_sound
free_slots f lower zero = refl
free_slots f lower (suc n) = rw (slot_undecided f free refl) (free_slots f (no_suite ∷ lower) n)

pub new_valid : (f : Fixed) → valid f new ≡ true
unfolding valid session_valid session_sound
new_valid f = rw (free_slots f [] slot_count) (session_undecided f no_suite (find no_suite new.slots))
