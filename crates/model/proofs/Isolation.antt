-- Isolation. What an event answers, and what w may know of the next state, come from what w may know of this one; a request of
-- another suite leaves that as it is. Two lemmas about one state give the theorem about two. Assumes nothing.
use Prim.Native.Nat.{ℕ}
use mathlib.Core.Path.{◌≡◌, refl, sym, ap, ap₂, ◌∙◌}
use mathlib.Core.Bool.{Bool, true, false, not, ◌&&◌, ◌||◌, cond, true≢false}
use mathlib.Core.Logic.{inl, inr}
use mathlib.Core.List.{List, [], ◌∷◌, map}
use lib.ListN.{get_or}
use borrow.Author.Tests.{eqb-true}
use Rattle.device.specs.declared.Suite.{Suite}
use Rattle.device.specs.declared.Permission.{Permission}
use Rattle.device.specs.declared.Mode.{Mode}
use Rattle.device.specs.declared.Mode.TheVariants.{Oneshot as oneshot, Session as session, Blanket as blanket}
use Rattle.device.specs.declared.UserAnswer.{UserAnswer}
use Rattle.device.specs.declared.UserAnswer.TheVariants.{None, Allow, Deny}
use Rattle.device.specs.declared.Decisions.{Decisions}
use Rattle.device.specs.declared.Slot.{Slot}
use Rattle.device.specs.declared.Session.{Session}
use Rattle.device.specs.declared.Event.{Event}
use Rattle.device.specs.declared.Event.TheVariants.{Unreadable, Install, Remove, Start, Terminate, Request}
use Rattle.device.specs.declared.Response.{Response}
use Rattle.device.specs.Device.{is_permission, no_suite, same_suite}
use Rattle.model.specs.Policy.{Fixed}
use Rattle.model.specs.State.{State, with_session, with_slots, carries, find, amend}
use Rattle.device.specs.Empty.{undecided, free}
use Rattle.model.specs.Events.{carried, event_of, event_in, fields_at, same_bytes, write_event, read_event}
use Rattle.device.specs.Answers.{refused, BAD_EVENT}
use Rattle.model.specs.Decision.{grant, revoke}
use Rattle.model.specs.Step.{Outcome, answer, in_session, lacking, installed, running_slot, judged, session_deciding}
use Rattle.model.specs.Step.{slot_deciding, keep, enter, request, step}
use Rattle.model.specs.Isolation.{slot_known, session_known, known, Alike, is_running, is_request_kind, is_request, MayReplace}
use Rattle.model.specs.Isolation.{Replaced, Agree, excused, Place, Isolated}
use Rattle.model.proofs.Tests.{neither, cases}
use Rattle.model.proofs.Slots.{same_suite_lem}
use Rattle.model.proofs.Kept.{record_kept}

abbrev pub state_of : Session → List Slot → State
state_of q l = record { session = q; slots = l }

twice : (b : Bool) (d : Decisions) → cond b (cond b d undecided) undecided ≡ cond b d undecided
twice true d = refl
twice false d = refl

module _ (w : Suite) where
  -- ---- slots as w may know them

  abbrev slots_known : List Slot → List Slot
  slots_known l = map (slot_known w) l

  slot_again : (x : Slot) → slot_known w (slot_known w x) ≡ slot_known w x
  slot_again x = ap (λ d. slot_deciding (λ _. d) x) (twice (same_suite x.suite w) x.decisions)

  slots_again : (l : List Slot) → slots_known (slots_known l) ≡ slots_known l
  slots_again [] = refl
  slots_again (x ∷ xs) = ap₂ ◌∷◌ (slot_again x) (slots_again xs)

  carries_known : (i : Suite) (l : List Slot) → carries i (slots_known l) ≡ carries i l
  unfolding carries
  carries_known i [] = refl
  carries_known i (x ∷ xs) = ap (λ b. same_suite x.suite i || b) (carries_known i xs)

  -- its own slot and its own session are known in full
  pub own_slot : (x : Slot) → same_suite x.suite w ≡ true → slot_known w x ≡ x
  own_slot x own = rw own

  pub own_session : (q : Session) → same_suite q.suite w ≡ true → session_known w q ≡ q
  own_session q own = rw own

  find_known : (l : List Slot) → find w (slots_known l) ≡ find w l
  unfolding find
  find_known [] = refl
  find_known (x ∷ xs) =
      elim (same_suite x.suite w) as
      (λ b. cond b (slot_deciding (λ d. cond b d undecided) x) (find w (slots_known xs)) ≡ cond b x (find w xs))
      [ true ↦ refl | false ↦ find_known xs ]

  -- the slot with number i is amended in a way that w may know
  amend_known : (i : Suite) (g : Slot → Slot)
      → ((x : Slot) → same_suite x.suite i ≡ true → slot_known w (g (slot_known w x)) ≡ slot_known w (g x))
      → (l : List Slot) → slots_known (amend i g (slots_known l)) ≡ slots_known (amend i g l)
  unfolding amend
  amend_known i g h [] = refl
  amend_known i g h (x ∷ xs) = go (same_suite x.suite i) refl (amend_known i g h xs)
    where
      go : (b : Bool) → same_suite x.suite i ≡ b → slots_known (amend i g (slots_known xs)) ≡ slots_known (amend i g xs)
          → slots_known (cond b (g (slot_known w x) ∷ slots_known xs) (slot_known w x ∷ amend i g (slots_known xs)))
          ≡ slots_known (cond b (g x ∷ xs) (x ∷ amend i g xs))
      go true is r = ap₂ ◌∷◌ (h x is) (slots_again xs)
      go false is r = ap₂ ◌∷◌ (slot_again x) r

  -- another suite's decisions change
  other_known : (i : Suite) (g : Decisions → Decisions) (l : List Slot) → same_suite i w ≡ false
      → slots_known (amend i (slot_deciding g) l) ≡ slots_known l
  unfolding amend
  other_known i g [] n = refl
  other_known i g (x ∷ xs) n = go (same_suite x.suite i) refl (other_known i g xs n)
    where
      go : (b : Bool) → same_suite x.suite i ≡ b → slots_known (amend i (slot_deciding g) xs) ≡ slots_known xs
          → slots_known (cond b (slot_deciding g x ∷ xs) (x ∷ amend i (slot_deciding g) xs)) ≡ slots_known (x ∷ xs)
      go true is r = rw (eqb-true x.suite.0 i.0 is, n)
      go false is r = ap (λ l. slot_known w x ∷ l) r

  -- ---- states

  session_again : (q : Session) → session_known w (session_known w q) ≡ session_known w q
  session_again q = ap (λ d. session_deciding (λ _. d) q) (twice (same_suite q.suite w) q.decisions)

  -- w cannot tell two outcomes apart
  record Untold (o o' : Outcome) : Type 0 where
    response : o.response ≡ o'.response
    state : known w o.state ≡ known w o'.state

  untold_cond : (b : Bool) {o o' q q' : Outcome} → Untold o o' → Untold q q' → Untold (cond b o q) (cond b o' q')
  untold_cond true x y = x
  untold_cond false x y = y

  stays : (s : State) {r : Response} → Untold (answer r s) (answer r (known w s))
  unfolding known
  stays s = record { response = refl; state = ap₂ state_of (sym (session_again s.session)) (sym (slots_again s.slots)) }

  other_slots : (s : State) {l l' : List Slot} {r : Response} → slots_known l' ≡ slots_known l
      → Untold (answer r (with_slots l s)) (answer r (with_slots l' (known w s)))
  unfolding known
  other_slots s eq = record { response = refl; state = ap₂ state_of (sym (session_again s.session)) (sym eq) }

  other_session : (s : State) {q q' : Session} {r : Response} → q ≡ q'
      → Untold (answer r (with_session q s)) (answer r (with_session q' (known w s)))
  unfolding known
  other_session s eq = record { response = refl; state = ap₂ state_of (ap (session_known w) eq) (sym (slots_again s.slots)) }

  -- w cannot tell the next state from s
  record Unmoved (s : State) (o : Outcome) : Type 0 where
    kept : known w o.state ≡ known w s

  module _ (f : Fixed) (s : State) where
    -- every event but a request goes by what w may know
    unasked : (x : Event) → is_request x ≡ false → Untold (step f s x) (step f (known w s) x)
    unfolding step known
    unasked Unreadable h = stays s
    unasked (Install i x d) h =
        rw (carries_known i s.slots, carries_known no_suite s.slots)
        (untold_cond (carries i s.slots) (stays s) (untold_cond (is_permission (lacking f x d)) (stays s)
        (untold_cond (not (carries no_suite s.slots)) (stays s)
        (other_slots s (amend_known no_suite (λ _. installed i x d) (λ y is. refl) s.slots)))))
    unasked (Remove i) h =
        rw (carries_known i s.slots)
        (untold_cond (not (carries i s.slots)) (stays s) (untold_cond (same_suite s.session.suite i) (stays s)
        (other_slots s (amend_known i (λ _. free) (λ y is. refl) s.slots))))
    unasked (Start i) h =
        rw (carries_known i s.slots)
        (untold_cond (in_session s) (stays s) (untold_cond (not (carries i s.slots)) (stays s) (other_session s refl)))
    unasked Terminate h = untold_cond (not (in_session s)) (stays s) (other_session s refl)
    unasked (Request p u) h = absurd (true≢false h)

    -- ---- a request of its own

    module _ (own : is_running w s ≡ true) where
      me : s.session.suite ≡ w
      me = same_suite_lem s.session.suite w own

      own_find : find s.session.suite (slots_known s.slots) ≡ find s.session.suite s.slots
      own_find = rw me (find_known s.slots)

      kept_known : (m : Mode) (g : Decisions → Decisions) {r : Response}
          → Untold (answer r (keep m g s)) (answer r (keep m g (known w s)))
      unfolding known
      kept_known oneshot g = stays s
      kept_known session g = other_session s (ap (session_deciding g) (sym (own_session s.session own)))
      kept_known blanket g =
          other_slots s (amend_known s.session.suite (slot_deciding g)
          (λ x is. ap (λ y. slot_known w (slot_deciding g y)) (own_slot x (rw me at is))) s.slots)

      entered_known : (u : UserAnswer) (p : Permission) {r : Response}
          → Untold (answer r (enter u p s)) (answer r (enter u p (known w s)))
      entered_known None p = stays s
      entered_known (Allow m) p = kept_known m (grant p)
      entered_known (Deny m) p = kept_known m (revoke p)

      own_request : (p : Permission) (u : UserAnswer) → Untold (step f s (Request p u)) (step f (known w s) (Request p u))
      unfolding step request known
      own_request p u =
          let j = judged f s.session (running_slot s) p u in
          rw (ap₂ (λ r x. judged f r x p u) (own_session s.session own) own_find)
          (untold_cond (not (in_session s)) (stays s) (untold_cond (refused j) (stays s) (entered_known u p)))

    -- ---- a request of another suite

    module _ (other : is_running w s ≡ false) where
      other_kept : (m : Mode) (g : Decisions → Decisions) → known w (keep m g s) ≡ known w s
      unfolding known
      other_kept oneshot g = refl
      other_kept session g = rw other
      other_kept blanket g = ap (state_of (session_known w s.session)) (other_known s.session.suite g s.slots other)

      other_entered : (u : UserAnswer) (p : Permission) → known w (enter u p s) ≡ known w s
      other_entered None p = refl
      other_entered (Allow m) p = other_kept m (grant p)
      other_entered (Deny m) p = other_kept m (revoke p)

      other_request : (p : Permission) (u : UserAnswer) → known w (step f s (Request p u)).state ≡ known w s
      unfolding step request
      other_request p u =
          (cases (Unmoved s) (not (in_session s)) (λ _. unchanged)
          (λ _. cases (Unmoved s) (refused (judged f s.session (running_slot s) p u)) (λ _. unchanged)
          (λ _. record { kept = other_entered u p }))).kept
        where
          unchanged : {r : Response} → Unmoved s (answer r s)
          unchanged = record { kept = refl }

-- ---- the theorem

-- a record of a request's kind is a request, or cannot be read
request_kind : (P : Event → Type 0) (e : List ℕ) → is_request_kind e ≡ true → P Unreadable
    → ((p : Permission) (u : UserAnswer) → P (Request p u)) → P (read_event e)
unfolding read_event event_in event_of fields_at
request_kind P e kind none some = cases P (carried (event_in e) && same_bytes (write_event (event_in e)) e) (λ _. asked) (λ _. none)
  where
    asked : P (event_in e)
    asked = rw (eqb-true (get_or e 0 0) 5 kind) (some _ _)

module _ (f : Fixed) (w : Suite) where
  -- while w is not running such a record leaves what w may know
  left : (s : State) → is_running w s ≡ false → (e : List ℕ) → is_request_kind e ≡ true
      → known w (step f s (read_event e)).state ≡ known w s
  unfolding step
  left s n e kind = request_kind (λ x. known w (step f s x).state ≡ known w s) e kind refl (other_request w f s n)

  unread : (s : State) (e : List ℕ) → is_request_kind e ≡ true → is_request (read_event e) ≡ false
      → (step f s (read_event e)).response ≡ BAD_EVENT
  unfolding step
  unread s e kind =
      request_kind (λ x. is_request x ≡ false → (step f s x).response ≡ BAD_EVENT) e kind (λ _. refl) (λ p u h. absurd (true≢false h))

  module _ (s t : State) (alike : known w s ≡ known w t) where
    running_same : s.session.suite ≡ t.session.suite
    unfolding known
    running_same = ap (λ v. v.session.suite) alike

    runs_same : is_running w t ≡ is_running w s
    runs_same = ap (λ i. same_suite i w) (sym running_same)

    -- what is to be shown of two events
    abbrev Told : Event → Event → Type 0
    Told x x' = (not (is_running w s) && (is_request x || is_request x') ≡ false → (step f s x).response ≡ (step f t x').response)
        × (known w (step f s x).state ≡ known w (step f t x').state)

    -- both outcomes come from what w may know
    joined : (x : Event) → Untold w (step f s x) (step f (known w s) x) → Untold w (step f t x) (step f (known w t) x) → Told x x
    joined x a b = (
      λ _. a.response ∙ ap (λ v. (step f v x).response) alike ∙ sym b.response,
      a.state ∙ ap (λ v. known w (step f v x).state) alike ∙ sym b.state,
    )

    no_request : (x : Event) → is_request x ≡ false → Told x x
    no_request x h = joined x (unasked w f s x h) (unasked w f t x h)

    one_event : (x : Event) → Told x x
    one_event Unreadable = no_request Unreadable refl
    one_event (Install i x d) = no_request (Install i x d) refl
    one_event (Remove i) = no_request (Remove i) refl
    one_event (Start i) = no_request (Start i) refl
    one_event Terminate = no_request Terminate refl
    one_event (Request p u) = go (is_running w s) refl
      where
        go : (b : Bool) → is_running w s ≡ b → Told (Request p u) (Request p u)
        go true r = joined (Request p u) (own_request w f s r p u) (own_request w f t (runs_same ∙ r) p u)
        go false r = (
          λ x. absurd (true≢false (rw r at x)),
          other_request w f s r p u ∙ alike ∙ sym (other_request w f t (runs_same ∙ r) p u),
        )

    two_records : (e e' : List ℕ) → MayReplace (is_running w s) e e' → Told (read_event e) (read_event e')
    two_records e e' (inl one) = rw (← one) (one_event (read_event e))
    two_records e e' (inr (r, kind, kind')) = (
      λ x. let (a, a') = neither (is_request (read_event e)) (is_request (read_event e')) (rw r at x) in
          unread s e kind a ∙ sym (unread t e' kind' a'),
      left s r e kind ∙ alike ∙ sym (left t (runs_same ∙ r) e' kind'),
    )

    pub agree : Agree w s t
    unfolding known
    agree = record {
      running = running_same;
      installed = sym (carries_known w w s.slots) ∙ ap (λ v. carries w v.slots) alike ∙ carries_known w w t.slots;
      stored = sym (find_known w s.slots) ∙ ap (λ v. find w v.slots) alike ∙ find_known w t.slots;
      session = λ r. sym (own_session w s.session r) ∙ ap (λ v. v.session) alike ∙ own_session w t.session (runs_same ∙ r);
    }

  pub one_place : (s t : State) → Alike f w s t → (e e' : List ℕ) → MayReplace (is_running w s) e e'
      → Place f w (excused (is_running w s) e e') (step f s (read_event e)) (step f t (read_event e'))
  one_place s t like e e' m =
      let (answers, states) = two_records s t like.equal_but e e' m in
      record {
        answer = answers;
        alike = record {
          one_valid = record_kept f s like.one_valid e;
          other_valid = record_kept f t like.other_valid e';
          equal_but = states;
        };
        agree = agree _ _ states;
      }

pub isolation : (fixed : Fixed) (suite : Suite) (state state' : State) → Alike fixed suite state state'
    → (events events' : List (List ℕ)) → Replaced fixed suite state events events'
    → Isolated fixed suite state state' events events'
unfolding Replaced Isolated
isolation f w s t like [] es' h = tt
isolation f w s t like (e ∷ es) [] h = tt
isolation f w s t like (e ∷ es) (e' ∷ es') h =
    let here = one_place f w s t like e e' h.0 in
    (here, isolation f w (step f s (read_event e)).state (step f t (read_event e')).state here.alike es es' h.1)
