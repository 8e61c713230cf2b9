-- The papers' theorems for the monitor, as consequences of (39) and of the same theorems of the relation. Assumes nothing.
use Prim.Native.Nat.{ℕ}
use mathlib.Core.Path.{◌≡◌, refl, sym, ap, ◌∙◌, subst}
use mathlib.Core.Logic.{◌≢◌}
use mathlib.Core.Option.{Option, none, some, some-injective}
use mathlib.Core.Bool.{true}
use mathlib.Core.List.{List, [], ◌∷◌, map}
use Rattle.device.specs.declared.Permission.{Permission}
use Rattle.device.specs.declared.Mode.TheVariants.{Session as session}
use Rattle.device.specs.declared.UserAnswer.{UserAnswer}
use Rattle.device.specs.declared.UserAnswer.TheVariants.{Deny}
use Rattle.device.specs.declared.Event.{Event}
use Rattle.device.specs.declared.Event.TheVariants.{Unreadable, Install, Remove, Start, Terminate, Request}
use Rattle.model.specs.Policy.{Fixed}
use Rattle.model.specs.State.{State}
use Rattle.model.specs.Valid.{valid}
use Rattle.model.specs.Events.{read_event}
use Rattle.device.specs.Answers.{ALLOWED, DENIED}
use Rattle.model.specs.Step.{Outcome, step}
use Rattle.model.specs.Run.{after}
use Rattle.model.proofs.Kept.{record_kept}
use Rattle.paper.specs.Published
use Rattle.paper.specs.Published.{start, terminate, request, install, remove, Valid, OneStands, NoneStands, Exec}
use Rattle.paper.specs.Refinement.{policy_of, state_of, answer_of, event_of, response_of}
use Rattle.paper.specs.Refinement.{Departs, unreadable, undeclared, full, Follows}
use Rattle.paper.specs.Refinement.{published, departs, Traced, SameSession, NotAllowed}
use Rattle.paper.proofs.Refined.{some_ne_none}
use Rattle.paper.proofs.Meaning.{valid_published, coherent_published}
use Rattle.paper.proofs.Simulation.{refined, simulation, traced}
use Rattle.paper.proofs.Coherence.{one_stands, none_stands}
use Rattle.paper.proofs.Invariants.{theorem_1, Revoked, lemma_2, never_allowed, denial_revokes, answered}

records_kept : (f : Fixed) (s : State) → valid f s ≡ true → (bs : List (List ℕ)) → valid f (after f s (map read_event bs)) ≡ true
unfolding after
records_kept f s v [] = v
records_kept f s v (b ∷ bs) = records_kept f (step f s (read_event b)).state (record_kept f s v b) bs

-- ---- events

abbrev Ends : Option Published.Event → Type 0
Ends none = ⊥
Ends (some (start i)) = ⊥
Ends (some terminate) = Unit {0}
Ends (some (request p u)) = ⊥
Ends (some (install i x d)) = ⊥
Ends (some (remove i)) = ⊥

goes_on : (e : Event) (e' : Published.Event) → e ≢ Terminate → event_of e ≡ some e' → e' ≢ terminate
goes_on e e' n is t = n (ends e (subst Ends (sym (is ∙ ap some t)) tt))
  where
    ends : (e : Event) → Ends (event_of e) → e ≡ Terminate
    ends Unreadable k = absurd k
    ends (Install i x d) k = absurd k
    ends (Remove i) k = absurd k
    ends (Start i) k = absurd k
    ends Terminate k = refl
    ends (Request p u) k = absurd k

request_is : (e : Event) (e' : Published.Event) (p : Permission) (u : UserAnswer) → event_of e ≡ some e' → e ≡ Request p u
    → e' ≡ request p (answer_of u)
request_is e e' p u is r = some-injective e' (request p (answer_of u)) (sym is ∙ ap event_of r)

-- a departure is no response
silent : {s : State} {e : Event} {o : Outcome} → Departs s e o → response_of o.response ≡ none
silent unreadable = refl
silent (undeclared _ _) = refl
silent (full _) = refl

module _ (f : Fixed) where
  abbrev pol : Published.Policy
  pol = policy_of f

  -- ---- Theorems 1 and 2, Lemmas 2.3.1 and 2.3.2: every state of a run

  module _ (s : State) (v : valid f s ≡ true) (bs : List (List ℕ)) where
    abbrev left : State
    left = after f s (map read_event bs)

    pub run_valid : Valid pol (state_of left)
    run_valid = valid_published f left (records_kept f s v bs)

    pub run_one_stands : OneStands pol (state_of left)
    run_one_stands = one_stands pol run_valid (coherent_published f left (records_kept f s v bs))

    pub run_none_stands : NoneStands pol (state_of left)
    run_none_stands = none_stands pol (coherent_published f left (records_kept f s v bs))

  -- ---- Theorem 3

  module _ {s : State} {e : Event} {o : Outcome} {S : Published.State} where
    valid_still : {S' : Published.State} → Follows f s e o S S' → Valid pol S → Valid pol S'
    valid_still (published e' is x) v = theorem_1 pol v x
    valid_still (departs d) v = v

    revoked_still : {S' : Published.State} {p : Permission} → Follows f s e o S S' → e ≢ Terminate
        → Revoked pol p S → Revoked pol p S'
    revoked_still (published e' is x) n k = lemma_2 pol (goes_on e e' n is) x k
    revoked_still (departs d) n k = k

    not_allowed : {S' : Published.State} (p : Permission) (u : UserAnswer) → Follows f s e o S S' → e ≡ Request p u
        → Valid pol S → Revoked pol p S → o.response ≢ ALLOWED
    not_allowed {S'} p u (published e' is x) r v k q =
        let x = subst (λ t. Exec pol S t (response_of o.response) S') (request_is e e' p u is r) x in
        never_allowed pol {o = answer_of u} v x k (ap response_of q)
    not_allowed p u (departs d) r v k q = some_ne_none (sym (ap response_of q) ∙ silent d)

    denied_now : {S' : Published.State} (p : Permission) → Follows f s e o S S' → e ≡ Request p (Deny session)
        → o.response ≡ DENIED → Revoked pol p S'
    denied_now {S'} p (published e' is x) r q =
        let x = subst (λ t. Exec pol S t (response_of o.response) S') (request_is e e' p (Deny session) is r) x in
        denial_revokes pol (answered pol (λ n. some_ne_none (sym (ap response_of q) ∙ n)) x) x
    denied_now p (departs d) r q = absurd (some_ne_none (sym (ap response_of q) ∙ silent d))

  never : (p : Permission) (S : Published.State) (s : State) → Valid pol S → Revoked pol p S → (bs : List (List ℕ))
      → Traced f S s bs → SameSession bs → NotAllowed f p s bs
  never p S s v k [] t n = tt
  never p S s v k (b ∷ bs) (S', x, _, more) (n, same) = (
    λ u r. not_allowed p u x r v k,
    never p S' (step f s (read_event b)).state (valid_still x v) (revoked_still x n k) bs more same,
  )

  -- once the user has denied p for the session, no request for p is allowed until the session ends
  pub denied_for_session : (s : State) → valid f s ≡ true → (p : Permission) (b : List ℕ) → read_event b ≡ Request p (Deny session)
      → (step f s (read_event b)).response ≡ DENIED
      → (bs : List (List ℕ)) → SameSession bs → NotAllowed f p (step f s (read_event b)).state bs
  denied_for_session s v p b r q bs same =
      let (S', x, h) = simulation f (state_of s) s v (refined s) b in
      let s' = (step f s (read_event b)).state in
      never p S' s' (valid_still x (valid_published f s v)) (denied_now p x r q) bs
      (traced f S' s' (record_kept f s v b) h bs) same
