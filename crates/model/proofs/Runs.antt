-- A refused event leaves the state as it was; a run of some events and then others is the run of all; every state on the way is
-- valid. Assumes nothing.
use mathlib.Core.Path.{◌≡◌, refl, ap}
use mathlib.Core.Bool.{true, not, false≢true, true≢false}
use mathlib.Core.List.{List, [], ◌∷◌, ◌++◌}
use Rattle.device.specs.declared.Event.{Event}
use Rattle.device.specs.declared.Event.TheVariants.{Unreadable, Install, Remove, Start, Terminate, Request}
use Rattle.device.specs.declared.Response.{Response}
use Rattle.device.specs.Device.{is_permission, no_suite, same_suite}
use Rattle.model.specs.Policy.{Fixed}
use Rattle.model.specs.State.{State, carries}
use Rattle.device.specs.Answers.{refused}
use Rattle.model.specs.Step.{Outcome, answer, in_session, lacking, running_slot, judged, request, step}
use Rattle.model.specs.Run.{after, responses}
use Rattle.model.proofs.Tests.{cases}

-- ---- refusals

record Leaves (s : State) (o : Outcome) : Type 0 where
  kept : refused o.response ≡ true → o.state ≡ s

pub refused_leaves : (f : Fixed) (s : State) (e : Event) → refused (step f s e).response ≡ true → (step f s e).state ≡ s
unfolding step request
refused_leaves f s e = (event e).kept
  where
    as_it_was : {r : Response} → Leaves s (answer r s)
    as_it_was = record { kept = λ _. refl }

    done : {t : State} → Leaves s (answer (record { number = 0; detail = 0 }) t)
    done = record { kept = λ h. absurd (false≢true h) }

    event : (e : Event) → Leaves s (step f s e)
    event Unreadable = as_it_was
    event (Install i x d) =
        cases (Leaves s) (carries i s.slots) (λ _. as_it_was)
        (λ _. cases (Leaves s) (is_permission (lacking f x d)) (λ _. as_it_was)
        (λ _. cases (Leaves s) (not (carries no_suite s.slots)) (λ _. as_it_was) (λ _. done)))
    event (Remove i) =
        cases (Leaves s) (not (carries i s.slots)) (λ _. as_it_was)
        (λ _. cases (Leaves s) (same_suite s.session.suite i) (λ _. as_it_was) (λ _. done))
    event (Start i) =
        cases (Leaves s) (in_session s) (λ _. as_it_was)
        (λ _. cases (Leaves s) (not (carries i s.slots)) (λ _. as_it_was) (λ _. done))
    event Terminate = cases (Leaves s) (not (in_session s)) (λ _. as_it_was) (λ _. done)
    event (Request p u) =
        let r = judged f s.session (running_slot s) p u in
        cases (Leaves s) (not (in_session s)) (λ _. as_it_was)
        (λ _. cases (Leaves s) (refused r) (λ _. as_it_was) (λ n. record { kept = λ h. absurd (true≢false (rw h at n)) }))

-- ---- some events and then others

pub after_append : (f : Fixed) (s : State) (a b : List Event) → after f s (a ++ b) ≡ after f (after f s a) b
unfolding after
after_append f s [] b = refl
after_append f s (e ∷ a) b = after_append f (step f s e).state a b

pub responses_append : (f : Fixed) (s : State) (a b : List Event)
    → responses f s (a ++ b) ≡ responses f s a ++ responses f (after f s a) b
unfolding after responses
responses_append f s [] b = refl
responses_append f s (e ∷ a) b = ap (λ rs. (step f s e).response ∷ rs) (responses_append f (step f s e).state a b)

-- ---- a refused event left out: the same state at the end, the same answers to the others

pub left_out : (f : Fixed) (s : State) (a : List Event) (e : Event) (b : List Event)
    → refused (step f (after f s a) e).response ≡ true
    → (after f s (a ++ (e ∷ b)) ≡ after f s (a ++ b))
    × (responses f s (a ++ (e ∷ b)) ≡ responses f s a ++ ((step f (after f s a) e).response ∷ responses f (after f s a) b))
unfolding after responses
left_out f s [] e b h =
    let same = refused_leaves f s e h in
    (ap (λ t. after f t b) same, ap (λ t. (step f s e).response ∷ responses f t b) same)
left_out f s (x ∷ a) e b h =
    let (states, answers) = left_out f (step f s x).state a e b h in
    (states, ap (λ rs. (step f s x).response ∷ rs) answers)
