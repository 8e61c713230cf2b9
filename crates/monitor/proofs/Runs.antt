-- A run's loop: after i turns the bytes hold the state after i events, and the output has their answers. Assumes nothing.
use mathlib.Core.Path.{◌≡◌, refl, ap, sym, ◌∙◌}
use Rattle.std.specs.Prelude.{Option, None}
use mathlib.Core.List.{List, [], ◌∷◌, ◌++◌, append-nil, append_assoc}
use Prim.Native.Nat.{ℕ, zero, suc, ◌+◌, ◌*◌, ◌≤◌}
use native.Mathlib.Nat.{add-zero, zero-add}
use native.Mathlib.Numerals.{add-one}
use native.Mathlib.Omega.{arith}
use lib.ListN.{length, drop, length-drop, drop_of_length-le}
use lib.Seq.{sets, sets-eq, length-sets, drop-drop}
use Rattle.words.proofs.Stores.{sets_behind}
use Rattle.device.specs.declared.Event.{Event}
use Rattle.device.specs.declared.Response.{Response}
use Rattle.model.specs.Policy.{Fixed}
use Rattle.model.specs.State.{State, read_state}
use Rattle.model.specs.Events.{read_event}
use Rattle.model.specs.Step.{step}
use Rattle.model.specs.Run.{after, responses}
use Rattle.model.specs.Calls.{record_at, records_from, events_from, output_of}
use Rattle.model.proofs.Runs.{after_append, responses_append}
use Rattle.store.specs.Holds.{Holds}
use Rattle.steps.specs.Did.{Knows}
use Rattle.steps.proofs.Requests.{place_known}
use Rattle.monitor.specs.Turned.{Turned, RanThrough}

-- ---- one record more

abbrev event_at : List ℕ → ℕ → Event
event_at b i = read_event (record_at b i)

events_more : (b : List ℕ) (n i : ℕ) → events_from b (suc n) i ≡ events_from b n i ++ (event_at b (i + n) ∷ [])
unfolding records_from
events_more b zero i = rw add-zero
events_more b (suc n) i =
    let e : suc i + n ≡ i + suc n = omega arith in
    ap (λ es. event_at b i ∷ es) (rw (← e) (events_more b n (suc i)))

pub length-events : (b : List ℕ) (n i : ℕ) → length (events_from b n i) ≡ n
unfolding records_from
length-events b zero i = refl
length-events b (suc n) i = ap suc (length-events b n (suc i))

pub length-responses : (f : Fixed) (s : State) (es : List Event) → length (responses f s es) ≡ length es
unfolding responses
length-responses f s [] = refl
length-responses f s (e ∷ es) = ap suc (length-responses f (step f s e).state es)

pub length-output : (rs : List Response) → length (output_of rs) ≡ 2 * length rs
unfolding output_of
length-output [] = refl
length-output (r ∷ rs) = let e = length-output rs in omega arith

pub output_append : (a b : List Response) → output_of (a ++ b) ≡ output_of a ++ output_of b
unfolding output_of
output_append [] b = refl
output_append (r ∷ a) b = ap (λ l. r.number ∷ r.detail ∷ l) (output_append a b)

-- ---- the loop

-- after i turns
pub record Going (f : Fixed) (s : State) (es lent : List ℕ) (i : ℕ) (b out : List ℕ) (at : Option ℕ) : Type 0 where
  pub state : Holds b (after f s (events_from es i 0))
  pub output : out ≡ output_of (responses f s (events_from es i 0)) ++ drop (2 * i) lent
  pub sized : length out ≡ length lent
  pub place : Knows (read_state b) at

module _ (f : Fixed) (s : State) (es lent : List ℕ) where
  answers : ℕ → List ℕ
  answers i = output_of (responses f s (events_from es i 0))

  length-answers : (i : ℕ) → length (answers i) ≡ 2 * i
  unfolding answers
  length-answers i = length-output _ ∙ ap (λ n. 2 * n) (length-responses f s _ ∙ length-events es i 0)

  module _ (i : ℕ) where
    abbrev pub now : State
    now = after f s (events_from es i 0)

    one_more : events_from es (i + 1) 0 ≡ events_from es i 0 ++ (event_at es i ∷ [])
    one_more = rw add-one (events_more es i 0 ∙ ap (λ n. events_from es i 0 ++ (event_at es n ∷ [])) (zero-add i))

    pub state_next : (step f now (event_at es i)).state ≡ after f s (events_from es (i + 1) 0)
    unfolding after
    state_next = sym (ap (after f s) one_more ∙ after_append f s (events_from es i 0) (event_at es i ∷ []))

    answers_next : (r : Response) → r ≡ (step f now (event_at es i)).response
        → answers i ++ (r.number ∷ r.detail ∷ []) ≡ answers (i + 1)
    unfolding answers responses output_of
    answers_next r e =
        rw e (sym (ap (λ l. output_of (responses f s l)) one_more ∙ ap output_of (responses_append f s (events_from es i 0)
        (event_at es i ∷ []))
        ∙ output_append (responses f s (events_from es i 0)) _))

    rest_next : (n d : ℕ) → 2 * i + 2 ≤ length lent → sets (drop (2 * i) lent) 0 (n ∷ d ∷ []) ≡ (n ∷ d ∷ []) ++ drop (2 * (i + 1)) lent
    rest_next n d l =
        let e : 2 * i + 2 ≡ 2 * (i + 1) = omega arith in
        sets-eq (n ∷ d ∷ []) (drop (2 * i) lent) 0 (rw length-drop (omega arith)) ∙ rw (drop-drop 2 (2 * i) lent, e)

    module _ {b out b' out' : List ℕ} {at at' : Option ℕ} (g : Going f s es lent i b out at) (l : 2 * i + 2 ≤ length lent) where
      pub going_on : Turned f (read_state b) (event_at es i) i out b' out' at' → Going f s es lent (i + 1) b' out' at'
      unfolding answers
      going_on t =
          let r = (step f (read_state b) (event_at es i)).response in
          let two = r.number ∷ r.detail ∷ [] in
          record {
            state = rw (← state_next, ← g.state.read) t.state;
            output = t.output ∙ ap (λ o. sets o (2 * i) two) g.output
                ∙ ap (λ n. sets (answers i ++ drop (2 * i) lent) n two) (sym (length-answers i) ∙ sym (add-zero _))
                ∙ sets_behind (answers i) (drop (2 * i) lent) 0 two ∙ ap (λ q. answers i ++ q) (rest_next r.number
                r.detail l)
                ∙ sym (append_assoc (answers i) two (drop (2 * (i + 1)) lent))
                ∙ ap (λ q. q ++ drop (2 * (i + 1)) lent) (answers_next r (ap (λ y. (step f y (event_at es i)).response)
                g.state.read));
            sized = ap length t.output ∙ length-sets out (2 * i) two ∙ g.sized;
            place = rw (t.place, t.state.read) (place_known f (read_state b) (event_at es i));
          }

  pub going_from : {b : List ℕ} {at : Option ℕ} → Holds b s → Knows (read_state b) at → Going f s es lent 0 b lent at
  unfolding records_from after responses output_of
  going_from h known = record { state = h; output = refl; sized = refl; place = known }

  pub going_first : {b : List ℕ} → Holds b s → Going f s es lent 0 b lent None
  going_first h = going_from h tt

  pub gone_through : {n : ℕ} {b out : List ℕ} {at : Option ℕ} → Going f s es lent n b out at → length lent ≡ 2 * n
      → RanThrough f s (events_from es n 0) b out
  gone_through {n} g e = record {
    state = g.state;
    output = g.output ∙ rw (drop_of_length-le lent {i = 2 * n} (omega arith)) (append-nil _);
  }
