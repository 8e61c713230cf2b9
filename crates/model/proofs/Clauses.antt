-- The clauses of the decision, of what is entered, of each event's next state and of the event records, each on a concrete input.
-- Each claim holds by computation. Assumes nothing.
use Prim.Native.Nat.{ℕ}
use mathlib.Core.Path.{◌≡◌, refl}
use mathlib.Core.Bool.{true}
use mathlib.Core.List.{List, [], ◌∷◌, ◌++◌, map}
use lib.ListN.{get_or, replicate}
use Rattle.device.specs.declared.Event.{Event}
use Rattle.device.specs.declared.Event.TheVariants.{Unreadable, Terminate}
use Rattle.device.specs.declared.Mode.TheVariants.{Oneshot, Session as ForSession, Blanket}
use Rattle.device.specs.declared.UserAnswer.TheVariants.{None, Allow, Deny}
use Rattle.device.specs.declared.Standing.TheVariants.{Nothing, Granted, Revoked}
use Rattle.device.specs.declared.Decisions.{Decisions}
use Rattle.device.specs.Empty.{free, idle}
use Rattle.device.specs.Answers.{plain, ALLOWED, DENIED, ASK}
use Rattle.model.specs.Policy.{fixed_by}
use Rattle.model.specs.State.{State}
use Rattle.model.specs.Events.{write_event}
use Rattle.model.specs.Decision.{standing, decision}
use Rattle.model.specs.Step.{enter, step}
use Rattle.model.specs.Calls.{reading, read_call}
use Rattle.model.proofs.Worked.{policy, zeros, install, remove, start, ask, answers, left, computed}
use Rattle.model.proofs.Cases.{short, counted}
use Rattle.model.proofs.Edges.{slot, runs}

-- ---- what stands, and what is decided

abbrev decisions : (granted revoked : ℕ) → Decisions
decisions g v = record { granted = g; revoked = v }

-- on permission 2: nothing; granted in the session, in the slot; revoked in the session, in the slot; a grant goes before
what_stands : map (λ d. standing (record { 0 = 2 }) d (decisions 0 0)) (decisions 8 8 ∷ decisions 4 0 ∷ decisions 0 4 ∷ decisions 4 4 ∷ [])
    ++ map (standing (record { 0 = 2 }) (decisions 0 0)) (decisions 4 0 ∷ decisions 0 4 ∷ [])
    ≡ (Nothing ∷ Granted ∷ Revoked ∷ Granted ∷ Granted ∷ Revoked ∷ [])
unfolding computed
what_stands = refl

-- without an answer: cell 4 before any decision, then what stands, then the user is asked; with one, allowed up to the cell's mode,
-- denied in any
decided : decision true 4 Nothing None ∷ decision true 4 Revoked None ∷ decision true 2 Granted None ∷ decision true 2 Revoked None
    ∷ decision true 2 Nothing None ∷ decision true 2 Nothing (Allow Oneshot) ∷ decision true 2 Nothing (Allow ForSession)
    ∷ decision true 3 Nothing (Allow Blanket) ∷ decision true 1 Nothing (Deny Oneshot) ∷ decision true 1 Nothing (Deny Blanket) ∷ []
    ≡ (ALLOWED ∷ ALLOWED ∷ ALLOWED ∷ DENIED ∷ ASK 2 ∷ ALLOWED ∷ ALLOWED ∷ ALLOWED ∷ DENIED ∷ DENIED ∷ [])
unfolding computed
decided = refl

-- ---- what is entered

-- the session's sets, then the slot's
abbrev held : State → List ℕ
held s =
    let x = get_or s.slots 0 free in
    s.session.decisions.granted ∷ s.session.decisions.revoked ∷ x.decisions.granted ∷ x.decisions.revoked ∷ []

-- permission 3, in a session that has granted 1, beside a slot that has 2 granted
entered : map (λ u. held (enter u (record { 0 = 3 }) (runs 10 2 0))) (None ∷ Allow Oneshot ∷ Deny Oneshot
    ∷ Allow ForSession ∷ Deny ForSession ∷ Allow Blanket ∷ Deny Blanket ∷ [])
    ≡ ((2 ∷ 0 ∷ 4 ∷ 0 ∷ []) ∷ (2 ∷ 0 ∷ 4 ∷ 0 ∷ []) ∷ (2 ∷ 0 ∷ 4 ∷ 0 ∷ [])
    ∷ (10 ∷ 0 ∷ 4 ∷ 0 ∷ []) ∷ (2 ∷ 8 ∷ 4 ∷ 0 ∷ []) ∷ (2 ∷ 0 ∷ 12 ∷ 0 ∷ []) ∷ (2 ∷ 0 ∷ 4 ∷ 8 ∷ []) ∷ [])
unfolding computed
entered = refl

-- ---- the next state

abbrev next : State → Event → State
next s e = (step (fixed_by policy) s e).state

-- an install leaves the session as it is, and starts with nothing decided
installed_next : let s = left (install 10 0 0b110 2 ∷ start 10 ∷ ask 1 (Allow ForSession) ∷ []) in
    let t = next s (install 11 0b10 0b100 2) in
    (t.session ≡ s.session) × (get_or t.slots 1 free ≡ slot 11 2 0b10 0b100 0 0)
unfolding computed
installed_next = (refl, refl)

-- a permission may be required and optional at once, and then it is declared
both_sets : answers (install 10 0b100 0b100 2 ∷ start 10 ∷ ask 2 None ∷ []) ≡ (plain 0 ∷ plain 0 ∷ ASK 3 ∷ [])
unfolding computed
both_sets = refl

-- a remove leaves another suite's session as it is, and the slot free
removed_next : ((next (runs 11 2 0) (remove 10)).session ≡ (runs 11 2 0).session) × ((next (runs 11 2 0) (remove 10)).slots ≡ (free ∷ []))
unfolding computed
removed_next = (refl, refl)

-- a start has the suite and nothing decided, a terminate nothing; neither touches the slots
session_next : (next (runs 0 0 0) (start 10) ≡ runs 10 0 0) × ((next (runs 10 2 8) Terminate).session ≡ idle)
    × ((next (runs 10 2 8) Terminate).slots ≡ (runs 10 2 8).slots)
unfolding computed
session_next = (refl, refl, refl)

-- ---- event records

-- an install with every field in use, the last permission in both sets
abbrev full_install : List ℕ
full_install = 1 ∷ 7 ∷ 0x34 ∷ 0x12 ∷ zeros 4 ++ (counted 7 0x10 ++ (0x80 ∷ counted 7 0x20 ++ (0xC0 ∷ [])))

abbrev full_event : Event
full_event = install 0x1234 0x8016151413121110 0xC026252423222120 7

-- one record of each kind, read and written
kinds_read : map read_call (full_install ∷ short 2 0 0x34 0x12 0 0 ∷ short 3 0 0x34 0x12 0 0 ∷ short 4 0 0 0 0 0 ∷ short 5 0 0 0 63 5 ∷ zeros 24 ∷ [])
    ≡ map (λ e. record { response = plain 0; event = e })
    (full_event ∷ remove 0x1234 ∷ start 0x1234 ∷ Terminate ∷ ask 63 (Deny ForSession) ∷ [])
    ++ (record { response = plain 18; event = Unreadable } ∷ [])
unfolding computed
kinds_read = refl

kinds_written : map write_event (full_event ∷ remove 0x1234 ∷ start 0x1234 ∷ Terminate ∷ ask 63 (Deny ForSession) ∷ [])
    ≡ (full_install ∷ short 2 0 0x34 0x12 0 0 ∷ short 3 0 0x34 0x12 0 0 ∷ short 4 0 0 0 0 0 ∷ short 5 0 0 0 63 5 ∷ [])
unfolding computed
kinds_written = refl

-- 23 and 25 bytes are no record
other_sizes : map read_call ((3 ∷ 0 ∷ 1 ∷ zeros 20) ∷ (3 ∷ 0 ∷ 1 ∷ zeros 22) ∷ []) ≡ replicate 2 (reading Unreadable)
unfolding computed
other_sizes = refl
