-- The device of 01's listing, for the claims of Listing and Cases, which hold by computation. Assumes nothing.
use Prim.Native.Nat.{ℕ}
use mathlib.Core.List.{List, ◌∷◌, ◌++◌}
use lib.ListN.{replicate}
use Rattle.words.specs.Numbers.{le_at, bytes_of}
use Rattle.words.specs.Sets.{bit, member, insert}
use Rattle.words.specs.Search.{first_from, all_from}
use Rattle.device.specs.declared.Event.{Event}
use Rattle.device.specs.declared.Event.TheVariants.{Install, Remove, Start, Request}
use Rattle.device.specs.declared.UserAnswer.{UserAnswer}
use Rattle.device.specs.declared.Response.{Response}
use Rattle.device.specs.Device.{mode_of, every, lowest}
use Rattle.model.specs.Policy.{fixed_by, policy_valid}
use Rattle.device.specs.Cells.{highest}
use Rattle.model.specs.State.{State, new, carries, find, amend, place, session_at, session_zeros, session_bytes, slot_at, slot_zeros, slot_bytes}
use Rattle.model.specs.State.{slots_from, slots_bytes, read_state, write_state}
use Rattle.model.specs.Valid.{declared, installable, slot_sound, among, slot_decided, slot_valid, slots_valid, session_sound, session_decided}
use Rattle.model.specs.Valid.{session_valid, valid, slots_zeros, zero_bytes, state_valid}
use Rattle.device.specs.UserAnswers.{answer_of}
use Rattle.model.specs.Events.{fields_at, field_bytes, event_of, event_in, same_bytes, read_event}
use Rattle.model.specs.Decision.{standing, decision}
use Rattle.model.specs.Step.{lacking, judged, request, step}
use Rattle.model.specs.Run.{after, responses}
use Rattle.model.specs.Calls.{new_call, write_call, check_call, step_call, records_from, output_of, run_call, find_call, part_call}

abbrev pub zeros : ℕ → List ℕ
zeros n = replicate n 0

-- permissions 0 to 3 have the cells 4, 2, 3, 1 in domain 2; nothing else is offered
abbrev pub policy : List ℕ
policy = zeros 128 ++ (4 ∷ 2 ∷ 3 ∷ 1 ∷ zeros 380)

-- ---- events, by their numbers

abbrev pub install : (suite required optional domain : ℕ) → Event
install i r o d = Install (record { 0 = i }) (record { required = r; optional = o }) (record { 0 = d })

abbrev pub remove : ℕ → Event
remove i = Remove (record { 0 = i })

abbrev pub start : ℕ → Event
start i = Start (record { 0 = i })

abbrev pub ask : ℕ → UserAnswer → Event
ask p u = Request (record { 0 = p }) u

-- ---- the answers to events, and the state that they leave, from a new state

abbrev pub answers : List Event → List Response
answers es = responses (fixed_by policy) new es

abbrev pub left : List Event → State
left es = after (fixed_by policy) new es

-- a claim that says `unfolding computed` computes with every definition
unfoldable pub computed : Unit {0}
unfolding le_at bytes_of bit member insert first_from all_from every lowest fixed_by policy_valid highest carries find amend place session_at session_zeros session_bytes slot_at slot_zeros slot_bytes slots_from slots_bytes read_state write_state declared installable slot_sound among slot_decided slot_valid slots_valid session_sound session_decided session_valid valid slots_zeros zero_bytes state_valid mode_of answer_of fields_at field_bytes event_of event_in same_bytes read_event standing decision lacking judged request step after responses new_call write_call check_call step_call records_from output_of run_call find_call part_call
computed = tt
