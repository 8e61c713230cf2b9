-- 01, One listing, whole: the table of its 19 lines, and that the definitions answer it so, from the bytes. Assumes nothing.
use Prim.Native.Nat.{ℕ, ◌-◌}
use mathlib.Core.Path.{◌≡◌, refl}
use mathlib.Core.List.{List, [], ◌∷◌, ◌++◌, map, flatten}
use lib.ListN.{length, get_or, replicate}
use Rattle.device.specs.declared.Event.{Event}
use Rattle.device.specs.declared.Event.TheVariants.{Terminate}
use Rattle.device.specs.declared.Mode.TheVariants.{Oneshot as oneshot, Session as session, Blanket as blanket}
use Rattle.device.specs.declared.UserAnswer.TheVariants.{None, Allow, Deny}
use Rattle.device.specs.declared.Response.{Response}
use Rattle.device.specs.Answers.{DONE, detailed}
use Rattle.model.specs.Events.{read_event}
use Rattle.model.specs.Calls.{output_of, run_call}
use Rattle.model.proofs.Worked.{policy, install, remove, start, ask, zeros, answers, computed}

-- a line: its answer, the event, and the first bytes of the event's record, up to the last that is not zero
pub record Line : Type 0 where
  pub response : Response
  pub event : Event
  pub bytes : List ℕ

abbrev pub line : (number detail : ℕ) → Event → List ℕ → Line
line n d e b = record { response = detailed n d; event = e; bytes = b }

abbrev pub lines : List Line
lines =
    line 0 0 (install 10 0b11 0b11100 2) (1 ∷ 2 ∷ 10 ∷ 0 ∷ 0 ∷ 0 ∷ 0 ∷ 0 ∷ 3 ∷ 0 ∷ 0 ∷ 0 ∷ 0 ∷ 0 ∷ 0 ∷ 0 ∷ 28 ∷ [])
    ∷ line 19 0 (ask 1 None) (5 ∷ 0 ∷ 0 ∷ 0 ∷ 1 ∷ [])
    ∷ line 0 0 (start 10) (3 ∷ 0 ∷ 10 ∷ [])
    ∷ line 1 0 (ask 0 None) (5 ∷ [])
    ∷ line 3 2 (ask 1 None) (5 ∷ 0 ∷ 0 ∷ 0 ∷ 1 ∷ [])
    ∷ line 29 2 (ask 1 (Allow blanket)) (5 ∷ 0 ∷ 0 ∷ 0 ∷ 1 ∷ 3 ∷ [])
    ∷ line 1 0 (ask 1 (Allow session)) (5 ∷ 0 ∷ 0 ∷ 0 ∷ 1 ∷ 2 ∷ [])
    ∷ line 1 0 (ask 1 None) (5 ∷ 0 ∷ 0 ∷ 0 ∷ 1 ∷ [])
    ∷ line 2 0 (ask 2 (Deny session)) (5 ∷ 0 ∷ 0 ∷ 0 ∷ 2 ∷ 5 ∷ [])
    ∷ line 28 0 (ask 2 (Allow oneshot)) (5 ∷ 0 ∷ 0 ∷ 0 ∷ 2 ∷ 1 ∷ [])
    ∷ line 1 0 (ask 3 (Allow oneshot)) (5 ∷ 0 ∷ 0 ∷ 0 ∷ 3 ∷ 1 ∷ [])
    ∷ line 3 1 (ask 3 None) (5 ∷ 0 ∷ 0 ∷ 0 ∷ 3 ∷ [])
    ∷ line 27 0 (ask 4 None) (5 ∷ 0 ∷ 0 ∷ 0 ∷ 4 ∷ [])
    ∷ line 26 0 (ask 5 None) (5 ∷ 0 ∷ 0 ∷ 0 ∷ 5 ∷ [])
    ∷ line 0 0 Terminate (4 ∷ [])
    ∷ line 0 0 (start 10) (3 ∷ 0 ∷ 10 ∷ [])
    ∷ line 3 3 (ask 2 None) (5 ∷ 0 ∷ 0 ∷ 0 ∷ 2 ∷ [])
    ∷ line 25 0 (remove 10) (2 ∷ 0 ∷ 10 ∷ [])
    ∷ line 23 4 (install 11 0b10010 0 2) (1 ∷ 2 ∷ 11 ∷ 0 ∷ 0 ∷ 0 ∷ 0 ∷ 0 ∷ 18 ∷ [])
    ∷ []

-- of a list of answers, those on lines 3 to 13, 17 and 18
abbrev pub chosen : List Response → List Response
chosen rs = map (λ n. get_or rs n DONE) (3 ∷ 4 ∷ 5 ∷ 6 ∷ 7 ∷ 8 ∷ 9 ∷ 10 ∷ 11 ∷ 12 ∷ 13 ∷ 17 ∷ 18 ∷ [])

pub lines_hold : chosen (answers (map (λ l. l.event) lines)) ≡ chosen (map (λ l. l.response) lines)
unfolding computed
lines_hold = refl

-- ---- from the bytes

-- bytes, and zeros up to k of them
abbrev pub filled : ℕ → List ℕ → List ℕ
filled k b = b ++ zeros (k - length b)

abbrev pub records : List (List ℕ)
records = map (λ l. filled 24 l.bytes) lines

pub records_read : map read_event records ≡ map (λ l. l.event) lines
unfolding computed
records_read = refl

-- the whole of it: the answers, the count, and the state, in which suite 10 runs from slot 1 and nothing is decided
pub listing : run_call policy (zeros 1320) (flatten records) (replicate 38 255) ≡ record {
  response = DONE;
  count = 19;
  state = filled 40 (10 ∷ []) ++ filled 1280 (10 ∷ 0 ∷ 2 ∷ 0 ∷ 0 ∷ 0 ∷ 0 ∷ 0 ∷ 3 ∷ 0 ∷ 0 ∷ 0 ∷ 0 ∷ 0 ∷ 0 ∷ 0 ∷ 28 ∷ []);
  output = output_of (map (λ l. l.response) lines);
}
unfolding computed flatten
listing = refl
