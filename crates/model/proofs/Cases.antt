-- 01, Further cases, and what no line of the listing shows: decisions, suites and slots, event records. Each claim holds by
-- computation. Assumes nothing.
use Prim.Native.Nat.{ℕ, zero, suc, ◌^◌}
use mathlib.Core.Path.{◌≡◌, refl}
use mathlib.Core.List.{List, [], ◌∷◌, ◌++◌, map}
use lib.ListN.{get_or, take, drop, set, replicate}
use Rattle.device.specs.declared.Event.{Event}
use Rattle.device.specs.declared.Event.TheVariants.{Unreadable, Terminate}
use Rattle.device.specs.declared.Mode.TheVariants.{Oneshot as oneshot, Session as session, Blanket as blanket}
use Rattle.device.specs.declared.UserAnswer.TheVariants.{None, Allow, Deny}
use Rattle.model.specs.Policy.{fixed_by}
use Rattle.model.specs.State.{State}
use Rattle.device.specs.Empty.{free}
use Rattle.model.specs.Events.{read_event}
use Rattle.device.specs.Answers.{plain, detailed}
use Rattle.model.specs.Run.{responses}
use Rattle.model.specs.Calls.{read_answer}
use Rattle.model.proofs.Worked.{zeros, install, remove, start, ask, answers, left, computed}

-- the numbers of the suites in the first slots
abbrev pub suites : ℕ → State → List ℕ
suites n s = map (λ x. x.suite.0) (take n s.slots)

-- ---- decisions

-- a denial above the cell's mode is DENIED and entered, and stands in the next session
abbrev pub denied : List Event
denied = install 10 0 0b1000 2 ∷ start 10 ∷ ask 3 (Deny blanket) ∷ ask 3 None ∷ Terminate ∷ start 10 ∷ ask 3 None ∷ []

pub denial_unbounded : answers denied ≡ (plain 0 ∷ plain 0 ∷ plain 2 ∷ plain 2 ∷ plain 0 ∷ plain 0 ∷ plain 2 ∷ [])
unfolding computed
denial_unbounded = refl

pub denial_entered : (get_or (left denied).slots 0 free).decisions ≡ record { granted = 0; revoked = 0b1000 }
unfolding computed
denial_entered = refl

-- a coach's yes to one suite is no answer for another with the same permission, in whichever slot
pub own_decisions : answers (install 10 0 0b100 2 ∷ install 11 0 0b100 2
    ∷ start 10 ∷ ask 2 (Allow blanket) ∷ ask 2 None ∷ Terminate
    ∷ start 11 ∷ ask 2 None ∷ ask 2 (Deny blanket) ∷ ask 2 None ∷ Terminate
    ∷ start 10 ∷ ask 2 None ∷ [])
    ≡ (plain 0 ∷ plain 0
    ∷ plain 0 ∷ plain 1 ∷ plain 1 ∷ plain 0
    ∷ plain 0 ∷ detailed 3 3 ∷ plain 2 ∷ plain 2 ∷ plain 0
    ∷ plain 0 ∷ plain 1 ∷ [])
unfolding computed
own_decisions = refl

-- a session's yes and no end with it; a removed suite's decisions are gone, also where another takes its number
pub decisions_end : answers (install 10 0 0b110 2 ∷ start 10 ∷ ask 1 (Allow session) ∷ ask 2 (Allow blanket) ∷ Terminate
    ∷ start 10 ∷ ask 1 None ∷ ask 2 None ∷ Terminate
    ∷ remove 10 ∷ install 10 0 0b110 2 ∷ start 10 ∷ ask 2 None ∷ [])
    ≡ (plain 0 ∷ plain 0 ∷ plain 1 ∷ plain 1 ∷ plain 0
    ∷ plain 0 ∷ detailed 3 2 ∷ plain 1 ∷ plain 0
    ∷ plain 0 ∷ plain 0 ∷ plain 0 ∷ detailed 3 3 ∷ [])
unfolding computed
decisions_end = refl

-- cell 4 goes before everything but the declaration, and takes no answer; nor does a standing decision, either way
pub unasked : answers (install 10 0b1 0b1100 2 ∷ start 10 ∷ ask 0 (Deny blanket) ∷ ask 2 (Allow session) ∷ ask 2 (Deny oneshot)
    ∷ ask 3 (Deny session) ∷ ask 3 (Allow blanket) ∷ [])
    ≡ (plain 0 ∷ plain 0 ∷ plain 28 ∷ plain 1 ∷ plain 28 ∷ plain 2 ∷ plain 28 ∷ [])
unfolding computed
unasked = refl

-- ---- suites and slots

-- the refusals of install, remove, start and terminate, the earlier one where two fit
pub refusals : answers (Terminate ∷ remove 10 ∷ start 10 ∷ install 10 0 0 2 ∷ install 10 0b10000 0 2 ∷ start 10 ∷ start 10 ∷ start 11
    ∷ remove 11 ∷ remove 10 ∷ install 11 0b10001 0 2 ∷ install 11 0b1 0 2 ∷ remove 11 ∷ Terminate ∷ ask 0 None ∷ [])
    ≡ (plain 19 ∷ plain 21 ∷ plain 21 ∷ plain 0 ∷ plain 22 ∷ plain 0 ∷ plain 20 ∷ plain 20
    ∷ plain 21 ∷ plain 25 ∷ detailed 23 4 ∷ plain 0 ∷ plain 0 ∷ plain 0 ∷ plain 19 ∷ [])
unfolding computed
refusals = refl

-- the lowest free slot is taken, also after a remove, and the removed slot was all zero
pub lowest_free : suites 4 (left (install 5 0 0 0 ∷ install 6 0 0 0 ∷ install 7 0 0 0 ∷ remove 6 ∷ install 8 0 0 0 ∷ []))
    ≡ (5 ∷ 8 ∷ 7 ∷ 0 ∷ [])
unfolding computed
lowest_free = refl

pub removed_zero : get_or (left (install 5 0b1 0b110 2 ∷ start 5 ∷ ask 2 (Allow blanket) ∷ Terminate ∷ remove 5 ∷ [])).slots 0 free ≡ free
unfolding computed
removed_zero = refl

-- n installs, of the suites from i
abbrev pub installs : ℕ → ℕ → List Event
installs zero i = []
installs (suc n) i = install i 0 0 0 ∷ installs n (suc i)

-- 32 installs fill the slots, the next is 24, and takes the slot of a suite that is removed
pub full : drop 31 (answers (installs 32 1 ++ (install 33 0 0 0 ∷ remove 7 ∷ install 33 0 0 0 ∷ install 34 0 0 0 ∷ [])))
    ≡ (plain 0 ∷ plain 24 ∷ plain 0 ∷ plain 0 ∷ plain 24 ∷ [])
unfolding computed
full = refl

pub hole : suites 8 (left (installs 32 1 ++ (remove 7 ∷ install 33 0 0 0 ∷ []))) ≡ (1 ∷ 2 ∷ 3 ∷ 4 ∷ 5 ∷ 6 ∷ 33 ∷ 8 ∷ [])
unfolding computed
hole = refl

-- the highest numbers: permission 63, suite 65535, domain 7, by a policy whose last cell is 3
pub highest_numbers : responses (fixed_by (zeros 511 ++ (3 ∷ []))) (left []) (install 65535 (2 ^ 63) 0 7 ∷ start 65535
    ∷ ask 63 None ∷ ask 63 (Allow blanket) ∷ ask 63 None ∷ ask 0 None ∷ [])
    ≡ (plain 0 ∷ plain 0 ∷ detailed 3 3 ∷ plain 1 ∷ plain 1 ∷ plain 26 ∷ [])
unfolding computed
highest_numbers = refl

-- ---- event records

abbrev pub short : (kind domain low high permission answer : ℕ) → List ℕ
short k d i j p u = k ∷ d ∷ i ∷ j ∷ p ∷ u ∷ zeros 18

-- the last of each number and the one behind it: suite 65535 and 0, domain 7 and 8, permission 63 and 64, answer 6 and 7, kind 0 and 6
pub edges : map read_event (short 1 7 255 255 0 0 ∷ short 1 8 1 0 0 0 ∷ short 1 0 0 0 0 0 ∷ short 2 0 0 0 0 0 ∷ short 3 0 0 0 0 0
    ∷ short 5 0 0 0 63 6 ∷ short 5 0 0 0 64 0 ∷ short 5 0 0 0 0 7 ∷ short 5 0 0 0 0 0 ∷ short 0 0 0 0 0 0 ∷ short 6 0 0 0 0 0 ∷ [])
    ≡ (install 65535 0 0 7 ∷ Unreadable ∷ Unreadable ∷ Unreadable ∷ Unreadable
    ∷ ask 63 (Deny blanket) ∷ Unreadable ∷ Unreadable ∷ ask 0 None ∷ Unreadable ∷ Unreadable ∷ [])
unfolding computed
edges = refl

-- n numbers from i
abbrev pub counted : ℕ → ℕ → List ℕ
counted zero i = []
counted (suc n) i = i ∷ counted n (suc i)

-- a record of each kind with 1 stored at each of its 24 bytes in turn: 18 where the kind doesn't use the byte
pub unused_bytes : map (λ r. map (λ k. (read_answer (read_event (set r k 1))).number) (counted 24 0))
    (short 1 2 10 0 0 0 ∷ short 2 0 10 0 0 0 ∷ short 3 0 10 0 0 0 ∷ short 4 0 0 0 0 0 ∷ short 5 0 0 0 3 2 ∷ [])
    ≡ ((0 ∷ 0 ∷ 0 ∷ 0 ∷ 18 ∷ 18 ∷ 18 ∷ 18 ∷ zeros 16)
    ∷ (0 ∷ 18 ∷ 0 ∷ 0 ∷ replicate 20 18)
    ∷ (0 ∷ 18 ∷ 0 ∷ 0 ∷ replicate 20 18)
    ∷ replicate 24 18
    ∷ (18 ∷ 18 ∷ 18 ∷ 18 ∷ 0 ∷ 0 ∷ replicate 18 18) ∷ [])
unfolding computed
unused_bytes = refl
