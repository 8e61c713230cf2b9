-- Isolation of the calls: the theorem over the definitions, carried to the lent bytes by the contracts of `step` and `run`. Assumes
-- nothing.
use mathlib.Core.Path.{◌≡◌, refl, ap, ap₂, sym, ◌∙◌}
use mathlib.Core.Bool.{Bool, true, false, not, ◌&&◌, cond, and-false}
use mathlib.Core.List.{List, [], ◌∷◌, map}
use Prim.Native.Nat.{ℕ, zero, suc, ◌+◌, ◌-◌, ◌*◌, ◌/◌, ◌%◌, ◌≤◌, ◌<◌}
use native.Mathlib.Nat.{add-zero, zero-add}
use native.Mathlib.Omega.{arith}
use lib.Dec.{leb, ltb}
use lib.ListN.{length, get_or, take, drop, get_or-eq_default, get_or-map}
use lib.Seq.{take-append_seam, drop-append-add, get_or-take, get_or-drop}
use borrow.Author.Tests.{ltb-true, ltb-false, leb-false, lt-leb, eq-eqb}
use Rattle.words.specs.Numbers.{le_at, bytes_of}
use Rattle.words.proofs.Numbers.{le_at_same}
use Rattle.device.specs.declared.Suite.{Suite}
use Rattle.device.specs.declared.Decisions.{Decisions}
use Rattle.device.specs.declared.Slot.{Slot}
use Rattle.device.specs.declared.Session.{Session}
use Rattle.device.specs.declared.Response.{Response}
use Rattle.device.specs.Device.{same_suite, is_suite}
use Rattle.model.specs.Policy.{Fixed, fixed_by, policy_valid}
use Rattle.model.specs.State.{State, carries, find, place, session_at, session_bytes, slot_at, slot_bytes, slots_from}
use Rattle.device.specs.Empty.{undecided, free}
use Rattle.model.specs.State.{slots_bytes, read_state, write_state}
use Rattle.model.specs.Valid.{valid}
use Rattle.device.specs.Answers.{refused, DONE, NOT_INSTALLED}
use Rattle.model.specs.Calls.{Part, check_call, find_call, step_call, part_call, record_at, records_from, output_of, sizes_fit, counted, run_call}
use Rattle.model.specs.Isolation.{slot_known, session_known, known, Alike, MayReplace, excused}
use Rattle.model.proofs.Tests.{both}
use Rattle.model.proofs.Calls.{passed}
use Rattle.model.proofs.Bytes.{holds_valid}
use Rattle.model.proofs.Slots.{find_place, carries_place}
use Rattle.model.proofs.Isolation.{state_of, own_slot, own_session, agree, one_place}
use Rattle.store.proofs.Records.{length_slot, length-session, slots_get}
use Rattle.store.proofs.Holding.{slots_held}
use Rattle.store.proofs.Zeros.{well_formed}
use Rattle.store.proofs.Written.{valid_holds}
use Rattle.promises.specs.InTurn.{steps_call}
use Rattle.promises.specs.Isolation.{is_of, is_running_in, is_decision, is_others_decision, AlikeBytes, suite_record, AgreeBytes}
use Rattle.promises.specs.Isolation.{ReplacedBytes, PlaceBytes, IsolatedBytes, answer_at, IsolatedRuns}
use Rattle.promises.proofs.InTurn.{valid_passes, run_in_turn}

-- ---- lent states that are alike hold states that are alike

decisions_same : (own : Bool) {d d' : Decisions} → (own ≡ true → d ≡ d') → cond own d undecided ≡ cond own d' undecided
decisions_same true h = h refl
decisions_same false h = refl

module _ (w : Suite) (b b' : List ℕ) (equal : (k j : ℕ) → j < 40 → is_others_decision w b k j ≡ false
    → get_or b (40 * k + j) 0 ≡ get_or b' (40 * k + j) 0) where
  -- a number at place a, o bytes into record k, none of whose bytes is another suite's decision
  number_same : (k o width a : ℕ) → a ≡ 40 * k + o → o + width ≤ 40
      → ((j : ℕ) → j < width → is_others_decision w b k (o + j) ≡ false) → le_at width b a ≡ le_at width b' a
  number_same k o width a at fit none =
      le_at_same width b b' a a (λ j l.
      let n : a + j ≡ 40 * k + (o + j) = omega arith in
      rw n (equal k (o + j) (omega arith) (none j l)))

  own_number_lem : (k : ℕ) → is_of w b k ≡ true → (o width a : ℕ) → a ≡ 40 * k + o → o + width ≤ 40 → le_at width b a ≡ le_at width b' a
  own_number_lem k own o width a at fit = number_same k o width a at fit (λ j l. rw own)

  session_same : session_known w (session_at b) ≡ session_known w (session_at b')
  unfolding session_at
  session_same = λ i. record { suite = record { 0 = number i }; decisions = decided i }
    where
      number : le_at 2 b 0 ≡ le_at 2 b' 0
      number = number_same 0 0 2 0 refl (omega arith) (λ j l. rw (lt-leb 8 (0 + j) (omega arith)) (and-false (not (is_of w b 0))))

      decided : (session_known w (session_at b)).decisions ≡ (session_known w (session_at b')).decisions
      decided = rw (← number) (decisions_same (is_of w b 0) (λ own i. record {
        granted = own_number_lem 0 own 8 8 8 refl (omega arith) i;
        revoked = own_number_lem 0 own 16 8 16 refl (omega arith) i;
      }))

  slot_same : (k : ℕ) → slot_known w (slot_at b (40 * suc k)) ≡ slot_known w (slot_at b' (40 * suc k))
  unfolding slot_at
  slot_same k = λ i. record {
    suite = record { 0 = number i };
    domain = record { 0 = equal (suc k) 2 (omega arith) (rw (lt-leb 24 2 (omega arith)) (and-false (not (is_of w b (suc k))))) i };
    descriptor = record { required = front 8 8 (a + 8) refl (omega arith) i; optional = front 16 8 (a + 16) refl (omega arith) i };
    decisions = decided i;
  }
    where
      a : ℕ
      a = 40 * suc k

      front : (o width at : ℕ) → at ≡ a + o → o + width ≤ 24 → le_at width b at ≡ le_at width b' at
      front o width at e fit =
          number_same (suc k) o width at e (omega arith)
          (λ j l. rw (lt-leb 24 (o + j) (omega arith)) (and-false (not (is_of w b (suc k)))))

      number : le_at 2 b a ≡ le_at 2 b' a
      number = front 0 2 a (omega arith) (omega arith)

      decided : (slot_known w (slot_at b a)).decisions ≡ (slot_known w (slot_at b' a)).decisions
      decided = rw (← number) (decisions_same (is_of w b (suc k)) (λ own i. record {
        granted = own_number_lem (suc k) own 24 8 (a + 24) refl (omega arith) i;
        revoked = own_number_lem (suc k) own 32 8 (a + 32) refl (omega arith) i;
      }))

  slots_same : (n k : ℕ) → map (slot_known w) (slots_from b n (40 * suc k)) ≡ map (slot_known w) (slots_from b' n (40 * suc k))
  unfolding slots_from
  slots_same zero k = refl
  slots_same (suc n) k =
      let next : 40 * suc k + 40 ≡ 40 * suc (suc k) = omega arith in
      ap₂ ◌∷◌ (slot_same k) (rw next (slots_same n (suc k)))

  known_same : known w (read_state b) ≡ known w (read_state b')
  unfolding known read_state
  known_same = ap₂ state_of session_same (slots_same 32 0)

-- ---- the records in the bytes of a state

session_part : (s : State) → take 40 (write_state s) ≡ session_bytes s.session
unfolding write_state
session_part s = rw (← length-session s.session) (take-append_seam (session_bytes s.session) (slots_bytes s.slots))

running_part : (s : State) → take 2 (write_state s) ≡ bytes_of 2 s.session.suite.0
unfolding write_state session_bytes bytes_of
running_part s = refl

slot_in : (l : List Slot) (k : ℕ) → k < length l → take 40 (drop (40 * k) (slots_bytes l)) ≡ slot_bytes (get_or l k free)
unfolding slots_bytes
slot_in [] k h = absurd (omega arith)
slot_in (x ∷ xs) zero h = rw (← length_slot x) (take-append_seam (slot_bytes x) (slots_bytes xs))
slot_in (x ∷ xs) (suc k) h =
    let e : 40 * suc k ≡ length (slot_bytes x) + 40 * k = omega (arith, length_slot x) in
    rw (e, drop-append-add (slot_bytes x) (slots_bytes xs) (40 * k)) (slot_in xs k (omega arith))

slot_part : (s : State) (k : ℕ) → k < length s.slots
    → take 40 (drop (40 * suc k) (write_state s)) ≡ slot_bytes (get_or s.slots k free)
unfolding write_state
slot_part s k h =
    let b = session_bytes s.session in
    let e : 40 * suc k ≡ length b + 40 * k = omega (arith, length-session s.session) in
    rw (e, drop-append-add b (slots_bytes s.slots) (40 * k)) (slot_in s.slots k h)

-- ---- states that are alike have bytes that are alike

-- a byte of a record, one in front of place n, and one behind it
byte_in : (b : List ℕ) (a j : ℕ) → j < 40 → get_or b (a + j) 0 ≡ get_or (take 40 (drop a b)) j 0
byte_in b a j l = sym (get_or-take 40 (drop a b) j 0 l ∙ get_or-drop a b j 0)

byte_before : (l l' : List ℕ) (n j : ℕ) → j < n → take n l ≡ take n l' → get_or l j 0 ≡ get_or l' j 0
byte_before l l' n j h eq = sym (get_or-take n l j 0 h) ∙ ap (λ q. get_or q j 0) eq ∙ get_or-take n l' j 0 h

byte_behind : (l l' : List ℕ) (n j : ℕ) → drop n l ≡ drop n l' → get_or l (n + j) 0 ≡ get_or l' (n + j) 0
byte_behind l l' n j eq = sym (get_or-drop n l j 0) ∙ ap (λ q. get_or q j 0) eq ∙ get_or-drop n l' j 0

module _ (w : Suite) where
  session_byte : (q q' : Session) → session_known w q ≡ session_known w q' → (j : ℕ)
      → (not (same_suite q.suite w) && is_decision 0 j) ≡ false → get_or (session_bytes q) j 0 ≡ get_or (session_bytes q') j 0
  unfolding session_bytes bytes_of
  session_byte q q' eq j = go (same_suite q.suite w) (leb 8 j) refl refl
    where
      go : (own late : Bool) → same_suite q.suite w ≡ own → leb 8 j ≡ late → (not own && (late && ltb j 24)) ≡ false
          → get_or (session_bytes q) j 0 ≡ get_or (session_bytes q') j 0
      go true late own _ h =
          ap (λ r. get_or (session_bytes r) j 0)
          (sym (own_session w q own) ∙ eq ∙ own_session w q' (ap (λ r. same_suite r.suite w) (sym eq) ∙ own))
      go false false _ early h =
          byte_before (session_bytes q) (session_bytes q') 8 j (leb-false 8 j early) (ap (λ r. take 8 (session_bytes r)) eq)
      go false true _ _ h =
          let e : 24 + (j - 24) ≡ j = omega (arith, ltb-false j 24 h) in
          rw e at (byte_behind (session_bytes q) (session_bytes q') 24 (j - 24) (ap (λ r. drop 24 (session_bytes r)) eq))

  slot_byte : (x y : Slot) → slot_known w x ≡ slot_known w y → (j : ℕ) → (not (same_suite x.suite w) && leb 24 j) ≡ false
      → get_or (slot_bytes x) j 0 ≡ get_or (slot_bytes y) j 0
  unfolding slot_bytes bytes_of
  slot_byte x y eq j = go (same_suite x.suite w) refl
    where
      go : (own : Bool) → same_suite x.suite w ≡ own → (not own && leb 24 j) ≡ false → get_or (slot_bytes x) j 0 ≡ get_or (slot_bytes y) j 0
      go true own h =
          ap (λ z. get_or (slot_bytes z) j 0)
          (sym (own_slot w x own) ∙ eq ∙ own_slot w y (ap (λ z. same_suite z.suite w) (sym eq) ∙ own))
      go false _ h = byte_before (slot_bytes x) (slot_bytes y) 24 j (leb-false 24 j h) (ap (λ z. take 24 (slot_bytes z)) eq)

  module _ (f : Fixed) (s : State) (v : valid f s ≡ true) where
    session_number : le_at 2 (write_state s) 0 ≡ s.session.suite.0
    unfolding read_state session_at
    session_number = ap (λ u. u.session.suite.0) (valid_holds f s v).read

    slot_number : (k : ℕ) → k < 32 → le_at 2 (write_state s) (40 * suc k) ≡ (get_or s.slots k free).suite.0
    unfolding read_state slot_at
    slot_number k h =
        let e : 40 * suc k ≡ 40 + 40 * k = omega arith in
        rw e (ap (λ x. x.suite.0) (sym (slots_get (write_state s) free 32 40 k h)
        ∙ ap (λ u. get_or u.slots k free) (valid_holds f s v).read))

  module _ (f : Fixed) (s t : State) (like : Alike f w s t) where
    slots_known_lem : (k : ℕ) → slot_known w (get_or s.slots k free) ≡ slot_known w (get_or t.slots k free)
    unfolding known
    slots_known_lem k =
        sym (get_or-map (slot_known w) s.slots k free) ∙ ap (λ u. get_or u.slots k (slot_known w free)) like.equal_but
        ∙ get_or-map (slot_known w) t.slots k free

    written_same : (k j : ℕ) → j < 40 → is_others_decision w (write_state s) k j ≡ false
        → get_or (write_state s) (40 * k + j) 0 ≡ get_or (write_state t) (40 * k + j) 0
    unfolding known
    written_same zero j l h =
        at s
        ∙ session_byte s.session t.session (ap (λ u. u.session) like.equal_but) j
        (rw (session_number f s like.one_valid) at h)
        ∙ sym (at t)
      where
        at : (u : State) → get_or (write_state u) (40 * 0 + j) 0 ≡ get_or (session_bytes u.session) j 0
        at u = byte_in (write_state u) 0 j l ∙ ap (λ q. get_or q j 0) (session_part u)
    written_same (suc k) j l h = go (ltb k 32) refl
      where
        at : k < 32 → (u : State) → valid f u ≡ true
            → get_or (write_state u) (40 * suc k + j) 0 ≡ get_or (slot_bytes (get_or u.slots k free)) j 0
        at m u v =
            byte_in (write_state u) (40 * suc k) j l
            ∙ ap (λ q. get_or q j 0) (slot_part u k (omega (arith, slots_held (valid_holds f u v))))

        beyond : 32 ≤ k → (u : State) → valid f u ≡ true → get_or (write_state u) (40 * suc k + j) 0 ≡ 0
        beyond m u v = get_or-eq_default (write_state u) 0 (omega (arith, (valid_holds f u v).sized))

        go : (c : Bool) → ltb k 32 ≡ c → get_or (write_state s) (40 * suc k + j) 0 ≡ get_or (write_state t) (40 * suc k + j) 0
        go true c =
            let m = ltb-true k 32 c in
            at m s like.one_valid ∙ slot_byte (get_or s.slots k free) (get_or t.slots k free) (slots_known_lem k) j
            (rw (slot_number f s like.one_valid k m) at h) ∙ sym (at m t like.other_valid)
        go false c = let m = ltb-false k 32 c in beyond m s like.one_valid ∙ sym (beyond m t like.other_valid)

-- ---- the calls

module _ (policy : List ℕ) (w : Suite) where
  abbrev f : Fixed
  f = fixed_by policy

  held_alike : {b b' : List ℕ} → AlikeBytes policy w b b' → Alike f w (read_state b) (read_state b')
  held_alike {b} {b'} like = record {
    one_valid = holds_valid f b (passed policy b (ap refused like.one_passes)).state_valid_lem;
    other_valid = holds_valid f b' (passed policy b' (ap refused like.other_passes)).state_valid_lem;
    equal_but = known_same w b b' like.equal_but;
  }

  module _ (right : policy_valid policy ≡ true) where
    pub written_alike : (s t : State) → Alike f w s t → AlikeBytes policy w (write_state s) (write_state t)
    written_alike s t like = record {
      one_passes = valid_passes policy right s like.one_valid;
      other_passes = valid_passes policy right t like.other_valid;
      equal_but = written_same w f s t like;
    }

    -- what `suite_record` gives of the bytes of a valid state
    record_written : (s : State) → valid f s ≡ true
        → suite_record policy (write_state s) w ≡ cond (is_suite w && carries w s.slots) (slot_bytes (find w s.slots)) []
    unfolding part_call find_call
    record_written s v =
        rw (valid_passes policy right s v, (valid_holds f s v).read) (go (is_suite w && carries w s.slots) refl)
      where
        k : ℕ
        k = place w s.slots

        found : (is_suite w && carries w s.slots) ≡ true
            → take 40 (drop (40 * suc k) (write_state s)) ≡ slot_bytes (find w s.slots)
        found h =
            let there = sym (carries_place w s.slots) ∙ (both (is_suite w) (carries w s.slots) h).1 in
            slot_part s k (ltb-true k (length s.slots) there) ∙ ap slot_bytes (sym (find_place w s.slots))

        go : (c : Bool) → (is_suite w && carries w s.slots) ≡ c
            → (let p : Part = cond (refused (cond (not c) NOT_INSTALLED DONE)) (record { from = 0; size = 0 })
            (record { from = 40 * suc k; size = 40 }) in
            take p.size (drop p.from (write_state s))) ≡ cond c (slot_bytes (find w s.slots)) []
        go true h = found h
        go false h = refl

    written_agree : (s t : State) → Alike f w s t → AgreeBytes policy w (write_state s) (write_state t)
    written_agree s t like =
        let a = agree f w s t like.equal_but in
        record {
          running = running_part s ∙ ap (λ i. bytes_of 2 i.0) a.running ∙ sym (running_part t);
          stored = record_written s like.one_valid
              ∙ ap₂ (λ c x. cond (is_suite w && c) (slot_bytes x) []) a.installed a.stored
              ∙ sym (record_written t like.other_valid);
          session = λ r.
              let own = rw (session_number w f s like.one_valid) at r in
              session_part s ∙ ap session_bytes (a.session own) ∙ sym (session_part t);
        }

  one_call : (b b' : List ℕ) → AlikeBytes policy w b b' → (e e' : List ℕ) → MayReplace (is_running_in w b) e e'
      → PlaceBytes policy w (excused (is_running_in w b) e e') (step_call policy b e) (step_call policy b' e')
  unfolding step_call read_state session_at
  one_call b b' like e e' m =
      let right = (passed policy b (ap refused like.one_passes)).policy_valid_lem in
      let here = one_place f w (read_state b) (read_state b') (held_alike like) e e' m in
      rw (like.one_passes, like.other_passes) (record {
        answer = here.answer;
        alike = written_alike right _ _ here.alike;
        agree = written_agree right _ _ here.alike;
      })

pub step_isolated : (policy : List ℕ) (suite : Suite) (state state' : List ℕ) → AlikeBytes policy suite state state'
    → (events events' : List (List ℕ)) → ReplacedBytes policy suite state events events'
    → IsolatedBytes policy suite state state' events events'
unfolding ReplacedBytes IsolatedBytes
step_isolated policy w b b' like [] es' h = tt
step_isolated policy w b b' like (e ∷ es) [] h = tt
step_isolated policy w b b' like (e ∷ es) (e' ∷ es') h =
    let here = one_call policy w b b' like e e' h.0 in
    (here, step_isolated policy w (step_call policy b e).bytes (step_call policy b' e').bytes here.alike es es' h.1)

-- ---- a run

count_answers : (policy es : List ℕ) (n j : ℕ) (b : List ℕ) → length (steps_call policy b (records_from es n j)).responses ≡ n
unfolding records_from steps_call
count_answers policy es zero j b = refl
count_answers policy es (suc n) j b = ap suc (count_answers policy es n (suc j) _)

-- the two bytes of an answer
pair_at : (rs : List Response) (i : ℕ) → i < length rs
    → answer_at (output_of rs) i ≡ (get_or rs i DONE).number ∷ (get_or rs i DONE).detail ∷ []
unfolding output_of
pair_at [] i h = absurd (omega arith)
pair_at (r ∷ rs) zero h = refl
pair_at (r ∷ rs) (suc i) h = let e : 2 * suc i ≡ suc (suc (2 * i)) = omega arith in rw e (pair_at rs i (omega arith))

module _ (policy : List ℕ) (w : Suite) (es es' : List ℕ) where
  -- n records of each, from the j-th on
  at_place : (n j i : ℕ) (b b' : List ℕ) → IsolatedBytes policy w b b' (records_from es n j) (records_from es' n j) → i < n
      → excused (is_running_in w (steps_call policy b (records_from es i j)).state) (record_at es (j + i)) (record_at es' (j + i)) ≡ false
      → get_or (steps_call policy b (records_from es n j)).responses i DONE
      ≡ get_or (steps_call policy b' (records_from es' n j)).responses i DONE
  unfolding records_from steps_call IsolatedBytes
  at_place zero j i b b' h l = absurd (omega arith)
  at_place (suc n) j zero b b' h l = λ x. h.0.answer (rw (add-zero j) at x)
  at_place (suc n) j (suc i) b b' h l =
      let e : j + suc i ≡ suc j + i = omega arith in
      λ x. at_place n (suc j) i _ _ h.1 (omega arith) (rw e at x)

  at_end : (n j : ℕ) (b b' : List ℕ) → AlikeBytes policy w b b' → AgreeBytes policy w b b'
      → IsolatedBytes policy w b b' (records_from es n j) (records_from es' n j)
      → let c = (steps_call policy b (records_from es n j)).state in
      let c' = (steps_call policy b' (records_from es' n j)).state in
      AlikeBytes policy w c c' × AgreeBytes policy w c c'
  unfolding records_from steps_call IsolatedBytes
  at_end zero j b b' like a h = (like, a)
  at_end (suc n) j b b' like a h = at_end n (suc j) _ _ h.0.alike h.0.agree h.1

-- a run on n records and an output for them
ran : (policy b es out : List ℕ) (n : ℕ) → ((k : ℕ) → get_or b k 0 < 256) → check_call policy b ≡ DONE
    → length es ≡ 24 * n → length out ≡ 2 * n
    → let each = steps_call policy b (records_from es n 0) in
    run_call policy b es out ≡ counted DONE n each.state (output_of each.responses)
ran policy b es out n bytes passes size room =
    let count : length es / 24 ≡ n = omega arith in
    let even : length es % 24 ≡ 0 = omega arith in
    let whole : sizes_fit es out ≡ true = rw (even, count, eq-eqb _ _ room) in
    rw count at (run_in_turn policy b es out bytes (ap refused passes) whole)

lent_agree : (policy : List ℕ) (w : Suite) (b b' : List ℕ) → ((k : ℕ) → get_or b k 0 < 256) → ((k : ℕ) → get_or b' k 0 < 256)
    → AlikeBytes policy w b b' → AgreeBytes policy w b b'
lent_agree policy w b b' bytes bytes' like =
    let p = passed policy b (ap refused like.one_passes) in
    let p' = passed policy b' (ap refused like.other_passes) in
    let f = fixed_by policy in
    rw ((well_formed b bytes f p.state_valid_lem).written, (well_formed b' bytes' f p'.state_valid_lem).written)
    (written_agree policy w p.policy_valid_lem (read_state b) (read_state b') (held_alike policy w like))

-- the bytes of a lent slice are below 256, as the toolchain has it
pub run_isolated : (policy : List ℕ) (suite : Suite) (state state' events events' output output' : List ℕ) (n : ℕ)
    → ((k : ℕ) → get_or state k 0 < 256) → ((k : ℕ) → get_or state' k 0 < 256) → AlikeBytes policy suite state state'
    → length events ≡ 24 * n → length events' ≡ 24 * n → length output ≡ 2 * n → length output' ≡ 2 * n
    → ReplacedBytes policy suite state (records_from events n 0) (records_from events' n 0)
    → IsolatedRuns policy suite state events events' n (run_call policy state events output) (run_call policy state' events' output')
run_isolated policy w b b' es es' out out' n bytes bytes' like size size' room room' h =
    let each = step_isolated policy w b b' like (records_from es n 0) (records_from es' n 0) h in
    let (alike, agree) = at_end policy w es es' n 0 b b' like (lent_agree policy w b b' bytes bytes' like) each in
    rw (ran policy b es out n bytes like.one_passes size room, ran policy b' es' out' n bytes' like.other_passes size' room')
    (record {
      done = (refl, refl);
      count = (refl, refl);
      answers = λ i l x.
          pair_at _ i (rw (count_answers policy es n 0 b) l)
          ∙ ap (λ r. r.number ∷ r.detail ∷ []) (rw (zero-add i) at (at_place policy w es es' n 0 i b b' each l) x)
          ∙ sym (pair_at _ i (rw (count_answers policy es' n 0 b') l));
      alike = alike;
      agree = agree;
    })
