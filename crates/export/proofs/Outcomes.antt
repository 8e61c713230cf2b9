-- What the contracts of the C calls leave, as a caller of the header sees it: one outcome for each input, every lent byte as it was
-- where the number returned is a refusal, a count of 0 where a run is refused; and the number returned, unpacked, is the answer.
-- The bytes of a lent slice are below 256, as the toolchain has it. Assumes nothing.
use Prim.Native.Nat.{ℕ, ◌^◌, ◌<◌}
use native.Mathlib.Omega.{arith}
use mathlib.Core.Path.{◌≡◌, refl, sym, ap, ◌∙◌}
use mathlib.Core.Bool.{Bool, true, false}
use mathlib.Core.List.{List}
use lib.ListN.{get_or}
use lib.Dec.{leb}
use Rattle.device.specs.declared.Suite.{Suite}
use Rattle.device.specs.declared.Event.{Event}
use Rattle.device.specs.Answers.{refused}
use Rattle.model.specs.Calls.{Called, leaving, counted, new_call, read_call, write_call, check_call, step_call, run_call}
use Rattle.model.specs.Calls.{find_call, part_call}
use Rattle.model.proofs.Numbers.{new_number, read_number, write_number, check_number, step_number, run_number, find_number}
use Rattle.events.proofs.Outcomes.{write_refused}
use Rattle.checks.proofs.Outcomes.{new_refused}
use Rattle.checks.proofs.Finding.{part_none, part_slot, found_place}
use Rattle.promises.proofs.Outcomes.{step_refusal, run_refusal}
use Rattle.export.specs.Packed.{packed, unpacked, packed_part, unpacked_part, refused_no, sent, packed_call, sent_run, packed_run}
use Rattle.export.proofs.Packing.{answer_unpacked, part_unpacked}

-- ---- a call that lends bytes to write

record Crossed (n : ℕ) (b : List ℕ) (c : Called) : Type 0 where
  answer : unpacked n ≡ c.response
  left : leaving b c.response ≡ c

module _ (c : Called) {n : ℕ} {b : List ℕ} (came : sent n b ≡ packed_call c) where
  pub one_outcome : {n' : ℕ} {b' : List ℕ} → sent n' b' ≡ packed_call c → (n ≡ n') × (b ≡ b')
  one_outcome q = (ap (λ s. s.number) (came ∙ sym q), ap (λ s. s.bytes) (came ∙ sym q))

  crossed : leb c.response.number 30 ≡ true → Crossed n b c
  crossed low = record {
    answer = ap (λ s. unpacked s.number) came ∙ answer_unpacked c.response low;
    left = ap (λ s. leaving s.bytes c.response) came;
  }

module _ (entry : List ℕ) {n : ℕ} {exit : List ℕ} (came : sent n exit ≡ packed_call (new_call entry)) where
  pub new_answer : unpacked n ≡ (new_call entry).response
  new_answer = (crossed (new_call entry) came (new_number entry)).answer

  pub new_refused_bytes : refused_no n ≡ true → exit ≡ entry
  new_refused_bytes h = new_refused entry (crossed (new_call entry) came (new_number entry)).left (ap refused (sym new_answer) ∙ h)

module _ (event : Event) (entry : List ℕ) {n : ℕ} {exit : List ℕ} (came : sent n exit ≡ packed_call (write_call event entry)) where
  pub write_answer : unpacked n ≡ (write_call event entry).response
  write_answer = (crossed (write_call event entry) came (write_number event entry)).answer

  pub write_refused_bytes : refused_no n ≡ true → exit ≡ entry
  write_refused_bytes h =
      write_refused event entry (crossed (write_call event entry) came (write_number event entry)).left (ap refused (sym write_answer) ∙ h)

module _ (policy entry event : List ℕ) {n : ℕ} {exit : List ℕ} (came : sent n exit ≡ packed_call (step_call policy entry event)) where
  pub step_answer : unpacked n ≡ (step_call policy entry event).response
  step_answer = (crossed (step_call policy entry event) came (step_number policy entry event)).answer

  pub step_refused_bytes : ((k : ℕ) → get_or entry k 0 < 256) → refused_no n ≡ true → exit ≡ entry
  step_refused_bytes bytes h =
      step_refusal policy entry event (crossed (step_call policy entry event) came (step_number policy entry event)).left bytes (ap refused (sym step_answer) ∙ h)

-- ---- a run

module _ (policy entry events lent : List ℕ) {n count : ℕ} {exit out : List ℕ}
    (came : sent_run n count exit out ≡ packed_run (run_call policy entry events lent)) where
  pub run_one_outcome : {n' count' : ℕ} {exit' out' : List ℕ}
      → sent_run n' count' exit' out' ≡ packed_run (run_call policy entry events lent)
      → (n ≡ n') × (count ≡ count') × (exit ≡ exit') × (out ≡ out')
  run_one_outcome q =
      let e = came ∙ sym q in
      (ap (λ s. s.number) e, ap (λ s. s.count) e, ap (λ s. s.state) e, ap (λ s. s.output) e)

  pub run_answer : unpacked n ≡ (run_call policy entry events lent).response
  run_answer = ap (λ s. unpacked s.number) came ∙ answer_unpacked _ (run_number policy entry events lent)

  pub run_refused_bytes : refused_no n ≡ true → (exit ≡ entry) × (out ≡ lent) × (count ≡ 0)
  run_refused_bytes h =
      run_refusal policy entry events lent (ap (λ s. counted (run_call policy entry events lent).response
      s.count s.state s.output) came) (ap refused (sym run_answer) ∙ h)

-- ---- the calls that write nothing

pub one_number : {n n' m : ℕ} → n ≡ m → n' ≡ m → n ≡ n'
one_number p q = p ∙ sym q

pub read_answer_lem : (bytes : List ℕ) {n : ℕ} → n ≡ packed (read_call bytes).response → unpacked n ≡ (read_call bytes).response
read_answer_lem bytes came = ap unpacked came ∙ answer_unpacked _ (read_number (read_call bytes).event)

pub check_answer : (policy state : List ℕ) {n : ℕ} → n ≡ packed (check_call policy state) → unpacked n ≡ check_call policy state
check_answer policy state came = ap unpacked came ∙ answer_unpacked _ (check_number policy state)

pub find_answer : (policy state : List ℕ) (i : Suite) {n : ℕ} → n ≡ packed (find_call policy state i) → unpacked n ≡ find_call policy state i
find_answer policy state i came = ap unpacked came ∙ answer_unpacked _ (find_number policy state i)

-- the part begins within the state
part_below : (policy state : List ℕ) (i : Suite) → (part_call policy state i).from < 2 ^ 32
part_below policy state i = go (refused (find_call policy state i)) refl
  where
    go : (t : Bool) → refused (find_call policy state i) ≡ t → (part_call policy state i).from < 2 ^ 32
    go true e = rw (part_none policy state i e) (omega arith)
    go false e =
        let (_, below) = found_place policy state i e in
        rw (part_slot policy state i e) (omega arith)

pub record_part : (policy state : List ℕ) (i : Suite) {n : ℕ} → n ≡ packed_part (part_call policy state i)
    → unpacked_part n ≡ part_call policy state i
record_part policy state i came = ap unpacked_part came ∙ part_unpacked _ (part_below policy state i)
