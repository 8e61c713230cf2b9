-- Each clause of the definitions on a concrete input; every claim holds by computation. Assumes nothing.
use Prim.Native.Nat.{◌-◌, ◌^◌}
use mathlib.Core.Path.{◌≡◌, refl}
use mathlib.Core.Bool.{true, false}
use mathlib.Core.List.{[], ◌∷◌, map}
use lib.ListN.{replicate}
use lib.Dec.{ltb}
use Rattle.words.specs.Sets.{bit, member}
use Rattle.words.specs.Search.{first_from, all_from}
use Rattle.device.specs.declared.Mode.{Mode}
use Rattle.device.specs.declared.Mode.TheVariants.{Oneshot, Session, Blanket}
use Rattle.std.specs.Prelude.{Some, None as nobody, Ok, Err}
use Rattle.device.specs.declared.UserAnswer.TheVariants.{None, Allow, Deny}
use Rattle.device.specs.Device.{is_permission, is_domain, is_suite, no_suite, same_suite, slot_count, width, mode_of, is_set, has}
use Rattle.device.specs.Device.{every, lowest}
use Rattle.device.specs.Cells.{offered, unconditional, highest, admits}
use Rattle.device.specs.UserAnswers.{answer_no, answer_of}
use Rattle.device.specs.Empty.{free, idle}
use Rattle.device.specs.Answers.{refused, plain, DONE, ALLOWED, DENIED, ASK, BAD_POLICY, BAD_STATE, BAD_EVENT}
use Rattle.device.specs.Answers.{NO_SESSION, BUSY, NOT_INSTALLED, INSTALLED, NOT_OFFERED, NO_ROOM, ACTIVE}
use Rattle.device.specs.Answers.{NOT_DECLARED, NO_RIGHT, ANSWER_NOT_ASKED, MODE_TOO_WIDE, BAD_LENGTH}
use Rattle.device.specs.declared.Answer.TheVariants.{Done, Allowed, Denied, Ask}
use Rattle.device.specs.declared.Refusal.TheVariants.{BadPolicy, BadState, BadEvent, NoSession, Busy, NotInstalled, Installed, NotOffered}
use Rattle.device.specs.declared.Refusal.TheVariants.{NoRoom, Active, NotDeclared, NoRight, AnswerNotAsked, ModeTooWide, BadLength}
use Rattle.device.specs.Answers.{answering, refusing, answered, done}

-- ---- the numbers of the device

permissions : map (λ n. is_permission (record { 0 = n })) (0 ∷ 63 ∷ 64 ∷ []) ≡ (true ∷ true ∷ false ∷ [])
permissions = refl

domains : map (λ n. is_domain (record { 0 = n })) (0 ∷ 7 ∷ 8 ∷ []) ≡ (true ∷ true ∷ false ∷ [])
domains = refl

suites : map (λ n. is_suite (record { 0 = n })) (0 ∷ 1 ∷ 65535 ∷ 65536 ∷ []) ≡ (false ∷ true ∷ true ∷ false ∷ [])
suites = refl

same_suites : map (same_suite no_suite) (record { 0 = 0 } ∷ record { 0 = 1 } ∷ []) ≡ (true ∷ false ∷ [])
same_suites = refl

slots : slot_count ≡ 32
slots = refl

modes : map width (Oneshot ∷ Session ∷ Blanket ∷ []) ≡ (1 ∷ 2 ∷ 3 ∷ [])
modes = refl

modes_back : map mode_of (1 ∷ 2 ∷ 3 ∷ []) ≡ (Oneshot ∷ Session ∷ Blanket ∷ [])
unfolding mode_of
modes_back = refl

sets : map is_set (0 ∷ (2 ^ 64 - 1) ∷ (2 ^ 64) ∷ []) ≡ (true ∷ true ∷ false ∷ [])
sets = refl

members : map (λ n. has (2 ^ 63) (record { 0 = n })) (0 ∷ 63 ∷ []) ≡ (false ∷ true ∷ [])
unfolding member bit
members = refl

-- every permission is looked at, 0 and 63 too, and 64 is not
every_one : every (λ p. ltb p.0 64) ∷ every (λ p. ltb p.0 63) ∷ every (λ p. ltb 0 p.0) ∷ [] ≡ (true ∷ false ∷ false ∷ [])
unfolding every all_from
every_one = refl

-- the lowest of two, the last, none
lowest_one : map (λ n. (lowest (λ p. ltb n p.0)).0) (4 ∷ 62 ∷ 63 ∷ []) ≡ (5 ∷ 63 ∷ 64 ∷ [])
unfolding lowest first_from
lowest_one = refl

-- ---- cells 0 to 5

offers : map offered (0 ∷ 1 ∷ 2 ∷ 3 ∷ 4 ∷ 5 ∷ []) ≡ (false ∷ true ∷ true ∷ true ∷ true ∷ false ∷ [])
offers = refl

allows : map unconditional (0 ∷ 1 ∷ 2 ∷ 3 ∷ 4 ∷ 5 ∷ []) ≡ (false ∷ false ∷ false ∷ false ∷ true ∷ false ∷ [])
allows = refl

asks : map highest (0 ∷ 1 ∷ 2 ∷ 3 ∷ 4 ∷ 5 ∷ []) ≡ (nobody ∷ Some Oneshot ∷ Some Session ∷ Some Blanket ∷ nobody ∷ nobody ∷ [])
unfolding highest mode_of
asks = refl

admitted : map (λ m. map (λ c. admits c m) (0 ∷ 1 ∷ 2 ∷ 3 ∷ 4 ∷ 5 ∷ [])) (Oneshot ∷ Session ∷ Blanket ∷ [])
    ≡ ((false ∷ true ∷ true ∷ true ∷ false ∷ false ∷ [])
    ∷ (false ∷ false ∷ true ∷ true ∷ false ∷ false ∷ [])
    ∷ (false ∷ false ∷ false ∷ true ∷ false ∷ false ∷ []) ∷ [])
unfolding highest mode_of
admitted = refl

-- ---- the user's answers, 7 being none

answer_numbers : map answer_no (None ∷ Allow Oneshot ∷ Allow Session ∷ Allow Blanket ∷ Deny Oneshot ∷ Deny Session ∷ Deny Blanket ∷ [])
    ≡ (0 ∷ 1 ∷ 2 ∷ 3 ∷ 4 ∷ 5 ∷ 6 ∷ [])
answer_numbers = refl

answers_back : map answer_of (0 ∷ 1 ∷ 2 ∷ 3 ∷ 4 ∷ 5 ∷ 6 ∷ 7 ∷ [])
    ≡ (None ∷ Allow Oneshot ∷ Allow Session ∷ Allow Blanket ∷ Deny Oneshot ∷ Deny Session ∷ Deny Blanket ∷ None ∷ [])
unfolding answer_of mode_of
answers_back = refl

-- ---- what is zero throughout

free_slot : free.suite.0 ∷ free.domain.0 ∷ free.descriptor.required ∷ free.descriptor.optional ∷ free.decisions.granted
    ∷ free.decisions.revoked ∷ [] ≡ replicate 6 0
free_slot = refl

no_session : idle.suite.0 ∷ idle.decisions.granted ∷ idle.decisions.revoked ∷ [] ≡ replicate 3 0
no_session = refl

-- ---- the answers

numbers : map (λ r. r.number) (DONE ∷ ALLOWED ∷ DENIED ∷ ASK 2 ∷ BAD_POLICY ∷ BAD_STATE ∷ BAD_EVENT ∷ NO_SESSION ∷ BUSY
    ∷ NOT_INSTALLED ∷ INSTALLED ∷ NOT_OFFERED (record { 0 = 5 }) ∷ NO_ROOM ∷ ACTIVE ∷ NOT_DECLARED ∷ NO_RIGHT ∷ ANSWER_NOT_ASKED
    ∷ MODE_TOO_WIDE 2 ∷ BAD_LENGTH ∷ [])
    ≡ (0 ∷ 1 ∷ 2 ∷ 3 ∷ 16 ∷ 17 ∷ 18 ∷ 19 ∷ 20 ∷ 21 ∷ 22 ∷ 23 ∷ 24 ∷ 25 ∷ 26 ∷ 27 ∷ 28 ∷ 29 ∷ 30 ∷ [])
numbers = refl

details : map (λ r. r.detail) (plain 16 ∷ ASK 2 ∷ NOT_OFFERED (record { 0 = 5 }) ∷ MODE_TOO_WIDE 2 ∷ []) ≡ (0 ∷ 2 ∷ 5 ∷ 2 ∷ [])
details = refl

refusals : map (λ n. refused (plain n)) (3 ∷ 15 ∷ 16 ∷ 30 ∷ []) ≡ (false ∷ false ∷ true ∷ true ∷ [])
refusals = refl

-- ---- the cases of the code

answers : map (λ a. (answering a).number) (Done ∷ Allowed ∷ Denied ∷ Ask 2 ∷ []) ≡ (0 ∷ 1 ∷ 2 ∷ 3 ∷ [])
answers = refl

refusals_by_case : map (λ e. (refusing e).number) (BadPolicy ∷ BadState ∷ BadEvent ∷ NoSession ∷ Busy ∷ NotInstalled ∷ Installed
    ∷ NotOffered (record { 0 = 5 }) ∷ NoRoom ∷ Active ∷ NotDeclared ∷ NoRight ∷ AnswerNotAsked ∷ ModeTooWide 2 ∷ BadLength ∷ [])
    ≡ (16 ∷ 17 ∷ 18 ∷ 19 ∷ 20 ∷ 21 ∷ 22 ∷ 23 ∷ 24 ∷ 25 ∷ 26 ∷ 27 ∷ 28 ∷ 29 ∷ 30 ∷ [])
refusals_by_case = refl

details_by_case : (answering (Ask 2)).detail ∷ map (λ e. (refusing e).detail) (Busy ∷ NotOffered (record { 0 = 5 }) ∷ ModeTooWide 3 ∷ [])
    ≡ (2 ∷ 0 ∷ 5 ∷ 3 ∷ [])
details_by_case = refl

outcomes : map (λ o. (answered o).number) (Ok Denied ∷ Err Busy ∷ []) ≡ (2 ∷ 20 ∷ [])
outcomes = refl

checks : map (λ o. (done {A = Mode} o).number) (Ok Oneshot ∷ Err Busy ∷ []) ≡ (0 ∷ 20 ∷ [])
checks = refl
