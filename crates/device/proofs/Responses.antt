-- The refusals are the responses with a number from 16 on, and an answer or a refusal is known by its response. Assumes nothing.
use Rattle.std.specs.Prelude.{◌≡◌, refl, true, false, cond, eqb, Result, Ok, Err}
use Rattle.std.proofs.Common.{sym, ap, ◌∙◌, true≢false}
use Rattle.device.specs.declared.Answer.{Answer}
use Rattle.device.specs.declared.Answer.TheVariants.{Done, Allowed, Denied, Ask}
use Rattle.device.specs.declared.Refusal.{Refusal}
use Rattle.device.specs.declared.Refusal.TheVariants.{BadPolicy, BadState, BadEvent, NoSession, Busy, NotInstalled, Installed, NotOffered}
use Rattle.device.specs.declared.Refusal.TheVariants.{NoRoom, Active, NotDeclared, NoRight, AnswerNotAsked, ModeTooWide, BadLength}
use Rattle.device.specs.declared.Response.{Response}
use Rattle.device.specs.Answers.{refused, answering, refusing, answered, done}

pub answer_taken : (answer : Answer) → refused (answering answer) ≡ false
answer_taken Done = refl
answer_taken Allowed = refl
answer_taken Denied = refl
answer_taken (Ask cell) = refl

pub refusal_refused : (refusal : Refusal) → refused (refusing refusal) ≡ true
refusal_refused BadPolicy = refl
refusal_refused BadState = refl
refusal_refused BadEvent = refl
refusal_refused NoSession = refl
refusal_refused Busy = refl
refusal_refused NotInstalled = refl
refusal_refused Installed = refl
refusal_refused (NotOffered permission) = refl
refusal_refused NoRoom = refl
refusal_refused Active = refl
refusal_refused NotDeclared = refl
refusal_refused NoRight = refl
refusal_refused AnswerNotAsked = refl
refusal_refused (ModeTooWide cell) = refl
refusal_refused BadLength = refl

-- ---- a response is that of one outcome alone

answer_by : Response → Answer
answer_by r = cond (eqb r.number 0) Done (cond (eqb r.number 1) Allowed (cond (eqb r.number 2) Denied (Ask r.detail)))

answer_known : (answer : Answer) → answer_by (answering answer) ≡ answer
unfolding answer_by
answer_known Done = refl
answer_known Allowed = refl
answer_known Denied = refl
answer_known (Ask cell) = refl

refusal_by : Response → Refusal
refusal_by r =
    cond (eqb r.number 16) BadPolicy (cond (eqb r.number 17) BadState (cond (eqb r.number 18) BadEvent
    (cond (eqb r.number 19) NoSession (cond (eqb r.number 20) Busy (cond (eqb r.number 21) NotInstalled
    (cond (eqb r.number 22) Installed (cond (eqb r.number 23) (NotOffered (record { 0 = r.detail }))
    (cond (eqb r.number 24) NoRoom (cond (eqb r.number 25) Active (cond (eqb r.number 26) NotDeclared
    (cond (eqb r.number 27) NoRight (cond (eqb r.number 28) AnswerNotAsked
    (cond (eqb r.number 29) (ModeTooWide r.detail) BadLength)))))))))))))

refusal_known : (refusal : Refusal) → refusal_by (refusing refusal) ≡ refusal
unfolding refusal_by
refusal_known BadPolicy = refl
refusal_known BadState = refl
refusal_known BadEvent = refl
refusal_known NoSession = refl
refusal_known Busy = refl
refusal_known NotInstalled = refl
refusal_known Installed = refl
refusal_known (NotOffered permission) = refl
refusal_known NoRoom = refl
refusal_known Active = refl
refusal_known NotDeclared = refl
refusal_known NoRight = refl
refusal_known AnswerNotAsked = refl
refusal_known (ModeTooWide cell) = refl
refusal_known BadLength = refl

pub refusal_one : (a b : Refusal) → refusing a ≡ refusing b → a ≡ b
refusal_one a b e = sym (refusal_known a) ∙ ap refusal_by e ∙ refusal_known b

pub answered_one : (r r' : Result Answer Refusal) → answered r ≡ answered r' → r ≡ r'
answered_one (Ok a) (Ok b) e = ap Ok (sym (answer_known a) ∙ ap answer_by e ∙ answer_known b)
answered_one (Ok a) (Err b) e = absurd (true≢false (sym (refusal_refused b) ∙ ap refused (sym e) ∙ answer_taken a))
answered_one (Err a) (Ok b) e = absurd (true≢false (sym (refusal_refused a) ∙ ap refused e ∙ answer_taken b))
answered_one (Err a) (Err b) e = ap Err (refusal_one a b e)

pub done_one : (r r' : Result Unit Refusal) → done r ≡ done r' → r ≡ r'
done_one (Ok a) (Ok b) e = refl
done_one (Ok a) (Err b) e = absurd (true≢false (sym (refusal_refused b) ∙ ap refused (sym e)))
done_one (Err a) (Ok b) e = absurd (true≢false (sym (refusal_refused a) ∙ ap refused e))
done_one (Err a) (Err b) e = ap Err (refusal_one a b e)
