-- 01, Answer numbers: a number and a detail, which is 0 but for three of them.
use Rattle.std.specs.Prelude.{ℕ, Bool, leb, Result, Ok, Err}
use Rattle.device.specs.declared.Permission.{Permission}
use Rattle.device.specs.declared.Answer.{Answer}
use Rattle.device.specs.declared.Answer.TheVariants.{Done, Allowed, Denied, Ask}
use Rattle.device.specs.declared.Refusal.{Refusal}
use Rattle.device.specs.declared.Refusal.TheVariants.{BadPolicy, BadState, BadEvent, NoSession, Busy, NotInstalled, Installed, NotOffered}
use Rattle.device.specs.declared.Refusal.TheVariants.{NoRoom, Active, NotDeclared, NoRight, AnswerNotAsked, ModeTooWide, BadLength}
use Rattle.device.specs.declared.Response.{Response}

abbrev pub plain : ℕ → Response
plain number = record { number = number; detail = 0 }

abbrev pub detailed : ℕ → ℕ → Response
detailed number detail = record { number = number; detail = detail }

-- the numbers from 16 on are the refusals
abbrev pub first_refusal : ℕ
first_refusal = 16

abbrev pub refused : Response → Bool
refused response = leb first_refusal response.number

abbrev pub DONE : Response
DONE = plain 0

abbrev pub ALLOWED : Response
ALLOWED = plain 1

abbrev pub DENIED : Response
DENIED = plain 2

-- detail the cell
abbrev pub ASK : ℕ → Response
ASK cell = detailed 3 cell

abbrev pub BAD_POLICY : Response
BAD_POLICY = plain 16

abbrev pub BAD_STATE : Response
BAD_STATE = plain 17

abbrev pub BAD_EVENT : Response
BAD_EVENT = plain 18

abbrev pub NO_SESSION : Response
NO_SESSION = plain 19

abbrev pub BUSY : Response
BUSY = plain 20

abbrev pub NOT_INSTALLED : Response
NOT_INSTALLED = plain 21

abbrev pub INSTALLED : Response
INSTALLED = plain 22

-- detail the lowest such permission, whose cell is 0
abbrev pub NOT_OFFERED : Permission → Response
NOT_OFFERED permission = detailed 23 permission.0

abbrev pub NO_ROOM : Response
NO_ROOM = plain 24

abbrev pub ACTIVE : Response
ACTIVE = plain 25

abbrev pub NOT_DECLARED : Response
NOT_DECLARED = plain 26

abbrev pub NO_RIGHT : Response
NO_RIGHT = plain 27

abbrev pub ANSWER_NOT_ASKED : Response
ANSWER_NOT_ASKED = plain 28

-- detail the cell
abbrev pub MODE_TOO_WIDE : ℕ → Response
MODE_TOO_WIDE cell = detailed 29 cell

abbrev pub BAD_LENGTH : Response
BAD_LENGTH = plain 30

-- ---- the number and the detail of each case

abbrev pub answering : Answer → Response
answering Done = DONE
answering Allowed = ALLOWED
answering Denied = DENIED
answering (Ask cell) = ASK cell

abbrev pub refusing : Refusal → Response
refusing BadPolicy = BAD_POLICY
refusing BadState = BAD_STATE
refusing BadEvent = BAD_EVENT
refusing NoSession = NO_SESSION
refusing Busy = BUSY
refusing NotInstalled = NOT_INSTALLED
refusing Installed = INSTALLED
refusing (NotOffered permission) = NOT_OFFERED permission
refusing NoRoom = NO_ROOM
refusing Active = ACTIVE
refusing NotDeclared = NOT_DECLARED
refusing NoRight = NO_RIGHT
refusing AnswerNotAsked = ANSWER_NOT_ASKED
refusing (ModeTooWide cell) = MODE_TOO_WIDE cell
refusing BadLength = BAD_LENGTH

-- of what an event is answered, and of a call that has no answer but DONE, whatever it hands on
abbrev pub answered : Result Answer Refusal → Response
answered (Ok answer) = answering answer
answered (Err refusal) = refusing refusal

abbrev pub done : {A : Type 0} → Result A Refusal → Response
done (Ok value) = DONE
done (Err refusal) = refusing refusal
