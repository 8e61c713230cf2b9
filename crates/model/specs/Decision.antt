-- 01, What each event does: the decision on a request. 004, Figures 2.2 to 2.4, with four differences that 01 decides: an
-- undeclared permission is refused (26) where 004 answers denied; one with cell 0 is refused (27) where 004 leaves the response
-- open; cell 4 goes before a standing decision, where 004's algorithm looks at decisions first; and ASK is an answer, where 000
-- only has a precondition that fails.
use Rattle.std.specs.Prelude.{ℕ, Bool, true, false, not, ◌&&◌, ◌||◌, cond}
use Rattle.words.specs.Sets.{insert}
use Rattle.device.specs.declared.Permission.{Permission}
use Rattle.device.specs.declared.UserAnswer.{UserAnswer}
use Rattle.device.specs.declared.UserAnswer.TheVariants.{None, Allow, Deny}
use Rattle.device.specs.declared.Standing.{Standing}
use Rattle.device.specs.declared.Standing.TheVariants.{Nothing, Granted, Revoked}
use Rattle.device.specs.declared.Decisions.{Decisions}
use Rattle.device.specs.declared.Response.{Response}
use Rattle.device.specs.Device.{has}
use Rattle.device.specs.Cells.{offered, unconditional, admits}
use Rattle.device.specs.Answers.{ALLOWED, DENIED, ASK, NOT_DECLARED, NO_RIGHT, ANSWER_NOT_ASKED, MODE_TOO_WIDE}

-- what stands on a permission, for the session or for good: from the session's decisions and those of its suite's own slot
unfoldable pub standing : Permission → (session slot : Decisions) → Standing
standing permission session slot =
    cond (has session.granted permission || has slot.granted permission) Granted
    (cond (has session.revoked permission || has slot.revoked permission) Revoked
    Nothing)

abbrev pub stands : Standing → Bool
stands Nothing = false
stands Granted = true
stands Revoked = true

abbrev pub given : UserAnswer → Bool
given None = false
given (Allow mode) = true
given (Deny mode) = true

-- an allowance wider than the cell admits; a denial has no bound (004 2.18)
abbrev pub too_wide : (cell : ℕ) → UserAnswer → Bool
too_wide cell None = false
too_wide cell (Allow mode) = not (admits cell mode)
too_wide cell (Deny mode) = false

-- what stands decides; where nothing does, the user's answer, and without one he is asked
abbrev pub settled : (cell : ℕ) → Standing → UserAnswer → Response
settled cell Granted answer = ALLOWED
settled cell Revoked answer = DENIED
settled cell Nothing None = ASK cell
settled cell Nothing (Allow mode) = ALLOWED
settled cell Nothing (Deny mode) = DENIED

-- the refusals in their order, 26, 27, 28 and 29, before anything is allowed
unfoldable pub decision : (declared : Bool) → (cell : ℕ) → Standing → UserAnswer → Response
decision declared cell standing answer =
    cond (not declared) NOT_DECLARED
    (cond (not (offered cell)) NO_RIGHT
    (cond (given answer && (unconditional cell || stands standing)) ANSWER_NOT_ASKED
    (cond (too_wide cell answer && not (stands standing)) (MODE_TOO_WIDE cell)
    (cond (unconditional cell) ALLOWED
    (settled cell standing answer)))))

-- decisions with one more
abbrev pub grant : Permission → Decisions → Decisions
grant permission decisions =
    record { granted = insert decisions.granted permission.0; revoked = decisions.revoked }

abbrev pub revoke : Permission → Decisions → Decisions
revoke permission decisions =
    record { granted = decisions.granted; revoked = insert decisions.revoked permission.0 }
