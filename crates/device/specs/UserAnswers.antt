-- 01, Records: the numbers of a user's answer in an event (000 (18)): 0 where none is given, then an allowance in each mode by the
-- mode's own number, then a denial in each.
use Rattle.std.specs.Prelude.{ℕ, ◌+◌, ◌-◌, cond, eqb, leb}
use Rattle.device.specs.declared.Mode.TheVariants.{Blanket}
use Rattle.device.specs.declared.UserAnswer.{UserAnswer}
use Rattle.device.specs.declared.UserAnswer.TheVariants.{None, Allow, Deny}
use Rattle.device.specs.Device.{width, mode_of}

abbrev pub answer_no : UserAnswer → ℕ
answer_no None = 0
answer_no (Allow mode) = width mode
answer_no (Deny mode) = width Blanket + width mode

-- the answer with that number; none where there is none
unfoldable pub answer_of : ℕ → UserAnswer
answer_of n =
    cond (eqb n 0) None
    (cond (leb n (width Blanket)) (Allow (mode_of n))
    (cond (leb n (width Blanket + width Blanket)) (Deny (mode_of (n - width Blanket)))
    None))
