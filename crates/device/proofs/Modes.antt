-- Laws of modes and cells. Assumes nothing.
use Prim.Native.Nat.{ℕ, zero, suc, ◌≤◌}
use native.Mathlib.Omega.{arith}
use mathlib.Core.Path.{◌≡◌, refl}
use mathlib.Core.Bool.{true, false, true≢false, false≢true}
use lib.Dec.{lit≤}
use borrow.Author.Tests.{le-leb, lt-leb}
use Rattle.device.specs.declared.Mode.{Mode}
use Rattle.device.specs.declared.Mode.TheVariants.{Oneshot, Session, Blanket}
use Rattle.device.specs.declared.UserAnswer.{UserAnswer}
use Rattle.device.specs.declared.UserAnswer.TheVariants.{None, Allow, Deny}
use Rattle.device.specs.Device.{width, mode_of}
use Rattle.device.specs.Cells.{offered, unconditional, highest, admits}
use Rattle.device.specs.UserAnswers.{answer_no, answer_of}

pub width_le : (mode : Mode) → width mode ≤ 3
width_le Oneshot = lit≤ tt
width_le Session = lit≤ tt
width_le Blanket = lit≤ tt

-- a cell that offers, and not without asking, has the user asked
pub asked_cell : (cell : ℕ) → offered cell ≡ true → unconditional cell ≡ false → admits cell Oneshot ≡ true
unfolding highest mode_of
asked_cell zero o n = absurd (false≢true o)
asked_cell (suc zero) o n = refl
asked_cell (suc (suc zero)) o n = refl
asked_cell (suc (suc (suc zero))) o n = refl
asked_cell (suc (suc (suc (suc zero)))) o n = absurd (true≢false n)
asked_cell (suc (suc (suc (suc (suc c))))) o n =
    let k = suc (suc (suc (suc (suc c)))) in
    absurd (false≢true (rw (le-leb 1 k (omega arith), lt-leb k 4 (omega arith)) at o))

-- every answer is the one with its number
pub answer_back : (answer : UserAnswer) → answer_of (answer_no answer) ≡ answer
unfolding answer_of mode_of
answer_back None = refl
answer_back (Allow Oneshot) = refl
answer_back (Allow Session) = refl
answer_back (Allow Blanket) = refl
answer_back (Deny Oneshot) = refl
answer_back (Deny Session) = refl
answer_back (Deny Blanket) = refl
