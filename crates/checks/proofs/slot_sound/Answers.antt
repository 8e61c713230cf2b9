use mathlib.Core.Path.{sym, ◌∙◌}
use borrow.Author.Rules.{rules}
use borrow.Author.Tests.{ltb-true, eqb-false}
use Rattle.checks.proofs.Slots.{sound_words}
use Rattle.checks.proofs.slot_sound.Goals as goal

pub returns-then-in_range : goal.returns-then-in_range
returns-then-in_range c f row =
    let domain = sym c.if-in_range.ensures in
    c.within.ensures ∙ rw (row domain)
    (sound_words f c.args.x (eqb-false _ _ (sym c.if-eq.ensures)) (ltb-true _ _ domain) (search rules) (search rules) (search rules))
