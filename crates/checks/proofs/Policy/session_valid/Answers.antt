use mathlib.Core.Path.{refl, sym, ◌∙◌}
use borrow.Author.Tests.{eq-eqb, eqb-true, eqb-false}
use Rattle.model.specs.Policy.{fixed_by}
use Rattle.store.proofs.Places.{found_some, found_none}
use Rattle.checks.proofs.Sessions.{session_idle, session_unknown, session_known_lem, session_domain}
use Rattle.checks.proofs.Policy.session_valid.Goals as goal

pub returns-then-eq : goal.returns-then-eq
returns-then-eq c =
    let f = fixed_by c.args.self.now.cells.now in
    let r = c.read_session-r in
    let none = eqb-true _ _ (sym c.if-eq.ensures) in
    rw (c.eq-then-eq.ensures, c.idle.ensures, eq-eqb _ _ none)
    (session_idle f c.args.state.now r.result r.ensures (sym c.if-not-session_zeros.ensures) none)

pub returns-in_default : goal.returns-in_default
returns-in_default c =
    let f = fixed_by c.args.self.now.cells.now in
    let r = c.read_session-r in
    let some = eqb-false _ _ (sym c.if-eq.ensures) in
    session_unknown f c.args.state.now r.result r.ensures (sym c.if-not-session_zeros.ensures) some
    _ refl (found_none c.in_default.ensures)

pub returns : goal.returns
returns c =
    let b = c.args.state.now in
    let zeros = sym c.if-not-session_zeros.ensures in
    let f = fixed_by c.args.self.now.cells.now in
    let r = c.read_session-r in
    let x = c.read_slot-x in
    let some = eqb-false _ _ (sym c.if-eq.ensures) in
    let (at, below) = found_some c.in-Some.ensures in
    let domain = session_domain f b r.result r.ensures zeros some c.in-Some.k at x.result x.ensures c.requires in
    c.session_decided.ensures f (c.row.ensures domain)
    ∙ session_known_lem f b r.result r.ensures zeros some c.in-Some.k at x.result x.ensures below
