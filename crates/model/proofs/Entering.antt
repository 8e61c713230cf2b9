-- An answer of the user is entered only where it was asked for: what a decision makes known, and that the sets stay valid.
-- Assumes nothing.
use Prim.Native.Nat.{ℕ, ◌^◌}
use mathlib.Core.Path.{◌≡◌, refl}
use mathlib.Core.Bool.{Bool, true, false, not, ◌&&◌, ◌||◌, cond, false≢true, true≢false}
use lib.Dec.{eqb}
use borrow.Author.Tests.{eq-eqb, ltb-true, lt-ltb}
use Rattle.words.specs.Sets.{insert}
use Rattle.words.proofs.Sets.{member_insert, insert_lt}
use Rattle.device.specs.declared.Permission.{Permission}
use Rattle.device.specs.declared.Mode.{Mode}
use Rattle.device.specs.declared.Mode.TheVariants.{Oneshot as oneshot, Session as session, Blanket as blanket}
use Rattle.device.specs.declared.UserAnswer.{UserAnswer}
use Rattle.device.specs.declared.Standing.{Standing}
use Rattle.device.specs.declared.Standing.TheVariants.{Nothing, Granted, Revoked}
use Rattle.device.specs.declared.Decisions.{Decisions}
use Rattle.device.specs.declared.Slot.{Slot}
use Rattle.device.specs.declared.Session.{Session}
use Rattle.device.specs.Device.{is_permission, is_set, has}
use Rattle.model.specs.Policy.{Fixed}
use Rattle.device.specs.Cells.{offered, unconditional, admits}
use Rattle.model.specs.Valid.{declared, decides, fitting, fits, slot_decided}
use Rattle.model.specs.Valid.{fits_beside, session_decided}
use Rattle.device.specs.Answers.{refused, NO_RIGHT, ANSWER_NOT_ASKED, MODE_TOO_WIDE, ALLOWED}
use Rattle.model.specs.Decision.{standing, stands, given, too_wide, settled, decision, grant, revoke}
use Rattle.model.specs.Step.{session_deciding, slot_deciding}
use Rattle.model.proofs.Tests.{all_three, three, every_but}
use Rattle.device.proofs.Modes.{asked_cell}

-- ---- an answer of the user is entered only where it was asked for

-- what is known of an answer that was taken: c is the cell
pub record Taken (k : Bool) (c : ℕ) (w : Standing) (u : UserAnswer) : Type 0 where
  pub declared : k ≡ true
  pub asked : admits c oneshot ≡ true
  pub nothing : stands w ≡ false
  pub fits : too_wide c u ≡ false

pub taken : (k : Bool) (c : ℕ) (w : Standing) (u : UserAnswer)
    → given u ≡ true → refused (decision k c w u) ≡ false → Taken k c w u
unfolding decision
taken false c w u g h = absurd (true≢false h)
taken true c w u g h = go (offered c) (unconditional c) (stands w) (too_wide c u) (given u) refl refl refl refl g h
  where
    go : (o n t v a : Bool) → offered c ≡ o → unconditional c ≡ n → stands w ≡ t → too_wide c u ≡ v → a ≡ true
        → refused (cond (not o) NO_RIGHT (cond (a && (n || t)) ANSWER_NOT_ASKED
        (cond (v && not t) (MODE_TOO_WIDE c) (cond n ALLOWED (settled c w u))))) ≡ false
        → Taken true c w u
    go false n t v a p q r s g h = absurd (true≢false h)
    go true n t v false p q r s g h = absurd (false≢true g)
    go true true t v true p q r s g h = absurd (true≢false h)
    go true false true v true p q r s g h = absurd (true≢false h)
    go true false false true true p q r s g h = absurd (true≢false h)
    go true false false false true p q r s g h = record { declared = refl; asked = asked_cell c p q; nothing = r; fits = s }

-- none stands: p is in none of the four sets
pub record Undecided (p : Permission) (r x : Decisions) : Type 0 where
  pub now_granted : has r.granted p ≡ false
  pub kept_granted : has x.granted p ≡ false
  pub now_revoked : has r.revoked p ≡ false
  pub kept_revoked : has x.revoked p ≡ false

pub none_stands : (p : Permission) (r x : Decisions) → stands (standing p r x) ≡ false → Undecided p r x
unfolding standing
none_stands p r x h = go (has r.granted p) (has x.granted p) (has r.revoked p) (has x.revoked p) refl refl refl refl h
  where
    go : (a b c d : Bool) → has r.granted p ≡ a → has x.granted p ≡ b → has r.revoked p ≡ c → has x.revoked p ≡ d
        → stands (cond (a || b) Granted (cond (c || d) Revoked Nothing)) ≡ false → Undecided p r x
    go true b c d e1 e2 e3 e4 h = absurd (true≢false h)
    go false true c d e1 e2 e3 e4 h = absurd (true≢false h)
    go false false true d e1 e2 e3 e4 h = absurd (true≢false h)
    go false false false true e1 e2 e3 e4 h = absurd (true≢false h)
    go false false false false e1 e2 e3 e4 h = record { now_granted = e1; kept_granted = e2; now_revoked = e3; kept_revoked = e4 }

-- g enters a decision on p that fits mode m, and leaves every other permission alone
pub record Enters (p : Permission) (m : Mode) (k : Bool) (c : ℕ) (g : Decisions → Decisions) : Type 0 where
  pub apart : (d : Decisions) (q : Permission) → eqb q.0 p.0 ≡ false
      → (has (g d).granted q ≡ has d.granted q) × (has (g d).revoked q ≡ has d.revoked q)
  pub here : (d : Decisions) → has d.granted p ≡ false → has d.revoked p ≡ false
      → fitting m k c (has (g d).granted p) (has (g d).revoked p) ≡ true
  pub sized : (d : Decisions) → is_set d.granted ≡ true → is_set d.revoked ≡ true
      → (is_set (g d).granted ≡ true) × (is_set (g d).revoked ≡ true)

module _ (p : Permission) (m : Mode) (k : Bool) (c : ℕ) (is : is_permission p ≡ true) (dec : k ≡ true) where
  inserted : (s : ℕ) → has (insert s p.0) p ≡ true
  inserted s = rw (member_insert s p.0 p.0, eq-eqb p.0 p.0 refl)

  beside : (s : ℕ) (q : Permission) → eqb q.0 p.0 ≡ false → has (insert s p.0) q ≡ has s q
  beside s q n = rw (member_insert s p.0 q.0, n)

  stays_set : (s : ℕ) → is_set s ≡ true → is_set (insert s p.0) ≡ true
  stays_set s h = lt-ltb (insert s p.0) (2 ^ 64) (insert_lt 64 s p.0 (ltb-true s (2 ^ 64) h) (ltb-true p.0 64 is))

  pub grant_enters : admits c m ≡ true → Enters p m k c (grant p)
  grant_enters a = record {
    apart = λ d q n. (beside d.granted q n, refl);
    here = λ d h r. rw (inserted d.granted, r, dec, a);
    sized = λ d h r. (stays_set d.granted h, r);
  }

  pub revoke_enters : admits c oneshot ≡ true → Enters p m k c (revoke p)
  revoke_enters a = record {
    apart = λ d q n. (refl, beside d.revoked q n);
    here = λ d h r. rw (inserted d.revoked, h, dec, a);
    sized = λ d h r. (h, stays_set d.revoked r);
  }

-- ---- the decisions stay valid

module _ (f : Fixed) (r : Session) (x : Slot) (p : Permission) (g : Decisions → Decisions)
    (clear : Undecided p r.decisions x.decisions) where
  -- a session decision
  pub session_enters : Enters p session (declared x p) (f.cell x.domain p) g
      → session_decided f r x ≡ true → session_decided f (session_deciding g r) x ≡ true
  unfolding session_decided
  session_enters e h =
      let (a, b, t) = all_three _ _ _ h in
      let (a', b') = e.sized r.decisions a b in
      three a' b' (every_but (fits_beside f x r.decisions) (fits_beside f x (g r.decisions)) p t
      (rw (e.here r.decisions clear.now_granted clear.now_revoked, clear.kept_granted, clear.kept_revoked)
      (unmet (decides (g r.decisions) p)))
      (λ q n. rw ((e.apart r.decisions q n).0, (e.apart r.decisions q n).1)))
    where
      unmet : (b : Bool) → not (b && false) ≡ true
      unmet true = refl
      unmet false = refl

  -- a blanket decision
  module _ (e : Enters p blanket (declared x p) (f.cell x.domain p) g) where
    pub slot_enters : slot_decided f x ≡ true → slot_decided f (slot_deciding g x) ≡ true
    unfolding slot_decided declared
    slot_enters h =
        let (a, b, t) = all_three _ _ _ h in
        let (a', b') = e.sized x.decisions a b in
        three a' b' (every_but (fits f x blanket x.decisions) (fits f (slot_deciding g x) blanket (g x.decisions)) p t
        (e.here x.decisions clear.kept_granted clear.kept_revoked)
        (λ q n. rw ((e.apart x.decisions q n).0, (e.apart x.decisions q n).1)))

    pub slot_enters_beside : session_decided f r x ≡ true → session_decided f r (slot_deciding g x) ≡ true
    unfolding session_decided declared
    slot_enters_beside h =
        let (a, b, t) = all_three (is_set r.decisions.granted) (is_set r.decisions.revoked) _ h in
        three a b (every_but (fits_beside f x r.decisions) (fits_beside f (slot_deciding g x) r.decisions) p t
        (rw (clear.now_granted, clear.now_revoked))
        (λ q n. rw ((e.apart x.decisions q n).0, (e.apart x.decisions q n).1)))
