-- The running suite: its session and its slot as the paper's, and what stands of one permission. Assumes nothing.
use Prim.Native.Nat.{ℕ}
use mathlib.Core.Path.{◌≡◌, refl, sym, ap, ◌∙◌, subst}
use mathlib.Core.Logic.{◌⊎◌, inl, inr}
use mathlib.Core.Option.{some, some-injective}
use mathlib.Core.Bool.{Bool, true, false, ◌||◌, cond, false≢true, or-true}
use Rattle.device.specs.declared.Suite.{Suite}
use Rattle.device.specs.declared.Permission.{Permission}
use Rattle.device.specs.declared.Mode.TheVariants.{Session as session, Blanket as blanket}
use Rattle.device.specs.declared.Standing.{Standing}
use Rattle.device.specs.declared.Standing.TheVariants.{Nothing, Granted, Revoked}
use Rattle.device.specs.declared.Slot.{Slot}
use Rattle.device.specs.Device.{is_permission, no_suite, same_suite, has}
use Rattle.model.specs.Policy.{Fixed}
use Rattle.model.specs.State.{State, carries, find}
use Rattle.model.specs.Valid.{declared, valid}
use Rattle.model.specs.Decision.{standing, stands}
use Rattle.model.specs.Step.{running_slot}
use Rattle.model.proofs.Slots.{find_suite}
use Rattle.model.proofs.Entering.{none_stands}
use Rattle.model.proofs.Kept.{is_installed}
use Rattle.paper.specs.Published
use Rattle.paper.specs.Published.{SessionInfo, Runs}
use Rattle.paper.specs.Refinement.{In, suite_of, info_of, ◌⊑◌}
use Rattle.paper.proofs.Decided.{out, into, Fit, kept_fit, now_fit, now_beside}
use Rattle.paper.proofs.Refined.{one_runs, the_suite, as_slot}

pub record Running (f : Fixed) (s : State) (S : Published.State) : Type 2 where
  pub valid_state : valid f s ≡ true
  pub refines : S ⊑ s
  pub run : same_suite s.session.suite no_suite ≡ false

refute : (b : Bool) → ¬ b ≡ true → b ≡ false
refute true n = absurd (n refl)
refute false n = refl

module _ {f : Fixed} {s : State} {S : Published.State} (k : Running f s S) where
  abbrev i : Suite
  i = s.session.suite

  abbrev me : Slot
  me = running_slot s

  pub there : carries i s.slots ≡ true
  there = is_installed f s k.valid_state (rw k.run)

  pub session_is : S.session ≡ some (info_of s.session)
  session_is = one_runs k.refines k.run

  pub info_is : (ses : SessionInfo) → S.session ≡ some ses → info_of s.session ≡ ses
  info_is ses e = some-injective (info_of s.session) ses (sym session_is ∙ e)

  pub granted_is : S.granted i ≡ In me.decisions.granted
  granted_is = k.refines.granted i k.run there

  pub revoked_is : S.revoked i ≡ In me.decisions.revoked
  revoked_is = k.refines.revoked i k.run there

  pub my_suite : S.suite (suite_of me)
  my_suite = the_suite k.refines i k.run there

  -- what holds of the running suite holds of every suite with the session's number, and the other way round
  pub for_me : (Q : SessionInfo → Published.Suite → Type 0) → Q (info_of s.session) (suite_of me)
      → (ses : SessionInfo) (ms : Published.Suite) → S.session ≡ some ses → S.suite ms → ms.id ≡ ses.id → Q ses ms
  for_me Q q ses ms e m n =
      let t = info_is ses e in
      let is-me : ms ≡ suite_of me =
      (as_slot k.refines m).2 ∙ ap (λ j. suite_of (find j s.slots)) (n ∙ ap (λ (x : SessionInfo). x.id) (sym t)) in
      subst (λ x. Q x ms) t (subst (Q (info_of s.session)) (sym is-me) q)

  pub runs_me : (Q : SessionInfo → Published.Suite → Type 0) → Q (info_of s.session) (suite_of me) → Runs S Q
  runs_me Q q = (info_of s.session, session_is, λ ms m n. for_me Q q (info_of s.session) ms session_is m n)

  pub me_runs : (Q : SessionInfo → Published.Suite → Type 0) → Runs S Q → Q (info_of s.session) (suite_of me)
  me_runs Q (ses, e, q) =
      let t = info_is ses e in
      subst (λ x. Q x (suite_of me)) (sym t)
      (q (suite_of me) my_suite (find_suite i s.slots there ∙ ap (λ (x : SessionInfo). x.id) t))

  -- ---- one permission

  module _ (p : Permission) (is : is_permission p ≡ true) where
    pub reads : {P : Permission → Type 0} (n : ℕ) → P ≡ In n → P p → has n p ≡ true
    reads n e t = out p n (subst (λ (Q : Permission → Type 0). Q p) e t)

    pub holds : {P : Permission → Type 0} (n : ℕ) → P ≡ In n → has n p ≡ true → P p
    holds n e t = subst (λ (Q : Permission → Type 0). Q p) (sym e) (into p is n t)

    -- granted and revoked for the session, and for good
    abbrev a : Bool
    a = has s.session.decisions.granted p

    abbrev b : Bool
    b = has s.session.decisions.revoked p

    abbrev g : Bool
    g = has me.decisions.granted p

    abbrev r : Bool
    r = has me.decisions.revoked p

    abbrev pub w : Standing
    w = standing p s.session.decisions me.decisions

    pub now : Fit session (declared me p) (f.cell me.domain p) a b
    now = now_fit f s k.valid_state p is

    pub kept : Fit blanket (declared me p) (f.cell me.domain p) g r
    kept = kept_fit f s k.valid_state p is i

    -- a grant, or a revocation, beside which no grant stands
    pub stands_granted : (a || g) ≡ true → w ≡ Granted
    unfolding standing
    stands_granted e = rw e

    stands_revoked : ¬ a ≡ true → ¬ g ≡ true → (b || r) ≡ true → w ≡ Revoked
    unfolding standing
    stands_revoked n m e = rw (refute a n, refute g m, e)

    pub revoked_now : b ≡ true → w ≡ Revoked
    revoked_now e =
        stands_revoked (λ t. now.apart t e) (λ t. now_beside f s k.valid_state p is (rw (e, or-true)) (rw t)) (rw e)

    pub revoked_kept : r ≡ true → w ≡ Revoked
    revoked_kept e =
        stands_revoked (λ t. now_beside f s k.valid_state p is (rw t) (rw (e, or-true))) (λ t. kept.apart t e) (rw (e, or-true))

    -- something stands
    pub some_stands : stands w ≡ true
        → In s.session.decisions.granted p ⊎ In s.session.decisions.revoked p ⊎ S.granted i p ⊎ S.revoked i p
    unfolding standing
    some_stands = go a b g r refl refl refl refl
      where
        go : (a' b' g' r' : Bool) → a ≡ a' → b ≡ b' → g ≡ g' → r ≡ r'
            → stands (cond (a' || g') Granted (cond (b' || r') Revoked Nothing)) ≡ true
            → In s.session.decisions.granted p ⊎ In s.session.decisions.revoked p ⊎ S.granted i p ⊎ S.revoked i p
        go true b' g' r' ea eb eg er e = inl (into p is _ ea)
        go false b' true r' ea eb eg er e = inr (inr (inl (holds _ granted_is eg)))
        go false true false r' ea eb eg er e = inr (inl (into p is _ eb))
        go false false false true ea eb eg er e = inr (inr (inr (holds _ revoked_is er)))
        go false false false false ea eb eg er e = absurd (false≢true e)

    -- nothing does
    pub undecided : stands w ≡ false → Published.Undecided S (info_of s.session) p
    undecided n =
        let u = none_stands p s.session.decisions me.decisions n in (
          λ t. false≢true (sym u.now_granted ∙ out p s.session.decisions.granted t),
          λ t. false≢true (sym u.now_revoked ∙ out p s.session.decisions.revoked t),
          λ t. false≢true (sym u.kept_granted ∙ reads me.decisions.granted granted_is t),
          λ t. false≢true (sym u.kept_revoked ∙ reads me.decisions.revoked revoked_is t),
        )

    pub nothing : Published.Undecided S (info_of s.session) p → w ≡ Nothing
    unfolding standing
    nothing (n1, n2, n3, n4) = rw (
      refute a (λ e. n1 (into p is s.session.decisions.granted e)),
      refute g (λ e. n3 (holds me.decisions.granted granted_is e)),
      refute b (λ e. n2 (into p is s.session.decisions.revoked e)),
      refute r (λ e. n4 (holds me.decisions.revoked revoked_is e)),
    )
