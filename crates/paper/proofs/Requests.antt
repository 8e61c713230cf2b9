-- (39) for a request. Assumes nothing.
use Prim.Native.Nat.{ℕ}
use native.Mathlib.Omega.{arith}
use mathlib.Core.Path.{◌≡◌, refl, sym, ap, ◌∙◌, subst, fun_ext}
use mathlib.Core.Logic.{◌⊎◌, inl, inr}
use mathlib.Core.Option.{none, some}
use mathlib.Core.Bool.{Bool, true, false, not, ◌&&◌, cond, false≢true, or-true}
use borrow.Author.Tests.{eqb-true, eq-eqb, ne_eqb, leb-true, le-leb, not-true, not-false}
use Rattle.words.specs.Sets.{insert}
use Rattle.words.proofs.Sets.{member_insert}
use Rattle.device.specs.declared.Suite.{Suite}
use Rattle.device.specs.declared.Permission.{Permission}
use Rattle.device.specs.declared.Mode.{Mode}
use Rattle.device.specs.declared.Mode.TheVariants.{Oneshot as oneshot, Session as session, Blanket as blanket}
use Rattle.device.specs.declared.UserAnswer.{UserAnswer}
use Rattle.device.specs.declared.UserAnswer.TheVariants.{None, Allow, Deny}
use Rattle.device.specs.declared.Standing.{Standing}
use Rattle.device.specs.declared.Standing.TheVariants.{Nothing}
use Rattle.device.specs.declared.Decisions.{Decisions}
use Rattle.device.specs.declared.Slot.{Slot}
use Rattle.device.specs.declared.Event.TheVariants.{Request}
use Rattle.device.specs.declared.Response.{Response}
use Rattle.device.specs.Device.{is_permission, no_suite, same_suite, width}
use Rattle.model.specs.Policy.{Fixed}
use Rattle.device.specs.Cells.{unconditional, admits}
use Rattle.model.specs.State.{State, find, amend}
use Rattle.model.specs.Valid.{declared, valid}
use Rattle.device.specs.Answers.{refused, ALLOWED, DENIED}
use Rattle.model.specs.Decision.{stands, given, too_wide, settled, decision, grant, revoke}
use Rattle.model.specs.Step.{answer, in_session, running_slot, judged, session_deciding, slot_deciding, keep, enter, request, step}
use Rattle.model.proofs.Tests.{both, cases, same_sym}
use Rattle.model.proofs.Slots.{same_suite_lem, carries_deciding, find_deciding}
use Rattle.model.proofs.Entering.{Taken, taken}
use Rattle.paper.specs.Published
use Rattle.paper.specs.Published.{SessionInfo, ua-allow, ua-deny, Enters, EntersFor, Answers, Exec, npre, pre, Pre, Pos}
use Rattle.paper.specs.Refinement.{In, policy_of, suite_of, info_of, session_of, Agrees, ◌⊑◌, answer_of, event_of, response_of}
use Rattle.paper.specs.Refinement.{undeclared, published, departs, Simulated}
use Rattle.paper.proofs.Cells.{Asking, asked_offered, asked_not_free, asked_once, asks}
use Rattle.paper.proofs.Suites.{find_beside, installed_deciding}
use Rattle.paper.proofs.Decided.{out, is_declared, declares}
use Rattle.paper.proofs.Refined.{some_ne_none, For, for_it, for_other, nothing_runs}
use Rattle.paper.proofs.Running.{Running, there, info_is, granted_is, revoked_is, for_me, runs_me, me_runs}
use Rattle.paper.proofs.Running.{reads, w, now, kept}
use Rattle.paper.proofs.Running.{stands_granted, revoked_now, revoked_kept, some_stands, undecided, nothing}

-- ---- the decision, where the permission is declared

-- the user is asked and nothing stands
settles : (c : ℕ) → Asking c → (u : UserAnswer) → too_wide c u ≡ false → decision true c Nothing u ≡ settled c Nothing u
unfolding decision
settles c k None h = rw (asked_offered c k, asked_not_free c k)
settles c k (Allow m) h = rw (asked_offered c k, asked_not_free c k, h)
settles c k (Deny m) h = rw (asked_offered c k, asked_not_free c k)

-- the user does not answer
unanswered : (c : ℕ) {w w' : Standing} → w ≡ w' → Asking c → decision true c w None ≡ settled c w' None
unfolding decision
unanswered c e k = rw (e, asked_offered c k, asked_not_free c k)

by_domain : (c : ℕ) (w : Standing) → unconditional c ≡ true → decision true c w None ≡ ALLOWED
unfolding decision
by_domain c w e = rw (eqb-true c 4 e)

-- a refusal responds nothing
no_response : (r : Response) → refused r ≡ true → response_of r ≡ none
no_response r e =
    let n = leb-true 16 r.number e in
    rw (ne_eqb r.number 1 (λ k. omega arith), ne_eqb r.number 2 (λ k. omega arith))

-- ---- a request of the running suite

module _ {f : Fixed} {s : State} {S : Published.State} (k : Running f s S) (p : Permission) (is : is_permission p ≡ true) where
  abbrev h : S ⊑ s
  h = k.refines

  abbrev pol : Published.Policy
  pol = policy_of f

  abbrev i : Suite
  i = s.session.suite

  abbrev me : Slot
  me = running_slot s

  abbrev c : ℕ
  c = f.cell me.domain p

  abbrev verdict : UserAnswer → Response
  verdict u = decision (declared me p) c (w k p is) u

  -- the paper asks the user
  abbrev asking : Bool
  asking = admits c oneshot && not (stands (w k p is))

  -- ---- Figure 2.2: the user does not answer

  answers : declared me p ≡ true
      → Answers pol S (info_of s.session) (suite_of me) p (response_of (decision true c (w k p is) None))
  answers dec = record {
    undeclared = λ n m. elim (declares p is me dec) [ inl t ↦ absurd (n t) | inr t ↦ absurd (m t) ];
    by_domain = λ _ e. ap response_of (by_domain c (w k p is) e);
    ses_granted = λ _ t.
        let e = out p s.session.decisions.granted t in
        ap response_of (unanswered c (stands_granted k p is (rw e)) (asks c session ((now k p is).granted e).1));
    granted = λ _ t.
        let e = reads k p is me.decisions.granted (granted_is k) t in
        ap response_of (unanswered c (stands_granted k p is (rw (e, or-true))) (asks c blanket ((kept k p is).granted e).1));
    ses_revoked = λ _ t.
        let e = out p s.session.decisions.revoked t in
        ap response_of (unanswered c (revoked_now k p is e) (asks c oneshot ((now k p is).revoked e).1));
    revoked = λ _ t.
        let e = reads k p is me.decisions.revoked (revoked_is k) t in
        ap response_of (unanswered c (revoked_kept k p is e) (asks c oneshot ((kept k p is).revoked e).1));
  }

  abbrev pub Unasked : SessionInfo → Published.Suite → Type 0
  Unasked ses ms = Published.Declared ms p → (m : Mode) → pol.user ms.domain p m
      → ses.granted p ⊎ ses.revoked p ⊎ S.granted ses.id p ⊎ S.revoked ses.id p

  unasked : asking ≡ false → Unasked (info_of s.session) (suite_of me)
  unasked n dec m e = some_stands k p is (not-false (stands (w k p is)) (rw (asked_once c (m, e)) at n))

  asked : declared me p ≡ true → asking ≡ true → ¬ Unasked (info_of s.session) (suite_of me)
  asked dec q un =
      let (o, n) = both (admits c oneshot) (not (stands (w k p is))) q in
      let (m, e) = asks c oneshot o in
      let no = undecided k p is (not-true _ n) in
      elim (un (declares p is me dec) m e) as (λ _. ⊥)
      [ inl t ↦ no.0 t | inr (inl t) ↦ no.1 t | inr (inr (inl t)) ↦ no.2 t | inr (inr (inr t)) ↦ no.3 t ]

  none_follows : Simulated f S s (Request p None) (answer (verdict None) s)
  unfolding decision
  none_follows = go (declared me p) asking refl refl
    where
      go : (d t : Bool) → declared me p ≡ d → asking ≡ t
          → Simulated f S s (Request p None) (answer (decision d c (w k p is) None) s)
      go false t e q = (S, departs (undeclared (rw k.run) e), h)
      go true true e q =
          let (o, n) = both (admits c oneshot) (not (stands (w k p is))) q in
          let ask = unanswered c (nothing k p is (undecided k p is (not-true _ n))) (asks c oneshot o) in
          rw ask (S, published (Published.request p none) refl (npre (λ t. asked e q (me_runs k Unasked t))), h)
      go true false e q = (
        S,
        published (Published.request p none) refl (pre (runs_me k Unasked (unasked q)) (
          refl,
          for_me k (λ ses ms. Answers pol S ses ms p (response_of (decision true c (w k p is) None))) (answers e),
        )),
        h,
      )

  -- ---- what an answer enters

  entered : (n : ℕ) → Enters p (In n) (In (insert n p.0))
  entered n = (
    rw (is, member_insert n p.0 p.0, eq-eqb p.0 p.0 refl),
    λ q m. ap (λ t. (is_permission q && t) ≡ true)
        (member_insert n p.0 q.0 ∙ rw (ne_eqb q.0 p.0 (λ e. m (λ j. record { 0 = e j })))),
  )

  entered_for_lem : (G : Suite → Permission → Type 0) (n : ℕ) → G i ≡ In n → EntersFor i p G (For i (In (insert n p.0)) G)
  entered_for_lem G n e = (
    subst (λ P. Enters p P (For i (In (insert n p.0)) G i)) (sym e)
        (subst (Enters p (In n)) (sym (for_it i (In (insert n p.0)) G)) (entered n)),
    λ j m. for_other i j (In (insert n p.0)) G m,
  )

  stays_for : (G : Suite → Permission → Type 0) (n : ℕ) → G i ≡ In n → G ≡ For i (In n) G
  stays_for G n e = fun_ext (λ j. go j (same_suite j i) refl)
    where
      go : (j : Suite) (b : Bool) → same_suite j i ≡ b → G j ≡ cond b (In n) (G j)
      go j true q = ap G (same_suite_lem j i q) ∙ e
      go j false q = refl

  for_session : (Q : SessionInfo → Type 1) → Q (info_of s.session) → (ses : SessionInfo) → S.session ≡ some ses → Q ses
  for_session Q q ses e = subst Q (info_is k ses e) q

  -- the decisions change by d: the session's, or the suite's own
  module _ (d : Decisions → Decisions) where
    abbrev session_now : Published.State
    session_now = record {
      suite = S.suite;
      session = session_of (session_deciding d s.session);
      granted = S.granted;
      revoked = S.revoked;
    }

    abbrev kept_now : Published.State
    kept_now = record {
      suite = S.suite;
      session = S.session;
      granted = For i (In (d me.decisions).granted) S.granted;
      revoked = For i (In (d me.decisions).revoked) S.revoked;
    }

    decided : (q : Decisions → ℕ) (G : Suite → Permission → Type 0)
        → Agrees s.slots q G → Agrees (amend i (slot_deciding d) s.slots) q (For i (In (q (d me.decisions))) G)
    decided q G agree j n t = go (same_suite j i) refl
      where
        go : (b : Bool) → same_suite j i ≡ b
            → cond b (In (q (d me.decisions))) (G j) ≡ In (q (find j (amend i (slot_deciding d) s.slots)).decisions)
        go true e =
            ap (λ x. In (q x.decisions)) (sym (find_deciding d i s.slots (there k)))
            ∙ ap (λ j. In (q (find j (amend i (slot_deciding d) s.slots)).decisions)) (sym (same_suite_lem j i e))
        go false e =
            agree j n (sym (carries_deciding d i j s.slots) ∙ t)
            ∙ ap (λ x. In (q x.decisions)) (sym (find_beside d i j (same_sym j i e) s.slots))

    session_refines : session_now ⊑ keep session d s
    session_refines = record { suite = h.suite; session = refl; granted = h.granted; revoked = h.revoked }

    kept_refines : kept_now ⊑ keep blanket d s
    kept_refines = record {
      suite = h.suite ∙ sym (installed_deciding d i s.slots);
      session = h.session;
      granted = decided (λ t. t.granted) S.granted h.granted;
      revoked = decided (λ t. t.revoked) S.revoked h.revoked;
    }

  abbrev Entered : UserAnswer → Published.Response → Published.UserAnswer → Type 2
  Entered u r a = (S' : Published.State) × Pos pol S S' (some r) (Published.request p (some a)) × (S' ⊑ enter u p s)

  allowed_enters : (m : Mode) → Entered (Allow m) Published.allowed (ua-allow m)
  allowed_enters oneshot = (S, (refl, refl), h)
  allowed_enters session =
      let r = session_deciding (grant p) s.session in (
        session_now (grant p),
        (refl, (refl, refl, refl), for_session _ (info_of r, rw k.run, (refl, refl), entered _)),
        session_refines (grant p),
      )
  allowed_enters blanket = (
    kept_now (grant p),
    (refl, (refl, refl, stays_for S.revoked _ (revoked_is k)), for_session _ (entered_for_lem S.granted _ (granted_is k))),
    kept_refines (grant p),
  )

  denied_enters : (m : Mode) → Entered (Deny m) Published.denied (ua-deny m)
  denied_enters oneshot = (S, (refl, refl), h)
  denied_enters session =
      let r = session_deciding (revoke p) s.session in (
        session_now (revoke p),
        (refl, (refl, refl, refl), for_session _ (info_of r, rw k.run, (refl, refl), entered _)),
        session_refines (revoke p),
      )
  denied_enters blanket = (
    kept_now (revoke p),
    (refl, (refl, refl, stays_for S.granted _ (granted_is k)), for_session _ (entered_for_lem S.revoked _ (revoked_is k))),
    kept_refines (revoke p),
  )

  -- ---- Figures 2.3 and 2.4: the user answers

  abbrev Asked : SessionInfo → Published.Suite → Type 0
  Asked ses ms = Published.Declared ms p × Published.Undecided S ses p × Published.Asked pol ms p

  abbrev Within : Mode → SessionInfo → Published.Suite → Type 0
  Within m ses ms =
      Published.Declared ms p × Published.Undecided S ses p × Published.Asked pol ms p
      × ((m' : Mode) → pol.user ms.domain p m' → Published.◌≤m◌ m m')

  -- an answer that the decision takes
  takes : {u : UserAnswer} → Taken (declared me p) c (w k p is) u → Asked (info_of s.session) (suite_of me)
  takes t = (declares p is me t.declared, undecided k p is t.nothing, asks c oneshot t.asked)

  within : (m : Mode) → Taken (declared me p) c (w k p is) (Allow m) → Within m (info_of s.session) (suite_of me)
  within m t =
      let (dec, un, a) = takes t in
      (dec, un, a, λ m' e. leb-true (width m) (width m') (rw e at (not-false (admits c m) t.fits)))

  -- one that the paper takes
  settled_so : (u : UserAnswer) → Asked (info_of s.session) (suite_of me) → too_wide c u ≡ false → verdict u ≡ settled c Nothing u
  settled_so u (dec, un, a) t = rw (is_declared p me dec, nothing k p is un) (settles c a u t)

  allowed : (m : Mode) → Within m (info_of s.session) (suite_of me) → verdict (Allow m) ≡ ALLOWED
  allowed m (dec, un, (m', e), le) =
      settled_so (Allow m) (dec, un, (m', e)) (rw (e, le-leb (width m) (width m') (le m' e)))

  -- the decision takes an answer exactly where the paper does
  answer_follows : (u : UserAnswer) (n : Response) (e : Published.Event) → event_of (Request p u) ≡ some e
      → given u ≡ true → refused n ≡ false
      → (Taken (declared me p) c (w k p is) u → Pre pol S e) → (Pre pol S e → verdict u ≡ n)
      → (S' : Published.State) × Pos pol S S' (response_of n) e × (S' ⊑ enter u p s)
      → Simulated f S s (Request p u) (request s p u (verdict u))
  unfolding request
  answer_follows u n e is-it g low to from (S', q, t) =
      cases (Simulated f S s (Request p u)) (refused (verdict u))
      (λ r. (
        S,
        published e is-it (subst (λ t. Exec pol S e t S) (sym (no_response (verdict u) r))
            (npre (λ a. false≢true (sym low ∙ ap refused (sym (from a)) ∙ r)))),
        h,
      ))
      (λ r. let a = to (taken (declared me p) c (w k p is) u g r) in (S', published e is-it (pre a (rw (from a) q)), t))

  running_follows : (u : UserAnswer) → Simulated f S s (Request p u) (request s p u (judged f s.session me p u))
  unfolding judged request
  running_follows None = cases (Simulated f S s (Request p None)) (refused (verdict None)) (λ _. none_follows) (λ _. none_follows)
  running_follows (Allow m) =
      answer_follows (Allow m) ALLOWED (Published.request p (some (ua-allow m))) refl refl refl
      (λ t. runs_me k (Within m) (within m t)) (λ a. allowed m (me_runs k (Within m) a)) (allowed_enters m)
  running_follows (Deny m) =
      answer_follows (Deny m) DENIED (Published.request p (some (ua-deny m))) refl refl refl
      (λ t. runs_me k Asked (takes t)) (λ a. settled_so (Deny m) (me_runs k Asked a) refl) (denied_enters m)

-- ---- a request

module _ (f : Fixed) (s : State) (v : valid f s ≡ true) (S : Published.State) (h : S ⊑ s) (p : Permission) where
  idle : same_suite s.session.suite no_suite ≡ true → (u : UserAnswer) → ¬ Pre (policy_of f) S (Published.request p (answer_of u))
  idle n None (ses, e, _) = some_ne_none (sym e ∙ nothing_runs h n)
  idle n (Allow m) (ses, e, _) = some_ne_none (sym e ∙ nothing_runs h n)
  idle n (Deny m) (ses, e, _) = some_ne_none (sym e ∙ nothing_runs h n)

  pub request_follows : is_permission p ≡ true → (u : UserAnswer) → Simulated f S s (Request p u) (step f s (Request p u))
  unfolding step
  request_follows is u =
      cases (Simulated f S s (Request p u)) (not (in_session s))
      (λ n. (S, published (Published.request p (answer_of u)) refl (npre (idle (not-false _ (not-true _ n)) u)), h))
      (λ n. running_follows (record { valid_state = v; refines = h; run = not-true _ (not-false _ n) }) p is u)
