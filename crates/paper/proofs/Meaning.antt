-- A state that the monitor calls valid is valid in the papers' words: 000, 3.2, and 004, 2.3.1. Assumes nothing.
use Prim.Native.Nat.{ℕ}
use mathlib.Core.Path.{◌≡◌, refl, sym, ap, ◌∙◌, subst}
use mathlib.Core.Logic.{◌⊎◌, inl, inr}
use mathlib.Core.List.{[]}
use mathlib.Core.Option.{some}
use mathlib.Core.Bool.{true, false, or-true}
use borrow.Author.Tests.{ltb-true}
use Rattle.std.specs.Prelude.{Some}
use Rattle.device.specs.declared.Suite.{Suite}
use Rattle.device.specs.declared.Permission.{Permission}
use Rattle.device.specs.declared.Mode.{Mode}
use Rattle.device.specs.declared.Mode.TheVariants.{Oneshot as oneshot, Session as session, Blanket as blanket}
use Rattle.device.specs.declared.Slot.{Slot}
use Rattle.device.specs.Device.{is_permission, is_suite, is_domain, is_set, no_suite, same_suite, has}
use Rattle.model.specs.Policy.{Fixed}
use Rattle.device.specs.Cells.{offered, highest, admits}
use Rattle.model.specs.State.{State, find}
use Rattle.model.specs.Valid.{◌⇒◌, decides, installable, slot_sound, valid}
use Rattle.model.specs.Step.{running_slot}
use Rattle.model.proofs.Tests.{both, all_three, every_at}
use Rattle.model.proofs.Slots.{find_suite}
use Rattle.model.proofs.ValidSlots.{find_sound}
use Rattle.model.proofs.Kept.{holds}
use Rattle.paper.specs.Published
use Rattle.paper.specs.Published.{SessionInfo, Declared, Asked, Valid, Coherent, ◌≀◌, ◌≤m◌}
use Rattle.paper.specs.Refinement.{In, policy_of, descriptor_of, suite_of, info_of, session_of, Installed, state_of}
use Rattle.paper.proofs.Invariants.{widest}
use Rattle.paper.proofs.Cells.{admitted, offers}
use Rattle.paper.proofs.Decided.{out, declares, kept_fit, now_fit, now_beside}
use Rattle.paper.proofs.Refined.{the_session}
use Rattle.paper.proofs.Running.{Running, there, my_suite, for_me}
use Rattle.paper.proofs.Simulation.{refined}

-- a cell that takes a blanket consent
blanket_mode : (c : ℕ) → admits c blanket ≡ true → highest c ≡ Some blanket
blanket_mode c k = let (m, e, le) = admitted c blanket k in e ∙ ap Some (widest m le)

-- a slot that is sound
sound_offers : (f : Fixed) (x : Slot) → same_suite x.suite no_suite ≡ false → slot_sound f x ≡ true
    → ◌≀◌ (policy_of f) (descriptor_of x.descriptor) x.domain
unfolding slot_sound installable
sound_offers f x n k p r =
    let (_, _, sets) = all_three (is_suite x.suite) (is_domain x.domain) _ (rw n at k) in
    let (_, _, all) = all_three (is_set x.descriptor.required) (is_set x.descriptor.optional) _ sets in
    let (is, req) = both (is_permission p) (has x.descriptor.required p) r in
    offers (f.cell x.domain p) (rw req at (every_at
    (λ q. has x.descriptor.required q ⇒ offered (f.cell x.domain q)) all p (ltb-true p.0 64 is)))

module _ (f : Fixed) (s : State) (v : valid f s ≡ true) where
  abbrev pol : Published.Policy
  pol = policy_of f

  abbrev slot : Suite → Slot
  slot i = find i s.slots

  is_permission_lem : (g : ℕ) (p : Permission) → In g p → is_permission p ≡ true
  is_permission_lem g p k = (both (is_permission p) (has g p) k).0

  -- ---- blanket decisions, of any suite

  module _ (i : Suite) (p : Permission) where
    kept_granted : In (slot i).decisions.granted p
        → Declared (suite_of (slot i)) p × pol.user (slot i).domain p blanket × (¬ In (slot i).decisions.revoked p)
    kept_granted k =
        let is = is_permission_lem (slot i).decisions.granted p k in
        let fits = kept_fit f s v p is i in
        let e = out p (slot i).decisions.granted k in
        let (dec, wide) = fits.granted e in (
          declares p is (slot i) dec,
          blanket_mode (f.cell (slot i).domain p) wide,
          λ r. fits.apart e (out p (slot i).decisions.revoked r),
        )

    kept_revoked : In (slot i).decisions.revoked p → Asked pol (suite_of (slot i)) p
    kept_revoked k =
        let is = is_permission_lem (slot i).decisions.revoked p k in
        let (_, once) = (kept_fit f s v p is i).revoked (out p (slot i).decisions.revoked k) in
        let (m, e, _) = admitted (f.cell (slot i).domain p) oneshot once in
        (m, e)

  -- ---- session decisions

  module _ (p : Permission) where
    abbrev me : Slot
    me = running_slot s

    abbrev Apart : Type 0
    Apart = (¬ In me.decisions.granted p) × (¬ In me.decisions.revoked p)

    beside : is_permission p ≡ true → decides s.session.decisions p ≡ true → Apart
    beside is e = (
      λ k. now_beside f s v p is e (rw (out p me.decisions.granted k)),
      λ k. now_beside f s v p is e (rw (out p me.decisions.revoked k, or-true)),
    )

    now_granted : In s.session.decisions.granted p
        → Declared (suite_of me) p × ((m : Mode) × pol.user me.domain p m × (session ≤m m))
        × (¬ In s.session.decisions.revoked p) × Apart
    now_granted k =
        let is = is_permission_lem s.session.decisions.granted p k in
        let fits = now_fit f s v p is in
        let e = out p s.session.decisions.granted k in
        let (dec, wide) = fits.granted e in (
          declares p is me dec,
          admitted (f.cell me.domain p) session wide,
          λ r. fits.apart e (out p s.session.decisions.revoked r),
          beside is (rw e),
        )

    now_revoked : In s.session.decisions.revoked p → Asked pol (suite_of me) p × Apart
    now_revoked k =
        let is = is_permission_lem s.session.decisions.revoked p k in
        let e = out p s.session.decisions.revoked k in
        let (_, once) = (now_fit f s v p is).revoked e in
        let (m, u, _) = admitted (f.cell me.domain p) oneshot once in
        ((m, u), beside is (rw (e, or-true)))

  -- ---- the conditions

  runs : (ses : SessionInfo) → session_of s.session ≡ some ses → Running f s (state_of s)
  runs ses e = record { valid_state = v; refines = refined s; run = (the_session s.session ses e).0 }

  for_mine : (Q : SessionInfo → Published.Suite → Type 0) → Q (info_of s.session) (suite_of (running_slot s))
      → (ses : SessionInfo) (ms : Published.Suite) → session_of s.session ≡ some ses → Installed s.slots ms
      → ms.id ≡ ses.id → Q ses ms
  for_mine Q q ses ms e = for_me (runs ses e) Q q ses ms e

  for_slot : (Q : Published.Suite → Type 0) (ms : Published.Suite) (i : Suite) → Installed s.slots ms → ms.id ≡ i
      → Q (suite_of (slot i)) → Q ms
  for_slot Q ms i m e q = subst Q (sym (m.2 ∙ ap (λ j. suite_of (slot j)) e)) q

  pub valid_published : Valid pol (state_of s)
  valid_published = record {
    SuiteCompatible = λ ms m. for_slot (λ t. ◌≀◌ pol t.descriptor t.domain) ms ms.id m refl
        (sound_offers f (slot ms.id) (rw (find_suite ms.id s.slots m.1) m.0)
        (find_sound f ms.id [] s.slots (holds f s v).slots));
    CurrentInstalled = λ ses e.
        let k = runs ses e in (
          suite_of (running_slot s),
          my_suite k,
          find_suite s.session.suite s.slots (there k) ∙ (λ j. ((the_session s.session ses e).1 j).id),
        );
    ValidSessionGranted = λ ses e p g ms m n.
        for_mine (λ ses ms. ses.granted p → Declared ms p × ((m : Mode) × pol.user ms.domain p m × (session ≤m m)))
        (λ k. let t = now_granted p k in (t.0, t.1)) ses ms e m n g;
    UniqueSuiteId = λ ms₁ ms₂ m₁ m₂ e. m₁.2 ∙ ap (λ j. suite_of (slot j)) e ∙ sym m₂.2;
    ValidGranted = λ p i g ms m e. let t = kept_granted i p g in
        for_slot (λ ms. Declared ms p × pol.user ms.domain p blanket) ms i m e (t.0, t.1);
    ValidGrantedRevoked = (
      λ i p g. (kept_granted i p g).2,
      λ ses e p. subst (λ (x : SessionInfo). x.granted p → ¬ x.revoked p) (the_session s.session ses e).1
          (λ g. (now_granted p g).2),
    );
  }

  pub coherent_published : Coherent pol (state_of s)
  coherent_published = record {
    perm_state_coherence = λ ses e p. subst
        (λ (x : SessionInfo). x.granted p ⊎ x.revoked p → (¬ (state_of s).granted x.id p) × (¬ (state_of s).revoked x.id p))
        (the_session s.session ses e).1 (decided p);
    policy_compatible = λ ms m p _ n. (
      λ k. n (for_slot (λ t. Asked pol t p) ms ms.id m refl (blanket, (kept_granted ms.id p k).1)),
      λ k. n (for_slot (λ t. Asked pol t p) ms ms.id m refl (kept_revoked ms.id p k)),
      λ ses e i. for_mine (λ ses ms. ¬ Asked pol ms p → (¬ ses.granted p) × (¬ ses.revoked p))
          (λ n. (λ k. let t = (now_granted p k).1 in n (t.0, t.1), λ k. n (now_revoked p k).0)) ses ms e m i n,
    );
  }
    where
      decided : (p : Permission) → In s.session.decisions.granted p ⊎ In s.session.decisions.revoked p → Apart p
      decided p (inl k) = (now_granted p k).3
      decided p (inr k) = (now_revoked p k).1
