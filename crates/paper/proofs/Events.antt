-- (39) for install, remove, start and terminate. Assumes nothing.
use mathlib.Core.Path.{◌≡◌, refl, sym, ap, ◌∙◌, transport, transport⁻¹}
use mathlib.Core.Logic.{◌⊎◌, inl, inr, ◌≢◌}
use mathlib.Core.List.{List, []}
use mathlib.Core.Option.{none, some}
use mathlib.Core.Bool.{Bool, true, false, not, ◌&&◌, cond, false≢true, true≢false}
use borrow.Author.Tests.{eqb-false, ltb-true, not-true, not-false}
use Rattle.words.proofs.Search.{first_from_passes}
use Prim.Native.Nat.{ℕ}
use Rattle.device.specs.declared.Suite.{Suite}
use Rattle.device.specs.declared.Permission.{Permission}
use Rattle.device.specs.declared.Domain.{Domain}
use Rattle.device.specs.declared.Descriptor.{Descriptor}
use Rattle.device.specs.declared.Decisions.{Decisions}
use Rattle.device.specs.declared.Slot.{Slot}
use Rattle.device.specs.declared.Session.{Session}
use Rattle.device.specs.declared.Event.TheVariants.{Install, Remove, Start, Terminate}
use Rattle.device.specs.Device.{is_permission, no_suite, same_suite, has, lowest}
use Rattle.model.specs.Policy.{Fixed}
use Rattle.device.specs.Cells.{offered}
use Rattle.model.specs.State.{State, carries, find, amend}
use Rattle.device.specs.Empty.{undecided, free}
use Rattle.model.specs.Valid.{valid}
use Rattle.model.specs.Step.{Outcome, in_session, lacking, installed, step}
use Rattle.model.proofs.Tests.{both, cases, same_sym}
use Rattle.model.proofs.Slots.{same_suite_lem}
use Rattle.model.proofs.Kept.{holds, none_lacking}
use Rattle.paper.specs.Published
use Rattle.paper.specs.Published.{SessionInfo, start, terminate, install, remove, npre, pre, Pre, ◌≀◌}
use Rattle.paper.specs.Refinement.{In, policy_of, descriptor_of, suite_of, info_of, session_of, Installed, Agrees, ◌⊑◌}
use Rattle.paper.specs.Refinement.{full, published, departs, Simulated}
use Rattle.paper.proofs.Suites.{put_there, find_new, freed, installed_put, put_agrees}
use Rattle.paper.proofs.Refined.{not_in_none, some_ne_none, the_session, For, same_refl, not_same, for_other}
use Rattle.paper.proofs.Refined.{nothing_runs, one_runs, is_suite_lem, as_slot, some_suite, no_suite_lem}
use Rattle.paper.proofs.Cells.{offers, offered_so}

-- ---- what install asks

module _ (f : Fixed) (x : Descriptor) (d : Domain) where
  lacks : is_permission (lacking f x d) ≡ true → ¬ ◌≀◌ (policy_of f) (descriptor_of x) d
  unfolding lacking lowest
  lacks is k =
      let p = lacking f x d in
      let (req, closed) = both (has x.required p) (not (offered (f.cell d p)))
      (first_from_passes (λ n. has x.required (record { 0 = n }) && not (offered (f.cell d (record { 0 = n })))) 64 0
      (ltb-true p.0 64 is)) in
      true≢false (sym (offered_so (f.cell d p) (k p (rw (is, req)))) ∙ not-true _ closed)

  compatible : is_permission (lacking f x d) ≡ false → ◌≀◌ (policy_of f) (descriptor_of x) d
  compatible n p k =
      let (is, req) = both (is_permission p) (has x.required p) k in
      offers (f.cell d p) (rw req at (none_lacking f x d n p (ltb-true p.0 64 is)))

  pub may_install : {S : Published.State} {s : State} → S ⊑ s → (i : Suite) → carries i s.slots ≡ false
      → is_permission (lacking f x d) ≡ false → Pre (policy_of f) S (install i (descriptor_of x) d)
  may_install h i new offered = (compatible offered, no_suite_lem h i new)

module _ (f : Fixed) (s : State) (v : valid f s ≡ true) (S : Published.State) (h : S ⊑ s) where
  -- ---- start and terminate

  pub start_follows : (i : Suite) → same_suite i no_suite ≡ false → Simulated f S s (Start i) (step f s (Start i))
  unfolding step
  start_follows i n =
      cases M (in_session s)
      (λ busy. (S, published (start i) refl (npre (λ k. some_ne_none (sym (one_runs h (not-true _ busy)) ∙ k.0))), h))
      (λ idle. cases M (not (carries i s.slots))
      (λ gone. (S, published (start i) refl (npre (λ k. no_suite_lem h i (not-true _ gone) k.1.0 k.1.1 k.1.2)), h))
      (λ there. (
        record { suite = S.suite; session = session_of begun; granted = S.granted; revoked = S.revoked },
        published (start i) refl (pre (nothing_runs h (not-false _ idle), some_suite h i n (not-false _ there))
            (refl, (refl, refl, refl), (info_of begun, rw n, refl, λ p. (not_in_none p, not_in_none p)))),
        record { suite = h.suite; session = refl; granted = h.granted; revoked = h.revoked },
      )))
    where
      M : Outcome → Type 2
      M = Simulated f S s (Start i)

      begun : Session
      begun = record { suite = i; decisions = undecided }

  pub terminate_follows : Simulated f S s Terminate (step f s Terminate)
  unfolding step
  terminate_follows =
      cases (Simulated f S s Terminate) (not (in_session s))
      (λ idle. (S, published terminate refl (npre (λ k. k (nothing_runs h (not-false _ (not-true _ idle))))), h))
      (λ runs. (
        record { suite = S.suite; session = none; granted = S.granted; revoked = S.revoked },
        published terminate refl (pre (λ k. some_ne_none (sym (one_runs h (not-true _ (not-false _ runs))) ∙ k))
            (refl, (refl, refl, refl), refl)),
        record { suite = h.suite; session = refl; granted = h.granted; revoked = h.revoked },
      ))

  -- ---- install

  module _ (i : Suite) (x : Descriptor) (d : Domain) where
    abbrev y : Slot
    y = installed i x d

    abbrev with_it : List Slot
    with_it = amend no_suite (λ _. y) s.slots

    module _ (n : same_suite i no_suite ≡ false) (new : carries i s.slots ≡ false) (room : carries no_suite s.slots ≡ true) where
      found : find i with_it ≡ y
      found = find_new no_suite y s.slots room new

      beside : (ms : Published.Suite) → same_suite ms.id no_suite ≡ false → same_suite ms.id i ≡ false
          → Installed with_it ms ≡ Installed s.slots ms
      beside ms z m = installed_put no_suite y s.slots ms (same_sym ms.id no_suite z) (same_sym ms.id i m)

      stay : (ms : Published.Suite) → S.suite ms → Installed with_it ms
      stay ms k =
          let t = as_slot h k in
          transport⁻¹ (beside ms t.0 (not_same ms.id i (no_suite_lem h i new ms k))) t

      only : (ms : Published.Suite) → Installed with_it ms → S.suite ms ⊎ (ms ≡ suite_of y)
      only ms k = go (same_suite ms.id i) refl
        where
          go : (b : Bool) → same_suite ms.id i ≡ b → S.suite ms ⊎ (ms ≡ suite_of y)
          go true e = inr (k.2 ∙ ap (λ j. suite_of (find j with_it)) (same_suite_lem ms.id i e) ∙ ap suite_of found)
          go false e = inl (is_suite_lem h (transport (beside ms k.0 e) k))

      -- of the new suite nothing is decided, of the others what was
      decided : (q : Decisions → ℕ) (F : Suite → Permission → Type 0) → q undecided ≡ 0 → Agrees s.slots q F
          → Agrees with_it q (For i (In 0) F)
      decided q F zero agree j z k = go (same_suite j i) refl
        where
          go : (b : Bool) → same_suite j i ≡ b → cond b (In 0) (F j) ≡ In (q (find j with_it).decisions)
          go true e =
              ap In (sym zero) ∙ ap (λ t. In (q t.decisions)) (sym found)
              ∙ ap (λ j. In (q (find j with_it).decisions)) (sym (same_suite_lem j i e))
          go false e = put_agrees no_suite y s.slots q F agree j (same_sym j no_suite z) (same_sym j i e) z k

    pub install_follows : same_suite i no_suite ≡ false → Simulated f S s (Install i x d) (step f s (Install i x d))
    unfolding step
    install_follows n =
        cases M (carries i s.slots)
        (λ there. let (ms, is, m) = some_suite h i n there in (S, published e refl (npre (λ k. k.1 ms is m)), h))
        (λ new. cases M (is_permission (lacking f x d))
        (λ closed. (S, published e refl (npre (λ k. lacks f x d closed k.0)), h))
        (λ offered. cases M (not (carries no_suite s.slots))
        (λ none. (S, departs (full (not-true _ none)), h))
        (λ r. let room = not-false _ r in (
          record {
            suite = Installed with_it;
            session = S.session;
            granted = For i (In 0) S.granted;
            revoked = For i (In 0) S.revoked;
          },
          published e refl (pre (may_install f x d h i new offered) (record {
            lower = (
              refl,
              stay n new room,
              only n new room,
              (n, put_there no_suite y s.slots room, ap suite_of (sym (found n new room))),
              refl,
              λ p. rw (same_refl i) (not_in_none p, not_in_none p),
              λ j m. (for_other i j (In 0) S.granted m, for_other i j (In 0) S.revoked m),
            );
          })),
          record {
            suite = refl;
            session = h.session;
            granted = decided n new room (λ t. t.granted) S.granted refl h.granted;
            revoked = decided n new room (λ t. t.revoked) S.revoked refl h.revoked;
          },
        ))))
      where
        M : Outcome → Type 2
        M = Simulated f S s (Install i x d)

        e : Published.Event
        e = install i (descriptor_of x) d

  -- ---- remove

  module _ (i : Suite) (n : same_suite i no_suite ≡ false) where
    abbrev without : List Slot
    without = amend i (λ _. free) s.slots

    left : (ms : Published.Suite) → same_suite ms.id no_suite ≡ false → ms.id ≢ i → Installed without ms ≡ Installed s.slots ms
    left ms z m = installed_put i free s.slots ms (same_sym ms.id i (not_same ms.id i m)) (same_sym ms.id no_suite z)

    another : (j : Suite) → carries j without ≡ true → j ≢ i
    another j k e = false≢true (sym (freed f i n [] s.slots (holds f s v).slots) ∙ ap (λ t. carries t without) (sym e) ∙ k)

    remains : (q : Decisions → ℕ) (F : Suite → Permission → Type 0) → Agrees s.slots q F → Agrees without q F
    remains q F agree j z k =
        put_agrees i free s.slots q F agree j (same_sym j i (not_same j i (another j k))) (same_sym j no_suite z) z k

    pub remove_follows : Simulated f S s (Remove i) (step f s (Remove i))
    unfolding step
    remove_follows =
        cases M (not (carries i s.slots))
        (λ gone. (S, published (remove i) refl (npre (λ k. no_suite_lem h i (not-true _ gone) k.1.0 k.1.1 k.1.2)), h))
        (λ there. cases M (same_suite s.session.suite i)
        (λ active.
        let e = same_suite_lem s.session.suite i active in
        (S, published (remove i) refl (npre (λ k. k.0 (info_of s.session) (one_runs h (rw e n)) e)), h))
        (λ other. (
          record { suite = Installed without; session = S.session; granted = S.granted; revoked = S.revoked },
          published (remove i) refl (pre (not_it other, some_suite h i n (not-false _ there)) (record {
            lower = (
              refl,
              (refl, refl, refl),
              λ ms k m. let t = as_slot h k in transport⁻¹ (left ms t.0 m) t,
              λ ms k. let m = another ms.id k.1 in (is_suite_lem h (transport (left ms k.0 m) k), m),
            );
          })),
          record {
            suite = refl;
            session = h.session;
            granted = remains (λ t. t.granted) S.granted h.granted;
            revoked = remains (λ t. t.revoked) S.revoked h.revoked;
          },
        )))
      where
        M : Outcome → Type 2
        M = Simulated f S s (Remove i)

        not_it : same_suite s.session.suite i ≡ false → (ses : SessionInfo) → S.session ≡ some ses → ses.id ≢ i
        not_it other ses e k =
            let own = (the_session s.session ses (sym h.session ∙ e)).1 in
            eqb-false s.session.suite.0 i.0 other ((λ j. (own j).id.0) ∙ (λ j. (k j).0))
