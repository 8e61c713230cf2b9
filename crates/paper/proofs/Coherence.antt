-- Document 004's Lemmas 2.3.1 and 2.3.2, of the paper's own relation. There Coherent is a part of Valid. Assumes nothing.
use mathlib.Core.Path.{◌≡◌, refl, sym, ◌∙◌, subst, subst⁻¹}
use mathlib.Core.Logic.{◌⊎◌, inl, inr, ⊎_elim}
use mathlib.Core.Option.{Option, none, some, some-ne-none}
use Rattle.device.specs.declared.Suite.{Suite as SuiteId}
use Rattle.device.specs.declared.Permission.{Permission}
use Rattle.device.specs.declared.Domain.{Domain}
use Rattle.device.specs.declared.Mode.TheVariants.{Oneshot as oneshot, Session as session, Blanket as blanket}
use Rattle.paper.specs.Published.{Descriptor, Suite, Policy, SessionInfo, State, Undecided, Asked}
use Rattle.paper.specs.Published.{Valid, Coherent, OneStands, NoneStands}
use Rattle.paper.specs.Published.{ua-allow, ua-deny, Response, Event, start, terminate, request, install, remove}
use Rattle.paper.specs.Published.{◌≡session◌, Runs, Pre, Pos, Exec, npre, pre}
use Rattle.paper.proofs.Changes.{entered, entered_for, cleared, only, but_granted, but_revoked, running, not_running}
use Rattle.paper.proofs.Changes.{answering, at}
use Rattle.paper.proofs.Invariants.{theorem_1}

module _ (pol : Policy) where
  -- the policy says something of p to the suite with this number
  abbrev Mentioned : State → SuiteId → Permission → Type 1
  Mentioned s id p = (ms : Suite) → s.suite ms → ms.id ≡ id → ¬ pol.allow ms.domain p → ¬ ¬ Asked pol ms p

  -- what a coherent state asks of a permission that is decided for the session, and of one that is decided for good
  abbrev FitsSession : State → SuiteId → Permission → Type 1
  FitsSession s id p = (¬ s.granted id p) × (¬ s.revoked id p) × Mentioned s id p

  abbrev FitsSuite : State → SuiteId → Permission → Type 1
  FitsSuite s id p =
      ((ses : SessionInfo) → s.session ≡ some ses → ses.id ≡ id → ¬ (ses.granted p ⊎ ses.revoked p)) × Mentioned s id p

  abbrev Fitting : State → SessionInfo → Type 1
  Fitting s ses = (p : Permission) → ses.granted p ⊎ ses.revoked p → FitsSession s ses.id p

  module _ {s : State} (v : Valid pol s) (c : Coherent pol s) where
    its_session : (ses : SessionInfo) → s.session ≡ some ses → Fitting s ses
    its_session ses e p d =
        let (g, y) = c.perm_state_coherence ses e p d in
        (g, y, λ ms i n a b. let k = (c.policy_compatible ms i p a b).2 ses e n in ⊎_elim k.0 k.1 d)

    granted_fits : (id : SuiteId) (p : Permission) → s.granted id p → FitsSuite s id p
    granted_fits id p g = (
      λ ses e n d. (c.perm_state_coherence ses e p d).0 (subst⁻¹ (λ j. s.granted j p) n g),
      λ ms i n a b. (c.policy_compatible ms i p a b).0 (subst⁻¹ (λ j. s.granted j p) n g),
    )

    revoked_fits : (id : SuiteId) (p : Permission) → s.revoked id p → FitsSuite s id p
    revoked_fits id p y = (
      λ ses e n d. (c.perm_state_coherence ses e p d).1 (subst⁻¹ (λ j. s.revoked j p) n y),
      λ ms i n a b. (c.policy_compatible ms i p a b).1 (subst⁻¹ (λ j. s.revoked j p) n y),
    )

    -- what is answered now fits
    newly : {p : Permission} (h : Runs s (λ ses ms. Undecided s ses p × Asked pol ms p))
        → FitsSession s h.0.id p × FitsSuite s h.0.id p
    newly {p} h =
        let (g, y, G, Y) = (running s v.CurrentInstalled h).0 in
        let mentioned : Mentioned s h.0.id p = λ ms i n a b. b (h.2 ms i n).1 in
        ((G, Y, mentioned), (λ ses e _. only (λ x. ¬ (x.granted p ⊎ x.revoked p)) h.1 (⊎_elim g y) ses e, mentioned))

    coherent_session : {s' : State} → s ≡session s' → ((ses : SessionInfo) → s'.session ≡ some ses → Fitting s ses)
        → Coherent pol s'
    coherent_session {s'} q fits = subst (Coherent pol) (λ i. at (q.0 i) s'.session (q.1 i) (q.2 i)) (record {
      perm_state_coherence = λ ses e p d. let (g, y, _) = fits ses e p d in (g, y);
      policy_compatible = λ ms i p a b.
          let (g, y, _) = c.policy_compatible ms i p a b in
          (g, y, λ ses e n. (λ d. (fits ses e p (inl d)).2 ms i n a b, λ d. (fits ses e p (inr d)).2 ms i n a b));
    })

    coherent_suite : {G R : SuiteId → Permission → Type 0} → ((id : SuiteId) (p : Permission) → G id p → FitsSuite s id p)
        → ((id : SuiteId) (p : Permission) → R id p → FitsSuite s id p) → Coherent pol (at s.suite s.session G R)
    coherent_suite granted revoked = record {
      perm_state_coherence = λ ses e p d. (
        λ g. (granted ses.id p g).0 ses e refl d,
        λ y. (revoked ses.id p y).0 ses e refl d,
      );
      policy_compatible = λ ms i p a b. (
        λ g. (granted ms.id p g).1 ms i refl a b,
        λ y. (revoked ms.id p y).1 ms i refl a b,
        (c.policy_compatible ms i p a b).2,
      );
    }

    coherent_install : (s' : State) (r : Option Response) (id : SuiteId) (des : Descriptor) (dom : Domain)
        → Pre pol s (install id des dom) → Pos pol s s' r (install id des dom) → Coherent pol s'
    coherent_install s' r id des dom (_, new) q =
        let (_, _, from, _, same, clear, rest) = q.lower in
        let granted = cleared {F = s.granted} (λ p. (clear p).0) (λ j n. (rest j n).0) in
        let revoked = cleared {F = s.revoked} (λ p. (clear p).1) (λ j n. (rest j n).1) in
        subst⁻¹ (λ o. Coherent pol (at s'.suite o s'.granted s'.revoked)) same (record {
          perm_state_coherence = λ ses e p d.
              let (g, y) = c.perm_state_coherence ses e p d in
              (λ k. g (granted ses.id p k).0, λ k. y (revoked ses.id p k).0);
          policy_compatible = λ ms i p a b. elim (from ms i) [
            | inl k ↦
                let (g, y, d) = c.policy_compatible ms k p a b in
                (λ k. g (granted ms.id p k).0, λ k. y (revoked ms.id p k).0, d)
            | inr w ↦ (
              λ k. (granted ms.id p k).1 (λ j. (w j).id),
              λ k. (revoked ms.id p k).1 (λ j. (w j).id),
              λ ses e n. absurd (not_running s v.CurrentInstalled new ses e (sym n ∙ (λ j. (w j).id))),
            )
          ];
        })

    coherent_after : (s' : State) (r : Option Response) (e : Event) → Pre pol s e → Pos pol s s' r e → Coherent pol s'
    coherent_after s' r (start id) h (_, stay, (ses', is, _, clear)) =
        coherent_session stay (only (Fitting s) is (λ p. ⊎_elim (λ g. absurd ((clear p).0 g)) (λ y. absurd ((clear p).1 y))))
    coherent_after s' r terminate h (_, stay, over) =
        coherent_session stay (λ ses e. absurd (some-ne-none ses (sym e ∙ over)))
    coherent_after s' r (install id des dom) h q = coherent_install s' r id des dom h q
    coherent_after s' r (remove id) h q = let (_, rest, _, from) = q.lower in
        subst (Coherent pol) (λ i. at s'.suite (rest.0 i) (rest.1 i) (rest.2 i)) (record {
          perm_state_coherence = c.perm_state_coherence;
          policy_compatible = λ ms i. c.policy_compatible ms (from ms i).0;
        })
    coherent_after s' r (request p none) h q = subst (Coherent pol) q.0 c
    coherent_after s' r (request p (some (ua-allow oneshot))) h q = subst (Coherent pol) q.1 c
    coherent_after s' r (request p (some (ua-deny oneshot))) h q = subst (Coherent pol) q.1 c
    coherent_after s' r (request p (some (ua-allow session))) h (_, rest, enters) =
        let h = answering pol s p (ua-allow session) h in
        let (ses', is, same, enters) = enters h.0 h.1 in
        let old = its_session h.0 h.1 in
        coherent_session rest (only (Fitting s) (but_granted h.0 is same) (λ p. ⊎_elim
        (entered (FitsSession s h.0.id) enters (newly h).0 (λ p g. old p (inl g)) p)
        (λ y. old p (inr y))))
    coherent_after s' r (request p (some (ua-deny session))) h (_, rest, enters) =
        let h = answering pol s p (ua-deny session) h in
        let (ses', is, same, enters) = enters h.0 h.1 in
        let old = its_session h.0 h.1 in
        coherent_session rest (only (Fitting s) (but_revoked h.0 is same) (λ p. ⊎_elim
        (λ g. old p (inl g))
        (entered (FitsSession s h.0.id) enters (newly h).0 (λ p y. old p (inr y)) p)))
    coherent_after s' r (request p (some (ua-allow blanket))) h (_, rest, enters) =
        let h = answering pol s p (ua-allow blanket) h in
        subst (Coherent pol) (λ i. at (rest.0 i) (rest.1 i) s'.granted (rest.2 i))
        (coherent_suite (entered_for (FitsSuite s) (enters h.0 h.1) (newly h).1 granted_fits) revoked_fits)
    coherent_after s' r (request p (some (ua-deny blanket))) h (_, rest, enters) =
        let h = answering pol s p (ua-deny blanket) h in
        subst (Coherent pol) (λ i. at (rest.0 i) (rest.1 i) (rest.2 i) s'.revoked)
        (coherent_suite granted_fits (entered_for (FitsSuite s) (enters h.0 h.1) (newly h).1 revoked_fits))

  pub coherent_kept : {s s' : State} {r : Option Response} {e : Event} → Valid pol s → Coherent pol s → Exec pol s e r s'
      → Coherent pol s'
  coherent_kept v c (npre n) = c
  coherent_kept {e = e} v c (pre {r = r} {s' = s'} h q) = coherent_after v c s' r e h q

  -- ---- the lemmas, of one state and of a step

  pub one_stands : {s : State} → Valid pol s → Coherent pol s → OneStands pol s
  one_stands {s} v c sid p ses e n =
      let (lasting, passing) = v.ValidGrantedRevoked in
      let off : ses.granted p ⊎ ses.revoked p → (¬ s.granted sid p) × (¬ s.revoked sid p) =
      rw n at (c.perm_state_coherence ses e p) in (
        λ g. (lasting sid p g, λ d. (off (inl d)).0 g, λ d. (off (inr d)).0 g),
        λ y. (λ g. lasting sid p g y, λ d. (off (inl d)).1 y, λ d. (off (inr d)).1 y),
        λ g. ((off (inl g)).0, (off (inl g)).1, passing ses e p g),
        λ y. ((off (inr y)).0, (off (inr y)).1, λ g. passing ses e p g y),
      )

  pub none_stands : {s : State} → Coherent pol s → NoneStands pol s
  none_stands c sid p ses e n ms i k (a, b) =
      let (g, y, d) = c.policy_compatible ms i p a b in
      (rw k at g, rw k at y, (d ses e (k ∙ sym n)).0, (d ses e (k ∙ sym n)).1)

  module _ {s s' : State} {r : Option Response} {e : Event} (v : Valid pol s) (c : Coherent pol s) (x : Exec pol s e r s') where
    pub lemma_2_3_1 : OneStands pol s'
    lemma_2_3_1 = one_stands (theorem_1 pol v x) (coherent_kept v c x)

    pub lemma_2_3_2 : NoneStands pol s'
    lemma_2_3_2 = none_stands (coherent_kept v c x)
