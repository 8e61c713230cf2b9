-- The paper's own theorems, of its own relation: Theorems 1 to 3 of document 000. They test the transcription. Assumes nothing.
use mathlib.Core.Path.{◌≡◌, refl, sym, ◌∙◌, subst, subst⁻¹, transport, transport⁻¹}
use mathlib.Core.Logic.{inl, inr, ◌≢◌}
use mathlib.Core.Option.{Option, none, some, some-ne-none}
use mathlib.Core.List.{List, [], ◌∷◌, ◌++◌}
use Prim.Native.Nat.{ℕ}
use native.Mathlib.Omega.{arith}
use Rattle.device.specs.declared.Suite.{Suite as SuiteId}
use Rattle.device.specs.declared.Permission.{Permission}
use Rattle.device.specs.declared.Domain.{Domain}
use Rattle.device.specs.declared.Mode.{Mode}
use Rattle.device.specs.declared.Mode.TheVariants.{Oneshot as oneshot, Session as session, Blanket as blanket}
use Rattle.paper.specs.Published.{Descriptor, Suite, Policy, SessionInfo, State, Declared, ◌≤m◌, ◌≀◌, Valid}
use Rattle.paper.specs.Published.{UserAnswer, ua-allow, ua-deny, Response, allowed, denied}
use Rattle.paper.specs.Published.{Event, start, terminate, request, install, remove, ◌≡session◌, Pre, Pos, Exec, npre, pre}
use Rattle.paper.specs.Published.{Step, PSession, psession_start, psession_app, Session, session_terminate, All}
use Rattle.paper.proofs.Changes.{entered, entered_for, grows, cleared, only, but_granted, but_revoked, Installed, Current}
use Rattle.paper.proofs.Changes.{running, not_running, answering, at}

pub widest : (m : Mode) → blanket ≤m m → m ≡ blanket
widest oneshot h = absurd (omega arith)
widest session h = absurd (omega arith)
widest blanket h = refl

allowed≢denied : {r : Option Response} → r ≡ some allowed → r ≢ some denied
allowed≢denied a d = let z : ◌≡◌ {A = ℕ} 0 1 = cc in omega arith

module _ (pol : Policy) where
  -- ---- Theorem 1

  -- (15) and (16) of one session, and that it has no permission both granted and revoked
  abbrev Sound : State → SessionInfo → Type 1
  Sound s ses =
      Installed s ses
      × ((p : Permission) → ses.granted p → (ms : Suite) → s.suite ms → ms.id ≡ ses.id
      → Declared ms p × ((m : Mode) × pol.user ms.domain p m × (session ≤m m)))
      × ((p : Permission) → ses.granted p → ¬ ses.revoked p)

  module _ {s : State} (v : Valid pol s) where
    its_session : (ses : SessionInfo) → s.session ≡ some ses → Sound s ses
    its_session ses e = (v.CurrentInstalled ses e, v.ValidSessionGranted ses e, v.ValidGrantedRevoked.1 ses e)

    -- the suites stay
    valid_with : {o : Option SessionInfo} {G R : SuiteId → Permission → Type 0}
        → ((ses : SessionInfo) → o ≡ some ses → Sound s ses)
        → ((id : SuiteId) (p : Permission) → G id p
        → (ms : Suite) → s.suite ms → ms.id ≡ id → Declared ms p × pol.user ms.domain p blanket)
        → ((id : SuiteId) (p : Permission) → G id p → ¬ R id p)
        → Valid pol (at s.suite o G R)
    valid_with sound fits apart = record {
      SuiteCompatible = v.SuiteCompatible;
      CurrentInstalled = λ ses e. (sound ses e).0;
      ValidSessionGranted = λ ses e. (sound ses e).1;
      UniqueSuiteId = v.UniqueSuiteId;
      ValidGranted = λ p id. fits id p;
      ValidGrantedRevoked = (apart, λ ses e. (sound ses e).2);
    }

    valid_session : {s' : State} → s ≡session s' → ((ses : SessionInfo) → s'.session ≡ some ses → Sound s ses) → Valid pol s'
    valid_session {s'} q sound =
        subst (Valid pol) (λ i. at (q.0 i) s'.session (q.1 i) (q.2 i))
        (valid_with sound (λ id p. v.ValidGranted p id) v.ValidGrantedRevoked.0)

    valid_install : (s' : State) (r : Option Response) (id : SuiteId) (des : Descriptor) (dom : Domain)
        → Pre pol s (install id des dom) → Pos pol s s' r (install id des dom) → Valid pol s'
    valid_install s' r id des dom (fits, new) q =
        let (_, stay, from, _, same, clear, rest) = q.lower in
        let granted = cleared {F = s.granted} (λ p. (clear p).0) (λ j n. (rest j n).0) in
        let revoked = cleared {F = s.revoked} (λ p. (clear p).1) (λ j n. (rest j n).1) in
        subst⁻¹ (λ o. Valid pol (at s'.suite o s'.granted s'.revoked)) same (record {
          SuiteCompatible = λ ms i. elim (from ms i) [
            | inl k ↦ v.SuiteCompatible ms k
            | inr w ↦ subst⁻¹ (λ (t : Suite). ◌≀◌ pol t.descriptor t.domain) w fits
          ];
          CurrentInstalled = λ ses e. let (ms, i, n) = v.CurrentInstalled ses e in (ms, stay ms i, n);
          ValidSessionGranted = λ ses e p g ms i n. elim (from ms i) [
            | inl k ↦ v.ValidSessionGranted ses e p g ms k n
            | inr w ↦ absurd (not_running s v.CurrentInstalled new ses e (sym n ∙ (λ j. (w j).id)))
          ];
          UniqueSuiteId = λ a b i j n. elim (from a i) [
            | inl k ↦ elim (from b j) [ inl l ↦ v.UniqueSuiteId a b k l n | inr w ↦ absurd (new a k (n ∙ (λ j. (w j).id))) ]
            | inr w ↦ elim (from b j) [ inl l ↦ absurd (new b l (sym n ∙ (λ j. (w j).id))) | inr y ↦ w ∙ sym y ]
          ];
          ValidGranted = λ p id g ms i n. elim (from ms i) [
            | inl k ↦ v.ValidGranted p id (granted id p g).0 ms k n
            | inr w ↦ absurd ((granted id p g).1 (sym n ∙ (λ j. (w j).id)))
          ];
          ValidGrantedRevoked = (
            λ id p g y. v.ValidGrantedRevoked.0 id p (granted id p g).0 (revoked id p y).0,
            v.ValidGrantedRevoked.1,
          );
        })

    valid_after : (s' : State) (r : Option Response) (e : Event) → Pre pol s e → Pos pol s s' r e → Valid pol s'
    valid_after s' r (start id) (_, (ms, i, n)) (_, stay, (ses', is, same, clear)) =
        valid_session stay (only (Sound s) is
        ((ms, i, n ∙ sym same), λ p g. absurd ((clear p).0 g), λ p g. absurd ((clear p).0 g)))
    valid_after s' r terminate h (_, stay, over) = valid_session stay (λ ses e. absurd (some-ne-none ses (sym e ∙ over)))
    valid_after s' r (install id des dom) h q = valid_install s' r id des dom h q
    valid_after s' r (remove id) (other, _) q = let (_, rest, stay, from) = q.lower in
        subst (Valid pol) (λ i. at s'.suite (rest.0 i) (rest.1 i) (rest.2 i)) (record {
          SuiteCompatible = λ ms i. v.SuiteCompatible ms (from ms i).0;
          CurrentInstalled = λ ses e.
              let (ms, i, n) = v.CurrentInstalled ses e in
              (ms, stay ms i (λ k. other ses e (sym n ∙ k)), n);
          ValidSessionGranted = λ ses e p g ms i. v.ValidSessionGranted ses e p g ms (from ms i).0;
          UniqueSuiteId = λ a b i j. v.UniqueSuiteId a b (from a i).0 (from b j).0;
          ValidGranted = λ p id g ms i. v.ValidGranted p id g ms (from ms i).0;
          ValidGrantedRevoked = v.ValidGrantedRevoked;
        })
    valid_after s' r (request p none) h q = subst (Valid pol) q.0 v
    valid_after s' r (request p (some (ua-allow oneshot))) h q = subst (Valid pol) q.1 v
    valid_after s' r (request p (some (ua-deny oneshot))) h q = subst (Valid pol) q.1 v
    valid_after s' r (request p (some (ua-allow session))) h q =
        let (ses', is, same, enters) = q.2 h.0 h.1 in
        let (installed, fits, apart) = its_session h.0 h.1 in
        valid_session q.1 (only (Sound s) (but_granted h.0 is same) (
          installed,
          entered (λ p. (ms : Suite) → s.suite ms → ms.id ≡ h.0.id → _) enters
              (λ ms i n. let (d, _, m, le) = h.2 ms i n in (d, (m.0, m.1, le m.0 m.1))) fits,
          entered (λ p. ¬ h.0.revoked p) enters (running s v.CurrentInstalled h).1.1 apart,
        ))
    valid_after s' r (request p (some (ua-deny session))) h q =
        let (ses', is, same, enters) = q.2 h.0 h.1 in
        let (installed, fits, apart) = its_session h.0 h.1 in
        valid_session q.1 (only (Sound s) (but_revoked h.0 is same) (
          installed,
          fits,
          λ p g y. entered (λ p. ¬ h.0.granted p) enters (running s v.CurrentInstalled h).1.0 (λ p y g. apart p g y) p y g,
        ))
    valid_after s' r (request p (some (ua-allow blanket))) h (_, rest, enters) =
        let enters = enters h.0 h.1 in
        subst (Valid pol) (λ i. at (rest.0 i) (rest.1 i) s'.granted (rest.2 i)) (valid_with its_session
        (entered_for (λ id p. (ms : Suite) → s.suite ms → ms.id ≡ id → Declared ms p × pol.user ms.domain p blanket) enters
        (λ ms i n.
        let (d, _, m, le) = h.2 ms i n in
        (d, subst (pol.user ms.domain p) (widest m.0 (le m.0 m.1)) m.1))
        (λ id p. v.ValidGranted p id))
        (entered_for (λ id p. ¬ s.revoked id p) enters (running s v.CurrentInstalled h).1.3 v.ValidGrantedRevoked.0))
    valid_after s' r (request p (some (ua-deny blanket))) h (_, rest, enters) =
        subst (Valid pol) (λ i. at (rest.0 i) (rest.1 i) (rest.2 i) s'.revoked) (valid_with its_session
        (λ id p. v.ValidGranted p id)
        (λ id p g y. entered_for (λ id p. ¬ s.granted id p) (enters h.0 h.1) (running s v.CurrentInstalled h).1.2
        (λ id p y g. v.ValidGrantedRevoked.0 id p g y) id p y g))

  pub theorem_1 : {s s' : State} {r : Option Response} {e : Event} → Valid pol s → Exec pol s e r s' → Valid pol s'
  theorem_1 v (npre n) = v
  theorem_1 {e = e} v (pre {r = r} {s' = s'} h q) = valid_after v s' r e h q

  -- ---- Theorem 2, and its like for a session

  pub theorem_2 : {s₀ : State} {ss : List Step} → Valid pol s₀ → PSession pol s₀ ss → All (λ step. Valid pol step.s) ss
  theorem_2 v (psession_start h x) = (theorem_1 v x, tt)
  theorem_2 v (psession_app p n x) = let t = theorem_2 v p in (theorem_1 t.0 x, t)

  pub session_valid_lem : {s₀ : State} {ss : List Step} → Valid pol s₀ → Session pol s₀ ss → All (λ step. Valid pol step.s) ss
  session_valid_lem v (session_terminate p x) = let t = theorem_2 v p in (theorem_1 t.0 x, t)

  -- ---- Lemma 1

  last_step : {s₀ : State} {x y : Step} {ss : List Step} → PSession pol s₀ (y ∷ x ∷ ss)
      → PSession pol s₀ (x ∷ ss) × (y.e ≢ terminate) × Exec pol x.s y.e y.r y.s
  last_step (psession_app p n x) = (p, n, x)

  earlier : {s₀ : State} {ss : List Step} {step : Step} (ss₁ : List Step) → PSession pol s₀ (ss₁ ++ (step ∷ ss))
      → PSession pol s₀ (step ∷ ss)
  earlier [] x = x
  earlier (y ∷ []) x = (last_step x).0
  earlier (y ∷ z ∷ l) x = earlier (z ∷ l) (last_step x).0

  -- (31)
  abbrev pub Kept {ℓ} : (Step → Type ℓ) → Type (2 ⊔ ℓ)
  Kept P = (x y : Step) → y.e ≢ terminate → Exec pol x.s y.e y.r y.s → P x → P y

  module _ {ℓ} (P : Step → Type ℓ) (kept : Kept P) (s₀ : State) (ss : List Step) (step : Step) (holds : P step) where
    pub lemma_1 : (ss₁ : List Step) → PSession pol s₀ (ss₁ ++ (step ∷ ss)) → All P ss₁
    lemma_1 [] x = tt
    lemma_1 (y ∷ []) x = let (_, n, last) = last_step x in (kept step y n last holds, tt)
    lemma_1 (y ∷ z ∷ l) x = let (x, n, last) = last_step x in let t = lemma_1 (z ∷ l) x in (kept z y n last t.0, t)

    -- what a step shows where P holds before it
    shown {κ} : (Q : Step → Type κ) → ((x y : Step) → Exec pol x.s y.e y.r y.s → P x → Q y)
        → (ss₁ : List Step) → PSession pol s₀ (ss₁ ++ (step ∷ ss)) → All Q ss₁
    shown Q f [] x = tt
    shown Q f (y ∷ []) x = (f step y (last_step x).2 holds, tt)
    shown Q f (y ∷ z ∷ l) x = let (x, _, last) = last_step x in (f z y last (lemma_1 (z ∷ l) x).0, shown Q f (z ∷ l) x)

  -- ---- Lemma 2

  -- how a session goes on: one suite runs and stays installed, and what was revoked for the session stays so
  abbrev GoesOn : State → State → SessionInfo → Type 1
  GoesOn s s' ses =
      (ses' : SessionInfo) × (s'.session ≡ some ses') × (ses'.id ≡ ses.id)
      × ((p : Permission) → ses.revoked p → ses'.revoked p)
      × ((ms : Suite) → s.suite ms → ms.id ≡ ses.id → s'.suite ms)

  module _ (s s' : State) (ses : SessionInfo) (is : s.session ≡ some ses) where
    -- by an event that does not touch it
    untouched : s.session ≡ s'.session → ((ms : Suite) → s.suite ms → ms.id ≡ ses.id → s'.suite ms) → GoesOn s s' ses
    untouched e stay = (ses, sym e ∙ is, refl, λ p y. y, stay)

    unchanged : s.suite ≡ s'.suite → s.session ≡ s'.session → GoesOn s s' ses
    unchanged u e = untouched e (λ ms i _. transport (λ j. u j ms) i)

    goes_on : (r : Option Response) (e : Event) → e ≢ terminate → Pre pol s e → Pos pol s s' r e → GoesOn s s' ses
    goes_on r (start id) n h q = absurd (some-ne-none ses (sym is ∙ h.0))
    goes_on r terminate n h q = absurd (n refl)
    goes_on r (install id des dom) n h q = untouched (sym q.lower.4) (λ ms i _. q.lower.1 ms i)
    goes_on r (remove id) n h q =
        untouched q.lower.1.0 (λ ms i k. q.lower.2 ms i (λ l. h.0 ses is (sym k ∙ l)))
    goes_on r (request p none) n h q = unchanged (λ i. (q.0 i).suite) (λ i. (q.0 i).session)
    goes_on r (request p (some (ua-allow oneshot))) n h q = unchanged (λ i. (q.1 i).suite) (λ i. (q.1 i).session)
    goes_on r (request p (some (ua-deny oneshot))) n h q = unchanged (λ i. (q.1 i).suite) (λ i. (q.1 i).session)
    goes_on r (request p (some (ua-allow blanket))) n h q = unchanged q.1.0 q.1.1
    goes_on r (request p (some (ua-deny blanket))) n h q = unchanged q.1.0 q.1.1
    goes_on r (request p (some (ua-allow session))) n h q =
        let (ses', e, k, _) = q.2 ses is in
        (ses', e, k.0, λ p y. transport⁻¹ (λ i. k.1 i p) y, λ ms i _. transport (λ j. q.1.0 j ms) i)
    goes_on r (request p (some (ua-deny session))) n h q =
        let (ses', e, k, enters) = q.2 ses is in
        (ses', e, k.0, grows enters, λ ms i _. transport (λ j. q.1.0 j ms) i)

  continues : {s s' : State} {r : Option Response} {e : Event} → e ≢ terminate → Exec pol s e r s'
      → (ses : SessionInfo) → s.session ≡ some ses → GoesOn s s' ses
  continues {s} n (npre _) ses is = unchanged s s ses is refl refl
  continues {s} {e = e} n (pre {r = r} {s' = s'} h q) ses is = goes_on s s' ses is r e n h q

  -- (32)
  abbrev pub Revoked : Permission → State → Type 1
  Revoked p s = (ses : SessionInfo) × (s.session ≡ some ses) × ses.revoked p

  pub lemma_2 : {p : Permission} {s s' : State} {r : Option Response} {e : Event} → e ≢ terminate → Exec pol s e r s'
      → Revoked p s → Revoked p s'
  lemma_2 {p} n x (ses, is, y) = let (ses', is', _, stay, _) = continues n x ses is in (ses', is', stay p y)

  -- ---- Theorem 3

  -- a session runs, of an installed suite
  abbrev Active : State → Type 1
  Active s = (ses : SessionInfo) × (s.session ≡ some ses) × Installed s ses

  active_stays : {s s' : State} {r : Option Response} {e : Event} → e ≢ terminate → Exec pol s e r s' → Active s → Active s'
  active_stays n x (ses, is, (ms, i, k)) =
      let (ses', is', same, _, stay) = continues n x ses is in
      (ses', is', (ms, stay ms i k, k ∙ sym same))

  active : {s₀ : State} {step : Step} {ss : List Step} → PSession pol s₀ (step ∷ ss) → Active step.s
  active (psession_start h (npre n)) = absurd (n h)
  active (psession_start _ (pre (_, (ms, i, k)) (_, stay, (ses, is, same, _)))) =
      (ses, is, (ms, transport (λ j. stay.0 j ms) i, k ∙ sym same))
  active (psession_app p n x) = active_stays n x (active p)

  refused : {p : Permission} {s s' : State} {r : Option Response} {o : Option UserAnswer} → Current s
      → Exec pol s (request p o) r s' → Revoked p s → r ≢ some allowed
  refused c (npre n) k e = some-ne-none allowed (sym e)
  refused {p} {o = none} c (pre h q) (ses, is, y) e =
      let (ms, i, k) = c ses is in
      let a = q.1 ses ms is i k in
      let undeclared : ¬ Declared ms p = λ d. allowed≢denied e (a.ses_revoked d y) in
      allowed≢denied e (a.undeclared (λ d. undeclared (inl d)) (λ d. undeclared (inr d)))
  refused {p} {s} {o = some u} c (pre h q) (ses, is, y) e =
      let h = answering pol s p u h in
      (running s c h).0.1 (only (λ x. x.revoked p) is y h.0 h.1)

  pub never_allowed : {p : Permission} {s s' : State} {r : Option Response} {o : Option UserAnswer} → Valid pol s
      → Exec pol s (request p o) r s' → Revoked p s → r ≢ some allowed
  never_allowed v = refused v.CurrentInstalled

  pub denial_revokes : {p : Permission} {s s' : State} {r : Option Response} → Pre pol s (request p (some (ua-deny session)))
      → Exec pol s (request p (some (ua-deny session))) r s' → Revoked p s'
  denial_revokes h (npre n) = absurd (n h)
  denial_revokes _ (pre h q) = let (ses', is, _, enters) = q.2 h.0 h.1 in (ses', is, enters.0)

  -- an event with a response had its precondition
  pub answered : {s s' : State} {e : Event} {r : Option Response} → r ≢ none → Exec pol s e r s' → Pre pol s e
  answered n (npre h) = absurd (n refl)
  answered n (pre h q) = h

  pub theorem_3 : (p : Permission) (s₀ : State) (ss : List Step) (step step₁ : Step) (ss₁ : List Step)
      → PSession pol s₀ (ss₁ ++ (step₁ ∷ step ∷ ss))
      → step₁.e ≡ request p (some (ua-deny session)) → Pre pol step.s step₁.e
      → All (λ step. (o : Option UserAnswer) → step.e ≡ request p o → step.r ≢ some allowed) ss₁
  theorem_3 p s₀ ss step step₁ ss₁ x is h =
      let first = earlier ss₁ x in
      let now : Revoked p step₁.s =
      subst⁻¹ (λ e. Pre pol step.s e → Exec pol step.s e step₁.r step₁.s → Revoked p step₁.s) is
      denial_revokes h (last_step first).2 in
      shown (λ x. Active x.s × Revoked p x.s) (λ x y n l k. (active_stays n l k.0, lemma_2 n l k.1))
      s₀ (step ∷ ss) step₁ (active first, now) _
      (λ x y l k o e. refused {o = o} (only (Installed x.s) k.0.1 k.0.2)
      (subst (λ e. Exec pol x.s e y.r y.s) e l) k.1)
      ss₁ x
