-- What the paper's pre- and postconditions say, as its theorems use it. Assumes nothing.
use mathlib.Core.Path.{◌≡◌, sym, ◌∙◌, subst, subst⁻¹, transport, transport⁻¹}
use mathlib.Core.Logic.{◌≢◌}
use mathlib.Core.HLevel.{Discrete}
use mathlib.Core.Option.{Option, some, some-injective}
use native.Mathlib.Decide.{ℕ_discrete}
use Rattle.device.specs.declared.Suite.{Suite as SuiteId}
use Rattle.device.specs.declared.Permission.{Permission}
use Rattle.paper.specs.Published.{Suite, Policy, SessionInfo, State, Undecided, Asked}
use Rattle.paper.specs.Published.{UserAnswer, ua-allow, ua-deny, request}
use Rattle.paper.specs.Published.{◌≡ses_granted◌, ◌≡ses_revoked◌, Enters, EntersFor, Runs, Pre}

-- ---- sets

-- suites and permissions are numbers: two of them are one or not
suite? : Discrete SuiteId
suite? i j = elim (ℕ_discrete i.0 j.0) [ yes e ↦ yes (λ k. record { 0 = e k }) | no n ↦ no (λ e. n (λ k. (e k).0)) ]

permission? : Discrete Permission
permission? p q = elim (ℕ_discrete p.0 q.0) [ yes e ↦ yes (λ k. record { 0 = e k }) | no n ↦ no (λ e. n (λ k. (e k).0)) ]

-- what holds of p and in F holds in F with p
pub entered {ℓ} : (A : Permission → Type ℓ) {p : Permission} {F F' : Permission → Type 0} → Enters p F F'
    → A p → ((q : Permission) → F q → A q) → (q : Permission) → F' q → A q
entered A {p} e here old q f =
    elim (permission? q p) [ yes k ↦ subst⁻¹ A k here | no n ↦ old q (transport (e.1 q n) f) ]

pub entered_for {ℓ} : (A : SuiteId → Permission → Type ℓ) {id : SuiteId} {p : Permission}
    {F F' : SuiteId → Permission → Type 0} → EntersFor id p F F'
    → A id p → ((j : SuiteId) (q : Permission) → F j q → A j q) → (j : SuiteId) (q : Permission) → F' j q → A j q
entered_for A {id} {F' = F'} e here old j q f = elim (suite? j id) [
  | yes k ↦ subst⁻¹ (λ j. A j q) k (entered (A id) e.0 here (old id) q (subst (λ j. F' j q) k f))
  | no n ↦ old j q (transport (λ i. e.1 j n i q) f)
]

-- F with p has what F has
pub grows : {p : Permission} {F F' : Permission → Type 0} → Enters p F F' → (q : Permission) → F q → F' q
grows {p} {F' = F'} e q f = elim (permission? q p) [ yes k ↦ subst⁻¹ F' k e.0 | no n ↦ transport⁻¹ (e.1 q n) f ]

-- F' is F, cleared for the suite id
pub cleared : {id : SuiteId} {F F' : SuiteId → Permission → Type 0} → ((p : Permission) → ¬ F' id p)
    → ((j : SuiteId) → j ≢ id → F' j ≡ F j) → (j : SuiteId) (p : Permission) → F' j p → F j p × (j ≢ id)
cleared {id} {F' = F'} none rest j p f = elim (suite? j id) [
  | yes k ↦ absurd (none p (subst (λ j. F' j p) k f))
  | no n ↦ (transport (λ i. rest j n i p) f, n)
]

-- ---- the session

-- there is one
pub only {ℓ} : (A : SessionInfo → Type ℓ) {o : Option SessionInfo} {ses : SessionInfo} → o ≡ some ses → A ses
    → (x : SessionInfo) → o ≡ some x → A x
only A {ses = ses} e h x f = subst A (some-injective ses x (sym e ∙ f)) h

-- it is ses but for one set
pub but_granted : (ses : SessionInfo) {o : Option SessionInfo} {ses' : SessionInfo} → o ≡ some ses' → ses' ≡ses_granted ses
    → o ≡ some (record { id = ses.id; granted = ses'.granted; revoked = ses.revoked })
but_granted ses {ses' = ses'} e q = e ∙ (λ i. some (record { id = q.0 i; granted = ses'.granted; revoked = q.1 i }))

pub but_revoked : (ses : SessionInfo) {o : Option SessionInfo} {ses' : SessionInfo} → o ≡ some ses' → ses' ≡ses_revoked ses
    → o ≡ some (record { id = ses.id; granted = ses.granted; revoked = ses'.revoked })
but_revoked ses {ses' = ses'} e q = e ∙ (λ i. some (record { id = q.0 i; granted = q.1 i; revoked = ses'.revoked }))

-- (15), of one session and of a state
abbrev pub Installed : State → SessionInfo → Type 1
Installed s ses = (ms : Suite) × s.suite ms × (ms.id ≡ ses.id)

abbrev pub Current : State → Type 1
Current s = (ses : SessionInfo) → s.session ≡ some ses → Installed s ses

module _ (s : State) (current : Current s) where
  -- what a request's precondition says of the suite that runs
  pub running : {Q : SessionInfo → Suite → Type 0} (h : Runs s Q) → Q h.0 (current h.0 h.1).0
  running h = let (ms, i, n) = current h.0 h.1 in h.2 ms i n

  -- a suite that is not installed does not run
  pub not_running : {id : SuiteId} → ((ms : Suite) → s.suite ms → ms.id ≢ id)
      → (ses : SessionInfo) → s.session ≡ some ses → ses.id ≢ id
  not_running new ses e k = let (ms, i, n) = current ses e in new ms i (n ∙ k)

-- what both preconditions of an answer say
pub answering : (pol : Policy) (s : State) (p : Permission) (u : UserAnswer) → Pre pol s (request p (some u))
    → Runs s (λ ses ms. Undecided s ses p × Asked pol ms p)
answering pol s p (ua-allow m) (ses, is, h) = (ses, is, λ ms i n. let (_, u, a, _) = h ms i n in (u, a))
answering pol s p (ua-deny m) (ses, is, h) = (ses, is, λ ms i n. let (_, u, a) = h ms i n in (u, a))

-- ---- the state, by its fields

abbrev pub at : (Suite → Type 1) → Option SessionInfo → (granted revoked : SuiteId → Permission → Type 0) → State
at S o G R = record { suite = S; session = o; granted = G; revoked = R }
