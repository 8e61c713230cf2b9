-- The published model: document 000, 3.1 to 3.5 and (27), by its names and formula numbers, in its order. From document 004 comes
-- what 000 leaves out: ValidGranted (2.15), permStateCoherence and policyCompatible (2.3.1), the request (Figures 2.2 to 2.4).
--
-- A proposition is a type; ∃ and ∨ are pairs and sums, which say more than the paper's where shown and ask more where supposed. The
-- sets SuiteID, Permission, Domain and Mode are the monitor's own types, and a set of permissions is any predicate.
use Rattle.std.specs.Prelude.{◌≡◌, ◌⊎◌, ◌≢◌, List, [], ◌∷◌, ◌≤◌}
use Rattle.std.proofs.Math.Logic.{Lift}
use Rattle.std.proofs.Math.Option.{Option, none, some}
use Rattle.device.specs.declared.Suite.{Suite as SuiteId}
use Rattle.device.specs.declared.Permission.{Permission}
use Rattle.device.specs.declared.Domain.{Domain}
use Rattle.device.specs.declared.Mode.{Mode}
use Rattle.device.specs.declared.Mode.TheVariants.{Oneshot as oneshot, Session as session, Blanket as blanket}
use Rattle.device.specs.Device.{width}

-- ---- 3.1 sets and constants

-- (4)
pub record Descriptor : Type 1 where
  pub required : Permission → Type 0
  pub optional : Permission → Type 0

-- (5)
pub record Suite : Type 1 where
  pub id : SuiteId
  pub domain : Domain
  pub descriptor : Descriptor

-- (6)
infix 4 ◌≤m◌
abbrev pub ◌≤m◌ : Mode → Mode → Type 0
m ≤m m' = width m ≤ width m'

-- (7)
pub record Policy : Type 1 where
  pub allow : Domain → Permission → Type 0
  pub user : Domain → Permission → Mode → Type 0

-- (8)
pub record OneMode (pol : Policy) : Type 0 where
  pub not_both : (d : Domain) (p : Permission) → pol.allow d p → (m : Mode) → ¬ pol.user d p m
  pub at_most_one : (d : Domain) (p : Permission) (m : Mode) → pol.user d p m
      → (¬ pol.allow d p) × ((m' : Mode) → pol.user d p m' → m ≡ m')

-- ---- 3.2 the device's state

-- (9)
pub record SessionInfo : Type 1 where
  pub id : SuiteId
  pub granted : Permission → Type 0
  pub revoked : Permission → Type 0

-- (10)
pub record State : Type 2 where
  pub suite : Suite → Type 1
  pub session : Option SessionInfo
  pub granted : SuiteId → Permission → Type 0
  pub revoked : SuiteId → Permission → Type 0

abbrev pub Declared : Suite → Permission → Type 0
Declared ms p = ms.descriptor.required p ⊎ ms.descriptor.optional p

-- neither granted nor revoked, for the session or for good
abbrev pub Undecided : State → SessionInfo → Permission → Type 0
Undecided s ses p = (¬ ses.granted p) × (¬ ses.revoked p) × (¬ s.granted ses.id p) × (¬ s.revoked ses.id p)

module _ (pol : Policy) where
  -- the policy has the user asked
  abbrev pub Asked : Suite → Permission → Type 0
  Asked ms p = (m : Mode) × pol.user ms.domain p m

  -- (13)
  infix 4 ◌≀◌
  abbrev pub ◌≀◌ : Descriptor → Domain → Type 0
  des ≀ dom = (p : Permission) → des.required p → pol.allow dom p ⊎ ((m : Mode) × pol.user dom p m)

  -- the six conditions: (14) to (17), 004 (2.15), and the sixth, which both papers leave in words
  pub record Valid (s : State) : Type 2 where
    pub SuiteCompatible : (ms : Suite) → s.suite ms → ms.descriptor ≀ ms.domain
    pub CurrentInstalled : (ses : SessionInfo) → s.session ≡ some ses → (ms : Suite) × s.suite ms × (ms.id ≡ ses.id)
    pub ValidSessionGranted : (ses : SessionInfo) → s.session ≡ some ses → (p : Permission) → ses.granted p
        → (ms : Suite) → s.suite ms → ms.id ≡ ses.id
        → Declared ms p × ((m : Mode) × pol.user ms.domain p m × (session ≤m m))
    pub UniqueSuiteId : (ms₁ ms₂ : Suite) → s.suite ms₁ → s.suite ms₂ → ms₁.id ≡ ms₂.id → ms₁ ≡ ms₂
    pub ValidGranted : (p : Permission) (id : SuiteId) → s.granted id p
        → (ms : Suite) → s.suite ms → ms.id ≡ id → Declared ms p × pol.user ms.domain p blanket
    pub ValidGrantedRevoked : ((id : SuiteId) (p : Permission) → s.granted id p → ¬ s.revoked id p)
        × ((ses : SessionInfo) → s.session ≡ some ses → (p : Permission) → ses.granted p → ¬ ses.revoked p)

  -- 004, 2.3.1, in words there. What is granted or revoked for the session stands in no other of the four sets; with
  -- ValidGrantedRevoked no permission stands in two of them
  pub record Coherent (s : State) : Type 2 where
    pub perm_state_coherence : (ses : SessionInfo) → s.session ≡ some ses → (p : Permission) → ses.granted p ⊎ ses.revoked p
        → (¬ s.granted ses.id p) × (¬ s.revoked ses.id p)
    pub policy_compatible : (ms : Suite) → s.suite ms → (p : Permission) → ¬ pol.allow ms.domain p → ¬ Asked ms p
        → (¬ s.granted ms.id p) × (¬ s.revoked ms.id p)
        × ((ses : SessionInfo) → s.session ≡ some ses → ms.id ≡ ses.id → (¬ ses.granted p) × (¬ ses.revoked p))

  -- 004 (2.45), of the state that an event leaves
  abbrev pub OneStands : State → Type 1
  OneStands s = (sid : SuiteId) (p : Permission) (ses : SessionInfo) → s.session ≡ some ses → ses.id ≡ sid
      → (s.granted sid p → (¬ s.revoked sid p) × (¬ ses.granted p) × (¬ ses.revoked p))
      × (s.revoked sid p → (¬ s.granted sid p) × (¬ ses.granted p) × (¬ ses.revoked p))
      × (ses.granted p → (¬ s.granted sid p) × (¬ s.revoked sid p) × (¬ ses.revoked p))
      × (ses.revoked p → (¬ s.granted sid p) × (¬ s.revoked sid p) × (¬ ses.granted p))

  -- 004 (2.46), likewise
  abbrev pub NoneStands : State → Type 1
  NoneStands s = (sid : SuiteId) (p : Permission) (ses : SessionInfo) → s.session ≡ some ses → ses.id ≡ sid
      → (ms : Suite) → s.suite ms → ms.id ≡ sid → (¬ pol.allow ms.domain p) × (¬ Asked ms p)
      → (¬ s.granted sid p) × (¬ s.revoked sid p) × (¬ ses.granted p) × (¬ ses.revoked p)

-- ---- 3.3 events

-- (18)
pub data UserAnswer : Type 0 where
  ua-allow ua-deny : Mode → UserAnswer

pub data Response : Type 0 where
  allowed denied : Response

-- Table 1
pub data Event : Type 1 where
  start : SuiteId → Event
  terminate : Event
  request : Permission → Option UserAnswer → Event
  install : SuiteId → Descriptor → Domain → Event
  remove : SuiteId → Event

-- (2): equal but for the one field
infix 4 ◌≡session◌ ◌≡suite◌ ◌≡granted◌ ◌≡revoked◌ ◌≡ses_granted◌ ◌≡ses_revoked◌
abbrev pub ◌≡session◌ : State → State → Type 2
s ≡session s' = (s.suite ≡ s'.suite) × (s.granted ≡ s'.granted) × (s.revoked ≡ s'.revoked)

abbrev pub ◌≡suite◌ : State → State → Type 1
s ≡suite s' = (s.session ≡ s'.session) × (s.granted ≡ s'.granted) × (s.revoked ≡ s'.revoked)

abbrev pub ◌≡granted◌ : State → State → Type 2
s ≡granted s' = (s.suite ≡ s'.suite) × (s.session ≡ s'.session) × (s.revoked ≡ s'.revoked)

abbrev pub ◌≡revoked◌ : State → State → Type 2
s ≡revoked s' = (s.suite ≡ s'.suite) × (s.session ≡ s'.session) × (s.granted ≡ s'.granted)

abbrev pub ◌≡ses_granted◌ : SessionInfo → SessionInfo → Type 1
ses ≡ses_granted ses' = (ses.id ≡ ses'.id) × (ses.revoked ≡ ses'.revoked)

abbrev pub ◌≡ses_revoked◌ : SessionInfo → SessionInfo → Type 1
ses ≡ses_revoked ses' = (ses.id ≡ ses'.id) × (ses.granted ≡ ses'.granted)

-- F' is F with p: the end of (21) and of each postcondition like it
abbrev pub Enters : Permission → (F F' : Permission → Type 0) → Type 1
Enters p F F' = F' p × ((q : Permission) → q ≢ p → F' q ≡ F q)

abbrev pub EntersFor : SuiteId → Permission → (F F' : SuiteId → Permission → Type 0) → Type 1
EntersFor id p F F' = Enters p (F id) (F' id) × ((id₁ : SuiteId) → id₁ ≢ id → F' id₁ ≡ F id₁)

-- how each precondition of a request begins: some session ses is open, and of every suite ms with its id the rest holds
abbrev pub Runs : State → (SessionInfo → Suite → Type 0) → Type 1
Runs s Q = (ses : SessionInfo) × (s.session ≡ some ses) × ((ms : Suite) → s.suite ms → ms.id ≡ ses.id → Q ses ms)

module _ (pol : Policy) where
  -- Table 2; (20); 004, Figures 2.2 to 2.4
  abbrev pub Pre : State → Event → Type 1
  Pre s (start id) = (s.session ≡ none) × ((ms : Suite) × s.suite ms × (ms.id ≡ id))
  Pre s terminate = s.session ≢ none
  Pre s (install id des dom) = ◌≀◌ pol des dom × ((ms : Suite) → s.suite ms → ms.id ≢ id)
  Pre s (remove id) =
      ((ses : SessionInfo) → s.session ≡ some ses → ses.id ≢ id) × ((ms : Suite) × s.suite ms × (ms.id ≡ id))
  Pre s (request p none) =
      Runs s (λ ses ms. Declared ms p → (m : Mode) → pol.user ms.domain p m
      → ses.granted p ⊎ ses.revoked p ⊎ s.granted ses.id p ⊎ s.revoked ses.id p)
  Pre s (request p (some (ua-allow m))) =
      Runs s (λ ses ms. Declared ms p × Undecided s ses p × Asked pol ms p
      × ((m' : Mode) → pol.user ms.domain p m' → m ≤m m'))
  Pre s (request p (some (ua-deny m))) = Runs s (λ ses ms. Declared ms p × Undecided s ses p × Asked pol ms p)

  -- Figure 2.2: the response where the user does not answer
  pub record Answers (s : State) (ses : SessionInfo) (ms : Suite) (p : Permission) (r : Option Response) : Type 0 where
    pub undeclared : ¬ ms.descriptor.required p → ¬ ms.descriptor.optional p → r ≡ some denied
    pub by_domain : Declared ms p → pol.allow ms.domain p → r ≡ some allowed
    pub ses_granted : Declared ms p → ses.granted p → r ≡ some allowed
    pub granted : Declared ms p → s.granted ses.id p → r ≡ some allowed
    pub ses_revoked : Declared ms p → ses.revoked p → r ≡ some denied
    pub revoked : Declared ms p → s.revoked ses.id p → r ≡ some denied

  -- Table 3; (21); Figures 2.2 to 2.4. `Lift`: the paper's Prop has no levels
  abbrev pub Pos : State → State → Option Response → Event → Type 2
  Pos s s' r (start id) =
      (r ≡ none) × (s ≡session s') × ((ses' : SessionInfo) × (s'.session ≡ some ses') × (ses'.id ≡ id)
      × ((p : Permission) → (¬ ses'.granted p) × (¬ ses'.revoked p)))
  Pos s s' r terminate = (r ≡ none) × (s ≡session s') × (s'.session ≡ none)
  Pos s s' r (install id des dom) = Lift {1, 2} (
      (r ≡ none) × ((ms : Suite) → s.suite ms → s'.suite ms)
      × ((ms : Suite) → s'.suite ms → s.suite ms ⊎ (ms ≡ record { id = id; domain = dom; descriptor = des }))
      × s'.suite (record { id = id; domain = dom; descriptor = des }) × (s'.session ≡ s.session)
      × ((p : Permission) → (¬ s'.granted id p) × (¬ s'.revoked id p))
      × ((id₁ : SuiteId) → id₁ ≢ id → (s'.granted id₁ ≡ s.granted id₁) × (s'.revoked id₁ ≡ s.revoked id₁)))
  Pos s s' r (remove id) = Lift {1, 2} (
      (r ≡ none) × (s ≡suite s') × ((ms : Suite) → s.suite ms → ms.id ≢ id → s'.suite ms)
      × ((ms : Suite) → s'.suite ms → s.suite ms × (ms.id ≢ id)))
  Pos s s' r (request p none) =
      (s ≡ s') × ((ses : SessionInfo) (ms : Suite) → s.session ≡ some ses → s.suite ms → ms.id ≡ ses.id
      → Answers s ses ms p r)
  Pos s s' r (request p (some (ua-allow oneshot))) = (r ≡ some allowed) × (s ≡ s')
  Pos s s' r (request p (some (ua-allow session))) =
      (r ≡ some allowed) × (s ≡session s') × ((ses : SessionInfo) → s.session ≡ some ses
      → (ses' : SessionInfo) × (s'.session ≡ some ses') × (ses' ≡ses_granted ses) × Enters p ses.granted ses'.granted)
  Pos s s' r (request p (some (ua-allow blanket))) =
      (r ≡ some allowed) × (s ≡granted s')
      × ((ses : SessionInfo) → s.session ≡ some ses → EntersFor ses.id p s.granted s'.granted)
  Pos s s' r (request p (some (ua-deny oneshot))) = (r ≡ some denied) × (s ≡ s')
  Pos s s' r (request p (some (ua-deny session))) =
      (r ≡ some denied) × (s ≡session s') × ((ses : SessionInfo) → s.session ≡ some ses
      → (ses' : SessionInfo) × (s'.session ≡ some ses') × (ses' ≡ses_revoked ses) × Enters p ses.revoked ses'.revoked)
  Pos s s' r (request p (some (ua-deny blanket))) =
      (r ≡ some denied) × (s ≡revoked s')
      × ((ses : SessionInfo) → s.session ≡ some ses → EntersFor ses.id p s.revoked s'.revoked)

  -- ---- 3.4 one-step execution, (22)

  pub data Exec (s : State) (e : Event) : Option Response → State → Type 2 where
    npre : ¬ Pre s e → Exec s e none s
    pre : {r : Option Response} {s' : State} → Pre s e → Pos s s' r e → Exec s e r s'

-- ---- 3.5 sessions. A sequence has its last step first: the paper's ss ⌢ step is step ∷ ss, its ss ⊕ ss₁ is ss₁ ++ ss

pub record Step : Type 2 where
  pub e : Event
  pub s : State
  pub r : Option Response

module _ (pol : Policy) where
  -- (23), (24)
  pub data PSession (s₀ : State) : List Step → Type 2 where
    psession_start : {id : SuiteId} {s₁ : State} {r₁ : Option Response} → Pre pol s₀ (start id) → Exec pol s₀ (start id) r₁ s₁
        → PSession s₀ (record { e = start id; s = s₁; r = r₁ } ∷ [])
    psession_app : {last : Step} {ss : List Step} {e : Event} {s' : State} {r : Option Response}
        → PSession s₀ (last ∷ ss) → e ≢ terminate → Exec pol last.s e r s'
        → PSession s₀ (record { e = e; s = s'; r = r } ∷ last ∷ ss)

  -- (25)
  pub data Session (s₀ : State) : List Step → Type 2 where
    session_terminate : {last : Step} {ss : List Step} {s' : State} {r : Option Response}
        → PSession s₀ (last ∷ ss) → Exec pol last.s terminate r s'
        → Session s₀ (record { e = terminate; s = s'; r = r } ∷ last ∷ ss)

-- (27)
abbrev pub All {ℓ} : (Step → Type ℓ) → List Step → Type ℓ
All P [] = Unit {ℓ}
All P (step ∷ ss) = P step × All P ss
