-- A state of the paper that one of the monitor refines: its session, its suites, its decisions by number. Assumes nothing.
use mathlib.Core.Path.{◌≡◌, refl, sym, ap, ◌∙◌, transport, transport⁻¹}
use mathlib.Core.Logic.{◌≢◌}
use mathlib.Core.Option
use mathlib.Core.Option.{Option, none, some, some-injective}
use mathlib.Core.Bool.{Bool, true, false, cond, false≢true}
use borrow.Author.Tests.{eq-eqb, ne_eqb}
use Rattle.words.proofs.Sets.{member_none}
use Rattle.device.specs.declared.Suite.{Suite}
use Rattle.device.specs.declared.Permission.{Permission}
use Rattle.device.specs.declared.Session.{Session}
use Rattle.device.specs.Device.{is_permission, no_suite, same_suite, has}
use Rattle.model.specs.State.{State, carries, find}
use Rattle.model.proofs.Tests.{both}
use Rattle.model.proofs.Slots.{find_suite}
use Rattle.paper.specs.Published
use Rattle.paper.specs.Published.{SessionInfo}
use Rattle.paper.specs.Refinement.{In, suite_of, info_of, session_of, Installed, ◌⊑◌}

pub not_in_none : (p : Permission) → ¬ In 0 p
not_in_none p h = false≢true (sym (member_none p.0) ∙ (both (is_permission p) (has 0 p) h).1)

-- ---- the session

pub some_ne_none {ℓ} : {A : Type ℓ} {a : A} → ¬ (◌≡◌ {A = Option A} (some a) none)
some_ne_none {a = a} = Option.some-ne-none a

-- there is no other than its own
pub the_session : (r : Session) (ses : SessionInfo) → session_of r ≡ some ses
    → (same_suite r.suite no_suite ≡ false) × (info_of r ≡ ses)
the_session r ses = go (same_suite r.suite no_suite)
  where
    go : (b : Bool) → cond b none (some (info_of r)) ≡ some ses → (b ≡ false) × (info_of r ≡ ses)
    go true e = absurd (some_ne_none (sym e))
    go false e = (refl, some-injective (info_of r) ses e)

-- ---- decisions by suite number: P for suite i, F for the others

abbrev pub For : Suite → (Permission → Type 0) → (Suite → Permission → Type 0) → Suite → Permission → Type 0
For i P F j = cond (same_suite j i) P (F j)

pub same_refl : (i : Suite) → same_suite i i ≡ true
same_refl i = eq-eqb i.0 i.0 refl

pub not_same : (i j : Suite) → i ≢ j → same_suite i j ≡ false
not_same i j n = ne_eqb i.0 j.0 (λ e. n (λ k. record { 0 = e k }))

pub for_it : (i : Suite) (P : Permission → Type 0) (F : Suite → Permission → Type 0) → For i P F i ≡ P
for_it i P F = rw (same_refl i)

pub for_other : (i j : Suite) (P : Permission → Type 0) (F : Suite → Permission → Type 0) → j ≢ i → For i P F j ≡ F j
for_other i j P F n = rw (not_same j i n)

-- ---- S ⊑ s

module _ {S : Published.State} {s : State} (h : S ⊑ s) where
  pub nothing_runs : same_suite s.session.suite no_suite ≡ true → S.session ≡ none
  nothing_runs n = h.session ∙ rw n

  pub one_runs : same_suite s.session.suite no_suite ≡ false → S.session ≡ some (info_of s.session)
  one_runs n = h.session ∙ rw n

  pub is_suite_lem : {ms : Published.Suite} → Installed s.slots ms → S.suite ms
  is_suite_lem {ms} = transport⁻¹ (λ j. h.suite j ms)

  pub as_slot : {ms : Published.Suite} → S.suite ms → Installed s.slots ms
  as_slot {ms} = transport (λ j. h.suite j ms)

  -- a number that a slot has is an installed suite's, and one that none has is not
  pub the_suite : (i : Suite) → same_suite i no_suite ≡ false → carries i s.slots ≡ true → S.suite (suite_of (find i s.slots))
  the_suite i n k =
      let e = find_suite i s.slots k in
      is_suite_lem (rw e n, rw e k, ap (λ j. suite_of (find j s.slots)) (sym e))

  pub some_suite : (i : Suite) → same_suite i no_suite ≡ false → carries i s.slots ≡ true
      → (ms : Published.Suite) × S.suite ms × (ms.id ≡ i)
  some_suite i n k = (suite_of (find i s.slots), the_suite i n k, find_suite i s.slots k)

  pub no_suite_lem : (i : Suite) → carries i s.slots ≡ false → (ms : Published.Suite) → S.suite ms → ms.id ≢ i
  no_suite_lem i n ms k e = false≢true (sym n ∙ ap (λ j. carries j s.slots) (sym e) ∙ (as_slot k).1)
