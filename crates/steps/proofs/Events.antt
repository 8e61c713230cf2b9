-- Each event by its tests: the answer, and the state that follows; laws that docs/PORT.md names. Assumes nothing.
use mathlib.Core.Path.{◌≡◌, ◌∙◌}
use mathlib.Core.Bool.{true, false}
use mathlib.Core.List.{List}
use Prim.Native.Nat.{ℕ, ◌≤◌, ◌<◌}
use borrow.Author.Tests.{lt-ltb, le-ltb, eq-eqb, ne_eqb}
use Rattle.std.specs.Prelude.{Some, None}
use Rattle.device.specs.declared.Suite.{Suite}
use Rattle.device.specs.declared.Domain.{Domain}
use Rattle.device.specs.declared.Descriptor.{Descriptor}
use Rattle.device.specs.declared.Session.{Session}
use Rattle.device.specs.declared.Event.TheVariants.{Install, Remove, Start, Terminate}
use Rattle.device.specs.declared.Response.{Response}
use Rattle.device.specs.Device.{no_suite}
use Rattle.model.specs.Policy.{Fixed}
use Rattle.model.specs.State.{State, with_session, carries, place, read_state}
use Rattle.device.specs.Empty.{undecided, free, idle}
use Rattle.device.specs.Answers.{DONE, NO_SESSION, BUSY, NOT_INSTALLED, INSTALLED, NOT_OFFERED, NO_ROOM, ACTIVE}
use Rattle.model.specs.Step.{Outcome, answer, lacking, installed, step}
use Rattle.model.proofs.Slots.{amend_place}
use Rattle.store.specs.Holds.{Holds, with_slot}
use Rattle.store.proofs.Places.{carries_below, found_at}
use Rattle.steps.specs.Did.{Did, place_after}

pub did : {o : Outcome} {a r : Response} {s : State} {b : List ℕ} → o ≡ answer a s → r ≡ a → Holds b s → Did o b r
did e r h = rw e (record { response = r; state = h })

module _ (f : Fixed) (b : List ℕ) where
  abbrev s : State
  s = read_state b

  -- k is the place of i
  module _ (i : Suite) (k : ℕ) (place-i : k ≡ place i s.slots) where
    present : k < 32 → carries i s.slots ≡ true
    present h = carries_below b i ∙ rw (← place-i, lt-ltb k 32 h)

    absent : 32 ≤ k → carries i s.slots ≡ false
    absent h = carries_below b i ∙ rw (← place-i, le-ltb k 32 h)

    -- ---- install

    module _ (x : Descriptor) (d : Domain) where
      pub install_again : k < 32 → step f s (Install i x d) ≡ answer INSTALLED s
      unfolding step
      install_again h = rw (present h)

      module _ (new : 32 ≤ k) (p : ℕ) (least : record { 0 = p } ≡ lacking f x d) where
        pub install_lacks : p < 64 → step f s (Install i x d) ≡ answer (NOT_OFFERED (record { 0 = p })) s
        unfolding step
        install_lacks h = rw (absent new, ← least, lt-ltb p 64 h)

        module _ (offers : 64 ≤ p) (j : ℕ) (place-free : j ≡ place no_suite s.slots) where
          pub install_full : 32 ≤ j → step f s (Install i x d) ≡ answer NO_ROOM s
          unfolding step
          install_full h = rw (absent new, ← least, le-ltb p 64 offers, carries_below b no_suite, ← place-free, le-ltb j 32 h)

          pub install_done : j < 32 → step f s (Install i x d) ≡ answer DONE (with_slot j (installed i x d) s)
          unfolding step
          install_done h =
              rw (
                absent new,
                ← least,
                le-ltb p 64 offers,
                carries_below b no_suite,
                ← place-free,
                lt-ltb j 32 h,
                amend_place no_suite (λ _. installed i x d) s.slots,
                ← place-free,
              )

    -- ---- remove

    pub remove_absent : 32 ≤ k → step f s (Remove i) ≡ answer NOT_INSTALLED s
    unfolding step
    remove_absent h = rw (absent h)

    module _ (h : k < 32) (r : Session) (read : r ≡ s.session) where
      pub remove_active : r.suite.0 ≡ i.0 → step f s (Remove i) ≡ answer ACTIVE s
      unfolding step
      remove_active e = rw (present h, ← read, eq-eqb _ _ e)

      pub remove_done : (r.suite.0 ≡ i.0 → ⊥) → step f s (Remove i) ≡ answer DONE (with_slot k free s)
      unfolding step
      remove_done n = rw (present h, ← read, ne_eqb _ _ n, amend_place i (λ _. free) s.slots, ← place-i)

    -- ---- start

    module _ (r : Session) (read : r ≡ s.session) (e : r.suite.0 ≡ 0) where
      pub start_absent : 32 ≤ k → step f s (Start i) ≡ answer NOT_INSTALLED s
      unfolding step
      start_absent h = rw (← read, eq-eqb _ _ e, absent h)

      pub start_done : k < 32 → step f s (Start i) ≡ answer DONE (with_session (record { suite = i; decisions = undecided }) s)
      unfolding step
      start_done h = rw (← read, eq-eqb _ _ e, present h)

      pub start_nowhere : 32 ≤ k → None ≡ place_after s (Start i)
      start_nowhere h = rw (← read, eq-eqb _ _ e, absent h)

      pub start_there : k < 32 → Some k ≡ place_after s (Start i)
      start_there h = rw (← read, eq-eqb _ _ e, present h) (found_at h place-i)

  module _ (r : Session) (read : r ≡ s.session) where
    pub start_busy : (i : Suite) → (r.suite.0 ≡ 0 → ⊥) → step f s (Start i) ≡ answer BUSY s
    unfolding step
    start_busy i n = rw (← read, ne_eqb _ _ n)

    pub start_beside : (i : Suite) → (r.suite.0 ≡ 0 → ⊥) → None ≡ place_after s (Start i)
    start_beside i n = rw (← read, ne_eqb _ _ n)

    -- ---- terminate

    pub terminate_idle : r.suite.0 ≡ 0 → step f s Terminate ≡ answer NO_SESSION s
    unfolding step
    terminate_idle e = rw (← read, eq-eqb _ _ e)

    pub terminate_done : (r.suite.0 ≡ 0 → ⊥) → step f s Terminate ≡ answer DONE (with_session idle s)
    unfolding step
    terminate_done n = rw (← read, ne_eqb _ _ n)
