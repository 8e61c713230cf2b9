-- 000 (39), for every event record, and every run of them: the monitor's step is the paper's, but for the departures listed.
-- Assumes nothing.
use Prim.Native.Nat.{ℕ}
use native.Mathlib.Omega.{arith}
use mathlib.Core.Path.{◌≡◌, refl}
use mathlib.Core.Bool.{true, false}
use mathlib.Core.List.{List, [], ◌∷◌}
use lib.Dec.{ltb}
use borrow.Author.Tests.{ne_eqb, ltb-true}
use Rattle.device.specs.declared.Suite.{Suite}
use Rattle.device.specs.declared.Event.{Event}
use Rattle.device.specs.declared.Event.TheVariants.{Unreadable, Install, Remove, Start, Terminate, Request}
use Rattle.device.specs.Device.{is_suite, no_suite, same_suite}
use Rattle.model.specs.Policy.{Fixed}
use Rattle.model.specs.State.{State}
use Rattle.model.specs.Valid.{valid}
use Rattle.model.specs.Events.{carried, read_event}
use Rattle.model.specs.Step.{step}
use Rattle.model.proofs.Tests.{both}
use Rattle.model.proofs.RoundTrip.{read_event_lem}
use Rattle.model.proofs.Kept.{record_kept}
use Rattle.paper.specs.Published
use Rattle.paper.specs.Refinement.{◌⊑◌, state_of, unreadable, departs, Simulated, Traced}
use Rattle.paper.proofs.Events.{start_follows, terminate_follows, install_follows, remove_follows}
use Rattle.paper.proofs.Requests.{request_follows}

-- (40)
pub refined : (s : State) → state_of s ⊑ s
refined s = record { suite = refl; session = refl; granted = λ i n k. refl; revoked = λ i n k. refl }

module _ (f : Fixed) where
  module _ (S : Published.State) (s : State) (v : valid f s ≡ true) (h : S ⊑ s) where
    numbered : (i : Suite) → is_suite i ≡ true → same_suite i no_suite ≡ false
    numbered i k = let n = ltb-true 0 i.0 (both (ltb 0 i.0) (ltb i.0 65536) k).0 in ne_eqb i.0 0 (λ e. omega arith)

    event_follows : (e : Event) → carried e ≡ true → Simulated f S s e (step f s e)
    unfolding step
    event_follows Unreadable c = (S, departs unreadable, h)
    event_follows (Install i x d) c = install_follows f s v S h i x d (numbered i (both (is_suite i) _ c).0)
    event_follows (Remove i) c = remove_follows f s v S h i (numbered i c)
    event_follows (Start i) c = start_follows f s v S h i (numbered i c)
    event_follows Terminate c = terminate_follows f s v S h
    event_follows (Request p u) c = request_follows f s v S h p c u

    pub simulation : (b : List ℕ) → Simulated f S s (read_event b) (step f s (read_event b))
    unfolding step
    simulation b = read_event_lem (λ e. Simulated f S s e (step f s e)) b (S, departs unreadable, h) event_follows

  pub traced : (S : Published.State) (s : State) → valid f s ≡ true → S ⊑ s → (bs : List (List ℕ)) → Traced f S s bs
  traced S s v h [] = tt
  traced S s v h (b ∷ bs) =
      let (S', x, k) = simulation S s v h b in
      (S', x, k, traced S' (step f s (read_event b)).state (record_kept f s v b) k bs)
