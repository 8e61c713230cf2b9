-- What the contracts of `read_event` and `write_event` leave: one outcome for each input; the lent bytes as they were where a
-- write is refused; and both round trips, with no premise but that the write was done. Assumes nothing.
use mathlib.Core.Path.{◌≡◌, refl, sym, ap, ◌∙◌}
use mathlib.Core.Bool.{Bool, true, false, not, cond, true≢false}
use mathlib.Core.Logic.{◌⊎◌, inl, inr, ⊎_elim}
use mathlib.Core.List.{List}
use Prim.Native.Nat.{ℕ}
use lib.ListN.{length}
use lib.Dec.{eqb}
use Rattle.device.specs.declared.Event.{Event}
use Rattle.device.specs.declared.Response.{Response}
use Rattle.model.specs.Events.{write_event, carried, read_event, event_size}
use Rattle.device.specs.Answers.{refused, DONE, BAD_EVENT, BAD_LENGTH}
use Rattle.model.specs.Calls.{reading, read_call, leaving, write_call}
use Rattle.model.proofs.Calls.{one_outcome}
use Rattle.model.proofs.RoundTrip.{written_back, read_back}

pub read_unique : (bytes : List ℕ) {e e' : Event} → reading e ≡ read_call bytes → reading e' ≡ read_call bytes → e ≡ e'
read_unique bytes p q = ap (λ r. r.event) (p ∙ sym q)

module _ (event : Event) (entry : List ℕ) {exit : List ℕ} {r : Response} (wrote : leaving exit r ≡ write_call event entry) where
  pub write_unique : {exit' : List ℕ} {r' : Response} → leaving exit' r' ≡ write_call event entry → (exit ≡ exit') × (r ≡ r')
  write_unique q = one_outcome wrote q

  -- refused, or done
  either : ((refused r ≡ true) × (exit ≡ entry)) ⊎ ((refused r ≡ false) × (carried event ≡ true) × (exit ≡ write_event event))
  unfolding write_call
  either = go (carried event) (eqb (length entry) event_size) refl wrote
    where
      go : (c t : Bool) → carried event ≡ c
          → leaving exit r ≡ cond (not c) (leaving entry BAD_EVENT)
          (cond (not t) (leaving entry BAD_LENGTH) (leaving (write_event event) DONE))
          → ((refused r ≡ true) × (exit ≡ entry)) ⊎ ((refused r ≡ false) × (carried event ≡ true) × (exit ≡ write_event event))
      go false t e p = inl (ap (λ c. refused c.response) p, ap (λ c. c.bytes) p)
      go true false e p = inl (ap (λ c. refused c.response) p, ap (λ c. c.bytes) p)
      go true true e p = inr (ap (λ c. refused c.response) p, e, ap (λ c. c.bytes) p)

  pub write_refused : refused r ≡ true → exit ≡ entry
  write_refused h = ⊎_elim (λ no. no.1) (λ yes. absurd (true≢false (sym h ∙ yes.0))) either

  pub write_done : refused r ≡ false → (carried event ≡ true) × (exit ≡ write_event event)
  write_done h = ⊎_elim (λ no. absurd (true≢false (sym no.0 ∙ h))) (λ yes. (yes.1, yes.2)) either

  -- a record that was read, written back
  pub record_back : (bytes : List ℕ) → reading event ≡ read_call bytes → refused r ≡ false → exit ≡ bytes
  record_back bytes p h =
      let (c, e) = write_done h in
      let q = ap (λ r. r.event) p in
      e ∙ ap write_event q ∙ written_back bytes (rw q at c)

  -- an event that was written, read back
  pub event_back : {event' : Event} → reading event' ≡ read_call exit → refused r ≡ false → event' ≡ event
  event_back p h =
      let (c, e) = write_done h in
      ap (λ r. r.event) p ∙ ap read_event e ∙ read_back event c
