-- From the monitor's contracts to the boundary's: laws that docs/PORT.md names. Assumes nothing.
use Prim.Native.Nat.{ℕ}
use mathlib.Core.Path.{◌≡◌, ap, ap₂, ◌∙◌}
use mathlib.Core.List.{List}
use Rattle.device.specs.declared.Response.{Response}
use Rattle.model.specs.Calls.{Called, leaving, Ran, counted}
use Rattle.export.specs.Packed.{packed, sent, packed_call, sent_run, packed_run}

pub crossed : {n : ℕ} {r : Response} {b : List ℕ} {c : Called} → n ≡ packed r → leaving b r ≡ c → sent n b ≡ packed_call c
crossed {b = b} e f = ap (λ n. sent n b) e ∙ ap packed_call f

pub run_crossed : {n k j : ℕ} {r : Response} {b out : List ℕ} {c : Ran} → n ≡ packed r → k ≡ j → counted r j b out ≡ c
    → sent_run n k b out ≡ packed_run c
run_crossed {b = b} {out = out} e q f = ap₂ (λ n k. sent_run n k b out) e q ∙ ap packed_run f
