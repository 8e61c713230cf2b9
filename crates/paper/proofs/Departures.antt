-- Each departure of document 01 is real: the paper's relation has no step there. And the one place where the paper leaves the
-- response open. Assumes nothing.
use Prim.Native.Nat.{ℕ}
use mathlib.Core.Path.{◌≡◌, refl, sym, ◌∙◌}
use mathlib.Core.Logic.{inl, inr}
use mathlib.Core.Option.{Option, none, some}
use mathlib.Core.Bool.{true, false, true≢false}
use Rattle.device.specs.declared.Suite.{Suite}
use Rattle.device.specs.declared.Permission.{Permission}
use Rattle.device.specs.declared.Domain.{Domain}
use Rattle.device.specs.declared.Mode.{Mode}
use Rattle.device.specs.declared.Mode.TheVariants.{Oneshot as oneshot, Session as session, Blanket as blanket}
use Rattle.device.specs.declared.UserAnswer.TheVariants.{None}
use Rattle.device.specs.declared.Descriptor.{Descriptor}
use Rattle.device.specs.declared.Slot.{Slot}
use Rattle.device.specs.declared.Event.TheVariants.{Request}
use Rattle.device.specs.Device.{is_permission}
use Rattle.model.specs.Policy.{Fixed}
use Rattle.device.specs.Cells.{offered, admits}
use Rattle.model.specs.State.{State, carries}
use Rattle.model.specs.Valid.{declared}
use Rattle.device.specs.Answers.{NO_RIGHT}
use Rattle.model.specs.Decision.{decision}
use Rattle.model.specs.Step.{running_slot, lacking, judged, request, step}
use Rattle.model.proofs.Slots.{find_suite}
use Rattle.paper.specs.Published
use Rattle.paper.specs.Published.{Answers, Exec, npre, pre}
use Rattle.paper.specs.Refinement.{policy_of, descriptor_of, suite_of, info_of, ◌⊑◌}
use Rattle.paper.proofs.Cells.{Asking, asked_offered, asks, offered_so}
use Rattle.paper.proofs.Decided.{out, is_declared, declares}
use Rattle.paper.proofs.Refined.{as_slot}
use Rattle.paper.proofs.Events.{may_install}
use Rattle.paper.proofs.Running.{Running, there, session_is, granted_is, revoked_is, my_suite, for_me, runs_me}
use Rattle.paper.proofs.Running.{reads, now, kept}
use Rattle.paper.proofs.Requests.{Unasked}

-- 24: the paper installs the suite, and no state of the paper that has it stands for this one
pub full_real : (f : Fixed) (s : State) (S : Published.State) → S ⊑ s → (i : Suite) (x : Descriptor) (d : Domain)
    → carries i s.slots ≡ false → is_permission (lacking f x d) ≡ false
    → {r : Option Published.Response} {S' : Published.State} → Exec (policy_of f) S (Published.install i (descriptor_of x) d) r S'
    → ¬ S' ⊑ s
full_real f s S h i x d new offers (npre n) t = n (may_install f x d h i new offers)
full_real f s S h i x d new offers (pre _ q) t = true≢false (sym (as_slot t q.lower.3).1 ∙ new)

module _ {f : Fixed} {s : State} {S : Published.State} (k : Running f s S) (p : Permission) (is : is_permission p ≡ true) where
  abbrev me : Slot
  me = running_slot s

  abbrev c : ℕ
  c = f.cell me.domain p

  -- 26: the paper has no response but `denied`
  pub undeclared_real : declared me p ≡ false → {r : Option Published.Response} {S' : Published.State}
      → Exec (policy_of f) S (Published.request p none) r S' → r ≡ some Published.denied
  undeclared_real n (npre t) =
      absurd (t (runs_me k (Unasked k p is) (λ dec. absurd (true≢false (sym (is_declared p me dec) ∙ n)))))
  undeclared_real n (pre _ q) =
      let a = q.1 (info_of s.session) (suite_of me) (session_is k) (my_suite k) (find_suite _ s.slots (there k)) in
      a.undeclared (λ t. true≢false (sym (is_declared p me (inl t)) ∙ n)) (λ t. true≢false (sym (is_declared p me (inr t)) ∙ n))

  -- a declared permission that the domain does not offer: the paper takes every response, `allowed` too; 01 has 27
  module _ (dec : declared me p ≡ true) (closed : offered c ≡ false) where
    pub no_right : (step f s (Request p None)).response ≡ NO_RIGHT
    unfolding step request judged decision
    no_right = rw (k.run, dec, closed)

    not_asked : ¬ Asking c
    not_asked t = true≢false (sym (asked_offered c t) ∙ closed)

    pub left_open : (r : Option Published.Response) → Exec (policy_of f) S (Published.request p none) r S
    left_open r = pre (runs_me k (Unasked k p is) (λ _ m e. absurd (not_asked (m, e)))) (
      refl,
      for_me k (λ ses ms. Answers (policy_of f) S ses ms p r) (record {
        undeclared = λ n m. elim (declares p is me dec) [ inl t ↦ absurd (n t) | inr t ↦ absurd (m t) ];
        by_domain = λ _ e. absurd (true≢false (sym (offered_so c (inl e)) ∙ closed));
        ses_granted = λ _ t. none_stands session ((now k p is).granted (out p _ t)).1;
        granted = λ _ t. none_stands blanket ((kept k p is).granted (reads k p is _ (granted_is k) t)).1;
        ses_revoked = λ _ t. none_stands oneshot ((now k p is).revoked (out p _ t)).1;
        revoked = λ _ t. none_stands oneshot ((kept k p is).revoked (reads k p is _ (revoked_is k) t)).1;
      }),
    )
      where
        none_stands : {A : Type 0} (m : Mode) → admits c m ≡ true → A
        none_stands m e = absurd (not_asked (asks c m e))
