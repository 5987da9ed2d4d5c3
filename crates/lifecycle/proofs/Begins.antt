-- A process begins.
use Rattle.std.proofs.Common.{◌≡◌, inl, inr, ℕ, Bool, true, false, not, ◌==◌, cond, List, [], ◌∷◌, ◌++◌, refl, sym, ap, subst, ◌∙◌}
use Rattle.std.proofs.lemmas.Bool.{and_parts}
use Rattle.plain_laws.proofs.Booleans.{clash}
use Rattle.dir_model.specs.declared.opening.Opening.{Opening}
use Rattle.dir_model.specs.declared.request.Request.TheVariants.{Begin}
use Rattle.dir_model.specs.State.{Namespace, has_begun, has_ended}
use Rattle.dir_rules.specs.Standing.{nothing_standing, standing_done}
use Rattle.lifecycle.specs.declared.machine.PodState.{PodState}
use Rattle.dir_rules.specs.declared.standing.Standing.{Standing}
use Rattle.lifecycle.proofs.Lists.{In}
use Rattle.lifecycle.proofs.Handles.{Sound}
use Rattle.lifecycle.proofs.Linked.{Bare, own, mine}
use Rattle.lifecycle.proofs.Invariant.{Pod, Knows, others_still}
use Rattle.dir_model.specs.declared.intent.Intent.{Intent}
use Rattle.dir_model.specs.declared.intent.Start.{Start}
use Rattle.dir_model.proofs.Lists.{same_number}

abbrev pub and_begun : Namespace → Start → Namespace
and_begun n b = record n { begun = n.begun ++ b ∷ [] }

pub begin_pod : (u : List ℕ) (n : Namespace) (s : PodState) (b : Start) → Pod u n s → Pod u (and_begun n b) s
begin_pod u n s b pod = record { number = pod.number; at = pod.at; named = pod.named; owns = pod.owns; held = pod.held }

none_mine : (p : ℕ) (os : List Opening) → ((o : Opening) → In o os → (o.process == p) ≡ false) → mine p os ≡ []
none_mine p [] off = refl
none_mine p (x ∷ os) off = ap (λ (l : List Bare). l ++ cond (x.process == p) (own x ∷ []) [])
    (none_mine p os (λ o i. off o (inr i))) ∙ ap (λ b. [] ++ cond b (own x ∷ []) []) (off x (inl refl))

unborn_mine : (n : Namespace) (p : ℕ) → Sound n → has_begun n p ≡ false → mine p n.openings ≡ []
unborn_mine n p sound unborn = none_mine p n.openings (λ o i. by o i (o.process == p) refl)
  where
    by : (o : Opening) → In o n.openings → (b : Bool) → (o.process == p) ≡ b → (o.process == p) ≡ false
    by o i false e = e
    by o i true e = clash (has_begun n p) (subst (λ (q : ℕ). has_begun n q ≡ true) (same_number o.process p e)
        (and_parts (has_begun n o.process) (not (has_ended n o.process)) (sound.living o i)).0) unborn

pub begin_knows : (u : List ℕ) (n : Namespace) (s : PodState) (p : ℕ) (intent : Intent) → Sound n →
    has_begun n p ≡ false → Knows u p (and_begun n (record { process = p; intent = intent })) s
    (standing_done nothing_standing (Begin intent))
begin_knows u n s p intent sound unborn = record {
  linked = sym (unborn_mine n p sound unborn);
  embryo_under_lock = λ g d. absurd (cc);
  gates = λ g. absurd (cc);
  owned = λ e x. absurd (cc);
  covered = λ h i o c. absurd i;
  seen_unowned = λ a x. absurd (cc);
  seen_unowned_under_claim = λ x. absurd (cc);
}

pub knows_begun : (u : List ℕ) (n : Namespace) (b : Start) (q : ℕ) (s : PodState) (k : Standing) → Knows u q n s k →
    Knows u q (and_begun n b) s k
knows_begun u n b q s k knows = others_still u q n (and_begun n b) s k refl (λ c r e none. none) knows
