-- Where nothing hinders the removal of a pod, `rm` is refused for a failure alone.
use Rattle.std.proofs.Common.{◌≡◌, ℕ, true, false, Ok, Err, IfErr, List, [], ◌∷◌, ◌++◌, sym, ap, subst, ◌∙◌, append_assoc, append-nil, Bool}
use Rattle.dir_model.specs.declared.event.Event.{Event}
use Rattle.dir_model.specs.declared.pod.PodId.{PodId}
use Rattle.dir_model.specs.Calls.{is_finish, Extends}
use Rattle.dir_model.proofs.Moments.{at_within}
use Rattle.dir_trait.specs.DirCalls.{DirAt}
use Rattle.lifecycle.specs.Executions.{IsConforming}
use Rattle.lifecycle.proofs.Draws.{conforming_left}
use Rattle.pod_gc.specs.Hindrances.{IsUnhinderedThroughout}
use Rattle.pod_gc.proofs.Hindrances.{never_gone, never_wrong, never_lacking, never_held}
use Rattle.command_outcomes.specs.declared.refusal.Refusal.{Refusal}
use Rattle.command_outcomes.specs.declared.refusal.Refusal.TheVariants.{NoPod, WrongPhase, NoManifest, PodBusy, DirFault, Stray, NoMemory}
use Rattle.command_outcomes.specs.Moments.{CommandOutcome}
use Rattle.commands.specs.Opening.{opens}
use Rattle.commands.specs.Rm.{rm_refusal, RmSays, WhereRemovingPod, FailsAlone, FailsFor}

-- by what it says
pub rm_complete : {observed : Bool} (pod : PodId) (now : ℕ) (old new : DirAt) (r : Refusal) → rm_refusal r ≡ true → RmSays observed pod now old new (Err r) → WhereRemovingPod observed pod now old (FailsAlone pod old new r)
rm_complete pod now old new NoPod may says t s k m conforming free = absurd (never_gone pod old.process old.trace new.trace free ((says t).nowhere conforming))
rm_complete pod now old new (WrongPhase p) may says t s k m conforming free = absurd (never_wrong pod old.process old.trace new.trace free p (says.was t conforming) (λ owned. says.owner t s k m conforming owned))
rm_complete pod now old new (NoManifest other) may says t s k m conforming free = absurd (never_lacking pod old.process old.trace new.trace free (says.1 t conforming))
rm_complete pod now old new (PodBusy other which) may says t s k m conforming free = absurd (never_held pod old.process old.trace new.trace free which (says.1 t s k m).busy)
rm_complete pod now old new DirFault may says t s k m conforming free = tt
rm_complete pod now old new Stray may says t s k m conforming free = says.1 t s k m conforming
rm_complete pod now old new NoMemory may says t s k m conforming free = tt
rm_complete pod now old new r may says t s k m conforming free = let clash : false ≡ true = may in cc

pub rm_completes : (observed : Bool) (pod : PodId) (now : ℕ) (old new : DirAt) (o : CommandOutcome) → IfErr o (λ r. rm_refusal r ≡ true) → RmSays observed pod now old new o → IfErr o (λ r. WhereRemovingPod observed pod now old (FailsAlone pod old new r))
rm_completes observed pod now old new (Ok text) may says = tt
rm_completes observed pod now old new (Err r) may says = rm_complete pod now old new r may says

-- what hinders nowhere in the whole hinders nowhere in a part
pub unhindered_part : {pod : PodId} {me : ℕ} {old begun ended new : List Event} (more rest : List Event) → begun ≡ old ++ more → new ≡ ended ++ rest → IsUnhinderedThroughout pod me old new → IsUnhinderedThroughout pod me begun ended
unhindered_part {pod} {me} {old} {begun} {ended} {new} more rest first last free before later left step begins ends own =
    let x = free before (more ++ later) (left ++ rest) step (begins ∙ (ap (λ (h : List Event). h ++ later) first ∙ append_assoc old more later))
    (last ∙ (ap (λ (h : List Event). h ++ rest) ends ∙ append_assoc (before ++ step ∷ []) left rest)) own in
    record { exists = x.exists; manifest = x.manifest; unheld = λ folder which its. x.unheld folder which (its.0, at_within more [] first (sym (append-nil (before ++ step ∷ []))) its.1) }

-- of a part of a whole process
pub fails_alone : (pod : PodId) (r : Refusal) (old begun ended new : DirAt) → Extends opens begun.process old.trace begun.trace → Extends is_finish begun.process ended.trace new.trace → begun.process ≡ old.process → FailsAlone pod begun ended r →
    IsConforming new.trace → IsUnhinderedThroughout pod old.process old.trace new.trace → FailsFor r begun.process begun.trace ended.trace
fails_alone pod r old begun ended new b f same alone conforming free =
    alone (conforming_left ended.trace f.more (subst IsConforming f.grown conforming))
    (subst (λ (p : ℕ). IsUnhinderedThroughout pod p begun.trace ended.trace) (sym same) (unhindered_part b.more f.more b.grown f.grown free))
