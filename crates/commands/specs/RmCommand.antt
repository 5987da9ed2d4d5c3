-- `rm POD`, as a whole process of it.
use Rattle.std.specs.Prelude.{◌≡◌, ◌⊎◌, ◌==◌, ℕ, Bool, true, List, [], ◌∷◌, Some}
use Rattle.std.specs.List.{list_any}
use Rattle.dir_model.specs.declared.intent.Kind.TheVariants as kind
use Rattle.dir_model.specs.declared.pod.PodId.{PodId}
use Rattle.dir_trait.specs.DirCalls.{DirAt}
use Rattle.phase_read.specs.Read.{is_pod_spot}
use Rattle.pod_gc.specs.Hindrances.{IsUnhinderedThroughout}
use Rattle.pod_gc.specs.RemovalRequests.{removes}
use Rattle.command_outcomes.specs.declared.refusal.Refusal.{Refusal}
use Rattle.command_outcomes.specs.declared.refusal.Refusal.TheVariants.{NoPod, WrongPhase, NoManifest, PodBusy, Stray}
use Rattle.command_outcomes.specs.Moments.{Moment}
use Rattle.commands.specs.Answers.{WritesOf}
use Rattle.commands.specs.Kept.{KeepsRefused, RemovesNoneUnlessDone}
use Rattle.commands.specs.Opening.{OnceFound, approach_of}
use Rattle.commands.specs.Phases.{names_refused}
use Rattle.commands.specs.Command.{Command, nothing, alone, intent_for, WhereObserved, WhereAllKeepRules}
use Rattle.commands.specs.RemovalHistory.{ExistedThenGone}
use Rattle.commands.specs.RemovalQuiet.{RemovesPodQuietly}
use Rattle.commands.specs.Rm.{rm_refusal, removed_pod_text, HasFoundBusy, HasFoundNoManifest, HasFoundNoPod, HasFoundWrong, HasMetStrayAtPod, HasRemovedPod, RmSays}
use Rattle.commands.specs.NextState.{LeavesBeside}
use Rattle.impossible_replies.specs.Replies.{AppWroteOn}
use Rattle.commands.specs.Strays.{ComesOfApp}

-- the pod was found nowhere; it had this phase at an own event, which doesn't allow its removal, by another process's doing where that
-- phase has an owner; it stood in prepared without its manifest; another process held that lock of it; or an answer came that what the
-- locks keep doesn't explain, or the pod was found and missed six times, but where every process keeps the local rules only that a started
-- app wrote on
abbrev pub RefusesRm : Bool → PodId → Refusal → DirAt → DirAt → Type 0
RefusesRm observed pod NoPod old new = observed ≡ true → HasFoundNoPod pod old new
RefusesRm observed pod (WrongPhase phase) old new = observed ≡ true → HasFoundWrong pod phase old new
RefusesRm observed pod (NoManifest other) old new = (other ≡ pod) × (observed ≡ true → HasFoundNoManifest pod old new)
RefusesRm observed pod (PodBusy other which) old new = (other ≡ pod) × (observed ≡ true → HasFoundBusy pod which old new)
RefusesRm observed pod Stray old new = observed ≡ true → HasMetStrayAtPod pod old new × OnceFound ComesOfApp old.process old.trace new.trace
RefusesRm observed pod refusal old new = ⊥

-- how a removal of a pod ends that nothing hinders: it is done, or the directory failed, its line wasn't written or memory ran out; or a
-- started app wrote on that had outlived its owner
abbrev pub is_removal_end : ℕ → Bool
is_removal_end status = list_any (λ n. n == status) (0 ∷ 9 ∷ 12 ∷ 14 ∷ [])

abbrev pub EndsUnhindered : ℕ → DirAt → DirAt → Type 0
EndsUnhindered status old new = (is_removal_end status ≡ true) ⊎ ((status ≡ 20) × AppWroteOn old.process old.trace new.trace)

-- with status 0 it wrote that the pod is removed, and removed it, or found it gone after it had been there. Where every process keeps the
-- local rules, the pod existed then at a moment of the call, and is gone at its end, for good; and if nothing hinders its removal after any
-- own step, it ends so. Where it isn't done, it removed no folder
pub record TellsRm (pod : PodId) (status : ℕ) (old new : Moment) : Type 0 where
  pub removed : WhereObserved old (status ≡ 0 → WritesOf (λ text. (text ≡ removed_pod_text pod) × HasRemovedPod pod old.outside.dir new.outside.dir) old new)
  pub gone : WhereAllKeepRules old new (status ≡ 0 → WritesOf (λ text. (text ≡ removed_pod_text pod) × ExistedThenGone pod old.outside.dir.trace new.outside.dir.trace) old new)
  pub complete : WhereAllKeepRules old new (IsUnhinderedThroughout pod old.outside.dir.process old.outside.dir.trace new.outside.dir.trace → EndsUnhindered status old.outside.dir new.outside.dir)
  pub kept : WhereObserved old (RemovesNoneUnlessDone status old new)

-- it looks for the pod, asks for its locks, its mark and its moves to a garbage place, and for its deletion there
abbrev pub rm_command : List ℕ → PodId → Command
rm_command word pod = record {
  begins = Some (intent_for kind.Rm word);
  approach = approach_of word;
  asks = λ now draw. removes pod now;
  reads = nothing;
  prints = λ draw bundle text. text ≡ removed_pod_text pod;
  refusals = rm_refusal;
  refused_for = λ now draw refusal old new. RefusesRm old.outside.observed pod refusal old.outside.dir new.outside.dir;
  names = names_refused pod;
  tells = λ now draw status old new. TellsRm pod status old new;
  quiet = λ now draw old new o. RemovesPodQuietly pod old.outside.dir new.outside.dir o;
  leaves = λ me draw old new. LeavesBeside (is_pod_spot pod) me old new;
  says = alone (λ now draw old new o. RmSays old.observed pod now old.dir new.dir o × KeepsRefused old.observed old.dir new.dir o);
}
