-- `prepare IMAGE..`, as a whole process of it.
use Rattle.std.specs.Prelude.{◌≡◌, ◌⊎◌, ◌||◌, ◌==◌, ℕ, true, false, [], Some, Bool}
use Rattle.dir_model.specs.declared.area.Area.{Area}
use Rattle.dir_model.specs.declared.intent.Draw.{Draw}
use Rattle.dir_model.specs.declared.intent.Kind.TheVariants as kind
use Rattle.dir_model.specs.declared.pod.PodId.{PodId}
use Rattle.dir_model.specs.declared.request.DirError.TheVariants.{Failed, NoMemory}
use Rattle.dir_model.specs.declared.request.Reply.TheVariants.{Refused}
use Rattle.dir_trait.specs.DirCalls.{DirAt}
use Rattle.command_outcomes.specs.declared.refusal.Refusal.{Refusal}
use Rattle.command_outcomes.specs.declared.refusal.Refusal.TheVariants.{Busy}
use Rattle.command_outcomes.specs.Moments.{Moment}
use Rattle.commands.specs.Answers.{WritesOf}
use Rattle.commands.specs.Opening.{directly}
use Rattle.commands.specs.Phases.{names_none}
use Rattle.commands.specs.Command.{Command, nothing, alone, intent_for, WhereObserved, WhereAllKeepRules}
use Rattle.commands.specs.Prepare.{pod_line, prepares_pod, HasBrought, HasKeptFolder, HasSynced, IsAreaHeld, IsFaithful, PrepareSays, RefusesPod}
use Rattle.commands.specs.PrepareQuiet.{PreparesQuietly, is_making_spot}
use Rattle.commands.specs.PrepareRefusals.{prepare_refusal}
use Rattle.commands.specs.NextState.{LeavesBeside}
use Rattle.commands.specs.Wants.{Wants}

-- why the pod wasn't prepared, by its own reads and answers; and where a lock was refused, another process held it exclusively at an
-- own step
pub record RefusesPrepare (observed : Bool) (wants : Wants) (now : ℕ) (draw : Draw) (refusal : Refusal) (old new : DirAt) : Type 0 where
  pub own : prepare_refusal refusal ≡ true
  pub why : RefusesPod observed wants now draw old new refusal
  pub held : (area : Area) → refusal ≡ Busy area → observed ≡ true → IsAreaHeld area old new

-- with status 0 and 12 it brought the pod to prepared and synced that area; with 9 it may have, and the sync was refused; with 14 it may
-- have, and memory ran out at the sync or later. Else, and only with another status than 0 and 12, it left at most its own folder in
-- embryo or in prepare; in each case it held no lock
abbrev pub LeavesPod : PodId → ℕ → DirAt → DirAt → Type 0
LeavesPod draw status old new =
    (((status ≡ 0) ⊎ (status ≡ 12)) × HasSynced draw old new)
    ⊎ ((status ≡ 9) × HasBrought draw (Refused Failed 0) old new)
    ⊎ ((status ≡ 14) × (HasSynced draw old new ⊎ HasBrought draw (Refused NoMemory 0) old new))
    ⊎ ((((status == 0) || (status == 12)) ≡ false) × HasKeptFolder draw old new)

-- with status 0 it wrote the drawn name, and before that it brought the pod to prepared and synced that area; and where every process
-- keeps the local rules, the pod that is wanted was prepared faithfully. With each status it left what that says
pub record TellsPrepare (wants : Wants) (draw : Draw) (status : ℕ) (old new : Moment) : Type 0 where
  pub synced : WhereObserved old (status ≡ 0 → WritesOf (λ text. (text ≡ pod_line draw.uuid) × HasSynced draw.uuid old.outside.dir new.outside.dir) old new)
  pub left : WhereObserved old (LeavesPod draw.uuid status old.outside.dir new.outside.dir)
  pub faithful : WhereAllKeepRules old new (status ≡ 0 → WritesOf (λ text. (text ≡ pod_line draw.uuid) × IsFaithful wants draw.uuid old.outside.dir new.outside.dir) old new)

-- it asks for the locks of images and embryo, for reads of images, for its own folder, its lock and its moves, and for the sync of prepared
abbrev pub prepare_command : Wants → Command
prepare_command wants = record {
  begins = Some (intent_for kind.Prepare []);
  approach = directly;
  asks = λ now draw. prepares_pod draw.uuid;
  reads = nothing;
  prints = λ draw bundle text. text ≡ pod_line draw.uuid;
  refusals = prepare_refusal;
  refused_for = λ now draw refusal old new. RefusesPrepare old.outside.observed wants now draw refusal old.outside.dir new.outside.dir;
  names = names_none;
  tells = λ now draw status old new. TellsPrepare wants draw status old new;
  quiet = λ now draw old new o. PreparesQuietly old.outside.observed wants now draw old.outside.dir new.outside.dir o;
  leaves = λ me draw old new. LeavesBeside (is_making_spot draw.uuid) me old new;
  says = alone (λ now draw old new o. PrepareSays old.observed wants now draw old.dir new.dir o);
}
