-- Where nobody else steps, what a whole process of `rm` or `gc` has told is told of the state before.
use Rattle.std.proofs.Common.{◌≡◌, ℕ, List, Ok, Err, subst}
use Rattle.dir_model.specs.declared.area.Phase.{Phase}
use Rattle.dir_model.specs.declared.pod.PodId.{PodId}
use Rattle.dir_model.specs.declared.spot.Which.{Which}
use Rattle.dir_model.specs.Calls.{Extends}
use Rattle.dir_model.specs.Quiet.{Quiet, OwnsNothing}
use Rattle.dir_model.specs.Trace.{state_after}
use Rattle.dir_trait.specs.DirCalls.{DirAt}
use Rattle.lifecycle.specs.Executions.{IsConforming}
use Rattle.lifecycle.proofs.Draws.{conforming_left}
use Rattle.pod_gc.specs.RemovalRequests.{removes}
use Rattle.pod_gc.specs.declared.ages.Times.{Times}
use Rattle.pod_gc.specs.Requests.{sweeps}
use Rattle.command_outcomes.specs.declared.refusal.Refusal.TheVariants.{NoPod, WrongPhase, NoManifest, PodBusy}
use Rattle.commands.specs.Rm.{removed_pod_text, HasRemovedPod, HasFoundNoPod, HasFoundWrong, HasFoundNoManifest, HasFoundBusy}
use Rattle.commands.specs.Gc.{HasSweptPods}
use Rattle.commands.specs.RemovalQuiet.{RemovesPodQuietly, SweepsPodsQuietly}
use Rattle.commands.proofs.OwnSteps.{in_process}
use Rattle.commands.proofs.RmQuiet.{rm_gone, rm_none_before}
use Rattle.commands.proofs.RmBefore.{rm_wrong_before, rm_held_before}
use Rattle.commands.proofs.RmFrom.{rm_removable_before}
use Rattle.commands.proofs.RmLacking.{rm_lacked_before}
use Rattle.commands.proofs.RmTable.{rm_unrefused, none_refused, wrong_refused, lacking_refused, rm_busy_refused, rm_wrong}
use Rattle.commands.proofs.GcQuiet.{gc_embryos, gc_moved, gc_kept}
use Rattle.commands.proofs.GcFrom.{gc_had, gc_gone}
use Rattle.commands.proofs.GcTells.{gc_tells}
use Rattle.commands.proofs.GcBusy.{gc_busy}
use Rattle.commands.proofs.GcLeft.{gc_left}
use Rattle.commands.proofs.GcCame.{gc_came}
use Rattle.commands.proofs.GcRested.{gc_rested}
use Rattle.commands.proofs.GcStood.{gc_stood}
use Rattle.commands.proofs.GcWaited.{gc_waited}
use Rattle.commands.proofs.GcAged.{gc_aged}
use Rattle.commands.proofs.GcFits.{gc_fits}
use Rattle.commands.proofs.GcEnds.{gc_stays}
use Rattle.commands.proofs.GcGoes.{gc_goes}
use Rattle.commands.proofs.GcTable.{gc_table}
use Rattle.commands.proofs.GcMovedOn.{gc_moved_on}
use Rattle.commands.proofs.GcWhole.{gc_whole}

module _ (pod : PodId) (now : ℕ) (old new : DirAt) (ext : Extends (in_process (removes pod now)) old.process old.trace new.trace) (quiet : Quiet old.process old.trace new.trace) (idle : OwnsNothing old.process (state_after old.trace).namespace) where
  before : IsConforming new.trace → IsConforming old.trace
  before conforming = conforming_left old.trace quiet.more (subst IsConforming quiet.grown conforming)

  pub rm_removed_quietly : (text : List ℕ) → text ≡ removed_pod_text pod → HasRemovedPod pod old new → RemovesPodQuietly pod old new (Ok text)
  rm_removed_quietly text is done = (is, done, λ conforming. (rm_gone pod done conforming, rm_removable_before pod now ext quiet idle done conforming, rm_unrefused pod now ext quiet idle conforming done))

  pub rm_none_quietly : HasFoundNoPod pod old new → RemovesPodQuietly pod old new (Err NoPod)
  rm_none_quietly found = let none = rm_none_before pod quiet found in (found, none, none_refused old.process pod (state_after old.trace) none)

  pub rm_wrong_quietly : (phase : Phase) → HasFoundWrong pod phase old new → RemovesPodQuietly pod old new (Err (WrongPhase phase))
  rm_wrong_quietly phase found = (
    found,
    λ conforming.
        let has = rm_wrong_before pod now ext quiet phase found.was found.owner conforming in
        (has, wrong_refused old.process pod phase old.trace (rm_wrong pod now ext quiet idle conforming phase found.was) has),
  )

  pub rm_lacking_quietly : (other : PodId) → other ≡ pod → HasFoundNoManifest pod old new → RemovesPodQuietly pod old new (Err (NoManifest other))
  rm_lacking_quietly other is found = (
    is,
    found,
    λ conforming.
        let lacks = rm_lacked_before pod now ext quiet found conforming in
        (lacks, lacking_refused old.process pod old.trace (before conforming) lacks),
  )

  pub rm_busy_quietly : (other : PodId) (which : Which) → other ≡ pod → HasFoundBusy pod which old new → RemovesPodQuietly pod old new (Err (PodBusy other which))
  rm_busy_quietly other which is found = (is, found, rm_held_before pod now ext quiet which found, λ conforming. rm_busy_refused pod now ext quiet idle conforming which found)

pub gc_swept_quietly : (times : Times) (old new : DirAt) (text : List ℕ) → Extends (in_process (sweeps times.now)) old.process old.trace new.trace → Quiet old.process old.trace new.trace → OwnsNothing old.process (state_after old.trace).namespace → HasSweptPods times old new text → SweepsPodsQuietly times old new (Ok text)
gc_swept_quietly times old new text ext quiet idle x = record {
  swept = x;
  tells = λ conforming. gc_tells times x.lines ext quiet x.swept conforming;
  kept = λ conforming. gc_kept times x.lines ext quiet x.swept conforming;
  rested = λ conforming. gc_rested times x.lines ext quiet x.swept idle conforming;
  moved = gc_moved times x.lines ext quiet x.swept;
  had = λ conforming. gc_had times x.lines ext quiet x.swept idle conforming;
  stood = gc_stood times x.lines ext quiet x.swept;
  came = λ conforming. gc_came times x.lines ext quiet x.swept conforming;
  goes_on = λ conforming. gc_goes times x.lines ext quiet x.swept conforming;
  stays = λ conforming. gc_stays times x.lines ext quiet x.swept conforming;
  gone = λ conforming. gc_gone times x.lines ext quiet x.swept idle conforming;
  busy = gc_busy times x.lines ext quiet x.swept;
  left = gc_left times x.lines ext quiet x.swept;
  fits = gc_fits times x.lines ext quiet x.swept;
  waited = gc_waited times x.lines ext quiet x.swept;
  aged = λ conforming. gc_aged times x.lines ext quiet x.swept conforming;
  embryos = gc_embryos times x.lines ext quiet x.swept;
  table = λ conforming. gc_table times x.lines ext quiet x.swept conforming;
  moved_on = λ conforming. gc_moved_on times x.lines ext quiet x.swept conforming x.swept.so.moment;
  whole = λ conforming. gc_whole times x.lines ext quiet x.swept conforming x.swept.so.moment;
}
