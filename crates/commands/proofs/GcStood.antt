-- Where nobody else steps, a sweep's line of a place from which pods are moved is of one that stood there before.
use Rattle.std.proofs.Common.{◌≡◌, ℕ, true, Some, List, sym, ap, subst, ◌∙◌}
use Rattle.std.specs.List.{AllByRecursion}
use Rattle.dir_model.specs.declared.area.Area.{Area}
use Rattle.dir_model.specs.declared.event.Event.{Event}
use Rattle.dir_model.specs.declared.pod.PodId.{PodId}
use Rattle.dir_model.specs.Areas.{is_stage}
use Rattle.dir_model.specs.Calls.{Extends}
use Rattle.dir_model.specs.Quiet.{Quiet}
use Rattle.dir_model.specs.State.{stands}
use Rattle.dir_model.specs.Trace.{state_after}
use Rattle.dir_model.specs.Spots.{pod_spot}
use Rattle.pod_locks.specs.Work.{Grew}
use Rattle.pod_locks.proofs.Traces.{grown_more, grown_by}
use Rattle.pod_gc.specs.declared.ages.Times.{Times}
use Rattle.pod_gc.specs.declared.line.GcLine.{GcLine}
use Rattle.pod_gc.specs.Requests.{moves_pods, sweeps}
use Rattle.pod_gc.specs.Told.{IsLineOfTurn, TellsShown}
use Rattle.command_outcomes.specs.Meanwhile.{Meanwhile}
use Rattle.commands.specs.Gc.{SweepsByPasses}
use Rattle.commands.specs.RemovalQuiet.{StoodAsBefore}
use Rattle.commands.proofs.OwnSteps.{in_process, back_from}
use Rattle.commands.proofs.GcQuiet.{each_shown, stood_back}
use Rattle.commands.proofs.GcTurn.{stood_listed}

module _ (times : Times) (lines : List GcLine) {me : ℕ} {old new : List Event} (ext : Extends (in_process (sweeps times.now)) me old new) (quiet : Quiet me old new) (m : Meanwhile (SweepsByPasses times lines) me old new) where
  told_stood : {Can : Type 0} (here : Area) → is_stage here ≡ true → (ls : List GcLine) (a b : List Event) → Grew old a → Grew b new → (t : TellsShown Can times here ls me a b) → (line : GcLine) → IsLineOfTurn Can times here t.names line me t.listed b → StoodAsBefore old line
  told_stood {Can} here stage ls a b to_a from_b t line x pod is moves =
      let same : x.shown ≡ pod = let e : Some x.shown ≡ Some pod = sym x.pod_is ∙ is in cc in
      let moved : moves_pods here ≡ true = sym (ap moves_pods x.place_is) ∙ moves in
      let stood = back_from (λ s. stands s.namespace (pod_spot x.shown here) ≡ true) (in_process (sweeps times.now)) me (λ s request reply h there. stood_back times.now x.shown here moved me s request reply h there) t.listed
      (grown_more to_a (grown_by t.only_lists)) (grown_more (grown_by t.tells.only) from_b) ext quiet (stood_listed stage quiet to_a from_b t x) in
      subst (λ (p : Area). stands (state_after old).namespace (pod_spot pod p) ≡ true) (sym x.place_is) (subst (λ (q : PodId). stands (state_after old).namespace (pod_spot q here) ≡ true) same stood)

  pub gc_stood : AllByRecursion (StoodAsBefore old) lines
  gc_stood = each_shown times lines ext quiet m (StoodAsBefore old) (λ Can can here stage ls a b to_a from_b t line x. told_stood here stage ls a b to_a from_b t line x) (λ pod is moves. cc)
