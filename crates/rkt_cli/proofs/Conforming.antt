-- A run of the program keeps the local rules.
use Rattle.std.proofs.Common.{◌≡◌, inl, inr, ℕ, Bool, true, Option, Some, None, refl, sym, ap, subst, ◌∙◌}
use Rattle.dir_files.specs.AreaLocks.{is_free_of}
use Rattle.dir_model.specs.declared.area.Area.TheVariants.{Images}
use Rattle.dir_model.specs.declared.intent.Draw.{Draw}
use Rattle.dir_model.specs.declared.intent.Intent.{Intent}
use Rattle.dir_model.specs.declared.request.Request.{Request}
use Rattle.dir_model.specs.declared.request.Request.TheVariants.{Finish}
use Rattle.dir_model.specs.declared.request.Reply.TheVariants.{Done}
use Rattle.dir_rules.specs.declared.seen.Seen.{Seen}
use Rattle.dir_rules.specs.Conforms.{Conforms, IsTied, seen_replied}
use Rattle.dir_rules.proofs.Tied.{tied_call}
use Rattle.dir_rules.proofs.Unborn.{refused_unseen}
use Rattle.dir_trait.specs.DirCalls.{DirAt}
use Rattle.dir_trait.specs.Knowledge.{Knows}
use Rattle.pod_report.specs.Requests.{OnlyAsksFor}
use Rattle.rkt_cli.specs.Tasks.{Task}
use Rattle.command_outcomes.specs.Moments.{Outside, Moment, CommandOutcome}
use Rattle.command_outcomes.specs.Conforming.{seen_at_begin, KeepsRules, StaysConforming, KeepsConforming}
use Rattle.rkt_cli.specs.Commands.{intent_of}
use Rattle.rkt_cli.specs.Runs.{Performs, InProcess, NeverBegan, RunsTaskOrNothing, IsRunOfTask}

-- what knows all that it knew keeps them, where it had no handle open on the lock of the images
pub list_conforming : (intent : Intent) (observed : Bool) (old new : DirAt) → ((s : Seen) → Knows old s → is_free_of Images s ≡ true → Knows new s) → StaysConforming intent old new
list_conforming intent observed old new known k =
    let l = known (seen_at_begin intent) k refl in
    record { known = seen_at_begin intent; knows = l; kept = refl }

-- and a report
pub report_conforming : (intent : Intent) (observed : Bool) {asks : Request → Bool} (old new : DirAt) → OnlyAsksFor observed asks old new → observed ≡ true → StaysConforming intent old new
report_conforming intent observed old new only t k =
    let l = only.known t (seen_at_begin intent) k in
    record { known = l.known; knows = l.knows; kept = l.kept }

-- what makes no call keeps them
pub apart_conforming : (intent : Intent) (d : DirAt) → StaysConforming intent d d
apart_conforming intent d k = record { known = seen_at_begin intent; knows = k; kept = refl }

-- what the process knows when it has begun
pub begun_knows : {line : Task} {now : ℕ} {draw : Draw} {intent : Intent} {old new : Outside} {o : CommandOutcome} (s : InProcess line now draw intent old new o) → old.observed ≡ true → Knows s.begun.dir (seen_at_begin intent)
begun_knows {line} {now} {draw} {intent} {old} {new} {o} s t = record {
  tied = (s.knows t).tied;
  handles = (s.knows t).handles;
}

module _ (line : Task) (now : ℕ) (draw : Draw) (old new : Outside) (o : CommandOutcome) (t : old.observed ≡ true) where
  -- a process that began has kept the rules when it has ended
  pub process_conforms : (intent : Intent) → InProcess line now draw intent old new o → Conforms old.dir.process new.dir.trace
  process_conforms intent s =
      let kept : KeepsRules s.ended.dir = s.keeps t (begun_knows s t) in
      let after : IsTied s.ended.dir.process new.dir.trace (seen_replied kept.known Finish Done) = tied_call kept.knows.tied refl refl refl (s.finishes t) in
      subst (λ (me : ℕ). Conforms me new.dir.trace) (s.ran.same ∙ s.me) (after.conforms kept.kept)

  begun_keeps : (intent : Intent) → InProcess line now draw intent old new o → KeepsConforming old.dir new.dir
  begun_keeps intent s before = process_conforms intent s

  never_keeps : (intent : Intent) → NeverBegan intent old new o → KeepsConforming old.dir new.dir
  never_keeps intent n before = ap (λ (f : Seen). f.kept) (refused_unseen (n.step t)) ∙ before

  pub performed_keeps : (i : Option Intent) → Performs line now draw i old new o → KeepsConforming old.dir new.dir
  performed_keeps None p before = subst (λ (d : DirAt). Conforms old.dir.process d.trace) (sym p.dir) before
  performed_keeps (Some intent) (inl s) before = begun_keeps intent s before
  performed_keeps (Some intent) (inr n) before = never_keeps intent n before

-- and so does a run, whatever its words are
pub run_conforms : {task : Task} {now : ℕ} {draw : Draw} {old new : Moment} {status : ℕ} → IsRunOfTask task now draw old new status → old.outside.observed ≡ true → KeepsConforming old.outside.dir new.outside.dir
run_conforms {task} {now} {draw} {old} {new} {status} run t = by run.ran
  where
    by : RunsTaskOrNothing task now draw old new run.plain → KeepsConforming old.outside.dir new.outside.dir
    by (inr n) before = subst (λ (x : Outside). Conforms old.outside.dir.process x.dir.trace) (sym n.outside) before
    by (inl r) before = performed_keeps task now draw old.outside new.outside r.outcome t (intent_of task now draw) r.performs before
