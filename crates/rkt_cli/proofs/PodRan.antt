-- What `prepare` owes between its begin and its finish, and what it tells of the whole run.
use Rattle.std.proofs.Common.{◌≡◌, inl, inr, ℕ, Bool, true, false, List, [], append-nil, Option, Some, None, Ok, Err, IfErr, IsErrOf, refl, sym, ap, subst, ◌∙◌}
use Rattle.dir_model.specs.declared.area.Area.{Area}
use Rattle.dir_model.specs.declared.area.Area.TheVariants.{Images, Prepared}
use Rattle.dir_model.specs.declared.intent.Draw.{Draw}
use Rattle.dir_model.specs.declared.intent.Intent.{Intent}
use Rattle.dir_model.specs.declared.intent.Kind.TheVariants as kind
use Rattle.dir_model.specs.declared.request.Reply.{Reply}
use Rattle.dir_model.specs.declared.request.Reply.TheVariants.{Done}
use Rattle.dir_model.specs.declared.request.Request.TheVariants.{SyncArea, Finish}
use Rattle.dir_model.specs.declared.spot.Mode.TheVariants.{Shared}
use Rattle.dir_model.specs.Calls.{Extends}
use Rattle.dir_model.specs.Causes.{Rose}
use Rattle.dir_model.proofs.Chains.{step_extends}
use Rattle.dir_model.proofs.Moments.{at_before}
use Rattle.dir_rules.specs.Conforms.{IsTied}
use Rattle.dir_trait.specs.DirCalls.{DirAt, HeldBetween}
use Rattle.dir_trait.specs.Effects.{OnlyAsks}
use Rattle.dir_files.specs.AreaLocks.{IsBusyElsewhere, IsFreeElsewhere}
use Rattle.lifecycle.specs.Executions.{IsConforming}
use Rattle.lifecycle.proofs.Draws.{conforming_left}
use Rattle.pod_build.specs.Causes.{IsMadeByPlan}
use Rattle.pod_build.specs.Preparations.{Began}
use Rattle.pod_build.specs.Progress.{seen_making, handed}
use Rattle.rkt_cli.specs.Tasks.{Task}
use Rattle.rkt_cli.specs.Tasks.{Prepare}
use Rattle.command_outcomes.specs.declared.refusal.Refusal.{Refusal}
use Rattle.command_outcomes.specs.declared.refusal.Refusal.TheVariants.{Busy, DirFault, NoMemory}
use Rattle.command_outcomes.specs.Moments.{BundleSeen, Outside, CommandOutcome}
use Rattle.command_outcomes.proofs.Seen.{beside}
use Rattle.commands.specs.PrepareRefusals.{prepare_refusal}
use Rattle.commands.specs.Prepare.{pod_line, prepares_pod, IsFaithful, BringsAndSyncsPod, LeavesFolder, RefusesPod, IsAreaHeld, IsHeldFromPrepare, SyncsPreparedArea, HasBrought, HasSynced, KeepsFolder, HasKeptFolder, PrepareSays}
use Rattle.commands.proofs.Whole.{refuses_whole, faithful_wider, made_whole}
use Rattle.commands.proofs.Parts.{Part, held_wider}
use Rattle.commands.specs.Command.{intent_for}
use Rattle.rkt_cli.specs.Commands.{intent_of, may}
use Rattle.rkt_cli.specs.Runs.{CommandRan, InProcess, Performs}
use Rattle.rkt_cli.proofs.Listed.{process_part}
use Rattle.rkt_cli.proofs.Sessions.{any_call, begin_any, finish_part}
use Rattle.rkt_cli.proofs.Conforming.{begun_knows}
use Rattle.rkt_cli.proofs.Removals.{meanwhile}
use Rattle.rkt_cli.proofs.Ran.{ran}
use Rattle.commands.specs.References.{OfReferences}
use Rattle.commands.specs.Wants.{Wants}

abbrev pub prepare_intent : ℕ → Draw → Intent
prepare_intent now draw = intent_for kind.Prepare [] now draw

-- a process that prepares began so
pub began : (now : ℕ) (draw : Draw) → Began Prepared draw now (prepare_intent now draw)
began now draw = record { leads = refl; drawn = refl; token = refl; moment = refl }

pub prepares : (wants : Wants) (now : ℕ) (draw : Draw) (intent : Intent) → intent_of (Prepare wants) now draw ≡ Some intent → Began Prepared draw now intent
prepares wants now draw intent is = subst (λ (i : Intent). Began Prepared draw now i) (let e : prepare_intent now draw ≡ intent = cc in e) (began now draw)

-- what it owes
prepare_may : (wants : Wants) (r : Refusal) → prepare_refusal r ≡ true → may (Prepare wants) r ≡ true
prepare_may wants NoMemory known = known
prepare_may wants DirFault known = known
prepare_may wants r known = known

pub prepare_ran : (line : Task) (now : ℕ) (draw : Draw) (wants : Wants) (observed : Bool) (a b : DirAt) (bundle : BundleSeen) (o : CommandOutcome) → line ≡ Prepare wants → OnlyAsks observed (prepares_pod draw.uuid) a b →
    (IsErrOf o DirFault → Rose a.faults b.faults) → IfErr o (λ r. prepare_refusal r ≡ true) → PrepareSays observed wants now draw a b o →
    CommandRan line now draw (beside observed a bundle) (beside observed b bundle) o
prepare_ran line now draw wants observed a b bundle o is worked cause known says = ran (Prepare wants) prepare_refusal refl (prepare_may wants) line now draw observed a b bundle o is refl worked cause known says

-- the refusals that may come with the pod in prepared
abbrev pub is_fault : Refusal → Bool
is_fault NoMemory = true
is_fault DirFault = true
is_fault r = false

says_why : (wants : Wants) (now : ℕ) (draw : Draw) (old new : Outside) (r : Refusal) → is_fault r ≡ false → PrepareSays old.observed wants now draw old.dir new.dir (Err r) → RefusesPod old.observed wants now draw old.dir new.dir r × IsHeldFromPrepare old.observed now draw r old.dir new.dir
says_why wants now draw old new NoMemory other says = let clash : true ≡ false = other in cc
says_why wants now draw old new DirFault other says = let clash : true ≡ false = other in cc
says_why wants now draw old new r other says = (says.1, says.2)

module _ {wants : Wants} {now : ℕ} {draw : Draw} {intent : Intent} {old new : Outside} {o : CommandOutcome} (s : InProcess (Prepare wants) now draw intent old new o) where
  refused_in_process : (r : Refusal) → RefusesPod s.begun.observed wants now draw s.begun.dir s.ended.dir r → RefusesPod old.observed wants now draw old.dir new.dir r
  refused_in_process r x = refuses_whole any_call s.me s.ran.same (λ t. begin_any s t)
      (λ t. step_extends any_call s.ended.dir.process s.ended.dir.trace Finish Done new.dir.trace refl (s.finishes t)) (subst (λ (o : Bool). RefusesPod o wants now draw s.begun.dir s.ended.dir r) s.told x)

  -- the pod was brought to prepared, and then the sync was answered so
  module _ (said : Began Prepared draw now intent) (t : old.observed ≡ true) {reply : Reply} (x : BringsAndSyncsPod s.begun.observed wants now draw reply s.begun.dir s.ended.dir) where
    sync_part : Extends any_call s.begun.dir.process x.brought.trace s.ended.dir.trace
    sync_part = step_extends any_call s.begun.dir.process x.brought.trace (SyncArea Prepared) reply s.ended.dir.trace refl (x.synced (s.told ∙ t))

    -- no other process held the lock of images when it took it
    pub free_in_process : HeldBetween old.dir new.dir (IsFreeElsewhere old.dir.process Images Shared)
    free_in_process =
        let made : HeldBetween s.begun.dir s.ended.dir (IsFreeElsewhere s.begun.dir.process Images Shared) = at_before (x.free (s.told ∙ t)) refl sync_part in
        held_wider (process_part s t) (IsFreeElsewhere old.dir.process Images Shared)
        (subst (λ (me : ℕ). HeldBetween s.begun.dir s.ended.dir (IsFreeElsewhere me Images Shared)) s.me made)

    -- by the plan that the store gave
    pub planned_in_process : OfReferences wants.images (λ refs. IsMadeByPlan old.observed refs wants.wishes draw now old.dir new.dir)
    planned_in_process =
        let brought : Part s.begun.dir s.begun.dir x.brought s.ended.dir =
        record { earlier = []; later = sync_part.more; same = refl; begins = sym (append-nil s.begun.dir.trace); ends = sync_part.grown } in
        let made = made_whole draw {b = s.begun.dir} {c = x.brought} (λ seen. brought) x.planned.2 in (
          x.planned.0,
          x.planned.1,
          made_whole draw {b = s.begun.dir} {c = s.ended.dir} (λ seen. process_part s t)
              (subst (λ (seen : Bool). IsMadeByPlan seen x.planned.0 wants.wishes draw now s.begun.dir s.ended.dir) s.told made),
        )

    pub faithful_in_process : IsConforming new.dir.trace → IsFaithful wants draw.uuid old.dir new.dir
    faithful_in_process conforming =
        let first = begin_any s t in
        let last = finish_part s t any_call refl in
        let ended = conforming_left s.ended.dir.trace last.more (subst IsConforming last.grown conforming) in
        let brought = conforming_left x.brought.trace sync_part.more (subst IsConforming sync_part.grown ended) in
        let within = x.faithful (s.told ∙ t) brought intent said (begun_knows s t) in
        faithful_wider wants draw.uuid old.dir s.begun.dir s.ended.dir new.dir first.more last.more s.me first.grown last.grown
        (faithful_wider wants draw.uuid s.begun.dir s.begun.dir x.brought s.ended.dir [] sync_part.more refl (sym (append-nil s.begun.dir.trace)) sync_part.grown within)

    pub brought_in_process : HasBrought draw.uuid reply old.dir new.dir
    brought_in_process =
        let k = x.knows (s.told ∙ t) intent said (begun_knows s t) in
        meanwhile (SyncsPreparedArea draw.uuid reply) refl s t (record {
          intent = intent;
          entries = k.0;
          mid = x.brought.trace;
          prepares = x.extends (s.told ∙ t);
          knew = subst (λ (me : ℕ). IsTied me x.brought.trace (seen_making intent [] (handed draw.uuid Prepared k.0))) x.same k.1.tied;
          synced = x.synced (s.told ∙ t);
        })

  -- or at most its own folder was left
  pub kept_in_process : Began Prepared draw now intent → old.observed ≡ true → LeavesFolder s.begun.observed now draw s.begun.dir s.ended.dir → HasKeptFolder draw.uuid old.dir new.dir
  kept_in_process said t left =
      let x = left (s.told ∙ t) intent said (begun_knows s t) in
      inr (meanwhile (KeepsFolder draw.uuid) refl s t (record {
        intent = intent;
        progress = x.progress;
        own = x.own;
        knew = subst (λ (me : ℕ). IsTied me s.ended.dir.trace (seen_making intent [] x.progress)) s.ran.same x.knows.tied;
      }))

-- what was printed
pub prepare_printed : (wants : Wants) (now : ℕ) (draw : Draw) (intent : Option Intent) (old new : Outside) (text : List ℕ) → Performs (Prepare wants) now draw intent old new (Ok text) → text ≡ pod_line draw.uuid
prepare_printed wants now draw (Some intent) old new text (inl s) = s.ran.says.0
prepare_printed wants now draw (Some intent) old new text (inr n) = let e = n.is in cc
prepare_printed wants now draw None old new text p = let clash : true ≡ false = p.apart in cc

pub prepare_faithful : (wants : Wants) (now : ℕ) (draw : Draw) (old new : Outside) (text : List ℕ) → Performs (Prepare wants) now draw (intent_of (Prepare wants) now draw) old new (Ok text) → old.observed ≡ true → IsConforming new.dir.trace → IsFaithful wants draw.uuid old.dir new.dir
prepare_faithful wants now draw old new text (inl s) t conforming = faithful_in_process s (began now draw) t s.ran.says.1 conforming
prepare_faithful wants now draw old new text (inr n) t conforming = let e = n.is in cc

pub prepare_synced : (wants : Wants) (now : ℕ) (draw : Draw) (old new : Outside) (text : List ℕ) → Performs (Prepare wants) now draw (intent_of (Prepare wants) now draw) old new (Ok text) → old.observed ≡ true → HasSynced draw.uuid old.dir new.dir
prepare_synced wants now draw old new text (inl s) t = brought_in_process s (began now draw) t s.ran.says.1
prepare_synced wants now draw old new text (inr n) t = let e = n.is in cc

-- why it was refused
pub prepare_refused : (wants : Wants) (now : ℕ) (draw : Draw) (intent : Option Intent) (old new : Outside) (r : Refusal) → is_fault r ≡ false → Performs (Prepare wants) now draw intent old new (Err r) → RefusesPod old.observed wants now draw old.dir new.dir r
prepare_refused wants now draw (Some intent) old new r other (inl s) = refused_in_process s r ((says_why wants now draw s.begun s.ended r other s.ran.says).0)
prepare_refused wants now draw (Some intent) old new r other (inr n) = let same : Err r ≡ Err NoMemory = n.is in let m : r ≡ NoMemory = cc in let clash : false ≡ true = sym other ∙ ap is_fault m in cc
prepare_refused wants now draw None old new r other p = let clash : true ≡ false = p.apart in cc

pub prepare_busy : (wants : Wants) (now : ℕ) (draw : Draw) (old new : Outside) (area : Area) → Performs (Prepare wants) now draw (intent_of (Prepare wants) now draw) old new (Err (Busy area)) → old.observed ≡ true → IsAreaHeld area old.dir new.dir
prepare_busy wants now draw old new area (inl s) t =
    held_wider (process_part s t) (IsBusyElsewhere old.dir.process area Shared)
    (subst (λ (me : ℕ). HeldBetween s.begun.dir s.ended.dir (IsBusyElsewhere me area Shared)) s.me
    (s.ran.says.2 area refl (s.told ∙ t) (prepare_intent now draw) (began now draw) (begun_knows s t)))
prepare_busy wants now draw old new area (inr n) t = let e = n.is in cc
