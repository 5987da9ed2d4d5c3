-- What a report tells of the whole process, while others step and where nobody else does.
use Rattle.std.proofs.Common.{◌≡◌, inl, inr, ℕ, Bool, true, false, List, [], append-nil, Option, Some, None, Ok, IfErr, IsErrOf, refl, sym, ap, subst, ◌∙◌}
use Rattle.std.specs.List.{list_any}
use Rattle.dir_model.specs.declared.event.Event.{Event}
use Rattle.dir_model.specs.declared.intent.Draw.{Draw}
use Rattle.dir_model.specs.declared.intent.Intent.{Intent}
use Rattle.dir_model.specs.declared.opening.Holding.{Holding}
use Rattle.dir_model.specs.declared.pod.PodId.{PodId}
use Rattle.dir_model.specs.declared.request.Request.{Request}
use Rattle.dir_model.specs.declared.request.Request.TheVariants.{ListArea}
use Rattle.dir_model.specs.Calls.{Extends}
use Rattle.dir_model.specs.Causes.{Rose}
use Rattle.dir_model.specs.Local.{Local, is_own_of}
use Rattle.dir_model.specs.Quiet.{Quiet, OwnsNothing, SameNamespace}
use Rattle.dir_model.specs.State.{DirState}
use Rattle.dir_model.specs.Trace.{state_after}
use Rattle.dir_model.proofs.Chains.{and_more, extends_wider, nothing_yet}
use Rattle.dir_model.proofs.Quiet.{is_harmless, end_quiet, quiet_within}
use Rattle.dir_trait.specs.DirCalls.{DirAt}
use Rattle.dir_trait.specs.Effects.{OnlyAsks}
use Rattle.lifecycle.specs.Executions.{IsConforming}
use Rattle.lifecycle.proofs.Draws.{conforming_left}
use Rattle.pod_lookup.specs.Looks.{lists_stages}
use Rattle.pod_lookup.proofs.QuietLook.{lists_harmless}
use Rattle.pod_report.specs.Requests.{HasNoPodOpen, OnlyAsksFor, inspects, surveys, visits}
use Rattle.pod_report.proofs.QuietSurvey.{SameWorld, is_calm, same_world}
use Rattle.command_outcomes.specs.declared.refusal.Refusal.{Refusal}
use Rattle.command_outcomes.specs.declared.refusal.Refusal.TheVariants.{DirFault, NoManifest, NoMemory, NoPod, Stray}
use Rattle.command_outcomes.specs.Ends.{is_own_end, IsUnchanged}
use Rattle.command_outcomes.specs.Moments.{BundleSeen, Outside, CommandOutcome}
use Rattle.command_outcomes.proofs.Seen.{beside}
use Rattle.commands.specs.CatManifest.{cat_manifest_refusal, cat_manifest_report}
use Rattle.commands.specs.PodList.{list_refusal, list_report}
use Rattle.commands.specs.Status.{status_refusal, status_report}
use Rattle.commands.specs.Opening.{OnceFound}
use Rattle.commands.specs.Report.{Report, ReportSays}
use Rattle.commands.proofs.ReportsKept.{IsStable, IsWider}
use Rattle.commands.proofs.Starts.{look_extends, look_lists}
use Rattle.rkt_cli.specs.Commands.{approach_in, asks, may, uses_dir}
use Rattle.rkt_cli.specs.Promises.{Undisturbed}
use Rattle.rkt_cli.specs.Runs.{CommandRan, InProcess, Performs}
use Rattle.rkt_cli.specs.Tasks.{Task, CatManifest, PodList, Status}
use Rattle.rkt_cli.proofs.Ran.{ran}
use Rattle.rkt_cli.proofs.Removals.{once_found}
use Rattle.rkt_cli.proofs.Sessions.{act_part, any_call, begin_any, begin_part, finish_part, idle, quiet_act, quiet_begin, quiet_look, state_first}

-- ---- between the begin and the finish

-- a process that has nothing open has no pod's lock open
pub none_open : (m : Local) → m.holdings ≡ [] → HasNoPodOpen m
none_open m none name = ap (λ (hs : List Holding). list_any (λ h. is_own_of name h.target) hs) none

pub worked : {observed : Bool} {asked : Request → Bool} {a b : DirAt} → OnlyAsksFor observed asked a b → OnlyAsks observed asked a b
worked only = record { same = only.same; faults = only.faults; local = only.local; extends = only.extends }

list_own : (r : Refusal) → list_refusal r ≡ true → may PodList r ≡ true
list_own Stray h = refl
list_own DirFault h = refl
list_own NoMemory h = refl
list_own r h = let clash : false ≡ true = h in cc

cat_own : (word : List ℕ) (pod : PodId) (r : Refusal) → cat_manifest_refusal r ≡ true → may (CatManifest word pod) r ≡ true
cat_own word pod NoPod h = refl
cat_own word pod (NoManifest other) h = refl
cat_own word pod Stray h = refl
cat_own word pod DirFault h = refl
cat_own word pod NoMemory h = refl
cat_own word pod r h = let clash : false ≡ true = h in cc

status_own : (word : List ℕ) (pod : PodId) (r : Refusal) → status_refusal r ≡ true → may (Status word pod) r ≡ true
status_own word pod NoPod h = refl
status_own word pod Stray h = refl
status_own word pod DirFault h = refl
status_own word pod NoMemory h = refl
status_own word pod r h = let clash : false ≡ true = h in cc

module _ (task : Task) (now : ℕ) (draw : Draw) (observed : Bool) (a b : DirAt) (bundle : BundleSeen) (o : CommandOutcome) where
  pub list_ran : task ≡ PodList → OnlyAsksFor observed surveys a b → (IsErrOf o DirFault → Rose a.faults b.faults) → IfErr o (λ r. list_refusal r ≡ true) → ReportSays observed list_report a b o →
      CommandRan task now draw (beside observed a bundle) (beside observed b bundle) o
  list_ran is only cause all says = ran PodList list_refusal refl list_own task now draw observed a b bundle o is refl (worked only) cause all says

  pub cat_ran : (word : List ℕ) (pod : PodId) → task ≡ CatManifest word pod → OnlyAsksFor observed (visits pod) a b → (IsErrOf o DirFault → Rose a.faults b.faults) → IfErr o (λ r. cat_manifest_refusal r ≡ true) →
      ReportSays observed (cat_manifest_report pod) a b o → CommandRan task now draw (beside observed a bundle) (beside observed b bundle) o
  cat_ran word pod is only cause all says = ran (CatManifest word pod) cat_manifest_refusal refl (cat_own word pod) task now draw observed a b bundle o is refl (worked only) cause all says

  pub status_ran : (word : List ℕ) (pod : PodId) → task ≡ Status word pod → OnlyAsksFor observed (inspects pod) a b → (IsErrOf o DirFault → Rose a.faults b.faults) → IfErr o (λ r. status_refusal r ≡ true) →
      ReportSays observed (status_report pod) a b o → CommandRan task now draw (beside observed a bundle) (beside observed b bundle) o
  status_ran word pod is only cause all says = ran (Status word pod) status_refusal refl (status_own word pod) task now draw observed a b bundle o is refl (worked only) cause all says

-- ---- what it told of the whole process

module _ {task : Task} {now : ℕ} {draw : Draw} {intent : Intent} {old new : Outside} {o : CommandOutcome} (s : InProcess task now draw intent old new o) where
  ended_conforming : old.observed ≡ true → IsConforming new.dir.trace → IsConforming s.ended.dir.trace
  ended_conforming t conforming = let last = finish_part s t any_call refl in conforming_left s.ended.dir.trace last.more (subst IsConforming last.grown conforming)

  told_in_process : (r : Report) → IsWider r → ReportSays s.begun.observed r s.begun.dir s.ended.dir o → is_own_end o ≡ true → old.observed ≡ true → IsConforming new.dir.trace → r.tells old.dir.process old.dir.trace new.dir.trace o
  told_in_process r wider says own t conforming =
      let first = begin_any s t in
      let last = finish_part s t any_call refl in
      let inner = says.told own (s.told ∙ t) (ended_conforming t conforming) in
      wider old.dir.process old.dir.trace s.begun.dir.trace s.ended.dir.trace new.dir.trace first.more last.more first.grown last.grown o
      (subst (λ (me : ℕ). r.tells me s.begun.dir.trace s.ended.dir.trace o) s.me inner)

module _ (r : Report) (task : Task) (now : ℕ) (draw : Draw) (old new : Outside) (uses : uses_dir task ≡ true) where
  pub report_told : (o : CommandOutcome) → is_own_end o ≡ true → IsWider r → ((intent : Intent) (s : InProcess task now draw intent old new o) → ReportSays s.begun.observed r s.begun.dir s.ended.dir o) → (intent : Option Intent) → Performs task now draw intent old new o →
      old.observed ≡ true → IsConforming new.dir.trace → r.tells old.dir.process old.dir.trace new.dir.trace o
  report_told o own wider says None p t conforming = let clash : true ≡ false = sym uses ∙ p.apart in cc
  report_told o own wider says (Some intent) (inl s) t conforming = told_in_process s r wider (says intent s) own t conforming
  report_told o own wider says (Some intent) (inr n) t conforming = let clash : true ≡ false = sym own ∙ ap is_own_end n.is in cc

  -- what it saw itself
  pub report_seen : (o : CommandOutcome) → is_own_end o ≡ true → ((intent : Intent) (s : InProcess task now draw intent old new o) → ReportSays s.begun.observed r s.begun.dir s.ended.dir o) → (intent : Option Intent) → Performs task now draw intent old new o →
      old.observed ≡ true → OnceFound (λ me a b. r.sees me a b o) old.dir.process old.dir.trace new.dir.trace
  report_seen o own says None p t = let clash : true ≡ false = sym uses ∙ p.apart in cc
  report_seen o own says (Some intent) (inl s) t = once_found (λ me a b. r.sees me a b o) s t ((says intent s).seen (s.told ∙ t))
  report_seen o own says (Some intent) (inr n) t = let clash : true ≡ false = sym own ∙ ap is_own_end n.is in cc

  -- the text that it printed
  pub report_printed : (text : List ℕ) → ((intent : Intent) (s : InProcess task now draw intent old new (Ok text)) → ReportSays s.begun.observed r s.begun.dir s.ended.dir (Ok text)) → (intent : Option Intent) → Performs task now draw intent old new (Ok text) → r.prints text
  report_printed text says None p = let clash : true ≡ false = sym uses ∙ p.apart in cc
  report_printed text says (Some intent) (inl s) = (says intent s).prints
  report_printed text says (Some intent) (inr n) = let e = n.is in cc

-- ---- where nobody else steps

-- after looks at pods, and reads of their files, the world is as before
-- a listing of an area changes nothing
lists_calm : (r : Request) → lists_stages r ≡ true → is_calm r ≡ true
lists_calm (ListArea area) h = refl
lists_calm r h = cc

world_after : {me : ℕ} {a b : List Event} → Extends is_calm me a b → Quiet me a b → OwnsNothing me (state_after a).namespace → SameWorld me (state_after a) (state_after b)
world_after {me} {a} {b} ext quiet owns = subst (λ (h : List Event). SameWorld me (state_after a) (state_after h)) (sym ext.grown) (same_world ext quiet owns ext.more [] (ext.grown ∙ sym (append-nil _)))

module _ {task : Task} {now : ℕ} {draw : Draw} {intent : Intent} {old new : Outside} {o : CommandOutcome} (s : InProcess task now draw intent old new o) (u : Undisturbed task old new) where
  abbrev t : old.observed ≡ true
  t = u.observed s.uses

  abbrev me : ℕ
  me = old.dir.process

  abbrev q : Quiet me old.dir.trace new.dir.trace
  q = u.alone s.uses

  begun_names : SameNamespace me (state_after old.dir.trace).namespace (state_after s.begun.dir.trace).namespace
  begun_names = end_quiet (begin_part s t is_harmless refl (λ r h. lists_harmless r (look_lists (approach_in task) r h))) (quiet_begin s t q) (idle s t q)

  owns_first : OwnsNothing me (state_after (s.begins t).first).namespace
  owns_first = subst (λ (x : DirState). OwnsNothing me x.namespace) (sym (state_first s t q)) (idle s t q)

  -- neither its begin nor a look for its pod changes a file
  begun_world : SameWorld me (state_after old.dir.trace) (state_after s.begun.dir.trace)
  begun_world =
      let looked = world_after (extends_wider (λ r h. lists_calm r (look_lists (approach_in task) r h)) (look_extends (approach_in task) (s.begins t).looks)) (quiet_look s t q) owns_first in
      record { names = begun_names; entries = looked.entries ∙ (ap (λ (x : DirState). x.entries) (state_first s t q) ∙ append-nil _) }

  begun_quiet : Quiet s.begun.dir.process s.begun.dir.trace s.ended.dir.trace
  begun_quiet = subst (λ (p : ℕ). Quiet p s.begun.dir.trace s.ended.dir.trace) (sym s.me) (quiet_act s t q)

  begun_owns : OwnsNothing s.begun.dir.process (state_after s.begun.dir.trace).namespace
  begun_owns = subst (λ (p : ℕ). OwnsNothing p (state_after s.begun.dir.trace).namespace) (sym s.me) begun_names.mine

  -- it comes to what the state before says
  pub report_quiet : (r : Report) → IsStable r → ReportSays s.begun.observed r s.begun.dir s.ended.dir o → is_own_end o ≡ true → IsConforming new.dir.trace → r.quiet (state_after old.dir.trace) o
  report_quiet r stable says own conforming =
      stable me (state_after old.dir.trace) (state_after s.begun.dir.trace) begun_world o (says.quiet own (s.told ∙ t) (ended_conforming s t conforming) begun_quiet begun_owns)

  -- and leaves all folders, and whose lock is held
  pub report_leaves : ((r : Request) → asks task now draw r ≡ true → is_calm r ≡ true) → IsUnchanged (state_after old.dir.trace) (state_after new.dir.trace)
  report_leaves wider =
      let act = world_after (extends_wider wider (act_part s t)) (quiet_act s t q) begun_names.mine in
      let last = finish_part s t any_call refl in
      let quiet : Quiet me s.ended.dir.trace new.dir.trace = quiet_within q (and_more (begin_any s t) refl (extends_wider (λ r h. refl) (act_part s t))) (nothing_yet {asks = any_call}) last.more last.grown in
      let end = end_quiet (finish_part s t is_harmless refl) quiet act.names.mine in
      record { folders = end.folders ∙ (act.names.folders ∙ begun_names.folders); owned = λ k. end.owned k ∙ (act.names.owned k ∙ begun_names.owned k) }
