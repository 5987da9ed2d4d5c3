-- Where nobody else steps: the run of a pod's apps is told by what its folder holds.
use Rattle.std.proofs.Common.{◌≡◌, ◌⊎◌, inl, inr, ℕ, Bool, true, false, ◌||◌, Option, Some, None, List, [], ◌∷◌, ◌++◌, map, append-nil, append_assoc, refl, sym, ap, subst, ◌∙◌}
use Rattle.plain_laws.proofs.Booleans.{or_nothing}
use Rattle.plain_laws.proofs.Lists.{both_lists}
use Rattle.ac_types.specs.declared.image_ref.ImageRef.{ImageRef}
use Rattle.dir_model.specs.declared.area.Area.TheVariants.{Prepare, Run}
use Rattle.dir_model.specs.declared.event.Event.{Event}
use Rattle.dir_model.specs.declared.pod.PodId.{PodId}
use Rattle.dir_model.specs.declared.spot.Handle.{Handle}
use Rattle.dir_model.specs.declared.spot.Spot.{Spot}
use Rattle.dir_model.specs.declared.request.Reply.TheVariants.{Done}
use Rattle.dir_model.specs.declared.request.Request.{Request}
use Rattle.dir_model.specs.declared.request.Request.TheVariants.{AppendIn, Finish, MakeDirIn, MakeFileIn, MoveFolder, RemoveDirIn, RemoveFileIn}
use Rattle.dir_model.specs.Calls.{event, CallStep, Extends}
use Rattle.dir_model.specs.Quiet.{Quiet}
use Rattle.dir_model.specs.State.{DirState, folder_at, spot_eq}
use Rattle.dir_model.specs.Trace.{state_after}
use Rattle.dir_model.proofs.Chains.{extends_wider, state_after-push}
use Rattle.dir_model.proofs.Moments.{some_number}
use Rattle.dir_rules.specs.declared.seen.Entry.{Entry}
use Rattle.dir_trait.specs.DirCalls.{DirAt, ExtendsBy}
use Rattle.folder_contents.specs.Entries.{entries_in}
use Rattle.folder_contents.specs.Handing.{then_moved}
use Rattle.folder_contents.proofs.Spots.{one_location}
use Rattle.lifecycle.specs.Executions.{IsConforming}
use Rattle.pod_build.specs.Preparations.{IsPrepared}
use Rattle.pod_build.specs.Requests.{prepares}
use Rattle.pod_locks.specs.ClaimRequests.{claims, in_prepared, in_run}
use Rattle.pod_locks.specs.Work.{Grew, TookBoth}
use Rattle.pod_locks.proofs.Traces.{grown_call, grown_more}
use Rattle.pod_locks.proofs.ClaimLawful.{conforms_before}
use Rattle.pod_files.specs.Places.{run_spot}
use Rattle.stage1.specs.declared.load_error.LoadError.{LoadError}
use Rattle.stage1.specs.declared.load_error.LoadError.TheVariants as load
use Rattle.stage1.specs.declared.start.AppStart.{AppStart}
use Rattle.stage1.specs.LoadRefusals.{LoadCause}
use Rattle.dir_model.specs.Spots.{pod_spot}
use Rattle.pod_manifest.specs.Wishes.{Wishes}
use Rattle.stage1.specs.declared.end.AppEnd.{AppEnd}
use Rattle.stage1.specs.declared.error.RunError.{RunError}
use Rattle.stage1.specs.declared.error.RunError.TheVariants as run
use Rattle.stage1.specs.Runs.{AreEnds, HasRun, IsRefusedRun, LoadsStarts, end_of, reads_or_closes}
use Rattle.stage1.specs.Sequences.{Ending, app_status_of}
use Rattle.stage1.proofs.Starting.{reads_pod_reads}
use Rattle.command_outcomes.specs.Moments.{SpawnerSeen}
use Rattle.commands.specs.Run.{makes_and_runs}
use Rattle.commands.specs.RunPrepared.{runs_prepared}
use Rattle.commands.specs.RunQuiet.{entries_made}
use Rattle.commands.specs.RunTable.{AreTheStarts, IsWhyNone, RunsAll, StoppedFor}
use Rattle.commands.proofs.ClaimQuiet.{claim_leaves, claim_move, folder_back}
use Rattle.commands.proofs.EndsQuiet.{since_begin}
use Rattle.commands.proofs.FolderHolds.{Spares, filled_in}
use Rattle.commands.proofs.NewRunQuiet.{run_leaves}
use Rattle.commands.proofs.OneStart.{the_reason, the_starts}
use Rattle.commands.proofs.OwnSteps.{back_from, in_process, own_first}
use Rattle.commands.proofs.Passing.{moved_here, stood_before}
use Rattle.commands.proofs.RunFolder.{holds_moved, keeps_on, same_entries, spares_none, up_to_reads}
use Rattle.commands.proofs.StartsTold.{HoldsOn, reason_told, starts_told}

-- as long as the process only reads, the folder holds this
abbrev pub KeepsHeld : PodId → ℕ → List Entry → DirAt → DirAt → Type 0
KeepsHeld pod folder es from to = (d : DirAt) → ExtendsBy reads_or_closes from d → (z : List Event) → to.trace ≡ d.trace ++ z → HoldsOn pod folder es from d

ends_by : (endings : List Ending) (ends : List AppEnd) → AreEnds (map (λ e. e.begun.app) endings) (map app_status_of endings) ends → ends ≡ map (λ e. end_of e.begun.app (app_status_of e)) endings
ends_by [] [] are = refl
ends_by [] (x ∷ ends) are = absurd are
ends_by (e ∷ endings) [] are = absurd are
ends_by (e ∷ endings) (x ∷ ends) are = both_lists x (end_of e.begun.app (app_status_of e)) ends (map (λ y. end_of y.begun.app (app_status_of y)) endings) are.0 (ends_by endings ends are.1)

module _ (pod : PodId) (address : List ℕ) (folder : ℕ) (es : List Entry) (from to : DirAt) (keeps : KeepsHeld pod folder es from to) where
  loaded : (starts : List AppStart) (x : DirAt) (z : List Event) → to.trace ≡ x.trace ++ z → LoadsStarts pod address starts from x → AreTheStarts pod address es starts
  loaded starts x z goes l =
      the_starts pod es address starts
      (starts_told pod folder es from l.loaded
      (keeps l.loaded (extends_wider (reads_pod_reads pod) l.reads) (l.then.more ++ z) (goes ∙ (ap (λ (h : List Event). h ++ z) l.then.grown ∙ append_assoc l.loaded.trace l.then.more z)))
      address starts l.found)

  -- a run to its end
  pub runs_all : {seen : Bool} → seen ≡ true → (own : Handle) (ends : List AppEnd) (old new : SpawnerSeen) → HasRun seen old.observed pod own address ends from to old.shown new.shown → RunsAll pod address es ends old new
  runs_all t own ends old new r =
      let ran = r.ran.ran in
      let g = grown_call (r.closed.step t) in
      record {
        starts = r.ran.starts;
        are = loaded r.ran.starts r.before g.more g.grown (r.ran.loads t);
        endings = ran.run.endings;
        apps = ran.run.apps;
        each = ends_by ran.run.endings ends
            (subst (λ (ss : List ℕ). AreEnds (map (λ e. e.begun.app) ran.run.endings) ss ends) (sym ran.run.statuses_are)
            (subst (λ (xs : List AppStart). AreEnds xs ran.statuses ends) (sym ran.run.apps) ran.are));
        asked = ran.run.asked;
      }

  -- and one that was refused
  none : (e : LoadError) → (e ≡ load.DirFault → ⊥) → (e ≡ load.NoMemory → ⊥) → LoadCause pod e from to → ExtendsBy reads_or_closes from to → IsWhyNone pod es e
  none e inside some cause still = the_reason pod es e (reason_told pod folder es from to (keeps to still [] (sym (append-nil to.trace))) e inside some cause)

  any_starts : (starts : List AppStart) → (starts ≡ []) ⊎ LoadsStarts pod address starts from to → (starts ≡ []) ⊎ AreTheStarts pod address es starts
  any_starts starts (inl is) = inl is
  any_starts starts (inr l) = inr (loaded starts to [] (sym (append-nil to.trace)) l)

  pub stopped_for : {seen : Bool} → seen ≡ true → (old new : SpawnerSeen) (error : RunError) → (error ≡ run.Stray → ⊥) → IsRefusedRun seen old.observed pod address error from to old.shown new.shown → StoppedFor pod address es error old new
  stopped_for t old new run.NoManifest lawful x = record { lacks = none load.NoManifest (λ e. cc) (λ e. cc) (x.cause t) (x.unchanged refl t); unasked = x.early refl }
  stopped_for t old new (run.Damaged path) lawful x = record { lacks = none (load.Damaged path) (λ e. cc) (λ e. cc) (x.cause t) (x.unchanged refl t); unasked = x.early refl }
  stopped_for t old new (run.NoProgram app word) lawful x = record { lacks = none (load.NoProgram app word) (λ e. cc) (λ e. cc) (x.cause t) (x.unchanged refl t); unasked = x.early refl }
  stopped_for t old new run.SpawnFault lawful x = record { rose = x.cause; starts = x.starts; are = any_starts x.starts (x.loads t); cut = x.cut }
  stopped_for t old new run.Stray lawful x = lawful refl
  stopped_for t old new run.DirFault lawful x = tt
  stopped_for t old new run.NoMemory lawful x = tt

-- what a claim and a prepare ask for changes nothing in the folder in run
claim_fills : (pod : PodId) (r : Request) → since_begin (claims pod) r ≡ true → filled_in r ≡ None
claim_fills pod (MakeDirIn i) h = cc
claim_fills pod (MakeFileIn i) h = cc
claim_fills pod (AppendIn i piece) h = cc
claim_fills pod (RemoveFileIn i) h = cc
claim_fills pod (RemoveDirIn i) h = cc
claim_fills pod r h = refl

claim_spares : (pod : PodId) (r : Request) → up_to_reads (claims pod) r ≡ true → Spares (run_spot pod) r
claim_spares pod (MakeDirIn i) h = cc
claim_spares pod (MakeFileIn i) h = cc
claim_spares pod (AppendIn i piece) h = cc
claim_spares pod (RemoveFileIn i) h = cc
claim_spares pod (RemoveDirIn i) h = cc
claim_spares pod r h = spares_none (run_spot pod) r refl

off_run : (draw : PodId) (here spot : Spot) → ((spot_eq here (pod_spot draw Prepare) || false) || false) ≡ true → ◌≡◌ {A = Option Spot} (Some here) (Some spot) → spot_eq (run_spot draw) spot ≡ false
off_run draw here spot h is =
    let at : here ≡ pod_spot draw Prepare = one_location here (pod_spot draw Prepare) (or_nothing (spot_eq here (pod_spot draw Prepare)) (or_nothing (spot_eq here (pod_spot draw Prepare) || false) h)) in
    let same : here ≡ spot = cc in
    subst (λ (x : Spot). spot_eq (run_spot draw) x ≡ false) (sym at ∙ same) refl

prepare_spares : (draw : PodId) (r : Request) → up_to_reads (prepares draw Run) r ≡ true → Spares (run_spot draw) r
prepare_spares draw (MakeDirIn i) h spot is = off_run draw i.spot spot h is
prepare_spares draw (MakeFileIn i) h spot is = off_run draw i.spot spot h is
prepare_spares draw (AppendIn i piece) h spot is = off_run draw i.spot spot h is
prepare_spares draw (RemoveFileIn i) h spot is = cc
prepare_spares draw (RemoveDirIn i) h spot is = cc
prepare_spares draw r h spot is = spares_none (run_spot draw) r refl spot is

one_number : {j k : ℕ} → ◌≡◌ {A = Option ℕ} (Some j) (Some k) → j ≡ k
one_number is = cc

-- the folder of a claimed pod
module _ (pod : PodId) (own : Handle) {me : ℕ} {old begun new : List Event} (c to : DirAt) (mine : c.process ≡ me) (ext : Extends (in_process (runs_prepared pod)) me old new) (quiet : Quiet me old new) (first : Grew old begun) (took : TookBoth pod own me begun c.trace)
    (after : Grew c.trace to.trace) (finish : CallStep me to.trace Finish Done new) (early : Extends (since_begin (claims pod)) me old c.trace) where
  pub claimed_keeps : IsConforming new → (k : ℕ) → folder_at (state_after old).namespace (in_prepared pod) ≡ Some k → KeepsHeld pod k (entries_in k (state_after old).entries) c to
  claimed_keeps conforming k stood d reads z goes =
      let last = grown_more after (grown_call finish) in
      let m = claim_move first took (record { more = []; grown = sym (append-nil c.trace) }) in
      let e = event me (MoveFolder (in_prepared pod) (in_run pod)) Done in
      let moved : new ≡ m.before ++ e ∷ (m.later ++ last.more) = last.grown ∙ (ap (λ (h : List Event). h ++ last.more) m.moved ∙ append_assoc m.before (e ∷ m.later) last.more) in
      let to_move : Grew old m.before = record { more = m.meanwhile; grown = m.begins } in
      let from_move : Grew m.before new = record { more = e ∷ (m.later ++ last.more); grown = moved } in
      let j = some_number (folder_at (state_after m.before).namespace (in_prepared pod))
      (stood_before pod (runs_prepared pod) (claim_leaves pod) me old new m.before (m.later ++ last.more) (in_prepared pod) ext quiet m.meanwhile m.begins moved finish.run) in
      let back = back_from (λ s. folder_at s.namespace (in_prepared pod) ≡ Some j.0) (in_process (runs_prepared pod)) me (λ s request reply h at. folder_back pod me j.0 s request reply h at) m.before to_move from_move ext quiet j.1 in
      let was : folder_at (state_after m.before).namespace (in_prepared pod) ≡ Some k = j.1 ∙ (sym back ∙ stood) in
      let here = moved_here pod (runs_prepared pod) (claim_leaves pod) me old new m.before (m.later ++ last.more) (in_prepared pod) ext quiet m.meanwhile m.begins moved finish.run ∙ was in
      let mv : List Event = m.before ++ e ∷ [] in
      let u : List Event = m.meanwhile ++ e ∷ [] in
      let from : mv ≡ old ++ u = ap (λ (h : List Event). h ++ e ∷ []) m.begins ∙ append_assoc old m.meanwhile (e ∷ []) in
      let tail : c.trace ≡ mv ++ m.later = m.moved ∙ sym (append_assoc m.before (e ∷ []) m.later) in
      let same : (state_after m.before).entries ≡ (state_after old).entries =
      same_entries (claims pod) (claim_fills pod) me early m.before m.meanwhile (e ∷ m.later) m.begins m.moved (own_first quiet to_move from_move) in
      let held : entries_in k (state_after mv).entries ≡ entries_in k (state_after old).entries =
      ap (λ (s : DirState). entries_in k s.entries) (state_after-push m.before e) ∙ (ap (entries_in k) (append-nil (state_after m.before).entries) ∙ ap (entries_in k) same) in
      let x = holds_moved pod me k (entries_in k (state_after old).entries) (in_prepared pod) m.before (conforms_before from_move conforming) refl was here held in
      let end = grown_call finish in
      keeps_on pod (runs_prepared pod) (claims pod) (claim_leaves pod) (claim_spares pod) me old new ext quiet finish.run mv u from k (entries_in k (state_after old).entries) x c m.later mine tail early d reads (z ++ end.more)
      (end.grown ∙ (ap (λ (h : List Event). h ++ end.more) goes ∙ append_assoc d.trace z end.more))

-- the folder of a pod that was made for its run
module _ (draw : PodId) {refs : List ImageRef} {wishes : Wishes} {me : ℕ} {old new : List Event} (c to : DirAt) (mine : c.process ≡ me) (ext : Extends (in_process (makes_and_runs draw)) me old new) (quiet : Quiet me old new)
    (after : Grew c.trace to.trace) (finish : CallStep me to.trace Finish Done new) (early : Extends (since_begin (prepares draw Run)) me old c.trace) (y : IsPrepared refs wishes me draw Run old new) (tail : List Event)
    (past : c.trace ≡ then_moved y.before me (pod_spot draw Prepare) (pod_spot draw Run) ++ tail) where
  pub made_keeps : IsConforming new → KeepsHeld draw y.folder (entries_made y) c to
  made_keeps conforming d reads z goes =
      let e = event me (MoveFolder (pod_spot draw Prepare) (pod_spot draw Run)) Done in
      let mv : List Event = y.before ++ e ∷ [] in
      let u : List Event = y.meanwhile ++ e ∷ [] in
      let from : mv ≡ old ++ u = ap (λ (h : List Event). h ++ e ∷ []) y.begins ∙ append_assoc old y.meanwhile (e ∷ []) in
      let was : folder_at (state_after y.before).namespace (pod_spot draw Prepare) ≡ Some y.folder =
      sym (moved_here draw (makes_and_runs draw) (run_leaves draw) me old new y.before y.later (pod_spot draw Prepare) ext quiet y.meanwhile y.begins y.moved finish.run) ∙ y.stands in
      let x = holds_moved draw me y.folder (entries_made y) (pod_spot draw Prepare) y.before (conforms_before (record { more = e ∷ y.later; grown = y.moved }) conforming) refl was y.stands y.holds in
      let end = grown_call finish in
      keeps_on draw (makes_and_runs draw) (prepares draw Run) (run_leaves draw) (prepare_spares draw) me old new ext quiet finish.run mv u from y.folder (entries_made y) x c tail mine past early d reads (z ++ end.more)
      (end.grown ∙ (ap (λ (h : List Event). h ++ end.more) goes ∙ append_assoc d.trace z end.more))
