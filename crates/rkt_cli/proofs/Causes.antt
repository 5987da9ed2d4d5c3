-- Each refusal has its cause, command by command.
use Rattle.std.proofs.Common.{◌≡◌, ◌⊎◌, inl, inr, ℕ, Bool, true, false, List, Ok, Err, refl, sym, ap, subst, ◌∙◌}
use Rattle.ac_types.specs.declared.store_key.StoreKey.{StoreKey}
use Rattle.dir_model.specs.declared.area.Area.TheVariants.{Images}
use Rattle.dir_model.specs.declared.intent.Draw.{Draw}
use Rattle.dir_model.specs.declared.pod.PodId.{PodId}
use Rattle.dir_model.specs.Causes.{Rose}
use Rattle.command_outcomes.specs.declared.refusal.Refusal.{Refusal}
use Rattle.command_outcomes.specs.declared.refusal.Refusal.TheVariants.{Usage, NoPod, Busy, NoImage, WrongPhase, PodBusy, NoManifest, Damaged, DirFault, BundleFault, SpawnFault, OutFault, NoMemory, LinkFault, Stray}
use Rattle.command_outcomes.specs.Ends.{is_own_end}
use Rattle.command_outcomes.specs.Moments.{Outside, Moment, Answer, outcome_of, CommandOutcome}
use Rattle.commands.specs.Answers.{inside_in}
use Rattle.commands.specs.ImageGcCommand.{RefusesImageGc}
use Rattle.commands.specs.ImageImport.{image_import_refusal}
use Rattle.commands.specs.ImageImportCommand.{RefusesImport}
use Rattle.commands.specs.ImageListCommand.{RefusesImageList}
use Rattle.commands.specs.ImageRmCommand.{RefusesImageRm}
use Rattle.commands.specs.GcCommand.{RefusesGc}
use Rattle.commands.specs.PrepareCommand.{RefusesPrepare}
use Rattle.commands.specs.PrepareRefusals.{prepare_refusal}
use Rattle.commands.specs.RmCommand.{RefusesRm}
use Rattle.commands.specs.RunCommand.{RefusesNewRun}
use Rattle.commands.specs.RunPreparedCommand.{RefusesRun}
use Rattle.commands.specs.CatManifest.{cat_manifest_report}
use Rattle.commands.specs.PodList.{list_report}
use Rattle.commands.specs.Report.{RefusesReport}
use Rattle.commands.proofs.ReportsKept.{lines_wider, manifest_wider, status_wider}
use Rattle.commands.specs.Status.{status_report}
use Rattle.commands.proofs.ImageImports.{is_memory}
use Rattle.rkt_cli.specs.Tasks.{Task}
use Rattle.rkt_cli.specs.Tasks.{Status, PodList, CatManifest, Validate, ImageList, ImageImport, ImageRm, ImageGc, Prepare, RunPrepared, Run, Rm, Gc, Metadata, Demo}
use Rattle.rkt_cli.specs.Commands.{command_in, intent_of, may}
use Rattle.rkt_cli.specs.Promises.{RefusedFor}
use Rattle.rkt_cli.specs.Runs.{Performs, RunOfLine, Unwritten}
use Rattle.rkt_cli.specs.Spawns.{AppsToldBetween}
use Rattle.rkt_cli.proofs.Ends.{from_end}
use Rattle.commands.proofs.ImportRefusals.{refusal_lawful}
use Rattle.rkt_cli.proofs.Imports.{import_refused, import_busy}
use Rattle.rkt_cli.proofs.Listed.{list_lacked, list_busy}
use Rattle.rkt_cli.proofs.Outcomes.{fault_cause, bundle_cause, refusals_of, does_validate}
use Rattle.rkt_cli.proofs.PodRan.{prepare_refused, prepare_busy, is_fault}
use Rattle.rkt_cli.proofs.PodRemovals.{rm_none, rm_stray, rm_busy, rm_wrong, rm_bare, gc_stray}
use Rattle.rkt_cli.proofs.Removals.{removal_busy, removal_unnamed, removal_none, removal_stray, sweep_stray}
use Rattle.rkt_cli.proofs.Reported.{report_seen, report_told}
use Rattle.commands.specs.Wants.{Wants}
use Rattle.commands.proofs.RunRefused.{same_refusal}

-- the refusals that aren't of one command
abbrev pub is_shared : Refusal → Bool
is_shared NoMemory = true
is_shared DirFault = true
is_shared BundleFault = true
is_shared SpawnFault = true
is_shared OutFault = true
is_shared Usage = true
is_shared refusal = false

-- the others are none of these
no_memory : (r : Refusal) → is_shared r ≡ false → is_memory r ≡ false
no_memory NoMemory plain = let clash : true ≡ false = plain in cc
no_memory r plain = refl

no_fault : (r : Refusal) → is_shared r ≡ false → is_fault r ≡ false
no_fault NoMemory plain = let clash : true ≡ false = plain in cc
no_fault DirFault plain = let clash : true ≡ false = plain in cc
no_fault r plain = refl

own_end : (r : Refusal) → is_shared r ≡ false → is_own_end (Err r) ≡ true
own_end NoMemory plain = let clash : true ≡ false = plain in cc
own_end DirFault plain = let clash : true ≡ false = plain in cc
own_end BundleFault plain = let clash : true ≡ false = plain in cc
own_end r plain = refl

module _ (now : ℕ) (draw : Draw) (old new : Outside) where
  abbrev Fails : Task → Refusal → Type 0
  Fails line r = Performs line now draw (intent_of line now draw) old new (Err r)

  list_refused : (r : Refusal) → Fails ImageList r → is_shared r ≡ false → may ImageList r ≡ true → RefusesImageList old.observed r old.dir new.dir
  list_refused (Busy Images) p plain own = list_busy now draw (intent_of ImageList now draw) old new Images p
  list_refused (Busy area) p plain own = let clash : false ≡ true = own in cc
  list_refused (Damaged path) p plain own = list_lacked now draw (intent_of ImageList now draw) old new path p
  list_refused NoMemory p plain own = let clash : true ≡ false = plain in cc
  list_refused DirFault p plain own = let clash : true ≡ false = plain in cc
  list_refused r p plain own = let clash : false ≡ true = own in cc

  import_own : (path : List ℕ) (r : Refusal) → is_shared r ≡ false → may (ImageImport path) r ≡ true → image_import_refusal r ≡ true
  import_own path NoMemory plain own = let clash : true ≡ false = plain in cc
  import_own path DirFault plain own = let clash : true ≡ false = plain in cc
  import_own path BundleFault plain own = let clash : true ≡ false = plain in cc
  import_own path SpawnFault plain own = let clash : true ≡ false = plain in cc
  import_own path OutFault plain own = let clash : true ≡ false = plain in cc
  import_own path Usage plain own = let clash : true ≡ false = plain in cc
  import_own path r plain own = own

  import_causes : (path : List ℕ) (r : Refusal) → Fails (ImageImport path) r → is_shared r ≡ false → may (ImageImport path) r ≡ true → RefusesImport path r old new
  import_causes path r p plain own = record {
    own = import_own path r plain own;
    why = import_refused path now draw (intent_of (ImageImport path) now draw) old new r (no_memory r plain) p;
    held = λ area is t. import_busy path now draw old new area (subst (λ (q : Refusal). Fails (ImageImport path) q) is p) t;
    lawful = refusal_lawful path old new r (import_refused path now draw (intent_of (ImageImport path) now draw) old new r (no_memory r plain) p);
  }

  removal_refused : (key : StoreKey) (r : Refusal) → Fails (ImageRm key) r → is_shared r ≡ false → may (ImageRm key) r ≡ true → RefusesImageRm old.observed key draw r old.dir new.dir
  removal_refused key (Busy Images) p plain own = removal_busy key now draw old new Images p
  removal_refused key (Busy area) p plain own = let clash : false ≡ true = own in cc
  removal_refused key (NoImage named) p plain own = (removal_unnamed key now draw (intent_of (ImageRm key) now draw) old new named p, removal_none key now draw (intent_of (ImageRm key) now draw) old new named p)
  removal_refused key Stray p plain own = removal_stray key now draw old new p
  removal_refused key NoMemory p plain own = let clash : true ≡ false = plain in cc
  removal_refused key DirFault p plain own = let clash : true ≡ false = plain in cc
  removal_refused key r p plain own = let clash : false ≡ true = own in cc

  sweep_refused : (r : Refusal) → Fails ImageGc r → is_shared r ≡ false → may ImageGc r ≡ true → RefusesImageGc old.observed r old.dir new.dir
  sweep_refused Stray p plain own = sweep_stray now draw old new p
  sweep_refused NoMemory p plain own = let clash : true ≡ false = plain in cc
  sweep_refused DirFault p plain own = let clash : true ≡ false = plain in cc
  sweep_refused r p plain own = let clash : false ≡ true = own in cc

  prepare_own : (wants : Wants) (r : Refusal) → is_shared r ≡ false → may (Prepare wants) r ≡ true → prepare_refusal r ≡ true
  prepare_own wants NoMemory plain own = let clash : true ≡ false = plain in cc
  prepare_own wants DirFault plain own = let clash : true ≡ false = plain in cc
  prepare_own wants BundleFault plain own = let clash : true ≡ false = plain in cc
  prepare_own wants SpawnFault plain own = let clash : true ≡ false = plain in cc
  prepare_own wants OutFault plain own = let clash : true ≡ false = plain in cc
  prepare_own wants Usage plain own = let clash : true ≡ false = plain in cc
  prepare_own wants r plain own = own

  prepare_causes : (wants : Wants) (r : Refusal) → Fails (Prepare wants) r → is_shared r ≡ false → may (Prepare wants) r ≡ true → RefusesPrepare old.observed wants now draw r old.dir new.dir
  prepare_causes wants r p plain own = record {
    own = prepare_own wants r plain own;
    why = prepare_refused wants now draw (intent_of (Prepare wants) now draw) old new r (no_fault r plain) p;
    held = λ area is t. prepare_busy wants now draw old new area (subst (λ (q : Refusal). Fails (Prepare wants) q) is p) t;
  }

  rm_refused : {word : List ℕ} (pod : PodId) (r : Refusal) → Fails (Rm word pod) r → is_shared r ≡ false → may (Rm word pod) r ≡ true → RefusesRm old.observed pod r old.dir new.dir
  rm_refused {word = word} pod NoPod p plain own = λ t. rm_none word pod now draw (intent_of (Rm word pod) now draw) old new t p
  rm_refused pod (WrongPhase phase) p plain own = rm_wrong pod now draw old new phase p
  rm_refused {word = word} pod (NoManifest other) p plain own = rm_bare word pod now draw (intent_of (Rm word pod) now draw) old new other p
  rm_refused pod (PodBusy other which) p plain own = rm_busy pod now draw old new other which p
  rm_refused {word = word} pod Stray p plain own = rm_stray {word = word} pod now draw old new p
  rm_refused pod NoMemory p plain own = let clash : true ≡ false = plain in cc
  rm_refused pod DirFault p plain own = let clash : true ≡ false = plain in cc
  rm_refused pod r p plain own = let clash : false ≡ true = own in cc

  gc_refused : {grace : ℕ} {expire : ℕ} (r : Refusal) → Fails (Gc grace expire) r → is_shared r ≡ false → may (Gc grace expire) r ≡ true → RefusesGc old.observed r old.dir new.dir
  gc_refused {grace = grace} {expire = expire} Stray p plain own = gc_stray {grace = grace} {expire = expire} now draw old new p
  gc_refused NoMemory p plain own = let clash : true ≡ false = plain in cc
  gc_refused DirFault p plain own = let clash : true ≡ false = plain in cc
  gc_refused r p plain own = let clash : false ≡ true = own in cc

-- the refusals of a command that are its own
own_of : (line : Task) (r : Refusal) → is_shared r ≡ false → may line r ≡ true → (command_in line).refusals r ≡ true
own_of line NoMemory plain own = let clash : true ≡ false = plain in cc
own_of line DirFault plain own = let clash : true ≡ false = plain in cc
own_of line BundleFault plain own = let clash : true ≡ false = plain in cc
own_of line SpawnFault plain own = let clash : true ≡ false = plain in cc
own_of line OutFault plain own = let clash : true ≡ false = plain in cc
own_of line Usage plain own = let clash : true ≡ false = plain in cc
own_of line r plain own = own

-- of the service it is the listener's fault
service_refused : (address : List ℕ) (count : ℕ) (r : Refusal) → is_shared r ≡ false → may (Metadata address count) r ≡ true → r ≡ LinkFault
service_refused address count LinkFault plain own = refl
service_refused address count NoMemory plain own = let clash : true ≡ false = plain in cc
service_refused address count DirFault plain own = let clash : true ≡ false = plain in cc
service_refused address count r plain own = let clash : false ≡ true = own in cc

module _ (now : ℕ) (draw : Draw) (old new : Moment) where
  abbrev Refuses : Task → Refusal → Type 0
  Refuses line r = Performs line now draw (intent_of line now draw) old.outside new.outside (Err r)

  abbrev Comes : Task → Refusal → Type 0
  Comes line r = AppsToldBetween line now draw (intent_of line now draw) (inside_in old) (inside_in new) (Err r)

  -- a process that couldn't begin says that memory ran out
  unbegun : (r : Refusal) {X : Type 0} → is_shared r ≡ false → ◌≡◌ {A = Answer} (Err r) (Err NoMemory) → X
  unbegun r plain is = let clash : true ≡ false = sym (ap is_shared (same_refusal r NoMemory is)) ∙ plain in cc

  run_prepared_refused : {word : List ℕ} {address : List ℕ} (pod : PodId) (r : Refusal) → is_shared r ≡ false → may (RunPrepared word pod address) r ≡ true → Comes (RunPrepared word pod address) r → RefusesRun word pod address now draw r old new
  run_prepared_refused {word = word} {address = address} pod r plain own (inl x) = record { own = own_of (RunPrepared word pod address) r plain own; why = x }
  run_prepared_refused pod r plain own (inr x) = unbegun r plain x.0

  run_refused : {address : List ℕ} (wants : Wants) (r : Refusal) → is_shared r ≡ false → may (Run wants address) r ≡ true → Comes (Run wants address) r → RefusesNewRun wants address now draw r old new
  run_refused {address = address} wants r plain own (inl x) = record { own = own_of (Run wants address) r plain own; why = x }
  run_refused wants r plain own (inr x) = unbegun r plain x.0

  list_refuses : (r : Refusal) → is_shared r ≡ false → may PodList r ≡ true → Refuses PodList r → RefusesReport list_report r old new
  list_refuses r plain own p = record {
    own = own_of PodList r plain own;
    seen = report_seen list_report PodList now draw old.outside new.outside refl (Err r) (own_end r plain) (λ i s. s.ran.says) (intent_of PodList now draw) p;
    why = λ t conforming. report_told list_report PodList now draw old.outside new.outside refl (Err r) (own_end r plain) lines_wider (λ i s. s.ran.says) (intent_of PodList now draw) p t conforming;
  }

  cat_refuses : {word : List ℕ} (pod : PodId) (r : Refusal) → is_shared r ≡ false → may (CatManifest word pod) r ≡ true → Refuses (CatManifest word pod) r → RefusesReport (cat_manifest_report pod) r old new
  cat_refuses {word = word} pod r plain own p = record {
    own = own_of (CatManifest word pod) r plain own;
    seen = report_seen (cat_manifest_report pod) (CatManifest word pod) now draw old.outside new.outside refl (Err r) (own_end r plain) (λ i s. s.ran.says) (intent_of (CatManifest word pod) now draw) p;
    why = λ t conforming. report_told (cat_manifest_report pod) (CatManifest word pod) now draw old.outside new.outside refl (Err r) (own_end r plain) (λ me a b c d earlier later begins ends. manifest_wider me a b c d earlier later begins ends pod) (λ i s. s.ran.says) (intent_of (CatManifest word pod) now draw) p t conforming;
  }

  status_refuses : {word : List ℕ} (pod : PodId) (r : Refusal) → is_shared r ≡ false → may (Status word pod) r ≡ true → Refuses (Status word pod) r → RefusesReport (status_report pod) r old new
  status_refuses {word = word} pod r plain own p = record {
    own = own_of (Status word pod) r plain own;
    seen = report_seen (status_report pod) (Status word pod) now draw old.outside new.outside refl (Err r) (own_end r plain) (λ i s. s.ran.says) (intent_of (Status word pod) now draw) p;
    why = λ t conforming. report_told (status_report pod) (Status word pod) now draw old.outside new.outside refl (Err r) (own_end r plain) (λ me a b c d earlier later begins ends. status_wider me a b c d earlier later begins ends pod) (λ i s. s.ran.says) (intent_of (Status word pod) now draw) p t conforming;
  }

  own_cause : (line : Task) (r : Refusal) → is_shared r ≡ false → may line r ≡ true → Refuses line r → Comes line r → (command_in line).refused_for now draw r old new
  own_cause (Status word pod) r plain own p came = status_refuses pod r plain own p
  own_cause PodList r plain own p came = list_refuses r plain own p
  own_cause (CatManifest word pod) r plain own p came = cat_refuses pod r plain own p
  own_cause (Validate path) r plain own p came = (own_of (Validate path) r plain own, does_validate path now draw (intent_of (Validate path) now draw) old.outside new.outside (Err r) (own_end r plain) p)
  own_cause ImageList r plain own p came = list_refused now draw old.outside new.outside r p plain own
  own_cause (ImageImport path) r plain own p came = import_causes now draw old.outside new.outside path r p plain own
  own_cause (ImageRm key) r plain own p came = removal_refused now draw old.outside new.outside key r p plain own
  own_cause ImageGc r plain own p came = sweep_refused now draw old.outside new.outside r p plain own
  own_cause (Prepare wants) r plain own p came = prepare_causes now draw old.outside new.outside wants r p plain own
  own_cause (RunPrepared word pod address) r plain own p came = run_prepared_refused pod r plain own came
  own_cause (Run wants address) r plain own p came = run_refused wants r plain own came
  own_cause (Rm word pod) r plain own p came = rm_refused now draw old.outside new.outside pod r p plain own
  own_cause (Gc grace expire) r plain own p came = gc_refused now draw old.outside new.outside r p plain own
  own_cause (Metadata address count) r plain own p came = service_refused address count r plain own
  own_cause (Demo count) r plain own p came = let clash : false ≡ true = own_of (Demo count) r plain own in cc

  -- whichever it is
  its_cause : (line : Task) (r : Refusal) → may line r ≡ true → Refuses line r → Comes line r → (r ≡ SpawnFault → Rose old.spawner.shown.faults new.spawner.shown.faults) → RefusedFor (command_in line) now draw r old new
  its_cause line NoMemory own p came spawn = tt
  its_cause line DirFault own p came spawn = (own, fault_cause line now draw (intent_of line now draw) old.outside new.outside (Err DirFault) p refl)
  its_cause line BundleFault own p came spawn = (own, bundle_cause line now draw (intent_of line now draw) old.outside new.outside (Err BundleFault) p refl)
  its_cause line SpawnFault own p came spawn = (own, spawn refl)
  its_cause line OutFault own p came spawn = let clash : false ≡ true = own in cc
  its_cause line Usage own p came spawn = let clash : false ≡ true = own in cc
  its_cause line r own p came spawn = own_cause line r refl own p came

abbrev failing : Refusal → Answer
failing r = Err r

abbrev ending : Refusal → CommandOutcome
ending r = Err r

-- the answer of a refused outcome
pub refused_answer : (answer : Answer) (r : Refusal) → outcome_of answer ≡ Err r → answer ≡ Err r
refused_answer (Ok told) r is = let e : ◌≡◌ {A = CommandOutcome} (Ok told.text) (Err r) = is in cc
refused_answer (Err q) r is = let e : ◌≡◌ {A = CommandOutcome} (Err q) (Err r) = is in let same : q ≡ r = cc in ap failing same

-- of a run that ended with a refusal
pub cause_of : (line : Task) (now : ℕ) (draw : Draw) (old new : Moment) (status : ℕ) (r : Refusal) (x : RunOfLine line now draw (intent_of line now draw) old new status) → x.end ≡ Err r → RefusedFor (command_in line) now draw r old new
cause_of line now draw old new status r x is = by (from_end x.outcome old.out new.out x.end r x.printed is)
  where
    by : (x.outcome ≡ Err r) ⊎ Unwritten r old.out new.out → RefusedFor (command_in line) now draw r old new
    by (inl e) =
        let p : Performs line now draw (intent_of line now draw) old.outside new.outside (Err r) = subst (λ (o : CommandOutcome). Performs line now draw (intent_of line now draw) old.outside new.outside o) e x.performs in
        its_cause now draw old new line r (refusals_of line now draw (intent_of line now draw) old.outside new.outside (Err r) r p refl) p
        (subst (λ (a : Answer). AppsToldBetween line now draw (intent_of line now draw) (inside_in old) (inside_in new) a) (refused_answer x.answer r (sym x.outcome_is ∙ e)) x.came)
        (λ same. x.spawn_cause (e ∙ ap ending same))
    by (inr (inl u)) = subst (λ (q : Refusal). RefusedFor (command_in line) now draw q old new) (sym u.0) u.1
    by (inr (inr u)) = subst (λ (q : Refusal). RefusedFor (command_in line) now draw q old new) (sym u.0) tt
