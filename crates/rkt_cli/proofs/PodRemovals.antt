-- What `rm` and `gc` tell of the whole run.
use Rattle.std.proofs.Common.{◌≡◌, ◌⊎◌, inl, inr, ℕ, Bool, true, false, List, Option, Some, None, Ok, Err, IsErrOf, IfErr, refl, sym, ap, subst, ◌∙◌}
use Rattle.plain_laws.proofs.Booleans.{unused}
use Rattle.dir_model.specs.declared.area.Phase.{Phase}
use Rattle.dir_model.specs.declared.intent.Draw.{Draw}
use Rattle.dir_model.specs.declared.intent.Intent.{Intent}
use Rattle.dir_model.specs.declared.intent.Kind.TheVariants as kind
use Rattle.dir_model.specs.declared.pod.PodId.{PodId}
use Rattle.dir_model.specs.declared.spot.Which.{Which}
use Rattle.dir_model.specs.Calls.{Extends, is_begin}
use Rattle.dir_model.specs.Causes.{Rose}
use Rattle.dir_model.proofs.Chains.{step_extends}
use Rattle.dir_model.proofs.Lists.{same_self}
use Rattle.dir_trait.specs.DirCalls.{DirAt}
use Rattle.dir_trait.specs.Effects.{OnlyAsks, Given}
use Rattle.pod_locks.specs.Holding.{KeepsReady}
use Rattle.pod_gc.specs.RemovalRequests.{removes}
use Rattle.pod_gc.specs.Requests.{sweeps}
use Rattle.command_outcomes.specs.declared.refusal.Refusal.{Refusal}
use Rattle.command_outcomes.proofs.Seen.{beside}
use Rattle.rkt_cli.specs.Tasks.{Task}
use Rattle.rkt_cli.proofs.Ran.{ran}
use Rattle.pod_locks.specs.Causes.{WasStrayStep}
use Rattle.pod_gc.specs.RemovalHolding.{MayRemovePod}
use Rattle.pod_gc.specs.Removals.{FoundNoPod}
use Rattle.pod_gc.specs.declared.line.GcLine.{GcLine}
use Rattle.pod_gc.specs.Sweeping.{MaySweepAll}
use Rattle.command_outcomes.specs.declared.refusal.Refusal.TheVariants.{NoPod, WrongPhase, PodBusy, NoManifest, DirFault, Stray, NoMemory}
use Rattle.command_outcomes.specs.Moments.{Outside, BundleSeen, CommandOutcome}
use Rattle.command_outcomes.specs.Conforming.{seen_at_begin, StaysConforming}
use Rattle.commands.specs.Kept.{KeepsRefused}
use Rattle.commands.specs.Rm.{rm_refusal, RmSays, removed_pod_text, RemovesPod, FindsPodBusy, ConformingHadPhase, WasOwned, HadNoManifest, MeetsStray, HasRemovedPod, HasFoundNoPod, HasFoundWrong, HasFoundNoManifest, HasFoundBusy, HasMetStrayAtPod}
use Rattle.commands.specs.Gc.{gc_refusal, GcSays, times_of, lines_text, SweepsByPasses, SweepsUntold, SweepsInPart, HasSweptPods, HasMadePasses, HasSweptInPart, HasMetStrayInPods}
use Rattle.rkt_cli.specs.Tasks.{Rm, Gc}
use Rattle.commands.specs.Command.{intent_for}
use Rattle.commands.specs.GcCommand.{gc_intent}
use Rattle.rkt_cli.specs.Commands.{intent_of, may}
use Rattle.rkt_cli.specs.Runs.{CommandRan, Performs}
use Rattle.rkt_cli.proofs.Removals.{meanwhile, once_found}
use Rattle.rkt_cli.proofs.Conforming.{begun_knows}
use Rattle.pod_gc.specs.declared.ages.Times.{Times}
use Rattle.rkt_cli.specs.Tasks.{IsMeant}
use Rattle.commands.specs.Strays.{ComesOfApp}
use Rattle.commands.specs.Opening.{OnceFound}
use Rattle.commands.proofs.ImageImports.{is_memory}
use Rattle.command_outcomes.specs.Meanwhile.{Meanwhile}

abbrev pub rm_intent : List ℕ → ℕ → Draw → Intent
rm_intent word now draw = intent_for kind.Rm word now draw

-- a process that has just begun so may remove the pod, or sweep
pub begun_removes : {word : List ℕ} {pod : PodId} (now : ℕ) (draw : Draw) → IsMeant word pod → MayRemovePod pod now (seen_at_begin (rm_intent word now draw))
begun_removes now draw meant = record { may = record { began = refl; moment = same_self now; apart = refl; bare = refl }; asks = meant.begins }

pub begun_sweeps : {grace : ℕ} {expire : ℕ} (now : ℕ) (draw : Draw) → MaySweepAll now expire (seen_at_begin (gc_intent grace expire now draw))
begun_sweeps {expire = expire} now draw = record { sweeps = record { may = record { began = refl; moment = same_self now; apart = refl; bare = refl }; sweeps = same_self expire }; free = refl }

-- a process that couldn't begin tells only that, and one there is
unbegun : (r : Refusal) {X : Type 0} → is_memory r ≡ false → ◌≡◌ {A = CommandOutcome} (Err r) (Err NoMemory) → X
unbegun r apart is = let same : r ≡ NoMemory = cc in let clash : true ≡ false = sym (ap is_memory same) ∙ apart in cc

untold : (text : List ℕ) {X : Type 0} → ◌≡◌ {A = CommandOutcome} (Ok text) (Err NoMemory) → X
untold text is = cc

-- `rm`: what was printed, and done
pub rm_printed : (word : List ℕ) (pod : PodId) (now : ℕ) (draw : Draw) (intent : Option Intent) (old new : Outside) (text : List ℕ) → Performs (Rm word pod) now draw intent old new (Ok text) → text ≡ removed_pod_text pod
rm_printed word pod now draw (Some intent) old new text (inl s) = s.ran.says.0.0
rm_printed word pod now draw (Some intent) old new text (inr n) = untold text n.is
rm_printed word pod now draw None old new text p = unused p.apart

pub rm_done : (word : List ℕ) (pod : PodId) (now : ℕ) (draw : Draw) (intent : Option Intent) (old new : Outside) (text : List ℕ) → Performs (Rm word pod) now draw intent old new (Ok text) → old.observed ≡ true → HasRemovedPod pod old.dir new.dir
rm_done word pod now draw (Some intent) old new text (inl s) t = once_found (RemovesPod pod) s t (s.ran.says.0.1 (s.told ∙ t))
rm_done word pod now draw (Some intent) old new text (inr n) t = untold text n.is
rm_done word pod now draw None old new text p t = unused p.apart

-- or why not
pub rm_none : (word : List ℕ) (pod : PodId) (now : ℕ) (draw : Draw) (intent : Option Intent) (old new : Outside) → old.observed ≡ true → Performs (Rm word pod) now draw intent old new (Err NoPod) → HasFoundNoPod pod old.dir new.dir
rm_none word pod now draw (Some intent) old new t (inl s) = once_found (FoundNoPod pod) s t (s.ran.says.0 (s.told ∙ t))
rm_none word pod now draw (Some intent) old new t (inr n) = unbegun NoPod refl n.is
rm_none word pod now draw None old new t p = unused p.apart

pub rm_stray : {word : List ℕ} (pod : PodId) (now : ℕ) (draw : Draw) (old new : Outside) → Performs (Rm word pod) now draw (intent_of (Rm word pod) now draw) old new (Err Stray) → old.observed ≡ true →
    HasMetStrayAtPod pod old.dir new.dir × OnceFound ComesOfApp old.dir.process old.dir.trace new.dir.trace
rm_stray {word = word} pod now draw old new (inl s) t = (
  once_found (MeetsStray pod) s t (s.ran.says.0.0 (s.told ∙ t)),
  once_found ComesOfApp s t (s.ran.says.0.1 (s.told ∙ t) (seen_at_begin (rm_intent word now draw)) (begun_knows s t) (begun_removes now draw s.meant)),
)
rm_stray pod now draw old new (inr n) t = unbegun Stray refl n.is

pub rm_bare : (word : List ℕ) (pod : PodId) (now : ℕ) (draw : Draw) (intent : Option Intent) (old new : Outside) (bare : PodId) → Performs (Rm word pod) now draw intent old new (Err (NoManifest bare)) → (bare ≡ pod) × (old.observed ≡ true → HasFoundNoManifest pod old.dir new.dir)
rm_bare word pod now draw (Some intent) old new bare (inl s) = (s.ran.says.0.0, λ t. once_found (HadNoManifest pod) s t (s.ran.says.0.1 (s.told ∙ t)))
rm_bare word pod now draw (Some intent) old new bare (inr n) = unbegun (NoManifest bare) refl n.is
rm_bare word pod now draw None old new bare p = unused p.apart

pub rm_busy : {word : List ℕ} (pod : PodId) (now : ℕ) (draw : Draw) (old new : Outside) (busy : PodId) (which : Which) → Performs (Rm word pod) now draw (intent_of (Rm word pod) now draw) old new (Err (PodBusy busy which)) →
    (busy ≡ pod) × (old.observed ≡ true → HasFoundBusy pod which old.dir new.dir)
rm_busy {word = word} pod now draw old new busy which (inl s) = (s.ran.says.0.0, λ t. once_found (FindsPodBusy pod which) s t (s.ran.says.0.1 (s.told ∙ t) (seen_at_begin (rm_intent word now draw)) (begun_knows s t) (begun_removes now draw s.meant)))
rm_busy pod now draw old new busy which (inr n) = unbegun (PodBusy busy which) refl n.is

pub rm_wrong : {word : List ℕ} (pod : PodId) (now : ℕ) (draw : Draw) (old new : Outside) (phase : Phase) → Performs (Rm word pod) now draw (intent_of (Rm word pod) now draw) old new (Err (WrongPhase phase)) → old.observed ≡ true → HasFoundWrong pod phase old.dir new.dir
rm_wrong {word = word} pod now draw old new phase (inl s) t = record {
  was = once_found (ConformingHadPhase pod phase) s t (s.ran.says.0.was (s.told ∙ t));
  owner = once_found (WasOwned pod phase) s t (s.ran.says.0.owner (s.told ∙ t) (seen_at_begin (rm_intent word now draw)) (begun_knows s t) (begun_removes now draw s.meant));
}
rm_wrong pod now draw old new phase (inr n) t = unbegun (WrongPhase phase) refl n.is

-- `gc`: what was printed, and done
pub gc_printed : (grace expire : ℕ) (now : ℕ) (draw : Draw) (intent : Option Intent) (old new : Outside) (text : List ℕ) → Performs (Gc grace expire) now draw intent old new (Ok text) → (lines : List GcLine) × (text ≡ lines_text lines)
gc_printed grace expire now draw (Some intent) old new text (inl s) = (s.ran.says.lines, s.ran.says.is)
gc_printed grace expire now draw (Some intent) old new text (inr n) = untold text n.is
gc_printed grace expire now draw None old new text p = unused p.apart

pub gc_done : {grace : ℕ} {expire : ℕ} (now : ℕ) (draw : Draw) (old new : Outside) (text : List ℕ) → Performs (Gc grace expire) now draw (intent_of (Gc grace expire) now draw) old new (Ok text) → old.observed ≡ true → HasSweptPods (times_of now grace expire) old.dir new.dir text
gc_done {grace = grace} {expire = expire} now draw old new text (inl s) t = record {
  lines = s.ran.says.lines;
  is = s.ran.says.is;
  swept = meanwhile (SweepsByPasses (times_of now grace expire) s.ran.says.lines) refl s t (s.ran.says.swept (s.told ∙ t) (seen_at_begin (gc_intent grace expire now draw)) (begun_knows s t) (begun_sweeps now draw));
}
gc_done now draw old new text (inr n) t = untold text n.is

pub gc_stray : {grace : ℕ} {expire : ℕ} (now : ℕ) (draw : Draw) (old new : Outside) → Performs (Gc grace expire) now draw (intent_of (Gc grace expire) now draw) old new (Err Stray) → old.observed ≡ true →
    HasMetStrayInPods old.dir new.dir × Meanwhile ComesOfApp old.dir.process old.dir.trace new.dir.trace
gc_stray {grace = grace} {expire = expire} now draw old new (inl s) t = (
  meanwhile WasStrayStep refl s t (s.ran.says.0 (s.told ∙ t)),
  meanwhile ComesOfApp refl s t (s.ran.says.2 (s.told ∙ t) (seen_at_begin (gc_intent grace expire now draw)) (begun_knows s t) (begun_sweeps now draw)),
)
gc_stray now draw old new (inr n) t = unbegun Stray refl n.is

-- and what was done where the lines weren't told
pub gc_passes : {grace : ℕ} {expire : ℕ} (now : ℕ) (draw : Draw) (old new : Outside) (text : List ℕ) → Performs (Gc grace expire) now draw (intent_of (Gc grace expire) now draw) old new (Ok text) → old.observed ≡ true → HasMadePasses (times_of now grace expire) old.dir new.dir
gc_passes {grace = grace} {expire = expire} now draw old new text (inl s) t =
    meanwhile (SweepsUntold (times_of now grace expire)) refl s t (s.ran.says.lines, s.ran.says.swept (s.told ∙ t) (seen_at_begin (gc_intent grace expire now draw)) (begun_knows s t) (begun_sweeps now draw))
gc_passes now draw old new text (inr n) t = untold text n.is

-- what a sweep did that was refused so
abbrev pub SweptBy : Times → Refusal → DirAt → DirAt → Type 0
SweptBy times NoMemory old new =
    HasMadePasses times old new ⊎ HasSweptInPart times old new ⊎ Extends is_begin old.process old.trace new.trace
SweptBy times r old new = HasSweptInPart times old new

pub gc_swept : {grace : ℕ} {expire : ℕ} (now : ℕ) (draw : Draw) (old new : Outside) (r : Refusal) → Performs (Gc grace expire) now draw (intent_of (Gc grace expire) now draw) old new (Err r) → old.observed ≡ true → SweptBy (times_of now grace expire) r old.dir new.dir
gc_swept now draw old new NoMemory (inr n) t = inr (inr (step_extends is_begin old.dir.process old.dir.trace _ _ new.dir.trace refl (n.step t)))
gc_swept {grace = grace} {expire = expire} now draw old new NoMemory (inl s) t =
    elim (s.ran.says (s.told ∙ t) (seen_at_begin (gc_intent grace expire now draw)) (begun_knows s t) (begun_sweeps now draw))
    [ inl part ↦ inr (inl (meanwhile (SweepsInPart (times_of now grace expire)) refl s t part)) | inr whole ↦ inl (meanwhile (SweepsUntold (times_of now grace expire)) refl s t whole) ]
gc_swept {grace = grace} {expire = expire} now draw old new Stray (inl s) t =
    meanwhile (SweepsInPart (times_of now grace expire)) refl s t (s.ran.says.1 (s.told ∙ t) (seen_at_begin (gc_intent grace expire now draw)) (begun_knows s t) (begun_sweeps now draw))
gc_swept {grace = grace} {expire = expire} now draw old new r (inl s) t =
    meanwhile (SweepsInPart (times_of now grace expire)) refl s t (s.ran.says (s.told ∙ t) (seen_at_begin (gc_intent grace expire now draw)) (begun_knows s t) (begun_sweeps now draw))
gc_swept now draw old new r (inr n) t = let e = n.is in cc

-- what each owes between its begin and its finish
pub rm_conforming : {word : List ℕ} (pod : PodId) (now : ℕ) (draw : Draw) (intent : Intent) (observed : Bool) (a b : DirAt) → IsMeant word pod → intent_of (Rm word pod) now draw ≡ Some intent → Given (MayRemovePod pod now) a (λ s. KeepsReady s b) → StaysConforming intent a b
rm_conforming {word = word} pod now draw intent observed a b meant is stays =
    subst (λ (i : Intent). StaysConforming i a b) (let e : rm_intent word now draw ≡ intent = cc in e)
    (λ k. let s = stays (seen_at_begin (rm_intent word now draw)) k (begun_removes now draw meant) in
    record { known = s.known; knows = s.knows; kept = s.keeps.kept })

pub gc_conforming : {grace : ℕ} {expire : ℕ} (now : ℕ) (draw : Draw) (intent : Intent) (observed : Bool) (a b : DirAt) → intent_of (Gc grace expire) now draw ≡ Some intent → Given (MaySweepAll now expire) a (λ s. KeepsReady s b) → StaysConforming intent a b
gc_conforming {grace = grace} {expire = expire} now draw intent observed a b is stays =
    subst (λ (i : Intent). StaysConforming i a b) (let e : gc_intent grace expire now draw ≡ intent = cc in e)
    (λ k. let s = stays (seen_at_begin (gc_intent grace expire now draw)) k (begun_sweeps now draw) in
    record { known = s.known; knows = s.knows; kept = s.keeps.kept })

rm_may : (word : List ℕ) (pod : PodId) (r : Refusal) → rm_refusal r ≡ true → may (Rm word pod) r ≡ true
rm_may word pod NoMemory known = known
rm_may word pod DirFault known = known
rm_may word pod r known = known

gc_may : (grace expire : ℕ) (r : Refusal) → gc_refusal r ≡ true → may (Gc grace expire) r ≡ true
gc_may grace expire NoMemory known = known
gc_may grace expire DirFault known = known
gc_may grace expire r known = known

pub rm_ran : {word : List ℕ} (line : Task) (now : ℕ) (draw : Draw) (pod : PodId) (observed : Bool) (a b : DirAt) (bundle : BundleSeen) (o : CommandOutcome) → line ≡ Rm word pod → OnlyAsks observed (removes pod now) a b → (IsErrOf o DirFault → Rose a.faults b.faults) →
    IfErr o (λ r. rm_refusal r ≡ true) → RmSays observed pod now a b o → KeepsRefused observed a b o → CommandRan line now draw (beside observed a bundle) (beside observed b bundle) o
rm_ran {word = word} line now draw pod observed a b bundle o is worked cause known says kept = ran (Rm word pod) rm_refusal refl (rm_may word pod) line now draw observed a b bundle o is refl worked cause known (says, kept)

pub gc_ran : {grace : ℕ} {expire : ℕ} (line : Task) (now : ℕ) (draw : Draw) (observed : Bool) (a b : DirAt) (bundle : BundleSeen) (o : CommandOutcome) → line ≡ (Gc grace expire) → OnlyAsks observed (sweeps now) a b → (IsErrOf o DirFault → Rose a.faults b.faults) →
    IfErr o (λ r. gc_refusal r ≡ true) → GcSays observed (times_of now grace expire) a b o → CommandRan line now draw (beside observed a bundle) (beside observed b bundle) o
gc_ran {grace = grace} {expire = expire} line now draw observed a b bundle o is worked cause known says = ran (Gc grace expire) gc_refusal refl (gc_may grace expire) line now draw observed a b bundle o is refl worked cause known says
