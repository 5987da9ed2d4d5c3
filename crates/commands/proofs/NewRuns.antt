-- The command `run`: from the making and the run to what is told, and what the process knows and has open.
use Rattle.std.proofs.Common.{◌≡◌, inl, inr, ℕ, Bool, true, false, ◌||◌, List, [], ◌∷◌, Some, Result, Ok, Err, IfErr, refl, sym, ap, subst, ◌∙◌, arith}
use Rattle.plain_laws.proofs.Texts.{same_bytes}
use Rattle.plain_laws.proofs.Booleans.{never_both, never_deletes}
use Rattle.ac_types.specs.declared.image_ref.ImageRef.{ImageRef}
use Rattle.dir_model.specs.declared.area.Area.TheVariants as area
use Rattle.dir_model.specs.declared.intent.Draw.{Draw}
use Rattle.dir_model.specs.declared.intent.Intent.{Intent}
use Rattle.dir_model.specs.declared.opening.Holding.{Holding}
use Rattle.dir_model.specs.declared.pod.PodId.{PodId}
use Rattle.dir_model.specs.declared.request.Request.{Request}
use Rattle.dir_model.specs.declared.request.Request.TheVariants.{MoveFolder, Close}
use Rattle.dir_model.specs.declared.spot.Handle.{Handle}
use Rattle.dir_model.specs.declared.spot.Mode.TheVariants.{Exclusive}
use Rattle.dir_model.specs.Local.{Local, without}
use Rattle.dir_model.specs.Pods.{pod_text}
use Rattle.dir_model.proofs.Chains.{and_more, extends_wider}
use Rattle.dir_rules.specs.declared.seen.Entry.{Entry}
use Rattle.dir_rules.specs.declared.seen.Seen.{Seen}
use Rattle.dir_rules.specs.Rules.{runs}
use Rattle.dir_rules.specs.Standing.{is_gate_shared, gives_up, holds_own, intends}
use Rattle.dir_trait.specs.DirCalls.{DirAt, ExtendsBy}
use Rattle.dir_trait.specs.Effects.{OnlyAsks, LeavesOpen}
use Rattle.spawner.specs.Calls.{SpawnerAt}
use Rattle.lifecycle.specs.Executions.{IsConforming}
use Rattle.pod_locks.specs.declared.owned.Owned.{Owned}
use Rattle.pod_locks.specs.Running.{IsOwned, RunsPod}
use Rattle.pod_locks.specs.Work.{Grew}
use Rattle.pod_build.specs.Progress.{seen_making, nothing_made, handed, own_held, and_own}
use Rattle.pod_build.specs.Work.{WhereMakingPod, HasMakerFolder}
use Rattle.pod_build.proofs.Handing.{HandsNothingOver}
use Rattle.pod_build.specs.declared.error.BuildError.{BuildError}
use Rattle.pod_build.specs.declared.built.Built.{Built}
use Rattle.pod_build.specs.declared.built.Built.TheVariants as built
use Rattle.pod_build.specs.Answers.{IsBuildAnswer, with_built, held_with}
use Rattle.pod_build.specs.Causes.{IsBuildRefused, AreaHeldElsewhere, IsMadeByPlan, FindsImagesFree}
use Rattle.pod_build.specs.Preparations.{Began, IsAlone, KnowsPrepared, IsPrepared}
use Rattle.pod_build.specs.Requests.{prepares}
use Rattle.stage1.specs.Keeping.{RunsWithoutNotes, KeepsToEnd}
use Rattle.stage1.specs.Runs.{closes, runs_pod, runs_and_closes}
use Rattle.command_outcomes.specs.declared.refusal.Refusal.{Refusal}
use Rattle.command_outcomes.specs.declared.refusal.Refusal.TheVariants.{DirFault, SpawnFault, NoManifest, NoProgram, Damaged, Stray, NoMemory}
use Rattle.command_outcomes.specs.Conforming.{seen_at_begin, StaysConforming}
use Rattle.command_outcomes.specs.Moments.{Answer}
use Rattle.commands.specs.References.{AreReferences}
use Rattle.commands.specs.PrepareRefusals.{IsSaidOfBuild, prepare_refusal}
use Rattle.commands.specs.Prepare.{pod_line}
use Rattle.commands.specs.RunRefusals.{apps_refusal, new_run_refusal}
use Rattle.commands.specs.Run.{makes_and_runs, CanRun, NewRunSays}
use Rattle.commands.specs.AppRuns.{RunSays}
use Rattle.commands.proofs.Claimed.{and_holding, given_back}
use Rattle.commands.specs.Wants.{Wants}

-- the pod is kept
pub kept_pod : (draw : PodId) (m : Local) (made : Built) → IsBuildAnswer true draw m made → (owned : Owned) × (made ≡ built.Running owned)
kept_pod draw m (built.Running owned) answer = (owned, refl)
kept_pod draw m (built.Prepared pod) answer = absurd answer

pub kept_owned : (draw : PodId) (m : Local) (made : Built) (owned : Owned) → made ≡ built.Running owned → IsBuildAnswer true draw m made → IsOwned draw m owned
kept_owned draw m made owned is answer = subst (λ (b : Built). IsBuildAnswer true draw m b) is answer

-- what is open then
pub made_went : {observed : Bool} {asks : Request → Bool} {a b : DirAt} (m : Local) (draw : PodId) (r : Result Built BuildError) (made : Built) (owned : Owned) → r ≡ Ok made → made ≡ built.Running owned → LeavesOpen observed asks (with_built m draw r) a b → LeavesOpen observed asks (and_own m draw owned.own) a b
made_went {observed} {asks} {a} {b} m draw r made owned is kept w =
    subst (λ (x : Built). LeavesOpen observed asks (with_built m draw (Ok x)) a b) kept (subst (λ (x : Result Built BuildError). LeavesOpen observed asks (with_built m draw x) a b) is w)

pub unmade_went : {observed : Bool} {asks : Request → Bool} {a b : DirAt} (m : Local) (draw : PodId) (r : Result Built BuildError) (e : BuildError) → r ≡ Err e → LeavesOpen observed asks (with_built m draw r) a b → LeavesOpen observed asks m a b
unmade_went {observed} {asks} {a} {b} m draw r e is w = subst (λ (x : Result Built BuildError). LeavesOpen observed asks (with_built m draw x) a b) is w

-- a run hands nothing over
pub runs_hand_none : (pod : PodId) (own : Handle) → HandsNothingOver (runs_and_closes pod own)
runs_hand_none pod own (MoveFolder from to) is = cc
runs_hand_none pod own request is = refl

-- its requests
prepares_in : (draw : PodId) (r : Request) → prepares draw area.Run r ≡ true → makes_and_runs draw r ≡ true
prepares_in draw r is = ap (λ (b : Bool). b || runs_pod draw r) is

closes_prepares : (draw : PodId) (own : Handle) (r : Request) → closes own r ≡ true → prepares draw area.Run r ≡ true
closes_prepares draw own (Close handle) is = refl
closes_prepares draw own r is = let clash : false ≡ true = is in cc

runs_in : (draw : PodId) (own : Handle) (r : Request) → runs_and_closes draw own r ≡ true → makes_and_runs draw r ≡ true
runs_in draw own r is = by (closes own r) (prepares draw area.Run r) (closes_prepares draw own r) is
  where
    by : (a b : Bool) → (a ≡ true → b ≡ true) → (a || runs_pod draw r) ≡ true → (b || runs_pod draw r) ≡ true
    by true b so h = ap (λ (x : Bool). x || runs_pod draw r) (so refl)
    by false true so h = refl
    by false false so h = h

pub made_worked : {observed : Bool} {a b c : DirAt} {m : Local} (draw : PodId) (owned : Owned) (h : Holding) → IsOwned draw m owned → h.handle ≡ owned.own → a.local.holdings ≡ [] → LeavesOpen observed (prepares draw area.Run) (and_holding a.local h) a b →
    LeavesOpen observed (runs_and_closes owned.pod owned.own) (without b.local owned.own) b c → OnlyAsks observed (makes_and_runs draw) a c
made_worked {observed} {a} {b} {c} draw owned h own is none w v = record {
  same = v.same ∙ w.same;
  faults = omega (arith, w.faults, v.faults);
  local = v.local_is ∙ (ap (λ (m : Local). without m owned.own) w.local_is ∙ given_back a.local h owned.own none is);
  extends = λ t. and_more (extends_wider (prepares_in draw) (w.extends t)) w.same (extends_wider (runs_in draw owned.own) (subst (λ (p : PodId). ExtendsBy (runs_and_closes p owned.own) b c) own.is (v.extends t)));
}

pub unmade_worked : {observed : Bool} {a b : DirAt} (draw : PodId) → LeavesOpen observed (prepares draw area.Run) a.local a b → OnlyAsks observed (makes_and_runs draw) a b
unmade_worked draw w = record { same = w.same; faults = w.faults; local = w.local_is; extends = λ t. extends_wider (prepares_in draw) (w.extends t) }

-- it runs the pod that it made
abbrev made_seen : PodId → Handle → Intent → List Entry → Seen
made_seen draw own intent entries = seen_making intent (own_held draw own (Some Exclusive) ∷ []) (handed draw area.Run entries)

runs_made : (draw : PodId) (own : Handle) (intent : Intent) (entries : List Entry) → runs (made_seen draw own intent entries) (pod_text draw.bytes) ≡ true
runs_made draw own intent entries = rw (same_bytes (pod_text draw.bytes)) refl

fresh_made : (draw : PodId) (own : Handle) (intent : Intent) (entries : List Entry) → RunsWithoutNotes draw (made_seen draw own intent entries)
fresh_made draw own intent entries = record { runs_it = runs_made draw own intent entries; spares_it = never_deletes _; none = refl }

abbrev pub KnowsMade : Draw → ℕ → Owned → DirAt → DirAt → Type 0
KnowsMade draw now owned a b = WhereMakingPod (Began area.Run draw now) IsAlone nothing_made a (λ intent hs. KnowsPrepared draw.uuid area.Run intent (own_held draw.uuid owned.own (Some Exclusive) ∷ []) b)

pub made_knows : (draw : Draw) (now : ℕ) (made : Built) (owned : Owned) (a b : DirAt) → made ≡ built.Running owned → WhereMakingPod (Began area.Run draw now) IsAlone nothing_made a (λ intent hs. KnowsPrepared draw.uuid area.Run intent (held_with draw.uuid made []) b) →
    KnowsMade draw now owned a b
made_knows draw now made owned a b is knows = subst (λ (x : Built). WhereMakingPod (Began area.Run draw now) IsAlone nothing_made a (λ intent hs. KnowsPrepared draw.uuid area.Run intent (held_with draw.uuid x []) b)) is knows

pub made_runs : {observed : Bool} {m : Local} (draw : Draw) (now : ℕ) (owned : Owned) (a b : DirAt) → IsOwned draw.uuid m owned → (observed ≡ true → CanRun draw now a) → (observed ≡ true → KnowsMade draw now owned a b) → observed ≡ true → RunsPod owned.pod b
made_runs draw now owned a b is can knows t =
    let x = can t in
    let k = knows t x.0 [] x.1 refl x.2 in
    subst (λ (p : PodId). RunsPod p b) (sym is.is) (record { seen = made_seen draw.uuid owned.own x.0 k.0; knows = k.1; runs = runs_made draw.uuid owned.own x.0 k.0 })

-- it keeps the local rules
pub made_keeps : {observed : Bool} {m : Local} (draw : Draw) (now : ℕ) (owned : Owned) (intent : Intent) (a b c : DirAt) → IsOwned draw.uuid m owned → observed ≡ true → Began area.Run draw now intent → (observed ≡ true → KnowsMade draw now owned a b) →
    KeepsToEnd owned.pod owned.own b c → StaysConforming intent a c
made_keeps {observed} draw now owned intent a b c own t began knows keeps k =
    let x = knows t intent [] began refl k in
    let s = made_seen draw.uuid owned.own intent x.0 in
    let e = keeps s x.1 (subst (λ (p : PodId). RunsWithoutNotes p s) (sym own.is) (fresh_made draw.uuid owned.own intent x.0)) (never_both (gives_up (is_gate_shared area.Embryo) owned.own s.standing.holdings) (intends (λ i. holds_own (pod_text i.draw.bytes) s.standing) s.standing.intent)) in
    record { known = e.known; knows = e.knows; kept = e.kept }

pub unmade_keeps : {observed : Bool} (draw : Draw) (now : ℕ) (intent : Intent) (a b : DirAt) → observed ≡ true → Began area.Run draw now intent → (observed ≡ true → WhereMakingPod (Began area.Run draw now) IsAlone nothing_made a (λ intent hs. HasMakerFolder draw.uuid intent hs b)) →
    StaysConforming intent a b
unmade_keeps {observed} draw now intent a b t began left k =
    let x = left t intent [] began refl k in
    record { known = seen_making intent [] x.progress; knows = x.knows; kept = refl }

pub unbegun_keeps : (intent : Intent) (a : DirAt) → StaysConforming intent a a
unbegun_keeps intent a k = record { known = seen_at_begin intent; knows = k; kept = refl }

-- refusals
apps_in : (r : Refusal) → apps_refusal r ≡ true → new_run_refusal r ≡ true
apps_in (NoManifest pod) is = refl
apps_in (NoProgram app word) is = refl
apps_in (Damaged path) is = refl
apps_in SpawnFault is = refl
apps_in Stray is = refl
apps_in DirFault is = refl
apps_in NoMemory is = refl
apps_in r is = let clash : false ≡ true = is in cc

pub run_in : (a : Answer) → IfErr a (λ r. apps_refusal r ≡ true) → IfErr a (λ r. new_run_refusal r ≡ true)
run_in (Ok told) h = tt
run_in (Err r) h = apps_in r h

pub prepare_in : (r : Refusal) → prepare_refusal r ≡ true → new_run_refusal r ≡ true
prepare_in (NoManifest pod) is = refl
prepare_in (NoProgram app word) is = refl
prepare_in SpawnFault is = refl
prepare_in r is = is

pub never_spawns : (r : Refusal) {X : Type 0} → prepare_refusal r ≡ true → r ≡ SpawnFault → X
never_spawns SpawnFault known is = let clash : false ≡ true = known in cc
never_spawns r known is = cc

-- what is told
module _ (seen observed : Bool) (wants : Wants) (address : List ℕ) (now : ℕ) (draw : Draw) (a c : DirAt) (s s' : SpawnerAt) (answer : Answer) where
  pub made_says : (refs : List ImageRef) (b : DirAt) (owned : Owned) → AreReferences wants.images refs → IsOwned draw.uuid a.local owned → b.process ≡ a.process → FindsImagesFree seen a b → IsMadeByPlan seen refs wants.wishes draw now a b → (seen ≡ true → ExtendsBy (prepares draw.uuid area.Run) a b) → (seen ≡ true → KnowsMade draw now owned a b)
      → (seen ≡ true → IsConforming b.trace → WhereMakingPod (Began area.Run draw now) IsAlone nothing_made a (λ intent hs. IsPrepared refs wants.wishes a.process draw.uuid area.Run a.trace b.trace))
      → (seen ≡ true → Grew b.trace c.trace) → RunSays seen observed owned address (pod_line draw.uuid) b c s s' answer → NewRunSays seen observed wants address now draw a c s s' answer
  made_says refs b owned are is same free planned asked knows prepared then says = inl (record {
    made = b;
    owned = owned;
    is_owned = is;
    same = same;
    free = free;
    planned = (refs, are, planned);
    asked = asked;
    knows = knows;
    faithful = λ t conforming intent hs began alone k. (refs, are, prepared t conforming intent hs began alone k);
    then = then;
    says = says;
  })

  pub unmade_says : (refs : List ImageRef) (e : BuildError) (r : Refusal) → answer ≡ Err r → AreReferences wants.images refs → IsSaidOfBuild wants.images e r → IsBuildRefused seen refs wants.wishes draw now e a c
      → (seen ≡ true → WhereMakingPod (Began area.Run draw now) IsAlone nothing_made a (λ intent hs. AreaHeldElsewhere e a c)) → (seen ≡ true → WhereMakingPod (Began area.Run draw now) IsAlone nothing_made a (λ intent hs. HasMakerFolder draw.uuid intent hs c)) → s' ≡ s
      → NewRunSays seen observed wants address now draw a c s s' answer
  unmade_says refs e r is are said refused another left unasked = inr (inl (record { error = e; is = (r, is, said); cause = (refs, are, refused); another = another; left = left; unasked = unasked }))
