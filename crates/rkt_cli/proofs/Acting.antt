-- From what the calls of a process leave to what is told of it.
use Rattle.std.proofs.Common.{arith, ◌≡◌, inl, inr, ℕ, Bool, true, false, List, Option, Some, None, Result, Ok, Err, IfErr, IfOk, IsErrOf, refl, sym, ap, subst, ◌∙◌}
use Rattle.dir_model.specs.declared.intent.Draw.{Draw}
use Rattle.dir_model.specs.declared.intent.Intent.{Intent}
use Rattle.dir_model.specs.declared.pod.PodId.{PodId}
use Rattle.dir_model.specs.declared.request.DirError.{DirError}
use Rattle.dir_model.specs.declared.request.DirError.TheVariants as dir_error
use Rattle.dir_model.specs.declared.request.Request.TheVariants.{Begin, Finish}
use Rattle.dir_model.specs.declared.request.Reply.TheVariants.{Done, Refused}
use Rattle.dir_model.specs.Calls.{CallStep}
use Rattle.dir_model.specs.Causes.{Rose}
use Rattle.dir_model.specs.Local.{Local, local_replied, nothing_local}
use Rattle.dir_model.specs.Replies.{done_reply, may_refuse}
use Rattle.dir_model.proofs.Chains.{extends_wider}
use Rattle.dir_trait.specs.DirCalls.{DirAt, DirCall, ExtendsBy}
use Rattle.dir_trait.specs.Knowledge.{Knows}
use Rattle.command_outcomes.specs.declared.refusal.Refusal.{Refusal}
use Rattle.command_outcomes.specs.declared.refusal.Refusal.TheVariants.{NoMemory, SpawnFault}
use Rattle.command_outcomes.specs.Conforming.{seen_at_begin, StaysConforming}
use Rattle.command_outcomes.specs.Moments.{BundleSeen, Inside, Outside, Moment, SinkSeen, SpawnerSeen, Answer, is_well, outcome_of}
use Rattle.command_outcomes.specs.Texts.{exit_status_of}
use Rattle.command_outcomes.proofs.Seen.{beside}
use Rattle.commands.specs.AppsTold.{inside}
use Rattle.commands.specs.Opening.{Approach, Looks, Opens}
use Rattle.commands.proofs.Starts.{look_extends, look_lists}
use Rattle.pod_lookup.specs.Looks.{lists_stages}
use Rattle.rkt_cli.specs.declared.line.Line.{Line}
use Rattle.rkt_cli.specs.declared.line.Line.TheVariants as line
use Rattle.rkt_cli.specs.Commands.{any_task, approach_in, TellsOfItsApps, intent_in, intent_of, reads_bundle, runs_apps, uses_dir, ReadsOnly}
use Rattle.rkt_cli.specs.Lookups.{Acts, approach_by, ComesToPod, FindsPodByWord, LookedInVain, NeverReachedItsPod}
use Rattle.rkt_cli.specs.Promises.{IsRunOf}
use Rattle.rkt_cli.specs.Runs.{begun_local, CommandRan, End, end_of_writing, InProcess, NeverBegan, Performs, Printed, Reported, RunsNoCommand, status_at}
use Rattle.rkt_cli.specs.Spawns.{AppsToldBetween}
use Rattle.rkt_cli.specs.Tasks.{Task, task_of, pod_word_of, FindsItsPod, IsMeantBy, MeansItsPod}
use Rattle.rkt_cli.proofs.AppsRan.{line_is, spawns}
use Rattle.rkt_cli.proofs.RunsRan.{begun_at}

-- ---- what the line says of its task

pub at_task : {l m : Line} (pod : PodId) → l ≡ m → task_of l pod ≡ task_of m pod
at_task pod is = ap (λ (l : Line). task_of l pod) is

-- what doesn't depend on the pod
pub same_uses : (l : Line) (pod : PodId) → uses_dir (task_of l pod) ≡ uses_dir (any_task l)
same_uses (line.Status word) pod = refl
same_uses (line.CatManifest word) pod = refl
same_uses (line.RunPrepared word address) pod = refl
same_uses (line.Rm word) pod = refl
same_uses l pod = refl

pub same_reads : (l : Line) (pod : PodId) → reads_bundle (task_of l pod) ≡ reads_bundle (any_task l)
same_reads (line.Status word) pod = refl
same_reads (line.CatManifest word) pod = refl
same_reads (line.RunPrepared word address) pod = refl
same_reads (line.Rm word) pod = refl
same_reads l pod = refl

pub same_runs : (l : Line) (pod : PodId) → runs_apps (task_of l pod) ≡ runs_apps (any_task l)
same_runs (line.Status word) pod = refl
same_runs (line.CatManifest word) pod = refl
same_runs (line.RunPrepared word address) pod = refl
same_runs (line.Rm word) pod = refl
same_runs l pod = refl

pub same_intent : (l : Line) (pod : PodId) (now : ℕ) (draw : Draw) → intent_of (task_of l pod) now draw ≡ intent_in l now draw
same_intent (line.Status word) pod now draw = refl
same_intent (line.CatManifest word) pod now draw = refl
same_intent (line.RunPrepared word address) pod now draw = refl
same_intent (line.Rm word) pod now draw = refl
same_intent l pod now draw = refl

pub read_so : (l : Line) (pod : PodId) (old new : BundleSeen) → ReadsOnly (task_of l pod) old new → ReadsOnly (any_task l) old new
read_so (line.Status word) pod old new reads = reads
read_so (line.CatManifest word) pod old new reads = reads
read_so (line.RunPrepared word address) pod old new reads = reads
read_so (line.Rm word) pod old new reads = reads
read_so l pod old new reads = reads

same_approach : (l : Line) (pod : PodId) → approach_by (pod_word_of l) ≡ approach_in (task_of l pod)
same_approach (line.Status word) pod = refl
same_approach (line.CatManifest word) pod = refl
same_approach (line.RunPrepared word address) pod = refl
same_approach (line.Rm word) pod = refl
same_approach l pod = refl

-- the pod that it was found to mean
pub is_meant_by : (observed : Bool) (l : Line) (pod : PodId) (draw : Draw) (b m : DirAt) → FindsPodByWord observed (pod_word_of l) draw b m (Ok pod) → IsMeantBy (pod_word_of l) draw pod
is_meant_by observed (line.Status word) pod draw b m f = f.0
is_meant_by observed (line.CatManifest word) pod draw b m f = f.0
is_meant_by observed (line.RunPrepared word address) pod draw b m f = f.0
is_meant_by observed (line.Rm word) pod draw b m f = f.0
is_meant_by observed l pod draw b m f = let same : pod ≡ draw.uuid = cc in same

pub means_its : (l : Line) (pod : PodId) (draw : Draw) → IsMeantBy (pod_word_of l) draw pod → MeansItsPod (task_of l pod)
means_its (line.Status word) pod draw m = m
means_its (line.CatManifest word) pod draw m = m
means_its (line.RunPrepared word address) pod draw m = m
means_its (line.Rm word) pod draw m = m
means_its l pod draw m = tt

finds_its : {observed : Bool} (l : Line) (pod : PodId) (draw : Draw) (b m : DirAt) → FindsPodByWord observed (pod_word_of l) draw b m (Ok pod) → observed ≡ true → FindsItsPod (task_of l pod) b.process b.trace m.trace
finds_its (line.Status word) pod draw b m f t = f.1 t
finds_its (line.CatManifest word) pod draw b m f t = f.1 t
finds_its (line.RunPrepared word address) pod draw b m f t = f.1 t
finds_its (line.Rm word) pod draw b m f t = f.1 t
finds_its l pod draw b m f t = tt

-- a line that needs no process has no word
pub drawn_alone : (l : Line) (draw : Draw) → uses_dir (any_task l) ≡ false → IsMeantBy (pod_word_of l) draw draw.uuid
drawn_alone (line.Status word) draw apart = cc
drawn_alone (line.CatManifest word) draw apart = cc
drawn_alone (line.RunPrepared word address) draw apart = cc
drawn_alone (line.Rm word) draw apart = cc
drawn_alone l draw apart = refl

pub means_alone : (l : Line) (draw : Draw) → uses_dir (any_task l) ≡ false → MeansItsPod (task_of l draw.uuid)
means_alone l draw apart = means_its l draw.uuid draw (drawn_alone l draw apart)

-- ---- a process

begin_error : (intent : Intent) (e : DirError) → may_refuse (Begin intent) e ≡ true → e ≡ dir_error.NoMemory
begin_error intent dir_error.NoMemory may = refl
begin_error intent e may = cc

module _ (observed : Bool) (l : Line) (now : ℕ) (draw : Draw) (intent : Intent) (a b : DirAt) (said : intent_in l now draw ≡ Some intent) where
  -- it couldn't begin
  pub acted_never : (u : BundleSeen) (s : SpawnerSeen) (e : DirError) → may_refuse (Begin intent) e ≡ true → DirCall observed a (Begin intent) (done_reply {T = Unit {0}} (Err e)) b →
      Acts l now draw (beside observed a u) (beside observed b u) s s (Err NoMemory)
  acted_never u s e may call =
      let refused : DirCall observed a (Begin intent) (Refused dir_error.NoMemory 0) b = subst (λ (x : DirError). DirCall observed a (Begin intent) (Refused x 0) b) (begin_error intent e may) call in
      let never : NeverBegan intent (beside observed a u) (beside observed b u) (Err NoMemory) = record { is = refl; same = refused.same; local = refused.local; faults = refused.faults; step = refused.step; bundle = refl } in
      inr (NoMemory, refl, inr (inl (intent, said, refl, never)), refl, refl)

  module _ (fresh : a.local ≡ nothing_local) (begins : DirCall observed a (Begin intent) Done b) (m : DirAt) (comes : ComesToPod observed (pod_word_of l) b m) where
    began : b.local ≡ begun_local intent
    began = begins.local ∙ ap (λ (x : Local). local_replied x (Begin intent) Done) fresh

    knew : observed ≡ true → Knows b (seen_at_begin intent)
    knew t = let k = begun_at intent fresh begins t in record { tied = k.tied; handles = k.handles }

    pub acted_knows : observed ≡ true → Knows m (seen_at_begin intent)
    acted_knows t = comes.knows t intent (knew t)

    -- its pod was found, the command ran, and it finished
    module _ (pod : PodId) (found : FindsPodByWord observed (pod_word_of l) draw b m (Ok pod)) (c d : DirAt) (u v : BundleSeen) (s s' : SpawnerSeen) (answer : Answer)
        (uses : uses_dir (any_task l) ≡ true)
        (ran : CommandRan (task_of l pod) now draw (beside observed m u) (beside observed c v) (outcome_of answer))
        (keeps : observed ≡ true → (i : Intent) → intent_of (task_of l pod) now draw ≡ Some i → StaysConforming i m c)
        (came : TellsOfItsApps (task_of l pod) now draw (inside observed m s) (inside observed c s') answer)
        (spawn_cause : IsErrOf answer SpawnFault → Rose s.shown.faults s'.shown.faults)
        (finish : DirCall observed c Finish Done d) (faultless : d.faults ≡ c.faults) where
      abbrev task : Task
      task = task_of l pod

      its : intent_of task now draw ≡ Some intent
      its = same_intent l pod now draw ∙ said

      abbrev opened : observed ≡ true → Opens (approach_in task) intent a.process a.trace m.trace
      opened t = record {
        first = b.trace;
        begins = begins.step t;
        looks = subst (λ (p : ℕ). Looks (approach_in task) p b.trace m.trace) begins.same (subst (λ (x : Approach). Looks x b.process b.trace m.trace) (same_approach l pod) (comes.looks t));
      }

      in_process : InProcess task now draw intent (beside observed a u) (beside observed d v) (outcome_of answer)
      in_process = record {
        uses = same_uses l pod ∙ uses;
        begun = beside observed m u;
        ended = beside observed c v;
        told = refl;
        me = comes.same ∙ begins.same;
        risen = omega (arith, begins.faults, comes.faults);
        started = comes.local ∙ began;
        meant = means_its l pod draw (is_meant_by observed l pod draw b m found);
        begins = opened;
        found = λ t. subst (λ (p : ℕ). FindsItsPod task p b.trace m.trace) begins.same (finds_its l pod draw b m found t);
        knows = acted_knows;
        bundle_before = refl;
        ran = ran;
        keeps = λ t. keeps t intent its;
        finishes = finish.step;
        faults = faultless;
        same = finish.same;
        local = finish.local ∙ ap (λ (x : Local). local_replied x Finish Done) (ran.local ∙ (comes.local ∙ began));
        bundle_after = refl;
      }

      between : AppsToldBetween task now draw (Some intent) (inside observed a s) (inside observed d s') answer
      between = inl (record {
        begun = m;
        ended = c;
        me = comes.same ∙ begins.same;
        begins = opened;
        came = came;
        knows = acted_knows;
        same = ran.same;
        extends = ran.extends;
        finishes = finish.step;
      })

      pub acted_whole : Acts l now draw (beside observed a u) (beside observed d v) s s' answer
      acted_whole = inl (
        pod,
        is_meant_by observed l pod draw b m found,
        record {
          performs = subst (λ (i : Option Intent). Performs task now draw i (beside observed a u) (beside observed d v) (outcome_of answer)) (sym its) (inl in_process);
          came = subst (λ (i : Option Intent). AppsToldBetween task now draw i (inside observed a s) (inside observed d s') answer) (sym its) between;
          spawn_cause = spawn_cause;
        },
      )

    -- none was found, and it finished
    module _ (refusal : Refusal) (d : DirAt) (u : BundleSeen) (s : SpawnerSeen) (vain : FindsPodByWord observed (pod_word_of l) draw b m (Err refusal)) (finish : DirCall observed m Finish Done d) (faultless : d.faults ≡ m.faults) where
      abbrev Never : Type 0
      Never = NeverReachedItsPod l now draw (beside observed a u) (beside observed d u) refusal

      looked : (word : List ℕ) → ComesToPod observed (Some word) b m → FindsPodByWord observed (Some word) draw b m (Err refusal) → LookedInVain observed word intent a d refusal
      looked word came why = record {
        begun = b;
        looked = m;
        me = begins.same;
        risen = begins.faults;
        begins = begins.step;
        knew = knew;
        comes = came;
        vain = why;
        finishes = λ t. subst (λ (p : ℕ). CallStep p m.trace Finish Done d.trace) (comes.same ∙ begins.same) (finish.step t);
        same = finish.same ∙ (comes.same ∙ begins.same);
        faults = faultless;
        local = finish.local ∙ ap (λ (x : Local). local_replied x Finish Done) (comes.local ∙ began);
      }

      never : (word : Option (List ℕ)) → pod_word_of l ≡ word → ComesToPod observed word b m → FindsPodByWord observed word draw b m (Err refusal) → Never
      never None is came why = cc
      never (Some word) is came why = inr (inr (word, is, intent, said, looked word came why))

      pub acted_vain : Acts l now draw (beside observed a u) (beside observed d u) s s (Err refusal)
      acted_vain = inr (refusal, refl, never (pod_word_of l) refl comes vain, refl, refl)

-- a command that needs no process
pub acted_apart : (observed : Bool) (l : Line) (now : ℕ) (draw : Draw) (a b : DirAt) (u v : BundleSeen) (s s' : SpawnerSeen) (answer : Answer) → intent_in l now draw ≡ None → uses_dir (any_task l) ≡ false → b ≡ a →
    CommandRan (task_of l draw.uuid) now draw (beside observed a u) (beside observed b v) (outcome_of answer) → is_well answer ≡ true → (IsErrOf answer SpawnFault → Rose s.shown.faults s'.shown.faults) →
    Acts l now draw (beside observed a u) (beside observed b v) s s' answer
acted_apart observed l now draw a b u v s s' answer none apart same ran well spawn_cause =
    let task = task_of l draw.uuid in
    let its : intent_of task now draw ≡ None = same_intent l draw.uuid now draw ∙ none in
    inl (
      draw.uuid,
      drawn_alone l draw apart,
      record {
        performs = subst (λ (i : Option Intent). Performs task now draw i (beside observed a u) (beside observed b v) (outcome_of answer)) (sym its) (record { apart = same_uses l draw.uuid ∙ apart; dir = same; ran = ran });
        came = subst (λ (i : Option Intent). AppsToldBetween task now draw i (inside observed a s) (inside observed b s') answer) (sym its) well;
        spawn_cause = spawn_cause;
      },
    )

-- such a command starts no apps
pub well_apart : (l : Line) (now : ℕ) (draw : Draw) (a b : Inside) (answer : Answer) → uses_dir (any_task l) ≡ false → TellsOfItsApps (task_of l draw.uuid) now draw a b answer → is_well answer ≡ true
well_apart (line.Validate path) now draw a b answer apart came = came
well_apart (line.Demo count) now draw a b answer apart came = came
well_apart l now draw a b answer apart came = cc

-- a look lists areas of pods alone
pub looked_by : (observed : Bool) (word : Option (List ℕ)) (old new : DirAt) → ComesToPod observed word old new → observed ≡ true → ExtendsBy lists_stages old new
looked_by observed word old new comes t = extends_wider (look_lists (approach_by word)) (look_extends (approach_by word) (comes.looks t))

-- ---- a run

-- an output that is as it was shows what it showed
pub kept_seen : {S : Type 0} (answer : Answer) (see : S → SinkSeen) (old new : S) → IfErr answer (λ r. new ≡ old) → IfErr answer (λ r. see new ≡ see old)
kept_seen (Ok told) see old new kept = tt
kept_seen (Err r) see old new kept = ap see kept

pub refused_status : (end : Result Bool Refusal) (r : Refusal) → ◌≡◌ {A = End} (end_of_writing end) (Err r) → status_at end ≡ exit_status_of r
refused_status (Ok well) r is = cc
refused_status (Err q) r is = let same : q ≡ r = cc in ap exit_status_of same

pub acted : (l : Line) (now : ℕ) (draw : Draw) (old new : Moment) (answer : Answer) (end : Result Bool Refusal) (status : ℕ) → status ≡ status_at end → IfOk end (λ well. well ≡ is_well answer) →
    Acts l now draw old.outside new.outside old.spawner new.spawner answer → Printed (outcome_of answer) old.out new.out (end_of_writing end) → IfErr answer (λ r. new.out ≡ old.out) → Reported (end_of_writing end) old.err new.err → IsRunOf (Some l) now draw old new status
acted l now draw old new answer end status is well (inl x) printed kept reported =
    inl (
      x.0,
      x.1,
      line_is (task_of l x.0) now draw old new answer end status is well (record {
        answer = answer;
        outcome = outcome_of answer;
        outcome_is = refl;
        came = x.2.came;
        spawn_cause = λ e. x.2.spawn_cause (spawns answer e);
        end = end_of_writing end;
        performs = x.2.performs;
        printed = printed;
        reported = reported;
        is = refl;
      }) x.2.came printed reported,
    )
acted l now draw old new answer end status is well (inr x) printed kept reported =
    let over : end_of_writing end ≡ Err x.0 = (subst (λ (y : Answer). Printed (outcome_of y) old.out new.out (end_of_writing end)) x.1 printed).refused.0 in
    inr (record {
      refusal = x.0;
      is = is ∙ refused_status end x.0 over;
      said = subst (λ (e : End). Reported e old.err new.err) over reported;
      why = x.2;
      bundle = x.3;
      spawner = x.4;
      out = subst (λ (y : Answer). IfErr y (λ r. new.out ≡ old.out)) x.1 kept;
    })

-- words of which nothing came
module _ (now : ℕ) (draw : Draw) (old new : Moment) (status : ℕ) where
  pub not_read : (line : Option Line) → IsRunOf None now draw old new status → line ≡ None → IsRunOf line now draw old new status
  not_read line run is = subst (λ (x : Option Line). IsRunOf x now draw old new status) (sym is) run

  pub forgotten : (line : Option Line) → RunsNoCommand NoMemory old new status → IsRunOf line now draw old new status
  forgotten None r = inr r
  forgotten (Some l) r = inr (record {
    refusal = NoMemory;
    is = r.is;
    said = r.reported;
    why = inl (refl, ap (λ (x : Outside). x.dir) r.outside);
    bundle = ap (λ (x : Outside). x.bundle) r.outside;
    spawner = r.spawner;
    out = r.out;
  })
