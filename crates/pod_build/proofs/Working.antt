-- What the parts of a prepare ask for, leave open and know.
use Rattle.std.proofs.Common.{◌≡◌, ◌≤◌, ◌<◌, ℕ, Bool, true, false, not, ◌||◌, IfOk, Some, Result, Ok, Err, List, [], ◌∷◌, ◌++◌, length, refl, sym, ap, subst, ◌∙◌, arith}
use Rattle.dir_model.specs.declared.area.Area.{Area}
use Rattle.dir_model.specs.declared.area.Area.TheVariants.{Images, Prepare}
use Rattle.std.specs.List.{list_any}
use Rattle.std.proofs.lemmas.Bool.{or_right}
use Rattle.dir_model.specs.declared.intent.Draw.{Draw}
use Rattle.dir_model.specs.declared.intent.Intent.{Intent}
use Rattle.dir_model.specs.declared.opening.Target.TheVariants.{Gate}
use Rattle.dir_model.specs.declared.pod.PodId.{PodId}
use Rattle.dir_model.specs.declared.request.Request.{Request}
use Rattle.dir_model.specs.declared.request.Request.TheVariants.{Close, MoveFolder}
use Rattle.dir_model.specs.declared.request.Reply.TheVariants.{Done}
use Rattle.dir_model.specs.declared.spot.Handle.{Handle}
use Rattle.dir_model.specs.declared.spot.Mode.{Mode}
use Rattle.dir_model.specs.declared.spot.Mode.TheVariants.{Shared, Exclusive}
use Rattle.dir_model.specs.Causes.{Rose}
use Rattle.dir_model.specs.Local.{Local, IsUnopened, without}
use Rattle.dir_model.proofs.Chains.{and_more, extends_wider}
use Rattle.dir_model.proofs.Moments.{at_after, at_before}
use Rattle.dir_rules.specs.declared.standing.Held.{Held}
use Rattle.dir_rules.specs.declared.seen.Entry.{Entry}
use Rattle.dir_rules.specs.declared.seen.Seen.{Seen}
use Rattle.dir_rules.specs.declared.seen.ShownArea.{ShownArea}
use Rattle.dir_rules.specs.Standing.{is_handle_held, is_known}
use Rattle.dir_rules.specs.LockRules.{is_open_on}
use Rattle.dir_rules.specs.Conforms.{seen_replied}
use Rattle.dir_trait.specs.DirCalls.{DirAt, HeldBetween, ExtendsBy}
use Rattle.dir_trait.specs.Knowledge.{Knows}
use Rattle.dir_trait.specs.Effects.{OnlyAsks, LeavesOpen}
use Rattle.dir_files.specs.AreaLocks.{is_taking_area, closes, and_area_lock, on_gate, with_gate, shared_given, MayLock, IsBusyElsewhere, IsFreeElsewhere}
use Rattle.dir_files.specs.declared.lock_error.LockError.{LockError}
use Rattle.dir_files.specs.declared.lock_error.LockError.TheVariants as lock
use Rattle.dir_files.proofs.Locking.{unlocked_same}
use Rattle.folder_building.specs.declared.plan.PlanEntry.{PlanEntry}
use Rattle.folder_building.proofs.Following.{Follows}
use Rattle.folder_contents.specs.Handing.{hands_over}
use Rattle.image_reading.specs.Looks.{reads_images, OnlyReadsImages, KnowsStillNamed}
use Rattle.pod_plan.specs.PodPlans.{ComesInTurn, MakesWhole}
use Rattle.pod_build.specs.MakingRequests.{makes_pod}
use Rattle.pod_build.specs.Progress.{seen_making, nothing_made, handed, own_held, and_own}
use Rattle.pod_build.specs.Work.{MayMake, MakesUnderImages, HasMakerFolder}
use Rattle.pod_build.specs.declared.make_error.MakeError.{MakeError}
use Rattle.pod_build.specs.declared.make_error.MakeError.TheVariants as make
use Rattle.pod_build.specs.MakingCauses.{IsCopiedAt, MakeCause}
use Rattle.pod_build.proofs.Begun.{begun_under}
use Rattle.pod_build.proofs.Locals.{other_number, gate_closed}
use Rattle.pod_build.proofs.Steps.{gate_given_after}
use Rattle.pod_build.proofs.Handing.{HandsNothingOver}
use Rattle.pod_plan.specs.declared.plan_error.PlanError.{PlanError}
use Rattle.pod_plan.specs.declared.plan_error.PlanError.TheVariants as plan
use Rattle.pod_build.specs.declared.error.BuildError.{BuildError}
use Rattle.pod_build.specs.declared.error.BuildError.TheVariants.{DirFault}
use Rattle.pod_build.specs.declared.built.Built.{Built}
use Rattle.pod_build.specs.declared.built.Built.TheVariants as built
use Rattle.pod_build.specs.Answers.{target, IsBuildAnswer, with_built, held_with}
use Rattle.pod_build.specs.Refusals.{gate_refusal, plan_refusal, IsMakeRefusal}
use Rattle.pod_build.specs.Causes.{FailsMaking, FindsImagesFree, AreaHeldElsewhere}
use Rattle.pod_build.specs.Requests.{prepares, prepares_under_lock}
use Rattle.pod_build.specs.Preparations.{Began, IsAlone, HasGateAlone}

-- the place of an entry that is copied lies in the plan
before_end : (before rest : List PlanEntry) (e : PlanEntry) → length before < length (before ++ e ∷ rest)
before_end [] rest e = omega arith
before_end (x ∷ xs) rest e = let h = before_end xs rest e in omega (arith, h)

pub copied_within : (plan : List PlanEntry) (place : ℕ) → IsCopiedAt plan place → place < length plan
copied_within plan place x = subst (λ (l : List PlanEntry). place < length l) (sym x.is) (subst (λ n. n < length (x.before ++ x.entry ∷ x.rest)) x.counted (before_end x.before x.rest x.entry))

pub worked_went : {observed : Bool} {asks : Request → Bool} {a b : DirAt} → OnlyAsks observed asks a b → LeavesOpen observed asks a.local a b
worked_went w = record { same = w.same; faults = w.faults; local_is = w.local; extends = w.extends }

-- what is asked for under the lock of images, and with it
reads_under : (draw : PodId) (to : Area) (r : Request) → reads_images r ≡ true → prepares_under_lock draw to r ≡ true
reads_under draw to r is = ap (λ b. b || makes_pod draw to r) is

makes_under : (draw : PodId) (to : Area) (r : Request) → makes_pod draw to r ≡ true → prepares_under_lock draw to r ≡ true
makes_under draw to r is = or_right (reads_images r) (makes_pod draw to r) is

lock_in : (draw : PodId) (to : Area) (r : Request) → is_taking_area Images Shared r ≡ true → prepares draw to r ≡ true
lock_in draw to r is = ap (λ b. b || prepares_under_lock draw to r) is

under_in : (draw : PodId) (to : Area) (r : Request) → prepares_under_lock draw to r ≡ true → prepares draw to r ≡ true
under_in draw to r is = or_right (is_taking_area Images Shared r) (prepares_under_lock draw to r) is

pub close_takes : (h : Handle) (r : Request) → closes h r ≡ true → is_taking_area Images Shared r ≡ true
close_takes h (Close handle) is = refl
close_takes h r is = cc

-- neither the lock nor the reading hands a pod over
pub locks_hand_none : (area : Area) (mode : Mode) → HandsNothingOver (is_taking_area area mode)
locks_hand_none area mode (MoveFolder from to) is = cc
locks_hand_none area mode request is = refl

pub reads_hand_none : HandsNothingOver reads_images
reads_hand_none (MoveFolder from to) is = cc
reads_hand_none request is = refl

-- the images are read, and then the pod is made
pub follows_reads : {observed : Bool} {a b : DirAt} → OnlyReadsImages observed a b → Follows observed a b
follows_reads o = record { same = o.same; faults = o.faults; asks = reads_images; extends = o.extends }

pub went_reads : {observed : Bool} {a b : DirAt} (draw : PodId) (to : Area) → OnlyReadsImages observed a b → LeavesOpen observed (prepares_under_lock draw to) a.local a b
went_reads draw to o = record { same = o.same; faults = o.faults; local_is = o.local; extends = λ t. extends_wider (reads_under draw to) (o.extends t) }

pub went_under : {observed : Bool} {a b c : DirAt} (draw : PodId) (to : Area) (r : Result Built BuildError) → OnlyReadsImages observed a b → LeavesOpen observed (makes_pod draw to) (with_built b.local draw r) b c → LeavesOpen observed (prepares_under_lock draw to) (with_built a.local draw r) a c
went_under draw to r o w = record {
  same = w.same ∙ o.same;
  faults = omega (arith, o.faults, w.faults);
  local_is = w.local_is ∙ ap (λ (m : Local). with_built m draw r) o.local;
  extends = λ t. and_more (extends_wider (reads_under draw to) (o.extends t)) o.same (extends_wider (makes_under draw to) (w.extends t));
}

pub worked_reads : {observed : Bool} {a b : DirAt} → observed ≡ true → OnlyReadsImages observed a b → OnlyAsks true reads_images a b
worked_reads t o = record { same = o.same; faults = o.faults; local = o.local; extends = λ u. o.extends t }

-- it has begun, and the plan is one by which it may make the pod
pub may_make : {to : Area} {plan : List PlanEntry} {draw : Draw} {now : ℕ} {intent : Intent} → Began to draw now intent → ComesInTurn now plan → MakesWhole plan → MayMake to plan draw.uuid intent
may_make {to} {plan} began turn whole = record { leads = began.leads; drawn = began.drawn; turn = subst (λ n. ComesInTurn n plan) (sym began.moment) turn; whole = whole }

pub under_images : {hs : List Held} (draw : PodId) (gate : Handle) → HasGateAlone gate hs → MakesUnderImages draw hs
under_images draw gate alone = subst (λ (l : List Held). MakesUnderImages draw l) (sym alone) (begun_under draw gate)

-- with the lock shared no name is noted while the images are read
pub knows_read : {a b : DirAt} {intent : Intent} {hs : List Held} (gate : Handle) → HasGateAlone gate hs → KnowsStillNamed a b → Knows a (seen_making intent hs nothing_made) → Knows b (seen_making intent hs nothing_made)
knows_read {a} {b} {intent} {hs} gate alone still k = subst (λ (l : List Held). Knows b (seen_making intent l nothing_made)) (sym alone) (by (subst (λ (l : List Held). Knows a (seen_making intent l nothing_made)) alone k))
  where
    by : Knows a (seen_making intent (on_gate gate Images (Some Shared) ∷ []) nothing_made) → Knows b (seen_making intent (on_gate gate Images (Some Shared) ∷ []) nothing_made)
    by known =
        let n = still (seen_making intent (on_gate gate Images (Some Shared) ∷ []) nothing_made) known in
        subst (λ (areas : List ShownArea). Knows b (record (seen_making intent (on_gate gate Images (Some Shared) ∷ []) nothing_made) { areas = areas })) (n.shared refl) n.knows

-- a lock that another held, said of a longer time
pub elsewhere_within : {observed : Bool} {e : BuildError} (a b c d : DirAt) → observed ≡ true → Follows observed a b → c.process ≡ b.process → Follows observed c d → AreaHeldElsewhere e b c → AreaHeldElsewhere e a d
elsewhere_within {observed} {e} a b c d t ab same cd x area is =
    at_before (at_after (ab.extends t) ab.same (subst (λ (me : ℕ). HeldBetween b c (IsBusyElsewhere me area Shared)) ab.same (x area is))) (same ∙ ab.same) (cd.extends t)

-- and the lock of images, which was free
pub free_within : {observed : Bool} {first last : Request → Bool} (a b c d : DirAt) → b.process ≡ a.process → c.process ≡ b.process → (observed ≡ true → ExtendsBy first b c) → (observed ≡ true → ExtendsBy last c d)
    → (observed ≡ true → HeldBetween a b (IsFreeElsewhere a.process Images Shared)) → FindsImagesFree observed a d
free_within a b c d ab bc first last free t = at_before (at_before (free t) ab (first t)) (bc ∙ ab) (last t)

-- the lock of images is given back
module _ (a b c d : DirAt) (gate : Handle) (draw : PodId) (unopened : IsUnopened a.local gate) (lock_is : b.local ≡ and_area_lock a.local gate Images Shared) (close_is : d.local ≡ without c.local gate) where
  pub local_back : (keep : Bool) (r : Result Built BuildError) → IfOk r (IsBuildAnswer keep draw b.local) → c.local ≡ with_built b.local draw r → d.local ≡ with_built a.local draw r
  local_back true (Ok (built.Running owned)) answer is =
      close_is ∙ (ap (λ (m : Local). without m gate) (is ∙ ap (λ (m : Local). and_own m draw owned.own) lock_is)
      ∙ gate_closed a.local gate owned.own Images (subst (λ (m : Local). IsUnopened m owned.own) lock_is answer.unopened) draw unopened)
  local_back false (Ok (built.Running owned)) answer is = absurd answer
  local_back true (Ok (built.Prepared pod)) answer is = absurd answer
  local_back false (Ok (built.Prepared pod)) answer is = unlocked_same a.local gate Images Shared unopened (is ∙ lock_is) close_is
  local_back keep (Err e) answer is = unlocked_same a.local gate Images Shared unopened (is ∙ lock_is) close_is

  pub went_back : {observed : Bool} (to : Area) (keep : Bool) (r : Result Built BuildError) → IfOk r (IsBuildAnswer keep draw b.local) → Follows observed a b → Follows observed c d
      → (observed ≡ true → ExtendsBy (is_taking_area Images Shared) a b) → (observed ≡ true → ExtendsBy (closes gate) c d) → LeavesOpen observed (prepares_under_lock draw to) (with_built b.local draw r) b c → LeavesOpen observed (prepares draw to) (with_built a.local draw r) a d
  went_back to keep r answer ab cd taken closed w = record {
    same = cd.same ∙ (w.same ∙ ab.same);
    faults = omega (arith, ab.faults, w.faults, cd.faults);
    local_is = local_back keep r answer w.local_is;
    extends = λ t. and_more (and_more (extends_wider (lock_in draw to) (taken t)) ab.same (extends_wider (under_in draw to) (w.extends t))) (w.same ∙ ab.same)
        (extends_wider (λ request is. lock_in draw to request (close_takes gate request is)) (closed t));
  }

-- a lock that wasn't had
pub went_refused : {observed : Bool} {a b : DirAt} (draw : PodId) (to : Area) → b.process ≡ a.process → a.faults ≤ b.faults → b.local ≡ a.local → (observed ≡ true → ExtendsBy (is_taking_area Images Shared) a b) → LeavesOpen observed (prepares draw to) a.local a b
went_refused draw to same faults local extends = record { same = same; faults = faults; local_is = local; extends = λ t. extends_wider (lock_in draw to) (extends t) }

-- where the pod is brought it is handed over
pub hands_to : (keep : Bool) → hands_over Prepare (target keep) ≡ true
hands_to true = refl
hands_to false = refl

-- what is known of the pod, once the lock of images is given back
pub knows_back : {c d : DirAt} (m : Local) (keep : Bool) (draw : PodId) (to : Area) (intent : Intent) (gate : Handle) (entries : List Entry) (built : Built) → IsUnopened m gate → IsBuildAnswer keep draw (and_area_lock m gate Images Shared) built
    → ((s : Seen) → Knows c s → Knows d (seen_replied s (Close gate) Done)) → ((s : Seen) → is_known gate s.standing ≡ false → Knows c (with_gate s gate Images (Some Shared)) → Knows d (shared_given Images s))
    → Knows c (seen_making intent (held_with draw built (on_gate gate Images (Some Shared) ∷ [])) (handed draw to entries)) → Knows d (seen_making intent (held_with draw built []) (handed draw to entries))
knows_back {c} {d} m true draw to intent gate entries (built.Running owned) unopened answer gives given k =
    subst (λ (s : Seen). Knows d s) (gate_given_after intent gate Images [] refl draw owned.own (other_number m gate owned.own Images answer.unopened) (handed draw to entries)) (gives (seen_making intent (own_held draw owned.own (Some Exclusive) ∷ on_gate gate Images (Some Shared) ∷ []) (handed draw to entries)) k)
knows_back m false draw to intent gate entries (built.Running owned) unopened answer gives given k = absurd answer
knows_back m true draw to intent gate entries (built.Prepared pod) unopened answer gives given k = absurd answer
knows_back m false draw to intent gate entries (built.Prepared pod) unopened answer gives given k = given (seen_making intent [] (handed draw to entries)) refl k

-- what a refused prepare leaves, once the lock of images is given back
pub left_back : {c d : DirAt} {draw : PodId} {intent : Intent} {hs : List Held} (gate : Handle) → list_any (is_handle_held gate) hs ≡ false
    → ((s : Seen) → is_known gate s.standing ≡ false → Knows c (with_gate s gate Images (Some Shared)) → Knows d (shared_given Images s))
    → HasMakerFolder draw intent (on_gate gate Images (Some Shared) ∷ hs) c → HasMakerFolder draw intent hs d
left_back {c} {d} {draw} {intent} {hs} gate fresh given x = record { progress = x.progress; own = x.own; knows = given (seen_making intent hs x.progress) fresh x.knows }

-- the lock may be asked for
pub may_lock : {intent : Intent} {hs : List Held} → IsAlone hs → MayLock (seen_making intent hs nothing_made) Images Shared
may_lock alone = record { free = ap (λ (l : List Held). not (is_open_on (Gate Images) l)) alone; kind = refl }

-- and what its refusal means
pub gate_elsewhere : (reason : LockError) (a b : DirAt) → (reason ≡ lock.Busy → HeldBetween a b (IsBusyElsewhere a.process Images Shared)) → AreaHeldElsewhere (gate_refusal reason) a b
gate_elsewhere lock.Busy a b held area is = let same : Images ≡ area = cc in subst (λ (there : Area). HeldBetween a b (IsBusyElsewhere a.process there Shared)) same (held refl)
gate_elsewhere lock.DirFault a b held area is = cc
gate_elsewhere lock.NoMemory a b held area is = cc

pub gate_fault : (reason : LockError) → gate_refusal reason ≡ DirFault → reason ≡ lock.DirFault
gate_fault lock.Busy is = cc
gate_fault lock.DirFault is = refl
gate_fault lock.NoMemory is = cc

-- a plan's refusal names no lock
pub plan_elsewhere : (reason : PlanError) (a b : DirAt) → AreaHeldElsewhere (plan_refusal reason) a b
plan_elsewhere (plan.Damaged path) a b area is = cc
plan_elsewhere (plan.NoMatch place) a b area is = cc
plan_elsewhere (plan.DepError fault) a b area is = cc
plan_elsewhere (plan.GenError refusal) a b area is = cc
plan_elsewhere (plan.RenderError refusal) a b area is = cc
plan_elsewhere (plan.ListingError refusal) a b area is = cc
plan_elsewhere plan.DirFault a b area is = cc
plan_elsewhere plan.NoMemory a b area is = cc

-- a fault of the directory while the pod is made
pub fault_rose : {observed : Bool} {draw : PodId} {entries : List PlanEntry} {a b : DirAt} → FailsMaking observed draw entries DirFault a b → Rose a.faults b.faults
fault_rose {observed} {draw} {entries} {a} {b} x = by x.0 x.1 x.2
  where
    by : (reason : MakeError) → IsMakeRefusal entries draw reason DirFault → MakeCause observed draw entries reason a b → Rose a.faults b.faults
    by make.Busy is cause = cc
    by make.Taken is cause = cc
    by (make.Unlike place) is cause = absurd is
    by make.DirFault is cause = cause.fault refl
    by make.Stray is cause = cc
    by make.NoMemory is cause = cc
