-- Single calls of the making: what they leave, and what their refusals rest on.
use Rattle.std.proofs.Common.{◌≡◌, ◌⊎◌, inl, inr, ℕ, Bool, true, Some, Result, Ok, Err, List, [], refl, sym, ap, subst, ◌∙◌, append-nil, arith}
use Rattle.dir_model.specs.declared.area.Area.{Area}
use Rattle.dir_model.specs.declared.area.Area.TheVariants.{Embryo, Prepare, Prepared, Run}
use Rattle.dir_model.specs.declared.event.Event.{Event}
use Rattle.dir_model.specs.declared.intent.Intent.{Intent}
use Rattle.dir_model.specs.declared.pod.PodId.{PodId}
use Rattle.dir_model.specs.declared.spot.Handle.{Handle}
use Rattle.dir_model.specs.declared.spot.Mode.TheVariants.{Shared, Exclusive}
use Rattle.dir_model.specs.declared.spot.Spot.{Spot}
use Rattle.dir_model.specs.declared.spot.Which.TheVariants as which
use Rattle.dir_model.specs.declared.request.DirError.{DirError}
use Rattle.dir_model.specs.declared.request.DirError.TheVariants.{Missing, Exists, NotEmpty, Locked, Failed}
use Rattle.dir_model.specs.declared.request.DirError.TheVariants as dir
use Rattle.dir_model.specs.declared.request.Reply.{Reply}
use Rattle.dir_model.specs.declared.request.Reply.TheVariants.{Done, Refused}
use Rattle.dir_model.specs.declared.request.Request.{Request}
use Rattle.dir_model.specs.declared.request.Request.TheVariants.{MakeFolder, MoveFolder, Open, TryLock}
use Rattle.dir_model.specs.Calls.{CallStep, TookPlace, LeftNothing}
use Rattle.dir_model.specs.Causes.{Rose}
use Rattle.dir_model.specs.Replies.{may_refuse, done_reply}
use Rattle.dir_model.proofs.Lists.{and_both, or_last}
use Rattle.dir_rules.specs.declared.seen.Entry.{Entry}
use Rattle.dir_rules.specs.declared.seen.Seen.{Seen}
use Rattle.dir_rules.specs.Conforms.{IsTied}
use Rattle.dir_rules.proofs.Tied.{tied_meanwhile}
use Rattle.dir_trait.specs.DirCalls.{DirAt, DirCall, ExtendsBy, HeldBetween}
use Rattle.dir_trait.specs.Effects.{OnlyAsks}
use Rattle.dir_files.specs.declared.lock_error.LockError.{LockError}
use Rattle.dir_files.specs.declared.lock_error.LockError.TheVariants as lock
use Rattle.dir_files.specs.AreaLocks.{IsBusy, is_taking_area}
use Rattle.folder_building.specs.declared.error.BuildError.{BuildError}
use Rattle.folder_building.specs.declared.error.BuildError.TheVariants as build
use Rattle.folder_building.specs.declared.plan.PlanEntry.{PlanEntry}
use Rattle.folder_building.specs.declared.plan.Content.{Content}
use Rattle.folder_building.specs.declared.plan.Content.TheVariants.{Directory, Given, Copied}
use Rattle.folder_building.specs.Sources.{SourceAt, UnlikeContent, UnlikeAt}
use Rattle.folder_building.specs.Sources.{in_images, reads_image_files}
use Rattle.folder_building.specs.Stored.{LacksAt}
use Rattle.folder_building.specs.Work.{EndsWithStrayBuilding, is_stray_building, builds_at, either}
use Rattle.folder_building.proofs.Working.{worked_call}
use Rattle.folder_building.proofs.Following.{Follows, nothing_follows}
use Rattle.pod_build.specs.declared.make_error.MakeError.TheVariants.{Busy, Taken, Unlike, DirFault, Stray}
use Rattle.pod_build.specs.MakingRefusals.{making_change_refusal, making_lock_refusal, make_folder_refusal, make_error_of_build}
use Rattle.dir_model.specs.Spots.{pod_spot}
use Rattle.pod_build.specs.MakingRequests.{begins_pod, hands_pod, hands_on, fills_pod, shows_taken, shows_changed, area_before}
use Rattle.pod_build.specs.Progress.{holding}
use Rattle.pod_build.specs.MakingCauses.{WasOpenedThere, ShowsTaken, LosesPod, is_copied, IsCopiedAt, MakingWorkCause, EmbryoCause, MakeCause}
use Rattle.pod_build.specs.Makings.{HasMovedPod}
use Rattle.pod_build.specs.Handovers.{is_handed_to}
use Rattle.dir_model.proofs.Chains.{nothing_yet, and_call}
use Rattle.dir_model.proofs.Spots.{spot_self}
use Rattle.pod_build.proofs.Times.{embryo_cause}

-- a spot, by what its area is
pub in_area : {spot : Spot} {area here : Area} (draw : PodId) → spot ≡ pod_spot draw area → area ≡ here → spot ≡ pod_spot draw here
in_area draw at is = at ∙ ap (λ (a : Area). pod_spot draw a) is

pub before_handed : (to : Area) → is_handed_to to ≡ true → area_before to ≡ Prepare
before_handed Prepared is = refl
before_handed Run is = refl
before_handed to is = cc

-- one call follows
pub follows_call : {observed : Bool} {request : Request} {reply : Reply} {a b : DirAt} → DirCall observed a request reply b → Follows observed a b
follows_call c = record { same = c.same; faults = c.faults; asks = λ r. true; extends = λ t. and_call nothing_yet refl refl (c.step t) }

-- the calls are among those of the making
pub worked_make : {observed : Bool} {old new : DirAt} (draw : PodId) (answer : Result (Unit {0}) DirError) → DirCall observed old (MakeFolder (pod_spot draw Embryo)) (done_reply answer) new → OnlyAsks observed (begins_pod draw) old new
worked_make draw (Ok done) c = worked_call (spot_self (pod_spot draw Embryo)) refl c
worked_make draw (Err error) c = worked_call (spot_self (pod_spot draw Embryo)) refl c

asks_leave : (draw : PodId) → begins_pod draw (MoveFolder (pod_spot draw Embryo) (pod_spot draw Prepare)) ≡ true
asks_leave draw = and_both _ _ (spot_self (pod_spot draw Embryo)) (spot_self (pod_spot draw Prepare))

pub worked_leave : {observed : Bool} {old new : DirAt} (draw : PodId) (answer : Result (Unit {0}) DirError) → DirCall observed old (MoveFolder (pod_spot draw Embryo) (pod_spot draw Prepare)) (done_reply answer) new → OnlyAsks observed (begins_pod draw) old new
worked_leave draw (Ok done) c = worked_call (asks_leave draw) refl c
worked_leave draw (Err error) c = worked_call (asks_leave draw) refl c

asks_hand : (draw : PodId) (to : Area) → hands_pod draw to (MoveFolder (pod_spot draw Prepare) (pod_spot draw to)) ≡ true
asks_hand draw to = and_both _ _ (spot_self (pod_spot draw Prepare)) (spot_self (pod_spot draw to))

pub worked_hand : {observed : Bool} {old new : DirAt} (draw : PodId) (to : Area) (answer : Result (Unit {0}) DirError) → DirCall observed old (MoveFolder (pod_spot draw Prepare) (pod_spot draw to)) (done_reply answer) new → OnlyAsks observed (hands_pod draw to) old new
worked_hand draw to (Ok done) c = worked_call (asks_hand draw to) refl c
worked_hand draw to (Err error) c = worked_call (asks_hand draw to) refl c

-- what a refusal means
change_calm : (e : DirError) → making_change_refusal e ≡ Busy → ⊥
change_calm Failed is = cc
change_calm dir.NoMemory is = cc
change_calm e is = cc

change_untaken : (e : DirError) → making_change_refusal e ≡ Taken → ⊥
change_untaken Failed is = cc
change_untaken dir.NoMemory is = cc
change_untaken e is = cc

change_like : (e : DirError) (place : ℕ) → making_change_refusal e ≡ Unlike place → ⊥
change_like Failed place is = cc
change_like dir.NoMemory place is = cc
change_like e place is = cc

change_fault : (e : DirError) → making_change_refusal e ≡ DirFault → e ≡ Failed
change_fault Failed is = refl
change_fault dir.NoMemory is = cc
change_fault e is = cc

-- a call on what this process has made was refused
pub change_cause : {observed : Bool} {old new : DirAt} (e : DirError) → (e ≡ Failed → Rose old.faults new.faults) → MakingWorkCause observed [] (making_change_refusal e) old new
change_cause {observed} {old} {new} e fault = record {
  calm = change_calm e;
  untaken = change_untaken e;
  fault = λ is. fault (change_fault e is);
  unlike = λ place is. absurd (change_like e place is);
  lacks = λ place is. absurd (change_like e place is);
}

-- the answer shows that another took the folder in embryo
pub shows_call : {draw : PodId} {me : ℕ} {old new : List Event} (request : Request) (reply : Reply) → WasOpenedThere draw me old request → shows_taken draw request reply ≡ true → CallStep me old request reply new → ShowsTaken draw me old new
shows_call {draw} {me} {old} {new} request reply lock shows step = record { before = old; after = new; later = []; request = request; reply = reply; since = nothing_yet; lock = lock; shows = shows; step = step; ends = sym (append-nil new) }

pub taken_move : (draw : PodId) (to : Spot) (e : DirError) → may_refuse (MoveFolder (pod_spot draw Embryo) to) e ≡ true → making_change_refusal e ≡ Stray → shows_taken draw (MoveFolder (pod_spot draw Embryo) to) (Refused e 0) ≡ true
taken_move draw to Missing may is = spot_self (pod_spot draw Embryo)
taken_move draw to Exists may is = spot_self (pod_spot draw Embryo)
taken_move draw to Failed may is = cc
taken_move draw to dir.NoMemory may is = cc
taken_move draw to e may is = cc

-- or moved it from prepare, or has its place
handed_on : (draw : PodId) (to : Area) → is_handed_to to ≡ true → hands_on draw (MoveFolder (pod_spot draw Prepare) (pod_spot draw to)) ≡ true
handed_on draw Prepared is = rw (asks_hand draw Prepared) refl
handed_on draw Run is = or_last _ _ (asks_hand draw Run)
handed_on draw to is = cc

pub changed_move : (draw : PodId) (to : Area) (e : DirError) → is_handed_to to ≡ true → may_refuse (MoveFolder (pod_spot draw Prepare) (pod_spot draw to)) e ≡ true → making_change_refusal e ≡ Stray
    → shows_changed draw (MoveFolder (pod_spot draw Prepare) (pod_spot draw to)) (Refused e 0) ≡ true
changed_move draw to Missing on may is = handed_on draw to on
changed_move draw to Exists on may is = handed_on draw to on
changed_move draw to Failed on may is = cc
changed_move draw to dir.NoMemory on may is = cc
changed_move draw to e on may is = cc

pub taken_open : (draw : PodId) (e : DirError) → may_refuse (Open (pod_spot draw Embryo) which.Own) e ≡ true → making_change_refusal e ≡ Stray → shows_taken draw (Open (pod_spot draw Embryo) which.Own) (Refused e 0) ≡ true
taken_open draw Missing may is = spot_self (pod_spot draw Embryo)
taken_open draw Failed may is = cc
taken_open draw dir.NoMemory may is = cc
taken_open draw e may is = cc

pub taken_lock : (draw : PodId) (h : Handle) (e : DirError) → may_refuse (TryLock h Exclusive) e ≡ true → making_change_refusal e ≡ Stray → shows_taken draw (TryLock h Exclusive) (Refused e 0) ≡ true
taken_lock draw h Locked may is = refl
taken_lock draw h Failed may is = cc
taken_lock draw h dir.NoMemory may is = cc
taken_lock draw h e may is = cc

-- the making of the folder was refused
pub make_plain : (spot : Spot) (e : DirError) → may_refuse (MakeFolder spot) e ≡ true → make_folder_refusal e ≡ Stray → ⊥
make_plain spot Exists may is = cc
make_plain spot Failed may is = cc
make_plain spot dir.NoMemory may is = cc
make_plain spot e may is = cc

module _ (observed : Bool) (draw : PodId) (old new : DirAt) where
  abbrev Refusal : DirError → Type 0
  Refusal e = DirCall observed old (MakeFolder (pod_spot draw Embryo)) (Refused e 0) new

  changed : (e : DirError) → (e ≡ Failed → Rose old.faults new.faults) → EmbryoCause observed draw (making_change_refusal e) old new
  changed e fault = embryo_cause nothing_follows (change_cause e fault)

  pub make_cause : (e : DirError) → (e ≡ Failed → Rose old.faults new.faults) → Refusal e → EmbryoCause observed draw (make_folder_refusal e) old new
  make_cause Exists fault c = record { calm = λ is. cc; fault = λ is. cc; taken = λ is t. record { after = new.trace; later = []; asks = c.step t; ends = sym (append-nil new.trace) }; like = λ place is. cc }
  make_cause Missing fault c = changed Missing fault
  make_cause NotEmpty fault c = changed NotEmpty fault
  make_cause Locked fault c = changed Locked fault
  make_cause Failed fault c = changed Failed fault
  make_cause dir.NoMemory fault c = changed dir.NoMemory fault

-- the lock of embryo was refused
pub lock_cause : {observed : Bool} {draw : PodId} {old new : DirAt} (e : LockError) → (e ≡ lock.Busy → observed ≡ true → HeldBetween old new (IsBusy Embryo Shared)) → (observed ≡ true → ExtendsBy (is_taking_area Embryo Shared) old new) → (e ≡ lock.DirFault → Rose old.faults new.faults)
    → MakeCause observed draw [] (making_lock_refusal e) old new
lock_cause lock.Busy busy alone fault = record { busy = λ is. busy refl; alone = λ is. alone; fault = λ is. cc; taken = λ is. cc; unlike = λ place is. cc; made = λ place is. cc; lacks = λ place is. cc; stray = λ is. cc }
lock_cause lock.DirFault busy alone fault = record { busy = λ is. cc; alone = λ is. cc; fault = λ is. fault refl; taken = λ is. cc; unlike = λ place is. cc; made = λ place is. cc; lacks = λ place is. cc; stray = λ is. cc }
lock_cause lock.NoMemory busy alone fault = record { busy = λ is. cc; alone = λ is. cc; fault = λ is. cc; taken = λ is. cc; unlike = λ place is. cc; made = λ place is. cc; lacks = λ place is. cc; stray = λ is. cc }

-- the folder wasn't filled
changed_more : (draw : PodId) (request : Request) (reply : Reply) → fills_pod draw request ≡ true → is_stray_building request reply ≡ true → shows_changed draw request reply ≡ true
changed_more draw (MoveFolder from to) reply asked is = cc
changed_more draw request reply asked is = and_both _ _ asked is

pub pod_changed : (draw : PodId) (spot : Spot) (old new : DirAt) → spot ≡ pod_spot draw Prepare → EndsWithStrayBuilding (either (builds_at spot) reads_image_files) old new → LosesPod draw old new
pod_changed draw spot old new is ends =
    let w = subst (λ (s : Spot). EndsWithStrayBuilding (either (builds_at s) reads_image_files) old new) is ends in
    record {
      before = w.before;
      after = new.trace;
      earlier = w.first.more;
      later = [];
      request = w.request;
      reply = w.reply;
      answered = changed_more draw w.request w.reply w.asked w.stray;
      begins = w.first.grown;
      step = w.last;
      ends = sym (append-nil new.trace);
    }

copied_as : (source : SourceAt) (content : Content) → UnlikeContent source content → is_copied content ≡ true
copied_as source Directory u = absurd u
copied_as source (Given bytes) u = absurd u
copied_as source (Copied origin size sha) u = refl

copied_at : {source : SourceAt} {plan : List PlanEntry} {place : ℕ} → UnlikeAt source plan place → IsCopiedAt plan place
copied_at {source} u = record { before = u.before; entry = u.entry; rest = u.rest; is = u.is; counted = u.place; copied = copied_as source u.entry.content u.unlike }

build_calm : (e : BuildError) → make_error_of_build e ≡ Busy → ⊥
build_calm (build.Unlike place) is = cc
build_calm build.SourceFault is = cc
build_calm build.DirFault is = cc
build_calm build.Stray is = cc
build_calm build.NoMemory is = cc

build_untaken : (e : BuildError) → make_error_of_build e ≡ Taken → ⊥
build_untaken (build.Unlike place) is = cc
build_untaken build.SourceFault is = cc
build_untaken build.DirFault is = cc
build_untaken build.Stray is = cc
build_untaken build.NoMemory is = cc

build_fault : (e : BuildError) → make_error_of_build e ≡ DirFault → (e ≡ build.SourceFault) ⊎ (e ≡ build.DirFault)
build_fault (build.Unlike place) is = cc
build_fault build.SourceFault is = inl refl
build_fault build.DirFault is = inr refl
build_fault build.Stray is = cc
build_fault build.NoMemory is = cc

build_like : (e : BuildError) (place : ℕ) → make_error_of_build e ≡ Unlike place → e ≡ build.Unlike place
build_like (build.Unlike at) place is = let same : at ≡ place = cc in ap build.Unlike same
build_like build.SourceFault place is = cc
build_like build.DirFault place is = cc
build_like build.Stray place is = cc
build_like build.NoMemory place is = cc

pub build_stray : (e : BuildError) → make_error_of_build e ≡ Stray → e ≡ build.Stray
build_stray (build.Unlike place) is = cc
build_stray build.SourceFault is = cc
build_stray build.DirFault is = cc
build_stray build.Stray is = refl
build_stray build.NoMemory is = cc

-- what never fails didn't
never_rose : Rose 0 0 → ⊥
never_rose r = omega (arith, r)

pub fill_cause : {observed : Bool} {old new : DirAt} (plan : List PlanEntry) (source : SourceAt) (e : BuildError) → (e ≡ build.DirFault → Rose old.faults new.faults) → (e ≡ build.SourceFault → Rose 0 0)
    → ((place : ℕ) → e ≡ build.Unlike place → UnlikeAt source plan place) → ((place : ℕ) → e ≡ build.Unlike place → observed ≡ true → LacksAt in_images plan place old new) → MakingWorkCause observed plan (make_error_of_build e) old new
fill_cause {observed} {old} {new} plan source e fault failed unlike lacks = record {
  calm = build_calm e;
  untaken = build_untaken e;
  fault = λ is. by (build_fault e is);
  unlike = λ place is. copied_at (unlike place (build_like e place is));
  lacks = λ place is. lacks place (build_like e place is);
}
  where
    by : (e ≡ build.SourceFault) ⊎ (e ≡ build.DirFault) → Rose old.faults new.faults
    by (inl is) = absurd (never_rose (failed is))
    by (inr is) = fault is

-- the move that was answered Ok
pub moved_by : {me : ℕ} {from to : Spot} {old new : List Event} {s : Seen} (entries : List Entry) (intent : Intent) → s.standing.intent ≡ Some intent → s.making ≡ Some (holding from entries) → IsTied me old s → CallStep me old (MoveFolder from to) Done new → HasMovedPod me from to entries intent old new
moved_by {me} {from} {to} {old} {new} {s} entries intent began making tied c = by c.own
  where
    by : TookPlace c.before me (MoveFolder from to) Done new ⊎ LeftNothing c.before me (MoveFolder from to) Done new → HasMovedPod me from to entries intent old new
    by (inl t) = record { before = c.before; later = []; meanwhile = c.meanwhile.others; begins = c.meanwhile.grown; moved = t.grown; seen = s; began = began; making = making; knew = tied_meanwhile tied c.meanwhile }
    by (inr l) = let late = l.late in cc
