-- What the steps of a round come to, and the rounds one after the other.
use Rattle.std.proofs.Common.{◌≡◌, ◌≤◌, ◌+◌, ◌==◌, ◌⊎◌, inl, inr, ℕ, zero, suc, Bool, true, false, Option, Some, None, Result, Ok, Err, IfOk, IfErr, List, [], append-nil, refl, sym, ap, subst, ◌∙◌, arith}
use Rattle.std.specs.List.{list_any}
use Rattle.dir_model.specs.declared.area.Area.{Area}
use Rattle.dir_model.specs.declared.area.Area.TheVariants.{Prepared, ExitedGarbage, Garbage}
use Rattle.dir_model.specs.declared.area.Phase.{Phase}
use Rattle.dir_model.specs.declared.area.Phase.TheVariants as phase
use Rattle.dir_model.specs.declared.event.Event.{Event}
use Rattle.dir_model.specs.declared.intent.Intent.{Intent}
use Rattle.dir_model.specs.declared.intent.Kind.{Kind}
use Rattle.dir_model.specs.declared.intent.Kind.TheVariants as kind
use Rattle.dir_model.specs.declared.pod.PodId.{PodId}
use Rattle.dir_model.specs.declared.spot.Mode.{Mode}
use Rattle.dir_model.specs.declared.spot.Which.{Which}
use Rattle.dir_model.specs.declared.request.Request.{Request}
use Rattle.dir_model.specs.declared.request.Request.TheVariants.{Open, TryLock, Close, RemoveFolder}
use Rattle.dir_model.specs.declared.request.Reply.TheVariants.{Done}
use Rattle.dir_model.specs.Areas.{is_stage}
use Rattle.dir_model.specs.Causes.{Rose}
use Rattle.dir_model.specs.Pods.{pod_text}
use Rattle.dir_model.specs.Replies.{is_look_at}
use Rattle.dir_model.proofs.Chains.{extends_wider}
use Rattle.dir_model.proofs.Moments.{at_weaker}
use Rattle.dir_rules.specs.declared.standing.Held.{Held}
use Rattle.dir_rules.specs.declared.seen.Created.{Created}
use Rattle.dir_rules.specs.declared.seen.Seen.{Seen}
use Rattle.dir_rules.specs.Standing.{intends, is_remover}
use Rattle.dir_rules.specs.Rules.{asks_for}
use Rattle.dir_rules.specs.Conforms.{Looked}
use Rattle.dir_laws.proofs.Rose.{rose_later, rose_still}
use Rattle.dir_trait.specs.DirCalls.{DirAt, ExtendsBy}
use Rattle.dir_trait.specs.Knowledge.{OnlyLooks}
use Rattle.dir_trait.specs.Effects.{OnlyAsks, Given}
use Rattle.lifecycle.specs.Executions.{IsConforming}
use Rattle.phase_read.specs.declared.found.Found.TheVariants.{At}
use Rattle.phase_read.specs.declared.found.LookError.{LookError}
use Rattle.phase_read.specs.declared.found.LookError.TheVariants as look
use Rattle.dir_model.specs.Spots.{pod_spot}
use Rattle.phase_read.specs.Read.{is_pod_spot, IsPhaseReading}
use Rattle.folder_removal.specs.Removal.{KeepsFolders}
use Rattle.phase_read.specs.Often.{ReadsAtMost}
use Rattle.phase_read.specs.Exact.{AtOwnEvent, IsInPhase}
use Rattle.pod_locks.specs.ClaimCauses.{is_prepared, OpensOwnAlone}
use Rattle.pod_locks.specs.ClaimHolding.{is_on_folder}
use Rattle.phase_read.proofs.Exact.{event_within}
use Rattle.pod_locks.specs.Work.{Grew}
use Rattle.pod_locks.specs.Elsewhere.{is_owned_phase, IsOwnedElsewhere}
use Rattle.pod_locks.proofs.Elsewhere.{met_elsewhere}
use Rattle.pod_locks.proofs.Reading.{found_prepared as read_prepared, lacks_manifest}
use Rattle.pod_locks.proofs.Times.{at_part, deeds_part, alone_part}
use Rattle.pod_locks.proofs.Traces.{grown_none}
use Rattle.pod_locks.specs.declared.setback.Setback.{Setback}
use Rattle.pod_locks.specs.declared.setback.Setback.TheVariants as stop
use Rattle.pod_locks.specs.Setbacks.{look_setback}
use Rattle.pod_locks.specs.Holding.{KeepsHoldings, KeepsReady}
use Rattle.pod_locks.specs.Causes.{StepWasStopped, IsAbsentAt, Did, WasStrayStep, LockBusyElsewhere}
use Rattle.pod_locks.proofs.Calls.{Follows, stray_part}
use Rattle.pod_locks.proofs.Within.{held_within}
use Rattle.pod_locks.proofs.Outcomes.{event_part}
use Rattle.pod_gc.specs.declared.attempt.Round.{Round}
use Rattle.pod_gc.specs.declared.attempt.Round.TheVariants as round
use Rattle.pod_gc.specs.declared.remove_error.RemoveError.{RemoveError}
use Rattle.pod_gc.specs.declared.remove_error.RemoveError.TheVariants as error
use Rattle.pod_gc.specs.RemovalRequests.{is_garbage_place, is_removable, aside, area_of_phase, removes}
use Rattle.pod_gc.specs.RemovalSetbacks.{remove_error_of}
use Rattle.pod_gc.specs.RemovalHolding.{MayRemove, MayRemovePod, MayDiscard}
use Rattle.pod_gc.specs.RemovalCauses.{MissedOnTheWay, HasDeletedPod, StoppedAlone, StoppedFound, BusyInPrepared, asked_mode, IsBusyAt, BusyAny}
use Rattle.pod_gc.specs.Found.{WasMissed, MissedThereOrAside}
use Rattle.pod_gc.specs.Removals.{removal_round_of, MissedOnItsWay, FoundThenMissed, MissedTimes, FoundNoPod, WentRound, RemovalIsEnded, RemovedLater, RemovedBetween, WasWrongToRemove, RoundCause, LaterCause, PodRemovalCause, RemovalRefusedByAnother}

-- a look for the pod is among the calls of its removal
look_removes : (pod : PodId) (now : ℕ) (r : Request) → is_look_at (is_pod_spot pod) r ≡ true → removes pod now r ≡ true
look_removes pod now (Open spot which) is = is
look_removes pod now (TryLock handle mode) is = refl
look_removes pod now (Close handle) is = refl
look_removes pod now _ is = cc

pub worked_read : {observed : Bool} (pod : PodId) (now : ℕ) (old new : DirAt) → new.process ≡ old.process → old.faults ≤ new.faults → new.local ≡ old.local → (observed ≡ true → ExtendsBy (is_look_at (is_pod_spot pod)) old new) → OnlyAsks observed (removes pod now) old new
worked_read pod now old new same faults local extends = record { same = same; faults = faults; local = local; extends = λ t. extends_wider (look_removes pod now) (extends t) }

pub garbage_stage : (a : Area) → is_garbage_place a ≡ true → is_stage a ≡ true
garbage_stage ExitedGarbage place = refl
garbage_stage Garbage place = refl
garbage_stage _ place = cc

pub aside_place : (p : Phase) → is_garbage_place (aside p) ≡ true
aside_place phase.Exited = refl
aside_place phase.ExitedGarbage = refl
aside_place _ = refl

-- what stops a step at a pod that was found with this phase

pub found_here : {observed : Bool} {pod : PodId} {e : Setback} {old new : DirAt} (p : Phase) (a : Area) → area_of_phase p ≡ a → StepWasStopped observed pod (IsAbsentAt pod a) e old new → StoppedFound observed pod p e old new
found_here {observed} {pod} p a place x = record {
  fault = x.fault;
  missing = λ is t. at_weaker (MissedOnTheWay pod p) (λ s h. inl (subst (λ (y : Area). IsAbsentAt pod y s) (sym place) h)) (x.missing is t);
  prepared = λ is. absurd (x.manifest is);
  manifest = λ is t. absurd (x.manifest is);
  stray = x.stray;
}

pub found_aside : {observed : Bool} {pod : PodId} {e : Setback} {old new : DirAt} (p : Phase) (a : Area) → a ≡ aside p → StepWasStopped observed pod (IsAbsentAt pod a) e old new → StoppedFound observed pod p e old new
found_aside {observed} {pod} p a place x = record {
  fault = x.fault;
  missing = λ is t. at_weaker (MissedOnTheWay pod p) (λ s h. inr (subst (λ (y : Area). IsAbsentAt pod y s) place h)) (x.missing is t);
  prepared = λ is. absurd (x.manifest is);
  manifest = λ is t. absurd (x.manifest is);
  stray = x.stray;
}

pub found_waiting : {observed : Bool} {pod : PodId} {e : Setback} {old new : DirAt} (p : Phase) → p ≡ phase.Prepared → StoppedAlone observed pod e old new → StoppedFound observed pod p e old new
found_waiting {observed} {pod} p is x = record {
  fault = x.fault;
  missing = λ m t. at_weaker (MissedOnTheWay pod p) (λ s h. inl (subst (λ (y : Phase). IsAbsentAt pod (area_of_phase y) s) (sym is) h)) (x.missing m t);
  prepared = λ m. is;
  manifest = x.manifest;
  stray = x.stray;
}

pub found_part : {observed : Bool} {pod : PodId} {p : Phase} {e : Setback} {a b c d : DirAt} → Follows observed a b → Follows observed c d → StoppedFound observed pod p e b c → StoppedFound observed pod p e a d
found_part {observed} {pod} {p} {e} {a} {b} {c} {d} ab cd x = record {
  fault = λ is. rose_still a.faults c.faults d.faults (rose_later a.faults b.faults c.faults ab.faults (x.fault is)) cd.faults;
  missing = λ is t. at_part (ab.grown t) ab.same (cd.grown t) (x.missing is t);
  prepared = x.prepared;
  manifest = λ is t. alone_part (ab.grown t) ab.same (cd.grown t) (x.manifest is t);
  stray = λ is t. stray_part (ab.grown t) ab.same (cd.grown t) (x.stray is t);
}

-- a lock was refused

pub busy_within : {pod : PodId} {which : Which} {me other : ℕ} {a b c d : List Event} → Grew a b → other ≡ me → Grew c d → IsBusyAt pod which other b c → IsBusyAt pod which me a d
busy_within ab same cd h = record { area = h.area; stage = h.stage; mode = h.mode; held = held_within ab same cd h.held }

pub busy_at : {pod : PodId} (e : Setback) (area : Area) (mode : Mode) (old new : DirAt) → is_stage area ≡ true → LockBusyElsewhere pod area mode e old new → BusyAny pod e old new
busy_at e area mode old new stage busy which is = record { area = area; stage = stage; mode = mode; held = busy which is }

pub busy_waiting : {pod : PodId} (e : Setback) (old new : DirAt) → BusyInPrepared pod e old new → BusyAny pod e old new
busy_waiting e old new busy which is = record { area = Prepared; stage = refl; mode = asked_mode which; held = busy which is }

pub busy_part : {observed : Bool} {pod : PodId} (e : Setback) {a b c d : DirAt} → observed ≡ true → Follows observed a b → Follows observed c d → BusyAny pod e b c → BusyAny pod e a d
busy_part e t ab cd busy which is = busy_within (ab.grown t) ab.same (cd.grown t) (busy which is)

-- the folder was removed

pub deleted_at : (pod : PodId) {me : ℕ} {old new : List Event} (a : Area) → is_garbage_place a ≡ true → Did (RemoveFolder (pod_spot pod a)) Done me old new → HasDeletedPod pod me old new
deleted_at pod ExitedGarbage place did = inl did
deleted_at pod Garbage place did = inr did
deleted_at pod _ place did = cc

pub deleted_part : (pod : PodId) {me other : ℕ} {a b c d : List Event} → Grew a b → other ≡ me → Grew c d → HasDeletedPod pod other b c → HasDeletedPod pod me a d
deleted_part pod ab same cd (inl did) = inl (deeds_part ab same cd did)
deleted_part pod ab same cd (inr did) = inr (deeds_part ab same cd did)

-- who may do the next step

asks_one : (k : Kind) (i : Intent) (created : List Created) (u : List ℕ) → asks_for k i [] u ≡ true → asks_for k i created u ≡ true
asks_one kind.Rm i created u is = is
asks_one _ i created u is = cc

asks_with : (intent : Option Intent) (created : List Created) (u : List ℕ) → intends (λ i. asks_for i.kind i [] u) intent ≡ true → intends (λ i. asks_for i.kind i created u) intent ≡ true
asks_with None created u is = cc
asks_with (Some i) created u is = asks_one i.kind i created u is

pub may_discard : {now : ℕ} {s : Seen} (pod : PodId) → MayRemovePod pod now s → MayDiscard pod now s
may_discard {now} {s} pod m = record { may = m.may; asked = asks_with s.standing.intent s.created (pod_text pod.bytes) m.asks }

pub may_kept : {now : ℕ} {s z : Seen} → KeepsHoldings s z → MayRemove now s → MayRemove now z
may_kept {now} k m = record {
  began = ap (λ (o : Option Intent). intends (λ i. is_remover i.kind) o) k.intent ∙ m.began;
  moment = ap (λ (o : Option Intent). intends (λ i. i.now == now) o) k.intent ∙ m.moment;
  apart = ap (λ (hs : List Held). list_any is_on_folder hs) k.holdings ∙ m.apart;
  bare = k.bare;
}

pub may_pod_kept : {now : ℕ} {s z : Seen} {pod : PodId} → KeepsHoldings s z → MayRemovePod pod now s → MayRemovePod pod now z
may_pod_kept {now} {s} {z} {pod} k m = record { may = may_kept k m.may; asks = ap (λ (o : Option Intent). intends (λ i. asks_for i.kind i [] (pod_text pod.bytes)) o) k.intent ∙ m.asks }

pub looked_keeps : {now : ℕ} {s z : Seen} → MayRemove now s → Looked s z → KeepsHoldings s z
looked_keeps {now} {s} m l = subst (λ (x : Seen). KeepsHoldings s x) (sym l.same) (record { intent = refl; holdings = refl; kept = refl; bare = m.bare })

pub may_looked : {now : ℕ} {s z : Seen} {pod : PodId} → Looked s z → MayRemovePod pod now s → MayRemovePod pod now z
may_looked l m = may_pod_kept (looked_keeps m.may l) m

keeps_more : {a b c : Seen} → KeepsHoldings a b → KeepsHoldings b c → KeepsHoldings a c
keeps_more ab bc = record { intent = bc.intent ∙ ab.intent; holdings = bc.holdings ∙ ab.holdings; kept = bc.kept ∙ ab.kept; bare = bc.bare }

pub ready_here : {now : ℕ} {d : DirAt} {pod : PodId} → Given (MayRemovePod pod now) d (λ s. KeepsReady s d)
ready_here s k m = record { known = s; keeps = record { intent = refl; holdings = refl; kept = refl; bare = m.may.bare }; knows = k }

pub ready_more : {now : ℕ} {a b c : DirAt} {pod : PodId} → Given (MayRemovePod pod now) a (λ s. KeepsReady s b) → Given (MayRemovePod pod now) b (λ s. KeepsReady s c) → Given (MayRemovePod pod now) a (λ s. KeepsReady s c)
ready_more ab bc s k m =
    let x = ab s k m in
    let y = bc x.known x.knows (may_pod_kept x.keeps m) in
    record { known = y.known; keeps = keeps_more x.keeps y.keeps; knows = y.knows }

pub ready_any : {now : ℕ} {a b : DirAt} (pod : PodId) → Given (MayRemove now) a (λ s. KeepsReady s b) → Given (MayRemovePod pod now) a (λ s. KeepsReady s b)
ready_any pod x s k m = x s k m.may

pub ready_waiting : {now : ℕ} {a b : DirAt} (pod : PodId) → Given (MayDiscard pod now) a (λ s. KeepsReady s b) → Given (MayRemovePod pod now) a (λ s. KeepsReady s b)
ready_waiting pod x s k m = x s k (may_discard pod m)

pub ready_looks : {now : ℕ} {a b : DirAt} (pod : PodId) → OnlyLooks a b → Given (MayRemovePod pod now) a (λ s. KeepsReady s b)
ready_looks pod looks s k m = let x = looks s k in record { known = x.known; keeps = looked_keeps m.may x.looked; knows = x.knows }

pub another_ready : {now : ℕ} {a b : DirAt} {pod : PodId} {observed : Bool} (e : Setback) (c : DirAt) → observed ≡ true → Follows observed a b → Follows observed c c → Given (MayRemovePod pod now) a (λ s. KeepsReady s b)
    → Given (MayRemovePod pod now) b (λ s. BusyAny pod e b c) → Given (MayRemovePod pod now) a (λ s. BusyAny pod e a c)
another_ready e c t ab cc' ready busy s k m = let x = ready s k m in busy_part e t ab cc' (busy x.known x.knows (may_pod_kept x.keeps m))

-- one round

on_its_way : (pod : PodId) (p : Phase) {me : ℕ} {a b : List Event} → WasMissed pod p me a b → MissedOnItsWay pod p me a b
on_its_way pod p (inl here) = inl here.absent
on_its_way pod p (inr there) = inr (there.0, there.1, there.2.absent)

module _ {observed : Bool} (pod : PodId) (p : Phase) (area : Area) (old mid new : DirAt) (looks : Follows observed old mid) (removable : is_removable p ≡ true) (read : observed ≡ true → IsPhaseReading old.process old.trace mid.trace pod (At p area)) where
  pub went_round : (r : Result (Unit {0}) Setback) → IfOk r (λ done. observed ≡ true → HasDeletedPod pod mid.process mid.trace new.trace) → IfErr r (λ e. StoppedFound observed pod p e mid new)
      → IfErr r (λ e. MissedThereOrAside observed pod p e mid new) → IfOk (removal_round_of pod r) (λ x. observed ≡ true → WentRound pod x old new)
  went_round (Ok done) deleted stopped missed = λ t. deleted_part pod (looks.grown t) looks.same grown_none (deleted t)
  went_round (Err stop.Missing) deleted stopped missed = λ t. record {
    between = mid.trace;
    phase = p;
    area = area;
    removable = removable;
    read = read t;
    missed = at_part grown_none looks.same grown_none (stopped.missing refl t);
    way = subst (λ (me : ℕ). MissedOnItsWay pod p me mid.trace new.trace) looks.same (on_its_way pod p (missed refl t));
  }
  went_round (Err _) deleted stopped missed = tt

  pub round_cause : (r : Result (Unit {0}) Setback) → IfErr r (λ e. StoppedFound observed pod p e mid new) → IfErr (removal_round_of pod r) (λ e. RoundCause observed pod e old new)
  round_cause (Ok done) x = tt
  round_cause (Err stop.Missing) x = tt
  round_cause (Err stop.NoManifest) x = record {
    fault = λ is. cc;
    there = λ is. cc;
    phase = λ q is. cc;
    manifest = λ is t conforming. lacks_manifest pod (read_prepared pod p area (ap is_prepared (x.prepared refl)) (read t)) (subst (λ (n : ℕ). OpensOwnAlone pod n mid.trace new.trace) looks.same (x.manifest refl t)) conforming;
    named = λ other which is. cc;
    stray = λ is. cc;
  }
  round_cause (Err (stop.Busy which)) x = record { fault = λ is. cc; there = λ is. cc; phase = λ q is. cc; manifest = λ is. cc; named = λ other w is. cc; stray = λ is. cc }
  round_cause (Err stop.DirFault) x = record { fault = λ is. rose_later old.faults mid.faults new.faults looks.faults (x.fault refl); there = λ is. cc; phase = λ q is. cc; manifest = λ is. cc; named = λ other w is. cc; stray = λ is. cc }
  round_cause (Err stop.Stray) x = record { fault = λ is. cc; there = λ is. cc; phase = λ q is. cc; manifest = λ is. cc; named = λ other w is. cc; stray = λ is t. stray_part (looks.grown t) looks.same grown_none (x.stray refl t) }
  round_cause (Err stop.NoMemory) x = record { fault = λ is. cc; there = λ is. cc; phase = λ q is. cc; manifest = λ is. cc; named = λ other w is. cc; stray = λ is. cc }

  module _ (now : ℕ) (known : observed ≡ true → OnlyLooks old mid) where
    pub round_another : (r : Result (Unit {0}) Setback) → IfErr r (λ e. observed ≡ true → Given (MayRemovePod pod now) mid (λ s. BusyAny pod e mid new))
        → IfErr (removal_round_of pod r) (λ e. observed ≡ true → Given (MayRemovePod pod now) old (λ s. RemovalRefusedByAnother pod e old new))
    round_another (Ok done) busy = tt
    round_another (Err stop.Missing) busy = tt
    round_another (Err (stop.Busy w)) busy = λ t s k m. record {
      busy = λ which is.
          let x = known t s k in
          let named : stop.Busy w ≡ stop.Busy which = cc in
          busy_within (looks.grown t) looks.same grown_none (busy t x.known x.knows (may_looked x.looked m) which named);
      owner = λ conforming q is owned. cc;
    }
    round_another (Err stop.NoManifest) busy = λ t s k m. record { busy = λ which is. cc; owner = λ conforming q is owned. cc }
    round_another (Err stop.DirFault) busy = λ t s k m. record { busy = λ which is. cc; owner = λ conforming q is owned. cc }
    round_another (Err stop.Stray) busy = λ t s k m. record { busy = λ which is. cc; owner = λ conforming q is owned. cc }
    round_another (Err stop.NoMemory) busy = λ t s k m. record { busy = λ which is. cc; owner = λ conforming q is owned. cc }

-- the pod wasn't found so

pub cause_wrong : {observed : Bool} {a b : DirAt} (pod : PodId) (p : Phase) (at : Area) → is_removable p ≡ false → (observed ≡ true → IsConforming b.trace → AtOwnEvent a.process a.trace b.trace (IsInPhase pod p at)) → RoundCause observed pod (error.WrongPhase p) a b
cause_wrong {observed} {a} {b} pod p at wrong exact = record {
  fault = λ is. cc;
  there = λ is. cc;
  phase = λ q is t conforming. let same : p ≡ q = cc in subst (λ (x : Phase). WasWrongToRemove pod x a.process a.trace b.trace) same (record { wrong = wrong; area = at; was = exact t conforming });
  manifest = λ is. cc;
  named = λ other which is. cc;
  stray = λ is. cc;
}

pub cause_failed : {observed : Bool} {a b : DirAt} (pod : PodId) (e : LookError) → (e ≡ look.DirFault → Rose a.faults b.faults) → RoundCause observed pod (remove_error_of pod (look_setback e)) a b
cause_failed pod look.DirFault rose = record { fault = λ is. rose refl; there = λ is. cc; phase = λ q is. cc; manifest = λ is. cc; named = λ other which is. cc; stray = λ is. cc }
cause_failed pod _ rose = record { fault = λ is. cc; there = λ is. cc; phase = λ q is. cc; manifest = λ is. cc; named = λ other which is. cc; stray = λ is. cc }

-- a read that failed, and one that found the pod in a phase that doesn't allow its removal

pub look_alone : (pod : PodId) (e : LookError) (old new : DirAt) → RemovalRefusedByAnother pod (remove_error_of pod (look_setback e)) old new
look_alone pod look.DirFault old new = record { busy = λ which is. cc; owner = λ conforming q is owned. cc }
look_alone pod _ old new = record { busy = λ which is. cc; owner = λ conforming q is owned. cc }

pub wrong_elsewhere : {observed : Bool} (pod : PodId) (now : ℕ) (old new : DirAt) (p : Phase) (area : Area) → (observed ≡ true → ExtendsBy (is_look_at (is_pod_spot pod)) old new)
    → (observed ≡ true → IsConforming new.trace → AtOwnEvent old.process old.trace new.trace (IsInPhase pod p area))
    → observed ≡ true → Given (MayRemovePod pod now) old (λ s. RemovalRefusedByAnother pod (error.WrongPhase p) old new)
wrong_elsewhere pod now old new p area extends exact t s k m = record {
  busy = λ which is. cc;
  owner = λ conforming q is owned.
      let same : p ≡ q = cc in (
        area,
        subst (λ (x : Phase). AtOwnEvent old.process old.trace new.trace (IsOwnedElsewhere old.process pod x area)) same
            (met_elsewhere pod old new (extends t) conforming s k m.may.apart p area (ap is_owned_phase same ∙ owned) (exact t conforming)),
      );
}

-- the rounds one after the other

way_longer : (pod : PodId) (p : Phase) {me : ℕ} {a b c : List Event} → Grew b c → MissedOnItsWay pod p me a b → MissedOnItsWay pod p me a c
way_longer pod p bc (inl at) = inl (at_part grown_none refl bc at)
way_longer pod p bc (inr x) = inr (x.0, x.1, at_part grown_none refl bc x.2)

missed_longer : {pod : PodId} {me : ℕ} {a b c : List Event} → FoundThenMissed pod me a b → Grew b c → FoundThenMissed pod me a c
missed_longer {pod} f bc = record { between = f.between; phase = f.phase; area = f.area; removable = f.removable; read = f.read; missed = at_part grown_none refl bc f.missed; way = way_longer pod f.phase bc f.way }

pub missed_first : (pod : PodId) (me : ℕ) (a b c : List Event) (n : ℕ) → FoundThenMissed pod me a b → MissedTimes n pod me b c → MissedTimes (suc n) pod me a c
missed_first pod me a b c zero f m = (a, grown_none, missed_longer f m)
missed_first pod me a b c (suc n) f m = (m.0, missed_first pod me a b m.0 n f m.1, m.2)

pub missed_next : (pod : PodId) {me other : ℕ} (a b c : List Event) (n : ℕ) → MissedTimes n pod me a b → other ≡ me → FoundThenMissed pod other b c → MissedTimes (n + 1) pod me a c
missed_next pod {me} {other} a b c n m same f =
    let next : suc n ≡ n + 1 = omega arith in
    subst (λ (k : ℕ). MissedTimes k pod me a c) next (b, m, subst (λ (p : ℕ). FoundThenMissed pod p b c) same f)

wrong_after : {pod : PodId} {p : Phase} {me other : ℕ} {a b c : List Event} → Grew a b → other ≡ me → WasWrongToRemove pod p other b c → WasWrongToRemove pod p me a c
wrong_after ab same w = record { wrong = w.wrong; area = w.area; was = event_part ab same w.was }

pub ended_at : {observed : Bool} (pod : PodId) {a b : DirAt} (c : DirAt) (x : Round) → observed ≡ true → Follows observed a b → (x ≡ round.Missed → ⊥) → WentRound pod x b c → RemovedLater pod a c
ended_at {observed} pod {a} {b} c round.Gone t ab other w = record { between = b.trace; first = ab.grown t; ended = inr (subst (λ (p : ℕ). FoundNoPod pod p b.trace c.trace) ab.same w) }
ended_at {observed} pod {a} {b} c round.Removed t ab other w = record { between = b.trace; first = ab.grown t; ended = inl (subst (λ (p : ℕ). HasDeletedPod pod p b.trace c.trace) ab.same w) }
ended_at pod c round.Missed t ab other w = absurd (other refl)

pub cause_later : {observed : Bool} {pod : PodId} {e : RemoveError} {a b c : DirAt} → Follows observed a b → RoundCause observed pod e b c → LaterCause observed pod e a c
cause_later {observed} {pod} {e} {a} {b} {c} ab x = record {
  fault = λ is. rose_later a.faults b.faults c.faults ab.faults (x.fault is);
  there = x.there;
  phase = λ p is t conforming. wrong_after (ab.grown t) ab.same (x.phase p is t conforming);
  manifest = λ is t conforming. at_part (ab.grown t) ab.same grown_none (x.manifest is t conforming);
  named = x.named;
  stray = λ is t. inl (stray_part (ab.grown t) ab.same grown_none (x.stray is t));
}

pub cause_last : {observed : Bool} {pod : PodId} {a b : DirAt} → (observed ≡ true → MissedTimes 5 pod a.process a.trace b.trace) → LaterCause observed pod error.Stray a b
cause_last m = record { fault = λ is. cc; there = λ is. cc; phase = λ p is. cc; manifest = λ is. cc; named = λ other which is. cc; stray = λ is t. inr (m t) }

pub cause_first : {observed : Bool} {pod : PodId} {e : RemoveError} {a b : DirAt} → RoundCause observed pod e a b → PodRemovalCause observed pod e a b
cause_first x = record { fault = x.fault; nowhere = λ is. absurd (x.there is); phase = x.phase; manifest = x.manifest; named = x.named; stray = λ is t. inl (x.stray is t) }

pub cause_none : {observed : Bool} {pod : PodId} {a b : DirAt} → (observed ≡ true → FoundNoPod pod a.process a.trace b.trace) → PodRemovalCause observed pod error.NoPod a b
cause_none f = record { fault = λ is. cc; nowhere = λ is t. f t; phase = λ p is. cc; manifest = λ is. cc; named = λ other which is. cc; stray = λ is. cc }

module _ {observed : Bool} {pod : PodId} {a b : DirAt} (ab : Follows observed a b) (found : observed ≡ true → FoundThenMissed pod a.process a.trace b.trace) where
  missed_or_stray : (c : DirAt) → observed ≡ true → WasStrayStep b.process b.trace c.trace ⊎ MissedTimes 5 pod b.process b.trace c.trace → WasStrayStep a.process a.trace c.trace ⊎ MissedTimes 6 pod a.process a.trace c.trace
  missed_or_stray c t (inl w) = inl (stray_part (ab.grown t) ab.same grown_none w)
  missed_or_stray c t (inr m) = inr (missed_first pod a.process a.trace b.trace c.trace 5 (found t) (subst (λ (p : ℕ). MissedTimes 5 pod p b.trace c.trace) ab.same m))

  pub cause_then : {e : RemoveError} {c : DirAt} → LaterCause observed pod e b c → PodRemovalCause observed pod e a c
  cause_then {e} {c} x = record {
    fault = λ is. rose_later a.faults b.faults c.faults ab.faults (x.fault is);
    nowhere = λ is. absurd (x.there is);
    phase = λ p is t conforming. wrong_after (ab.grown t) ab.same (x.phase p is t conforming);
    manifest = λ is t conforming. at_part (ab.grown t) ab.same grown_none (x.manifest is t conforming);
    named = x.named;
    stray = λ is t. missed_or_stray c t (x.stray is t);
  }

  pub removed_then : (c : DirAt) → observed ≡ true → RemovedLater pod b c → RemovedBetween pod a c
  removed_then c t x = inr (record { between = b.trace; missed = found t; ended = subst (λ (p : ℕ). RemovalIsEnded pod p b.trace c.trace) ab.same x })

pub refused_later : {observed : Bool} {now : ℕ} {pod : PodId} {a b : DirAt} (e : RemoveError) (c : DirAt) → observed ≡ true → Follows observed a b → Given (MayRemovePod pod now) a (λ s. KeepsReady s b) → Given (MayRemovePod pod now) b (λ s. RemovalRefusedByAnother pod e b c)
    → Given (MayRemovePod pod now) a (λ s. RemovalRefusedByAnother pod e a c)
refused_later {observed} {now} {pod} {a} {b} e c t ab ready busy s k m =
    let x = ready s k m in
    let later = busy x.known x.knows (may_pod_kept x.keeps m) in
    record {
      busy = λ which is. busy_within (ab.grown t) ab.same grown_none (later.busy which is);
      owner = λ conforming q is owned.
          let at = later.owner conforming q is owned in (
            at.0,
            event_within (ab.grown t).more [] (ab.grown t).grown (sym (append-nil c.trace))
                (subst (λ (p : ℕ). AtOwnEvent p b.trace c.trace (IsOwnedElsewhere p pod q at.0)) ab.same at.1),
          );
    }

-- what the rounds so far came to
pub record Rounds (observed : Bool) (n : ℕ) (pod : PodId) (now : ℕ) (old new : DirAt) : Type 0 where
  pub worked : OnlyAsks observed (removes pod now) old new
  pub missed : observed ≡ true → MissedTimes n pod old.process old.trace new.trace
  pub reads : ReadsAtMost n observed pod old new
  pub kept : observed ≡ true → KeepsFolders old new
  pub ready : observed ≡ true → Given (MayRemovePod pod now) old (λ s. KeepsReady s new)
