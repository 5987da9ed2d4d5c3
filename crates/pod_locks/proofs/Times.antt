-- What came about in a part of a claim came about in the whole.
use Rattle.std.proofs.Common.{◌≡◌, ◌≤◌, ℕ, Bool, true, false, List, refl, subst, ◌∙◌, arith}
use Rattle.dir_model.specs.declared.event.Event.{Event}
use Rattle.dir_model.specs.declared.pod.PodId.{PodId}
use Rattle.dir_model.specs.declared.request.Request.{Request}
use Rattle.dir_model.specs.declared.request.Reply.{Reply}
use Rattle.dir_model.specs.declared.spot.Which.{Which}
use Rattle.dir_model.specs.declared.spot.Which.TheVariants.{Own, Claim}
use Rattle.dir_model.specs.Calls.{AtOwnStep}
use Rattle.dir_model.specs.State.{DirState}
use Rattle.dir_model.proofs.Moments.{at_within}
use Rattle.dir_laws.proofs.Rose.{rose_later, rose_still}
use Rattle.dir_trait.specs.DirCalls.{DirAt, DirCall}
use Rattle.pod_locks.specs.declared.claim_setback.Setback.{Setback}
use Rattle.pod_locks.specs.Work.{Deed, Grew, MovedNothing, InOrder, is_ok_move}
use Rattle.pod_locks.specs.ClaimCauses.{ClaimWasStopped, OpensOwnAlone, PreparedHeldByAnother, HadAlone, HadBothAlone, HadClaimBefore, ClaimBusyElsewhere}
use Rattle.pod_locks.proofs.Traces.{grown_none, grown_more, grown_call, deeds_after, deeds_before, still_none, still_more, still_call}

-- calls that moved nothing, whatever they leave open
pub record Follows (observed : Bool) (old new : DirAt) : Type 0 where
  pub same : new.process ≡ old.process
  pub faults : old.faults ≤ new.faults
  pub grown : observed ≡ true → Grew old.trace new.trace
  pub still : observed ≡ true → MovedNothing old.process old.trace new.trace

pub nothing_follows : {observed : Bool} {a : DirAt} → Follows observed a a
nothing_follows {observed} {a} = record { same = refl; faults = omega arith; grown = λ t. grown_none; still = λ t. still_none }

-- a moment of a part
pub at_part : {me other : ℕ} {a b c d : List Event} {P : DirState → Type 0} → Grew a b → other ≡ me → Grew c d → AtOwnStep other b c P → AtOwnStep me a d P
at_part {me} {other} {a} {b} {c} {d} {P} ab same cd at = at_within ab.more cd.more ab.grown cd.grown (subst (λ (p : ℕ). AtOwnStep p b c P) same at)

pub deeds_part : {me other : ℕ} {a b c d : List Event} {deeds : List Deed} → Grew a b → other ≡ me → Grew c d → InOrder other b c deeds → InOrder me a d deeds
deeds_part {me} {other} {a} {b} {c} {d} {deeds} ab same cd o = deeds_before (deeds_after ab (subst (λ (p : ℕ). InOrder p b c deeds) same o)) cd

pub alone_part : {pod : PodId} {me other : ℕ} {a b c d : List Event} → Grew a b → other ≡ me → Grew c d → OpensOwnAlone pod other b c → OpensOwnAlone pod me a d
alone_part ab same cd o = record { between = o.between; closed = at_part ab same grown_none o.closed; there = at_part grown_none same cd o.there }

pub held_part : {pod : PodId} {which : Which} {me other : ℕ} {a b c d : List Event} → Grew a b → other ≡ me → Grew c d → PreparedHeldByAnother pod which other b c → PreparedHeldByAnother pod which me a d
held_part {pod} {which} {me} {other} {a} {b} {c} {d} ab same cd h =
    let g = subst (λ (p : ℕ). PreparedHeldByAnother pod which p b c) same h in
    record { folder = g.folder; between = g.between; found = at_part ab refl grown_none g.found; held = at_part grown_none refl cd g.held }

pub alone_had : {pod : PodId} {which : Which} {me other : ℕ} {a b c d : List Event} → Grew a b → other ≡ me → Grew c d → HadAlone pod which other b c → HadAlone pod which me a d
alone_had {pod} {which} {me} {other} {a} {b} {c} {d} ab same cd h =
    let g = subst (λ (p : ℕ). HadAlone pod which p b c) same h in
    record { folder = g.folder; between = g.between; found = at_part ab refl grown_none g.found; free = at_part grown_none refl cd g.free }

pub both_had : {pod : PodId} {me other : ℕ} {a b c d : List Event} → Grew a b → other ≡ me → Grew c d → HadBothAlone pod other b c → HadBothAlone pod me a d
both_had ab same cd h = record { claim = alone_had ab same cd h.claim; own = alone_had ab same cd h.own }

pub had_part : (pod : PodId) (which : Which) {me other : ℕ} {a b c d : List Event} → Grew a b → other ≡ me → Grew c d → HadClaimBefore pod which other b c → HadClaimBefore pod which me a d
had_part pod Own ab same cd had = alone_had ab same cd had
had_part pod Claim ab same cd had = tt

pub in_turn_part : (pod : PodId) (which : Which) {me other : ℕ} {a b c d : List Event} → Grew a b → other ≡ me → Grew c d → PreparedHeldByAnother pod which other b c × HadClaimBefore pod which other b c → PreparedHeldByAnother pod which me a d × HadClaimBefore pod which me a d
in_turn_part pod which ab same cd x = (held_part ab same cd x.0, had_part pod which ab same cd x.1)

pub busy_part : {observed : Bool} {pod : PodId} {stop : Setback} {a b c d : DirAt} → observed ≡ true → Follows observed a b → c.process ≡ b.process → Follows observed c d → ClaimBusyElsewhere pod stop b c → ClaimBusyElsewhere pod stop a d
busy_part t ab bc cd busy which is = held_part (ab.grown t) ab.same (cd.grown t) (busy which is)

-- what stops a part stops the whole
pub stops_part : {observed : Bool} {pod : PodId} {Missed : DirState → Type 0} {stop : Setback} {a b c d : DirAt} → Follows observed a b → c.process ≡ b.process → Follows observed c d → ClaimWasStopped observed pod Missed stop b c → ClaimWasStopped observed pod Missed stop a d
stops_part {observed} {pod} {Missed} {stop} {a} {b} {c} {d} ab bc cd s = record {
  still = λ t. still_more (still_more (ab.still t) ab.same (s.still t)) (bc ∙ ab.same) (cd.still t);
  fault = λ is. rose_still a.faults c.faults d.faults (rose_later a.faults b.faults c.faults ab.faults (s.fault is)) cd.faults;
  missing = λ is t. at_part (ab.grown t) ab.same (cd.grown t) (s.missing is t);
  manifest = λ is t. alone_part (ab.grown t) ab.same (cd.grown t) (s.manifest is t);
  barred = λ is t. deeds_part (ab.grown t) ab.same (cd.grown t) (s.barred is t);
  named = s.named;
  there = s.there;
  right = s.right;
}

-- one call that isn't a move
pub follows_call : {observed : Bool} {request : Request} {reply : Reply} {a b : DirAt} → is_ok_move request reply ≡ false → DirCall observed a request reply b → Follows observed a b
follows_call unmoved c = record { same = c.same; faults = c.faults; grown = λ t. grown_call (c.step t); still = λ t. still_call unmoved (c.step t) }

pub follows_more : {observed : Bool} {a b c : DirAt} → Follows observed a b → Follows observed b c → Follows observed a c
follows_more ab bc = record {
  same = bc.same ∙ ab.same;
  faults = omega (arith, ab.faults, bc.faults);
  grown = λ t. grown_more (ab.grown t) (bc.grown t);
  still = λ t. still_more (ab.still t) ab.same (bc.still t);
}
