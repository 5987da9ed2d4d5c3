-- Single calls at a pod: what they leave open, and what their refusals rest on.
use Rattle.std.proofs.Common.{◌≡◌, ◌≤◌, ℕ, Bool, true, cond, Some, None, Result, Ok, Err, List, [], ◌∷◌, ◌++◌, refl, sym, ap, ◌∙◌, append-nil, arith, subst}
use Rattle.dir_model.specs.declared.area.Area.{Area}
use Rattle.dir_model.specs.declared.event.Event.{Event}
use Rattle.dir_model.specs.declared.pod.PodId.{PodId}
use Rattle.dir_model.specs.declared.spot.Handle.{Handle}
use Rattle.dir_model.specs.declared.spot.Mode.{Mode}
use Rattle.dir_model.specs.declared.spot.Mode.TheVariants.{Shared, Exclusive}
use Rattle.dir_model.specs.declared.spot.Which.{Which}
use Rattle.dir_model.specs.declared.spot.Which.TheVariants.{Own}
use Rattle.dir_model.specs.declared.request.DirError.{DirError}
use Rattle.dir_model.specs.declared.request.DirError.TheVariants.{Missing, Exists, NotEmpty, Locked, Failed}
use Rattle.dir_model.specs.declared.request.DirError.TheVariants as dir
use Rattle.dir_model.specs.declared.request.Request.{Request}
use Rattle.dir_model.specs.declared.request.Request.TheVariants.{Open, TryLock, MoveFolder, Close}
use Rattle.dir_model.specs.declared.request.Reply.{Reply}
use Rattle.dir_model.specs.declared.request.Reply.TheVariants.{Done, Opened, Refused}
use Rattle.dir_model.specs.declared.tree.TreeEntry.{TreeEntry}
use Rattle.dir_model.specs.Calls.{CallStep, AtOwnStep}
use Rattle.dir_model.specs.Causes.{Rose}
use Rattle.dir_model.specs.declared.opening.Holding.{Holding}
use Rattle.dir_model.specs.Local.{Local, held_in, with_handle, with_lock as locked_with, without, IsUnopened}
use Rattle.dir_model.specs.Locks.{target_of}
use Rattle.dir_model.specs.Replies.{may_refuse, refused_in, open_refusal, is_error, done_reply}
use Rattle.dir_model.specs.State.{DirState, stands, folder_at}
use Rattle.dir_model.proofs.Allowed.{allowed_reply}
use Rattle.dir_model.proofs.Chains.{nothing_yet, and_call}
use Rattle.dir_model.proofs.Holdings.{tried_by, closed_after_lock, none_locked}
use Rattle.dir_model.proofs.Lists.{and_both, same_self, map_push}
use Rattle.dir_model.proofs.Moments.{step_at, missed}
use Rattle.dir_model.proofs.Spots.{spot_self}
use Rattle.dir_laws.proofs.Rose.{rose_later, rose_still}
use Rattle.dir_trait.specs.DirCalls.{DirAt, DirCall, ExtendsBy}
use Rattle.dir_trait.specs.Effects.{OnlyAsks, LeavesOpen}
use Rattle.dir_model.specs.Spots.{pod_spot}
use Rattle.pod_locks.specs.Work.{Grew}
use Rattle.pod_locks.proofs.Times.{at_part, deeds_part}
use Rattle.pod_locks.proofs.Traces.{grown_none, one_deed}
use Rattle.pod_locks.specs.declared.setback.Setback.{Setback}
use Rattle.pod_locks.specs.Setbacks.{step_setback_of, step_lock_setback}
use Rattle.pod_locks.specs.Requests.{looks_at, peeks_at, moves_pod}
use Rattle.pod_locks.specs.Holding.{and_pod_lock}
use Rattle.folder_removal.specs.Removal.{WasCalledFor}
use Rattle.folder_removal.proofs.Strays.{called_within}
use Rattle.pod_locks.specs.Causes.{StepWasStopped, IsAbsentAt, CannotOpenAt, WasStrayStep}
use Rattle.pod_locks.proofs.ClaimCalls.{from_missing, is_missing}

-- the calls are of their kind
pub asks_open : (pod : PodId) (a : Area) (which : Which) → looks_at pod a (Open (pod_spot pod a) which) ≡ true
asks_open pod a which = spot_self (pod_spot pod a)

pub asks_move : (pod : PodId) (from to : Area) → moves_pod pod from to (MoveFolder (pod_spot pod from) (pod_spot pod to)) ≡ true
asks_move pod from to = and_both _ _ (spot_self (pod_spot pod from)) (spot_self (pod_spot pod to))

-- a lock was opened, asked for, and given up
module _ {observed : Bool} (pod : PodId) (a : Area) (which : Which) {h : Handle} {old mid late new : DirAt} (mode : Mode) (answer : Result (Unit {0}) DirError) (unopened : IsUnopened old.local h)
    (x : DirCall observed old (Open (pod_spot pod a) which) (Opened h) mid) (y : DirCall observed mid (TryLock h mode) (done_reply answer) late) (z : DirCall observed late (Close h) Done new) where
  pub worked_tried : OnlyAsks observed (looks_at pod a) old new
  worked_tried = record {
    same = z.same ∙ (y.same ∙ x.same);
    faults = omega (arith, x.faults, y.faults, z.faults);
    local = tried_by h (target_of (pod_spot pod a) which) mode answer unopened x.local y.local z.local;
    extends = λ t. and_call (and_call (and_call nothing_yet refl (asks_open pod a which) (x.step t)) x.same refl (y.step t)) (y.same ∙ x.same) refl (z.step t);
  }

  pub went_tried : LeavesOpen observed (looks_at pod a) old.local old new
  went_tried = record { same = worked_tried.same; faults = worked_tried.faults; local_is = worked_tried.local; extends = worked_tried.extends }

-- with no lock asked for but shared
pub asks_peek : (pod : PodId) (a : Area) (which : Which) → peeks_at pod a (Open (pod_spot pod a) which) ≡ true
asks_peek pod a which = spot_self (pod_spot pod a)

pub peeked_tried : {observed : Bool} {h : Handle} {old mid late new : DirAt} (pod : PodId) (a : Area) (answer : Result (Unit {0}) DirError) → DirCall observed old (Open (pod_spot pod a) Own) (Opened h) mid
    → DirCall observed mid (TryLock h Shared) (done_reply answer) late → DirCall observed late (Close h) Done new → observed ≡ true → ExtendsBy (peeks_at pod a) old new
peeked_tried pod a answer x y z t = and_call (and_call (and_call nothing_yet refl (asks_peek pod a Own) (x.step t)) x.same refl (y.step t)) (y.same ∙ x.same) refl (z.step t)

pub peeked_unopened : {observed : Bool} {old new : DirAt} (pod : PodId) (a : Area) (e : DirError) → DirCall observed old (Open (pod_spot pod a) Own) (Refused e 0) new → observed ≡ true → ExtendsBy (peeks_at pod a) old new
peeked_unopened pod a e x t = and_call nothing_yet refl (asks_peek pod a Own) (x.step t)

pub locked_is : {b c : Local} (m : Local) (h : Handle) (pod : PodId) (a : Area) (which : Which) → IsUnopened m h → b ≡ with_handle m h (target_of (pod_spot pod a) which) → c ≡ locked_with b h Exclusive → c ≡ and_pod_lock m pod a which h
locked_is {b} {c} m h pod a which unopened open_is lock_is =
    let fresh : Holding = record { handle = h; target = target_of (pod_spot pod a) which; lock = None } in
    lock_is ∙ (ap (λ (x : Local). locked_with x h Exclusive) open_is
    ∙ ap (λ (hs : List Holding). let r : Local = record m { holdings = hs } in r)
    (map_push (held_in h Exclusive) m.holdings fresh ∙ (ap (λ (hs : List Holding). hs ++ held_in h Exclusive fresh ∷ [])
    (none_locked h Exclusive m.holdings unopened) ∙ ap (λ b. m.holdings ++ cond b (record fresh { lock = Some Exclusive }) fresh ∷ []) (same_self h.number))))

-- and given up
pub lock_closed : {b c : Local} (m : Local) (h : Handle) (pod : PodId) (a : Area) (which : Which) → IsUnopened m h → b ≡ and_pod_lock m pod a which h → c ≡ without b h → c ≡ m
lock_closed {b} {c} m h pod a which unopened is close_is =
    close_is ∙ (ap (λ (x : Local). without x h) (is ∙ sym (locked_is m h pod a which unopened refl refl)) ∙ closed_after_lock m h (target_of (pod_spot pod a) which) unopened Exclusive)

-- and had
pub went_taken : {observed : Bool} {h : Handle} {old mid new : DirAt} (pod : PodId) (a : Area) (which : Which) → IsUnopened old.local h → DirCall observed old (Open (pod_spot pod a) which) (Opened h) mid
    → DirCall observed mid (TryLock h Exclusive) Done new → LeavesOpen observed (looks_at pod a) (and_pod_lock old.local pod a which h) old new
went_taken {observed} {h} {old} {mid} {new} pod a which unopened x y = record {
  same = y.same ∙ x.same;
  faults = omega (arith, x.faults, y.faults);
  local_is = locked_is old.local h pod a which unopened x.local y.local;
  extends = λ t. and_call (and_call nothing_yet refl (asks_open pod a which) (x.step t)) x.same refl (y.step t);
}

-- or it couldn't be opened
pub worked_unopened : {observed : Bool} {old new : DirAt} (pod : PodId) (a : Area) (which : Which) (e : DirError) → DirCall observed old (Open (pod_spot pod a) which) (Refused e 0) new → OnlyAsks observed (looks_at pod a) old new
worked_unopened pod a which e x = record { same = x.same; faults = x.faults; local = x.local; extends = λ t. and_call nothing_yet refl (asks_open pod a which) (x.step t) }

pub went_unopened : {observed : Bool} {old new : DirAt} (pod : PodId) (a : Area) (which : Which) (e : DirError) → DirCall observed old (Open (pod_spot pod a) which) (Refused e 0) new → LeavesOpen observed (looks_at pod a) old.local old new
went_unopened pod a which e x = record { same = x.same; faults = x.faults; local_is = x.local; extends = λ t. and_call nothing_yet refl (asks_open pod a which) (x.step t) }

-- the pod was moved, or not
pub worked_move : {observed : Bool} {old new : DirAt} (pod : PodId) (from to : Area) (answer : Result (Unit {0}) DirError) → DirCall observed old (MoveFolder (pod_spot pod from) (pod_spot pod to)) (done_reply answer) new → OnlyAsks observed (moves_pod pod from to) old new
worked_move {observed} {old} {new} pod from to answer x = record { same = x.same; faults = x.faults; local = by answer x; extends = λ t. and_call nothing_yet refl (asks_move pod from to) (x.step t) }
  where
    by : (answer : Result (Unit {0}) DirError) → DirCall observed old (MoveFolder (pod_spot pod from) (pod_spot pod to)) (done_reply answer) new → new.local ≡ old.local
    by (Ok done) x = x.local
    by (Err e) x = x.local

-- what the refusals rest on

cannot_open : (s : DirState) (pod : PodId) (a : Area) (which : Which) → is_error Missing (refused_in (open_refusal which) s.entries (folder_at s.namespace (pod_spot pod a))) ≡ true
    → refused_in (open_refusal which) (s.entries ++ []) (folder_at s.namespace (pod_spot pod a)) ≡ Some Missing
cannot_open s pod a which is = ap (λ (es : List TreeEntry). refused_in (open_refusal which) es (folder_at s.namespace (pod_spot pod a))) (append-nil s.entries) ∙ is_missing _ is

pub missed_open : {me : ℕ} {old new : List Event} (pod : PodId) (a : Area) (which : Which) → CallStep me old (Open (pod_spot pod a) which) (Refused Missing 0) new → AtOwnStep me old new (CannotOpenAt pod a which)
missed_open {me} {old} {new} pod a which s = step_at me old (Open (pod_spot pod a) which) (Refused Missing 0) new (CannotOpenAt pod a which) refl refl
    (λ s allowed. cannot_open s pod a which (allowed_reply s me (Open (pod_spot pod a) which) (Refused Missing 0) allowed)) s

pub missed_move : {me : ℕ} {old new : List Event} (pod : PodId) (from to : Area) → CallStep me old (MoveFolder (pod_spot pod from) (pod_spot pod to)) (Refused Missing 0) new → AtOwnStep me old new (IsAbsentAt pod from)
missed_move {me} {old} {new} pod from to s = step_at me old (MoveFolder (pod_spot pod from) (pod_spot pod to)) (Refused Missing 0) new (IsAbsentAt pod from) refl refl
    (λ s allowed. from_missing (stands s.namespace (pod_spot pod from)) (stands s.namespace (pod_spot pod to)) (allowed_reply s me (MoveFolder (pod_spot pod from) (pod_spot pod to)) (Refused Missing 0) allowed)) s

-- the lock was refused
pub lock_stops : {observed : Bool} {pod : PodId} {Missed : DirState → Type 0} {old new : DirAt} (which : Which) (h : Handle) (mode : Mode) (e : DirError) → may_refuse (TryLock h mode) e ≡ true
    → (e ≡ Failed → Rose old.faults new.faults) → StepWasStopped observed pod Missed (step_lock_setback which e) old new
lock_stops which h mode Locked may rose = record { fault = λ is. cc; missing = λ is. cc; manifest = λ is. cc; stray = λ is. cc }
lock_stops which h mode Failed may rose = record { fault = λ is. rose refl; missing = λ is. cc; manifest = λ is. cc; stray = λ is. cc }
lock_stops which h mode dir.NoMemory may rose = record { fault = λ is. cc; missing = λ is. cc; manifest = λ is. cc; stray = λ is. cc }
lock_stops which h mode Missing may rose = cc
lock_stops which h mode Exists may rose = cc
lock_stops which h mode NotEmpty may rose = cc

-- it couldn't be opened
module _ {observed : Bool} (pod : PodId) (a : Area) (which : Which) {old new : DirAt} where
  pub open_stops : (e : DirError) → may_refuse (Open (pod_spot pod a) which) e ≡ true → (e ≡ Failed → Rose old.faults new.faults)
      → DirCall observed old (Open (pod_spot pod a) which) (Refused e 0) new → StepWasStopped observed pod (CannotOpenAt pod a which) (step_setback_of e) old new
  open_stops Missing may rose x = record { fault = λ is. cc; missing = λ is t. missed_open pod a which (x.step t); manifest = λ is. cc; stray = λ is. cc }
  open_stops Failed may rose x = record { fault = λ is. rose refl; missing = λ is. cc; manifest = λ is. cc; stray = λ is. cc }
  open_stops dir.NoMemory may rose x = record { fault = λ is. cc; missing = λ is. cc; manifest = λ is. cc; stray = λ is. cc }
  open_stops Locked may rose x = cc
  open_stops Exists may rose x = cc
  open_stops NotEmpty may rose x = cc

  pub own_stops : (e : DirError) → may_refuse (Open (pod_spot pod a) Own) e ≡ true → (e ≡ Failed → Rose old.faults new.faults)
      → DirCall observed old (Open (pod_spot pod a) Own) (Refused e 0) new → StepWasStopped observed pod (IsAbsentAt pod a) (step_setback_of e) old new
  own_stops Missing may rose x = record { fault = λ is. cc; missing = λ is t. missed old.process old.trace (pod_spot pod a) new.trace (x.step t); manifest = λ is. cc; stray = λ is. cc }
  own_stops Failed may rose x = record { fault = λ is. rose refl; missing = λ is. cc; manifest = λ is. cc; stray = λ is. cc }
  own_stops dir.NoMemory may rose x = record { fault = λ is. cc; missing = λ is. cc; manifest = λ is. cc; stray = λ is. cc }
  own_stops Locked may rose x = cc
  own_stops Exists may rose x = cc
  own_stops NotEmpty may rose x = cc

-- the pod wasn't moved
pub move_stops : {observed : Bool} {pod : PodId} {from to : Area} {old new : DirAt} (e : DirError) → may_refuse (MoveFolder (pod_spot pod from) (pod_spot pod to)) e ≡ true
    → (e ≡ Failed → Rose old.faults new.faults) → DirCall observed old (MoveFolder (pod_spot pod from) (pod_spot pod to)) (Refused e 0) new → StepWasStopped observed pod (IsAbsentAt pod from) (step_setback_of e) old new
move_stops {observed} {pod} {from} {to} Missing may rose x = record { fault = λ is. cc; missing = λ is t. missed_move pod from to (x.step t); manifest = λ is. cc; stray = λ is. cc }
move_stops {observed} {pod} {from} {to} Exists may rose x = record {
  fault = λ is. cc;
  missing = λ is. cc;
  manifest = λ is. cc;
  stray = λ is t. record { request = MoveFolder (pod_spot pod from) (pod_spot pod to); reply = Refused Exists 0; stray = refl; called = tt; did = one_deed (x.step t) };
}
move_stops Failed may rose x = record { fault = λ is. rose refl; missing = λ is. cc; manifest = λ is. cc; stray = λ is. cc }
move_stops dir.NoMemory may rose x = record { fault = λ is. cc; missing = λ is. cc; manifest = λ is. cc; stray = λ is. cc }
move_stops Locked may rose x = cc
move_stops NotEmpty may rose x = cc

-- calls, whatever they leave open
pub record Follows (observed : Bool) (old new : DirAt) : Type 0 where
  pub same : new.process ≡ old.process
  pub faults : old.faults ≤ new.faults
  pub grown : observed ≡ true → Grew old.trace new.trace

pub follows_none : {observed : Bool} {a : DirAt} → Follows observed a a
follows_none {observed} {a} = record { same = refl; faults = omega arith; grown = λ t. grown_none }

pub follows_work : {observed : Bool} {asks : Request → Bool} {a b : DirAt} → OnlyAsks observed asks a b → Follows observed a b
follows_work w = record { same = w.same; faults = w.faults; grown = λ t. record { more = (w.extends t).more; grown = (w.extends t).grown } }

pub follows_went : {observed : Bool} {asks : Request → Bool} {l : Local} {a b : DirAt} → LeavesOpen observed asks l a b → Follows observed a b
follows_went w = record { same = w.same; faults = w.faults; grown = λ t. record { more = (w.extends t).more; grown = (w.extends t).grown } }

pub follows_call : {observed : Bool} {request : Request} {reply : Reply} {a b : DirAt} → DirCall observed a request reply b → Follows observed a b
follows_call {observed} {request} {reply} {a} {b} c = record { same = c.same; faults = c.faults; grown = λ t. let e = and_call {asks = λ r. true} nothing_yet refl refl (c.step t) in record { more = e.more; grown = e.grown } }

pub stray_part : {me other : ℕ} {a b c d : List Event} → Grew a b → other ≡ me → Grew c d → WasStrayStep other b c → WasStrayStep me a d
stray_part {me} {other} {a} {b} {c} {d} ab same cd w =
    let called = subst (λ (p : ℕ). WasCalledFor w.request w.reply p b c) same w.called in
    record { request = w.request; reply = w.reply; stray = w.stray; called = called_within w.request w.reply me a b c d ab.more cd.more ab.grown cd.grown called; did = deeds_part ab same cd w.did }

-- what stops a part stops the whole
pub stops_part : {observed : Bool} {pod : PodId} {Missed : DirState → Type 0} {s : Setback} {a b c d : DirAt} → Follows observed a b → Follows observed c d → StepWasStopped observed pod Missed s b c → StepWasStopped observed pod Missed s a d
stops_part {observed} {pod} {Missed} {s} {a} {b} {c} {d} ab cd x = record {
  fault = λ is. rose_still a.faults c.faults d.faults (rose_later a.faults b.faults c.faults ab.faults (x.fault is)) cd.faults;
  missing = λ is t. at_part (ab.grown t) ab.same (cd.grown t) (x.missing is t);
  manifest = x.manifest;
  stray = λ is t. stray_part (ab.grown t) ab.same (cd.grown t) (x.stray is t);
}
