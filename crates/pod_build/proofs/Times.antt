-- What came about in a part of a time came about in the whole.
use Rattle.std.proofs.Common.{◌≡◌, inl, inr, ℕ, Bool, true, List, [], ◌∷◌, ◌++◌, refl, sym, ap, subst, ◌∙◌, append-nil, append_assoc, arith}
use Rattle.dir_model.specs.declared.event.Event.{Event}
use Rattle.dir_model.specs.declared.area.Area.TheVariants.{Embryo}
use Rattle.dir_model.specs.declared.intent.Intent.{Intent}
use Rattle.dir_model.specs.declared.pod.PodId.{PodId}
use Rattle.dir_model.specs.declared.spot.Mode.TheVariants.{Shared}
use Rattle.dir_model.specs.declared.spot.Spot.{Spot}
use Rattle.dir_model.specs.declared.request.Request.{Request}
use Rattle.dir_model.specs.declared.request.Request.TheVariants.{MoveFolder}
use Rattle.dir_model.specs.declared.request.Reply.{Reply}
use Rattle.dir_model.specs.declared.request.Reply.TheVariants.{Done}
use Rattle.dir_model.specs.Calls.{CallStep, Extends, event}
use Rattle.dir_model.specs.Local.{Local}
use Rattle.dir_model.proofs.Chains.{and_more, extends_wider}
use Rattle.dir_model.proofs.Moments.{at_before}
use Rattle.dir_rules.specs.declared.seen.Entry.{Entry}
use Rattle.dir_laws.proofs.Rose.{rose_later, rose_still}
use Rattle.dir_trait.specs.DirCalls.{DirAt, ExtendsBy, HeldBetween}
use Rattle.dir_trait.specs.Effects.{OnlyAsks, LeavesOpen}
use Rattle.folder_building.specs.declared.plan.PlanEntry.{PlanEntry}
use Rattle.pod_build.specs.declared.make_error.MakeError.{MakeError}
use Rattle.pod_build.specs.declared.make_error.MakeError.TheVariants.{Stray}
use Rattle.dir_files.specs.AreaLocks.{IsFreeElsewhere, is_taking_area}
use Rattle.folder_building.specs.Sources.{in_images}
use Rattle.folder_building.specs.Stored.{LacksAt}
use Rattle.folder_building.proofs.Stored.{lacks_after, lacks_before}
use Rattle.folder_building.proofs.Following.{Follows}
use Rattle.pod_build.specs.MakingRequests.{locks_own, is_move_to_prepare, shows_changed}
use Rattle.pod_build.specs.MakingCauses.{WasAnswered, IsCopiedAt, MakingWorkCause, EmbryoCause, MakeCause, AsksFirst, AsksFolder, HasMadeFolder, ShowsTaken, LosesEmbryo, WasTakenMade, WasThenAnswered, MakesEmbryo, BringsToPrepare, LosesPod, LosesOwn}
use Rattle.pod_build.specs.Makings.{HasMovedPod}

pub follows_went : {observed : Bool} {asks : Request → Bool} {l : Local} {a b : DirAt} → LeavesOpen observed asks l a b → Follows observed a b
follows_went {observed} {asks} w = record { same = w.same; faults = w.faults; asks = asks; extends = w.extends }

-- an own answer
pub answered_self : (answers : Request → Reply → Bool) {request : Request} {reply : Reply} {me : ℕ} {old new : List Event} → answers request reply ≡ true → CallStep me old request reply new → WasAnswered answers me old new
answered_self answers {request} {reply} {me} {old} {new} is s = record { before = old; after = new; earlier = []; later = []; request = request; reply = reply; answered = is; begins = sym (append-nil old); step = s; ends = sym (append-nil new) }

pub answered_after : (answers : Request → Reply → Bool) {asks : Request → Bool} {me other : ℕ} {a b c : List Event} → Extends asks me a b → other ≡ me → WasAnswered answers other b c → WasAnswered answers me a c
answered_after answers {asks} {me} {other} {a} {b} {c} ab same w =
    let v = subst (λ (p : ℕ). WasAnswered answers p b c) same w in
    record {
      before = v.before;
      after = v.after;
      earlier = ab.more ++ v.earlier;
      later = v.later;
      request = v.request;
      reply = v.reply;
      answered = v.answered;
      begins = v.begins ∙ (ap (λ h. h ++ v.earlier) ab.grown ∙ append_assoc a ab.more v.earlier);
      step = v.step;
      ends = v.ends;
    }

pub answered_before : (answers : Request → Reply → Bool) {asks : Request → Bool} {me other : ℕ} {a b c : List Event} → WasAnswered answers me a b → Extends asks other b c → WasAnswered answers me a c
answered_before answers {asks} {me} {other} {a} {b} {c} w bc = record {
  before = w.before;
  after = w.after;
  earlier = w.earlier;
  later = w.later ++ bc.more;
  request = w.request;
  reply = w.reply;
  answered = w.answered;
  begins = w.begins;
  step = w.step;
  ends = bc.grown ∙ (ap (λ h. h ++ bc.more) w.ends ∙ append_assoc w.after w.later bc.more);
}

-- the cause of a refusal
pub cause_after : {observed : Bool} {plan : List PlanEntry} {e : MakeError} {a b c : DirAt} → Follows observed a b → MakingWorkCause observed plan e b c → MakingWorkCause observed plan e a c
cause_after {observed} {plan} {e} {a} {b} {c} ab w = record {
  calm = w.calm;
  untaken = w.untaken;
  fault = λ is. rose_later a.faults b.faults c.faults ab.faults (w.fault is);
  unlike = w.unlike;
  lacks = λ place is t. lacks_after a b (ab.extends t) ab.same c (w.lacks place is t);
}

pub cause_before : {observed : Bool} {plan : List PlanEntry} {e : MakeError} {a b c : DirAt} → b.process ≡ a.process → MakingWorkCause observed plan e a b → Follows observed b c → MakingWorkCause observed plan e a c
cause_before {observed} {plan} {e} {a} {b} {c} same w bc = record {
  calm = w.calm;
  untaken = w.untaken;
  fault = λ is. rose_still a.faults b.faults c.faults (w.fault is) bc.faults;
  unlike = w.unlike;
  lacks = λ place is t. lacks_before b c (bc.extends t) same (w.lacks place is t);
}

-- what shows that another had the folder
pub taken_after : {draw : PodId} {me other : ℕ} {a b c : List Event} → Extends (locks_own draw) me a b → other ≡ me → ShowsTaken draw other b c → ShowsTaken draw me a c
taken_after {draw} {me} {other} {a} {b} {c} ab same w =
    let v = subst (λ (p : ℕ). ShowsTaken draw p b c) same w in
    record { before = v.before; after = v.after; later = v.later; request = v.request; reply = v.reply; since = and_more ab refl v.since; lock = v.lock; shows = v.shows; step = v.step; ends = v.ends }

pub taken_before : {draw : PodId} {asks : Request → Bool} {me other : ℕ} {a b c : List Event} → ShowsTaken draw me a b → Extends asks other b c → ShowsTaken draw me a c
taken_before w bc = record {
  before = w.before;
  after = w.after;
  later = w.later ++ bc.more;
  request = w.request;
  reply = w.reply;
  since = w.since;
  lock = w.lock;
  shows = w.shows;
  step = w.step;
  ends = bc.grown ∙ (ap (λ h. h ++ bc.more) w.ends ∙ append_assoc w.after w.later bc.more);
}

-- after the own making
pub made_taken : {draw : PodId} (a b c : DirAt) → MakesEmbryo draw a b → b.process ≡ a.process → LosesEmbryo draw b c → LosesOwn draw a c
made_taken {draw} a b c makes same w = inl (record {
  before = a.trace;
  made = b.trace;
  earlier = [];
  begins = sym (append-nil a.trace);
  makes = makes;
  loses = subst (λ (p : ℕ). ShowsTaken draw p b.trace c.trace) same w;
})

-- after it was brought to prepare
pub brought_changed : {draw : PodId} (a b c : DirAt) → BringsToPrepare draw a b → b.process ≡ a.process → LosesPod draw b c → LosesOwn draw a c
brought_changed {draw} a b c brings same w = inr (record { between = b.trace; earlier = brings; later = subst (λ (p : ℕ). WasAnswered (shows_changed draw) p b.trace c.trace) same w })

-- of longer times
pub own_after : {draw : PodId} {asks : Request → Bool} (a b c : DirAt) → ExtendsBy asks a b → b.process ≡ a.process → LosesOwn draw b c → LosesOwn draw a c
own_after {draw} {asks} a b c ab same (inl w) =
    let v = subst (λ (p : ℕ). WasTakenMade draw p b.trace c.trace) same w in
    inl (record {
      before = v.before;
      made = v.made;
      earlier = ab.more ++ v.earlier;
      begins = v.begins ∙ (ap (λ h. h ++ v.earlier) ab.grown ∙ append_assoc a.trace ab.more v.earlier);
      makes = v.makes;
      loses = v.loses;
    })
own_after {draw} {asks} a b c ab same (inr w) =
    let v = subst (λ (p : ℕ). WasThenAnswered (is_move_to_prepare draw) (shows_changed draw) p b.trace c.trace) same w in
    inr (record { between = v.between; earlier = answered_after (is_move_to_prepare draw) ab refl v.earlier; later = v.later })

pub own_before : {draw : PodId} {asks : Request → Bool} {other : ℕ} (a b c : DirAt) → LosesOwn draw a b → Extends asks other b.trace c.trace → LosesOwn draw a c
own_before a b c (inl w) bc = inl (record { before = w.before; made = w.made; earlier = w.earlier; begins = w.begins; makes = w.makes; loses = taken_before w.loses bc })
own_before {draw} a b c (inr w) bc = inr (record { between = w.between; earlier = w.earlier; later = answered_before (shows_changed draw) w.later bc })

-- a plan of nothing copies nothing
none_copied : (place : ℕ) → IsCopiedAt [] place → ⊥
none_copied place u = by u.before u.is
  where
    by : (before : List PlanEntry) → [] ≡ before ++ u.entry ∷ u.rest → ⊥
    by [] is = cc
    by (x ∷ xs) is = cc

none_lacking : {a b : DirAt} (place : ℕ) → LacksAt in_images [] place a b → ⊥
none_lacking place u = by u.before u.is
  where
    by : (before : List PlanEntry) → [] ≡ before ++ u.entry ∷ u.rest → ⊥
    by [] is = cc
    by (x ∷ xs) is = cc

pub cause_planned : {observed : Bool} {e : MakeError} {a b : DirAt} (plan : List PlanEntry) → MakingWorkCause observed [] e a b → MakingWorkCause observed plan e a b
cause_planned plan w = record { calm = w.calm; untaken = w.untaken; fault = w.fault; unlike = λ place is. absurd (none_copied place (w.unlike place is)); lacks = λ place is t. absurd (none_lacking place (w.lacks place is t)) }

pub make_planned : {observed : Bool} {draw : PodId} {e : MakeError} {a b : DirAt} (plan : List PlanEntry) → MakeCause observed draw [] e a b → MakeCause observed draw plan e a b
make_planned plan w = record {
  busy = w.busy;
  alone = w.alone;
  fault = w.fault;
  taken = w.taken;
  unlike = λ place is. absurd (none_copied place (w.unlike place is));
  made = w.made;
  lacks = λ place is t. absurd (none_lacking place (w.lacks place is t));
  stray = w.stray;
}

-- its first call was to make the folder
first_before : {draw : PodId} {reply : Reply} {asks : Request → Bool} {me other : ℕ} {a b c : List Event} → AsksFirst draw reply me a b → Extends asks other b c → AsksFirst draw reply me a c
first_before w bc = record { after = w.after; later = w.later ++ bc.more; asks = w.asks; ends = bc.grown ∙ (ap (λ h. h ++ bc.more) w.ends ∙ append_assoc w.after w.later bc.more) }

pub folder_before : {draw : PodId} {reply : Reply} {asks : Request → Bool} (a b c : DirAt) → AsksFolder draw reply a b → b.process ≡ a.process → ExtendsBy asks b c → AsksFolder draw reply a c
folder_before a b c w same bc = record { free = at_before w.free same bc; locked = w.locked; locks = w.locks; first = first_before w.first bc }

-- the lock of embryo was had before
abbrev HadLock : DirAt → DirAt → Type 0
HadLock a b = HeldBetween a b (IsFreeElsewhere a.process Embryo Shared)

pub folder_asked : {draw : PodId} {reply : Reply} {asks : Request → Bool} (a b c : DirAt) → HadLock a b → ExtendsBy (is_taking_area Embryo Shared) a b → b.process ≡ a.process → ExtendsBy asks b c → AsksFirst draw reply b.process b.trace c.trace → AsksFolder draw reply a c
folder_asked {draw} {reply} a b c free locks same bc first = record { free = at_before free same bc; locked = b.trace; locks = locks; first = subst (λ (me : ℕ). AsksFirst draw reply me b.trace c.trace) same first }

-- the causes of longer parts
pub embryo_cause : {observed : Bool} {draw : PodId} {e : MakeError} {a b c : DirAt} → Follows observed a b → MakingWorkCause observed [] e b c → EmbryoCause observed draw e a c
embryo_cause {observed} {draw} {e} {a} {b} {c} ab w = record {
  calm = w.calm;
  fault = λ is. rose_later a.faults b.faults c.faults ab.faults (w.fault is);
  taken = λ is. absurd (w.untaken is);
  like = λ place is. none_copied place (w.unlike place is);
}

pub locked_cause : {observed : Bool} {draw : PodId} {e : MakeError} (a b c d : DirAt) → Follows observed a b → (observed ≡ true → HadLock a b) → (observed ≡ true → ExtendsBy (is_taking_area Embryo Shared) a b) → Follows observed b c → Follows observed c d
    → (e ≡ Stray → observed ≡ true → LosesOwn draw a d) → EmbryoCause observed draw e b c → MakeCause observed draw [] e a d
locked_cause a b c d ab free locks bc cd stray w = record {
  busy = λ is. absurd (w.calm is);
  alone = λ is. absurd (w.calm is);
  fault = λ is. rose_still a.faults c.faults d.faults (rose_later a.faults b.faults c.faults ab.faults (w.fault is)) cd.faults;
  taken = λ is t. folder_before a c d (folder_asked a b c (free t) (locks t) ab.same (bc.extends t) (w.taken is t)) (bc.same ∙ ab.same) (cd.extends t);
  unlike = λ place is. absurd (w.like place is);
  made = λ place is. absurd (w.like place is);
  lacks = λ place is. absurd (w.like place is);
  stray = stray;
}

pub calm_cause : {observed : Bool} {draw : PodId} {plan : List PlanEntry} {e : MakeError} {a b : DirAt} → (observed ≡ true → HasMadeFolder draw a b) → (e ≡ Stray → observed ≡ true → LosesOwn draw a b) → MakingWorkCause observed plan e a b → MakeCause observed draw plan e a b
calm_cause made stray w = record { busy = λ is. absurd (w.calm is); alone = λ is. absurd (w.calm is); fault = w.fault; taken = λ is. absurd (w.untaken is); unlike = w.unlike; made = λ place is. made; lacks = w.lacks; stray = stray }

-- work after work, and what is open then
pub went_after : {observed : Bool} {asks : Request → Bool} {a b c : DirAt} (after : Local → Local) → OnlyAsks observed asks a b → LeavesOpen observed asks (after b.local) b c → LeavesOpen observed asks (after a.local) a c
went_after {observed} {asks} {a} {b} {c} after ab bc = record {
  same = bc.same ∙ ab.same;
  faults = omega (arith, ab.faults, bc.faults);
  local_is = bc.local_is ∙ ap after ab.local;
  extends = λ t. and_more (ab.extends t) ab.same (bc.extends t);
}

pub went_wider : {observed : Bool} {asks more : Request → Bool} {l : Local} {a b : DirAt} → ((r : Request) → asks r ≡ true → more r ≡ true) → LeavesOpen observed asks l a b → LeavesOpen observed more l a b
went_wider wider w = record { same = w.same; faults = w.faults; local_is = w.local_is; extends = λ t. extends_wider wider (w.extends t) }

pub worked_went : {observed : Bool} {asks : Request → Bool} {a b : DirAt} → LeavesOpen observed asks a.local a b → OnlyAsks observed asks a b
worked_went w = record { same = w.same; faults = w.faults; local = w.local_is; extends = w.extends }

-- a move in a part of the time
pub moved_within : {observed : Bool} (from to : Spot) (entries : List Entry) (intent : Intent) (a b c d : DirAt) → observed ≡ true → Follows observed a b → Follows observed c d
    → HasMovedPod b.process from to entries intent b.trace c.trace → HasMovedPod a.process from to entries intent a.trace d.trace
moved_within {observed} from to entries intent a b c d t ab cd x =
    let e = ab.extends t in
    let l = cd.extends t in
    let y = subst (λ (me : ℕ). HasMovedPod me from to entries intent b.trace c.trace) ab.same x in
    record {
      before = y.before;
      later = y.later ++ l.more;
      meanwhile = e.more ++ y.meanwhile;
      begins = y.begins ∙ (ap (λ h. h ++ y.meanwhile) e.grown ∙ append_assoc a.trace e.more y.meanwhile);
      moved = l.grown ∙ (ap (λ h. h ++ l.more) y.moved ∙ append_assoc y.before (event a.process (MoveFolder from to) Done ∷ y.later) l.more);
      seen = y.seen;
      began = y.began;
      making = y.making;
      knew = y.knew;
    }
