-- Moments of a call: what held at one of its own steps.
use Rattle.std.proofs.Common.{◌≡◌, ◌⊎◌, inl, inr, ◌≤◌, ℕ, Bool, true, false, Option, Some, None, is_some, List, [], ◌∷◌, ◌++◌, refl, sym, ap, subst, ◌∙◌, append_assoc, append-nil}
use Rattle.dir_model.specs.declared.event.Event.{Event}
use Rattle.dir_model.specs.declared.spot.Handle.{Handle}
use Rattle.dir_model.specs.declared.spot.Spot.{Spot}
use Rattle.dir_model.specs.declared.spot.Which.{Which}
use Rattle.dir_model.specs.declared.spot.Which.TheVariants.{Own}
use Rattle.dir_model.specs.declared.request.DirError.TheVariants.{Missing}
use Rattle.dir_model.specs.declared.request.Request.{Request}
use Rattle.dir_model.specs.declared.request.Request.TheVariants.{Open}
use Rattle.dir_model.specs.declared.request.Reply.{Reply}
use Rattle.dir_model.specs.declared.request.Reply.TheVariants.{Opened, Refused}
use Rattle.dir_model.specs.Areas.{rank}
use Rattle.dir_model.specs.State.{Namespace, DirState, folder_at, stands, is_owned}
use Rattle.dir_model.specs.Trace.{state_next, state_after}
use Rattle.dir_model.specs.Replies.{is_late_reply}
use Rattle.dir_model.specs.Calls.{Interference, CallStep, TookPlace, LeftNothing, Extends, AtOwnStep, is_allowed, is_kill, event}
use Rattle.dir_model.specs.Between.{StaysBetween, LockTold, IsOwnedAt}
use Rattle.dir_model.proofs.Lists.{same_self}
use Rattle.dir_model.proofs.Chains.{state_after-push}
use Rattle.dir_model.proofs.Allowed.{open_says, miss_says}

-- a moment of a part is one of the whole
pub at_within : {me : ℕ} {a b c d : List Event} {P : DirState → Type 0} (more rest : List Event) → b ≡ a ++ more → d ≡ c ++ rest → AtOwnStep me b c P → AtOwnStep me a d P
at_within {me} {a} {b} {c} {d} {P} more rest ab cd at = record {
  before = at.before;
  step = at.step;
  later = more ++ at.later;
  rest = at.rest ++ rest;
  begins = at.begins ∙ ap (λ h. h ++ at.later) ab ∙ append_assoc a more at.later;
  ends = cd ∙ ap (λ h. h ++ rest) at.ends ∙ append_assoc (at.before ++ at.step ∷ []) at.rest rest;
  own = at.own;
  holds = at.holds;
}

-- a moment of what follows, or of what came before
pub at_after : {asks : Request → Bool} {me other : ℕ} {a b c : List Event} {P : DirState → Type 0} → Extends asks me a b → other ≡ me → AtOwnStep other b c P → AtOwnStep me a c P
at_after {asks} {me} {other} {a} {b} {c} {P} ab same at = at_within ab.more [] ab.grown (sym (append-nil c)) (subst (λ (p : ℕ). AtOwnStep p b c P) same at)

pub at_before : {asks : Request → Bool} {me other : ℕ} {a b c : List Event} {P : DirState → Type 0} → AtOwnStep me a b P → other ≡ me → Extends asks other b c → AtOwnStep me a c P
at_before {asks} {me} {other} {a} {b} {c} {P} at same bc = at_within [] bc.more (sym (append-nil a)) bc.grown at

pub at_weaker : {me : ℕ} {a b : List Event} {P : DirState → Type 0} (Q : DirState → Type 0) → ((s : DirState) → P s → Q s) → AtOwnStep me a b P → AtOwnStep me a b Q
at_weaker {me} {a} {b} {P} Q f at = record { before = at.before; step = at.step; later = at.later; rest = at.rest; begins = at.begins; ends = at.ends; own = at.own; holds = f (state_after (at.before ++ at.step ∷ [])) at.holds }

-- how far a trace with a moment in it has grown
pub at_grown : {me : ℕ} {a b : List Event} {P : DirState → Type 0} → AtOwnStep me a b P → (more : List Event) × (b ≡ a ++ more)
at_grown {me} {a} {b} {P} at = (at.later ++ (at.step ∷ [] ++ at.rest), at.ends ∙ (ap (λ h. (h ++ at.step ∷ []) ++ at.rest) at.begins ∙ simp append_assoc))

-- the moment of a call that took place
pub took_at : (me : ℕ) (old before : List Event) (request : Request) (reply : Reply) (new : List Event) (P : DirState → Type 0) → is_kill request ≡ false → Interference me old before → TookPlace before me request reply new → P (state_next (state_after before) (event me request reply)) → AtOwnStep me old new P
took_at me old before request reply new P lives m took p = record {
  before = before;
  step = event me request reply;
  later = m.others;
  rest = [];
  begins = m.grown;
  ends = took.grown ∙ sym (append-nil (before ++ event me request reply ∷ []));
  own = rw (same_self me) lives;
  holds = subst P (sym (state_after-push before (event me request reply))) p;
}

-- what a call's answer says of the state at its step
pub step_at : (me : ℕ) (old : List Event) (request : Request) (reply : Reply) (new : List Event) (P : DirState → Type 0) → is_kill request ≡ false → is_late_reply request reply ≡ false → ((s : DirState) → is_allowed s (event me request reply) ≡ true → P (state_next s (event me request reply))) → CallStep me old request reply new → AtOwnStep me old new P
step_at me old request reply new P lives timely says s = from s.own
  where
    from : TookPlace s.before me request reply new ⊎ LeftNothing s.before me request reply new → AtOwnStep me old new P
    from (inl took) = took_at me old s.before request reply new P lives s.meanwhile took (says (state_after s.before) took.allowed)
    from (inr left) = let clash : true ≡ false = sym left.late ∙ timely in cc

pub found : (me : ℕ) (old : List Event) (spot : Spot) (which : Which) (handle : Handle) (new : List Event) → CallStep me old (Open spot which) (Opened handle) new → AtOwnStep me old new (λ s. stands s.namespace spot ≡ true)
found me old spot which handle new s = step_at me old (Open spot which) (Opened handle) new (λ s. stands s.namespace spot ≡ true) refl refl (λ s allowed. (open_says s me spot which handle allowed).there) s

pub missed : (me : ℕ) (old : List Event) (spot : Spot) (new : List Event) → CallStep me old (Open spot Own) (Refused Missing 0) new → AtOwnStep me old new (λ s. stands s.namespace spot ≡ false)
missed me old spot new s = step_at me old (Open spot Own) (Refused Missing 0) new (λ s. stands s.namespace spot ≡ false) refl refl (λ s allowed. (miss_says s me spot allowed).absent) s

abbrev At : {me : ℕ} {old new : List Event} {P : DirState → Type 0} → AtOwnStep me old new P → List Event
At {me} {old} {new} {P} at = at.before ++ at.step ∷ []

-- moments of two parts, one after the other: the later moment is the earlier one and more
later_is : {me : ℕ} {a b c : List Event} {P Q : DirState → Type 0} (x : AtOwnStep me a b P) (y : AtOwnStep me b c Q) → At y ≡ At x ++ (x.rest ++ (y.later ++ y.step ∷ []))
later_is {me} {a} {b} {c} {P} {Q} x y =
    ap (λ h. h ++ y.step ∷ []) (y.begins ∙ ap (λ h. h ++ y.later) x.ends)
    ∙ (append_assoc ((x.before ++ x.step ∷ []) ++ x.rest) y.later (y.step ∷ [])
    ∙ append_assoc (x.before ++ x.step ∷ []) x.rest (y.later ++ y.step ∷ []))

-- a look, a try for the lock and a look again tell the owner at the step of the lock
pub settle : {me : ℕ} {old mid new : List Event} {spot : Spot} {owned : Bool} → rank spot.area ≤ 5 → LockTold me old mid spot owned → AtOwnStep me mid new (λ s. stands s.namespace spot ≡ true) → StaysBetween new → AtOwnStep me old new (λ s. IsOwnedAt s.namespace spot owned)
settle {me} {old} {mid} {new} {spot} {owned} stage asked again stays =
    let x = asked.found in
    let y = asked.told in
    let b = x.rest ++ (y.later ++ y.step ∷ []) in
    let c = y.rest ++ (again.later ++ again.step ∷ []) in
    let yx : At y ≡ At x ++ b = later_is x y in
    let zy : At again ≡ At y ++ c = later_is y again in
    let z : At again ≡ (At x ++ b) ++ c = zy ∙ ap (λ h. h ++ c) yx in
    let whole : new ≡ ((At x ++ b) ++ c) ++ again.rest = again.ends ∙ ap (λ h. h ++ again.rest) z in
    let still : folder_at (state_after (At x ++ b)).namespace spot ≡ Some asked.folder =
    stays spot asked.folder (At x) b c again.rest stage whole x.holds (subst (λ (h : List Event). stands (state_after h).namespace spot ≡ true) z again.holds) in
    record {
      before = y.before;
      step = y.step;
      later = (x.later ++ x.step ∷ []) ++ (x.rest ++ y.later);
      rest = c ++ again.rest;
      begins = y.begins ∙ (ap (λ h. h ++ y.later) (x.ends ∙ ap (λ h. (h ++ x.step ∷ []) ++ x.rest) x.begins) ∙ simp append_assoc);
      ends = whole ∙ (append_assoc (At x ++ b) c again.rest ∙ ap (λ h. h ++ (c ++ again.rest)) (sym yx));
      own = y.own;
      holds = record { folder = asked.folder; there = subst (λ (h : List Event). folder_at (state_after h).namespace spot ≡ Some asked.folder) (sym yx) still; held = y.holds };
    }

-- and more calls
pub told_before : {asks : Request → Bool} {me other : ℕ} {a b c : List Event} {spot : Spot} {owned : Bool} → LockTold me a b spot owned → other ≡ me → Extends asks other b c → LockTold me a c spot owned
told_before {asks} {me} {other} {a} {b} {c} {spot} {owned} asked same bc = record { folder = asked.folder; between = asked.between; found = asked.found; told = at_before asked.told same bc }

-- after more calls
pub told_after : {asks : Request → Bool} {me other : ℕ} {a b c : List Event} {spot : Spot} {owned : Bool} → Extends asks me a b → other ≡ me → LockTold other b c spot owned → LockTold me a c spot owned
told_after {asks} {me} {other} {a} {b} {c} {spot} {owned} ab same asked = record { folder = asked.folder; between = asked.between; found = at_after ab same asked.found; told = subst (λ (p : ℕ). AtOwnStep p asked.between c (λ s. is_owned s.namespace asked.folder ≡ owned)) same asked.told }

pub some_number : (o : Option ℕ) → is_some o ≡ true → (k : ℕ) × (o ≡ Some k)
some_number (Some k) h = (k, refl)
some_number None h = cc

-- where a folder stands, its Own is held exclusively or not
pub some_owner : (w : Namespace) (spot : Spot) → stands w spot ≡ true → (owned : Bool) × IsOwnedAt w spot owned
some_owner w spot h = let k = some_number (folder_at w spot) h in (is_owned w k.0, record { folder = k.0; there = k.1; held = refl })
