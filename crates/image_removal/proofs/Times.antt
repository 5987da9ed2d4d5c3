-- What came about in a part of a time came about in the whole.
use Rattle.std.proofs.Common.{◌≡◌, inl, inr, ℕ, Bool, List, [], ◌++◌, sym, ap, subst, ◌∙◌, append-nil, append_assoc}
use Rattle.dir_model.specs.declared.event.Event.{Event}
use Rattle.dir_model.specs.declared.request.Request.{Request}
use Rattle.dir_model.specs.declared.request.Request.TheVariants.{ListIn}
use Rattle.dir_model.specs.declared.request.DirError.TheVariants.{Missing}
use Rattle.dir_model.specs.declared.request.Reply.{Reply}
use Rattle.dir_model.specs.declared.request.Reply.TheVariants.{Refused}
use Rattle.dir_model.specs.declared.item.Inner.{Inner}
use Rattle.dir_model.specs.declared.spot.Spot.{Spot}
use Rattle.dir_rules.specs.Rules.{root_of}
use Rattle.dir_model.specs.Calls.{CallStep, Extends}
use Rattle.dir_laws.proofs.Rose.{rose_later, rose_still}
use Rattle.dir_trait.specs.DirCalls.{DirAt}
use Rattle.folder_building.proofs.Following.{Follows}
use Rattle.folder_removal.specs.Removal.{IsCalledFor}
use Rattle.folder_removal.proofs.Strays.{unremoved_at, unremoved_within}
use Rattle.image_reading.specs.declared.error.StoreError.{StoreError}
use Rattle.image_removal.specs.Calls.{WasCalled}
use Rattle.image_removal.specs.Causes.{IsMissedListingDue, WasStrayRemoval, RemovalWorkCause}

-- a call
pub called_self : {request : Request} {reply : Reply} {me : ℕ} {old new : List Event} → CallStep me old request reply new → WasCalled request reply me old new
called_self {request} {reply} {me} {old} {new} s = record { before = old; after = new; earlier = []; later = []; begins = sym (append-nil old); step = s; ends = sym (append-nil new) }

pub called_after : {asks : Request → Bool} {request : Request} {reply : Reply} {me other : ℕ} {a b c : List Event} → Extends asks me a b → other ≡ me
    → WasCalled request reply other b c → WasCalled request reply me a c
called_after {asks} {request} {reply} {me} {other} {a} {b} {c} ab same w =
    let v = subst (λ (p : ℕ). WasCalled request reply p b c) same w in
    record {
      before = v.before;
      after = v.after;
      earlier = ab.more ++ v.earlier;
      later = v.later;
      begins = v.begins ∙ (ap (λ h. h ++ v.earlier) ab.grown ∙ append_assoc a ab.more v.earlier);
      step = v.step;
      ends = v.ends;
    }

pub called_before : {asks : Request → Bool} {request : Request} {reply : Reply} {me other : ℕ} {a b c : List Event} → WasCalled request reply me a b → Extends asks other b c
    → WasCalled request reply me a c
called_before {asks} {request} {reply} {me} {other} {a} {b} {c} w bc = record {
  before = w.before;
  after = w.after;
  earlier = w.earlier;
  later = w.later ++ bc.more;
  begins = w.begins;
  step = w.step;
  ends = bc.grown ∙ (ap (λ h. h ++ bc.more) w.ends ∙ append_assoc w.after w.later bc.more);
}

-- what a listing had shown before
pub due_within : (request : Request) (reply : Reply) (me : ℕ) (a b c d more rest : List Event) → b ≡ a ++ more → d ≡ c ++ rest → IsMissedListingDue request reply me b c → IsMissedListingDue request reply me a d
due_within (ListIn inner) (Refused Missing left) me a b c d more rest ab cd (inl root) = inl root
due_within (ListIn inner) (Refused Missing left) me a b c d more rest ab cd (inr went) = inr (unremoved_within more rest ab cd went)
due_within (ListIn inner) (Refused error left) me a b c d more rest ab cd due = tt
due_within (ListIn inner) reply me a b c d more rest ab cd due = tt
due_within request reply me a b c d more rest ab cd due = tt

-- of a deletion's last step
pub due_of : (spot : Spot) (request : Request) (reply : Reply) (me : ℕ) (old before new : List Event) → CallStep me before request reply new → IsCalledFor spot request reply me old before → IsMissedListingDue request reply me old new
due_of spot (ListIn inner) (Refused Missing left) me old before new last (inl root) = inl (root.0 ∙ ap root_of (sym (ap (λ (i : Inner). i.spot) root.0)))
due_of spot (ListIn inner) (Refused Missing left) me old before new last (inr shown) = inr (unremoved_at left shown last)
due_of spot (ListIn inner) (Refused error left) me old before new last called = tt
due_of spot (ListIn inner) reply me old before new last called = tt
due_of spot request reply me old before new last called = tt

-- a stray answer
pub stray_after : {asks : Request → Bool} {me other : ℕ} {a b c : List Event} → Extends asks me a b → other ≡ me → WasStrayRemoval other b c → WasStrayRemoval me a c
stray_after {asks} {me} {other} {a} {b} {c} ab same w =
    let due = subst (λ (p : ℕ). IsMissedListingDue w.request w.reply p b c) same w.due in
    record { request = w.request; reply = w.reply; stray = w.stray; due = due_within w.request w.reply me a b c c ab.more [] ab.grown (sym (append-nil c)) due; called = called_after ab same w.called }

pub stray_before : {asks : Request → Bool} {me other : ℕ} {a b c : List Event} → WasStrayRemoval me a b → Extends asks other b c → WasStrayRemoval me a c
stray_before {asks} {me} {other} {a} {b} {c} w bc =
    record { request = w.request; reply = w.reply; stray = w.stray; due = due_within w.request w.reply me a a b c [] bc.more (sym (append-nil a)) bc.grown w.due; called = called_before w.called bc }

-- the cause of a refusal
pub work_after : {observed : Bool} {e : StoreError} {a b c : DirAt} → Follows observed a b → RemovalWorkCause observed e b c → RemovalWorkCause observed e a c
work_after {observed} {e} {a} {b} {c} ab w = record {
  kind = w.kind;
  fault = λ is. rose_later a.faults b.faults c.faults ab.faults (w.fault is);
  stray = λ is t. stray_after (ab.extends t) ab.same (w.stray is t);
}

pub work_before : {observed : Bool} {e : StoreError} {a b c : DirAt} → RemovalWorkCause observed e a b → Follows observed b c → RemovalWorkCause observed e a c
work_before {observed} {e} {a} {b} {c} w bc = record {
  kind = w.kind;
  fault = λ is. rose_still a.faults b.faults c.faults (w.fault is) bc.faults;
  stray = λ is t. stray_before (w.stray is t) (bc.extends t);
}
