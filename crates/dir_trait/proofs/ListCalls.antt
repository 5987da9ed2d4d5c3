-- The listing of an area or of a directory, which takes two events, and what a process then knows.
use Rattle.std.proofs.Common.{◌≡◌, inl, inr, ℕ, Bool, true, false, List, Result, Ok, Err, refl, sym, ap, subst, ◌∙◌}
use Rattle.dir_model.specs.declared.area.Area.{Area}
use Rattle.dir_model.specs.declared.event.Event.{Event}
use Rattle.dir_model.specs.declared.item.Inner.{Inner}
use Rattle.dir_model.specs.declared.item.Item.{Item}
use Rattle.dir_model.specs.declared.request.DirError.{DirError}
use Rattle.dir_model.specs.declared.request.Request.{Request}
use Rattle.dir_model.specs.declared.request.Request.TheVariants.{ListArea, ListIn, ReadIn}
use Rattle.dir_model.specs.declared.request.Reply.{Reply}
use Rattle.dir_model.specs.declared.request.Reply.TheVariants.{Begun}
use Rattle.dir_model.specs.Calls.{CallStep, Unlisted, ListStep, Extends, is_begin, is_kill}
use Rattle.dir_model.specs.Local.{Local, local_replied}
use Rattle.dir_model.specs.Replies.{names_reply, items_reply, read_reply}
use Rattle.dir_model.proofs.Chains.{step_extends, extends_more}
use Rattle.dir_rules.specs.declared.standing.Held.{Held}
use Rattle.dir_rules.specs.declared.standing.Standing.{Standing}
use Rattle.dir_rules.specs.declared.seen.Seen.{Seen}
use Rattle.dir_rules.specs.Conforms.{seen_replied, seen_listed, IsTied}
use Rattle.dir_rules.proofs.Tied.{tied_step, tied_unbegun}
use Rattle.dir_trait.specs.DirCalls.{DirAt, ListCall}
use Rattle.dir_trait.specs.Knowledge.{SameHandles, Knows}

-- one that left nothing is one call
pub left_step : {me : ℕ} {old new : List Event} {request : Request} {reply : Reply} → Unlisted me old request reply new → CallStep me old request reply new
left_step u = record { before = u.before; meanwhile = u.meanwhile; own = inr u.late; run = u.run }

pub list_extends : {asks : Request → Bool} {me : ℕ} {old new : List Event} {request : Request} {reply : Reply} → asks request ≡ true → ListStep me old request reply new → Extends asks me old new
list_extends {asks} {me} {old} {new} {request} {reply} asked (inl l) =
    extends_more asks me old l.between new (step_extends asks me old request Begun l.between asked l.begins) (step_extends asks me l.between request reply new asked l.ends)
list_extends {asks} {me} {old} {new} {request} {reply} asked (inr u) = step_extends asks me old request reply new asked (left_step u)

pub tied_list : {me : ℕ} {old new : List Event} {s : Seen} {request : Request} {reply : Reply} → is_begin request ≡ false → is_kill request ≡ false → IsTied me old s → ListStep me old request reply new → IsTied me new (seen_listed s request reply)
tied_list {me} {old} {new} {s} {request} {reply} b k tied (inl l) =
    tied_step me l.between new (seen_replied s request Begun) request reply (tied_step me old l.between s request Begun tied b k l.begins) b k l.ends
tied_list {me} {old} {new} {s} {request} {reply} b k tied (inr u) =
    tied_step me old new (seen_replied s request Begun) request reply (tied_unbegun me old s request tied) b k (left_step u)

-- what a process knows by a listing more, which leaves its handles
pub knows_list : {observed : Bool} {old new : DirAt} {s : Seen} {request : Request} {reply : Reply} → is_begin request ≡ false → is_kill request ≡ false → local_replied old.local request reply ≡ old.local → (seen_listed s request reply).standing ≡ s.standing → observed ≡ true → Knows old s → ListCall observed old request reply new → Knows new (seen_listed s request reply)
knows_list {observed} {old} {new} {s} {request} {reply} b i local standing t k c = record {
  tied = subst (λ (me : ℕ). IsTied me new.trace (seen_listed s request reply)) (sym c.same) (tied_list b i k.tied (c.step t));
  handles = subst (λ (l : List Held). SameHandles l new.local.holdings) (ap (λ (x : Standing). x.holdings) (sym standing)) (subst (λ (m : Local). SameHandles s.standing.holdings m.holdings) (sym (c.local ∙ local)) k.handles);
}

-- of an area
pub local_names : (m : Local) (area : Area) (r : Result (List (List ℕ)) DirError) → local_replied m (ListArea area) (names_reply r) ≡ m
local_names m area (Ok names) = refl
local_names m area (Err e) = refl

pub names_standing : (s : Seen) (area : Area) (r : Result (List (List ℕ)) DirError) → (seen_listed s (ListArea area) (names_reply r)).standing ≡ s.standing
names_standing s area (Ok names) = refl
names_standing s area (Err e) = refl

pub knows_names : {observed : Bool} {old new : DirAt} {s : Seen} (area : Area) (r : Result (List (List ℕ)) DirError) → observed ≡ true → Knows old s → ListCall observed old (ListArea area) (names_reply r) new → Knows new (seen_listed s (ListArea area) (names_reply r))
knows_names {observed} {old} {new} {s} area r t k c = knows_list refl refl (local_names old.local area r) (names_standing s area r) t k c

-- of a directory, and a read in one
pub local_items : (m : Local) (inner : Inner) (r : Result (List Item) DirError) → local_replied m (ListIn inner) (items_reply r) ≡ m
local_items m inner (Ok items) = refl
local_items m inner (Err e) = refl

pub local_read : (m : Local) (inner : Inner) (at room : ℕ) (filled : List ℕ) (r : Result ℕ DirError) → local_replied m (ReadIn inner at room) (read_reply filled r) ≡ m
local_read m inner at room filled (Ok n) = refl
local_read m inner at room filled (Err e) = refl
