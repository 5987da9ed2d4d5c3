-- One call: by what its locations are, and that it took place.
use Rattle.std.proofs.Common.{◌≡◌, ◌⊎◌, inl, inr, ℕ, Bool, true, false, List, sym, subst, ◌∙◌}
use Rattle.dir_model.specs.declared.event.Event.{Event}
use Rattle.dir_model.specs.declared.spot.Spot.{Spot}
use Rattle.dir_model.specs.declared.request.Request.{Request}
use Rattle.dir_model.specs.declared.request.Request.TheVariants.{MoveFolder}
use Rattle.dir_model.specs.declared.request.Reply.{Reply}
use Rattle.dir_model.specs.Calls.{TookPlace, LeftNothing}
use Rattle.dir_model.specs.Replies.{is_late_reply}
use Rattle.dir_trait.specs.DirCalls.{DirAt, DirCall}

-- the same call, by what its locations are
pub with_spot : {observed : Bool} {old new : DirAt} {a b : Spot} {reply : Reply} (request : Spot → Request) → a ≡ b → DirCall observed old (request a) reply new → DirCall observed old (request b) reply new
with_spot {observed} {old} {new} {a} {b} {reply} request is c = subst (λ (s : Spot). DirCall observed old (request s) reply new) is c

pub with_spots : {observed : Bool} {old new : DirAt} {from from' to to' : Spot} {reply : Reply} → from ≡ from' → to ≡ to' → DirCall observed old (MoveFolder from to) reply new → DirCall observed old (MoveFolder from' to') reply new
with_spots {observed} {old} {new} {from} {from'} {to} {to'} {reply} a b c =
    subst (λ (t : Spot). DirCall observed old (MoveFolder from' t) reply new) b (subst (λ (f : Spot). DirCall observed old (MoveFolder f to) reply new) a c)

-- a call that was answered so took place
pub took : {me : ℕ} {before new : List Event} {request : Request} {reply : Reply} → is_late_reply request reply ≡ false → TookPlace before me request reply new ⊎ LeftNothing before me request reply new → TookPlace before me request reply new
took timely (inl t) = t
took timely (inr left) = let e : true ≡ false = sym left.late ∙ timely in cc

pub late_never : {X : Type 0} {request : Request} {reply : Reply} {me : ℕ} {before new : List Event} → LeftNothing before me request reply new → is_late_reply request reply ≡ false → X
late_never {X} {request} {reply} {me} {before} {new} l timely = let clash : true ≡ false = sym l.late ∙ timely in cc
