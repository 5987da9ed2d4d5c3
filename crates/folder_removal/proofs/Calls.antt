-- A listing, which takes two events, as calls.
use Rattle.std.proofs.Common.{◌≡◌, inl, inr, ℕ, Bool, true, List, Result, Ok, Err, refl, sym, subst}
use Rattle.dir_model.specs.declared.event.Event.{Event}
use Rattle.dir_model.specs.declared.item.Inner.{Inner}
use Rattle.dir_model.specs.declared.item.Item.{Item}
use Rattle.dir_model.specs.declared.request.DirError.{DirError}
use Rattle.dir_model.specs.declared.request.Request.TheVariants.{ListIn}
use Rattle.dir_model.specs.declared.request.Reply.{Reply}
use Rattle.dir_model.specs.declared.request.Reply.TheVariants.{Begun}
use Rattle.dir_model.specs.Calls.{ListStep}
use Rattle.dir_model.specs.Local.{Local, local_replied}
use Rattle.dir_model.specs.Replies.{items_reply}
use Rattle.dir_rules.specs.declared.seen.Seen.{Seen}
use Rattle.dir_rules.specs.Standing.{standing_replied}
use Rattle.dir_rules.specs.Conforms.{seen_replied, seen_listed, IsTied}
use Rattle.dir_rules.proofs.Tied.{tied_step, tied_unbegun}
use Rattle.dir_trait.specs.DirCalls.{DirAt, ListCall}
use Rattle.dir_trait.specs.Knowledge.{SameHandles, Knows}
use Rattle.dir_trait.proofs.ListCalls.{left_step}

tied_list : {me : ℕ} {old new : List Event} {s : Seen} (inner : Inner) (reply : Reply) → IsTied me old s → ListStep me old (ListIn inner) reply new → IsTied me new (seen_listed s (ListIn inner) reply)
tied_list {me} {old} {new} {s} inner reply tied (inl l) =
    tied_step me l.between new (seen_replied s (ListIn inner) Begun) (ListIn inner) reply (tied_step me old l.between s (ListIn inner) Begun tied refl refl l.begins) refl refl l.ends
tied_list {me} {old} {new} {s} inner reply tied (inr u) =
    tied_step me old new (seen_replied s (ListIn inner) Begun) (ListIn inner) reply (tied_unbegun me old s (ListIn inner) tied) refl refl (left_step u)

-- what a process knows by a listing more
pub knows_list : {observed : Bool} {old new : DirAt} {s : Seen} (inner : Inner) (r : Result (List Item) DirError) → observed ≡ true → Knows old s → ListCall observed old (ListIn inner) (items_reply r) new → Knows new (seen_listed s (ListIn inner) (items_reply r))
knows_list {observed} {old} {new} {s} inner r t k c = record {
  tied = subst (λ (me : ℕ). IsTied me new.trace (seen_listed s (ListIn inner) (items_reply r))) (sym c.same) (tied_list inner (items_reply r) k.tied (c.step t));
  handles = by r c.local;
}
  where
    by : (x : Result (List Item) DirError) → new.local ≡ local_replied old.local (ListIn inner) (items_reply x) → SameHandles (standing_replied (standing_replied s.standing (ListIn inner) Begun) (ListIn inner) (items_reply x)).holdings new.local.holdings
    by (Ok items) is = subst (λ (m : Local). SameHandles s.standing.holdings m.holdings) (sym is) k.handles
    by (Err error) is = subst (λ (m : Local). SameHandles s.standing.holdings m.holdings) (sym is) k.handles
