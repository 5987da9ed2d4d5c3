-- The listing of an area, which takes two events.
use Rattle.std.proofs.Common.{◌≡◌, ℕ, Bool, true, List, Result, Ok, Err, refl, ◌∙◌}
use Rattle.dir_model.specs.declared.area.Area.{Area}
use Rattle.dir_model.specs.declared.area.Area.TheVariants.{Incoming, Removed}
use Rattle.dir_model.specs.declared.event.Event.{Event}
use Rattle.dir_model.specs.declared.request.DirError.{DirError}
use Rattle.dir_model.specs.declared.request.Request.TheVariants.{ListArea}
use Rattle.dir_model.specs.declared.request.Reply.{Reply}
use Rattle.dir_model.specs.Areas.{rank}
use Rattle.dir_model.specs.Calls.{ListStep, Extends}
use Rattle.dir_model.specs.Replies.{names_reply}
use Rattle.dir_model.proofs.Lists.{same_self}
use Rattle.dir_trait.specs.DirCalls.{DirAt, ListCall}
use Rattle.dir_trait.proofs.ListCalls.{list_extends, local_names, knows_names}
use Rattle.dir_trait.specs.Effects.{OnlyAsks}
use Rattle.image_removal.specs.declared.pass.Pass.{Pass}
use Rattle.image_removal.specs.declared.pass.Pass.TheVariants.{PutAway, Delete}
use Rattle.image_removal.specs.Requests.{lists_store_area}
use Rattle.image_removal.specs.Passes.{area_of_pass}
use Rattle.image_removal.specs.Work.{HoldsArea, StaysBare, Stays}

-- what stands in incoming or removed may be listed by anyone
pub list_stays : {observed : Bool} {old new : DirAt} (pass : Pass) (r : Result (List (List ℕ)) DirError) → observed ≡ true
    → ListCall observed old (ListArea (area_of_pass pass)) (names_reply r) new → Stays (HoldsArea (area_of_pass pass)) StaysBare old new
list_stays PutAway (Ok names) t c s k may = record { known = _; standing = refl; kept = refl; bare = may.bare; knows = knows_names Incoming (Ok names) t k c }
list_stays PutAway (Err error) t c s k may = record { known = _; standing = refl; kept = refl; bare = may.bare; knows = knows_names Incoming (Err error) t k c }
list_stays Delete (Ok names) t c s k may = record { known = _; standing = refl; kept = refl; bare = may.bare; knows = knows_names Removed (Ok names) t k c }
list_stays Delete (Err error) t c s k may = record { known = _; standing = refl; kept = refl; bare = may.bare; knows = knows_names Removed (Err error) t k c }

pub only_lists : {me : ℕ} {old new : List Event} {reply : Reply} (area : Area) → ListStep me old (ListArea area) reply new → Extends (lists_store_area area) me old new
only_lists area step = list_extends (same_self (rank area)) step

pub worked_list : {observed : Bool} {old new : DirAt} (area : Area) (r : Result (List (List ℕ)) DirError) → ListCall observed old (ListArea area) (names_reply r) new
    → OnlyAsks observed (lists_store_area area) old new
worked_list {observed} {old} area r c = record { same = c.same; faults = c.faults; local = c.local ∙ local_names old.local area r; extends = λ t. only_lists area (c.step t) }
