-- Which files of the data folder are read while a plan is carried out.
use Rattle.std.proofs.Common.{◌≡◌, ◌<◌, ◌+◌, ℕ, zero, suc, Bool, true, false, ◌||◌, Option, Some, List, [], ◌∷◌, length, get_or, Result, refl, sym, ap, subst, ◌∙◌, arith}
use Rattle.std.specs.List.{list_any}
use Rattle.dir_model.specs.declared.area.Area.TheVariants.{Images}
use Rattle.dir_model.specs.declared.item.Inner.{Inner}
use Rattle.dir_model.specs.declared.request.DirError.{DirError}
use Rattle.dir_model.specs.declared.request.Request.{Request}
use Rattle.dir_model.specs.declared.request.Request.TheVariants.{ReadIn}
use Rattle.dir_model.specs.declared.spot.Spot.{Spot}
use Rattle.dir_model.specs.Replies.{read_reply}
use Rattle.dir_model.proofs.Lists.{and_both, or_map, or_last}
use Rattle.dir_model.proofs.Spots.{spot_self}
use Rattle.dir_rules.specs.Seen.{inner_eq}
use Rattle.plain_laws.proofs.Texts.{same_bytes}
use Rattle.dir_trait.specs.DirCalls.{DirAt, DirCall}
use Rattle.dir_trait.specs.Effects.{OnlyAsks}
use Rattle.dir_trait.proofs.ListCalls.{local_read}
use Rattle.folder_building.specs.declared.plan.Origin.{Origin}
use Rattle.folder_building.specs.declared.plan.PlanEntry.{PlanEntry}
use Rattle.folder_building.specs.declared.plan.Content.{Content}
use Rattle.folder_building.specs.Work.{builds_at, either}
use Rattle.folder_building.specs.Sources.{in_image}
use Rattle.folder_building.specs.Stored.{reads_stored, reads_content, reads_contents}
use Rattle.folder_building.proofs.Reading.{image_path}
use Rattle.folder_building.proofs.Working.{worked_call, worked_wider, in_first, in_second}

-- a read of a file of images
pub image_copies : {observed : Bool} {old new : DirAt} (name path : List ℕ) (folder : Option (List ℕ)) (at size : ℕ) (room : List ℕ) (r : Result ℕ DirError) → folder ≡ Some name → DirCall observed old (ReadIn (image_path name path) at size) (read_reply room r) new
    → OnlyAsks observed (reads_stored (in_image path folder)) old new
image_copies {observed} {old} {new} name path folder at size room r some c =
    let here = image_path name path in
    subst (λ (f : Option (List ℕ)). OnlyAsks observed (reads_stored (in_image path f)) old new) (sym some)
    (worked_call (and_both _ _ (spot_self here.spot) (same_bytes path)) (local_read old.local here at size room r) c)

-- beside the changes in the folder
module _ {observed : Bool} (spot : Spot) (reads : Request → Bool) {a b : DirAt} where
  pub copies_here : OnlyAsks observed (builds_at spot) a b → OnlyAsks observed (either (builds_at spot) reads) a b
  copies_here w = worked_wider (in_first (builds_at spot) reads) w

  pub copies_there : OnlyAsks observed reads a b → OnlyAsks observed (either (builds_at spot) reads) a b
  copies_there w = worked_wider (in_second (builds_at spot) reads) w

-- what is read for one entry is read for the plan
module _ (stored : Origin → Option Inner) where
  reads_among : (r : Request) (plan : List PlanEntry) (i : ℕ) (e : PlanEntry) → i < length plan → reads_content stored (get_or plan i e).content r ≡ true → reads_contents stored plan r ≡ true
  reads_among r [] i e within h = absurd (omega (arith, within))
  reads_among r (x ∷ plan) zero e within h = rw h refl
  reads_among r (x ∷ plan) (suc i) e within h = or_last (reads_content stored x.content r) (reads_contents stored plan r) (reads_among r plan i e (omega (arith, within)) h)

  pub copies_entry : {observed : Bool} (spot : Spot) (plan : List PlanEntry) (i : ℕ) (e : PlanEntry) {a b : DirAt} → i < length plan → e ≡ get_or plan i e → OnlyAsks observed (either (builds_at spot) (reads_content stored e.content)) a b
      → OnlyAsks observed (either (builds_at spot) (reads_contents stored plan)) a b
  copies_entry spot plan i e within is w =
      worked_wider
      (λ r h. or_map (builds_at spot r) (reads_content stored e.content r) (reads_contents stored plan r)
      (λ k. reads_among r plan i e within (subst (λ (x : PlanEntry). reads_content stored x.content r ≡ true) is k)) h) w
