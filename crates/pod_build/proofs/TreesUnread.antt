-- No image's listing is read while a pod is made.
use Rattle.std.proofs.Common.{◌≡◌, inl, ℕ, Bool, true, false, ◌||◌, List, [], refl}
use Rattle.ac_types.specs.declared.image_ref.ImageRef.{ImageRef}
use Rattle.dir_model.specs.declared.area.Area.{Area}
use Rattle.dir_model.specs.declared.pod.PodId.{PodId}
use Rattle.dir_model.specs.declared.request.Request.{Request}
use Rattle.dir_model.specs.declared.request.Request.TheVariants.{ReadIn, Close}
use Rattle.dir_model.specs.declared.request.Reply.TheVariants.{Done}
use Rattle.dir_model.specs.declared.spot.Handle.{Handle}
use Rattle.dir_model.specs.declared.spot.Mode.{Mode}
use Rattle.dir_model.specs.declared.spot.Spot.{Spot}
use Rattle.dir_model.specs.Local.{Local}
use Rattle.dir_model.proofs.Chains.{extends_wider, nothing_yet, and_call}
use Rattle.dir_trait.specs.DirCalls.{DirAt, DirCall, ExtendsBy}
use Rattle.dir_trait.specs.Effects.{OnlyAsks, LeavesOpen}
use Rattle.dir_files.specs.AreaLocks.{is_taking_area, closes}
use Rattle.folder_building.specs.declared.plan.PlanEntry.{PlanEntry}
use Rattle.folder_building.specs.Sources.{in_images}
use Rattle.folder_building.specs.Stored.{reads_contents}
use Rattle.folder_building.specs.Work.{builds_at, either}
use Rattle.image_reading.specs.Trees.{reads_trees_of, ReadsNoTrees}
use Rattle.image_reading.proofs.Trees.{trees_none, trees_more}
use Rattle.pod_manifest.specs.Wishes.{Wishes}
use Rattle.pod_plan.specs.PickedTrees.{copies_no_tree, ReadsAtMostPicked}
use Rattle.pod_plan.proofs.NoTrees.{contents_read}
use Rattle.pod_build.specs.MakingRequests.{begins_pod, hands_pod}
use Rattle.pod_build.specs.PickedReads.{ReadsPickedAlone}

-- requests of which none reads a listing
abbrev ReadNoTree : (Request → Bool) → Type 0
ReadNoTree asks = (r : Request) → asks r ≡ true → reads_trees_of [] r ≡ true

pub unread : {observed : Bool} {asks : Request → Bool} {a b : DirAt} → ReadNoTree asks → b.process ≡ a.process → (observed ≡ true → ExtendsBy asks a b) → ReadsNoTrees observed a b
unread none same extends = record { same = same; extends = λ t. extends_wider none (extends t) }

begins_none : (draw : PodId) → ReadNoTree (begins_pod draw)
begins_none draw (ReadIn inner at room) is = cc
begins_none draw request is = refl

hands_none : (draw : PodId) (to : Area) → ReadNoTree (hands_pod draw to)
hands_none draw to (ReadIn inner at room) is = cc
hands_none draw to request is = refl

builds_none : (spot : Spot) → ReadNoTree (builds_at spot)
builds_none spot (ReadIn inner at room) is = cc
builds_none spot request is = refl

takes_none : (area : Area) (mode : Mode) → ReadNoTree (is_taking_area area mode)
takes_none area mode (ReadIn inner at room) is = cc
takes_none area mode request is = refl

closes_none : (handle : Handle) → ReadNoTree (closes handle)
closes_none handle (ReadIn inner at room) is = cc
closes_none handle request is = refl

fills_none : (spot : Spot) (plan : List PlanEntry) → copies_no_tree plan ≡ true → ReadNoTree (either (builds_at spot) (reads_contents in_images plan))
fills_none spot plan free r is = by (builds_at spot r) refl is
  where
    by : (b : Bool) → builds_at spot r ≡ b → (b || reads_contents in_images plan r) ≡ true → reads_trees_of [] r ≡ true
    by true built h = builds_none spot r built
    by false built h = contents_read plan free r h

-- in embryo, while the pod is filled, and as it is handed over
pub begun_unread : {observed : Bool} {local : Local} {a b : DirAt} (draw : PodId) → LeavesOpen observed (begins_pod draw) local a b → ReadsNoTrees observed a b
begun_unread draw w = unread (begins_none draw) w.same w.extends

pub filled_unread : {observed : Bool} {a b : DirAt} (spot : Spot) (plan : List PlanEntry) → copies_no_tree plan ≡ true → OnlyAsks observed (either (builds_at spot) (reads_contents in_images plan)) a b → ReadsNoTrees observed a b
filled_unread spot plan free w = unread (fills_none spot plan free) w.same w.extends

pub handed_unread : {observed : Bool} {a b : DirAt} (draw : PodId) (to : Area) → OnlyAsks observed (hands_pod draw to) a b → ReadsNoTrees observed a b
handed_unread draw to w = unread (hands_none draw to) w.same w.extends

pub closed_unread : {observed : Bool} {a b : DirAt} {handle : Handle} → DirCall observed a (Close handle) Done b → ReadsNoTrees observed a b
closed_unread c = record { same = c.same; extends = λ t. and_call nothing_yet refl refl (c.step t) }

-- the lock of an area
pub locked_unread : {observed : Bool} {a b : DirAt} (area : Area) (mode : Mode) → b.process ≡ a.process → (observed ≡ true → ExtendsBy (is_taking_area area mode) a b) → ReadsNoTrees observed a b
locked_unread area mode same extends = unread (takes_none area mode) same extends

pub unlocked_unread : {observed : Bool} {a b : DirAt} (handle : Handle) → b.process ≡ a.process → (observed ≡ true → ExtendsBy (closes handle) a b) → ReadsNoTrees observed a b
unlocked_unread handle same extends = unread (closes_none handle) same extends

-- nothing else was done, or it was a part of the time
module _ {observed : Bool} {refs : List ImageRef} {options : Wishes} where
  pub picked_alone : {a b c : DirAt} → ReadsAtMostPicked observed refs options a b → ReadsNoTrees observed b c → ReadsPickedAlone observed refs options a c
  picked_alone {a} {b} picked later = record { start = a; end = b; before = trees_none; picked = picked; after = later }

  pub picked_within : {a b c d : DirAt} → ReadsNoTrees observed a b → ReadsPickedAlone observed refs options b c → ReadsNoTrees observed c d → ReadsPickedAlone observed refs options a d
  picked_within before p later = record { start = p.start; end = p.end; before = trees_more before p.before; picked = p.picked; after = trees_more p.after later }

  pub none_picked : {a b : DirAt} → ReadsNoTrees observed a b → ReadsPickedAlone observed refs options a b
  none_picked {a} {b} none = record { start = a; end = b; before = trees_none; picked = inl none; after = trees_none }
