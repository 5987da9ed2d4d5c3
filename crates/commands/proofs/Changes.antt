-- Where each command changes something: the locations whence it moves folders, where it removes some, and in whose folders it writes.
use Rattle.std.proofs.Common.{◌≡◌, ◌⊎◌, inl, inr, ℕ, Bool, true, false, ◌&&◌, ◌||◌, bytes_eq, Option, Some, refl, sym, ap, subst, ◌∙◌}
use Rattle.std.proofs.lemmas.Bool.{or_left}
use Rattle.plain_laws.proofs.Texts.{same_bytes}
use Rattle.plain_laws.proofs.Booleans.{or_nothing}
use Rattle.ac_types.specs.declared.store_key.StoreKey.{StoreKey}
use Rattle.dir_model.specs.declared.area.Area.{Area}
use Rattle.dir_model.specs.declared.area.Area.TheVariants as area
use Rattle.dir_model.specs.declared.pod.PodId.{PodId}
use Rattle.dir_model.specs.declared.request.Request.{Request}
use Rattle.dir_model.specs.declared.request.Request.TheVariants.{AppendIn, MakeDirIn, MakeFileIn, MoveFolder, RemoveDirIn, RemoveFileIn}
use Rattle.dir_model.specs.declared.spot.Spot.{Spot}
use Rattle.dir_model.specs.Areas.{is_stage}
use Rattle.dir_model.specs.Pods.{pod_text}
use Rattle.dir_model.specs.State.{spot_eq}
use Rattle.dir_model.proofs.Lists.{and_left, or_last}
use Rattle.dir_rules.specs.Standing.{is_in}
use Rattle.dir_trait.specs.Replies.{is_look_at}
use Rattle.folder_contents.proofs.Spots.{in_area, one_location}
use Rattle.image_reading.specs.Places.{image_spot}
use Rattle.image_removal.specs.Requests.{away_spot, removes_at, sweeps_store}
use Rattle.image_store.specs.Requests.{building_spot, imports_at}
use Rattle.dir_model.specs.Spots.{pod_spot}
use Rattle.phase_read.specs.Read.{is_pod_spot}
use Rattle.pod_locks.specs.ClaimRequests.{in_prepared, in_run}
use Rattle.pod_gc.specs.Requests.{sweeps as sweeps_pods}
use Rattle.pod_gc.specs.RemovalRequests.{removes}
use Rattle.commands.specs.ImageGc.{is_swept_place}
use Rattle.commands.specs.ImageList.{lists_images}
use Rattle.commands.specs.ImageImport.{is_building_place}
use Rattle.commands.specs.ImageRm.{is_removal_place}
use Rattle.commands.specs.NextState.{is_nowhere}
use Rattle.commands.specs.Prepare.{prepares_pod}
use Rattle.commands.specs.PrepareQuiet.{is_making_spot}
use Rattle.commands.specs.RemovalQuiet.{is_pods_place}
use Rattle.commands.specs.Run.{makes_and_runs}
use Rattle.commands.specs.RunPrepared.{runs_prepared}
use Rattle.commands.proofs.LateTurns.{gc_moves, gc_removes, or_either, rm_moves, rm_removes}
use Rattle.commands.proofs.RemovalQuiet.{ChangesAt, changed_in}

-- the folder that a request names is this one
at_spot : (touched : Spot → Bool) (a b : Spot) → ◌≡◌ {A = Option Spot} (Some a) (Some b) → touched a ≡ true → touched b ≡ true
at_spot touched a b is h = subst (λ (s : Spot). touched s ≡ true) (let e : a ≡ b = cc in e) h

-- a place of the pod
its_place : (pod : PodId) (area : Area) (place : Spot) → is_stage area ≡ true → place ≡ pod_spot pod area → is_pod_spot pod place ≡ true
its_place pod area place stage is = ap (is_pod_spot pod) is ∙ (ap (λ b. b && bytes_eq (pod_text pod.bytes) (pod_text pod.bytes)) stage ∙ same_bytes (pod_text pod.bytes))

-- `status` and `image list` change nothing
pub looks_change : (test : Spot → Bool) → ChangesAt is_nowhere (is_look_at test)
looks_change test = record { moves = λ from to h. cc; removes = λ spot h. cc; fills = filled }
  where
    filled : (request : Request) (spot : Spot) → changed_in request ≡ Some spot → is_look_at test request ≡ true → is_nowhere spot ≡ true
    filled (MakeDirIn i) spot is h = cc
    filled (MakeFileIn i) spot is h = cc
    filled (AppendIn i piece) spot is h = cc
    filled (RemoveFileIn i) spot is h = cc
    filled (RemoveDirIn i) spot is h = cc
    filled request spot is h = cc

pub list_changes : ChangesAt is_nowhere lists_images
list_changes = record { moves = λ from to h. cc; removes = λ spot h. cc; fills = filled }
  where
    filled : (request : Request) (spot : Spot) → changed_in request ≡ Some spot → lists_images request ≡ true → is_nowhere spot ≡ true
    filled (MakeDirIn i) spot is h = cc
    filled (MakeFileIn i) spot is h = cc
    filled (AppendIn i piece) spot is h = cc
    filled (RemoveFileIn i) spot is h = cc
    filled (RemoveDirIn i) spot is h = cc
    filled request spot is h = cc

-- an import changes its own folder in incoming
pub import_changes : (draw : PodId) → ChangesAt (is_building_place draw) (imports_at (building_spot draw))
import_changes draw = record {
  moves = λ from to h. and_left (spot_eq from (building_spot draw)) (is_in area.Images to.area) (or_nothing _ h);
  removes = λ spot h. cc;
  fills = filled;
}
  where
    filled : (request : Request) (spot : Spot) → changed_in request ≡ Some spot → imports_at (building_spot draw) request ≡ true → is_building_place draw spot ≡ true
    filled (MakeDirIn i) spot is h = at_spot (is_building_place draw) i.spot spot is h
    filled (MakeFileIn i) spot is h = at_spot (is_building_place draw) i.spot spot is h
    filled (AppendIn i piece) spot is h = at_spot (is_building_place draw) i.spot spot is h
    filled (RemoveFileIn i) spot is h = cc
    filled (RemoveDirIn i) spot is h = cc
    filled request spot is h = cc

-- a removal of an image changes its place and its own place in removed, a sweep incoming and removed
pub removal_changes : (key : StoreKey) (draw : PodId) → ChangesAt (is_removal_place key draw) (removes_at key draw)
removal_changes key draw = record {
  moves = λ from to h. or_left (spot_eq from (image_spot key)) (spot_eq from (away_spot draw)) (and_left (spot_eq from (image_spot key)) (spot_eq to (away_spot draw)) (or_nothing _ h));
  removes = λ spot h. or_last (spot_eq spot (image_spot key)) (spot_eq spot (away_spot draw)) h;
  fills = filled;
}
  where
    filled : (request : Request) (spot : Spot) → changed_in request ≡ Some spot → removes_at key draw request ≡ true → is_removal_place key draw spot ≡ true
    filled (MakeDirIn i) spot is h = cc
    filled (MakeFileIn i) spot is h = cc
    filled (AppendIn i piece) spot is h = cc
    filled (RemoveFileIn i) spot is h = at_spot (is_removal_place key draw) i.spot spot is (or_last (spot_eq i.spot (image_spot key)) (spot_eq i.spot (away_spot draw)) h)
    filled (RemoveDirIn i) spot is h = at_spot (is_removal_place key draw) i.spot spot is (or_last (spot_eq i.spot (image_spot key)) (spot_eq i.spot (away_spot draw)) h)
    filled request spot is h = cc

pub sweep_changes : ChangesAt is_swept_place sweeps_store
sweep_changes = record {
  moves = λ from to h. or_left (is_in from.area area.Incoming) (is_in from.area area.Removed) (and_left (is_in from.area area.Incoming) (is_in to.area area.Removed) h);
  removes = λ spot h. or_last (is_in spot.area area.Incoming) (is_in spot.area area.Removed) h;
  fills = filled;
}
  where
    filled : (request : Request) (spot : Spot) → changed_in request ≡ Some spot → sweeps_store request ≡ true → is_swept_place spot ≡ true
    filled (MakeDirIn i) spot is h = cc
    filled (MakeFileIn i) spot is h = cc
    filled (AppendIn i piece) spot is h = cc
    filled (RemoveFileIn i) spot is h = at_spot is_swept_place i.spot spot is (or_last (is_in i.spot.area area.Incoming) (is_in i.spot.area area.Removed) h)
    filled (RemoveDirIn i) spot is h = at_spot is_swept_place i.spot spot is (or_last (is_in i.spot.area area.Incoming) (is_in i.spot.area area.Removed) h)
    filled request spot is h = cc

-- a prepare changes the places of its own pod
pub prepare_changes : (draw : PodId) → ChangesAt (is_making_spot draw) (prepares_pod draw)
prepare_changes draw = record { moves = λ from to h. moved from to h; removes = λ spot h. let clash : false ≡ true = h in cc; fills = filled }
  where
    moved : (from to : Spot) → prepares_pod draw (MoveFolder from to) ≡ true → is_making_spot draw from ≡ true
    moved from to h = by (spot_eq from (pod_spot draw area.Embryo)) (spot_eq to (pod_spot draw area.Prepare)) (spot_eq from (pod_spot draw area.Prepare)) (spot_eq to (pod_spot draw area.Prepared)) (spot_eq from (pod_spot draw area.Prepared)) h
      where
        by : (a b c d e : Bool) → (((a && b) || ((c && d) || false)) || false) ≡ true → (a || (c || e)) ≡ true
        by true b c d e h = refl
        by false b true d e h = refl
        by false b false d e h = cc

    there : (spot place : Spot) → ◌≡◌ {A = Option Spot} (Some spot) (Some place) → ((spot_eq spot (pod_spot draw area.Prepare) || false) || false) ≡ true → is_making_spot draw place ≡ true
    there spot place is h =
        at_spot (is_making_spot draw) spot place is (or_last (spot_eq spot (pod_spot draw area.Embryo)) (spot_eq spot (pod_spot draw area.Prepare) || spot_eq spot (pod_spot draw area.Prepared))
        (or_left (spot_eq spot (pod_spot draw area.Prepare)) (spot_eq spot (pod_spot draw area.Prepared)) (or_nothing _ (or_nothing _ h))))

    filled : (request : Request) (spot : Spot) → changed_in request ≡ Some spot → prepares_pod draw request ≡ true → is_making_spot draw spot ≡ true
    filled (MakeDirIn i) spot is h = there i.spot spot is h
    filled (MakeFileIn i) spot is h = there i.spot spot is h
    filled (AppendIn i piece) spot is h = there i.spot spot is h
    filled (RemoveFileIn i) spot is h = cc
    filled (RemoveDirIn i) spot is h = cc
    filled request spot is h = cc

-- a run of a prepared pod, and of a new one, those of that pod
pub claim_changes : (pod : PodId) → ChangesAt (is_pod_spot pod) (runs_prepared pod)
claim_changes pod = record {
  moves = λ from to h. its_place pod area.Prepared from refl (sym (one_location (in_prepared pod) from (and_left (spot_eq (in_prepared pod) from) (spot_eq (in_run pod) to) (or_nothing _ h))));
  removes = λ spot h. cc;
  fills = filled;
}
  where
    there : (spot place : Spot) → ◌≡◌ {A = Option Spot} (Some spot) (Some place) → spot_eq spot (in_run pod) ≡ true → is_pod_spot pod place ≡ true
    there spot place is h = at_spot (is_pod_spot pod) spot place is (its_place pod area.Run spot refl (one_location spot (in_run pod) h))

    filled : (request : Request) (spot : Spot) → changed_in request ≡ Some spot → runs_prepared pod request ≡ true → is_pod_spot pod spot ≡ true
    filled (MakeDirIn i) spot is h = cc
    filled (MakeFileIn i) spot is h = there i.spot spot is h
    filled (AppendIn i piece) spot is h = there i.spot spot is h
    filled (RemoveFileIn i) spot is h = cc
    filled (RemoveDirIn i) spot is h = cc
    filled request spot is h = cc

pub run_changes : (draw : PodId) → ChangesAt (is_pod_spot draw) (makes_and_runs draw)
run_changes draw = record { moves = λ from to h. moved from to h; removes = λ spot h. cc; fills = filled }
  where
    or_parts : (a b c d : Bool) → (((a && b) || ((c && d) || false)) || false) ≡ true → (a ≡ true) ⊎ (c ≡ true)
    or_parts true b c d h = inl refl
    or_parts false b true d h = inr refl
    or_parts false b false d h = cc

    place : (from : Spot) → (spot_eq from (pod_spot draw area.Embryo) ≡ true) ⊎ (spot_eq from (pod_spot draw area.Prepare) ≡ true) → is_pod_spot draw from ≡ true
    place from (inl x) = its_place draw area.Embryo from refl (one_location from (pod_spot draw area.Embryo) x)
    place from (inr x) = its_place draw area.Prepare from refl (one_location from (pod_spot draw area.Prepare) x)

    moved : (from to : Spot) → makes_and_runs draw (MoveFolder from to) ≡ true → is_pod_spot draw from ≡ true
    moved from to h = place from (or_parts (spot_eq from (pod_spot draw area.Embryo)) (spot_eq to (pod_spot draw area.Prepare)) (spot_eq from (pod_spot draw area.Prepare)) (spot_eq to (pod_spot draw area.Run)) h)

    made : (spot place : Spot) → ◌≡◌ {A = Option Spot} (Some spot) (Some place) → spot_eq spot (pod_spot draw area.Prepare) ≡ true → is_pod_spot draw place ≡ true
    made spot place is h = at_spot (is_pod_spot draw) spot place is (its_place draw area.Prepare spot refl (one_location spot (pod_spot draw area.Prepare) h))

    noted : (spot place : Spot) → ◌≡◌ {A = Option Spot} (Some spot) (Some place) → (spot_eq spot (pod_spot draw area.Prepare) ≡ true) ⊎ (spot_eq spot (in_run draw) ≡ true) → is_pod_spot draw place ≡ true
    noted spot place is (inl x) = made spot place is x
    noted spot place is (inr x) = at_spot (is_pod_spot draw) spot place is (its_place draw area.Run spot refl (one_location spot (in_run draw) x))

    either_of : (a b : Bool) → ((a || false) || b) ≡ true → (a ≡ true) ⊎ (b ≡ true)
    either_of true b h = inl refl
    either_of false b h = inr h

    filled : (request : Request) (spot : Spot) → changed_in request ≡ Some spot → makes_and_runs draw request ≡ true → is_pod_spot draw spot ≡ true
    filled (MakeDirIn i) spot is h = made i.spot spot is (or_nothing _ (or_nothing _ h))
    filled (MakeFileIn i) spot is h = noted i.spot spot is (either_of (spot_eq i.spot (pod_spot draw area.Prepare)) (spot_eq i.spot (in_run draw)) h)
    filled (AppendIn i piece) spot is h = noted i.spot spot is (either_of (spot_eq i.spot (pod_spot draw area.Prepare)) (spot_eq i.spot (in_run draw)) h)
    filled (RemoveFileIn i) spot is h = cc
    filled (RemoveDirIn i) spot is h = cc
    filled request spot is h = cc

-- a removal of a pod its places, a sweep the areas of pods
pub rm_changes : (pod : PodId) (now : ℕ) → ChangesAt (is_pod_spot pod) (removes pod now)
rm_changes pod now = record { moves = rm_moves pod now; removes = rm_removes pod now; fills = filled }
  where
    there : (a : Area) (spot place : Spot) → is_stage a ≡ true → ◌≡◌ {A = Option Spot} (Some spot) (Some place) → spot_eq spot (pod_spot pod a) ≡ true → is_pod_spot pod place ≡ true
    there a spot place stage is h = at_spot (is_pod_spot pod) spot place is (its_place pod a spot stage (one_location spot (pod_spot pod a) h))

    deleted : (spot place : Spot) → ◌≡◌ {A = Option Spot} (Some spot) (Some place) → (spot_eq spot (pod_spot pod area.ExitedGarbage) || spot_eq spot (pod_spot pod area.Garbage)) ≡ true → is_pod_spot pod place ≡ true
    deleted spot place is h = elim (or_either (spot_eq spot (pod_spot pod area.ExitedGarbage)) _ h) [ inl x ↦ there area.ExitedGarbage spot place refl is x | inr x ↦ there area.Garbage spot place refl is x ]

    filled : (request : Request) (spot : Spot) → changed_in request ≡ Some spot → removes pod now request ≡ true → is_pod_spot pod spot ≡ true
    filled (MakeDirIn i) spot is h = cc
    filled (MakeFileIn i) spot is h = at_spot (is_pod_spot pod) i.spot spot is (its_place pod area.Run i.spot refl (sym (one_location (pod_spot pod area.Run) i.spot (and_left (spot_eq (pod_spot pod area.Run) i.spot) _ h))))
    filled (AppendIn i piece) spot is h = cc
    filled (RemoveFileIn i) spot is h = deleted i.spot spot is h
    filled (RemoveDirIn i) spot is h = deleted i.spot spot is h
    filled request spot is h = cc

pub gc_changes : (now : ℕ) → ChangesAt is_pods_place (sweeps_pods now)
gc_changes now = record { moves = gc_moves now; removes = gc_removes now; fills = filled }
  where
    there : (a : Area) (spot place : Spot) → is_stage a ≡ true → ◌≡◌ {A = Option Spot} (Some spot) (Some place) → spot.area ≡ a → is_pods_place place ≡ true
    there a spot place stage is same = at_spot is_pods_place spot place is (ap is_stage same ∙ stage)

    deleted : (spot place : Spot) → ◌≡◌ {A = Option Spot} (Some spot) (Some place) → (is_in spot.area area.ExitedGarbage || is_in spot.area area.Garbage) ≡ true → is_pods_place place ≡ true
    deleted spot place is h =
        elim (or_either (is_in spot.area area.ExitedGarbage) _ h) [ inl x ↦ there area.ExitedGarbage spot place refl is (in_area spot.area area.ExitedGarbage x) | inr x ↦ there area.Garbage spot place refl is (in_area spot.area area.Garbage x) ]

    filled : (request : Request) (spot : Spot) → changed_in request ≡ Some spot → sweeps_pods now request ≡ true → is_pods_place spot ≡ true
    filled (MakeDirIn i) spot is h = cc
    filled (MakeFileIn i) spot is h = there area.Run i.spot spot refl is (sym (in_area area.Run i.spot.area (and_left (is_in area.Run i.spot.area) _ h)))
    filled (AppendIn i piece) spot is h = cc
    filled (RemoveFileIn i) spot is h = deleted i.spot spot is h
    filled (RemoveDirIn i) spot is h = deleted i.spot spot is h
    filled request spot is h = cc
