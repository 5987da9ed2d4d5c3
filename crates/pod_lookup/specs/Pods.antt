-- The pods that listings of the six areas show, and those that stand in them.
use Rattle.std.specs.Prelude.{◌≡◌, ℕ, Bool, true, false, List, [], ◌∷◌, map, None, is_some}
use Rattle.std.specs.List.{filter_map, flat_map}
use Rattle.std.specs.Ordering.{nat_cmp}
use Rattle.std.specs.Cmp.Lexicographic.{slice_cmp}
use Rattle.std.specs.BTreeSet.{insert_key}
use Rattle.dir_model.specs.declared.event.Event.{Event}
use Rattle.dir_model.specs.declared.pod.PodId.{PodId}
use Rattle.dir_model.specs.declared.spot.Spot.{Spot}
use Rattle.dir_model.specs.Pods.{pod_text, pod_of_text}
use Rattle.dir_model.specs.State.{Namespace, stands}
use Rattle.dir_model.specs.Trace.{state_after}
use Rattle.dir_model.specs.Trees.{names_in}
use Rattle.dir_model.specs.Listings.{has_name}
use Rattle.dir_trait.specs.DirCalls.{DirAt}
use Rattle.lifecycle.specs.Readings.{WasPhase}
use Rattle.phase_read.specs.Read.{stages}
use Rattle.pod_lookup.specs.AreaListings.{AreListed}
use Rattle.pod_lookup.specs.Moments.{AtEachMoment}

-- the uuids' texts
abbrev pub pod_names : List PodId → List (List ℕ)
pod_names pods = map (λ (pod : PodId). pod_text pod.bytes) pods

-- the name is the text of a pod's uuid
abbrev pub is_pod_name : List ℕ → Bool
is_pod_name name = is_some (pod_of_text name)

-- names in byte order, each once
abbrev pub in_order : List (List ℕ) → List (List ℕ)
in_order [] = []
in_order (name ∷ names) = insert_key (slice_cmp nat_cmp) (in_order names) name

-- the pods of these names, each once, and their uuids rise; a name that isn't a uuid's text is passed over
abbrev pub pods_named : List (List ℕ) → List PodId
pods_named names = filter_map pod_of_text (in_order names)

-- the six areas were listed in lifecycle order, and these are the pods that they showed
pub record FindsPods (me : ℕ) (old new : List Event) (pods : List PodId) : Type 0 where
  pub names : List (List ℕ)
  pub listed : AreListed me old new stages names
  pub are : pods ≡ pods_named names

abbrev pub FindsPodsBetween : DirAt → DirAt → List PodId → Type 0
FindsPodsBetween old new pods = FindsPods old.process old.trace new.trace pods

-- a pod that isn't among them didn't exist at an own step
abbrev pub MissesGone : DirAt → DirAt → List PodId → Type 0
MissesGone old new pods =
    (name : List ℕ) → is_pod_name name ≡ true → has_name (pod_names pods) name ≡ false → WasPhase old.process old.trace new.trace name None

-- the pods that stand in some area
abbrev pub pods_standing : Namespace → List PodId
pods_standing n = pods_named (flat_map (λ area. names_in area n.folders) stages)

-- a folder stands exactly where one stood before
abbrev pub StandsAs : Namespace → Namespace → Type 0
StandsAs old new = (spot : Spot) → stands new spot ≡ stands old spot

-- between the two traces no folder comes to a location or leaves one
abbrev pub NoFolderMoves : List Event → List Event → Type 0
NoFolderMoves old new = AtEachMoment old new (λ trace. StandsAs (state_after old).namespace (state_after trace).namespace)

-- where no folder comes or goes meanwhile, they are those that stood before
abbrev pub FindsStanding : DirAt → DirAt → List PodId → Type 0
FindsStanding old new pods = NoFolderMoves old.trace new.trace → pods ≡ pods_standing (state_after old.trace).namespace
