-- What `prepare` comes to, and leaves, where nobody else steps.
use Rattle.std.specs.Prelude.{◌≡◌, ℕ, Bool, ◌||◌, List, Ok, Err, Some}
use Rattle.dir_model.specs.declared.area.Area.TheVariants.{Embryo, Images, Prepare, Prepared}
use Rattle.dir_model.specs.declared.intent.Draw.{Draw}
use Rattle.dir_model.specs.declared.pod.PodId.{PodId}
use Rattle.dir_model.specs.declared.spot.Mode.TheVariants.{Shared}
use Rattle.dir_model.specs.declared.spot.Spot.{Spot}
use Rattle.ac_types.specs.declared.image_ref.ImageRef.{ImageRef}
use Rattle.dir_model.specs.declared.event.Event.{Event}
use Rattle.dir_trait.specs.State.{DirState, folder_at, spot_eq}
use Rattle.folder_contents.specs.Entries.{entries_in}
use Rattle.dir_trait.specs.Trace.{state_after}
use Rattle.dir_files.specs.AreaLocks.{IsBusyElsewhere, IsFreeElsewhere}
use Rattle.lifecycle.specs.Executions.{IsConforming}
use Rattle.dir_model.specs.Spots.{pod_spot}
use Rattle.dir_trait.specs.DirCalls.{DirAt}
use Rattle.command_outcomes.specs.declared.refusal.Refusal.TheVariants.{Busy, DirFault, Stray, NoMemory}
use Rattle.command_outcomes.specs.Moments.{CommandOutcome}
use Rattle.pod_build.specs.Preparations.{IsPrepared}
use Rattle.pod_manifest.specs.Wishes.{Wishes}
use Rattle.standing_images.specs.Images.{AreStore}
use Rattle.commands.specs.References.{OfReferences}
use Rattle.commands.specs.Prepare.{pod_line, RefusesPod}
use Rattle.commands.specs.PrepareTable.{NothingRefuses, RefusesByState}
use Rattle.commands.specs.Strays.{NeverComes}
use Rattle.commands.specs.Wants.{Wants}

-- a pod that was prepared so stands there still, with what its maker made
pub record StandsPrepared {refs : List ImageRef} {wishes : Wishes} {me : ℕ} {draw : PodId} {old new : List Event} (x : IsPrepared refs wishes me draw Prepared old new) (s : DirState) : Type 0 where
  pub stands : folder_at s.namespace (pod_spot draw Prepared) ≡ Some x.folder
  pub holds : entries_in x.folder s.entries ≡ x.faithful.built.making.entries

-- of some references that its words are, the pod was prepared faithfully, of the images that are the store of the state before, and stands
-- in the end as it was made; and nothing refused them
abbrev pub HasPreparedQuietly : Wants → PodId → DirAt → DirAt → Type 0
HasPreparedQuietly wants draw old new =
    OfReferences wants.images (λ refs. (x : IsPrepared refs wants.wishes old.process draw Prepared old.trace new.trace) × StandsPrepared x (state_after new.trace)
    × AreStore x.faithful.images (state_after old.trace) × NothingRefuses old.process draw refs wants.wishes (state_after old.trace))

-- by its own reads, and by the state before: by a lock that another process holds, or by the store, where nobody else holds that of
-- images exclusively
abbrev pub PreparesQuietly : Bool → Wants → ℕ → Draw → DirAt → DirAt → CommandOutcome → Type 0
PreparesQuietly observed wants now draw old new (Ok text) =
    (text ≡ pod_line draw.uuid) × IsFreeElsewhere old.process Images Shared (state_after old.trace) × (IsConforming new.trace → HasPreparedQuietly wants draw.uuid old new)
PreparesQuietly observed wants now draw old new (Err (Busy area)) =
    RefusesPod observed wants now draw old new (Busy area) × IsBusyElsewhere old.process area Shared (state_after old.trace)
    × RefusesByState wants draw.uuid (Busy area) old.process (state_after old.trace)
PreparesQuietly observed wants now draw old new (Err NoMemory) = ⊥
PreparesQuietly observed wants now draw old new (Err DirFault) = ⊥
PreparesQuietly observed wants now draw old new (Err Stray) = RefusesPod observed wants now draw old new Stray × NeverComes new.trace
PreparesQuietly observed wants now draw old new (Err refusal) = RefusesPod observed wants now draw old new refusal × RefusesByState wants draw.uuid refusal old.process (state_after old.trace)

-- where it makes and moves folders
abbrev pub is_making_spot : PodId → Spot → Bool
is_making_spot draw place = spot_eq place (pod_spot draw Embryo) || (spot_eq place (pod_spot draw Prepare) || spot_eq place (pod_spot draw Prepared))
