-- What a sweep of the store did that ended early.
use Rattle.std.specs.Prelude.{◌≡◌, ◌⊎◌, ℕ, true, List, ◌∷◌, ◌++◌}
use Rattle.std.specs.List.{AllByRecursion}
use Rattle.dir_model.specs.declared.area.Area.{Area}
use Rattle.dir_model.specs.declared.event.Event.{Event}
use Rattle.dir_model.specs.declared.request.Reply.TheVariants.{Done}
use Rattle.dir_model.specs.declared.spot.Mode.TheVariants.{Exclusive}
use Rattle.dir_model.specs.Calls.{Extends}
use Rattle.dir_model.specs.State.{DirState}
use Rattle.dir_trait.specs.DirCalls.{DirAt}
use Rattle.dir_files.specs.Listed.{ShowsArea}
use Rattle.dir_files.specs.AreaLocks.{is_taking_area}
use Rattle.image_removal.specs.declared.pass.Pass.{Pass}
use Rattle.image_removal.specs.declared.pass.Pass.TheVariants.{PutAway, Delete}
use Rattle.image_removal.specs.declared.pass.SweepLine.{SweepLine}
use Rattle.image_removal.specs.Requests.{lists_store_area}
use Rattle.image_removal.specs.Passes.{area_of_pass, pass_request_of, deals_with_folder, is_uuid, uuids, deals_with_folders}
use Rattle.image_removal.specs.Calls.{WasCalled}
use Rattle.image_removal.specs.Sweeps.{UnderLock, PassedOverStore, BusyNow}

-- each uuid of these was dealt with by its own request, which was answered Ok, and nothing else was asked for
pub record DealtWith (pass : Pass) (names : List (List ℕ)) (me : ℕ) (old new : List Event) : Type 0 where
  pub only : Extends (deals_with_folders pass names) me old new
  pub each : AllByRecursion (λ name. WasCalled (pass_request_of pass name) Done me old new) (uuids names)

-- it ended in the turn of this folder: nothing was asked for but what deals with it
pub record EndsAt (pass : Pass) (name : List ℕ) (me : ℕ) (old new : List Event) : Type 0 where
  pub uuid : is_uuid name ≡ true
  pub turn : Extends (deals_with_folder pass name) me old new

-- of the names that were listed, some folders were dealt with whole, and it ended in the turn of the next
pub record EndsAmongFolders (pass : Pass) (names : List (List ℕ)) (me : ℕ) (old new : List Event) : Type 0 where
  pub earlier : List (List ℕ)
  pub name : List ℕ
  pub later : List (List ℕ)
  pub names_are : names ≡ earlier ++ name ∷ later
  pub from : List Event
  pub dealt : DealtWith pass earlier me old from
  pub ends : EndsAt pass name me from new

-- after the area was listed
pub record EndsStoreShown (pass : Pass) (me : ℕ) (old new : List Event) : Type 0 where
  pub names : List (List ℕ)
  pub listed : List Event
  pub only_lists : Extends (lists_store_area (area_of_pass pass)) me old listed
  pub shows : ShowsArea me old listed (area_of_pass pass) names
  pub ends : EndsAmongFolders pass names me listed new

-- or in the listing
abbrev pub EndsStoreListing : Pass → ℕ → List Event → List Event → Type 0
EndsStoreListing pass me old new = EndsStoreShown pass me old new ⊎ Extends (lists_store_area (area_of_pass pass)) me old new

-- a pass that ended early: so under the area's lock, or when it asked for that lock
abbrev pub EndsStorePass : Pass → ℕ → List Event → List Event → Type 0
EndsStorePass pass me old new = UnderLock (area_of_pass pass) (EndsStoreListing pass) me old new ⊎ Extends (is_taking_area (area_of_pass pass) Exclusive) me old new

-- the first pass was done whole, and the second one ended early
pub record EndsSecond (Busy : Area → DirState → Type 0) (me : ℕ) (old new : List Event) : Type 0 where
  pub between : List Event
  pub moved : List SweepLine
  pub puts_away : PassedOverStore Busy PutAway moved me old between
  pub ends : EndsStorePass Delete me between new

-- a sweep that ended early: the pass that failed is the last one
abbrev pub EndsImageSweep : (Area → DirState → Type 0) → ℕ → List Event → List Event → Type 0
EndsImageSweep Busy me old new = EndsStorePass PutAway me old new ⊎ EndsSecond Busy me old new

-- between two moments
abbrev pub EndsAtBetween : Pass → List ℕ → DirAt → DirAt → Type 0
EndsAtBetween pass name old new = EndsAt pass name old.process old.trace new.trace

abbrev pub EndsAmongFoldersBetween : Pass → List (List ℕ) → DirAt → DirAt → Type 0
EndsAmongFoldersBetween pass names old new = EndsAmongFolders pass names old.process old.trace new.trace

abbrev pub EndsStoreListingBetween : Pass → DirAt → DirAt → Type 0
EndsStoreListingBetween pass old new = EndsStoreListing pass old.process old.trace new.trace

abbrev pub EndsStorePassBetween : Pass → DirAt → DirAt → Type 0
EndsStorePassBetween pass old new = EndsStorePass pass old.process old.trace new.trace

abbrev pub EndsImageSweepBetween : DirAt → DirAt → Type 0
EndsImageSweepBetween old new = EndsImageSweep BusyNow old.process old.trace new.trace
