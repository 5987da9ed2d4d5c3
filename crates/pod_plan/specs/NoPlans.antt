-- Why there is no plan of a pod.
use Rattle.std.specs.Prelude.{◌≡◌, ◌⊎◌, Bool, true, List}
use Rattle.ac_types.specs.declared.image_ref.ImageRef.{ImageRef}
use Rattle.dep_match.specs.declared.stored.Stored.{Stored}
use Rattle.dir_trait.specs.DirCalls.{DirAt}
use Rattle.image_reading.specs.Store.{ReadsStore}
use Rattle.pod_manifest.specs.Wishes.{Wishes}
use Rattle.pod_plan.specs.declared.choice.Choice.{Choice}
use Rattle.pod_plan.specs.Choices.{IsChoice}
use Rattle.pod_plan.specs.declared.plan_error.PlanError.{PlanError}
use Rattle.pod_plan.specs.declared.plan_error.PlanError.TheVariants.{Damaged, RenderError, ListingError, DirFault, NoMemory}
use Rattle.pod_plan.specs.PlanRefusals.{ReadsLackingPart, IsNoChoice}
use Rattle.pod_plan.specs.RootRefusals.{IsRootsRefusal}

-- the references make a pod of the images, and one of its roots can't be made
pub record LacksImageRoot (observed : Bool) (images : List Stored) (refs : List ImageRef) (options : Wishes) (error : PlanError) (old new : DirAt) : Type 0 where
  pub choice : Choice
  pub chosen : IsChoice images refs options choice
  pub lacks : IsRootsRefusal observed images choice.trees error old new

-- the references make no pod of these images, or one of its roots can't be made; or the directory failed, or memory ran out
abbrev pub IsUnplanned : Bool → List Stored → List ImageRef → Wishes → PlanError → DirAt → DirAt → Type 0
IsUnplanned observed images refs options (Damaged path) old new = LacksImageRoot observed images refs options (Damaged path) old new
IsUnplanned observed images refs options (RenderError error) old new = LacksImageRoot observed images refs options (RenderError error) old new
IsUnplanned observed images refs options (ListingError error) old new = LacksImageRoot observed images refs options (ListingError error) old new
IsUnplanned observed images refs options DirFault old new = Unit {0}
IsUnplanned observed images refs options NoMemory old new = Unit {0}
IsUnplanned observed images refs options error old new = IsNoChoice images refs options error

-- the images of the store were read, and the references have no plan for this reason
pub record HasNoPlan (observed : Bool) (refs : List ImageRef) (options : Wishes) (error : PlanError) (old new : DirAt) : Type 0 where
  pub images : List Stored
  pub listed : observed ≡ true → ReadsStore images old new
  pub none : IsUnplanned observed images refs options error old new

-- a file of the store is damaged; or the store was read, and the references have no plan; or the directory failed or memory
-- ran out
abbrev pub IsNoPlan : Bool → List ImageRef → Wishes → DirAt → DirAt → PlanError → Type 0
IsNoPlan observed refs options old new (Damaged path) = observed ≡ true → ReadsLackingPart path old new ⊎ HasNoPlan observed refs options (Damaged path) old new
IsNoPlan observed refs options old new DirFault = Unit {0}
IsNoPlan observed refs options old new NoMemory = Unit {0}
IsNoPlan observed refs options old new error = HasNoPlan observed refs options error old new
