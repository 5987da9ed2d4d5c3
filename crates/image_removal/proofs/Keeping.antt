-- Calls that remove no folder.
use Rattle.std.proofs.Common.{◌≡◌, true, not, List, refl, ℕ}
use Rattle.dir_model.specs.declared.area.Area.{Area}
use Rattle.dir_model.specs.declared.event.Event.{Event}
use Rattle.dir_model.specs.declared.request.Request.{Request}
use Rattle.dir_model.specs.declared.request.Request.TheVariants.{RemoveFolder}
use Rattle.dir_model.specs.declared.request.Reply.{Reply}
use Rattle.dir_model.specs.declared.spot.Handle.{Handle}
use Rattle.dir_model.specs.declared.spot.Mode.{Mode}
use Rattle.dir_model.specs.declared.spot.Spot.{Spot}
use Rattle.dir_model.specs.Calls.{Extends}
use Rattle.dir_files.specs.AreaLocks.{is_taking_area, closes}
use Rattle.folder_removal.specs.Removal.{removes_folder, KeptFolders}
use Rattle.folder_removal.proofs.Keeping.{kept_by}
use Rattle.image_removal.specs.Requests.{looks_at_folder, moves_folder}

takes_keep : (area : Area) (mode : Mode) (r : Request) (y : Reply) → is_taking_area area mode r ≡ true → not (removes_folder r y) ≡ true
takes_keep area mode (RemoveFolder spot) y is = cc
takes_keep area mode r y is = refl

closes_keep : (h : Handle) (r : Request) (y : Reply) → closes h r ≡ true → not (removes_folder r y) ≡ true
closes_keep h (RemoveFolder spot) y is = cc
closes_keep h r y is = refl

looks_keep : (spot : Spot) (r : Request) (y : Reply) → looks_at_folder spot r ≡ true → not (removes_folder r y) ≡ true
looks_keep spot (RemoveFolder there) y is = cc
looks_keep spot r y is = refl

moves_keep : (from to : Spot) (r : Request) (y : Reply) → moves_folder from to r ≡ true → not (removes_folder r y) ≡ true
moves_keep from to (RemoveFolder spot) y is = cc
moves_keep from to r y is = refl

pub kept_taking : {me : ℕ} {a b : List Event} (area : Area) (mode : Mode) → Extends (is_taking_area area mode) me a b → KeptFolders me a b
kept_taking area mode e = kept_by (takes_keep area mode) e

pub kept_closing : {me : ℕ} {a b : List Event} (h : Handle) → Extends (closes h) me a b → KeptFolders me a b
kept_closing h e = kept_by (closes_keep h) e

pub kept_looking : {me : ℕ} {a b : List Event} (spot : Spot) → Extends (looks_at_folder spot) me a b → KeptFolders me a b
kept_looking spot e = kept_by (looks_keep spot) e

pub kept_moving : {me : ℕ} {a b : List Event} (from to : Spot) → Extends (moves_folder from to) me a b → KeptFolders me a b
kept_moving from to e = kept_by (moves_keep from to) e
