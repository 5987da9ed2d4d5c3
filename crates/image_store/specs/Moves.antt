-- Which folders an import moved into images.
use Rattle.std.specs.Prelude.{◌≡◌, ℕ, Bool, true, false, not, ◌||◌, Result, Ok, Err, List, ◌∷◌, ◌++◌}
use Rattle.std.specs.List.{AllByRecursion}
use Rattle.ac_types.specs.declared.store_key.StoreKey.{StoreKey}
use Rattle.dir_model.specs.declared.event.Event.{Event}
use Rattle.dir_model.specs.declared.spot.Spot.{Spot}
use Rattle.dir_model.specs.declared.request.Request.TheVariants.{MoveFolder}
use Rattle.dir_model.specs.declared.request.Reply.TheVariants.{Done}
use Rattle.dir_model.specs.Calls.{event, is_foreign}
use Rattle.dir_trait.specs.DirCalls.{DirAt}
use Rattle.image_reading.specs.declared.error.StoreError.{StoreError}
use Rattle.image_reading.specs.Places.{image_spot}
use Rattle.image_store.specs.declared.importing.Imported.{Imported}
use Rattle.image_store.specs.Requests.{brings_image, is_close}

-- in this stretch the process moved nothing into images
abbrev pub BringsNone : ℕ → List Event → Type 0
BringsNone me more = AllByRecursion (λ e. (is_foreign me e || not (brings_image e.request e.reply)) ≡ true) more

-- between these two traces it moved nothing into images
pub record MovedNoImage (me : ℕ) (old new : List Event) : Type 0 where
  pub more : List Event
  pub grown : new ≡ old ++ more
  pub none : BringsNone me more

-- in this stretch it only gave locks back
abbrev pub OnlyCloses : ℕ → List Event → Type 0
OnlyCloses me more = AllByRecursion (λ e. (is_foreign me e || is_close e.request) ≡ true) more

-- it moved this folder there, nothing before that, and after that it only gave locks back
pub record MovedOnce (me : ℕ) (from to : Spot) (old new : List Event) : Type 0 where
  pub meanwhile : List Event
  pub later : List Event
  pub moved : new ≡ (old ++ meanwhile) ++ event me (MoveFolder from to) Done ∷ later
  pub none : BringsNone me meanwhile
  pub last : OnlyCloses me later

-- with the answer that the image wasn't there it moved its folder into images, and else nothing
abbrev pub Moves : Spot → StoreKey → Result Bool StoreError → DirAt → DirAt → Type 0
Moves from key (Ok false) old new = MovedOnce old.process from (image_spot key) old.trace new.trace
Moves from key (Ok true) old new = MovedNoImage old.process old.trace new.trace
Moves from key (Err error) old new = MovedNoImage old.process old.trace new.trace

-- so it is in the end
abbrev pub MovesAtEnd : Spot → Result Imported StoreError → DirAt → DirAt → Type 0
MovesAtEnd from (Ok done) old new = Moves from done.key (Ok done.there) old new
MovesAtEnd from (Err error) old new = MovedNoImage old.process old.trace new.trace
