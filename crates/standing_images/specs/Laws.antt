-- The laws of images that stand together.
use Rattle.std.specs.Prelude.{◌≡◌, ℕ, Bool, true, false, not, ◌&&◌, List, map}
use Rattle.dep_match.specs.declared.stored.Stored.{Stored}
use Rattle.dep_match.specs.Copies.{stored_data}
use Rattle.dir_model.specs.declared.event.Event.{Event}
use Rattle.dir_model.specs.declared.request.Request.{Request}
use Rattle.dir_model.specs.declared.request.Request.TheVariants.{AppendIn}
use Rattle.dir_model.specs.Quiet.{Quiet}
use Rattle.dir_model.specs.Trace.{changes_names, state_after}
use Rattle.dir_rules.specs.declared.seen.Seen.{Seen}
use Rattle.dir_trait.specs.DirCalls.{DirAt}
use Rattle.gate_reading.specs.Gate.{GoesOnUnderLock}
use Rattle.image_reading.specs.Looks.{reads_images}
use Rattle.image_reading.specs.declared.error.StoreError.TheVariants.{Damaged}
use Rattle.image_reading.specs.Store.{ReadsStore, LacksListed}
use Rattle.standing_images.specs.Damage.{IsFirstDamage}
use Rattle.standing_images.specs.Images.{AreStore, StoodTogether, ImagesStay}

-- while a process has the gate, and asks for reads and listings of images alone, what it reads of the store stood there together
abbrev pub StoresStand : List Event → Type 0
StoresStand trace =
    (s : Seen) (old new : DirAt) (images : List Stored) → new.trace ≡ trace → GoesOnUnderLock reads_images s old new →
    ReadsStore images old new → StoodTogether images old.process old.trace new.trace

-- where nobody else steps meanwhile, it is the store as the state before had it
abbrev pub QuietStores : List Event → Type 0
QuietStores trace =
    (s : Seen) (old new : DirAt) (images : List Stored) → new.trace ≡ trace → GoesOnUnderLock reads_images s old new →
    ReadsStore images old new → Quiet old.process old.trace new.trace → AreStore images (state_after old.trace)

-- after a trace one list of images is the store, by what is seen of them
abbrev pub OneStore : List Event → Type 0
OneStore trace =
    (xs ys : List Stored) → AreStore xs (state_after trace) → AreStore ys (state_after trace) → map stored_data xs ≡ map stored_data ys

-- while the images stay as they are, the store that is read is that of the state before
abbrev pub StoresBefore : List Event → Type 0
StoresBefore trace =
    (old new : DirAt) (images : List Stored) → new.trace ≡ trace → ImagesStay old.trace new.trace → ReadsStore images old new →
    AreStore images (state_after old.trace)

-- and so is the first damage
abbrev pub DamagesBefore : List Event → Type 0
DamagesBefore trace =
    (old new : DirAt) (path : List ℕ) → new.trace ≡ trace → ImagesStay old.trace new.trace → LacksListed (Damaged path) old new →
    IsFirstDamage path (state_after old.trace)

-- after a trace one path is of the first damage
abbrev pub OneDamage : List Event → Type 0
OneDamage trace = (p q : List ℕ) → IsFirstDamage p (state_after trace) → IsFirstDamage q (state_after trace) → p ≡ q

-- and where there is one, no list of images is the store
abbrev pub DamagedIsNone : List Event → Type 0
DamagedIsNone trace = (path : List ℕ) (images : List Stored) → IsFirstDamage path (state_after trace) → AreStore images (state_after trace) → ⊥

abbrev pub is_append : Request → Bool
is_append (AppendIn inner piece) = true
is_append _ = false

-- the request changes no place and nothing that stands in a folder
abbrev pub leaves_store : Request → Bool
leaves_store request = not (changes_names request) && not (is_append request)
