-- Who holds the lock of the area may read there.
use Rattle.std.proofs.Common.{◌≡◌, Bool, true, false, ◌&&◌, ◌||◌, Option, Some, None, is_some, List, [], ◌∷◌, refl, ◌∙◌}
use Rattle.std.specs.List.{list_any}
use Rattle.ac_types.specs.declared.store_key.StoreKey.{StoreKey}
use Rattle.dir_model.specs.declared.area.Area.TheVariants.{Images}
use Rattle.dir_model.specs.declared.spot.Handle.{Handle}
use Rattle.dir_model.specs.declared.spot.Mode.{Mode}
use Rattle.dir_model.specs.declared.spot.Mode.TheVariants.{Shared, Exclusive}
use Rattle.dir_model.specs.Locks.{is_exclusive}
use Rattle.dir_model.specs.Local.{is_handle_of}
use Rattle.dir_model.proofs.Lists.{and_right}
use Rattle.dir_rules.specs.declared.standing.Held.{Held}
use Rattle.dir_rules.specs.declared.seen.Seen.{Seen}
use Rattle.dir_rules.specs.Standing.{is_gate_of, is_shared, is_gate_shared, is_gate_exclusive}
use Rattle.dir_trait.specs.DirCalls.{DirAt}
use Rattle.dir_trait.specs.Knowledge.{holding_of_held, Knows}
use Rattle.dir_files.specs.Reads.{may_read}
use Rattle.image_reading.specs.Looks.{OnlyReadsImage, OnlyReadsImages, is_images_lock, HoldsImages, KnowsStill, KnowsStillNamed}

some_mode : (gate : Bool) (lock : Option Mode) → (gate && is_some lock) ≡ true → ((gate && is_shared lock) || (gate && is_exclusive lock)) ≡ true
some_mode true (Some Shared) h = refl
some_mode true (Some Exclusive) h = refl
some_mode true None h = cc
some_mode false lock h = cc

weave : (a b c d : Bool) → (a || b) ≡ true → ((a || c) || (b || d)) ≡ true
weave true b c d h = refl
weave false true true d h = refl
weave false true false d h = refl
weave false false c d h = cc

later : (a b c d : Bool) → (c || d) ≡ true → ((a || c) || (b || d)) ≡ true
later true b c d h = refl
later false b true d h = refl
later false true false d h = refl
later false false false d h = h

held_so : (gate : Handle) (hs : List Held) → list_any (λ h. is_images_lock gate (holding_of_held h)) hs ≡ true → (list_any (is_gate_shared Images) hs || list_any (is_gate_exclusive Images) hs) ≡ true
held_so gate [] h = cc
held_so gate (x ∷ xs) h = by (is_images_lock gate (holding_of_held x)) refl h (held_so gate xs)
  where
    by : (b : Bool) → is_images_lock gate (holding_of_held x) ≡ b → (b || list_any (λ h. is_images_lock gate (holding_of_held h)) xs) ≡ true → (list_any (λ h. is_images_lock gate (holding_of_held h)) xs ≡ true → (list_any (is_gate_shared Images) xs || list_any (is_gate_exclusive Images) xs) ≡ true) → (list_any (is_gate_shared Images) (x ∷ xs) || list_any (is_gate_exclusive Images) (x ∷ xs)) ≡ true
    by true is any rest = weave (is_gate_shared Images x) (is_gate_exclusive Images x) (list_any (is_gate_shared Images) xs) (list_any (is_gate_exclusive Images) xs) (some_mode (is_gate_of Images x.target) x.lock (and_right (is_handle_of gate (holding_of_held x)) (is_gate_of Images x.target && is_some x.lock) is))
    by false is any rest = later (is_gate_shared Images x) (is_gate_exclusive Images x) (list_any (is_gate_shared Images) xs) (list_any (is_gate_exclusive Images) xs) (rest any)

pub held_reads : {d : DirAt} {s : Seen} (gate : Handle) → HoldsImages d.local gate → Knows d s → may_read Images s.standing ≡ true
held_reads {d} {s} gate held k = held_so gate s.standing.holdings (k.handles (is_images_lock gate) ∙ held)

pub knows_image : {observed : Bool} (key : StoreKey) {old new : DirAt} (gate : Handle) → HoldsImages old.local gate → OnlyReadsImage observed key old new → observed ≡ true → KnowsStill old new
knows_image key gate held o t s k = o.known t s (held_reads gate held k) k

pub knows_images : {observed : Bool} {old new : DirAt} (gate : Handle) → HoldsImages old.local gate → OnlyReadsImages observed old new → observed ≡ true → KnowsStillNamed old new
knows_images gate held o t s k = o.known t s (held_reads gate held k) k
