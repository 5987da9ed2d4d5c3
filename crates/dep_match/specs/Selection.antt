-- Which images of a list a reference or a dependency matches, and which of the matches is best.
use Rattle.std.specs.Prelude.{◌≡◌, ℕ, Bool, true, IsTrue, not, ◌&&◌, List, take, Option, Some, None}
use Rattle.std.specs.List.{list_any, list_all, filter, position, slice_get}
use Rattle.std.specs.Ordering.{nat_cmp, ordering_then, is_gt}
use Rattle.std.specs.Cmp.Lexicographic.{slice_cmp}
use Rattle.std.specs.Str.{bytes_eq}
use Rattle.std.specs.declared.cmp.Ordering.{Ordering}
use Rattle.hex.specs.Hex.{encode_lower}
use Rattle.ac_types.specs.declared.image_id.ImageId.{ImageId}
use Rattle.ac_types.specs.declared.image_ref.ImageRef.{ImageRef}
use Rattle.ac_types.specs.declared.image_ref.ImageRef.TheVariants.{Named, ById}
use Rattle.ac_types.specs.declared.label.Label.{Label}
use Rattle.manifest_parts.specs.declared.dependency.Dependency.{Dependency}
use Rattle.dep_match.specs.declared.stored.Stored.{Stored}

-- two labels have one name and one value
abbrev pub is_same_label : Label → Label → Bool
is_same_label l m = bytes_eq l.name m.name && bytes_eq l.value m.value

-- a label is among the labels
abbrev pub has_label : List Label → Label → Bool
has_label labels wanted = list_any (λ (l : Label). is_same_label l wanted) labels

-- an image has the name, and each of the labels with its value
abbrev pub is_called : List ℕ → List Label → Stored → Bool
is_called name wanted image =
    bytes_eq image.manifest.name name && list_all (λ (l : Label). has_label image.manifest.labels l) wanted

-- the lower-case hex digits of an ID
unfoldable pub digits_of : ImageId → List ℕ
digits_of id = encode_lower id.bytes

-- a reference by name matches by the name and the labels, one by ID by as many digits as it gives
abbrev pub matches : ImageRef → Stored → Bool
matches (Named name labels) image = is_called name labels image
matches (ById digits len) image = bytes_eq (take len (digits_of image.id)) (take len digits)

-- the ID is the one that is given, where one is
abbrev pub has_id : Option ImageId → ImageId → Bool
has_id None id = true
has_id (Some wanted) id = bytes_eq id.bytes wanted.bytes

-- a dependency matches by the name, the labels, and the ID where one is given
abbrev pub matches_dependency : Dependency → Stored → Bool
matches_dependency d image = is_called d.image_name d.labels image && has_id d.image_id image.id

-- images in the order of their moments, and of their keys where these are equal
abbrev pub image_order : Stored → Stored → Ordering
image_order a b = ordering_then (nat_cmp a.moment b.moment) (slice_cmp nat_cmp a.key.bytes b.key.bytes)

-- an image is greater in that order
abbrev pub outranks : Stored → Stored → Bool
outranks a b = is_gt (image_order a b)

-- the place of the first match that no match outranks
abbrev pub best_match : (Stored → Bool) → List Stored → Option ℕ
best_match test images =
    position (λ (s : Stored). test s && not (list_any (λ (m : Stored). outranks m s) (filter test images))) images

-- the image at a place passes the test
abbrev pub IsPlaceOf : (Stored → Bool) → List Stored → ℕ → Type 0
IsPlaceOf test images place = (image : Stored) × (slice_get images place ≡ Some image) × IsTrue (test image)
