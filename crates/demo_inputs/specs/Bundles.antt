-- The bundles of the demo's images, and how their apps end.
use Rattle.std.specs.Prelude.{ℕ, ◌/◌, ◌%◌, ◌+◌, if◌then◌else◌, nat_lt, List, [], ◌∷◌, ◌++◌, codes}
use Rattle.std.specs.Fmt.{decimal}
use Rattle.std.proofs.Common.{zero, suc}
use Rattle.std.proofs.Math.ListN.{replicate}
use Rattle.dir_trait.specs.declared.node.Node.TheVariants.{File}
use Rattle.dir_memory.specs.MemoryBundles.{BundleMemory, bundle_with_entry}
use Rattle.memory_spawner.specs.SpawnerMemories.{SpawnerMemory}
use Rattle.demo_line.specs.Names.{demo_name, own_path}

-- n in this number of hex digits, in lower case
abbrev pub hex_digit : ℕ → ℕ
hex_digit n = if nat_lt n 10 then n + 48 else n + 87

abbrev pub hex_digits : ℕ → ℕ → List ℕ
hex_digits zero n = []
hex_digits (suc k) n = hex_digits k (n / 16) ++ hex_digit (n % 16) ∷ []

-- an image's ID: its number in eight digits, and 120 zeros
abbrev pub id_text : ℕ → List ℕ
id_text i = codes "sha512-" ++ (hex_digits 8 i ++ replicate 120 48)

-- its one dependency, on the image of half the number below its own. Image 0 has none
abbrev pub dependencies_text : ℕ → List ℕ
dependencies_text zero = []
dependencies_text (suc i) = codes ",\"dependencies\":[{\"imageName\":\"" ++ (demo_name (i / 2) ++ codes "\"}]")

abbrev pub manifest_text : ℕ → List ℕ
manifest_text i =
    codes "{\"acKind\":\"ImageManifest\",\"acVersion\":\"0.8.0\",\"name\":\"" ++ (demo_name i
    ++ (codes "\",\"app\":{\"exec\":[\"" ++ (own_path i ++ (codes "\"],\"user\":\"0\",\"group\":\"0\"}" ++ (dependencies_text i ++ codes "}")))))

-- what both files in its root hold
abbrev pub input_content : ℕ → List ℕ
input_content i = decimal i ++ 10 ∷ []

-- the path at which every bundle stands
abbrev pub bundle_path : List ℕ
bundle_path = codes "b"

abbrev pub no_bundle : BundleMemory
no_bundle = record { entries = []; faults = 0; calls = 0; given = 0; asked = []; failing = [] }

abbrev pub image_bundle : ℕ → BundleMemory
image_bundle i =
    bundle_with_entry
    (bundle_with_entry (bundle_with_entry (bundle_with_entry no_bundle (codes "b/manifest") (File (manifest_text i))) (codes "b/id") (File (id_text i))) (codes "b/rootfs/common") (File (input_content i)))
    (codes "b/rootfs" ++ own_path i) (File (input_content i))

-- a spawner whose programs end with 0, and one whose first program ends with the rest of its pod's number by 2
abbrev pub plain_spawner : SpawnerMemory
plain_spawner = record { calls = []; faults = 0; counted = 0; ends = []; failing = [] }

abbrev pub app_spawner : ℕ → SpawnerMemory
app_spawner pod = record { calls = []; faults = 0; counted = 0; ends = record { start = 1; status = pod % 2 } ∷ []; failing = [] }
