-- A pod's manifest as it is printed.
use Rattle.std.specs.Prelude.{ℕ, List}
use Rattle.serde_json.specs.Written.{compact_text}
use Rattle.manifests.specs.PodData.{PodData}
use Rattle.manifests.specs.PodObject.{pod_object}

-- its JSON without spaces
unfoldable pub manifest_text : PodData → List ℕ
manifest_text manifest = compact_text (pod_object manifest)
