use Rattle.std.proofs.Common.{◌≡◌, take, string_bytes}
use Rattle.pod_manifest.specs.AppNames.{last_words}
use Rattle.pod_manifest.proofs.app_names.last_words.Given as goal

abbrev pub invariant-loop-byte : goal.invariant-loop-byte
invariant-loop-byte l = string_bytes l.words ≡ last_words (take l.byte-index l.bytes)
