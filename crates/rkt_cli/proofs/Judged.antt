-- The first bytes of a file are judged as the whole is.
use Rattle.std.proofs.Common.{◌≡◌, ℕ, Bool, true, false, nat_le, List, length, take, Option, Some, None, option_map, codes, refl, sym, ap, ◌∙◌}
use Rattle.plain_laws.proofs.Fronts.{take_short, take_long}
use Rattle.ac_types.specs.declared.fault.FaultKind.TheVariants.{TooLong}
use Rattle.ac_types.specs.Outcomes.{fails}
use Rattle.manifests.specs.DocumentData.{any_manifest}
use Rattle.manifest_parts.specs.DocumentForm.{document}
use Rattle.commands.specs.Validate.{file_outcome, manifest_outcome}
use Rattle.manifests.specs.ManifestSize.{most_of_manifest}

too_long : (bytes : List ℕ) → nat_le (length bytes) 1048576 ≡ false → any_manifest bytes ≡ fails (codes "$") TooLong
unfolding any_manifest document
too_long bytes long = rw long

short_enough : (bytes : List ℕ) → nat_le (length bytes) 1048576 ≡ true → take most_of_manifest bytes ≡ bytes
short_enough bytes short = take_short 1048576 bytes short

still_long : (bytes : List ℕ) → nat_le (length bytes) 1048576 ≡ false → nat_le (length (take most_of_manifest bytes)) 1048576 ≡ false
still_long bytes long = take_long 1048576 bytes long

pub judged_so : (bytes : List ℕ) → any_manifest (take most_of_manifest bytes) ≡ any_manifest bytes
judged_so bytes = by (nat_le (length bytes) 1048576) refl
  where
    by : (short : Bool) → nat_le (length bytes) 1048576 ≡ short → any_manifest (take most_of_manifest bytes) ≡ any_manifest bytes
    by true short = ap any_manifest (short_enough bytes short)
    by false long = too_long (take most_of_manifest bytes) (still_long bytes long) ∙ sym (too_long bytes long)

-- so a file comes to the same by its first bytes
pub judged_whole : (path : List ℕ) (found file : Option (List ℕ)) → found ≡ option_map (take most_of_manifest) file → file_outcome path found ≡ file_outcome path file
judged_whole path found None is = ap (file_outcome path) is
judged_whole path found (Some bytes) is = ap (file_outcome path) is ∙ ap manifest_outcome (judged_so bytes)
