-- The images that `image list` printed stood together.
use Rattle.std.proofs.Common.{ℕ, List, Some, refl, subst}
use Rattle.dep_match.specs.declared.stored.Stored.{Stored}
use Rattle.dir_model.specs.declared.area.Area.TheVariants.{Images}
use Rattle.dir_model.specs.declared.spot.Handle.{Handle}
use Rattle.dir_model.specs.declared.spot.Mode.TheVariants.{Shared}
use Rattle.dir_rules.specs.declared.seen.Seen.{Seen}
use Rattle.dir_trait.specs.DirCalls.{DirAt, ExtendsBy}
use Rattle.dir_trait.specs.Knowledge.{Knows}
use Rattle.lifecycle.specs.Executions.{IsConforming}
use Rattle.dir_files.specs.AreaLocks.{with_gate}
use Rattle.image_reading.specs.Looks.{reads_images}
use Rattle.image_reading.specs.Store.{ReadsStore}
use Rattle.standing_images.specs.Images.{StoodTogether}
use Rattle.standing_images.proofs.Stores.{stood_around, stood_wider}
use Rattle.commands.proofs.Parts.{Part}

-- of a longer time
pub stood_in : {old first last new : DirAt} (images : List Stored) → Part old first last new → StoodTogether images first.process first.trace last.trace → StoodTogether images old.process old.trace new.trace
stood_in {old} {first} {last} {new} images p x = stood_wider p.earlier p.later p.begins p.ends (subst (λ (me : ℕ). StoodTogether images me first.trace last.trace) p.same x)

-- what was read once the lock was had
pub stands_between : {a b c d : DirAt} {s : Seen} (gate : Handle) → Part a b c d → Knows b (with_gate s gate Images (Some Shared)) → ExtendsBy reads_images b c → IsConforming d.trace → (images : List Stored) → ReadsStore images b c →
    StoodTogether images a.process a.trace d.trace
stands_between {a} {b} {c} {d} {s} gate p knows asked conforming images read = stood_around a b c d p.earlier p.later p.same p.begins p.ends conforming knows refl asked read
