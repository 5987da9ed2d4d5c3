-- A read in images, and what the process knows after it.
use Rattle.std.proofs.Common.{◌≡◌, ℕ, Bool, true, List, Result, Ok, Err, refl, ap, subst, ◌&&◌}
use Rattle.dir_model.specs.declared.area.Area.TheVariants.{Images}
use Rattle.dir_model.specs.declared.item.Inner.{Inner}
use Rattle.dir_model.specs.declared.request.DirError.{DirError}
use Rattle.dir_model.specs.declared.request.Request.TheVariants.{ReadIn}
use Rattle.dir_model.specs.Replies.{read_reply}
use Rattle.dir_rules.specs.declared.seen.Seen.{Seen}
use Rattle.dir_rules.specs.Conforms.{seen_replied}
use Rattle.dir_trait.specs.DirCalls.{DirAt, DirCall}
use Rattle.dir_trait.specs.Knowledge.{Knows}
use Rattle.dir_trait.proofs.Knowing.{knows_call}
use Rattle.dir_trait.proofs.ListCalls.{local_read}
use Rattle.dir_trait.specs.Effects.{OnlyAsks}
use Rattle.folder_building.specs.Sources.{reads_image_files, may_read_images}
use Rattle.folder_building.proofs.Working.{worked_call}

abbrev pub image_path : List ℕ → List ℕ → Inner
image_path name path = record { spot = record { area = Images; name = name }; path = path }

read_seen : (s : Seen) (name path : List ℕ) (at size : ℕ) (room : List ℕ) (r : Result ℕ DirError) → may_read_images s.standing ≡ true → seen_replied s (ReadIn (image_path name path) at size) (read_reply room r) ≡ s
read_seen s name path at size room (Ok n) may = ap (λ (b : Bool). let x : Seen = record s { kept = b && s.kept } in x) may
read_seen s name path at size room (Err e) may = ap (λ (b : Bool). let x : Seen = record s { kept = b && s.kept } in x) may

module _ {observed : Bool} {old new : DirAt} (name path : List ℕ) (at size : ℕ) (room : List ℕ) (r : Result ℕ DirError) (c : DirCall observed old (ReadIn (image_path name path) at size) (read_reply room r) new) where
  pub image_worked : OnlyAsks observed reads_image_files old new
  image_worked = worked_call refl (local_read old.local (image_path name path) at size room r) c

  pub image_known : observed ≡ true → (s : Seen) → may_read_images s.standing ≡ true → Knows old s → Knows new s
  image_known t s may k = subst (λ (x : Seen). Knows new x) (read_seen s name path at size room r may) (knows_call t k refl refl c)
