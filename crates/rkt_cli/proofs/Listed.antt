-- What `image list` tells of the whole run.
use Rattle.std.proofs.Common.{◌≡◌, inl, inr, ℕ, true, false, List, Option, Some, None, Ok, Err, refl, subst, ◌∙◌}
use Rattle.dir_model.specs.declared.area.Area.{Area}
use Rattle.dir_model.specs.declared.area.Area.TheVariants.{Images}
use Rattle.dir_model.specs.declared.intent.Draw.{Draw}
use Rattle.dir_model.specs.declared.intent.Intent.{Intent}
use Rattle.dir_model.specs.declared.spot.Mode.TheVariants.{Shared}
use Rattle.dir_files.specs.AreaLocks.{IsBusyElsewhere, IsFreeElsewhere}
use Rattle.dir_trait.specs.DirCalls.{HeldBetween}
use Rattle.rkt_cli.specs.Tasks.{Task}
use Rattle.rkt_cli.specs.Tasks.{ImageList}
use Rattle.command_outcomes.specs.declared.refusal.Refusal.TheVariants.{Busy, Damaged}
use Rattle.command_outcomes.specs.Moments.{Outside, CommandOutcome}
use Rattle.command_outcomes.specs.Conforming.{seen_at_begin}
use Rattle.commands.specs.ImageList.{FindsFree, ListsStanding, ListsStore, ListsLackingPart, ImagesHeldElsewhere}
use Rattle.rkt_cli.specs.Runs.{InProcess, Performs}
use Rattle.commands.proofs.Parts.{Part, held_wider, store_wider, lacks_wider}
use Rattle.commands.proofs.StoreStanding.{stood_in}
use Rattle.lifecycle.specs.Executions.{IsConforming}
use Rattle.lifecycle.proofs.Draws.{conforming_left}
use Rattle.rkt_cli.proofs.Sessions.{any_call, begin_any, finish_part}
use Rattle.rkt_cli.proofs.Conforming.{begun_knows}

module _ {line : Task} {now : ℕ} {draw : Draw} {intent : Intent} {old new : Outside} {o : CommandOutcome} (s : InProcess line now draw intent old new o) where
  pub process_part : old.observed ≡ true → Part old.dir s.begun.dir s.ended.dir new.dir
  process_part t =
      let first = begin_any s t in
      let last = finish_part s t any_call refl in
      record { earlier = first.more; later = last.more; same = s.me; begins = first.grown; ends = last.grown }

  free_in_process : old.observed ≡ true → FindsFree s.begun.dir s.ended.dir → FindsFree old.dir new.dir
  free_in_process t free =
      held_wider (process_part t) (IsFreeElsewhere old.dir.process Images Shared)
      (subst (λ (me : ℕ). HeldBetween s.begun.dir s.ended.dir (IsFreeElsewhere me Images Shared)) s.me free)

  pub listed_in_process : {text : List ℕ} → ListsStore s.begun.observed s.begun.dir s.ended.dir text → ListsStore old.observed old.dir new.dir text
  listed_in_process says = record { images = says.images; free = λ t. free_in_process t (says.free (s.told ∙ t)); told = λ t. store_wider (process_part t) says.images (says.told (s.told ∙ t)); is = says.is }

  -- the process's own look at their lock
  pub standing_in_process : {text : List ℕ} → ListsStanding s.begun.dir s.ended.dir text → old.observed ≡ true → ListsStanding old.dir new.dir text
  standing_in_process says t = record { images = says.images; is = says.is; stood = stood_in says.images (process_part t) says.stood }

  pub ended_conforms : old.observed ≡ true → IsConforming new.dir.trace → IsConforming s.ended.dir.trace
  ended_conforms t conforming = let last = finish_part s t any_call refl in conforming_left s.ended.dir.trace last.more (subst IsConforming last.grown conforming)

  pub lacked_in_process : {path : List ℕ} → ListsLackingPart s.begun.observed path s.begun.dir s.ended.dir → ListsLackingPart old.observed path old.dir new.dir
  lacked_in_process {path} says = record { place = says.place; free = λ t. free_in_process t (says.free (s.told ∙ t)); told = λ t. lacks_wider (process_part t) path (says.told (s.told ∙ t)) }

-- what was printed, or wasn't
pub list_printed : (now : ℕ) (draw : Draw) (intent : Option Intent) (old new : Outside) (text : List ℕ) → Performs ImageList now draw intent old new (Ok text) → ListsStore old.observed old.dir new.dir text
list_printed now draw (Some intent) old new text (inl s) = listed_in_process s s.ran.says.0
list_printed now draw (Some intent) old new text (inr n) = let e = n.is in cc
list_printed now draw None old new text p = let clash : true ≡ false = p.apart in cc

pub list_stood : (now : ℕ) (draw : Draw) (intent : Option Intent) (old new : Outside) (text : List ℕ) → Performs ImageList now draw intent old new (Ok text) → old.observed ≡ true → IsConforming new.dir.trace → ListsStanding old.dir new.dir text
list_stood now draw (Some intent) old new text (inl s) t conforming = standing_in_process s (s.ran.says.1 (s.told ∙ t) (seen_at_begin intent) (begun_knows s t) refl (ended_conforms s t conforming)) t
list_stood now draw (Some intent) old new text (inr n) t conforming = let e = n.is in cc
list_stood now draw None old new text p t conforming = let clash : true ≡ false = p.apart in cc

pub list_lacked : (now : ℕ) (draw : Draw) (intent : Option Intent) (old new : Outside) (path : List ℕ) → Performs ImageList now draw intent old new (Err (Damaged path)) → ListsLackingPart old.observed path old.dir new.dir
list_lacked now draw (Some intent) old new path (inl s) = lacked_in_process s s.ran.says
list_lacked now draw (Some intent) old new path (inr n) = let e = n.is in cc
list_lacked now draw None old new path p = let clash : true ≡ false = p.apart in cc

pub list_busy : (now : ℕ) (draw : Draw) (intent : Option Intent) (old new : Outside) (area : Area) → Performs ImageList now draw intent old new (Err (Busy area)) → old.observed ≡ true →
    ImagesHeldElsewhere old.dir new.dir
list_busy now draw (Some intent) old new area (inl s) t =
    held_wider (process_part s t) (IsBusyElsewhere old.dir.process Images Shared)
    (subst (λ (me : ℕ). HeldBetween s.begun.dir s.ended.dir (IsBusyElsewhere me Images Shared)) s.me
    (s.ran.says (s.told ∙ t) (seen_at_begin intent) (begun_knows s t) refl))
list_busy now draw (Some intent) old new area (inr n) t = let e = n.is in cc
list_busy now draw None old new area p t = let clash : true ≡ false = p.apart in cc
