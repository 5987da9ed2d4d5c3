-- What `image import` tells of the whole run.
use Rattle.std.proofs.Common.{arith, ◌≡◌, inl, inr, ◌≤◌, ℕ, Bool, true, false, not, List, [], Option, Some, None, Ok, Err, refl, sym, ap, subst, ◌∙◌}
use Rattle.dir_model.specs.declared.area.Area.{Area}
use Rattle.dir_model.specs.declared.intent.Draw.{Draw}
use Rattle.dir_model.specs.declared.intent.Intent.{Intent}
use Rattle.dir_model.specs.declared.intent.Kind.TheVariants as kind
use Rattle.dir_model.specs.declared.spot.Mode.TheVariants.{Shared}
use Rattle.dir_model.specs.declared.request.Request.{Request}
use Rattle.dir_model.proofs.Lists.{not_true}
use Rattle.dir_trait.specs.DirCalls.{HeldBetween}
use Rattle.dir_files.specs.AreaLocks.{IsBusyElsewhere}
use Rattle.lifecycle.specs.Executions.{IsConforming}
use Rattle.lifecycle.proofs.Draws.{conforming_left}
use Rattle.bundle_image.specs.declared.image.BundleImage.{BundleImage}
use Rattle.image_store.specs.Imports.{IsImportRefused, RefusalComesInTurn}
use Rattle.image_store.specs.Moves.{MovedNoImage}
use Rattle.image_store.proofs.Moving.{is_move, nothing_by, nothing_more}
use Rattle.rkt_cli.specs.Tasks.{ImageImport}
use Rattle.command_outcomes.specs.declared.refusal.Refusal.{Refusal}
use Rattle.command_outcomes.specs.declared.refusal.Refusal.TheVariants.{Busy, NoMemory}
use Rattle.command_outcomes.specs.Moments.{BundleSeen, Outside, CommandOutcome}
use Rattle.commands.specs.Command.{intent_for}
use Rattle.rkt_cli.specs.Commands.{intent_of}
use Rattle.rkt_cli.specs.Runs.{InProcess, Performs}
use Rattle.commands.specs.ImageImport.{source_of, IsStored, PrintsKey, StoresImage, IsAreaHeld, IsHeldFromImport, RefusesImage, ImageImportSays}
use Rattle.commands.proofs.Parts.{within_wider, held_wider}
use Rattle.commands.proofs.ImportParts.{Span, refused_wider, turn_wider, imported_wider}
use Rattle.rkt_cli.proofs.Listed.{process_part}
use Rattle.rkt_cli.proofs.Sessions.{any_call, begin_part, finish_part, no_looks}
use Rattle.rkt_cli.proofs.Conforming.{begun_knows}
use Rattle.rkt_cli.proofs.StoreRan.{imports}
use Rattle.commands.proofs.ImageImports.{is_memory}

still : (a b : ℕ) → b ≡ a → a ≤ b
still a b same = omega arith

module _ {path : List ℕ} {now : ℕ} {draw : Draw} {intent : Intent} {old new : Outside} {o : CommandOutcome} (s : InProcess (ImageImport path) now draw intent old new o) where
  process_span : Span old.observed old.dir s.begun.dir s.ended.dir new.dir
  process_span = record { part = λ t. process_part s t; before = s.risen; after = still s.ended.dir.faults new.dir.faults s.faults }

  -- its begin and its finish move nothing
  moved_wider : old.observed ≡ true → MovedNoImage s.begun.dir.process s.begun.dir.trace s.ended.dir.trace → MovedNoImage old.dir.process old.dir.trace new.dir.trace
  moved_wider t x =
      let asks : Request → Bool = λ r. not (is_move r) in
      let off = λ (r : Request) (h : not (is_move r) ≡ true). not_true (is_move r) h in
      nothing_more (nothing_by asks off (begin_part s t asks refl (λ r h. no_looks (ImageImport path) refl r h)))
      (nothing_more (subst (λ (me : ℕ). MovedNoImage me s.begun.dir.trace s.ended.dir.trace) s.me x) (nothing_by asks off (finish_part s t asks refl)))

  refused_in_process : (r : Refusal) → RefusesImage path s.begun s.ended r → RefusesImage path old new r
  refused_in_process r x = record {
    error = x.error;
    is = x.is;
    cause = refused_wider process_span (source_of path old.bundle) x.error
        (subst (λ (b : BundleSeen). IsImportRefused old.observed (source_of path b) x.error s.begun.dir s.ended.dir) s.bundle_before
        (subst (λ (told : Bool). IsImportRefused told (source_of path s.begun.bundle) x.error s.begun.dir s.ended.dir) s.told x.cause));
    turn = turn_wider process_span (source_of path old.bundle) x.error
        (subst (λ (b : BundleSeen). RefusalComesInTurn old.observed (source_of path b) x.error s.begun.dir s.ended.dir) s.bundle_before
        (subst (λ (told : Bool). RefusalComesInTurn told (source_of path s.begun.bundle) x.error s.begun.dir s.ended.dir) s.told x.turn));
    still = λ t. moved_wider t (x.still (s.told ∙ t));
  }

  stored_wider : old.observed ≡ true → (image : BundleImage) → IsStored image now draw.uuid s.begun.dir s.ended.dir → IsStored image now draw.uuid old.dir new.dir
  stored_wider t image (inl there) = inl (within_wider (process_part s t) there.0, moved_wider t there.1)
  stored_wider t image (inr came) = inr (imported_wider (process_part s t) came)

  conforms_before : old.observed ≡ true → IsConforming new.dir.trace → IsConforming s.ended.dir.trace
  conforms_before t conforming = let last = finish_part s t any_call refl in conforming_left s.ended.dir.trace last.more (subst IsConforming last.grown conforming)

-- what was printed
pub import_printed : (path : List ℕ) (now : ℕ) (draw : Draw) (intent : Option Intent) (old new : Outside) (text : List ℕ) → Performs (ImageImport path) now draw intent old new (Ok text) → PrintsKey path old.bundle text
import_printed path now draw (Some intent) old new text (inl s) = subst (λ (b : BundleSeen). PrintsKey path b text) s.bundle_before s.ran.says.key
import_printed path now draw (Some intent) old new text (inr n) = let e = n.is in cc
import_printed path now draw None old new text p = let clash : true ≡ false = p.apart in cc

-- and that it is stored
pub stored_in_process : (path : List ℕ) (now : ℕ) (draw : Draw) (intent : Intent) (old new : Outside) (text : List ℕ) → intent_of (ImageImport path) now draw ≡ Some intent → InProcess (ImageImport path) now draw intent old new (Ok text) →
    old.observed ≡ true → IsConforming new.dir.trace → StoresImage path now draw.uuid old new text
stored_in_process path now draw intent old new text said s t conforming =
    let x = subst (λ (b : BundleSeen). StoresImage path now draw.uuid (record s.begun { bundle = b }) s.ended text) s.bundle_before
    (s.ran.says.stores (s.told ∙ t) (conforms_before s t conforming) intent (imports path now draw intent said) (begun_knows s t)) in
    (x.0, x.1, (x.2.0, stored_wider s t x.0 x.2.1))

pub import_stored : (path : List ℕ) (now : ℕ) (draw : Draw) (old new : Outside) (text : List ℕ) → Performs (ImageImport path) now draw (intent_of (ImageImport path) now draw) old new (Ok text) →
    old.observed ≡ true → IsConforming new.dir.trace → StoresImage path now draw.uuid old new text
import_stored path now draw old new text (inl s) t conforming = stored_in_process path now draw (intent_for kind.ImageImport [] now draw) old new text refl s t conforming
import_stored path now draw old new text (inr n) t conforming = let e = n.is in cc

-- why it was refused
says_why : (path : List ℕ) (now : ℕ) (draw : Draw) (old new : Outside) (r : Refusal) → is_memory r ≡ false → ImageImportSays path now draw.uuid old new (Err r) → RefusesImage path old new r × IsHeldFromImport old.observed draw.uuid r old.dir new.dir
says_why path now draw old new NoMemory other says = cc
says_why path now draw old new r other says = says

pub import_refused : (path : List ℕ) (now : ℕ) (draw : Draw) (intent : Option Intent) (old new : Outside) (r : Refusal) → is_memory r ≡ false → Performs (ImageImport path) now draw intent old new (Err r) → RefusesImage path old new r
import_refused path now draw (Some intent) old new r other (inl s) = refused_in_process s r ((says_why path now draw s.begun s.ended r other s.ran.says).0)
import_refused path now draw (Some intent) old new r other (inr n) = let same : Err r ≡ Err NoMemory = n.is in let m : r ≡ NoMemory = cc in let clash : false ≡ true = sym other ∙ ap is_memory m in cc
import_refused path now draw None old new r other p = let clash : true ≡ false = p.apart in cc

pub import_busy : (path : List ℕ) (now : ℕ) (draw : Draw) (old new : Outside) (area : Area) → Performs (ImageImport path) now draw (intent_of (ImageImport path) now draw) old new (Err (Busy area)) →
    old.observed ≡ true → IsAreaHeld area old.dir new.dir
import_busy path now draw old new area (inl s) t =
    held_wider (process_part s t) (IsBusyElsewhere old.dir.process area Shared)
    (subst (λ (me : ℕ). HeldBetween s.begun.dir s.ended.dir (IsBusyElsewhere me area Shared)) s.me
    (s.ran.says.1 area refl (s.told ∙ t) (intent_for kind.ImageImport [] now draw) (imports path now draw (intent_for kind.ImageImport [] now draw) refl) (begun_knows s t)))
import_busy path now draw old new area (inr n) t = let e = n.is in cc
