-- What the commands on the store owe, each between its begin and its finish.
use Rattle.std.proofs.Common.{◌≡◌, ◌≤◌, ℕ, Bool, true, List, [], Some, Ok, Err, IfErr, IsErrOf, refl, sym, subst}
use Rattle.ac_types.specs.declared.store_key.StoreKey.{StoreKey}
use Rattle.dir_model.specs.declared.intent.Draw.{Draw}
use Rattle.dir_model.specs.declared.intent.Intent.{Intent}
use Rattle.dir_model.specs.declared.intent.Kind.TheVariants as kind
use Rattle.dir_model.specs.Causes.{Rose}
use Rattle.dir_rules.specs.Standing.{is_image_rm, is_image_remover}
use Rattle.dir_trait.specs.DirCalls.{DirAt}
use Rattle.dir_trait.specs.Effects.{OnlyAsks}
use Rattle.image_store.specs.Requests.{building_spot, imports_at}
use Rattle.image_store.specs.Work.{IsImport}
use Rattle.image_removal.specs.Requests.{removes_at, sweeps_store}
use Rattle.image_removal.specs.Work.{MayRemoveImage, MaySweepStore, Stays}
use Rattle.image_removal.specs.Work as work
use Rattle.image_removal.proofs.Begun.{begun_removes, begun_sweeps}
use Rattle.command_outcomes.specs.declared.refusal.Refusal.{Refusal}
use Rattle.command_outcomes.specs.declared.refusal.Refusal.TheVariants.{DirFault, BundleFault, NoMemory}
use Rattle.command_outcomes.specs.Moments.{BundleSeen, CommandOutcome}
use Rattle.command_outcomes.specs.Conforming.{seen_at_begin, StaysConforming}
use Rattle.command_outcomes.proofs.Seen.{beside}
use Rattle.commands.specs.Kept.{KeepsRefused}
use Rattle.commands.specs.ImageImport.{image_import_refusal, ImageImportSays}
use Rattle.commands.specs.ImageRm.{image_rm_refusal, ImageRmSays}
use Rattle.commands.specs.ImageGc.{image_gc_refusal, ImageGcSays}
use Rattle.rkt_cli.specs.Tasks.{Task}
use Rattle.rkt_cli.proofs.Ran.{ran}
use Rattle.rkt_cli.specs.Tasks.{ImageImport, ImageRm, ImageGc}
use Rattle.commands.specs.Command.{intent_for}
use Rattle.rkt_cli.specs.Commands.{intent_of, may}
use Rattle.rkt_cli.specs.Runs.{CommandRan}

-- a process that imports began so
pub imports : (path : List ℕ) (now : ℕ) (draw : Draw) (intent : Intent) → intent_of (ImageImport path) now draw ≡ Some intent → IsImport draw.uuid intent
imports path now draw intent is = subst (λ (i : Intent). IsImport draw.uuid i) (let e : intent_for kind.ImageImport [] now draw ≡ intent = cc in e) (record { kind = refl; drawn = refl })

-- what `image import` owes
import_may : (path : List ℕ) (r : Refusal) → image_import_refusal r ≡ true → may (ImageImport path) r ≡ true
import_may path NoMemory known = known
import_may path DirFault known = known
import_may path BundleFault known = known
import_may path r known = known

import_end : (path : List ℕ) (o : CommandOutcome) → IfErr o (λ r. image_import_refusal r ≡ true) → IfErr o (λ r. may (ImageImport path) r ≡ true)
import_end path (Ok text) known = known
import_end path (Err r) known = import_may path r known

pub import_ran : (line : Task) (now : ℕ) (draw : Draw) (path : List ℕ) (observed : Bool) (a b : DirAt) (before after : BundleSeen) (o : CommandOutcome) → line ≡ ImageImport path →
    OnlyAsks observed (imports_at (building_spot draw.uuid)) a b → (IsErrOf o DirFault → Rose a.faults b.faults) → before.faults ≤ after.faults → (IsErrOf o BundleFault → Rose before.faults after.faults) →
    IfErr o (λ r. image_import_refusal r ≡ true) → ImageImportSays path now draw.uuid (beside observed a before) (beside observed b after) o →
    CommandRan line now draw (beside observed a before) (beside observed b after) o
import_ran line now draw path observed a b before after o is worked cause faults bundle_cause known says =
    subst (λ (l : Task). CommandRan l now draw (beside observed a before) (beside observed b after) o) (sym is) whole
  where
    whole : CommandRan (ImageImport path) now draw (beside observed a before) (beside observed b after) o
    whole = record {
      same = worked.same;
      local = worked.local;
      faults = worked.faults;
      cause = cause;
      bundle_faults = faults;
      bundle_cause = bundle_cause;
      refusals = import_end path o known;
      extends = worked.extends;
      reads = faults;
      says = says;
    }

-- a process that removes began so, and keeps the local rules
removes : (key : StoreKey) (now : ℕ) (draw : Draw) (intent : Intent) → intent_of (ImageRm key) now draw ≡ Some intent → (is_image_rm intent.kind ≡ true) × (intent.draw ≡ draw.uuid)
removes key now draw intent is = subst (λ (i : Intent). (is_image_rm i.kind ≡ true) × (i.draw ≡ draw.uuid)) (let e : intent_for kind.ImageRm [] now draw ≡ intent = cc in e) (refl, refl)

pub removal_conforming : (key : StoreKey) (now : ℕ) (draw : Draw) (intent : Intent) (observed : Bool) (a b : DirAt) → intent_of (ImageRm key) now draw ≡ Some intent →
    Stays (MayRemoveImage draw.uuid) work.KeepsStandingAndRules a b → StaysConforming intent a b
removal_conforming key now draw intent observed a b is stays k =
    let began = removes key now draw intent is in
    let s = stays (seen_at_begin intent) k (begun_removes intent draw.uuid began.0 began.1) in
    record { known = s.known; knows = s.knows; kept = s.kept }

-- and so does one that sweeps
sweeping : (now : ℕ) (draw : Draw) (intent : Intent) → intent_of ImageGc now draw ≡ Some intent → is_image_remover intent.kind ≡ true
sweeping now draw intent is = subst (λ (i : Intent). is_image_remover i.kind ≡ true) (let e : intent_for kind.ImageGc [] now draw ≡ intent = cc in e) refl

pub sweep_conforming : (now : ℕ) (draw : Draw) (intent : Intent) (observed : Bool) (a b : DirAt) → intent_of ImageGc now draw ≡ Some intent →
    Stays MaySweepStore work.KeepsStandingAndRules a b → StaysConforming intent a b
sweep_conforming now draw intent observed a b is stays k =
    let s = stays (seen_at_begin intent) k (begun_sweeps intent (sweeping now draw intent is)) in
    record { known = s.known; knows = s.knows; kept = s.kept }

-- what each of the two owes
removal_may : (key : StoreKey) (r : Refusal) → image_rm_refusal r ≡ true → may (ImageRm key) r ≡ true
removal_may key NoMemory known = known
removal_may key DirFault known = known
removal_may key r known = known

sweep_may : (r : Refusal) → image_gc_refusal r ≡ true → may ImageGc r ≡ true
sweep_may NoMemory known = known
sweep_may DirFault known = known
sweep_may r known = known

pub removal_ran : (line : Task) (now : ℕ) (draw : Draw) (key : StoreKey) (observed : Bool) (a b : DirAt) (bundle : BundleSeen) (o : CommandOutcome) → line ≡ ImageRm key → OnlyAsks observed (removes_at key draw.uuid) a b →
    (IsErrOf o DirFault → Rose a.faults b.faults) → IfErr o (λ r. image_rm_refusal r ≡ true) → ImageRmSays observed key draw.uuid a b o → KeepsRefused observed a b o →
    CommandRan line now draw (beside observed a bundle) (beside observed b bundle) o
removal_ran line now draw key observed a b bundle o is worked cause known says kept = ran (ImageRm key) image_rm_refusal refl (removal_may key) line now draw observed a b bundle o is refl worked cause known (says, kept)

pub sweep_ran : (line : Task) (now : ℕ) (draw : Draw) (observed : Bool) (a b : DirAt) (bundle : BundleSeen) (o : CommandOutcome) → line ≡ ImageGc → OnlyAsks observed sweeps_store a b →
    (IsErrOf o DirFault → Rose a.faults b.faults) → IfErr o (λ r. image_gc_refusal r ≡ true) → ImageGcSays observed a b o →
    CommandRan line now draw (beside observed a bundle) (beside observed b bundle) o
sweep_ran line now draw observed a b bundle o is worked cause known says = ran ImageGc image_gc_refusal refl sweep_may line now draw observed a b bundle o is refl worked cause known says
