-- The refusals of the parts, and what they rest on.
use Rattle.std.proofs.Common.{◌≡◌, ◌≢◌, inl, inr, ℕ, Bool, true, false, Option, List, refl, sym, ap, subst, ◌∙◌}
use Rattle.std.specs.Borrow.{GName}
use Rattle.dir_model.specs.declared.area.Area.{Area}
use Rattle.dir_model.specs.declared.area.Area.TheVariants.{Images, Incoming}
use Rattle.dir_model.specs.declared.spot.Mode.TheVariants.{Shared}
use Rattle.dir_model.specs.Areas.{rank}
use Rattle.dir_model.specs.Causes.{Rose}
use Rattle.dir_model.proofs.Lists.{same_self}
use Rattle.dir_rules.specs.Standing.{is_in}
use Rattle.dir_trait.specs.DirCalls.{DirAt, ExtendsBy, HeldBetween}
use Rattle.ac_types.specs.declared.store_key.StoreKey.{StoreKey}
use Rattle.tree_digest.specs.declared.line.ListingLine.{ListingLine}
use Rattle.dir_files.specs.declared.lock_error.LockError.{LockError}
use Rattle.dir_files.specs.declared.lock_error.LockError.TheVariants as lock
use Rattle.dir_files.specs.AreaLocks.{IsBusy, IsBusyElsewhere}
use Rattle.bundle_image.specs.declared.refusal.BundleRefusal.{BundleRefusal}
use Rattle.bundle_image.specs.declared.refusal.BundleRefusal.TheVariants as bundle
use Rattle.folder_building.specs.declared.error.BuildError.{BuildError}
use Rattle.folder_building.specs.declared.error.BuildError.TheVariants as failure
use Rattle.folder_building.specs.declared.plan.PlanEntry.{PlanEntry}
use Rattle.folder_building.specs.Sources.{UnlikeAt}
use Rattle.folder_building.specs.ImagePlans.{image_entries}
use Rattle.folder_building.proofs.Following.{Follows}
use Rattle.image_reading.specs.declared.error.StoreError.{StoreError}
use Rattle.image_reading.specs.declared.error.StoreError.TheVariants.{Busy, Damaged, IdConflict, BundleFault, DirFault, NoMemory, Stray}
use Rattle.image_reading.specs.Looks.{reads_image}
use Rattle.image_reading.specs.Places.{IsImageAbsent}
use Rattle.image_reading.specs.Refusals.{IsReadRefusal, IsDigestPath}
use Rattle.image_reading.specs.Images.{ReadsDigest, LacksStored}
use Rattle.image_reading.proofs.Widths.{within_self}
use Rattle.image_store.specs.Refusals.{lock_refusal, is_import_lock_refusal, is_look_refusal, is_change_refusal, is_fill_refusal, is_place_refusal, is_import_work_refusal, is_import_area, is_import_refusal, bundle_refusal}
use Rattle.image_store.specs.Plans.{IsUnlikeRefusal, IsBuildRefusal}
use Rattle.image_store.specs.Causes.{LockCause, ImportBusyElsewhere, LookCause, ChangeCause, FillCause, BuildCause, CompareCause, PlaceCause, ImportCause, HadIncoming, FoundInTurn, WasStrayImport, KeyWasTaken, Source, UnlikePlanned, LacksThere, is_late}
use Rattle.image_store.proofs.Unlikes.{files_of, unlike_planned, unlike_listed}
use Rattle.image_store.proofs.Widths.{fault_after, told_after, conflict_after}

-- the lock
lock_kind : (area : Area) (e : LockError) → is_import_lock_refusal area (lock_refusal area e) ≡ true
lock_kind area lock.Busy = same_self (rank area)
lock_kind area lock.DirFault = refl
lock_kind area lock.NoMemory = refl

lock_fault : (area : Area) (e : LockError) → lock_refusal area e ≡ DirFault → e ≡ lock.DirFault
lock_fault area lock.Busy is = cc
lock_fault area lock.DirFault is = refl
lock_fault area lock.NoMemory is = cc

lock_busy : (area here : Area) (e : LockError) → lock_refusal area e ≡ Busy here → (e ≡ lock.Busy) × (area ≡ here)
lock_busy area here lock.Busy is = (refl, cc)
lock_busy area here lock.DirFault is = cc
lock_busy area here lock.NoMemory is = cc

pub lock_cause : {observed : Bool} {old new : DirAt} (area : Area) (e : LockError) → (e ≡ lock.DirFault → Rose old.faults new.faults) → (e ≡ lock.Busy → observed ≡ true → HeldBetween old new (IsBusy area Shared)) → LockCause observed area (lock_refusal area e) old new
lock_cause {observed} {old} {new} area e fault busy = record {
  kind = lock_kind area e;
  fault = λ is. fault (lock_fault area e is);
  busy = λ here is t. let b = lock_busy area here e is in subst (λ (a : Area). HeldBetween old new (IsBusy a Shared)) b.1 (busy b.0 t);
}

pub busy_elsewhere : (old new : DirAt) (area : Area) (e : LockError) → (e ≡ lock.Busy → HeldBetween old new (IsBusyElsewhere old.process area Shared)) → ImportBusyElsewhere (lock_refusal area e) old new
busy_elsewhere old new area e busy here is = let b = lock_busy area here e is in subst (λ (a : Area). HeldBetween old new (IsBusyElsewhere old.process a Shared)) b.1 (busy b.0)

-- nothing but a lock is busy
pub never_busy : (may : StoreError → Bool) (old new : DirAt) (e : StoreError) → ((area : Area) → may (Busy area) ≡ false) → may e ≡ true → ImportBusyElsewhere e old new
never_busy may old new e none kind area is = let b : false ≡ true = sym (none area) ∙ (ap may (sym is) ∙ kind) in absurd cc

-- the look at an image
read_kind : (key : StoreKey) (e : StoreError) → IsReadRefusal (IsDigestPath key) e → is_look_refusal e ≡ true
read_kind key (Damaged path) r = refl
read_kind key DirFault r = refl
read_kind key NoMemory r = refl
read_kind key e r = absurd r

lacks_part : (key : StoreKey) (path : List ℕ) (e : StoreError) {old new : DirAt} → e ≡ Damaged path → LacksStored key e old new → LacksThere key path old new
lacks_part key path e {old} {new} is l = subst (λ (x : StoreError). LacksStored key x old new) is l tt

no_conflict : (key other : StoreKey) (stored fresh : List ℕ) (e : StoreError) → IsReadRefusal (IsDigestPath key) e → e ≡ IdConflict other stored fresh → ⊥
no_conflict key other stored fresh e r is = subst (λ (x : StoreError). IsReadRefusal (IsDigestPath key) x) is r

pub look_cause : {observed : Bool} {old new : DirAt} (key : StoreKey) (digest : List ℕ) (e : StoreError) → IsReadRefusal (IsDigestPath key) e → (e ≡ DirFault → Rose old.faults new.faults) → (observed ≡ true → LacksStored key e old new) → LookCause observed key digest e old new
look_cause key digest e r fault lacks = record {
  kind = read_kind key e r;
  fault = fault;
  damaged = λ path is t. within_self (lacks_part key path e is (lacks t));
  conflict = λ other stored fresh is. absurd (no_conflict key other stored fresh e r is);
}

pub other_cause : {observed : Bool} {old new : DirAt} (key : StoreKey) (stored digest : List ℕ) (e : StoreError) → e ≡ IdConflict key stored digest → stored ≢ digest → (observed ≡ true → ReadsDigest key stored old new) → LookCause observed key digest e old new
other_cause {observed} {old} {new} key stored digest e is differ there = subst (λ (x : StoreError). LookCause observed key digest x old new) (sym is) (record {
  kind = refl;
  fault = λ same. cc;
  damaged = λ path same. cc;
  conflict = λ other found fresh same. let parts : (key ≡ other) × (stored ≡ found) × (digest ≡ fresh) = (cc, cc, cc) in record {
    key_is = sym parts.0;
    new_is = sym parts.2;
    differ = λ equal. differ (parts.1 ∙ equal);
    there = λ t. within_self (subst (λ (d : List ℕ). ReadsDigest key d old new) parts.1 (there t));
  };
})

look_place : (e : StoreError) → is_look_refusal e ≡ true → is_place_refusal e ≡ true
look_place Stray h = refl
look_place e h = h

look_calm : (e : StoreError) → is_look_refusal e ≡ true → e ≡ Stray → ⊥
look_calm e h is = let b : is_look_refusal Stray ≡ true = ap is_look_refusal (sym is) ∙ h in cc

pub look_compare : {observed : Bool} {key : StoreKey} {digest : List ℕ} {e : StoreError} {old new : DirAt} → LookCause observed key digest e old new → CompareCause observed key digest e old new
look_compare {observed} {key} {digest} {e} x = record { kind = look_place e x.kind; fault = x.fault; damaged = x.damaged; conflict = x.conflict; gone = λ is t. absurd (look_calm e x.kind is) }

pub gone_cause : {observed : Bool} {key : StoreKey} {digest : List ℕ} {old new : DirAt} → (observed ≡ true → HeldBetween old new (IsImageAbsent key)) → CompareCause observed key digest Stray old new
gone_cause absent = record { kind = refl; fault = λ is. cc; damaged = λ path is. cc; conflict = λ other stored fresh is. cc; gone = λ is t. absent t }

-- the folder
change_place : (e : StoreError) → is_change_refusal e ≡ true → is_place_refusal e ≡ true
change_place DirFault h = refl
change_place NoMemory h = refl
change_place Stray h = refl
change_place e h = cc

not_damaged : (path : List ℕ) (e : StoreError) → is_change_refusal e ≡ true → e ≡ Damaged path → ⊥
not_damaged path e h is = let b : is_change_refusal (Damaged path) ≡ true = ap is_change_refusal (sym is) ∙ h in cc

not_other : (other : StoreKey) (stored fresh : List ℕ) (e : StoreError) → is_change_refusal e ≡ true → e ≡ IdConflict other stored fresh → ⊥
not_other other stored fresh e h is = let b : is_change_refusal (IdConflict other stored fresh) ≡ true = ap is_change_refusal (sym is) ∙ h in cc

pub change_placing : {observed : Bool} {key : StoreKey} {digest : List ℕ} {e : StoreError} {old new : DirAt} → ChangeCause observed e old new → PlaceCause observed key digest e old new
change_placing {observed} {key} {digest} {e} x = record {
  kind = change_place e x.kind;
  fault = x.fault;
  damaged = λ path is. absurd (not_damaged path e x.kind is);
  conflict = λ other stored fresh is. absurd (not_other other stored fresh e x.kind is);
  stray = λ is t. inl (x.stray is t);
}

pub compare_placing : {observed : Bool} {key : StoreKey} {digest : List ℕ} {e : StoreError} {a b c : DirAt} → Follows observed a b → (observed ≡ true → KeyWasTaken key a b) → (observed ≡ true → ExtendsBy (reads_image key) b c) → CompareCause observed key digest e b c → PlaceCause observed key digest e a c
compare_placing {observed} {key} {digest} {e} {a} {b} {c} ab taken reads x = record {
  kind = x.kind;
  fault = λ is. fault_after a b c ab (x.fault is);
  damaged = λ path is t. told_after a b c ab t (x.damaged path is t);
  conflict = λ other stored fresh is. conflict_after ab (x.conflict other stored fresh is);
  stray = λ is t. inr (within_self (record { between = b; same = ab.same; taken = taken t; reads = reads t; gone = x.gone is t }));
}

change_fill : (e : StoreError) → is_change_refusal e ≡ true → is_fill_refusal e ≡ true
change_fill DirFault h = refl
change_fill NoMemory h = refl
change_fill Stray h = refl
change_fill e h = cc

pub change_filling : {observed : Bool} {source : Source} {plan : List PlanEntry} {e : StoreError} {old new : DirAt} → ChangeCause observed e old new → FillCause observed source plan e old new
change_filling {observed} {source} {plan} {e} x = record { kind = change_fill e x.kind; fault = x.fault; damaged = λ path is. absurd (not_damaged path e x.kind is); stray = x.stray }

pub fill_after : {observed : Bool} {source : Source} {plan : List PlanEntry} {e : StoreError} {a b c : DirAt} → Follows observed a b → FillCause observed source plan e b c → FillCause observed source plan e a c
fill_after {observed} {source} {plan} {e} {a} {b} {c} ab x = record { kind = x.kind; fault = λ is. fault_after a b c ab (x.fault is); damaged = x.damaged; stray = λ is t. told_after a b c ab t (x.stray is t) }

unlike_kind : (plan : List PlanEntry) (place : ℕ) (e : StoreError) → IsUnlikeRefusal plan place e → is_fill_refusal e ≡ true
unlike_kind plan place (Damaged path) r = refl
unlike_kind plan place NoMemory r = refl
unlike_kind plan place e r = absurd r

abbrev Other : StoreError → Type 0
Other e = (e ≡ DirFault → ⊥) × (e ≡ Stray → ⊥)

unlike_other : (plan : List PlanEntry) (place : ℕ) (e : StoreError) → IsUnlikeRefusal plan place e → Other e
unlike_other plan place (Damaged path) r = (λ is. cc, λ is. cc)
unlike_other plan place NoMemory r = (λ is. cc, λ is. cc)
unlike_other plan place e r = absurd r

module _ {observed : Bool} (faults : ℕ) (reference : Option GName) (source : Source) (plan : List PlanEntry) {old new : DirAt} where
  known_cause : (e x : StoreError) → x ≡ e → FillCause observed source plan e old new → FillCause observed source plan x old new
  known_cause e x is c = subst (λ (y : StoreError). FillCause observed source plan y old new) (sym is) c

  pub fill_cause : (failed : BuildError) (x : StoreError) → IsBuildRefusal plan failed x → (failed ≡ failure.DirFault → Rose old.faults new.faults) → ((place : ℕ) → failed ≡ failure.Unlike place → UnlikeAt (files_of faults reference source) plan place) → (failed ≡ failure.Stray → observed ≡ true → WasStrayImport old new) → FillCause observed source plan x old new
  fill_cause (failure.Unlike place) x r fault unlike stray = record {
    kind = unlike_kind plan place x r;
    fault = λ is. absurd ((unlike_other plan place x r).0 is);
    damaged = λ path is. unlike_planned faults reference path (unlike place refl) (subst (λ (y : StoreError). IsUnlikeRefusal plan place y) is r);
    stray = λ is t. absurd ((unlike_other plan place x r).1 is);
  }
  fill_cause failure.SourceFault x r fault unlike stray = known_cause BundleFault x r (record { kind = refl; fault = λ is. cc; damaged = λ path is. cc; stray = λ is t. cc })
  fill_cause failure.DirFault x r fault unlike stray = known_cause DirFault x r (record { kind = refl; fault = λ is. fault refl; damaged = λ path is. cc; stray = λ is t. cc })
  fill_cause failure.Stray x r fault unlike stray = known_cause Stray x r (record { kind = refl; fault = λ is. cc; damaged = λ path is. cc; stray = λ is t. stray refl t })
  fill_cause failure.NoMemory x r fault unlike stray = known_cause NoMemory x r (record { kind = refl; fault = λ is. cc; damaged = λ path is. cc; stray = λ is t. cc })

unlike_bundle : (plan : List PlanEntry) (place : ℕ) (x : StoreError) → IsUnlikeRefusal plan place x → x ≡ BundleFault → ⊥
unlike_bundle plan place (Damaged path) r is = cc
unlike_bundle plan place NoMemory r is = cc
unlike_bundle plan place x r is = r

-- the bundle's own failure
pub bundle_failed : (plan : List PlanEntry) (failed : BuildError) (x : StoreError) → IsBuildRefusal plan failed x → x ≡ BundleFault → failed ≡ failure.SourceFault
bundle_failed plan (failure.Unlike place) x r is = absurd (unlike_bundle plan place x r is)
bundle_failed plan failure.SourceFault x r is = refl
bundle_failed plan failure.DirFault x r is = let b : DirFault ≡ BundleFault = sym r ∙ is in cc
bundle_failed plan failure.Stray x r is = let b : Stray ≡ BundleFault = sym r ∙ is in cc
bundle_failed plan failure.NoMemory x r is = let b : NoMemory ≡ BundleFault = sym r ∙ is in cc

-- of an image's plan
pub fill_build : {observed : Bool} {source : Source} {e : StoreError} {old new : DirAt} (manifest id : List ℕ) (lines : List ListingLine) (now : ℕ) (plan : List PlanEntry) → plan ≡ image_entries manifest id lines now → FillCause observed source plan e old new → BuildCause observed source lines e old new
fill_build {observed} {source} manifest id lines now plan same x = record {
  kind = x.kind;
  fault = x.fault;
  damaged = λ path is. unlike_listed source path manifest id lines now (subst (λ (l : List PlanEntry). UnlikePlanned source l path) same (x.damaged path is));
  stray = x.stray;
}

-- all together
fill_work : (e : StoreError) → is_fill_refusal e ≡ true → is_import_work_refusal e ≡ true
fill_work (Damaged path) h = refl
fill_work BundleFault h = refl
fill_work DirFault h = refl
fill_work NoMemory h = refl
fill_work Stray h = refl
fill_work e h = cc

place_work : (e : StoreError) → is_place_refusal e ≡ true → is_import_work_refusal e ≡ true
place_work (Damaged path) h = refl
place_work (IdConflict key stored fresh) h = refl
place_work DirFault h = refl
place_work NoMemory h = refl
place_work Stray h = refl
place_work e h = cc

look_import : (e : StoreError) → is_look_refusal e ≡ true → is_import_refusal e ≡ true
look_import (Damaged path) h = refl
look_import (IdConflict key stored fresh) h = refl
look_import DirFault h = refl
look_import NoMemory h = refl
look_import e h = cc

work_import : (e : StoreError) → is_import_work_refusal e ≡ true → is_import_refusal e ≡ true
work_import (Busy area) h = cc
work_import e h = h

import_area : (area here : Area) → is_import_area area ≡ true → is_in area here ≡ true → is_import_area here ≡ true
import_area Images Images of h = refl
import_area Images Incoming of h = refl
import_area Images _ of h = cc
import_area Incoming Images of h = refl
import_area Incoming Incoming of h = refl
import_area Incoming _ of h = cc
import_area _ _ of h = cc

lock_import : (area : Area) (e : StoreError) → is_import_area area ≡ true → is_import_lock_refusal area e ≡ true → is_import_refusal e ≡ true
lock_import area (Busy here) of h = import_area area here of h
lock_import area DirFault of h = refl
lock_import area NoMemory of h = refl
lock_import area e of h = cc

-- what comes only once no image was found
look_early : (e : StoreError) → is_look_refusal e ≡ true → is_late e ≡ true → ⊥
look_early Stray h late = cc
look_early (Busy area) h late = cc
look_early e h late = cc

lock_early : (e : StoreError) → is_import_lock_refusal Images e ≡ true → is_late e ≡ true → ⊥
lock_early (Busy Incoming) h late = cc
lock_early (Busy area) h late = cc
lock_early e h late = cc

pub bundle_early : (refusal : BundleRefusal) → is_late (bundle_refusal refusal) ≡ true → ⊥
bundle_early (bundle.NoFile path) late = cc
bundle_early (bundle.Manifest fault) late = cc
bundle_early (bundle.Id bad) late = cc
bundle_early (bundle.Listing error) late = cc
bundle_early (bundle.BadKind path) late = cc
bundle_early bundle.BundleFault late = cc
bundle_early bundle.NoMemory late = cc

-- a bundle without an image isn't damaged
pub bundle_sound : (refusal : BundleRefusal) (path : List ℕ) → bundle_refusal refusal ≡ Damaged path → ⊥
bundle_sound (bundle.NoFile other) path is = cc
bundle_sound (bundle.Manifest fault) path is = cc
bundle_sound (bundle.Id bad) path is = cc
bundle_sound (bundle.Listing error) path is = cc
bundle_sound (bundle.BadKind other) path is = cc
bundle_sound bundle.BundleFault path is = cc
bundle_sound bundle.NoMemory path is = cc

-- what a kind of refusal isn't
apart_by : (may : StoreError → Bool) (e x : StoreError) → may e ≡ true → may x ≡ false → e ≡ x → ⊥
apart_by may e x h none is = let b : true ≡ false = sym h ∙ (ap may is ∙ none) in cc

-- before an image was looked for
pub lock_in_turn : {observed : Bool} {source : Source} {key : StoreKey} {lines : List ListingLine} {old new : DirAt} (e : StoreError) → LockCause observed Images e old new → FoundInTurn observed source key lines e old new
lock_in_turn e x = record { late = λ late t. absurd (lock_early e x.kind late); damaged = λ path is. absurd (apart_by (is_import_lock_refusal Images) e (Damaged path) x.kind refl is) }

module _ {observed : Bool} {source : Source} {key : StoreKey} {digest : List ℕ} {lines : List ListingLine} {old new : DirAt} where
  pub build_import : (e : StoreError) → BuildCause observed source lines e old new → ImportCause is_import_work_refusal observed source key digest lines e old new
  build_import e x = record {
    kind = fill_work e x.kind;
    fault = x.fault;
    busy = λ area is t. absurd (apart_by is_fill_refusal e (Busy area) x.kind refl is);
    damaged = λ path is. inr (x.damaged path is);
    conflict = λ other stored fresh is. absurd (apart_by is_fill_refusal e (IdConflict other stored fresh) x.kind refl is);
    stray = λ is t. inl (x.stray is t);
  }

  pub place_import : (e : StoreError) → PlaceCause observed key digest e old new → ImportCause is_import_work_refusal observed source key digest lines e old new
  place_import e x = record {
    kind = place_work e x.kind;
    fault = x.fault;
    busy = λ area is t. absurd (apart_by is_place_refusal e (Busy area) x.kind refl is);
    damaged = λ path is. inl (x.damaged path is);
    conflict = x.conflict;
    stray = x.stray;
  }

  pub work_importing : (e : StoreError) → ImportCause is_import_work_refusal observed source key digest lines e old new → ImportCause is_import_refusal observed source key digest lines e old new
  work_importing e x = record { kind = work_import e x.kind; fault = x.fault; busy = x.busy; damaged = x.damaged; conflict = x.conflict; stray = x.stray }

  pub look_importing : (e : StoreError) → LookCause observed key digest e old new → ImportCause is_import_refusal observed source key digest lines e old new
  look_importing e x = record {
    kind = look_import e x.kind;
    fault = x.fault;
    busy = λ area is t. absurd (apart_by is_look_refusal e (Busy area) x.kind refl is);
    damaged = λ path is. inl (x.damaged path is);
    conflict = x.conflict;
    stray = λ is t. absurd (apart_by is_look_refusal e Stray x.kind refl is);
  }

  -- where an image was found
  pub look_in_turn : (e : StoreError) → LookCause observed key digest e old new → FoundInTurn observed source key lines e old new
  look_in_turn e x = record { late = λ late t. absurd (look_early e x.kind late); damaged = λ path is. inl (x.damaged path is) }

  -- and once none was found
  pub late_in_turn : (e : StoreError) → (observed ≡ true → HeldBetween old new (IsImageAbsent key)) → (is_import_lock_refusal Incoming e ≡ false → observed ≡ true → HadIncoming old new) → ImportCause is_import_refusal observed source key digest lines e old new → FoundInTurn observed source key lines e old new
  late_in_turn e absent locked x = record {
    late = λ late t. absent t;
    damaged = λ path is. elim (x.damaged path is) [ inl l ↦ inl l | inr u ↦ inr (u, record { absent = absent; locked = locked (ap (is_import_lock_refusal Incoming) is) }) ];
  }

  pub lock_importing : (area : Area) (e : StoreError) → is_import_area area ≡ true → LockCause observed area e old new → ImportCause is_import_refusal observed source key digest lines e old new
  lock_importing area e of x = record {
    kind = lock_import area e of x.kind;
    fault = x.fault;
    busy = x.busy;
    damaged = λ path is. absurd (apart_by (is_import_lock_refusal area) e (Damaged path) x.kind refl is);
    conflict = λ other stored fresh is. absurd (apart_by (is_import_lock_refusal area) e (IdConflict other stored fresh) x.kind refl is);
    stray = λ is t. absurd (apart_by (is_import_lock_refusal area) e Stray x.kind refl is);
  }
