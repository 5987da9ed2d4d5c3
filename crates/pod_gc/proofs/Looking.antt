-- The pod's folder was looked for alone.
use Rattle.std.proofs.Common.{◌≡◌, ◌≤◌, Bool, true, false, refl, subst}
use Rattle.dir_model.specs.declared.area.Area.{Area}
use Rattle.dir_model.specs.declared.area.Area.TheVariants.{Prepared}
use Rattle.dir_model.specs.declared.pod.PodId.{PodId}
use Rattle.dir_model.specs.declared.spot.Spot.{Spot}
use Rattle.dir_model.specs.declared.spot.Which.{Which}
use Rattle.dir_model.specs.declared.request.Request.{Request}
use Rattle.dir_model.specs.declared.request.Request.TheVariants.{Open, TryLock, Close}
use Rattle.dir_model.specs.Causes.{Rose}
use Rattle.dir_model.specs.Replies.{is_look_at}
use Rattle.dir_model.specs.State.{DirState, spot_eq, stands}
use Rattle.dir_model.proofs.Chains.{extends_wider}
use Rattle.dir_trait.specs.DirCalls.{DirAt, ExtendsBy, HeldBetween}
use Rattle.dir_trait.specs.Effects.{OnlyAsks}
use Rattle.phase_read.specs.declared.found.LookError.{LookError}
use Rattle.phase_read.specs.declared.found.LookError.TheVariants as look
use Rattle.dir_model.specs.Spots.{pod_spot}
use Rattle.pod_locks.specs.declared.setback.Setback.TheVariants as stop
use Rattle.pod_locks.specs.Setbacks.{look_setback}
use Rattle.pod_locks.specs.Requests.{looks_at}
use Rattle.pod_locks.specs.Causes.{StepWasStopped, IsAbsentAt}
use Rattle.pod_gc.specs.RemovalCauses.{RemovalStopsAlone}

look_kinds : (pod : PodId) (a : Area) (r : Request) → is_look_at (spot_eq (pod_spot pod a)) r ≡ true → looks_at pod a r ≡ true
look_kinds pod a (Open here which) is = is
look_kinds pod a (TryLock handle mode) is = refl
look_kinds pod a (Close handle) is = refl
look_kinds pod a _ is = cc

pub worked_look : {observed : Bool} {spot : Spot} (pod : PodId) (a : Area) (old new : DirAt) → spot ≡ pod_spot pod a → new.process ≡ old.process → old.faults ≤ new.faults → new.local ≡ old.local
    → (observed ≡ true → ExtendsBy (is_look_at (spot_eq spot)) old new) → OnlyAsks observed (looks_at pod a) old new
worked_look {observed} {spot} pod a old new is same faults local extends = record {
  same = same;
  faults = faults;
  local = local;
  extends = λ t. extends_wider (look_kinds pod a) (subst (λ (s : Spot). ExtendsBy (is_look_at (spot_eq s)) old new) is (extends t));
}

module _ {observed : Bool} {spot : Spot} (pod : PodId) (old new : DirAt) (is : spot ≡ pod_spot pod Prepared) where
  pub alone_there : (observed ≡ true → HeldBetween old new (λ s. stands s.namespace spot ≡ true)) → RemovalStopsAlone observed pod stop.NoManifest old new
  alone_there there = record { calm = refl; fault = λ e. cc; missing = λ e. cc; there = λ e t. subst (λ (x : Spot). HeldBetween old new (λ s. stands s.namespace x ≡ true)) is (there t) }

  pub alone_missing : (observed ≡ true → HeldBetween old new (λ s. stands s.namespace spot ≡ false)) → RemovalStopsAlone observed pod stop.Missing old new
  alone_missing absent = record { calm = refl; fault = λ e. cc; missing = λ e t. subst (λ (x : Spot). HeldBetween old new (λ s. stands s.namespace x ≡ false)) is (absent t); there = λ e. cc }

pub alone_failed : {observed : Bool} (pod : PodId) (old new : DirAt) (e : LookError) → (e ≡ look.DirFault → Rose old.faults new.faults) → RemovalStopsAlone observed pod (look_setback e) old new
alone_failed pod old new look.DirFault rose = record { calm = refl; fault = λ is. rose refl; missing = λ is. cc; there = λ is. cc }
alone_failed pod old new _ rose = record { calm = refl; fault = λ is. cc; missing = λ is. cc; there = λ is. cc }

-- the folder was missing, or the look failed
pub missing_stops : {observed : Bool} {spot : Spot} (pod : PodId) (a : Area) (old new : DirAt) → spot ≡ pod_spot pod a → (observed ≡ true → HeldBetween old new (λ s. stands s.namespace spot ≡ false)) → StepWasStopped observed pod (IsAbsentAt pod a) stop.Missing old new
missing_stops pod a old new is absent = record { fault = λ e. cc; missing = λ e t. subst (λ (x : Spot). HeldBetween old new (λ s. stands s.namespace x ≡ false)) is (absent t); manifest = λ e. cc; stray = λ e. cc }

pub failed_stops : {observed : Bool} {pod : PodId} {Missed : DirState → Type 0} {old new : DirAt} (e : LookError) → (e ≡ look.DirFault → Rose old.faults new.faults) → StepWasStopped observed pod Missed (look_setback e) old new
failed_stops look.DirFault rose = record { fault = λ is. rose refl; missing = λ is. cc; manifest = λ is. cc; stray = λ is. cc }
failed_stops _ rose = record { fault = λ is. cc; missing = λ is. cc; manifest = λ is. cc; stray = λ is. cc }

pub look_calm : (e : LookError) (which : Which) → look_setback e ≡ stop.Busy which → ⊥
look_calm look.DirFault which is = cc
look_calm _ which is = cc

pub look_no_stray : (e : LookError) → look_setback e ≡ stop.Stray → ⊥
look_no_stray look.DirFault is = cc
look_no_stray _ is = cc
