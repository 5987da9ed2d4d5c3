-- Where every process keeps the local rules a sweep is refused as stray only by what a started app wrote.
use Rattle.std.proofs.Common.{◌≡◌, ℕ, Bool, true, Some, List, Result, Ok, Err, IfErr, refl, arith}
use Rattle.dir_model.specs.declared.area.Area.{Area}
use Rattle.dir_model.specs.declared.area.Area.TheVariants.{Embryo}
use Rattle.dir_model.specs.declared.spot.Handle.{Handle}
use Rattle.dir_model.specs.declared.spot.Mode.TheVariants.{Exclusive}
use Rattle.dir_model.specs.declared.spot.Spot.{Spot}
use Rattle.dir_model.specs.declared.request.DirError.{DirError}
use Rattle.dir_model.specs.declared.request.DirError.TheVariants.{Missing, Exists, NotEmpty, Locked, Failed}
use Rattle.dir_model.specs.declared.request.DirError.TheVariants as dir
use Rattle.dir_model.specs.declared.request.Request.TheVariants.{ListArea, ListIn}
use Rattle.dir_model.specs.Replies.{may_refuse}
use Rattle.dir_rules.specs.declared.seen.Seen.{Seen}
use Rattle.dir_trait.specs.DirCalls.{DirAt, ExtendsBy}
use Rattle.dir_trait.specs.Knowledge.{Knows}
use Rattle.dir_trait.specs.Effects.{Given}
use Rattle.dir_files.specs.declared.lock_error.LockError.{LockError}
use Rattle.dir_files.specs.declared.lock_error.LockError.TheVariants as lock
use Rattle.dir_files.specs.AreaLocks.{closes, with_gate, MayLock}
use Rattle.phase_read.specs.declared.found.LookError.{LookError}
use Rattle.phase_read.specs.declared.found.LookError.TheVariants as look
use Rattle.pod_locks.proofs.Traces.{grown_by}
use Rattle.pod_locks.specs.declared.setback.Setback.{Setback}
use Rattle.pod_locks.specs.declared.setback.Setback.TheVariants as stop
use Rattle.pod_locks.specs.Holding.{KeepsHoldings, KeepsReady}
use Rattle.pod_locks.specs.Causes.{ByApp}
use Rattle.pod_locks.proofs.Calls.{Follows, follows_none}
use Rattle.pod_locks.proofs.Lawful.{by_app_part}
use Rattle.pod_gc.specs.declared.gc_error.GcError.{GcError}
use Rattle.pod_gc.specs.declared.gc_error.GcError.TheVariants as fault
use Rattle.pod_gc.specs.declared.line.Deed.{Deed}
use Rattle.pod_gc.specs.Causes.{listing_fault, look_fault, lock_fault, deed_of}
use Rattle.pod_gc.specs.Sweeping.{MayPassPods, MaySweepAll}
use Rattle.pod_gc.proofs.Gates.{may_lock, passes_under}

-- what is never stray

pub memory_never : {e : GcError} → e ≡ fault.NoMemory → e ≡ fault.Stray → ⊥
memory_never is stray = cc

pub look_never : (e : LookError) → look_fault e ≡ fault.Stray → ⊥
look_never look.DirFault is = cc
look_never _ is = cc

pub lock_never : (e : LockError) → lock_fault e ≡ fault.Stray → ⊥
lock_never lock.DirFault is = cc
lock_never _ is = cc

pub listing_never : (spot : Spot) (path : List ℕ) (e : DirError) → (e ≡ Missing → ⊥) → may_refuse (ListIn (record { spot = spot; path = path })) e ≡ true → listing_fault e ≡ fault.Stray → ⊥
listing_never spot path Missing other may is = other refl
listing_never spot path Failed other may is = cc
listing_never spot path dir.NoMemory other may is = cc
listing_never spot path Exists other may is = cc
listing_never spot path NotEmpty other may is = cc
listing_never spot path Locked other may is = cc

pub area_never : (place : Area) (e : DirError) → may_refuse (ListArea place) e ≡ true → listing_fault e ≡ fault.Stray → ⊥
area_never place Failed may is = cc
area_never place dir.NoMemory may is = cc
area_never place Missing may is = cc
area_never place Exists may is = cc
area_never place NotEmpty may is = cc
area_never place Locked may is = cc

-- what a stray step says, a stray deed says
pub step_stray : (Q : Type 0) (done : Deed) (r : Result (Unit {0}) Setback) → IfErr r (λ e. e ≡ stop.Stray → Q) → IfErr (deed_of r done) (λ e. e ≡ fault.Stray → Q)
step_stray Q done (Ok x) says = tt
step_stray Q done (Err stop.Missing) says = tt
step_stray Q done (Err stop.NoManifest) says = tt
step_stray Q done (Err (stop.Busy which)) says = tt
step_stray Q done (Err stop.Stray) says = λ is. says refl
step_stray Q done (Err stop.DirFault) says = λ is. cc
step_stray Q done (Err stop.NoMemory) says = λ is. cc

-- after other steps that keep what is known
pub by_app_later : {observed : Bool} {May : Seen → Type 0} {a b : DirAt} (c : DirAt) → ((s z : Seen) → KeepsHoldings s z → May s → May z) → Follows observed a b → (observed ≡ true → Given May a (λ s. KeepsReady s b)) → ByApp observed May b c → ByApp observed May a c
by_app_later {observed} {May} {a} {b} c keeps ab ready x = by_app_part ab (follows_none {a = c}) (λ t s k m. let z = ready t s k m in (z.known, z.knows, keeps s z.known z.keeps m)) x

-- under the lock of embryo
pub gate_passes : {observed : Bool} {now expire : ℕ} {a b : DirAt} (h : Handle) → (observed ≡ true → (s : Seen) → Knows a s → MayLock s Embryo Exclusive → Knows b (with_gate s h Embryo (Some Exclusive)))
    → observed ≡ true → Given (MaySweepAll now expire) a (λ s. (z : Seen) × Knows b z × MayPassPods Embryo now expire z)
gate_passes h taken t s k m = (with_gate s h Embryo (Some Exclusive), taken t s k (may_lock m), passes_under h m)

pub follows_unlock : {observed : Bool} {c d : DirAt} (h : Handle) → d.process ≡ c.process → d.faults ≡ c.faults → (observed ≡ true → ExtendsBy (closes h) c d) → Follows observed c d
follows_unlock h same faults extends = record { same = same; faults = omega (arith, faults); grown = λ t. grown_by (extends t) }
