-- The lock of an area, taken and given back around other calls.
use Rattle.std.proofs.Common.{◌≡◌, ◌≤◌, Bool, true, false, ◌||◌, Some, List, [], ◌∷◌, refl, sym, ◌∙◌, arith}
use Rattle.dir_model.specs.declared.area.Area.{Area}
use Rattle.dir_model.specs.declared.area.Area.TheVariants.{Incoming, Images}
use Rattle.dir_model.specs.declared.spot.Handle.{Handle}
use Rattle.dir_model.specs.declared.spot.Mode.TheVariants.{Shared, Exclusive}
use Rattle.dir_model.specs.declared.spot.Spot.{Spot}
use Rattle.dir_model.specs.declared.request.Request.{Request}
use Rattle.dir_model.specs.declared.request.Request.TheVariants.{OpenArea, TryLock, Close}
use Rattle.dir_model.specs.Local.{IsUnopened}
use Rattle.dir_model.proofs.Chains.{and_more, extends_wider}
use Rattle.dir_rules.specs.declared.standing.Held.{Held}
use Rattle.dir_rules.specs.Standing.{is_in}
use Rattle.dir_trait.specs.DirCalls.{DirAt, ExtendsBy}
use Rattle.dir_trait.specs.Effects.{OnlyAsks}
use Rattle.dir_files.specs.AreaLocks.{is_taking_area, closes, and_area_lock, on_gate}
use Rattle.dir_files.proofs.Locking.{unlocked_same}
use Rattle.folder_building.proofs.Following.{Follows, GivesBack}
use Rattle.image_reading.specs.declared.error.StoreError.{StoreError}
use Rattle.image_store.specs.Refusals.{is_import_lock_refusal}
use Rattle.image_store.specs.Causes.{LockCause, HadIncoming}
use Rattle.image_store.specs.Requests.{takes_lock, imports_at}
use Rattle.image_store.specs.Work.{ImportsUnderImages, UnderImportLocks}

-- the lock was had
pub record Shares (observed : Bool) (area : Area) (h : Handle) (old new : DirAt) : Type 0 where
  pub same : new.process ≡ old.process
  pub faults : old.faults ≤ new.faults
  pub held : new.local ≡ and_area_lock old.local h area Shared
  pub unopened : IsUnopened old.local h
  pub extends : observed ≡ true → ExtendsBy (is_taking_area area Shared) old new

pub follows_share : {observed : Bool} {area : Area} {h : Handle} {a b : DirAt} → Shares observed area h a b → Follows observed a b
follows_share {observed} {area} s = record { same = s.same; faults = s.faults; asks = is_taking_area area Shared; extends = s.extends }

-- the locks of both areas are among an import's requests
pub in_locks : (spot : Spot) (request : Request) → takes_lock request ≡ true → imports_at spot request ≡ true
in_locks spot request is = rw is refl

takes_incoming : (request : Request) → is_taking_area Incoming Shared request ≡ true → takes_lock request ≡ true
takes_incoming (OpenArea area) is = by area is
  where
    by : (area : Area) → is_in Incoming area ≡ true → (is_in Images area || is_in Incoming area) ≡ true
    by Incoming is = refl
    by area is = cc
takes_incoming (TryLock handle Shared) is = refl
takes_incoming (TryLock handle Exclusive) is = cc
takes_incoming (Close handle) is = refl
takes_incoming request is = cc

takes_images : (request : Request) → is_taking_area Images Shared request ≡ true → takes_lock request ≡ true
takes_images (OpenArea area) is = rw is refl
takes_images (TryLock handle Shared) is = refl
takes_images (TryLock handle Exclusive) is = cc
takes_images (Close handle) is = refl
takes_images request is = cc

closes_lock : (h : Handle) (request : Request) → closes h request ≡ true → takes_lock request ≡ true
closes_lock h (Close handle) is = refl
closes_lock h request is = cc

pub share_incoming : (spot : Spot) (request : Request) → is_taking_area Incoming Shared request ≡ true → imports_at spot request ≡ true
share_incoming spot request is = in_locks spot request (takes_incoming request is)

pub share_images : (spot : Spot) (request : Request) → is_taking_area Images Shared request ≡ true → imports_at spot request ≡ true
share_images spot request is = in_locks spot request (takes_images request is)

-- a lock that was refused
pub worked_refused : {observed : Bool} (spot : Spot) {a b : DirAt} (area : Area) → ((r : Request) → is_taking_area area Shared r ≡ true → imports_at spot r ≡ true) → b.process ≡ a.process → a.faults ≤ b.faults → b.local ≡ a.local → (observed ≡ true → ExtendsBy (is_taking_area area Shared) a b) → OnlyAsks observed (imports_at spot) a b
worked_refused spot area wider same faults local extends = record { same = same; faults = faults; local = local; extends = λ t. extends_wider wider (extends t) }

-- work under a lock
pub worked_under : {observed : Bool} (spot : Spot) {area : Area} {h : Handle} {a b c d : DirAt} → ((r : Request) → is_taking_area area Shared r ≡ true → imports_at spot r ≡ true) → Shares observed area h a b → OnlyAsks observed (imports_at spot) b c → GivesBack observed h c d → OnlyAsks observed (imports_at spot) a d
worked_under {observed} spot {area} {h} {a} {b} {c} {d} wider s w g = record {
  same = g.same ∙ (w.same ∙ s.same);
  faults = omega (arith, s.faults, w.faults, g.faultless);
  local = unlocked_same a.local h area Shared s.unopened (w.local ∙ s.held) g.local;
  extends = λ t. and_more (and_more (extends_wider wider (s.extends t)) s.same (w.extends t)) (w.same ∙ s.same) (extends_wider (λ r is. in_locks spot r (closes_lock h r is)) (g.extends t));
}

-- the handles under the second lock, and under the first
pub under_both : (hs : List Held) (h : Handle) → ImportsUnderImages hs → UnderImportLocks (on_gate h Incoming (Some Shared) ∷ hs)
under_both hs h u = record { images = u.images; incoming = refl }

pub under_images : (h : Handle) → ImportsUnderImages (on_gate h Images (Some Shared) ∷ [])
under_images h = record { images = refl; free = refl }

-- what came under the lock of incoming; and what is refused for the lock isn't
pub got_locked : {observed : Bool} {h : Handle} {old mid late new : DirAt} → Shares observed Incoming h old mid → Follows observed late new → observed ≡ true → HadIncoming old new
got_locked {observed} {h} {old} {mid} {late} {new} s b t = record {
  first = mid;
  last = late;
  earlier = (s.extends t).more;
  later = (b.extends t).more;
  same = s.same;
  begins = (s.extends t).grown;
  ends = (b.extends t).grown;
  told = (old.local, h, s.held);
}

pub lock_is_apart : {observed : Bool} {old new : DirAt} (e : StoreError) → LockCause observed Incoming e old new → is_import_lock_refusal Incoming e ≡ false → ⊥
lock_is_apart e x other = let b : true ≡ false = sym x.kind ∙ other in cc
