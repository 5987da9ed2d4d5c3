-- The exclusive lock of an area, taken and given back around other calls.
use Rattle.std.proofs.Common.{◌≡◌, ◌≤◌, Bool, true, false, not, ◌&&◌, ◌||◌, Option, Some, None, refl, sym, ap, subst, ◌∙◌, arith}
use Rattle.std.specs.List.{list_any}
use Rattle.plain_laws.proofs.Lists.{none_of_filter}
use Rattle.dir_model.specs.declared.area.Area.{Area}
use Rattle.dir_model.specs.declared.area.Area.TheVariants.{Incoming, Images, Removed}
use Rattle.dir_model.specs.declared.intent.Intent.{Intent}
use Rattle.dir_model.specs.declared.intent.Kind.{Kind}
use Rattle.dir_model.specs.declared.intent.Kind.TheVariants as kind
use Rattle.dir_model.specs.declared.pod.PodId.{PodId}
use Rattle.dir_model.specs.declared.spot.Handle.{Handle}
use Rattle.dir_model.specs.declared.spot.Mode.TheVariants.{Shared, Exclusive}
use Rattle.dir_model.specs.declared.request.Request.{Request}
use Rattle.dir_model.specs.declared.request.Request.TheVariants.{OpenArea, TryLock, Close}
use Rattle.dir_model.specs.Areas.{rank}
use Rattle.dir_model.specs.Local.{IsUnopened}
use Rattle.dir_model.proofs.Chains.{and_more, extends_wider}
use Rattle.dir_model.proofs.Lists.{same_self, or_last}
use Rattle.dir_rules.specs.LockRules.{is_open_on}
use Rattle.dir_model.specs.declared.opening.Target.TheVariants.{Gate}
use Rattle.dir_rules.specs.declared.standing.Standing.{Standing}
use Rattle.dir_rules.specs.declared.seen.Seen.{Seen}
use Rattle.dir_rules.specs.declared.seen.ShownItem.{ShownItem}
use Rattle.dir_rules.specs.Standing.{is_in, is_known, intends, began_as, is_image_rm, is_image_remover, is_gate_exclusive}
use Rattle.dir_trait.specs.DirCalls.{DirAt, ExtendsBy}
use Rattle.dir_trait.specs.Knowledge.{Knows}
use Rattle.dir_trait.specs.Effects.{OnlyAsks}
use Rattle.dir_files.specs.AreaLocks.{is_taking_area, closes, and_area_lock, with_gate, MayLock, exclusive_given, is_listed_under}
use Rattle.dir_files.proofs.Locking.{unlocked_same}
use Rattle.folder_building.proofs.Following.{Follows, GivesBack}
use Rattle.image_removal.specs.declared.pass.Pass.{Pass}
use Rattle.image_removal.specs.declared.pass.Pass.TheVariants.{PutAway, Delete}
use Rattle.image_removal.specs.Requests.{locks_one}
use Rattle.image_removal.specs.Passes.{area_of_pass, is_close}
use Rattle.image_removal.specs.Work.{IsBareOfRemoved, HoldsArea, MayPutAway, MayRemoveImage, MayPassStore, MaySweepStore, KeepsStandingAndRules, StaysBare}

-- the lock was had
pub record Takes (observed : Bool) (area : Area) (h : Handle) (old new : DirAt) : Type 0 where
  pub same : new.process ≡ old.process
  pub faults : old.faults ≤ new.faults
  pub held : new.local ≡ and_area_lock old.local h area Exclusive
  pub unopened : IsUnopened old.local h
  pub extends : observed ≡ true → ExtendsBy (is_taking_area area Exclusive) old new

pub follows_take : {observed : Bool} {area : Area} {h : Handle} {a b : DirAt} → Takes observed area h a b → Follows observed a b
follows_take {observed} {area} s = record { same = s.same; faults = s.faults; asks = is_taking_area area Exclusive; extends = s.extends }

-- a lock is among the requests for one of two
pub takes_first : (first second : Area) (request : Request) → is_taking_area first Exclusive request ≡ true → locks_one first second request ≡ true
takes_first first second (OpenArea area) is = rw is refl
takes_first first second (TryLock handle Exclusive) is = refl
takes_first first second (TryLock handle Shared) is = cc
takes_first first second (Close handle) is = refl
takes_first first second request is = cc

pub takes_second : (first second : Area) (request : Request) → is_taking_area second Exclusive request ≡ true → locks_one first second request ≡ true
takes_second first second (OpenArea area) is = or_last (is_in first area) (is_in second area) is
takes_second first second (TryLock handle Exclusive) is = refl
takes_second first second (TryLock handle Shared) is = cc
takes_second first second (Close handle) is = refl
takes_second first second request is = cc

pub closes_one : (first second : Area) (h : Handle) (request : Request) → closes h request ≡ true → locks_one first second request ≡ true
closes_one first second h (Close handle) is = refl
closes_one first second h request is = cc

pub closes_taken : (area : Area) (h : Handle) (request : Request) → closes h request ≡ true → is_taking_area area Exclusive request ≡ true
closes_taken area h (Close handle) is = refl
closes_taken area h request is = cc

pub closes_some : (h : Handle) (request : Request) → closes h request ≡ true → is_close request ≡ true
closes_some h (Close handle) is = refl
closes_some h request is = cc

-- a lock that was refused
pub worked_refused : {observed : Bool} {asks : Request → Bool} {a b : DirAt} (area : Area) → ((r : Request) → is_taking_area area Exclusive r ≡ true → asks r ≡ true)
    → b.process ≡ a.process → a.faults ≤ b.faults
    → b.local ≡ a.local → (observed ≡ true → ExtendsBy (is_taking_area area Exclusive) a b) → OnlyAsks observed asks a b
worked_refused area wider same faults local extends = record { same = same; faults = faults; local = local; extends = λ t. extends_wider wider (extends t) }

-- work under a lock
pub worked_under : {observed : Bool} {asks : Request → Bool} {area : Area} {h : Handle} {a b c d : DirAt} → ((r : Request) → is_taking_area area Exclusive r ≡ true → asks r ≡ true)
    → Takes observed area h a b → OnlyAsks observed asks b c → GivesBack observed h c d → OnlyAsks observed asks a d
worked_under {observed} {asks} {area} {h} {a} {b} {c} {d} wider s w g = record {
  same = g.same ∙ (w.same ∙ s.same);
  faults = omega (arith, s.faults, w.faults, g.faultless);
  local = unlocked_same a.local h area Exclusive s.unopened (w.local ∙ s.held) g.local;
  extends = λ t. and_more (and_more (extends_wider wider (s.extends t)) s.same (w.extends t)) (w.same ∙ s.same)
      (extends_wider (λ r is. wider r (closes_taken area h r is)) (g.extends t));
}

-- who may take it
remover : (k : Kind) → is_image_rm k ≡ true → is_image_remover k ≡ true
remover kind.ImageRm is = refl
remover k is = cc

began_remover : (o : Option Intent) → intends (λ i. is_image_rm i.kind) o ≡ true → intends (λ i. is_image_remover i.kind) o ≡ true
began_remover None is = cc
began_remover (Some intent) is = remover intent.kind is

pub removal_pass : {draw : PodId} {s : Seen} → MayRemoveImage draw s → MayPassStore Removed s
removal_pass {draw} {s} may = record { kind = began_remover s.standing.intent may.kind; free = may.removed; bare = may.bare }

pub may_lock_images : {draw : PodId} {s : Seen} → MayRemoveImage draw s → MayLock s Images Exclusive
may_lock_images may = record { free = may.images; kind = may.kind }

pub may_lock_removed : {s : Seen} → MayPassStore Removed s → MayLock s Removed Exclusive
may_lock_removed may = record { free = may.free; kind = may.kind }

pub may_lock_pass : (pass : Pass) {s : Seen} → MayPassStore (area_of_pass pass) s → MayLock s (area_of_pass pass) Exclusive
may_lock_pass PutAway may = record { free = may.free; kind = may.kind }
may_lock_pass Delete may = record { free = may.free; kind = may.kind }

pub first_pass : {s : Seen} → MaySweepStore s → MayPassStore Incoming s
first_pass may = record { kind = may.kind; free = may.incoming; bare = may.bare }

pub pass_still : {area : Area} {s : Seen} {new : DirAt} → MayPassStore area s → (x : StaysBare s new) → MayPassStore area x.known
pass_still {area} may x = record {
  kind = ap (λ (z : Standing). began_as is_image_remover z) x.standing ∙ may.kind;
  free = ap (λ (z : Standing). not (is_open_on (Gate area) z.holdings)) x.standing ∙ may.free;
  bare = x.bare;
}

pub second_pass : {s : Seen} → MaySweepStore s → MayPassStore Removed s
second_pass may = record { kind = may.kind; free = may.removed; bare = may.bare }

-- what it knows under the lock
pub holds_now : (area : Area) (s : Seen) (h : Handle) → IsBareOfRemoved s → HoldsArea area (with_gate s h area (Some Exclusive))
holds_now area s h bare = record { held = ap (λ b. (b && true) || list_any (is_gate_exclusive area) s.standing.holdings) (same_self (rank area)); bare = bare }

pub puts_now : {draw : PodId} (s : Seen) (h : Handle) → MayRemoveImage draw s → MayPutAway draw (with_gate s h Images (Some Exclusive))
puts_now s h may = record { held = refl; drawn = may.drawn; fresh = may.fresh; bare = may.bare }

-- and once it is given back
module _ {c d : DirAt} (s : Seen) (h : Handle) (area : Area) (new : is_known h s.standing ≡ false)
    (given : (z : Seen) → is_known h z.standing ≡ false → Knows c (with_gate z h area (Some Exclusive)) → Knows d (exclusive_given area z)) where
  abbrev Under : Seen
  Under = with_gate s h area (Some Exclusive)

  -- without the handle
  abbrev rid : Seen → Seen
  rid known = record known { standing = s.standing }

  with_it : (known : Seen) → known.standing ≡ Under.standing → with_gate (rid known) h area (Some Exclusive) ≡ known
  with_it known is = ap (λ (z : Standing). let r : Seen = record known { standing = z } in r) (sym is)

  gives : (known : Seen) → known.standing ≡ Under.standing → Knows c known → Knows d (exclusive_given area (rid known))
  gives known is k = given (rid known) new (subst (λ (z : Seen). Knows c z) (sym (with_it known is)) k)

  pub back_bare : StaysBare Under c → StaysBare s d
  back_bare x = record {
    known = exclusive_given area (rid x.known);
    standing = refl;
    kept = x.kept;
    bare = none_of_filter (λ (i : ShownItem). is_in i.inner.spot.area Removed) (λ (i : ShownItem). not (is_listed_under area i.inner)) x.known.items x.bare;
    knows = gives x.known x.standing x.knows;
  }

  pub back_conforms : KeepsStandingAndRules Under c → KeepsStandingAndRules s d
  back_conforms x = record { known = exclusive_given area (rid x.known); standing = refl; kept = x.kept; knows = gives x.known x.standing x.knows }

-- or where it wasn't had
pub same_bare : {s : Seen} {d : DirAt} → IsBareOfRemoved s → Knows d s → StaysBare s d
same_bare {s} bare k = record { known = s; standing = refl; kept = refl; bare = bare; knows = k }

pub same_conforms : {s : Seen} {d : DirAt} → Knows d s → KeepsStandingAndRules s d
same_conforms {s} k = record { known = s; standing = refl; kept = refl; knows = k }
