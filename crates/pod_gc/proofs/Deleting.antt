-- What a process may do that holds a pod's Own in a garbage place, and what it knows once that is given up.
use Rattle.std.proofs.Common.{◌≡◌, ◌≤◌, ℕ, Bool, true, false, not, ◌||◌, cond, Some, List, [], ◌∷◌, ◌++◌, filter, refl, sym, ap, subst, ◌∙◌, arith}
use Rattle.std.specs.List.{list_any}
use Rattle.plain_laws.proofs.Lists.{none_of_filter}
use Rattle.dir_model.specs.declared.area.Area.{Area}
use Rattle.dir_model.specs.declared.area.Area.TheVariants.{Prepared, ExitedGarbage, Garbage}
use Rattle.dir_model.specs.declared.pod.PodId.{PodId}
use Rattle.dir_model.specs.declared.spot.Handle.{Handle}
use Rattle.dir_model.specs.declared.spot.Mode.TheVariants.{Exclusive}
use Rattle.dir_model.specs.declared.spot.Spot.{Spot}
use Rattle.dir_model.specs.declared.spot.Which.{Which}
use Rattle.dir_model.specs.declared.spot.Which.TheVariants.{Own}
use Rattle.dir_model.specs.declared.request.DirError.TheVariants.{Missing}
use Rattle.dir_model.specs.declared.request.Request.{Request}
use Rattle.dir_model.specs.declared.request.Request.TheVariants.{Close, MoveFolder, RemoveFolder, ListIn, RemoveFileIn, RemoveDirIn}
use Rattle.dir_model.specs.declared.request.Reply.{Reply}
use Rattle.dir_model.specs.declared.request.Reply.TheVariants.{Done}
use Rattle.dir_model.specs.Areas.{rank}
use Rattle.dir_model.specs.Causes.{Rose}
use Rattle.dir_model.specs.Local.{IsUnopened}
use Rattle.dir_model.specs.State.{DirState, spot_eq, folder_at, stands}
use Rattle.dir_model.proofs.Chains.{and_call, and_more, extends_wider}
use Rattle.dir_model.proofs.Lists.{or_last, any_fewer, same_self}
use Rattle.dir_model.proofs.Moments.{at_weaker}
use Rattle.dir_model.proofs.Spots.{spot_self}
use Rattle.dir_rules.specs.declared.standing.Held.{Held}
use Rattle.dir_rules.specs.declared.seen.Seen.{Seen}
use Rattle.dir_rules.specs.declared.seen.ShownItem.{ShownItem}
use Rattle.dir_rules.specs.Standing.{is_garbage, is_in, is_handle_held, gives_up, began_as, is_remover}
use Rattle.dir_rules.specs.LockRules.{is_removal_held, may_lock_own}
use Rattle.dir_rules.specs.Seen.{forget_items}
use Rattle.dir_rules.specs.Conforms.{seen_replied, Looked}
use Rattle.dir_laws.proofs.Rose.{rose_later}
use Rattle.dir_trait.specs.DirCalls.{DirAt, DirCall, ExtendsBy, HeldBetween}
use Rattle.dir_trait.specs.Knowledge.{Knows, OnlyLooks}
use Rattle.dir_trait.proofs.Knowing.{knows_call}
use Rattle.dir_trait.proofs.Looking.{fresh_of}
use Rattle.dir_trait.specs.Effects.{OnlyAsks, LeavesOpen, Given}
use Rattle.folder_contents.proofs.Spots.{one_location}
use Rattle.folder_removal.specs.declared.error.DeleteError.{DeleteError}
use Rattle.folder_removal.specs.declared.error.DeleteError.TheVariants as delete
use Rattle.folder_removal.specs.Removal as removal
use Rattle.folder_removal.specs.Removal.{is_removal_area, asks_deletion_at, is_stray_deletion, EndsWithStrayDeletion, EndsRemoved}
use Rattle.folder_removal.proofs.Strays.{stray_called}
use Rattle.folder_removal.specs.Known.{is_there, MayDelete, KnowsBut, KnowsDeleted, Deletes, OnlyTries}
use Rattle.dir_model.specs.Spots.{pod_spot}
use Rattle.pod_locks.specs.ClaimHolding.{is_on_folder}
use Rattle.pod_locks.proofs.ClaimSeen.{off, none_kind}
use Rattle.pod_locks.specs.Work.{Grew}
use Rattle.pod_locks.proofs.Traces.{grown_by, deeds_after, one_deed}
use Rattle.pod_locks.specs.declared.setback.Setback.{Setback}
use Rattle.pod_locks.specs.declared.setback.Setback.TheVariants as stop
use Rattle.pod_locks.specs.Setbacks.{delete_setback}
use Rattle.pod_locks.specs.Requests.{looks_at}
use Rattle.pod_locks.specs.Holding.{and_pod_lock, on_pod_lock, with_pod_lock, is_in_garbage, IsBare, MayTakeLock, KeepsHoldings, KeepsReady}
use Rattle.pod_locks.specs.Causes.{StepWasStopped, IsAbsentAt, CannotOpenAt, Did, is_stray_step}
use Rattle.pod_locks.proofs.Calls.{lock_closed}
use Rattle.pod_gc.specs.RemovalRequests.{is_garbage_place, deletes_in, removes}
use Rattle.pod_gc.specs.RemovalCauses.{is_missing, StoppedDeleting}
use Rattle.pod_gc.specs.RemovalHolding.{MayRemove, HasOwn, KeepsBut}
use Rattle.pod_gc.proofs.CallKinds.{looks_remove}
use Rattle.pod_gc.proofs.Closing.{given_holdings, given_kept}
use Rattle.pod_gc.proofs.Stages.{same_ready}
use Rattle.pod_locks.proofs.Parts.{none_there}

-- the two garbage places

pub place_deletes : (a : Area) → is_garbage_place a ≡ true → is_removal_area a ≡ true
place_deletes ExitedGarbage is = refl
place_deletes Garbage is = refl
place_deletes _ is = cc

pub place_garbage : (a : Area) → is_garbage_place a ≡ true → is_garbage a ≡ true
place_garbage ExitedGarbage is = refl
place_garbage Garbage is = refl
place_garbage _ is = cc

place_stage : (a : Area) → is_garbage_place a ≡ true → rank a ≤ 5
place_stage ExitedGarbage is = omega arith
place_stage Garbage is = omega arith
place_stage _ is = cc

not_prepared : (a : Area) → is_garbage_place a ≡ true → is_in Prepared a ≡ false
not_prepared ExitedGarbage is = refl
not_prepared Garbage is = refl
not_prepared _ is = cc

-- the calls are among those of a removal

pub delete_kinds : (pod : PodId) (a : Area) (r : Request) → asks_deletion_at (pod_spot pod a) r ≡ true → deletes_in pod a r ≡ true
delete_kinds pod a r is = or_last (looks_at pod a r) (asks_deletion_at (pod_spot pod a) r) is

pub look_kinds : (pod : PodId) (a : Area) (r : Request) → looks_at pod a r ≡ true → deletes_in pod a r ≡ true
look_kinds pod a r is = ap (λ b. b || asks_deletion_at (pod_spot pod a) r) is

first_or : (a b c : Bool) → (a || b) ≡ true → (a ≡ true → c ≡ true) → (b ≡ true → c ≡ true) → c ≡ true
first_or true b c is f g = f refl
first_or false b c is f g = g is

delete_removes : (pod : PodId) (now : ℕ) (a : Area) → is_garbage_place a ≡ true → (r : Request) → asks_deletion_at (pod_spot pod a) r ≡ true → removes pod now r ≡ true
delete_removes pod now ExitedGarbage place (ListIn inner) is = ap (λ b. b || asks_deletion_at (pod_spot pod Garbage) (ListIn inner)) is
delete_removes pod now ExitedGarbage place (RemoveFileIn inner) is = ap (λ b. b || asks_deletion_at (pod_spot pod Garbage) (RemoveFileIn inner)) is
delete_removes pod now ExitedGarbage place (RemoveDirIn inner) is = ap (λ b. b || asks_deletion_at (pod_spot pod Garbage) (RemoveDirIn inner)) is
delete_removes pod now ExitedGarbage place (RemoveFolder spot) is = ap (λ b. b || asks_deletion_at (pod_spot pod Garbage) (RemoveFolder spot)) is
delete_removes pod now ExitedGarbage place _ is = cc
delete_removes pod now Garbage place (ListIn inner) is = or_last (asks_deletion_at (pod_spot pod ExitedGarbage) (ListIn inner)) (asks_deletion_at (pod_spot pod Garbage) (ListIn inner)) is
delete_removes pod now Garbage place (RemoveFileIn inner) is = or_last (asks_deletion_at (pod_spot pod ExitedGarbage) (RemoveFileIn inner)) (asks_deletion_at (pod_spot pod Garbage) (RemoveFileIn inner)) is
delete_removes pod now Garbage place (RemoveDirIn inner) is = or_last (asks_deletion_at (pod_spot pod ExitedGarbage) (RemoveDirIn inner)) (asks_deletion_at (pod_spot pod Garbage) (RemoveDirIn inner)) is
delete_removes pod now Garbage place (RemoveFolder spot) is = or_last (asks_deletion_at (pod_spot pod ExitedGarbage) (RemoveFolder spot)) (asks_deletion_at (pod_spot pod Garbage) (RemoveFolder spot)) is
delete_removes pod now Garbage place _ is = cc
delete_removes pod now _ place r is = cc

pub deletes_remove : (pod : PodId) (now : ℕ) (a : Area) → is_garbage_place a ≡ true → (r : Request) → deletes_in pod a r ≡ true → removes pod now r ≡ true
deletes_remove pod now a place r is =
    first_or (looks_at pod a r) (asks_deletion_at (pod_spot pod a) r) (removes pod now r) is (looks_remove pod now a (place_stage a place) r) (delete_removes pod now a place r)

pub worked_delete : {observed : Bool} {spot : Spot} (pod : PodId) (a : Area) (old new : DirAt) → spot ≡ pod_spot pod a → new.process ≡ old.process → old.faults ≤ new.faults → new.local ≡ old.local
    → (observed ≡ true → ExtendsBy (asks_deletion_at spot) old new) → OnlyAsks observed (deletes_in pod a) old new
worked_delete {observed} {spot} pod a old new is same faults local extends = record {
  same = same;
  faults = faults;
  local = local;
  extends = λ t. extends_wider (delete_kinds pod a) (subst (λ (s : Spot). ExtendsBy (asks_deletion_at s) old new) is (extends t));
}

-- why it wasn't deleted

stray_is : (r : Request) (y : Reply) → is_stray_deletion r y ≡ true → is_stray_step r y ≡ true
stray_is (MoveFolder from to) y is = cc
stray_is r y is = is

pub delete_stops : {observed : Bool} {spot : Spot} {old new : DirAt} (e : DeleteError) → (e ≡ delete.DirFault → Rose old.faults new.faults) → (e ≡ delete.Stray → observed ≡ true → EndsWithStrayDeletion spot old new)
    → StoppedDeleting observed spot (delete_setback e) old new
delete_stops delete.DirFault rose stray = record { fault = λ is. rose refl; there = refl; stray = λ is. cc }
delete_stops delete.NoMemory rose stray = record { fault = λ is. cc; there = refl; stray = λ is. cc }
delete_stops delete.Stray rose stray = record { fault = λ is. cc; there = refl; stray = λ is t. stray refl t }

-- it had stood there
pub stood_stops : {observed : Bool} {pod : PodId} {Missed : DirState → Type 0} {spot : Spot} {s : Setback} {old mid new : DirAt} → mid.process ≡ old.process → old.faults ≤ mid.faults → (observed ≡ true → Grew old.trace mid.trace)
    → (observed ≡ true → HeldBetween old mid (λ x. stands x.namespace spot ≡ true)) → StoppedDeleting observed spot s mid new → StepWasStopped observed pod Missed s old new
stood_stops {observed} {pod} {Missed} {spot} {s} {old} {mid} {new} same faults grown stood x = record {
  fault = λ is. rose_later old.faults mid.faults new.faults faults (x.fault is);
  missing = λ is t. absurd (apart stop.Missing is refl);
  manifest = λ is. apart stop.NoManifest is refl;
  stray = λ is t.
      let w = subst (λ (p : ℕ). removal.WasStrayDeletion spot p mid.trace new.trace) same (x.stray is t) in
      record {
        request = w.request;
        reply = w.reply;
        stray = stray_is w.request w.reply w.stray;
        called = stray_called old.trace (grown t).more (grown t).grown (stood t) w;
        did = deeds_after (grown t) (deeds_after (grown_by w.first) (one_deed w.last));
      };
}
  where
    apart : (y : Setback) → s ≡ y → is_missing y ≡ true → ⊥
    apart y is missing = let clash : true ≡ false = sym missing ∙ (ap is_missing (sym is) ∙ x.there) in cc

pub delete_calm : (e : DeleteError) (which : Which) → delete_setback e ≡ stop.Busy which → ⊥
delete_calm delete.DirFault which is = cc
delete_calm delete.Stray which is = cc
delete_calm delete.NoMemory which is = cc

pub deed_removed : {spot : Spot} (pod : PodId) (a : Area) (old new : DirAt) → spot ≡ pod_spot pod a → EndsRemoved spot old new → Did (RemoveFolder (pod_spot pod a)) Done old.process old.trace new.trace
deed_removed {spot} pod a old new is w = subst (λ (s : Spot). Did (RemoveFolder s) Done old.process old.trace new.trace) is (deeds_after (grown_by w.first) (one_deed w.last))

pub own_stopped : {observed : Bool} {e : Setback} {old new : DirAt} (pod : PodId) (a : Area) → StepWasStopped observed pod (CannotOpenAt pod a Own) e old new → StepWasStopped observed pod (IsAbsentAt pod a) e old new
own_stopped pod a x = record {
  fault = x.fault;
  missing = λ is t. at_weaker (IsAbsentAt pod a) (λ s h. none_there s.entries (folder_at s.namespace (pod_spot pod a)) h) (x.missing is t);
  manifest = x.manifest;
  stray = x.stray;
}

-- who may ask for Own there

may_own : (s : Seen) (u : List ℕ) (a : Area) → is_garbage_place a ≡ true → began_as is_remover s.standing ≡ true → may_lock_own s.standing false u a Exclusive ≡ true
may_own s u ExitedGarbage place began = began
may_own s u Garbage place began = began
may_own s u _ place began = cc

pub takes_own : {now : ℕ} {s : Seen} (pod : PodId) (a : Area) → is_garbage_place a ≡ true → MayRemove now s → MayTakeLock pod a Own s
takes_own {now} {s} pod a place may = record {
  alone = off Own (pod_spot pod a) s.standing.holdings may.apart;
  single = none_kind Own s.standing.holdings may.apart;
  opens = refl;
  bare = not_prepared a place;
  may = may_own s (pod_spot pod a).name a place may.began;
}

pub owns_there : {now : ℕ} {s : Seen} {d : DirAt} {h : Handle} (pod : PodId) (a : Area) → Knows d s → IsUnopened d.local h → MayRemove now s → HasOwn pod a (with_pod_lock pod a Own h s)
owns_there {now} {s} {d} {h} pod a k unopened may = record { own = h; base = s; apart = may.apart; bare = may.bare; fresh = fresh_of h k unopened; is = refl }

-- and delete the folder

there_garbage : (spot : Spot) → is_garbage spot.area ≡ true → (i : ShownItem) → is_there spot i ≡ true → is_in_garbage i ≡ true
there_garbage spot garbage i is = ap (λ (s : Spot). is_garbage s.area) (one_location i.inner.spot spot is) ∙ garbage

may_delete : (pod : PodId) (a : Area) → is_garbage_place a ≡ true → (own : Handle) (base : Seen) → IsBare base → MayDelete (pod_spot pod a) (with_pod_lock pod a Own own base)
may_delete pod a place own base bare = record {
  lock = rw (place_garbage a place, spot_self (pod_spot pod a)) refl;
  bare = any_fewer (is_there (pod_spot pod a)) is_in_garbage (there_garbage (pod_spot pod a) (place_garbage a place)) base.items bare;
}

pub has_bare : {pod : PodId} {a : Area} {s : Seen} → HasOwn pod a s → IsBare s
has_bare {pod} {a} {s} h = subst (λ (x : Seen). IsBare x) (sym h.is) h.bare

pub deletes_own : {pod : PodId} {a : Area} {s : Seen} → is_garbage_place a ≡ true → HasOwn pod a s → MayDelete (pod_spot pod a) s
deletes_own {pod} {a} {s} place h = subst (λ (x : Seen). MayDelete (pod_spot pod a) x) (sym h.is) (may_delete pod a place h.own h.base h.bare)

pub owns_looked : {pod : PodId} {a : Area} {s z : Seen} → Looked s z → HasOwn pod a s → HasOwn pod a z
owns_looked {pod} {a} {s} {z} l h = record {
  own = h.own;
  base = record h.base { standing = record h.base.standing { seen_unowned = l.free ++ h.base.standing.seen_unowned } };
  apart = h.apart;
  bare = h.bare;
  fresh = h.fresh;
  is = l.same ∙ ap (λ (x : Seen). let r : Seen = record x { standing = record x.standing { seen_unowned = l.free ++ x.standing.seen_unowned } } in r) h.is;
}

pub but_deleted : {pod : PodId} {a : Area} {s : Seen} {new : DirAt} → IsBare s → KnowsDeleted (pod_spot pod a) s new → KeepsBut pod a s new
but_deleted {pod} {a} {s} bare d = record {
  known = d.known;
  intent = ap (λ (x : Seen). x.standing.intent) d.is.same;
  holdings = ap (λ (x : Seen). x.standing.holdings) d.is.same;
  kept = ap (λ (x : Seen). x.kept) d.is.same;
  others = ap (λ (x : Seen). list_any is_in_garbage (forget_items (pod_spot pod a) x.items)) d.is.same ∙ none_of_filter is_in_garbage _ (forget_items (pod_spot pod a) s.items) (none_of_filter is_in_garbage _ s.items bare);
  knows = d.knows;
}

pub but_tried : {pod : PodId} {a : Area} {s : Seen} {new : DirAt} → IsBare s → KnowsBut (pod_spot pod a) s new → KeepsBut pod a s new
but_tried {pod} {a} {s} bare d = record {
  known = d.known;
  intent = ap (λ (x : Seen). x.standing.intent) d.only.same;
  holdings = ap (λ (x : Seen). x.standing.holdings) d.only.same;
  kept = ap (λ (x : Seen). x.kept) d.only.same;
  others = ap (λ (l : List ShownItem). list_any is_in_garbage l) d.only.items ∙ none_of_filter is_in_garbage _ s.items bare;
  knows = d.knows;
}

pub known_deleted : {spot : Spot} {pod : PodId} {a : Area} {old new : DirAt} → spot ≡ pod_spot pod a → is_garbage_place a ≡ true → Deletes spot old new → Given (HasOwn pod a) old (λ s. KeepsBut pod a s new)
known_deleted {spot} {pod} {a} {old} {new} is place x s k h = but_deleted (has_bare h) (subst (λ (p : Spot). Deletes p old new) is x s k (deletes_own place h))

pub known_tried : {spot : Spot} {pod : PodId} {a : Area} {old new : DirAt} → spot ≡ pod_spot pod a → is_garbage_place a ≡ true → OnlyTries spot old new → Given (HasOwn pod a) old (λ s. KeepsBut pod a s new)
known_tried {spot} {pod} {a} {old} {new} is place x s k h = but_tried (has_bare h) (subst (λ (p : Spot). OnlyTries p old new) is x s k (deletes_own place h))

-- after a look

pub but_looked : {pod : PodId} {a : Area} {s z : Seen} {new : DirAt} → Looked s z → KeepsBut pod a z new → KeepsBut pod a s new
but_looked {pod} {a} {s} {z} l x = record {
  known = x.known;
  intent = x.intent ∙ ap (λ (y : Seen). y.standing.intent) l.same;
  holdings = x.holdings ∙ ap (λ (y : Seen). y.standing.holdings) l.same;
  kept = x.kept ∙ ap (λ (y : Seen). y.kept) l.same;
  others = x.others;
  knows = x.knows;
}

pub known_later : {pod : PodId} {a : Area} {b c d : DirAt} → OnlyLooks b c → Given (HasOwn pod a) c (λ s. KeepsBut pod a s d) → Given (HasOwn pod a) b (λ s. KeepsBut pod a s d)
known_later looks next s k h = let x = looks s k in but_looked x.looked (next x.known x.knows (owns_looked x.looked h))

pub known_looked : {pod : PodId} {a : Area} {b c : DirAt} → OnlyLooks b c → Given (HasOwn pod a) b (λ s. KeepsBut pod a s c)
known_looked {pod} {a} looks s k h =
    let x = looks s k in
    record {
      known = x.known;
      intent = ap (λ (y : Seen). y.standing.intent) x.looked.same;
      holdings = ap (λ (y : Seen). y.standing.holdings) x.looked.same;
      kept = ap (λ (y : Seen). y.kept) x.looked.same;
      others = ap (λ (y : Seen). list_any is_in_garbage (forget_items (pod_spot pod a) y.items)) x.looked.same ∙ none_of_filter is_in_garbage _ s.items (has_bare h);
      knows = x.knows;
    }

-- Own is given up, and with it what was listed under it

fewer_kept : {X : Type 0} (t keep other : X → Bool) → ((x : X) → other x ≡ false → keep x ≡ false) → (xs : List X) → list_any t (filter other xs) ≡ false → list_any t (filter keep xs) ≡ false
fewer_kept t keep other only [] none = refl
fewer_kept t keep other only (x ∷ xs) none = by (keep x) (other x) (only x) none (λ rest. fewer_kept t keep other only xs rest)
  where
    by : (k o : Bool) → (o ≡ false → k ≡ false) → list_any t (cond o (x ∷ filter other xs) (filter other xs)) ≡ false → (list_any t (filter other xs) ≡ false → list_any t (filter keep xs) ≡ false)
        → list_any t (cond k (x ∷ filter keep xs) (filter keep xs)) ≡ false
    by true false only none go = let e : true ≡ false = only refl in cc
    by true true only none go = push (t x) none go
      where
        push : (b : Bool) → (b || list_any t (filter other xs)) ≡ false → (list_any t (filter other xs) ≡ false → list_any t (filter keep xs) ≡ false) → (b || list_any t (filter keep xs)) ≡ false
        push true n go = cc
        push false n go = go n
    by false true only none go = drop (t x) none go
      where
        drop : (b : Bool) → (b || list_any t (filter other xs)) ≡ false → (list_any t (filter other xs) ≡ false → list_any t (filter keep xs) ≡ false) → list_any t (filter keep xs) ≡ false
        drop true n go = cc
        drop false n go = go n
    by false false only none go = go none

gives_there : (pod : PodId) (a : Area) (own : Handle) (hs : List Held) → is_garbage_place a ≡ true → gives_up (is_removal_held (pod_spot pod a)) own (on_pod_lock pod a Own own (Some Exclusive) ∷ hs) ≡ true
gives_there pod a own hs place = rw (place_garbage a place, spot_self (pod_spot pod a), same_self own.number) refl

not_kept : (pod : PodId) (a : Area) (own : Handle) (hs : List Held) → is_garbage_place a ≡ true → (i : ShownItem) → not (spot_eq i.inner.spot (pod_spot pod a)) ≡ false
    → not (gives_up (is_removal_held i.inner.spot) own (on_pod_lock pod a Own own (Some Exclusive) ∷ hs)) ≡ false
not_kept pod a own hs place i there = by (spot_eq i.inner.spot (pod_spot pod a)) refl there
  where
    by : (b : Bool) → spot_eq i.inner.spot (pod_spot pod a) ≡ b → not b ≡ false → not (gives_up (is_removal_held i.inner.spot) own (on_pod_lock pod a Own own (Some Exclusive) ∷ hs)) ≡ false
    by true is h = ap (λ (s : Spot). not (gives_up (is_removal_held s) own (on_pod_lock pod a Own own (Some Exclusive) ∷ hs))) (one_location i.inner.spot (pod_spot pod a) is) ∙ ap not (gives_there pod a own hs place)
    by false is h = cc

module _ (pod : PodId) (a : Area) (place : is_garbage_place a ≡ true) (own : Handle) (base known : Seen) (fresh : list_any (is_handle_held own) base.standing.holdings ≡ false)
    (may : list_any is_on_folder base.standing.holdings ≡ false) (held : known.standing.holdings ≡ on_pod_lock pod a Own own (Some Exclusive) ∷ base.standing.holdings) where
  abbrev Lock : Held
  Lock = on_pod_lock pod a Own own (Some Exclusive)

  abbrev GivenUp : Seen
  GivenUp = seen_replied known (Close own) Done

  given_bare : list_any is_in_garbage (forget_items (pod_spot pod a) known.items) ≡ false → IsBare GivenUp
  given_bare others =
      ap (λ (hs : List Held). list_any is_in_garbage (filter (λ i. not (gives_up (is_removal_held i.inner.spot) own hs)) known.items)) held
      ∙ fewer_kept is_in_garbage (λ i. not (gives_up (is_removal_held i.inner.spot) own (Lock ∷ base.standing.holdings))) (λ i. not (spot_eq i.inner.spot (pod_spot pod a)))
      (not_kept pod a own base.standing.holdings place) known.items others

  pub given_own : known.standing.intent ≡ base.standing.intent → known.kept ≡ base.kept → list_any is_in_garbage (forget_items (pod_spot pod a) known.items) ≡ false → KeepsHoldings base GivenUp
  given_own intent kept others = record {
    intent = intent;
    holdings = given_holdings Lock base known fresh may refl held;
    kept = given_kept Lock base known fresh may refl held ∙ kept;
    bare = given_bare others;
  }

pub ready_owned : {observed : Bool} {now : ℕ} {a b c d : DirAt} {h : Handle} (pod : PodId) (area : Area) → is_garbage_place area ≡ true → observed ≡ true → IsUnopened a.local h → Given (MayTakeLock pod area Own) a (λ s. Knows b (with_pod_lock pod area Own h s))
    → Given (HasOwn pod area) b (λ s. KeepsBut pod area s c) → DirCall observed c (Close h) Done d → Given (MayRemove now) a (λ s. KeepsReady s d)
ready_owned {observed} {now} {a} {b} {c} {d} {h} pod area place t unopened held owned z s k may =
    let x = owned (with_pod_lock pod area Own h s) (held s k (takes_own pod area place may)) (owns_there pod area k unopened may) in
    record {
      known = _;
      keeps = given_own pod area place h s x.known (fresh_of h k unopened) may.apart x.holdings x.intent x.kept x.others;
      knows = knows_call t x.knows refl refl z;
    }

pub ready_unowned : {now : ℕ} {a b : DirAt} (pod : PodId) (area : Area) → is_garbage_place area ≡ true → Given (MayTakeLock pod area Own) a (λ s. Knows b s) → Given (MayRemove now) a (λ s. KeepsReady s b)
ready_unowned pod area place left s k may = same_ready may (left s k (takes_own pod area place may))

pub worked_owned : {observed : Bool} {a b c d : DirAt} {h : Handle} (pod : PodId) (now : ℕ) (area : Area) → is_garbage_place area ≡ true → IsUnopened a.local h → LeavesOpen observed (looks_at pod area) (and_pod_lock a.local pod area Own h) a b
    → OnlyAsks observed (deletes_in pod area) b c → DirCall observed c (Close h) Done d → OnlyAsks observed (removes pod now) a d
worked_owned {observed} {a} {b} {c} {d} {h} pod now area place unopened w v z = record {
  same = z.same ∙ (v.same ∙ w.same);
  faults = omega (arith, w.faults, v.faults, z.faults);
  local = lock_closed a.local h pod area Own unopened (v.local ∙ w.local_is) z.local;
  extends = λ t. and_call (and_more (extends_wider (looks_remove pod now area (place_stage area place)) (w.extends t)) w.same (extends_wider (deletes_remove pod now area place) (v.extends t))) (v.same ∙ w.same) refl (z.step t);
}

pub worked_unowned : {observed : Bool} {a b : DirAt} (pod : PodId) (now : ℕ) (area : Area) → is_garbage_place area ≡ true → LeavesOpen observed (looks_at pod area) a.local a b → OnlyAsks observed (removes pod now) a b
worked_unowned {observed} {a} {b} pod now area place w = record { same = w.same; faults = w.faults; local = w.local_is; extends = λ t. extends_wider (looks_remove pod now area (place_stage area place)) (w.extends t) }
