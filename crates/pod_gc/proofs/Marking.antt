-- What a process knows that listed the marks of a pod, and what the listing tells.
use Rattle.std.proofs.Common.{◌≡◌, ◌&&◌, ℕ, Bool, true, false, not, cond, codes, bytes_eq, find, Option, Some, None, is_some, Result, Ok, Err, List, [], ◌∷◌, refl, sym, ap, subst, ◌∙◌}
use Rattle.std.specs.List.{list_any}
use Rattle.plain_laws.proofs.Texts.{same_bytes}
use Rattle.dir_model.specs.declared.area.Area.{Area}
use Rattle.dir_model.specs.declared.area.Area.TheVariants.{Prepared, ExitedGarbage}
use Rattle.dir_model.specs.declared.item.Item.{Item}
use Rattle.dir_model.specs.declared.opening.Target.{Target}
use Rattle.dir_model.specs.declared.opening.Target.TheVariants as target
use Rattle.dir_model.specs.declared.pod.PodId.{PodId}
use Rattle.dir_model.specs.declared.spot.Spot.{Spot}
use Rattle.dir_model.specs.declared.request.DirError.{DirError}
use Rattle.dir_model.specs.declared.request.DirError.TheVariants.{Missing, Exists, NotEmpty, Locked, Failed}
use Rattle.dir_model.specs.declared.request.DirError.TheVariants as dir
use Rattle.dir_model.specs.declared.request.Request.TheVariants.{ListIn}
use Rattle.dir_model.specs.declared.request.Reply.{Reply}
use Rattle.dir_model.specs.declared.request.Reply.TheVariants.{Items, Refused}
use Rattle.dir_model.specs.Areas.{is_stage}
use Rattle.dir_model.specs.Causes.{Rose}
use Rattle.dir_model.specs.Locks.{is_exclusive}
use Rattle.dir_model.specs.Pods.{pod_text}
use Rattle.dir_model.specs.Replies.{items_reply, may_refuse}
use Rattle.dir_model.specs.State.{stands}
use Rattle.dir_model.proofs.Lists.{and_both, and_false, any_fewer}
use Rattle.dir_model.proofs.Moments.{at_weaker}
use Rattle.dir_model.proofs.Spots.{spot_self}
use Rattle.dir_rules.specs.Marks.{created_moment}
use Rattle.dir_rules.specs.declared.seen.Created.{Created}
use Rattle.dir_rules.specs.declared.seen.Seen.{Seen}
use Rattle.dir_rules.specs.LockRules.{is_removal_held, is_removal_target, may_remove}
use Rattle.dir_rules.specs.Rules.{root_of, may_read_area, is_gate}
use Rattle.dir_rules.specs.Seen.{later, created_among, note_created, with_items}
use Rattle.dir_rules.specs.Conforms.{seen_listed}
use Rattle.dir_trait.specs.DirCalls.{DirAt, ListCall, HeldBetween, ExtendsBy}
use Rattle.dir_trait.proofs.ListCalls.{list_extends}
use Rattle.dir_trait.specs.Effects.{OnlyAsks, Given}
use Rattle.dir_files.specs.Listed.{ShowsDirectoryBetween}
use Rattle.dir_files.proofs.Folders.{tells_absent, tells_present}
use Rattle.folder_removal.proofs.Calls.{knows_list}
use Rattle.dir_model.specs.Spots.{pod_spot}
use Rattle.pod_locks.specs.ClaimHolding.{is_on_folder}
use Rattle.pod_locks.proofs.Traces.{grown_none}
use Rattle.pod_locks.specs.Holding.{is_in_garbage, KeepsHoldings, KeepsReady}
use Rattle.pod_locks.specs.Causes.{IsAbsentAt}
use Rattle.pod_gc.specs.RemovalHolding.{MayRemove}
use Rattle.pod_gc.specs.Requests.{counts_time, lists_marks}
use Rattle.pod_gc.specs.Causes.{listing_fault, GcCause}
use Rattle.pod_gc.specs.Ages.{moment_among, Showed}
use Rattle.pod_gc.specs.Sweeping.{IsNoted, NotesMark}

pub with_root : {observed : Bool} {old new : DirAt} {spot : Spot} {reply : Reply} (pod : PodId) (area : Area) → spot ≡ pod_spot pod area → ListCall observed old (ListIn (record { spot = spot; path = [] })) reply new → ListCall observed old (ListIn (root_of (pod_spot pod area))) reply new
with_root {observed} {old} {new} {spot} {reply} pod area is c = subst (λ (s : Spot). ListCall observed old (ListIn (root_of s)) reply new) is c

asks_root : (pod : PodId) (area : Area) → lists_marks pod area (ListIn (root_of (pod_spot pod area))) ≡ true
asks_root pod area = and_both _ _ (spot_self (pod_spot pod area)) refl

pub worked_listing : {observed : Bool} {old new : DirAt} (pod : PodId) (area : Area) (r : Result (List Item) DirError) → ListCall observed old (ListIn (root_of (pod_spot pod area))) (items_reply r) new → OnlyAsks observed (lists_marks pod area) old new
worked_listing {observed} {old} {new} pod area r x = record { same = x.same; faults = x.faults; local = by r x; extends = λ t. list_extends (asks_root pod area) (x.step t) }
  where
    by : (r : Result (List Item) DirError) → ListCall observed old (ListIn (root_of (pod_spot pod area))) (items_reply r) new → new.local ≡ old.local
    by (Ok items) x = x.local
    by (Err e) x = x.local

pub showed : (spot : Spot) (old new : DirAt) (items : List Item) (pod : PodId) (area : Area) (text : List ℕ) (moment : Option ℕ) → spot ≡ pod_spot pod area → moment ≡ moment_among text items → ShowsDirectoryBetween old new (record { spot = spot; path = [] }) items → ExtendsBy (lists_marks pod area) old new
    → Showed pod area text moment old.process old.trace new.trace
showed spot old new items pod area text moment is greatest shows only = record {
  items = items;
  after = new.trace;
  only = only;
  shows = subst (λ (s : Spot). ShowsDirectoryBetween old new (root_of s) items) is shows;
  last = grown_none;
  greatest = greatest;
}

pub listed_none : {observed : Bool} {old new : DirAt} (pod : PodId) (area : Area) → ListCall observed old (ListIn (root_of (pod_spot pod area))) (Refused Missing 0) new → observed ≡ true → HeldBetween old new (IsAbsentAt pod area)
listed_none pod area x t = at_weaker (IsAbsentAt pod area) (λ s h. ap is_some h) (tells_absent t x)

pub listed_there : {observed : Bool} {old new : DirAt} {items : List Item} (pod : PodId) (area : Area) → ListCall observed old (ListIn (root_of (pod_spot pod area))) (Items items) new → observed ≡ true → HeldBetween old new (λ s. stands s.namespace (pod_spot pod area) ≡ true)
listed_there pod area x t = at_weaker (λ s. stands s.namespace (pod_spot pod area) ≡ true) (λ s h. ap is_some h.1) (tells_present t x)

pub listing_cause : {observed : Bool} {old new : DirAt} (spot : Spot) (path : List ℕ) (e : DirError) → (e ≡ Missing → ⊥) → may_refuse (ListIn (record { spot = spot; path = path })) e ≡ true → (e ≡ Failed → Rose old.faults new.faults) → GcCause observed (listing_fault e) old new
listing_cause spot path Missing other may rose = absurd (other refl)
listing_cause spot path Failed other may rose = record { fault = λ is. rose refl; stray = λ is. cc }
listing_cause spot path dir.NoMemory other may rose = record { fault = λ is. cc; stray = λ is. cc }
listing_cause spot path Exists other may rose = cc
listing_cause spot path NotEmpty other may rose = cc
listing_cause spot path Locked other may rose = cc

-- what is known after it

looks_there : (s : Seen) (area : Area) → counts_time area ≡ true → may_read_area s area ≡ true
looks_there s Prepared is = refl
looks_there s ExitedGarbage is = refl
looks_there s _ is = cc

never_gate : (pod : PodId) (area : Area) → counts_time area ≡ true → (t : Target) (b : Bool) → (b && is_removal_target (pod_spot pod area) t) ≡ true → not (is_gate t) ≡ true
never_gate pod area place (target.Own spot) b is = refl
never_gate pod area place (target.Claim spot) b is = refl
never_gate pod Prepared place (target.Gate gate) b is = let e : false ≡ true = sym (and_false b) ∙ is in cc
never_gate pod ExitedGarbage place (target.Gate gate) b is = let e : false ≡ true = sym (and_false b) ∙ is in cc
never_gate pod _ place (target.Gate gate) b is = cc

no_removal : {now : ℕ} {s : Seen} (pod : PodId) (area : Area) → counts_time area ≡ true → MayRemove now s → may_remove s.standing (pod_spot pod area) ≡ false
no_removal {now} {s} pod area place m = any_fewer (is_removal_held (pod_spot pod area)) is_on_folder (λ h is. never_gate pod area place h.target (is_exclusive h.lock) is) s.standing.holdings m.apart

module _ {now : ℕ} (pod : PodId) (area : Area) (place : counts_time area ≡ true) (s : Seen) (m : MayRemove now s) where
  listing_keeps : (r : Result (List Item) DirError) → KeepsHoldings s (seen_listed s (ListIn (root_of (pod_spot pod area))) (items_reply r))
  listing_keeps (Ok items) = record {
    intent = refl;
    holdings = refl;
    kept = ap (λ b. b && (b && s.kept)) (looks_there s area place);
    bare = ap (λ b. list_any is_in_garbage (cond b (with_items (root_of (pod_spot pod area)) items s.items) s.items)) (no_removal pod area place m) ∙ m.bare;
  }
  listing_keeps (Err e) = record { intent = refl; holdings = refl; kept = ap (λ b. b && (b && s.kept)) (looks_there s area place); bare = m.bare }

pub ready_listed : {observed : Bool} {now : ℕ} {old new : DirAt} (pod : PodId) (area : Area) (r : Result (List Item) DirError) → counts_time area ≡ true → ListCall observed old (ListIn (root_of (pod_spot pod area))) (items_reply r) new → observed ≡ true
    → Given (MayRemove now) old (λ s. KeepsReady s new)
ready_listed pod area r place x t s k m = record { known = _; keeps = listing_keeps pod area place s m r; knows = knows_list (root_of (pod_spot pod area)) r t k x }

-- the mark that tells whether the pod is asked for

same_moments : (items : List Item) → created_among items ≡ moment_among (codes "created-") items
same_moments [] = refl
same_moments (item ∷ items) = ap (later (created_moment item.name)) (same_moments items)

stage_there : (area : Area) → counts_time area ≡ true → is_stage area ≡ true
stage_there Prepared is = refl
stage_there ExitedGarbage is = refl
stage_there _ is = cc

noted_by : (pod : PodId) (area : Area) (s : Seen) (items : List Item) (moment : Option ℕ) → is_stage area ≡ true → created_among items ≡ moment → IsNoted pod moment (seen_listed s (ListIn (root_of (pod_spot pod area))) (Items items))
noted_by pod area s items None stage is = tt
noted_by pod area s items (Some m) stage is =
    ap (λ b. find (λ (c : Created). bytes_eq c.name (pod_text pod.bytes)) (cond b (note_created (pod_text pod.bytes) (created_among items) s.created) s.created)) stage
    ∙ (ap (λ (o : Option ℕ). find (λ (c : Created). bytes_eq c.name (pod_text pod.bytes)) (note_created (pod_text pod.bytes) o s.created)) is
    ∙ ap (λ b. cond b (Some (record { name = pod_text pod.bytes; moment = m })) (find (λ (c : Created). bytes_eq c.name (pod_text pod.bytes)) s.created)) (same_bytes (pod_text pod.bytes)))

pub notes_mark : {observed : Bool} {now : ℕ} {old new : DirAt} (items : List Item) (pod : PodId) (area : Area) (text : List ℕ) (moment : Option ℕ) → counts_time area ≡ true → text ≡ codes "created-" → moment ≡ moment_among text items
    → ListCall observed old (ListIn (root_of (pod_spot pod area))) (Items items) new → observed ≡ true → Given (MayRemove now) old (λ s. NotesMark pod moment s new)
notes_mark {observed} {now} {old} {new} items pod area text moment place named greatest x t s k m = record {
  known = _;
  keeps = listing_keeps pod area place s m (Ok items);
  noted = noted_by pod area s items moment (stage_there area place) (same_moments items ∙ sym (greatest ∙ ap (λ (n : List ℕ). moment_among n items) named));
  knows = knows_list (root_of (pod_spot pod area)) (Ok items) t k x;
}
