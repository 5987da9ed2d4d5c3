-- What a process asked for that reads what pods hold, and what it knows afterwards.
use Rattle.std.proofs.Common.{arith, ◌≡◌, ◌≤◌, ◌&&◌, ◌||◌, bytes_eq, ℕ, Bool, true, List, Result, Ok, Err, refl, ap, subst, ◌∙◌}
use Rattle.std.proofs.lemmas.Slice.Eq.{bytes_eq-Decides}
use Rattle.dir_model.specs.declared.area.Area.{Area}
use Rattle.dir_model.specs.declared.area.Area.TheVariants as area
use Rattle.dir_model.specs.declared.item.Inner.{Inner}
use Rattle.dir_model.specs.declared.item.Item.{Item}
use Rattle.dir_model.specs.declared.spot.Spot.{Spot}
use Rattle.dir_model.specs.declared.pod.PodId.{PodId}
use Rattle.dir_model.specs.declared.request.DirError.{DirError}
use Rattle.dir_model.specs.declared.request.Request.{Request}
use Rattle.dir_model.specs.declared.request.Request.TheVariants.{ListIn}
use Rattle.dir_model.specs.Areas.{rank, is_stage}
use Rattle.dir_model.specs.Pods.{pod_text}
use Rattle.dir_model.specs.Replies.{items_reply}
use Rattle.dir_model.proofs.Chains.{extends_wider, nothing_yet, and_more}
use Rattle.dir_model.proofs.Lists.{and_both}
use Rattle.dir_rules.specs.declared.standing.Standing.{Standing}
use Rattle.dir_rules.specs.declared.seen.Seen.{Seen}
use Rattle.dir_rules.specs.Conforms.{seen_listed}
use Rattle.dir_rules.proofs.Looks.{looks_there}
use Rattle.dir_trait.specs.DirCalls.{DirAt, ExtendsBy, ListCall}
use Rattle.dir_trait.specs.Knowledge.{Knows, OnlyLooks}
use Rattle.dir_trait.proofs.ListCalls.{list_extends, local_items}
use Rattle.dir_files.specs.Reads.{inner_at, OnlyReads, may_read, reads_at}
use Rattle.folder_removal.proofs.Calls.{knows_list}
use Rattle.dir_model.specs.Spots.{pod_spot}
use Rattle.phase_read.proofs.Exact.{stage_of}
use Rattle.pod_lookup.specs.Looks.{OnlyLooksFor}
use Rattle.pod_report.specs.Requests.{KeepsHandles, OnlyAsksFor, visits, lists_in, inspects}

reads_there : (s : Standing) (place : Area) → is_stage place ≡ true → may_read place s ≡ true
reads_there s area.Images is = cc
reads_there s _ is = refl

same_known : {new : DirAt} (s : Seen) → Knows new s → KeepsHandles s new
same_known s k = record { known = s; intent = refl; holdings = refl; kept = refl; knows = k }

-- nothing was asked for
pub asks_none : {observed : Bool} {asks : Request → Bool} {d : DirAt} → OnlyAsksFor observed asks d d
asks_none = record { same = refl; faults = omega arith; local = refl; extends = λ t. nothing_yet; known = λ t s k. same_known s k }

-- one thing after the other
pub asks_more : {observed : Bool} {asks : Request → Bool} {a b c : DirAt} → OnlyAsksFor observed asks a b → OnlyAsksFor observed asks b c → OnlyAsksFor observed asks a c
asks_more ab bc = record {
  same = bc.same ∙ ab.same;
  faults = omega (arith, ab.faults, bc.faults);
  local = bc.local ∙ ab.local;
  extends = λ t. and_more (ab.extends t) ab.same (bc.extends t);
  known = λ t s k.
      let x = ab.known t s k in
      let y = bc.known t x.known x.knows in
      record { known = y.known; intent = y.intent ∙ x.intent; holdings = y.holdings ∙ x.holdings; kept = y.kept ∙ x.kept; knows = y.knows };
}

pub asks_wider : {observed : Bool} {asks more : Request → Bool} {a b : DirAt} → ((r : Request) → asks r ≡ true → more r ≡ true) → OnlyAsksFor observed asks a b → OnlyAsksFor observed more a b
asks_wider f ab = record { same = ab.same; faults = ab.faults; local = ab.local; extends = λ t. extends_wider f (ab.extends t); known = ab.known }

-- what a lookup of pods asked for
pub asks_looks : {observed : Bool} {asks more : Request → Bool} {a b : DirAt} → ((r : Request) → asks r ≡ true → more r ≡ true) → OnlyLooksFor observed asks a b → OnlyAsksFor observed more a b
asks_looks f ab = record {
  same = ab.same;
  faults = ab.faults;
  local = ab.local;
  extends = λ t. extends_wider f (ab.extends t);
  known = λ t s k. let x = ab.known t s k in record { known = x.known; intent = x.intent; holdings = x.holdings; kept = x.kept; knows = x.knows };
}

-- reads of a file of a pod's folder
pub looks_read : {observed : Bool} {asks : Request → Bool} {old new : DirAt} (inner : Inner) → (observed ≡ true → is_stage inner.spot.area ≡ true) → (observed ≡ true → (r : Request) → reads_at inner r ≡ true → asks r ≡ true) → OnlyReads observed inner old new → OnlyAsksFor observed asks old new
looks_read inner stage asked o = record {
  same = o.same;
  faults = o.faults;
  local = o.local;
  extends = λ t. extends_wider (asked t) (o.extends t);
  known = λ t s k. same_known s (o.known t s (reads_there s.standing inner.spot.area (stage t)) k);
}

-- looks at places, and questions for locks
pub looks_places : {observed : Bool} {asks more : Request → Bool} {old new : DirAt} → (observed ≡ true → (r : Request) → asks r ≡ true → more r ≡ true) → new.process ≡ old.process → old.faults ≤ new.faults → new.local ≡ old.local → (observed ≡ true → ExtendsBy asks old new) → (observed ≡ true → OnlyLooks old new) → OnlyAsksFor observed more old new
looks_places asked same faults local extends looks = record {
  same = same;
  faults = faults;
  local = local;
  extends = λ t. extends_wider (asked t) (extends t);
  known = λ t s k.
      let l = looks t s k in record {
        known = l.known;
        intent = ap (λ (x : Seen). x.standing.intent) l.looked.same;
        holdings = ap (λ (x : Seen). x.standing.holdings) l.looked.same;
        kept = ap (λ (x : Seen). x.kept) l.looked.same;
        knows = l.knows;
      };
}

list_known : {new : DirAt} (s : Seen) (inner : Inner) (r : Result (List Item) DirError) → is_stage inner.spot.area ≡ true → Knows new (seen_listed s (ListIn inner) (items_reply r)) → KeepsHandles s new
list_known s inner (Ok items) stage k = record { known = _; intent = refl; holdings = refl; kept = ap (λ b. b && (b && s.kept)) (looks_there s inner.spot.area stage); knows = k }
list_known s inner (Err e) stage k = record { known = _; intent = refl; holdings = refl; kept = ap (λ b. b && (b && s.kept)) (looks_there s inner.spot.area stage); knows = k }

looks_list : {observed : Bool} {asks : Request → Bool} {old new : DirAt} (inner : Inner) (r : Result (List Item) DirError) → (observed ≡ true → is_stage inner.spot.area ≡ true) → (observed ≡ true → asks (ListIn inner) ≡ true) → ListCall observed old (ListIn inner) (items_reply r) new → OnlyAsksFor observed asks old new
looks_list {observed} {asks} {old} {new} inner r stage asked x = record {
  same = x.same;
  faults = x.faults;
  local = x.local ∙ local_items old.local inner r;
  extends = λ t. list_extends (asked t) (x.step t);
  known = λ t s k. list_known s inner r (stage t) (knows_list inner r t k x);
}

-- of a directory of the pod's folder
pub looks_directory : {observed : Bool} {old new : DirAt} (pod : PodId) (place : Area) (path : List ℕ) (r : Result (List Item) DirError) (spot : Spot) → spot ≡ pod_spot pod place → (observed ≡ true → rank place ≤ 5) → ListCall observed old (ListIn (inner_at spot path)) (items_reply r) new → OnlyAsksFor observed (inspects pod) old new
looks_directory {observed} {old} {new} pod place path r spot is within x =
    looks_list (inner_at (pod_spot pod place) path) r (λ t. stage_of place (within t)) (λ t. and_both (is_stage place) (bytes_eq (pod_text pod.bytes) (pod_text pod.bytes)) (stage_of place (within t)) ((bytes_eq-Decides (pod_text pod.bytes) (pod_text pod.bytes)).1 refl))
    (subst (λ (s : Spot). ListCall observed old (ListIn (inner_at s path)) (items_reply r) new) is x)

-- a visit is a part of an inspection
pub visits_inspect : (pod : PodId) (r : Request) → visits pod r ≡ true → inspects pod r ≡ true
visits_inspect pod r h = ap (λ (b : Bool). b || lists_in pod r) h
