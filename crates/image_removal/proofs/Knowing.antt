-- What a process knows after each call of a removal or a sweep.
use Rattle.std.proofs.Common.{◌≡◌, ℕ, Bool, true, false, not, ◌&&◌, cond, bytes_eq, List, [], ◌∷◌, filter, Result, Ok, Err, refl, sym, ap, subst, ◌∙◌}
use Rattle.std.specs.List.{list_any}
use Rattle.plain_laws.proofs.Texts.{same_bytes}
use Rattle.plain_laws.proofs.Lists.{none_of_filter, any_wider}
use Rattle.ac_types.specs.declared.store_key.StoreKey.{StoreKey}
use Rattle.dir_model.specs.declared.area.Area.{Area}
use Rattle.dir_model.specs.declared.area.Area.TheVariants.{Incoming, Removed}
use Rattle.dir_model.specs.declared.pod.PodId.{PodId}
use Rattle.dir_model.specs.declared.spot.Handle.{Handle}
use Rattle.dir_model.specs.declared.spot.Spot.{Spot}
use Rattle.dir_model.specs.declared.opening.Target.{Target}
use Rattle.dir_model.specs.declared.opening.Target.TheVariants.{Own, Claim, Gate}
use Rattle.dir_model.specs.declared.spot.Which.TheVariants as which
use Rattle.dir_model.specs.declared.request.DirError.{DirError}
use Rattle.dir_model.specs.declared.request.Request.{Request}
use Rattle.dir_model.specs.declared.request.Request.TheVariants.{MoveFolder, Open, Close}
use Rattle.dir_model.specs.declared.request.Reply.TheVariants.{Done, Opened, Refused}
use Rattle.dir_model.specs.Locks.{is_exclusive}
use Rattle.dir_model.specs.Local.{IsUnopened}
use Rattle.dir_model.specs.Pods.{pod_text}
use Rattle.dir_model.specs.State.{spot_eq}
use Rattle.dir_model.specs.Replies.{done_reply}
use Rattle.dir_model.proofs.Lists.{and_left, and_false, any_fewer, or_none}
use Rattle.dir_rules.specs.declared.standing.Held.{Held}
use Rattle.dir_rules.specs.declared.standing.Standing.{Standing}
use Rattle.dir_rules.specs.declared.seen.Seen.{Seen}
use Rattle.dir_rules.specs.declared.seen.ShownItem.{ShownItem}
use Rattle.dir_rules.specs.Standing.{is_in, is_gate_of, is_gate_exclusive, excludes_area, draws, uncover}
use Rattle.dir_rules.specs.LockRules.{is_removal_target, is_removal_held}
use Rattle.dir_rules.specs.Rules.{allows}
use Rattle.dir_rules.specs.Conforms.{seen_replied}
use Rattle.dir_rules.proofs.Looks.{map_same, look_same}
use Rattle.dir_trait.specs.DirCalls.{DirAt, DirCall}
use Rattle.dir_trait.specs.Knowledge.{Knows}
use Rattle.dir_trait.proofs.Knowing.{knows_call}
use Rattle.dir_files.proofs.Locking.{number_is_new}
use Rattle.folder_removal.specs.Known.{is_there, MayDelete, KnowsBut, KnowsDeleted, Deletes, OnlyTries}
use Rattle.image_reading.specs.Places.{image_spot}
use Rattle.image_removal.specs.Requests.{incoming_spot, removed_spot, away_spot, puts_away}
use Rattle.image_removal.specs.Work.{HoldsArea, MayPutAway, KeepsStandingAndRules, StaysBare, Stays}

-- nothing passes it that was kept for failing it
pub none_that_fail : {X : Type 0} (q p : X → Bool) → ((x : X) → q x ≡ true → p x ≡ false) → (xs : List X) → list_any q (filter p xs) ≡ false
none_that_fail q p only [] = refl
none_that_fail {X} q p only (x ∷ xs) = by (p x) (q x) (only x) refl (none_that_fail q p only xs)
  where
    by : (b c : Bool) → (q x ≡ true → b ≡ false) → q x ≡ c → list_any q (filter p xs) ≡ false → list_any q (cond b (x ∷ filter p xs) (filter p xs)) ≡ false
    by true true f is rest = let e : true ≡ false = f is in cc
    by true false f is rest = or_none (q x) (list_any q (filter p xs)) is rest
    by false c f is rest = rest

module _ (s : Seen) (key : StoreKey) (draw : PodId) (may : MayPutAway draw s) where
  -- the image may be moved
  may_move : allows s (puts_away key draw) ≡ true
  may_move =
      ap (λ b. (b && (draws (pod_text draw.bytes) s.standing && not (list_any (spot_eq (away_spot draw)) s.put_away))) && true) may.held
      ∙ (ap (λ b. (b && not (list_any (spot_eq (away_spot draw)) s.put_away)) && true) may.drawn ∙ ap (λ b. not b && true) may.fresh)

  pub moved_stays : {observed : Bool} {old new : DirAt} (answer : Result (Unit {0}) DirError) → observed ≡ true → Knows old s
      → DirCall observed old (puts_away key draw) (done_reply answer) new → StaysBare s new
  moved_stays {observed} {old} {new} (Ok done) t k c = record {
    known = seen_replied s (puts_away key draw) Done;
    standing = ap (λ (hs : List Held). let r : Standing = record s.standing { holdings = hs } in r) (map_same (uncover (image_spot key)) s.standing.holdings (λ h. refl));
    kept = ap (λ b. b && s.kept) may_move;
    bare = none_of_filter (λ (i : ShownItem). is_in i.inner.spot.area Removed) (λ (i : ShownItem). not (spot_eq i.inner.spot (away_spot draw))) s.items may.bare;
    knows = knows_call t k refl refl c;
  }
  moved_stays {observed} {old} {new} (Err error) t k c = record {
    known = seen_replied s (puts_away key draw) (Refused error 0);
    standing = refl;
    kept = ap (λ b. b && s.kept) may_move;
    bare = may.bare;
    knows = knows_call t k refl refl c;
  }

module _ (s : Seen) (name : List ℕ) (may : HoldsArea Incoming s) where
  abbrev Moves : Request
  Moves = MoveFolder (incoming_spot name) (removed_spot name)

  may_sweep : allows s Moves ≡ true
  may_sweep = ap (λ b. b && ((bytes_eq name name) && true)) may.held ∙ ap (λ b. b && true) (same_bytes name)

  pub swept_stays : {observed : Bool} {old new : DirAt} (answer : Result (Unit {0}) DirError) → observed ≡ true → Knows old s → DirCall observed old Moves (done_reply answer) new
      → StaysBare s new
  swept_stays {observed} {old} {new} (Ok done) t k c = record {
    known = seen_replied s Moves Done;
    standing = ap (λ (hs : List Held). let r : Standing = record s.standing { holdings = hs } in r) (map_same (uncover (incoming_spot name)) s.standing.holdings (λ h. refl));
    kept = ap (λ b. b && s.kept) may_sweep;
    bare = none_of_filter (λ (i : ShownItem). is_in i.inner.spot.area Removed) (λ (i : ShownItem). not (spot_eq i.inner.spot (removed_spot name))) s.items may.bare;
    knows = knows_call t k refl refl c;
  }
  swept_stays {observed} {old} {new} (Err error) t k c = record {
    known = seen_replied s Moves (Refused error 0);
    standing = refl;
    kept = ap (λ b. b && s.kept) may_sweep;
    bare = may.bare;
    knows = knows_call t k refl refl c;
  }

-- a look at a folder
pub look_knows : {observed : Bool} {old mid new : DirAt} {spot : Spot} {h : Handle} → observed ≡ true → IsUnopened old.local h
    → DirCall observed old (Open spot which.Own) (Opened h) mid → DirCall observed mid (Close h) Done new → (s : Seen) → Knows old s → Knows new s
look_knows {observed} {old} {mid} {new} {spot} {h} t unopened x y s k =
    subst (λ (z : Seen). Knows new z) (look_same {spot = spot} (number_is_new h k unopened) refl refl) (knows_call t (knows_call t k refl refl x) refl refl y)

pub missed_knows : {observed : Bool} {old new : DirAt} {spot : Spot} {error : DirError} → observed ≡ true → DirCall observed old (Open spot which.Own) (Refused error 0) new
    → (s : Seen) → Knows old s → Knows new s
missed_knows t x s k = knows_call t k refl refl x

-- the deletion of a folder in removed, under its lock
gate_removes : (name : List ℕ) (h : Held) → is_gate_exclusive Removed h ≡ true → is_removal_held (removed_spot name) h ≡ true
gate_removes name h is = by h.target (is_exclusive h.lock) is
  where
    by : (t : Target) (b : Bool) → (is_gate_of Removed t && b) ≡ true → (b && is_removal_target (removed_spot name) t) ≡ true
    by (Gate gate) true is = and_left (is_in Removed gate) true is
    by (Gate gate) false is = let e : false ≡ true = sym (and_false (is_in Removed gate)) ∙ is in cc
    by (Own spot) b is = cc
    by (Claim spot) b is = cc

pub may_delete : {s : Seen} (name : List ℕ) → HoldsArea Removed s → MayDelete (removed_spot name) s
may_delete {s} name may = record {
  lock = any_wider (is_gate_exclusive Removed) (is_removal_held (removed_spot name)) (gate_removes name) s.standing.holdings may.held;
  bare = any_fewer (is_there (removed_spot name)) (λ (i : ShownItem). is_in i.inner.spot.area Removed)
      (λ i is. and_left (is_in i.inner.spot.area Removed) (bytes_eq i.inner.spot.name name) is) s.items may.bare;
}

pub deleted_stays : {old new : DirAt} (name : List ℕ) → Deletes (removed_spot name) old new → Stays (HoldsArea Removed) StaysBare old new
deleted_stays {old} {new} name deletes s k may =
    let x : KnowsDeleted (removed_spot name) s new = deletes s k (may_delete name may) in
    record {
      known = x.known;
      standing = ap (λ (z : Seen). z.standing) x.is.same;
      kept = ap (λ (z : Seen). z.kept) x.is.same;
      bare = ap (λ (z : Seen). list_any (λ (i : ShownItem). is_in i.inner.spot.area Removed) z.items) x.is.same
          ∙ none_of_filter (λ (i : ShownItem). is_in i.inner.spot.area Removed) (λ (i : ShownItem). not (spot_eq i.inner.spot (removed_spot name))) s.items may.bare;
      knows = x.knows;
    }

pub tried_stays : {old new : DirAt} (name : List ℕ) → OnlyTries (removed_spot name) old new → Stays (HoldsArea Removed) KeepsStandingAndRules old new
tried_stays {old} {new} name tries s k may =
    let x : KnowsBut (removed_spot name) s new = tries s k (may_delete name may) in
    record { known = x.known; standing = ap (λ (z : Seen). z.standing) x.only.same; kept = ap (λ (z : Seen). z.kept) x.only.same; knows = x.knows }

-- how such facts go on
pub bare_conforms : {s : Seen} {new : DirAt} → StaysBare s new → KeepsStandingAndRules s new
bare_conforms x = record { known = x.known; standing = x.standing; kept = x.kept; knows = x.knows }

pub holds_still : {area : Area} {s : Seen} {new : DirAt} → HoldsArea area s → (x : StaysBare s new) → HoldsArea area x.known
holds_still {area} may x = record { held = ap (λ (z : Standing). excludes_area area z) x.standing ∙ may.held; bare = x.bare }

pub bare_more : {s : Seen} {b c : DirAt} (x : StaysBare s b) → StaysBare x.known c → StaysBare s c
bare_more x y = record { known = y.known; standing = y.standing ∙ x.standing; kept = y.kept ∙ x.kept; bare = y.bare; knows = y.knows }

pub conforms_more : {s : Seen} {b c : DirAt} (x : StaysBare s b) → KeepsStandingAndRules x.known c → KeepsStandingAndRules s c
conforms_more x y = record { known = y.known; standing = y.standing ∙ x.standing; kept = y.kept ∙ x.kept; knows = y.knows }

pub stays_none : {area : Area} {d : DirAt} → Stays (HoldsArea area) StaysBare d d
stays_none s k may = record { known = s; standing = refl; kept = refl; bare = may.bare; knows = k }

pub stays_more : {area : Area} {a b c : DirAt} → Stays (HoldsArea area) StaysBare a b → Stays (HoldsArea area) StaysBare b c → Stays (HoldsArea area) StaysBare a c
stays_more ab bc s k may = let x = ab s k may in bare_more x (bc x.known x.knows (holds_still may x))

pub stays_then : {area : Area} {a b c : DirAt} → Stays (HoldsArea area) StaysBare a b → Stays (HoldsArea area) KeepsStandingAndRules b c → Stays (HoldsArea area) KeepsStandingAndRules a c
stays_then ab bc s k may = let x = ab s k may in conforms_more x (bc x.known x.knows (holds_still may x))

pub stays_conform : {May : Seen → Type 0} {a b : DirAt} → Stays May StaysBare a b → Stays May KeepsStandingAndRules a b
stays_conform ab s k may = bare_conforms (ab s k may)
