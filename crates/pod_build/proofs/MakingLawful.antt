-- Where every process keeps the local rules no making is refused as stray.
use Rattle.std.proofs.Common.{◌≡◌, ◌⊎◌, inl, inr, ℕ, Bool, true, false, not, ◌&&◌, ◌||◌, ◌==◌, cond, Option, Some, None, find, IfErr, IsErrOf, Result, List, [], ◌∷◌, ◌++◌, refl, sym, ap, subst, ◌∙◌}
use Rattle.std.specs.List.{AllByRecursion}
use Rattle.plain_laws.proofs.Booleans.{no_more}
use Rattle.dir_model.specs.declared.area.Area.{Area}
use Rattle.dir_model.specs.declared.area.Area.TheVariants.{Embryo, Prepare, Prepared, Run, Removed}
use Rattle.dir_model.specs.declared.event.Event.{Event}
use Rattle.dir_model.specs.declared.intent.Intent.{Intent}
use Rattle.dir_model.specs.declared.pod.PodId.{PodId}
use Rattle.dir_model.specs.declared.spot.Handle.{Handle}
use Rattle.dir_model.specs.declared.spot.Mode.TheVariants.{Shared, Exclusive}
use Rattle.dir_model.specs.declared.spot.Spot.{Spot}
use Rattle.dir_model.specs.declared.spot.Which.TheVariants as which
use Rattle.dir_model.specs.declared.request.DirError.TheVariants.{Missing, Exists, Locked}
use Rattle.dir_model.specs.declared.request.Request.{Request}
use Rattle.dir_model.specs.declared.request.Request.TheVariants.{MakeFolder, MoveFolder, Open, TryLock, MakeDirIn, MakeFileIn, AppendIn, SyncIn}
use Rattle.dir_model.specs.declared.request.Reply.{Reply}
use Rattle.dir_model.specs.declared.request.Reply.TheVariants.{Done, Begun, Opened, Names, Items, Read, Refused}
use Rattle.dir_model.specs.Areas.{is_stage}
use Rattle.dir_model.specs.Calls.{CallStep, Extends, TookPlace, LeftNothing, event, is_foreign}
use Rattle.dir_model.specs.Locks.{target_of}
use Rattle.dir_model.specs.Pods.{pod_text}
use Rattle.dir_model.specs.Replies.{is_late_reply}
use Rattle.dir_model.specs.State.{spot_eq}
use Rattle.dir_model.proofs.Chains.{step_extends}
use Rattle.dir_model.proofs.Lists.{and_left, and_right, and_both, same_self}
use Rattle.dir_model.proofs.Spots.{spot_self}
use Rattle.dir_rules.specs.declared.seen.Seen.{Seen}
use Rattle.dir_rules.specs.declared.standing.Held.{Held}
use Rattle.dir_rules.specs.declared.standing.Standing.{Standing}
use Rattle.dir_rules.specs.Anomalies.{is_own_embryo_lock, is_own_embryo_held}
use Rattle.dir_rules.specs.Conforms.{nothing_seen, seen_after_event, seen_after, seen_of, seen_replied}
use Rattle.dir_rules.specs.LockRules.{lock_rules_allow, may_make}
use Rattle.dir_rules.specs.Rules.{is_whole_pod, may_move_by_contents, contents_allow_move, content_rules_allow, of_making}
use Rattle.dir_rules.specs.Seen.{makes_at}
use Rattle.dir_rules.specs.Standing.{draws, find_held, holds_claim, shares_area, is_in, is_handle_held, is_own_in_prepared, looked_by}
use Rattle.dir_rules.proofs.Tied.{meanwhile_unseen, own_seen, seen_after-append}
use Rattle.dir_trait.specs.DirCalls.{DirAt}
use Rattle.folder_building.specs.declared.plan.PlanEntry.{PlanEntry}
use Rattle.folder_building.specs.Work.{is_stray_building}
use Rattle.folder_contents.proofs.Spots.{one_location}
use Rattle.lifecycle.specs.Executions.{IsConforming}
use Rattle.lifecycle.proofs.Draws.{conforming_left}
use Rattle.impossible_replies.proofs.Alongside.{steps}
use Rattle.impossible_replies.proofs.Citing.{is_building, is_lost, never_lost, never_lost_change}
use Rattle.impossible_replies.proofs.Calls.{never_loses_embryo, never_meets}
use Rattle.pod_build.specs.declared.make_error.MakeError.{MakeError}
use Rattle.pod_build.specs.declared.make_error.MakeError.TheVariants.{Stray}
use Rattle.dir_model.specs.Spots.{pod_spot}
use Rattle.pod_build.specs.MakingRequests.{fills_pod, hands_on, locks_own, shows_taken, shows_changed, is_move_to_prepare}
use Rattle.pod_build.specs.MakingCauses.{WasOpenedThere, WasTakenMade, WasThenAnswered, LosesOwn, MakeCause}

-- each beginning of a conforming history conforms
conforms_before : {a b : List Event} (more : List Event) → b ≡ a ++ more → IsConforming b → IsConforming a
conforms_before {a} more grown conforming = conforming_left a more (subst IsConforming grown conforming)

conforms_at : {me : ℕ} {old new : List Event} {request : Request} {reply : Reply} → CallStep me old request reply new → IsConforming new → IsConforming old
conforms_at {me} {old} {new} {request} {reply} call conforming =
    let x = step_extends (λ r. true) me old request reply new refl call in
    conforms_before x.more x.grown conforming

-- a step that wasn't refused for want of memory, or by a fault, took place
took : {me : ℕ} {old new : List Event} {request : Request} {reply : Reply} (call : CallStep me old request reply new) → (is_late_reply request reply ≡ true → ⊥)
    → TookPlace call.before me request reply new
took {me} {old} {new} {request} {reply} call timely = by call.own
  where
    by : TookPlace call.before me request reply new ⊎ LeftNothing call.before me request reply new → TookPlace call.before me request reply new
    by (inl t) = t
    by (inr left) = absurd (timely left.late)

-- no pod that is moved meets another
never_met : {me : ℕ} {old new : List Event} (from to : Spot) (left : ℕ) → CallStep me old (MoveFolder from to) (Refused Exists left) new → IsConforming new → is_stage from.area ≡ true → ⊥
never_met from to left call conforming stage = never_meets (MoveFolder from to) (Refused Exists left) call conforming (ap (λ b. b || is_in Removed to.area) stage)

module _ (draw : PodId) where
  abbrev Here : Spot
  Here = pod_spot draw Embryo

  -- it has made the folder in embryo under that area's lock, and hasn't moved it
  record HasEmbryo (s : Seen) : Type 0 where
    embryo_under_lock : s.standing.embryo_under_lock ≡ true
    drawn : draws (pod_text draw.bytes) s.standing ≡ true
    makes : makes_at s.making Here ≡ true

  -- that stays, while its own lock is asked for
  record Same (s t : Seen) : Type 0 where
    embryo_under_lock : t.standing.embryo_under_lock ≡ s.standing.embryo_under_lock
    intent : t.standing.intent ≡ s.standing.intent
    making : t.making ≡ s.making

  looked_same : (o : Option Held) (s : Standing) → ((looked_by o s).embryo_under_lock ≡ s.embryo_under_lock) × ((looked_by o s).intent ≡ s.intent)
  looked_same None s = (refl, refl)
  looked_same (Some h) s = (refl, refl)

  same : (s : Seen) (request : Request) (reply : Reply) → locks_own draw request ≡ true → Same s (seen_replied s request reply)
  same s (Open spot which.Own) Done is = record { embryo_under_lock = refl; intent = refl; making = refl }
  same s (Open spot which.Own) Begun is = record { embryo_under_lock = refl; intent = refl; making = refl }
  same s (Open spot which.Own) (Opened handle) is = record { embryo_under_lock = refl; intent = refl; making = refl }
  same s (Open spot which.Own) (Names names) is = record { embryo_under_lock = refl; intent = refl; making = refl }
  same s (Open spot which.Own) (Items items) is = record { embryo_under_lock = refl; intent = refl; making = refl }
  same s (Open spot which.Own) (Read bytes) is = record { embryo_under_lock = refl; intent = refl; making = refl }
  same s (Open spot which.Own) (Refused error left) is = record { embryo_under_lock = refl; intent = refl; making = refl }
  same s (TryLock handle Shared) Done is = let x = looked_same (find_held handle s.standing) _ in record { embryo_under_lock = x.0; intent = x.1; making = refl }
  same s (TryLock handle Exclusive) Done is = record { embryo_under_lock = refl; intent = refl; making = refl }
  same s (TryLock handle mode) Begun is = record { embryo_under_lock = refl; intent = refl; making = refl }
  same s (TryLock handle mode) (Opened other) is = record { embryo_under_lock = refl; intent = refl; making = refl }
  same s (TryLock handle mode) (Names names) is = record { embryo_under_lock = refl; intent = refl; making = refl }
  same s (TryLock handle mode) (Items items) is = record { embryo_under_lock = refl; intent = refl; making = refl }
  same s (TryLock handle mode) (Read bytes) is = record { embryo_under_lock = refl; intent = refl; making = refl }
  same s (TryLock handle mode) (Refused error left) is = record { embryo_under_lock = refl; intent = refl; making = refl }
  same s request reply is = cc

  stays : {s t : Seen} → Same s t → HasEmbryo s → HasEmbryo t
  stays {s} {t} x h = record {
    embryo_under_lock = x.embryo_under_lock ∙ h.embryo_under_lock;
    drawn = ap (λ (o : Option Intent). draws (pod_text draw.bytes) (record s.standing { intent = o })) x.intent ∙ h.drawn;
    makes = ap (λ o. makes_at o Here) x.making ∙ h.makes;
  }

  module _ (me : ℕ) where
    kept : (s : Seen) (more : List Event) → AllByRecursion (λ e. (is_foreign me e || locks_own draw e.request) ≡ true) more → HasEmbryo s → HasEmbryo (seen_after me s more)
    kept s [] all h = h
    kept s (e ∷ es) all h = kept (seen_after_event me s e) es all.1 (by (is_foreign me e) all.0)
      where
        by : (b : Bool) → (b || locks_own draw e.request) ≡ true → HasEmbryo (cond b s (seen_replied s e.request e.reply))
        by true is = h
        by false is = stays (same s e.request e.reply is) h

    since_kept : {old new : List Event} → Extends (locks_own draw) me old new → HasEmbryo (seen_of me old) → HasEmbryo (seen_of me new)
    since_kept {old} {new} x h =
        subst (λ (t : List Event). HasEmbryo (seen_of me t)) (sym x.grown)
        (subst HasEmbryo (sym (seen_after-append me nothing_seen old x.more)) (kept (seen_of me old) x.more x.asked h))

    made : {old new : List Event} → CallStep me old (MakeFolder Here) Done new → IsConforming new → HasEmbryo (seen_of me new)
    made {old} {new} call conforming =
        let t = took call (λ late. cc) in
        let x = steps call.before (event me (MakeFolder Here) Done) (subst IsConforming t.grown conforming) refl refl in
        let s = seen_of me call.before in
        let may : may_make s.standing Here ≡ true = and_left (may_make s.standing Here) (content_rules_allow s (MakeFolder Here)) x.may in
        let named = and_left (is_in Embryo Embryo && draws (pod_text draw.bytes) s.standing) _ may in
        let held = and_right _ (shares_area Embryo s.standing) (and_right (is_in Embryo Embryo && draws (pod_text draw.bytes) s.standing) _ may) in
        let after : HasEmbryo (seen_replied s (MakeFolder Here) Done) = record { embryo_under_lock = held; drawn = and_right (is_in Embryo Embryo) _ named; makes = and_both _ _ (spot_self Here) refl } in
        subst (λ (h : List Event). HasEmbryo (seen_of me h)) (sym t.grown) (subst HasEmbryo (sym (own_seen me call.before (MakeFolder Here) Done refl)) after)

    -- so nobody else takes it
    never_missing : {old new : List Event} (spot : Spot) (left : ℕ) → spot_eq spot Here ≡ true → CallStep me old (Open spot which.Own) (Refused Missing left) new → IsConforming new → HasEmbryo (seen_of me old) → ⊥
    never_missing {old} {new} spot left is call conforming h =
        let s = (seen_of me old).standing in
        never_loses_embryo (Open spot which.Own) (Refused Missing left) call conforming
        (ap (λ (x : Spot). is_in Embryo x.area && (s.embryo_under_lock && draws x.name s)) (one_location spot Here is) ∙ and_both (is_in Embryo Embryo) _ refl (and_both s.embryo_under_lock _ h.embryo_under_lock h.drawn))

    opened_held : {old new : List Event} (handle : Handle) → CallStep me old (Open Here which.Own) (Opened handle) new → (h : Held) × (find_held handle (seen_of me new).standing ≡ Some h) × (h.target ≡ target_of Here which.Own)
    opened_held {old} {new} handle call =
        let t = took call (λ late. cc) in
        let s = seen_of me call.before in
        let newest : Held = record { handle = handle; target = target_of Here which.Own; lock = None; covered = is_own_in_prepared Here which.Own && holds_claim Here.name s.standing } in
        let is = ap (seen_of me) t.grown ∙ own_seen me call.before (Open Here which.Own) (Opened handle) refl in
        (newest, ap (λ (x : Seen). find_held handle x.standing) is ∙ ap (λ b. cond b (Some newest) (find (is_handle_held handle) s.standing.holdings)) (same_self handle.number), refl)

    never_locked : {old new : List Event} (handle : Handle) (left : ℕ) → WasOpenedThere draw me old (TryLock handle Exclusive) → CallStep me old (TryLock handle Exclusive) (Refused Locked left) new → IsConforming new → HasEmbryo (seen_of me old) → ⊥
    never_locked {old} {new} handle left lock call conforming h =
        let s = (seen_of me old).standing in
        let x = opened_held handle lock.1 in
        never_loses_embryo (TryLock handle Exclusive) (Refused Locked left) call conforming
        (ap (is_own_embryo_held s) x.1 ∙ (ap (is_own_embryo_lock s) x.2 ∙ and_both (is_in Embryo Embryo) _ refl (and_both s.embryo_under_lock _ h.embryo_under_lock h.drawn)))

    never_moved : {old new : List Event} (from to : Spot) (left : ℕ) → spot_eq from Here ≡ true → CallStep me old (MoveFolder from to) (Refused Missing left) new → IsConforming new → HasEmbryo (seen_of me old) → ⊥
    never_moved {old} {new} from to left is call conforming h =
        let here = one_location from Here is in
        never_lost me from (MoveFolder from to) (Refused Missing left) call conforming (ap (λ (x : Spot). makes_at (seen_of me old).making x) here ∙ h.makes) refl refl

    never_taken : {old new : List Event} (request : Request) (reply : Reply) → shows_taken draw request reply ≡ true → WasOpenedThere draw me old request → CallStep me old request reply new → IsConforming new → HasEmbryo (seen_of me old) → ⊥
    never_taken (Open spot which.Own) (Refused Missing left) is lock call conforming h = never_missing spot left is call conforming h
    never_taken (TryLock handle Exclusive) (Refused Locked left) is lock call conforming h = never_locked handle left lock call conforming h
    never_taken (MoveFolder from to) (Refused Missing left) is lock call conforming h = never_moved from to left is call conforming h
    never_taken (MoveFolder from to) (Refused Exists left) is lock call conforming h = never_met from to left call conforming (ap (λ (x : Spot). is_stage x.area) (one_location from Here is))
    never_taken request reply is lock call conforming h = cc

    never_taken_made : {old new : List Event} → WasTakenMade draw me old new → IsConforming new → ⊥
    never_taken_made {old} {new} w conforming =
        let l = w.loses in
        let after = conforms_before l.later l.ends conforming in
        let before = conforms_at l.step after in
        let at = conforms_before l.since.more l.since.grown before in
        never_taken l.request l.reply l.shows l.lock l.step after (since_kept l.since (made w.makes at))

    -- nor changes it in prepare
    abbrev There : Spot
    There = pod_spot draw Prepare

    outside : (spot : Spot) → (spot_eq spot There || false) ≡ true → not (is_in Run spot.area) ≡ true
    outside spot is = ap (λ (x : Spot). not (is_in Run x.area)) (one_location spot There (first (spot_eq spot There) is))
      where
        first : (b : Bool) → (b || false) ≡ true → b ≡ true
        first true x = refl
        first false x = cc

    loses : (request : Request) (reply : Reply) → fills_pod draw request ≡ true → is_stray_building request reply ≡ true → (is_building request ≡ true) × (is_lost request reply ≡ true)
    loses (MakeDirIn i) (Refused Missing left) asked is = (refl, refl)
    loses (MakeDirIn i) (Refused Exists left) asked is = (refl, refl)
    loses (MakeFileIn i) (Refused Missing left) asked is = (outside i.spot asked, refl)
    loses (MakeFileIn i) (Refused Exists left) asked is = (outside i.spot asked, refl)
    loses (AppendIn i piece) (Refused Missing left) asked is = (outside i.spot asked, refl)
    loses (SyncIn i) (Refused Missing left) asked is = (outside i.spot asked, refl)
    loses request reply asked is = cc

    -- whoever moves it on makes it
    brings_its : (s : Seen) (from to : Spot) → hands_on draw (MoveFolder from to) ≡ true → may_move_by_contents s from to ≡ true → makes_at s.making from ≡ true
    brings_its s from to on may = by on
      where
        between : contents_allow_move s from to from.area to.area ≡ true
        between = and_left (contents_allow_move s from to from.area to.area) _ may

        at : spot_eq from There ≡ true → (a : Area) → to.area ≡ a → contents_allow_move s from to Prepare a ≡ true
        at is a area = subst (λ (b : Area). contents_allow_move s from to Prepare b ≡ true) area
            (subst (λ (b : Area). contents_allow_move s from to b to.area ≡ true) (ap (λ (x : Spot). x.area) (one_location from There is)) between)

        by : ((spot_eq from There && spot_eq to (pod_spot draw Prepared)) || (spot_eq from There && spot_eq to (pod_spot draw Run))) ≡ true → makes_at s.making from ≡ true
        by is = or (spot_eq from There) (spot_eq to (pod_spot draw Prepared)) (spot_eq to (pod_spot draw Run)) refl refl refl is
          where
            or : (f p r : Bool) → spot_eq from There ≡ f → spot_eq to (pod_spot draw Prepared) ≡ p → spot_eq to (pod_spot draw Run) ≡ r → ((f && p) || (f && r)) ≡ true → makes_at s.making from ≡ true
            or true true r f p q x = and_left (makes_at s.making from) (of_making is_whole_pod s.making) (at f Prepared (ap (λ (x : Spot). x.area) (one_location to (pod_spot draw Prepared) p)))
            or true false true f p q x = and_left (makes_at s.making from) (of_making is_whole_pod s.making) (at f Run (ap (λ (x : Spot). x.area) (one_location to (pod_spot draw Run) q)))
            or a b c f p q x = cc

    hands_from : (from to : Spot) → hands_on draw (MoveFolder from to) ≡ true → is_stage from.area ≡ true
    hands_from from to on = by (spot_eq from There) refl on
      where
        by : (b : Bool) → spot_eq from There ≡ b → ((b && spot_eq to (pod_spot draw Prepared)) || (b && spot_eq to (pod_spot draw Run))) ≡ true → is_stage from.area ≡ true
        by true e is = ap (λ (x : Spot). is_stage x.area) (one_location from There e)
        by false e is = cc

    never_changed : {old new : List Event} (request : Request) (reply : Reply) → shows_changed draw request reply ≡ true → CallStep me old request reply new → IsConforming new → ⊥
    never_changed {old} {new} (MoveFolder from to) (Refused Missing left) is call conforming =
        let t = took call (λ late. no_more (left == 0) late) in
        let x = steps call.before (event me (MoveFolder from to) (Refused Missing left)) (subst IsConforming t.grown conforming) refl refl in
        let s = seen_of me call.before in
        let makes = brings_its s from to is (and_right (lock_rules_allow s.standing (MoveFolder from to)) (may_move_by_contents s from to) x.may) in
        never_lost me from (MoveFolder from to) (Refused Missing left) call conforming (sym (ap (λ (y : Seen). makes_at y.making from) (meanwhile_unseen call.meanwhile)) ∙ makes) refl refl
    never_changed (MoveFolder from to) (Refused Exists left) is call conforming = never_met from to left call conforming (hands_from from to is)
    never_changed request reply is call conforming =
        let both = split is in
        never_lost_change request reply call conforming both.0 both.1
      where
        split : (fills_pod draw request && is_stray_building request reply) ≡ true → (is_building request ≡ true) × (is_lost request reply ≡ true)
        split x = loses request reply (and_left (fills_pod draw request) (is_stray_building request reply) x) (and_right (fills_pod draw request) (is_stray_building request reply) x)

    never_changed_brought : {old new : List Event} → WasThenAnswered (is_move_to_prepare draw) (shows_changed draw) me old new → IsConforming new → ⊥
    never_changed_brought w conforming = let l = w.later in never_changed l.request l.reply l.answered l.step (conforms_before l.later l.ends conforming)

  pub never_loses_own : (old new : DirAt) → LosesOwn draw old new → IsConforming new.trace → ⊥
  never_loses_own old new (inl w) conforming = never_taken_made old.process w conforming
  never_loses_own old new (inr w) conforming = never_changed_brought old.process w conforming

pub never_stray : {observed : Bool} {draw : PodId} {plan : List PlanEntry} {error : MakeError} {old new : DirAt} → MakeCause observed draw plan error old new → error ≡ Stray → observed ≡ true → IsConforming new.trace → ⊥
never_stray {observed} {draw} {plan} {error} {old} {new} x is t conforming = never_loses_own draw old new (x.stray is t) conforming

pub refused_stray : {T : Type 0} {observed : Bool} (draw : PodId) (plan : List PlanEntry) (old new : DirAt) (r : Result T MakeError) → IfErr r (λ e. MakeCause observed draw plan e old new) → IsErrOf r Stray → observed ≡ true → IsConforming new.trace → ⊥
refused_stray {T} {observed} draw plan old new r cause is t conforming = never_stray (subst (λ (x : Result T MakeError). IfErr x (λ e. MakeCause observed draw plan e old new)) is cause) refl t conforming
