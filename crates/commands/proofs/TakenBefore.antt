-- Where nobody else steps, a drawn name that was taken in embryo was taken there before, and one that wasn't wasn't: no process makes its
-- pod twice. And nobody else held the lock of embryo before, where it was had.
use Rattle.std.proofs.Common.{◌≡◌, ◌⊎◌, inl, inr, ℕ, Bool, true, false, not, ◌&&◌, ◌||◌, ◌==◌, cond, Option, Some, None, is_some, List, [], ◌∷◌, ◌++◌, append_assoc, append-nil, refl, sym, ap, subst, ◌∙◌}
use Rattle.std.specs.List.{AllByRecursion}
use Rattle.plain_laws.proofs.Booleans.{or_nothing}
use Rattle.dir_model.specs.declared.area.Area.{Area}
use Rattle.dir_model.specs.declared.area.Area.TheVariants as area
use Rattle.dir_model.specs.declared.event.Event.{Event}
use Rattle.dir_model.specs.declared.pod.PodId.{PodId}
use Rattle.dir_model.specs.declared.spot.Mode.TheVariants.{Shared, Exclusive}
use Rattle.dir_model.specs.declared.spot.Spot.{Spot}
use Rattle.dir_model.specs.declared.request.DirError.TheVariants.{Exists}
use Rattle.dir_model.specs.declared.request.Request.{Request}
use Rattle.dir_model.specs.declared.request.Request.TheVariants.{Begin, Close, Finish, MakeFolder, MoveFolder, Open, OpenArea, RemoveFolder, TryLock}
use Rattle.dir_model.specs.declared.request.Reply.{Reply}
use Rattle.dir_model.specs.declared.request.Reply.TheVariants.{Done, Opened, Refused}
use Rattle.dir_model.specs.Areas.{is_stage}
use Rattle.dir_model.specs.Calls.{CallStep, Extends, LeftNothing, TookPlace, event, is_finish, is_foreign, is_kill, lists_on, may_step}
use Rattle.dir_model.specs.Pods.{pod_text}
use Rattle.dir_model.specs.Quiet.{Quiet}
use Rattle.dir_model.specs.Replies.{is_late_reply, is_reply}
use Rattle.dir_model.specs.State.{DirState, Namespace, empty_state, folder_at, spot_eq, stands}
use Rattle.dir_model.specs.Trace.{namespace_replied, state_after, state_next, states_next}
use Rattle.dir_model.proofs.Chains.{state_after-push, states_next-append}
use Rattle.dir_model.proofs.Lists.{and_left, and_right, same_self}
use Rattle.dir_model.proofs.Moments.{some_number}
use Rattle.dir_model.proofs.Spots.{spot_self}
use Rattle.dir_rules.specs.declared.seen.Seen.{Seen}
use Rattle.dir_rules.specs.declared.standing.Held.{Held}
use Rattle.dir_rules.specs.declared.standing.Standing.{Standing}
use Rattle.dir_rules.specs.Conforms.{Conforms, nothing_seen, seen_after_event, seen_after, seen_of, seen_replied}
use Rattle.dir_rules.specs.LockRules.{lock_rules_allow, locks_allow_move}
use Rattle.dir_rules.specs.Rules.{content_rules_allow}
use Rattle.dir_rules.specs.Standing.{find_held, is_in, looked_by, standing_replied}
use Rattle.dir_rules.proofs.Tied.{conforms-left, seen_after-append, was_allowed}
use Rattle.dir_trait.specs.DirCalls.{DirAt, HeldBetween}
use Rattle.dir_files.specs.AreaLocks.{IsFreeElsewhere, is_against}
use Rattle.folder_contents.proofs.Spots.{one_location}
use Rattle.impossible_replies.proofs.Refusals.{made_already}
use Rattle.lifecycle.proofs.Makes.{made_by}
use Rattle.lifecycle.proofs.Places.{made_elsewhere, moved_away, moved_elsewhere, none_stands}
use Rattle.lifecycle.proofs.Handles.{none_refused, refused_if}
use Rattle.pod_build.specs.MakingCauses.{AsksFolder, HasMadeFolder, DrawWasTaken}
use Rattle.dir_model.specs.Spots.{pod_spot}
use Rattle.commands.specs.Prepare.{prepares_pod}
use Rattle.commands.specs.PrepareTable.{IsTaken, IsUntaken}
use Rattle.commands.specs.Run.{makes_and_runs}
use Rattle.commands.proofs.OwnSteps.{asked_part, in_process, own_asked, own_part, same_folders}
use Rattle.commands.proofs.Openings.{free_before}
use Rattle.commands.proofs.Parts.{Part, held_wider}

-- what has been made stays so
looked_made : (o : Option Held) (k : Standing) → k.made ≡ true → (looked_by o k).made ≡ true
looked_made None k h = h
looked_made (Some held) k h = h

stage_made : (b : Bool) (k other : Standing) → other.made ≡ true → k.made ≡ true → (cond b other k).made ≡ true
stage_made true k other x h = x
stage_made false k other x h = h

still_made : (k : Standing) (request : Request) (reply : Reply) → k.made ≡ true → (standing_replied k request reply).made ≡ true
still_made k (Begin intent) Done h = h
still_made k (MakeFolder spot) Done h = stage_made (is_stage spot.area) k _ refl h
still_made k (MoveFolder from to) Done h = h
still_made k (TryLock handle Shared) Done h = looked_made (find_held handle k) _ h
still_made k (TryLock handle Exclusive) Done h = h
still_made k (Close handle) Done h = h
still_made k Finish Done h = h
still_made k request Done h = h
still_made k (Open spot which) (Opened handle) h = h
still_made k (OpenArea here) (Opened handle) h = h
still_made k request (Opened handle) h = h
still_made k request (Refused error left) h = h
still_made k request reply h = h

made_along : (me : ℕ) (k : Seen) (es : List Event) → k.standing.made ≡ true → (seen_after me k es).standing.made ≡ true
made_along me k [] h = h
made_along me k (e ∷ es) h = made_along me (seen_after_event me k e) es (by (is_foreign me e))
  where
    by : (b : Bool) → (cond b k (seen_replied k e.request e.reply)).standing.made ≡ true
    by true = h
    by false = still_made k.standing e.request e.reply h

-- its pod is in embryo only once it has made it
stage_gated : (b x : Bool) (k : Standing) → (k.embryo_under_lock ≡ true → k.made ≡ true) → (cond b (record k { made = true; embryo_under_lock = x }) k).embryo_under_lock ≡ true → (cond b (record k { made = true; embryo_under_lock = x }) k).made ≡ true
stage_gated true x k h g = refl
stage_gated false x k h g = h g

looked_gated : (o : Option Held) (k : Standing) → (k.embryo_under_lock ≡ true → k.made ≡ true) → (looked_by o k).embryo_under_lock ≡ true → (looked_by o k).made ≡ true
looked_gated None k h g = h g
looked_gated (Some held) k h g = h g

still_gated : (k : Standing) (request : Request) (reply : Reply) → (k.embryo_under_lock ≡ true → k.made ≡ true) → (standing_replied k request reply).embryo_under_lock ≡ true → (standing_replied k request reply).made ≡ true
still_gated k (Begin intent) Done h g = h g
still_gated k (MakeFolder spot) Done h g = stage_gated (is_stage spot.area) _ k h g
still_gated k (MoveFolder from to) Done h g = h (and_right _ k.embryo_under_lock g)
still_gated k (TryLock handle Shared) Done h g = looked_gated (find_held handle k) _ h g
still_gated k (TryLock handle Exclusive) Done h g = h g
still_gated k (Close handle) Done h g = h (and_right _ k.embryo_under_lock g)
still_gated k Finish Done h g = cc
still_gated k request Done h g = h g
still_gated k (Open spot which) (Opened handle) h g = h g
still_gated k (OpenArea here) (Opened handle) h g = h g
still_gated k request (Opened handle) h g = h g
still_gated k request (Refused error left) h g = h g
still_gated k request reply h g = h g

gated_along : (me : ℕ) (k : Seen) (es : List Event) → (k.standing.embryo_under_lock ≡ true → k.standing.made ≡ true) → (seen_after me k es).standing.embryo_under_lock ≡ true → (seen_after me k es).standing.made ≡ true
gated_along me k [] h = h
gated_along me k (e ∷ es) h = gated_along me (seen_after_event me k e) es (by (is_foreign me e))
  where
    by : (b : Bool) → (cond b k (seen_replied k e.request e.reply)).standing.embryo_under_lock ≡ true → (cond b k (seen_replied k e.request e.reply)).standing.made ≡ true
    by true = h
    by false = still_gated k.standing e.request e.reply h

-- what a process asks for brings nothing to embryo but by making it, and takes nothing from there but to prepare
abbrev pub MovesElsewhere : PodId → Request → Type 0
MovesElsewhere draw (MoveFolder from to) = (spot_eq to (pod_spot draw area.Embryo) ≡ false) × (spot_eq from (pod_spot draw area.Embryo) ≡ true → is_in area.Prepare to.area ≡ true)
MovesElsewhere draw (RemoveFolder gone) = ⊥
MovesElsewhere draw request = Unit {0}

module _ (draw : PodId) where
  abbrev Here : Spot
  Here = pod_spot draw area.Embryo

  abbrev Stood : Namespace → Type 0
  Stood n = stands n Here ≡ true

  -- what stands there after an own step that didn't make it stood there before
  one_back : (p : ℕ) (n : Namespace) (request : Request) (reply : Reply) → MovesElsewhere draw request →
      ((new : Spot) → request ≡ MakeFolder new → reply ≡ Done → spot_eq new Here ≡ true → ⊥) → Stood (namespace_replied n p request reply) → Stood n
  one_back p n (MakeFolder new) Done out none there = by (spot_eq new Here) refl
    where
      by : (b : Bool) → spot_eq new Here ≡ b → Stood n
      by true e = absurd (none new refl refl e)
      by false e = ap is_some (sym (made_elsewhere n Here new e)) ∙ there
  one_back p n (MakeFolder new) reply out none there = there
  one_back p n (MoveFolder from to) Done out none there = by (spot_eq from Here) refl
    where
      by : (b : Bool) → spot_eq from Here ≡ b → Stood n
      by true e = let clash : false ≡ true = sym (ap is_some (moved_away n Here from to out.0 e)) ∙ there in cc
      by false e = ap is_some (sym (moved_elsewhere n Here from to out.0 e)) ∙ there
  one_back p n (MoveFolder from to) reply out none there = there
  one_back p n (RemoveFolder gone) reply out none there = absurd out
  one_back p n request reply out none there =
      ap is_some (sym (ap (λ (fs : List (Option Spot)). folder_at (record n { folders = fs }) Here) (same_folders p n request reply refl (λ handle. refl)))) ∙ there

  -- and what stood there before it stands there after it
  one_on : (p : ℕ) (n : Namespace) (request : Request) (reply : Reply) → MovesElsewhere draw request →
      ((new : Spot) → request ≡ MakeFolder new → reply ≡ Done → spot_eq new Here ≡ true → ⊥) → ((from to : Spot) → request ≡ MoveFolder from to → reply ≡ Done → spot_eq from Here ≡ true → ⊥) → Stood n → Stood (namespace_replied n p request reply)
  one_on p n (MakeFolder new) Done out none gone there = by (spot_eq new Here) refl
    where
      by : (b : Bool) → spot_eq new Here ≡ b → Stood (namespace_replied n p (MakeFolder new) Done)
      by true e = absurd (none new refl refl e)
      by false e = ap is_some (made_elsewhere n Here new e) ∙ there
  one_on p n (MakeFolder new) reply out none gone there = there
  one_on p n (MoveFolder from to) Done out none gone there = by (spot_eq from Here) refl
    where
      by : (b : Bool) → spot_eq from Here ≡ b → Stood (namespace_replied n p (MoveFolder from to) Done)
      by true e = absurd (gone from to refl refl e)
      by false e = ap is_some (moved_elsewhere n Here from to out.0 e) ∙ there
  one_on p n (MoveFolder from to) reply out none gone there = there
  one_on p n (RemoveFolder spot) reply out none gone there = absurd out
  one_on p n request reply out none gone there =
      ap is_some (ap (λ (fs : List (Option Spot)). folder_at (record n { folders = fs }) Here) (same_folders p n request reply refl (λ handle. refl))) ∙ there

  -- by what the process knew when it moved the folder, it had made it
  had_made : (k : Standing) (from to : Spot) → spot_eq from Here ≡ true → is_in area.Prepare to.area ≡ true → lock_rules_allow k (MoveFolder from to) ≡ true → k.embryo_under_lock ≡ true
  had_made k from to here prepare may = by to.area prepare (and_right _ _ (subst (λ (z : Spot). lock_rules_allow k (MoveFolder z to) ≡ true) (one_location from Here here) may))
    where
      by : (a : Area) → is_in area.Prepare a ≡ true → locks_allow_move k (pod_text draw.bytes) area.Embryo a ≡ true → k.embryo_under_lock ≡ true
      by area.Prepare is may = and_left k.embryo_under_lock _ (and_left _ _ may)
      by a is may = cc

  module _ (asks : Request → Bool) (out : (request : Request) → asks request ≡ true → MovesElsewhere draw request) (me : ℕ) where
    out_of : (request : Request) → (is_kill request || asks request) ≡ true → MovesElsewhere draw request
    out_of (MoveFolder from to) h = out (MoveFolder from to) h
    out_of (RemoveFolder gone) h = out (RemoveFolder gone) h
    out_of request h = tt

    -- an own step that made it is known
    knows_made : (k : Seen) (e : Event) (new : Spot) → e.process ≡ me → e.request ≡ MakeFolder new → e.reply ≡ Done → spot_eq new Here ≡ true → (seen_after_event me k e).standing.made ≡ true
    knows_made k e new mine is done here =
        let foreign : is_foreign me e ≡ false =
        ap (λ (r : Request). not (e.process == me) || is_kill r) is ∙ (ap (λ (p : ℕ). not (p == me) || false) mine ∙ ap (λ b. not b || false) (same_self me)) in
        let stage : (standing_replied k.standing (MakeFolder new) Done).made ≡ true = subst (λ (z : Spot). (standing_replied k.standing (MakeFolder z) Done).made ≡ true) (sym (one_location new Here here)) refl in
        ap (λ b. (cond b k (seen_replied k e.request e.reply)).standing.made) foreign
        ∙ (ap (λ (r : Request). (standing_replied k.standing r e.reply).made) is ∙ (ap (λ (q : Reply). (standing_replied k.standing (MakeFolder new) q).made) done ∙ stage))

    back : (s : DirState) (k : Seen) (es : List Event) → AllByRecursion (λ e. e.process ≡ me) es → AllByRecursion (λ e. (is_foreign me e || asks e.request) ≡ true) es →
        (seen_after me k es).standing.made ≡ false → Stood (states_next s es).namespace → Stood s.namespace
    back s k [] own asked none there = there
    back s k (e ∷ es) own asked none there =
        one_back e.process s.namespace e.request e.reply (out_of e.request (own_asked asks me e own.0 asked.0))
        (λ new is done here. let clash : true ≡ false = sym (made_along me (seen_after_event me k e) es (knows_made k e new own.0 is done here)) ∙ none in cc)
        (back (state_next s e) (seen_after_event me k e) es own.1 asked.1 none there)

    -- its own making was refused, and was allowed
    refused_before : (old new h after later more : List Event) (left : ℕ) (spot : Spot) → Extends asks me old new → Quiet me old new → Conforms me new → spot_eq spot Here ≡ true →
        h ≡ old ++ more → TookPlace h me (MakeFolder spot) (Refused Exists left) after → new ≡ after ++ later → Stood (state_after old).namespace
    refused_before old new h after later more left spot ext quiet conforms here begins took ends =
        let reply : Reply = Refused Exists left in
        let e = event me (MakeFolder spot) reply in
        let place : spot ≡ Here = one_location spot Here here in
        let told : is_reply (state_after h) me (MakeFolder spot) reply ≡ true =
        and_right (lists_on (state_after h) me (MakeFolder spot)) _ (and_right (may_step (state_after h) me (MakeFolder spot)) _ took.allowed) in
        let there : Stood (state_after h).namespace = subst (λ (z : Spot). stands (state_after h).namespace z ≡ true) place (made_already (state_after h) me spot left told) in
        let mine : Conforms me (h ++ e ∷ []) = subst (λ (t : List Event). Conforms me t) took.grown (conforms-left me after later (subst (λ (t : List Event). Conforms me t) ends conforms)) in
        let may = and_left (lock_rules_allow (seen_of me h).standing (MakeFolder spot)) (content_rules_allow (seen_of me h) (MakeFolder spot)) (was_allowed me h (MakeFolder spot) reply refl mine) in
        let first : (seen_of me h).standing.made ≡ false = (made_by (pod_text draw.bytes) (seen_of me h).standing spot (subst (λ (z : Spot). is_stage z.area ≡ true) (sym place) refl) may).first in
        let whole : new ≡ old ++ (more ++ e ∷ later) = ends ∙ (ap (λ (t : List Event). t ++ later) (took.grown ∙ ap (λ (t : List Event). t ++ e ∷ []) begins) ∙ simp append_assoc) in
        back (state_after old) (seen_of me old) more (own_part asks me old new ext quiet more (e ∷ later) whole) (asked_part asks me old new ext quiet more (e ∷ later) whole)
        (ap (λ (k : Seen). k.standing.made) (sym (seen_after-append me _ old more) ∙ ap (seen_of me) (sym begins)) ∙ first)
        (subst (λ (t : DirState). Stood t.namespace) (ap state_after begins ∙ states_next-append empty_state old more) there)

    -- what stood there when the folder was asked for
    record Asked (reply : Reply) (old new : List Event) : Type 0 where
      locked : List Event
      earlier : List Event
      begins : locked ≡ old ++ earlier
      after : List Event
      later : List Event
      call : CallStep me locked (MakeFolder Here) reply after
      ends : new ≡ after ++ later

    record Step (reply : Reply) (old new : List Event) : Type 0 where
      h : List Event
      more : List Event
      begins : h ≡ old ++ more
      after : List Event
      later : List Event
      took : TookPlace h me (MakeFolder Here) reply after
      ends : new ≡ after ++ later

    step_of : {reply : Reply} {old new : List Event} → (is_late_reply (MakeFolder Here) reply ≡ true → ⊥) → Asked reply old new → Step reply old new
    step_of {reply} {old} {new} timely x = record {
      h = x.call.before;
      more = x.earlier ++ x.call.meanwhile.others;
      begins = x.call.meanwhile.grown ∙ (ap (λ (t : List Event). t ++ x.call.meanwhile.others) x.begins ∙ append_assoc old x.earlier x.call.meanwhile.others);
      after = x.after;
      later = x.later;
      took = by x.call.own;
      ends = x.ends;
    }
      where
        by : TookPlace x.call.before me (MakeFolder Here) reply x.after ⊎ LeftNothing x.call.before me (MakeFolder Here) reply x.after → TookPlace x.call.before me (MakeFolder Here) reply x.after
        by (inl took) = took
        by (inr none) = absurd (timely none.late)

    stood_before : (old new : List Event) → Extends asks me old new → Quiet me old new → Conforms me new → Asked (Refused Exists 0) old new → Stood (state_after old).namespace
    stood_before old new ext quiet conforms x =
        let y = step_of (λ late. let clash : false ≡ true = late in cc) x in
        refused_before old new y.h y.after y.later y.more 0 Here ext quiet conforms (spot_self Here) y.begins y.took y.ends

    -- the process hadn't made it
    abbrev Unmade : List Event → Type 0
    Unmade h = (seen_of me h).standing.made ≡ false

    unmade_left : (h es : List Event) → Unmade (h ++ es) → Unmade h
    unmade_left h es none = by (seen_of me h).standing.made refl
      where
        by : (b : Bool) → (seen_of me h).standing.made ≡ b → b ≡ false
        by false is = refl
        by true is = let clash : true ≡ false = sym (ap (λ (k : Seen). k.standing.made) (seen_after-append me _ h es) ∙ made_along me (seen_of me h) es is) ∙ none in cc

    step_on : (h : List Event) (e : Event) → e.process ≡ me → (is_foreign me e || asks e.request) ≡ true → Conforms me (h ++ e ∷ []) → Unmade (h ++ e ∷ []) → Stood (state_after h).namespace → Stood (state_after (h ++ e ∷ [])).namespace
    step_on h e mine asked conforms none there =
        subst (λ (x : DirState). Stood x.namespace) (sym (state_after-push h e))
        (one_on e.process (state_after h).namespace e.request e.reply (out_of e.request (own_asked asks me e mine asked)) made gone there)
      where
        made : (new : Spot) → e.request ≡ MakeFolder new → e.reply ≡ Done → spot_eq new Here ≡ true → ⊥
        made new is done here =
            let clash : true ≡ false = sym (ap (λ (k : Seen). k.standing.made) (seen_after-append me _ h (e ∷ [])) ∙ knows_made (seen_of me h) e new mine is done here) ∙ none in cc

        gone : (from to : Spot) → e.request ≡ MoveFolder from to → e.reply ≡ Done → spot_eq from Here ≡ true → ⊥
        gone from to is done here =
            let same : e ≡ event me (MoveFolder from to) Done = ap (λ (p : ℕ). event p e.request e.reply) mine ∙ (ap (λ (r : Request). event me r e.reply) is ∙ ap (λ (q : Reply). event me (MoveFolder from to) q) done) in
            let may = and_left (lock_rules_allow (seen_of me h).standing (MoveFolder from to)) (content_rules_allow (seen_of me h) (MoveFolder from to)) (was_allowed me h (MoveFolder from to) Done refl (subst (λ (x : Event). Conforms me (h ++ x ∷ [])) same conforms)) in
            let moves = subst (λ (r : Request). MovesElsewhere draw r) is (out_of e.request (own_asked asks me e mine asked)) in
            let embryo_under_lock = had_made (seen_of me h).standing from to here (moves.1 here) may in
            let clash : true ≡ false = sym (gated_along me nothing_seen h (λ g. cc) embryo_under_lock) ∙ unmade_left h (e ∷ []) none in
            cc

    on : (h es : List Event) → AllByRecursion (λ e. e.process ≡ me) es → AllByRecursion (λ e. (is_foreign me e || asks e.request) ≡ true) es → Conforms me (h ++ es) → Unmade (h ++ es) → Stood (state_after h).namespace → Stood (state_after (h ++ es)).namespace
    on h [] own asked conforms none there = subst (λ (t : List Event). Stood (state_after t).namespace) (sym (append-nil h)) there
    on h (e ∷ es) own asked conforms none there =
        let again : h ++ e ∷ es ≡ (h ++ e ∷ []) ++ es = sym (append_assoc h (e ∷ []) es) in
        let whole = subst (λ (t : List Event). Conforms me t) again conforms in
        let unmade = subst Unmade again none in
        subst (λ (t : List Event). Stood (state_after t).namespace) (sym again)
        (on (h ++ e ∷ []) es own.1 asked.1 whole unmade
        (step_on h e own.0 asked.0 (conforms-left me (h ++ e ∷ []) es whole) (unmade_left (h ++ e ∷ []) es unmade) there))

    -- its own making was answered Ok
    free_before_made : (old new : List Event) → Extends asks me old new → Quiet me old new → Conforms me new → Asked Done old new → stands (state_after old).namespace Here ≡ false
    free_before_made old new ext quiet conforms x = by (stands (state_after old).namespace Here) refl
      where
        y : Step Done old new
        y = step_of (λ late. let clash : false ≡ true = late in cc) x

        e : Event
        e = event me (MakeFolder Here) Done

        told : is_reply (state_after y.h) me (MakeFolder Here) Done ≡ true
        told = and_right (lists_on (state_after y.h) me (MakeFolder Here)) _ (and_right (may_step (state_after y.h) me (MakeFolder Here)) _ y.took.allowed)

        none : stands (state_after y.h).namespace Here ≡ false
        none = refused_if (stands (state_after y.h).namespace Here) Exists (none_refused (state_after y.h) me (MakeFolder Here) refl told)

        mine : Conforms me (y.h ++ e ∷ [])
        mine = subst (λ (t : List Event). Conforms me t) y.took.grown (conforms-left me y.after y.later (subst (λ (t : List Event). Conforms me t) y.ends conforms))

        first : Unmade y.h
        first = (made_by (pod_text draw.bytes) (seen_of me y.h).standing Here refl (and_left (lock_rules_allow (seen_of me y.h).standing (MakeFolder Here)) (content_rules_allow (seen_of me y.h) (MakeFolder Here)) (was_allowed me y.h (MakeFolder Here) Done refl mine))).first

        whole : new ≡ old ++ (y.more ++ e ∷ y.later)
        whole = y.ends ∙ (ap (λ (t : List Event). t ++ y.later) (y.took.grown ∙ ap (λ (t : List Event). t ++ e ∷ []) y.begins) ∙ simp append_assoc)

        by : (b : Bool) → stands (state_after old).namespace Here ≡ b → b ≡ false
        by false is = refl
        by true is =
            let there = on old y.more (own_part asks me old new ext quiet y.more (e ∷ y.later) whole) (asked_part asks me old new ext quiet y.more (e ∷ y.later) whole)
            (subst (λ (t : List Event). Conforms me t) y.begins (conforms-left me y.h (e ∷ []) mine)) (subst Unmade y.begins first) is in
            let clash : true ≡ false = sym (subst (λ (t : List Event). Stood (state_after t).namespace) (sym y.begins) there) ∙ none in
            cc

  -- it came about in a longer time
  asked_wider : {reply : Reply} (asks : Request → Bool) (out : (request : Request) → asks request ≡ true → MovesElsewhere draw request) {old begun ended new : DirAt} → Part old begun ended new → AsksFolder draw reply begun ended → Asked asks out old.process reply old.trace new.trace
  asked_wider {reply} asks out {old} {begun} {ended} {new} p x = record {
    locked = x.locked;
    earlier = p.earlier ++ x.locks.more;
    begins = x.locks.grown ∙ (ap (λ (h : List Event). h ++ x.locks.more) p.begins ∙ append_assoc old.trace p.earlier x.locks.more);
    after = x.first.after;
    later = x.first.later ++ p.later;
    call = subst (λ (me : ℕ). CallStep me x.locked (MakeFolder Here) reply x.first.after) p.same x.first.asks;
    ends = p.ends ∙ (ap (λ (h : List Event). h ++ p.later) x.first.ends ∙ append_assoc x.first.after x.first.later p.later);
  }

  -- what the making of the folder, in a part of a time, tells of the state before
  pub record EmbryoBefore (old new : DirAt) : Type 0 where
    pub taken : (begun ended : DirAt) → Part old begun ended new → DrawWasTaken draw begun ended → IsTaken draw (state_after old.trace)
    pub untaken : (begun ended : DirAt) → Part old begun ended new → HasMadeFolder draw begun ended → IsUntaken draw (state_after old.trace)
    pub free : (reply : Reply) (begun ended : DirAt) → Part old begun ended new → AsksFolder draw reply begun ended → IsFreeElsewhere old.process area.Embryo Shared (state_after old.trace)

  pub taken_before : (asks : Request → Bool) → ((request : Request) → asks request ≡ true → MovesElsewhere draw request) → (old new : DirAt) → Extends asks old.process old.trace new.trace → Quiet old.process old.trace new.trace →
      Conforms old.process new.trace → EmbryoBefore old new
  taken_before asks out old new ext quiet conforms = record {
    taken = λ begun ended p x. some_number (folder_at (state_after old.trace).namespace Here) (stood_before asks out old.process old.trace new.trace ext quiet conforms (asked_wider asks out p x));
    untaken = λ begun ended p x. none_stands (state_after old.trace).namespace Here (free_before_made asks out old.process old.trace new.trace ext quiet conforms (asked_wider asks out p x));
    free = λ reply begun ended p x. free_before (is_against area.Embryo Shared) (subst (λ (me : ℕ). HeldBetween old new (IsFreeElsewhere me area.Embryo Shared)) p.same (held_wider p (IsFreeElsewhere begun.process area.Embryo Shared) x.free)) ext quiet;
  }

  -- where a prepare and a run of an app move folders to
  moved_on : (here to : Spot) → spot_eq here Here ≡ false → spot_eq to here ≡ true → spot_eq to Here ≡ false
  moved_on here to off is = ap (λ (z : Spot). spot_eq z Here) (one_location to here is) ∙ off

  -- no location is in both
  apart : (from : Spot) → spot_eq from Here ≡ true → spot_eq from (pod_spot draw area.Prepare) ≡ true → ⊥
  apart from here there = let clash : false ≡ true = sym (ap (λ (z : Spot). spot_eq z (pod_spot draw area.Prepare)) (one_location from Here here)) ∙ there in cc

  -- a move from embryo to prepare, or from there to such an area
  goes_elsewhere : (last : Area) → spot_eq (pod_spot draw last) Here ≡ false → (from to : Spot) →
      (((spot_eq from Here && spot_eq to (pod_spot draw area.Prepare)) || ((spot_eq from (pod_spot draw area.Prepare) && spot_eq to (pod_spot draw last)) || false)) || false) ≡ true →
      (spot_eq to Here ≡ false) × (spot_eq from Here ≡ true → is_in area.Prepare to.area ≡ true)
  goes_elsewhere last off from to h =
      by (spot_eq from Here) (spot_eq to (pod_spot draw area.Prepare)) (spot_eq from (pod_spot draw area.Prepare)) (spot_eq to (pod_spot draw last)) refl refl refl refl h
    where
      by : (a b d g : Bool) → spot_eq from Here ≡ a → spot_eq to (pod_spot draw area.Prepare) ≡ b → spot_eq from (pod_spot draw area.Prepare) ≡ d → spot_eq to (pod_spot draw last) ≡ g → (((a && b) || ((d && g) || false)) || false) ≡ true
          → (spot_eq to Here ≡ false) × (spot_eq from Here ≡ true → is_in area.Prepare to.area ≡ true)
      by a true d g k e l f h = (moved_on (pod_spot draw area.Prepare) to refl e, λ here. ap (λ (z : Spot). is_in area.Prepare z.area) (one_location to (pod_spot draw area.Prepare) e))
      by a false true true k e l f h = (moved_on (pod_spot draw last) to off f, λ here. absurd (apart from here l))
      by true false true false k e l f h = cc
      by true false false g k e l f h = cc
      by false false true false k e l f h = cc
      by false false false g k e l f h = cc

  pub prepare_elsewhere : (request : Request) → in_process (prepares_pod draw) request ≡ true → MovesElsewhere draw request
  prepare_elsewhere (MoveFolder from to) h = goes_elsewhere area.Prepared refl from to (or_nothing (prepares_pod draw (MoveFolder from to)) h)
  prepare_elsewhere (RemoveFolder gone) h = cc
  prepare_elsewhere request h = tt

  pub run_elsewhere : (request : Request) → in_process (makes_and_runs draw) request ≡ true → MovesElsewhere draw request
  run_elsewhere (MoveFolder from to) h = goes_elsewhere area.Run refl from to (or_nothing (makes_and_runs draw (MoveFolder from to)) h)
  run_elsewhere (RemoveFolder gone) h = cc
  run_elsewhere request h = tt

-- a process that only finishes keeps the rules
finish_allowed : (s : Seen) (request : Request) (reply : Reply) → is_finish request ≡ true → s.kept ≡ true → (seen_replied s request reply).kept ≡ true
finish_allowed s Finish reply is kept = kept
finish_allowed s request reply is kept = cc

finish_kept : (me : ℕ) (s : Seen) (es : List Event) → AllByRecursion (λ e. (is_foreign me e || is_finish e.request) ≡ true) es → s.kept ≡ true → (seen_after me s es).kept ≡ true
finish_kept me s [] asked kept = kept
finish_kept me s (e ∷ es) asked kept = finish_kept me (seen_after_event me s e) es asked.1 (by (is_foreign me e) asked.0)
  where
    by : (b : Bool) → (b || is_finish e.request) ≡ true → (cond b s (seen_replied s e.request e.reply)).kept ≡ true
    by true h = kept
    by false h = finish_allowed s e.request e.reply h kept

pub finished_keeps : {me : ℕ} {old new : List Event} → Extends is_finish me old new → Conforms me old → Conforms me new
finished_keeps {me} {old} {new} ext conforms =
    ap (λ (s : Seen). s.kept) (ap (seen_of me) ext.grown ∙ seen_after-append me _ old ext.more) ∙ finish_kept me (seen_of me old) ext.more ext.asked conforms
