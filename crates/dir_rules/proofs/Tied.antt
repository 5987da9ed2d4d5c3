-- One more call keeps what a process knows and its events together.
use Rattle.dir_model.proofs.Allowed.{allowed_step}
use Rattle.dir_model.specs.Paths.{is_well_formed}
use Rattle.dir_model.specs.declared.intent.Start.{Start}
use Rattle.dir_model.proofs.Lists.{any_last_not}
use Rattle.std.proofs.Common.{◌≡◌, ◌⊎◌, inl, inr, ℕ, Bool, true, false, not, ◌&&◌, ◌||◌, ◌==◌, cond, Option, Some, None, option_map, List, [], ◌∷◌, ◌++◌, refl, sym, ap, subst, ◌∙◌}
use Rattle.std.specs.List.{list_any, AllByRecursion}
use Rattle.plain_laws.proofs.Booleans.{no_more}
use Rattle.dir_model.specs.declared.area.Area.{Area}
use Rattle.dir_model.specs.declared.area.Area.TheVariants.{Prepare, Prepared, Run, Incoming, Images}
use Rattle.dir_model.specs.declared.spot.Spot.{Spot}
use Rattle.dir_model.specs.declared.event.Event.{Event}
use Rattle.dir_model.specs.declared.request.DirError.TheVariants.{NoMemory}
use Rattle.dir_model.specs.declared.request.Request.{Request}
use Rattle.dir_model.specs.declared.request.Request.TheVariants.{Begin, MakeFolder, MoveFolder, Open, OpenArea, ListArea, ListIn, MakeDirIn, MakeFileIn, AppendIn, SyncIn, Finish, Kill}
use Rattle.dir_model.specs.declared.request.Reply.{Reply}
use Rattle.dir_model.specs.declared.request.Reply.TheVariants.{Done, Begun, Opened, Names, Items, Read, Refused}
use Rattle.dir_model.specs.State.{Namespace, DirState, empty_state, lives, has_begun, spot_eq}
use Rattle.dir_model.specs.Trace.{state_next, states_next, state_after, namespace_replied}
use Rattle.dir_model.specs.Calls.{Interference, CallStep, TookPlace, LeftNothing, is_foreign, is_kill, is_begin, event}
use Rattle.dir_rules.specs.declared.seen.Seen.{Seen}
use Rattle.dir_rules.specs.declared.seen.Making.{Making}
use Rattle.dir_rules.specs.Seen.{spoilt, learned, makes_at, making_changed, moved_making, with_mark, marks}
use Rattle.dir_rules.specs.Standing.{standing_replied}
use Rattle.dir_rules.specs.LockRules.{lock_rules_allow}
use Rattle.dir_rules.specs.Rules.{allows, may_move_by_contents, contents_allow_move}
use Rattle.dir_rules.specs.Conforms.{seen_replied, seen_after_event, seen_after, seen_of, Conforms, lost, with_lost, Agrees, IsTied}
use Rattle.dir_model.proofs.Lists.{and_left, and_right, and_both, same_self, any_push, and_false}
use Rattle.dir_model.proofs.Chains.{states_next-append}

-- what was seen of two parts
pub seen_after-append : (me : ℕ) (s : Seen) (xs ys : List Event) → seen_after me s (xs ++ ys) ≡ seen_after me (seen_after me s xs) ys
seen_after-append me s [] ys = refl
seen_after-append me s (x ∷ xs) ys = seen_after-append me (seen_after_event me s x) xs ys

pub others_unseen : (me : ℕ) (s : Seen) (es : List Event) → AllByRecursion (λ e. is_foreign me e ≡ true) es → seen_after me s es ≡ s
others_unseen me s [] a = refl
others_unseen me s (e ∷ es) a = rw a.0 (others_unseen me s es a.1)

pub meanwhile_unseen : {me : ℕ} {old new : List Event} → Interference me old new → seen_of me new ≡ seen_of me old
meanwhile_unseen {me} {old} {new} m = ap (seen_of me) m.grown ∙ seen_after-append me _ old m.others ∙ others_unseen me (seen_of me old) m.others m.foreign

pub own_seen : (me : ℕ) (h : List Event) (request : Request) (reply : Reply) → is_kill request ≡ false → seen_of me (h ++ event me request reply ∷ []) ≡ seen_replied (seen_of me h) request reply
own_seen me h request reply alive = seen_after-append me _ h (event me request reply ∷ []) ∙ by (is_foreign me (event me request reply)) (rw (same_self me, alive) refl)
  where
    by : (b : Bool) → b ≡ false → cond b (seen_of me h) (seen_replied (seen_of me h) request reply) ≡ seen_replied (seen_of me h) request reply
    by true h = cc
    by false h = refl

moves_lost : (s : Seen) (kept : Bool) (m : Making) (from to : Spot) (a b : Area) → contents_allow_move (record s { kept = kept; making = Some (spoilt m) }) from to a b ≡ true → contents_allow_move (record s { making = Some m }) from to a b ≡ true
moves_lost s kept m from to Prepare Prepared h = absurd (no_more (makes_at (Some m) from) h)
moves_lost s kept m from to Prepare Run h = absurd (no_more (makes_at (Some m) from) h)
moves_lost s kept m from to Incoming Images h = absurd (no_more (makes_at (Some m) from) (and_left _ _ h))
moves_lost s kept m from to _ _ h = h

allows_spoilt : (s : Seen) (kept : Bool) (m : Making) (request : Request) → allows (record s { kept = kept; making = Some (spoilt m) }) request ≡ true → allows (record s { making = Some m }) request ≡ true
allows_spoilt s kept m (MoveFolder from to) h =
    let lost : Seen = record s { kept = kept; making = Some (spoilt m) } in
    let x = and_right (lock_rules_allow s.standing (MoveFolder from to)) (may_move_by_contents lost from to) h in
    and_both (lock_rules_allow s.standing (MoveFolder from to)) (may_move_by_contents (record s { making = Some m }) from to) (and_left (lock_rules_allow s.standing (MoveFolder from to)) (may_move_by_contents lost from to) h)
    (and_both _ _ (moves_lost s kept m from to from.area to.area (and_left _ _ x)) (and_right (contents_allow_move lost from to from.area to.area) _ x))
allows_spoilt s kept m _ h = h

pub allows_lost : (s : Seen) (kept spoils : Bool) (making : Option Making) (request : Request) → allows (with_lost (record s { making = making }) kept spoils) request ≡ true → allows (record s { making = making }) request ≡ true
allows_lost s kept false making request h = h
allows_lost s kept true None request h = h
allows_lost s kept true (Some m) request h = allows_spoilt s kept m request h

-- and a reply tells the same of it
changed_lost : (spot : Spot) (change : Making → Making) → ((m : Making) → change (spoilt m) ≡ spoilt (change m)) → (spoils : Bool) (making : Option Making) → making_changed spot change (lost spoils making) ≡ lost spoils (making_changed spot change making)
changed_lost spot change same false making = refl
changed_lost spot change same true None = refl
changed_lost spot change same true (Some m) = by (makes_at (Some m) spot)
  where
    by : (b : Bool) → cond b (Some (change (spoilt m))) (Some (spoilt m)) ≡ option_map spoilt (cond b (Some (change m)) (Some m))
    by true = ap Some (same m)
    by false = refl

moved_lost : (from to : Spot) (spoils : Bool) (making : Option Making) → option_map (moved_making from to) (lost spoils making) ≡ lost spoils (option_map (moved_making from to) making)
moved_lost from to false making = refl
moved_lost from to true None = refl
moved_lost from to true (Some m) = by (spot_eq m.spot from)
  where
    by : (b : Bool) → Some (cond b (record (spoilt m) { spot = to }) (spoilt m)) ≡ Some (spoilt (cond b (record m { spot = to }) m))
    by true = refl
    by false = refl

-- the same but for one spoilt folder
abbrev LearnsSame : Seen → Bool → Bool → Request → Reply → Type 0
LearnsSame s kept spoils request reply = (later : Bool) × (learned (with_lost s kept spoils) request reply ≡ with_lost (learned s request reply) kept later)

in_same : (s : Seen) (kept spoils : Bool) (spot : Spot) (change : Making → Making) → ((m : Making) → change (spoilt m) ≡ spoilt (change m)) → (rest : Seen) → record rest { kept = kept; making = making_changed spot change (lost spoils s.making) } ≡ with_lost (record rest { making = making_changed spot change s.making }) kept spoils
in_same s kept spoils spot change same rest = ap (λ (o : Option Making). let r : Seen = record rest { kept = kept; making = o } in r) (changed_lost spot change same spoils s.making)

pub learns_same : (s : Seen) (kept spoils : Bool) (request : Request) (reply : Reply) → LearnsSame s kept spoils request reply
learns_same s kept spoils (MakeFolder spot) Done = (false, refl)
learns_same s kept spoils (MoveFolder from to) Done = (spoils, ap (λ (o : Option Making). let r : Seen = record (learned s (MoveFolder from to) Done) { kept = kept; making = o } in r) (moved_lost from to spoils s.making))
learns_same s kept spoils (MakeDirIn i) Done = (spoils, in_same s kept spoils i.spot _ (λ m. refl) (learned s (MakeDirIn i) Done))
learns_same s kept spoils (MakeFileIn i) Done = (spoils, in_same s kept spoils i.spot _ (λ m. refl) (learned s (MakeFileIn i) Done))
learns_same s kept spoils (AppendIn i piece) Done = (spoils, in_same s kept spoils i.spot _ (λ m. refl) (learned s (AppendIn i piece) Done))
learns_same s kept spoils (SyncIn i) Done = (spoils, in_same s kept spoils i.spot _ (λ m. refl) (learned s (SyncIn i) Done))
learns_same s kept spoils (MakeDirIn i) (Refused e left) = (spoils, in_same s kept spoils i.spot spoilt (λ m. refl) (learned s (MakeDirIn i) (Refused e left)))
learns_same s kept spoils (MakeFileIn i) (Refused e left) = (spoils, in_same s kept spoils i.spot spoilt (λ m. refl) (learned s (MakeFileIn i) (Refused e left)))
learns_same s kept spoils (AppendIn i piece) (Refused e left) = (spoils, in_same s kept spoils i.spot spoilt (λ m. refl) (learned s (AppendIn i piece) (Refused e left)))
learns_same s kept spoils (SyncIn i) (Refused e left) = (spoils, in_same s kept spoils i.spot spoilt (λ m. refl) (learned s (SyncIn i) (Refused e left)))
learns_same s kept spoils request Done = (spoils, refl)
learns_same s kept spoils (Open spot which) (Opened handle) = (spoils, refl)
learns_same s kept spoils (OpenArea area) (Opened handle) = (spoils, refl)
learns_same s kept spoils request (Opened handle) = (spoils, refl)
learns_same s kept spoils (ListIn i) (Items items) = (spoils, refl)
learns_same s kept spoils request (Items items) = (spoils, refl)
learns_same s kept spoils (ListArea area) (Names names) = (spoils, refl)
learns_same s kept spoils request (Names names) = (spoils, refl)
learns_same s kept spoils request (Refused e left) = (spoils, refl)
learns_same s kept spoils request Begun = (spoils, refl)
learns_same s kept spoils request (Read bytes) = (spoils, refl)

-- who lives after others' steps lived before them
any_other : (me : ℕ) (p : Start) (xs : List Start) → (p.process == me) ≡ false → list_any (λ q. q.process == me) (xs ++ p ∷ []) ≡ true → list_any (λ q. q.process == me) xs ≡ true
any_other me p xs other h = sym (any_last_not (λ q. q.process == me) xs p other) ∙ h

not_before : (me p : ℕ) (xs : List ℕ) → not (list_any (λ q. q == me) (xs ++ p ∷ [])) ≡ true → not (list_any (λ q. q == me) xs) ≡ true
not_before me p xs h = by (list_any (λ q. q == me) xs) refl
  where
    by : (b : Bool) → list_any (λ q. q == me) xs ≡ b → not b ≡ true
    by true is = let e : false ≡ true = ap not (sym (any_push (λ q. q == me) xs p is)) ∙ h in cc
    by false is = refl

not_me : (b : Bool) → (not b || false) ≡ true → b ≡ false
not_me true h = cc
not_me false h = refl

ended_before : (me p : ℕ) (n : Namespace) → (has_begun n me && not (list_any (λ q. q == me) (n.ended ++ p ∷ []))) ≡ true → lives n me ≡ true
ended_before me p n h = and_both _ _ (and_left _ _ h) (not_before me p n.ended (and_right _ _ h))

lived_step : (me : ℕ) (n : Namespace) (p : ℕ) (request : Request) (reply : Reply) → (not (p == me) || is_kill request) ≡ true → lives (namespace_replied n p request reply) me ≡ true → lives n me ≡ true
lived_step me n p (Begin intent) Done f a = and_both _ _ (any_other me (record { process = p; intent = intent }) n.begun (not_me (p == me) f) (and_left _ _ a)) (and_right _ _ a)
lived_step me n p Finish Done f a = ended_before me p n a
lived_step me n p Kill Done f a = ended_before me p n a
lived_step me n p request Done f a = a
lived_step me n p (Open spot which) (Opened handle) f a = a
lived_step me n p request (Opened handle) f a = a
lived_step me n p request _ f a = a

pub lived_before : (me : ℕ) (s : DirState) (es : List Event) → AllByRecursion (λ e. is_foreign me e ≡ true) es → lives (states_next s es).namespace me ≡ true → lives s.namespace me ≡ true
lived_before me s [] f a = a
lived_before me s (e ∷ es) f a = lived_step me s.namespace e.process e.request e.reply f.0 (lived_before me (state_next s e) es f.1 a)

abbrev pub Lives : ℕ → List Event → Type 0
Lives me h = lives (state_after h).namespace me ≡ true

pub lived_meanwhile : {me : ℕ} {old new : List Event} → Interference me old new → Lives me new → Lives me old
lived_meanwhile {me} {old} {new} m a = lived_before me (state_after old) m.others m.foreign (subst (λ (s : DirState). lives s.namespace me ≡ true) (ap state_after m.grown ∙ states_next-append empty_state old m.others) a)

-- the same by one more reply
agrees_more : (s f : Seen) (request : Request) (reply : Reply) → Agrees s f → Agrees (seen_replied s request reply) (seen_replied f request reply)
agrees_more s f request reply a =
    let same = learns_same f s.kept a.spoils request reply in
    record {
      spoils = same.0;
      same = ap (λ (x : Seen). let r : Seen = record (learned x request reply) { standing = standing_replied x.standing request reply; kept = allows s request && s.kept } in r) a.same ∙ ap (λ (x : Seen). let r : Seen = record x { standing = standing_replied f.standing request reply; kept = allows s request && s.kept } in r) same.1;
    }

agrees_allowed : (s f : Seen) (request : Request) → Agrees s f → allows s request ≡ true → allows f request ≡ true
agrees_allowed s f request a h = allows_lost f s.kept a.spoils f.making request (subst (λ (x : Seen). allows x request ≡ true) a.same h)

-- a request that left no event can only have spoilt the folder
learns_nothing : (s : Seen) (request : Request) → (spoils : Bool) × (learned s request (Refused NoMemory 0) ≡ with_lost s s.kept spoils)
learns_nothing s (MakeDirIn i) = (makes_at s.making i.spot, refl)
learns_nothing s (MakeFileIn i) = (makes_at s.making i.spot, ap (λ (b : Bool). let r : Seen = record s { making = lost (makes_at s.making i.spot) s.making; marked = with_mark b i.spot s.marked } in r) (and_false (marks s i)))
learns_nothing s (AppendIn i piece) = (makes_at s.making i.spot, refl)
learns_nothing s (SyncIn i) = (makes_at s.making i.spot, refl)
learns_nothing s _ = (false, refl)

lost_twice : (a b : Bool) (m : Option Making) → lost b (lost a m) ≡ lost (a || b) m
lost_twice false b m = refl
lost_twice true false m = refl
lost_twice true true None = refl
lost_twice true true (Some m) = refl

pub agrees_lost : (s f : Seen) (request : Request) → Agrees s f → Agrees (seen_replied s request (Refused NoMemory 0)) f
agrees_lost s f request a =
    let nothing = learns_nothing s request in
    record {
      spoils = a.spoils || nothing.0;
      same = ap (λ (x : Seen). let r : Seen = record x { standing = s.standing; kept = allows s request && s.kept } in r) nothing.1 ∙ ap (λ (x : Seen). let r : Seen = record (with_lost x s.kept nothing.0) { standing = x.standing; kept = allows s request && s.kept } in r) a.same ∙ ap (λ (o : Option Making). let r : Seen = record f { kept = allows s request && s.kept; making = o } in r) (lost_twice a.spoils nothing.0 f.making);
    }

module _ (me : ℕ) (old new : List Event) (s : Seen) (request : Request) (reply : Reply) (tied : IsTied me old s) (not_begin : is_begin request ≡ false) (not_kill : is_kill request ≡ false) where
  took : (before : List Event) → Interference me old before → TookPlace before me request reply new → IsTied me new (seen_replied s request reply)
  took before m t =
      let living : Lives me old = lived_meanwhile m (subst (λ (b : Bool). cond b (not (has_begun (state_after before).namespace me)) (lives (state_after before).namespace me) ≡ true) not_begin (and_right (is_well_formed request) (cond (is_begin request) (not (has_begun (state_after before).namespace me)) (lives (state_after before).namespace me)) (allowed_step (state_after before) me request reply t.allowed))) in
      let is : seen_of me new ≡ seen_replied (seen_of me old) request reply = ap (seen_of me) t.grown ∙ own_seen me before request reply not_kill ∙ ap (λ (f : Seen). seen_replied f request reply) (meanwhile_unseen m) in
      record {
        living = λ now. subst (λ (f : Seen). Agrees (seen_replied s request reply) f) (sym is) (agrees_more s (seen_of me old) request reply (tied.living living));
        conforms = λ kept. ap (λ (f : Seen). f.kept) is ∙ and_both _ _ (agrees_allowed s (seen_of me old) request (tied.living living) (and_left _ _ kept)) (tied.conforms (and_right _ _ kept));
      }

  left : (before : List Event) → Interference me old before → LeftNothing before me request reply new → IsTied me new (seen_replied s request reply)
  left before m l =
      let is : seen_of me new ≡ seen_of me old = ap (seen_of me) l.same ∙ meanwhile_unseen m in
      record {
        living = λ now. by l.why (subst (Lives me) l.same now);
        conforms = λ kept. ap (λ (f : Seen). f.kept) is ∙ tied.conforms (and_right _ _ kept);
      }
    where
      by : (lives (state_after before).namespace me ≡ false) ⊎ (reply ≡ Refused NoMemory 0) → Lives me before → Agrees (seen_replied s request reply) (seen_of me new)
      by (inl dead) now = let e : false ≡ true = sym dead ∙ now in cc
      by (inr none) now =
          subst (λ (r : Reply). Agrees (seen_replied s request r) (seen_of me new)) (sym none)
          (subst (λ (f : Seen). Agrees (seen_replied s request (Refused NoMemory 0)) f) (sym (ap (seen_of me) l.same ∙ meanwhile_unseen m)) (agrees_lost s (seen_of me old) request (tied.living (lived_meanwhile m now))))

  pub tied_step : CallStep me old request reply new → IsTied me new (seen_replied s request reply)
  tied_step c = by c.own
    where
      by : TookPlace c.before me request reply new ⊎ LeftNothing c.before me request reply new → IsTied me new (seen_replied s request reply)
      by (inl t) = took c.before c.meanwhile t
      by (inr l) = left c.before c.meanwhile l

-- the same with the arguments left out
pub tied_call : {me : ℕ} {old new : List Event} {s s' : Seen} {request : Request} {reply : Reply} → IsTied me old s → is_begin request ≡ false → is_kill request ≡ false → s' ≡ seen_replied s request reply → CallStep me old request reply new → IsTied me new s'
tied_call {me} {old} {new} {s} {s'} {request} {reply} tied b k is c = subst (λ (x : Seen). IsTied me new x) (sym is) (tied_step me old new s request reply tied b k c)

-- each beginning of a conforming part conforms
kept_shorter : (me : ℕ) (s : Seen) (e : Event) → (seen_after_event me s e).kept ≡ true → s.kept ≡ true
kept_shorter me s e h = by (is_foreign me e) h
  where
    by : (b : Bool) → (cond b s (seen_replied s e.request e.reply)).kept ≡ true → s.kept ≡ true
    by true k = k
    by false k = and_right _ _ k

pub kept_before : (me : ℕ) (s : Seen) (es : List Event) → (seen_after me s es).kept ≡ true → s.kept ≡ true
kept_before me s [] h = h
kept_before me s (e ∷ es) h = kept_shorter me s e (kept_before me (seen_after_event me s e) es h)

pub conforms-left : (me : ℕ) (xs ys : List Event) → Conforms me (xs ++ ys) → Conforms me xs
conforms-left me xs ys h = kept_before me (seen_of me xs) ys (ap (λ (f : Seen). f.kept) (sym (seen_after-append me _ xs ys)) ∙ h)

-- and its own event was allowed
pub was_allowed : (me : ℕ) (h : List Event) (request : Request) (reply : Reply) → is_kill request ≡ false → Conforms me (h ++ event me request reply ∷ []) → allows (seen_of me h) request ≡ true
was_allowed me h request reply alive c = and_left _ _ (ap (λ (f : Seen). f.kept) (sym (own_seen me h request reply alive)) ∙ c)

-- a listing whose beginning left no event: its end, which leaves none either, is then one more call
pub tied_unbegun : (me : ℕ) (h : List Event) (s : Seen) (request : Request) → IsTied me h s → IsTied me h (seen_replied s request Begun)
tied_unbegun me h s request tied = record {
  living = λ now. let a = tied.living now in record { spoils = a.spoils; same = ap (λ (x : Seen). let r : Seen = record x { kept = allows s request && s.kept } in r) a.same };
  conforms = λ kept. tied.conforms (and_right _ _ kept);
}

-- what a process knew before a call, it knew at the call's step
pub tied_meanwhile : {me : ℕ} {old new : List Event} {s : Seen} → IsTied me old s → Interference me old new → IsTied me new s
tied_meanwhile {me} {old} {new} {s} tied m = record {
  living = λ now. subst (Agrees s) (sym (meanwhile_unseen m)) (tied.living (lived_meanwhile m now));
  conforms = λ kept. ap (λ (x : Seen). x.kept) (meanwhile_unseen m) ∙ tied.conforms kept;
}
