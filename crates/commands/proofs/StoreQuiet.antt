-- Where nobody else steps, a process that begins, takes the lock of the images shared, reads them, gives the lock back and
-- finishes changes no folder, not whose lock is held exclusively, and nothing that others have open.
use Rattle.std.proofs.Common.{◌≡◌, ℕ, Bool, true, false, not, ◌&&◌, ◌||◌, ◌==◌, List, [], ◌∷◌, ◌++◌, refl, sym, ap, subst, ◌∙◌, append_assoc}
use Rattle.std.specs.List.{list_any, AllByRecursion}
use Rattle.dir_model.specs.declared.area.Area.{Area}
use Rattle.dir_model.specs.declared.event.Event.{Event}
use Rattle.dir_model.specs.declared.opening.Opening.{Opening}
use Rattle.dir_model.specs.declared.spot.Handle.{Handle}
use Rattle.dir_model.specs.declared.spot.Mode.TheVariants.{Shared, Exclusive}
use Rattle.dir_model.specs.declared.request.Request.{Request}
use Rattle.dir_model.specs.declared.request.Request.TheVariants.{Begin, OpenArea, TryLock, Close, ListArea, ListIn, ReadIn, Finish, Kill}
use Rattle.dir_model.specs.declared.request.Reply.{Reply}
use Rattle.dir_model.specs.declared.request.Reply.TheVariants.{Done, Opened}
use Rattle.dir_model.specs.Locks.{is_handle, is_exclusive, owns}
use Rattle.dir_model.specs.State.{Namespace, DirState, empty_state}
use Rattle.dir_model.specs.Trace.{state_after, state_next, states_next, namespace_replied, namespace_done, namespace_opened, locked, opened_gate}
use Rattle.dir_model.specs.Calls.{event, is_foreign, is_begin, is_finish, is_kill, Extends, AtOwnStep}
use Rattle.dir_model.specs.Quiet.{Quiet, OwnsNothing, SameNamespace}
use Rattle.dir_model.proofs.Lists.{or_last, same_self, any_last_not, any_map, all_left, all_push, same_rest}
use Rattle.dir_model.proofs.Quiet.{is_harmless, harmless_all, begin_is_harmless, finish_is_harmless}
use Rattle.dir_model.proofs.Chains.{states_next-append}
use Rattle.commands.specs.ImageList.{lists_images}
use Rattle.commands.proofs.OwnSteps.{elsewhere, fewer, mine_only}

-- nothing has come to what others have open
pub record Tame (me : ℕ) (old new : Namespace) : Type 0 where
  pub same : SameNamespace me old new
  pub others : (test : Opening → Bool) → list_any (elsewhere me test) new.openings ≡ true → list_any (elsewhere me test) old.openings ≡ true

as_it_is : (me : ℕ) (w : Namespace) → OwnsNothing me w → Tame me w w
as_it_is me w idle = record { same = record { folders = refl; owned = λ k. refl; mine = idle }; others = λ test any. any }

tame_both : (me : ℕ) (a b c : Namespace) → Tame me a b → Tame me b c → Tame me a c
tame_both me a b c x y = record {
  same = record { folders = y.same.folders ∙ x.same.folders; owned = λ k. y.same.owned k ∙ x.same.owned k; mine = y.same.mine };
  others = λ test any. x.others test (y.others test any);
}

-- one harmless step, or an own kill
one_same : (me : ℕ) (w : Namespace) (request : Request) (reply : Reply) → ((not (me == me) || is_kill request) || is_harmless request) ≡ true → OwnsNothing me w →
    SameNamespace me w (namespace_replied w me request reply)
one_same me w request reply asked idle = harmless_all me (record empty_state { namespace = w }) (event me request reply ∷ []) (refl, tt) (asked, tt) idle

-- a step that leaves the openings, or takes some away
begin_others : (me : ℕ) (w : Namespace) (request : Request) (reply : Reply) (test : Opening → Bool) → is_begin request ≡ true →
    list_any (elsewhere me test) (namespace_replied w me request reply).openings ≡ true → list_any (elsewhere me test) w.openings ≡ true
begin_others me w (Begin intent) Done test h any = any
begin_others me w (Begin intent) (Opened handle) test h any = any
begin_others me w (Begin intent) reply test h any = any
begin_others me w request reply test h any = cc

finish_others : (me : ℕ) (w : Namespace) (request : Request) (reply : Reply) (test : Opening → Bool) → is_finish request ≡ true →
    list_any (elsewhere me test) (namespace_replied w me request reply).openings ≡ true → list_any (elsewhere me test) w.openings ≡ true
finish_others me w Finish Done test h any = fewer (elsewhere me test) (λ o. not (o.process == me)) w.openings any
finish_others me w Finish (Opened handle) test h any = any
finish_others me w Finish reply test h any = any
finish_others me w request reply test h any = cc

kill_others : (me : ℕ) (w : Namespace) (request : Request) (reply : Reply) (test : Opening → Bool) → is_kill request ≡ true →
    list_any (elsewhere me test) (namespace_replied w me request reply).openings ≡ true → list_any (elsewhere me test) w.openings ≡ true
kill_others me w Kill Done test h any = fewer (elsewhere me test) (λ o. not (o.process == me)) w.openings any
kill_others me w Kill (Opened handle) test h any = any
kill_others me w Kill reply test h any = any
kill_others me w request reply test h any = cc

-- a step that leaves the namespace
unchanged : (me : ℕ) (w : Namespace) (request : Request) (reply : Reply) → namespace_done w me request ≡ w → ((handle : Handle) → namespace_opened w me request handle ≡ w) →
    OwnsNothing me w → Tame me w (namespace_replied w me request reply)
unchanged me w request Done done opened idle = subst (λ (x : Namespace). Tame me w x) (sym done) (as_it_is me w idle)
unchanged me w request (Opened handle) done opened idle = subst (λ (x : Namespace). Tame me w x) (sym (opened handle)) (as_it_is me w idle)
unchanged me w request reply done opened idle = as_it_is me w idle

pub opens_tame : (me : ℕ) (w : Namespace) (area : Area) (reply : Reply) → OwnsNothing me w → Tame me w (namespace_replied w me (OpenArea area) reply)
opens_tame me w area (Opened handle) idle = record {
  same = record {
    folders = refl;
    owned = λ k. any_last_not (owns k) w.openings (opened_gate me handle area) refl;
    mine = all_push (λ (o : Opening). (o.process == me) ≡ true → is_exclusive o.lock ≡ false) w.openings (opened_gate me handle area) idle (λ mine. refl);
  };
  others = λ test any. sym (any_last_not (elsewhere me test) w.openings (opened_gate me handle area) (ap (λ b. not b && test (opened_gate me handle area)) (same_self me))) ∙ any;
}
opens_tame me w area Done idle = as_it_is me w idle
opens_tame me w area reply idle = as_it_is me w idle

pub locks_tame : (me : ℕ) (w : Namespace) (handle : Handle) (reply : Reply) → OwnsNothing me w → Tame me w (namespace_replied w me (TryLock handle Shared) reply)
locks_tame me w handle Done idle = record {
  same = one_same me w (TryLock handle Shared) Done (or_last (not (me == me) || false) true refl) idle;
  others = λ test any. sym (any_map (elsewhere me test) (locked me handle Shared) (mine_only me test handle Shared) w.openings) ∙ any;
}
locks_tame me w handle (Opened other) idle = as_it_is me w idle
locks_tame me w handle reply idle = as_it_is me w idle

pub closes_tame : (me : ℕ) (w : Namespace) (handle : Handle) (reply : Reply) → OwnsNothing me w → Tame me w (namespace_replied w me (Close handle) reply)
closes_tame me w handle Done idle = record {
  same = one_same me w (Close handle) Done (or_last (not (me == me) || false) true refl) idle;
  others = λ test any. fewer (elsewhere me test) (λ o. not (is_handle me handle o)) w.openings any;
}
closes_tame me w handle (Opened other) idle = as_it_is me w idle
closes_tame me w handle reply idle = as_it_is me w idle

lists_tame : (me : ℕ) (w : Namespace) (request : Request) (reply : Reply) → lists_images request ≡ true → OwnsNothing me w → Tame me w (namespace_replied w me request reply)
lists_tame me w (OpenArea area) reply h idle = opens_tame me w area reply idle
lists_tame me w (TryLock handle Shared) reply h idle = locks_tame me w handle reply idle
lists_tame me w (TryLock handle Exclusive) reply h idle = cc
lists_tame me w (Close handle) reply h idle = closes_tame me w handle reply idle
lists_tame me w (ListArea area) reply h idle = unchanged me w (ListArea area) reply refl (λ handle. refl) idle
lists_tame me w (ListIn inner) reply h idle = unchanged me w (ListIn inner) reply refl (λ handle. refl) idle
lists_tame me w (ReadIn inner at room) reply h idle = unchanged me w (ReadIn inner at room) reply refl (λ handle. refl) idle
lists_tame me w request reply h idle = cc

-- what such a process asks for
abbrev pub is_tame : Request → Bool
is_tame request = is_begin request || (lists_images request || is_finish request)

pub lists_is_tame : (r : Request) → lists_images r ≡ true → is_tame r ≡ true
lists_is_tame r h = or_last (is_begin r) (lists_images r || is_finish r) (by (lists_images r) h)
  where
    by : (b : Bool) → b ≡ true → (b || is_finish r) ≡ true
    by true k = refl
    by false k = cc

pub tame_step : (me : ℕ) (w : Namespace) (request : Request) (reply : Reply) → ((not (me == me) || is_kill request) || is_tame request) ≡ true → OwnsNothing me w →
    Tame me w (namespace_replied w me request reply)
tame_step me w request reply asked idle =
    by (is_kill request) (is_begin request) (lists_images request) (is_finish request) refl refl refl refl (ap (λ b. (not b || is_kill request) || is_tame request) (sym (same_self me)) ∙ asked)
  where
    harmless : is_harmless request ≡ true → SameNamespace me w (namespace_replied w me request reply)
    harmless h = one_same me w request reply (or_last (not (me == me) || is_kill request) (is_harmless request) h) idle

    by : (kill begin lists finish : Bool) → is_kill request ≡ kill → is_begin request ≡ begin → lists_images request ≡ lists → is_finish request ≡ finish →
        (kill || (begin || (lists || finish))) ≡ true → Tame me w (namespace_replied w me request reply)
    by true begin lists finish k b l f h = record { same = one_same me w request reply (killed k) idle; others = λ test any. kill_others me w request reply test k any }
      where
        killed : is_kill request ≡ true → ((not (me == me) || is_kill request) || is_harmless request) ≡ true
        killed is = ap (λ b. (not b || is_kill request) || is_harmless request) (same_self me) ∙ ap (λ b. b || is_harmless request) is
    by false true lists finish k b l f h = record { same = harmless (begin_is_harmless request b); others = λ test any. begin_others me w request reply test b any }
    by false false true finish k b l f h = lists_tame me w request reply l idle
    by false false false true k b l f h =
        record {
          same = harmless (finish_is_harmless request f);
          others = λ test any.
              finish_others me w request reply test f any;
        }
    by false false false false k b l f h = cc

tame_all : (me : ℕ) (s : DirState) (es : List Event) → AllByRecursion (λ e. e.process ≡ me) es → AllByRecursion (λ e. (is_foreign me e || is_tame e.request) ≡ true) es →
    OwnsNothing me s.namespace → Tame me s.namespace (states_next s es).namespace
tame_all me s [] own asked idle = as_it_is me s.namespace idle
tame_all me s (e ∷ es) own asked idle =
    let n : Namespace = s.namespace in
    let mine : ((not (me == me) || is_kill e.request) || is_tame e.request) ≡ true = subst (λ (q : ℕ). ((not (q == me) || is_kill e.request) || is_tame e.request) ≡ true) own.0 asked.0 in
    let next : Tame me n (namespace_replied n e.process e.request e.reply) = subst (λ (q : ℕ). Tame me n (namespace_replied n q e.request e.reply)) (sym own.0)
    (tame_step me n e.request e.reply mine idle) in
    tame_both me n (namespace_replied n e.process e.request e.reply) (states_next (state_next s e) es).namespace next (tame_all me (state_next s e) es own.1 asked.1 next.same.mine)

-- what held at an own event held of a state of which so much is as in the first
pub at_tame : {me : ℕ} {old new : List Event} (P : DirState → Type 0) → AtOwnStep me old new P → Extends is_tame me old new → Quiet me old new →
    OwnsNothing me (state_after old).namespace → (s : DirState) × Tame me (state_after old).namespace s.namespace × P s
at_tame {me} {old} {new} P at ext quiet idle =
    let es = at.later ++ at.step ∷ [] in
    let whole : new ≡ old ++ (es ++ at.rest) = at.ends ∙ (ap (λ h. (h ++ at.step ∷ []) ++ at.rest) at.begins ∙ simp append_assoc) in
    let own : AllByRecursion (λ e. e.process ≡ me) es = all_left _ es at.rest
    (subst (λ (l : List Event). AllByRecursion (λ e. e.process ≡ me) l) (same_rest old quiet.more (es ++ at.rest) (sym quiet.grown ∙ whole)) quiet.own) in
    let asked : AllByRecursion (λ e. (is_foreign me e || is_tame e.request) ≡ true) es = all_left _ es at.rest
    (subst (λ (l : List Event). AllByRecursion (λ e. (is_foreign me e || is_tame e.request) ≡ true) l) (same_rest old ext.more (es ++ at.rest) (sym ext.grown ∙ whole))
    ext.asked) in
    let here : state_after (at.before ++ at.step ∷ []) ≡ states_next (state_after old) es = ap (λ h. state_after (h ++ at.step ∷ [])) at.begins ∙
    (ap state_after (append_assoc old at.later (at.step ∷ [])) ∙ states_next-append empty_state old es) in
    (state_after (at.before ++ at.step ∷ []), subst (λ (s : DirState). Tame me (state_after old).namespace s.namespace) (sym here) (tame_all me (state_after old) es own asked idle), at.holds)

-- and so it is in the end
pub end_tame : {me : ℕ} {old new : List Event} → Extends is_tame me old new → Quiet me old new → OwnsNothing me (state_after old).namespace →
    Tame me (state_after old).namespace (state_after new).namespace
end_tame {me} {old} {new} ext quiet idle =
    let own : AllByRecursion (λ e. e.process ≡ me) ext.more = subst (λ (l : List Event). AllByRecursion (λ e. e.process ≡ me) l)
    (same_rest old quiet.more ext.more (sym quiet.grown ∙ ext.grown)) quiet.own in
    let here : state_after new ≡ states_next (state_after old) ext.more = ap state_after ext.grown ∙ states_next-append empty_state old ext.more in
    subst (λ (s : DirState). Tame me (state_after old).namespace s.namespace) (sym here) (tame_all me (state_after old) ext.more own ext.asked idle)
