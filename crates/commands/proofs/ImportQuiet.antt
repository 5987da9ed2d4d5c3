-- Where nobody else steps, a process that imports an image leaves what others have open, and whose lock is held exclusively.
use Rattle.std.proofs.Common.{◌≡◌, ℕ, Bool, true, false, not, ◌||◌, ◌==◌, List, [], ◌∷◌, ◌++◌, refl, sym, ap, subst, ◌∙◌, append_assoc}
use Rattle.std.specs.List.{list_any, AllByRecursion}
use Rattle.dir_model.specs.declared.event.Event.{Event}
use Rattle.dir_model.specs.declared.opening.Opening.{Opening}
use Rattle.dir_model.specs.declared.spot.Handle.{Handle}
use Rattle.dir_model.specs.declared.spot.Mode.TheVariants.{Shared, Exclusive}
use Rattle.dir_model.specs.declared.spot.Spot.{Spot}
use Rattle.dir_model.specs.declared.request.Request.{Request}
use Rattle.dir_model.specs.declared.request.Request.TheVariants.{MakeFolder, MoveFolder, OpenArea, TryLock, Close, ListArea, ListIn, ReadIn, MakeDirIn, MakeFileIn, AppendIn, SyncIn}
use Rattle.dir_model.specs.declared.request.Reply.{Reply}
use Rattle.dir_model.specs.declared.request.Reply.TheVariants.{Done, Opened}
use Rattle.dir_model.specs.Locks.{owns, is_exclusive}
use Rattle.dir_model.specs.State.{Namespace, DirState, empty_state, is_owned}
use Rattle.dir_model.specs.Trace.{state_after, state_next, states_next, namespace_replied, namespace_done, namespace_opened}
use Rattle.dir_model.specs.Calls.{is_foreign, is_begin, is_finish, is_kill, Extends, AtOwnStep}
use Rattle.dir_model.specs.Quiet.{Quiet, OwnsNothing}
use Rattle.dir_model.proofs.Lists.{or_last, all_left, same_rest, same_self}
use Rattle.dir_model.proofs.Chains.{states_next-append}
use Rattle.image_store.specs.Requests.{imports_at}
use Rattle.commands.specs.ImageList.{lists_images}
use Rattle.commands.proofs.OwnSteps.{elsewhere}
use Rattle.commands.proofs.StoreQuiet.{Tame, is_tame, opens_tame, locks_tame, closes_tame, tame_step}

-- nothing has come to what others have open, and whose lock is held exclusively is as before
pub record Modest (me : ℕ) (old new : Namespace) : Type 0 where
  pub owned : (folder : ℕ) → is_owned new folder ≡ is_owned old folder
  pub mine : OwnsNothing me new
  pub others : (test : Opening → Bool) → list_any (elsewhere me test) new.openings ≡ true → list_any (elsewhere me test) old.openings ≡ true

of_tame : {me : ℕ} {old new : Namespace} → Tame me old new → Modest me old new
of_tame {me} {old} {new} t = record { owned = t.same.owned; mine = t.same.mine; others = t.others }

modest_both : (me : ℕ) (a b c : Namespace) → Modest me a b → Modest me b c → Modest me a c
modest_both me a b c x y = record { owned = λ k. y.owned k ∙ x.owned k; mine = y.mine; others = λ test any. x.others test (y.others test any) }

-- where the open handles are the same
same_openings : (me : ℕ) (old new : Namespace) → new.openings ≡ old.openings → OwnsNothing me old → Modest me old new
same_openings me old new same idle = record {
  owned = λ k. ap (λ (os : List Opening). list_any (owns k) os) same;
  mine = subst (λ (os : List Opening). AllByRecursion (λ o. (o.process == me) ≡ true → is_exclusive o.lock ≡ false) os) (sym same) idle;
  others = λ test any. subst (λ (os : List Opening). list_any (elsewhere me test) os ≡ true) same any;
}

leaves_openings : (me : ℕ) (w : Namespace) (request : Request) (reply : Reply) → (namespace_done w me request).openings ≡ w.openings → ((handle : Handle) → (namespace_opened w me request handle).openings ≡ w.openings) →
    OwnsNothing me w → Modest me w (namespace_replied w me request reply)
leaves_openings me w request Done done opened idle = same_openings me w (namespace_done w me request) done idle
leaves_openings me w request (Opened handle) done opened idle = same_openings me w (namespace_opened w me request handle) (opened handle) idle
leaves_openings me w request reply done opened idle = same_openings me w w refl idle

-- each request of an import
imports_modest : (spot : Spot) (me : ℕ) (w : Namespace) (request : Request) (reply : Reply) → imports_at spot request ≡ true → OwnsNothing me w → Modest me w (namespace_replied w me request reply)
imports_modest spot me w (OpenArea area) reply h idle = of_tame (opens_tame me w area reply idle)
imports_modest spot me w (TryLock handle Shared) reply h idle = of_tame (locks_tame me w handle reply idle)
imports_modest spot me w (TryLock handle Exclusive) reply h idle = cc
imports_modest spot me w (Close handle) reply h idle = of_tame (closes_tame me w handle reply idle)
imports_modest spot me w (MakeFolder here) reply h idle = leaves_openings me w (MakeFolder here) reply refl (λ handle. refl) idle
imports_modest spot me w (MoveFolder from to) reply h idle = leaves_openings me w (MoveFolder from to) reply refl (λ handle. refl) idle
imports_modest spot me w (ListArea area) reply h idle = leaves_openings me w (ListArea area) reply refl (λ handle. refl) idle
imports_modest spot me w (ListIn inner) reply h idle = leaves_openings me w (ListIn inner) reply refl (λ handle. refl) idle
imports_modest spot me w (ReadIn inner at room) reply h idle = leaves_openings me w (ReadIn inner at room) reply refl (λ handle. refl) idle
imports_modest spot me w (MakeDirIn inner) reply h idle = leaves_openings me w (MakeDirIn inner) reply refl (λ handle. refl) idle
imports_modest spot me w (MakeFileIn inner) reply h idle = leaves_openings me w (MakeFileIn inner) reply refl (λ handle. refl) idle
imports_modest spot me w (AppendIn inner piece) reply h idle = leaves_openings me w (AppendIn inner piece) reply refl (λ handle. refl) idle
imports_modest spot me w (SyncIn inner) reply h idle = leaves_openings me w (SyncIn inner) reply refl (λ handle. refl) idle
imports_modest spot me w request reply h idle = cc

-- what such a process asks for
abbrev pub is_modest : Spot → Request → Bool
is_modest spot request = is_begin request || (imports_at spot request || is_finish request)

pub imports_is_modest : (spot : Spot) (r : Request) → imports_at spot r ≡ true → is_modest spot r ≡ true
imports_is_modest spot r h = or_last (is_begin r) (imports_at spot r || is_finish r) (by (imports_at spot r) h)
  where
    by : (b : Bool) → b ≡ true → (b || is_finish r) ≡ true
    by true k = refl
    by false k = cc

modest_step : (spot : Spot) (me : ℕ) (w : Namespace) (request : Request) (reply : Reply) → ((not (me == me) || is_kill request) || is_modest spot request) ≡ true → OwnsNothing me w →
    Modest me w (namespace_replied w me request reply)
modest_step spot me w request reply asked idle =
    by (is_kill request) (is_begin request) (imports_at spot request) (is_finish request) refl refl refl refl (ap (λ b. (not b || is_kill request) || is_modest spot request) (sym (same_self me)) ∙ asked)
  where
    tame : ((not (me == me) || is_kill request) || is_tame request) ≡ true → Modest me w (namespace_replied w me request reply)
    tame h = of_tame (tame_step me w request reply h idle)

    by : (kill begin imports finish : Bool) → is_kill request ≡ kill → is_begin request ≡ begin → imports_at spot request ≡ imports → is_finish request ≡ finish →
        (kill || (begin || (imports || finish))) ≡ true → Modest me w (namespace_replied w me request reply)
    by true begin imports finish k b i f h = tame (ap (λ b. (not b || is_kill request) || is_tame request) (same_self me) ∙ ap (λ b. b || is_tame request) k)
    by false true imports finish k b i f h = tame (or_last (not (me == me) || is_kill request) (is_tame request) (ap (λ (x : Bool). x || (lists_images request || is_finish request)) b))
    by false false true finish k b i f h = imports_modest spot me w request reply i idle
    by false false false true k b i f h = tame (or_last (not (me == me) || is_kill request) (is_tame request) (or_last (is_begin request) (lists_images request || is_finish request) (or_last (lists_images request) (is_finish request) f)))
    by false false false false k b i f h = cc

modest_all : (spot : Spot) (me : ℕ) (s : DirState) (es : List Event) → AllByRecursion (λ e. e.process ≡ me) es → AllByRecursion (λ e. (is_foreign me e || is_modest spot e.request) ≡ true) es →
    OwnsNothing me s.namespace → Modest me s.namespace (states_next s es).namespace
modest_all spot me s [] own asked idle = same_openings me s.namespace s.namespace refl idle
modest_all spot me s (e ∷ es) own asked idle =
    let n : Namespace = s.namespace in
    let mine : ((not (me == me) || is_kill e.request) || is_modest spot e.request) ≡ true = subst (λ (q : ℕ). ((not (q == me) || is_kill e.request) || is_modest spot e.request) ≡ true) own.0 asked.0 in
    let next : Modest me n (namespace_replied n e.process e.request e.reply) = subst (λ (q : ℕ). Modest me n (namespace_replied n q e.request e.reply)) (sym own.0)
    (modest_step spot me n e.request e.reply mine idle) in
    modest_both me n (namespace_replied n e.process e.request e.reply) (states_next (state_next s e) es).namespace next (modest_all spot me (state_next s e) es own.1 asked.1 next.mine)

-- what held at an own event held of a state of which so much is as in the first
pub at_modest : (spot : Spot) {me : ℕ} {old new : List Event} (P : DirState → Type 0) → AtOwnStep me old new P → Extends (is_modest spot) me old new → Quiet me old new →
    OwnsNothing me (state_after old).namespace → (s : DirState) × Modest me (state_after old).namespace s.namespace × P s
at_modest spot {me} {old} {new} P at ext quiet idle =
    let es = at.later ++ at.step ∷ [] in
    let whole : new ≡ old ++ (es ++ at.rest) = at.ends ∙ (ap (λ h. (h ++ at.step ∷ []) ++ at.rest) at.begins ∙ simp append_assoc) in
    let own : AllByRecursion (λ e. e.process ≡ me) es = all_left _ es at.rest
    (subst (λ (l : List Event). AllByRecursion (λ e. e.process ≡ me) l) (same_rest old quiet.more (es ++ at.rest) (sym quiet.grown ∙ whole)) quiet.own) in
    let asked : AllByRecursion (λ e. (is_foreign me e || is_modest spot e.request) ≡ true) es = all_left _ es at.rest
    (subst (λ (l : List Event). AllByRecursion (λ e. (is_foreign me e || is_modest spot e.request) ≡ true) l) (same_rest old ext.more (es ++ at.rest) (sym ext.grown ∙ whole))
    ext.asked) in
    let here : state_after (at.before ++ at.step ∷ []) ≡ states_next (state_after old) es = ap (λ h. state_after (h ++ at.step ∷ [])) at.begins ∙
    (ap state_after (append_assoc old at.later (at.step ∷ [])) ∙ states_next-append empty_state old es) in
    (state_after (at.before ++ at.step ∷ []), subst (λ (s : DirState). Modest me (state_after old).namespace s.namespace) (sym here) (modest_all spot me (state_after old) es own asked idle), at.holds)

-- and so it is in the end
pub end_modest : (spot : Spot) {me : ℕ} {old new : List Event} → Extends (is_modest spot) me old new → Quiet me old new → OwnsNothing me (state_after old).namespace →
    Modest me (state_after old).namespace (state_after new).namespace
end_modest spot {me} {old} {new} ext quiet idle =
    let own : AllByRecursion (λ e. e.process ≡ me) ext.more = subst (λ (l : List Event). AllByRecursion (λ e. e.process ≡ me) l)
    (same_rest old quiet.more ext.more (sym quiet.grown ∙ ext.grown)) quiet.own in
    let here : state_after new ≡ states_next (state_after old) ext.more = ap state_after ext.grown ∙ states_next-append empty_state old ext.more in
    subst (λ (s : DirState). Modest me (state_after old).namespace s.namespace) (sym here) (modest_all spot me (state_after old) ext.more own ext.asked idle)
