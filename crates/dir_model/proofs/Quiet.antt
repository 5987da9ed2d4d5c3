-- Where nobody else steps, a process that begins, looks and finishes changes no folder, and not whose lock is held
-- exclusively.
use Rattle.std.proofs.Common.{◌≡◌, ℕ, Bool, true, false, not, ◌&&◌, ◌||◌, ◌==◌, cond, Some, List, [], ◌∷◌, ◌++◌, map, filter, refl, sym, ap, subst, ◌∙◌, append_assoc}
use Rattle.std.specs.List.{list_any, AllByRecursion}
use Rattle.dir_model.specs.declared.event.Event.{Event}
use Rattle.dir_model.specs.declared.opening.Opening.{Opening}
use Rattle.dir_model.specs.declared.spot.Handle.{Handle}
use Rattle.dir_model.specs.declared.spot.Mode.TheVariants.{Shared}
use Rattle.dir_model.specs.declared.request.Request.{Request}
use Rattle.dir_model.specs.declared.request.Request.TheVariants.{Begin, Open, TryLock, Close, ListArea, ListIn, Finish, Kill}
use Rattle.dir_model.specs.declared.request.Reply.{Reply}
use Rattle.dir_model.specs.declared.request.Reply.TheVariants.{Done, Opened, Refused}
use Rattle.dir_model.specs.Locks.{is_handle, is_exclusive, is_own, is_folder, owns}
use Rattle.dir_model.specs.State.{Namespace, DirState, empty_state}
use Rattle.dir_model.specs.Trace.{state_after, state_next, states_next, namespace_replied, without_process, locked, opened}
use Rattle.dir_model.specs.Listings.{is_listing_request}
use Rattle.dir_model.specs.Replies.{is_look}
use Rattle.dir_model.specs.Calls.{is_foreign, is_begin, is_finish, is_kill, Extends, AtOwnStep}
use Rattle.dir_model.specs.Quiet.{Quiet, OwnsNothing, SameNamespace}
use Rattle.dir_model.proofs.Lists.{and_left, and_false, same_self, any_last_not, all_left, all_right, all_push, all_map, all_filter, same_rest}
use Rattle.dir_model.proofs.Chains.{states_next-append, extends_wider}

abbrev Idle : ℕ → Opening → Type 0
Idle me o = (o.process == me) ≡ true → is_exclusive o.lock ≡ false

idle_owns : (me k : ℕ) (o : Opening) → Idle me o → (o.process == me) ≡ true → owns k o ≡ false
idle_owns me k o idle mine = ap (λ b. is_folder k o.folder && (is_own o.target && b)) (idle mine) ∙ (ap (λ b. is_folder k o.folder && b) (and_false (is_own o.target)) ∙ and_false (is_folder k o.folder))

lock_one : (me : ℕ) (h : Handle) (k : ℕ) (o : Opening) → Idle me o → owns k (locked me h Shared o) ≡ owns k o
lock_one me h k o idle = by (is_handle me h o) (λ it. and_left (o.process == me) (o.handle.number == h.number) it)
  where
    by : (b : Bool) → (b ≡ true → (o.process == me) ≡ true) → owns k (cond b (record o { lock = Some Shared }) o) ≡ owns k o
    by true it = sym (ap (λ b. is_folder k o.folder && (is_own o.target && b)) (idle (it refl)))
    by false it = refl

lock_all : (me : ℕ) (h : Handle) (k : ℕ) (xs : List Opening) → AllByRecursion (Idle me) xs → list_any (owns k) (map (locked me h Shared) xs) ≡ list_any (owns k) xs
lock_all me h k [] a = refl
lock_all me h k (x ∷ xs) a = rw (lock_one me h k x a.0, lock_all me h k xs a.1) refl

lock_idle : (me : ℕ) (h : Handle) (o : Opening) → Idle me o → Idle me (locked me h Shared o)
lock_idle me h o idle = elim (is_handle me h o) as (λ b. Idle me (cond b (record o { lock = Some Shared }) o)) [ true ↦ (λ mine. refl) | false ↦ idle ]

-- own handles are given up
drop_all : (me k : ℕ) (q : Opening → Bool) → ((o : Opening) → q o ≡ false → (o.process == me) ≡ true) → (xs : List Opening) → AllByRecursion (Idle me) xs → list_any (owns k) (filter q xs) ≡ list_any (owns k) xs
drop_all me k q mine [] a = refl
drop_all me k q mine (x ∷ xs) a = by (q x) (mine x) (drop_all me k q mine xs a.1)
  where
    by : (b : Bool) → (b ≡ false → (x.process == me) ≡ true) → list_any (owns k) (filter q xs) ≡ list_any (owns k) xs → list_any (owns k) (cond b (x ∷ filter q xs) (filter q xs)) ≡ (owns k x || list_any (owns k) xs)
    by true it same = ap (λ b. owns k x || b) same
    by false it same = same ∙ sym (ap (λ b. b || list_any (owns k) xs) (idle_owns me k x a.0 (it refl)))

not_false : (b : Bool) → not b ≡ false → b ≡ true
not_false true h = refl
not_false false h = cc

same_as_it_is : (me : ℕ) (w : Namespace) → OwnsNothing me w → SameNamespace me w w
same_as_it_is me w idle = record { folders = refl; owned = λ k. refl; mine = idle }

look_same : (me : ℕ) (w : Namespace) (request : Request) (reply : Reply) → is_look request ≡ true → OwnsNothing me w → SameNamespace me w (namespace_replied w me request reply)
look_same me w request (Refused error left) h idle = same_as_it_is me w idle
look_same me w (Open spot which) (Opened handle) h idle = record {
  folders = refl;
  owned = λ k. any_last_not (owns k) w.openings (opened w me handle spot which) (idle_owns me k (opened w me handle spot which) (λ mine. refl) (same_self me));
  mine = all_push (Idle me) w.openings (opened w me handle spot which) idle (λ mine. refl);
}
look_same me w (TryLock handle' mode) (Opened handle) h idle = same_as_it_is me w idle
look_same me w (Close handle') (Opened handle) h idle = same_as_it_is me w idle
look_same me w _ (Opened handle) h idle = cc
look_same me w (Open spot which) Done h idle = same_as_it_is me w idle
look_same me w (TryLock handle Shared) Done h idle = record {
  folders = refl;
  owned = λ k. lock_all me handle k w.openings idle;
  mine = all_map (Idle me) (locked me handle Shared) (lock_idle me handle) w.openings idle;
}
look_same me w (Close handle) Done h idle = record {
  folders = refl;
  owned = λ k. drop_all me k (λ o. not (is_handle me handle o)) (λ o it. and_left (o.process == me) (o.handle.number == handle.number) (not_false (is_handle me handle o) it)) w.openings idle;
  mine = all_filter (Idle me) (λ o. not (is_handle me handle o)) w.openings idle;
}
look_same me w _ Done h idle = cc
look_same me w request reply h idle = same_as_it_is me w idle

-- a process that owns nothing comes to its end
over_same : (me : ℕ) (w : Namespace) → OwnsNothing me w → SameNamespace me w (without_process w me)
over_same me w idle = record {
  folders = refl;
  owned = λ k. drop_all me k (λ o. not (o.process == me)) (λ o it. not_false (o.process == me) it) w.openings idle;
  mine = all_filter (Idle me) (λ o. not (o.process == me)) w.openings idle;
}

kill_same : (me : ℕ) (w : Namespace) (request : Request) (reply : Reply) → is_kill request ≡ true → OwnsNothing me w → SameNamespace me w (namespace_replied w me request reply)
kill_same me w Kill Done h idle = over_same me w idle
kill_same me w Kill reply h idle = same_as_it_is me w idle
kill_same me w _ reply h idle = cc

finish_same : (me : ℕ) (w : Namespace) (request : Request) (reply : Reply) → is_finish request ≡ true → OwnsNothing me w → SameNamespace me w (namespace_replied w me request reply)
finish_same me w Finish Done h idle = over_same me w idle
finish_same me w Finish reply h idle = same_as_it_is me w idle
finish_same me w _ reply h idle = cc

begin_same : (me : ℕ) (w : Namespace) (request : Request) (reply : Reply) → is_begin request ≡ true → OwnsNothing me w → SameNamespace me w (namespace_replied w me request reply)
begin_same me w (Begin intent) Done h idle = record { folders = refl; owned = λ k. refl; mine = idle }
begin_same me w (Begin intent) reply h idle = same_as_it_is me w idle
begin_same me w _ reply h idle = cc

-- a listing changes nothing
listing_same : (me : ℕ) (w : Namespace) (request : Request) (reply : Reply) → is_listing_request request ≡ true → OwnsNothing me w → SameNamespace me w (namespace_replied w me request reply)
listing_same me w (ListArea area) Done h idle = same_as_it_is me w idle
listing_same me w (ListIn inner) Done h idle = same_as_it_is me w idle
listing_same me w _ Done h idle = cc
listing_same me w (ListArea area) (Opened handle) h idle = same_as_it_is me w idle
listing_same me w (ListIn inner) (Opened handle) h idle = same_as_it_is me w idle
listing_same me w _ (Opened handle) h idle = cc
listing_same me w request reply h idle = same_as_it_is me w idle

-- a process that only looks and lists between its begin and its finish
abbrev pub is_harmless : Request → Bool
is_harmless request = is_begin request || (is_look request || (is_listing_request request || is_finish request))

harmless_same : (me : ℕ) (w : Namespace) (request : Request) (reply : Reply) → is_harmless request ≡ true → OwnsNothing me w → SameNamespace me w (namespace_replied w me request reply)
harmless_same me w request reply h idle = by (is_begin request) (is_look request) refl refl h
  where
    last : (listing : Bool) → is_listing_request request ≡ listing → (listing || is_finish request) ≡ true → SameNamespace me w (namespace_replied w me request reply)
    last true l h = listing_same me w request reply l idle
    last false l h = finish_same me w request reply h idle

    by : (begin look : Bool) → is_begin request ≡ begin → is_look request ≡ look → (begin || (look || (is_listing_request request || is_finish request))) ≡ true → SameNamespace me w (namespace_replied w me request reply)
    by true look b l h = begin_same me w request reply b idle
    by false true b l h = look_same me w request reply l idle
    by false false b l h = last (is_listing_request request) refl h

pub look_is_harmless : (r : Request) → is_look r ≡ true → is_harmless r ≡ true
look_is_harmless r h = by (is_begin r) (is_look r) h
  where
    by : (begin look : Bool) → look ≡ true → (begin || (look || (is_listing_request r || is_finish r))) ≡ true
    by true look h = refl
    by false true h = refl
    by false false h = cc

pub begin_is_harmless : (r : Request) → is_begin r ≡ true → is_harmless r ≡ true
begin_is_harmless r h = ap (λ b. b || (is_look r || (is_listing_request r || is_finish r))) h

pub finish_is_harmless : (r : Request) → is_finish r ≡ true → is_harmless r ≡ true
finish_is_harmless r h = by (is_begin r) (is_look r) (is_listing_request r) h
  where
    by : (begin look listing : Bool) → is_finish r ≡ true → (begin || (look || (listing || is_finish r))) ≡ true
    by true look listing h = refl
    by false true listing h = refl
    by false false true h = refl
    by false false false h = h

pub listing_is_harmless : (r : Request) → is_listing_request r ≡ true → is_harmless r ≡ true
listing_is_harmless r h = by (is_begin r) (is_look r) (is_listing_request r) h
  where
    by : (begin look listing : Bool) → listing ≡ true → (begin || (look || (listing || is_finish r))) ≡ true
    by true look listing h = refl
    by false true listing h = refl
    by false false true h = refl
    by false false false h = cc

same_both : (me : ℕ) (a b c : Namespace) → SameNamespace me a b → SameNamespace me b c → SameNamespace me a c
same_both me a b c x y = record { folders = y.folders ∙ x.folders; owned = λ k. y.owned k ∙ x.owned k; mine = y.mine }

-- an own step is harmless, or its kill
own_step : (me p : ℕ) (kill harmless : Bool) → p ≡ me → ((not (p == me) || kill) || harmless) ≡ true → harmless ≡ false → kill ≡ true
own_step me p kill harmless same asked other = by (p == me) kill (ap (λ (q : ℕ). q == me) same ∙ same_self me) asked
  where
    by : (b k : Bool) → b ≡ true → ((not b || k) || harmless) ≡ true → k ≡ true
    by true true is h = refl
    by true false is h = let clash : true ≡ false = sym h ∙ other in cc
    by false k is h = cc

pub harmless_all : (me : ℕ) (s : DirState) (es : List Event) → AllByRecursion (λ e. e.process ≡ me) es → AllByRecursion (λ e. (is_foreign me e || is_harmless e.request) ≡ true) es → OwnsNothing me s.namespace → SameNamespace me s.namespace (states_next s es).namespace
harmless_all me s [] own asked idle = same_as_it_is me s.namespace idle
harmless_all me s (e ∷ es) own asked idle =
    let n : Namespace = s.namespace in
    let same : SameNamespace me n (namespace_replied n me e.request e.reply) = by (is_harmless e.request) refl in
    let next : SameNamespace me n (namespace_replied n e.process e.request e.reply) = subst (λ (q : ℕ). SameNamespace me n (namespace_replied n q e.request e.reply)) (sym own.0) same in
    same_both me n (namespace_replied n e.process e.request e.reply) (states_next (state_next s e) es).namespace next (harmless_all me (state_next s e) es own.1 asked.1 next.mine)
  where
    by : (b : Bool) → is_harmless e.request ≡ b → SameNamespace me s.namespace (namespace_replied s.namespace me e.request e.reply)
    by true is = harmless_same me s.namespace e.request e.reply is idle
    by false is = kill_same me s.namespace e.request e.reply (own_step me e.process (is_kill e.request) (is_harmless e.request) own.0 asked.0 is) idle

-- what held at an own event held of a state that is the first one, as to folders and owners
pub at_quiet : {me : ℕ} {old new : List Event} (P : DirState → Type 0) → AtOwnStep me old new P → Extends is_look me old new → Quiet me old new → OwnsNothing me (state_after old).namespace → (s : DirState) × SameNamespace me (state_after old).namespace s.namespace × P s
at_quiet {me} {old} {new} P at looks quiet idle =
    let ext : Extends is_harmless me old new = extends_wider look_is_harmless looks in
    let es = at.later ++ at.step ∷ [] in
    let whole : new ≡ old ++ (es ++ at.rest) = at.ends ∙ (ap (λ h. (h ++ at.step ∷ []) ++ at.rest) at.begins ∙ simp append_assoc) in
    let own : AllByRecursion (λ e. e.process ≡ me) es = all_left _ es at.rest (subst (λ (l : List Event). AllByRecursion (λ e. e.process ≡ me) l) (same_rest old quiet.more (es ++ at.rest) (sym quiet.grown ∙ whole)) quiet.own) in
    let asked : AllByRecursion (λ e. (is_foreign me e || is_harmless e.request) ≡ true) es = all_left _ es at.rest (subst (λ (l : List Event). AllByRecursion (λ e. (is_foreign me e || is_harmless e.request) ≡ true) l) (same_rest old ext.more (es ++ at.rest) (sym ext.grown ∙ whole)) ext.asked) in
    let here : state_after (at.before ++ at.step ∷ []) ≡ states_next (state_after old) es = ap (λ h. state_after (h ++ at.step ∷ [])) at.begins ∙ (ap state_after (append_assoc old at.later (at.step ∷ [])) ∙ states_next-append empty_state old es) in
    (state_after (at.before ++ at.step ∷ []), subst (λ (s : DirState). SameNamespace me (state_after old).namespace s.namespace) (sym here) (harmless_all me (state_after old) es own asked idle), at.holds)

-- and it is so in the end
pub end_quiet : {me : ℕ} {old new : List Event} → Extends is_harmless me old new → Quiet me old new → OwnsNothing me (state_after old).namespace → SameNamespace me (state_after old).namespace (state_after new).namespace
end_quiet {me} {old} {new} ext quiet idle =
    let own : AllByRecursion (λ e. e.process ≡ me) ext.more = subst (λ (l : List Event). AllByRecursion (λ e. e.process ≡ me) l) (same_rest old quiet.more ext.more (sym quiet.grown ∙ ext.grown)) quiet.own in
    let here : state_after new ≡ states_next (state_after old) ext.more = ap state_after ext.grown ∙ states_next-append empty_state old ext.more in
    subst (λ (s : DirState). SameNamespace me (state_after old).namespace s.namespace) (sym here) (harmless_all me (state_after old) ext.more own ext.asked idle)

-- quiet in the middle too
pub quiet_within : {asks asks' : Request → Bool} {me : ℕ} {a b c d : List Event} → Quiet me a d → Extends asks me a b → Extends asks' me c d → (more : List Event) → c ≡ b ++ more → Quiet me b c
quiet_within {asks} {asks'} {me} {a} {b} {c} {d} quiet ab cd more grown =
    let whole : d ≡ a ++ ((ab.more ++ more) ++ cd.more) = cd.grown ∙ (ap (λ h. h ++ cd.more) (grown ∙ ap (λ h. h ++ more) ab.grown) ∙ simp append_assoc) in
    let own : AllByRecursion (λ e. e.process ≡ me) ((ab.more ++ more) ++ cd.more) = subst (λ (l : List Event). AllByRecursion (λ e. e.process ≡ me) l) (same_rest a quiet.more ((ab.more ++ more) ++ cd.more) (sym quiet.grown ∙ whole)) quiet.own in
    record { more = more; grown = grown; own = all_right _ ab.more more (all_left _ (ab.more ++ more) cd.more own) }
