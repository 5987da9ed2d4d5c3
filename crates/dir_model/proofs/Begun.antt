-- In a run only processes that began have handles and take steps; so one that never began holds nothing.
use Rattle.std.proofs.Common.{◌≡◌, ℕ, Bool, true, false, not, ◌||◌, ◌==◌, cond, Some, List, [], ◌∷◌, ◌++◌, map, filter, refl, sym, ap, subst, ◌∙◌}
use Rattle.std.specs.List.{list_any, AllByRecursion}
use Rattle.dir_model.specs.declared.event.Event.{Event}
use Rattle.dir_model.specs.declared.intent.Start.{Start}
use Rattle.dir_model.specs.declared.opening.Opening.{Opening}
use Rattle.dir_model.specs.declared.spot.Handle.{Handle}
use Rattle.dir_model.specs.declared.spot.Mode.{Mode}
use Rattle.dir_model.specs.declared.request.Request.{Request}
use Rattle.dir_model.specs.declared.request.Request.TheVariants.{Begin, Open, OpenArea, TryLock, Close, Finish, Kill}
use Rattle.dir_model.specs.declared.request.Reply.{Reply}
use Rattle.dir_model.specs.declared.request.Reply.TheVariants.{Done, Opened, Refused}
use Rattle.dir_model.specs.Locks.{is_handle, is_exclusive}
use Rattle.dir_model.specs.State.{Namespace, DirState, empty_state, has_begun, has_ended}
use Rattle.dir_model.specs.Trace.{state_after, state_next, states_next, namespace_replied, locked, opened, opened_gate}
use Rattle.dir_model.specs.Calls.{IsRun, is_run_from, is_allowed, may_step, is_kill, is_foreign}
use Rattle.dir_model.specs.Quiet.{OwnsNothing}
use Rattle.dir_model.specs.Local.{holding_of, holdings_in}
use Rattle.dir_model.proofs.Lists.{and_left, and_right, same_self, all_push, all_map, all_filter, any_push, same_number}
use Rattle.dir_model.proofs.Allowed.{allowed_step}

abbrev IsAmong : List Start → Opening → Type 0
IsAmong begun o = list_any (λ start. start.process == o.process) begun ≡ true

abbrev AllBegun : Namespace → Type 0
AllBegun w = AllByRecursion (IsAmong w.begun) w.openings

all_later : (begun : List Start) (p : Start) (xs : List Opening) → AllByRecursion (IsAmong begun) xs → AllByRecursion (IsAmong (begun ++ p ∷ [])) xs
all_later begun p [] a = tt
all_later begun p (x ∷ xs) a = (any_push (λ q. q.process == x.process) begun p a.0, all_later begun p xs a.1)

lock_among : (begun : List Start) (p : ℕ) (h : Handle) (m : Mode) (o : Opening) → IsAmong begun o → IsAmong begun (locked p h m o)
lock_among begun p h m o a = elim (is_handle p h o) as (λ b. IsAmong begun (cond b (record o { lock = Some m }) o)) [ true ↦ a | false ↦ a ]

step_begun : (s : DirState) (p : ℕ) (request : Request) (reply : Reply) → may_step s p request ≡ true → AllBegun s.namespace → AllBegun (namespace_replied s.namespace p request reply)
step_begun s p request (Refused error left) living a = a
step_begun s p (Open spot which) (Opened handle) living a = all_push (IsAmong s.namespace.begun) s.namespace.openings (opened s.namespace p handle spot which) a (and_left (has_begun s.namespace p) (not (has_ended s.namespace p)) living)
step_begun s p (OpenArea area) (Opened handle) living a = all_push (IsAmong s.namespace.begun) s.namespace.openings (opened_gate p handle area) a (and_left (has_begun s.namespace p) (not (has_ended s.namespace p)) living)
step_begun s p _ (Opened handle) living a = a
step_begun s p (Begin intent) Done living a = all_later s.namespace.begun (record { process = p; intent = intent }) s.namespace.openings a
step_begun s p (TryLock handle mode) Done living a = all_map (IsAmong s.namespace.begun) (locked p handle mode) (lock_among s.namespace.begun p handle mode) s.namespace.openings a
step_begun s p (Close handle) Done living a = all_filter (IsAmong s.namespace.begun) (λ o. not (is_handle p handle o)) s.namespace.openings a
step_begun s p Finish Done living a = all_filter (IsAmong s.namespace.begun) (λ o. not (o.process == p)) s.namespace.openings a
step_begun s p Kill Done living a = all_filter (IsAmong s.namespace.begun) (λ o. not (o.process == p)) s.namespace.openings a
step_begun s p _ Done living a = a
step_begun s p request reply living a = a

all_begun : (s : DirState) (es : List Event) → is_run_from s es ≡ true → AllBegun s.namespace → AllBegun (states_next s es).namespace
all_begun s [] run a = a
all_begun s (e ∷ es) run a =
    all_begun (state_next s e) es (and_right (is_allowed s e) (is_run_from (state_next s e) es) run)
    (step_begun s e.process e.request e.reply (allowed_step s e.process e.request e.reply (and_left (is_allowed s e) (is_run_from (state_next s e) es) run)) a)

none_idle : (begun : List Start) (me : ℕ) (xs : List Opening) → list_any (λ p. p.process == me) begun ≡ false → AllByRecursion (IsAmong begun) xs → AllByRecursion (λ o. (o.process == me) ≡ true → is_exclusive o.lock ≡ false) xs
none_idle begun me [] unborn a = tt
none_idle begun me (x ∷ xs) unborn a = ((λ mine. absurd (clash (subst (λ (q : ℕ). list_any (λ p. p.process == q) begun ≡ true) (same_number x.process me mine) a.0))), none_idle begun me xs unborn a.1)
  where
    clash : list_any (λ p. p.process == me) begun ≡ true → ⊥
    clash h = let e : true ≡ false = sym h ∙ unborn in cc

pub unborn_owns_nothing : (h : List Event) (me : ℕ) → IsRun h → has_begun (state_after h).namespace me ≡ false → OwnsNothing me (state_after h).namespace
unborn_owns_nothing h me run unborn = none_idle (state_after h).namespace.begun me (state_after h).namespace.openings unborn (all_begun empty_state h run tt)

none_open : (begun : List Start) (me : ℕ) (xs : List Opening) → list_any (λ p. p.process == me) begun ≡ false → AllByRecursion (IsAmong begun) xs → filter (λ o. o.process == me) xs ≡ []
none_open begun me [] unborn a = refl
none_open begun me (x ∷ xs) unborn a = by (x.process == me) refl (none_open begun me xs unborn a.1)
  where
    by : (b : Bool) → (x.process == me) ≡ b → filter (λ o. o.process == me) xs ≡ [] → cond b (x ∷ filter (λ o. o.process == me) xs) (filter (λ o. o.process == me) xs) ≡ []
    by true is rest =
        let there : list_any (λ p. p.process == me) begun ≡ true = subst (λ (q : ℕ). list_any (λ p. p.process == q) begun ≡ true) (same_number x.process me is) a.0 in
        let clash : true ≡ false = sym there ∙ unborn in
        cc
    by false is rest = rest

-- nor has anything open
pub unborn_holds_nothing : (h : List Event) (me : ℕ) → IsRun h → has_begun (state_after h).namespace me ≡ false → holdings_in (state_after h).namespace me ≡ []
unborn_holds_nothing h me run unborn = ap (map holding_of) (none_open (state_after h).namespace.begun me (state_after h).namespace.openings unborn (all_begun empty_state h run tt))

-- who has begun stays so
begun_after : (me : ℕ) (w : Namespace) (p : ℕ) (request : Request) (reply : Reply) → list_any (λ start. start.process == me) w.begun ≡ true → list_any (λ start. start.process == me) (namespace_replied w p request reply).begun ≡ true
begun_after me w p request (Refused error left) h = h
begun_after me w p (Open spot which) (Opened handle) h = h
begun_after me w p _ (Opened handle) h = h
begun_after me w p (Begin intent) Done h = any_push (λ start. start.process == me) w.begun (record { process = p; intent = intent }) h
begun_after me w p _ Done h = h
begun_after me w p request reply h = h

pub begun_stays : (me : ℕ) (s : DirState) (es : List Event) → has_begun s.namespace me ≡ true → has_begun (states_next s es).namespace me ≡ true
begun_stays me s [] h = h
begun_stays me s (e ∷ es) h = begun_stays me (state_next s e) es (begun_after me s.namespace e.process e.request e.reply h)

kills_itself : (me p : ℕ) (kill : Bool) → p ≡ me → (not (p == me) || kill) ≡ true → kill ≡ true
kills_itself me p kill same foreign = by (p == me) (ap (λ (q : ℕ). q == me) same ∙ same_self me) foreign
  where
    by : (b : Bool) → b ≡ true → (not b || kill) ≡ true → kill ≡ true
    by true is h = h
    by false is h = cc

living_kill : (s : DirState) (me : ℕ) (request : Request) → is_kill request ≡ true → may_step s me request ≡ true → has_begun s.namespace me ≡ true
living_kill s me Kill kill may = and_left (has_begun s.namespace me) (not (has_ended s.namespace me)) may
living_kill s me _ kill may = cc

-- before it begins, a process has no step, not even its kill
pub silent_before : (me : ℕ) (s : DirState) (es : List Event) → is_run_from s es ≡ true → has_begun (states_next s es).namespace me ≡ false → AllByRecursion (λ e. e.process ≡ me) es → AllByRecursion (λ e. is_foreign me e ≡ true) es → es ≡ []
silent_before me s [] run unborn own foreign = refl
silent_before me s (e ∷ es) run unborn own foreign =
    let allowed = and_left (is_allowed s e) (is_run_from (state_next s e) es) run in
    let may = allowed_step s e.process e.request e.reply allowed in
    let kill = kills_itself me e.process (is_kill e.request) own.0 foreign.0 in
    let before : has_begun s.namespace e.process ≡ true = living_kill s e.process e.request kill may in
    let mine : has_begun s.namespace me ≡ true = subst (λ (p : ℕ). has_begun s.namespace p ≡ true) own.0 before in
    let clash : true ≡ false = sym (begun_stays me s (e ∷ es) mine) ∙ unborn in
    cc
