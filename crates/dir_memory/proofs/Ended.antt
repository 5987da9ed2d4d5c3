-- In a run only processes that began have ended.
use Rattle.std.proofs.Common.{◌≡◌, ◌⊎◌, inl, inr, ℕ, Bool, true, false, not, ◌||◌, ◌==◌, List, [], ◌∷◌, ◌++◌, refl, sym, ap, subst, ◌∙◌, append-nil}
use Rattle.std.specs.List.{list_any}
use Rattle.dir_model.specs.declared.event.Event.{Event}
use Rattle.dir_model.specs.declared.request.Request.{Request}
use Rattle.dir_model.specs.declared.request.Request.TheVariants.{Begin, Open, OpenArea, ListArea, ListIn, Finish, Kill}
use Rattle.dir_model.specs.declared.request.Reply.{Reply}
use Rattle.dir_model.specs.declared.request.Reply.TheVariants.{Done, Opened}
use Rattle.dir_model.specs.State.{Namespace, DirState, empty_state, has_begun, has_ended, lives}
use Rattle.dir_model.specs.Trace.{state_after, state_next, states_next, namespace_replied}
use Rattle.dir_model.specs.Calls.{IsRun, is_run_from, is_allowed, may_step, event}
use Rattle.dir_model.proofs.Lists.{and_left, and_right, any_push, same_number}
use Rattle.dir_model.proofs.Chains.{state_after-push}
use Rattle.dir_model.proofs.Allowed.{allowed_step}
use Rattle.dir_model.specs.Paths.{is_path}
use Rattle.dir_model.specs.Listings.{is_listing_request, is_listing_of, is_listing}
use Rattle.dir_model.specs.Trace.{listings_replied}
use Rattle.dir_memory.proofs.OpenListings.{others_alike, any_found, own_none}
use Rattle.dir_state.specs.Parts.{kill_of}

any_last_cases : {X : Type 0} (t : X → Bool) (xs : List X) (y : X) → list_any t (xs ++ y ∷ []) ≡ true → (list_any t xs ≡ true) ⊎ (t y ≡ true)
any_last_cases t [] y h = by (t y) h
  where
    by : (b : Bool) → (b || false) ≡ true → (false ≡ true) ⊎ (b ≡ true)
    by true h = inr refl
    by false h = cc
any_last_cases t (x ∷ xs) y h = by (t x) (λ later. any_last_cases t xs y later) h
  where
    by : (b : Bool) → (list_any t (xs ++ y ∷ []) ≡ true → (list_any t xs ≡ true) ⊎ (t y ≡ true)) → (b || list_any t (xs ++ y ∷ [])) ≡ true → ((b || list_any t xs) ≡ true) ⊎ (t y ≡ true)
    by true later h = inl refl
    by false later h = later h

abbrev EndedBegan : ℕ → Namespace → Type 0
EndedBegan x n = has_ended n x ≡ true → has_begun n x ≡ true

over_began : (x p : ℕ) (n : Namespace) → lives n p ≡ true → EndedBegan x n → list_any (λ q. q == x) (n.ended ++ p ∷ []) ≡ true → has_begun n x ≡ true
over_began x p n living before h = by (any_last_cases (λ q. q == x) n.ended p h)
  where
    by : (list_any (λ q. q == x) n.ended ≡ true) ⊎ ((p == x) ≡ true) → has_begun n x ≡ true
    by (inl earlier) = before earlier
    by (inr here) = subst (λ (y : ℕ). has_begun n y ≡ true) (same_number p x here) (and_left (has_begun n p) (not (has_ended n p)) living)

step_began : (x : ℕ) (s : DirState) (p : ℕ) (request : Request) (reply : Reply) → may_step s p request ≡ true → EndedBegan x s.namespace → EndedBegan x (namespace_replied s.namespace p request reply)
step_began x s p (Open spot which) (Opened handle) may before = before
step_began x s p (OpenArea area) (Opened handle) may before = before
step_began x s p _ (Opened handle) may before = before
step_began x s p (Begin intent) Done may before = λ ended. any_push (λ q. q.process == x) s.namespace.begun (record { process = p; intent = intent }) (before ended)
step_began x s p Finish Done may before = over_began x p s.namespace may before
step_began x s p Kill Done may before = over_began x p s.namespace may before
step_began x s p _ Done may before = before
step_began x s p request reply may before = before

all_began : (x : ℕ) (s : DirState) (es : List Event) → is_run_from s es ≡ true → EndedBegan x s.namespace → EndedBegan x (states_next s es).namespace
all_began x s [] run before = before
all_began x s (e ∷ es) run before =
    all_began x (state_next s e) es (and_right (is_allowed s e) (is_run_from (state_next s e) es) run)
    (step_began x s e.process e.request e.reply (allowed_step s e.process e.request e.reply (and_left (is_allowed s e) (is_run_from (state_next s e) es) run)) before)

-- so one that never began hasn't ended
pub unborn_unended : (h : List Event) (x : ℕ) → IsRun h → has_begun (state_after h).namespace x ≡ false → has_ended (state_after h).namespace x ≡ false
unborn_unended h x run unborn = by (has_ended (state_after h).namespace x) (all_began x empty_state h run (λ none. let clash : false ≡ true = none in cc))
  where
    by : (b : Bool) → (b ≡ true → has_begun (state_after h).namespace x ≡ true) → b ≡ false
    by true began = let clash : true ≡ false = sym (began refl) ∙ unborn in cc
    by false began = refl

-- and a kill leaves who has begun
pub kill_unborn : (active : Bool) (h : List Event) (p x : ℕ) → has_begun (state_after h).namespace x ≡ false → has_begun (state_after (h ++ kill_of active p)).namespace x ≡ false
kill_unborn true h p x unborn = ap (λ (s : DirState). has_begun s.namespace x) (state_after-push h (event p Kill Done)) ∙ unborn
kill_unborn false h p x unborn = ap (λ (es : List Event). has_begun (state_after es).namespace x) (append-nil h) ∙ unborn

-- nor has a listing open

abbrev ListedBegan : ℕ → DirState → Type 0
ListedBegan x s = has_begun s.namespace x ≡ false → is_listing s x ≡ false

not_pushed : {c : Bool} (b : Bool) → (b ≡ true → c ≡ true) → c ≡ false → b ≡ false
not_pushed {c} true f h = let clash : true ≡ false = sym (f refl) ∙ h in cc
not_pushed {c} false f h = refl

begun_stays : (x p : ℕ) (n : Namespace) (request : Request) (reply : Reply) → has_begun (namespace_replied n p request reply) x ≡ false → has_begun n x ≡ false
begun_stays x p n (Open spot which) (Opened handle) h = h
begun_stays x p n (OpenArea area) (Opened handle) h = h
begun_stays x p n _ (Opened handle) h = h
begun_stays x p n (Begin intent) Done h = not_pushed (list_any (λ q. q.process == x) n.begun) (any_push (λ q. q.process == x) n.begun (record { process = p; intent = intent })) h
begun_stays x p n _ Done h = h
begun_stays x p n request reply h = h

listing_lives : (s : DirState) (p : ℕ) (request : Request) → is_listing_request request ≡ true → may_step s p request ≡ true → has_begun s.namespace p ≡ true
listing_lives s p (ListArea area) asks may = and_left (has_begun s.namespace p) (not (has_ended s.namespace p)) may
listing_lives s p (ListIn inner) asks may = and_left (has_begun s.namespace p) (not (has_ended s.namespace p)) (and_right (is_path inner.path) (lives s.namespace p) may)
listing_lives s p _ asks may = cc

own_lists : (x : ℕ) (s : DirState) (p : ℕ) (request : Request) (reply : Reply) (b : Bool) → is_listing_request request ≡ b → p ≡ x → may_step s p request ≡ true → is_listing s x ≡ false → has_begun s.namespace x ≡ false → list_any (is_listing_of x) (listings_replied s p request reply) ≡ false
own_lists x s p request reply true asks same may none unborn =
    let clash : true ≡ false = sym (subst (λ (y : ℕ). has_begun s.namespace y ≡ true) same (listing_lives s p request asks may)) ∙ unborn in
    cc
own_lists x s p request reply false plain same may none unborn =
    subst (λ (y : ℕ). list_any (is_listing_of y) (listings_replied s p request reply) ≡ false) same
    (own_none s p request reply plain (subst (λ (y : ℕ). is_listing s y ≡ false) (sym same) none))

step_lists : (x : ℕ) (s : DirState) (p : ℕ) (request : Request) (reply : Reply) → may_step s p request ≡ true → is_listing s x ≡ false → has_begun s.namespace x ≡ false → list_any (is_listing_of x) (listings_replied s p request reply) ≡ false
step_lists x s p request reply may none unborn = by (p == x) refl
  where
    by : (b : Bool) → (p == x) ≡ b → list_any (is_listing_of x) (listings_replied s p request reply) ≡ false
    by true is = own_lists x s p request reply (is_listing_request request) refl (same_number p x is) may none unborn
    by false is = any_found x (listings_replied s p request reply) ∙ ((others_alike s p x is request reply).some ∙ (sym (any_found x s.listings) ∙ none))

all_lists : (x : ℕ) (s : DirState) (es : List Event) → is_run_from s es ≡ true → ListedBegan x s → ListedBegan x (states_next s es)
all_lists x s [] run before = before
all_lists x s (e ∷ es) run before =
    all_lists x (state_next s e) es (and_right (is_allowed s e) (is_run_from (state_next s e) es) run)
    (λ unborn.
    let earlier : has_begun s.namespace x ≡ false = begun_stays x e.process s.namespace e.request e.reply unborn in
    step_lists x s e.process e.request e.reply (allowed_step s e.process e.request e.reply (and_left (is_allowed s e) (is_run_from (state_next s e) es) run)) (before earlier) earlier)

pub unborn_lists_nothing : (h : List Event) (x : ℕ) → IsRun h → has_begun (state_after h).namespace x ≡ false → is_listing (state_after h) x ≡ false
unborn_lists_nothing h x run unborn = all_lists x empty_state h run (λ none. refl) unborn
