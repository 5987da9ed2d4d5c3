-- What the trace and a process's own view agree on, kept by the events of others and by its own.
use Rattle.std.proofs.Common.{◌≡◌, ℕ, ◌+◌, ◌≤◌, Bool, true, false, not, ◌&&◌, ◌||◌, ◌==◌, cond, is_some, List, [], ◌∷◌, ◌++◌, refl, sym, ap, ◌∙◌, append-nil}
use Rattle.std.specs.List.{list_any}
use Rattle.plain_laws.proofs.Booleans.{or_none}
use Rattle.dir_model.specs.Reserved.{Reserved}
use Rattle.dir_model.specs.declared.event.Event.{Event}
use Rattle.dir_model.specs.declared.request.Request.{Request}
use Rattle.dir_model.specs.declared.request.Request.TheVariants.{Begin, Open, OpenArea, TryLock, Close, ListArea, ListIn, Finish, Kill}
use Rattle.dir_model.specs.declared.request.Reply.{Reply}
use Rattle.dir_model.specs.declared.request.Reply.TheVariants.{Done, Opened, Names, Items, Refused}
use Rattle.dir_model.specs.Paths.{is_well_formed}
use Rattle.dir_model.specs.State.{Namespace, DirState, has_begun, has_ended, lives}
use Rattle.dir_model.specs.Trace.{namespace_replied, listings_replied, state_after}
use Rattle.dir_model.specs.Listings.{is_listing_of, is_listing, is_listing_request}
use Rattle.dir_model.specs.Calls.{IsRun, may_step, is_begin, is_kill, event}
use Rattle.dir_model.specs.Local.{Local, IsActive, local_replied, holdings_in}
use Rattle.dir_model.proofs.Lists.{and_right, and_false, or_true, any_last, same_self}
use Rattle.dir_model.proofs.Chains.{state_after-push}
use Rattle.dir_model.proofs.Holdings.{replied_same}
use Rattle.dir_state.specs.Parts.{kill_of}
use Rattle.dir_memory.specs.Interludes.{Interlude}
use Rattle.dir_memory.specs.Memories.{Memory, IsMemory, is_up_to, is_stopped, may_be_called, is_active, is_numbered, is_end_of}
use Rattle.dir_memory.proofs.OpenListings.{own_none, none_without}

pub record Facts (h : List Event) (me : ℕ) (m : Local) : Type 0 where
  pub begun : has_begun (state_after h).namespace me ≡ is_some m.intent
  pub ended : has_ended (state_after h).namespace me ≡ m.finished
  pub holds : holdings_in (state_after h).namespace me ≡ m.holdings

pub facts_of : (past : Reserved Event) (me : ℕ) (m : Local) (held : ℕ) (killed : Bool) → IsMemory past me m held killed → killed ≡ false → Facts past.items me m
facts_of past me m held killed i live = record {
  begun = i.begun;
  ended = i.ended ∙ (ap (λ b. m.finished || b) live ∙ or_none m.finished);
  holds = i.holds live;
}

pub facts_come : (a b : List Event) (me : ℕ) (m : Local) → Interlude me a b → Facts a me m → Facts b me m
facts_come a b me m i f = record { begun = i.begun ∙ f.begun; ended = i.ended ∙ f.ended; holds = i.holds ∙ f.holds }

-- whether it has begun and ended, after its own event
own_begun : (me : ℕ) (n : Namespace) (m : Local) (request : Request) (reply : Reply) → has_begun n me ≡ is_some m.intent → has_begun (namespace_replied n me request reply) me ≡ is_some (local_replied m request reply).intent
own_begun me n m (Open spot which) (Opened handle) same = same
own_begun me n m (OpenArea area) (Opened handle) same = same
own_begun me n m _ (Opened handle) same = same
own_begun me n m (Begin intent) Done same = any_last (λ p. p.process == me) n.begun (record { process = me; intent = intent }) (same_self me)
own_begun me n m (TryLock handle mode) Done same = same
own_begun me n m (Close handle) Done same = same
own_begun me n m Finish Done same = same
own_begun me n m _ Done same = same
own_begun me n m request reply same = same

own_ended : (me : ℕ) (n : Namespace) (m : Local) (request : Request) (reply : Reply) → is_kill request ≡ false → has_ended n me ≡ m.finished → has_ended (namespace_replied n me request reply) me ≡ (local_replied m request reply).finished
own_ended me n m (Open spot which) (Opened handle) alive same = same
own_ended me n m (OpenArea area) (Opened handle) alive same = same
own_ended me n m _ (Opened handle) alive same = same
own_ended me n m (Begin intent) Done alive same = same
own_ended me n m (TryLock handle mode) Done alive same = same
own_ended me n m (Close handle) Done alive same = same
own_ended me n m Finish Done alive same = any_last (λ p. p == me) n.ended me (same_self me)
own_ended me n m Kill Done alive same = cc
own_ended me n m _ Done alive same = same
own_ended me n m request reply alive same = same

-- after an own event
pub facts_own : (h grown : List Event) (me : ℕ) (m new : Local) (request : Request) (reply : Reply) → is_kill request ≡ false → Facts h me m → grown ≡ h ++ event me request reply ∷ [] → new ≡ local_replied m request reply → Facts grown me new
facts_own h grown me m new request reply alive f e l =
    let n : Namespace = (state_after h).namespace in
    let next : (state_after grown).namespace ≡ namespace_replied n me request reply = ap (λ (x : List Event). (state_after x).namespace) e ∙ ap (λ (s : DirState). s.namespace) (state_after-push h (event me request reply)) in
    record {
      begun = ap (λ (x : Namespace). has_begun x me) next ∙ (own_begun me n m request reply f.begun ∙ sym (ap (λ (x : Local). is_some x.intent) l));
      ended = ap (λ (x : Namespace). has_ended x me) next ∙ (own_ended me n m request reply alive f.ended ∙ sym (ap (λ (x : Local). x.finished) l));
      holds = ap (λ (x : Namespace). holdings_in x me) next ∙ (replied_same n me m request reply alive f.holds ∙ sym (ap (λ (x : Local). x.holdings) l));
    }

-- a listing leaves what is open
pub listing_local : (m : Local) (request : Request) (reply : Reply) → is_listing_request request ≡ true → local_replied m request reply ≡ m
listing_local m (ListArea area) Done asks = refl
listing_local m (ListArea area) (Opened handle) asks = refl
listing_local m (ListArea area) _ asks = refl
listing_local m (ListIn inner) Done asks = refl
listing_local m (ListIn inner) (Opened handle) asks = refl
listing_local m (ListIn inner) _ asks = refl
listing_local m _ reply asks = cc

pub listing_alive : (request : Request) → is_listing_request request ≡ true → is_kill request ≡ false
listing_alive (ListArea area) asks = refl
listing_alive (ListIn inner) asks = refl
listing_alive _ asks = cc

pub numbered_alive : (request : Request) → is_numbered request ≡ true → is_kill request ≡ false
numbered_alive Kill h = cc
numbered_alive _ h = refl

-- no listing is open after an own event that is none, nor after the end of one
pub none_after : (h grown : List Event) (me : ℕ) (request : Request) (reply : Reply) → is_listing_request request ≡ false → is_listing (state_after h) me ≡ false → grown ≡ h ++ event me request reply ∷ [] → is_listing (state_after grown) me ≡ false
none_after h grown me request reply plain none e =
    ap (λ (x : List Event). is_listing (state_after x) me) e ∙ (ap (λ (s : DirState). is_listing s me) (state_after-push h (event me request reply)) ∙ own_none (state_after h) me request reply plain none)

end_by : (s : DirState) (me : ℕ) (request : Request) (reply : Reply) → is_listing_request request ≡ true → is_end_of request reply ≡ true → list_any (is_listing_of me) (listings_replied s me request reply) ≡ false
end_by s me request (Names names) asks ends = rw asks (none_without me s.listings)
end_by s me request (Items items) asks ends = rw asks (none_without me s.listings)
end_by s me request (Refused error left) asks ends = rw asks (none_without me s.listings)
end_by s me (ListArea area) _ asks ends = cc
end_by s me (ListIn inner) _ asks ends = cc
end_by s me _ reply asks ends = cc

pub none_ended : (h grown : List Event) (me : ℕ) (request : Request) (reply : Reply) → is_end_of request reply ≡ true → is_listing_request request ≡ true → grown ≡ h ++ event me request reply ∷ [] → is_listing (state_after grown) me ≡ false
none_ended h grown me request reply ends asks e =
    ap (λ (x : List Event). is_listing (state_after x) me) e ∙ (ap (λ (s : DirState). is_listing s me) (state_after-push h (event me request reply)) ∙ end_by (state_after h) me request reply asks ends)

-- a living process's record
pub memory_now : (past : Reserved Event) (me : ℕ) (m : Local) (held : ℕ) (killed : Bool) → killed ≡ false → Facts past.items me m → is_listing (state_after past.items) me ≡ false → IsRun past.items → (IsActive m → held + 1 ≤ past.spare) → IsMemory past me m held killed
memory_now past me m held killed live f none run room = record {
  run = run;
  begun = f.begun;
  ended = f.ended ∙ sym (ap (λ b. m.finished || b) live ∙ or_none m.finished);
  holds = λ no_kill. f.holds;
  listing = none;
  was = λ is. let clash : true ≡ false = sym is ∙ live in cc;
  room = λ active no_kill. room active;
}

-- what isn't stopped wasn't killed
pub not_killed : (m : Memory) (request : Request) → is_stopped m request ≡ false → may_be_called m.local request ≡ true → (m.killed ≡ true → is_some m.local.intent ≡ true) → m.killed ≡ false
not_killed m request live may was = by (is_begin request) m.killed (is_up_to m.stop (m.numbered + 1)) (is_some m.local.intent) (not m.local.finished) live (and_right (is_well_formed request) (cond (is_begin request) (not (is_some m.local.intent)) (is_active m.local)) may) was
  where
    by : (b k u some unfinished : Bool) → (not b && (k || u)) ≡ false → cond b (not some) (some && unfinished) ≡ true → (k ≡ true → some ≡ true) → k ≡ false
    by b false u some unfinished h may w = refl
    by true true u true unfinished h may w = cc
    by true true u false unfinished h may w = let clash : false ≡ true = w refl in cc
    by false true u some unfinished h may w = cc

-- who asks may
may_by : (good b begun ended : Bool) → (good && cond b (not begun) (begun && not ended)) ≡ true → (n_begun n_ended : Bool) → n_begun ≡ begun → n_ended ≡ ended → (good && cond b (not n_begun) (n_begun && not n_ended)) ≡ true
may_by good b begun ended may n_begun n_ended p q = rw (p, q) may

pub asks_may : (h : List Event) (me : ℕ) (m : Local) (request : Request) → may_be_called m request ≡ true → Facts h me m → may_step (state_after h) me request ≡ true
asks_may h me m request may f = may_by (is_well_formed request) (is_begin request) (is_some m.intent) m.finished may (has_begun (state_after h).namespace me) (has_ended (state_after h).namespace me) f.begun f.ended

-- a killed process's record

killed_begun : (b : Bool) (h : List Event) (me : ℕ) → has_begun (state_after (h ++ kill_of b me)).namespace me ≡ has_begun (state_after h).namespace me
killed_begun true h me = ap (λ (s : DirState). has_begun s.namespace me) (state_after-push h (event me Kill Done))
killed_begun false h me = ap (λ (x : List Event). has_begun (state_after x).namespace me) (append-nil h)

killed_ended : (killed : Bool) (h : List Event) (me : ℕ) → (killed ≡ true → has_ended (state_after h).namespace me ≡ true) → has_ended (state_after (h ++ kill_of (not killed) me)).namespace me ≡ true
killed_ended true h me was = ap (λ (x : List Event). has_ended (state_after x).namespace me) (append-nil h) ∙ was refl
killed_ended false h me was = ap (λ (s : DirState). has_ended s.namespace me) (state_after-push h (event me Kill Done)) ∙ any_last (λ p. p == me) (state_after h).namespace.ended me (same_self me)

killed_listing : (b : Bool) (h : List Event) (me : ℕ) → is_listing (state_after h) me ≡ false → is_listing (state_after (h ++ kill_of b me)) me ≡ false
killed_listing true h me none = ap (λ (s : DirState). is_listing s me) (state_after-push h (event me Kill Done)) ∙ none_without me (state_after h).listings
killed_listing false h me none = ap (λ (x : List Event). is_listing (state_after x) me) (append-nil h) ∙ none

begun_by : (b some unfinished u : Bool) → (not b && u) ≡ true → cond b (not some) (some && unfinished) ≡ true → some ≡ true
begun_by true some unfinished u h may = cc
begun_by false true unfinished u h may = refl
begun_by false false unfinished u h may = cc

pub over_by : (new : Reserved Event) (me : ℕ) (m : Local) (held : ℕ) → IsMemory new me m held true → lives (state_after new.items).namespace me ≡ false
over_by new me m held i = by (has_begun (state_after new.items).namespace me) (has_ended (state_after new.items).namespace me) (i.ended ∙ or_true m.finished)
  where
    by : (b e : Bool) → e ≡ true → (b && not e) ≡ false
    by b e is = ap (λ x. b && not x) is ∙ and_false b

pub memory_stopped : (past new : Reserved Event) (mid : List Event) (me : ℕ) (m : Memory) (held more : ℕ) (request : Request) → IsMemory past me m.local held m.killed → Interlude me past.items mid → new.items ≡ mid ++ kill_of (not m.killed) me → IsRun new.items → is_stopped m request ≡ true → may_be_called m.local request ≡ true → IsMemory new me m.local more true
memory_stopped past new mid me m held more request i came grown run stopped may =
    let was_over : m.killed ≡ true → has_ended (state_after mid).namespace me ≡ true = λ is. came.ended ∙ (i.ended ∙ (ap (λ b. m.local.finished || b) is ∙ or_true m.local.finished)) in
    record {
      run = run;
      begun = ap (λ (h : List Event). has_begun (state_after h).namespace me) grown ∙ (killed_begun (not m.killed) mid me ∙ (came.begun ∙ i.begun));
      ended = ap (λ (h : List Event). has_ended (state_after h).namespace me) grown ∙ (killed_ended m.killed mid me was_over ∙ sym (or_true m.local.finished));
      holds = λ no_kill. cc;
      listing = ap (λ (h : List Event). is_listing (state_after h) me) grown ∙ killed_listing (not m.killed) mid me (came.listing ∙ i.listing);
      was = λ is. begun_by (is_begin request) (is_some m.local.intent) (not m.local.finished) (m.killed || is_up_to m.stop (m.numbered + 1)) stopped (and_right (is_well_formed request) (cond (is_begin request) (not (is_some m.local.intent)) (is_active m.local)) may);
      room = λ active no_kill. cc;
    }
