-- What others do leaves the handles of one process; and which lock of which folder a handle is on.
use Rattle.std.proofs.Common.{◌≡◌, ℕ, Bool, true, false, not, ◌&&◌, ◌||◌, ◌==◌, cond}
use Rattle.std.proofs.Common.{Option, Some, List, [], ◌∷◌, ◌++◌, map, filter, find, refl, sym, ap, subst, ◌∙◌}
use Rattle.std.specs.List.{list_any, AllByRecursion}
use Rattle.plain_laws.proofs.Booleans.{over}
use Rattle.dir_model.specs.declared.event.Event.{Event}
use Rattle.dir_model.specs.declared.opening.Holding.{Holding}
use Rattle.dir_model.specs.declared.opening.Opening.{Opening}
use Rattle.dir_model.specs.declared.opening.Target.{Target}
use Rattle.dir_model.specs.declared.opening.Target.TheVariants as target
use Rattle.dir_model.specs.declared.spot.Handle.{Handle}
use Rattle.dir_model.specs.declared.spot.Mode.{Mode}
use Rattle.dir_model.specs.declared.spot.Spot.{Spot}
use Rattle.dir_model.specs.declared.spot.Which.{Which}
use Rattle.dir_model.specs.declared.spot.Which.TheVariants.{Own, Claim}
use Rattle.dir_model.specs.declared.request.Request.{Request}
use Rattle.dir_model.specs.declared.request.Request.TheVariants.{Open, OpenArea, TryLock, Close, Finish, Kill}
use Rattle.dir_model.specs.declared.request.Reply.{Reply}
use Rattle.dir_model.specs.declared.request.Reply.TheVariants.{Done, Opened, Refused}
use Rattle.dir_model.specs.Locks.{is_handle, is_folder, is_one_lock, target_of}
use Rattle.dir_model.specs.State.{Namespace, DirState, empty_state, has_begun, lives}
use Rattle.dir_model.specs.Trace.{namespace_replied, locked, opened, opened_gate, state_next, states_next, state_after}
use Rattle.dir_model.specs.Calls.{Interference, is_foreign, is_kill}
use Rattle.dir_model.specs.Local.{holding_of}
use Rattle.dir_model.proofs.Lists.{and_left, and_right, any_last, filter_past, apart_clash}
use Rattle.dir_model.proofs.Chains.{states_next-append}
use Rattle.dir_model.proofs.Holdings.{mine}
use Rattle.dir_rules.proofs.Tied.{lived_before, Lives}
use Rattle.pod_locks.specs.ClaimCauses.{is_lock}

-- lists

pub find_last : {X : Type 0} (t : X → Bool) (xs : List X) (y : X) → list_any t xs ≡ false → t y ≡ true → find t (xs ++ y ∷ []) ≡ Some y
find_last {X} t [] y none is = ap (λ b. cond b (Some y) (find t [])) is
find_last {X} t (x ∷ xs) y none is = by (t x) none (λ rest. find_last t xs y rest is)
  where
    by : (b : Bool) → (b || list_any t xs) ≡ false → (list_any t xs ≡ false → find t (xs ++ y ∷ []) ≡ Some y) → cond b (Some x) (find t (xs ++ y ∷ [])) ≡ Some y
    by true n go = cc
    by false n go = go n

-- the handles of one process

abbrev pub own : ℕ → List Opening → List Opening
own me os = filter (mine me) os

pub own_any : (me : ℕ) (test : Holding → Bool) (os : List Opening) → list_any test (map holding_of (own me os)) ≡ list_any (λ o. (o.process == me) && test (holding_of o)) os
own_any me test [] = refl
own_any me test (o ∷ os) = by (o.process == me) (own_any me test os)
  where
    by : (b : Bool) → list_any test (map holding_of (own me os)) ≡ list_any (λ x. (x.process == me) && test (holding_of x)) os
        → list_any test (map holding_of (cond b (o ∷ own me os) (own me os))) ≡ ((b && test (holding_of o)) || list_any (λ x. (x.process == me) && test (holding_of x)) os)
    by true rest = ap (λ b. test (holding_of o) || b) rest
    by false rest = rest

pub find_own : (me : ℕ) (h : Handle) (os : List Opening) → find (is_handle me h) os ≡ find (is_handle me h) (own me os)
find_own me h [] = refl
find_own me h (o ∷ os) = by (o.process == me) refl (find_own me h os)
  where
    by : (b : Bool) → (o.process == me) ≡ b → find (is_handle me h) os ≡ find (is_handle me h) (own me os)
        → cond (b && (o.handle.number == h.number)) (Some o) (find (is_handle me h) os) ≡ find (is_handle me h) (cond b (o ∷ own me os) (own me os))
    by true is rest = ap (λ (x : Option Opening). cond (o.handle.number == h.number) (Some o) x) rest ∙ ap (λ c. cond (c && (o.handle.number == h.number)) (Some o) (find (is_handle me h) (own me os))) (sym is)
    by false is rest = rest

apart_from : (a p me : ℕ) → (p == me) ≡ false → (a == p) ≡ true → (a == me) ≡ false
apart_from a p me apart is = by (a == me) refl
  where
    by : (b : Bool) → (a == me) ≡ b → (a == me) ≡ false
    by true it = absurd (apart_clash a p me is it apart)
    by false it = it

own_mapped : (me p : ℕ) (h : Handle) (mode : Mode) → (p == me) ≡ false → (os : List Opening) → own me (map (locked p h mode) os) ≡ own me os
own_mapped me p h mode apart [] = refl
own_mapped me p h mode apart (o ∷ os) = by (is_handle p h o) (λ is. apart_from o.process p me apart (and_left (o.process == p) (o.handle.number == h.number) is)) (own_mapped me p h mode apart os)
  where
    rest : List Opening
    rest = own me (map (locked p h mode) os)

    by : (b : Bool) → (b ≡ true → (o.process == me) ≡ false) → own me (map (locked p h mode) os) ≡ own me os
        → own me (cond b (record o { lock = Some mode }) o ∷ map (locked p h mode) os) ≡ cond (o.process == me) (o ∷ own me os) (own me os)
    by true other same = ap (λ c. cond c (record o { lock = Some mode } ∷ rest) rest) (other refl) ∙ (same ∙ ap (λ c. cond c (o ∷ own me os) (own me os)) (sym (other refl)))
    by false other same = ap (λ (l : List Opening). cond (o.process == me) (o ∷ l) l) same

own_filtered : (me : ℕ) (q : Opening → Bool) → ((o : Opening) → (o.process == me) ≡ true → q o ≡ true) → (os : List Opening) → own me (filter q os) ≡ own me os
own_filtered me q keeps [] = refl
own_filtered me q keeps (o ∷ os) = by (q o) (o.process == me) refl (keeps o) (own_filtered me q keeps os)
  where
    by : (b c : Bool) → (o.process == me) ≡ c → ((o.process == me) ≡ true → b ≡ true) → own me (filter q os) ≡ own me os → own me (cond b (o ∷ filter q os) (filter q os)) ≡ cond c (o ∷ own me os) (own me os)
    by true c is k same = ap (λ (l : List Opening). cond (o.process == me) (o ∷ l) l) same ∙ ap (λ d. cond d (o ∷ own me os) (own me os)) is
    by false true is k same = let e : false ≡ true = k is in cc
    by false false is k same = same

keeps_handle : (p : ℕ) (h : Handle) (me : ℕ) → (p == me) ≡ false → (o : Opening) → (o.process == me) ≡ true → not (is_handle p h o) ≡ true
keeps_handle p h me apart o is = by (is_handle p h o) (λ it. and_left (o.process == p) (o.handle.number == h.number) it)
  where
    by : (b : Bool) → (b ≡ true → (o.process == p) ≡ true) → not b ≡ true
    by true it = absurd (apart_clash o.process p me (it refl) is apart)
    by false it = refl

keeps_process : (p me : ℕ) → (p == me) ≡ false → (o : Opening) → (o.process == me) ≡ true → not (o.process == p) ≡ true
keeps_process p me apart o is = by (o.process == p) (λ it. it)
  where
    by : (b : Bool) → (b ≡ true → (o.process == p) ≡ true) → not b ≡ true
    by true it = absurd (apart_clash o.process p me (it refl) is apart)
    by false it = refl

module _ (n : Namespace) (p me : ℕ) (apart : (p == me) ≡ false) where
  others_own : (request : Request) (reply : Reply) → own me (namespace_replied n p request reply).openings ≡ own me n.openings
  others_own request (Refused error left) = refl
  others_own (Open spot which) (Opened handle) = filter_past (mine me) n.openings (opened n p handle spot which) apart
  others_own (OpenArea area) (Opened handle) = filter_past (mine me) n.openings (opened_gate p handle area) apart
  others_own _ (Opened handle) = refl
  others_own (TryLock handle mode) Done = own_mapped me p handle mode apart n.openings
  others_own (Close handle) Done = own_filtered me (λ o. not (is_handle p handle o)) (keeps_handle p handle me apart) n.openings
  others_own Finish Done = own_filtered me (λ o. not (o.process == p)) (keeps_process p me apart) n.openings
  others_own Kill Done = own_filtered me (λ o. not (o.process == p)) (keeps_process p me apart) n.openings
  others_own _ Done = refl
  others_own request reply = refl

kill_own : (n : Namespace) (me p : ℕ) (request : Request) (reply : Reply) → (p == me) ≡ true → is_kill request ≡ true → lives (namespace_replied n p request reply) me ≡ true → own me (namespace_replied n p request reply).openings ≡ own me n.openings
kill_own n me p Kill Done is kill now = over (list_any (λ q. q == me) (n.ended ++ p ∷ [])) (any_last (λ q. q == me) n.ended p is) (and_right (has_begun n me) (not (list_any (λ q. q == me) (n.ended ++ p ∷ []))) now)
kill_own n me p Kill (Opened handle) is kill now = refl
kill_own n me p Kill reply is kill now = refl
kill_own n me p _ reply is kill now = cc

foreign_own : (me : ℕ) (s : DirState) (e : Event) → is_foreign me e ≡ true → lives (state_next s e).namespace me ≡ true → own me (state_next s e).namespace.openings ≡ own me s.namespace.openings
foreign_own me s e f now = by (e.process == me) refl f
  where
    by : (b : Bool) → (e.process == me) ≡ b → (not b || is_kill e.request) ≡ true → own me (state_next s e).namespace.openings ≡ own me s.namespace.openings
    by true is kill = kill_own s.namespace me e.process e.request e.reply is kill now
    by false is kill = others_own s.namespace e.process me is e.request e.reply

others_keep : (me : ℕ) (s : DirState) (es : List Event) → AllByRecursion (λ e. is_foreign me e ≡ true) es → lives (states_next s es).namespace me ≡ true → own me (states_next s es).namespace.openings ≡ own me s.namespace.openings
others_keep me s [] f now = refl
others_keep me s (e ∷ es) f now = others_keep me (state_next s e) es f.1 now ∙ foreign_own me s e f.0 (lived_before me (state_next s e) es f.1 now)

pub own_meanwhile : {me : ℕ} {old new : List Event} → Interference me old new → Lives me new → own me (state_after new).namespace.openings ≡ own me (state_after old).namespace.openings
own_meanwhile {me} {old} {new} m now =
    let is : state_after new ≡ states_next (state_after old) m.others = ap state_after m.grown ∙ states_next-append empty_state old m.others in
    ap (λ (s : DirState). own me s.namespace.openings) is ∙ others_keep me (state_after old) m.others m.foreign (subst (λ (s : DirState). lives s.namespace me ≡ true) is now)

-- one lock of one folder

pub same_lock : (which : Which) (spot : Spot) (f : ℕ) (t : Target) (g : Option ℕ) → is_one_lock (target_of spot which) (Some f) t g ≡ true → (is_lock which t ≡ true) × (is_folder f g ≡ true)
same_lock Own spot f (target.Own here) g is = (refl, is)
same_lock Own spot f (target.Claim here) g is = cc
same_lock Own spot f (target.Gate a) g is = cc
same_lock Claim spot f (target.Claim here) g is = (refl, is)
same_lock Claim spot f (target.Own here) g is = cc
same_lock Claim spot f (target.Gate a) g is = cc

-- an own handle of another number on a lock of that kind
abbrev pub doubles : Which → Handle → Holding → Bool
doubles which handle x = is_lock which x.target && not (x.handle.number == handle.number)
