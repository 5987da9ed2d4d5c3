-- What a process has open by its own answers: a handle that is opened and closed again leaves what was open before, and
-- while the process lives it is what the namespace says.
use Rattle.std.proofs.Common.{◌≡◌, ℕ, Bool, true, false, not, ◌&&◌, ◌||◌, ◌==◌, cond, Some, None, is_some, List, [], ◌∷◌, ◌++◌, map, filter, Result, Ok, Err, refl, sym, ap, ◌∙◌}
use Rattle.std.specs.List.{list_any}
use Rattle.dir_model.specs.declared.spot.Handle.{Handle}
use Rattle.dir_model.specs.declared.spot.Mode.{Mode}
use Rattle.dir_model.specs.declared.opening.Opening.{Opening}
use Rattle.dir_model.specs.declared.opening.Holding.{Holding}
use Rattle.dir_model.specs.declared.opening.Target.{Target}
use Rattle.dir_model.specs.declared.request.DirError.{DirError}
use Rattle.dir_model.specs.declared.request.Request.{Request}
use Rattle.dir_model.specs.declared.request.Request.TheVariants.{Open, OpenArea, TryLock, Close, Finish, Kill}
use Rattle.dir_model.specs.declared.request.Reply.{Reply}
use Rattle.dir_model.specs.declared.request.Reply.TheVariants.{Done, Opened, Refused}
use Rattle.dir_model.specs.Locks.{is_handle}
use Rattle.dir_model.specs.State.{Namespace, has_open}
use Rattle.dir_model.specs.Trace.{locked, opened, opened_gate, namespace_replied}
use Rattle.dir_model.specs.Replies.{done_reply}
use Rattle.dir_model.specs.Calls.{is_kill}
use Rattle.dir_model.specs.Local.{Local, is_handle_of, with_handle, held_in, with_lock, without, local_replied, is_open_among, is_locking, IsOpen, IsUnopened, IsUnlocked, holding_of, holdings_in}
use Rattle.dir_model.proofs.Lists.{and_left, and_false, same_self, any_last, any_last_not, any_fewer, filter_past, filter_push, map_push, apart_clash}

not_twice : (b : Bool) → not (not b) ≡ b
not_twice true = refl
not_twice false = refl

-- closing a handle that isn't open changes nothing
pub none_closed : (h : Handle) (hs : List Holding) → is_open_among h hs ≡ false → filter (λ x. not (is_handle_of h x)) hs ≡ hs
none_closed h [] none = refl
none_closed h (x ∷ xs) none = by (is_handle_of h x) none (λ rest. none_closed h xs rest)
  where
    by : (b : Bool) → (b || is_open_among h xs) ≡ false → (is_open_among h xs ≡ false → filter (λ y. not (is_handle_of h y)) xs ≡ xs) → cond (not b) (x ∷ filter (λ y. not (is_handle_of h y)) xs) (filter (λ y. not (is_handle_of h y)) xs) ≡ x ∷ xs
    by true none rest = cc
    by false none rest = ap (λ l. x ∷ l) (rest none)

-- and locking one neither
pub none_locked : (h : Handle) (mode : Mode) (hs : List Holding) → is_open_among h hs ≡ false → map (held_in h mode) hs ≡ hs
none_locked h mode [] none = refl
none_locked h mode (x ∷ xs) none = by (is_handle_of h x) none (λ rest. none_locked h mode xs rest)
  where
    by : (b : Bool) → (b || is_open_among h xs) ≡ false → (is_open_among h xs ≡ false → map (held_in h mode) xs ≡ xs) → cond b (record x { lock = Some mode }) x ∷ map (held_in h mode) xs ≡ x ∷ xs
    by true none rest = cc
    by false none rest = ap (λ l. x ∷ l) (rest none)

module _ (m : Local) (h : Handle) (target : Target) (new : IsUnopened m h) where
  abbrev fresh : Holding
  fresh = record { handle = h; target = target; lock = None }

  number_is : is_handle_of h fresh ≡ true
  number_is = same_self h.number

  closed_list : (x : Holding) → is_handle_of h x ≡ true → filter (λ y. not (is_handle_of h y)) (m.holdings ++ x ∷ []) ≡ m.holdings
  closed_list x is = filter_past (λ y. not (is_handle_of h y)) m.holdings x (ap not is) ∙ none_closed h m.holdings new

  pub closed_again : without (with_handle m h target) h ≡ m
  closed_again = ap (λ (hs : List Holding). record m { holdings = hs }) (closed_list fresh number_is)

  locked_list : (mode : Mode) → map (held_in h mode) (m.holdings ++ fresh ∷ []) ≡ m.holdings ++ record fresh { lock = Some mode } ∷ []
  locked_list mode = map_push (held_in h mode) m.holdings fresh ∙ (ap (λ (hs : List Holding). hs ++ held_in h mode fresh ∷ []) (none_locked h mode m.holdings new) ∙ ap (λ (b : Bool). m.holdings ++ cond b (record fresh { lock = Some mode }) fresh ∷ []) number_is)

  pub closed_after_lock : (mode : Mode) → without (with_lock (with_handle m h target) h mode) h ≡ m
  closed_after_lock mode = ap (λ (hs : List Holding). record m { holdings = filter (λ y. not (is_handle_of h y)) hs }) (locked_list mode) ∙ ap (λ (hs : List Holding). record m { holdings = hs }) (closed_list (record fresh { lock = Some mode }) number_is)

  -- whatever the lock's answer was
  pub closed_after_try : (mode : Mode) (answer : Result (Unit {0}) DirError) → without (local_replied (with_handle m h target) (TryLock h mode) (done_reply answer)) h ≡ m
  closed_after_try mode (Ok done) = closed_after_lock mode
  closed_after_try mode (Err error) = closed_again

  pub open_new : IsOpen (with_handle m h target) h
  open_new = any_last (is_handle_of h) m.holdings fresh number_is

  pub unlocked_new : IsUnlocked (with_handle m h target) h
  unlocked_new = any_last_not (is_locking h) m.holdings fresh (and_false (is_handle_of h fresh)) ∙ any_fewer (is_locking h) (is_handle_of h) (λ x is. and_left (is_handle_of h x) (is_some x.lock) is) m.holdings new

-- the same by what the answers say of what is open
pub closed_by : {m a b : Local} (h : Handle) (target : Target) → IsUnopened m h → a ≡ with_handle m h target → b ≡ without a h → b ≡ m
closed_by {m} {a} {b} h target new open_is close_is = close_is ∙ (ap (λ (x : Local). without x h) open_is ∙ closed_again m h target new)

pub tried_by : {m a b c : Local} (h : Handle) (target : Target) (mode : Mode) (answer : Result (Unit {0}) DirError) → IsUnopened m h → a ≡ with_handle m h target → b ≡ local_replied a (TryLock h mode) (done_reply answer) → c ≡ without b h → c ≡ m
tried_by {m} {a} {b} {c} h target mode answer new open_is try_is close_is =
    close_is ∙ (ap (λ (x : Local). without x h) (try_is ∙ ap (λ (x : Local). local_replied x (TryLock h mode) (done_reply answer)) open_is) ∙ closed_after_try m h target new mode answer)

-- the namespace's list

abbrev pub mine : ℕ → Opening → Bool
mine me o = o.process == me

abbrev own : ℕ → List Opening → List Holding
own me os = map holding_of (filter (mine me) os)

own_push : (me : ℕ) (os : List Opening) (o : Opening) → (o.process == me) ≡ true → own me (os ++ o ∷ []) ≡ own me os ++ holding_of o ∷ []
own_push me os o is = ap (map holding_of) (filter_push (mine me) os o is) ∙ map_push holding_of (filter (mine me) os) o

own_past : (me : ℕ) (os : List Opening) (o : Opening) → (o.process == me) ≡ false → own me (os ++ o ∷ []) ≡ own me os
own_past me os o is = ap (map holding_of) (filter_past (mine me) os o is)

-- what a change of each opening does, where it keeps whose it is
own_map : (me : ℕ) (f : Opening → Opening) (g : Holding → Holding) → ((o : Opening) → (f o).process ≡ o.process) → ((o : Opening) → (o.process == me) ≡ true → holding_of (f o) ≡ g (holding_of o)) → (os : List Opening) → own me (map f os) ≡ map g (own me os)
own_map me f g keeps says [] = refl
own_map me f g keeps says (o ∷ os) = ap (λ (p : ℕ). map holding_of (cond (p == me) (f o ∷ filter (mine me) (map f os)) (filter (mine me) (map f os)))) (keeps o) ∙ by (o.process == me) (says o) (own_map me f g keeps says os)
  where
    by : (b : Bool) → (b ≡ true → holding_of (f o) ≡ g (holding_of o)) → own me (map f os) ≡ map g (own me os) → map holding_of (cond b (f o ∷ filter (mine me) (map f os)) (filter (mine me) (map f os))) ≡ map g (map holding_of (cond b (o ∷ filter (mine me) os) (filter (mine me) os)))
    by true is rest = ap (λ (x : Holding). x ∷ own me (map f os)) (is refl) ∙ ap (λ (l : List Holding). g (holding_of o) ∷ l) rest
    by false is rest = rest

-- what a filter does, where it looks at what the process knows
own_filter : (me : ℕ) (q : Opening → Bool) (r : Holding → Bool) → ((o : Opening) → (o.process == me) ≡ true → q o ≡ r (holding_of o)) → (os : List Opening) → own me (filter q os) ≡ filter r (own me os)
own_filter me q r says [] = refl
own_filter me q r says (o ∷ os) = by (q o) (o.process == me) refl (says o) (own_filter me q r says os)
  where
    by : (b c : Bool) → (o.process == me) ≡ c → (c ≡ true → b ≡ r (holding_of o)) → own me (filter q os) ≡ filter r (own me os) → own me (cond b (o ∷ filter q os) (filter q os)) ≡ filter r (map holding_of (cond c (o ∷ filter (mine me) os) (filter (mine me) os)))
    by true true is same rest = rw (is, sym (same refl)) (ap (λ (l : List Holding). holding_of o ∷ l) rest)
    by true false is same rest = rw is rest
    by false true is same rest = rw (sym (same refl)) rest
    by false false is same rest = rest

locked_keeps : (p : ℕ) (h : Handle) (mode : Mode) (o : Opening) → (locked p h mode o).process ≡ o.process
locked_keeps p h mode o = elim (is_handle p h o) as (λ b. (cond b (record o { lock = Some mode }) o).process ≡ o.process) [ true ↦ refl | false ↦ refl ]

locked_same : (me : ℕ) (h : Handle) (mode : Mode) (o : Opening) → (o.process == me) ≡ true → holding_of (locked me h mode o) ≡ held_in h mode (holding_of o)
locked_same me h mode o is = rw is (elim (o.handle.number == h.number) as (λ b. holding_of (cond b (record o { lock = Some mode }) o) ≡ cond b (record (holding_of o) { lock = Some mode }) (holding_of o)) [ true ↦ refl | false ↦ refl ])

ended_none : (me : ℕ) (os : List Opening) → own me (filter (λ o. not (o.process == me)) os) ≡ []
ended_none me [] = refl
ended_none me (o ∷ os) = by (o.process == me) refl (ended_none me os)
  where
    by : (b : Bool) → (o.process == me) ≡ b → own me (filter (λ x. not (x.process == me)) os) ≡ [] → own me (cond (not b) (o ∷ filter (λ x. not (x.process == me)) os) (filter (λ x. not (x.process == me)) os)) ≡ []
    by true is rest = rest
    by false is rest = rw is rest

-- while a process lives, what it has open by its own answers is what the namespace says
pub replied_same : (n : Namespace) (me : ℕ) (m : Local) (request : Request) (reply : Reply) → is_kill request ≡ false → holdings_in n me ≡ m.holdings → holdings_in (namespace_replied n me request reply) me ≡ (local_replied m request reply).holdings
replied_same n me m request (Refused error left) lives same = same
replied_same n me m (Open spot which) (Opened handle) lives same = own_push me n.openings (opened n me handle spot which) (same_self me) ∙ ap (λ (hs : List Holding). hs ++ holding_of (opened n me handle spot which) ∷ []) same
replied_same n me m (OpenArea area) (Opened handle) lives same = own_push me n.openings (opened_gate me handle area) (same_self me) ∙ ap (λ (hs : List Holding). hs ++ holding_of (opened_gate me handle area) ∷ []) same
replied_same n me m _ (Opened handle) lives same = same
replied_same n me m (TryLock handle mode) Done lives same = own_map me (locked me handle mode) (held_in handle mode) (locked_keeps me handle mode) (locked_same me handle mode) n.openings ∙ ap (map (held_in handle mode)) same
replied_same n me m (Close handle) Done lives same = own_filter me (λ o. not (is_handle me handle o)) (λ h. not (is_handle_of handle h)) (λ o is. rw is refl) n.openings ∙ ap (filter (λ h. not (is_handle_of handle h))) same
replied_same n me m Finish Done lives same = ended_none me n.openings
replied_same n me m Kill Done lives same = let clash : true ≡ false = lives in cc
replied_same n me m _ Done lives same = same
replied_same n me m request reply lives same = same

other_locked : (p me : ℕ) (h : Handle) (mode : Mode) → (p == me) ≡ false → (o : Opening) → (o.process == me) ≡ true → holding_of (locked p h mode o) ≡ holding_of o
other_locked p me h mode apart o is = by (is_handle p h o) (λ it. and_left (o.process == p) (o.handle.number == h.number) it)
  where
    by : (b : Bool) → (b ≡ true → (o.process == p) ≡ true) → holding_of (cond b (record o { lock = Some mode }) o) ≡ holding_of o
    by true it = absurd (apart_clash o.process p me (it refl) is apart)
    by false it = refl

map_same : (hs : List Holding) → map (λ (h : Holding). h) hs ≡ hs
map_same [] = refl
map_same (h ∷ hs) = ap (λ l. h ∷ l) (map_same hs)

filter_same : (hs : List Holding) → filter (λ (h : Holding). true) hs ≡ hs
filter_same [] = refl
filter_same (h ∷ hs) = ap (λ l. h ∷ l) (filter_same hs)

other_kept : (p me : ℕ) (q : Opening → Bool) → (p == me) ≡ false → ((o : Opening) → q o ≡ false → (o.process == p) ≡ true) → (o : Opening) → (o.process == me) ≡ true → q o ≡ true
other_kept p me q apart whose o is = by (q o) (whose o)
  where
    by : (b : Bool) → (b ≡ false → (o.process == p) ≡ true) → b ≡ true
    by true it = refl
    by false it = absurd (apart_clash o.process p me (it refl) is apart)

whose_handle : (p : ℕ) (h : Handle) (o : Opening) → not (is_handle p h o) ≡ false → (o.process == p) ≡ true
whose_handle p h o is = and_left (o.process == p) (o.handle.number == h.number) (by (is_handle p h o) is)
  where
    by : (b : Bool) → not b ≡ false → b ≡ true
    by true is = refl
    by false is = cc

whose_process : (p : ℕ) (o : Opening) → not (o.process == p) ≡ false → (o.process == p) ≡ true
whose_process p o is = by (o.process == p) is
  where
    by : (b : Bool) → not b ≡ false → b ≡ true
    by true is = refl
    by false is = cc

module _ (n : Namespace) (p me : ℕ) (apart : (p == me) ≡ false) where
  kept : (q : Opening → Bool) → ((o : Opening) → q o ≡ false → (o.process == p) ≡ true) → own me (filter q n.openings) ≡ own me n.openings
  kept q whose = own_filter me q (λ h. true) (other_kept p me q apart whose) n.openings ∙ filter_same (own me n.openings)

  -- what others do leaves it
  pub others_same : (request : Request) (reply : Reply) → holdings_in (namespace_replied n p request reply) me ≡ holdings_in n me
  others_same request (Refused error left) = refl
  others_same (Open spot which) (Opened handle) = own_past me n.openings (opened n p handle spot which) apart
  others_same (OpenArea area) (Opened handle) = own_past me n.openings (opened_gate p handle area) apart
  others_same _ (Opened handle) = refl
  others_same (TryLock handle mode) Done = own_map me (locked p handle mode) (λ h. h) (locked_keeps p handle mode) (other_locked p me handle mode apart) n.openings ∙ map_same (own me n.openings)
  others_same (Close handle) Done = kept (λ o. not (is_handle p handle o)) (whose_handle p handle)
  others_same Finish Done = kept (λ o. not (o.process == p)) (whose_process p)
  others_same Kill Done = kept (λ o. not (o.process == p)) (whose_process p)
  others_same _ Done = refl
  others_same request reply = refl

-- a handle is open by a process's own answers where it is open in the namespace
pub open_same : (n : Namespace) (me : ℕ) (handle : Handle) → is_open_among handle (holdings_in n me) ≡ has_open n me handle
open_same n me handle = among n.openings
  where
    among : (os : List Opening) → is_open_among handle (own me os) ≡ list_any (is_handle me handle) os
    among [] = refl
    among (o ∷ os) = by (o.process == me) (among os)
      where
        by : (b : Bool) → is_open_among handle (own me os) ≡ list_any (is_handle me handle) os → is_open_among handle (map holding_of (cond b (o ∷ filter (mine me) os) (filter (mine me) os))) ≡ ((b && (o.handle.number == handle.number)) || list_any (is_handle me handle) os)
        by true rest = ap (λ t. (o.handle.number == handle.number) || t) rest
        by false rest = rest
