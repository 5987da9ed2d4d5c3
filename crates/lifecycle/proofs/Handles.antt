-- What holds of the open handles of every run: a handle is one, and who holds a lock exclusively holds it alone.
use Rattle.std.proofs.Common.{arith, ◌≡◌, ◌⊎◌, inl, inr, ◌<◌, ◌≤◌, ℕ, Bool, true, false, not, ◌&&◌, ◌==◌, cond, Option, Some, None, is_some, List, [], ◌∷◌, ◌++◌, length, map, find, refl, sym, ap, subst, ◌∙◌}
use Rattle.std.proofs.lemmas.Bool.Decides.{nat_tests}
use Rattle.std.proofs.lemmas.Bool.{and_parts}
use Rattle.plain_laws.proofs.Booleans.{clash}
use Rattle.dir_model.specs.declared.spot.Handle.{Handle}
use Rattle.dir_model.specs.declared.spot.Mode.{Mode}
use Rattle.dir_model.specs.declared.spot.Spot.{Spot}
use Rattle.dir_model.specs.declared.spot.Which.{Which}
use Rattle.dir_model.specs.declared.area.Area.{Area}
use Rattle.dir_model.specs.Calls.{is_begin}
use Rattle.dir_model.specs.declared.spot.Mode.TheVariants.{Shared, Exclusive}
use Rattle.dir_model.specs.declared.opening.Opening.{Opening}
use Rattle.dir_model.specs.declared.opening.Target.{Target}
use Rattle.dir_model.specs.declared.opening.Target.TheVariants.{Own, Claim, Gate}
use Rattle.dir_model.specs.declared.request.Request.{Request}
use Rattle.dir_model.specs.declared.request.Request.TheVariants.{TryLock, Open, OpenArea}
use Rattle.dir_model.specs.declared.request.Reply.TheVariants.{Done, Opened}
use Rattle.dir_model.specs.Areas.{rank}
use Rattle.dir_model.specs.Locks.{is_handle, is_exclusive, opposes, is_one_lock, is_same_lock, is_same_folder}
use Rattle.dir_model.specs.State.{Namespace, DirState, lives, has_open, has_begun, stands, folder_at}
use Rattle.dir_model.specs.Trace.{locked}
use Rattle.dir_model.specs.Replies.{is_reply, refusal, is_locked, is_opposed, asks_for_nothing, is_apps_request, refused_in, open_refusal}
use Rattle.lifecycle.proofs.Lists.{In, in_push, in_map, in_any, find_in, in_find}
use Rattle.dir_model.proofs.Lists.{and_both, not_true}

-- this handle, both ways and by way of another
pub handle_turn : (a b : Opening) → is_handle a.process a.handle b ≡ true → is_handle b.process b.handle a ≡ true
handle_turn a b h =
    let k = and_parts (b.process == a.process) (b.handle.number == a.handle.number) h in
    and_both (a.process == b.process) (a.handle.number == b.handle.number) (turn b.process a.process k.0)
    (turn b.handle.number a.handle.number k.1)
  where
    turn : (x y : ℕ) → (x == y) ≡ true → (y == x) ≡ true
    turn x y e = grind (arith, nat_tests)

pub handle_meet : (p : ℕ) (h : Handle) (a b : Opening) → is_handle p h a ≡ true → is_handle p h b ≡ true →
    is_handle a.process a.handle b ≡ true
handle_meet p h a b x y =
    let i = and_parts (a.process == p) (a.handle.number == h.number) x in
    let j = and_parts (b.process == p) (b.handle.number == h.number) y in
    and_both (b.process == a.process) (b.handle.number == a.handle.number) (meet a.process b.process p i.0 j.0)
    (meet a.handle.number b.handle.number h.number i.1 j.1)
  where
    meet : (x y z : ℕ) → (x == z) ≡ true → (y == z) ≡ true → (y == x) ≡ true
    meet x y z e f = grind (arith, nat_tests)

num_turn : (x y : ℕ) → (x == y) ≡ true → (y == x) ≡ true
num_turn x y e = grind (arith, nat_tests)

folder_turn : (f g : Option ℕ) → is_same_folder f g ≡ true → is_same_folder g f ≡ true
folder_turn (Some f) (Some g) h = num_turn g f h
folder_turn None g h = cc
folder_turn (Some f) None h = cc

pub one_turn : (a : Target) (f : Option ℕ) (b : Target) (g : Option ℕ) → is_one_lock a f b g ≡ true → is_one_lock b g a f ≡ true
one_turn (Own s) f (Own t) g h = folder_turn f g h
one_turn (Claim s) f (Claim t) g h = folder_turn f g h
one_turn (Gate a) f (Gate b) g h = num_turn (rank a) (rank b) h
one_turn (Own s) f (Claim t) g h = cc
one_turn (Claim s) f (Own t) g h = cc
one_turn (Own s) f (Gate b) g h = cc
one_turn (Claim s) f (Gate b) g h = cc
one_turn (Gate a) f (Own t) g h = cc
one_turn (Gate a) f (Claim t) g h = cc

pub lock_turn : (a b : Opening) → is_same_lock a b ≡ true → is_same_lock b a ≡ true
lock_turn a b h = one_turn a.target a.folder b.target b.folder h

pub record Sound (n : Namespace) : Type 0 where
  pub unique : (a b : Opening) → In a n.openings → In b n.openings → is_handle a.process a.handle b ≡ true → a ≡ b
  pub alone : (a b : Opening) → In a n.openings → In b n.openings → is_same_lock a b ≡ true →
      is_exclusive a.lock ≡ true → is_some b.lock ≡ true → a ≡ b
  pub living : (a : Opening) → In a n.openings → lives n a.process ≡ true
  pub bounded : (a : Opening) → In a n.openings → (f : ℕ) → a.folder ≡ Some f → f < length n.folders

-- no handle more
pub fewer : (m n : Namespace) → Sound m → ((a : Opening) → In a n.openings → In a m.openings) →
    ((a : Opening) → In a n.openings → lives n a.process ≡ true) → length m.folders ≤ length n.folders → Sound n
fewer m n s less alive grown = record {
  unique = λ a b i j h. s.unique a b (less a i) (less b j) h;
  alone = λ a b i j h x y. s.alone a b (less a i) (less b j) h x y;
  living = alive;
  bounded = λ a i f e. let k : f < length m.folders = s.bounded a (less a i) f e in omega (arith, k, grown);
}

-- one handle more, that isn't open yet and holds nothing
pub more : (n : Namespace) (o : Opening) → Sound n → has_open n o.process o.handle ≡ false → o.lock ≡ None →
    lives n o.process ≡ true → ((f : ℕ) → o.folder ≡ Some f → f < length n.folders) →
    Sound (record n { openings = n.openings ++ o ∷ [] })
more n o s fresh free alive within = record {
  unique = λ a b i j h. one a b (in_push a n.openings o i) (in_push b n.openings o j) h;
  alone = λ a b i j h x y. two a b (in_push a n.openings o i) (in_push b n.openings o j) h x y;
  living = λ a i. three a (in_push a n.openings o i);
  bounded = λ a i f e. four a (in_push a n.openings o i) f e;
}
  where
    one : (a b : Opening) → In a n.openings ⊎ (a ≡ o) → In b n.openings ⊎ (b ≡ o) →
        is_handle a.process a.handle b ≡ true → a ≡ b
    one a b (inl i) (inl j) h = s.unique a b i j h
    one a b (inl i) (inr e) h = clash (has_open n o.process o.handle)
        (in_any (is_handle o.process o.handle) a n.openings i
        (handle_turn a o (subst (λ (x : Opening). is_handle a.process a.handle x ≡ true) e h))) fresh
    one a b (inr e) (inl j) h = clash (has_open n o.process o.handle)
        (in_any (is_handle o.process o.handle) b n.openings j
        (subst (λ (x : Opening). is_handle x.process x.handle b ≡ true) e h)) fresh
    one a b (inr e) (inr f) h = e ∙ sym f

    two : (a b : Opening) → In a n.openings ⊎ (a ≡ o) → In b n.openings ⊎ (b ≡ o) → is_same_lock a b ≡ true →
        is_exclusive a.lock ≡ true → is_some b.lock ≡ true → a ≡ b
    two a b (inl i) (inl j) h x y = s.alone a b i j h x y
    two a b (inl i) (inr e) h x y =
        clash (is_some b.lock) y (ap (λ (z : Opening). is_some z.lock) e ∙ ap (λ (l : Option Mode). is_some l) free)
    two a b (inr e) j h x y = clash (is_exclusive a.lock) x (ap (λ (z : Opening). is_exclusive z.lock) e ∙ ap is_exclusive free)

    three : (a : Opening) → In a n.openings ⊎ (a ≡ o) → lives n a.process ≡ true
    three a (inl i) = s.living a i
    three a (inr e) = ap (λ (z : Opening). lives n z.process) e ∙ alive

    four : (a : Opening) → In a n.openings ⊎ (a ≡ o) → (f : ℕ) → a.folder ≡ Some f → f < length n.folders
    four a (inl i) f e = s.bounded a i f e
    four a (inr is) f e = within f (ap (λ (z : Opening). z.folder) (sym is) ∙ e)

-- the same handle, held in this mode
abbrev pub held : Mode → Opening → Opening
held m o = record { process = o.process; handle = o.handle; target = o.target; folder = o.folder; lock = Some m }

pub locked_is : (p : ℕ) (h : Handle) (m : Mode) (o : Opening) → ((is_handle p h o ≡ true) × (locked p h m o ≡ held m o))
    ⊎ ((is_handle p h o ≡ false) × (locked p h m o ≡ o))
locked_is p h m o = by (is_handle p h o)
  where
    by : (b : Bool) → ((b ≡ true) × (cond b (held m o) o ≡ held m o)) ⊎ ((b ≡ false) × (cond b (held m o) o ≡ o))
    by true = inl (refl, refl)
    by false = inr (refl, refl)

-- an opening after a lock was had, and what it was
abbrev pub Was : ℕ → Handle → Mode → List Opening → Opening → Type 0
Was p h m os a = (o : Opening) ×
    (In o os × (((is_handle p h o ≡ true) × (a ≡ held m o)) ⊎ ((is_handle p h o ≡ false) × (a ≡ o))))

pub locked_in : (p : ℕ) (h : Handle) (m : Mode) (os : List Opening) (a : Opening) → In a (map (locked p h m) os) →
    Was p h m os a
locked_in p h m os a i = let e = in_map (locked p h m) os a i in (e.0, (e.1.0, by e.0 e.1.1 (locked_is p h m e.0)))
  where
    by : (o : Opening) → a ≡ locked p h m o → ((is_handle p h o ≡ true) × (locked p h m o ≡ held m o)) ⊎
        ((is_handle p h o ≡ false) × (locked p h m o ≡ o)) → ((is_handle p h o ≡ true) × (a ≡ held m o)) ⊎
        ((is_handle p h o ≡ false) × (a ≡ o))
    by o e (inl k) = inl (k.0, e ∙ k.1)
    by o e (inr k) = inr (k.0, e ∙ k.1)

-- nobody else holds the lock that this handle stands for, in a mode that conflicts
abbrev pub Unopposed : Namespace → ℕ → Handle → Mode → Type 0
Unopposed n p h m = (a b : Opening) → In a n.openings → In b n.openings → is_handle p h a ≡ true →
    is_handle p h b ≡ false → is_same_lock a b ≡ true → opposes m b.lock ≡ false

pub unopposed : (n : Namespace) (p : ℕ) (h : Handle) (m : Mode) → Sound n → is_locked n p h m ≡ false → Unopposed n p h m
unopposed n p h m s free a b i j mine other same =
    let here = in_find (is_handle p h) a n.openings i mine in
    let found = find_in (is_handle p h) here.0 n.openings here.1 in
    let is : here.0 ≡ a = s.unique here.0 a found.0 i (handle_meet p h here.0 a found.1 mine) in
    by (opposes m b.lock) refl here.0 is here.1
  where
    by : (o : Bool) → opposes m b.lock ≡ o → (x : Opening) → x ≡ a → find (is_handle p h) n.openings ≡ Some x → o ≡ false
    by false e x is f = refl
    by true e x is f = clash (is_locked n p h m) (ap (is_opposed n p h m) f
        ∙ in_any (λ o. not (is_handle p h o) && (is_same_lock x o && opposes m o.lock)) b n.openings j
        (and_both (not (is_handle p h b)) (is_same_lock x b && opposes m b.lock) (ap not other)
        (and_both (is_same_lock x b) (opposes m b.lock) (ap (λ z. is_same_lock z b) is ∙ same) e))) free

pub opposed_by_exclusive : (m : Mode) (l : Option Mode) → is_exclusive l ≡ true → opposes m l ≡ true
opposed_by_exclusive Shared (Some Exclusive) h = refl
opposed_by_exclusive Exclusive (Some Exclusive) h = refl
opposed_by_exclusive Shared (Some Shared) h = cc
opposed_by_exclusive Exclusive (Some Shared) h = cc
opposed_by_exclusive m None h = cc

pub exclusive_opposed : (m : Mode) (l : Option Mode) → is_exclusive (Some m) ≡ true → is_some l ≡ true → opposes m l ≡ true
exclusive_opposed Exclusive (Some x) h k = refl
exclusive_opposed Shared (Some x) h k = cc
exclusive_opposed m None h k = cc

pub lock_sound : (n : Namespace) (p : ℕ) (h : Handle) (m : Mode) → Sound n → is_locked n p h m ≡ false →
    Sound (record n { openings = map (locked p h m) n.openings })
lock_sound n p h m s free = record {
  unique = λ a b i j e. one a b (locked_in p h m n.openings a i) (locked_in p h m n.openings b j) e;
  alone = λ a b i j e x y. two a b (locked_in p h m n.openings a i) (locked_in p h m n.openings b j) e x y;
  living = λ a i. three a (locked_in p h m n.openings a i);
  bounded = λ a i f e. four a (locked_in p h m n.openings a i) f e;
}
  where
    never : Unopposed n p h m
    never = unopposed n p h m s free

    one : (a b : Opening) → Was p h m n.openings a → Was p h m n.openings b → is_handle a.process a.handle b ≡ true → a ≡ b
    one a b (o, (i, (inl k))) (q, (j, (inl l))) e =
        k.1 ∙ (ap (held m) (s.unique o q i j (handle_meet p h o q k.0 l.0)) ∙ sym l.1)
    one a b (o, (i, (inr k))) (q, (j, (inr l))) e =
        k.1 ∙ (s.unique o q i j (subst (λ (z : Opening). is_handle o.process o.handle z ≡ true) l.1
        (subst (λ (z : Opening). is_handle z.process z.handle b ≡ true) k.1 e)) ∙ sym l.1)
    one a b (o, (i, (inl k))) (q, (j, (inr l))) e =
        let same : o ≡ q = s.unique o q i j (subst (λ (z : Opening). is_handle o.process o.handle z ≡ true) l.1
        (subst (λ (z : Opening). is_handle z.process z.handle b ≡ true) k.1 e)) in
        clash (is_handle p h q) (subst (λ (z : Opening). is_handle p h z ≡ true) same k.0) l.0
    one a b (o, (i, (inr k))) (q, (j, (inl l))) e =
        let same : o ≡ q = s.unique o q i j (subst (λ (z : Opening). is_handle o.process o.handle z ≡ true) l.1
        (subst (λ (z : Opening). is_handle z.process z.handle b ≡ true) k.1 e)) in
        clash (is_handle p h q) l.0 (subst (λ (z : Opening). is_handle p h z ≡ false) same k.0)

    two : (a b : Opening) → Was p h m n.openings a → Was p h m n.openings b → is_same_lock a b ≡ true →
        is_exclusive a.lock ≡ true → is_some b.lock ≡ true → a ≡ b
    two a b (o, (i, (inl k))) (q, (j, (inl l))) e x y =
        k.1 ∙ (ap (held m) (s.unique o q i j (handle_meet p h o q k.0 l.0)) ∙ sym l.1)
    two a b (o, (i, (inr k))) (q, (j, (inr l))) e x y =
        k.1 ∙ (s.alone o q i j (subst (λ (z : Opening). is_same_lock o z ≡ true) l.1
        (subst (λ (z : Opening). is_same_lock z b ≡ true) k.1 e))
        (subst (λ (z : Opening). is_exclusive z.lock ≡ true) k.1 x)
        (subst (λ (z : Opening). is_some z.lock ≡ true) l.1 y) ∙ sym l.1)
    two a b (o, (i, (inl k))) (q, (j, (inr l))) e x y =
        clash (opposes m q.lock) (exclusive_opposed m q.lock (subst (λ (z : Opening). is_exclusive z.lock ≡ true) k.1 x)
        (subst (λ (z : Opening). is_some z.lock ≡ true) l.1 y))
        (never o q i j k.0 l.0 (subst (λ (z : Opening). is_same_lock o z ≡ true) l.1
        (subst (λ (z : Opening). is_same_lock z b ≡ true) k.1 e)))
    two a b (o, (i, (inr k))) (q, (j, (inl l))) e x y =
        clash (opposes m o.lock) (opposed_by_exclusive m o.lock
        (subst (λ (z : Opening). is_exclusive z.lock ≡ true) k.1 x))
        (never q o j i l.0 k.0 (lock_turn o q (subst (λ (z : Opening). is_same_lock o z ≡ true) l.1
        (subst (λ (z : Opening). is_same_lock z b ≡ true) k.1 e))))

    three : (a : Opening) → Was p h m n.openings a → lives n a.process ≡ true
    three a (o, (i, (inl k))) = ap (λ (z : Opening). lives n z.process) k.1 ∙ s.living o i
    three a (o, (i, (inr k))) = ap (λ (z : Opening). lives n z.process) k.1 ∙ s.living o i

    four : (a : Opening) → Was p h m n.openings a → (f : ℕ) → a.folder ≡ Some f → f < length n.folders
    four a (o, (i, (inl k))) f e = s.bounded o i f (ap (λ (z : Opening). z.folder) (sym k.1) ∙ e)
    four a (o, (i, (inr k))) f e = s.bounded o i f (ap (λ (z : Opening). z.folder) (sym k.1) ∙ e)

-- what an Ok answer rests on, where the request names no path in a folder
pub none_refused : (s : DirState) (p : ℕ) (request : Request) → is_apps_request s request ≡ false →
    is_reply s p request Done ≡ true → is_some (refusal s p request) ≡ false
none_refused s p request plain h =
    not_true (is_some (refusal s p request)) (and_parts (not (is_some (refusal s p request))) (asks_for_nothing request)
    (sym (ap (λ b. cond b (asks_for_nothing request) (not (is_some (refusal s p request)) && asks_for_nothing request))
    plain) ∙ h)).0

pub refused_if : {X : Type 0} (b : Bool) (x : X) → is_some (cond b (Some x) None) ≡ false → b ≡ false
refused_if true x h = cc
refused_if false x h = refl

pub refused_unless : {X : Type 0} (b : Bool) (x : X) → is_some (cond b None (Some x)) ≡ false → b ≡ true
refused_unless true x h = refl
refused_unless false x h = cc

pub lock_free : (s : DirState) (p : ℕ) (h : Handle) (m : Mode) → is_reply s p (TryLock h m) Done ≡ true →
    is_locked s.namespace p h m ≡ false
lock_free s p h m r = refused_if (is_locked s.namespace p h m) _ (none_refused s p (TryLock h m) refl r)

pub open_fresh : (s : DirState) (p : ℕ) (spot : Spot) (which : Which) (h : Handle) →
    is_reply s p (Open spot which) (Opened h) ≡ true → has_open s.namespace p h ≡ false
open_fresh s p spot which h r =
    not_true (has_open s.namespace p h) (and_parts (not (is_some (refusal s p (Open spot which))))
    (not (has_open s.namespace p h)) r).1

pub gate_fresh : (s : DirState) (p : ℕ) (area : Area) (h : Handle) → is_reply s p (OpenArea area) (Opened h) ≡ true →
    has_open s.namespace p h ≡ false
gate_fresh s p area h r = not_true (has_open s.namespace p h) r

-- a folder stood where a lock was opened
pub open_stands : (s : DirState) (p : ℕ) (spot : Spot) (which : Which) (h : Handle) →
    is_reply s p (Open spot which) (Opened h) ≡ true → stands s.namespace spot ≡ true
open_stands s p spot which h r =
    by (folder_at s.namespace spot) (and_parts (not (is_some (refusal s p (Open spot which))))
    (not (has_open s.namespace p h)) r).0
  where
    by : (o : Option ℕ) → not (is_some (refused_in (open_refusal which) s.entries o)) ≡ true → is_some o ≡ true
    by (Some k) h = refl
    by None h = cc

-- who takes the step lives, or begins
abbrev pub is_due : Namespace → ℕ → Request → Bool
is_due n p request = cond (is_begin request) (not (has_begun n p)) (lives n p)
