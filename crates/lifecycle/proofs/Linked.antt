-- What a process has open by its own answers is what it has open.
use Rattle.std.proofs.Common.{arith, ◌≡◌, ◌⊎◌, inl, inr, ℕ, Bool, true, false, not, ◌&&◌, ◌==◌, cond, Option, Some, List, [], ◌∷◌, ◌++◌, map, filter, refl, sym, ap, subst, ◌∙◌}
use Rattle.std.proofs.lemmas.Bool.Decides.{nat_tests}
use Rattle.plain_laws.proofs.Booleans.{clash}
use Rattle.plain_laws.proofs.Lists.{map_both}
use Rattle.dir_model.specs.declared.spot.Handle.{Handle}
use Rattle.dir_model.specs.declared.spot.Mode.{Mode}
use Rattle.dir_model.specs.declared.spot.Mode.TheVariants.{Shared, Exclusive}
use Rattle.dir_model.specs.declared.opening.Opening.{Opening}
use Rattle.dir_model.specs.declared.opening.Target.{Target}
use Rattle.dir_model.specs.declared.request.Request.{Request}
use Rattle.dir_model.specs.declared.request.Request.TheVariants.{MakeFolder, MoveFolder, Open, OpenArea, TryLock, Close, Finish, Kill}
use Rattle.dir_model.specs.declared.request.Reply.{Reply}
use Rattle.dir_model.specs.declared.request.Reply.TheVariants.{Done, Opened, Refused}
use Rattle.dir_model.specs.Locks.{is_handle}
use Rattle.dir_model.specs.State.{Namespace}
use Rattle.dir_model.specs.Trace.{namespace_replied, locked, opened, opened_gate}
use Rattle.dir_rules.specs.Standing.{find_held, held_with_mode, is_handle_held, uncovered_by_close, standing_replied, uncover}
use Rattle.dir_model.specs.Areas.{is_stage}
use Rattle.dir_rules.specs.declared.standing.Held.{Held}
use Rattle.dir_rules.specs.declared.standing.Standing.{Standing}
use Rattle.dir_rules.proofs.Standings.{looked_holdings}
use Rattle.lifecycle.proofs.Lists.{In, in_map, map_in}
use Rattle.dir_model.proofs.Lists.{same_self, same_number}

-- the part of an open handle that both know
pub record Bare : Type 0 where
  pub handle : Handle
  pub target : Target
  pub lock : Option Mode

abbrev pub bare : Held → Bare
bare h = record { handle = h.handle; target = h.target; lock = h.lock }

abbrev pub own : Opening → Bare
own o = record { handle = o.handle; target = o.target; lock = o.lock }

-- the newest first
abbrev pub own_of : ℕ → Opening → List Bare
own_of p o = cond (o.process == p) (own o ∷ []) []

abbrev pub mine : ℕ → List Opening → List Bare
mine p [] = []
mine p (o ∷ os) = mine p os ++ own_of p o

abbrev pub Linked : ℕ → Namespace → Standing → Type 0
Linked p n s = map bare s.holdings ≡ mine p n.openings

abbrev tie : Handle → Mode → Bare → Bare
tie h m b = cond (b.handle.number == h.number) (record { handle = b.handle; target = b.target; lock = Some m }) b

push_own : (p : ℕ) (os : List Opening) (o : Opening) → (o.process == p) ≡ true → mine p (os ++ o ∷ []) ≡ own o ∷ mine p os
push_own p [] o is = rw is refl
push_own p (x ∷ os) o is = ap (λ (l : List Bare). l ++ own_of p x) (push_own p os o is)

push_other : (p : ℕ) (os : List Opening) (o : Opening) → (o.process == p) ≡ false → mine p (os ++ o ∷ []) ≡ mine p os
push_other p [] o is = rw is refl
push_other p (x ∷ os) o is = ap (λ (l : List Bare). l ++ own_of p x) (push_other p os o is)

apart : {X : Type 0} (a p q : ℕ) → (q == p) ≡ false → (a == p) ≡ true → (a == q) ≡ true → X
apart a p q x y z = absurd (grind (arith, nat_tests))

filter_both : {X : Type 0} (t : X → Bool) (xs ys : List X) → filter t (xs ++ ys) ≡ filter t xs ++ filter t ys
filter_both t [] ys = refl
filter_both t (x ∷ xs) ys = by (t x) (filter_both t xs ys)
  where
    by : (b : Bool) → filter t (xs ++ ys) ≡ filter t xs ++ filter t ys →
        cond b (x ∷ filter t (xs ++ ys)) (filter t (xs ++ ys)) ≡ cond b (x ∷ filter t xs) (filter t xs) ++ filter t ys
    by true go = ap (λ l. x ∷ l) go
    by false go = go

nil_right : {X : Type 0} (xs : List X) → xs ≡ xs ++ []
nil_right [] = refl
nil_right (x ∷ xs) = ap (λ l. x ∷ l) (nil_right xs)

lock_other : (p q : ℕ) (h : Handle) (m : Mode) (os : List Opening) → (q == p) ≡ false →
    mine p (map (locked q h m) os) ≡ mine p os
lock_other p q h m [] off = refl
lock_other p q h m (x ∷ os) off =
    ap (λ (l : List Bare). l ++ own_of p (locked q h m x)) (lock_other p q h m os off)
    ∙ ap (λ (l : List Bare). mine p os ++ l) (by (x.process == q) (x.handle.number == h.number) (x.process == p) refl
    refl)
  where
    by : (b c d : Bool) → (x.process == q) ≡ b → (x.process == p) ≡ d →
        own_of p (cond (b && c) (record {
          process = x.process;
          handle = x.handle;
          target = x.target;
          folder =
              x.folder;
          lock = Some m;
        }) x) ≡ own_of p x
    by true true true e f = apart x.process p q off f e
    by true true false e f = rw f refl
    by true false d e f = refl
    by false c d e f = refl

lock_own : (p : ℕ) (h : Handle) (m : Mode) (os : List Opening) → mine p (map (locked p h m) os) ≡ map (tie h m) (mine p os)
lock_own p h m [] = refl
lock_own p h m (x ∷ os) = ap (λ (l : List Bare). l ++ own_of p (locked p h m x)) (lock_own p h m os)
    ∙ (ap (λ (l : List Bare). map (tie h m) (mine p os) ++ l)
    (by (x.process == p) (x.handle.number == h.number) refl refl) ∙ sym (map_both (tie h m) (mine p os) (own_of p x)))
  where
    by : (b c : Bool) → (x.process == p) ≡ b → (x.handle.number == h.number) ≡ c →
        own_of p (cond (b && c) (record {
          process = x.process;
          handle = x.handle;
          target = x.target;
          folder =
              x.folder;
          lock = Some m;
        }) x) ≡ map (tie h m) (own_of p x)
    by true true e f = rw (e, f) refl
    by true false e f = rw (e, f) refl
    by false c e f = rw e refl

close_other : (p q : ℕ) (t : Opening → Bool) (os : List Opening) →
    ((o : Opening) → (o.process == p) ≡ true → t o ≡ true) → mine p (filter t os) ≡ mine p os
close_other p q t [] keeps = refl
close_other p q t (x ∷ os) keeps = by (t x) (x.process == p) refl refl (close_other p q t os keeps)
  where
    by : (b d : Bool) → t x ≡ b → (x.process == p) ≡ d → mine p (filter t os) ≡ mine p os →
        mine p (cond b (x ∷ filter t os) (filter t os)) ≡ mine p os ++ cond d (own x ∷ []) []
    by true true e f go = rw f (ap (λ (l : List Bare). l ++ own x ∷ []) go)
    by true false e f go = rw f (ap (λ (l : List Bare). l ++ []) go)
    by false true e f go = clash (t x) (keeps x f) e
    by false false e f go = go ∙ nil_right (mine p os)

close_own : (p : ℕ) (h : Handle) (os : List Opening) → mine p (filter (λ o. not (is_handle p h o)) os) ≡ filter
    (λ b. not (b.handle.number == h.number)) (mine p os)
close_own p h [] = refl
close_own p h (x ∷ os) = by (x.process == p) (x.handle.number == h.number) refl refl (close_own p h os)
    ∙ sym (filter_both (λ b. not (b.handle.number == h.number)) (mine p os) (own_of p x))
  where
    by : (b c : Bool) → (x.process == p) ≡ b → (x.handle.number == h.number) ≡ c →
        mine p (filter (λ o. not (is_handle p h o)) os) ≡ filter (λ b. not (b.handle.number == h.number)) (mine p os) →
        mine p (cond (not (b && c)) (x ∷ filter (λ o. not (is_handle p h o)) os)
        (filter (λ o. not (is_handle p h o)) os)) ≡ filter (λ b. not (b.handle.number == h.number)) (mine p os) ++
        filter (λ b. not (b.handle.number == h.number)) (cond b (own x ∷ []) [])
    by true true e f go = rw f (go ∙ nil_right (filter (λ b. not (b.handle.number == h.number)) (mine p os)))
    by true false e f go = rw (e, f) (ap (λ (l : List Bare). l ++ own x ∷ []) go)
    by false c e f go = rw e (ap (λ (l : List Bare). l ++ []) go)

bare_map : (f : Held → Held) (hs : List Held) → ((h : Held) → bare (f h) ≡ bare h) → map bare (map f hs) ≡ map bare hs
bare_map f [] same = refl
bare_map f (x ∷ hs) same = rw (same x, bare_map f hs same) refl

bare_held : (h : Handle) (m : Mode) (hs : List Held) → map bare (map (held_with_mode h m) hs) ≡ map (tie h m) (map bare hs)
bare_held h m [] = refl
bare_held h m (x ∷ hs) = by (x.handle.number == h.number) (bare_held h m hs)
  where
    by : (b : Bool) → map bare (map (held_with_mode h m) hs) ≡ map (tie h m) (map bare hs) →
        bare (cond b (record { handle = x.handle; target = x.target; lock = Some m; covered = x.covered }) x) ∷ map bare
        (map (held_with_mode h m) hs) ≡ cond b (record { handle = x.handle; target = x.target; lock = Some m }) (bare x) ∷ map
        (tie h m) (map bare hs)
    by true go = ap (λ (l : List Bare). record { handle = x.handle; target = x.target; lock = Some m } ∷ l) go
    by false go = ap (λ (l : List Bare). bare x ∷ l) go

bare_filter : (h : Handle) (hs : List Held) → map bare (filter (λ g. not (is_handle_held h g)) hs) ≡ filter
    (λ b. not (b.handle.number == h.number)) (map bare hs)
bare_filter h [] = refl
bare_filter h (x ∷ hs) = by (x.handle.number == h.number) (bare_filter h hs)
  where
    by : (b : Bool) → map bare (filter (λ g. not (is_handle_held h g)) hs) ≡ filter (λ b. not (b.handle.number == h.number))
        (map bare hs) → map bare (cond (not b) (x ∷ filter (λ g. not (is_handle_held h g)) hs)
        (filter (λ g. not (is_handle_held h g)) hs)) ≡ cond (not b) (bare x ∷ filter (λ b. not (b.handle.number == h.number))
        (map bare hs)) (filter (λ b. not (b.handle.number == h.number)) (map bare hs))
    by true go = go
    by false go = ap (λ (l : List Bare). bare x ∷ l) go

-- another process's event
pub linked_other : (q p : ℕ) (n : Namespace) (request : Request) (reply : Reply) → (p == q) ≡ false →
    mine q (namespace_replied n p request reply).openings ≡ mine q n.openings
linked_other q p n request (Refused error left) off = refl
linked_other q p n (Open spot which) (Opened h) off = push_other q n.openings (opened n p h spot which) off
linked_other q p n (OpenArea area) (Opened h) off = push_other q n.openings (opened_gate p h area) off
linked_other q p n _ (Opened h) off = refl
linked_other q p n (TryLock h m) Done off = lock_other q p h m n.openings off
linked_other q p n (Close h) Done off =
    close_other q p (λ o. not (is_handle p h o)) n.openings
    (λ o is. by (o.process == p) (o.handle.number == h.number) (λ e. apart o.process q p off is e))
  where
    by : (b c : Bool) → (b ≡ true → not (b && c) ≡ true) → not (b && c) ≡ true
    by true c f = f refl
    by false c f = refl
linked_other q p n Finish Done off =
    close_other q p (λ o. not (o.process == p)) n.openings (λ o is. by (o.process == p)
    (λ e. apart o.process q p off is e))
  where
    by : (b : Bool) → (b ≡ true → not b ≡ true) → not b ≡ true
    by true f = f refl
    by false f = refl
linked_other q p n Kill Done off =
    close_other q p (λ o. not (o.process == p)) n.openings (λ o is. by (o.process == p)
    (λ e. apart o.process q p off is e))
  where
    by : (b : Bool) → (b ≡ true → not b ≡ true) → not b ≡ true
    by true f = f refl
    by false f = refl
linked_other q p n _ Done off = refl
linked_other q p n request reply off = refl

made_holdings : (b : Bool) (s t : Standing) → t.holdings ≡ s.holdings → (cond b t s).holdings ≡ s.holdings
made_holdings true s t h = h
made_holdings false s t h = refl

abbrev pub is_end : Request → Bool
is_end Finish = true
is_end Kill = true
is_end _ = false

-- its own
pub linked_own : (p : ℕ) (n : Namespace) (s : Standing) (request : Request) (reply : Reply) → is_end request ≡ false →
    Linked p n s → Linked p (namespace_replied n p request reply) (standing_replied s request reply)
linked_own p n s request (Refused error left) on l = l
linked_own p n s (Open spot which) (Opened h) on l =
    ap (λ (x : List Bare). own (opened n p h spot which) ∷ x) l
    ∙ sym (push_own p n.openings (opened n p h spot which) (same_self p))
linked_own p n s (OpenArea area) (Opened h) on l =
    ap (λ (x : List Bare). own (opened_gate p h area) ∷ x) l
    ∙ sym (push_own p n.openings (opened_gate p h area) (same_self p))
linked_own p n s _ (Opened h) on l = l
linked_own p n s (MakeFolder spot) Done on l = ap (map bare) (made_holdings (is_stage spot.area) s _ refl) ∙ l
linked_own p n s (MoveFolder from to) Done on l = bare_map (uncover from) s.holdings (λ h. refl) ∙ l
linked_own p n s (TryLock h Shared) Done on l =
    ap (map bare) (looked_holdings (find_held h s) _) ∙ (bare_held h Shared s.holdings
    ∙ (ap (map (tie h Shared)) l ∙ sym (lock_own p h Shared n.openings)))
linked_own p n s (TryLock h Exclusive) Done on l =
    bare_held h Exclusive s.holdings ∙ (ap (map (tie h Exclusive)) l ∙ sym (lock_own p h Exclusive n.openings))
linked_own p n s (Close h) Done on l =
    bare_map (uncovered_by_close h s.holdings) (filter (λ g. not (is_handle_held h g)) s.holdings) (λ g. refl)
    ∙ (bare_filter h s.holdings ∙ (ap (filter (λ b. not (b.handle.number == h.number))) l
    ∙ sym (close_own p h n.openings)))
linked_own p n s Finish Done on l = cc
linked_own p n s Kill Done on l = cc
linked_own p n s _ Done on l = l
linked_own p n s request reply on l = l

-- the two lists of openings
pub in_both : {X : Type 0} (x : X) (xs ys : List X) → In x (xs ++ ys) → In x xs ⊎ In x ys
in_both x [] ys i = inr i
in_both x (z ∷ zs) ys (inl is) = inl (inl is)
in_both x (z ∷ zs) ys (inr later) = by (in_both x zs ys later)
  where
    by : In x zs ⊎ In x ys → ((x ≡ z) ⊎ In x zs) ⊎ In x ys
    by (inl i) = inl (inr i)
    by (inr i) = inr i

in_first : {X : Type 0} (x : X) (xs ys : List X) → In x xs → In x (xs ++ ys)
in_first x [] ys i = absurd i
in_first x (z ∷ zs) ys (inl is) = inl is
in_first x (z ∷ zs) ys (inr later) = inr (in_first x zs ys later)

pub in_second : {X : Type 0} (x : X) (xs ys : List X) → In x ys → In x (xs ++ ys)
in_second x [] ys i = i
in_second x (z ∷ zs) ys i = inr (in_second x zs ys i)

mine_in : (p : ℕ) (os : List Opening) (b : Bare) → In b (mine p os) →
    (o : Opening) × (In o os × ((o.process ≡ p) × (b ≡ own o)))
mine_in p [] b i = absurd i
mine_in p (x ∷ os) b i = by (in_both b (mine p os) (own_of p x) i) (λ j. mine_in p os b j)
  where
    last : (c : Bool) → (x.process == p) ≡ c → In b (cond c (own x ∷ []) []) →
        (o : Opening) × (In o (x ∷ os) × ((o.process ≡ p) × (b ≡ own o)))
    last true e (inl is) = (x, (inl refl, (same_number x.process p e, is)))
    last true e (inr never) = absurd never
    last false e never = absurd never

    by : In b (mine p os) ⊎ In b (own_of p x) → (In b (mine p os) →
        (o : Opening) × (In o os × ((o.process ≡ p) × (b ≡ own o)))) →
        (o : Opening) × (In o (x ∷ os) × ((o.process ≡ p) × (b ≡ own o)))
    by (inl j) go = let e = go j in (e.0, (inr e.1.0, e.1.1))
    by (inr j) go = last (x.process == p) refl j

in_mine : (p : ℕ) (os : List Opening) (o : Opening) → In o os → o.process ≡ p → In (own o) (mine p os)
in_mine p [] o i is = absurd i
in_mine p (x ∷ os) o (inl e) is =
    in_second (own o) (mine p os) (own_of p x)
    (by (x.process == p) (ap (λ (z : Opening). z.process == p) (sym e) ∙ (ap (λ q. q == p) is ∙ same_self p)))
  where
    by : (c : Bool) → c ≡ true → In (own o) (cond c (own x ∷ []) [])
    by true h = inl (ap own e)
    by false h = cc
in_mine p (x ∷ os) o (inr j) is = in_first (own o) (mine p os) (own_of p x) (in_mine p os o j is)

-- what it knows to be open is open, and the other way round
pub held_open : (p : ℕ) (n : Namespace) (s : Standing) (h : Held) → Linked p n s → In h s.holdings →
    (o : Opening) × (In o n.openings × ((o.process ≡ p) × (bare h ≡ own o)))
held_open p n s h l i = mine_in p n.openings (bare h) (subst (λ (x : List Bare). In (bare h) x) l (map_in bare h s.holdings i))

pub open_held : (p : ℕ) (n : Namespace) (s : Standing) (o : Opening) → Linked p n s → In o n.openings → o.process ≡ p →
    (h : Held) × (In h s.holdings × (bare h ≡ own o))
open_held p n s o l i is =
    let e = in_map bare s.holdings (own o) (subst (λ (x : List Bare). In (own o) x) (sym l)
    (in_mine p n.openings o i is)) in
    (e.0, (e.1.0, sym e.1.1))
