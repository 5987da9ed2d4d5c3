-- Under the lock that a removal needs, a folder that stood there stands there still, and is found, until its holder removes it.
use Rattle.std.proofs.Common.{◌≡◌, ◌⊎◌, inl, inr, ℕ, Bool, true, false, not, ◌&&◌, ◌||◌, ◌==◌, cond, bytes_eq, Option, Some, None, List, [], ◌∷◌, ◌++◌, map, filter, append-nil, append_assoc, refl, sym, ap, subst, ◌∙◌}
use Rattle.std.specs.List.{list_any, AllByRecursion}
use Rattle.std.proofs.lemmas.Bool.{and_parts}
use Rattle.plain_laws.proofs.Lists.{any_filtered}
use Rattle.plain_laws.proofs.Booleans.{clash}
use Rattle.plain_laws.proofs.Texts.{same_text}
use Rattle.dir_model.specs.declared.event.Event.{Event}
use Rattle.dir_model.specs.declared.item.Inner.{Inner}
use Rattle.dir_model.specs.declared.spot.Handle.{Handle}
use Rattle.dir_model.specs.declared.spot.Mode.TheVariants.{Shared}
use Rattle.dir_model.specs.declared.spot.Spot.{Spot}
use Rattle.dir_model.specs.declared.tree.Listed.{Listed}
use Rattle.dir_model.specs.declared.tree.Listed.TheVariants as listed
use Rattle.dir_model.specs.declared.tree.OpenListing.{OpenListing}
use Rattle.dir_model.specs.declared.request.DirError.TheVariants.{Missing}
use Rattle.dir_model.specs.declared.request.Request.{Request}
use Rattle.dir_model.specs.declared.request.Request.TheVariants.{Begin, Open, TryLock, Close, ListArea, ListIn, RemoveFileIn, RemoveDirIn, RemoveFolder, Kill}
use Rattle.dir_model.specs.declared.request.Reply.{Reply}
use Rattle.dir_model.specs.declared.request.Reply.TheVariants.{Done, Begun, Opened, Refused}
use Rattle.dir_model.specs.Calls.{is_begin, is_kill, is_foreign}
use Rattle.dir_model.specs.Listings.{is_listing_of, is_inner, listing_noted, noted_by, noted_all, begun_at, listing_begun, listing_of, shows_missing}
use Rattle.dir_model.specs.Replies.{is_reply, is_any_reply, is_own_at}
use Rattle.dir_model.specs.State.{Namespace, DirState, lives, folder_at, spot_eq, empty_state}
use Rattle.dir_model.specs.Trees.{has_dir, items_in}
use Rattle.dir_model.specs.Trace.{namespace_replied, state_next, states_next, state_after}
use Rattle.dir_model.proofs.Chains.{states_next-append, state_after-push}
use Rattle.dir_model.proofs.Lists.{and_left, and_right, same_self, same_number}
use Rattle.dir_rules.specs.declared.seen.Seen.{Seen}
use Rattle.dir_rules.specs.declared.standing.Held.{Held}
use Rattle.dir_rules.specs.declared.standing.Standing.{Standing}
use Rattle.dir_rules.specs.Conforms.{seen_of, seen_after, seen_replied, seen_after_event, nothing_seen}
use Rattle.dir_rules.specs.LockRules.{lock_rules_allow, may_remove, is_removal_held}
use Rattle.dir_rules.specs.Rules.{allows, content_rules_allow, root_of}
use Rattle.dir_rules.specs.Standing.{standing_replied, looked_by, find_held, held_with_mode, is_handle_held, uncovered_by_close}
use Rattle.dir_rules.proofs.Tied.{seen_after-append, lived_before}
use Rattle.lifecycle.specs.Executions.{IsConforming}
use Rattle.lifecycle.proofs.Closes.{any_mapped}
use Rattle.lifecycle.proofs.Lists.{In, any_in, in_any, in_map, find_in}
use Rattle.folder_contents.specs.UnderGate.{is_taken_from}
use Rattle.folder_contents.proofs.Along.{happens}
use Rattle.lifecycle.proofs.Draws.{conforming_left}
use Rattle.folder_contents.proofs.Places.{untaken, stands_there}
use Rattle.folder_contents.proofs.Spots.{one_location}
use Rattle.impossible_replies.proofs.Alongside.{Steps}
use Rattle.impossible_replies.proofs.AppRoots.{root_unowned}
use Rattle.impossible_replies.proofs.MakersReplies.{each_step}
use Rattle.impossible_replies.proofs.Removals.{missing_by, missing_so}
use Rattle.impossible_replies.proofs.Removers.{is_removing, one_remover, removes_at, stands_on}
use Rattle.impossible_replies.proofs.Told.{listing_from}

-- it opens a lock, asks for one shared, gives one up, lists, or removes what isn't a whole folder
abbrev pub leaves_folders : Request → Reply → Bool
leaves_folders (Open spot which) reply = true
leaves_folders (TryLock handle Shared) reply = true
leaves_folders (Close handle) reply = true
leaves_folders (ListIn inner) reply = true
leaves_folders (RemoveFileIn inner) reply = true
leaves_folders (RemoveDirIn inner) reply = true
leaves_folders (RemoveFolder spot) Done = false
leaves_folders (RemoveFolder spot) reply = true
leaves_folders request reply = false

any_before : {X : Type 0} (t : X → Bool) (f : X → X) (xs : List X) → ((x : X) → t (f x) ≡ true → t x ≡ true) → list_any t (map f xs) ≡ true → list_any t xs ≡ true
any_before t f xs was h =
    let y = any_in t (map f xs) h in
    let x = in_map f xs y.0 y.1.0 in
    in_any t x.0 xs x.1.0 (was x.0 (subst (λ z. t z ≡ true) x.1.1 y.1.1))

exclusive_before : (spot : Spot) (handle : Handle) (x : Held) → is_removal_held spot (held_with_mode handle Shared x) ≡ true → is_removal_held spot x ≡ true
exclusive_before spot handle x h = by (is_handle_held handle x) h
  where
    by : (b : Bool) → is_removal_held spot (cond b (record x { lock = Some Shared }) x) ≡ true → is_removal_held spot x ≡ true
    by true h = cc
    by false h = h

looked_same : (spot : Spot) (o : Option Held) (k : Standing) → may_remove (looked_by o k) spot ≡ may_remove k spot
looked_same spot None k = refl
looked_same spot (Some h) k = refl

-- a lock that is held after such a step was held before it
lock_was : (spot : Spot) (k : Standing) (request : Request) (reply : Reply) → leaves_folders request reply ≡ true → may_remove (standing_replied k request reply) spot ≡ true → may_remove k spot ≡ true
lock_was spot k (Open at which) (Opened handle) on had = had
lock_was spot k (Close handle) Done on had =
    any_filtered (is_removal_held spot) (λ y. not (is_handle_held handle y)) k.holdings
    (sym (any_mapped (is_removal_held spot) (uncovered_by_close handle k.holdings) (filter (λ y. not (is_handle_held handle y)) k.holdings) (λ y. refl)) ∙ had)
lock_was spot k (TryLock handle Shared) Done on had =
    any_before (is_removal_held spot) (held_with_mode handle Shared) k.holdings (exclusive_before spot handle)
    (sym (looked_same spot (find_held handle k) (record k { holdings = map (held_with_mode handle Shared) k.holdings })) ∙ had)
lock_was spot k (Open at which) Done on had = had
lock_was spot k (ListIn inner) Done on had = had
lock_was spot k (RemoveFileIn i) Done on had = had
lock_was spot k (RemoveDirIn i) Done on had = had
lock_was spot k (TryLock handle Shared) (Opened other) on had = had
lock_was spot k (Close handle) (Opened other) on had = had
lock_was spot k (ListIn inner) (Opened handle) on had = had
lock_was spot k (RemoveFileIn i) (Opened handle) on had = had
lock_was spot k (RemoveDirIn i) (Opened handle) on had = had
lock_was spot k request (Refused e left) on had = had
lock_was spot k (Open at which) reply on had = had
lock_was spot k (TryLock handle Shared) reply on had = had
lock_was spot k (Close handle) reply on had = had
lock_was spot k (ListIn inner) reply on had = had
lock_was spot k (RemoveFileIn i) reply on had = had
lock_was spot k (RemoveDirIn i) reply on had = had
lock_was spot k (RemoveFolder gone) Done on had = cc
lock_was spot k (RemoveFolder gone) (Opened handle) on had = had
lock_was spot k (RemoveFolder gone) reply on had = had
lock_was spot k request reply on had = cc

-- and who lives after it lived before
life_was : (p : ℕ) (n : Namespace) (q : ℕ) (request : Request) (reply : Reply) → leaves_folders request reply ≡ true → lives (namespace_replied n q request reply) p ≡ true → lives n p ≡ true
life_was p n q (Open at which) (Opened handle) on now = now
life_was p n q (Close handle) Done on now = now
life_was p n q (TryLock handle Shared) Done on now = now
life_was p n q (Open at which) Done on now = now
life_was p n q (ListIn inner) Done on now = now
life_was p n q (RemoveFileIn i) Done on now = now
life_was p n q (RemoveDirIn i) Done on now = now
life_was p n q (TryLock handle Shared) (Opened other) on now = now
life_was p n q (Close handle) (Opened other) on now = now
life_was p n q (ListIn inner) (Opened handle) on now = now
life_was p n q (RemoveFileIn i) (Opened handle) on now = now
life_was p n q (RemoveDirIn i) (Opened handle) on now = now
life_was p n q request (Refused e left) on now = now
life_was p n q (Open at which) reply on now = now
life_was p n q (TryLock handle Shared) reply on now = now
life_was p n q (Close handle) reply on now = now
life_was p n q (ListIn inner) reply on now = now
life_was p n q (RemoveFileIn i) reply on now = now
life_was p n q (RemoveDirIn i) reply on now = now
life_was p n q (RemoveFolder gone) Done on now = cc
life_was p n q (RemoveFolder gone) (Opened handle) on now = now
life_was p n q (RemoveFolder gone) reply on now = now
life_was p n q request reply on now = cc

-- and each folder stays
folder_was : (spot : Spot) (n : Namespace) (q : ℕ) (request : Request) (reply : Reply) → leaves_folders request reply ≡ true → folder_at (namespace_replied n q request reply) spot ≡ folder_at n spot
folder_was spot n q (Open at which) (Opened handle) on = refl
folder_was spot n q (Close handle) Done on = refl
folder_was spot n q (TryLock handle Shared) Done on = refl
folder_was spot n q (Open at which) Done on = refl
folder_was spot n q (ListIn inner) Done on = refl
folder_was spot n q (RemoveFileIn i) Done on = refl
folder_was spot n q (RemoveDirIn i) Done on = refl
folder_was spot n q (TryLock handle Shared) (Opened other) on = refl
folder_was spot n q (Close handle) (Opened other) on = refl
folder_was spot n q (ListIn inner) (Opened handle) on = refl
folder_was spot n q (RemoveFileIn i) (Opened handle) on = refl
folder_was spot n q (RemoveDirIn i) (Opened handle) on = refl
folder_was spot n q request (Refused e left) on = refl
folder_was spot n q (Open at which) reply on = refl
folder_was spot n q (TryLock handle Shared) reply on = refl
folder_was spot n q (Close handle) reply on = refl
folder_was spot n q (ListIn inner) reply on = refl
folder_was spot n q (RemoveFileIn i) reply on = refl
folder_was spot n q (RemoveDirIn i) reply on = refl
folder_was spot n q (RemoveFolder gone) Done on = cc
folder_was spot n q (RemoveFolder gone) (Opened handle) on = refl
folder_was spot n q (RemoveFolder gone) reply on = refl
folder_was spot n q request reply on = cc

-- who removes something there has the lock
removing_lock : (spot : Spot) (g : Seen) (request : Request) → removes_at spot request ≡ true → allows g request ≡ true → may_remove g.standing spot ≡ true
removing_lock spot g (RemoveFileIn i) at may = subst (λ (z : Spot). may_remove g.standing z ≡ true) (sym (one_location spot i.spot at)) (and_left (lock_rules_allow g.standing (RemoveFileIn i)) (content_rules_allow g (RemoveFileIn i)) may)
removing_lock spot g (RemoveDirIn i) at may = subst (λ (z : Spot). may_remove g.standing z ≡ true) (sym (one_location spot i.spot at)) (and_left (lock_rules_allow g.standing (RemoveDirIn i)) (content_rules_allow g (RemoveDirIn i)) may)
removing_lock spot g (RemoveFolder gone) at may = subst (λ (z : Spot). may_remove g.standing z ≡ true) (sym (one_location spot gone at)) (and_left (lock_rules_allow g.standing (RemoveFolder gone)) (content_rules_allow g (RemoveFolder gone)) may)
removing_lock spot g request at may = cc

idle_takes : (spot : Spot) (request : Request) (reply : Reply) → (is_begin request || is_kill request) ≡ true → is_taken_from spot request reply ≡ false
idle_takes spot (Begin intent) reply on = refl
idle_takes spot Kill reply on = refl
idle_takes spot request reply on = cc

pub some_same : {X : Type 0} {x y : X} → Some x ≡ Some y → x ≡ y
some_same e = cc

pub noted_missing : (st : DirState) (inner : Inner) (l : Listed) → missing_by inner (listing_noted st l) ≡ missing_by inner l
noted_missing st inner (listed.Area a through ever) = refl
noted_missing st inner (listed.Missing here) = refl
noted_missing st inner (listed.Inside here f through ever) = refl

-- the folder stands there, and no open listing of this process missed it
pub record KeptAt (p : ℕ) (spot : Spot) (f : ℕ) (h : List Event) : Type 0 where
  pub at : folder_at (state_after h).namespace spot ≡ Some f
  pub found : (l : OpenListing) → In l (state_after h).listings → l.process ≡ p → missing_by (root_of spot) l.listed ≡ false

module _ (p : ℕ) (spot : Spot) (on : is_removing spot.area ≡ true) where
  abbrev pub IsQuiet : Event → Type 0
  IsQuiet e = (is_foreign p e || leaves_folders e.request e.reply) ≡ true

  lock_at : (s : Seen) (es : List Event) → AllByRecursion IsQuiet es → may_remove (seen_after p s es).standing spot ≡ true → may_remove s.standing spot ≡ true
  lock_at s [] quiet had = had
  lock_at s (e ∷ es) quiet had = by (is_foreign p e) refl quiet.0 (lock_at (seen_after_event p s e) es quiet.1 had)
    where
      by : (b : Bool) → is_foreign p e ≡ b → (b || leaves_folders e.request e.reply) ≡ true → may_remove (seen_after_event p s e).standing spot ≡ true → may_remove s.standing spot ≡ true
      by true f q now = subst (λ (x : Seen). may_remove x.standing spot ≡ true) (ap (λ b. cond b s (seen_replied s e.request e.reply)) f) now
      by false f q now = lock_was spot s.standing e.request e.reply q (subst (λ (x : Seen). may_remove x.standing spot ≡ true) (ap (λ b. cond b s (seen_replied s e.request e.reply)) f) now)

  life_at : (s : DirState) (es : List Event) → AllByRecursion IsQuiet es → lives (states_next s es).namespace p ≡ true → lives s.namespace p ≡ true
  life_at s [] quiet now = now
  life_at s (e ∷ es) quiet now = by (is_foreign p e) refl quiet.0 (life_at (state_next s e) es quiet.1 now)
    where
      by : (b : Bool) → is_foreign p e ≡ b → (b || leaves_folders e.request e.reply) ≡ true → lives (state_next s e).namespace p ≡ true → lives s.namespace p ≡ true
      by true f q now = lived_before p s (e ∷ []) (f, tt) now
      by false f q now = life_was p s.namespace e.process e.request e.reply q now

  -- one step
  stands_next : (h : List Event) (e : Event) (f : ℕ) → IsConforming (h ++ e ∷ []) → IsQuiet e → lives (state_after h).namespace p ≡ true → may_remove (seen_of p h).standing spot ≡ true →
      folder_at (state_after h).namespace spot ≡ Some f → folder_at (state_after (h ++ e ∷ [])).namespace spot ≡ Some f
  stands_next h e f c quiet living had at =
      subst (λ (s : DirState). folder_at s.namespace spot ≡ Some f) (sym (state_after-push h e)) (by (is_foreign p e) refl quiet)
    where
      idle : (is_begin e.request || is_kill e.request) ≡ true → folder_at (state_next (state_after h) e).namespace spot ≡ Some f
      idle h' = untaken (state_after h) e.process e.request e.reply spot (happens h e c).is (stands_there (state_after h).namespace spot f at) (idle_takes spot e.request e.reply h') ∙ at

      foreign_not : is_foreign p e ≡ true → p ≡ e.process → is_kill e.request ≡ false → ⊥
      foreign_not foreign same alive =
          let own : (e.process == p) ≡ true = subst (λ (q : ℕ). (e.process == q) ≡ true) (sym same) (same_self e.process) in
          clash (not (e.process == p) || is_kill e.request) foreign (ap (λ (b : Bool). not b || is_kill e.request) own ∙ alive)

      alive : (r : Request) → removes_at spot r ≡ true → is_kill r ≡ false
      alive Kill z = cc
      alive r z = refl

      step : is_foreign p e ≡ true → Steps h e.process e.request e.reply → folder_at (state_next (state_after h) e).namespace spot ≡ Some f
      step foreign x = removing (removes_at spot e.request) refl
        where
          removing : (b : Bool) → removes_at spot e.request ≡ b → folder_at (state_next (state_after h) e).namespace spot ≡ Some f
          removing false off = stands_on (state_after h) e.process (seen_of e.process h) spot f on at e.request e.reply (λ alive. x.may) off x.is
          removing true removes = absurd (foreign_not foreign
              (one_remover h x.conforming p e.process spot living x.living had (removing_lock spot (seen_of e.process h) e.request removes x.may)) (alive e.request removes))

      by : (b : Bool) → is_foreign p e ≡ b → (b || leaves_folders e.request e.reply) ≡ true → folder_at (state_next (state_after h) e).namespace spot ≡ Some f
      by true foreign q = each_step h e c (folder_at (state_next (state_after h) e).namespace spot ≡ Some f) idle (step foreign)
      by false own q = folder_was spot (state_after h).namespace e.process e.request e.reply q ∙ at

  -- a listing of the folder that begins finds it
  begins_found : (st : DirState) (f : ℕ) → folder_at st.namespace spot ≡ Some f → (inner : Inner) → missing_by (root_of spot) (begun_at st inner (folder_at st.namespace inner.spot)) ≡ false
  begins_found st f at inner = by (is_inner inner (root_of spot)) refl
    where
      away : (o : Option ℕ) → is_inner inner (root_of spot) ≡ false → missing_by (root_of spot) (begun_at st inner o) ≡ false
      away None off = off
      away (Some g) off = dir (has_dir st.entries g inner.path)
        where
          dir : (b : Bool) → missing_by (root_of spot) (cond b (listed.Inside inner g (items_in g inner.path st.entries) []) (listed.Missing inner)) ≡ false
          dir true = refl
          dir false = off

      by : (b : Bool) → is_inner inner (root_of spot) ≡ b → missing_by (root_of spot) (begun_at st inner (folder_at st.namespace inner.spot)) ≡ false
      by false off = away (folder_at st.namespace inner.spot) off
      by true is =
          let y = and_parts (spot_eq inner.spot spot) (bytes_eq inner.path []) is in
          let here : inner.spot ≡ spot = one_location inner.spot spot y.0 in
          let path : inner.path ≡ [] = same_text inner.path [] y.1 in
          let there : folder_at st.namespace inner.spot ≡ Some f = ap (λ (z : Spot). folder_at st.namespace z) here ∙ at in
          ap (λ (o : Option ℕ). missing_by (root_of spot) (begun_at st inner o)) there
          ∙ ap (λ (l : List ℕ). missing_by (root_of spot) (cond (has_dir st.entries f l) (listed.Inside inner f (items_in f inner.path st.entries) []) (listed.Missing inner))) path

  found_next : (h : List Event) (e : Event) (f : ℕ) → KeptAt p spot f h → (l : OpenListing) → In l (state_after (h ++ e ∷ [])).listings → l.process ≡ p → missing_by (root_of spot) l.listed ≡ false
  found_next h e f k l i mine = by (listing_from st e.process e.request e.reply l (subst (λ (s : DirState). In l s.listings) (state_after-push h e) i))
    where
      st : DirState
      st = state_after h

      begins : (request : Request) → listing_begun st e.process request ≡ Some l → missing_by (root_of spot) l.listed ≡ false
      begins (ListIn inner) b = subst (λ (z : OpenListing). missing_by (root_of spot) z.listed ≡ false) (some_same b) (begins_found st f k.at inner)
      begins (ListArea a) b = subst (λ (z : OpenListing). missing_by (root_of spot) z.listed ≡ false) (some_same b) refl
      begins request b = cc

      by : (In l st.listings ⊎ ((l0 : OpenListing) × (In l0 st.listings × (l ≡ noted_by st l0)))) ⊎ ((e.reply ≡ Begun) × (listing_begun st e.process e.request ≡ Some l)) → missing_by (root_of spot) l.listed ≡ false
      by (inl (inl j)) = k.found l j mine
      by (inl (inr x)) =
          ap (λ (z : OpenListing). missing_by (root_of spot) z.listed) x.1.1 ∙ (noted_missing st (root_of spot) x.0.listed
          ∙ k.found x.0 x.1.0 (sym (ap (λ (z : OpenListing). z.process) x.1.1) ∙ mine))
      by (inr x) = begins e.request x.1

  -- and all of them
  pub folder_kept : (es h : List Event) (f : ℕ) → IsConforming (h ++ es) → AllByRecursion IsQuiet es → lives (state_after (h ++ es)).namespace p ≡ true → may_remove (seen_of p (h ++ es)).standing spot ≡ true →
      KeptAt p spot f h → KeptAt p spot f (h ++ es)
  folder_kept [] h f c quiet living had k = subst (KeptAt p spot f) (sym (append-nil h)) k
  folder_kept (e ∷ es) h f c quiet living had k =
      let same : (h ++ e ∷ []) ++ es ≡ h ++ e ∷ es = append_assoc h (e ∷ []) es in
      let lives_here = life_at (state_after h) (e ∷ es) quiet (subst (λ (s : DirState). lives s.namespace p ≡ true) (states_next-append empty_state h (e ∷ es)) living) in
      let lock_here = lock_at (seen_of p h) (e ∷ es) quiet (subst (λ (s : Seen). may_remove s.standing spot ≡ true) (seen_after-append p nothing_seen h (e ∷ es)) had) in
      let back = subst IsConforming (sym same) c in
      subst (KeptAt p spot f) same
      (folder_kept es (h ++ e ∷ []) f back quiet.1
      (subst (λ (l : List Event). lives (state_after l).namespace p ≡ true) (sym same) living)
      (subst (λ (l : List Event). may_remove (seen_of p l).standing spot ≡ true) (sym same) had)
      (record {
        at = stands_next h e f (conforming_left (h ++ e ∷ []) es back) quiet.0 lives_here lock_here k.at;
        found = found_next h e f k;
      }))

  -- so its listing isn't answered that it is missing
  pub root_found : (h : List Event) (f left : ℕ) → KeptAt p spot f h → is_reply (state_after h) p (ListIn (root_of spot)) (Refused Missing left) ≡ true → ⊥
  root_found h f left k is = by (listing_of st p) refl missing
    where
      st : DirState
      st = state_after h

      plain : is_own_at st [] (folder_at st.namespace spot) ≡ false
      plain = ap (is_own_at st []) k.at ∙ root_unowned h f

      missing : shows_missing (root_of spot) (listing_of st p) ≡ true
      missing = and_right (left == 0) (shows_missing (root_of spot) (listing_of st p))
          (ap (λ b. cond b (is_any_reply st p (ListIn (root_of spot)) (Refused Missing left)) ((left == 0) && shows_missing (root_of spot) (listing_of st p))) (sym plain) ∙ is)

      by : (o : Option OpenListing) → listing_of st p ≡ o → shows_missing (root_of spot) o ≡ true → ⊥
      by None e m = cc
      by (Some l) e m =
          let x = find_in (is_listing_of p) l (noted_all st st.listings) e in
          let g = in_map (noted_by st) st.listings l x.0 in
          clash (missing_by (root_of spot) l.listed) (sym (missing_so (root_of spot) l) ∙ m)
          (ap (λ (z : OpenListing). missing_by (root_of spot) z.listed) g.1.1 ∙ (noted_missing st (root_of spot) g.0.listed
          ∙ k.found g.0 g.1.0 (ap (λ (q : OpenListing). q.process) (sym g.1.1) ∙ same_number l.process p x.1)))
