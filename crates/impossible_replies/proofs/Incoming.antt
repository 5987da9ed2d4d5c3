-- While a process has the lock of incoming exclusively, the folders that it listed there stand there until it moves them.
use Rattle.std.proofs.Common.{◌≡◌, ◌⊎◌, inl, inr, ℕ, Bool, true, false, not, ◌&&◌, ◌||◌, ◌==◌, cond, bytes_eq, Option, Some, None, is_some, List, [], ◌∷◌, ◌++◌, map, filter, refl, sym, ap, subst, ◌∙◌}
use Rattle.std.specs.List.{list_any, list_all}
use Rattle.std.proofs.Math.Path.{ap₂}
use Rattle.std.proofs.lemmas.Bool.{and_parts}
use Rattle.plain_laws.proofs.Booleans.{clash}
use Rattle.plain_laws.proofs.Texts.{same_text}
use Rattle.dir_model.specs.declared.area.Area.{Area}
use Rattle.dir_model.specs.declared.area.Area.TheVariants as area
use Rattle.dir_model.specs.declared.intent.Intent.{Intent}
use Rattle.dir_model.specs.declared.spot.Mode.TheVariants.{Shared, Exclusive}
use Rattle.dir_model.specs.declared.spot.Spot.{Spot}
use Rattle.dir_model.specs.declared.spot.Handle.{Handle}
use Rattle.dir_model.specs.declared.spot.Which.TheVariants as which
use Rattle.dir_model.specs.declared.tree.Listed.{Listed}
use Rattle.dir_model.specs.declared.tree.Listed.TheVariants as listed
use Rattle.dir_model.specs.declared.tree.OpenListing.{OpenListing}
use Rattle.dir_model.specs.declared.event.Event.{Event}
use Rattle.dir_model.specs.declared.request.Request.{Request}
use Rattle.dir_model.specs.declared.request.Request.TheVariants.{Begin, MakeFolder, MoveFolder, Open, OpenArea, TryLock, Close, ListArea, ListIn, MakeDirIn, MakeFileIn, AppendIn, ReadIn, SyncIn, SyncArea, RemoveFileIn, RemoveDirIn, RemoveFolder, Finish, Kill}
use Rattle.dir_model.specs.declared.request.Reply.{Reply}
use Rattle.dir_model.specs.declared.request.Reply.TheVariants.{Done, Begun, Opened, Names, Items, Read, Refused}
use Rattle.dir_model.specs.Areas.{rank, is_stage}
use Rattle.dir_model.specs.Locks.{is_exclusive}
use Rattle.dir_model.specs.Trees.{name_in, names_in, items_in, has_dir}
use Rattle.dir_model.specs.Listings as listings
use Rattle.dir_model.specs.Listings.{is_listing_request, is_listing, is_listing_of, listing_noted, noted_by, noted_all, listing_begun, begun_at, listing_of, shows_names, shows_area, ascend}
use Rattle.dir_model.specs.State.{DirState, folder_at, stands, spot_eq, is_at, lives, has_begun}
use Rattle.dir_model.specs.Trace.{state_next, state_after, listings_replied}
use Rattle.dir_model.specs.Replies.{is_reply}
use Rattle.dir_model.specs.Calls.{is_begin, is_kill, is_foreign, event}
use Rattle.dir_model.proofs.Chains.{state_after-push}
use Rattle.dir_model.proofs.Lists.{and_left, and_right, not_true, or_last, same_self, same_number}
use Rattle.dir_model.proofs.Spots.{spot_self}
use Rattle.dir_rules.specs.declared.seen.Seen.{Seen}
use Rattle.dir_rules.specs.declared.seen.ShownArea.{ShownArea}
use Rattle.dir_rules.specs.declared.standing.Held.{Held}
use Rattle.dir_rules.specs.declared.standing.Standing.{Standing}
use Rattle.dir_rules.specs.Seen.{learned, moved_away, with_names}
use Rattle.dir_rules.specs.Standing.{is_in, is_gate_of, is_gate_exclusive, excludes_area, shares_area, is_name_among, find_held, is_handle_held, gives_up, uncovered_by_close, uncover, standing_replied}
use Rattle.dir_rules.specs.LockRules.{may_lock_by, may_remove}
use Rattle.dir_rules.specs.Rules.{allows, content_rules_allow, contents_allow_move, has_done, is_all_done}
use Rattle.dir_rules.specs.Conforms.{nothing_seen, seen_of, seen_replied}
use Rattle.dir_rules.proofs.Unborn.{unborn_saw_nothing}
use Rattle.lifecycle.specs.Executions.{IsConforming}
use Rattle.lifecycle.proofs.Lists.{In, any_in, in_any, in_map, in_filter, find_in}
use Rattle.lifecycle.proofs.Handles.{lock_free}
use Rattle.lifecycle.proofs.Linked.{Bare, in_both}
use Rattle.lifecycle.proofs.Locks.{lock_of, kept_lock}
use Rattle.lifecycle.proofs.Closes.{any_mapped, kept_any}
use Rattle.lifecycle.proofs.Invariant.{some_exclusive}
use Rattle.lifecycle.proofs.Places.{same_name, none_at}
use Rattle.folder_contents.specs.UnderGate.{is_taken_from}
use Rattle.folder_contents.proofs.Along.{Happens, happens, whose, foreign_same, own_next, along, sound_at, linked_at}
use Rattle.folder_contents.proofs.Gates.{never_both, one_closer}
use Rattle.folder_contents.proofs.Handed.{brought}
use Rattle.folder_contents.proofs.Knowledge.{apt, lived}
use Rattle.folder_contents.proofs.Known.{alive_at}
use Rattle.folder_contents.proofs.Places.{untaken}
use Rattle.folder_contents.proofs.Spots.{one_location, in_area}
use Rattle.impossible_replies.proofs.Turns.{lists_at_once}
use Rattle.impossible_replies.proofs.Alongside.{Steps, steps, each_seen}
use Rattle.impossible_replies.proofs.LongItems.{in_filter_map, of_all}
use Rattle.impossible_replies.proofs.Origins.{at}
use Rattle.impossible_replies.proofs.Removers.{is_removing, removing_place, under_lock}
use Rattle.impossible_replies.proofs.Told.{Told, listing_from}
use Rattle.impossible_replies.proofs.Deletions.{ends, all_told}
use Rattle.dir_rules.specs.Anomalies.{knows_folder}
use Rattle.dir_rules.proofs.Standings.{looked_holdings}

abbrev Closes : Seen → Bool
Closes s = excludes_area area.Incoming s.standing

abbrev Stood : DirState → List ℕ → Type 0
Stood st u = stands st.namespace (at area.Incoming u) ≡ true

abbrev NamesStand : DirState → Listed → Type 0
NamesStand st (listed.Area a through ever) = is_in area.Incoming a ≡ true → (u : List ℕ) → In u through ⊎ In u ever → Stood st u
NamesStand st (listed.Missing here) = Unit {0}
NamesStand st (listed.Inside here f through ever) = Unit {0}

-- what is known of incoming under its lock
pub record Known (st : DirState) (p : ℕ) (s : Seen) : Type 0 where
  pub areas : (a : ShownArea) → In a s.areas → is_in area.Incoming a.area ≡ true →
      (Closes s ≡ true) × ((u : List ℕ) → is_name_among u a.names ≡ true → Stood st u)
  pub opened : (l : OpenListing) → In l st.listings → l.process ≡ p → Closes s ≡ true → NamesStand st l.listed

-- the lock is had on, unless a handle is given up
abbrev closes : Bare → Bool
closes b = is_gate_of area.Incoming b.target && is_exclusive b.lock

closes_some : (b : Bare) → closes b ≡ true → is_some b.lock ≡ true
closes_some b h = some_exclusive b.lock (and_right (is_gate_of area.Incoming b.target) (is_exclusive b.lock) h)

module _ (h : List Event) (p : ℕ) where
  abbrev k : Standing
  k = (seen_of p h).standing

  closed_on : (request : Request) (reply : Reply) → Steps h p request reply → excludes_area area.Incoming k ≡ true →
      ((handle : Handle) → request ≡ Close handle → gives_up (is_gate_exclusive area.Incoming) handle k.holdings ≡ false) → (request ≡ Finish → ⊥) →
      excludes_area area.Incoming (standing_replied k request reply) ≡ true
  closed_on request (Refused e left) x had shut ends = had
  closed_on (Open s which.Own) (Opened g) x had shut ends = had
  closed_on (Open s which.Claim) (Opened g) x had shut ends = had
  closed_on (OpenArea a) (Opened g) x had shut ends = or_last (is_in area.Incoming a && false) (excludes_area area.Incoming k) had
  closed_on request (Opened g) x had shut ends = had
  closed_on (MakeFolder s) Done x had shut ends = by (is_stage s.area)
    where
      by : (b : Bool) → excludes_area area.Incoming (cond b (record k { made = true; embryo_under_lock = shares_area area.Embryo k }) k) ≡ true
      by true = had
      by false = had
  closed_on (MoveFolder from to) Done x had shut ends = any_mapped (is_gate_exclusive area.Incoming) (uncover from) k.holdings (λ y. refl) ∙ had
  closed_on (TryLock handle Shared) Done x had shut ends =
      ap (λ (hs : List Held). list_any (is_gate_exclusive area.Incoming) hs) (looked_holdings (find_held handle k) _)
      ∙ kept_lock p (state_after h).namespace k handle Shared closes (sound_at h x.conforming) (linked_at p h x.conforming x.living)
      (lock_of p (state_after h).namespace k handle Shared (sound_at h x.conforming) (linked_at p h x.conforming x.living)
      (lock_free (state_after h) p handle Shared x.is) (and_left (may_lock_by k (find_held handle k) Shared) _ x.may)) closes_some had
  closed_on (TryLock handle Exclusive) Done x had shut ends =
      kept_lock p (state_after h).namespace k handle Exclusive closes (sound_at h x.conforming) (linked_at p h x.conforming x.living)
      (lock_of p (state_after h).namespace k handle Exclusive (sound_at h x.conforming) (linked_at p h x.conforming x.living)
      (lock_free (state_after h) p handle Exclusive x.is) (and_left (may_lock_by k (find_held handle k) Exclusive) _ x.may)) closes_some had
  closed_on (Close handle) Done x had shut ends =
      any_mapped (is_gate_exclusive area.Incoming) (uncovered_by_close handle k.holdings) (filter (λ y. not (is_handle_held handle y)) k.holdings) (λ y. refl)
      ∙ kept_any (is_gate_exclusive area.Incoming) handle k.holdings had (shut handle refl)
  closed_on Finish Done x had shut ends = absurd (ends refl)
  closed_on request Done x had shut ends = had
  closed_on request reply x had shut ends = had

-- a folder that stands there is taken by nobody else, nor removed
removed_never : (g : Seen) (u : List ℕ) (gone : Spot) → allows g (RemoveFolder gone) ≡ true → spot_eq gone (at area.Incoming u) ≡ false
removed_never g u gone may = by (spot_eq gone (at area.Incoming u)) refl
  where
    never : false ≡ true → ⊥
    never h = cc

    by : (b : Bool) → spot_eq gone (at area.Incoming u) ≡ b → b ≡ false
    by false e = refl
    by true e = absurd (never (ap (λ (z : Spot). is_removing z.area) (sym (one_location gone (at area.Incoming u) e))
        ∙ removing_place g.standing gone (and_left (may_remove g.standing gone) (content_rules_allow g (RemoveFolder gone)) may)))

stays : (st : DirState) (q : ℕ) (request : Request) (reply : Reply) (u : List ℕ) → is_reply st q request reply ≡ true → Stood st u →
    is_taken_from (at area.Incoming u) request reply ≡ false → Stood (state_next st (event q request reply)) u
stays st q request reply u is there off = ap (λ (o : Option ℕ). is_some o) (untaken st q request reply (at area.Incoming u) is there off) ∙ there

abbrev text_of : Option (List ℕ) → List ℕ
text_of None = []
text_of (Some text) = text

-- the names of an area are those of folders that stand there
name_stands : (st : DirState) (a : Area) (u : List ℕ) → is_in area.Incoming a ≡ true → In u (names_in a st.namespace.folders) → Stood st u
name_stands st a u incoming i =
    let x = in_filter_map (name_in a) u st.namespace.folders i in
    by (stands st.namespace (at area.Incoming u)) refl x.0 x.1.0 x.1.1
  where
    hit : (here : Spot) (b : Bool) → (rank here.area == rank a) ≡ b → cond b (Some here.name) None ≡ Some u → is_at (at area.Incoming u) (Some here) ≡ true
    hit here true e is =
        let place : here.area ≡ area.Incoming = in_area here.area a e ∙ sym (in_area area.Incoming a incoming) in
        let name : here.name ≡ u = ap (λ (o : Option (List ℕ)). text_of o) is in
        ap (λ (z : Spot). spot_eq z (at area.Incoming u)) (ap₂ at place name) ∙ spot_self (at area.Incoming u)
    hit here false e is = cc

    by : (b : Bool) → stands st.namespace (at area.Incoming u) ≡ b → (o : Option Spot) → In o st.namespace.folders → name_in a o ≡ Some u → b ≡ true
    by true e o i is = refl
    by false e (Some here) i is = clash (is_at (at area.Incoming u) (Some here)) (hit here (rank here.area == rank a) refl is)
        (none_at st.namespace (at area.Incoming u) e (Some here) i)
    by false e None i is = cc

noted_stand : (st : DirState) (l : Listed) → NamesStand st l → NamesStand st (listing_noted st l)
noted_stand st (listed.Missing here) t = tt
noted_stand st (listed.Inside here f through ever) t = tt
noted_stand st (listed.Area a through ever) t = λ incoming u i. by incoming u i
  where
    by : is_in area.Incoming a ≡ true → (u : List ℕ) → In u (filter (listings.has_name (names_in a st.namespace.folders)) through) ⊎ In u (ever ++ names_in a st.namespace.folders) → Stood st u
    by incoming u (inl i) = t incoming u (inl (in_filter (listings.has_name (names_in a st.namespace.folders)) u through i).0)
    by incoming u (inr i) = at_last (in_both u ever (names_in a st.namespace.folders) i)
      where
        at_last : In u ever ⊎ In u (names_in a st.namespace.folders) → Stood st u
        at_last (inl j) = t incoming u (inr j)
        at_last (inr j) = name_stands st a u incoming j

stand_on : (st next : DirState) → ((u : List ℕ) → Stood st u → Stood next u) → (l : Listed) → NamesStand st l → NamesStand next l
stand_on st next on (listed.Missing here) t = tt
stand_on st next on (listed.Inside here f through ever) t = tt
stand_on st next on (listed.Area a through ever) t = λ incoming u i. on u (t incoming u i)

abbrev stand_of : DirState → Option OpenListing → Type 0
stand_of st None = Unit {0}
stand_of st (Some l) = NamesStand st l.listed

begun_stand : (st : DirState) (q : ℕ) (request : Request) (l : OpenListing) → listing_begun st q request ≡ Some l → NamesStand st l.listed
begun_stand st q (ListArea a) l is = subst (λ (o : Option OpenListing). stand_of st o) is (λ incoming u i. by incoming u i)
  where
    by : is_in area.Incoming a ≡ true → (u : List ℕ) → In u (names_in a st.namespace.folders) ⊎ In u [] → Stood st u
    by incoming u (inl i) = name_stands st a u incoming i
    by incoming u (inr i) = absurd i
begun_stand st q (ListIn inner) l is = subst (λ (o : Option OpenListing). stand_of st o) is (at_inner (folder_at st.namespace inner.spot))
  where
    at_inner : (o : Option ℕ) → NamesStand st (begun_at st inner o)
    at_inner None = tt
    at_inner (Some f) = by (has_dir st.entries f inner.path)
      where
        by : (b : Bool) → NamesStand st (cond b (listed.Inside inner f (items_in f inner.path st.entries) []) (listed.Missing inner))
        by true = tt
        by false = tt
begun_stand st q request l is = cc

-- another's step
module _ (h : List Event) (e : Event) (c : IsConforming (h ++ e ∷ [])) (p : ℕ) (foreign : is_foreign p e ≡ true)
    (living : lives (state_after h).namespace p ≡ true) (known : Known (state_after h) p (seen_of p h)) where
  x : Happens h e
  x = happens h e c

  untaken_by : (closed : Closes (seen_of p h) ≡ true) (u : List ℕ) (request : Request) (reply : Reply) → e.request ≡ request →
      is_taken_from (at area.Incoming u) request reply ≡ false
  untaken_by closed u (MoveFolder from to) Done is = by (spot_eq from (at area.Incoming u)) refl
    where
      g : Seen
      g = seen_of e.process h

      alive : is_kill e.request ≡ false
      alive = ap is_kill is

      on : is_begin e.request ≡ false
      on = ap is_begin is

      may : allows g (MoveFolder from to) ≡ true
      may = subst (λ (r : Request). allows g r ≡ true) is (x.may alive)

      living_q : lives (state_after h).namespace e.process ≡ true
      living_q = alive_at h e x on

      moves : (b : Area) → contents_allow_move g from to area.Incoming b ≡ true → ⊥
      moves area.Images bring = never_both (state_after h).namespace (sound_at h x.conforming) area.Incoming p e.process (seen_of p h).standing g.standing
          (linked_at p h x.conforming living) (linked_at e.process h x.conforming living_q) closed
          ((apt h x.conforming e.process).gate living_q (and_right (has_done is_all_done g from) g.image_under_lock bring))
      moves area.Removed bring =
          let same : p ≡ e.process = one_closer (state_after h).namespace (sound_at h x.conforming) area.Incoming p e.process (seen_of p h).standing g.standing
          (linked_at p h x.conforming living) (linked_at e.process h x.conforming living_q) closed bring in
          clash (is_foreign p e) foreign (ap (λ k. not (e.process == p) || k) alive ∙ ap (λ b. not b || false) (ap (λ q. e.process == q) same ∙ same_self e.process))
      moves b bring = cc

      by : (b : Bool) → spot_eq from (at area.Incoming u) ≡ b → b ≡ false
      by false f = refl
      by true f = absurd (moves to.area (subst (λ (a : Area). contents_allow_move g from to a to.area ≡ true)
          (ap (λ (z : Spot). z.area) (one_location from (at area.Incoming u) f)) (brought g from to may)))
  untaken_by closed u (RemoveFolder gone) Done is =
      removed_never (seen_of e.process h) u gone (subst (λ (r : Request). allows (seen_of e.process h) r ≡ true) is (x.may (ap is_kill is)))
  untaken_by closed u (MoveFolder from to) (Refused er left) is = refl
  untaken_by closed u (RemoveFolder gone) (Refused er left) is = refl
  untaken_by closed u (MoveFolder from to) reply is = refl
  untaken_by closed u (RemoveFolder gone) reply is = refl
  untaken_by closed u request reply is = refl

  on_foreign : Closes (seen_of p h) ≡ true → (u : List ℕ) → Stood (state_after h) u → Stood (state_next (state_after h) e) u
  on_foreign closed u there = stays (state_after h) e.process e.request e.reply u x.is there (untaken_by closed u e.request e.reply refl)

  known_foreign : Known (state_next (state_after h) e) p (seen_of p h)
  known_foreign = record {
    areas = λ a i incoming. let y = known.areas a i incoming in (y.0, λ u n. on_foreign y.0 u (y.1 u n));
    opened = λ l i same closed. by l closed same (listing_from (state_after h) e.process e.request e.reply l i);
  }
    where
      by : (l : OpenListing) → Closes (seen_of p h) ≡ true → l.process ≡ p →
          (In l (state_after h).listings ⊎ ((l0 : OpenListing) × (In l0 (state_after h).listings × (l ≡ noted_by (state_after h) l0)))) ⊎
          ((e.reply ≡ Begun) × (listing_begun (state_after h) e.process e.request ≡ Some l)) → NamesStand (state_next (state_after h) e) l.listed
      by l closed same (inl (inl i)) = stand_on (state_after h) (state_next (state_after h) e) (on_foreign closed) l.listed (known.opened l i same closed)
      by l closed same (inl (inr (l0, (i, is)))) = subst (λ (z : OpenListing). NamesStand (state_next (state_after h) e) z.listed) (sym is)
          (stand_on (state_after h) (state_next (state_after h) e) (on_foreign closed) (listing_noted (state_after h) l0.listed)
          (noted_stand (state_after h) l0.listed (known.opened l0 i (ap (λ (z : OpenListing). z.process) (sym is) ∙ same) closed)))
      by l closed same (inr (begins, opens)) =
          stand_on (state_after h) (state_next (state_after h) e) (on_foreign closed) l.listed (begun_stand (state_after h) e.process e.request l opens)

abbrev area_by : Area → List (List ℕ) → Listed → Bool
area_by b new (listed.Area here through ever) = (rank here == rank b) && shows_names through ever new
area_by b new l = false

area_so : (b : Area) (new : List (List ℕ)) (l : OpenListing) → shows_area b new (Some l) ≡ area_by b new l.listed
area_so b new l = by l.listed refl
  where
    by : (x : Listed) → l.listed ≡ x → shows_area b new (Some (record l { listed = x })) ≡ area_by b new x
    by (listed.Area here through ever) e = refl
    by (listed.Missing here) e = refl
    by (listed.Inside here f through ever) e = refl

-- its own step
module _ (h : List Event) (p : ℕ) (conforming : IsConforming h) (told : Told (state_after h) p (seen_of p h)) (known : Known (state_after h) p (seen_of p h)) where
  abbrev s : Seen
  s = seen_of p h

  abbrev st : DirState
  st = state_after h

  abbrev Next : Request → Reply → DirState
  Next request reply = state_next st (event p request reply)

  abbrev AreasAfter : Request → Reply → Type 0
  AreasAfter request reply =
      (a : ShownArea) → In a (learned s request reply).areas → is_in area.Incoming a.area ≡ true →
      (excludes_area area.Incoming (standing_replied s.standing request reply) ≡ true) × ((u : List ℕ) → is_name_among u a.names ≡ true → Stood (Next request reply) u)

  -- areas that are the same, where the step takes nothing
  same_areas : (request : Request) (reply : Reply) → Steps h p request reply → ((handle : Handle) → request ≡ Close handle → ⊥) → (request ≡ Finish → ⊥) →
      ((u : List ℕ) → is_taken_from (at area.Incoming u) request reply ≡ false) → (learned s request reply).areas ≡ s.areas → AreasAfter request reply
  same_areas request reply x shut finish off same a i incoming =
      let y = known.areas a (subst (λ (l : List ShownArea). In a l) same i) incoming in (
        closed_on h p request reply x y.0 (λ handle is. absurd (shut handle is)) finish,
        λ u n. stays st p request reply u x.is (y.1 u n) (off u),
      )

  -- a reply that tells nothing of what is held
  quiet : (request : Request) (reply : Reply) → Steps h p request reply → standing_replied s.standing request reply ≡ s.standing →
      ((u : List ℕ) → is_taken_from (at area.Incoming u) request reply ≡ false) → (learned s request reply).areas ≡ s.areas → AreasAfter request reply
  quiet request reply x same_standing off same a i incoming =
      let y = known.areas a (subst (λ (l : List ShownArea). In a l) same i) incoming in (
        ap (λ (k : Standing). excludes_area area.Incoming k) same_standing ∙ y.0,
        λ u n. stays st p request reply u x.is (y.1 u n) (off u),
      )

  untaken_reply : (u : List ℕ) (request : Request) (reply : Reply) → (reply ≡ Done → ⊥) → is_taken_from (at area.Incoming u) request reply ≡ false
  untaken_reply u (MoveFolder from to) Done not = absurd (not refl)
  untaken_reply u (RemoveFolder gone) Done not = absurd (not refl)
  untaken_reply u (MoveFolder from to) reply not = refl
  untaken_reply u (RemoveFolder gone) reply not = refl
  untaken_reply u request reply not = refl

  -- areas from which a folder's name is taken
  away_areas : (request : Request) (from : Spot) → Steps h p request Done → ((handle : Handle) → request ≡ Close handle → ⊥) → (request ≡ Finish → ⊥) →
      ((u : List ℕ) → (spot_eq from (at area.Incoming u) ≡ false) → is_taken_from (at area.Incoming u) request Done ≡ false) →
      (learned s request Done).areas ≡ map (moved_away from) s.areas → AreasAfter request Done
  away_areas request from x shut finish off same a i incoming =
      let m = in_map (moved_away from) s.areas a (subst (λ (l : List ShownArea). In a l) same i) in
      by m.0 m.1.0 m.1.1 (is_in from.area m.0.area) refl
    where
      by : (b : ShownArea) → In b s.areas → a ≡ moved_away from b → (c : Bool) → is_in from.area b.area ≡ c →
          (excludes_area area.Incoming (standing_replied s.standing request Done) ≡ true) × ((u : List ℕ) → is_name_among u a.names ≡ true → Stood (Next request Done) u)
      by b j e c f =
          let place : a.area ≡ b.area = ap (λ (z : ShownArea). z.area) e ∙ unmoved c f in
          let y = known.areas b j (ap (is_in area.Incoming) (sym place) ∙ incoming) in (
            closed_on h p request Done x y.0 (λ handle is. absurd (shut handle is)) finish,
            λ u n. names c f u n (y.1 u),
          )
        where
          unmoved : (c : Bool) → is_in from.area b.area ≡ c → (moved_away from b).area ≡ b.area
          unmoved c f = on (is_in from.area b.area)
            where
              on : (c : Bool) → (cond c (record b { names = filter (λ n. not (bytes_eq n from.name)) b.names }) b).area ≡ b.area
              on true = refl
              on false = refl

          in_place : is_in area.Incoming b.area ≡ true
          in_place = ap (is_in area.Incoming) (sym (ap (λ (z : ShownArea). z.area) e ∙ unmoved (is_in from.area b.area) refl)) ∙ incoming

          -- the name that is left isn't the folder's that goes
          names : (c : Bool) → is_in from.area b.area ≡ c → (u : List ℕ) → is_name_among u a.names ≡ true → (is_name_among u b.names ≡ true → Stood st u) → Stood (Next request Done) u
          names c f u n was =
              stays st p request Done u x.is (was (more (is_in from.area b.area) (ap (λ (z : ShownArea). is_name_among u z.names) (sym e) ∙ n)))
              (off u (apart (spot_eq from (at area.Incoming u)) refl))
            where
              more : (d : Bool) → is_name_among u (cond d (record b { names = filter (λ n. not (bytes_eq n from.name)) b.names }) b).names ≡ true → is_name_among u b.names ≡ true
              more false n = n
              more true n =
                  let z = any_in (λ name. bytes_eq name u) (filter (λ n. not (bytes_eq n from.name)) b.names) n in
                  in_any (λ name. bytes_eq name u) z.0 b.names (in_filter (λ n. not (bytes_eq n from.name)) z.0 b.names z.1.0).0 z.1.1

              apart : (d : Bool) → spot_eq from (at area.Incoming u) ≡ d → d ≡ false
              apart false g = refl
              apart true g =
                  let same_spot : from ≡ at area.Incoming u = one_location from (at area.Incoming u) g in
                  let here : is_in from.area b.area ≡ true = ap (λ (z : Spot). is_in z.area b.area) same_spot ∙ in_place in
                  let z = any_in (λ name. bytes_eq name u) (filter (λ n. not (bytes_eq n from.name)) b.names)
                  (ap (λ d. is_name_among u (cond d (record b { names = filter (λ n. not (bytes_eq n from.name)) b.names }) b).names) (sym here)
                  ∙ (ap (λ (z : ShownArea). is_name_among u z.names) (sym e) ∙ n)) in
                  let w = in_filter (λ n. not (bytes_eq n from.name)) z.0 b.names z.1.0 in
                  clash (bytes_eq z.0 from.name)
                  (same_name z.0 from.name (same_text z.0 u z.1.1 ∙ ap (λ (q : Spot). q.name) (sym same_spot))) (not_true (bytes_eq z.0 from.name) w.1)

  -- an area was listed
  listed_area : (b : Area) (new : List (List ℕ)) → Steps h p (ListArea b) (Names new) → AreasAfter (ListArea b) (Names new)
  listed_area b new x a i incoming = by (excludes_area b s.standing) refl i
    where
      next_stood : (u : List ℕ) → Stood st u → Stood (Next (ListArea b) (Names new)) u
      next_stood u there = there

      found : (l : Listed) → NamesStand st l → is_in area.Incoming b ≡ true → area_by b new l ≡ true → (u : List ℕ) → is_name_among u new ≡ true → Stood st u
      found (listed.Area c through ever) t place shows u n =
          let y = and_parts (rank c == rank b) (shows_names through ever new) shows in
          let all = and_right (list_all (listings.has_name new) through) (list_all (listings.has_name (through ++ ever)) new)
          (and_right (ascend new) (list_all (listings.has_name new) through && list_all (listings.has_name (through ++ ever)) new) y.1) in
          let z = any_in (λ name. bytes_eq name u) new n in
          let w = any_in (λ name. bytes_eq name z.0) (through ++ ever) (of_all (listings.has_name (through ++ ever)) z.0 new z.1.0 all) in
          let name : w.0 ≡ u = same_text w.0 z.0 w.1.1 ∙ same_text z.0 u z.1.1 in
          subst (λ (q : List ℕ). Stood st q) name
          (t (subst (λ (d : Area). is_in area.Incoming d ≡ true) (sym (in_area c b y.0)) place) w.0 (in_both w.0 through ever w.1.0))
      found (listed.Missing here) t place shows u n = cc
      found (listed.Inside here f through ever) t place shows u n = cc

      open_one : (o : Option OpenListing) → listing_of st p ≡ o → shows_area b new o ≡ true → is_in area.Incoming b ≡ true → Closes s ≡ true →
          (u : List ℕ) → is_name_among u new ≡ true → Stood st u
      open_one None e shows place closed u n = cc
      open_one (Some l) e shows place closed u n =
          let f = find_in (is_listing_of p) l (noted_all st st.listings) e in
          let g = in_map (noted_by st) st.listings l f.0 in
          found l.listed
          (subst (λ (z : OpenListing). NamesStand st z.listed) (sym g.1.1)
          (noted_stand st g.0.listed (known.opened g.0 g.1.0 (ap (λ (z : OpenListing). z.process) (sym g.1.1) ∙ same_number l.process p f.1) closed)))
          place (sym (area_so b new l) ∙ shows) u n

      new_one : a ≡ record { area = b; names = new } → excludes_area b s.standing ≡ true →
          (excludes_area area.Incoming s.standing ≡ true) × ((u : List ℕ) → is_name_among u a.names ≡ true → Stood st u)
      new_one e closed =
          let place : is_in area.Incoming b ≡ true = ap (λ (z : ShownArea). is_in area.Incoming z.area) (sym e) ∙ incoming in
          let had : excludes_area area.Incoming s.standing ≡ true = subst (λ (d : Area). excludes_area d s.standing ≡ true) (sym (in_area area.Incoming b place)) closed in
          (had, λ u n. open_one (listing_of st p) refl x.is place had u (ap (λ (z : ShownArea). is_name_among u z.names) (sym e) ∙ n))

      by : (c : Bool) → excludes_area b s.standing ≡ c → In a (cond c (with_names b new s.areas) s.areas) →
          (excludes_area area.Incoming s.standing ≡ true) × ((u : List ℕ) → is_name_among u a.names ≡ true → Stood st u)
      by true closed (inl e) = new_one e closed
      by true closed (inr j) = known.areas a (in_filter (λ z. not (is_in b z.area)) a s.areas j).0 incoming
      by false closed j = known.areas a j incoming

  areas_by : (request : Request) (reply : Reply) → Steps h p request reply → AreasAfter request reply
  areas_by (MoveFolder from to) Done x = away_areas (MoveFolder from to) from x (λ g z. cc) (λ z. cc) (λ u off. off) refl
  areas_by (RemoveFolder gone) Done x = away_areas (RemoveFolder gone) gone x (λ g z. cc) (λ z. cc) (λ u off. off) refl
  areas_by (Close handle) Done x = λ a i incoming.
      let y = in_filter (λ z. not (gives_up (is_gate_exclusive z.area) handle s.standing.holdings)) a s.areas i in
      let w = known.areas a y.0 incoming in (
        closed_on h p (Close handle) Done x w.0
            (λ g e. closed g handle (sym e) (subst (λ (d : Area). gives_up (is_gate_exclusive d) handle s.standing.holdings ≡ false) (sym (in_area area.Incoming a.area incoming))
            (not_true (gives_up (is_gate_exclusive a.area) handle s.standing.holdings) y.1))) (λ e. cc),
        λ u n. stays st p (Close handle) Done u x.is (w.1 u n) refl,
      )
    where
      number : Request → Handle → Handle
      number (Close g) d = g
      number r d = d

      closed : (a b : Handle) → Close a ≡ Close b → gives_up (is_gate_exclusive area.Incoming) b s.standing.holdings ≡ false →
          gives_up (is_gate_exclusive area.Incoming) a s.standing.holdings ≡ false
      closed a b e g = subst (λ (z : Handle). gives_up (is_gate_exclusive area.Incoming) z s.standing.holdings ≡ false) (sym (ap (λ r. number r b) e)) g
  areas_by Finish Done x = λ a i incoming. absurd i
  areas_by (ListArea b) (Names new) x = listed_area b new x
  areas_by (Begin intent) Done x = cc
  areas_by (MakeFolder spot) Done x = same_areas (MakeFolder spot) Done x (λ g z. cc) (λ z. cc) (λ u. refl) refl
  areas_by (MakeDirIn i) Done x = same_areas (MakeDirIn i) Done x (λ g z. cc) (λ z. cc) (λ u. refl) refl
  areas_by (MakeFileIn i) Done x = same_areas (MakeFileIn i) Done x (λ g z. cc) (λ z. cc) (λ u. refl) refl
  areas_by (AppendIn i piece) Done x = same_areas (AppendIn i piece) Done x (λ g z. cc) (λ z. cc) (λ u. refl) refl
  areas_by (SyncIn i) Done x = same_areas (SyncIn i) Done x (λ g z. cc) (λ z. cc) (λ u. refl) refl
  areas_by (RemoveFileIn i) Done x = same_areas (RemoveFileIn i) Done x (λ g z. cc) (λ z. cc) (λ u. refl) refl
  areas_by (RemoveDirIn i) Done x = same_areas (RemoveDirIn i) Done x (λ g z. cc) (λ z. cc) (λ u. refl) refl
  areas_by (Open spot w) Done x = same_areas (Open spot w) Done x (λ g z. cc) (λ z. cc) (λ u. refl) refl
  areas_by (OpenArea a) Done x = same_areas (OpenArea a) Done x (λ g z. cc) (λ z. cc) (λ u. refl) refl
  areas_by (TryLock handle mode) Done x = same_areas (TryLock handle mode) Done x (λ g z. cc) (λ z. cc) (λ u. refl) refl
  areas_by (ListArea a) Done x = same_areas (ListArea a) Done x (λ g z. cc) (λ z. cc) (λ u. refl) refl
  areas_by (ListIn i) Done x = same_areas (ListIn i) Done x (λ g z. cc) (λ z. cc) (λ u. refl) refl
  areas_by (ReadIn i at room) Done x = same_areas (ReadIn i at room) Done x (λ g z. cc) (λ z. cc) (λ u. refl) refl
  areas_by (SyncArea a) Done x = same_areas (SyncArea a) Done x (λ g z. cc) (λ z. cc) (λ u. refl) refl
  areas_by Kill Done x = same_areas Kill Done x (λ g z. cc) (λ z. cc) (λ u. refl) refl
  areas_by (MakeDirIn i) (Refused e left) x = same_areas (MakeDirIn i) (Refused e left) x (λ g z. cc) (λ z. cc) (λ u. refl) refl
  areas_by (MakeFileIn i) (Refused e left) x = same_areas (MakeFileIn i) (Refused e left) x (λ g z. cc) (λ z. cc) (λ u. refl) refl
  areas_by (AppendIn i piece) (Refused e left) x = same_areas (AppendIn i piece) (Refused e left) x (λ g z. cc) (λ z. cc) (λ u. refl) refl
  areas_by (SyncIn i) (Refused e left) x = same_areas (SyncIn i) (Refused e left) x (λ g z. cc) (λ z. cc) (λ u. refl) refl
  areas_by (ListIn i) (Items new) x = same_areas (ListIn i) (Items new) x (λ g z. cc) (λ z. cc) (λ u. refl) refl
  areas_by request (Refused e left) x = quiet request (Refused e left) x refl (λ u. untaken_reply u request (Refused e left) (λ z. cc)) refl
  areas_by request (Items new) x = quiet request (Items new) x refl (λ u. untaken_reply u request (Items new) (λ z. cc)) refl
  areas_by request (Names new) x = quiet request (Names new) x refl (λ u. untaken_reply u request (Names new) (λ z. cc)) refl
  areas_by request Begun x = quiet request Begun x refl (λ u. untaken_reply u request Begun (λ z. cc)) refl
  areas_by (Open spot w) (Opened g) x = same_areas (Open spot w) (Opened g) x (λ g z. cc) (λ z. cc) (λ u. refl) refl
  areas_by (OpenArea a) (Opened g) x = same_areas (OpenArea a) (Opened g) x (λ g z. cc) (λ z. cc) (λ u. refl) refl
  areas_by request (Opened g) x = quiet request (Opened g) x refl (λ u. untaken_reply u request (Opened g) (λ z. cc)) refl
  areas_by request (Read bytes) x = quiet request (Read bytes) x refl (λ u. untaken_reply u request (Read bytes) (λ z. cc)) refl

  own_open : (request : Request) (reply : Reply) → Steps h p request reply → (is_listing st p ≡ true → is_listing_request request ≡ true) →
      (l : OpenListing) → In l (listings_replied st p request reply) → l.process ≡ p → NamesStand (Next request reply) l.listed
  own_open request reply x once l i same = by (is_listing st p) refl
    where
      listing : (l : OpenListing) → In l st.listings → l.process ≡ p → is_listing st p ≡ true
      listing l i same = in_any (is_listing_of p) l st.listings i (ap (λ q. q == p) same ∙ same_self p)

      from : is_listing st p ≡ false → (In l st.listings ⊎ ((l0 : OpenListing) × (In l0 st.listings × (l ≡ noted_by st l0)))) ⊎
          ((reply ≡ Begun) × (listing_begun st p request ≡ Some l)) → NamesStand (Next request reply) l.listed
      from off (inl (inl j)) = clash (is_listing st p) (listing l j same) off
      from off (inl (inr (l0, (j, e)))) = clash (is_listing st p) (listing l0 j (ap (λ (z : OpenListing). z.process) (sym e) ∙ same)) off
      from off (inr (is, opens)) = subst (λ (r : Reply). NamesStand (Next request r) l.listed) (sym is)
          (stand_on st (Next request Begun) (λ u there. there) l.listed (begun_stand st p request l opens))

      by : (b : Bool) → is_listing st p ≡ b → NamesStand (Next request reply) l.listed
      by true e = absurd (ends h p told conforming request reply l (once e) e x.is i same)
      by false e = from e (listing_from st p request reply l i)

  known_own : (request : Request) (reply : Reply) → Steps h p request reply → (is_listing st p ≡ true → is_listing_request request ≡ true) →
      Known (Next request reply) p (seen_replied s request reply)
  known_own request reply x once = record {
    areas = areas_by request reply x;
    opened = λ l i same closed. own_open request reply x once l i same;
  }

-- all along
abbrev Knows : ℕ → List Event → Type 0
Knows p h = lives (state_after h).namespace p ≡ true → Known (state_after h) p (seen_of p h)

begin_known : (now : DirState) (p : ℕ) (intent : Intent) (reply : Reply) → Known now p (seen_replied nothing_seen (Begin intent) reply)
begin_known now p intent Done = record { areas = λ a i incoming. absurd i; opened = λ l i same closed. clash false closed refl }
begin_known now p intent (Refused e left) = record { areas = λ a i incoming. absurd i; opened = λ l i same closed. clash false closed refl }
begin_known now p intent (Opened g) = record { areas = λ a i incoming. absurd i; opened = λ l i same closed. clash false closed refl }
begin_known now p intent (Names names) = record { areas = λ a i incoming. absurd i; opened = λ l i same closed. clash false closed refl }
begin_known now p intent (Items new) = record { areas = λ a i incoming. absurd i; opened = λ l i same closed. clash false closed refl }
begin_known now p intent (Read bytes) = record { areas = λ a i incoming. absurd i; opened = λ l i same closed. clash false closed refl }
begin_known now p intent Begun = record { areas = λ a i incoming. absurd i; opened = λ l i same closed. clash false closed refl }

knows_next : (p : ℕ) (h : List Event) (e : Event) → IsConforming (h ++ e ∷ [])
    → (lives (state_after h).namespace p ≡ true → Told (state_after h) p (seen_of p h)) → Knows p h → Knows p (h ++ e ∷ [])
knows_next p h e c told knows living = by (whose p e)
  where
    x : Happens h e
    x = happens h e c

    put : (s : Seen) → seen_of p (h ++ e ∷ []) ≡ s → Known (state_next (state_after h) e) p s → Known (state_after (h ++ e ∷ [])) p (seen_of p (h ++ e ∷ []))
    put s is t = subst (λ (z : Seen). Known (state_after (h ++ e ∷ [])) p z) (sym is) (subst (λ (z : DirState). Known z p s) (sym (state_after-push h e)) t)

    own : e.process ≡ p → is_kill e.request ≡ false → (b : Bool) → is_begin e.request ≡ b → Known (state_next (state_after h) e) p (seen_replied (seen_of p h) e.request e.reply)
    own is alive false on =
        let s = subst (λ (q : ℕ). Steps h q e.request e.reply) is (steps h e c alive on) in
        subst (λ (q : ℕ). Known (state_next (state_after h) (event q e.request e.reply)) p (seen_replied (seen_of p h) e.request e.reply)) (sym is)
        (known_own h p x.conforming (told s.living) (knows s.living) e.request e.reply s
        (λ lists. lists_at_once h e c (ap (λ (q : ℕ). is_listing (state_after h) q) is ∙ lists) alive))
    own is alive true on = subst (λ (s : Seen). Known (state_next (state_after h) e) p (seen_replied s e.request e.reply))
        (sym (unborn_saw_nothing p h x.conforming.run unborn)) (first e.request e.reply on)
      where
        unborn : has_begun (state_after h).namespace p ≡ false
        unborn = subst (λ (q : ℕ). has_begun (state_after h).namespace q ≡ false) is
            (not_true (has_begun (state_after h).namespace e.process)
            (ap (λ c. cond c (not (has_begun (state_after h).namespace e.process)) (lives (state_after h).namespace e.process)) (sym on) ∙ x.due))

        first : (request : Request) (reply : Reply) → is_begin request ≡ true → Known (state_next (state_after h) e) p (seen_replied nothing_seen request reply)
        first (Begin intent) reply on = begin_known (state_next (state_after h) e) p intent reply
        first request reply on = cc

    by : (is_foreign p e ≡ true) ⊎ ((is_foreign p e ≡ false) × ((e.process ≡ p) × (is_kill e.request ≡ false))) →
        Known (state_after (h ++ e ∷ [])) p (seen_of p (h ++ e ∷ []))
    by (inl f) = put (seen_of p h) (foreign_same p h e f) (known_foreign h e c p f (lived h e p f living) (knows (lived h e p f living)))
    by (inr f) = put (seen_replied (seen_of p h) e.request e.reply) (own_next p h e f.0) (own f.1.0 f.1.1 (is_begin e.request) refl)

pub all_known : (h : List Event) → IsConforming h → (p : ℕ) → Knows p h
all_known h conforming p =
    along (Knows p) (λ living. absurd (none living)) (λ h e c knows. knows_next p h e c (all_told h (happens h e c).conforming p) knows) h conforming
  where
    none : lives (state_after []).namespace p ≡ true → ⊥
    none h = cc

-- what a process has put away stands in removed
abbrev Away : Seen → Type 0
Away s = (here : Spot) → In here s.put_away → is_in here.area area.Removed ≡ true

away_next : (s : Seen) (request : Request) (reply : Reply) → Away s → (here : Spot) → In here (learned s request reply).put_away → is_in here.area area.Removed ≡ true
away_next s (MoveFolder from to) Done was here i = by (is_in to.area area.Removed) refl i
  where
    by : (b : Bool) → is_in to.area area.Removed ≡ b → In here (cond b (to ∷ s.put_away) s.put_away) → is_in here.area area.Removed ≡ true
    by true e (inl same) = ap (λ (z : Spot). is_in z.area area.Removed) same ∙ e
    by true e (inr j) = was here j
    by false e j = was here j
away_next s (RemoveFolder gone) Done was here i = was here (in_filter (λ p. not (spot_eq p gone)) here s.put_away i).0
away_next s request Done was here i = was here i
away_next s (MakeDirIn j) (Refused e left) was here i = was here i
away_next s (MakeFileIn j) (Refused e left) was here i = was here i
away_next s (AppendIn j piece) (Refused e left) was here i = was here i
away_next s (SyncIn j) (Refused e left) was here i = was here i
away_next s request (Refused e left) was here i = was here i
away_next s (ListIn j) (Items new) was here i = was here i
away_next s request (Items new) was here i = was here i
away_next s (ListArea a) (Names new) was here i = was here i
away_next s request (Names new) was here i = was here i
away_next s request reply was here i = was here i

pub away : (trace : List Event) → IsConforming trace → (p : ℕ) → Away (seen_of p trace)
away trace conforming = each_seen Away (λ here i. absurd i) begins (λ h p request reply x was here i. away_next (seen_of p h) request reply was here i) trace conforming
  where
    begins : (intent : Intent) (reply : Reply) → Away (seen_replied nothing_seen (Begin intent) reply)
    begins intent reply = λ here i. away_next nothing_seen (Begin intent) reply (λ here i. absurd i) here i

-- a folder of incoming that it deletes stands there
pub deleted_stands : (h : List Event) → IsConforming h → (p : ℕ) → Known (state_after h) p (seen_of p h) → (from : Spot) → from.area ≡ area.Incoming →
    knows_folder (seen_of p h) from ≡ true → stands (state_after h).namespace from ≡ true
deleted_stands h conforming p known from incoming knows =
    by (list_any (λ inner. spot_eq inner.spot from) s.listed) (list_any (λ a. is_in from.area a.area && is_name_among from.name a.names) s.areas)
    (list_any (λ here. spot_eq here from) s.put_away) refl refl refl knows
  where
    s : Seen
    s = seen_of p h

    by : (a b c : Bool) → list_any (λ inner. spot_eq inner.spot from) s.listed ≡ a → list_any (λ a. is_in from.area a.area && is_name_among from.name a.names) s.areas ≡ b →
        list_any (λ here. spot_eq here from) s.put_away ≡ c → (a || (b || c)) ≡ true → stands (state_after h).namespace from ≡ true
    by true b c e f g k =
        let x = any_in (λ inner. spot_eq inner.spot from) s.listed e in
        clash (is_removing area.Incoming)
        (subst (λ (a : Area). is_removing a ≡ true) (ap (λ (z : Spot). z.area) (one_location x.0.spot from x.1.1) ∙ incoming)
        (removing_place s.standing x.0.spot ((under_lock h conforming p).listed x.0 x.1.0))) refl
    by false true c e f g k =
        let x = any_in (λ a. is_in from.area a.area && is_name_among from.name a.names) s.areas f in
        let y = and_parts (is_in from.area x.0.area) (is_name_among from.name x.0.names) x.1.1 in
        subst (λ (z : Spot). stands (state_after h).namespace z ≡ true) (ap (λ (a : Area). at a from.name) (sym incoming))
        ((known.areas x.0 x.1.0 (subst (λ (a : Area). is_in a x.0.area ≡ true) incoming y.0)).1 from.name y.1)
    by false false true e f g k =
        let x = any_in (λ here. spot_eq here from) s.put_away g in
        clash (is_in area.Incoming area.Removed)
        (subst (λ (a : Area). is_in a area.Removed ≡ true) (ap (λ (z : Spot). z.area) (one_location x.0 from x.1.1) ∙ incoming) (away h conforming p x.0 x.1.0)) refl
    by false false false e f g k = cc
