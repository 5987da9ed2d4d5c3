-- What a sweep leaves where nobody else steps.
use Rattle.std.proofs.Common.{◌≡◌, ◌⊎◌, inl, inr, ℕ, Bool, true, false, not, ◌&&◌, ◌||◌, ◌==◌, cond, bytes_eq, Option, Some, None, List, [], ◌∷◌, ◌++◌, map, append-nil, refl, sym, ap, subst, ◌∙◌, append_assoc}
use Rattle.std.specs.List.{list_any, cons_option, AllByRecursion}
use Rattle.std.proofs.lemmas.Slice.Eq.{bytes_eq-Decides}
use Rattle.std.proofs.lemmas.Bool.{or_left}
use Rattle.plain_laws.proofs.Booleans.{or_nothing}
use Rattle.dir_model.specs.declared.area.Area.{Area}
use Rattle.dir_model.specs.declared.area.Area.TheVariants.{Incoming, Removed}
use Rattle.dir_model.specs.declared.event.Event.{Event}
use Rattle.dir_model.specs.declared.spot.Mode.TheVariants.{Exclusive}
use Rattle.dir_model.specs.declared.spot.Spot.{Spot}
use Rattle.dir_model.specs.declared.request.Request.{Request}
use Rattle.dir_model.specs.declared.request.Request.TheVariants.{MakeFolder, MoveFolder, ListArea, RemoveFolder}
use Rattle.dir_model.specs.declared.request.Reply.{Reply}
use Rattle.dir_model.specs.declared.request.Reply.TheVariants.{Done, Names}
use Rattle.dir_model.specs.Areas.{rank}
use Rattle.dir_model.specs.State.{Namespace, DirState, empty_state, is_at, folder_at}
use Rattle.dir_model.specs.Trace.{state_after, state_next, moved, namespace_replied}
use Rattle.dir_model.specs.Trees.{names_in}
use Rattle.dir_model.specs.Listings.{has_name}
use Rattle.dir_model.specs.Calls.{event, is_finish, is_foreign, is_kill, IsRun, Extends, CallStep}
use Rattle.dir_model.specs.Quiet.{Quiet}
use Rattle.dir_model.proofs.Lists.{or_last, all_left, all_right, all_map, same_rest, same_self, and_right}
use Rattle.dir_model.proofs.Chains.{states_next-append, and_more, extends_wider, run-left}
use Rattle.dir_model.proofs.Moments.{at_within}
use Rattle.dir_rules.specs.Standing.{is_in}
use Rattle.dir_laws.specs.Stretches.{Throughout, StandsInArea}
use Rattle.dir_files.specs.Listed.{ShowsArea}
use Rattle.dir_files.specs.AreaLocks.{is_taking_area, is_against, IsBusyElsewhere}
use Rattle.folder_removal.specs.Removal.{asks_deletion_at}
use Rattle.image_removal.specs.declared.pass.SweepLine.{SweepLine}
use Rattle.image_removal.specs.Calls.{WasCalled}
use Rattle.image_removal.specs.Passes.{is_close, is_uuid, uuids}
use Rattle.image_removal.specs.Requests.{incoming_spot, removed_spot, moves_folder, lists_store_area, sweeps_store}
use Rattle.image_removal.specs.Sweeps.{WasLocked}
use Rattle.command_outcomes.specs.Meanwhile.{Meanwhile}
use Rattle.commands.specs.ImageGc.{SweepsImages}
use Rattle.commands.proofs.OwnSteps.{in_process, same_folders}
use Rattle.commands.proofs.RemovalQuiet.{held_before}
use Rattle.commands.proofs.RemovalEnds.{NoneAt, absent_at, after_move, after_removal, removal_keeps, Upto, upto_more, upto_call, kept_between}
use Rattle.commands.proofs.GcQuiet.{Leaves, leaves_same}

-- the folder of this name in the area
abbrev pub place_in : Area → List ℕ → Spot
place_in area name = record { area = area; name = name }

-- the requests by which the two passes deal with a folder, and all that they ask for to deal with folders of these names
abbrev pub puts : List ℕ → Request
puts name = MoveFolder (incoming_spot name) (removed_spot name)

abbrev pub putting : List (List ℕ) → Request → Bool
putting names request = list_any (λ name. moves_folder (incoming_spot name) (removed_spot name) request) (uuids names)

abbrev deletes : List ℕ → Request
deletes name = RemoveFolder (removed_spot name)

abbrev deleting : List (List ℕ) → Request → Bool
deleting names request = list_any (λ name. asks_deletion_at (removed_spot name) request) (uuids names)

-- a pass that took its area's lock, listed the area, dealt with each uuid that was shown, and gave the lock up
pub record Dealt (area : Area) (deed : List ℕ → Request) (deals : List (List ℕ) → Request → Bool) (me : ℕ) (old new : List Event) : Type 0 where
  pub locked : List Event
  pub listed : List Event
  pub done : List Event
  pub names : List (List ℕ)
  pub takes_lock : Extends (is_taking_area area Exclusive) me old locked
  pub only_lists : Extends (lists_store_area area) me locked listed
  pub shows : ShowsArea me locked listed area names
  pub each : AllByRecursion (λ name. WasCalled (deed name) Done me listed done) (uuids names)
  pub only : Extends (deals names) me listed done
  pub gives_back : Extends is_close me done new

-- a name stands in an area where a folder stands there
pub named_at : (area : Area) (name : List ℕ) (places : List (Option Spot)) → has_name (names_in area places) name ≡ list_any (is_at (record { area = area; name = name })) places
named_at area name [] = refl
named_at area name (None ∷ places) = named_at area name places
named_at area name (Some here ∷ places) = by (rank here.area == rank area) (named_at area name places)
  where
    by : (b : Bool) → has_name (names_in area places) name ≡ list_any (is_at (record { area = area; name = name })) places →
        has_name (cons_option (cond b (Some here.name) None) (names_in area places)) name ≡ ((b && bytes_eq here.name name) || list_any (is_at (record { area = area; name = name })) places)
    by true go = ap (λ c. bytes_eq here.name name || c) go
    by false go = go

pub none_of : {X : Type 0} (t : X → Bool) (xs : List X) → list_any t xs ≡ false → AllByRecursion (λ x. t x ≡ false) xs
none_of t [] none = tt
none_of t (x ∷ xs) none = by (t x) refl none (λ h. none_of t xs h)
  where
    by : (b : Bool) → t x ≡ b → (b || list_any t xs) ≡ false → (list_any t xs ≡ false → AllByRecursion (λ x. t x ≡ false) xs) → AllByRecursion (λ x. t x ≡ false) (x ∷ xs)
    by true is h rest = cc
    by false is h rest = (is, rest h)

-- what was shown was dealt with, where its name is a uuid
found : (P : List ℕ → Type 0) (name : List ℕ) (names : List (List ℕ)) → AllByRecursion P (uuids names) → has_name names name ≡ true → is_uuid name ≡ true → P name
found P name [] all shown uuid = cc
found P name (n ∷ ns) all shown uuid = by (bytes_eq n name) (is_uuid n) refl refl all shown (λ rest h. found P name ns rest h uuid)
  where
    by : (b u : Bool) → bytes_eq n name ≡ b → is_uuid n ≡ u → AllByRecursion P (cond u (n ∷ uuids ns) (uuids ns)) → (b || has_name ns name) ≡ true → (AllByRecursion P (uuids ns) → has_name ns name ≡ true → P name) → P name
    by true true same u all shown rest = subst P ((bytes_eq-Decides n name).0 same) all.0
    by true false same u all shown rest = let clash : true ≡ false = sym uuid ∙ (ap is_uuid (sym ((bytes_eq-Decides n name).0 same)) ∙ u) in cc
    by false true same u all shown rest = rest all.1 shown
    by false false same u all shown rest = rest all shown

-- a listing leaves each folder where it is
list_leaves : (area : Area) (request : Request) (reply : Reply) → (is_kill request || lists_store_area area request) ≡ true → (p : ℕ) (w : Namespace) → (namespace_replied w p request reply).folders ≡ w.folders
list_leaves area (MakeFolder here) reply h p w = cc
list_leaves area (MoveFolder a b) reply h p w = cc
list_leaves area (RemoveFolder gone) reply h p w = cc
list_leaves area request reply h p w = same_folders p w request reply refl (λ handle. refl)

lists_leave : (me : ℕ) (area : Area) (es : List Event) → AllByRecursion (λ e. e.process ≡ me) es → AllByRecursion (λ e. (is_foreign me e || lists_store_area area e.request) ≡ true) es → AllByRecursion Leaves es
lists_leave me area [] own asked = tt
lists_leave me area (e ∷ es) own asked = (λ p w. list_leaves area e.request e.reply mine p w, lists_leave me area es own.1 asked.1)
  where
    mine : (is_kill e.request || lists_store_area area e.request) ≡ true
    mine =
        ap (λ b. (not b || is_kill e.request) || lists_store_area area e.request) (sym (same_self me))
        ∙ (ap (λ (q : ℕ). (not (q == me) || is_kill e.request) || lists_store_area area e.request) (sym own.0) ∙ asked.0)

pub throughout_same : (area : Area) (name : List ℕ) (s : DirState) (es : List Event) → AllByRecursion Leaves es → StandsInArea area name s → Throughout (StandsInArea area name) s es
throughout_same area name s [] leave at = at
throughout_same area name s (e ∷ es) leave at =
    (at, throughout_same area name (state_next s e) es leave.1 (subst (λ (fs : List (Option Spot)). has_name (names_in area fs) name ≡ true) (sym (leave.0 e.process s.namespace)) at))

-- a part of a quiet time
pub quiet_part : {me : ℕ} (old a new : List Event) → Quiet me old new → Upto old a → (z : Upto a new) → Quiet me a new
quiet_part {me} old a new quiet x z =
    let whole : new ≡ old ++ (x.0 ++ z.0) = z.1 ∙ (ap (λ (h : List Event). h ++ z.0) x.1 ∙ append_assoc old x.0 z.0) in
    record {
      more = z.0;
      grown = z.1;
      own = all_right _ x.0 z.0 (subst (λ (l : List Event). AllByRecursion (λ e. e.process ≡ me) l) (same_rest old quiet.more (x.0 ++ z.0) (sym quiet.grown ∙ whole)) quiet.own);
    }

pub nothing_more : (a : List Event) → Upto a a
nothing_more a = ([], sym (append-nil a))

-- no folder comes to this location by a request that is asked for
abbrev Keeps : (Request → Bool) → Spot → Type 0
Keeps asks spot = (p : ℕ) (w : Namespace) (request : Request) (reply : Reply) → (is_kill request || asks request) ≡ true → NoneAt spot w.folders → NoneAt spot (namespace_replied w p request reply).folders

-- under the area's lock: where a folder of this name stood when it was listed, it was dealt with, and none stands there in the end
module _ {area : Area} {deed : List ℕ → Request} {deals : List (List ℕ) → Request → Bool} (name : List ℕ) (uuid : is_uuid name ≡ true) {me : ℕ} (old end new : List Event) (d : Dealt area deed deals me old end) (quiet : Quiet me d.locked new) (rest : Upto d.done new)
    (asks : Request → Bool) (ext : Extends asks me d.listed new) (keeps : Keeps asks (place_in area name))
    (after_deed : (before after : List Event) → CallStep me before (deed name) Done after → NoneAt (place_in area name) (state_after after).namespace.folders) where
  abbrev locked : List Event
  locked = d.locked

  abbrev listed : List Event
  listed = d.listed

  abbrev to_listed : Upto locked listed
  to_listed = (d.only_lists.more, d.only_lists.grown)

  to_end : Upto listed new
  to_end = upto_more listed d.done new (d.only.more, d.only.grown) rest

  later_quiet : Quiet me listed new
  later_quiet = quiet_part locked listed new quiet to_listed to_end

  kept : (b : List Event) → Upto listed b → Upto b new → NoneAt (place_in area name) (state_after b).namespace.folders → NoneAt (place_in area name) (state_after new).namespace.folders
  kept b y z none = kept_between (NoneAt (place_in area name)) asks keeps listed b new new ext later_quiet y z (nothing_more new) none

  -- the folders are the same all along the listing
  leave : AllByRecursion Leaves d.only_lists.more
  leave =
      let whole : new ≡ locked ++ (to_listed.0 ++ to_end.0) = to_end.1 ∙ (ap (λ (h : List Event). h ++ to_end.0) to_listed.1 ∙ append_assoc locked to_listed.0 to_end.0) in
      lists_leave me area d.only_lists.more
      (all_left _ to_listed.0 to_end.0 (subst (λ (l : List Event). AllByRecursion (λ e. e.process ≡ me) l) (same_rest locked quiet.more (to_listed.0 ++ to_end.0) (sym quiet.grown ∙ whole)) quiet.own))
      d.only_lists.asked

  shown : StandsInArea area name (state_after listed) → has_name d.names name ≡ true
  shown at =
      let t = d.shows.stretch in
      let last = event me (ListArea area) (Names d.names) in
      let parted : d.only_lists.more ≡ t.earlier ++ (t.others ++ last ∷ []) = same_rest locked d.only_lists.more (t.earlier ++ (t.others ++ last ∷ []))
      (sym d.only_lists.grown ∙ (t.ends ∙ (ap (λ (h : List Event). (h ++ t.others) ++ last ∷ []) t.begins ∙ simp append_assoc))) in
      let later : AllByRecursion Leaves (t.others ++ last ∷ []) = all_right Leaves t.earlier (t.others ++ last ∷ []) (subst (λ (l : List Event). AllByRecursion Leaves l) parted leave) in
      let here : listed ≡ t.begun ++ (t.others ++ last ∷ []) = t.ends ∙ append_assoc t.begun t.others (last ∷ []) in
      let same : (state_after listed).namespace.folders ≡ (state_after t.begun).namespace.folders =
      ap (λ (s : DirState). s.namespace.folders) (ap state_after here ∙ states_next-append empty_state t.begun (t.others ++ last ∷ [])) ∙ leaves_same (state_after t.begun) (t.others ++ last ∷ []) later in
      d.shows.all name (throughout_same area name (state_after t.begun) t.others (all_left Leaves t.others (last ∷ []) later) (subst (λ (fs : List (Option Spot)). has_name (names_in area fs) name ≡ true) same at))

  pub none_left : NoneAt (place_in area name) (state_after new).namespace.folders
  none_left = by (has_name (names_in area (state_after listed).namespace.folders) name) refl
    where
      dealt : WasCalled (deed name) Done me listed d.done → NoneAt (place_in area name) (state_after new).namespace.folders
      dealt c =
          kept c.after (upto_more listed c.before c.after (c.earlier, c.begins) (upto_call c.step)) (upto_more c.after d.done new (c.later, c.ends) rest) (after_deed c.before c.after c.step)

      by : (b : Bool) → has_name (names_in area (state_after listed).namespace.folders) name ≡ b → NoneAt (place_in area name) (state_after new).namespace.folders
      by true at = dealt (found (λ n. WasCalled (deed n) Done me listed d.done) name d.names d.each (shown at) uuid)
      by false at = kept listed (nothing_more listed) to_end (none_of (is_at (place_in area name)) (state_after listed).namespace.folders (sym (named_at area name (state_after listed).namespace.folders) ∙ at))

-- a sweep moves nothing to incoming
not_incoming : (area : Area) → is_in area Removed ≡ true → (rank area == rank Incoming) ≡ false
not_incoming Removed h = refl
not_incoming area h = let clash : false ≡ true = h in cc

pub moves_elsewhere : (name : List ℕ) (a b : Spot) → is_in b.area Removed ≡ true → (folders : List (Option Spot)) → NoneAt (incoming_spot name) folders → NoneAt (incoming_spot name) (map (moved a b) folders)
moves_elsewhere name a b away folders none = all_map (λ x. is_at (incoming_spot name) x ≡ false) (moved a b) (λ x at. by x at (is_at a x)) folders none
  where
    by : (x : Option Spot) → is_at (incoming_spot name) x ≡ false → (c : Bool) → is_at (incoming_spot name) (cond c (Some b) x) ≡ false
    by x at true = ap (λ c. c && bytes_eq b.name name) (not_incoming b.area away)
    by x at false = at

incoming_keeps : (name : List ℕ) → Keeps (in_process sweeps_store) (incoming_spot name)
incoming_keeps name p w (MakeFolder here) reply h none = cc
incoming_keeps name p w (MoveFolder a b) Done h none = moves_elsewhere name a b (and_right (is_in a.area Incoming) (is_in b.area Removed) (or_nothing (sweeps_store (MoveFolder a b)) h)) w.folders none
incoming_keeps name p w (MoveFolder a b) reply h none = none
incoming_keeps name p w (RemoveFolder gone) Done h none = removal_keeps (incoming_spot name) gone w.folders none
incoming_keeps name p w (RemoveFolder gone) reply h none = none
incoming_keeps name p w request reply h none = subst (λ (fs : List (Option Spot)). NoneAt (incoming_spot name) fs) (sym (same_folders p w request reply refl (λ handle. refl))) none

-- and once removed was listed it moves nothing at all
abbrev finishing : List (List ℕ) → Request → Bool
finishing names request = deleting names request || (is_close request || is_finish request)

pub never : (xs : List (List ℕ)) → list_any (λ x. false) xs ≡ false
never [] = refl
never (x ∷ xs) = never xs

moves_never : (names : List (List ℕ)) (a b : Spot) → finishing names (MoveFolder a b) ≡ true → false ≡ true
moves_never names a b h = sym (never (uuids names)) ∙ or_nothing (deleting names (MoveFolder a b)) h

makes_never : (names : List (List ℕ)) (here : Spot) → finishing names (MakeFolder here) ≡ true → false ≡ true
makes_never names here h = sym (never (uuids names)) ∙ or_nothing (deleting names (MakeFolder here)) h

removed_keeps : (names : List (List ℕ)) (name : List ℕ) → Keeps (finishing names) (removed_spot name)
removed_keeps names name p w (MakeFolder here) reply h none = let clash : false ≡ true = makes_never names here h in cc
removed_keeps names name p w (MoveFolder a b) reply h none = let clash : false ≡ true = moves_never names a b h in cc
removed_keeps names name p w (RemoveFolder gone) Done h none = removal_keeps (removed_spot name) gone w.folders none
removed_keeps names name p w (RemoveFolder gone) reply h none = none
removed_keeps names name p w request reply h none = subst (λ (fs : List (Option Spot)). NoneAt (removed_spot name) fs) (sym (same_folders p w request reply refl (λ handle. refl))) none

-- the passes, one after the other
abbrev Pass : Area → (List ℕ → Request) → (List (List ℕ) → Request → Bool) → List SweepLine → ℕ → List Event → List Event → Type 0
Pass area deed deals lines me old new = Dealt area deed deals me old new ⊎ WasLocked (IsBusyElsewhere me area Exclusive) area lines me old new

pub upto_passed : {me : ℕ} (area : Area) (deed : List ℕ → Request) (deals : List (List ℕ) → Request → Bool) (lines : List SweepLine) (a b : List Event) → Pass area deed deals lines me a b → Upto a b
upto_passed area deed deals lines a b (inr w) = (w.only.more, w.only.grown)
upto_passed area deed deals lines a b (inl d) =
    upto_more a d.locked b (d.takes_lock.more, d.takes_lock.grown)
    (upto_more d.locked d.listed b (d.only_lists.more, d.only_lists.grown)
    (upto_more d.listed d.done b (d.only.more, d.only.grown) (d.gives_back.more, d.gives_back.grown)))

either : {A B C : Type 0} → A ⊎ B → (A → C) → (B → C) → C
either (inl a) f g = f a
either (inr b) f g = g b

-- a part of what a process asked for
extends_part : {me : ℕ} {asks : Request → Bool} (old a new : List Event) → Extends asks me old new → Upto old a → (z : Upto a new) → Extends asks me a new
extends_part {me} {asks} old a new ext x z =
    let whole : new ≡ old ++ (x.0 ++ z.0) = z.1 ∙ (ap (λ (h : List Event). h ++ z.0) x.1 ∙ append_assoc old x.0 z.0) in
    record {
      more = z.0;
      grown = z.1;
      asked = all_right _ x.0 z.0 (subst (λ (l : List Event). AllByRecursion (λ e. (is_foreign me e || asks e.request) ≡ true) l) (same_rest old ext.more (x.0 ++ z.0) (sym ext.grown ∙ whole)) ext.asked);
      run = λ run. ext.run (run-left old x.0 (subst IsRun x.1 run));
    }

module _ {me : ℕ} {old new : List Event} {lines : List SweepLine} (ext : Extends (in_process sweeps_store) me old new) (quiet : Quiet me old new) (m : Meanwhile (SweepsImages lines) me old new) where
  abbrev Left : Area → Type 0
  Left area =
      ((name : List ℕ) → is_uuid name ≡ true → folder_at (state_after new).namespace (record { area = area; name = name }) ≡ None)
      ⊎ IsBusyElsewhere me area Exclusive (state_after old)

  abbrev between : List Event
  between = m.so.between

  first : Upto old m.begun
  first = (m.begins.more, m.begins.grown)

  last : Upto m.ended new
  last = (m.finishes.more, m.finishes.grown)

  pub first_pass : Pass Incoming puts putting m.so.moved me m.begun between
  first_pass = either m.so.puts_away
      (λ u. inl (record {
        locked = u.locked;
        listed = u.under.works.listed;
        done = u.done;
        names = u.under.names;
        takes_lock = u.takes_lock;
        only_lists = u.under.works.only_lists;
        shows = u.under.works.shows;
        each = u.under.each;
        only = u.under.works.only;
        gives_back = u.gives_back;
      }))
      (λ w. inr w)

  second_pass : Pass Removed deletes deleting m.so.deleted me between m.ended
  second_pass = either m.so.deletes
      (λ u. inl (record {
        locked = u.locked;
        listed = u.under.works.listed;
        done = u.done;
        names = u.under.names;
        takes_lock = u.takes_lock;
        only_lists = u.under.works.only_lists;
        shows = u.under.works.shows;
        each = u.under.each;
        only = u.under.works.only;
        gives_back = u.gives_back;
      }))
      (λ w. inr w)

  pub to_between : Upto old between
  to_between = upto_more old m.begun between first (upto_passed Incoming puts putting m.so.moved m.begun between first_pass)

  pub from_between : Upto between new
  from_between = upto_more between m.ended new (upto_passed Removed deletes deleting m.so.deleted between m.ended second_pass) last

  -- incoming
  none_incoming : (d : Dealt Incoming puts putting me m.begun between) (name : List ℕ) → is_uuid name ≡ true → NoneAt (incoming_spot name) (state_after new).namespace.folders
  none_incoming d name uuid =
      let x : Upto old d.locked = upto_more old m.begun d.locked first (d.takes_lock.more, d.takes_lock.grown) in
      let y : Upto d.locked d.listed = (d.only_lists.more, d.only_lists.grown) in
      let rest : Upto d.done new = upto_more d.done between new (d.gives_back.more, d.gives_back.grown) from_between in
      let z : Upto d.listed new = upto_more d.listed d.done new (d.only.more, d.only.grown) rest in
      none_left name uuid m.begun between new d (quiet_part old d.locked new quiet x (upto_more d.locked d.listed new y z)) rest
      (in_process sweeps_store) (extends_part old d.listed new ext (upto_more old d.locked d.listed x y) z) (incoming_keeps name)
      (λ before after step. after_move (incoming_spot name) (removed_spot name) refl step)

  pub incoming_left : Left Incoming
  incoming_left = by first_pass
    where
      by : Pass Incoming puts putting m.so.moved me m.begun between → Left Incoming
      by (inl d) = inl (λ name uuid. absent_at (state_after new).namespace (incoming_spot name) (none_incoming d name uuid))
      by (inr w) = inr (held_before (is_against Incoming Exclusive) (at_within {P = IsBusyElsewhere me Incoming Exclusive} first.0 from_between.0 first.1 from_between.1 w.busy) quiet)

  -- removed
  finishes_so : (d : Dealt Removed deletes deleting me between m.ended) → Extends (finishing d.names) me d.listed new
  finishes_so d =
      let names = d.names in
      let first : Extends (finishing names) me d.listed d.done = extends_wider (λ r h. or_left (deleting names r) (is_close r || is_finish r) h) d.only in
      let second : Extends (finishing names) me d.done m.ended = extends_wider (λ r h. or_last (deleting names r) (is_close r || is_finish r) (or_left (is_close r) (is_finish r) h)) d.gives_back in
      let third : Extends (finishing names) me m.ended new = extends_wider (λ r h. or_last (deleting names r) (is_close r || is_finish r) (or_last (is_close r) (is_finish r) h)) m.finishes in
      and_more (and_more first refl second) refl third

  none_removed : (d : Dealt Removed deletes deleting me between m.ended) (name : List ℕ) → is_uuid name ≡ true → NoneAt (removed_spot name) (state_after new).namespace.folders
  none_removed d name uuid =
      let x : Upto old d.locked = upto_more old between d.locked to_between (d.takes_lock.more, d.takes_lock.grown) in
      let y : Upto d.locked d.listed = (d.only_lists.more, d.only_lists.grown) in
      let rest : Upto d.done new = upto_more d.done m.ended new (d.gives_back.more, d.gives_back.grown) last in
      let z : Upto d.listed new = upto_more d.listed d.done new (d.only.more, d.only.grown) rest in
      none_left name uuid between m.ended new d (quiet_part old d.locked new quiet x (upto_more d.locked d.listed new y z)) rest
      (finishing d.names) (finishes_so d) (removed_keeps d.names name)
      (λ before after step. after_removal (removed_spot name) step)

  pub removed_left : Left Removed
  removed_left = by second_pass
    where
      by : Pass Removed deletes deleting m.so.deleted me between m.ended → Left Removed
      by (inl d) = inl (λ name uuid. absent_at (state_after new).namespace (removed_spot name) (none_removed d name uuid))
      by (inr w) = inr (held_before (is_against Removed Exclusive) (at_within {P = IsBusyElsewhere me Removed Exclusive} to_between.0 last.0 to_between.1 last.1 w.busy) quiet)
