-- What a removal of an image leaves where nobody else steps.
use Rattle.std.proofs.Common.{◌≡◌, ◌⊎◌, inl, inr, ◌+◌, ℕ, Bool, true, false, not, ◌&&◌, ◌||◌, ◌==◌, cond, Option, Some, None, List, [], ◌∷◌, ◌++◌, map, append-nil, refl, sym, ap, subst, ◌∙◌, append_assoc}
use Rattle.std.specs.List.{position, position_from, AllByRecursion}
use Rattle.std.proofs.lemmas.Iterator.Adapters.{position_from-zero}
use Rattle.plain_laws.proofs.Booleans.{or_nothing}
use Rattle.ac_types.specs.declared.store_key.StoreKey.{StoreKey}
use Rattle.dir_model.specs.declared.area.Area.TheVariants.{Images, Removed}
use Rattle.dir_model.specs.declared.event.Event.{Event}
use Rattle.dir_model.specs.declared.pod.PodId.{PodId}
use Rattle.dir_model.specs.declared.spot.Mode.TheVariants.{Exclusive}
use Rattle.dir_model.specs.declared.spot.Spot.{Spot}
use Rattle.dir_model.specs.declared.request.DirError.TheVariants.{Missing}
use Rattle.dir_model.specs.declared.request.Request.{Request}
use Rattle.dir_model.specs.declared.request.Request.TheVariants.{MakeFolder, MoveFolder, RemoveFolder}
use Rattle.dir_model.specs.declared.request.Reply.{Reply}
use Rattle.dir_model.specs.declared.request.Reply.TheVariants.{Done, Refused}
use Rattle.dir_model.specs.State.{Namespace, DirState, empty_state, spot_eq, is_at, folder_at}
use Rattle.dir_model.specs.Trace.{state_after, state_next, states_next, moved, removed, namespace_replied}
use Rattle.dir_model.specs.Calls.{event, is_begin, is_foreign, is_kill, Extends, CallStep, TookPlace, LeftNothing, AtOwnStep}
use Rattle.dir_model.specs.Quiet.{Quiet}
use Rattle.dir_model.proofs.Lists.{and_left, or_last, all_left, all_right, all_both, all_map, same_rest, same_self}
use Rattle.dir_model.proofs.Chains.{states_next-append, state_after-push}
use Rattle.dir_model.proofs.Moments.{at_within}
use Rattle.dir_files.specs.AreaLocks.{is_taking_area, is_against, IsBusyElsewhere}
use Rattle.folder_contents.proofs.Spots.{one_location}
use Rattle.image_reading.specs.Places.{image_spot, IsImageAbsent}
use Rattle.image_removal.specs.Calls.{WasCalled}
use Rattle.image_removal.specs.Causes.{FoundNoImage}
use Rattle.image_removal.specs.Removals.{IsGone}
use Rattle.image_removal.specs.Requests.{away_spot, puts_away, removes_at}
use Rattle.lifecycle.proofs.Places.{none_stands}
use Rattle.command_outcomes.specs.Meanwhile.{Meanwhile}
use Rattle.commands.specs.ImageRm.{RemovesStoredImage}
use Rattle.commands.proofs.OwnSteps.{in_process, same_folders}
use Rattle.commands.proofs.RemovalQuiet.{held_before}
use Rattle.commands.proofs.GcQuiet.{Leaves, leaves_same}

-- no folder stands at the location
abbrev pub NoneAt : Spot → List (Option Spot) → Type 0
NoneAt spot folders = AllByRecursion (λ x. is_at spot x ≡ false) folders

none_from : (spot : Spot) (i : ℕ) (xs : List (Option Spot)) → NoneAt spot xs → position_from (is_at spot) i xs ≡ None
none_from spot i [] none = refl
none_from spot i (x ∷ xs) none = rw (none.0, none_from spot (i + 1) xs none.1) refl

from_none : (spot : Spot) (i : ℕ) (xs : List (Option Spot)) → position_from (is_at spot) i xs ≡ None → NoneAt spot xs
from_none spot i [] at = tt
from_none spot i (x ∷ xs) at = by (is_at spot x) refl at (λ h. from_none spot (i + 1) xs h)
  where
    by : (b : Bool) → is_at spot x ≡ b → cond b (Some i) (position_from (is_at spot) (i + 1) xs) ≡ None → (position_from (is_at spot) (i + 1) xs ≡ None → NoneAt spot xs) → NoneAt spot (x ∷ xs)
    by true is h rest = cc
    by false is h rest = (is, rest h)

pub absent_at : (n : Namespace) (spot : Spot) → NoneAt spot n.folders → folder_at n spot ≡ None
absent_at n spot none = position_from-zero (is_at spot) n.folders ∙ none_from spot 0 n.folders none

at_absent : (n : Namespace) (spot : Spot) → folder_at n spot ≡ None → NoneAt spot n.folders
at_absent n spot at = from_none spot 0 n.folders (sym (position_from-zero (is_at spot) n.folders) ∙ at)

-- a move leaves none where it moves from, and a removal none where it removes
moved_away : (from to : Spot) → spot_eq to from ≡ false → (xs : List (Option Spot)) → NoneAt from (map (moved from to) xs)
moved_away from to apart [] = tt
moved_away from to apart (x ∷ xs) = (by (is_at from x) refl, moved_away from to apart xs)
  where
    by : (b : Bool) → is_at from x ≡ b → is_at from (cond b (Some to) x) ≡ false
    by true is = apart
    by false is = is

removed_there : (spot : Spot) (xs : List (Option Spot)) → NoneAt spot (map (removed spot) xs)
removed_there spot [] = tt
removed_there spot (x ∷ xs) = (by (is_at spot x) refl, removed_there spot xs)
  where
    by : (b : Bool) → is_at spot x ≡ b → is_at spot (cond b None x) ≡ false
    by true is = refl
    by false is = is

-- a move from where none stands moves nothing
moves_nothing : (from to : Spot) (xs : List (Option Spot)) → NoneAt from xs → map (moved from to) xs ≡ xs
moves_nothing from to [] none = refl
moves_nothing from to (x ∷ xs) none = rw (none.0, moves_nothing from to xs none.1) refl

pub removal_keeps : (spot gone : Spot) (xs : List (Option Spot)) → NoneAt spot xs → NoneAt spot (map (removed gone) xs)
removal_keeps spot gone xs none = all_map (λ x. is_at spot x ≡ false) (removed gone) (λ x at. by x at (is_at gone x)) xs none
  where
    by : (x : Option Spot) → is_at spot x ≡ false → (b : Bool) → is_at spot (cond b None x) ≡ false
    by x at true = refl
    by x at false = at

-- one trace goes on from the other
abbrev pub Upto : List Event → List Event → Type 0
Upto a b = (rest : List Event) × (b ≡ a ++ rest)

pub upto_more : (a b c : List Event) → Upto a b → Upto b c → Upto a c
upto_more a b c x y = (x.0 ++ y.0, y.1 ∙ (ap (λ (h : List Event). h ++ y.0) x.1 ∙ append_assoc a x.0 y.0))

pub upto_call : {me : ℕ} {old new : List Event} {request : Request} {reply : Reply} → CallStep me old request reply new → Upto old new
upto_call {me} {old} {new} {request} {reply} s = by s.own
  where
    by : TookPlace s.before me request reply new ⊎ LeftNothing s.before me request reply new → Upto old new
    by (inl took) = upto_more old s.before new (s.meanwhile.others, s.meanwhile.grown) (event me request reply ∷ [], took.grown)
    by (inr left) = (s.meanwhile.others, left.same ∙ s.meanwhile.grown)

-- what holds of folders and is kept by each own step holds at a later moment
module _ (Q : List (Option Spot) → Type 0) (asks : Request → Bool)
    (keeps : (p : ℕ) (w : Namespace) (request : Request) (reply : Reply) → (is_kill request || asks request) ≡ true → Q w.folders → Q (namespace_replied w p request reply).folders) where
  kept_all : (me : ℕ) (s : DirState) (es : List Event) → AllByRecursion (λ e. e.process ≡ me) es → AllByRecursion (λ e. (is_foreign me e || asks e.request) ≡ true) es → Q s.namespace.folders → Q (states_next s es).namespace.folders
  kept_all me s [] own asked q = q
  kept_all me s (e ∷ es) own asked q = kept_all me (state_next s e) es own.1 asked.1 (keeps e.process s.namespace e.request e.reply mine q)
    where
      mine : (is_kill e.request || asks e.request) ≡ true
      mine =
          ap (λ b. (not b || is_kill e.request) || asks e.request) (sym (same_self me))
          ∙ (ap (λ (q : ℕ). (not (q == me) || is_kill e.request) || asks e.request) (sym own.0) ∙ asked.0)

  pub kept_between : {me : ℕ} (old a b new : List Event) → Extends asks me old new → Quiet me old new → Upto old a → Upto a b → Upto b new → Q (state_after a).namespace.folders → Q (state_after b).namespace.folders
  kept_between {me} old a b new ext quiet x y z q =
      let whole : new ≡ old ++ (x.0 ++ (y.0 ++ z.0)) = z.1 ∙ (ap (λ (h : List Event). h ++ z.0) (y.1 ∙ ap (λ (h : List Event). h ++ y.0) x.1) ∙ simp append_assoc) in
      let own : AllByRecursion (λ e. e.process ≡ me) y.0 = all_left _ y.0 z.0 (all_right _ x.0 (y.0 ++ z.0)
      (subst (λ (l : List Event). AllByRecursion (λ e. e.process ≡ me) l) (same_rest old quiet.more (x.0 ++ (y.0 ++ z.0)) (sym quiet.grown ∙ whole)) quiet.own)) in
      let asked : AllByRecursion (λ e. (is_foreign me e || asks e.request) ≡ true) y.0 = all_left _ y.0 z.0 (all_right _ x.0 (y.0 ++ z.0)
      (subst (λ (l : List Event). AllByRecursion (λ e. (is_foreign me e || asks e.request) ≡ true) l) (same_rest old ext.more (x.0 ++ (y.0 ++ z.0)) (sym ext.grown ∙ whole)) ext.asked)) in
      let here : state_after b ≡ states_next (state_after a) y.0 = ap state_after y.1 ∙ states_next-append empty_state a y.0 in
      subst (λ (s : DirState). Q s.namespace.folders) (sym here) (kept_all me (state_after a) y.0 own asked q)

-- just after the own move was answered Ok none stands where it moved from, and after the own removal none where it removed
pub after_move : (from to : Spot) → spot_eq to from ≡ false → {me : ℕ} {old new : List Event} → CallStep me old (MoveFolder from to) Done new → NoneAt from (state_after new).namespace.folders
after_move from to apart {me} {old} {new} s = by s.own
  where
    by : TookPlace s.before me (MoveFolder from to) Done new ⊎ LeftNothing s.before me (MoveFolder from to) Done new → NoneAt from (state_after new).namespace.folders
    by (inr left) = let clash : false ≡ true = left.late in cc
    by (inl took) = subst (λ (x : DirState). NoneAt from x.namespace.folders) (sym (ap state_after took.grown ∙ state_after-push s.before (event me (MoveFolder from to) Done)))
        (moved_away from to apart (state_after s.before).namespace.folders)

pub after_removal : (spot : Spot) {me : ℕ} {old new : List Event} → CallStep me old (RemoveFolder spot) Done new → NoneAt spot (state_after new).namespace.folders
after_removal spot {me} {old} {new} s = by s.own
  where
    by : TookPlace s.before me (RemoveFolder spot) Done new ⊎ LeftNothing s.before me (RemoveFolder spot) Done new → NoneAt spot (state_after new).namespace.folders
    by (inr left) = let clash : false ≡ true = left.late in cc
    by (inl took) = subst (λ (x : DirState). NoneAt spot x.namespace.folders) (sym (ap state_after took.grown ∙ state_after-push s.before (event me (RemoveFolder spot) Done)))
        (removed_there spot (state_after s.before).namespace.folders)

-- none stands any more where a removal took its image from, nor where it put it
module _ (key : StoreKey) (draw : PodId) where
  abbrev home : Spot
  home = image_spot key

  abbrev away : Spot
  away = away_spot draw

  abbrev Both : List (Option Spot) → Type 0
  Both folders = NoneAt home folders × NoneAt away folders

  abbrev Own : Request → Type 0
  Own request = (is_kill request || in_process (removes_at key draw) request) ≡ true

  -- an own move is from the image's place, and so it moves nothing where none stands there
  same_after_move : (a b : Spot) (folders : List (Option Spot)) → Own (MoveFolder a b) → NoneAt home folders → map (moved a b) folders ≡ folders
  same_after_move a b folders h none =
      let m : (spot_eq a home && spot_eq b away) ≡ true = or_nothing _ (or_nothing (removes_at key draw (MoveFolder a b)) h) in
      moves_nothing a b folders (subst (λ (x : Spot). NoneAt x folders) (sym (one_location a home (and_left (spot_eq a home) (spot_eq b away) m))) none)

  none_kept : (p : ℕ) (w : Namespace) (request : Request) (reply : Reply) → Own request → NoneAt home w.folders → NoneAt home (namespace_replied w p request reply).folders
  none_kept p w (MakeFolder here) reply h none = cc
  none_kept p w (MoveFolder a b) Done h none = subst (λ (fs : List (Option Spot)). NoneAt home fs) (sym (same_after_move a b w.folders h none)) none
  none_kept p w (MoveFolder a b) reply h none = none
  none_kept p w (RemoveFolder gone) Done h none = removal_keeps home gone w.folders none
  none_kept p w (RemoveFolder gone) reply h none = none
  none_kept p w request reply h none = subst (λ (fs : List (Option Spot)). NoneAt home fs) (sym (same_folders p w request reply refl (λ handle. refl))) none

  both_kept : (p : ℕ) (w : Namespace) (request : Request) (reply : Reply) → Own request → Both w.folders → Both (namespace_replied w p request reply).folders
  both_kept p w (MakeFolder here) reply h both = cc
  both_kept p w (MoveFolder a b) Done h both = subst Both (sym (same_after_move a b w.folders h both.0)) both
  both_kept p w (MoveFolder a b) reply h both = both
  both_kept p w (RemoveFolder gone) Done h both = (removal_keeps home gone w.folders both.0, removal_keeps away gone w.folders both.1)
  both_kept p w (RemoveFolder gone) reply h both = both
  both_kept p w request reply h both = subst Both (sym (same_folders p w request reply refl (λ handle. refl))) both

  module _ {me : ℕ} {old new : List Event} (ext : Extends (in_process (removes_at key draw)) me old new) (quiet : Quiet me old new) (m : Meanwhile (RemovesStoredImage key draw) me old new) where
    abbrev between : List Event
    between = m.so.between

    put : WasCalled (puts_away key draw) Done me m.begun between
    put = m.so.moved

    started : Upto old put.after
    started = upto_more old m.begun put.after (m.begins.more, m.begins.grown) (upto_more m.begun put.before put.after (put.earlier, put.begins) (upto_call put.step))

    to_between : Upto old between
    to_between = upto_more old put.after between started (put.later, put.ends)

    last : Upto m.ended new
    last = (m.finishes.more, m.finishes.grown)

    none_home : (b : List Event) → Upto between b → Upto b new → NoneAt home (state_after b).namespace.folders
    none_home b y z =
        kept_between (NoneAt home) (in_process (removes_at key draw)) none_kept old put.after b new ext quiet started (upto_more put.after between b (put.later, put.ends) y) z
        (after_move home away refl put.step)

    none_both : (b : List Event) → Upto between b → Upto b new → NoneAt away (state_after b).namespace.folders → Both (state_after new).namespace.folders
    none_both b y z none =
        kept_between Both (in_process (removes_at key draw)) both_kept old b new new ext quiet (upto_more old between b to_between y) z ([], sym (append-nil new))
        (none_home b y z, none)

    abbrev Ends : Type 0
    Ends = IsImageAbsent key (state_after new) × ((folder_at (state_after new).namespace away ≡ None) ⊎ IsBusyElsewhere me Removed Exclusive (state_after old))

    both_ends : Both (state_after new).namespace.folders → Ends
    both_ends both = (absent_at (state_after new).namespace home both.0, inl (absent_at (state_after new).namespace away both.1))

    pub removal_ends : Ends
    removal_ends = by m.so.gone
      where
        gone : IsGone away me between m.ended → Ends
        gone (inl called) =
            let y = upto_more between called.before called.after (called.earlier, called.begins) (upto_call called.step) in
            both_ends (none_both called.after y (upto_more called.after m.ended new (called.later, called.ends) last) (after_removal away called.step))
        gone (inr at) =
            let b = at.before ++ at.step ∷ [] in
            let y : Upto between b = (at.later ++ at.step ∷ [], ap (λ (h : List Event). h ++ at.step ∷ []) at.begins ∙ append_assoc between at.later (at.step ∷ [])) in
            both_ends (none_both b y (upto_more b m.ended new (at.rest, at.ends) last) (at_absent (state_after b).namespace away (none_stands (state_after b).namespace away at.holds)))

        by : IsGone away me between m.ended ⊎ AtOwnStep me between m.ended (IsBusyElsewhere me Removed Exclusive) → Ends
        by (inl x) = gone x
        by (inr at) =
            let whole = at_within {P = IsBusyElsewhere me Removed Exclusive} to_between.0 last.0 to_between.1 last.1 at in
            let b = at.before ++ at.step ∷ [] in
            let y : Upto between b = (at.later ++ at.step ∷ [], ap (λ (h : List Event). h ++ at.step ∷ []) at.begins ∙ append_assoc between at.later (at.step ∷ [])) in
            let z = upto_more b m.ended new (at.rest, at.ends) last in
            (absent_at (state_after new).namespace home (none_home new (upto_more between b new y z) ([], sym (append-nil new))), inr (held_before (is_against Removed Exclusive) whole quiet))

leaves_folders : (request : Request) (reply : Reply) → (is_kill request || (is_begin request || is_taking_area Images Exclusive request)) ≡ true → (p : ℕ) (w : Namespace) → (namespace_replied w p request reply).folders ≡ w.folders
leaves_folders (MakeFolder here) reply h p w = cc
leaves_folders (MoveFolder a b) reply h p w = cc
leaves_folders (RemoveFolder gone) reply h p w = cc
leaves_folders request reply h p w = same_folders p w request reply refl (λ handle. refl)

abbrev before_move : Request → Bool
before_move request = is_begin request || is_taking_area Images Exclusive request

all_leave : (me : ℕ) (asks : Request → Bool) → ((r : Request) → asks r ≡ true → before_move r ≡ true) → (es : List Event) → AllByRecursion (λ e. e.process ≡ me) es → AllByRecursion (λ e. (is_foreign me e || asks e.request) ≡ true) es → AllByRecursion Leaves es
all_leave me asks wider [] own asked = tt
all_leave me asks wider (e ∷ es) own asked = (λ p w. leaves_folders e.request e.reply mine p w, all_leave me asks wider es own.1 asked.1)
  where
    by : (kill asked : Bool) → (asked ≡ true → before_move e.request ≡ true) → (kill || asked) ≡ true → (kill || before_move e.request) ≡ true
    by true asked wide h = refl
    by false true wide h = wide refl
    by false false wide h = cc

    mine : (is_kill e.request || before_move e.request) ≡ true
    mine = by (is_kill e.request) (asks e.request) (wider e.request)
        (ap (λ b. (not b || is_kill e.request) || asks e.request) (sym (same_self me))
        ∙ (ap (λ (q : ℕ). (not (q == me) || is_kill e.request) || asks e.request) (sym own.0) ∙ asked.0))

all_foreign : (me : ℕ) (es : List Event) → AllByRecursion (λ e. is_foreign me e ≡ true) es → AllByRecursion (λ e. (is_foreign me e || false) ≡ true) es
all_foreign me [] foreign = tt
all_foreign me (e ∷ es) foreign = (by (is_foreign me e) foreign.0, all_foreign me es foreign.1)
  where
    by : (b : Bool) → b ≡ true → (b || false) ≡ true
    by true h = refl
    by false h = cc

begin_first : (r : Request) → is_begin r ≡ true → before_move r ≡ true
begin_first r h = by (is_begin r) h
  where
    by : (b : Bool) → b ≡ true → (b || is_taking_area Images Exclusive r) ≡ true
    by true k = refl
    by false k = cc

-- no image had the key before, where none had it when its own move was answered so
module _ (key : StoreKey) (draw : PodId) {me : ℕ} {old new : List Event} (quiet : Quiet me old new) (m : Meanwhile (FoundNoImage key draw) me old new) where
  abbrev f : FoundNoImage key draw me m.begun m.ended
  f = m.so

  abbrev call : CallStep me f.before (puts_away key draw) (Refused Missing 0) f.after
  call = f.told.told

  abbrev step : Event
  step = event me (puts_away key draw) (Refused Missing 0)

  abbrev front : List Event
  front = m.begins.more ++ (f.first.more ++ (call.meanwhile.others ++ step ∷ []))

  rest_of : Upto f.after new
  rest_of = upto_more f.after m.ended new (f.last.more, f.last.grown) (m.finishes.more, m.finishes.grown)

  at_before : f.before ≡ old ++ (m.begins.more ++ f.first.more)
  at_before = f.first.grown ∙ (ap (λ (h : List Event). h ++ f.first.more) m.begins.grown ∙ append_assoc old m.begins.more f.first.more)

  grown_by : TookPlace call.before me (puts_away key draw) (Refused Missing 0) f.after → f.after ≡ f.before ++ (call.meanwhile.others ++ step ∷ [])
  grown_by took = took.grown ∙ (ap (λ (h : List Event). h ++ step ∷ []) call.meanwhile.grown ∙ append_assoc f.before call.meanwhile.others (step ∷ []))

  own_front : TookPlace call.before me (puts_away key draw) (Refused Missing 0) f.after → AllByRecursion (λ e. e.process ≡ me) front
  own_front took =
      let whole : new ≡ old ++ (front ++ rest_of.0) = rest_of.1 ∙ (ap (λ (h : List Event). h ++ rest_of.0) (grown_by took ∙ ap (λ (h : List Event). h ++ (call.meanwhile.others ++ step ∷ [])) at_before) ∙ simp append_assoc) in
      all_left _ front rest_of.0 (subst (λ (l : List Event). AllByRecursion (λ e. e.process ≡ me) l) (same_rest old quiet.more (front ++ rest_of.0) (sym quiet.grown ∙ whole)) quiet.own)

  leaves_call : TookPlace call.before me (puts_away key draw) (Refused Missing 0) f.after → AllByRecursion Leaves (call.meanwhile.others ++ step ∷ [])
  leaves_call took =
      let own = all_right _ f.first.more (call.meanwhile.others ++ step ∷ []) (all_right _ m.begins.more (f.first.more ++ (call.meanwhile.others ++ step ∷ [])) (own_front took)) in
      all_both Leaves call.meanwhile.others (step ∷ [])
      (all_leave me (λ r. false) (λ r h. cc) call.meanwhile.others (all_left _ call.meanwhile.others (step ∷ []) own) (all_foreign me call.meanwhile.others call.meanwhile.foreign))
      ((λ p w. refl), tt)

  leaves_before : TookPlace call.before me (puts_away key draw) (Refused Missing 0) f.after → AllByRecursion Leaves (m.begins.more ++ f.first.more)
  leaves_before took =
      let own = own_front took in
      let later = all_right _ m.begins.more (f.first.more ++ (call.meanwhile.others ++ step ∷ [])) own in
      all_both Leaves m.begins.more f.first.more
      (all_leave me is_begin begin_first m.begins.more (all_left _ m.begins.more (f.first.more ++ (call.meanwhile.others ++ step ∷ [])) own) m.begins.asked)
      (all_leave me (is_taking_area Images Exclusive) (λ r h. or_last (is_begin r) (is_taking_area Images Exclusive r) h) f.first.more (all_left _ f.first.more (call.meanwhile.others ++ step ∷ []) later) f.first.asked)

  pub none_before : IsImageAbsent key (state_after old)
  none_before = by call.own
    where
      by : TookPlace call.before me (puts_away key draw) (Refused Missing 0) f.after ⊎ LeftNothing call.before me (puts_away key draw) (Refused Missing 0) f.after → IsImageAbsent key (state_after old)
      by (inr left) = let clash : false ≡ true = left.late in cc
      by (inl took) =
          let at = f.told.absent in
          let es = at.later ++ at.step ∷ [] in
          let parted : call.meanwhile.others ++ step ∷ [] ≡ es ++ at.rest = same_rest f.before (call.meanwhile.others ++ step ∷ []) (es ++ at.rest)
          (sym (grown_by took) ∙ (at.ends ∙ (ap (λ (h : List Event). (h ++ at.step ∷ []) ++ at.rest) at.begins ∙ simp append_assoc))) in
          let leaves : AllByRecursion Leaves ((m.begins.more ++ f.first.more) ++ es) = all_both Leaves (m.begins.more ++ f.first.more) es (leaves_before took)
          (all_left Leaves es at.rest (subst (λ (l : List Event). AllByRecursion Leaves l) parted (leaves_call took))) in
          let here : at.before ++ at.step ∷ [] ≡ old ++ ((m.begins.more ++ f.first.more) ++ es) = ap (λ (h : List Event). h ++ at.step ∷ []) at.begins ∙ (ap (λ (h : List Event). (h ++ at.later) ++ at.step ∷ []) at_before ∙ simp append_assoc) in
          let same : (state_after (at.before ++ at.step ∷ [])).namespace.folders ≡ (state_after old).namespace.folders =
          ap (λ (s : DirState). s.namespace.folders) (ap state_after here ∙ states_next-append empty_state old ((m.begins.more ++ f.first.more) ++ es)) ∙ leaves_same (state_after old) ((m.begins.more ++ f.first.more) ++ es) leaves in
          ap (λ (fs : List (Option Spot)). position (is_at (image_spot key)) fs) (sym same) ∙ at.holds
