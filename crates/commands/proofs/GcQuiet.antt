-- What `gc` comes to where nobody else steps.
use Rattle.std.proofs.Common.{◌≡◌, ◌⊎◌, inl, inr, ◌+◌, ℕ, Bool, true, false, ◌&&◌, ◌||◌, ◌==◌, cond, bytes_eq, map, Option, Some, None, is_some, List, [], ◌∷◌, ◌++◌, append-nil, append_assoc, refl, sym, ap, subst, ◌∙◌}
use Rattle.std.specs.List.{list_any, position_from, cons_option, AllByRecursion}
use Rattle.std.proofs.lemmas.Iterator.Adapters.{position_from-zero}
use Rattle.std.proofs.lemmas.Slice.Eq.{bytes_eq-Decides}
use Rattle.plain_laws.proofs.Texts.{same_bytes}
use Rattle.plain_laws.proofs.Booleans.{or_nothing}
use Rattle.dir_model.specs.declared.area.Area.{Area}
use Rattle.dir_model.specs.declared.area.Area.TheVariants as area
use Rattle.dir_model.specs.declared.area.Phase.{Phase}
use Rattle.dir_model.specs.declared.area.Phase.TheVariants as kind
use Rattle.dir_model.specs.declared.event.Event.{Event}
use Rattle.dir_model.specs.declared.pod.PodId.{PodId}
use Rattle.dir_model.specs.declared.spot.Mode.TheVariants.{Exclusive}
use Rattle.dir_model.specs.declared.spot.Spot.{Spot}
use Rattle.dir_model.specs.declared.request.Request.{Request}
use Rattle.dir_model.specs.declared.request.Request.TheVariants.{MakeFolder, MoveFolder, RemoveFolder, ListArea}
use Rattle.dir_model.specs.declared.request.Reply.{Reply}
use Rattle.dir_model.specs.declared.request.Reply.TheVariants.{Done, Names}
use Rattle.dir_model.specs.Areas.{rank, is_stage}
use Rattle.dir_model.specs.Calls.{event, is_kill, is_foreign, CallStep, TookPlace, LeftNothing, Extends}
use Rattle.dir_model.specs.Listings.{has_name}
use Rattle.dir_model.specs.Pods.{pod_text, pod_of_text}
use Rattle.dir_model.specs.Quiet.{Quiet}
use Rattle.dir_model.specs.State.{Namespace, DirState, empty_state, is_at, spot_eq, folder_at, stands}
use Rattle.dir_model.specs.Trace.{state_after, state_next, states_next, namespace_replied}
use Rattle.dir_model.specs.Trees.{names_in}
use Rattle.dir_model.proofs.Allowed.{allowed_reply}
use Rattle.dir_model.proofs.Chains.{states_next-append, state_after-push}
use Rattle.dir_model.proofs.Lists.{or_left_false, or_right_false, all_both, all_right, all_weaker, same_rest}
use Rattle.dir_rules.specs.Standing.{is_garbage}
use Rattle.dir_laws.specs.Stretches.{Throughout, StandsInArea}
use Rattle.dir_files.specs.Listed.{ShowsArea}
use Rattle.dir_files.specs.AreaLocks.{is_against, IsBusyElsewhere}
use Rattle.lifecycle.specs.declared.machine.PodState.{PodState}
use Rattle.lifecycle.specs.declared.machine.PodState.TheVariants as state
use Rattle.lifecycle.specs.PodMachine.{pod_state, phase_of_state}
use Rattle.lifecycle.specs.Executions.{IsConforming}
use Rattle.lifecycle.proofs.Draws.{conforming_left}
use Rattle.lifecycle.proofs.Step.{stands_from}
use Rattle.lifecycle.proofs.Places.{none_stands, moved_away, moved_elsewhere, removed_there, removed_elsewhere}
use Rattle.dir_model.specs.Spots.{pod_spot}
use Rattle.phase_read.proofs.Exact.{event_within}
use Rattle.pod_locks.specs.Work.{Grew}
use Rattle.pod_locks.proofs.Times.{at_part}
use Rattle.pod_locks.proofs.Traces.{grown_none, grown_more, grown_by, grown_call}
use Rattle.pod_locks.specs.Causes.{Did}
use Rattle.pod_gc.specs.declared.ages.Times.{Times}
use Rattle.pod_gc.specs.declared.line.Deed.{Deed}
use Rattle.pod_gc.specs.declared.line.Deed.TheVariants.{Moved, Deleted, Kept, Busy, BusyGate, Left}
use Rattle.pod_gc.specs.declared.line.GcLine.{GcLine}
use Rattle.pod_gc.specs.Requests.{lists_pod_area, moves_pods, sweeps}
use Rattle.pod_gc.specs.Deeds.{Dealt}
use Rattle.pod_gc.specs.Sweeping.{MaySweepAll}
use Rattle.pod_gc.specs.Told.{Knew, and_pod, pods_of, IsLineOfTurn, TellsShown, UnderGate, PassedOverPods, ArePassed, places}
use Rattle.command_outcomes.specs.Meanwhile.{Meanwhile}
use Rattle.commands.specs.Gc.{SweepsByPasses}
use Rattle.commands.specs.RemovalQuiet.{is_lasting_phase, KeptAsBefore, MovedAsBefore}
use Rattle.commands.proofs.OwnSteps.{in_process, back_from, own_asked, quiet_part, own_first, forward, at_process, same_folders, held_before}
use Rattle.commands.proofs.LateTurns.{is_lasting, lasting_back, sweeps_late, embryo_apart}
use Rattle.commands.proofs.RmBefore.{has_phase_now}
use Rattle.pod_lookup.proofs.Names.{text_back}
use Rattle.metadata.proofs.Views.{event_so}

-- names and pods

none_from : (t : Option Spot → Bool) (i : ℕ) (xs : List (Option Spot)) → list_any t xs ≡ false → position_from t i xs ≡ None
none_from t i [] none = refl
none_from t i (x ∷ xs) none = rw (or_left_false (t x) (list_any t xs) none, none_from t (i + 1) xs (or_right_false (t x) (list_any t xs) none)) refl

absent_at : (n : Namespace) (spot : Spot) → list_any (is_at spot) n.folders ≡ false → folder_at n spot ≡ None
absent_at n spot none = position_from-zero (is_at spot) n.folders ∙ none_from (is_at spot) 0 n.folders none

pub named_at : (a : Area) (name : List ℕ) (places : List (Option Spot)) → has_name (names_in a places) name ≡ list_any (is_at (record { area = a; name = name })) places
named_at a name [] = refl
named_at a name (None ∷ places) = named_at a name places
named_at a name (Some here ∷ places) = by (rank here.area == rank a) (named_at a name places)
  where
    by : (b : Bool) → has_name (names_in a places) name ≡ list_any (is_at (record { area = a; name = name })) places →
        has_name (cons_option (cond b (Some here.name) None) (names_in a places)) name ≡ ((b && bytes_eq here.name name) || list_any (is_at (record { area = a; name = name })) places)
    by true go = ap (λ c. bytes_eq here.name name || c) go
    by false go = go

-- the line of a pod whose name was shown
module _ (P : GcLine → Type 0) (name : List ℕ) (pod : PodId) (its : pod_of_text name ≡ Some pod) where
  line_of : (names : List (List ℕ)) (lines : List GcLine) → map (λ (l : GcLine). l.pod) lines ≡ map (λ (p : PodId). Some p) (pods_of names) → AllByRecursion P lines → has_name names name ≡ true → (line : GcLine) × P line × (line.pod ≡ Some pod)
  line_of [] lines are all shown = cc
  line_of (n ∷ ns) lines are all shown = by (bytes_eq n name) refl (pod_of_text n) refl lines are all shown (λ ls a b h. line_of ns ls a b h)
    where
      Rest : Type 0
      Rest = (ls : List GcLine) → map (λ (l : GcLine). l.pod) ls ≡ map (λ (p : PodId). Some p) (pods_of ns) → AllByRecursion P ls → has_name ns name ≡ true → (line : GcLine) × P line × (line.pod ≡ Some pod)

      by : (b : Bool) → bytes_eq n name ≡ b → (o : Option PodId) → pod_of_text n ≡ o → (ls : List GcLine) → map (λ (l : GcLine). l.pod) ls ≡ map (λ (p : PodId). Some p) (and_pod o (pods_of ns)) → AllByRecursion P ls → (b || has_name ns name) ≡ true → Rest →
          (line : GcLine) × P line × (line.pod ≡ Some pod)
      by true same None no_pod ls are all shown rest = let clash : Some pod ≡ None = sym its ∙ (ap pod_of_text (sym ((bytes_eq-Decides n name).0 same)) ∙ no_pod) in cc
      by true same (Some q) that [] are all shown rest = cc
      by true same (Some q) that (l ∷ ls) are all shown rest =
          let first : l.pod ≡ Some q = cc in
          (l, all.0, first ∙ (sym that ∙ (ap pod_of_text ((bytes_eq-Decides n name).0 same) ∙ its)))
      by false apart None that ls are all shown rest = rest ls are all shown
      by false apart (Some q) that [] are all shown rest = cc
      by false apart (Some q) that (l ∷ ls) are all shown rest =
          let tail : map (λ (l : GcLine). l.pod) ls ≡ map (λ (p : PodId). Some p) (pods_of ns) = cc in
          rest ls tail all.1 shown

-- no folder comes to embryo by a sweep

abbrev InEmbryo : List ℕ → Spot
InEmbryo name = record { area = area.Embryo; name = name }

abbrev NoneIn : List ℕ → DirState → Type 0
NoneIn name s = folder_at s.namespace (InEmbryo name) ≡ None

none_kept : (now : ℕ) (name : List ℕ) (me : ℕ) (s : DirState) (request : Request) (reply : Reply) → (is_kill request || in_process (sweeps now) request) ≡ true → NoneIn name s → folder_at (namespace_replied s.namespace me request reply) (InEmbryo name) ≡ None
none_kept now name me s (MakeFolder here) reply h none = cc
none_kept now name me s (MoveFolder from to) Done h none = by (spot_eq from (InEmbryo name)) refl
  where
    off : spot_eq to (InEmbryo name) ≡ false
    off = ap (λ b. b && bytes_eq to.name name) (embryo_apart to.area ((sweeps_late now).moves from to (or_nothing (sweeps now (MoveFolder from to)) h)))

    by : (b : Bool) → spot_eq from (InEmbryo name) ≡ b → folder_at (namespace_replied s.namespace me (MoveFolder from to) Done) (InEmbryo name) ≡ None
    by true is = moved_away s.namespace (InEmbryo name) from to off is
    by false is = moved_elsewhere s.namespace (InEmbryo name) from to off is ∙ none
none_kept now name me s (MoveFolder from to) reply h none = none
none_kept now name me s (RemoveFolder gone) Done h none = by (spot_eq gone (InEmbryo name)) refl
  where
    by : (b : Bool) → spot_eq gone (InEmbryo name) ≡ b → folder_at (namespace_replied s.namespace me (RemoveFolder gone) Done) (InEmbryo name) ≡ None
    by true is = removed_there s.namespace (InEmbryo name) gone is
    by false is = removed_elsewhere s.namespace (InEmbryo name) gone is ∙ none
none_kept now name me s (RemoveFolder gone) reply h none = none
none_kept now name me s request reply h none = ap (λ (fs : List (Option Spot)). folder_at (record s.namespace { folders = fs }) (InEmbryo name)) (same_folders me s.namespace request reply refl (λ handle. refl)) ∙ none

-- a moment at which none stood there, and what came after
pub record NoneSince (name : List ℕ) (old new : List Event) : Type 0 where
  pub at : List Event
  pub first : Grew old at
  pub last : Grew at new
  pub none : NoneIn name (state_after at)

move_leaves : (pod : PodId) (to : Area) (me : ℕ) (old new : List Event) → to ≡ area.Garbage → Did (MoveFolder (pod_spot pod area.Embryo) (pod_spot pod to)) Done me old new → NoneSince (pod_text pod.bytes) old new
move_leaves pod to me old new garbage did = by did.each.3.own
  where
    from : Spot
    from = pod_spot pod area.Embryo

    e : Event
    e = event me (MoveFolder from (pod_spot pod to)) Done

    off : spot_eq (pod_spot pod to) from ≡ false
    off = ap (λ (a : Area). (rank a == rank area.Embryo) && bytes_eq (pod_text pod.bytes) (pod_text pod.bytes)) garbage

    same : spot_eq from from ≡ true
    same = same_bytes (pod_text pod.bytes)

    by : TookPlace did.each.3.before me (MoveFolder from (pod_spot pod to)) Done did.each.1 ⊎ LeftNothing did.each.3.before me (MoveFolder from (pod_spot pod to)) Done did.each.1 → NoneSince (pod_text pod.bytes) old new
    by (inr left) = let clash : false ≡ true = left.late in cc
    by (inl took) = record {
      at = did.each.1;
      first = grown_more did.each.2 (grown_call did.each.3);
      last = did.each.4;
      none = subst (λ (s : DirState). NoneIn (pod_text pod.bytes) s) (sym (ap state_after took.grown ∙ state_after-push did.each.3.before e)) (moved_away (state_after did.each.3.before).namespace from from (pod_spot pod to) off same);
    }

-- whatever is said of it, it isn't there any more
deed_leaves : (times : Times) (pod : PodId) (deed : Deed) (me : ℕ) (old new : List Event) → Dealt times pod area.Embryo deed me old new → NoneSince (pod_text pod.bytes) old new
deed_leaves times pod (Moved to) me old new d = let m = d.cause.moved to refl in move_leaves pod to me old new m.1 m.2
deed_leaves times pod Deleted me old new d = let clash : false ≡ true = (d.cause.deleted refl).0 in cc
deed_leaves times pod (Kept p) me old new d = let clash : false ≡ true = (d.cause.kept p refl).0 in cc
deed_leaves times pod (Busy which) me old new d = let clash : false ≡ true = d.let_be.busy which refl in cc
deed_leaves times pod BusyGate me old new d = absurd (d.cause.gate refl)
deed_leaves times pod Left me old new d =
    let at = d.cause.left refl in
    record {
      at = at.before ++ at.step ∷ [];
      first = record { more = at.later ++ at.step ∷ []; grown = ap (λ (h : List Event). h ++ at.step ∷ []) at.begins ∙ append_assoc old at.later (at.step ∷ []) };
      last = record { more = at.rest; grown = at.ends };
      none = none_stands (state_after (at.before ++ at.step ∷ [])).namespace (pod_spot pod area.Embryo) at.holds;
    }

-- a listing leaves each folder where it is

abbrev pub Leaves : Event → Type 0
Leaves e = (p : ℕ) (w : Namespace) → (namespace_replied w p e.request e.reply).folders ≡ w.folders

pub list_leaves : (a : Area) (request : Request) (reply : Reply) → (is_kill request || lists_pod_area a request) ≡ true → (p : ℕ) (w : Namespace) → (namespace_replied w p request reply).folders ≡ w.folders
list_leaves a (MakeFolder here) reply h p w = cc
list_leaves a (MoveFolder from to) reply h p w = cc
list_leaves a (RemoveFolder gone) reply h p w = cc
list_leaves a request reply h p w = same_folders p w request reply refl (λ handle. refl)

pub lists_leave : (me : ℕ) (a : Area) (es : List Event) → AllByRecursion (λ e. e.process ≡ me) es → AllByRecursion (λ e. (is_foreign me e || lists_pod_area a e.request) ≡ true) es → AllByRecursion Leaves es
lists_leave me a [] own asked = tt
lists_leave me a (e ∷ es) own asked = (λ p w. list_leaves a e.request e.reply (own_asked (lists_pod_area a) me e own.0 asked.0) p w, lists_leave me a es own.1 asked.1)

pub leaves_same : (s : DirState) (es : List Event) → AllByRecursion Leaves es → (states_next s es).namespace.folders ≡ s.namespace.folders
leaves_same s [] leave = refl
leaves_same s (e ∷ es) leave = leaves_same (state_next s e) es leave.1 ∙ leave.0 e.process s.namespace

pub throughout_same : (a : Area) (name : List ℕ) (s : DirState) (es rest : List Event) → AllByRecursion Leaves (es ++ rest) → StandsInArea a name s → Throughout (StandsInArea a name) s es
throughout_same a name s [] rest leave at = at
throughout_same a name s (e ∷ es) rest leave at =
    (at, throughout_same a name (state_next s e) es rest leave.1 (subst (λ (fs : List (Option Spot)). has_name (names_in a fs) name ≡ true) (sym (leave.0 e.process s.namespace)) at))

-- what stands after a listing it has shown
pub shown_in : (me : ℕ) (a : Area) (name : List ℕ) (names : List (List ℕ)) (old new : List Event) (x : Extends (lists_pod_area a) me old new) → AllByRecursion (λ e. e.process ≡ me) x.more → ShowsArea me old new a names → StandsInArea a name (state_after new) → has_name names name ≡ true
shown_in me a name names old new x own shows at =
    let t = shows.stretch in
    let last = event me (ListArea a) (Names names) in
    let parted : x.more ≡ t.earlier ++ (t.others ++ last ∷ []) = same_rest old x.more (t.earlier ++ (t.others ++ last ∷ [])) (sym x.grown ∙ (t.ends ∙ (ap (λ (h : List Event). (h ++ t.others) ++ last ∷ []) t.begins ∙ simp append_assoc))) in
    let later : AllByRecursion Leaves (t.others ++ last ∷ []) = all_right Leaves t.earlier (t.others ++ last ∷ []) (subst (λ (l : List Event). AllByRecursion Leaves l) parted (lists_leave me a x.more own x.asked)) in
    let here : state_after new ≡ states_next (state_after t.begun) (t.others ++ last ∷ []) = ap state_after (t.ends ∙ append_assoc t.begun t.others (last ∷ [])) ∙ states_next-append empty_state t.begun (t.others ++ last ∷ []) in
    let same : (state_after new).namespace.folders ≡ (state_after t.begun).namespace.folders = ap (λ (s : DirState). s.namespace.folders) here ∙ leaves_same (state_after t.begun) (t.others ++ last ∷ []) later in
    shows.all name (throughout_same a name (state_after t.begun) t.others (last ∷ []) later (subst (λ (fs : List (Option Spot)). has_name (names_in a fs) name ≡ true) same at))

-- after the pass over embryo none stands there
module _ (Can : Type 0) (times : Times) (lines : List GcLine) (me : ℕ) (locked done : List Event) (t : TellsShown Can times area.Embryo lines me locked done) (quiet : Quiet me locked done) (name : List ℕ) (pod : PodId) (its : pod_of_text name ≡ Some pod) where
  to_done : Grew t.listed done
  to_done = grown_by t.tells.only

  by_line : has_name t.names name ≡ true → NoneSince name t.listed done
  by_line shown =
      let x = line_of (λ l. IsLineOfTurn Can times area.Embryo t.names l me t.listed done) name pod its t.names lines t.tells.pods_are t.tells.each shown in
      let l = x.1 in
      let same : l.shown ≡ pod = let e : Some l.shown ≡ Some pod = sym l.pod_is ∙ x.2 in cc in
      let y = deed_leaves times l.shown x.0.deed me l.from l.upto l.dealt in
      subst (λ (n : List ℕ). NoneSince n t.listed done) (ap (λ (p : PodId). pod_text p.bytes) same ∙ text_back name pod its) (record { at = y.at; first = grown_more (grown_by l.first) y.first; last = grown_more y.last (grown_by l.last); none = y.none })

  none_since : NoneSince name t.listed done
  none_since = by (has_name (names_in area.Embryo (state_after t.listed).namespace.folders) name) refl
    where
      by : (b : Bool) → has_name (names_in area.Embryo (state_after t.listed).namespace.folders) name ≡ b → NoneSince name t.listed done
      by true is = by_line (shown_in me area.Embryo name t.names locked t.listed t.only_lists (own_first quiet (record { more = t.only_lists.more; grown = t.only_lists.grown }) to_done) t.shows is)
      by false is = record {
        at = t.listed;
        first = grown_none;
        last = to_done;
        none = absent_at (state_after t.listed).namespace (InEmbryo name) (sym (named_at area.Embryo name (state_after t.listed).namespace.folders) ∙ is);
      }

-- no folder comes to a place from which a pass moves pods

pub moved_apart : (place a : Area) → moves_pods place ≡ true → is_garbage a ≡ true → (rank a == rank place) ≡ false
moved_apart area.Embryo a moves is = embryo_apart a is
moved_apart area.Prepare area.ExitedGarbage moves is = refl
moved_apart area.Prepare area.Garbage moves is = refl
moved_apart area.Prepare a moves is = cc
moved_apart area.Prepared area.ExitedGarbage moves is = refl
moved_apart area.Prepared area.Garbage moves is = refl
moved_apart area.Prepared a moves is = cc
moved_apart area.Run area.ExitedGarbage moves is = refl
moved_apart area.Run area.Garbage moves is = refl
moved_apart area.Run a moves is = cc
moved_apart place a moves is = cc

module _ (now : ℕ) (pod : PodId) (place : Area) (moves : moves_pods place ≡ true) (me : ℕ) where
  abbrev its_place : Spot
  its_place = pod_spot pod place

  pub stood_back : (s : DirState) (request : Request) (reply : Reply) → (is_kill request || in_process (sweeps now) request) ≡ true → stands (namespace_replied s.namespace me request reply) its_place ≡ true → stands s.namespace its_place ≡ true
  stood_back s (MakeFolder here) reply h there = cc
  stood_back s (MoveFolder from to) Done h there = by (spot_eq from its_place) refl
    where
      off : spot_eq to its_place ≡ false
      off = ap (λ b. b && bytes_eq to.name (pod_text pod.bytes)) (moved_apart place to.area moves ((sweeps_late now).moves from to (or_nothing (sweeps now (MoveFolder from to)) h)))

      by : (b : Bool) → spot_eq from its_place ≡ b → stands s.namespace its_place ≡ true
      by true is = let clash : false ≡ true = sym (ap (λ (o : Option ℕ). is_some o) (moved_away s.namespace its_place from to off is)) ∙ there in cc
      by false is = sym (ap (λ (o : Option ℕ). is_some o) (moved_elsewhere s.namespace its_place from to off is)) ∙ there
  stood_back s (MoveFolder from to) reply h there = there
  stood_back s (RemoveFolder gone) Done h there = by (spot_eq gone its_place) refl
    where
      by : (b : Bool) → spot_eq gone its_place ≡ b → stands s.namespace its_place ≡ true
      by true is = let clash : false ≡ true = sym (ap (λ (o : Option ℕ). is_some o) (removed_there s.namespace its_place gone is)) ∙ there in cc
      by false is = sym (ap (λ (o : Option ℕ). is_some o) (removed_elsewhere s.namespace its_place gone is)) ∙ there
  stood_back s (RemoveFolder gone) reply h there = there
  stood_back s request reply h there = ap (λ (fs : List (Option Spot)). stands (record s.namespace { folders = fs }) its_place) (sym (same_folders me s.namespace request reply refl (λ handle. refl))) ∙ there

-- just before an own move the pod stood where it was moved from
stood_moved : (pod : PodId) (place to : Area) (me : ℕ) (old new : List Event) → Did (MoveFolder (pod_spot pod place) (pod_spot pod to)) Done me old new → (b : List Event) × Grew old b × Grew b new × (stands (state_after b).namespace (pod_spot pod place) ≡ true)
stood_moved pod place to me old new did = by s.own
  where
    s : CallStep me did.each.0 (MoveFolder (pod_spot pod place) (pod_spot pod to)) Done did.each.1
    s = did.each.3

    e : Event
    e = event me (MoveFolder (pod_spot pod place) (pod_spot pod to)) Done

    by : TookPlace s.before me (MoveFolder (pod_spot pod place) (pod_spot pod to)) Done did.each.1 ⊎ LeftNothing s.before me (MoveFolder (pod_spot pod place) (pod_spot pod to)) Done did.each.1 →
        (b : List Event) × Grew old b × Grew b new × (stands (state_after b).namespace (pod_spot pod place) ≡ true)
    by (inr left) = let clash : false ≡ true = left.late in cc
    by (inl took) = (
      s.before,
      grown_more did.each.2 (record { more = s.meanwhile.others; grown = s.meanwhile.grown }),
      grown_more (record { more = e ∷ []; grown = took.grown }) did.each.4,
      (stands_from (state_after s.before) me (pod_spot pod place) (pod_spot pod to) (allowed_reply (state_after s.before) me (MoveFolder (pod_spot pod place) (pod_spot pod to)) Done took.allowed)).0,
    )

-- how far the trace has grown

pub shown_grown : {Can : Type 0} {times : Times} {here : Area} {lines : List GcLine} {me : ℕ} {a b : List Event} → TellsShown Can times here lines me a b → Grew a b
shown_grown t = grown_more (grown_by t.only_lists) (grown_by t.tells.only)

pub under_grown : {Can : Type 0} {times : Times} {lines : List GcLine} {me : ℕ} {a b : List Event} → UnderGate Can times lines me a b → Grew a b
under_grown x = grown_more (grown_by x.takes_gate) (grown_more (shown_grown x.tells) (grown_by x.gives_back))

pub passed_grown : (Can : Type 0) (times : Times) (here : Area) (lines : List GcLine) (me : ℕ) (a b : List Event) → PassedOverPods Can times here lines me a b → Grew a b
passed_grown Can times area.Embryo lines me a b (inl x) = under_grown x
passed_grown Can times area.Embryo lines me a b (inr x) = grown_by x.only
passed_grown Can times here lines me a b x = shown_grown x

pub passes_grown : (Can : Type 0) (times : Times) (ps : List Area) (lines : List GcLine) (me : ℕ) (a b : List Event) → ArePassed Can times ps lines me a b → Grew a b
passes_grown Can times [] lines me a b x = record { more = []; grown = x.1 ∙ sym (append-nil a) }
passes_grown Can times (here ∷ ps) lines me a b x = grown_more (passed_grown Can times here x.own me a x.between x.first) (passes_grown Can times ps x.others me x.between b x.rest)

-- of each line, whatever others did
module _ (times : Times) (lines : List GcLine) {me : ℕ} {old new : List Event} (m : Meanwhile (SweepsByPasses times lines) me old new) where
  module _ (P : GcLine → Type 0)
      (told : (Can : Type 0) (can : Can) (here : Area) → is_stage here ≡ true → (ls : List GcLine) (a b : List Event) → Grew old a → Grew b new → (t : TellsShown Can times here ls me a b) → (line : GcLine) → IsLineOfTurn Can times here t.names line me t.listed b → P line)
      (embryo_under_lock : P (record { place = area.Embryo; pod = None; deed = BusyGate })) where
    shown_each : {Can : Type 0} (can : Can) (here : Area) → is_stage here ≡ true → (ls : List GcLine) (a b : List Event) → Grew old a → Grew b new → TellsShown Can times here ls me a b → AllByRecursion P ls
    shown_each {Can} can here stage ls a b to_a from_b t = all_weaker (λ l. IsLineOfTurn Can times here t.names l me t.listed b) P (λ l x. told Can can here stage ls a b to_a from_b t l x) ls t.tells.each

    passed_each : (Can : Type 0) (can : Can) (here : Area) → is_stage here ≡ true → (ls : List GcLine) (a b : List Event) → Grew old a → Grew b new → PassedOverPods Can times here ls me a b → AllByRecursion P ls
    passed_each Can can area.Embryo stage ls a b to_a from_b (inl g) = shown_each can area.Embryo stage ls g.locked g.done (grown_more to_a (grown_by g.takes_gate)) (grown_more (grown_by g.gives_back) from_b) g.tells
    passed_each Can can area.Embryo stage ls a b to_a from_b (inr w) = subst (λ (l : List GcLine). AllByRecursion P l) (sym w.line_is) (embryo_under_lock, tt)
    passed_each Can can here stage ls a b to_a from_b t = shown_each can here stage ls a b to_a from_b t

    passes_each : (Can : Type 0) (can : Can) (ps : List Area) → AllByRecursion (λ (p : Area). is_stage p ≡ true) ps → (ls : List GcLine) (a b : List Event) → Grew old a → Grew b new → ArePassed Can times ps ls me a b → AllByRecursion P ls
    passes_each Can can [] stages ls a b to_a from_b x = subst (λ (l : List GcLine). AllByRecursion P l) (sym x.0) tt
    passes_each Can can (here ∷ ps) stages ls a b to_a from_b x =
        let rest = passes_grown Can times ps x.others me x.between b x.rest in
        let first = passed_grown Can times here x.own me a x.between x.first in
        subst (λ (l : List GcLine). AllByRecursion P l) (sym x.lines_are)
        (all_both P x.own x.others (passed_each Can can here stages.0 x.own a x.between to_a (grown_more rest from_b) x.first) (passes_each Can can ps stages.1 x.others x.between b (grown_more to_a first) from_b x.rest))

    pub lines_shown : AllByRecursion P lines
    lines_shown = passes_each (Knew (MaySweepAll times.now times.expire) m.so.from) m.so.can places (refl, (refl, (refl, (refl, (refl, (refl, tt)))))) lines m.begun m.ended (record { more = m.begins.more; grown = m.begins.grown }) (record { more = m.finishes.more; grown = m.finishes.grown }) m.so.swept

  pub lines_told : (P : GcLine → Type 0) → ((Can : Type 0) (can : Can) (here : Area) (names : List (List ℕ)) (a b : List Event) → Grew old a → Grew b new → (line : GcLine) → IsLineOfTurn Can times here names line me a b → P line)
      → P (record { place = area.Embryo; pod = None; deed = BusyGate }) → AllByRecursion P lines
  lines_told P told embryo_under_lock = lines_shown P (λ Can can here stage ls a b to_a from_b t line x. told Can can here t.names t.listed b (grown_more to_a (grown_by t.only_lists)) from_b line x) embryo_under_lock

module _ (times : Times) (lines : List GcLine) {me : ℕ} {old new : List Event} (ext : Extends (in_process (sweeps times.now)) me old new) (quiet : Quiet me old new) (m : Meanwhile (SweepsByPasses times lines) me old new) where
  abbrev asks : Request → Bool
  asks = in_process (sweeps times.now)

  before : Grew old m.begun
  before = record { more = m.begins.more; grown = m.begins.grown }

  after : Grew m.ended new
  after = record { more = m.finishes.more; grown = m.finishes.grown }

  embryos_left : (b : List Event) → Grew b m.ended → {X : Type 0} → PassedOverPods X times area.Embryo m.so.swept.own me m.begun b → (X) →
      ((name : List ℕ) (pod : PodId) → pod_of_text name ≡ Some pod → NoneIn name (state_after new)) ⊎ IsBusyElsewhere me area.Embryo Exclusive (state_after old)
  embryos_left b more {X} (inr w) can =
      inr (held_before (is_against area.Embryo Exclusive) (at_process m.begins m.finishes (at_part grown_none refl more (w.another can))) ext quiet)
  embryos_left b more {X} (inl g) can = inl (λ name pod its.
      let to_locked = grown_more before (grown_by g.takes_gate) in
      let rest = grown_more (grown_by g.gives_back) (grown_more more after) in
      let whole = grown_more (shown_grown g.tells) rest in
      let part : Quiet me g.locked g.done =
      record { more = (shown_grown g.tells).more; grown = (shown_grown g.tells).grown; own = own_first (quiet_part quiet to_locked whole) (shown_grown g.tells) rest } in
      let y = none_since X times m.so.swept.own me g.locked g.done g.tells part name pod its in
      forward (NoneIn name) asks me (λ s request reply h none. none_kept times.now name me s request reply h none) y.at
      (grown_more to_locked (grown_more (grown_by g.tells.only_lists) y.first)) (grown_more y.last rest) ext quiet y.none)

  abbrev later_places : List Area
  later_places = area.Prepare ∷ area.Prepared ∷ area.Run ∷ area.ExitedGarbage ∷ area.Garbage ∷ []

  pub gc_embryos : ((name : List ℕ) (pod : PodId) → pod_of_text name ≡ Some pod → folder_at (state_after new).namespace (record { area = area.Embryo; name = name }) ≡ None) ⊎ IsBusyElsewhere me area.Embryo Exclusive (state_after old)
  gc_embryos =
      let x = m.so.swept in
      embryos_left x.between (passes_grown (Knew (MaySweepAll times.now times.expire) m.so.from) times later_places x.others me x.between m.ended x.rest) x.first m.so.can

  -- a pod that was moved stood there before
  told_moved : {Can : Type 0} {here : Area} {names : List (List ℕ)} (a b : List Event) → Grew old a → Grew b new → (line : GcLine) → IsLineOfTurn Can times here names line me a b → MovedAsBefore old line
  told_moved {Can} {here} {names} a b to_a from_b line x pod to is deed =
      let same : x.shown ≡ pod = let e : Some x.shown ≡ Some pod = sym x.pod_is ∙ is in cc in
      let c = x.dealt.cause.moved to deed in
      let y = stood_moved x.shown here to me x.from x.upto c.2 in
      let stood = back_from (λ s. stands s.namespace (pod_spot x.shown here) ≡ true) asks me (λ s request reply h there. stood_back times.now x.shown here c.0 me s request reply h there) y.0
      (grown_more to_a (grown_more (grown_by x.first) y.1)) (grown_more y.2 (grown_more (grown_by x.last) from_b)) ext quiet y.3 in
      subst (λ (p : Area). stands (state_after old).namespace (pod_spot pod p) ≡ true) (sym x.place_is) (subst (λ (q : PodId). stands (state_after old).namespace (pod_spot q here) ≡ true) same stood)

  pub each_shown : (P : GcLine → Type 0)
      → ((Can : Type 0) (can : Can) (here : Area) → is_stage here ≡ true → (ls : List GcLine) (a b : List Event) → Grew old a → Grew b new → (t : TellsShown Can times here ls me a b) → (line : GcLine) → IsLineOfTurn Can times here t.names line me t.listed b → P line)
      → P (record { place = area.Embryo; pod = None; deed = BusyGate }) → AllByRecursion P lines
  each_shown P told embryo_under_lock = lines_shown times lines m P told embryo_under_lock

  pub each_line : (P : GcLine → Type 0) → ((Can : Type 0) (can : Can) (here : Area) (names : List (List ℕ)) (a b : List Event) → Grew old a → Grew b new → (line : GcLine) → IsLineOfTurn Can times here names line me a b → P line)
      → P (record { place = area.Embryo; pod = None; deed = BusyGate }) → AllByRecursion P lines
  each_line P told embryo_under_lock = lines_told times lines m P told embryo_under_lock

  pub gc_moved : AllByRecursion (MovedAsBefore old) lines
  gc_moved = each_line (MovedAsBefore old) (λ Can can here names a b to_a from_b line x. told_moved a b to_a from_b line x) (λ pod to is deed. cc)

  -- a pod that is kept for being made, for waiting or for running
  module _ (conforming : IsConforming new) where
    before_new : (b : List Event) → Grew b new → IsConforming b
    before_new b more = conforming_left b more.more (subst IsConforming more.grown conforming)

    lasting_of : (p : Phase) → is_lasting_phase p ≡ true → (x : PodState) → phase_of_state x ≡ Some p → is_lasting me x ≡ true
    lasting_of p lasts (state.Preparing owner) is = refl
    lasting_of p lasts state.Prepared is = refl
    lasting_of p lasts (state.Running owner) is = refl
    lasting_of p lasts (state.Embryo maker) is = refl
    lasting_of p lasts state.Absent is = refl
    lasting_of p lasts state.AbortedPrepare is = let same : kind.AbortedPrepare ≡ p = cc in let clash : false ≡ true = ap is_lasting_phase same ∙ lasts in cc
    lasting_of p lasts state.Exited is = let same : kind.Exited ≡ p = cc in let clash : false ≡ true = ap is_lasting_phase same ∙ lasts in cc
    lasting_of p lasts state.ExitedGarbage is = let same : kind.ExitedGarbage ≡ p = cc in let clash : false ≡ true = ap is_lasting_phase same ∙ lasts in cc
    lasting_of p lasts state.Garbage is = let same : kind.Garbage ≡ p = cc in let clash : false ≡ true = ap is_lasting_phase same ∙ lasts in cc
    lasting_of p lasts (state.Deleting owner from) is = let same : kind.Deleting ≡ p = cc in let clash : false ≡ true = ap is_lasting_phase same ∙ lasts in cc
    lasting_of p lasts state.Gone is = cc

    told_kept : {Can : Type 0} {here : Area} {names : List (List ℕ)} (a b : List Event) → Grew old a → Grew b new → (line : GcLine) → IsLineOfTurn Can times here names line me a b → KeptAsBefore old line
    told_kept {Can} {here} {names} a b to_a from_b line x pod p is deed lasts =
        let same : x.shown ≡ pod = let e : Some x.shown ≡ Some pod = sym x.pod_is ∙ is in cc in
        let first = grown_more to_a (grown_by x.first) in
        let last = grown_more (grown_by x.last) from_b in
        let at = (x.dealt.cause.kept p deed).1 (before_new x.upto last) in
        let u = pod_text x.shown.bytes in
        let moment = event_within first.more last.more first.grown last.grown (event_so (λ h. (phase_of_state (pod_state u h) ≡ Some p) × (is_lasting me (pod_state u h) ≡ true)) (λ h y. (y.is, lasting_of p lasts (pod_state u h) y.is)) at) in
        let had = lasting_back (sweeps times.now) (sweeps_late times.now) u (λ s. phase_of_state s ≡ Some p) moment ext quiet in
        has_phase_now pod old (conforming_left old quiet.more (subst IsConforming quiet.grown conforming)) p (subst (λ (q : PodId). phase_of_state (pod_state (pod_text q.bytes) old) ≡ Some p) same had)

    pub gc_kept : AllByRecursion (KeptAsBefore old) lines
    gc_kept = each_line (KeptAsBefore old) (λ Can can here names a b to_a from_b line x. told_kept a b to_a from_b line x) (λ pod p is deed lasts. cc)
