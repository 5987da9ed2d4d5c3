-- A started app's folder stands in run or in a garbage place, or is gone: no maker's folder has one, and nothing stored.
use Rattle.std.proofs.Common.{◌≡◌, ◌⊎◌, inl, inr, ℕ, Bool, true, false, ◌==◌, cond, Option, Some, None, option_map, option_to_list, unwrap_or, List, [], ◌∷◌, ◌++◌, slice_get, drop, length, append-nil, refl, sym, ap, subst, ◌∙◌}
use Rattle.std.proofs.lemmas.Option.{slice_get-map}
use Rattle.plain_laws.proofs.Booleans.{clash}
use Rattle.plain_laws.proofs.Lists.{get_pushed}
use Rattle.dir_model.specs.declared.area.Area.{Area}
use Rattle.dir_model.specs.declared.area.Area.TheVariants as area
use Rattle.dir_model.specs.declared.event.Event.{Event}
use Rattle.dir_model.specs.declared.spot.Spot.{Spot}
use Rattle.dir_model.specs.declared.request.Request.{Request}
use Rattle.dir_model.specs.declared.request.Request.TheVariants.{MakeFolder, MoveFolder, Open, OpenArea, MakeDirIn, MakeFileIn, AppendIn, SyncIn, RemoveFileIn, RemoveDirIn, RemoveFolder}
use Rattle.dir_model.specs.declared.request.Reply.{Reply}
use Rattle.dir_model.specs.declared.request.Reply.TheVariants.{Done, Opened}
use Rattle.dir_model.specs.Areas.{is_run_or_later}
use Rattle.dir_model.specs.State.{Namespace, DirState, folder_at, spot_eq, is_at}
use Rattle.dir_model.specs.Trees.{is_apps_own, app_root, mark_prefix}
use Rattle.dir_model.specs.Trace.{state_after, namespace_replied, moved, removed, is_mark, marked_app, app_started}
use Rattle.dir_model.specs.Replies.{is_own_at, is_apps_request}
use Rattle.dir_model.specs.Calls.{is_kill}
use Rattle.dir_model.proofs.Chains.{state_after-push}
use Rattle.dir_model.proofs.Lists.{and_right, any_last_not, same_number}
use Rattle.dir_rules.specs.declared.seen.Making.{Making}
use Rattle.dir_rules.specs.declared.seen.Seen.{Seen}
use Rattle.dir_rules.specs.Seen.{makes_at, is_making_area}
use Rattle.dir_rules.specs.Anomalies.{folder_of}
use Rattle.dir_rules.specs.Rules.{allows, contents_allow_move}
use Rattle.dir_rules.specs.Conforms.{seen_of}
use Rattle.lifecycle.specs.Executions.{IsConforming}
use Rattle.folder_contents.proofs.Along.{along, happens}
use Rattle.folder_contents.proofs.Places.{located}
use Rattle.folder_contents.proofs.Spots.{one_location}
use Rattle.folder_contents.proofs.Handed.{brought}
use Rattle.folder_contents.proofs.Marked.{has_app, own_has_app}
use Rattle.impossible_replies.specs.Replies.{is_of_making}

-- in run or later, or gone
abbrev has_run : Option Spot → Bool
has_run None = true
has_run (Some here) = is_run_or_later here.area

abbrev HasRun : Namespace → ℕ → Type 0
HasRun n k = (y : Option Spot) × ((slice_get n.folders k ≡ Some y) × (has_run y ≡ true))

-- from run a move leads on
runs_on : (s : Seen) (from to : Spot) (a b : Area) → contents_allow_move s from to a b ≡ true → is_run_or_later a ≡ true → is_run_or_later b ≡ true
runs_on s from to area.Run area.ExitedGarbage h r = refl
runs_on s from to area.Run b h r = cc
runs_on s from to area.ExitedGarbage b h r = cc
runs_on s from to area.Garbage b h r = cc
runs_on s from to a b h r = cc

run_next : (n : Namespace) (p : ℕ) (g : Seen) (request : Request) (reply : Reply) (k : ℕ) → (is_kill request ≡ false → allows g request ≡ true) →
    HasRun n k → HasRun (namespace_replied n p request reply) k
run_next n p g (MakeFolder spot) Done k may r = (r.0, (get_pushed n.folders (Some spot) r.0 k r.1.0, r.1.1))
run_next n p g (MoveFolder from to) Done k may r =
    (moved from to r.0, (slice_get-map (moved from to) n.folders k ∙ ap (option_map (moved from to)) r.1.0, on r.0 (is_at from r.0) refl r.1.1))
  where
    on : (y : Option Spot) (b : Bool) → is_at from y ≡ b → has_run y ≡ true → has_run (cond b (Some to) y) ≡ true
    on None true e q = cc
    on None false e q = q
    on (Some here) false e q = q
    on (Some here) true e q = runs_on g from to from.area to.area (brought g from to (may refl))
        (subst (λ (z : Spot). is_run_or_later z.area ≡ true) (one_location here from e) q)
run_next n p g (RemoveFolder gone) Done k may r =
    (removed gone r.0, (slice_get-map (removed gone) n.folders k ∙ ap (option_map (removed gone)) r.1.0, on (is_at gone r.0)))
  where
    on : (b : Bool) → has_run (cond b None r.0) ≡ true
    on true = refl
    on false = r.1.1
run_next n p g (Open spot which) (Opened h) k may r = r
run_next n p g (OpenArea a) (Opened h) k may r = r
run_next n p g request (Opened h) k may r = r
run_next n p g request Done k may r = r
run_next n p g request reply k may r = r

-- an app that was started before, or is started now
app_next : (s : DirState) (request : Request) (reply : Reply) (k : ℕ) → has_app k (s.apps ++ option_to_list (app_started s.namespace request reply)) ≡ true →
    (has_app k s.apps ≡ true) ⊎ HasRun s.namespace k
app_next s (MakeFileIn i) Done k h = runs (is_run_or_later i.spot.area) refl h
  where
    none : has_app k (s.apps ++ []) ≡ true → (has_app k s.apps ≡ true) ⊎ HasRun s.namespace k
    none h = inl (ap (has_app k) (sym (append-nil s.apps)) ∙ h)

    last : (f : ℕ) → folder_at s.namespace i.spot ≡ Some f → is_run_or_later i.spot.area ≡ true → (b : Bool) → (f == k) ≡ b →
        has_app k (s.apps ++ record { folder = f; root = app_root (drop (length mark_prefix) i.path) } ∷ []) ≡ true →
        (has_app k s.apps ≡ true) ⊎ HasRun s.namespace k
    last f found run true e h =
        let l = located s.namespace i.spot k (found ∙ ap Some (same_number f k e)) in
        inr (Some l.0, (l.1.0, subst (λ (z : Spot). is_run_or_later z.area ≡ true) (sym (one_location l.0 i.spot l.1.1)) run))
    last f found run false e h =
        inl (sym (any_last_not (λ a. a.folder == k) s.apps (record { folder = f; root = app_root (drop (length mark_prefix) i.path) }) e) ∙ h)

    marks : (f : ℕ) → folder_at s.namespace i.spot ≡ Some f → is_run_or_later i.spot.area ≡ true → (b : Bool) →
        has_app k (s.apps ++ option_to_list (cond b (Some (record { folder = f; root = app_root (drop (length mark_prefix) i.path) })) None)) ≡ true →
        (has_app k s.apps ≡ true) ⊎ HasRun s.namespace k
    marks f found run true h = last f found run (f == k) refl h
    marks f found run false h = none h

    by : (o : Option ℕ) → folder_at s.namespace i.spot ≡ o → is_run_or_later i.spot.area ≡ true → has_app k (s.apps ++ option_to_list (marked_app o i.path)) ≡ true →
        (has_app k s.apps ≡ true) ⊎ HasRun s.namespace k
    by None found run h = none h
    by (Some f) found run h = marks f found run (is_mark i.path) h

    runs : (b : Bool) → is_run_or_later i.spot.area ≡ b → has_app k (s.apps ++ option_to_list (cond b (marked_app (folder_at s.namespace i.spot) i.path) None)) ≡ true →
        (has_app k s.apps ≡ true) ⊎ HasRun s.namespace k
    runs true run h = by (folder_at s.namespace i.spot) refl run h
    runs false run h = none h
app_next s request reply k h = inl (ap (has_app k) (sym (append-nil s.apps)) ∙ h)

abbrev AppsRun : List Event → Type 0
AppsRun h = (k : ℕ) → has_app k (state_after h).apps ≡ true → HasRun (state_after h).namespace k

apps_run : (trace : List Event) → IsConforming trace → AppsRun trace
apps_run trace conforming = along AppsRun (λ k h. cc) next trace conforming
  where
    next : (h : List Event) (e : Event) → IsConforming (h ++ e ∷ []) → AppsRun h → AppsRun (h ++ e ∷ [])
    next h e c all k app =
        let x = happens h e c in
        let push = state_after-push h e in
        subst (λ (s : DirState). HasRun s.namespace k) (sym push)
        (run_next (state_after h).namespace e.process (seen_of e.process h) e.request e.reply k x.may
        (by (app_next (state_after h) e.request e.reply k (subst (λ (s : DirState). has_app k s.apps ≡ true) push app))))
      where
        by : (has_app k (state_after h).apps ≡ true) ⊎ HasRun (state_after h).namespace k → HasRun (state_after h).namespace k
        by (inl old) = all k old
        by (inr new) = new

-- elsewhere nothing is a started app's
pub no_app : (h : List Event) → IsConforming h → (spot : Spot) (path : List ℕ) → is_run_or_later spot.area ≡ false →
    is_own_at (state_after h) path (folder_at (state_after h).namespace spot) ≡ false
no_app h conforming spot path off = by (folder_at (state_after h).namespace spot) refl
  where
    by : (o : Option ℕ) → folder_at (state_after h).namespace spot ≡ o → is_own_at (state_after h) path o ≡ false
    by None at = refl
    by (Some k) at = own (is_apps_own (state_after h).apps k path) refl
      where
        one : (x y : Option Spot) → Some x ≡ Some y → x ≡ y
        one x y e = ap (λ o. unwrap_or o x) e

        own : (b : Bool) → is_apps_own (state_after h).apps k path ≡ b → b ≡ false
        own false e = refl
        own true e =
            let r = apps_run h conforming k (own_has_app (state_after h).apps k path e) in
            let l = located (state_after h).namespace spot k at in
            let here : r.0 ≡ Some l.0 = one r.0 (Some l.0) (sym r.1.0 ∙ l.1.0) in
            clash (is_run_or_later spot.area)
            (subst (λ (z : Spot). is_run_or_later z.area ≡ true) (one_location l.0 spot l.1.1) (subst (λ (o : Option Spot). has_run o ≡ true) here r.1.1)) off

making_first : (a : Area) → is_making_area a ≡ true → is_run_or_later a ≡ false
making_first area.Embryo h = refl
making_first area.Prepare h = refl
making_first area.Incoming h = refl
making_first a h = cc

-- so no request about the folder that a process makes is at a started app's root
pub making_plain : (h : List Event) → IsConforming h → (s : Seen) (request : Request) → is_of_making s (folder_of request) ≡ true →
    is_apps_request (state_after h) request ≡ false
making_plain h conforming s request its = by request its
  where
    made : (spot : Spot) → makes_at s.making spot ≡ true → is_run_or_later spot.area ≡ false
    made spot its = of s.making its
      where
        of : (o : Option Making) → makes_at o spot ≡ true → is_run_or_later spot.area ≡ false
        of None h = cc
        of (Some m) h = making_first spot.area (and_right (spot_eq m.spot spot) (is_making_area spot.area) h)

    by : (request : Request) → is_of_making s (folder_of request) ≡ true → is_apps_request (state_after h) request ≡ false
    by (MoveFolder from to) its = refl
    by (MakeDirIn i) its = no_app h conforming i.spot i.path (made i.spot its)
    by (MakeFileIn i) its = no_app h conforming i.spot i.path (made i.spot its)
    by (AppendIn i piece) its = no_app h conforming i.spot i.path (made i.spot its)
    by (SyncIn i) its = no_app h conforming i.spot i.path (made i.spot its)
    by (RemoveFileIn i) its = no_app h conforming i.spot i.path (made i.spot its)
    by (RemoveDirIn i) its = no_app h conforming i.spot i.path (made i.spot its)
    by (RemoveFolder spot) its = refl
    by request its = cc
