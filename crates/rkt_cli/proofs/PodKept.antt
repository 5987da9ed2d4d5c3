-- Where nobody else steps, a process that prepares a pod leaves it in prepared as it brought it there.
use Rattle.std.proofs.Common.{◌≡◌, ℕ, Bool, true, false, not, ◌&&◌, ◌||◌, ◌==◌, Some, List, [], ◌∷◌, ◌++◌, append-nil, append_assoc, refl, sym, ap, subst, ◌∙◌}
use Rattle.std.specs.List.{AllByRecursion}
use Rattle.ac_types.specs.declared.image_ref.ImageRef.{ImageRef}
use Rattle.dir_model.specs.declared.area.Area.TheVariants.{Embryo, Prepare, Prepared}
use Rattle.dir_model.specs.declared.event.Event.{Event}
use Rattle.dir_model.specs.declared.pod.PodId.{PodId}
use Rattle.dir_model.specs.declared.spot.Spot.{Spot}
use Rattle.dir_model.specs.declared.request.Request.{Request}
use Rattle.dir_model.specs.declared.request.Request.TheVariants.{MoveFolder, RemoveFolder}
use Rattle.dir_model.specs.declared.request.Reply.{Reply}
use Rattle.dir_model.specs.declared.request.Reply.TheVariants.{Done}
use Rattle.dir_model.specs.Calls.{event, is_foreign, is_kill, Extends}
use Rattle.dir_model.specs.Quiet.{Quiet}
use Rattle.dir_model.specs.State.{folder_at, spot_eq}
use Rattle.dir_model.specs.Trace.{state_after}
use Rattle.dir_model.proofs.Lists.{all_right, same_rest, same_self}
use Rattle.lifecycle.specs.Executions.{IsConforming}
use Rattle.lifecycle.proofs.Draws.{conforming_left}
use Rattle.folder_contents.specs.Entries.{entries_in}
use Rattle.folder_contents.specs.Handing.{then_moved}
use Rattle.folder_contents.specs.UnderGate.{is_taken_from}
use Rattle.folder_contents.proofs.Along.{happens}
use Rattle.folder_contents.proofs.Spots.{one_location}
use Rattle.folder_contents.proofs.Unmoved.{unmoved}
use Rattle.dir_model.specs.Spots.{pod_spot}
use Rattle.pod_build.specs.Preparations.{IsPrepared}
use Rattle.commands.specs.Prepare.{prepares_pod}
use Rattle.commands.specs.PrepareQuiet.{StandsPrepared}
use Rattle.commands.proofs.OwnSteps.{in_process}
use Rattle.pod_manifest.specs.Wishes.{Wishes}

module _ (draw : PodId) where
  abbrev spot : Spot
  spot = pod_spot draw Prepared

  abbrev asks : Request → Bool
  asks = in_process (prepares_pod draw)

  -- its moves begin in embryo or in prepare, and it removes no folder
  moves_away : (from to : Spot) → asks (MoveFolder from to) ≡ true → spot_eq from spot ≡ false
  moves_away from to h =
      by (spot_eq from (pod_spot draw Embryo)) (spot_eq to (pod_spot draw Prepare)) (spot_eq from (pod_spot draw Prepare)) (spot_eq to (pod_spot draw Prepared)) refl refl h
    where
      by : (a b c d : Bool) → spot_eq from (pod_spot draw Embryo) ≡ a → spot_eq from (pod_spot draw Prepare) ≡ c →
          ((((a && b) || ((c && d) || false)) || false) || false) ≡ true → spot_eq from spot ≡ false
      by true b c d e f h = subst (λ (z : Spot). spot_eq z spot ≡ false) (sym (one_location from (pod_spot draw Embryo) e)) refl
      by false b true d e f h = subst (λ (z : Spot). spot_eq z spot ≡ false) (sym (one_location from (pod_spot draw Prepare) f)) refl
      by false b false d e f h = cc

  asked_leaves : (request : Request) (reply : Reply) → asks request ≡ true → is_taken_from spot request reply ≡ false
  asked_leaves (MoveFolder from to) Done h = moves_away from to h
  asked_leaves (RemoveFolder gone) reply h = cc
  asked_leaves request reply h = refl

  kill_leaves : (request : Request) (reply : Reply) → is_kill request ≡ true → is_taken_from spot request reply ≡ false
  kill_leaves (MoveFolder from to) reply h = cc
  kill_leaves (RemoveFolder gone) reply h = cc
  kill_leaves request reply h = refl

  own_leaves : (me : ℕ) (e : Event) → e.process ≡ me → (is_foreign me e || asks e.request) ≡ true → is_taken_from spot e.request e.reply ≡ false
  own_leaves me e mine asked =
      by (is_kill e.request) (asks e.request) refl refl
      (ap (λ b. (not b || is_kill e.request) || asks e.request) (sym (same_self me))
      ∙ (ap (λ (q : ℕ). (not (q == me) || is_kill e.request) || asks e.request) (sym mine) ∙ asked))
    where
      by : (kill own : Bool) → is_kill e.request ≡ kill → asks e.request ≡ own → (kill || own) ≡ true → is_taken_from spot e.request e.reply ≡ false
      by true own k m h = kill_leaves e.request e.reply k
      by false true k m h = asked_leaves e.request e.reply m
      by false false k m h = cc

  abbrev Stands : ℕ → List Event → List Event → Type 0
  Stands folder before after =
      (folder_at (state_after after).namespace spot ≡ Some folder) × (entries_in folder (state_after after).entries ≡ entries_in folder (state_after before).entries)

  stands_on : (me folder : ℕ) (before more : List Event) → IsConforming (before ++ more) → AllByRecursion (λ e. e.process ≡ me) more →
      AllByRecursion (λ e. (is_foreign me e || asks e.request) ≡ true) more → folder_at (state_after before).namespace spot ≡ Some folder → Stands folder before (before ++ more)
  stands_on me folder before [] conforming own asked at = subst (λ (h : List Event). Stands folder before h) (sym (append-nil before)) (at, refl)
  stands_on me folder before (e ∷ es) conforming own asked at =
      let whole : before ++ (e ∷ es) ≡ (before ++ e ∷ []) ++ es = sym (append_assoc before (e ∷ []) es) in
      let all : IsConforming ((before ++ e ∷ []) ++ es) = subst IsConforming whole conforming in
      let one = unmoved before e (happens before e (conforming_left (before ++ e ∷ []) es all)) spot folder refl at (own_leaves me e own.0 asked.0) in
      let rest = stands_on me folder (before ++ e ∷ []) es all own.1 asked.1 one.0 in
      subst (λ (h : List Event). Stands folder before h) (sym whole) (rest.0, rest.1 ∙ one.1)

  -- the pod that came
  pub pod_stands : {me : ℕ} {old new : List Event} {refs : List ImageRef} {wishes : Wishes} (ext : Extends asks me old new) → Quiet me old new → IsConforming new →
      (x : IsPrepared refs wishes me draw Prepared old new) → StandsPrepared x (state_after new)
  pod_stands {me} {old} {new} {refs} {wishes} ext quiet conforming x =
      let own : AllByRecursion (λ e. e.process ≡ me) ext.more =
      subst (λ (l : List Event). AllByRecursion (λ e. e.process ≡ me) l) (same_rest old quiet.more ext.more (sym quiet.grown ∙ ext.grown)) quiet.own in
      let step : Event = event me (MoveFolder (pod_spot draw Prepare) spot) Done in
      let first : List Event = then_moved x.before me (pod_spot draw Prepare) spot in
      let whole : new ≡ first ++ x.later = x.moved ∙ sym (append_assoc x.before (step ∷ []) x.later) in
      let parted : ext.more ≡ (x.meanwhile ++ step ∷ []) ++ x.later = same_rest old ext.more ((x.meanwhile ++ step ∷ []) ++ x.later)
      (sym ext.grown ∙ (x.moved ∙ (ap (λ (h : List Event). h ++ step ∷ x.later) x.begins ∙ simp append_assoc))) in
      let mine = all_right _ (x.meanwhile ++ step ∷ []) x.later (subst (λ (l : List Event). AllByRecursion (λ e. e.process ≡ me) l) parted own) in
      let asked = all_right _ (x.meanwhile ++ step ∷ []) x.later
      (subst (λ (l : List Event). AllByRecursion (λ e. (is_foreign me e || asks e.request) ≡ true) l) parted ext.asked) in
      let s = stands_on me x.folder first x.later (subst IsConforming whole conforming) mine asked x.stands in
      let t = subst (λ (h : List Event). Stands x.folder first h) (sym whole) s in
      record { stands = t.0; holds = t.1 ∙ x.holds }
