-- Where nobody else steps, a pod that was claimed waited in prepared before, and is left in run.
use Rattle.std.proofs.Common.{◌≡◌, ◌⊎◌, inl, inr, ℕ, Bool, true, false, ◌&&◌, ◌||◌, Option, Some, None, is_some, List, [], ◌∷◌, ◌++◌, refl, sym, ap, subst, ◌∙◌, append_assoc}
use Rattle.plain_laws.proofs.Texts.{same_bytes}
use Rattle.plain_laws.proofs.Booleans.{or_nothing}
use Rattle.dir_model.specs.declared.area.Area.TheVariants as area
use Rattle.dir_model.specs.declared.area.Phase.TheVariants as phase
use Rattle.dir_model.specs.declared.event.Event.{Event}
use Rattle.dir_model.specs.declared.pod.PodId.{PodId}
use Rattle.dir_model.specs.declared.spot.Handle.{Handle}
use Rattle.dir_model.specs.declared.spot.Spot.{Spot}
use Rattle.dir_model.specs.declared.request.Request.{Request}
use Rattle.dir_model.specs.declared.request.Request.TheVariants.{MakeFolder, MoveFolder, RemoveFolder, Finish}
use Rattle.dir_model.specs.declared.request.Reply.{Reply}
use Rattle.dir_model.specs.declared.request.Reply.TheVariants.{Done}
use Rattle.dir_model.specs.Calls.{event, is_kill, Extends, CallStep, TookPlace, LeftNothing}
use Rattle.dir_model.specs.Pods.{pod_text}
use Rattle.dir_model.specs.Quiet.{Quiet}
use Rattle.dir_model.specs.State.{DirState, spot_eq, folder_at}
use Rattle.dir_model.specs.Trace.{state_after, namespace_replied}
use Rattle.dir_model.proofs.Lists.{and_left, and_right}
use Rattle.dir_model.proofs.Moments.{some_number}
use Rattle.folder_contents.proofs.Spots.{one_location}
use Rattle.lifecycle.specs.declared.machine.PodState.TheVariants as state
use Rattle.lifecycle.specs.PodMachine.{pod_state, arrival}
use Rattle.lifecycle.proofs.Opens.{prepared_is}
use Rattle.lifecycle.proofs.Phases.{stands_exists}
use Rattle.lifecycle.proofs.Places.{moved_away}
use Rattle.pod_locks.specs.ClaimRequests.{in_prepared, in_run, claims}
use Rattle.pod_locks.specs.Work.{Grew, TookBoth}
use Rattle.pod_locks.proofs.Traces.{grown_more, grown_call}
use Rattle.pod_locks.proofs.Outcomes.{place_waiting}
use Rattle.commands.proofs.OwnSteps.{in_process, back_from, same_folders}
use Rattle.commands.specs.RunPrepared.{runs_prepared}
use Rattle.lifecycle.specs.Executions.{IsConforming}
use Rattle.commands.specs.ClaimTable.{claim_error}
use Rattle.commands.specs.RunQuiet.{HasPassed}
use Rattle.commands.proofs.EndsQuiet.{MakesNoNote}
use Rattle.commands.proofs.NotesStand.{RemovesNothing}
use Rattle.commands.proofs.Passing.{Leaves, is_unmarked, is_past, left_in_run, stood_before, phase_at}

-- its move
claim_moves : (pod : PodId) (from to : Spot) → runs_prepared pod (MoveFolder from to) ≡ true → (from ≡ in_prepared pod) × (to ≡ in_run pod)
claim_moves pod from to h =
    let both = or_nothing (spot_eq (in_prepared pod) from && spot_eq (in_run pod) to) h in (
      sym (one_location (in_prepared pod) from (and_left (spot_eq (in_prepared pod) from) (spot_eq (in_run pod) to) both)),
      sym (one_location (in_run pod) to (and_right (spot_eq (in_prepared pod) from) (spot_eq (in_run pod) to) both)),
    )

pub claim_leaves : (pod : PodId) → Leaves (in_run pod) (runs_prepared pod)
claim_leaves pod = record {
  moves = λ from to h. subst (λ (x : Spot). spot_eq x (in_run pod) ≡ false) (sym (claim_moves pod from to h).0) refl;
  marks = λ from to h. subst (λ (x : Spot). is_unmarked (arrival x.area) ≡ true) (sym (claim_moves pod from to h).1) refl;
  removes = λ spot h. cc;
}

pub claim_removes : (pod : PodId) → RemovesNothing (runs_prepared pod)
claim_removes pod = record { files = λ inner h. cc; dirs = λ inner h. cc }

pub claim_notes : (pod : PodId) → MakesNoNote pod (claims pod)
claim_notes pod = record { none = λ path. refl }

module _ (pod : PodId) (me : ℕ) where
  abbrev u : List ℕ
  u = pod_text pod.bytes

  abbrev here : Spot
  here = in_prepared pod

  abbrev asks : Request → Bool
  asks = in_process (runs_prepared pod)

  -- a folder that stands in prepared stood there
  pub folder_back : (k : ℕ) (s : DirState) (request : Request) (reply : Reply) → (is_kill request || asks request) ≡ true → folder_at (namespace_replied s.namespace me request reply) here ≡ Some k → folder_at s.namespace here ≡ Some k
  folder_back k s (MakeFolder spot) reply h at = cc
  folder_back k s (MoveFolder from to) Done h at =
      let is = claim_moves pod from to (or_nothing (runs_prepared pod (MoveFolder from to)) h) in
      let off : spot_eq to here ≡ false = subst (λ (x : Spot). spot_eq x here ≡ false) (sym is.1) refl in
      let from_here : spot_eq from here ≡ true = subst (λ (x : Spot). spot_eq x here ≡ true) (sym is.0) (same_bytes u) in
      let clash : None ≡ Some k = sym (moved_away s.namespace here from to off from_here) ∙ at in cc
  folder_back k s (MoveFolder from to) reply h at = at
  folder_back k s (RemoveFolder gone) reply h at = cc
  folder_back k s request reply h at = ap (λ (fs : List (Option Spot)). folder_at (record s.namespace { folders = fs }) here) (sym (same_folders me s.namespace request reply refl (λ handle. refl))) ∙ at

-- the move of a claim, in its process
pub record ClaimMove (pod : PodId) (me : ℕ) (old new : List Event) : Type 0 where
  pub before : List Event
  pub meanwhile : List Event
  pub later : List Event
  pub begins : before ≡ old ++ meanwhile
  pub moved : new ≡ before ++ event me (MoveFolder (in_prepared pod) (in_run pod)) Done ∷ later

pub claim_move : {pod : PodId} {own : Handle} {me : ℕ} {old begun claimed new : List Event} → Grew old begun → TookBoth pod own me begun claimed → Grew claimed new → ClaimMove pod me old new
claim_move {pod} {own} {me} {old} {begun} {claimed} {new} first took last =
    let a = took.order.each in
    let b = a.4 in
    let c = b.4 in
    let d = c.4 in
    let m = d.4 in
    let start = grown_more first (grown_more a.2 (grown_more (grown_call a.3) (grown_more b.2 (grown_more (grown_call b.3) (grown_more c.2 (grown_more (grown_call c.3) (grown_more d.2 (grown_more (grown_call d.3) m.2)))))))) in
    by m.0 m.1 start m.3 (grown_more m.4 last)
  where
    by : (x y : List Event) → Grew old x → CallStep me x (MoveFolder (in_prepared pod) (in_run pod)) Done y → Grew y new → ClaimMove pod me old new
    by x y start call rest = done call.own
      where
        done : TookPlace call.before me (MoveFolder (in_prepared pod) (in_run pod)) Done y ⊎ LeftNothing call.before me (MoveFolder (in_prepared pod) (in_run pod)) Done y → ClaimMove pod me old new
        done (inr late) = let clash : false ≡ true = late.late in cc
        done (inl place) =
            let g = grown_more start (record { more = call.meanwhile.others; grown = call.meanwhile.grown }) in
            record {
              before = call.before;
              meanwhile = g.more;
              later = rest.more;
              begins = g.grown;
              moved = rest.grown ∙ (ap (λ (h : List Event). h ++ rest.more) place.grown ∙ append_assoc call.before (event me (MoveFolder (in_prepared pod) (in_run pod)) Done ∷ []) rest.more);
            }

-- of a pod that was claimed, whatever came of its run
pub claimed_passed : (pod : PodId) (own : Handle) {me : ℕ} {old begun claimed ended new : List Event} → Extends (in_process (runs_prepared pod)) me old new → Quiet me old new → Grew old begun → TookBoth pod own me begun claimed → Grew claimed ended →
    CallStep me ended Finish Done new → (IsConforming old → claim_error me pod (state_after old) ≡ None) → HasPassed pod me old new
claimed_passed pod own {me} {old} {begun} {claimed} {ended} {new} ext quiet first took after finish free =
    let m = claim_move first took (grown_more after (grown_call finish)) in
    let e = event me (MoveFolder (in_prepared pod) (in_run pod)) Done in
    let to_move : Grew old m.before = record { more = m.meanwhile; grown = m.begins } in
    let from_move : Grew m.before new = record { more = e ∷ m.later; grown = m.moved } in
    let k = some_number (folder_at (state_after m.before).namespace (in_prepared pod)) (stood_before pod (runs_prepared pod) (claim_leaves pod) me old new m.before m.later (in_prepared pod) ext quiet m.meanwhile m.begins m.moved finish.run) in
    let stood = back_from (λ s. folder_at s.namespace (in_prepared pod) ≡ Some k.0) (in_process (runs_prepared pod)) me (λ s request reply h at. folder_back pod me k.0 s request reply h at) m.before to_move from_move ext quiet k.1 in
    record {
      folder = k.0;
      stood = stood;
      waited = λ conforming. phase_at pod old conforming state.Prepared phase.Prepared area.Prepared refl place_waiting
          (prepared_is (pod_state (pod_text pod.bytes) old) (stands_exists (pod_text pod.bytes) old (in_prepared pod) conforming (same_bytes (pod_text pod.bytes)) (ap (λ (o : Option ℕ). is_some o) stood)).1);
      free = free;
      left = left_in_run pod (runs_prepared pod) (claim_leaves pod) me old new m.before m.later (in_prepared pod) ext quiet m.meanwhile m.begins m.moved finish.run k.0 (is_past finish) k.1;
    }
