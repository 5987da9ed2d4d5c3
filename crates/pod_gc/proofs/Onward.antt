-- A pod only goes forward through its places, so it isn't found and then missed six times.
use Rattle.std.proofs.Common.{◌≡◌, ◌≤◌, ◌⊎◌, inl, inr, ℕ, zero, suc, nat_le, Bool, true, false, is_some, Option, Some, List, [], ◌∷◌, ◌++◌, append_assoc, append-nil, refl, sym, ap, subst, ◌∙◌, arith}
use Rattle.std.proofs.lemmas.Bool.Decides.{nat_tests}
use Rattle.dir_model.specs.declared.area.Area.{Area}
use Rattle.dir_model.specs.declared.area.Area.TheVariants as area
use Rattle.dir_model.specs.declared.area.Phase.{Phase}
use Rattle.dir_model.specs.declared.area.Phase.TheVariants as kind
use Rattle.dir_model.specs.declared.event.Event.{Event}
use Rattle.dir_model.specs.declared.pod.PodId.{PodId}
use Rattle.dir_model.specs.declared.request.Request.TheVariants.{MoveFolder}
use Rattle.dir_model.specs.declared.request.Reply.TheVariants.{Done}
use Rattle.dir_model.specs.declared.spot.Spot.{Spot}
use Rattle.dir_model.specs.Areas.{rank, is_stage, phase_in}
use Rattle.dir_model.specs.Calls.{AtOwnStep, CallStep, TookPlace, LeftNothing, event}
use Rattle.dir_model.specs.State.{DirState, stands, folder_at, empty_state}
use Rattle.dir_model.specs.Trace.{state_next, state_after}
use Rattle.dir_model.proofs.Chains.{states_next-append}
use Rattle.dir_model.proofs.Moments.{at_weaker, some_number}
use Rattle.dir_model.proofs.Spots.{spot_self}
use Rattle.folder_contents.proofs.Spots.{one_area}
use Rattle.lifecycle.specs.Executions.{IsConforming}
use Rattle.lifecycle.proofs.Draws.{conforming_left}
use Rattle.lifecycle.proofs.Places.{none_stands, moved_there}
use Rattle.lifecycle.proofs.Stays.{forward, stays_between}
use Rattle.lifecycle.proofs.Step.{stands_from}
use Rattle.dir_model.specs.Spots.{pod_spot}
use Rattle.phase_read.specs.Read.{WasFound, stages_before}
use Rattle.phase_read.proofs.InTurn.{left_out_grown}
use Rattle.pod_locks.specs.Work.{Grew}
use Rattle.pod_locks.proofs.Times.{at_part}
use Rattle.pod_locks.proofs.Traces.{grown_none, grown_more, grown_call}
use Rattle.pod_locks.specs.Causes.{IsAbsentAt}
use Rattle.pod_locks.proofs.ClaimLawful.{grew_at}
use Rattle.pod_gc.specs.RemovalRequests.{is_removable, aside, area_of_phase}
use Rattle.pod_gc.specs.Found.{is_moved, PutAway}
use Rattle.pod_gc.specs.Removals.{MissedOnItsWay, FoundThenMissed, MissedTimes}
use Rattle.dir_model.proofs.Allowed.{allowed_reply}

-- places and phases

place_is : (a : Area) (owned : Bool) (p : Phase) → phase_in a owned ≡ Some p → is_removable p ≡ true → a ≡ area_of_phase p
place_is area.Embryo owned p is r = let e : kind.Embryo ≡ p = cc in let clash : true ≡ false = sym r ∙ ap is_removable (sym e) in cc
place_is area.Prepare true p is r = let e : kind.Preparing ≡ p = cc in let clash : true ≡ false = sym r ∙ ap is_removable (sym e) in cc
place_is area.Prepare false p is r = let e : kind.AbortedPrepare ≡ p = cc in ap area_of_phase e
place_is area.Prepared owned p is r = let e : kind.Prepared ≡ p = cc in ap area_of_phase e
place_is area.Run true p is r = let e : kind.Running ≡ p = cc in let clash : true ≡ false = sym r ∙ ap is_removable (sym e) in cc
place_is area.Run false p is r = let e : kind.Exited ≡ p = cc in ap area_of_phase e
place_is area.ExitedGarbage true p is r = let e : kind.Deleting ≡ p = cc in let clash : true ≡ false = sym r ∙ ap is_removable (sym e) in cc
place_is area.ExitedGarbage false p is r = let e : kind.ExitedGarbage ≡ p = cc in ap area_of_phase e
place_is area.Garbage true p is r = let e : kind.Deleting ≡ p = cc in let clash : true ≡ false = sym r ∙ ap is_removable (sym e) in cc
place_is area.Garbage false p is r = let e : kind.Garbage ≡ p = cc in ap area_of_phase e
place_is a owned p is r = cc

late_place : (p : Phase) → 1 ≤ rank (area_of_phase p)
late_place kind.AbortedPrepare = omega arith
late_place kind.Prepared = omega arith
late_place kind.Exited = omega arith
late_place kind.ExitedGarbage = omega arith
late_place p = omega arith

pub stage_place : (p : Phase) → is_stage (area_of_phase p) ≡ true
stage_place kind.AbortedPrepare = refl
stage_place kind.Prepared = refl
stage_place kind.Exited = refl
stage_place kind.ExitedGarbage = refl
stage_place p = refl

pub stage_aside : (p : Phase) → is_stage (aside p) ≡ true
stage_aside kind.Exited = refl
stage_aside kind.ExitedGarbage = refl
stage_aside p = refl

unmoved_place : (p : Phase) → is_moved p ≡ false → aside p ≡ area_of_phase p
unmoved_place kind.AbortedPrepare is = cc
unmoved_place kind.Prepared is = cc
unmoved_place kind.Exited is = cc
unmoved_place kind.ExitedGarbage is = refl
unmoved_place p is = refl

five_at_most : (a : Area) → is_stage a ≡ true → 6 ≤ rank a → ⊥
five_at_most a is far = grind (arith, nat_tests)

at_most_five : (a : Area) → is_stage a ≡ true → rank a ≤ 5
at_most_five a is = by (nat_le (rank a) 5) refl
  where
    by : (b : Bool) → nat_le (rank a) 5 ≡ b → rank a ≤ 5
    by true le = grind (arith, nat_tests)
    by false le = absurd (five_at_most a is (grind (arith, nat_tests)))

-- after its own move it stands where it goes
pub moved_stands : (me : ℕ) (from to : Spot) (a b : List Event) → CallStep me a (MoveFolder from to) Done b → stands (state_after b).namespace to ≡ true
moved_stands me from to a b s = by s.own
  where
    e : Event
    e = event me (MoveFolder from to) Done

    by : TookPlace s.before me (MoveFolder from to) Done b ⊎ LeftNothing s.before me (MoveFolder from to) Done b → stands (state_after b).namespace to ≡ true
    by (inr left) = let clash : false ≡ true = left.late in cc
    by (inl took) =
        let w = state_after s.before in
        let stood = stands_from w me from to (allowed_reply w me (MoveFolder from to) Done took.allowed) in
        let next : state_after b ≡ state_next w e = ap state_after took.grown ∙ states_next-append empty_state s.before (e ∷ []) in
        subst (λ (z : DirState). stands z.namespace to ≡ true) (sym next)
        (ap (λ (o : Option ℕ). is_some o) (moved_there w.namespace to from to (none_stands w.namespace to stood.1) (spot_self to)) ∙ stood.0)

grown_put : (pod : PodId) (p : Phase) {me : ℕ} {a b : List Event} → PutAway pod p me a b → Grew a b
grown_put pod p {me} {a} {b} x = by (is_moved p) refl
  where
    by : (m : Bool) → is_moved p ≡ m → Grew a b
    by true is = let e = x.only is in record { more = e.more; grown = e.grown }
    by false is = subst (λ (c : List Event). Grew a c) (sym (x.still is)) grown_none

grown_missed : (pod : PodId) (p : Phase) {me : ℕ} {a b : List Event} → MissedOnItsWay pod p me a b → Grew a b
grown_missed pod p (inl at) = grew_at at
grown_missed pod p (inr x) = grown_more (grown_put pod p x.1) (grew_at x.2)

-- a read that found it, at a moment
record FoundAt (spot : Spot) (me : ℕ) (a b : List Event) : Type 0 where
  pub at : AtOwnStep me a b (λ s. stands s.namespace spot ≡ true)

found_moment : (spot : Spot) (p : Phase) {me : ℕ} {a b : List Event} → WasFound me a b spot p → FoundAt spot me a b
found_moment spot p (inl stood) = record { at = stood.there }
found_moment spot p (inr x) =
    let told = x.1 in
    record { at = at_part grown_none refl (grew_at told.told) (at_weaker (λ s. stands s.namespace spot ≡ true) (λ s is. ap (λ (o : Option ℕ). is_some o) is) told.found) }

found_place : (spot : Spot) (p : Phase) {me : ℕ} {a b : List Event} → WasFound me a b spot p → is_removable p ≡ true → spot.area ≡ area_of_phase p
found_place spot p (inl stood) r = place_is spot.area false p stood.is r
found_place spot p (inr x) r = place_is spot.area x.0 p x.2 r

-- at a moment of this trace it stood at a place so far along
record Stood (pod : PodId) (far : ℕ) (upto : List Event) : Type 0 where
  pub moment : List Event
  pub more : List Event
  pub upto_is : upto ≡ moment ++ more
  pub place : Area
  pub stage : is_stage place ≡ true
  pub there : stands (state_after moment).namespace (pod_spot pod place) ≡ true
  pub reached : far ≤ rank place

-- wherever it stands after this trace and up to the end, that is so far along
record Past (pod : PodId) (far : ℕ) (upto c : List Event) : Type 0 where
  pub on : (then after end : List Event) (place : Area) → then ≡ upto ++ after → c ≡ then ++ end → is_stage place ≡ true → stands (state_after then).namespace (pod_spot pod place) ≡ true → far ≤ rank place

module _ (pod : PodId) (me : ℕ) (a c : List Event) (conforming : IsConforming c) where
  -- later it stands there or further
  onward : {far : ℕ} {upto : List Event} (x : Stood pod far upto) (now more rest : List Event) (place : Area) → now ≡ upto ++ more → c ≡ now ++ rest → is_stage place ≡ true
      → stands (state_after now).namespace (pod_spot pod place) ≡ true → far ≤ rank place
  onward {far} {upto} x now more rest place later whole stage there =
      let is : now ≡ x.moment ++ (x.more ++ more) = later ∙ (ap (λ (h : List Event). h ++ more) x.upto_is ∙ append_assoc x.moment x.more more) in
      let law : IsConforming (x.moment ++ (x.more ++ more)) = subst IsConforming is (conforming_left now rest (subst IsConforming whole conforming)) in
      let on : rank x.place ≤ rank place = forward x.moment (x.more ++ more) (pod_spot pod x.place) (pod_spot pod place) law x.stage stage refl x.there
      (subst (λ (h : List Event). stands (state_after h).namespace (pod_spot pod place) ≡ true) is there) in
      omega (arith, on, x.reached)

  -- where it stood and then was missed, it stands no more
  missed_past : {b : List Event} (place : Area) (moment : List Event) {upto : List Event} (more rest : List Event) → upto ≡ moment ++ more → c ≡ b ++ rest → is_stage place ≡ true
      → stands (state_after moment).namespace (pod_spot pod place) ≡ true → AtOwnStep me upto b (IsAbsentAt pod place) → Past pod (suc (rank place)) b c
  missed_past {b} place moment {upto} more rest upto_is whole stage there at = record { on = beyond }
    where
      now : List Event
      now = at.before ++ at.step ∷ []

      since : List Event
      since = more ++ (at.later ++ at.step ∷ [])

      now_is : now ≡ moment ++ since
      now_is = ap (λ (h : List Event). h ++ at.step ∷ []) (at.begins ∙ ap (λ (h : List Event). h ++ at.later) upto_is) ∙ simp append_assoc

      beyond : (then after end : List Event) (other : Area) → then ≡ b ++ after → c ≡ then ++ end → is_stage other ≡ true → stands (state_after then).namespace (pod_spot pod other) ≡ true → suc (rank place) ≤ rank other
      beyond then after end other then_is ends other_stage stood = past (rank place) (rank other) on (λ same. apart (one_area place other same))
        where
          from_now : then ≡ now ++ (at.rest ++ after)
          from_now = then_is ∙ (ap (λ (h : List Event). h ++ after) at.ends ∙ append_assoc now at.rest after)

          from_moment : then ≡ moment ++ (since ++ (at.rest ++ after))
          from_moment = from_now ∙ (ap (λ (h : List Event). h ++ (at.rest ++ after)) now_is ∙ append_assoc moment since (at.rest ++ after))

          on : rank place ≤ rank other
          on = forward moment (since ++ (at.rest ++ after)) (pod_spot pod place) (pod_spot pod other) (subst IsConforming from_moment (conforming_left then end (subst IsConforming ends conforming))) stage other_stage refl there
              (subst (λ (h : List Event). stands (state_after h).namespace (pod_spot pod other) ≡ true) from_moment stood)

          apart : place ≡ other → ⊥
          apart same =
              let k = some_number (folder_at (state_after moment).namespace (pod_spot pod place)) there in
              let parts : then ≡ (moment ++ since) ++ (at.rest ++ after) = from_now ∙ ap (λ (h : List Event). h ++ (at.rest ++ after)) now_is in
              let all : c ≡ ((moment ++ since) ++ (at.rest ++ after)) ++ end = ends ∙ ap (λ (h : List Event). h ++ end) parts in
              let again : stands (state_after then).namespace (pod_spot pod place) ≡ true = ap (λ (z : Area). stands (state_after then).namespace (pod_spot pod z)) same ∙ stood in
              let still = stays_between c conforming (pod_spot pod place) k.0 moment since (at.rest ++ after) end (at_most_five place stage) all k.1 (subst (λ (h : List Event). stands (state_after h).namespace (pod_spot pod place) ≡ true) parts again) in
              let clash : true ≡ false = sym (ap (λ (o : Option ℕ). is_some o) (ap (λ (h : List Event). folder_at (state_after h).namespace (pod_spot pod place)) now_is ∙ still)) ∙ at.holds in cc

          past : (n m : ℕ) → n ≤ m → (n ≡ m → ⊥) → suc n ≤ m
          past n m on other = by (nat_le (suc n) m) refl
            where
              by : (b : Bool) → nat_le (suc n) m ≡ b → suc n ≤ m
              by true is = grind (arith, nat_tests)
              by false is = absurd (other (grind (arith, nat_tests)))

  at_less : {n m : ℕ} {b : List Event} → n ≤ m → Past pod m b c → Past pod n b c
  at_less {n} {m} {b} less x = record { on = λ then after end other later whole stage there. let far = x.on then after end other later whole stage there in omega (arith, less, far) }

  -- one miss
  module _ (start b rest : List Event) (whole : c ≡ b ++ rest) (f : FoundThenMissed pod me start b) where
    abbrev out : (more : List Event) × (f.read.between ≡ start ++ more)
    out = left_out_grown pod me start f.read.between (stages_before f.area) f.read.earlier

    abbrev seen : FoundAt (pod_spot pod f.area) me f.read.between f.between
    seen = found_moment (pod_spot pod f.area) f.phase f.read.found

    abbrev at : AtOwnStep me f.read.between f.between (λ s. stands s.namespace (pod_spot pod f.area) ≡ true)
    at = seen.at

    here : f.area ≡ area_of_phase f.phase
    here = found_place (pod_spot pod f.area) f.phase f.read.found f.removable

    abbrev stood : Stood pod (rank (area_of_phase f.phase)) f.between
    stood = record {
      moment = at.before ++ at.step ∷ [];
      more = at.rest;
      upto_is = at.ends;
      place = area_of_phase f.phase;
      stage = stage_place f.phase;
      there = subst (λ (x : Area). stands (state_after (at.before ++ at.step ∷ [])).namespace (pod_spot pod x) ≡ true) here at.holds;
      reached = omega arith;
    }

    from_found : Grew f.between b
    from_found = grown_missed pod f.phase f.way

    found_far : {far : ℕ} → Past pod far start c → far ≤ rank (area_of_phase f.phase)
    found_far x =
        let later : at.before ++ at.step ∷ [] ≡ start ++ (out.0 ++ (at.later ++ at.step ∷ [])) =
        ap (λ (h : List Event). h ++ at.step ∷ []) (at.begins ∙ ap (λ (h : List Event). h ++ at.later) out.1) ∙ simp append_assoc in
        let rest_is : c ≡ (at.before ++ at.step ∷ []) ++ (at.rest ++ (from_found.more ++ rest)) =
        whole ∙ (ap (λ (h : List Event). h ++ rest) (from_found.grown ∙ ap (λ (h : List Event). h ++ from_found.more) at.ends) ∙ simp append_assoc) in
        x.on (at.before ++ at.step ∷ []) (out.0 ++ (at.later ++ at.step ∷ [])) (at.rest ++ (from_found.more ++ rest)) (area_of_phase f.phase) later rest_is (stage_place f.phase) stood.there

    missed_far : Past pod (suc (rank (area_of_phase f.phase))) b c
    missed_far = by f.way
      where
        here_missed : AtOwnStep me f.between b (IsAbsentAt pod (area_of_phase f.phase)) → Past pod (suc (rank (area_of_phase f.phase))) b c
        here_missed absent = missed_past (area_of_phase f.phase) stood.moment stood.more rest stood.upto_is whole (stage_place f.phase) stood.there absent

        aside_missed : (moved : List Event) → PutAway pod f.phase me f.between moved → AtOwnStep me moved b (IsAbsentAt pod (aside f.phase)) → (m : Bool) → is_moved f.phase ≡ m → Past pod (suc (rank (area_of_phase f.phase))) b c
        aside_missed moved put absent false is =
            here_missed (subst (λ (h : List Event). AtOwnStep me h b (IsAbsentAt pod (area_of_phase f.phase))) (put.still is) (subst (λ (x : Area). AtOwnStep me moved b (IsAbsentAt pod x)) (unmoved_place f.phase is) absent))
        aside_missed moved put absent true is =
            let did = (put.moved is).each in
            let after = did.1 in
            let step = did.3 in
            let from_after : Grew after moved = did.4 in
            let to_before : Grew f.between did.0 = did.2 in
            let arrived = moved_stands me (pod_spot pod (area_of_phase f.phase)) (pod_spot pod (aside f.phase)) did.0 after step in
            let took = grown_call step in
            let from_absent = grew_at absent in
            let later : after ≡ f.between ++ (to_before.more ++ took.more) = took.grown ∙ (ap (λ (h : List Event). h ++ took.more) to_before.grown ∙ append_assoc f.between to_before.more took.more) in
            let rest_is : c ≡ after ++ (from_after.more ++ (from_absent.more ++ rest)) =
            whole ∙ (ap (λ (h : List Event). h ++ rest) (from_absent.grown ∙ ap (λ (h : List Event). h ++ from_absent.more) from_after.grown) ∙ simp append_assoc) in
            let on : rank (area_of_phase f.phase) ≤ rank (aside f.phase) = onward stood after (to_before.more ++ took.more) (from_after.more ++ (from_absent.more ++ rest)) (aside f.phase) later rest_is (stage_aside f.phase) arrived in
            at_less (omega (arith, on)) (missed_past (aside f.phase) after from_after.more rest from_after.grown whole (stage_aside f.phase) arrived absent)

        by : AtOwnStep me f.between b (IsAbsentAt pod (area_of_phase f.phase)) ⊎ ((moved : List Event) × PutAway pod f.phase me f.between moved × AtOwnStep me moved b (IsAbsentAt pod (aside f.phase))) → Past pod (suc (rank (area_of_phase f.phase))) b c
        by (inl absent) = here_missed absent
        by (inr x) = aside_missed x.0 x.1 x.2 (is_moved f.phase) refl

  grown_found : (start b : List Event) → FoundThenMissed pod me start b → Grew start b
  grown_found start b f =
      let out = left_out_grown pod me start f.read.between (stages_before f.area) f.read.earlier in
      grown_more (grown_more (record { more = out.0; grown = out.1 }) (grew_at (found_moment (pod_spot pod f.area) f.phase f.read.found).at)) (grown_missed pod f.phase f.way)

  -- each miss finds it further along
  missed_onward : (n : ℕ) (b rest : List Event) → c ≡ b ++ rest → MissedTimes (suc n) pod me a b → Past pod (suc (suc n)) b c
  missed_onward zero b rest whole m = at_less (omega (arith, late_place m.2.phase)) (missed_far m.0 b rest whole m.2)
  missed_onward (suc n) b rest whole m =
      let f = m.2 in
      let step : Grew m.0 b = grown_found m.0 b f in
      let before = missed_onward n m.0 (step.more ++ rest) (whole ∙ (ap (λ (h : List Event). h ++ rest) step.grown ∙ append_assoc m.0 step.more rest)) m.1 in
      let far = found_far m.0 b rest whole f before in
      at_less (omega (arith, far)) (missed_far m.0 b rest whole f)

  pub never_missed : MissedTimes 6 pod me a c → ⊥
  never_missed m =
      let f = m.2 in
      let step : Grew m.0 c = grown_found m.0 c f in
      let before = missed_onward 4 m.0 step.more step.grown m.1 in
      let far = found_far m.0 c [] (sym (append-nil c)) f before in
      five_at_most (area_of_phase f.phase) (stage_place f.phase) (omega (arith, far))
