-- A pod stands in one area at a time.
use Rattle.std.proofs.Common.{◌≡◌, ℕ, zero, suc, true, bytes_eq, List, refl, sym, ap, ◌∙◌}
use Rattle.std.proofs.lemmas.Slice.Eq.{bytes_eq-Decides}
use Rattle.dir_model.specs.declared.area.Area.{Area}
use Rattle.dir_model.specs.declared.area.Area.TheVariants as area
use Rattle.dir_model.specs.declared.event.Event.{Event}
use Rattle.dir_model.specs.declared.pod.PodId.{PodId}
use Rattle.dir_model.specs.Areas.{rank, is_stage}
use Rattle.dir_model.specs.Pods.{pod_text}
use Rattle.dir_model.specs.State.{stands}
use Rattle.dir_model.specs.Trace.{state_after}
use Rattle.dir_model.proofs.Lists.{and_both}
use Rattle.dir_rules.specs.Standing.{is_spot_of_pod}
use Rattle.lifecycle.specs.Executions.{IsConforming}
use Rattle.lifecycle.specs.PodMachine.{pod_state}
use Rattle.lifecycle.proofs.Moves.{place_once}
use Rattle.lifecycle.proofs.Phases.{stands_exists}
use Rattle.dir_model.specs.Spots.{pod_spot}

-- a stage by its rank
abbrev stage_at : ℕ → Area
stage_at zero = area.Embryo
stage_at (suc zero) = area.Prepare
stage_at (suc (suc zero)) = area.Prepared
stage_at (suc (suc (suc zero))) = area.Run
stage_at (suc (suc (suc (suc zero)))) = area.ExitedGarbage
stage_at (suc (suc (suc (suc (suc n))))) = area.Garbage

stage_back : (a : Area) → is_stage a ≡ true → stage_at (rank a) ≡ a
stage_back area.Embryo is = refl
stage_back area.Prepare is = refl
stage_back area.Prepared is = refl
stage_back area.Run is = refl
stage_back area.ExitedGarbage is = refl
stage_back area.Garbage is = refl
stage_back area.Incoming is = cc
stage_back area.Images is = cc
stage_back area.Trees is = cc
stage_back area.Removed is = cc

pub place_of : (pod : PodId) (a : Area) → is_stage a ≡ true → is_spot_of_pod (pod_text pod.bytes) (pod_spot pod a) ≡ true
place_of pod a is = and_both (is_stage a) (bytes_eq (pod_text pod.bytes) (pod_text pod.bytes)) is ((bytes_eq-Decides (pod_text pod.bytes) (pod_text pod.bytes)).1 refl)

pub one_area : (pod : PodId) (h : List Event) → IsConforming h → (a b : Area) → is_stage a ≡ true → is_stage b ≡ true → stands (state_after h).namespace (pod_spot pod a) ≡ true → stands (state_after h).namespace (pod_spot pod b) ≡ true → b ≡ a
one_area pod h good a b p q at there =
    let u = pod_text pod.bytes in
    let x = stands_exists u h (pod_spot pod b) good (place_of pod b q) there in
    let y = stands_exists u h (pod_spot pod a) good (place_of pod a p) at in
    sym (stage_back b q) ∙ (ap stage_at (place_once b a (pod_state u h) x.1 y.1) ∙ stage_back a p)
