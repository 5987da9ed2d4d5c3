-- The headline of legal executions.
use Rattle.std.proofs.Common.{ℕ, List, ◌++◌, subst}
use Rattle.plain_laws.proofs.Numbers.{one_of_two}
use Rattle.dir_model.specs.declared.event.Event.{Event}
use Rattle.lifecycle.specs.PodMachine.{pod_state, owner_of}
use Rattle.lifecycle.specs.Ownership.{IsHeldByItsOwner}
use Rattle.lifecycle.specs.Executions.{IsConforming}
use Rattle.lifecycle.proofs.Draws.{conforming_left}
use Rattle.lifecycle.proofs.EveryPod.{transitions_are_enabled, stands_where_it_exists, place_tells_phase, held_by_its_owner, names_one_folder, goes_forward, removed_by_its_owner, sweeps_are_asked}
use Rattle.lifecycle.proofs.Looking.{locks_tell_phases, misses_tell_gone}
use Rattle.impossible_replies.proofs.Impossible.{none_impossible, foreign_are_apps}
use Rattle.pod_build.specs.LegalExecutions.{IsLegal}
use Rattle.headline.proofs.Standing.{legal_before, makers_are, pods_stand, apps_start}
use Rattle.headline.specs.Headline.{Headline, HeadlineHolds, HasOneOwner}
use Rattle.headline.specs.Keeping.{AllKeep}

one_owner : (name : List ℕ) (trace : List Event) → IsConforming trace → HasOneOwner name trace
one_owner name trace conforming =
    let held : IsHeldByItsOwner name trace (pod_state name trace) = held_by_its_owner name trace conforming in
    record {
      held = held;
      one = λ p q there first second. one_of_two (owner_of (pod_state name trace)) p q ((held p there).0 first) ((held q there).0 second);
    }

-- at the end of a legal execution
pub headline_at : (trace : List Event) → IsLegal trace → Headline trace
headline_at trace legal =
    let c = legal.conforms in
    record {
      turns = λ name. transitions_are_enabled name trace c;
      places = record { one_folder = names_one_folder trace c; forward = goes_forward trace c };
      phase = λ name. record { folder = stands_where_it_exists name trace c; phase = place_tells_phase name trace c };
      owner = λ name. one_owner name trace c;
      reads = record { found = locks_tell_phases trace c; missed = misses_tell_gone trace c };
      removals = λ name. removed_by_its_owner name trace c;
      sweeps = sweeps_are_asked trace c;
      roots = record { stand = pods_stand trace legal; start = apps_start trace legal };
      replies = record { none = none_impossible trace c; apps = foreign_are_apps trace c };
    }

-- and at each moment of it
pub headline_holds : (trace : List Event) → IsLegal trace → HeadlineHolds trace
headline_holds trace legal before later is =
    let whole : IsLegal (before ++ later) = subst IsLegal is legal in
    headline_at before (legal_before before later (conforming_left before later whole.conforms) whole)

-- where each process does its part, the execution is legal
pub all_keep_legal : (trace : List Event) → AllKeep trace → IsLegal trace
all_keep_legal trace all = record { conforms = all.conforms; makers = makers_are trace all.makers }
