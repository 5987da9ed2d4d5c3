use Rattle.std.proofs.Common.{◌≡◌, ◌∙◌, min, ℕ, List, false, arith, sym, ap, subst, Ok}
use Rattle.dir_model.specs.State.{spot_eq, stands}
use Rattle.dir_model.specs.Calls.{AtOwnStep}
use Rattle.dir_model.specs.declared.spot.Spot.{Spot}
use Rattle.dir_model.specs.declared.area.Area.{Area}
use Rattle.dir_model.proofs.Chains.{and_more, extends_wider}
use Rattle.dir_model.proofs.Spots.{look_wider}
use Rattle.dir_model.specs.Spots.{pod_spot}
use Rattle.phase_read.specs.Read.{WasFound, HasPhase, LeftOut, is_pod_spot, stages_before}
use Rattle.phase_read.proofs.Stages.{next_rank, next_within, next_before, next_misses, misses_most, last_stages, pod_spot_only}
use Rattle.phase_read.proofs.InTurn.{and_left_out}
use Rattle.dir_trait.proofs.Looking.{looks_more}
use Rattle.dir_model.proofs.Moments.{at_after}
use Rattle.lifecycle.proofs.Stays.{stays_between}
use Rattle.phase_read.proofs.Exact.{found_exactly, gone_exactly}
use Rattle.dir_model.specs.Areas.{rank}
use Rattle.phase_read.proofs.Often.{reads_area, asks_more}
use Rattle.phase_read.proofs.read.read_phase.Goals as goal

pub returns-in-None-clause-read : goal.returns-in-None-clause-read
returns-in-None-clause-read g c t =
    let shown = g.D.Dir.shown in
    let i = c.places.invariant in
    let me = (shown c.args.dir.now).process in
    let old = (shown c.args.dir.now).trace in
    let now = (shown c.places.dir).trace in
    let new = (shown c.read_at.new.dir).trace in
    let named = λ (text : List ℕ). AtOwnStep (shown c.places.dir).process now new (λ s. stands s.namespace (record { area = c.places.area; name = text }) ≡ false) in
    let here = subst named c.name-name.ensures.text (rw c.in_default.is at (c.in_ok-phase.ensures.there t)) in
    subst (λ (areas : List Area). LeftOut me old new c.args.pod areas) (last_stages c.places.area c.in-None.ensures i.below)
    (and_left_out c.args.pod me (shown c.places.dir).process old now new c.places.area (stages_before c.places.area) (i.empty t) i.same here)

pub places-preserved : goal.places-preserved
places-preserved g c =
    let shown = g.D.Dir.shown in
    let i = c.places.invariant in
    let me = (shown c.args.dir.now).process in
    let old = (shown c.args.dir.now).trace in
    let now = (shown c.places.dir).trace in
    let new = (shown c.read_at.new.dir).trace in
    let named = λ (text : List ℕ). AtOwnStep (shown c.places.dir).process now new (λ s. stands s.namespace (record { area = c.places.area; name = text }) ≡ false) in
    let next = next_rank c.places.area c.in-Some-next.next c.in-Some-next.ensures in
    record {
      counted = omega (arith, c.in_ok-phase.ensures.counted_missing (ap Ok c.in_default.is), i.counted, next_misses c.places.area c.in-Some-next.next c.in-Some-next.ensures);
      below = next_within c.places.area c.in-Some-next.next c.in-Some-next.ensures;
      same = c.read_at.ensures.same ∙ i.same;
      faults = omega (arith, c.read_at.ensures.faults, i.faults);
      local = c.read_at.ensures.local ∙ i.local;
      extends = λ t. and_more (i.extends t) i.same (extends_wider (look_wider (spot_eq (record { area = c.places.area; name = c.name-name.result })) (is_pod_spot c.args.pod) (λ here is. pod_spot_only c.args.pod (record { area = c.places.area; name = c.name-name.result }) here i.below c.name-name.ensures.text is)) (c.read_at.ensures.extends t));
      known = λ t. looks_more (i.known t) (c.read_at.ensures.known t);
      reads = λ t. asks_more (min 1 (rank c.in-Some-next.next)) (omega (arith, next)) (i.reads t) i.same (reads_area c.args.pod c.places.area c.name-name.result c.name-name.ensures.text (λ is. c.read_at.ensures.once is t) (c.read_at.ensures.extends t));
      empty = λ t.
          subst (λ (areas : List Area). LeftOut me old new c.args.pod areas) (sym (next_before c.places.area c.in-Some-next.next c.in-Some-next.ensures))
          (and_left_out c.args.pod me (shown c.places.dir).process old now new c.places.area (stages_before c.places.area) (i.empty t) i.same (subst named c.name-name.ensures.text (rw c.in_default.is at (c.in_ok-phase.ensures.there t))));
    }

pub returns-in-Some-clause-read : goal.returns-in-Some-clause-read
returns-in-Some-clause-read g c t =
    let shown = g.D.Dir.shown in
    let i = c.places.invariant in
    let now = (shown c.places.dir).trace in
    let new = (shown c.read_at.new.dir).trace in
    let e = rw c.in-Some.is at c.in_ok-phase.ensures in
    let spot = λ (text : List ℕ). let at : Spot = record { area = c.places.area; name = text } in at in
    let found = subst (λ (text : List ℕ). WasFound (shown c.places.dir).process now new (spot text) c.in-Some.phase) c.name-name.ensures.text (e.found t) in
    record {
      stage = i.below;
      between = now;
      earlier = i.empty t;
      found = subst (λ (me : ℕ). WasFound me now new (pod_spot c.args.pod c.places.area) c.in-Some.phase) i.same found;
    }

pub returns-in_err-phase-clause-extends : goal.returns-in_err-phase-clause-extends
returns-in_err-phase-clause-extends g c t = and_more (c.places.invariant.extends t) c.places.invariant.same (extends_wider (look_wider (spot_eq (record { area = c.places.area; name = c.name-name.result })) (is_pod_spot c.args.pod) (λ here is. pod_spot_only c.args.pod (record { area = c.places.area; name = c.name-name.result }) here c.places.invariant.below c.name-name.ensures.text is)) (c.read_at.ensures.extends t))

pub returns-in-Some-clause-extends : goal.returns-in-Some-clause-extends
returns-in-Some-clause-extends g c t = and_more (c.places.invariant.extends t) c.places.invariant.same (extends_wider (look_wider (spot_eq (record { area = c.places.area; name = c.name-name.result })) (is_pod_spot c.args.pod) (λ here is. pod_spot_only c.args.pod (record { area = c.places.area; name = c.name-name.result }) here c.places.invariant.below c.name-name.ensures.text is)) (c.read_at.ensures.extends t))

pub returns-in-None-clause-extends : goal.returns-in-None-clause-extends
returns-in-None-clause-extends g c t = and_more (c.places.invariant.extends t) c.places.invariant.same (extends_wider (look_wider (spot_eq (record { area = c.places.area; name = c.name-name.result })) (is_pod_spot c.args.pod) (λ here is. pod_spot_only c.args.pod (record { area = c.places.area; name = c.name-name.result }) here c.places.invariant.below c.name-name.ensures.text is)) (c.read_at.ensures.extends t))

pub returns-in_err-phase-clause-known : goal.returns-in_err-phase-clause-known
returns-in_err-phase-clause-known g c t = looks_more (c.places.invariant.known t) (c.read_at.ensures.known t)

pub returns-in-Some-clause-known : goal.returns-in-Some-clause-known
returns-in-Some-clause-known g c t = looks_more (c.places.invariant.known t) (c.read_at.ensures.known t)

pub returns-in-None-clause-known : goal.returns-in-None-clause-known
returns-in-None-clause-known g c t = looks_more (c.places.invariant.known t) (c.read_at.ensures.known t)

pub returns-in-Some-clause-exact : goal.returns-in-Some-clause-exact
returns-in-Some-clause-exact g c t conforming =
    let shown = g.D.Dir.shown in
    let i = c.places.invariant in
    let old = (shown c.args.dir.now).trace in
    let now = (shown c.places.dir).trace in
    let new = (shown c.read_at.new.dir).trace in
    let e = rw c.in-Some.is at c.in_ok-phase.ensures in
    let at = e.phase t (stays_between new conforming) in
    let named = subst (λ (text : List ℕ). AtOwnStep (shown c.places.dir).process now new (HasPhase (record { area = c.places.area; name = text }) c.in-Some.phase)) c.name-name.ensures.text at in
    found_exactly c.args.pod c.in-Some.phase c.places.area i.below conforming (at_after (i.extends t) i.same named)

pub returns-in-None-clause-exact : goal.returns-in-None-clause-exact
returns-in-None-clause-exact g c t conforming =
    let shown = g.D.Dir.shown in
    gone_exactly c.args.pod (shown c.args.dir.now).process (shown c.args.dir.now).trace (shown c.read_at.new.dir).trace conforming (returns-in-None-clause-read g c t)

pub returns-in_err-phase-clause-reads : goal.returns-in_err-phase-clause-reads
returns-in_err-phase-clause-reads g c =
    let i = c.places.invariant in
    record { reads = λ t. asks_more 1 (omega (arith, i.below)) (i.reads t) i.same (reads_area c.args.pod c.places.area c.name-name.result c.name-name.ensures.text (λ is. c.read_at.ensures.once is t) (c.read_at.ensures.extends t)) }

pub returns-in-Some-clause-reads : goal.returns-in-Some-clause-reads
returns-in-Some-clause-reads g c =
    let i = c.places.invariant in
    record { reads = λ t. asks_more 1 (omega (arith, i.below)) (i.reads t) i.same (reads_area c.args.pod c.places.area c.name-name.result c.name-name.ensures.text (λ is. c.read_at.ensures.once is t) (c.read_at.ensures.extends t)) }

pub returns-in-None-clause-reads : goal.returns-in-None-clause-reads
returns-in-None-clause-reads g c =
    let i = c.places.invariant in
    record { reads = λ t. asks_more 1 (omega (arith, i.below)) (i.reads t) i.same (reads_area c.args.pod c.places.area c.name-name.result c.name-name.ensures.text (λ is. c.read_at.ensures.once is t) (c.read_at.ensures.extends t)) }

pub returns-in_err-phase-clause-counted : goal.returns-in_err-phase-clause-counted
returns-in_err-phase-clause-counted g c = omega (arith, c.read_at.ensures.counted, c.places.invariant.counted, misses_most c.places.area)

pub returns-in-Some-clause-counted : goal.returns-in-Some-clause-counted
returns-in-Some-clause-counted g c = omega (arith, c.read_at.ensures.counted, c.places.invariant.counted, misses_most c.places.area)

pub returns-in-None-clause-counted : goal.returns-in-None-clause-counted
returns-in-None-clause-counted g c = omega (arith, c.read_at.ensures.counted, c.places.invariant.counted, misses_most c.places.area)
