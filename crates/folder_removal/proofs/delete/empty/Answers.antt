use Rattle.std.proofs.Common.{◌≡◌, [], List, refl, subst, rules, ◌∙◌, arith, IsErrOf}
use Rattle.std.proofs.lemmas.Grind.{common_steps}
use Rattle.dir_model.proofs.Chains.{nothing_yet, and_more}
use Rattle.folder_removal.specs.declared.task.Task.{Task}
use Rattle.folder_removal.specs.declared.error.DeleteError.TheVariants.{Stray}
use Rattle.folder_removal.specs.Known.{WorksOff}
use Rattle.folder_removal.proofs.Strays.{hands_more, stray_more}
use Rattle.folder_removal.proofs.Knowing.{works_none, works_more, works_then, works_only}
use Rattle.folder_removal.proofs.delete.empty.Goals as goal
use Rattle.folder_removal.proofs.Knew.{knew_then}

pub tasks-init : goal.tasks-init
tasks-init g c = record {
  same = refl;
  faults = omega arith;
  local = refl;
  extends = λ t. nothing_yet;
  spares = λ t. nothing_yet;
  at_hand = λ t start first hand. hand;
  known = λ t. works_none;
}

pub tasks-preserved : goal.tasks-preserved
tasks-preserved g c =
    let i = c.tasks.invariant in
    let D = g.D.Dir in
    record {
      same = c.turn.ensures.same ∙ i.same;
      faults = omega (arith, c.turn.ensures.faults, i.faults);
      local = c.turn.ensures.local ∙ i.local;
      extends = λ t. and_more (i.extends t) i.same (c.turn.ensures.extends t);
      spares = λ t. and_more (i.spares t) i.same (c.turn.ensures.spares t);
      at_hand = λ t. hands_more c.args.spot.now (D.shown c.args.dir.now) (D.shown c.tasks.dir) (D.shown c.turn.new.dir) i.same (i.extends t) c.args.tasks.items _ c.turn.new.tasks.items (rw c.in-Some.ensures.items at (i.at_hand t)) (c.in_ok-turn.ensures.at_hand t);
      known = λ t. works_more (rw c.in-Some.ensures.items at (i.known t)) (c.in_ok-turn.ensures.work t);
    }

pub returns-in_err-turn-clause-extends : goal.returns-in_err-turn-clause-extends
returns-in_err-turn-clause-extends g c t = and_more (c.tasks.invariant.extends t) c.tasks.invariant.same (c.turn.ensures.extends t)

pub returns-in_err-turn-clause-known : goal.returns-in_err-turn-clause-known
returns-in_err-turn-clause-known g c t = works_then (rw c.in-Some.ensures.items at (c.tasks.invariant.known t)) (c.turn.ensures.known t)

pub returns-in_err-turn-clause-stray : goal.returns-in_err-turn-clause-stray
returns-in_err-turn-clause-stray g c h t =
    let k : IsErrOf c.turn.result Stray = search (rules, h, c.from_residual.ensures, c.in_err-turn.is) in
    let D = g.D.Dir in
    stray_more c.args.spot.now (D.shown c.args.dir.now) (D.shown c.tasks.dir) (D.shown c.turn.new.dir) c.tasks.invariant.same (c.tasks.invariant.extends t) c.args.tasks.items _ c.in-Some.task (rw c.in-Some.ensures.items at (c.tasks.invariant.at_hand t)) (c.turn.ensures.stray k t)

pub returns-clause-known : goal.returns-clause-known
returns-clause-known g c t = works_only (c.tasks.invariant.known t)

pub returns-clause-work : goal.returns-clause-work
returns-clause-work g c t =
    let D = g.D.Dir in
    let none : c.tasks.tasks.items ≡ [] = first_of (search (rules, c.in_default.ensures.items, c.in_default.ensures.cases), grind (arith, common_steps, c.in_default.ensures.items, c.in_default.ensures.cases, c.in_default.ensures.rest)) in
    subst (λ (l : List Task). WorksOff c.args.spot.now c.args.tasks.items l (D.shown c.args.dir.now) (D.shown c.tasks.dir)) none (c.tasks.invariant.known t)

pub returns-in_err-turn-clause-spares : goal.returns-in_err-turn-clause-spares
returns-in_err-turn-clause-spares g c t = and_more (c.tasks.invariant.spares t) c.tasks.invariant.same (c.turn.ensures.spares t)

pub returns-in_err-turn-clause-knew : goal.returns-in_err-turn-clause-knew
returns-in_err-turn-clause-knew g c h t =
    let k : IsErrOf c.turn.result Stray = search (rules, h, c.from_residual.ensures, c.in_err-turn.is) in
    knew_then (g.D.Dir.shown c.args.dir.now) (g.D.Dir.shown c.tasks.dir) (g.D.Dir.shown c.turn.new.dir) c.tasks.invariant.same (rw c.in-Some.ensures.items at (c.tasks.invariant.known t)) (c.turn.ensures.knew k t)
