use Rattle.std.proofs.Common.{ℕ, Option, sym, ◌∙◌, ◌&&◌, ◌+◌, arith, ap, subst}
use Rattle.dep_match.specs.Selection.{outranks}
use Rattle.dep_match.specs.Steps.{accepts}
use Rattle.dep_match.proofs.BestSoFar.{IsBestSoFar, none_so_far, keeps, takes, best_is, best_none, best_within, best_passes, outranks_ranks, place_outranked}
use Rattle.dep_match.proofs.selection.best_of.Goals as goal
use Rattle.dep_match.proofs.selection.best_of.Goals.{then-is_better, else-is_better}

pub loop-i-init : goal.loop-i-init
loop-i-init c = none_so_far (accepts c.args.wanted.now) outranks c.args.list.now

pub is_better-requires : goal.is_better-requires
is_better-requires c =
    best_within (accepts c.args.wanted.now) outranks c.args.list.now c.loop-i.i c.loop-i.best (omega arith) c.loop-i.invariant

pub loop-i-preserved : goal.loop-i-preserved
loop-i-preserved c =
    let test = accepts c.args.wanted.now in
    let image = c.index-list-i.result in
    let better = c.is_better.ensures ∙ ap (λ b. test image && b) (place_outranked c.args.list.now c.loop-i.best image) in
    let P : Option ℕ → Type 0 = λ b. IsBestSoFar test outranks c.args.list.now (c.loop-i.i + 1) b in
    elim c.if-is_better.branch [
      | then-is_better w ↦ subst P (sym w.best-is)
          (takes test outranks outranks_ranks c.args.list.now c.loop-i.i image c.loop-i.best c.loop-i-test.true c.index-list-i.is
          (sym better ∙ w.if-is_better.true) c.loop-i.invariant)
      | else-is_better w ↦ subst P (sym w.best-is)
          (keeps test outranks c.args.list.now c.loop-i.i image c.loop-i.best c.loop-i-test.true c.index-list-i.is
          (sym better ∙ w.if-is_better.false) c.loop-i.invariant)
    ]

pub returns-clause-place : goal.returns-clause-place
returns-clause-place c =
    best_is (accepts c.args.wanted.now) outranks c.args.list.now c.loop-i.i c.loop-i.best (omega arith) c.loop-i.invariant

pub returns-clause-within : goal.returns-clause-within
returns-clause-within c =
    best_within (accepts c.args.wanted.now) outranks c.args.list.now c.loop-i.i c.loop-i.best (omega arith) c.loop-i.invariant

pub returns-clause-none : goal.returns-clause-none
returns-clause-none c =
    best_none (accepts c.args.wanted.now) outranks c.args.list.now c.loop-i.i c.loop-i.best (omega arith) c.loop-i.invariant

pub returns-clause-matches : goal.returns-clause-matches
returns-clause-matches c =
    best_passes (accepts c.args.wanted.now) outranks c.args.list.now c.loop-i.i c.loop-i.best (omega arith) c.loop-i.invariant
