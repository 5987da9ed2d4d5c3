use Rattle.std.proofs.Common.{rules, arith, ◌≡◌, [], ◌∷◌, ◌++◌, List, length, Some, refl, subst, sym}
use Rattle.dir_trait.specs.Bundles.{BundleTree, kind_at}
use Rattle.bundle_image.specs.declared.task.Task.{Task}
use Rattle.bundle_image.specs.Walks.{subtree_below, IsWalked}
use Rattle.bundle_image.specs.Work.{Turns, WalkFailsAt, EndsWalk, IsWalkUnderWay, WalkHasSeen}
use Rattle.bundle_image.proofs.Reading.{reads_nothing, reads_more}
use Rattle.bundle_image.proofs.Turning.{turned_work, turned_seen, task_kind, ends_walk, ends_walked, begun_work, begun_seen}
use Rattle.bundle_image.proofs.walk.walk.Goals as goal

nothing : (tasks : List Task) → length tasks ≡ 0 → tasks ≡ []
nothing [] none = refl
nothing (t ∷ tasks) none = absurd (omega arith)

pub entries-init : goal.entries-init
entries-init g c = record {
  work = subst (λ ls. IsWalkUnderWay ls c.in_ok-pending.pending.items) (sym c.new-lines.ensures) (begun_work (record { count = omega arith; size = omega arith }) c.in_ok-pending.ensures.begun);
  seen = λ t.
      subst (λ ls. WalkHasSeen (subtree_below (g.B.Bundle.shown c.begin.new.bundle).tree c.args.root.now) ls c.in_ok-pending.pending.items) (sym c.new-lines.ensures)
      (subst (λ (tr : BundleTree). WalkHasSeen (subtree_below tr c.args.root.now) [] c.in_ok-pending.pending.items) (sym (c.begin.ensures.reads.same t)) (begun_seen t c.in_ok-pending.ensures.begun));
  reads = reads_nothing;
}

pub entries-preserved : goal.entries-preserved
entries-preserved g c =
    let rest = c.pop.new.self.items in
    let popped : c.entries.pending.items ≡ rest ++ c.in-Some.task ∷ [] = c.in-Some.ensures.items in
    let work : IsWalkUnderWay c.entries.lines (rest ++ c.in-Some.task ∷ []) = subst (IsWalkUnderWay c.entries.lines) popped c.entries.invariant.work in
    let nodes = subtree_below (g.B.Bundle.shown c.begin.new.bundle).tree c.args.root.now in
    record {
      work = turned_work c.entries.lines rest c.in-Some.task work c.in-Ok.ensures.turned;
      seen = λ t.
          turned_seen c.entries.lines rest c.in-Some.task work
          (subst (λ (tr : BundleTree). Turns g.B.Bundle.observed (subtree_below tr c.args.root.now) c.in-Some.task c.entries.lines rest c.turn.new.lines c.turn.new.pending.items) (c.entries.invariant.reads.same t) c.in-Ok.ensures.turned)
          (subst (WalkHasSeen nodes c.entries.lines) popped (c.entries.invariant.seen t)) t;
      reads = reads_more c.entries.invariant.reads c.turn.ensures.reads;
    }

pub returns-in-Err-clause-fault : goal.returns-in-Err-clause-fault
returns-in-Err-clause-fault g c t =
    let rest = c.pop.new.self.items in
    let popped : c.entries.pending.items ≡ rest ++ c.in-Some.task ∷ [] = c.in-Some.ensures.items in
    let work : IsWalkUnderWay c.entries.lines (rest ++ c.in-Some.task ∷ []) = subst (IsWalkUnderWay c.entries.lines) popped c.entries.invariant.work in
    let nodes = subtree_below (g.B.Bundle.shown c.begin.new.bundle).tree c.args.root.now in
    let seen : WalkHasSeen nodes c.entries.lines (rest ++ c.in-Some.task ∷ []) = subst (WalkHasSeen nodes c.entries.lines) popped (c.entries.invariant.seen t) in
    subst (λ (tr : BundleTree). EndsWalk (subtree_below tr c.args.root.now) c.in-Err.refusal) (c.begin.ensures.reads.same t)
    (ends_walk c.entries.lines rest c.in-Some.task work nodes c.in-Err.refusal seen
    (subst (λ (tr : BundleTree). WalkFailsAt (subtree_below tr c.args.root.now) c.entries.lines c.in-Some.task.path c.in-Err.refusal) (c.entries.invariant.reads.same t)
    (c.in-Err.ensures.fault t
    (subst (λ (tr : BundleTree). kind_at (subtree_below tr c.args.root.now c.in-Some.task.path) ≡ Some c.in-Some.task.kind) (sym (c.entries.invariant.reads.same t)) (task_kind c.entries.lines rest c.in-Some.task work nodes seen)))))

pub returns-clause-walked : goal.returns-clause-walked
returns-clause-walked g c t =
    let none : length c.entries.pending.items ≡ 0 = search (rules, c.in_default.ensures.cases.0) in
    subst (λ (tr : BundleTree). IsWalked (subtree_below tr c.args.root.now) c.entries.lines) (c.begin.ensures.reads.same t)
    (ends_walked (subtree_below (g.B.Bundle.shown c.begin.new.bundle).tree c.args.root.now) c.entries.lines c.entries.pending.items (nothing c.entries.pending.items none) (c.entries.invariant.seen t))
