use Rattle.std.proofs.Common.{arith, ◌++◌, ap}
use Rattle.dir_trait.specs.Bundles.{bytes_of_node}
use Rattle.bundle_image.proofs.FilePieces.{still_begun}
use Rattle.bundle_image.proofs.Pieces.{carried, sum_whole, sum_long}
use Rattle.bundle_image.proofs.Reading.{reads_more}
use Rattle.bundle_image.proofs.file_sum.sum_file.Goals as goal

pub returns-then-branch-clause-short : goal.returns-then-branch-clause-short
returns-then-branch-clause-short g c =
    let took = c.in_ok-take_piece.ensures.took c.pieces.invariant.taken.0 c.pieces.invariant.taken.1 in
    (c.pieces.invariant.taken.0 ++ took.more, c.finish.ensures (c.pieces.invariant.taken.0 ++ took.more) took.taken)

pub returns-then-branch-clause-sum : goal.returns-then-branch-clause-sum
returns-then-branch-clause-sum g c t =
    let took = c.in_ok-take_piece.ensures.took c.pieces.invariant.taken.0 c.pieces.invariant.taken.1 in
    sum_whole _ (c.pieces.invariant.taken.0 ++ took.more) _ _ c.if-branch.true
    (carried _ _ _ (ap (λ tree. bytes_of_node (tree c.args.path.now)) (c.pieces.invariant.reads.same t)) (took.front t) (c.pieces.invariant.taken.2 t))
    (c.finish.ensures (c.pieces.invariant.taken.0 ++ took.more) took.taken)

pub pieces-preserved : goal.pieces-preserved
pieces-preserved g c =
    let took = c.in_ok-take_piece.ensures.took c.pieces.invariant.taken.0 c.pieces.invariant.taken.1 in
    record {
      room = c.pieces.invariant.room;
      within = c.pieces.invariant.within;
      reads = reads_more c.pieces.invariant.reads c.take_piece.ensures.reads;
      taken = (
        c.pieces.invariant.taken.0 ++ took.more,
        took.taken,
        λ t. still_begun _ _ _ (carried _ _ _ (ap (λ tree. bytes_of_node (tree c.args.path.now)) (c.pieces.invariant.reads.same t)) (took.front t) (c.pieces.invariant.taken.2 t)),
      );
    }

pub returns-clause-sum : goal.returns-clause-sum
returns-clause-sum g c t =
    sum_long _ c.pieces.invariant.taken.0 _ (omega (arith, c.pieces-test.false, c.pieces.invariant.taken.1.size)) (c.pieces.invariant.taken.2 t) (c.finish-2.ensures c.pieces.invariant.taken.0 c.pieces.invariant.taken.1)
