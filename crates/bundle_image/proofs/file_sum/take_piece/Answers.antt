use Rattle.std.proofs.Common.{arith, ◌≡◌, ◌+◌, ◌≤◌, ◌++◌, ℕ, List, length, take, subst, IsSomeAnd, refl}
use Rattle.std.proofs.lemmas.Grind.{common_steps}
use Rattle.dir_trait.specs.Bundles.{bytes_of_node, Fills}
use Rattle.bundle_image.proofs.FilePieces.{next_front}
use Rattle.bundle_image.proofs.Reading.{itself, reads_call}
use Rattle.bundle_image.proofs.file_sum.take_piece.Goals as goal

grown : (old n r : ℕ) (m : List ℕ) (room : List ℕ) → old ≡ length m → n ≤ r → length room ≡ r → old + n ≡ length (m ++ take n room)
grown old n r m room is within same = grind (arith, common_steps)

pub returns-in_err-count-clause-reads : goal.returns-in_err-count-clause-reads
returns-in_err-count-clause-reads g c = reads_call c.args.path.now (itself _) c.read.ensures.called

pub returns-clause-reads : goal.returns-clause-reads
returns-clause-reads g c = reads_call c.args.path.now (itself _) c.read.ensures.called

pub returns-clause-took : goal.returns-clause-took
returns-clause-took g c message taken = record {
  more = take c.in_ok-count.count c.read.new.room;
  taken = record {
    hashed = c.update.ensures message taken.hashed;
    size = grown c.args.hashing.now.size c.in_ok-count.count (length c.args.room.now) message c.read.new.room taken.size c.in_ok-count.ensures.most c.read.auto.room;
  };
  front = λ t begun. next_front _ _ _ _ _ _ begun (subst (λ (at : ℕ). IsSomeAnd (bytes_of_node ((g.B.Bundle.shown c.args.bundle.now).tree c.args.path.now)) (λ f. Fills f at c.args.room.now c.in_ok-count.count c.read.new.room)) taken.size (c.in_ok-count.ensures.read t)) refl;
}
