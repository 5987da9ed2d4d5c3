use Rattle.std.proofs.Common.{rules, ◌≡◌, ℕ, length, subst, IsSomeAnd}
use Rattle.dir_trait.specs.Bundles.{bytes_of_node, Fills}
use Rattle.bundle_image.proofs.FilePieces.{next_front}
use Rattle.bundle_image.proofs.file.read_piece.Goals as goal

pub returns-clause-read : goal.returns-clause-read
returns-clause-read g c t begun =
    let start : c.len.result ≡ length c.args.bytes.now.items = search rules in
    next_front _ _ _ _ _ _ begun (subst (λ (at : ℕ). IsSomeAnd (bytes_of_node ((g.B.Bundle.shown c.args.bundle.now).tree c.args.path.now)) (λ f. Fills f at c.args.room.now c.in_ok-count.count c.read.new.room)) start (c.in_ok-count.ensures.read t)) (search rules)
