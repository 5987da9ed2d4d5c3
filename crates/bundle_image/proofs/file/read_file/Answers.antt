use Rattle.std.proofs.Common.{rules, arith, ◌≡◌, ◌≤◌, ◌+◌, ◌-◌, min, take, ℕ, Bool, true, List, length, Option, IsSomeAnd, ap, subst, ◌∙◌}
use Rattle.plain_laws.proofs.Lists.{within_most}
use Rattle.dir_trait.specs.Bundles.{bytes_of_node}
use Rattle.dir_trait.proofs.Askings.{asks_more}
use Rattle.bundle_image.specs.Fronts.{IsFrontOrNothing, IsFront}
use Rattle.bundle_image.proofs.FilePieces.{still_begun, ended_whole, full_whole}
use Rattle.bundle_image.proofs.file.read_file.Goals as goal

-- what is known of one file is known of an equal one
carried : (ended : Bool) (old new : List ℕ) {file same : Option (List ℕ)} → file ≡ same → (IsFrontOrNothing file old → IsSomeAnd file (IsFront ended new)) → IsFrontOrNothing same old → IsSomeAnd same (IsFront ended new)
carried ended old new is next = subst (λ (f : Option (List ℕ)). IsFrontOrNothing f old → IsSomeAnd f (IsFront ended new)) is next

pub pieces-preserved : goal.pieces-preserved
pieces-preserved g c = record {
  within = let n : c.len-in-pieces-2.result ≡ length c.pieces.bytes.items = search rules in within_most _ _ _ _ _ _ _ c.in_ok-read_piece.ensures.most c.min-wanted.ensures n c.pieces.invariant.within;
  room = search rules;
  faults = omega (arith, c.read_piece.ensures.faults, c.pieces.invariant.faults);
  given = omega (arith, c.in_ok-read_piece.ensures.kept, c.pieces.invariant.given);
  same = λ t. c.read_piece.ensures.same t ∙ c.pieces.invariant.same t;
  asked = λ t. asks_more (c.pieces.invariant.asked t) (c.read_piece.ensures.asked t);
  begun = λ t. still_begun _ _ _ (carried _ _ _ (ap (λ tree. bytes_of_node (tree c.args.path.now)) (c.pieces.invariant.same t)) (c.in_ok-read_piece.ensures.read t) (c.pieces.invariant.begun t));
}

pub returns-then-branch-clause-read : goal.returns-then-branch-clause-read
returns-then-branch-clause-read g c t =
    let n : c.len-in-pieces-2.result ≡ length c.pieces.bytes.items = search rules in
    ended_whole _ _ _ (within_most _ _ _ _ _ _ _ c.in_ok-read_piece.ensures.most c.min-wanted.ensures n c.pieces.invariant.within) (subst (λ (ended : Bool). IsSomeAnd (bytes_of_node ((g.B.Bundle.shown c.args.bundle.now).tree c.args.path.now)) (IsFront ended c.read_piece.new.bytes.items)) c.if-branch.true (carried _ _ _ (ap (λ tree. bytes_of_node (tree c.args.path.now)) (c.pieces.invariant.same t)) (c.in_ok-read_piece.ensures.read t) (c.pieces.invariant.begun t)))

pub returns-clause-read : goal.returns-clause-read
returns-clause-read g c t = full_whole _ _ _ c.requires (search rules) c.pieces.invariant.within (c.pieces.invariant.begun t)
