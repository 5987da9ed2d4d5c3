use Rattle.std.proofs.Common.{rules, arith, ◌≡◌, ◌≤◌, ◌<◌, ◌+◌, ◌*◌, ◌-◌, min, take, ℕ, List, length}
use Rattle.std.proofs.lemmas.Grind.{common_steps}
use Rattle.plain_laws.proofs.Lists.{within_most}
use Rattle.dir_files.proofs.Reading.{only_more, missing_more, reads_more, reads_ended}
use Rattle.dir_files.proofs.file.read_pieces.Goals as goal

one_more : (new old first l most : ℕ) → new ≤ old + 1 → 65536 * old ≤ 65536 * first + l → l < most → 65536 * new ≤ 65536 * first + (most + 65535)
one_more new old first l most more begun under = grind (arith, common_steps)

-- a piece that isn't the last has 65,536 bytes, unless nothing more is wanted
next_begun : (new old first l now w r n most : ℕ) (room : List ℕ) → new ≤ old + 1 → 65536 * old ≤ 65536 * first + l → now ≡ l + length (take w room) → w ≡ min r (most - n) → n ≡ l → r ≡ 65536 → length room ≡ 65536 → now < most → 65536 * new ≤ 65536 * first + now
next_begun new old first l now w r n most room more begun full wanted same whole room_is under = grind (arith, common_steps)

pub returns-in_err-read_piece-clause-only : goal.returns-in_err-read_piece-clause-only
returns-in_err-read_piece-clause-only g c = only_more c.pieces.invariant.only c.read_piece.ensures.only

pub returns-in_err-read_piece-clause-missing : goal.returns-in_err-read_piece-clause-missing
returns-in_err-read_piece-clause-missing g c is t = missing_more (g.D.Dir.shown c.read_piece.new.dir) t c.pieces.invariant.only (c.read_piece.ensures.missing (search (rules, is, c.from_residual-in_err-read_piece.ensures, c.in_err-read_piece.is)) t)

pub returns-then-branch-clause-only : goal.returns-then-branch-clause-only
returns-then-branch-clause-only g c = only_more c.pieces.invariant.only c.read_piece.ensures.only

pub returns-then-branch-clause-read : goal.returns-then-branch-clause-read
returns-then-branch-clause-read g c t = reads_ended (c.pieces.invariant.reads t) c.pieces.invariant.only.same (c.in_ok-read_piece.ensures.read t) c.if-branch.true

pub pieces-preserved : goal.pieces-preserved
pieces-preserved g c = record {
  within = let n : c.len-in-pieces-2.result ≡ length c.pieces.bytes.items = search rules in within_most _ _ _ _ _ _ _ c.in_ok-read_piece.ensures.most c.min-wanted.ensures n c.pieces.invariant.within;
  room = search rules;
  begun = λ under.
      let n : c.len-in-pieces-2.result ≡ length c.pieces.bytes.items = search rules in
      let test : length c.pieces.bytes.items < c.args.most = search (rules, c.pieces-test.true) in
      next_begun _ _ _ _ _ _ _ _ _ _ c.read_piece.ensures.counted (c.pieces.invariant.begun test) (c.in_ok-read_piece.ensures.full (search (rules, c.if-branch.false))) c.min-wanted.ensures n (search (rules, c.pieces.invariant.room)) (search (rules, c.pieces.invariant.room)) under;
  counted =
      let test : length c.pieces.bytes.items < c.args.most = search (rules, c.pieces-test.true) in
      one_more _ _ _ _ _ c.read_piece.ensures.counted (c.pieces.invariant.begun test) test;
  only = only_more c.pieces.invariant.only c.read_piece.ensures.only;
  reads = λ t. reads_more (c.pieces.invariant.reads t) c.pieces.invariant.only.same (c.in_ok-read_piece.ensures.read t);
}

pub returns-in_err-read_piece-clause-counted : goal.returns-in_err-read_piece-clause-counted
returns-in_err-read_piece-clause-counted g c =
    let test : length c.pieces.bytes.items < c.args.most = search (rules, c.pieces-test.true) in
    one_more _ _ _ _ _ c.read_piece.ensures.counted (c.pieces.invariant.begun test) test

pub returns-then-branch-clause-counted : goal.returns-then-branch-clause-counted
returns-then-branch-clause-counted g c =
    let test : length c.pieces.bytes.items < c.args.most = search (rules, c.pieces-test.true) in
    one_more _ _ _ _ _ c.read_piece.ensures.counted (c.pieces.invariant.begun test) test
