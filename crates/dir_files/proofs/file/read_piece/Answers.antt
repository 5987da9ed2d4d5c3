use Rattle.std.proofs.Common.{rules, ◌≡◌, ℕ, length, take, subst}
use Rattle.plain_laws.proofs.Fronts.{short_piece}
use Rattle.dir_trait.specs.DirCalls.{HeldBetween}
use Rattle.dir_files.specs.Reads.{inner_at, TellsFile, IsPiece}
use Rattle.dir_files.proofs.Reading.{only_call, missing_call, told_bytes}
use Rattle.dir_files.proofs.file.read_piece.Goals as goal

pub returns-in_err-count-clause-only : goal.returns-in_err-count-clause-only
returns-in_err-count-clause-only g c = only_call (inner_at c.args.spot.now c.args.path.now) _ _ _ c.read_in.result c.read_in.ensures.called

pub returns-in_err-map_err-clause-only : goal.returns-in_err-map_err-clause-only
returns-in_err-map_err-clause-only g c = only_call (inner_at c.args.spot.now c.args.path.now) _ _ _ c.read_in.result c.read_in.ensures.called

pub returns-clause-only : goal.returns-clause-only
returns-clause-only g c = only_call (inner_at c.args.spot.now c.args.path.now) _ _ _ c.read_in.result c.read_in.ensures.called

pub returns-in_err-count-clause-missing : goal.returns-in_err-count-clause-missing
returns-in_err-count-clause-missing g c is t = missing_call (inner_at c.args.spot.now c.args.path.now) _ _ _ c.read_in.result c.read_in.ensures.called (search (rules, is, c.from_residual.ensures, c.in_err-count.is)) t

pub returns-clause-read : goal.returns-clause-read
returns-clause-read g c t =
    let inner = inner_at c.args.spot.now c.args.path.now in
    let start : c.len.result ≡ length c.args.bytes.now.items = search rules in
    let told = told_bytes inner c.len.result (length c.args.room.now) t (take c.in_ok-count.count c.read_in.new.room) c.in_ok-count.ensures.called in
    record {
      piece = take c.in_ok-count.count c.read_in.new.room;
      grown = search rules;
      short = short_piece c.in_ok-count.count c.args.room.now c.read_in.new.room c.in_ok-count.ensures.filled.1;
      told = subst (λ (at : ℕ). HeldBetween (g.D.Dir.shown c.args.dir.now) (g.D.Dir.shown c.read_in.new.self) (TellsFile inner (IsPiece at (length c.args.room.now) (take c.in_ok-count.count c.read_in.new.room)))) start told;
    }
