use Rattle.std.proofs.Common.{◌≡◌, ◌≤◌, ◌<◌, ◌+◌, ◌*◌, ◌-◌, true, length, vec_len}
use Rattle.dir_files.specs.Reads.{inner_at, OnlyReads, HasReadSoFar, IsCounted}
use Rattle.dir_files.proofs.file.read_pieces.Given as goal

abbrev pub invariant-pieces : goal.invariant-pieces
invariant-pieces g l =
    let D = g.D.Dir in
    record {
      within : length l.bytes.items ≤ l.most;
      room : vec_len l.room ≡ 65536;
      begun : length l.bytes.items < l.most → 65536 * (D.shown l.dir).calls ≤ 65536 * (D.shown l.initial.dir).calls + length l.bytes.items;
      counted : IsCounted l.most (D.shown l.initial.dir) (D.shown l.dir);
      only : OnlyReads D.observed (inner_at l.spot l.path) (D.shown l.initial.dir) (D.shown l.dir);
      reads : D.observed ≡ true → HasReadSoFar (inner_at l.spot l.path) (D.shown l.initial.dir) (D.shown l.dir) l.bytes.items;
    }

abbrev pub decreases-pieces : goal.decreases-pieces
decreases-pieces g l = l.most - length l.bytes.items
