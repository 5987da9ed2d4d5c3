use Rattle.std.proofs.Common.{◌≡◌, ◌++◌, ◌-◌, ◌≤◌, true, take, length}
use Rattle.dir_trait.proofs.sink.write_whole.Given as goal

abbrev pub invariant-pieces : goal.invariant-pieces
invariant-pieces g l =
    let S = g.S.Sink in
    record {
      within : l.at ≤ length l.text;
      faults : (S.shown l.fn.sink).faults ≤ (S.shown l.sink).faults;
      shortages : (S.shown l.fn.sink).shortages ≤ (S.shown l.sink).shortages;
      written : S.observed ≡ true → (S.shown l.sink).bytes ≡ (S.shown l.fn.sink).bytes ++ take l.at l.text;
    }

abbrev pub decreases-pieces : goal.decreases-pieces
decreases-pieces g l = length l.text - l.at
