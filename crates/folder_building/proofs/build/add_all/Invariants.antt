use Rattle.std.proofs.Common.{◌≡◌, true, take}
use Rattle.folder_building.specs.Work.{builds_at, either}
use Rattle.folder_building.specs.Sources.{Same, AreLike}
use Rattle.folder_building.specs.Stored.{HadContents, reads_contents}
use Rattle.folder_building.specs.Making.{FillsWith}
use Rattle.folder_building.proofs.build.add_all.Given as goal
use Rattle.dir_trait.specs.Effects.{OnlyAsks}

abbrev pub invariant-entries : goal.invariant-entries
invariant-entries g l =
    let D = g.D.Dir in
    let S = g.S.Source in
    record {
      place : l.place ≡ l.entry-index;
      same : Same (S.shown l.fn.source) (S.shown l.source);
      like : AreLike (S.shown l.fn.source) (take l.entry-index l.plan);
      had : D.observed ≡ true → HadContents S.stored (take l.entry-index l.plan) (D.shown l.fn.dir) (D.shown l.dir);
      worked : OnlyAsks D.observed (either (builds_at l.spot) (S.shown l.fn.source).asks) (D.shown l.fn.dir) (D.shown l.dir);
      copies : OnlyAsks D.observed (either (builds_at l.spot) (reads_contents S.stored l.plan)) (D.shown l.fn.dir) (D.shown l.dir);
      filled : FillsWith D.observed (S.shown l.fn.source) l.spot l.plan (take l.entry-index l.plan) (D.shown l.fn.dir) (D.shown l.dir);
    }
