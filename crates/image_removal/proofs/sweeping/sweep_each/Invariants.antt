use Rattle.std.proofs.Common.{◌≡◌, true, take}
use Rattle.dir_trait.specs.DirCalls.{ExtendsBy}
use Rattle.dir_trait.specs.Effects.{OnlyAsks}
use Rattle.image_removal.specs.Passes.{area_of_pass, deals_with_folders}
use Rattle.image_removal.specs.Sweeps.{AddsLines}
use Rattle.image_removal.specs.Work.{HoldsArea, StaysBare, Stays}
use Rattle.image_removal.proofs.sweeping.sweep_each.Given as goal

abbrev pub invariant-names : goal.invariant-names
invariant-names g l =
    let D = g.D.Dir in
    record {
      worked : OnlyAsks D.observed (deals_with_folders l.pass l.names) (D.shown l.initial.dir) (D.shown l.dir);
      so_far : D.observed ≡ true → ExtendsBy (deals_with_folders l.pass (take l.name-index l.names)) (D.shown l.initial.dir) (D.shown l.dir);
      swept : AddsLines D.observed l.pass (take l.name-index l.names) l.initial.lines.items l.lines.items (D.shown l.initial.dir) (D.shown l.dir);
      stays : D.observed ≡ true → Stays (HoldsArea (area_of_pass l.pass)) StaysBare (D.shown l.initial.dir) (D.shown l.dir);
    }
