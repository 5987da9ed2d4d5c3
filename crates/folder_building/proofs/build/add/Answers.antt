use Rattle.std.proofs.Common.{◌≡◌, true, false}
use Rattle.plain_laws.proofs.Results.{if_ok}
use Rattle.folder_building.specs.Sources.{IsLike, LikeContent}
use Rattle.folder_building.specs.Stored.{WasLike, HadContent, reads_content}
use Rattle.folder_building.specs.Making.{AddsPlanEntry}
use Rattle.folder_building.specs.Changes.{Makes, MakesGivenFile, MakesCopiedFile}
use Rattle.folder_building.proofs.Copying.{worked_here, stray_here, ok_any}
use Rattle.folder_building.proofs.ReadsOf.{copies_here}
use Rattle.folder_building.proofs.Filling.{dir_adds, given_adds, copied_adds, adds_as}
use Rattle.folder_building.proofs.build.add.Goals as goal

pub returns-in-Directory-clause-worked : goal.returns-in-Directory-clause-worked
returns-in-Directory-clause-worked g c = worked_here c.args.spot.now (g.S.Source.shown c.args.source.now) c.make_dir.ensures.worked

pub returns-in-Directory-clause-stray : goal.returns-in-Directory-clause-stray
returns-in-Directory-clause-stray g c h t = stray_here c.args.spot.now (g.S.Source.shown c.args.source.now) (g.D.Dir.shown c.args.dir.now) (g.D.Dir.shown c.make_dir.new.dir) (c.make_dir.ensures.stray h t)

pub returns-in-Directory-clause-done : goal.returns-in-Directory-clause-done
returns-in-Directory-clause-done g c =
    let D = g.D.Dir in
    let e = c.args.entry.now in
    let spot = c.args.spot.now in
    let old = D.shown c.args.dir.now in
    let new = D.shown c.make_dir.new.dir in
    if_ok (λ done. D.observed ≡ true → Makes spot e.path false old new) (λ done. AddsPlanEntry D.observed (g.S.Source.shown c.args.source.now) spot e old new) c.make_dir.result (λ done f. adds_as e c.in-Directory.is (dir_adds f)) (rw c.as_str-path.ensures at c.make_dir.ensures.done)

pub returns-in-Given-clause-worked : goal.returns-in-Given-clause-worked
returns-in-Given-clause-worked g c = worked_here c.args.spot.now (g.S.Source.shown c.args.source.now) c.add_given.ensures.worked

pub returns-in-Given-clause-stray : goal.returns-in-Given-clause-stray
returns-in-Given-clause-stray g c h t = stray_here c.args.spot.now (g.S.Source.shown c.args.source.now) (g.D.Dir.shown c.args.dir.now) (g.D.Dir.shown c.add_given.new.dir) (c.add_given.ensures.stray h t)

pub returns-in-Given-clause-done : goal.returns-in-Given-clause-done
returns-in-Given-clause-done g c =
    let D = g.D.Dir in
    let e = c.args.entry.now in
    let spot = c.args.spot.now in
    let old = D.shown c.args.dir.now in
    let new = D.shown c.add_given.new.dir in
    if_ok (λ done. MakesGivenFile D.observed spot e.path c.in-Given.bytes old new) (λ done. AddsPlanEntry D.observed (g.S.Source.shown c.args.source.now) spot e old new) c.add_given.result (λ done f. adds_as e c.in-Given.is (given_adds f)) (rw (c.as_str-path.ensures, c.as_slice.ensures) at c.add_given.ensures.done)

pub returns-in-Copied-clause-done : goal.returns-in-Copied-clause-done
returns-in-Copied-clause-done g c =
    let D = g.D.Dir in
    let S = g.S.Source in
    let e = c.args.entry.now in
    let spot = c.args.spot.now in
    let old = D.shown c.args.dir.now in
    let new = D.shown c.add_copied.new.dir in
    if_ok (λ done. MakesCopiedFile D.observed (S.shown c.args.source.now) spot e.path c.in-Copied.size c.in-Copied.sha old new) (λ done. AddsPlanEntry D.observed (S.shown c.args.source.now) spot e old new) c.add_copied.result (λ done f. adds_as e c.in-Copied.is (copied_adds f)) (rw c.as_str-path.ensures at c.add_copied.ensures.done)

pub returns-in-Copied-clause-unlike : goal.returns-in-Copied-clause-unlike
returns-in-Copied-clause-unlike g c n h =
    let why = c.add_copied.ensures.unlike n h in
    (why.0, rw c.in-Copied.is why.1)

pub returns-in-Copied-clause-lacks : goal.returns-in-Copied-clause-lacks
returns-in-Copied-clause-lacks g c n h t = rw c.in-Copied.is (c.add_copied.ensures.lacks n h t)

pub returns-in-Copied-clause-like : goal.returns-in-Copied-clause-like
returns-in-Copied-clause-like g c =
    let S = g.S.Source in
    if_ok (λ done. IsLike (S.shown c.args.source.now) c.in-Copied.origin c.in-Copied.size c.in-Copied.sha) (λ done. LikeContent (S.shown c.args.source.now) c.args.entry.now.content) c.add_copied.result (λ done f. rw c.in-Copied.is f) c.add_copied.ensures.like

pub returns-in-Directory-clause-like : goal.returns-in-Directory-clause-like
returns-in-Directory-clause-like g c = ok_any c.make_dir.result (rw c.in-Directory.is tt)

pub returns-in-Given-clause-like : goal.returns-in-Given-clause-like
returns-in-Given-clause-like g c = ok_any c.add_given.result (rw c.in-Given.is tt)

pub returns-in-Copied-clause-had : goal.returns-in-Copied-clause-had
returns-in-Copied-clause-had g c =
    let D = g.D.Dir in
    let S = g.S.Source in
    let old = D.shown c.args.dir.now in
    let new = D.shown c.add_copied.new.dir in
    if_ok (λ done. D.observed ≡ true → WasLike (S.stored c.in-Copied.origin) c.in-Copied.size c.in-Copied.sha old new) (λ done. D.observed ≡ true → HadContent S.stored c.args.entry.now.content old new) c.add_copied.result
    (λ done f t. rw c.in-Copied.is (f t)) c.add_copied.ensures.had

pub returns-in-Directory-clause-had : goal.returns-in-Directory-clause-had
returns-in-Directory-clause-had g c = ok_any c.make_dir.result (λ t. rw c.in-Directory.is tt)

pub returns-in-Given-clause-had : goal.returns-in-Given-clause-had
returns-in-Given-clause-had g c = ok_any c.add_given.result (λ t. rw c.in-Given.is tt)

pub returns-in-Directory-clause-copies : goal.returns-in-Directory-clause-copies
returns-in-Directory-clause-copies g c = copies_here c.args.spot.now (reads_content g.S.Source.stored c.args.entry.now.content) c.make_dir.ensures.worked

pub returns-in-Given-clause-copies : goal.returns-in-Given-clause-copies
returns-in-Given-clause-copies g c = copies_here c.args.spot.now (reads_content g.S.Source.stored c.args.entry.now.content) c.add_given.ensures.worked

pub returns-in-Copied-clause-copies : goal.returns-in-Copied-clause-copies
returns-in-Copied-clause-copies g c = rw c.in-Copied.is c.add_copied.ensures.copies
