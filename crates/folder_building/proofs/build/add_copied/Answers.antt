use Rattle.std.proofs.Common.{◌≡◌, true, IsErrOf, rules}
use Rattle.plain_laws.proofs.Results.{if_ok, if_err}
use Rattle.folder_building.specs.declared.error.BuildError.TheVariants.{Stray}
use Rattle.folder_building.specs.Stored.{WasLike, reads_stored}
use Rattle.folder_building.specs.Making.{Copies, SpoilsUnder}
use Rattle.folder_building.specs.Changes.{MakesCopiedFile, TriesCopiedFile}
use Rattle.folder_building.proofs.Working.{worked_more}
use Rattle.folder_building.proofs.ReadsOf.{copies_here}
use Rattle.folder_building.proofs.Strays.{stray_after}
use Rattle.folder_building.proofs.Pieces.{file_spoilt}
use Rattle.folder_building.proofs.Copying.{worked_here, stray_here, takes_file}
use Rattle.folder_building.proofs.Stored.{unlike_after, like_after}
use Rattle.folder_building.proofs.build.add_copied.Goals as goal

pub returns-in_err-make_file-clause-worked : goal.returns-in_err-make_file-clause-worked
returns-in_err-make_file-clause-worked g c = worked_here c.args.spot.now (g.S.Source.shown c.args.source.now) c.make_file.ensures.worked

pub returns-in_err-make_file-clause-stray : goal.returns-in_err-make_file-clause-stray
returns-in_err-make_file-clause-stray g c h t =
    let D = g.D.Dir in
    let k : IsErrOf c.make_file.result Stray = search (rules, h, c.from_residual.ensures, c.in_err-make_file.is) in
    stray_here c.args.spot.now (g.S.Source.shown c.args.source.now) (D.shown c.args.dir.now) (D.shown c.make_file.new.dir) (c.make_file.ensures.stray k t)

pub returns-clause-worked : goal.returns-clause-worked
returns-clause-worked g c = worked_more (worked_here c.args.spot.now (g.S.Source.shown c.args.source.now) c.make_file.ensures.worked) c.copy.ensures.worked

pub returns-clause-stray : goal.returns-clause-stray
returns-clause-stray g c h t = stray_after (g.D.Dir.shown c.copy.new.dir) t (worked_here c.args.spot.now (g.S.Source.shown c.args.source.now) c.make_file.ensures.worked) (c.copy.ensures.stray h t)

pub returns-clause-done : goal.returns-clause-done
returns-clause-done g c =
    let D = g.D.Dir in
    let source = g.S.Source.shown c.args.source.now in
    let spot = c.args.spot.now in
    let path = c.args.path.now in
    let old = D.shown c.args.dir.now in
    let mid = D.shown c.make_file.new.dir in
    let new = D.shown c.copy.new.dir in
    if_ok (λ done. Copies D.observed source spot path c.args.size c.args.sha mid new) (λ done. MakesCopiedFile D.observed source spot path c.args.size c.args.sha old new) c.copy.result (λ done w. takes_file old c.in_ok-make_file.ensures.done w) c.copy.ensures.done

pub returns-clause-refused : goal.returns-clause-refused
returns-clause-refused g c =
    let D = g.D.Dir in
    let source = g.S.Source.shown c.args.source.now in
    let spot = c.args.spot.now in
    let path = c.args.path.now in
    let old = D.shown c.args.dir.now in
    let mid = D.shown c.make_file.new.dir in
    let new = D.shown c.copy.new.dir in
    if_err (λ e. D.observed ≡ true → SpoilsUnder source spot path mid new) (λ e. D.observed ≡ true → TriesCopiedFile source spot path old new) c.copy.result (λ e f t. file_spoilt spot path source old mid new (c.in_ok-make_file.ensures.done t) (f t)) c.copy.ensures.refused

pub returns-clause-lacks : goal.returns-clause-lacks
returns-clause-lacks g c n h t = unlike_after (g.D.Dir.shown c.args.dir.now) (g.D.Dir.shown c.make_file.new.dir) (c.make_file.ensures.worked.extends t) c.make_file.ensures.worked.same (g.D.Dir.shown c.copy.new.dir) (c.copy.ensures.lacks n h t)

pub returns-clause-had : goal.returns-clause-had
returns-clause-had g c =
    let D = g.D.Dir in
    let stored = g.S.Source.stored c.args.origin.now in
    let old = D.shown c.args.dir.now in
    let mid = D.shown c.make_file.new.dir in
    let new = D.shown c.copy.new.dir in
    if_ok (λ done. D.observed ≡ true → WasLike stored c.args.size c.args.sha mid new) (λ done. D.observed ≡ true → WasLike stored c.args.size c.args.sha old new) c.copy.result
    (λ done f t. like_after old mid (c.make_file.ensures.worked.extends t) c.make_file.ensures.worked.same new (f t)) c.copy.ensures.had

pub returns-in_err-make_file-clause-copies : goal.returns-in_err-make_file-clause-copies
returns-in_err-make_file-clause-copies g c = copies_here c.args.spot.now (reads_stored (g.S.Source.stored c.args.origin.now)) c.make_file.ensures.worked

pub returns-clause-copies : goal.returns-clause-copies
returns-clause-copies g c = worked_more (copies_here c.args.spot.now (reads_stored (g.S.Source.stored c.args.origin.now)) c.make_file.ensures.worked) c.copy.ensures.copies
