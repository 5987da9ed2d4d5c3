use Rattle.std.proofs.Common.{◌≡◌, true}
use Rattle.plain_laws.proofs.Results.{if_ok, if_err}
use Rattle.folder_building.specs.Making.{AppendsInPieces, Spoils}
use Rattle.folder_building.specs.Changes.{MakesGivenFile, TriesFile}
use Rattle.folder_building.proofs.Working.{worked_more}
use Rattle.folder_building.proofs.Strays.{stray_after}
use Rattle.folder_building.proofs.Copying.{gives_file, gives_none}
use Rattle.folder_building.proofs.build.add_given.Goals as goal

pub returns-clause-worked : goal.returns-clause-worked
returns-clause-worked g c = worked_more c.make_file.ensures.worked c.write.ensures.worked

pub returns-clause-stray : goal.returns-clause-stray
returns-clause-stray g c h t = stray_after (g.D.Dir.shown c.write.new.dir) t c.make_file.ensures.worked (c.write.ensures.stray h t)

pub returns-clause-done : goal.returns-clause-done
returns-clause-done g c =
    let D = g.D.Dir in
    let spot = c.args.spot.now in
    let path = c.args.path.now in
    let old = D.shown c.args.dir.now in
    let mid = D.shown c.make_file.new.dir in
    let new = D.shown c.write.new.dir in
    if_ok (λ done. AppendsInPieces D.observed spot path c.args.bytes.now mid new) (λ done. MakesGivenFile D.observed spot path c.args.bytes.now old new) c.write.result (λ done w. gives_file old c.in_ok-make_file.ensures.done w) c.write.ensures.done

pub returns-clause-refused : goal.returns-clause-refused
returns-clause-refused g c =
    let D = g.D.Dir in
    let spot = c.args.spot.now in
    let path = c.args.path.now in
    let old = D.shown c.args.dir.now in
    let mid = D.shown c.make_file.new.dir in
    let new = D.shown c.write.new.dir in
    if_err (λ e. D.observed ≡ true → Spoils spot path mid new) (λ e. D.observed ≡ true → TriesFile spot path old new) c.write.result (λ e f t. gives_none spot path old mid new (c.in_ok-make_file.ensures.done t) (f t)) c.write.ensures.refused
