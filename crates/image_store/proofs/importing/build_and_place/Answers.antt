use Rattle.std.proofs.Common.{◌≡◌, true, Ok, false, rules, subst}
use Rattle.plain_laws.proofs.Results.{if_err, err_same}
use Rattle.ac_types.specs.declared.store_key.StoreKey.{StoreKey}
use Rattle.image_reading.specs.Places.{image_spot}
use Rattle.image_store.specs.Refusals.{is_import_work_refusal}
use Rattle.image_store.specs.Work.{WhereImportFilled, IsImagePlaced}
use Rattle.image_store.specs.Causes.{bundle_source_at, BuildCause, PlaceCause, ImportCause}
use Rattle.image_store.specs.Imports.{key_of_image}
use Rattle.image_store.proofs.Widths.{cause_after}
use Rattle.image_store.proofs.Refusals.{build_import, place_import}
use Rattle.image_store.proofs.Placings.{same_key}
use Rattle.image_store.proofs.Outcomes.{placed_leaves}
use Rattle.folder_building.proofs.Working.{worked_more, worked_wider}
use Rattle.folder_building.proofs.Following.{follows_work}
use Rattle.image_store.specs.Requests.{building_spot}
use Rattle.image_store.specs.Moves.{Moves}
use Rattle.image_store.proofs.Fillings.{makes_import}
use Rattle.image_store.proofs.Moving.{moves_none, moves_after, nothing_built}
use Rattle.image_store.proofs.importing.build_and_place.Goals as goal

pub returns-in_err-build-clause-cause : goal.returns-in_err-build-clause-cause
returns-in_err-build-clause-cause g c =
    let D = g.D.Dir in
    let source = bundle_source_at g.B.Bundle.observed (g.B.Bundle.shown c.args.bundle.now).tree c.args.path.now in
    let old = D.shown c.args.dir.now in
    let new = D.shown c.build.new.dir in
    let image = c.args.image.now in
    err_same (λ e. ImportCause is_import_work_refusal D.observed source (key_of_image image) c.args.digest.now image.listing e old new) c.build.result c.from_residual.result (λ e h. search (rules, h, c.from_residual.ensures, c.in_err-build.is))
    (if_err (λ e. BuildCause D.observed source image.listing e old new) (λ e. ImportCause is_import_work_refusal D.observed source (key_of_image image) c.args.digest.now image.listing e old new) c.build.result (λ e x. build_import e x) c.build.ensures.cause)

pub returns-clause-cause : goal.returns-clause-cause
returns-clause-cause g c =
    let D = g.D.Dir in
    let source = bundle_source_at g.B.Bundle.observed (g.B.Bundle.shown c.args.bundle.now).tree c.args.path.now in
    let old = D.shown c.args.dir.now in
    let mid = D.shown c.build.new.dir in
    let new = D.shown c.place.new.dir in
    let image = c.args.image.now in
    if_err (λ e. PlaceCause D.observed c.of.result c.args.digest.now e mid new) (λ e. ImportCause is_import_work_refusal D.observed source (key_of_image image) c.args.digest.now image.listing e old new) c.place.result
    (λ e x. cause_after (follows_work c.build.ensures.worked) (place_import e (subst (λ (k : StoreKey). PlaceCause D.observed k c.args.digest.now e mid new) (same_key c.of.result image c.of.ensures) x))) c.place.ensures.cause

pub returns-clause-leaves : goal.returns-clause-leaves
returns-clause-leaves g c t =
    let D = g.D.Dir in
    let mid = D.shown c.build.new.dir in
    let new = D.shown c.place.new.dir in
    placed_leaves c.args.draw c.args.now c.args.image.now c.place.result t (follows_work c.build.ensures.worked)
    (subst (λ (k : StoreKey). c.place.result ≡ Ok false → D.observed ≡ true → WhereImportFilled c.args.draw mid (λ intent hs entries. IsImagePlaced c.args.draw (image_spot k) intent hs entries mid new)) (same_key c.of.result c.args.image.now c.of.ensures) c.place.ensures.placed)
    c.place.ensures.left (c.in_ok-build.ensures.done t)

pub returns-in_err-build-clause-worked : goal.returns-in_err-build-clause-worked
returns-in_err-build-clause-worked g c = worked_wider (makes_import (building_spot c.args.draw)) c.build.ensures.worked

pub returns-clause-worked : goal.returns-clause-worked
returns-clause-worked g c = worked_more (worked_wider (makes_import (building_spot c.args.draw)) c.build.ensures.worked) c.place.ensures.worked

pub returns-in_err-build-clause-moves : goal.returns-in_err-build-clause-moves
returns-in_err-build-clause-moves g c t =
    let D = g.D.Dir in
    moves_none (building_spot c.args.draw) (key_of_image c.args.image.now) c.from_residual.result (D.shown c.args.dir.now) (D.shown c.build.new.dir) (λ is. search (rules, is, c.from_residual.ensures, c.in_err-build.is))
    (nothing_built (building_spot c.args.draw) c.build.ensures.worked t)

pub returns-clause-moves : goal.returns-clause-moves
returns-clause-moves g c t =
    let D = g.D.Dir in
    let spot = building_spot c.args.draw in
    let key = key_of_image c.args.image.now in
    let old = D.shown c.args.dir.now in
    let mid = D.shown c.build.new.dir in
    let new = D.shown c.place.new.dir in
    moves_after spot key c.place.result old mid new c.build.ensures.worked.same (nothing_built spot c.build.ensures.worked t)
    (subst (λ (k : StoreKey). Moves spot k c.place.result mid new) (same_key c.of.result c.args.image.now c.of.ensures) (c.place.ensures.moves t))
