use Rattle.std.proofs.Common.{rules, ◌≡◌, true}
use Rattle.plain_laws.proofs.Results.{err_same, err_both}
use Rattle.image_reading.specs.Places.{stored_path, manifest_name, id_name, mark_name}
use Rattle.image_reading.specs.Refusals.{IsReadRefusal, IsDamaged}
use Rattle.image_reading.specs.Files.{ReadsNoImageManifest, LacksId, LacksMoment}
use Rattle.image_reading.specs.Images.{LacksImage}
use Rattle.image_reading.proofs.Asking.{image_more}
use Rattle.image_reading.proofs.Trees.{trees_more}
use Rattle.image_reading.proofs.Widths.{file_after, file_before, marks_after}
use Rattle.image_reading.proofs.Images.{manifest_kept, lacks_first, lacks_second, lacks_third, id_lack_after, moment_lack_after}
use Rattle.image_reading.proofs.image.read_image.Goals as goal

pub returns-in_err-kept-clause-damaged : goal.returns-in_err-kept-clause-damaged
returns-in_err-kept-clause-damaged g c =
    let D = g.D.Dir in
    let key = c.args.key in
    let old = D.shown c.args.dir.now in
    let a = D.shown c.read_manifest.new.dir in
    err_same (λ e. D.observed ≡ true → LacksImage key e old a) c.read_manifest.result c.from_residual.result (λ e h. search (rules, h, c.from_residual.ensures, c.in_err-kept.is))
    (err_both (IsReadRefusal (λ path. path ≡ stored_path key manifest_name)) (λ e. IsDamaged e → D.observed ≡ true → ReadsNoImageManifest key old a) (λ e. D.observed ≡ true → LacksImage key e old a) c.read_manifest.result
    (λ e at lacks t. lacks_first key mark_name (LacksMoment key) e at (λ d. lacks d t)) c.read_manifest.ensures.refusals c.read_manifest.ensures.damaged)

pub returns-in_err-id-clause-only : goal.returns-in_err-id-clause-only
returns-in_err-id-clause-only g c = image_more c.args.key c.read_manifest.ensures.only c.read_id.ensures.only

pub returns-in_err-id-clause-damaged : goal.returns-in_err-id-clause-damaged
returns-in_err-id-clause-damaged g c =
    let D = g.D.Dir in
    let key = c.args.key in
    let old = D.shown c.args.dir.now in
    let a = D.shown c.read_manifest.new.dir in
    let b = D.shown c.read_id.new.dir in
    err_same (λ e. D.observed ≡ true → LacksImage key e old b) c.read_id.result c.from_residual-in_err-id.result (λ e h. search (rules, h, c.from_residual-in_err-id.ensures, c.in_err-id.is))
    (err_both (IsReadRefusal (λ path. path ≡ stored_path key id_name)) (λ e. IsDamaged e → D.observed ≡ true → LacksId key a b) (λ e. D.observed ≡ true → LacksImage key e old b) c.read_id.result
    (λ e at lacks t. lacks_second key mark_name (LacksMoment key) e (c.in_ok-kept.kept, file_before t (c.in_ok-kept.ensures.read t) c.read_id.ensures.only) at (λ d. id_lack_after t key b c.read_manifest.ensures.only (lacks d t)))
    c.read_id.ensures.refusals c.read_id.ensures.damaged)

pub returns-in_err-moment-clause-only : goal.returns-in_err-moment-clause-only
returns-in_err-moment-clause-only g c = image_more c.args.key (image_more c.args.key c.read_manifest.ensures.only c.read_id.ensures.only) c.read_moment.ensures.only

pub returns-in_err-moment-clause-damaged : goal.returns-in_err-moment-clause-damaged
returns-in_err-moment-clause-damaged g c =
    let D = g.D.Dir in
    let key = c.args.key in
    let old = D.shown c.args.dir.now in
    let b = D.shown c.read_id.new.dir in
    let new = D.shown c.read_moment.new.dir in
    let first = image_more key c.read_manifest.ensures.only c.read_id.ensures.only in
    let later = image_more key c.read_id.ensures.only c.read_moment.ensures.only in
    err_same (λ e. D.observed ≡ true → LacksImage key e old new) c.read_moment.result c.from_residual-in_err-moment.result (λ e h. search (rules, h, c.from_residual-in_err-moment.ensures, c.in_err-moment.is))
    (err_both (IsReadRefusal (λ path. path ≡ stored_path key mark_name)) (λ e. IsDamaged e → D.observed ≡ true → LacksMoment key b new) (λ e. D.observed ≡ true → LacksImage key e old new) c.read_moment.result
    (λ e at lacks t. lacks_third key mark_name (LacksMoment key) e (c.in_ok-kept.kept, file_before t (c.in_ok-kept.ensures.read t) later) (c.in_ok-id.id, file_before t (file_after t c.read_manifest.ensures.only (c.in_ok-id.ensures.read t)) c.read_moment.ensures.only) at (λ d. moment_lack_after t key new first (lacks d t)))
    c.read_moment.ensures.refusals c.read_moment.ensures.damaged)

pub returns-clause-only : goal.returns-clause-only
returns-clause-only g c = image_more c.args.key (image_more c.args.key c.read_manifest.ensures.only c.read_id.ensures.only) c.read_moment.ensures.only

pub returns-clause-read : goal.returns-clause-read
returns-clause-read g c t =
    let key = c.args.key in
    record {
      manifest = file_before t (manifest_kept key c.in_ok-kept.kept (c.in_ok-kept.ensures.read t)) (image_more key c.read_id.ensures.only c.read_moment.ensures.only);
      id = file_before t (file_after t c.read_manifest.ensures.only (c.in_ok-id.ensures.read t)) c.read_moment.ensures.only;
      moment = marks_after t (image_more key c.read_manifest.ensures.only c.read_id.ensures.only) (c.in_ok-moment.ensures.read t);
    }

pub returns-in_err-id-clause-trees : goal.returns-in_err-id-clause-trees
returns-in_err-id-clause-trees g c = trees_more c.read_manifest.ensures.trees c.read_id.ensures.trees

pub returns-in_err-moment-clause-trees : goal.returns-in_err-moment-clause-trees
returns-in_err-moment-clause-trees g c = trees_more (trees_more c.read_manifest.ensures.trees c.read_id.ensures.trees) c.read_moment.ensures.trees

pub returns-clause-trees : goal.returns-clause-trees
returns-clause-trees g c = trees_more (trees_more c.read_manifest.ensures.trees c.read_id.ensures.trees) c.read_moment.ensures.trees
