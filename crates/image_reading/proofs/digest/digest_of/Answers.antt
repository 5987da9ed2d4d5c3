use Rattle.std.proofs.Common.{rules, ◌≡◌, true, ap, ◌∙◌, ℕ, List}
use Rattle.plain_laws.proofs.Results.{err_same, err_both}
use Rattle.tree_digest.specs.Digests.{image_digest}
use Rattle.image_reading.specs.Places.{stored_path, manifest_name, id_name, tree_name}
use Rattle.image_reading.specs.Refusals.{IsReadRefusal, IsDamaged}
use Rattle.image_reading.specs.Files.{ReadsNoImageManifest, LacksId, LacksTree}
use Rattle.image_reading.specs.Images.{LacksDigest}
use Rattle.image_reading.proofs.Asking.{image_more}
use Rattle.image_reading.proofs.Widths.{file_after, file_before}
use Rattle.image_reading.proofs.Images.{lacks_first, lacks_second, lacks_third, id_lack_after, tree_lack_after}
use Rattle.image_reading.proofs.digest.digest_of.Goals as goal

pub returns-in_err-kept-clause-damaged : goal.returns-in_err-kept-clause-damaged
returns-in_err-kept-clause-damaged g c =
    let D = g.D.Dir in
    let key = c.args.key in
    let old = D.shown c.args.dir.now in
    let a = D.shown c.read_manifest.new.dir in
    err_same (λ e. D.observed ≡ true → LacksDigest key e old a) c.read_manifest.result c.from_residual.result (λ e h. search (rules, h, c.from_residual.ensures, c.in_err-kept.is))
    (err_both (IsReadRefusal (λ path. path ≡ stored_path key manifest_name)) (λ e. IsDamaged e → D.observed ≡ true → ReadsNoImageManifest key old a) (λ e. D.observed ≡ true → LacksDigest key e old a) c.read_manifest.result
    (λ e at lacks t. lacks_first key tree_name (LacksTree key) e at (λ d. lacks d t)) c.read_manifest.ensures.refusals c.read_manifest.ensures.damaged)

pub returns-in_err-id-clause-only : goal.returns-in_err-id-clause-only
returns-in_err-id-clause-only g c = image_more c.args.key c.read_manifest.ensures.only c.read_id.ensures.only

pub returns-in_err-id-clause-damaged : goal.returns-in_err-id-clause-damaged
returns-in_err-id-clause-damaged g c =
    let D = g.D.Dir in
    let key = c.args.key in
    let old = D.shown c.args.dir.now in
    let a = D.shown c.read_manifest.new.dir in
    let b = D.shown c.read_id.new.dir in
    err_same (λ e. D.observed ≡ true → LacksDigest key e old b) c.read_id.result c.from_residual-in_err-id.result (λ e h. search (rules, h, c.from_residual-in_err-id.ensures, c.in_err-id.is))
    (err_both (IsReadRefusal (λ path. path ≡ stored_path key id_name)) (λ e. IsDamaged e → D.observed ≡ true → LacksId key a b) (λ e. D.observed ≡ true → LacksDigest key e old b) c.read_id.result
    (λ e at lacks t. lacks_second key tree_name (LacksTree key) e (c.in_ok-kept.kept, file_before t (c.in_ok-kept.ensures.read t) c.read_id.ensures.only) at (λ d. id_lack_after t key b c.read_manifest.ensures.only (lacks d t)))
    c.read_id.ensures.refusals c.read_id.ensures.damaged)

pub returns-in_err-listing-clause-only : goal.returns-in_err-listing-clause-only
returns-in_err-listing-clause-only g c = image_more c.args.key (image_more c.args.key c.read_manifest.ensures.only c.read_id.ensures.only) c.read_listing.ensures.only

pub returns-in_err-listing-clause-damaged : goal.returns-in_err-listing-clause-damaged
returns-in_err-listing-clause-damaged g c =
    let D = g.D.Dir in
    let key = c.args.key in
    let old = D.shown c.args.dir.now in
    let b = D.shown c.read_id.new.dir in
    let new = D.shown c.read_listing.new.dir in
    let first = image_more key c.read_manifest.ensures.only c.read_id.ensures.only in
    let later = image_more key c.read_id.ensures.only c.read_listing.ensures.only in
    err_same (λ e. D.observed ≡ true → LacksDigest key e old new) c.read_listing.result c.from_residual-in_err-listing.result (λ e h. search (rules, h, c.from_residual-in_err-listing.ensures, c.in_err-listing.is))
    (err_both (IsReadRefusal (λ path. path ≡ stored_path key tree_name)) (λ e. IsDamaged e → D.observed ≡ true → LacksTree key b new) (λ e. D.observed ≡ true → LacksDigest key e old new) c.read_listing.result
    (λ e at lacks t. lacks_third key tree_name (LacksTree key) e (c.in_ok-kept.kept, file_before t (c.in_ok-kept.ensures.read t) later) (c.in_ok-id.id, file_before t (file_after t c.read_manifest.ensures.only (c.in_ok-id.ensures.read t)) c.read_listing.ensures.only) at (λ d. tree_lack_after t key new first (lacks d t)))
    c.read_listing.ensures.refusals c.read_listing.ensures.damaged)

pub returns-in-Ok-clause-only : goal.returns-in-Ok-clause-only
returns-in-Ok-clause-only g c = image_more c.args.key (image_more c.args.key c.read_manifest.ensures.only c.read_id.ensures.only) c.read_listing.ensures.only

pub returns-clause-only : goal.returns-clause-only
returns-clause-only g c = image_more c.args.key (image_more c.args.key c.read_manifest.ensures.only c.read_id.ensures.only) c.read_listing.ensures.only

pub returns-in-Ok-clause-read : goal.returns-in-Ok-clause-read
returns-in-Ok-clause-read g c t =
    let key = c.args.key in
    record {
      kept = c.in_ok-kept.kept;
      id = c.in_ok-id.id;
      lines = c.in_ok-listing.listing;
      manifest = file_before t (c.in_ok-kept.ensures.read t) (image_more key c.read_id.ensures.only c.read_listing.ensures.only);
      id_file = file_before t (file_after t c.read_manifest.ensures.only (c.in_ok-id.ensures.read t)) c.read_listing.ensures.only;
      tree = file_after t (image_more key c.read_manifest.ensures.only c.read_id.ensures.only) (c.in_ok-listing.ensures.read t);
      is = c.in-Ok.ensures ∙ ap (λ (b : List ℕ). image_digest c.in_ok-id.id b c.in_ok-listing.listing) c.deref.ensures.value;
    }
