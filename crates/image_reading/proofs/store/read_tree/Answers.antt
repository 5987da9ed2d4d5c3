use Rattle.std.proofs.Common.{◌≡◌, true}
use Rattle.plain_laws.proofs.Results.{if_ok, if_err}
use Rattle.image_reading.specs.Places.{stored_path, tree_name}
use Rattle.image_reading.specs.Refusals.{IsReadRefusal, IsTreeRefusal, IsDamaged}
use Rattle.image_reading.specs.Files.{LacksTree, LacksStoredTree, ReadsTree}
use Rattle.image_reading.proofs.Asking.{image_more}
use Rattle.image_reading.proofs.Holding.{knows_image}
use Rattle.image_reading.proofs.Results.{read_tree_refusal, no_tree_missing}
use Rattle.image_reading.proofs.Widths.{held_before, file_after}
use Rattle.image_reading.proofs.Images.{tree_lack_after}
use Rattle.image_reading.proofs.store.read_tree.Goals as goal

pub returns-in-Ok-true-clause-only : goal.returns-in-Ok-true-clause-only
returns-in-Ok-true-clause-only g c = image_more c.args.key c.is_there.ensures.only c.read_listing.ensures.only

pub returns-in-Ok-true-clause-known : goal.returns-in-Ok-true-clause-known
returns-in-Ok-true-clause-known g c t = knows_image c.args.key c.args.gate c.requires.held (image_more c.args.key c.is_there.ensures.only c.read_listing.ensures.only) t

pub returns-in-Ok-false-clause-known : goal.returns-in-Ok-false-clause-known
returns-in-Ok-false-clause-known g c t = knows_image c.args.key c.args.gate c.requires.held c.is_there.ensures.only t

pub returns-in-Err-clause-known : goal.returns-in-Err-clause-known
returns-in-Err-clause-known g c t = knows_image c.args.key c.args.gate c.requires.held c.is_there.ensures.only t

pub returns-in-Ok-true-clause-refusals : goal.returns-in-Ok-true-clause-refusals
returns-in-Ok-true-clause-refusals g c =
    if_err (IsReadRefusal (λ path. path ≡ stored_path c.args.key tree_name)) (IsTreeRefusal c.args.key) c.read_listing.result (λ e is. read_tree_refusal c.args.key e is) c.read_listing.ensures.refusals

pub returns-in-Ok-true-clause-read : goal.returns-in-Ok-true-clause-read
returns-in-Ok-true-clause-read g c =
    let D = g.D.Dir in
    if_ok (λ lines. D.observed ≡ true → ReadsTree c.args.key lines (D.shown c.is_there.new.dir) (D.shown c.read_listing.new.dir)) (λ lines. D.observed ≡ true → ReadsTree c.args.key lines (D.shown c.args.dir.now) (D.shown c.read_listing.new.dir)) c.read_listing.result
    (λ lines read t. file_after t c.is_there.ensures.only (read t)) c.read_listing.ensures.read

pub returns-in-Ok-true-clause-damaged : goal.returns-in-Ok-true-clause-damaged
returns-in-Ok-true-clause-damaged g c =
    let D = g.D.Dir in
    let key = c.args.key in
    let old = D.shown c.args.dir.now in
    let new = D.shown c.read_listing.new.dir in
    let there = rw c.in-Ok-true.field-0-test at c.in-Ok-true.ensures in
    if_err (λ e. IsDamaged e → D.observed ≡ true → LacksTree key (D.shown c.is_there.new.dir) new) (λ e. IsDamaged e → D.observed ≡ true → LacksStoredTree key old new) c.read_listing.result
    (λ e lacks d t. (held_before t old c.is_there.ensures.only.same (there.there t) c.read_listing.ensures.only, tree_lack_after t key new c.is_there.ensures.only (lacks d t)))
    c.read_listing.ensures.damaged

pub returns-in-Ok-true-clause-absent : goal.returns-in-Ok-true-clause-absent
returns-in-Ok-true-clause-absent g c other is t = absurd (no_tree_missing c.args.key other c.read_listing.result is c.read_listing.ensures.refusals)

pub returns-in-Ok-false-clause-absent : goal.returns-in-Ok-false-clause-absent
returns-in-Ok-false-clause-absent g c other is t =
    let there = rw c.in-Ok-false.field-0-test at c.in-Ok-false.ensures in
    there.there t
