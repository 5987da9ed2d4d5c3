use Rattle.std.proofs.Common.{◌≡◌, true, ℕ, List, subst}
use Rattle.plain_laws.proofs.Results.{if_ok, if_err}
use Rattle.dir_model.specs.declared.area.Area.TheVariants.{Images}
use Rattle.dir_model.specs.Replies.{names_reply}
use Rattle.image_reading.specs.Refusals.{IsDamaged}
use Rattle.image_reading.specs.Store.{AreRead, ReadsStore, LacksFirst, LacksStore}
use Rattle.image_reading.proofs.Results.{not_outside}
use Rattle.image_reading.proofs.Asking.{images_more, images_names}
use Rattle.image_reading.proofs.Trees.{trees_more, no_tree_names}
use Rattle.image_reading.proofs.Holding.{knows_images}
use Rattle.image_reading.proofs.Widths.{within_self, told_before}
use Rattle.image_reading.proofs.Stores.{are_after, first_after}
use Rattle.image_reading.proofs.store.stored.Goals as goal

pub returns-in-Ok-clause-only : goal.returns-in-Ok-clause-only
returns-in-Ok-clause-only g c = images_more (images_names c.names_of.result c.names_of.ensures.called) c.read_each.ensures.only

pub returns-in-Err-clause-only : goal.returns-in-Err-clause-only
returns-in-Err-clause-only g c = images_names c.names_of.result c.names_of.ensures.called

pub returns-in-Ok-clause-listed : goal.returns-in-Ok-clause-listed
returns-in-Ok-clause-listed g c =
    let D = g.D.Dir in
    let old = D.shown c.args.dir.now in
    let mid = D.shown c.names_of.new.dir in
    let new = D.shown c.read_each.new.dir in
    let first = images_names c.names_of.result c.names_of.ensures.called in
    if_ok (λ images. D.observed ≡ true → AreRead c.as_slice.result.now images.items mid new) (λ images. D.observed ≡ true → ReadsStore images.items old new) c.read_each.result
    (λ images read t. record {
      names = c.in-Ok.names;
      ordered = c.in-Ok.ensures.ordered;
      shown = told_before t (within_self (c.in-Ok.ensures.shows t)) c.read_each.ensures.only;
      read = are_after t c.in-Ok.names images.items first (subst (λ (ns : List (List ℕ)). AreRead ns images.items mid new) c.as_slice.ensures (read t));
    })
    c.read_each.ensures.read

pub returns-in-Ok-clause-damaged : goal.returns-in-Ok-clause-damaged
returns-in-Ok-clause-damaged g c =
    let D = g.D.Dir in
    let old = D.shown c.args.dir.now in
    let mid = D.shown c.names_of.new.dir in
    let new = D.shown c.read_each.new.dir in
    if_err (λ e. IsDamaged e → D.observed ≡ true → LacksFirst c.as_slice.result.now e mid new) (λ e. D.observed ≡ true → LacksStore e old new) c.read_each.result
    (λ e lacks t damaged. record {
      names = c.in-Ok.names;
      ordered = c.in-Ok.ensures.ordered;
      shown = told_before t (within_self (c.in-Ok.ensures.shows t)) c.read_each.ensures.only;
      first = first_after t (images_names c.names_of.result c.names_of.ensures.called) c.in-Ok.names e (subst (λ (ns : List (List ℕ)). LacksFirst ns e mid new) c.as_slice.ensures (lacks damaged t));
    })
    c.read_each.ensures.damaged

pub returns-in-Err-clause-damaged : goal.returns-in-Err-clause-damaged
returns-in-Err-clause-damaged g c t damaged = absurd (not_outside c.fault_error.result c.fault_error.ensures.outside damaged)

pub returns-in-Ok-clause-known : goal.returns-in-Ok-clause-known
returns-in-Ok-clause-known g c t = knows_images c.args.gate c.requires.held (images_more (images_names c.names_of.result c.names_of.ensures.called) c.read_each.ensures.only) t

pub returns-in-Err-clause-known : goal.returns-in-Err-clause-known
returns-in-Err-clause-known g c t = knows_images c.args.gate c.requires.held (images_names c.names_of.result c.names_of.ensures.called) t

pub returns-in-Ok-clause-trees : goal.returns-in-Ok-clause-trees
returns-in-Ok-clause-trees g c = trees_more (no_tree_names Images (names_reply c.names_of.result) c.names_of.ensures.called) c.read_each.ensures.trees

pub returns-in-Err-clause-trees : goal.returns-in-Err-clause-trees
returns-in-Err-clause-trees g c = no_tree_names Images (names_reply c.names_of.result) c.names_of.ensures.called
