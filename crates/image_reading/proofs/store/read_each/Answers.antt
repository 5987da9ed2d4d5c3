use Rattle.std.proofs.Common.{rules, ◌≡◌, ◌+◌, ◌∷◌, ◌++◌, [], true, take, drop, refl, ap, sym, ◌∙◌}
use Rattle.std.proofs.lemmas.List.{take_more, drop_more, take-append-drop}
use Rattle.plain_laws.proofs.Results.{if_err, err_same}
use Rattle.image_reading.specs.Places.{key_of_name}
use Rattle.image_reading.specs.Refusals.{IsDamaged}
use Rattle.image_reading.specs.Store.{LacksNamed, LacksFirst}
use Rattle.image_reading.proofs.Asking.{images_none, images_more}
use Rattle.image_reading.proofs.Trees.{trees_none, trees_more}
use Rattle.image_reading.proofs.Stores.{are_start, are_added, lacks_next}
use Rattle.image_reading.proofs.store.read_each.Goals as goal

pub names-init : goal.names-init
names-init g c = record { only = images_none; trees = trees_none; read = λ t. are_start _ _ refl (search rules) }

pub returns-in_err-read_next-clause-damaged : goal.returns-in_err-read_next-clause-damaged
returns-in_err-read_next-clause-damaged g c =
    let D = g.D.Dir in
    let names = c.args.names.now in
    let i = c.names.name-index in
    let name = c.name-item.result in
    let old = D.shown c.args.dir.now in
    let mid = D.shown c.names.dir in
    let new = D.shown c.read_next.new.dir in
    let split : names ≡ take i names ++ name ∷ drop (i + 1) names = sym (take-append-drop i names) ∙ ap (λ l. take i names ++ l) (drop_more names i name c.names-test.true ∙ ap (λ x. x ∷ drop (i + 1) names) (sym c.name-item.is)) in
    err_same (λ e. IsDamaged e → D.observed ≡ true → LacksFirst names e old new) c.read_next.result c.from_residual.result (λ e h. search (rules, h, c.from_residual.ensures, c.in_err-read_next.is))
    (if_err (λ e. IsDamaged e → D.observed ≡ true → LacksNamed (key_of_name name) e mid new) (λ e. IsDamaged e → D.observed ≡ true → LacksFirst names e old new) c.read_next.result
    (λ e lacks d t. lacks_next t c.names.invariant.only names (take i names) (drop (i + 1) names) name c.names.images.items split (c.names.invariant.read t) c.read_next.ensures.only (key_of_name name) refl e (lacks d t))
    c.read_next.ensures.damaged)

pub names-preserved : goal.names-preserved
names-preserved g c =
    let names = c.args.names.now in
    let i = c.names.name-index in
    let name = c.name-item.result in
    let more : take (i + 1) names ≡ take i names ++ name ∷ [] = take_more names i name c.names-test.true ∙ ap (λ l. take i names ++ l ∷ []) (sym c.name-item.is) in
    record {
      only = images_more c.names.invariant.only c.read_next.ensures.only;
      trees = trees_more c.names.invariant.trees c.read_next.ensures.trees;
      read = λ t. are_added t (take i names) c.names.images.items (take (i + 1) names) name more c.names.invariant.only (c.names.invariant.read t) c.read_next.ensures.only (key_of_name name) c.read_next.new.images.items refl (c.in_ok-read_next.ensures.read t);
    }

pub returns-in_err-read_next-clause-trees : goal.returns-in_err-read_next-clause-trees
returns-in_err-read_next-clause-trees g c = trees_more c.names.invariant.trees c.read_next.ensures.trees
