use Rattle.std.proofs.Common.{◌≡◌, inl, true, refl}
use Rattle.plain_laws.proofs.Results.{if_ok, if_err}
use Rattle.stage1.specs.AppPlaces.{tree_path, told_path}
use Rattle.stage1.specs.AppFiles.{IsAppRootOf, IsNoListing, ReadsRoot, LacksRootListing}
use Rattle.stage1.specs.LoadRefusals.{IsDamageFor}
use Rattle.stage1.proofs.Trees.{tree_form}
use Rattle.pod_files.proofs.Reading.{taken_so, not_taken}
use Rattle.pod_files.specs.Places.{pod_file}
use Rattle.stage1.proofs.Lacking.{damage_why, damage_for, damage_outside}
use Rattle.stage1.proofs.root.root_at.Goals as goal
use Rattle.tree_digest.specs.ListingSize.{most_of_tree}

pub read_part-requires-clause-path : goal.read_part-requires-clause-path
read_part-requires-clause-path g c = rw c.requires.path (tree_form c.args.app.now c.as_str-name.ensures.kind)

pub returns-in-Ok-Some-clause-read : goal.returns-in-Ok-Some-clause-read
returns-in-Ok-Some-clause-read g c =
    let D = g.D.Dir in
    let e = rw c.requires.path at (rw c.in-Ok-Some.field-0-is at c.in-Ok-Some.ensures) in
    let old = D.shown c.args.dir.now in
    let new = D.shown c.read_part.new.dir in
    if_ok (IsAppRootOf c.in-Ok-Some.bytes.items) (λ root. D.observed ≡ true → ReadsRoot c.args.pod c.args.app.now root old new) c.root_with.result
    (λ root is. taken_so (pod_file c.args.pod (tree_path c.args.app.now)) most_of_tree c.in-Ok-Some.bytes.items c.in-Ok-Some.bytes.items refl e.most e.read (λ bytes. IsAppRootOf bytes root) is) c.root_with.ensures.ok

pub returns-in-Ok-Some-clause-lacks : goal.returns-in-Ok-Some-clause-lacks
returns-in-Ok-Some-clause-lacks g c =
    let D = g.D.Dir in
    let e = rw c.requires.path at (rw c.in-Ok-Some.field-0-is at c.in-Ok-Some.ensures) in
    let old = D.shown c.args.dir.now in
    let new = D.shown c.read_part.new.dir in
    let bytes = c.in-Ok-Some.bytes.items in
    if_err (IsDamageFor (told_path c.args.pod c.args.path.now) (IsNoListing bytes)) (IsDamageFor (told_path c.args.pod c.args.path.now) (D.observed ≡ true → LacksRootListing c.args.pod c.args.app.now old new)) c.root_with.result
    (λ e' is. damage_why (told_path c.args.pod c.args.path.now) (IsNoListing bytes) (D.observed ≡ true → LacksRootListing c.args.pod c.args.app.now old new) e' (λ none. not_taken (pod_file c.args.pod (tree_path c.args.app.now)) most_of_tree bytes bytes refl e.most e.read IsNoListing none) is)
    c.root_with.ensures.fault

pub returns-in-Ok-None-clause-lacks : goal.returns-in-Ok-None-clause-lacks
returns-in-Ok-None-clause-lacks g c =
    let D = g.D.Dir in
    let e = rw c.requires.path at (rw c.in-Ok-None.field-0-is at c.in-Ok-None.ensures) in
    damage_for (told_path c.args.pod c.args.path.now) (D.observed ≡ true → LacksRootListing c.args.pod c.args.app.now (D.shown c.args.dir.now) (D.shown c.read_part.new.dir)) c.damaged.result (λ t. inl (e.read t)) c.damaged.ensures.damage

pub returns-in-Err-clause-lacks : goal.returns-in-Err-clause-lacks
returns-in-Err-clause-lacks g c =
    let D = g.D.Dir in
    damage_outside (told_path c.args.pod c.args.path.now) (D.observed ≡ true → LacksRootListing c.args.pod c.args.app.now (D.shown c.args.dir.now) (D.shown c.read_part.new.dir)) c.in-Err.error c.in-Err.ensures.refusals
