use Rattle.std.proofs.Common.{◌≡◌, length}
use Rattle.plain_laws.proofs.Results.{ok_three, if_err}
use Rattle.tree_digest.specs.Listings.{IsListing, lines_of}
use Rattle.pod_plan.specs.Roots.{IsRootAsRead}
use Rattle.pod_plan.specs.RootRefusals.{IsListingRefusal, IsRootRefusal}
use Rattle.pod_plan.proofs.Rooted.{rendered_listable, root_made, listing_refused, rendering_refused}
use Rattle.pod_plan.proofs.app_root.read_root.Goals as goal

pub listed-requires : goal.listed-requires
listed-requires g c =
    let D = g.D.Dir in
    record { listable = rendered_listable (length c.args.images.now) c.args.images.now c.args.tree.now.nodes c.in-Ok.rendering (D.shown c.args.dir.now) (D.shown c.read_rendering.new.dir) c.requires.tree c.in-Ok.ensures.rendered }

pub returns-in-Ok-clause-root : goal.returns-in-Ok-clause-root
returns-in-Ok-clause-root g c =
    let D = g.D.Dir in
    let old = D.shown c.args.dir.now in
    let new = D.shown c.read_rendering.new.dir in
    ok_three (λ root. root.rendering ≡ c.in-Ok.rendering) (λ root. root.listing ≡ lines_of c.in-Ok.rendering.map) (λ root. IsListing root.listing) (IsRootAsRead D.observed c.args.images.now old new c.args.tree.now) c.listed.result
    (λ root same listing kind. root_made D.observed c.args.images.now old new c.args.tree.now c.in-Ok.rendering root c.in-Ok.ensures.rendered same listing kind)
    c.listed.ensures.rendering c.listed.ensures.listing c.listed.ensures.kind

pub returns-in-Ok-clause-refused : goal.returns-in-Ok-clause-refused
returns-in-Ok-clause-refused g c =
    let D = g.D.Dir in
    let old = D.shown c.args.dir.now in
    let new = D.shown c.read_rendering.new.dir in
    let images = c.args.images.now in
    let nodes = c.args.tree.now.nodes in
    if_err (IsListingRefusal c.in-Ok.rendering.map) (λ e. IsRootRefusal D.observed images nodes e old new) c.listed.result
    (λ e h. listing_refused D.observed images nodes old new c.in-Ok.rendering c.in-Ok.ensures.rendered e h) c.listed.ensures.refused

pub returns-in-Err-clause-refused : goal.returns-in-Err-clause-refused
returns-in-Err-clause-refused g c =
    let D = g.D.Dir in
    rendering_refused D.observed c.args.images.now c.args.tree.now.nodes (D.shown c.args.dir.now) (D.shown c.read_rendering.new.dir) c.in-Err.error c.in-Err.ensures.refused
