use Rattle.std.proofs.Common.{inr, List, subst}
use Rattle.plain_laws.proofs.Results.{if_ok, if_err}
use Rattle.dep_match.specs.declared.stored.Stored.{Stored}
use Rattle.image_reading.proofs.Asking.{images_more}
use Rattle.image_reading.proofs.Trees.{trees_more}
use Rattle.image_reading.proofs.Holding.{knows_images}
use Rattle.pod_plan.specs.PlanRefusals.{IsStoreLack, LacksAmong, ReadsLackingPart}
use Rattle.pod_plan.specs.Readings.{AreReadAgain, ReadsImages}
use Rattle.pod_plan.proofs.Results.{lack_wider}
use Rattle.pod_plan.proofs.Lacks.{listing_lack, among_after}
use Rattle.pod_plan.proofs.Again.{images_read, listed_before}
use Rattle.pod_plan.proofs.images.read_images.Goals as goal

pub returns-in-Ok-clause-only : goal.returns-in-Ok-clause-only
returns-in-Ok-clause-only g c = images_more c.stored.ensures.only c.read_each.ensures.only

pub returns-in-Ok-clause-known : goal.returns-in-Ok-clause-known
returns-in-Ok-clause-known g c t = knows_images c.args.gate c.requires.held (images_more c.stored.ensures.only c.read_each.ensures.only) t

pub returns-in-Ok-clause-read : goal.returns-in-Ok-clause-read
returns-in-Ok-clause-read g c =
    let D = g.D.Dir in
    let old = D.shown c.args.dir.now in
    let mid = D.shown c.stored.new.dir in
    let new = D.shown c.read_each.new.dir in
    if_ok (λ read. AreReadAgain D.observed c.as_slice.result.now read mid new) (λ read. ReadsImages D.observed read old new) c.read_each.result
    (λ read again. images_read c.stored.ensures.only c.read_each.ensures.only c.in-Ok.listed.items c.in-Ok.ensures.listed read (subst (λ (xs : List Stored). AreReadAgain D.observed xs read mid new) c.as_slice.ensures.value again))
    c.read_each.ensures.read

pub returns-in-Ok-clause-lacks : goal.returns-in-Ok-clause-lacks
returns-in-Ok-clause-lacks g c =
    let D = g.D.Dir in
    let old = D.shown c.args.dir.now in
    let mid = D.shown c.stored.new.dir in
    let new = D.shown c.read_each.new.dir in
    let listed = c.in-Ok.listed.items in
    if_err (IsStoreLack D.observed (λ path. LacksAmong c.as_slice.result.now path mid new)) (IsStoreLack D.observed (λ path. ReadsLackingPart path old new)) c.read_each.result
    (λ e is. lack_wider D.observed (λ path. LacksAmong c.as_slice.result.now path mid new) (λ path. ReadsLackingPart path old new) e
    (λ t path lacks. inr (listed, listed_before t listed (c.in-Ok.ensures.listed t) c.read_each.ensures.only, among_after t new listed path c.stored.ensures.only (subst (λ (xs : List Stored). LacksAmong xs path mid new) c.as_slice.ensures.value lacks))) is)
    c.read_each.ensures.lacks

pub returns-in-Err-clause-lacks : goal.returns-in-Err-clause-lacks
returns-in-Err-clause-lacks g c = listing_lack (g.D.Dir.shown c.args.dir.now) (g.D.Dir.shown c.stored.new.dir) c.in-Err.error c.in-Err.ensures.refusals c.in-Err.ensures.damaged

pub returns-in-Ok-clause-trees : goal.returns-in-Ok-clause-trees
returns-in-Ok-clause-trees g c = trees_more c.stored.ensures.trees c.read_each.ensures.trees
