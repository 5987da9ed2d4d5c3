use Rattle.std.proofs.Common.{◌≡◌, true, Some, Ok, ℕ, ap, subst}
use Rattle.plain_laws.proofs.Results.{if_err}
use Rattle.dir_trait.specs.Knowledge.{Knows}
use Rattle.folder_building.proofs.Working.{worked_more}
use Rattle.folder_building.proofs.Following.{follows_work}
use Rattle.image_store.specs.Requests.{building_spot}
use Rattle.image_store.specs.Work.{seen_importing, holding, WhereImportFilled}
use Rattle.image_store.specs.Causes.{CompareCause, PlaceCause}
use Rattle.image_store.proofs.Refusals.{compare_placing}
use Rattle.image_store.proofs.Placings.{worked_reads, may_read_there, unbrought_any}
use Rattle.image_store.specs.Moves.{MovedNoImage}
use Rattle.image_store.proofs.Moving.{moves_none, nothing_more, nothing_read, not_brought}
use Rattle.image_store.proofs.placing.place.Goals as goal

pub returns-in-Ok-true-clause-worked : goal.returns-in-Ok-true-clause-worked
returns-in-Ok-true-clause-worked g c = worked_more c.bring.ensures.worked (worked_reads (building_spot c.args.draw) c.args.key c.compare.ensures.only)

pub returns-in-Ok-true-clause-cause : goal.returns-in-Ok-true-clause-cause
returns-in-Ok-true-clause-cause g c =
    let D = g.D.Dir in
    let old = D.shown c.args.dir.now in
    let mid = D.shown c.bring.new.dir in
    let new = D.shown c.compare.new.dir in
    if_err (λ e. CompareCause D.observed c.args.key c.args.digest.now e mid new) (λ e. PlaceCause D.observed c.args.key c.args.digest.now e old new) c.compare.result
    (λ e x. compare_placing (follows_work c.bring.ensures.worked) (c.in-Ok-true.ensures.taken (ap Ok c.in-Ok-true.field-0-test)) c.compare.ensures.only.extends x) c.compare.ensures.cause

pub returns-in-Ok-true-clause-left : goal.returns-in-Ok-true-clause-left
returns-in-Ok-true-clause-left g c =
    let D = g.D.Dir in
    let left = rw c.in-Ok-true.field-0-test at c.in-Ok-true.ensures.left in
    unbrought_any c.compare.result (D.observed ≡ true → WhereImportFilled c.args.draw (D.shown c.args.dir.now) (λ intent hs entries. Knows (D.shown c.compare.new.dir) (seen_importing intent hs true (Some (holding (building_spot c.args.draw) entries)))))
    (λ t intent hs entries imports under k. c.compare.ensures.only.known t (seen_importing intent hs true (Some (holding (building_spot c.args.draw) entries))) (may_read_there intent hs true (Some (holding (building_spot c.args.draw) entries)) under.images) (left t intent hs entries imports under k))

pub returns-in-Ok-true-clause-moves : goal.returns-in-Ok-true-clause-moves
returns-in-Ok-true-clause-moves g c t =
    let D = g.D.Dir in
    let key = c.args.key in
    moves_none (building_spot c.args.draw) key c.compare.result (D.shown c.args.dir.now) (D.shown c.compare.new.dir) (λ is. not_brought c.compare.result is c.compare.ensures.there)
    (nothing_more (rw c.in-Ok-true.field-0-test at c.in-Ok-true.ensures.moves t) (subst (λ (me : ℕ). MovedNoImage me (D.shown c.bring.new.dir).trace (D.shown c.compare.new.dir).trace) c.bring.ensures.worked.same (nothing_read key c.compare.ensures.only t)))
