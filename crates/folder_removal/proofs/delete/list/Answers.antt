use Rattle.std.proofs.Common.{◌≡◌, true, Ok, List, refl, sym, subst}
use Rattle.plain_laws.proofs.Results.{if_ok}
use Rattle.dir_model.specs.declared.item.Inner.{Inner}
use Rattle.dir_model.specs.declared.request.Reply.TheVariants.{Items, Refused}
use Rattle.dir_model.proofs.Spots.{spot_self}
use Rattle.dir_trait.proofs.ListCalls.{list_extends}
use Rattle.folder_removal.specs.declared.error.DeleteError.TheVariants.{Stray}
use Rattle.folder_removal.specs.Tasks.{AreChildren}
use Rattle.folder_removal.specs.declared.task.Task.{Task}
use Rattle.folder_removal.specs.Removal.{inner_at, AreShown}
use Rattle.folder_removal.specs.Known.{IsListedAsTasks}
use Rattle.folder_removal.proofs.Nested.{distinct}
use Rattle.folder_removal.proofs.Calls.{knows_list}
use Rattle.folder_removal.proofs.Steps.{asks_listing}
use Rattle.folder_removal.proofs.Strays.{stray_list, stray_listing, listing_shown}
use Rattle.folder_removal.proofs.Knowing.{lists_only}
use Rattle.folder_removal.proofs.delete.list.Goals as goal
use Rattle.folder_removal.proofs.Knew.{listed_stray}

pub returns-in-Ok-clause-extends : goal.returns-in-Ok-clause-extends
returns-in-Ok-clause-extends g c t = list_extends (asks_listing c.args.spot.now c.args.path.now) (c.list_in.ensures.called.step t)

pub returns-in-Err-clause-extends : goal.returns-in-Err-clause-extends
returns-in-Err-clause-extends g c t = list_extends (asks_listing c.args.spot.now c.args.path.now) (c.list_in.ensures.called.step t)

pub returns-in-Ok-clause-known : goal.returns-in-Ok-clause-known
returns-in-Ok-clause-known g c t = lists_only c.args.spot.now c.args.path.now c.list_in.result c.requires.area t c.list_in.ensures.called

pub returns-in-Err-clause-known : goal.returns-in-Err-clause-known
returns-in-Err-clause-known g c t = lists_only c.args.spot.now c.args.path.now c.list_in.result c.requires.area t c.list_in.ensures.called

pub returns-in-Ok-clause-stray : goal.returns-in-Ok-clause-stray
returns-in-Ok-clause-stray g c h t = stray_list (inner_at c.args.spot.now c.args.path.now) (Items c.in-Ok.items) (rw c.as_slice.ensures at (c.children.ensures.stray h)) (c.in-Ok.ensures.called.step t)

pub returns-in-Ok-clause-listed : goal.returns-in-Ok-clause-listed
returns-in-Ok-clause-listed g c =
    let D = g.D.Dir in
    let spot = c.args.spot.now in
    let path = c.args.path.now in
    let items = c.in-Ok.items in
    let at : Inner = record { spot = spot; path = path } in
    if_ok (λ tasks. AreChildren path c.as_slice.result.now tasks.items) (λ tasks. D.observed ≡ true → IsListedAsTasks spot path tasks.items (D.shown c.args.dir.now) (D.shown c.list_in.new.self)) c.children.result
    (λ tasks are t.
    let those = rw c.as_slice.ensures at are in
    record { items = items; are = those.are; plain = those.plain; once = distinct items c.in-Ok.ensures.ordered; knows = λ s k. knows_list at (Ok items) t k c.in-Ok.ensures.called })
    c.children.ensures.are

pub returns-in-Ok-clause-shown : goal.returns-in-Ok-clause-shown
returns-in-Ok-clause-shown g c =
    let D = g.D.Dir in
    let spot = c.args.spot.now in
    let path = c.args.path.now in
    let old = D.shown c.args.dir.now in
    let new = D.shown c.list_in.new.self in
    if_ok (λ tasks. AreChildren path c.as_slice.result.now tasks.items) (λ tasks. D.observed ≡ true → AreShown spot tasks.items old.process old.trace new.trace) c.children.result
    (λ tasks are t. subst (λ (l : List Task). AreShown spot l old.process old.trace new.trace) (sym (rw c.as_slice.ensures at are).are) (listing_shown spot path c.in-Ok.items (c.in-Ok.ensures.called.step t)))
    c.children.ensures.are

pub returns-in-Err-clause-stray : goal.returns-in-Err-clause-stray
returns-in-Err-clause-stray g c h t =
    let at : Inner = inner_at c.args.spot.now c.args.path.now in
    let is : c.delete_error.result ≡ Stray = cc in
    stray_list at (Refused c.in-Err.error 0) (stray_listing at c.in-Err.error c.in-Err.ensures.refusals (c.delete_error.ensures.stray is)) (c.in-Err.ensures.called.step t)

pub returns-in-Ok-clause-spares : goal.returns-in-Ok-clause-spares
returns-in-Ok-clause-spares g c t = list_extends refl (c.list_in.ensures.called.step t)

pub returns-in-Err-clause-spares : goal.returns-in-Err-clause-spares
returns-in-Err-clause-spares g c t = list_extends refl (c.list_in.ensures.called.step t)

pub returns-in-Ok-clause-lists : goal.returns-in-Ok-clause-lists
returns-in-Ok-clause-lists g c t = list_extends (spot_self c.args.spot.now) (c.list_in.ensures.called.step t)

pub returns-in-Err-clause-lists : goal.returns-in-Err-clause-lists
returns-in-Err-clause-lists g c t = list_extends (spot_self c.args.spot.now) (c.list_in.ensures.called.step t)

pub returns-in-Ok-clause-asked : goal.returns-in-Ok-clause-asked
returns-in-Ok-clause-asked g c h t = listed_stray (inner_at c.args.spot.now c.args.path.now) (Items c.in-Ok.items) (rw c.as_slice.ensures at (c.children.ensures.stray h)) (c.in-Ok.ensures.called.step t)

pub returns-in-Err-clause-asked : goal.returns-in-Err-clause-asked
returns-in-Err-clause-asked g c h t =
    let at : Inner = inner_at c.args.spot.now c.args.path.now in
    let is : c.delete_error.result ≡ Stray = cc in
    listed_stray at (Refused c.in-Err.error 0) (stray_listing at c.in-Err.error c.in-Err.ensures.refusals (c.delete_error.ensures.stray is)) (c.in-Err.ensures.called.step t)
