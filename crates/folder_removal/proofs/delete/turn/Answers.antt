use Rattle.std.proofs.Common.{◌≡◌, ◌<◌, ◌++◌, ◌∷◌, [], List, true, inl, inr, sym, subst, rules, IsErrOf}
use Rattle.plain_laws.proofs.Results.{if_ok, ok_all}
use Rattle.dir_model.specs.declared.request.Reply.TheVariants.{Done}
use Rattle.folder_removal.specs.declared.task.Task.{Task}
use Rattle.folder_removal.specs.declared.error.DeleteError.TheVariants.{Stray}
use Rattle.folder_removal.specs.Tasks.{with_listed}
use Rattle.folder_removal.specs.Weights.{weigh}
use Rattle.folder_removal.specs.Removal.{removal_of, HandsOn}
use Rattle.folder_removal.specs.Known.{Learns, WorksOff}
use Rattle.folder_removal.proofs.Strays.{turn_listed, turn_removed}
use Rattle.folder_removal.proofs.Weights.{listed_less, removed_less}
use Rattle.folder_removal.proofs.Knowing.{lists_off, removes_off, tries_removal}
use Rattle.folder_removal.proofs.delete.turn.Goals as goal
use Rattle.folder_removal.proofs.Knew.{turn_lists, turn_removes}

pub returns-in_ok-children-clause-known : goal.returns-in_ok-children-clause-known
returns-in_ok-children-clause-known g c t s k w = c.list.ensures.known t s k

pub returns-in_err-children-clause-known : goal.returns-in_err-children-clause-known
returns-in_err-children-clause-known g c t s k w = c.list.ensures.known t s k

pub returns-else-is_unlisted-clause-known : goal.returns-else-is_unlisted-clause-known
returns-else-is_unlisted-clause-known g c t = tries_removal c.args.spot.now c.args.tasks.now.items c.args.task (sym c.if-is_unlisted.ensures) (c.remove.ensures.known t)

pub returns-in_err-children-clause-stray : goal.returns-in_err-children-clause-stray
returns-in_err-children-clause-stray g c h t =
    let k : IsErrOf c.list.result Stray = search (rules, h, c.from_residual.ensures, c.in_err-children.is) in
    inl (sym c.if-is_unlisted.ensures, rw c.as_str.ensures.text at (c.list.ensures.stray k t))

pub returns-else-is_unlisted-clause-stray : goal.returns-else-is_unlisted-clause-stray
returns-else-is_unlisted-clause-stray g c h t = inr (c.remove.ensures.stray h t)

pub returns-in_ok-children-clause-at_hand : goal.returns-in_ok-children-clause-at_hand
returns-in_ok-children-clause-at_hand g c =
    let D = g.D.Dir in
    let spot = c.args.spot.now in
    let xs = c.args.tasks.now.items in
    let t = c.args.task in
    let children = c.in_ok-children.children.items in
    let old = D.shown c.args.dir.now in
    let new = D.shown c.list.new.dir in
    if_ok (λ done. c.add.new.tasks.items ≡ (xs ++ with_listed t ∷ []) ++ children) (λ done. D.observed ≡ true → HandsOn spot (xs ++ t ∷ []) c.add.new.tasks.items old new) c.add.result
    (λ done is o. subst (λ (l : List Task). HandsOn spot (xs ++ t ∷ []) l old new) (sym is) (turn_listed spot xs t old new children (c.list.ensures.lists o) (rw c.as_str.ensures.text at (c.in_ok-children.ensures.listed o)) (c.in_ok-children.ensures.shown o)))
    c.add.ensures.items

pub returns-else-is_unlisted-clause-at_hand : goal.returns-else-is_unlisted-clause-at_hand
returns-else-is_unlisted-clause-at_hand g c =
    let D = g.D.Dir in
    let spot = c.args.spot.now in
    let xs = c.args.tasks.now.items in
    let old = D.shown c.args.dir.now in
    let new = D.shown c.remove.new.dir in
    ok_all (λ done. D.observed ≡ true → HandsOn spot (xs ++ c.args.task ∷ []) xs old new) c.remove.result (λ done o. turn_removed spot xs c.args.task old new (c.remove.ensures.asked o))

pub returns-in_ok-children-clause-work : goal.returns-in_ok-children-clause-work
returns-in_ok-children-clause-work g c =
    let D = g.D.Dir in
    let spot = c.args.spot.now in
    let xs = c.args.tasks.now.items in
    let t = c.args.task in
    let children = c.in_ok-children.children.items in
    let old = D.shown c.args.dir.now in
    let new = D.shown c.list.new.dir in
    if_ok (λ done. c.add.new.tasks.items ≡ (xs ++ with_listed t ∷ []) ++ children) (λ done. D.observed ≡ true → WorksOff spot (xs ++ t ∷ []) c.add.new.tasks.items old new) c.add.result
    (λ done is o. subst (λ (l : List Task). WorksOff spot (xs ++ t ∷ []) l old new) (sym is) (lists_off spot xs t children c.requires.area (rw c.as_str.ensures.text at (c.in_ok-children.ensures.listed o))))
    c.add.ensures.items

pub returns-in_ok-children-clause-less : goal.returns-in_ok-children-clause-less
returns-in_ok-children-clause-less g c =
    let xs = c.args.tasks.now.items in
    let t = c.args.task in
    let children = c.in_ok-children.children.items in
    let h = rw c.as_str.ensures.text at c.in_ok-children.ensures.children in
    if_ok (λ done. c.add.new.tasks.items ≡ (xs ++ with_listed t ∷ []) ++ children) (λ done. weigh c.add.new.tasks.items < weigh (xs ++ t ∷ [])) c.add.result
    (λ done is. subst (λ (l : List Task). weigh l < weigh (xs ++ t ∷ [])) (sym is) (listed_less xs t children h.items (sym c.if-is_unlisted.ensures) h.are))
    c.add.ensures.items

pub returns-else-is_unlisted-clause-work : goal.returns-else-is_unlisted-clause-work
returns-else-is_unlisted-clause-work g c =
    let D = g.D.Dir in
    let spot = c.args.spot.now in
    let xs = c.args.tasks.now.items in
    let t = c.args.task in
    let old = D.shown c.args.dir.now in
    let new = D.shown c.remove.new.dir in
    if_ok (λ done. D.observed ≡ true → Learns (removal_of spot t) Done old new) (λ done. D.observed ≡ true → WorksOff spot (xs ++ t ∷ []) xs old new) c.remove.result
    (λ done is o. removes_off spot xs t (sym c.if-is_unlisted.ensures) (is o))
    c.remove.ensures.removed

pub returns-else-is_unlisted-clause-less : goal.returns-else-is_unlisted-clause-less
returns-else-is_unlisted-clause-less g c = ok_all (λ done. weigh c.args.tasks.now.items < weigh (c.args.tasks.now.items ++ c.args.task ∷ [])) c.remove.result (λ done. removed_less c.args.tasks.now.items c.args.task)

pub returns-in_err-children-clause-knew : goal.returns-in_err-children-clause-knew
returns-in_err-children-clause-knew g c h t =
    let k : IsErrOf c.list.result Stray = search (rules, h, c.from_residual.ensures, c.in_err-children.is) in
    turn_lists c.args.spot.now c.args.tasks.now.items c.args.task (g.D.Dir.shown c.args.dir.now) (g.D.Dir.shown c.list.new.dir) (sym c.if-is_unlisted.ensures) (rw c.as_str.ensures.text at (c.list.ensures.asked k t))

pub returns-else-is_unlisted-clause-knew : goal.returns-else-is_unlisted-clause-knew
returns-else-is_unlisted-clause-knew g c h t = turn_removes c.args.spot.now c.args.tasks.now.items c.args.task (g.D.Dir.shown c.args.dir.now) (g.D.Dir.shown c.remove.new.dir) (c.remove.ensures.stray h t)
