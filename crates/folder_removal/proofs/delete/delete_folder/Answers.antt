use Rattle.std.proofs.Common.{◌≡◌, true, arith, inl, IsErrOf, ℕ, refl, subst, ◌∙◌}
use Rattle.std.proofs.lemmas.Grind.{common_steps}
use Rattle.plain_laws.proofs.Results.{err_all}
use Rattle.dir_model.specs.declared.request.Request.TheVariants.{RemoveFolder}
use Rattle.dir_model.specs.declared.request.Reply.TheVariants.{Done}
use Rattle.dir_model.specs.Calls.{CallStep}
use Rattle.dir_model.proofs.Chains.{nothing_yet, and_call, and_more}
use Rattle.dir_model.proofs.Spots.{spot_self}
use Rattle.folder_removal.specs.declared.error.DeleteError.TheVariants.{Stray}
use Rattle.folder_removal.specs.Known.{OnlyTries}
use Rattle.folder_removal.specs.Removal.{KeepsFolders}
use Rattle.folder_removal.proofs.Keeping.{kept_spared, kept_more, kept_call}
use Rattle.folder_removal.proofs.Strays.{folder_stray, stray_folder, listing_stray, root_at_hand, stray_emptied}
use Rattle.folder_removal.proofs.Knowing.{tries_tasks, tries_folder, deletes}
use Rattle.folder_removal.proofs.delete.delete_folder.Goals as goal
use Rattle.folder_removal.proofs.Knew.{root_lists, emptying_knew, folder_knew}

pub returns-in_err-empty-clause-extends : goal.returns-in_err-empty-clause-extends
returns-in_err-empty-clause-extends g c t = and_more (c.list.ensures.extends t) c.list.ensures.same (c.empty.ensures.extends t)

pub returns-in-Ok-clause-extends : goal.returns-in-Ok-clause-extends
returns-in-Ok-clause-extends g c t = and_call (and_more (c.list.ensures.extends t) c.list.ensures.same (c.empty.ensures.extends t)) (c.empty.ensures.same ∙ c.list.ensures.same) (spot_self c.args.spot) (c.remove_folder.ensures.called.step t)

pub returns-in-Err-clause-extends : goal.returns-in-Err-clause-extends
returns-in-Err-clause-extends g c t = and_call (and_more (c.list.ensures.extends t) c.list.ensures.same (c.empty.ensures.extends t)) (c.empty.ensures.same ∙ c.list.ensures.same) (spot_self c.args.spot) (c.remove_folder.ensures.called.step t)

pub returns-in-Ok-clause-deleted : goal.returns-in-Ok-clause-deleted
returns-in-Ok-clause-deleted g c t = deletes c.args.spot c.in_ok-tasks.tasks.items c.requires.area (c.in_ok-tasks.ensures.listed t) (c.in_ok-empty.ensures.work t) t c.in-Ok.ensures.called

pub returns-in-Ok-clause-gone : goal.returns-in-Ok-clause-gone
returns-in-Ok-clause-gone g c t =
    let shown = g.D.Dir.shown in
    record {
      before = (shown c.empty.new.dir).trace;
      first = and_more (c.list.ensures.extends t) c.list.ensures.same (c.empty.ensures.extends t);
      last = subst (λ (p : ℕ). CallStep p (shown c.empty.new.dir).trace (RemoveFolder c.args.spot) Done (shown c.remove_folder.new.self).trace) (c.empty.ensures.same ∙ c.list.ensures.same) (c.in-Ok.ensures.called.step t);
    }

pub returns-in_err-tasks-clause-refused : goal.returns-in_err-tasks-clause-refused
returns-in_err-tasks-clause-refused g c =
    let D = g.D.Dir in
    err_all (λ error. D.observed ≡ true → OnlyTries c.args.spot (D.shown c.args.dir.now) (D.shown c.list.new.dir)) c.from_residual.result (λ error t s k m. c.list.ensures.known t s k)

pub returns-in_err-empty-clause-refused : goal.returns-in_err-empty-clause-refused
returns-in_err-empty-clause-refused g c =
    let D = g.D.Dir in
    err_all (λ error. D.observed ≡ true → OnlyTries c.args.spot (D.shown c.args.dir.now) (D.shown c.empty.new.dir)) c.from_residual-in_err-empty.result
    (λ error t. tries_tasks c.args.spot c.in_ok-tasks.tasks.items c.requires.area (c.in_ok-tasks.ensures.listed t) (c.empty.ensures.known t))

pub returns-in-Err-clause-refused : goal.returns-in-Err-clause-refused
returns-in-Err-clause-refused g c t = tries_folder c.args.spot c.in_ok-tasks.tasks.items c.requires.area (c.in_ok-tasks.ensures.listed t) c.in-Err.error (c.in_ok-empty.ensures.work t) t c.in-Err.ensures.called

pub returns-in_err-tasks-clause-stray : goal.returns-in_err-tasks-clause-stray
returns-in_err-tasks-clause-stray g c h t =
    let k : IsErrOf c.list.result Stray = grind (arith, common_steps, h, c.from_residual.ensures, c.in_err-tasks.is) in
    listing_stray refl nothing_yet (inl (refl, nothing_yet)) (c.list.ensures.stray k t)

pub returns-in_err-empty-clause-stray : goal.returns-in_err-empty-clause-stray
returns-in_err-empty-clause-stray g c h t =
    let k : IsErrOf c.empty.result Stray = grind (arith, common_steps, h, c.from_residual-in_err-empty.ensures, c.in_err-empty.is) in
    stray_emptied c.args.spot (g.D.Dir.shown c.args.dir.now) (g.D.Dir.shown c.list.new.dir) (g.D.Dir.shown c.empty.new.dir) c.list.ensures.same (c.list.ensures.extends t) c.in_ok-tasks.tasks.items
    (root_at_hand c.args.spot c.in_ok-tasks.tasks.items (c.in_ok-tasks.ensures.listed t) (c.in_ok-tasks.ensures.shown t)) (c.empty.ensures.stray k t)

pub returns-in-Err-clause-stray : goal.returns-in-Err-clause-stray
returns-in-Err-clause-stray g c h t =
    let is : c.delete_error.result ≡ Stray = cc in
    folder_stray c.in-Err.error (stray_folder c.args.spot c.in-Err.error c.in-Err.ensures.refusals (c.delete_error.ensures.stray is))
    (and_more (c.list.ensures.extends t) c.list.ensures.same (c.empty.ensures.extends t)) (c.empty.ensures.same ∙ c.list.ensures.same) (c.in-Err.ensures.called.step t)

pub returns-in_err-tasks-clause-kept : goal.returns-in_err-tasks-clause-kept
returns-in_err-tasks-clause-kept g c =
    let D = g.D.Dir in
    err_all (λ error. D.observed ≡ true → KeepsFolders (D.shown c.args.dir.now) (D.shown c.list.new.dir)) c.from_residual.result (λ error t. kept_spared (c.list.ensures.spares t))

pub returns-in_err-empty-clause-kept : goal.returns-in_err-empty-clause-kept
returns-in_err-empty-clause-kept g c =
    let D = g.D.Dir in
    err_all (λ error. D.observed ≡ true → KeepsFolders (D.shown c.args.dir.now) (D.shown c.empty.new.dir)) c.from_residual-in_err-empty.result
    (λ error t. kept_spared (and_more (c.list.ensures.spares t) c.list.ensures.same (c.empty.ensures.spares t)))

pub returns-in-Err-clause-kept : goal.returns-in-Err-clause-kept
returns-in-Err-clause-kept g c t =
    kept_more (kept_spared (and_more (c.list.ensures.spares t) c.list.ensures.same (c.empty.ensures.spares t))) (c.empty.ensures.same ∙ c.list.ensures.same) (kept_call refl (c.in-Err.ensures.called.step t))

pub returns-in_err-tasks-clause-knew : goal.returns-in_err-tasks-clause-knew
returns-in_err-tasks-clause-knew g c h t =
    let k : IsErrOf c.list.result Stray = grind (arith, common_steps, h, c.from_residual.ensures, c.in_err-tasks.is) in
    root_lists c.args.spot (g.D.Dir.shown c.args.dir.now) (g.D.Dir.shown c.list.new.dir) (c.list.ensures.asked k t)

pub returns-in_err-empty-clause-knew : goal.returns-in_err-empty-clause-knew
returns-in_err-empty-clause-knew g c h t =
    let k : IsErrOf c.empty.result Stray = grind (arith, common_steps, h, c.from_residual-in_err-empty.ensures, c.in_err-empty.is) in
    emptying_knew c.args.spot c.in_ok-tasks.tasks.items (g.D.Dir.shown c.args.dir.now) (g.D.Dir.shown c.list.new.dir) (g.D.Dir.shown c.empty.new.dir) c.requires.area (c.in_ok-tasks.ensures.listed t) c.list.ensures.same (c.empty.ensures.knew k t)

pub returns-in-Err-clause-knew : goal.returns-in-Err-clause-knew
returns-in-Err-clause-knew g c h t =
    let is : c.delete_error.result ≡ Stray = cc in
    folder_knew c.args.spot c.in_ok-tasks.tasks.items (g.D.Dir.shown c.args.dir.now) (g.D.Dir.shown c.list.new.dir) (g.D.Dir.shown c.empty.new.dir) c.requires.area (c.in_ok-tasks.ensures.listed t) c.list.ensures.same (g.D.Dir.shown c.remove_folder.new.self) c.in-Err.error
    (stray_folder c.args.spot c.in-Err.error c.in-Err.ensures.refusals (c.delete_error.ensures.stray is)) (c.in_ok-empty.ensures.work t) c.empty.ensures.same (c.in-Err.ensures.called.step t)
