use Rattle.std.proofs.Common.{◌≡◌, true, IfOk, IfErr, sym, subst}
use Rattle.plain_laws.proofs.Results.{if_ok, any_ok, any_err}
use Rattle.dir_model.specs.declared.request.Request.TheVariants.{MoveFolder}
use Rattle.dir_model.specs.declared.request.Reply.TheVariants.{Done}
use Rattle.dir_model.specs.Calls.{CallStep}
use Rattle.image_removal.specs.declared.pass.Pass.{Pass}
use Rattle.image_removal.specs.declared.pass.Pass.TheVariants.{PutAway}
use Rattle.image_removal.specs.Requests.{incoming_spot, removed_spot}
use Rattle.image_removal.specs.Passes.{area_of_pass, pass_request_of, deals_with_folder}
use Rattle.image_removal.specs.Calls.{WasCalled}
use Rattle.image_removal.specs.Work.{HoldsArea, KeepsStandingAndRules, StaysBare, Stays}
use Rattle.image_removal.proofs.Times.{called_self}
use Rattle.image_removal.proofs.Knowing.{stays_conform}
use Rattle.folder_removal.specs.Removal.{KeepsFolders}
use Rattle.image_reading.specs.declared.error.StoreError.TheVariants.{Stray}
use Rattle.image_removal.specs.Sweeps.{WasListed}
use Rattle.image_removal.proofs.Lawful.{of_error}
use Rattle.image_removal.proofs.LawfulSweeps.{deleted_never}
use Rattle.image_removal.proofs.sweeping.deal.Goals as goal
use Rattle.dir_trait.specs.Effects.{OnlyAsks}

pub returns-in-PutAway-clause-done : goal.returns-in-PutAway-clause-done
returns-in-PutAway-clause-done g c =
    let D = g.D.Dir in
    let old = D.shown c.args.dir.now in
    let new = D.shown c.put_away.new.dir in
    subst (λ (p : Pass). IfOk c.put_away.result (λ done. D.observed ≡ true → WasCalled (pass_request_of p c.args.name) Done old.process old.trace new.trace)) (sym c.in-PutAway.is)
    (if_ok (λ done. D.observed ≡ true → CallStep old.process old.trace (MoveFolder (incoming_spot c.args.name) (removed_spot c.args.name)) Done new.trace)
    (λ done. D.observed ≡ true → WasCalled (pass_request_of PutAway c.args.name) Done old.process old.trace new.trace) c.put_away.result (λ done step t. called_self (step t)) c.put_away.ensures.moved)

pub returns-in-PutAway-clause-stays : goal.returns-in-PutAway-clause-stays
returns-in-PutAway-clause-stays g c =
    let D = g.D.Dir in
    let old = D.shown c.args.dir.now in
    let new = D.shown c.put_away.new.dir in
    subst (λ (p : Pass). IfOk c.put_away.result (λ done. D.observed ≡ true → Stays (HoldsArea (area_of_pass p)) StaysBare old new)) (sym c.in-PutAway.is)
    (any_ok (D.observed ≡ true → Stays (HoldsArea (area_of_pass PutAway)) StaysBare old new) c.put_away.result c.put_away.ensures.stays)

pub returns-in-PutAway-clause-left : goal.returns-in-PutAway-clause-left
returns-in-PutAway-clause-left g c =
    let D = g.D.Dir in
    let old = D.shown c.args.dir.now in
    let new = D.shown c.put_away.new.dir in
    subst (λ (p : Pass). IfErr c.put_away.result (λ e. D.observed ≡ true → Stays (HoldsArea (area_of_pass p)) KeepsStandingAndRules old new)) (sym c.in-PutAway.is)
    (any_err (D.observed ≡ true → Stays (HoldsArea (area_of_pass PutAway)) KeepsStandingAndRules old new) c.put_away.result (λ t. stays_conform (c.put_away.ensures.stays t)))

pub returns-in-Delete-clause-worked : goal.returns-in-Delete-clause-worked
returns-in-Delete-clause-worked g c =
    let D = g.D.Dir in
    subst (λ (p : Pass). OnlyAsks D.observed (deals_with_folder p c.args.name) (D.shown c.args.dir.now) (D.shown c.delete.new.dir)) (sym c.in-Delete.is) c.delete.ensures.worked

pub returns-in-Delete-clause-stays : goal.returns-in-Delete-clause-stays
returns-in-Delete-clause-stays g c =
    let D = g.D.Dir in
    subst (λ (p : Pass). IfOk c.delete.result (λ done. D.observed ≡ true → Stays (HoldsArea (area_of_pass p)) StaysBare (D.shown c.args.dir.now) (D.shown c.delete.new.dir)))
    (sym c.in-Delete.is) c.delete.ensures.stays

pub returns-in-Delete-clause-left : goal.returns-in-Delete-clause-left
returns-in-Delete-clause-left g c =
    let D = g.D.Dir in
    subst (λ (p : Pass). IfErr c.delete.result (λ e. D.observed ≡ true → Stays (HoldsArea (area_of_pass p)) KeepsStandingAndRules (D.shown c.args.dir.now) (D.shown c.delete.new.dir)))
    (sym c.in-Delete.is) c.delete.ensures.left

pub returns-in-PutAway-clause-lawful : goal.returns-in-PutAway-clause-lawful
returns-in-PutAway-clause-lawful g c is t s k may shown conforming =
    let D = g.D.Dir in
    let old = D.shown c.args.dir.now in
    c.put_away.ensures.lawful is t (subst (λ (p : Pass). WasListed p c.args.name old.process old.trace) c.in-PutAway.is shown) conforming

pub returns-in-Delete-clause-lawful : goal.returns-in-Delete-clause-lawful
returns-in-Delete-clause-lawful g c is t s k may shown conforming =
    let D = g.D.Dir in
    let old = D.shown c.args.dir.now in
    let new = D.shown c.delete.new.dir in
    deleted_never c.args.name (subst (λ (p : Pass). WasListed p c.args.name old.process old.trace) c.in-Delete.is shown)
    (of_error (λ e. D.observed ≡ true → KeepsFolders old new) c.delete.result Stray is c.delete.ensures.kept t)
    (c.delete.ensures.stray is t) (c.delete.ensures.knew is t s k (subst (λ (p : Pass). HoldsArea (area_of_pass p) s) c.in-Delete.is may)) conforming
