use Rattle.std.proofs.Common.{◌≡◌, false, inr, Ok, rules, ap, subst, true}
use Rattle.plain_laws.proofs.Results.{if_err, err_all}
use Rattle.dir_model.specs.declared.spot.Spot.{Spot}
use Rattle.dir_model.specs.State.{stands}
use Rattle.dir_trait.specs.DirCalls.{HeldBetween}
use Rattle.dir_trait.specs.Effects.{OnlyAsks}
use Rattle.folder_building.proofs.Working.{in_first, in_second, worked_more, worked_wider}
use Rattle.folder_building.proofs.Following.{follows_work}
use Rattle.folder_removal.specs.Removal.{asks_deletion_at}
use Rattle.image_removal.specs.Requests.{removed_spot, looks_at_folder}
use Rattle.image_removal.specs.Causes.{RemovalWorkCause}
use Rattle.image_reading.specs.declared.error.StoreError.TheVariants.{Stray}
use Rattle.image_removal.proofs.Times.{work_after}
use Rattle.folder_removal.specs.Removal.{KeepsFolders}
use Rattle.folder_removal.proofs.Keeping.{kept_more}
use Rattle.image_removal.proofs.Keeping.{kept_looking}
use Rattle.image_removal.proofs.Lawful.{of_error, found_never}
use Rattle.image_removal.proofs.Passing.{either_conforms}
use Rattle.image_removal.specs.Work.{HoldsArea}
use Rattle.dir_model.specs.declared.area.Area.TheVariants.{Removed}
use Rattle.image_removal.proofs.deletion.delete_if_there.Goals as goal

pub returns-in_err-is_there-clause-worked : goal.returns-in_err-is_there-clause-worked
returns-in_err-is_there-clause-worked g c =
    let D = g.D.Dir in
    let spot = removed_spot c.args.name in
    worked_wider (in_first (looks_at_folder spot) (asks_deletion_at spot))
    (subst (λ (s : Spot). OnlyAsks D.observed (looks_at_folder s) (D.shown c.args.dir.now) (D.shown c.is_there.new.dir)) c.removed_spot.ensures c.is_there.ensures.worked)

pub returns-then-branch-clause-worked : goal.returns-then-branch-clause-worked
returns-then-branch-clause-worked g c =
    let D = g.D.Dir in
    let spot = removed_spot c.args.name in
    worked_more
    (worked_wider (in_first (looks_at_folder spot) (asks_deletion_at spot))
    (subst (λ (s : Spot). OnlyAsks D.observed (looks_at_folder s) (D.shown c.args.dir.now) (D.shown c.is_there.new.dir)) c.removed_spot.ensures c.is_there.ensures.worked))
    (worked_wider (in_second (looks_at_folder spot) (asks_deletion_at spot)) c.delete.ensures.worked)

pub returns-then-branch-clause-cause : goal.returns-then-branch-clause-cause
returns-then-branch-clause-cause g c =
    let D = g.D.Dir in
    let old = D.shown c.args.dir.now in
    let mid = D.shown c.is_there.new.dir in
    let new = D.shown c.delete.new.dir in
    if_err (λ e. RemovalWorkCause D.observed e mid new) (λ e. RemovalWorkCause D.observed e old new) c.delete.result (λ e w. work_after (follows_work c.is_there.ensures.worked) w) c.delete.ensures.cause

pub returns-else-branch-clause-worked : goal.returns-else-branch-clause-worked
returns-else-branch-clause-worked g c =
    let D = g.D.Dir in
    let spot = removed_spot c.args.name in
    worked_wider (in_first (looks_at_folder spot) (asks_deletion_at spot))
    (subst (λ (s : Spot). OnlyAsks D.observed (looks_at_folder s) (D.shown c.args.dir.now) (D.shown c.is_there.new.dir)) c.removed_spot.ensures c.is_there.ensures.worked)

pub returns-else-branch-clause-gone : goal.returns-else-branch-clause-gone
returns-else-branch-clause-gone g c t =
    let D = g.D.Dir in
    inr (subst (λ (spot : Spot). HeldBetween (D.shown c.args.dir.now) (D.shown c.is_there.new.dir) (λ s. stands s.namespace spot ≡ false)) c.removed_spot.ensures
    (c.in_ok-is_there.ensures.absent (ap Ok c.if-branch.false) t))

pub returns-in_err-is_there-clause-kept : goal.returns-in_err-is_there-clause-kept
returns-in_err-is_there-clause-kept g c =
    let D = g.D.Dir in
    err_all (λ e. D.observed ≡ true → KeepsFolders (D.shown c.args.dir.now) (D.shown c.is_there.new.dir)) c.from_residual.result (λ e t. kept_looking c.removed_spot.result (c.is_there.ensures.worked.extends t))

pub returns-then-branch-clause-kept : goal.returns-then-branch-clause-kept
returns-then-branch-clause-kept g c =
    let D = g.D.Dir in
    if_err (λ e. D.observed ≡ true → KeepsFolders (D.shown c.is_there.new.dir) (D.shown c.delete.new.dir)) (λ e. D.observed ≡ true → KeepsFolders (D.shown c.args.dir.now) (D.shown c.delete.new.dir)) c.delete.result
    (λ e kept t. kept_more (kept_looking c.removed_spot.result (c.is_there.ensures.worked.extends t)) c.is_there.ensures.worked.same (kept t)) c.delete.ensures.kept

pub returns-in_err-is_there-clause-lawful : goal.returns-in_err-is_there-clause-lawful
returns-in_err-is_there-clause-lawful g c is t s k may conforming = c.is_there.ensures.never_stray (search (rules, is, c.from_residual.ensures, c.in_err-is_there.is))

pub returns-then-branch-clause-lawful : goal.returns-then-branch-clause-lawful
returns-then-branch-clause-lawful g c is t s k may conforming =
    let D = g.D.Dir in
    let old = D.shown c.args.dir.now in
    let mid = D.shown c.is_there.new.dir in
    let new = D.shown c.delete.new.dir in
    found_never c.args.name old mid new t
    (subst (λ (spot : Spot). OnlyAsks D.observed (looks_at_folder spot) old mid) c.removed_spot.ensures c.is_there.ensures.worked)
    (subst (λ (spot : Spot). HeldBetween old mid (λ z. stands z.namespace spot ≡ true)) c.removed_spot.ensures (c.in_ok-is_there.ensures.present (ap Ok c.if-branch.true) t))
    c.delete.ensures.worked (of_error (λ e. D.observed ≡ true → KeepsFolders mid new) c.delete.result Stray is c.delete.ensures.kept t)
    (c.delete.ensures.stray is t) (c.delete.ensures.knew is t s (c.is_there.ensures.known t s k) may) conforming

pub returns-then-branch-clause-stays : goal.returns-then-branch-clause-stays
returns-then-branch-clause-stays g c t s k may =
    let D = g.D.Dir in
    either_conforms (HoldsArea Removed) D.observed (D.shown c.is_there.new.dir) (D.shown c.delete.new.dir) c.delete.result c.delete.ensures.stays c.delete.ensures.left t s (c.is_there.ensures.known t s k) may
