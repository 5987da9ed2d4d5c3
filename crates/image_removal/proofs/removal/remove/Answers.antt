use Rattle.std.proofs.Common.{◌≡◌, ℕ, true, rules, subst}
use Rattle.plain_laws.proofs.Results.{if_ok, if_err, err_same, err_all}
use Rattle.dir_model.specs.declared.area.Area.TheVariants.{Images, Removed}
use Rattle.dir_model.specs.declared.spot.Mode.TheVariants.{Exclusive}
use Rattle.dir_model.specs.State.{DirState}
use Rattle.dir_rules.specs.declared.seen.Seen.{Seen}
use Rattle.dir_trait.specs.Knowledge.{Knows}
use Rattle.dir_files.specs.AreaLocks.{is_free_of, IsBusy, IsBusyElsewhere}
use Rattle.folder_building.proofs.Working.{worked_more, worked_wider}
use Rattle.folder_building.proofs.Following.{follows_work}
use Rattle.image_removal.specs.Requests.{away_spot}
use Rattle.image_removal.specs.Causes.{RemovalWorkCause, ImageRemovalCause, RemovalBusyElsewhere}
use Rattle.image_removal.specs.Removals.{IsGoneUnless, IsRemovedBetween}
use Rattle.image_removal.specs.Work.{MayRemoveImage}
use Rattle.image_removal.proofs.Causes.{work_never_busy, work_removing}
use Rattle.image_removal.proofs.Knowing.{stays_conform, conforms_more}
use Rattle.image_removal.proofs.Locked.{removal_pass, pass_still}
use Rattle.image_removal.proofs.Ends.{away_remove, is_removed}
use Rattle.folder_removal.specs.Removal.{KeepsFolders}
use Rattle.folder_removal.proofs.Keeping.{kept_more}
use Rattle.image_removal.proofs.removal.remove.Goals as goal

pub returns-in_err-put_away_locked-clause-cause : goal.returns-in_err-put_away_locked-clause-cause
returns-in_err-put_away_locked-clause-cause g c =
    let D = g.D.Dir in
    err_same (λ e. ImageRemovalCause D.observed c.args.key c.args.draw e (D.shown c.args.dir.now) (D.shown c.put_away_locked.new.dir)) c.put_away_locked.result c.from_residual.result
    (λ e h. search (rules, h, c.from_residual.ensures, c.in_err-put_away_locked.is)) c.put_away_locked.ensures.cause

pub returns-in_err-put_away_locked-clause-by_other_process : goal.returns-in_err-put_away_locked-clause-by_other_process
returns-in_err-put_away_locked-clause-by_other_process g c =
    let D = g.D.Dir in
    let old = D.shown c.args.dir.now in
    let new = D.shown c.put_away_locked.new.dir in
    err_same (λ e. D.observed ≡ true → (s : Seen) → Knows old s → MayRemoveImage c.args.draw s → RemovalBusyElsewhere e old new) c.put_away_locked.result c.from_residual.result
    (λ e h. search (rules, h, c.from_residual.ensures, c.in_err-put_away_locked.is))
    (if_err (λ e. D.observed ≡ true → (s : Seen) → Knows old s → is_free_of Images s ≡ true → RemovalBusyElsewhere e old new)
    (λ e. D.observed ≡ true → (s : Seen) → Knows old s → MayRemoveImage c.args.draw s → RemovalBusyElsewhere e old new)
    c.put_away_locked.result (λ e busy t s k may. busy t s k may.images) c.put_away_locked.ensures.by_other_process)

pub returns-in_err-put_away_locked-clause-conforms : goal.returns-in_err-put_away_locked-clause-conforms
returns-in_err-put_away_locked-clause-conforms g c t = stays_conform (c.put_away_locked.ensures.stays t)

pub returns-clause-worked : goal.returns-clause-worked
returns-clause-worked g c = worked_more c.put_away_locked.ensures.worked (worked_wider (away_remove c.args.key c.args.draw) c.delete_if_free.ensures.worked)

pub returns-clause-cause : goal.returns-clause-cause
returns-clause-cause g c =
    let D = g.D.Dir in
    let old = D.shown c.args.dir.now in
    let mid = D.shown c.put_away_locked.new.dir in
    let new = D.shown c.delete_if_free.new.dir in
    if_err (λ e. RemovalWorkCause D.observed e mid new) (λ e. ImageRemovalCause D.observed c.args.key c.args.draw e old new) c.delete_if_free.result
    (λ e w. work_removing c.args.key c.args.draw e (follows_work c.put_away_locked.ensures.worked) c.in_ok-put_away_locked.ensures.moved w) c.delete_if_free.ensures.cause

pub returns-clause-by_other_process : goal.returns-clause-by_other_process
returns-clause-by_other_process g c =
    let D = g.D.Dir in
    let old = D.shown c.args.dir.now in
    let mid = D.shown c.put_away_locked.new.dir in
    let new = D.shown c.delete_if_free.new.dir in
    if_err (λ e. RemovalWorkCause D.observed e mid new) (λ e. D.observed ≡ true → (s : Seen) → Knows old s → MayRemoveImage c.args.draw s → RemovalBusyElsewhere e old new) c.delete_if_free.result
    (λ e w t s k may. work_never_busy old new e w.kind) c.delete_if_free.ensures.cause

pub returns-clause-removed : goal.returns-clause-removed
returns-clause-removed g c =
    let D = g.D.Dir in
    let key = c.args.key in
    let draw = c.args.draw in
    let old = D.shown c.args.dir.now in
    let mid = D.shown c.put_away_locked.new.dir in
    let new = D.shown c.delete_if_free.new.dir in
    let Busy : DirState → Type 0 = IsBusy Removed Exclusive in
    if_ok (λ done. D.observed ≡ true → IsGoneUnless Busy (away_spot draw) mid.process mid.trace new.trace) (λ done. D.observed ≡ true → IsRemovedBetween Busy key draw old new)
    c.delete_if_free.result
    (λ done gone t. is_removed key draw old mid new Busy c.put_away_locked.ensures.worked.same (c.in_ok-put_away_locked.ensures.moved t) (gone t)) c.delete_if_free.ensures.gone

pub returns-clause-removed_unless_another : goal.returns-clause-removed_unless_another
returns-clause-removed_unless_another g c =
    let D = g.D.Dir in
    let key = c.args.key in
    let draw = c.args.draw in
    let old = D.shown c.args.dir.now in
    let mid = D.shown c.put_away_locked.new.dir in
    let new = D.shown c.delete_if_free.new.dir in
    let Busy : ℕ → DirState → Type 0 = λ me. IsBusyElsewhere me Removed Exclusive in
    let same = c.put_away_locked.ensures.worked.same in
    if_ok (λ done. D.observed ≡ true → (s : Seen) → Knows mid s → is_free_of Removed s ≡ true → IsGoneUnless (Busy mid.process) (away_spot draw) mid.process mid.trace new.trace)
    (λ done. D.observed ≡ true → (s : Seen) → Knows old s → MayRemoveImage draw s → IsRemovedBetween (Busy old.process) key draw old new) c.delete_if_free.result
    (λ done gone t s k may.
    let x = c.put_away_locked.ensures.stays t s k may in
    is_removed key draw old mid new (Busy old.process) same (c.in_ok-put_away_locked.ensures.moved t)
    (subst (λ (me : ℕ). IsGoneUnless (Busy me) (away_spot draw) mid.process mid.trace new.trace) same (gone t x.known x.knows (pass_still (removal_pass may) x).free)))
    c.delete_if_free.ensures.by_other_process

pub returns-clause-conforms : goal.returns-clause-conforms
returns-clause-conforms g c t s k may =
    let x = c.put_away_locked.ensures.stays t s k may in
    conforms_more x (c.delete_if_free.ensures.stays t x.known x.knows (pass_still (removal_pass may) x))

pub returns-in_err-put_away_locked-clause-kept : goal.returns-in_err-put_away_locked-clause-kept
returns-in_err-put_away_locked-clause-kept g c =
    let D = g.D.Dir in
    err_all (λ e. D.observed ≡ true → KeepsFolders (D.shown c.args.dir.now) (D.shown c.put_away_locked.new.dir)) c.from_residual.result (λ e t. c.put_away_locked.ensures.kept t)

pub returns-clause-kept : goal.returns-clause-kept
returns-clause-kept g c =
    let D = g.D.Dir in
    if_err (λ e. D.observed ≡ true → KeepsFolders (D.shown c.put_away_locked.new.dir) (D.shown c.delete_if_free.new.dir)) (λ e. D.observed ≡ true → KeepsFolders (D.shown c.args.dir.now) (D.shown c.delete_if_free.new.dir)) c.delete_if_free.result
    (λ e kept t. kept_more (c.put_away_locked.ensures.kept t) c.put_away_locked.ensures.worked.same (kept t)) c.delete_if_free.ensures.kept

pub returns-in_err-put_away_locked-clause-lawful : goal.returns-in_err-put_away_locked-clause-lawful
returns-in_err-put_away_locked-clause-lawful g c is t s k may conforming = c.put_away_locked.ensures.lawful (search (rules, is, c.from_residual.ensures, c.in_err-put_away_locked.is)) t conforming

pub returns-clause-lawful : goal.returns-clause-lawful
returns-clause-lawful g c is t s k may conforming =
    let x = c.put_away_locked.ensures.stays t s k may in
    c.delete_if_free.ensures.lawful is t x.known x.knows (pass_still (removal_pass may) x) conforming
