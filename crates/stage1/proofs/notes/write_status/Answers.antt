use Rattle.std.proofs.Common.{rules, ◌≡◌, true, ℕ, List, sym, subst, ◌∙◌}
use Rattle.plain_laws.proofs.Results.{if_ok, if_err, err_same}
use Rattle.dir_model.specs.Local.{IsActive, Local}
use Rattle.folder_building.proofs.Working.{worked_more}
use Rattle.stage1.specs.Notes.{status_path, status_text, MadeFile, Appended, Synced, WroteStatus}
use Rattle.stage1.specs.Refusals.{NoteCause}
use Rattle.stage1.proofs.Noted.{stays_more, wrote_status}
use Rattle.stage1.proofs.Causes.{note_after}
use Rattle.dir_model.specs.declared.request.Request.TheVariants.{MakeFileIn, AppendIn, SyncIn}
use Rattle.folder_building.specs.Making.{inner_at}
use Rattle.stage1.specs.Keeping.{CallsDirectory}
use Rattle.stage1.proofs.Keeping.{keeps_status, keeps_part, keeps_whole}
use Rattle.stage1.proofs.notes.write_status.Goals as goal

pub returns-in_err-make_file-clause-cause : goal.returns-in_err-make_file-clause-cause
returns-in_err-make_file-clause-cause g c =
    let D = g.D.Dir in
    err_same (λ f. NoteCause D.observed f (D.shown c.args.dir.now) (D.shown c.make_file.new.dir)) c.make_file.result c.from_residual.result (λ e h. search (rules, h, c.from_residual.ensures, c.in_err-make_file.is)) c.make_file.ensures.cause

pub append-requires-clause-active : goal.append-requires-clause-active
append-requires-clause-active g c = subst (λ (m : Local). IsActive m) (sym c.make_file.ensures.worked.local) c.requires.active

pub returns-in_err-append-clause-worked : goal.returns-in_err-append-clause-worked
returns-in_err-append-clause-worked g c = worked_more c.make_file.ensures.worked c.append.ensures.worked

pub returns-in_err-append-clause-stays : goal.returns-in_err-append-clause-stays
returns-in_err-append-clause-stays g c t = stays_more (c.make_file.ensures.stays t) (c.append.ensures.stays t)

pub returns-in_err-append-clause-cause : goal.returns-in_err-append-clause-cause
returns-in_err-append-clause-cause g c =
    let D = g.D.Dir in
    let old = D.shown c.args.dir.now in
    let mid = D.shown c.make_file.new.dir in
    let new = D.shown c.append.new.dir in
    err_same (λ f. NoteCause D.observed f old new) c.append.result c.from_residual-in_err-append.result (λ e h. search (rules, h, c.from_residual-in_err-append.ensures, c.in_err-append.is))
    (if_err (λ f. NoteCause D.observed f mid new) (λ f. NoteCause D.observed f old new) c.append.result (λ f is. note_after f old mid new c.make_file.ensures.worked is) c.append.ensures.cause)

pub sync-requires-clause-active : goal.sync-requires-clause-active
sync-requires-clause-active g c = subst (λ (m : Local). IsActive m) (sym (c.append.ensures.worked.local ∙ c.make_file.ensures.worked.local)) c.requires.active

pub returns-clause-worked : goal.returns-clause-worked
returns-clause-worked g c = worked_more (worked_more c.make_file.ensures.worked c.append.ensures.worked) c.sync.ensures.worked

pub returns-clause-stays : goal.returns-clause-stays
returns-clause-stays g c t = stays_more (stays_more (c.make_file.ensures.stays t) (c.append.ensures.stays t)) (c.sync.ensures.stays t)

pub returns-clause-cause : goal.returns-clause-cause
returns-clause-cause g c =
    let D = g.D.Dir in
    let old = D.shown c.args.dir.now in
    let mid = D.shown c.append.new.dir in
    let new = D.shown c.sync.new.dir in
    if_err (λ f. NoteCause D.observed f mid new) (λ f. NoteCause D.observed f old new) c.sync.result (λ f is. note_after f old mid new (worked_more c.make_file.ensures.worked c.append.ensures.worked) is) c.sync.ensures.cause

pub returns-clause-wrote : goal.returns-clause-wrote
returns-clause-wrote g c =
    let D = g.D.Dir in
    let root = c.args.root.now in
    let path = status_path root.app in
    let old = D.shown c.args.dir.now in
    let a = D.shown c.make_file.new.dir in
    let b = D.shown c.append.new.dir in
    let new = D.shown c.sync.new.dir in
    if_ok (λ done. Synced D.observed root.spot c.args.path.now b new) (λ done. D.observed ≡ true → (status : ℕ) → c.args.text.now ≡ status_text status → WroteStatus root status new) c.sync.result
    (λ done synced t status is.
    wrote_status root status t (subst (λ (p : List ℕ). MadeFile D.observed root.spot p old a) c.requires.path c.in_ok-make_file.ensures.done)
    (subst (λ (p : List ℕ). Appended D.observed root.spot p (status_text status) a b) c.requires.path (subst (λ (x : List ℕ). Appended D.observed root.spot c.args.path.now x a b) (c.as_bytes.ensures.value ∙ is) c.in_ok-append.ensures.done))
    (subst (λ (p : List ℕ). Synced D.observed root.spot p b new) c.requires.path synced))
    c.sync.ensures.done

pub returns-in_err-make_file-clause-keeps : goal.returns-in_err-make_file-clause-keeps
returns-in_err-make_file-clause-keeps g c t =
    let D = g.D.Dir in
    let root = c.args.root.now in
    keeps_status root c.requires.place t (subst (λ (p : List ℕ). CallsDirectory D.observed (MakeFileIn (inner_at root.spot p)) (D.shown c.args.dir.now) (D.shown c.make_file.new.dir)) c.requires.path (c.make_file.ensures.called t))

pub returns-in_err-append-clause-keeps : goal.returns-in_err-append-clause-keeps
returns-in_err-append-clause-keeps g c t =
    let D = g.D.Dir in
    let root = c.args.root.now in
    let old = D.shown c.args.dir.now in
    let a = D.shown c.make_file.new.dir in
    let b = D.shown c.append.new.dir in
    keeps_part root c.requires.place c.as_bytes.result.now t (subst (λ (p : List ℕ). MadeFile D.observed root.spot p old a) c.requires.path c.in_ok-make_file.ensures.done)
    (subst (λ (p : List ℕ). CallsDirectory D.observed (AppendIn (inner_at root.spot p) c.as_bytes.result.now) a b) c.requires.path (c.append.ensures.called t))

pub returns-clause-keeps : goal.returns-clause-keeps
returns-clause-keeps g c t =
    let D = g.D.Dir in
    let root = c.args.root.now in
    let old = D.shown c.args.dir.now in
    let a = D.shown c.make_file.new.dir in
    let b = D.shown c.append.new.dir in
    let new = D.shown c.sync.new.dir in
    keeps_whole root c.requires.place c.as_bytes.result.now t (subst (λ (p : List ℕ). MadeFile D.observed root.spot p old a) c.requires.path c.in_ok-make_file.ensures.done)
    (subst (λ (p : List ℕ). CallsDirectory D.observed (AppendIn (inner_at root.spot p) c.as_bytes.result.now) a b) c.requires.path (c.append.ensures.called t))
    (subst (λ (p : List ℕ). CallsDirectory D.observed (SyncIn (inner_at root.spot p)) b new) c.requires.path (c.sync.ensures.called t))
