use Rattle.std.proofs.Common.{rules, ◌≡◌, true, refl, sym, subst, ℕ, List, []}
use Rattle.plain_laws.proofs.Results.{if_ok, if_err, err_same}
use Rattle.dir_model.specs.Local.{IsActive, Local}
use Rattle.folder_building.proofs.Working.{worked_more}
use Rattle.stage1.specs.Notes.{MadeFile, Synced, IsMarked}
use Rattle.stage1.specs.Refusals.{NoteCause}
use Rattle.stage1.proofs.Noted.{stays_more, marked, made_mark}
use Rattle.stage1.proofs.Causes.{note_after}
use Rattle.dir_model.specs.declared.request.Request.TheVariants.{MakeFileIn}
use Rattle.folder_building.specs.Making.{inner_at}
use Rattle.stage1.specs.Keeping.{CallsDirectory}
use Rattle.stage1.proofs.Keeping.{keeps_mark, keeps_marked}
use Rattle.stage1.proofs.notes.make_mark.Goals as goal

pub returns-in_err-make_file-clause-cause : goal.returns-in_err-make_file-clause-cause
returns-in_err-make_file-clause-cause g c =
    let D = g.D.Dir in
    err_same (λ f. NoteCause D.observed f (D.shown c.args.dir.now) (D.shown c.make_file.new.dir)) c.make_file.result c.from_residual.result (λ e h. search (rules, h, c.from_residual.ensures, c.in_err-make_file.is)) c.make_file.ensures.cause

pub sync-requires-clause-active : goal.sync-requires-clause-active
sync-requires-clause-active g c = subst (λ (m : Local). IsActive m) (sym c.make_file.ensures.worked.local) c.requires.active

pub returns-clause-worked : goal.returns-clause-worked
returns-clause-worked g c = worked_more c.make_file.ensures.worked c.sync.ensures.worked

pub returns-clause-cause : goal.returns-clause-cause
returns-clause-cause g c =
    let D = g.D.Dir in
    let old = D.shown c.args.dir.now in
    let mid = D.shown c.make_file.new.dir in
    let new = D.shown c.sync.new.dir in
    if_err (λ f. NoteCause D.observed f mid new) (λ f. NoteCause D.observed f old new) c.sync.result (λ f is. note_after f old mid new c.make_file.ensures.worked is) c.sync.ensures.cause

pub returns-clause-stays : goal.returns-clause-stays
returns-clause-stays g c t = stays_more (c.make_file.ensures.stays t) (c.sync.ensures.stays t)

pub returns-clause-may : goal.returns-clause-may
returns-clause-may g c =
    let D = g.D.Dir in
    let root = c.args.root.now in
    let old = D.shown c.args.dir.now in
    let mid = D.shown c.make_file.new.dir in
    let new = D.shown c.sync.new.dir in
    if_ok (λ done. Synced D.observed root.spot [] mid new) (λ done. D.observed ≡ true → IsMarked new root) c.sync.result
    (λ done synced t.
    let file = subst (λ (p : List ℕ). MadeFile D.observed root.spot p old mid) c.requires.path c.in_ok-make_file.ensures.done in
    record {
      may = record {
        marked = marked root t c.requires.place file synced;
        runs = (stays_more (c.make_file.ensures.stays t) (c.sync.ensures.stays t)).runs root.spot.name (c.requires.runs t);
      };
      made = made_mark root t file synced;
    })
    c.sync.ensures.done

pub returns-in_err-make_file-clause-keeps : goal.returns-in_err-make_file-clause-keeps
returns-in_err-make_file-clause-keeps g c t =
    let D = g.D.Dir in
    let root = c.args.root.now in
    keeps_mark root c.requires.place t (subst (λ (p : List ℕ). CallsDirectory D.observed (MakeFileIn (inner_at root.spot p)) (D.shown c.args.dir.now) (D.shown c.make_file.new.dir)) c.requires.path (c.make_file.ensures.called t))

pub returns-clause-keeps : goal.returns-clause-keeps
returns-clause-keeps g c t =
    let D = g.D.Dir in
    let root = c.args.root.now in
    let old = D.shown c.args.dir.now in
    let mid = D.shown c.make_file.new.dir in
    keeps_marked root c.requires.place (inner_at root.spot []) refl refl t (subst (λ (p : List ℕ). MadeFile D.observed root.spot p old mid) c.requires.path c.in_ok-make_file.ensures.done) (c.sync.ensures.called t)
