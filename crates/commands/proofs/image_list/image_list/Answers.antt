use Rattle.std.proofs.Common.{Err, subst, sym, ap, refl, ◌∙◌}
use Rattle.dir_model.proofs.Chains.{extends_wider}
use Rattle.dir_model.proofs.Moments.{at_before}
use Rattle.dir_files.proofs.Locking.{locked_active}
use Rattle.dir_model.specs.declared.area.Area.TheVariants.{Images}
use Rattle.dir_model.specs.declared.spot.Mode.TheVariants.{Shared}
use Rattle.dir_model.specs.Local.{IsActive}
use Rattle.command_outcomes.proofs.Seen.{rose_wider}
use Rattle.commands.proofs.ImageLists.{holds_lock, lock_open, given_back, takes_lists, list_extends, list_part, list_known, list_says, list_refusals, list_cause, lock_cause}
use Rattle.commands.proofs.StoreStanding.{stands_between}
use Rattle.commands.proofs.image_list.image_list.Goals as goal

pub stored-found-requires-clause-active : goal.stored-found-requires-clause-active
stored-found-requires-clause-active g c = locked_active (g.D.Dir.shown c.args.dir.now).local c.in-Ok.gate Images Shared c.requires.active c.in-Ok.ensures.held

pub stored-found-requires-clause-held : goal.stored-found-requires-clause-held
stored-found-requires-clause-held g c = holds_lock (g.D.Dir.shown c.args.dir.now).local c.in-Ok.gate c.in-Ok.ensures.held

pub unlock_area-requires-clause-active : goal.unlock_area-requires-clause-active
unlock_area-requires-clause-active g c =
    subst IsActive (sym c.stored-found.ensures.only.local) (locked_active (g.D.Dir.shown c.args.dir.now).local c.in-Ok.gate Images Shared c.requires.active c.in-Ok.ensures.held)

pub unlock_area-requires-clause-open : goal.unlock_area-requires-clause-open
unlock_area-requires-clause-open g c = lock_open (g.D.Dir.shown c.args.dir.now).local c.in-Ok.gate c.in-Ok.ensures.held c.stored-found.ensures.only.local

pub returns-in-Ok-clause-local : goal.returns-in-Ok-clause-local
returns-in-Ok-clause-local g c =
    given_back (g.D.Dir.shown c.args.dir.now).local c.in-Ok.gate c.in-Ok.ensures.unopened c.in-Ok.ensures.held c.stored-found.ensures.only.local c.unlock_area.ensures.local

pub returns-in-Ok-clause-cause : goal.returns-in-Ok-clause-cause
returns-in-Ok-clause-cause g c is =
    let D = g.D.Dir in
    let fault = list_cause (λ v. v.items) D.observed (D.shown c.args.dir.now) (D.shown c.lock_area.new.dir) (D.shown c.stored-found.new.dir) (D.shown c.unlock_area.new.dir)
    c.read_outcome.result c.stored-found.result c.read_outcome.ensures.lists c.read_outcome.ensures.refuses is in
    rose_wider _ _ _ _ c.lock_area.ensures.faults (c.stored-found.ensures.cause fault) c.unlock_area.ensures.faultless

pub returns-in-Ok-clause-refusals : goal.returns-in-Ok-clause-refusals
returns-in-Ok-clause-refusals g c =
    let D = g.D.Dir in
    list_refusals (λ v. v.items) D.observed (D.shown c.args.dir.now) (D.shown c.lock_area.new.dir) (D.shown c.stored-found.new.dir) (D.shown c.unlock_area.new.dir)
    c.read_outcome.result c.stored-found.result c.read_outcome.ensures.lists c.read_outcome.ensures.refuses

pub returns-in-Ok-clause-known : goal.returns-in-Ok-clause-known
returns-in-Ok-clause-known g c t s k free =
    list_known c.in-Ok.gate c.in-Ok.ensures.unopened k free (c.in-Ok.ensures.taken t s k (record { free = free; kind = refl })) (c.stored-found.ensures.known t)
    (λ fresh had. c.unlock_area.ensures.given t s Images refl fresh had)

pub returns-in-Ok-clause-extends : goal.returns-in-Ok-clause-extends
returns-in-Ok-clause-extends g c t =
    let D = g.D.Dir in
    list_extends (D.shown c.args.dir.now) (D.shown c.lock_area.new.dir) (D.shown c.stored-found.new.dir) (D.shown c.unlock_area.new.dir) c.in-Ok.gate (c.lock_area.ensures.extends t)
    c.lock_area.ensures.same (c.stored-found.ensures.only.extends t) c.stored-found.ensures.only.same (c.unlock_area.ensures.extends t)

pub returns-in-Ok-clause-says : goal.returns-in-Ok-clause-says
returns-in-Ok-clause-says g c =
    let D = g.D.Dir in
    list_says (λ v. v.items) D.observed (D.shown c.args.dir.now) (D.shown c.lock_area.new.dir) (D.shown c.stored-found.new.dir) (D.shown c.unlock_area.new.dir) c.read_outcome.result
    c.stored-found.result c.read_outcome.ensures.lists c.read_outcome.ensures.refuses c.stored-found.ensures.refusals
    (λ t. list_part (D.shown c.args.dir.now) (D.shown c.lock_area.new.dir) (D.shown c.stored-found.new.dir) (D.shown c.unlock_area.new.dir) c.in-Ok.gate
    (c.lock_area.ensures.extends t) c.lock_area.ensures.same (c.stored-found.ensures.only.extends t) c.stored-found.ensures.only.same (c.unlock_area.ensures.extends t))
    c.stored-found.ensures.listed c.stored-found.ensures.damaged
    (λ images read t s k free conforming. stands_between c.in-Ok.gate
    (list_part (D.shown c.args.dir.now) (D.shown c.lock_area.new.dir) (D.shown c.stored-found.new.dir) (D.shown c.unlock_area.new.dir) c.in-Ok.gate
    (c.lock_area.ensures.extends t) c.lock_area.ensures.same (c.stored-found.ensures.only.extends t) c.stored-found.ensures.only.same (c.unlock_area.ensures.extends t))
    (c.in-Ok.ensures.taken t s k (record { free = free; kind = refl })) (c.stored-found.ensures.only.extends t) conforming images (read t))
    (λ t. at_before (at_before (c.in-Ok.ensures.free t) c.lock_area.ensures.same (c.stored-found.ensures.only.extends t))
    (c.stored-found.ensures.only.same ∙ c.lock_area.ensures.same) (c.unlock_area.ensures.extends t))

pub returns-in-Err-clause-cause : goal.returns-in-Err-clause-cause
returns-in-Err-clause-cause g c is = c.lock_area.ensures.cause (c.in-Err.is ∙ ap Err (lock_cause c.in-Err.error c.lock_refusal.result c.lock_refusal.ensures cc))

pub returns-in-Err-clause-known : goal.returns-in-Err-clause-known
returns-in-Err-clause-known g c t s k free = c.in-Err.ensures.left t s k (record { free = free; kind = refl })

pub returns-in-Err-clause-extends : goal.returns-in-Err-clause-extends
returns-in-Err-clause-extends g c t = extends_wider takes_lists (c.lock_area.ensures.extends t)
