use Rattle.std.proofs.Common.{◌≡◌, ◌+◌, ◌<◌, ℕ, length, refl, subst, slice_get, remove, Some}
use Rattle.std.specs.List.{position_or_len}
use Rattle.std.proofs.lemmas.Option.{slice_get_read}
use Rattle.dir_memory.specs.Schedules.{is_due}
use Rattle.dir_memory.proofs.Schedules.{takes_first}
use Rattle.dir_memory.proofs.step.first_step.Goals as goal

pub returns-clause-ok : goal.returns-clause-ok
returns-clause-ok c =
    let pending = c.args.pending.now.items in
    let place : c.first_due-place.result ≡ position_or_len (is_due (c.args.calls + 1) c.args.listing) pending = rw c.deref.ensures.value at c.first_due-place.ensures.place in
    let within : c.first_due-place.result < length pending = rw c.deref.ensures.value at c.first_due-place.ensures.within in
    let read : slice_get pending c.first_due-place.result ≡ Some c.index.result.now = slice_get_read pending (length pending) c.first_due-place.result c.index.result.now refl within c.index.ensures in
    takes_first c.args.me (c.args.calls + 1) c.args.listing c.args.past.now.items c.take_step.new.past.items pending c.remove-taken.new.self.items c.index.result.now c.requires
    (subst (λ (k : ℕ). slice_get pending k ≡ Some c.index.result.now) place read)
    (subst (λ (k : ℕ). c.remove-taken.new.self.items ≡ remove pending k) place c.remove-taken.ensures.items)
    c.in_ok-take_step.ensures.ok
