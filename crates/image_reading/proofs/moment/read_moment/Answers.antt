use Rattle.std.proofs.Common.{◌≡◌, [], inr, List, subst}
use Rattle.dir_model.specs.declared.item.Item.{Item}
use Rattle.image_reading.specs.Marks.{imported_moments, IsGreatest}
use Rattle.image_reading.proofs.Widths.{within_self}
use Rattle.image_reading.proofs.moment.read_moment.Goals as goal

pub returns-in-Some-clause-read : goal.returns-in-Some-clause-read
returns-in-Some-clause-read g c t =
    let e = rw c.in-Ok-Some.field-0-is at c.in-Ok-Some.ensures in
    record { items = c.in-Ok-Some.items; shown = within_self (e.shows t); holds = subst (λ (l : List Item). IsGreatest (imported_moments l) c.in-Some.moment) c.as_slice.ensures c.in-Some.ensures }

pub returns-in-Ok-Some-clause-damaged : goal.returns-in-Ok-Some-clause-damaged
returns-in-Ok-Some-clause-damaged g c damaged t =
    let e = rw c.in-Ok-Some.field-0-is at c.in-Ok-Some.ensures in
    inr (record { items = c.in-Ok-Some.items; shown = within_self (e.shows t); holds = subst (λ (l : List Item). imported_moments l ≡ []) c.as_slice.ensures c.in-None.ensures })
