use Rattle.image_reading.proofs.Asking.{image_more}
use Rattle.image_reading.proofs.Widths.{held_before}
use Rattle.image_reading.proofs.Images.{digest_lack_after, parts_after}
use Rattle.image_reading.proofs.digest.stored_digest.Goals as goal

pub returns-in-Ok-clause-only : goal.returns-in-Ok-clause-only
returns-in-Ok-clause-only g c = image_more c.args.key c.is_there.ensures.only c.digest_of.ensures.only

pub returns-in-Err-clause-only : goal.returns-in-Err-clause-only
returns-in-Err-clause-only g c = image_more c.args.key c.is_there.ensures.only c.digest_of.ensures.only

pub returns-in-Ok-clause-there : goal.returns-in-Ok-clause-there
returns-in-Ok-clause-there g c t =
    let e = rw c.if-not-branch.false at c.in_ok-is_there.ensures in
    record { there = held_before t (g.D.Dir.shown c.args.dir.now) c.is_there.ensures.only.same (e.there t) c.digest_of.ensures.only; parts = parts_after t c.is_there.ensures.only (c.in-Ok.ensures.read t) }

pub returns-in-Err-clause-damaged : goal.returns-in-Err-clause-damaged
returns-in-Err-clause-damaged g c t damaged =
    let e = rw c.if-not-branch.false at c.in_ok-is_there.ensures in
    (held_before t (g.D.Dir.shown c.args.dir.now) c.is_there.ensures.only.same (e.there t) c.digest_of.ensures.only, digest_lack_after t c.args.key c.in-Err.error (g.D.Dir.shown c.digest_of.new.dir) c.is_there.ensures.only (c.in-Err.ensures.damaged t))
