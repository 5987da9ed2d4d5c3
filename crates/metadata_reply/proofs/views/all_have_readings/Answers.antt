use Rattle.std.proofs.Common.{ap, subst, Ok}
use Rattle.std.proofs.lemmas.List.{take_all}
use Rattle.metadata_reply.specs.Views.{HasReading}
use Rattle.metadata_reply.proofs.Manifests.{one_more, one_of_all, AllRead}
use Rattle.metadata_reply.proofs.views.all_have_readings.Goals as goal

pub images-preserved : goal.images-preserved
images-preserved c =
    let read : HasReading c.image-item.result.bytes = rw c.as_slice.ensures at (c.in_ok-has_reading.ensures.read c.if-not-branch.false) in
    one_more c.args.images.now c.images.image-index c.image-item.result c.images-test.true c.image-item.is c.images.invariant read

pub returns-clause-read : goal.returns-clause-read
returns-clause-read c = λ yes. subst AllRead (take_all c.images.image-index c.args.images.now c.images-test.false) c.images.invariant

pub returns-then-not-branch-clause-unread : goal.returns-then-not-branch-clause-unread
returns-then-not-branch-clause-unread c is all =
    c.in_ok-has_reading.ensures.unread (ap Ok c.if-not-branch.true)
    (rw (← c.as_slice.ensures) at (one_of_all c.args.images.now c.images.image-index c.image-item.result c.images-test.true c.image-item.is all))
