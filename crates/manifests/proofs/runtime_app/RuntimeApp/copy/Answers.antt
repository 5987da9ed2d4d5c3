use Rattle.std.proofs.Common.{refl}
use Rattle.manifests.proofs.SameData.{same_app}
use Rattle.manifests.proofs.runtime_app.RuntimeApp.copy.Goals as goal

pub returns : goal.returns
returns c =
    same_app c.in_ok-copy.ensures c.in_ok-copy-4.ensures c.in_ok-copy-5.ensures refl
    c.in_ok-copy-2.ensures c.in_ok-copy-3.ensures
