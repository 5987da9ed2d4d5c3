use Rattle.std.proofs.Common.{◌≡◌, ◌∙◌, List, length, ap, sym, subst}
use Rattle.manifests.specs.declared.runtime_app.RuntimeApp.{RuntimeApp}
use Rattle.metadata_reply.proofs.Manifests.{whole_when_read, AllRead}
use Rattle.metadata_reply.proofs.view.PodView.is_whole.Goals as goal

pub returns-clause-whole : goal.returns-clause-whole
returns-clause-whole c =
    let v = c.args.self.now in
    let paired : length c.as_slice-images.result.now ≡ length v.manifest.apps = search (c.if-images-as_slice.false) ∙ ap (λ (xs : List RuntimeApp). length xs) c.as_slice.ensures in
    whole_when_read c.all_have_readings.result v c.as_slice-images.result.now c.as_slice-images.ensures paired c.all_have_readings.ensures.read

pub returns-clause-lacking : goal.returns-clause-lacking
returns-clause-lacking c is whole = c.all_have_readings.ensures.unread is (subst AllRead (sym c.as_slice-images.ensures) whole.readable)
