use Rattle.std.proofs.Common.{◌∙◌, ap, List, ℕ}
use Rattle.serde_json.specs.View.{view, members_view}
use Rattle.serde_json.specs.Data.{put}
use Rattle.serde_json.proofs.Views.{members_view-insert_entry}
use Rattle.app_section.specs.Objects.{put_field}
use Rattle.app_section.proofs.object_builder.ObjectBuilder.json.Goals as goal

pub returns : goal.returns
unfolding put_field
returns c =
    ap members_view c.in_ok-insert.ensures.entries
    ∙ members_view-insert_entry c.args.self.members.entries c.in_ok-key.key c.args.value
    ∙ ap (λ (k : List ℕ). put k (view c.args.value) (members_view c.args.self.members.entries)) c.in_ok-key.ensures.ok
