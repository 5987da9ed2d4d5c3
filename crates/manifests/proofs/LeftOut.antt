-- A field that is left out.
use Rattle.std.proofs.Common.{◌≡◌, ℕ, List, None, refl}
use Rattle.serde_json.specs.Data.{Members}
use Rattle.app_section.specs.Objects.{put_field}

pub left_out : (name : List ℕ) (ms : Members) → ms ≡ put_field name None ms
unfolding put_field
left_out name ms = refl
