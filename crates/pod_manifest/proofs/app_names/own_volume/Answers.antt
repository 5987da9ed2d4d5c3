use Rattle.std.proofs.Common.{◌≡◌, List, ℕ, ◌∷◌, ◌++◌, ap, ◌∙◌, string_bytes}
use Rattle.ac_types.specs.Names.{are_words, is_hyphen}
use Rattle.pod_manifest.proofs.Names.{together}
use Rattle.pod_manifest.proofs.Words.{joined_words}
use Rattle.pod_manifest.proofs.app_names.own_volume.Goals as goal

pub shortened-requires : goal.shortened-requires
shortened-requires c =
    let second = string_bytes c.push_str.new.self in
    let text : c.as_str-3.result.now ≡ c.args.app.now ++ 45 ∷ c.args.point.now =
    c.as_str-3.ensures.value
    ∙ together c.args.app.now c.args.point.now (string_bytes c.in_ok-words.words) second (string_bytes c.push_str-2.new.self)
    (c.in_ok-words.ensures.ok ∙ c.as_str.ensures.text) c.in_ok-push_str.ensures.bytes
    (c.in_ok-push_str-2.ensures.bytes ∙ ap (λ (t : List ℕ). second ++ t) c.as_str-2.ensures.text) in
    ap (are_words is_hyphen) text ∙ joined_words c.args.app.now c.args.point.now c.as_str.ensures.kind.0 c.as_str-2.ensures.kind.0
