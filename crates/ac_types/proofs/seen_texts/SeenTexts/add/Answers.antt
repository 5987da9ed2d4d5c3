use Rattle.std.proofs.Common.{◌∙◌, ap, true, List, ℕ}
use Rattle.std.specs.Prelude.{if◌then◌else◌}
use Rattle.std.specs.Str.{bytes_eq}
use Rattle.std.specs.BTreeSet.{contains_text}
use Rattle.std.specs.String.{string_bytes}
use Rattle.std.proofs.lemmas.Map.Text.{btree_set_updates_text}
use Rattle.ac_types.proofs.TextsSeen.{among_more}
use Rattle.ac_types.proofs.seen_texts.SeenTexts.add.Goals as goal

pub returns-clause-seen : goal.returns-clause-seen
returns-clause-seen c = λ texts seen query.
    btree_set_updates_text (string_bytes c.in_ok-key.key) c.args.self.now.texts c.insert.new.self true c.in_ok-insert.ensures.updates query
    ∙ ap (λ (t : List ℕ). if bytes_eq t query then true else contains_text c.args.self.now.texts query) c.in_ok-key.ensures.ok
    ∙ among_more c.args.text.now query texts (contains_text c.args.self.now.texts query) (seen query)
