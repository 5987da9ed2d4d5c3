use Rattle.std.proofs.Common.{List, ℕ, Some, bytes_eq, cond, ap, ◌∙◌}
use Rattle.std.proofs.lemmas.Map.Text.{btree_map_updates_text}
use Rattle.std.specs.BTreeMap.{get_by_text}
use Rattle.std.specs.String.{string_bytes}
use Rattle.launch.proofs.last_values.LastValues.put.Goals as goal

pub returns : goal.returns
returns c name =
    let before = get_by_text c.args.self.now.values name in
    btree_map_updates_text (string_bytes c.in_ok-name.name) c.args.self.now.values c.insert.new.self (Some c.in_ok-value.value) c.in_ok-insert.ensures.updates name
    ∙ (ap (λ (bs : List ℕ). cond (bytes_eq bs name) (Some c.in_ok-value.value) before) (c.in_ok-name.ensures.ok ∙ c.as_str.ensures)
    ∙ ap (λ (v : List ℕ). cond (bytes_eq c.args.variable.now.name name) (Some v) before) c.in_ok-value.ensures)
