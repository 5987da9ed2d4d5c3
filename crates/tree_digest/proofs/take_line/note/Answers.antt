use Rattle.std.proofs.Common.{◌≡◌, ◌||◌, ◌&&◌, true, false, cond, Bool, string_bytes, sym, refl, ap, ◌∙◌, rules}
use Rattle.std.specs.Str.{bytes_eq}
use Rattle.std.specs.HashSet.{contains_text}
use Rattle.std.proofs.lemmas.Map.Text.{hash_set_updates_text}
use Rattle.path_map.specs.Entries.{is_directory}
use Rattle.tree_digest.proofs.take_line.note.Goals as goal

gains : (b o d : Bool) → d ≡ true → cond b true o ≡ (o || (b && d))
gains true true d e = refl
gains true false d e = sym e
gains false true d e = refl
gains false false d e = refl

pub returns : goal.returns
returns c = λ q.
    let path = string_bytes c.in_ok-path.path in
    let same : path ≡ c.args.line.now.path = search rules in
    let kind : is_directory c.args.line.now.entry ≡ true = search rules in
    hash_set_updates_text path c.args.directories.now c.insert.new.self true c.in_ok-insert.ensures.updates q
    ∙ ap (λ p. cond (bytes_eq p q) true (contains_text c.args.directories.now q)) same
    ∙ gains (bytes_eq c.args.line.now.path q) (contains_text c.args.directories.now q) (is_directory c.args.line.now.entry) kind
