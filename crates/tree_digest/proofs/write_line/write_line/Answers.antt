use Rattle.std.proofs.Common.{◌≡◌, ◌++◌, ◌∷◌, [], ap, ◌∙◌, rules, append_assoc}
use Rattle.tree_digest.specs.Fields.{escaped}
use Rattle.tree_digest.specs.Lines.{entry_text, line_text}
use Rattle.tree_digest.proofs.LineTexts.{entry_text_then}
use Rattle.tree_digest.proofs.write_line.write_line.Goals as goal

pub returns : goal.returns
unfolding line_text
returns c =
    let out = c.args.out.now.items in
    let line = c.args.line.now in
    let path : c.write_escaped.new.out.items ≡ c.write_entry.new.out.items ++ escaped line.path = search rules in
    let entry : c.write_entry.new.out.items ≡ out ++ entry_text line.entry [] = search rules in
    let end : c.push.new.self.items ≡ c.write_escaped.new.out.items ++ 10 ∷ [] = search rules in
    end
    ∙ ap (λ t. t ++ 10 ∷ []) (path ∙ ap (λ t. t ++ escaped line.path) entry ∙ append_assoc out (entry_text line.entry []) (escaped line.path) ∙ ap (λ t. out ++ t) (entry_text_then line.entry (escaped line.path)))
    ∙ append_assoc out (entry_text line.entry (escaped line.path)) (10 ∷ [])
