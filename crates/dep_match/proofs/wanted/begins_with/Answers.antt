use Rattle.std.proofs.Common.{ap, ◌∙◌, take}
use Rattle.std.specs.Str.{bytes_eq}
use Rattle.dep_match.specs.Selection.{digits_of}
use Rattle.dep_match.proofs.wanted.begins_with.Goals as goal

pub returns : goal.returns
unfolding digits_of
returns c = c.have_one_front.ensures ∙ ap (λ t. bytes_eq (take c.args.len t) (take c.args.len c.args.digits.now)) c.lower_hex.ensures
