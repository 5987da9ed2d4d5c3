use Rattle.ac_types.proofs.IdTexts.{read_text, no_text, read_are}
use Rattle.ac_types.proofs.image_id.ImageId.parse.Goals as goal

pub returns-then-not-read_id-clause-refused : goal.returns-then-not-read_id-clause-refused
returns-then-not-read_id-clause-refused c = no_text 64 c.args.text.now c.if-not-read_id.ensures

pub returns-clause-text : goal.returns-clause-text
returns-clause-text c = read_text 64 c.args.text.now c.read_id.new.room c.if-not-read_id.ensures

pub returns-clause-kind : goal.returns-clause-kind
returns-clause-kind c = read_are 64 c.args.text.now c.read_id.new.room c.if-not-read_id.ensures
