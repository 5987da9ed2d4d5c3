use Rattle.image_reading.proofs.Values.{key_in, no_text}
use Rattle.image_reading.proofs.value.id_in.Goals as goal

pub returns-in-Some : goal.returns-in-Some
returns-in-Some c = key_in c.args.key c.args.bytes.now c.in_ok-line.line.now c.in_ok-line.ensures c.in-Some.id c.in-Some.ensures.0 c.in-Some.ensures.1 c.with_key.result c.with_key.ensures

pub returns-in-None : goal.returns-in-None
returns-in-None c = no_text c.args.key c.args.bytes.now c.in_ok-line.line.now c.in_ok-line.ensures c.in-None.ensures
