use Rattle.gate_reading.proofs.ImageItems.{listings_tell}
use Rattle.gate_reading.proofs.laws.listings.Goals as goal

pub returns : goal.returns
returns c = λ conforming. listings_tell c.args.history.now.items conforming
