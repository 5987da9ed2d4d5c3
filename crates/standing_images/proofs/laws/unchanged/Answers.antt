use Rattle.standing_images.proofs.Before.{store_before}
use Rattle.standing_images.proofs.Damages.{damage_before}
use Rattle.standing_images.proofs.laws.unchanged.Goals as goal

pub returns-clause-store : goal.returns-clause-store
returns-clause-store c = λ old new images same stay read. store_before old new stay images read

pub returns-clause-damage : goal.returns-clause-damage
returns-clause-damage c = λ old new path same stay lacks. damage_before old new stay path lacks
