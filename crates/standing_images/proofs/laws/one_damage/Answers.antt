use Rattle.dir_model.specs.Trace.{state_after}
use Rattle.standing_images.proofs.OneDamage.{one_damage, not_whole}
use Rattle.standing_images.proofs.laws.one_damage.Goals as goal

pub returns-clause-one : goal.returns-clause-one
returns-clause-one c = λ p q x y. one_damage (state_after c.args.history.now.items) p q x y

pub returns-clause-none : goal.returns-clause-none
returns-clause-none c = λ path images x are. not_whole (state_after c.args.history.now.items) path images x are
