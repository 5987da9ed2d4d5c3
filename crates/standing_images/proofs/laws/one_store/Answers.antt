use Rattle.dir_model.specs.Trace.{state_after}
use Rattle.standing_images.proofs.OneStore.{one_store}
use Rattle.standing_images.proofs.laws.one_store.Goals as goal

pub returns : goal.returns
returns c = λ xs ys x y. one_store (state_after c.args.history.now.items) xs ys x y
