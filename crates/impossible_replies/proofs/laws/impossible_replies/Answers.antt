use Rattle.impossible_replies.proofs.Impossible.{none_impossible, foreign_are_apps}
use Rattle.impossible_replies.proofs.laws.impossible_replies.Goals as goal

pub returns-clause-none : goal.returns-clause-none
returns-clause-none c = λ conforming. none_impossible c.args.history.now.items conforming

pub returns-clause-apps : goal.returns-clause-apps
returns-clause-apps c = λ conforming. foreign_are_apps c.args.history.now.items conforming
