use Rattle.std.proofs.Common.{◌++◌, subst}
use Rattle.lifecycle.proofs.Draws.{conforming_left}
use Rattle.pod_build.specs.LegalExecutions.{IsLegal}
use Rattle.headline.proofs.Standing.{legal_before, makers_are, pods_stand, apps_start}
use Rattle.headline.proofs.Reading.{pods_read}
use Rattle.headline.proofs.root_laws.roots.Goals as goal

pub returns-clause-begins : goal.returns-clause-begins
returns-clause-begins c legal before later is =
    let whole : IsLegal (before ++ later) = subst IsLegal is legal in
    legal_before before later (conforming_left before later whole.conforms) whole

pub returns-clause-stand : goal.returns-clause-stand
returns-clause-stand c = λ legal. pods_stand c.args.history.now.items legal

pub returns-clause-start : goal.returns-clause-start
returns-clause-start c = λ legal. apps_start c.args.history.now.items legal

pub returns-clause-makers : goal.returns-clause-makers
returns-clause-makers c = makers_are c.args.history.now.items

pub returns-clause-read : goal.returns-clause-read
returns-clause-read c = λ legal. pods_read c.args.history.now.items legal
