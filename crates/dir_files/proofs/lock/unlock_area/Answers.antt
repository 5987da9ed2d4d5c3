use Rattle.std.proofs.Common.{refl, subst}
use Rattle.dir_model.proofs.Lists.{same_self}
use Rattle.dir_model.proofs.Chains.{nothing_yet, and_call}
use Rattle.dir_rules.specs.declared.seen.Seen.{Seen}
use Rattle.dir_trait.specs.Knowledge.{Knows}
use Rattle.dir_trait.proofs.Knowing.{knows_call}
use Rattle.dir_files.proofs.Gates.{share_given, exclusion_given}
use Rattle.dir_files.proofs.lock.unlock_area.Goals as goal

pub returns-clause-extends : goal.returns-clause-extends
returns-clause-extends g c t = and_call nothing_yet refl (same_self c.args.handle.number) (c.close.ensures.called.step t)

pub returns-clause-gives : goal.returns-clause-gives
returns-clause-gives g c t s k = knows_call t k refl refl c.close.ensures.called

pub returns-clause-given : goal.returns-clause-given
returns-clause-given g c t s area apart fresh k = subst (λ (z : Seen). Knows (g.D.Dir.shown c.close.new.self) z)
    (share_given s c.args.handle area fresh apart) (knows_call t k refl refl c.close.ensures.called)

pub returns-clause-given_exclusive : goal.returns-clause-given_exclusive
returns-clause-given_exclusive g c t s area fresh k = subst (λ (z : Seen). Knows (g.D.Dir.shown c.close.new.self) z)
    (exclusion_given s c.args.handle area fresh) (knows_call t k refl refl c.close.ensures.called)
