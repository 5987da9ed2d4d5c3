use Rattle.std.proofs.Common.{arith, ◌≡◌, ◌==◌, false, ℕ}
use Rattle.std.proofs.lemmas.Bool.Decides.{nat_tests}
use Rattle.dir_memory.proofs.Own.{taken}
use Rattle.dir_memory.proofs.step.take_step.Goals as goal

apart : (a b : ℕ) → (a ≡ b → ⊥) → (a == b) ≡ false
apart a b h = grind (arith, nat_tests)

pub returns-clause-interlude : goal.returns-clause-interlude
returns-clause-interlude c = taken c.take_step.result c.args.me c.args.past.now.items c.take_step.new.self.items c.args.step.now (apart _ _ c.if-step-me.false) c.take_step.ensures.ok c.take_step.ensures.err
