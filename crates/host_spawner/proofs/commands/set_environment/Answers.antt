use Rattle.std.proofs.Common.{rules, ◌≡◌, Some, sym, ap, ◌∙◌}
use Rattle.std.specs.List.{slice_get}
use Rattle.host_spawner.specs.Programs.{with_text}
use Rattle.host_spawner.proofs.Texts.{said_more}
use Rattle.host_spawner.proofs.commands.set_environment.Goals as goal

pub variables-preserved : goal.variables-preserved
variables-preserved c =
    let at : slice_get c.args.env.now c.variables.place ≡ Some c.in-Some.text.now = search (rules, c.in-Some.ensures) in (
      λ name. c.in_ok-set_variable.ensures.set name ∙ ap (λ said. with_text name said c.in-Some.text.now) (c.variables.invariant.0 name) ∙ sym (said_more c.args.env.now c.variables.place c.in-Some.text.now name at),
      c.in_ok-set_variable.ensures.clears ∙ c.variables.invariant.1,
      (
        c.in_ok-set_variable.ensures.call.0 ∙ c.variables.invariant.2.0,
        c.in_ok-set_variable.ensures.call.1 ∙ c.variables.invariant.2.1,
      ),
    )
