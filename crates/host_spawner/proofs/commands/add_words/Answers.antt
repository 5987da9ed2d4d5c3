use Rattle.std.proofs.Common.{rules, ◌≡◌, ◌+◌, ◌++◌, Some, drop, ap, ◌∙◌}
use Rattle.std.specs.List.{slice_get}
use Rattle.std.specs.Process.{command_args}
use Rattle.host_spawner.proofs.Texts.{one_more}
use Rattle.host_spawner.proofs.commands.add_words.Goals as goal

pub words-preserved : goal.words-preserved
words-preserved c =
    let at : slice_get c.args.argv.now c.words.place ≡ Some c.in-Some.word.now = search (rules, c.in-Some.ensures) in (
      ap (λ args. args ++ drop (c.words.place + 1) c.args.argv.now) c.in_ok-add_word.ensures.args ∙ one_more (command_args c.words.command) c.args.argv.now c.words.place c.in-Some.word.now at ∙ c.words.invariant.0,
      c.in_ok-add_word.ensures.program ∙ c.words.invariant.1,
    )
