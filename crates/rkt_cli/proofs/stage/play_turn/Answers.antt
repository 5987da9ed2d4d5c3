use Rattle.rkt_cli.proofs.Played.{fresh_again, went_on}
use Rattle.rkt_cli.proofs.stage.play_turn.Goals as goal

pub returns-in-Ok-clause-fresh : goal.returns-in-Ok-clause-fresh
returns-in-Ok-clause-fresh c = fresh_again c.in-Ok.told (record c.args.stage { dir = c.perform.new.dir }) c.after.result c.after.ensures

pub returns-in-Ok-clause-went : goal.returns-in-Ok-clause-went
returns-in-Ok-clause-went c =
    went_on c.in-Ok.told c.args.turn c.args.stage c.perform.new.dir c.perform.new.bundle c.perform.new.spawner c.after.result
    c.in-Ok.ensures.acts
    c.after.ensures
