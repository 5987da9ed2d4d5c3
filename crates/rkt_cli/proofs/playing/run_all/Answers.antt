use Rattle.std.proofs.Common.{◌≡◌, Bool, if◌then◌else◌, List, [], ◌∷◌, ◌++◌, sym, ap, subst, ◌∙◌}
use Rattle.dir_trait.specs.Local.{nothing_local}
use Rattle.rkt_cli.specs.declared.stage.Stage.{Stage}
use Rattle.rkt_cli.specs.declared.turn.Turn.{Turn}
use Rattle.rkt_cli.specs.Plays.{TurnWasPlayed}
use Rattle.rkt_cli.specs.Turns.{run_turn, runs_of}
use Rattle.rkt_cli.proofs.Played.{plays_next, plays_one}
use Rattle.rkt_cli.proofs.playing.run_all.Goals as goal
use Rattle.rkt_cli.proofs.playing.run_all.Goals.{then-is_run+in_ok-turn+in_ok-current, else-is_run}

pub pods-preserved : goal.pods-preserved
pods-preserved c =
    let n = c.pods.pod in
    let own = run_turn c.args.count n in
    elim c.if-is_run.branch [
      | then-is_run+in_ok-turn+in_ok-current w ↦
          let turn = w.in_ok-turn.turn in
          let came = w.in_ok-current.current in
          let chosen = ap (λ (b : Bool). if b then own ∷ [] else []) (sym c.is_run.ensures ∙ w.if-is_run.true) in
          record {
            fresh = subst (λ (s : Stage). s.dir.local ≡ nothing_local) (sym w.current-is) w.in_ok-current.ensures.fresh;
            plays = plays_next (runs_of c.args.count) n (turn ∷ []) c.args.stage c.pods.current c.if-is_run.current
                (ap (λ (l : List Turn). runs_of c.args.count n ++ l) (chosen ∙ ap (λ (t : Turn). t ∷ []) (sym w.in_ok-turn.ensures))) c.pods.invariant.plays
                (plays_one turn c.pods.current c.if-is_run.current (subst (λ (s : Stage). TurnWasPlayed turn c.pods.current s) (sym w.current-is) w.in_ok-current.ensures.went));
          }
      | else-is_run w ↦
          let chosen = ap (λ (b : Bool). if b then own ∷ [] else []) (sym c.is_run.ensures ∙ w.if-is_run.false) in
          record {
            fresh = subst (λ (s : Stage). s.dir.local ≡ nothing_local) (sym w.current-is) c.pods.invariant.fresh;
            plays = plays_next (runs_of c.args.count) n [] c.args.stage c.pods.current c.if-is_run.current (ap (λ (l : List Turn). runs_of c.args.count n ++ l) chosen) c.pods.invariant.plays w.current-is;
          }
    ]
