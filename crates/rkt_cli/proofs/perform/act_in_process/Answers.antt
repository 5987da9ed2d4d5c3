use Rattle.std.proofs.Common.{◌∙◌}
use Rattle.dir_trait.specs.Knowledge.{Knows}
use Rattle.command_outcomes.specs.Conforming.{seen_at_begin}
use Rattle.rkt_cli.specs.Tasks.{task_of, pod_word_of}
use Rattle.rkt_cli.proofs.Acting.{acted_knows, acted_never, acted_vain, acted_whole, looked_by, same_intent, same_uses}
use Rattle.rkt_cli.proofs.Linked.{links_never, links_vain, links_whole, vain_link}
use Rattle.rkt_cli.proofs.Makers.{process_hands, vain_hands, never_begun_hands}
use Rattle.rkt_cli.proofs.RunsRan.{begun_as}
use Rattle.rkt_cli.proofs.perform.act_in_process.Goals as goal

pub act-answer-requires-clause-known : goal.act-answer-requires-clause-known
act-answer-requires-clause-known g c t intent said =
    let D = g.D.Dir in
    let line = c.args.line.now in
    let pod = c.in-Ok-its_pod.pod in
    let k = acted_knows D.observed line c.args.now c.args.draw.now c.args.intent (D.shown c.args.dir.now) (D.shown c.begin.new.self) c.requires.said c.requires.fresh c.in-Ok.ensures.called (D.shown c.its_pod.new.dir) c.its_pod.ensures.comes t in
    let known : Knows (D.shown c.its_pod.new.dir) (seen_at_begin c.args.intent) = record { tied = k.tied; handles = k.handles } in
    begun_as (task_of line pod) c.args.now c.args.draw.now c.args.intent intent (same_intent line pod c.args.now c.args.draw.now ∙ c.requires.said) said known

pub returns-in-Ok-its_pod-clause-makers : goal.returns-in-Ok-its_pod-clause-makers
returns-in-Ok-its_pod-clause-makers g c t =
    let D = g.D.Dir in
    let line = c.args.line.now in
    let pod = c.in-Ok-its_pod.pod in
    let k = acted_knows D.observed line c.args.now c.args.draw.now c.args.intent (D.shown c.args.dir.now) (D.shown c.begin.new.self) c.requires.said c.requires.fresh c.in-Ok.ensures.called (D.shown c.its_pod.new.dir) c.its_pod.ensures.comes t in
    let known : Knows (D.shown c.its_pod.new.dir) (seen_at_begin c.args.intent) = record { tied = k.tied; handles = k.handles } in
    process_hands (D.shown c.args.dir.now) (D.shown c.begin.new.self) (D.shown c.its_pod.new.dir) (D.shown c.act-answer.new.dir) (D.shown c.finish.new.self) t c.in-Ok.ensures.called c.its_pod.ensures.comes.same
    (looked_by D.observed (pod_word_of line) (D.shown c.begin.new.self) (D.shown c.its_pod.new.dir) c.its_pod.ensures.comes t) c.act-answer.ensures.ran.same (c.act-answer.ensures.ran.extends t)
    (c.act-answer.ensures.makers t (same_uses line pod ∙ c.requires.uses) c.args.intent (same_intent line pod c.args.now c.args.draw.now ∙ c.requires.said) known) c.finish.ensures.called

pub returns-in-Ok-its_pod-clause-acts : goal.returns-in-Ok-its_pod-clause-acts
returns-in-Ok-its_pod-clause-acts g c =
    let D = g.D.Dir in
    acted_whole D.observed c.args.line.now c.args.now c.args.draw.now c.args.intent (D.shown c.args.dir.now) (D.shown c.begin.new.self) c.requires.said c.requires.fresh c.in-Ok.ensures.called (D.shown c.its_pod.new.dir) c.its_pod.ensures.comes
    c.in-Ok-its_pod.pod c.in-Ok-its_pod.ensures.finds (D.shown c.act-answer.new.dir) (D.shown c.finish.new.self) _ _ _ _ c.act-answer.result c.requires.uses c.act-answer.ensures.ran c.act-answer.ensures.keeps c.act-answer.ensures.apps_told
    c.act-answer.ensures.spawn_cause c.finish.ensures.called c.finish.ensures.faultless

pub returns-in-Err-its_pod-clause-makers : goal.returns-in-Err-its_pod-clause-makers
returns-in-Err-its_pod-clause-makers g c t =
    let D = g.D.Dir in
    vain_hands (D.shown c.args.dir.now) (D.shown c.begin.new.self) (D.shown c.its_pod.new.dir) (D.shown c.finish-in-Err-its_pod.new.self) t c.in-Ok.ensures.called c.its_pod.ensures.comes.same
    (looked_by D.observed (pod_word_of c.args.line.now) (D.shown c.begin.new.self) (D.shown c.its_pod.new.dir) c.its_pod.ensures.comes t) c.finish-in-Err-its_pod.ensures.called

pub returns-in-Err-its_pod-clause-acts : goal.returns-in-Err-its_pod-clause-acts
returns-in-Err-its_pod-clause-acts g c =
    let D = g.D.Dir in
    acted_vain D.observed c.args.line.now c.args.now c.args.draw.now c.args.intent (D.shown c.args.dir.now) (D.shown c.begin.new.self) c.requires.said c.requires.fresh c.in-Ok.ensures.called (D.shown c.its_pod.new.dir) c.its_pod.ensures.comes
    c.in-Err-its_pod.refusal (D.shown c.finish-in-Err-its_pod.new.self) _ _ c.in-Err-its_pod.ensures.finds c.finish-in-Err-its_pod.ensures.called c.finish-in-Err-its_pod.ensures.faultless

pub returns-in-Err-clause-makers : goal.returns-in-Err-clause-makers
returns-in-Err-clause-makers g c t run = never_begun_hands (c.in-Err.ensures.called.step t)

pub returns-in-Err-clause-acts : goal.returns-in-Err-clause-acts
returns-in-Err-clause-acts g c = acted_never _ c.args.line.now c.args.now c.args.draw.now c.args.intent _ _ c.requires.said _ _ _ c.in-Err.ensures.refusals c.in-Err.ensures.called

pub returns-in-Ok-its_pod-clause-serves : goal.returns-in-Ok-its_pod-clause-serves
returns-in-Ok-its_pod-clause-serves g c l d none =
    let D = g.D.Dir in
    links_whole D.observed c.args.line.now c.args.now c.args.draw.now c.args.intent (D.shown c.args.dir.now) (D.shown c.begin.new.self) (D.shown c.its_pod.new.dir) c.requires.said c.in-Ok.ensures.called c.its_pod.ensures.comes d
    (D.shown c.act-answer.new.dir) (D.shown c.finish.new.self) c.act-answer.result _ _ c.act-answer.ensures.ran.same c.finish.ensures.called (c.act-answer.ensures.serves l d none)

pub returns-in-Err-its_pod-clause-serves : goal.returns-in-Err-its_pod-clause-serves
returns-in-Err-its_pod-clause-serves g c l d none = links_vain g.D.Dir.observed c.args.line.now c.args.now c.args.draw.now c.in-Err-its_pod.refusal _ _ _ _ _ c.in-Err-its_pod.ensures.finds

pub returns-in-Err-its_pod-clause-link_cause : goal.returns-in-Err-its_pod-clause-link_cause
returns-in-Err-its_pod-clause-link_cause g c is = vain_link g.D.Dir.observed (pod_word_of c.args.line.now) c.args.draw.now _ _ c.in-Err-its_pod.refusal c.in-Err-its_pod.ensures.finds is

pub returns-in-Err-clause-serves : goal.returns-in-Err-clause-serves
returns-in-Err-clause-serves g c l d none = links_never c.args.line.now c.args.now c.args.draw.now _ _ _
