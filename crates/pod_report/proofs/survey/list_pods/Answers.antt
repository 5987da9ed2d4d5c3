use Rattle.std.proofs.Common.{◌≡◌, ℕ, true, List, subst}
use Rattle.plain_laws.proofs.Results.{if_ok}
use Rattle.dir_model.specs.declared.pod.PodId.{PodId}
use Rattle.lifecycle.specs.Executions.{IsConforming}
use Rattle.pod_report.specs.Before.{ListsPodsQuietly}
use Rattle.pod_report.specs.SeenLines.{LinesSeen, LinesSeenBetween, ListsSeenBetween}
use Rattle.pod_report.specs.Snapshot.{TellsPods, IsSnapshotBetween, LinesStanding}
use Rattle.pod_report.proofs.Asking.{asks_more, asks_looks}
use Rattle.pod_report.proofs.Going.{lists_survey}
use Rattle.pod_report.proofs.Listing.{list_tells}
use Rattle.pod_report.proofs.survey.list_pods.Goals as goal

pub returns-in-Ok-clause-only : goal.returns-in-Ok-clause-only
returns-in-Ok-clause-only g c = asks_more (asks_looks lists_survey c.listed_pods.ensures.only) c.lines_of.ensures.only

pub returns-in-Err-clause-only : goal.returns-in-Err-clause-only
returns-in-Err-clause-only g c = asks_looks lists_survey c.listed_pods.ensures.only

pub returns-in-Ok-clause-snapshot : goal.returns-in-Ok-clause-snapshot
returns-in-Ok-clause-snapshot g c =
    let D = g.D.Dir in
    let old = D.shown c.args.dir.now in
    let mid = D.shown c.listed_pods.new.dir in
    let new = D.shown c.lines_of.new.dir in
    if_ok (λ lines. D.observed ≡ true → IsConforming new.trace → TellsPods c.deref.result.now lines.items mid new) (λ lines. D.observed ≡ true → IsConforming new.trace → IsSnapshotBetween old new lines.items) c.lines_of.result
    (λ lines tells t conforming. (list_tells c.in-Ok.pods.items c.deref.result.now lines.items old mid new t (asks_looks lists_survey c.listed_pods.ensures.only) c.lines_of.ensures.only conforming c.in-Ok.ensures.rise (c.in-Ok.ensures.gone t) (c.in-Ok.ensures.standing t) c.deref.ensures.value (tells t conforming)).snapshot)
    c.lines_of.ensures.answer_holds

pub returns-in-Ok-clause-standing : goal.returns-in-Ok-clause-standing
returns-in-Ok-clause-standing g c =
    let D = g.D.Dir in
    let old = D.shown c.args.dir.now in
    let mid = D.shown c.listed_pods.new.dir in
    let new = D.shown c.lines_of.new.dir in
    if_ok (λ lines. D.observed ≡ true → IsConforming new.trace → TellsPods c.deref.result.now lines.items mid new) (λ lines. D.observed ≡ true → IsConforming new.trace → LinesStanding old new lines.items) c.lines_of.result
    (λ lines tells t conforming. (list_tells c.in-Ok.pods.items c.deref.result.now lines.items old mid new t (asks_looks lists_survey c.listed_pods.ensures.only) c.lines_of.ensures.only conforming c.in-Ok.ensures.rise (c.in-Ok.ensures.gone t) (c.in-Ok.ensures.standing t) c.deref.ensures.value (tells t conforming)).standing)
    c.lines_of.ensures.answer_holds

pub returns-in-Ok-clause-quiet : goal.returns-in-Ok-clause-quiet
returns-in-Ok-clause-quiet g c =
    let D = g.D.Dir in
    let old = D.shown c.args.dir.now in
    let mid = D.shown c.listed_pods.new.dir in
    let new = D.shown c.lines_of.new.dir in
    if_ok (λ lines. D.observed ≡ true → IsConforming new.trace → TellsPods c.deref.result.now lines.items mid new) (λ lines. D.observed ≡ true → IsConforming new.trace → ListsPodsQuietly old new lines.items) c.lines_of.result
    (λ lines tells t conforming. (list_tells c.in-Ok.pods.items c.deref.result.now lines.items old mid new t (asks_looks lists_survey c.listed_pods.ensures.only) c.lines_of.ensures.only conforming c.in-Ok.ensures.rise (c.in-Ok.ensures.gone t) (c.in-Ok.ensures.standing t) c.deref.ensures.value (tells t conforming)).quiet)
    c.lines_of.ensures.answer_holds

pub returns-in-Ok-clause-seen : goal.returns-in-Ok-clause-seen
returns-in-Ok-clause-seen g c =
    let D = g.D.Dir in
    let old = D.shown c.args.dir.now in
    let mid = D.shown c.listed_pods.new.dir in
    let new = D.shown c.lines_of.new.dir in
    if_ok (λ lines. D.observed ≡ true → LinesSeenBetween c.deref.result.now lines.items mid new) (λ lines. D.observed ≡ true → ListsSeenBetween lines.items old new) c.lines_of.result
    (λ lines seen t. record {
      listed = mid.trace;
      pods = c.in-Ok.pods.items;
      finds = c.in-Ok.ensures.found t;
      seen = subst (λ (me : ℕ). LinesSeen c.in-Ok.pods.items lines.items me mid.trace new.trace) c.listed_pods.ensures.only.same
          (subst (λ (l : List PodId). LinesSeen l lines.items mid.process mid.trace new.trace) c.deref.ensures.value (seen t));
    })
    c.lines_of.ensures.seen
