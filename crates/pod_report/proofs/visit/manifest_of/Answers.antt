use Rattle.std.proofs.Common.{Option, subst}
use Rattle.dir_model.proofs.Chains.{extends_wider}
use Rattle.manifests.specs.declared.pod_manifest.PodManifest.{PodManifest}
use Rattle.manifests.specs.PodData.{pod_data}
use Rattle.pod_report.specs.SeenManifests.{IsVisited}
use Rattle.pod_report.specs.Visits.{ToldManifest}
use Rattle.pod_report.proofs.Going.{visits_survey}
use Rattle.pod_report.proofs.QuietSurvey.{survey_calm}
use Rattle.pod_report.proofs.QuietLines.{manifest_before, lack_before, nowhere_before}
use Rattle.pod_report.proofs.visit.manifest_of.Goals as goal

pub returns-in-Some-clause-quiet : goal.returns-in-Some-clause-quiet
returns-in-Some-clause-quiet g c t conforming quiet idle =
    let D = g.D.Dir in
    let old = D.shown c.args.dir.now in
    let new = D.shown c.visit_pod.new.dir in
    let e = rw c.in-Ok-Some.field-0-is at c.in-Ok-Some.ensures in
    let told = e.answer_holds t conforming in
    rw (c.in-Some.manifest-is) (manifest_before conforming (extends_wider (λ r h. survey_calm r (visits_survey c.args.pod r h)) (c.visit_pod.ensures.only.extends t)) quiet idle c.args.pod (pod_data c.in-Some.manifest) (subst (λ (m : Option PodManifest). ToldManifest c.args.pod m old.process old.trace new.trace) c.in-Some.is told.manifest))

pub returns-in-None-clause-quiet : goal.returns-in-None-clause-quiet
returns-in-None-clause-quiet g c t conforming quiet idle =
    let D = g.D.Dir in
    let old = D.shown c.args.dir.now in
    let new = D.shown c.visit_pod.new.dir in
    let e = rw c.in-Ok-Some.field-0-is at c.in-Ok-Some.ensures in
    let told = e.answer_holds t conforming in
    lack_before conforming (extends_wider (λ r h. survey_calm r (visits_survey c.args.pod r h)) (c.visit_pod.ensures.only.extends t)) quiet idle c.args.pod (subst (λ (m : Option PodManifest). ToldManifest c.args.pod m old.process old.trace new.trace) c.in-None.is told.manifest)

pub returns-in-Ok-None-clause-quiet : goal.returns-in-Ok-None-clause-quiet
returns-in-Ok-None-clause-quiet g c t conforming quiet idle =
    let e = rw c.in-Ok-None.field-0-is at c.in-Ok-None.ensures in
    nowhere_before conforming (extends_wider (λ r h. survey_calm r (visits_survey c.args.pod r h)) (c.visit_pod.ensures.only.extends t)) quiet idle c.args.pod (e.answer_holds t conforming)

pub returns-in-Some-clause-seen : goal.returns-in-Some-clause-seen
returns-in-Some-clause-seen g c t =
    let D = g.D.Dir in
    let old = D.shown c.args.dir.now in
    let new = D.shown c.visit_pod.new.dir in
    let e = rw c.in-Ok-Some.field-0-is at c.in-Ok-Some.ensures in
    let phase = c.in-Ok-Some.visit.phase in
    rw (c.in-Some.manifest-is) (phase, subst (λ (m : Option PodManifest). IsVisited c.args.pod phase m old.process old.trace new.trace) c.in-Some.is (e.seen t))

pub returns-in-None-clause-seen : goal.returns-in-None-clause-seen
returns-in-None-clause-seen g c t =
    let D = g.D.Dir in
    let old = D.shown c.args.dir.now in
    let new = D.shown c.visit_pod.new.dir in
    let e = rw c.in-Ok-Some.field-0-is at c.in-Ok-Some.ensures in
    let phase = c.in-Ok-Some.visit.phase in (
      phase,
      subst (λ (m : Option PodManifest). IsVisited c.args.pod phase m old.process old.trace new.trace) c.in-None.is (e.seen t),
    )

pub returns-in-Ok-None-clause-seen : goal.returns-in-Ok-None-clause-seen
returns-in-Ok-None-clause-seen g c t = let e = rw c.in-Ok-None.field-0-is at c.in-Ok-None.ensures in e.seen t
