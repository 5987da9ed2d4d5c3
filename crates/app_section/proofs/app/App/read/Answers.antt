use Rattle.serde_json.specs.View.{view}
use Rattle.app_section.specs.AppData.{app_data}
use Rattle.app_section.specs.AppForm.{app}
use Rattle.app_section.proofs.AppLaws.{app_given}
use Rattle.app_section.proofs.Readings.{answer_given}
use Rattle.app_section.proofs.app.App.read.Goals as goal

pub returns-clause-kind : goal.returns-clause-kind
returns-clause-kind c =
    let at = c.args.at.now in
    let d = view c.args.value.now in
    answer_given app_data (app at d) c.read_app.result (app_given.law at d) c.read_app.ensures
