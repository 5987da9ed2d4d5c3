use Rattle.std.proofs.Common.{◌≡◌, ◌∙◌, ap}
use Rattle.std.proofs.lemmas.Result.{IfOk-weaker}
use Rattle.serde_json.specs.View.{view}
use Rattle.app_section.specs.AppData.{app_data}
use Rattle.app_section.specs.AppForm.{app, IsReadAs}
use Rattle.app_section.specs.AppObject.{app_object}
use Rattle.app_section.specs.AppRules.{IsApp}
use Rattle.app_section.proofs.AppLaws.{app_again}
use Rattle.app_section.proofs.app.App.value.Goals as goal

pub returns-clause-reads_back : goal.returns-clause-reads_back
returns-clause-reads_back c =
    let a = app_data c.args.self.now in
    IfOk-weaker c.app_value.result (λ v. view v ≡ app_object a) (λ v. IsApp a → IsReadAs (view v) a)
    (λ v is kind at. ap (app at) is ∙ app_again.law at a kind)
    c.app_value.ensures
