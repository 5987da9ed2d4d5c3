use Rattle.std.proofs.Common.{rules, ◌≡◌, true, ℕ, List, sym, subst}
use Rattle.dir_model.specs.Paths.{is_path}
use Rattle.pod_report.specs.Ends.{status_path}
use Rattle.pod_report.proofs.StatusFiles.{file_path}
use Rattle.pod_report.proofs.ends.end_of.Goals as goal

pub end_at-requires-clause-path : goal.end_at-requires-clause-path
end_at-requires-clause-path g c =
    let app = c.args.app.now in
    let is : c.as_str-in-Ok.result.now ≡ status_path app = search rules in
    subst (λ (p : List ℕ). is_path p ≡ true) (sym is) (file_path app c.as_str.ensures.kind)
