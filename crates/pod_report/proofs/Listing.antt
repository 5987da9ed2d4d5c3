-- What a listing tells, by the pods that were found and what was told of each.
use Rattle.std.proofs.Common.{◌≡◌, Bool, true, List, sym, ap, subst, ◌∙◌}
use Rattle.dir_model.specs.declared.pod.PodId.{PodId}
use Rattle.dir_model.specs.Listings.{has_name}
use Rattle.dir_model.specs.Trace.{state_after}
use Rattle.dir_model.proofs.Chains.{extends_wider}
use Rattle.dir_trait.specs.DirCalls.{DirAt}
use Rattle.lifecycle.specs.Executions.{IsConforming}
use Rattle.pod_lookup.specs.Pods.{pod_names, FindsStanding, MissesGone}
use Rattle.pod_lookup.proofs.InOrder.{Rising}
use Rattle.pod_report.specs.declared.line.PodLine.{PodLine}
use Rattle.pod_report.specs.Before.{ListsPodsQuietly}
use Rattle.pod_report.specs.Requests.{OnlyAsksFor, surveys}
use Rattle.pod_report.specs.Snapshot.{TellsPods, IsSnapshotBetween, LinesStanding}
use Rattle.pod_report.proofs.Alone.{lines_standing, standing_there}
use Rattle.pod_report.proofs.Asking.{asks_more}
use Rattle.pod_report.proofs.Going.{conforming_before}
use Rattle.pod_report.proofs.QuietLines.{lines_before}
use Rattle.pod_report.proofs.QuietSurvey.{survey_calm, survey_keeps}
use Rattle.pod_report.proofs.Telling.{snapshot}

pub record ListTells (old new : DirAt) (lines : List PodLine) : Type 0 where
  pub snapshot : IsSnapshotBetween old new lines
  pub standing : LinesStanding old new lines
  pub quiet : ListsPodsQuietly old new lines

pub list_tells : {observed : Bool} (pods shown : List PodId) (lines : List PodLine) (old mid new : DirAt) → observed ≡ true → OnlyAsksFor observed surveys old mid → OnlyAsksFor observed surveys mid new → IsConforming new.trace → Rising (pod_names pods) → (IsConforming mid.trace → MissesGone old mid pods) → FindsStanding old mid pods → shown ≡ pods → TellsPods shown lines mid new → ListTells old new lines
list_tells pods shown lines old mid new t first last conforming rise gone still same tells =
    let a = first.extends t in
    let b = last.extends t in
    let told = subst (λ (l : List PodId). TellsPods l lines mid new) same tells in
    let weak = snapshot pods lines old mid new first.same a.more b.more a.grown b.grown rise (gone (conforming_before mid new t last conforming)) told in
    let standing = lines_standing pods lines old mid new a.more b.more a.grown b.grown conforming rise still told in
    let ext = extends_wider survey_calm ((asks_more first last).extends t) in
    record {
      snapshot = weak;
      standing = standing;
      quiet = λ quiet idle.
          let are = standing (survey_keeps ext quiet idle) in
          record {
            pods = are;
            each = lines_before conforming ext quiet idle lines (λ name h. standing_there (state_after old.trace).namespace name (ap (λ l. has_name l name) (sym are) ∙ h)) weak.each;
          };
    }
