-- What the service asked the directory for.
use Rattle.std.proofs.Common.{◌≡◌, ◌≤◌, ◌==◌, bytes_eq, ℕ, Bool, true, List, Result, refl}
use Rattle.dir_model.specs.declared.area.Area.TheVariants as area
use Rattle.dir_model.specs.declared.pod.PodId.{PodId}
use Rattle.dir_model.specs.declared.request.DirError.{DirError}
use Rattle.dir_model.specs.declared.request.Request.{Request}
use Rattle.dir_model.specs.declared.request.Request.TheVariants.{Open, TryLock, Close, ListArea, ReadIn}
use Rattle.dir_model.specs.declared.spot.Mode.TheVariants.{Shared, Exclusive}
use Rattle.dir_model.specs.Areas.{rank, is_stage}
use Rattle.dir_model.specs.Pods.{pod_text}
use Rattle.dir_model.specs.Replies.{is_look_at, names_reply}
use Rattle.dir_model.proofs.Chains.{extends_wider}
use Rattle.dir_model.proofs.Lists.{and_left}
use Rattle.dir_trait.specs.DirCalls.{DirAt, ExtendsBy, ListCall}
use Rattle.dir_trait.specs.Knowledge.{OnlyLooks}
use Rattle.phase_read.specs.Read.{is_pod_spot}
use Rattle.pod_files.specs.Looks.{reads_pod, OnlyReadsPod}
use Rattle.pod_lookup.proofs.Looking.{looks_area}
use Rattle.pod_report.specs.Requests.{OnlyAsksFor}
use Rattle.pod_report.proofs.Asking.{asks_looks, looks_places}
use Rattle.metadata.specs.Looks.{looks_in_run}

looks_at_pod : (pod : PodId) (r : Request) → is_look_at (is_pod_spot pod) r ≡ true → looks_in_run r ≡ true
looks_at_pod pod (Open spot which) is = and_left (is_stage spot.area) (bytes_eq spot.name (pod_text pod.bytes)) is
looks_at_pod pod (TryLock handle Shared) is = refl
looks_at_pod pod (TryLock handle Exclusive) is = is
looks_at_pod pod (Close handle) is = refl
looks_at_pod pod r is = cc

reads_in_run : (pod : PodId) (r : Request) → reads_pod pod r ≡ true → looks_in_run r ≡ true
reads_in_run pod (ReadIn inner at room) is = and_left (rank inner.spot.area == rank area.Run) (bytes_eq inner.spot.name (pod_text pod.bytes)) is
reads_in_run pod r is = cc

-- reads of files of a pod in run
pub asks_pod : {observed : Bool} {old new : DirAt} (pod : PodId) → OnlyReadsPod observed pod old new → OnlyAsksFor observed looks_in_run old new
asks_pod pod o = record {
  same = o.same;
  faults = o.faults;
  local = o.local;
  extends = λ t. extends_wider (reads_in_run pod) (o.extends t);
  known = λ t s k. record { known = s; intent = refl; holdings = refl; kept = refl; knows = o.known t s refl k };
}

-- a read of a pod's phase
pub asks_phase : {observed : Bool} {old new : DirAt} (pod : PodId) → new.process ≡ old.process → old.faults ≤ new.faults → new.local ≡ old.local → (observed ≡ true → ExtendsBy (is_look_at (is_pod_spot pod)) old new) → (observed ≡ true → OnlyLooks old new) → OnlyAsksFor observed looks_in_run old new
asks_phase pod same faults local extends looks = looks_places (λ t. looks_at_pod pod) same faults local extends looks

-- a listing of run
pub asks_names : {observed : Bool} {old new : DirAt} (r : Result (List (List ℕ)) DirError) → ListCall observed old (ListArea area.Run) (names_reply r) new → OnlyAsksFor observed looks_in_run old new
asks_names r c = asks_looks (λ r' h. h) (looks_area {asks = looks_in_run} area.Run r refl refl c)
