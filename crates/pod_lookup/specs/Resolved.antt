-- What an answer to a word tells of the pods, among the events of other processes.
use Rattle.std.specs.Prelude.{◌≡◌, ℕ, true, List, Result, IsOkAnd, None}
use Rattle.std.specs.Ordering.{nat_cmp}
use Rattle.std.specs.declared.cmp.Ordering.TheVariants.{Less}
use Rattle.std.specs.Cmp.Lexicographic.{slice_cmp}
use Rattle.dir_model.specs.declared.event.Event.{Event}
use Rattle.dir_model.specs.declared.pod.PodId.{PodId}
use Rattle.dir_model.specs.Listings.{has_name}
use Rattle.dir_model.specs.Pods.{pod_text}
use Rattle.dir_model.specs.Quiet.{Quiet, OwnsNothing}
use Rattle.dir_model.specs.Trace.{state_after}
use Rattle.dir_rules.specs.Marks.{begins}
use Rattle.dir_trait.specs.DirCalls.{DirAt}
use Rattle.lifecycle.specs.Executions.{IsConforming}
use Rattle.lifecycle.specs.Readings.{WasPhase}
use Rattle.phase_read.specs.Read.{stages}
use Rattle.phase_read.specs.declared.found.LookError.{LookError}
use Rattle.pod_lookup.specs.AreaListings.{AreListedBetween, NameWasShown}
use Rattle.pod_lookup.specs.Choice.{is_meant, choice, sequential_resolve}
use Rattle.pod_lookup.specs.Moments.{AtEachMoment, AtSomeMoment, Exists}
use Rattle.pod_lookup.specs.Pods.{is_pod_name, FindsPodsBetween}

-- it is what the word means among the pods that listings of the six areas showed
pub record IsChosen (word : List ℕ) (result : Result PodId LookError) (old new : DirAt) : Type 0 where
  pub pods : List PodId
  pub found : FindsPodsBetween old new pods
  pub is : result ≡ choice word pods

-- where the execution conforms, each pod that the word begins didn't exist at one own step
abbrev pub IsNoneOf : List ℕ → DirAt → DirAt → Type 0
IsNoneOf word old new =
    IsConforming new.trace → (name : List ℕ) → is_pod_name name ≡ true → begins word name ≡ true → WasPhase old.process old.trace new.trace name None

-- where the execution conforms, the pod existed at some moment
abbrev pub Existed : PodId → DirAt → DirAt → Type 0
Existed pod old new = IsConforming new.trace → AtSomeMoment old.trace new.trace (Exists (pod_text pod.bytes))

-- the word begins the pod's uuid, and it is one of these names, which listings showed
pub record IsShown (word : List ℕ) (names : List (List ℕ)) (old new : DirAt) (pod : PodId) : Type 0 where
  pub meant : is_meant word pod ≡ true
  pub among : has_name names (pod_text pod.bytes) ≡ true
  pub shown : NameWasShown old.process old.trace new.trace (pod_text pod.bytes)
  pub existed : Existed pod old new

-- of the pods that listings of the six areas showed and that the word begins, these two have the least uuids
pub record AreTheLeast (word : List ℕ) (a b : PodId) (old new : DirAt) : Type 0 where
  pub names : List (List ℕ)
  pub listed : AreListedBetween stages old new names
  pub first : IsShown word names old new a
  pub second : IsShown word names old new b
  pub rise : slice_cmp nat_cmp (pod_text a.bytes) (pod_text b.bytes) ≡ Less
  pub least : (name : List ℕ) → is_pod_name name ≡ true → begins word name ≡ true → has_name names name ≡ true →
      slice_cmp nat_cmp name (pod_text b.bytes) ≡ Less → name ≡ pod_text a.bytes

-- of the pods that the word begins, the one of this name exists, and no other
pub record IsTheOne (word name : List ℕ) (trace : List Event) : Type 0 where
  pub there : Exists name trace
  pub alone : (other : List ℕ) → is_pod_name other ≡ true → begins word other ≡ true → Exists other trace → other ≡ name

-- where the execution conforms and this is so at each moment, the answer is that pod
abbrev pub FindsTheOne : List ℕ → Result PodId LookError → DirAt → DirAt → Type 0
FindsTheOne word result old new =
    IsConforming new.trace → (name : List ℕ) → is_pod_name name ≡ true → begins word name ≡ true →
    AtEachMoment old.trace new.trace (IsTheOne word name) → IsOkAnd result (λ pod. pod_text pod.bytes ≡ name)

-- where nobody else steps, and this process holds no lock exclusively, the answer is that of the state before
abbrev pub IsSequential : List ℕ → Result PodId LookError → DirAt → DirAt → Type 0
IsSequential word result old new =
    Quiet old.process old.trace new.trace → OwnsNothing old.process (state_after old.trace).namespace →
    result ≡ sequential_resolve (state_after old.trace) word
