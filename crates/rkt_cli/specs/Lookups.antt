-- A process that comes to no task: memory ran out before, or the word of its line means no pod.
use Rattle.std.specs.Prelude.{◌≡◌, ◌⊎◌, ◌≤◌, ℕ, true, List, Option, Some, None, Result, Ok, Err, IsErrOf, Bool}
use Rattle.dir_model.specs.declared.intent.Draw.{Draw}
use Rattle.dir_model.specs.declared.intent.Intent.{Intent}
use Rattle.dir_model.specs.declared.pod.PodId.{PodId}
use Rattle.dir_model.specs.declared.request.Request.TheVariants.{Begin, Finish}
use Rattle.dir_model.specs.declared.request.Reply.TheVariants.{Done}
use Rattle.dir_trait.specs.Calls.{CallStep}
use Rattle.dir_trait.specs.Causes.{Rose}
use Rattle.dir_trait.specs.Knowledge.{Knows}
use Rattle.dir_trait.specs.DirCalls.{DirAt}
use Rattle.phase_read.specs.declared.found.LookError.{LookError}
use Rattle.phase_read.specs.declared.found.LookError.TheVariants as lookup
use Rattle.pod_lookup.specs.Choice.{IsLookupAnswer, NamesMeant}
use Rattle.pod_lookup.specs.Resolved.{IsChosen, IsNoneOf, AreTheLeast, FindsTheOne, IsSequential}
use Rattle.command_outcomes.specs.declared.refusal.Refusal.{Refusal}
use Rattle.command_outcomes.specs.declared.refusal.Refusal.TheVariants.{NoPod, Ambiguous, DirFault, SpawnFault, NoMemory}
use Rattle.command_outcomes.specs.Texts.{exit_status_of}
use Rattle.command_outcomes.specs.Conforming.{seen_at_begin as just_begun}
use Rattle.command_outcomes.specs.Moments.{SpawnerSeen, Outside, Moment, Answer, outcome_of}
use Rattle.commands.specs.Answers.{Complained}
use Rattle.commands.specs.AppsTold.{inside}
use Rattle.commands.specs.Opening.{Approach, directly, looking, approach_of, Looks}
use Rattle.rkt_cli.specs.declared.line.Line.{Line}
use Rattle.rkt_cli.specs.Commands.{intent_in, intent_of}
use Rattle.rkt_cli.specs.Runs.{NeverBegan, Performs, ended_local}
use Rattle.rkt_cli.specs.Spawns.{AppsToldBetween}
use Rattle.rkt_cli.specs.Tasks.{Task, task_of, pod_word_of, IsMeant, IsMeantBy, IsFoundByWord}

-- it is so of the line's task, for a pod that the line means
abbrev pub OfPod : Line → Draw → (Task → Type 0) → Type 0
OfPod line draw P = (pod : PodId) × IsMeantBy (pod_word_of line) draw pod × P (task_of line pod)

-- what is said of a word that means no pod
abbrev pub lookup_refusal : LookError → Refusal
lookup_refusal lookup.NoPod = NoPod
lookup_refusal (lookup.Ambiguous first second) = Ambiguous first second
lookup_refusal lookup.DirFault = DirFault
lookup_refusal lookup.NoMemory = NoMemory

-- where every process keeps the local rules, each pod that the word begins didn't exist at an own step of the look; listings showed
-- these two, which are the least that it begins; or the directory failed
abbrev pub MeansNone : Bool → List ℕ → LookError → DirAt → DirAt → Type 0
MeansNone observed word lookup.NoPod old new = observed ≡ true → IsNoneOf word old new
MeansNone observed word (lookup.Ambiguous first second) old new = observed ≡ true → AreTheLeast word first second old new
MeansNone observed word lookup.DirFault old new = Rose old.faults new.faults
MeansNone observed word lookup.NoMemory old new = Unit {0}

-- a look for the pod of a word that isn't a whole uuid found none, for this cause; whatever pods it names, the word begins their uuids
pub record IsVain (observed : Bool) (word : List ℕ) (refusal : Refusal) (old new : DirAt) : Type 0 where
  pub error : LookError
  pub is : refusal ≡ lookup_refusal error
  pub part : approach_of word ≡ looking
  pub names : NamesMeant word (Err error)
  pub why : MeansNone observed word error old new
  -- the six areas were listed, and this is what the word means among the pods that they showed
  pub chosen : observed ≡ true → IsLookupAnswer (Err error) → IsChosen word (Err error) old new
  -- so it isn't where of the pods that the word begins the same one exists at each moment, and no other at any
  pub not_one : observed ≡ true → IsLookupAnswer (Err error) → FindsTheOne word (Err error) old new
  pub quiet : observed ≡ true → IsLookupAnswer (Err error) → IsSequential word (Err error) old new

-- how a process comes to the pod of its word, and what it knows then
abbrev pub approach_by : Option (List ℕ) → Approach
approach_by None = directly
approach_by (Some word) = approach_of word

pub record ComesToPod (observed : Bool) (word : Option (List ℕ)) (old new : DirAt) : Type 0 where
  pub same : new.process ≡ old.process
  pub faults : old.faults ≤ new.faults
  pub local : new.local ≡ old.local
  pub looks : observed ≡ true → Looks (approach_by word) old.process old.trace new.trace
  pub knows : observed ≡ true → (intent : Intent) → Knows old (just_begun intent) → Knows new (just_begun intent)

-- what it comes to: the pod of its word, or why there is none
abbrev pub FindsMeant : Bool → List ℕ → DirAt → DirAt → Result PodId Refusal → Type 0
FindsMeant observed word old new (Ok pod) = IsMeant word pod × (observed ≡ true → IsFoundByWord word pod old.process old.trace new.trace)
FindsMeant observed word old new (Err refusal) = IsVain observed word refusal old new

abbrev pub FindsPodByWord : Bool → Option (List ℕ) → Draw → DirAt → DirAt → Result PodId Refusal → Type 0
FindsPodByWord observed None draw old new result = result ≡ Ok draw.uuid
FindsPodByWord observed (Some word) draw old new result = FindsMeant observed word old new result

-- the process began, looked for the pod that the word means, found none, and finished
pub record LookedInVain (observed : Bool) (word : List ℕ) (intent : Intent) (old new : DirAt) (refusal : Refusal) : Type 0 where
  pub begun : DirAt
  pub looked : DirAt
  pub me : begun.process ≡ old.process
  pub risen : old.faults ≤ begun.faults
  pub begins : observed ≡ true → CallStep old.process old.trace (Begin intent) Done begun.trace
  pub knew : observed ≡ true → Knows begun (just_begun intent)
  pub comes : ComesToPod observed (Some word) begun looked
  pub vain : IsVain observed word refusal begun looked
  pub finishes : observed ≡ true → CallStep old.process looked.trace Finish Done new.trace
  pub same : new.process ≡ old.process
  pub faults : new.faults ≡ looked.faults
  pub local : new.local ≡ ended_local intent

-- memory ran out before the first call, or at the begin, or it looked in vain
abbrev pub NeverReachedItsPod : Line → ℕ → Draw → Outside → Outside → Refusal → Type 0
NeverReachedItsPod line now draw old new refusal =
    ((refusal ≡ NoMemory) × (new.dir ≡ old.dir))
    ⊎ ((intent : Intent) × (intent_in line now draw ≡ Some intent) × (refusal ≡ NoMemory) × NeverBegan intent old new (Err NoMemory))
    ⊎ ((word : List ℕ) × (pod_word_of line ≡ Some word) × (intent : Intent) × (intent_in line now draw ≡ Some intent) × LookedInVain old.observed word intent old.dir new.dir refusal)

-- so it was refused: nothing was read of the bundle, asked of the spawner or written to the output
pub record RefusedBeforeItsPod (line : Line) (now : ℕ) (draw : Draw) (old new : Moment) (status : ℕ) : Type 0 where
  pub refusal : Refusal
  pub is : status ≡ exit_status_of refusal
  pub said : Complained refusal old.err new.err
  pub why : NeverReachedItsPod line now draw old.outside new.outside refusal
  pub bundle : new.outside.bundle ≡ old.outside.bundle
  pub spawner : new.spawner ≡ old.spawner
  pub out : new.out ≡ old.out

-- a task was performed, between two moments of what it works on
pub record PerformsTask (task : Task) (now : ℕ) (draw : Draw) (old new : Outside) (s s' : SpawnerSeen) (answer : Answer) : Type 0 where
  pub performs : Performs task now draw (intent_of task now draw) old new (outcome_of answer)
  pub came : AppsToldBetween task now draw (intent_of task now draw) (inside old.observed old.dir s) (inside new.observed new.dir s') answer
  pub spawn_cause : IsErrOf answer SpawnFault → Rose s.shown.faults s'.shown.faults

-- so was the line's, for a pod that the line means; or it came to none
abbrev pub Acts : Line → ℕ → Draw → Outside → Outside → SpawnerSeen → SpawnerSeen → Answer → Type 0
Acts line now draw old new s s' answer =
    OfPod line draw (λ task. PerformsTask task now draw old new s s' answer)
    ⊎ ((refusal : Refusal) × (answer ≡ Err refusal) × NeverReachedItsPod line now draw old new refusal × (new.bundle ≡ old.bundle) × (s' ≡ s))
