-- What comes of a run: each app's status, or why it stopped.
use Rattle.std.proofs.Common.{◌≡◌, ◌<◌, ◌+◌, ℕ, Bool, List, [], ◌∷◌, ◌++◌, length, take, get_or, refl, sym, ap, subst, ◌∙◌}
use Rattle.std.proofs.lemmas.List.{take_more, length-map}
use Rattle.plain_laws.proofs.Lists.{take_next}
use Rattle.dir_trait.specs.DirCalls.{DirAt}
use Rattle.spawner.specs.Calls.{SpawnerAt}
use Rattle.stage1.specs.declared.start.AppStart.{AppStart}
use Rattle.stage1.specs.declared.end.AppEnd.{AppEnd}
use Rattle.stage1.specs.declared.error.Fault.{Fault}
use Rattle.stage1.specs.declared.error.Fault.TheVariants.{Spawn, Dir, Stray, NoMemory}
use Rattle.stage1.specs.declared.error.RunError.{RunError}
use Rattle.stage1.specs.declared.error.RunError.TheVariants as run
use Rattle.stage1.specs.Refusals.{fault_refusal, RunCause}
use Rattle.stage1.specs.Sequences.{app_status_of}
use Rattle.stage1.specs.Runs.{HaveRun, end_of, AreEnds, StopCause}

ends_push : (starts : List AppStart) (statuses : List ℕ) (ends : List AppEnd) (app : AppStart) (status : ℕ) → AreEnds starts statuses ends → AreEnds (starts ++ app ∷ []) (statuses ++ status ∷ []) (ends ++ end_of app status ∷ [])
ends_push (a ∷ starts) (n ∷ statuses) (e ∷ ends) app status are = (are.0, ends_push starts statuses ends app status are.1)
ends_push [] [] [] app status are = (refl, tt)
ends_push _ _ _ app status are = absurd are

pub ends_next : (starts : List AppStart) (statuses : List ℕ) (i : ℕ) (app : AppStart) (before after : List AppEnd) → i < length starts → i < length statuses → app ≡ get_or starts i app → AreEnds (take i starts) (take i statuses) before → after ≡ before ++ end_of app (get_or statuses i 0) ∷ [] → AreEnds (take (i + 1) starts) (take (i + 1) statuses) after
ends_next starts statuses i app before after h h' at are added =
    subst (λ (l : List AppStart). AreEnds l (take (i + 1) statuses) after) (sym (take_next starts i app h at))
    (subst (λ (l : List ℕ). AreEnds (take i starts ++ app ∷ []) l after) (sym (take_more statuses i 0 h'))
    (subst (λ (l : List AppEnd). AreEnds (take i starts ++ app ∷ []) (take i statuses ++ get_or statuses i 0 ∷ []) l) (sym added) (ends_push (take i starts) (take i statuses) before app (get_or statuses i 0) are)))

pub ends_none : (ends : List AppEnd) → ends ≡ [] → AreEnds [] [] ends
ends_none ends none = rw none tt

-- as many statuses as apps
pub run_each : {observed : Bool} {old new : SpawnerAt} (starts : List AppStart) (statuses : List ℕ) → HaveRun observed starts statuses old new → length starts ≡ length statuses
run_each starts statuses h = sym (ap length h.apps) ∙ (length-map h.endings (λ e. e.begun.app) ∙ (sym (length-map h.endings app_status_of) ∙ ap length h.statuses_are))

-- why it stopped
pub stop_cause : (seen : Bool) (f : Fault) (d d' : DirAt) (s s' : SpawnerAt) → RunCause seen f d d' s s' → StopCause seen (fault_refusal f) d d' s s'
stop_cause seen Spawn d d' s s' is = is
stop_cause seen Dir d d' s s' is = is
stop_cause seen Stray d d' s s' is = is
stop_cause seen NoMemory d d' s s' is = tt

pub stop_memory : (seen : Bool) (e : RunError) (d d' : DirAt) (s s' : SpawnerAt) → e ≡ run.NoMemory → StopCause seen e d d' s s'
stop_memory seen e d d' s s' is = rw is tt
