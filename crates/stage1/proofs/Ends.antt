-- The apps end one after the other, and those that are left are waited for.
use Rattle.std.proofs.Common.{arith, ◌≡◌, ◌≤◌, ◌<◌, ℕ, zero, suc, Bool, true, List, [], ◌∷◌, ◌++◌, length, take, get_or, refl, sym, ap, subst}
use Rattle.std.specs.List.{AllByRecursion}
use Rattle.std.proofs.lemmas.List.{get_or_default}
use Rattle.dir_trait.specs.DirCalls.{DirAt}
use Rattle.spawner.specs.declared.call.Child.{Child}
use Rattle.spawner.specs.declared.call.RootPlace.{RootPlace}
use Rattle.spawner.specs.declared.call.SpawnCall.{SpawnCall}
use Rattle.spawner.specs.Calls.{SpawnerAt}
use Rattle.stage1.specs.declared.start.AppStart.{AppStart}
use Rattle.stage1.specs.declared.stand.Stand.{Stand}
use Rattle.stage1.specs.declared.stand.Stand.TheVariants.{Running, Ended}
use Rattle.stage1.specs.Asking.{Asks, StartedIn}
use Rattle.stage1.specs.Notes.{WroteStatus, StaysAble}
use Rattle.stage1.specs.Beginnings.{IsStartedIn, AreStartedIn, running, WaitFor}
use Rattle.stage1.specs.Endings.{EndsFromStand, EndsCut, HaveEnded, AreEndsCut, WereWaitedFor}
use Rattle.stage1.specs.Runs.{AreWrittenAll}
use Rattle.stage1.proofs.Asked.{asks_none, asks_more}
use Rattle.stage1.proofs.Counting.{starts_more}
use Rattle.stage1.proofs.OneApp.{no_child}
use Rattle.stage1.proofs.OneEnd.{ends_after}

-- faults are counted on, and where a child was started stays known
pub record Lasts (observed : Bool) (old new : SpawnerAt) : Type 0 where
  pub faults : old.faults ≤ new.faults
  pub kept : observed ≡ true → (root : RootPlace) (child : Child) → StartedIn root child old.calls → StartedIn root child new.calls

lasts_asks : {observed : Bool} {old new : SpawnerAt} (calls : List SpawnCall) → Asks observed old calls new → Lasts observed old new
lasts_asks calls a = record { faults = a.faults; kept = a.kept }

pub lasts_more : {observed : Bool} {a b c : SpawnerAt} → Lasts observed a b → Lasts observed b c → Lasts observed a c
lasts_more {observed} {a} {b} {c} ab bc = record { faults = omega (arith, ab.faults, bc.faults); kept = λ t root child s. bc.kept t root child (ab.kept t root child s) }

module _ (observed : Bool) where
  ends_last : (a b : SpawnerAt) (app : AppStart) (stand : Stand) (status : ℕ) → EndsFromStand observed app stand status a b → Lasts observed a b
  ends_last a b app (Running child) status e = record { faults = e.asked.faults; kept = e.asked.kept }
  ends_last a b app (Ended other) status e = record { faults = e.1.faults; kept = e.1.kept }

  cut_lasts : (a b : SpawnerAt) (app : AppStart) (stand : Stand) → EndsCut observed app stand a b → Lasts observed a b
  cut_lasts a b app (Running child) e = record { faults = e.asked.faults; kept = e.asked.kept }
  cut_lasts a b app (Ended other) e = record { faults = e.faults; kept = e.kept }

  pub ended_last : (a b : SpawnerAt) (starts : List AppStart) (stands : List Stand) (statuses : List ℕ) → HaveEnded observed starts stands statuses a b → Lasts observed a b
  ended_last a b (app ∷ starts) (stand ∷ stands) (status ∷ statuses) h = lasts_more (ends_last a h.between app stand status h.ends) (ended_last h.between b starts stands statuses h.later)
  ended_last a b [] [] [] h = record { faults = h.faults; kept = h.kept }
  ended_last a b _ _ _ h = absurd h

  pub ends_cut_last : (a b : SpawnerAt) (starts : List AppStart) (stands : List Stand) (turns : ℕ) → AreEndsCut observed starts stands turns a b → Lasts observed a b
  ends_cut_last a b starts stands turns e = lasts_more (ended_last a e.between e.done e.ended e.statuses e.before) (cut_lasts e.between b e.app e.stand e.cut)

  -- one app more has ended
  pub ended_more : (a b c : SpawnerAt) (starts : List AppStart) (stands : List Stand) (statuses : List ℕ) (app : AppStart) (stand : Stand) (status : ℕ) → HaveEnded observed starts stands statuses a b → EndsFromStand observed app stand status b c → HaveEnded observed (starts ++ app ∷ []) (stands ++ stand ∷ []) (statuses ++ status ∷ []) a c
  ended_more a b c (x ∷ starts) (y ∷ stands) (z ∷ statuses) app stand status h e = record { between = h.between; ends = h.ends; later = ended_more h.between b c starts stands statuses app stand status h.later e }
  ended_more a b c [] [] [] app stand status h e = record { between = c; ends = ends_after a c app stand status h e; later = asks_none }
  ended_more a b c _ _ _ app stand status h e = absurd h

  pub ended_none : (s : SpawnerAt) (statuses : List ℕ) → statuses ≡ [] → HaveEnded observed [] [] statuses s s
  ended_none s statuses none = rw none asks_none

-- their statuses are written
pub all_written_still : {old new : DirAt} → StaysAble old new → (starts : List AppStart) (statuses : List ℕ) → AreWrittenAll old starts statuses → AreWrittenAll new starts statuses
all_written_still stays (app ∷ starts) (status ∷ statuses) w = (stays.wrote app.root status w.0, all_written_still stays starts statuses w.1)
all_written_still stays [] [] w = tt
all_written_still stays _ _ w = absurd w

pub all_written_push : (d : DirAt) (starts : List AppStart) (statuses : List ℕ) (app : AppStart) (status : ℕ) → AreWrittenAll d starts statuses → WroteStatus app.root status d → AreWrittenAll d (starts ++ app ∷ []) (statuses ++ status ∷ [])
all_written_push d (a ∷ starts) (s ∷ statuses) app status w one = (w.0, all_written_push d starts statuses app status w.1 one)
all_written_push d [] [] app status w one = (one, tt)
all_written_push d _ _ app status w one = absurd w

pub all_written_none : (d : DirAt) (statuses : List ℕ) → statuses ≡ [] → AreWrittenAll d [] statuses
all_written_none d statuses none = rw none tt

-- children that are waited for, one after the other
pub running_more : (xs ys : List Stand) → running (xs ++ ys) ≡ running xs ++ running ys
running_more [] ys = refl
running_more (Running child ∷ xs) ys = ap (λ (l : List Child). child ∷ l) (running_more xs ys)
running_more (Ended status ∷ xs) ys = running_more xs ys

wait_more : (xs ys : List Child) (cs ds : List SpawnCall) → WaitFor xs cs → WaitFor ys ds → WaitFor (xs ++ ys) (cs ++ ds)
wait_more [] ys [] ds p q = q
wait_more [] ys (c ∷ cs) ds p q = absurd p
wait_more (x ∷ xs) ys [] ds p q = absurd p
wait_more (x ∷ xs) ys (c ∷ cs) ds p q = (p.0, wait_more xs ys cs ds p.1 q)

pub were_none : {observed : Bool} {s : SpawnerAt} → WereWaitedFor observed [] s s
were_none = record { calls = []; waits = tt; none = λ other. refl; asked = asks_none }

pub were_more : {observed : Bool} {a b c : SpawnerAt} (xs ys : List Stand) → WereWaitedFor observed (running xs) a b → WereWaitedFor observed (running ys) b c → WereWaitedFor observed (running (xs ++ ys)) a c
were_more {observed} {a} {b} {c} xs ys p q =
    subst (λ (l : List Child). WereWaitedFor observed l a c) (sym (running_more xs ys))
    (record { calls = p.calls ++ q.calls; waits = wait_more (running xs) (running ys) p.calls q.calls p.waits q.waits; none = λ other. omega (arith, starts_more other p.calls q.calls, p.none other, q.none other); asked = asks_more p.calls q.calls p.asked q.asked })

-- the stand at a place
pub stand_at : (stands : List Stand) (i : ℕ) → i < length stands → get_or stands i (Running no_child) ≡ get_or stands i (get_or stands i (Running no_child))
stand_at stands i h = get_or_default stands i (Running no_child) (get_or stands i (Running no_child)) h

-- what holds of the first of some apps
pub front_at : {A : Type 0} (P : A → Type 0) (xs : List A) (n i : ℕ) (x : A) → i < n → i < length xs → x ≡ get_or xs i x → AllByRecursion P (take n xs) → P x
front_at P [] n i x h h' is all = absurd (omega (arith, h'))
front_at P (y ∷ ys) zero i x h h' is all = absurd (omega (arith, h))
front_at P (y ∷ ys) (suc n) zero x h h' is all = subst P (sym is) all.0
front_at P (y ∷ ys) (suc n) (suc i) x h h' is all = front_at P ys n i x (omega (arith, h)) (omega (arith, h')) is all.1

pub started_front : (calls : List SpawnCall) (starts : List AppStart) (stands : List Stand) (i : ℕ) (app : AppStart) (stand : Stand) → i < length stands → i < length starts → app ≡ get_or starts i app → stand ≡ get_or stands i stand → AreStartedIn calls (take (length stands) starts) stands → IsStartedIn calls app stand
started_front calls starts [] i app stand h h' at at' s = absurd (omega (arith, h))
started_front calls [] (s' ∷ stands) i app stand h h' at at' s = absurd (omega (arith, h'))
started_front calls (a ∷ starts) (s' ∷ stands) zero app stand h h' at at' s = subst (λ (x : AppStart). IsStartedIn calls x stand) (sym at) (subst (λ (x : Stand). IsStartedIn calls a x) (sym at') s.0)
started_front calls (a ∷ starts) (s' ∷ stands) (suc i) app stand h h' at at' s = started_front calls starts stands i app stand (omega (arith, h)) (omega (arith, h')) at at' s.1
