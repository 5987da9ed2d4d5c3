-- How one app ends, and how it is only waited for.
use Rattle.std.proofs.Common.{arith, ◌≡◌, ℕ, suc, ◌==◌, Bool, true, false, cond, List, [], ◌∷◌, ◌++◌, filter, length, Result, Ok, Err, refl, ap}
use Rattle.std.specs.Prelude.{IfOk, IfErr}
use Rattle.spawner.specs.declared.call.Child.{Child}
use Rattle.spawner.specs.declared.call.SpawnCall.{SpawnCall}
use Rattle.spawner.specs.declared.call.SpawnRequest.{SpawnRequest}
use Rattle.spawner.specs.declared.call.SpawnRequest.TheVariants.{Wait}
use Rattle.spawner.specs.declared.call.SpawnReply.TheVariants.{Refused}
use Rattle.spawner.specs.Calls.{SpawnerAt, call}
use Rattle.stage1.specs.declared.start.AppStart.{AppStart}
use Rattle.stage1.specs.declared.stand.Stand.{Stand}
use Rattle.stage1.specs.declared.stand.Stand.TheVariants.{Running, Ended}
use Rattle.stage1.specs.Sequences.{wait_call, handler_calls}
use Rattle.stage1.specs.Asking.{Asks}
use Rattle.stage1.specs.Cutting.{AreWaitedFor, waits_for, waits_on}
use Rattle.stage1.specs.Beginnings.{WaitFor}
use Rattle.stage1.specs.Programs.{wait_request, SpawnWasRefused, RanHandler, HandlerCut}
use Rattle.stage1.specs.Endings.{count_of_child, AreWaitedBeside, StartsNone, WasWaitedFor, end_calls, AppHasEnded, IsEndCut, EndsFromStand, EndsCut, WereWaitedFor}
use Rattle.stage1.proofs.Asked.{asks_more}
use Rattle.stage1.proofs.Counting.{starts_more, waits_more}
use Rattle.stage1.proofs.Cuts.{cut_whole, cut_before, cut_behind, cut_refused}
use Rattle.stage1.proofs.OneApp.{no_run, handler_waited}

-- each child is waited for as often as it is among those to wait for
waits_counted : (other child : Child) (request : SpawnRequest) → request ≡ Wait child → waits_on other request ≡ (child.number == other.number)
waits_counted other child request is = ap (λ (r : SpawnRequest). waits_on other r) is

pub wait_times : (children : List Child) (calls : List SpawnCall) → WaitFor children calls → (other : Child) → waits_for other calls ≡ count_of_child other children
wait_times [] [] w other = refl
wait_times [] (c ∷ calls) w other = absurd w
wait_times (child ∷ children) [] w other = absurd w
wait_times (child ∷ children) (c ∷ calls) w other = by (waits_on other c.request) (child.number == other.number) (waits_counted other child c.request w.0) (wait_times children calls w.1 other)
  where
    by : (a b : Bool) → a ≡ b → waits_for other calls ≡ count_of_child other children → length (cond a (c ∷ filter (λ x. waits_on other x.request) calls) (filter (λ x. waits_on other x.request) calls)) ≡ length (cond b (child ∷ filter (λ x. x.number == other.number) children) (filter (λ x. x.number == other.number) children))
    by true true e rest = ap suc rest
    by true false e rest = cc
    by false true e rest = cc
    by false false e rest = rest

pub waits_beside : (children : List Child) (calls : List SpawnCall) → WaitFor children calls → StartsNone calls → AreWaitedBeside children calls
waits_beside children calls w none other = omega (arith, wait_times children calls w other, none other)

pub beside_more : (children : List Child) (xs ys : List SpawnCall) → AreWaitedBeside children xs → AreWaitedFor ys → AreWaitedBeside children (xs ++ ys)
beside_more children xs ys p q other = omega (arith, starts_more other xs ys, waits_more other xs ys, p other, q other)

pub wait_alone : (child : Child) (status : ℕ) → AreWaitedBeside (child ∷ []) (wait_call child status ∷ [])
wait_alone child status = waits_beside (child ∷ []) (wait_call child status ∷ []) (refl, tt) (λ other. refl)

module _ {observed : Bool} {old new : SpawnerAt} (child : Child) where
  -- the child was waited for
  pub waited_done : (status : ℕ) → Asks observed old (wait_call child status ∷ []) new → WasWaitedFor observed child old new
  waited_done status a = record { status = status; calls = wait_call child status ∷ []; part = cut_whole (wait_call child status ∷ []); wait = (refl, tt); none = λ other. refl; asked = a }

  pub waited_refused : SpawnWasRefused observed (wait_request child) old new → WasWaitedFor observed child old new
  waited_refused w = record { status = 0; calls = call (Wait child) (Refused w.error) ∷ []; part = cut_refused [] (wait_call child 0) [] w.error; wait = (refl, tt); none = λ other. refl; asked = w.asked }

  pub waited_were : WasWaitedFor observed child old new → WereWaitedFor observed (child ∷ []) old new
  waited_were w = record { calls = w.calls; waits = w.wait; none = w.none; asked = w.asked }

  pub waited_either : {E : Type 0} (r : Result ℕ E) → IfOk r (λ status. Asks observed old (wait_call child status ∷ []) new) → IfErr r (λ e. WasWaitedFor observed child old new) → WereWaitedFor observed (child ∷ []) old new
  waited_either (Ok status) ok err = waited_were (waited_done status ok)
  waited_either (Err e) ok err = waited_were err

  module _ (app : AppStart) where
    -- the wait was cut short
    pub end_cut_early : WasWaitedFor observed child old new → IsEndCut observed app child old new
    end_cut_early w = record {
      status = w.status;
      ran = no_run;
      cut = w.calls;
      part = cut_before (wait_call child w.status ∷ []) (handler_calls app no_run app.launch.post_stop) w.calls w.part;
      waited = waits_beside (child ∷ []) w.calls w.wait w.none;
      asked = w.asked;
    }

    -- or the handler after the app, or neither
    pub has_ended : (status : ℕ) (mid : SpawnerAt) (code : ℕ) → Asks observed old (wait_call child status ∷ []) mid → RanHandler observed app app.launch.post_stop code mid new → AppHasEnded observed app child status old new
    has_ended status mid code a r = record { ran = r.ran; asked = asks_more (wait_call child status ∷ []) (handler_calls app r.ran app.launch.post_stop) a r.asked }

    pub end_cut_late : (status : ℕ) (mid : SpawnerAt) → Asks observed old (wait_call child status ∷ []) mid → HandlerCut observed app app.launch.post_stop mid new → IsEndCut observed app child old new
    end_cut_late status mid a w = record {
      status = status;
      ran = w.ran;
      cut = wait_call child status ∷ w.cut;
      part = cut_behind (wait_call child status ∷ []) (handler_calls app w.ran app.launch.post_stop) w.cut w.part;
      waited = beside_more (child ∷ []) (wait_call child status ∷ []) w.cut (wait_alone child status) w.waited;
      asked = asks_more (wait_call child status ∷ []) w.cut a w.asked;
    }

    pub end_cut_whole : (status : ℕ) → AppHasEnded observed app child status old new → IsEndCut observed app child old new
    end_cut_whole status e = record {
      status = status;
      ran = e.ran;
      cut = end_calls app child status e.ran;
      part = cut_whole (end_calls app child status e.ran);
      waited = beside_more (child ∷ []) (wait_call child status ∷ []) (handler_calls app e.ran app.launch.post_stop) (wait_alone child status) (handler_waited app e.ran app.launch.post_stop);
      asked = e.asked;
    }

-- what ended may have been cut short behind its end
pub ends_cut : (observed : Bool) (old new : SpawnerAt) (app : AppStart) (stand : Stand) (status : ℕ) → EndsFromStand observed app stand status old new → EndsCut observed app stand old new
ends_cut observed old new app (Running child) status e = end_cut_whole child app status e
ends_cut observed old new app (Ended other) status e = e.1

-- nothing was asked before
pub ends_after : {observed : Bool} (a : SpawnerAt) {b : SpawnerAt} (c : SpawnerAt) (app : AppStart) (stand : Stand) (status : ℕ) → Asks observed a [] b → EndsFromStand observed app stand status b c → EndsFromStand observed app stand status a c
ends_after a c app (Running child) status none e = record { ran = e.ran; asked = asks_more [] (end_calls app child status e.ran) none e.asked }
ends_after a c app (Ended other) status none e = (e.0, asks_more [] [] none e.1)
