-- The programs of one app, up to its main program.
use Rattle.std.proofs.Common.{◌≡◌, ℕ, ◌==◌, Bool, true, false, cond, Option, Some, None, List, [], ◌∷◌, ◌++◌, length, refl, sym, ap, subst, ◌∙◌}
use Rattle.spawner.specs.declared.call.Child.{Child}
use Rattle.spawner.specs.declared.call.SpawnCall.{SpawnCall}
use Rattle.spawner.specs.declared.call.SpawnRequest.TheVariants.{Wait}
use Rattle.spawner.specs.declared.call.SpawnReply.{SpawnReply}
use Rattle.spawner.specs.declared.call.SpawnReply.TheVariants.{Ended, Refused}
use Rattle.spawner.specs.Calls.{SpawnerAt, call, answers}
use Rattle.stage1.specs.declared.start.AppStart.{AppStart}
use Rattle.stage1.specs.declared.stand.Stand.{Stand}
use Rattle.stage1.specs.declared.stand.Stand.TheVariants.{Running}
use Rattle.stage1.specs.declared.stand.Stand.TheVariants as stand
use Rattle.stage1.specs.Sequences.{ProgramRun, Beginning, ready_call, start_call, wait_call, handler_calls, handler_status, main_calls, first_calls}
use Rattle.stage1.specs.Asking.{Asks}
use Rattle.stage1.specs.Cutting.{IsCutOff, AreWaitedFor}
use Rattle.stage1.specs.Programs.{ready_request, start_request, wait_request, SpawnWasRefused, ProgramCut, RanHandler, HandlerCut}
use Rattle.stage1.specs.Beginnings.{prelude_calls, main_calls_after, RanPrelude, PreludeCut, StartedMain, MainStartCut, AppHasBegun, IsInterrupted}
use Rattle.stage1.proofs.Asked.{asks_none, asks_more}
use Rattle.stage1.proofs.Counting.{waited_none, waited_more}
use Rattle.stage1.proofs.Cuts.{cut_none, cut_behind, cut_before, cut_refused}

-- any child, where none was started
abbrev pub no_child : Child
no_child = record { number = 0 }

abbrev pub no_run : ProgramRun
no_run = record { child = no_child; status = 0 }

-- a child that was started was waited for
waited_pair : (app : AppStart) (argv : List (List ℕ)) (child : Child) (reply : SpawnReply) → ((other : Child) → answers other reply ≡ false) → AreWaitedFor (start_call app argv child ∷ call (Wait child) reply ∷ [])
waited_pair app argv child reply none other = rw (none other) (by (child.number == other.number))
  where
    by : (b : Bool) → length (cond b (call (Wait child) reply ∷ []) []) ≡ length (cond b (start_call app argv child ∷ []) [])
    by true = refl
    by false = refl

pub handler_waited : (app : AppStart) (ran : ProgramRun) (handler : Option (List (List ℕ))) → AreWaitedFor (handler_calls app ran handler)
handler_waited app ran None other = refl
handler_waited app ran (Some argv) other = waited_pair app argv ran.child (Ended ran.status) (λ c. refl) other

module _ {observed : Bool} {old new : SpawnerAt} (app : AppStart) where
  -- a program that wasn't started, or not waited for
  pub unstarted : (argv : List (List ℕ)) → SpawnWasRefused observed (start_request app argv) old new → ProgramCut observed app argv old new
  unstarted argv w = record {
    ran = no_run;
    cut = call (start_request app argv) (Refused w.error) ∷ [];
    part = cut_refused [] (start_call app argv no_child) (wait_call no_child 0 ∷ []) w.error;
    waited = λ other. refl;
    asked = w.asked;
  }

  pub unwaited : (argv : List (List ℕ)) (child : Child) (mid : SpawnerAt) → Asks observed old (start_call app argv child ∷ []) mid → SpawnWasRefused observed (wait_request child) mid new → ProgramCut observed app argv old new
  unwaited argv child mid started w = record {
    ran = record { child = child; status = 0 };
    cut = start_call app argv child ∷ call (Wait child) (Refused w.error) ∷ [];
    part = cut_refused (start_call app argv child ∷ []) (wait_call child 0) [] w.error;
    waited = waited_pair app argv child (Refused w.error) (λ other. refl);
    asked = asks_more (start_call app argv child ∷ []) (call (Wait child) (Refused w.error) ∷ []) started w.asked;
  }

  -- an app's root wasn't made ready
  pub unready : SpawnWasRefused observed (ready_request app) old new → PreludeCut observed app old new
  unready w = record {
    ran = no_run;
    cut = call (ready_request app) (Refused w.error) ∷ [];
    part = cut_refused [] (ready_call app) (handler_calls app no_run app.launch.pre_start) w.error;
    waited = λ other. refl;
    asked = w.asked;
  }

  -- it was, and then the handler ran, or not
  pub ran_prelude : (status : ℕ) (mid : SpawnerAt) → Asks observed old (ready_call app ∷ []) mid → RanHandler observed app app.launch.pre_start status mid new → RanPrelude observed app status old new
  ran_prelude status mid ready r = record { ran = r.ran; is = r.is; asked = asks_more (ready_call app ∷ []) (handler_calls app r.ran app.launch.pre_start) ready r.asked }

  pub prelude_cut : (mid : SpawnerAt) → Asks observed old (ready_call app ∷ []) mid → HandlerCut observed app app.launch.pre_start mid new → PreludeCut observed app old new
  prelude_cut mid ready w = record {
    ran = w.ran;
    cut = ready_call app ∷ w.cut;
    part = cut_behind (ready_call app ∷ []) (handler_calls app w.ran app.launch.pre_start) w.cut w.part;
    waited = waited_more (ready_call app ∷ []) w.cut (λ other. refl) w.waited;
    asked = asks_more (ready_call app ∷ []) w.cut ready w.asked;
  }

  -- the main program was started, or not
  pub went_running : (status : ℕ) (child : Child) → status ≡ 0 → Asks observed old (start_call app app.launch.main child ∷ []) new → StartedMain observed app status (Running child) old new
  went_running status child is a = subst (λ (n : ℕ). StartedMain observed app n (Running child) old new) (sym is) (record { main = child; is = refl; asked = a })

  pub going_cut : (status : ℕ) → status ≡ 0 → SpawnWasRefused observed (start_request app app.launch.main) old new → MainStartCut observed app status old new
  going_cut status is w =
      subst (λ (n : ℕ). MainStartCut observed app n old new) (sym is)
      (record {
        main = no_child;
        cut = call (start_request app app.launch.main) (Refused w.error) ∷ [];
        part = cut_refused [] (start_call app app.launch.main no_child) [] w.error;
        waited = λ other. refl;
        asked = w.asked;
      })

-- it isn't started after another status
pub went_ended : {observed : Bool} {s : SpawnerAt} (app : AppStart) (status : ℕ) → (status == 0) ≡ false → StartedMain observed app status (stand.Ended status) s s
went_ended {observed} {s} app status other = record {
  main = no_child;
  is = rw other refl;
  asked = subst (λ (b : Bool). Asks observed s (cond b (start_call app app.launch.main no_child ∷ []) []) s) (sym other) asks_none;
}

pub going_none : {observed : Bool} {s : SpawnerAt} (app : AppStart) (status : ℕ) → MainStartCut observed app status s s
going_none app status = record { main = no_child; cut = []; part = cut_none (main_calls_after app status no_child); waited = waited_none; asked = asks_none }

-- an app began
abbrev beginning : AppStart → ProgramRun → Child → Beginning
beginning app ran main = record { app = app; handler = ran; main = main }

pub broken_none : {observed : Bool} {s : SpawnerAt} (app : AppStart) → IsInterrupted observed app s s
broken_none app = record { begun = beginning app no_run no_child; is = refl; cut = []; part = cut_none (first_calls (beginning app no_run no_child)); waited = waited_none; asked = asks_none }

main_so : (app : AppStart) (status : ℕ) (ran : ProgramRun) → status ≡ handler_status ran app.launch.pre_start → (main : Child) → main_calls_after app status main ≡ main_calls (beginning app ran main)
main_so app status ran is main = ap (λ (n : ℕ). main_calls_after app n main) is

module _ {observed : Bool} {old new : SpawnerAt} (app : AppStart) where
  pub broken_early : PreludeCut observed app old new → IsInterrupted observed app old new
  broken_early w = record {
    begun = beginning app w.ran no_child;
    is = refl;
    cut = w.cut;
    part = cut_before (prelude_calls app w.ran) (main_calls (beginning app w.ran no_child)) w.cut w.part;
    waited = w.waited;
    asked = w.asked;
  }

  module _ (status : ℕ) (mid : SpawnerAt) (p : RanPrelude observed app status old mid) where
    pub has_begun : (at : Stand) → StartedMain observed app status at mid new → AppHasBegun observed app at old new
    has_begun at w = record {
      begun = beginning app p.ran w.main;
      is = refl;
      stands = w.is ∙ ap (λ (n : ℕ). cond (n == 0) (Running w.main) (stand.Ended n)) p.is;
      asked = subst (λ (l : List SpawnCall). Asks observed old (prelude_calls app p.ran ++ l) new) (main_so app status p.ran p.is w.main) (asks_more (prelude_calls app p.ran) (main_calls_after app status w.main) p.asked w.asked);
    }

    pub broken_late : MainStartCut observed app status mid new → IsInterrupted observed app old new
    broken_late w = record {
      begun = beginning app p.ran w.main;
      is = refl;
      cut = prelude_calls app p.ran ++ w.cut;
      part = subst (λ (l : List SpawnCall). IsCutOff (prelude_calls app p.ran ++ l) (prelude_calls app p.ran ++ w.cut)) (main_so app status p.ran p.is w.main) (cut_behind (prelude_calls app p.ran) (main_calls_after app status w.main) w.cut w.part);
      waited = waited_more (prelude_calls app p.ran) w.cut (waited_more (ready_call app ∷ []) (handler_calls app p.ran app.launch.pre_start) (λ other. refl) (handler_waited app p.ran app.launch.pre_start)) w.waited;
      asked = asks_more (prelude_calls app p.ran) w.cut p.asked w.asked;
    }
