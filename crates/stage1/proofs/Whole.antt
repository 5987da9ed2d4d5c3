-- A run as a whole: each app begins and ends, and each child is waited for as often as it was started.
use Rattle.std.proofs.Common.{arith, ◌≡◌, ◌+◌, ℕ, ◌==◌, Bool, true, false, cond, List, [], ◌∷◌, ◌++◌, map, filter, length, length-append, refl, sym, ap, subst, ◌∙◌, append-nil}
use Rattle.std.specs.List.{flat_map}
use Rattle.std.proofs.lemmas.Grind.{flat_map-append}
use Rattle.std.proofs.lemmas.List.{map-append}
use Rattle.std.proofs.lemmas.List.Elements.{filter-append}
use Rattle.spawner.specs.declared.call.Child.{Child}
use Rattle.spawner.specs.declared.call.SpawnCall.{SpawnCall}
use Rattle.spawner.specs.Calls.{SpawnerAt}
use Rattle.stage1.specs.declared.start.AppStart.{AppStart}
use Rattle.stage1.specs.declared.stand.Stand.{Stand}
use Rattle.stage1.specs.declared.stand.Stand.TheVariants.{Running, Ended}
use Rattle.stage1.specs.Sequences.{ProgramRun, Beginning, Ending, start_call, wait_call, handler_calls, first_status, starts_main, main_calls, first_calls, later_calls, app_status_of, launch_sequence}
use Rattle.stage1.specs.Asking.{Asks}
use Rattle.stage1.specs.Cutting.{IsCutOff, count_of_starts, waits_for, AreWaitedFor, is_wait, AreWaits, IsCutShort}
use Rattle.stage1.specs.Beginnings.{running, app_state_of, WaitFor, HaveBegun, AreInterrupted}
use Rattle.stage1.specs.Endings.{count_of_child, EndsFromStand, EndsCut, HaveEnded, AreEndsBroken, WereWaitedFor}
use Rattle.stage1.specs.Runs.{HaveRun}
use Rattle.stage1.proofs.Asked.{asks_none, asks_more}
use Rattle.stage1.proofs.Counting.{starts_more, waits_more}
use Rattle.stage1.proofs.Cuts.{cut_none, cut_whole, cut_behind, cut_before}
use Rattle.stage1.proofs.OneApp.{no_child, no_run, handler_waited}
use Rattle.stage1.proofs.OneEnd.{wait_times, beside_more, wait_alone}
use Rattle.stage1.proofs.Ends.{running_more}

-- any beginning of an app, and any ending
abbrev some_beginning : AppStart → Beginning
some_beginning app = record { app = app; handler = no_run; main = no_child }

abbrev some_ending : Beginning → Ending
some_ending b = record { begun = b; status = 0; handler = no_run }

apps_begun : (starts : List AppStart) → map (λ b. b.app) (map some_beginning starts) ≡ starts
apps_begun [] = refl
apps_begun (app ∷ starts) = ap (λ (l : List AppStart). app ∷ l) (apps_begun starts)

begun_ended : (bs : List Beginning) → map (λ e. e.begun) (map some_ending bs) ≡ bs
begun_ended [] = refl
begun_ended (b ∷ bs) = ap (λ (l : List Beginning). b ∷ l) (begun_ended bs)

apps_of : (es : List Ending) → map (λ e. e.begun.app) es ≡ map (λ b. b.app) (map (λ e. e.begun) es)
apps_of [] = refl
apps_of (e ∷ es) = ap (λ (l : List AppStart). e.begun.app ∷ l) (apps_of es)

-- how often a child is among several
times_more : (other : Child) (xs ys : List Child) → count_of_child other (xs ++ ys) ≡ count_of_child other xs + count_of_child other ys
times_more other xs ys = ap length (filter-append (λ c. c.number == other.number) xs ys) ∙ length-append (filter (λ c. c.number == other.number) xs) (filter (λ c. c.number == other.number) ys)

running_first : (other : Child) (stand : Stand) (stands : List Stand) → count_of_child other (running (stand ∷ stands)) ≡ count_of_child other (running (stand ∷ [])) + count_of_child other (running stands)
running_first other stand stands = ap (λ (l : List Child). count_of_child other l) (running_more (stand ∷ []) stands) ∙ times_more other (running (stand ∷ [])) (running stands)

-- what begins: a main program that was started is still to be waited for
main_count : (b : Beginning) (other : Child) → (waits_for other (main_calls b) + count_of_child other (running (app_state_of b ∷ []))) ≡ count_of_starts other (main_calls b)
main_count b other = by (starts_main b)
  where
    by : (m : Bool) → (waits_for other (cond m (start_call b.app b.app.launch.main b.main ∷ []) []) + count_of_child other (running (cond m (Running b.main) (Ended (first_status b)) ∷ []))) ≡ count_of_starts other (cond m (start_call b.app b.app.launch.main b.main ∷ []) [])
    by true = one (b.main.number == other.number)
      where
        one : (n : Bool) → (0 + length (cond n (b.main ∷ []) [])) ≡ length (cond n (start_call b.app b.app.launch.main b.main ∷ []) [])
        one true = refl
        one false = refl
    by false = refl

first_count : (b : Beginning) (other : Child) → (waits_for other (first_calls b) + count_of_child other (running (app_state_of b ∷ []))) ≡ count_of_starts other (first_calls b)
first_count b other =
    let handler = handler_calls b.app b.handler b.app.launch.pre_start in
    omega (arith, waits_more other handler (main_calls b), starts_more other handler (main_calls b), handler_waited b.app b.handler b.app.launch.pre_start other, main_count b other)

firsts_count : (bs : List Beginning) (other : Child) → (waits_for other (flat_map first_calls bs) + count_of_child other (running (map app_state_of bs))) ≡ count_of_starts other (flat_map first_calls bs)
firsts_count [] other = refl
firsts_count (b ∷ bs) other =
    omega (arith, waits_more other (first_calls b) (flat_map first_calls bs), starts_more other (first_calls b) (flat_map first_calls bs), running_first other (app_state_of b) (map app_state_of bs), first_count b other, firsts_count bs other)

-- what ends
later_count : (e : Ending) (other : Child) → waits_for other (later_calls e) ≡ count_of_starts other (later_calls e) + count_of_child other (running (app_state_of e.begun ∷ []))
later_count e other = by (starts_main e.begun)
  where
    by : (m : Bool) → waits_for other (cond m (wait_call e.begun.main e.status ∷ handler_calls e.begun.app e.handler e.begun.app.launch.post_stop) []) ≡ count_of_starts other (cond m (wait_call e.begun.main e.status ∷ handler_calls e.begun.app e.handler e.begun.app.launch.post_stop) []) + count_of_child other (running (cond m (Running e.begun.main) (Ended (first_status e.begun)) ∷ []))
    by true = beside_more (e.begun.main ∷ []) (wait_call e.begun.main e.status ∷ []) (handler_calls e.begun.app e.handler e.begun.app.launch.post_stop) (wait_alone e.begun.main e.status) (handler_waited e.begun.app e.handler e.begun.app.launch.post_stop) other
    by false = refl

laters_count : (es : List Ending) (other : Child) → waits_for other (flat_map later_calls es) ≡ count_of_starts other (flat_map later_calls es) + count_of_child other (running (map app_state_of (map (λ e. e.begun) es)))
laters_count [] other = refl
laters_count (e ∷ es) other =
    omega (arith, waits_more other (later_calls e) (flat_map later_calls es), starts_more other (later_calls e) (flat_map later_calls es), running_first other (app_state_of e.begun) (map app_state_of (map (λ x. x.begun) es)), later_count e other, laters_count es other)

whole_waited : (es : List Ending) → AreWaitedFor (launch_sequence es)
whole_waited es other =
    let bs = map (λ e. e.begun) es in
    omega (arith, waits_more other (flat_map first_calls bs) (flat_map later_calls es), starts_more other (flat_map first_calls bs) (flat_map later_calls es), firsts_count bs other, laters_count es other)

-- calls that only wait
only_waits : (children : List Child) (calls : List SpawnCall) → WaitFor children calls → AreWaits calls
only_waits [] [] w = tt
only_waits [] (c ∷ calls) w = absurd w
only_waits (child ∷ children) [] w = absurd w
only_waits (child ∷ children) (c ∷ calls) w = (ap is_wait w.0, only_waits children calls w.1)

-- the ending of one app, and of several
record OneEnding (observed : Bool) (b : Beginning) (status : ℕ) (old new : SpawnerAt) : Type 0 where
  ran : ProgramRun
  status_is : app_status_of (record { begun = b; status = status; handler = ran }) ≡ status
  asked : Asks observed old (later_calls (record { begun = b; status = status; handler = ran })) new

one_ended : (observed : Bool) (b : Beginning) (status : ℕ) (old new : SpawnerAt) → EndsFromStand observed b.app (app_state_of b) status old new → OneEnding observed b status old new
one_ended observed b status old new h = let p = by (starts_main b) h in record { ran = p.0; status_is = p.1; asked = p.2 }
  where
    by : (m : Bool) → EndsFromStand observed b.app (cond m (Running b.main) (Ended (first_status b))) status old new → (ran : ProgramRun) × (cond m status (first_status b) ≡ status) × Asks observed old (cond m (wait_call b.main status ∷ handler_calls b.app ran b.app.launch.post_stop) []) new
    by true h = (h.ran, refl, h.asked)
    by false h = (no_run, sym h.0, h.1)

record EndedAs (observed : Bool) (begun : List Beginning) (statuses : List ℕ) (old new : SpawnerAt) : Type 0 where
  endings : List Ending
  begun_are : map (λ e. e.begun) endings ≡ begun
  statuses_are : map app_status_of endings ≡ statuses
  asked : Asks observed old (flat_map later_calls endings) new

ended_as : (observed : Bool) (begun : List Beginning) (statuses : List ℕ) (old new : SpawnerAt) → HaveEnded observed (map (λ b. b.app) begun) (map app_state_of begun) statuses old new → EndedAs observed begun statuses old new
ended_as observed [] [] old new h = record { endings = []; begun_are = refl; statuses_are = refl; asked = h }
ended_as observed [] (s ∷ statuses) old new h = absurd h
ended_as observed (b ∷ begun) [] old new h = absurd h
ended_as observed (b ∷ begun) (s ∷ statuses) old new h =
    let one = one_ended observed b s old h.between h.ends in
    let rest = ended_as observed begun statuses h.between new h.later in
    let e : Ending = record { begun = b; status = s; handler = one.ran } in
    record {
      endings = e ∷ rest.endings;
      begun_are = ap (λ (l : List Beginning). b ∷ l) rest.begun_are;
      statuses_are = ap (λ (n : ℕ). n ∷ map app_status_of rest.endings) one.status_is ∙ ap (λ (l : List ℕ). s ∷ l) rest.statuses_are;
      asked = asks_more (later_calls e) (flat_map later_calls rest.endings) one.asked rest.asked;
    }

-- all apps began and ended
pub have_run : {observed : Bool} {a b c : SpawnerAt} (starts : List AppStart) (stands : List Stand) (statuses : List ℕ) → HaveBegun observed starts stands a b → HaveEnded observed starts stands statuses b c → HaveRun observed starts statuses a c
have_run {observed} {a} {b} {c} starts stands statuses h ended =
    let so = subst (λ (l : List AppStart). HaveEnded observed l (map app_state_of h.begun) statuses b c) (sym h.apps) (subst (λ (l : List Stand). HaveEnded observed starts l statuses b c) h.stand ended) in
    let e = ended_as observed h.begun statuses b c so in
    record {
      endings = e.endings;
      apps = apps_of e.endings ∙ (ap (λ (l : List Beginning). map (λ x. x.app) l) e.begun_are ∙ h.apps);
      statuses_are = e.statuses_are;
      asked = subst (λ (l : List Beginning). Asks observed a (flat_map first_calls l ++ flat_map later_calls e.endings) c) (sym e.begun_are) (asks_more (flat_map first_calls h.begun) (flat_map later_calls e.endings) h.asked e.asked);
    }

-- nothing began
pub cut_nothing : {observed : Bool} {s : SpawnerAt} (starts : List AppStart) → IsCutShort observed starts s s
cut_nothing starts = record {
  endings = map some_ending (map some_beginning starts);
  apps = apps_of (map some_ending (map some_beginning starts)) ∙ (ap (λ (l : List Beginning). map (λ x. x.app) l) (begun_ended (map some_beginning starts)) ∙ apps_begun starts);
  cut = [];
  waits = [];
  part = cut_none (launch_sequence (map some_ending (map some_beginning starts)));
  only = tt;
  once = λ other. refl;
  asked = asks_none;
}

-- all came to their ends
pub cut_all : {observed : Bool} {old new : SpawnerAt} (starts : List AppStart) (statuses : List ℕ) → HaveRun observed starts statuses old new → IsCutShort observed starts old new
cut_all {observed} {old} {new} starts statuses h = record {
  endings = h.endings;
  apps = h.apps;
  cut = launch_sequence h.endings;
  waits = [];
  part = cut_whole (launch_sequence h.endings);
  only = tt;
  once = subst (λ (l : List SpawnCall). AreWaitedFor l) (sym (append-nil (launch_sequence h.endings))) (whole_waited h.endings);
  asked = subst (λ (l : List SpawnCall). Asks observed old l new) (sym (append-nil (launch_sequence h.endings))) h.asked;
}

-- the beginning of one was cut short
pub cut_begun : {observed : Bool} {a b c : SpawnerAt} (starts : List AppStart) (stands : List Stand) → AreInterrupted observed starts stands a b → WereWaitedFor observed (running stands) b c → IsCutShort observed starts a c
cut_begun {observed} {a} {b} {c} starts stands o w =
    let h = o.begun in
    let x = o.broken in
    let firsts = flat_map first_calls h.begun in
    let later = map some_beginning o.rest in
    let bs = h.begun ++ x.begun ∷ later in
    let endings = map some_ending bs in
    let split : flat_map first_calls (map (λ e. e.begun) endings) ≡ firsts ++ (first_calls x.begun ++ flat_map first_calls later) = ap (λ (l : List Beginning). flat_map first_calls l) (begun_ended bs) ∙ flat_map-append first_calls h.begun (x.begun ∷ later) in
    record {
      endings = endings;
      apps =
          apps_of endings
          ∙ (ap (λ (l : List Beginning). map (λ y. y.app) l) (begun_ended bs)
          ∙ (map-append (λ (y : Beginning). y.app) h.begun (x.begun ∷ later)
          ∙ (ap (λ (l : List AppStart). l ++ x.begun.app ∷ map (λ y. y.app) later) h.apps
          ∙ (ap (λ (y : AppStart). o.done ++ y ∷ map (λ z. z.app) later) x.is ∙ (ap (λ (l : List AppStart). o.done ++ o.next ∷ l) (apps_begun o.rest) ∙ sym o.parted)))));
      cut = firsts ++ x.cut;
      waits = w.calls;
      part = subst (λ (l : List SpawnCall). IsCutOff (l ++ flat_map later_calls endings) (firsts ++ x.cut)) (sym split) (cut_before (firsts ++ (first_calls x.begun ++ flat_map first_calls later)) (flat_map later_calls endings) (firsts ++ x.cut) (cut_behind firsts (first_calls x.begun ++ flat_map first_calls later) x.cut (cut_before (first_calls x.begun) (flat_map first_calls later) x.cut x.part)));
      only = only_waits (running stands) w.calls w.waits;
      once = λ other.
          let same : count_of_child other (running stands) ≡ count_of_child other (running (map app_state_of h.begun)) = ap (λ (l : List Stand). count_of_child other (running l)) h.stand in
          omega (arith, waits_more other (firsts ++ x.cut) w.calls, starts_more other (firsts ++ x.cut) w.calls, waits_more other firsts x.cut, starts_more other firsts x.cut, firsts_count h.begun other, same, x.waited other, wait_times (running stands) w.calls w.waits other, w.none other);
      asked = asks_more (firsts ++ x.cut) w.calls (asks_more firsts x.cut h.asked x.asked) w.asked;
    }

-- the ending of one was cut short
record CutLater (observed : Bool) (begun : List Beginning) (others : List Stand) (old new : SpawnerAt) : Type 0 where
  endings : List Ending
  begun_are : map (λ e. e.begun) endings ≡ begun
  calls : List SpawnCall
  part : IsCutOff (flat_map later_calls endings) calls
  count : (other : Child) → (waits_for other calls + count_of_child other (running others)) ≡ count_of_starts other calls + count_of_child other (running (map app_state_of begun))
  asked : Asks observed old calls new

record OneCut (observed : Bool) (b : Beginning) (old new : SpawnerAt) : Type 0 where
  status : ℕ
  ran : ProgramRun
  calls : List SpawnCall
  part : IsCutOff (later_calls (record { begun = b; status = status; handler = ran })) calls
  count : (other : Child) → waits_for other calls ≡ count_of_starts other calls + count_of_child other (running (app_state_of b ∷ []))
  asked : Asks observed old calls new

one_cut : (observed : Bool) (b : Beginning) (old new : SpawnerAt) → EndsCut observed b.app (app_state_of b) old new → OneCut observed b old new
one_cut observed b old new h = let p = by (starts_main b) h in record { status = p.0; ran = p.1; calls = p.2; part = p.3; count = p.4; asked = p.5 }
  where
    by : (m : Bool) → EndsCut observed b.app (cond m (Running b.main) (Ended (first_status b))) old new
        → (status : ℕ) × (ran : ProgramRun) × (calls : List SpawnCall) × IsCutOff (cond m (wait_call b.main status ∷ handler_calls b.app ran b.app.launch.post_stop) []) calls × ((other : Child) → waits_for other calls ≡ count_of_starts other calls + count_of_child other (running (cond m (Running b.main) (Ended (first_status b)) ∷ []))) × Asks observed old calls new
    by true h = (h.status, h.ran, h.cut, h.part, h.waited, h.asked)
    by false h = (0, no_run, [], cut_none [], λ other. refl, h)

cut_here : (observed : Bool) (b : Beginning) (bs : List Beginning) (others : List Stand) (old new : SpawnerAt) → map app_state_of bs ≡ others → OneCut observed b old new → CutLater observed (b ∷ bs) others old new
cut_here observed b bs others old new same one =
    let e : Ending = record { begun = b; status = one.status; handler = one.ran } in
    record {
      endings = e ∷ map some_ending bs;
      begun_are = ap (λ (l : List Beginning). b ∷ l) (begun_ended bs);
      calls = one.calls;
      part = cut_before (later_calls e) (flat_map later_calls (map some_ending bs)) one.calls one.part;
      count = λ other.
          let at : count_of_child other (running (map app_state_of bs)) ≡ count_of_child other (running others) = ap (λ (l : List Stand). count_of_child other (running l)) same in
          omega (arith, one.count other, at, running_first other (app_state_of b) (map app_state_of bs));
      asked = one.asked;
    }

cut_there : (observed : Bool) (b : Beginning) (bs : List Beginning) (status : ℕ) (others : List Stand) (old mid new : SpawnerAt) → OneEnding observed b status old mid → CutLater observed bs others mid new → CutLater observed (b ∷ bs) others old new
cut_there observed b bs status others old mid new one rest =
    let e : Ending = record { begun = b; status = status; handler = one.ran } in
    record {
      endings = e ∷ rest.endings;
      begun_are = ap (λ (l : List Beginning). b ∷ l) rest.begun_are;
      calls = later_calls e ++ rest.calls;
      part = cut_behind (later_calls e) (flat_map later_calls rest.endings) rest.calls rest.part;
      count = λ other. omega (arith, waits_more other (later_calls e) rest.calls, starts_more other (later_calls e) rest.calls, later_count e other, rest.count other, running_first other (app_state_of b) (map app_state_of bs));
      asked = asks_more (later_calls e) rest.calls one.asked rest.asked;
    }

cut_later : (observed : Bool) (begun : List Beginning) (done : List AppStart) (ended : List Stand) (statuses : List ℕ) (app : AppStart) (rest : List AppStart) (stand : Stand) (others : List Stand) (old mid new : SpawnerAt) → map (λ b. b.app) begun ≡ done ++ app ∷ rest → map app_state_of begun ≡ ended ++ stand ∷ others → HaveEnded observed done ended statuses old mid → EndsCut observed app stand mid new → CutLater observed begun others old new
cut_later observed [] [] ended statuses app rest stand others old mid new at at' h cut = cc
cut_later observed [] (d ∷ done) ended statuses app rest stand others old mid new at at' h cut = cc
cut_later observed (b ∷ bs) [] [] [] app rest stand others old mid new at at' h cut =
    let same_app : b.app ≡ app = cc in
    let same_stand : app_state_of b ≡ stand = cc in
    let left : map app_state_of bs ≡ others = cc in
    let here = subst (λ (x : AppStart). EndsCut observed x (app_state_of b) mid new) (sym same_app) (subst (λ (x : Stand). EndsCut observed app x mid new) (sym same_stand) cut) in
    let one = one_cut observed b mid new here in
    cut_here observed b bs others old new left (record { status = one.status; ran = one.ran; calls = one.calls; part = one.part; count = one.count; asked = asks_more [] one.calls h one.asked })
cut_later observed (b ∷ bs) (d ∷ done) (n ∷ ended) (s ∷ statuses) app rest stand others old mid new at at' h cut =
    let same_app : b.app ≡ d = cc in
    let same_stand : app_state_of b ≡ n = cc in
    let apps : map (λ x. x.app) bs ≡ done ++ app ∷ rest = cc in
    let left : map app_state_of bs ≡ ended ++ stand ∷ others = cc in
    let here = subst (λ (x : AppStart). EndsFromStand observed x (app_state_of b) s old h.between) (sym same_app) (subst (λ (x : Stand). EndsFromStand observed d x s old h.between) (sym same_stand) h.ends) in
    cut_there observed b bs s others old h.between new (one_ended observed b s old h.between here) (cut_later observed bs done ended statuses app rest stand others h.between mid new apps left h.later cut)
cut_later observed (b ∷ bs) _ _ _ app rest stand others old mid new at at' h cut = absurd h

pub cut_ended : {observed : Bool} {a b c : SpawnerAt} (starts : List AppStart) (stands : List Stand) → HaveBegun observed starts stands a b → AreEndsBroken observed starts stands b c → IsCutShort observed starts a c
cut_ended {observed} {a} {b} {c} starts stands h o =
    let x = o.cut in
    let w = o.waits in
    let l = cut_later observed h.begun x.done x.ended x.statuses x.app x.rest x.stand x.others b x.between o.between (h.apps ∙ x.apps) (sym h.stand ∙ x.stood) x.before x.cut in
    let firsts = flat_map first_calls h.begun in
    record {
      endings = l.endings;
      apps = apps_of l.endings ∙ (ap (λ (y : List Beginning). map (λ z. z.app) y) l.begun_are ∙ h.apps);
      cut = firsts ++ l.calls;
      waits = w.calls;
      part = subst (λ (y : List Beginning). IsCutOff (flat_map first_calls y ++ flat_map later_calls l.endings) (firsts ++ l.calls)) (sym l.begun_are) (cut_behind firsts (flat_map later_calls l.endings) l.calls l.part);
      only = only_waits (running x.others) w.calls w.waits;
      once = λ other. omega (arith, waits_more other (firsts ++ l.calls) w.calls, starts_more other (firsts ++ l.calls) w.calls, waits_more other firsts l.calls, starts_more other firsts l.calls, firsts_count h.begun other, l.count other, wait_times (running x.others) w.calls w.waits other, w.none other);
      asked = asks_more (firsts ++ l.calls) w.calls (asks_more firsts l.calls h.asked l.asked) w.asked;
    }
