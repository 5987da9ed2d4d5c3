-- Apps and their stands, one more and one after the other.
use Rattle.std.proofs.Common.{arith, ◌≡◌, ◌<◌, ◌+◌, ℕ, zero, suc, Bool, List, [], ◌∷◌, ◌++◌, length, take, drop, map, get_or, sym, ap, subst, ◌∙◌, append-nil}
use Rattle.std.specs.List.{AllByRecursion, flat_map}
use Rattle.std.proofs.lemmas.Grind.{flat_map-append}
use Rattle.std.proofs.lemmas.List.{drop_more, take-append-drop}
use Rattle.dir_model.proofs.Lists.{all_weaker, map_push}
use Rattle.dir_trait.specs.DirCalls.{DirAt}
use Rattle.spawner.specs.declared.call.Child.{Child}
use Rattle.spawner.specs.declared.call.RootPlace.{RootPlace}
use Rattle.spawner.specs.declared.call.SpawnCall.{SpawnCall}
use Rattle.spawner.specs.Calls.{SpawnerAt}
use Rattle.stage1.specs.declared.start.AppStart.{AppStart}
use Rattle.stage1.specs.declared.stand.Stand.{Stand}
use Rattle.stage1.specs.declared.stand.Stand.TheVariants.{Running, Ended}
use Rattle.stage1.specs.Sequences.{Beginning, first_calls}
use Rattle.stage1.specs.Asking.{Asks, StartedIn}
use Rattle.stage1.specs.Notes.{StaysAble, IsMarked}
use Rattle.stage1.specs.Beginnings.{app_state_of, AreMarked, IsStartedIn, AreStartedIn, IsStatusWritten, AreStatusesWritten, AppHasBegun, HaveBegun}
use Rattle.stage1.proofs.Asked.{asks_none, asks_more}

-- an element of a list
pub at_place : {A : Type 0} (P : A → Type 0) (xs : List A) (i : ℕ) (x : A) → i < length xs → x ≡ get_or xs i x → AllByRecursion P xs → P x
at_place P [] i x h is all = absurd (omega (arith, h))
at_place P (y ∷ ys) zero x h is all = subst P (sym is) all.0
at_place P (y ∷ ys) (suc i) x h is all = at_place P ys i x (omega (arith, h)) is all.1

pub parted_at : {A : Type 0} (xs : List A) (i : ℕ) (x : A) → i < length xs → x ≡ get_or xs i x → xs ≡ take i xs ++ x ∷ drop (i + 1) xs
parted_at xs i x h is = sym (take-append-drop i xs) ∙ ap (λ l. take i xs ++ l) (drop_more xs i x h ∙ ap (λ y. y ∷ drop (i + 1) xs) (sym is))

-- the children that run stay known
pub started_still : (old new : List SpawnCall) → ((root : RootPlace) (child : Child) → StartedIn root child old → StartedIn root child new) → (app : AppStart) (stand : Stand) → IsStartedIn old app stand → IsStartedIn new app stand
started_still old new kept app (Running child) s = kept app.root child s
started_still old new kept app (Ended status) s = tt

pub are_started_still : (old new : List SpawnCall) → ((root : RootPlace) (child : Child) → StartedIn root child old → StartedIn root child new) → (starts : List AppStart) (stands : List Stand) → AreStartedIn old starts stands → AreStartedIn new starts stands
are_started_still old new kept [] [] s = tt
are_started_still old new kept [] (stand ∷ stands) s = absurd s
are_started_still old new kept (app ∷ starts) [] s = absurd s
are_started_still old new kept (app ∷ starts) (stand ∷ stands) s = (started_still old new kept app stand s.0, are_started_still old new kept starts stands s.1)

pub started_push : (calls : List SpawnCall) (starts : List AppStart) (stands : List Stand) (app : AppStart) (stand : Stand) → AreStartedIn calls starts stands → IsStartedIn calls app stand → AreStartedIn calls (starts ++ app ∷ []) (stands ++ stand ∷ [])
started_push calls [] [] app stand s one = (one, tt)
started_push calls [] (s' ∷ stands) app stand s one = absurd s
started_push calls (a ∷ starts) [] app stand s one = absurd s
started_push calls (a ∷ starts) (s' ∷ stands) app stand s one = (s.0, started_push calls starts stands app stand s.1 one)

pub started_at : (calls : List SpawnCall) (starts : List AppStart) (stands : List Stand) (i : ℕ) (app : AppStart) (stand : Stand) → i < length starts → app ≡ get_or starts i app → stand ≡ get_or stands i stand → AreStartedIn calls starts stands → IsStartedIn calls app stand
started_at calls [] stands i app stand h at at' s = absurd (omega (arith, h))
started_at calls (a ∷ starts) [] i app stand h at at' s = absurd s
started_at calls (a ∷ starts) (s' ∷ stands) zero app stand h at at' s = subst (λ (x : AppStart). IsStartedIn calls x stand) (sym at) (subst (λ (x : Stand). IsStartedIn calls a x) (sym at') s.0)
started_at calls (a ∷ starts) (s' ∷ stands) (suc i) app stand h at at' s = started_at calls starts stands i app stand (omega (arith, h)) at at' s.1

-- statuses stay written
pub written_still : {old new : DirAt} → StaysAble old new → (app : AppStart) (stand : Stand) → IsStatusWritten old app stand → IsStatusWritten new app stand
written_still stays app (Running child) w = tt
written_still stays app (Ended status) w = stays.wrote app.root status w

pub are_written_still : {old new : DirAt} → StaysAble old new → (starts : List AppStart) (stands : List Stand) → AreStatusesWritten old starts stands → AreStatusesWritten new starts stands
are_written_still stays [] [] w = tt
are_written_still stays [] (stand ∷ stands) w = absurd w
are_written_still stays (app ∷ starts) [] w = absurd w
are_written_still stays (app ∷ starts) (stand ∷ stands) w = (written_still stays app stand w.0, are_written_still stays starts stands w.1)

pub written_push : (d : DirAt) (starts : List AppStart) (stands : List Stand) (app : AppStart) (stand : Stand) → AreStatusesWritten d starts stands → IsStatusWritten d app stand → AreStatusesWritten d (starts ++ app ∷ []) (stands ++ stand ∷ [])
written_push d [] [] app stand w one = (one, tt)
written_push d [] (s ∷ stands) app stand w one = absurd w
written_push d (a ∷ starts) [] app stand w one = absurd w
written_push d (a ∷ starts) (s ∷ stands) app stand w one = (w.0, written_push d starts stands app stand w.1 one)

pub written_at : (d : DirAt) (starts : List AppStart) (stands : List Stand) (i : ℕ) (app : AppStart) (stand : Stand) → i < length starts → app ≡ get_or starts i app → stand ≡ get_or stands i stand → AreStatusesWritten d starts stands → IsStatusWritten d app stand
written_at d [] stands i app stand h at at' w = absurd (omega (arith, h))
written_at d (a ∷ starts) [] i app stand h at at' w = absurd w
written_at d (a ∷ starts) (s ∷ stands) zero app stand h at at' w = subst (λ (x : AppStart). IsStatusWritten d x stand) (sym at) (subst (λ (x : Stand). IsStatusWritten d a x) (sym at') w.0)
written_at d (a ∷ starts) (s ∷ stands) (suc i) app stand h at at' w = written_at d starts stands i app stand (omega (arith, h)) at at' w.1

-- whatever may be started may still
pub may_still : {old new : DirAt} → StaysAble old new → (starts : List AppStart) → AreMarked old starts → AreMarked new starts
may_still {old} {new} stays starts m = all_weaker (λ app. IsMarked old app.root) (λ app. IsMarked new app.root) (λ app x. stays.may app.root x) starts m

-- one app more has begun
pub begun_none : {observed : Bool} {s : SpawnerAt} (starts : List AppStart) (stands : List Stand) → starts ≡ [] → stands ≡ [] → HaveBegun observed starts stands s s
begun_none starts stands no_starts no_stands = record { begun = []; apps = sym no_starts; stand = no_stands; asked = asks_none }

pub begun_more : {observed : Bool} {a b c : SpawnerAt} (starts : List AppStart) (stands : List Stand) (app : AppStart) (stand : Stand) → HaveBegun observed starts stands a b → AppHasBegun observed app stand b c → HaveBegun observed (starts ++ app ∷ []) (stands ++ stand ∷ []) a c
begun_more {observed} {a} {b} {c} starts stands app stand h one = record {
  begun = h.begun ++ one.begun ∷ [];
  apps = map_push (λ x. x.app) h.begun one.begun ∙ (ap (λ (l : List AppStart). l ++ one.begun.app ∷ []) h.apps ∙ ap (λ (x : AppStart). starts ++ x ∷ []) one.is);
  stand = ap (λ (l : List Stand). l ++ stand ∷ []) h.stand ∙ (ap (λ (x : Stand). map app_state_of h.begun ++ x ∷ []) one.stands ∙ sym (map_push app_state_of h.begun one.begun));
  asked = subst (λ (l : List SpawnCall). Asks observed a l c) (sym (calls_push h.begun one.begun)) (asks_more (flat_map first_calls h.begun) (first_calls one.begun) h.asked one.asked);
}
  where
    calls_push : (bs : List Beginning) (x : Beginning) → flat_map first_calls (bs ++ x ∷ []) ≡ flat_map first_calls bs ++ first_calls x
    calls_push bs x = flat_map-append first_calls bs (x ∷ []) ∙ ap (λ (l : List SpawnCall). flat_map first_calls bs ++ l) (append-nil (first_calls x))

pub started_none : (calls : List SpawnCall) (starts : List AppStart) (stands : List Stand) → starts ≡ [] → stands ≡ [] → AreStartedIn calls starts stands
started_none calls starts stands no_starts no_stands = rw (no_starts, no_stands) tt

pub written_none : (d : DirAt) (starts : List AppStart) (stands : List Stand) → starts ≡ [] → stands ≡ [] → AreStatusesWritten d starts stands
written_none d starts stands no_starts no_stands = rw (no_starts, no_stands) tt
