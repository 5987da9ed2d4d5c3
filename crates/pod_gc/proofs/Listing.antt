-- An area of pods is listed.
use Rattle.std.proofs.Common.{◌≡◌, ◌&&◌, ℕ, Bool, true, Result, Ok, Err, List, refl, ap}
use Rattle.dir_model.specs.declared.area.Area.{Area}
use Rattle.dir_model.specs.declared.request.DirError.{DirError}
use Rattle.dir_model.specs.declared.request.DirError.TheVariants.{Missing, Exists, NotEmpty, Locked, Failed}
use Rattle.dir_model.specs.declared.request.DirError.TheVariants as dir
use Rattle.dir_model.specs.declared.request.Request.TheVariants.{ListArea}
use Rattle.dir_model.specs.Areas.{rank, is_stage}
use Rattle.dir_model.proofs.Lists.{same_self}
use Rattle.dir_model.specs.Causes.{Rose}
use Rattle.dir_model.specs.Replies.{names_reply, may_refuse}
use Rattle.dir_rules.specs.declared.seen.Seen.{Seen}
use Rattle.dir_rules.specs.Conforms.{seen_listed}
use Rattle.dir_rules.proofs.Looks.{looks_there}
use Rattle.dir_trait.specs.DirCalls.{DirAt, ListCall}
use Rattle.dir_trait.proofs.ListCalls.{list_extends, knows_names}
use Rattle.dir_trait.specs.Effects.{OnlyAsks, Given}
use Rattle.pod_locks.specs.Holding.{KeepsHoldings, KeepsReady}
use Rattle.pod_gc.specs.Requests.{lists_pod_area}
use Rattle.pod_gc.specs.Causes.{listing_fault, GcCause}
use Rattle.pod_gc.specs.Sweeping.{MayPassPods}

listing_keeps : {place : Area} {now expire : ℕ} (s : Seen) (r : Result (List (List ℕ)) DirError) → is_stage place ≡ true → MayPassPods place now expire s → KeepsHoldings s (seen_listed s (ListArea place) (names_reply r))
listing_keeps {place} s (Ok names) stage m = record { intent = refl; holdings = refl; kept = ap (λ b. b && (b && s.kept)) (looks_there s place stage); bare = m.sweeps.may.bare }
listing_keeps {place} s (Err e) stage m = record { intent = refl; holdings = refl; kept = ap (λ b. b && (b && s.kept)) (looks_there s place stage); bare = m.sweeps.may.bare }

pub ready_area : {observed : Bool} {now expire : ℕ} {old new : DirAt} (place : Area) (r : Result (List (List ℕ)) DirError) → is_stage place ≡ true → ListCall observed old (ListArea place) (names_reply r) new → observed ≡ true → Given (MayPassPods place now expire) old (λ s. KeepsReady s new)
ready_area place r stage x t s k m = record { known = _; keeps = listing_keeps s r stage m; knows = knows_names place r t k x }

pub worked_area : {observed : Bool} {old new : DirAt} (place : Area) (r : Result (List (List ℕ)) DirError) → ListCall observed old (ListArea place) (names_reply r) new → OnlyAsks observed (lists_pod_area place) old new
worked_area {observed} {old} {new} place r x = record { same = x.same; faults = x.faults; local = by r x; extends = λ t. list_extends (same_self (rank place)) (x.step t) }
  where
    by : (r : Result (List (List ℕ)) DirError) → ListCall observed old (ListArea place) (names_reply r) new → new.local ≡ old.local
    by (Ok names) x = x.local
    by (Err e) x = x.local

pub area_cause : {observed : Bool} {old new : DirAt} (place : Area) (e : DirError) → may_refuse (ListArea place) e ≡ true → (e ≡ Failed → Rose old.faults new.faults) → GcCause observed (listing_fault e) old new
area_cause place Failed may rose = record { fault = λ is. rose refl; stray = λ is. cc }
area_cause place dir.NoMemory may rose = record { fault = λ is. cc; stray = λ is. cc }
area_cause place Missing may rose = cc
area_cause place Exists may rose = cc
area_cause place NotEmpty may rose = cc
area_cause place Locked may rose = cc
