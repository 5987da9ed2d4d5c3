-- Where a sweep ended early.
use Rattle.std.proofs.Common.{◌≡◌, inl, inr, ℕ, Bool, Some, Result, Ok, Err, IfErr, true, List, ◌∷◌, ◌++◌, refl, subst, ◌∙◌}
use Rattle.std.specs.List.Sorted.{IsStrictlySortedBy}
use Rattle.std.specs.Ordering.{nat_cmp}
use Rattle.std.specs.Cmp.Lexicographic.{slice_cmp}
use Rattle.dir_model.specs.declared.area.Area.{Area}
use Rattle.dir_model.specs.declared.area.Area.TheVariants.{Embryo}
use Rattle.dir_model.specs.declared.event.Event.{Event}
use Rattle.dir_model.specs.declared.request.Request.TheVariants.{ListArea}
use Rattle.dir_model.specs.declared.request.Reply.TheVariants.{Names}
use Rattle.dir_model.specs.declared.spot.Handle.{Handle}
use Rattle.dir_model.specs.declared.spot.Mode.TheVariants.{Exclusive}
use Rattle.dir_model.specs.Areas.{rank}
use Rattle.dir_model.specs.Calls.{Extends}
use Rattle.dir_model.proofs.Lists.{same_self}
use Rattle.dir_rules.specs.declared.seen.Seen.{Seen}
use Rattle.dir_trait.specs.DirCalls.{DirAt, ListCall, ExtendsBy, HeldBetween}
use Rattle.dir_trait.specs.Knowledge.{Knows}
use Rattle.dir_trait.proofs.ListCalls.{list_extends}
use Rattle.dir_trait.specs.Effects.{Given}
use Rattle.dir_files.specs.Listed.{ShowsAreaBetween}
use Rattle.dir_files.specs.AreaLocks.{is_taking_area, closes, with_gate, MayLock, IsFreeElsewhere}
use Rattle.pod_locks.specs.Holding.{KeepsReady}
use Rattle.pod_locks.proofs.Calls.{Follows}
use Rattle.pod_gc.specs.declared.ages.Times.{Times}
use Rattle.pod_gc.specs.declared.line.GcLine.{GcLine}
use Rattle.pod_gc.specs.Sweeping.{MayPassPods, MaySweepAll}
use Rattle.pod_gc.specs.Told.{AddsTold, AddsSwept, places}
use Rattle.pod_gc.specs.Ended.{EndsAtPod, EndsAmong, EndsListing, EndsUnderGate, EndsPass, EndsAmongBetween, EndsListingBetween, EndsPassBetween, EndsSweepBetween}
use Rattle.pod_gc.proofs.InTurn.{pass_kept}
use Rattle.pod_gc.proofs.Telling.{tells_as, knew_on}
use Rattle.pod_gc.proofs.Gates.{may_lock, passes_under}
use Rattle.pod_gc.proofs.Sweeps.{all_kept}

pub whenever : {X E P : Type 0} (r : Result X E) → P → IfErr r (λ e. P)
whenever (Ok x) p = tt
whenever (Err e) p = p

-- what is told to one who knows less

among_as : {CanA CanB : Type 0} {here : Area} {names : List (List ℕ)} {me other : ℕ} {old new : List Event} (times : Times) → (CanA → CanB) → other ≡ me → EndsAmong CanB times here names other old new → EndsAmong CanA times here names me old new
among_as {CanA} {CanB} {here} {names} {me} {other} {old} {new} times f same a =
    let x = subst (λ (p : ℕ). EndsAmong CanB times here names p old new) same a in
    record { earlier = x.earlier; name = x.name; later = x.later; names_are = x.names_are; lines = x.lines; from = x.from; tells = tells_as f refl times here x.earlier old x.from x.lines x.tells; ends = x.ends }

listing_as : {CanA CanB : Type 0} {here : Area} {me other : ℕ} {old new : List Event} (times : Times) → (CanA → CanB) → other ≡ me → EndsListing CanB times here other old new → EndsListing CanA times here me old new
listing_as {CanA} {CanB} {here} {me} {other} {old} {new} times f same y = by (subst (λ (p : ℕ). EndsListing CanB times here p old new) same y)
  where
    by : EndsListing CanB times here me old new → EndsListing CanA times here me old new
    by (inl x) = inl (record { names = x.names; listed = x.listed; only_lists = x.only_lists; ordered = x.ordered; shows = x.shows; ends = among_as times f refl x.ends })
    by (inr x) = inr x

under_as : {CanA CanB : Type 0} {me other : ℕ} {old new : List Event} (times : Times) → (CanA → CanB) → other ≡ me → EndsUnderGate CanB times other old new → EndsUnderGate CanA times me old new
under_as {CanA} {CanB} {me} {other} {old} {new} times f same u =
    let x = subst (λ (p : ℕ). EndsUnderGate CanB times p old new) same u in
    record { gate = x.gate; locked = x.locked; done = x.done; takes_gate = x.takes_gate; free = x.free; ends = listing_as times f refl x.ends; gives_back = x.gives_back }

pass_as : {CanA CanB : Type 0} {me other : ℕ} (times : Times) (here : Area) (old new : List Event) → (CanA → CanB) → other ≡ me → EndsPass CanB times here other old new → EndsPass CanA times here me old new
pass_as times Embryo old new f same (inl u) = inl (under_as times f same u)
pass_as times Embryo old new f same (inr w) = inr (subst (λ (p : ℕ). Extends (is_taking_area Embryo Exclusive) p old new) same w)
pass_as times _ old new f same x = listing_as times f same x

pass_plain : {CanA CanB : Type 0} {me : ℕ} {old new : List Event} (times : Times) (here : Area) → (here ≡ Embryo → ⊥) → (CanA → CanB) → EndsListing CanB times here me old new → EndsPass CanA times here me old new
pass_plain times Embryo not f x = absurd (not refl)
pass_plain times _ not f x = listing_as times f refl x

-- it ended in a pod's turn, in a listing, in a pass

pub ends_among : (a b c : DirAt) (times : Times) (here : Area) (names earlier later : List (List ℕ)) (name : List ℕ) (before mid : List GcLine) → names ≡ earlier ++ name ∷ later → b.process ≡ a.process
    → AddsTold times here earlier a b before mid → EndsAtPod times.now here name b.process b.trace c.trace → EndsAmongBetween times here names a c
ends_among a b c times here names earlier later name before mid are same x y = record {
  earlier = earlier;
  name = name;
  later = later;
  names_are = are;
  lines = x.0;
  from = b.trace;
  tells = x.2;
  ends = subst (λ (p : ℕ). EndsAtPod times.now here name p b.trace c.trace) same y;
}

pub ends_listed : {observed : Bool} (a b c : DirAt) (times : Times) (here : Area) (names : List (List ℕ)) → observed ≡ true → ListCall observed a (ListArea here) (Names names) b → IsStrictlySortedBy (slice_cmp nat_cmp) names → ShowsAreaBetween a b here names
    → Given (MayPassPods here times.now times.expire) a (λ s. KeepsReady s b) → EndsAmongBetween times here names b c → EndsListingBetween times here a c
ends_listed a b c times here names t listing ordered shows ready x = inl (record {
  names = names;
  listed = b.trace;
  only_lists = list_extends (same_self (rank here)) (listing.step t);
  ordered = ordered;
  shows = shows;
  ends = among_as times (knew_on (λ s z k m. pass_kept k m) ready) listing.same x;
})

pub ends_gate : (a b c d : DirAt) (times : Times) (h : Handle) → b.process ≡ a.process → c.process ≡ b.process → ((s : Seen) → Knows a s → MayLock s Embryo Exclusive → Knows b (with_gate s h Embryo (Some Exclusive)))
    → ExtendsBy (is_taking_area Embryo Exclusive) a b → HeldBetween a b (IsFreeElsewhere a.process Embryo Exclusive) → EndsListingBetween times Embryo b c → ExtendsBy (closes h) c d → EndsPassBetween times Embryo a d
ends_gate a b c d times h ab bc taken first free x last = inl (record {
  gate = h;
  locked = b.trace;
  done = c.trace;
  takes_gate = first;
  free = free;
  ends = listing_as times (λ can. (with_gate can.0 h Embryo (Some Exclusive), taken can.0 can.1 (may_lock can.2), passes_under h can.2)) ab x;
  gives_back = subst (λ (p : ℕ). Extends (closes h) p c.trace d.trace) (bc ∙ ab) last;
})

pub ends_plain : (a b : DirAt) (times : Times) (here : Area) → (here ≡ Embryo → ⊥) → EndsListingBetween times here a b → EndsPassBetween times here a b
ends_plain a b times here not x = pass_plain times here not (λ can. (can.0, can.1, record { sweeps = can.2.sweeps; gate = λ is. absurd (not is) })) x

pub ends_sweep : {observed : Bool} (a b c : DirAt) (times : Times) (earlier later : List Area) (here : Area) (before mid : List GcLine) → places ≡ earlier ++ here ∷ later → Follows observed a b
    → Given (MaySweepAll times.now times.expire) a (λ s. KeepsReady s b) → AddsSwept times earlier a b before mid → EndsPassBetween times here b c → EndsSweepBetween times a c
ends_sweep a b c times earlier later here before mid are ab ready x y = record {
  earlier = earlier;
  here = here;
  later = later;
  places_are = are;
  lines = x.0;
  from = b.trace;
  passed = x.2;
  ends = pass_as times here b.trace c.trace (knew_on (λ s z k m. all_kept k m) ready) ab.same y;
}
