-- The moves by which a process hands a pod over: none among other requests, and the parts of a time together.
use Rattle.std.proofs.Common.{◌≡◌, ◌⊎◌, inl, inr, ℕ, Bool, true, false, not, ◌&&◌, ◌||◌, ◌==◌, bytes_eq, List, [], ◌∷◌, ◌++◌, refl, sym, ap, subst, ◌∙◌, append_assoc, append-nil, arith}
use Rattle.std.proofs.lemmas.Bool.Decides.{nat_tests}
use Rattle.std.specs.List.{AllByRecursion}
use Rattle.plain_laws.proofs.Booleans.{clash}
use Rattle.dir_model.specs.declared.area.Area.{Area}
use Rattle.dir_model.specs.declared.area.Area.TheVariants.{Embryo, Prepare}
use Rattle.dir_model.specs.declared.event.Event.{Event}
use Rattle.dir_model.specs.declared.pod.PodId.{PodId}
use Rattle.dir_model.specs.declared.spot.Handle.{Handle}
use Rattle.dir_model.specs.declared.spot.Spot.{Spot}
use Rattle.dir_model.specs.declared.request.Request.{Request}
use Rattle.dir_model.specs.declared.request.Request.TheVariants.{MoveFolder, Close}
use Rattle.dir_model.specs.declared.request.Reply.{Reply}
use Rattle.dir_model.specs.declared.request.Reply.TheVariants.{Done}
use Rattle.dir_model.specs.Areas.{rank}
use Rattle.dir_model.specs.Pods.{pod_text}
use Rattle.dir_model.specs.State.{spot_eq}
use Rattle.dir_model.specs.Calls.{CallStep, IsRun, TookPlace, LeftNothing, Extends, event, is_foreign}
use Rattle.dir_model.proofs.Chains.{nothing_yet, and_call, and_more, extends_wider, run-left}
use Rattle.dir_model.proofs.Lists.{all_left, all_right, and_left, not_true, same_rest, same_self}
use Rattle.dir_rules.proofs.Tied.{tied_meanwhile}
use Rattle.dir_trait.specs.DirCalls.{DirAt, DirCall}
use Rattle.folder_building.specs.declared.plan.PlanEntry.{PlanEntry}
use Rattle.dir_model.specs.Spots.{pod_spot}
use Rattle.pod_build.specs.MakingRequests.{begins_pod, fills_pod}
use Rattle.pod_build.specs.Progress.{seen_making, in_prepare}
use Rattle.pod_build.specs.Makings.{WherePlanFilled}
use Rattle.pod_build.specs.Handovers.{is_handed_to, is_pod_handover, BeforeHandingOver, HandsOverMade}

-- no request of this kind hands a pod over
abbrev pub HandsNothingOver : (Request → Bool) → Type 0
HandsNothingOver asks = (request : Request) → asks request ≡ true → is_pod_handover request ≡ false

abbrev moves_by : ℕ → Spot → Spot → Event
moves_by me from to = event me (MoveFolder from to) Done

own_move : (me : ℕ) (from to : Spot) → is_foreign me (moves_by me from to) ≡ false
own_move me from to = ap (λ b. not b || false) (same_self me)

-- where two lists are one, an item of the first stands in the first part of the second or behind it
cut : {X : Type 0} (e : X) (later : List X) (m x y : List X) → m ++ e ∷ later ≡ x ++ y →
    ((w : List X) × (x ≡ m ++ e ∷ w)) ⊎ ((w : List X) × (m ≡ x ++ w) × (y ≡ w ++ e ∷ later))
cut e later m [] y is = inr (m, refl, sym is)
cut e later [] (z ∷ x) y is = inl (x, (let same : z ≡ e = cc in ap (λ v. v ∷ x) same))
cut {X} e later (v ∷ m) (z ∷ x) y is = by (cut e later m x y cc)
  where
    same : z ≡ v
    same = cc

    by : ((w : List X) × (x ≡ m ++ e ∷ w)) ⊎ ((w : List X) × (m ≡ x ++ w) × (y ≡ w ++ e ∷ later)) →
        ((w : List X) × (z ∷ x ≡ v ∷ (m ++ e ∷ w))) ⊎ ((w : List X) × (v ∷ m ≡ z ∷ (x ++ w)) × (y ≡ w ++ e ∷ later))
    by (inl f) = inl (f.0, ap (λ u. u ∷ x) same ∙ ap (λ l. v ∷ l) f.1)
    by (inr f) = inr (f.0, ap (λ u. u ∷ m) (sym same) ∙ ap (λ l. z ∷ l) f.1, f.2)

-- an own move isn't among events of others
not_among : {X : Type 0} (me : ℕ) (from to : Spot) (others m w : List Event) → AllByRecursion (λ e. is_foreign me e ≡ true) others → others ≡ m ++ moves_by me from to ∷ w → X
not_among me from to others m w foreign is =
    clash (is_foreign me (moves_by me from to)) (all_right (λ e. is_foreign me e ≡ true) m (moves_by me from to ∷ w) (subst (λ (l : List Event). AllByRecursion (λ e. is_foreign me e ≡ true) l) is foreign)).0 (own_move me from to)

-- the part of a trace behind an earlier one
rest_is : (e : Event) (old : List Event) {new before : List Event} {more : List Event} (m later : List Event) → before ≡ old ++ m → new ≡ before ++ e ∷ later → new ≡ old ++ more → m ++ e ∷ later ≡ more
rest_is e old {new} {before} {more} m later begins moved grown =
    sym (same_rest old more (m ++ e ∷ later) (sym grown ∙ (moved ∙ (ap (λ h. h ++ e ∷ later) begins ∙ append_assoc old m (e ∷ later)))))

-- where nothing is handed over
pub none_handed : {P : List Event → Type 0} {asks : Request → Bool} {me : ℕ} {old new : List Event} → HandsNothingOver asks → Extends asks me old new → BeforeHandingOver P me old new
none_handed {P} {asks} {me} {old} {new} none e = record { so = λ before m later from to begins moved out. by m later from to (rest_is (moves_by me from to) old m later begins moved e.grown) out }
  where
    Asked : Event → Type 0
    Asked x = (is_foreign me x || asks x.request) ≡ true

    by : {X : Type 0} (m later : List Event) (from to : Spot) → m ++ moves_by me from to ∷ later ≡ e.more → is_pod_handover (MoveFolder from to) ≡ true → X
    by m later from to whole out =
        let own : Asked (moves_by me from to) = (all_right Asked m (moves_by me from to ∷ later) (subst (λ (l : List Event). AllByRecursion Asked l) (sym whole) e.asked)).0 in
        let asked : asks (MoveFolder from to) ≡ true = sym (ap (λ b. b || asks (MoveFolder from to)) (own_move me from to)) ∙ own in
        clash (is_pod_handover (MoveFolder from to)) out (none (MoveFolder from to) asked)

-- and where nothing is asked for at all
pub nothing_handed : {P : List Event → Type 0} {me : ℕ} {trace : List Event} → BeforeHandingOver P me trace trace
nothing_handed {P} {me} {trace} = none_handed {asks = λ r. false} (λ r is. let clash : false ≡ true = is in cc) nothing_yet

-- one part of a time after another
pub handed_then : {P : List Event → Type 0} {me : ℕ} {a b c : List Event} (x y : List Event) → b ≡ a ++ x → c ≡ b ++ y → BeforeHandingOver P me a b → BeforeHandingOver P me b c → BeforeHandingOver P me a c
handed_then {P} {me} {a} {b} {c} x y ab bc first second = record { so = so }
  where
    so : (before m later : List Event) (from to : Spot) → before ≡ a ++ m → c ≡ before ++ moves_by me from to ∷ later → is_pod_handover (MoveFolder from to) ≡ true → P before
    so before m later from to begins moved out = by (cut (moves_by me from to) later m x y (rest_is (moves_by me from to) a m later begins moved (bc ∙ (ap (λ h. h ++ y) ab ∙ append_assoc a x y))))
      where
        e : Event
        e = moves_by me from to

        by : ((w : List Event) × (x ≡ m ++ e ∷ w)) ⊎ ((w : List Event) × (m ≡ x ++ w) × (y ≡ w ++ e ∷ later)) → P before
        by (inl f) = first.so before m f.0 from to begins (ab ∙ (ap (λ h. a ++ h) f.1 ∙ (sym (append_assoc a m (e ∷ f.0)) ∙ ap (λ h. h ++ e ∷ f.0) (sym begins)))) out
        by (inr f) = second.so before f.0 later from to (begins ∙ (ap (λ h. a ++ h) f.1 ∙ (sym (append_assoc a x f.0) ∙ ap (λ h. h ++ f.0) (sym ab)))) moved out

-- the same, where the first of the two parts hands nothing over, or the second
pub handed_after : (P : ℕ → List Event → Type 0) {asks more : Request → Bool} {me other : ℕ} {a b c : List Event} → HandsNothingOver asks → Extends asks me a b → other ≡ me → Extends more other b c →
    BeforeHandingOver (P other) other b c → BeforeHandingOver (P me) me a c
handed_after P {asks} {more} {me} {other} {a} {b} {c} none ab same bc x =
    handed_then ab.more bc.more ab.grown bc.grown (none_handed none ab) (subst (λ (p : ℕ). BeforeHandingOver (P p) p b c) same x)

pub handed_before : {P : List Event → Type 0} {asks more : Request → Bool} {me other : ℕ} {a b c : List Event} → Extends more me a b → BeforeHandingOver P me a b → other ≡ me → HandsNothingOver asks → Extends asks other b c →
    BeforeHandingOver P me a c
handed_before {P} {asks} {more} {me} {other} {a} {b} {c} ab x same none bc =
    handed_then ab.more bc.more ab.grown bc.grown x (none_handed none (subst (λ (p : ℕ). Extends asks p b c) same bc))

-- one call: what was so just before its step
pub call_handed : {P : List Event → Type 0} {me : ℕ} {old new : List Event} {request : Request} {reply : Reply} (s : CallStep me old request reply new) → P s.before → BeforeHandingOver P me old new
call_handed {P} {me} {old} {new} {request} {reply} s holds = record { so = so }
  where
    others : List Event
    others = s.meanwhile.others

    so : (before m later : List Event) (from to : Spot) → before ≡ old ++ m → new ≡ before ++ moves_by me from to ∷ later → is_pod_handover (MoveFolder from to) ≡ true → P before
    so before m later from to begins moved out = by s.own
      where
        e : Event
        e = moves_by me from to

        there : (w : List Event) → m ≡ others ++ w → event me request reply ∷ [] ≡ w ++ e ∷ later → P before
        there [] is last = subst P (s.meanwhile.grown ∙ (ap (λ h. old ++ h) (sym (append-nil others) ∙ sym is) ∙ sym begins)) holds
        there (x ∷ []) is last = let clash : [] ≡ e ∷ later = cc in cc
        there (x ∷ y ∷ w) is last = let clash : [] ≡ y ∷ (w ++ e ∷ later) = cc in cc

        parts : ((w : List Event) × (others ≡ m ++ e ∷ w)) ⊎ ((w : List Event) × (m ≡ others ++ w) × (event me request reply ∷ [] ≡ w ++ e ∷ later)) → P before
        parts (inl f) = not_among me from to others m f.0 s.meanwhile.foreign f.1
        parts (inr f) = there f.0 f.1 f.2

        by : TookPlace s.before me request reply new ⊎ LeftNothing s.before me request reply new → P before
        by (inr l) = not_among me from to others m later s.meanwhile.foreign (sym (rest_is e old m later begins moved (l.same ∙ s.meanwhile.grown)))
        by (inl t) = parts (cut e later m others (event me request reply ∷ []) (rest_is e old m later begins moved (t.grown ∙ (ap (λ h. h ++ event me request reply ∷ []) s.meanwhile.grown ∙ append_assoc old others (event me request reply ∷ [])))))

-- the requests of a maker but for its last move
from_embryo : (n : ℕ) → (n == 0) ≡ true → (1 == n) ≡ false
from_embryo n is = grind (arith, nat_tests)

pub begins_hand_none : (draw : PodId) → HandsNothingOver (begins_pod draw)
begins_hand_none draw (MoveFolder from to) asked =
    ap (λ b. b && is_handed_to to.area)
    (from_embryo (rank from.area) (and_left (rank from.area == 0) (bytes_eq from.name (pod_text draw.bytes)) (and_left (spot_eq from (pod_spot draw Embryo)) (spot_eq to (pod_spot draw Prepare)) asked)))
begins_hand_none draw request asked = refl

pub fills_hand_none : (draw : PodId) → HandsNothingOver (fills_pod draw)
fills_hand_none draw (MoveFolder from to) asked = cc
fills_hand_none draw request asked = refl

-- the folder is moved on only by what the plan makes, whether that is answered Ok or not
pub hands_made : {observed : Bool} {draw : PodId} {from to : Spot} {reply : Reply} {old new : DirAt} → observed ≡ true → (there : Area) (plan : List PlanEntry) → DirCall observed old (MoveFolder from to) reply new →
    WherePlanFilled there plan draw old (λ intent hs entries. HandsOverMade draw plan intent old new)
hands_made {observed} {draw} {from} {to} {reply} {old} {new} t there plan c intent hs entries may owns made k =
    let s = c.step t in
    call_handed s (record { entries = entries; made = made; seen = seen_making intent hs (in_prepare draw entries); began = refl; making = refl; knew = tied_meanwhile k.tied s.meanwhile })

-- and then a handle is given up
pub handed_close : {P : List Event → Type 0} {asks : Request → Bool} {h : Handle} {me other : ℕ} {a b c : List Event} → Extends asks me a b → other ≡ me → BeforeHandingOver P me a b → CallStep other b (Close h) Done c → BeforeHandingOver P me a c
handed_close {P} {asks} {h} {me} {other} {a} {b} {c} ab same x closing =
    handed_before {P = P} {asks = λ r. not (is_pod_handover r)} ab x same (λ r is. not_true (is_pod_handover r) is) (and_call nothing_yet refl refl closing)

-- calls after calls, whatever they ask for
pub follow_on : {asks more : Request → Bool} {me other : ℕ} {a b c : List Event} → Extends asks me a b → other ≡ me → Extends more other b c → Extends (λ r. true) me a c
follow_on ab same bc = and_more (extends_wider (λ r is. refl) ab) same (extends_wider (λ r is. refl) bc)

-- what was asked for up to a step
pub until_step : {asks : Request → Bool} {me : ℕ} {old new : List Event} (before m later : List Event) (step : Event) → Extends asks me old new → before ≡ old ++ m → new ≡ before ++ step ∷ later → Extends asks me old before
until_step {asks} {me} {old} {new} before m later step e begins moved = record {
  more = m;
  grown = begins;
  asked = all_left Asked m (step ∷ later) (subst (λ (l : List Event). AllByRecursion Asked l) (sym (rest_is step old m later begins moved e.grown)) e.asked);
  run = λ run. run-left before (step ∷ later) (subst IsRun moved (e.run run));
}
  where
    Asked : Event → Type 0
    Asked y = (is_foreign me y || asks y.request) ≡ true

pub handed_among : {P : List Event → Type 0} {asks : Request → Bool} {me : ℕ} {old new : List Event} → Extends asks me old new → BeforeHandingOver P me old new → BeforeHandingOver (λ before. P before × Extends asks me old before) me old new
handed_among {P} {asks} {me} {old} {new} e x =
    record { so = λ before m later from to begins moved out. (x.so before m later from to begins moved out, until_step before m later (moves_by me from to) e begins moved) }

-- what was so gives something else
pub handed_so : {P Q : List Event → Type 0} {me : ℕ} {old new : List Event} → ((before : List Event) → P before → Q before) → BeforeHandingOver P me old new → BeforeHandingOver Q me old new
handed_so f x = record { so = λ before m later from to begins moved out. f before (x.so before m later from to begins moved out) }

-- a trace that went on to a run was one
pub run_until : {asks : Request → Bool} {me : ℕ} {old new : List Event} → Extends asks me old new → IsRun new → IsRun old
run_until {asks} {me} {old} {new} e run = run-left old e.more (subst IsRun e.grown run)
