-- What the commands hand over: pods that they made faithfully, and but for those that make pods nothing.
use Rattle.std.proofs.Common.{◌≡◌, ◌⊎◌, inl, inr, ℕ, Bool, true, false, ◌&&◌, ◌||◌, List, [], Some, refl, sym, ap, subst, ◌∙◌}
use Rattle.plain_laws.proofs.Booleans.{or_nothing}
use Rattle.ac_types.specs.declared.store_key.StoreKey.{StoreKey}
use Rattle.dir_model.specs.declared.area.Area.{Area}
use Rattle.dir_model.specs.declared.area.Area.TheVariants.{Prepare, Prepared, Run, ExitedGarbage, Garbage, Images, Incoming, Removed}
use Rattle.dir_model.specs.declared.intent.Draw.{Draw}
use Rattle.dir_model.specs.declared.intent.Intent.{Intent}
use Rattle.dir_model.specs.declared.intent.Kind.TheVariants as kind
use Rattle.dir_model.specs.declared.pod.PodId.{PodId}
use Rattle.dir_model.specs.declared.spot.Spot.{Spot}
use Rattle.dir_model.specs.declared.request.Request.{Request}
use Rattle.dir_model.specs.declared.request.Request.TheVariants.{Begin, MoveFolder, Finish}
use Rattle.dir_model.specs.declared.event.Event.{Event}
use Rattle.dir_model.specs.declared.request.Reply.{Reply}
use Rattle.dir_model.specs.declared.request.Reply.TheVariants.{Done}
use Rattle.dir_model.specs.Areas.{is_stage}
use Rattle.dir_model.specs.State.{spot_eq}
use Rattle.dir_model.specs.Calls.{CallStep, Extends, is_begin, is_finish}
use Rattle.dir_model.proofs.Chains.{and_call, and_more, extends_wider, nothing_yet}
use Rattle.dir_model.proofs.Lists.{and_false, and_left, and_right, or_last}
use Rattle.dir_rules.specs.Standing.{is_in}
use Rattle.dir_trait.specs.DirCalls.{DirAt, DirCall, ExtendsBy}
use Rattle.folder_contents.proofs.Spots.{in_area, one_location}
use Rattle.image_store.specs.Requests.{imports_at}
use Rattle.image_removal.specs.Requests.{away_spot, removes_at, sweeps_store}
use Rattle.image_reading.specs.Places.{image_spot}
use Rattle.dir_model.specs.Spots.{pod_spot}
use Rattle.pod_locks.specs.ClaimRequests.{in_prepared, in_run}
use Rattle.pod_gc.specs.RemovalRequests.{removes}
use Rattle.pod_gc.specs.Requests.{sweeps as sweeps_pods}
use Rattle.pod_build.specs.Handovers.{is_handed_to, is_pod_handover, BeforeHandingOver}
use Rattle.pod_build.proofs.Handing.{HandsNothingOver, none_handed, nothing_handed, handed_after, handed_before, follow_on, run_until}
use Rattle.pod_build.specs.FaithfulBuild.{IsFaithfulBuild, HandsOverFaithfully}
use Rattle.pod_build.specs.Preparations.{Began, MakesFaithfully}
use Rattle.commands.specs.ImageList.{lists_images}
use Rattle.commands.proofs.LateTurns.{or_either}
use Rattle.commands.specs.RunPrepared.{runs_prepared}
use Rattle.rkt_cli.specs.Tasks.{Task}
use Rattle.rkt_cli.specs.Tasks.{Prepare as PrepareLine, Run as RunLine}
use Rattle.commands.specs.Command.{intent_for}
use Rattle.rkt_cli.specs.Commands.{intent_of}
use Rattle.rkt_cli.specs.Histories.{HandsOverFaithfulPods, WhereKnown}
use Rattle.rkt_cli.proofs.PodRan.{prepares}
use Rattle.commands.specs.Wants.{Wants}
use Rattle.pod_lookup.specs.Looks.{lists_stages}
use Rattle.metadata.specs.Looks.{looks_in_run}
use Rattle.pod_report.specs.Requests.{inspects, surveys, visits}
use Rattle.pod_report.proofs.QuietSurvey.{inspect_calm}
use Rattle.pod_report.proofs.Going.{visits_survey}
use Rattle.commands.specs.Opening.{opens}

not_from : (from to : Spot) → is_in Prepare from.area ≡ false → is_pod_handover (MoveFolder from to) ≡ false
not_from from to off = ap (λ b. b && is_handed_to to.area) off

not_to : (from to : Spot) → is_handed_to to.area ≡ false → is_pod_handover (MoveFolder from to) ≡ false
not_to from to off = ap (λ b. is_in Prepare from.area && b) off ∙ and_false (is_in Prepare from.area)

-- it is enough to look at the moves
spares : (asks : Request → Bool) → ((from to : Spot) → asks (MoveFolder from to) ≡ true → is_pod_handover (MoveFolder from to) ≡ false) → HandsNothingOver asks
spares asks f (MoveFolder from to) is = f from to is
spares asks f request is = refl

pub surveys_none : HandsNothingOver surveys
surveys_none = spares surveys (λ from to is. cc)

pub visits_none : (pod : PodId) → HandsNothingOver (visits pod)
visits_none pod = spares (visits pod) (λ from to is. let clash : false ≡ true = visits_survey pod (MoveFolder from to) is in cc)

pub inspects_none : (pod : PodId) → HandsNothingOver (inspects pod)
inspects_none pod = spares (inspects pod) (λ from to is. let clash : false ≡ true = inspect_calm pod (MoveFolder from to) is in cc)

pub service_none : HandsNothingOver looks_in_run
service_none = spares looks_in_run (λ from to is. cc)

pub lists_none : HandsNothingOver lists_images
lists_none = spares lists_images (λ from to is. cc)

pub imports_none : (spot : Spot) → HandsNothingOver (imports_at spot)
imports_none spot = spares (imports_at spot) (λ from to is. not_to from to (ap is_handed_to (sym (in_area Images to.area (and_right (spot_eq from spot) (is_in Images to.area) (or_nothing _ is))))))

pub image_removes_none : (key : StoreKey) (draw : PodId) → HandsNothingOver (removes_at key draw)
image_removes_none key draw = spares (removes_at key draw) (λ from to is. not_from from to (ap (λ (s : Spot). is_in Prepare s.area) (one_location from (image_spot key) (and_left (spot_eq from (image_spot key)) (spot_eq to (away_spot draw)) (or_nothing _ is)))))

pub image_sweeps_none : HandsNothingOver sweeps_store
image_sweeps_none = spares sweeps_store (λ from to is. not_from from to (ap (is_in Prepare) (in_area from.area Incoming (and_left (is_in from.area Incoming) (is_in to.area Removed) is))))

pub claims_none : (pod : PodId) → HandsNothingOver (runs_prepared pod)
claims_none pod = spares (runs_prepared pod) (λ from to is. not_from from to (ap (λ (s : Spot). is_in Prepare s.area) (sym (one_location (in_prepared pod) from (and_left (spot_eq (in_prepared pod) from) (spot_eq (in_run pod) to) (or_nothing _ is))))))

-- a pod that is removed goes to a garbage place
led_to : (pod : PodId) (here there : Area) (from to : Spot) → is_handed_to there ≡ false → (spot_eq (pod_spot pod here) from && spot_eq (pod_spot pod there) to) ≡ true → is_pod_handover (MoveFolder from to) ≡ false
led_to pod here there from to off is = not_to from to (ap (λ (s : Spot). is_handed_to s.area) (sym (one_location (pod_spot pod there) to (and_right (spot_eq (pod_spot pod here) from) (spot_eq (pod_spot pod there) to) is))) ∙ off)

pub removes_none : (pod : PodId) (now : ℕ) → HandsNothingOver (removes pod now)
removes_none pod now = spares (removes pod now) (λ from to is. by from to (or_either _ _ is))
  where
    rest : (from to : Spot) → ((spot_eq (pod_spot pod Prepared) from && spot_eq (pod_spot pod Garbage) to) ≡ true) ⊎ ((spot_eq (pod_spot pod Run) from && spot_eq (pod_spot pod ExitedGarbage) to) ≡ true) → is_pod_handover (MoveFolder from to) ≡ false
    rest from to (inl x) = led_to pod Prepared Garbage from to refl x
    rest from to (inr x) = led_to pod Run ExitedGarbage from to refl x

    by : (from to : Spot) → ((spot_eq (pod_spot pod Prepare) from && spot_eq (pod_spot pod Garbage) to) ≡ true)
        ⊎ (((spot_eq (pod_spot pod Prepared) from && spot_eq (pod_spot pod Garbage) to) || (spot_eq (pod_spot pod Run) from && spot_eq (pod_spot pod ExitedGarbage) to)) ≡ true) → is_pod_handover (MoveFolder from to) ≡ false
    by from to (inl x) = led_to pod Prepare Garbage from to refl x
    by from to (inr x) = rest from to (or_either _ _ x)

pub sweeps_none : (now : ℕ) → HandsNothingOver (sweeps_pods now)
sweeps_none now = spares (sweeps_pods now) (λ from to is. by from to (or_either _ _ (and_right (is_stage from.area) _ is)))
  where
    by : (from to : Spot) → ((is_in Run from.area && is_in ExitedGarbage to.area) ≡ true) ⊎ (is_in Garbage to.area ≡ true) → is_pod_handover (MoveFolder from to) ≡ false
    by from to (inl x) = not_to from to (ap is_handed_to (sym (in_area ExitedGarbage to.area (and_right (is_in Run from.area) (is_in ExitedGarbage to.area) x))))
    by from to (inr x) = not_to from to (ap is_handed_to (sym (in_area Garbage to.area x)))

-- `prepare` and `run`, of a process that has just begun
pub prepare_hands : (a b : DirAt) {line : Task} {wants : Wants} (now : ℕ) (draw : Draw) → line ≡ PrepareLine wants → MakesFaithfully Prepared draw now a b → WhereKnown line now draw a (HandsOverFaithfulPods a b)
prepare_hands a b {line} {wants} now draw is makes intent said known run =
    let began = prepares wants now draw intent (subst (λ (l : Task). intent_of l now draw ≡ Some intent) is said) in
    makes run intent [] began refl (record { tied = known.tied; handles = known.handles })

pub run_hands : (a b : DirAt) {line : Task} {wants : Wants} {address : List ℕ} (now : ℕ) (draw : Draw) → line ≡ RunLine wants address → MakesFaithfully Run draw now a b → WhereKnown line now draw a (HandsOverFaithfulPods a b)
run_hands a b {line} {wants} {address} now draw is makes intent said known run =
    let same : intent_for kind.Run [] now draw ≡ intent = (let e : intent_of (RunLine wants address) now draw ≡ Some intent = subst (λ (l : Task). intent_of l now draw ≡ Some intent) is said in cc) in
    makes run intent [] (subst (λ (i : Intent). Began Run draw now i) same (record { leads = refl; drawn = refl; token = refl; moment = refl })) refl (record { tied = known.tied; handles = known.handles })

-- a begin that is refused hands nothing over
pub never_begun_hands : {P : List Event → Type 0} {me : ℕ} {old new : List Event} {intent : Intent} {reply : Reply} → CallStep me old (Begin intent) reply new → BeforeHandingOver P me old new
never_begun_hands step = none_handed (spares is_begin (λ from to is. cc)) (and_call nothing_yet refl refl step)

-- a command that makes no call on the directory hands nothing over
pub apart_hands : (a b : DirAt) → b ≡ a → HandsOverFaithfulPods a b
apart_hands a b same run = subst (λ (d : DirAt). HandsOverFaithfully a.process a.trace d.trace) (sym same) nothing_handed

-- a begin and a look hand nothing over
opens_none : HandsNothingOver opens
opens_none = spares opens (λ from to is. cc)

opened : {me : ℕ} {a b c : List Event} → Extends is_begin me a b → Extends lists_stages me b c → Extends opens me a c
opened ab bc = and_more (extends_wider (λ r h. or_last (lists_stages r) _ h) ab) refl (extends_wider (λ r h. ap (λ x. x || is_begin r) h) bc)

-- a whole process: its begin, its look and its finish hand nothing over
pub process_hands : {observed : Bool} {asks : Request → Bool} {intent : Intent} (a b m c d : DirAt) → observed ≡ true → DirCall observed a (Begin intent) Done b → m.process ≡ b.process → ExtendsBy lists_stages b m → c.process ≡ m.process → ExtendsBy asks m c → HandsOverFaithfulPods m c →
    DirCall observed c Finish Done d → HandsOverFaithfulPods a d
process_hands {observed} {asks} {intent} a b m c d t begins found looks same mc x finishes run =
    let ab : Extends is_begin a.process a.trace b.trace = and_call nothing_yet refl refl (begins.step t) in
    let bm : Extends lists_stages a.process b.trace m.trace = subst (λ (p : ℕ). Extends lists_stages p b.trace m.trace) begins.same looks in
    let am : Extends opens a.process a.trace m.trace = opened ab bm in
    let mine : m.process ≡ a.process = found ∙ begins.same in
    let cd : Extends is_finish c.process c.trace d.trace = and_call nothing_yet refl refl (finishes.step t) in
    let first : HandsOverFaithfully a.process a.trace c.trace = handed_after (λ me. IsFaithfulBuild me) opens_none am mine mc (x (run_until cd run)) in
    handed_before {P = IsFaithfulBuild a.process} (follow_on am mine mc) first (same ∙ mine) (spares is_finish (λ from to is. cc)) cd

-- and where it looked in vain
pub vain_hands : {observed : Bool} {intent : Intent} (a b m d : DirAt) → observed ≡ true → DirCall observed a (Begin intent) Done b → m.process ≡ b.process → ExtendsBy lists_stages b m → DirCall observed m Finish Done d → HandsOverFaithfulPods a d
vain_hands {observed} {intent} a b m d t begins found looks finishes run =
    process_hands {asks = λ r. false} a b m m d t begins found looks refl nothing_yet (λ run. nothing_handed) finishes run
