use Rattle.std.proofs.Common.{◌≡◌, true, not, inl, inr, Err, Some, List, [], ◌∷◌, refl, sym, ap, subst, arith, ◌∙◌}
use Rattle.plain_laws.proofs.Results.{if_ok, if_err, ok_both}
use Rattle.dir_model.specs.declared.area.Area.TheVariants.{Images}
use Rattle.dir_model.specs.declared.spot.Mode.TheVariants.{Shared}
use Rattle.dir_model.specs.declared.opening.Target.TheVariants.{Gate}
use Rattle.dir_model.specs.Local.{Local}
use Rattle.dir_rules.specs.declared.standing.Held.{Held}
use Rattle.dir_rules.specs.LockRules.{is_open_on}
use Rattle.dir_trait.specs.Knowledge.{Knows}
use Rattle.lifecycle.specs.Executions.{IsConforming}
use Rattle.dir_files.specs.AreaLocks.{is_taking_area, closes, on_gate}
use Rattle.dir_files.proofs.Locking.{number_is_new}
use Rattle.folder_building.proofs.Copying.{ok_any}
use Rattle.folder_building.proofs.Following.{Follows}
use Rattle.pod_build.specs.Progress.{seen_making, nothing_made}
use Rattle.pod_build.specs.Work.{WhereMakingPod, HasMakerFolder}
use Rattle.pod_build.proofs.Knowing.{has_nothing}
use Rattle.pod_build.specs.declared.error.BuildError.{BuildError}
use Rattle.pod_build.specs.Answers.{target, held_with, IsBuildAnswer}
use Rattle.pod_build.specs.Causes.{IsMadeByPlan, IsBuildRefused, IsRefusedUnderLock, AreaHeldElsewhere}
use Rattle.pod_build.specs.Preparations.{Began, IsAlone, HasGateAlone, HasPrepared, KnowsPrepared, IsHandedOver, IsPrepared}
use Rattle.dir_model.specs.Calls.{IsRun}
use Rattle.pod_build.proofs.Parts.{made_within, refused_within}
use Rattle.pod_build.proofs.Working.{went_back, went_refused, hands_to, knows_back, left_back, may_lock, gate_elsewhere, elsewhere_within, free_within}
use Rattle.pod_build.proofs.Faithful.{is_handed_over, is_prepared, hands_faithfully}
use Rattle.pod_build.proofs.Handing.{none_handed, handed_after, handed_before, follow_on, run_until}
use Rattle.pod_build.specs.FaithfulBuild.{IsFaithfulBuild, HandsOverFaithfully}
use Rattle.pod_build.proofs.Working.{locks_hand_none, close_takes}
use Rattle.dir_model.proofs.Chains.{extends_wider}
use Rattle.pod_build.proofs.Lawful.{refused_stray}
use Rattle.pod_build.proofs.TreesUnread.{locked_unread, unlocked_unread, picked_within, none_picked}
use Rattle.pod_build.proofs.preparing.prepare.Goals as goal

pub returns-in-Ok-clause-went : goal.returns-in-Ok-clause-went
returns-in-Ok-clause-went g c =
    let D = g.D.Dir in
    let ab : Follows D.observed (D.shown c.args.dir.now) (D.shown c.lock_area.new.dir) = record { same = c.lock_area.ensures.same; faults = c.lock_area.ensures.faults; asks = is_taking_area Images Shared; extends = c.lock_area.ensures.extends } in
    let cd : Follows D.observed (D.shown c.prepare_under_lock-result.new.dir) (D.shown c.unlock_area.new.dir) = record { same = c.unlock_area.ensures.same; faults = omega (arith, c.unlock_area.ensures.faultless); asks = closes c.in-Ok.gate; extends = c.unlock_area.ensures.extends } in
    went_back (D.shown c.args.dir.now) (D.shown c.lock_area.new.dir) (D.shown c.prepare_under_lock-result.new.dir) (D.shown c.unlock_area.new.dir) c.in-Ok.gate c.args.draw.now.uuid c.in-Ok.ensures.unopened c.in-Ok.ensures.held c.unlock_area.ensures.local (target c.args.keep_owner) c.args.keep_owner c.prepare_under_lock-result.result c.prepare_under_lock-result.ensures.answer ab cd
    c.lock_area.ensures.extends c.unlock_area.ensures.extends c.prepare_under_lock-result.ensures.went

pub returns-in-Ok-clause-free : goal.returns-in-Ok-clause-free
returns-in-Ok-clause-free g c =
    let D = g.D.Dir in
    let a = D.shown c.args.dir.now in
    let b = D.shown c.lock_area.new.dir in
    let late = D.shown c.prepare_under_lock-result.new.dir in
    let d = D.shown c.unlock_area.new.dir in
    ok_any c.prepare_under_lock-result.result (free_within {observed = D.observed} a b late d c.lock_area.ensures.same c.prepare_under_lock-result.ensures.went.same c.prepare_under_lock-result.ensures.went.extends c.unlock_area.ensures.extends c.in-Ok.ensures.free)

pub returns-in-Ok-clause-refused : goal.returns-in-Ok-clause-refused
returns-in-Ok-clause-refused g c =
    let D = g.D.Dir in
    let refs = c.args.refs.now in
    let options = c.args.options.now in
    let a = D.shown c.args.dir.now in
    let b = D.shown c.lock_area.new.dir in
    let late = D.shown c.prepare_under_lock-result.new.dir in
    let d = D.shown c.unlock_area.new.dir in
    let ab : Follows D.observed a b = record { same = c.lock_area.ensures.same; faults = c.lock_area.ensures.faults; asks = is_taking_area Images Shared; extends = c.lock_area.ensures.extends } in
    let cd : Follows D.observed late d = record { same = c.unlock_area.ensures.same; faults = omega (arith, c.unlock_area.ensures.faultless); asks = closes c.in-Ok.gate; extends = c.unlock_area.ensures.extends } in
    if_err (λ e. IsRefusedUnderLock D.observed refs options c.args.draw.now c.args.now e b late) (λ e. IsBuildRefused D.observed refs options c.args.draw.now c.args.now e a d) c.prepare_under_lock-result.result
    (λ e x. inr (
      free_within {observed = D.observed} a b late d c.lock_area.ensures.same c.prepare_under_lock-result.ensures.went.same c.prepare_under_lock-result.ensures.went.extends c.unlock_area.ensures.extends c.in-Ok.ensures.free,
      refused_within c.args.draw.now ab cd x,
    )) c.prepare_under_lock-result.ensures.refused

pub returns-in-Ok-clause-planned : goal.returns-in-Ok-clause-planned
returns-in-Ok-clause-planned g c =
    let D = g.D.Dir in
    let refs = c.args.refs.now in
    let options = c.args.options.now in
    let a = D.shown c.args.dir.now in
    let b = D.shown c.lock_area.new.dir in
    let late = D.shown c.prepare_under_lock-result.new.dir in
    let d = D.shown c.unlock_area.new.dir in
    let ab : Follows D.observed a b = record { same = c.lock_area.ensures.same; faults = c.lock_area.ensures.faults; asks = is_taking_area Images Shared; extends = c.lock_area.ensures.extends } in
    let cd : Follows D.observed late d = record { same = c.unlock_area.ensures.same; faults = omega (arith, c.unlock_area.ensures.faultless); asks = closes c.in-Ok.gate; extends = c.unlock_area.ensures.extends } in
    if_ok (λ built. IsMadeByPlan D.observed refs options c.args.draw.now c.args.now b late) (λ built. IsMadeByPlan D.observed refs options c.args.draw.now c.args.now a d) c.prepare_under_lock-result.result
    (λ built x. made_within c.args.draw.now ab cd x) c.prepare_under_lock-result.ensures.planned

pub returns-in-Ok-clause-by_other_process : goal.returns-in-Ok-clause-by_other_process
returns-in-Ok-clause-by_other_process g c =
    let D = g.D.Dir in
    let a = D.shown c.args.dir.now in
    let b = D.shown c.lock_area.new.dir in
    let late = D.shown c.prepare_under_lock-result.new.dir in
    let d = D.shown c.unlock_area.new.dir in
    let gate = c.in-Ok.gate in
    let draw = c.args.draw.now in
    let to = target c.args.keep_owner in
    let ab : Follows D.observed a b = record { same = c.lock_area.ensures.same; faults = c.lock_area.ensures.faults; asks = is_taking_area Images Shared; extends = c.lock_area.ensures.extends } in
    let cd : Follows D.observed late d = record { same = c.unlock_area.ensures.same; faults = omega (arith, c.unlock_area.ensures.faultless); asks = closes gate; extends = c.unlock_area.ensures.extends } in
    if_err (λ e. D.observed ≡ true → WhereMakingPod (Began to draw c.args.now) (HasGateAlone gate) nothing_made b (λ intent hs. AreaHeldElsewhere e b late))
    (λ e. D.observed ≡ true → WhereMakingPod (Began to draw c.args.now) IsAlone nothing_made a (λ intent hs. AreaHeldElsewhere e a d)) c.prepare_under_lock-result.result
    (λ e x t intent hs began alone k. elsewhere_within a b late d t ab c.prepare_under_lock-result.ensures.went.same cd
    (x t intent (on_gate gate Images (Some Shared) ∷ hs) began (ap (λ (l : List Held). on_gate gate Images (Some Shared) ∷ l) alone) (c.in-Ok.ensures.taken t (seen_making intent hs nothing_made) k (may_lock alone))))
    c.prepare_under_lock-result.ensures.by_other_process

pub returns-in-Ok-clause-prepared : goal.returns-in-Ok-clause-prepared
returns-in-Ok-clause-prepared g c =
    let D = g.D.Dir in
    let a = D.shown c.args.dir.now in
    let b = D.shown c.lock_area.new.dir in
    let late = D.shown c.prepare_under_lock-result.new.dir in
    let d = D.shown c.unlock_area.new.dir in
    let gate = c.in-Ok.gate in
    let draw = c.args.draw.now in
    let refs = c.args.refs.now in
    let options = c.args.options.now in
    let to = target c.args.keep_owner in
    let ab : Follows D.observed a b = record { same = c.lock_area.ensures.same; faults = c.lock_area.ensures.faults; asks = is_taking_area Images Shared; extends = c.lock_area.ensures.extends } in
    let cd : Follows D.observed late d = record { same = c.unlock_area.ensures.same; faults = omega (arith, c.unlock_area.ensures.faultless); asks = closes gate; extends = c.unlock_area.ensures.extends } in
    if_ok (λ built. D.observed ≡ true → WhereMakingPod (Began to draw c.args.now) (HasGateAlone gate) nothing_made b (λ intent hs. HasPrepared refs options draw c.args.now to intent (held_with draw.uuid built hs) b late))
    (λ built. D.observed ≡ true → IsConforming d.trace → WhereMakingPod (Began to draw c.args.now) IsAlone nothing_made a (λ intent hs. IsPrepared refs options a.process draw.uuid to a.trace d.trace)) c.prepare_under_lock-result.result
    (λ built x t conforms intent hs began alone k.
    let under : List Held = on_gate gate Images (Some Shared) ∷ hs in
    let known = c.in-Ok.ensures.taken t (seen_making intent hs nothing_made) k (may_lock alone) in
    is_prepared {hs = held_with draw.uuid built under} {under = under} t conforms.run began ab cd refl known (x t intent under began (ap (λ (l : List Held). on_gate gate Images (Some Shared) ∷ l) alone) known) conforms (hands_to c.args.keep_owner))
    c.prepare_under_lock-result.ensures.prepared

pub returns-in-Ok-clause-faithful : goal.returns-in-Ok-clause-faithful
returns-in-Ok-clause-faithful g c =
    let D = g.D.Dir in
    let a = D.shown c.args.dir.now in
    let b = D.shown c.lock_area.new.dir in
    let late = D.shown c.prepare_under_lock-result.new.dir in
    let d = D.shown c.unlock_area.new.dir in
    let gate = c.in-Ok.gate in
    let draw = c.args.draw.now in
    let refs = c.args.refs.now in
    let options = c.args.options.now in
    let to = target c.args.keep_owner in
    let ab : Follows D.observed a b = record { same = c.lock_area.ensures.same; faults = c.lock_area.ensures.faults; asks = is_taking_area Images Shared; extends = c.lock_area.ensures.extends } in
    let cd : Follows D.observed late d = record { same = c.unlock_area.ensures.same; faults = omega (arith, c.unlock_area.ensures.faultless); asks = closes gate; extends = c.unlock_area.ensures.extends } in
    if_ok (λ built. D.observed ≡ true → WhereMakingPod (Began to draw c.args.now) (HasGateAlone gate) nothing_made b (λ intent hs. HasPrepared refs options draw c.args.now to intent (held_with draw.uuid built hs) b late))
    (λ built. D.observed ≡ true → IsRun d.trace → WhereMakingPod (Began to draw c.args.now) IsAlone nothing_made a (λ intent hs. IsHandedOver a.process draw.uuid to a.trace d.trace)) c.prepare_under_lock-result.result
    (λ built x t run intent hs began alone k.
    let under : List Held = on_gate gate Images (Some Shared) ∷ hs in
    let known = c.in-Ok.ensures.taken t (seen_making intent hs nothing_made) k (may_lock alone) in
    is_handed_over {hs = held_with draw.uuid built under} {under = under} t run began ab cd refl known (x t intent under began (ap (λ (l : List Held). on_gate gate Images (Some Shared) ∷ l) alone) known))
    c.prepare_under_lock-result.ensures.prepared

pub returns-in-Ok-clause-knows : goal.returns-in-Ok-clause-knows
returns-in-Ok-clause-knows g c =
    let D = g.D.Dir in
    let a = D.shown c.args.dir.now in
    let b = D.shown c.lock_area.new.dir in
    let late = D.shown c.prepare_under_lock-result.new.dir in
    let d = D.shown c.unlock_area.new.dir in
    let gate = c.in-Ok.gate in
    let draw = c.args.draw.now in
    let refs = c.args.refs.now in
    let options = c.args.options.now in
    let to = target c.args.keep_owner in
    ok_both (λ built. D.observed ≡ true → WhereMakingPod (Began to draw c.args.now) (HasGateAlone gate) nothing_made b (λ intent hs. HasPrepared refs options draw c.args.now to intent (held_with draw.uuid built hs) b late)) (IsBuildAnswer c.args.keep_owner draw.uuid b.local)
    (λ built. D.observed ≡ true → WhereMakingPod (Began to draw c.args.now) IsAlone nothing_made a (λ intent hs. KnowsPrepared draw.uuid to intent (held_with draw.uuid built []) d)) c.prepare_under_lock-result.result
    (λ built x answer t intent hs began alone k.
    let y = x t intent (on_gate gate Images (Some Shared) ∷ []) began refl (subst (λ (l : List Held). Knows b (seen_making intent (on_gate gate Images (Some Shared) ∷ l) nothing_made)) alone (c.in-Ok.ensures.taken t (seen_making intent hs nothing_made) k (may_lock alone))) in (
      y.made.entries,
      knows_back a.local c.args.keep_owner draw.uuid to intent gate y.made.entries built c.in-Ok.ensures.unopened (subst (λ (m : Local). IsBuildAnswer c.args.keep_owner draw.uuid m built) c.in-Ok.ensures.held answer)
          (c.unlock_area.ensures.gives t) (λ s fresh known. c.unlock_area.ensures.given t s Images refl fresh known) y.made.knows,
    ))
    c.prepare_under_lock-result.ensures.prepared c.prepare_under_lock-result.ensures.answer

pub returns-in-Ok-clause-left : goal.returns-in-Ok-clause-left
returns-in-Ok-clause-left g c =
    let D = g.D.Dir in
    let a = D.shown c.args.dir.now in
    let b = D.shown c.lock_area.new.dir in
    let late = D.shown c.prepare_under_lock-result.new.dir in
    let d = D.shown c.unlock_area.new.dir in
    let gate = c.in-Ok.gate in
    let draw = c.args.draw.now in
    let to = target c.args.keep_owner in
    if_err (λ e. D.observed ≡ true → WhereMakingPod (Began to draw c.args.now) (HasGateAlone gate) nothing_made b (λ intent hs. HasMakerFolder draw.uuid intent hs late))
    (λ e. D.observed ≡ true → WhereMakingPod (Began to draw c.args.now) IsAlone nothing_made a (λ intent hs. HasMakerFolder draw.uuid intent hs d)) c.prepare_under_lock-result.result
    (λ e x t intent hs began alone k. left_back gate (number_is_new gate k c.in-Ok.ensures.unopened) (λ s fresh known. c.unlock_area.ensures.given t s Images refl fresh known)
    (x t intent (on_gate gate Images (Some Shared) ∷ hs) began (ap (λ (l : List Held). on_gate gate Images (Some Shared) ∷ l) alone) (c.in-Ok.ensures.taken t (seen_making intent hs nothing_made) k (may_lock alone))))
    c.prepare_under_lock-result.ensures.left

pub returns-in-Err-clause-went : goal.returns-in-Err-clause-went
returns-in-Err-clause-went g c = went_refused c.args.draw.now.uuid (target c.args.keep_owner) c.lock_area.ensures.same c.lock_area.ensures.faults c.in-Err.ensures.refused c.lock_area.ensures.extends

pub returns-in-Err-clause-refused : goal.returns-in-Err-clause-refused
returns-in-Err-clause-refused g c = inl (c.in-Err.error, c.gate_refusal.ensures, λ is. c.in-Err.ensures.busy (ap Err is))

pub returns-in-Err-clause-by_other_process : goal.returns-in-Err-clause-by_other_process
returns-in-Err-clause-by_other_process g c t intent hs began alone k =
    let D = g.D.Dir in
    let a = D.shown c.args.dir.now in
    let d = D.shown c.lock_area.new.dir in
    subst (λ (e : BuildError). AreaHeldElsewhere e a d) (sym c.gate_refusal.ensures) (gate_elsewhere c.in-Err.error a d (λ is. c.in-Err.ensures.by_other_process (ap Err is) t (seen_making intent hs nothing_made) k (ap (λ (l : List Held). not (is_open_on (Gate Images) l)) alone)))

pub returns-in-Err-clause-left : goal.returns-in-Err-clause-left
returns-in-Err-clause-left g c t intent hs began alone k = has_nothing (c.in-Err.ensures.left t (seen_making intent hs nothing_made) k (may_lock alone))

pub returns-in-Err-clause-makers : goal.returns-in-Err-clause-makers
returns-in-Err-clause-makers g c t run intent hs began alone k = none_handed (locks_hand_none Images Shared) (c.lock_area.ensures.extends t)

pub returns-in-Ok-clause-makers : goal.returns-in-Ok-clause-makers
returns-in-Ok-clause-makers g c t run intent hs began alone k =
    let D = g.D.Dir in
    let a = D.shown c.args.dir.now in
    let b = D.shown c.lock_area.new.dir in
    let late = D.shown c.prepare_under_lock-result.new.dir in
    let gate = c.in-Ok.gate in
    let under : List Held = on_gate gate Images (Some Shared) ∷ hs in
    let known = c.in-Ok.ensures.taken t (seen_making intent hs nothing_made) k (may_lock alone) in
    let ab = c.lock_area.ensures.extends t in
    let bc = c.prepare_under_lock-result.ensures.went.extends t in
    let cd = extends_wider (close_takes gate) (c.unlock_area.ensures.extends t) in
    let planned = c.prepare_under_lock-result.ensures.whole t intent under began (ap (λ (l : List Held). on_gate gate Images (Some Shared) ∷ l) alone) known in
    let whole : HandsOverFaithfully b.process b.trace late.trace = hands_faithfully {under = under} (run_until cd run) began refl known planned in
    let first : HandsOverFaithfully a.process a.trace late.trace = handed_after (λ me. IsFaithfulBuild me) (locks_hand_none Images Shared) ab c.lock_area.ensures.same bc whole in
    handed_before {P = IsFaithfulBuild a.process} (follow_on ab c.lock_area.ensures.same bc) first (c.prepare_under_lock-result.ensures.went.same ∙ c.lock_area.ensures.same) (locks_hand_none Images Shared) cd

pub returns-in-Ok-clause-lawful : goal.returns-in-Ok-clause-lawful
returns-in-Ok-clause-lawful g c is t conforming =
    let D = g.D.Dir in
    refused_stray c.args.refs.now c.args.options.now c.args.draw.now c.args.now (D.shown c.args.dir.now) (D.shown c.unlock_area.new.dir) c.prepare_under_lock-result.result (returns-in-Ok-clause-refused g c) is t conforming

pub returns-in-Err-clause-lawful : goal.returns-in-Err-clause-lawful
returns-in-Err-clause-lawful g c is t conforming =
    let D = g.D.Dir in
    refused_stray c.args.refs.now c.args.options.now c.args.draw.now c.args.now (D.shown c.args.dir.now) (D.shown c.lock_area.new.dir) (Err c.gate_refusal.result) (returns-in-Err-clause-refused g c) is t conforming

pub returns-in-Ok-clause-trees : goal.returns-in-Ok-clause-trees
returns-in-Ok-clause-trees g c =
    picked_within (locked_unread Images Shared c.lock_area.ensures.same c.lock_area.ensures.extends) c.prepare_under_lock-result.ensures.trees (unlocked_unread c.in-Ok.gate c.unlock_area.ensures.same c.unlock_area.ensures.extends)

pub returns-in-Err-clause-trees : goal.returns-in-Err-clause-trees
returns-in-Err-clause-trees g c = none_picked (locked_unread Images Shared c.lock_area.ensures.same c.lock_area.ensures.extends)
