-- Pods stand as their makers made them, and their apps start in that.
use Rattle.std.proofs.Common.{◌≡◌, ℕ, Bool, true, false, not, ◌&&◌, cond, Option, Some, None, is_some, List, [], ◌∷◌, ◌++◌, unwrap_or, refl, sym, ap, subst, ◌∙◌, append_assoc}
use Rattle.dir_model.specs.declared.area.Area.{Area}
use Rattle.dir_model.specs.declared.area.Area.TheVariants.{Prepare, Prepared, Run}
use Rattle.dir_model.specs.declared.event.Event.{Event}
use Rattle.dir_model.specs.declared.item.Inner.{Inner}
use Rattle.dir_model.specs.declared.tree.TreeEntry.{TreeEntry}
use Rattle.dir_model.specs.declared.request.Request.TheVariants.{MakeFileIn, MoveFolder}
use Rattle.dir_model.specs.declared.request.Reply.TheVariants.{Done}
use Rattle.dir_model.specs.Calls.{event}
use Rattle.dir_model.specs.State.{DirState, folder_at}
use Rattle.dir_model.specs.Trace.{state_after}
use Rattle.dir_model.specs.Replies.{is_reply, is_own_at, make_refusal, refused_in}
use Rattle.dir_model.proofs.Chains.{state_after-push}
use Rattle.dir_rules.specs.declared.seen.Making.{Making}
use Rattle.dir_rules.specs.Standing.{is_in}
use Rattle.lifecycle.specs.Executions.{IsConforming}
use Rattle.folder_contents.specs.Handing.{hands_over}
use Rattle.folder_contents.proofs.Along.{happens, conforming_to}
use Rattle.folder_contents.proofs.Spots.{in_area}
use Rattle.folder_contents.specs.Filled.{is_after_handover, lasting, KeepsMadeContents}
use Rattle.folder_contents.proofs.Comes.{pods_are_filled}
use Rattle.pod_plan.specs.Pods.{names_of}
use Rattle.pod_build.specs.Handovers.{is_handed_to}
use Rattle.pod_build.specs.FaithfulBuild.{IsFaithfulBuild, HandsOverFaithfully}
use Rattle.pod_build.specs.LegalExecutions.{IsLegal, MakersAreFaithful}
use Rattle.headline.specs.Roots.{PodsStandFaithfully, AppsStartFaithfully, then_marked}
use Rattle.headline.proofs.Plain.{all_lasts}

-- a beginning of a legal execution is legal
pub legal_before : (before later : List Event) → IsConforming before → IsLegal (before ++ later) → IsLegal before
legal_before before later conforms legal = record {
  conforms = conforms;
  makers = λ h p from to rest is out hands.
      legal.makers h p from to (rest ++ later) (ap (λ l. l ++ later) is ∙ append_assoc h (event p (MoveFolder from to) Done ∷ rest) later) out hands;
}

-- where each process hands over only what it made faithfully, every maker is faithful
handed_on : (a : Area) → hands_over Prepare a ≡ true → is_handed_to a ≡ true
handed_on Prepared is = refl
handed_on Run is = refl
handed_on a is = cc

pub makers_are : (trace : List Event) → ((p : ℕ) → HandsOverFaithfully p [] trace) → MakersAreFaithful trace
makers_are trace each before p from to later is out hands =
    let area : Prepare ≡ from.area = in_area Prepare from.area out in
    let on : is_handed_to to.area ≡ true = handed_on to.area (ap (λ a. hands_over a to.area) area ∙ hands) in
    (each p).so before before later from to refl is (ap (λ b. b && is_handed_to to.area) out ∙ on)

hands_to_filled : (a : Area) → is_after_handover a ≡ true → hands_over Prepare a ≡ true
hands_to_filled Prepared is = refl
hands_to_filled Run is = refl
hands_to_filled a is = cc

-- who handed a pod over made it faithfully
made_by : {trace : List Event} {folder : ℕ} → IsLegal trace → (f : KeepsMadeContents trace folder) → IsFaithfulBuild f.process f.before
made_by {trace} {folder} legal f =
    legal.makers f.before f.process f.from f.to f.later f.moved (ap (is_in Prepare) f.left) (ap (λ a. hands_over a f.to.area) f.left ∙ hands_to_filled f.to.area f.reached)

pub pods_stand : (trace : List Event) → IsLegal trace → PodsStandFaithfully trace
pods_stand trace legal spot folder filled there =
    let f = pods_are_filled trace legal.conforms spot folder filled there in
    let made = made_by legal f in
    let b = made.built in
    record {
      filled = f;
      made = made;
      holds = f.same ∙ (ap (λ (m : Making). lasting m.entries) (one_making (sym f.handed.knew ∙ b.made)) ∙ all_lasts b.intent.now (names_of b.pod.apps) b.making.entries b.pod.pod.others);
    }
  where
    one_making : {y z : Making} → Some y ≡ Some z → y ≡ z
    one_making {y} {z} is = ap (λ o. unwrap_or o y) is

-- a file is made only where a folder stands
found_by : (own : Bool) (es : List TreeEntry) (path : List ℕ) (o : Option ℕ) (apps : Option ℕ → Bool) → (apps None ≡ false) → (any : Bool) →
    cond (apps o) any (not (is_some (refused_in (make_refusal path) es o)) && true) ≡ true → (folder : ℕ) × (o ≡ Some folder)
found_by own es path (Some folder) apps none any is = (folder, refl)
found_by own es path None apps none any is = let clash : false ≡ true = sym (ap (λ b. cond b any false) none) ∙ is in cc

made_where : (s : DirState) (p : ℕ) (inner : Inner) → is_reply s p (MakeFileIn inner) Done ≡ true → (folder : ℕ) × (folder_at s.namespace inner.spot ≡ Some folder)
made_where s p inner is = found_by true s.entries inner.path (folder_at s.namespace inner.spot) (is_own_at s inner.path) refl true is

pub apps_start : (trace : List Event) → IsLegal trace → AppsStartFaithfully trace
apps_start trace legal before later p inner is run mark =
    let e : Event = event p (MakeFileIn inner) Done in
    let conforms = conforming_to trace before e later legal.conforms is in
    let now : IsLegal (then_marked before p inner) = legal_before (then_marked before p inner) later conforms (subst IsLegal (is ∙ sym (append_assoc before (e ∷ []) later)) legal) in
    let found = made_where (state_after before) p inner (happens before e conforms).is in
    let there : folder_at (state_after (then_marked before p inner)).namespace inner.spot ≡ Some found.0 = ap (λ (s : DirState). folder_at s.namespace inner.spot) (state_after-push before e) ∙ found.1 in
    let area : inner.spot.area ≡ Run = sym (in_area Run inner.spot.area run) in
    record { folder = found.0; there = there; filled = pods_stand (then_marked before p inner) now inner.spot found.0 (ap is_after_handover area) there }
