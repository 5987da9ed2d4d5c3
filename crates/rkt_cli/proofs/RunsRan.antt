-- What the commands owe that start apps, each between its begin and its finish, and what a process knows that has just begun.
use Rattle.std.proofs.Common.{◌≡◌, ℕ, Bool, true, List, [], Some, Option, Ok, Err, IsErrOf, IfErr, refl, sym, ap, subst, ◌∙◌}
use Rattle.dir_model.specs.declared.area.Area.TheVariants as area
use Rattle.dir_model.specs.declared.intent.Draw.{Draw}
use Rattle.dir_model.specs.declared.intent.Intent.{Intent}
use Rattle.dir_model.specs.declared.intent.Kind.TheVariants as kind
use Rattle.dir_model.specs.declared.pod.PodId.{PodId}
use Rattle.dir_model.specs.declared.request.Request.TheVariants.{Begin}
use Rattle.dir_model.specs.declared.request.Reply.TheVariants.{Done}
use Rattle.dir_model.specs.Causes.{Rose}
use Rattle.dir_model.specs.Local.{Local, local_replied}
use Rattle.dir_rules.specs.Conforms.{IsTied}
use Rattle.dir_rules.proofs.Unborn.{tied_begun}
use Rattle.dir_trait.specs.DirCalls.{DirAt, DirCall}
use Rattle.dir_trait.specs.Knowledge.{Knows, SameHandles}
use Rattle.dir_trait.specs.Local.{nothing_local}
use Rattle.dir_trait.specs.Effects.{OnlyAsks}
use Rattle.pod_build.specs.Preparations.{Began}
use Rattle.command_outcomes.specs.declared.refusal.Refusal.{Refusal}
use Rattle.command_outcomes.specs.declared.refusal.Refusal.TheVariants.{DirFault, NoMemory}
use Rattle.command_outcomes.specs.declared.told.Told.{Told}
use Rattle.command_outcomes.specs.Conforming.{seen_at_begin}
use Rattle.command_outcomes.specs.Moments.{BundleSeen, Answer, outcome_of}
use Rattle.command_outcomes.proofs.Seen.{beside}
use Rattle.commands.specs.RunRefusals.{run_prepared_refusal, new_run_refusal}
use Rattle.commands.specs.RunPrepared.{runs_prepared, CanClaim}
use Rattle.commands.specs.Run.{makes_and_runs, CanRun}
use Rattle.commands.proofs.Claimed.{may_begin}
use Rattle.rkt_cli.specs.Tasks.{Task}
use Rattle.rkt_cli.specs.Tasks.{RunPrepared, Run}
use Rattle.commands.specs.Command.{intent_for}
use Rattle.rkt_cli.specs.Commands.{intent_of, may}
use Rattle.rkt_cli.specs.Runs.{CommandRan}
use Rattle.rkt_cli.proofs.Ran.{ran}
use Rattle.commands.specs.Wants.{Wants}

-- what it knows
pub begun_at : {observed : Bool} {a b : DirAt} (intent : Intent) → a.local ≡ nothing_local → DirCall observed a (Begin intent) Done b → observed ≡ true → Knows b (seen_at_begin intent)
begun_at {observed} {a} {b} intent fresh call t = record {
  tied = subst (λ (me : ℕ). IsTied me b.trace (seen_at_begin intent)) (sym call.same) (tied_begun (call.step t));
  handles = subst (λ (m : Local). SameHandles [] m.holdings) (sym (call.local ∙ ap (λ (m : Local). local_replied m (Begin intent) Done) fresh)) (λ test. refl);
}

pub begun_as : {d : DirAt} (line : Task) (now : ℕ) (draw : Draw) (intent other : Intent) → intent_of line now draw ≡ Some intent → intent_of line now draw ≡ Some other → Knows d (seen_at_begin intent) → Knows d (seen_at_begin other)
begun_as {d} line now draw intent other is said k = subst (λ (i : Intent). Knows d (seen_at_begin i)) (let e : ◌≡◌ {A = Option Intent} (Some intent) (Some other) = sym is ∙ said in let same : intent ≡ other = cc in same) k

-- so it may claim, or make a pod
pub can_claim : {word : List ℕ} {address : List ℕ} (d : DirAt) (line : Task) (now : ℕ) (draw : Draw) (pod : PodId) → line ≡ RunPrepared word pod address → ((intent : Intent) → intent_of line now draw ≡ Some intent → Knows d (seen_at_begin intent)) → CanClaim d
can_claim {word = word} d line now draw pod is known =
    let intent = intent_for kind.RunPrepared word now draw in
    (seen_at_begin intent, known intent (ap (λ (l : Task). intent_of l now draw) is), may_begin intent refl)

pub can_run : {address : List ℕ} (d : DirAt) (line : Task) (now : ℕ) (draw : Draw) (wants : Wants) → line ≡ Run wants address → ((intent : Intent) → intent_of line now draw ≡ Some intent → Knows d (seen_at_begin intent)) → CanRun draw now d
can_run d line now draw wants is known =
    let intent = intent_for kind.Run [] now draw in
    let began : Began area.Run draw now intent = record { leads = refl; drawn = refl; token = refl; moment = refl } in
    let k = known intent (ap (λ (l : Task). intent_of l now draw) is) in
    (intent, began, record { tied = k.tied; handles = k.handles })

-- what each owes
prepared_may : (word address : List ℕ) (pod : PodId) (r : Refusal) → run_prepared_refusal r ≡ true → may (RunPrepared word pod address) r ≡ true
prepared_may word address pod NoMemory known = known
prepared_may word address pod DirFault known = known
prepared_may word address pod r known = known

made_may : (address : List ℕ) (wants : Wants) (r : Refusal) → new_run_refusal r ≡ true → may (Run wants address) r ≡ true
made_may address wants NoMemory known = known
made_may address wants DirFault known = known
made_may address wants r known = known

as_outcome : (known : Refusal → Bool) (answer : Answer) → IfErr answer (λ r. known r ≡ true) → IfErr (outcome_of answer) (λ r. known r ≡ true)
as_outcome known (Ok told) all = tt
as_outcome known (Err r) all = all

fault_of : (answer : Answer) → IsErrOf (outcome_of answer) DirFault → IsErrOf answer DirFault
fault_of (Ok told) is = cc
fault_of (Err r) is = let same : r ≡ DirFault = cc in subst (λ (x : Refusal). IsErrOf {T = Told} (Err x) DirFault) (sym same) refl

module _ (line : Task) (now : ℕ) (draw : Draw) (observed : Bool) (a b : DirAt) (bundle : BundleSeen) (answer : Answer) where
  abbrev Ran : Task → Type 0
  Ran l = CommandRan l now draw (beside observed a bundle) (beside observed b bundle) (outcome_of answer)

  pub prepared_ran : {word : List ℕ} {address : List ℕ} (pod : PodId) → line ≡ RunPrepared word pod address → OnlyAsks observed (runs_prepared pod) a b → (IsErrOf answer DirFault → Rose a.faults b.faults) → IfErr answer (λ r. run_prepared_refusal r ≡ true) → Ran line
  prepared_ran {word = word} {address = address} pod is worked cause known =
      ran (RunPrepared word pod address) run_prepared_refusal refl (prepared_may word address pod) line now draw observed a b bundle (outcome_of answer) is refl worked (λ fault. cause (fault_of answer fault)) (as_outcome run_prepared_refusal answer known) tt

  pub made_ran : {address : List ℕ} (wants : Wants) → line ≡ Run wants address → OnlyAsks observed (makes_and_runs draw.uuid) a b → (IsErrOf answer DirFault → Rose a.faults b.faults) → IfErr answer (λ r. new_run_refusal r ≡ true) → Ran line
  made_ran {address = address} wants is worked cause known =
      ran (Run wants address) new_run_refusal refl (made_may address wants) line now draw observed a b bundle (outcome_of answer) is refl worked (λ fault. cause (fault_of answer fault)) (as_outcome new_run_refusal answer known) tt
