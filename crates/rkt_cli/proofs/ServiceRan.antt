-- What `metadata-service` owes.
use Rattle.std.proofs.Common.{◌≡◌, ◌⊎◌, inl, inr, ℕ, Bool, true, false, List, [], Option, Some, None, Ok, Err, IfErr, IsErrOf, refl, sym, ap, subst, ◌∙◌}
use Rattle.dir_model.specs.declared.intent.Draw.{Draw}
use Rattle.dir_model.specs.declared.intent.Intent.{Intent}
use Rattle.dir_model.specs.Causes.{Rose}
use Rattle.dir_trait.specs.DirCalls.{DirAt}
use Rattle.pod_report.specs.Requests.{OnlyAsksFor}
use Rattle.metadata.specs.Looks.{looks_in_run}
use Rattle.command_outcomes.specs.declared.refusal.Refusal.{Refusal}
use Rattle.command_outcomes.specs.declared.refusal.Refusal.TheVariants.{DirFault, LinkFault, NoMemory, SpawnFault}
use Rattle.command_outcomes.specs.Ends.{is_own_end}
use Rattle.command_outcomes.specs.Moments.{Answer, BundleSeen, Outside, CommandOutcome, outcome_of}
use Rattle.command_outcomes.proofs.Seen.{beside}
use Rattle.commands.specs.MetadataService.{service_refusals, PrintsNothing}
use Rattle.rkt_cli.specs.Tasks.{Task, Metadata}
use Rattle.rkt_cli.specs.Commands.{may}
use Rattle.rkt_cli.specs.Runs.{CommandRan, Performs}
use Rattle.rkt_cli.proofs.Ran.{ran}
use Rattle.rkt_cli.proofs.Reported.{worked}
use Rattle.rkt_cli.proofs.Outcomes.{printing}

service_own : (address : List ℕ) (count : ℕ) (r : Refusal) → service_refusals r ≡ true → may (Metadata address count) r ≡ true
service_own address count LinkFault h = refl
service_own address count DirFault h = refl
service_own address count NoMemory h = refl
service_own address count r h = let clash : false ≡ true = h in cc

-- between its begin and its finish
pub service_ran : (task : Task) (now : ℕ) (draw : Draw) (observed : Bool) (a b : DirAt) (bundle : BundleSeen) (o told : CommandOutcome) (address : List ℕ) (count : ℕ) → task ≡ Metadata address count → told ≡ o →
    OnlyAsksFor observed looks_in_run a b → (IsErrOf o DirFault → Rose a.faults b.faults) → IfErr o (λ r. service_refusals r ≡ true) → PrintsNothing o →
    CommandRan task now draw (beside observed a bundle) (beside observed b bundle) told
service_ran task now draw observed a b bundle o told address count is same only cause all silent =
    subst (λ (x : CommandOutcome). CommandRan task now draw (beside observed a bundle) (beside observed b bundle) x) (sym same)
    (ran (Metadata address count) service_refusals refl (service_own address count) task now draw observed a b bundle o is refl (worked only) cause all silent)

-- an answer that is a refusal is its outcome's
pub outcome_refused : (answer : Answer) (o : CommandOutcome) (r : Refusal) → outcome_of answer ≡ o → IsErrOf answer r → IsErrOf o r
outcome_refused answer o r same is = sym same ∙ ap outcome_of is

-- it starts no apps
pub service_spawns : (answer : Answer) (o : CommandOutcome) {X : Type 0} → outcome_of answer ≡ o → IfErr o (λ r. service_refusals r ≡ true) → IsErrOf answer SpawnFault → X
service_spawns answer o same all is = let clash : false ≡ true = subst (λ (x : CommandOutcome). IfErr x (λ r. service_refusals r ≡ true)) (outcome_refused answer o SpawnFault same is) all in cc

-- its text
pub service_printed : (address : List ℕ) (count : ℕ) (now : ℕ) (draw : Draw) (intent : Option Intent) (old new : Outside) (text : List ℕ) → Performs (Metadata address count) now draw intent old new (Ok text) → text ≡ []
service_printed address count now draw None old new text p = p.ran.says
service_printed address count now draw (Some intent) old new text (inl s) = s.ran.says
service_printed address count now draw (Some intent) old new text (inr n) = let e = n.is in cc

-- what it comes to by itself
pub service_quiet : (address : List ℕ) (count : ℕ) (o : CommandOutcome) → PrintsNothing o → IfErr o (λ r. may (Metadata address count) r ≡ true) → is_own_end o ≡ true → (o ≡ Ok []) ⊎ (o ≡ Err LinkFault)
service_quiet address count (Ok text) silent all own = inl (ap printing silent)
service_quiet address count (Err LinkFault) silent all own = inr refl
service_quiet address count (Err NoMemory) silent all own = let clash : false ≡ true = own in cc
service_quiet address count (Err DirFault) silent all own = let clash : false ≡ true = own in cc
service_quiet address count (Err r) silent all own = let clash : false ≡ true = all in cc
