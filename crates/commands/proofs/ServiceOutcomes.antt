-- What came of the service, and what is said of it.
use Rattle.std.proofs.Common.{◌≡◌, true, [], Ok, Err, IfErr, IsErrOf, refl, sym, subst, ◌∙◌}
use Rattle.metadata.specs.declared.error.MetaError.{MetaError}
use Rattle.metadata.specs.declared.error.MetaError.TheVariants as service
use Rattle.metadata.specs.Service.{Served}
use Rattle.command_outcomes.specs.declared.refusal.Refusal.{Refusal}
use Rattle.command_outcomes.specs.declared.refusal.Refusal.TheVariants.{DirFault, LinkFault}
use Rattle.command_outcomes.specs.Moments.{CommandOutcome}
use Rattle.commands.specs.MetadataService.{service_refusal, service_refusals, service_outcome, PrintsNothing}

link_error : (e : MetaError) → service_refusal e ≡ LinkFault → e ≡ service.LinkFault
link_error service.LinkFault is = refl
link_error service.DirFault is = cc
link_error service.NoMemory is = cc

dir_error : (e : MetaError) → service_refusal e ≡ DirFault → e ≡ service.DirFault
dir_error service.LinkFault is = cc
dir_error service.DirFault is = refl
dir_error service.NoMemory is = cc

abbrev failing : MetaError → Served
failing e = Err e

same_refusal : (a b : Refusal) → ◌≡◌ {A = CommandOutcome} (Err a) (Err b) → a ≡ b
same_refusal a b is = cc

-- whose fault it was
pub link_fault_of : (served : Served) (o : CommandOutcome) → o ≡ service_outcome served → IsErrOf o LinkFault → IsErrOf served service.LinkFault
link_fault_of (Ok done) o is fault = let clash : ◌≡◌ {A = CommandOutcome} (Ok []) (Err LinkFault) = sym is ∙ fault in cc
link_fault_of (Err e) o is fault = let same : e ≡ service.LinkFault = link_error e (same_refusal (service_refusal e) LinkFault (sym is ∙ fault)) in subst (λ (x : MetaError). failing e ≡ failing x) same refl

pub dir_fault_of : (served : Served) (o : CommandOutcome) → o ≡ service_outcome served → IsErrOf o DirFault → IsErrOf served service.DirFault
dir_fault_of (Ok done) o is fault = let clash : ◌≡◌ {A = CommandOutcome} (Ok []) (Err DirFault) = sym is ∙ fault in cc
dir_fault_of (Err e) o is fault = let same : e ≡ service.DirFault = dir_error e (same_refusal (service_refusal e) DirFault (sym is ∙ fault)) in subst (λ (x : MetaError). failing e ≡ failing x) same refl

-- nothing else is said
of_service : (e : MetaError) → service_refusals (service_refusal e) ≡ true
of_service service.LinkFault = refl
of_service service.DirFault = refl
of_service service.NoMemory = refl

its_refusals : (served : Served) → IfErr (service_outcome served) (λ r. service_refusals r ≡ true)
its_refusals (Ok done) = tt
its_refusals (Err e) = of_service e

pub refusals_of_service : (served : Served) (o : CommandOutcome) → o ≡ service_outcome served → IfErr o (λ r. service_refusals r ≡ true)
refusals_of_service served o is = subst (λ (x : CommandOutcome). IfErr x (λ r. service_refusals r ≡ true)) (sym is) (its_refusals served)

no_text : (served : Served) → PrintsNothing (service_outcome served)
no_text (Ok done) = refl
no_text (Err e) = tt

pub prints_nothing : (served : Served) (o : CommandOutcome) → o ≡ service_outcome served → PrintsNothing o
prints_nothing served o is = subst PrintsNothing (sym is) (no_text served)
