-- The command `rm`: from the removal to what is told of it.
use Rattle.std.proofs.Common.{◌≡◌, Bool, true, Err, ℕ, refl, sym, ap, subst}
use Rattle.dir_model.specs.declared.pod.PodId.{PodId}
use Rattle.dir_trait.specs.DirCalls.{DirAt}
use Rattle.dir_trait.specs.Effects.{Given}
use Rattle.pod_gc.specs.declared.remove_error.RemoveError.{RemoveError}
use Rattle.pod_gc.specs.declared.remove_error.RemoveError.TheVariants as error
use Rattle.pod_gc.specs.RemovalHolding.{MayRemovePod}
use Rattle.pod_gc.specs.Removals.{PodRemovalCause, RemovalRefusedByAnother}
use Rattle.pod_gc.specs.Found.{RefusedFirst}
use Rattle.commands.specs.Strays.{ComesOfApp}
use Rattle.command_outcomes.specs.declared.refusal.Refusal.{Refusal}
use Rattle.command_outcomes.specs.declared.refusal.Refusal.TheVariants.{DirFault}
use Rattle.command_outcomes.specs.Moments.{CommandOutcome}
use Rattle.commands.specs.Rm.{remove_refusal, rm_refusal, RmSays}

pub said_fault : (pod : PodId) (e : RemoveError) → remove_refusal pod e ≡ DirFault → e ≡ error.DirFault
said_fault pod error.DirFault is = refl
said_fault pod e is = cc

pub allowed : (pod : PodId) (e : RemoveError) → rm_refusal (remove_refusal pod e) ≡ true
allowed pod error.NoPod = refl
allowed pod e = refl

-- why the pod wasn't removed, and what is said of it
module _ (observed : Bool) (a b : DirAt) (pod : PodId) (now : ℕ) where
  abbrev Says : CommandOutcome → Type 0
  Says o = RmSays observed pod now a b o

  abbrev Another : RemoveError → Type 0
  Another e = observed ≡ true → Given (MayRemovePod pod now) a (λ s. RemovalRefusedByAnother pod e a b)

  abbrev First : RemoveError → Type 0
  First e = observed ≡ true → Given (MayRemovePod pod now) a (λ s. RefusedFirst pod e a b)

  abbrev Lawful : RemoveError → Type 0
  Lawful e = e ≡ error.Stray → observed ≡ true → Given (MayRemovePod pod now) a (λ s. ComesOfApp a.process a.trace b.trace)

  said : (e : RemoveError) → PodRemovalCause observed pod e a b → Another e → First e → Lawful e → Says (Err (remove_refusal pod e))
  said error.NoPod cause another first lawful = λ t. cause.nowhere refl t
  said (error.WrongPhase phase) cause another first lawful = record {
    was = λ t conforming. cause.phase phase refl t conforming;
    owner = λ t s k may conforming. (another t s k may).owner conforming phase refl;
  }
  said error.NoManifest cause another first lawful = (refl, λ t conforming. cause.manifest refl t conforming)
  said (error.Busy other which) cause another first lawful =
      let same : other ≡ pod = cause.named other which refl in
      let named : error.Busy other which ≡ error.Busy pod which = ap (λ (p : PodId). error.Busy p which) same in
      (same, λ t s k may. record { busy = (another t s k may).busy which named; first = first t s k may which named })
  said error.DirFault cause another first lawful = tt
  said error.Stray cause another first lawful = (λ t. cause.stray refl t, λ t s k may. lawful refl t s k may)
  said error.NoMemory cause another first lawful = tt

  pub refused_says : (e : RemoveError) (r : Refusal) → r ≡ remove_refusal pod e → PodRemovalCause observed pod e a b → Another e → First e → Lawful e → Says (Err r)
  refused_says e r is cause another first lawful = subst (λ (x : Refusal). Says (Err x)) (sym is) (said e cause another first lawful)
