-- The command `gc`: from the sweep to what is told of it.
use Rattle.std.proofs.Common.{◌≡◌, ◌≤◌, ◌⊎◌, inl, inr, Bool, true, Ok, Err, List, refl, sym, subst}
use Rattle.dir_trait.specs.DirCalls.{DirAt}
use Rattle.pod_gc.specs.declared.ages.Times.{Times}
use Rattle.pod_gc.specs.declared.gc_error.GcError.{GcError}
use Rattle.pod_gc.specs.declared.gc_error.GcError.TheVariants as error
use Rattle.pod_gc.specs.declared.line.GcLine.{GcLine}
use Rattle.pod_gc.specs.Causes.{GcCause}
use Rattle.pod_gc.specs.Told.{IsSweptBetween}
use Rattle.pod_gc.specs.Ended.{EndsSweepBetween}
use Rattle.command_outcomes.specs.declared.refusal.Refusal.{Refusal}
use Rattle.command_outcomes.specs.declared.refusal.Refusal.TheVariants.{DirFault, NoMemory}
use Rattle.command_outcomes.specs.Moments.{CommandOutcome}
use Rattle.commands.specs.Strays.{ComesOfApp}
use Rattle.commands.specs.Gc.{lines_text, sweep_refusal, gc_refusal, SweepsInPart, WhereSweepingPods, GcSays}

pub sweep_fault : (e : GcError) → sweep_refusal e ≡ DirFault → e ≡ error.DirFault
sweep_fault error.DirFault is = refl
sweep_fault e is = cc

pub sweep_allowed : (e : GcError) → gc_refusal (sweep_refusal e) ≡ true
sweep_allowed error.DirFault = refl
sweep_allowed e = refl

module _ (observed : Bool) (a b : DirAt) (times : Times) where
  abbrev Says : CommandOutcome → Type 0
  Says o = GcSays observed times a b o

  pub swept_says : times.now ≤ 18446744073709551615 → (lines : List GcLine) (o : CommandOutcome) → (o ≡ Ok (lines_text lines)) ⊎ (o ≡ Err NoMemory) → (observed ≡ true → IsSweptBetween times a b lines) → Says o
  swept_says moment lines o (inr e) swept = subst Says (sym e)
      (λ t s k may. inr (lines, record { from = a; can = (s, k, may); swept = swept t; moment = moment }))
  swept_says moment lines o (inl e) swept = subst Says (sym e) (record {
    lines = lines;
    is = refl;
    swept = λ t s k may. record { from = a; can = (s, k, may); swept = swept t; moment = moment };
  })

  in_part : times.now ≤ 18446744073709551615 → (observed ≡ true → EndsSweepBetween times a b) → WhereSweepingPods observed times a (SweepsInPart times a.process a.trace b.trace)
  in_part moment ended t s k may = record { from = a; can = (s, k, may); ended = ended t; moment = moment }

  abbrev Lawful : GcError → Type 0
  Lawful e = e ≡ error.Stray → WhereSweepingPods observed times a (ComesOfApp a.process a.trace b.trace)

  early : (e : GcError) → GcCause observed e a b → WhereSweepingPods observed times a (SweepsInPart times a.process a.trace b.trace) → Lawful e → Says (Err (sweep_refusal e))
  early error.DirFault cause part lawful = part
  early error.NoMemory cause part lawful = λ t s k may. inl (part t s k may)
  early error.Stray cause part lawful = (λ t. cause.stray refl t, part, lawful refl)

  pub early_says : times.now ≤ 18446744073709551615 → (e : GcError) (r : Refusal) → r ≡ sweep_refusal e → GcCause observed e a b → (observed ≡ true → EndsSweepBetween times a b) → Lawful e → Says (Err r)
  early_says moment e r is cause ended lawful = subst (λ (x : Refusal). Says (Err x)) (sym is) (early e cause (in_part moment ended) lawful)
