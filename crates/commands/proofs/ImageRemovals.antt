-- The commands `image rm` and `image gc`, each between its begin and its finish.
use Rattle.std.proofs.Common.{◌≡◌, ◌⊎◌, inl, inr, Bool, true, false, List, Ok, Err, refl, sym, ap, subst}
use Rattle.ac_types.specs.Ids.{id_text}
use Rattle.ac_types.specs.declared.store_key.StoreKey.{StoreKey}
use Rattle.dir_model.specs.declared.area.Area.{Area}
use Rattle.dir_model.specs.declared.area.Area.TheVariants.{Images}
use Rattle.dir_model.specs.declared.spot.Mode.TheVariants.{Exclusive}
use Rattle.dir_model.specs.declared.pod.PodId.{PodId}
use Rattle.dir_rules.specs.declared.seen.Seen.{Seen}
use Rattle.dir_trait.specs.DirCalls.{DirAt, HeldBetween}
use Rattle.dir_trait.specs.Knowledge.{Knows}
use Rattle.dir_files.specs.AreaLocks.{IsBusyElsewhere}
use Rattle.image_reading.specs.declared.error.StoreError.{StoreError}
use Rattle.image_reading.specs.declared.error.StoreError.TheVariants as store_error
use Rattle.image_removal.specs.declared.pass.SweepLine.{SweepLine}
use Rattle.image_removal.specs.Causes.{ImageRemovalCause, RemovalWorkCause, WasBusy, RemovalBusyElsewhere}
use Rattle.image_removal.specs.Sweeps.{BusyApart, IsStoreSweptBetween, HasTriedBetween}
use Rattle.image_removal.specs.Work.{MayRemoveImage, MaySweepStore}
use Rattle.command_outcomes.specs.declared.refusal.Refusal.{Refusal}
use Rattle.command_outcomes.specs.declared.refusal.Refusal.TheVariants.{NoMemory}
use Rattle.command_outcomes.specs.Moments.{CommandOutcome}
use Rattle.commands.specs.ImageRm.{refusal_of_removal, IsRemovalSaid, FindsBusy, ImageRmSays}
use Rattle.commands.specs.ImageGc.{sweep_texts, ImageGcSays, EndsEarly}
use Rattle.image_removal.specs.Ended.{EndsImageSweepBetween}
use Rattle.commands.specs.Strays.{NeverComes}

-- why an image wasn't removed, and what is said of it
module _ (observed : Bool) (a b : DirAt) (key : StoreKey) (draw : PodId) where
  abbrev Says : CommandOutcome → Type 0
  Says o = ImageRmSays observed key draw a b o

  abbrev Another : StoreError → Type 0
  Another e = observed ≡ true → (s : Seen) → Knows a s → MayRemoveImage draw s → RemovalBusyElsewhere e a b

  abbrev Lawful : StoreError → Type 0
  Lawful e = e ≡ store_error.Stray → observed ≡ true → (s : Seen) → Knows a s → MayRemoveImage draw s → NeverComes b.trace

  said : (e : StoreError) → ImageRemovalCause observed key draw e a b → Another e → Lawful e → Says (Err (refusal_of_removal e))
  said (store_error.Busy area) cause another lawful = λ t s k may. by area (cause.busy area refl) t s k may another
    where
      by : (here : Area) → (here ≡ Images) × (observed ≡ true → WasBusy a b) → observed ≡ true → (s : Seen) → Knows a s → MayRemoveImage draw s → Another (store_error.Busy here) →
          FindsBusy a.process a.trace b.trace
      by here x t s k may another = record {
        held = subst (λ (q : Area). HeldBetween a b (IsBusyElsewhere a.process q Exclusive)) x.0 (another t s k may here refl);
        only = (x.1 t).only;
      }
  said (store_error.NoImage other) cause another lawful = let f = cause.absent other refl in record { is = ap (λ (q : StoreKey). id_text q.bytes) f.0; found = f.1 }
  said store_error.DirFault cause another lawful = tt
  said store_error.NoMemory cause another lawful = tt
  said store_error.Stray cause another lawful = (λ t. cause.stray refl t, λ t s k may. lawful refl t s k may)
  said e cause another lawful = let clash : false ≡ true = cause.kind in cc

  pub refused_says : (e : StoreError) (r : Refusal) → IsRemovalSaid e r → ImageRemovalCause observed key draw e a b → Another e → Lawful e → Says (Err r)
  refused_says e r (inr is) cause another lawful = subst (λ (x : Refusal). Says (Err x)) (sym is) tt
  refused_says e r (inl is) cause another lawful = subst (λ (x : Refusal). Says (Err x)) (sym is) (said e cause another lawful)

-- what a sweep printed, or why it ended early
module _ (observed : Bool) (a b : DirAt) where
  abbrev SweepSays : CommandOutcome → Type 0
  SweepSays o = ImageGcSays observed a b o

  pub swept_says : (lines : List SweepLine) (o : CommandOutcome) → (o ≡ Ok (sweep_texts lines)) ⊎ (o ≡ Err NoMemory) →
      (observed ≡ true → (s : Seen) → Knows a s → MaySweepStore s → IsStoreSweptBetween (BusyApart a.process) a b lines) → SweepSays o
  swept_says lines o (inr e) swept = subst SweepSays (sym e) tt
  swept_says lines o (inl e) swept = subst SweepSays (sym e) (record { lines = lines; is = refl; swept = λ t s k may. swept t s k may })

  abbrev SweepLawful : StoreError → Type 0
  SweepLawful e = e ≡ store_error.Stray → observed ≡ true → (s : Seen) → Knows a s → MaySweepStore s → NeverComes b.trace

  early : (e : StoreError) → RemovalWorkCause observed e a b → (observed ≡ true → EndsEarly a.process a.trace b.trace) → SweepLawful e → SweepSays (Err (refusal_of_removal e))
  early store_error.DirFault cause ends lawful = ends
  early store_error.NoMemory cause ends lawful = tt
  early store_error.Stray cause ends lawful = (λ t. record { stray = cause.stray refl t; early = ends t }, λ t s k may. lawful refl t s k may)
  early e cause ends lawful = let clash : false ≡ true = cause.kind in cc

  pub early_says : (e : StoreError) (r : Refusal) → r ≡ refusal_of_removal e → RemovalWorkCause observed e a b → (observed ≡ true → HasTriedBetween a b) → (observed ≡ true → EndsImageSweepBetween a b) → SweepLawful e → SweepSays (Err r)
  early_says e r is cause tried ended lawful = subst (λ (x : Refusal). SweepSays (Err x)) (sym is) (early e cause (λ t. record { tried = tried t; ended = ended t }) lawful)
