-- Where nobody else steps, a pod that was made faithfully is one of the store of the state before.
use Rattle.std.proofs.Common.{◌≡◌, ◌⊎◌, inl, inr, true, false, not, List, [], ◌∷◌, ◌++◌, append-nil, append_assoc, refl, sym, ap, subst, ◌∙◌}
use Rattle.plain_laws.proofs.Booleans.{clash}
use Rattle.ac_types.specs.declared.image_ref.ImageRef.{ImageRef}
use Rattle.dir_model.specs.declared.area.Area.{Area}
use Rattle.dir_model.specs.declared.area.Area.TheVariants.{Prepare}
use Rattle.dir_model.specs.declared.event.Event.{Event}
use Rattle.dir_model.specs.declared.pod.PodId.{PodId}
use Rattle.dir_model.specs.declared.request.Request.TheVariants.{MoveFolder}
use Rattle.dir_model.specs.declared.request.Reply.TheVariants.{Done}
use Rattle.dir_model.specs.Calls.{event}
use Rattle.dir_model.specs.State.{empty_state, has_begun, has_ended, lives}
use Rattle.dir_model.specs.Trace.{state_after}
use Rattle.dir_model.proofs.Begun.{begun_stays}
use Rattle.dir_model.proofs.Chains.{states_next-append}
use Rattle.dir_model.proofs.Lists.{and_left}
use Rattle.dir_trait.specs.DirCalls.{DirAt}
use Rattle.pod_build.specs.Preparations.{IsPrepared}
use Rattle.dir_model.specs.Spots.{pod_spot}
use Rattle.pod_manifest.specs.Wishes.{Wishes}
use Rattle.standing_images.specs.Images.{AreStore, ImagesStay}
use Rattle.standing_images.proofs.Before.{store_before}
use Rattle.commands.proofs.Parts.{store_wider}

-- of two fronts of one list one is the front of the other
fronts : {X : Type 0} (a b x y : List X) → a ++ x ≡ b ++ y → ((m : List X) × (b ≡ a ++ m)) ⊎ ((m : List X) × (a ≡ b ++ m))
fronts [] b x y is = inl (b, refl)
fronts (e ∷ a) [] x y is = inr (e ∷ a, refl)
fronts {X} (e ∷ a) (f ∷ b) x y is = by (fronts a b x y rest)
  where
    rest : a ++ x ≡ b ++ y
    rest = cc

    same : e ≡ f
    same = cc

    by : ((m : List X) × (b ≡ a ++ m)) ⊎ ((m : List X) × (a ≡ b ++ m)) → ((m : List X) × (f ∷ b ≡ (e ∷ a) ++ m)) ⊎ ((m : List X) × (e ∷ a ≡ (f ∷ b) ++ m))
    by (inl m) = inl (m.0, ap (λ (z : X). z ∷ b) (sym same) ∙ ap (λ (l : List X). e ∷ l) m.1)
    by (inr m) = inr (m.0, ap (λ (z : X). z ∷ a) same ∙ ap (λ (l : List X). f ∷ l) m.1)

module _ {refs : List ImageRef} {wishes : Wishes} {draw : PodId} {to : Area} (old new : DirAt) (x : IsPrepared refs wishes old.process draw to old.trace new.trace) (stay : ImagesStay old.trace new.trace)
    (unborn : has_begun (state_after old.trace).namespace old.process ≡ false) where
  abbrev first : DirAt
  first = x.faithful.old

  abbrev last : DirAt
  last = x.faithful.new

  lived : lives (state_after first.trace).namespace old.process ≡ true
  lived = subst (λ (h : List Event). lives (state_after h).namespace old.process ≡ true) (append-nil first.trace) (x.faithful.under_lock.held [] x.faithful.under_lock.stretch refl).0

  whole : x.before ≡ first.trace ++ (x.faithful.under_lock.stretch ++ x.faithful.under_lock.later)
  whole = x.faithful.under_lock.ends ∙ (ap (λ (h : List Event). h ++ x.faithful.under_lock.later) x.faithful.under_lock.goes_on ∙ append_assoc first.trace x.faithful.under_lock.stretch x.faithful.under_lock.later)

  -- what was read was read since it began
  since : (more : List Event) × (first.trace ≡ old.trace ++ more)
  since = by (fronts old.trace first.trace x.meanwhile (x.faithful.under_lock.stretch ++ x.faithful.under_lock.later) (sym x.begins ∙ whole))
    where
      by : ((m : List Event) × (first.trace ≡ old.trace ++ m)) ⊎ ((m : List Event) × (old.trace ≡ first.trace ++ m)) → (more : List Event) × (first.trace ≡ old.trace ++ more)
      by (inl m) = m
      by (inr m) =
          let begun : has_begun (state_after first.trace).namespace old.process ≡ true = and_left (has_begun (state_after first.trace).namespace old.process) (not (has_ended (state_after first.trace).namespace old.process)) lived in
          let after : has_begun (state_after old.trace).namespace old.process ≡ true = subst (λ (h : List Event). has_begun (state_after h).namespace old.process ≡ true) (sym m.1)
          (ap (λ s. has_begun s.namespace old.process) (states_next-append empty_state first.trace m.0) ∙ begun_stays old.process (state_after first.trace) m.0 begun) in
          clash (has_begun (state_after old.trace).namespace old.process) after unborn

  pub chosen_of : AreStore x.faithful.images (state_after old.trace)
  chosen_of = store_before old new stay x.faithful.images (store_wider (record {
    earlier = since.0;
    later = x.faithful.under_lock.later ++ ending;
    same = x.faithful.under_lock.before;
    begins = since.1;
    ends = x.moved ∙ (ap (λ (h : List Event). h ++ ending) x.faithful.under_lock.ends ∙ append_assoc last.trace x.faithful.under_lock.later ending);
  }) x.faithful.images x.faithful.listed)
    where
      ending : List Event
      ending = event old.process (MoveFolder (pod_spot draw Prepare) (pod_spot draw to)) Done ∷ x.later
