-- While the images stay as they are, a pod isn't prepared for what the locks and the store of the state before say.
use Rattle.std.proofs.Common.{◌≡◌, ◌⊎◌, inl, inr, ℕ, Bool, true, List, [], ◌∷◌, length, refl, sym, ap, subst, ◌∙◌}
use Rattle.std.specs.List.{AllByRecursion}
use Rattle.ac_types.specs.declared.image_ref.ImageRef.{ImageRef}
use Rattle.dep_match.specs.declared.dep_tree.DepTree.{DepTree}
use Rattle.dep_match.specs.declared.stored.Stored.{Stored}
use Rattle.render.specs.declared.render_error.RenderError.TheVariants as render
use Rattle.dir_model.specs.declared.intent.Draw.{Draw}
use Rattle.dir_model.specs.State.{DirState}
use Rattle.dir_model.specs.Trace.{state_after}
use Rattle.dir_model.proofs.Lists.{all_right}
use Rattle.dir_trait.specs.DirCalls.{DirAt, HeldBetween}
use Rattle.dir_files.specs.declared.lock_error.LockError.{LockError}
use Rattle.dir_files.specs.declared.lock_error.LockError.TheVariants as lock
use Rattle.folder_building.specs.declared.plan.PlanEntry.{PlanEntry}
use Rattle.image_reading.specs.declared.error.StoreError.TheVariants as store
use Rattle.image_reading.specs.Places.{image_inner, manifest_name}
use Rattle.image_reading.specs.Files.{IsNoImageManifest}
use Rattle.image_reading.specs.Store.{ReadsStore, LacksListed}
use Rattle.pod_build.specs.declared.error.BuildError.{BuildError}
use Rattle.pod_build.specs.declared.error.BuildError.TheVariants as build
use Rattle.pod_build.specs.Causes.{IsMadeByPlan, IsStretchWithin, IsBuildRefused}
use Rattle.folder_building.specs.Sources.{in_images}
use Rattle.folder_building.specs.Stored.{HadContents, LacksAt}
use Rattle.pod_build.specs.Origins.{IsOriginDamaged}
use Rattle.pod_build.specs.Refusals.{gate_refusal, plan_refusal, IsMakeRefusal}
use Rattle.pod_plan.specs.declared.choice.Choice.{Choice}
use Rattle.pod_plan.specs.declared.choice_error.ChoiceError.{ChoiceError}
use Rattle.pod_plan.specs.declared.choice_error.ChoiceError.TheVariants as choice
use Rattle.pod_plan.specs.Choices as chosen
use Rattle.pod_plan.specs.Choices.{AreTrees}
use Rattle.pod_build.specs.declared.make_error.MakeError.{MakeError}
use Rattle.pod_build.specs.declared.make_error.MakeError.TheVariants as make
use Rattle.pod_build.specs.MakingCauses.{HasMadeFolder, MakeCause}
use Rattle.pod_manifest.specs.Wishes.{Wishes}
use Rattle.pod_plan.specs.declared.plan_error.PlanError.{PlanError}
use Rattle.pod_plan.specs.declared.plan_error.PlanError.TheVariants as plan
use Rattle.pod_plan.specs.FaithfulPods.{PlansFaithfully}
use Rattle.pod_plan.specs.NoPlans as none
use Rattle.pod_plan.specs.NoPlans.{IsNoPlan}
use Rattle.pod_plan.specs.Plans.{apps_of}
use Rattle.pod_plan.proofs.Ready.{is_ready, picks_within}
use Rattle.pod_plan.specs.PlanRefusals.{IsNoChoice, LacksAmong, ReadsLackingPart, choice_refusal}
use Rattle.pod_plan.specs.RootRefusals.{IsFirstRootFault}
use Rattle.standing_images.specs.Damage.{IsFirstDamage}
use Rattle.standing_images.specs.Images.{AreStore, ImagesStay, StandsWithItsFiles}
use Rattle.standing_images.proofs.Before.{store_before}
use Rattle.standing_images.proofs.Damages.{damage_before, lacks_manifest}
use Rattle.standing_images.proofs.OneDamage.{stands_whole}
use Rattle.command_outcomes.specs.declared.refusal.Refusal.{Refusal}
use Rattle.commands.specs.Prepare.{RefusesPod}
use Rattle.commands.specs.References.{AreReferences, OfReferences}
use Rattle.commands.specs.PrepareTable.{FailsRoot, RootListingIsLarge, IsPodWithRoots, LacksCopied, TreeLacksListing, MakesNoRoot, StoreMakesNoPod, StoreMakesPod, MakesRoots, NothingRefuses, PassesLimit, StoreRefuses, LocksRefuse, RefusesReferences, RefusesByState}
use Rattle.commands.specs.Wants.{Wants}
use Rattle.commands.proofs.Words.{one_references}
use Rattle.commands.proofs.OneReason.{no_reason, one_reason}
use Rattle.commands.proofs.FilesBefore.{First, apps_copied, apps_first, copy_first, plan_copied, plan_first}
use Rattle.commands.proofs.Parts.{Part, lack_wider, lacks_wider, store_wider}
use Rattle.commands.proofs.NodesStand.{tree_among}
use Rattle.commands.proofs.TakenBefore.{EmbryoBefore}
use Rattle.commands.proofs.RootsBefore.{lacks_before, many_before, large_before, roots_before}
use Rattle.dir_model.specs.declared.area.Area.{Area}
use Rattle.dir_model.specs.declared.area.Area.TheVariants.{Embryo, Images}
use Rattle.dir_model.specs.declared.pod.PodId.{PodId}
use Rattle.dir_model.specs.declared.spot.Mode.TheVariants.{Shared}
use Rattle.dir_files.specs.AreaLocks.{IsBusyElsewhere, IsFreeElsewhere}
use Rattle.command_outcomes.specs.declared.refusal.Refusal.TheVariants.{Busy}
use Rattle.commands.specs.PrepareRefusals.{refusal_of_build}
use Rattle.commands.proofs.OneRefusal.{CanMake, none_refuses, one_refusal}
use Rattle.manifests.specs.ManifestSize.{most_of_manifest}

part_of : {start end old new : DirAt} → IsStretchWithin start end old new → Part old start end new
part_of p = record { earlier = p.before; later = p.after; same = p.same; begins = p.begins; ends = p.ends }

module _ (refs : List ImageRef) (wishes : Wishes) (draw : Draw) (old new : DirAt) (stay : ImagesStay old.trace new.trace) where
  abbrev s : DirState
  s = state_after old.trace

  abbrev ByStore : BuildError → Type 0
  ByStore error = StoreRefuses old.process draw.uuid refs wishes s error

  -- what was read in a part of the time
  store_in : {start end : DirAt} → IsStretchWithin start end old new → (images : List Stored) → ReadsStore images start end → AreStore images s
  store_in p images r = store_before old new stay images (store_wider (part_of p) images r)

  damage_in : {start end : DirAt} → IsStretchWithin start end old new → (path : List ℕ) → LacksListed (store.Damaged path) start end → IsFirstDamage path s
  damage_in p path l = damage_before old new stay path (lacks_wider (part_of p) path l)

  -- each manifest that was read once can be read once more
  none_among : {start end : DirAt} → IsStretchWithin start end old new → (images : List Stored) (path : List ℕ) → AreStore images s → LacksAmong images path start end → ⊥
  none_among p images path are x =
      let all = subst (λ (l : List Stored). AllByRecursion (λ image. StandsWithItsFiles image s) l) x.is are.together in
      let one = all_right (λ image. StandsWithItsFiles image s) x.before (x.image ∷ x.after) all in
      let whole = stands_whole s x.image one.0 in
      lacks_manifest old new stay x.image.key (lack_wider (part_of p) (image_inner x.image.key manifest_name) most_of_manifest IsNoImageManifest x.lacks.1) whole.manifest

  module _ (observed : Bool) (t : observed ≡ true) where
    -- the references make none of the images that were read
    none_of : {start end : DirAt} → IsStretchWithin start end old new → (reason : ChoiceError) (error : PlanError) → (reason ≡ choice.NoMemory → ⊥) → ((other : ChoiceError) → error ≡ choice_refusal other → other ≡ reason) →
        (images : List Stored) → ReadsStore images start end → IsNoChoice images refs wishes error → StoreMakesNoPod refs wishes s reason
    none_of p reason error alive one images read x =
        let refused = subst (λ (r : ChoiceError). chosen.IsChoiceRefused images refs wishes r) (one x.reason x.is) x.refused in
        (images, store_in p images read, record { refused = refused; only = λ other is kept. one_reason images refs wishes other reason is refused kept alive })

    pod_of : {start end : DirAt} → IsStretchWithin start end old new → (images : List Stored) → ReadsStore images start end → (pod : Choice) → chosen.IsChoice images refs wishes pod → StoreMakesPod refs wishes s
    pod_of p images read pod is = (images, store_in p images read, record { pod = pod; chosen = is; unrefused = no_reason images refs wishes pod is })

    -- a tree of the pod fails, and those before it have their roots
    root_of : {start end : DirAt} → IsStretchWithin start end old new → {error : PlanError} (Fails : DepTree → Type 0) (images : List Stored) → ReadsStore images start end → (pod : Choice) → chosen.IsChoice images refs wishes pod →
        (x : IsFirstRootFault observed images pod.trees error start end) → Fails x.tree → FailsRoot images refs wishes Fails s
    root_of p Fails images read pod is x fails = record {
      made = record { pod = pod; chosen = is; unrefused = no_reason images refs wishes pod is };
      before = x.before;
      tree = x.tree;
      after = x.after;
      is = x.is;
      earlier = roots_before old new stay (part_of p) observed t images x.before x.roots x.earlier;
      fails = fails;
    }

    one_place : (place : ℕ) (other : ChoiceError) → plan.NoMatch place ≡ choice_refusal other → other ≡ choice.NoMatch place
    one_place place (choice.NoMatch here) is = let same : here ≡ place = cc in ap choice.NoMatch same
    one_place place (choice.DepError fault) is = cc
    one_place place (choice.GenError refusal) is = cc
    one_place place choice.NoMemory is = cc

    no_plan : {start end : DirAt} → IsStretchWithin start end old new → (reason : PlanError) → IsNoPlan observed refs wishes start end reason → ByStore (plan_refusal reason)
    no_plan {start} {end} p (plan.Damaged path) x = by (x t)
      where
        by : ReadsLackingPart path start end ⊎ none.HasNoPlan observed refs wishes (plan.Damaged path) start end → IsFirstDamage path s ⊎ (MakesNoRoot refs wishes s (λ images. TreeLacksListing images path) ⊎ LacksCopied old.process draw.uuid refs wishes path s)
        by (inl (inl listed)) = inl (damage_in p path listed)
        by (inl (inr (images, read, among))) = absurd (none_among p images path (store_in p images read) among)
        by (inr m) =
            let x = m.none.lacks in
            let read = m.listed t in
            inr (inl (
              m.images,
              store_in p m.images read,
              root_of p (TreeLacksListing m.images path s) m.images read m.none.choice m.none.chosen x
                  (lacks_before old new stay (part_of p) observed t m.images x.tree path
                  (tree_among m.images m.none.choice.picks x.before x.tree x.after (picks_within m.images refs m.none.choice.picks m.none.chosen.0) (subst (λ (ts : List DepTree). AreTrees m.images m.none.choice.picks ts) x.is m.none.chosen.1.dependencies))
                  (store_in p m.images read) (x.faulty t)),
            ))
    no_plan p (plan.NoMatch place) m = none_of p (choice.NoMatch place) (plan.NoMatch place) (λ e. cc) (one_place place) m.images (m.listed t) m.none
    no_plan p (plan.DepError fault) m = none_of p (choice.DepError fault) (plan.DepError fault) (λ e. cc) one m.images (m.listed t) m.none
      where
        one : (other : ChoiceError) → plan.DepError fault ≡ choice_refusal other → other ≡ choice.DepError fault
        one (choice.NoMatch here) is = cc
        one (choice.DepError here) is = let same : here ≡ fault = cc in ap choice.DepError same
        one (choice.GenError refusal) is = cc
        one choice.NoMemory is = cc
    no_plan p (plan.GenError refusal) m = none_of p (choice.GenError refusal) (plan.GenError refusal) (λ e. cc) one m.images (m.listed t) m.none
      where
        one : (other : ChoiceError) → plan.GenError refusal ≡ choice_refusal other → other ≡ choice.GenError refusal
        one (choice.NoMatch here) is = cc
        one (choice.DepError fault) is = cc
        one (choice.GenError here) is = let same : here ≡ refusal = cc in ap choice.GenError same
        one choice.NoMemory is = cc
    no_plan p (plan.RenderError render.TooManyEntries) m =
        let x = m.none.lacks in
        let read = m.listed t in
        (m.images, store_in p m.images read, root_of p (PassesLimit m.images render.TooManyEntries s) m.images read m.none.choice m.none.chosen x (many_before old new stay (part_of p) observed t m.images x.tree x.faulty))
    no_plan p (plan.RenderError render.NoMemory) m = absurd m.none.lacks.faulty
    no_plan p (plan.ListingError error) m =
        let x = m.none.lacks in
        let read = m.listed t in
        (m.images, store_in p m.images read, root_of p (RootListingIsLarge m.images error s) m.images read m.none.choice m.none.chosen x (large_before old new stay (part_of p) observed t m.images x.tree error x.faulty))
    no_plan p plan.DirFault m = tt
    no_plan p plan.NoMemory m = tt

    no_gate : (reason : LockError) → ByStore (gate_refusal reason)
    no_gate lock.Busy = tt
    no_gate lock.DirFault = tt
    no_gate lock.NoMemory = tt

    -- a plan is of a pod that the store makes
    abbrev with_roots : {start end : DirAt} {now : ℕ} {token : List ℕ} {entries : List PlanEntry} → IsStretchWithin start end old new → (x : PlansFaithfully refs wishes now token entries start end) → IsPodWithRoots x.images refs wishes s
    with_roots p x = record {
      made = record { pod = x.choice; chosen = x.chosen; unrefused = no_reason x.images refs wishes x.choice x.chosen };
      rooted = roots_before old new stay (part_of p) true refl x.images x.choice.trees x.roots x.rooted;
    }

    planned_pod : {start end : DirAt} {now : ℕ} {token : List ℕ} {entries : List PlanEntry} → IsStretchWithin start end old new → PlansFaithfully refs wishes now token entries start end → MakesRoots refs wishes s
    planned_pod p x = (x.images, store_in p x.images x.listed, with_roots p x)

    -- a file of the plan couldn't be copied
    module _ {now : ℕ} {token : List ℕ} (entries : List PlanEntry) {start end begun ended : DirAt} (p : IsStretchWithin start end old new) (x : PlansFaithfully refs wishes now token entries start end) (q : IsStretchWithin begun ended old new) where
      damaged : (place : ℕ) (error : BuildError) → EmbryoBefore draw.uuid old new → IsOriginDamaged entries place error → HasMadeFolder draw.uuid begun ended → LacksAt in_images entries place begun ended → ByStore error
      damaged place (build.Damaged path) told is makes lacks =
          let here = store_in p x.images x.listed in
          let f = copy_first old new stay (part_of q) (part_of p) x.images here path entries place is lacks in
          let apps = plan_first old new stay (part_of q) (part_of p) x.images here path now token x.planned.text (apps_of x.manifests x.choice x.roots)
          (subst (λ (es : List PlanEntry). First old new stay (part_of q) (part_of p) x.images here path es) x.planned.entries f) in
          let l = apps_first old new stay (part_of q) (part_of p) x.images here path x.manifests x.choice.picks x.choice.manifest.apps x.roots x.choice.trees (picks_within x.images refs x.choice.picks x.chosen.0) x.chosen.1.dependencies x.rooted apps in
          inr (inr (record {
            free = told.free _ begun ended (part_of q) makes;
            untaken = told.untaken begun ended (part_of q) makes;
            fails = (x.images, here, record { is = with_roots p x; before = l.before; tree = l.tree; after = l.after; split = l.split; earlier = l.earlier; lacks = l.lacks });
          }))
      damaged place build.NoMemory told is makes lacks = tt
      damaged place error told is makes lacks = absurd is

      not_made : EmbryoBefore draw.uuid old new → (reason : MakeError) (error : BuildError) → IsMakeRefusal entries draw.uuid reason error → MakeCause observed draw.uuid entries reason begun ended → ByStore error
      not_made told make.Busy error is cause = subst (λ (e : BuildError). ByStore e) (sym is) (planned_pod p x)
      not_made told make.Taken error is cause =
          let taken = cause.taken refl t in
          subst (λ (e : BuildError). ByStore e) (sym is) (refl, record { free = told.free _ begun ended (part_of q) taken; taken = told.taken begun ended (part_of q) taken; makes = planned_pod p x })
      not_made told (make.Unlike place) error is cause = damaged place error told is (cause.made place refl t) (cause.lacks place refl t)
      not_made told make.DirFault error is cause = subst (λ (e : BuildError). ByStore e) (sym is) tt
      not_made told make.Stray error is cause = subst (λ (e : BuildError). ByStore e) (sym is) (planned_pod p x)
      not_made told make.NoMemory error is cause = subst (λ (e : BuildError). ByStore e) (sym is) tt

    pub store_refuses : (now : ℕ) (error : BuildError) → EmbryoBefore draw.uuid old new → IsBuildRefused observed refs wishes draw now error old new → ByStore error
    store_refuses now error told (inl x) = subst (λ (e : BuildError). ByStore e) (sym x.1) (no_gate x.0)
    store_refuses now error told (inr (free, inl x)) =
        let fails = x.3 in
        subst (λ (e : BuildError). ByStore e) (sym fails.1) (no_plan (x.2 t) fails.0 fails.2)
    store_refuses now error told (inr (free, inr x)) =
        let planned = x.1 in
        let making = x.2 in
        let fails = making.3 in
        not_made x.0 (planned.2 t) (planned.3 t) (making.2 t) told fails.0 error fails.1 fails.2

    -- made by a plan, it could be made, and nothing refuses it
    can_make : (now : ℕ) → EmbryoBefore draw.uuid old new → IsFreeElsewhere old.process Images Shared s → IsMadeByPlan observed refs wishes draw now old new → CanMake refs wishes draw.uuid s old.process
    can_make now told gate (entries, planned, making) =
        let p = planned.2 t in
        let x = planned.3 t in
        let q = making.2 t in
        let followed = making.3 t in
        let here = store_in p x.images x.listed in
        let had = plan_copied old new stay (part_of q) (part_of p) x.images here [] now draw.token x.planned.text (apps_of x.manifests x.choice x.roots)
        (subst (λ (es : List PlanEntry). HadContents in_images es making.0 making.1) x.planned.entries followed.1) in
        let ready = is_ready refs wishes x.choice x.chosen (length x.images) refl true planned.0 planned.1 x.roots x.rooted in
        record {
          gate = gate;
          free = told.free _ making.0 making.1 (part_of q) followed.0;
          untaken = told.untaken making.0 making.1 (part_of q) followed.0;
          images = x.images;
          are = here;
          is = with_roots p x;
          copied = apps_copied old new stay (part_of q) (part_of p) x.images here [] x.manifests x.choice.picks x.choice.manifest.apps x.roots x.choice.trees ready.named ready.within x.chosen.1.dependencies x.rooted had;
        }

    pub made_unrefused : (now : ℕ) → EmbryoBefore draw.uuid old new → IsFreeElsewhere old.process Images Shared s → IsMadeByPlan observed refs wishes draw now old new → NothingRefuses old.process draw.uuid refs wishes s
    made_unrefused now told gate made = none_refuses refs wishes draw.uuid s old.process (can_make now told gate made)

    -- and the locks, by who held them before
    abbrev Unheld : Type 0
    Unheld = IsFreeElsewhere old.process Images Shared s

    gate_says : (reason : LockError) → ((area : Area) → gate_refusal reason ≡ build.Busy area → IsBusyElsewhere old.process area Shared s) → LocksRefuse old.process s (gate_refusal reason)
    gate_says lock.Busy held = held Images refl
    gate_says lock.DirFault held = tt
    gate_says lock.NoMemory held = tt

    plan_says : (reason : PlanError) → Unheld → LocksRefuse old.process s (plan_refusal reason)
    plan_says (plan.Damaged path) free = free
    plan_says (plan.NoMatch place) free = free
    plan_says (plan.DepError fault) free = free
    plan_says (plan.GenError refusal) free = free
    plan_says (plan.RenderError error) free = free
    plan_says (plan.ListingError error) free = free
    plan_says plan.DirFault free = tt
    plan_says plan.NoMemory free = tt

    copy_says : (entries : List PlanEntry) (place : ℕ) (error : BuildError) → IsOriginDamaged entries place error → Unheld → LocksRefuse old.process s error
    copy_says entries place (build.Damaged path) is free = free
    copy_says entries place build.NoMemory is free = tt
    copy_says entries place error is free = absurd is

    make_says : (entries : List PlanEntry) (pod : PodId) (reason : MakeError) (error : BuildError) → IsMakeRefusal entries pod reason error → Unheld → ((area : Area) → error ≡ build.Busy area → IsBusyElsewhere old.process area Shared s) →
        LocksRefuse old.process s error
    make_says entries pod make.Busy error is free held = subst (λ (e : BuildError). LocksRefuse old.process s e) (sym is) (free, held Embryo is)
    make_says entries pod make.Taken error is free held = subst (λ (e : BuildError). LocksRefuse old.process s e) (sym is) free
    make_says entries pod (make.Unlike place) error is free held = copy_says entries place error is free
    make_says entries pod make.DirFault error is free held = subst (λ (e : BuildError). LocksRefuse old.process s e) (sym is) tt
    make_says entries pod make.Stray error is free held = subst (λ (e : BuildError). LocksRefuse old.process s e) (sym is) free
    make_says entries pod make.NoMemory error is free held = subst (λ (e : BuildError). LocksRefuse old.process s e) (sym is) tt

    pub locks_refuse : (now : ℕ) (error : BuildError) → (HeldBetween old new (IsFreeElsewhere old.process Images Shared) → Unheld) → ((area : Area) → error ≡ build.Busy area → IsBusyElsewhere old.process area Shared s) →
        IsBuildRefused observed refs wishes draw now error old new → LocksRefuse old.process s error
    locks_refuse now error free held (inl x) = subst (λ (e : BuildError). LocksRefuse old.process s e) (sym x.1) (gate_says x.0 (λ area is. held area (x.1 ∙ is)))
    locks_refuse now error free held (inr (found, inl x)) = subst (λ (e : BuildError). LocksRefuse old.process s e) (sym x.3.1) (plan_says x.3.0 (free (found t)))
    locks_refuse now error free held (inr (found, inr x)) = make_says x.0 draw.uuid x.2.3.0 error x.2.3.1 (free (found t)) held

-- what is said of the words, where the making of the folder tells of embryo before, and locks that were had or refused were free or held before
pub refuses_by_state : {observed : Bool} (wants : Wants) (now : ℕ) (draw : Draw) (old new : DirAt) (refusal : Refusal) → observed ≡ true → ImagesStay old.trace new.trace →
    EmbryoBefore draw.uuid old new →
    (HeldBetween old new (IsFreeElsewhere old.process Images Shared) → IsFreeElsewhere old.process Images Shared (state_after old.trace)) →
    ((area : Area) → refusal ≡ Busy area → IsBusyElsewhere old.process area Shared (state_after old.trace)) →
    RefusesPod observed wants now draw old new refusal → RefusesByState wants draw.uuid refusal old.process (state_after old.trace)
refuses_by_state {observed} wants now draw old new refusal t stay told free held x = record {
  error = x.error;
  is = x.is;
  refs = x.cause.0;
  are = x.cause.1;
  refuses = refuses;
  only = one_refusal x.cause.0 wants.wishes draw.uuid (state_after old.trace) old.process x.error refuses;
}
  where
    refuses : RefusesReferences old.process draw.uuid x.cause.0 wants.wishes (state_after old.trace) x.error
    refuses = (
      locks_refuse x.cause.0 wants.wishes draw old new stay observed t now x.error free (λ area is. held area (x.is ∙ ap (λ (e : BuildError). refusal_of_build wants.images e) is)) x.cause.2,
      store_refuses x.cause.0 wants.wishes draw old new stay observed t now x.error told x.cause.2,
    )

-- and that nothing refuses them, where a pod of theirs was made by a plan
pub words_unrefused : (wants : Wants) (now : ℕ) (draw : Draw) (old new : DirAt) (observed : Bool) → observed ≡ true → ImagesStay old.trace new.trace → EmbryoBefore draw.uuid old new → IsFreeElsewhere old.process Images Shared (state_after old.trace) →
    OfReferences wants.images (λ refs. IsMadeByPlan observed refs wants.wishes draw now old new) → (refs : List ImageRef) → AreReferences wants.images refs → NothingRefuses old.process draw.uuid refs wants.wishes (state_after old.trace)
words_unrefused wants now draw old new observed t stay told gate made refs are =
    subst (λ (rs : List ImageRef). NothingRefuses old.process draw.uuid rs wants.wishes (state_after old.trace)) (one_references wants.images made.0 refs made.1 are)
    (made_unrefused made.0 wants.wishes draw old new stay observed t now told gate made.2)
