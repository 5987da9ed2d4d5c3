-- The starts of the apps, found one after the other.
use Rattle.std.proofs.Common.{◌≡◌, ◌<◌, ◌+◌, inl, inr, ℕ, List, [], ◌∷◌, ◌++◌, length, take, drop, get_or, sym, ap, subst, ◌∙◌}
use Rattle.std.proofs.lemmas.List.{take_more, drop_more, take-append-drop}
use Rattle.manifests.specs.declared.runtime_app.RuntimeApp.{RuntimeApp}
use Rattle.std.specs.List.{AllByRecursion}
use Rattle.plain_laws.proofs.Lists.{next_item}
use Rattle.ac_types.specs.Names.{IsAcName}
use Rattle.dir_model.specs.declared.pod.PodId.{PodId}
use Rattle.stage1.specs.declared.root.Root.{Root}
use Rattle.stage1.specs.declared.start.AppStart.{AppStart}
use Rattle.stage1.specs.AppPlaces.{app_root_of}
use Rattle.stage1.specs.Starts.{IsAppStart, IsPlacedIn, AddsStart, AreStarts}
use Rattle.stage1.specs.declared.load_error.LoadError.{LoadError}
use Rattle.stage1.specs.declared.load_error.LoadError.TheVariants.{NoProgram, NoMemory}
use Rattle.stage1.specs.LoadRefusals.{AreMissing, FirstLacks, IsMissingAmong}

pub push_start : (pod : PodId) (address token : List ℕ) (apps : List RuntimeApp) (roots : List Root) (starts : List AppStart) (app : RuntimeApp) (root : Root) (start : AppStart) → AreStarts pod address token apps roots starts → IsAppStart pod address token app root start
    → AreStarts pod address token (apps ++ app ∷ []) (roots ++ root ∷ []) (starts ++ start ∷ [])
push_start pod address token [] [] [] app root start are is = (is, tt)
push_start pod address token (a ∷ apps) (r ∷ roots) (s ∷ starts) app root start are is = (are.0, push_start pod address token apps roots starts app root start are.1 is)
push_start pod address token _ _ _ app root start are is = absurd are

-- the app that lacks a program stands behind others
pub lacks_behind : (apps : List RuntimeApp) (roots : List Root) (starts : List AppStart) (pod : PodId) (address token : List ℕ) (later : List RuntimeApp) (others : List Root) (name word : List ℕ) → AreStarts pod address token apps roots starts → FirstLacks later others name word → FirstLacks (apps ++ later) (roots ++ others) name word
lacks_behind [] [] [] pod address token later others name word are lacks = lacks
lacks_behind (a ∷ apps) (r ∷ roots) (s ∷ starts) pod address token later others name word are lacks = inr (are.0.startable, lacks_behind apps roots starts pod address token later others name word are.1 lacks)
lacks_behind _ _ _ pod address token later others name word are lacks = absurd are

-- the next element of a list of which some are left
next_taken : {A : Type 0} (xs : List A) (i : ℕ) (x : A) (left : List A) → i < length xs → drop i xs ≡ x ∷ left → take (i + 1) xs ≡ take i xs ++ x ∷ []
next_taken xs i x left h is =
    let at = drop_more xs i x h in
    let same : get_or xs i x ≡ x = cc in
    take_more xs i x h ∙ ap (λ y. take i xs ++ y ∷ []) same

pub next_left : {A : Type 0} (xs : List A) (i : ℕ) (x : A) (left : List A) → i < length xs → drop i xs ≡ x ∷ left → left ≡ drop (i + 1) xs
next_left xs i x left h is =
    let at = drop_more xs i x h in
    cc

module _ (pod : PodId) (address token : List ℕ) (apps : List RuntimeApp) (roots : List Root) (i : ℕ) (app : RuntimeApp) (root : Root) (left : List Root) (h : i < length apps) (h' : i < length roots) (is : app ≡ get_or apps i app) (rest : drop i roots ≡ root ∷ left) (starts : List AppStart) (are : AreStarts pod address token (take i apps) (take i roots) starts) where
  pub start_next : (after : List AppStart) → AddsStart pod address token app root starts after → AreStarts pod address token (take (i + 1) apps) (take (i + 1) roots) after
  start_next after adds =
      subst (λ (l : List RuntimeApp). AreStarts pod address token l (take (i + 1) roots) after) (sym (next_taken apps i app (drop (i + 1) apps) h (next_item apps i app h is)))
      (subst (λ (l : List Root). AreStarts pod address token (take i apps ++ app ∷ []) l after) (sym (next_taken roots i root left h' rest))
      (subst (λ (l : List AppStart). AreStarts pod address token (take i apps ++ app ∷ []) (take i roots ++ root ∷ []) l) (sym adds.added) (push_start pod address token (take i apps) (take i roots) starts app root adds.start are adds.is)))

  -- the first that lacks a program
  pub missing_next : (e : LoadError) → AreMissing app root e → IsMissingAmong apps roots e
  missing_next (NoProgram name word) lacks =
      let behind : FirstLacks (take i apps ++ drop i apps) (take i roots ++ drop i roots) name word = lacks_behind (take i apps) (take i roots) starts pod address token (drop i apps) (drop i roots) name word are
      (subst (λ (l : List RuntimeApp). FirstLacks l (drop i roots) name word) (sym (next_item apps i app h is))
      (subst (λ (l : List Root). FirstLacks (app ∷ drop (i + 1) apps) l name word) (sym rest) (inl lacks))) in
      subst (λ (l : List RuntimeApp). FirstLacks l roots name word) (take-append-drop i apps) (subst (λ (l : List Root). FirstLacks (take i apps ++ drop i apps) l name word) (take-append-drop i roots) behind)
  missing_next NoMemory lacks = tt
  missing_next e lacks = absurd lacks

pub starts_none : (pod : PodId) (address token : List ℕ) (starts : List AppStart) → starts ≡ [] → AreStarts pod address token [] [] starts
starts_none pod address token starts none = rw none tt

-- each start is placed by its name
pub all_placed : (pod : PodId) (address token : List ℕ) (apps : List RuntimeApp) (roots : List Root) (starts : List AppStart) → AreStarts pod address token apps roots starts → AllByRecursion (IsPlacedIn pod) starts
all_placed pod address token [] [] [] are = tt
all_placed pod address token (app ∷ apps) (root ∷ roots) (start ∷ starts) are =
    (record { place = are.0.place ∙ ap (λ (n : List ℕ). app_root_of pod n) (sym are.0.name); named = subst IsAcName (sym are.0.name) are.0.named }, all_placed pod address token apps roots starts are.1)
all_placed pod address token _ _ _ are = absurd are
