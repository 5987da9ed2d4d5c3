-- The pods in run, one after the other.
use Rattle.std.proofs.Common.{◌≡◌, inl, ◌<◌, ◌+◌, ℕ, Bool, true, false, Option, Some, None, List, [], ◌∷◌, ◌++◌, length, take, get_or, refl, sym, ap, subst, ◌∙◌}
use Rattle.std.proofs.lemmas.List.{take_more}
use Rattle.dir_model.specs.declared.area.Area.TheVariants as area
use Rattle.dir_model.specs.declared.pod.PodId.{PodId}
use Rattle.dir_model.specs.Listings.{has_name}
use Rattle.dir_model.specs.Pods.{pod_text, pod_of_text}
use Rattle.dir_model.proofs.Lists.{all_push}
use Rattle.dir_trait.specs.DirCalls.{DirAt}
use Rattle.dir_files.specs.Listed.{ShowsAreaBetween}
use Rattle.pod_lookup.proofs.InOrder.{named_holds}
use Rattle.pod_report.specs.Requests.{OnlyAsksFor}
use Rattle.metadata_reply.specs.Views.{ViewData}
use Rattle.metadata.specs.Looks.{looks_in_run}
use Rattle.metadata.specs.PodViews.{IsPodUuid, IsViewOf, HasNoView, TellsPod, TellsNamed, FindsDigits}
use Rattle.metadata.specs.Finding.{NoneOf, TellsAll}
use Rattle.metadata.proofs.Shown.{hidden_pod}
use Rattle.metadata.proofs.Wider.{wider_after, wider_before, view_wider, no_view_wider, stopped_wider, none_wider, named_wider}

-- the pod of a name
pub named_told : (name digits : List ℕ) (pod : PodId) (found : Option ViewData) (old new : DirAt) → pod_of_text name ≡ Some pod → TellsPod pod digits found old new → TellsNamed name digits found old new
named_told name digits pod None old new here tells = λ other is. subst (λ (p : PodId). HasNoView p digits old new) (some_one (sym here ∙ is)) tells
  where
    some_one : {a b : PodId} → Some a ≡ Some b → a ≡ b
    some_one e = cc
named_told name digits pod (Some v) old new here tells = (pod, tells)

-- a name that is none
pub no_pod_told : (name digits : List ℕ) (old new : DirAt) → pod_of_text name ≡ None → TellsNamed name digits None old new
no_pod_told name digits old new none pod is = let e : None ≡ Some pod = sym none ∙ is in cc

module _ {observed : Bool} (t : observed ≡ true) (digits : List ℕ) (a b c : DirAt) (ab : OnlyAsksFor observed looks_in_run a b) (bc : OnlyAsksFor observed looks_in_run b c) where
  -- one name more
  pub none_next : (names : List (List ℕ)) (i : ℕ) (name : List ℕ) → i < length names → name ≡ get_or names i name → NoneOf (take i names) digits a b → TellsNamed name digits None b c → NoneOf (take (i + 1) names) digits a c
  none_next names i name h is none one =
      subst (λ (l : List (List ℕ)). NoneOf l digits a c) (sym (take_more names i name h ∙ ap (λ (n : List ℕ). take i names ++ n ∷ []) (sym is)))
      (all_push (λ (n : List ℕ). TellsNamed n digits None a c) (take i names) name (none_wider (wider_before a b c (bc.extends t)) (take i names) digits none) (named_wider (wider_after a b c ab.same (ab.extends t)) name digits one))

  -- or it was found
  pub found_at : (v : ViewData) → (pod : PodId) × IsViewOf pod digits v b c → (pod : PodId) × IsViewOf pod digits v a c
  found_at v (pod, is) = (pod, view_wider (wider_after a b c ab.same (ab.extends t)) pod digits v is)

  none_found : (names : List (List ℕ)) → ShowsAreaBetween a b area.Run names → NoneOf names digits b c → (pod : PodId) → IsPodUuid pod → HasNoView pod digits a c
  none_found names shows none pod is = by (has_name names (pod_text pod.bytes)) refl
    where
      by : (h : Bool) → has_name names (pod_text pod.bytes) ≡ h → HasNoView pod digits a c
      by false off = inl (stopped_wider (wider_before a b c (bc.extends t)) pod (hidden_pod a b names pod shows off))
      by true on = no_view_wider (wider_after a b c ab.same (ab.extends t)) pod digits (named_holds (λ (n : List ℕ). TellsNamed n digits None b c) (pod_text pod.bytes) names none on pod is)

  -- by the names that a listing showed
  pub finds : (names : List (List ℕ)) (found : Option ViewData) → ShowsAreaBetween a b area.Run names → TellsAll names digits found b c → FindsDigits digits found a c
  finds names (Some v) shows told = (told.0, view_wider (wider_after a b c ab.same (ab.extends t)) told.0 digits v told.1)
  finds names None shows none = none_found names shows none
