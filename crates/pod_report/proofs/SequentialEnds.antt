-- The ends that the status files of one state tell are one list.
use Rattle.std.proofs.Common.{◌≡◌, ℕ, Bool, true, ◌&&◌, cond, bytes_eq, option_map, is_some, Option, Some, None, List, [], ◌∷◌, filter, refl, sym, ap, subst, ◌∙◌}
use Rattle.std.specs.List.{AllByRecursion, cons_option, filter_map, list_any}
use Rattle.std.specs.Ordering.{nat_cmp}
use Rattle.std.specs.Cmp.Lexicographic.{slice_cmp}
use Rattle.std.proofs.lemmas.List.Kept.{IsStrictlySortedBy-filter}
use Rattle.dir_model.specs.declared.area.Area.{Area}
use Rattle.dir_model.specs.declared.item.Item.{Item}
use Rattle.dir_model.specs.declared.pod.PodId.{PodId}
use Rattle.dir_model.specs.Listings.{has_name, item_names, is_named}
use Rattle.dir_model.specs.Paths.{is_file_name}
use Rattle.dir_model.specs.State.{DirState, folder_at}
use Rattle.dir_model.specs.Trees.{items_in}
use Rattle.dir_model.proofs.Lists.{any_of_map}
use Rattle.dir_rules.specs.Marks.{status_directory}
use Rattle.dir_files.specs.Reads.{inner_at, file_at}
use Rattle.dir_model.specs.Spots.{pod_spot}
use Rattle.pod_lookup.specs.Pods.{in_order}
use Rattle.pod_lookup.proofs.InOrder.{Rising, one_order, order_has, order_rises}
use Rattle.pod_lookup.proofs.Names.{has_filter}
use Rattle.pod_report.specs.declared.ends.AppEndText.{AppEndText}
use Rattle.pod_report.specs.Ends.{status_path, status_file, HasEndedIn, ended_apps}
use Rattle.pod_report.specs.Sequential.{items_of, items_at, status_of_text, status_in_file, end_with, end_in}
use Rattle.pod_report.proofs.StatusFiles.{file_shown, listed_name}
use Rattle.pod_report.proofs.StatusMeeting.{file_in}
use Rattle.pod_report.proofs.StatusTexts.{text_status, text_told}

-- ends by what is told of each name
module _ (tells : List ℕ → Option AppEndText) (own : (name : List ℕ) (e : AppEndText) → tells name ≡ Some e → e.app ≡ name) where
  abbrev told : List ℕ → Bool
  told name = is_some (tells name)

  abbrev IsTold : AppEndText → Type 0
  IsTold e = tells e.app ≡ Some e

  told_apps : (names : List (List ℕ)) → ended_apps (filter_map tells names) ≡ filter told names
  told_apps [] = refl
  told_apps (x ∷ xs) = by (tells x) refl (told_apps xs)
    where
      by : (o : Option AppEndText) → tells x ≡ o → ended_apps (filter_map tells xs) ≡ filter told xs → ended_apps (cons_option o (filter_map tells xs)) ≡ cond (is_some o) (x ∷ filter told xs) (filter told xs)
      by (Some e) is go = ap (λ (n : List ℕ). n ∷ ended_apps (filter_map tells xs)) (own x e is) ∙ ap (λ (ns : List (List ℕ)). x ∷ ns) go
      by None is go = go

  all_told : (names : List (List ℕ)) → AllByRecursion IsTold (filter_map tells names)
  all_told [] = tt
  all_told (x ∷ xs) = by (tells x) refl (all_told xs)
    where
      by : (o : Option AppEndText) → tells x ≡ o → AllByRecursion IsTold (filter_map tells xs) → AllByRecursion IsTold (cons_option o (filter_map tells xs))
      by (Some e) is go = (ap tells (own x e is) ∙ is, go)
      by None is go = go

  same_told : (xs ys : List AppEndText) → ended_apps xs ≡ ended_apps ys → AllByRecursion IsTold xs → AllByRecursion IsTold ys → xs ≡ ys
  same_told [] [] is a b = refl
  same_told [] (y ∷ ys) is a b = cc
  same_told (x ∷ xs) [] is a b = cc
  same_told (x ∷ xs) (y ∷ ys) is a b =
      let app : x.app ≡ y.app = cc in
      let rest : ended_apps xs ≡ ended_apps ys = cc in
      let some : Some x ≡ Some y = sym a.0 ∙ (ap tells app ∙ b.0) in
      let same : x ≡ y = cc in
      ap (λ (e : AppEndText). e ∷ xs) same ∙ ap (λ (es : List AppEndText). y ∷ es) (same_told xs ys rest a.1 b.1)

  pub ends_are : (ends : List AppEndText) (names : List (List ℕ)) → Rising (ended_apps ends) → AllByRecursion IsTold ends → ((name : List ℕ) → has_name (ended_apps ends) name ≡ (has_name names name && told name)) → ends ≡ filter_map tells (in_order names)
  ends_are ends names rise all has =
      let sorted = in_order names in
      same_told ends (filter_map tells sorted)
      (one_order (ended_apps ends) (ended_apps (filter_map tells sorted)) rise
      (subst Rising (sym (told_apps sorted)) (IsStrictlySortedBy-filter (slice_cmp nat_cmp) told sorted (order_rises names)))
      (λ name. has name ∙ sym (ap (λ (l : List (List ℕ)). has_name l name) (told_apps sorted) ∙ (has_filter told sorted name ∙ ap (λ b. b && told name) (order_has names name)))))
      all (all_told sorted)

module _ (s : DirState) (pod : PodId) (area : Area) where
  -- what an app's status file tells
  pub end_is : (app : List ℕ) (n : ℕ) → HasEndedIn pod area app n s → end_in s pod area app ≡ Some (end_with app n)
  end_is app n has = ap (λ (o : Option ℕ). option_map (end_with app) o) (ap status_in_file has.file ∙ text_status n has.bytes has.is)

  pub record EndTold (app : List ℕ) (e : AppEndText) : Type 0 where
    pub same : e.app ≡ app
    pub ended : HasEndedIn pod area app e.status s

  pub end_told : (app : List ℕ) (e : AppEndText) → end_in s pod area app ≡ Some e → EndTold app e
  end_told app e is = by (file_at s (status_file pod area app)) refl is
    where
      on : (bytes : List ℕ) → file_at s (status_file pod area app) ≡ Some bytes → (o : Option ℕ) → status_of_text bytes ≡ o → option_map (end_with app) o ≡ Some e → EndTold app e
      on bytes file None text is = cc
      on bytes file (Some n) text is = let same : end_with app n ≡ e = cc in subst (λ (x : AppEndText). EndTold app x) same (record { same = refl; ended = record { bytes = bytes; file = file; is = text_told n bytes text } })

      by : (o : Option (List ℕ)) → file_at s (status_file pod area app) ≡ o → option_map (end_with app) (status_in_file o) ≡ Some e → EndTold app e
      by None file is = cc
      by (Some bytes) file is = on bytes file (status_of_text bytes) refl is

  -- the names in the directory of statuses
  abbrev pub names : List (List ℕ)
  names = item_names (items_at s (inner_at (pod_spot pod area) status_directory))

  module _ (k : ℕ) (at : folder_at s.namespace (pod_spot pod area) ≡ Some k) where
    names_has : (name : List ℕ) → has_name names name ≡ list_any (is_named name) (items_in k status_directory s.entries)
    names_has name =
        ap (λ (o : Option ℕ). has_name (item_names (items_of s.entries status_directory o)) name) at
        ∙ any_of_map (λ (x : Item). x.name) (λ (m : List ℕ). bytes_eq m name) (items_in k status_directory s.entries)

    pub name_shown : (app : List ℕ) (n : ℕ) → is_file_name app ≡ true → HasEndedIn pod area app n s → has_name names app ≡ true
    name_shown app n name has = names_has app ∙ file_shown k app s.entries name (file_in s k (pod_spot pod area) (status_path app) has.bytes at has.file)

    pub name_plain : (name : List ℕ) → has_name names name ≡ true → is_file_name name ≡ true
    name_plain name h = listed_name k status_directory s.entries name (sym (names_has name) ∙ h)
