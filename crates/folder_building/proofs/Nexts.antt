-- The plan of a listing's tree, line by line.
use Rattle.std.proofs.Common.{◌≡◌, ◌<◌, ◌+◌, ℕ, Option, Some, None, List, [], ◌∷◌, ◌++◌, length, take, get_or, refl, sym, ap, ◌∙◌, append_assoc, option_to_list}
use Rattle.std.specs.List.{cons_option}
use Rattle.std.proofs.lemmas.List.Elements.{filter_map-append}
use Rattle.std.proofs.lemmas.List.{take_more}
use Rattle.tree_digest.specs.declared.line.ListingLine.{ListingLine}
use Rattle.folder_building.specs.declared.plan.PlanEntry.{PlanEntry}
use Rattle.folder_building.specs.TreePlans.{tree_entry, tree_entries}

module _ (prefix : List ℕ) (folder : Option (List ℕ)) (from : List ℕ) where
  pub one_more : (lines : List ListingLine) (line : ListingLine) → tree_entries prefix folder from (lines ++ line ∷ []) ≡ tree_entries prefix folder from lines ++ option_to_list (tree_entry prefix folder from line)
  one_more lines line = filter_map-append (tree_entry prefix folder from) lines (line ∷ []) ∙ ap (λ es. tree_entries prefix folder from lines ++ es) (alone (tree_entry prefix folder from line))
    where
      alone : (o : Option PlanEntry) → cons_option o [] ≡ option_to_list o
      alone None = refl
      alone (Some e) = refl

  pub next_entries : (plan new : List PlanEntry) (xs : List PlanEntry) (lines : List ListingLine) (i : ℕ) (d : ListingLine) → i < length lines → plan ≡ xs ++ tree_entries prefix folder from (take i lines) → new ≡ plan ++ option_to_list (tree_entry prefix folder from (get_or lines i d)) → new ≡ xs ++ tree_entries prefix folder from (take (i + 1) lines)
  next_entries plan new xs lines i d inside before more =
      more ∙ (ap (λ es. es ++ option_to_list (tree_entry prefix folder from (get_or lines i d))) before
      ∙ (append_assoc xs (tree_entries prefix folder from (take i lines)) (option_to_list (tree_entry prefix folder from (get_or lines i d)))
      ∙ ap (λ es. xs ++ es) (sym (one_more (take i lines) (get_or lines i d)) ∙ ap (tree_entries prefix folder from) (sym (take_more lines i d inside)))))
