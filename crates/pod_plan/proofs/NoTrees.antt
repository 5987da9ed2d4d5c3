-- The plan of a pod copies no image's listing.
use Rattle.std.proofs.Common.{◌≡◌, ℕ, Bool, true, false, not, ◌&&◌, ◌||◌, bytes_eq, codes, map, Option, Some, None, List, [], ◌∷◌, ◌++◌, refl, ap, sym, subst, ◌∙◌}
use Rattle.std.specs.List.{list_all, list_any, flat_map, filter_map, cons_option}
use Rattle.std.proofs.lemmas.Slice.Eq.{bytes_eq-Decides}
use Rattle.dir_model.specs.declared.area.Area.TheVariants.{Images}
use Rattle.dir_model.specs.declared.item.Inner.{Inner}
use Rattle.dir_model.specs.declared.request.Request.{Request}
use Rattle.dir_model.specs.declared.request.Request.TheVariants.{ReadIn}
use Rattle.dir_model.specs.State.{spot_eq}
use Rattle.dir_model.specs.Trees.{app_root}
use Rattle.dir_model.proofs.Lists.{and_left, and_right, and_both}
use Rattle.path_map.specs.declared.entry.Entry.{Entry as TreeEntry}
use Rattle.path_map.specs.declared.entry.Entry.TheVariants.{Dir, File, Link}
use Rattle.tree_digest.specs.declared.line.ListingLine.{ListingLine}
use Rattle.folder_building.specs.declared.plan.Origin.{Origin}
use Rattle.folder_building.specs.declared.plan.PlanEntry.{PlanEntry}
use Rattle.folder_building.specs.declared.plan.Content.{Content}
use Rattle.folder_building.specs.declared.plan.Content.TheVariants.{Directory, Given, Copied}
use Rattle.folder_building.specs.Sources.{in_image, in_images}
use Rattle.folder_building.specs.Stored.{reads_stored, reads_content, reads_contents}
use Rattle.folder_building.specs.TreePlans.{tree_entry}
use Rattle.image_reading.specs.Places.{tree_name}
use Rattle.image_reading.specs.Trees.{reads_trees_of}
use Rattle.image_reading.proofs.Trees.{other_file}
use Rattle.ac_types.specs.declared.image_ref.ImageRef.{ImageRef}
use Rattle.dep_match.specs.declared.stored.Stored.{Stored}
use Rattle.dir_trait.specs.DirCalls.{DirAt}
use Rattle.pod_manifest.specs.Wishes.{Wishes}
use Rattle.pod_plan.specs.Plans.{folders, apps_of, PlansChoice}
use Rattle.pod_plan.specs.declared.pod_app.PodApp.{PodApp}
use Rattle.pod_plan.specs.PodFiles.{shared_directories}
use Rattle.pod_plan.specs.PodPlans.{image_of, root_entries, app_entries, pod_entries}
use Rattle.pod_plan.specs.PickedTrees.{is_no_tree, copies_no_tree}

-- a file is copied from below the `rootfs` of an image
no_tree_below : (images : List (List ℕ)) (app : PodApp) (lines : List ListingLine) → copies_no_tree (root_entries images app lines) ≡ true
no_tree_below images app [] = refl
no_tree_below images app (l ∷ lines) = by l.entry (no_tree_below images app lines)
  where
    at_entry : TreeEntry → ListingLine
    at_entry entry = record { path = l.path; entry = entry }

    by : (entry : TreeEntry) → copies_no_tree (root_entries images app lines) ≡ true → copies_no_tree (root_entries images app (at_entry entry ∷ lines)) ≡ true
    by (Dir meta) others = others
    by (File meta size sha) others = others
    by (Link meta target) others = others

both : (xs ys : List PlanEntry) → copies_no_tree xs ≡ true → copies_no_tree ys ≡ true → copies_no_tree (xs ++ ys) ≡ true
both [] ys a b = b
both (x ∷ xs) ys a b =
    and_both (is_no_tree x.content) (copies_no_tree (xs ++ ys)) (and_left (is_no_tree x.content) (copies_no_tree xs) a)
    (both xs ys (and_right (is_no_tree x.content) (copies_no_tree xs) a) b)

apps_copy : (images : List (List ℕ)) (apps : List PodApp) → copies_no_tree (flat_map (app_entries images) apps) ≡ true
apps_copy images [] = refl
apps_copy images (a ∷ apps) = both (app_entries images a) (flat_map (app_entries images) apps) (no_tree_below images a a.listing) (apps_copy images apps)

-- the plan of a pod copies none
pub pod_copies : (now : ℕ) (token text : List ℕ) (images : List (List ℕ)) (apps : List PodApp) → copies_no_tree (pod_entries now token text images apps) ≡ true
pod_copies now token text images apps = both (flat_map (app_entries images) apps) _ (apps_copy images apps) refl

pub choice_copies : {observed : Bool} {images : List Stored} {manifests : List (List ℕ)} {refs : List ImageRef} {options : Wishes} {now : ℕ} {token : List ℕ} {plan : List PlanEntry} {old new : DirAt}
    → PlansChoice observed images manifests refs options now token plan old new → copies_no_tree plan ≡ true
choice_copies {observed} {images} {manifests} {refs} {options} {now} {token} {plan} p =
    subst (λ (entries : List PlanEntry). copies_no_tree entries ≡ true) (sym p.planned.entries) (pod_copies now token p.planned.text (folders images) (apps_of manifests p.choice p.roots))

-- then none is read while it is carried out
content_reads : (content : Content) → is_no_tree content ≡ true → (r : Request) → reads_content in_images content r ≡ true → reads_trees_of [] r ≡ true
content_reads Directory free r h = cc
content_reads (Given bytes) free r h = cc
content_reads (Copied origin size sha) free r h = by origin.folder h
  where
    apart : bytes_eq origin.path tree_name ≡ false
    apart = off (bytes_eq origin.path tree_name) free
      where
        off : (b : Bool) → not b ≡ true → b ≡ false
        off true h = cc
        off false h = refl

    by : (folder : Option (List ℕ)) → reads_stored (in_image origin.path folder) r ≡ true → reads_trees_of [] r ≡ true
    by None h = cc
    by (Some name) h = other_file (record { area = Images; name = name }) origin.path apart r h

pub contents_read : (plan : List PlanEntry) → copies_no_tree plan ≡ true → (r : Request) → reads_contents in_images plan r ≡ true → reads_trees_of [] r ≡ true
contents_read [] free r h = cc
contents_read (e ∷ plan) free r h =
    by (reads_content in_images e.content r) refl (contents_read plan (and_right (is_no_tree e.content) (copies_no_tree plan) free) r) h
  where
    by : (b : Bool) → reads_content in_images e.content r ≡ b → (reads_contents in_images plan r ≡ true → reads_trees_of [] r ≡ true) → (b || reads_contents in_images plan r) ≡ true → reads_trees_of [] r ≡ true
    by true is others h = content_reads e.content (and_left (is_no_tree e.content) (copies_no_tree plan) free) r is
    by false is others h = others h
