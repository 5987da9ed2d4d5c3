-- The plan of an image is a plan, and what it makes is the image.
use Rattle.std.proofs.Common.{◌≡◌, ℕ, Bool, true, false, not, ◌&&◌, ◌||◌, codes, None, Result, Ok, Err, IfOk, List, [], ◌∷◌, ◌++◌, refl, sym, ap, subst, ◌∙◌, append-nil, arith}
use Rattle.std.specs.List.{list_any, list_all, AllByRecursion}
use Rattle.plain_laws.proofs.Texts.{same_bytes}
use Rattle.dir_model.specs.Paths.{is_path, is_empty, lies_below}
use Rattle.dir_model.specs.Trees.{is_within}
use Rattle.dir_model.proofs.Lists.{and_left, and_right, and_both}
use Rattle.dir_rules.specs.declared.seen.Entry.{Entry}
use Rattle.dir_rules.specs.Rules.{has_dir_among, is_new_path}
use Rattle.path_map.specs.declared.entry.Entry.{Entry as TreeEntry}
use Rattle.path_map.specs.declared.entry.Entry.TheVariants.{Dir, File, Link}
use Rattle.path_map.specs.Paths.{IsAbsPath}
use Rattle.tree_digest.specs.declared.line.ListingLine.{ListingLine}
use Rattle.tree_digest.specs.Listings.{listing_text, IsListing}
use Rattle.folder_building.specs.declared.plan.PlanEntry.{PlanEntry}
use Rattle.folder_building.specs.declared.plan.Content.TheVariants.{Directory}
use Rattle.folder_building.specs.Plans.{planned_entries, may_follow_entries, is_plan, is_plan_after}
use Rattle.folder_building.specs.Materialized.{has_bytes, materializes, stands_for}
use Rattle.folder_building.specs.TreePlans.{plan_entry_at, tree_entries, IsTreePrefix, CarriesOn, MakesTree}
use Rattle.folder_building.proofs.Among.{MadeBoth, made_both, tree_among, absolute}
use Rattle.folder_building.proofs.FilePaths.{begins_with, lies_there}
use Rattle.folder_building.specs.ImagePlans.{id_file, imported_mark, given_file, mark_file, image_head_entries, image_entries, is_of_image, MakesImage}
use Rattle.folder_building.proofs.Marks.{mark_is_path, manifest_path, id_path, tree_path, root_path, mark_parent}
use Rattle.folder_building.proofs.ImageMade.{plan_both, AllPlanned, made_passes, none_passes, is_elsewhere, has_given, has_directory}

abbrev Root : List ℕ
Root = codes "rootfs"

abbrev tree_of : List ListingLine → List PlanEntry
tree_of lines = tree_entries Root None Root lines

-- what holds of each path below the directory holds of the tree's
tree_passes : (t : List ℕ → Bool) → ((rest : List ℕ) → t (Root ++ 47 ∷ rest) ≡ true) → (lines : List ListingLine) → AllByRecursion (λ l. IsAbsPath l.path) lines → AllPlanned t (tree_of lines)
tree_passes t h [] abs = refl
tree_passes t h (l ∷ lines) abs = by l.entry (tree_passes t h lines abs.1)
  where
    here : t (Root ++ l.path) ≡ true
    here = let b = begins_with l.path abs.0 in subst (λ (x : List ℕ). t (Root ++ x) ≡ true) (sym b.1) (h b.0)

    by : (entry : TreeEntry) → AllPlanned t (tree_of lines) → AllPlanned t (tree_of (record { path = l.path; entry = entry } ∷ lines))
    by (Dir meta) rest = and_both (t (Root ++ l.path)) (list_all (λ e. t e.path) (tree_of lines)) here rest
    by (File meta size sha) rest = and_both (t (Root ++ l.path)) (list_all (λ e. t e.path) (tree_of lines)) here rest
    by (Link meta target) rest = rest

module _ (manifest id : List ℕ) (lines : List ListingLine) (now : ℕ) (listing : IsListing lines) where
  abbrev Head : List PlanEntry
  Head = image_head_entries manifest id lines now

  abbrev Tree : List PlanEntry
  Tree = tree_of lines

  abbrev After : List PlanEntry
  After = plan_entry_at Root Directory ∷ Tree

  abs : AllByRecursion (λ l. IsAbsPath l.path) lines
  abs = absolute [] lines listing.follow

  nothing_within : list_any (λ e. is_within Root e.path) Head ≡ false
  unfolding lies_below
  nothing_within = refl

  nothing_below : AllPlanned (λ p. not (lies_below p Root)) (Head ++ plan_entry_at Root Directory ∷ [])
  unfolding lies_below
  nothing_below = refl

  root : IsTreePrefix Root Root Head
  root = record { path = root_path; some = refl; short = omega arith; parent = refl; free = nothing_within; source = root_path; given = refl }

  abbrev Before : List PlanEntry
  Before = given_file (codes "manifest") manifest ∷ given_file (codes "id") (id_file id) ∷ given_file (codes "tree") (listing_text lines) ∷ []

  before_plan : is_plan_after [] Before ≡ true
  before_plan =
      and_both (may_follow_entries [] (given_file (codes "manifest") manifest)) (is_plan_after (given_file (codes "manifest") manifest ∷ []) (given_file (codes "id") (id_file id) ∷ given_file (codes "tree") (listing_text lines) ∷ []))
      (and_both (is_path (codes "manifest")) true manifest_path refl)
      (and_both (may_follow_entries (given_file (codes "manifest") manifest ∷ []) (given_file (codes "id") (id_file id))) (is_plan_after (given_file (codes "manifest") manifest ∷ given_file (codes "id") (id_file id) ∷ []) (given_file (codes "tree") (listing_text lines) ∷ []))
      (and_both (is_path (codes "id")) true id_path refl)
      (and_both (may_follow_entries (given_file (codes "manifest") manifest ∷ given_file (codes "id") (id_file id) ∷ []) (given_file (codes "tree") (listing_text lines))) true
      (and_both (is_path (codes "tree")) true tree_path refl) refl))

  -- the mark's name is new there, and in the folder itself
  mark_new : is_new_path (imported_mark now) (planned_entries Before) ≡ true
  mark_new = ap (λ (p : List ℕ). is_empty p || has_dir_among p (planned_entries Before)) (mark_parent now)

  mark_follows : may_follow_entries Before (mark_file now) ≡ true
  mark_follows = and_both (is_path (imported_mark now)) (is_new_path (imported_mark now) (planned_entries Before) && true) (mark_is_path now) (and_both (is_new_path (imported_mark now) (planned_entries Before)) true mark_new refl)

  head_plan : is_plan_after [] Head ≡ true
  head_plan = plan_both [] Before (mark_file now ∷ []) before_plan (and_both (may_follow_entries Before (mark_file now)) true mark_follows refl)

  pub image_is_plan : CarriesOn Root Root Tree → is_plan (image_entries manifest id lines now) ≡ true
  image_is_plan carries = plan_both [] Head After head_plan (carries Head root)

  pub makes_image : MakesTree Root lines Tree → MakesImage manifest id lines now (image_entries manifest id lines now)
  makes_image tree entries made = record {
    manifest_file = has_given [] (given_file (codes "id") (id_file id) ∷ given_file (codes "tree") (listing_text lines) ∷ mark_file now ∷ After) (codes "manifest") manifest entries refl (rest (codes "manifest") (λ r. refl) refl) made;
    id_file_there = has_given (given_file (codes "manifest") manifest ∷ []) (given_file (codes "tree") (listing_text lines) ∷ mark_file now ∷ After) (codes "id") (id_file id) entries refl (tree_passes (is_elsewhere (codes "id")) (λ r. refl) lines abs) made;
    stands = stands;
    marked = has_given (given_file (codes "manifest") manifest ∷ given_file (codes "id") (id_file id) ∷ given_file (codes "tree") (listing_text lines) ∷ []) After (imported_mark now) [] entries refl (tree_passes (is_elsewhere (imported_mark now)) (λ r. refl) lines abs) made;
    others = made_passes (is_of_image now) (image_entries manifest id lines now) entries made
        (and_both (is_of_image now (imported_mark now)) (list_all (λ e. is_of_image now e.path) After) mark_of (tree_passes (is_of_image now) below_root lines abs));
  }
    where
      rest : (path : List ℕ) → ((r : List ℕ) → is_elsewhere path (Root ++ 47 ∷ r) ≡ true) → AllPlanned (is_elsewhere path) (given_file (codes "id") (id_file id) ∷ given_file (codes "tree") (listing_text lines) ∷ mark_file now ∷ plan_entry_at Root Directory ∷ []) → AllPlanned (is_elsewhere path) (given_file (codes "id") (id_file id) ∷ given_file (codes "tree") (listing_text lines) ∷ mark_file now ∷ After)
      rest path h other = more (given_file (codes "id") (id_file id) ∷ given_file (codes "tree") (listing_text lines) ∷ mark_file now ∷ plan_entry_at Root Directory ∷ []) other
        where
          more : (front : List PlanEntry) → AllPlanned (is_elsewhere path) front → AllPlanned (is_elsewhere path) (front ++ Tree)
          more [] o = tree_passes (is_elsewhere path) h lines abs
          more (e ∷ es) o = and_both (is_elsewhere path e.path) (list_all (λ x. is_elsewhere path x.path) (es ++ Tree)) (and_left (is_elsewhere path e.path) (list_all (λ x. is_elsewhere path x.path) es) o) (more es (and_right (is_elsewhere path e.path) (list_all (λ x. is_elsewhere path x.path) es) o))

      mark_of : is_of_image now (imported_mark now) ≡ true
      mark_of = rw (same_bytes (imported_mark now)) refl

      below_root : (r : List ℕ) → is_of_image now (Root ++ 47 ∷ r) ≡ true
      below_root r = lies_there Root r refl

      parts : MadeBoth (Head ++ plan_entry_at Root Directory ∷ []) Tree entries
      parts = made_both (Head ++ plan_entry_at Root Directory ∷ []) Tree entries made

      apart : list_any (λ e. lies_below e.path Root) parts.front ≡ false
      apart = none_passes (λ p. lies_below p Root) parts.front (made_passes (λ p. not (lies_below p Root)) (Head ++ plan_entry_at Root Directory ∷ []) parts.front parts.made nothing_below)

      standing : materializes Root lines entries ≡ true
      standing = subst (λ (l : List Entry). materializes Root lines l ≡ true) (append-nil (parts.front ++ parts.back) ∙ sym parts.is)
          (tree_among Root refl lines parts.front parts.back [] listing apart refl (tree parts.back parts.later))

      text : has_bytes (codes "tree") (listing_text lines) entries ≡ true
      text = has_given (given_file (codes "manifest") manifest ∷ given_file (codes "id") (id_file id) ∷ []) (mark_file now ∷ After) (codes "tree") (listing_text lines) entries refl (tree_passes (is_elsewhere (codes "tree")) (λ r. refl) lines abs) made

      stands : stands_for lines entries ≡ true
      stands = and_both (has_dir_among Root entries) (materializes Root lines entries && has_bytes (codes "tree") (listing_text lines) entries)
          (has_directory Head Tree Root entries made) (and_both (materializes Root lines entries) (has_bytes (codes "tree") (listing_text lines) entries) standing text)

-- what the call answers
module _ (manifest id : List ℕ) (lines : List ListingLine) (now : ℕ) {T E : Type 0} (items : T → List PlanEntry) (r : Result T E) (listing : IsListing lines) where
  pub answers_plan : IfOk r (λ plan. items plan ≡ image_entries manifest id lines now) → IfOk r (λ plan. CarriesOn Root Root (tree_of lines)) → IfOk r (λ plan. is_plan (items plan) ≡ true)
  answers_plan entries carries = both r entries carries
    where
      both : (r : Result T E) → IfOk r (λ plan. items plan ≡ image_entries manifest id lines now) → IfOk r (λ plan. CarriesOn Root Root (tree_of lines)) → IfOk r (λ plan. is_plan (items plan) ≡ true)
      both (Ok plan) is on = ap is_plan is ∙ image_is_plan manifest id lines now listing on
      both (Err e) is on = tt

  pub answers_image : IfOk r (λ plan. items plan ≡ image_entries manifest id lines now) → IfOk r (λ plan. MakesTree Root lines (tree_of lines)) → IfOk r (λ plan. MakesImage manifest id lines now (items plan))
  answers_image entries tree = both r entries tree
    where
      both : (r : Result T E) → IfOk r (λ plan. items plan ≡ image_entries manifest id lines now) → IfOk r (λ plan. MakesTree Root lines (tree_of lines)) → IfOk r (λ plan. MakesImage manifest id lines now (items plan))
      both (Ok plan) is made = subst (λ (l : List PlanEntry). MakesImage manifest id lines now l) (sym is) (makes_image manifest id lines now listing made)
      both (Err e) is made = tt
