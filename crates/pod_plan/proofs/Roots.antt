-- The entries of an app's root: those of a tree that is copied from elsewhere, but for the images that the files are from.
use Rattle.std.proofs.Common.{◌≡◌, ◌+◌, ◌<◌, ℕ, true, ◌&&◌, codes, Option, Some, None, option_map, option_to_list, List, [], ◌∷◌, ◌++◌, length, take, drop, get_or, refl, sym, ap, subst, ◌∙◌, append_assoc}
use Rattle.std.specs.List.{cons_option}
use Rattle.std.proofs.lemmas.List.Elements.{filter_map-append}
use Rattle.std.proofs.lemmas.List.{take_more, drop_more, map-append}
use Rattle.dir_model.specs.Paths.{is_path}
use Rattle.dir_model.specs.Trees.{app_root}
use Rattle.dir_model.proofs.Lists.{and_left, and_right, and_both}
use Rattle.dir_rules.specs.declared.seen.Entry.{Entry}
use Rattle.dir_rules.specs.Rules.{is_new_path}
use Rattle.path_map.specs.declared.entry.Entry.{Entry as TreeEntry}
use Rattle.path_map.specs.declared.entry.Entry.TheVariants.{Dir, File, Link}
use Rattle.tree_digest.specs.declared.line.ListingLine.{ListingLine}
use Rattle.folder_building.specs.declared.plan.PlanEntry.{PlanEntry}
use Rattle.folder_building.specs.declared.plan.Content.{Content}
use Rattle.folder_building.specs.declared.plan.Content.TheVariants.{Directory, Copied}
use Rattle.folder_building.specs.Plans.{planned_entries, outline_of, has_origin, may_follow_entries, is_plan_after, AreMade}
use Rattle.folder_building.specs.TreePlans.{plan_entry_at, tree_entry, tree_entries, CarriesOn, MakesTree}
use Rattle.pod_plan.specs.declared.pod_app.PodApp.{PodApp}
use Rattle.pod_plan.specs.PodPlans.{image_of, root_entries}
use Rattle.pod_plan.specs.RootSteps.{from_image, for_file, taken, left}

module _ (images : List (List ℕ)) (app : PodApp) where
  abbrev Root : List ℕ
  Root = app_root app.name

  abbrev From : List ℕ
  From = codes "rootfs"

  -- the same, whatever image it is copied from
  abbrev unplaced : List ListingLine → List PlanEntry
  unplaced lines = tree_entries Root None From lines

  abbrev placed : List ListingLine → List PlanEntry
  placed lines = root_entries images app lines

  abbrev entry_of : ListingLine → Option PlanEntry
  entry_of line = tree_entry Root (image_of images app line.path) From line

  abbrev at_entry : ListingLine → TreeEntry → ListingLine
  at_entry line entry = record { path = line.path; entry = entry }

  -- line by line
  gets_its_image : (line : ListingLine) → option_map (from_image (for_file line.entry (image_of images app line.path))) (tree_entry Root None From line) ≡ entry_of line
  gets_its_image line = by line.entry
    where
      by : (entry : TreeEntry) → option_map (from_image (for_file entry (image_of images app line.path))) (tree_entry Root None From (at_entry line entry)) ≡ entry_of (at_entry line entry)
      by (Dir meta) = refl
      by (File meta size sha) = refl
      by (Link meta target) = refl

  takes_first : (line : ListingLine) (rest : List ListingLine) → taken line.entry (unplaced (line ∷ rest)) ≡ tree_entry Root None From line
  takes_first line rest = by line.entry
    where
      by : (entry : TreeEntry) → taken entry (unplaced (at_entry line entry ∷ rest)) ≡ tree_entry Root None From (at_entry line entry)
      by (Dir meta) = refl
      by (File meta size sha) = refl
      by (Link meta target) = refl

  leaves_others : (line : ListingLine) (rest : List ListingLine) → left line.entry (unplaced (line ∷ rest)) ≡ unplaced rest
  leaves_others line rest = by line.entry
    where
      by : (entry : TreeEntry) → left entry (unplaced (at_entry line entry ∷ rest)) ≡ unplaced rest
      by (Dir meta) = refl
      by (File meta size sha) = refl
      by (Link meta target) = refl

  one_more : (lines : List ListingLine) (line : ListingLine) → placed (lines ++ line ∷ []) ≡ placed lines ++ option_to_list (entry_of line)
  one_more lines line = filter_map-append entry_of lines (line ∷ []) ∙ ap (λ es. placed lines ++ es) (alone (entry_of line))
    where
      alone : (o : Option PlanEntry) → cons_option o [] ≡ option_to_list o
      alone None = refl
      alone (Some e) = refl

  -- the entries that are left, and those that got their images
  pub record IsAt (lines : List ListingLine) (i : ℕ) (before made plan : List PlanEntry) : Type 0 where
    pub rest : made ≡ unplaced (drop i lines)
    pub done : plan ≡ before ++ placed (take i lines)

  pub goes_on : (lines : List ListingLine) (i : ℕ) (d : ListingLine) (before made more plan new : List PlanEntry) (entry : Option PlanEntry) (image : Option (List ℕ)) → i < length lines → IsAt lines i before made plan
      → entry ≡ taken (get_or lines i d).entry made → more ≡ left (get_or lines i d).entry made → image ≡ for_file (get_or lines i d).entry (image_of images app (get_or lines i d).path)
      → new ≡ plan ++ option_to_list (option_map (from_image image) entry) → IsAt lines (i + 1) before more new
  goes_on lines i d before made more plan new entry image inside at first others of_image is = record { rest = rest; done = done }
    where
      line : ListingLine
      line = get_or lines i d

      split : made ≡ unplaced (line ∷ drop (i + 1) lines)
      split = at.rest ∙ ap unplaced (drop_more lines i d inside)

      rest : more ≡ unplaced (drop (i + 1) lines)
      rest = others ∙ (ap (left line.entry) split ∙ leaves_others line (drop (i + 1) lines))

      made_for_it : option_map (from_image image) entry ≡ entry_of line
      made_for_it = ap (λ im. option_map (from_image im) entry) of_image ∙ (ap (option_map (from_image (for_file line.entry (image_of images app line.path)))) (first ∙ (ap (taken line.entry) split ∙ takes_first line (drop (i + 1) lines))) ∙ gets_its_image line)

      done : new ≡ before ++ placed (take (i + 1) lines)
      done = is ∙ (ap (λ o. plan ++ option_to_list o) made_for_it ∙ (ap (λ es. es ++ option_to_list (entry_of line)) at.done ∙ (append_assoc before (placed (take i lines)) (option_to_list (entry_of line))
          ∙ ap (λ es. before ++ es) (sym (one_more (take i lines) line) ∙ ap placed (sym (take_more lines i d inside))))))

  -- they carry a plan on as the others do
  follows_as : (before other : List PlanEntry) (path : List ℕ) (content like : Content) → planned_entries before ≡ planned_entries other → has_origin content ≡ has_origin like → may_follow_entries before (plan_entry_at path content) ≡ true → may_follow_entries other (plan_entry_at path like) ≡ true
  follows_as before other path content like same origin h = subst (λ (es : List Entry). (is_path path && (is_new_path path es && has_origin like)) ≡ true) same (subst (λ o. (is_path path && (is_new_path path (planned_entries before) && o)) ≡ true) origin h)

  outline_more : (before other : List PlanEntry) (e f : PlanEntry) → planned_entries before ≡ planned_entries other → outline_of e ≡ outline_of f → planned_entries (before ++ e ∷ []) ≡ planned_entries (other ++ f ∷ [])
  outline_more before other e f same is = map-append outline_of before (e ∷ []) ∙ (ap (λ es. es ++ outline_of e ∷ []) same ∙ (ap (λ x. planned_entries other ++ x ∷ []) is ∙ sym (map-append outline_of other (f ∷ []))))

  plan_as : (before other : List PlanEntry) (lines : List ListingLine) → planned_entries before ≡ planned_entries other → is_plan_after before (unplaced lines) ≡ true → is_plan_after other (placed lines) ≡ true
  plan_as before other [] same h = refl
  plan_as before other (l ∷ lines) same h = by (λ b o s k. plan_as b o lines s k) l.entry h
    where
      by : ((b o : List PlanEntry) → planned_entries b ≡ planned_entries o → is_plan_after b (unplaced lines) ≡ true → is_plan_after o (placed lines) ≡ true) → (entry : TreeEntry) → is_plan_after before (unplaced (at_entry l entry ∷ lines)) ≡ true → is_plan_after other (placed (at_entry l entry ∷ lines)) ≡ true
      by rest (Dir meta) h =
          let e = plan_entry_at (Root ++ l.path) Directory in
          and_both (may_follow_entries other e) (is_plan_after (other ++ e ∷ []) (placed lines)) (follows_as before other (Root ++ l.path) Directory Directory same refl (and_left (may_follow_entries before e) (is_plan_after (before ++ e ∷ []) (unplaced lines)) h))
          (rest (before ++ e ∷ []) (other ++ e ∷ []) (outline_more before other e e same refl) (and_right (may_follow_entries before e) (is_plan_after (before ++ e ∷ []) (unplaced lines)) h))
      by rest (File meta size sha) h =
          let content = Copied (record { folder = None; path = From ++ l.path }) size sha in
          let like = Copied (record { folder = image_of images app l.path; path = From ++ l.path }) size sha in
          let e = plan_entry_at (Root ++ l.path) content in
          let f = plan_entry_at (Root ++ l.path) like in
          and_both (may_follow_entries other f) (is_plan_after (other ++ f ∷ []) (placed lines)) (follows_as before other (Root ++ l.path) content like same refl (and_left (may_follow_entries before e) (is_plan_after (before ++ e ∷ []) (unplaced lines)) h))
          (rest (before ++ e ∷ []) (other ++ f ∷ []) (outline_more before other e f same refl) (and_right (may_follow_entries before e) (is_plan_after (before ++ e ∷ []) (unplaced lines)) h))
      by rest (Link meta target) h = rest before other same h

  pub carries_on : (lines : List ListingLine) → CarriesOn Root From (unplaced lines) → CarriesOn Root From (placed lines)
  carries_on lines carries before root =
      let h = carries before root in
      let e = plan_entry_at Root Directory in
      and_both (may_follow_entries before e) (is_plan_after (before ++ e ∷ []) (placed lines)) (and_left (may_follow_entries before e) (is_plan_after (before ++ e ∷ []) (unplaced lines)) h)
      (plan_as (before ++ e ∷ []) (before ++ e ∷ []) lines refl (and_right (may_follow_entries before e) (is_plan_after (before ++ e ∷ []) (unplaced lines)) h))

  -- and make what the others make
  made_as : (lines : List ListingLine) (entries : List Entry) → AreMade (placed lines) entries → AreMade (unplaced lines) entries
  made_as [] entries m = m
  made_as (l ∷ lines) entries m = by (λ es k. made_as lines es k) l.entry m
    where
      by : ((es : List Entry) → AreMade (placed lines) es → AreMade (unplaced lines) es) → (entry : TreeEntry) → AreMade (placed (at_entry l entry ∷ lines)) entries → AreMade (unplaced (at_entry l entry ∷ lines)) entries
      by others (Dir meta) m = record { chunk = m.chunk; rest = m.rest; is = m.is; first = m.first; others = others m.rest m.others }
      by others (File meta size sha) m = record { chunk = m.chunk; rest = m.rest; is = m.is; first = record { pieces = m.first.pieces; is = m.first.is; fits = m.first.fits }; others = others m.rest m.others }
      by others (Link meta target) m = others entries m

  pub makes_tree : (lines : List ListingLine) → MakesTree Root lines (unplaced lines) → MakesTree Root lines (placed lines)
  makes_tree lines tree entries made = tree entries (made_as lines entries made)
