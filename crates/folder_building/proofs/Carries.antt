-- The plan of a listing's tree is a plan.
use Rattle.std.proofs.Common.{◌≡◌, ◌+◌, ◌==◌, ◌≤◌, ℕ, Bool, true, false, not, ◌&&◌, ◌||◌, nat_le, bytes_eq, nat_cmp, Less, Option, option_to_list, List, [], ◌∷◌, ◌++◌, length, refl, sym, ap, subst, ◌∙◌, append_assoc, append-nil, arith, ◌⊎◌, inl, inr, length-append}
use Rattle.std.specs.List.{list_any, AllByRecursion}
use Rattle.std.specs.List.Sorted.{IsStrictlySortedBy}
use Rattle.std.specs.Map.{keys_of}
use Rattle.std.specs.Cmp.Lexicographic.{slice_cmp}
use Rattle.std.proofs.lemmas.Bool.{or_parts, or_cases}
use Rattle.std.proofs.lemmas.Bool.Decides.{nat_tests}
use Rattle.std.proofs.lemmas.List.Folds.{list_any-append}
use Rattle.std.proofs.lemmas.Map.Keys.{sorted_head, sorted_tail}
use Rattle.std.proofs.lemmas.Slice.Eq.{bytes_eq-Decides}
use Rattle.dir_model.specs.Paths.{is_empty, is_path, lies_below}
use Rattle.dir_model.specs.Trees.{is_dir, is_within}
use Rattle.dir_model.proofs.Lists.{and_both, or_none, or_last, any_of_map, all_push}
use Rattle.dir_rules.specs.Marks.{parent}
use Rattle.dir_rules.specs.Rules.{has_path_among, has_dir_among, is_in_directory, is_new_path}
use Rattle.path_map.specs.declared.entry.Entry.{Entry as TreeEntry}
use Rattle.path_map.specs.declared.entry.Entry.TheVariants.{Dir, File, Link}
use Rattle.path_map.specs.Entries.{is_directory}
use Rattle.path_map.specs.Paths.{IsAbsPath, HasNone, EndsIn}
use Rattle.path_map.proofs.Segments.{sound_from}
use Rattle.tree_digest.specs.declared.line.ListingLine.{ListingLine}
use Rattle.tree_digest.specs.Listings.{IsListing, AllFollow, Follows, has_directory, entries_of}
use Rattle.tree_digest.proofs.MapLines.{rising_lines, differ_if_less}
use Rattle.tree_digest.proofs.Cuts.{has_none_or_last}
use Rattle.folder_building.specs.declared.plan.PlanEntry.{PlanEntry}
use Rattle.folder_building.specs.declared.plan.Content.{Content}
use Rattle.folder_building.specs.declared.plan.Content.TheVariants.{Directory, Copied}
use Rattle.folder_building.specs.Plans.{planned_entries, outline_of, is_in_plan, has_origin, may_follow_entries, is_plan_after}
use Rattle.folder_building.specs.Materialized.{prefixed_path}
use Rattle.folder_building.specs.TreePlans.{plan_entry_at, tree_entry, tree_entries, IsTreePrefix, CarriesOn}
use Rattle.folder_building.proofs.Texts.{not_same, same_end}
use Rattle.folder_building.proofs.FilePaths.{begins_with, below_is_path, parent_of, no_length, lies_there}
use Rattle.folder_building.proofs.Nexts.{one_more}

-- which paths a plan has made, and which directories
pub path_outline : (path : List ℕ) (plan : List PlanEntry) → has_path_among path (planned_entries plan) ≡ is_in_plan path plan
path_outline path plan = any_of_map outline_of (λ e. bytes_eq e.path path) plan

among_both : (path : List ℕ) (xs ys : List PlanEntry) → is_in_plan path xs ≡ false → is_in_plan path ys ≡ false → is_in_plan path (xs ++ ys) ≡ false
among_both path xs ys a b = list_any-append (λ e. bytes_eq e.path path) xs ys ∙ or_none (is_in_plan path xs) (is_in_plan path ys) a b

abbrev has_directory_at : List ℕ → List PlanEntry → Bool
has_directory_at path plan = list_any (λ e. is_dir (outline_of e).node && bytes_eq e.path path) plan

dir_outline : (path : List ℕ) (plan : List PlanEntry) → has_dir_among path (planned_entries plan) ≡ has_directory_at path plan
dir_outline path plan = any_of_map outline_of (λ e. is_dir e.node && bytes_eq e.path path) plan

within_room : (a b : ℕ) → a ≤ 4096 → b ≤ 4096 → nat_le (a + b) 8192 ≡ true
within_room a b p q = grind (arith, nat_tests)

within_alone : (a : ℕ) → a ≤ 4096 → nat_le a 8192 ≡ true
within_alone a p = grind (arith, nat_tests)

not_empty : (p path : List ℕ) → is_empty p ≡ false → is_empty (p ++ path) ≡ false
not_empty [] path h = cc
not_empty (x ∷ p) path h = refl

-- the part of an absolute path before its last slash
ends_of : (path : List ℕ) → IsAbsPath path → (a : List ℕ) × (name : List ℕ) × EndsIn path a name
ends_of path abs = by (has_none_or_last 47 path)
  where
    by : HasNone 47 path ⊎ ((a : List ℕ) × (b : List ℕ) × (path ≡ a ++ 47 ∷ b) × HasNone 47 b) → (a : List ℕ) × (name : List ℕ) × EndsIn path a name
    by (inl none) = let b = begins_with path abs in let e : true ≡ false = sym (ap (list_any (λ x. x == 47)) b.1) ∙ none in absurd cc
    by (inr l) = (l.0, l.1, record { text = l.2; last = l.3 })

none_within : (prefix path : List ℕ) (plan : List PlanEntry) → is_within prefix path ≡ true → list_any (λ e. is_within prefix e.path) plan ≡ false → is_in_plan path plan ≡ false
none_within prefix path [] within free = refl
none_within prefix path (e ∷ es) within free =
    let f = or_parts (is_within prefix e.path) (list_any (λ x. is_within prefix x.path) es) free in
    or_none (bytes_eq e.path path) (is_in_plan path es) (not_same e.path path (λ is. let clash : true ≡ false = sym within ∙ (ap (is_within prefix) (sym is) ∙ f.0) in absurd cc)) (none_within prefix path es within f.1)

module _ (prefix : List ℕ) (folder : Option (List ℕ)) (from : List ℕ) (before : List PlanEntry) (root : IsTreePrefix prefix from before) where
  abbrev Root : PlanEntry
  Root = plan_entry_at prefix Directory

  -- what was made once some lines were
  abbrev Made : List ListingLine → List PlanEntry
  Made done = (before ++ Root ∷ []) ++ tree_entries prefix folder from done

  -- each of the lines done comes before each of those that are left
  abbrev AreBefore : List ListingLine → List ListingLine → Type 0
  AreBefore done lines = AllByRecursion (λ k. AllByRecursion (λ p. slice_cmp nat_cmp k.path p ≡ Less) (keys_of (entries_of lines))) done

  still_before : (done : List ListingLine) (l : ListingLine) (lines : List ListingLine) → AreBefore done (l ∷ lines) → AreBefore done lines
  still_before [] l lines h = tt
  still_before (k ∷ done) l lines h = (h.0.1, still_before done l lines h.1)

  not_done : (done : List ListingLine) (l : ListingLine) (lines : List ListingLine) → AreBefore done (l ∷ lines) → is_in_plan (prefixed_path prefix l.path) (tree_entries prefix folder from done) ≡ false
  not_done [] l lines h = refl
  not_done (k ∷ done) l lines h = by k.entry (not_done done l lines h.1)
    where
      other : bytes_eq (prefixed_path prefix k.path) (prefixed_path prefix l.path) ≡ false
      other = not_same (prefixed_path prefix k.path) (prefixed_path prefix l.path) (λ is. differ_if_less k.path l.path h.0.0 (same_end prefix k.path l.path is))

      by : (entry : TreeEntry) → is_in_plan (prefixed_path prefix l.path) (tree_entries prefix folder from done) ≡ false → is_in_plan (prefixed_path prefix l.path) (tree_entries prefix folder from (record { path = k.path; entry = entry } ∷ done)) ≡ false
      by (Dir meta) rest = or_none (bytes_eq (prefixed_path prefix k.path) (prefixed_path prefix l.path)) (is_in_plan (prefixed_path prefix l.path) (tree_entries prefix folder from done)) other rest
      by (File meta size sha) rest = or_none (bytes_eq (prefixed_path prefix k.path) (prefixed_path prefix l.path)) (is_in_plan (prefixed_path prefix l.path) (tree_entries prefix folder from done)) other rest
      by (Link meta target) rest = rest

  directory_made : (done : List ListingLine) (path : List ℕ) → has_directory done path ≡ true → has_directory_at (prefixed_path prefix path) (tree_entries prefix folder from done) ≡ true
  directory_made [] path h = cc
  directory_made (k ∷ done) path h = by k.entry h (directory_made done path)
    where
      same : (a b : List ℕ) → bytes_eq a b ≡ true → bytes_eq (prefixed_path prefix a) (prefixed_path prefix b) ≡ true
      same a b is = (bytes_eq-Decides (prefixed_path prefix a) (prefixed_path prefix b)).1 (ap (prefixed_path prefix) ((bytes_eq-Decides a b).0 is))

      here : (b c d : Bool) → (b ≡ true → c ≡ true) → ((b && true) || d) ≡ true → (d ≡ true → has_directory_at (prefixed_path prefix path) (tree_entries prefix folder from done) ≡ true) → ((true && c) || has_directory_at (prefixed_path prefix path) (tree_entries prefix folder from done)) ≡ true
      here true c d f h rest = rw (f refl) refl
      here false c d f h rest = or_last (true && c) (has_directory_at (prefixed_path prefix path) (tree_entries prefix folder from done)) (rest h)

      later : (b d : Bool) → ((b && false) || d) ≡ true → d ≡ true
      later true d h = h
      later false d h = h

      by : (entry : TreeEntry) → ((bytes_eq k.path path && is_directory entry) || has_directory done path) ≡ true → (has_directory done path ≡ true → has_directory_at (prefixed_path prefix path) (tree_entries prefix folder from done) ≡ true) → has_directory_at (prefixed_path prefix path) (tree_entries prefix folder from (record { path = k.path; entry = entry } ∷ done)) ≡ true
      by (Dir meta) h rest = here (bytes_eq k.path path) (bytes_eq (prefixed_path prefix k.path) (prefixed_path prefix path)) (has_directory done path) (same k.path path) h rest
      by (File meta size sha) h rest = rest (later (bytes_eq k.path path) (has_directory done path) h)
      by (Link meta target) h rest = rest (later (bytes_eq k.path path) (has_directory done path) h)

  in_made : (path : List ℕ) (done : List ListingLine) → has_directory_at path (tree_entries prefix folder from done) ≡ true → has_dir_among path (planned_entries (Made done)) ≡ true
  in_made path done h = dir_outline path (Made done) ∙ (list_any-append (λ e. is_dir (outline_of e).node && bytes_eq e.path path) (before ++ Root ∷ []) (tree_entries prefix folder from done) ∙ or_last (has_directory_at path (before ++ Root ∷ [])) (has_directory_at path (tree_entries prefix folder from done)) h)

  root_made : (done : List ListingLine) → has_dir_among prefix (planned_entries (Made done)) ≡ true
  root_made done =
      let at_root : has_directory_at prefix (before ++ Root ∷ []) ≡ true = list_any-append (λ e. is_dir (outline_of e).node && bytes_eq e.path prefix) before (Root ∷ []) ∙ or_last (has_directory_at prefix before) (has_directory_at prefix (Root ∷ [])) (rw ((bytes_eq-Decides prefix prefix).1 refl) refl) in
      dir_outline prefix (Made done) ∙ (list_any-append (λ e. is_dir (outline_of e).node && bytes_eq e.path prefix) (before ++ Root ∷ []) (tree_entries prefix folder from done) ∙ rw at_root refl)

  module _ (done : List ListingLine) (l : ListingLine) (lines : List ListingLine) (f : Follows done l) (apart : AreBefore done (l ∷ lines)) where
    abbrev Here : List ℕ
    Here = prefixed_path prefix l.path

    rest_of : (rest : List ℕ) × (l.path ≡ 47 ∷ rest)
    rest_of = begins_with l.path f.line.path

    is_within_root : is_within prefix Here ≡ true
    is_within_root = or_last (bytes_eq Here prefix) (lies_below Here prefix) (subst (λ (x : List ℕ). lies_below (prefix ++ x) prefix ≡ true) (sym rest_of.1) (lies_there prefix rest_of.0 root.some))

    not_root : bytes_eq prefix Here ≡ false
    not_root = not_same prefix Here (λ is. let n = ap length is in let m = ap length rest_of.1 in absurd (omega (arith, n, m, length-append prefix l.path)))

    new_path : has_path_among Here (planned_entries (Made done)) ≡ false
    new_path = path_outline Here (Made done) ∙ among_both Here (before ++ Root ∷ []) (tree_entries prefix folder from done) (among_both Here before (Root ∷ []) (none_within prefix Here before is_within_root root.free) (or_none (bytes_eq prefix Here) false not_root refl)) (not_done done l lines apart)

    in_directory : is_in_directory Here (planned_entries (Made done)) ≡ true
    in_directory =
        let e = ends_of l.path f.line.path in
        let cut : Here ≡ prefixed_path prefix e.0 ++ 47 ∷ e.1 = ap (prefixed_path prefix) e.2.text ∙ sym (append_assoc prefix e.0 (47 ∷ e.1)) in
        let up : parent Here ≡ prefixed_path prefix e.0 = ap parent cut ∙ parent_of (prefixed_path prefix e.0) e.1 e.2.last in
        or_last (is_empty (parent Here)) (has_dir_among (parent Here) (planned_entries (Made done)))
        (subst (λ (x : List ℕ). has_dir_among x (planned_entries (Made done)) ≡ true) (sym up) (by e.0 (or_cases (length e.0 == 0) (has_directory done e.0) (f.parents e.0 e.1 e.2))))
      where
        by : (a : List ℕ) → ((length a == 0) ≡ true) ⊎ (has_directory done a ≡ true) → has_dir_among (prefixed_path prefix a) (planned_entries (Made done)) ≡ true
        by [] c = subst (λ (x : List ℕ). has_dir_among x (planned_entries (Made done)) ≡ true) (sym (append-nil prefix)) (root_made done)
        by (x ∷ a) (inl none) = let e : false ≡ true = sym (no_length (x ∷ a) refl) ∙ none in cc
        by (x ∷ a) (inr there) = in_made (prefixed_path prefix (x ∷ a)) done (directory_made done (x ∷ a) there)

    short : nat_le (length Here) 8192 ≡ true
    short = subst (λ (n : ℕ). nat_le n 8192 ≡ true) (sym (length-append prefix l.path)) (within_room (length prefix) (length l.path) root.short (sound_from l.path f.line.path.sound).short)

    is_new : is_new_path Here (planned_entries (Made done)) ≡ true
    is_new =
        and_both (nat_le (length Here) 8192) (not (is_empty Here) && (not (has_path_among Here (planned_entries (Made done))) && is_in_directory Here (planned_entries (Made done)))) short
        (and_both (not (is_empty Here)) (not (has_path_among Here (planned_entries (Made done))) && is_in_directory Here (planned_entries (Made done))) (ap not (not_empty prefix l.path root.some))
        (and_both (not (has_path_among Here (planned_entries (Made done)))) (is_in_directory Here (planned_entries (Made done))) (ap not new_path) in_directory))

    line_follows : (content : Content) → has_origin content ≡ true → may_follow_entries (Made done) (plan_entry_at Here content) ≡ true
    line_follows content origin =
        and_both (is_path Here) (is_new_path Here (planned_entries (Made done)) && has_origin content) (below_is_path prefix l.path root.path root.some f.line.path)
        (and_both (is_new_path Here (planned_entries (Made done))) (has_origin content) is_new origin)

    copied_from : is_path (prefixed_path from l.path) ≡ true
    copied_from = below_is_path from l.path root.source root.given f.line.path

  made_more : (done : List ListingLine) (l : ListingLine) → Made (done ++ l ∷ []) ≡ Made done ++ option_to_list (tree_entry prefix folder from l)
  made_more done l = ap (λ es. (before ++ Root ∷ []) ++ es) (one_more prefix folder from done l) ∙ sym (append_assoc (before ++ Root ∷ []) (tree_entries prefix folder from done) (option_to_list (tree_entry prefix folder from l)))

  carries : (done lines : List ListingLine) → AllFollow done lines → IsStrictlySortedBy (slice_cmp nat_cmp) (keys_of (entries_of lines)) → AreBefore done lines → is_plan_after (Made done) (tree_entries prefix folder from lines) ≡ true
  carries done [] f sorted apart = refl
  carries done (l ∷ lines) f sorted apart =
      by l.entry refl
      (carries (done ++ l ∷ []) lines f.1 (sorted_tail (slice_cmp nat_cmp) l.path (keys_of (entries_of lines)) sorted) (all_push (λ k. AllByRecursion (λ p. slice_cmp nat_cmp k.path p ≡ Less) (keys_of (entries_of lines))) done l (still_before done l lines apart) (sorted_head (slice_cmp nat_cmp) l.path (keys_of (entries_of lines)) sorted)))
    where
      by : (entry : TreeEntry) → l.entry ≡ entry → is_plan_after (Made (done ++ l ∷ [])) (tree_entries prefix folder from lines) ≡ true → is_plan_after (Made done) (tree_entries prefix folder from (record { path = l.path; entry = entry } ∷ lines)) ≡ true
      by (Dir meta) is rest =
          let e = plan_entry_at (prefixed_path prefix l.path) Directory in
          let more : Made (done ++ l ∷ []) ≡ Made done ++ e ∷ [] = made_more done l ∙ ap (λ (x : TreeEntry). Made done ++ option_to_list (tree_entry prefix folder from (record { path = l.path; entry = x }))) is in
          and_both (may_follow_entries (Made done) e) (is_plan_after (Made done ++ e ∷ []) (tree_entries prefix folder from lines)) (line_follows done l lines f.0 apart Directory refl) (subst (λ (m : List PlanEntry). is_plan_after m (tree_entries prefix folder from lines) ≡ true) more rest)
      by (File meta size sha) is rest =
          let content = Copied (record { folder = folder; path = prefixed_path from l.path }) size sha in
          let e = plan_entry_at (prefixed_path prefix l.path) content in
          let more : Made (done ++ l ∷ []) ≡ Made done ++ e ∷ [] = made_more done l ∙ ap (λ (x : TreeEntry). Made done ++ option_to_list (tree_entry prefix folder from (record { path = l.path; entry = x }))) is in
          and_both (may_follow_entries (Made done) e) (is_plan_after (Made done ++ e ∷ []) (tree_entries prefix folder from lines)) (line_follows done l lines f.0 apart content (copied_from done l lines f.0 apart)) (subst (λ (m : List PlanEntry). is_plan_after m (tree_entries prefix folder from lines) ≡ true) more rest)
      by (Link meta target) is rest =
          let more : Made (done ++ l ∷ []) ≡ Made done = made_more done l ∙ (ap (λ (x : TreeEntry). Made done ++ option_to_list (tree_entry prefix folder from (record { path = l.path; entry = x }))) is ∙ append-nil (Made done)) in
          subst (λ (m : List PlanEntry). is_plan_after m (tree_entries prefix folder from lines) ≡ true) more rest

  root_follows : may_follow_entries before Root ≡ true
  root_follows =
      and_both (is_path prefix) (is_new_path prefix (planned_entries before) && true) root.path
      (and_both (is_new_path prefix (planned_entries before)) true
      (and_both (nat_le (length prefix) 8192) (not (is_empty prefix) && (not (has_path_among prefix (planned_entries before)) && is_in_directory prefix (planned_entries before))) (within_alone (length prefix) root.short)
      (and_both (not (is_empty prefix)) (not (has_path_among prefix (planned_entries before)) && is_in_directory prefix (planned_entries before)) (ap not root.some)
      (and_both (not (has_path_among prefix (planned_entries before))) (is_in_directory prefix (planned_entries before)) (ap not (path_outline prefix before ∙ none_within prefix prefix before itself root.free)) root.parent)))
      refl)
    where
      itself : is_within prefix prefix ≡ true
      itself = rw ((bytes_eq-Decides prefix prefix).1 refl) refl

  whole : (lines : List ListingLine) → IsListing lines → is_plan_after before (Root ∷ tree_entries prefix folder from lines) ≡ true
  whole lines listing =
      and_both (may_follow_entries before Root) (is_plan_after (before ++ Root ∷ []) (tree_entries prefix folder from lines)) root_follows
      (subst (λ (m : List PlanEntry). is_plan_after m (tree_entries prefix folder from lines) ≡ true) (append-nil (before ++ Root ∷ [])) (carries [] lines listing.follow (rising_lines [] lines listing.follow) tt))

-- the plan of a listing's tree carries a plan on
pub carries_on : (prefix : List ℕ) (folder : Option (List ℕ)) (from : List ℕ) (lines : List ListingLine) → IsListing lines → CarriesOn prefix from (tree_entries prefix folder from lines)
carries_on prefix folder from lines listing before root = whole prefix folder from before root lines listing
