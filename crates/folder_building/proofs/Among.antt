-- The tree of a listing among other entries of a folder.
use Rattle.std.proofs.Common.{◌≡◌, ℕ, true, false, not, ◌||◌, List, [], ◌∷◌, ◌++◌, refl, sym, ap, subst, ◌∙◌, append_assoc}
use Rattle.std.specs.List.{list_any, AllByRecursion}
use Rattle.std.proofs.lemmas.Bool.{or_parts, or_from}
use Rattle.dir_model.specs.Paths.{is_empty, lies_below}
use Rattle.dir_model.proofs.Lists.{and_left, and_right, and_both}
use Rattle.dir_rules.specs.declared.seen.Entry.{Entry}
use Rattle.path_map.specs.Paths.{IsAbsPath}
use Rattle.tree_digest.specs.declared.line.ListingLine.{ListingLine}
use Rattle.tree_digest.specs.Listings.{IsListing, AllFollow}
use Rattle.folder_building.specs.declared.plan.PlanEntry.{PlanEntry}
use Rattle.folder_building.specs.Plans.{AreMade, is_entry_at}
use Rattle.folder_building.specs.Materialized.{prefixed_path, stands_at, is_named_by_lines, are_standing, are_named, materializes}
use Rattle.folder_building.proofs.Texts.{not_same}
use Rattle.folder_building.proofs.FilePaths.{begins_with, lies_there}
use Rattle.folder_building.proofs.Made.{stands_front, stands_back}

-- what a plan of two parts made is what the parts made
pub record MadeBoth (first second : List PlanEntry) (entries : List Entry) : Type 0 where
  pub front : List Entry
  pub back : List Entry
  pub is : entries ≡ front ++ back
  pub made : AreMade first front
  pub later : AreMade second back

pub made_both : (first second : List PlanEntry) (entries : List Entry) → AreMade (first ++ second) entries → MadeBoth first second entries
made_both [] second entries m = record { front = []; back = entries; is = refl; made = refl; later = m }
made_both (e ∷ first) second entries m =
    let r = made_both first second m.rest m.others in
    record {
      front = m.chunk ++ r.front;
      back = r.back;
      is = m.is ∙ (ap (λ es. m.chunk ++ es) r.is ∙ sym (append_assoc m.chunk r.front r.back));
      made = record { chunk = m.chunk; rest = r.front; is = refl; first = m.first; others = r.made };
      later = r.later;
    }

-- the paths of a listing are absolute
pub absolute : (done lines : List ListingLine) → AllFollow done lines → AllByRecursion (λ l. IsAbsPath l.path) lines
absolute done [] f = tt
absolute done (l ∷ lines) f = (f.0.line.path, absolute (done ++ l ∷ []) lines f.1)

module _ (prefix : List ℕ) (some : is_empty prefix ≡ false) where
  -- nothing lies below the prefix
  abbrev IsApart : List Entry → Type 0
  IsApart entries = list_any (λ e. lies_below e.path prefix) entries ≡ false

  none_apart : (path : List ℕ) → IsAbsPath path → (entries : List Entry) → IsApart entries → list_any (is_entry_at (prefixed_path prefix path)) entries ≡ false
  none_apart path abs [] apart = refl
  none_apart path abs (e ∷ es) apart =
      let a = or_parts (lies_below e.path prefix) (list_any (λ x. lies_below x.path prefix) es) apart in
      let b = begins_with path abs in
      let there : lies_below (prefixed_path prefix path) prefix ≡ true = subst (λ (x : List ℕ). lies_below (prefixed_path prefix x) prefix ≡ true) (sym b.1) (lies_there prefix b.0 some) in
      or_from (is_entry_at (prefixed_path prefix path) e) (list_any (is_entry_at (prefixed_path prefix path)) es) (not_same e.path (prefixed_path prefix path) (λ is. let clash : true ≡ false = sym there ∙ (ap (λ x. lies_below x prefix) (sym is) ∙ a.0) in absurd cc)) (none_apart path abs es a.1)

  standing_among : (lines : List ListingLine) (before entries after : List Entry) → AllByRecursion (λ l. IsAbsPath l.path) lines → IsApart before → IsApart after → are_standing prefix lines entries ≡ true → are_standing prefix lines ((before ++ entries) ++ after) ≡ true
  standing_among [] before entries after abs a b h = refl
  standing_among (l ∷ lines) before entries after abs a b h =
      let p = prefixed_path prefix l.path in
      and_both (stands_at l.entry p ((before ++ entries) ++ after)) (are_standing prefix lines ((before ++ entries) ++ after))
      (stands_front l.entry p (before ++ entries) after (none_apart l.path abs.0 after b) (stands_back l.entry p before entries (none_apart l.path abs.0 before a) (and_left (stands_at l.entry p entries) (are_standing prefix lines entries) h)))
      (standing_among lines before entries after abs.1 a b (and_right (stands_at l.entry p entries) (are_standing prefix lines entries) h))

  named_apart : (lines : List ListingLine) (entries : List Entry) → IsApart entries → are_named prefix lines entries ≡ true
  named_apart lines [] apart = refl
  named_apart lines (e ∷ es) apart =
      let a = or_parts (lies_below e.path prefix) (list_any (λ x. lies_below x.path prefix) es) apart in
      and_both (not (lies_below e.path prefix) || is_named_by_lines prefix lines e) (are_named prefix lines es) (rw a.0 refl) (named_apart lines es a.1)

  named_both : (lines : List ListingLine) (xs ys : List Entry) → are_named prefix lines xs ≡ true → are_named prefix lines ys ≡ true → are_named prefix lines (xs ++ ys) ≡ true
  named_both lines [] ys a b = b
  named_both lines (x ∷ xs) ys a b =
      and_both (not (lies_below x.path prefix) || is_named_by_lines prefix lines x) (are_named prefix lines (xs ++ ys)) (and_left (not (lies_below x.path prefix) || is_named_by_lines prefix lines x) (are_named prefix lines xs) a)
      (named_both lines xs ys (and_right (not (lies_below x.path prefix) || is_named_by_lines prefix lines x) (are_named prefix lines xs) a) b)

  -- a tree is one among entries of which none lies below the prefix
  pub tree_among : (lines : List ListingLine) (before entries after : List Entry) → IsListing lines → IsApart before → IsApart after → materializes prefix lines entries ≡ true → materializes prefix lines ((before ++ entries) ++ after) ≡ true
  tree_among lines before entries after listing a b h =
      and_both (are_standing prefix lines ((before ++ entries) ++ after)) (are_named prefix lines ((before ++ entries) ++ after))
      (standing_among lines before entries after (absolute [] lines listing.follow) a b (and_left (are_standing prefix lines entries) (are_named prefix lines entries) h))
      (named_both lines (before ++ entries) after (named_both lines before entries (named_apart lines before a) (and_right (are_standing prefix lines entries) (are_named prefix lines entries) h)) (named_apart lines after b))
