-- What was made by the plan of a listing's tree is that tree.
use Rattle.std.proofs.Common.{◌≡◌, ◌≢◌, ◌==◌, ℕ, Bool, true, false, not, ◌&&◌, ◌||◌, cond, bytes_eq, nat_cmp, Less, Option, List, [], ◌∷◌, ◌++◌, length, filter, refl, sym, ap, subst, ◌∙◌, append-nil}
use Rattle.std.specs.List.{list_any, flat_map, concat, AllByRecursion}
use Rattle.std.specs.List.Sorted.{IsStrictlySortedBy}
use Rattle.std.specs.Map.{keys_of}
use Rattle.std.specs.Cmp.Lexicographic.{slice_cmp}
use Rattle.std.proofs.lemmas.Map.Keys.{sorted_head, sorted_tail}
use Rattle.std.proofs.lemmas.Slice.Eq.{bytes_eq-Decides}
use Rattle.std.proofs.lemmas.List.Folds.{list_any-append}
use Rattle.std.proofs.lemmas.Grind.{flat_map-append}
use Rattle.plain_laws.proofs.Texts.{same_text, same_bytes}
use Rattle.sha2.specs.Sha512.{sha512}
use Rattle.dir_model.specs.Paths.{lies_below}
use Rattle.dir_model.specs.Trees.{is_dir, bytes_of}
use Rattle.dir_model.proofs.Lists.{and_left, and_right, and_both, or_last, same_self}
use Rattle.dir_rules.specs.declared.seen.Entry.{Entry}
use Rattle.dir_rules.specs.Rules.{has_file_among}
use Rattle.path_map.specs.declared.entry.Entry.{Entry as TreeEntry}
use Rattle.path_map.specs.declared.entry.Entry.TheVariants.{Dir, File, Link}
use Rattle.tree_digest.specs.declared.line.ListingLine.{ListingLine}
use Rattle.tree_digest.specs.Listings.{IsListing, entries_of}
use Rattle.tree_digest.proofs.MapLines.{rising_lines, differ_if_less}
use Rattle.folder_building.specs.Plans.{is_entry_at, pieces_at, file_in_pieces, directory_entry, AreMade}
use Rattle.folder_building.specs.Materialized.{prefixed_path, joined_file_pieces, has_file_of, stands_at, is_kind_of_line, is_named_by_lines, are_standing, are_named}
use Rattle.folder_building.specs.TreePlans.{tree_entries, MakesTree}
use Rattle.folder_building.proofs.Texts.{not_same, same_end}

-- what stands at one path, and what doesn't

abbrev AllOf : List ℕ → List Entry → Type 0
AllOf path entries = AllByRecursion (λ e. e.path ≡ path) entries

abbrev has_none : List ℕ → List Entry → Type 0
has_none path entries = list_any (is_entry_at path) entries ≡ false

none_of_other : (q path : List ℕ) (entries : List Entry) → AllOf q entries → q ≢ path → has_none path entries
none_of_other q path [] all other = refl
none_of_other q path (e ∷ es) all other = rw (not_same e.path path (λ is. other (sym all.0 ∙ is))) (none_of_other q path es all.1 other)

filter_none : (path : List ℕ) (entries : List Entry) → has_none path entries → filter (is_entry_at path) entries ≡ []
filter_none path [] none = refl
filter_none path (e ∷ es) none = by (is_entry_at path e) none (filter_none path es)
  where
    by : (b : Bool) → (b || list_any (is_entry_at path) es) ≡ false → (has_none path es → filter (is_entry_at path) es ≡ []) → cond b (e ∷ filter (is_entry_at path) es) (filter (is_entry_at path) es) ≡ []
    by true h rest = cc
    by false h rest = rest h

pub filter_both : (path : List ℕ) (xs ys : List Entry) → filter (is_entry_at path) (xs ++ ys) ≡ filter (is_entry_at path) xs ++ filter (is_entry_at path) ys
filter_both path [] ys = refl
filter_both path (x ∷ xs) ys = by (is_entry_at path x) (filter_both path xs ys)
  where
    by : (b : Bool) → filter (is_entry_at path) (xs ++ ys) ≡ filter (is_entry_at path) xs ++ filter (is_entry_at path) ys → cond b (x ∷ filter (is_entry_at path) (xs ++ ys)) (filter (is_entry_at path) (xs ++ ys)) ≡ cond b (x ∷ filter (is_entry_at path) xs) (filter (is_entry_at path) xs) ++ filter (is_entry_at path) ys
    by true rest = ap (λ es. x ∷ es) rest
    by false rest = rest

filter_own : (path : List ℕ) (entries : List Entry) → AllOf path entries → filter (is_entry_at path) entries ≡ entries
filter_own path [] all = refl
filter_own path (e ∷ es) all = rw ((bytes_eq-Decides e.path path).1 all.0) (ap (λ rest. e ∷ rest) (filter_own path es all.1))

bytes_both : (path : List ℕ) (xs ys : List Entry) → joined_file_pieces path (xs ++ ys) ≡ joined_file_pieces path xs ++ joined_file_pieces path ys
bytes_both path xs ys = ap (flat_map (λ e. bytes_of e.node)) (filter_both path xs ys) ∙ flat_map-append (λ e. bytes_of e.node) (filter (is_entry_at path) xs) (filter (is_entry_at path) ys)

bytes_none : (path : List ℕ) (xs : List Entry) → has_none path xs → joined_file_pieces path xs ≡ []
bytes_none path xs none = ap (flat_map (λ e. bytes_of e.node)) (filter_none path xs none)

bytes_front : (path : List ℕ) (xs ys : List Entry) → has_none path ys → joined_file_pieces path (xs ++ ys) ≡ joined_file_pieces path xs
bytes_front path xs ys none = bytes_both path xs ys ∙ (ap (λ bs. joined_file_pieces path xs ++ bs) (bytes_none path ys none) ∙ append-nil (joined_file_pieces path xs))

bytes_back : (path : List ℕ) (xs ys : List Entry) → has_none path xs → joined_file_pieces path (xs ++ ys) ≡ joined_file_pieces path ys
bytes_back path xs ys none = bytes_both path xs ys ∙ ap (λ bs. bs ++ joined_file_pieces path ys) (bytes_none path xs none)

any_front : (t : Entry → Bool) (xs ys : List Entry) → list_any t xs ≡ true → list_any t (xs ++ ys) ≡ true
any_front t xs ys h = list_any-append t xs ys ∙ rw h refl

any_back : (t : Entry → Bool) (xs ys : List Entry) → list_any t ys ≡ true → list_any t (xs ++ ys) ≡ true
any_back t xs ys h = list_any-append t xs ys ∙ or_last (list_any t xs) (list_any t ys) h

file_as : (path : List ℕ) (size : ℕ) (sha : List ℕ) (xs ys : List Entry) → has_file_among path ys ≡ true → joined_file_pieces path ys ≡ joined_file_pieces path xs → has_file_of path size sha xs ≡ true → has_file_of path size sha ys ≡ true
file_as path size sha xs ys there same h =
    and_both (has_file_among path ys) ((length (joined_file_pieces path ys) == size) && bytes_eq (sha512 (joined_file_pieces path ys)) sha) there
    (subst (λ (bs : List ℕ). ((length bs == size) && bytes_eq (sha512 bs) sha) ≡ true) (sym same) (and_right (has_file_among path xs) ((length (joined_file_pieces path xs) == size) && bytes_eq (sha512 (joined_file_pieces path xs)) sha) h))

-- what stands among more, of which nothing is at its path
pub stands_front : (entry : TreeEntry) (path : List ℕ) (xs ys : List Entry) → has_none path ys → stands_at entry path xs ≡ true → stands_at entry path (xs ++ ys) ≡ true
stands_front (Dir meta) path xs ys none h = any_front (λ e. is_dir e.node && bytes_eq e.path path) xs ys h
stands_front (File meta size sha) path xs ys none h = file_as path size sha xs (xs ++ ys) (any_front (λ e. not (is_dir e.node) && bytes_eq e.path path) xs ys (and_left (has_file_among path xs) ((length (joined_file_pieces path xs) == size) && bytes_eq (sha512 (joined_file_pieces path xs)) sha) h)) (bytes_front path xs ys none) h
stands_front (Link meta target) path xs ys none h = refl

pub stands_back : (entry : TreeEntry) (path : List ℕ) (xs ys : List Entry) → has_none path xs → stands_at entry path ys ≡ true → stands_at entry path (xs ++ ys) ≡ true
stands_back (Dir meta) path xs ys none h = any_back (λ e. is_dir e.node && bytes_eq e.path path) xs ys h
stands_back (File meta size sha) path xs ys none h = file_as path size sha ys (xs ++ ys) (any_back (λ e. not (is_dir e.node) && bytes_eq e.path path) xs ys (and_left (has_file_among path ys) ((length (joined_file_pieces path ys) == size) && bytes_eq (sha512 (joined_file_pieces path ys)) sha) h)) (bytes_back path xs ys none) h
stands_back (Link meta target) path xs ys none h = refl

-- what one entry of the plan made
pieces_of : (path : List ℕ) (pieces : List (List ℕ)) → AllOf path (pieces_at path pieces)
pieces_of path [] = tt
pieces_of path (p ∷ ps) = (refl, pieces_of path ps)

pub pieces_bytes : (path : List ℕ) (pieces : List (List ℕ)) → flat_map (λ (e : Entry). bytes_of e.node) (pieces_at path pieces) ≡ concat pieces
pieces_bytes path [] = refl
pieces_bytes path (p ∷ ps) = ap (λ bs. p ++ bs) (pieces_bytes path ps)

pieces_kind : (path : List ℕ) (pieces : List (List ℕ)) → AllByRecursion (λ (e : Entry). not (is_dir e.node) ≡ true) (pieces_at path pieces)
pieces_kind path [] = tt
pieces_kind path (p ∷ ps) = (refl, pieces_kind path ps)

record IsChunk (entry : TreeEntry) (path : List ℕ) (chunk : List Entry) : Type 0 where
  at : AllOf path chunk
  stands : stands_at entry path chunk ≡ true
  kind : AllByRecursion (λ e. is_kind_of_line entry e.node ≡ true) chunk

directory_chunk : (meta : _) (path : List ℕ) (chunk : List Entry) → chunk ≡ directory_entry path ∷ [] → IsChunk (Dir meta) path chunk
directory_chunk meta path chunk is = subst (IsChunk (Dir meta) path) (sym is) (record { at = (refl, tt); stands = rw (same_bytes path) refl; kind = (refl, tt) })

file_chunk : (meta : _) (size : ℕ) (sha path : List ℕ) (chunk : List Entry) (pieces : List (List ℕ)) → chunk ≡ file_in_pieces path pieces → length (concat pieces) ≡ size → sha512 (concat pieces) ≡ sha → IsChunk (File meta size sha) path chunk
file_chunk meta size sha path chunk pieces is sized hashed = subst (IsChunk (File meta size sha) path) (sym is) (record {
  at = all;
  stands = and_both (has_file_among path (file_in_pieces path pieces)) ((length (joined_file_pieces path (file_in_pieces path pieces)) == size) && bytes_eq (sha512 (joined_file_pieces path (file_in_pieces path pieces))) sha) (rw (same_bytes path) refl) (subst (λ (bs : List ℕ). ((length bs == size) && bytes_eq (sha512 bs) sha) ≡ true) (sym bytes) fits);
  kind = (refl, pieces_kind path pieces);
})
  where
    all : AllOf path (file_in_pieces path pieces)
    all = (refl, pieces_of path pieces)

    bytes : joined_file_pieces path (file_in_pieces path pieces) ≡ concat pieces
    bytes = ap (flat_map (λ (e : Entry). bytes_of e.node)) (filter_own path (file_in_pieces path pieces) all) ∙ pieces_bytes path pieces

    fits : ((length (concat pieces) == size) && bytes_eq (sha512 (concat pieces)) sha) ≡ true
    fits = and_both (length (concat pieces) == size) (bytes_eq (sha512 (concat pieces)) sha) (rw sized (same_self size)) ((bytes_eq-Decides (sha512 (concat pieces)) sha).1 hashed)

module _ (prefix : List ℕ) (folder : Option (List ℕ)) (from : List ℕ) where
  abbrev AllNamed : List ListingLine → List Entry → Type 0
  AllNamed lines entries = AllByRecursion (λ e. is_named_by_lines prefix lines e ≡ true) entries

  -- the lines stand there, and nothing else does
  record AreThere (lines : List ListingLine) (entries : List Entry) : Type 0 where
    standing : are_standing prefix lines entries ≡ true
    named : AllNamed lines entries

  -- at a path that none of the lines has, nothing stands
  none_named : (path : List ℕ) (lines : List ListingLine) (e : Entry) → AllByRecursion (λ k. slice_cmp nat_cmp path k ≡ Less) (keys_of (entries_of lines)) → is_named_by_lines prefix lines e ≡ true → is_entry_at (prefixed_path prefix path) e ≡ true → ⊥
  none_named path [] e later named at = cc
  none_named path (l ∷ lines) e later named at = by (is_kind_of_line l.entry e.node) (bytes_eq e.path (prefixed_path prefix l.path)) refl (λ h. none_named path lines e later.1 h at) named
    where
      by : (a b : Bool) → bytes_eq e.path (prefixed_path prefix l.path) ≡ b → (is_named_by_lines prefix lines e ≡ true → ⊥) → ((a && b) || is_named_by_lines prefix lines e) ≡ true → ⊥
      by true true is rest h = differ_if_less path l.path later.0 (same_end prefix path l.path (sym (same_text e.path (prefixed_path prefix path) at) ∙ same_text e.path (prefixed_path prefix l.path) is))
      by true false is rest h = rest h
      by false b is rest h = rest h

  none_later : (path : List ℕ) (lines : List ListingLine) (entries : List Entry) → AllByRecursion (λ k. slice_cmp nat_cmp path k ≡ Less) (keys_of (entries_of lines)) → AllNamed lines entries → has_none (prefixed_path prefix path) entries
  none_later path lines [] later named = refl
  none_later path lines (e ∷ es) later named = by (is_entry_at (prefixed_path prefix path) e) refl (none_later path lines es later named.1)
    where
      by : (b : Bool) → is_entry_at (prefixed_path prefix path) e ≡ b → has_none (prefixed_path prefix path) es → (b || list_any (is_entry_at (prefixed_path prefix path)) es) ≡ false
      by true is rest = absurd (none_named path lines e later named.0 is)
      by false is rest = rest

  -- a line that made nothing
  more_named : (l : ListingLine) (lines : List ListingLine) (entries : List Entry) → AllNamed lines entries → AllNamed (l ∷ lines) entries
  more_named l lines [] named = tt
  more_named l lines (e ∷ es) named = (or_last (is_kind_of_line l.entry e.node && bytes_eq e.path (prefixed_path prefix l.path)) (is_named_by_lines prefix lines e) named.0, more_named l lines es named.1)

  own_named : (l : ListingLine) (lines : List ListingLine) (chunk : List Entry) → AllOf (prefixed_path prefix l.path) chunk → AllByRecursion (λ e. is_kind_of_line l.entry e.node ≡ true) chunk → AllNamed (l ∷ lines) chunk
  own_named l lines [] at kind = tt
  own_named l lines (e ∷ es) at kind = (rw (and_both (is_kind_of_line l.entry e.node) (bytes_eq e.path (prefixed_path prefix l.path)) kind.0 ((bytes_eq-Decides e.path (prefixed_path prefix l.path)).1 at.0)) refl, own_named l lines es at.1 kind.1)

  both_named : (lines : List ListingLine) (xs ys : List Entry) → AllNamed lines xs → AllNamed lines ys → AllNamed lines (xs ++ ys)
  both_named lines [] ys a b = b
  both_named lines (x ∷ xs) ys a b = (a.0, both_named lines xs ys a.1 b)

  -- lines of other paths stand among what one line made
  still_standing : (path : List ℕ) (lines : List ListingLine) (chunk rest : List Entry) → AllOf (prefixed_path prefix path) chunk → AllByRecursion (λ k. slice_cmp nat_cmp path k ≡ Less) (keys_of (entries_of lines)) → are_standing prefix lines rest ≡ true → are_standing prefix lines (chunk ++ rest) ≡ true
  still_standing path [] chunk rest at later h = refl
  still_standing path (l ∷ lines) chunk rest at later h =
      and_both (stands_at l.entry (prefixed_path prefix l.path) (chunk ++ rest)) (are_standing prefix lines (chunk ++ rest))
      (stands_back l.entry (prefixed_path prefix l.path) chunk rest (none_of_other (prefixed_path prefix path) (prefixed_path prefix l.path) chunk at (λ is. differ_if_less path l.path later.0 (same_end prefix path l.path is))) (and_left (stands_at l.entry (prefixed_path prefix l.path) rest) (are_standing prefix lines rest) h))
      (still_standing path lines chunk rest at later.1 (and_right (stands_at l.entry (prefixed_path prefix l.path) rest) (are_standing prefix lines rest) h))

  with_chunk : (l : ListingLine) (lines : List ListingLine) (chunk rest : List Entry) → IsChunk l.entry (prefixed_path prefix l.path) chunk → AllByRecursion (λ k. slice_cmp nat_cmp l.path k ≡ Less) (keys_of (entries_of lines)) → AreThere lines rest → AreThere (l ∷ lines) (chunk ++ rest)
  with_chunk l lines chunk rest c later t = record {
    standing = and_both (stands_at l.entry (prefixed_path prefix l.path) (chunk ++ rest)) (are_standing prefix lines (chunk ++ rest)) (stands_front l.entry (prefixed_path prefix l.path) chunk rest (none_later l.path lines rest later t.named) c.stands) (still_standing l.path lines chunk rest c.at later t.standing);
    named = both_named (l ∷ lines) chunk rest (own_named l lines chunk c.at c.kind) (more_named l lines rest t.named);
  }

  are_there : (lines : List ListingLine) (entries : List Entry) → IsStrictlySortedBy (slice_cmp nat_cmp) (keys_of (entries_of lines)) → AreMade (tree_entries prefix folder from lines) entries → AreThere lines entries
  are_there [] entries sorted made = subst (AreThere []) (sym made) (record { standing = refl; named = tt })
  are_there (l ∷ lines) entries sorted made = by (λ rest m. are_there lines rest (sorted_tail (slice_cmp nat_cmp) l.path (keys_of (entries_of lines)) sorted) m) l.entry made
    where
      later : AllByRecursion (λ k. slice_cmp nat_cmp l.path k ≡ Less) (keys_of (entries_of lines))
      later = sorted_head (slice_cmp nat_cmp) l.path (keys_of (entries_of lines)) sorted

      by : ((rest : List Entry) → AreMade (tree_entries prefix folder from lines) rest → AreThere lines rest) → (entry : TreeEntry) → AreMade (tree_entries prefix folder from (record { path = l.path; entry = entry } ∷ lines)) entries → AreThere (record { path = l.path; entry = entry } ∷ lines) entries
      by others (Dir meta) m = subst (AreThere (record { path = l.path; entry = Dir meta } ∷ lines)) (sym m.is) (with_chunk (record { path = l.path; entry = Dir meta }) lines m.chunk m.rest (directory_chunk meta (prefixed_path prefix l.path) m.chunk m.first) later (others m.rest m.others))
      by others (File meta size sha) m = subst (AreThere (record { path = l.path; entry = File meta size sha } ∷ lines)) (sym m.is) (with_chunk (record { path = l.path; entry = File meta size sha }) lines m.chunk m.rest (file_chunk meta size sha (prefixed_path prefix l.path) m.chunk m.first.pieces m.first.is m.first.fits.0 m.first.fits.1) later (others m.rest m.others))
      by others (Link meta target) m = let t = others entries m in record { standing = t.standing; named = more_named (record { path = l.path; entry = Link meta target }) lines entries t.named }

  all_allowed : (lines : List ListingLine) (entries : List Entry) → AllNamed lines entries → are_named prefix lines entries ≡ true
  all_allowed lines [] named = refl
  all_allowed lines (e ∷ es) named = and_both (not (lies_below e.path prefix) || is_named_by_lines prefix lines e) (are_named prefix lines es) (or_last (not (lies_below e.path prefix)) (is_named_by_lines prefix lines e) named.0) (all_allowed lines es named.1)

  -- what was made by the plan of a listing's tree is that tree
  pub makes_tree : (lines : List ListingLine) → IsListing lines → MakesTree prefix lines (tree_entries prefix folder from lines)
  makes_tree lines listing entries made =
      let t = are_there lines entries (rising_lines [] lines listing.follow) made in
      and_both (are_standing prefix lines entries) (are_named prefix lines entries) t.standing (all_allowed lines entries t.named)
