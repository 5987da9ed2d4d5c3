-- What a plan made, by the paths of its entries.
use Rattle.std.proofs.Common.{◌≡◌, ℕ, Bool, true, false, not, ◌&&◌, ◌||◌, bytes_eq, cond, List, [], ◌∷◌, ◌++◌, filter, refl, sym, ap, subst, ◌∙◌, append-nil}
use Rattle.std.specs.List.{list_any, list_all, flat_map, concat}
use Rattle.std.proofs.lemmas.Slice.Eq.{bytes_eq-Decides}
use Rattle.std.proofs.lemmas.List.Folds.{list_any-append}
use Rattle.plain_laws.proofs.Texts.{same_bytes}
use Rattle.dir_model.specs.Trees.{is_dir, bytes_of}
use Rattle.dir_model.proofs.Lists.{and_left, and_right, and_both, or_last}
use Rattle.dir_rules.specs.declared.seen.Entry.{Entry}
use Rattle.dir_rules.specs.Rules.{has_dir_among, has_file_among}
use Rattle.folder_building.specs.declared.plan.PlanEntry.{PlanEntry}
use Rattle.folder_building.specs.declared.plan.Content.{Content}
use Rattle.folder_building.specs.declared.plan.Content.TheVariants.{Directory, Given, Copied}
use Rattle.folder_building.specs.Plans.{is_entry_at, piece_at, pieces_at, file_in_pieces, directory_entry, IsMadeAs, AreMade, may_follow_entries, is_plan_after}
use Rattle.folder_building.specs.Materialized.{joined_file_pieces, has_bytes}
use Rattle.folder_building.specs.TreePlans.{plan_entry_at}
use Rattle.folder_building.proofs.Among.{made_both}
use Rattle.folder_building.specs.ImagePlans.{given_file}
use Rattle.folder_building.proofs.Made.{filter_both, pieces_bytes}

-- a plan after another
pub plan_both : (before xs ys : List PlanEntry) → is_plan_after before xs ≡ true → is_plan_after (before ++ xs) ys ≡ true → is_plan_after before (xs ++ ys) ≡ true
plan_both before [] ys a b = subst (λ (l : List PlanEntry). is_plan_after l ys ≡ true) (append-nil before) b
plan_both before (x ∷ xs) ys a b =
    and_both (may_follow_entries before x) (is_plan_after (before ++ x ∷ []) (xs ++ ys)) (and_left (may_follow_entries before x) (is_plan_after (before ++ x ∷ []) xs) a)
    (plan_both (before ++ x ∷ []) xs ys (and_right (may_follow_entries before x) (is_plan_after (before ++ x ∷ []) xs) a) (subst (λ (l : List PlanEntry). is_plan_after l ys ≡ true) (more before) b))
  where
    more : (l : List PlanEntry) → l ++ x ∷ xs ≡ (l ++ x ∷ []) ++ xs
    more [] = refl
    more (y ∷ l) = ap (λ r. y ∷ r) (more l)

-- each path passes a test
abbrev pub AllPaths : (List ℕ → Bool) → List Entry → Type 0
AllPaths t entries = list_all (λ e. t e.path) entries ≡ true

abbrev pub AllPlanned : (List ℕ → Bool) → List PlanEntry → Type 0
AllPlanned t plan = list_all (λ e. t e.path) plan ≡ true

pub all_more : (t : List ℕ → Bool) (xs ys : List Entry) → AllPaths t xs → AllPaths t ys → AllPaths t (xs ++ ys)
all_more t [] ys a b = b
all_more t (x ∷ xs) ys a b = and_both (t x.path) (list_all (λ e. t e.path) (xs ++ ys)) (and_left (t x.path) (list_all (λ e. t e.path) xs) a) (all_more t xs ys (and_right (t x.path) (list_all (λ e. t e.path) xs) a) b)

pieces_pass : (t : List ℕ → Bool) (path : List ℕ) (pieces : List (List ℕ)) → t path ≡ true → AllPaths t (pieces_at path pieces)
pieces_pass t path [] h = refl
pieces_pass t path (p ∷ ps) h = and_both (t path) (list_all (λ (e : Entry). t e.path) (pieces_at path ps)) h (pieces_pass t path ps h)

chunk_passes : (t : List ℕ → Bool) (path : List ℕ) (content : Content) (chunk : List Entry) → IsMadeAs path content chunk → t path ≡ true → AllPaths t chunk
chunk_passes t path Directory chunk m h = subst (AllPaths t) (sym m) (and_both (t path) true h refl)
chunk_passes t path (Given bytes) chunk m h = subst (AllPaths t) (sym m.is) (and_both (t path) (list_all (λ (e : Entry). t e.path) (pieces_at path m.pieces)) h (pieces_pass t path m.pieces h))
chunk_passes t path (Copied origin size sha) chunk m h = subst (AllPaths t) (sym m.is) (and_both (t path) (list_all (λ (e : Entry). t e.path) (pieces_at path m.pieces)) h (pieces_pass t path m.pieces h))

-- what was made stands at the plan's paths
pub made_passes : (t : List ℕ → Bool) (plan : List PlanEntry) (entries : List Entry) → AreMade plan entries → AllPlanned t plan → AllPaths t entries
made_passes t [] entries m h = subst (AllPaths t) (sym m) refl
made_passes t (e ∷ plan) entries m h =
    subst (AllPaths t) (sym m.is) (all_more t m.chunk m.rest (chunk_passes t e.path e.content m.chunk m.first (and_left (t e.path) (list_all (λ x. t x.path) plan) h)) (made_passes t plan m.rest m.others (and_right (t e.path) (list_all (λ x. t x.path) plan) h)))

-- where no path passes a test, none of the entries' does
pub none_passes : (t : List ℕ → Bool) (entries : List Entry) → AllPaths (λ p. not (t p)) entries → list_any (λ e. t e.path) entries ≡ false
none_passes t [] h = refl
none_passes t (e ∷ es) h = by (t e.path) (and_left (not (t e.path)) (list_all (λ x. not (t x.path)) es) h) (none_passes t es (and_right (not (t e.path)) (list_all (λ x. not (t x.path)) es) h))
  where
    by : (b : Bool) → not b ≡ true → list_any (λ x. t x.path) es ≡ false → (b || list_any (λ x. t x.path) es) ≡ false
    by true h rest = cc
    by false h rest = rest

-- the bytes of a file among entries of other paths
abbrev pub is_elsewhere : List ℕ → List ℕ → Bool
is_elsewhere path other = not (bytes_eq other path)

pub filter_none : (path : List ℕ) (entries : List Entry) → list_any (is_entry_at path) entries ≡ false → filter (is_entry_at path) entries ≡ []
filter_none path [] none = refl
filter_none path (e ∷ es) none = by (is_entry_at path e) none (filter_none path es)
  where
    by : (b : Bool) → (b || list_any (is_entry_at path) es) ≡ false → (list_any (is_entry_at path) es ≡ false → filter (is_entry_at path) es ≡ []) → cond b (e ∷ filter (is_entry_at path) es) (filter (is_entry_at path) es) ≡ []
    by true h rest = cc
    by false h rest = rest h

pub filter_own : (path : List ℕ) (pieces : List (List ℕ)) → filter (is_entry_at path) (pieces_at path pieces) ≡ pieces_at path pieces
filter_own path [] = refl
filter_own path (p ∷ ps) = rw (same_bytes path) (ap (λ rest. piece_at path p ∷ rest) (filter_own path ps))

pub bytes_own : (path : List ℕ) (pieces : List (List ℕ)) → joined_file_pieces path (file_in_pieces path pieces) ≡ concat pieces
bytes_own path pieces = rw (same_bytes path) (ap (flat_map (λ (e : Entry). bytes_of e.node)) (filter_own path pieces) ∙ pieces_bytes path pieces)

pub bytes_among : (path : List ℕ) (xs ys zs : List Entry) → list_any (is_entry_at path) xs ≡ false → list_any (is_entry_at path) zs ≡ false → joined_file_pieces path (xs ++ (ys ++ zs)) ≡ joined_file_pieces path ys
bytes_among path xs ys zs a b =
    ap (flat_map (λ (e : Entry). bytes_of e.node))
    (filter_both path xs (ys ++ zs) ∙ (ap (λ l. l ++ filter (is_entry_at path) (ys ++ zs)) (filter_none path xs a)
    ∙ (filter_both path ys zs ∙ (ap (λ l. filter (is_entry_at path) ys ++ l) (filter_none path zs b) ∙ append-nil (filter (is_entry_at path) ys)))))

pub there_among : (path : List ℕ) (xs zs : List Entry) (pieces : List (List ℕ)) → has_file_among path (xs ++ (file_in_pieces path pieces ++ zs)) ≡ true
there_among path xs zs pieces =
    list_any-append (λ e. not (is_dir e.node) && bytes_eq e.path path) xs (file_in_pieces path pieces ++ zs)
    ∙ or_last (has_file_among path xs) (has_file_among path (file_in_pieces path pieces ++ zs)) (rw (same_bytes path) refl)

-- a file with given bytes, where no other entry of the plan has its path
pub has_given : (before after : List PlanEntry) (path bytes : List ℕ) (entries : List Entry) → AllPlanned (is_elsewhere path) before → AllPlanned (is_elsewhere path) after → AreMade (before ++ given_file path bytes ∷ after) entries → has_bytes path bytes entries ≡ true
has_given before after path bytes entries a b made =
    let m = made_both before (given_file path bytes ∷ after) entries made in
    let f = m.later in
    let first = none_passes (λ p. bytes_eq p path) m.front (made_passes (is_elsewhere path) before m.front m.made a) in
    let last = none_passes (λ p. bytes_eq p path) f.rest (made_passes (is_elsewhere path) after f.rest f.others b) in
    let is : entries ≡ m.front ++ (file_in_pieces path f.first.pieces ++ f.rest) = m.is ∙ ap (λ l. m.front ++ l) (f.is ∙ ap (λ l. l ++ f.rest) f.first.is) in
    let same : joined_file_pieces path (m.front ++ (file_in_pieces path f.first.pieces ++ f.rest)) ≡ bytes = bytes_among path m.front (file_in_pieces path f.first.pieces) f.rest first last ∙ (bytes_own path f.first.pieces ∙ f.first.fits) in
    subst (λ (l : List Entry). has_bytes path bytes l ≡ true) (sym is)
    (and_both (has_file_among path (m.front ++ (file_in_pieces path f.first.pieces ++ f.rest))) (bytes_eq (joined_file_pieces path (m.front ++ (file_in_pieces path f.first.pieces ++ f.rest))) bytes)
    (there_among path m.front f.rest f.first.pieces) ((bytes_eq-Decides (joined_file_pieces path (m.front ++ (file_in_pieces path f.first.pieces ++ f.rest))) bytes).1 same))

-- a directory
pub has_directory : (before after : List PlanEntry) (path : List ℕ) (entries : List Entry) → AreMade (before ++ plan_entry_at path Directory ∷ after) entries → has_dir_among path entries ≡ true
has_directory before after path entries made =
    let m = made_both before (plan_entry_at path Directory ∷ after) entries made in
    let f = m.later in
    let is : entries ≡ m.front ++ (directory_entry path ∷ f.rest) = m.is ∙ ap (λ l. m.front ++ l) (f.is ∙ ap (λ l. l ++ f.rest) f.first) in
    subst (λ (l : List Entry). has_dir_among path l ≡ true) (sym is)
    (list_any-append (λ e. is_dir e.node && bytes_eq e.path path) m.front (directory_entry path ∷ f.rest) ∙ or_last (has_dir_among path m.front) (has_dir_among path (directory_entry path ∷ f.rest)) (rw (same_bytes path) refl))
