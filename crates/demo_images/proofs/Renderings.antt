-- The rendering of a demo image holds the common file and the own file of each image on its way, and nothing else.
use Rattle.std.proofs.Common.{◌≡◌, ◌≢◌, ⊎_elim, ℕ, zero, suc, ◌+◌, ◌/◌, ◌^◌, ◌<◌, ◌≤◌, Bool, true, false, not, ◌&&◌, ◌||◌, ◌==◌, Option, Some, None, is_some, List, [], ◌∷◌, length, map, get_or, drop, refl, sym, ap, subst, ◌∙◌, arith}
use Rattle.std.proofs.lemmas.Bool.{both_ways}
use Rattle.std.proofs.lemmas.Cmp.{nat_list_cmp_total, eq_by_cmp_equiv}
use Rattle.std.proofs.lemmas.List.{get_or-map, get_or-drop, length-map}
use Rattle.std.proofs.lemmas.Map.Keys.{IsDistinct-from_sorted, IsDistinct-cons}
use Rattle.std.proofs.lemmas.Map.Made.{is_some-lookup, length-from_same_keys, IsDistinct-from_count}
use Rattle.std.specs.List.{list_any, AllZip, AllByRecursion, IsDistinct}
use Rattle.std.specs.Cmp.Lexicographic.{slice_cmp}
use Rattle.std.specs.Map.{keys_of}
use Rattle.std.specs.Ordering.{nat_cmp, eq_by_cmp}
use Rattle.std.specs.Set.{is_member}
use Rattle.path_map.specs.declared.entry.Entry.{Entry}
use Rattle.path_map.specs.declared.listed.Listed.{Listed}
use Rattle.path_map.specs.Paths.{lies_below}
use Rattle.path_map.specs.Entries.{Entries, Tree, entry_at, is_directory, IsPathMap}
use Rattle.path_map.specs.Whitelist.{whitelisted}
use Rattle.path_map.proofs.Below.{below_rest}
use Rattle.dep_match.specs.declared.dep_tree.DepNode.{DepNode}
use Rattle.dep_match.specs.declared.stored.Stored.{Stored}
use Rattle.dep_match.specs.TreeOrder.{node_at}
use Rattle.render.specs.Assembly.{empty_tree, laid, layered, IsLayered, IsAssembly, IsRendering, own_entries, own_whitelist, whitelist_of}
use Rattle.render.proofs.LaidOver.{is_hidden, upper_or, laid_is_over, laid_itself}
use Rattle.render.proofs.Laying.{test_here, test_at_key}
use Rattle.render.proofs.PathOrder.{one_or_two}
use Rattle.std.proofs.lemmas.List.Folds.{list_any-append}
use Rattle.plain_laws.proofs.Booleans.{or_none}
use Rattle.demo_images.specs.DemoImages.{common_path, own_path, AreDemoImages, IsDemoTree, AreDemoTrees}
use Rattle.demo_line.specs.Ways.{way_within, dependency_way, rendering_size}
use Rattle.demo_images.specs.DemoTrees.{nodes_within, nodes_of, paths_of}
use Rattle.demo_images.proofs.Names.{one_path, not_common, own_flat}
use Rattle.demo_line.proofs.WayLaws.{way_falls}

-- two paths are the same
abbrev same_path : List ℕ → List ℕ → Bool
same_path p q = eq_by_cmp (slice_cmp nat_cmp) p q

-- a path with one segment
abbrev has_slash_inside : List ℕ → Bool
has_slash_inside q = list_any (λ b. b == 47) (drop 1 q)

same_path_is : (p q : List ℕ) → p ≡ q → same_path q p ≡ true
same_path_is p q same = test_here p q same

other_path : (p q : List ℕ) → p ≢ q → same_path q p ≡ false
other_path p q other = test_at_key p q other

is_same : (p q : List ℕ) → same_path q p ≡ true → p ≡ q
is_same p q on = ⊎_elim (λ same. same) (λ other. absurd (both_ways (same_path q p) (other_path p q other) on)) (one_or_two p q)

-- a path that one of two files stands at has one segment, and one below such a file has more
Flat : List ℕ → Type 0
Flat q = has_slash_inside q ≡ false

abbrev below_has_slash : List ℕ → Type 0
below_has_slash p = (q : List ℕ) → lies_below q p ≡ true → has_slash_inside q ≡ true

slash_after : (c : ℕ) (p q : List ℕ) → lies_below q (c ∷ p) ≡ true → has_slash_inside q ≡ true
slash_after c p q below =
    let rest = below_rest q (c ∷ p) below in
    ap has_slash_inside rest.1 ∙ (list_any-append (λ b. b == 47) p (47 ∷ rest.0) ∙ or_true (list_any (λ b. b == 47) p))
  where
    or_true : (b : Bool) → (b || true) ≡ true
    or_true true = refl
    or_true false = refl

-- one of the paths is this one
abbrev is_path : List (List ℕ) → List ℕ → Bool
is_path paths q = is_member same_path paths q

-- what the paths of a way say of each path
all_flat : (images : List ℕ) → AllByRecursion (λ j. j < 2 ^ 64) images → (q : List ℕ) → is_path (map own_path images) q ≡ true → has_slash_inside q ≡ false
all_flat [] small q on = let clash : false ≡ true = on in cc
all_flat (j ∷ images) small q on = by (same_path q (own_path j)) refl (all_flat images small.1 q)
  where
    by : (b : Bool) → same_path q (own_path j) ≡ b → (is_path (map own_path images) q ≡ true → has_slash_inside q ≡ false) → has_slash_inside q ≡ false
    by true is more = ap has_slash_inside (sym (is_same (own_path j) q is)) ∙ own_flat j small.0
    by false is more = more (sym (ap (λ b. b || is_path (map own_path images) q) is) ∙ on)

paths_flat : (images : List ℕ) → AllByRecursion (λ j. j < 2 ^ 64) images → (q : List ℕ) → is_path (paths_of images) q ≡ true → has_slash_inside q ≡ false
paths_flat images small q on = by (same_path q common_path) refl
  where
    by : (b : Bool) → same_path q common_path ≡ b → has_slash_inside q ≡ false
    by true is = ap has_slash_inside (sym (is_same common_path q is))
    by false is = all_flat images small q (sym (ap (λ b. b || is_path (map own_path images) q) is) ∙ on)

-- what a map shows: something stands exactly at these paths
pub record Shows (images : List ℕ) (whole : Entries) : Type 0 where
  pub kind : IsPathMap whole
  pub paths : (q : List ℕ) → is_some (entry_at whole q) ≡ is_path (paths_of images) q

-- an image's own files over a tree in which files stand at these paths
some_of : (o : Option Entry) (h : Bool) (x : Option Entry) → is_some (upper_or o h x) ≡ (is_some o || (not h && is_some x))
some_of (Some e) h x = refl
some_of None true x = refl
some_of None false x = refl

keys_shown : (i : ℕ) (own : Entries) → (t : IsDemoTree i own) → (q : List ℕ) → is_some (entry_at own q) ≡ is_path (common_path ∷ own_path i ∷ []) q
keys_shown i own t q = ap (λ (es : Entries). is_some (entry_at es q)) t.are ∙ is_some-lookup (λ k. same_path q k) ((common_path, t.common) ∷ (own_path i, t.own) ∷ [])

-- what lies below one of the two files has a slash inside
hidden_slash : (i : ℕ) (own : Entries) → IsDemoTree i own → (q : List ℕ) → is_hidden own q ≡ true → has_slash_inside q ≡ true
hidden_slash i own t q on = by (lies_below q common_path) refl (lies_below q (own_path i)) refl
  where
    is : (lies_below q common_path || (lies_below q (own_path i) || false)) ≡ true
    is = sym (ap (λ (es : Entries). is_hidden es q) t.are ∙ ap (λ b. (not b && lies_below q common_path) || ((not (is_directory t.own) && lies_below q (own_path i)) || false)) t.files
        ∙ ap (λ b. lies_below q common_path || ((not b && lies_below q (own_path i)) || false)) t.file) ∙ on

    by : (a : Bool) → lies_below q common_path ≡ a → (b : Bool) → lies_below q (own_path i) ≡ b → has_slash_inside q ≡ true
    by true below b other = slash_after 47 (drop 1 common_path) q below
    by false none true below = slash_after 47 (drop 1 (own_path i)) q below
    by false none false also = let clash : true ≡ false = sym is ∙ (ap (λ a. a || (lies_below q (own_path i) || false)) none ∙ ap (λ b. b || false) also) in cc

laid_shows : (i : ℕ) (own : Entries) (t : IsDemoTree i own) (tree : Tree) (below : List (List ℕ)) → ((q : List ℕ) → is_some (tree q) ≡ is_path below q) → ((q : List ℕ) → is_path below q ≡ true → has_slash_inside q ≡ false) →
    (q : List ℕ) → is_some (laid tree own q) ≡ (is_path (common_path ∷ own_path i ∷ []) q || is_path below q)
laid_shows i own t tree below shown flat q =
    ap is_some (laid_is_over tree own t.kind t.kind.parents q)
    ∙ (some_of (entry_at own q) (is_hidden own q) (tree q)
    ∙ (ap (λ b. b || (not (is_hidden own q) && is_some (tree q))) (keys_shown i own t q)
    ∙ ap (λ b. is_path (common_path ∷ own_path i ∷ []) q || b) (by (is_hidden own q) refl (is_path below q) refl)))
  where
    by : (h : Bool) → is_hidden own q ≡ h → (b : Bool) → is_path below q ≡ b → (not (is_hidden own q) && is_some (tree q)) ≡ is_path below q
    by false is b at = ap (λ h. not h && is_some (tree q)) is ∙ shown q
    by true is false at = ap (λ h. not h && is_some (tree q)) is ∙ sym at
    by true is true at = let clash : true ≡ false = sym (hidden_slash i own t q is) ∙ flat q at in cc

together : (a b m : Bool) → ((a || (b || false)) || (a || m)) ≡ (a || (b || m))
together true b m = refl
together false true m = refl
together false false m = refl

-- the rest of a list behind a place
next_drop : {A : Type 0} (k : ℕ) (xs : List A) (x : A) (rest : List A) → drop k xs ≡ x ∷ rest → drop (suc k) xs ≡ rest
next_drop zero xs x rest is = ap (drop 1) is
next_drop (suc k) [] x rest is = cc
next_drop (suc k) (y ∷ ys) x rest is = next_drop k ys x rest is

node_is : (nodes : List DepNode) (k : ℕ) (x : DepNode) (rest : List DepNode) → drop k nodes ≡ x ∷ rest → node_at nodes k ≡ x
node_is nodes k x rest is =
    let d : DepNode = record { image = 0; children = [] } in
    let same : k + 0 ≡ k = omega arith in
    ap (λ m. get_or nodes m d) (sym same) ∙ (sym (get_or-drop k nodes 0 d) ∙ ap (λ (l : List DepNode). get_or l 0 d) is)

small_way : (fuel i n : ℕ) → i < n → n ≤ 2 ^ 31 → AllByRecursion (λ j. j < 2 ^ 64) (way_within fuel i)
small_way fuel i n h bound = way_falls fuel i (2 ^ 64) (omega arith)

module _ (n : ℕ) (bound : n ≤ 2 ^ 31) (images : List Stored) (maps : List Entries) (demo : AreDemoImages n images) (trees : AreDemoTrees n maps) (nodes : List DepNode) where
  -- a node's image keeps everything, and has its two files
  no_whitelist : (k i : ℕ) → (node_at nodes k).image ≡ i → i < n → own_whitelist nodes images k ≡ []
  no_whitelist k i is h =
      let d = first_of_them i h in
      ap (whitelist_of images) is ∙ (get_or-map (λ (s : Stored). s.manifest.path_whitelist) images i d [] (let c = demo.count in omega arith) ∙ (demo.each i h d).whitelist)
    where
      first_of_them : (i : ℕ) → i < n → Stored
      first_of_them i h = by images demo.count
        where
          by : (xs : List Stored) → length xs ≡ n → Stored
          by [] c = absurd (omega arith)
          by (x ∷ xs) c = x

  own_tree : (k i : ℕ) → (node_at nodes k).image ≡ i → i < n → IsDemoTree i (own_entries nodes maps k)
  own_tree k i is h = subst (λ (j : ℕ). IsDemoTree i (get_or maps j [])) (sym is) (trees.each i h)

  -- a node over what is layered below it
  layer_shows : (k i : ℕ) (below : List Entries) (whole : Entries) (under : List (List ℕ)) → (node_at nodes k).image ≡ i → i < n →
      IsLayered (own_whitelist nodes images k) (own_entries nodes maps k) below whole →
      ((q : List ℕ) → is_some (layered empty_tree below q) ≡ is_path under q) → ((q : List ℕ) → is_path under q ≡ true → has_slash_inside q ≡ false) →
      (q : List ℕ) → is_some (entry_at whole q) ≡ (is_path (common_path ∷ own_path i ∷ []) q || is_path under q)
  layer_shows k i below whole under is h layer shown flat q =
      ap is_some (layer.entries q ∙ ap (λ (w : List Listed). whitelisted w (laid (layered empty_tree below) (own_entries nodes maps k)) q) (no_whitelist k i is h))
      ∙ laid_shows i (own_entries nodes maps k) (own_tree k i is h) (layered empty_tree below) under shown flat q

  leaf : (levels k i : ℕ) (whole : Entries) → node_at nodes k ≡ record { image = i; children = [] } → i < n →
      IsAssembly nodes (own_whitelist nodes images) (own_entries nodes maps) (suc levels) k whole → Shows (i ∷ []) whole
  leaf levels k i whole node h a = by a.0 (subst (λ (c : List ℕ). AllZip (λ child part. IsAssembly nodes (own_whitelist nodes images) (own_entries nodes maps) levels child part) c a.0) (ap (λ (x : DepNode). x.children) node) a.1) a.2
    where
      by : (below : List Entries) → AllZip (λ (child : ℕ) (part : Entries). IsAssembly nodes (own_whitelist nodes images) (own_entries nodes maps) levels child part) [] below →
          IsLayered (own_whitelist nodes images k) (own_entries nodes maps k) below whole → Shows (i ∷ []) whole
      by (part ∷ more) none layer = absurd none
      by [] none layer = record {
        kind = layer.kind;
        paths = λ q. layer_shows k i [] whole [] (ap (λ (x : DepNode). x.image) node) h layer (λ p. refl) (λ p on. let clash : false ≡ true = on in cc) q ∙ or_none (is_path (common_path ∷ own_path i ∷ []) q);
      }

  step : (levels k i : ℕ) (images_below : List ℕ) (whole : Entries) → node_at nodes k ≡ record { image = i; children = (k + 1) ∷ [] } → i < n → AllByRecursion (λ j. j < 2 ^ 64) images_below →
      ((part : Entries) → IsAssembly nodes (own_whitelist nodes images) (own_entries nodes maps) levels (k + 1) part → Shows images_below part) →
      IsAssembly nodes (own_whitelist nodes images) (own_entries nodes maps) (suc levels) k whole → Shows (i ∷ images_below) whole
  step levels k i images_below whole node h small shown a = by a.0 (subst (λ (c : List ℕ). AllZip (λ child part. IsAssembly nodes (own_whitelist nodes images) (own_entries nodes maps) levels child part) c a.0) (ap (λ (x : DepNode). x.children) node) a.1) a.2
    where
      by : (below : List Entries) → AllZip (λ (child : ℕ) (part : Entries). IsAssembly nodes (own_whitelist nodes images) (own_entries nodes maps) levels child part) ((k + 1) ∷ []) below →
          IsLayered (own_whitelist nodes images k) (own_entries nodes maps k) below whole → Shows (i ∷ images_below) whole
      by [] none layer = absurd none
      by (part ∷ x ∷ more) two layer = absurd two.1
      by (part ∷ []) one layer =
          let under = shown part one.0 in
          record {
            kind = layer.kind;
            paths = λ q. layer_shows k i (part ∷ []) whole (paths_of images_below) (ap (λ (x : DepNode). x.image) node) h layer
                (λ p. ap is_some (laid_itself part under.kind under.kind.parents p) ∙ under.paths p) (paths_flat images_below small) q
                ∙ together (same_path q common_path) (same_path q (own_path i)) (is_path (map own_path images_below) q);
          }

  assembled : (fuel levels k i : ℕ) (whole : Entries) → i < n → drop k nodes ≡ nodes_within fuel k i →
      IsAssembly nodes (own_whitelist nodes images) (own_entries nodes maps) levels k whole → Shows (way_within fuel i) whole
  assembled fuel zero k i whole h at a = absurd a
  assembled zero (suc levels) k i whole h at a = leaf levels k i whole (node_is nodes k _ [] at) h a
  assembled (suc fuel) (suc levels) k zero whole h at a = leaf levels k zero whole (node_is nodes k _ [] at) h a
  assembled (suc fuel) (suc levels) k (suc i) whole h at a =
      let half : i / 2 < n = omega arith in
      let one : suc k ≡ k + 1 = omega arith in
      let next : drop (k + 1) nodes ≡ nodes_within fuel (k + 1) (i / 2) = ap (λ m. drop m nodes) (sym one) ∙ next_drop k nodes _ (nodes_within fuel (k + 1) (i / 2)) at in
      step levels k (suc i) (way_within fuel (i / 2)) whole (node_is nodes k _ (nodes_within fuel (k + 1) (i / 2)) at) h (small_way fuel (i / 2) n half bound)
      (λ part b. assembled fuel levels (k + 1) (i / 2) part half next b) a

-- no two files of a way stand at one path
others_apart : (i : ℕ) → i < 2 ^ 64 → (images : List ℕ) → AllByRecursion (λ j. j < i) images → AllByRecursion (λ p. same_path (own_path i) p ≡ false) (map own_path images)
others_apart i h [] below = tt
others_apart i h (j ∷ images) below = (other_path (own_path j) (own_path i) (λ same. let one : j ≡ i = one_path j i (let b = below.0 in omega arith) h same in let b = below.0 in absurd (omega arith)), others_apart i h images below.1)

none_distinct : IsDistinct same_path []
none_distinct = IsDistinct-from_count (eq_by_cmp_equiv nat_list_cmp_total) [] refl

own_distinct : (fuel i : ℕ) → i < 2 ^ 64 → IsDistinct same_path (map own_path (way_within fuel i))
own_distinct zero i h = IsDistinct-cons same_path (own_path i) [] tt none_distinct
own_distinct (suc fuel) zero h = IsDistinct-cons same_path (own_path zero) [] tt none_distinct
own_distinct (suc fuel) (suc i) h =
    IsDistinct-cons same_path (own_path (suc i)) (map own_path (way_within fuel (i / 2))) (others_apart (suc i) h (way_within fuel (i / 2)) (way_falls fuel (i / 2) (suc i) (omega arith))) (own_distinct fuel (i / 2) (omega arith))

common_apart : (images : List ℕ) → AllByRecursion (λ p. same_path common_path p ≡ false) (map own_path images)
common_apart [] = tt
common_apart (j ∷ images) = (other_path (own_path j) common_path (not_common j), common_apart images)

-- so the rendering of a demo image has one entry for each image on its way, and one more
pub rendering_counts : (n : ℕ) (images : List Stored) (maps : List Entries) (i : ℕ) (whole : Entries) → n ≤ 2 ^ 31 → AreDemoImages n images → AreDemoTrees n maps → i < n →
    IsRendering (nodes_of i) images maps whole → length whole ≡ rendering_size i
rendering_counts n images maps i whole bound demo trees h rendering =
    let shows = assembled n bound images maps demo trees (nodes_of i) i (length (nodes_of i)) 0 i whole h refl rendering in
    let keys = length-from_same_keys (eq_by_cmp_equiv nat_list_cmp_total) (keys_of whole) (paths_of (dependency_way i)) (IsDistinct-from_sorted (slice_cmp nat_cmp) (keys_of whole) shows.kind.rising)
    (IsDistinct-cons same_path common_path (map own_path (dependency_way i)) (common_apart (dependency_way i)) (own_distinct i i (omega arith)))
    (λ q. sym (is_some-lookup (same_path q) whole) ∙ shows.paths q) in
    let paths : length (map own_path (dependency_way i)) ≡ length (dependency_way i) = length-map (dependency_way i) own_path in
    let all : length (keys_of whole) ≡ length whole = length-map whole (λ e. e.0) in
    omega arith
