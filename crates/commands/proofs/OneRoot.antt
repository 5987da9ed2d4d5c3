-- By one list of images and one state a tree has one root, or has none for one reason.
use Rattle.std.proofs.Common.{◌≡◌, ◌⊎◌, inl, inr, ◌<◌, ◌≤◌, ℕ, Bool, true, false, zero, suc, Some, List, [], ◌∷◌, ◌++◌, length, refl, sym, ap, subst, ◌∙◌, append-nil, arith}
use Rattle.std.specs.Prelude.{nat_lt, MatchBool}
use Rattle.std.specs.List.{All, AllByRecursion, AllZip}
use Rattle.std.proofs.lemmas.List.{append_cancel_left, length-append}
use Rattle.std.proofs.lemmas.List.Elements.{All-head, All-tail}
use Rattle.std.proofs.lemmas.List.Sums.{sum_by-cons}
use Rattle.std.proofs.lemmas.Bool.Decides.{nat_tests}
use Rattle.ac_types.specs.declared.store_key.StoreKey.{StoreKey}
use Rattle.dep_match.specs.declared.dep_tree.DepTree.{DepTree}
use Rattle.dep_match.specs.declared.stored.Stored.{Stored}
use Rattle.dep_match.specs.TreeOrder.{IsOrderedTree, node_at}
use Rattle.dir_model.specs.State.{DirState}
use Rattle.dir_model.proofs.Lists.{all_left, all_right, all_weaker}
use Rattle.image_reading.specs.Places.{stored_path, tree_name}
use Rattle.listing_laws.proofs.OneText.{no_two_listings_have_one_text}
use Rattle.path_map.specs.declared.listed.Listed.{Listed}
use Rattle.path_map.specs.Entries.{Entries}
use Rattle.path_map.specs.Whitelist.{whitelisted}
use Rattle.path_map.proofs.Rising.{same_from_tree}
use Rattle.pod_build.specs.declared.error.BuildError.{BuildError}
use Rattle.pod_build.specs.declared.error.BuildError.TheVariants as build
use Rattle.pod_plan.specs.Roots.{node_key, entries_together, AreFewEntries}
use Rattle.render.specs.Assembly.{IsAssembly, empty_tree, laid, layered, own_whitelist}
use Rattle.render.specs.Orders.{all_down}
use Rattle.render.specs.declared.refusals.TheConstants.{MAX_ENTRIES}
use Rattle.render.specs.declared.render_error.RenderError.TheVariants as render
use Rattle.tree_digest.specs.Listings.{IsListing, IsTooLarge, entries_of, lines_of, listing_text}
use Rattle.tree_digest.specs.declared.refusals.TheConstants.{MAX_LINES, MAX_BYTES}
use Rattle.tree_digest.specs.declared.line.ListingLine.{ListingLine}
use Rattle.tree_digest.specs.declared.listing_error.ListingError.{ListingError}
use Rattle.tree_digest.specs.declared.listing_error.ListingError.TheVariants.{TooMany}
use Rattle.standing_images.specs.Images.{HasFile}
use Rattle.commands.specs.ImageImportTable.{HasListing}
use Rattle.commands.specs.PrepareTable.{HasEntries, IsRootInStore, HasRoot, TreeLacksListing, HasTooManyEntries, RootListingIsLarge, PassesLimit}
use Rattle.commands.proofs.NodesStand.{all_within}

-- a tree fails in a manner that gives this refusal
abbrev pub TreeFails : List Stored → DirState → DepTree → BuildError → Type 0
TreeFails images s tree (build.Damaged path) = TreeLacksListing images path s tree
TreeFails images s tree (build.RenderError error) = PassesLimit images error s tree
TreeFails images s tree (build.ListingError error) = RootListingIsLarge images error s tree
TreeFails images s tree error = ⊥

-- ---- one listing
one_bytes : (s : DirState) (key : StoreKey) {P Q : List ℕ → Type 0} (x : HasFile key tree_name P s) (y : HasFile key tree_name Q s) → x.bytes ≡ y.bytes
one_bytes s key x y =
    let both : Some x.bytes ≡ Some y.bytes = sym x.there ∙ y.there in
    cc

pub one_listing : (s : DirState) (key : StoreKey) (map other : Entries) → HasEntries key map s → HasEntries key other s → map ≡ other
one_listing s key map other x y =
    let same : listing_text x.0 ≡ listing_text y.0 = sym x.1.holds.text ∙ (one_bytes s key x.1 y.1 ∙ y.1.holds.text) in
    x.2 ∙ (ap entries_of (no_two_listings_have_one_text x.0 y.0 x.1.holds.kind.follow y.1.holds.kind.follow same) ∙ sym y.2)

has_listing : (s : DirState) (key : StoreKey) (map : Entries) → HasEntries key map s → HasListing key s
has_listing s key map x = record { bytes = x.1.bytes; there = x.1.there; holds = (x.0, x.1.holds) }

-- ---- fronts of one list
module _ {X : Type 0} where
  heads : (a b : X) (xs ys : List X) → a ∷ xs ≡ b ∷ ys → a ≡ b
  heads a b xs ys is = cc

  tails : (a b : X) (xs ys : List X) → a ∷ xs ≡ b ∷ ys → xs ≡ ys
  tails a b xs ys is = cc

  -- a front reaches past an element, or no farther than to it
  reaches : (a b : List X) (n : X) (x y : List X) → a ++ n ∷ x ≡ b ++ y → ((m : List X) × (b ≡ a ++ n ∷ m)) ⊎ ((m : List X) × (a ≡ b ++ m))
  reaches [] [] n x y is = inr ([], refl)
  reaches [] (c ∷ b) n x y is = inl (b, ap (λ (z : X). z ∷ b) (sym (heads n c x (b ++ y) is)))
  reaches (c ∷ a) [] n x y is = inr (c ∷ a, refl)
  reaches (c ∷ a) (d ∷ b) n x y is = by (reaches a b n x y (tails c d (a ++ n ∷ x) (b ++ y) is))
    where
      same : c ≡ d
      same = heads c d (a ++ n ∷ x) (b ++ y) is

      by : ((m : List X) × (b ≡ a ++ n ∷ m)) ⊎ ((m : List X) × (a ≡ b ++ m)) → ((m : List X) × (d ∷ b ≡ (c ∷ a) ++ n ∷ m)) ⊎ ((m : List X) × (c ∷ a ≡ (d ∷ b) ++ m))
      by (inl m) = inl (m.0, ap (λ (z : X). z ∷ b) (sym same) ∙ ap (λ (l : List X). c ∷ l) m.1)
      by (inr m) = inr (m.0, ap (λ (z : X). z ∷ a) same ∙ ap (λ (l : List X). d ∷ l) m.1)

  no_more : (a b m k : List X) → a ≡ b ++ m → b ≡ a ++ k → a ≡ b
  no_more a b [] k x y = x ∙ append-nil b
  no_more a b (c ∷ m) k x y = absurd (omega (arith, ap length x, ap length y, length-append b (c ∷ m), length-append a k))

-- ---- how many entries
same_count : (own other : ℕ → Entries) (ns : List ℕ) → AllByRecursion (λ n. own n ≡ other n) ns → entries_together own ns ≡ entries_together other ns
same_count own other [] all = refl
same_count own other (n ∷ ns) all =
    let size : (ℕ → Entries) → ℕ → ℕ = λ f n. length (f n) in
    omega (arith, sum_by-cons (size own) n ns, sum_by-cons (size other) n ns, ap (λ (es : Entries). length es) all.0, same_count own other ns all.1)

few_more : (own : ℕ → Entries) (ns ms : List ℕ) → entries_together own ns ≤ entries_together own (ns ++ ms)
few_more own [] ms = omega arith
few_more own (n ∷ ns) ms =
    let size : ℕ → ℕ = λ n. length (own n) in
    omega (arith, sum_by-cons size n ns, sum_by-cons size n (ns ++ ms), few_more own ns ms)

module _ (images : List Stored) (s : DirState) (tree : DepTree) where
  abbrev Has : (ℕ → Entries) → ℕ → Type 0
  Has own n = HasEntries (node_key images tree.nodes n) (own n) s

  same_own : (own other : ℕ → Entries) (ns : List ℕ) → AllByRecursion (Has own) ns → AllByRecursion (Has other) ns → AllByRecursion (λ n. own n ≡ other n) ns
  same_own own other [] x y = tt
  same_own own other (n ∷ ns) x y = (one_listing s (node_key images tree.nodes n) (own n) (other n) x.0 y.0, same_own own other ns x.1 y.1)

  -- what is few enough with more is so with less
  never_many : (own other : ℕ → Entries) (ns ms : List ℕ) → AllByRecursion (Has own) (ns ++ ms) → AllByRecursion (Has other) ns → AreFewEntries own (ns ++ ms) → MAX_ENTRIES < entries_together other ns → ⊥
  never_many own other ns ms x y few many = omega (arith, few, many, few_more own ns ms, same_count own other ns (same_own own other ns (all_left (Has own) ns ms x) y))

  -- a front with listings ends before a listing that lacks
  before_lack : (path : List ℕ) (x : TreeLacksListing images path s tree) (own : ℕ → Entries) (first others : List ℕ) → all_down tree.nodes 0 ≡ first ++ others → AllByRecursion (Has own) first → (m : List ℕ) × (x.first ≡ first ++ m)
  before_lack path x own first others order each = by (reaches x.first first x.next x.others others (sym x.earlier.order ∙ order))
    where
      by : ((m : List ℕ) × (first ≡ x.first ++ x.next ∷ m)) ⊎ ((m : List ℕ) × (x.first ≡ first ++ m)) → (m : List ℕ) × (x.first ≡ first ++ m)
      by (inl m) =
          let there = all_right (Has own) x.first (x.next ∷ m.0) (subst (λ (l : List ℕ). AllByRecursion (Has own) l) m.1 each) in
          absurd (x.lacks (has_listing s (node_key images tree.nodes x.next) (own x.next) there.0))
      by (inr m) = m

  one_lack : (p q : List ℕ) → TreeLacksListing images p s tree → TreeLacksListing images q s tree → p ≡ q
  one_lack p q x y =
      let a = before_lack p x y.own y.first (y.next ∷ y.others) y.earlier.order y.earlier.each in
      let b = before_lack q y x.own x.first (x.next ∷ x.others) x.earlier.order x.earlier.each in
      let same : x.first ≡ y.first = no_more x.first y.first a.0 b.0 a.1 b.1 in
      let rests : x.next ∷ x.others ≡ y.next ∷ y.others = append_cancel_left y.first (x.next ∷ x.others) (y.next ∷ y.others)
      (ap (λ (l : List ℕ). l ++ x.next ∷ x.others) (sym same) ∙ (sym x.earlier.order ∙ y.earlier.order)) in
      let next : x.next ≡ y.next = heads x.next y.next x.others y.others rests in
      x.is ∙ (ap (λ (n : ℕ). path_of n) next ∙ sym y.is)
    where
      path_of : ℕ → List ℕ
      path_of n = stored_path (node_key images tree.nodes n) tree_name

  lack_or_many : (p : List ℕ) → TreeLacksListing images p s tree → HasTooManyEntries images s tree → ⊥
  lack_or_many p x y =
      let front = y.first ++ y.next ∷ [] in
      let m = before_lack p x y.own front y.others y.listed.order y.listed.each in
      never_many x.own y.own front m.0 (subst (λ (l : List ℕ). AllByRecursion (Has x.own) l) m.1 x.earlier.each) y.listed.each (subst (λ (l : List ℕ). AreFewEntries x.own l) m.1 x.few) y.many

  lack_or_root : (p : List ℕ) (whole : Entries) → TreeLacksListing images p s tree → IsRootInStore images tree whole s → ⊥
  lack_or_root p whole x y = x.lacks (has_listing s (node_key images tree.nodes x.next) (y.own x.next) (y.each x.next x.within))

  module _ (count : ℕ) (ordered : IsOrderedTree count tree.nodes) where
    many_or_root : (whole : Entries) → HasTooManyEntries images s tree → IsRootInStore images tree whole s → ⊥
    many_or_root whole x y =
        let front = x.first ++ x.next ∷ [] in
        let all : AllByRecursion (Has y.own) (all_down tree.nodes 0) = all_weaker (λ n. n < length tree.nodes) (Has y.own) y.each (all_down tree.nodes 0) (all_within count tree.nodes ordered) in
        never_many y.own x.own front x.others (subst (λ (l : List ℕ). AllByRecursion (Has y.own) l) x.listed.order all) x.listed.each (subst (λ (l : List ℕ). AreFewEntries y.own l) x.listed.order y.few) x.many

    -- one root
    module _ (own other : ℕ → Entries) (same : (n : ℕ) → n < length tree.nodes → own n ≡ other n) where
      abbrev whites : ℕ → List Listed
      whites = own_whitelist tree.nodes images

      parts_same : (levels : ℕ) → ((n : ℕ) (x y : Entries) → n < length tree.nodes → IsAssembly tree.nodes whites own levels n x → IsAssembly tree.nodes whites other levels n y → x ≡ y) → (n : ℕ) (cs : List ℕ) (xs ys : List Entries) →
          All (λ c. (n < c) × (c < length tree.nodes)) cs → AllZip (λ c x. IsAssembly tree.nodes whites own levels c x) cs xs → AllZip (λ c y. IsAssembly tree.nodes whites other levels c y) cs ys → xs ≡ ys
      parts_same levels one n [] [] [] within x y = refl
      parts_same levels one n [] [] (b ∷ ys) within x y = absurd y
      parts_same levels one n [] (a ∷ xs) ys within x y = absurd x
      parts_same levels one n (c ∷ cs) [] ys within x y = absurd x
      parts_same levels one n (c ∷ cs) (a ∷ xs) [] within x y = absurd y
      parts_same levels one n (c ∷ cs) (a ∷ xs) (b ∷ ys) within x y =
          let here = All-head (λ c. (n < c) × (c < length tree.nodes)) c cs within in
          ap (λ (z : Entries). z ∷ xs) (one c a b here.1 x.0 y.0)
          ∙ ap (λ (l : List Entries). b ∷ l) (parts_same levels one n cs xs ys (All-tail (λ c. (n < c) × (c < length tree.nodes)) c cs within) x.1 y.1)

      one_assembly : (levels n : ℕ) (x y : Entries) → n < length tree.nodes → IsAssembly tree.nodes whites own levels n x → IsAssembly tree.nodes whites other levels n y → x ≡ y
      one_assembly zero n x y within a b = absurd a
      one_assembly (suc levels) n x y within a b =
          let parts : a.0 ≡ b.0 = parts_same levels (one_assembly levels) n (node_at tree.nodes n).children a.0 b.0 (ordered.children n within) a.1 b.1 in
          same_from_tree x y a.2.kind.rising b.2.kind.rising
          (λ q. a.2.entries q
          ∙ (ap (λ (below : List Entries). whitelisted (whites n) (laid (layered empty_tree below) (own n)) q) parts
          ∙ (ap (λ (es : Entries). whitelisted (whites n) (laid (layered empty_tree b.0) es) q) (same n within)
          ∙ sym (b.2.entries q))))

    one_root : (x y : Entries) → IsRootInStore images tree x s → IsRootInStore images tree y s → x ≡ y
    one_root x y a b =
        one_assembly a.own b.own (λ n inside. one_listing s (node_key images tree.nodes n) (a.own n) (b.own n) (a.each n inside) (b.each n inside)) (length tree.nodes) 0 x y ordered.top a.rendered b.rendered

    one_large : (lines : List ListingLine) (e f : ListingError) → IsTooLarge lines e → IsTooLarge lines f → e ≡ f
    one_large lines e f x y = by (nat_lt MAX_LINES (length lines)) (TooMany MAX_LINES) (TooMany MAX_BYTES) (MAX_BYTES < length (listing_text lines)) x y
      where
        by : (b : Bool) (A B : ListingError) (P : Type 0) → MatchBool b (e ≡ A) (P × (e ≡ B)) → MatchBool b (f ≡ A) (P × (f ≡ B)) → e ≡ f
        by true A B P h k = h ∙ sym k
        by false A B P h k = h.1 ∙ sym k.1

    larges : (e f : ListingError) → RootListingIsLarge images e s tree → RootListingIsLarge images f s tree → e ≡ f
    larges e f x y = one_large (lines_of x.whole) e f x.large (subst (λ (w : Entries). IsTooLarge (lines_of w) f) (one_root y.whole x.whole y.root x.root) y.large)

    -- ---- the tree fails for one reason, and then has no root
    pub one_failure : (e f : BuildError) → TreeFails images s tree e → TreeFails images s tree f → e ≡ f
    one_failure (build.Damaged p) (build.Damaged q) x y = ap build.Damaged (one_lack p q x y)
    one_failure (build.Damaged p) (build.RenderError render.TooManyEntries) x y = absurd (lack_or_many p x y)
    one_failure (build.Damaged p) (build.ListingError g) x y = absurd (lack_or_root p y.whole x y.root)
    one_failure (build.RenderError render.TooManyEntries) (build.Damaged q) x y = absurd (lack_or_many q y x)
    one_failure (build.RenderError render.TooManyEntries) (build.RenderError render.TooManyEntries) x y = refl
    one_failure (build.RenderError render.TooManyEntries) (build.ListingError g) x y = absurd (many_or_root y.whole x y.root)
    one_failure (build.ListingError h) (build.Damaged q) x y = absurd (lack_or_root q x.whole y x.root)
    one_failure (build.ListingError h) (build.RenderError render.TooManyEntries) x y = absurd (many_or_root x.whole y x.root)
    one_failure (build.ListingError h) (build.ListingError g) x y = ap build.ListingError (larges h g x y)
    one_failure (build.RenderError render.NoMemory) f x y = absurd x
    one_failure e (build.RenderError render.NoMemory) x y = absurd y
    one_failure (build.Damaged p) f x y = absurd y
    one_failure (build.RenderError error) f x y = absurd y
    one_failure (build.ListingError h) f x y = absurd y
    one_failure e f x y = absurd x

    fits : (lines : List ListingLine) (e : ListingError) → IsListing lines → IsTooLarge lines e → ⊥
    fits lines e kind large = by (nat_lt MAX_LINES (length lines)) refl (e ≡ TooMany MAX_LINES) (e ≡ TooMany MAX_BYTES) large
      where
        few : length lines ≤ MAX_LINES
        few = kind.count

        short : length (listing_text lines) ≤ MAX_BYTES
        short = kind.size

        by : (b : Bool) → nat_lt MAX_LINES (length lines) ≡ b → (A B : Type 0) → MatchBool b A ((MAX_BYTES < length (listing_text lines)) × B) → ⊥
        by true is A B x = grind (arith, nat_tests, is, few)
        by false is A B x = omega (arith, short, x.0)

    never_large : (error : ListingError) → RootListingIsLarge images error s tree → HasRoot images s tree → ⊥
    never_large error x root = fits (lines_of x.whole) error (subst (λ (w : Entries). IsListing (lines_of w)) (one_root root.0 x.whole root.1 x.root) root.2) x.large

    pub no_root : (e : BuildError) → TreeFails images s tree e → HasRoot images s tree → ⊥
    no_root (build.Damaged p) x root = lack_or_root p root.0 x root.1
    no_root (build.RenderError render.TooManyEntries) x root = many_or_root root.0 x root.1
    no_root (build.RenderError render.NoMemory) x root = absurd x
    no_root (build.ListingError error) x root = never_large error x root
    no_root e x root = absurd x
