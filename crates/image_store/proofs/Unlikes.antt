-- Which file of the bundle a plan that wasn't carried out points at.
use Rattle.std.proofs.Common.{◌≡◌, ◌⊎◌, inl, inr, ◌<◌, ℕ, true, false, codes, Option, Some, None, List, [], ◌∷◌, ◌++◌, length, slice_get, refl, sym, ap, subst, ◌∙◌, arith, length-append}
use Rattle.std.specs.Borrow.{GName}
use Rattle.plain_laws.proofs.Lists.{at_place}
use Rattle.path_map.specs.declared.entry.Entry.{Entry}
use Rattle.path_map.specs.declared.entry.Meta.{Meta}
use Rattle.path_map.specs.declared.entry.Entry.TheVariants.{Dir, File, Link}
use Rattle.tree_digest.specs.declared.line.ListingLine.{ListingLine}
use Rattle.tree_digest.specs.Listings.{listing_text}
use Rattle.folder_building.specs.declared.plan.PlanEntry.{PlanEntry}
use Rattle.folder_building.specs.declared.plan.Content.{Content}
use Rattle.folder_building.specs.declared.plan.Content.TheVariants.{Directory, Given, Copied}
use Rattle.folder_building.specs.Sources.{SourceAt, UnlikeContent, UnlikeAt}
use Rattle.folder_building.specs.TreePlans.{plan_entry_at, tree_entries}
use Rattle.folder_building.specs.ImagePlans.{id_file, given_file, mark_file, image_entries}
use Rattle.dir_trait.specs.Bundles.{bytes_of_node, child_path}
use Rattle.image_reading.specs.declared.error.StoreError.TheVariants.{Damaged}
use Rattle.image_store.specs.Plans.{origin_of, IsUnlikeRefusal}
use Rattle.image_store.specs.Causes.{Source, IsUnlikeContent, UnlikePlanned, UnlikeListed}

pub place_inside : {source : SourceAt} {plan : List PlanEntry} {place : ℕ} → UnlikeAt source plan place → place < length plan
place_inside {source} {plan} {place} u =
    let n = ap length u.is in
    omega (arith, n, u.place, length-append u.before (u.entry ∷ u.rest))

-- a bundle as a source of files
abbrev pub files_of : ℕ → Option GName → Source → SourceAt
files_of faults reference source = record { faults = faults; reference = reference; asks = λ r. false; may = λ st. true; told = source.told; file = λ o. bytes_of_node (source.tree (child_path source.root o.path)) }

unlike_content : (faults : ℕ) (reference : Option GName) (source : Source) (content : Content) → UnlikeContent (files_of faults reference source) content → IsUnlikeContent source content
unlike_content faults reference source Directory u = u
unlike_content faults reference source (Given bytes) u = u
unlike_content faults reference source (Copied origin size sha) u = u

pub unlike_planned : (faults : ℕ) (reference : Option GName) {source : Source} {plan : List PlanEntry} {place : ℕ} (path : List ℕ) → UnlikeAt (files_of faults reference source) plan place → IsUnlikeRefusal plan place (Damaged path) → UnlikePlanned source plan path
unlike_planned faults reference {source} {plan} {place} path u r = record {
  before = u.before;
  entry = u.entry;
  rest = u.rest;
  is = u.is;
  from = r.2 ∙ ap origin_of same;
  unlike = unlike_content faults reference source u.entry.content u.unlike;
}
  where
    there : slice_get plan place ≡ Some u.entry
    there = ap (λ (l : List PlanEntry). slice_get l place) u.is ∙ (ap (λ n. slice_get (u.before ++ u.entry ∷ u.rest) n) (sym u.place) ∙ at_place u.before u.rest u.entry)

    same : r.0 ≡ u.entry
    same = let both : Some r.0 ≡ Some u.entry = sym r.1 ∙ there in cc

-- the first of a list is the entry, or it comes later
peel : {X : Type 0} (x : X) (xs before rest : List X) (y : X) → x ∷ xs ≡ before ++ y ∷ rest → (x ≡ y) ⊎ ((more : List X) × (xs ≡ more ++ y ∷ rest))
peel x xs [] rest y is = inl cc
peel x xs (z ∷ before) rest y is = inr (before, cc)

none_there : {X : Type 0} (before rest : List X) (y : X) → [] ≡ before ++ y ∷ rest → ⊥
none_there [] rest y is = cc
none_there (z ∷ before) rest y is = cc

module _ (source : Source) (path : List ℕ) where
  -- what isn't copied can't be unlike
  not_copied : (e entry : PlanEntry) → e ≡ entry → (IsUnlikeContent source e.content → ⊥) → IsUnlikeContent source entry.content → ⊥
  not_copied e entry is none unlike = none (subst (λ (x : PlanEntry). IsUnlikeContent source x.content) (sym is) unlike)

  later : (l : ListingLine) (lines : List ListingLine) → UnlikeListed source lines path → UnlikeListed source (l ∷ lines) path
  later l lines u = record { before = l ∷ u.before; line = u.line; rest = u.rest; is = ap (λ xs. l ∷ xs) u.is; from = u.from; unlike = u.unlike }

  abbrev tree_of : List ListingLine → List PlanEntry
  tree_of lines = tree_entries (codes "rootfs") None (codes "rootfs") lines

  listed : (lines : List ListingLine) (before rest : List PlanEntry) (entry : PlanEntry) → tree_of lines ≡ before ++ entry ∷ rest → path ≡ origin_of entry → IsUnlikeContent source entry.content → UnlikeListed source lines path
  listed [] before rest entry is from unlike = absurd (none_there before rest entry is)
  listed (l ∷ lines) before rest entry is from unlike = by (λ more same. listed lines more rest entry same from unlike) l.entry is
    where
      directory : ((more : List PlanEntry) → tree_of lines ≡ more ++ entry ∷ rest → UnlikeListed source lines path) → (kind : Entry) → (plan_entry_at (codes "rootfs" ++ l.path) Directory ≡ entry) ⊎ ((more : List PlanEntry) × (tree_of lines ≡ more ++ entry ∷ rest)) → UnlikeListed source (record { path = l.path; entry = kind } ∷ lines) path
      directory others kind (inl same) = absurd (not_copied (plan_entry_at (codes "rootfs" ++ l.path) Directory) entry same (λ u. u) unlike)
      directory others kind (inr more) = later (record { path = l.path; entry = kind }) lines (others more.0 more.1)

      file : ((more : List PlanEntry) → tree_of lines ≡ more ++ entry ∷ rest → UnlikeListed source lines path) → (meta : Meta) (size : ℕ) (sha : List ℕ) → (plan_entry_at (codes "rootfs" ++ l.path) (Copied (record { folder = None; path = codes "rootfs" ++ l.path }) size sha) ≡ entry) ⊎ ((more : List PlanEntry) × (tree_of lines ≡ more ++ entry ∷ rest)) → UnlikeListed source (record { path = l.path; entry = File meta size sha } ∷ lines) path
      file others meta size sha (inl same) = record {
        before = [];
        line = record { path = l.path; entry = File meta size sha };
        rest = lines;
        is = refl;
        from = from ∙ sym (ap origin_of same);
        unlike = subst (λ (p : List ℕ). IsUnlikeContent source (Copied (record { folder = None; path = p }) size sha)) (sym (from ∙ sym (ap origin_of same))) (subst (λ (x : PlanEntry). IsUnlikeContent source x.content) (sym same) unlike);
      }
      file others meta size sha (inr more) = later (record { path = l.path; entry = File meta size sha }) lines (others more.0 more.1)

      by : ((more : List PlanEntry) → tree_of lines ≡ more ++ entry ∷ rest → UnlikeListed source lines path) → (kind : Entry) → tree_of (record { path = l.path; entry = kind } ∷ lines) ≡ before ++ entry ∷ rest → UnlikeListed source (record { path = l.path; entry = kind } ∷ lines) path
      by others (Dir meta) is = directory others (Dir meta) (peel (plan_entry_at (codes "rootfs" ++ l.path) Directory) (tree_of lines) before rest entry is)
      by others (File meta size sha) is = file others meta size sha (peel (plan_entry_at (codes "rootfs" ++ l.path) (Copied (record { folder = None; path = codes "rootfs" ++ l.path }) size sha)) (tree_of lines) before rest entry is)
      by others (Link meta target) is = later (record { path = l.path; entry = Link meta target }) lines (others before is)

  -- one entry of the plan that isn't copied
  past : (e : PlanEntry) (plan before rest : List PlanEntry) (entry : PlanEntry) → (IsUnlikeContent source e.content → ⊥) → IsUnlikeContent source entry.content → e ∷ plan ≡ before ++ entry ∷ rest → (more : List PlanEntry) × (plan ≡ more ++ entry ∷ rest)
  past e plan before rest entry none unlike is = by (peel e plan before rest entry is)
    where
      by : (e ≡ entry) ⊎ ((more : List PlanEntry) × (plan ≡ more ++ entry ∷ rest)) → (more : List PlanEntry) × (plan ≡ more ++ entry ∷ rest)
      by (inl same) = absurd (not_copied e entry same none unlike)
      by (inr more) = more

  -- of an image's plan only the tree is copied
  pub unlike_listed : (manifest id : List ℕ) (lines : List ListingLine) (now : ℕ) → UnlikePlanned source (image_entries manifest id lines now) path → UnlikeListed source lines path
  unlike_listed manifest id lines now u =
      let a = past (given_file (codes "manifest") manifest) (given_file (codes "id") (id_file id) ∷ given_file (codes "tree") (listing_text lines) ∷ mark_file now ∷ plan_entry_at (codes "rootfs") Directory ∷ tree_of lines) u.before u.rest u.entry (λ x. x) u.unlike u.is in
      let b = past (given_file (codes "id") (id_file id)) (given_file (codes "tree") (listing_text lines) ∷ mark_file now ∷ plan_entry_at (codes "rootfs") Directory ∷ tree_of lines) a.0 u.rest u.entry (λ x. x) u.unlike a.1 in
      let c = past (given_file (codes "tree") (listing_text lines)) (mark_file now ∷ plan_entry_at (codes "rootfs") Directory ∷ tree_of lines) b.0 u.rest u.entry (λ x. x) u.unlike b.1 in
      let d = past (mark_file now) (plan_entry_at (codes "rootfs") Directory ∷ tree_of lines) c.0 u.rest u.entry (λ x. x) u.unlike c.1 in
      let e = past (plan_entry_at (codes "rootfs") Directory) (tree_of lines) d.0 u.rest u.entry (λ x. x) u.unlike d.1 in
      listed lines e.0 u.rest u.entry e.1 u.from u.unlike
