-- The ways on which a walk comes to paths.
use Rattle.std.proofs.Common.{◌≡◌, ℕ, List, [], ◌∷◌, ◌++◌, Option, Some, None, IsSome, sym, refl, ap, subst, ◌∙◌, ◌⊎◌, inl, inr}
use Rattle.dir_model.specs.Names.{IsFileName}
use Rattle.dir_trait.specs.declared.node.Node.{Node}
use Rattle.dir_trait.specs.declared.bundle.BundleKind.{BundleKind}
use Rattle.dir_trait.specs.declared.bundle.BundleKind.TheVariants as kinds
use Rattle.dir_trait.specs.Bundles.{BundleTree, kind_at}
use Rattle.bundle_image.specs.Walks.{in_directory, path_along, Leads, LeadsTo, Stands, IsAtOrBelow}
use Rattle.bundle_image.proofs.Paths.{lies_deeper}

pub some_of_kind : (node : Option Node) (kind : BundleKind) → kind_at node ≡ Some kind → IsSome node
some_of_kind None kind is = cc
some_of_kind (Some node) kind is = refl

-- a name more
leads_more : (nodes : BundleTree) (directory : List ℕ) (names : List (List ℕ)) (name : List ℕ) → Leads nodes directory names → kind_at (nodes (path_along directory names)) ≡ Some kinds.Dir → IsFileName name
    → Leads nodes directory (names ++ name ∷ [])
leads_more nodes directory [] name leads is named = (named, is, tt)
leads_more nodes directory (n ∷ names) name leads is named = (leads.0, leads.1, leads_more nodes (in_directory directory n) names name leads.2 is named)

along_more : (directory : List ℕ) (names : List (List ℕ)) (name : List ℕ) → path_along directory (names ++ name ∷ []) ≡ in_directory (path_along directory names) name
along_more directory [] name = refl
along_more directory (n ∷ names) name = along_more (in_directory directory n) names name

-- what stands in a directory that stands
pub stands_in : (nodes : BundleTree) (directory name : List ℕ) → Stands nodes directory → kind_at (nodes directory) ≡ Some kinds.Dir → IsFileName name → IsSome (nodes (in_directory directory name))
    → Stands nodes (in_directory directory name)
stands_in nodes directory name way is named some = record {
  name = way.name;
  names = way.names ++ name ∷ [];
  leads = leads_more nodes [] (way.name ∷ way.names) name way.leads (subst (λ t. kind_at (nodes t) ≡ Some kinds.Dir) way.is is) named;
  is = ap (λ t. in_directory t name) way.is ∙ sym (along_more [] (way.name ∷ way.names) name);
  some = some;
}

-- and in the root
pub stands_first : (nodes : BundleTree) (name : List ℕ) → kind_at (nodes []) ≡ Some kinds.Dir → IsFileName name → IsSome (nodes (in_directory [] name)) → Stands nodes (in_directory [] name)
stands_first nodes name is named some = record { name = name; names = []; leads = (named, is, tt); is = refl; some = some }

along_below : (directory : List ℕ) (names : List (List ℕ)) → IsAtOrBelow (path_along directory names) directory
along_below directory [] = inl refl
along_below directory (name ∷ names) = lies_deeper _ (in_directory directory name) directory (along_below (in_directory directory name) names) (inr (name, refl))

pub leads_below : (nodes : BundleTree) (directory path : List ℕ) → LeadsTo nodes directory path → IsAtOrBelow path directory
leads_below nodes directory path way = subst (λ t. IsAtOrBelow t directory) (sym way.is) (along_below directory way.names)

-- the first step on a way to something: a name in the directory, where something stands, and the way on
pub record FirstStep (nodes : BundleTree) (directory path : List ℕ) : Type 0 where
  pub name : List ℕ
  pub named : IsFileName name
  pub stands : kind_at (nodes directory) ≡ Some kinds.Dir
  pub some : IsSome (nodes (in_directory directory name))
  pub on : LeadsTo nodes (in_directory directory name) path

some_first : (nodes : BundleTree) (directory path : List ℕ) (names : List (List ℕ)) → Leads nodes directory names → path ≡ path_along directory names → IsSome (nodes path) → IsSome (nodes directory)
some_first nodes directory path [] leads is some = subst (λ t. IsSome (nodes t)) is some
some_first nodes directory path (name ∷ names) leads is some = some_of_kind _ _ leads.1

first_step : (nodes : BundleTree) (directory path name : List ℕ) (names : List (List ℕ)) → Leads nodes directory (name ∷ names) → path ≡ path_along directory (name ∷ names) → IsSome (nodes path) → FirstStep nodes directory path
first_step nodes directory path name names leads is some = record {
  name = name;
  named = leads.0;
  stands = leads.1;
  some = some_first nodes (in_directory directory name) path names leads.2 is some;
  on = record { names = names; leads = leads.2; is = is };
}

pub step_from_root : (nodes : BundleTree) (path : List ℕ) → Stands nodes path → FirstStep nodes [] path
step_from_root nodes path way = first_step nodes [] path way.name way.names way.leads way.is way.some

-- a way is at its end, or goes on
pub way_ends_or_on : (nodes : BundleTree) (directory path : List ℕ) → LeadsTo nodes directory path → IsSome (nodes path) → (path ≡ directory) ⊎ FirstStep nodes directory path
way_ends_or_on nodes directory path way some = by way.names way.leads way.is
  where
    by : (names : List (List ℕ)) → Leads nodes directory names → path ≡ path_along directory names → (path ≡ directory) ⊎ FirstStep nodes directory path
    by [] leads is = inl is
    by (name ∷ names) leads is = inr (first_step nodes directory path name names leads is some)
