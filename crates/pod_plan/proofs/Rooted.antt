-- The roots of apps, one after the other.
use Rattle.std.proofs.Common.{◌≡◌, ◌⊎◌, inl, inr, ℕ, ◌<◌, ◌+◌, Bool, List, [], ◌∷◌, ◌++◌, Some, length, take, drop, get_or, sym, ap, subst, arith, ◌∙◌}
use Rattle.path_map.specs.Entries.{Entries, entry_at}
use Rattle.path_map.specs.Overlay.{made_directory}
use Rattle.path_map.specs.declared.entry.Entry.{Entry}
use Rattle.tree_digest.specs.Listings.{IsListable, IsListing, AreListable, lines_of}
use Rattle.dep_match.specs.declared.dep_tree.DepNode.{DepNode}
use Rattle.dep_match.specs.declared.dep_tree.DepTree.{DepTree}
use Rattle.dep_match.specs.declared.stored.Stored.{Stored}
use Rattle.dep_match.specs.TreeOrder.{IsOrderedTree}
use Rattle.render.specs.declared.rendering.Rendering.{Rendering}
use Rattle.render.specs.declared.render_error.RenderError.TheVariants.{TooManyEntries}
use Rattle.render.specs.declared.render_error.RenderError.TheVariants as render
use Rattle.render.specs.Assembly.{own_whitelist}
use Rattle.render.proofs.Assemblies.{own_or_made}
use Rattle.dir_model.specs.declared.request.Request.{Request}
use Rattle.dir_trait.specs.DirCalls.{DirAt}
use Rattle.dir_trait.specs.Effects.{OnlyAsksAndKeeps}
use Rattle.pod_plan.proofs.Mapped.{split_at}
use Rattle.pod_plan.specs.declared.plan_error.PlanError.{PlanError}
use Rattle.pod_plan.specs.declared.plan_error.PlanError.TheVariants.{Damaged, NoMatch, DepError, GenError, RenderError, ListingError, DirFault, NoMemory}
use Rattle.pod_plan.specs.declared.app_root.Root.{Root}
use Rattle.pod_plan.specs.Roots.{node_key, HasReadListings, IsRendered, IsRootAsRead, AreImageRoots}
use Rattle.pod_plan.specs.RootRefusals.{IsRenderingRefusal, IsListingRefusal, IsRootRefusal, IsRootsRefusal}
use Rattle.pod_plan.proofs.Lacks.{tree_since, tree_later, tree_lack_since}
use Rattle.pod_plan.proofs.Zips.{zip_more, zip_weaker}

-- ---- which entries a rendering has
made_is_listable : (entry : Entry) → entry ≡ made_directory → IsListable entry
made_is_listable entry is = subst IsListable (sym is) (omega arith)

pub rendered_listable : {observed : Bool} (count : ℕ) (images : List Stored) (nodes : List DepNode) (r : Rendering) (a b : DirAt) → IsOrderedTree count nodes → IsRendered observed images nodes r a b → AreListable (entry_at r.map)
rendered_listable count images nodes r a b order is q entry at =
    by (own_or_made count nodes (own_whitelist nodes images) is.own order (λ n inside. (is.read n inside).kind) (length nodes) r.map is.rendering q entry at)
  where
    by : ((n : ℕ) × (n < length nodes) × (entry_at (is.own n) q ≡ Some entry)) ⊎ (entry ≡ made_directory) → IsListable entry
    by (inl (n, inside, here)) = (is.read n inside).listable q entry here
    by (inr made) = made_is_listable entry made

-- ---- what was read is so still
module _ (observed : Bool) (images : List Stored) {asks : Request → Bool} {Keeps : DirAt → DirAt → Type 0} (a b c : DirAt) where
  root_later : OnlyAsksAndKeeps observed asks Keeps b c → (tree : DepTree) (root : Root) → IsRootAsRead observed images a b tree root → IsRootAsRead observed images a c tree root
  root_later bc tree root is = record {
    rendered = record {
      own = is.rendered.own;
      read = λ n inside. tree_later (node_key images tree.nodes n) (is.rendered.own n) (is.rendered.read n inside) bc;
      few = is.rendered.few;
      rendering = is.rendered.rendering;
      sourced = is.rendered.sourced;
      sources = is.rendered.sources;
    };
    listing = is.listing;
    kind = is.kind;
  }

  pub roots_later : OnlyAsksAndKeeps observed asks Keeps b c → (trees : List DepTree) (roots : List Root) → AreImageRoots observed images a b trees roots → AreImageRoots observed images a c trees roots
  roots_later bc trees roots are = zip_weaker (IsRootAsRead observed images a b) (IsRootAsRead observed images a c) (root_later bc) trees roots are

  rendered_since : OnlyAsksAndKeeps observed asks Keeps a b → (nodes : List DepNode) (r : Rendering) → IsRendered observed images nodes r b c → IsRendered observed images nodes r a c
  rendered_since ab nodes r is = record {
    own = is.own;
    read = λ n inside. tree_since (node_key images nodes n) (is.own n) ab (is.read n inside);
    few = is.few;
    rendering = is.rendering;
    sourced = is.sourced;
    sources = is.sources;
  }

  pub root_since : OnlyAsksAndKeeps observed asks Keeps a b → (tree : DepTree) (root : Root) → IsRootAsRead observed images b c tree root → IsRootAsRead observed images a c tree root
  root_since ab tree root is = record { rendered = rendered_since ab tree.nodes root.rendering is.rendered; listing = is.listing; kind = is.kind }

  pub roots_since : OnlyAsksAndKeeps observed asks Keeps a b → (trees : List DepTree) (roots : List Root) → AreImageRoots observed images b c trees roots → AreImageRoots observed images a c trees roots
  roots_since ab trees roots are = zip_weaker (IsRootAsRead observed images b c) (IsRootAsRead observed images a c) (root_since ab) trees roots are

  read_since : OnlyAsksAndKeeps observed asks Keeps a b → (nodes : List DepNode) (first others : List ℕ) (own : ℕ → Entries) → HasReadListings observed images nodes first others own b c → HasReadListings observed images nodes first others own a c
  read_since ab nodes first others own is = record { order = is.order; read = λ n h. tree_since (node_key images nodes n) (own n) ab (is.read n h) }

  pub refusal_since : OnlyAsksAndKeeps observed asks Keeps a b → (nodes : List DepNode) (e : PlanError) → IsRootRefusal observed images nodes e b c → IsRootRefusal observed images nodes e a c
  refusal_since ab nodes (Damaged path) h = λ t.
      let l = h t in
      record {
        first = l.first;
        next = l.next;
        others = l.others;
        own = l.own;
        read = read_since ab nodes l.first (l.next ∷ l.others) l.own l.read;
        few = l.few;
        lacks = tree_lack_since t (node_key images nodes l.next) path c ab l.lacks;
      }
  refusal_since ab nodes (NoMatch place) h = absurd h
  refusal_since ab nodes (DepError fault) h = absurd h
  refusal_since ab nodes (GenError refusal) h = absurd h
  refusal_since ab nodes (RenderError TooManyEntries) h = record {
    first = h.first;
    next = h.next;
    others = h.others;
    own = h.own;
    read = read_since ab nodes (h.first ++ h.next ∷ []) h.others h.own h.read;
    few = h.few;
    many = h.many;
  }
  refusal_since ab nodes (RenderError render.NoMemory) h = absurd h
  refusal_since ab nodes (ListingError error) h = record { rendering = h.rendering; rendered = rendered_since ab nodes h.rendering h.rendered; large = h.large }
  refusal_since ab nodes DirFault h = tt
  refusal_since ab nodes NoMemory h = tt

  pub refusals_since : OnlyAsksAndKeeps observed asks Keeps a b → (trees : List DepTree) (e : PlanError) → IsRootsRefusal observed images trees e b c → IsRootsRefusal observed images trees e a c
  refusals_since ab trees DirFault h = tt
  refusals_since ab trees NoMemory h = tt
  refusals_since ab trees e h = record {
    before = h.before;
    tree = h.tree;
    after = h.after;
    is = h.is;
    faulty = refusal_since ab h.tree.nodes e h.faulty;
    roots = h.roots;
    earlier = roots_since ab h.before h.roots h.earlier;
  }

-- ---- one root
pub root_made : (observed : Bool) (images : List Stored) (a b : DirAt) (tree : DepTree) (r : Rendering) (root : Root) → IsRendered observed images tree.nodes r a b → root.rendering ≡ r → root.listing ≡ lines_of r.map → IsListing root.listing
    → IsRootAsRead observed images a b tree root
root_made observed images a b tree r root is same listing kind = record {
  rendered = subst (λ (x : Rendering). IsRendered observed images tree.nodes x a b) (sym same) is;
  listing = listing ∙ ap (λ (x : Rendering). lines_of x.map) (sym same);
  kind = kind;
}

module _ (observed : Bool) (images : List Stored) (nodes : List DepNode) (a b : DirAt) where
  pub listing_refused : (r : Rendering) → IsRendered observed images nodes r a b → (e : PlanError) → IsListingRefusal r.map e → IsRootRefusal observed images nodes e a b
  listing_refused r is (ListingError error) h = record { rendering = r; rendered = is; large = h }
  listing_refused r is NoMemory h = tt
  listing_refused r is e h = absurd h

  pub rendering_refused : (e : PlanError) → IsRenderingRefusal observed images nodes e a b → IsRootRefusal observed images nodes e a b
  rendering_refused (ListingError error) h = absurd h
  rendering_refused e h = h

-- ---- several
pub none_rooted : (observed : Bool) (images : List Stored) (a b : DirAt) (trees : List DepTree) (roots : List Root) → trees ≡ [] → roots ≡ [] → AreImageRoots observed images a b trees roots
none_rooted observed images a b trees roots t r = subst (λ (ts : List DepTree). AreImageRoots observed images a b ts roots) (sym t) (subst (λ (rs : List Root). AreImageRoots observed images a b [] rs) (sym r) tt)

module _ (observed : Bool) (images : List Stored) {asks others : Request → Bool} {Keeps Holds : DirAt → DirAt → Type 0} (a b c : DirAt) (ab : OnlyAsksAndKeeps observed asks Keeps a b) (bc : OnlyAsksAndKeeps observed others Holds b c) where
  -- one root more
  pub roots_more : (trees more : List DepTree) (roots rooted : List Root) (tree : DepTree) (root : Root) → more ≡ trees ++ tree ∷ [] → rooted ≡ roots ++ root ∷ [] → AreImageRoots observed images a b trees roots → IsRootAsRead observed images b c tree root
      → AreImageRoots observed images a c more rooted
  roots_more trees more roots rooted tree root grown pushed before here =
      subst (λ (ts : List DepTree). AreImageRoots observed images a c ts rooted) (sym grown)
      (subst (λ (rs : List Root). AreImageRoots observed images a c (trees ++ tree ∷ []) rs) (sym pushed)
      (zip_more (IsRootAsRead observed images a c) trees roots tree root (roots_later observed images a b c bc trees roots before) (root_since observed images a b c ab tree root here)))

  -- or the first without one
  pub first_fault : (trees : List DepTree) (i : ℕ) (tree : DepTree) (roots : List Root) → i < length trees → tree ≡ get_or trees i tree → AreImageRoots observed images a b (take i trees) roots
      → (e : PlanError) → IsRootRefusal observed images tree.nodes e b c → IsRootsRefusal observed images trees e a c
  first_fault trees i tree roots within is before DirFault h = tt
  first_fault trees i tree roots within is before NoMemory h = tt
  first_fault trees i tree roots within is before e h = record {
    before = take i trees;
    tree = tree;
    after = drop (i + 1) trees;
    is = split_at trees i tree tree within is;
    faulty = refusal_since observed images a b c ab tree.nodes e h;
    roots = roots;
    earlier = roots_later observed images a b c bc (take i trees) roots before;
  }
