-- Listings that are read and laid one after the other.
use Rattle.std.proofs.Common.{◌≡◌, ℕ, Bool, ◌<◌, ◌+◌, List, [], ◌∷◌, ◌++◌, length, get_or, Some, None, Option, is_some, cond, ◌∙◌, refl, sym, ap, subst, append_assoc, append-nil, arith}
use Rattle.std.specs.Prelude.{Result, Err, ◌↔◌}
use Rattle.std.proofs.lemmas.List.Sums.{sum_by_push}
use Rattle.ac_types.specs.declared.store_key.StoreKey.{StoreKey}
use Rattle.path_map.specs.declared.listed.Listed.{Listed}
use Rattle.path_map.specs.Entries.{Entries, entry_at, IsPathMap}
use Rattle.dep_match.specs.declared.dep_tree.DepNode.{DepNode}
use Rattle.dep_match.specs.declared.stored.Stored.{Stored}
use Rattle.dep_match.specs.Dependencies.{key_at}
use Rattle.dep_match.specs.TreeOrder.{node_at, IsOrderedTree}
use Rattle.render.specs.declared.plan.Plan.{Plan}
use Rattle.render.specs.declared.refusals.TheConstants.{MAX_ENTRIES}
use Rattle.render.specs.declared.rendering.Rendering.{Rendering}
use Rattle.render.specs.declared.render_error.RenderError.TheVariants.{TooManyEntries}
use Rattle.render.specs.declared.render_error.RenderError.TheVariants as render
use Rattle.render.specs.Assembly.{own_whitelist, IsAssembly}
use Rattle.render.specs.Layers.{source_at}
use Rattle.render.specs.Orders.{all_down, nodes_left, from_last, after_layers}
use Rattle.render.specs.Plans.{IsPut, HasNodeSources}
use Rattle.render.specs.PlanStates.{IsPlan, PlanStands, wanted_image}
use Rattle.render.proofs.LayingOrder.{node_left}
use Rattle.render.proofs.Stacks.{next_within, wanted_is}
use Rattle.dir_trait.specs.DirCalls.{DirAt}
use Rattle.dir_trait.specs.Effects.{OnlyAsksAndKeeps}
use Rattle.dir_model.specs.declared.request.Request.{Request}
use Rattle.image_reading.specs.declared.error.StoreError.{StoreError}
use Rattle.image_reading.specs.declared.error.StoreError.TheVariants as store
use Rattle.render.specs.declared.render_error.RenderError.{RenderError as RenderFault}
use Rattle.pod_plan.specs.declared.plan_error.PlanError.{PlanError}
use Rattle.pod_plan.specs.declared.plan_error.PlanError.TheVariants.{Damaged, RenderError, DirFault, NoMemory}
use Rattle.pod_plan.specs.Readings.{KnowsTree}
use Rattle.pod_plan.specs.Roots.{count_in_list, ComesOnce, node_key, HasReadListings, entries_together, AreFewEntries, LaysNext, IsRendered}
use Rattle.pod_plan.specs.PlanRefusals.{IsStoreLack, LacksTreeAt, plan_store_refusal, render_refusal}
use Rattle.pod_plan.specs.RootRefusals.{IsLayRefusal, IsRenderingRefusal}
use Rattle.pod_plan.proofs.Times.{times_both, times_here, by_number, with_own, own_here, own_other, sum_same, comes_first, push_other, push_apart}
use Rattle.pod_plan.proofs.Keys.{key_read}
use Rattle.pod_plan.proofs.Lacks.{tree_since, tree_later, tree_lack_since}

-- the image that is wanted is that of the next node, and then the plan isn't done
pub still_open : (plan : Plan) (image : ℕ) → Some image ≡ wanted_image plan → plan.whole ≡ None
still_open plan image is = by plan.whole (node_at plan.nodes plan.next).image is
  where
    by : (o : Option Rendering) (n : ℕ) → Some image ≡ cond (is_some o) None (Some n) → o ≡ None
    by None n h = refl
    by (Some r) n h = absurd (cc)

-- once none is wanted, no node is left
pub none_left : (plan : Plan) → None ≡ wanted_image plan → nodes_left plan ≡ []
none_left plan is = by plan.whole (node_at plan.nodes plan.next).image (all_down plan.nodes plan.next ++ after_layers plan.nodes plan.layers.items) is
  where
    by : (o : Option Rendering) (n : ℕ) (xs : List ℕ) → None ≡ cond (is_some o) None (Some n) → cond (is_some o) [] xs ≡ []
    by None n xs h = let e : None ≡ Some n = h in absurd (cc)
    by (Some r) n xs h = refl

-- the nodes that are left begin with the next
pub some_left : (plan : Plan) → IsPlan plan → plan.whole ≡ None → (others : List ℕ) × (nodes_left plan ≡ plan.next ∷ others)
some_left plan is none = (from_last (all_down plan.nodes) (node_at plan.nodes plan.next).children ++ after_layers plan.nodes plan.layers.items, node_left plan is (next_within plan is) none)

-- its place is one in the list, and its key is that of the node's image
pub wanted_within : (images : List Stored) (nodes : List DepNode) (plan : Plan) (image : ℕ) → IsOrderedTree (length images) nodes → IsPlan plan → plan.nodes ≡ nodes → Some image ≡ wanted_image plan → image < length images
wanted_within images nodes plan image order sound same is =
    let inside : plan.next < length nodes = subst (λ (ns : List DepNode). plan.next < length ns) same (next_within plan sound) in
    let here : image ≡ (node_at nodes plan.next).image = wanted_is plan image is ∙ ap (λ (ns : List DepNode). (node_at ns plan.next).image) same in
    subst (λ (n : ℕ). n < length images) (sym here) (order.images plan.next (record { image = 0; children = [] }) inside)

pub next_inside : (nodes : List DepNode) (plan : Plan) → IsPlan plan → plan.nodes ≡ nodes → plan.next < length nodes
next_inside nodes plan sound same = subst (λ (ns : List DepNode). plan.next < length ns) same (next_within plan sound)

pub wanted_key : (images : List Stored) (nodes : List DepNode) (plan : Plan) (image : ℕ) (d : Stored) → image < length images → plan.nodes ≡ nodes → Some image ≡ wanted_image plan → (get_or images image d).key ≡ node_key images nodes plan.next
wanted_key images nodes plan image d within same is =
    sym (key_read images image d within) ∙ ap (λ (n : ℕ). key_at images n) (wanted_is plan image is ∙ ap (λ (ns : List DepNode). (node_at ns plan.next).image) same)

-- why a map wasn't laid
pub lay_fault : {observed : Bool} (key : StoreKey) (plan : Plan) (map : Entries) {a b : DirAt} (r : Result Plan RenderFault) (e : RenderFault) → r ≡ Err e → (r ≡ Err TooManyEntries ↔ plan.room < length map) → KnowsTree observed key map a b
    → IsLayRefusal observed key plan (render_refusal e) a b
lay_fault key plan map r TooManyEntries is tells known = (map, known, tells.0 is)
lay_fault key plan map r render.NoMemory is tells known = tt

pub lay_lack : (observed : Bool) (key : StoreKey) (plan : Plan) (a b : DirAt) (e : StoreError) → IsStoreLack observed (λ path. LacksTreeAt key path a b) e → IsLayRefusal observed key plan (plan_store_refusal e) a b
lay_lack observed key plan a b (store.Damaged path) lack = lack
lay_lack observed key plan a b store.DirFault lack = tt
lay_lack observed key plan a b store.NoMemory lack = tt
lay_lack observed key plan a b e lack = absurd lack

-- of the nodes that were laid listings were read; the plan has room for the others, and stands for what agrees with what was read
pub record IsLaidTo (observed : Bool) (images : List Stored) (nodes : List DepNode) (plan : Plan) (old new : DirAt) : Type 0 where
  pub first : List ℕ
  pub own : ℕ → Entries
  pub read : HasReadListings observed images nodes first (nodes_left plan) own old new
  pub room : plan.room + entries_together own first ≡ MAX_ENTRIES
  pub stands : (other : ℕ → Entries) → ((n : ℕ) → 0 < count_in_list n first → other n ≡ own n) → PlanStands (own_whitelist nodes images) other plan

module _ {observed : Bool} (images : List Stored) (nodes : List DepNode) where
  -- nothing is laid
  pub none_laid : (plan : Plan) {a : DirAt} → nodes_left plan ≡ all_down nodes 0 → plan.room ≡ MAX_ENTRIES → ((own : ℕ → Entries) → PlanStands (own_whitelist nodes images) own plan) → IsLaidTo observed images nodes plan a a
  none_laid plan order room stands = record {
    first = [];
    own = λ n. [];
    read = record { order = sym order; read = λ n h. absurd (omega (arith, h)) };
    room = omega (arith, room);
    stands = λ other agrees. stands other;
  }

  module _ (once : ComesOnce nodes) (first others : List ℕ) (own : ℕ → Entries) (next : ℕ) (inside : next < length nodes) (map : Entries) {a b : DirAt} (before : HasReadListings observed images nodes first (next ∷ others) own a b) where
    fresh : count_in_list next first ≡ 0
    fresh = comes_first next (all_down nodes 0) first others (once next inside) before.order

    -- one listing more was read
    pub read_more : KnowsTree observed (node_key images nodes next) map a b → HasReadListings observed images nodes (first ++ next ∷ []) others (with_own own next map) a b
    read_more known = record {
      order = before.order ∙ sym (append_assoc first (next ∷ []) others);
      read = λ n h. by_number (KnowsTree observed (node_key images nodes n) (with_own own next map n) a b) next n
          (λ same. subst (λ (k : ℕ). KnowsTree observed (node_key images nodes k) (with_own own next map k) a b) same
          (subst (λ (es : Entries). KnowsTree observed (node_key images nodes next) es a b) (sym (own_here own next map)) known))
          (λ apart. subst (λ (es : Entries). KnowsTree observed (node_key images nodes n) es a b) (sym (own_other own next map n apart))
          (before.read n (subst (λ (k : ℕ). 0 < k) (push_other next n first apart) h)));
    }

    -- those before it have as many as they had
    pub together_before : entries_together (with_own own next map) first ≡ entries_together own first
    together_before =
        let size : (ℕ → Entries) → ℕ → ℕ = λ f n. length (f n) in
        sum_same (size (with_own own next map)) (size own) first (λ n h. ap (λ (es : Entries). length es) (own_other own next map n (push_apart next first fresh n h)))

    pub together_more : entries_together (with_own own next map) (first ++ next ∷ []) ≡ entries_together own first + length map
    together_more =
        let size : (ℕ → Entries) → ℕ → ℕ = λ f n. length (f n) in
        sum_by_push (size (with_own own next map)) first next
        ∙ ap (λ (k : ℕ). k + length (with_own own next map next)) together_before
        ∙ ap (λ (es : Entries). entries_together own first + length es) (own_here own next map)

    -- what agrees with it agrees with what was read before
    pub agrees_before : (other : ℕ → Entries) → ((n : ℕ) → 0 < count_in_list n (first ++ next ∷ []) → other n ≡ with_own own next map n) → (n : ℕ) → 0 < count_in_list n first → other n ≡ own n
    agrees_before other agrees n h =
        agrees n (omega (arith, times_both n first (next ∷ []), h)) ∙ own_other own next map n (push_apart next first fresh n h)

    pub agrees_here : (other : ℕ → Entries) → ((n : ℕ) → 0 < count_in_list n (first ++ next ∷ []) → other n ≡ with_own own next map n) → other next ≡ map
    agrees_here other agrees =
        agrees next (omega (arith, times_both next first (next ∷ []), times_here next [])) ∙ own_here own next map

  module _ {asks : Request → Bool} {Keeps : DirAt → DirAt → Type 0} {a b c : DirAt} (bc : OnlyAsksAndKeeps observed asks Keeps b c) where
    read_later : (first others : List ℕ) (own : ℕ → Entries) → HasReadListings observed images nodes first others own a b → HasReadListings observed images nodes first others own a c
    read_later first others own is = record { order = is.order; read = λ n h. tree_later (node_key images nodes n) (own n) (is.read n h) bc }

    module _ {others_ask : Request → Bool} {Holds : DirAt → DirAt → Type 0} (ab : OnlyAsksAndKeeps observed others_ask Holds a b) (once : ComesOnce nodes) (plan : Plan) (sound : IsPlan plan) (same : plan.nodes ≡ nodes) (far : IsLaidTo observed images nodes plan a b)
        (key : StoreKey) (key_is : key ≡ node_key images nodes plan.next) where
      inside : plan.next < length nodes
      inside = subst (λ (ns : List DepNode). plan.next < length ns) same (next_within plan sound)

      known_since : (map : Entries) → KnowsTree observed key map b c → KnowsTree observed (node_key images nodes plan.next) map a c
      known_since map known = tree_since (node_key images nodes plan.next) map ab (subst (λ (k : StoreKey). KnowsTree observed k map b c) key_is known)

      before_next : (others : List ℕ) → nodes_left plan ≡ plan.next ∷ others → HasReadListings observed images nodes far.first (plan.next ∷ others) far.own a c
      before_next others left = subst (λ (xs : List ℕ). HasReadListings observed images nodes far.first xs far.own a c) left (read_later far.first (nodes_left plan) far.own far.read)

      -- one map more was laid
      pub laid_more : (p : Plan) → LaysNext observed key plan p b c → IsLaidTo observed images nodes p a c
      laid_more p is =
          let lays = is.lays in
          let before = before_next (nodes_left p) lays.order in
          let known = known_since is.map is.known in
          record {
            first = far.first ++ plan.next ∷ [];
            own = with_own far.own plan.next is.map;
            read = read_more once far.first (nodes_left p) far.own plan.next inside is.map before known;
            room = omega (arith, together_more once far.first (nodes_left p) far.own plan.next inside is.map before, lays.room, far.room);
            stands = λ other agrees. lays.stands (own_whitelist nodes images) other
                (far.stands other (agrees_before once far.first (nodes_left p) far.own plan.next inside is.map before other agrees))
                (agrees_here once far.first (nodes_left p) far.own plan.next inside is.map before other agrees);
          }

      -- or it wasn't, and so there is no rendering
      pub laid_refused : plan.whole ≡ None → (e : PlanError) → IsLayRefusal observed key plan e b c → IsRenderingRefusal observed images nodes e a c
      laid_refused none (Damaged path) h =
          let left = some_left plan sound none in
          λ t. record {
            first = far.first;
            next = plan.next;
            others = left.0;
            own = far.own;
            read = before_next left.0 left.1;
            few = omega (arith, far.room);
            lacks = tree_lack_since t (node_key images nodes plan.next) path c ab (subst (λ (k : StoreKey). LacksTreeAt k path b c) key_is (h t));
          }
      laid_refused none (RenderError TooManyEntries) h =
          let left = some_left plan sound none in
          let before = before_next left.0 left.1 in
          record {
            first = far.first;
            next = plan.next;
            others = left.0;
            own = with_own far.own plan.next h.0;
            read = read_more once far.first left.0 far.own plan.next inside h.0 before (known_since h.0 h.1);
            few = omega (arith, together_before once far.first left.0 far.own plan.next inside h.0 before, far.room);
            many = omega (arith, together_more once far.first left.0 far.own plan.next inside h.0 before, far.room, h.2);
          }
      laid_refused none (RenderError render.NoMemory) h = absurd h
      laid_refused none DirFault h = tt
      laid_refused none NoMemory h = tt
      laid_refused none e h = absurd h

  -- all are laid: the rendering
  module _ {a b : DirAt} (once : ComesOnce nodes) (plan : Plan) (same : plan.nodes ≡ nodes) (far : IsLaidTo observed images nodes plan a b) (done : nodes_left plan ≡ []) where
    all : all_down nodes 0 ≡ far.first
    all = far.read.order ∙ (ap (λ (xs : List ℕ). far.first ++ xs) done ∙ append-nil far.first)

    all_read : (n : ℕ) → n < length nodes → KnowsTree observed (node_key images nodes n) (far.own n) a b
    all_read n inside =
        far.read.read n (omega (arith, subst (λ (xs : List ℕ). count_in_list n xs ≡ 1) all (once n inside)))

    all_few : AreFewEntries far.own (all_down nodes 0)
    all_few = subst (λ (xs : List ℕ). AreFewEntries far.own xs) (sym all) (omega (arith, far.room))

    stands : PlanStands (own_whitelist nodes images) far.own plan
    stands = far.stands far.own (λ n h. refl)

    pub rendered : (r : Rendering)
        → ((whitelists : ℕ → List Listed) (own : ℕ → Entries) → PlanStands whitelists own plan → IsAssembly plan.nodes whitelists own (length plan.nodes) 0 r.map)
        → ((whitelists : ℕ → List Listed) (own : ℕ → Entries) → PlanStands whitelists own plan → IsPut plan.nodes whitelists own (length plan.nodes) 0 r)
        → ((whitelists : ℕ → List Listed) (own : ℕ → Entries) → PlanStands whitelists own plan → ((n : ℕ) → n < length plan.nodes → IsPathMap (own n)) → HasNodeSources plan.nodes own (entry_at r.map) (source_at r))
        → IsRendered observed images nodes r a b
    rendered r assembly put sources = record {
      own = far.own;
      read = all_read;
      few = all_few;
      rendering = subst (λ (ns : List DepNode). IsAssembly ns (own_whitelist nodes images) far.own (length ns) 0 r.map) same (assembly (own_whitelist nodes images) far.own stands);
      sourced = subst (λ (ns : List DepNode). IsPut ns (own_whitelist nodes images) far.own (length ns) 0 r) same (put (own_whitelist nodes images) far.own stands);
      sources = subst (λ (ns : List DepNode). HasNodeSources ns far.own (entry_at r.map) (source_at r)) same
          (sources (own_whitelist nodes images) far.own stands (λ n inside. (all_read n (subst (λ (ns : List DepNode). n < length ns) same inside)).kind));
    }
