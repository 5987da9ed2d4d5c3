-- While a process may remove in a folder, what it has listed there is what stands there: through each step.
use Rattle.std.proofs.Common.{◌≡◌, ◌⊎◌, inl, inr, ℕ, zero, suc, ◌+◌, Bool, true, false, not, ◌&&◌, ◌||◌, ◌==◌, cond, bytes_eq, Option, Some, None, is_some, option_to_list, List, [], ◌∷◌, ◌++◌, length, drop, map, filter, append-nil, refl, sym, ap, subst, ◌∙◌}
use Rattle.std.specs.List.{list_any, list_all}
use Rattle.std.proofs.Math.Path.{ap₂}
use Rattle.std.proofs.lemmas.Bool.{or_left, and_parts}
use Rattle.plain_laws.proofs.Booleans.{clash}
use Rattle.plain_laws.proofs.Texts.{same_text, not_empty}
use Rattle.plain_laws.proofs.Lists.{any_left}
use Rattle.plain_laws.proofs.Numbers.{one_number}
use Rattle.dir_model.specs.declared.item.Inner.{Inner}
use Rattle.dir_model.specs.declared.item.Item.{Item}
use Rattle.dir_model.specs.declared.item.ItemKind.{ItemKind}
use Rattle.dir_model.specs.declared.item.ItemKind.TheVariants as kind
use Rattle.dir_model.specs.declared.spot.Spot.{Spot}
use Rattle.dir_model.specs.declared.intent.Intent.{Intent}
use Rattle.dir_model.specs.declared.tree.TreeEntry.{TreeEntry}
use Rattle.dir_model.specs.declared.tree.TreeNode.{TreeNode}
use Rattle.dir_model.specs.declared.tree.TreeNode.TheVariants.{Dir, Piece}
use Rattle.dir_model.specs.declared.tree.StartedApp.{StartedApp}
use Rattle.dir_model.specs.declared.tree.Listed.{Listed}
use Rattle.dir_model.specs.declared.tree.Listed.TheVariants as listed
use Rattle.dir_model.specs.declared.tree.OpenListing.{OpenListing}
use Rattle.dir_model.specs.declared.event.Event.{Event}
use Rattle.dir_model.specs.declared.request.DirError.TheVariants.{Missing, NotEmpty}
use Rattle.dir_model.specs.declared.request.Request.{Request}
use Rattle.dir_model.specs.declared.request.Request.TheVariants.{Begin, MakeFolder, MoveFolder, Open, OpenArea, TryLock, Close, ListArea, ListIn, MakeDirIn, MakeFileIn, AppendIn, ReadIn, SyncIn, SyncArea, RemoveFileIn, RemoveDirIn, RemoveFolder, Finish, Kill}
use Rattle.dir_model.specs.declared.request.Reply.{Reply}
use Rattle.dir_model.specs.declared.request.Reply.TheVariants.{Done, Begun, Opened, Names, Items, Read, Refused}
use Rattle.dir_model.specs.Paths.{is_empty, behind, is_directly_in, lies_below}
use Rattle.dir_model.specs.Trees.{is_dir, is_entry, is_dir_entry, is_file_entry, has_dir, has_file, has_children, has_parent, is_parent_entry, kind_of, items_in, is_apps_own, is_within, without_path}
use Rattle.dir_model.specs.Listings.{is_listing_request, is_listing, is_listing_of, is_named, has_named, has_item, is_item, kind_number, is_inner, listing_noted, noted_by, noted_all, listing_begun, begun_at, without_listing, listing_of, shows_items, shows_inside, item_names, ascend}
use Rattle.dir_model.specs.State.{DirState, folder_at, spot_eq, lives, has_begun}
use Rattle.dir_model.specs.Trace.{state_next, state_after, listings_replied, listings_ended, removed_in, app_started}
use Rattle.dir_model.specs.Replies.{is_reply, is_any_reply, is_apps_request, is_own_at, refused_in, file_refusal, dir_refusal}
use Rattle.dir_model.specs.Calls.{is_begin, is_kill, is_foreign, event}
use Rattle.dir_model.proofs.Lists.{and_left, and_right, and_both, not_true, or_last, any_filter, same_self, same_number}
use Rattle.dir_model.proofs.Spots.{spot_self}
use Rattle.dir_rules.specs.declared.seen.Entry.{Entry}
use Rattle.dir_rules.specs.declared.seen.Seen.{Seen}
use Rattle.dir_rules.specs.declared.seen.ShownItem.{ShownItem}
use Rattle.dir_rules.specs.Marks.{parent, path_in}
use Rattle.dir_rules.specs.Seen.{learned, inner_eq, is_item_at, is_item_in, shown_in, with_items}
use Rattle.dir_rules.specs.Standing.{gives_up}
use Rattle.dir_rules.specs.LockRules.{may_remove, is_removal_held}
use Rattle.dir_rules.specs.Rules as rules
use Rattle.dir_rules.specs.Rules.{allows, content_rules_allow, is_file_item}
use Rattle.dir_rules.specs.Conforms.{seen_of, seen_replied, nothing_seen}
use Rattle.lifecycle.specs.Executions.{IsConforming}
use Rattle.lifecycle.proofs.Lists.{In, in_map, map_in, in_filter, filter_in, any_in, in_any, find_in}
use Rattle.lifecycle.proofs.Handles.{none_refused}
use Rattle.lifecycle.proofs.Places.{same_name}
use Rattle.lifecycle.proofs.Linked.{in_both, in_second}
use Rattle.folder_contents.specs.Entries.{entries_in}
use Rattle.dir_rules.proofs.Unborn.{unborn_saw_nothing}
use Rattle.dir_model.proofs.Chains.{state_after-push}
use Rattle.dir_laws.proofs.Paths.{below_from}
use Rattle.folder_contents.proofs.Along.{Happens, happens, whose, foreign_same, own_next, along}
use Rattle.folder_contents.proofs.Knowledge.{lived}
use Rattle.folder_contents.proofs.Known.{alive_at}
use Rattle.folder_contents.proofs.Spots.{one_location}
use Rattle.folder_contents.proofs.Names.{dir_of}
use Rattle.impossible_replies.proofs.Turns.{lists_at_once}
use Rattle.impossible_replies.proofs.Alongside.{Steps, steps}
use Rattle.impossible_replies.proofs.Parents.{path_again}
use Rattle.impossible_replies.proofs.AppRoots.{root_unowned}
use Rattle.impossible_replies.proofs.LongItems.{of_all, shows_by, shows_so}
use Rattle.impossible_replies.proofs.Shapes.{Shape, parts_of, direct_parent, within_below, below_directly, shaped}
use Rattle.impossible_replies.proofs.Removers.{removing_place, one_remover, removes_at, stands_on, holds_on, UnderLock, under_lock}
use Rattle.impossible_replies.proofs.Told.{entry_in, in_entry, InsideTold, begun_told, noted_told, told_on, stands_as, ItemStands, item_at, ShowsAll, DirTold, MissingTold, OpenTold, Told, listing_from}

pub own_on : (st : DirState) (e : Event) (f : ℕ) (path : List ℕ) → is_apps_own st.apps f path ≡ true → is_apps_own (state_next st e).apps f path ≡ true
own_on st e f path h = any_left (λ a. (a.folder == f) && is_within a.root path) st.apps (option_to_list (app_started st.namespace e.request e.reply)) h

pub own_below : (apps : List StartedApp) (f : ℕ) (p x : List ℕ) → lies_below x p ≡ true → is_apps_own apps f p ≡ true → is_apps_own apps f x ≡ true
own_below apps f p x below h =
    let a = any_in (λ a. (a.folder == f) && is_within a.root p) apps h in
    let b = and_parts (a.0.folder == f) (is_within a.0.root p) a.1.1 in
    in_any (λ a. (a.folder == f) && is_within a.root x) a.0 apps a.1.0 (and_both (a.0.folder == f) (is_within a.0.root x) b.0 (within_below a.0.root p x below b.1))

-- an item at a location and path
pub at_parts : (i : Inner) (z : ShownItem) → is_item_at i z ≡ true → (z.inner.spot ≡ i.spot) × (z.inner.path ≡ i.path)
at_parts i z h =
    let x = and_parts (spot_eq z.inner.spot i.spot) (bytes_eq z.inner.path i.path) h in
    (one_location z.inner.spot i.spot x.0, same_text z.inner.path i.path x.1)

-- a step that leaves the folder there, and what it holds, leaves what is known of it
abbrev Stills : DirState → DirState → Seen → Type 0
Stills st next s =
    (here : Spot) (f : ℕ) → may_remove s.standing here ≡ true → folder_at st.namespace here ≡ Some f →
    (folder_at next.namespace here ≡ Some f) × (entries_in f next.entries ≡ entries_in f st.entries)

module _ (st : DirState) (e : Event) where
  abbrev next : DirState
  next = state_next st e

  item_on : (i : ShownItem) (t : ItemStands st i) → (folder_at next.namespace i.inner.spot ≡ Some t.folder) ×
      (entries_in t.folder next.entries ≡ entries_in t.folder st.entries) → ItemStands next i
  item_on i t x = record {
    folder = t.folder;
    there = x.0;
    stands = by t.stands;
  }
    where
      by : (is_apps_own st.apps t.folder i.inner.path ≡ true) ⊎ (stands_as i.kind i.inner.path (entries_in t.folder st.entries) ≡ true) →
          (is_apps_own next.apps t.folder i.inner.path ≡ true) ⊎ (stands_as i.kind i.inner.path (entries_in t.folder next.entries) ≡ true)
      by (inl own) = inl (own_on st e t.folder i.inner.path own)
      by (inr there) = inr (subst (λ (l : List Entry). stands_as i.kind i.inner.path l ≡ true) (sym x.1) there)

  dir_on : (items after : List ShownItem) (inner : Inner) (t : DirTold st items inner) → (folder_at next.namespace inner.spot ≡ Some t.folder) ×
      (entries_in t.folder next.entries ≡ entries_in t.folder st.entries)
      → ((path : List ℕ) → list_any (item_at inner.spot path) items ≡ true → list_any (item_at inner.spot path) after ≡ true) → DirTold next after inner
  dir_on items after inner t x more = record {
    folder = t.folder;
    there = x.0;
    told = by t.told;
  }
    where
      by : (is_apps_own st.apps t.folder inner.path ≡ true) ⊎ ShowsAll st t.folder items inner →
          (is_apps_own next.apps t.folder inner.path ≡ true) ⊎ ShowsAll next t.folder after inner
      by (inl own) = inl (own_on st e t.folder inner.path own)
      by (inr all) = inr (λ y i h. more y.path (all y (subst (λ (l : List Entry). In y l) x.1 i) h))

  open_on : (s : Seen) → Stills st next s → (l : Listed) → OpenTold st s l → OpenTold next s l
  open_on s still (listed.Area a through ever) t = tt
  open_on s still (listed.Missing here) t = λ may z i at dir.
      let x = t may z i at dir in (x.0, ((still here.spot x.0 may x.1.0).0, own_on st e x.0 here.path x.1.1))
  open_on s still (listed.Inside here f through ever) t = λ may.
      let x = t may in
      let y = still here.spot f may x.there in
      told_on st next here f through ever y.0 y.1 x

pub noted_open : (st : DirState) → Shape st.entries → (s : Seen) (l : Listed) → OpenTold st s l → OpenTold st s (listing_noted st l)
noted_open st shape s (listed.Area a through ever) t = tt
noted_open st shape s (listed.Missing here) t = t
noted_open st shape s (listed.Inside here f through ever) t = λ may. noted_told st shape here f through ever (t may)

-- who asks for a removal there may remove there
remover : (g : Seen) (here : Spot) (request : Request) → removes_at here request ≡ true → allows g request ≡ true →
    (may_remove g.standing here ≡ true) × ((is_kill request ≡ false) × (is_begin request ≡ false))
remover g here (RemoveFileIn i) at may = (subst (λ (z : Spot). may_remove g.standing z ≡ true) (sym (one_location here i.spot at)) (and_left (may_remove g.standing i.spot) (content_rules_allow g (RemoveFileIn i)) may), (refl, refl))
remover g here (RemoveDirIn i) at may = (subst (λ (z : Spot). may_remove g.standing z ≡ true) (sym (one_location here i.spot at)) (and_left (may_remove g.standing i.spot) (content_rules_allow g (RemoveDirIn i)) may), (refl, refl))
remover g here (RemoveFolder gone) at may = (subst (λ (z : Spot). may_remove g.standing z ≡ true) (sym (one_location here gone at)) (and_left (may_remove g.standing gone) (content_rules_allow g (RemoveFolder gone)) may), (refl, refl))
remover g here request at may = cc

no_kill_removal : (here : Spot) (request : Request) → is_kill request ≡ true → removes_at here request ≡ false
no_kill_removal here Kill k = refl
no_kill_removal here request k = cc

abbrev process_of : Option OpenListing → ℕ
process_of None = 0
process_of (Some l) = l.process

pub begun_by : (st : DirState) (q : ℕ) (request : Request) (l : OpenListing) → listing_begun st q request ≡ Some l → (l.process ≡ q) × (is_kill request ≡ false)
begun_by st q (ListArea a) l is = (ap (λ (o : Option OpenListing). process_of o) (sym is), refl)
begun_by st q (ListIn inner) l is = (ap (λ (o : Option OpenListing). process_of o) (sym is), refl)
begun_by st q request l is = cc

-- another's step
module _ (h : List Event) (e : Event) (c : IsConforming (h ++ e ∷ [])) (p : ℕ) (foreign : is_foreign p e ≡ true)
    (living : lives (state_after h).namespace p ≡ true) (told : Told (state_after h) p (seen_of p h)) where
  abbrev st : DirState
  st = state_after h

  abbrev s : Seen
  s = seen_of p h

  x : Happens h e
  x = happens h e c

  spared : (here : Spot) → may_remove s.standing here ≡ true → removes_at here e.request ≡ false
  spared here may = by (is_kill e.request) refl (removes_at here e.request) refl
    where
      by : (k : Bool) → is_kill e.request ≡ k → (b : Bool) → removes_at here e.request ≡ b → b ≡ false
      by k alive false at = refl
      by true alive true at = clash (removes_at here e.request) at (no_kill_removal here e.request alive)
      by false alive true at =
          let r = remover (seen_of e.process h) here e.request at (x.may alive) in
          let same : p ≡ e.process = one_remover h x.conforming p e.process here living (alive_at h e x r.1.1) may r.0 in
          clash (is_foreign p e) foreign (ap (λ k. not (e.process == p) || k) alive ∙ ap (λ b. not b || false) (ap (λ q. e.process == q) same ∙ same_self e.process))

  still : Stills st (state_next st e) s
  still here f may at = (
    stands_on st e.process (seen_of e.process h) here f (removing_place s.standing here may) at e.request e.reply x.may (spared here may) x.is,
    holds_on st e.process (seen_of e.process h) here f (removing_place s.standing here may) at e.request e.reply x.may (spared here may),
  )

  pub told_foreign : Told (state_next st e) p s
  told_foreign = record {
    items = λ i j. let t = told.items i j in item_on st e i t (still i.inner.spot t.folder ((under_lock h x.conforming p).items i j) t.there);
    dirs = λ inner j.
        let t = told.dirs inner j in
        dir_on st e s.items s.items inner t (still inner.spot t.folder ((under_lock h x.conforming p).listed inner j) t.there) (λ path y. y);
    opened = λ l i is. by l is (listing_from st e.process e.request e.reply l i);
  }
    where
      by : (l : OpenListing) → l.process ≡ p → (In l st.listings ⊎ ((l0 : OpenListing) × (In l0 st.listings × (l ≡ noted_by st l0)))) ⊎
          ((e.reply ≡ Begun) × (listing_begun st e.process e.request ≡ Some l)) → OpenTold (state_next st e) s l.listed
      by l is (inl (inl i)) = open_on st e s still l.listed (told.opened l i is)
      by l is (inl (inr (l0, (i, same)))) =
          subst (λ (z : OpenListing). OpenTold (state_next st e) s z.listed) (sym same)
          (open_on st e s still (listing_noted st l0.listed) (noted_open st (shaped h x.conforming) s l0.listed
          (told.opened l0 i (ap (λ (z : OpenListing). z.process) (sym same) ∙ is))))
      by l is (inr (begins, opens)) =
          let b = begun_by st e.process e.request l opens in
          let same : e.process ≡ p = sym b.0 ∙ is in
          clash (is_foreign p e) foreign (ap (λ k. not (e.process == p) || k) b.1 ∙ ap (λ b. not b || false) (ap (λ q. e.process == q) (sym same) ∙ same_self e.process))

abbrev inner_at : Spot → List ℕ → Inner
inner_at spot path = record { spot = spot; path = path }

-- its own step
abbrev none_left : List ℕ
none_left = []

drop_none : (n : ℕ) → drop n [] ≡ none_left
drop_none zero = refl
drop_none (suc n) = refl

no_root : (es : List TreeEntry) → Shape es → (x : TreeEntry) → In x es → is_empty x.path ≡ true → ⊥
no_root es shape x i empty = by x.path empty (shape.parents x i)
  where
    gone : (d : List ℕ) → is_directly_in d [] ≡ true → ⊥
    gone d h = clash (is_empty (behind d [])) (none d) (parts_of d [] h).1.0
      where
        none : (d : List ℕ) → is_empty (behind d []) ≡ true
        none [] = refl
        none (b ∷ d) = ap is_empty (drop_none (length (b ∷ d) + 1))

    by : (path : List ℕ) → is_empty path ≡ true → has_parent es x.folder path ≡ true → ⊥
    by (b ∷ bs) e h = cc
    by [] e h = at (is_directly_in [] []) refl h
      where
        at : (b : Bool) → is_directly_in [] [] ≡ b → (b || list_any (is_parent_entry x.folder []) es) ≡ true → ⊥
        at true f h = gone [] f
        at false f h =
            let d = any_in (is_parent_entry x.folder []) es h in
            gone d.0.path (and_right (is_dir d.0.node) (is_directly_in d.0.path []) (and_right (d.0.folder == x.folder) (is_dir d.0.node && is_directly_in d.0.path []) d.1.1))

-- what a removal leaves of a folder
gone_not : (f : ℕ) (path : List ℕ) (es : List TreeEntry) (y : Entry) → In y (entries_in f (without_path f path es ++ [])) →
    In y (entries_in f es) × (is_within path y.path ≡ false)
gone_not f path es y i =
    let x = in_entry f y (without_path f path es) (subst (λ (l : List TreeEntry). In y (entries_in f l)) (append-nil (without_path f path es)) i) in
    let z = in_filter (λ e. not ((e.folder == f) && is_within path e.path)) x.0 es x.1.0 in (
      subst (λ (w : Entry). In w (entries_in f es)) (sym x.1.1.1) (entry_in f x.0 es z.0 x.1.1.0),
      ap (λ (w : Entry). is_within path w.path) x.1.1.1
          ∙ right (x.0.folder == f) (is_within path x.0.path) x.1.1.0 (not_true ((x.0.folder == f) && is_within path x.0.path) z.1),
    )
  where
    right : (a b : Bool) → a ≡ true → (a && b) ≡ false → b ≡ false
    right true b e g = g
    right false b e g = cc

survives : (f : ℕ) (path : List ℕ) (es : List TreeEntry) (y : Entry) → In y (entries_in f es) → is_within path y.path ≡ false →
    In y (entries_in f (without_path f path es ++ []))
survives f path es y i off =
    let x = in_entry f y es i in
    subst (λ (l : List TreeEntry). In y (entries_in f l)) (sym (append-nil (without_path f path es)))
    (subst (λ (w : Entry). In w (entries_in f (without_path f path es))) (sym x.1.1.1)
    (entry_in f x.0 (without_path f path es) (filter_in (λ e. not ((e.folder == f) && is_within path e.path)) x.0 es x.1.0
    (ap not (right (x.0.folder == f) (is_within path x.0.path) (ap (λ (w : Entry). is_within path w.path) (sym x.1.1.1) ∙ off)))) x.1.1.0))
  where
    right : (a b : Bool) → b ≡ false → (a && b) ≡ false
    right true b e = e
    right false b e = refl

-- an entry of that kind
standing_entry : (k : ItemKind) (path : List ℕ) (es : List Entry) → stands_as k path es ≡ true →
    (y : Entry) × (In y es × ((y.path ≡ path) × (((is_file_item k && not (rules.is_dir y.node)) || (not (is_file_item k) && rules.is_dir y.node)) ≡ true)))
standing_entry k path es h = by (is_file_item k) refl h
  where
    by : (b : Bool) → is_file_item k ≡ b → cond b (rules.has_file_among path es) (rules.has_dir_among path es) ≡ true →
        (y : Entry) × (In y es × ((y.path ≡ path) × (((b && not (rules.is_dir y.node)) || (not b && rules.is_dir y.node)) ≡ true)))
    by true e h =
        let y = any_in (λ e. not (rules.is_dir e.node) && bytes_eq e.path path) es h in
        let z = and_parts (not (rules.is_dir y.0.node)) (bytes_eq y.0.path path) y.1.1 in
        (y.0, (y.1.0, (same_text y.0.path path z.1, or_left (not (rules.is_dir y.0.node)) false z.0)))
    by false e h =
        let y = any_in (λ e. rules.is_dir e.node && bytes_eq e.path path) es h in
        let z = and_parts (rules.is_dir y.0.node) (bytes_eq y.0.path path) y.1.1 in
        (y.0, (y.1.0, (same_text y.0.path path z.1, z.0)))

entry_stands : (k : ItemKind) (path : List ℕ) (es : List Entry) (y : Entry) → In y es → y.path ≡ path →
    ((is_file_item k && not (rules.is_dir y.node)) || (not (is_file_item k) && rules.is_dir y.node)) ≡ true → stands_as k path es ≡ true
entry_stands k path es y i same kind = by (is_file_item k) kind
  where
    by : (b : Bool) → ((b && not (rules.is_dir y.node)) || (not b && rules.is_dir y.node)) ≡ true → cond b (rules.has_file_among path es) (rules.has_dir_among path es) ≡ true
    by true h = in_any (λ e. not (rules.is_dir e.node) && bytes_eq e.path path) y es i
        (and_both (not (rules.is_dir y.node)) (bytes_eq y.path path) (left (not (rules.is_dir y.node)) h) (same_name y.path path same))
      where
        left : (a : Bool) → (a || false) ≡ true → a ≡ true
        left true h = refl
        left false h = cc
    by false h = in_any (λ e. rules.is_dir e.node && bytes_eq e.path path) y es i (and_both (rules.is_dir y.node) (bytes_eq y.path path) h (same_name y.path path same))

module _ (h : List Event) (p : ℕ) (told : Told (state_after h) p (seen_of p h)) (conforming : IsConforming h) where
  abbrev st1 : DirState
  st1 = state_after h

  abbrev s1 : Seen
  s1 = seen_of p h

  under : UnderLock s1
  under = under_lock h conforming p

  shape1 : Shape st1.entries
  shape1 = shaped h conforming

  still_own : (request : Request) (reply : Reply) → Steps h p request reply → (here : Spot) (f : ℕ) → may_remove s1.standing here ≡ true →
      folder_at st1.namespace here ≡ Some f → removes_at here request ≡ false →
      (folder_at (state_next st1 (event p request reply)).namespace here ≡ Some f) ×
      (entries_in f (state_next st1 (event p request reply)).entries ≡ entries_in f st1.entries)
  still_own request reply x here f may at off = (
    stands_on st1 p s1 here f (removing_place s1.standing here may) at request reply (λ k. x.may) off x.is,
    holds_on st1 p s1 here f (removing_place s1.standing here may) at request reply (λ k. x.may) off,
  )

  refused_still : (request : Request) (reply : Reply) (here : Spot) (f : ℕ) → folder_at st1.namespace here ≡ Some f → removes_at here request ≡ true →
      (reply ≡ Done → ⊥) → (folder_at (state_next st1 (event p request reply)).namespace here ≡ Some f) ×
      (entries_in f (state_next st1 (event p request reply)).entries ≡ entries_in f st1.entries)
  refused_still (RemoveFileIn i) Done here f at on not = absurd (not refl)
  refused_still (RemoveDirIn i) Done here f at on not = absurd (not refl)
  refused_still (RemoveFolder gone) Done here f at on not = absurd (not refl)
  refused_still (RemoveFileIn i) (Opened g) here f at on not = (at, ap (entries_in f) (append-nil st1.entries))
  refused_still (RemoveDirIn i) (Opened g) here f at on not = (at, ap (entries_in f) (append-nil st1.entries))
  refused_still (RemoveFolder gone) (Opened g) here f at on not = (at, ap (entries_in f) (append-nil st1.entries))
  refused_still (RemoveFileIn i) reply here f at on not = (at, ap (entries_in f) (append-nil st1.entries))
  refused_still (RemoveDirIn i) reply here f at on not = (at, ap (entries_in f) (append-nil st1.entries))
  refused_still (RemoveFolder gone) reply here f at on not = (at, ap (entries_in f) (append-nil st1.entries))
  refused_still request reply here f at on not = cc

  abbrev pub Spared : Request → Reply → Spot → Type 0
  Spared request reply here = removes_at here request ≡ true → reply ≡ Done → ⊥

  still_spared : (request : Request) (reply : Reply) → Steps h p request reply → (here : Spot) (f : ℕ) → may_remove s1.standing here ≡ true →
      folder_at st1.namespace here ≡ Some f → Spared request reply here →
      (folder_at (state_next st1 (event p request reply)).namespace here ≡ Some f) ×
      (entries_in f (state_next st1 (event p request reply)).entries ≡ entries_in f st1.entries)
  still_spared request reply x here f may at spare = by (removes_at here request) refl
    where
      by : (b : Bool) → removes_at here request ≡ b → (folder_at (state_next st1 (event p request reply)).namespace here ≡ Some f) ×
          (entries_in f (state_next st1 (event p request reply)).entries ≡ entries_in f st1.entries)
      by false e = still_own request reply x here f may at e
      by true e = refused_still request reply here f at e (spare e)

  -- what is kept of what was known
  pub record Kept (request : Request) (reply : Reply) : Type 0 where
    pub items : (i : ShownItem) → In i (learned s1 request reply).items → In i s1.items × Spared request reply i.inner.spot
    pub dirs : (inner : Inner) → In inner (learned s1 request reply).listed → In inner s1.listed × Spared request reply inner.spot ×
        ((path : List ℕ) → list_any (item_at inner.spot path) s1.items ≡ true → list_any (item_at inner.spot path) (learned s1 request reply).items ≡ true)

  abbrev pub ToldAfter : Request → Reply → Type 0
  ToldAfter request reply =
      ((i : ShownItem) → In i (learned s1 request reply).items → ItemStands (state_next st1 (event p request reply)) i) ×
      ((inner : Inner) → In inner (learned s1 request reply).listed → DirTold (state_next st1 (event p request reply)) (learned s1 request reply).items inner)

  told_kept : (request : Request) (reply : Reply) → Steps h p request reply → Kept request reply → ToldAfter request reply
  told_kept request reply x kept = (
    λ i j.
        let y = kept.items i j in
        let t = told.items i y.0 in
        item_on st1 (event p request reply) i t (still_spared request reply x i.inner.spot t.folder (under.items i y.0) t.there y.1),
    λ inner j.
        let y = kept.dirs inner j in
        let t = told.dirs inner y.0 in
        dir_on st1 (event p request reply) s1.items (learned s1 request reply).items inner t
        (still_spared request reply x inner.spot t.folder (under.listed inner y.0) t.there y.1) y.2,
  )

  -- lists that are the same, and lists that lose all of some locations
  same_kept : (request : Request) (reply : Reply) → (learned s1 request reply).items ≡ s1.items → (learned s1 request reply).listed ≡ s1.listed →
      ((here : Spot) → Spared request reply here) → Kept request reply
  same_kept request reply items listed spare = record {
    items = λ i j. (subst (λ (l : List ShownItem). In i l) items j, spare i.inner.spot);
    dirs = λ inner j. (
      subst (λ (l : List Inner). In inner l) listed j,
      spare inner.spot,
      λ path y. subst (λ (l : List ShownItem). list_any (item_at inner.spot path) l ≡ true) (sym items) y,
    );
  }

  lost_kept : (request : Request) (reply : Reply) (lost : Spot → Bool) →
      (learned s1 request reply).items ≡ filter (λ i. not (lost i.inner.spot)) s1.items →
      (learned s1 request reply).listed ≡ filter (λ i. not (lost i.spot)) s1.listed →
      ((here : Spot) → lost here ≡ false → Spared request reply here) → Kept request reply
  lost_kept request reply lost items listed spare = record {
    items = λ i j.
        let y = in_filter (λ i. not (lost i.inner.spot)) i s1.items (subst (λ (l : List ShownItem). In i l) items j) in
        (y.0, spare i.inner.spot (not_true (lost i.inner.spot) y.1));
    dirs = λ inner j.
        let y = in_filter (λ i. not (lost i.spot)) inner s1.listed (subst (λ (l : List Inner). In inner l) listed j) in (
          y.0,
          spare inner.spot (not_true (lost inner.spot) y.1),
          λ path z. subst (λ (l : List ShownItem). list_any (item_at inner.spot path) l ≡ true) (sym items)
              (any_filter (item_at inner.spot path) (λ i. not (lost i.inner.spot))
              (λ w t. subst (λ (here : Spot). not (lost here) ≡ true) (sym (at_parts (record { spot = inner.spot; path = path }) w t).0) y.1) s1.items z),
        );
  }

  -- an item is removed
  pub record Removal (request : Request) (j : Inner) : Type 0 where
    pub items : (learned s1 request Done).items ≡ filter (λ i. not (is_item_at j i)) s1.items
    pub listed : (learned s1 request Done).listed ≡ s1.listed
    pub places : (here : Spot) → removes_at here request ≡ spot_eq here j.spot
    pub stays : (here : Spot) (f : ℕ) → folder_at st1.namespace here ≡ Some f → folder_at (state_next st1 (event p request Done)).namespace here ≡ Some f
    -- nothing stands below what is removed, but where it is a started app's own
    pub bare : (f : ℕ) → folder_at st1.namespace j.spot ≡ Some f → is_apps_own st1.apps f j.path ≡ false →
        (has_children st1.entries f j.path ≡ true) × (list_any (is_dir_entry f j.path) st1.entries ≡ true) → ⊥
    pub full : (f : ℕ) → folder_at st1.namespace j.spot ≡ Some f → is_apps_own st1.apps f j.path ≡ false → is_empty j.path ≡ true → ⊥
    pub removed : (f : ℕ) → folder_at st1.namespace j.spot ≡ Some f →
        entries_in f (state_next st1 (event p request Done)).entries ≡ entries_in f (without_path f j.path st1.entries ++ [])

  module _ (request : Request) (j : Inner) (x : Steps h p request Done) (r : Removal request j) where
    abbrev after : DirState
    after = state_next st1 (event p request Done)

    item_here : (i : ShownItem) → is_item_at j i ≡ false → i.inner.spot ≡ j.spot → ItemStands st1 i → ItemStands after i
    item_here i other same t = record {
      folder = t.folder;
      there = r.stays i.inner.spot t.folder t.there;
      stands = by t.stands;
    }
      where
        at : folder_at st1.namespace j.spot ≡ Some t.folder
        at = subst (λ (z : Spot). folder_at st1.namespace z ≡ Some t.folder) same t.there

        within : (y : Entry) → In y (entries_in t.folder st1.entries) → y.path ≡ i.inner.path → (b : Bool) → is_within j.path y.path ≡ b →
            (is_apps_own st1.apps t.folder i.inner.path ≡ true) ⊎ (is_within j.path y.path ≡ false)
        within y k path false e = inr e
        within y k path true e = deeper (bytes_eq y.path j.path) refl e
          where
            below : lies_below y.path j.path ≡ true → (b : Bool) → is_apps_own st1.apps t.folder j.path ≡ b →
                (is_apps_own st1.apps t.folder i.inner.path ≡ true) ⊎ (is_within j.path y.path ≡ false)
            below lies true own = inl (own_below st1.apps t.folder j.path i.inner.path (subst (λ (z : List ℕ). lies_below z j.path ≡ true) path lies) own)
            below lies false plain =
                let w = in_entry t.folder y st1.entries k in
                absurd (r.bare t.folder at plain
                (below_directly st1.entries shape1 t.folder j.path w.0 w.1.0 (same_number w.0.folder t.folder w.1.1.0) (some (is_empty j.path) refl)
                (ap (λ (z : Entry). lies_below z.path j.path) (sym w.1.1.1) ∙ lies)))
              where
                some : (b : Bool) → is_empty j.path ≡ b → is_empty j.path ≡ false
                some false e = e
                some true e = absurd (r.full t.folder at plain e)

            deeper : (b : Bool) → bytes_eq y.path j.path ≡ b → (b || lies_below y.path j.path) ≡ true →
                (is_apps_own st1.apps t.folder i.inner.path ≡ true) ⊎ (is_within j.path y.path ≡ false)
            deeper true same_path h = clash (is_item_at j i)
                (and_both (spot_eq i.inner.spot j.spot) (bytes_eq i.inner.path j.path) (subst (λ (z : Spot). spot_eq i.inner.spot z ≡ true) same (spot_self i.inner.spot))
                (subst (λ (z : List ℕ). bytes_eq z j.path ≡ true) path same_path)) other
            deeper false same_path h = below h (is_apps_own st1.apps t.folder j.path) refl

        by : (is_apps_own st1.apps t.folder i.inner.path ≡ true) ⊎ (stands_as i.kind i.inner.path (entries_in t.folder st1.entries) ≡ true) →
            (is_apps_own after.apps t.folder i.inner.path ≡ true) ⊎ (stands_as i.kind i.inner.path (entries_in t.folder after.entries) ≡ true)
        by (inl own) = inl (own_on st1 (event p request Done) t.folder i.inner.path own)
        by (inr there) =
            let y = standing_entry i.kind i.inner.path (entries_in t.folder st1.entries) there in
            left y.0 y.1.0 y.1.1.0 y.1.1.1 (within y.0 y.1.0 y.1.1.0 (is_within j.path y.0.path) refl)
          where
            left : (y : Entry) → In y (entries_in t.folder st1.entries) → y.path ≡ i.inner.path →
                ((is_file_item i.kind && not (rules.is_dir y.node)) || (not (is_file_item i.kind) && rules.is_dir y.node)) ≡ true →
                (is_apps_own st1.apps t.folder i.inner.path ≡ true) ⊎ (is_within j.path y.path ≡ false) →
                (is_apps_own after.apps t.folder i.inner.path ≡ true) ⊎ (stands_as i.kind i.inner.path (entries_in t.folder after.entries) ≡ true)
            left y k path kind (inl own) = inl (own_on st1 (event p request Done) t.folder i.inner.path own)
            left y k path kind (inr off) = inr (subst (λ (l : List Entry). stands_as i.kind i.inner.path l ≡ true) (sym (r.removed t.folder at))
                (entry_stands i.kind i.inner.path (entries_in t.folder (without_path t.folder j.path st1.entries ++ [])) y
                (survives t.folder j.path st1.entries y k off) path kind))

    dir_here : (inner : Inner) → inner.spot ≡ j.spot → DirTold st1 s1.items inner → DirTold after (filter (λ i. not (is_item_at j i)) s1.items) inner
    dir_here inner same t = record {
      folder = t.folder;
      there = r.stays inner.spot t.folder t.there;
      told = by t.told;
    }
      where
        at : folder_at st1.namespace j.spot ≡ Some t.folder
        at = subst (λ (z : Spot). folder_at st1.namespace z ≡ Some t.folder) same t.there

        by : (is_apps_own st1.apps t.folder inner.path ≡ true) ⊎ ShowsAll st1 t.folder s1.items inner →
            (is_apps_own after.apps t.folder inner.path ≡ true) ⊎ ShowsAll after t.folder (filter (λ i. not (is_item_at j i)) s1.items) inner
        by (inl own) = inl (own_on st1 (event p request Done) t.folder inner.path own)
        by (inr all) = inr (λ y k direct.
            let z = gone_not t.folder j.path st1.entries y (subst (λ (l : List Entry). In y l) (r.removed t.folder at) k) in
            any_filter (item_at inner.spot y.path) (λ i. not (is_item_at j i)) (λ w hit. apart y.path w hit z.1) s1.items (all y z.0 direct))
          where
            apart : (path : List ℕ) (w : ShownItem) → item_at inner.spot path w ≡ true → is_within j.path path ≡ false → not (is_item_at j w) ≡ true
            apart path w hit off = on (is_item_at j w) refl
              where
                on : (b : Bool) → is_item_at j w ≡ b → not b ≡ true
                on false e = refl
                on true e =
                    let a = at_parts (record { spot = inner.spot; path = path }) w hit in
                    let b = at_parts j w e in
                    clash (is_within j.path path) (or_left (bytes_eq path j.path) (lies_below path j.path) (same_name path j.path (sym a.1 ∙ b.1))) off

    pub removal_told : ToldAfter request Done
    removal_told = (
      λ i k.
          let y = in_filter (λ i. not (is_item_at j i)) i s1.items (subst (λ (l : List ShownItem). In i l) r.items k) in
          item_by i y.0 (not_true (is_item_at j i) y.1) (spot_eq i.inner.spot j.spot) refl,
      λ inner k.
          let y = subst (λ (l : List Inner). In inner l) r.listed k in
          subst (λ (l : List ShownItem). DirTold after l inner) (sym r.items) (dir_by inner y (spot_eq inner.spot j.spot) refl),
    )
      where
        item_by : (i : ShownItem) → In i s1.items → is_item_at j i ≡ false → (b : Bool) → spot_eq i.inner.spot j.spot ≡ b → ItemStands after i
        item_by i k other true e = item_here i other (one_location i.inner.spot j.spot e) (told.items i k)
        item_by i k other false e =
            let t = told.items i k in
            item_on st1 (event p request Done) i t (still_own request Done x i.inner.spot t.folder (under.items i k) t.there (r.places i.inner.spot ∙ e))

        dir_by : (inner : Inner) → In inner s1.listed → (b : Bool) → spot_eq inner.spot j.spot ≡ b → DirTold after (filter (λ i. not (is_item_at j i)) s1.items) inner
        dir_by inner k true e = dir_here inner (one_location inner.spot j.spot e) (told.dirs inner k)
        dir_by inner k false e =
            let t = told.dirs inner k in
            dir_on st1 (event p request Done) s1.items (filter (λ i. not (is_item_at j i)) s1.items) inner t
            (still_own request Done x inner.spot t.folder (under.listed inner k) t.there (r.places inner.spot ∙ e))
            (λ path z. any_filter (item_at inner.spot path) (λ i. not (is_item_at j i)) (λ w hit. elsewhere path w hit) s1.items z)
          where
            elsewhere : (path : List ℕ) (w : ShownItem) → item_at inner.spot path w ≡ true → not (is_item_at j w) ≡ true
            elsewhere path w hit = on (is_item_at j w) refl
              where
                on : (b : Bool) → is_item_at j w ≡ b → not b ≡ true
                on false f = refl
                on true f =
                    let a = at_parts (record { spot = inner.spot; path = path }) w hit in
                    let b = at_parts j w f in
                    clash (spot_eq inner.spot j.spot) (subst (λ (z : Spot). spot_eq inner.spot z ≡ true) (sym a.0 ∙ b.0) (spot_self inner.spot)) e

  -- a directory was listed
  module _ (inner : Inner) (new : List Item) (x : Steps h p (ListIn inner) (Items new)) (may : may_remove s1.standing inner.spot ≡ true) where
    abbrev listed_items : List ShownItem
    listed_items = with_items inner new s1.items

    abbrev listed_after : DirState
    listed_after = state_next st1 (event p (ListIn inner) (Items new))

    -- what is told of the directory, by a started app or by what stands
    pub record Answer : Type 0 where
      pub folder : ℕ
      pub there : folder_at st1.namespace inner.spot ≡ Some folder
      pub says : (is_apps_own st1.apps folder inner.path ≡ true) ⊎
          (((item : Item) → In item new → (y : Entry) × (In y (entries_in folder st1.entries) × ((y.path ≡ path_in inner.path item.name) ×
          (((is_file_item item.kind && not (rules.is_dir y.node)) || (not (is_file_item item.kind) && rules.is_dir y.node)) ≡ true)))) ×
          ((y : Entry) → In y (entries_in folder st1.entries) → is_directly_in inner.path y.path ≡ true →
          (item : Item) × (In item new × (path_in inner.path item.name ≡ y.path))))

    kind_same : (a b : ItemKind) (node : TreeNode) → (kind_number a == kind_number b) ≡ true → a ≡ kind_of node →
        ((is_file_item b && not (rules.is_dir node)) || (not (is_file_item b) && rules.is_dir node)) ≡ true
    kind_same a kind.Dir Dir n e = refl
    kind_same a kind.File (Piece bytes) n e = refl
    kind_same a kind.Other (Piece bytes) n e = clash (kind_number a == 2) n (ap (λ (k : ItemKind). kind_number k == 2) e)
    kind_same a kind.Dir (Piece bytes) n e = clash (kind_number a == 0) n (ap (λ (k : ItemKind). kind_number k == 0) e)
    kind_same a kind.File Dir n e = clash (kind_number a == 1) n (ap (λ (k : ItemKind). kind_number k == 1) e)
    kind_same a kind.Other Dir n e = clash (kind_number a == 2) n (ap (λ (k : ItemKind). kind_number k == 2) e)

    plain_answer : (here : Inner) (f : ℕ) (through ever : List Item) → here ≡ inner → shows_items through ever new ≡ true → InsideTold st1 here f through ever → Answer
    plain_answer here f through ever same shows t = record {
      folder = f;
      there = subst (λ (z : Inner). folder_at st1.namespace z.spot ≡ Some f) same t.there;
      says = inr (only, all);
    }
      where
        parts : (list_all (has_named new) through ≡ true) × (list_all (has_item (through ++ ever)) new ≡ true)
        parts = and_parts (list_all (has_named new) through) (list_all (has_item (through ++ ever)) new)
            (and_right (ascend (item_names new)) (list_all (has_named new) through && list_all (has_item (through ++ ever)) new) shows)

        path : here.path ≡ inner.path
        path = ap (λ (z : Inner). z.path) same

        only : (item : Item) → In item new → (y : Entry) × (In y (entries_in f st1.entries) × ((y.path ≡ path_in inner.path item.name) ×
            (((is_file_item item.kind && not (rules.is_dir y.node)) || (not (is_file_item item.kind) && rules.is_dir y.node)) ≡ true)))
        only item i =
            let z = any_in (is_item item) (through ++ ever) (of_all (has_item (through ++ ever)) item new i parts.1) in
            let w = and_parts (bytes_eq z.0.name item.name) (kind_number z.0.kind == kind_number item.kind) z.1.1 in
            let y = t.noted z.0 (in_both z.0 through ever z.1.0) in
            let name : z.0.name ≡ item.name = same_text z.0.name item.name w.0 in (
              y.entry,
              (
                y.there,
                (
                  sym (path_again here.path y.entry.path (parts_of here.path y.entry.path y.child).0)
                      ∙ (ap (λ (n : List ℕ). path_in here.path n) (sym y.name ∙ name) ∙ ap (λ (d : List ℕ). path_in d item.name) path),
                  kind_same z.0.kind item.kind y.entry.node w.1 y.kind,
                ),
              ),
            )

        all : (y : Entry) → In y (entries_in f st1.entries) → is_directly_in inner.path y.path ≡ true →
            (item : Item) × (In item new × (path_in inner.path item.name ≡ y.path))
        all y i direct =
            let here_direct : is_directly_in here.path y.path ≡ true = subst (λ (d : List ℕ). is_directly_in d y.path ≡ true) (sym path) direct in
            let z = any_in (is_named (behind here.path y.path)) through (t.all y i here_direct) in
            let w = any_in (is_named z.0.name) new (of_all (has_named new) z.0 through z.1.0 parts.0) in
            let name : w.0.name ≡ behind here.path y.path = same_text w.0.name z.0.name w.1.1 ∙ same_text z.0.name (behind here.path y.path) z.1.1 in (
              w.0,
              (
                w.1.0,
                ap (λ (d : List ℕ). path_in d w.0.name) (sym path) ∙ (ap (λ (n : List ℕ). path_in here.path n) name
                    ∙ path_again here.path y.path (parts_of here.path y.path here_direct).0),
              ),
            )

    answer : Answer
    answer = by (is_apps_request st1 (ListIn inner)) refl
      where
        own : (o : Option ℕ) → folder_at st1.namespace inner.spot ≡ o → is_own_at st1 inner.path o ≡ true → Answer
        own None at h = cc
        own (Some f) at h = record { folder = f; there = at; says = inl h }

        inside : (l : Listed) → OpenTold st1 s1 l → shows_by inner new l ≡ true → Answer
        inside (listed.Inside here f through ever) t shows =
            let y = and_parts (is_inner here inner) (shows_items through ever new) shows in
            let z = and_parts (spot_eq here.spot inner.spot) (bytes_eq here.path inner.path) y.0 in
            let same : here ≡ inner = ap₂ (λ (a : Spot) (b : List ℕ). inner_at a b) (one_location here.spot inner.spot z.0) (same_text here.path inner.path z.1) in
            plain_answer here f through ever same y.1 (t (subst (λ (w : Inner). may_remove s1.standing w.spot ≡ true) (sym same) may))
        inside (listed.Area a through ever) t shows = cc
        inside (listed.Missing here) t shows = cc

        opened : (o : Option OpenListing) → listing_of st1 p ≡ o → shows_inside inner new o ≡ true → Answer
        opened None e shows = cc
        opened (Some l) e shows =
            let f = find_in (is_listing_of p) l (noted_all st1 st1.listings) e in
            let g = in_map (noted_by st1) st1.listings l f.0 in
            inside l.listed
            (subst (λ (z : OpenListing). OpenTold st1 s1 z.listed) (sym g.1.1)
            (noted_open st1 shape1 s1 g.0.listed (told.opened g.0 g.1.0 (ap (λ (z : OpenListing). z.process) (sym g.1.1) ∙ same_number l.process p f.1))))
            (sym (shows_so inner new l) ∙ shows)

        by : (b : Bool) → is_apps_request st1 (ListIn inner) ≡ b → Answer
        by true e = own (folder_at st1.namespace inner.spot) refl e
        by false e = opened (listing_of st1 p) refl
            (ap (λ b. cond b (is_any_reply st1 p (ListIn inner) (Items new)) (shows_inside inner new (listing_of st1 p))) (sym e) ∙ x.is)

    abbrev Answers : Type 0
    Answers = (is_apps_own st1.apps answer.folder inner.path ≡ true) ⊎
        (((item : Item) → In item new → (y : Entry) × (In y (entries_in answer.folder st1.entries) × ((y.path ≡ path_in inner.path item.name) ×
        (((is_file_item item.kind && not (rules.is_dir y.node)) || (not (is_file_item item.kind) && rules.is_dir y.node)) ≡ true)))) ×
        ((y : Entry) → In y (entries_in answer.folder st1.entries) → is_directly_in inner.path y.path ≡ true →
        (item : Item) × (In item new × (path_in inner.path item.name ≡ y.path))))

    -- a path in the directory is the app's own where the directory is
    own_in : (f : ℕ) (name : List ℕ) → is_apps_own st1.apps f inner.path ≡ true → is_apps_own st1.apps f (path_in inner.path name) ≡ true
    own_in f name own = by inner.path own
      where
        by : (d : List ℕ) → is_apps_own st1.apps f d ≡ true → is_apps_own st1.apps f (path_in d name) ≡ true
        by [] own = clash (is_apps_own st1.apps f []) own (root_unowned h f)
        by (b ∷ d) own = own_below st1.apps f (b ∷ d) ((b ∷ d) ++ 47 ∷ name) (below_from (b ∷ d) name (not_empty b d)) own

    list_still : (here : Spot) (f : ℕ) → folder_at st1.namespace here ≡ Some f →
        (folder_at (state_next st1 (event p (ListIn inner) (Items new))).namespace here ≡ Some f) ×
        (entries_in f (state_next st1 (event p (ListIn inner) (Items new))).entries ≡ entries_in f st1.entries)
    list_still here f at = (at, ap (entries_in f) (append-nil st1.entries))

    new_item : (item : Item) → In item new → ItemStands st1 (shown_in inner item)
    new_item item i = record {
      folder = answer.folder;
      there = answer.there;
      stands = by answer.says;
    }
      where
        by : Answers → (is_apps_own st1.apps answer.folder (path_in inner.path item.name) ≡ true) ⊎
            (stands_as item.kind (path_in inner.path item.name) (entries_in answer.folder st1.entries) ≡ true)
        by (inl own) = inl (own_in answer.folder item.name own)
        by (inr (only, all)) =
            let y = only item i in
            inr (entry_stands item.kind (path_in inner.path item.name) (entries_in answer.folder st1.entries) y.0 y.1.0 y.1.1.0 y.1.1.1)

    new_dir : DirTold st1 listed_items inner
    new_dir = record {
      folder = answer.folder;
      there = answer.there;
      told = by answer.says;
    }
      where
        by : Answers → (is_apps_own st1.apps answer.folder inner.path ≡ true) ⊎ ShowsAll st1 answer.folder listed_items inner
        by (inl own) = inl own
        by (inr (only, all)) = inr (λ y i direct.
            let item = all y i direct in
            in_any (item_at inner.spot y.path) (shown_in inner item.0) listed_items
            (in_second (shown_in inner item.0) (filter (λ i. not (is_item_in inner i)) s1.items) (map (shown_in inner) new) (map_in (shown_in inner) item.0 new item.1.0))
            (and_both (spot_eq inner.spot inner.spot) (bytes_eq (path_in inner.path item.0.name) y.path) (spot_self inner.spot)
            (same_name (path_in inner.path item.0.name) y.path item.1.1)))

    old_dir : (other : Inner) → In other s1.listed → inner_eq other inner ≡ false → DirTold st1 listed_items other
    old_dir other j apart = let t = told.dirs other j in record {
      folder = t.folder;
      there = t.there;
      told = by t.folder t.told;
    }
      where
        stays : (y : Entry) → is_directly_in other.path y.path ≡ true → (w : ShownItem) → item_at other.spot y.path w ≡ true → not (is_item_in inner w) ≡ true
        stays y direct w hit = on (is_item_in inner w) refl
          where
            on : (b : Bool) → is_item_in inner w ≡ b → not b ≡ true
            on false e = refl
            on true e =
                let a = at_parts (record { spot = other.spot; path = y.path }) w hit in
                let b = and_parts (spot_eq w.inner.spot inner.spot) (bytes_eq (parent w.inner.path) inner.path) e in
                clash (inner_eq other inner)
                (and_both (spot_eq other.spot inner.spot) (bytes_eq other.path inner.path) (subst (λ (z : Spot). spot_eq z inner.spot ≡ true) a.0 b.0)
                (same_name other.path inner.path (sym (direct_parent other.path y.path direct)
                ∙ (ap parent (sym a.1) ∙ same_text (parent w.inner.path) inner.path b.1)))) apart

        by : (f : ℕ) → (is_apps_own st1.apps f other.path ≡ true) ⊎ ShowsAll st1 f s1.items other →
            (is_apps_own st1.apps f other.path ≡ true) ⊎ ShowsAll st1 f listed_items other
        by f (inl own) = inl own
        by f (inr all) = inr (λ y i direct.
            any_left (item_at other.spot y.path) (filter (λ i. not (is_item_in inner i)) s1.items) (map (shown_in inner) new)
            (any_filter (item_at other.spot y.path) (λ i. not (is_item_in inner i)) (stays y direct) s1.items (all y i direct)))

    pub listing_told : ToldAfter (ListIn inner) (Items new)
    listing_told = (
      λ i j. item_by i (in_both i (filter (λ i. not (is_item_in inner i)) s1.items) (map (shown_in inner) new)
          (subst (λ (b : Bool). In i (cond b (with_items inner new s1.items) s1.items)) may j)),
      λ other j.
          subst (λ (b : Bool). DirTold listed_after (cond b (with_items inner new s1.items) s1.items) other) (sym may)
          (dir_by other (subst (λ (b : Bool). In other (cond b (inner ∷ s1.listed) s1.listed)) may j)),
    )
      where
        item_by : (i : ShownItem) → In i (filter (λ i. not (is_item_in inner i)) s1.items) ⊎ In i (map (shown_in inner) new) → ItemStands listed_after i
        item_by i (inl j) =
            let t = told.items i (in_filter (λ i. not (is_item_in inner i)) i s1.items j).0 in
            item_on st1 (event p (ListIn inner) (Items new)) i t (list_still i.inner.spot t.folder t.there)
        item_by i (inr j) =
            let y = in_map (shown_in inner) new i j in
            let t = new_item y.0 y.1.0 in
            subst (λ (z : ShownItem). ItemStands listed_after z) (sym y.1.1)
            (item_on st1 (event p (ListIn inner) (Items new)) (shown_in inner y.0) t (list_still inner.spot t.folder t.there))

        next_dir : (other : Inner) → DirTold st1 listed_items other → DirTold listed_after listed_items other
        next_dir other t = dir_on st1 (event p (ListIn inner) (Items new)) listed_items listed_items other t (list_still other.spot t.folder t.there) (λ path z. z)

        dir_by : (other : Inner) → In other (inner ∷ s1.listed) → DirTold listed_after listed_items other
        dir_by other (inl same) = subst (λ (z : Inner). DirTold listed_after listed_items z) (sym same) (next_dir inner new_dir)
        dir_by other (inr j) = at (inner_eq other inner) refl
          where
            at : (b : Bool) → inner_eq other inner ≡ b → DirTold listed_after listed_items other
            at false e = next_dir other (old_dir other j e)
            at true e =
                let z = and_parts (spot_eq other.spot inner.spot) (bytes_eq other.path inner.path) e in
                let same : other ≡ inner = ap₂ (λ (a : Spot) (b : List ℕ). inner_at a b) (one_location other.spot inner.spot z.0) (same_text other.path inner.path z.1) in
                subst (λ (z : Inner). DirTold listed_after listed_items z) (sym same) (next_dir inner new_dir)

  -- any step of its own
  none_removed : (request : Request) → ((here : Spot) → removes_at here request ≡ false) → (reply : Reply) → (here : Spot) → Spared request reply here
  none_removed request off reply here at done = clash (removes_at here request) at (off here)

  not_done : (request : Request) (reply : Reply) → (reply ≡ Done → ⊥) → (here : Spot) → Spared request reply here
  not_done request reply never here at done = never done

  app_at : (j : Inner) (f : ℕ) → folder_at st1.namespace j.spot ≡ Some f → is_apps_own st1.apps f j.path ≡ false → is_own_at st1 j.path (folder_at st1.namespace j.spot) ≡ false
  app_at j f at plain = ap (λ (o : Option ℕ). is_own_at st1 j.path o) at ∙ plain

  no_entry : (f : ℕ) (path : List ℕ) → is_empty path ≡ true → (t : TreeEntry → Bool) → ((y : TreeEntry) → t y ≡ true → bytes_eq y.path path ≡ true) →
      list_any t st1.entries ≡ true → ⊥
  no_entry f path empty t at h =
      let y = any_in t st1.entries h in
      no_root st1.entries shape1 y.0 y.1.0 (ap is_empty (same_text y.0.path path (at y.0 y.1.1)) ∙ empty)

  file_gone : (j : Inner) (x : Steps h p (RemoveFileIn j) Done) (f : ℕ) → folder_at st1.namespace j.spot ≡ Some f → is_apps_own st1.apps f j.path ≡ false →
      has_file st1.entries f j.path ≡ true
  file_gone j x f at plain = by (has_file st1.entries f j.path) (sym (ap (λ (o : Option ℕ). is_some (refused_in (file_refusal j.path) st1.entries o)) at)
      ∙ none_refused st1 p (RemoveFileIn j) (app_at j f at plain) x.is)
    where
      by : (b : Bool) → is_some (cond b None (Some Missing)) ≡ false → b ≡ true
      by true e = refl
      by false e = cc

  dir_gone : (j : Inner) (x : Steps h p (RemoveDirIn j) Done) (f : ℕ) → folder_at st1.namespace j.spot ≡ Some f → is_apps_own st1.apps f j.path ≡ false →
      (list_any (is_dir_entry f j.path) st1.entries ≡ true) × (has_children st1.entries f j.path ≡ false)
  dir_gone j x f at plain = by (list_any (is_dir_entry f j.path) st1.entries) (has_children st1.entries f j.path)
      (sym (ap (λ (o : Option ℕ). is_some (refused_in (dir_refusal j.path) st1.entries o)) at) ∙ none_refused st1 p (RemoveDirIn j) (app_at j f at plain) x.is)
    where
      by : (a b : Bool) → is_some (cond a (cond b (Some NotEmpty) None) (Some Missing)) ≡ false → (a ≡ true) × (b ≡ false)
      by true false e = (refl, refl)
      by true true e = cc
      by false b e = cc

  file_removal : (j : Inner) → Steps h p (RemoveFileIn j) Done → Removal (RemoveFileIn j) j
  file_removal j x = record {
    items = refl;
    listed = refl;
    places = λ here. refl;
    stays = λ here f at. at;
    bare = λ f at plain below. shape1.single f j.path below.1 (file_gone j x f at plain);
    full = λ f at plain empty. no_entry f j.path empty (is_file_entry f j.path)
        (λ y t. and_right (y.folder == f) (bytes_eq y.path j.path) (and_left (is_entry f j.path y) (not (is_dir y.node)) t)) (file_gone j x f at plain);
    removed = λ f at. ap (λ (o : Option ℕ). entries_in f (removed_in o j.path st1.entries ++ [])) at;
  }

  dir_removal : (j : Inner) → Steps h p (RemoveDirIn j) Done → Removal (RemoveDirIn j) j
  dir_removal j x = record {
    items = refl;
    listed = refl;
    places = λ here. refl;
    stays = λ here f at. at;
    bare = λ f at plain below. clash (has_children st1.entries f j.path) below.0 (dir_gone j x f at plain).1;
    full = λ f at plain empty. no_entry f j.path empty (is_dir_entry f j.path)
        (λ y t. and_right (y.folder == f) (bytes_eq y.path j.path) (and_left (is_entry f j.path y) (is_dir y.node) t)) (dir_gone j x f at plain).0;
    removed = λ f at. ap (λ (o : Option ℕ). entries_in f (removed_in o j.path st1.entries ++ [])) at;
  }

  told_by : (request : Request) (reply : Reply) → Steps h p request reply → ToldAfter request reply
  told_by (RemoveFileIn j) Done x = removal_told (RemoveFileIn j) j x (file_removal j x)
  told_by (RemoveDirIn j) Done x = removal_told (RemoveDirIn j) j x (dir_removal j x)
  told_by (RemoveFolder gone) Done x = told_kept (RemoveFolder gone) Done x
      (lost_kept (RemoveFolder gone) Done (λ here. spot_eq here gone) refl refl (λ here off at done. clash (spot_eq here gone) at off))
  told_by (MoveFolder from to) Done x = told_kept (MoveFolder from to) Done x
      (lost_kept (MoveFolder from to) Done (λ here. spot_eq here to) refl refl (λ here off. none_removed (MoveFolder from to) (λ z. refl) Done here))
  told_by (Close handle) Done x = told_kept (Close handle) Done x
      (lost_kept (Close handle) Done (λ here. gives_up (is_removal_held here) handle s1.standing.holdings) refl refl (λ here off. none_removed (Close handle) (λ z. refl) Done here))
  told_by Finish Done x = (λ i j. absurd j, λ inner j. absurd j)
  told_by (ListIn inner) (Items new) x = by (may_remove s1.standing inner.spot) refl
    where
      by : (b : Bool) → may_remove s1.standing inner.spot ≡ b → ToldAfter (ListIn inner) (Items new)
      by true e = listing_told inner new x e
      by false e = told_kept (ListIn inner) (Items new) x
          (same_kept (ListIn inner) (Items new) (ap (λ b. cond b (with_items inner new s1.items) s1.items) e) (ap (λ b. cond b (inner ∷ s1.listed) s1.listed) e)
          (none_removed (ListIn inner) (λ z. refl) (Items new)))
  told_by (Begin intent) Done x = cc
  told_by (MakeFolder spot) Done x = told_kept (MakeFolder spot) Done x (same_kept (MakeFolder spot) Done refl refl (none_removed (MakeFolder spot) (λ z. refl) Done))
  told_by (MakeDirIn i) Done x = told_kept (MakeDirIn i) Done x (same_kept (MakeDirIn i) Done refl refl (none_removed (MakeDirIn i) (λ z. refl) Done))
  told_by (MakeFileIn i) Done x = told_kept (MakeFileIn i) Done x (same_kept (MakeFileIn i) Done refl refl (none_removed (MakeFileIn i) (λ z. refl) Done))
  told_by (AppendIn i piece) Done x = told_kept (AppendIn i piece) Done x (same_kept (AppendIn i piece) Done refl refl (none_removed (AppendIn i piece) (λ z. refl) Done))
  told_by (SyncIn i) Done x = told_kept (SyncIn i) Done x (same_kept (SyncIn i) Done refl refl (none_removed (SyncIn i) (λ z. refl) Done))
  told_by (Open spot w) Done x = told_kept (Open spot w) Done x (same_kept (Open spot w) Done refl refl (none_removed (Open spot w) (λ z. refl) Done))
  told_by (OpenArea a) Done x = told_kept (OpenArea a) Done x (same_kept (OpenArea a) Done refl refl (none_removed (OpenArea a) (λ z. refl) Done))
  told_by (TryLock handle mode) Done x = told_kept (TryLock handle mode) Done x (same_kept (TryLock handle mode) Done refl refl (none_removed (TryLock handle mode) (λ z. refl) Done))
  told_by (ListArea a) Done x = told_kept (ListArea a) Done x (same_kept (ListArea a) Done refl refl (none_removed (ListArea a) (λ z. refl) Done))
  told_by (ListIn i) Done x = told_kept (ListIn i) Done x (same_kept (ListIn i) Done refl refl (none_removed (ListIn i) (λ z. refl) Done))
  told_by (ReadIn i at room) Done x = told_kept (ReadIn i at room) Done x (same_kept (ReadIn i at room) Done refl refl (none_removed (ReadIn i at room) (λ z. refl) Done))
  told_by (SyncArea a) Done x = told_kept (SyncArea a) Done x (same_kept (SyncArea a) Done refl refl (none_removed (SyncArea a) (λ z. refl) Done))
  told_by Kill Done x = told_kept Kill Done x (same_kept Kill Done refl refl (none_removed Kill (λ z. refl) Done))
  told_by (MakeDirIn i) (Refused e left) x = told_kept (MakeDirIn i) (Refused e left) x (same_kept (MakeDirIn i) (Refused e left) refl refl (not_done (MakeDirIn i) (Refused e left) (λ z. cc)))
  told_by (MakeFileIn i) (Refused e left) x = told_kept (MakeFileIn i) (Refused e left) x (same_kept (MakeFileIn i) (Refused e left) refl refl (not_done (MakeFileIn i) (Refused e left) (λ z. cc)))
  told_by (AppendIn i piece) (Refused e left) x =
      told_kept (AppendIn i piece) (Refused e left) x (same_kept (AppendIn i piece) (Refused e left) refl refl (not_done (AppendIn i piece) (Refused e left) (λ z. cc)))
  told_by (SyncIn i) (Refused e left) x = told_kept (SyncIn i) (Refused e left) x (same_kept (SyncIn i) (Refused e left) refl refl (not_done (SyncIn i) (Refused e left) (λ z. cc)))
  told_by request (Refused e left) x = told_kept request (Refused e left) x (same_kept request (Refused e left) refl refl (not_done request (Refused e left) (λ z. cc)))
  told_by request (Items new) x = told_kept request (Items new) x (same_kept request (Items new) refl refl (not_done request (Items new) (λ z. cc)))
  told_by (ListArea a) (Names names) x = told_kept (ListArea a) (Names names) x (same_kept (ListArea a) (Names names) refl refl (not_done (ListArea a) (Names names) (λ z. cc)))
  told_by request (Names names) x = told_kept request (Names names) x (same_kept request (Names names) refl refl (not_done request (Names names) (λ z. cc)))
  told_by request Begun x = told_kept request Begun x (same_kept request Begun refl refl (not_done request Begun (λ z. cc)))
  told_by request (Opened g) x = told_kept request (Opened g) x (same_kept request (Opened g) refl refl (not_done request (Opened g) (λ z. cc)))
  told_by request (Read bytes) x = told_kept request (Read bytes) x (same_kept request (Read bytes) refl refl (not_done request (Read bytes) (λ z. cc)))

  -- the listings that it has open then
  pub ends : (request : Request) (reply : Reply) (l : OpenListing) → is_listing_request request ≡ true → is_listing st1 p ≡ true →
      is_reply st1 p request reply ≡ true → In l (listings_replied st1 p request reply) → l.process ≡ p → ⊥
  ends request (Names names) l on lists is i same = over request l on i same
    where
      over : (request : Request) (l : OpenListing) → is_listing_request request ≡ true → In l (listings_ended st1 p request) → l.process ≡ p → ⊥
      over request l on i same = clash (l.process == p) (ap (λ q. q == p) same ∙ same_self p)
          (not_true (l.process == p) (in_filter (λ z. not (is_listing_of p z)) l st1.listings (subst (λ (b : Bool). In l (cond b (without_listing p st1.listings) st1.listings)) on i)).1)
  ends request (Items items) l on lists is i same = clash (l.process == p) (ap (λ q. q == p) same ∙ same_self p)
      (not_true (l.process == p) (in_filter (λ z. not (is_listing_of p z)) l st1.listings (subst (λ (b : Bool). In l (cond b (without_listing p st1.listings) st1.listings)) on i)).1)
  ends request (Refused error left) l on lists is i same = clash (l.process == p) (ap (λ q. q == p) same ∙ same_self p)
      (not_true (l.process == p) (in_filter (λ z. not (is_listing_of p z)) l st1.listings (subst (λ (b : Bool). In l (cond b (without_listing p st1.listings) st1.listings)) on i)).1)
  ends request Begun l on lists is i same = by (is_apps_request st1 request) is
    where
      by : (b : Bool) → cond b (is_listing_request request && not (is_listing st1 p)) (is_listing_request request && not (is_listing st1 p)) ≡ true → ⊥
      by true h = clash (is_listing st1 p) lists (not_true (is_listing st1 p) (and_right (is_listing_request request) (not (is_listing st1 p)) h))
      by false h = clash (is_listing st1 p) lists (not_true (is_listing st1 p) (and_right (is_listing_request request) (not (is_listing st1 p)) h))
  ends (ListArea a) Done l on lists is i same = cc
  ends (ListArea a) (Opened g) l on lists is i same = cc
  ends (ListArea a) (Read bytes) l on lists is i same = cc
  ends (ListIn inner) Done l on lists is i same = never (is_apps_request st1 (ListIn inner)) is
    where
      never : (b : Bool) → cond b false false ≡ true → ⊥
      never true h = cc
      never false h = cc
  ends (ListIn inner) (Opened g) l on lists is i same = never (is_apps_request st1 (ListIn inner)) is
    where
      never : (b : Bool) → cond b false false ≡ true → ⊥
      never true h = cc
      never false h = cc
  ends (ListIn inner) (Read bytes) l on lists is i same = never (is_apps_request st1 (ListIn inner)) is
    where
      never : (b : Bool) → cond b false false ≡ true → ⊥
      never true h = cc
      never false h = cc
  ends request Done l on lists is i same = cc
  ends request (Opened g) l on lists is i same = cc
  ends request (Read bytes) l on lists is i same = cc

  abbrev listed_by : Request → Option OpenListing → Type 0
  listed_by request None = Unit {0}
  listed_by request (Some l) = OpenTold (state_next st1 (event p request Begun)) (seen_replied s1 request Begun) l.listed

  open_inside : (inner : Inner) (o : Option ℕ) → folder_at st1.namespace inner.spot ≡ o →
      OpenTold (state_next st1 (event p (ListIn inner) Begun)) (seen_replied s1 (ListIn inner) Begun) (begun_at st1 inner o)
  open_inside inner None e = λ may z i at dir.
      let t = told.items z i in
      absurd (none (ap (λ (here : Spot). folder_at st1.namespace here) (at_parts inner z at).0 ∙ e) t.folder t.there)
    where
      none : {o : Option ℕ} → o ≡ None → (f : ℕ) → o ≡ Some f → ⊥
      none {o} e f g = clash (is_some o) (ap (λ (x : Option ℕ). is_some x) g) (ap (λ (x : Option ℕ). is_some x) e)
  open_inside inner (Some f) e = by (has_dir st1.entries f inner.path) refl
    where
      lost : has_dir st1.entries f inner.path ≡ false → MissingTold (state_next st1 (event p (ListIn inner) Begun)) (seen_replied s1 (ListIn inner) Begun) inner
      lost off z i at dir = on t.stands
        where
          t : ItemStands st1 z
          t = told.items z i

          same : (z.inner.spot ≡ inner.spot) × (z.inner.path ≡ inner.path)
          same = at_parts inner z at

          number : t.folder ≡ f
          number = one_number t.folder f (sym t.there ∙ (ap (λ (here : Spot). folder_at st1.namespace here) same.0 ∙ e))

          on : (is_apps_own st1.apps t.folder z.inner.path ≡ true) ⊎ (stands_as z.kind z.inner.path (entries_in t.folder st1.entries) ≡ true) →
              (g : ℕ) × ((folder_at (state_next st1 (event p (ListIn inner) Begun)).namespace inner.spot ≡ Some g) ×
              (is_apps_own (state_next st1 (event p (ListIn inner) Begun)).apps g inner.path ≡ true))
          on (inl own) = (
            f,
            (
              e,
              own_on st1 (event p (ListIn inner) Begun) f inner.path
                  (subst (λ (q : List ℕ). is_apps_own st1.apps f q ≡ true) same.1 (subst (λ (g : ℕ). is_apps_own st1.apps g z.inner.path ≡ true) number own)),
            ),
          )
          on (inr there) =
              let dirs : rules.has_dir_among inner.path (entries_in f st1.entries) ≡ true =
              subst (λ (q : List ℕ). rules.has_dir_among q (entries_in f st1.entries) ≡ true) same.1
              (subst (λ (g : ℕ). rules.has_dir_among z.inner.path (entries_in g st1.entries) ≡ true) number
              (sym (ap (λ b. cond b (rules.has_file_among z.inner.path (entries_in t.folder st1.entries)) (rules.has_dir_among z.inner.path (entries_in t.folder st1.entries))) dir) ∙ there)) in
              clash (has_dir st1.entries f inner.path)
              (or_last (is_empty inner.path) (list_any (is_dir_entry f inner.path) st1.entries) (dir_of f inner.path st1.entries ∙ dirs)) off

      by : (b : Bool) → has_dir st1.entries f inner.path ≡ b →
          OpenTold (state_next st1 (event p (ListIn inner) Begun)) (seen_replied s1 (ListIn inner) Begun)
          (cond b (listed.Inside inner f (items_in f inner.path st1.entries) []) (listed.Missing inner))
      by true d = λ may. told_on st1 (state_next st1 (event p (ListIn inner) Begun)) inner f (items_in f inner.path st1.entries) [] e
          (ap (entries_in f) (append-nil st1.entries)) (begun_told st1 shape1 inner f e)
      by false d = λ may. lost d

  open_new : (request : Request) (l : OpenListing) → listing_begun st1 p request ≡ Some l →
      OpenTold (state_next st1 (event p request Begun)) (seen_replied s1 request Begun) l.listed
  open_new (ListArea a) l is = subst (λ (o : Option OpenListing). listed_by (ListArea a) o) is tt
  open_new (ListIn inner) l is = subst (λ (o : Option OpenListing). listed_by (ListIn inner) o) is (open_inside inner (folder_at st1.namespace inner.spot) refl)
  open_new request l is = cc

  open_by : (request : Request) (reply : Reply) → Steps h p request reply → (is_listing st1 p ≡ true → is_listing_request request ≡ true) →
      (l : OpenListing) → In l (listings_replied st1 p request reply) → l.process ≡ p →
      OpenTold (state_next st1 (event p request reply)) (seen_replied s1 request reply) l.listed
  open_by request reply x once l i same = by (is_listing st1 p) refl
    where
      listing : (l : OpenListing) → In l st1.listings → l.process ≡ p → is_listing st1 p ≡ true
      listing l i same = in_any (is_listing_of p) l st1.listings i (ap (λ q. q == p) same ∙ same_self p)

      from : is_listing st1 p ≡ false → (In l st1.listings ⊎ ((l0 : OpenListing) × (In l0 st1.listings × (l ≡ noted_by st1 l0)))) ⊎
          ((reply ≡ Begun) × (listing_begun st1 p request ≡ Some l)) → OpenTold (state_next st1 (event p request reply)) (seen_replied s1 request reply) l.listed
      from off (inl (inl j)) = clash (is_listing st1 p) (listing l j same) off
      from off (inl (inr (l0, (j, e)))) = clash (is_listing st1 p) (listing l0 j (ap (λ (z : OpenListing). z.process) (sym e) ∙ same)) off
      from off (inr (is, opens)) = subst (λ (r : Reply). OpenTold (state_next st1 (event p request r)) (seen_replied s1 request r) l.listed) (sym is) (open_new request l opens)

      by : (b : Bool) → is_listing st1 p ≡ b → OpenTold (state_next st1 (event p request reply)) (seen_replied s1 request reply) l.listed
      by true e = absurd (ends request reply l (once e) e x.is i same)
      by false e = from e (listing_from st1 p request reply l i)

  pub told_own : (request : Request) (reply : Reply) → Steps h p request reply → (is_listing st1 p ≡ true → is_listing_request request ≡ true) →
      Told (state_next st1 (event p request reply)) p (seen_replied s1 request reply)
  told_own request reply x once = record {
    items = (told_by request reply x).0;
    dirs = (told_by request reply x).1;
    opened = open_by request reply x once;
  }

-- all along
abbrev Tells : ℕ → List Event → Type 0
Tells p h = lives (state_after h).namespace p ≡ true → Told (state_after h) p (seen_of p h)

begin_told : (st : DirState) (p : ℕ) (intent : Intent) (reply : Reply) → Told st p (seen_replied nothing_seen (Begin intent) reply)
begin_told st p intent reply = by reply
  where
    open_none : (s : Seen) → ((here : Spot) → may_remove s.standing here ≡ false) → (l : Listed) → OpenTold st s l
    open_none s none (listed.Area a through ever) = tt
    open_none s none (listed.Missing here) = λ may. clash (may_remove s.standing here.spot) may (none here.spot)
    open_none s none (listed.Inside here f through ever) = λ may. clash (may_remove s.standing here.spot) may (none here.spot)

    by : (reply : Reply) → Told st p (seen_replied nothing_seen (Begin intent) reply)
    by Done = record {
      items = λ i j. absurd j;
      dirs = λ inner j. absurd j;
      opened = λ l i same. open_none (seen_replied nothing_seen (Begin intent) Done) (λ here. refl) l.listed;
    }
    by (Refused error left) = record {
      items = λ i j. absurd j;
      dirs = λ inner j. absurd j;
      opened = λ l i same. open_none (seen_replied nothing_seen (Begin intent) (Refused error left)) (λ here. refl) l.listed;
    }
    by (Opened g) = record { items = λ i j. absurd j; dirs = λ inner j. absurd j; opened = λ l i same. open_none (seen_replied nothing_seen (Begin intent) (Opened g)) (λ here. refl) l.listed }
    by (Names names) = record { items = λ i j. absurd j; dirs = λ inner j. absurd j; opened = λ l i same. open_none (seen_replied nothing_seen (Begin intent) (Names names)) (λ here. refl) l.listed }
    by (Items new) = record { items = λ i j. absurd j; dirs = λ inner j. absurd j; opened = λ l i same. open_none (seen_replied nothing_seen (Begin intent) (Items new)) (λ here. refl) l.listed }
    by (Read bytes) = record { items = λ i j. absurd j; dirs = λ inner j. absurd j; opened = λ l i same. open_none (seen_replied nothing_seen (Begin intent) (Read bytes)) (λ here. refl) l.listed }
    by Begun = record { items = λ i j. absurd j; dirs = λ inner j. absurd j; opened = λ l i same. open_none (seen_replied nothing_seen (Begin intent) Begun) (λ here. refl) l.listed }

tells_next : (p : ℕ) (h : List Event) (e : Event) → IsConforming (h ++ e ∷ []) → Tells p h → Tells p (h ++ e ∷ [])
tells_next p h e c tells living = by (whose p e)
  where
    x : Happens h e
    x = happens h e c

    put : (s : Seen) → seen_of p (h ++ e ∷ []) ≡ s → Told (state_next (state_after h) e) p s → Told (state_after (h ++ e ∷ [])) p (seen_of p (h ++ e ∷ []))
    put s is t = subst (λ (z : Seen). Told (state_after (h ++ e ∷ [])) p z) (sym is) (subst (λ (z : DirState). Told z p s) (sym (state_after-push h e)) t)

    own : e.process ≡ p → is_kill e.request ≡ false → (b : Bool) → is_begin e.request ≡ b → Told (state_next (state_after h) e) p (seen_replied (seen_of p h) e.request e.reply)
    own is alive false on =
        let s = subst (λ (q : ℕ). Steps h q e.request e.reply) is (steps h e c alive on) in
        subst (λ (q : ℕ). Told (state_next (state_after h) (event q e.request e.reply)) p (seen_replied (seen_of p h) e.request e.reply)) (sym is)
        (told_own h p (tells s.living) x.conforming e.request e.reply s
        (λ lists. lists_at_once h e c (ap (λ (q : ℕ). is_listing (state_after h) q) is ∙ lists) alive))
    own is alive true on = subst (λ (s : Seen). Told (state_next (state_after h) e) p (seen_replied s e.request e.reply))
        (sym (unborn_saw_nothing p h x.conforming.run unborn)) (first e.request e.reply on)
      where
        unborn : has_begun (state_after h).namespace p ≡ false
        unborn = subst (λ (q : ℕ). has_begun (state_after h).namespace q ≡ false) is
            (not_true (has_begun (state_after h).namespace e.process)
            (ap (λ c. cond c (not (has_begun (state_after h).namespace e.process)) (lives (state_after h).namespace e.process)) (sym on) ∙ x.due))

        first : (request : Request) (reply : Reply) → is_begin request ≡ true → Told (state_next (state_after h) e) p (seen_replied nothing_seen request reply)
        first (Begin intent) reply on = begin_told (state_next (state_after h) e) p intent reply
        first request reply on = cc

    by : (is_foreign p e ≡ true) ⊎ ((is_foreign p e ≡ false) × ((e.process ≡ p) × (is_kill e.request ≡ false))) →
        Told (state_after (h ++ e ∷ [])) p (seen_of p (h ++ e ∷ []))
    by (inl f) = put (seen_of p h) (foreign_same p h e f)
        (told_foreign h e c p f (lived h e p f living) (tells (lived h e p f living)))
    by (inr f) = put (seen_replied (seen_of p h) e.request e.reply) (own_next p h e f.0) (own f.1.0 f.1.1 (is_begin e.request) refl)

pub all_told : (h : List Event) → IsConforming h → (p : ℕ) → Tells p h
all_told h conforming p = along (Tells p) (λ living. absurd (none living)) (λ h e c tells. tells_next p h e c tells) h conforming
  where
    none : lives (state_after []).namespace p ≡ true → ⊥
    none h = cc
