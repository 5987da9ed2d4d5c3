-- A removal is answered as its own listings tell, and a directory that they show is found; but at and below a started app's root.
use Rattle.std.proofs.Common.{◌≡◌, ◌⊎◌, inl, inr, ℕ, Bool, true, false, not, ◌&&◌, ◌==◌, cond, bytes_eq, Option, Some, None, List, [], refl, sym, ap, subst, ◌∙◌}
use Rattle.std.specs.List.{list_any}
use Rattle.std.proofs.Math.Path.{ap₂}
use Rattle.std.proofs.lemmas.Bool.{and_parts}
use Rattle.plain_laws.proofs.Booleans.{clash}
use Rattle.plain_laws.proofs.Texts.{same_text}
use Rattle.plain_laws.proofs.Numbers.{one_number}
use Rattle.dir_model.specs.declared.item.Inner.{Inner}
use Rattle.dir_model.specs.declared.spot.Spot.{Spot}
use Rattle.dir_model.specs.declared.tree.Listed.{Listed}
use Rattle.dir_model.specs.declared.tree.Listed.TheVariants as listed
use Rattle.dir_model.specs.declared.tree.OpenListing.{OpenListing}
use Rattle.dir_model.specs.declared.event.Event.{Event}
use Rattle.dir_model.specs.declared.request.DirError.{DirError}
use Rattle.dir_model.specs.declared.request.DirError.TheVariants.{Missing, NotEmpty}
use Rattle.dir_model.specs.declared.request.Request.{Request}
use Rattle.dir_model.specs.declared.request.Request.TheVariants.{ListIn, RemoveFileIn, RemoveDirIn, RemoveFolder}
use Rattle.dir_model.specs.declared.request.Reply.TheVariants.{Refused}
use Rattle.dir_model.specs.Paths.{is_directly_in}
use Rattle.dir_model.specs.Trees.{has_file, is_dir_entry, has_children, holds_any, is_child, is_apps_own}
use Rattle.dir_model.specs.Listings.{is_listing_of, is_inner, noted_by, noted_all, listing_of, shows_missing}
use Rattle.dir_model.specs.State.{DirState, folder_at, spot_eq}
use Rattle.dir_model.specs.Trace.{state_after}
use Rattle.dir_model.specs.Replies.{is_reply, is_any_reply, is_apps_request, is_own_at, refusal, refused_in, file_refusal, dir_refusal, folder_refusal}
use Rattle.dir_model.proofs.Lists.{and_left, and_right, and_both, not_true, same_number}
use Rattle.dir_model.proofs.Spots.{spot_self}
use Rattle.dir_rules.specs.declared.seen.Seen.{Seen}
use Rattle.dir_rules.specs.declared.seen.ShownItem.{ShownItem}
use Rattle.dir_rules.specs.Marks.{parent}
use Rattle.dir_rules.specs.Seen.{inner_eq, is_item_at, is_item_in}
use Rattle.dir_rules.specs.LockRules.{lock_rules_allow, may_remove}
use Rattle.dir_rules.specs.Rules as rules
use Rattle.dir_rules.specs.Rules.{allows, content_rules_allow, may_remove_file, may_remove_dir, is_file_item, is_item_shown, is_emptied, root_of}
use Rattle.dir_rules.specs.Anomalies.{is_place_error}
use Rattle.dir_rules.specs.Conforms.{seen_of}
use Rattle.lifecycle.specs.Executions.{IsConforming}
use Rattle.lifecycle.proofs.Lists.{In, any_in, in_any, find_in, in_map}
use Rattle.lifecycle.proofs.Places.{same_name}
use Rattle.folder_contents.specs.Entries.{entry_of, entries_in}
use Rattle.folder_contents.proofs.Spots.{one_location}
use Rattle.folder_contents.proofs.Names.{file_of, dir_of}
use Rattle.impossible_replies.proofs.AppRoots.{root_unowned}
use Rattle.impossible_replies.proofs.Refusals.{place_told, told, unrefused}
use Rattle.impossible_replies.proofs.Shapes.{direct_parent, holds_directly, shaped}
use Rattle.impossible_replies.proofs.Removers.{under_lock}
use Rattle.impossible_replies.proofs.Told.{entry_in, stands_as, item_at, ShowsAll, DirTold, OpenTold, Told}
use Rattle.impossible_replies.proofs.Deletions.{at_parts, noted_open}

abbrev pub is_removal_request : Request → Bool
is_removal_request (RemoveFileIn i) = true
is_removal_request (RemoveDirIn i) = true
is_removal_request (RemoveFolder spot) = true
is_removal_request request = false

abbrev pub missing_by : Inner → Listed → Bool
missing_by inner (listed.Missing here) = is_inner here inner
missing_by inner l = false

pub missing_so : (inner : Inner) (l : OpenListing) → shows_missing inner (Some l) ≡ missing_by inner l.listed
missing_so inner l = by l.listed refl
  where
    by : (x : Listed) → l.listed ≡ x → shows_missing inner (Some (record l { listed = x })) ≡ missing_by inner x
    by (listed.Missing here) e = refl
    by (listed.Area a through ever) e = refl
    by (listed.Inside here f through ever) e = refl

module _ (h : List Event) (p : ℕ) (knows : Told (state_after h) p (seen_of p h)) (conforming : IsConforming h) where
  abbrev st : DirState
  st = state_after h

  abbrev s : Seen
  s = seen_of p h

  -- what is shown at a path stands there
  pub record Stands (k : Bool) (i : Inner) : Type 0 where
    pub folder : ℕ
    pub there : folder_at st.namespace i.spot ≡ Some folder
    pub stands : (is_apps_own st.apps folder i.path ≡ true) ⊎ (cond k (has_file st.entries folder i.path) (list_any (is_dir_entry folder i.path) st.entries) ≡ true)

  shown_stands : (k : Bool) (i : Inner) (z : ShownItem) → In z s.items → is_item_at i z ≡ true → is_file_item z.kind ≡ k → Stands k i
  shown_stands k i z j at kind = let t = knows.items z j in let same = at_parts i z at in record {
    folder = t.folder;
    there = subst (λ (here : Spot). folder_at st.namespace here ≡ Some t.folder) same.0 t.there;
    stands = by t.folder t.stands;
  }
    where
      same : (z.inner.spot ≡ i.spot) × (z.inner.path ≡ i.path)
      same = at_parts i z at

      by : (f : ℕ) → (is_apps_own st.apps f z.inner.path ≡ true) ⊎ (stands_as z.kind z.inner.path (entries_in f st.entries) ≡ true) →
          (is_apps_own st.apps f i.path ≡ true) ⊎ (cond k (has_file st.entries f i.path) (list_any (is_dir_entry f i.path) st.entries) ≡ true)
      by f (inl own) = inl (subst (λ (q : List ℕ). is_apps_own st.apps f q ≡ true) same.1 own)
      by f (inr there) = inr (ap₂ (λ a b. cond k a b) (file_of f i.path st.entries) (dir_of f i.path st.entries)
          ∙ (ap (λ b. cond b (rules.has_file_among i.path (entries_in f st.entries)) (rules.has_dir_among i.path (entries_in f st.entries))) (sym kind)
          ∙ subst (λ (q : List ℕ). stands_as z.kind q (entries_in f st.entries) ≡ true) same.1 there))

  owned : (i : Inner) (f : ℕ) → folder_at st.namespace i.spot ≡ Some f → is_apps_own st.apps f i.path ≡ true → is_own_at st i.path (folder_at st.namespace i.spot) ≡ true
  owned i f at own = ap (λ (o : Option ℕ). is_own_at st i.path o) at ∙ own

  -- a directory that was emptied
  no_child : (inner : Inner) (f : ℕ) → folder_at st.namespace inner.spot ≡ Some f → is_emptied s inner ≡ true →
      (is_apps_own st.apps f inner.path ≡ true) ⊎ (has_children st.entries f inner.path ≡ false)
  no_child inner f at emptied =
      let x = and_parts (list_any (inner_eq inner) s.listed) (not (list_any (is_item_in inner) s.items)) emptied in
      let l = any_in (inner_eq inner) s.listed x.0 in
      let y = and_parts (spot_eq inner.spot l.0.spot) (bytes_eq inner.path l.0.path) l.1.1 in
      on l.0 (one_location inner.spot l.0.spot y.0) (same_text inner.path l.0.path y.1) (knows.dirs l.0 l.1.0) (not_true (list_any (is_item_in inner) s.items) x.1)
    where
      on : (other : Inner) → inner.spot ≡ other.spot → inner.path ≡ other.path → DirTold st s.items other → list_any (is_item_in inner) s.items ≡ false →
          (is_apps_own st.apps f inner.path ≡ true) ⊎ (has_children st.entries f inner.path ≡ false)
      on other spot path t none = by t.told
        where
          number : t.folder ≡ f
          number = one_number t.folder f (sym t.there ∙ (ap (λ (z : Spot). folder_at st.namespace z) (sym spot) ∙ at))

          by : (is_apps_own st.apps t.folder other.path ≡ true) ⊎ ShowsAll st t.folder s.items other →
              (is_apps_own st.apps f inner.path ≡ true) ⊎ (has_children st.entries f inner.path ≡ false)
          by (inl own) = inl (subst (λ (g : ℕ). is_apps_own st.apps g inner.path ≡ true) number (subst (λ (q : List ℕ). is_apps_own st.apps t.folder q ≡ true) (sym path) own))
          by (inr all) = inr (empty (has_children st.entries f inner.path) refl)
            where
              empty : (b : Bool) → has_children st.entries f inner.path ≡ b → b ≡ false
              empty false e = refl
              empty true e =
                  let c = any_in (is_child f inner.path) st.entries e in
                  let w = and_parts (c.0.folder == f) (is_directly_in inner.path c.0.path) c.1.1 in
                  let i = all (entry_of c.0) (entry_in t.folder c.0 st.entries c.1.0 (ap (λ g. c.0.folder == g) number ∙ w.0))
                  (subst (λ (q : List ℕ). is_directly_in q c.0.path ≡ true) path w.1) in
                  let z = any_in (item_at other.spot c.0.path) s.items i in
                  let a = at_parts (record { spot = other.spot; path = c.0.path }) z.0 z.1.1 in
                  clash (list_any (is_item_in inner) s.items)
                  (in_any (is_item_in inner) z.0 s.items z.1.0
                  (and_both (spot_eq z.0.inner.spot inner.spot) (bytes_eq (parent z.0.inner.path) inner.path)
                  (subst (λ (q : Spot). spot_eq z.0.inner.spot q ≡ true) (a.0 ∙ sym spot) (spot_self z.0.inner.spot))
                  (same_name (parent z.0.inner.path) inner.path (ap parent a.1 ∙ direct_parent inner.path c.0.path w.1)))) none

  file_removed : (i : Inner) → allows s (RemoveFileIn i) ≡ true → is_apps_request st (RemoveFileIn i) ≡ false → refusal st p (RemoveFileIn i) ≡ None
  file_removed i may plain =
      let z = any_in (λ z. is_item_at i z && is_file_item z.kind) s.items (and_right (lock_rules_allow s.standing (RemoveFileIn i)) (may_remove_file s i) may) in
      let w = and_parts (is_item_at i z.0) (is_file_item z.0.kind) z.1.1 in
      let t = shown_stands true i z.0 z.1.0 w.0 w.1 in
      by t.folder t.there t.stands
    where
      by : (f : ℕ) → folder_at st.namespace i.spot ≡ Some f → (is_apps_own st.apps f i.path ≡ true) ⊎ (has_file st.entries f i.path ≡ true) → refusal st p (RemoveFileIn i) ≡ None
      by f at (inl own) = clash (is_own_at st i.path (folder_at st.namespace i.spot)) (owned i f at own) plain
      by f at (inr there) = ap (λ (o : Option ℕ). refused_in (file_refusal i.path) st.entries o) at ∙ ap (λ b. cond b None (Some Missing)) there

  dir_removed : (i : Inner) → allows s (RemoveDirIn i) ≡ true → is_apps_request st (RemoveDirIn i) ≡ false → refusal st p (RemoveDirIn i) ≡ None
  dir_removed i may plain =
      let y = and_parts (is_item_shown (λ k. not (is_file_item k)) i s.items) (is_emptied s i) (and_right (lock_rules_allow s.standing (RemoveDirIn i)) (may_remove_dir s i) may) in
      let z = any_in (λ z. is_item_at i z && not (is_file_item z.kind)) s.items y.0 in
      let w = and_parts (is_item_at i z.0) (not (is_file_item z.0.kind)) z.1.1 in
      let t = shown_stands false i z.0 z.1.0 w.0 (not_true (is_file_item z.0.kind) w.1) in
      by t.folder t.there t.stands (no_child i t.folder t.there y.1)
    where
      by : (f : ℕ) → folder_at st.namespace i.spot ≡ Some f → (is_apps_own st.apps f i.path ≡ true) ⊎ (list_any (is_dir_entry f i.path) st.entries ≡ true) →
          (is_apps_own st.apps f i.path ≡ true) ⊎ (has_children st.entries f i.path ≡ false) → refusal st p (RemoveDirIn i) ≡ None
      by f at (inl own) c = clash (is_own_at st i.path (folder_at st.namespace i.spot)) (owned i f at own) plain
      by f at (inr there) (inl own) = clash (is_own_at st i.path (folder_at st.namespace i.spot)) (owned i f at own) plain
      by f at (inr there) (inr none) =
          ap (λ (o : Option ℕ). refused_in (dir_refusal i.path) st.entries o) at
          ∙ (ap (λ b. cond b (cond (has_children st.entries f i.path) (Some NotEmpty) None) (Some Missing)) there
          ∙ ap (λ b. cond b (Some NotEmpty) None) none)

  folder_removed : (spot : Spot) → allows s (RemoveFolder spot) ≡ true → refusal st p (RemoveFolder spot) ≡ None
  folder_removed spot may =
      let e = and_right (lock_rules_allow s.standing (RemoveFolder spot)) (is_emptied s (root_of spot)) may in
      let l = any_in (inner_eq (root_of spot)) s.listed (and_left (list_any (inner_eq (root_of spot)) s.listed) (not (list_any (is_item_in (root_of spot)) s.items)) e) in
      let t = knows.dirs l.0 l.1.0 in
      let at = subst (λ (z : Spot). folder_at st.namespace z ≡ Some t.folder)
      (sym (one_location spot l.0.spot (and_left (spot_eq spot l.0.spot) (bytes_eq [] l.0.path) l.1.1))) t.there in
      by t.folder at (no_child (root_of spot) t.folder at e)
    where
      by : (f : ℕ) → folder_at st.namespace spot ≡ Some f → (is_apps_own st.apps f [] ≡ true) ⊎ (has_children st.entries f [] ≡ false) → refusal st p (RemoveFolder spot) ≡ None
      by f at (inl own) = clash (is_apps_own st.apps f []) own (root_unowned h f)
      by f at (inr none) = ap (λ (o : Option ℕ). refused_in folder_refusal st.entries o) at ∙ empty (holds_any st.entries f) refl
        where
          empty : (b : Bool) → holds_any st.entries f ≡ b → cond b (Some NotEmpty) None ≡ None
          empty false x = refl
          empty true x =
              let y = any_in (λ e. e.folder == f) st.entries x in
              clash (has_children st.entries f []) (holds_directly st.entries (shaped h conforming) f y.0 y.1.0 (same_number y.0.folder f y.1.1)) none

  pub removal_fine : (request : Request) (error : DirError) (left : ℕ) → is_removal_request request ≡ true → is_apps_request st request ≡ false →
      allows s request ≡ true → is_reply st p request (Refused error left) ≡ true → is_place_error error ≡ true → ⊥
  removal_fine (RemoveFileIn i) error left on plain may is place =
      unrefused error (refusal st p (RemoveFileIn i)) (told st p (RemoveFileIn i) error left plain refl (place_told error place) is) (file_removed i may plain)
  removal_fine (RemoveDirIn i) error left on plain may is place =
      unrefused error (refusal st p (RemoveDirIn i)) (told st p (RemoveDirIn i) error left plain refl (place_told error place) is) (dir_removed i may plain)
  removal_fine (RemoveFolder spot) error left on plain may is place =
      unrefused error (refusal st p (RemoveFolder spot)) (told st p (RemoveFolder spot) error left refl refl (place_told error place) is) (folder_removed spot may)
  removal_fine request error left on plain may is place = cc

  -- a directory that a listing showed is found
  pub directory_found : (inner : Inner) (left : ℕ) → is_apps_request st (ListIn inner) ≡ false → is_reply st p (ListIn inner) (Refused Missing left) ≡ true →
      is_item_shown (λ k. not (is_file_item k)) inner s.items ≡ true → ⊥
  directory_found inner left plain is shown =
      let z = any_in (λ z. is_item_at inner z && not (is_file_item z.kind)) s.items shown in
      let w = and_parts (is_item_at inner z.0) (not (is_file_item z.0.kind)) z.1.1 in
      by (listing_of st p) refl missing z.0 z.1.0 w.0 (not_true (is_file_item z.0.kind) w.1)
    where
      missing : shows_missing inner (listing_of st p) ≡ true
      missing = and_right (left == 0) (shows_missing inner (listing_of st p))
          (ap (λ b. cond b (is_any_reply st p (ListIn inner) (Refused Missing left)) ((left == 0) && shows_missing inner (listing_of st p))) (sym plain) ∙ is)

      at : (z : ShownItem) → In z s.items → is_item_at inner z ≡ true → is_file_item z.kind ≡ false → (l : Listed) → OpenTold st s l → missing_by inner l ≡ true → ⊥
      at z i here dir (listed.Missing there) t same =
          let y = and_parts (spot_eq there.spot inner.spot) (bytes_eq there.path inner.path) same in
          let spot : there.spot ≡ inner.spot = one_location there.spot inner.spot y.0 in
          let path : there.path ≡ inner.path = same_text there.path inner.path y.1 in
          let a = at_parts inner z here in
          let may = subst (λ (q : Spot). may_remove s.standing q ≡ true) (a.0 ∙ sym spot) ((under_lock h conforming p).items z i) in
          let x = t may z i
          (and_both (spot_eq z.inner.spot there.spot) (bytes_eq z.inner.path there.path)
          (subst (λ (q : Spot). spot_eq z.inner.spot q ≡ true) (a.0 ∙ sym spot) (spot_self z.inner.spot)) (same_name z.inner.path there.path (a.1 ∙ sym path))) dir in
          clash (is_own_at st inner.path (folder_at st.namespace inner.spot))
          (owned inner x.0 (subst (λ (q : Spot). folder_at st.namespace q ≡ Some x.0) spot x.1.0) (subst (λ (q : List ℕ). is_apps_own st.apps x.0 q ≡ true) path x.1.1)) plain
      at z i here dir (listed.Area a through ever) t same = cc
      at z i here dir (listed.Inside there f through ever) t same = cc

      by : (o : Option OpenListing) → listing_of st p ≡ o → shows_missing inner o ≡ true → (z : ShownItem) → In z s.items → is_item_at inner z ≡ true →
          is_file_item z.kind ≡ false → ⊥
      by None e m z i here dir = cc
      by (Some l) e m z i here dir =
          let f = find_in (is_listing_of p) l (noted_all st st.listings) e in
          let g = in_map (noted_by st) st.listings l f.0 in
          at z i here dir l.listed
          (subst (λ (q : OpenListing). OpenTold st s q.listed) (sym g.1.1)
          (noted_open st (shaped h conforming) s g.0.listed (knows.opened g.0 g.1.0 (ap (λ (q : OpenListing). q.process) (sym g.1.1) ∙ same_number l.process p f.1))))
          (sym (missing_so inner l) ∙ m)
