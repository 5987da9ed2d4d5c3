-- What stands directly in a folder: which requests leave it, and what a listing shows of it where its time is quiet.
use Rattle.std.proofs.Common.{◌≡◌, inl, inr, ℕ, Bool, true, false, not, ◌&&◌, ◌||◌, ◌==◌, cond, Option, Some, None, List, [], ◌∷◌, ◌++◌, take, append_assoc, append-nil, option_to_list, refl, sym, ap, subst, ◌∙◌}
use Rattle.std.specs.List.{list_any, cons_option, AllByRecursion}
use Rattle.std.proofs.lemmas.Bool.{eqb-true}
use Rattle.dir_model.specs.declared.area.Area.{Area}
use Rattle.dir_model.specs.declared.event.Event.{Event}
use Rattle.dir_model.specs.declared.item.Inner.{Inner}
use Rattle.dir_model.specs.declared.item.Item.{Item}
use Rattle.dir_model.specs.declared.pod.PodId.{PodId}
use Rattle.dir_model.specs.declared.spot.Spot.{Spot}
use Rattle.dir_model.specs.declared.tree.TreeEntry.{TreeEntry}
use Rattle.dir_model.specs.declared.tree.TreeNode.{TreeNode}
use Rattle.dir_model.specs.declared.tree.TreeNode.TheVariants.{Dir, Piece}
use Rattle.dir_model.specs.declared.request.Request.{Request}
use Rattle.dir_model.specs.declared.request.Request.TheVariants.{MakeDirIn, MakeFileIn, AppendIn, ListIn, RemoveFileIn, RemoveDirIn}
use Rattle.dir_model.specs.declared.request.Reply.{Reply}
use Rattle.dir_model.specs.declared.request.Reply.TheVariants.{Done, Items, Refused}
use Rattle.dir_model.specs.Calls.{event, is_foreign, is_kill, Extends}
use Rattle.dir_model.specs.Listings.{has_named, has_item}
use Rattle.dir_model.specs.Paths.{is_file_name, is_directly_in, behind}
use Rattle.dir_model.specs.State.{Namespace, DirState, spot_eq, folder_at}
use Rattle.dir_model.specs.Trace.{state_after, state_next, entries_kept, entry_made, placed, removed_in}
use Rattle.dir_model.specs.Trees.{kind_of, is_within, without_path, item_in, items_in}
use Rattle.dir_model.proofs.Lists.{any_last_not, all_left, all_right, same_rest}
use Rattle.dir_rules.specs.Rules.{root_of}
use Rattle.dir_laws.specs.Stretches.{Throughout, Sometime}
use Rattle.dir_files.specs.Listed.{Stretch, ShowsInside, ShowsDirectory}
use Rattle.gate_reading.proofs.PlainPaths.{plain_own}
use Rattle.lifecycle.proofs.Numbers.{one_spot}
use Rattle.dir_model.specs.Spots.{pod_spot}
use Rattle.pod_locks.specs.Work.{Grew}
use Rattle.pod_gc.specs.Ages.{moment_among}
use Rattle.pod_gc.specs.Requests.{lists_marks}
use Rattle.commands.proofs.OwnSteps.{own_asked}
use Rattle.commands.proofs.MarkTimes.{same_moment, item_named}

-- what a request changes inside a folder
abbrev pub changed : Request → Option Inner
changed (MakeDirIn inner) = Some inner
changed (MakeFileIn inner) = Some inner
changed (AppendIn inner piece) = Some inner
changed (RemoveFileIn inner) = Some inner
changed (RemoveDirIn inner) = Some inner
changed request = None

-- what depends on one folder's entries alone, while that folder stands there and something is changed elsewhere
module _ {X : Type 0} (F : List TreeEntry → X) (k : ℕ) (pushed : (es : List TreeEntry) (e : TreeEntry) → (e.folder == k) ≡ false → F (es ++ e ∷ []) ≡ F es) (without : (f : ℕ) (path : List ℕ) → (f == k) ≡ false → (es : List TreeEntry) → F (without_path f path es) ≡ F es)
    (here : Spot) (n : Namespace) (at : folder_at n here ≡ Some k) where
  other_folder : (spot : Spot) (f : ℕ) → spot_eq spot here ≡ false → folder_at n spot ≡ Some f → (f == k) ≡ false
  other_folder spot f off there = by (f == k) refl
    where
      by : (b : Bool) → (f == k) ≡ b → b ≡ false
      by false is = refl
      by true is = let clash : true ≡ false = sym (one_spot n spot here k (there ∙ ap Some (eqb-true f k is)) at) ∙ off in cc

  same_placed : (o : Option ℕ) (path : List ℕ) (node : TreeNode) (es : List TreeEntry) → ((f : ℕ) → o ≡ Some f → (f == k) ≡ false) → F (es ++ option_to_list (placed o path node)) ≡ F es
  same_placed None path node es off = ap F (append-nil es)
  same_placed (Some f) path node es off = pushed es (record { folder = f; path = path; node = node }) (off f refl)

  same_removed : (o : Option ℕ) (path : List ℕ) (es : List TreeEntry) → ((f : ℕ) → o ≡ Some f → (f == k) ≡ false) → F (removed_in o path es ++ []) ≡ F es
  same_removed None path es off = ap F (append-nil es)
  same_removed (Some f) path es off = ap F (append-nil (without_path f path es)) ∙ without f path (off f refl) es

  same_replied : (es : List TreeEntry) (request : Request) (reply : Reply) → ((inner : Inner) → changed request ≡ Some inner → spot_eq inner.spot here ≡ false) → F (entries_kept n es request reply ++ option_to_list (entry_made n request reply)) ≡ F es
  same_replied es (MakeDirIn i) Done apart = same_placed (folder_at n i.spot) i.path Dir es (λ f there. other_folder i.spot f (apart i refl) there)
  same_replied es (MakeFileIn i) Done apart = same_placed (folder_at n i.spot) i.path (Piece []) es (λ f there. other_folder i.spot f (apart i refl) there)
  same_replied es (AppendIn i piece) Done apart = same_placed (folder_at n i.spot) i.path (Piece piece) es (λ f there. other_folder i.spot f (apart i refl) there)
  same_replied es (AppendIn i piece) (Refused error left) apart =
      by (left == 0) (placed (folder_at n i.spot) i.path (Piece (take left piece))) (same_placed (folder_at n i.spot) i.path (Piece (take left piece)) es (λ f there. other_folder i.spot f (apart i refl) there))
    where
      by : (b : Bool) (made : Option TreeEntry) → F (es ++ option_to_list made) ≡ F es → F (es ++ option_to_list (cond b None made)) ≡ F es
      by true made go = ap F (append-nil es)
      by false made go = go
  same_replied es (RemoveFileIn i) Done apart = same_removed (folder_at n i.spot) i.path es (λ f there. other_folder i.spot f (apart i refl) there)
  same_replied es (RemoveDirIn i) Done apart = same_removed (folder_at n i.spot) i.path es (λ f there. other_folder i.spot f (apart i refl) there)
  same_replied es request reply apart = ap F (append-nil es)

-- entries of other folders show nothing
module _ (k : ℕ) where
  not_shown : (e : TreeEntry) → (e.folder == k) ≡ false → item_in k [] e ≡ None
  not_shown e off = ap (λ (b : Bool). cond ((b && is_directly_in [] e.path) && is_file_name (behind [] e.path)) (Some (record { name = behind [] e.path; kind = kind_of e.node })) None) off

  items_push : (es : List TreeEntry) (e : TreeEntry) → (e.folder == k) ≡ false → items_in k [] (es ++ e ∷ []) ≡ items_in k [] es
  items_push [] e off = ap (λ (o : Option Item). cons_option o []) (not_shown e off)
  items_push (x ∷ es) e off = ap (cons_option (item_in k [] x)) (items_push es e off)

  items_without : (f : ℕ) (path : List ℕ) → (f == k) ≡ false → (es : List TreeEntry) → items_in k [] (without_path f path es) ≡ items_in k [] es
  items_without f path off [] = refl
  items_without f path off (x ∷ es) = by (x.folder == f) refl (is_within path x.path) (items_without f path off es)
    where
      by : (b : Bool) → (x.folder == f) ≡ b → (c : Bool) → items_in k [] (without_path f path es) ≡ items_in k [] es →
          items_in k [] (cond (not (b && c)) (x ∷ without_path f path es) (without_path f path es)) ≡ items_in k [] (x ∷ es)
      by false is c go = ap (cons_option (item_in k [] x)) go
      by true is false go = ap (cons_option (item_in k [] x)) go
      by true is true go =
          let apart : (x.folder == k) ≡ false = ap (λ (y : ℕ). y == k) (eqb-true x.folder f is) ∙ off in
          go ∙ sym (ap (λ (o : Option Item). cons_option o (items_in k [] es)) (not_shown x apart))

  pub items_replied : (here : Spot) (n : Namespace) → folder_at n here ≡ Some k → (es : List TreeEntry) (request : Request) (reply : Reply) → ((inner : Inner) → changed request ≡ Some inner → spot_eq inner.spot here ≡ false) →
      items_in k [] (entries_kept n es request reply ++ option_to_list (entry_made n request reply)) ≡ items_in k [] es
  items_replied here n at es request reply apart = same_replied (items_in k []) k items_push items_without here n at es request reply apart

-- and don't pass a test of that folder's
module _ (k : ℕ) (t : TreeEntry → Bool) (only : (e : TreeEntry) → t e ≡ true → (e.folder == k) ≡ true) where
  not_passed : (e : TreeEntry) → (e.folder == k) ≡ false → t e ≡ false
  not_passed e off = by (t e) refl
    where
      by : (b : Bool) → t e ≡ b → b ≡ false
      by false is = refl
      by true is = let clash : true ≡ false = sym (only e is) ∙ off in cc

  any_without : (f : ℕ) (path : List ℕ) → (f == k) ≡ false → (es : List TreeEntry) → list_any t (without_path f path es) ≡ list_any t es
  any_without f path off [] = refl
  any_without f path off (x ∷ es) = by (x.folder == f) refl (is_within path x.path) (any_without f path off es)
    where
      by : (b : Bool) → (x.folder == f) ≡ b → (c : Bool) → list_any t (without_path f path es) ≡ list_any t es → list_any t (cond (not (b && c)) (x ∷ without_path f path es) (without_path f path es)) ≡ (t x || list_any t es)
      by false is c go = ap (λ d. t x || d) go
      by true is false go = ap (λ d. t x || d) go
      by true is true go =
          let apart : (x.folder == k) ≡ false = ap (λ (y : ℕ). y == k) (eqb-true x.folder f is) ∙ off in
          go ∙ sym (ap (λ d. d || list_any t es) (not_passed x apart))

  pub any_replied : (here : Spot) (n : Namespace) → folder_at n here ≡ Some k → (es : List TreeEntry) (request : Request) (reply : Reply) → ((inner : Inner) → changed request ≡ Some inner → spot_eq inner.spot here ≡ false) →
      list_any t (entries_kept n es request reply ++ option_to_list (entry_made n request reply)) ≡ list_any t es
  any_replied here n at es request reply apart = same_replied (list_any t) k (λ fs e off. any_last_not t fs e (not_passed e off)) any_without here n at es request reply apart

-- listings change no entry

abbrev KeepsEntries : Event → Type 0
KeepsEntries e = (s : DirState) → (state_next s e).entries ≡ s.entries

list_keeps : (pod : PodId) (place : Area) (p : ℕ) (request : Request) (reply : Reply) → (is_kill request || lists_marks pod place request) ≡ true → KeepsEntries (event p request reply)
list_keeps pod place p (MakeDirIn i) reply h s = cc
list_keeps pod place p (MakeFileIn i) reply h s = cc
list_keeps pod place p (AppendIn i piece) reply h s = cc
list_keeps pod place p (RemoveFileIn i) reply h s = cc
list_keeps pod place p (RemoveDirIn i) reply h s = cc
list_keeps pod place p request reply h s = append-nil s.entries

lists_keep : (me : ℕ) (pod : PodId) (place : Area) (es : List Event) → AllByRecursion (λ e. e.process ≡ me) es → AllByRecursion (λ e. (is_foreign me e || lists_marks pod place e.request) ≡ true) es → AllByRecursion KeepsEntries es
lists_keep me pod place [] own asked = tt
lists_keep me pod place (e ∷ es) own asked = (list_keeps pod place e.process e.request e.reply (own_asked (lists_marks pod place) me e own.0 asked.0), lists_keep me pod place es own.1 asked.1)

module _ (P : List TreeEntry → Type 0) where
  throughout_kept : (s : DirState) (es : List Event) → AllByRecursion KeepsEntries es → P s.entries → Throughout (λ (t : DirState). P t.entries) s es
  throughout_kept s [] keeps p = p
  throughout_kept s (e ∷ es) keeps p = (p, throughout_kept (state_next s e) es keeps.1 (subst P (sym (keeps.0 s)) p))

  sometime_kept : (s : DirState) (es : List Event) → AllByRecursion KeepsEntries es → Sometime (λ (t : DirState). P t.entries) s es → P s.entries
  sometime_kept s [] keeps p = p
  sometime_kept s (e ∷ es) keeps (inl p) = p
  sometime_kept s (e ∷ es) keeps (inr p) = subst P (keeps.0 s) (sometime_kept (state_next s e) es keeps.1 p)

-- when the listing began, the folder stood there, and what was shown stood in it
pub record ShowedThen (pod : PodId) (place : Area) (items : List Item) (old new : List Event) : Type 0 where
  pub begun : List Event
  pub first : Grew old begun
  pub last : Grew begun new
  pub folder : ℕ
  pub there : folder_at (state_after begun).namespace (pod_spot pod place) ≡ Some folder
  pub same : (text : List ℕ) → moment_among text items ≡ moment_among text (items_in folder [] (state_after begun).entries)

pub showed_then : {me : ℕ} {old new : List Event} (pod : PodId) (place : Area) (items : List Item) (x : Extends (lists_marks pod place) me old new) → AllByRecursion (λ e. e.process ≡ me) x.more → ShowsDirectory me old new (root_of (pod_spot pod place)) items → ShowedThen pod place items old new
showed_then {me} {old} {new} pod place items x own d = record {
  begun = t.begun;
  first = record { more = t.earlier; grown = t.begins };
  last = record { more = t.others ++ last ∷ []; grown = t.ends ∙ append_assoc t.begun t.others (last ∷ []) };
  folder = i.folder;
  there = i.here;
  same = λ text. same_moment text items (items_in i.folder [] begun.entries) (λ item h. item_named (items_in i.folder [] begun.entries) item (stood item h)) (λ item h. shown item (item_named (items_in i.folder [] begun.entries) item h));
}
  where
    t : Stretch me old new (ListIn (root_of (pod_spot pod place))) (Items items)
    t = d.stretch

    last : Event
    last = event me (ListIn (root_of (pod_spot pod place))) (Items items)

    begun : DirState
    begun = state_after d.stretch.begun

    i : ShowsInside me old new (root_of (pod_spot pod place)) items d.stretch
    i = d.shows (plain_own (d.stretch.begun ++ d.stretch.others) (root_of (pod_spot pod place)) refl)

    keeps : AllByRecursion KeepsEntries d.stretch.others
    keeps =
        let parted : x.more ≡ t.earlier ++ (t.others ++ last ∷ []) = same_rest old x.more (t.earlier ++ (t.others ++ last ∷ [])) (sym x.grown ∙ (t.ends ∙ (ap (λ (h : List Event). (h ++ t.others) ++ last ∷ []) t.begins ∙ simp append_assoc))) in
        all_left KeepsEntries t.others (last ∷ []) (all_right KeepsEntries t.earlier (t.others ++ last ∷ []) (subst (λ (l : List Event). AllByRecursion KeepsEntries l) parted (lists_keep me pod place x.more own x.asked)))

    stood : (item : Item) → has_item items item ≡ true → has_item (items_in i.folder [] begun.entries) item ≡ true
    stood item h = sometime_kept (λ (es : List TreeEntry). has_item (items_in i.folder [] es) item ≡ true) begun t.others keeps (i.only item h)

    shown : (item : Item) → has_named (items_in i.folder [] begun.entries) item ≡ true → has_named items item ≡ true
    shown item h = i.all item (throughout_kept (λ (es : List TreeEntry). has_named (items_in i.folder [] es) item ≡ true) begun t.others keeps h)
