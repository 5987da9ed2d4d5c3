-- Where a status file stands, its directory does.
use Rattle.std.proofs.Common.{arith, ◌≡◌, ℕ, Bool, true, false, not, ◌&&◌, ◌||◌, ◌==◌, ◌+◌, cond, bytes_eq, nat_eq, nat_le, Option, Some, None, is_some, option_to_list, List, [], ◌∷◌, ◌++◌, filter, length, take, drop, slice_index, append_assoc, append-nil, refl, sym, ap, subst, ◌∙◌}
use Rattle.std.specs.List.{list_any, starts_with}
use Rattle.std.proofs.Math.Seq.{drop-append-add}
use Rattle.std.proofs.lemmas.Bool.Decides.{Decides-eqb, nat_tests}
use Rattle.std.proofs.lemmas.Bool.{eqb-true}
use Rattle.std.proofs.lemmas.Slice.Eq.{starts_is}
use Rattle.plain_laws.proofs.Texts.{same_bytes, same_text, not_empty}
use Rattle.plain_laws.proofs.Booleans.{clash}
use Rattle.plain_laws.proofs.Lists.{any_wider}
use Rattle.dir_model.specs.declared.event.Event.{Event}
use Rattle.dir_model.specs.declared.item.Inner.{Inner}
use Rattle.dir_model.specs.declared.tree.TreeEntry.{TreeEntry}
use Rattle.dir_model.specs.declared.tree.TreeNode.{TreeNode}
use Rattle.dir_model.specs.declared.tree.TreeNode.TheVariants.{Dir, Piece}
use Rattle.dir_model.specs.declared.request.DirError.{DirError}
use Rattle.dir_model.specs.declared.request.DirError.TheVariants.{Missing, Exists}
use Rattle.dir_model.specs.declared.request.Request.{Request}
use Rattle.dir_model.specs.declared.request.Request.TheVariants.{MakeDirIn, MakeFileIn, AppendIn, RemoveFileIn, RemoveDirIn}
use Rattle.dir_model.specs.declared.request.Reply.{Reply}
use Rattle.dir_model.specs.declared.request.Reply.TheVariants.{Done, Refused}
use Rattle.dir_model.specs.Calls.{IsRun, is_run_from, is_allowed}
use Rattle.dir_model.specs.Paths.{is_slash, is_empty, lies_below, is_directly_in, behind}
use Rattle.dir_model.specs.Replies.{is_apps_inner, is_any_reply, is_reply, is_state_reply, refused_in, make_refusal, file_refusal, left_at, is_fault, is_error, refusal, is_refused}
use Rattle.dir_model.specs.State.{DirState, folder_at}
use Rattle.dir_model.specs.Trace.{state_next, state_after, entries_kept, entry_made, placed, removed_in}
use Rattle.dir_model.specs.Trees.{is_dir, is_within, without_path, is_entry, is_dir_entry, is_file_entry, has_any, has_file, has_dir, has_parent, is_parent_entry, is_child}
use Rattle.dir_model.proofs.Allowed.{allowed_reply}
use Rattle.dir_model.proofs.Chains.{state_after-push}
use Rattle.dir_model.proofs.Lists.{and_left, and_right, and_both, not_true, or_last, any_push, any_last_not, any_filter}
use Rattle.dir_rules.specs.Marks.{status_directory}
use Rattle.lifecycle.proofs.Handles.{none_refused, refused_unless}
use Rattle.pod_report.proofs.StatusFiles.{status_own}
use Rattle.dir_laws.proofs.Apps.{below_front}
use Rattle.dir_laws.proofs.Paths.{below_root}

abbrev d : List ℕ
d = status_directory

-- paths

-- a path directly in another goes on behind it with a slash and a name
record Direct (a path : List ℕ) : Type 0 where
  name : List ℕ
  plain : list_any is_slash name ≡ false
  is : path ≡ a ++ 47 ∷ name

slash_front : (path a rest : List ℕ) → path ≡ a ++ rest → (slice_index path (length a) == 47) ≡ true → (more : List ℕ) × (rest ≡ 47 ∷ more)
slash_front path a [] is h = absurd (never path a is h)
  where
    never : (path a : List ℕ) → path ≡ a ++ [] → (slice_index path (length a) == 47) ≡ true → ⊥
    never [] [] is h = cc
    never (y ∷ path) [] is h = cc
    never [] (x ∷ a) is h = cc
    never (y ∷ path) (x ∷ a) is h = never path a (cc) h
slash_front path a (b ∷ bs) is h = (bs, ap (λ (c : ℕ). c ∷ bs) (eqb-true b 47 (at path a is h)))
  where
    at : (path a : List ℕ) → path ≡ a ++ b ∷ bs → (slice_index path (length a) == 47) ≡ true → (b == 47) ≡ true
    at [] a is h = absurd (filled a is)
      where
        filled : (a : List ℕ) → [] ≡ a ++ b ∷ bs → ⊥
        filled [] is = cc
        filled (x ∷ a) is = cc
    at (y ∷ path) [] is h = let same : b ≡ y = cc in ap (λ (c : ℕ). c == 47) same ∙ h
    at (y ∷ path) (x ∷ a) is h = at path a (cc) h

slash_of : (x : ℕ) (a path : List ℕ) → lies_below path (x ∷ a) ≡ true → (slice_index path (length (x ∷ a)) == 47) ≡ true
unfolding lies_below
slash_of x a path below = and_right (starts_with nat_eq path (x ∷ a)) (slice_index path (length (x ∷ a)) == 47) (sym (ap (λ b. cond b (not (length path == 0)) (starts_with nat_eq path (x ∷ a) && (slice_index path (length (x ∷ a)) == 47))) (not_empty x a)) ∙ below)

direct : (x : ℕ) (a path : List ℕ) → is_directly_in (x ∷ a) path ≡ true → Direct (x ∷ a) path
direct x a path h =
    let below = and_left (lies_below path (x ∷ a)) (not (is_empty (behind (x ∷ a) path)) && not (list_any is_slash (behind (x ∷ a) path))) h in
    let front = below_front path (x ∷ a) (not_empty x a) below in
    let slash = slash_of x a path below in
    let rest = slash_front path (x ∷ a) (drop (length (x ∷ a)) path) front slash in
    record {
      name = rest.0;
      plain = subst (λ (p : List ℕ). list_any is_slash p ≡ false) (past path (x ∷ a) rest.0 (front ∙ ap (λ l. (x ∷ a) ++ l) rest.1)) (not_true (list_any is_slash (behind (x ∷ a) path)) (and_right (not (is_empty (behind (x ∷ a) path))) _ (and_right (lies_below path (x ∷ a)) _ h)));
      is = front ∙ ap (λ l. (x ∷ a) ++ l) rest.1;
    }
  where
    past : (path a more : List ℕ) → path ≡ a ++ 47 ∷ more → drop (length a + 1) path ≡ more
    past path a more is = ap (λ (l : List ℕ). drop (length a + 1) l) is ∙ drop-append-add a (47 ∷ more) 1

slash_later : (a n : List ℕ) → list_any is_slash (a ++ 47 ∷ n) ≡ true
slash_later [] n = refl
slash_later (b ∷ a) n = or_last (is_slash b) (list_any is_slash (a ++ 47 ∷ n)) (slash_later a n)

-- a path has one parent
same_front : (a b n m : List ℕ) → a ++ 47 ∷ n ≡ b ++ 47 ∷ m → list_any is_slash n ≡ false → list_any is_slash m ≡ false → a ≡ b
same_front [] [] n m is p q = refl
same_front [] (y ∷ b) n m is p q = let rest : n ≡ b ++ 47 ∷ m = cc in clash (list_any is_slash n) (ap (list_any is_slash) rest ∙ slash_later b m) p
same_front (x ∷ a) [] n m is p q = let rest : m ≡ a ++ 47 ∷ n = cc in clash (list_any is_slash m) (ap (list_any is_slash) rest ∙ slash_later a n) q
same_front (x ∷ a) (y ∷ b) n m is p q =
    let first : x ≡ y = cc in
    let rest : a ++ 47 ∷ n ≡ b ++ 47 ∷ m = cc in
    ap (λ (z : ℕ). z ∷ a) first ∙ ap (λ (l : List ℕ). y ∷ l) (same_front a b n m rest p q)

front_index : (a more : List ℕ) → (slice_index (a ++ 47 ∷ more) (length a) == 47) ≡ true
front_index [] more = refl
front_index (x ∷ a) more = front_index a more

below_of : (x : ℕ) (a path more : List ℕ) → path ≡ (x ∷ a) ++ 47 ∷ more → lies_below path (x ∷ a) ≡ true
unfolding lies_below
below_of x a path more is =
    ap (λ b. cond b (not (length path == 0)) (starts_with nat_eq path (x ∷ a) && (slice_index path (length (x ∷ a)) == 47))) (not_empty x a)
    ∙ and_both (starts_with nat_eq path (x ∷ a)) (slice_index path (length (x ∷ a)) == 47) ((starts_is Decides-eqb path (x ∷ a) _ refl).1 (47 ∷ more) is)
    (ap (λ (p : List ℕ). slice_index p (length (x ∷ a)) == 47) is ∙ front_index (x ∷ a) more)

in_statuses : (path : List ℕ) → is_directly_in d path ≡ true → Direct d path
in_statuses path h = direct 115 (drop 1 d) path h

within_child : (path c : List ℕ) → is_within path d ≡ true → is_directly_in d c ≡ true → is_within path c ≡ true
within_child path c w h = or_last (bytes_eq c path) (lies_below c path) (by (bytes_eq d path) refl w)
  where
    x : Direct d c
    x = in_statuses c h

    under : (path : List ℕ) → lies_below d path ≡ true → lies_below c path ≡ true
    under [] l = subst (λ (p : List ℕ). lies_below p [] ≡ true) (sym x.is) (below_root 115 (drop 1 d ++ 47 ∷ x.name))
    under (y ∷ p) l =
        let front : d ≡ (y ∷ p) ++ drop (length (y ∷ p)) d = below_front d (y ∷ p) (not_empty y p) l in
        let rest = slash_front d (y ∷ p) (drop (length (y ∷ p)) d) front (slash_of y p d l) in
        below_of y p c (rest.0 ++ 47 ∷ x.name) (x.is ∙ (ap (λ l. l ++ 47 ∷ x.name) (front ∙ ap (λ l. (y ∷ p) ++ l) rest.1) ∙ append_assoc (y ∷ p) (47 ∷ rest.0) (47 ∷ x.name)))

    by : (b : Bool) → bytes_eq d path ≡ b → (b || lies_below d path) ≡ true → lies_below c path ≡ true
    by true is k = subst (λ (p : List ℕ). lies_below c p ≡ true) (same_text d path is) (and_left (lies_below c d) _ h)
    by false is k = under path k

-- entries

-- each folder that has something in the directory has the directory
abbrev Parented : List TreeEntry → Type 0
Parented es = (k : ℕ) → list_any (is_child k d) es ≡ true → list_any (is_dir_entry k d) es ≡ true

fewer : (t q : TreeEntry → Bool) (es : List TreeEntry) → list_any t (filter q es) ≡ true → list_any t es ≡ true
fewer t q [] h = h
fewer t q (e ∷ es) h = by (q e) (t e) (λ rest. fewer t q es rest) h
  where
    by : (b c : Bool) → (list_any t (filter q es) ≡ true → list_any t es ≡ true) → list_any t (cond b (e ∷ filter q es) (filter q es)) ≡ true → (t e || list_any t es) ≡ true
    by true c go h = split (t e) go h
      where
        split : (c : Bool) → (list_any t (filter q es) ≡ true → list_any t es ≡ true) → (c || list_any t (filter q es)) ≡ true → (c || list_any t es) ≡ true
        split true go h = refl
        split false go h = go h
    by false c go h = or_last (t e) (list_any t es) (go h)

filtered_none : (t q : TreeEntry → Bool) → ((e : TreeEntry) → t e ≡ true → q e ≡ false) → (es : List TreeEntry) → list_any t (filter q es) ≡ false
filtered_none t q off [] = refl
filtered_none t q off (e ∷ es) = by (q e) refl (t e) refl (filtered_none t q off es)
  where
    by : (b : Bool) → q e ≡ b → (c : Bool) → t e ≡ c → list_any t (filter q es) ≡ false → list_any t (cond b (e ∷ filter q es) (filter q es)) ≡ false
    by false is c so go = go
    by true is true so go = clash (q e) is (off e so)
    by true is false so go = ap (λ x. x || list_any t (filter q es)) so ∙ go

added : (es : List TreeEntry) (e : TreeEntry) → Parented es → (is_directly_in d e.path ≡ true → list_any (is_dir_entry e.folder d) es ≡ true) → Parented (es ++ e ∷ [])
added es e p here k any = any_push (is_dir_entry k d) es e (by (is_child k d e) refl)
  where
    by : (b : Bool) → is_child k d e ≡ b → list_any (is_dir_entry k d) es ≡ true
    by false off = p k (sym (any_last_not (is_child k d) es e off) ∙ any)
    by true is = subst (λ (n : ℕ). list_any (is_dir_entry n d) es ≡ true) (eqb-true e.folder k (and_left (e.folder == k) (is_directly_in d e.path) is)) (here (and_right (e.folder == k) (is_directly_in d e.path) is))

taken : (f : ℕ) (path : List ℕ) (es : List TreeEntry) → Parented es → Parented (without_path f path es)
taken f path es p k any = by ((k == f) && is_within path d) refl
  where
    stays : TreeEntry → Bool
    stays e = not ((e.folder == f) && is_within path e.path)

    goes : ((k == f) && is_within path d) ≡ true → (e : TreeEntry) → is_child k d e ≡ true → stays e ≡ false
    goes is e child =
        let folder : e.folder ≡ k = eqb-true e.folder k (and_left (e.folder == k) (is_directly_in d e.path) child) in
        ap not (and_both (e.folder == f) (is_within path e.path) (ap (λ (n : ℕ). n == f) folder ∙ and_left (k == f) (is_within path d) is) (within_child path e.path (and_right (k == f) (is_within path d) is) (and_right (e.folder == k) (is_directly_in d e.path) child)))

    keeps : ((k == f) && is_within path d) ≡ false → (e : TreeEntry) → is_dir_entry k d e ≡ true → stays e ≡ true
    keeps off e dir =
        let here = and_left (is_entry k d e) (is_dir e.node) dir in
        let folder : e.folder ≡ k = eqb-true e.folder k (and_left (e.folder == k) (bytes_eq e.path d) here) in
        let place : e.path ≡ d = same_text e.path d (and_right (e.folder == k) (bytes_eq e.path d) here) in
        ap (λ (n : ℕ). not ((n == f) && is_within path e.path)) folder ∙ (ap (λ (q : List ℕ). not ((k == f) && is_within path q)) place ∙ ap not off)

    by : (b : Bool) → ((k == f) && is_within path d) ≡ b → list_any (is_dir_entry k d) (without_path f path es) ≡ true
    by true is = clash (list_any (is_child k d) (without_path f path es)) any (filtered_none (is_child k d) stays (goes is) es)
    by false off = any_filter (is_dir_entry k d) stays (keeps off) es (p k (fewer (is_child k d) stays es any))

parent_is : (k : ℕ) (path : List ℕ) → is_directly_in d path ≡ true → (e : TreeEntry) → is_parent_entry k path e ≡ true → is_dir_entry k d e ≡ true
parent_is k path h e is = by e.path refl
  where
    x : Direct d path
    x = in_statuses path h

    dir : (is_dir e.node && is_directly_in e.path path) ≡ true
    dir = and_right (e.folder == k) (is_dir e.node && is_directly_in e.path path) is

    by : (p : List ℕ) → e.path ≡ p → is_dir_entry k d e ≡ true
    by [] at =
        let none : list_any is_slash path ≡ false = not_true (list_any is_slash path) (and_right (not (is_empty path)) (not (list_any is_slash path)) (and_right (lies_below path []) _ (subst (λ (p : List ℕ). is_directly_in p path ≡ true) at (and_right (is_dir e.node) _ dir)))) in
        clash (list_any is_slash path) (ap (list_any is_slash) x.is ∙ slash_later d x.name) none
    by (y ∷ p) at =
        let z = direct y p path (subst (λ (p : List ℕ). is_directly_in p path ≡ true) at (and_right (is_dir e.node) _ dir)) in
        let same : e.path ≡ d = at ∙ same_front (y ∷ p) d z.name x.name (sym z.is ∙ x.is) z.plain x.plain in
        and_both (is_entry k d e) (is_dir e.node) (and_both (e.folder == k) (bytes_eq e.path d) (and_left (e.folder == k) _ is) (subst (λ (q : List ℕ). bytes_eq q d ≡ true) (sym same) (same_bytes d))) (and_left (is_dir e.node) _ dir)

parent_there : (es : List TreeEntry) (k : ℕ) (path : List ℕ) → is_directly_in d path ≡ true → has_parent es k path ≡ true → list_any (is_dir_entry k d) es ≡ true
parent_there es k path h has = by (is_directly_in [] path) refl has
  where
    by : (b : Bool) → is_directly_in [] path ≡ b → (b || list_any (is_parent_entry k path) es) ≡ true → list_any (is_dir_entry k d) es ≡ true
    by false off has = any_wider (is_parent_entry k path) (is_dir_entry k d) (parent_is k path h) es has
    by true is has =
        let x = in_statuses path h in
        clash (list_any is_slash path) (ap (list_any is_slash) x.is ∙ slash_later d x.name) (not_true (list_any is_slash path) (and_right (not (is_empty path)) (not (list_any is_slash path)) (and_right (lies_below path []) _ is)))

file_child : (es : List TreeEntry) (k : ℕ) (path : List ℕ) → is_directly_in d path ≡ true → has_file es k path ≡ true → list_any (is_child k d) es ≡ true
file_child es k path h has = any_wider (is_file_entry k path) (is_child k d) (λ e is.
    let here = and_left (is_entry k path e) (not (is_dir e.node)) is in
    and_both (e.folder == k) (is_directly_in d e.path) (and_left (e.folder == k) (bytes_eq e.path path) here) (subst (λ (q : List ℕ). is_directly_in d q ≡ true) (sym (same_text e.path path (and_right (e.folder == k) (bytes_eq e.path path) here))) h)) es has

made : (o : Option ℕ) (path : List ℕ) (node : TreeNode) (es : List TreeEntry) → Parented es → ((k : ℕ) → o ≡ Some k → is_directly_in d path ≡ true → list_any (is_dir_entry k d) es ≡ true) → Parented (es ++ option_to_list (placed o path node))
made None path node es p here = subst Parented (sym (append-nil es)) p
made (Some k) path node es p here = added es (record { folder = k; path = path; node = node }) p (here k refl)

unmade : (o : Option ℕ) (path : List ℕ) (es : List TreeEntry) → Parented es → Parented (removed_in o path es ++ [])
unmade None path es p = subst Parented (sym (append-nil es)) p
unmade (Some f) path es p = subst Parented (sym (append-nil (without_path f path es))) (taken f path es p)

-- steps
module _ (h : List Event) (p : ℕ) where
  abbrev s : DirState
  s = state_after h

  own_not : (i : Inner) → is_directly_in d i.path ≡ true → is_apps_inner s (Some i) ≡ false
  own_not i at = let x = in_statuses i.path at in status_own h i (47 ∷ x.name) x.is

  parent_of : (path : List ℕ) (es : List TreeEntry) (k : ℕ) → is_some (make_refusal path es k) ≡ false → has_parent es k path ≡ true
  parent_of path es k r = by (has_any es k path) (has_parent es k path) r
    where
      by : (any parent : Bool) → is_some (cond any (Some Exists) (cond parent None (Some Missing))) ≡ false → parent ≡ true
      by true parent r = cc
      by false true r = refl
      by false false r = cc

  file_of : (path : List ℕ) (es : List TreeEntry) (k : ℕ) → is_some (file_refusal path es k) ≡ false → has_file es k path ≡ true
  file_of path es k r = refused_unless (has_file es k path) Missing r

  there_made : (i : Inner) (k : ℕ) → folder_at s.namespace i.spot ≡ Some k → is_some (refused_in (make_refusal i.path) s.entries (folder_at s.namespace i.spot)) ≡ false → is_directly_in d i.path ≡ true → list_any (is_dir_entry k d) s.entries ≡ true
  there_made i k at r direct = parent_there s.entries k i.path direct (parent_of i.path s.entries k (subst (λ (o : Option ℕ). is_some (refused_in (make_refusal i.path) s.entries o) ≡ false) at r))

  there_file : Parented s.entries → (i : Inner) (k : ℕ) → has_file s.entries k i.path ≡ true → is_directly_in d i.path ≡ true → list_any (is_dir_entry k d) s.entries ≡ true
  there_file par i k file direct = par k (file_child s.entries k i.path direct file)

  partly : (i : Inner) (piece : List ℕ) (error : DirError) (left k : ℕ) → folder_at s.namespace i.spot ≡ Some k → (left == 0) ≡ false → is_refused s p (AppendIn i piece) error left ≡ true → has_file s.entries k i.path ≡ true
  partly i piece error left k at some r = by (is_fault error) (left == 0) some (has_file s.entries k i.path) refl (subst (λ (o : Option ℕ). ((is_fault error && nat_le left (left_at i.path piece s.entries o)) || ((left == 0) && other)) ≡ true) at r)
    where
      other : Bool
      other = is_error error (refusal s p (AppendIn i piece))

      above : (n : ℕ) → (n == 0) ≡ false → nat_le n 0 ≡ true → ⊥
      above n some l = grind (arith, nat_tests)

      by : (fault none : Bool) → none ≡ false → (b : Bool) → has_file s.entries k i.path ≡ b → ((fault && nat_le left (cond b (length piece) 0)) || (none && other)) ≡ true → b ≡ true
      by fault none off true is r = refl
      by fault none off false is r = absurd (above left some (take_it fault none off (nat_le left 0) r))
        where
          take_it : (f n : Bool) → n ≡ false → (l : Bool) → ((f && l) || (n && other)) ≡ true → l ≡ true
          take_it true false off true r = refl
          take_it true false off false r = cc
          take_it false false off l r = cc
          take_it f true off l r = cc

  step : (request : Request) (reply : Reply) → Parented s.entries → is_reply s p request reply ≡ true → Parented (entries_kept s.namespace s.entries request reply ++ option_to_list (entry_made s.namespace request reply))
  step (MakeDirIn i) Done par r = made (folder_at s.namespace i.spot) i.path Dir s.entries par (λ k at direct. there_made i k at (none_refused s p (MakeDirIn i) (own_not i direct) r) direct)
  step (MakeFileIn i) Done par r = made (folder_at s.namespace i.spot) i.path (Piece []) s.entries par (λ k at direct. there_made i k at (none_refused s p (MakeFileIn i) (own_not i direct) r) direct)
  step (AppendIn i piece) Done par r = made (folder_at s.namespace i.spot) i.path (Piece piece) s.entries par (λ k at direct. there_file par i k (file_of i.path s.entries k (subst (λ (o : Option ℕ). is_some (refused_in (file_refusal i.path) s.entries o) ≡ false) at (none_refused s p (AppendIn i piece) (own_not i direct) r))) direct)
  step (AppendIn i piece) (Refused error left) par r = by (left == 0) refl
    where
      by : (b : Bool) → (left == 0) ≡ b → Parented (s.entries ++ option_to_list (cond b None (placed (folder_at s.namespace i.spot) i.path (Piece (take left piece)))))
      by true is = subst Parented (sym (append-nil s.entries)) par
      by false is = made (folder_at s.namespace i.spot) i.path (Piece (take left piece)) s.entries par (λ k at direct. there_file par i k (partly i piece error left k at is (state_says i (own_not i direct) r)) direct)
        where
          state_says : (i : Inner) → is_apps_inner s (Some i) ≡ false → is_reply s p (AppendIn i piece) (Refused error left) ≡ true → is_refused s p (AppendIn i piece) error left ≡ true
          state_says i off r = sym (ap (λ b. cond b (is_any_reply s p (AppendIn i piece) (Refused error left)) (is_state_reply s p (AppendIn i piece) (Refused error left))) off) ∙ r
  step (RemoveFileIn i) Done par r = unmade (folder_at s.namespace i.spot) i.path s.entries par
  step (RemoveDirIn i) Done par r = unmade (folder_at s.namespace i.spot) i.path s.entries par
  step request reply par r = subst Parented (sym (append-nil s.entries)) par

all_parented : (front es : List Event) → is_run_from (state_after front) es ≡ true → Parented (state_after front).entries → Parented (state_after (front ++ es)).entries
all_parented front [] run par = subst (λ (h : List Event). Parented (state_after h).entries) (sym (append-nil front)) par
all_parented front (e ∷ es) run par =
    let next = state_after-push front e in
    let allowed = and_left (is_allowed (state_after front) e) (is_run_from (state_next (state_after front) e) es) run in
    let more : Parented (state_after (front ++ e ∷ [])).entries = subst (λ (t : DirState). Parented t.entries) (sym next) (step front e.process e.request e.reply par (allowed_reply (state_after front) e.process e.request e.reply allowed)) in
    subst (λ (h : List Event). Parented (state_after h).entries) (append_assoc front (e ∷ []) es)
    (all_parented (front ++ e ∷ []) es (subst (λ (t : DirState). is_run_from t es ≡ true) (sym next) (and_right (is_allowed (state_after front) e) (is_run_from (state_next (state_after front) e) es) run)) more)

-- a status file's directory
pub status_parent : (h : List Event) (k : ℕ) (path : List ℕ) → IsRun h → is_directly_in status_directory path ≡ true → has_file (state_after h).entries k path ≡ true → has_dir (state_after h).entries k status_directory ≡ true
status_parent h k path run direct file = all_parented [] h run (λ k any. cc) k (file_child (state_after h).entries k path direct file)
