-- Where nobody else steps: a file that a process makes in its pod's folder stands there in the end, with what it appends to it.
use Rattle.std.proofs.Common.{◌≡◌, ℕ, Bool, true, false, not, ◌&&◌, ◌||◌, ◌==◌, cond, bytes_eq, Option, Some, None, is_some, option_to_list, List, [], ◌∷◌, ◌++◌, filter, length, take, append-nil, refl, sym, ap, subst, ◌∙◌}
use Rattle.std.specs.List.{AllByRecursion, list_any, flat_map}
use Rattle.plain_laws.proofs.Texts.{same_bytes, same_text}
use Rattle.plain_laws.proofs.Booleans.{clash, or_nothing}
use Rattle.plain_laws.proofs.Lists.{any_left}
use Rattle.dir_model.specs.declared.event.Event.{Event}
use Rattle.dir_model.specs.declared.item.Inner.{Inner}
use Rattle.dir_model.specs.declared.pod.PodId.{PodId}
use Rattle.dir_model.specs.declared.request.DirError.TheVariants.{Exists, Missing}
use Rattle.dir_model.specs.declared.request.Reply.{Reply}
use Rattle.dir_model.specs.declared.request.Reply.TheVariants.{Done, Refused}
use Rattle.dir_model.specs.declared.request.Request.{Request}
use Rattle.dir_model.specs.declared.request.Request.TheVariants.{MakeDirIn, MakeFileIn, AppendIn, RemoveFileIn, RemoveDirIn}
use Rattle.dir_model.specs.declared.tree.TreeEntry.{TreeEntry}
use Rattle.dir_model.specs.declared.tree.TreeNode.{TreeNode}
use Rattle.dir_model.specs.declared.tree.TreeNode.TheVariants.{Dir, Piece}
use Rattle.dir_model.specs.Calls.{event, is_allowed, is_foreign, is_kill, is_run_from}
use Rattle.dir_model.specs.Replies.{is_any_reply, is_own_at, make_refusal, refused_in}
use Rattle.dir_model.specs.State.{Namespace, DirState, folder_at, spot_eq}
use Rattle.dir_model.specs.Trace.{state_next, states_next, entries_kept, entry_made, placed}
use Rattle.dir_model.specs.Trees.{content, has_any, has_file, has_parent, is_apps_own, is_dir, is_dir_entry, is_entry, is_file_entry, bytes_of}
use Rattle.dir_model.proofs.Allowed.{allowed_reply}
use Rattle.dir_model.proofs.Chains.{states_next-append, run_from-left, run_from-right}
use Rattle.dir_model.proofs.Lists.{all_left, all_right, and_left, and_right, and_both, any_last, or_left_false, or_right_false, same_self, same_number}
use Rattle.dir_laws.proofs.Contents.{content-push, piece_adds, piece_leaves}
use Rattle.dir_rules.specs.Seen.{inner_eq}
use Rattle.folder_building.specs.Making.{inner_at}
use Rattle.lifecycle.proofs.Numbers.{one_spot}
use Rattle.lifecycle.proofs.Places.{same_name}
use Rattle.pod_locks.specs.ClaimRequests.{in_run}
use Rattle.stage1.specs.Keeping.{appends_to, is_own_append}
use Rattle.stage1.proofs.Appends.{count}
use Rattle.commands.proofs.OwnSteps.{in_process, own_asked}
use Rattle.commands.proofs.Passing.{Leaves, there_all}

-- it removes nothing inside a folder
pub record RemovesNothing (asks : Request → Bool) : Type 0 where
  pub files : (inner : Inner) → asks (RemoveFileIn inner) ≡ true → ⊥
  pub dirs : (inner : Inner) → asks (RemoveDirIn inner) ≡ true → ⊥

-- where nothing stands at a path there are no bytes
none_there : (k : ℕ) (path : List ℕ) (es : List TreeEntry) → list_any (is_dir_entry k path) es ≡ false → list_any (is_file_entry k path) es ≡ false → content es k path ≡ []
none_there k path [] no_dir no_file = refl
none_there k path (e ∷ es) no_dir no_file =
    by (is_entry k path e) (is_dir e.node) (or_left_false (is_dir_entry k path e) (list_any (is_dir_entry k path) es) no_dir) (or_left_false (is_file_entry k path e) (list_any (is_file_entry k path) es) no_file)
    (none_there k path es (or_right_false (is_dir_entry k path e) (list_any (is_dir_entry k path) es) no_dir) (or_right_false (is_file_entry k path e) (list_any (is_file_entry k path) es) no_file))
  where
    by : (b c : Bool) → (b && c) ≡ false → (b && not c) ≡ false → content es k path ≡ [] → flat_map (λ x. bytes_of x.node) (cond b (e ∷ filter (is_entry k path) es) (filter (is_entry k path) es)) ≡ []
    by false c d f rest = rest
    by true true d f rest = cc
    by true false d f rest = cc

-- an entry more
module _ (k : ℕ) (inner : Inner) where
  abbrev bytes : List TreeEntry → List ℕ
  bytes es = content es k inner.path

  empty_entry : (es : List TreeEntry) (o : Option ℕ) (path : List ℕ) (node : TreeNode) → bytes_of node ≡ [] → bytes (es ++ option_to_list (placed o path node)) ≡ bytes es
  empty_entry es None path node is = ap bytes (append-nil es)
  empty_entry es (Some j) path node is = content-push es x k inner.path ∙ by (is_entry k inner.path x)
    where
      x : TreeEntry
      x = record { folder = j; path = path; node = node }

      by : (b : Bool) → bytes es ++ flat_map (λ y. bytes_of y.node) (cond b (x ∷ []) []) ≡ bytes es
      by true = ap (λ (l : List ℕ). bytes es ++ (l ++ [])) is ∙ append-nil (bytes es)
      by false = append-nil (bytes es)

  module _ (n : Namespace) (es : List TreeEntry) (at : folder_at n inner.spot ≡ Some k) where
    other_entry : (i : Inner) (node : TreeNode) → inner_eq inner i ≡ false → bytes (es ++ option_to_list (placed (folder_at n i.spot) i.path node)) ≡ bytes es
    other_entry i node off = by (folder_at n i.spot) refl
      where
        apart : (j : ℕ) → folder_at n i.spot ≡ Some j → (a b : Bool) → (j == k) ≡ a → bytes_eq i.path inner.path ≡ b → (a && b) ≡ false
        apart j found true true e f = clash (inner_eq inner i) (and_both (spot_eq inner.spot i.spot) (bytes_eq inner.path i.path) (one_spot n inner.spot i.spot k at (found ∙ ap Some (same_number j k e))) (same_name inner.path i.path (sym (same_text i.path inner.path f)))) off
        apart j found true false e f = refl
        apart j found false b e f = refl

        by : (o : Option ℕ) → folder_at n i.spot ≡ o → bytes (es ++ option_to_list (placed o i.path node)) ≡ bytes es
        by None found = ap bytes (append-nil es)
        by (Some j) found = piece_leaves es (record { folder = j; path = i.path; node = node }) k inner.path (apart j found (j == k) (bytes_eq i.path inner.path) refl refl)

    unmade : bytes (es ++ []) ≡ bytes es
    unmade = ap bytes (append-nil es)

    pub nothing_added : (request : Request) (reply : Reply) → appends_to inner request ≡ false → bytes (es ++ option_to_list (entry_made n request reply)) ≡ bytes es
    nothing_added (MakeDirIn i) Done off = empty_entry es (folder_at n i.spot) i.path Dir refl
    nothing_added (MakeFileIn i) Done off = empty_entry es (folder_at n i.spot) i.path (Piece []) refl
    nothing_added (AppendIn i piece) Done off = other_entry i (Piece piece) off
    nothing_added (AppendIn i piece) (Refused error left) off = by (left == 0)
      where
        by : (b : Bool) → bytes (es ++ option_to_list (cond b None (placed (folder_at n i.spot) i.path (Piece (take left piece))))) ≡ bytes es
        by true = unmade
        by false = other_entry i (Piece (take left piece)) off
    nothing_added request reply off = unmade

module _ (pod : PodId) (asks : Request → Bool) (l : Leaves (in_run pod) asks) (none : RemovesNothing asks) (me : ℕ) where
  abbrev pub Own : List Event → Type 0
  Own es = AllByRecursion (λ e. e.process ≡ me) es

  abbrev pub Asked : List Event → Type 0
  Asked es = AllByRecursion (λ e. (is_foreign me e || in_process asks e.request) ≡ true) es

  kept : (n : Namespace) (es : List TreeEntry) (request : Request) (reply : Reply) → (is_kill request || in_process asks request) ≡ true → entries_kept n es request reply ≡ es
  kept n es (RemoveFileIn i) Done h = absurd (none.files i (or_nothing (asks (RemoveFileIn i)) h))
  kept n es (RemoveDirIn i) Done h = absurd (none.dirs i (or_nothing (asks (RemoveDirIn i)) h))
  kept n es request reply h = refl

  -- a file in the folder with this number
  module _ (path : List ℕ) where
    abbrev inner : Inner
    inner = inner_at (in_run pod) path

    abbrev make : Event
    make = event me (MakeFileIn inner) Done

    file_on : (k : ℕ) (s : DirState) (request : Request) (reply : Reply) → (is_kill request || in_process asks request) ≡ true → has_file s.entries k path ≡ true → has_file (state_next s (event me request reply)).entries k path ≡ true
    file_on k s request reply h at =
        any_left (is_file_entry k path) (entries_kept s.namespace s.entries request reply) (option_to_list (entry_made s.namespace request reply)) (ap (λ (es : List TreeEntry). has_file es k path) (kept s.namespace s.entries request reply h) ∙ at)

    file_all : (k : ℕ) (s : DirState) (es : List Event) → Own es → Asked es → has_file s.entries k path ≡ true → has_file (states_next s es).entries k path ≡ true
    file_all k s [] own asked at = at
    file_all k s (e ∷ es) own asked at = file_all k (state_next s e) es own.1 asked.1 (file_on k s e.request e.reply (own_asked (in_process asks) me e own.0 asked.0) at)

    bytes_on : (k : ℕ) (s : DirState) (request : Request) (reply : Reply) → (is_kill request || in_process asks request) ≡ true → folder_at s.namespace (in_run pod) ≡ Some k → appends_to inner request ≡ false →
        content (state_next s (event me request reply)).entries k path ≡ content s.entries k path
    bytes_on k s request reply h at off =
        ap (λ (es : List TreeEntry). content (es ++ option_to_list (entry_made s.namespace request reply)) k path) (kept s.namespace s.entries request reply h) ∙ nothing_added k inner s.namespace s.entries at request reply off

    -- where nothing is appended to it
    uncounted : (o : Bool) (request : Request) → o ≡ true → (not (not o || is_kill request) && appends_to inner request) ≡ false → appends_to inner request ≡ false
    uncounted true (AppendIn i piece) own h = h
    uncounted false request own h = cc
    uncounted true request own h = refl

    none_appended : (es : List Event) → Own es → count me inner es ≡ 0 → AllByRecursion (λ e. appends_to inner e.request ≡ false) es
    none_appended [] own is = tt
    none_appended (e ∷ es) own is = by (is_own_append me inner e) refl is (λ left. none_appended es own.1 left)
      where
        by : (b : Bool) → is_own_append me inner e ≡ b → length (cond b (e ∷ filter (is_own_append me inner) es) (filter (is_own_append me inner) es)) ≡ 0 → (count me inner es ≡ 0 → AllByRecursion (λ x. appends_to inner x.request ≡ false) es) →
            AllByRecursion (λ x. appends_to inner x.request ≡ false) (e ∷ es)
        by true found is rest = cc
        by false found is rest = (uncounted (e.process == me) e.request (ap (λ (p : ℕ). p == me) own.0 ∙ same_self me) found, rest is)

    bytes_all : (k : ℕ) (s : DirState) (es : List Event) → is_run_from s es ≡ true → Own es → Asked es → AllByRecursion (λ e. appends_to inner e.request ≡ false) es → folder_at s.namespace (in_run pod) ≡ Some k →
        content (states_next s es).entries k path ≡ content s.entries k path
    bytes_all k s [] run own asked off at = refl
    bytes_all k s (e ∷ es) run own asked off at =
        let may = and_left (is_allowed s e) (is_run_from (state_next s e) es) run in
        let next : folder_at (state_next s e).namespace (in_run pod) ≡ Some k = there_all pod asks l me k s (e ∷ []) (and_both (is_allowed s e) true may refl) (own.0, tt) (asked.0, tt) at in
        bytes_all k (state_next s e) es (and_right (is_allowed s e) (is_run_from (state_next s e) es) run) own.1 asked.1 off.1 next
        ∙ bytes_on k s e.request e.reply (own_asked (in_process asks) me e own.0 asked.0) at off.0

    -- its make, which was answered Ok
    free : (a b : Bool) → (not (is_some (cond a (Some Exists) (cond b None (Some Missing)))) && true) ≡ true → a ≡ false
    free true b h = cc
    free false b h = refl

    made_told : (s : DirState) (o : Option ℕ) → ((j : ℕ) → is_apps_own s.apps j path ≡ false) → cond (is_own_at s path o) (is_any_reply s me (MakeFileIn inner) Done) (not (is_some (refused_in (make_refusal path) s.entries o)) && true) ≡ true →
        (j : ℕ) × (o ≡ Some j) × (has_any s.entries j path ≡ false)
    made_told s None unowned h = cc
    made_told s (Some j) unowned h =
        let state : (not (is_some (make_refusal path s.entries j)) && true) ≡ true = sym (ap (λ b. cond b (is_any_reply s me (MakeFileIn inner) Done) (not (is_some (make_refusal path s.entries j)) && true)) (unowned j)) ∙ h in
        (j, refl, free (has_any s.entries j path) (has_parent s.entries j path) state)

    module _ (k : ℕ) (s : DirState) (rest : List Event) (run : is_run_from s (make ∷ rest) ≡ true) (unowned : (j : ℕ) → is_apps_own s.apps j path ≡ false) (own : Own rest) (asked : Asked rest)
        (there : folder_at (states_next s (make ∷ rest)).namespace (in_run pod) ≡ Some k) where
      runs_on : is_run_from (state_next s make) rest ≡ true
      runs_on = and_right (is_allowed s make) (is_run_from (state_next s make) rest) run

      found : (j : ℕ) × (folder_at s.namespace (in_run pod) ≡ Some j) × (has_any s.entries j path ≡ false)
      found = made_told s (folder_at s.namespace (in_run pod)) unowned (allowed_reply s me (MakeFileIn inner) Done (and_left (is_allowed s make) (is_run_from (state_next s make) rest) run))

      same : found.0 ≡ k
      same =
          let e : Some found.0 ≡ Some k = sym (there_all pod asks l me found.0 (state_next s make) rest runs_on own asked found.1) ∙ there in cc

      at : folder_at s.namespace (in_run pod) ≡ Some k
      at = found.1 ∙ ap Some same

      nothing : has_any s.entries k path ≡ false
      nothing = subst (λ (j : ℕ). has_any s.entries j path ≡ false) same found.2

      pub file_stands : has_file (states_next s (make ∷ rest)).entries k path ≡ true
      file_stands =
          let x : TreeEntry = record { folder = k; path = path; node = Piece [] } in
          file_all k (state_next s make) rest own asked
          (ap (λ (o : Option ℕ). has_file (s.entries ++ option_to_list (placed o path (Piece []))) k path) at
          ∙ any_last (is_file_entry k path) s.entries x (and_both (is_entry k path x) true (and_both (k == k) (bytes_eq path path) (same_self k) (same_bytes path)) refl))

      empty : content (state_next s make).entries k path ≡ []
      empty =
          let no_dir = or_right_false _ _ (or_left_false _ _ nothing) in
          let no_file = or_right_false _ _ nothing in
          nothing_added k inner s.namespace s.entries at (MakeFileIn inner) Done refl ∙ none_there k path s.entries no_dir no_file

      -- and one append to it
      pub bytes_stand : (piece : List ℕ) (between after : List Event) → rest ≡ between ++ event me (AppendIn inner piece) Done ∷ after → count me inner between ≡ 0 → count me inner after ≡ 0 → content (states_next s (make ∷ rest)).entries k path ≡ piece
      bytes_stand piece between after parted none_first none_last =
          let w = event me (AppendIn inner piece) Done in
          let s1 = state_next s make in
          let s2 = states_next s1 between in
          let runs = subst (λ (es : List Event). is_run_from s1 es ≡ true) parted runs_on in
          let mine = subst Own parted own in
          let kinds = subst Asked parted asked in
          let first = run_from-left s1 between (w ∷ after) runs in
          let last = run_from-right s1 between (w ∷ after) runs in
          let own1 = all_left (λ e. e.process ≡ me) between (w ∷ after) mine in
          let asked1 = all_left (λ e. (is_foreign me e || in_process asks e.request) ≡ true) between (w ∷ after) kinds in
          let own2 = all_right (λ e. e.process ≡ me) between (w ∷ after) mine in
          let asked2 = all_right (λ e. (is_foreign me e || in_process asks e.request) ≡ true) between (w ∷ after) kinds in
          let at2 = there_all pod asks l me k s1 between first own1 asked1 at in
          let before : content s2.entries k path ≡ [] = bytes_all k s1 between first own1 asked1 (none_appended between own1 none_first) at ∙ empty in
          let then : content (state_next s2 w).entries k path ≡ piece =
          ap (λ (o : Option ℕ). content (s2.entries ++ option_to_list (placed o path (Piece piece))) k path) at2
          ∙ (piece_adds s2.entries k path piece (and_both (k == k) (bytes_eq path path) (same_self k) (same_bytes path)) ∙ ap (λ (bs : List ℕ). bs ++ piece) before) in
          let at3 : folder_at (state_next s2 w).namespace (in_run pod) ≡ Some k = at2 in
          ap (λ (es : List Event). content (states_next s1 es).entries k path) parted
          ∙ (ap (λ (x : DirState). content x.entries k path) (states_next-append s1 between (w ∷ after))
          ∙ (bytes_all k (state_next s2 w) after (and_right (is_allowed s2 w) (is_run_from (state_next s2 w) after) last) own2.1 asked2.1 (none_appended after own2.1 none_last) at3 ∙ then))
