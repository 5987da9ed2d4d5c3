-- A pod comes to run with its directory for statuses, and with nothing that is named as a note. The directory stays, and no
-- directory gets such a name.
use Rattle.std.proofs.Common.{arith, ◌≡◌, ◌⊎◌, inl, inr, ◌≤◌, ℕ, Bool, true, false, not, ◌&&◌, ◌||◌, cond, bytes_eq, nat_lt, Some, None, List, [], ◌∷◌, ◌++◌, length, drop, codes, append-nil, refl, sym, ap, subst, ◌∙◌}
use Rattle.std.specs.List.{list_any}
use Rattle.std.proofs.lemmas.Bool.{and_parts}
use Rattle.plain_laws.proofs.Booleans.{clash}
use Rattle.plain_laws.proofs.Texts.{same_text}
use Rattle.plain_laws.proofs.Numbers.{one_number}
use Rattle.dir_model.specs.declared.area.Area.{Area}
use Rattle.dir_model.specs.declared.area.Area.TheVariants as area
use Rattle.dir_model.specs.declared.event.Event.{Event}
use Rattle.dir_model.specs.declared.spot.Spot.{Spot}
use Rattle.dir_model.specs.declared.tree.TreeNode.TheVariants.{Piece}
use Rattle.dir_model.specs.declared.request.Request.{Request}
use Rattle.dir_model.specs.declared.request.Request.TheVariants.{MakeFolder, MoveFolder}
use Rattle.dir_model.specs.declared.request.Reply.{Reply}
use Rattle.dir_model.specs.declared.request.Reply.TheVariants.{Done}
use Rattle.dir_model.specs.Areas.{is_stage}
use Rattle.dir_model.specs.State.{DirState, folder_at, stands}
use Rattle.dir_model.specs.Trace.{state_next, state_after}
use Rattle.dir_model.specs.Trees.{mark_prefix}
use Rattle.dir_model.specs.Calls.{is_kill, event}
use Rattle.dir_model.proofs.Chains.{state_after-push}
use Rattle.dir_model.proofs.Lists.{and_left, and_right, and_both, any_push, any_last_not, not_true}
use Rattle.dir_model.proofs.Spots.{spot_self}
use Rattle.dir_rules.specs.declared.seen.Entry.{Entry}
use Rattle.dir_rules.specs.declared.seen.Making.{Making}
use Rattle.dir_rules.specs.declared.seen.Seen.{Seen}
use Rattle.dir_rules.specs.Marks.{has_slash, begins, is_started_mark, is_status_file, status_directory, is_below_status, is_later_mark}
use Rattle.dir_rules.specs.Standing.{is_in}
use Rattle.dir_rules.specs.LockRules.{lock_rules_allow, may_move_by_locks, locks_allow_move}
use Rattle.dir_rules.specs.Rules.{allows, may_move_by_contents, contents_allow_move, content_rules_allow, may_make_in, is_dir, has_path_among, has_dir_among, has_file_among, is_all_done, is_whole_pod}
use Rattle.dir_rules.specs.Conforms.{seen_of}
use Rattle.lifecycle.specs.declared.machine.PodState.{PodState}
use Rattle.lifecycle.specs.declared.machine.PodState.TheVariants.{Preparing, AbortedPrepare, Prepared}
use Rattle.lifecycle.specs.PodMachine.{pod_state, is_area_of_state, pod_progress}
use Rattle.lifecycle.specs.Executions.{IsConforming}
use Rattle.lifecycle.proofs.Lists.{In, any_in, in_any}
use Rattle.lifecycle.proofs.Opens.{found_pod}
use Rattle.lifecycle.proofs.Places.{moved_there, none_stands}
use Rattle.lifecycle.proofs.Step.{stands_from}
use Rattle.folder_contents.specs.Entries.{entries_in}
use Rattle.folder_contents.specs.Handing.{hands_over, then_moved}
use Rattle.folder_contents.specs.UnderGate.{is_taken_from}
use Rattle.folder_contents.proofs.Along.{Happens, along, happens, pod_at}
use Rattle.folder_contents.proofs.Places.{stands_there, untaken}
use Rattle.folder_contents.proofs.Spots.{one_location}
use Rattle.folder_contents.proofs.Handed.{brought, handed}
use Rattle.folder_contents.proofs.LeftThere.{pods_are_left}
use Rattle.impossible_replies.proofs.Arrivals.{arrives, came}
use Rattle.impossible_replies.proofs.Makers.{pathless_file, pathless_dir}
use Rattle.impossible_replies.proofs.Origins.{at}
use Rattle.impossible_replies.proofs.RunNotes.{is_noted}
use Rattle.impossible_replies.proofs.RunChanges.{Written, run_change}

-- the directory for statuses stands, and no directory is named as a note
pub record Tidy (es : List Entry) : Type 0 where
  pub status : has_dir_among status_directory es ≡ true
  pub dirs : (path : List ℕ) → is_noted path ≡ true → has_dir_among path es ≡ false

-- nor is a file
pub record Whole (es : List Entry) : Type 0 where
  pub tidy : Tidy es
  pub files : (path : List ℕ) → is_noted path ≡ true → has_file_among path es ≡ false

-- a note's path is below the directory for statuses, or a later mark
named_late : (path : List ℕ) → is_noted path ≡ true → (is_below_status path ≡ true) ⊎ (is_later_mark path ≡ true)
named_late path note = by (is_started_mark path) (is_status_file path) refl refl note
  where
    by : (a b : Bool) → is_started_mark path ≡ a → is_status_file path ≡ b → (a || b) ≡ true → (is_below_status path ≡ true) ⊎ (is_later_mark path ≡ true)
    by true b e f h =
        let x = and_parts (begins mark_prefix path && nat_lt 8 (length path)) (not (has_slash path)) e in
        inr (ap (λ c. cond c false (cond (begins mark_prefix path) true (begins (codes "marked-") path))) (not_true (has_slash path) x.1)
        ∙ ap (λ c. cond c true (begins (codes "marked-") path)) (and_left (begins mark_prefix path) (nat_lt 8 (length path)) x.0))
    by false true e f h =
        inl (and_left (begins (codes "stage1/rootfs/rkt/status/") path) (nat_lt 25 (length path))
        (and_left (begins (codes "stage1/rootfs/rkt/status/") path && nat_lt 25 (length path)) (not (has_slash (drop 25 path))) f))
    by false false e f h = cc

unnamed : (es : List Entry) → list_any (λ e. is_below_status e.path) es ≡ false → list_any (λ e. is_later_mark e.path) es ≡ false →
    (path : List ℕ) → is_noted path ≡ true → has_path_among path es ≡ false
unnamed es below later path note = by (has_path_among path es) refl
  where
    by : (b : Bool) → has_path_among path es ≡ b → b ≡ false
    by false e = refl
    by true e = late (named_late path note)
      where
        x : (e : Entry) × (In e es × (bytes_eq e.path path ≡ true))
        x = any_in (λ e. bytes_eq e.path path) es e

        late : (is_below_status path ≡ true) ⊎ (is_later_mark path ≡ true) → true ≡ false
        late (inl h) = clash (list_any (λ e. is_below_status e.path) es)
            (in_any (λ e. is_below_status e.path) x.0 es x.1.0 (ap is_below_status (same_text x.0.path path x.1.1) ∙ h)) below
        late (inr h) = clash (list_any (λ e. is_later_mark e.path) es)
            (in_any (λ e. is_later_mark e.path) x.0 es x.1.0 (ap is_later_mark (same_text x.0.path path x.1.1) ∙ h)) later

whole_pod : (m : Making) → is_whole_pod m ≡ true → Whole m.entries
whole_pod m whole = record {
  tidy = record { status = b.0; dirs = λ path note. pathless_dir path m.entries (unnamed m.entries c.0 c.1 path note) };
  files = λ path note. pathless_file path m.entries (unnamed m.entries c.0 c.1 path note);
}
  where
    below : Bool
    below = list_any (λ e. is_below_status e.path) m.entries

    later : Bool
    later = list_any (λ e. is_later_mark e.path) m.entries

    b : (has_dir_among status_directory m.entries ≡ true) × ((not below && not later) ≡ true)
    b = and_parts (has_dir_among status_directory m.entries) (not below && not later) (and_right (is_all_done m) _ whole)

    c : (below ≡ false) × (later ≡ false)
    c = (not_true below (and_parts (not below) (not later) b.1).0, not_true later (and_parts (not below) (not later) b.1).1)

young : (a : Area) (z : PodState) → (is_in area.Prepare a || is_in area.Prepared a) ≡ true → is_area_of_state a z ≡ true → 5 ≤ pod_progress z → ⊥
young area.Prepare (Preparing o) on h l = absurd (omega (arith, l))
young area.Prepare AbortedPrepare on h l = absurd (omega (arith, l))
young area.Prepare z on h l = cc
young area.Prepared Prepared on h l = absurd (omega (arith, l))
young area.Prepared z on h l = cc
young a z on h l = cc

-- what comes to run comes whole, from prepare or prepared
pub comes_whole : (h : List Event) (p : ℕ) (from to : Spot) → IsConforming (then_moved h p from to) → to.area ≡ area.Run → (k : ℕ) →
    folder_at (state_after (then_moved h p from to)).namespace to ≡ Some k →
    Whole (entries_in k (state_after (then_moved h p from to)).entries) × (5 ≤ pod_progress (pod_state to.name h) → ⊥)
comes_whole h p from to c run k found = by from.area refl (subst (λ (b : Area). contents_allow_move s from to from.area b ≡ true) run (brought s from to may))
  where
    x : Happens h (event p (MoveFolder from to) Done)
    x = happens h (event p (MoveFolder from to) Done) c

    s : Seen
    s = seen_of p h

    may : allows s (MoveFolder from to) ≡ true
    may = x.may refl

    stood : folder_at (state_after h).namespace from ≡ Some k
    stood = sym (moved_there (state_after h).namespace to from to
        (none_stands (state_after h).namespace to (stands_from (state_after h) p from to x.is).1) (spot_self to))
        ∙ (sym (ap (λ (z : DirState). folder_at z.namespace to) (state_after-push h (event p (MoveFolder from to) Done))) ∙ found)

    unchanged : entries_in k (state_after (then_moved h p from to)).entries ≡ entries_in k (state_after h).entries
    unchanged = ap (λ (z : DirState). entries_in k z.entries) (state_after-push h (event p (MoveFolder from to) Done))
        ∙ ap (entries_in k) (append-nil (state_after h).entries)

    early : (is_in area.Prepare from.area || is_in area.Prepared from.area) ≡ true → is_stage from.area ≡ true → 5 ≤ pod_progress (pod_state to.name h) → ⊥
    early on stage l = young from.area (pod_state to.name h) on
        (found_pod to.name (state_after h).namespace (pod_state to.name h) (pod_at to.name h x.conforming) from
        (and_both (is_stage from.area) (bytes_eq from.name to.name) stage names) (stands_there (state_after h).namespace from k stood)).0 l
      where
        names : bytes_eq from.name to.name ≡ true
        names = and_left (bytes_eq from.name to.name) (locks_allow_move s.standing from.name from.area to.area)
            (sym (ap (λ b. cond (b || is_stage to.area) (bytes_eq from.name to.name && locks_allow_move s.standing from.name from.area to.area) true) stage)
            ∙ and_left (may_move_by_locks s.standing from to) (may_move_by_contents s from to) may)

    by : (a : Area) → from.area ≡ a → contents_allow_move s from to a area.Run ≡ true →
        Whole (entries_in k (state_after (then_moved h p from to)).entries) × (5 ≤ pod_progress (pod_state to.name h) → ⊥)
    by area.Prepare e bring =
        let o = handed h p from to c (subst (λ (a : Area). hands_over a to.area ≡ true) (sym e) (subst (λ (b : Area). hands_over area.Prepare b ≡ true) (sym run) refl)) in
        let same : o.0 ≡ k = one_number o.0 k (sym o.1.stands ∙ found) in (
          subst (λ (j : ℕ). Whole (entries_in j (state_after (then_moved h p from to)).entries)) same
              (subst Whole (sym o.1.same) (whole_pod o.1.making (o.1.whole_pod (ap (is_in area.Prepare) e)))),
          early (ap (λ (a : Area). is_in area.Prepare a || is_in area.Prepared a) e) (ap is_stage e),
        )
    by area.Prepared e bring =
        let l = pods_are_left h x.conforming from k (ap (is_in area.Prepared) e) stood in (
          subst Whole (sym (unchanged ∙ l.same)) (whole_pod l.handed.making (l.handed.whole_pod l.came)),
          early (ap (λ (a : Area). is_in area.Prepare a || is_in area.Prepared a) e) (ap is_stage e),
        )
    by a e bring = cc

-- a piece of a file more leaves the directories
tidy_piece : (es : List Entry) (path bytes : List ℕ) → Tidy es → Tidy (es ++ record { path = path; node = Piece bytes } ∷ [])
tidy_piece es path bytes t = record {
  status = any_push (λ e. is_dir e.node && bytes_eq e.path status_directory) es (record { path = path; node = Piece bytes }) t.status;
  dirs = λ other note. any_last_not (λ e. is_dir e.node && bytes_eq e.path other) es (record { path = path; node = Piece bytes }) refl ∙ t.dirs other note;
}

-- the folder of a pod in run is tidy
abbrev pub AreTidy : List Event → Type 0
AreTidy h = (u : List ℕ) (k : ℕ) → folder_at (state_after h).namespace (at area.Run u) ≡ Some k → Tidy (entries_in k (state_after h).entries)

tidy_next : (h : List Event) (e : Event) → IsConforming (h ++ e ∷ []) → AreTidy h → AreTidy (h ++ e ∷ [])
tidy_next h e c was u k there = by (came st e.process e.request e.reply spot (stands_there (state_next st e).namespace spot k found))
  where
    x : Happens h e
    x = happens h e c

    st : DirState
    st = state_after h

    spot : Spot
    spot = at area.Run u

    found : folder_at (state_next st e).namespace spot ≡ Some k
    found = sym (ap (λ (z : DirState). folder_at z.namespace spot) (state_after-push h e)) ∙ there

    put : Tidy (entries_in k (state_next st e).entries) → Tidy (entries_in k (state_after (h ++ e ∷ [])).entries)
    put t = subst (λ (z : DirState). Tidy (entries_in k z.entries)) (sym (state_after-push h e)) t

    stays : folder_at st.namespace spot ≡ Some k → Tidy (entries_in k (state_next st e).entries)
    stays before = on (run_change st e.process (seen_of e.process h) e.request e.reply k spot refl before x.may)
      where
        on : (entries_in k (state_next st e).entries ≡ entries_in k st.entries) ⊎ Written st e.process e.request e.reply k spot →
            Tidy (entries_in k (state_next st e).entries)
        on (inl same) = subst Tidy (sym same) (was u k before)
        on (inr w) = subst Tidy (sym w.grown) (tidy_piece (entries_in k st.entries) w.inner.path w.bytes (was u k before))

    arrived : (request : Request) (reply : Reply) → e.request ≡ request → e.reply ≡ reply → arrives spot request reply ≡ true →
        Tidy (entries_in k (state_after (h ++ e ∷ [])).entries)
    arrived (MakeFolder new) Done is done on =
        let may : allows (seen_of e.process h) (MakeFolder new) ≡ true =
        ap (λ (q : Request). allows (seen_of e.process h) q) (sym is) ∙ x.may (ap is_kill is) in
        clash (may_make_in (seen_of e.process h) new.name new.area)
        (and_right (lock_rules_allow (seen_of e.process h).standing (MakeFolder new)) (content_rules_allow (seen_of e.process h) (MakeFolder new)) may)
        (ap (λ (z : Spot). may_make_in (seen_of e.process h) z.name z.area) (one_location new spot on))
    arrived (MoveFolder from to) Done is done on =
        let same : h ++ e ∷ [] ≡ then_moved h e.process from to =
        ap (λ (q : Request). h ++ event e.process q e.reply ∷ []) is ∙ ap (λ (y : Reply). h ++ event e.process (MoveFolder from to) y ∷ []) done in
        let here = one_location to spot on in
        subst (λ (t : List Event). Tidy (entries_in k (state_after t).entries)) (sym same)
        (comes_whole h e.process from to (subst (λ (t : List Event). IsConforming t) same c) (ap (λ (z : Spot). z.area) here) k
        (subst (λ (t : List Event). folder_at (state_after t).namespace to ≡ Some k) same
        (subst (λ (z : Spot). folder_at (state_after (h ++ e ∷ [])).namespace z ≡ Some k) (sym here) there))).0.tidy
    arrived request reply is done on = cc

    by : (arrives spot e.request e.reply ≡ true) ⊎ ((stands st.namespace spot ≡ true) × (is_taken_from spot e.request e.reply ≡ false)) →
        Tidy (entries_in k (state_after (h ++ e ∷ [])).entries)
    by (inl on) = arrived e.request e.reply refl refl on
    by (inr (stood, off)) = put (stays (sym (untaken st e.process e.request e.reply spot x.is stood off) ∙ found))

pub are_tidy : (h : List Event) → IsConforming h → AreTidy h
are_tidy h conforming = along AreTidy (λ u k found. absurd (never k found)) tidy_next h conforming
  where
    never : (k : ℕ) → None ≡ Some k → ⊥
    never k h = cc
