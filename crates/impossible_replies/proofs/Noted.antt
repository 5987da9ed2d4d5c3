-- While a process runs a pod, there stands what it noted, and nothing else that is named as a note.
use Rattle.std.proofs.Common.{◌≡◌, ◌⊎◌, inl, inr, ◌≤◌, ℕ, Bool, true, false, not, ◌&&◌, ◌||◌, ◌==◌, cond, bytes_eq, Option, Some, is_some, List, [], ◌∷◌, ◌++◌, refl, sym, ap, subst, ◌∙◌}
use Rattle.std.specs.List.{list_any}
use Rattle.plain_laws.proofs.Booleans.{clash}
use Rattle.plain_laws.proofs.Texts.{same_text}
use Rattle.dir_model.specs.declared.area.Area.{Area}
use Rattle.dir_model.specs.declared.area.Area.TheVariants as area
use Rattle.dir_model.specs.declared.event.Event.{Event}
use Rattle.dir_model.specs.declared.item.Inner.{Inner}
use Rattle.dir_model.specs.declared.spot.Spot.{Spot}
use Rattle.dir_model.specs.declared.tree.TreeNode.TheVariants.{Piece}
use Rattle.dir_model.specs.declared.request.DirError.TheVariants.{Exists}
use Rattle.dir_model.specs.declared.request.Request.{Request}
use Rattle.dir_model.specs.declared.request.Request.TheVariants.{MakeFolder, MoveFolder, ListArea, ListIn, MakeDirIn, MakeFileIn, AppendIn, SyncIn}
use Rattle.dir_model.specs.declared.request.Reply.{Reply}
use Rattle.dir_model.specs.declared.request.Reply.TheVariants.{Done, Names, Items, Refused}
use Rattle.dir_model.specs.Areas.{is_stage}
use Rattle.dir_model.specs.State.{DirState, folder_at, stands, lives, has_begun, spot_eq}
use Rattle.dir_model.specs.Trace.{state_next, state_after, namespace_replied}
use Rattle.dir_model.specs.Replies.{is_reply}
use Rattle.dir_model.specs.Calls.{is_begin, is_kill, is_foreign, event}
use Rattle.dir_model.proofs.Chains.{state_after-push}
use Rattle.dir_model.proofs.Lists.{and_left, and_right, and_both, any_push, any_last, any_last_not, not_true, or_last, same_self}
use Rattle.dir_model.proofs.Spots.{spot_self}
use Rattle.dir_rules.specs.declared.seen.Entry.{Entry}
use Rattle.dir_rules.specs.declared.seen.Seen.{Seen}
use Rattle.dir_rules.specs.declared.standing.Standing.{Standing}
use Rattle.dir_rules.specs.Marks.{is_status_file}
use Rattle.dir_rules.specs.Seen.{inner_eq, learned}
use Rattle.dir_rules.specs.Standing.{is_in, is_spot_of_pod, holds_own, last_move_of, standing_replied}
use Rattle.dir_rules.specs.LockRules.{on_spot, lock_rules_allow}
use Rattle.dir_rules.specs.Rules.{allows, may_append_in, content_rules_allow, has_file_among, has_note, is_dir, runs, spares_deleted_pod}
use Rattle.dir_rules.specs.Conforms.{seen_of, seen_replied}
use Rattle.dir_rules.proofs.Unborn.{unborn_saw_nothing}
use Rattle.lifecycle.specs.PodMachine.{pod_state, pod_progress}
use Rattle.lifecycle.specs.Executions.{IsConforming}
use Rattle.lifecycle.proofs.Lists.{In}
use Rattle.lifecycle.proofs.Handles.{none_refused, refused_if}
use Rattle.lifecycle.proofs.Owners.{is_move_of}
use Rattle.lifecycle.proofs.Places.{same_name}
use Rattle.lifecycle.proofs.Step.{stands_from}
use Rattle.folder_contents.specs.Entries.{entries_in}
use Rattle.folder_contents.specs.Handing.{then_moved}
use Rattle.folder_contents.specs.UnderGate.{is_taken_from}
use Rattle.folder_contents.proofs.Along.{Happens, along, happens, whose, stranger, foreign_same, own_next}
use Rattle.folder_contents.proofs.Entries.{placed_here}
use Rattle.folder_contents.proofs.Knowledge.{lived}
use Rattle.folder_contents.proofs.Places.{folder_same, stands_there, untaken}
use Rattle.folder_contents.proofs.Spots.{one_location, in_area}
use Rattle.impossible_replies.proofs.Alongside.{Steps, steps}
use Rattle.impossible_replies.proofs.Arrivals.{arrives, came}
use Rattle.impossible_replies.proofs.Origins.{at}
use Rattle.impossible_replies.proofs.Runners.{runs_before, begun_runs, runner_found}
use Rattle.impossible_replies.proofs.RunNotes.{is_noted, same_notes, notes_old}
use Rattle.impossible_replies.proofs.RunChanges.{Written, run_change}
use Rattle.impossible_replies.proofs.Wholes.{Whole, comes_whole}
use Rattle.impossible_replies.proofs.Writers.{written_by}

abbrev pub note : List ℕ → List ℕ → Inner
note u path = record { spot = at area.Run u; path = path }

pub record Noted (es : List Entry) (notes : List Inner) (u : List ℕ) : Type 0 where
  pub files : (path : List ℕ) → is_noted path ≡ true → has_file_among path es ≡ true → list_any (inner_eq (note u path)) notes ≡ true
  pub stands : (inner : Inner) → In inner notes → inner.spot ≡ at area.Run u → has_file_among inner.path es ≡ true

-- nothing arrives where a folder stands
not_met : (st : DirState) (q : ℕ) (request : Request) (reply : Reply) (x : Spot) → is_reply st q request reply ≡ true → arrives x request reply ≡ true →
    stands st.namespace x ≡ false
not_met st q (MakeFolder new) Done x is on = sym (ap (λ (o : Option ℕ). is_some o) (folder_same st.namespace new x on))
    ∙ refused_if (stands st.namespace new) Exists (none_refused st q (MakeFolder new) refl is)
not_met st q (MoveFolder from to) Done x is on = sym (ap (λ (o : Option ℕ). is_some o) (folder_same st.namespace to x on)) ∙ (stands_from st q from to is).1
not_met st q request reply x is on = cc

there_before : (st : DirState) (q : ℕ) (request : Request) (reply : Reply) (x : Spot) (j k : ℕ) → is_reply st q request reply ≡ true →
    folder_at st.namespace x ≡ Some j → folder_at (namespace_replied st.namespace q request reply) x ≡ Some k → folder_at st.namespace x ≡ Some k
there_before st q request reply x j k is before after = by (came st q request reply x (stands_there (namespace_replied st.namespace q request reply) x k after))
  where
    by : (arrives x request reply ≡ true) ⊎ ((stands st.namespace x ≡ true) × (is_taken_from x request reply ≡ false)) → folder_at st.namespace x ≡ Some k
    by (inl on) = clash (stands st.namespace x) (stands_there st.namespace x j before) (not_met st q request reply x is on)
    by (inr (stood, off)) = sym (untaken st q request reply x is stood off) ∙ after

module _ (st : DirState) (q : ℕ) (g : Seen) (request : Request) (reply : Reply) (u : List ℕ) (k : ℕ) (before : folder_at st.namespace (at area.Run u) ≡ Some k)
    (may : is_kill request ≡ false → allows g request ≡ true) where
  abbrev after : List Entry
  after = entries_in k (state_next st (event q request reply)).entries

  -- a file that stands goes on standing
  file_stays : (path : List ℕ) → has_file_among path (entries_in k st.entries) ≡ true → has_file_among path after ≡ true
  file_stays path there = on (run_change st q g request reply k (at area.Run u) refl before may)
    where
      on : (after ≡ entries_in k st.entries) ⊎ Written st q request reply k (at area.Run u) → has_file_among path after ≡ true
      on (inl same) = subst (λ (es : List Entry). has_file_among path es ≡ true) (sym same) there
      on (inr w) = subst (λ (es : List Entry). has_file_among path es ≡ true) (sym w.grown)
          (any_push (λ e. not (is_dir e.node) && bytes_eq e.path path) (entries_in k st.entries) (record { path = w.inner.path; node = Piece w.bytes }) there)

  -- it stood before, or is written now
  file_before : (path : List ℕ) → has_file_among path after ≡ true →
      (has_file_among path (entries_in k st.entries) ≡ true) ⊎ ((w : Written st q request reply k (at area.Run u)) × (w.inner.path ≡ path))
  file_before path there = on (run_change st q g request reply k (at area.Run u) refl before may)
    where
      on : (after ≡ entries_in k st.entries) ⊎ Written st q request reply k (at area.Run u) →
          (has_file_among path (entries_in k st.entries) ≡ true) ⊎ ((w : Written st q request reply k (at area.Run u)) × (w.inner.path ≡ path))
      on (inl same) = inl (subst (λ (es : List Entry). has_file_among path es ≡ true) same there)
      on (inr w) = by (bytes_eq w.inner.path path) refl
        where
          by : (b : Bool) → bytes_eq w.inner.path path ≡ b →
              (has_file_among path (entries_in k st.entries) ≡ true) ⊎ ((w : Written st q request reply k (at area.Run u)) × (w.inner.path ≡ path))
          by true e = inr (w, same_text w.inner.path path e)
          by false e = inl (sym (any_last_not (λ e. not (is_dir e.node) && bytes_eq e.path path) (entries_in k st.entries)
              (record { path = w.inner.path; node = Piece w.bytes }) e) ∙ subst (λ (es : List Entry). has_file_among path es ≡ true) w.grown there)

-- what was noted is kept in mind
more_notes : (t : Inner → Bool) (s : Seen) (request : Request) (reply : Reply) → list_any t s.notes ≡ true → list_any t (learned s request reply).notes ≡ true
more_notes t s (MakeFileIn i) Done was = by (is_in i.spot.area area.Run)
  where
    by : (b : Bool) → list_any t (cond b (i ∷ s.notes) s.notes) ≡ true
    by true = or_last (t i) (list_any t s.notes) was
    by false = was
more_notes t s request Done was = was
more_notes t s (MakeDirIn i) (Refused e left) was = was
more_notes t s (MakeFileIn i) (Refused e left) was = was
more_notes t s (AppendIn i piece) (Refused e left) was = was
more_notes t s (SyncIn i) (Refused e left) was = was
more_notes t s request (Refused e left) was = was
more_notes t s (ListIn i) (Items items) was = was
more_notes t s request (Items items) was = was
more_notes t s (ListArea a) (Names new) was = was
more_notes t s request (Names new) was = was
more_notes t s request reply was = was

abbrev NotedIn : ℕ → List ℕ → List Event → Type 0
NotedIn p u h =
    lives (state_after h).namespace p ≡ true → runs (seen_of p h) u ≡ true → (k : ℕ) → folder_at (state_after h).namespace (at area.Run u) ≡ Some k →
    Noted (entries_in k (state_after h).entries) (seen_of p h).notes u

-- the runner's own steps
noted_own : (p : ℕ) (u : List ℕ) (h : List Event) (request : Request) (reply : Reply) → Steps h p request reply → NotedIn p u h → is_move_of u request reply ≡ false →
    runs (seen_replied (seen_of p h) request reply) u ≡ true → (k : ℕ) →
    folder_at (state_next (state_after h) (event p request reply)).namespace (at area.Run u) ≡ Some k →
    Noted (entries_in k (state_next (state_after h) (event p request reply)).entries) (learned (seen_of p h) request reply).notes u
noted_own p u h request reply x was off r k found = record {
  files = λ path named there. by path named (file_before st p s request reply u k before (λ alive. x.may) path there);
  stands = λ inner i same. standing inner same (same_notes s request reply inner i);
}
  where
    s : Seen
    s = seen_of p h

    st : DirState
    st = state_after h

    ran : runs s u ≡ true
    ran = runs_before h p u request reply x off r

    before : folder_at st.namespace (at area.Run u) ≡ Some k
    before = let here = runner_found h x.conforming p u x.living ran in there_before st p request reply (at area.Run u) here.0 k x.is here.1 found

    noted : Noted (entries_in k st.entries) s.notes u
    noted = was x.living ran k before

    written : (path : List ℕ) (inner : Inner) → spot_eq (at area.Run u) inner.spot ≡ true → inner.path ≡ path →
        (request ≡ MakeFileIn inner) ⊎ ((piece : List ℕ) × (request ≡ AppendIn inner piece)) → (request ≡ MakeFileIn inner → reply ≡ Done) →
        list_any (inner_eq (note u path)) (learned s request reply).notes ≡ true
    written path inner here same (inl asked) done =
        subst (λ (q : Request). list_any (inner_eq (note u path)) (learned s q reply).notes ≡ true) (sym asked)
        (subst (λ (y : Reply). list_any (inner_eq (note u path)) (learned s (MakeFileIn inner) y).notes ≡ true) (sym (done asked))
        (new (is_in inner.spot.area area.Run) (ap (λ (z : Spot). is_in z.area area.Run) (sym (one_location (at area.Run u) inner.spot here)))))
      where
        new : (b : Bool) → b ≡ true → list_any (inner_eq (note u path)) (cond b (inner ∷ s.notes) s.notes) ≡ true
        new false e = cc
        new true e = ap (λ c. c || list_any (inner_eq (note u path)) s.notes)
            (and_both (spot_eq (at area.Run u) inner.spot) (bytes_eq path inner.path) here (same_name path inner.path (sym same)))
    written path inner here same (inr (piece, asked)) done =
        let place = one_location (at area.Run u) inner.spot here in
        let may : allows s (AppendIn inner piece) ≡ true = subst (λ (q : Request). allows s q ≡ true) asked x.may in
        let had : has_note s inner ≡ true =
        and_right (is_status_file inner.path) (has_note s inner) (and_right (runs s inner.spot.name) (is_status_file inner.path && has_note s inner)
        (subst (λ (a : Area). may_append_in s inner a ≡ true) (ap (λ (z : Spot). z.area) (sym place))
        (and_left (may_append_in s inner inner.spot.area) (spares_deleted_pod s inner) (and_right (lock_rules_allow s.standing (AppendIn inner piece)) (content_rules_allow s (AppendIn inner piece)) may)))) in
        more_notes (inner_eq (note u path)) s request reply
        (subst (λ (l : List ℕ). has_note s (record { spot = at area.Run u; path = l }) ≡ true) same
        (subst (λ (z : Spot). has_note s (record { spot = z; path = inner.path }) ≡ true) (sym place) had))

    by : (path : List ℕ) → is_noted path ≡ true → (has_file_among path (entries_in k st.entries) ≡ true) ⊎ ((w : Written st p request reply k (at area.Run u)) × (w.inner.path ≡ path)) →
        list_any (inner_eq (note u path)) (learned s request reply).notes ≡ true
    by path named (inl old) = more_notes (inner_eq (note u path)) s request reply (noted.files path named old)
    by path named (inr (w, same)) = written path w.inner w.at same w.asked w.made

    standing : (inner : Inner) → inner.spot ≡ at area.Run u →
        In inner s.notes ⊎ ((request ≡ MakeFileIn inner) × ((reply ≡ Done) × (is_in inner.spot.area area.Run ≡ true))) →
        has_file_among inner.path (entries_in k (state_next st (event p request reply)).entries) ≡ true
    standing inner same (inl j) = file_stays st p s request reply u k before (λ alive. x.may) inner.path (noted.stands inner j same)
    standing inner same (inr (asked, (done, run))) =
        subst (λ (q : Request). has_file_among inner.path (entries_in k (state_next st (event p q reply)).entries) ≡ true) (sym asked)
        (subst (λ (y : Reply). has_file_among inner.path (entries_in k (state_next st (event p (MakeFileIn inner) y)).entries) ≡ true) (sym done)
        (ap (has_file_among inner.path) (placed_here st.namespace k (at area.Run u) inner.spot inner.path (Piece []) st.entries before
        (subst (λ (z : Spot). spot_eq z inner.spot ≡ true) same (spot_self inner.spot)))
        ∙ any_last (λ e. not (is_dir e.node) && bytes_eq e.path inner.path) (entries_in k st.entries) (record { path = inner.path; node = Piece [] })
        (same_name inner.path inner.path refl)))

-- the move by which it comes to run the pod
noted_arrival : (p : ℕ) (u : List ℕ) (h : List Event) (from to : Spot) → IsConforming (then_moved h p from to) → is_spot_of_pod u to ≡ true →
    runs (seen_replied (seen_of p h) (MoveFolder from to) Done) u ≡ true → (k : ℕ) →
    folder_at (state_after (then_moved h p from to)).namespace (at area.Run u) ≡ Some k →
    Noted (entries_in k (state_after (then_moved h p from to)).entries) (seen_of p h).notes u
noted_arrival p u h from to c of r k found = record {
  files = λ path named there. clash (has_file_among path (entries_in k (state_after (then_moved h p from to)).entries)) there (whole.0.files path named);
  stands = λ inner i same. absurd (whole.1 (subst (λ (v : List ℕ). 5 ≤ pod_progress (pod_state v h))
      (ap (λ (z : Spot). z.name) same ∙ sym name) (notes_old h (happens h (event p (MoveFolder from to) Done) c).conforming p inner i).1.0));
}
  where
    k0 : Standing
    k0 = (seen_of p h).standing

    test : Spot → Bool
    test spot = is_in area.Run spot.area

    stage : is_stage to.area ≡ true
    stage = and_left (is_stage to.area) (bytes_eq to.name u) of

    name : to.name ≡ u
    name = same_text to.name u (and_right (is_stage to.area) (bytes_eq to.name u) of)

    last : on_spot test (last_move_of u (to ∷ k0.moves)) ≡ true
    last = sym (ap (λ b. on_spot test (last_move_of u (cond b (to ∷ k0.moves) k0.moves))) stage)
        ∙ and_right (holds_own u (standing_replied k0 (MoveFolder from to) Done)) _ r

    run : area.Run ≡ to.area
    run = in_area area.Run to.area (sym (ap (λ b. on_spot test (cond b (Some to) (last_move_of u k0.moves))) of) ∙ last)

    here : at area.Run u ≡ to
    here = ap (λ (a : Area). at a u) run ∙ ap (λ (v : List ℕ). at to.area v) (sym name)

    whole : Whole (entries_in k (state_after (then_moved h p from to)).entries) × (5 ≤ pod_progress (pod_state to.name h) → ⊥)
    whole = comes_whole h p from to c (sym run) k (subst (λ (z : Spot). folder_at (state_after (then_moved h p from to)).namespace z ≡ Some k) here found)

-- the steps of others
noted_foreign : (p : ℕ) (u : List ℕ) (h : List Event) (e : Event) → IsConforming (h ++ e ∷ []) → is_foreign p e ≡ true → NotedIn p u h → NotedIn p u (h ++ e ∷ [])
noted_foreign p u h e c f was living running k found =
    subst (λ (z : DirState). Noted (entries_in k z.entries) (seen_of p (h ++ e ∷ [])).notes u) (sym (state_after-push h e))
    (subst (λ (s : Seen). Noted (entries_in k (state_next st e).entries) s.notes u) (sym (foreign_same p h e f)) (record {
      files = λ path named there. by path named (file_before st e.process (seen_of e.process h) e.request e.reply u k before x.may path there);
      stands = λ inner i same. file_stays st e.process (seen_of e.process h) e.request e.reply u k before x.may inner.path (noted.stands inner i same);
    }))
  where
    x : Happens h e
    x = happens h e c

    st : DirState
    st = state_after h

    alive : lives st.namespace p ≡ true
    alive = lived h e p f living

    ran : runs (seen_of p h) u ≡ true
    ran = subst (λ (s : Seen). runs s u ≡ true) (foreign_same p h e f) running

    before : folder_at st.namespace (at area.Run u) ≡ Some k
    before =
        let here = runner_found h x.conforming p u alive ran in
        there_before st e.process e.request e.reply (at area.Run u) here.0 k x.is here.1 (sym (ap (λ (z : DirState). folder_at z.namespace (at area.Run u)) (state_after-push h e)) ∙ found)

    noted : Noted (entries_in k st.entries) (seen_of p h).notes u
    noted = was alive ran k before

    other : (w : Written st e.process e.request e.reply k (at area.Run u)) → is_noted w.inner.path ≡ true → ⊥
    other w named = clash (e.process == p) (subst (λ (q : ℕ). (e.process == q) ≡ true) mine (same_self e.process)) (stranger p e f (asks w.asked).0)
      where
        asks : (e.request ≡ MakeFileIn w.inner) ⊎ ((piece : List ℕ) × (e.request ≡ AppendIn w.inner piece)) → (is_kill e.request ≡ false) × (is_begin e.request ≡ false)
        asks (inl is) = (ap is_kill is, ap is_begin is)
        asks (inr (piece, is)) = (ap is_kill is, ap is_begin is)

        place : at area.Run u ≡ w.inner.spot
        place = one_location (at area.Run u) w.inner.spot w.at

        mine : e.process ≡ p
        mine = written_by h e.process p e.request e.reply (steps h e c (asks w.asked).0 (asks w.asked).1) w.inner (ap (λ (z : Spot). z.area) (sym place)) w.asked named alive
            (subst (λ (z : Spot). runs (seen_of p h) z.name ≡ true) place ran)

    by : (path : List ℕ) → is_noted path ≡ true →
        (has_file_among path (entries_in k st.entries) ≡ true) ⊎ ((w : Written st e.process e.request e.reply k (at area.Run u)) × (w.inner.path ≡ path)) →
        list_any (inner_eq (note u path)) (seen_of p h).notes ≡ true
    by path named (inl old) = noted.files path named old
    by path named (inr (w, same)) = absurd (other w (ap is_noted same ∙ named))

-- a step of the runner's own, or the one by which it becomes that
module _ (p : ℕ) (u : List ℕ) (h : List Event) (e : Event) (c : IsConforming (h ++ e ∷ [])) (was : NotedIn p u h)
    (running : runs (seen_of p (h ++ e ∷ [])) u ≡ true) (k : ℕ) (found : folder_at (state_after (h ++ e ∷ [])).namespace (at area.Run u) ≡ Some k)
    (f : is_foreign p e ≡ false) (is : e.process ≡ p) where
  x : Happens h e
  x = happens h e c

  abbrev st : DirState
  st = state_after h

  abbrev Goal : Type 0
  Goal = Noted (entries_in k (state_after (h ++ e ∷ [])).entries) (seen_of p (h ++ e ∷ [])).notes u

  put : Noted (entries_in k (state_after (h ++ e ∷ [])).entries) (learned (seen_of p h) e.request e.reply).notes u → Goal
  put n = subst (λ (s : Seen). Noted (entries_in k (state_after (h ++ e ∷ [])).entries) s.notes u) (sym (own_next p h e f)) n

  push : state_after (h ++ e ∷ []) ≡ state_next st (event p e.request e.reply)
  push = state_after-push h e ∙ ap (λ (q : ℕ). state_next st (event q e.request e.reply)) is

  r : runs (seen_replied (seen_of p h) e.request e.reply) u ≡ true
  r = subst (λ (s : Seen). runs s u ≡ true) (own_next p h e f) running

  moves : (request : Request) (reply : Reply) → e.request ≡ request → e.reply ≡ reply → is_move_of u request reply ≡ true → Goal
  moves (MoveFolder from to) Done asked done of =
      let same : h ++ e ∷ [] ≡ then_moved h p from to =
      ap (λ (q : ℕ). h ++ event q e.request e.reply ∷ []) is
      ∙ (ap (λ (q : Request). h ++ event p q e.reply ∷ []) asked ∙ ap (λ (y : Reply). h ++ event p (MoveFolder from to) y ∷ []) done) in
      put (subst (λ (q : Request). Noted (entries_in k (state_after (h ++ e ∷ [])).entries) (learned (seen_of p h) q e.reply).notes u) (sym asked)
      (subst (λ (y : Reply). Noted (entries_in k (state_after (h ++ e ∷ [])).entries) (learned (seen_of p h) (MoveFolder from to) y).notes u) (sym done)
      (subst (λ (t : List Event). Noted (entries_in k (state_after t).entries) (seen_of p h).notes u) (sym same)
      (noted_arrival p u h from to (subst (λ (t : List Event). IsConforming t) same c) of
      (subst (λ (y : Reply). runs (seen_replied (seen_of p h) (MoveFolder from to) y) u ≡ true) done
      (subst (λ (q : Request). runs (seen_replied (seen_of p h) q e.reply) u ≡ true) asked r)) k
      (subst (λ (t : List Event). folder_at (state_after t).namespace (at area.Run u) ≡ Some k) same found)))))
  moves (MoveFolder from to) (Refused er left) asked done of = cc
  moves request reply asked done of = cc

  own : Steps h p e.request e.reply → (b : Bool) → is_move_of u e.request e.reply ≡ b → Goal
  own y true of = moves e.request e.reply refl refl of
  own y false off = put (subst (λ (z : DirState). Noted (entries_in k z.entries) (learned (seen_of p h) e.request e.reply).notes u) (sym push)
      (noted_own p u h e.request e.reply y was off r k (subst (λ (z : DirState). folder_at z.namespace (at area.Run u) ≡ Some k) push found)))

  unborn : is_begin e.request ≡ true → has_begun st.namespace p ≡ false
  unborn on = subst (λ (q : ℕ). has_begun st.namespace q ≡ false) is
      (not_true (has_begun st.namespace e.process)
      (ap (λ c. cond c (not (has_begun st.namespace e.process)) (lives st.namespace e.process)) (sym on) ∙ x.due))

  turn : is_kill e.request ≡ false → (b : Bool) → is_begin e.request ≡ b → Goal
  turn alive false on = own (subst (λ (q : ℕ). Steps h q e.request e.reply) is (steps h e c alive on)) (is_move_of u e.request e.reply) refl
  turn alive true on = absurd (begun_runs u e.request e.reply on
      (subst (λ (s : Seen). runs (seen_replied s e.request e.reply) u ≡ true) (unborn_saw_nothing p h x.conforming.run (unborn on)) r))

noted_next : (p : ℕ) (u : List ℕ) (h : List Event) (e : Event) → IsConforming (h ++ e ∷ []) → NotedIn p u h → NotedIn p u (h ++ e ∷ [])
noted_next p u h e c was living running k found = by (whose p e)
  where
    by : (is_foreign p e ≡ true) ⊎ ((is_foreign p e ≡ false) × ((e.process ≡ p) × (is_kill e.request ≡ false))) →
        Noted (entries_in k (state_after (h ++ e ∷ [])).entries) (seen_of p (h ++ e ∷ [])).notes u
    by (inl f) = noted_foreign p u h e c f was living running k found
    by (inr f) = turn p u h e c was running k found f.0 f.1.0 f.1.1 (is_begin e.request) refl

pub noted : (h : List Event) → IsConforming h → (p : ℕ) (u : List ℕ) → NotedIn p u h
noted h conforming p u = along (NotedIn p u) (λ living. absurd (none living)) (λ h e c was. noted_next p u h e c was) h conforming
  where
    none : lives (state_after []).namespace p ≡ true → ⊥
    none h = cc
