-- Where nobody else steps: from a pod's move to run up to what is read of it, its folder holds what it held.
use Rattle.std.proofs.Common.{◌≡◌, ℕ, Bool, true, false, ◌||◌, Option, Some, None, option_to_list, List, [], ◌∷◌, ◌++◌, append-nil, append_assoc, refl, sym, ap, subst, ◌∙◌}
use Rattle.std.specs.List.{AllByRecursion}
use Rattle.dir_model.specs.declared.event.Event.{Event}
use Rattle.dir_model.specs.declared.pod.PodId.{PodId}
use Rattle.dir_model.specs.declared.request.Reply.{Reply}
use Rattle.dir_model.specs.declared.request.Reply.TheVariants.{Done}
use Rattle.dir_model.specs.declared.request.Request.{Request}
use Rattle.dir_model.specs.declared.request.Request.TheVariants.{AppendIn, Kill, MakeDirIn, MakeFileIn, MoveFolder, RemoveDirIn, RemoveFileIn}
use Rattle.dir_model.specs.declared.spot.Spot.{Spot}
use Rattle.dir_model.specs.declared.tree.StartedApp.{StartedApp}
use Rattle.dir_model.specs.declared.tree.TreeEntry.{TreeEntry}
use Rattle.dir_model.specs.Areas.{is_run_or_later}
use Rattle.dir_model.specs.Calls.{event, is_allowed, is_foreign, is_kill, is_run_from, Extends, IsRun}
use Rattle.dir_model.specs.Quiet.{Quiet}
use Rattle.dir_model.specs.Replies.{is_own_at}
use Rattle.dir_model.specs.State.{DirState, Namespace, empty_state, folder_at}
use Rattle.dir_model.specs.Trace.{entries_kept, entry_made, state_after, state_next, states_next}
use Rattle.dir_model.specs.Trees.{is_apps_own}
use Rattle.dir_model.proofs.Chains.{and_more, extends_wider, run-left, run_from-right, state_after-push, states_next-append}
use Rattle.dir_model.proofs.Lists.{all_left, all_right, and_both, and_left, and_right, or_last, same_rest}
use Rattle.dir_rules.specs.declared.seen.Entry.{Entry}
use Rattle.dir_trait.specs.DirCalls.{DirAt, ExtendsBy}
use Rattle.folder_building.specs.Work.{either}
use Rattle.folder_contents.specs.Entries.{entries_in}
use Rattle.impossible_replies.proofs.Apps.{no_app}
use Rattle.lifecycle.specs.Executions.{IsConforming}
use Rattle.pod_locks.specs.ClaimRequests.{in_run}
use Rattle.pod_files.specs.Places.{run_spot}
use Rattle.stage1.specs.Runs.{reads_or_closes}
use Rattle.commands.proofs.EndsQuiet.{since_begin}
use Rattle.commands.proofs.FolderHolds.{Spares, filled_in, holds_on}
use Rattle.commands.proofs.OwnSteps.{in_process, own_asked}
use Rattle.commands.proofs.Passing.{Leaves, there_all}
use Rattle.commands.proofs.StartsTold.{Holds, HoldsOn}

-- what a process asks for up to its run's reads
abbrev pub up_to_reads : (Request → Bool) → Request → Bool
up_to_reads early = either (since_begin early) reads_or_closes

-- a kill changes nothing
kill_fills : (r : Request) → is_kill r ≡ true → filled_in r ≡ None
kill_fills Kill is = refl
kill_fills r is = cc

pub spares_none : (here : Spot) (r : Request) → filled_in r ≡ None → Spares here r
spares_none here r none spot is = let clash : None ≡ Some spot = sym none ∙ is in cc

module _ (pod : PodId) (asks early : Request → Bool) (l : Leaves (in_run pod) asks) (spares : (r : Request) → up_to_reads early r ≡ true → Spares (run_spot pod) r) (me : ℕ) where
  abbrev Own : List Event → Type 0
  Own es = AllByRecursion (λ e. e.process ≡ me) es

  abbrev Asked : List Event → Type 0
  Asked es = AllByRecursion (λ e. (is_foreign me e || in_process asks e.request) ≡ true) es

  abbrev Early : List Event → Type 0
  Early es = AllByRecursion (λ e. (is_foreign me e || up_to_reads early e.request) ≡ true) es

  spared : (r : Request) → (is_kill r || up_to_reads early r) ≡ true → Spares (run_spot pod) r
  spared r h = by (is_kill r) refl h
    where
      by : (b : Bool) → is_kill r ≡ b → (b || up_to_reads early r) ≡ true → Spares (run_spot pod) r
      by true is k = spares_none (run_spot pod) r (kill_fills r is)
      by false is k = spares r k

  on_all : (k : ℕ) (es : List Entry) (s : DirState) (xs : List Event) → is_run_from s xs ≡ true → Own xs → Asked xs → Early xs → Holds pod k es s → Holds pod k es (states_next s xs)
  on_all k es s [] run own asked still x = x
  on_all k es s (e ∷ xs) run own asked still x =
      let may = and_left (is_allowed s e) (is_run_from (state_next s e) xs) run in
      let at : folder_at (state_next s e).namespace (in_run pod) ≡ Some k = there_all pod asks l me k s (e ∷ []) (and_both (is_allowed s e) true may refl) (own.0, tt) (asked.0, tt) x.here in
      let next : Holds pod k es (state_next s e) = holds_on pod k es e.process s e.request e.reply x (spared e.request (own_asked (up_to_reads early) me e own.0 still.0)) at in
      on_all k es (state_next s e) xs (and_right (is_allowed s e) (is_run_from (state_next s e) xs) run) own.1 asked.1 still.1 next

  -- from this moment on, up to some reads
  module _ (old new : List Event) (ext : Extends (in_process asks) me old new) (quiet : Quiet me old new) (run : IsRun new) (m : List Event) (u : List Event) (begins : m ≡ old ++ u) (k : ℕ) (es : List Entry) (x : Holds pod k es (state_after m)) where
    pub keeps_on : (c : DirAt) (tail : List Event) → c.process ≡ me → c.trace ≡ m ++ tail → Extends (since_begin early) me old c.trace → (d : DirAt) → ExtendsBy reads_or_closes c d → (z : List Event) → new ≡ d.trace ++ z → HoldsOn pod k es c d
    keeps_on c tail mine after first d reads z goes h rest more is ends =
        let xs : List Event = tail ++ more in
        let here : h ≡ m ++ xs = is ∙ (ap (λ (y : List Event). y ++ more) after ∙ append_assoc m tail more) in
        let from : h ≡ old ++ (u ++ xs) = here ∙ (ap (λ (y : List Event). y ++ xs) begins ∙ append_assoc old u xs) in
        let whole : new ≡ old ++ ((u ++ xs) ++ (rest ++ z)) =
        goes ∙ (ap (λ (y : List Event). y ++ z) (ends ∙ ap (λ (y : List Event). y ++ rest) from) ∙ simp append_assoc) in
        let part : d.trace ≡ old ++ ((u ++ xs) ++ rest) = ends ∙ (ap (λ (y : List Event). y ++ rest) from ∙ append_assoc old (u ++ xs) rest) in
        let calm : Extends (up_to_reads early) me old d.trace =
        and_more (extends_wider {asks = since_begin early} {asks' = up_to_reads early} (λ r q. ap (λ b. b || reads_or_closes r) q) first) mine
        (extends_wider {asks = reads_or_closes} {asks' = up_to_reads early} (λ r q. or_last (since_begin early r) (reads_or_closes r) q) reads) in
        let own = all_right _ u xs (all_left _ (u ++ xs) (rest ++ z) (subst (λ (ys : List Event). Own ys) (same_rest old quiet.more ((u ++ xs) ++ (rest ++ z)) (sym quiet.grown ∙ whole)) quiet.own)) in
        let asked = all_right _ u xs (all_left _ (u ++ xs) (rest ++ z) (subst (λ (ys : List Event). Asked ys) (same_rest old ext.more ((u ++ xs) ++ (rest ++ z)) (sym ext.grown ∙ whole)) ext.asked)) in
        let still = all_right _ u xs (all_left _ (u ++ xs) rest (subst (λ (ys : List Event). Early ys) (same_rest old calm.more ((u ++ xs) ++ rest) (sym calm.grown ∙ part)) calm.asked)) in
        let until : new ≡ (m ++ xs) ++ (rest ++ z) = goes ∙ (ap (λ (y : List Event). y ++ z) (ends ∙ ap (λ (y : List Event). y ++ rest) here) ∙ append_assoc (m ++ xs) rest z) in
        let runs : is_run_from (state_after m) xs ≡ true = run_from-right empty_state m xs (run-left (m ++ xs) (rest ++ z) (subst IsRun until run)) in
        subst (λ (s : DirState). Holds pod k es s) (sym (ap state_after here ∙ states_next-append empty_state m xs))
        (on_all k es (state_after m) xs runs own asked still x)

-- a step that changes nothing in folders
none_filled : (n : Namespace) (es : List TreeEntry) (request : Request) (reply : Reply) → filled_in request ≡ None → entries_kept n es request reply ++ option_to_list (entry_made n request reply) ≡ es
none_filled n es (MakeDirIn i) reply none = cc
none_filled n es (MakeFileIn i) reply none = cc
none_filled n es (AppendIn i piece) reply none = cc
none_filled n es (RemoveFileIn i) reply none = cc
none_filled n es (RemoveDirIn i) reply none = cc
none_filled n es request reply none = append-nil es

module _ (early : Request → Bool) (fills : (r : Request) → since_begin early r ≡ true → filled_in r ≡ None) (me : ℕ) where
  unfilled : (r : Request) → (is_kill r || since_begin early r) ≡ true → filled_in r ≡ None
  unfilled r h = by (is_kill r) refl h
    where
      by : (b : Bool) → is_kill r ≡ b → (b || since_begin early r) ≡ true → filled_in r ≡ None
      by true is k = kill_fills r is
      by false is k = fills r k

  same_all : (s : DirState) (xs : List Event) → AllByRecursion (λ e. e.process ≡ me) xs → AllByRecursion (λ e. (is_foreign me e || since_begin early e.request) ≡ true) xs → (states_next s xs).entries ≡ s.entries
  same_all s [] own still = refl
  same_all s (e ∷ xs) own still =
      same_all (state_next s e) xs own.1 still.1
      ∙ none_filled s.namespace s.entries e.request e.reply (unfilled e.request (own_asked (since_begin early) me e own.0 still.0))

  -- up to a moment of such a time
  pub same_entries : {old c : List Event} → Extends (since_begin early) me old c → (b u v : List Event) → b ≡ old ++ u → c ≡ b ++ v → AllByRecursion (λ e. e.process ≡ me) u → (state_after b).entries ≡ (state_after old).entries
  same_entries {old} {c} first b u v begins ends mine =
      let whole : c ≡ old ++ (u ++ v) = ends ∙ (ap (λ (y : List Event). y ++ v) begins ∙ append_assoc old u v) in
      let still = all_left _ u v (subst (λ (ys : List Event). AllByRecursion (λ e. (is_foreign me e || since_begin early e.request) ≡ true) ys) (same_rest old first.more (u ++ v) (sym first.grown ∙ whole)) first.asked) in
      ap (λ (s : DirState). s.entries) (ap state_after begins ∙ states_next-append empty_state old u) ∙ same_all (state_after old) u mine still

-- the folder just after its move to run
pub holds_moved : (pod : PodId) (me k : ℕ) (es : List Entry) (from : Spot) (before : List Event) → IsConforming before → is_run_or_later from.area ≡ false → folder_at (state_after before).namespace from ≡ Some k
    → folder_at (state_after (before ++ event me (MoveFolder from (in_run pod)) Done ∷ [])).namespace (in_run pod) ≡ Some k
    → entries_in k (state_after (before ++ event me (MoveFolder from (in_run pod)) Done ∷ [])).entries ≡ es → Holds pod k es (state_after (before ++ event me (MoveFolder from (in_run pod)) Done ∷ []))
holds_moved pod me k es from before conforming early was here holds = record {
  here = here;
  holds = holds;
  unowned = λ path.
      ap (λ (s : DirState). is_apps_own s.apps k path) (state_after-push before (event me (MoveFolder from (in_run pod)) Done))
      ∙ (ap (λ (apps : List StartedApp). is_apps_own apps k path) (append-nil (state_after before).apps)
      ∙ (sym (ap (λ (o : Option ℕ). is_own_at (state_after before) path o) was) ∙ no_app before conforming from path early));
}
