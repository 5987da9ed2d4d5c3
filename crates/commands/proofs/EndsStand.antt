-- Where nobody else steps: the marks and the statuses of the apps of a pod that was run stand in its folder in the end.
use Rattle.std.proofs.Common.{arith, ◌≡◌, ◌≤◌, ◌⊎◌, inl, inr, ℕ, ◌+◌, Bool, true, false, not, ◌&&◌, ◌||◌, ◌==◌, bytes_eq, Some, List, [], ◌∷◌, ◌++◌, refl, sym, ap, subst, ◌∙◌, append_assoc}
use Rattle.std.specs.List.{AllByRecursion}
use Rattle.plain_laws.proofs.Texts.{same_bytes, same_text}
use Rattle.dir_model.specs.declared.event.Event.{Event}
use Rattle.dir_model.specs.declared.item.Inner.{Inner}
use Rattle.dir_model.specs.declared.pod.PodId.{PodId}
use Rattle.dir_model.specs.declared.request.Reply.{Reply}
use Rattle.dir_model.specs.declared.request.Reply.TheVariants.{Done}
use Rattle.dir_model.specs.declared.request.Request.{Request}
use Rattle.dir_model.specs.declared.request.Request.TheVariants.{MakeFileIn, AppendIn}
use Rattle.dir_model.specs.declared.spot.Spot.{Spot}
use Rattle.dir_model.specs.Calls.{event, is_foreign, is_kill, is_run_from, IsRun}
use Rattle.dir_model.specs.State.{DirState, empty_state, folder_at, spot_eq}
use Rattle.dir_model.specs.Trace.{state_after, states_next}
use Rattle.dir_model.specs.Trees.{content, has_file, is_apps_own}
use Rattle.dir_model.proofs.Chains.{states_next-append, run_from-right}
use Rattle.dir_model.proofs.Lists.{all_right, and_left, and_right, and_both, same_self, same_number}
use Rattle.dir_model.proofs.Spots.{spot_self}
use Rattle.dir_rules.specs.Seen.{inner_eq}
use Rattle.dir_trait.specs.DirCalls.{DirAt}
use Rattle.folder_building.specs.Making.{inner_at}
use Rattle.folder_contents.proofs.Spots.{one_location}
use Rattle.manifests.specs.declared.runtime_app.RuntimeApp.{RuntimeApp}
use Rattle.pod_locks.specs.ClaimRequests.{in_run}
use Rattle.stage1.specs.declared.start.AppStart.{AppStart}
use Rattle.stage1.specs.AppPlaces.{app_root_of}
use Rattle.stage1.specs.Starts.{AreStarts}
use Rattle.commands.proofs.OwnSteps.{in_process}
use Rattle.spawner.specs.declared.call.RootPlace.{RootPlace}
use Rattle.spawner.specs.Conditions.{start_mark, did, is_done}
use Rattle.stage1.specs.declared.end.AppEnd.{AppEnd}
use Rattle.stage1.specs.Beginnings.{AreMarked}
use Rattle.stage1.specs.Notes.{mark_inner, status_inner, status_path, status_text, makes_own_mark, makes_status, writes_status, MadeMark, WroteStatus}
use Rattle.stage1.specs.Runs.{AreEnds, AreWrittenAll}
use Rattle.stage1.proofs.Appends.{count, count_more}
use Rattle.commands.specs.RunQuiet.{FolderShowsEnd}
use Rattle.commands.proofs.NotesStand.{RemovesNothing, file_stands, bytes_stand}
use Rattle.commands.proofs.Passing.{Leaves}
use Rattle.commands.proofs.Unowned.{IsOutside, mark_outside, status_outside, never_owned}

-- what a step was by which something was done
inner_is : (a b : Inner) → inner_eq a b ≡ true → a ≡ b
inner_is a b h =
    let spots : a.spot ≡ b.spot = one_location a.spot b.spot (and_left (spot_eq a.spot b.spot) (bytes_eq a.path b.path) h) in
    let paths : a.path ≡ b.path = same_text a.path b.path (and_right (spot_eq a.spot b.spot) (bytes_eq a.path b.path) h) in
    ap (λ (x : Spot). inner_at x a.path) spots ∙ ap (λ (p : List ℕ). inner_at b.spot p) paths

mark_request : (root : RootPlace) (request : Request) → makes_own_mark root request ≡ true → request ≡ MakeFileIn (mark_inner root)
mark_request root (MakeFileIn i) h = ap MakeFileIn (inner_is i (mark_inner root) h)
mark_request root request h = cc

status_request : (root : RootPlace) (request : Request) → makes_status root request ≡ true → request ≡ MakeFileIn (status_inner root)
status_request root (MakeFileIn i) h = ap MakeFileIn (inner_is i (status_inner root) h)
status_request root request h = cc

write_request : (root : RootPlace) (status : ℕ) (request : Request) → writes_status root status request ≡ true → request ≡ AppendIn (status_inner root) (status_text status)
write_request root status (AppendIn i piece) h =
    ap (λ (x : Inner). AppendIn x piece) (inner_is i (status_inner root) (and_left (inner_eq i (status_inner root)) (bytes_eq piece (status_text status)) h))
    ∙ ap (λ (p : List ℕ). AppendIn (status_inner root) p) (same_text piece (status_text status) (and_right (inner_eq i (status_inner root)) (bytes_eq piece (status_text status)) h))
write_request root status request h = cc

is_own : (o kill : Bool) → not (not o || kill) ≡ true → o ≡ true
is_own true kill h = refl
is_own false kill h = cc

was_done : (reply : Reply) → is_done reply ≡ true → reply ≡ Done
was_done Done h = refl
was_done reply h = cc

did_is : (me : ℕ) (ask : Request → Bool) (request : Request) → ((other : Request) → ask other ≡ true → other ≡ request) → (e : Event) → did me ask e ≡ true → e ≡ event me request Done
did_is me ask request only e h =
    let rest : (ask e.request && is_done e.reply) ≡ true = and_right (not (is_foreign me e)) (ask e.request && is_done e.reply) h in
    let mine : e.process ≡ me = same_number e.process me (is_own (e.process == me) (is_kill e.request) (and_left (not (is_foreign me e)) (ask e.request && is_done e.reply) h)) in
    ap (λ (p : ℕ). event p e.request e.reply) mine
    ∙ (ap (λ (r : Request). event me r e.reply) (only e.request (and_left (ask e.request) (is_done e.reply) rest))
    ∙ ap (λ (r : Reply). event me request r) (was_done e.reply (and_right (ask e.request) (is_done e.reply) rest)))

-- an event of two lists is one of the first or of the second
abbrev pub InEither : List Event → List Event → List Event → Event → List Event → Type 0
InEither old more b e a = ((xs : List Event) × (more ≡ xs ++ e ∷ a)) ⊎ ((ys : List Event) × (old ≡ b ++ e ∷ ys))

same_head : {x y : Event} {xs ys : List Event} → x ∷ xs ≡ y ∷ ys → x ≡ y
same_head is = cc

same_tail : {x y : Event} {xs ys : List Event} → x ∷ xs ≡ y ∷ ys → xs ≡ ys
same_tail is = cc

pub in_either : (old more b : List Event) (e : Event) (a : List Event) → old ++ more ≡ b ++ e ∷ a → InEither old more b e a
in_either [] more b e a is = inl (b, is)
in_either (x ∷ old) more [] e a is = inr (old, ap (λ (y : Event). y ∷ old) (same_head is))
in_either (x ∷ old) more (y ∷ b) e a is = elim (in_either old more b e a (same_tail is)) [
  | inl z ↦ inl z
  | inr z ↦ inr (z.0, ap (λ (l : List Event). x ∷ l) z.1 ∙ ap (λ (w : Event). w ∷ (b ++ e ∷ z.0)) (same_head is))
]

-- each start's root is that of its name in the pod
abbrev pub ArePlaced : PodId → List AppStart → Type 0
ArePlaced pod starts = AllByRecursion (λ app. app.root ≡ app_root_of pod app.name) starts

pub are_placed : (pod : PodId) (address token : List ℕ) (apps : List RuntimeApp) (roots : _) (starts : List AppStart) → AreStarts pod address token apps roots starts → ArePlaced pod starts
are_placed pod address token [] [] [] are = tt
are_placed pod address token (app ∷ apps) (root ∷ roots) (start ∷ starts) are = (are.0.place ∙ ap (app_root_of pod) (sym are.0.name), are_placed pod address token apps roots starts are.1)
are_placed pod address token _ _ _ are = absurd are

module _ (pod : PodId) (asks : Request → Bool) (l : Leaves (in_run pod) asks) (none : RemovesNothing asks) (me : ℕ) (old new rest : List Event) (grown : new ≡ old ++ rest) (run : IsRun new)
    (own : AllByRecursion (λ e. e.process ≡ me) rest) (asked : AllByRecursion (λ e. (is_foreign me e || in_process asks e.request) ≡ true) rest) (k : ℕ) (there : folder_at (state_after new).namespace (in_run pod) ≡ Some k)
    (once : (i : Inner) → count me i rest ≤ 1) (unmade : (path : List ℕ) (b a : List Event) → old ≡ b ++ event me (MakeFileIn (inner_at (in_run pod) path)) Done ∷ a → ⊥) where
  -- a file that was made
  module _ (path : List ℕ) (outside : IsOutside path) (b a : List Event) (is : new ≡ b ++ event me (MakeFileIn (inner_at (in_run pod) path)) Done ∷ a) where
    abbrev make : Event
    make = event me (MakeFileIn (inner_at (in_run pod) path)) Done

    late : (xs : List Event) × (rest ≡ xs ++ make ∷ a)
    late = elim (in_either old rest b make a (sym grown ∙ is)) [ inl x ↦ x | inr x ↦ absurd (unmade path b x.0 x.1) ]

    own_after : AllByRecursion (λ e. e.process ≡ me) (make ∷ a)
    own_after = all_right (λ e. e.process ≡ me) late.0 (make ∷ a) (subst (λ (es : List Event). AllByRecursion (λ e. e.process ≡ me) es) late.1 own)

    asked_after : AllByRecursion (λ e. (is_foreign me e || in_process asks e.request) ≡ true) (make ∷ a)
    asked_after = all_right (λ e. (is_foreign me e || in_process asks e.request) ≡ true) late.0 (make ∷ a) (subst (λ (es : List Event). AllByRecursion (λ e. (is_foreign me e || in_process asks e.request) ≡ true) es) late.1 asked)

    runs : is_run_from (state_after b) (make ∷ a) ≡ true
    runs = run_from-right empty_state b (make ∷ a) (subst IsRun is run)

    here : state_after new ≡ states_next (state_after b) (make ∷ a)
    here = ap state_after is ∙ states_next-append empty_state b (make ∷ a)

    there_after : folder_at (states_next (state_after b) (make ∷ a)).namespace (in_run pod) ≡ Some k
    there_after = subst (λ (s : DirState). folder_at s.namespace (in_run pod) ≡ Some k) here there

    unowned : (j : ℕ) → is_apps_own (state_after b).apps j path ≡ false
    unowned j = never_owned b j path outside

    made : has_file (state_after new).entries k path ≡ true
    made = subst (λ (s : DirState). has_file s.entries k path ≡ true) (sym here) (file_stands pod asks l none me path k (state_after b) a runs unowned own_after.1 asked_after.1 there_after)

    -- and appended to
    written : (piece : List ℕ) (between after : List Event) → a ≡ between ++ event me (AppendIn (inner_at (in_run pod) path) piece) Done ∷ after → content (state_after new).entries k path ≡ piece
    written piece between after parted =
        let i = inner_at (in_run pod) path in
        let w = event me (AppendIn i piece) Done in
        let all : count me i rest ≡ count me i late.0 + count me i (make ∷ a) = ap (count me i) late.1 ∙ count_more me i late.0 (make ∷ a) in
        let first : count me i (make ∷ a) ≡ count me i (make ∷ []) + count me i a = count_more me i (make ∷ []) a in
        let then : count me i a ≡ count me i between + count me i (w ∷ after) = ap (count me i) parted ∙ count_more me i between (w ∷ after) in
        let last : count me i (w ∷ after) ≡ count me i (w ∷ []) + count me i after = count_more me i (w ∷ []) after in
        let one : count me i (w ∷ []) ≡ 1 = rw (same_self me, and_both (spot_eq i.spot i.spot) (bytes_eq path path) (spot_self i.spot) (same_bytes path)) refl in
        let small = once i in
        subst (λ (s : DirState). content s.entries k path ≡ piece) (sym here)
        (bytes_stand pod asks l none me path k (state_after b) a runs unowned own_after.1 asked_after.1 there_after piece between after parted (omega (arith, all, first, then, last, one, small)) (omega (arith, all, first, then, last, one, small)))

  -- the notes of an app, which were done up to a moment
  module _ (d : DirAt) (mine : d.process ≡ me) (later : List Event) (goes : new ≡ d.trace ++ later) where
    widened : (b : List Event) (e x : Event) (a : List Event) → e ≡ x → d.trace ≡ b ++ e ∷ a → new ≡ b ++ x ∷ (a ++ later)
    widened b e x a same parted = goes ∙ (ap (λ (h : List Event). h ++ later) parted ∙ (append_assoc b (e ∷ a) later ∙ ap (λ (y : Event). b ++ y ∷ (a ++ later)) same))

    mark_stands : (name : List ℕ) → MadeMark (app_root_of pod name) d → has_file (state_after new).entries k (start_mark name) ≡ true
    mark_stands name m =
        let root = app_root_of pod name in
        let is = did_is d.process (makes_own_mark root) (MakeFileIn (mark_inner root)) (mark_request root) m.1 m.4 in
        made (start_mark name) (mark_outside name) m.0 (m.2 ++ later) (widened m.0 m.1 (event me (MakeFileIn (mark_inner root)) Done) m.2 (is ∙ ap (λ (p : ℕ). event p (MakeFileIn (mark_inner root)) Done) mine) m.3)

    status_stands : (name : List ℕ) (status : ℕ) → WroteStatus (app_root_of pod name) status d → (has_file (state_after new).entries k (status_path name) ≡ true) × (content (state_after new).entries k (status_path name) ≡ status_text status)
    status_stands name status m =
        let root = app_root_of pod name in
        let i = status_inner root in
        let is = did_is d.process (makes_status root) (MakeFileIn i) (status_request root) m.1 m.4 in
        let wide = widened m.0 m.1 (event me (MakeFileIn i) Done) m.2 (is ∙ ap (λ (p : ℕ). event p (MakeFileIn i) Done) mine) m.3 in
        let w = m.5 in
        let wrote = did_is d.process (writes_status root status) (AppendIn i (status_text status)) (write_request root status) w.1 w.4 in
        let parted : m.2 ++ later ≡ w.0 ++ event me (AppendIn i (status_text status)) Done ∷ (w.2 ++ later) =
        ap (λ (h : List Event). h ++ later) w.3 ∙ (append_assoc w.0 (w.1 ∷ w.2) later ∙ ap (λ (y : Event). w.0 ++ y ∷ (w.2 ++ later)) (wrote ∙ ap (λ (p : ℕ). event p (AppendIn i (status_text status)) Done) mine)) in
        (made (status_path name) (status_outside name) m.0 (m.2 ++ later) wide, written (status_path name) (status_outside name) m.0 (m.2 ++ later) wide (status_text status) w.0 (w.2 ++ later) parted)

    pub each_stands : (starts : List AppStart) (statuses : List ℕ) (ends : List AppEnd) → ArePlaced pod starts → AreEnds starts statuses ends → AreMarked d starts → AreWrittenAll d starts statuses → AllByRecursion (FolderShowsEnd k (state_after new)) ends
    each_stands [] [] [] placed are marked wrote = tt
    each_stands (app ∷ starts) (status ∷ statuses) (end ∷ ends) placed are marked wrote =
        let mark = mark_stands app.name (subst (λ (r : RootPlace). MadeMark r d) placed.0 marked.0.made) in
        let note = status_stands app.name status (subst (λ (r : RootPlace). WroteStatus r status d) placed.0 wrote.0) in
        (subst (λ (e : AppEnd). FolderShowsEnd k (state_after new) e) (sym are.0) (record { marked = mark; noted = note.0; status = note.1 }), each_stands starts statuses ends placed.1 are.1 marked.1 wrote.1)
    each_stands [] _ _ placed are marked wrote = absurd are
    each_stands (app ∷ starts) _ _ placed are marked wrote = absurd are
