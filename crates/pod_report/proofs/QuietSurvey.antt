-- Where nobody else steps, a report changes no folder, nothing that folders hold, and not whose lock is held exclusively.
use Rattle.std.proofs.Common.{◌≡◌, ◌⊎◌, inl, inr, ℕ, Bool, true, false, not, ◌||◌, ◌==◌, is_some, option_to_list, List, [], ◌∷◌, ◌++◌, Option, refl, sym, ap, subst, ◌∙◌, append_assoc, append-nil}
use Rattle.std.specs.Prelude.{position}
use Rattle.std.specs.List.{AllByRecursion}
use Rattle.dir_model.specs.declared.event.Event.{Event}
use Rattle.dir_model.specs.declared.pod.PodId.{PodId}
use Rattle.dir_model.specs.declared.request.Request.{Request}
use Rattle.dir_model.specs.declared.request.Request.TheVariants.{Open, TryLock, Close, ListArea, ListIn, ReadIn, Kill}
use Rattle.dir_model.specs.declared.request.Reply.{Reply}
use Rattle.dir_model.specs.declared.request.Reply.TheVariants.{Done, Opened}
use Rattle.dir_model.specs.declared.spot.Mode.TheVariants.{Shared, Exclusive}
use Rattle.dir_model.specs.declared.spot.Spot.{Spot}
use Rattle.dir_model.specs.declared.tree.TreeEntry.{TreeEntry}
use Rattle.dir_model.specs.Calls.{Extends, is_foreign, is_kill}
use Rattle.dir_model.specs.Quiet.{Quiet, OwnsNothing, SameNamespace}
use Rattle.dir_model.specs.State.{Namespace, DirState, is_at, empty_state}
use Rattle.dir_model.specs.Trace.{state_after, state_next, states_next, namespace_replied, entries_kept, entry_made}
use Rattle.dir_model.proofs.Chains.{states_next-append}
use Rattle.dir_model.proofs.Lists.{all_left, same_rest, same_self, or_last}
use Rattle.dir_model.proofs.Quiet.{is_harmless, look_is_harmless, listing_is_harmless, harmless_all}
use Rattle.pod_lookup.specs.Pods.{NoFolderMoves}
use Rattle.pod_report.specs.Requests.{inspects, surveys}

-- requests that change nothing
abbrev pub is_calm : Request → Bool
is_calm (Open spot which) = true
is_calm (TryLock handle Shared) = true
is_calm (Close handle) = true
is_calm (ListArea area) = true
is_calm (ListIn inner) = true
is_calm (ReadIn inner at room) = true
is_calm _ = false

pub survey_calm : (r : Request) → surveys r ≡ true → is_calm r ≡ true
survey_calm (Open spot which) h = refl
survey_calm (TryLock handle Shared) h = refl
survey_calm (TryLock handle Exclusive) h = cc
survey_calm (Close handle) h = refl
survey_calm (ListArea area) h = refl
survey_calm (ReadIn inner at room) h = refl
survey_calm r h = cc

pub inspect_calm : (pod : PodId) (r : Request) → inspects pod r ≡ true → is_calm r ≡ true
inspect_calm pod (Open spot which) h = refl
inspect_calm pod (TryLock handle Shared) h = refl
inspect_calm pod (TryLock handle Exclusive) h = cc
inspect_calm pod (Close handle) h = refl
inspect_calm pod (ListIn inner) h = refl
inspect_calm pod (ReadIn inner at room) h = refl
inspect_calm pod r h = cc

abbrev is_file_read : Request → Bool
is_file_read (ReadIn inner at room) = true
is_file_read _ = false

read_or : (r : Request) → is_calm r ≡ true → (is_file_read r ≡ true) ⊎ (is_harmless r ≡ true)
read_or (Open spot which) h = inr (look_is_harmless (Open spot which) refl)
read_or (TryLock handle Shared) h = inr (look_is_harmless (TryLock handle Shared) refl)
read_or (TryLock handle Exclusive) h = cc
read_or (Close handle) h = inr (look_is_harmless (Close handle) refl)
read_or (ListArea area) h = inr (listing_is_harmless (ListArea area) refl)
read_or (ListIn inner) h = inr (listing_is_harmless (ListIn inner) refl)
read_or (ReadIn inner at room) h = inl refl
read_or r h = cc

read_same : (me : ℕ) (n : Namespace) (p : ℕ) (r : Request) (reply : Reply) → is_file_read r ≡ true → OwnsNothing me n → SameNamespace me n (namespace_replied n p r reply)
read_same me n p (ReadIn inner at room) Done h idle = record { folders = refl; owned = λ k. refl; mine = idle }
read_same me n p (ReadIn inner at room) (Opened handle) h idle = record { folders = refl; owned = λ k. refl; mine = idle }
read_same me n p (ReadIn inner at room) reply h idle = record { folders = refl; owned = λ k. refl; mine = idle }
read_same me n p r reply h idle = cc

abbrev Keeps : Namespace → List TreeEntry → Request → Reply → Type 0
Keeps n es r reply = entries_kept n es r reply ++ option_to_list (entry_made n r reply) ≡ es

calm_entries : (n : Namespace) (es : List TreeEntry) (r : Request) (reply : Reply) → is_calm r ≡ true → Keeps n es r reply
calm_entries n es (Open spot which) reply h = append-nil es
calm_entries n es (TryLock handle mode) reply h = append-nil es
calm_entries n es (Close handle) reply h = append-nil es
calm_entries n es (ListArea area) reply h = append-nil es
calm_entries n es (ListIn inner) reply h = append-nil es
calm_entries n es (ReadIn inner at room) reply h = append-nil es
calm_entries n es r reply h = cc

kill_entries : (n : Namespace) (es : List TreeEntry) (r : Request) (reply : Reply) → is_kill r ≡ true → Keeps n es r reply
kill_entries n es Kill reply h = append-nil es
kill_entries n es r reply h = cc

kill_or : (me p : ℕ) (kill asked : Bool) → p ≡ me → ((not (p == me) || kill) || asked) ≡ true → (kill ≡ true) ⊎ (asked ≡ true)
kill_or me p kill asked same h = by (p == me) kill (ap (λ (q : ℕ). q == me) same ∙ same_self me) h
  where
    by : (b k : Bool) → b ≡ true → ((not b || k) || asked) ≡ true → (k ≡ true) ⊎ (asked ≡ true)
    by true true is h = inl refl
    by true false is h = inr h
    by false k is h = cc

killed_or : (a k h : Bool) → k ≡ true → ((a || k) || h) ≡ true
killed_or true k h is = refl
killed_or false true h is = refl
killed_or false false h is = cc

-- as to folders, owners, and what folders hold
pub record SameWorld (me : ℕ) (s t : DirState) : Type 0 where
  pub names : SameNamespace me s.namespace t.namespace
  pub entries : t.entries ≡ s.entries

one_same : (me : ℕ) (s : DirState) (e : Event) → e.process ≡ me → (is_foreign me e || is_calm e.request) ≡ true → OwnsNothing me s.namespace → SameWorld me s (state_next s e)
one_same me s e own asked idle = by (kill_or me e.process (is_kill e.request) (is_calm e.request) own asked)
  where
    survey : (is_file_read e.request ≡ true) ⊎ (is_harmless e.request ≡ true) → is_calm e.request ≡ true → SameWorld me s (state_next s e)
    survey (inl r) a = record { names = read_same me s.namespace e.process e.request e.reply r idle; entries = calm_entries s.namespace s.entries e.request e.reply a }
    survey (inr h) a = record { names = harmless_all me s (e ∷ []) (own, tt) (or_last (is_foreign me e) (is_harmless e.request) h, tt) idle; entries = calm_entries s.namespace s.entries e.request e.reply a }

    by : (is_kill e.request ≡ true) ⊎ (is_calm e.request ≡ true) → SameWorld me s (state_next s e)
    by (inl k) = record { names = harmless_all me s (e ∷ []) (own, tt) (killed_or (not (e.process == me)) (is_kill e.request) (is_harmless e.request) k, tt) idle; entries = kill_entries s.namespace s.entries e.request e.reply k }
    by (inr a) = survey (read_or e.request a) a

all_same : (me : ℕ) (s : DirState) (es : List Event) → AllByRecursion (λ e. e.process ≡ me) es → AllByRecursion (λ e. (is_foreign me e || is_calm e.request) ≡ true) es → OwnsNothing me s.namespace → SameWorld me s (states_next s es)
all_same me s [] own asked idle = record { names = record { folders = refl; owned = λ k. refl; mine = idle }; entries = refl }
all_same me s (e ∷ es) own asked idle =
    let first : SameWorld me s (state_next s e) = one_same me s e own.0 asked.0 idle in
    let more : SameWorld me (state_next s e) (states_next (state_next s e) es) = all_same me (state_next s e) es own.1 asked.1 first.names.mine in
    record {
      names = record { folders = more.names.folders ∙ first.names.folders; owned = λ k. more.names.owned k ∙ first.names.owned k; mine = more.names.mine };
      entries = more.entries ∙ first.entries;
    }

module _ {me : ℕ} {old new : List Event} (ext : Extends is_calm me old new) (quiet : Quiet me old new) (idle : OwnsNothing me (state_after old).namespace) where
  -- at each moment the world is as before
  pub same_world : (later rest : List Event) → new ≡ (old ++ later) ++ rest → SameWorld me (state_after old) (state_after (old ++ later))
  same_world later rest is =
      let whole : new ≡ old ++ (later ++ rest) = is ∙ append_assoc old later rest in
      let own = all_left _ later rest (subst (λ (l : List Event). AllByRecursion (λ e. e.process ≡ me) l) (same_rest old quiet.more (later ++ rest) (sym quiet.grown ∙ whole)) quiet.own) in
      let asked = all_left _ later rest (subst (λ (l : List Event). AllByRecursion (λ e. (is_foreign me e || is_calm e.request) ≡ true) l) (same_rest old ext.more (later ++ rest) (sym ext.grown ∙ whole)) ext.asked) in
      subst (λ (t : DirState). SameWorld me (state_after old) t) (sym (states_next-append empty_state old later)) (all_same me (state_after old) later own asked idle)

  pub survey_keeps : NoFolderMoves old new
  survey_keeps later rest is spot = ap (λ (folders : List (Option Spot)). is_some (position (is_at spot) folders)) (same_world later rest is).names.folders
