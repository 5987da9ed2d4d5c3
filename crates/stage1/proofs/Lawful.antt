-- Where every process keeps the local rules, no note of a pod that a process runs is answered as if the pod weren't its own.
use Rattle.std.proofs.Common.{◌≡◌, ◌⊎◌, inl, inr, ℕ, Bool, true, false, not, ◌&&◌, ◌||◌, ◌==◌, Option, Some, None, List, [], ◌∷◌, ◌++◌, append_assoc, refl, sym, ap, subst, ◌∙◌}
use Rattle.std.specs.List.{AllByRecursion}
use Rattle.dir_model.specs.declared.area.Area.{Area}
use Rattle.dir_model.specs.declared.area.Area.TheVariants.{Run}
use Rattle.dir_model.specs.declared.event.Event.{Event}
use Rattle.dir_model.specs.declared.intent.Intent.{Intent}
use Rattle.dir_model.specs.declared.item.Inner.{Inner}
use Rattle.dir_model.specs.declared.pod.PodId.{PodId}
use Rattle.dir_model.specs.declared.spot.Handle.{Handle}
use Rattle.dir_model.specs.declared.spot.Spot.{Spot}
use Rattle.dir_model.specs.declared.request.DirError.TheVariants.{Missing, Exists}
use Rattle.dir_model.specs.declared.request.Request.{Request}
use Rattle.dir_model.specs.declared.request.Request.TheVariants.{Begin, MakeDirIn, MakeFileIn, AppendIn, SyncIn}
use Rattle.dir_model.specs.declared.request.Reply.{Reply}
use Rattle.dir_model.specs.declared.request.Reply.TheVariants.{Refused}
use Rattle.dir_model.specs.Calls.{is_begin, is_kill, is_foreign, event, TookPlace, LeftNothing}
use Rattle.dir_model.specs.State.{DirState, empty_state, lives}
use Rattle.dir_model.specs.Trace.{state_after}
use Rattle.dir_model.proofs.Chains.{states_next-append}
use Rattle.dir_model.proofs.Lists.{and_left, and_right, all_left, all_right, all_weaker, same_rest, same_self}
use Rattle.dir_rules.specs.declared.seen.Seen.{Seen}
use Rattle.dir_rules.specs.Anomalies.{is_removal, is_its_folder, folder_of}
use Rattle.dir_rules.specs.Conforms.{nothing_seen, seen_of}
use Rattle.dir_rules.specs.LockRules.{lock_rules_allow, on_spot}
use Rattle.dir_rules.specs.Rules.{allows, content_rules_allow, may_make_file_in, may_append_in, may_sync_in, may_note, may_mark, runs, spares_deleted_pod}
use Rattle.dir_rules.specs.Standing.{is_in, intends, began_as, is_remover, holds_own, last_move_of}
use Rattle.dir_rules.specs.declared.standing.Standing.{Standing}
use Rattle.dir_rules.proofs.Tied.{meanwhile_unseen, seen_after-append}
use Rattle.dir_model.specs.Pods.{pod_text}
use Rattle.dir_laws.proofs.Living.{lived_first}
use Rattle.lifecycle.specs.Executions.{IsConforming}
use Rattle.lifecycle.proofs.Draws.{conforming_left}
use Rattle.folder_contents.proofs.Spots.{one_location}
use Rattle.impossible_replies.proofs.Alongside.{Steps, steps}
use Rattle.impossible_replies.proofs.Brought.{no_starter}
use Rattle.impossible_replies.proofs.Calls.{never_lost_own, runs_its}
use Rattle.impossible_replies.proofs.Citing.{is_lost, too_late}
use Rattle.impossible_replies.proofs.Earlier.{intent_kept}
use Rattle.impossible_replies.proofs.Movers.{starts, moved_as}
use Rattle.impossible_replies.proofs.Runners.{last_run}
use Rattle.dir_trait.specs.DirCalls.{DirAt, ExtendsBy}
use Rattle.folder_building.specs.Work.{is_stray_building}
use Rattle.pod_files.specs.Places.{run_spot}
use Rattle.pod_locks.specs.Running.{RunsPod}
use Rattle.stage1.specs.Refusals.{WasStrayIn}
use Rattle.stage1.specs.Runs.{runs_and_closes}

stray_lost : (request : Request) (reply : Reply) → is_stray_building request reply ≡ true → is_lost request reply ≡ true
stray_lost (MakeDirIn i) (Refused Missing left) h = refl
stray_lost (MakeDirIn i) (Refused Exists left) h = refl
stray_lost (MakeFileIn i) (Refused Missing left) h = refl
stray_lost (MakeFileIn i) (Refused Exists left) h = refl
stray_lost (AppendIn i piece) (Refused Missing left) h = refl
stray_lost (SyncIn i) (Refused Missing left) h = refl
stray_lost request reply h = cc

never_begins : (pod : PodId) (own : Handle) (request : Request) → runs_and_closes pod own request ≡ true → not (is_begin request) ≡ true
never_begins pod own (Begin intent) h = cc
never_begins pod own request h = refl

module _ (pod : PodId) (own : Handle) (old new : DirAt) (running : RunsPod pod old) (extends : ExtendsBy (runs_and_closes pod own) old new) (conforming : IsConforming new.trace) where
  abbrev me : ℕ
  me = old.process

  quiet : AllByRecursion (λ e. (is_foreign me e || not (is_begin e.request)) ≡ true) extends.more
  quiet = all_weaker (λ e. (is_foreign me e || runs_and_closes pod own e.request) ≡ true) (λ e. (is_foreign me e || not (is_begin e.request)) ≡ true)
      (λ e h. by (is_foreign me e) e.request h) extends.more extends.asked
    where
      by : (b : Bool) (r : Request) → (b || runs_and_closes pod own r) ≡ true → (b || not (is_begin r)) ≡ true
      by true r h = refl
      by false r h = never_begins pod own r h

  -- it began as one that runs pods
  began_before : lives (state_after old.trace).namespace me ≡ true → intends (λ i. starts i.kind) (seen_of me old.trace).standing.intent ≡ true
  began_before living =
      let a = running.knows.tied.living living in
      let known : runs (seen_of me old.trace) (pod_text pod.bytes) ≡ true = subst (λ (s : Seen). runs s (pod_text pod.bytes) ≡ true) a.same running.runs in
      let z = last_run (seen_of me old.trace) (pod_text pod.bytes) (and_right (holds_own (pod_text pod.bytes) (seen_of me old.trace).standing) (on_spot (λ spot. is_in Run spot.area) (last_move_of (pod_text pod.bytes) (seen_of me old.trace).standing.moves)) known) in
      (moved_as old.trace (conforming_left old.trace extends.more (subst IsConforming extends.grown conforming)) me).run z.0 z.1.1.1.0 z.1.1.0

  -- and so it is in the end
  starts_still : (h more rest : List Event) → h ≡ old.trace ++ more → extends.more ≡ more ++ rest → lives (state_after old.trace).namespace me ≡ true → intends (λ i. starts i.kind) (seen_of me h).standing.intent ≡ true
  starts_still h more rest grown parts living =
      let part = all_left (λ y. (is_foreign me y || not (is_begin y.request)) ≡ true) more rest (subst (λ (l : List Event). AllByRecursion (λ y. (is_foreign me y || not (is_begin y.request)) ≡ true) l) parts quiet) in
      subst (λ (o : Option Intent). intends (λ i. starts i.kind) o ≡ true)
      (sym (ap (λ (x : List Event). (seen_of me x).standing.intent) grown ∙ (ap (λ (s : Seen). s.standing.intent) (seen_after-append me nothing_seen old.trace more) ∙ intent_kept me (seen_of me old.trace) more part)))
      (began_before living)

  not_remover : (h more rest : List Event) → h ≡ old.trace ++ more → extends.more ≡ more ++ rest → lives (state_after old.trace).namespace me ≡ true → began_as is_remover (seen_of me h).standing ≡ true → ⊥
  not_remover h more rest grown parts living removes = by (seen_of me h).standing.intent (starts_still h more rest grown parts living) removes
    where
      by : (o : Option Intent) → intends (λ i. starts i.kind) o ≡ true → intends (λ i. is_remover i.kind) o ≡ true → ⊥
      by None s r = cc
      by (Some i) s r = no_starter i.kind s r

  -- a note in run is the runner's
  note_runs : (s : Seen) (request : Request) (reply : Reply) → is_stray_building request reply ≡ true → runs_and_closes pod own request ≡ true → allows s request ≡ true → (began_as is_remover s.standing ≡ true → ⊥) → is_its_folder s (folder_of request) ≡ true
  note_runs s (MakeDirIn i) reply stray asked may stays = cc
  note_runs s (MakeFileIn i) reply stray asked may stays =
      let run : i.spot ≡ run_spot pod = one_location i.spot (run_spot pod) asked in
      runs_its s i.spot (ap (λ (x : Spot). x.area) run)
      (file i.spot.area (ap (λ (x : Spot). x.area) run) (and_left (may_make_file_in s i i.spot.area) (spares_deleted_pod s i) (and_right (lock_rules_allow s.standing (MakeFileIn i)) (content_rules_allow s (MakeFileIn i)) may)))
    where
      file : (a : Area) → a ≡ Run → may_make_file_in s i a ≡ true → runs s i.spot.name ≡ true
      file a is h = by (may_note s i) refl (subst (λ (x : Area). may_make_file_in s i x ≡ true) is h)
        where
          by : (b : Bool) → may_note s i ≡ b → (may_note s i || may_mark s i) ≡ true → runs s i.spot.name ≡ true
          by true e h = and_left (runs s i.spot.name) _ e
          by false e h = absurd (stays (and_left (began_as is_remover s.standing) _ (ap (λ (b : Bool). b || may_mark s i) (sym e) ∙ h)))
  note_runs s (AppendIn i piece) reply stray asked may stays =
      let run : i.spot ≡ run_spot pod = one_location i.spot (run_spot pod) asked in
      runs_its s i.spot (ap (λ (x : Spot). x.area) run)
      (and_left (runs s i.spot.name) _ (subst (λ (a : Area). may_append_in s i a ≡ true) (ap (λ (x : Spot). x.area) run) (and_left (may_append_in s i i.spot.area) (spares_deleted_pod s i) (and_right (lock_rules_allow s.standing (AppendIn i piece)) (content_rules_allow s (AppendIn i piece)) may))))
  note_runs s (SyncIn i) reply stray asked may stays =
      let run : i.spot ≡ run_spot pod = one_location i.spot (run_spot pod) asked in
      runs_its s i.spot (ap (λ (x : Spot). x.area) run)
      (and_left (runs s i.spot.name) _ (subst (λ (a : Area). may_sync_in s i a ≡ true) (ap (λ (x : Spot). x.area) run) (and_left (may_sync_in s i i.spot.area) (spares_deleted_pod s i) (and_right (lock_rules_allow s.standing (SyncIn i)) (content_rules_allow s (SyncIn i)) may))))
  note_runs s request reply stray asked may stays = cc

  stray_kept : (request : Request) (reply : Reply) → is_stray_building request reply ≡ true → (is_kill request ≡ false) × ((is_begin request ≡ false) × (is_removal request ≡ false))
  stray_kept (MakeDirIn i) reply h = (refl, (refl, refl))
  stray_kept (MakeFileIn i) reply h = (refl, (refl, refl))
  stray_kept (AppendIn i piece) reply h = (refl, (refl, refl))
  stray_kept (SyncIn i) reply h = (refl, (refl, refl))
  stray_kept request reply h = cc

  pub never_stray : WasStrayIn me old.trace new.trace → ⊥
  never_stray w = by w.step.own
    where
      k : (is_kill w.request ≡ false) × ((is_begin w.request ≡ false) × (is_removal w.request ≡ false))
      k = stray_kept w.request w.reply w.stray

      e : Event
      e = event me w.request w.reply

      h : List Event
      h = w.step.before

      others : List Event
      others = w.step.meanwhile.others

      after_conforms : IsConforming w.after
      after_conforms = conforming_left w.after w.later (subst IsConforming w.ends conforming)

      grown : h ≡ old.trace ++ (w.earlier ++ others)
      grown = w.step.meanwhile.grown ∙ (ap (λ (x : List Event). x ++ others) w.begins ∙ append_assoc old.trace w.earlier others)

      by : TookPlace h me w.request w.reply w.after ⊎ LeftNothing h me w.request w.reply w.after → ⊥
      by (inr left) = too_late w.request w.reply (stray_lost w.request w.reply w.stray) left.late
      by (inl took) = never_lost_own w.request w.reply w.step after_conforms k.1.1 its (stray_lost w.request w.reply w.stray)
        where
          ends : new.trace ≡ h ++ (e ∷ w.later)
          ends = w.ends ∙ (ap (λ (x : List Event). x ++ w.later) took.grown ∙ append_assoc h (e ∷ []) w.later)

          parts : extends.more ≡ (w.earlier ++ others) ++ (e ∷ w.later)
          parts = same_rest old.trace extends.more ((w.earlier ++ others) ++ (e ∷ w.later))
              (sym extends.grown ∙ (ends ∙ (ap (λ (x : List Event). x ++ (e ∷ w.later)) grown ∙ append_assoc old.trace (w.earlier ++ others) (e ∷ w.later))))

          asked : runs_and_closes pod own w.request ≡ true
          asked = own_asked (all_right (λ y. (is_foreign me y || runs_and_closes pod own y.request) ≡ true) (w.earlier ++ others) (e ∷ w.later)
              (subst (λ (l : List Event). AllByRecursion (λ y. (is_foreign me y || runs_and_closes pod own y.request) ≡ true) l) parts extends.asked)).0
            where
              own_asked : ((not (me == me) || is_kill w.request) || runs_and_closes pod own w.request) ≡ true → runs_and_closes pod own w.request ≡ true
              own_asked a = ap (λ (b : Bool). b || runs_and_closes pod own w.request) (sym k.0) ∙ (ap (λ (b : Bool). (not b || is_kill w.request) || runs_and_closes pod own w.request) (sym (same_self me)) ∙ a)

          x : Steps h me w.request w.reply
          x = steps h e (subst IsConforming took.grown after_conforms) k.0 k.1.0

          living : lives (state_after old.trace).namespace me ≡ true
          living = lived_first me (state_after old.trace) (w.earlier ++ others)
              (all_left (λ y. (is_foreign me y || not (is_begin y.request)) ≡ true) (w.earlier ++ others) (e ∷ w.later)
              (subst (λ (l : List Event). AllByRecursion (λ y. (is_foreign me y || not (is_begin y.request)) ≡ true) l) parts quiet))
              (subst (λ (s : DirState). lives s.namespace me ≡ true) (ap state_after grown ∙ states_next-append empty_state old.trace (w.earlier ++ others)) x.living)

          its : is_its_folder (seen_of me w.before) (folder_of w.request) ≡ true
          its = subst (λ (s : Seen). is_its_folder s (folder_of w.request) ≡ true) (meanwhile_unseen w.step.meanwhile)
              (note_runs (seen_of me h) w.request w.reply w.stray asked x.may (not_remover h (w.earlier ++ others) (e ∷ w.later) grown parts living))
