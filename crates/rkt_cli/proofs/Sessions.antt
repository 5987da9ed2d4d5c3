-- A command between its begin and its finish.
use Rattle.std.proofs.Common.{◌≡◌, ◌⊎◌, inl, inr, ℕ, Bool, true, false, not, List, [], ◌∷◌, ◌++◌, append-nil, refl, sym, ap, subst, ◌∙◌, append_assoc}
use Rattle.std.specs.List.{AllByRecursion}
use Rattle.dir_model.specs.declared.event.Event.{Event}
use Rattle.dir_model.specs.declared.intent.Draw.{Draw}
use Rattle.dir_model.specs.declared.intent.Intent.{Intent}
use Rattle.dir_model.specs.declared.request.Request.{Request}
use Rattle.dir_model.specs.declared.request.Request.TheVariants.{Begin, Finish}
use Rattle.dir_model.specs.declared.request.Reply.TheVariants.{Done}
use Rattle.dir_model.specs.State.{empty_state, has_begun}
use Rattle.dir_model.specs.Trace.{state_after, state_next, states_next}
use Rattle.dir_model.specs.Calls.{CallStep, TookPlace, LeftNothing, Extends, IsRun, event}
use Rattle.dir_model.specs.Quiet.{Quiet, OwnsNothing}
use Rattle.dir_model.proofs.Lists.{all_left, or_last, same_rest}
use Rattle.dir_model.proofs.Allowed.{allowed_step}
use Rattle.dir_model.proofs.Chains.{step_extends, and_more, nothing_yet, extends_wider, state_after-push, states_next-append, run_before, run-left, run_from-right}
use Rattle.dir_model.proofs.Begun.{unborn_owns_nothing, silent_before}
use Rattle.dir_model.proofs.Quiet.{quiet_within}
use Rattle.rkt_cli.specs.Tasks.{Task}
use Rattle.command_outcomes.specs.Moments.{Outside, CommandOutcome}
use Rattle.rkt_cli.specs.Commands.{approach_in, looks, asks}
use Rattle.commands.specs.Opening.{Approach, directly, Looks, looks_by, Opens}
use Rattle.commands.proofs.OwnSteps.{in_process, asks_in_process, lists_in_process}
use Rattle.commands.proofs.Starts.{look_extends, look_lists, opening_extends}
use Rattle.rkt_cli.specs.Runs.{InProcess}

late_never : {X : Type 0} {me : ℕ} {before new : List Event} {intent : Intent} → LeftNothing before me (Begin intent) Done new → X
late_never {X} {me} {before} {new} {intent} left = let clash : false ≡ true = left.late in cc

module _ (me : ℕ) (old new : List Event) (intent : Intent) (s : CallStep me old (Begin intent) Done new) (q : Quiet me old new) where
  abbrev begun : Event
  begun = event me (Begin intent) Done

  unborn : TookPlace s.before me (Begin intent) Done new → has_begun (state_after s.before).namespace me ≡ false
  unborn took = by (has_begun (state_after s.before).namespace me) (allowed_step (state_after s.before) me (Begin intent) Done took.allowed)
    where
      by : (b : Bool) → not b ≡ true → b ≡ false
      by true h = cc
      by false h = refl

  -- whoever hasn't begun takes no step, so that nobody did meanwhile
  nobody : TookPlace s.before me (Begin intent) Done new → s.meanwhile.others ≡ []
  nobody took =
      let others = s.meanwhile.others in
      let whole : new ≡ old ++ (others ++ begun ∷ []) = took.grown ∙ (ap (λ h. h ++ begun ∷ []) s.meanwhile.grown ∙ simp append_assoc) in
      let own : AllByRecursion (λ e. e.process ≡ me) (others ++ begun ∷ []) = subst (λ (l : List Event). AllByRecursion (λ e. e.process ≡ me) l) (same_rest old q.more (others ++ begun ∷ []) (sym q.grown ∙ whole)) q.own in
      let run : IsRun (old ++ others) = subst IsRun s.meanwhile.grown (run-left s.before (begun ∷ []) (subst IsRun took.grown s.run)) in
      let here : states_next (state_after old) others ≡ state_after s.before = sym (ap state_after s.meanwhile.grown ∙ states_next-append empty_state old others) in
      silent_before me (state_after old) others (run_from-right empty_state old others run) (ap (λ w. has_begun w.namespace me) here ∙ unborn took) (all_left _ others (begun ∷ []) own) s.meanwhile.foreign

  before_is : TookPlace s.before me (Begin intent) Done new → s.before ≡ old
  before_is took = s.meanwhile.grown ∙ (ap (λ (l : List Event). old ++ l) (nobody took) ∙ append-nil old)

  -- alone, a begin is one event
  pub began_alone : new ≡ old ++ begun ∷ []
  began_alone = by s.own
    where
      by : TookPlace s.before me (Begin intent) Done new ⊎ LeftNothing s.before me (Begin intent) Done new → new ≡ old ++ begun ∷ []
      by (inr left) = late_never left
      by (inl took) = took.grown ∙ ap (λ (l : List Event). l ++ begun ∷ []) (before_is took)

  -- whoever begins held nothing before
  pub held_nothing : OwnsNothing me (state_after old).namespace
  held_nothing = by s.own
    where
      by : TookPlace s.before me (Begin intent) Done new ⊎ LeftNothing s.before me (Begin intent) Done new → OwnsNothing me (state_after old).namespace
      by (inr left) = late_never left
      by (inl took) = unborn_owns_nothing old me (run_before s) (subst (λ (l : List Event). has_begun (state_after l).namespace me ≡ false) (before_is took) (unborn took))

abbrev pub any_call : Request → Bool
any_call r = true

-- a command that comes to its pod directly lists nothing for it
pub no_looks : (task : Task) {X : Type 0} → approach_in task ≡ directly → (r : Request) → looks task r ≡ true → X
no_looks task direct r h = let clash : true ≡ false = sym h ∙ ap (λ (a : Approach). looks_by a r) direct in cc

module _ {task : Task} {now : ℕ} {draw : Draw} {intent : Intent} {old new : Outside} {o : CommandOutcome} (s : InProcess task now draw intent old new o) (t : old.observed ≡ true) where
  pub begin_part : (asked : Request → Bool) → asked (Begin intent) ≡ true → ((r : Request) → looks task r ≡ true → asked r ≡ true) → Extends asked old.dir.process old.dir.trace s.begun.dir.trace
  begin_part asked is wider = opening_extends is wider (s.begins t)

  -- whatever it asked for
  pub begin_any : Extends any_call old.dir.process old.dir.trace s.begun.dir.trace
  begin_any = begin_part any_call refl (λ r h. refl)

  pub act_part : Extends (asks task now draw) old.dir.process s.begun.dir.trace s.ended.dir.trace
  act_part = subst (λ (p : ℕ). Extends (asks task now draw) p s.begun.dir.trace s.ended.dir.trace) s.me (s.ran.extends (s.told ∙ t))

  pub finish_part : (asked : Request → Bool) → asked Finish ≡ true → Extends asked old.dir.process s.ended.dir.trace new.dir.trace
  finish_part asked is = step_extends asked old.dir.process s.ended.dir.trace Finish Done new.dir.trace is (subst (λ (p : ℕ). CallStep p s.ended.dir.trace Finish Done new.dir.trace) (s.ran.same ∙ s.me) (s.finishes t))

  -- the three together
  pub all_parts : (asked : Request → Bool) → asked (Begin intent) ≡ true → ((r : Request) → looks task r ≡ true → asked r ≡ true) → ((r : Request) → asks task now draw r ≡ true → asked r ≡ true) → asked Finish ≡ true → Extends asked old.dir.process old.dir.trace new.dir.trace
  all_parts asked begins looks wider finishes = and_more (and_more (begin_part asked begins looks) refl (extends_wider wider act_part)) refl (finish_part asked finishes)

  -- as requests of a process
  pub all_in_process : Extends (in_process (asks task now draw)) old.dir.process old.dir.trace new.dir.trace
  all_in_process =
      all_parts (in_process (asks task now draw)) refl (λ r h. lists_in_process (asks task now draw) r (look_lists (approach_in task) r h)) (asks_in_process (asks task now draw)) (or_last (asks task now draw Finish) true refl)

  -- nobody else stepped at the begin, nor meanwhile
  pub quiet_begin : Quiet old.dir.process old.dir.trace new.dir.trace → Quiet old.dir.process old.dir.trace s.begun.dir.trace
  quiet_begin q =
      let first = begin_any in
      quiet_within q (nothing_yet {asks = any_call}) (and_more (extends_wider {asks = asks task now draw} {asks' = any_call} (λ r h. refl) act_part) refl (finish_part any_call refl)) first.more first.grown

  pub quiet_act : Quiet old.dir.process old.dir.trace new.dir.trace → Quiet old.dir.process s.begun.dir.trace s.ended.dir.trace
  quiet_act q = quiet_within q begin_any (finish_part any_call refl) act_part.more act_part.grown

  -- nobody else stepped at the begin, nor while it looked for its pod
  abbrev pub opening : Opens (approach_in task) intent old.dir.process old.dir.trace s.begun.dir.trace
  opening = s.begins t

  abbrev first_part : Extends any_call old.dir.process old.dir.trace opening.first
  first_part = step_extends any_call old.dir.process old.dir.trace (Begin intent) Done opening.first refl opening.begins

  abbrev look_part : Extends any_call old.dir.process opening.first s.begun.dir.trace
  look_part = extends_wider (λ r h. refl) (look_extends (approach_in task) opening.looks)

  pub quiet_first : Quiet old.dir.process old.dir.trace new.dir.trace → Quiet old.dir.process old.dir.trace opening.first
  quiet_first q = quiet_within (quiet_begin q) (nothing_yet {asks = any_call}) look_part first_part.more first_part.grown

  pub quiet_look : Quiet old.dir.process old.dir.trace new.dir.trace → Quiet old.dir.process opening.first s.begun.dir.trace
  quiet_look q = quiet_within (quiet_begin q) first_part (nothing_yet {asks = any_call}) look_part.more look_part.grown

  pub state_first : Quiet old.dir.process old.dir.trace new.dir.trace → state_after opening.first ≡ state_next (state_after old.dir.trace) (event old.dir.process (Begin intent) Done)
  state_first q = ap state_after (began_alone old.dir.process old.dir.trace opening.first intent opening.begins (quiet_first q)) ∙ state_after-push old.dir.trace (event old.dir.process (Begin intent) Done)

  -- where it came to its pod directly, the state is then the same, but that this process has begun
  pub state_begun : approach_in task ≡ directly → Quiet old.dir.process old.dir.trace new.dir.trace → state_after s.begun.dir.trace ≡ state_next (state_after old.dir.trace) (event old.dir.process (Begin intent) Done)
  state_begun is q = ap state_after (subst (λ (a : Approach). Looks a old.dir.process opening.first s.begun.dir.trace) is opening.looks) ∙ state_first q

  pub idle : Quiet old.dir.process old.dir.trace new.dir.trace → OwnsNothing old.dir.process (state_after old.dir.trace).namespace
  idle q = held_nothing old.dir.process old.dir.trace opening.first intent opening.begins (quiet_first q)
