-- Where nobody else steps and the draw is new, an execution in which every process kept the local rules stays one.
use Rattle.std.proofs.Common.{◌≡◌, ◌≢◌, inl, inr, ℕ, Bool, true, false, not, ◌||◌, ◌==◌, cond, Option, Some, None, List, [], ◌∷◌, ◌++◌, refl, sym, ap, subst, ◌∙◌}
use Rattle.std.specs.List.{AllByRecursion}
use Rattle.dir_model.specs.declared.event.Event.{Event}
use Rattle.dir_model.specs.declared.intent.Draw.{Draw}
use Rattle.dir_model.specs.declared.intent.Intent.{Intent}
use Rattle.dir_model.specs.declared.request.Request.{Request}
use Rattle.dir_model.specs.declared.request.Request.TheVariants.{Begin}
use Rattle.dir_model.specs.declared.request.Reply.TheVariants.{Done}
use Rattle.dir_model.specs.Calls.{CallStep, IsRun, Extends, event, is_begin, is_foreign, is_kill}
use Rattle.dir_model.specs.Pods.{pod_text}
use Rattle.dir_model.specs.Quiet.{Quiet}
use Rattle.dir_model.proofs.Chains.{and_more, extends_wider}
use Rattle.dir_model.proofs.Lists.{same_self, same_number}
use Rattle.dir_rules.specs.declared.standing.Standing.{Standing}
use Rattle.dir_rules.specs.Conforms.{Conforms, nothing_seen, seen_of}
use Rattle.dir_rules.specs.Standing.{nothing_standing, standing_from, standing_of, standing_replied, stood}
use Rattle.dir_rules.proofs.Standings.{standing_is}
use Rattle.dir_rules.proofs.Tied.{others_unseen, seen_after-append}
use Rattle.dir_rules.proofs.Unborn.{refused_unseen}
use Rattle.dir_trait.specs.DirCalls.{DirAt}
use Rattle.lifecycle.specs.Executions.{IsConforming, IsDrawnOnce}
use Rattle.lifecycle.proofs.Draws.{standing_split, same_intent}
use Rattle.command_outcomes.specs.Moments.{Outside, Moment, CommandOutcome}
use Rattle.rkt_cli.specs.Tasks.{Task}
use Rattle.rkt_cli.specs.Tasks.{Status, PodList, CatManifest, Validate, ImageList, ImageImport, ImageRm, ImageGc, Prepare, RunPrepared, Run, Rm, Gc, Metadata, Demo}
use Rattle.pod_lookup.specs.Looks.{lists_stages}
use Rattle.commands.proofs.Starts.{look_extends, look_lists}
use Rattle.rkt_cli.specs.Commands.{approach_in, asks, intent_of}
use Rattle.rkt_cli.specs.Histories.{IsNewDraw, StaysLawful}
use Rattle.rkt_cli.specs.Runs.{InProcess, NeverBegan, Performs, IsRunOfTask, RunsTaskOrNothing}
use Rattle.rkt_cli.proofs.Conforming.{performed_keeps}
use Rattle.rkt_cli.proofs.Sessions.{act_part, began_alone, finish_part, quiet_first}

-- what a process does another one doesn't see
unseen : (me p : ℕ) (more : List Event) → (me == p) ≡ false → AllByRecursion (λ e. e.process ≡ me) more → AllByRecursion (λ e. is_foreign p e ≡ true) more
unseen me p [] apart own = tt
unseen me p (e ∷ es) apart own = (ap (λ (q : ℕ). not (q == p) || is_kill e.request) own.0 ∙ ap (λ (b : Bool). not b || is_kill e.request) apart, unseen me p es apart own.1)

-- an intent stays where no other begin is asked for
intent_rest : (me : ℕ) (s : Standing) (es : List Event) → AllByRecursion (λ e. (is_foreign me e || not (is_begin e.request)) ≡ true) es → (standing_from me s es).intent ≡ s.intent
intent_rest me s [] asked = refl
intent_rest me s (e ∷ es) asked = intent_rest me (stood me s e) es asked.1 ∙ one (is_foreign me e) asked.0
  where
    off : (b : Bool) → not b ≡ true → b ≡ false
    off true h = cc
    off false h = refl

    one : (f : Bool) → (f || not (is_begin e.request)) ≡ true → (cond f s (standing_replied s e.request e.reply)).intent ≡ s.intent
    one true h = refl
    one false h = same_intent s e.request e.reply (off (is_begin e.request) h)

-- no command begins a second time
begins_once : (line : Task) (now : ℕ) (draw : Draw) (intent : Intent) → asks line now draw (Begin intent) ≡ false
begins_once (Status word pod) now draw intent = refl
begins_once PodList now draw intent = refl
begins_once (CatManifest word pod) now draw intent = refl
begins_once (Validate path) now draw intent = refl
begins_once ImageList now draw intent = refl
begins_once (ImageImport path) now draw intent = refl
begins_once (ImageRm key) now draw intent = refl
begins_once ImageGc now draw intent = refl
begins_once (Prepare wants) now draw intent = refl
begins_once (RunPrepared word pod address) now draw intent = refl
begins_once (Run wants address) now draw intent = refl
begins_once (Rm word pod) now draw intent = refl
begins_once (Gc grace expire) now draw intent = refl
begins_once (Metadata address count) now draw intent = refl
begins_once (Demo count) now draw intent = refl

-- nor does a look
pub lists_no_begin : (r : Request) → lists_stages r ≡ true → not (is_begin r) ≡ true
lists_no_begin (Begin intent) h = cc
lists_no_begin r h = refl

pub asks_no_begin : (line : Task) (now : ℕ) (draw : Draw) (r : Request) → asks line now draw r ≡ true → not (is_begin r) ≡ true
asks_no_begin line now draw (Begin intent) h = let clash : true ≡ false = sym h ∙ begins_once line now draw intent in cc
asks_no_begin line now draw r h = refl

-- it begins with the draw that it was given
pub record HasDraw (draw : Draw) (intent : Intent) : Type 0 where
  pub identity : pod_text intent.draw.bytes ≡ pod_text draw.uuid.bytes
  pub token : intent.token ≡ draw.token

with_draw : (draw : Draw) (a intent : Intent) → HasDraw draw a → ◌≡◌ {A = Option Intent} (Some a) (Some intent) → HasDraw draw intent
with_draw draw a intent has is = subst (HasDraw draw) (let e : a ≡ intent = cc in e) has

pub its_draw : (line : Task) (now : ℕ) (draw : Draw) (intent : Intent) → intent_of line now draw ≡ Some intent → HasDraw draw intent
its_draw (Status word pod) now draw intent is = with_draw draw _ intent (record { identity = refl; token = refl }) is
its_draw PodList now draw intent is = with_draw draw _ intent (record { identity = refl; token = refl }) is
its_draw (CatManifest word pod) now draw intent is = with_draw draw _ intent (record { identity = refl; token = refl }) is
its_draw (Validate path) now draw intent is = cc
its_draw ImageList now draw intent is = with_draw draw _ intent (record { identity = refl; token = refl }) is
its_draw (ImageImport path) now draw intent is = with_draw draw _ intent (record { identity = refl; token = refl }) is
its_draw (ImageRm key) now draw intent is = with_draw draw _ intent (record { identity = refl; token = refl }) is
its_draw ImageGc now draw intent is = with_draw draw _ intent (record { identity = refl; token = refl }) is
its_draw (Prepare wants) now draw intent is = with_draw draw _ intent (record { identity = refl; token = refl }) is
its_draw (RunPrepared word pod address) now draw intent is = with_draw draw _ intent (record { identity = refl; token = refl }) is
its_draw (Run wants address) now draw intent is = with_draw draw _ intent (record { identity = refl; token = refl }) is
its_draw (Rm word pod) now draw intent is = with_draw draw _ intent (record { identity = refl; token = refl }) is
its_draw (Gc grace expire) now draw intent is = with_draw draw _ intent (record { identity = refl; token = refl }) is
its_draw (Metadata address count) now draw intent is = with_draw draw _ intent (record { identity = refl; token = refl }) is
its_draw (Demo count) now draw intent is = cc

pub same_intents : (a b : Intent) → ◌≡◌ {A = Option Intent} (Some a) (Some b) → a ≡ b
same_intents a b is = cc

-- a process that began at once has that intent in the end
pub began_since : (me : ℕ) (old first new : List Event) (intent : Intent) → CallStep me old (Begin intent) Done first → Quiet me old first → Extends (λ r. not (is_begin r)) me first new → (standing_of me new).intent ≡ Some intent
began_since me old first new intent step quiet rest =
    let start : first ≡ old ++ event me (Begin intent) Done ∷ [] = began_alone me old first intent step quiet in
    ap (λ (h : List Event). (standing_of me h).intent) rest.grown ∙ (ap (λ s. s.intent) (standing_split me nothing_standing first rest.more)
    ∙ (intent_rest me (standing_of me first) rest.more rest.asked ∙ (ap (λ (h : List Event). (standing_of me h).intent) start ∙ (ap (λ s. s.intent) (standing_split me nothing_standing old (event me (Begin intent) Done ∷ []))
    ∙ by (me == me) (same_self me)))))
  where
    by : (b : Bool) → b ≡ true → (cond (not b || false) (standing_of me old) (standing_replied (standing_of me old) (Begin intent) Done)).intent ≡ Some intent
    by true h = refl
    by false h = cc

module _ (me : ℕ) (old new : List Event) (quiet : Quiet me old new) (conforming : IsConforming old) where
  -- what another process knows is as before
  seen_same : (p : ℕ) → (me == p) ≡ false → seen_of p new ≡ seen_of p old
  seen_same p apart = ap (seen_of p) quiet.grown ∙ (seen_after-append p nothing_seen old quiet.more ∙ others_unseen p (seen_of p old) quiet.more (unseen me p quiet.more apart quiet.own))

  stands_same : (p : ℕ) → (me == p) ≡ false → standing_of p new ≡ standing_of p old
  stands_same p apart = sym (standing_is p new) ∙ (ap (λ s. s.standing) (seen_same p apart) ∙ standing_is p old)

  rules_after : Conforms me new → (p : ℕ) → Conforms p new
  rules_after own p = by (me == p) refl
    where
      by : (b : Bool) → (me == p) ≡ b → Conforms p new
      by true same = subst (λ (q : ℕ). Conforms q new) (same_number me p same) own
      by false apart = ap (λ s. s.kept) (seen_same p apart) ∙ conforming.rules p

  -- whose intent is this process's, drawn like no other's before
  module _ (intent : Intent) (began : (standing_of me new).intent ≡ Some intent) (drawn : Intent → List ℕ) (once : IsDrawnOnce drawn old)
      (fresh : (p : ℕ) (b : Intent) → (standing_of p old).intent ≡ Some b → drawn b ≢ drawn intent) where
    before : (p : ℕ) (a : Intent) → (me == p) ≡ false → (standing_of p new).intent ≡ Some a → (standing_of p old).intent ≡ Some a
    before p a apart has = sym (ap (λ s. s.intent) (stands_same p apart)) ∙ has

    mine : (p : ℕ) (a : Intent) → (me == p) ≡ true → (standing_of p new).intent ≡ Some a → a ≡ intent
    mine p a same has = same_intents a intent (sym has ∙ subst (λ (q : ℕ). (standing_of q new).intent ≡ Some intent) (same_number me p same) began)

    once_after : IsDrawnOnce drawn new
    once_after p q a b x y same = by (me == p) (me == q) refl refl
      where
        by : (c d : Bool) → (me == p) ≡ c → (me == q) ≡ d → p ≡ q
        by true true first second = sym (same_number me p first) ∙ same_number me q second
        by true false first second = absurd (fresh q b (before q b second y) (sym same ∙ ap drawn (mine p a first x)))
        by false true first second = absurd (fresh p a (before p a first x) (same ∙ ap drawn (mine q b second y)))
        by false false first second = once p q a b (before p a first x) (before q b second y) same

  -- so the whole is lawful
  pub lawful_by : (draw : Draw) (intent : Intent) → HasDraw draw intent → IsNewDraw draw old → (standing_of me new).intent ≡ Some intent → IsRun new → Conforms me new → IsConforming new
  lawful_by draw intent its fresh began run own = record {
    run = run;
    rules = rules_after own;
    identities = once_after intent began (λ i. pod_text i.draw.bytes) conforming.identities (λ p b has same. fresh.identity p b has (same ∙ its.identity));
    tokens = once_after intent began (λ i. i.token) conforming.tokens (λ p b has same. fresh.token p b has (same ∙ its.token));
  }

module _ (task : Task) (now : ℕ) (draw : Draw) (old new : Outside) (o : CommandOutcome) (t : old.observed ≡ true) (quiet : Quiet old.dir.process old.dir.trace new.dir.trace) (conforming : IsConforming old.dir.trace) where
  abbrev me : ℕ
  me = old.dir.process

  -- it has its own intent in the end
  began_so : (intent : Intent) → InProcess task now draw intent old new o → (standing_of me new.dir.trace).intent ≡ Some intent
  began_so intent s =
      let looked : Extends (λ r. not (is_begin r)) me (s.begins t).first s.begun.dir.trace = extends_wider (λ r h. lists_no_begin r (look_lists (approach_in task) r h)) (look_extends (approach_in task) (s.begins t).looks) in
      began_since me old.dir.trace (s.begins t).first new.dir.trace intent (s.begins t).begins (quiet_first s t quiet)
      (and_more (and_more looked refl (extends_wider (asks_no_begin task now draw) (act_part s t))) refl (finish_part s t (λ r. not (is_begin r)) refl))

  lawful_process : (intent : Intent) → intent_of task now draw ≡ Some intent → IsNewDraw draw old.dir.trace → InProcess task now draw intent old new o → IsConforming new.dir.trace
  lawful_process intent said fresh s =
      lawful_by me old.dir.trace new.dir.trace quiet conforming draw intent (its_draw task now draw intent said) fresh (began_so intent s) (s.finishes t).run (performed_keeps task now draw old new o t (Some intent) (inl s) (conforming.rules me))

  -- a begin that was refused leaves all as it was
  stands_refused : (intent : Intent) → NeverBegan intent old new o → (p : ℕ) → standing_of p new.dir.trace ≡ standing_of p old.dir.trace
  stands_refused intent n p = by (me == p) refl
    where
      by : (b : Bool) → (me == p) ≡ b → standing_of p new.dir.trace ≡ standing_of p old.dir.trace
      by true same = subst (λ (q : ℕ). standing_of q new.dir.trace ≡ standing_of q old.dir.trace) (same_number me p same) (sym (standing_is me new.dir.trace) ∙ (ap (λ s. s.standing) (refused_unseen (n.step t)) ∙ standing_is me old.dir.trace))
      by false apart = stands_same me old.dir.trace new.dir.trace quiet conforming p apart

  once_still : (intent : Intent) → NeverBegan intent old new o → (drawn : Intent → List ℕ) → IsDrawnOnce drawn old.dir.trace → IsDrawnOnce drawn new.dir.trace
  once_still intent n drawn once p q a b x y same = once p q a b (sym (ap (λ s. s.intent) (stands_refused intent n p)) ∙ x) (sym (ap (λ s. s.intent) (stands_refused intent n q)) ∙ y) same

  pub lawful_refused : (intent : Intent) → NeverBegan intent old new o → IsConforming new.dir.trace
  lawful_refused intent n = record {
    run = (n.step t).run;
    rules = rules_after me old.dir.trace new.dir.trace quiet conforming (performed_keeps task now draw old new o t (Some intent) (inr n) (conforming.rules me));
    identities = once_still intent n (λ i. pod_text i.draw.bytes) conforming.identities;
    tokens = once_still intent n (λ i. i.token) conforming.tokens;
  }

  lawful_performed : (intent : Option Intent) → intent_of task now draw ≡ intent → IsNewDraw draw old.dir.trace → Performs task now draw intent old new o → IsConforming new.dir.trace
  lawful_performed None said fresh p = subst (λ (d : DirAt). IsConforming d.trace) (sym p.dir) conforming
  lawful_performed (Some intent) said fresh (inl s) = lawful_process intent said fresh s
  lawful_performed (Some intent) said fresh (inr n) = lawful_refused intent n

pub stays_lawful : {task : Task} {now : ℕ} {draw : Draw} {old new : Moment} {status : ℕ} → IsRunOfTask task now draw old new status → old.outside.observed ≡ true → StaysLawful draw old.outside.dir new.outside.dir
stays_lawful {task} {now} {draw} {old} {new} {status} run t quiet conforming fresh = by run.ran
  where
    by : RunsTaskOrNothing task now draw old new run.plain → IsConforming new.outside.dir.trace
    by (inr n) = subst (λ (x : Outside). IsConforming x.dir.trace) (sym n.outside) conforming
    by (inl r) = lawful_performed task now draw old.outside new.outside r.outcome t quiet conforming (intent_of task now draw) refl fresh r.performs
