-- What is asked of the listener: from the command to its process, and to the run.
use Rattle.std.proofs.Common.{◌≡◌, inl, inr, ℕ, Bool, true, false, List, [], Option, Some, None, Result, Ok, Err, IfErr, IfOk, IsErrOf, refl, sym, ap, subst, ◌∙◌}
use Rattle.dir_model.specs.declared.intent.Draw.{Draw}
use Rattle.dir_model.specs.declared.intent.Intent.{Intent}
use Rattle.dir_model.specs.declared.intent.Kind.TheVariants as kind
use Rattle.dir_model.specs.declared.event.Event.{Event}
use Rattle.dir_model.specs.declared.pod.PodId.{PodId}
use Rattle.dir_model.specs.declared.request.Request.TheVariants.{Begin, Finish}
use Rattle.dir_model.specs.declared.request.Reply.TheVariants.{Done}
use Rattle.dir_model.specs.Calls.{CallStep}
use Rattle.dir_trait.specs.DirCalls.{DirAt, DirCall}
use Rattle.listener.specs.Connections.{ListenerAt}
use Rattle.metadata.specs.Service.{Served, ServesAt}
use Rattle.phase_read.specs.declared.found.LookError.{LookError}
use Rattle.phase_read.specs.declared.found.LookError.TheVariants as lookup
use Rattle.command_outcomes.specs.declared.refusal.Refusal.{Refusal}
use Rattle.command_outcomes.specs.declared.refusal.Refusal.TheVariants.{LinkFault, NoMemory}
use Rattle.command_outcomes.specs.declared.told.Told.{Told}
use Rattle.command_outcomes.specs.Texts.{exit_status_of}
use Rattle.command_outcomes.specs.Moments.{Answer, Outside, CommandOutcome, SinkSeen, is_well, outcome_of}
use Rattle.commands.specs.Command.{intent_for}
use Rattle.commands.specs.MetadataService.{ServesAs, service_outcome, service_refusal}
use Rattle.demo_line.specs.Numbers.{demo_line}
use Rattle.rkt_cli.specs.declared.line.Line.{Line}
use Rattle.rkt_cli.specs.declared.line.Line.TheVariants as line
use Rattle.rkt_cli.specs.Commands.{intent_in, may}
use Rattle.rkt_cli.specs.DemoCommand.{EndsDemo}
use Rattle.rkt_cli.specs.Links.{LinksBetween, LinksIn, LinksOf, service_answer, service_status}
use Rattle.rkt_cli.specs.Lookups.{ComesToPod, FindsPodByWord, lookup_refusal}
use Rattle.rkt_cli.specs.Runs.{CommandRan, End, Printed, end_of_writing, status_at}
use Rattle.rkt_cli.specs.Tasks.{task_of, takes_links, pod_word_of}
use Rattle.rkt_cli.proofs.Acting.{refused_status}
use Rattle.rkt_cli.proofs.Causes.{refused_answer}
use Rattle.rkt_cli.proofs.Ends.{absurd_number, from_command}
use Rattle.rkt_cli.proofs.Lawful.{same_intents}

-- ---- a command

-- none but the service says that the listener failed
link_none : (l : Line) (pod : PodId) {X : Type 0} → takes_links l ≡ false → may (task_of l pod) LinkFault ≡ true → X
link_none (line.Metadata address count) pod none own = let clash : true ≡ false = none in cc
link_none l pod none own = let clash : false ≡ true = own in cc

pub no_link : (l : Line) (pod : PodId) (now : ℕ) (draw : Draw) (old new : Outside) (answer : Answer) {X : Type 0} → takes_links l ≡ false → CommandRan (task_of l pod) now draw old new (outcome_of answer) → IsErrOf answer LinkFault → X
no_link l pod now draw old new answer none ran is = link_none l pod none (subst (λ (o : CommandOutcome). IfErr o (λ r. may (task_of l pod) r ≡ true)) (ap outcome_of is) ran.refusals)

-- or asks anything of it
pub links_same : (l : Line) (draw : Draw) (answer : Answer) (x : ListenerAt) (a b : DirAt) → takes_links l ≡ false → LinksBetween l draw answer x x a b
links_same (line.Metadata address count) draw answer x a b none = let clash : true ≡ false = none in cc
links_same l draw answer x a b none = refl

abbrev told_of : List ℕ → Bool → Answer
told_of t b = Ok (record { text = t; well = b })

answer_is : (served : Served) (answer : Answer) → outcome_of answer ≡ service_outcome served → is_well answer ≡ true → answer ≡ service_answer served
answer_is (Ok done) (Ok told) is well =
    let text : told.text ≡ [] = (let e : ◌≡◌ {A = CommandOutcome} (Ok told.text) (Ok []) = is in cc) in
    ap (λ (t : List ℕ). told_of t told.well) text ∙ ap (λ (b : Bool). told_of [] b) well
answer_is (Ok done) (Err r) is well = let e : ◌≡◌ {A = CommandOutcome} (Err r) (Ok []) = is in cc
answer_is (Err e) answer is well = refused_answer answer (service_refusal e) is

-- the service
pub links_served : (l : Line) (draw : Draw) (address said : List ℕ) (count : ℕ) (o : CommandOutcome) (answer : Answer) (old new : ListenerAt) (a b : DirAt) → l ≡ line.Metadata address count → said ≡ address → outcome_of answer ≡ o → is_well answer ≡ true →
    ServesAs draw.key said count o old new a b → LinksBetween l draw answer old new a b
links_served l draw address said count o answer old new a b is same_address same well x =
    subst (λ (y : Line). LinksBetween y draw answer old new a b) (sym is)
    (x.0, answer_is x.0 answer (same ∙ x.1) well, subst (λ (z : List ℕ). ServesAt draw.key z count x.0 old new a b) same_address x.2)

-- ---- its process

module _ (observed : Bool) (l : Line) (now : ℕ) (draw : Draw) (intent : Intent) (a b m : DirAt) (said : intent_in l now draw ≡ Some intent) (begins : DirCall observed a (Begin intent) Done b)
    (comes : ComesToPod observed (pod_word_of l) b m) (t : observed ≡ true) where
  -- its command was performed, and it finished
  pub links_whole : (c d : DirAt) (answer : Answer) (old new : ListenerAt) → c.process ≡ m.process → DirCall observed c Finish Done d → LinksBetween l draw answer old new m c → LinksOf l now draw answer old new a d
  links_whole c d answer old new same finish x = by l said comes x
    where
      by : (k : Line) → intent_in k now draw ≡ Some intent → ComesToPod observed (pod_word_of k) b m → LinksBetween k draw answer old new m c → LinksOf k now draw answer old new a d
      by (line.Metadata address count) its came x =
          let mine : m.process ≡ a.process = came.same ∙ begins.same in
          let is : intent ≡ intent_for kind.Metadata [] now draw = sym (same_intents (intent_for kind.Metadata [] now draw) intent its) in
          let began : CallStep a.process a.trace (Begin (intent_for kind.Metadata [] now draw)) Done m.trace =
          subst (λ (i : Intent). CallStep a.process a.trace (Begin i) Done m.trace) is (subst (λ (h : List Event). CallStep a.process a.trace (Begin intent) Done h) (sym (came.looks t)) (begins.step t)) in
          inl (
            x.0,
            x.1,
            record {
              begun = m;
              ended = c;
              me = mine;
              begins = began;
              serves = x.2;
              finishes = subst (λ (p : ℕ). CallStep p c.trace Finish Done d.trace) (same ∙ mine) (finish.step t);
            },
          )
      by k its came x = x

-- it couldn't begin
pub links_never : (l : Line) (now : ℕ) (draw : Draw) (x : ListenerAt) (a b : DirAt) → LinksOf l now draw (Err NoMemory) x x a b
links_never (line.Metadata address count) now draw x a b = inr (refl, refl)
links_never l now draw x a b = refl

-- it found no pod, which the service doesn't look for
pub links_vain : (observed : Bool) (l : Line) (now : ℕ) (draw : Draw) (refusal : Refusal) (b m : DirAt) (x : ListenerAt) (a d : DirAt) → FindsPodByWord observed (pod_word_of l) draw b m (Err refusal) → LinksOf l now draw (Err refusal) x x a d
links_vain observed (line.Metadata address count) now draw refusal b m x a d vain = cc
links_vain observed l now draw refusal b m x a d vain = refl

no_link_found : (e : LookError) {X : Type 0} → lookup_refusal e ≡ LinkFault → X
no_link_found lookup.NoPod is = cc
no_link_found (lookup.Ambiguous first second) is = cc
no_link_found lookup.DirFault is = cc
no_link_found lookup.NoMemory is = cc

pub vain_link : (observed : Bool) (word : Option (List ℕ)) (draw : Draw) (b m : DirAt) (refusal : Refusal) {X : Type 0} → FindsPodByWord observed word draw b m (Err refusal) → IsErrOf {T = Told} (Err refusal) LinkFault → X
vain_link observed None draw b m refusal vain is = cc
vain_link observed (Some word) draw b m refusal vain is = no_link_found vain.error (sym vain.is ∙ (let same : refusal ≡ LinkFault = cc in same))

-- it needs no process
pub links_apart : (l : Line) (now : ℕ) (draw : Draw) (answer : Answer) (old new : ListenerAt) (a b : DirAt) → intent_in l now draw ≡ None → LinksBetween l draw answer old new a b → LinksOf l now draw answer old new a b
links_apart (line.Metadata address count) now draw answer old new a b none x = cc
links_apart l now draw answer old new a b none x = x

-- the demo
pub links_demo : (l : Line) (count : ℕ) (now : ℕ) (draw : Draw) (answer : Answer) (x : ListenerAt) (a b : DirAt) → l ≡ line.Demo count → LinksOf l now draw answer x x a b
links_demo l count now draw answer x a b is = subst (λ (y : Line). LinksOf y now draw answer x x a b) (sym is) refl

pub demo_link : (count : ℕ) (answer : Answer) {X : Type 0} → EndsDemo count (outcome_of answer) → IsErrOf answer LinkFault → X
demo_link count answer (inl e) is = let clash : ◌≡◌ {A = CommandOutcome} (Err LinkFault) (Ok (demo_line count)) = sym (ap outcome_of is) ∙ e in cc
demo_link count answer (inr e) is = let clash : ◌≡◌ {A = CommandOutcome} (Err LinkFault) (Err NoMemory) = sym (ap outcome_of is) ∙ e in cc

-- ---- the run

abbrev failing : Refusal → End
failing q = Err q

is_link : (r : Refusal) → exit_status_of r ≡ 13 → r ≡ LinkFault
is_link LinkFault is = refl
is_link r is = absurd_number (exit_status_of r) 13 is refl

-- its status is that of the listener's fault for that alone
pub link_answered : (answer : Answer) (end : Result Bool Refusal) (status : ℕ) (old new : SinkSeen) → status ≡ status_at end → Printed (outcome_of answer) old new (end_of_writing end) → status ≡ 13 → IsErrOf answer LinkFault
link_answered answer (Ok true) status old new is printed at = absurd_number 13 0 (sym at ∙ is) refl
link_answered answer (Ok false) status old new is printed at = absurd_number 13 16 (sym at ∙ is) refl
link_answered answer (Err r) status old new is printed at =
    let same : r ≡ LinkFault = is_link r (sym is ∙ at) in
    refused_answer answer LinkFault (from_command (outcome_of answer) old new (Err r) LinkFault printed (ap (λ (q : Refusal). failing q) same) refl)

-- the status of what the service answered
service_ends : (served : Served) (answer : Answer) (end : Result Bool Refusal) (status : ℕ) (old new : SinkSeen) → answer ≡ service_answer served → status ≡ status_at end → Printed (outcome_of answer) old new (end_of_writing end) →
    IfOk answer (λ told. told.text ≡ [] → end ≡ Ok told.well) → status ≡ service_status served
service_ends (Ok done) answer end status old new same is printed empty =
    let over : end ≡ Ok true = subst (λ (x : Answer). IfOk x (λ told. told.text ≡ [] → end ≡ Ok told.well)) same empty refl in
    is ∙ ap status_at over
service_ends (Err e) answer end status old new same is printed empty =
    let over : end_of_writing end ≡ Err (service_refusal e) = (subst (λ (x : Answer). Printed (outcome_of x) old new (end_of_writing end)) same printed).refused.0 in
    is ∙ refused_status end (service_refusal e) over

pub links_run : (l : Line) (now : ℕ) (draw : Draw) (answer : Answer) (end : Result Bool Refusal) (status : ℕ) (out out' : SinkSeen) (old new : ListenerAt) (a b : DirAt) → status ≡ status_at end →
    Printed (outcome_of answer) out out' (end_of_writing end) → IfOk answer (λ told. told.text ≡ [] → end ≡ Ok told.well) → LinksOf l now draw answer old new a b → LinksIn (Some l) now draw status old new a b
links_run (line.Metadata address count) now draw answer end status out out' old new a b is printed empty (inl x) = inl (x.0, service_ends x.0 answer end status out out' x.1 is printed empty, x.2)
links_run (line.Metadata address count) now draw answer end status out out' old new a b is printed empty (inr x) =
    let over : end_of_writing end ≡ Err NoMemory = (subst (λ (y : Answer). Printed (outcome_of y) out out' (end_of_writing end)) x.0 printed).refused.0 in
    inr (is ∙ refused_status end NoMemory over, x.1)
links_run l now draw answer end status out out' old new a b is printed empty x = x

-- words of which nothing came
pub unread_links : (now : ℕ) (draw : Draw) (status : ℕ) (x : ListenerAt) (a b : DirAt) (l : Option Line) → l ≡ None → LinksIn l now draw status x x a b
unread_links now draw status x a b None is = refl
unread_links now draw status x a b (Some l) is = cc

pub forgotten_links : (now : ℕ) (draw : Draw) (status : ℕ) (x : ListenerAt) (a b : DirAt) (l : Option Line) → status ≡ 14 → LinksIn l now draw status x x a b
forgotten_links now draw status x a b None is = refl
forgotten_links now draw status x a b (Some (line.Metadata address count)) is = inr (is, refl)
forgotten_links now draw status x a b (Some l) is = refl
