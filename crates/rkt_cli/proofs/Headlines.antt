-- With which intent the process of a run begins.
use Rattle.std.proofs.Common.{◌≡◌, inl, inr, ℕ, true, false, Option, Some, None, List, [], append-nil, refl, sym, ap, subst, ◌∙◌}
use Rattle.dir_model.specs.declared.event.Event.{Event}
use Rattle.dir_model.specs.declared.intent.Draw.{Draw}
use Rattle.dir_model.specs.declared.intent.Intent.{Intent}
use Rattle.dir_model.specs.declared.request.Request.{Request}
use Rattle.dir_model.specs.declared.request.Request.TheVariants.{Begin, Finish}
use Rattle.dir_model.specs.Calls.{is_begin, is_finish}
use Rattle.dir_model.proofs.Lists.{not_true}
use Rattle.dir_trait.specs.DirCalls.{DirAt}
use Rattle.headline.specs.Keeping.{BeginsAs}
use Rattle.headline.proofs.Begins.{call_begins, none_begins, begins_then}
use Rattle.pod_lookup.specs.Looks.{lists_stages}
use Rattle.command_outcomes.specs.declared.refusal.Refusal.{Refusal}
use Rattle.command_outcomes.specs.Moments.{Outside, Moment, CommandOutcome}
use Rattle.commands.specs.Opening.{approach_of}
use Rattle.commands.proofs.Starts.{look_extends, look_lists}
use Rattle.rkt_cli.specs.declared.line.Line.{Line}
use Rattle.rkt_cli.specs.Commands.{approach_in, intent_in, intent_of}
use Rattle.rkt_cli.specs.Headlines.{intent_said}
use Rattle.rkt_cli.specs.Lookups.{NeverReachedItsPod}
use Rattle.rkt_cli.specs.Promises.{IsRunOf}
use Rattle.rkt_cli.specs.Runs.{InProcess, Performs, RunsTaskOrNothing}
use Rattle.rkt_cli.specs.Tasks.{Task, task_of}
use Rattle.rkt_cli.proofs.Acting.{same_intent}
use Rattle.rkt_cli.proofs.Lawful.{asks_no_begin, lists_no_begin}
use Rattle.rkt_cli.proofs.Sessions.{act_part, finish_part}
use Rattle.rkt_cli.proofs.Vain.{last_part, look_part}

said_same : {said : Option Intent} (a b : Intent) → said ≡ Some a → ◌≡◌ {A = Request} (Begin a) (Begin b) → said ≡ Some b
said_same a b is same = is ∙ (let one : a ≡ b = cc in ap Some one)

finish_no_begin : (r : Request) → is_finish r ≡ true → is_begin r ≡ false
finish_no_begin Finish h = refl
finish_no_begin r h = cc

no_step : {intent : Option Intent} {me : ℕ} {trace : List Event} → BeginsAs intent me trace trace
no_step {intent} {me} {trace} = record { more = []; grown = sym (append-nil trace); own = tt }

-- a look begins nothing
looks_begin_none : (r : Request) → lists_stages r ≡ true → is_begin r ≡ false
looks_begin_none r h = not_true (is_begin r) (lists_no_begin r h)

module _ (now : ℕ) (draw : Draw) (old new : Outside) (t : old.observed ≡ true) where
  abbrev me : ℕ
  me = old.dir.process

  abbrev Begins : Option Intent → Type 0
  Begins intent = BeginsAs intent me old.dir.trace new.dir.trace

  process_begins : (task : Task) (o : CommandOutcome) (said : Option Intent) (i : Intent) → said ≡ Some i → InProcess task now draw i old new o → Begins said
  process_begins task o said i is s =
      let opening = s.begins t in
      let began = call_begins said me opening.begins (λ j same. said_same i j is same) in
      let looked = none_begins said me (λ r h. looks_begin_none r (look_lists (approach_in task) r h)) (look_extends (approach_in task) opening.looks) in
      let acted = none_begins said me (λ r h. not_true (is_begin r) (asks_no_begin task now draw r h)) (act_part s t) in
      let finished = none_begins said me finish_no_begin (finish_part s t is_finish refl) in
      begins_then said me began (begins_then said me looked (begins_then said me acted finished))

  performed_begins : (task : Task) (o : CommandOutcome) (i : Option Intent) → intent_of task now draw ≡ i → Performs task now draw i old new o → Begins (intent_of task now draw)
  performed_begins task o None is p = subst (λ (d : DirAt). BeginsAs (intent_of task now draw) me old.dir.trace d.trace) (sym p.dir) no_step
  performed_begins task o (Some i) is (inr n) = call_begins (intent_of task now draw) me (n.step t) (λ j same. said_same i j is same)
  performed_begins task o (Some i) is (inl s) = process_begins task o (intent_of task now draw) i is s

  never_begins : (l : Line) (r : Refusal) → NeverReachedItsPod l now draw old new r → Begins (intent_in l now draw)
  never_begins l r (inl x) = subst (λ (d : DirAt). BeginsAs (intent_in l now draw) me old.dir.trace d.trace) (sym x.1) no_step
  never_begins l r (inr (inl x)) = call_begins (intent_in l now draw) me (x.3.step t) (λ j same. said_same x.0 j x.1 same)
  never_begins l r (inr (inr x)) =
      let said = intent_in l now draw in
      let began = call_begins said me (x.4.begins t) (λ j same. said_same x.2 j x.3 same) in
      let looked = none_begins said me (λ q h. looks_begin_none q (look_lists (approach_of x.0) q h)) (look_part x.4 t) in
      let finished = none_begins said me finish_no_begin (last_part x.4 t is_finish refl) in
      begins_then said me began (begins_then said me looked finished)

pub run_begins : (now : ℕ) (draw : Draw) (old new : Moment) (status : ℕ) (l : Option Line) → IsRunOf l now draw old new status → old.outside.observed ≡ true →
    BeginsAs (intent_said l now draw) old.outside.dir.process old.outside.dir.trace new.outside.dir.trace
run_begins now draw old new status None (inl r) t = subst (λ (x : Outside). BeginsAs None old.outside.dir.process old.outside.dir.trace x.dir.trace) (sym r.outside) no_step
run_begins now draw old new status None (inr r) t = subst (λ (x : Outside). BeginsAs None old.outside.dir.process old.outside.dir.trace x.dir.trace) (sym r.outside) no_step
run_begins now draw old new status (Some l) (inr n) t = never_begins now draw old.outside new.outside t l n.refusal n.why
run_begins now draw old new status (Some l) (inl x) t =
    subst (λ (i : Option Intent). BeginsAs i old.outside.dir.process old.outside.dir.trace new.outside.dir.trace) (same_intent l x.0 now draw) (by x.2.ran)
  where
    task : Task
    task = task_of l x.0

    by : RunsTaskOrNothing task now draw old new x.2.plain → BeginsAs (intent_of task now draw) old.outside.dir.process old.outside.dir.trace new.outside.dir.trace
    by (inr n) = subst (λ (y : Outside). BeginsAs (intent_of task now draw) old.outside.dir.process old.outside.dir.trace y.dir.trace) (sym n.outside) no_step
    by (inl r) = performed_begins now draw old.outside new.outside t task r.outcome (intent_of task now draw) refl r.performs
