-- What a process owes that came to no task.
use Rattle.std.proofs.Common.{◌≡◌, inl, inr, ℕ, Bool, true, false, not, ◌||◌, List, Some, Err, refl, sym, ap, subst, ◌∙◌}
use Rattle.dir_model.specs.declared.event.Event.{Event}
use Rattle.dir_model.specs.declared.intent.Draw.{Draw}
use Rattle.dir_model.specs.declared.intent.Intent.{Intent}
use Rattle.dir_model.specs.declared.request.Request.{Request}
use Rattle.dir_model.specs.declared.request.Request.TheVariants.{Begin, Finish}
use Rattle.dir_model.specs.declared.request.Reply.TheVariants.{Done}
use Rattle.dir_model.specs.Calls.{Extends, is_begin, is_finish}
use Rattle.dir_model.specs.Causes.{Rose}
use Rattle.dir_model.specs.Quiet.{Quiet, OwnsNothing}
use Rattle.dir_model.specs.Replies.{is_look_at}
use Rattle.dir_model.specs.Trace.{state_after, state_next}
use Rattle.dir_model.proofs.Chains.{and_more, extends_wider, nothing_yet, step_extends, state_after-push}
use Rattle.dir_model.proofs.Quiet.{is_harmless, end_quiet, quiet_within}
use Rattle.dir_rules.specs.Conforms.{Conforms, IsTied, seen_replied}
use Rattle.dir_rules.proofs.Tied.{tied_call}
use Rattle.dir_trait.specs.Knowledge.{Knows}
use Rattle.dir_trait.specs.DirCalls.{DirAt}
use Rattle.lifecycle.specs.Executions.{IsConforming}
use Rattle.phase_read.specs.declared.found.LookError.{LookError}
use Rattle.pod_lookup.specs.Choice.{sequential_resolve}
use Rattle.pod_lookup.proofs.QuietLook.{lists_harmless}
use Rattle.command_outcomes.specs.declared.refusal.Refusal.{Refusal}
use Rattle.command_outcomes.specs.declared.refusal.Refusal.TheVariants.{NoMemory}
use Rattle.command_outcomes.specs.Conforming.{seen_at_begin, KeepsConforming}
use Rattle.command_outcomes.specs.Moments.{Outside}
use Rattle.command_outcomes.proofs.Seen.{rose_wider}
use Rattle.commands.specs.NextState.{LeavesAll, is_nowhere}
use Rattle.commands.specs.Opening.{looks_by, approach_of, Looks, opens}
use Rattle.commands.proofs.Changes.{looks_change}
use Rattle.commands.proofs.NextState.{leaves_beside}
use Rattle.commands.proofs.OwnSteps.{in_process, whole_process}
use Rattle.commands.proofs.Starts.{look_extends, look_lists}
use Rattle.rkt_cli.specs.declared.line.Line.{Line}
use Rattle.rkt_cli.specs.Histories.{IsNewDraw, StaysLawful}
use Rattle.rkt_cli.specs.Lookups.{LookedInVain, NeverReachedItsPod}
use Rattle.rkt_cli.specs.Tasks.{ImageList}
use Rattle.rkt_cli.proofs.Conforming.{performed_keeps}
use Rattle.rkt_cli.proofs.Lawful.{HasDraw, began_since, its_draw, lawful_by, lawful_refused, lists_no_begin}
use Rattle.rkt_cli.proofs.Sessions.{any_call, began_alone, held_nothing}
use Rattle.rkt_cli.specs.Commands.{any_task}

-- a look in vain, in parts
module _ {observed : Bool} {word : List ℕ} {intent : Intent} {old new : DirAt} {refusal : Refusal} (v : LookedInVain observed word intent old new refusal) (t : observed ≡ true) where
  abbrev me : ℕ
  me = old.process

  looked : Looks (approach_of word) me v.begun.trace v.looked.trace
  looked = subst (λ (p : ℕ). Looks (approach_of word) p v.begun.trace v.looked.trace) v.me (v.comes.looks t)

  first_part : (asked : Request → Bool) → asked (Begin intent) ≡ true → Extends asked me old.trace v.begun.trace
  first_part asked is = step_extends asked me old.trace (Begin intent) Done v.begun.trace is (v.begins t)

  pub look_part : Extends (looks_by (approach_of word)) me v.begun.trace v.looked.trace
  look_part = look_extends (approach_of word) looked

  pub last_part : (asked : Request → Bool) → asked Finish ≡ true → Extends asked me v.looked.trace new.trace
  last_part asked is = step_extends asked me v.looked.trace Finish Done new.trace is (v.finishes t)

  pub vain_extends : (asked : Request → Bool) → asked (Begin intent) ≡ true → ((r : Request) → looks_by (approach_of word) r ≡ true → asked r ≡ true) → asked Finish ≡ true → Extends asked me old.trace new.trace
  vain_extends asked begins looks finishes = and_more (and_more (first_part asked begins) refl (extends_wider looks look_part)) refl (last_part asked finishes)

  -- it keeps the local rules
  vain_knows : Knows v.looked (seen_at_begin intent)
  vain_knows = v.comes.knows t intent (v.knew t)

  pub vain_keeps : Conforms me new.trace
  vain_keeps =
      let tied : IsTied me v.looked.trace (seen_at_begin intent) = subst (λ (p : ℕ). IsTied p v.looked.trace (seen_at_begin intent)) (v.comes.same ∙ v.me) vain_knows.tied in
      let after : IsTied me new.trace (seen_replied (seen_at_begin intent) Finish Done) = tied_call tied refl refl refl (v.finishes t) in
      after.conforms refl

  -- where nobody else steps
  module _ (quiet : Quiet me old.trace new.trace) where
    any_first : Extends any_call me old.trace v.begun.trace
    any_first = first_part any_call refl

    any_look : Extends any_call me v.begun.trace v.looked.trace
    any_look = extends_wider (λ r h. refl) look_part

    any_last : Extends any_call me v.looked.trace new.trace
    any_last = last_part any_call refl

    pub vain_first : Quiet me old.trace v.begun.trace
    vain_first = quiet_within quiet (nothing_yet {asks = any_call}) (and_more any_look refl any_last) any_first.more any_first.grown

    vain_look : Quiet me v.begun.trace v.looked.trace
    vain_look = quiet_within quiet any_first any_last any_look.more any_look.grown

    vain_idle : OwnsNothing me (state_after old.trace).namespace
    vain_idle = held_nothing me old.trace v.begun.trace intent (v.begins t) vain_first

    pub vain_began : (draw : Draw) → HasDraw draw intent → IsConforming old.trace → IsNewDraw draw old.trace → IsConforming new.trace
    vain_began draw its conforming fresh =
        let off : Request → Bool = λ r. not (is_begin r) in
        let rest : Extends off me v.begun.trace new.trace = and_more (extends_wider (λ r h. lists_no_begin r (look_lists (approach_of word) r h)) look_part) refl (last_part off refl) in
        lawful_by me old.trace new.trace quiet conforming draw intent its fresh (began_since me old.trace v.begun.trace new.trace intent (v.begins t) vain_first rest) (v.finishes t).run vain_keeps

    -- what its word means in the state before
    pub vain_meaning : (error : LookError) → (Quiet v.begun.process v.begun.trace v.looked.trace → OwnsNothing v.begun.process (state_after v.begun.trace).namespace → Err error ≡ sequential_resolve (state_after v.begun.trace) word) →
        sequential_resolve (state_after old.trace) word ≡ Err error
    vain_meaning error told =
        let here : state_after v.begun.trace ≡ state_next (state_after old.trace) (event_begun) = ap state_after (began_alone me old.trace v.begun.trace intent (v.begins t) vain_first) ∙ state_after-push old.trace event_begun in
        let owns : OwnsNothing me (state_after v.begun.trace).namespace = subst (λ s. OwnsNothing me s.namespace) (sym here) vain_idle in
        let same : Err error ≡ sequential_resolve (state_after v.begun.trace) word =
        told (subst (λ (p : ℕ). Quiet p v.begun.trace v.looked.trace) (sym v.me) vain_look) (subst (λ (p : ℕ). OwnsNothing p (state_after v.begun.trace).namespace) (sym v.me) owns) in
        sym (same ∙ ap (λ s. sequential_resolve s word) here)
      where
        event_begun : Event
        event_begun = record { process = me; request = Begin intent; reply = Done }

    -- and it leaves all as it was
    pub vain_leaves : LeavesAll me (state_after old.trace) (state_after new.trace)
    vain_leaves =
        let whole : Extends (in_process (is_look_at (λ spot. false))) me old.trace new.trace =
        whole_process (and_more (first_part opens refl) refl (extends_wider (λ r h. ap (λ b. b || is_begin r) (look_lists (approach_of word) r h)) look_part)) (nothing_yet {asks = is_look_at (λ spot. false)}) (last_part is_finish refl) in
        let same = end_quiet (vain_extends is_harmless refl (λ r h. lists_harmless r (look_lists (approach_of word) r h)) refl) quiet vain_idle in
        record {
          same = record { folders = same.folders; owned = same.owned };
          beside = leaves_beside is_nowhere (is_look_at (λ spot. false)) (looks_change (λ spot. false)) whole quiet;
        }

-- a fault of the directory during the look
pub vain_rose : {observed : Bool} {word : List ℕ} {intent : Intent} {old new : DirAt} {refusal : Refusal} (v : LookedInVain observed word intent old new refusal) → Rose v.begun.faults v.looked.faults → Rose old.faults new.faults
vain_rose {observed} {word} {intent} {old} {new} v rose = rose_wider old.faults v.begun.faults v.looked.faults new.faults v.risen rose v.faults

module _ (line : Line) (now : ℕ) (draw : Draw) {old new : Outside} {refusal : Refusal} (why : NeverReachedItsPod line now draw old new refusal) (t : old.observed ≡ true) where
  pub never_keeps : KeepsConforming old.dir new.dir
  never_keeps before = by why
    where
      by : NeverReachedItsPod line now draw old new refusal → Conforms old.dir.process new.dir.trace
      by (inl x) = subst (λ (d : DirAt). Conforms old.dir.process d.trace) (sym x.1) before
      by (inr (inl x)) = performed_keeps ImageList now draw old new (Err NoMemory) t (Some x.0) (inr x.3) before
      by (inr (inr x)) = vain_keeps x.4 t

  pub never_lawful : StaysLawful draw old.dir new.dir
  never_lawful quiet conforming fresh = by why
    where
      by : NeverReachedItsPod line now draw old new refusal → IsConforming new.dir.trace
      by (inl x) = subst (λ (d : DirAt). IsConforming d.trace) (sym x.1) conforming
      by (inr (inl x)) = lawful_refused ImageList now draw old new (Err NoMemory) t quiet conforming x.0 x.3
      by (inr (inr x)) = vain_began x.4 t quiet draw (its_draw (any_task line) now draw x.2 x.3) conforming fresh
