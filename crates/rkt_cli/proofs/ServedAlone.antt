-- Where nobody else steps, what a connection of the metadata service is owed is told by the state before.
use Rattle.std.proofs.Common.{◌≡◌, inl, inr, ℕ, List, [], append-nil, Option, Some, None, refl, sym, ap, subst, ◌∙◌}
use Rattle.dir_model.specs.declared.intent.Draw.{Draw}
use Rattle.dir_model.specs.declared.intent.Intent.{Intent}
use Rattle.dir_model.specs.declared.intent.Kind.TheVariants as kind
use Rattle.dir_model.specs.declared.request.Request.TheVariants.{Begin, Finish}
use Rattle.dir_model.specs.declared.request.Reply.TheVariants.{Done}
use Rattle.dir_model.specs.Calls.{Extends, event}
use Rattle.dir_model.specs.Quiet.{Quiet, OwnsNothing, SameNamespace}
use Rattle.dir_model.specs.State.{DirState}
use Rattle.dir_model.specs.Trace.{state_after, state_next}
use Rattle.dir_model.proofs.Chains.{and_more, extends_wider, nothing_yet, state_after-push, step_extends}
use Rattle.dir_model.proofs.Quiet.{end_quiet, is_harmless, quiet_within}
use Rattle.dir_trait.specs.DirCalls.{DirAt}
use Rattle.lifecycle.specs.Executions.{IsConforming}
use Rattle.lifecycle.proofs.Draws.{conforming_left}
use Rattle.listener.specs.Connections.{ListenerAt}
use Rattle.metadata.specs.Service.{Served, ServesAt, ServesThese}
use Rattle.pod_report.proofs.QuietSurvey.{SameWorld, is_calm}
use Rattle.running_views.specs.Laws.{ReadsUndisturbed}
use Rattle.running_views.specs.Replies.{ServesIn}
use Rattle.running_views.proofs.Same.{same_told, serves_same}
use Rattle.running_views.proofs.ServedBefore.{served_before, these_calm}
use Rattle.commands.specs.Command.{intent_for}
use Rattle.rkt_cli.specs.declared.line.Line.{Line}
use Rattle.rkt_cli.specs.declared.line.Line.TheVariants as line
use Rattle.rkt_cli.specs.Links.{LinksIn, ServesInProcess}
use Rattle.rkt_cli.specs.LinksAlone.{LinksByState, ServesAtIn}
use Rattle.rkt_cli.proofs.Sessions.{any_call, began_alone, held_nothing}

module _ {address : List ℕ} {count now : ℕ} {draw : Draw} {served : Served} {old new : ListenerAt} {from upto : DirAt} (x : ServesInProcess address count now draw served old new from upto)
    (quiet : Quiet from.process from.trace upto.trace) (conforming : IsConforming upto.trace) where
  abbrev me : ℕ
  me = from.process

  abbrev intent : Intent
  intent = intent_for kind.Metadata [] now draw

  -- these connections, one after the other
  module _ (results : List Served) (first last : ListenerAt) (these : ServesThese draw.key results first last x.begun x.ended) where
    abbrev begins : Extends any_call me from.trace x.begun.trace
    begins = step_extends any_call me from.trace (Begin intent) Done x.begun.trace refl x.begins

    calm : Extends is_calm me x.begun.trace x.ended.trace
    calm = subst (λ (p : ℕ). Extends is_calm p x.begun.trace x.ended.trace) x.me (these_calm draw.key results first last x.begun x.ended these)

    abbrev finishes : Extends any_call me x.ended.trace upto.trace
    finishes = step_extends any_call me x.ended.trace Finish Done upto.trace refl x.finishes

    quiet_begin : Quiet me from.trace x.begun.trace
    quiet_begin = quiet_within quiet (nothing_yet {asks = any_call}) (and_more (extends_wider {asks = is_calm} {asks' = any_call} (λ r h. refl) calm) refl finishes) begins.more begins.grown

    state_begun : state_after x.begun.trace ≡ state_next (state_after from.trace) (event me (Begin intent) Done)
    state_begun = ap state_after (began_alone me from.trace x.begun.trace intent x.begins quiet_begin) ∙ state_after-push from.trace (event me (Begin intent) Done)

    names : SameNamespace me (state_after from.trace).namespace (state_after x.begun.trace).namespace
    names = end_quiet (step_extends is_harmless me from.trace (Begin intent) Done x.begun.trace refl x.begins) quiet_begin (held_nothing me from.trace x.begun.trace intent x.begins quiet_begin)

    world : SameWorld me (state_after from.trace) (state_after x.begun.trace)
    world = record { names = names; entries = ap (λ (s : DirState). s.entries) state_begun ∙ append-nil _ }

    alone : ReadsUndisturbed x.begun x.ended
    alone = record {
      quiet = subst (λ (p : ℕ). Quiet p x.begun.trace x.ended.trace) (sym x.me) (quiet_within quiet begins finishes calm.more calm.grown);
      idle = subst (λ (p : ℕ). OwnsNothing p (state_after x.begun.trace).namespace) (sym x.me) names.mine;
      conforms = conforming_left x.ended.trace finishes.more (subst IsConforming finishes.grown conforming);
    }

    these_in : ServesIn (state_after from.trace) draw.key results first last
    these_in = serves_same (same_told world) draw.key results first last (served_before draw.key results first last x.begun x.ended alone these)

  served_in : ServesAtIn (state_after from.trace) draw.key address count served old new
  served_in = by x.serves
    where
      by : ServesAt draw.key address count served old new x.begun x.ended → ServesAtIn (state_after from.trace) draw.key address count served old new
      by (inl s) = inl (record {
        bound = s.bound;
        binds = s.binds;
        kept = s.kept;
        results = s.serves.results;
        last = s.serves.last;
        these = these_in s.serves.results s.bound s.serves.last s.serves.these;
        ends = s.serves.ends;
      })
      by (inr r) = inr r.0

pub links_alone : (l : Option Line) (now : ℕ) (draw : Draw) (status : ℕ) (old new : ListenerAt) (from upto : DirAt) → LinksIn l now draw status old new from upto → Quiet from.process from.trace upto.trace → IsConforming upto.trace →
    LinksByState l draw status old new (state_after from.trace)
links_alone None now draw status old new from upto x quiet conforming = x
links_alone (Some (line.Metadata address count)) now draw status old new from upto (inl x) quiet conforming = inl (x.0, x.1, served_in x.2 quiet conforming)
links_alone (Some (line.Metadata address count)) now draw status old new from upto (inr x) quiet conforming = inr x
links_alone (Some l) now draw status old new from upto x quiet conforming = x
