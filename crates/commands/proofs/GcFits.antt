-- Where nobody else steps, what a sweep says of a pod fits the place of its line.
use Rattle.std.proofs.Common.{◌≡◌, ℕ, true, List, refl, sym, ap, ◌∙◌}
use Rattle.std.specs.List.{AllByRecursion}
use Rattle.dir_model.specs.declared.area.Area.{Area}
use Rattle.dir_model.specs.declared.area.Area.TheVariants as area
use Rattle.dir_model.specs.declared.event.Event.{Event}
use Rattle.dir_model.specs.declared.spot.Which.{Which}
use Rattle.dir_model.specs.declared.spot.Which.TheVariants.{Own}
use Rattle.dir_model.specs.Areas.{rank, is_stage}
use Rattle.dir_model.specs.Calls.{Extends}
use Rattle.dir_model.specs.Quiet.{Quiet}
use Rattle.dir_model.proofs.Lists.{and_both, same_self}
use Rattle.dir_rules.specs.Standing.{is_in}
use Rattle.pod_locks.specs.Work.{Grew}
use Rattle.pod_gc.specs.RemovalRequests.{is_garbage_place}
use Rattle.pod_gc.specs.declared.ages.Times.{Times}
use Rattle.pod_gc.specs.declared.line.Deed.{Deed}
use Rattle.pod_gc.specs.declared.line.Deed.TheVariants.{Moved, Deleted, Kept, Busy, BusyGate, Left}
use Rattle.pod_gc.specs.declared.line.GcLine.{GcLine}
use Rattle.pod_gc.specs.Requests.{goes_to, moves_pods, sweeps}
use Rattle.pod_gc.specs.Told.{IsLineOfTurn, TellsShown}
use Rattle.command_outcomes.specs.Meanwhile.{Meanwhile}
use Rattle.commands.specs.Gc.{SweepsByPasses}
use Rattle.commands.specs.RemovalQuiet.{may_say, SaysFitting}
use Rattle.commands.proofs.OwnSteps.{in_process}
use Rattle.commands.proofs.GcLeft.{told_left}
use Rattle.commands.proofs.GcQuiet.{each_shown, each_line}

-- in a garbage place it is the pod's own lock that was busy
abbrev pub BusyByOwn : GcLine → Type 0
BusyByOwn line = (which : Which) → line.deed ≡ Busy which → is_garbage_place line.place ≡ true → which ≡ Own

module _ (times : Times) (lines : List GcLine) {me : ℕ} {old new : List Event} (ext : Extends (in_process (sweeps times.now)) me old new) (quiet : Quiet me old new) (m : Meanwhile (SweepsByPasses times lines) me old new) where
  told_fits : {Can : Type 0} (here : Area) → is_stage here ≡ true → (ls : List GcLine) (a b : List Event) → Grew old a → Grew b new → (t : TellsShown Can times here ls me a b) → (line : GcLine) → IsLineOfTurn Can times here t.names line me t.listed b → SaysFitting line
  told_fits {Can} here stage ls a b to_a from_b t line x pod is = ap (λ (p : Area). may_say p line.deed) x.place_is ∙ by line.deed refl
    where
      by : (d : Deed) → line.deed ≡ d → may_say here line.deed ≡ true
      by (Moved to) deed =
          let c = x.dealt.cause.moved to deed in
          let there : is_in to (goes_to here) ≡ true = ap (λ (p : Area). is_in p (goes_to here)) c.1 ∙ same_self (rank (goes_to here)) in
          ap (may_say here) deed ∙ and_both (moves_pods here) (is_in to (goes_to here)) c.0 there
      by Deleted deed = ap (may_say here) deed ∙ (x.dealt.cause.deleted deed).0
      by (Kept p) deed = ap (may_say here) deed ∙ (x.dealt.cause.kept p deed).0
      by (Busy which) deed = ap (may_say here) deed ∙ x.dealt.let_be.busy which deed
      by BusyGate deed = absurd (x.dealt.cause.gate deed)
      by Left deed =
          let prepared : here ≡ area.Prepared = sym x.place_is ∙ (told_left times lines ext quiet m here stage ls a b to_a from_b t line x pod is deed).0 in
          ap (may_say here) deed ∙ ap (is_in area.Prepared) prepared

  told_own : {Can : Type 0} {here : Area} {names : List (List ℕ)} (a b : List Event) (line : GcLine) → IsLineOfTurn Can times here names line me a b → BusyByOwn line
  told_own {Can} {here} {names} a b line x which deed garbage = x.dealt.let_be.own which deed (ap is_garbage_place (sym x.place_is) ∙ garbage)

  pub gc_own : AllByRecursion BusyByOwn lines
  gc_own = each_line times lines ext quiet m BusyByOwn (λ Can can here names a b to_a from_b line x. told_own a b line x) (λ which deed garbage. cc)

  pub gc_fits : AllByRecursion SaysFitting lines
  gc_fits = each_shown times lines ext quiet m SaysFitting (λ Can can here stage ls a b to_a from_b t line x. told_fits here stage ls a b to_a from_b t line x) (λ pod is. cc)
