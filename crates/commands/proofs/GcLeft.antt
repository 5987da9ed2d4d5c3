-- Where nobody else steps, a sweep says that a pod left only of one in prepared that had no manifest before.
use Rattle.std.proofs.Common.{◌≡◌, inl, inr, ℕ, Bool, true, false, cond, codes, Option, Some, None, is_some, List, [], ◌∷◌, ◌++◌, append_assoc, refl, sym, ap, subst, ◌∙◌}
use Rattle.std.specs.List.{AllByRecursion}
use Rattle.dir_model.specs.declared.area.Area.{Area}
use Rattle.dir_model.specs.declared.area.Area.TheVariants as area
use Rattle.dir_model.specs.declared.event.Event.{Event}
use Rattle.dir_model.specs.declared.pod.PodId.{PodId}
use Rattle.dir_model.specs.declared.request.DirError.TheVariants.{Missing}
use Rattle.dir_model.specs.declared.spot.Which.TheVariants.{Claim}
use Rattle.dir_model.specs.Areas.{is_stage}
use Rattle.dir_model.specs.Calls.{Extends}
use Rattle.dir_model.specs.Quiet.{Quiet}
use Rattle.dir_model.specs.Replies.{refused_in, open_refusal}
use Rattle.dir_model.specs.State.{DirState, folder_at, stands}
use Rattle.dir_model.specs.Trace.{state_after}
use Rattle.dir_model.specs.Trees.{has_file}
use Rattle.dir_model.specs.Spots.{pod_spot}
use Rattle.pod_locks.specs.ClaimCauses.{IsPreparedWithoutManifest}
use Rattle.pod_locks.specs.Work.{Grew}
use Rattle.pod_locks.proofs.Traces.{grown_more}
use Rattle.pod_gc.specs.declared.ages.Times.{Times}
use Rattle.pod_gc.specs.declared.line.GcLine.{GcLine}
use Rattle.pod_gc.specs.Requests.{sweeps}
use Rattle.pod_gc.specs.Deeds.{IsGoneFrom}
use Rattle.pod_gc.specs.Told.{IsLineOfTurn, TellsShown}
use Rattle.command_outcomes.specs.Meanwhile.{Meanwhile}
use Rattle.commands.specs.Gc.{SweepsByPasses}
use Rattle.commands.specs.RemovalQuiet.{LeftAsBefore}
use Rattle.commands.proofs.OwnSteps.{in_process, back_from}
use Rattle.commands.proofs.LateTurns.{or_either, sweeps_late, exited_rank, garbage_rank}
use Rattle.commands.proofs.Lacking.{Aside, Lacks, lacks_back}
use Rattle.commands.proofs.GcQuiet.{each_shown}
use Rattle.commands.proofs.GcTurn.{turn_after, turn_before, stood_until, untaken_at}

pub sweeps_aside : (now : ℕ) → Aside (sweeps now)
sweeps_aside now = record {
  late = sweeps_late now;
  files = λ inner is. elim (or_either _ _ is) [ inl x ↦ exited_rank inner.spot.area x | inr x ↦ garbage_rank inner.spot.area x ];
  dirs = λ inner is. elim (or_either _ _ is) [ inl x ↦ exited_rank inner.spot.area x | inr x ↦ garbage_rank inner.spot.area x ];
}

unclaimed : (b : Bool) → cond b None (Some Missing) ≡ Some Missing → b ≡ false
unclaimed true is = cc
unclaimed false is = refl

-- it stands there, and Claim can't be opened
lacks_then : (pod : PodId) (s : DirState) → IsGoneFrom pod area.Prepared s → stands s.namespace (pod_spot pod area.Prepared) ≡ true → IsPreparedWithoutManifest pod s
lacks_then pod s gone there = by (folder_at s.namespace (pod_spot pod area.Prepared)) refl gone there
  where
    by : (o : Option ℕ) → folder_at s.namespace (pod_spot pod area.Prepared) ≡ o → refused_in (open_refusal Claim) s.entries o ≡ Some Missing → is_some o ≡ true → IsPreparedWithoutManifest pod s
    by None at gone there = cc
    by (Some k) at gone there = record { folder = k; there = at; without = unclaimed (has_file s.entries k (codes "pod")) gone }

module _ (times : Times) (lines : List GcLine) {me : ℕ} {old new : List Event} (ext : Extends (in_process (sweeps times.now)) me old new) (quiet : Quiet me old new) (m : Meanwhile (SweepsByPasses times lines) me old new) where
  pub told_left : {Can : Type 0} (here : Area) → is_stage here ≡ true → (ls : List GcLine) (a b : List Event) → Grew old a → Grew b new → (t : TellsShown Can times here ls me a b) → (line : GcLine) → IsLineOfTurn Can times here t.names line me t.listed b → LeftAsBefore old line
  told_left {Can} here stage ls a b to_a from_b t line x pod is deed =
      let same : x.shown ≡ pod = let e : Some x.shown ≡ Some pod = sym x.pod_is ∙ is in cc in
      let first = turn_after stage quiet to_a from_b t x in
      let last = turn_before stage quiet to_a from_b t x in
      let took = x.dealt.let_be.left deed in
      let gone = x.dealt.cause.left deed in
      let stood = stood_until stage quiet to_a from_b t x (grown_more (record { more = took.more; grown = took.grown }) last) in
      let there = untaken_at (sweeps times.now) (sweeps_late times.now) (pod_spot x.shown here) me ext quiet first last took gone stood in
      let then : List Event = gone.before ++ gone.step ∷ [] in
      let to_then : Grew x.from then = record { more = gone.later ++ gone.step ∷ []; grown = ap (λ (h : List Event). h ++ gone.step ∷ []) gone.begins ∙ append_assoc x.from gone.later (gone.step ∷ []) } in
      let from_then : Grew then x.upto = record { more = gone.rest; grown = gone.ends } in
      let found = by here refl (state_after then) gone.holds there in
      let lacks = found.1 in
      let asks = sweeps times.now in
      let aside = sweeps_aside times.now in
      let before = back_from (Lacks asks aside x.shown lacks.folder me) (in_process asks) me (λ s request reply h y. lacks_back asks aside x.shown lacks.folder me s request reply h y) then
      (grown_more first to_then) (grown_more from_then last) ext quiet (lacks.there, lacks.without) in
      let lacked : IsPreparedWithoutManifest x.shown (state_after old) = record { folder = lacks.folder; there = before.0; without = before.1 } in
      (x.place_is ∙ found.0, subst (λ (q : PodId). IsPreparedWithoutManifest q (state_after old)) same lacked)
    where
      by : (p : Area) → here ≡ p → (s : DirState) → IsGoneFrom x.shown p s → stands s.namespace (pod_spot x.shown p) ≡ true → (p ≡ area.Prepared) × IsPreparedWithoutManifest x.shown s
      by area.Prepared at s gone there = (refl, lacks_then x.shown s gone there)
      by p at s gone there = let clash : false ≡ true = sym gone ∙ there in cc

  pub gc_left : AllByRecursion (LeftAsBefore old) lines
  gc_left = each_shown times lines ext quiet m (LeftAsBefore old) (λ Can can here stage ls a b to_a from_b t line x. told_left here stage ls a b to_a from_b t line x) (λ pod is deed. cc)
