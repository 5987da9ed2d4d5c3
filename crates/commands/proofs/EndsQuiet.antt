-- Where nobody else steps: of a pod that was run to its end by a whole process, the marks and the statuses stand in its folder in the end.
use Rattle.std.proofs.Common.{arith, ◌≡◌, ◌≤◌, ◌⊎◌, inl, inr, ℕ, ◌+◌, Bool, true, false, not, ◌||◌, Some, List, ◌∷◌, ◌++◌, refl, sym, ap, subst, ◌∙◌, append_assoc}
use Rattle.std.specs.List.{AllByRecursion}
use Rattle.plain_laws.proofs.Booleans.{clash}
use Rattle.dir_model.specs.declared.event.Event.{Event}
use Rattle.dir_model.specs.declared.intent.Intent.{Intent}
use Rattle.dir_model.specs.declared.item.Inner.{Inner}
use Rattle.dir_model.specs.declared.pod.PodId.{PodId}
use Rattle.dir_model.specs.declared.spot.Handle.{Handle}
use Rattle.dir_model.specs.declared.request.Request.{Request}
use Rattle.dir_model.specs.declared.request.Request.TheVariants.{Begin, MakeFileIn, Close, Finish}
use Rattle.dir_model.specs.declared.request.Reply.TheVariants.{Done}
use Rattle.dir_model.specs.Calls.{event, is_allowed, is_foreign, is_run_from, Extends, IsRun, CallStep, TookPlace, LeftNothing}
use Rattle.dir_model.specs.Paths.{is_well_formed}
use Rattle.dir_model.specs.Quiet.{Quiet}
use Rattle.dir_model.specs.State.{DirState, empty_state, folder_at, has_begun, has_ended, lives}
use Rattle.dir_model.specs.Trace.{state_after, state_next}
use Rattle.dir_model.proofs.Allowed.{allowed_step, begin_says}
use Rattle.dir_model.proofs.Begun.{begun_stays}
use Rattle.dir_model.proofs.Chains.{and_more, extends_wider, run-left, run_from-right, states_next-append}
use Rattle.dir_model.proofs.Lists.{all_right, and_left, and_right, or_last, same_rest, same_self}
use Rattle.dir_trait.specs.DirCalls.{DirAt}
use Rattle.folder_building.specs.Making.{inner_at}
use Rattle.folder_building.specs.Work.{either}
use Rattle.pod_locks.specs.ClaimRequests.{in_run}
use Rattle.pod_locks.specs.Work.{Grew}
use Rattle.pod_locks.proofs.Traces.{grown_more, grown_call}
use Rattle.commands.proofs.OwnSteps.{in_process}
use Rattle.spawner.specs.Calls.{SpawnerAt}
use Rattle.stage1.specs.declared.end.AppEnd.{AppEnd}
use Rattle.stage1.specs.Runs.{HasRun}
use Rattle.stage1.proofs.Appends.{count, count_more, step_few}
use Rattle.commands.specs.RunQuiet.{HasItsEnds}
use Rattle.commands.proofs.EndsStand.{in_either, are_placed, each_stands}
use Rattle.commands.proofs.NotesStand.{RemovesNothing}
use Rattle.commands.proofs.Passing.{Leaves}
use Rattle.commands.specs.Opening.{Approach, Opens, opens}
use Rattle.commands.proofs.Starts.{open_extends}

-- a process that begins now had not begun before
pub unborn_before : {me : ℕ} {old new : List Event} (intent : Intent) → CallStep me old (Begin intent) Done new → has_begun (state_after old).namespace me ≡ false
unborn_before {me} {old} {new} intent c = by c.own
  where
    back : (b : Bool) → has_begun (state_after old).namespace me ≡ b → has_begun (state_after c.before).namespace me ≡ false → b ≡ false
    back false is none = refl
    back true is none =
        let later : has_begun (state_after c.before).namespace me ≡ true =
        ap (λ (s : DirState). has_begun s.namespace me) (ap state_after c.meanwhile.grown ∙ states_next-append empty_state old c.meanwhile.others) ∙ begun_stays me (state_after old) c.meanwhile.others is in
        clash (has_begun (state_after c.before).namespace me) later none

    by : TookPlace c.before me (Begin intent) Done new ⊎ LeftNothing c.before me (Begin intent) Done new → has_begun (state_after old).namespace me ≡ false
    by (inl took) = back (has_begun (state_after old).namespace me) refl (begin_says (state_after c.before) me intent took.allowed).unborn
    by (inr left) = let e : false ≡ true = left.late in cc

-- what it asks for up to the run of apps makes no file in its pod in run
pub record MakesNoNote (pod : PodId) (early : Request → Bool) : Type 0 where
  pub none : (path : List ℕ) → early (MakeFileIn (inner_at (in_run pod) path)) ≡ false

abbrev pub since_begin : (Request → Bool) → Request → Bool
since_begin early = either opens early

pub early_part : {early : Request → Bool} {me : ℕ} {old c : List Event} (d : DirAt) (approach : Approach) (intent : Intent) → d.process ≡ me → Opens approach intent me old d.trace → Extends early d.process d.trace c → Extends (since_begin early) me old c
early_part {early} {me} {old} {c} d approach intent mine begins ext =
    and_more (extends_wider (λ r is. ap (λ b. b || early r) is) (open_extends begins)) mine (extends_wider (λ r is. or_last (opens r) (early r) is) ext)

module _ (pod : PodId) (asks early : Request → Bool) (l : Leaves (in_run pod) asks) (none : RemovesNothing asks) (e : MakesNoNote pod early) (me : ℕ) (old new : List Event)
    (ext : Extends (in_process asks) me old new) (quiet : Quiet me old new) (run : IsRun new) (unborn : has_begun (state_after old).namespace me ≡ false) where
  -- no note was made before the run
  module _ (c : List Event) (first : Extends (since_begin early) me old c) (path : List ℕ) (b a : List Event) where
    abbrev make : Event
    make = event me (MakeFileIn (inner_at (in_run pod) path)) Done

    not_asked : (xs : List Event) → first.more ≡ xs ++ make ∷ a → ⊥
    not_asked xs is =
        let part = all_right (λ x. (is_foreign me x || since_begin early x.request) ≡ true) xs (make ∷ a) (subst (λ (es : List Event). AllByRecursion (λ x. (is_foreign me x || since_begin early x.request) ≡ true) es) is first.asked) in
        let off : (is_foreign me make || since_begin early (MakeFileIn (inner_at (in_run pod) path))) ≡ false = rw (same_self me, e.none path) refl in
        clash (is_foreign me make || since_begin early (MakeFileIn (inner_at (in_run pod) path))) part.0 off

    not_born : (ys : List Event) → old ≡ b ++ make ∷ ys → ⊥
    not_born ys is =
        let runs : IsRun (b ++ make ∷ ys) = subst IsRun is (run-left old quiet.more (subst IsRun quiet.grown run)) in
        let may = and_left (is_allowed (state_after b) make) (is_run_from (state_next (state_after b) make) ys) (run_from-right empty_state b (make ∷ ys) runs) in
        let step = allowed_step (state_after b) me (MakeFileIn (inner_at (in_run pod) path)) Done may in
        let alive = and_right (is_well_formed (MakeFileIn (inner_at (in_run pod) path))) (lives (state_after b).namespace me) step in
        let born = begun_stays me (state_after b) (make ∷ ys) (and_left (has_begun (state_after b).namespace me) (not (has_ended (state_after b).namespace me)) alive) in
        let there : has_begun (state_after old).namespace me ≡ true = ap (λ (s : DirState). has_begun s.namespace me) (ap state_after is ∙ states_next-append empty_state b (make ∷ ys)) ∙ born in
        clash (has_begun (state_after old).namespace me) there unborn

    unmade : c ≡ b ++ make ∷ a → ⊥
    unmade is = elim (in_either old first.more b make a (sym first.grown ∙ is)) [ inl x ↦ not_asked x.0 x.1 | inr x ↦ not_born x.0 x.1 ]

  pub ran_ends : {seen observed : Bool} → seen ≡ true → (own : Handle) (address : List ℕ) (ends : List AppEnd) (c d' : DirAt) (s s' : SpawnerAt) → c.process ≡ me → d'.process ≡ me → Extends (since_begin early) me old c.trace → Grew c.trace d'.trace →
      CallStep me d'.trace Finish Done new → HasRun seen observed pod own address ends c d' s s' → (k : ℕ) → folder_at (state_after new).namespace (in_run pod) ≡ Some k → HasItsEnds pod ends new
  ran_ends t own address ends c d' s s' begins stays first then finish r k there =
      let mine : r.before.process ≡ me = sym r.closed.same ∙ stays in
      let z = grown_more then (grown_call finish) in
      let later = grown_more (grown_call (r.closed.step t)) (grown_call finish) in
      let whole : new ≡ old ++ (first.more ++ z.more) = z.grown ∙ (ap (λ (h : List Event). h ++ z.more) first.grown ∙ append_assoc old first.more z.more) in
      let its = all_right (λ x. x.process ≡ me) first.more z.more (subst (λ (es : List Event). AllByRecursion (λ x. x.process ≡ me) es) (same_rest old quiet.more (first.more ++ z.more) (sym quiet.grown ∙ whole)) quiet.own) in
      let asked = all_right (λ x. (is_foreign me x || in_process asks x.request) ≡ true) first.more z.more
      (subst (λ (es : List Event). AllByRecursion (λ x. (is_foreign me x || in_process asks x.request) ≡ true) es) (same_rest old ext.more (first.more ++ z.more) (sym ext.grown ∙ whole)) ext.asked) in
      let read = (r.ran.loads t).found in
      let few : (i : Inner) → count me i z.more ≤ 1 =
      λ i.
      let all : count me i new ≡ count me i c.trace + count me i z.more = ap (count me i) z.grown ∙ count_more me i c.trace z.more in
      let ran : count me i r.before.trace ≤ count me i c.trace + 1 =
      subst (λ (p : ℕ). count p i r.before.trace ≤ count me i c.trace + 1) mine (subst (λ (p : ℕ). count r.before.process i r.before.trace ≤ count p i c.trace + 1) begins (r.ran.once t i)) in
      let closed : count me i d'.trace ≤ count me i r.before.trace + 0 = step_few me i (subst (λ (p : ℕ). CallStep p r.before.trace (Close own) Done d'.trace) mine (r.closed.step t)) in
      let ended : count me i new ≤ count me i d'.trace + 0 = step_few me i finish in
      omega (arith, all, ran, closed, ended) in
      record {
        folder = k;
        there = there;
        each = each_stands pod asks l none me c.trace new z.more z.grown run its asked k there few (λ path b a is. unmade c.trace first path b a is) r.before mine later.more later.grown
            r.ran.starts r.ran.ran.statuses ends (are_placed pod address read.token read.manifest.apps read.found.roots r.ran.starts read.found.are) r.ran.ran.are (r.ran.ran.marked t) (r.ran.ran.wrote t);
      }
