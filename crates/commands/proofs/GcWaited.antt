-- Where nobody else steps, a sweep lets a prepared pod wait, or moves it, by the marks that stood in its folder before.
use Rattle.std.proofs.Common.{◌≡◌, inl, inr, ◌||◌, ◌&&◌, ◌==◌, ℕ, Bool, true, false, bytes_eq, codes, Option, Some, List, [], ◌∷◌, ◌++◌, refl, sym, ap, subst, ◌∙◌}
use Rattle.std.specs.List.{AllByRecursion}
use Rattle.plain_laws.proofs.Booleans.{or_nothing}
use Rattle.dir_model.specs.declared.area.Area.{Area}
use Rattle.dir_model.specs.declared.area.Area.TheVariants as area
use Rattle.dir_model.specs.declared.event.Event.{Event}
use Rattle.dir_model.specs.declared.item.Inner.{Inner}
use Rattle.dir_model.specs.declared.item.Item.{Item}
use Rattle.dir_model.specs.declared.pod.PodId.{PodId}
use Rattle.dir_model.specs.declared.spot.Spot.{Spot}
use Rattle.dir_model.specs.declared.request.Request.{Request}
use Rattle.dir_model.specs.declared.request.Request.TheVariants.{MakeDirIn, MakeFileIn, AppendIn, RemoveFileIn, RemoveDirIn}
use Rattle.dir_model.specs.declared.request.Reply.{Reply}
use Rattle.dir_model.specs.Areas.{rank, is_stage}
use Rattle.dir_model.specs.Calls.{event, is_kill, Extends, AtOwnStep}
use Rattle.dir_model.specs.Pods.{pod_text}
use Rattle.dir_model.specs.Quiet.{Quiet}
use Rattle.dir_model.specs.State.{DirState, spot_eq, folder_at, stands}
use Rattle.dir_model.specs.Trace.{state_after, state_next}
use Rattle.dir_model.specs.Trees.{items_in}
use Rattle.dir_model.proofs.Lists.{and_left, all_weaker}
use Rattle.dir_rules.specs.Standing.{is_in}
use Rattle.dir_model.specs.Spots.{pod_spot}
use Rattle.pod_locks.specs.Work.{Grew}
use Rattle.pod_locks.proofs.Traces.{grown_more}
use Rattle.pod_locks.specs.Causes.{IsAbsentAt}
use Rattle.pod_gc.specs.declared.ages.Times.{Times}
use Rattle.pod_gc.specs.declared.line.Deed.TheVariants.{Left}
use Rattle.pod_gc.specs.declared.line.GcLine.{GcLine}
use Rattle.pod_gc.specs.Deeds.{is_tried, ShowedAge, WaitedByAge, WaitsBy}
use Rattle.pod_gc.specs.Ages.{moment_among, Showed, is_ripe}
use Rattle.pod_gc.specs.Requests.{sweeps}
use Rattle.pod_gc.specs.Told.{IsLineOfTurn, TellsShown}
use Rattle.command_outcomes.specs.Meanwhile.{Meanwhile}
use Rattle.commands.specs.Gc.{SweepsByPasses}
use Rattle.commands.specs.RemovalQuiet.{WaitedAsBefore}
use Rattle.commands.specs.RemovalTable.{moment_in, mark_moment_at}
use Rattle.commands.proofs.OwnSteps.{in_process, back_from, quiet_part, own_first}
use Rattle.commands.proofs.LateTurns.{sweeps_late}
use Rattle.commands.proofs.Lacking.{garbage_apart, folder_back}
use Rattle.commands.proofs.GcLeft.{sweeps_aside}
use Rattle.commands.proofs.GcQuiet.{each_shown}
use Rattle.commands.proofs.GcTurn.{turn_after, turn_before, stood_until, untaken_at}
use Rattle.commands.proofs.FolderItems.{changed, items_replied, showed_then}

pub run_prepared : (x : Area) → (rank area.Run == rank x) ≡ true → (rank x == rank area.Prepared) ≡ false
run_prepared area.Run is = refl
run_prepared x is = cc

-- nothing is changed in prepared
module _ (now : ℕ) (pod : PodId) where
  abbrev here : Spot
  here = pod_spot pod area.Prepared

  abbrev Off : Inner → Type 0
  Off inner = spot_eq inner.spot here ≡ false

  off : (inner : Inner) → (rank inner.spot.area == rank area.Prepared) ≡ false → Off inner
  off inner is = ap (λ b. b && bytes_eq inner.spot.name (pod_text pod.bytes)) is

  pub changed_off : (request : Request) → (is_kill request || in_process (sweeps now) request) ≡ true → (inner : Inner) → changed request ≡ Some inner → Off inner
  changed_off (MakeDirIn i) h inner is = cc
  changed_off (AppendIn i piece) h inner is = cc
  changed_off (MakeFileIn i) h inner is =
      let same : i ≡ inner = cc in
      subst Off same (off i (run_prepared i.spot.area (and_left (is_in area.Run i.spot.area) _ (or_nothing (sweeps now (MakeFileIn i)) h))))
  changed_off (RemoveFileIn i) h inner is =
      let same : i ≡ inner = cc in
      subst Off same (off i (garbage_apart i.spot.area ((sweeps_aside now).files i (or_nothing (sweeps now (RemoveFileIn i)) h))))
  changed_off (RemoveDirIn i) h inner is =
      let same : i ≡ inner = cc in
      subst Off same (off i (garbage_apart i.spot.area ((sweeps_aside now).dirs i (or_nothing (sweeps now (RemoveDirIn i)) h))))
  changed_off request h inner is = cc

  module _ (k : ℕ) (items : List Item) (me : ℕ) where
    abbrev pub Holds : DirState → Type 0
    Holds s = (folder_at s.namespace here ≡ Some k) × (items_in k [] s.entries ≡ items)

    pub holds_back : (s : DirState) (request : Request) (reply : Reply) → (is_kill request || in_process (sweeps now) request) ≡ true → Holds (state_next s (event me request reply)) → Holds s
    holds_back s request reply h x =
        let at = folder_back (sweeps now) (sweeps_aside now) pod k me s request reply h x.0 in
        (at, sym (items_replied k here s.namespace at s.entries request reply (λ inner is. changed_off request h inner is)) ∙ x.1)

-- the age that the marks told before, and what the line says
abbrev pub WaitsBefore : Times → List Event → GcLine → Type 0
WaitsBefore times old line = (pod : PodId) → line.pod ≡ Some pod → line.place ≡ area.Prepared → WaitsBy (is_ripe times.now times.expire (mark_moment_at (codes "created-") pod area.Prepared (state_after old))) line.deed

module _ (times : Times) (lines : List GcLine) {me : ℕ} {old new : List Event} (ext : Extends (in_process (sweeps times.now)) me old new) (quiet : Quiet me old new) (m : Meanwhile (SweepsByPasses times lines) me old new) where
  -- what its own listing showed stood there before
  showed_before : (text : List ℕ) (pod : PodId) (moment : Option ℕ) {a b : List Event} → Grew old a → Grew b new → Showed pod area.Prepared text moment me a b → moment ≡ mark_moment_at text pod area.Prepared (state_after old)
  showed_before text pod moment {a} {b} to_a from_b x =
      let listing : Grew a x.after = record { more = x.only.more; grown = x.only.grown } in
      let rest = grown_more x.last from_b in
      let own = own_first (quiet_part quiet to_a (grown_more listing rest)) (record { more = x.only.more; grown = x.only.grown }) rest in
      let then = showed_then pod area.Prepared x.items x.only own x.shows in
      let shown = items_in then.folder [] (state_after then.begun).entries in
      let stood = back_from (Holds times.now pod then.folder shown me) (in_process (sweeps times.now)) me (λ s request reply h y. holds_back times.now pod then.folder shown me s request reply h y) then.begun
      (grown_more to_a then.first) (grown_more then.last rest) ext quiet (then.there, refl) in
      x.greatest ∙ (then.same text ∙ sym (ap (λ (o : Option ℕ). moment_in text o (state_after old)) stood.0 ∙ ap (moment_among text) stood.1))

  -- which the line goes by
  told_waits : {Can : Type 0} (here : Area) → is_stage here ≡ true → (ls : List GcLine) (a b : List Event) → Grew old a → Grew b new → (t : TellsShown Can times here ls me a b) → (line : GcLine) → IsLineOfTurn Can times here t.names line me t.listed b → WaitsBefore times old line
  told_waits {Can} here stage ls a b to_a from_b t line x pod is place = record { waits = λ p deed. by false (w.waits p deed); goes = λ tried. by true (w.ripe tried); left = λ deed. elim (w.left deed) [ inl gone ↦ not_gone deed gone | inr y ↦ by true y ] }
    where
      w : WaitedByAge times x.shown line.deed me x.from x.upto
      w = x.dealt.waited (sym x.place_is ∙ place)

      first : Grew old x.from
      first = turn_after stage quiet to_a from_b t x

      last : Grew x.upto new
      last = turn_before stage quiet to_a from_b t x

      by : (is_so : Bool) → ShowedAge x.shown area.Prepared (codes "created-") (is_ripe times.now times.expire) is_so me x.from x.upto → is_ripe times.now times.expire (mark_moment_at (codes "created-") pod area.Prepared (state_after old)) ≡ is_so
      by is_so y =
          let same : x.shown ≡ pod = let e : Some x.shown ≡ Some pod = sym x.pod_is ∙ is in cc in
          let stood = showed_before (codes "created-") x.shown y.0 first last y.1 in
          subst (λ (q : PodId). is_ripe times.now times.expire (mark_moment_at (codes "created-") q area.Prepared (state_after old)) ≡ is_so) same
          (subst (λ (o : Option ℕ). is_ripe times.now times.expire o ≡ is_so) stood y.2)

      not_gone : {X : Type 0} → line.deed ≡ Left → AtOwnStep me x.from x.upto (IsAbsentAt x.shown area.Prepared) → X
      not_gone {X} deed gone =
          let took = x.dealt.let_be.left deed in
          let stood = stood_until stage quiet to_a from_b t x (grown_more (record { more = took.more; grown = took.grown }) last) in
          let there = untaken_at (sweeps times.now) (sweeps_late times.now) (pod_spot x.shown here) me ext quiet first last took gone stood in
          let moved = subst (λ (p : Area). stands (state_after (gone.before ++ gone.step ∷ [])).namespace (pod_spot x.shown p) ≡ true) (sym x.place_is ∙ place) there in
          let clash : false ≡ true = sym gone.holds ∙ moved in cc

  pub gc_waits : AllByRecursion (WaitsBefore times old) lines
  gc_waits = each_shown times lines ext quiet m (WaitsBefore times old) (λ Can can here stage ls a b to_a from_b t line x. told_waits here stage ls a b to_a from_b t line x) (λ pod is place. cc)

  pub gc_waited : AllByRecursion (WaitedAsBefore times old) lines
  gc_waited =
      all_weaker (WaitsBefore times old) (WaitedAsBefore times old) (λ l w. record { waits = λ pod p is place deed. (w pod is place).waits p deed; ripe = λ pod to is place deed. (w pod is place).goes (ap is_tried deed) }) lines gc_waits
