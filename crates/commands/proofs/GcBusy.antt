-- Where nobody else steps, the lock of a pod that a sweep calls busy was held before.
use Rattle.std.proofs.Common.{◌≡◌, inl, inr, ℕ, Bool, true, false, ◌&&◌, bytes_eq, Some, List, [], ◌∷◌, refl, sym, ap, subst, ◌∙◌}
use Rattle.std.specs.List.{list_any, AllByRecursion}
use Rattle.plain_laws.proofs.Texts.{same_bytes, same_text}
use Rattle.dir_model.specs.declared.area.Area.{Area}
use Rattle.dir_model.specs.declared.area.Area.TheVariants as area
use Rattle.dir_model.specs.declared.event.Event.{Event}
use Rattle.dir_model.specs.declared.pod.PodId.{PodId}
use Rattle.dir_model.specs.declared.spot.Mode.TheVariants.{Exclusive}
use Rattle.dir_model.specs.declared.spot.Spot.{Spot}
use Rattle.dir_model.specs.declared.request.Request.{Request}
use Rattle.dir_model.specs.declared.request.Request.TheVariants.{MakeFolder, MoveFolder}
use Rattle.dir_model.specs.Areas.{is_stage}
use Rattle.dir_model.specs.Calls.{Extends}
use Rattle.dir_model.specs.Pods.{pod_text}
use Rattle.dir_model.specs.Quiet.{Quiet}
use Rattle.dir_model.specs.Trace.{state_after}
use Rattle.dir_model.proofs.Chains.{nothing_yet, extends_more, extends_wider}
use Rattle.dir_model.proofs.Lists.{and_left, and_right, and_both}
use Rattle.dir_rules.specs.Standing.{is_garbage}
use Rattle.dir_files.specs.AreaLocks.{is_taking_area, closes}
use Rattle.lifecycle.proofs.Makes.{of_same}
use Rattle.phase_read.specs.Read.{is_pod_spot}
use Rattle.pod_locks.specs.Work.{Grew}
use Rattle.pod_locks.proofs.Traces.{grown_more, grown_by}
use Rattle.pod_gc.specs.declared.ages.Times.{Times}
use Rattle.pod_gc.specs.declared.line.GcLine.{GcLine}
use Rattle.pod_gc.specs.Requests.{lists_pod_area, deals_with_pod, sweeps}
use Rattle.pod_gc.specs.Deeds.{mode_of_deed}
use Rattle.pod_gc.specs.Sweeping.{MaySweepAll}
use Rattle.pod_gc.specs.Told.{Knew, pods_of, deals_with_pods, IsLineOfTurn, TellsShown, PassedOverPods, ArePassed, places}
use Rattle.pod_gc.proofs.Asking.{some_sweep}
use Rattle.command_outcomes.specs.Meanwhile.{Meanwhile}
use Rattle.commands.specs.Gc.{SweepsByPasses}
use Rattle.commands.specs.RemovalQuiet.{IsHeldNow, BusyAsBefore}
use Rattle.commands.proofs.OwnSteps.{in_process, begin_in_process, asks_in_process, finish_in_process}
use Rattle.commands.proofs.LateTurns.{Late, or_either, sweeps_late, gc_moves}
use Rattle.commands.proofs.Held.{was_held}
use Rattle.commands.proofs.GcQuiet.{each_shown}
use Rattle.commands.proofs.GcTells.{deals_moves}

-- a folder is moved from a place of pods to a garbage place, and keeps its name
abbrev pub keeps_names : Request → Bool
keeps_names (MakeFolder spot) = false
keeps_names (MoveFolder from to) = is_stage from.area && (is_garbage to.area && bytes_eq from.name to.name)
keeps_names _ = true

names_late : Late keeps_names
names_late = record { makes = λ spot is. cc; moves = λ from to is. and_left (is_garbage to.area) (bytes_eq from.name to.name) (and_right (is_stage from.area) _ is) }

-- no folder is made or moved
no_folders : (asks : Request → Bool) → ((spot : Spot) → asks (MakeFolder spot) ≡ false) → ((from to : Spot) → asks (MoveFolder from to) ≡ false) → (r : Request) → asks r ≡ true → keeps_names r ≡ true
no_folders asks makes moves (MakeFolder spot) is = sym (makes spot) ∙ is
no_folders asks makes moves (MoveFolder from to) is = let clash : false ≡ true = sym (moves from to) ∙ is in cc
no_folders asks makes moves r is = refl

one_name : (now : ℕ) (here : Area) (from to : Spot) (pods : List PodId) → list_any (λ (p : PodId). deals_with_pod p now here (MoveFolder from to)) pods ≡ true → bytes_eq from.name to.name ≡ true
one_name now here from to [] is = cc
one_name now here from to (p ∷ ps) is = elim (or_either (deals_with_pod p now here (MoveFolder from to)) _ is) [
  | inl x ↦ let n = deals_moves p now here from to x in subst (λ (y : List ℕ). bytes_eq from.name y ≡ true) (sym n.0 ∙ n.1) (same_bytes from.name)
  | inr x ↦ one_name now here from to ps x
]

some_named : (now : ℕ) (here : Area) (names : List (List ℕ)) → is_stage here ≡ true → (r : Request) → deals_with_pods now here names r ≡ true → keeps_names r ≡ true
some_named now here names stage (MakeFolder spot) is = some_sweep now here names stage (MakeFolder spot) is
some_named now here names stage (MoveFolder from to) is =
    let s = some_sweep now here names stage (MoveFolder from to) is in
    and_both (is_stage from.area) _ (gc_moves now from to s) (and_both (is_garbage to.area) (bytes_eq from.name to.name) ((sweeps_late now).moves from to s) (one_name now here from to (pods_of names) is))
some_named now here names stage r is = refl

-- over the passes
module _ (Can : Type 0) (times : Times) (me : ℕ) where
  shown_named : (here : Area) (ls : List GcLine) (a b : List Event) → is_stage here ≡ true → TellsShown Can times here ls me a b → Extends keeps_names me a b
  shown_named here ls a b stage t =
      extends_more keeps_names me a t.listed b (extends_wider (no_folders (lists_pod_area here) (λ spot. refl) (λ from to. refl)) t.only_lists) (extends_wider (some_named times.now here t.names stage) t.tells.only)

  takes_named : (r : Request) → is_taking_area area.Embryo Exclusive r ≡ true → keeps_names r ≡ true
  takes_named = no_folders (is_taking_area area.Embryo Exclusive) (λ spot. refl) (λ from to. refl)

  passed_named : (here : Area) (ls : List GcLine) (a b : List Event) → is_stage here ≡ true → PassedOverPods Can times here ls me a b → Extends keeps_names me a b
  passed_named area.Embryo ls a b stage (inl g) =
      extends_more keeps_names me a g.locked b (extends_wider takes_named g.takes_gate)
      (extends_more keeps_names me g.locked g.done b (shown_named area.Embryo ls g.locked g.done refl g.tells) (extends_wider (no_folders (closes g.gate) (λ spot. refl) (λ from to. refl)) g.gives_back))
  passed_named area.Embryo ls a b stage (inr w) = extends_wider takes_named w.only
  passed_named here ls a b stage t = shown_named here ls a b stage t

  pub passes_named : (ps : List Area) (ls : List GcLine) (a b : List Event) → AllByRecursion (λ (p : Area). is_stage p ≡ true) ps → ArePassed Can times ps ls me a b → Extends keeps_names me a b
  passes_named [] ls a b stages x = subst (λ (h : List Event). Extends keeps_names me a h) (sym x.1) nothing_yet
  passes_named (here ∷ ps) ls a b stages x = extends_more keeps_names me a x.between b (passed_named here x.own a x.between stages.0 x.first) (passes_named ps x.others x.between b stages.1 x.rest)

module _ (times : Times) (lines : List GcLine) {me : ℕ} {old new : List Event} (ext : Extends (in_process (sweeps times.now)) me old new) (quiet : Quiet me old new) (m : Meanwhile (SweepsByPasses times lines) me old new) where
  abbrev Named : List Event → List Event → Type 0
  Named a b = Extends (in_process keeps_names) me a b

  named : Named old new
  named =
      let swept : Extends keeps_names me m.begun m.ended = passes_named (Knew (MaySweepAll times.now times.expire) m.so.from) times me places lines m.begun m.ended (refl, (refl, (refl, (refl, (refl, (refl, tt)))))) m.so.swept in
      let first : Named old m.begun = extends_wider (begin_in_process keeps_names) m.begins in
      let then : Named m.begun m.ended = extends_wider (asks_in_process keeps_names) swept in
      let last : Named m.ended new = extends_wider (finish_in_process keeps_names) m.finishes in
      extends_more (in_process keeps_names) me old m.begun new first (extends_more (in_process keeps_names) me m.begun m.ended new then last)

  -- what comes to a pod's place comes from one of its places
  from_its : (pod : PodId) (from to : Spot) → keeps_names (MoveFolder from to) ≡ true → is_pod_spot pod to ≡ true → is_pod_spot pod from ≡ true
  from_its pod from to is here =
      let u = pod_text pod.bytes in
      let same = same_text from.name to.name (and_right (is_garbage to.area) _ (and_right (is_stage from.area) _ is)) in
      and_both (is_stage from.area) (bytes_eq from.name u) (and_left (is_stage from.area) _ is) (subst (λ (n : List ℕ). bytes_eq n u ≡ true) (sym same) (and_right (is_stage to.area) (bytes_eq to.name u) here))

  told_busy : {Can : Type 0} (can : Can) (here : Area) → is_stage here ≡ true → {names : List (List ℕ)} (a b : List Event) → Grew old a → Grew b new → (line : GcLine) → IsLineOfTurn Can times here names line me a b → BusyAsBefore me old line
  told_busy {Can} can here stage {names} a b to_a from_b line x pod which is deed =
      let same : x.shown ≡ pod = let e : Some x.shown ≡ Some pod = sym x.pod_is ∙ is in cc in
      let u = pod_text x.shown.bytes in
      let held = was_held (is_pod_spot x.shown) (λ c d alike. of_same u c d alike) keeps_names names_late (from_its x.shown) me x.shown (λ p at. ap (λ c. c && bytes_eq u u) at ∙ same_bytes u) which old x.from x.upto new
      (grown_more to_a (grown_by x.first)) (grown_more (grown_by x.last) from_b) named quiet (record { area = here; stage = stage; mode = mode_of_deed here line.deed; held = (x.another can).held which deed }) in
      subst (λ (q : PodId). IsHeldNow (is_pod_spot q) which me (state_after old)) same held

  pub gc_busy : AllByRecursion (BusyAsBefore me old) lines
  gc_busy = each_shown times lines ext quiet m (BusyAsBefore me old) (λ Can can here stage ls a b to_a from_b t line x. told_busy can here stage t.listed b (grown_more to_a (grown_by t.only_lists)) from_b line x) (λ pod which is deed. cc)
