-- Where nobody else steps, an exited pod that a sweep moved rests where there is a grace time: it has its mark of this moment.
use Rattle.std.proofs.Common.{◌≡◌, ◌≤◌, ◌||◌, ℕ, Bool, true, false, nat_lt, codes, Some, List, [], ◌∷◌, ◌++◌, append_assoc, option_to_list, refl, sym, ap, subst, ◌∙◌}
use Rattle.std.specs.List.{list_any, AllByRecursion}
use Rattle.std.specs.List.Sorted.{IsStrictlySortedBy}
use Rattle.std.specs.Ordering.{nat_cmp}
use Rattle.std.specs.Cmp.Lexicographic.{slice_cmp}
use Rattle.plain_laws.proofs.Lists.{any_left}
use Rattle.dir_model.specs.declared.area.Area.{Area}
use Rattle.dir_model.specs.declared.area.Area.TheVariants as area
use Rattle.dir_model.specs.declared.event.Event.{Event}
use Rattle.dir_model.specs.declared.item.Item.{Item}
use Rattle.dir_model.specs.declared.pod.PodId.{PodId}
use Rattle.dir_model.specs.declared.tree.TreeEntry.{TreeEntry}
use Rattle.dir_model.specs.declared.request.Request.{Request}
use Rattle.dir_model.specs.declared.request.Request.TheVariants.{RemoveFileIn, RemoveDirIn}
use Rattle.dir_model.specs.declared.request.Reply.{Reply}
use Rattle.dir_model.specs.Calls.{event, is_kill, Extends}
use Rattle.dir_model.specs.Listings.{has_name}
use Rattle.dir_model.specs.Quiet.{Quiet}
use Rattle.dir_model.specs.State.{DirState, folder_at}
use Rattle.dir_model.specs.Trace.{state_after, state_next, entry_made}
use Rattle.dir_model.specs.Trees.{is_entry, items_in}
use Rattle.dir_model.proofs.Lists.{all_both, all_weaker}
use Rattle.dir_model.proofs.Moments.{some_number}
use Rattle.dir_rules.specs.Marks.{marked_mark}
use Rattle.lifecycle.specs.Executions.{IsConforming}
use Rattle.dir_model.specs.Spots.{pod_spot}
use Rattle.pod_locks.specs.Work.{Grew}
use Rattle.pod_locks.proofs.Traces.{grown_more, grown_by}
use Rattle.pod_gc.specs.RemovalCauses.{MarkedFirst}
use Rattle.pod_gc.specs.declared.ages.Times.{Times}
use Rattle.pod_gc.specs.declared.line.Deed.TheVariants.{Moved}
use Rattle.pod_gc.specs.declared.line.GcLine.{GcLine}
use Rattle.pod_gc.specs.Deeds.{ShowedAge, RestsBy}
use Rattle.pod_gc.specs.Ages.{moment_among, is_young}
use Rattle.pod_gc.specs.Requests.{puts_aside_only, sweeps}
use Rattle.pod_gc.specs.Sweeping.{MaySweepAll}
use Rattle.pod_gc.specs.Told.{Knew, deals_with_pods, IsLineOfTurn, TellsShown, ArePassed, places}
use Rattle.command_outcomes.specs.Meanwhile.{Meanwhile}
use Rattle.commands.specs.Gc.{SweepsByPasses}
use Rattle.commands.specs.RemovalQuiet.{MovedFrom}
use Rattle.commands.proofs.OwnSteps.{in_process, forward}
use Rattle.commands.proofs.OneNumber.{one_number}
use Rattle.commands.proofs.MarkMoments.{IsSince, young_since, marked_since, mark_entry}
use Rattle.commands.proofs.Untouched.{Holds, deals_off}
use Rattle.commands.proofs.GcQuiet.{passed_grown, passes_grown}
use Rattle.pod_lookup.proofs.Names.{text_back}
use Rattle.commands.proofs.GcTurn.{quiet_between, later_apart, turn_after, turn_before}
use Rattle.commands.proofs.GcGoes.{stands_upto}
use Rattle.commands.proofs.GcPlaces.{passed_elsewhere, passes_elsewhere}
use Rattle.commands.proofs.GcAged.{held_on, showed_since}
use Rattle.commands.proofs.GcCame.{line_at}
use Rattle.commands.proofs.GcArrived.{turn_arrives}

-- what puts a pod aside takes nothing out of its folder
keeps_entry : (pod : PodId) (t : TreeEntry → Bool) (me : ℕ) (s : DirState) (request : Request) (reply : Reply) → (is_kill request || puts_aside_only pod area.Run area.ExitedGarbage request) ≡ true → list_any t s.entries ≡ true → list_any t (state_next s (event me request reply)).entries ≡ true
keeps_entry pod t me s (RemoveFileIn inner) reply h any = cc
keeps_entry pod t me s (RemoveDirIn inner) reply h any = cc
keeps_entry pod t me s request reply h any = any_left t s.entries (option_to_list (entry_made s.namespace request reply)) any

-- in exited-garbage stands the pod's folder, whose latest mark isn't before the moment
pub record RestsSince (pod : PodId) (now : ℕ) (s : DirState) : Type 0 where
  pub folder : ℕ
  pub items : List Item
  pub holds : Holds (pod_spot pod area.ExitedGarbage) folder items s
  pub since : IsSince now (moment_among (codes "marked-") items)

module _ (times : Times) (lines : List GcLine) {me : ℕ} {old new : List Event} (ext : Extends (in_process (sweeps times.now)) me old new) (quiet : Quiet me old new) (m : Meanwhile (SweepsByPasses times lines) me old new) (conforming : IsConforming new) (small : times.now ≤ 18446744073709551615) where
  abbrev mark : List ℕ
  mark = marked_mark times.now

  -- over the pass that moved it
  module _ {Can : Type 0} (ls : List GcLine) (a b : List Event) (to_a : Grew old a) (from_b : Grew b new) (t : TellsShown Can times area.Run ls me a b) (line : GcLine) (x : IsLineOfTurn Can times area.Run t.names line me t.listed b) (deed : line.deed ≡ Moved area.ExitedGarbage) where
    first : Grew old x.from
    first = turn_after refl quiet to_a from_b t x

    last : Grew x.upto new
    last = turn_before refl quiet to_a from_b t x

    turn : Extends (puts_aside_only x.shown area.Run area.ExitedGarbage) me x.from x.upto
    turn = x.dealt.let_be.moved area.ExitedGarbage deed

    mk : MarkedFirst x.shown times.now me x.from x.upto
    mk = x.dealt.marked refl area.ExitedGarbage deed

    abbrev then : List Event
    then = mk.marked.before ++ mk.marked.step ∷ []

    to_then : Grew x.from then
    to_then = record { more = mk.marked.later ++ mk.marked.step ∷ []; grown = ap (λ (h : List Event). h ++ mk.marked.step ∷ []) mk.marked.begins ∙ append_assoc x.from mk.marked.later (mk.marked.step ∷ []) }

    from_then : Grew then x.upto
    from_then = grown_more (record { more = mk.marked.rest; grown = mk.marked.ends }) (grown_by mk.only)

    -- at the end of its turn
    has_mark : list_any (is_entry mk.folder mark) (state_after x.upto).entries ≡ true
    has_mark =
        forward (λ s. list_any (is_entry mk.folder mark) s.entries ≡ true) (puts_aside_only x.shown area.Run area.ExitedGarbage) me (λ s request reply h q. keeps_entry x.shown (is_entry mk.folder mark) me s request reply h q) then
        to_then from_then turn (quiet_between quiet first (grown_by turn) last) (mark_entry times.now mk.folder (state_after then).entries mk.marked.holds.1)

    stands_there : folder_at (state_after x.upto).namespace (pod_spot x.shown area.ExitedGarbage) ≡ Some mk.folder
    stands_there =
        let z = turn_arrives times lines ext quiet m conforming area.Run refl ls a b to_a from_b t line x area.ExitedGarbage deed in
        let y = z.0 in
        let k = some_number (folder_at (state_after x.upto).namespace (pod_spot x.shown area.ExitedGarbage)) (stands_upto refl quiet to_a from_b t x area.ExitedGarbage deed last) in
        let came : k.0 ≡ y.folder = one_number new conforming (pod_spot x.shown area.ExitedGarbage) refl x.upto y.after last (grown_more y.last last) k.0 y.folder k.1 y.is in
        let left : y.folder ≡ mk.folder = one_number new conforming (pod_spot x.shown area.Run) refl y.before then (grown_more y.rest last) (grown_more from_then last) y.folder mk.folder y.was mk.marked.holds.0 in
        k.1 ∙ ap Some (came ∙ left)

    abbrev marks : List Item
    marks = items_in mk.folder [] (state_after x.upto).entries

    pub pass_rests : RestsSince x.shown times.now (state_after b)
    pass_rests =
        let sorted = subst (λ (ns : List (List ℕ)). IsStrictlySortedBy (slice_cmp nat_cmp) ns) x.names_are t.ordered in
        let unshown = subst (λ (n : List ℕ). has_name x.later n ≡ false) (sym (text_back x.name x.shown x.name_is)) (later_apart x.earlier x.name x.later sorted) in
        let spot = pod_spot x.shown area.ExitedGarbage in
        let held = held_on Can times me old new quiet conforming spot refl mk.folder marks (deals_with_pods times.now area.Run x.later) x.upto b x.last (λ r h. deals_off spot times.now area.Run refl x.later unshown me r h)
        (grown_more first (grown_by turn)) from_b (stands_there, refl) in
        record { folder = mk.folder; items = marks; holds = held; since = marked_since times.now mk.folder small (state_after x.upto).entries has_mark }

  abbrev May : Type 0
  May = Knew (MaySweepAll times.now times.expire) m.so.from

  -- the passes, one after the other
  abbrev embryo : ArePassed May times places lines me m.begun m.ended
  embryo = m.so.swept

  abbrev prepare : ArePassed May times (area.Prepare ∷ area.Prepared ∷ area.Run ∷ area.ExitedGarbage ∷ area.Garbage ∷ []) embryo.others me embryo.between m.ended
  prepare = embryo.rest

  abbrev prepared : ArePassed May times (area.Prepared ∷ area.Run ∷ area.ExitedGarbage ∷ area.Garbage ∷ []) prepare.others me prepare.between m.ended
  prepared = prepare.rest

  abbrev run : ArePassed May times (area.Run ∷ area.ExitedGarbage ∷ area.Garbage ∷ []) prepared.others me prepared.between m.ended
  run = prepared.rest

  abbrev exited : ArePassed May times (area.ExitedGarbage ∷ area.Garbage ∷ []) run.others me run.between m.ended
  exited = run.rest

  finish : Grew m.ended new
  finish = record { more = m.finishes.more; grown = m.finishes.grown }

  to_run : Grew old prepared.between
  to_run =
      grown_more (record { more = m.begins.more; grown = m.begins.grown })
      (grown_more (passed_grown May times area.Embryo embryo.own me m.begun embryo.between embryo.first)
      (grown_more (passed_grown May times area.Prepare prepare.own me embryo.between prepare.between prepare.first) (passed_grown May times area.Prepared prepared.own me prepare.between prepared.between prepared.first)))

  to_exited : Grew old run.between
  to_exited = grown_more to_run (passed_grown May times area.Run run.own me prepared.between run.between run.first)

  from_exited : Grew exited.between new
  from_exited = grown_more (passes_grown May times (area.Garbage ∷ []) exited.others me exited.between m.ended exited.rest) finish

  from_run : Grew run.between new
  from_run = grown_more (passed_grown May times area.ExitedGarbage exited.own me run.between exited.between exited.first) from_exited

  -- a pod that was moved from run rests so when the next pass begins
  abbrev MarksSo : GcLine → Type 0
  MarksSo line = (pod : PodId) → line.pod ≡ Some pod → line.place ≡ area.Run → line.deed ≡ Moved area.ExitedGarbage → RestsSince pod times.now (state_after run.between)

  not_run : (line : GcLine) → (line.place ≡ area.Run → ⊥) → MarksSo line
  not_run line other pod is place deed = absurd (other place)

  run_marks : AllByRecursion MarksSo run.own
  run_marks =
      let t : TellsShown May times area.Run run.own me prepared.between run.between = run.first in
      all_weaker (λ l. IsLineOfTurn May times area.Run t.names l me t.listed run.between) MarksSo
      (λ l x pod is place deed. let same : x.shown ≡ pod = let e : Some x.shown ≡ Some pod = sym x.pod_is ∙ is in cc in
      subst (λ (q : PodId). RestsSince q times.now (state_after run.between)) same (pass_rests run.own prepared.between run.between to_run from_run t l x deed)) run.own t.tells.each

  all_marks : AllByRecursion MarksSo lines
  all_marks =
      let r : (true ≡ true) × (false ≡ false) = (refl, refl) in
      let skip = λ (here : Area) (ls : List GcLine) (a b : List Event). passed_elsewhere May times me area.Run MarksSo not_run here ls a b in
      let from_run = subst (λ (l : List GcLine). AllByRecursion MarksSo l) (sym run.lines_are)
      (all_both MarksSo run.own run.others run_marks (passes_elsewhere May times me area.Run MarksSo not_run (area.ExitedGarbage ∷ area.Garbage ∷ []) run.others run.between m.ended (r, (r, tt)) run.rest)) in
      let from_prepared = subst (λ (l : List GcLine). AllByRecursion MarksSo l) (sym prepared.lines_are) (all_both MarksSo prepared.own prepared.others (skip area.Prepared prepared.own prepare.between prepared.between refl prepared.first) from_run) in
      let from_prepare = subst (λ (l : List GcLine). AllByRecursion MarksSo l) (sym prepare.lines_are) (all_both MarksSo prepare.own prepare.others (skip area.Prepare prepare.own embryo.between prepare.between refl prepare.first) from_prepared) in
      subst (λ (l : List GcLine). AllByRecursion MarksSo l) (sym embryo.lines_are) (all_both MarksSo embryo.own embryo.others (skip area.Embryo embryo.own m.begun embryo.between refl embryo.first) from_prepare)

  -- and it is young, if any is
  abbrev pub RestsMoved : GcLine → Type 0
  RestsMoved line = (pod : PodId) → line.pod ≡ Some pod → line.place ≡ area.ExitedGarbage → MovedFrom area.Run area.ExitedGarbage pod lines → RestsBy (nat_lt 0 times.grace) line.deed

  not_exited : (line : GcLine) → (line.place ≡ area.ExitedGarbage → ⊥) → RestsMoved line
  not_exited line other pod is place from = absurd (other place)

  told_rests : (t : TellsShown May times area.ExitedGarbage exited.own me run.between exited.between) (line : GcLine) → IsLineOfTurn May times area.ExitedGarbage t.names line me t.listed exited.between → RestsMoved line
  told_rests t line x pod is place from = record { rests = λ p deed. by true ((x.dealt.rested refl).rests p deed); over = λ tried. by false ((x.dealt.rested refl).over tried) }
    where
      same : pod ≡ x.shown
      same = let e : Some pod ≡ Some x.shown = sym is ∙ x.pod_is in cc

      rested : RestsSince x.shown times.now (state_after run.between)
      rested =
          subst (λ (q : PodId). RestsSince q times.now (state_after run.between)) same
          (line_at MarksSo lines from.has.before from.has.line from.has.after from.has.are all_marks pod from.has.pod_is from.has.place_is from.moved)

      by : (is_so : Bool) → ShowedAge x.shown area.ExitedGarbage (codes "marked-") (is_young times.now times.grace) is_so me x.from x.upto → nat_lt 0 times.grace ≡ is_so
      by is_so y =
          let shown = showed_since May times me old new quiet conforming run.between exited.between to_exited from_exited t line x y.0 y.1 rested.folder rested.items rested.holds in
          sym (young_since times.now times.grace (moment_among (codes "marked-") rested.items) rested.since) ∙ (ap (is_young times.now times.grace) (sym shown) ∙ y.2)

  pub gc_rests_moved : AllByRecursion RestsMoved lines
  gc_rests_moved =
      let r : (true ≡ true) × (false ≡ false) = (refl, refl) in
      let t : TellsShown May times area.ExitedGarbage exited.own me run.between exited.between = exited.first in
      let skip = λ (here : Area) (ls : List GcLine) (a b : List Event). passed_elsewhere May times me area.ExitedGarbage RestsMoved not_exited here ls a b in
      let its = all_weaker (λ l. IsLineOfTurn May times area.ExitedGarbage t.names l me t.listed exited.between) RestsMoved (λ l x. told_rests t l x) exited.own t.tells.each in
      let from_exited = subst (λ (l : List GcLine). AllByRecursion RestsMoved l) (sym exited.lines_are)
      (all_both RestsMoved exited.own exited.others its (passes_elsewhere May times me area.ExitedGarbage RestsMoved not_exited (area.Garbage ∷ []) exited.others exited.between m.ended (r, tt) exited.rest)) in
      let from_run = subst (λ (l : List GcLine). AllByRecursion RestsMoved l) (sym run.lines_are) (all_both RestsMoved run.own run.others (skip area.Run run.own prepared.between run.between refl run.first) from_exited) in
      let from_prepared = subst (λ (l : List GcLine). AllByRecursion RestsMoved l) (sym prepared.lines_are) (all_both RestsMoved prepared.own prepared.others (skip area.Prepared prepared.own prepare.between prepared.between refl prepared.first) from_run) in
      let from_prepare = subst (λ (l : List GcLine). AllByRecursion RestsMoved l) (sym prepare.lines_are) (all_both RestsMoved prepare.own prepare.others (skip area.Prepare prepare.own embryo.between prepare.between refl prepare.first) from_prepared) in
      subst (λ (l : List GcLine). AllByRecursion RestsMoved l) (sym embryo.lines_are) (all_both RestsMoved embryo.own embryo.others (skip area.Embryo embryo.own m.begun embryo.between refl embryo.first) from_prepare)
