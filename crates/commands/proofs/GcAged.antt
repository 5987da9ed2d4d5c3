-- Where nobody else steps, a sweep keeps or deletes a pod that stood in exited-garbage by the marks that stood in its folder before.
use Rattle.std.proofs.Common.{◌≡◌, inl, inr, ◌||◌, ◌==◌, ℕ, Bool, true, false, bytes_eq, codes, Option, Some, None, is_some, List, [], ◌∷◌, ◌++◌, refl, sym, ap, subst, ◌∙◌}
use Rattle.std.specs.List.{AllByRecursion}
use Rattle.std.specs.List.Sorted.{IsStrictlySortedBy}
use Rattle.std.specs.Ordering.{nat_cmp}
use Rattle.std.specs.Cmp.Lexicographic.{slice_cmp}
use Rattle.dir_model.specs.declared.area.Area.{Area}
use Rattle.dir_model.specs.declared.area.Area.TheVariants as area
use Rattle.dir_model.specs.declared.event.Event.{Event}
use Rattle.dir_model.specs.declared.item.Item.{Item}
use Rattle.dir_model.specs.declared.pod.PodId.{PodId}
use Rattle.dir_model.specs.declared.spot.Mode.TheVariants.{Exclusive}
use Rattle.dir_model.specs.declared.spot.Spot.{Spot}
use Rattle.dir_model.specs.declared.request.Request.{Request}
use Rattle.dir_model.specs.Areas.{rank, is_stage}
use Rattle.dir_model.specs.Calls.{is_begin, is_kill, Extends}
use Rattle.dir_model.specs.Listings.{has_name}
use Rattle.dir_model.specs.Quiet.{Quiet}
use Rattle.dir_model.specs.State.{folder_at, stands}
use Rattle.dir_model.specs.Trace.{state_after}
use Rattle.dir_model.specs.Trees.{items_in}
use Rattle.dir_model.proofs.Lists.{and_left, all_both, all_weaker}
use Rattle.dir_files.specs.AreaLocks.{is_taking_area, closes}
use Rattle.lifecycle.specs.Executions.{IsConforming}
use Rattle.lifecycle.proofs.Draws.{conforming_left}
use Rattle.lifecycle.proofs.Stays.{one_folder}
use Rattle.dir_model.specs.Spots.{pod_spot}
use Rattle.pod_locks.specs.Work.{Grew}
use Rattle.pod_locks.proofs.Traces.{grown_none, grown_more, grown_by}
use Rattle.pod_gc.specs.declared.ages.Times.{Times}
use Rattle.pod_gc.specs.declared.line.GcLine.{GcLine}
use Rattle.pod_gc.specs.Deeds.{is_tried, ShowedAge, RestsBy}
use Rattle.pod_gc.specs.Ages.{moment_among, Showed, is_young}
use Rattle.pod_gc.specs.Requests.{lists_pod_area, lists_marks, sweeps}
use Rattle.pod_gc.specs.Sweeping.{MaySweepAll}
use Rattle.pod_gc.specs.Told.{Knew, deals_with_pods, IsLineOfTurn, TellsShown, PassedOverPods, ArePassed, places}
use Rattle.command_outcomes.specs.Meanwhile.{Meanwhile}
use Rattle.commands.specs.Gc.{SweepsByPasses}
use Rattle.commands.specs.RemovalQuiet.{AgedAsBefore}
use Rattle.commands.specs.RemovalTable.{moment_in, mark_moment_at}
use Rattle.commands.proofs.OwnSteps.{in_process, forward, back_from, quiet_part, own_first}
use Rattle.commands.proofs.FolderItems.{ShowedThen, showed_then}
use Rattle.commands.proofs.GcQuiet.{shown_grown, passed_grown, passes_grown}
use Rattle.pod_lookup.proofs.Names.{text_back}
use Rattle.commands.proofs.GcTells.{shown_stands, stands_named}
use Rattle.commands.proofs.GcTurn.{quiet_between, earlier_apart}
use Rattle.commands.proofs.GcPlaces.{Elsewhere, passed_elsewhere, passes_elsewhere}
use Rattle.commands.proofs.Untouched.{Off, Holds, holds_next, holds_before, begin_off, lists_off, marks_off, takes_off, closes_off, deals_off}

-- what stands in a folder of a pod, while others are dealt with
module _ (Can : Type 0) (times : Times) (me : ℕ) (old new : List Event) (quiet : Quiet me old new) (conforming : IsConforming new) (spot : Spot) (stage : is_stage spot.area ≡ true) (k : ℕ) (items : List Item) where
  abbrev pub Held : List Event → Type 0
  Held h = Holds spot k items (state_after h)

  pub held_on : (asks : Request → Bool) (a b : List Event) (x : Extends asks me a b) → ((request : Request) → (is_kill request || asks request) ≡ true → Off spot request) → Grew old a → Grew b new → Held a → Held b
  held_on asks a b x off to_a rest held =
      forward (Holds spot k items) asks me (λ s request reply h q. holds_next spot k items s me request reply (off request h) q) a grown_none (grown_by x) x (quiet_between quiet to_a (grown_by x) rest) held

  over_shown : (here : Area) (ls : List GcLine) (a b : List Event) → is_stage here ≡ true → (rank spot.area == rank here) ≡ false → TellsShown Can times here ls me a b → Grew old a → Grew b new → Held a → Held b
  over_shown here ls a b here_stage other t to_a rest held =
      held_on (deals_with_pods times.now here t.names) t.listed b t.tells.only (λ r h. deals_off spot times.now here here_stage t.names (unshown (has_name t.names spot.name) refl) me r h) (grown_more to_a (grown_by t.only_lists)) rest listed
    where
      more : Grew t.listed new
      more = grown_more (grown_by t.tells.only) rest

      listed : Held t.listed
      listed = held_on (lists_pod_area here) a t.listed t.only_lists (λ r h. lists_off spot here r h) to_a more held

      own : AllByRecursion (λ (e : Event). e.process ≡ me) t.only_lists.more
      own =
          let g : Grew a t.listed = record { more = t.only_lists.more; grown = t.only_lists.grown } in
          own_first (quiet_part quiet to_a (grown_more g more)) (record { more = t.only_lists.more; grown = t.only_lists.grown }) more

      unshown : (c : Bool) → has_name t.names spot.name ≡ c → has_name t.names spot.name ≡ false
      unshown false is = is
      unshown true is =
          let at = shown_stands me here spot.name t.names a t.listed t.only_lists own t.shows is in
          let one = one_folder t.listed spot (record { area = here; name = spot.name }) (conforming_left t.listed more.more (subst IsConforming more.grown conforming)) stage here_stage refl (ap (λ (o : Option ℕ). is_some o) listed.0) (stands_named (state_after t.listed) here spot.name at) in
          let clash : true ≡ false = sym (and_left (rank spot.area == rank here) (bytes_eq spot.name spot.name) one) ∙ other in cc

  pub over_pass : (here : Area) (ls : List GcLine) (a b : List Event) → is_stage here ≡ true → (rank spot.area == rank here) ≡ false → PassedOverPods Can times here ls me a b → Grew old a → Grew b new → Held a → Held b
  over_pass area.Embryo ls a b here_stage other (inl g) to_a rest held =
      let last = grown_more (grown_by g.gives_back) rest in
      let first = grown_more to_a (grown_by g.takes_gate) in
      let one = held_on (is_taking_area area.Embryo Exclusive) a g.locked g.takes_gate (λ r h. takes_off spot r h) to_a (grown_more (shown_grown g.tells) last) held in
      let two = over_shown area.Embryo ls g.locked g.done here_stage other g.tells first last one in
      held_on (closes g.gate) g.done b g.gives_back (λ r h. closes_off spot g.gate r h) (grown_more first (shown_grown g.tells)) rest two
  over_pass area.Embryo ls a b here_stage other (inr w) to_a rest held = held_on (is_taking_area area.Embryo Exclusive) a b w.only (λ r h. takes_off spot r h) to_a rest held
  over_pass here ls a b here_stage other t to_a rest held = over_shown here ls a b here_stage other t to_a rest held

-- the age that the marks told before, and what the line says of a pod that stood there before
abbrev pub RestsBefore : Times → List Event → GcLine → Type 0
RestsBefore times old line = (pod : PodId) → line.pod ≡ Some pod → line.place ≡ area.ExitedGarbage → stands (state_after old).namespace (pod_spot pod area.ExitedGarbage) ≡ true →
    RestsBy (is_young times.now times.grace (mark_moment_at (codes "marked-") pod area.ExitedGarbage (state_after old))) line.deed

module _ (Can : Type 0) (times : Times) (me : ℕ) (old new : List Event) (quiet : Quiet me old new) (conforming : IsConforming new) where
  abbrev text : List ℕ
  text = codes "marked-"

  abbrev Its : PodId → Spot
  Its pod = pod_spot pod area.ExitedGarbage

  -- what stood in exited-garbage before stands there still
  abbrev Carried : List Event → Type 0
  Carried a = (pod : PodId) (k : ℕ) (items : List Item) → Holds (Its pod) k items (state_after old) → Holds (Its pod) k items (state_after a)

  abbrev P : GcLine → Type 0
  P line = RestsBefore times old line

  elsewhere : (line : GcLine) → (line.place ≡ area.ExitedGarbage → ⊥) → P line
  elsewhere line not_here pod is place there = absurd (not_here place)

  abbrev Others : Area → Type 0
  Others here = Elsewhere area.ExitedGarbage here

  -- those of exited-garbage
  module _ {ls : List GcLine} (a b : List Event) (to_a : Grew old a) (rest : Grew b new) (t : TellsShown Can times area.ExitedGarbage ls me a b) (line : GcLine) (x : IsLineOfTurn Can times area.ExitedGarbage t.names line me t.listed b) where
    abbrev here : Spot
    here = Its x.shown

    to_turn : Grew t.listed new → Grew old x.from
    to_turn more = grown_more (grown_more to_a (grown_by t.only_lists)) (grown_by x.first)

    -- at the beginning of its turn
    held_there : (k : ℕ) (items : List Item) → Holds here k items (state_after a) → Grew x.from new → Grew t.listed new → Holds here k items (state_after x.from)
    held_there k items held last more =
        let on = held_on Can times me old new quiet conforming here refl k items in
        let listed = on (lists_pod_area area.ExitedGarbage) a t.listed t.only_lists (λ r h. lists_off here area.ExitedGarbage r h) to_a more held in
        let sorted = subst (λ (ns : List (List ℕ)). IsStrictlySortedBy (slice_cmp nat_cmp) ns) x.names_are t.ordered in
        let unshown = subst (λ (n : List ℕ). has_name x.earlier n ≡ false) (sym (text_back x.name x.shown x.name_is)) (earlier_apart x.earlier x.name x.later sorted) in
        on (deals_with_pods times.now area.ExitedGarbage x.earlier) t.listed x.from x.first (λ r h. deals_off here times.now area.ExitedGarbage refl x.earlier unshown me r h) (grown_more to_a (grown_by t.only_lists)) last listed

    -- what its own listing showed stood there when the pass began
    pub showed_since : (moment : Option ℕ) → Showed x.shown area.ExitedGarbage text moment me x.from x.upto → (k : ℕ) (items : List Item) → Holds here k items (state_after a) → moment ≡ moment_among text items
    showed_since moment y k items began = by (showed_then x.shown area.ExitedGarbage y.items y.only own y.shows)
      where
        end : Grew y.after new
        end = grown_more y.last (grown_more (grown_by x.last) rest)

        listing : Grew x.from y.after
        listing = record { more = y.only.more; grown = y.only.grown }

        more : Grew t.listed new
        more = grown_more (grown_by t.tells.only) rest

        to_from : Grew old x.from
        to_from = to_turn more

        own : AllByRecursion (λ e. e.process ≡ me) y.only.more
        own = own_first (quiet_part quiet to_from (grown_more listing end)) (record { more = y.only.more; grown = y.only.grown }) end

        by : ShowedThen x.shown area.ExitedGarbage y.items x.from y.after → moment ≡ moment_among text items
        by then =
            let shown = items_in then.folder [] (state_after then.begun).entries in
            let held = held_there k items began (grown_more listing end) more in
            let stood = back_from (Holds here then.folder shown) (lists_marks x.shown area.ExitedGarbage) me (λ s request reply h q. holds_before here then.folder shown s me request reply (marks_off here x.shown area.ExitedGarbage request h) q) then.begun
            then.first then.last y.only (quiet_between quiet to_from listing end) (then.there, refl) in
            let one : then.folder ≡ k = let e : Some then.folder ≡ Some k = sym stood.0 ∙ held.0 in cc in
            let same : shown ≡ items = sym stood.1 ∙ (ap (λ (f : ℕ). items_in f [] (state_after x.from).entries) one ∙ held.1) in
            y.greatest ∙ (then.same text ∙ ap (moment_among text) same)

    showed_before : Carried a → (moment : Option ℕ) → Showed x.shown area.ExitedGarbage text moment me x.from x.upto → (k : ℕ) → folder_at (state_after old).namespace here ≡ Some k → moment ≡ mark_moment_at text x.shown area.ExitedGarbage (state_after old)
    showed_before carried moment y k at =
        let items = items_in k [] (state_after old).entries in
        showed_since moment y k items (carried x.shown k items (at, refl)) ∙ sym (ap (λ (o : Option ℕ). moment_in text o (state_after old)) at)

    by_age : Carried a → (is_so : Bool) (pod : PodId) → line.pod ≡ Some pod → stands (state_after old).namespace (Its pod) ≡ true → ShowedAge x.shown area.ExitedGarbage text (is_young times.now times.grace) is_so me x.from x.upto →
        is_young times.now times.grace (mark_moment_at text pod area.ExitedGarbage (state_after old)) ≡ is_so
    by_age carried is_so pod is there y =
        let same : x.shown ≡ pod = let e : Some x.shown ≡ Some pod = sym x.pod_is ∙ is in cc in
        let stood = subst (λ (q : PodId). stands (state_after old).namespace (Its q) ≡ true) (sym same) there in
        let before = found (folder_at (state_after old).namespace here) refl stood in
        subst (λ (q : PodId). is_young times.now times.grace (mark_moment_at text q area.ExitedGarbage (state_after old)) ≡ is_so) same
        (subst (λ (o : Option ℕ). is_young times.now times.grace o ≡ is_so) before y.2)
      where
        found : (o : Option ℕ) → folder_at (state_after old).namespace here ≡ o → is_some o ≡ true → y.0 ≡ mark_moment_at text x.shown area.ExitedGarbage (state_after old)
        found None at some = cc
        found (Some k) at some = showed_before carried y.0 y.1 k at

    told_here : Carried a → P line
    told_here carried pod is place there = record { rests = λ p deed. by_age carried true pod is there ((x.dealt.rested refl).rests p deed); over = λ tried. by_age carried false pod is there ((x.dealt.rested refl).over tried) }

  pub aged_after : (skipped later : List Area) (ls : List GcLine) (a b : List Event) → AllByRecursion Others skipped → AllByRecursion Others later → ArePassed Can times (skipped ++ area.ExitedGarbage ∷ later) ls me a b → Grew old a → Grew b new → Carried a → AllByRecursion P ls
  aged_after [] later ls a b skip others x to_a last carried =
      let more = grown_more (passes_grown Can times later x.others me x.between b x.rest) last in
      let t : TellsShown Can times area.ExitedGarbage x.own me a x.between = x.first in
      let its = all_weaker (λ l. IsLineOfTurn Can times area.ExitedGarbage t.names l me t.listed x.between) P (λ l y. told_here a x.between to_a more t l y carried) x.own t.tells.each in
      subst (λ (l : List GcLine). AllByRecursion P l) (sym x.lines_are) (all_both P x.own x.others its (passes_elsewhere Can times me area.ExitedGarbage P elsewhere later x.others x.between b others x.rest))
  aged_after (here ∷ skipped) later ls a b skip others x to_a last carried =
      let more = grown_more (passes_grown Can times (skipped ++ area.ExitedGarbage ∷ later) x.others me x.between b x.rest) last in
      let first = passed_grown Can times here x.own me a x.between x.first in
      let then : Carried x.between = λ pod k items held. over_pass Can times me old new quiet conforming (Its pod) refl k items here x.own a x.between skip.0.0 skip.0.1 x.first to_a more (carried pod k items held) in
      subst (λ (l : List GcLine). AllByRecursion P l) (sym x.lines_are)
      (all_both P x.own x.others (passed_elsewhere Can times me area.ExitedGarbage P elsewhere here x.own a x.between skip.0.1 x.first) (aged_after skipped later x.others x.between b skip.1 others x.rest (grown_more to_a first) last then))

module _ (times : Times) (lines : List GcLine) {me : ℕ} {old new : List Event} (ext : Extends (in_process (sweeps times.now)) me old new) (quiet : Quiet me old new) (m : Meanwhile (SweepsByPasses times lines) me old new) (conforming : IsConforming new) where
  abbrev May : Type 0
  May = Knew (MaySweepAll times.now times.expire) m.so.from

  pub gc_rests : AllByRecursion (RestsBefore times old) lines
  gc_rests =
      let finish : Grew m.ended new = record { more = m.finishes.more; grown = m.finishes.grown } in
      let start : Grew old m.begun = record { more = m.begins.more; grown = m.begins.grown } in
      let rest = grown_more (passes_grown May times places lines me m.begun m.ended m.so.swept) finish in
      aged_after May times me old new quiet conforming (area.Embryo ∷ area.Prepare ∷ area.Prepared ∷ area.Run ∷ []) (area.Garbage ∷ []) lines m.begun m.ended ((refl, refl), ((refl, refl), ((refl, refl), ((refl, refl), tt)))) ((refl, refl), tt) m.so.swept start finish
      (λ pod k items held. held_on May times me old new quiet conforming (pod_spot pod area.ExitedGarbage) refl k items is_begin old m.begun m.begins (λ r h. begin_off (pod_spot pod area.ExitedGarbage) r h) grown_none rest held)

  pub gc_aged : AllByRecursion (AgedAsBefore times old) lines
  gc_aged =
      all_weaker (RestsBefore times old) (AgedAsBefore times old) (λ l r. record { rests = λ pod p is place there deed. (r pod is place there).rests p deed; over = λ pod is place there deed. (r pod is place there).over (ap is_tried deed) }) lines gc_rests
