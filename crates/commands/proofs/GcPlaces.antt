-- What is said of the lines of one place alone holds of those of passes over other places.
use Rattle.std.proofs.Common.{◌≡◌, inl, inr, ◌==◌, ℕ, true, false, None, List, [], ◌∷◌, refl, sym, ap, subst, ◌∙◌}
use Rattle.std.specs.List.{AllByRecursion}
use Rattle.dir_model.specs.declared.area.Area.{Area}
use Rattle.dir_model.specs.declared.area.Area.TheVariants as area
use Rattle.dir_model.specs.declared.event.Event.{Event}
use Rattle.dir_model.specs.Areas.{rank, is_stage}
use Rattle.dir_model.proofs.Lists.{all_both, all_weaker, same_self}
use Rattle.pod_gc.specs.declared.ages.Times.{Times}
use Rattle.pod_gc.specs.declared.line.Deed.TheVariants.{BusyGate}
use Rattle.pod_gc.specs.declared.line.GcLine.{GcLine}
use Rattle.pod_gc.specs.Told.{IsLineOfTurn, TellsShown, PassedOverPods, ArePassed}

-- another place of pods
abbrev pub Elsewhere : Area → Area → Type 0
Elsewhere place here = (is_stage here ≡ true) × ((rank place == rank here) ≡ false)

module _ (Can : Type 0) (times : Times) (me : ℕ) (place : Area) (P : GcLine → Type 0) (elsewhere : (line : GcLine) → (line.place ≡ place → ⊥) → P line) where
  not_here : (here other : Area) → other ≡ here → (rank place == rank here) ≡ false → other ≡ place → ⊥
  not_here here other at apart is =
      let clash : true ≡ false = sym (same_self (rank place)) ∙ (ap (λ (p : Area). rank place == rank p) (sym is ∙ at) ∙ apart) in cc

  shown_elsewhere : (here : Area) (ls : List GcLine) (a b : List Event) → (rank place == rank here) ≡ false → TellsShown Can times here ls me a b → AllByRecursion P ls
  shown_elsewhere here ls a b apart t = all_weaker (λ l. IsLineOfTurn Can times here t.names l me t.listed b) P (λ l x. elsewhere l (λ is. not_here here l.place x.place_is apart is)) ls t.tells.each

  pub passed_elsewhere : (here : Area) (ls : List GcLine) (a b : List Event) → (rank place == rank here) ≡ false → PassedOverPods Can times here ls me a b → AllByRecursion P ls
  passed_elsewhere area.Embryo ls a b apart (inl g) = shown_elsewhere area.Embryo ls g.locked g.done apart g.tells
  passed_elsewhere area.Embryo ls a b apart (inr w) =
      subst (λ (l : List GcLine). AllByRecursion P l) (sym w.line_is) (elsewhere (record { place = area.Embryo; pod = None; deed = BusyGate }) (λ is. not_here area.Embryo area.Embryo refl apart is), tt)
  passed_elsewhere here ls a b apart t = shown_elsewhere here ls a b apart t

  pub passes_elsewhere : (ps : List Area) (ls : List GcLine) (a b : List Event) → AllByRecursion (Elsewhere place) ps → ArePassed Can times ps ls me a b → AllByRecursion P ls
  passes_elsewhere [] ls a b others x = subst (λ (l : List GcLine). AllByRecursion P l) (sym x.0) tt
  passes_elsewhere (here ∷ ps) ls a b others x =
      subst (λ (l : List GcLine). AllByRecursion P l) (sym x.lines_are) (all_both P x.own x.others (passed_elsewhere here x.own a x.between others.0.1 x.first) (passes_elsewhere ps x.others x.between b others.1 x.rest))
