use Rattle.std.proofs.Common.{◌≡◌, ◌∷◌, [], suc, List, ℕ, refl, sym, subst, arith}
use Rattle.std.specs.List.{All}
use Rattle.std.proofs.lemmas.List.Elements.{All-nil, All-cons}
use Rattle.path_map.specs.declared.entry.Entry.{Entry}
use Rattle.path_map.specs.Entries.{Entries}
use Rattle.tree_digest.specs.Listings.{IsListable}
use Rattle.tree_digest.proofs.Listables.{listable_in_list, listable_by_list}
use Rattle.tree_digest.proofs.maps.are_listable.Goals as goal

Listable : List ℕ × Entry → Type 0
Listable e = IsListable e.1

pub returns-then-not-is_listable : goal.returns-then-not-is_listable
unfolding Listable
returns-then-not-is_listable c =
    let e : List ℕ × Entry = (c.in-Some._path.now, c.in-Some.entry.now) in
    let step : c.loop-path._path-iterator ≡ e ∷ c.next.new.self = c.in-Some.ensures.steps in (
      λ bad. cc,
      λ all.
          let rest = subst (All Listable) step (c.loop-path.invariant.on (listable_in_list c.args.map.now c.iter-path-items.ensures.kind all)) in
          c.if-not-is_listable.ensures.1 (rest 0 e (omega arith)),
    )

pub loop-path-preserved : goal.loop-path-preserved
unfolding Listable
loop-path-preserved c =
    let e : List ℕ × Entry = (c.in-Some._path.now, c.in-Some.entry.now) in
    let rest : Entries = c.next.new.self in
    let step : c.loop-path._path-iterator ≡ e ∷ rest = c.in-Some.ensures.steps in
    record {
      back = λ all. c.loop-path.invariant.back (subst (All Listable) (sym step) (All-cons Listable e rest (c.if-not-is_listable.ensures.0 refl) all));
      on = λ all.
          let both = subst (All Listable) step (c.loop-path.invariant.on all) in
          λ k d inside. both (suc k) d (omega (arith, inside));
    }

pub returns : goal.returns
unfolding Listable
returns c =
    let none : c.loop-path._path-iterator ≡ [] = c.in-None.ensures.steps.0 in (
      λ yes. listable_by_list c.args.map.now (c.loop-path.invariant.back (subst (All Listable) (sym none) (All-nil Listable))),
      λ all. refl,
    )
