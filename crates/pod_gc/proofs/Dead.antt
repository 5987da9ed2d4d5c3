-- What is so of prepare and of run is so where a pod may lie dead.
use Rattle.std.proofs.Common.{◌≡◌, ◌≤◌, ◌⊎◌, inl, inr, ℕ, suc, true, false, refl, sym, ap, ◌∙◌, arith}
use Rattle.dir_model.specs.declared.area.Area.{Area}
use Rattle.dir_model.specs.declared.area.Area.TheVariants.{Prepare, Run}
use Rattle.dir_model.specs.Areas.{rank, is_stage}
use Rattle.pod_gc.specs.RemovalRequests.{is_garbage_place, may_lie_dead}

pub at_dead : (P : Area → Type 0) → P Prepare → P Run → (a : Area) → may_lie_dead a ≡ true → P a
at_dead P prepare run Prepare dead = prepare
at_dead P prepare run Run dead = run
at_dead P prepare run _ dead = cc

pub dead_by : (a : Area) → (a ≡ Prepare) ⊎ (a ≡ Run) → may_lie_dead a ≡ true
dead_by a (inl is) = ap may_lie_dead is
dead_by a (inr is) = ap may_lie_dead is

pub dead_rank : (a : Area) → may_lie_dead a ≡ true → rank a ≤ 5
dead_rank = at_dead (λ a. rank a ≤ 5) (omega arith) (omega arith)

pub dead_stage : (a : Area) → may_lie_dead a ≡ true → is_stage a ≡ true
dead_stage = at_dead (λ a. is_stage a ≡ true) refl refl

pub dead_later : (a : Area) → may_lie_dead a ≡ true → (n : ℕ) × (rank a ≡ suc n)
dead_later = at_dead (λ a. (n : ℕ) × (rank a ≡ suc n)) (0, refl) (2, refl)

pub dead_elsewhere : (a : Area) → may_lie_dead a ≡ true → is_garbage_place a ≡ false
dead_elsewhere = at_dead (λ a. is_garbage_place a ≡ false) refl refl

pub dead_apart : (a other : Area) → may_lie_dead a ≡ true → may_lie_dead other ≡ false → a ≡ other → ⊥
dead_apart a other dead apart is = let clash : true ≡ false = sym dead ∙ (ap may_lie_dead is ∙ apart) in cc
