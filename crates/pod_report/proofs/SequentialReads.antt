-- Where a pod stands in one area at most, a read gives that area.
use Rattle.std.proofs.Common.{◌≡◌, ◌==◌, Bool, true, false, cond, Some, refl, sym, ap, ◌∙◌}
use Rattle.dir_model.specs.declared.area.Area.{Area}
use Rattle.dir_model.specs.declared.area.Area.TheVariants as area
use Rattle.dir_model.specs.declared.area.Phase.{Phase}
use Rattle.dir_model.specs.declared.pod.PodId.{PodId}
use Rattle.dir_model.specs.Areas.{rank, is_stage, phase_in}
use Rattle.dir_model.specs.State.{DirState, stands, is_owned_at}
use Rattle.dir_model.proofs.Lists.{same_self}
use Rattle.phase_read.specs.declared.found.Found.{Found}
use Rattle.phase_read.specs.declared.found.Found.TheVariants.{At, Gone}
use Rattle.dir_model.specs.Spots.{pod_spot}
use Rattle.phase_read.specs.Sequential.{found_in, sequential_read}

module _ (s : DirState) (pod : PodId) where
  abbrev Stands : Area → Bool
  Stands a = stands s.namespace (pod_spot pod a)

  found_is : (a : Area) (p : Phase) (later : Found) → Stands a ≡ true → phase_in a (is_owned_at s.namespace (pod_spot pod a)) ≡ Some p → cond (Stands a) (found_in a (phase_in a (is_owned_at s.namespace (pod_spot pod a)))) later ≡ At p a
  found_is a p later there is = rw (there, is) refl

  later_is : (a : Area) (here later found : Found) → Stands a ≡ false → later ≡ found → cond (Stands a) here later ≡ found
  later_is a here later found off is = rw off is

  pub gone_is : ((a : Area) → is_stage a ≡ true → Stands a ≡ false) → sequential_read s pod ≡ Gone
  gone_is off =
      later_is area.Embryo _ _ _ (off area.Embryo refl) (later_is area.Prepare _ _ _ (off area.Prepare refl) (later_is area.Prepared _ _ _ (off area.Prepared refl)
      (later_is area.Run _ _ _ (off area.Run refl) (later_is area.ExitedGarbage _ _ _ (off area.ExitedGarbage refl) (later_is area.Garbage _ _ _ (off area.Garbage refl) refl)))))

  module _ (here : Area) (p : Phase) (one : (a : Area) → is_stage a ≡ true → Stands a ≡ true → a ≡ here) where
    off : (a : Area) → is_stage a ≡ true → (rank a == rank here) ≡ false → Stands a ≡ false
    off a stage apart = by (Stands a) refl
      where
        by : (b : Bool) → Stands a ≡ b → b ≡ false
        by false is = refl
        by true is = let clash : true ≡ false = sym (ap (λ (x : Area). rank a == rank x) (sym (one a stage is)) ∙ same_self (rank a)) ∙ apart in cc

    here_is : (a : Area) → here ≡ a → is_stage a ≡ true → Stands a ≡ true → phase_in a (is_owned_at s.namespace (pod_spot pod a)) ≡ Some p → sequential_read s pod ≡ At p a
    here_is area.Embryo at stage there is = found_is area.Embryo p _ there is
    here_is area.Prepare at stage there is = later_is area.Embryo _ _ _ (off area.Embryo refl (ap (λ (x : Area). 0 == rank x) at)) (found_is area.Prepare p _ there is)
    here_is area.Prepared at stage there is =
        later_is area.Embryo _ _ _ (off area.Embryo refl (ap (λ (x : Area). 0 == rank x) at)) (later_is area.Prepare _ _ _ (off area.Prepare refl (ap (λ (x : Area). 1 == rank x) at)) (found_is area.Prepared p _ there is))
    here_is area.Run at stage there is =
        later_is area.Embryo _ _ _ (off area.Embryo refl (ap (λ (x : Area). 0 == rank x) at)) (later_is area.Prepare _ _ _ (off area.Prepare refl (ap (λ (x : Area). 1 == rank x) at))
        (later_is area.Prepared _ _ _ (off area.Prepared refl (ap (λ (x : Area). 2 == rank x) at)) (found_is area.Run p _ there is)))
    here_is area.ExitedGarbage at stage there is =
        later_is area.Embryo _ _ _ (off area.Embryo refl (ap (λ (x : Area). 0 == rank x) at)) (later_is area.Prepare _ _ _ (off area.Prepare refl (ap (λ (x : Area). 1 == rank x) at))
        (later_is area.Prepared _ _ _ (off area.Prepared refl (ap (λ (x : Area). 2 == rank x) at)) (later_is area.Run _ _ _ (off area.Run refl (ap (λ (x : Area). 3 == rank x) at)) (found_is area.ExitedGarbage p _ there is))))
    here_is area.Garbage at stage there is =
        later_is area.Embryo _ _ _ (off area.Embryo refl (ap (λ (x : Area). 0 == rank x) at)) (later_is area.Prepare _ _ _ (off area.Prepare refl (ap (λ (x : Area). 1 == rank x) at))
        (later_is area.Prepared _ _ _ (off area.Prepared refl (ap (λ (x : Area). 2 == rank x) at)) (later_is area.Run _ _ _ (off area.Run refl (ap (λ (x : Area). 3 == rank x) at))
        (later_is area.ExitedGarbage _ _ _ (off area.ExitedGarbage refl (ap (λ (x : Area). 4 == rank x) at)) (found_is area.Garbage p _ there is)))))
    here_is a at stage there is = cc

    pub there_is : is_stage here ≡ true → Stands here ≡ true → phase_in here (is_owned_at s.namespace (pod_spot pod here)) ≡ Some p → sequential_read s pod ≡ At p here
    there_is stage there is = here_is here refl stage there is
