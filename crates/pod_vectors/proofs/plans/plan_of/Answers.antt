use Rattle.std.proofs.Common.{◌≡◌, false, rules, bytes_eq, map, List, sym, subst}
use Rattle.std.specs.List.{IsDistinct}
use Rattle.pod_plan.specs.declared.pod_app.PodApp.{PodApp}
use Rattle.pod_vectors.proofs.plans.plan_of.Goals as goal

pub pod_plan-requires : goal.pod_plan-requires
unfolding IsDistinct
pod_plan-requires c =
    let differ : bytes_eq c.args.first.name c.args.second.name ≡ false = search (rules, c.if-eq.false, c.eq.ensures, c.as_str.ensures.text, c.as_str-2.ensures.text) in
    record { names = subst (λ (apps : List PodApp). IsDistinct bytes_eq (map (λ (app : PodApp). app.name) apps)) (sym c.as_slice.ensures) ((differ, tt), (tt, tt)) }
