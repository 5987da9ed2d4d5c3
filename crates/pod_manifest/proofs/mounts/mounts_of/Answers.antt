use Rattle.std.proofs.Common.{◌++◌, ℕ, List, map, take, sym, ◌∙◌, ap, subst, refl, arith}
use Rattle.std.proofs.lemmas.List.{append-nil, take_all}
use Rattle.ac_types.specs.SeenTexts.{HasSeen}
use Rattle.app_section.specs.declared.mount_point.MountPoint.{MountPoint}
use Rattle.pod_manifest.specs.FirstOfEach.{new_of_each}
use Rattle.pod_manifest.specs.Generation.{mount_at, mount_paths}
use Rattle.pod_manifest.proofs.Built.{built_more, keys_more}
use Rattle.pod_manifest.proofs.mounts.mounts_of.Goals as goal

pub loop-point-init : goal.loop-point-init
loop-point-init c =
    let P : List (List ℕ) → Type 0 = λ ks. HasSeen c.in_ok-seen.seen ks in
    record {
      built = c.in_ok-mounts.ensures ∙ c.mounts-asked.ensures.mounts ∙ sym (append-nil c.args.options.now.mounts);
      seen = subst P (ap mount_paths c.mounts-asked.ensures.mounts ∙ sym (append-nil (mount_paths c.args.options.now.mounts))) c.in_ok-seen.ensures;
    }

pub loop-point-preserved : goal.loop-point-preserved
loop-point-preserved c =
    let key : MountPoint → List ℕ = λ p. p.path in
    let known = mount_paths c.args.options.now.mounts in
    let points = c.args.points.now in
    let i = c.loop-point.point-index in
    let keys = known ++ map key (take i points) in
    record {
      built = built_more key (mount_at c.args.options.now c.args.app.now) known c.args.options.now.mounts points i c.point-item.result
          c.loop-point.mounts c.in_ok-mounts-2.mounts c.loop-point-test.true c.point-item.is c.loop-point.invariant.built
          (c.in_ok-mounts-2.ensures.mounts keys c.loop-point.invariant.seen);
      seen = keys_more key c.with_point.new.seen known points i c.point-item.result c.point-item.result.path c.loop-point-test.true c.point-item.is
          refl (c.in_ok-mounts-2.ensures.seen keys c.loop-point.invariant.seen);
    }

pub returns : goal.returns
returns c =
    c.loop-point.invariant.built
    ∙ ap (λ (ps : List MountPoint). c.args.options.now.mounts ++ map (mount_at c.args.options.now c.args.app.now)
    (new_of_each (λ (p : MountPoint). p.path) (mount_paths c.args.options.now.mounts) ps))
    (take_all c.loop-point.point-index c.args.points.now (omega arith))
