use Rattle.std.proofs.Common.{◌≡◌, ◌++◌, ◌∷◌, [], ℕ, List, map, take, sym, ◌∙◌, ap, subst, arith, ◌+◌}
use Rattle.std.proofs.lemmas.List.{append-nil, map-append, take_all}
use Rattle.ac_types.specs.SeenTexts.{HasSeen}
use Rattle.manifests.specs.declared.mount.Mount.{Mount}
use Rattle.pod_manifest.specs.FirstOfEach.{new_of_each}
use Rattle.pod_manifest.specs.Generation.{empty_volume}
use Rattle.pod_manifest.proofs.Built.{front_more, texts_built, texts_seen}
use Rattle.pod_manifest.proofs.volumes.with_mounted.Goals as goal

pub loop-mount-init : goal.loop-mount-init
loop-mount-init c = record {
  built = λ known has. sym (append-nil c.args.volumes);
  seen = λ known has. let P : List (List ℕ) → Type 0 = λ ks. HasSeen c.args.seen.now ks in subst P (sym (append-nil known)) has;
}

pub loop-mount-preserved : goal.loop-mount-preserved
loop-mount-preserved c =
    let volume : Mount → List ℕ = λ m. m.volume in
    let i = c.loop-mount.mount-index in
    let before = map volume (take i c.args.mounts.now) in
    let name = c.mount-item.result.volume in
    let more : map volume (take (i + 1) c.args.mounts.now) ≡ before ++ name ∷ [] =
    ap (map volume) (front_more c.args.mounts.now i c.mount-item.result c.loop-mount-test.true c.mount-item.is)
    ∙ map-append volume (take i c.args.mounts.now) (c.mount-item.result ∷ []) in
    record {
      built = λ known has.
          texts_built empty_volume known c.args.volumes before (name ∷ []) c.loop-mount.volumes c.in_ok-volumes.volumes
          (c.loop-mount.invariant.built known has)
          (c.in_ok-volumes.ensures.volumes (known ++ before) (c.loop-mount.invariant.seen known has))
          ∙ ap (λ (ns : List (List ℕ)). c.args.volumes ++ map empty_volume (new_of_each (λ (n : List ℕ). n) known ns)) (sym more);
      seen = λ known has.
          texts_seen c.with_volume.new.seen known before (name ∷ []) (map volume (take (i + 1) c.args.mounts.now)) more
          (c.in_ok-volumes.ensures.seen (known ++ before) (c.loop-mount.invariant.seen known has));
    }

pub returns : goal.returns
returns c =
    let all = take_all c.loop-mount.mount-index c.args.mounts.now (omega arith) in
    record {
      volumes = λ known has.
          c.loop-mount.invariant.built known has
          ∙ ap (λ (ms : List Mount). c.args.volumes ++ map empty_volume (new_of_each (λ (n : List ℕ). n) known (map (λ (m : Mount). m.volume) ms))) all;
      seen = λ known has.
          let P : List Mount → Type 0 = λ ms. HasSeen c.loop-mount.seen (known ++ map (λ (m : Mount). m.volume) ms) in
          subst P all (c.loop-mount.invariant.seen known has);
    }
