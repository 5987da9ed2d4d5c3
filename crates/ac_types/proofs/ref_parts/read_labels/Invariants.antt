use Rattle.std.proofs.Common.{◌≡◌, ◌<◌, ◌+◌, ◌^◌, ℕ, List, map, drop, Bor}
use Rattle.ac_types.specs.References.{labels_from}
use Rattle.ac_types.specs.ReferenceSteps.{parts_size}
use Rattle.ac_types.specs.SeenTexts.{HasSeen}
use Rattle.ac_types.specs.declared.label.Label.{Label}
use Rattle.ac_types.proofs.ref_parts.read_labels.Given as goal

abbrev pub invariant-loop-part : goal.invariant-loop-part
invariant-loop-part l = record {
  read : labels_from l.place l.labels (drop l.part-index (map (λ (p : Bor (List ℕ)). p.now) l.parts))
      ≡ labels_from l.begin l.fn.before (map (λ (p : Bor (List ℕ)). p.now) l.parts);
  seen : HasSeen l.seen (map (λ (x : Label). x.name) l.labels);
  fits : l.place + parts_size (drop l.part-index (map (λ (p : Bor (List ℕ)). p.now) l.parts)) < 2 ^ 64;
}
