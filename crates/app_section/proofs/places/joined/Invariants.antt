use Rattle.std.proofs.Common.{◌≡◌, take, map, string_bytes}
use Rattle.std.specs.List.{flat_map}
use Rattle.app_section.specs.Places.{with_slash}
use Rattle.app_section.proofs.places.joined.Given as goal

abbrev pub invariant-loop-segment : goal.invariant-loop-segment
invariant-loop-segment l =
    string_bytes l.place ≡ flat_map with_slash (map (λ s. s.now) (take l.segment-index l.segments))
