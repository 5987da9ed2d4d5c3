use Rattle.std.proofs.Common.{◌≡◌}
use Rattle.demo_line.specs.Ways.{rendering_size}
use Rattle.demo_line.specs.Numbers.{is_run_pod, fails, count_below, sum_below}
use Rattle.demo_line.proofs.numbers.demo_numbers.Given as goal

abbrev pub invariant-pods : goal.invariant-pods
invariant-pods l = record {
  ran : l.ran ≡ count_below is_run_pod l.pod;
  failed : l.failed ≡ count_below fails l.pod;
  entries : l.entries ≡ sum_below rendering_size l.pod;
}
