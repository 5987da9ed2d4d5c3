use Rattle.std.proofs.Common.{◌≡◌, take}
use Rattle.commands.specs.PodList.{list_text}
use Rattle.commands.proofs.list.pod_lines.Given as goal

abbrev pub invariant-lines : goal.invariant-lines
invariant-lines l = l.text ≡ list_text (take l.line-index l.lines)
