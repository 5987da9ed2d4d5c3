-- What is drawn for the commands of the demo.
use Rattle.std.specs.Prelude.{ℕ, List, ◌∷◌, ◌++◌}
use Rattle.std.specs.Int.{to_be_bytes, w32}
use Rattle.dir_model.specs.Names.{zeros}
use Rattle.dir_model.specs.declared.intent.Draw.{Draw}

-- 16 bytes that begin with the one number and end with the other, in four bytes
abbrev pub drawn : ℕ → ℕ → List ℕ
drawn first last = first ∷ (zeros 11 ++ to_be_bytes w32 last)

abbrev pub draw_of : List ℕ → Draw
draw_of bytes = record { uuid = record { bytes = bytes }; token = bytes; key = zeros 64 }

-- for the making of a pod
abbrev pub pod_draw : ℕ → Draw
pod_draw pod = draw_of (drawn 0 pod)

-- for another command, counted from 0
abbrev pub command_draw : ℕ → Draw
command_draw number = draw_of (drawn 1 number)
