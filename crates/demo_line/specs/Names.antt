-- The names of the demo's images, and the files in their roots.
use Rattle.std.specs.Prelude.{ℕ, List, ◌++◌, codes}
use Rattle.std.specs.Fmt.{decimal}

-- `demo/i` and the number
abbrev pub demo_name : ℕ → List ℕ
demo_name i = codes "demo/i" ++ decimal i

-- the file that all have, and `/d` and the number
abbrev pub common_path : List ℕ
common_path = codes "/common"

abbrev pub own_path : ℕ → List ℕ
own_path i = codes "/d" ++ decimal i
