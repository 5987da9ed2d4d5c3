-- Labels: their values by name, and which lists of labels may stand.
use Rattle.std.specs.Prelude.{ℕ, Bool, ◌||◌, List, [], ◌∷◌, Option, Some, None, option_map, map, take, length, codes, slice_index_or, if◌then◌else◌}
use Rattle.std.specs.List.{list_any}
use Rattle.std.specs.Option.{option_or}
use Rattle.std.specs.Str.{bytes_eq}
use Rattle.ac_types.specs.FirstBelow.{first_below}
use Rattle.ac_types.specs.declared.label.Label.{Label}
use Rattle.ac_types.specs.declared.label.LabelFault.{LabelFault}
use Rattle.ac_types.specs.declared.label.LabelFault.TheVariants.{LabelTwice, LabelName, BadOs, BadArch}

-- the name and the value of the label at a place
abbrev pub name_at : List Label → ℕ → List ℕ
name_at ls k = slice_index_or (map (λ (l : Label). l.name) ls) k []

abbrev pub value_at : List Label → ℕ → List ℕ
value_at ls k = slice_index_or (map (λ (l : Label). l.value) ls) k []

-- the place of the first label of that name
abbrev pub place_of : List ℕ → List Label → Option ℕ
place_of name ls = first_below (λ k. bytes_eq (name_at ls k) name) (length ls)

-- the value of the first label of that name
abbrev pub value_of : List ℕ → List Label → Option (List ℕ)
value_of name ls = option_map (value_at ls) (place_of name ls)

-- a label before that place has the same name
abbrev pub came_before : List Label → ℕ → Bool
came_before ls k = list_any (λ (l : Label). bytes_eq l.name (name_at ls k)) (take k ls)

-- the label at that place is named `name`
abbrev pub is_reserved : List Label → ℕ → Bool
is_reserved ls k = bytes_eq (name_at ls k) (codes "name")

-- the first label that is named `name`, or whose name came before
abbrev pub name_fault : List Label → Option LabelFault
name_fault ls =
    option_map (λ k. if is_reserved ls k then LabelName k else LabelTwice k)
    (first_below (λ k. is_reserved ls k || came_before ls k) (length ls))

-- the architectures of an operating system; none where it is not known
abbrev pub architectures : List ℕ → List (List ℕ)
architectures os =
    if bytes_eq os (codes "linux") then
    codes "amd64" ∷ codes "i386" ∷ codes "aarch64" ∷ codes "aarch64_be" ∷ codes "armv6l" ∷ codes "armv7l"
    ∷ codes "armv7b" ∷ codes "ppc64" ∷ codes "ppc64le" ∷ codes "s390x" ∷ []
    else if bytes_eq os (codes "freebsd") then codes "amd64" ∷ codes "i386" ∷ codes "arm" ∷ []
    else if bytes_eq os (codes "darwin") then codes "x86_64" ∷ codes "i386" ∷ []
    else []

-- the fault of the label `arch` at a place, if there is one: it is not among those known
abbrev pub arch_fault : List (List ℕ) → List Label → Option ℕ → Option LabelFault
arch_fault known ls None = None
arch_fault known ls (Some k) = if list_any (λ a. bytes_eq a (value_at ls k)) known then None else Some (BadArch k)

-- an operating system at a place that is not known, or else the fault of `arch`
abbrev pub platform_fault_of : List (List ℕ) → ℕ → List Label → Option LabelFault
platform_fault_of [] k ls = Some (BadOs k)
platform_fault_of (a ∷ known) k ls = arch_fault (a ∷ known) ls (place_of (codes "arch") ls)

-- the fault of the label `os` at a place, if there is one
abbrev pub platform_fault_at : Option ℕ → List Label → Option LabelFault
platform_fault_at None ls = None
platform_fault_at (Some k) ls = platform_fault_of (architectures (value_at ls k)) k ls

-- the first of `os` and `arch` that is not in the table; without `os`, none
abbrev pub platform_fault : List Label → Option LabelFault
platform_fault ls = platform_fault_at (place_of (codes "os") ls) ls

-- the first fault of a list of labels: the names in order, then `os`, then `arch`
abbrev pub label_fault : List Label → Option LabelFault
label_fault ls = option_or (name_fault ls) (platform_fault ls)
