-- The texts of errors.
use Rattle.std.specs.Prelude.{ℕ, List, ◌++◌, codes}
use Rattle.std.specs.Fmt.{decimal}
use Rattle.ac_types.specs.declared.fault.ReadError.{ReadError}
use Rattle.ac_types.specs.declared.fault.ReadError.TheVariants.{Bad}
use Rattle.ac_types.specs.declared.fault.ReadError.TheVariants as read_error
use Rattle.ac_types.specs.declared.image_ref.RefError.{RefError}
use Rattle.ac_types.specs.declared.image_ref.RefError.TheVariants.{BadRef}
use Rattle.ac_types.specs.declared.image_ref.RefError.TheVariants as ref_error
use Rattle.ac_types.specs.declared.label.LabelFault.{LabelFault}
use Rattle.ac_types.specs.declared.label.LabelFault.TheVariants.{LabelTwice, LabelName, BadOs, BadArch}
use Rattle.ac_types.specs.declared.name_error.NameError.{NameError}
use Rattle.ac_types.specs.declared.name_error.NameError.TheVariants.{BadByte}
use Rattle.ac_types.specs.declared.name_error.NameError.TheVariants as name_error
use Rattle.ac_types.specs.FaultNumbers.{number_of}

-- that memory ran out
abbrev pub memory_text : List ℕ
memory_text = codes "out of memory"

-- why a text is no name
abbrev pub name_error_text : NameError → List ℕ
name_error_text name_error.Empty = codes "empty name"
name_error_text (BadByte place) = codes "bad byte " ++ (decimal place ++ codes " in a name")
name_error_text name_error.NoMemory = memory_text

-- why a text is no reference
abbrev pub ref_error_text : RefError → List ℕ
ref_error_text (BadRef place) = codes "bad reference at " ++ decimal place
ref_error_text ref_error.NoMemory = memory_text

-- why labels may not stand
abbrev pub label_fault_text : LabelFault → List ℕ
label_fault_text (LabelTwice place) = codes "label " ++ (decimal place ++ codes " has a name that came before")
label_fault_text (LabelName place) = codes "label " ++ (decimal place ++ codes " is named name")
label_fault_text (BadOs place) = codes "label " ++ (decimal place ++ codes " is no known os")
label_fault_text (BadArch place) = codes "label " ++ (decimal place ++ codes " is no architecture of the os")

-- why a value wasn't read
abbrev pub read_error_text : ReadError → List ℕ
read_error_text (Bad fault) = codes "refusal " ++ (decimal (number_of fault.kind) ++ (codes " at " ++ fault.path))
read_error_text read_error.NoMemory = memory_text
