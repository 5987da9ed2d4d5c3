-- In which file a reading of a path goes on.
use Rattle.std.specs.Prelude.{◌≡◌, ◌<◌, ℕ, List, Option, Some, Result, Ok, string_bytes}
use Rattle.dir_trait.specs.declared.bundle.BundleError.{BundleError}
use Rattle.host_files.specs.declared.files.OpenedFile.{OpenedFile}

-- a later piece of the path that was opened is read in the same opened file
abbrev pub ReadsOpenedFile : Option OpenedFile → List ℕ → ℕ → Result OpenedFile BundleError → Type 0
ReadsOpenedFile opened path at result = (file : OpenedFile) → opened ≡ Some file → string_bytes file.path ≡ path → 0 < at → result ≡ Ok file

-- and it stays opened, whatever comes of the reading
abbrev pub StaysOpened : Option OpenedFile → List ℕ → ℕ → Option OpenedFile → Type 0
StaysOpened old path at new = (file : OpenedFile) → old ≡ Some file → string_bytes file.path ≡ path → 0 < at → new ≡ Some file
