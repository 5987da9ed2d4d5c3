-- Why a program ends before its command, which words and which data folder it is asked for, and what it draws.
use Rattle.std.specs.Prelude.{◌≡◌, ◌↔◌, ◌==◌, Bool, if◌then◌else◌, ℕ, List, ◌++◌, length, drop, slice_index, codes, Option}
use Rattle.std.specs.Iterator.{Drains}
use Rattle.std.specs.Io.KnownBytes.{Consumes}
use Rattle.uuid.specs.declared.Version.TheVariants.{Random}
use Rattle.uuid.specs.declared.Variant.TheVariants.{RFC4122}
use Rattle.uuid.specs.Parts.{with_version, with_variant}
use Rattle.dir_model.specs.declared.intent.Draw.{Draw}
use Rattle.std.specs.IoError.{error_kind}
use Rattle.std.specs.declared.io.Error.{Error}
use Rattle.std.specs.declared.io.ErrorKind.{ErrorKind}
use Rattle.std.specs.declared.io.ErrorKind.TheVariants.{InvalidData, OutOfMemory}
use Rattle.dir_host.specs.declared.setup.SetupError.{SetupError}
use Rattle.dir_host.specs.declared.setup.SetupError.TheVariants.{Usage, DirFault, NoMemory}

-- the system's error means want of memory, and else that the folder, the clock or the bytes can't be had
pub record IsSetupErrorOf (given : Error) (error : SetupError) : Type 0 where
  pub memory : (error ≡ NoMemory) ↔ (error_kind given ≡ OutOfMemory)
  pub words : error ≡ Usage → ⊥

-- why the words can't be had: one of them isn't UTF-8, memory ran out, or the system failed
abbrev pub words_error : ErrorKind → SetupError
words_error InvalidData = Usage
words_error OutOfMemory = NoMemory
words_error _ = DirFault

-- an iterator gave these in turn, all that it has, behind one that came first
abbrev pub AreBehindFirst : {I X : Type 0} → (I → Option X → I → Type 0) → I → List X → Type 0
AreBehindFirst {X = X} next given words = (all : List X) × Drains next given all × (words ≡ drop 1 all)

-- the path that is meant where this one is given
abbrev pub named_path : List ℕ → List ℕ
named_path text = if length text == 0 then codes "rkt" else text

-- the path isn't seen from the current folder: it begins with a slash
abbrev pub is_absolute : List ℕ → Bool
is_absolute path = slice_index path 0 == 47

-- the next bytes of the source are an identity of version 4, before its version and variant were set, a token and a key
pub record IsDrawnOf (old new : Option (List ℕ)) (draw : Draw) : Type 0 where
  pub identity : List ℕ
  pub bytes : Consumes old new (identity ++ draw.token ++ draw.key)
  pub version : draw.uuid.bytes ≡ with_version (with_variant identity RFC4122) Random
