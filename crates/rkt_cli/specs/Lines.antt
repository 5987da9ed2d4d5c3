-- Which command the words are.
use Rattle.std.specs.Prelude.{◌≡◌, ◌≤◌, ℕ, Option, Some, None, List, map, Result, Ok, Err, String, string_bytes}
use Rattle.std.specs.Global.{Global}
use Rattle.rkt_words.specs.Lines.{line_of}
use Rattle.rkt_words.specs.declared.error.WordsError.{WordsError}
use Rattle.rkt_words.specs.declared.error.WordsError.TheVariants.{Usage, NoMemory}
use Rattle.rkt_words.specs.declared.line.Asked.{Asked}
use Rattle.rkt_words.specs.declared.line.Line.{Line as Words}
use Rattle.rkt_words.specs.declared.line.Line.TheVariants as words
use Rattle.commands.specs.Wants.{Wants}
use Rattle.rkt_cli.specs.declared.line.Line.{Line}
use Rattle.rkt_cli.specs.declared.line.Line.TheVariants.{Status, PodList, CatManifest, Validate, ImageList, ImageImport, ImageRm, ImageGc, Prepare, RunPrepared, Run, Rm, Gc, Metadata, Demo}

-- what a pod is to be made of
abbrev pub wants_of : Asked → Wants
wants_of asked = record { images = asked.images; wishes = record { volumes = asked.volumes; mounts = asked.mounts } }

-- the line of a command, with its values
abbrev pub known_line : Words → Line
known_line (words.Status pod) = Status pod
known_line words.List = PodList
known_line (words.CatManifest pod) = CatManifest pod
known_line (words.Prepare asked) = Prepare (wants_of asked)
known_line (words.Run asked address) = Run (wants_of asked) address
known_line (words.RunPrepared pod address) = RunPrepared pod address
known_line (words.Rm pod) = Rm pod
known_line (words.Gc grace expire) = Gc grace expire
known_line (words.Validate path) = Validate path
known_line (words.ImageImport path) = ImageImport path
known_line words.ImageList = ImageList
known_line (words.ImageRm key) = ImageRm key
known_line words.ImageGc = ImageGc
known_line (words.Demo count) = Demo count
known_line (words.Metadata address count) = Metadata address count

abbrev pub line_read : Result Words ℕ → Option Line
line_read (Ok words) = Some (known_line words)
line_read (Err place) = None

-- of the words as the program has them
abbrev pub line_of_arguments : List (String Global) → Option Line
line_of_arguments words = line_read (line_of (map string_bytes words))

-- a demo has a hundred images at most
abbrev pub IsWithinLimits : Line → Type 0
IsWithinLimits (Demo count) = count ≤ 100
IsWithinLimits line = Unit {0}

-- what was read is the line; usage says that there is none; memory may run out at any words
abbrev pub IsLineRead : Option Line → Result Line WordsError → Type 0
IsLineRead line (Ok read) = line ≡ Some read
IsLineRead line (Err (Usage place)) = line ≡ None
IsLineRead line (Err NoMemory) = Unit {0}
