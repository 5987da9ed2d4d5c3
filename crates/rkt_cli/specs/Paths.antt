-- The path of the file or of the bundle that a line names.
use Rattle.std.specs.Prelude.{ℕ, List, Option, Some, None}
use Rattle.rkt_cli.specs.declared.line.Line.{Line}
use Rattle.rkt_cli.specs.declared.line.Line.TheVariants.{Validate, ImageImport}

abbrev pub path_of_line : Line → Option (List ℕ)
path_of_line (Validate path) = Some path
path_of_line (ImageImport path) = Some path
path_of_line line = None
