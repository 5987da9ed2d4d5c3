-- What a failure of the system means for a bundle, for a stream, and for the data folder.
use Rattle.std.specs.declared.io.ErrorKind.{ErrorKind}
use Rattle.std.specs.declared.io.ErrorKind.TheVariants.{NotFound, AlreadyExists, NotADirectory, IsADirectory, DirectoryNotEmpty, OutOfMemory}
use Rattle.dir_trait.specs.declared.bundle.BundleError.{BundleError}
use Rattle.dir_trait.specs.declared.bundle.BundleError.TheVariants.{Missing, Failed, NoMemory}
use Rattle.dir_trait.specs.declared.sink.SinkError.{SinkError}
use Rattle.dir_trait.specs.declared.sink.SinkError.TheVariants as sink
use Rattle.dir_model.specs.declared.request.DirError.{DirError}
use Rattle.dir_model.specs.declared.request.DirError.TheVariants as dir

-- nothing of the wanted kind stands there, memory ran out, or the system failed
abbrev pub bundle_error : ErrorKind → BundleError
bundle_error NotFound = Missing
bundle_error NotADirectory = Missing
bundle_error IsADirectory = Missing
bundle_error OutOfMemory = NoMemory
bundle_error _ = Failed

abbrev pub sink_error : ErrorKind → SinkError
sink_error OutOfMemory = sink.NoMemory
sink_error _ = sink.Failed

-- memory ran out, or the system failed
abbrev pub fault_error : ErrorKind → DirError
fault_error OutOfMemory = dir.NoMemory
fault_error _ = dir.Failed

-- nothing of the wanted kind stands there
abbrev pub absent_error : ErrorKind → DirError
absent_error NotFound = dir.Missing
absent_error NotADirectory = dir.Missing
absent_error IsADirectory = dir.Missing
absent_error OutOfMemory = dir.NoMemory
absent_error _ = dir.Failed

-- a folder stands there already. Its area was there before
abbrev pub folder_error : ErrorKind → DirError
folder_error AlreadyExists = dir.Exists
folder_error OutOfMemory = dir.NoMemory
folder_error _ = dir.Failed

-- something stands there already, or its parent is no directory
abbrev pub make_error : ErrorKind → DirError
make_error AlreadyExists = dir.Exists
make_error NotFound = dir.Missing
make_error NotADirectory = dir.Missing
make_error OutOfMemory = dir.NoMemory
make_error _ = dir.Failed

-- it has gone since it was looked at, or another came before it
abbrev pub move_error : ErrorKind → DirError
move_error NotFound = dir.Missing
move_error AlreadyExists = dir.Exists
move_error DirectoryNotEmpty = dir.Exists
move_error OutOfMemory = dir.NoMemory
move_error _ = dir.Failed

-- no directory stands there, or it holds something
abbrev pub remove_error : ErrorKind → DirError
remove_error NotFound = dir.Missing
remove_error NotADirectory = dir.Missing
remove_error AlreadyExists = dir.NotEmpty
remove_error DirectoryNotEmpty = dir.NotEmpty
remove_error OutOfMemory = dir.NoMemory
remove_error _ = dir.Failed
