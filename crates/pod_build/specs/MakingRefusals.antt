-- The refusals of lower calls.
use Rattle.dir_model.specs.declared.request.DirError.{DirError}
use Rattle.dir_model.specs.declared.request.DirError.TheVariants.{Exists, Failed}
use Rattle.dir_model.specs.declared.request.DirError.TheVariants as dir
use Rattle.dir_files.specs.declared.lock_error.LockError.{LockError}
use Rattle.dir_files.specs.declared.lock_error.LockError.TheVariants as lock
use Rattle.folder_building.specs.declared.error.BuildError.{BuildError}
use Rattle.folder_building.specs.declared.error.BuildError.TheVariants as build
use Rattle.pod_build.specs.declared.make_error.MakeError.{MakeError}
use Rattle.pod_build.specs.declared.make_error.MakeError.TheVariants.{Busy, Taken, Unlike, DirFault, Stray, NoMemory}

abbrev pub making_lock_refusal : LockError → MakeError
making_lock_refusal lock.Busy = Busy
making_lock_refusal lock.DirFault = DirFault
making_lock_refusal lock.NoMemory = NoMemory

-- the directory refused to change or to open what this process has made
abbrev pub making_change_refusal : DirError → MakeError
making_change_refusal Failed = DirFault
making_change_refusal dir.NoMemory = NoMemory
making_change_refusal error = Stray

-- it refused to make the folder
abbrev pub make_folder_refusal : DirError → MakeError
make_folder_refusal Exists = Taken
make_folder_refusal error = making_change_refusal error

-- the folder wasn't filled. The files come from the directory itself
abbrev pub make_error_of_build : BuildError → MakeError
make_error_of_build (build.Unlike place) = Unlike place
make_error_of_build build.SourceFault = DirFault
make_error_of_build build.DirFault = DirFault
make_error_of_build build.Stray = Stray
make_error_of_build build.NoMemory = NoMemory
