-- Calls about a path inside a folder whose Ok carries nothing.
use Rattle.dir_model.specs.declared.item.Inner.{Inner}
use Rattle.dir_model.specs.declared.request.Request.{Request}
use Rattle.dir_model.specs.declared.request.Request.TheVariants.{MakeDirIn, MakeFileIn, SyncIn, RemoveFileIn, RemoveDirIn}
use Rattle.dir_memory.specs.declared.path_call.PathCall.{PathCall}
use Rattle.dir_memory.specs.declared.path_call.PathCall.TheVariants.{MakeDir, MakeFile, Sync, RemoveFile, RemoveDir}

abbrev pub path_request : PathCall → Inner → Request
path_request MakeDir inner = MakeDirIn inner
path_request MakeFile inner = MakeFileIn inner
path_request Sync inner = SyncIn inner
path_request RemoveFile inner = RemoveFileIn inner
path_request RemoveDir inner = RemoveDirIn inner
