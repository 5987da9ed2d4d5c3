-- What the answer to a request for a lock means.
use Rattle.std.specs.Prelude.{Result, Ok, Err}
use Rattle.std.specs.IoError.{error_kind}
use Rattle.std.specs.declared.fs.locks.TryLockError.{TryLockError}
use Rattle.std.specs.declared.fs.locks.TryLockError.TheVariants.{Error, WouldBlock}
use Rattle.dir_model.specs.declared.request.DirError.{DirError}
use Rattle.dir_model.specs.declared.request.DirError.TheVariants.{Locked}
use Rattle.host_files.specs.Refusals.{fault_error}

abbrev pub lock_answer : Result (Unit {0}) TryLockError → Result (Unit {0}) DirError
lock_answer (Ok done) = Ok done
lock_answer (Err WouldBlock) = Err Locked
lock_answer (Err (Error error)) = Err (fault_error (error_kind error))
