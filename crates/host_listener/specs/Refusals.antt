-- What a failure means for a listener.
use Rattle.std.specs.declared.io.ErrorKind.{ErrorKind}
use Rattle.std.specs.Prelude.{Bool, true, false}
use Rattle.std.specs.declared.io.ErrorKind.TheVariants.{OutOfMemory, Interrupted, ConnectionAborted}
use Rattle.listener.specs.declared.link.LinkError.{LinkError}
use Rattle.listener.specs.declared.link.LinkError.TheVariants.{Failed, NoMemory}

-- memory ran out, or the network failed
abbrev pub link_error : ErrorKind → LinkError
link_error OutOfMemory = NoMemory
link_error _ = Failed

-- asking once more may help: a signal came between, or a peer gave up before it was taken
abbrev pub is_passing : ErrorKind → Bool
is_passing Interrupted = true
is_passing ConnectionAborted = true
is_passing _ = false
