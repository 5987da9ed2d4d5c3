-- Why a file has no reading, carried on.
use Rattle.pod_files.specs.declared.error.FileError.{FileError}
use Rattle.pod_files.specs.declared.error.FileError.TheVariants.{Lacking, DirFault, NoMemory}
use Rattle.pod_files.specs.Lacks.{IsFileLack}

pub lack_why : (Why More : Type 0) (e : FileError) → (Why → More) → IsFileLack Why e → IsFileLack More e
lack_why Why More Lacking f is = f is
lack_why Why More DirFault f is = tt
lack_why Why More NoMemory f is = tt
