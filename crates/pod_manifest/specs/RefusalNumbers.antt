-- The numbers by which refusals are printed; want of memory has none.
use Rattle.std.specs.Prelude.{ℕ, Option, Some, None}
use Rattle.pod_manifest.specs.declared.refusals.TheConstants.{APP_TWICE, NO_EXEC, NO_APP, TOO_MANY_APPS, NO_VOLUME}
use Rattle.pod_manifest.specs.declared.gen_error.GenError.{GenError}
use Rattle.pod_manifest.specs.declared.gen_error.GenError.TheVariants.{TooManyApps, NoApp, NoExec, AppTwice, NoVolume, NoMemory}

-- the number of each reason why there is no pod manifest
abbrev pub gen_error_number : GenError → Option ℕ
gen_error_number TooManyApps = Some TOO_MANY_APPS
gen_error_number (NoApp image) = Some NO_APP
gen_error_number (NoExec app) = Some NO_EXEC
gen_error_number (AppTwice app) = Some APP_TWICE
gen_error_number (NoVolume volume) = Some NO_VOLUME
gen_error_number NoMemory = None
