-- The texts of errors.
use Rattle.std.specs.Prelude.{ℕ, List, ◌++◌, codes}
use Rattle.pod_manifest.specs.declared.gen_error.GenError.{GenError}
use Rattle.pod_manifest.specs.declared.gen_error.GenError.TheVariants.{TooManyApps, NoApp, NoExec, AppTwice, NoVolume, NoMemory}

-- why there is no pod manifest
abbrev pub gen_error_text : GenError → List ℕ
gen_error_text TooManyApps = codes "there are too many apps"
gen_error_text (NoApp image) = codes "no app in the image " ++ image
gen_error_text (NoExec app) = codes "no program in the app " ++ app
gen_error_text (AppTwice app) = codes "an earlier app is named " ++ app
gen_error_text (NoVolume volume) = codes "no volume is named " ++ volume
gen_error_text NoMemory = codes "out of memory"
