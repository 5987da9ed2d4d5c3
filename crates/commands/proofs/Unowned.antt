-- What is noted of an app stands outside the roots of started apps, which write there themselves.
use Rattle.std.proofs.Common.{◌≡◌, ℕ, false, nat_eq, List, refl, codes}
use Rattle.std.specs.List.{starts_with}
use Rattle.dir_model.specs.declared.event.Event.{Event}
use Rattle.dir_model.specs.Trees.{is_apps_own}
use Rattle.dir_model.specs.Trace.{state_after}
use Rattle.spawner.specs.Conditions.{start_mark}
use Rattle.stage1.specs.Notes.{status_path}
use Rattle.dir_laws.proofs.Apps.{no_app_owns}

-- no app's root has it
abbrev pub IsOutside : List ℕ → Type 0
IsOutside path = starts_with nat_eq path (codes "stage1/rootfs/opt/") ≡ false

pub mark_outside : (name : List ℕ) → IsOutside (start_mark name)
mark_outside name = refl

pub status_outside : (name : List ℕ) → IsOutside (status_path name)
status_outside name = refl

pub never_owned : (h : List Event) (folder : ℕ) (path : List ℕ) → IsOutside path → is_apps_own (state_after h).apps folder path ≡ false
never_owned h folder path away = no_app_owns (codes "stage1/rootfs/opt/") (λ app rest. refl) h folder path away
