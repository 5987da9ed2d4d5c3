-- No note of a pod, and no folder itself, is at or below a started app's root.
use Rattle.std.proofs.Common.{◌≡◌, ℕ, Bool, true, false, not, ◌&&◌, nat_eq, nat_lt, List, [], ◌++◌, length, drop, codes, refl, ap}
use Rattle.std.specs.List.{starts_with}
use Rattle.std.proofs.lemmas.Bool.Decides.{Decides-eqb}
use Rattle.std.proofs.lemmas.Slice.Eq.{starts_is}
use Rattle.plain_laws.proofs.Booleans.{clash}
use Rattle.dir_model.specs.declared.event.Event.{Event}
use Rattle.dir_model.specs.Trees.{app_root, is_apps_own}
use Rattle.dir_model.specs.Trace.{state_after}
use Rattle.dir_model.proofs.Lists.{and_left}
use Rattle.dir_laws.proofs.Apps.{no_app_owns}
use Rattle.dir_rules.specs.Marks.{has_slash, begins, is_status_file}

abbrev front : List ℕ
front = codes "stage1/rootfs/opt/"

abbrev in_opt : List ℕ → Bool
in_opt path = starts_with nat_eq path front

fronts : (app rest : List ℕ) → in_opt (app_root app ++ rest) ≡ true
fronts app rest = refl

-- the folder itself, what has no slash, and the files of statuses
pub root_unowned : (h : List Event) (k : ℕ) → is_apps_own (state_after h).apps k [] ≡ false
root_unowned h k = no_app_owns front fronts h k [] refl

pub name_unowned : (h : List Event) (k : ℕ) (path : List ℕ) → has_slash path ≡ false → is_apps_own (state_after h).apps k path ≡ false
name_unowned h k path plain = no_app_owns front fronts h k path (by (in_opt path) refl)
  where
    by : (b : Bool) → in_opt path ≡ b → b ≡ false
    by false e = refl
    by true e = clash (has_slash path) (ap has_slash ((starts_is Decides-eqb path front _ refl).0 e)) plain

pub status_unowned : (h : List Event) (k : ℕ) (path : List ℕ) → is_status_file path ≡ true → is_apps_own (state_after h).apps k path ≡ false
status_unowned h k path status =
    let x = and_left (begins (codes "stage1/rootfs/rkt/status/") path) (nat_lt 25 (length path))
    (and_left (begins (codes "stage1/rootfs/rkt/status/") path && nat_lt 25 (length path)) (not (has_slash (drop 25 path))) status) in
    no_app_owns front fronts h k path (ap in_opt ((starts_is Decides-eqb path (codes "stage1/rootfs/rkt/status/") _ refl).0 x))
