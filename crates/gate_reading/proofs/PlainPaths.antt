-- A path outside the directory `stage1` is no started app's own.
use Rattle.std.proofs.Common.{arith, ◌≡◌, ℕ, Bool, true, false, not, ◌&&◌, ◌||◌, ◌==◌, cond, bytes_eq, nat_eq, Option, Some, None, option_to_list, List, [], ◌∷◌, ◌++◌, length, drop, slice_index, codes, refl, sym, ap, subst, ◌∙◌}
use Rattle.std.specs.List.{AllByRecursion, starts_with}
use Rattle.std.proofs.lemmas.Bool.Decides.{Decides-eqb, nat_tests}
use Rattle.std.proofs.lemmas.Slice.Eq.{starts_is}
use Rattle.std.proofs.lemmas.Grind.{common_steps}
use Rattle.dir_model.specs.declared.event.Event.{Event}
use Rattle.dir_model.specs.declared.item.Inner.{Inner}
use Rattle.dir_model.specs.declared.tree.StartedApp.{StartedApp}
use Rattle.dir_model.specs.declared.request.Request.{Request}
use Rattle.dir_model.specs.declared.request.Request.TheVariants.{MakeFileIn}
use Rattle.dir_model.specs.declared.request.Reply.{Reply}
use Rattle.dir_model.specs.declared.request.Reply.TheVariants.{Done}
use Rattle.dir_model.specs.Paths.{lies_below}
use Rattle.dir_model.specs.State.{Namespace, DirState, empty_state, folder_at}
use Rattle.dir_model.specs.Trees.{is_within, mark_prefix, app_root, is_apps_own}
use Rattle.dir_model.specs.Trace.{is_mark, marked_app, app_started, state_next, states_next, state_after}
use Rattle.dir_model.specs.Replies.{is_own_at, is_apps_inner}
use Rattle.dir_model.proofs.Lists.{and_left, and_false, or_none, not_true, all_both}
use Rattle.gate_reading.specs.Files.{is_outside_stage1}
use Rattle.dir_laws.proofs.Apps.{not_apps_own}

-- after any trace
pub plain_own : (h : List Event) (inner : Inner) → is_outside_stage1 inner.path ≡ true → is_apps_inner (state_after h) (Some inner) ≡ false
plain_own h inner plain = not_apps_own (codes "stage1/") (λ app rest. refl) h inner (not_true (starts_with nat_eq inner.path (codes "stage1/")) plain)

-- the paths of a stored image are such
pub plain_manifest : is_outside_stage1 (codes "manifest") ≡ true
plain_manifest = refl

pub plain_id : is_outside_stage1 (codes "id") ≡ true
plain_id = refl

pub plain_tree : is_outside_stage1 (codes "tree") ≡ true
plain_tree = refl

pub plain_imported : (rest : List ℕ) → is_outside_stage1 (codes "imported-" ++ rest) ≡ true
plain_imported rest = refl

pub plain_rootfs : (rest : List ℕ) → is_outside_stage1 (codes "rootfs" ++ rest) ≡ true
plain_rootfs rest = refl
