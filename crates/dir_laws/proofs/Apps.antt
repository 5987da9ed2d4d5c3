-- Where the roots of started apps are: what doesn't begin as their paths do is no app's own.
use Rattle.std.proofs.Common.{◌≡◌, ℕ, Bool, true, false, not, ◌&&◌, ◌||◌, ◌==◌, cond, bytes_eq, nat_eq, slice_index, Option, Some, None, option_to_list, List, [], ◌∷◌, ◌++◌, length, drop, append-nil, refl, sym, ap, subst, ◌∙◌}
use Rattle.std.specs.List.{AllByRecursion, starts_with}
use Rattle.std.proofs.lemmas.Bool.Decides.{Decides-eqb}
use Rattle.std.proofs.lemmas.Slice.Eq.{bytes_eq-Decides, starts_is}
use Rattle.plain_laws.proofs.Texts.{not_empty}
use Rattle.dir_model.specs.declared.event.Event.{Event}
use Rattle.dir_model.specs.declared.item.Inner.{Inner}
use Rattle.dir_model.specs.declared.tree.StartedApp.{StartedApp}
use Rattle.dir_model.specs.declared.request.Request.{Request}
use Rattle.dir_model.specs.declared.request.Request.TheVariants.{MakeFileIn}
use Rattle.dir_model.specs.declared.request.Reply.{Reply}
use Rattle.dir_model.specs.declared.request.Reply.TheVariants.{Done}
use Rattle.dir_model.specs.Areas.{is_run_or_later}
use Rattle.dir_model.specs.Paths.{lies_below}
use Rattle.dir_model.specs.Replies.{is_own_at, is_apps_inner}
use Rattle.dir_model.specs.State.{Namespace, DirState, empty_state, folder_at}
use Rattle.dir_model.specs.Trace.{is_mark, marked_app, app_started, state_next, states_next, state_after}
use Rattle.dir_model.specs.Trees.{is_within, mark_prefix, app_root, is_apps_own}
use Rattle.dir_model.proofs.Lists.{and_left, and_false, or_none, all_both}

-- a started app has its root where the roots of apps are
abbrev pub IsRooted : StartedApp → Type 0
IsRooted a = (app : List ℕ) × (a.root ≡ app_root app)

marked_rooted : (o : Option ℕ) (path : List ℕ) → AllByRecursion IsRooted (option_to_list (marked_app o path))
marked_rooted None path = tt
marked_rooted (Some folder) path = by (is_mark path)
  where
    by : (b : Bool) → AllByRecursion IsRooted (option_to_list (cond b (Some (record { folder = folder; root = app_root (drop (length mark_prefix) path) })) None))
    by true = ((drop (length mark_prefix) path, refl), tt)
    by false = tt

started_rooted : (n : Namespace) (request : Request) (reply : Reply) → AllByRecursion IsRooted (option_to_list (app_started n request reply))
started_rooted n (MakeFileIn i) Done = by (is_run_or_later i.spot.area)
  where
    by : (b : Bool) → AllByRecursion IsRooted (option_to_list (cond b (marked_app (folder_at n i.spot) i.path) None))
    by true = marked_rooted (folder_at n i.spot) i.path
    by false = tt
started_rooted n request reply = tt

all_rooted : (s : DirState) (es : List Event) → AllByRecursion IsRooted s.apps → AllByRecursion IsRooted (states_next s es).apps
all_rooted s [] a = a
all_rooted s (e ∷ es) a = all_rooted (state_next s e) es (all_both IsRooted s.apps (option_to_list (app_started s.namespace e.request e.reply)) a (started_rooted s.namespace e.request e.reply))

-- each app that was ever started
pub apps_rooted : (h : List Event) → AllByRecursion IsRooted (state_after h).apps
apps_rooted h = all_rooted empty_state h tt

pub below_front : (path q : List ℕ) → (length q == 0) ≡ false → lies_below path q ≡ true → path ≡ q ++ drop (length q) path
unfolding lies_below
below_front path q other h =
    let parts : (starts_with nat_eq path q && (slice_index path (length q) == 47)) ≡ true =
    sym (ap (λ b. cond b (not (length path == 0)) (starts_with nat_eq path q && (slice_index path (length q) == 47))) other) ∙ h in
    (starts_is Decides-eqb path q _ refl).0 (and_left (starts_with nat_eq path q) (slice_index path (length q) == 47) parts)

-- where whatever stands in an app's root begins so, a path that doesn't is no app's own
module _ (front : List ℕ) (fronts : (app rest : List ℕ) → starts_with nat_eq (app_root app ++ rest) front ≡ true) where
  begins : (path app rest : List ℕ) → path ≡ app_root app ++ rest → starts_with nat_eq path front ≡ true
  begins path app rest is = subst (λ (q : List ℕ). starts_with nat_eq q front ≡ true) (sym is) (fronts app rest)

  within : (app path : List ℕ) → is_within (app_root app) path ≡ true → starts_with nat_eq path front ≡ true
  within app path h = by (bytes_eq path (app_root app)) refl h
    where
      by : (b : Bool) → bytes_eq path (app_root app) ≡ b → (b || lies_below path (app_root app)) ≡ true → starts_with nat_eq path front ≡ true
      by true is h = begins path app [] ((bytes_eq-Decides path (app_root app)).0 is ∙ sym (append-nil (app_root app)))
      by false is h = begins path app (drop (length (app_root app)) path) (below_front path (app_root app) (not_empty 115 (drop 1 (app_root app))) h)

  outside : (app path : List ℕ) → starts_with nat_eq path front ≡ false → is_within (app_root app) path ≡ false
  outside app path away = by (is_within (app_root app) path) refl
    where
      both : (b : Bool) → b ≡ true → b ≡ false → true ≡ false
      both true h k = k
      both false h k = cc

      by : (b : Bool) → is_within (app_root app) path ≡ b → b ≡ false
      by true is = both (starts_with nat_eq path front) (within app path is) away
      by false is = refl

  none_own : (apps : List StartedApp) (folder : ℕ) (path : List ℕ) → AllByRecursion IsRooted apps → starts_with nat_eq path front ≡ false → is_apps_own apps folder path ≡ false
  none_own [] folder path rooted away = refl
  none_own (a ∷ apps) folder path rooted away =
      or_none ((a.folder == folder) && is_within a.root path) (is_apps_own apps folder path)
      (ap (λ b. (a.folder == folder) && b) (ap (λ (r : List ℕ). is_within r path) rooted.0.1 ∙ outside rooted.0.0 path away) ∙ and_false (a.folder == folder)) (none_own apps folder path rooted.1 away)

  pub no_app_owns : (h : List Event) (folder : ℕ) (path : List ℕ) → starts_with nat_eq path front ≡ false → is_apps_own (state_after h).apps folder path ≡ false
  no_app_owns h folder path away = none_own (state_after h).apps folder path (apps_rooted h) away

  -- so the directory answers there as it stands
  pub not_apps_own : (h : List Event) (inner : Inner) → starts_with nat_eq inner.path front ≡ false → is_apps_inner (state_after h) (Some inner) ≡ false
  not_apps_own h inner away = by (folder_at (state_after h).namespace inner.spot)
    where
      by : (o : Option ℕ) → is_own_at (state_after h) inner.path o ≡ false
      by None = refl
      by (Some folder) = no_app_owns h folder inner.path away
