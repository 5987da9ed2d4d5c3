-- A pod holds nothing, when it is made, of what is noted while it runs.
use Rattle.std.proofs.Common.{◌≡◌, ℕ, Bool, true, false, not, ◌||◌, cond, bytes_eq, codes, List, [], ◌∷◌, refl, sym, ap, subst, ◌∙◌}
use Rattle.std.specs.List.{list_any, list_all, AllByRecursion}
use Rattle.plain_laws.proofs.Texts.{same_text}
use Rattle.plain_laws.proofs.Booleans.{or_nothing}
use Rattle.dir_model.specs.Paths.{lies_below}
use Rattle.dir_model.specs.Trees.{is_dir, app_root}
use Rattle.dir_model.proofs.Lists.{and_left, and_right}
use Rattle.dir_rules.specs.declared.seen.Entry.{Entry}
use Rattle.dir_rules.specs.Marks.{created_mark, has_slash}
use Rattle.folder_contents.specs.Filled.{is_note, lasting}
use Rattle.pod_plan.specs.PodFiles.{info_directory, stage_directory, app_manifest_path, tree_file, shared_directories, is_path_among, is_shared_place, is_app_place, is_pod_path}
use Rattle.pod_plan.proofs.Under.{below_text}

abbrev IsPlain : List ℕ → Type 0
IsPlain path = is_note path ≡ false

-- one of these, if none is noted
one_plain : (paths : List (List ℕ)) (path : List ℕ) → AllByRecursion IsPlain paths → is_path_among paths path ≡ true → IsPlain path
one_plain [] path all is = cc
one_plain (p ∷ paths) path all is = by (λ h. one_plain paths path all.1 h) (bytes_eq path p) refl is
  where
    by : (is_path_among paths path ≡ true → IsPlain path) → (b : Bool) → bytes_eq path p ≡ b → (b || is_path_among paths path) ≡ true → IsPlain path
    by rest true e h = subst IsPlain (sym (same_text path p e)) all.0
    by rest false e h = rest h

either_false : (b : Bool) → (cond b false false || false) ≡ false
either_false true = refl
either_false false = refl

shared_plain : (now : ℕ) (directory : Bool) (path : List ℕ) → is_shared_place now directory path ≡ true → IsPlain path
shared_plain now true path is = one_plain shared_directories path (refl, (refl, (refl, (refl, (refl, (refl, (refl, tt))))))) is
shared_plain now false path is = one_plain (created_mark now ∷ codes "token" ∷ codes "pod" ∷ []) path (either_false (has_slash (created_mark now)), (refl, (refl, tt))) is

app_plain : (name : List ℕ) (directory : Bool) (path : List ℕ) → is_app_place name directory path ≡ true → IsPlain path
app_plain name directory path is = by directory (lies_below path (app_root name)) refl is
  where
    below : lies_below path (app_root name) ≡ true → IsPlain path
    below e = let x = below_text path (app_root name) refl e in subst IsPlain (sym x.1) refl

    by : (d b : Bool) → lies_below path (app_root name) ≡ b →
        (cond d (is_path_among (info_directory name ∷ stage_directory name ∷ app_root name ∷ []) path) (is_path_among (app_manifest_path name ∷ tree_file name ∷ []) path) || b) ≡ true → IsPlain path
    by d true e h = below e
    by true false e h = one_plain (info_directory name ∷ stage_directory name ∷ app_root name ∷ []) path (refl, (refl, (refl, tt))) (or_nothing _ h)
    by false false e h = one_plain (app_manifest_path name ∷ tree_file name ∷ []) path (refl, (refl, tt)) (or_nothing _ h)

apps_plain : (names : List (List ℕ)) (directory : Bool) (path : List ℕ) → list_any (λ name. is_app_place name directory path) names ≡ true → IsPlain path
apps_plain [] directory path is = cc
apps_plain (name ∷ names) directory path is = by (λ h. apps_plain names directory path h) (is_app_place name directory path) refl is
  where
    by : (list_any (λ n. is_app_place n directory path) names ≡ true → IsPlain path) → (b : Bool) → is_app_place name directory path ≡ b → (b || list_any (λ n. is_app_place n directory path) names) ≡ true → IsPlain path
    by rest true e h = app_plain name directory path e
    by rest false e h = rest h

place_plain : (now : ℕ) (names : List (List ℕ)) (directory : Bool) (path : List ℕ) → is_pod_path now names directory path ≡ true → IsPlain path
place_plain now names directory path is = by (is_shared_place now directory path) refl is
  where
    by : (b : Bool) → is_shared_place now directory path ≡ b → (b || list_any (λ name. is_app_place name directory path) names) ≡ true → IsPlain path
    by true e h = shared_plain now directory path e
    by false e h = apps_plain names directory path h

-- so all of it lasts
pub all_lasts : (now : ℕ) (names : List (List ℕ)) (entries : List Entry) → list_all (λ e. is_pod_path now names (is_dir e.node) e.path) entries ≡ true → lasting entries ≡ entries
all_lasts now names [] is = refl
all_lasts now names (e ∷ entries) is =
    ap (λ b. cond (not b) (e ∷ lasting entries) (lasting entries)) (place_plain now names (is_dir e.node) e.path (and_left (is_pod_path now names (is_dir e.node) e.path) (list_all (λ x. is_pod_path now names (is_dir x.node) x.path) entries) is))
    ∙ ap (λ (l : List Entry). e ∷ l) (all_lasts now names entries (and_right (is_pod_path now names (is_dir e.node) e.path) (list_all (λ x. is_pod_path now names (is_dir x.node) x.path) entries) is))
