-- What stands at a path, or below it.
use Rattle.std.proofs.Common.{◌≡◌, ◌==◌, ℕ, Bool, true, false, ◌&&◌, ◌||◌, bytes_eq, codes, List, [], ◌∷◌, ◌++◌, length, refl, sym, ap, subst, ◌∙◌, arith, append_assoc, length-append}
use Rattle.std.proofs.lemmas.Bool.{or_parts, eqb-true, eq-eqb}
use Rattle.std.proofs.lemmas.Slice.Eq.{bytes_eq-Decides}
use Rattle.dir_model.specs.Paths.{is_empty, is_slash, lies_below}
use Rattle.dir_model.specs.Trees.{is_within, app_root}
use Rattle.dir_model.proofs.Lists.{and_left, and_right, and_both, or_none, same_self}
use Rattle.dir_rules.specs.Marks.{has_slash}
use Rattle.path_map.specs.Paths.{lies_below as lies_below_path}
use Rattle.path_map.proofs.Below.{below_rest}
use Rattle.folder_building.proofs.FilePaths.{no_length}
use Rattle.pod_plan.specs.PodFiles.{info_directory, app_manifest_path, stage_directory, tree_file}

-- the path is the directory's, or goes on behind it after a slash
abbrev pub is_under : List ℕ → List ℕ → Bool
is_under [] [] = true
is_under [] (c ∷ path) = c == 47
is_under (b ∷ directory) [] = false
is_under (b ∷ directory) (c ∷ path) = (b == c) && is_under directory path

pub under_itself : (d : List ℕ) → is_under d d ≡ true
under_itself [] = refl
under_itself (b ∷ d) = and_both (b == b) (is_under d d) (same_self b) (under_itself d)

pub under_slash : (d rest : List ℕ) → is_under d (d ++ 47 ∷ rest) ≡ true
under_slash [] rest = refl
under_slash (b ∷ d) rest = and_both (b == b) (is_under d (d ++ 47 ∷ rest)) (same_self b) (under_slash d rest)

pub below_text : (path d : List ℕ) → is_empty d ≡ false → lies_below path d ≡ true → (rest : List ℕ) × (path ≡ d ++ 47 ∷ rest)
unfolding lies_below lies_below_path
below_text path d some h = below_rest path d (rw (no_length d some) at h)

pub not_below : (path d : List ℕ) → is_empty d ≡ false → is_under d path ≡ false → lies_below path d ≡ false
not_below path d some off = by (lies_below path d) refl
  where
    by : (b : Bool) → lies_below path d ≡ b → lies_below path d ≡ false
    by false is = is
    by true is =
        let t = below_text path d some is in
        let clash : true ≡ false = sym (under_slash d t.0) ∙ (ap (is_under d) (sym t.1) ∙ off) in absurd cc

pub not_same : (a b : List ℕ) → (a ≡ b → ⊥) → bytes_eq a b ≡ false
not_same a b other = by (bytes_eq a b) refl
  where
    by : (x : Bool) → bytes_eq a b ≡ x → bytes_eq a b ≡ false
    by false is = is
    by true is = absurd (other ((bytes_eq-Decides a b).0 is))

pub not_at : (path d : List ℕ) → is_under d path ≡ false → bytes_eq path d ≡ false
not_at path d off = not_same path d (λ is. let clash : true ≡ false = sym (under_itself d) ∙ (ap (is_under d) (sym is) ∙ off) in absurd cc)

pub not_within : (path d : List ℕ) → is_empty d ≡ false → is_under d path ≡ false → is_within d path ≡ false
not_within path d some off = or_none (bytes_eq path d) (lies_below path d) (not_at path d off) (not_below path d some off)

-- nothing lies below itself
pub not_below_itself : (d : List ℕ) → is_empty d ≡ false → lies_below d d ≡ false
not_below_itself d some = by (lies_below d d) refl
  where
    by : (b : Bool) → lies_below d d ≡ b → lies_below d d ≡ false
    by false is = is
    by true is =
        let t = below_text d d some is in
        let n = ap length t.1 in absurd (omega (arith, n, length-append d (47 ∷ t.0)))

-- behind the same beginning
pub under_behind : (front d path : List ℕ) → is_under d path ≡ false → is_under (front ++ d) (front ++ path) ≡ false
under_behind [] d path off = off
under_behind (b ∷ front) d path off = rw (same_self b) (under_behind front d path off)

pub front_not_under : (front : List ℕ) (b : ℕ) (d : List ℕ) → is_under (front ++ b ∷ d) front ≡ false
front_not_under [] b d = refl
front_not_under (c ∷ front) b d = rw (same_self c) (front_not_under front b d)

-- a path that is under two names behind one beginning is under one name
same_name : (a b path : List ℕ) → has_slash a ≡ false → has_slash b ≡ false → is_under a path ≡ true → is_under b path ≡ true → a ≡ b
same_name [] [] path p q h k = refl
same_name [] (y ∷ b) [] p q h k = cc
same_name [] (y ∷ b) (c ∷ path) p q h k =
    let slash : c ≡ 47 = eqb-true c 47 h in
    let same : y ≡ c = eqb-true y c (and_left (y == c) (is_under b path) k) in
    let clash : true ≡ false = sym (eq-eqb y 47 (same ∙ slash)) ∙ (or_parts (is_slash y) (has_slash b) q).0 in absurd cc
same_name (x ∷ a) b [] p q h k = cc
same_name (x ∷ a) [] (c ∷ path) p q h k =
    let slash : c ≡ 47 = eqb-true c 47 k in
    let same : x ≡ c = eqb-true x c (and_left (x == c) (is_under a path) h) in
    let clash : true ≡ false = sym (eq-eqb x 47 (same ∙ slash)) ∙ (or_parts (is_slash x) (has_slash a) p).0 in absurd cc
same_name (x ∷ a) (y ∷ b) (c ∷ path) p q h k =
    let left : x ≡ c = eqb-true x c (and_left (x == c) (is_under a path) h) in
    let right : y ≡ c = eqb-true y c (and_left (y == c) (is_under b path) k) in
    let rest : a ≡ b = same_name a b path (or_parts (is_slash x) (has_slash a) p).1 (or_parts (is_slash y) (has_slash b) q).1 (and_right (x == c) (is_under a path) h) (and_right (y == c) (is_under b path) k) in
    cc

same_behind : (front a b path : List ℕ) → has_slash a ≡ false → has_slash b ≡ false → is_under (front ++ a) path ≡ true → is_under (front ++ b) path ≡ true → a ≡ b
same_behind [] a b path p q h k = same_name a b path p q h k
same_behind (x ∷ front) a b [] p q h k = cc
same_behind (x ∷ front) a b (c ∷ path) p q h k = same_behind front a b path p q (and_right (x == c) (is_under (front ++ a) path) h) (and_right (x == c) (is_under (front ++ b) path) k)

-- the path is of an app: under one of its two directories
abbrev pub belongs : List ℕ → List ℕ → Bool
belongs name path = is_under (info_directory name) path || is_under (stage_directory name) path

never_both : (a b path : List ℕ) → is_under (info_directory a) path ≡ true → is_under (stage_directory b) path ≡ true → ⊥
never_both a b [] h k = cc
never_both a b (c ∷ path) h k =
    let x : 97 ≡ c = eqb-true 97 c (and_left (97 == c) (is_under (codes "ppsinfo/" ++ a) path) h) in
    let y : 115 ≡ c = eqb-true 115 c (and_left (115 == c) (is_under (codes "tage1/rootfs/opt/stage2/" ++ b) path) k) in
    absurd (omega (arith, x, y))

pub same_app : (a b path : List ℕ) → has_slash a ≡ false → has_slash b ≡ false → belongs a path ≡ true → belongs b path ≡ true → a ≡ b
same_app a b path p q h k = by (is_under (info_directory a) path) (is_under (info_directory b) path) refl refl h k
  where
    by : (x y : Bool) → is_under (info_directory a) path ≡ x → is_under (info_directory b) path ≡ y → (x || is_under (stage_directory a) path) ≡ true → (y || is_under (stage_directory b) path) ≡ true → a ≡ b
    by true true x y h k = same_behind (codes "appsinfo/") a b path p q x y
    by true false x y h k = absurd (never_both a b path x k)
    by false true x y h k = absurd (never_both b a path y h)
    by false false x y h k = same_behind (codes "stage1/rootfs/opt/stage2/") a b path p q h k

-- the paths of an app's files
pub info_belongs : (name : List ℕ) → belongs name (info_directory name) ≡ true
info_belongs name = rw (under_itself name) refl

pub manifest_belongs : (name : List ℕ) → belongs name (app_manifest_path name) ≡ true
manifest_belongs name = rw (under_slash name (codes "manifest")) refl

pub stage_belongs : (name : List ℕ) → belongs name (stage_directory name) ≡ true
stage_belongs name = rw (under_itself name) refl

pub tree_belongs : (name : List ℕ) → belongs name (tree_file name) ≡ true
tree_belongs name = rw (under_slash name (codes "tree")) refl

pub root_belongs : (name : List ℕ) → belongs name (app_root name) ≡ true
root_belongs name = rw (under_slash name (codes "rootfs")) refl

pub below_root_belongs : (name rest : List ℕ) → belongs name (app_root name ++ 47 ∷ rest) ≡ true
below_root_belongs name rest = subst (λ (p : List ℕ). belongs name (codes "stage1/rootfs/opt/stage2/" ++ p) ≡ true) (sym (append_assoc name (codes "/rootfs") (47 ∷ rest))) (rw (under_slash name (codes "rootfs" ++ 47 ∷ rest)) refl)

-- what isn't under an app's directories isn't under its root
under_longer : (d path : List ℕ) → is_under (d ++ codes "/rootfs") path ≡ true → is_under d path ≡ true
under_longer [] [] h = refl
under_longer [] (c ∷ path) h = let e : 47 ≡ c = eqb-true 47 c (and_left (47 == c) (is_under (codes "rootfs") path) h) in eq-eqb c 47 (sym e)
under_longer (b ∷ d) [] h = cc
under_longer (b ∷ d) (c ∷ path) h = and_both (b == c) (is_under d path) (and_left (b == c) (is_under (d ++ codes "/rootfs") path) h) (under_longer d path (and_right (b == c) (is_under (d ++ codes "/rootfs") path) h))

root_in_stage : (name path : List ℕ) → is_under (app_root name) path ≡ true → is_under (stage_directory name) path ≡ true
root_in_stage name path h = under_longer (stage_directory name) path h

pub not_under_root : (name path : List ℕ) → belongs name path ≡ false → is_under (app_root name) path ≡ false
not_under_root name path off = by (is_under (app_root name) path) refl
  where
    by : (b : Bool) → is_under (app_root name) path ≡ b → is_under (app_root name) path ≡ false
    by false is = is
    by true is =
        let clash : true ≡ false = sym (root_in_stage name path is) ∙ (or_parts (is_under (info_directory name) path) (is_under (stage_directory name) path) off).1 in absurd cc
