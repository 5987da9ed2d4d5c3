-- Status files: they are no started app's own, and the directory of statuses shows them.
use Rattle.std.proofs.Common.{◌≡◌, ℕ, Bool, true, false, not, ◌&&◌, ◌||◌, ◌==◌, cond, bytes_eq, nat_eq, Option, Some, None, List, [], ◌∷◌, ◌++◌, codes, refl, sym, ap, subst, ◌∙◌}
use Rattle.std.specs.List.{list_any, list_all, cons_option, starts_with}
use Rattle.std.specs.Str.{is_utf8}
use Rattle.plain_laws.proofs.Texts.{same_bytes, same_text}
use Rattle.dir_model.specs.declared.event.Event.{Event}
use Rattle.dir_model.specs.declared.item.Inner.{Inner}
use Rattle.dir_model.specs.declared.item.Item.{Item}
use Rattle.dir_model.specs.declared.tree.TreeEntry.{TreeEntry}
use Rattle.dir_model.specs.Listings.{is_named}
use Rattle.dir_model.specs.Names.{is_file_byte, IsFileName}
use Rattle.dir_model.specs.Paths.{is_slash, is_empty, is_file_name, is_path, lies_below, is_directly_in, behind}
use Rattle.dir_model.specs.Replies.{is_apps_inner}
use Rattle.dir_model.specs.Trace.{state_after}
use Rattle.dir_model.specs.Trees.{is_dir, is_entry, is_file_entry, has_file, is_child, item_in, items_in, kind_of}
use Rattle.dir_model.proofs.Lists.{and_left, and_right, and_both, or_last}
use Rattle.dir_rules.specs.Marks.{status_directory}
use Rattle.folder_removal.proofs.Paths.{path_of}
use Rattle.dir_laws.proofs.Apps.{not_apps_own}
use Rattle.dir_laws.proofs.Names.{status_path}
use Rattle.gate_reading.proofs.DirectItems.{no_slash}

-- the statuses are at and below their directory
pub status_own : (h : List Event) (inner : Inner) (rest : List ℕ) → inner.path ≡ status_directory ++ rest → is_apps_inner (state_after h) (Some inner) ≡ false
status_own h inner rest is =
    not_apps_own (codes "stage1/rootfs/opt/") (λ app rest. refl) h inner (subst (λ (p : List ℕ). starts_with nat_eq p (codes "stage1/rootfs/opt/") ≡ false) (sym is) refl)

pub name_plain : (app : List ℕ) → is_file_name app ≡ true → list_any is_slash app ≡ false
name_plain app name =
    no_slash app (and_left (list_all is_file_byte app) (is_utf8 app) (and_right _ (list_all is_file_byte app && is_utf8 app) (and_right (not (is_empty app)) _ name)))

pub directly : (app : List ℕ) → is_file_name app ≡ true → is_directly_in status_directory (status_directory ++ 47 ∷ app) ≡ true
unfolding lies_below
directly app name =
    and_both (not (is_empty app)) (not (list_any is_slash app)) (and_left (not (is_empty app)) _ name) (ap not (name_plain app name))

-- the directory shows a file that stands in it
shown_one : (k : ℕ) (app : List ℕ) (e : TreeEntry) → is_file_name app ≡ true → is_file_entry k (status_directory ++ 47 ∷ app) e ≡ true → item_in k status_directory e ≡ Some (record { name = app; kind = kind_of e.node })
shown_one k app e name is =
    let here = and_left (is_entry k (status_directory ++ 47 ∷ app) e) (not (is_dir e.node)) is in
    let path : e.path ≡ status_directory ++ 47 ∷ app = same_text e.path (status_directory ++ 47 ∷ app) (and_right (e.folder == k) _ here) in
    ap (λ (p : List ℕ). cond (((e.folder == k) && is_directly_in status_directory p) && is_file_name (behind status_directory p)) (some (behind status_directory p)) None) path
    ∙ (ap (λ (b : Bool). cond ((b && is_directly_in status_directory (status_directory ++ 47 ∷ app)) && is_file_name app) (some app) None) (and_left (e.folder == k) _ here)
    ∙ (ap (λ (b : Bool). cond (b && is_file_name app) (some app) None) (directly app name)
    ∙ ap (λ (b : Bool). cond b (some app) None) name))
  where
    some : List ℕ → Option Item
    some n = Some (record { name = n; kind = kind_of e.node })

pub file_shown : (k : ℕ) (app : List ℕ) (es : List TreeEntry) → is_file_name app ≡ true → has_file es k (status_directory ++ 47 ∷ app) ≡ true → list_any (is_named app) (items_in k status_directory es) ≡ true
file_shown k app [] name h = cc
file_shown k app (e ∷ es) name h = by (is_file_entry k (status_directory ++ 47 ∷ app) e) refl h (λ rest. file_shown k app es name rest)
  where
    after : (o : Option Item) → list_any (is_named app) (items_in k status_directory es) ≡ true → list_any (is_named app) (cons_option o (items_in k status_directory es)) ≡ true
    after None h = h
    after (Some item) h = or_last (is_named app item) (list_any (is_named app) (items_in k status_directory es)) h

    by : (b : Bool) → is_file_entry k (status_directory ++ 47 ∷ app) e ≡ b → (b || has_file es k (status_directory ++ 47 ∷ app)) ≡ true → (has_file es k (status_directory ++ 47 ∷ app) ≡ true → list_any (is_named app) (items_in k status_directory es) ≡ true) → list_any (is_named app) (items_in k status_directory (e ∷ es)) ≡ true
    by true is h go =
        ap (λ (o : Option Item). list_any (is_named app) (cons_option o (items_in k status_directory es))) (shown_one k app e name is)
        ∙ ap (λ (b : Bool). b || list_any (is_named app) (items_in k status_directory es)) (same_bytes app)
    by false is h go = after (item_in k status_directory e) (go h)

-- and all that it shows has a file's name
pub listed_name : (k : ℕ) (path : List ℕ) (es : List TreeEntry) (name : List ℕ) → list_any (is_named name) (items_in k path es) ≡ true → is_file_name name ≡ true
listed_name k path [] name h = cc
listed_name k path (e ∷ es) name h = by (is_child k path e) (is_file_name (behind path e.path)) refl h (λ rest. listed_name k path es name rest)
  where
    one : (b : Bool) → bytes_eq (behind path e.path) name ≡ b → is_file_name (behind path e.path) ≡ true → (b || list_any (is_named name) (items_in k path es)) ≡ true → (list_any (is_named name) (items_in k path es) ≡ true → is_file_name name ≡ true) → is_file_name name ≡ true
    one true same is h go = subst (λ (n : List ℕ). is_file_name n ≡ true) (same_text (behind path e.path) name same) is
    one false apart is h go = go h

    by : (c b : Bool) → is_file_name (behind path e.path) ≡ b → list_any (is_named name) (cons_option (cond (c && b) (Some (record { name = behind path e.path; kind = kind_of e.node })) None) (items_in k path es)) ≡ true → (list_any (is_named name) (items_in k path es) ≡ true → is_file_name name ≡ true) → is_file_name name ≡ true
    by true true is h go = one (bytes_eq (behind path e.path) name) refl is h go
    by true false is h go = go h
    by false b is h go = go h

pub file_path : (app : List ℕ) → IsFileName app → is_path (status_directory ++ 47 ∷ app) ≡ true
file_path app name = path_of status_directory app status_path name
