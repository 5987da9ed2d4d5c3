-- What was made, and the plan that asks for it.
use Rattle.std.proofs.Common.{◌≡◌, ℕ, ◌<◌, Bool, true, false, not, ◌&&◌, ◌||◌, cond, bytes_eq, List, [], ◌∷◌, ◌++◌, filter, take, length, get_or, codes, nat_le, zero, suc, refl, sym, ap, subst, ◌∙◌, append_assoc, append-nil, arith}
use Rattle.std.specs.List.{list_any, list_all}
use Rattle.std.proofs.lemmas.List.Folds.{list_any-append}
use Rattle.plain_laws.proofs.Texts.{same_bytes, bytes_turned}
use Rattle.dir_model.specs.declared.area.Area.{Area}
use Rattle.dir_model.specs.declared.area.Area.TheVariants.{Prepare}
use Rattle.dir_model.specs.declared.tree.TreeNode.TheVariants.{Dir, Piece}
use Rattle.dir_model.specs.Paths.{is_empty, is_path}
use Rattle.dir_model.proofs.Lists.{and_left, and_right, and_both, or_last, any_push, any_last, any_of_map}
use Rattle.dir_rules.specs.declared.seen.Entry.{Entry}
use Rattle.dir_rules.specs.declared.seen.Seen.{Seen}
use Rattle.dir_rules.specs.Marks.{parent, created_mark}
use Rattle.dir_rules.specs.Rules.{is_dir, has_path_among, has_dir_among, has_file_among, is_in_directory, is_new_path, is_in_order}
use Rattle.dir_rules.specs.Standing.{intends}
use Rattle.folder_building.specs.declared.plan.PlanEntry.{PlanEntry}
use Rattle.folder_building.specs.declared.plan.Content.{Content}
use Rattle.folder_building.specs.declared.plan.Content.TheVariants.{Directory, Given, Copied}
use Rattle.folder_building.specs.Plans.{is_file, outline_of, planned_entries, may_follow_entries, is_plan_after, is_in_turn, are_in_turn, piece_at, directory_entry, pieces_at, IsMadeAs, IsMadeOf, AreMade, is_in_plan, is_owed}

-- one entry more
pub made_more : (before : List PlanEntry) (es : List Entry) (e : PlanEntry) (chunk : List Entry) → AreMade before es → IsMadeOf e chunk → AreMade (before ++ e ∷ []) (es ++ chunk)
made_more [] es e chunk none made = record { chunk = chunk; rest = []; is = ap (λ (xs : List Entry). xs ++ chunk) none ∙ sym (append-nil chunk); first = made; others = refl }
made_more (b ∷ before) es e chunk are made = record {
  chunk = are.chunk;
  rest = are.rest ++ chunk;
  is = ap (λ (xs : List Entry). xs ++ chunk) are.is ∙ append_assoc are.chunk are.rest chunk;
  first = are.first;
  others = made_more before are.rest e chunk are.others made;
}

-- a test that doesn't look at the bytes of a piece tells what was made from nothing else than the plan
module _ (t : Entry → Bool) (same : (path bytes : List ℕ) → t (piece_at path bytes) ≡ t (piece_at path [])) where
  or_same : (a b : Bool) → b ≡ true → a ≡ true → (a || b) ≡ a
  or_same true b h k = refl
  or_same false b h k = cc

  any_pieces : (path : List ℕ) (ps : List (List ℕ)) → (t (piece_at path []) || list_any t (pieces_at path ps)) ≡ t (piece_at path [])
  any_pieces path [] = by (t (piece_at path []))
    where
      by : (b : Bool) → (b || false) ≡ b
      by true = refl
      by false = refl
  any_pieces path (p ∷ ps) = ap (λ b. t (piece_at path []) || (b || list_any t (pieces_at path ps))) (same path p) ∙ by (t (piece_at path [])) (any_pieces path ps)
    where
      by : (b : Bool) → (b || list_any t (pieces_at path ps)) ≡ b → (b || (b || list_any t (pieces_at path ps))) ≡ b
      by true h = refl
      by false h = h

  any_one : (b : Bool) → (b || false) ≡ b
  any_one true = refl
  any_one false = refl

  any_file : (path : List ℕ) (content : Content) (chunk : List Entry) → is_file content ≡ true → IsMadeAs path content chunk → list_any t chunk ≡ t (piece_at path [])
  any_file path Directory chunk file made = cc
  any_file path (Given bytes) chunk file made = ap (list_any t) made.is ∙ any_pieces path made.pieces
  any_file path (Copied origin size sha) chunk file made = ap (list_any t) made.is ∙ any_pieces path made.pieces

  any_made : (path : List ℕ) (content : Content) (chunk : List Entry) → IsMadeAs path content chunk → list_any t chunk ≡ t (record { path = path; node = cond (is_file content) (Piece []) Dir })
  any_made path Directory chunk made = ap (list_any t) made ∙ any_one (t (directory_entry path))
  any_made path (Given bytes) chunk made = any_file path (Given bytes) chunk refl made
  any_made path (Copied origin size sha) chunk made = any_file path (Copied origin size sha) chunk refl made

  pub any_outline : (plan : List PlanEntry) (es : List Entry) → AreMade plan es → list_any t es ≡ list_any t (planned_entries plan)
  any_outline [] es none = ap (list_any t) none
  any_outline (e ∷ plan) es are =
      ap (list_any t) are.is ∙ list_any-append t are.chunk are.rest
      ∙ ap (λ b. b || list_any t are.rest) (any_made e.path e.content are.chunk are.first)
      ∙ ap (λ b. t (outline_of e) || b) (any_outline plan are.rest are.others)

empty_chunk : (path : List ℕ) (content : Content) (chunk rest : List Entry) → IsMadeAs path content chunk → is_empty (chunk ++ rest) ≡ false
empty_chunk path Directory chunk rest made = ap (λ (xs : List Entry). is_empty (xs ++ rest)) made
empty_chunk path (Given bytes) chunk rest made = ap (λ (xs : List Entry). is_empty (xs ++ rest)) made.is
empty_chunk path (Copied origin size sha) chunk rest made = ap (λ (xs : List Entry). is_empty (xs ++ rest)) made.is

empty_outline : (plan : List PlanEntry) (es : List Entry) → AreMade plan es → is_empty es ≡ is_empty (planned_entries plan)
empty_outline [] es none = ap is_empty none
empty_outline (e ∷ plan) es are = ap is_empty are.is ∙ empty_chunk e.path e.content are.chunk are.rest are.first

module _ (plan : List PlanEntry) (es : List Entry) (are : AreMade plan es) where
  pub path_outline : (path : List ℕ) → has_path_among path es ≡ has_path_among path (planned_entries plan)
  path_outline path = any_outline (λ e. bytes_eq e.path path) (λ p b. refl) plan es are

  dir_outline : (path : List ℕ) → has_dir_among path es ≡ has_dir_among path (planned_entries plan)
  dir_outline path = any_outline (λ e. is_dir e.node && bytes_eq e.path path) (λ p b. refl) plan es are

  file_outline : (path : List ℕ) → has_file_among path es ≡ has_file_among path (planned_entries plan)
  file_outline path = any_outline (λ e. not (is_dir e.node) && bytes_eq e.path path) (λ p b. refl) plan es are

  pub new_outline : (path : List ℕ) → is_new_path path es ≡ is_new_path path (planned_entries plan)
  new_outline path =
      ap (λ b. nat_le (length path) 8192 && (not (is_empty path) && (not b && is_in_directory path es))) (path_outline path)
      ∙ ap (λ b. nat_le (length path) 8192 && (not (is_empty path) && (not (has_path_among path (planned_entries plan)) && (is_empty (parent path) || b)))) (dir_outline (parent path))

  pub turn_outline : (s : Seen) (area : Area) (file : Bool) (path : List ℕ) → is_in_order s area file path es ≡ is_in_order s area file path (planned_entries plan)
  turn_outline s Prepare file path =
      ap (λ b. (not b || (file && intends (λ i. bytes_eq path (created_mark i.now)) s.standing.intent)) && not (file && has_file_among (codes "pod") es)) (empty_outline plan es are)
      ∙ ap (λ b. (not (is_empty (planned_entries plan)) || (file && intends (λ i. bytes_eq path (created_mark i.now)) s.standing.intent)) && not (file && b)) (file_outline (codes "pod"))
  turn_outline s _ file path = refl

-- the next entry of a plan
pub follows_at : (before plan : List PlanEntry) (i : ℕ) (d : PlanEntry) → i < length plan → is_plan_after before plan ≡ true → may_follow_entries (before ++ take i plan) (get_or plan i d) ≡ true
follows_at before [] i d within h = absurd (omega (arith, within))
follows_at before (e ∷ es) zero d within h = subst (λ (b : List PlanEntry). may_follow_entries b e ≡ true) (sym (append-nil before)) (and_left _ _ h)
follows_at before (e ∷ es) (suc i) d within h = subst (λ (b : List PlanEntry). may_follow_entries b (get_or es i d) ≡ true) (append_assoc before (e ∷ []) (take i es)) (follows_at (before ++ e ∷ []) es i d (omega (arith, within)) (and_right _ _ h))

pub turn_at : (s : Seen) (area : Area) (before plan : List PlanEntry) (i : ℕ) (d : PlanEntry) → i < length plan → are_in_turn s area before plan ≡ true → is_in_turn s area (before ++ take i plan) (get_or plan i d) ≡ true
turn_at s area before [] i d within h = absurd (omega (arith, within))
turn_at s area before (e ∷ es) zero d within h = subst (λ (b : List PlanEntry). is_in_turn s area b e ≡ true) (sym (append-nil before)) (and_left _ _ h)
turn_at s area before (e ∷ es) (suc i) d within h = subst (λ (b : List PlanEntry). is_in_turn s area b (get_or es i d) ≡ true) (append_assoc before (e ∷ []) (take i es)) (turn_at s area (before ++ e ∷ []) es i d (omega (arith, within)) (and_right _ _ h))

pub among_at : (plan : List PlanEntry) (i : ℕ) (d : PlanEntry) → i < length plan → is_in_plan (get_or plan i d).path plan ≡ true
among_at [] i d within = absurd (omega (arith, within))
among_at (e ∷ es) zero d within = rw (same_bytes e.path) refl
among_at (e ∷ es) (suc i) d within = or_last (bytes_eq e.path (get_or es i d).path) (is_in_plan (get_or es i d).path es) (among_at es i d (omega (arith, within)))

pub path_made : (plan : List PlanEntry) (es : List Entry) → AreMade plan es → (path : List ℕ) → is_in_plan path plan ≡ true → has_path_among path es ≡ true
path_made plan es are path h = path_outline plan es are path ∙ any_of_map outline_of (λ e. bytes_eq e.path path) plan ∙ h

-- a directory of the plan is one of its paths
dir_among : (path : List ℕ) (plan : List PlanEntry) → has_dir_among path (planned_entries plan) ≡ true → is_in_plan path plan ≡ true
dir_among path [] h = cc
dir_among path (e ∷ es) h = by (is_dir (outline_of e).node) (bytes_eq e.path path) (dir_among path es) h
  where
    by : (a b : Bool) → (has_dir_among path (planned_entries es) ≡ true → is_in_plan path es ≡ true) → ((a && b) || has_dir_among path (planned_entries es)) ≡ true → (b || is_in_plan path es) ≡ true
    by a true more k = refl
    by true false more k = more k
    by false false more k = more k

among_more : (path : List ℕ) (plan : List PlanEntry) (e : PlanEntry) → is_in_plan path plan ≡ true → is_in_plan path (plan ++ e ∷ []) ≡ true
among_more path plan e h = any_push (λ x. bytes_eq x.path path) plan e h

pub owed_more : (before : List PlanEntry) (e : PlanEntry) (path : List ℕ) → is_owed before path ≡ true → is_owed (before ++ e ∷ []) path ≡ true
owed_more before e path h = by (is_empty path) h
  where
    by : (b : Bool) → (b || is_in_plan path before) ≡ true → (b || is_in_plan path (before ++ e ∷ [])) ≡ true
    by true k = refl
    by false k = among_more path before e k

pub owed_path : (before : List PlanEntry) (e : PlanEntry) → is_owed (before ++ e ∷ []) e.path ≡ true
owed_path before e = or_last (is_empty e.path) (is_in_plan e.path (before ++ e ∷ [])) (any_last (λ x. bytes_eq x.path e.path) before e (same_bytes e.path))

pub owed_parent : (before : List PlanEntry) (e : PlanEntry) → may_follow_entries before e ≡ true → is_owed (before ++ e ∷ []) (parent e.path) ≡ true
owed_parent before e h =
    let new : is_new_path e.path (planned_entries before) ≡ true = and_left _ _ (and_right (is_path e.path) _ h) in
    let fresh = and_right (not (is_empty e.path)) (not (has_path_among e.path (planned_entries before)) && is_in_directory e.path (planned_entries before)) (and_right (nat_le (length e.path) 8192) _ new) in
    let inside : is_in_directory e.path (planned_entries before) ≡ true = and_right (not (has_path_among e.path (planned_entries before))) (is_in_directory e.path (planned_entries before)) fresh in
    by (is_empty (parent e.path)) inside
  where
    by : (b : Bool) → (b || has_dir_among (parent e.path) (planned_entries before)) ≡ true → (b || is_in_plan (parent e.path) (before ++ e ∷ [])) ≡ true
    by true k = refl
    by false k = among_more (parent e.path) before e (dir_among (parent e.path) before k)

pub all_wider : (p q : List ℕ → Bool) → ((x : List ℕ) → p x ≡ true → q x ≡ true) → (xs : List (List ℕ)) → list_all p xs ≡ true → list_all q xs ≡ true
all_wider p q wider [] h = refl
all_wider p q wider (x ∷ xs) h = and_both _ _ (wider x (and_left _ _ h)) (all_wider p q wider xs (and_right _ _ h))

still_owed : (e : PlanEntry) (rest : List PlanEntry) (p : List ℕ) → bytes_eq p e.path ≡ false → is_owed (e ∷ rest) p ≡ true → is_owed rest p ≡ true
still_owed e rest p apart k = subst (λ (b : Bool). (is_empty p || (b || is_in_plan p rest)) ≡ true) (bytes_turned p e.path ∙ apart) k

pub owed_less : (e : PlanEntry) (rest : List PlanEntry) (paths : List (List ℕ)) → list_all (is_owed (e ∷ rest)) paths ≡ true → list_all (is_owed rest) (filter (λ p. not (bytes_eq p e.path)) paths) ≡ true
owed_less e rest [] h = refl
owed_less e rest (p ∷ ps) h = by (bytes_eq p e.path) refl (owed_less e rest ps (and_right (is_owed (e ∷ rest) p) _ h))
  where
    by : (b : Bool) → bytes_eq p e.path ≡ b → list_all (is_owed rest) (filter (λ q. not (bytes_eq q e.path)) ps) ≡ true → list_all (is_owed rest) (cond (not b) (p ∷ filter (λ q. not (bytes_eq q e.path)) ps) (filter (λ q. not (bytes_eq q e.path)) ps)) ≡ true
    by true is more = more
    by false is more = and_both _ _ (still_owed e rest p is (and_left (is_owed (e ∷ rest) p) _ h)) more

is_root : (p : List ℕ) → is_owed [] p ≡ true → bytes_eq p [] ≡ true
is_root [] h = refl
is_root (b ∷ bs) h = cc

pub owed_none : (paths : List (List ℕ)) → list_all (is_owed []) paths ≡ true → filter (λ p. not (bytes_eq p [])) paths ≡ []
owed_none [] h = refl
owed_none (p ∷ ps) h = rw (is_root p (and_left (is_owed [] p) _ h)) (owed_none ps (and_right (is_owed [] p) _ h))
