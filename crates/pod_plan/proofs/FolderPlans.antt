-- Plans in parts, and what they made, by the paths of their entries.
use Rattle.std.proofs.Common.{◌≡◌, ℕ, Bool, true, false, not, ◌&&◌, ◌||◌, nat_le, bytes_eq, List, [], ◌∷◌, ◌++◌, length, refl, sym, ap, subst, ◌∙◌, append_assoc, append-nil}
use Rattle.std.specs.List.{list_any, list_all}
use Rattle.std.proofs.lemmas.Slice.Eq.{bytes_eq-Decides}
use Rattle.std.proofs.lemmas.List.{map-append}
use Rattle.std.proofs.lemmas.List.Folds.{list_any-append, list_all-append}
use Rattle.plain_laws.proofs.Texts.{same_bytes}
use Rattle.dir_model.specs.Paths.{is_empty, is_path}
use Rattle.dir_model.specs.Trees.{is_dir}
use Rattle.dir_model.proofs.Lists.{and_left, and_right, and_both, not_true, or_none, or_last, any_push, any_last}
use Rattle.dir_rules.specs.declared.seen.Entry.{Entry}
use Rattle.dir_rules.specs.Marks.{parent, has_slash}
use Rattle.dir_rules.specs.Rules.{has_path_among, has_dir_among, has_file_among, is_in_directory, is_new_path}
use Rattle.folder_building.specs.declared.plan.PlanEntry.{PlanEntry}
use Rattle.folder_building.specs.declared.plan.Content.{Content}
use Rattle.folder_building.specs.declared.plan.Content.TheVariants.{Directory, Given, Copied}
use Rattle.folder_building.specs.Plans.{is_file, is_entry_at, pieces_at, file_in_pieces, directory_entry, planned_entries, outline_of, has_origin, may_follow_entries, is_plan, is_plan_after, is_in_plan, IsMadeAs, AreMade}
use Rattle.folder_building.specs.Materialized.{joined_file_pieces, has_bytes}
use Rattle.folder_building.specs.TreePlans.{plan_entry_at}
use Rattle.folder_building.proofs.Among.{made_both}
use Rattle.folder_building.proofs.FilePaths.{parent_of}
use Rattle.folder_building.specs.ImagePlans.{given_file}
use Rattle.pod_plan.proofs.Under.{not_same}
use Rattle.folder_building.proofs.ImageMade.{there_among, bytes_own, bytes_among}
use Rattle.folder_building.proofs.Carries.{path_outline}

-- plans in parts

pub more_before : (before : List PlanEntry) (e : PlanEntry) (es : List PlanEntry) → before ++ e ∷ es ≡ (before ++ e ∷ []) ++ es
more_before before e es = sym (append_assoc before (e ∷ []) es)

pub plan_back : (before xs ys : List PlanEntry) → is_plan_after before (xs ++ ys) ≡ true → is_plan_after (before ++ xs) ys ≡ true
plan_back before [] ys h = subst (λ (l : List PlanEntry). is_plan_after l ys ≡ true) (sym (append-nil before)) h
plan_back before (x ∷ xs) ys h =
    subst (λ (l : List PlanEntry). is_plan_after l ys ≡ true) (sym (more_before before x xs))
    (plan_back (before ++ x ∷ []) xs ys (and_right (may_follow_entries before x) (is_plan_after (before ++ x ∷ []) (xs ++ ys)) h))

-- a directory that was made stays made
pub directory_stays : (path : List ℕ) (xs ys : List PlanEntry) → has_dir_among path (planned_entries xs) ≡ true → has_dir_among path (planned_entries (xs ++ ys)) ≡ true
directory_stays path xs ys h =
    ap (has_dir_among path) (map-append outline_of xs ys) ∙ (list_any-append (λ e. is_dir e.node && bytes_eq e.path path) (planned_entries xs) (planned_entries ys) ∙ rw h refl)

pub directory_last : (path : List ℕ) (xs : List PlanEntry) → has_dir_among path (planned_entries (xs ++ plan_entry_at path Directory ∷ [])) ≡ true
directory_last path xs =
    ap (has_dir_among path) (map-append outline_of xs (plan_entry_at path Directory ∷ []))
    ∙ (list_any-append (λ e. is_dir e.node && bytes_eq e.path path) (planned_entries xs) (planned_entries (plan_entry_at path Directory ∷ []))
    ∙ or_last (has_dir_among path (planned_entries xs)) (has_dir_among path (planned_entries (plan_entry_at path Directory ∷ []))) (rw ((bytes_eq-Decides path path).1 refl) refl))

-- a name in a directory that was made, where nothing has its path, comes next
pub comes_next : (before : List PlanEntry) (d n : List ℕ) (content : Content) → is_path (d ++ 47 ∷ n) ≡ true → has_slash n ≡ false → is_empty (d ++ 47 ∷ n) ≡ false → nat_le (length (d ++ 47 ∷ n)) 8192 ≡ true
    → is_in_plan (d ++ 47 ∷ n) before ≡ false → has_dir_among d (planned_entries before) ≡ true → has_origin content ≡ true → may_follow_entries before (plan_entry_at (d ++ 47 ∷ n) content) ≡ true
comes_next before d n content path none some short fresh there origin =
    let here = d ++ 47 ∷ n in
    and_both (is_path here) (is_new_path here (planned_entries before) && has_origin content) path
    (and_both (is_new_path here (planned_entries before)) (has_origin content)
    (and_both (nat_le (length here) 8192) (not (is_empty here) && (not (has_path_among here (planned_entries before)) && is_in_directory here (planned_entries before))) short
    (and_both (not (is_empty here)) (not (has_path_among here (planned_entries before)) && is_in_directory here (planned_entries before)) (ap not some)
    (and_both (not (has_path_among here (planned_entries before))) (is_in_directory here (planned_entries before)) (ap not (path_outline here before ∙ fresh))
    (or_last (is_empty (parent here)) (has_dir_among (parent here) (planned_entries before)) (subst (λ (p : List ℕ). has_dir_among p (planned_entries before) ≡ true) (sym (parent_of d n none)) there)))))
    origin)

-- no later entry of a plan has an earlier one's path
fresh_path : (before : List PlanEntry) (e : PlanEntry) → may_follow_entries before e ≡ true → is_in_plan e.path before ≡ false
fresh_path before e h =
    let new = and_left (is_new_path e.path (planned_entries before)) (has_origin e.content) (and_right (is_path e.path) (is_new_path e.path (planned_entries before) && has_origin e.content) h) in
    let some = and_right (nat_le (length e.path) 8192) (not (is_empty e.path) && (not (has_path_among e.path (planned_entries before)) && is_in_directory e.path (planned_entries before))) new in
    let apart = and_right (not (is_empty e.path)) (not (has_path_among e.path (planned_entries before)) && is_in_directory e.path (planned_entries before)) some in
    sym (path_outline e.path before) ∙ not_true (has_path_among e.path (planned_entries before)) (and_left (not (has_path_among e.path (planned_entries before))) (is_in_directory e.path (planned_entries before)) apart)

none_later : (path : List ℕ) (before ys : List PlanEntry) → is_in_plan path before ≡ true → is_plan_after before ys ≡ true → is_in_plan path ys ≡ false
none_later path before [] there h = refl
none_later path before (y ∷ ys) there h =
    let next = and_left (may_follow_entries before y) (is_plan_after (before ++ y ∷ []) ys) h in
    or_none (bytes_eq y.path path) (is_in_plan path ys)
    (not_same y.path path (λ is. let clash : true ≡ false = sym there ∙ (ap (λ p. is_in_plan p before) (sym is) ∙ fresh_path before y next) in absurd cc))
    (none_later path (before ++ y ∷ []) ys (any_push (λ e. bytes_eq e.path path) before y there) (and_right (may_follow_entries before y) (is_plan_after (before ++ y ∷ []) ys) h))

-- one entry of a plan, between those before it and those after it
pub record IsIn (e : PlanEntry) (plan : List PlanEntry) : Type 0 where
  pub front : List PlanEntry
  pub back : List PlanEntry
  pub is : plan ≡ front ++ e ∷ back

pub in_first : (e : PlanEntry) (es : List PlanEntry) → IsIn e (e ∷ es)
in_first e es = record { front = []; back = es; is = refl }

pub in_rest : (e x : PlanEntry) (es : List PlanEntry) → IsIn e es → IsIn e (x ∷ es)
in_rest e x es i = record { front = x ∷ i.front; back = i.back; is = ap (λ l. x ∷ l) i.is }

pub in_left : (e : PlanEntry) (xs ys : List PlanEntry) → IsIn e xs → IsIn e (xs ++ ys)
in_left e xs ys i = record { front = i.front; back = i.back ++ ys; is = ap (λ l. l ++ ys) i.is ∙ append_assoc i.front (e ∷ i.back) ys }

pub in_right : (e : PlanEntry) (xs ys : List PlanEntry) → IsIn e ys → IsIn e (xs ++ ys)
in_right e xs ys i = record { front = xs ++ i.front; back = i.back; is = ap (λ l. xs ++ l) i.is ∙ sym (append_assoc xs i.front (e ∷ i.back)) }

-- what was made

-- each entry passes a test of its kind and its path
abbrev pub AllMade : (Bool → List ℕ → Bool) → List Entry → Type 0
AllMade test entries = list_all (λ e. test (is_dir e.node) e.path) entries ≡ true

abbrev pub is_directory : Content → Bool
is_directory content = not (is_file content)

abbrev pub AllPlanned : (Bool → List ℕ → Bool) → List PlanEntry → Type 0
AllPlanned test plan = list_all (λ e. test (is_directory e.content) e.path) plan ≡ true

pub planned_both : (test : Bool → List ℕ → Bool) (xs ys : List PlanEntry) → AllPlanned test xs → AllPlanned test ys → AllPlanned test (xs ++ ys)
planned_both test xs ys a b = list_all-append (λ e. test (is_directory e.content) e.path) xs ys ∙ and_both (list_all (λ e. test (is_directory e.content) e.path) xs) (list_all (λ e. test (is_directory e.content) e.path) ys) a b

pub planned_as : (test weaker : Bool → List ℕ → Bool) → ((b : Bool) (p : List ℕ) → test b p ≡ true → weaker b p ≡ true) → (plan : List PlanEntry) → AllPlanned test plan → AllPlanned weaker plan
planned_as test weaker f [] h = refl
planned_as test weaker f (e ∷ es) h =
    and_both (weaker (is_directory e.content) e.path) (list_all (λ x. weaker (is_directory x.content) x.path) es) (f (is_directory e.content) e.path (and_left (test (is_directory e.content) e.path) (list_all (λ x. test (is_directory x.content) x.path) es) h))
    (planned_as test weaker f es (and_right (test (is_directory e.content) e.path) (list_all (λ x. test (is_directory x.content) x.path) es) h))

pieces_pass : (test : Bool → List ℕ → Bool) (path : List ℕ) (pieces : List (List ℕ)) → test false path ≡ true → AllMade test (pieces_at path pieces)
pieces_pass test path [] h = refl
pieces_pass test path (p ∷ ps) h = and_both (test false path) (list_all (λ (e : Entry). test (is_dir e.node) e.path) (pieces_at path ps)) h (pieces_pass test path ps h)

chunk_passes : (test : Bool → List ℕ → Bool) (path : List ℕ) (content : Content) (chunk : List Entry) → IsMadeAs path content chunk → test (is_directory content) path ≡ true → AllMade test chunk
chunk_passes test path Directory chunk m h = subst (AllMade test) (sym m) (and_both (test true path) true h refl)
chunk_passes test path (Given bytes) chunk m h = subst (AllMade test) (sym m.is) (and_both (test false path) (list_all (λ (e : Entry). test (is_dir e.node) e.path) (pieces_at path m.pieces)) h (pieces_pass test path m.pieces h))
chunk_passes test path (Copied origin size sha) chunk m h = subst (AllMade test) (sym m.is) (and_both (test false path) (list_all (λ (e : Entry). test (is_dir e.node) e.path) (pieces_at path m.pieces)) h (pieces_pass test path m.pieces h))

pub made_passes : (test : Bool → List ℕ → Bool) (plan : List PlanEntry) (entries : List Entry) → AreMade plan entries → AllPlanned test plan → AllMade test entries
made_passes test [] entries m h = subst (AllMade test) (sym m) refl
made_passes test (e ∷ plan) entries m h =
    subst (AllMade test) (sym m.is)
    (list_all-append (λ x. test (is_dir x.node) x.path) m.chunk m.rest
    ∙ and_both (list_all (λ x. test (is_dir x.node) x.path) m.chunk) (list_all (λ x. test (is_dir x.node) x.path) m.rest)
    (chunk_passes test e.path e.content m.chunk m.first (and_left (test (is_directory e.content) e.path) (list_all (λ x. test (is_directory x.content) x.path) plan) h))
    (made_passes test plan m.rest m.others (and_right (test (is_directory e.content) e.path) (list_all (λ x. test (is_directory x.content) x.path) plan) h)))

-- where every entry fails a test, none passes it
pub none_made : (test : Bool → List ℕ → Bool) (entries : List Entry) → AllMade (λ b p. not (test b p)) entries → list_any (λ e. test (is_dir e.node) e.path) entries ≡ false
none_made test [] h = refl
none_made test (e ∷ es) h =
    or_none (test (is_dir e.node) e.path) (list_any (λ x. test (is_dir x.node) x.path) es) (not_true (test (is_dir e.node) e.path) (and_left (not (test (is_dir e.node) e.path)) (list_all (λ x. not (test (is_dir x.node) x.path)) es) h))
    (none_made test es (and_right (not (test (is_dir e.node) e.path)) (list_all (λ x. not (test (is_dir x.node) x.path)) es) h))

none_planned : (path : List ℕ) (plan : List PlanEntry) → is_in_plan path plan ≡ false → AllPlanned (λ b p. not (bytes_eq p path)) plan
none_planned path [] h = refl
none_planned path (e ∷ es) h = by (bytes_eq e.path path) h (none_planned path es)
  where
    by : (b : Bool) → (b || is_in_plan path es) ≡ false → (is_in_plan path es ≡ false → AllPlanned (λ b p. not (bytes_eq p path)) es) → (not b && list_all (λ x. not (bytes_eq x.path path)) es) ≡ true
    by true h rest = cc
    by false h rest = rest h

-- nothing stands at a path that the plan hasn't
made_elsewhere : (path : List ℕ) (plan : List PlanEntry) (entries : List Entry) → AreMade plan entries → is_in_plan path plan ≡ false → list_any (is_entry_at path) entries ≡ false
made_elsewhere path plan entries m h = none_made (λ b p. bytes_eq p path) entries (made_passes (λ b p. not (bytes_eq p path)) plan entries m (none_planned path plan h))

-- a file with given bytes of a plan that was carried out
pub has_given : (path bytes : List ℕ) (plan : List PlanEntry) (entries : List Entry) → is_plan plan ≡ true → IsIn (given_file path bytes) plan → AreMade plan entries → has_bytes path bytes entries ≡ true
has_given path bytes plan entries whole i made =
    let e = given_file path bytes in
    let parted : is_plan_after [] (i.front ++ e ∷ i.back) ≡ true = subst (λ (l : List PlanEntry). is_plan_after [] l ≡ true) i.is whole in
    let behind : is_plan_after i.front (e ∷ i.back) ≡ true = plan_back [] i.front (e ∷ i.back) parted in
    let first : is_in_plan path i.front ≡ false = fresh_path i.front e (and_left (may_follow_entries i.front e) (is_plan_after (i.front ++ e ∷ []) i.back) behind) in
    let there : is_in_plan path (i.front ++ e ∷ []) ≡ true = any_last (λ x. bytes_eq x.path path) i.front e (same_bytes path) in
    let last : is_in_plan path i.back ≡ false = none_later path (i.front ++ e ∷ []) i.back there (and_right (may_follow_entries i.front e) (is_plan_after (i.front ++ e ∷ []) i.back) behind) in
    let m = made_both i.front (e ∷ i.back) entries (subst (λ (l : List PlanEntry). AreMade l entries) i.is made) in
    let f = m.later in
    let before = made_elsewhere path i.front m.front m.made first in
    let after = made_elsewhere path i.back f.rest f.others last in
    let is : entries ≡ m.front ++ (file_in_pieces path f.first.pieces ++ f.rest) = m.is ∙ ap (λ l. m.front ++ l) (f.is ∙ ap (λ l. l ++ f.rest) f.first.is) in
    let same : joined_file_pieces path (m.front ++ (file_in_pieces path f.first.pieces ++ f.rest)) ≡ bytes = bytes_among path m.front (file_in_pieces path f.first.pieces) f.rest before after ∙ (bytes_own path f.first.pieces ∙ f.first.fits) in
    subst (λ (l : List Entry). has_bytes path bytes l ≡ true) (sym is)
    (and_both (has_file_among path (m.front ++ (file_in_pieces path f.first.pieces ++ f.rest))) (bytes_eq (joined_file_pieces path (m.front ++ (file_in_pieces path f.first.pieces ++ f.rest))) bytes)
    (there_among path m.front f.rest f.first.pieces) ((bytes_eq-Decides (joined_file_pieces path (m.front ++ (file_in_pieces path f.first.pieces ++ f.rest))) bytes).1 same))

-- a directory
pub has_directory : (path : List ℕ) (plan : List PlanEntry) (entries : List Entry) → IsIn (plan_entry_at path Directory) plan → AreMade plan entries → has_dir_among path entries ≡ true
has_directory path plan entries i made =
    let m = made_both i.front (plan_entry_at path Directory ∷ i.back) entries (subst (λ (l : List PlanEntry). AreMade l entries) i.is made) in
    let f = m.later in
    let is : entries ≡ m.front ++ (directory_entry path ∷ f.rest) = m.is ∙ ap (λ l. m.front ++ l) (f.is ∙ ap (λ l. l ++ f.rest) f.first) in
    subst (λ (l : List Entry). has_dir_among path l ≡ true) (sym is)
    (list_any-append (λ e. is_dir e.node && bytes_eq e.path path) m.front (directory_entry path ∷ f.rest) ∙ or_last (has_dir_among path m.front) (has_dir_among path (directory_entry path ∷ f.rest)) (rw (same_bytes path) refl))

-- entries that were added one after the other
pub two_more : (plan new newer : List PlanEntry) (a b : PlanEntry) → new ≡ plan ++ a ∷ [] → newer ≡ new ++ b ∷ [] → newer ≡ plan ++ a ∷ b ∷ []
two_more plan new newer a b p q = q ∙ (ap (λ l. l ++ b ∷ []) p ∙ append_assoc plan (a ∷ []) (b ∷ []))

pub three_more : (plan new newer newest : List PlanEntry) (a b c : PlanEntry) → new ≡ plan ++ a ∷ [] → newer ≡ new ++ b ∷ [] → newest ≡ newer ++ c ∷ [] → newest ≡ plan ++ a ∷ b ∷ c ∷ []
three_more plan new newer newest a b c p q r = r ∙ (ap (λ l. l ++ c ∷ []) (two_more plan new newer a b p q) ∙ append_assoc plan (a ∷ b ∷ []) (c ∷ []))
