-- Files of images under the gate.
use Rattle.std.proofs.Common.{◌≡◌, ℕ, Bool, true, false, not, ◌&&◌, ◌||◌, ◌==◌, cond, bytes_eq, Option, Some, None, List, [], ◌∷◌, ◌++◌, map, filter, append_assoc, append-nil, refl, sym, ap, subst, ◌∙◌}
use Rattle.std.specs.List.{list_any, AllByRecursion}
use Rattle.dir_model.specs.declared.area.Area.TheVariants.{Images}
use Rattle.dir_model.specs.declared.event.Event.{Event}
use Rattle.dir_model.specs.declared.item.Inner.{Inner}
use Rattle.dir_model.specs.declared.spot.Spot.{Spot}
use Rattle.dir_model.specs.declared.tree.TreeEntry.{TreeEntry}
use Rattle.dir_model.specs.State.{DirState, folder_at}
use Rattle.dir_model.specs.Trace.{state_after}
use Rattle.dir_model.specs.Trees.{is_dir, has_file, content}
use Rattle.dir_model.specs.Calls.{is_foreign}
use Rattle.dir_model.proofs.Lists.{all_left, same_rest}
use Rattle.dir_model.proofs.Moments.{some_number}
use Rattle.dir_rules.specs.declared.seen.Entry.{Entry}
use Rattle.dir_rules.specs.Standing.{is_in}
use Rattle.lifecycle.specs.Executions.{IsConforming}
use Rattle.dir_files.specs.Reads.{inner_at, bytes_in, file_at, StaysFrom}
use Rattle.folder_contents.specs.Entries.{is_inside, entry_of, entries_in, file_bytes}
use Rattle.folder_contents.specs.UnderGate.{keeps_handles}
use Rattle.folder_contents.proofs.Entries.{content_is}
use Rattle.gate_reading.specs.Gate.{HasGate}
use Rattle.gate_reading.specs.Files.{is_outside_stage1, FindsFrom, FilesStay, NoneComes}
use Rattle.gate_reading.proofs.OwnSteps.{stays_to}
use Rattle.gate_reading.proofs.PlainPaths.{plain_own}

-- what file stands at a path the folder's entries tell
abbrev pub is_file_at : List ℕ → Entry → Bool
is_file_at path e = bytes_eq e.path path && not (is_dir e.node)

pub has_file_is : (k : ℕ) (path : List ℕ) (es : List TreeEntry) → has_file es k path ≡ list_any (is_file_at path) (entries_in k es)
has_file_is k path [] = refl
has_file_is k path (x ∷ es) = by (x.folder == k) (has_file_is k path es)
  where
    by : (a : Bool) → has_file es k path ≡ list_any (is_file_at path) (entries_in k es) →
        (((a && bytes_eq x.path path) && not (is_dir x.node)) || has_file es k path) ≡
        list_any (is_file_at path) (map entry_of (cond a (x ∷ filter (is_inside k) es) (filter (is_inside k) es)))
    by true go = ap (λ b. (bytes_eq x.path path && not (is_dir x.node)) || b) go
    by false go = go

abbrev pub told : List ℕ → List Entry → Option (List ℕ)
told path es = cond (list_any (is_file_at path) es) (Some (file_bytes path es)) None

pub file_told : (k : ℕ) (path : List ℕ) (es : List TreeEntry) → bytes_in es path (Some k) ≡ told path (entries_in k es)
file_told k path es = ap (λ b. cond b (Some (content es k path)) None) (has_file_is k path es)
    ∙ ap (λ (l : List ℕ). cond (list_any (is_file_at path) (entries_in k es)) (Some l) None) (content_is k path es)

pub same_file : (s t : DirState) (inner : Inner) (k : ℕ) → folder_at s.namespace inner.spot ≡ Some k →
    folder_at t.namespace inner.spot ≡ Some k → entries_in k s.entries ≡ entries_in k t.entries → file_at s inner ≡ file_at t inner
same_file s t inner k here there same =
    ap (bytes_in s.entries inner.path) here
    ∙ (file_told k inner.path s.entries
    ∙ (ap (told inner.path) same
    ∙ (sym (file_told k inner.path t.entries)
    ∙ sym (ap (bytes_in t.entries inner.path) there))))

-- at each own step the file is that of the beginning
pub finds : (trace : List Event) → IsConforming trace → (p : ℕ) (before more later : List Event) (spot : Spot) (path : List ℕ) (folder : ℕ) →
    trace ≡ (before ++ more) ++ later → is_in Images spot.area ≡ true → is_outside_stage1 path ≡ true → HasGate p before more →
    folder_at (state_after before).namespace spot ≡ Some folder →
    FindsFrom p (inner_at spot path) (file_at (state_after before) (inner_at spot path)) before (before ++ more)
finds trace conforming p before more later spot path folder whole is plain gate at x rest step split own =
    let cut : (before ++ x) ++ step ∷ [] ≡ before ++ (x ++ step ∷ []) = append_assoc before x (step ∷ []) in
    let parts : more ≡ (x ++ step ∷ []) ++ rest = same_rest before more ((x ++ step ∷ []) ++ rest)
    (split ∙ (ap (λ (h : List Event). h ++ rest) cut ∙ append_assoc before (x ++ step ∷ []) rest)) in
    let to_step : HasGate p before (x ++ step ∷ []) = record {
      shares = gate.shares;
      keeps = all_left (λ e. (is_foreign p e || keeps_handles e.request) ≡ true) (x ++ step ∷ []) rest
          (subst (λ (l : List Event). AllByRecursion (λ e. (is_foreign p e || keeps_handles e.request) ≡ true) l) parts gate.keeps);
    } in
    let whole_to : trace ≡ ((before ++ x) ++ step ∷ []) ++ (rest ++ later) =
    whole ∙ (ap (λ (h : List Event). h ++ later) split ∙ append_assoc ((before ++ x) ++ step ∷ []) rest later) in
    let here = stays_to trace conforming p before x (rest ++ later) step whole_to own to_step spot folder is at
    (x ++ step ∷ []) [] (sym (append-nil (x ++ step ∷ []))) in (
      plain_own ((before ++ x) ++ step ∷ []) (inner_at spot path) plain,
      subst (λ (h : List Event). file_at (state_after h) (inner_at spot path) ≡ file_at (state_after before) (inner_at spot path)) (sym cut)
          (same_file (state_after (before ++ (x ++ step ∷ []))) (state_after before) (inner_at spot path) folder here.0 at here.1),
    )

pub files_stay : (trace : List Event) → IsConforming trace → FilesStay trace
files_stay trace conforming p before more later spot path file whole is plain gate found = by (folder_at (state_after before).namespace spot) refl
  where
    by : (o : Option ℕ) → folder_at (state_after before).namespace spot ≡ o → StaysFrom p (inner_at spot path) file before (before ++ more)
    by None e = let no : None ≡ Some file = sym (ap (bytes_in (state_after before).entries path) e) ∙ found in absurd (cc)
    by (Some folder) e = subst (λ (f : Option (List ℕ)). FindsFrom p (inner_at spot path) f before (before ++ more)) found
        (finds trace conforming p before more later spot path folder whole is plain gate e)

pub none_comes : (trace : List Event) → IsConforming trace → NoneComes trace
none_comes trace conforming p before more later spot path whole is plain gate there none =
    let k = some_number (folder_at (state_after before).namespace spot) there in
    subst (λ (f : Option (List ℕ)). FindsFrom p (inner_at spot path) f before (before ++ more)) none
    (finds trace conforming p before more later spot path k.0 whole is plain gate k.1)
