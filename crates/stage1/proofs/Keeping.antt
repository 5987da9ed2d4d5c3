-- Notes, one after the other, and what the process knows then.
use Rattle.std.proofs.Common.{arith, ◌≡◌, ◌≤◌, ℕ, ◌+◌, Bool, true, false, not, ◌&&◌, ◌||◌, cond, List, [], ◌∷◌, ◌++◌, length, length-append, nat_lt, refl, sym, ap, subst, ◌∙◌}
use Rattle.std.specs.List.{list_any}
use Rattle.std.proofs.lemmas.Bool.Decides.{nat_tests}
use Rattle.std.proofs.lemmas.Bool.{or_left}
use Rattle.ac_types.specs.Names.{IsAcName}
use Rattle.dir_model.specs.declared.area.Area.{Area}
use Rattle.dir_model.specs.declared.area.Area.TheVariants.{Run}
use Rattle.dir_model.specs.declared.item.Inner.{Inner}
use Rattle.dir_model.specs.declared.request.Reply.{Reply}
use Rattle.dir_model.specs.declared.request.Reply.TheVariants.{Done, Opened, Refused}
use Rattle.dir_model.specs.declared.request.Request.{Request}
use Rattle.dir_model.specs.declared.request.Request.TheVariants.{MakeFileIn, AppendIn, SyncIn}
use Rattle.dir_model.specs.Areas.{is_stage}
use Rattle.dir_model.specs.Paths.{is_empty}
use Rattle.dir_model.specs.Trees.{mark_prefix}
use Rattle.dir_model.proofs.Lists.{and_both, or_last}
use Rattle.dir_rules.specs.declared.standing.Standing.{Standing}
use Rattle.dir_rules.specs.declared.seen.Seen.{Seen}
use Rattle.dir_rules.specs.Conforms.{seen_replied}
use Rattle.dir_rules.specs.Marks.{has_slash, status_directory, is_started_mark, is_status_file}
use Rattle.dir_rules.specs.Rules.{allows, runs, deletes, has_note, spares_deleted_pod, may_note, may_mark, may_make_file_in, may_append_in, may_sync_in}
use Rattle.dir_rules.specs.Seen.{inner_eq, learned}
use Rattle.dir_rules.specs.Standing.{is_in, standing_replied}
use Rattle.dir_laws.proofs.Names.{app_name, no_slashes}
use Rattle.dir_laws.proofs.Spots.{inner_self}
use Rattle.dir_trait.specs.DirCalls.{DirAt, DirCall}
use Rattle.dir_trait.proofs.Knowing.{knows_call}
use Rattle.spawner.specs.declared.call.RootPlace.{RootPlace}
use Rattle.spawner.specs.Conditions.{start_mark}
use Rattle.stage1.specs.Notes.{IsRootInRun, mark_inner, status_inner, status_path}
use Rattle.stage1.specs.Keeping.{appends, CallsDirectory, once, note_count, MayNote, Noted, NotesAtMost, mark_times, status_times}
use Rattle.stage1.proofs.Appends.{call_few}

-- nothing was asked; one after the other; a bound more
pub keeps_none : {times : Inner → ℕ} {d : DirAt} → NotesAtMost times d d
keeps_none {times} = record { few = λ i. omega arith; keep = λ s k may. record { known = s; noted = record { stands = refl; kept = refl; made = λ inner. omega arith }; knows = k } }

may_first : (t u : Inner → ℕ) (s : Seen) → MayNote (λ i. t i + u i) s → MayNote t s
may_first t u s may = record {
  once_all = λ i. omega (arith, may.once_all i);
  runs_it = λ i h. may.runs_it i (omega (arith, h));
  spares_it = λ i h. may.spares_it i (omega (arith, h));
}

may_second : (t u : Inner → ℕ) (s s' : Seen) → MayNote (λ i. t i + u i) s → Noted t s s' → MayNote u s'
may_second t u s s' may n = record {
  once_all = λ i. omega (arith, may.once_all i, n.made i);
  runs_it = λ i h. ap (λ (x : Standing). runs (record s' { standing = x }) i.spot.name) n.stands ∙ may.runs_it i (omega (arith, h));
  spares_it = λ i h. ap (λ (x : Standing). deletes (record s' { standing = x }) i.spot.name) n.stands ∙ may.spares_it i (omega (arith, h));
}

noted_more : (t u : Inner → ℕ) (a b c : Seen) → Noted t a b → Noted u b c → Noted (λ i. t i + u i) a c
noted_more t u a b c ab bc = record { stands = bc.stands ∙ ab.stands; kept = bc.kept ∙ ab.kept; made = λ i. omega (arith, ab.made i, bc.made i) }

pub keeps_more : {t u : Inner → ℕ} {a b c : DirAt} → NotesAtMost t a b → NotesAtMost u b c → NotesAtMost (λ i. t i + u i) a c
keeps_more {t} {u} ab bc = record {
  few = λ i. omega (arith, ab.few i, bc.few i);
  keep = λ s k may.
      let one = ab.keep s k (may_first t u s may) in
      let two = bc.keep one.known one.knows (may_second t u s one.known may one.noted) in
      record { known = two.known; noted = noted_more t u s one.known two.known one.noted two.noted; knows = two.knows };
}

pub keeps_wider : {t u : Inner → ℕ} {a b : DirAt} → ((i : Inner) → t i ≤ u i) → NotesAtMost t a b → NotesAtMost u a b
keeps_wider {t} {u} wider ab = record {
  few = λ i. omega (arith, ab.few i, wider i);
  keep = λ s k may.
      let one = ab.keep s k (record {
        once_all = λ i. omega (arith, may.once_all i, wider i);
        runs_it = λ i h. may.runs_it i (omega (arith, h, wider i));
        spares_it = λ i h. may.spares_it i (omega (arith, h, wider i));
      }) in
      record { known = one.known; noted = record { stands = one.noted.stands; kept = one.noted.kept; made = λ i. omega (arith, one.noted.made i, wider i) }; knows = one.knows };
}

-- requests in a folder change nothing of what is held
stands_file : (s : Standing) (inner : Inner) (p : Reply) → standing_replied s (MakeFileIn inner) p ≡ s
stands_file s inner Done = refl
stands_file s inner (Opened handle) = refl
stands_file s inner (Refused error left) = refl
stands_file s inner p = refl

stands_append : (s : Standing) (inner : Inner) (piece : List ℕ) (p : Reply) → standing_replied s (AppendIn inner piece) p ≡ s
stands_append s inner piece Done = refl
stands_append s inner piece (Opened handle) = refl
stands_append s inner piece (Refused error left) = refl
stands_append s inner piece p = refl

stands_sync : (s : Standing) (inner : Inner) (p : Reply) → standing_replied s (SyncIn inner) p ≡ s
stands_sync s inner Done = refl
stands_sync s inner (Opened handle) = refl
stands_sync s inner (Refused error left) = refl
stands_sync s inner p = refl

-- nor of what was made, but for the file that is made
notes_append : (s : Seen) (inner : Inner) (piece : List ℕ) (p : Reply) → (learned s (AppendIn inner piece) p).notes ≡ s.notes
notes_append s inner piece Done = refl
notes_append s inner piece (Refused error left) = refl
notes_append s inner piece p = refl

notes_sync : (s : Seen) (inner : Inner) (p : Reply) → (learned s (SyncIn inner) p).notes ≡ s.notes
notes_sync s inner Done = refl
notes_sync s inner (Refused error left) = refl
notes_sync s inner p = refl

either_once : (a b : Bool) → once (a || b) ≤ once b + once a
either_once true b = omega arith
either_once false b = omega arith

made_once : (b : Bool) (inner i : Inner) (notes : List Inner) → once (list_any (inner_eq i) (cond b (inner ∷ notes) notes)) ≤ once (list_any (inner_eq i) notes) + once (inner_eq i inner)
made_once true inner i notes = either_once (inner_eq i inner) (list_any (inner_eq i) notes)
made_once false inner i notes = omega arith

made_file : (s : Seen) (inner i : Inner) (p : Reply) → once (list_any (inner_eq i) (learned s (MakeFileIn inner) p).notes) ≤ note_count s i + once (inner_eq i inner)
made_file s inner i Done = made_once (is_in inner.spot.area Run) inner i s.notes
made_file s inner i (Refused error left) = omega arith
made_file s inner i p = omega arith

has_file : (s : Seen) (inner : Inner) → inner.spot.area ≡ Run → has_note (seen_replied s (MakeFileIn inner) Done) inner ≡ true
has_file s inner area = ap (λ (a : Area). list_any (inner_eq inner) (cond (is_in a Run) (inner ∷ s.notes) s.notes)) area ∙ ap (λ (b : Bool). b || list_any (inner_eq inner) s.notes) (inner_self inner)

module _ (s : Seen) (inner : Inner) (area : inner.spot.area ≡ Run) (mine : runs s inner.spot.name ≡ true) (spared : deletes s inner.spot.name ≡ false) where
  spared_there : spares_deleted_pod s inner ≡ true
  spared_there = subst (λ (a : Area). not (is_stage a && deletes s inner.spot.name) ≡ true) (sym area) (ap not spared)

  may_file : (is_started_mark inner.path || is_status_file inner.path) ≡ true → has_note s inner ≡ false → allows s (MakeFileIn inner) ≡ true
  may_file form none = and_both (may_make_file_in s inner inner.spot.area) (spares_deleted_pod s inner)
      (subst (λ (a : Area). may_make_file_in s inner a ≡ true) (sym area)
      (or_left (may_note s inner) (may_mark s inner) (and_both (runs s inner.spot.name) ((is_started_mark inner.path || is_status_file inner.path) && not (has_note s inner)) mine (and_both (is_started_mark inner.path || is_status_file inner.path) (not (has_note s inner)) form (ap not none)))))
      spared_there

  may_append : (piece : List ℕ) → is_status_file inner.path ≡ true → has_note s inner ≡ true → allows s (AppendIn inner piece) ≡ true
  may_append piece form has = and_both (may_append_in s inner inner.spot.area) (spares_deleted_pod s inner)
      (subst (λ (a : Area). may_append_in s inner a ≡ true) (sym area) (and_both (runs s inner.spot.name) (is_status_file inner.path && has_note s inner) mine (and_both (is_status_file inner.path) (has_note s inner) form has)))
      spared_there

  may_sync : (is_empty inner.path || has_note s inner) ≡ true → allows s (SyncIn inner) ≡ true
  may_sync form = and_both (may_sync_in s inner inner.spot.area) (spares_deleted_pod s inner)
      (subst (λ (a : Area). may_sync_in s inner a ≡ true) (sym area) (and_both (runs s inner.spot.name) (is_empty inner.path || has_note s inner) mine form))
      spared_there

allowed : (s : Seen) (request : Request) → allows s request ≡ true → (allows s request && s.kept) ≡ s.kept
allowed s request h = ap (λ (b : Bool). b && s.kept) h

none_yet : (b : Bool) (n : ℕ) → 1 ≤ n → n + once b ≤ 1 → b ≡ false
none_yet true n some h = absurd (omega (arith, some, h))
none_yet false n some h = refl

-- a file at a place
abbrev file_times : Inner → Inner → ℕ
file_times inner i = once (inner_eq i inner)

one_file : (inner : Inner) → 1 ≤ file_times inner inner
one_file inner = let is : file_times inner inner ≡ 1 = ap once (inner_self inner) in omega (arith, is)

module _ (inner : Inner) (area : inner.spot.area ≡ Run) (form : (is_started_mark inner.path || is_status_file inner.path) ≡ true) where
  file_noted : (s : Seen) (p : Reply) → MayNote (file_times inner) s → Noted (file_times inner) s (seen_replied s (MakeFileIn inner) p)
  file_noted s p may = record {
    stands = stands_file s.standing inner p;
    kept = allowed s (MakeFileIn inner) (may_file s inner area (may.runs_it inner (one_file inner)) (may.spares_it inner (one_file inner)) form (none_yet (has_note s inner) (file_times inner inner) (one_file inner) (may.once_all inner)));
    made = λ i. made_file s inner i p;
  }

  pub keeps_file : {observed : Bool} {a b : DirAt} → observed ≡ true → CallsDirectory observed (MakeFileIn inner) a b → NotesAtMost (file_times inner) a b
  keeps_file {observed} {a} {b} t c = record { few = λ i. (let f : appends b i ≤ appends a i + 0 = call_few t i c.called in omega (arith, f)); keep = λ s k may. record { known = seen_replied s (MakeFileIn inner) c.reply; noted = file_noted s c.reply may; knows = knows_call t k refl refl c.called } }

  -- and then the folder is synced
  module _ (folder : Inner) (at : folder.spot ≡ inner.spot) (root : folder.path ≡ []) where
    pub keeps_synced : {observed : Bool} {a b d : DirAt} → observed ≡ true → DirCall observed a (MakeFileIn inner) Done b → CallsDirectory observed (SyncIn folder) b d → NotesAtMost (file_times inner) a d
    keeps_synced {observed} {a} {b} {d} t made c = record {
      few = λ i.
          let one : appends b i ≤ appends a i + 0 = call_few t i made in
          let two : appends d i ≤ appends b i + 0 = call_few t i c.called in
          omega (arith, one, two);
      keep = λ s k may.
          let s' = seen_replied s (MakeFileIn inner) Done in
          let n = file_noted s Done may in
          let mine : runs s' folder.spot.name ≡ true = subst (λ x. runs s' x.name ≡ true) (sym at) (ap (λ (x : Standing). runs (record s' { standing = x }) inner.spot.name) n.stands ∙ may.runs_it inner (one_file inner)) in
          let spared : deletes s' folder.spot.name ≡ false = subst (λ x. deletes s' x.name ≡ false) (sym at) (ap (λ (x : Standing). deletes (record s' { standing = x }) inner.spot.name) n.stands ∙ may.spares_it inner (one_file inner)) in
          let here : folder.spot.area ≡ Run = ap (λ x. x.area) at ∙ area in
          let empty : (is_empty folder.path || has_note s' folder) ≡ true = ap (λ (p : List ℕ). is_empty p || has_note s' folder) root in
          record {
            known = seen_replied s' (SyncIn folder) c.reply;
            noted = record {
              stands = stands_sync s'.standing folder c.reply ∙ n.stands;
              kept = allowed s' (SyncIn folder) (may_sync s' folder here mine spared empty) ∙ n.kept;
              made = λ i. subst (λ (l : List Inner). once (list_any (inner_eq i) l) ≤ note_count s i + file_times inner i) (sym (notes_sync s' folder c.reply)) (n.made i);
            };
            knows = knows_call t (knows_call t k refl refl made) refl refl c.called;
          };
    }

-- a status: its file is made, then written, then synced
module _ (inner : Inner) (area : inner.spot.area ≡ Run) (form : is_status_file inner.path ≡ true) (piece : List ℕ) where
  status_form_either : (is_started_mark inner.path || is_status_file inner.path) ≡ true
  status_form_either = or_last (is_started_mark inner.path) (is_status_file inner.path) form

  appended : (s : Seen) (p : Reply) → MayNote (file_times inner) s → Noted (file_times inner) s (seen_replied (seen_replied s (MakeFileIn inner) Done) (AppendIn inner piece) p)
  appended s p may =
      let s' = seen_replied s (MakeFileIn inner) Done in
      let n = file_noted inner area status_form_either s Done may in
      let mine : runs s' inner.spot.name ≡ true = may.runs_it inner (one_file inner) in
      let spared : deletes s' inner.spot.name ≡ false = may.spares_it inner (one_file inner) in
      record {
        stands = stands_append s'.standing inner piece p ∙ n.stands;
        kept = allowed s' (AppendIn inner piece) (may_append s' inner area mine spared piece form (has_file s inner area)) ∙ n.kept;
        made = λ i. subst (λ (l : List Inner). once (list_any (inner_eq i) l) ≤ note_count s i + file_times inner i) (sym (notes_append s' inner piece p)) (n.made i);
      }

  pub keeps_appended : {observed : Bool} {a b d : DirAt} → observed ≡ true → DirCall observed a (MakeFileIn inner) Done b → CallsDirectory observed (AppendIn inner piece) b d → NotesAtMost (file_times inner) a d
  keeps_appended {observed} {a} {b} {d} t made c = record {
    few = λ i.
        let one : appends b i ≤ appends a i + 0 = call_few t i made in
        let two : appends d i ≤ appends b i + file_times inner i = call_few t i c.called in
        omega (arith, one, two);
    keep = λ s k may. record {
      known = seen_replied (seen_replied s (MakeFileIn inner) Done) (AppendIn inner piece) c.reply;
      noted = appended s c.reply may;
      knows = knows_call t (knows_call t k refl refl made) refl refl c.called;
    };
  }

  pub keeps_written : {observed : Bool} {a b c d : DirAt} → observed ≡ true → DirCall observed a (MakeFileIn inner) Done b → CallsDirectory observed (AppendIn inner piece) b c → CallsDirectory observed (SyncIn inner) c d → NotesAtMost (file_times inner) a d
  keeps_written {observed} {a} {b} {c} {d} t made ap_call sy_call = record {
    few = λ i.
        let one : appends b i ≤ appends a i + 0 = call_few t i made in
        let two : appends c i ≤ appends b i + file_times inner i = call_few t i ap_call.called in
        let three : appends d i ≤ appends c i + 0 = call_few t i sy_call.called in
        omega (arith, one, two, three);
    keep = λ s k may.
        let s' = seen_replied s (MakeFileIn inner) Done in
        let s'' = seen_replied s' (AppendIn inner piece) ap_call.reply in
        let n = appended s ap_call.reply may in
        let mine : runs s'' inner.spot.name ≡ true = ap (λ (x : Standing). runs (record s'' { standing = x }) inner.spot.name) n.stands ∙ may.runs_it inner (one_file inner) in
        let spared : deletes s'' inner.spot.name ≡ false = ap (λ (x : Standing). deletes (record s'' { standing = x }) inner.spot.name) n.stands ∙ may.spares_it inner (one_file inner) in
        let has : has_note s'' inner ≡ true = ap (list_any (inner_eq inner)) (notes_append s' inner piece ap_call.reply) ∙ has_file s inner area in
        record {
          known = seen_replied s'' (SyncIn inner) sy_call.reply;
          noted = record {
            stands = stands_sync s''.standing inner sy_call.reply ∙ n.stands;
            kept = allowed s'' (SyncIn inner) (may_sync s'' inner area mine spared (or_last (is_empty inner.path) (has_note s'' inner) has)) ∙ n.kept;
            made = λ i. subst (λ (l : List Inner). once (list_any (inner_eq i) l) ≤ note_count s i + file_times inner i) (sym (notes_sync s'' inner sy_call.reply)) (n.made i);
          };
          knows = knows_call t (knows_call t (knows_call t k refl refl made) refl refl ap_call.called) refl refl sy_call.called;
        };
  }

-- the paths
over_8 : (n : ℕ) → 9 ≤ n → nat_lt 8 n ≡ true
over_8 n h = grind (arith, nat_tests)

over_25 : (n : ℕ) → 26 ≤ n → nat_lt 25 n ≡ true
over_25 n h = grind (arith, nat_tests)

some_bytes : (bs : List ℕ) → is_empty bs ≡ false → 1 ≤ length bs
some_bytes [] h = cc
some_bytes (b ∷ bs) h = omega arith

is_mark : (app : List ℕ) → IsAcName app → is_started_mark (start_mark app) ≡ true
is_mark app is =
    let name = app_name app is in
    let long : 9 ≤ length (mark_prefix ++ app) = omega (arith, length-append mark_prefix app, some_bytes app name.some) in
    and_both (nat_lt 8 (length (mark_prefix ++ app))) (not (has_slash app)) (over_8 (length (mark_prefix ++ app)) long) (ap not (no_slashes app name.plain))

is_status : (app : List ℕ) → IsAcName app → is_status_file (status_path app) ≡ true
is_status app is =
    let name = app_name app is in
    let long : 26 ≤ length (status_directory ++ 47 ∷ app) = omega (arith, length-append status_directory (47 ∷ app), some_bytes app name.some) in
    and_both (nat_lt 25 (length (status_directory ++ 47 ∷ app))) (not (has_slash app)) (over_25 (length (status_directory ++ 47 ∷ app)) long) (ap not (no_slashes app name.plain))

module _ (root : RootPlace) (placed : IsRootInRun root) where
  mark_of : (is_started_mark (start_mark root.app) || is_status_file (start_mark root.app)) ≡ true
  mark_of = or_left (is_started_mark (start_mark root.app)) (is_status_file (start_mark root.app)) (is_mark root.app placed.named)

  status_of : is_status_file (status_path root.app) ≡ true
  status_of = is_status root.app placed.named

  pub keeps_mark : {observed : Bool} {a b : DirAt} → observed ≡ true → CallsDirectory observed (MakeFileIn (mark_inner root)) a b → NotesAtMost (mark_times root) a b
  keeps_mark t c = keeps_file (mark_inner root) placed.area mark_of t c

  pub keeps_marked : {observed : Bool} {a b c : DirAt} (folder : Inner) → folder.spot ≡ root.spot → folder.path ≡ [] → observed ≡ true → DirCall observed a (MakeFileIn (mark_inner root)) Done b → CallsDirectory observed (SyncIn folder) b c → NotesAtMost (mark_times root) a c
  keeps_marked folder at path t made c = keeps_synced (mark_inner root) placed.area mark_of folder at path t made c

  pub keeps_status : {observed : Bool} {a b : DirAt} → observed ≡ true → CallsDirectory observed (MakeFileIn (status_inner root)) a b → NotesAtMost (status_times root) a b
  keeps_status t c = keeps_file (status_inner root) placed.area (status_form_either (status_inner root) placed.area status_of []) t c

  pub keeps_part : {observed : Bool} {a b c : DirAt} (piece : List ℕ) → observed ≡ true → DirCall observed a (MakeFileIn (status_inner root)) Done b → CallsDirectory observed (AppendIn (status_inner root) piece) b c → NotesAtMost (status_times root) a c
  keeps_part piece t made c = keeps_appended (status_inner root) placed.area status_of piece t made c

  pub keeps_whole : {observed : Bool} {a b c d : DirAt} (piece : List ℕ) → observed ≡ true → DirCall observed a (MakeFileIn (status_inner root)) Done b → CallsDirectory observed (AppendIn (status_inner root) piece) b c → CallsDirectory observed (SyncIn (status_inner root)) c d → NotesAtMost (status_times root) a d
  keeps_whole piece t made c e = keeps_written (status_inner root) placed.area status_of piece t made c e
