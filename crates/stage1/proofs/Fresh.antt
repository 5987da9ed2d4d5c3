-- A process that has made no note in the pod may make each of them once.
use Rattle.std.proofs.Common.{arith, ◌≡◌, ◌≤◌, ℕ, zero, suc, ◌+◌, ◌==◌, Bool, true, false, bytes_eq, List, [], ◌∷◌, map, drop, get_or, refl, sym, ap, ◌∙◌}
use Rattle.std.specs.List.{AllByRecursion, IsDistinct, list_any}
use Rattle.std.proofs.lemmas.Map.Keys.{IsDistinct-head, IsDistinct-tail}
use Rattle.std.proofs.lemmas.Slice.Eq.{bytes_eq-Decides}
use Rattle.dir_model.specs.declared.item.Inner.{Inner}
use Rattle.dir_model.specs.declared.pod.PodId.{PodId}
use Rattle.dir_model.specs.declared.request.Request.{Request}
use Rattle.dir_model.specs.declared.request.Request.TheVariants.{AppendIn}
use Rattle.dir_model.specs.Areas.{rank}
use Rattle.dir_model.specs.Pods.{pod_text}
use Rattle.dir_model.specs.State.{spot_eq}
use Rattle.dir_model.proofs.Lists.{and_left, and_right, or_none, or_left_false, or_right_false}
use Rattle.dir_rules.specs.declared.seen.Seen.{Seen}
use Rattle.dir_rules.specs.Seen.{inner_eq}
use Rattle.dir_rules.specs.Rules.{runs, deletes, has_note}
use Rattle.dir_trait.specs.DirCalls.{DirAt}
use Rattle.spawner.specs.declared.call.RootPlace.{RootPlace}
use Rattle.spawner.specs.Conditions.{start_mark}
use Rattle.stage1.specs.declared.start.AppStart.{AppStart}
use Rattle.stage1.specs.Starts.{IsPlacedIn, ReadsStarts}
use Rattle.stage1.proofs.Apart.{distinct_starts}
use Rattle.stage1.specs.Notes.{mark_inner, status_inner, status_path}
use Rattle.pod_files.specs.Looks.{reads_pod, OnlyReadsPod}
use Rattle.stage1.specs.Keeping.{AppendsOnce, once, note_count, MayNote, mark_times, status_times, app_times, all_times, NotesAtMost, RunsWithoutNotes, RunnerKeepsRules, appends_to}
use Rattle.stage1.proofs.Appends.{none_few}

-- a file of an app
is_once : (b : Bool) → 1 ≤ once b → b ≡ true
is_once true h = refl
is_once false h = absurd (omega (arith, h))

few : (b : Bool) → once b ≤ 1
few true = omega arith
few false = omega arith

same_path : (i n : Inner) → inner_eq i n ≡ true → i.path ≡ n.path
same_path i n h = (bytes_eq-Decides i.path n.path).0 (and_right (spot_eq i.spot n.spot) (bytes_eq i.path n.path) h)

same_name : (i n : Inner) → inner_eq i n ≡ true → i.spot.name ≡ n.spot.name
same_name i n h = (bytes_eq-Decides i.spot.name n.spot.name).0 (and_right (rank i.spot.area == rank n.spot.area) (bytes_eq i.spot.name n.spot.name) (and_left (spot_eq i.spot n.spot) (bytes_eq i.path n.path) h))

apart : (a b : List ℕ) → start_mark a ≡ status_path b → ⊥
apart a b h = let e : 114 ≡ 103 = ap (λ (l : List ℕ). get_or l 3 0) h in absurd (omega (arith, e))

mark_or_status : (root : RootPlace) (i : Inner) → mark_times root i + status_times root i ≤ 1
mark_or_status root i = by (inner_eq i (mark_inner root)) (inner_eq i (status_inner root)) (λ m s. apart root.app root.app (sym (same_path i (mark_inner root) m) ∙ same_path i (status_inner root) s))
  where
    by : (m s : Bool) → (m ≡ true → s ≡ true → ⊥) → once m + once s ≤ 1
    by true true f = absurd (f refl refl)
    by true false f = omega arith
    by false s f = omega (arith, few s)

one_of : {P : Type 0} (root : RootPlace) (i : Inner) → 1 ≤ mark_times root i + status_times root i → (inner_eq i (mark_inner root) ≡ true → P) → (inner_eq i (status_inner root) ≡ true → P) → P
one_of {P} root i h f g = by (inner_eq i (mark_inner root)) (inner_eq i (status_inner root)) h f g
  where
    by : (m s : Bool) → 1 ≤ once m + once s → (m ≡ true → P) → (s ≡ true → P) → P
    by true s h f g = f refl
    by false true h f g = g refl
    by false false h f g = absurd (omega (arith, h))

same_app : (a b : RootPlace) (i : Inner) → 1 ≤ mark_times a i + status_times a i → 1 ≤ mark_times b i + status_times b i → a.app ≡ b.app
same_app a b i ha hb =
    one_of {P = a.app ≡ b.app} a i ha
    (λ ma. one_of {P = a.app ≡ b.app} b i hb
    (λ mb. ap (λ (l : List ℕ). drop 8 l) (sym (same_path i (mark_inner a) ma) ∙ same_path i (mark_inner b) mb))
    (λ sb. absurd (apart a.app b.app (sym (same_path i (mark_inner a) ma) ∙ same_path i (status_inner b) sb))))
    (λ sa. one_of {P = a.app ≡ b.app} b i hb
    (λ mb. absurd (apart b.app a.app (sym (same_path i (mark_inner b) mb) ∙ same_path i (status_inner a) sa)))
    (λ sb. ap (λ (l : List ℕ). drop 25 l) (sym (same_path i (status_inner a) sa) ∙ same_path i (status_inner b) sb)))

of_app : (root : RootPlace) (i : Inner) → 1 ≤ mark_times root i + status_times root i → i.spot.name ≡ root.spot.name
of_app root i h = one_of {P = i.spot.name ≡ root.spot.name} root i h (λ m. same_name i (mark_inner root) m) (λ s. same_name i (status_inner root) s)

-- files of several
or_none_at : (n : ℕ) → n ≤ 1 → (1 ≤ n → ⊥) → n ≡ 0
or_none_at n small none = by n small none
  where
    by : (k : ℕ) → k ≤ 1 → (1 ≤ k → ⊥) → k ≡ 0
    by zero h f = refl
    by (suc k) h f = absurd (f (omega arith))

module _ (pod : PodId) where
  name_of : (app : AppStart) → IsPlacedIn pod app → app.root.app ≡ app.name
  name_of app p = ap (λ (r : RootPlace). r.app) p.place

  no_others : (app : AppStart) (apps : List AppStart) (i : Inner) → IsPlacedIn pod app → AllByRecursion (IsPlacedIn pod) apps → AllByRecursion (λ (n : List ℕ). bytes_eq app.name n ≡ false) (map (λ a. a.name) apps) → 1 ≤ app_times app i → all_times apps i ≡ 0
  no_others app [] i p ps apart h = refl
  no_others app (other ∷ apps) i p ps apart h =
      let none : app_times other i ≡ 0 = or_none_at (app_times other i) (mark_or_status other.root i) (λ more.
      let is : app.name ≡ other.name = sym (name_of app p) ∙ (same_app app.root other.root i h more ∙ name_of other ps.0) in
      let e : false ≡ true = sym apart.0 ∙ (bytes_eq-Decides app.name other.name).1 is in
      cc) in
      omega (arith, none, no_others app apps i p ps.1 apart.1 h)

  all_once : (apps : List AppStart) (i : Inner) → AllByRecursion (IsPlacedIn pod) apps → IsDistinct bytes_eq (map (λ a. a.name) apps) → all_times apps i ≤ 1
  all_once [] i ps d = omega arith
  all_once (app ∷ apps) i ps d = by (app_times app i) refl (all_once apps i ps.1 (IsDistinct-tail bytes_eq app.name (map (λ a. a.name) apps) d))
    where
      by : (k : ℕ) → app_times app i ≡ k → all_times apps i ≤ 1 → all_times (app ∷ apps) i ≤ 1
      by zero is rest = omega (arith, is, rest)
      by (suc k) is rest = omega (arith, mark_or_status app.root i, no_others app apps i ps.0 ps.1 (IsDistinct-head bytes_eq app.name (map (λ a. a.name) apps) d) (omega (arith, is)))

  all_here : (apps : List AppStart) (i : Inner) → AllByRecursion (IsPlacedIn pod) apps → 1 ≤ all_times apps i → i.spot.name ≡ pod_text pod.bytes
  all_here [] i ps h = absurd (omega (arith, h))
  all_here (app ∷ apps) i ps h = by (app_times app i) refl (λ more. all_here apps i ps.1 more)
    where
      by : (k : ℕ) → app_times app i ≡ k → (1 ≤ all_times apps i → i.spot.name ≡ pod_text pod.bytes) → i.spot.name ≡ pod_text pod.bytes
      by zero is rest = rest (omega (arith, h, is))
      by (suc k) is rest = of_app app.root i (omega (arith, is)) ∙ ap (λ (r : RootPlace). r.spot.name) ps.0.place

-- nothing of it was noted
not_noted : (text : List ℕ) (i : Inner) → i.spot.name ≡ text → (notes : List Inner) → list_any (λ n. bytes_eq n.spot.name text) notes ≡ false → list_any (inner_eq i) notes ≡ false
not_noted text i named [] h = refl
not_noted text i named (n ∷ notes) h =
    or_none (inner_eq i n) (list_any (inner_eq i) notes)
    (by (inner_eq i n) (λ is. let e : true ≡ false = sym ((bytes_eq-Decides n.spot.name text).1 (sym (same_name i n is) ∙ named)) ∙ or_left_false (bytes_eq n.spot.name text) (list_any (λ x. bytes_eq x.spot.name text) notes) h in cc))
    (not_noted text i named notes (or_right_false (bytes_eq n.spot.name text) (list_any (λ x. bytes_eq x.spot.name text) notes) h))
  where
    by : (b : Bool) → (b ≡ true → ⊥) → b ≡ false
    by true f = absurd (f refl)
    by false f = refl

pub may_all : (pod : PodId) (apps : List AppStart) (s : Seen) → AllByRecursion (IsPlacedIn pod) apps → IsDistinct bytes_eq (map (λ a. a.name) apps) → RunsWithoutNotes pod s → MayNote (all_times apps) s
may_all pod apps s ps d fresh = record {
  once_all = λ i. by i (all_times apps i) refl;
  runs_it = λ i h. ap (λ (n : List ℕ). runs s n) (all_here pod apps i ps h) ∙ fresh.runs_it;
  spares_it = λ i h. ap (λ (n : List ℕ). deletes s n) (all_here pod apps i ps h) ∙ fresh.spares_it;
}
  where
    by : (i : Inner) (k : ℕ) → all_times apps i ≡ k → all_times apps i + note_count s i ≤ 1
    by i zero is = omega (arith, is, few (has_note s i))
    by i (suc k) is =
        let none : note_count s i ≡ 0 = ap once (not_noted (pod_text pod.bytes) i (all_here pod apps i ps (omega (arith, is))) s.notes fresh.none) in
        omega (arith, none, all_once pod apps i ps d)

-- the pod is only read, and then its apps are run
pub keeps_reads : {observed : Bool} {a b : DirAt} (pod : PodId) → observed ≡ true → OnlyReadsPod observed pod a b → RunnerKeepsRules pod a b
keeps_reads pod t o s k fresh = record { known = s; stands = refl; kept = refl; knows = o.known t s refl k }

pub keeps_run : {observed : Bool} {a b c : DirAt} (pod : PodId) (address : List ℕ) (starts : List AppStart) → observed ≡ true → AllByRecursion (IsPlacedIn pod) starts → OnlyReadsPod observed pod a b → ReadsStarts pod address starts a b → NotesAtMost (all_times starts) b c → RunnerKeepsRules pod a c
keeps_run pod address starts t placed o read bc s k fresh =
    let one = bc.keep s (o.known t s refl k) (may_all pod starts s placed (distinct_starts pod address starts read) fresh) in
    record { known = one.known; stands = one.noted.stands; kept = one.noted.kept; knows = one.knows }

-- to each file it appends at most once
reads_append_none : (pod : PodId) (i : Inner) (request : Request) → reads_pod pod request ≡ true → appends_to i request ≡ false
reads_append_none pod i (AppendIn file piece) asked = cc
reads_append_none pod i request asked = refl

pub once_run : {observed : Bool} {a b c : DirAt} (pod : PodId) (address : List ℕ) (starts : List AppStart) → observed ≡ true → AllByRecursion (IsPlacedIn pod) starts → OnlyReadsPod observed pod a b → ReadsStarts pod address starts a b → NotesAtMost (all_times starts) b c → AppendsOnce a c
once_run {observed} {a} {b} {c} pod address starts t placed o read bc i =
    omega (arith, none_few a b i (reads_append_none pod i) o.same (o.extends t), bc.few i, all_once pod starts i placed (distinct_starts pod address starts read))
