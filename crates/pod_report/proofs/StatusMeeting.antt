-- What one round of a status tells: the pod was found, its folder was inspected there, and it was still there at the end.
use Rattle.std.proofs.Common.{◌≡◌, inl, inr, ◌≤◌, ℕ, Bool, true, false, ◌||◌, cond, bytes_eq, Option, Some, None, is_some, IsSomeAnd, List, [], ◌∷◌, ◌++◌, append_assoc, append-nil, refl, sym, ap, subst, ◌∙◌}
use Rattle.std.specs.List.{list_any, AllByRecursion}
use Rattle.std.specs.List.Sorted.{IsStrictlySortedBy}
use Rattle.std.specs.Ordering.{nat_cmp}
use Rattle.std.specs.Cmp.Lexicographic.{slice_cmp}
use Rattle.plain_laws.proofs.Booleans.{clash}
use Rattle.plain_laws.proofs.Numbers.{one_of_two}
use Rattle.dir_model.specs.declared.area.Area.{Area}
use Rattle.dir_model.specs.declared.area.Phase.{Phase}
use Rattle.dir_model.specs.declared.event.Event.{Event}
use Rattle.dir_model.specs.declared.item.Item.{Item}
use Rattle.dir_model.specs.declared.item.ItemKind.TheVariants as kind
use Rattle.dir_model.specs.declared.pod.PodId.{PodId}
use Rattle.dir_model.specs.declared.spot.Spot.{Spot}
use Rattle.dir_model.specs.declared.request.Request.TheVariants.{ListIn}
use Rattle.dir_model.specs.declared.request.Reply.TheVariants.{Items}
use Rattle.dir_model.specs.Areas.{rank, is_stage}
use Rattle.dir_model.specs.Calls.{AtOwnStep, event}
use Rattle.dir_model.specs.Listings.{has_name, item_names, is_named, is_item, has_item}
use Rattle.dir_model.specs.Paths.{is_file_name}
use Rattle.dir_model.specs.Replies.{is_apps_inner}
use Rattle.dir_model.specs.State.{DirState, empty_state, stands, folder_at}
use Rattle.dir_model.specs.Trace.{states_next, state_after}
use Rattle.dir_model.specs.Trees.{has_dir, has_file, items_in, content}
use Rattle.dir_model.proofs.Chains.{states_next-append}
use Rattle.dir_model.proofs.Lists.{and_left, or_last, any_of_map, all_weaker}
use Rattle.dir_model.proofs.Moments.{some_number}
use Rattle.dir_rules.specs.Marks.{created_mark, created_moment, status_directory}
use Rattle.dir_laws.specs.Stretches.{StandsNamed, StandsInside}
use Rattle.dir_files.specs.Listed.{ShowsInside, ShowsDirectory}
use Rattle.dir_files.specs.Reads.{inner_at, bytes_in, file_at}
use Rattle.dir_files.proofs.Folders.{not_own}
use Rattle.gate_reading.proofs.Listed.{throughout, sometime}
use Rattle.lifecycle.specs.Executions.{IsConforming}
use Rattle.lifecycle.proofs.Stays.{stays_between}
use Rattle.dir_model.specs.Spots.{pod_spot}
use Rattle.phase_read.specs.Exact.{AtOwnEvent, IsInPhase}
use Rattle.phase_read.proofs.Exact.{event_within, stage_of}
use Rattle.pod_lookup.proofs.Shown.{conforms}
use Rattle.pod_report.specs.declared.ends.AppEndText.{AppEndText}
use Rattle.pod_report.specs.declared.status.PodStatus.{PodStatus}
use Rattle.pod_report.specs.Created.{HasCreatedMark}
use Rattle.pod_report.specs.Ends.{status_path, status_file, HasEndedIn, HasEndedAnywhere, ended_apps}
use Rattle.pod_report.specs.Inspections.{TellsMarks, TellsEnds, SeesStatus}
use Rattle.pod_report.specs.Moments.{IsMoment, AtSomeState, AtEachState}
use Rattle.pod_report.specs.Status.{IsPodStatus}
use Rattle.pod_report.proofs.Greatest.{mark_tells, first_item}
use Rattle.pod_report.proofs.OnePlace.{one_area}
use Rattle.pod_report.proofs.QuietLines.{file_stands}
use Rattle.pod_report.proofs.StatusFiles.{status_own, directly, file_shown, listed_name}
use Rattle.pod_report.proofs.StatusParents.{status_parent}
use Rattle.pod_report.proofs.Telling.{all_part, part_sorted}

-- the one trace goes on from the other
record Grows (a b : List Event) : Type 0 where
  more : List Event
  is : b ≡ a ++ more

by_more : {a b : List Event} (more : List Event) → b ≡ a ++ more → Grows a b
by_more m e = record { more = m; is = e }

and_on : {a b c : List Event} → Grows a b → Grows b c → Grows a c
and_on {a} {b} {c} x y = record { more = x.more ++ y.more; is = y.is ∙ (ap (λ h. h ++ y.more) x.is ∙ append_assoc a x.more y.more) }

moment : {a h b : List Event} → Grows a h → Grows h b → IsMoment a h b
moment x y = record { first = x.more; last = y.more; begins = x.is; ends = y.is }

first_of : {a h b : List Event} → IsMoment a h b → Grows a h
first_of m = record { more = m.first; is = m.begins }

last_of : {a h b : List Event} → IsMoment a h b → Grows h b
last_of m = record { more = m.last; is = m.ends }

-- the trace after a step, and what surrounds it
abbrev At : {me : ℕ} {a b : List Event} {P : DirState → Type 0} → AtOwnStep me a b P → List Event
At {me} {a} {b} {P} x = x.before ++ x.step ∷ []

to_step : {me : ℕ} {a b : List Event} {P : DirState → Type 0} (x : AtOwnStep me a b P) → Grows a (At x)
to_step {me} {a} {b} {P} x = by_more (x.later ++ x.step ∷ []) (ap (λ h. h ++ x.step ∷ []) x.begins ∙ append_assoc a x.later (x.step ∷ []))

from_step : {me : ℕ} {a b : List Event} {P : DirState → Type 0} (x : AtOwnStep me a b P) → Grows (At x) b
from_step x = by_more x.rest x.ends

pub item_named : (xs : List Item) (item : Item) → has_item xs item ≡ true → list_any (is_named item.name) xs ≡ true
item_named [] item h = cc
item_named (x ∷ xs) item h = by (is_item item x) refl h (λ rest. item_named xs item rest)
  where
    last : (b c : Bool) → c ≡ true → (b || c) ≡ true
    last true c h = refl
    last false c h = h

    by : (c : Bool) → is_item item x ≡ c → (c || has_item xs item) ≡ true → (has_item xs item ≡ true → list_any (is_named item.name) xs ≡ true) → (bytes_eq x.name item.name || list_any (is_named item.name) xs) ≡ true
    by true is h go = ap (λ c. c || list_any (is_named item.name) xs) (and_left (bytes_eq x.name item.name) _ is)
    by false is h go = last (bytes_eq x.name item.name) (list_any (is_named item.name) xs) (go h)

-- what is so of each item that is there is so of their names
each_item : (P : List ℕ → Type 0) (xs : List Item) → ((item : Item) → has_item xs item ≡ true → P item.name) → AllByRecursion P (item_names xs)
each_item P [] holds = tt
each_item P (x ∷ xs) holds = (holds x (first_item x xs), each_item P xs (λ item h. holds item (or_last (is_item item x) (has_item xs item) h)))

each_app : (P : List ℕ → Type 0) (ends : List AppEndText) → AllByRecursion P (ended_apps ends) → AllByRecursion (λ (e : AppEndText). P e.app) ends
each_app P [] all = tt
each_app P (e ∷ ends) all = (all.0, each_app P ends all.1)

-- where a folder has the file, one is there
pub file_in : (s : DirState) (k : ℕ) (spot : Spot) (path bytes : List ℕ) → folder_at s.namespace spot ≡ Some k → file_at s (inner_at spot path) ≡ Some bytes → has_file s.entries k path ≡ true
file_in s k spot path bytes at is = by (has_file s.entries k path) (sym (ap (bytes_in s.entries path) at) ∙ is)
  where
    by : (b : Bool) → cond b (Some (content s.entries k path)) None ≡ Some bytes → b ≡ true
    by true h = refl
    by false h = cc

module _ (pod : PodId) (area : Area) (within : rank area ≤ 5) (phase : Phase) {me : ℕ} {old mid new : List Event} (conforming : IsConforming new) (found : AtOwnEvent me old mid (IsInPhase pod phase area)) (status : PodStatus) (sees : SeesStatus pod area status me mid new) where
  abbrev spot : Spot
  spot = pod_spot pod area

  abbrev X : List Event
  X = found.before ++ found.step ∷ []

  abbrev Z : List Event
  Z = At sees.there

  stage : is_stage area ≡ true
  stage = stage_of area within

  old_X : Grows old X
  old_X = by_more (found.later ++ found.step ∷ []) (ap (λ h. h ++ found.step ∷ []) found.begins ∙ append_assoc old found.later (found.step ∷ []))

  X_mid : Grows X mid
  X_mid = by_more found.rest found.ends

  mid_marked : Grows mid sees.marked
  mid_marked = first_of sees.after_marks

  marked_ended : Grows sees.marked sees.ended
  marked_ended = first_of sees.after_ends

  ended_Z : Grows sees.ended Z
  ended_Z = to_step sees.there

  Z_new : Grows Z new
  Z_new = from_step sees.there

  k : (k : ℕ) × (folder_at (state_after X).namespace spot ≡ Some k)
  k = some_number (folder_at (state_after X).namespace spot) found.holds.there

  abbrev K : ℕ
  K = k.0

  -- between the two looks the folder stood there
  stayed : (h : List Event) → Grows X h → Grows h Z → folder_at (state_after h).namespace spot ≡ Some K
  stayed h x z =
      let zx : Z ≡ (X ++ x.more) ++ z.more = z.is ∙ ap (λ l. l ++ z.more) x.is in
      let whole : new ≡ ((X ++ x.more) ++ z.more) ++ sees.there.rest = sees.there.ends ∙ ap (λ l. l ++ sees.there.rest) zx in
      subst (λ (l : List Event). folder_at (state_after l).namespace spot ≡ Some K) (sym x.is)
      (stays_between new conforming spot K X x.more z.more sees.there.rest within whole k.1 (subst (λ (l : List Event). stands (state_after l).namespace spot ≡ true) zx sees.there.holds))

  there_at : (h : List Event) → Grows X h → Grows h Z → stands (state_after h).namespace spot ≡ true
  there_at h x z = ap (λ (o : Option ℕ). is_some o) (stayed h x z)

  good_at : (h : List Event) → Grows h Z → IsConforming h
  good_at h z = let m = and_on z Z_new in conforms h new m.more m.is conforming

  is_moment : (h : List Event) → Grows X h → Grows h Z → IsMoment old h new
  is_moment h x z = moment (and_on old_X x) (and_on z Z_new)

  -- and the pod stood nowhere else
  here : (h : List Event) → Grows X h → Grows h Z → (b : Area) → is_stage b ≡ true → stands (state_after h).namespace (pod_spot pod b) ≡ true → b ≡ area
  here h x z b is at = one_area pod h (good_at h z) area b stage is (there_at h x z) at

  -- a listing meanwhile is one of that folder
  module _ {a b : List Event} (from : Grows X a) (to : Grows b Z) (path : List ℕ) (items : List Item) (d : ShowsDirectory me a b (inner_at spot path) items) (own : (h : List Event) → is_apps_inner (state_after h) (Some (inner_at spot path)) ≡ false) where
    abbrev begun : List Event
    begun = d.stretch.begun

    abbrev others : List Event
    others = d.stretch.others

    abbrev last : Event
    last = event me (ListIn (inner_at spot path)) (Items items)

    i : ShowsInside me a b (inner_at spot path) items d.stretch
    i = d.shows (own (begun ++ others))

    X_begun : Grows X begun
    X_begun = and_on from (by_more d.stretch.earlier d.stretch.begins)

    X_at : (u : List Event) → Grows X (begun ++ u)
    X_at u = and_on X_begun (by_more u refl)

    at_Z : (u v : List Event) → others ≡ u ++ v → Grows (begun ++ u) Z
    at_Z u v split = and_on (by_more (v ++ last ∷ []) (d.stretch.ends ∙ (ap (λ l. (begun ++ l) ++ last ∷ []) split ∙ simp append_assoc))) to

    same_folder : i.folder ≡ K
    same_folder = one_of_two (folder_at (state_after begun).namespace spot) i.folder K i.here (stayed begun X_begun (and_on (by_more (others ++ last ∷ []) (d.stretch.ends ∙ append_assoc begun others (last ∷ []))) to))

    state_is : (u : List Event) → states_next (state_after begun) u ≡ state_after (begun ++ u)
    state_is u = sym (states_next-append empty_state begun u)

    -- what it showed stood in it
    shown_once : (item : Item) → has_item items item ≡ true → (h : List Event) × Grows X h × Grows h Z × (list_any (is_named item.name) (items_in K path (state_after h).entries) ≡ true)
    shown_once item h =
        let m = sometime (StandsInside i.folder path item) (state_after begun) others (i.only item h) in (
          begun ++ m.earlier,
          X_at m.earlier,
          at_Z m.earlier m.later m.split,
          item_named (items_in K path (state_after (begun ++ m.earlier)).entries) item
              (subst (λ (n : ℕ). has_item (items_in n path (state_after (begun ++ m.earlier)).entries) item ≡ true) same_folder
              (subst (λ (t : DirState). has_item (items_in i.folder path t.entries) item ≡ true) (state_is m.earlier) m.holds)),
        )

    -- and what stood in it all the time was shown
    shown_all : (name : List ℕ) → ((h : List Event) → Grows X h → Grows h Z → list_any (is_named name) (items_in K path (state_after h).entries) ≡ true) → list_any (is_named name) items ≡ true
    shown_all name each =
        let item : Item = record { name = name; kind = kind.File } in
        i.all item (throughout (StandsNamed i.folder path item) (state_after begun) others (λ u v split.
        subst (λ (t : DirState). list_any (is_named name) (items_in i.folder path t.entries) ≡ true) (sym (state_is u))
        (subst (λ (n : ℕ). list_any (is_named name) (items_in n path (state_after (begun ++ u)).entries) ≡ true) (sym same_folder) (each (begun ++ u) (X_at u) (at_Z u v split)))))

  -- the marks
  root_own : (h : List Event) → is_apps_inner (state_after h) (Some (inner_at spot [])) ≡ false
  root_own h = not_own spot h

  never_gone : {P : Type 0} {a b : List Event} → Grows X a → Grows b Z → AtOwnStep me a b (λ s. folder_at s.namespace spot ≡ None) → P
  never_gone from to y = let e : None ≡ Some K = sym y.holds ∙ stayed (At y) (and_on from (to_step y)) (and_on (from_step y) to) in cc

  marked_Z : Grows sees.marked Z
  marked_Z = and_on marked_ended ended_Z

  mark_here : (h : List Event) (moment : ℕ) → Grows X h → Grows h Z → HasCreatedMark pod moment (state_after h) → list_any (is_named (created_mark moment)) (items_in K [] (state_after h).entries) ≡ true
  mark_here h m x z has =
      let w = has.2 in
      let place : w.area ≡ area = here h x z w.area w.stage (ap (λ (o : Option ℕ). is_some o) w.there) in
      let folder : w.folder ≡ K = one_of_two (folder_at (state_after h).namespace spot) w.folder K (subst (λ (b : Area). folder_at (state_after h).namespace (pod_spot pod b) ≡ Some w.folder) place w.there) (stayed h x z) in
      subst (λ (n : List ℕ). list_any (is_named n) (items_in K [] (state_after h).entries) ≡ true) (mark_tells has.0 m has.1).is
      (subst (λ (n : ℕ). list_any (is_named has.0) (items_in n [] (state_after h).entries) ≡ true) folder w.named)

  created_met : TellsMarks pod area status.created me mid sees.marked → (m : ℕ) → status.created ≡ Some m → AtSomeState old new (HasCreatedMark pod m)
  created_met (inl t) m is =
      let g = t.greatest.shown m is in
      let x = shown_once X_mid marked_Z [] t.items t.shows root_own g.0 g.1 in
      record { trace = x.0; moment = is_moment x.0 x.1 x.2; holds = (g.0.name, g.2, record { area = area; stage = stage; folder = K; there = stayed x.0 x.1 x.2; named = x.3 }) }
  created_met (inr y) m is = never_gone X_mid marked_Z y

  latest_met : TellsMarks pod area status.created me mid sees.marked → (m : ℕ) → AtEachState old new (HasCreatedMark pod m) → IsSomeAnd status.created (λ c. m ≤ c)
  latest_met (inl t) m each =
      let first = each X (is_moment X (by_more [] (sym (append-nil X))) (and_on X_mid (and_on mid_marked marked_Z))) in
      t.greatest.most (created_mark m) m (shown_all X_mid marked_Z [] t.items t.shows root_own (created_mark m) (λ h x z. mark_here h m x z (each h (is_moment h x z))))
      (ap created_moment (sym (mark_tells first.0 m first.1).is) ∙ first.1)
  latest_met (inr y) m each = never_gone X_mid marked_Z y

  -- the ends
  X_marked : Grows X sees.marked
  X_marked = and_on X_mid mid_marked

  status_mine : (h : List Event) → is_apps_inner (state_after h) (Some (inner_at spot status_directory)) ≡ false
  status_mine h = status_own h (inner_at spot status_directory) [] refl

  ended_here : (h : List Event) (app : List ℕ) (n : ℕ) → Grows X h → Grows h Z → HasEndedAnywhere pod app n (state_after h) → HasEndedIn pod area app n (state_after h)
  ended_here h app n x z (b, is, has) =
      subst (λ (c : Area). HasEndedIn pod c app n (state_after h)) (here h x z b is (file_stands (state_after h) (status_file pod b app) has.bytes has.file)) has

  file_here : (h : List Event) (app : List ℕ) (n : ℕ) → Grows X h → Grows h Z → HasEndedAnywhere pod app n (state_after h) → has_file (state_after h).entries K (status_path app) ≡ true
  file_here h app n x z has = let e = ended_here h app n x z has in file_in (state_after h) K spot (status_path app) e.bytes (stayed h x z) e.file

  -- an end that was told stood at a moment
  once : {a b : List Event} → Grows X a → Grows b Z → (e : AppEndText) → AtOwnStep me a b (HasEndedIn pod area e.app e.status) → AtSomeState old new (HasEndedAnywhere pod e.app e.status)
  once from to e y = record { trace = At y; moment = is_moment (At y) (and_on from (to_step y)) (and_on (from_step y) to); holds = (area, stage, y.holds) }

  ends_met : TellsEnds pod area status.ends me sees.marked sees.ended → AllByRecursion (λ (e : AppEndText). AtSomeState old new (HasEndedAnywhere pod e.app e.status)) status.ends
  ends_met (inl t) = all_weaker (λ (e : AppEndText). AtOwnStep me t.between sees.ended (HasEndedIn pod area e.app e.status)) (λ (e : AppEndText). AtSomeState old new (HasEndedAnywhere pod e.app e.status)) (once (and_on X_marked (first_of t.moment)) ended_Z) status.ends t.each.each
  ends_met (inr (none, y)) = subst (λ (l : List AppEndText). AllByRecursion (λ (e : AppEndText). AtSomeState old new (HasEndedAnywhere pod e.app e.status)) l) (sym none) tt

  rise_met : TellsEnds pod area status.ends me sees.marked sees.ended → IsStrictlySortedBy (slice_cmp nat_cmp) (ended_apps status.ends)
  unfolding IsStrictlySortedBy
  rise_met (inl t) = part_sorted (ended_apps status.ends) (item_names t.items) t.each.part t.rise
  rise_met (inr (none, y)) = subst (λ (l : List AppEndText). IsStrictlySortedBy (slice_cmp nat_cmp) (ended_apps l)) (sym none) (part_sorted [] [] refl tt)

  named_met : TellsEnds pod area status.ends me sees.marked sees.ended → AllByRecursion (λ (e : AppEndText). is_file_name e.app ≡ true) status.ends
  named_met (inl t) =
      each_app (λ (n : List ℕ). is_file_name n ≡ true) status.ends
      (all_part (λ (n : List ℕ). is_file_name n ≡ true) (ended_apps status.ends) (item_names t.items) t.each.part
      (each_item (λ (n : List ℕ). is_file_name n ≡ true) t.items (λ item h.
      let x = shown_once X_marked (and_on (last_of t.moment) ended_Z) status_directory t.items t.shows status_mine item h in
      listed_name K status_directory (state_after x.0).entries item.name x.3)))
  named_met (inr (none, y)) = subst (λ (l : List AppEndText). AllByRecursion (λ (e : AppEndText). is_file_name e.app ≡ true) l) (sym none) tt

  whole_met : TellsEnds pod area status.ends me sees.marked sees.ended → (app : List ℕ) (n : ℕ) → is_file_name app ≡ true → AtEachState old new (HasEndedAnywhere pod app n) → has_name (ended_apps status.ends) app ≡ true
  whole_met (inl t) app n name each = by (has_name (ended_apps status.ends) app) refl
    where
      shown : has_name (item_names t.items) app ≡ true
      shown =
          any_of_map (λ (x : Item). x.name) (λ (m : List ℕ). bytes_eq m app) t.items
          ∙ shown_all X_marked (and_on (last_of t.moment) ended_Z) status_directory t.items t.shows status_mine app (λ h x z. file_shown K app (state_after h).entries name (file_here h app n x z (each h (is_moment h x z))))

      by : (b : Bool) → has_name (ended_apps status.ends) app ≡ b → b ≡ true
      by true is = refl
      by false off =
          let y = t.each.left app shown off in
          let x = and_on X_marked (and_on (first_of t.moment) (to_step y)) in
          let z = and_on (from_step y) ended_Z in
          absurd (y.holds n (ended_here (At y) app n x z (each (At y) (is_moment (At y) x z))))
  whole_met (inr (none, y)) app n name each =
      let h = At y in
      let x = and_on X_marked (to_step y) in
      let z = and_on (from_step y) ended_Z in
      let file = file_here h app n x z (each h (is_moment h x z)) in
      clash (has_dir (state_after h).entries K status_directory) (status_parent h K (status_path app) (good_at h z).run (directly app name) file) (y.holds K (stayed h x z))

  pub status_met : status.phase ≡ phase → IsPodStatus pod status me old new
  status_met is = record {
    area = area;
    stage = stage;
    phase = let m = and_on mid_marked (and_on marked_Z Z_new) in event_within [] m.more (sym (append-nil old)) m.is (subst (λ (p : Phase). AtOwnEvent me old mid (IsInPhase pod p area)) (sym is) found);
    created = created_met sees.marks;
    latest = latest_met sees.marks;
    ends = ends_met sees.ends;
    rise = rise_met sees.ends;
    named = named_met sees.ends;
    whole = whole_met sees.ends;
  }
