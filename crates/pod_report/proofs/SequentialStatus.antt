-- A status that is so of a state is the one that the state gives.
use Rattle.std.proofs.Common.{◌≡◌, ℕ, true, false, ◌&&◌, ◌≤◌, bytes_eq, is_some, Option, Some, None, IsSomeAnd, List, [], Result, Ok, Err, refl, sym, ap, subst, ◌∙◌}
use Rattle.std.specs.List.{AllByRecursion, list_any}
use Rattle.plain_laws.proofs.Texts.{same_text}
use Rattle.plain_laws.proofs.Numbers.{one_of_two}
use Rattle.plain_laws.proofs.Booleans.{same_test}
use Rattle.dir_model.specs.declared.area.Area.{Area}
use Rattle.dir_model.specs.declared.event.Event.{Event}
use Rattle.dir_model.specs.declared.item.Item.{Item}
use Rattle.dir_model.specs.declared.pod.PodId.{PodId}
use Rattle.dir_model.specs.Areas.{is_stage}
use Rattle.dir_model.specs.Listings.{has_name, is_named}
use Rattle.dir_model.specs.Paths.{is_file_name}
use Rattle.dir_model.specs.State.{DirState, stands, folder_at}
use Rattle.dir_model.specs.Trace.{state_after}
use Rattle.dir_model.specs.Trees.{items_in}
use Rattle.dir_model.proofs.Lists.{and_left, and_right, and_both, any_of_map, all_weaker}
use Rattle.dir_model.proofs.Moments.{some_number}
use Rattle.dir_rules.specs.Seen.{created_among}
use Rattle.lifecycle.specs.Executions.{IsConforming}
use Rattle.phase_read.specs.declared.found.Found.{Found}
use Rattle.dir_model.specs.Spots.{pod_spot}
use Rattle.pod_report.specs.declared.ends.AppEndText.{AppEndText}
use Rattle.pod_report.specs.declared.error.ReportError.{ReportError}
use Rattle.pod_report.specs.declared.error.ReportError.TheVariants.{NoPod}
use Rattle.pod_report.specs.declared.status.PodStatus.{PodStatus}
use Rattle.pod_report.specs.Created.{HasCreatedMark}
use Rattle.pod_report.specs.Ends.{status_file, HasEndedIn, HasEndedAnywhere, ended_apps}
use Rattle.pod_report.specs.Sequential.{items_of, created_in, end_in, ends_in, status_found, sequential_status}
use Rattle.pod_report.proofs.Alone.{any_with}
use Rattle.pod_report.proofs.Greatest.{among_greatest, one_greatest}
use Rattle.pod_report.proofs.OnePlace.{one_area}
use Rattle.pod_report.proofs.QuietLines.{file_stands}
use Rattle.pod_report.proofs.QuietStatus.{IsStatusOf}
use Rattle.pod_report.proofs.SequentialEnds.{ends_are, end_is, end_told, names, name_shown, name_plain}
use Rattle.pod_report.proofs.SequentialReads.{gone_is, there_is}
use Rattle.pod_report.proofs.StatusMeeting.{item_named}

some_end : (o : Option AppEndText) → is_some o ≡ true → (e : AppEndText) × (o ≡ Some e)
some_end (Some e) h = (e, refl)
some_end None h = cc

-- an end of this name is among them
end_of : (P : AppEndText → Type 0) (ends : List AppEndText) (name : List ℕ) → AllByRecursion P ends → has_name (ended_apps ends) name ≡ true → (e : AppEndText) × P e × (e.app ≡ name)
end_of P ends name all h =
    let x = any_with P (λ (e : AppEndText). bytes_eq e.app name) ends all (sym (any_of_map (λ (e : AppEndText). e.app) (λ (n : List ℕ). bytes_eq n name) ends) ∙ h) in
    (x.0, x.1, same_text x.0.app name x.2)

status_parts : (status : PodStatus) (created : Option ℕ) (ends : List AppEndText) → status.created ≡ created → status.ends ≡ ends → status ≡ record { phase = status.phase; created = created; ends = ends }
status_parts status created ends c e =
    ap (λ (o : Option ℕ). record { phase = status.phase; created = o; ends = status.ends }) c
    ∙ ap (λ (l : List AppEndText). record { phase = status.phase; created = created; ends = l }) e

module _ (h : List Event) (conforming : IsConforming h) (pod : PodId) (status : PodStatus) (x : IsStatusOf (state_after h) pod status) where
  abbrev s : DirState
  s = state_after h

  abbrev area : Area
  area = x.area

  k : (k : ℕ) × (folder_at s.namespace (pod_spot pod area) ≡ Some k)
  k = some_number (folder_at s.namespace (pod_spot pod area)) x.there

  abbrev K : ℕ
  K = k.0

  only_here : (b : Area) → is_stage b ≡ true → stands s.namespace (pod_spot pod b) ≡ true → b ≡ area
  only_here b stage there = one_area pod h conforming area b x.stage stage x.there there

  -- the ends
  ended_here : (app : List ℕ) (n : ℕ) → HasEndedAnywhere pod app n s → HasEndedIn pod area app n s
  ended_here app n (b, stage, has) = subst (λ (c : Area). HasEndedIn pod c app n s) (only_here b stage (file_stands s (status_file pod b app) has.bytes has.file)) has

  own : (name : List ℕ) (e : AppEndText) → end_in s pod area name ≡ Some e → e.app ≡ name
  own name e is = (end_told s pod area name e is).same

  each_told : AllByRecursion (λ (e : AppEndText). end_in s pod area e.app ≡ Some e) status.ends
  each_told = all_weaker (λ (e : AppEndText). HasEndedAnywhere pod e.app e.status s) (λ (e : AppEndText). end_in s pod area e.app ≡ Some e) (λ e has. end_is s pod area e.app e.status (ended_here e.app e.status has)) status.ends x.ends

  listed : (name : List ℕ) → has_name (ended_apps status.ends) name ≡ true → (has_name (names s pod area) name && is_some (end_in s pod area name)) ≡ true
  listed name there =
      let e = end_of (λ (e : AppEndText). HasEndedAnywhere pod e.app e.status s) status.ends name x.ends there in
      let n = end_of (λ (e : AppEndText). is_file_name e.app ≡ true) status.ends name x.named there in
      let plain : is_file_name name ≡ true = subst (λ (m : List ℕ). is_file_name m ≡ true) n.2 n.1 in
      let has = ended_here name e.0.status (subst (λ (m : List ℕ). HasEndedAnywhere pod m e.0.status s) e.2 e.1) in
      and_both (has_name (names s pod area) name) (is_some (end_in s pod area name)) (name_shown s pod area K k.1 name e.0.status plain has) (ap (λ (o : Option AppEndText). is_some o) (end_is s pod area name e.0.status has))

  ended : (name : List ℕ) → (has_name (names s pod area) name && is_some (end_in s pod area name)) ≡ true → has_name (ended_apps status.ends) name ≡ true
  ended name there =
      let plain = name_plain s pod area K k.1 name (and_left (has_name (names s pod area) name) (is_some (end_in s pod area name)) there) in
      let e = some_end (end_in s pod area name) (and_right (has_name (names s pod area) name) (is_some (end_in s pod area name)) there) in
      x.whole name e.0.status plain (area, x.stage, (end_told s pod area name e.0 e.1).ended)

  same_ends : status.ends ≡ ends_in s pod area
  same_ends = ends_are (end_in s pod area) own status.ends (names s pod area) x.rise each_told (λ name. same_test _ _ (listed name) (ended name))

  -- the marks
  abbrev marks : List Item
  marks = items_in K [] s.entries

  mark_is : (m : ℕ) → created_among marks ≡ Some m → HasCreatedMark pod m s
  mark_is m is =
      let g = (among_greatest marks).shown m is in
      (g.0.name, g.2, record { area = area; stage = x.stage; folder = K; there = k.1; named = item_named marks g.0 g.1 })

  none_later : (m : ℕ) → HasCreatedMark pod m s → IsSomeAnd (created_among marks) (λ c. m ≤ c)
  none_later m (name, is, w) =
      let place : w.area ≡ area = only_here w.area w.stage (ap (λ (o : Option ℕ). is_some o) w.there) in
      let folder : w.folder ≡ K = one_of_two (folder_at s.namespace (pod_spot pod area)) w.folder K (subst (λ (b : Area). folder_at s.namespace (pod_spot pod b) ≡ Some w.folder) place w.there) k.1 in
      (among_greatest marks).most name m (subst (λ (n : ℕ). list_any (is_named name) (items_in n [] s.entries) ≡ true) folder w.named) is

  same_created : status.created ≡ created_in s pod area
  same_created =
      one_greatest (λ m. HasCreatedMark pod m s) status.created (created_among marks) x.created x.latest mark_is none_later
      ∙ sym (ap (λ (o : Option ℕ). created_among (items_of s.entries [] o)) k.1)

  pub status_is : ◌≡◌ {A = Result PodStatus ReportError} (Ok status) (sequential_status s pod)
  status_is =
      ap Ok (status_parts status (created_in s pod area) (ends_in s pod area) same_created same_ends)
      ∙ sym (ap (λ (f : Found). status_found s pod f) (there_is s pod area status.phase only_here x.stage x.there x.phase))

-- and a pod that stands nowhere has none
pub nowhere_is : (s : DirState) (pod : PodId) → ((a : Area) → is_stage a ≡ true → stands s.namespace (pod_spot pod a) ≡ false) → ◌≡◌ {A = Result PodStatus ReportError} (Err NoPod) (sequential_status s pod)
nowhere_is s pod off = sym (ap (λ (f : Found). status_found s pod f) (gone_is s pod off))
