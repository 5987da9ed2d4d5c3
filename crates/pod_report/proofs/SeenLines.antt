-- Lines that were seen, one after the other.
use Rattle.std.proofs.Common.{◌≡◌, inl, inr, ◌<◌, ◌+◌, ℕ, Bool, true, bytes_eq, Option, Some, None, List, [], ◌∷◌, ◌++◌, take, length, get_or, refl, sym, ap, subst, ◌∙◌, append_assoc, append-nil}
use Rattle.std.specs.List.{AllByRecursion}
use Rattle.std.proofs.lemmas.List.{map-append, take_more}
use Rattle.plain_laws.proofs.Texts.{same_bytes}
use Rattle.manifests.specs.declared.pod_manifest.PodManifest.{PodManifest}
use Rattle.dir_model.specs.declared.area.Area.{Area}
use Rattle.dir_model.specs.declared.area.Area.TheVariants as area
use Rattle.dir_model.specs.declared.area.Phase.{Phase}
use Rattle.dir_model.specs.declared.event.Event.{Event}
use Rattle.dir_model.specs.declared.pod.PodId.{PodId}
use Rattle.dir_model.specs.declared.request.Request.{Request}
use Rattle.dir_model.specs.Listings.{has_name}
use Rattle.dir_model.specs.Pods.{pod_text}
use Rattle.dir_model.proofs.Lists.{all_weaker, all_push, any_push, any_last}
use Rattle.dir_model.proofs.Moments.{at_within}
use Rattle.dir_trait.specs.DirCalls.{DirAt}
use Rattle.phase_read.specs.Read.{stages}
use Rattle.phase_read.proofs.InTurn.{left_out_before}
use Rattle.pod_lookup.specs.Pods.{pod_names}
use Rattle.pod_report.specs.declared.line.PodLine.{PodLine}
use Rattle.pod_report.specs.declared.visit.Visit.{Visit}
use Rattle.pod_report.specs.OwnReadings.{FindsPod, IsMissed}
use Rattle.pod_report.specs.SeenManifests.{SeesManifest, IsVisited}
use Rattle.pod_report.specs.SeenLines.{IsLineSeen, LineSees, AddsSeen, IsLinedOrMissed, LinesSeen}
use Rattle.pod_report.specs.Requests.{OnlyAsksFor}
use Rattle.pod_report.specs.Snapshot.{IsSublist, lined, names_told}
use Rattle.pod_report.proofs.OwnReadings.{visited_after, missed_after}
use Rattle.pod_report.proofs.Telling.{part_skip, part_keep}

-- a line by a visit
pub line_seen : (pod : PodId) (visit : Visit) (line : PodLine) (old new : DirAt) → line ≡ record { pod = pod; phase = visit.phase; apps = names_told visit.manifest } → IsVisited pod visit.phase visit.manifest old.process old.trace new.trace → LineSees pod (Some line) old new
line_seen pod visit line old new is v = subst (λ (l : PodLine). LineSees pod (Some l) old new) (sym is) (refl, record { manifest = visit.manifest; apps = refl; visited = v })

-- of no pod there are no lines
pub seen_none : (d : DirAt) → LinesSeen [] [] d.process d.trace d.trace
seen_none d = record { part = refl; each = tt; rest = tt }

has_more : (lines : List PodLine) (line : PodLine) (name : List ℕ) → has_name (lined lines) name ≡ true → has_name (lined (lines ++ line ∷ [])) name ≡ true
has_more lines line name h =
    ap (λ l. has_name l name) (map-append (λ (l : PodLine). pod_text l.pod.bytes) lines (line ∷ []))
    ∙ any_push (λ (n : List ℕ). bytes_eq n name) (lined lines) (pod_text line.pod.bytes) h

has_own : (lines : List PodLine) (line : PodLine) → has_name (lined (lines ++ line ∷ [])) (pod_text line.pod.bytes) ≡ true
has_own lines line =
    ap (λ l. has_name l (pod_text line.pod.bytes)) (map-append (λ (l : PodLine). pod_text l.pod.bytes) lines (line ∷ []))
    ∙ any_last (λ (n : List ℕ). bytes_eq n (pod_text line.pod.bytes)) (lined lines) (pod_text line.pod.bytes) (same_bytes (pod_text line.pod.bytes))

module _ {observed : Bool} {asks asks' : Request → Bool} (old mid new : DirAt) (t : observed ≡ true) (ab : OnlyAsksFor observed asks old mid) (bc : OnlyAsksFor observed asks' mid new) where
  abbrev me : ℕ
  me = old.process

  abbrev last : List Event
  last = (bc.extends t).more

  none_left : (h : List Event) → h ≡ h ++ []
  none_left h = sym (append-nil h)

  -- said of a longer time
  finds_before : (pod : PodId) (phase : Phase) (a : Area) (found : List Event) → FindsPod pod phase a me old.trace found mid.trace → FindsPod pod phase a me old.trace found new.trace
  finds_before pod phase a found f = record {
    moment = record { first = f.moment.first; last = f.moment.last ++ last; begins = f.moment.begins; ends = (bc.extends t).grown ∙ (ap (λ h. h ++ last) f.moment.ends ∙ append_assoc found f.moment.last last) };
    reading = f.reading;
  }

  sees_before : (pod : PodId) (a : Area) (manifest : Option PodManifest) (found : List Event) → SeesManifest pod a manifest me found mid.trace → SeesManifest pod a manifest me found new.trace
  sees_before pod a (Some m) found at = at_within [] last (none_left found) (bc.extends t).grown at
  sees_before pod a None found (inl at) = inl (at_within [] last (none_left found) (bc.extends t).grown at)
  sees_before pod a None found (inr w) = inr (record { between = w.between; missing = w.missing; there = at_within [] last (none_left w.between) (bc.extends t).grown w.there })

  line_before : (line : PodLine) → IsLineSeen me old.trace mid.trace line → IsLineSeen me old.trace new.trace line
  line_before line l =
      let v = l.visited in
      record {
        manifest = l.manifest;
        apps = l.apps;
        visited = record { area = v.area; found = v.found; finds = finds_before line.pod line.phase v.area v.found v.finds; sees = sees_before line.pod v.area l.manifest v.found v.sees };
      }

  missed_before : (pod : PodId) → IsMissed pod me old.trace mid.trace → IsMissed pod me old.trace new.trace
  missed_before pod (inl r) = inl (left_out_before pod me mid.process old.trace mid.trace new.trace stages r ab.same (bc.extends t))
  missed_before pod (inr x) = inr (record { phase = x.phase; found = x.found; finds = finds_before pod x.phase area.Garbage x.found x.finds; off = at_within [] last (none_left x.found) (bc.extends t).grown x.off })

  line_after : (line : PodLine) → IsLineSeen mid.process mid.trace new.trace line → IsLineSeen me old.trace new.trace line
  line_after line l = record { manifest = l.manifest; apps = l.apps; visited = visited_after line.pod old mid new t ab line.phase l.manifest l.visited }

  -- one pod more
  module _ (pods : List PodId) (pod : PodId) (lines after : List PodLine) (so_far : LinesSeen pods lines me old.trace mid.trace) where
    pods_push : pod_names (pods ++ pod ∷ []) ≡ pod_names pods ++ pod_text pod.bytes ∷ []
    pods_push = map-append (λ (p : PodId). pod_text p.bytes) pods (pod ∷ [])

    earlier : AllByRecursion (IsLineSeen me old.trace new.trace) lines
    earlier = all_weaker (IsLineSeen me old.trace mid.trace) (IsLineSeen me old.trace new.trace) line_before lines so_far.each

    still : (p : PodId) → IsLinedOrMissed me old.trace mid.trace lines p → IsLinedOrMissed me old.trace new.trace lines p
    still p (inl h) = inl h
    still p (inr m) = inr (missed_before p m)

    also : (line : PodLine) (p : PodId) → IsLinedOrMissed me old.trace mid.trace lines p → IsLinedOrMissed me old.trace new.trace (lines ++ line ∷ []) p
    also line p (inl h) = inl (has_more lines line (pod_text p.bytes) h)
    also line p (inr m) = inr (missed_before p m)

    pub seen_more : AddsSeen pod lines after mid new → LinesSeen (pods ++ pod ∷ []) after me old.trace new.trace
    seen_more (inl (is, missed)) = subst (λ (l : List PodLine). LinesSeen (pods ++ pod ∷ []) l me old.trace new.trace) (sym is) (record {
      part = subst (λ (l : List (List ℕ)). IsSublist (lined lines) l) (sym pods_push) (part_skip (lined lines) (pod_names pods) (pod_text pod.bytes) so_far.part);
      each = earlier;
      rest = all_push (IsLinedOrMissed me old.trace new.trace lines) pods pod
          (all_weaker (IsLinedOrMissed me old.trace mid.trace lines) (IsLinedOrMissed me old.trace new.trace lines) still pods so_far.rest)
          (inr (missed_after pod old mid new t ab missed));
    })
    seen_more (inr (line, is, of, seen)) = subst (λ (l : List PodLine). LinesSeen (pods ++ pod ∷ []) l me old.trace new.trace) (sym is) (record {
      part = subst (λ (x : List (List ℕ)). IsSublist x (pod_names (pods ++ pod ∷ [])))
          (sym (map-append (λ (l : PodLine). pod_text l.pod.bytes) lines (line ∷ []) ∙ ap (λ (p : PodId). lined lines ++ pod_text p.bytes ∷ []) of))
          (subst (λ (x : List (List ℕ)). IsSublist (lined lines ++ pod_text pod.bytes ∷ []) x) (sym pods_push) (part_keep (lined lines) (pod_names pods) (pod_text pod.bytes) so_far.part));
      each = all_push (IsLineSeen me old.trace new.trace) lines line earlier (line_after line seen);
      rest = all_push (IsLinedOrMissed me old.trace new.trace (lines ++ line ∷ [])) pods pod
          (all_weaker (IsLinedOrMissed me old.trace mid.trace lines) (IsLinedOrMissed me old.trace new.trace (lines ++ line ∷ [])) (also line) pods so_far.rest)
          (inl (subst (λ (p : PodId). has_name (lined (lines ++ line ∷ [])) (pod_text p.bytes) ≡ true) of (has_own lines line)));
    })

  -- the same of the first so many pods
  pub seen_taken : (pods : List PodId) (i : ℕ) (d : PodId) (lines after : List PodLine) → LinesSeen (take i pods) lines me old.trace mid.trace → i < length pods → AddsSeen (get_or pods i d) lines after mid new → LinesSeen (take (i + 1) pods) after me old.trace new.trace
  seen_taken pods i d lines after so_far test adds = subst (λ (l : List PodId). LinesSeen l after me old.trace new.trace) (sym (take_more pods i d test)) (seen_more (take i pods) (get_or pods i d) lines after so_far adds)
