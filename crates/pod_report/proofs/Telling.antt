-- The lines of several pods, one after the other, and what they tell of all.
use Rattle.std.proofs.Common.{◌≡◌, ◌⊎◌, inl, inr, ◌<◌, ◌+◌, take, length, get_or, ℕ, Bool, true, false, ◌||◌, bytes_eq, Option, Some, None, List, [], ◌∷◌, ◌++◌, map, refl, sym, ap, subst, ◌∙◌, append_assoc, append-nil}
use Rattle.std.specs.List.{AllByRecursion}
use Rattle.std.specs.List.Sorted.{IsStrictlySortedBy}
use Rattle.std.specs.Ordering.{nat_cmp}
use Rattle.std.specs.Cmp.Lexicographic.{slice_cmp}
use Rattle.std.specs.declared.cmp.Ordering.TheVariants.{Less}
use Rattle.std.proofs.lemmas.List.{map-append, take_more}
use Rattle.std.proofs.lemmas.Slice.Eq.{bytes_eq-Decides}
use Rattle.plain_laws.proofs.Booleans.{clash}
use Rattle.dir_model.specs.declared.event.Event.{Event}
use Rattle.dir_model.specs.declared.pod.PodId.{PodId}
use Rattle.dir_model.specs.Pods.{pod_text}
use Rattle.dir_model.specs.Listings.{has_name}
use Rattle.dir_model.proofs.Lists.{all_both}
use Rattle.dir_model.proofs.Moments.{at_within, at_weaker}
use Rattle.dir_trait.specs.DirCalls.{DirAt}
use Rattle.manifests.specs.declared.pod_manifest.PodManifest.{PodManifest}
use Rattle.manifests.specs.declared.runtime_app.RuntimeApp.{RuntimeApp}
use Rattle.manifests.specs.PodData.{RuntimeAppData, runtime_app_data, pod_data}
use Rattle.lifecycle.specs.PodMachine.{pod_state}
use Rattle.lifecycle.specs.Readings.{WasPhase}
use Rattle.phase_read.specs.Exact.{AtOwnEvent, IsNowhere}
use Rattle.phase_read.proofs.Exact.{event_within}
use Rattle.pod_lookup.specs.Pods.{pod_names, is_pod_name, MissesGone}
use Rattle.pod_lookup.proofs.InOrder.{Rising, has_push}
use Rattle.pod_lookup.proofs.Existed.{has_phase}
use Rattle.pod_report.specs.declared.line.PodLine.{PodLine}
use Rattle.pod_report.specs.declared.visit.Visit.{Visit}
use Rattle.pod_report.specs.Manifests.{app_names}
use Rattle.pod_report.specs.Visits.{IsVisit, ToldManifest}
use Rattle.pod_report.specs.Snapshot.{ExistsThroughout, HasApps, AreAppsOf, IsPodLine, lined, IsWeakSnapshot, names_told, LineTells, IsSublist, AddsPodLine, TellsPods}

-- the names of a manifest's apps
pub names_are : (apps : List RuntimeApp) → map (λ (a : RuntimeApp). a.name) apps ≡ map (λ (a : RuntimeAppData). a.name) (map runtime_app_data apps)
names_are [] = refl
names_are (a ∷ apps) = ap (λ l. a.name ∷ l) (names_are apps)

-- a line by what a visit told
pub line_tells : (pod : PodId) (visit : Visit) (line : PodLine) (old new : DirAt) → line ≡ record { pod = pod; phase = visit.phase; apps = names_told visit.manifest } → IsVisit pod visit old.process old.trace new.trace → LineTells pod (Some line) old new
line_tells pod visit line old new is v = subst (λ (l : PodLine). LineTells pod (Some l) old new) (sym is) (refl, record { phase = v.phase; apps = apps visit.manifest v.manifest })
  where
    apps : (m : Option PodManifest) → ToldManifest pod m old.process old.trace new.trace → AreAppsOf pod (names_told m) old.process old.trace new.trace
    apps None lacks = inl lacks
    apps (Some m) has = at_weaker (HasApps pod (app_names (pod_data m))) (λ s h. (pod_data m, h, refl)) has

-- said of longer times too
module _ (me : ℕ) (a b c d : List Event) (more rest : List Event) (ab : b ≡ a ++ more) (cd : d ≡ c ++ rest) where
  pub phase_within : {name : List ℕ} → WasPhase me b c name None → WasPhase me a d name None
  phase_within {name} x = record {
    before = x.before;
    step = x.step;
    later = more ++ x.later;
    rest = x.rest ++ rest;
    begins = x.begins ∙ ap (λ h. h ++ x.later) ab ∙ append_assoc a more x.later;
    ends = cd ∙ ap (λ h. h ++ rest) x.ends ∙ append_assoc (x.before ++ x.step ∷ []) x.rest rest;
    own = x.own;
    is = x.is;
  }

  apps_within : (pod : PodId) (o : Option (List (List ℕ))) → AreAppsOf pod o me b c → AreAppsOf pod o me a d
  apps_within pod None (inl x) = inl (at_within more rest ab cd x)
  apps_within pod None (inr x) = inr (event_within more rest ab cd x)
  apps_within pod (Some names) x = at_within more rest ab cd x

  pub line_within : (line : PodLine) → IsPodLine me b c line → IsPodLine me a d line
  line_within line l = record { phase = event_within more rest ab cd l.phase; apps = apps_within line.pod line.apps l.apps }

  pub lines_within : (lines : List PodLine) → AllByRecursion (IsPodLine me b c) lines → AllByRecursion (IsPodLine me a d) lines
  lines_within [] all = tt
  lines_within (l ∷ lines) all = (line_within l all.0, lines_within lines all.1)

-- parts of lists
pub part_skip : (xs ys : List (List ℕ)) (y : List ℕ) → IsSublist xs ys → IsSublist xs (ys ++ y ∷ [])
part_skip xs [] y p = inl p
part_skip xs (z ∷ ys) y (inl p) = inl (part_skip xs ys y p)
part_skip xs (z ∷ ys) y (inr (rest, is, p)) = inr (rest, is, part_skip rest ys y p)

pub part_keep : (xs ys : List (List ℕ)) (y : List ℕ) → IsSublist xs ys → IsSublist (xs ++ y ∷ []) (ys ++ y ∷ [])
part_keep xs [] y p = inr ([], ap (λ l. l ++ y ∷ []) p, refl)
part_keep xs (z ∷ ys) y (inl p) = inl (part_keep xs ys y p)
part_keep xs (z ∷ ys) y (inr (rest, is, p)) = inr (rest ++ y ∷ [], ap (λ l. l ++ y ∷ []) is, part_keep rest ys y p)

pub all_part : (P : List ℕ → Type 0) (xs ys : List (List ℕ)) → IsSublist xs ys → AllByRecursion P ys → AllByRecursion P xs
all_part P xs [] p all = subst (AllByRecursion P) (sym p) tt
all_part P xs (y ∷ ys) (inl p) all = all_part P xs ys p all.1
all_part P xs (y ∷ ys) (inr (rest, is, p)) all = subst (AllByRecursion P) (sym is) (all.0, all_part P rest ys p all.1)

pub part_sorted : (xs ys : List (List ℕ)) → IsSublist xs ys → Rising ys → Rising xs
unfolding IsStrictlySortedBy
part_sorted xs [] p s = subst (λ (l : List (List ℕ)). Rising l) (sym p) tt
part_sorted xs (y ∷ ys) (inl p) s = part_sorted xs ys p s.1
part_sorted xs (y ∷ ys) (inr (rest, is, p)) s = subst (λ (l : List (List ℕ)). Rising l) (sym is) (all_part (λ z. slice_cmp nat_cmp y z ≡ Less) rest ys p s.0, part_sorted rest ys p s.1)

lined_push : (lines : List PodLine) (line : PodLine) → lined (lines ++ line ∷ []) ≡ lined lines ++ pod_text line.pod.bytes ∷ []
lined_push lines line = map-append (λ (l : PodLine). pod_text l.pod.bytes) lines (line ∷ [])

pods_push : (pods : List PodId) (pod : PodId) → pod_names (pods ++ pod ∷ []) ≡ pod_names pods ++ pod_text pod.bytes ∷ []
pods_push pods pod = map-append (λ (p : PodId). pod_text p.bytes) pods (pod ∷ [])

-- of no pod there are no lines
pub tells_none : (d : DirAt) → TellsPods [] [] d d
tells_none d = record { part = refl; each = tt; gone = λ name is off. cc }

-- one pod more
module _ (pods : List PodId) (pod : PodId) (lines after : List PodLine) (old mid new : DirAt) (same : mid.process ≡ old.process) (first last : List Event) (begins : mid.trace ≡ old.trace ++ first) (ends : new.trace ≡ mid.trace ++ last) (so_far : TellsPods pods lines old mid) where
  none_left : (xs : List Event) → xs ≡ xs ++ []
  none_left xs = sym (append-nil xs)

  gone_before : (name : List ℕ) → has_name (pod_names pods) name ≡ true → has_name (lined lines) name ≡ false → WasPhase old.process old.trace new.trace name None
  gone_before name there off = phase_within old.process old.trace old.trace mid.trace new.trace [] last (none_left old.trace) ends (so_far.gone name there off)

  either : (a b : Bool) → (a || b) ≡ true → (a ≡ true) ⊎ (b ≡ true)
  either true b h = inl refl
  either false b h = inr h

  front_off : (a b : Bool) → (a || b) ≡ false → (a ≡ false) × (b ≡ false)
  front_off false false h = (refl, refl)
  front_off true b h = cc
  front_off false true h = cc

  parts : (name : List ℕ) → has_name (pod_names (pods ++ pod ∷ [])) name ≡ true → (has_name (pod_names pods) name ≡ true) ⊎ (bytes_eq (pod_text pod.bytes) name ≡ true)
  parts name h = either (has_name (pod_names pods) name) (bytes_eq (pod_text pod.bytes) name) (sym (has_push (pod_names pods) (pod_text pod.bytes) name) ∙ (ap (λ l. has_name l name) (sym (pods_push pods pod)) ∙ h))

  pub tells_more : AddsPodLine pod lines after mid new → TellsPods (pods ++ pod ∷ []) after old new
  tells_more (inl (is, nowhere)) = record {
    part = subst (λ (l : List PodLine). IsSublist (lined l) (pod_names (pods ++ pod ∷ []))) (sym is) (subst (λ (l : List (List ℕ)). IsSublist (lined lines) l) (sym (pods_push pods pod)) (part_skip (lined lines) (pod_names pods) (pod_text pod.bytes) so_far.part));
    each = subst (λ (l : List PodLine). AllByRecursion (IsPodLine old.process old.trace new.trace) l) (sym is) (lines_within old.process old.trace old.trace mid.trace new.trace [] last (none_left old.trace) ends lines so_far.each);
    gone = λ name there off. by name (parts name there) (ap (λ l. has_name (lined l) name) (sym is) ∙ off);
  }
    where
      here : AtOwnEvent old.process old.trace new.trace (IsNowhere pod)
      here = event_within first [] begins (none_left new.trace) (subst (λ (me : ℕ). AtOwnEvent me mid.trace new.trace (IsNowhere pod)) same nowhere)

      by : (name : List ℕ) → (has_name (pod_names pods) name ≡ true) ⊎ (bytes_eq (pod_text pod.bytes) name ≡ true) → has_name (lined lines) name ≡ false → WasPhase old.process old.trace new.trace name None
      by name (inl h) off = gone_before name h off
      by name (inr h) off = subst (λ (n : List ℕ). WasPhase old.process old.trace new.trace n None) ((bytes_eq-Decides (pod_text pod.bytes) name).0 h)
          (record { before = here.before; step = here.step; later = here.later; rest = here.rest; begins = here.begins; ends = here.ends; own = here.own; is = here.holds })
  tells_more (inr (line, is, of, l)) = record {
    part = subst (λ (l : List PodLine). IsSublist (lined l) (pod_names (pods ++ pod ∷ []))) (sym is)
        (subst (λ (x : List (List ℕ)). IsSublist x (pod_names (pods ++ pod ∷ []))) (sym (lined_push lines line ∙ ap (λ (p : PodId). lined lines ++ pod_text p.bytes ∷ []) of))
        (subst (λ (x : List (List ℕ)). IsSublist (lined lines ++ pod_text pod.bytes ∷ []) x) (sym (pods_push pods pod)) (part_keep (lined lines) (pod_names pods) (pod_text pod.bytes) so_far.part)));
    each = subst (λ (l : List PodLine). AllByRecursion (IsPodLine old.process old.trace new.trace) l) (sym is)
        (all_both (IsPodLine old.process old.trace new.trace) lines (line ∷ []) (lines_within old.process old.trace old.trace mid.trace new.trace [] last (none_left old.trace) ends lines so_far.each)
        (line_within old.process old.trace mid.trace new.trace new.trace first [] begins (none_left new.trace) line (subst (λ (me : ℕ). IsPodLine me mid.trace new.trace line) same l), tt));
    gone = λ name there off. by name (parts name there) (front_off (has_name (lined lines) name) (bytes_eq (pod_text pod.bytes) name)
        (sym (has_push (lined lines) (pod_text pod.bytes) name) ∙ (ap (λ l. has_name l name) (sym (lined_push lines line ∙ ap (λ (p : PodId). lined lines ++ pod_text p.bytes ∷ []) of)) ∙ (ap (λ l. has_name (lined l) name) (sym is) ∙ off))));
  }
    where
      by : (name : List ℕ) → (has_name (pod_names pods) name ≡ true) ⊎ (bytes_eq (pod_text pod.bytes) name ≡ true) → (has_name (lined lines) name ≡ false) × (bytes_eq (pod_text pod.bytes) name ≡ false) → WasPhase old.process old.trace new.trace name None
      by name (inl h) off = gone_before name h off.0
      by name (inr h) off = clash (bytes_eq (pod_text pod.bytes) name) h off.1

-- the pods were found, and then each told of: that is a snapshot
pub snapshot : (pods : List PodId) (lines : List PodLine) (old mid new : DirAt) → mid.process ≡ old.process → (first last : List Event) → mid.trace ≡ old.trace ++ first → new.trace ≡ mid.trace ++ last → Rising (pod_names pods) → MissesGone old mid pods → TellsPods pods lines mid new → IsWeakSnapshot old.process old.trace new.trace lines
snapshot pods lines old mid new same first last begins ends rise misses tells = record {
  rise = part_sorted (lined lines) (pod_names pods) tells.part rise;
  each = lines_within old.process old.trace mid.trace new.trace new.trace first [] begins (sym (append-nil new.trace)) lines (subst (λ (me : ℕ). AllByRecursion (IsPodLine me mid.trace new.trace) lines) same tells.each);
  whole = λ name is there. by name is there (has_name (lined lines) name) refl;
}
  where
    nowhere : (name : List ℕ) → is_pod_name name ≡ true → has_name (lined lines) name ≡ false → (b : Bool) → has_name (pod_names pods) name ≡ b → WasPhase old.process old.trace new.trace name None
    nowhere name is off true e = phase_within old.process old.trace mid.trace new.trace new.trace first [] begins (sym (append-nil new.trace)) (subst (λ (me : ℕ). WasPhase me mid.trace new.trace name None) same (tells.gone name e off))
    nowhere name is off false e = phase_within old.process old.trace old.trace mid.trace new.trace [] last (sym (append-nil old.trace)) ends (misses name is e)

    by : (name : List ℕ) → is_pod_name name ≡ true → ExistsThroughout old.process old.trace new.trace name → (b : Bool) → has_name (lined lines) name ≡ b → has_name (lined lines) name ≡ true
    by name is there true e = e
    by name is there false e =
        let w = nowhere name is e (has_name (pod_names pods) name) refl in
        absurd (has_phase (pod_state name (w.before ++ w.step ∷ [])) (there w.before w.step w.later w.rest w.begins w.ends w.own) w.is)

-- a line was pushed, or none
pub line_added : (pod : PodId) (before after : List PodLine) (line : PodLine) (old new : DirAt) → after ≡ before ++ line ∷ [] → LineTells pod (Some line) old new → AddsPodLine pod before after old new
line_added pod before after line old new is tells = inr (line, is, tells.0, tells.1)

-- the same of the first so many pods
pub tells_taken : (pods : List PodId) (i : ℕ) (d : PodId) (lines after : List PodLine) (old mid new : DirAt) → mid.process ≡ old.process → (first last : List Event) → mid.trace ≡ old.trace ++ first → new.trace ≡ mid.trace ++ last → TellsPods (take i pods) lines old mid → i < length pods → AddsPodLine (get_or pods i d) lines after mid new → TellsPods (take (i + 1) pods) after old new
tells_taken pods i d lines after old mid new same first last begins ends so_far test adds =
    subst (λ (l : List PodId). TellsPods l after old new) (sym (take_more pods i d test))
    (tells_more (take i pods) (get_or pods i d) lines after old mid new same first last begins ends so_far adds)
