-- Where no folder comes or goes meanwhile, exactly the pods that stood before have lines.
use Rattle.std.proofs.Common.{◌≡◌, inl, inr, ℕ, Bool, true, false, ◌||◌, bytes_eq, None, List, [], ◌∷◌, ◌++◌, refl, sym, ap, ◌∙◌, append_assoc}
use Rattle.std.specs.List.{list_any, flat_map, AllByRecursion}
use Rattle.std.proofs.lemmas.Slice.Eq.{bytes_eq-Decides}
use Rattle.dir_model.specs.declared.event.Event.{Event}
use Rattle.dir_model.specs.declared.pod.PodId.{PodId}
use Rattle.dir_model.specs.Areas.{is_stage}
use Rattle.dir_model.specs.Listings.{has_name}
use Rattle.dir_model.specs.State.{Namespace, stands}
use Rattle.dir_model.specs.Trace.{state_after}
use Rattle.dir_model.specs.Trees.{names_in}
use Rattle.dir_model.proofs.Lists.{and_both, and_left}
use Rattle.dir_trait.specs.DirCalls.{DirAt}
use Rattle.lifecycle.specs.PodMachine.{pod_state}
use Rattle.lifecycle.specs.Executions.{IsConforming}
use Rattle.lifecycle.specs.Ownership.{place_in}
use Rattle.lifecycle.specs.Readings.{WasPhase}
use Rattle.lifecycle.proofs.Phases.{stands_exists}
use Rattle.phase_read.specs.Read.{stages}
use Rattle.pod_lookup.specs.Pods.{pod_names, is_pod_name, pods_standing, NoFolderMoves}
use Rattle.pod_lookup.proofs.InOrder.{Rising, one_order}
use Rattle.pod_lookup.proofs.Names.{named_are}
use Rattle.pod_lookup.proofs.Shown.{conforms}
use Rattle.pod_report.specs.declared.line.PodLine.{PodLine}
use Rattle.pod_report.specs.Snapshot.{lined, IsSublist, TellsPods, LinesStanding}
use Rattle.pod_report.proofs.Telling.{part_sorted}
use Rattle.pod_lookup.proofs.Still.{stand_in}
use Rattle.pod_lookup.proofs.Existed.{has_phase}

pub any_with : {X : Type 0} (P : X → Type 0) (t : X → Bool) (xs : List X) → AllByRecursion P xs → list_any t xs ≡ true → (x : X) × P x × (t x ≡ true)
any_with P t [] all h = cc
any_with {X} P t (x ∷ xs) all h = by (t x) refl (λ k. any_with P t xs all.1 k) h
  where
    by : (b : Bool) → t x ≡ b → (list_any t xs ≡ true → (y : X) × P y × (t y ≡ true)) → (b || list_any t xs) ≡ true → (y : X) × P y × (t y ≡ true)
    by true e go h = (x, all.0, e)
    by false e go h = go h

pub all_stages : AllByRecursion (λ a. is_stage a ≡ true) stages
all_stages = (refl, (refl, (refl, (refl, (refl, (refl, tt))))))

pub in_part : (xs ys : List (List ℕ)) (name : List ℕ) → IsSublist xs ys → has_name xs name ≡ true → has_name ys name ≡ true
in_part xs [] name p h = ap (λ l. has_name l name) (sym p) ∙ h
in_part xs (y ∷ ys) name (inl p) h = later (bytes_eq y name) (in_part xs ys name p h)
  where
    later : (b : Bool) → has_name ys name ≡ true → (b || has_name ys name) ≡ true
    later true h = refl
    later false h = h
in_part xs (y ∷ ys) name (inr (rest, is, p)) h = by (bytes_eq y name) (λ k. in_part rest ys name p k) (ap (λ l. has_name l name) (sym is) ∙ h)
  where
    by : (b : Bool) → (has_name rest name ≡ true → has_name ys name ≡ true) → (b || has_name rest name) ≡ true → (b || has_name ys name) ≡ true
    by true go h = refl
    by false go h = go h

-- one of the pods that stand has a folder somewhere
pub standing_there : (n : Namespace) (name : List ℕ) → has_name (pod_names (pods_standing n)) name ≡ true → list_any (λ area. stands n (place_in name area)) stages ≡ true
standing_there n name h =
    let names : List (List ℕ) = flat_map (λ area. names_in area n.folders) stages in
    sym (stand_in n name stages) ∙ and_left (has_name names name) (is_pod_name name) (sym (named_are names name) ∙ h)

-- a pod that stood before exists at each own step
stands_on : (me : ℕ) (old mid new first : List Event) (name : List ℕ) → mid ≡ old ++ first → IsConforming new → NoFolderMoves old new → list_any (λ area. stands (state_after old).namespace (place_in name area)) stages ≡ true → WasPhase me mid new name None → ⊥
stands_on me old mid new first name begins conforming keeps there w =
    let X : List Event = w.before ++ w.step ∷ [] in
    let a = any_with (λ a. is_stage a ≡ true) (λ area. stands (state_after old).namespace (place_in name area)) stages all_stages there in
    let later : List Event = first ++ (w.later ++ w.step ∷ []) in
    let is : X ≡ old ++ later = ap (λ h. h ++ w.step ∷ []) (w.begins ∙ ap (λ h. h ++ w.later) begins) ∙ simp append_assoc in
    let same = keeps later w.rest (w.ends ∙ ap (λ h. h ++ w.rest) is) (place_in name a.0) in
    let here : stands (state_after X).namespace (place_in name a.0) ≡ true = ap (λ h. stands (state_after h).namespace (place_in name a.0)) is ∙ (same ∙ a.2) in
    let x = stands_exists name X (place_in name a.0) (conforms X new w.rest w.ends conforming) (and_both (is_stage a.0) (bytes_eq name name) a.1 ((bytes_eq-Decides name name).1 refl)) here in
    has_phase (pod_state name X) x.0 w.is

pub lines_standing : (pods : List PodId) (lines : List PodLine) (old mid new : DirAt) (first last : List Event) → mid.trace ≡ old.trace ++ first → new.trace ≡ mid.trace ++ last → IsConforming new.trace → Rising (pod_names pods) → (NoFolderMoves old.trace mid.trace → pods ≡ pods_standing (state_after old.trace).namespace) → TellsPods pods lines mid new → LinesStanding old new lines
lines_standing pods lines old mid new first last begins ends conforming rise standing tells keeps =
    one_order (lined lines) (pod_names pods) (part_sorted (lined lines) (pod_names pods) tells.part rise) rise (λ name. by name (has_name (lined lines) name) refl (has_name (pod_names pods) name) refl)
    ∙ ap pod_names are
  where
    before : NoFolderMoves old.trace mid.trace
    before later rest is = keeps later (rest ++ last) (ends ∙ (ap (λ h. h ++ last) is ∙ append_assoc (old.trace ++ later) rest last))

    are : pods ≡ pods_standing (state_after old.trace).namespace
    are = standing before

    by : (name : List ℕ) (h : Bool) → has_name (lined lines) name ≡ h → (b : Bool) → has_name (pod_names pods) name ≡ b → has_name (lined lines) name ≡ has_name (pod_names pods) name
    by name true h b e = h ∙ sym (in_part (lined lines) (pod_names pods) name tells.part h)
    by name false h false e = h ∙ sym e
    by name false h true e =
        absurd (stands_on mid.process old.trace mid.trace new.trace first name begins conforming keeps
        (standing_there (state_after old.trace).namespace name (ap (λ (l : List PodId). has_name (pod_names l) name) (sym are) ∙ e))
        (tells.gone name e h))
