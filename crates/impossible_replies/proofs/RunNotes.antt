-- What a process has noted, it noted in a pod that had come to run, under the name of a note.
use Rattle.std.proofs.Common.{arith, ◌≡◌, ◌⊎◌, inl, inr, ◌≤◌, ℕ, Bool, true, false, ◌||◌, cond, bytes_eq, Option, Some, None, is_some, List, [], ◌∷◌, ◌++◌, refl, sym, ap, subst, ◌∙◌}
use Rattle.plain_laws.proofs.Booleans.{clash}
use Rattle.dir_model.specs.declared.area.Area.{Area}
use Rattle.dir_model.specs.declared.area.Area.TheVariants as area
use Rattle.dir_model.specs.declared.item.Inner.{Inner}
use Rattle.dir_model.specs.declared.event.Event.{Event}
use Rattle.dir_model.specs.declared.request.Request.{Request}
use Rattle.dir_model.specs.declared.request.Request.TheVariants.{MakeDirIn, MakeFileIn, AppendIn, ListArea, ListIn, SyncIn}
use Rattle.dir_model.specs.declared.request.Reply.{Reply}
use Rattle.dir_model.specs.declared.request.Reply.TheVariants.{Done, Names, Items, Refused}
use Rattle.dir_model.specs.Areas.{is_stage}
use Rattle.dir_model.specs.State.{folder_at}
use Rattle.dir_model.specs.Trace.{state_after}
use Rattle.dir_model.specs.Replies.{refused_in, make_refusal}
use Rattle.dir_model.specs.Calls.{is_begin, is_kill, is_foreign}
use Rattle.dir_model.proofs.Lists.{and_both}
use Rattle.dir_rules.specs.declared.seen.Seen.{Seen}
use Rattle.dir_rules.specs.Marks.{is_started_mark, is_status_file}
use Rattle.dir_rules.specs.Seen.{learned}
use Rattle.dir_rules.specs.Standing.{is_in, is_spot_of_pod}
use Rattle.dir_rules.specs.Conforms.{seen_of}
use Rattle.lifecycle.specs.declared.machine.PodState.{PodState}
use Rattle.lifecycle.specs.PodMachine.{pod_state, pod_state_next, is_area_of_state, pod_progress}
use Rattle.lifecycle.specs.Executions.{IsConforming}
use Rattle.lifecycle.proofs.Forward.{ages}
use Rattle.lifecycle.proofs.Invariant.{placed_age}
use Rattle.lifecycle.proofs.Lists.{In}
use Rattle.lifecycle.proofs.Opens.{found_pod}
use Rattle.lifecycle.proofs.Places.{same_name}
use Rattle.folder_contents.proofs.Along.{along, whose, foreign_same, own_next, pod_at}
use Rattle.folder_contents.proofs.Spots.{in_area}
use Rattle.impossible_replies.proofs.Alongside.{Steps, steps}
use Rattle.impossible_replies.proofs.Runners.{state_on}
use Rattle.impossible_replies.proofs.Unrefused.{is_plain, note_named, note_plain, done}

-- what a process notes in the pod that it runs
abbrev pub is_noted : List ℕ → Bool
is_noted path = is_started_mark path || is_status_file path

-- a note was made in a pod in run, under such a name
abbrev NotesOld : ℕ → List Event → Type 0
NotesOld p h = (inner : Inner) → In inner (seen_of p h).notes → (is_in area.Run inner.spot.area ≡ true) × ((5 ≤ pod_progress (pod_state inner.spot.name h)) × (is_plain inner.path ≡ true))

older : (u : List ℕ) (h : List Event) (e : Event) → 5 ≤ pod_progress (pod_state u h) → 5 ≤ pod_progress (pod_state u (h ++ e ∷ []))
older u h e l =
    let up : pod_progress (pod_state u h) ≤ pod_progress (pod_state_next u (state_after h).namespace (pod_state u h) e) = ages u (e ∷ []) (state_after h) (pod_state u h) in
    subst (λ (z : PodState). 5 ≤ pod_progress z) (sym (state_on u h e)) (omega (arith, l, up))

pub same_notes : (s : Seen) (request : Request) (reply : Reply) → (inner : Inner) → In inner (learned s request reply).notes →
    In inner s.notes ⊎ ((request ≡ MakeFileIn inner) × ((reply ≡ Done) × (is_in inner.spot.area area.Run ≡ true)))
same_notes s (MakeFileIn i) Done inner j = by (is_in i.spot.area area.Run) refl j
  where
    by : (b : Bool) → is_in i.spot.area area.Run ≡ b → In inner (cond b (i ∷ s.notes) s.notes) →
        In inner s.notes ⊎ ((MakeFileIn i ≡ MakeFileIn inner) × ((Done ≡ Done) × (is_in inner.spot.area area.Run ≡ true)))
    by true e (inl same) = inr (ap MakeFileIn (sym same), (refl, ap (λ (z : Inner). is_in z.spot.area area.Run) same ∙ e))
    by true e (inr k) = inl k
    by false e k = inl k
same_notes s request Done inner j = inl j
same_notes s (MakeDirIn i) (Refused e left) inner j = inl j
same_notes s (MakeFileIn i) (Refused e left) inner j = inl j
same_notes s (AppendIn i piece) (Refused e left) inner j = inl j
same_notes s (SyncIn i) (Refused e left) inner j = inl j
same_notes s request (Refused e left) inner j = inl j
same_notes s (ListIn i) (Items items) inner j = inl j
same_notes s request (Items items) inner j = inl j
same_notes s (ListArea a) (Names new) inner j = inl j
same_notes s request (Names new) inner j = inl j
same_notes s request reply inner j = inl j

run_area : (i : Inner) → is_in i.spot.area area.Run ≡ true → i.spot.area ≡ area.Run
run_area i e = in_area i.spot.area area.Run e

old_next : (p : ℕ) (h : List Event) (e : Event) → IsConforming (h ++ e ∷ []) → NotesOld p h → NotesOld p (h ++ e ∷ [])
old_next p h e c was inner j = by (whose p e)
  where
    kept : In inner (seen_of p h).notes → (is_in area.Run inner.spot.area ≡ true) × ((5 ≤ pod_progress (pod_state inner.spot.name (h ++ e ∷ []))) × (is_plain inner.path ≡ true))
    kept k = let y = was inner k in (y.0, (older inner.spot.name h e y.1.0, y.1.1))

    made : Steps h p (MakeFileIn inner) Done → is_in inner.spot.area area.Run ≡ true → (is_in area.Run inner.spot.area ≡ true) × ((5 ≤ pod_progress (pod_state inner.spot.name (h ++ e ∷ []))) × (is_plain inner.path ≡ true))
    made x run =
        let place = run_area inner run in
        let u = inner.spot.name in
        let there = stood (folder_at (state_after h).namespace inner.spot) (done h p (MakeFileIn inner) (note_plain h p inner place x.may) x.is) in
        let of : is_spot_of_pod u inner.spot ≡ true = and_both (is_stage inner.spot.area) (bytes_eq u u) (ap is_stage place) (same_name u u refl) in
        let found = (found_pod u (state_after h).namespace (pod_state u h) (pod_at u h x.conforming) inner.spot of there).0 in
        (ap (is_in area.Run) place, (older u h e (placed_age area.Run (pod_state u h) (subst (λ (a : Area). is_area_of_state a (pod_state u h) ≡ true) place found)), note_named h p inner place x.may))
      where
        stood : (o : Option ℕ) → refused_in (make_refusal inner.path) (state_after h).entries o ≡ None → is_some o ≡ true
        stood (Some k) e = refl
        stood None e = cc

    own : e.process ≡ p → is_kill e.request ≡ false → (b : Bool) → is_begin e.request ≡ b → In inner (learned (seen_of p h) e.request e.reply).notes →
        (is_in area.Run inner.spot.area ≡ true) × ((5 ≤ pod_progress (pod_state inner.spot.name (h ++ e ∷ []))) × (is_plain inner.path ≡ true))
    own is alive b on k = split b on (same_notes (seen_of p h) e.request e.reply inner k)
      where
        split : (b : Bool) → is_begin e.request ≡ b → In inner (seen_of p h).notes ⊎ ((e.request ≡ MakeFileIn inner) × ((e.reply ≡ Done) × (is_in inner.spot.area area.Run ≡ true))) →
            (is_in area.Run inner.spot.area ≡ true) × ((5 ≤ pod_progress (pod_state inner.spot.name (h ++ e ∷ []))) × (is_plain inner.path ≡ true))
        split b on (inl m) = kept m
        split true on (inr (asked, (ok, run))) = clash (is_begin e.request) on (ap is_begin asked)
        split false on (inr (asked, (ok, run))) =
            made (subst (λ (r : Reply). Steps h p (MakeFileIn inner) r) ok (subst (λ (r : Request). Steps h p r e.reply) asked
            (subst (λ (q : ℕ). Steps h q e.request e.reply) is (steps h e c alive on)))) run

    by : (is_foreign p e ≡ true) ⊎ ((is_foreign p e ≡ false) × ((e.process ≡ p) × (is_kill e.request ≡ false))) →
        (is_in area.Run inner.spot.area ≡ true) × ((5 ≤ pod_progress (pod_state inner.spot.name (h ++ e ∷ []))) × (is_plain inner.path ≡ true))
    by (inl f) = kept (subst (λ (s : Seen). In inner s.notes) (foreign_same p h e f) j)
    by (inr f) = own f.1.0 f.1.1 (is_begin e.request) refl (subst (λ (s : Seen). In inner s.notes) (own_next p h e f.0) j)

pub notes_old : (h : List Event) → IsConforming h → (p : ℕ) → NotesOld p h
notes_old h conforming p = along (NotesOld p) (λ inner i. absurd i) (λ h e c was. old_next p h e c was) h conforming
