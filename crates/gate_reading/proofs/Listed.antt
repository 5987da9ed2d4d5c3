-- A listing under the gate: what stands at each of its moments.
use Rattle.std.proofs.Common.{◌≡◌, ◌⊎◌, inl, inr, ℕ, true, false, ◌||◌, Some, List, [], ◌∷◌, ◌++◌, append_assoc, append-nil, refl, sym, ap, subst, ◌∙◌}
use Rattle.std.specs.List.{AllByRecursion}
use Rattle.dir_model.specs.declared.area.Area.TheVariants.{Images}
use Rattle.dir_model.specs.declared.event.Event.{Event}
use Rattle.dir_model.specs.declared.spot.Spot.{Spot}
use Rattle.dir_model.specs.declared.request.Request.{Request}
use Rattle.dir_model.specs.declared.request.Reply.{Reply}
use Rattle.dir_model.specs.State.{DirState, empty_state, folder_at}
use Rattle.dir_model.specs.Trace.{state_next, states_next, state_after}
use Rattle.dir_model.specs.Calls.{is_kill, is_foreign, event}
use Rattle.dir_model.proofs.Chains.{states_next-append}
use Rattle.dir_model.proofs.Lists.{same_rest, same_self}
use Rattle.dir_rules.specs.Standing.{is_in}
use Rattle.dir_laws.specs.Stretches.{Throughout, Sometime}
use Rattle.dir_files.specs.Listed.{Stretch}
use Rattle.lifecycle.specs.Executions.{IsConforming}
use Rattle.folder_contents.specs.Entries.{entries_in}
use Rattle.folder_contents.specs.UnderGate.{keeps_handles}
use Rattle.gate_reading.specs.Gate.{HasGate}
use Rattle.gate_reading.proofs.OwnSteps.{stays_after, stays_to}

-- what holds at each moment of a stretch
pub throughout : (P : DirState → Type 0) (s : DirState) (es : List Event) →
    ((a b : List Event) → es ≡ a ++ b → P (states_next s a)) → Throughout P s es
throughout P s [] each = each [] [] refl
throughout P s (e ∷ es) each =
    (each [] (e ∷ es) refl, throughout P (state_next s e) es (λ a b is. each (e ∷ a) b (ap (λ (l : List Event). e ∷ l) is)))

-- a moment of a stretch
pub record Moment (P : DirState → Type 0) (s : DirState) (es : List Event) : Type 0 where
  pub earlier : List Event
  pub later : List Event
  pub split : es ≡ earlier ++ later
  pub holds : P (states_next s earlier)

pub sometime : (P : DirState → Type 0) (s : DirState) (es : List Event) → Sometime P s es → Moment P s es
sometime P s [] h = record { earlier = []; later = []; split = refl; holds = h }
sometime P s (e ∷ es) h = by h (λ l. sometime P (state_next s e) es l)
  where
    by : P s ⊎ Sometime P (state_next s e) es → (Sometime P (state_next s e) es → Moment P (state_next s e) es) → Moment P s (e ∷ es)
    by (inl here) go = record { earlier = []; later = e ∷ es; split = refl; holds = here }
    by (inr there) go =
        let m = go there in
        record { earlier = e ∷ m.earlier; later = m.later; split = ap (λ (l : List Event). e ∷ l) m.split; holds = m.holds }

module _ (trace : List Event) (conforming : IsConforming trace) (p : ℕ) (before x y rest : List Event) (request : Request) (reply : Reply)
    (alive : is_kill request ≡ false) (whole : trace ≡ ((before ++ x) ++ y) ++ rest) (gate : HasGate p before (x ++ y))
    (st : Stretch p (before ++ x) ((before ++ x) ++ y) request reply) where
  abbrev last : Event
  last = event p request reply

  abbrev until : List Event
  until = x ++ (st.earlier ++ st.others)

  ends : (before ++ x) ++ y ≡ (before ++ until) ++ last ∷ []
  ends = st.ends ∙ (ap (λ (h : List Event). (h ++ st.others) ++ last ∷ []) st.begins ∙ simp append_assoc)

  steps : x ++ y ≡ until ++ last ∷ []
  steps = same_rest before (x ++ y) (until ++ last ∷ [])
      (sym (append_assoc before x y) ∙ (ends ∙ append_assoc before until (last ∷ [])))

  own : is_foreign p last ≡ false
  own = rw (same_self p) alive

  up_to : trace ≡ ((before ++ until) ++ last ∷ []) ++ rest
  up_to = whole ∙ ap (λ (h : List Event). h ++ rest) ends

  held : HasGate p before (until ++ last ∷ [])
  held = record {
    shares = gate.shares;
    keeps = subst (λ (l : List Event). AllByRecursion (λ e. (is_foreign p e || keeps_handles e.request) ≡ true) l) steps gate.keeps;
  }

  moment : (a : List Event) → states_next (state_after st.begun) a ≡ state_after (before ++ (x ++ (st.earlier ++ a)))
  moment a =
      let place : st.begun ++ a ≡ before ++ (x ++ (st.earlier ++ a)) =
      ap (λ (h : List Event). h ++ a) st.begins ∙ simp append_assoc in
      sym (states_next-append empty_state st.begun a) ∙ ap state_after place

  split : (a b : List Event) → st.others ≡ a ++ b → until ++ last ∷ [] ≡ (x ++ (st.earlier ++ a)) ++ (b ++ last ∷ [])
  split a b is = ap (λ (l : List Event). (x ++ (st.earlier ++ l)) ++ last ∷ []) is ∙ simp append_assoc

  -- an image that stood at the beginning stands at each moment of the listing, and holds the same
  pub stands_in : (spot : Spot) (folder : ℕ) → is_in Images spot.area ≡ true →
      folder_at (state_after before).namespace spot ≡ Some folder → (a b : List Event) → st.others ≡ a ++ b →
      (folder_at (states_next (state_after st.begun) a).namespace spot ≡ Some folder) ×
      (entries_in folder (states_next (state_after st.begun) a).entries ≡ entries_in folder (state_after before).entries)
  stands_in spot folder is at a b parts =
      subst (λ (s : DirState). (folder_at s.namespace spot ≡ Some folder) × (entries_in folder s.entries ≡ entries_in folder (state_after before).entries))
      (sym (moment a))
      (stays_to trace conforming p before until rest last up_to own held spot folder is at (x ++ (st.earlier ++ a)) (b ++ last ∷ [])
      (split a b parts))

  -- and one that stands at a moment of it stands at its end
  pub stands_then : (spot : Spot) (folder : ℕ) → is_in Images spot.area ≡ true → (a b : List Event) → st.others ≡ a ++ b →
      folder_at (states_next (state_after st.begun) a).namespace spot ≡ Some folder →
      folder_at (state_after ((before ++ x) ++ y)).namespace spot ≡ Some folder
  stands_then spot folder is a b parts at =
      let u = x ++ (st.earlier ++ a) in
      let v = b ++ last ∷ [] in
      let here = stays_after trace conforming p before until rest last up_to own held u v (split a b parts) spot folder is
      (subst (λ (s : DirState). folder_at s.namespace spot ≡ Some folder) (moment a) at) v [] (sym (append-nil v)) in
      let end : (before ++ u) ++ v ≡ (before ++ x) ++ y =
      append_assoc before u v
      ∙ (ap (λ (l : List Event). before ++ l) (sym (split a b parts)) ∙ (sym (append_assoc before until (last ∷ [])) ∙ sym ends)) in
      subst (λ (h : List Event). folder_at (state_after h).namespace spot ≡ Some folder) end here.0
