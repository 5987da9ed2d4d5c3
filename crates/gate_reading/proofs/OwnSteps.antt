-- A process that has the gate lives at its own steps, and up to each of them images stay.
use Rattle.std.proofs.Common.{◌≡◌, ◌⊎◌, inl, inr, ℕ, Bool, true, false, not, ◌||◌, ◌==◌, cond, Some, List, [], ◌∷◌, ◌++◌, append_assoc, refl, sym, ap, subst, ◌∙◌}
use Rattle.std.specs.List.{list_any}
use Rattle.std.proofs.lemmas.Bool.{and_parts}
use Rattle.plain_laws.proofs.Booleans.{clash}
use Rattle.dir_model.specs.declared.area.Area.TheVariants.{Images}
use Rattle.dir_model.specs.declared.event.Event.{Event}
use Rattle.dir_model.specs.declared.spot.Spot.{Spot}
use Rattle.dir_model.specs.declared.request.Request.{Request}
use Rattle.dir_model.specs.declared.request.Request.TheVariants.{Open, OpenArea, Finish, Kill}
use Rattle.dir_model.specs.declared.request.Reply.{Reply}
use Rattle.dir_model.specs.declared.request.Reply.TheVariants.{Done, Opened}
use Rattle.dir_model.specs.State.{Namespace, DirState, empty_state, folder_at, has_begun, has_ended, lives}
use Rattle.dir_model.specs.Trace.{namespace_replied, state_after}
use Rattle.dir_model.specs.Calls.{is_begin, is_kill, is_foreign}
use Rattle.dir_model.proofs.Begun.{begun_stays}
use Rattle.dir_model.proofs.Chains.{states_next-append, state_after-push}
use Rattle.dir_model.proofs.Lists.{and_both, not_true}
use Rattle.dir_rules.specs.Standing.{is_in}
use Rattle.dir_rules.specs.Conforms.{seen_of}
use Rattle.lifecycle.specs.Executions.{IsConforming}
use Rattle.lifecycle.proofs.Lives.{begun_stays as begun_still}
use Rattle.lifecycle.proofs.Draws.{conforming_left}
use Rattle.folder_contents.specs.UnderGate.{keeps_handles, shares_images, KnowsAlong, StaysAlong}
use Rattle.folder_contents.proofs.Along.{Happens, one_of, happens, whose}
use Rattle.folder_contents.proofs.Known.{alive_at}
use Rattle.folder_contents.proofs.GateKept.{gate_is_kept, begun_holder}
use Rattle.folder_contents.proofs.UnderGate.{images_stay_shared}
use Rattle.gate_reading.specs.Gate.{HasGate}

-- a step that gives up no handle ends no process
ended_same : (n : Namespace) (p : ℕ) (request : Request) (reply : Reply) → keeps_handles request ≡ true → is_kill request ≡ false →
    (namespace_replied n p request reply).ended ≡ n.ended
ended_same n p Finish Done keeps alive = cc
ended_same n p Kill Done keeps alive = cc
ended_same n p request Done keeps alive = refl
ended_same n p (Open spot which) (Opened h) keeps alive = refl
ended_same n p (OpenArea area) (Opened h) keeps alive = refl
ended_same n p request (Opened h) keeps alive = refl
ended_same n p request reply keeps alive = refl

lives_on : (n : Namespace) (p q : ℕ) (request : Request) (reply : Reply) → keeps_handles request ≡ true → is_kill request ≡ false →
    lives n q ≡ true → lives (namespace_replied n p request reply) q ≡ true
lives_on n p q request reply keeps alive living =
    let x = and_parts (has_begun n q) (not (has_ended n q)) living in
    and_both (has_begun (namespace_replied n p request reply) q) (not (has_ended (namespace_replied n p request reply) q))
    (begun_still n p q request reply x.0)
    (ap (λ (l : List ℕ). not (list_any (λ r. r == q) l)) (ended_same n p request reply keeps alive) ∙ x.1)

-- an own event is by the process, and not its kill
pub own_is : (p : ℕ) (e : Event) → is_foreign p e ≡ false → (e.process ≡ p) × (is_kill e.request ≡ false)
own_is p e own = by (whose p e)
  where
    by : (is_foreign p e ≡ true) ⊎ ((is_foreign p e ≡ false) × ((e.process ≡ p) × (is_kill e.request ≡ false))) →
        (e.process ≡ p) × (is_kill e.request ≡ false)
    by (inl foreign) = clash (is_foreign p e) foreign own
    by (inr mine) = mine.1

-- who has begun doesn't begin
begins_once : (h : List Event) (e : Event) → Happens h e → has_begun (state_after h).namespace e.process ≡ true → is_begin e.request ≡ false
begins_once h e x begun = by (is_begin e.request) refl x.due
  where
    by : (b : Bool) → is_begin e.request ≡ b →
        cond b (not (has_begun (state_after h).namespace e.process)) (lives (state_after h).namespace e.process) ≡ true → b ≡ false
    by false is due = refl
    by true is due = clash (has_begun (state_after h).namespace e.process) begun
        (not_true (has_begun (state_after h).namespace e.process) due)

-- A stretch up to an own step.
module _ (trace : List Event) (conforming : IsConforming trace) (p : ℕ) (before x rest : List Event) (step : Event)
    (whole : trace ≡ ((before ++ x) ++ step ∷ []) ++ rest) (own : is_foreign p step ≡ false)
    (gate : HasGate p before (x ++ step ∷ [])) where
  up_to : trace ≡ (before ++ (x ++ step ∷ [])) ++ rest
  up_to = whole ∙ ap (λ (h : List Event). h ++ rest) (append_assoc before x (step ∷ []))

  now : Happens (before ++ x) step
  now = happens (before ++ x) step (conforming_left ((before ++ x) ++ step ∷ []) rest (subst (λ (h : List Event). IsConforming h) whole conforming))

  begun : has_begun (state_after (before ++ x)).namespace p ≡ true
  begun = subst (λ (s : DirState). has_begun s.namespace p ≡ true) (sym (states_next-append empty_state before x))
      (begun_stays p (state_after before) x
      (begun_holder before p (conforming_left before x now.conforming) gate.shares))

  keeps_last : keeps_handles step.request ≡ true
  keeps_last = ap (λ b. b || keeps_handles step.request) (sym own)
      ∙ one_of (λ e. (is_foreign p e || keeps_handles e.request) ≡ true) x step [] gate.keeps

  lives_then : lives (state_after (before ++ x)).namespace p ≡ true
  lives_then = subst (λ (q : ℕ). lives (state_after (before ++ x)).namespace q ≡ true) (own_is p step own).0
      (alive_at (before ++ x) step now (begins_once (before ++ x) step now
      (subst (λ (q : ℕ). has_begun (state_after (before ++ x)).namespace q ≡ true) (sym (own_is p step own).0) begun)))

  lives_after : lives (state_after (before ++ (x ++ step ∷ []))).namespace p ≡ true
  lives_after = subst (λ (h : List Event). lives (state_after h).namespace p ≡ true) (append_assoc before x (step ∷ []))
      (subst (λ (s : DirState). lives s.namespace p ≡ true) (sym (state_after-push (before ++ x) step))
      (lives_on (state_after (before ++ x)).namespace step.process p step.request step.reply keeps_last (own_is p step own).1 lives_then))

  -- it has the gate all along
  pub knows_to : KnowsAlong shares_images p before (x ++ step ∷ [])
  knows_to = gate_is_kept trace conforming p before (x ++ step ∷ []) rest up_to gate.shares lives_after gate.keeps

  -- from a moment in it on an image stays as it is
  pub stays_after : (u v : List Event) → x ++ step ∷ [] ≡ u ++ v → (spot : Spot) (folder : ℕ) → is_in Images spot.area ≡ true →
      folder_at (state_after (before ++ u)).namespace spot ≡ Some folder → StaysAlong (before ++ u) v spot folder
  stays_after u v split spot folder is at =
      images_stay_shared trace conforming p (before ++ u) v rest spot folder
      (up_to ∙ ap (λ (h : List Event). h ++ rest) (ap (λ (h : List Event). before ++ h) split ∙ sym (append_assoc before u v))) is
      (λ a b is_split. subst (λ (h : List Event). (lives (state_after h).namespace p ≡ true) × (shares_images (seen_of p h) ≡ true))
      (sym (append_assoc before u a))
      (knows_to (u ++ a) b (split ∙ (ap (λ (h : List Event). u ++ h) is_split ∙ sym (append_assoc u a b))))) at

  -- from its beginning on
  pub stays_to : (spot : Spot) (folder : ℕ) → is_in Images spot.area ≡ true →
      folder_at (state_after before).namespace spot ≡ Some folder → StaysAlong before (x ++ step ∷ []) spot folder
  stays_to spot folder is at =
      images_stay_shared trace conforming p before (x ++ step ∷ []) rest spot folder up_to is knows_to at
