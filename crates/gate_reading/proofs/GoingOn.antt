-- From what the calls of a process promised and what it knows, to the gate that it has.
use Rattle.std.proofs.Common.{◌≡◌, ℕ, Bool, true, false, not, ◌||◌, List, [], ◌∷◌, ◌++◌, append_assoc, append-nil, refl, sym, ap, subst, ◌∙◌}
use Rattle.std.specs.List.{AllByRecursion}
use Rattle.dir_model.specs.declared.area.Area.TheVariants.{Images}
use Rattle.dir_model.specs.declared.event.Event.{Event}
use Rattle.dir_model.specs.declared.request.Request.{Request}
use Rattle.dir_model.specs.declared.request.Request.TheVariants.{ReadIn, ListArea, ListIn}
use Rattle.dir_model.specs.declared.item.Inner.{Inner}
use Rattle.dir_model.specs.Listings.{is_listing_request}
use Rattle.dir_model.specs.State.{DirState, empty_state, lives}
use Rattle.dir_model.specs.Trace.{state_after}
use Rattle.dir_model.specs.Calls.{is_begin, is_foreign, Extends}
use Rattle.dir_model.proofs.Chains.{states_next-append}
use Rattle.dir_model.proofs.Lists.{and_left, and_right, not_true, all_left, all_right, all_weaker, or_map, same_rest}
use Rattle.dir_rules.specs.declared.seen.Seen.{Seen}
use Rattle.dir_rules.specs.Standing.{shares_area}
use Rattle.dir_rules.specs.Conforms.{seen_of, IsTied}
use Rattle.dir_laws.proofs.Living.{lived_first}
use Rattle.dir_trait.specs.DirCalls.{DirAt}
use Rattle.dir_files.specs.Reads.{reads_at}
use Rattle.folder_contents.specs.UnderGate.{keeps_handles, shares_images}
use Rattle.folder_contents.proofs.Along.{happens, conforming_to}
use Rattle.folder_contents.proofs.Known.{alive_at}
use Rattle.gate_reading.specs.Gate.{HasGate, goes_on, GoesOnUnderLock}
use Rattle.gate_reading.proofs.OwnSteps.{own_is}

asked_wider : (asks wider : Request → Bool) {me : ℕ} {old new : List Event} →
    ((request : Request) → asks request ≡ true → wider request ≡ true) → (e : Extends asks me old new) →
    AllByRecursion (λ x. (is_foreign me x || wider x.request) ≡ true) e.more
asked_wider asks wider {me} {old} {new} f e =
    all_weaker (λ x. (is_foreign me x || asks x.request) ≡ true) (λ x. (is_foreign me x || wider x.request) ≡ true)
    (λ x. or_map (is_foreign me x) (asks x.request) (wider x.request) (f x.request)) e.more e.asked

-- calls of which none gives up a handle
pub keeps_each : {asks : Request → Bool} {me : ℕ} {old new : List Event} →
    ((request : Request) → asks request ≡ true → keeps_handles request ≡ true) → (e : Extends asks me old new) →
    AllByRecursion (λ x. (is_foreign me x || keeps_handles x.request) ≡ true) e.more
keeps_each {asks} {me} {old} {new} f e = asked_wider asks keeps_handles f e

-- reads and listings are such calls
pub reads_go_on : (inner : Inner) (request : Request) → reads_at inner request ≡ true → goes_on request ≡ true
reads_go_on inner (ReadIn other at room) h = refl
reads_go_on inner request h = cc

pub listings_go_on : (request : Request) → is_listing_request request ≡ true → goes_on request ≡ true
listings_go_on (ListArea area) h = refl
listings_go_on (ListIn inner) h = refl
listings_go_on request h = cc

-- while a process lives, its events say what it knows of its locks
pub knows_standing : {p : ℕ} {trace : List Event} {s : Seen} → IsTied p trace s → lives (state_after trace).namespace p ≡ true →
    s.standing ≡ (seen_of p trace).standing
knows_standing {p} {trace} {s} t living = ap (λ (x : Seen). x.standing) (t.living living).same

pub knows_gate : {p : ℕ} {trace : List Event} {s : Seen} → IsTied p trace s → lives (state_after trace).namespace p ≡ true →
    shares_images s ≡ true → shares_images (seen_of p trace) ≡ true
knows_gate {p} {trace} {s} t living held = ap (shares_area Images) (sym (knows_standing t living)) ∙ held

module _ {asks : Request → Bool} {s : Seen} {old new : DirAt} (g : GoesOnUnderLock asks s old new) where
  abbrev pub Each : List Event → Type 0
  Each es = AllByRecursion (λ e. (is_foreign old.process e || goes_on e.request) ≡ true) es

  each_goes_on : Each g.extends.more
  each_goes_on = asked_wider asks goes_on g.each g.extends

  abbrev pub BeginsNever : List Event → Type 0
  BeginsNever es = AllByRecursion (λ e. (is_foreign old.process e || not (is_begin e.request)) ≡ true) es

  pub begins_never : BeginsNever g.extends.more
  begins_never = asked_wider asks (λ request. not (is_begin request)) (λ request a. and_left (not (is_begin request)) (keeps_handles request) (g.each request a)) g.extends

  -- who has an own step later lived at the first moment
  pub lived_at_first : (x rest : List Event) (step : Event) → new.trace ≡ ((old.trace ++ x) ++ step ∷ []) ++ rest →
      is_foreign old.process step ≡ false → lives (state_after old.trace).namespace old.process ≡ true
  lived_at_first x rest step split own =
      let whole : new.trace ≡ (old.trace ++ x) ++ step ∷ rest = split ∙ append_assoc (old.trace ++ x) (step ∷ []) rest in
      let parts : g.extends.more ≡ x ++ step ∷ rest = same_rest old.trace g.extends.more (x ++ step ∷ rest)
      (sym g.extends.grown ∙ (whole ∙ append_assoc old.trace x (step ∷ rest))) in
      let each : Each (x ++ step ∷ rest) = subst Each parts each_goes_on in
      let now = happens (old.trace ++ x) step (conforming_to new.trace (old.trace ++ x) step rest g.conforms whole) in
      let last : (is_foreign old.process step || goes_on step.request) ≡ true =
      (all_right (λ e. (is_foreign old.process e || goes_on e.request) ≡ true) x (step ∷ rest) each).0 in
      let on : goes_on step.request ≡ true = ap (λ b. b || goes_on step.request) (sym own) ∙ last in
      let begins : is_begin step.request ≡ false = not_true (is_begin step.request) (and_left (not (is_begin step.request)) (keeps_handles step.request) on) in
      let then : lives (state_after (old.trace ++ x)).namespace old.process ≡ true =
      subst (λ (q : ℕ). lives (state_after (old.trace ++ x)).namespace q ≡ true) (own_is old.process step own).0
      (alive_at (old.trace ++ x) step now begins) in
      lived_first old.process (state_after old.trace) x
      (all_left (λ e. (is_foreign old.process e || not (is_begin e.request)) ≡ true) x (step ∷ rest) (subst BeginsNever parts begins_never))
      (subst (λ (z : DirState). lives z.namespace old.process ≡ true) (states_next-append empty_state old.trace x) then)

  -- who lives at the first moment has the gate all along
  pub has_gate : lives (state_after old.trace).namespace old.process ≡ true → HasGate old.process old.trace g.extends.more
  has_gate living = record {
    shares = knows_gate g.tied living g.shares;
    keeps = keeps_each {asks = asks} (λ request a. and_right (not (is_begin request)) (keeps_handles request) (g.each request a)) g.extends;
  }

  pub whole_trace : new.trace ≡ (old.trace ++ g.extends.more) ++ []
  whole_trace = g.extends.grown ∙ sym (append-nil (old.trace ++ g.extends.more))
