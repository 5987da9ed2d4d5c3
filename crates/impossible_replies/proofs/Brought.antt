-- Who owns a pod where it brought it began as one that makes pods, or starts them.
use Rattle.std.proofs.Common.{◌≡◌, ◌⊎◌, inl, inr, ℕ, Bool, true, false, not, ◌&&◌, ◌||◌, Option, Some, None, List, refl, sym, subst}
use Rattle.std.proofs.lemmas.Bool.{and_parts}
use Rattle.plain_laws.proofs.Booleans.{clash}
use Rattle.dir_model.specs.declared.area.Area.{Area}
use Rattle.dir_model.specs.declared.area.Area.TheVariants as area
use Rattle.dir_model.specs.declared.intent.Kind.{Kind}
use Rattle.dir_model.specs.declared.intent.Kind.TheVariants as kind
use Rattle.dir_model.specs.declared.event.Event.{Event}
use Rattle.dir_model.specs.declared.opening.Target.{Target}
use Rattle.dir_model.specs.declared.opening.Target.TheVariants.{Own, Claim, Gate}
use Rattle.dir_model.specs.declared.spot.Spot.{Spot}
use Rattle.dir_model.specs.State.{spot_eq}
use Rattle.dir_model.proofs.Lists.{and_left, and_right}
use Rattle.dir_rules.specs.declared.seen.Seen.{Seen}
use Rattle.dir_rules.specs.Seen.{makes_at}
use Rattle.dir_rules.specs.Standing.{is_in, is_garbage, is_spot_of_pod, intends, is_maker, is_remover, excludes_area, is_own_held, last_move_of}
use Rattle.dir_rules.specs.LockRules.{on_spot}
use Rattle.dir_rules.specs.Anomalies.{is_its_own, owns_at, is_brought, is_opened_at, knows_folder, is_store}
use Rattle.dir_rules.specs.Conforms.{seen_of}
use Rattle.lifecycle.specs.Executions.{IsConforming}
use Rattle.lifecycle.proofs.Lists.{In, any_in, find_in}
use Rattle.folder_contents.proofs.Spots.{one_location}
use Rattle.impossible_replies.proofs.Movers.{starts, moved_as}

pub no_starter : (k : Kind) → starts k ≡ true → is_remover k ≡ true → ⊥
no_starter kind.Run h j = cc
no_starter kind.RunPrepared h j = cc
no_starter k h j = cc

-- outside garbage and the store, what a process doesn't make is its own only if it owns it
pub owned_at : (s : Seen) (spot : Spot) → is_its_own s spot ≡ true → makes_at s.making spot ≡ false → is_garbage spot.area ≡ false → is_store spot.area ≡ false →
    owns_at s.standing spot ≡ true
owned_at s spot its stranger a b =
    pick (makes_at s.making spot) (is_garbage spot.area) (owns_at s.standing spot) (knows_folder s spot) (is_store spot.area) (excludes_area spot.area s.standing) stranger a b its
  where
    pick : (m g o k t c : Bool) → m ≡ false → g ≡ false → t ≡ false → (m || ((not g && o) || (k && ((g && o) || (t && c))))) ≡ true → o ≡ true
    pick false false true k false c e f j h = refl
    pick false false false true false c e f j h = cc
    pick false false false false false c e f j h = cc
    pick true g o k t c e f j h = cc
    pick m true o k t c e f j h = cc
    pick m g o k true c e f j h = cc

module _ (h : List Event) (p : ℕ) (conforming : IsConforming h) where
  abbrev s : Seen
  s = seen_of p h

  -- a process that owns a pod where it brought it began so
  pub brought_as : (spot : Spot) → owns_at s.standing spot ≡ true → is_garbage spot.area ≡ false →
      ((is_in area.Run spot.area ≡ true) × (intends (λ i. starts i.kind) s.standing.intent ≡ true)) ⊎
      ((is_in area.Prepare spot.area ≡ true) × (intends (λ i. is_maker i.kind) s.standing.intent ≡ true))
  brought_as spot owns off =
      let x = any_in (λ y. is_own_held spot.name y && (is_brought s.standing spot || is_opened_at spot y.target)) s.standing.holdings owns in
      let y = and_right (is_own_held spot.name x.0) (is_brought s.standing spot || is_opened_at spot x.0.target) x.1.1 in
      by (is_brought s.standing spot) refl x.0.target y
    where
      last : (o : Option Spot) → last_move_of spot.name s.standing.moves ≡ o → on_spot (spot_eq spot) o ≡ true → In spot s.standing.moves
      last None e h = cc
      last (Some z) e h = subst (λ (q : Spot). In q s.standing.moves) (sym (one_location spot z h)) (find_in (is_spot_of_pod spot.name) z s.standing.moves e).0

      moved : is_brought s.standing spot ≡ true → ((is_in area.Run spot.area ≡ true) × (intends (λ i. starts i.kind) s.standing.intent ≡ true)) ⊎
          ((is_in area.Prepare spot.area ≡ true) × (intends (λ i. is_maker i.kind) s.standing.intent ≡ true))
      moved b =
          let x = and_parts (is_in area.Prepare spot.area || is_in area.Run spot.area) (on_spot (spot_eq spot) (last_move_of spot.name s.standing.moves)) b in
          let i = last (last_move_of spot.name s.standing.moves) refl x.1 in
          on spot.area x.0 (λ place. (moved_as h conforming p).prepare spot i place) (λ place. (moved_as h conforming p).run spot i place)
        where
          on : (a : Area) → (is_in area.Prepare a || is_in area.Run a) ≡ true → (is_in area.Prepare a ≡ true → intends (λ i. is_maker i.kind) s.standing.intent ≡ true)
              → (is_in area.Run a ≡ true → intends (λ i. starts i.kind) s.standing.intent ≡ true)
              → ((is_in area.Run a ≡ true) × (intends (λ i. starts i.kind) s.standing.intent ≡ true)) ⊎
              ((is_in area.Prepare a ≡ true) × (intends (λ i. is_maker i.kind) s.standing.intent ≡ true))
          on area.Prepare q f g = inr (refl, f refl)
          on area.Run q f g = inl (refl, g refl)
          on a q f g = cc

      at : (t : Target) → is_opened_at spot t ≡ true → is_garbage spot.area ≡ true
      at (Own here) h = and_left (is_garbage spot.area) (spot_eq here spot) h
      at (Claim here) h = cc
      at (Gate a) h = cc

      by : (b : Bool) → is_brought s.standing spot ≡ b → (t : Target) → (b || is_opened_at spot t) ≡ true →
          ((is_in area.Run spot.area ≡ true) × (intends (λ i. starts i.kind) s.standing.intent ≡ true)) ⊎
          ((is_in area.Prepare spot.area ≡ true) × (intends (λ i. is_maker i.kind) s.standing.intent ≡ true))
      by true e t h = moved e
      by false e t h = clash (is_garbage spot.area) (at t h) off
